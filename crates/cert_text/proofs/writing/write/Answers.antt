use Rattle.std.proofs.Common.{◌∙◌, ◌++◌, ◌∷◌, [], map, ap}
use Rattle.std.specs.Prelude.{codes}
use Rattle.report.specs.VerdictText.{ended, gray_line}
use Rattle.report.proofs.Lines.{ended-next}
use Rattle.cert_text.specs.Texts.{fifo_line, head_line, load_line, ring_line, sync_line}
use Rattle.cert_text.proofs.Entries.{lines_are}
use Rattle.cert_text.proofs.writing.write.Goals as goal

pub returns : goal.returns
returns c =
    let signals = c.args.net.now.graph.signals in
    let k = c.args.certificate.now in
    let head = head_line ∷ [] in
    let syncs = map (sync_line signals) k.syncs in
    let grays = map (gray_line signals) k.grays in
    let rings = map (ring_line signals) k.rings in
    let loads = map (load_line signals) k.loads in
    let fifos = map (fifo_line signals) k.fifos in
    c.into_list.ensures ∙ ended-next c.add_fifos.new.text c.add-2.new.self (((((head ++ syncs) ++ grays) ++ rings) ++ loads) ++ fifos) (codes "end" ∷ [])
    (ended-next c.add_loads.new.text c.add_fifos.new.text ((((head ++ syncs) ++ grays) ++ rings) ++ loads) fifos
    (ended-next c.add_rings.new.text c.add_loads.new.text (((head ++ syncs) ++ grays) ++ rings) loads
    (ended-next c.add_grays.new.text c.add_rings.new.text ((head ++ syncs) ++ grays) rings
    (ended-next c.add_syncs.new.text c.add_grays.new.text (head ++ syncs) grays
    (ended-next c.add.new.self c.add_syncs.new.text head syncs
    (c.in_ok-add.ensures ∙ ap (λ t. t ++ ended (head_line ∷ [])) c.new-text.ensures)
    (c.in_ok-add_syncs.ensures ∙ ap (λ xs. c.add.new.self ++ ended (map (sync_line signals) xs)) c.as_slice.ensures))
    (c.in_ok-add_grays.ensures ∙ ap (λ xs. c.add_syncs.new.text ++ ended (map (gray_line signals) xs)) c.as_slice-2.ensures))
    (c.in_ok-add_rings.ensures ∙ ap (λ xs. c.add_grays.new.text ++ ended (map (ring_line signals) xs)) c.as_slice-3.ensures))
    (c.in_ok-add_loads.ensures ∙ ap (λ xs. c.add_rings.new.text ++ ended (map (load_line signals) xs)) c.as_slice-4.ensures))
    (c.in_ok-add_fifos.ensures ∙ ap (λ xs. c.add_loads.new.text ++ ended (map (fifo_line signals) xs)) c.as_slice-5.ensures))
    c.in_ok-add-2.ensures
    ∙ ap ended (lines_are signals k)
