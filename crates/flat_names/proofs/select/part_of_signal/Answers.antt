use Rattle.std.proofs.Common.{◌≡◌, ◌≤◌, false, Some, sym, ap, subst, ◌∙◌}
use Rattle.std.specs.Prelude.{option_map}
use Rattle.flat_unfolding.specs.Names.{a_signal, range_at, width_of}
use Rattle.flat_unfolding.specs.Expressions.{Select}
use Rattle.flat_names.specs.Looks.{range_of}
use Rattle.flat_names.specs.Noting.{all_noted}
use Rattle.flat_names.specs.Selects.{part_at, part_in, part_notes, select_of}
use Rattle.flat_names.proofs.Looked.{range-is}
use Rattle.flat_names.proofs.Selected.{select-as, sound_as, some-map, signal-range, read-stands, part-word, part-signal-hit, part-signal-missed}
use Rattle.flat_names.proofs.select.part_of_signal.Goals as goal

pub returns-in-Some : goal.returns-in-Some
returns-in-Some c = λ l bs h f i b.
    let k = c.args.look.now in let sig = c.args.sig in let o = option_map range_of c.args.part in let x = c.args.name.now in let old = c.args.faults.now in
    let part : Select = record { at = c.in-Some.at; bits = c.in-Some.width } in
    let r : option_map range_of c.bounds.result ≡ range_at l.entries sig = ap (option_map range_of) c.bounds.ensures ∙ range-is k l h sig in
    let g = c.in_ok-at.ensures (subst (λ q. width_of q ≤ 64) (sym r) (signal-range l f sig)) in
    let e = ap (option_map select_of) (sym c.in-Some.is) ∙ g.0 ∙ ap (λ q. part_in q c.args.kind o) r in
    let w = part-word l x c.args.kind bs old (range_at l.entries sig) o part (signal-range l f sig) e in
    select-as bs (part_at l x c.args.kind o (Some (a_signal sig))) old c.part_within.new.faults (all_noted old (part_notes x (range_at l.entries sig) c.args.kind o)) c.variable.result (sound_as c.read.result false) (g.1 ∙ ap (λ q. all_noted old (part_notes x q c.args.kind o)) r) c.variable.ensures
    (part-signal-hit l x c.args.kind bs old sig o part c.read.result (b ∙ some-map range_of c.args.part) e (read-stands k l sig c.in-Some.at c.in-Some.width c.read.result h w c.read.ensures))

pub returns-in-None : goal.returns-in-None
returns-in-None c = λ l bs h f i b.
    let k = c.args.look.now in let sig = c.args.sig in let o = option_map range_of c.args.part in let x = c.args.name.now in let old = c.args.faults.now in
    let r : option_map range_of c.bounds.result ≡ range_at l.entries sig = ap (option_map range_of) c.bounds.ensures ∙ range-is k l h sig in
    let g = c.in_ok-at.ensures (subst (λ q. width_of q ≤ 64) (sym r) (signal-range l f sig)) in
    let e = ap (option_map select_of) (sym c.in-None.is) ∙ g.0 ∙ ap (λ q. part_in q c.args.kind o) r in
    select-as bs (part_at l x c.args.kind o (Some (a_signal sig))) old c.part_within.new.faults (all_noted old (part_notes x (range_at l.entries sig) c.args.kind o)) c.broken.result _ (g.1 ∙ ap (λ q. all_noted old (part_notes x q c.args.kind o)) r) c.broken.ensures
    (part-signal-missed l x c.args.kind bs old sig o c.nothing.result (b ∙ some-map range_of c.args.part) e c.nothing.ensures)
