-- The FIFOs that were found fit the verdict that was made with them.
use Rattle.std.proofs.Common.{◌≡◌, ◌∙◌, Bool, List, [], map, ap, sym, subst}
use Rattle.cdc_base.specs.declared.bit.Bit.{Bit}
use Rattle.cdc_model.specs.declared.scheme.GrayReg.{GrayReg}
use Rattle.cdc_model.specs.declared.scheme.Sync.{Sync as SyncEntry}
use Rattle.cdc_model.specs.Nets.{design_of, next_tree}
use Rattle.cdc_model.specs.Schemes.{Sync}
use Rattle.cdc_model.specs.Syncs.{syncs_of}
use Rattle.cdc_model.specs.Tables.{ShowsNet}
use Rattle.fifo_laws.specs.Laws.{AreLists}
use Rattle.fifo_scheme.specs.Found.{HasOrder, IsFoundFor, is_listed}
use Rattle.fifo_scheme.specs.Given.{AreGiven}
use Rattle.net_verdict.specs.Fifos.{AreFifosOf}
use Rattle.net_verdict.specs.Judged.{pair_of}
use Rattle.net_verdict.specs.Verdicts.{IsVerdictOn}
use Rattle.net_verdict.proofs.Judging.{given, in_order, lists, of_fifos, same_grays, same_syncs, shown_by}
use Rattle.net_verdict.proofs.judged_by.Goals as goal

pub returns : goal.returns
returns c = λ can are shows.
    let net = c.args.net.now in
    let domains = c.args.domains.now in
    let d = design_of net domains in
    let syncs = syncs_of net domains in
    let schemes = c.args.schemes.now in
    let found = c.in_ok-fifos.fifos in
    let extra = is_listed found.crossings in
    let e = c.in_ok-verdict.verdict in
    let shows-3 = subst (ShowsNet net []) (sym c.fifos_with.ensures.unchanged) shows in
    let w = c.in_ok-verdict.ensures.exact can are shows-3 in
    let t = shown_by net domains can schemes are extra e w in
    let is_given = subst (λ (entries : List SyncEntry). AreGiven net domains entries syncs) (sym c.as_slice.ensures) (given net domains can schemes are) in
    let are_lists = subst (λ (grays : List GrayReg). AreLists d (next_tree net) t syncs grays) (sym c.as_slice-2.ensures) (lists net domains can schemes are extra e w) in
    let grays = c.as_slice-2.ensures ∙ same_grays net domains can schemes are extra e w in
    let fits = subst (λ (ss : List Sync). IsFoundFor found d t ss e.grays) (same_syncs net domains can schemes are extra e w)
    (subst (λ (gs : List GrayReg). IsFoundFor found d t syncs gs) grays (c.in_ok-fifos.ensures.fits syncs t is_given shows are_lists)) in
    let on : IsVerdictOn extra net domains e = record {
      exact = w;
      sound = c.in_ok-verdict.ensures.sound can w fits;
      together = c.in_ok-verdict.ensures.together can w fits;
    } in
    record {
      fifos = found.fifos;
      are_fifos = subst (λ (gs : List GrayReg). AreFifosOf net domains gs found.fifos) grays (c.in_ok-fifos.ensures.exact syncs t is_given shows are_lists);
      on = subst (λ (x : Bit → Bit → Bool). IsVerdictOn x net domains e) (of_fifos found.fifos found.crossings c.in_ok-fifos.ensures.guards) on;
      in_order = λ none f i. in_order net domains can schemes are extra e w (c.clean_nets_run_soundly.ensures net domains e can.fits w fits none) f
          (subst (λ (gs : List GrayReg). HasOrder net domains syncs gs w.verdict.rings f) c.as_slice-2.ensures
          (c.in_ok-fifos.ensures.order syncs t is_given shows are_lists w.verdict.rings f i));
      counts_are = c.in_ok-counts.ensures ∙ ap (map pair_of) c.as_slice-3.ensures;
      lines_are = c.in_ok-lines.ensures;
    }
