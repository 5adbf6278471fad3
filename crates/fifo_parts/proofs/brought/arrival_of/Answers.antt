-- The flops of the synchronizer.
use Rattle.std.proofs.Common.{◌∙◌, ap, subst, option_map, length, Bor}
use Rattle.cdc_model.specs.declared.scheme.Sync.{Sync as SyncEntry}
use Rattle.cdc_model.specs.Nets.{design_of}
use Rattle.fifo_laws.specs.Sides.{syncs_on}
use Rattle.fifo_parts.specs.Brought.{IsOnly}
use Rattle.fifo_parts.specs.Sides.{AllStartAtZero}
use Rattle.fifo_parts.proofs.Over.{last_is}
use Rattle.fifo_parts.proofs.brought.arrival_of.Goals as goal

pub returns : goal.returns
returns c = λ meant e are.
    let ss = syncs_on (design_of c.args.net.now c.args.domains.now) meant c.args.clock c.args.from in
    let h = subst (λ o. IsOnly ss (option_map (λ (s : Bor SyncEntry). s.now) o)) c.in_ok-sync.was (c.only.ensures meant e are) in
    let m = c.as_slice-flops.ensures ∙ ap (λ (x : SyncEntry). x.flops) h.2 in (
      h.0,
      h.1,
      subst (AllStartAtZero c.args.net.now.graph.signals) m (c.start_at_zero.ensures.0 c.if-not-start_at_zero.false),
      last_is c.in_ok-last.last.now c.as_slice-flops.result.now h.0 c.in_ok-last.ensures.value m,
      ap length m,
    )
