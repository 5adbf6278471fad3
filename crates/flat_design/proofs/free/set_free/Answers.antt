use Rattle.std.proofs.Common.{◌+◌, false, get_or, refl, sym, subst, Vec, Global}
use Rattle.std.proofs.lemmas.Option.{slice_get-get_or}
use Rattle.cdc_base.specs.declared.signal.Signal.{Signal}
use Rattle.flat_design.proofs.FreeSignals.{IsFreeSoFar, none-free, all-free, next-free, next-driven}
use Rattle.flat_design.proofs.free.set_free.Goals as goal
use Rattle.flat_design.proofs.free.set_free.Goals.{then-not-is_driven, else-not-is_driven}

pub loop-sig-init : goal.loop-sig-init
loop-sig-init c = none-free c.args.names.now c.args.driven.now c.args.signals.now.items

pub loop-sig-preserved : goal.loop-sig-preserved
loop-sig-preserved c =
    let names = c.args.names.now in let driven = c.args.driven.now in let first = c.args.signals.now.items in
    let k = c.loop-sig.sig in let old = c.loop-sig.signals.items in let b = get_or driven k false in
    let at = slice_get-get_or driven k false c.loop-sig-test.true in
    elim c.if-not-is_driven.branch [
      | then-not-is_driven w ↦ subst (λ (v : Vec Signal Global). IsFreeSoFar names driven (k + 1) first v.items) (sym w.signals-is)
          (next-free names driven first k b at old w.set_named.new.signals.items c.loop-sig.invariant w.if-not-is_driven.true w.set_named.ensures)
      | else-not-is_driven w ↦ subst (λ (v : Vec Signal Global). IsFreeSoFar names driven (k + 1) first v.items) (sym w.signals-is)
          (next-driven names driven first k b at old old c.loop-sig.invariant w.if-not-is_driven.false refl)
    ]

pub returns : goal.returns
returns c =
    all-free c.args.names.now c.args.driven.now c.args.signals.now.items c.loop-sig.sig c.loop-sig.signals.items
    c.loop-sig-test.false c.loop-sig.invariant
