use Rattle.std.proofs.Common.{◌≡◌, ◌==◌, ◌+◌, ◌||◌, ◌∷◌, List, drop, sym, ap, ◌∙◌}
use Rattle.std.specs.Prelude.{bytes_eq}
use Rattle.std.specs.List.{list_any}
use Rattle.std.specs.Cmp.Lexicographic.{pointwise}
use Rattle.std.proofs.lemmas.List.{drop_more, drop_all}
use Rattle.std.proofs.Math.Bool.{or-false}
use Rattle.indexmap.specs.IndexSet.{contains_by}
use Rattle.cdc_base.specs.declared.signal.ResetPin.{ResetPin}
use Rattle.flat_design.proofs.Libraries.{ok-holds}
use Rattle.flat_design.proofs.FreeSignals.{next-named}
use Rattle.flat_design.proofs.free.all_names.Goals as goal

pub loop-pin-preserved : goal.loop-pin-preserved
loop-pin-preserved c = λ x.
    let all = c.args.pins.now in let k = c.loop-pin.pin-index in let p = c.pin-item.result in
    let next : drop k all ≡ p ∷ drop (k + 1) all = drop_more all k p c.loop-pin-test.true
    ∙ ap (λ (z : ResetPin). z ∷ drop (k + 1) all) (sym c.pin-item.is) in
    let u = ok-holds c.insert.result c.if-is_err.ensures.negation c.insert.ensures.updates in
    next-named c.loop-pin.names c.insert.new.self c.in_ok-copy.field-0 p (drop (k + 1) all) (drop k all) next c.in_ok-copy.ensures u.0 x
    ∙ c.loop-pin.invariant x

pub returns : goal.returns
returns c = λ x.
    let all = c.args.pins.now in let has = contains_by (pointwise ◌==◌ x) c.loop-pin.names in
    sym (or-false has) ∙ ap (λ (ps : List ResetPin). has || list_any (λ (r : ResetPin). bytes_eq r.name x) ps)
    (sym (drop_all c.loop-pin.pin-index all c.loop-pin-test.false)) ∙ c.loop-pin.invariant x
