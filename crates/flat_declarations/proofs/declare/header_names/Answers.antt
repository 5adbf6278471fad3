use Rattle.std.proofs.Common.{◌≡◌, ◌<◌, ◌==◌, true, false, cond, Result, Ok, Err, length, get_or, ap, sym, subst, ◌∙◌, rules}
use Rattle.std.specs.Prelude.{is_err, OnOk}
use Rattle.std.specs.Cmp.Lexicographic.{pointwise}
use Rattle.indexmap.specs.IndexSet.{contains_by}
use Rattle.flat_declarations.proofs.Headers.{more-header}
use Rattle.flat_declarations.proofs.declare.header_names.Goals as goal
use Rattle.flat_declarations.proofs.declare.header_names.Goals.{else-not-module-via-then-not-module+else-contains, else-not-module-via-else-not-module}

on-ok : {A E P : Type 0} (r : Result A E) → is_err r ≡ false → OnOk r P → P
on-ok (Ok a) e h = h
on-ok (Err x) e h = absurd (search (rules, e))

pub loop-port-preserved : goal.loop-port-preserved
loop-port-preserved c =
    let m = c.args.module.now in let x = c.port-item.result in let i = c.loop-port.port-index in let at = c.as_slice-port-items.ensures in let old = c.loop-port.header in
    let put = on-ok c.insert.result (sym c.is_err.ensures.value ∙ c.if-is_err.false) c.insert.ensures.updates in
    more-header m i x old c.insert.new.self (subst (λ xs. i < length xs) at c.loop-port-test.true) (subst (λ xs. x ≡ get_or xs i x) at c.port-item.is) c.loop-port.invariant
    (λ plain. elim c.else-not-module.branch [
      | else-not-module-via-then-not-module+else-contains w ↦ let a = w.contains.ensures in let b = w.if-contains.false in sym a ∙ b
      | else-not-module-via-else-not-module w ↦ let b = w.if-not-module.false in absurd (search (rules, plain, b))
    ])
    (λ y. put.0 y ∙ ap (λ z. cond (pointwise ◌==◌ z y) true (contains_by (pointwise ◌==◌ y) old)) c.in_ok-name.ensures)
