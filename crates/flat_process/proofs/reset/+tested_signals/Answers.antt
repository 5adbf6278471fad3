use Rattle.std.proofs.Common.{◌≡◌, ℕ, true, None, Vec, Global, refl, sym, ap, ap₂, subst, ◌∙◌}
use Rattle.std.specs.Prelude.{option_map}
use Rattle.verilog_ast.specs.declared.Expr.{Expr}
use Rattle.verilog_reading.specs.ExprTree.{tree_of}
use Rattle.flat_unfolding.specs.Resets.{reset_signals, is_or, both_signals, tested_signals}
use Rattle.flat_unfolding.specs.Formed.{IsFormed}
use Rattle.flat_names.proofs.Options.{ok-map}
use Rattle.flat_names.proofs.Trees.{tree-binary}
use Rattle.flat_process.proofs.ResetSignals.{tested-both}
use Rattle.flat_process.proofs.reset.+tested_signals.Goals as goal

formed-at : (x y : Expr) → x ≡ y → IsFormed (tree_of y) → IsFormed (tree_of x)
formed-at x y e h = subst (λ (z : Expr). IsFormed (tree_of z)) (sym e) h

pub returns-in_ok-right-in-Binary : goal.returns-in_ok-right-in-Binary
returns-in_ok-right-in-Binary m c = λ l shows fit formed.
    let i = c.in-Binary in
    let a = tree_of i.a.value in
    let b = tree_of i.b.value in
    let t = tree_of c.args.cond.now in
    let tree = tree-binary c.args.cond.now i.op i.a i.b i.a.value i.b.value i.is refl refl in
    let parts = subst IsFormed tree formed in
    let none : None ≡ reset_signals l t = ap (option_map (λ (v : Vec ℕ Global). v.items)) (sym c.in_default-2.is) ∙ c.in_ok-signals-in-Binary.ensures l shows fit formed in
    let or : true ≡ is_or l i.op a b = sym c.if-not-branch.false ∙ c.in_ok-is_or-in-Binary.ensures l shows fit (formed-at c.deref-in-Binary.result.now i.a.value c.deref-in-Binary.ensures parts.0) (formed-at c.deref-in-Binary-2.result.now i.b.value c.deref-in-Binary-2.ensures parts.1)
    ∙ ap₂ (λ (x y : Expr). is_or l i.op (tree_of x) (tree_of y)) c.deref-in-Binary.ensures c.deref-in-Binary-2.ensures in
    let left = c.in_ok-left-in-Binary.ensures l shows fit (formed-at c.deref-in-Binary-3.result.now i.a.value c.deref-in-Binary-3.ensures parts.0) ∙ ap (λ (x : Expr). tested_signals l (tree_of x)) c.deref-in-Binary-3.ensures in
    let right = c.in_ok-right-in-Binary.ensures l shows fit (formed-at c.deref-in-Binary-4.result.now i.b.value c.deref-in-Binary-4.ensures parts.1) ∙ ap (λ (x : Expr). tested_signals l (tree_of x)) c.deref-in-Binary-4.ensures in
    ok-map c.both_signals.result (λ o h. tested-both l t i.op a b tree (option_map (λ (v : Vec ℕ Global). v.items) o) none or (h ∙ ap₂ (both_signals l) left right)) (c.both_signals.ensures l)
