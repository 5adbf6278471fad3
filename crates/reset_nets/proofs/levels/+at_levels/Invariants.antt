use Rattle.std.proofs.Common.{◌≡◌, ◌++◌, map, drop}
use Rattle.flat_form.specs.declared.flat.FExpr.{FExpr}
use Rattle.flat_form.specs.View.{expr_of}
use Rattle.flat_form.specs.Sizes.{kept_of}
use Rattle.reset_nets.specs.Nets.{with_levels}
use Rattle.reset_nets.specs.Finding.{known_in, levels_at}
use Rattle.reset_nets.proofs.levels.+at_levels.Given as goal

abbrev pub invariant-all_at_levels-loop-expr : goal.invariant-all_at_levels-loop-expr
invariant-all_at_levels-loop-expr l = record {
  levels : map expr_of l.all.items ++ map (λ (x : FExpr). with_levels (levels_at l.active (known_in l.levels)) (expr_of x)) (drop l.expr-index l.exprs)
      ≡ map (λ (x : FExpr). with_levels (levels_at l.active (known_in l.levels)) (expr_of x)) l.exprs;
  kept : map kept_of l.all.items ++ map kept_of (drop l.expr-index l.exprs) ≡ map kept_of l.exprs;
}
