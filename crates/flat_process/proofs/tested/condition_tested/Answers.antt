use Rattle.std.proofs.Common.{ℕ, Vec, Global, sym, ap, ◌∙◌}
use Rattle.std.specs.Prelude.{option_map}
use Rattle.verilog_reading.specs.ExprTree.{tree_of}
use Rattle.flat_process.proofs.TestedResets.{tests-none, tests-some}
use Rattle.flat_process.proofs.tested.condition_tested.Goals as goal

pub returns-in_default : goal.returns-in_default
returns-in_default c = λ l h fit formed. tests-none l (tree_of c.args.cond.now) (ap (option_map (λ (v : Vec ℕ Global). v.items)) (sym c.in_default.is) ∙ c.in_ok-signals.ensures l h fit formed)

pub returns : goal.returns
returns c = λ l h fit formed.
    tests-some l (tree_of c.args.cond.now) c.in-Some.signals.items _ _ (ap (option_map (λ (v : Vec ℕ Global). v.items)) (sym c.in-Some.is) ∙ c.in_ok-signals.ensures l h fit formed) c.is_some-is_alone.ensures (c.in_ok-reset_signals.ensures l h fit formed)
