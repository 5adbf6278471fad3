use Rattle.std.proofs.Common.{ℕ, map, Some, Vec, Global, sym, ap, ◌∙◌}
use Rattle.std.specs.Prelude.{option_map}
use Rattle.verilog_reading.specs.ExprTree.{tree_of}
use Rattle.verilog_reading.specs.StmtTree.{arms_of}
use Rattle.flat_statements.specs.Statements.{arm_tree_of}
use Rattle.flat_process.specs.Resets.{items_if}
use Rattle.flat_process.proofs.TestedResets.{no-item, an-item}
use Rattle.flat_process.proofs.tested.item_tested.Goals as goal

pub returns-in_default : goal.returns-in_default
returns-in_default c = λ l h fit e f. no-item l (tree_of c.args.subject.now) (arms_of (map arm_tree_of c.args.items.now)) (ap (option_map (λ (v : Vec ℕ Global). v.items)) (sym c.in_default.is) ∙ c.in_ok-signals.ensures l h)

pub returns : goal.returns
returns c = λ l h fit e f.
    an-item l (tree_of c.args.subject.now) (arms_of (map arm_tree_of c.args.items.now)) (Some c.in-Some.signals.items) (items_if c.in_ok-inactive.inactive) (items_if c.in_ok-active.active) _ (c.tested_with.ensures l)
    (ap (option_map (λ (v : Vec ℕ Global). v.items)) (sym c.in-Some.is) ∙ c.in_ok-signals.ensures l h) (c.in_ok-inactive.ensures l h fit e f) (c.in_ok-active.ensures l h fit e f)
