use Rattle.std.proofs.Common.{◌≡◌, ◌==◌, cond, true, drop}
use Rattle.std.specs.Cmp.Lexicographic.{pointwise}
use Rattle.indexmap.specs.IndexSet.{contains_by}
use Rattle.cdc_base.specs.Words.{is_in}
use Rattle.flat_unfolding.specs.Outcome.{Text}
use Rattle.flat_design.proofs.instance.name_set.Given as goal

abbrev pub invariant-loop-name : goal.invariant-loop-name
invariant-loop-name l = (x : Text) → cond (contains_by (pointwise ◌==◌ x) l.set) true (is_in (drop l.name-index l.names) x) ≡ is_in l.names x
