use Rattle.std.proofs.Common.{◌≡◌, ℕ, ◌≤◌, ◌++◌, List, All, Some, map, drop, slice_get}
use Rattle.cdc_base.specs.declared.signal.Signal.{Signal}
use Rattle.cell_graph.specs.Nets.{register_signals}
use Rattle.flat_meaning.specs.Flat.{Stmt}
use Rattle.flat_meaning.specs.Law.{AreWords}
use Rattle.flat_meaning.specs.Design.{width_in}
use Rattle.driver_trees.specs.declared.sketch.Register.{Register}
use Rattle.driver_trees.specs.Drafts.{AreDrafts}
use Rattle.driver_trees.specs.Growth.{Grows}
use Rattle.driver_trees.specs.Sketched.{next_in, clock_in, AreNexts, IsRegisterOf}
use Rattle.driver_trees.proofs.sketch.registers.Given as goal

-- the registers so far and those of the signals that are left are all
abbrev pub invariant-loop-place : goal.invariant-loop-place
invariant-loop-place l =
    (map (λ (r : Register). r.sig) l.registers.items ++ register_signals l.place (drop l.place l.signals) ≡ register_signals 0 l.signals)
    × ((wid : ℕ → ℕ) (all : List (ℕ × Stmt)) → AreDrafts wid l.initial.drafts → AreWords wid → ((s : ℕ) → width_in l.signals s ≡ wid s)
    → ((s : ℕ) (x : Signal) → slice_get l.signals s ≡ Some x → 1 ≤ x.width) → AreNexts wid l.initial.drafts l.nexts all
    → Grows wid l.initial.drafts l.drafts × All (λ r. IsRegisterOf wid l.signals l.drafts r (next_in wid all) (clock_in all)) l.registers.items)
