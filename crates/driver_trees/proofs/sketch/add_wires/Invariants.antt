use Rattle.std.proofs.Common.{◌≡◌, ℕ, ◌<◌, Bool, true, false, cond, List, [], ◌++◌, Some, is_some}
use Rattle.std.specs.Ordering.{nat_cmp}
use Rattle.std.specs.Map.{lookup}
use Rattle.std.specs.BTreeMap.{get, is_at}
use Rattle.cell_graph.specs.declared.cell.CellId.{CellId}
use Rattle.flat_meaning.specs.Trees.{Selects, Trees}
use Rattle.flat_meaning.specs.Assigned.{Done}
use Rattle.flat_meaning.specs.Pieces.{run_pieces, runs}
use Rattle.driver_trees.specs.declared.draft.Draft.{Draft}
use Rattle.driver_trees.specs.Presents.{present_of}
use Rattle.driver_trees.specs.Changes.{IsProcess, IsWordOf}
use Rattle.driver_trees.specs.Collected.{has_bit}
use Rattle.driver_trees.specs.Sketched.{Driven, ArePieces, ArePiecesWith}
use Rattle.driver_trees.proofs.sketch.add_wires.Given as goal

-- the pieces so far and those of the signals that have their trees still are all
abbrev pub invariant-loop-sig : goal.invariant-loop-sig
invariant-loop-sig l =
    (wid : ℕ → ℕ) (ds : List Draft) (target : ℕ → Bool) (ts : Selects → Trees) (may : Done) (before : Driven) → IsProcess wid ds l.initial.present target ts
    → ((x : ℕ) → is_some (get nat_cmp l.assigned x) ≡ target x) → ((x i : ℕ) → i < 64 → has_bit l.assigned x i ≡ may x i)
    → ((x i : ℕ) → may x i ≡ true → i < wid x) → ((x i : ℕ) → target x ≡ false → may x i ≡ false) → ArePieces ds l.initial.pieces.items before
    → (l.present.widths.items ≡ l.initial.present.widths.items)
    × ((x : ℕ) (id : CellId) → present_of l.present x ≡ Some id → IsWordOf wid ds id x ts)
    × ((x : ℕ) → is_some (present_of l.present x) ≡ true → is_some (lookup (is_at (nat_cmp x)) l.sig-iterator) ≡ true)
    × ArePiecesWith ds l.pieces.items (λ sel x. cond (is_some (present_of l.present x)) (run_pieces (wid x) (ts sel x) (runs (may x) (wid x) [])) [])
    (λ sel x. before sel x ++ run_pieces (wid x) (ts sel x) (runs (may x) (wid x) []))
