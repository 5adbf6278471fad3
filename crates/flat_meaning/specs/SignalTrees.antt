-- The trees of a design's signals, and of its registers' next values.
use Rattle.std.specs.Prelude.{◌≡◌, ℕ, zero, suc, ◌-◌, cond, ◌==◌, List, [], ◌∷◌, ◌++◌}
use Rattle.cell_graph.specs.Tree.{Tree, Const, Var}
use Rattle.flat_meaning.specs.Flat.{Stmt, assigns}
use Rattle.flat_meaning.specs.Trees.{Selects, cut, glue}
use Rattle.flat_meaning.specs.Assigned.{may_assign}
use Rattle.flat_meaning.specs.Law.{next_tree}
use Rattle.flat_meaning.specs.Pieces.{Piece, assigned_pieces, all_comb_pieces, in_order, wire_select}
use Rattle.flat_meaning.specs.Design.{Flat, size_in, is_variable}

abbrev pub pieces_of : Flat → Selects → ℕ → List Piece
pieces_of f sel x = in_order (assigned_pieces (size_in f) sel x f.assigns ++ all_comb_pieces (size_in f) sel x f.combs)

-- what a select stands for, given what the selects in the drivers stand for
abbrev pub select_of : Flat → Selects → Selects
select_of f sel s at w = cond (is_variable f s) (cut (size_in f s) at w (Var s (size_in f s))) (wire_select (pieces_of f sel s) at w)

-- the selects of a design's signals
abbrev pub AreTrees : Flat → Selects → Type 0
AreTrees f sel = (s at w : ℕ) → sel s at w ≡ select_of f sel s at w

abbrev pub tree_of : Flat → Selects → ℕ → Tree
tree_of f sel s = sel s 0 (size_in f s)

-- ---- a register that several processes assign

-- the bodies of the processes that assign a register
abbrev pub sharing : List (ℕ × Stmt) → ℕ → List Stmt
sharing [] x = []
sharing (p ∷ ps) x = cond (assigns p.1 x) (p.1 ∷ sharing ps x) (sharing ps x)

-- which of the processes may assign a bit, the first counting; where none may, how many they are
abbrev pub giver : (ℕ → ℕ) → List Stmt → (x i : ℕ) → ℕ
giver wid [] x i = 0
giver wid (body ∷ bodies) x i = cond (may_assign wid body x i) 0 (suc (giver wid bodies x i))

-- the tree that a process gives the register; behind the last process, the register's own
abbrev pub given_tree : (ℕ → ℕ) → Selects → List Stmt → ℕ → (number : ℕ) → Tree
given_tree wid sel [] x k = Var x (wid x)
given_tree wid sel (body ∷ bodies) x zero = next_tree wid sel body x
given_tree wid sel (body ∷ bodies) x (suc k) = given_tree wid sel bodies x k

-- words of w bits, numbered: each bit of the joined word is that of its giver's word. Each longest run of bits with one giver is a Slice of
-- that word
module _ (w : ℕ) (words : ℕ → Tree) (giver_of : ℕ → ℕ) where
  -- the run from a place on, up to another one, above the bits below it
  abbrev pub with_run : (from to giver : ℕ) → (low : Tree) → Tree
  with_run from to k low = glue (to - from) (cut w from (to - from) (words k)) from low

  -- n more bits, above a run that has begun
  abbrev pub with_bits : (n from to giver : ℕ) → (low : Tree) → Tree
  with_bits zero from to k low = with_run from to k low
  with_bits (suc n) from to k low = cond (giver_of to == k) (with_bits n from (suc to) k low) (with_bits n to (suc to) (giver_of to) (with_run from to k low))

  abbrev pub joined_runs : Tree
  joined_runs = with_bits w 0 0 (giver_of 0) (Const 0 0)

-- a register keeps its value where no process assigns it. One process's tree is whole; those of several are joined
abbrev pub next_tree_by : (ℕ → ℕ) → Selects → List Stmt → ℕ → Tree
next_tree_by wid sel [] x = Var x (wid x)
next_tree_by wid sel (body ∷ []) x = next_tree wid sel body x
next_tree_by wid sel (body ∷ other ∷ bodies) x =
    let all = body ∷ other ∷ bodies in joined_runs (wid x) (given_tree wid sel all x) (giver wid all x)

abbrev pub next_tree_in : (ℕ → ℕ) → Selects → List (ℕ × Stmt) → ℕ → Tree
next_tree_in wid sel ps x = next_tree_by wid sel (sharing ps x) x

abbrev pub next_tree_of : Flat → Selects → ℕ → Tree
next_tree_of f sel x = next_tree_in (size_in f) sel f.clocked x

-- the clock of a register's processes, that of the first; a zero bit where no process assigns it
abbrev pub clock_tree_in : Selects → List (ℕ × Stmt) → ℕ → Tree
clock_tree_in sel [] x = Const 1 0
clock_tree_in sel (p ∷ ps) x = cond (assigns p.1 x) (sel p.0 0 1) (clock_tree_in sel ps x)

abbrev pub clock_tree_of : Flat → Selects → ℕ → Tree
clock_tree_of f sel x = clock_tree_in sel f.clocked x
