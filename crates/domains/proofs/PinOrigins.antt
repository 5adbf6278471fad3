-- The clock whose pin is the origin of a register's clock, by the cell of the origin.
use Rattle.std.proofs.Common.{◌≡◌, ◌∙◌, ap, refl, arith, ℕ, zero, suc, ◌+◌, ◌≤◌, List, [], ◌∷◌, ◌++◌, length, Option, Some, None, slice_get, unwrap_or, length-append}
use Rattle.std.proofs.lemmas.Option.{slice_get_past}
use Rattle.cdc_base.specs.declared.signal.Signal.{Signal}
use Rattle.cell_graph.specs.declared.cell.Cell.{Cell}
use Rattle.cell_graph.specs.declared.cell.Cell.TheVariants.{Var, Const, Reduce}
use Rattle.cell_graph.specs.declared.cell.CellId.{CellId}
use Rattle.cell_graph.specs.declared.cell.Node.{Node}
use Rattle.cell_graph.specs.declared.cell.ReduceKind.{ReduceKind}
use Rattle.cell_graph.specs.declared.cell.ReduceKind.TheVariants as kind
use Rattle.cell_graph.specs.Cells.{Cells, in_order, cell_at}
use Rattle.cell_graph.specs.Tree.{Tree}
use Rattle.cell_graph.specs.Unfolded.{tree_at, tree_of, unfolded, reduced, trees, bit_of, IsWellFormed}
use Rattle.cell_graph.proofs.Trees.{tree_of-cell}
use Rattle.domains.specs.Clocks.{Roles, role_at, pin_of, pin_in, pin_at}

-- the clock of which a cell is the pin
abbrev pub pin_cell : Roles → Cell → Option ℕ
pin_cell roles (Var sig) = pin_of (role_at roles sig)
pin_cell roles c = None

pin-reduced : (roles : Roles) (k : ReduceKind) (t : Tree) → pin_in roles (reduced k t) ≡ None
pin-reduced roles kind.And t = refl
pin-reduced roles kind.Or t = refl
pin-reduced roles kind.Xor t = refl

pin-unfolded : (roles : Roles) (signals : List Signal) (ts : List Tree) (c : Cell) → pin_in roles (unfolded signals ts c) ≡ pin_cell roles c
pin-unfolded roles signals ts (Reduce k a) = pin-reduced roles k (tree_at ts a)
pin-unfolded roles signals ts c = refl

length-in_order : {A : Type 0} (f : List A → Cell → A) (xs : List A) (cs : List Cell) → length (in_order f xs cs) ≡ length xs + length cs
length-in_order f xs [] = omega arith
length-in_order f xs (c ∷ cs) = let l = length-append xs (f xs c ∷ []) in let r = length-in_order f (xs ++ f xs c ∷ []) cs in omega arith

past_end : {A : Type 0} (xs : List A) (i : ℕ) → slice_get xs i ≡ None → length xs ≤ i
past_end [] i h = omega arith
past_end (x ∷ xs) zero h = absurd (cc)
past_end (x ∷ xs) (suc i) h = let r = past_end xs i h in omega arith

pub pin-tree : (roles : Roles) (g : Cells) → IsWellFormed g → (id : CellId) → pin_in roles (tree_of g id) ≡ pin_cell roles (cell_at g id)
pin-tree roles g well id = go (slice_get g.cells id.0) refl
  where
    go : (o : Option Cell) → slice_get g.cells id.0 ≡ o → pin_in roles (tree_of g id) ≡ pin_cell roles (unwrap_or o (Const 1 0))
    go (Some c) e = ap (pin_in roles) (tree_of-cell g well id c e) ∙ pin-unfolded roles g.signals (trees g) c
    go None e =
        let long : length (trees g) ≡ 0 + length g.cells = length-in_order (unfolded g.signals) [] g.cells in
        let past : length g.cells ≤ id.0 = past_end g.cells id.0 e in
        ap (λ o. pin_in roles (unwrap_or o (Tree.Const 1 0))) (slice_get_past (trees g) id.0 (omega arith))

pub pin-node : (roles : Roles) (g : Cells) → IsWellFormed g → (n : Node) → pin_at roles (Some (bit_of g n)) ≡ pin_cell roles (cell_at g n.cell)
pin-node roles g well n = pin-tree roles g well n.cell

-- a cell that is no signal is no pin
pub pin_cell-other : (roles : Roles) (c : Cell) → ((sig : ℕ) → c ≡ Var sig → ⊥) → None ≡ pin_cell roles c
pin_cell-other roles (Var sig) h = absurd (h sig refl)
pin_cell-other roles c h = refl
