-- The cells of the next values of some bits, and what stands below them.
use Rattle.std.proofs.Common.{◌≡◌, ◌∙◌, inl, inr, sym, ap, subst, ◌<◌, ◌+◌, ℕ, Option, Some, None, List, [], ◌∷◌, ◌++◌, length, drop, get_or, append_assoc, Contains}
use Rattle.std.proofs.lemmas.List.{drop_more}
use Rattle.std.proofs.lemmas.List.Elements.{Contains-append_left, Contains-append_right, Contains-append_cases}
use Rattle.cdc_base.specs.declared.bit.Bit.{Bit}
use Rattle.cell_graph.specs.declared.cell.CellId.{CellId}
use Rattle.cell_graph.specs.declared.net.Net.{Net}
use Rattle.cell_graph.specs.declared.net.Reg.{Reg}
use Rattle.cell_graph.specs.Below.{AreIn, IsBelow, root, operand}
use Rattle.cell_graph.specs.Cells.{Cells}
use Rattle.cdc_model.specs.Nets.{next_cell, HasNextCells}
use Rattle.cdc_model.specs.Tables.{cell_there, next_cells}
use Rattle.cdc_model.proofs.Ascending.{here, parts, nothing_in}

from_there : (o : Option CellId) (c : CellId) → Contains (cell_there o) c → o ≡ Some c
from_there None c i = absurd (nothing_in c i)
from_there (Some d) c i = elim (parts d [] c i) [ inl e ↦ ap Some e | inr j ↦ absurd (nothing_in c j) ]

from_next : (regs : List Reg) (xs : List Bit) (c : CellId) → Contains (next_cells regs xs) c → (x : Bit) × (next_cell regs x.sig ≡ Some c)
from_next regs [] c i = absurd (nothing_in c i)
from_next regs (x ∷ xs) c i = elim (Contains-append_cases (cell_there (next_cell regs x.sig)) (next_cells regs xs) c i) [
  | inl j ↦ (x, from_there (next_cell regs x.sig) c j)
  | inr j ↦ from_next regs xs c j
]

in_next : (regs : List Reg) (xs : List Bit) (x : Bit) (c : CellId) → Contains xs x → next_cell regs x.sig ≡ Some c → Contains (next_cells regs xs) c
in_next regs [] x c i e = absurd (nothing_in x i)
in_next regs (y ∷ ys) x c i e = elim (parts y ys x i) [
  | inl same ↦ Contains-append_left (cell_there (next_cell regs y.sig)) (next_cells regs ys) c
      (subst (λ o. Contains (cell_there o) c) (sym (ap (λ (b : Bit). next_cell regs b.sig) same ∙ e)) (here c []))
  | inr j ↦ Contains-append_right (cell_there (next_cell regs y.sig)) (next_cells regs ys) c (in_next regs ys x c j e)
]

-- they are cells of the graph
pub cells_in : (net : Net) → HasNextCells net → (xs : List Bit) → AreIn net.graph (next_cells net.regs xs)
cells_in net has xs c i = let f = from_next net.regs xs c i in (has f.0.sig c f.1).0

below_more : (g : Cells) (c : CellId) (roots : List CellId) → Contains roots c → (id : CellId) → IsBelow g (c ∷ []) id → IsBelow g roots id
below_more g n roots i id (root j) = elim (parts n [] id j) [ inl e ↦ root (subst (Contains roots) e i) | inr k ↦ absurd (nothing_in id k) ]
below_more g n roots i id (operand {c} b o) = operand (below_more g n roots i c b) o

-- what stands below one of them stands below all
pub below_next : (net : Net) (xs : List Bit) (x : Bit) (c id : CellId) → Contains xs x → next_cell net.regs x.sig ≡ Some c → IsBelow net.graph (c ∷ []) id → IsBelow net.graph (next_cells net.regs xs) id
below_next net xs x c id i e b = below_more net.graph c (next_cells net.regs xs) (in_next net.regs xs x c i e) id b

-- one bit more
pub next_more : (regs : List Reg) (all old new : List CellId) (xs : List Bit) (i : ℕ) (d : Bit) (o : Option CellId) → i < length xs → next_cell regs (get_or xs i d).sig ≡ o
    → all ≡ old ++ next_cells regs (drop i xs) → new ≡ old ++ cell_there o → all ≡ new ++ next_cells regs (drop (i + 1) xs)
next_more regs all old new xs i d o l at e n =
    e ∙ ap (λ ys. old ++ next_cells regs ys) (drop_more xs i d l)
    ∙ ap (λ (p : Option CellId). old ++ (cell_there p ++ next_cells regs (drop (i + 1) xs))) at
    ∙ sym (append_assoc old (cell_there o) (next_cells regs (drop (i + 1) xs)))
    ∙ ap (λ ys. ys ++ next_cells regs (drop (i + 1) xs)) (sym n)
