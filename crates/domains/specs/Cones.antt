-- The cells in whose trees a clock pin stands.
use Rattle.std.specs.Prelude.{◌≡◌, List, [], All, Bool, true, false, ◌||◌, is_some, slice_get, unwrap_or}
use Rattle.cdc_base.specs.declared.bit.Bit.{Bit}
use Rattle.cell_graph.specs.declared.cell.Cell.{Cell}
use Rattle.cell_graph.specs.declared.cell.Cell.TheVariants.{Var, Const, Not, And, Or, Xor, Add, Sub, Eq, Lt, Shl, Shr, Mux, Concat, Slice, Extend, Reduce}
use Rattle.cell_graph.specs.declared.cell.CellId.{CellId}
use Rattle.cell_graph.specs.Cells.{Cells, in_order}
use Rattle.cell_graph.specs.Stands.{stands_in}
use Rattle.cell_graph.specs.Unfolded.{tree_of}
use Rattle.domains.specs.Clocks.{Roles, role_at, pin_of}

-- the answer for a cell; of a cell without one a pin may stand in its tree
abbrev pub stands : List Bool → CellId → Bool
stands below id = unwrap_or (slice_get below id.0) true

-- whether the cell is a clock pin, or has an operand that stands on one, by the answers for earlier cells
abbrev pub stands_on_pin : Roles → List Bool → Cell → Bool
stands_on_pin roles below (Var sig) = is_some (pin_of (role_at roles sig))
stands_on_pin roles below (Const w value) = false
stands_on_pin roles below (Not a) = stands below a
stands_on_pin roles below (And a b) = stands below a || stands below b
stands_on_pin roles below (Or a b) = stands below a || stands below b
stands_on_pin roles below (Xor a b) = stands below a || stands below b
stands_on_pin roles below (Add a b) = stands below a || stands below b
stands_on_pin roles below (Sub a b) = stands below a || stands below b
stands_on_pin roles below (Eq a b) = stands below a || stands below b
stands_on_pin roles below (Lt a b) = stands below a || stands below b
stands_on_pin roles below (Shl a by) = stands below a || stands below by
stands_on_pin roles below (Shr a by) = stands below a || stands below by
stands_on_pin roles below (Mux c x y) = (stands below c || stands below x) || stands below y
stands_on_pin roles below (Concat high low) = stands below high || stands below low
stands_on_pin roles below (Slice a at w) = stands below a
stands_on_pin roles below (Extend a w) = stands below a
stands_on_pin roles below (Reduce kind a) = stands below a

abbrev pub cells_on_pins : Roles → Cells → List Bool
cells_on_pins roles g = in_order (stands_on_pin roles) [] g.cells

-- none of the bits' signals stands in the tree of a cell that stands on no pin
abbrev pub AreClear : Cells → List Bit → List Bool → Type 0
AreClear g bits below = (id : CellId) → stands below id ≡ false → All (λ b. stands_in b.sig (tree_of g id) ≡ false) bits
