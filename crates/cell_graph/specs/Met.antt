-- The cells that a walk has met.
use Rattle.std.specs.Prelude.{◌≡◌, Bool, true, List}
use Rattle.std.specs.List.{Contains}
use Rattle.std.specs.HashSet as set
use Rattle.std.specs.HashSet.{HashSet}
use Rattle.cell_graph.specs.contracts.cell.CellIdPartialEq.TheImpl as equality
use Rattle.cell_graph.specs.declared.cell.CellId.{CellId}

abbrev pub same_id : CellId → CellId → Bool
same_id = equality.ghosts.eq

-- a cell that is in the set is in the list
abbrev pub AreListed : {S : Type 0} → HashSet CellId S → List CellId → Type 0
AreListed met cells = (c : CellId) → set.contains same_id met c ≡ true → Contains cells c
