-- What drafts and pieces lead to. The drafts are the first vertices, the pieces those behind them.
use Rattle.std.specs.Prelude.{ℕ, suc, ◌+◌, ◌==◌, ◌&&◌, Bool, true, false, cond, nat_lt, Option, Some, None, List, [], ◌∷◌, ◌++◌, map, length, slice_get}
use Rattle.std.specs.Option.{option_map_or}
use Rattle.cdc_base.specs.declared.signal.Signal.{Signal}
use Rattle.cdc_base.specs.declared.signal.SigKind.{SigKind}
use Rattle.cdc_base.specs.declared.signal.SigKind.TheVariants.{Input, Register, Wire}
use Rattle.cell_graph.specs.declared.cell.Cell.{Cell}
use Rattle.cell_graph.specs.declared.cell.Cell.TheVariants.{Var, Const, Not, And, Or, Xor, Add, Sub, Eq, Lt, Shl, Shr, Mux, Concat, Slice, Extend, Reduce}
use Rattle.cell_graph.specs.declared.cell.CellId.{CellId}
use Rattle.driver_trees.specs.declared.draft.Draft.{Draft}
use Rattle.driver_trees.specs.declared.draft.Form.{Form}
use Rattle.driver_trees.specs.declared.draft.Form.TheVariants.{Read, Made}
use Rattle.driver_trees.specs.declared.sketch.Piece.{Piece}

-- the places of a cell's operands, from the left
abbrev pub operand_ids : Cell → List ℕ
operand_ids (Var sig) = []
operand_ids (Const w value) = []
operand_ids (Not a) = a.0 ∷ []
operand_ids (And a b) = a.0 ∷ b.0 ∷ []
operand_ids (Or a b) = a.0 ∷ b.0 ∷ []
operand_ids (Xor a b) = a.0 ∷ b.0 ∷ []
operand_ids (Add a b) = a.0 ∷ b.0 ∷ []
operand_ids (Sub a b) = a.0 ∷ b.0 ∷ []
operand_ids (Eq a b) = a.0 ∷ b.0 ∷ []
operand_ids (Lt a b) = a.0 ∷ b.0 ∷ []
operand_ids (Shl a by) = a.0 ∷ by.0 ∷ []
operand_ids (Shr a by) = a.0 ∷ by.0 ∷ []
operand_ids (Mux c x y) = c.0 ∷ x.0 ∷ y.0 ∷ []
operand_ids (Concat high low) = high.0 ∷ low.0 ∷ []
operand_ids (Slice a at w) = a.0 ∷ []
operand_ids (Extend a w) = a.0 ∷ []
operand_ids (Reduce kind a) = a.0 ∷ []

abbrev pub id_in : Option CellId → List ℕ
id_in (Some a) = a.0 ∷ []
id_in None = []

-- the places that are there
abbrev pub ids_in : List (Option CellId) → List ℕ
ids_in [] = []
ids_in (a ∷ rest) = id_in a ++ ids_in rest

abbrev pub is_wire_kind : SigKind → Bool
is_wire_kind Wire = true
is_wire_kind Input = false
is_wire_kind Register = false

-- there is such a signal, and it is a wire
abbrev pub is_wire_in : List Signal → ℕ → Bool
is_wire_in signals sig = option_map_or (λ (s : Signal). is_wire_kind s.kind) (slice_get signals sig) false

-- the piece has some of the w bits from `at` on
abbrev pub has_bits : Piece → ℕ → ℕ → Bool
has_bits p at w = nat_lt p.at (at + w) && nat_lt at (p.at + p.width)

-- the places of the signal's pieces that have some of its w bits from `at` on; n is the place of the first piece
abbrev pub meeting_places : ℕ → List Piece → ℕ → ℕ → ℕ → List ℕ
meeting_places n [] sig at w = []
meeting_places n (p ∷ ps) sig at w = cond ((p.sig == sig) && has_bits p at w) (n ∷ meeting_places (suc n) ps sig at w) (meeting_places (suc n) ps sig at w)

-- a cell leads to its operands, and a read of a wire to the pieces that it meets; other signals lead nowhere
abbrev pub form_ends : List Signal → ℕ → List Piece → ℕ → Form → List ℕ
form_ends signals n ps w (Made cell) = operand_ids cell
form_ends signals n ps w (Read sig at) = cond (is_wire_in signals sig) (meeting_places n ps sig at w) []

abbrev pub draft_ends : List Signal → ℕ → List Piece → Draft → List ℕ
draft_ends signals n ps d = form_ends signals n ps d.width d.form

-- a piece leads to its tree
abbrev pub piece_ends : Piece → List ℕ
piece_ends p = p.tree.0 ∷ []

abbrev pub links_of : List Signal → List Draft → List Piece → List (List ℕ)
links_of signals ds ps = map (draft_ends signals (length ds) ps) ds ++ map piece_ends ps
