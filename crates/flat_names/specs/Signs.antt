-- How expressions stand where a sign or a size matters, each by its parts.
use Rattle.std.specs.Prelude.{ℕ, Bool, true, false, not, ◌&&◌, ◌||◌, ◌==◌, Option}
use Rattle.std.specs.Option.{option_map_or}
use Rattle.verilog_ast.specs.declared.UnaryOp.{UnaryOp}
use Rattle.verilog_ast.specs.declared.BinaryOp.{BinaryOp}
use Rattle.verilog_reading.specs.ExprTree.{ExprTree}
use Rattle.flat_unfolding.specs.Names.{Names}
use Rattle.flat_unfolding.specs.Signs.{is_signed, leans, is_unsized, is_order, unary_signed, unary_leans, binary_signed, binary_leans}
use Rattle.flat_names.specs.declared.signs.Signs.{Signs}

-- those of a written expression
abbrev pub signs_of : Names → ExprTree → Signs
signs_of names e = record { is_signed = is_signed names e; leans = leans names e; is_unsized = is_unsized names e }

-- unsigned, with a size and a value of its own
abbrev pub no_signs : Signs
no_signs = record { is_signed = false; leans = false; is_unsized = false }

abbrev pub number_signs : Signs
number_signs = record { is_signed = true; leans = false; is_unsized = true }

-- a number of a base without a size
abbrev pub based_signs : Signs
based_signs = record { is_signed = false; leans = false; is_unsized = true }

-- the size of a whole expression
abbrev pub is_whole_size : Option ℕ → Bool
is_whole_size size = option_map_or (λ k. k == 32) size false

-- what is counted with the size 32 is a number
abbrev pub judged_signs : (counted : Option ℕ) → Signs → Signs
judged_signs size s = record { is_signed = is_whole_size size || s.is_signed; leans = not (is_whole_size size) && s.leans; is_unsized = is_whole_size size }

abbrev pub unary_signs : UnaryOp → Signs → Signs
unary_signs op a = record { is_signed = unary_signed op a.is_signed; leans = unary_leans op; is_unsized = false }

abbrev pub binary_signs : BinaryOp → Signs → Signs → Signs
binary_signs op a b = record { is_signed = binary_signed op a.is_signed b.is_signed; leans = binary_leans op a.leans b.leans; is_unsized = false }

abbrev pub choice_signs : Signs → Signs → Signs
choice_signs a b = record { is_signed = a.is_signed && b.is_signed; leans = a.leans || b.leans; is_unsized = false }

-- a comparison by order of two signed operands
abbrev pub orders_signed : BinaryOp → Signs → Signs → Bool
orders_signed op a b = is_order op && (a.is_signed && b.is_signed)
