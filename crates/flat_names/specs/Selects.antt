-- Selects of what a name stands for.
use Rattle.std.specs.Prelude.{◌≡◌, ℕ, ◌^◌, Bool, true, false, cond, ◌&&◌, nat_le, List, [], ◌++◌, Option, Some, None, is_none, option_map, option_and_then}
use Rattle.verilog_ast.specs.declared.PartKind.{PartKind}
use Rattle.verilog_ast.specs.declared.PartKind.TheVariants as k
use Rattle.flat_unfolding.specs.Outcome.{Text, Broken, breaks, breaks_if}
use Rattle.flat_unfolding.specs.Names.{Range, Param, Meaning, a_param, a_signal, a_memory, Look, range_at, whole_of, unknown}
use Rattle.flat_meaning.specs.Flat.{Expr, Number}
use Rattle.flat_form.specs.View.{expr_of}
use Rattle.flat_form.specs.Sizes.{is_sized}
use Rattle.flat_form.specs.declared.flat.FExpr.{FExpr}
use Rattle.flat_unfolding.specs.Constants.{own_value, within, if_counted}
use Rattle.flat_names.specs.declared.resolved.Resolved.{Resolved}
use Rattle.flat_names.specs.Noting.{Noted, all_noted}
use Rattle.flat_names.specs.Pieces.{Piece, IsRead, count_notes}
use Rattle.flat_names.specs.Signs.{no_signs, is_whole_size}
use Rattle.flat_unfolding.specs.Signs.{meant_signed}
use Rattle.flat_unfolding.specs.Expressions.{Term, is_sound, constant, variable, spoilt, no_expr, as_constant, Select, kind_select, param_bits, signal_bits, param_index, signal_index, memory_index}

-- ---- a name alone, by what it stands for

abbrev pub name_at : Look → Text → Option Meaning → Term
name_at l x (Some (a_param p)) = constant (Number p.width p.value)
name_at l x (Some (a_signal s)) = variable (whole_of l s)
name_at l x (Some (a_memory a)) = spoilt no_expr false (breaks 319 x)
name_at l x m = spoilt no_expr false (unknown l x)

abbrev pub name_piece : Look → Text → Option Meaning → Piece
name_piece l x m = record {
  term = name_at l x m;
  size = option_map (λ (p : Param). p.width) (option_and_then if_counted m);
  whole = option_and_then (λ (p : Param). within p.width p.value) (option_and_then if_counted m);
  signs = record { is_signed = meant_signed m; leans = false; is_unsized = is_whole_size (option_map (λ (p : Param). p.width) (option_and_then if_counted m)) };
}

-- ---- an index of what a name stands for

abbrev pub is_param : Option Meaning → Bool
is_param (Some (a_param p)) = true
is_param m = false

-- where the index breaks no rule
abbrev pub index_at : Look → Text → Term → Option Meaning → Term
index_at l x t (Some (a_param p)) = param_index l x p t
index_at l x t (Some (a_signal s)) = signal_index l x s t
index_at l x t (Some (a_memory a)) = memory_index l x a t
index_at l x t m = spoilt t.expr false []

abbrev pub index_of : Look → Text → Term → Option Meaning → Term
index_of l x t m = cond (is_sound t) (index_at l x t m) (spoilt t.expr (is_param m && t.is_constant) [])

-- the term of an index, with what its name and the index break first
abbrev pub behind : List Broken → Term → Term
behind bs t = spoilt t.expr t.is_constant (bs ++ t.broken)

-- ---- a part

abbrev pub part_at : Look → Text → PartKind → Option Range → Option Meaning → Term
part_at l x kind (Some p) (Some (a_param a)) = param_bits l x a (kind_select a.range kind p)
part_at l x kind (Some p) (Some (a_signal s)) = signal_bits l x s (kind_select (range_at l.entries s) kind p)
part_at l x kind None (Some (a_param a)) = spoilt no_expr true []
part_at l x kind o (Some (a_memory m)) = spoilt no_expr false (breaks 319 x)
part_at l x kind o m = spoilt no_expr false []

-- what a bound breaks besides being no constant
abbrev pub bound_notes : Term → List Broken
bound_notes t = breaks_if (is_sound (as_constant t) && nat_le (2 ^ 31) (own_value t.expr)) 307 []

-- what stands second in a part, a bound or a count, breaks besides being no constant
abbrev pub second_notes : PartKind → Term → List Broken
second_notes k.Range t = bound_notes t
second_notes kind t = count_notes t

-- a constant select, as it is kept
abbrev pub select_of : ℕ × ℕ → Select
select_of p = record { at = p.0; bits = p.1 }

-- a part of a range, where its bounds break no rule, and what it breaks
abbrev pub part_in : Option Range → PartKind → Option Range → Option Select
part_in r kind o = option_and_then (kind_select r kind) o

abbrev pub part_notes : Text → Option Range → PartKind → Option Range → List Broken
part_notes x r kind None = []
part_notes x r kind (Some p) = breaks_if (is_none (kind_select r kind p)) 314 x

-- ---- what a select reads as

-- a sized expression that is the definition's
abbrev pub StandsFor : FExpr → Expr → Type 0
StandsFor e x = (expr_of e ≡ x) × (is_sized e ≡ true)

-- the select behind what was broken before it: what it breaks itself is noted, and it is unsigned with a size of its own
abbrev pub IsSelected : List Broken → Term → (old new : Noted) → Resolved → Type 0
IsSelected bs t old new r = IsRead (behind bs t) r × (r.count ≡ None) × (new ≡ all_noted old t.broken) × (r.signs ≡ no_signs)
