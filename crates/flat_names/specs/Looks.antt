-- What expressions and targets are read in: the tables of names and signals, and the definition's look that they show.
use Rattle.std.specs.Prelude.{◌≡◌, ℕ, ◌+◌, ◌^◌, ◌<◌, ◌≤◌, Bool, true, false, not, cond, ◌&&◌, ◌||◌, ◌==◌, length, map, Option, None, Some, option_map, option_and_then, slice_get}
use Rattle.std.specs.Cmp.Lexicographic.{pointwise}
use Rattle.indexmap.specs.IndexMap.{IndexMap, get_by}
use Rattle.cdc_base.specs.declared.signal.ResetPin.{ResetPin}
use Rattle.cdc_base.specs.Words.{found_in}
use Rattle.flat_form.specs.declared.flat.FExpr.{FExpr}
use Rattle.flat_form.specs.declared.flat.FExpr.TheVariants as f
use Rattle.flat_form.specs.Sizes.{is_word}
use Rattle.flat_unfolding.specs.Outcome.{Text}
use Rattle.flat_unfolding.specs.Names as n
use Rattle.flat_unfolding.specs.Names.{Range, span, width_of, Direction}
use Rattle.flat_unfolding.specs.Constants.{within}
use Rattle.flat_unfolding.specs.Targets.{Use, of_wires, of_registers, is_input}
use Rattle.flat_names.specs.declared.scope.Bounds.{Bounds}
use Rattle.flat_names.specs.declared.scope.Param.{Param}
use Rattle.flat_names.specs.declared.scope.Memory.{Memory}
use Rattle.flat_names.specs.declared.scope.Meaning.{Meaning}
use Rattle.flat_names.specs.declared.scope.Meaning.TheVariants as m
use Rattle.flat_names.specs.declared.scope.Look.{Look}
use Rattle.flat_names.specs.declared.design.Role.{Role}
use Rattle.flat_names.specs.declared.design.Role.TheVariants as r
use Rattle.flat_names.specs.declared.design.Reset.{Reset}
use Rattle.flat_names.specs.declared.design.Entry.{Entry}

abbrev pub range_of : Bounds → Range
range_of b = record { left = b.left; right = b.right }

abbrev pub param_of : Param → n.Param
param_of p = record { value = p.value; width = p.width; is_counted = p.counted; is_signed = p.signed; range = option_map range_of p.bounds }

abbrev pub memory_of : Memory → n.Memory
memory_of a = record { first = a.first; words = a.words }

abbrev pub meaning_of : Meaning → n.Meaning
meaning_of (m.Param p) = n.a_param (param_of p)
meaning_of (m.Signal s) = n.a_signal s
meaning_of (m.Memory a) = n.a_memory (memory_of a)
meaning_of m.NoValue = n.no_value

abbrev pub direction_of : Role → Direction
direction_of r.Inner = n.inner
direction_of r.Input = n.inward
direction_of r.Output = n.outward

-- what a table has for a name, and what it stands for in an expression or a target: an instance or a memory's word by its printed name for no value
abbrev pub kept_in : {S : Type 0} → IndexMap Text Meaning S → Text → Option Meaning
kept_in names x = get_by (pointwise ◌==◌ x) names

abbrev pub as_value : Meaning → Option Meaning
as_value (m.Param p) = Some (m.Param p)
as_value (m.Signal s) = Some (m.Signal s)
as_value (m.Memory a) = Some (m.Memory a)
as_value m.NoValue = None

abbrev pub meant : {S : Type 0} → IndexMap Text Meaning S → Text → Option Meaning
meant names x = option_and_then as_value (kept_in names x)

abbrev pub one_if : Bool → ℕ
one_if b = cond b 1 0

-- the bits of a signal from a place on: a reset reads as its level
abbrev pub bits_of : Option Reset → (active : Bool) → (sig at width : ℕ) → FExpr
bits_of None active s at w = f.Read s at w
bits_of (Some q) active s at w = f.Number (one_if ((at == 0) && cond active q.is_high (cond q.is_high false true))) w

-- what is asked of a declared signal; its level is that of the reset that it resolves to
pub record Seen : Type 0 where
  pub own : Text
  pub width : ℕ
  pub range : Option Range
  pub is_reg : Bool
  pub direction : Direction
  pub level : Option Bool

abbrev pub seen : Entry → Seen
seen e = record {
  own = e.own;
  width = e.width;
  range = option_map range_of e.bounds;
  is_reg = e.is_reg;
  direction = direction_of e.role;
  level = option_map (λ (q : Reset). q.is_high) e.reset;
}

abbrev pub shown : n.Entry → Seen
shown e = record {
  own = e.own;
  width = width_of e.range;
  range = e.range;
  is_reg = e.is_reg;
  direction = e.direction;
  level = option_map (λ (q : ResetPin). q.high) e.reset;
}

-- whether an assignment of that kind may assign it
abbrev pub takes_seen : Use → Seen → Bool
takes_seen of_wires s = not s.is_reg && not (is_input s.direction)
takes_seen of_registers s = s.is_reg

-- the tables show the definition's look
pub record Shows (k : Look) (l : n.Look) : Type 0 where
  pub names : (x : Text) → option_map meaning_of (kept_in k.names.now x) ≡ found_in l.names x
  pub entries : map seen k.entries.now ≡ map shown l.entries
  pub active : k.active ≡ l.active

-- ---- what holds of every look that an unfolding reaches

pub record IsFitParam (p : n.Param) : Type 0 where
  pub width : is_word p.width ≡ true
  pub value : p.value < 2 ^ p.width
  pub counted : p.is_counted ≡ true → ((p.width == 1) || (p.width == 32)) ≡ true
  pub whole : p.is_counted ≡ true → within p.width p.value ≡ Some p.value
  pub range : (b : Range) → p.range ≡ Some b → span b ≡ p.width

pub record IsFit (l : n.Look) : Type 0 where
  pub params : (x : Text) (p : n.Param) → n.meaning l x ≡ Some (n.a_param p) → IsFitParam p
  pub signals : (x : Text) (s : ℕ) → n.meaning l x ≡ Some (n.a_signal s) → s < length l.entries
  pub memories : (x : Text) (a : n.Memory) → n.meaning l x ≡ Some (n.a_memory a) → (1 ≤ a.words) × (a.first + a.words ≤ length l.entries)
  pub entries : (s : ℕ) (e : n.Entry) → slice_get l.entries s ≡ Some e → is_word (width_of e.range) ≡ true
  pub few : length l.entries ≤ 2 ^ 32
