-- Parameters and declarations: what the tables and the answers show of the definition's.
use Rattle.std.specs.Prelude.{◌≡◌, ℕ, ◌+◌, ◌^◌, ◌<◌, ◌==◌, ◌&&◌, Bool, true, false, not, nat_lt, List, [], ◌∷◌, ◌++◌, length, map, Option, Some, None, Result, Ok, Err, option_map}
use Rattle.std.specs.Cmp.Lexicographic.{pointwise}
use Rattle.indexmap.specs.IndexMap.{IndexMap, get_by}
use Rattle.indexmap.specs.IndexSet.{IndexSet, contains_by}
use Rattle.cdc_base.specs.declared.fault.Stop.{Stop}
use Rattle.cdc_base.specs.declared.fault.Stop.TheVariants.{Refused, Memory}
use Rattle.cdc_base.specs.declared.signal.ResetPin.{ResetPin}
use Rattle.cdc_base.specs.Words.{found_in, is_in}
use Rattle.verilog_ast.specs.declared.DeclKind.{DeclKind}
use Rattle.verilog_reading.specs.SourceTree.{ParamTree, ModuleTree}
use Rattle.flat_meaning.specs.Flat.{Expr, size}
use Rattle.flat_form.specs.View.{expr_of}
use Rattle.flat_form.specs.Sizes.{is_word, is_sized}
use Rattle.flat_unfolding.specs.Outcome.{Text, Broken, breaks_if, Outcome, good, bad}
use Rattle.flat_unfolding.specs.Names as n
use Rattle.flat_unfolding.specs.Names.{Range, span, Param, is_declared, Look}
use Rattle.flat_unfolding.specs.Constants.{assigned_value, within}
use Rattle.flat_unfolding.specs.Parameters as p
use Rattle.flat_unfolding.specs.Parameters.{Overrides, range_read, held, value_of, sign_rule, params_of}
use Rattle.flat_unfolding.specs.Declarations.{Site, is_reg_kind, header_of, header_twice}
use Rattle.flat_unfolding.specs.Targets.{is_input}
use Rattle.flat_unfolding.specs.Design.{Design, Stage, look_of}
use Rattle.flat_names.specs.Looks.{range_of, direction_of, IsFit}
use Rattle.flat_names.specs.Pieces.{is_counted_size}
use Rattle.flat_names.specs.Designs.{ShowsDesign, ShowsStage}
use Rattle.flat_names.specs.declared.scope.Meaning.{Meaning}
use Rattle.flat_names.specs.declared.scope.Look as scope
use Rattle.flat_names.specs.declared.design.Entry as kept
use Rattle.flat_names.specs.declared.design.Design as grown
use Rattle.flat_declarations.specs.declared.parameter.Override.{Override}
use Rattle.flat_declarations.specs.declared.declare.Declaring.{Declaring}
use Rattle.flat_declarations.specs.declared.declare.Declared.{Declared}
use Rattle.flat_declarations.specs.declared.declare.Declared.TheVariants as d

-- ---- stages

-- a step ends as the definition's does: its next stage is shown and fit, or its refusal is given
abbrev pub MeetsFit : {S : Type 0} → List ResetPin → IndexMap Text Meaning S → Outcome Stage → Result (Unit {0}) Stop → grown.Design → Type 0
MeetsFit pins table o (Ok u) d = (t : Stage) × (o ≡ good t) × ShowsStage pins table d t × IsFit (look_of t)
MeetsFit pins table o (Err (Refused f)) d = o ≡ bad f
MeetsFit pins table o (Err Memory) d = Unit {0}

-- ---- parameters

abbrev pub override_of : Override → p.Override
override_of o = record { value = expr_of o.value; is_counted = o.is_counted; is_signed = o.is_signed }

-- what a table of overrides has for a parameter's name
abbrev pub given_in : {S : Type 0} → IndexMap Text Override S → Text → Option Override
given_in table x = get_by (pointwise ◌==◌ x) table

abbrev pub IsGivenSized : Option Override → Type 0
IsGivenSized None = Unit {0}
IsGivenSized (Some o) = is_sized o.value ≡ true

pub record ShowsOverrides {S : Type 0} (table : IndexMap Text Override S) (given : Overrides) : Type 0 where
  pub found : (x : Text) → option_map override_of (given_in table x) ≡ found_in given x
  pub sized : (x : Text) → IsGivenSized (given_in table x)

-- a counted constant's value stands as a plain number
abbrev pub IsCountedValue : Expr → Type 0
IsCountedValue e = (is_counted_size (size e) ≡ true) × (within (size e) (assigned_value e (size e)) ≡ Some (assigned_value e (size e)))

abbrev pub AreFitOverrides : Overrides → Type 0
AreFitOverrides given = (x : Text) (o : p.Override) → found_in given x ≡ Some o → o.is_counted ≡ true → IsCountedValue o.value

-- the rules that a parameter breaks, and what it is where it breaks none
module _ (given : Overrides) (look : Look) (q : ParamTree) where
  abbrev pub valued : p.Valued
  valued = value_of look q (p.override_of given q)

  abbrev pub parameter_rules : List Broken
  parameter_rules = breaks_if (is_declared look.names q.name) 304 q.name ++ (range_read look q.name q.range).broken ++ valued.broken ++ sign_rule q.range valued

  abbrev pub parameter_held : Param
  parameter_held = held (range_read look q.name q.range).range valued.value valued.is_counted valued.is_signed

-- a parameter of its size
pub record IsHeld (q : Param) : Type 0 where
  pub width : is_word q.width ≡ true
  pub value : q.value < 2 ^ q.width
  pub range : (b : Range) → q.range ≡ Some b → span b ≡ q.width

-- ---- declarations

-- a set has the names of a header
abbrev pub ShowsHeader : {S : Type 0} → IndexSet Text S → List Text → Type 0
ShowsHeader names header = (x : Text) → contains_by (pointwise ◌==◌ x) names ≡ is_in header x

pub record IsAt (a : Declaring) (at : Site) : Type 0 where
  pub prefix : a.prefix.now ≡ at.prefix
  pub header : ShowsHeader a.header.now at.header

-- which signals may be declared again
abbrev pub ShowsOpen : scope.Look → Look → Type 0
ShowsOpen k l = map (λ (x : kept.Entry). x.is_open) k.entries.now ≡ map (λ (x : n.Entry). x.is_open) l.entries

-- whether a signal may be declared once more as a kind that has no direction
abbrev pub is_again : DeclKind → kept.Entry → Bool
is_again kind e = e.is_open && not (is_reg_kind kind && is_input (direction_of e.role))

-- what a declaration declares: its range, the signal that it declares again, and its number of words
abbrev pub Declares : Declared → Option Range → (again words : Option ℕ) → Type 0
Declares (d.Again s) r again words = again ≡ Some s
Declares (d.Signal b) r again words = (again ≡ None) × (words ≡ None) × (option_map range_of b ≡ r)
Declares (d.Memory b w) r again words = (again ≡ None) × (words ≡ Some w) × (option_map range_of b ≡ r)

-- a refusal of too many signals, or one more entry
abbrev pub Adds : List ResetPin → Design → n.Entry → Result ℕ Stop → grown.Design → Type 0
Adds pins e x (Ok s) design = (s ≡ length e.entries) × (nat_lt 1048576 (length e.entries + 1) ≡ false) × ShowsDesign pins design (record e { entries = e.entries ++ (x ∷ []) })
Adds pins e x (Err (Refused f)) design = (nat_lt 1048576 (length e.entries + 1) ≡ true) × (f ≡ record { number = 601; place = None; name = [] })
Adds pins e x (Err Memory) design = Unit {0}

-- a header's names, or the first that stands in it twice
abbrev pub Heads : {S : Type 0} → ModuleTree → Result (IndexSet Text S) Stop → Type 0
Heads m (Ok names) = (header_twice m ≡ good (tt {0})) × ShowsHeader names (header_of m)
Heads m (Err (Refused f)) = header_twice m ≡ bad f
Heads m (Err Memory) = Unit {0}
