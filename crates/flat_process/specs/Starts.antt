-- Start values of registers, side by side with the definition's.
use Rattle.std.specs.Prelude.{◌≡◌, ℕ, zero, suc, Bool, true, false, cond, not, ◌||◌, List, [], ◌∷◌, ◌++◌, Option, Some, None, slice_get}
use Rattle.std.specs.Option.{option_map_or}
use Rattle.cdc_base.specs.declared.signal.ResetPin.{ResetPin}
use Rattle.verilog_reading.specs.StmtTree.{StmtTree, set}
use Rattle.flat_meaning.specs.Flat.{Target, Whole}
use Rattle.flat_unfolding.specs.Outcome.{Text, Broken, breaks, breaks_if}
use Rattle.flat_unfolding.specs.Names as n
use Rattle.flat_unfolding.specs.Names.{Meaning, a_signal, a_memory, Look, width_at}
use Rattle.flat_unfolding.specs.Constants.{assigned_value}
use Rattle.flat_unfolding.specs.Expressions.{Term, read}
use Rattle.flat_unfolding.specs.Targets.{of_registers, aim, first_name}
use Rattle.flat_unfolding.specs.Statements.{neither, done}
use Rattle.flat_unfolding.specs.Design as u
use Rattle.flat_unfolding.specs.Starts.{Starts, starts_with, twice_rule, names_register}
use Rattle.flat_names.specs.declared.design.Design.{Design}
use Rattle.flat_names.specs.declared.design.Entry.{Entry}
use Rattle.flat_names.specs.Designs.{ShowsDesign}
use Rattle.flat_process.specs.declared.start.Start.{Start}

-- the design has start values for the same signals, and those very values where no rule is broken
pub record AreStarts (pins : List ResetPin) (d : Design) (e : u.Design) (a : Starts) : Type 0 where
  pub starts : List u.Start
  pub shows : ShowsDesign pins d (record e { starts = starts })
  pub same : (s : ℕ) → starts_with starts s ≡ starts_with a.starts s
  pub sound : a.broken ≡ [] → starts ≡ a.starts

-- the entries once a signal got a start value
abbrev pub with_start : ℕ → ℕ → List Entry → List Entry
with_start s v [] = []
with_start zero v (x ∷ xs) = record x { start = Some v } ∷ xs
with_start (suc s) v (x ∷ xs) = x ∷ with_start s v xs

-- a start value, where none of these rules is broken
pub record IsStart (s n : ℕ) (bs : List Broken) (b : Start) : Type 0 where
  pub sig : b.sig ≡ s
  pub value : bs ≡ [] → b.value ≡ n

-- a further start value, if there is one: its signal and its value
abbrev pub One : Type 0
One = Option (ℕ × ℕ)

abbrev pub IsOne : One → List Broken → Option Start → Type 0
IsOne None bs None = Unit {0}
IsOne (Some p) bs (Some b) = IsStart p.0 p.1 bs b
IsOne o bs b = ⊥

-- it has to be the first of its signal
abbrev pub one_broken : List n.Entry → One → List u.Start → List Broken
one_broken entries None starts = []
one_broken entries (Some p) starts = twice_rule entries starts p.0

abbrev pub one_more : One → List u.Start → List u.Start
one_more None starts = starts
one_more (Some p) starts = starts ++ (record { sig = p.0; value = p.1 }) ∷ []

abbrev pub with_one : List n.Entry → One → List Broken → Starts → Starts
with_one entries o bs a = record { starts = one_more o a.starts; broken = a.broken ++ bs ++ one_broken entries o a.starts }

-- ---- one row of `initial`

module _ (l : Look) where
  abbrev pub is_reg_at : ℕ → Bool
  is_reg_at s = option_map_or (λ (r : n.Entry). r.is_reg) (slice_get l.entries s) false

  abbrev pub one_of : ℕ → Term → (ℕ × ℕ)
  one_of s v = (s, assigned_value v.expr (width_at l.entries s))

  abbrev pub one_at : Term → Target → One
  one_at v (Whole s) = cond (is_reg_at s) (Some (one_of s v)) None
  one_at v t = None

  -- what the value of a start breaks
  abbrev pub value_broken : Text → Term → Target → List Broken
  value_broken x v (Whole s) = cond (is_reg_at s) (v.broken ++ breaks_if (not v.is_constant) 313 x) v.broken
  value_broken x v t = v.broken

  abbrev pub row_one : StmtTree → One
  row_one (set blocking delay t e) = one_at (read l e) (aim l of_registers t).target
  row_one s = None

  abbrev pub row_broken : StmtTree → List Broken
  row_broken (set blocking delay t e) = (aim l of_registers t).broken ++ breaks_if (not blocking || not (names_register l t)) 313 (first_name t) ++ value_broken (first_name t) (read l e) (aim l of_registers t).target
  row_broken s = breaks 313 [] ++ (done l neither s).broken

  -- the start value of a declaration
  abbrev pub declared_one : Option Meaning → Term → One
  declared_one (Some (a_signal s)) v = Some (one_of s v)
  declared_one m v = None

  abbrev pub declared_broken : Text → Option Meaning → Term → List Broken
  declared_broken x (Some (a_signal s)) v = v.broken ++ breaks_if (not v.is_constant) 313 x
  declared_broken x m v = v.broken

abbrev pub is_memory_of : Option Meaning → Bool
is_memory_of (Some (a_memory m)) = true
is_memory_of m = false
