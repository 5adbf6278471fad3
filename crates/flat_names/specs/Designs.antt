-- The flat design as it grows: what the tables show of the definition's stage.
use Rattle.std.specs.Prelude.{◌≡◌, ℕ, ◌<◌, false, List, map, Option, Some, None, is_some, unwrap_or, Result, Ok, Err, option_map, option_and_then, slice_get, bytes_eq}
use Rattle.std.specs.Option.{option_map_or}
use Rattle.indexmap.specs.IndexMap.{IndexMap}
use Rattle.cdc_base.specs.declared.fault.Place.{Place}
use Rattle.cdc_base.specs.declared.signal.ResetPin.{ResetPin}
use Rattle.cdc_base.specs.declared.signal.Signal.{Signal}
use Rattle.cdc_base.specs.declared.fault.Stop.{Stop}
use Rattle.cdc_base.specs.declared.fault.Stop.TheVariants.{Refused, Memory}
use Rattle.cdc_base.specs.Words.{found_in}
use Rattle.cell_graph.specs.Tree.{bit_at}
use Rattle.flat_form.specs.declared.flat.Flat.{Flat}
use Rattle.flat_form.specs.View as view
use Rattle.flat_form.specs.View.{flat_of}
use Rattle.flat_unfolding.specs.Outcome.{Text, Broken, Outcome, good, bad, fault_of}
use Rattle.flat_unfolding.specs.Names as n
use Rattle.flat_unfolding.specs.Names.{width_of, reset_at}
use Rattle.flat_unfolding.specs.Signals.{kind_of, left_of, right_of}
use Rattle.flat_unfolding.specs.Starts.{given_bit, first_start}
use Rattle.flat_unfolding.specs.Widths.{KeepsSizes}
use Rattle.flat_unfolding.specs.Design as u
use Rattle.flat_unfolding.specs.Design.{Start, Given, Stage}
use Rattle.flat_names.specs.declared.scope.Meaning.{Meaning}
use Rattle.flat_names.specs.declared.design.Reset.{Reset}
use Rattle.flat_names.specs.declared.design.Entry.{Entry}
use Rattle.flat_names.specs.declared.design.Late.{Late}
use Rattle.flat_names.specs.declared.design.Design.{Design}
use Rattle.flat_names.specs.Looks.{meaning_of, kept_in, seen, shown}

-- the names of a module
pub record ShowsNames {S : Type 0} (table : IndexMap Text Meaning S) (names : n.Names) : Type 0 where
  pub kept : (x : Text) → option_map meaning_of (kept_in table x) ≡ found_in names x

-- a signal before it is known which signals are registers
abbrev pub signal_of : n.Entry → Signal
signal_of e = record {
  name = e.printed;
  place = e.place;
  width = width_of e.range;
  ranged = is_some e.range;
  left = left_of e.range;
  right = right_of e.range;
  kind = kind_of e false;
  known = 0;
  start = 0;
}

-- a reset is the place of a pin, the first of its name, and the pin's level
pub record IsPin (pins : List ResetPin) (q : Reset) (p : ResetPin) : Type 0 where
  pub pin : slice_get pins q.pin ≡ Some p
  pub level : q.is_high ≡ p.high
  pub first : (k : ℕ) (r : ResetPin) → k < q.pin → slice_get pins k ≡ Some r → bytes_eq r.name p.name ≡ false

abbrev pub IsReset : List ResetPin → Option Reset → Option ResetPin → Type 0
IsReset pins None None = Unit {0}
IsReset pins (Some q) (Some p) = IsPin pins q p
IsReset pins q p = ⊥

abbrev pub reset_of : List Entry → ℕ → Option Reset
reset_of entries s = option_and_then (λ (x : Entry). x.reset) (slice_get entries s)

-- what the entries tell of start values; nothing of a signal that isn't there
abbrev pub start_at : List Entry → ℕ → Option ℕ
start_at entries s = option_and_then (λ (x : Entry). x.start) (slice_get entries s)

abbrev pub known_at : List Entry → ℕ → ℕ
known_at entries s = option_map_or (λ (x : Entry). x.reset_known) (slice_get entries s) 0

abbrev pub value_at : List Entry → ℕ → ℕ
value_at entries s = option_map_or (λ (x : Entry). x.reset_start) (slice_get entries s) 0

-- the bits of a signal to which resets give start values, and these values
pub record AreGiven (givens : List Given) (entries : List Entry) (s : ℕ) : Type 0 where
  pub known : (i : ℕ) → i < 64 → bit_at (known_at entries s) i ≡ is_some (given_bit givens s i)
  pub value : (i : ℕ) → i < 64 → bit_at (value_at entries s) i ≡ unwrap_or (given_bit givens s i) false

-- the design as a flat one, before it is known which signals are registers
abbrev pub flat_so_far : Design → Flat
flat_so_far d = record { signals = d.signals.items; assigns = d.assigns.items; combs = d.combs.items; clocked = d.clocked.items; outputs = d.outputs.items }

-- the refusal at a place of the rule that counts, if there is one
abbrev pub raised : Place → Option Broken → Outcome (Unit {0})
raised p None = good tt
raised p (Some b) = bad (fault_of p b)

-- what is refused behind all items
abbrev pub late_of : Option Late → Outcome (Unit {0})
late_of None = good tt
late_of (Some l) = raised l.place l.faults.found

pub record ShowsDesign (pins : List ResetPin) (d : Design) (e : u.Design) : Type 0 where
  pub declared : e.pins ≡ pins
  pub entries : map seen d.entries.items ≡ map shown e.entries
  pub may_repeat : map (λ (x : Entry). x.is_open) d.entries.items ≡ map (λ (x : n.Entry). x.is_open) e.entries
  pub signals : d.signals.items ≡ map signal_of e.entries
  pub resets : (s : ℕ) → IsReset pins (reset_of d.entries.items s) (reset_at e.entries s)
  pub assigns : (flat_of (flat_so_far d)).assigns ≡ e.assigns
  pub combs : (flat_of (flat_so_far d)).combs ≡ e.combs
  pub clocked : (flat_of (flat_so_far d)).clocked ≡ e.clocked
  pub process_resets : map view.reset_of d.resets.items ≡ e.resets
  pub outputs : d.outputs.items ≡ e.outputs
  pub starts : (s : ℕ) → start_at d.entries.items s ≡ first_start e.starts s
  pub givens : (s : ℕ) → AreGiven e.givens d.entries.items s
  pub late : late_of d.late ≡ e.late
  pub sizes : KeepsSizes (flat_so_far d)

pub record ShowsStage {S : Type 0} (pins : List ResetPin) (table : IndexMap Text Meaning S) (d : Design) (s : Stage) : Type 0 where
  pub names : ShowsNames table s.names
  pub design : ShowsDesign pins d s.design

-- a step ends as the definition's does: with a result of which this holds, or with its refusal. Nothing is said where memory is wanting
module _ {A : Type 0} (P : A → Type 0) where
  abbrev pub Ends : Outcome A → Result (Unit {0}) Stop → Type 0
  Ends o (Ok u) = (a : A) × (o ≡ good a) × P a
  Ends o (Err (Refused f)) = o ≡ bad f
  Ends o (Err Memory) = Unit {0}

-- an item is done as the definition does it: its next stage is shown, or its refusal given
abbrev pub Meets : {S : Type 0} → List ResetPin → IndexMap Text Meaning S → Outcome Stage → Result (Unit {0}) Stop → Design → Type 0
Meets pins table o result d = Ends (ShowsStage pins table d) o result
