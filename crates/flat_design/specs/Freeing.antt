-- Free signals, as they are found and marked.
use Rattle.std.specs.Prelude.{ℕ, Bool, true, false, cond, ◌||◌, ◌==◌, List, map, bytes_eq}
use Rattle.std.specs.List.{list_any}
use Rattle.std.specs.Cmp.Lexicographic.{pointwise}
use Rattle.indexmap.specs.IndexSet.{IndexSet, contains_by}
use Rattle.cdc_base.specs.Words.{is_in}
use Rattle.cdc_base.specs.declared.signal.ResetPin.{ResetPin}
use Rattle.cdc_base.specs.declared.signal.Signal.{Signal}
use Rattle.cdc_base.specs.declared.signal.SigKind.TheVariants.{Input}
use Rattle.flat_form.specs.View.{reset_of}
use Rattle.flat_unfolding.specs.Outcome.{Text}
use Rattle.flat_names.specs.declared.design.Design.{Design}
use Rattle.flat_drivers.specs.Driving.{assigned_in, wires_in, clocked_in}
use Rattle.flat_drivers.specs.Driven.{is_assigned_in}

-- one of these names or of these resets'
abbrev pub are_named : List Text → List ResetPin → Text → Bool
are_named named pins x = is_in named x || list_any (λ (r : ResetPin). bytes_eq r.name x) pins

-- an assignment or a process of the design assigns the signal
abbrev pub is_assigned_at : Design → ℕ → Bool
is_assigned_at d s = is_assigned_in (assigned_in d.assigns.items) (wires_in d.combs.items) (map reset_of d.resets.items)
    (clocked_in d.clocked.items) s

-- a mark that is set, where it is this signal's
abbrev pub mark_if : Bool → Bool → Bool
mark_if true old = true
mark_if false old = old

-- a signal from outside if it is named, where nothing drives it
abbrev pub free_if : {S : Type 0} → IndexSet Text S → Bool → Signal → Signal
free_if names true y = cond (contains_by (pointwise ◌==◌ y.name) names) (record y { kind = Input }) y
free_if names false y = y
