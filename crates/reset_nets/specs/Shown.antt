-- What the search's tables show of a design's wires.
use Rattle.std.specs.Prelude.{◌≡◌, ◌==◌, ◌&&◌, ℕ, Bool, cond, is_none, List, [], map, length, Option, Some, None, find, bytes_eq, option_map, slice_get}
use Rattle.std.specs.Option.{option_map_or}
use Rattle.std.specs.List.{Contains}
use Rattle.cdc_base.specs.declared.signal.ResetPin.{ResetPin}
use Rattle.cdc_base.specs.declared.signal.Signal.{Signal}
use Rattle.driver_loops.specs.Links.{ends_of}
use Rattle.flat_form.specs.declared.flat.FlatAssign.{FlatAssign}
use Rattle.flat_form.specs.View.{expr_of}
use Rattle.flat_meaning.specs.Flat.{Expr}
use Rattle.flat_unfolding.specs.Design.{Design}
use Rattle.flat_names.specs.Designs.{signal_of}
use Rattle.reset_nets.specs.declared.drives.Drive.{Drive}
use Rattle.reset_nets.specs.declared.drives.Drive.TheVariants.{Nothing, Once, Otherwise}
use Rattle.reset_nets.specs.declared.nets.Wires.{Wires}
use Rattle.reset_nets.specs.Nets.{inactive, level_of, declared_level, made_by, reads_of, IsResetNet}
use Rattle.reset_nets.specs.Finding.{known_in, drive_at, pair_of, Tells}

-- the inactive level of the reset that a signal of one bit is declared as
abbrev pub level_in_signal : List ResetPin → Signal → Option Bool
level_in_signal pins x = option_map inactive (cond (x.width == 1) (find (λ (r : ResetPin). bytes_eq r.name x.name) pins) None)

-- the value of the assignment that a mark tells of
abbrev pub value_in : List FlatAssign → Drive → Option Expr
value_in assigns Nothing = None
value_in assigns (Once k) = option_map (λ (a : FlatAssign). expr_of a.value) (slice_get assigns k)
value_in assigns Otherwise = None

-- what makes a signal, by what is kept of it
abbrev pub made_in : Option Signal → (declared : Option Bool) → (value : Option Expr) → Option Expr
made_in None declared value = None
made_in (Some y) declared value = cond ((y.width == 1) && is_none declared) value None

abbrev pub made_of : Wires → ℕ → Option Expr
made_of w s = made_in (slice_get w.signals.now s) (known_in w.declared.items s) (value_in w.assigns.now (drive_at w.drives.items s))

pub record ShowsWires (pins : List ResetPin) (w : Wires) (d : Design) : Type 0 where
  pub signals : w.signals.now ≡ map signal_of d.entries
  pub assigns : map pair_of w.assigns.now ≡ d.assigns
  pub count : length w.drives.items ≡ length d.entries
  pub drives : (s : ℕ) (x : Drive) → slice_get w.drives.items s ≡ Some x → Tells d.assigns s x
  pub declared : w.declared.items ≡ map (level_of pins) d.entries

-- each signal leads to those that its value reads
pub record ShowsLinks (pins : List ResetPin) (d : Design) (ls : List (List ℕ)) : Type 0 where
  pub count : length ls ≡ length d.entries
  pub ends : (s : ℕ) → ends_of ls s ≡ option_map_or reads_of (made_by pins d s) []

-- the levels of nets: those that are known are right, and each declared reset and each net among the signals that were tried is known
pub record Finds (pins : List ResetPin) (d : Design) (vs : List ℕ) (levels : List (Option Bool)) : Type 0 where
  pub count : length levels ≡ length d.entries
  pub right : (s : ℕ) (l : Bool) → known_in levels s ≡ Some l → IsResetNet pins d s l
  pub given : (s : ℕ) (l : Bool) → declared_level pins d s ≡ Some l → known_in levels s ≡ Some l
  pub found : (s : ℕ) (l : Bool) → Contains vs s → IsResetNet pins d s l → known_in levels s ≡ Some l
