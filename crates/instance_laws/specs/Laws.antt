-- An instance is its module's own unfolding under other names.
use Rattle.std.specs.Prelude.{◌≡◌, ℕ, ◌+◌, List, [], ◌++◌, length, map, All, None}
use Rattle.verilog_reading.specs.SourceTree.{ModuleTree}
use Rattle.flat_unfolding.specs.Outcome.{Text, good, then_}
use Rattle.flat_unfolding.specs.Parameters.{Overrides}
use Rattle.flat_unfolding.specs.Instances.{Link, into, out_of, connect_all, connected}
use Rattle.flat_unfolding.specs.Design.{Design, no_design, Stage}
use Rattle.flat_unfolding.specs.Unfolding.{visit}
use Rattle.instance_laws.specs.Moved.{moved_names, moved_assign, moved_stmt, moved_clocked, moved_reset, moved_start, moved_given, moved_entry}

-- the signals of a module's own design behind those that are declared so far, under printed names that begin with its instance's
abbrev pub entries_behind : (prefix : Text) → (d own : Design) → Design
entries_behind prefix d own = record d { entries = d.entries ++ map (moved_entry prefix) own.entries }

-- all of its design behind the one so far; of the processes whose resets break a rule, the first in the order of the visits is told
abbrev pub behind : (prefix : Text) → (d own : Design) → Design
behind prefix d own = let k = length d.entries in record {
  pins = d.pins;
  entries = (entries_behind prefix d own).entries;
  assigns = d.assigns ++ map (moved_assign k) own.assigns;
  combs = d.combs ++ map (moved_stmt k) own.combs;
  clocked = d.clocked ++ map (moved_clocked k) own.clocked;
  resets = d.resets ++ map (moved_reset k) own.resets;
  outputs = d.outputs ++ map (λ s. k + s) own.outputs;
  starts = d.starts ++ map (moved_start k) own.starts;
  givens = d.givens ++ map (moved_given k) own.givens;
  late = then_ d.late (λ u. own.late);
}

-- its names stand for its signals as they are numbered there
abbrev pub stage_behind : (prefix : Text) → Design → (own : Stage) → Stage
stage_behind prefix d own = record { names = moved_names (length d.entries) own.names; design = behind prefix d own.design }

-- what an instance makes of its module's own unfolding: that behind the design so far, where the wires of its ports come before its items
abbrev pub placed : (prefix : Text) → List Link → Design → (own : Stage) → Stage
placed prefix links d own = let wired = connect_all (moved_names (length d.entries) own.names) (entries_behind prefix d own.design) links in
    stage_behind prefix (record d { assigns = wired.assigns }) own

-- no input is connected to a reset
abbrev pub GivesNoReset : Link → Type 0
GivesNoReset (into x e r) = r ≡ None
GivesNoReset (out_of x t) = Unit {0}

abbrev pub HaveNoReset : List Link → Type 0
HaveNoReset links = All GivesNoReset links

-- where no reset is declared or connected, the visit of an instance is that of its module alone, placed behind the design so far
abbrev pub InstancesAreModules : Type 0
InstancesAreModules =
    (modules : List ModuleTree) (n : ℕ) (prefix : Text) (visiting : List Text) (m : ModuleTree) (overrides : Overrides) (links : List Link) (d : Design) (e : Stage)
    → d.pins ≡ [] → HaveNoReset links → visit modules n prefix visiting m overrides (connected links) d ≡ good e
    → (own : Stage) × (visit modules n [] visiting m overrides (λ s. s) (no_design []) ≡ good own) × (e ≡ placed prefix links d own)
