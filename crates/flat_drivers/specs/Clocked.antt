-- The bits that several clocked processes may assign, as they are counted.
use Rattle.std.specs.Prelude.{◌≡◌, ℕ, ◌<◌, Bool, false, cond, not, ◌&&◌, ◌||◌, ◌==◌, nat_eq, nat_le, List, map, Option, Some, None, unwrap_or}
use Rattle.std.specs.HashMap.{get}
use Rattle.flat_form.specs.declared.flat.FlatClocked.{FlatClocked}
use Rattle.flat_form.specs.declared.flat.FlatReset.{FlatReset}
use Rattle.flat_form.specs.View.{stmt_of, reset_of}
use Rattle.flat_form.specs.Masks.{bits_in}
use Rattle.flat_meaning.specs.Deps.{Bits}
use Rattle.flat_meaning.specs.Flat.{Null}
use Rattle.flat_unfolding.specs.Drivers.{Process, processes, times_driven, have_other_edges, is_same_signal}
use Rattle.flat_drivers.specs.declared.clocked.Edges.{Edges}
use Rattle.flat_drivers.specs.declared.clocked.ClockedBits.{ClockedBits}
use Rattle.flat_drivers.specs.Driving.{clocked_in}

-- a clocked process with what its reset tells, if anything
abbrev pub process_of : FlatClocked → Option FlatReset → Process
process_of p None = record { clock = p.clock; edge = None; branch = Null; body = stmt_of p.body }
process_of p (Some r) = record { clock = p.clock; edge = r.edge; branch = stmt_of r.branch; body = stmt_of p.body }

abbrev pub processes_in : List FlatClocked → List FlatReset → List Process
processes_in clocked resets = processes (clocked_in clocked) (map reset_of resets)

abbrev pub edges_of : Process → Edges
edges_of p = record { clock = p.clock; second = p.edge }

-- the edges of the first process that assigns a signal
abbrev pub edges_at : ClockedBits → ℕ → Option Edges
edges_at b s = get nat_eq b.edges s

-- that process runs at other edges
abbrev pub is_apart : Option Edges → Edges → Bool
is_apart None e = false
is_apart (Some first) e = not ((first.clock == e.clock) && is_same_signal first.second e.second)

-- two processes may assign a bit, or they assign its signal at different edges
abbrev pub is_shared_bit : (ℕ → ℕ) → List Process → (sig at : ℕ) → Bool
is_shared_bit wid ps s i = nat_le 2 (times_driven wid ps s i) || have_other_edges ps s

-- no process is counted yet
pub record IsUnused (b : ClockedBits) : Type 0 where
  pub first : (s : ℕ) → edges_at b s ≡ None
  pub once : (s i : ℕ) → bits_in b.once s i ≡ false
  pub twice : (s i : ℕ) → bits_in b.twice s i ≡ false

-- the new ones count one more process, which drives some signals and may assign some bits of them
pub record AddsProcess (wid : ℕ → ℕ) (edges : Edges) (drives : ℕ → Bool) (may : Bits) (old new : ClockedBits) : Type 0 where
  pub first : (s : ℕ) → edges_at new s ≡ cond (drives s) (Some (unwrap_or (edges_at old s) edges)) (edges_at old s)
  pub once : (s i : ℕ) → i < 64 → bits_in new.once s i ≡ (bits_in old.once s i || (drives s && may s i))
  pub twice : (s i : ℕ) → i < wid s → i < 64
      → bits_in new.twice s i ≡ (bits_in old.twice s i || (drives s && (is_apart (edges_at old s) edges || (bits_in old.once s i && may s i))))
