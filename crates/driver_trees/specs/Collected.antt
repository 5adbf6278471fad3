-- The bits that are collected, signal by signal, and the runs of bits in a word.
use Rattle.std.specs.Prelude.{◌≡◌, ℕ, zero, suc, ◌+◌, ◌-◌, ◌<◌, ◌≤◌, Bool, cond, ◌||◌, ◌==◌, List, [], ◌∷◌, Option, Some, None, is_some, unwrap_or}
use Rattle.std.specs.Ordering.{nat_cmp}
use Rattle.std.specs.BTreeMap.{BTreeMap, get}
use Rattle.cell_graph.specs.Tree.{bit_at}
use Rattle.flat_meaning.specs.Assigned.{Done}
use Rattle.flat_meaning.specs.Pieces as meaning
use Rattle.flat_meaning.specs.Pieces.{add_bit}
use Rattle.driver_trees.specs.declared.mask.Run.{Run}

abbrev pub has_bit : BTreeMap ℕ ℕ → Done
has_bit m x i = bit_at (unwrap_or (get nat_cmp m x) 0) i

-- exactly these signals, and these of their bits, are added
pub record Adds (old new : BTreeMap ℕ ℕ) (assigned : ℕ → Bool) (may : Done) : Type 0 where
  pub keys : (x : ℕ) → is_some (get nat_cmp new x) ≡ (is_some (get nat_cmp old x) || assigned x)
  pub bits : (x i : ℕ) → i < 64 → has_bit new x i ≡ (has_bit old x i || may x i)

-- what is added so far makes, with what is left, all
pub record AddsSome (old now : BTreeMap ℕ ℕ) (left all : ℕ → Bool) (left_bits all_bits : Done) : Type 0 where
  pub keys : (x : ℕ) → (is_some (get nat_cmp now x) || left x) ≡ (is_some (get nat_cmp old x) || all x)
  pub bits : (x i : ℕ) → i < 64 → (has_bit now x i || left_bits x i) ≡ (has_bit old x i || all_bits x i)

-- ---- runs

abbrev pub run_of : Run → meaning.Run
run_of r = record { at = r.at; bits = r.width }

-- the longest runs of a set among k places from one on
abbrev pub runs_from : (ℕ → Bool) → (at k : ℕ) → List meaning.Run
runs_from p at zero = []
runs_from p at (suc k) = cond (p at) (add_bit at (runs_from p (suc at) k)) (runs_from p (suc at) k)

-- bits from `low` to below `at`, which the first run goes on where it begins at `at`
abbrev pub longer : (low at : ℕ) → List meaning.Run → List meaning.Run
longer low at [] = record { at = low; bits = at - low } ∷ []
longer low at (r ∷ rs) = cond (r.at == at) (record { at = low; bits = (at - low) + r.bits } ∷ rs) (record { at = low; bits = at - low } ∷ r ∷ rs)

-- a run that has begun, if there is one, and the runs above
abbrev pub begun : Option ℕ → (at : ℕ) → List meaning.Run → List meaning.Run
begun None at rs = rs
begun (Some low) at rs = longer low at rs

abbrev pub IsBegun : Option ℕ → ℕ → Type 0
IsBegun None at = Unit {0}
IsBegun (Some low) at = low < at

-- the first run is above that place
abbrev pub IsAbove : ℕ → List meaning.Run → Type 0
IsAbove at [] = Unit {0}
IsAbove at (r ∷ rs) = at < r.at

-- a run of a bit or more, of a word of so many bits
abbrev pub IsRunIn : ℕ → meaning.Run → Type 0
IsRunIn whole r = (1 ≤ r.bits) × (r.at + r.bits ≤ whole)
