-- Synchronizers by the words that they lead from and the groups that they enter.
use Rattle.std.specs.Prelude.{◌≡◌, ◌<◌, ◌==◌, ◌&&◌, ◌||◌, not, ℕ, suc, Bool, true, false, Option, Some, None, option_map, option_and_then, List, [], ◌∷◌, ◌++◌, map, slice_get}
use Rattle.std.specs.List.Sorted.{IsPermutation, IsSorted}
use Rattle.std.specs.Ordering.{nat_cmp}
use Rattle.cdc_base.specs.declared.bit.Bit.{Bit}
use Rattle.domains.specs.declared.Domains.{Domains}
use Rattle.domains.specs.Assignment.{group_of}
use Rattle.cdc_model.specs.declared.scheme.GrayReg.{GrayReg}
use Rattle.cdc_model.specs.declared.scheme.Sync.{Sync as SyncEntry}
use Rattle.cdc_model.specs.Verdict.{is_code}
use Rattle.cert_check.specs.declared.meetings.Entry.{Entry}

-- the codes of the Gray registers, ascending
abbrev pub AreCodes : List GrayReg → List ℕ → Type 0
AreCodes grays codes = IsPermutation (map (λ (y : GrayReg). y.gray) grays) codes × IsSorted nat_cmp codes

-- a synchronizer from this source into this group
abbrev pub entry_with : Bit → ℕ → Entry
entry_with b g = record { word = b.sig; group = g; at = b.at }

-- a synchronizer's entry, where its first flop has a group
abbrev pub entry_of : Domains → SyncEntry → Option Entry
entry_of domains e = option_and_then (λ f. option_map (entry_with e.from) (group_of domains f)) (slice_get e.flops 0)

-- the entry, if there is one
abbrev pub entry_there : Option Entry → List Entry
entry_there None = []
entry_there (Some e) = e ∷ []

abbrev pub entries_of : Domains → List SyncEntry → List Entry
entries_of domains [] = []
entries_of domains (s ∷ ss) = entry_there (entry_of domains s) ++ entries_of domains ss

-- both lead from one word into one group: from one bit, or the word is no listed code
abbrev pub meet : List GrayReg → Entry → Entry → Bool
meet grays a b = ((a.word == b.word) && (a.group == b.group)) && ((a.at == b.at) || not (is_code grays a.word))

-- no entry before this place meets the one behind it
abbrev pub NoneBefore : List GrayReg → List Entry → ℕ → Type 0
NoneBefore grays entries n = (k : ℕ) (a b : Entry) → k < n → slice_get entries k ≡ Some a → slice_get entries (suc k) ≡ Some b → meet grays a b ≡ false

-- the word and group of the first entry that meets the one behind it; none does
abbrev pub IsFirstPair : List GrayReg → List Entry → Option (ℕ × ℕ) → Type 0
IsFirstPair grays entries None = (k : ℕ) (a b : Entry) → slice_get entries k ≡ Some a → slice_get entries (suc k) ≡ Some b → meet grays a b ≡ false
IsFirstPair grays entries (Some p) = (k : ℕ) × (a : Entry) × (b : Entry) × (slice_get entries k ≡ Some a) × (slice_get entries (suc k) ≡ Some b) × (meet grays a b ≡ true)
    × (p.0 ≡ a.word) × (p.1 ≡ a.group) × NoneBefore grays entries k
