-- The marks of a walk: of each place the bits that it has met.
use Rattle.std.specs.Prelude.{◌≡◌, ℕ, ◌≤◌, ◌==◌, cond, List, map, Some, slice_get, unwrap_or}
use Rattle.cofactor.specs.declared.marks.Mark.{Mark}

-- what the walk of this number has met, by one mark and by all
abbrev pub met_by : ℕ → Mark → ℕ
met_by walk m = cond (m.walk == walk) m.bits 0

abbrev pub bits_met : ℕ → List Mark → List ℕ
bits_met walk marks = map (met_by walk) marks

-- no mark is of a later walk
abbrev pub AreEarlier : ℕ → List Mark → Type 0
AreEarlier walk marks = (k : ℕ) (m : Mark) → slice_get marks k ≡ Some m → m.walk ≤ walk

-- the bits met at a place
abbrev pub marked : List ℕ → ℕ → ℕ
marked words place = unwrap_or (slice_get words place) 0
