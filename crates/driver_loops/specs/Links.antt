-- Directed graphs, and how they are kept.
use Rattle.std.specs.Prelude.{◌≡◌, ◌↔◌, ℕ, ◌<◌, ◌≤◌, List, [], ◌∷◌, ◌++◌, length, unwrap_or, slice_get, slice_range}
use Rattle.std.specs.List.{Contains}

-- the ends of a vertex's links; none where there is no such vertex
abbrev pub ends_of : List (List ℕ) → ℕ → List ℕ
ends_of ls v = unwrap_or (slice_get ls v) []

-- a link from one vertex to another; an end that is no vertex makes none
pub record IsLink (ls : List (List ℕ)) (v w : ℕ) : Type 0 where
  pub end : Contains (ends_of ls v) w
  pub vertex : w < length ls

-- the links of these vertices, turned round
pub record IsReversed (ls : List (List ℕ)) (vertices : List ℕ) (back : List (List ℕ)) : Type 0 where
  pub size : length back ≡ length ls
  pub turned : (v w : ℕ) → Contains (ends_of back w) v ↔ (Contains vertices v × IsLink ls v w)

-- the last vertex leads to these as well
abbrev pub extended : List (List ℕ) → List ℕ → List (List ℕ)
extended [] more = []
extended (r ∷ []) more = (r ++ more) ∷ []
extended (r ∷ s ∷ rs) more = r ∷ extended (s ∷ rs) more

-- ---- how links are kept: all ends in one list, and for each vertex the place of its first one

-- where the first of these vertices begins, or the end of all
abbrev pub first_start : List ℕ → ℕ → ℕ
first_start [] n = n
first_start (s ∷ ss) n = s

-- where a vertex begins, or the end of all
abbrev pub start_at : List ℕ → ℕ → ℕ → ℕ
start_at ss v n = unwrap_or (slice_get ss v) n

-- each vertex's ends stand up to where the next vertex begins
abbrev pub rows : List ℕ → List ℕ → List (List ℕ)
rows [] ends = []
rows (s ∷ ss) ends = slice_range ends s (first_start ss (length ends)) ∷ rows ss ends

-- the places ascend and none is past the end
abbrev pub AreStarts : List ℕ → ℕ → Type 0
AreStarts [] n = Unit {0}
AreStarts (s ∷ ss) n = (s ≤ first_start ss n) × AreStarts ss n
