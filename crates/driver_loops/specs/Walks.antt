-- What a depth-first walk keeps.
use Rattle.std.specs.Prelude.{◌≡◌, ◌≢◌, ◌⊎◌, ◌↔◌, ℕ, ◌<◌, Bool, true, not, List, [], ◌++◌, length, map, Some, slice_get, unwrap_or}
use Rattle.std.specs.List.{Contains, AllPairs}
use Rattle.driver_loops.specs.declared.walk.Step.{Step}
use Rattle.driver_loops.specs.declared.walk.Walk.{Walk}
use Rattle.driver_loops.specs.Links.{IsLink, ends_of}
use Rattle.driver_loops.specs.Orders.{Reaches, IsReached, IsDepthFirst, IsClosed}

abbrev pub IsMarked : List Bool → ℕ → Type 0
IsMarked marks v = slice_get marks v ≡ Some true

-- there is a place for the vertex's mark, and no mark
abbrev pub is_unmarked : List Bool → ℕ → Bool
is_unmarked marks v = not (unwrap_or (slice_get marks v) true)

abbrev pub first_step : ℕ → Step
first_step v = record { vertex = v; followed = 0 }

-- a walk between two roots: all that it entered is done
pub record IsDone (ls : List (List ℕ)) (entered : List Bool) (order : List ℕ) : Type 0 where
  pub size : length entered ≡ length ls
  pub marked : (v : ℕ) → Contains order v → IsMarked entered v
  pub met : (v : ℕ) → IsMarked entered v → Contains order v
  pub once : AllPairs (λ v w. v ≢ w) order
  pub closed : IsClosed ls order
  pub depth_first : IsDepthFirst ls order

-- one vertex leads to the other, and isn't it
pub record LeadsOn (ls : List (List ℕ)) (v w : ℕ) : Type 0 where
  pub way : Reaches ls v w
  pub other : v ≢ w

-- the vertices of a walk on its way from a root; those of `base` were done before
pub record IsWay (ls : List (List ℕ)) (base : List ℕ) (root : ℕ) (entered : List Bool) (way order : List ℕ) : Type 0 where
  pub size : length entered ≡ length ls
  pub marked : (v : ℕ) → Contains order v → IsMarked entered v
  pub on_way : (v : ℕ) → Contains way v → IsMarked entered v
  pub met : (v : ℕ) → IsMarked entered v → Contains order v ⊎ Contains way v
  pub once : AllPairs (λ v w. v ≢ w) order
  pub apart : (v : ℕ) → Contains way v → Contains order v → ⊥
  pub leads : AllPairs (LeadsOn ls) way
  pub closed : (v w : ℕ) → Contains order v → IsLink ls v w → IsMarked entered w
  pub depth_first : IsDepthFirst ls order
  pub longer : (rest : List ℕ) × (order ≡ base ++ rest)
  pub base_closed : IsClosed ls base
  pub begun : root < length ls → IsMarked entered root
  pub only : (v : ℕ) → IsMarked entered v → Contains base v ⊎ ((root < length ls) × Reaches ls root v)

-- what the followed links of the way lead to was entered
abbrev pub AreFollowed : List (List ℕ) → List Bool → List Step → Type 0
AreFollowed ls entered way = (s : Step) (k w : ℕ) → Contains way s → k < s.followed → slice_get (ends_of ls s.vertex) k ≡ Some w → w < length ls → IsMarked entered w

pub record IsWalk (ls : List (List ℕ)) (base : List ℕ) (root : ℕ) (entered : List Bool) (way : List Step) (order : List ℕ) : Type 0 where
  pub vertices : IsWay ls base root entered (map (λ (s : Step). s.vertex) way) order
  pub followed : AreFollowed ls entered way

-- a walk from these roots, between two of them
pub record HasWalked (ls : List (List ℕ)) (roots : List ℕ) (walk : Walk) : Type 0 where
  pub way : walk.way.items ≡ []
  pub done : IsDone ls walk.entered.items walk.order.items
  pub reached : (v : ℕ) → Contains walk.order.items v ↔ IsReached ls roots v
