-- Orders of a directed graph's vertices, and loops.
use Rattle.std.specs.Prelude.{◌≡◌, ◌≢◌, ◌⊎◌, ◌↔◌, ℕ, ◌+◌, ◌<◌, ◌≤◌, List, length, take, Some, slice_get}
use Rattle.std.specs.List.{Contains, AllPairs}
use Rattle.driver_loops.specs.Links.{IsLink}

-- v leads to w, through any number of links
pub data Reaches (ls : List (List ℕ)) (v : ℕ) : ℕ → Type 0 where
  here : Reaches ls v v
  link : {u w : ℕ} → Reaches ls v u → IsLink ls u w → Reaches ls v w

-- one of the roots leads to v; a root that is no vertex leads nowhere
pub record IsReached (ls : List (List ℕ)) (roots : List ℕ) (v : ℕ) : Type 0 where
  pub root : ℕ
  pub given : Contains roots root
  pub vertex : root < length ls
  pub way : Reaches ls root v

-- v leads back to itself, through one or more links
pub record LeadsBack (ls : List (List ℕ)) (v : ℕ) : Type 0 where
  pub next : ℕ
  pub first : IsLink ls v next
  pub rest : Reaches ls next v

-- what each vertex of the order links to stands before it
abbrev pub EndsStandBefore : List (List ℕ) → List ℕ → Type 0
EndsStandBefore ls order = (i v w : ℕ) → slice_get order i ≡ Some v → IsLink ls v w → Contains (take i order) w

-- the order in which a depth-first walk leaves vertices: a link out of a front of the order ends at a vertex that
-- leads to the front's last one
abbrev pub IsDepthFirst : List (List ℕ) → List ℕ → Type 0
IsDepthFirst ls order = (i v u w : ℕ) → slice_get order i ≡ Some v → Contains (take (i + 1) order) u → IsLink ls u w
    → Contains (take (i + 1) order) w ⊎ Reaches ls w v

-- all that links of these vertices lead to is among them
abbrev pub IsClosed : List (List ℕ) → List ℕ → Type 0
IsClosed ls vertices = (v w : ℕ) → Contains vertices v → IsLink ls v w → Contains vertices w

-- the first n are those to which these roots lead
pub record IsFront (ls : List (List ℕ)) (roots order : List ℕ) (n : ℕ) : Type 0 where
  pub within : n ≤ length order
  pub reached : (v : ℕ) → Contains (take n order) v ↔ IsReached ls roots v

-- what the roots lead to, and the roots, each once, in a depth-first walk's order
pub record IsOrderOf (ls : List (List ℕ)) (roots order : List ℕ) : Type 0 where
  pub once : AllPairs (λ v w. v ≢ w) order
  pub reached : (v : ℕ) → Contains order v ↔ IsReached ls roots v
  pub depth_first : IsDepthFirst ls order

-- one of these vertices leads back to itself
abbrev pub HasLoop : List (List ℕ) → List ℕ → Type 0
HasLoop ls vertices = (v : ℕ) × Contains vertices v × LeadsBack ls v
