-- Segments, the bits of one signal that one driver drives, and what they depend on.
use Rattle.std.specs.Prelude.{◌≡◌, ℕ, zero, suc, true, false, ◌&&◌, ◌||◌, nat_lt, List, [], ◌∷◌}
use Rattle.flat_meaning.specs.Flat.{Expr, Stmt, Target}
use Rattle.flat_meaning.specs.Assigned.{covers, may_assign}
use Rattle.flat_meaning.specs.Deps.{Bits, wire_deps}
use Rattle.flat_meaning.specs.Law.{expr_reads}
use Rattle.flat_meaning.specs.Design.{Flat, size_in}

-- the bits that the finished tree of a bit's segment is made of: all bits of a segment have the same ones, so a segment depends on itself
-- where one of its bits does
abbrev pub made_by_assigns : (ℕ → ℕ) → List (Target × Expr) → (sig at : ℕ) → Bits
made_by_assigns wid [] s i t j = false
made_by_assigns wid (a ∷ more) s i t j = (covers wid a.0 s i && expr_reads wid a.1 t j) || made_by_assigns wid more s i t j

abbrev pub made_by_combs : (ℕ → ℕ) → List Stmt → (sig at : ℕ) → Bits
made_by_combs wid [] s i t j = false
made_by_combs wid (body ∷ more) s i t j = (may_assign wid body s i && wire_deps wid body s t j) || made_by_combs wid more s i t j

abbrev pub made_of : Flat → (sig at : ℕ) → Bits
made_of f s i t j = nat_lt i (size_in f s) && (made_by_assigns (size_in f) f.assigns s i t j || made_by_combs (size_in f) f.combs s i t j)

-- a bit's segment depends on that of another one through n steps more than one
abbrev pub DependsIn : Flat → ℕ → (sig at sig' at' : ℕ) → Type 0
DependsIn f zero s i t j = made_of f s i t j ≡ true
DependsIn f (suc n) s i t j = (u : ℕ) × (k : ℕ) × (made_of f s i u k ≡ true) × DependsIn f n u k t j

-- no segment depends on itself
abbrev pub IsLoopFree : Flat → Type 0
IsLoopFree f = (n s i : ℕ) → DependsIn f n s i s i → ⊥
