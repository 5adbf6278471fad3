-- Lists that hold exactly what is asked for, in the order of keys.
use Rattle.std.specs.Prelude.{◌≡◌, ℕ, ◌<◌, ◌==◌, nat_lt, Bool, true, false, ◌&&◌, ◌||◌, Some, List, [], ◌∷◌, Contains, slice_get}

-- the first key comes before the second, as in a dictionary
abbrev pub is_before : List ℕ → List ℕ → Bool
is_before [] [] = false
is_before [] (n ∷ ns) = true
is_before (m ∷ ms) [] = false
is_before (m ∷ ms) (n ∷ ns) = nat_lt m n || ((m == n) && is_before ms ns)

-- the items ascend by their keys
abbrev pub IsAscending : {A : Type 0} → (A → List ℕ) → List A → Type 0
IsAscending {A} key xs = (i j : ℕ) (x y : A) → i < j → slice_get xs i ≡ Some x → slice_get xs j ≡ Some y → is_before (key x) (key y) ≡ true

-- The list holds exactly the items of which P holds, each once, ascending by their keys.
pub record IsAll {A : Type 0} (P : A → Type 0) (key : A → List ℕ) (xs : List A) : Type 0 where
  pub all : (x : A) → P x → Contains xs x
  pub only : (x : A) → Contains xs x → P x
  pub ordered : IsAscending key xs
