-- Two lists side by side, from their ends.
use Rattle.std.proofs.Common.{◌≡◌, List, [], ◌∷◌, ◌++◌, refl, ap}
use Rattle.flat_statements.specs.Masks.{SideBySide}

pub side-push : {A B : Type 0} (P : A → B → Type 0) (xs : List A) (ys : List B) (x : A) (y : B) → SideBySide P xs ys → P x y → SideBySide P (xs ++ x ∷ []) (ys ++ y ∷ [])
side-push P [] [] x y h p = (p, tt)
side-push P [] (b ∷ ys) x y h p = absurd h
side-push P (a ∷ xs) [] x y h p = absurd h
side-push P (a ∷ xs) (b ∷ ys) x y h p = (h.0, side-push P xs ys x y h.1 p)

-- what stands beside the last of a list, and beside those before it
pub record IsSideOfLast {A B : Type 0} (P : A → B → Type 0) (xs : List A) (ys : List B) (y : B) : Type 0 where
  pub before : List A
  pub last : A
  pub whole : xs ≡ before ++ last ∷ []
  pub are : SideBySide P before ys
  pub is : P last y

pub side-last : {A B : Type 0} (P : A → B → Type 0) (xs : List A) (ys : List B) (y : B) → SideBySide P xs (ys ++ y ∷ []) → IsSideOfLast P xs ys y
side-last P [] [] y h = absurd h
side-last P [] (b ∷ ys) y h = absurd h
side-last P (a ∷ []) [] y h = record { before = []; last = a; whole = refl; are = tt; is = h.0 }
side-last P (a ∷ c ∷ xs) [] y h = absurd h.1
side-last P (a ∷ xs) (b ∷ ys) y h = let l = side-last P xs ys y h.1 in record { before = a ∷ l.before; last = l.last; whole = ap (λ zs. a ∷ zs) l.whole; are = (h.0, l.are); is = l.is }
