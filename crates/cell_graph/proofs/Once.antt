-- Items in order, each once: what a sort and a removal of repeated items keep.
use Rattle.std.proofs.Common.{◌≡◌, ◌↔◌, Bool, true, List, [], sym, subst}
use Rattle.std.specs.Cmp.{IsEquivalence}
use Rattle.std.specs.List.{Contains}
use Rattle.std.specs.List.Retain.{IsFiltered, DiffersFromLast}
use Rattle.std.specs.List.Sorted.{IsPermutation}
use Rattle.std.proofs.lemmas.List.Filters.{dedup_is}
use Rattle.std.proofs.lemmas.List.Kept.{Contains-dedup, Contains-from_dedup}
use Rattle.std.proofs.lemmas.List.Sorted.{Contains-permutation, IsPermutation-sym}

pub same_items : {A : Type 0} {eq : A → A → Bool} → IsEquivalence eq → ((a b : A) → eq a b ≡ true → a ≡ b) → (given sorted once : List A) → IsPermutation given sorted
    → IsFiltered (DiffersFromLast eq) [] sorted once → (x : A) → Contains once x ↔ Contains given x
same_items {A} {eq} equal same given sorted once p f x =
    let is = dedup_is eq sorted once f in (
      λ h. Contains-permutation sorted given x (IsPermutation-sym given sorted p) (Contains-from_dedup eq sorted x (subst (λ xs. Contains xs x) is h)),
      λ h. subst (λ xs. Contains xs x) (sym is) (Contains-dedup equal same sorted x (Contains-permutation given sorted x p h)),
    )
