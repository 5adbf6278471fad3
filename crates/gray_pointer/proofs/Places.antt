-- The place of the register with a signal.
use Rattle.std.proofs.Common.{◌≡◌, ◌∙◌, sym, ap, arith, inl, inr, ◌⊎◌, ℕ, ◌<◌, ◌≤◌, List, length, get_or, Some, Ok, Err, slice_get}
use Rattle.std.specs.List.Sorted.{IsBinarySearchResult, IsNonDecreasingBy}
use Rattle.std.specs.Ordering.{nat_cmp, ordering_index}
use Rattle.std.proofs.lemmas.Bool.{cases_lt}
use Rattle.std.proofs.lemmas.Bool.Decides.{nat_tests}
use Rattle.std.proofs.lemmas.Cmp.{ranked}
use Rattle.std.proofs.lemmas.List.Sorted.{IsNonDecreasingBy-from_default}
use Rattle.std.proofs.lemmas.Option.{slice_get-get_or, slice_get_within}
use Rattle.gray_pointer.specs.declared.register.Register.{Register}
use Rattle.gray_pointer.specs.Registers.{Ascend}
use Rattle.gray_pointer.proofs.Registers.{ascend_at}

abbrev none : Register
none = record { sig = 0; width = 0; clock = 0; start = 0; next = record { 0 = 0 } }

abbrev sig_at : List Register → ℕ → ℕ
sig_at rs i = (get_or rs i none).sig

module _ (rs : List Register) (h : Ascend rs) (k : ℕ) where
  rise : (i j : ℕ) → i < j → j < length rs → sig_at rs i < sig_at rs j
  rise i j l m = ascend_at rs h i j (get_or rs i none) (get_or rs j none) l (slice_get-get_or rs i none (omega arith)) (slice_get-get_or rs j none m)

  comparisons_rise : IsNonDecreasingBy (λ r. ordering_index (nat_cmp r.sig k)) rs
  comparisons_rise = IsNonDecreasingBy-from_default (λ r. ordering_index (nat_cmp r.sig k)) rs none (λ i j le in_range.
      let keys_rise : sig_at rs i ≤ sig_at rs j = grind (arith, rise i j, λ (same : i ≡ j). ap (sig_at rs) same) in
      grind (arith, nat_tests))

  module _ (place : ℕ) (r : Register) (at : slice_get rs place ≡ Some r) (same : r.sig ≡ k) where
    within : place < length rs
    within = slice_get_within rs place r at

    sig_is : sig_at rs place ≡ k
    sig_is =
        let e : Some (get_or rs place none) ≡ Some r = sym (slice_get-get_or rs place none within) ∙ at in
        let f : get_or rs place none ≡ r = cc in
        ap (λ (q : Register). q.sig) f ∙ same

    pub place_found : (i : ℕ) → i < length rs → IsBinarySearchResult (λ q. nat_cmp q.sig k) rs (Ok i) → i ≡ place
    place_found i l equal = go (cases_lt i place) (cases_lt place i)
      where
        here : sig_at rs i ≡ k
        here = ranked _ k _ (sym (equal none))

        go : (i < place) ⊎ (place ≤ i) → (place < i) ⊎ (i ≤ place) → i ≡ place
        go (inl a) b = let m = rise i place a within in let e = here in let f = sig_is in absurd (omega arith)
        go (inr a) (inl b) = let m = rise place i b l in let e = here in let f = sig_is in absurd (omega arith)
        go (inr a) (inr b) = omega arith

    pub place_absent : (i : ℕ) → IsBinarySearchResult (λ q. nat_cmp q.sig k) rs (Err i) → ⊥
    place_absent i parted = elim (cases_lt place i) [
      | inl l ↦ (let s = ranked _ k _ (sym ((parted comparisons_rise).0 place none (omega arith) l)) in omega (arith, s, sig_is))
      | inr l ↦ (let s = ranked _ k _ (sym ((parted comparisons_rise).1 place none l within)) in omega (arith, s, sig_is))
    ]
