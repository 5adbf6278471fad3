-- Places by the lowest bits of counts.
use Rattle.std.proofs.Common.{◌≡◌, ◌∙◌, ◌↔◌, sym, ap, subst, inl, inr, ℕ, ◌+◌, ◌<◌, ◌≤◌, Bool, true, false, Some, List, [], ◌∷◌}
use Rattle.std.proofs.Common.{◌++◌, length, get_or, take, slice_get, Contains}
use Rattle.std.proofs.lemmas.List.{take_all}
use Rattle.std.proofs.lemmas.List.Elements.{Contains-append_left, Contains-push, Contains-push_cases}
use Rattle.std.proofs.lemmas.Option.{slice_get-get_or}
use Rattle.cdc_base.specs.declared.bit.Bit.{Bit}
use Rattle.cdc_model.proofs.Ascending.{nothing_in}
use Rattle.fifo_parts.specs.Words.{lowest}
use Rattle.fifo_parts.proofs.Sifted.{next_so_far, so_far_cases, still_so_far}

pub at_index : {A : Type 0} (xs : List A) (k : ℕ) (x : A) → k < length xs → x ≡ get_or xs k x → slice_get xs k ≡ Some x
at_index xs k x l is = slice_get-get_or xs k x l ∙ ap Some (sym is)

-- the lowest bit tells the signal
pub lowest_one : (m n : ℕ) → (lowest m ≡ lowest n) ↔ (n ≡ m)
lowest_one m n = (λ e. ap (λ (b : Bit). b.sig) (sym e), λ e. ap lowest (sym e))

-- ---- the lowest bits of the numbers that pass a test

-- the bits are those of the first i numbers
abbrev pub AreLowest : (ℕ → Bool) → List ℕ → ℕ → List Bit → Type 0
AreLowest test counts i bits = (b : Bit) → Contains bits b ↔ ((n : ℕ) × Contains (take i counts) n × (b ≡ lowest n) × (test n ≡ true))

module _ (test : ℕ → Bool) (counts : List ℕ) where
  pub lowest_none : AreLowest test counts 0 []
  lowest_none b = (λ h. absurd (nothing_in b h), λ h. absurd (nothing_in h.0 h.1))

  module _ (i d : ℕ) (l : i < length counts) (bits : List Bit) (h : AreLowest test counts i bits) where
    pub lowest_more : test (get_or counts i d) ≡ true → AreLowest test counts (i + 1) (bits ++ lowest (get_or counts i d) ∷ [])
    lowest_more is b = (
      λ k. elim (Contains-push_cases bits (lowest (get_or counts i d)) b k) [
        | inl j ↦ (let (n, at, e, t) = (h b).0 j in (n, still_so_far counts i d l n at, e, t))
        | inr e ↦ (get_or counts i d, next_so_far counts i d l, sym e, is)
      ],
      λ (n, at, e, t). elim (so_far_cases counts i d l n at) [
        | inl j ↦ Contains-append_left bits (lowest (get_or counts i d) ∷ []) b ((h b).1 (n, j, e, t))
        | inr same ↦ subst (Contains (bits ++ lowest (get_or counts i d) ∷ [])) (ap lowest same ∙ sym e)
            (Contains-push bits (lowest (get_or counts i d)))
      ],
    )

    pub lowest_not : test (get_or counts i d) ≡ false → AreLowest test counts (i + 1) bits
    lowest_not fails b = (
      λ k. let (n, at, e, t) = (h b).0 k in (n, still_so_far counts i d l n at, e, t),
      λ (n, at, e, t). elim (so_far_cases counts i d l n at) [
        | inl j ↦ (h b).1 (n, j, e, t)
        | inr same ↦ never (sym fails ∙ ap test same ∙ t)
      ],
    )
      where
        never : {A : Type 0} → false ≡ true → A
        never e = cc

  -- those of all numbers of which S holds
  pub lowest_all : (i : ℕ) (bits : List Bit) (S : ℕ → Type 0) → length counts ≤ i → ((n : ℕ) → Contains counts n ↔ S n)
      → AreLowest test counts i bits
      → (b : Bit) → Contains bits b ↔ ((n : ℕ) × (b ≡ lowest n) × ((test n ≡ true) × S n))
  lowest_all i bits S l all h b =
      let same = take_all i counts l in (
        λ k. let (n, at, e, t) = (h b).0 k in (n, e, (t, (all n).0 (subst (λ (ns : List ℕ). Contains ns n) same at))),
        λ (n, e, (t, s)). (h b).1 (n, subst (λ (ns : List ℕ). Contains ns n) (sym same) ((all n).1 s), e, t),
      )
