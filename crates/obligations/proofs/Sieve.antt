-- The uncovered ones among the first crossings of a list.
use Rattle.std.proofs.Common.{◌≡◌, ◌∙◌, ◌⊎◌, inl, inr, sym, ap, ap₂, subst, arith, ℕ, ◌+◌, ◌<◌, ◌≤◌, true, Some, List, [], ◌∷◌, ◌++◌, length, slice_get, Contains}
use Rattle.std.proofs.lemmas.Bool.{cases_lt}
use Rattle.std.proofs.lemmas.List.Elements.{Contains-append_cases, Contains-append_left, Contains-append_right}
use Rattle.cdc_model.specs.declared.scheme.Crossing.{Crossing}
use Rattle.cdc_model.specs.Ordered.{IsAll, IsAscending, is_before}
use Rattle.cdc_model.specs.Verdict.{crossing_key}
use Rattle.cdc_model.proofs.Ascending.{Ascends, ascending, joined_ascend, here, nothing_in, parts}
use Rattle.cdc_model.proofs.Justify.{in_slice}
use Rattle.obligations.specs.declared.bare.Lack.{Lack}
use Rattle.obligations.specs.declared.bare.Uncovered.{Uncovered}
use Rattle.obligations.specs.Bare.{uncovered_key}

-- one of the first n
abbrev pub IsInFirst : List Crossing → ℕ → Crossing → Type 0
IsInFirst ks n k = (i : ℕ) × (i < n) × (slice_get ks i ≡ Some k)

-- The list has exactly those of the first n crossings of which P holds, in order.
pub record AreInFirst (P : Uncovered → Type 0) (ks : List Crossing) (n : ℕ) (us : List Uncovered) : Type 0 where
  pub all : (u : Uncovered) → IsInFirst ks n u.crossing → P u → Contains us u
  pub only : (u : Uncovered) → Contains us u → IsInFirst ks n u.crossing × P u
  pub ordered : Ascends uncovered_key us

pub none_in_first : (P : Uncovered → Type 0) (ks : List Crossing) → AreInFirst P ks 0 []
none_in_first P ks = record { all = λ u i p. absurd (omega (arith, i.1)); only = λ u i. absurd (nothing_in u i); ordered = tt }

module _ (P : Uncovered → Type 0) (ks : List Crossing) (n : ℕ) (k : Crossing) (at : slice_get ks n ≡ Some k) (us : List Uncovered) (are : AreInFirst P ks n us) where
  last_or : (c : Crossing) → IsInFirst ks (n + 1) c → IsInFirst ks n c ⊎ (c ≡ k)
  last_or c i = elim (cases_lt i.0 n) [
    | inl l ↦ inl (i.0, l, i.2)
    | inr l ↦ let e : i.0 ≡ n = omega (arith, l, i.1) in let h : Some c ≡ Some k = sym i.2 ∙ ap (slice_get ks) e ∙ at in inr (cc)
  ]

  still : (c : Crossing) → IsInFirst ks n c → IsInFirst ks (n + 1) c
  still c i = (i.0, omega (arith, i.1), i.2)

  -- the next crossing isn't one
  pub one_skipped : ((lack : Lack) → P (record { crossing = k; lack = lack }) → ⊥) → AreInFirst P ks (n + 1) us
  one_skipped none = record {
    all = λ u i p. elim (last_or u.crossing i) [ inl j ↦ are.all u j p | inr e ↦ absurd (none u.lack (subst (λ (c : Crossing). P (record { crossing = c; lack = u.lack })) e p)) ];
    only = λ u i. let h = are.only u i in (still u.crossing h.0, h.1);
    ordered = are.ordered;
  }

  -- the next crossing is one, by one lack
  pub one_kept : IsAscending crossing_key ks → (lack : Lack) → P (record { crossing = k; lack = lack }) → ((other : Lack) → P (record { crossing = k; lack = other }) → lack ≡ other)
      → AreInFirst P ks (n + 1) (us ++ record { crossing = k; lack = lack } ∷ [])
  one_kept up lack is one = record {
    all = λ u i p. elim (last_or u.crossing i) [
      | inl j ↦ Contains-append_left us (v ∷ []) u (are.all u j p)
      | inr e ↦ Contains-append_right us (v ∷ []) u (subst (Contains (v ∷ [])) (ap₂ uncovered (sym e) (one u.lack (subst (λ (c : Crossing). P (uncovered c u.lack)) e p))) (here v []))
    ];
    only = λ u i. elim (Contains-append_cases us (v ∷ []) u i) [
      | inl j ↦ let h = are.only u j in (still u.crossing h.0, h.1)
      | inr j ↦ let e = only_one u j in subst (λ (w : Uncovered). IsInFirst ks (n + 1) w.crossing × P w) e ((n, omega arith, at), is)
    ];
    ordered = joined_ascend uncovered_key us (v ∷ []) are.ordered ((λ y i. absurd (nothing_in y i)), tt) (λ x y i j.
        let f = (are.only x i).0 in
        subst (λ (w : Uncovered). is_before (uncovered_key x) (uncovered_key w) ≡ true) (only_one y j) (up f.0 n x.crossing k f.1 f.2 at));
  }
    where
      uncovered : Crossing → Lack → Uncovered
      uncovered c l = record { crossing = c; lack = l }

      v : Uncovered
      v = record { crossing = k; lack = lack }

      only_one : (u : Uncovered) → Contains (v ∷ []) u → v ≡ u
      only_one u i = elim (parts v [] u i) [ inl e ↦ e | inr j ↦ absurd (nothing_in u j) ]

-- in the end they are all
pub all_in_first : (P : Uncovered → Type 0) (ks : List Crossing) (n : ℕ) (us : List Uncovered) → length ks ≤ n → ((u : Uncovered) → P u → Contains ks u.crossing) → AreInFirst P ks n us → IsAll P uncovered_key us
all_in_first P ks n us l inside are = record {
  all = λ u p. let i = inside u p in are.all u (i.0, omega (arith, i.1, l), in_slice ks u.crossing i) p;
  only = λ u i. (are.only u i).1;
  ordered = ascending uncovered_key us are.ordered;
}
