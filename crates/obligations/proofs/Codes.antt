-- What a search among Gray registers by their codes finds.
use Rattle.std.proofs.Common.{◌≡◌, inl, inr, sym, arith, ℕ, ◌+◌, ◌<◌, ◌≤◌, ◌==◌, ◌&&◌, nat_lt, true, false, Equal, List, [], ◌∷◌, length, get_or, Result, eqb-true, eq-eqb, ltb-true}
use Rattle.std.specs.Cmp.{both_ways}
use Rattle.std.specs.List.Sorted.{IsSortedBy, IsBinarySearchResult, IsSearchInRange}
use Rattle.std.specs.Ordering.{is_lt, nat_cmp}
use Rattle.std.specs.Result.{is_ok}
use Rattle.std.proofs.lemmas.Bool.{and_parts, or_cases}
use Rattle.std.proofs.lemmas.Bool.Decides.{nat_tests}
use Rattle.std.proofs.lemmas.Cmp.{nat_cmp_total, ranked}
use Rattle.std.proofs.lemmas.List.Folds.{Any-from_list_any, list_any-from_Any}
use Rattle.std.proofs.lemmas.Option.{slice_get-get_or}
use Rattle.cdc_model.specs.declared.scheme.GrayReg.{GrayReg}
use Rattle.cdc_model.specs.Ordered.{IsAscending, is_before}
use Rattle.cdc_model.specs.Verdict.{gray_key, is_code}
use Rattle.cdc_model.proofs.Keys.{found}

-- the first number of an earlier key isn't greater
first_rises : (m n : ℕ) (ms ns : List ℕ) → is_before (m ∷ ms) (n ∷ ns) ≡ true → m ≤ n
first_rises m n ms ns h = elim (or_cases (nat_lt m n) ((m == n) && is_before ms ns) h) [
  | inl l ↦ (let p : m < n = ltb-true m n l in omega arith)
  | inr e ↦ (let p : m ≡ n = eqb-true m n (and_parts (m == n) (is_before ms ns) e).0 in omega arith)
]

no_less : (m n : ℕ) → m ≤ n → is_lt (nat_cmp n m) ≡ false
no_less m n l = grind (arith, nat_tests)

module _ (grays : List GrayReg) (up : IsAscending gray_key grays) (word : ℕ) where
  rising : IsSortedBy (λ (g : GrayReg) (h : GrayReg). is_lt (nat_cmp g.gray h.gray)) grays
  rising k d l m =
      let g = get_or grays k d in
      let h = get_or grays (k + 1) d in
      no_less g.gray h.gray (first_rises g.gray h.gray (g.count ∷ []) (h.count ∷ []) (up k (k + 1) g h (omega arith) (slice_get-get_or grays k d (omega arith)) (slice_get-get_or grays (k + 1) d m)))

  pub code_found : (r : Result ℕ ℕ) → IsSearchInRange r (length grays) → IsBinarySearchResult (λ (g : GrayReg). nat_cmp g.gray word) grays r → is_ok r ≡ is_code grays word
  code_found r range h =
      let at = found nat_cmp nat_cmp_total (λ a b e. ranked a b Equal (sym e)) (λ (g : GrayReg). g.gray) grays word r rising range h in
      both_ways (is_ok r) (is_code grays word)
      (λ e. let g = at.0 e in list_any-from_Any (λ (g : GrayReg). g.gray == word) grays (g.1.0, g.0, g.1.1, g.1.2, eq-eqb g.0.gray word g.2))
      (λ e. let (k, g, l, is, p) = Any-from_list_any (λ (g : GrayReg). g.gray == word) grays e in at.1 (g, (k, l, is), eqb-true g.gray word p))
