-- The findings of all numbers, one number after another.
use Rattle.std.proofs.Common.{◌≡◌, inl, inr, refl, sym, subst, arith, ℕ, ◌+◌, ◌<◌, ◌≤◌, true, Bool, List, [], ◌∷◌, ◌++◌, map}
use Rattle.std.specs.List.{AllByRecursion}
use Rattle.std.proofs.lemmas.Bool.{cases_lt}
use Rattle.std.proofs.lemmas.List.{map-append}
use Rattle.std.proofs.lemmas.List.Elements.{Contains-append_cases, Contains-append_left, Contains-append_right}
use Rattle.cdc_base.specs.declared.bit.Bit.{Bit}
use Rattle.cdc_model.specs.declared.scheme.GrayReg.{GrayReg}
use Rattle.cdc_model.specs.declared.scheme.Load.{Load}
use Rattle.cdc_model.specs.declared.verdict.Finding.{Finding as FindingEntry}
use Rattle.cdc_model.specs.Design.{Design}
use Rattle.cdc_model.specs.Ordered.{IsAll, is_before}
use Rattle.cdc_model.specs.Schemes.{Trees, Sync, Ring}
use Rattle.cdc_model.specs.Verdict.{Finding, V1, V2, V3, V4, V5, V6, V7, V8, IsFinding, bit_key, finding_key}
use Rattle.cdc_model.proofs.Ascending.{ascending, joined_ascend, less_before, nothing_in}
use Rattle.obligations.specs.Findings.{AreAdded, AreFindings, IsShownBy, finding_of, number_of}
use Rattle.cdc_model.proofs.Keys.{ascends}

-- a finding's key begins with its number
key_rest : Finding → List ℕ
key_rest (V1 b x) = bit_key x (bit_key b [])
key_rest (V2 b x) = bit_key x (bit_key b [])
key_rest (V3 w g) = w ∷ g ∷ []
key_rest (V4 b g) = bit_key b (g ∷ [])
key_rest (V5 w g) = w ∷ g ∷ []
key_rest (V6 x g) = bit_key x (g ∷ [])
key_rest (V7 b x n) = bit_key x (bit_key b [])
key_rest (V8 b x n) = bit_key x (bit_key b [])

key_is : (f : Finding) → finding_key f ≡ number_of f ∷ key_rest f
unfolding key_rest
key_is (V1 b x) = refl
key_is (V2 b x) = refl
key_is (V3 w g) = refl
key_is (V4 b g) = refl
key_is (V5 w g) = refl
key_is (V6 x g) = refl
key_is (V7 b x n) = refl
key_is (V8 b x n) = refl

before_by_number : (f g : Finding) → number_of f < number_of g → is_before (finding_key f) (finding_key g) ≡ true
before_by_number f g l = subst (λ ks. is_before ks (finding_key g) ≡ true) (sym (key_is f)) (subst (λ ks. is_before (number_of f ∷ key_rest f) ks ≡ true) (sym (key_is g))
    (less_before (number_of f) (number_of g) (key_rest f) (key_rest g) l))

-- numbers go from 1 to 8
numbers : (f : Finding) → (1 ≤ number_of f) × (number_of f ≤ 8)
numbers (V1 b x) = (omega arith, omega arith)
numbers (V2 b x) = (omega arith, omega arith)
numbers (V3 w g) = (omega arith, omega arith)
numbers (V4 b g) = (omega arith, omega arith)
numbers (V5 w g) = (omega arith, omega arith)
numbers (V6 x g) = (omega arith, omega arith)
numbers (V7 b x n) = (omega arith, omega arith)
numbers (V8 b x n) = (omega arith, omega arith)

both_shown : (P : FindingEntry → Type 0) (xs ys : List FindingEntry) → AllByRecursion P xs → AllByRecursion P ys → AllByRecursion P (xs ++ ys)
both_shown P [] ys h k = k
both_shown P (x ∷ xs) ys h k = (h.0, both_shown P xs ys h.1 k)

module _ (d : Design) (t : Trees) (grays : List GrayReg) (syncs : List Sync) (rings : List Ring) (loads : List Load) (is_extra : Bit → Bit → Bool) where
  abbrev Is : Finding → Type 0
  Is = IsFinding d t grays syncs rings loads is_extra

  -- These are the findings up to a number.
  pub record AreUpTo (n : ℕ) (entries : List FindingEntry) : Type 0 where
    pub all : IsAll (λ f. Is f × (number_of f ≤ n)) finding_key (map finding_of entries)
    pub shown : AllByRecursion (IsShownBy d t syncs) entries

  pub none_yet : AreUpTo 0 []
  none_yet = record {
    all = record { all = λ f h. absurd (omega (arith, (numbers f).0, h.1)); only = λ f i. absurd (nothing_in f i); ordered = ascending finding_key [] tt };
    shown = tt;
  }

  joined : (n : ℕ) (fs gs : List Finding) → IsAll (λ f. Is f × (number_of f ≤ n)) finding_key fs → IsAll (λ f. Is f × (number_of f ≡ n + 1)) finding_key gs → IsAll (λ f. Is f × (number_of f ≤ n + 1)) finding_key (fs ++ gs)
  joined n fs gs h k = record {
    all = λ f is. elim (cases_lt n (number_of f)) [
      | inl l ↦ Contains-append_right fs gs f (k.all f (is.0, omega (arith, l, is.1)))
      | inr l ↦ Contains-append_left fs gs f (h.all f (is.0, l))
    ];
    only = λ f i. elim (Contains-append_cases fs gs f i) [
      | inl j ↦ let is = h.only f j in (is.0, omega (arith, is.1))
      | inr j ↦ let is = k.only f j in (is.0, omega (arith, is.1))
    ];
    ordered = ascending finding_key (fs ++ gs) (joined_ascend finding_key fs gs (ascends finding_key fs h.ordered) (ascends finding_key gs k.ordered)
        (λ f g i j. before_by_number f g (omega (arith, (h.only f i).1, (k.only g j).1))));
  }

  pub one_number_more : (n : ℕ) (old new : List FindingEntry) → AreUpTo n old → AreAdded d t grays syncs rings loads is_extra (n + 1) old new → AreUpTo (n + 1) new
  one_number_more n old new h (more, added, numbered) = subst (AreUpTo (n + 1)) (sym added) (record {
    all = subst (IsAll (λ f. Is f × (number_of f ≤ n + 1)) finding_key) (sym (map-append finding_of old more)) (joined n (map finding_of old) (map finding_of more) h.all numbered.all);
    shown = both_shown (IsShownBy d t syncs) old more h.shown numbered.shown;
  })

  pub all_numbers : (entries : List FindingEntry) → AreUpTo 8 entries → AreFindings d t grays syncs rings loads is_extra entries
  all_numbers entries h = record {
    all = record { all = λ f is. h.all.all f (is, (numbers f).1); only = λ f i. (h.all.only f i).0; ordered = h.all.ordered };
    shown = h.shown;
  }
