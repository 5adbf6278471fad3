-- Signals and bits whose printed names differ are found by them.
use Rattle.std.proofs.Common.{◌≡◌, ◌≢◌, ◌∙◌, ℕ, zero, suc, ◌+◌, ◌-◌, ◌<◌, ◌≤◌, max, min, nat_le, Bool, true, false, cond, List, [], ◌∷◌, ◌++◌, map, inl, inr, Some, None, option_map, refl, sym, ap, ap₂, subst, arith, rules, bytes_eq, codes, decimal}
use Rattle.std.specs.Prelude.{slice_get, if◌then◌else◌}
use Rattle.std.specs.List.{AllByRecursion, position_from}
use Rattle.std.proofs.lemmas.Bool.{cases_lt}
use Rattle.std.proofs.lemmas.Bool.Decides.{nat_tests}
use Rattle.std.proofs.lemmas.List.{same_from_push}
use Rattle.std.proofs.lemmas.Slice.Eq.{bytes_eq-Decides}
use Rattle.cdc_base.specs.declared.bit.Bit.{Bit}
use Rattle.cdc_base.specs.declared.signal.Signal.{Signal}
use Rattle.cdc_base.specs.Bits.{bit_ending, bit_text, index_of}
use Rattle.flat_unfolding.specs.Outcome.{Text}
use Rattle.signal_names.specs.Laws.{AreDifferent, IsNotAmong}
use Rattle.signal_names.specs.Paths.{IsPrinted, path_text}
use Rattle.domains.specs.Tables.{or_else}
use Rattle.run_file.specs.Names.{bit_from, offset_named}
use Rattle.found_names.proofs.Decimals.{near-same}
use Rattle.found_names.proofs.Ranges.{IsRanged}
use Rattle.found_names.proofs.Parts.{IsEnding, name-cut, tail-is}

-- bits by a range, in a word
pub record HasRange (s : Signal) : Type 0 where
  pub ranged : IsRanged s
  pub word : s.width ≤ 64

-- a signal with a printed name, and bits by its range
pub record IsTold (s : Signal) : Type 0 where
  pub printed : IsPrinted [] s.name
  pub range : HasRange s

pub of-told : (ss : List Signal) (i : ℕ) (s : Signal) → AllByRecursion IsTold ss → slice_get ss i ≡ Some s → IsTold s
of-told [] i s h e = cc
of-told (r ∷ ss) zero s h e = let same : r ≡ s = cc in subst IsTold same h.0
of-told (r ∷ ss) (suc i) s h e = of-told ss i s h.1 e

same-text : (t u : Text) → bytes_eq t u ≡ true → t ≡ u
same-text t u e = search (rules, bytes_eq-Decides)

bytes-same : (t u : Text) → t ≡ u → bytes_eq t u ≡ true
bytes-same t u e = search (rules, bytes_eq-Decides, e)

bytes-differ : (t u : Text) → t ≢ u → bytes_eq t u ≡ false
bytes-differ t u ne = go (bytes_eq t u) refl
  where
    go : (v : Bool) → bytes_eq t u ≡ v → bytes_eq t u ≡ false
    go true e = absurd (ne (same-text t u e))
    go false e = e

-- ---- bits of one signal

same-index : (s : Signal) → HasRange s → s.ranged ≡ true → (i j : ℕ) → i < s.width → j < s.width → decimal (index_of s i) ≡ decimal (index_of s j) → i ≡ j
same-index s h r i j l m e = go (nat_le s.right s.left) refl (near-same (index_of s i) (index_of s j)) e
  where
    wide : s.width ≡ max s.left s.right - min s.left s.right + 1
    wide = h.ranged.many r

    abbrev_at : Bool → ℕ → ℕ
    abbrev_at v at = if v then s.right + at else s.right - at

    go : (v : Bool) → nat_le s.right s.left ≡ v
        → (abbrev_at v i < abbrev_at v j + 64 → abbrev_at v j < abbrev_at v i + 64 → decimal (abbrev_at v i) ≡ decimal (abbrev_at v j) → abbrev_at v i ≡ abbrev_at v j)
        → decimal (abbrev_at v i) ≡ decimal (abbrev_at v j) → i ≡ j
    go true t near f = let w = h.word in let n = near (omega (arith, l, m, w)) (omega (arith, l, m, w)) f in omega (arith, n)
    go false t near f =
        let w = h.word in
        let n = near (omega (arith, l, m, w)) (omega (arith, l, m, w)) f in
        let less : s.left < s.right = grind (arith, nat_tests) in
        omega (arith, n, less, wide, l, m)

pub one-bit : (s : Signal) → HasRange s → (i j : ℕ) → i < s.width → j < s.width → bit_ending s i ≡ bit_ending s j → i ≡ j
one-bit s h i j l m e = go s.ranged refl e
  where
    go : (v : Bool) → s.ranged ≡ v → (if v then codes "[" ++ decimal (index_of s i) ++ codes "]" else []) ≡ (if v then codes "[" ++ decimal (index_of s j) ++ codes "]" else []) → i ≡ j
    go true r f = same-index s h r i j l m
        (same_from_push (decimal (index_of s i)) (decimal (index_of s j)) 93 93 (tail-is 91 91 (decimal (index_of s i) ++ codes "]") (decimal (index_of s j) ++ codes "]") f)).0
    go false r f = let w = h.ranged.one r in omega (arith, w, l, m)

ending-is : (s : Signal) (i : ℕ) → IsEnding (bit_ending s i)
ending-is s i = go s.ranged
  where
    go : (v : Bool) → IsEnding (if v then codes "[" ++ decimal (index_of s i) ++ codes "]" else [])
    go true = inr (decimal (index_of s i) ++ codes "]", refl)
    go false = inl refl

-- the printed name of a bit tells its signal's name, and its ending
pub text-cut : (s t : Signal) (i j : ℕ) → IsPrinted [] s.name → IsPrinted [] t.name → bit_text s i ≡ bit_text t j → (s.name ≡ t.name) × (bit_ending s i ≡ bit_ending t j)
text-cut s t i j p q e =
    let c = name-cut p.path q.path p.own q.own (bit_ending s i) (bit_ending t j) p.visible_path q.visible_path p.visible q.visible (ending-is s i) (ending-is t j)
    (ap (λ n. n ++ bit_ending s i) (sym p.is) ∙ e ∙ ap (λ n. n ++ bit_ending t j) q.is) in
    (p.is ∙ ap₂ path_text c.0 c.1 ∙ sym q.is, c.2)

-- ---- signals

abbrev names_of : List Signal → List Text
names_of ss = map (λ (s : Signal). s.name) ss

apart-from : (x : Text) (ss : List Signal) (i : ℕ) (s : Signal) → IsNotAmong x (names_of ss) → slice_get ss i ≡ Some s → x ≢ s.name
apart-from x [] i s h e = cc
apart-from x (r ∷ ss) zero s h e = let same : r ≡ s = cc in λ f. h.0 (f ∙ sym (ap (λ (q : Signal). q.name) same))
apart-from x (r ∷ ss) (suc i) s h e = apart-from x ss i s h.1 e

pub signal-found : (k : ℕ) (ss : List Signal) (i : ℕ) (s : Signal) → AreDifferent (names_of ss) → slice_get ss i ≡ Some s → position_from (λ (r : Signal). bytes_eq s.name r.name) k ss ≡ Some (k + i)
signal-found k [] i s h e = cc
signal-found k (r ∷ ss) zero s h e =
    let same : r ≡ s = cc in
    ap (λ v. cond v (Some k) (position_from (λ (q : Signal). bytes_eq s.name q.name) (k + 1) ss)) (bytes-same s.name r.name (sym (ap (λ (q : Signal). q.name) same)))
    ∙ ap Some (let f : k ≡ k + 0 = omega arith in f)
signal-found k (r ∷ ss) (suc i) s h e =
    ap (λ v. cond v (Some k) (position_from (λ (q : Signal). bytes_eq s.name q.name) (k + 1) ss)) (bytes-differ s.name r.name (λ f. apart-from r.name ss i s h.0 e (sym f)))
    ∙ signal-found (k + 1) ss i s h.1 e ∙ ap Some (let f : (k + 1) + i ≡ k + suc i = omega arith in f)

-- ---- bits

offset-none : (s : Signal) (t : Text) (n : ℕ) → ((j : ℕ) → j < n → t ≢ bit_text s j) → offset_named s t n ≡ None
offset-none s t zero h = refl
offset-none s t (suc n) h =
    ap₂ (λ o (v : Bool). or_else o (if v then Some n else None)) (offset-none s t n (λ j l. h j (omega (arith, l)))) (bytes-differ t (bit_text s n) (h n (omega arith)))

offset-found : (s : Signal) (t : Text) (n at : ℕ) → at < n → t ≡ bit_text s at → ((j : ℕ) → j < n → t ≡ bit_text s j → j ≡ at) → offset_named s t n ≡ Some at
offset-found s t zero at l is once = absurd (omega (arith, l))
offset-found s t (suc n) at l is once = elim (cases_lt at n) [
  | inl less ↦ ap (λ o. or_else o (if bytes_eq t (bit_text s n) then Some n else None)) (offset-found s t n at less is (λ j m e. once j (omega (arith, m)) e))
  | inr more ↦ (
      let here : at ≡ n = omega (arith, l, more) in
      ap₂ (λ o (v : Bool). or_else o (if v then Some n else None)) (offset-none s t n (λ j m e. let f = once j (omega (arith, m)) e in omega (arith, f, m, more)))
      (bytes-same t (bit_text s n) (is ∙ ap (bit_text s) here)) ∙ ap Some (sym here)
      )
]

abbrev bit_at_offset : ℕ → ℕ → Bit
bit_at_offset k at = record { sig = k; at = at }

pub bit-found : (k : ℕ) (ss : List Signal) (i : ℕ) (s : Signal) (at : ℕ) → AllByRecursion IsTold ss → AreDifferent (names_of ss) → slice_get ss i ≡ Some s → IsTold s → at < s.width
    → bit_from k ss (bit_text s at) ≡ Some (bit_at_offset (k + i) at)
bit-found k [] i s at told h e is l = cc
bit-found k (r ∷ ss) zero s at told h e is l =
    let same : r ≡ s = cc in
    ap (λ (q : Signal). or_else (option_map (bit_at_offset k) (offset_named q (bit_text s at) q.width)) (bit_from (k + 1) ss (bit_text s at))) same
    ∙ ap (λ o. or_else (option_map (bit_at_offset k) o) (bit_from (k + 1) ss (bit_text s at)))
    (offset-found s (bit_text s at) s.width at l refl (λ j m f. one-bit s is.range j at m l (text-cut s s j at is.printed is.printed (sym f)).1))
    ∙ ap (λ (n : ℕ). Some (bit_at_offset n at)) (let f : k ≡ k + 0 = omega arith in f)
bit-found k (r ∷ ss) (suc i) s at told h e is l =
    ap (λ o. or_else (option_map (bit_at_offset k) o) (bit_from (k + 1) ss (bit_text s at)))
    (offset-none r (bit_text s at) r.width (λ j m f. apart-from r.name ss i s h.0 e (text-cut r s j at told.0.printed is.printed (sym f)).0))
    ∙ bit-found (k + 1) ss i s at told.1 h.1 e is l ∙ ap (λ (n : ℕ). Some (bit_at_offset n at)) (let f : (k + 1) + i ≡ k + suc i = omega arith in f)
