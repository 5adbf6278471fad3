-- Where no segment depends on itself, each chain of segments has an end.
use Rattle.std.proofs.Common.{◌≡◌, ℕ, zero, suc, ◌+◌, ◌*◌, ◌<◌, ◌≤◌, Bool, true, false, cond, ◌||◌, ◌==◌, nat_lt, length, refl, sym, ap, ap₂, subst, ◌∙◌, arith, ltb-true, eqb-true, eq-eqb, ne_eqb}
use Rattle.std.proofs.lemmas.Bool.{and_parts}
use Rattle.std.proofs.lemmas.Option.{slice_get_past}
use Rattle.std.specs.Option.{option_map_or}
use Rattle.cdc_base.specs.declared.signal.Signal.{Signal}
use Rattle.flat_meaning.specs.Design.{Flat, size_in}
use Rattle.flat_meaning.specs.Segments.{made_of, made_by_assigns, made_by_combs, DependsIn, IsLoopFree}
use Rattle.flat_meaning.specs.Law.{AreWords}
use Rattle.flat_meaning.proofs.Words.{never, never_same, by_lt}

-- each chain of bits on which a bit depends has n steps at most
abbrev pub IsDeep : Flat → ℕ → (sig at : ℕ) → Type 0
IsDeep f zero s i = (t j : ℕ) → made_of f s i t j ≡ false
IsDeep f (suc n) s i = (t j : ℕ) → made_of f s i t j ≡ true → IsDeep f n t j

pub by_bool : {P : Type 0} (b : Bool) → (b ≡ true → P) → (b ≡ false → P) → P
by_bool true yes_ no_ = yes_ refl
by_bool false yes_ no_ = no_ refl

-- ---- sets of numbers below n

abbrev count : (ℕ → Bool) → ℕ → ℕ
count p zero = 0
count p (suc n) = count p n + cond (p n) 1 0

abbrev and_one : ℕ → (ℕ → Bool) → ℕ → Bool
and_one k p x = (x == k) || p x

count_most : (p : ℕ → Bool) (n : ℕ) → count p n ≤ n
count_most p zero = omega arith
count_most p (suc n) = go (p n) (count_most p n)
  where
    go : (b : Bool) → count p n ≤ n → count p n + cond b 1 0 ≤ suc n
    go true h = omega arith
    go false h = omega arith

count_other : (p : ℕ → Bool) (k n : ℕ) → n ≤ k → count (and_one k p) n ≡ count p n
count_other p k zero h = refl
count_other p k (suc n) h = ap₂ (λ x b. x + cond (b || p n) 1 0) (count_other p k n (omega arith)) (ne_eqb n k (λ e. omega arith))

count_more : (p : ℕ → Bool) (k n : ℕ) → k < n → p k ≡ false → count (and_one k p) n ≡ suc (count p n)
count_more p k zero h e = never 0 (omega arith)
count_more p k (suc n) h e = by_lt (λ u. count (and_one k p) (suc n) ≡ suc (count p (suc n))) k n
    (λ l. ap₂ (λ x b. x + cond (b || p n) 1 0) (count_more p k n l e) (ne_eqb n k (λ z. omega arith))
    ∙ (let y : suc (count p n) + cond (p n) 1 0 ≡ suc (count p n + cond (p n) 1 0) = omega arith in y))
    (λ l. let z : n ≡ k = omega arith in
    ap₂ (λ x b. x + cond (b || p n) 1 0) (count_other p k n l) (eq-eqb n k z)
    ∙ (let y : count p n + 1 ≡ suc (count p n + 0) = omega arith in y)
    ∙ ap (λ b. suc (count p n + cond b 1 0)) (sym (ap p z ∙ e)))

-- ---- bits

module _ (f : Flat) (sized : AreWords (size_in f)) where
  abbrev code : (sig at : ℕ) → ℕ
  code s i = s * 64 + i

  abbrev pub bit_count : ℕ
  bit_count = length f.signals * 64

  made_inside : (s i t j : ℕ) → made_of f s i t j ≡ true → (i < 64) × (code s i < bit_count)
  made_inside s i t j h =
      let l = ltb-true i (size_in f s) ((and_parts (nat_lt i (size_in f s)) (made_by_assigns (size_in f) f.assigns s i t j || made_by_combs (size_in f) f.combs s i t j) h).0) in
      let k = sized s in
      by_lt (λ u. (i < 64) × (code s i < bit_count)) s (length f.signals)
      (λ q. (omega arith, omega arith))
      (λ q. let z : size_in f s ≡ 0 = ap (λ o. option_map_or (λ (x : Signal). x.width) o 0) (slice_get_past f.signals s q) in never 0 (omega arith))

  longer : (n s i u k t j : ℕ) → DependsIn f n s i u k → made_of f u k t j ≡ true → DependsIn f (suc n) s i t j
  longer zero s i u k t j d m = (u, k, d, m)
  longer (suc n) s i u k t j d m = (d.0, d.1, d.2, longer n d.0 d.1 u k t j d.3 m)

  -- `seen` are bits that depend on this one
  abbrev Lead : (ℕ → Bool) → (sig at : ℕ) → Type 0
  Lead seen s i = (t j : ℕ) → j < 64 → seen (code t j) ≡ true → (n : ℕ) × DependsIn f n t j s i

  module _ (free : IsLoopFree f) where
    not_seen : (seen : ℕ → Bool) (s i : ℕ) → i < 64 → Lead seen s i → seen (code s i) ≡ false
    not_seen seen s i l lead = by_bool (seen (code s i)) (λ h. let d = lead s i l h in absurd (free d.0 s i d.1)) (λ h. h)

    leads_on : (seen : ℕ → Bool) (s i t j : ℕ) → i < 64 → Lead seen s i → made_of f s i t j ≡ true → Lead (and_one (code s i) seen) t j
    leads_on seen s i t j l lead m u k q h = by_bool (code u k == code s i)
        (λ e. let z = eqb-true (code u k) (code s i) e in
        let a : u ≡ s = omega arith in let b : k ≡ i = omega arith in
        (0, subst (λ (x : ℕ). made_of f x k t j ≡ true) (sym a) (subst (λ (x : ℕ). made_of f s x t j ≡ true) (sym b) m)))
        (λ e. let d = lead u k q (ap (λ b. b || seen (code u k)) (sym e) ∙ h) in (suc d.0, longer d.0 u k s i t j d.1 m))

    deep : (n : ℕ) (seen : ℕ → Bool) (s i : ℕ) → bit_count ≤ n + count seen bit_count → Lead seen s i → IsDeep f n s i
    deep zero seen s i h lead = λ t j. by_bool (made_of f s i t j)
        (λ m. let p = made_inside s i t j m in
        let more = count_more seen (code s i) bit_count p.1 (not_seen seen s i p.0 lead) in
        let most = count_most (and_one (code s i) seen) bit_count in never 0 (omega arith))
        (λ m. m)
    deep (suc n) seen s i h lead = λ t j m.
        let p = made_inside s i t j m in
        let more = count_more seen (code s i) bit_count p.1 (not_seen seen s i p.0 lead) in
        deep n (and_one (code s i) seen) t j (omega arith) (leads_on seen s i t j p.0 lead m)

    pub all_deep : (s i : ℕ) → IsDeep f bit_count s i
    all_deep s i = deep bit_count (λ x. false) s i (omega arith) (λ t j l h. never_same (sym h))
