-- The first signal with a latch, found among those that a statement may assign.
use Rattle.std.proofs.Common.{◌≡◌, ℕ, zero, suc, ◌+◌, ◌-◌, ◌^◌, ◌<◌, ◌≤◌, ◌==◌, min, Bool, true, false, cond, not, ◌&&◌, ◌||◌, bit_and, List, [], ◌∷◌, ◌++◌, Option, Some, None, inl, inr, refl, sym, ap, ap₂, subst, ◌∙◌, arith, rules}
use Rattle.std.specs.Prelude.{Contains}
use Rattle.std.specs.Option.{option_map_or}
use Rattle.std.proofs.lemmas.Bool.{both_ways, false_from_ne_true}
use Rattle.std.proofs.lemmas.List.Elements.{Contains-push_cases}
use Rattle.std.proofs.lemmas.Nat.{and_le_l}
use Rattle.std.proofs.Math.Bool.{or-false}
use Rattle.cell_graph.specs.Tree.{bit_at, any_below}
use Rattle.cell_graph.proofs.Words.{is_number}
use Rattle.flat_meaning.proofs.Words.{by_lt, same_any}
use Rattle.flat_form.proofs.MaskSets.{but-bits}
use Rattle.flat_form.proofs.Numbers.{some-is}
use Rattle.flat_unfolding.specs.Reads.{first_from}
use Rattle.flat_unfolding.proofs.Steps.{some_is}
use Rattle.flat_statements.specs.Latches.{some_bit}

-- ---- some number below a bound

-- beyond the least bound nothing passes
any-beyond : (p : ℕ → Bool) (n more : ℕ) → ((i : ℕ) → n ≤ i → p i ≡ false) → any_below p (n + more) ≡ any_below p n
any-beyond p n zero h = ap (any_below p) (let e : n + zero ≡ n = omega arith in e)
any-beyond p n (suc more) h =
    ap (any_below p) (let e : n + suc more ≡ suc (n + more) = omega arith in e) ∙ ap₂ (λ a b. a || b) (any-beyond p n more h) (h (n + more) (omega arith)) ∙ or-false (any_below p n)

any-some : (p : ℕ → Bool) (n : ℕ) → any_below p n ≡ true → (i : ℕ) × (i < n) × (p i ≡ true)
any-some p zero e = absurd (search (rules, e))
any-some p (suc n) e = go (any_below p n) (p n) (any-some p n) refl e
  where
    go : (a b : Bool) → (a ≡ true → (i : ℕ) × (i < n) × (p i ≡ true)) → p n ≡ b → (a || b) ≡ true → (i : ℕ) × (i < suc n) × (p i ≡ true)
    go true b below h k = let r = below refl in let l = r.1 in (r.0, (let m : r.0 < suc n = omega arith in m), r.2)
    go false true below h k = (n, (let l : n < suc n = omega arith in l), h)
    go false false below h k = absurd (search (rules, k))

pub some-bit : (p : ℕ → Bool) → some_bit p ≡ true → (i : ℕ) × (i < 64) × (p i ≡ true)
unfolding some_bit
some-bit p e = any-some p 64 e

-- a word's bits are those of a signal, where none beyond the signal passes
pub some-within : (p q : ℕ → Bool) (w : ℕ) → w ≤ 64 → ((i : ℕ) → i < 64 → p i ≡ q i) → ((i : ℕ) → q i ≡ true → i < w) → some_bit p ≡ any_below q w
unfolding some_bit
some-within p q w l same within =
    same_any p q 64 same ∙ ap (any_below q) (let e : 64 ≡ w + (64 - w) = omega arith in e) ∙ any-beyond q w (64 - w) (λ i k. false_from_ne_true (q i) (λ t. let m = within i t in omega arith))

-- ---- the least of those that pass

-- o is the least number that passes, of those below a bound, and none where none does
record IsFirst (p : ℕ → Bool) (n : ℕ) (o : Option ℕ) : Type 0 where
  pub none : o ≡ None → (i : ℕ) → i < n → p i ≡ false
  pub some : (f : ℕ) → o ≡ Some f → (f < n) × (p f ≡ true) × ((i : ℕ) → i < f → p i ≡ false)

first-is : (p : ℕ → Bool) (from more : ℕ) → ((i : ℕ) → i < from → p i ≡ false) → IsFirst p (from + more) (first_from p from more)
first-is p from zero h = record {
  none = λ e i l. h i (let m : i < from = omega arith in m);
  some = λ f e. absurd (search (rules, e));
}
first-is p from (suc more) h = go (p from) (first-is p (suc from) more) refl
  where
    go : (b : Bool) → (((i : ℕ) → i < suc from → p i ≡ false) → IsFirst p (suc from + more) (first_from p (suc from) more)) → p from ≡ b
        → IsFirst p (from + suc more) (cond b (Some from) (first_from p (suc from) more))
    go true later e = record {
      none = λ q. absurd (search (rules, q));
      some = λ f q. let d = some_is from f q in ((let l : f < from + suc more = omega arith in l), ap p (sym d) ∙ e, (λ i l. h i (let m : i < from = omega arith in m)));
    }
    go false later e = subst (λ n. IsFirst p n (first_from p (suc from) more)) (let m : suc from + more ≡ from + suc more = omega arith in m) (later (λ i l. below i l))
      where
        below : (i : ℕ) → i < suc from → p i ≡ false
        below i l = by_lt (λ b. p i ≡ false) i from (λ k. h i k) (λ k. ap p (let d : i ≡ from = omega arith in d) ∙ e)

first-one : (p : ℕ → Bool) (n : ℕ) (o q : Option ℕ) → IsFirst p n o → IsFirst p n q → o ≡ q
first-one p n None None h k = refl
first-one p n None (Some g) h k = let b = k.some g refl in let c = sym (h.none refl g b.0) ∙ b.1 in absurd (search (rules, c))
first-one p n (Some f) None h k = let b = h.some f refl in let c = sym (k.none refl f b.0) ∙ b.1 in absurd (search (rules, c))
first-one p n (Some f) (Some g) h k =
    let a = h.some f refl in let b = k.some g refl in
    by_lt (λ t. Some f ≡ Some g) f g (λ l. let c = sym (b.2 f l) ∙ a.1 in absurd (search (rules, c)))
    (λ l. by_lt (λ t. Some f ≡ Some g) g f (λ m. let c = sym (a.2 g m) ∙ b.1 in absurd (search (rules, c))) (λ m. ap Some (let d : f ≡ g = omega arith in d)))

-- o is the least of those in a list that pass, and none where none does
pub record IsLeast (p : ℕ → Bool) (seen : List ℕ) (o : Option ℕ) : Type 0 where
  pub none : o ≡ None → (x : ℕ) → Contains seen x → p x ≡ false
  pub passes : (f : ℕ) → o ≡ Some f → p f ≡ true
  pub least : (f : ℕ) → o ≡ Some f → (x : ℕ) → Contains seen x → p x ≡ true → f ≤ x

pub least-skip : (p : ℕ → Bool) (seen : List ℕ) (x : ℕ) (o : Option ℕ) → IsLeast p seen o → p x ≡ false → IsLeast p (seen ++ x ∷ []) o
least-skip p seen x o h k = record {
  none = λ e y c. elim (Contains-push_cases seen x y c) [ inl d ↦ h.none e y d | inr d ↦ ap p (sym d) ∙ k ];
  passes = h.passes;
  least = λ f e y c t. elim (Contains-push_cases seen x y c) [ inl d ↦ h.least f e y d t | inr d ↦ absurd (both_ways (p x) k (ap p d ∙ t)) ];
}

pub least-more : (p : ℕ → Bool) (seen : List ℕ) (x : ℕ) (o : Option ℕ) → IsLeast p seen o → p x ≡ true → IsLeast p (seen ++ x ∷ []) (Some (option_map_or (λ f. min f x) o x))
least-more p seen x None h k = record {
  none = λ e. absurd (search (rules, e));
  passes = λ f e. ap p (sym (some_is x f e)) ∙ k;
  least = λ f e y c t. let d = some_is x f e in elim (Contains-push_cases seen x y c) [ inl g ↦ absurd (both_ways (p y) (h.none refl y g) t) | inr g ↦ (let l : f ≤ y = omega arith in l) ];
}
least-more p seen x (Some g) h k = record {
  none = λ e. absurd (search (rules, e));
  passes = λ f e. ap p (sym (some_is (min g x) f e)) ∙ smaller;
  least = λ f e y c t. let d = some_is (min g x) f e in elim (Contains-push_cases seen x y c) [ inl q ↦ (let m = h.least g refl y q t in let l : f ≤ y = omega arith in l) | inr q ↦ (let l : f ≤ y = omega arith in l) ];
}
  where
    smaller : p (min g x) ≡ true
    smaller = by_lt (λ b. p (min g x) ≡ true) g x (λ l. ap p (let e : min g x ≡ g = omega arith in e) ∙ h.passes g refl) (λ l. ap p (let e : min g x ≡ x = omega arith in e) ∙ k)

-- where the list has all numbers that pass, it is the first of them
pub least-first : (p : ℕ → Bool) (all : List ℕ) (n : ℕ) (o : Option ℕ) → IsLeast p all o → ((s : ℕ) → p s ≡ true → (s < n) × Contains all s) → o ≡ first_from p 0 n
least-first p all n o h k =
    first-one p n o (first_from p 0 n) (record {
      none = λ e i l. false_from_ne_true (p i) (λ t. let z = sym (h.none e i (k i t).1) ∙ t in search (rules, z));
      some = λ f e. ((k f (h.passes f e)).0, h.passes f e, (λ i l. false_from_ne_true (p i) (λ t. let m = h.least f e i (k i t).1 t in omega arith)));
    }) (subst (λ m. IsFirst p m (first_from p 0 n)) (let d : 0 + n ≡ n = omega arith in d) (first-is p 0 n (λ i l. absurd (omega (arith, l)))))

pub first-same : (p q : ℕ → Bool) (from more : ℕ) → ((s : ℕ) → p s ≡ q s) → first_from p from more ≡ first_from q from more
first-same p q from zero h = refl
first-same p q from (suc more) h = ap₂ (λ b o. cond b (Some from) o) (h from) (first-same p q (suc from) more h)

-- ---- the bits of a signal that make it a latch, as a word

pub latch-word : (m s e : ℕ) (f g h : ℕ → Bool) → m < 2 ^ 64 → s < 2 ^ 64 → e < 2 ^ 64 → ((i : ℕ) → i < 64 → bit_at m i ≡ f i) → ((i : ℕ) → i < 64 → bit_at s i ≡ g i) → ((i : ℕ) → i < 64 → bit_at e i ≡ h i)
    → not (bit_and m (2 ^ 64 - 1 - bit_and s (2 ^ 64 - 1 - e)) == 0) ≡ some_bit (λ i. f i && not (g i && not (h i)))
unfolding some_bit
latch-word m s e f g h ml sl el mf sg eh =
    some-is latched 64 word (is_number word latched 64 (let l : word < 2 ^ 64 = omega (arith, and_le_l m (2 ^ 64 - 1 - kept)) in l) (λ i l.
    but-bits m kept i (let b : kept < 2 ^ 64 = omega (arith, and_le_l s (2 ^ 64 - 1 - e)) in b) l
    ∙ ap₂ (λ a b. a && not b) (mf i l) (but-bits s e i el l ∙ ap₂ (λ a b. a && not b) (sg i l) (eh i l))))
  where
    kept : ℕ
    kept = bit_and s (2 ^ 64 - 1 - e)

    word : ℕ
    word = bit_and m (2 ^ 64 - 1 - kept)

    latched : ℕ → Bool
    latched i = f i && not (g i && not (h i))
