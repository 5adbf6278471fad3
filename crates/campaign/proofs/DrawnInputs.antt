-- The inputs that a step draws.
use Rattle.std.proofs.Common.{◌≡◌, ◌≢◌, ◌∙◌, ℕ, zero, suc, ◌+◌, ◌<◌, ◌≤◌, ◌^◌, ◌%◌, ◌==◌, Bool, true, false, cond, List, [], ◌∷◌, ◌++◌, map, length, get_or, set, Contains, inl, inr, refl, sym, ap, ap₂, subst, arith, eq-eqb, eqb-true}
use Rattle.std.specs.Prelude.{filter, All}
use Rattle.std.specs.List.{AllByRecursion, IsDistinct}
use Rattle.std.specs.List.Sorted.{IsPermutation}
use Rattle.std.proofs.lemmas.Bool.{eqb-false}
use Rattle.std.proofs.lemmas.List.{length-set}
use Rattle.std.proofs.lemmas.List.Elements.{All-head, All-tail}
use Rattle.std.proofs.lemmas.Map.Keys.{IsDistinct-IsPermutation, IsDistinct-from_apart, IsDistinct-head, IsDistinct-tail}
use Rattle.cdc_base.specs.declared.signal.Signal.{Signal}
use Rattle.cell_graph.specs.Values.{word_at}
use Rattle.cdc_model.specs.declared.record.Given.{Given}
use Rattle.cdc_model.specs.Nets.{bit_count}
use Rattle.cdc_model.proofs.Ascending.{here, later, parts, nothing_in}
use Rattle.settling_sim.proofs.Words.{word-set_same, word-set_other}
use Rattle.campaign.specs.Draws.{word, behind}
use Rattle.campaign.specs.Drawn.{word_for}
use Rattle.campaign.specs.Numbers.{numbers_from, one_if}
use Rattle.campaign.specs.Tested.{put_drawn, given_if, givens_in}
use Rattle.campaign.proofs.Passing.{AreApart}

-- each number is above those before it, and not below j
abbrev pub RiseFrom : ℕ → List ℕ → Type 0
RiseFrom j [] = Unit {0}
RiseFrom j (x ∷ xs) = (j ≤ x) × RiseFrom (suc x) xs

rise-lower : (j k : ℕ) (xs : List ℕ) → j ≤ k → RiseFrom k xs → RiseFrom j xs
rise-lower j k [] le h = tt
rise-lower j k (x ∷ xs) le h = (omega (arith, h.0), h.1)

pub numbers-rise : (test : ℕ → Bool) (j n : ℕ) → RiseFrom j (numbers_from test j n)
numbers-rise test j zero = tt
numbers-rise test j (suc n) = go (test j) (numbers-rise test (suc j) n)
  where
    go : (t : Bool) → RiseFrom (suc j) (numbers_from test (suc j) n) → RiseFrom j (one_if t j ++ numbers_from test (suc j) n)
    go true ih = (omega arith, ih)
    go false ih = rise-lower j (suc j) (numbers_from test (suc j) n) (omega arith) ih

pub number-passes : (test : ℕ → Bool) (j n x : ℕ) → Contains (numbers_from test j n) x → (test x ≡ true) × (x < j + n)
number-passes test j zero x i = absurd (nothing_in x i)
number-passes test j (suc n) x i = go (test j) refl i (number-passes test (suc j) n x)
  where
    more : (test x ≡ true) × (x < suc j + n) → (test x ≡ true) × (x < j + suc n)
    more p = (p.0, omega (arith, p.1))

    go : (t : Bool) → test j ≡ t → Contains (one_if t j ++ numbers_from test (suc j) n) x → (Contains (numbers_from test (suc j) n) x → (test x ≡ true) × (x < suc j + n)) → (test x ≡ true) × (x < j + suc n)
    go true e k ih = elim (parts j (numbers_from test (suc j) n) x k) [
      | inl same ↦ (ap test (sym same) ∙ e, omega (arith, same))
      | inr l ↦ more (ih l)
    ]
    go false e k ih = more (ih k)

rise-above : (j x : ℕ) (xs : List ℕ) → RiseFrom j xs → Contains xs x → j ≤ x
rise-above j x [] h i = absurd (nothing_in x i)
rise-above j x (y ∷ ys) h i = elim (parts y ys x i) [
  | inl e ↦ omega (arith, e, h.0)
  | inr k ↦ let l = rise-above (suc y) x ys h.1 k in omega (arith, l, h.0)
]

-- ---- the words drawn

put-other : (t : ℕ → Bool) (ss rng drawn : List ℕ) (sig j : ℕ) → RiseFrom j ss → sig < j → word_at (put_drawn t ss rng drawn) sig ≡ word_at drawn sig
put-other t [] rng drawn sig j h l = refl
put-other t (s ∷ ss) rng drawn sig j h l =
    put-other t ss (cond (t s) (behind rng) rng) (cond (t s) (set drawn s (word rng)) drawn) sig (suc s) h.1 (omega (arith, h.0)) ∙ go (t s)
  where
    go : (v : Bool) → word_at (cond v (set drawn s (word rng)) drawn) sig ≡ word_at drawn sig
    go true = word-set_other drawn s sig (word rng) (λ e. omega (arith, e, h.0))
    go false = refl

differs : (s sig : ℕ) → suc s ≤ sig → (s == sig) ≡ false
differs s sig l = go (s == sig) refl
  where
    go : (v : Bool) → (s == sig) ≡ v → (s == sig) ≡ false
    go true e = absurd (let same = eqb-true s sig e in omega (arith, same))
    go false e = e

pub put-word : (t : ℕ → Bool) (ss rng drawn : List ℕ) (sig j : ℕ) → RiseFrom j ss → ((s : ℕ) → Contains ss s → s < length drawn) → Contains ss sig → t sig ≡ true
    → word_at (put_drawn t ss rng drawn) sig ≡ word_for rng (filter t ss) sig
put-word t [] rng drawn sig j h within i ticks = absurd (nothing_in sig i)
put-word t (s ∷ ss) rng drawn sig j h within i ticks =
    elim (parts s ss sig i) [
      | inl e ↦ first e
      | inr k ↦ put-word t ss (cond (t s) (behind rng) rng) (cond (t s) (set drawn s (word rng)) drawn) sig (suc s) h.1 (λ u l. long u l (t s)) k ticks
          ∙ rest (t s) (differs s sig (rise-above (suc s) sig ss h.1 k))
    ]
  where
    long : (u : ℕ) → Contains ss u → (v : Bool) → u < length (cond v (set drawn s (word rng)) drawn)
    long u l true = let n = length-set drawn s (word rng) in let w = within u (later s ss u l) in omega (arith, n, w)
    long u l false = within u (later s ss u l)

    first : s ≡ sig → word_at (put_drawn t ss (cond (t s) (behind rng) rng) (cond (t s) (set drawn s (word rng)) drawn)) sig ≡ word_for rng (cond (t s) (s ∷ filter t ss) (filter t ss)) sig
    first e =
        put-other t ss (cond (t s) (behind rng) rng) (cond (t s) (set drawn s (word rng)) drawn) sig (suc s) h.1 (omega (arith, e))
        ∙ ap (λ v. word_at (cond v (set drawn s (word rng)) drawn) sig) (ap t e ∙ ticks)
        ∙ subst (λ k. word_at (set drawn s (word rng)) k ≡ word rng) e (word-set_same drawn s (word rng) (within s (here s ss)))
        ∙ sym (ap (λ v. cond v (word rng) (word_for (behind rng) (filter t ss) sig)) (eq-eqb s sig e))
        ∙ sym (ap (λ v. word_for rng (cond v (s ∷ filter t ss) (filter t ss)) sig) (ap t e ∙ ticks))

    rest : (v : Bool) → (s == sig) ≡ false → word_for (cond v (behind rng) rng) (filter t ss) sig ≡ word_for rng (cond v (s ∷ filter t ss) (filter t ss)) sig
    rest true e = sym (ap (λ v. cond v (word rng) (word_for (behind rng) (filter t ss) sig)) e)
    rest false e = refl

-- the values of the inputs that change
abbrev low-of : List Signal → ℕ → ℕ → Given
low-of signals s w = record { sig = s; value = w % 2 ^ bit_count signals s }

pub values-are : (signals : List Signal) (drawn : List ℕ) (t u : ℕ → Bool) (W : ℕ → ℕ) (ss : List ℕ) → All (λ (s : ℕ). (t s ≡ u s) × (t s ≡ true → word_at drawn s ≡ W s)) ss
    → givens_in signals drawn t ss ≡ map (λ (s : ℕ). low-of signals s (W s)) (filter u ss)
values-are signals drawn t u W [] all = refl
values-are signals drawn t u W (s ∷ ss) all =
    go (t s) refl (values-are signals drawn t u W ss (All-tail (λ (s : ℕ). (t s ≡ u s) × (t s ≡ true → word_at drawn s ≡ W s)) s ss all))
    ∙ ap (λ v. map (λ (s : ℕ). low-of signals s (W s)) (cond v (s ∷ filter u ss) (filter u ss))) here-are.0
  where
    here-are : (t s ≡ u s) × (t s ≡ true → word_at drawn s ≡ W s)
    here-are = All-head (λ (s : ℕ). (t s ≡ u s) × (t s ≡ true → word_at drawn s ≡ W s)) s ss all

    go : (v : Bool) → t s ≡ v → givens_in signals drawn t ss ≡ map (λ (s : ℕ). low-of signals s (W s)) (filter u ss)
        → given_if signals drawn (t s) s ++ givens_in signals drawn t ss ≡ map (λ (s : ℕ). low-of signals s (W s)) (cond (t s) (s ∷ filter u ss) (filter u ss))
    go true e ih =
        ap (λ v. given_if signals drawn v s ++ givens_in signals drawn t ss) e
        ∙ ap₂ (λ w gs. low-of signals s w ∷ gs) (here-are.1 e) ih
        ∙ sym (ap (λ v. map (λ (s : ℕ). low-of signals s (W s)) (cond v (s ∷ filter u ss) (filter u ss))) e)
    go false e ih =
        ap (λ v. given_if signals drawn v s ++ givens_in signals drawn t ss) e
        ∙ ih
        ∙ sym (ap (λ v. map (λ (s : ℕ). low-of signals s (W s)) (cond v (s ∷ filter u ss) (filter u ss))) e)

-- ---- names put in another order differ as before

rise-at : (j : ℕ) (xs : List ℕ) (k d : ℕ) → RiseFrom j xs → k < length xs → j ≤ get_or xs k d
rise-at j [] k d h l = absurd (omega arith)
rise-at j (x ∷ xs) zero d h l = h.0
rise-at j (x ∷ xs) (suc k) d h l = let r = rise-at (suc x) xs k d h.1 (omega arith) in omega (arith, r, h.0)

rise-less : (j : ℕ) (xs : List ℕ) (i k d : ℕ) → RiseFrom j xs → i < k → k < length xs → suc (get_or xs i d) ≤ get_or xs k d
rise-less j [] i k d h l m = absurd (omega arith)
rise-less j (x ∷ xs) i zero d h l m = absurd (omega arith)
rise-less j (x ∷ xs) zero (suc k) d h l m = rise-at (suc x) xs k d h.1 (omega arith)
rise-less j (x ∷ xs) (suc i) (suc k) d h l m = rise-less (suc x) xs i k d h.1 (omega arith) (omega arith)

rise-apart : (j : ℕ) (xs : List ℕ) → RiseFrom j xs → IsDistinct (λ (a b : ℕ). a == b) xs
rise-apart j xs h = IsDistinct-from_apart (λ (a b : ℕ). a == b) xs (λ i k d l m. differs (get_or xs i d) (get_or xs k d) (rise-less j xs i k d h l m))

apart-keys : (xs : List ℕ) → IsDistinct (λ (a b : ℕ). a == b) xs → AreApart (λ (x : ℕ). x) xs
apart-keys [] h = tt
apart-keys (x ∷ xs) h = (others xs (IsDistinct-head (λ (a b : ℕ). a == b) x xs h), apart-keys xs (IsDistinct-tail (λ (a b : ℕ). a == b) x xs h))
  where
    others : (ys : List ℕ) → AllByRecursion (λ (y : ℕ). (x == y) ≡ false) ys → AllByRecursion (λ (y : ℕ). x ≢ y) ys
    others [] r = tt
    others (y ∷ ys) r = (eqb-false x y r.0, others ys r.1)

eq-flips : (a b : ℕ) → (a == b) ≡ (b == a)
eq-flips a b = go (a == b) refl (b == a) refl
  where
    go : (t : Bool) → (a == b) ≡ t → (u : Bool) → (b == a) ≡ u → t ≡ u
    go true e true f = refl
    go true e false f = absurd (eqb-false b a f (sym (eqb-true a b e)))
    go false e true f = absurd (eqb-false a b e (sym (eqb-true b a f)))
    go false e false f = refl

pub named-apart : (j : ℕ) (xs ys : List ℕ) → RiseFrom j xs → IsPermutation xs ys → AreApart (λ (x : ℕ). x) ys
named-apart j xs ys h same = apart-keys ys (IsDistinct-IsPermutation (λ (a b : ℕ). a == b) eq-flips xs ys same (rise-apart j xs h))
