-- Parts that assign or read what others assign: many parts as one set of bits, and its bits as words.
use Rattle.std.proofs.Common.{◌≡◌, ◌≢◌, ℕ, zero, suc, ◌+◌, ◌-◌, ◌^◌, ◌<◌, ◌≤◌, ◌==◌, Bool, true, false, cond, not, ◌&&◌, ◌||◌, nat_lt, bit_and, List, [], ◌∷◌, ◌++◌, map, length, take, drop, get_or, Some, refl, sym, ap, ap₂, subst, ◌∙◌, inl, inr, arith, rules, lt-ltb, eqb-true, true≢false}
use Rattle.std.specs.Prelude.{Contains, All}
use Rattle.std.proofs.lemmas.Bool.{both_ways, and_parts, false_from_ne_true, eqb-false}
use Rattle.std.proofs.lemmas.List.Elements.{Contains-push_cases, All-get_or, All-cons, All-nil, All-append}
use Rattle.std.proofs.lemmas.List.{length-map, length-take-le, take_more, drop_more, get_or-map}
use Rattle.std.specs.List.{list_any}
use Rattle.std.proofs.lemmas.Nat.{and_le_l}
use Rattle.std.proofs.Math.Bool.{or-false, or_assoc}
use Rattle.cell_graph.specs.Tree.{bit_at, any_below}
use Rattle.cell_graph.proofs.Words.{is_number, bit_and-bit}
use Rattle.flat_meaning.specs.Flat.{Target, Whole, Part, Pick, Group, no_targets, target, Targets}
use Rattle.flat_meaning.specs.Assigned.{is_within, reaches}
use Rattle.flat_meaning.specs.Deps.{Bits, none}
use Rattle.flat_meaning.proofs.Words.{by_lt, same_any}
use Rattle.flat_form.specs.declared.masks.Masks.{Masks}
use Rattle.flat_form.specs.Masks.{bits_in, Adds}
use Rattle.flat_form.specs.Uses.{target_reads}
use Rattle.flat_form.specs.View.{targets_of}
use Rattle.flat_form.proofs.Numbers.{some-is}
use Rattle.flat_targets.specs.Parts.{parts, parts_in, is_met, first_met, IsPart, is_pick, is_group, AreWidths, some_bit, within, gathered, Holds, shares, reads_from, is_read}

-- ---- some number below a bound

pub any-none : (f : ℕ → Bool) (n : ℕ) → ((k : ℕ) → k < n → f k ≡ false) → any_below f n ≡ false
any-none f zero h = refl
any-none f (suc n) h = ap₂ (λ a b. a || b) (any-none f n (λ k l. h k (omega arith))) (h n (omega arith))

or-yes : (b : Bool) → (b || true) ≡ true
or-yes true = refl
or-yes false = refl

pub any-at : (f : ℕ → Bool) (n k : ℕ) → k < n → f k ≡ true → any_below f n ≡ true
any-at f zero k l e = absurd (omega arith)
any-at f (suc n) k l e = by_lt (λ b. any_below f (suc n) ≡ true) k n
    (λ m. ap (λ a. a || f n) (any-at f n k m e))
    (λ m. ap (λ b. any_below f n || b) (ap f (let d : n ≡ k = omega arith in d) ∙ e) ∙ or-yes (any_below f n))

-- no other number than k passes
pub any-one : (f : ℕ → Bool) (n k : ℕ) → ((j : ℕ) → j ≢ k → f j ≡ false) → (n ≤ k → f k ≡ false) → any_below f n ≡ f k
any-one f zero k other out = sym (out (omega arith))
any-one f (suc n) k other out = by_lt (λ b. any_below f (suc n) ≡ f k) n k
    (λ l. ap₂ (λ a b. a || b) (any-one f n k other (λ m. out (omega arith))) (other n (λ e. absurd (omega arith))) ∙ or-false (f k))
    (λ l. by_lt (λ b. any_below f (suc n) ≡ f k) k n
    (λ m. ap₂ (λ a b. a || b) (any-one f n k other (λ g. absurd (omega arith))) (other n (λ e. absurd (omega arith))) ∙ or-false (f k))
    (λ m. let e : n ≡ k = omega arith in ap₂ (λ a b. a || b) (any-none f n (λ j g. other j (λ d. absurd (omega arith)))) (ap f e)))

four : (a b c d : Bool) → ((a || b) || (c || d)) ≡ ((a || c) || (b || d))
four true b c d = refl
four false true true d = refl
four false true false d = refl
four false false c d = refl

any-or : (f g : ℕ → Bool) (n : ℕ) → any_below (λ k. f k || g k) n ≡ (any_below f n || any_below g n)
any-or f g zero = refl
any-or f g (suc n) = ap (λ b. b || (f n || g n)) (any-or f g n) ∙ four (any_below f n) (any_below g n) (f n) (g n)

-- beyond the least bound nothing passes
any-beyond : (p : ℕ → Bool) (n more : ℕ) → ((i : ℕ) → n ≤ i → p i ≡ false) → any_below p (n + more) ≡ any_below p n
any-beyond p n zero h = ap (any_below p) (let e : n + zero ≡ n = omega arith in e)
any-beyond p n (suc more) h =
    ap (any_below p) (let e : n + suc more ≡ suc (n + more) = omega arith in e) ∙ ap₂ (λ a b. a || b) (any-beyond p n more h) (h (n + more) (omega arith)) ∙ or-false (any_below p n)

-- ---- bits that a signal has

inside : (w i : ℕ) → i < w → is_within 0 w i ≡ true
inside w i l = by_lt (λ a. (not a && nat_lt i (0 + w)) ≡ true) i 0 (λ m. absurd (omega arith)) (λ m. lt-ltb i (0 + w) (omega arith))

outside : (w i : ℕ) → w ≤ i → is_within 0 w i ≡ false
outside w i l = by_lt (λ a. (not a && nat_lt i (0 + w)) ≡ false) i 0 (λ m. refl) (λ m. by_lt (λ b. b ≡ false) i (0 + w) (λ g. absurd (omega arith)) (λ g. refl))

and-no : (b : Bool) → (b && false) ≡ false
and-no true = refl
and-no false = refl

and-yes : (b : Bool) → (b && true) ≡ b
and-yes true = refl
and-yes false = refl

-- the bits of a signal are those of a word
word-bits : (p q : ℕ → Bool) (w : ℕ) → w ≤ 64 → ((i : ℕ) → i < 64 → q i ≡ (p i && is_within 0 w i)) → any_below p w ≡ any_below q 64
word-bits p q w l h =
    same_any p (λ i. p i && is_within 0 w i) w (λ i m. sym (and-yes (p i)) ∙ ap (λ b. p i && b) (sym (inside w i m)))
    ∙ sym (any-beyond (λ i. p i && is_within 0 w i) w (64 - w) (λ i m. ap (λ b. p i && b) (outside w i m) ∙ and-no (p i)))
    ∙ ap (any_below (λ i. p i && is_within 0 w i)) (let e : w + (64 - w) ≡ 64 = omega arith in e)
    ∙ same_any (λ i. p i && is_within 0 w i) q 64 (λ i m. sym (h i m))

-- some bit is in both words
pub both-words : (a b : ℕ) (f g : ℕ → Bool) → a < 2 ^ 64 → ((i : ℕ) → i < 64 → bit_at a i ≡ f i) → ((i : ℕ) → i < 64 → bit_at b i ≡ g i) → not (bit_and a b == 0) ≡ any_below (λ i. f i && g i) 64
both-words a b f g l fa gb = some-is (λ i. f i && g i) 64 (bit_and a b) (is_number (bit_and a b) (λ i. f i && g i) 64 (omega (arith, and_le_l a b)) (λ i m.
    bit_and-bit a b i ∙ ap₂ (λ x y. x && y) (fa i m) (gb i m)))

pub some-word : (a : ℕ) (f : ℕ → Bool) → a < 2 ^ 64 → ((i : ℕ) → i < 64 → bit_at a i ≡ f i) → not (a == 0) ≡ any_below f 64
some-word a f l fa = some-is f 64 a (is_number a f 64 l fa)

pub not-zero : (a : ℕ) → a ≢ 0 → not (a == 0) ≡ true
not-zero a h = go (a == 0) refl
  where
    go : (b : Bool) → (a == 0) ≡ b → not b ≡ true
    go true e = absurd (h (eqb-true a 0 e))
    go false e = refl

-- ---- many targets as one

module _ (wid : ℕ → ℕ) (n : ℕ) (t : Target) where
  and-or : (a b c : Bool) → (a && (b || c)) ≡ ((a && b) || (a && c))
  and-or true b c = refl
  and-or false b c = refl

  -- what a part shares with any of them, it shares with what they assign together
  pub shares-all : (ts : List Target) → list_any (shares wid n t) ts ≡ any_below (λ s. any_below (λ i. reaches wid t s i && gathered wid ts s i) (wid s)) n
  shares-all [] = sym (any-none (λ s. any_below (λ i. reaches wid t s i && false) (wid s)) n (λ s l. any-none (λ i. reaches wid t s i && false) (wid s) (λ i m. and-no (reaches wid t s i))))
  shares-all (g ∷ ts) = ap (λ b. shares wid n t g || b) (shares-all ts)
      ∙ sym (any-or (λ s. any_below (λ i. reaches wid t s i && reaches wid g s i) (wid s)) (λ s. any_below (λ i. reaches wid t s i && gathered wid ts s i) (wid s)) n)
      ∙ same_any (λ s. any_below (λ i. reaches wid t s i && reaches wid g s i) (wid s) || any_below (λ i. reaches wid t s i && gathered wid ts s i) (wid s))
      (λ s. any_below (λ i. reaches wid t s i && gathered wid (g ∷ ts) s i) (wid s)) n (λ s l.
      sym (any-or (λ i. reaches wid t s i && reaches wid g s i) (λ i. reaches wid t s i && gathered wid ts s i) (wid s))
      ∙ same_any (λ i. (reaches wid t s i && reaches wid g s i) || (reaches wid t s i && gathered wid ts s i)) (λ i. reaches wid t s i && gathered wid (g ∷ ts) s i) (wid s)
      (λ i m. sym (and-or (reaches wid t s i) (reaches wid g s i) (gathered wid ts s i))))

  pub reads-all : (ts : List Target) → list_any (reads_from wid n t) ts ≡ any_below (λ s. any_below (target_reads wid t s) (wid s) && any_below (gathered wid ts s) (wid s)) n
  reads-all [] = sym (any-none (λ s. any_below (target_reads wid t s) (wid s) && any_below (λ i. false) (wid s)) n
      (λ s l. ap (λ b. any_below (target_reads wid t s) (wid s) && b) (any-none (λ i. false) (wid s) (λ i m. refl)) ∙ and-no (any_below (target_reads wid t s) (wid s))))
  reads-all (g ∷ ts) = ap (λ b. reads_from wid n t g || b) (reads-all ts)
      ∙ sym (any-or (λ s. any_below (target_reads wid t s) (wid s) && any_below (reaches wid g s) (wid s)) (λ s. any_below (target_reads wid t s) (wid s) && any_below (gathered wid ts s) (wid s)) n)
      ∙ same_any (λ s. (any_below (target_reads wid t s) (wid s) && any_below (reaches wid g s) (wid s)) || (any_below (target_reads wid t s) (wid s) && any_below (gathered wid ts s) (wid s)))
      (λ s. any_below (target_reads wid t s) (wid s) && any_below (gathered wid (g ∷ ts) s) (wid s)) n (λ s l.
      sym (and-or (any_below (target_reads wid t s) (wid s)) (any_below (reaches wid g s) (wid s)) (any_below (gathered wid ts s) (wid s)))
      ∙ ap (λ b. any_below (target_reads wid t s) (wid s) && b) (sym (any-or (reaches wid g s) (gathered wid ts s) (wid s))))

  -- a part may assign bits of one signal alone
  pub shares-word : AreWidths wid n → (ts : List Target) (m : Masks) → Holds wid ts m → (sig mask word : ℕ) → word < 2 ^ 64 → ((i : ℕ) → i < 64 → bit_at word i ≡ bits_in m sig i)
      → ((s i : ℕ) → i < 64 → ((s == sig) && bit_at mask i) ≡ within wid (reaches wid t) s i) → not (bit_and word mask == 0) ≡ list_any (shares wid n t) ts
  shares-word w ts m holds sig mask word small bits part =
      both-words word mask (bits_in m sig) (bit_at mask) small bits (λ i l. refl)
      ∙ sym (shares-all ts ∙ same_any all one n (λ s l. word-bits (λ i. reaches wid t s i && gathered wid ts s i) (in_both s) (wid s) (w.words s) (λ i k. both-in s i k))
      ∙ any-one one n sig (λ s ne. any-none (in_both s) 64 (λ i k. ap (λ b. bits_in m s i && (b && bit_at mask i)) (off s ne) ∙ and-no (bits_in m s i)))
      (λ out. any-none (in_both sig) 64 (λ i k. ap (λ b. bits_in m sig i && b) (part sig i k ∙ ap (λ b. reaches wid t sig i && b) (gone out i) ∙ and-no (reaches wid t sig i)) ∙ and-no (bits_in m sig i)))
      ∙ same_any (in_both sig) (λ i. bits_in m sig i && bit_at mask i) 64 (λ i k. ap (λ b. bits_in m sig i && (b && bit_at mask i)) (on sig)))
    where
      all : ℕ → Bool
      all s = any_below (λ i. reaches wid t s i && gathered wid ts s i) (wid s)

      in_both : ℕ → ℕ → Bool
      in_both s i = bits_in m s i && ((s == sig) && bit_at mask i)

      one : ℕ → Bool
      one s = any_below (in_both s) 64

      off : (s : ℕ) → s ≢ sig → (s == sig) ≡ false
      off s ne = go (s == sig) refl
        where
          go : (b : Bool) → (s == sig) ≡ b → b ≡ false
          go true e = absurd (ne (eqb-true s sig e))
          go false e = refl

      on : (s : ℕ) → (s == s) ≡ true
      on s = go (s == s) refl
        where
          go : (b : Bool) → (s == s) ≡ b → b ≡ true
          go true e = refl
          go false e = absurd (eqb-false s s e refl)

      gone : n ≤ sig → (i : ℕ) → is_within 0 (wid sig) i ≡ false
      gone out i = outside (wid sig) i (let z = w.none sig out in omega arith)

      arranged : (a b c : Bool) → ((b && c) && (a && c)) ≡ ((a && b) && c)
      arranged true true true = refl
      arranged true true false = refl
      arranged true false c = refl
      arranged false true true = refl
      arranged false true false = refl
      arranged false false c = refl

      both-in : (s i : ℕ) → i < 64 → in_both s i ≡ ((reaches wid t s i && gathered wid ts s i) && is_within 0 (wid s) i)
      both-in s i k = ap₂ (λ x y. x && y) (holds s i k) (part s i k) ∙ arranged (reaches wid t s i) (gathered wid ts s i) (is_within 0 (wid s) i)

  -- what an index reads, as a set
  pub reads-word : AreWidths wid n → (ts : List Target) (m r : Masks) → Holds wid ts m → ((s i : ℕ) → i < 64 → bits_in r s i ≡ target_reads wid t s i)
      → any_below (is_read wid (bits_in r) (bits_in m)) n ≡ list_any (reads_from wid n t) ts
  unfolding some_bit
  reads-word w ts m r holds reads = same_any (is_read wid (bits_in r) (bits_in m)) (λ s. any_below (target_reads wid t s) (wid s) && any_below (gathered wid ts s) (wid s)) n (λ s l.
      ap₂ (λ a b. a && b) (sym (word-bits (target_reads wid t s) (λ i. bits_in r s i && is_within 0 (wid s) i) (wid s) (w.words s) (λ i k. ap (λ b. b && is_within 0 (wid s) i) (reads s i k))))
      (sym (word-bits (gathered wid ts s) (bits_in m s) (wid s) (w.words s) (holds s))))
      ∙ sym (reads-all ts)

  pub reads-nothing : (ts : List Target) → ((s i : ℕ) → target_reads wid t s i ≡ false) → false ≡ list_any (reads_from wid n t) ts
  reads-nothing ts h = sym (reads-all ts ∙ any-none (λ s. any_below (target_reads wid t s) (wid s) && any_below (gathered wid ts s) (wid s)) n
      (λ s l. ap (λ b. b && any_below (gathered wid ts s) (wid s)) (any-none (target_reads wid t s) (wid s) (λ i m. h s i))))

-- ---- parts, form by form

module _ (wid : ℕ → ℕ) where
  -- the bits of a part, of those that its signal has
  pub part-mask : (sig at w a b : ℕ) → ((i : ℕ) → bit_at a i ≡ (nat_lt i 64 && is_within at w i)) → ((i : ℕ) → i < 64 → bit_at b i ≡ is_within 0 (wid sig) i) → (s i : ℕ) → i < 64
      → ((s == sig) && bit_at (bit_and a b) i) ≡ within wid (reaches wid (Part sig at w)) s i
  part-mask sig at w a b ha hb s i l = go (s == sig) refl
    where
      go : (t : Bool) → (s == sig) ≡ t → (t && bit_at (bit_and a b) i) ≡ ((t && is_within at w i) && is_within 0 (wid s) i)
      go true e = bit_and-bit a b i ∙ ap₂ (λ x y. x && y) (ha i ∙ ap (λ c. c && is_within at w i) (lt-ltb i 64 l)) (hb i l ∙ ap (λ z. is_within 0 (wid z) i) (sym (eqb-true s sig e)))
      go false e = refl

  pub none-reads : (t : Target) → IsPart t → is_pick t ≡ false → (s i : ℕ) → target_reads wid t s i ≡ false
  none-reads (Whole x) h e s i = refl
  none-reads (Part x at w) h e s i = refl
  none-reads (Pick x y) h e s i = absurd (true≢false e)
  none-reads (Group no_targets) h e s i = refl
  none-reads (Group (target t ts)) h e s i = absurd h

  pub nothing-there : (t : Target) → IsPart t → is_group t ≡ true → (s i : ℕ) → within wid (reaches wid t) s i ≡ false
  nothing-there (Whole x) h e s i = absurd (true≢false (sym e))
  nothing-there (Part x at w) h e s i = absurd (true≢false (sym e))
  nothing-there (Pick x y) h e s i = absurd (true≢false (sym e))
  nothing-there (Group no_targets) h e s i = refl
  nothing-there (Group (target t ts)) h e s i = absurd h

-- ---- one part more

pub taken-more : {A B : Type 0} (f : A → B) (xs : List A) (k : ℕ) (x : A) → k < length xs → x ≡ get_or xs k x → take (k + 1) (map f xs) ≡ take k (map f xs) ++ f x ∷ []
taken-more f xs k x l e = take_more (map f xs) k (f x) (subst (λ n. k < n) (sym (length-map xs f)) l) ∙ ap (λ y. take k (map f xs) ++ y ∷ []) (get_or-map f xs k x (f x) l ∙ ap f (sym e))

pub left-more : {A B : Type 0} (f : A → B) (xs : List A) (k : ℕ) (x : A) → k < length xs → x ≡ get_or xs k x → drop k (map f xs) ≡ f x ∷ drop (k + 1) (map f xs)
left-more f xs k x l e = drop_more (map f xs) k (f x) (subst (λ n. k < n) (sym (length-map xs f)) l) ∙ ap (λ y. y ∷ drop (k + 1) (map f xs)) (get_or-map f xs k x (f x) l ∙ ap f (sym e))

pub all-at : {A B : Type 0} (P : B → Type 0) (f : A → B) (xs : List A) (k : ℕ) (x : A) → k < length xs → x ≡ get_or xs k x → All P (map f xs) → P (f x)
all-at P f xs k x l e h = subst P (get_or-map f xs k x (f x) l ∙ ap f (sym e)) (All-get_or P (map f xs) k (f x) (subst (λ n. k < n) (sym (length-map xs f)) l) h)

more-any : {A : Type 0} (p : A → Bool) (xs : List A) (x : A) → list_any p (xs ++ x ∷ []) ≡ (list_any p xs || p x)
more-any p [] x = or-false (p x)
more-any p (y ∷ ys) x = ap (λ b. p y || b) (more-any p ys x) ∙ sym (or_assoc (p y) (list_any p ys) (p x))

pub holds-more : (wid : ℕ → ℕ) (ts : List Target) (t : Target) (m k : Masks) → Holds wid ts m → Adds m k (within wid (reaches wid t)) → Holds wid (ts ++ t ∷ []) k
holds-more wid ts t m k h a s i l = a s i l ∙ ap (λ b. b || (reaches wid t s i && is_within 0 (wid s) i)) (h s i l) ∙ go (gathered wid ts s i) (reaches wid t s i) (is_within 0 (wid s) i)
    ∙ ap (λ b. b && is_within 0 (wid s) i) (sym (more-any (λ g. reaches wid g s i) ts t))
  where
    go : (x y z : Bool) → ((x && z) || (y && z)) ≡ ((x || y) && z)
    go true true true = refl
    go true true false = refl
    go true false true = refl
    go true false false = refl
    go false y z = refl

-- ---- signals that are read, one by one

any-some : (p : ℕ → Bool) (n : ℕ) → any_below p n ≡ true → (i : ℕ) × (i < n) × (p i ≡ true)
any-some p zero e = absurd (search (rules, e))
any-some p (suc n) e = go (any_below p n) (p n) (any-some p n) refl e
  where
    go : (a b : Bool) → (a ≡ true → (i : ℕ) × (i < n) × (p i ≡ true)) → p n ≡ b → (a || b) ≡ true → (i : ℕ) × (i < suc n) × (p i ≡ true)
    go true b below h k = let r = below refl in let l = r.1 in (r.0, (let m : r.0 < suc n = omega arith in m), r.2)
    go false true below h k = (n, (let l : n < suc n = omega arith in l), h)
    go false false below h k = absurd (search (rules, k))

module _ (wid : ℕ → ℕ) (n : ℕ) (w : AreWidths wid n) (reads assigned : Bits) where
  pub read-found : (s : ℕ) → is_read wid reads assigned s ≡ true → any_below (is_read wid reads assigned) n ≡ true
  unfolding some_bit
  read-found s e = by_lt (λ b. any_below (is_read wid reads assigned) n ≡ true) s n (λ l. any-at (is_read wid reads assigned) n s l e)
      (λ l. absurd (both_ways (any_below (within wid reads s) 64) (any-none (within wid reads s) 64 (λ i m. ap (λ b. reads s i && b) (outside (wid s) i (let z = w.none s l in omega arith)) ∙ and-no (reads s i)))
      (and_parts (any_below (within wid reads s) 64) (any_below (assigned s) 64) e).0))

  pub read-none : ((s : ℕ) → ((i : ℕ) × (reads s i ≡ true)) → is_read wid reads assigned s ≡ false) → any_below (is_read wid reads assigned) n ≡ false
  unfolding some_bit
  read-none h = any-none (is_read wid reads assigned) n (λ s l. false_from_ne_true (is_read wid reads assigned s) (λ e.
      let b = any-some (within wid reads s) 64 (and_parts (any_below (within wid reads s) 64) (any_below (assigned s) 64) e).0 in
      both_ways (is_read wid reads assigned s) (h s (b.0, (and_parts (reads s b.0) (is_within 0 (wid s) b.0) b.2).0)) e))

-- those that were looked at
pub none-more : (p : ℕ → Bool) (seen : List ℕ) (x : ℕ) → ((y : ℕ) → Contains seen y → p y ≡ false) → p x ≡ false → (y : ℕ) → Contains (seen ++ x ∷ []) y → p y ≡ false
none-more p seen x h e y c = elim (Contains-push_cases seen x y c) [ inl d ↦ h y d | inr d ↦ ap p (sym d) ∙ e ]

-- ---- the parts of a target

pub alone : (t : Target) → IsPart t → parts t ≡ t ∷ []
alone (Whole s) h = refl
alone (Part s at w) h = refl
alone (Pick s e) h = refl
alone (Group no_targets) h = refl
alone (Group (target t ts)) h = absurd h

mutual
  pub are-parts : (t : Target) → All IsPart (parts t)
  are-parts (Whole s) = All-cons IsPart (Whole s) [] tt (All-nil IsPart)
  are-parts (Part s at w) = All-cons IsPart (Part s at w) [] tt (All-nil IsPart)
  are-parts (Pick s e) = All-cons IsPart (Pick s e) [] tt (All-nil IsPart)
  are-parts (Group no_targets) = All-cons IsPart (Group no_targets) [] tt (All-nil IsPart)
  are-parts (Group (target t ts)) = All-append IsPart (parts t) (parts_in ts) (are-parts t) (are-parts-in ts)

  are-parts-in : (ts : Targets) → All IsPart (parts_in ts)
  are-parts-in no_targets = All-nil IsPart
  are-parts-in (target t ts) = All-append IsPart (parts t) (parts_in ts) (are-parts t) (are-parts-in ts)

-- the first of those that are left is met, or isn't
pub met-here : (wid : ℕ → ℕ) (n k : ℕ) (all : List Target) (t : Target) → k < length all → drop k all ≡ t ∷ drop (k + 1) all → is_met wid n all (take k all) t ≡ true
    → first_met wid n all (take k all) (drop k all) ≡ Some k
met-here wid n k all t l e h = ap (first_met wid n all (take k all)) e ∙ ap (λ b. cond b (Some (length (take k all))) (first_met wid n all (take k all ++ t ∷ []) (drop (k + 1) all))) h ∙ ap Some (length-take-le k all (let m : k ≤ length all = omega arith in m))

pub met-later : (wid : ℕ → ℕ) (n k : ℕ) (all : List Target) (t : Target) → drop k all ≡ t ∷ drop (k + 1) all → take (k + 1) all ≡ take k all ++ t ∷ [] → is_met wid n all (take k all) t ≡ false
    → first_met wid n all (take k all) (drop k all) ≡ first_met wid n all (take (k + 1) all) (drop (k + 1) all)
met-later wid n k all t e d h = ap (first_met wid n all (take k all)) e ∙ ap (λ b. cond b (Some (length (take k all))) (first_met wid n all (take k all ++ t ∷ []) (drop (k + 1) all))) h
    ∙ ap (λ ts. first_met wid n all ts (drop (k + 1) all)) (sym d)

pub group-parts : (ts : List Target) → (length ts ≡ 0 → ⊥) → parts (Group (targets_of ts)) ≡ parts_in (targets_of ts)
group-parts [] h = absurd (h refl)
group-parts (t ∷ ts) h = refl
