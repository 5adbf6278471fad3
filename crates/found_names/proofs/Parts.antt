-- Printed names end where what stands behind a name begins.
use Rattle.std.proofs.Common.{◌≡◌, ◌∙◌, ℕ, Bool, true, false, cond, not, ◌&&◌, List, [], ◌∷◌, ◌++◌, ◌⊎◌, inl, inr, refl, sym, ap, ap₂, rules, codes, is_none}
use Rattle.std.specs.List.{list_all}
use Rattle.std.proofs.lemmas.Bool.{and_parts, both_ways}
use Rattle.cdc_base.specs.Bytes.{front, in_class, is_word_start}
use Rattle.cdc_base.specs.declared.bytes.Class.TheVariants.{Visible, Word}
use Rattle.cdc_base.specs.Words.{is_identifier, keyword_of, is_left_out, is_simple}
use Rattle.flat_unfolding.specs.Outcome.{Text}
use Rattle.flat_unfolding.specs.Names.{printed_part}
use Rattle.signal_names.specs.Paths.{is_visible, path_text, prefix_text}

-- nothing, or what begins with a byte outside a class
abbrev pub Stops : (ℕ → Bool) → List ℕ → Type 0
Stops test r = (r ≡ []) ⊎ ((b : ℕ) × (t : List ℕ) × (r ≡ b ∷ t) × (test b ≡ false))

head-is : (x y : ℕ) (xs ys : List ℕ) → x ∷ xs ≡ y ∷ ys → x ≡ y
head-is x y xs ys e = search (rules, e)

pub tail-is : (x y : ℕ) (xs ys : List ℕ) → x ∷ xs ≡ y ∷ ys → xs ≡ ys
tail-is x y xs ys e = search (rules, e)

none-there : (b : ℕ) (t r : List ℕ) → r ≡ [] → b ∷ t ≡ r → ⊥
none-there b t r n e = let f = e ∙ n in search (rules, f)

module _ (test : ℕ → Bool) where
  -- what stops doesn't begin with a byte of the class
  stopped : (b : ℕ) (t r : List ℕ) → test b ≡ true → Stops test r → b ∷ t ≡ r → ⊥
  stopped b t r h (inl n) e = none-there b t r n e
  stopped b t r h (inr (c, u, is, out)) e = both_ways (test c) out (sym (ap test (head-is b c t u (e ∙ is))) ∙ h)

  -- bytes of a class end at the first one outside
  cut-class : (xs ys r s : List ℕ) → list_all test xs ≡ true → list_all test ys ≡ true → Stops test r → Stops test s → xs ++ r ≡ ys ++ s → (xs ≡ ys) × (r ≡ s)
  cut-class [] [] r s h k p q e = (refl, e)
  cut-class [] (y ∷ ys) r s h k p q e = absurd (stopped y (ys ++ s) r (and_parts (test y) (list_all test ys) k).0 p (sym e))
  cut-class (x ∷ xs) [] r s h k p q e = absurd (stopped x (xs ++ r) s (and_parts (test x) (list_all test xs) h).0 q e)
  cut-class (x ∷ xs) (y ∷ ys) r s h k p q e =
      let rest = cut-class xs ys r s (and_parts (test x) (list_all test xs) h).1 (and_parts (test y) (list_all test ys) k).1 p q (tail-is x y (xs ++ r) (ys ++ s) e) in
      (ap₂ (λ b bs. b ∷ bs) (head-is x y (xs ++ r) (ys ++ s) e) rest.0, rest.1)

three : (xs ys zs : List ℕ) → (xs ++ ys) ++ zs ≡ xs ++ (ys ++ zs)
three [] ys zs = refl
three (x ∷ xs) ys zs = ap (λ ks. x ∷ ks) (three xs ys zs)

visible-bytes : (x : Text) → is_visible x ≡ true → list_all (in_class Visible) x ≡ true
visible-bytes [] h = refl
visible-bytes (b ∷ bs) h = h

identifier-of : (x : Text) → is_simple x ≡ true → is_identifier x ≡ true
identifier-of x h = (and_parts (is_identifier x) (is_none (keyword_of x)) (and_parts (is_identifier x && is_none (keyword_of x)) (not (is_left_out x)) h).0).0

word-bytes : (x : Text) → is_simple x ≡ true → list_all (in_class Word) x ≡ true
word-bytes x h = (and_parts (is_word_start (front x)) (list_all (in_class Word) x) (identifier-of x h)).1

-- a simple name has no backslash in front
no-slash : (x : Text) (r t : List ℕ) → is_simple x ≡ true → is_visible x ≡ true → x ++ r ≡ 92 ∷ t → ⊥
no-slash [] r t h v e = search (rules, v)
no-slash (b ∷ bs) r t h v e =
    both_ways (is_word_start 92) refl (sym (ap is_word_start (head-is b 92 (bs ++ r) t e)) ∙ (and_parts (is_word_start b) (list_all (in_class Word) (b ∷ bs)) (identifier-of (b ∷ bs) h)).0)

escaped-is : (x : Text) (r : List ℕ) → (92 ∷ x ++ (32 ∷ [])) ++ r ≡ 92 ∷ (x ++ (32 ∷ r))
escaped-is x r = ap (λ t. 92 ∷ t) (three x (32 ∷ []) r)

-- a part ends where no word goes on
part-cut : (a b : Text) (r s : List ℕ) → is_visible a ≡ true → is_visible b ≡ true → Stops (in_class Word) r → Stops (in_class Word) s → printed_part a ++ r ≡ printed_part b ++ s → (a ≡ b) × (r ≡ s)
part-cut a b r s va vb p q = go (is_simple a) (is_simple b) refl refl
  where
    go : (c d : Bool) → is_simple a ≡ c → is_simple b ≡ d → (cond c a (92 ∷ a ++ (32 ∷ []))) ++ r ≡ (cond d b (92 ∷ b ++ (32 ∷ []))) ++ s → (a ≡ b) × (r ≡ s)
    go true true ca cb e = cut-class (in_class Word) a b r s (word-bytes a ca) (word-bytes b cb) p q e
    go true false ca cb e = absurd (no-slash a r (b ++ (32 ∷ s)) ca va (e ∙ escaped-is b s))
    go false true ca cb e = absurd (no-slash b s (a ++ (32 ∷ r)) cb vb (sym e ∙ escaped-is a r))
    go false false ca cb e =
        let t = cut-class (in_class Visible) a b (32 ∷ r) (32 ∷ s) (visible-bytes a va) (visible-bytes b vb) (inr (32, r, refl, refl)) (inr (32, s, refl, refl))
        (tail-is 92 92 (a ++ (32 ∷ r)) (b ++ (32 ∷ s)) (sym (escaped-is a r) ∙ e ∙ escaped-is b s)) in
        (t.0, tail-is 32 32 r s t.1)

-- what may stand behind a signal's name: nothing, or an index in brackets
abbrev pub IsEnding : List ℕ → Type 0
IsEnding r = (r ≡ []) ⊎ ((t : List ℕ) × (r ≡ 91 ∷ t))

ending-stops : (r : List ℕ) → IsEnding r → Stops (in_class Word) r
ending-stops r (inl n) = inl n
ending-stops r (inr (t, is)) = inr (91, t, is, refl)

dot-stops : (t : List ℕ) → Stops (in_class Word) (46 ∷ t)
dot-stops t = inr (46, t, refl, refl)

no-dot : (r t : List ℕ) → IsEnding r → r ≡ 46 ∷ t → ⊥
no-dot r t (inl n) e = let f = sym n ∙ e in search (rules, f)
no-dot r t (inr (u, is)) e = let f = head-is 91 46 u t (sym is ∙ e) in search (rules, f)

after-dot : (a : Text) (p : List Text) (x : Text) (r : List ℕ) → path_text (a ∷ p) x ++ r ≡ printed_part a ++ (46 ∷ (path_text p x ++ r))
after-dot a p x r =
    ap (λ t. t ++ r) (three (printed_part a ++ codes ".") (prefix_text p) (printed_part x) ∙ three (printed_part a) (codes ".") (path_text p x))
    ∙ three (printed_part a) (46 ∷ path_text p x) r

-- a printed name ends where its ending begins
pub name-cut : (p q : List Text) (x y : Text) (r s : List ℕ) → list_all is_visible p ≡ true → list_all is_visible q ≡ true → is_visible x ≡ true → is_visible y ≡ true
    → IsEnding r → IsEnding s → path_text p x ++ r ≡ path_text q y ++ s → (p ≡ q) × (x ≡ y) × (r ≡ s)
name-cut [] [] x y r s vp vq vx vy k l e = let t = part-cut x y r s vx vy (ending-stops r k) (ending-stops s l) e in (refl, t.0, t.1)
name-cut [] (b ∷ q) x y r s vp vq vx vy k l e =
    let t = part-cut x b r (46 ∷ (path_text q y ++ s)) vx (and_parts (is_visible b) (list_all is_visible q) vq).0 (ending-stops r k) (dot-stops (path_text q y ++ s)) (e ∙ after-dot b q y s) in
    absurd (no-dot r (path_text q y ++ s) k t.1)
name-cut (a ∷ p) [] x y r s vp vq vx vy k l e =
    let t = part-cut a y (46 ∷ (path_text p x ++ r)) s (and_parts (is_visible a) (list_all is_visible p) vp).0 vy (dot-stops (path_text p x ++ r)) (ending-stops s l) (sym (after-dot a p x r) ∙ e) in
    absurd (no-dot s (path_text p x ++ r) l (sym t.1))
name-cut (a ∷ p) (b ∷ q) x y r s vp vq vx vy k l e =
    let va = and_parts (is_visible a) (list_all is_visible p) vp in
    let vb = and_parts (is_visible b) (list_all is_visible q) vq in
    let t = part-cut a b (46 ∷ (path_text p x ++ r)) (46 ∷ (path_text q y ++ s)) va.0 vb.0 (dot-stops (path_text p x ++ r)) (dot-stops (path_text q y ++ s)) (sym (after-dot a p x r) ∙ e ∙ after-dot b q y s) in
    let u = name-cut p q x y r s va.1 vb.1 vx vy k l (tail-is 46 46 (path_text p x ++ r) (path_text q y ++ s) t.1) in
    (ap₂ (λ c cs. c ∷ cs) t.0 u.0, u.1, u.2)
