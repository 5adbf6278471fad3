-- Printed names, cut into their parts.
use Rattle.std.proofs.Common.{◌≡◌, ℕ, Bool, true, false, cond, not, ◌&&◌, ◌||◌, ◌==◌, List, [], ◌∷◌, ◌++◌, ◌⊎◌, inl, inr, refl, sym, ap, subst, ◌∙◌, rules, eqb-true, codes, is_none}
use Rattle.std.specs.List.{list_all, list_any}
use Rattle.std.proofs.lemmas.Bool.{and_parts}
use Rattle.cdc_base.specs.Bytes.{front, in_class, is_word_start}
use Rattle.cdc_base.specs.declared.bytes.Class.TheVariants.{Visible, Word}
use Rattle.cdc_base.specs.Words.{is_identifier, keyword_of, is_left_out, is_simple}
use Rattle.flat_unfolding.specs.Outcome.{Text}
use Rattle.flat_unfolding.specs.Names.{printed_part}
use Rattle.signal_names.specs.Paths.{is_visible, prefix_text, path_text}
use Rattle.signal_names.specs.Laws.{NamesTellPaths}

-- whether a byte stands in a text
abbrev has : ℕ → List ℕ → Bool
has d xs = list_any (λ b. b == d) xs

-- nothing, or what begins with this byte
abbrev Begins : ℕ → List ℕ → Type 0
Begins d r = (r ≡ []) ⊎ ((t : List ℕ) × (r ≡ d ∷ t))

head_is : (x y : ℕ) (xs ys : List ℕ) → x ∷ xs ≡ y ∷ ys → x ≡ y
head_is x y xs ys e = search (rules, e)

tail_is : (x y : ℕ) (xs ys : List ℕ) → x ∷ xs ≡ y ∷ ys → xs ≡ ys
tail_is x y xs ys e = search (rules, e)

none_of_either : (a b : Bool) → (a || b) ≡ false → (a ≡ false) × (b ≡ false)
none_of_either false b e = (refl, e)
none_of_either true b e = absurd (search (rules, e))

same_byte : (d : ℕ) → (d == d) ≡ false → ⊥
same_byte d e = search (rules, e)

-- a text without the byte ends at the first one
cut : (d : ℕ) (xs ys r s : List ℕ) → has d xs ≡ false → has d ys ≡ false → Begins d r → Begins d s → xs ++ r ≡ ys ++ s → (xs ≡ ys) × (r ≡ s)
cut d [] [] r s p q b c e = (refl, e)
cut d [] (y ∷ ys) r s p q (inl n) c e = let f = sym n ∙ e in absurd (search (rules, f))
cut d [] (y ∷ ys) r s p q (inr n) c e =
    let f = head_is d y n.0 (ys ++ s) (sym n.1 ∙ e) in
    absurd (same_byte d (subst (λ z. (z == d) ≡ false) (sym f) (none_of_either (y == d) (has d ys) q).0))
cut d (x ∷ xs) [] r s p q b (inl n) e = let f = e ∙ n in absurd (search (rules, f))
cut d (x ∷ xs) [] r s p q b (inr n) e =
    let f = head_is x d (xs ++ r) n.0 (e ∙ n.1) in
    absurd (same_byte d (subst (λ z. (z == d) ≡ false) f (none_of_either (x == d) (has d xs) p).0))
cut d (x ∷ xs) (y ∷ ys) r s p q b c e =
    let h = head_is x y (xs ++ r) (ys ++ s) e in
    let t = cut d xs ys r s (none_of_either (x == d) (has d xs) p).1 (none_of_either (y == d) (has d ys) q).1 b c (tail_is x y (xs ++ r) (ys ++ s) e) in
    (ap (λ z. z ∷ xs) h ∙ ap (λ zs. y ∷ zs) t.0, t.1)

-- a class without a byte keeps it out of texts
kept_out : (d : ℕ) (test : ℕ → Bool) → test d ≡ false → (xs : List ℕ) → list_all test xs ≡ true → has d xs ≡ false
kept_out d test n [] h = refl
kept_out d test n (x ∷ xs) h = go (kept_out d test n xs (and_parts (test x) (list_all test xs) h).1) (x == d) refl
  where
    go : has d xs ≡ false → (c : Bool) → (x == d) ≡ c → (c || has d xs) ≡ false
    go k false e = k
    go k true e =
        let f = sym (and_parts (test x) (list_all test xs) h).0 ∙ ap test (eqb-true x d e) ∙ n in
        absurd (search (rules, f))

no_blank : (x : Text) → is_visible x ≡ true → has 32 x ≡ false
no_blank [] h = refl
no_blank (b ∷ bs) h = kept_out 32 (in_class Visible) refl (b ∷ bs) h

identifier_of : (x : Text) → is_simple x ≡ true → is_identifier x ≡ true
identifier_of x h = (and_parts (is_identifier x) (is_none (keyword_of x)) (and_parts (is_identifier x && is_none (keyword_of x)) (not (is_left_out x)) h).0).0

no_dot : (x : Text) → is_simple x ≡ true → has 46 x ≡ false
no_dot x h = kept_out 46 (in_class Word) refl x (and_parts (is_word_start (front x)) (list_all (in_class Word) x) (identifier_of x h)).1

no_slash : (x : Text) (r t : List ℕ) → is_simple x ≡ true → is_visible x ≡ true → x ++ r ≡ 92 ∷ t → ⊥
no_slash [] r t h v e = search (rules, v)
no_slash (b ∷ bs) r t h v e =
    let f = head_is b 92 (bs ++ r) t e in
    let g = subst (λ z. is_word_start z ≡ true) f (and_parts (is_word_start b) (list_all (in_class Word) (b ∷ bs)) (identifier_of (b ∷ bs) h)).0 in
    search (rules, g)

pub in_a_row : (xs ys zs : List ℕ) → (xs ++ ys) ++ zs ≡ xs ++ (ys ++ zs)
in_a_row [] ys zs = refl
in_a_row (x ∷ xs) ys zs = ap (λ ks. x ∷ ks) (in_a_row xs ys zs)

abbrev escaped : Text → List ℕ → List ℕ
escaped x r = 92 ∷ (x ++ (32 ∷ r))

escaped_is : (x : Text) (r : List ℕ) → (92 ∷ x ++ (32 ∷ [])) ++ r ≡ escaped x r
escaped_is x r = ap (λ t. 92 ∷ t) (in_a_row x (32 ∷ []) r)

-- a part ends at its dot
part_cut : (a b : Text) (r s : List ℕ) → is_visible a ≡ true → is_visible b ≡ true → Begins 46 r → Begins 46 s → printed_part a ++ r ≡ printed_part b ++ s → (a ≡ b) × (r ≡ s)
part_cut a b r s va vb br bs = go (is_simple a) (is_simple b) refl refl
  where
    go : (c d : Bool) → is_simple a ≡ c → is_simple b ≡ d → (cond c a (92 ∷ a ++ (32 ∷ []))) ++ r ≡ (cond d b (92 ∷ b ++ (32 ∷ []))) ++ s → (a ≡ b) × (r ≡ s)
    go true true ca cb e = cut 46 a b r s (no_dot a ca) (no_dot b cb) br bs e
    go true false ca cb e = absurd (no_slash a r _ ca va (e ∙ escaped_is b s))
    go false true ca cb e = absurd (no_slash b s _ cb vb (sym e ∙ escaped_is a r))
    go false false ca cb e =
        let f = tail_is 92 92 (a ++ (32 ∷ r)) (b ++ (32 ∷ s)) (sym (escaped_is a r) ∙ e ∙ escaped_is b s) in
        let t = cut 32 a b (32 ∷ r) (32 ∷ s) (no_blank a va) (no_blank b vb) (inr (r, refl)) (inr (s, refl)) f in
        (t.0, tail_is 32 32 r s t.1)

after_dot : (a : Text) (p : List Text) (x : Text) → path_text (a ∷ p) x ≡ printed_part a ++ (46 ∷ path_text p x)
after_dot a p x = in_a_row (printed_part a ++ codes ".") (prefix_text p) (printed_part x) ∙ in_a_row (printed_part a) (codes ".") (path_text p x)

ended : (x : Text) → printed_part x ≡ printed_part x ++ []
ended x = go (printed_part x)
  where
    go : (t : List ℕ) → t ≡ t ++ []
    go [] = refl
    go (b ∷ bs) = ap (λ t. b ∷ t) (go bs)

-- ---- a printed name tells its path

pub path_cut : (p q : List Text) (x y : Text) → list_all is_visible p ≡ true → list_all is_visible q ≡ true → is_visible x ≡ true → is_visible y ≡ true
    → path_text p x ≡ path_text q y → (p ≡ q) × (x ≡ y)
path_cut [] [] x y vp vq vx vy e =
    (refl, (part_cut x y [] [] vx vy (inl refl) (inl refl) (sym (ended x) ∙ e ∙ ended y)).0)
path_cut [] (b ∷ q) x y vp vq vx vy e =
    let t = part_cut x b [] (46 ∷ path_text q y) vx (and_parts (is_visible b) (list_all is_visible q) vq).0 (inl refl) (inr (path_text q y, refl)) (sym (ended x) ∙ e ∙ after_dot b q y) in
    let f = t.1 in absurd (search (rules, f))
path_cut (a ∷ p) [] x y vp vq vx vy e =
    let t = part_cut a y (46 ∷ path_text p x) [] (and_parts (is_visible a) (list_all is_visible p) vp).0 vy (inr (path_text p x, refl)) (inl refl) (sym (after_dot a p x) ∙ e ∙ ended y) in
    let f = t.1 in absurd (search (rules, f))
path_cut (a ∷ p) (b ∷ q) x y vp vq vx vy e =
    let va = and_parts (is_visible a) (list_all is_visible p) vp in
    let vb = and_parts (is_visible b) (list_all is_visible q) vq in
    let t = part_cut a b (46 ∷ path_text p x) (46 ∷ path_text q y) va.0 vb.0 (inr (path_text p x, refl)) (inr (path_text q y, refl)) (sym (after_dot a p x) ∙ e ∙ after_dot b q y) in
    let r = path_cut p q x y va.1 vb.1 vx vy (tail_is 46 46 (path_text p x) (path_text q y) t.1) in
    (ap (λ z. z ∷ p) t.0 ∙ ap (λ zs. b ∷ zs) r.0, r.1)

pub names_tell_paths : NamesTellPaths
names_tell_paths text a b = path_cut a.path b.path a.own b.own a.visible_path b.visible_path a.visible b.visible (sym a.is ∙ b.is)

-- behind one prefix too
pub same_behind : (xs ys zs : List ℕ) → xs ++ ys ≡ xs ++ zs → ys ≡ zs
same_behind [] ys zs e = e
same_behind (x ∷ xs) ys zs e = same_behind xs ys zs (tail_is x x (xs ++ ys) (xs ++ zs) e)
