-- Parts of concatenations and replications, and what these make of them.
use Rattle.std.proofs.Common.{◌≡◌, ℕ, ◌+◌, ◌-◌, ◌^◌, ◌≤◌, min, Bool, true, false, cond, not, ◌&&◌, ◌||◌, nat_lt, List, [], ◌∷◌, ◌++◌, map, Option, Some, None, is_some, refl, sym, ap, ap₂, subst, ◌∙◌, arith, eq-eqb}
use Rattle.std.specs.Prelude.{unwrap_or}
use Rattle.std.specs.List.{list_all}
use Rattle.std.proofs.lemmas.List.{map-append}
use Rattle.std.proofs.lemmas.List.Folds.{list_all-append}
use Rattle.std.proofs.lemmas.Bool.{and_parts, false≢true}
use Rattle.flat_meaning.specs.Flat as m
use Rattle.flat_meaning.specs.Flat.{Expr, sizes}
use Rattle.flat_meaning.proofs.Words.{by_lt}
use Rattle.flat_form.specs.declared.flat.FExpr.{FExpr}
use Rattle.flat_form.specs.declared.flat.FExpr.TheVariants as f
use Rattle.flat_form.specs.View.{expr_of, exprs_of}
use Rattle.flat_form.specs.Sizes.{Kept, is_word, kept_of, sum, all_right}
use Rattle.flat_form.proofs.Folds.{expr_of-Join, kept_of-Join}
use Rattle.flat_form.proofs.Sized.{sized_range, width_word}
use Rattle.flat_form.proofs.Constants.{parts_width, head-sized}
use Rattle.flat_unfolding.specs.Expressions.{Term, is_empty, is_sound, all_broken, all_sound, joined, join_term}
use Rattle.flat_meaning.specs.Law.{expr_reads}
use Rattle.flat_form.specs.Uses.{exprs_read}
use Rattle.flat_names.specs.declared.resolved.Resolved.{Resolved}
use Rattle.flat_names.specs.declared.resolved.Parts.{Parts}
use Rattle.flat_names.specs.declared.signs.Signs.{Signs}
use Rattle.flat_names.specs.Pieces.{IsRead, AreRead, within_word}
use Rattle.flat_names.proofs.Terms.{empty-both, empty-if}

-- ---- one part more

sum-more : (ks : List Kept) (k : Kept) → sum (ks ++ k ∷ []) ≡ sum ks + k.width
sum-more [] k = omega arith
sum-more (j ∷ ks) k = let e = sum-more ks k in omega arith

right-more : (ks : List Kept) (k : Kept) → all_right (ks ++ k ∷ []) ≡ (all_right ks && k.right)
right-more [] k = and-true k.right
  where
    and-true : (b : Bool) → (b && true) ≡ b
    and-true true = refl
    and-true false = refl
right-more (j ∷ ks) k = ap (λ b. j.right && b) (right-more ks k) ∙ and-assoc j.right (all_right ks) k.right
  where
    and-assoc : (a b c : Bool) → (a && (b && c)) ≡ ((a && b) && c)
    and-assoc true b c = refl
    and-assoc false b c = refl

reads-more : (wid : ℕ → ℕ) (s i : ℕ) (xs : List Expr) (x : Expr) → exprs_read wid (exprs_of (xs ++ x ∷ [])) s i ≡ (exprs_read wid (exprs_of xs) s i || expr_reads wid x s i)
reads-more wid s i [] x = or-false (expr_reads wid x s i)
  where
    or-false : (b : Bool) → (b || false) ≡ b
    or-false true = refl
    or-false false = refl
reads-more wid s i (y ∷ xs) x = ap (λ b. expr_reads wid y s i || b) (reads-more wid s i xs x) ∙ or-assoc (expr_reads wid y s i) (exprs_read wid (exprs_of xs) s i) (expr_reads wid x s i)
  where
    or-assoc : (a b c : Bool) → (a || (b || c)) ≡ ((a || b) || c)
    or-assoc true b c = refl
    or-assoc false b c = refl

one-more : {A : Type 0} (g : A → Bool) (xs : List A) (a : A) → list_all g (xs ++ a ∷ []) ≡ (list_all g xs && g a)
one-more g xs a = list_all-append g xs (a ∷ []) ∙ ap (λ b. list_all g xs && b) (and-true (g a))
  where
    and-true : (b : Bool) → (b && true) ≡ b
    and-true true = refl
    and-true false = refl

held : (a b c : ℕ) → a ≡ min (2 ^ 64 - 1) b → min (2 ^ 64 - 1) (a + c) ≡ min (2 ^ 64 - 1) (b + c)
held a b c h = omega arith

pub more-read : (ts : List Term) (t : Term) (p q : Parts) (r : Resolved) → AreRead ts p → IsRead t r → q.items.items ≡ p.items.items ++ r.expr ∷ []
    → q.width ≡ min (2 ^ 64 - 1) (p.width + (kept_of r.expr).width) → q.is_sound ≡ (p.is_sound && r.is_sound) → q.is_constant ≡ (p.is_constant && r.is_constant) → AreRead (ts ++ t ∷ []) q
more-read ts t p q r h i items width sound constant = record {
  sound = sound ∙ ap₂ (λ a b. a && b) h.sound i.sound ∙ sym (one-more is_sound ts t);
  constant = constant ∙ ap₂ (λ a b. a && b) h.constant i.constant ∙ sym (one-more (λ (u : Term). u.is_constant) ts t);
  exprs = λ s. let k = both s in exprs_are ∙ ap₂ (λ xs x. xs ++ x ∷ []) (h.exprs k.0) (i.expr k.1) ∙ sym (map-append (λ (u : Term). u.expr) ts (t ∷ []));
  sized = λ s. let k = both s in ap all_right kept_are ∙ right-more kept (kept_of r.expr) ∙ ap₂ (λ a b. a && b) (h.sized k.0) (i.sized k.1);
  width = width ∙ held p.width (sum kept) (kept_of r.expr).width h.width ∙ ap (min (2 ^ 64 - 1)) (sym (ap sum kept_are ∙ sum-more kept (kept_of r.expr)));
  reads = λ wid s j. ap (λ xs. exprs_read wid (exprs_of xs) s j) exprs_are ∙ reads-more wid s j (map expr_of p.items.items) (expr_of r.expr)
      ∙ ap₂ (λ a b. a || b) (h.reads wid s j) (i.reads wid s j)
      ∙ sym (ap (λ xs. exprs_read wid (exprs_of xs) s j) (map-append (λ (u : Term). u.expr) ts (t ∷ [])) ∙ reads-more wid s j (map (λ (u : Term). u.expr) ts) t.expr);
}
  where
    kept : List Kept
    kept = map kept_of p.items.items

    kept_are : map kept_of q.items.items ≡ kept ++ kept_of r.expr ∷ []
    kept_are = ap (map kept_of) items ∙ map-append kept_of p.items.items (r.expr ∷ [])

    exprs_are : map expr_of q.items.items ≡ map expr_of p.items.items ++ expr_of r.expr ∷ []
    exprs_are = ap (map expr_of) items ∙ map-append expr_of p.items.items (r.expr ∷ [])

    both : q.is_sound ≡ true → (p.is_sound ≡ true) × (r.is_sound ≡ true)
    both s = and_parts p.is_sound r.is_sound (sym sound ∙ s)

-- ---- concatenations

pub empty-all : (ts : List Term) → is_empty (all_broken ts) ≡ all_sound ts
empty-all [] = refl
empty-all (t ∷ ts) = empty-both t.broken (all_broken ts) ∙ ap (λ b. is_sound t && b) (empty-all ts)

-- the sum of the widths of sound parts
pub parts-sizes : (ts : List Term) (p : Parts) → AreRead ts p → p.is_sound ≡ true → sum (map kept_of p.items.items) ≡ sizes (joined ts)
parts-sizes ts p h s = parts_width p.items.items (h.sized s) ∙ ap (λ xs. sizes (exprs_of xs)) (h.exprs s)

pub held-most : (n : ℕ) → nat_lt 64 (min (2 ^ 64 - 1) n) ≡ nat_lt 64 n
held-most n = by_lt (λ b. nat_lt 64 (min (2 ^ 64 - 1) n) ≡ b) 64 n (λ l. by_lt (λ b. b ≡ true) 64 (min (2 ^ 64 - 1) n) (λ k. refl) (λ k. absurd (omega arith)))
    (λ l. by_lt (λ b. b ≡ false) 64 (min (2 ^ 64 - 1) n) (λ k. absurd (omega arith)) (λ k. refl))

pub some-within : (s : Bool) (n : ℕ) → is_some (within_word s n) ≡ (s && not (nat_lt 64 n))
some-within false n = refl
some-within true n = go (nat_lt 64 n)
  where
    go : (b : Bool) → is_some (cond b None (Some n)) ≡ not b
    go true = refl
    go false = refl

pub and-not : (s b : Bool) → (s && not b) ≡ (s && not (s && b))
and-not true b = refl
and-not false b = refl

-- where the width is within a word, it is the width
pub word-is : (s : Bool) (n : ℕ) (d : ℕ) → is_some (within_word s n) ≡ true → (s ≡ true) × (unwrap_or (within_word s n) d ≡ n) × (n ≤ 64)
word-is false n d h = absurd (false≢true h)
word-is true n d h = by_lt (λ b. is_some (cond b None (Some n)) ≡ true → (true ≡ true) × (unwrap_or (cond b None (Some n)) d ≡ n) × (n ≤ 64)) 64 n (λ l k. absurd (false≢true k)) (λ l k. (refl, refl, omega arith)) h

some-sum : (e : FExpr) (es : List FExpr) → all_right (map kept_of (e ∷ es)) ≡ true → 1 ≤ sum (map kept_of (e ∷ es))
some-sum e es h = let w = (sized_range e (head-sized e es h)).some in omega arith

-- there is a part, as the parts were read from something
pub first-part : (t : Term) (ts : List Term) (es : List FExpr) → map expr_of es ≡ map (λ (u : Term). u.expr) (t ∷ ts) → all_right (map kept_of es) ≡ true → 1 ≤ sum (map kept_of es)
first-part t ts [] e h = absurd (false≢true (sym (ap is_empty e)))
first-part t ts (x ∷ es) e h = some-sum x es h

pub is-join : (t : Term) (ts : List Term) (p : Parts) (v : Option ℕ) (g : Signs) → AreRead (t ∷ ts) p → v ≡ within_word p.is_sound p.width
    → IsRead (join_term (t ∷ ts)) (record { expr = f.Join p.items.items (unwrap_or v 1); is_sound = is_some v; is_constant = p.is_constant; count = None; signs = g })
is-join t ts p v g h e = record {
  sound = ap is_some e ∙ some-within p.is_sound p.width ∙ wide p.is_sound refl ∙ sym (empty-both (all_broken all) _ ∙ ap₂ (λ a b. a && b) (empty-all all) (empty-if (all_sound all && nat_lt 64 (sizes (joined all))) 308 []));
  constant = h.constant;
  expr = λ s. expr_of-Join p.items.items (unwrap_or v 1) ∙ ap (λ xs. m.Join (exprs_of xs)) (h.exprs (fit s).0);
  sized = λ s. ap (λ (k : Kept). k.right) (kept_of-Join p.items.items (unwrap_or v 1)) ∙ ap₂ (λ a b. a && b) (eq-eqb _ _ (width_is s)) (ap₂ (λ a b. a && b) (word s) (h.sized (fit s).0));
  reads = λ wid s i. ap (λ x. expr_reads wid x s i) (expr_of-Join p.items.items (unwrap_or v 1)) ∙ h.reads wid s i;
}
  where
    all : List Term
    all = t ∷ ts

    wide : (s : Bool) → p.is_sound ≡ s → (p.is_sound && not (nat_lt 64 p.width)) ≡ (all_sound all && not (all_sound all && nat_lt 64 (sizes (joined all))))
    wide false i = ap (λ b. b && not (nat_lt 64 p.width)) i ∙ ap (λ b. b && not (b && nat_lt 64 (sizes (joined all)))) (sym i ∙ h.sound)
    wide true i = ap (λ n. p.is_sound && not (nat_lt 64 n)) h.width ∙ ap (λ b. p.is_sound && not b) (held-most (sum (map kept_of p.items.items)) ∙ ap (nat_lt 64) (parts-sizes all p h i))
        ∙ and-not p.is_sound (nat_lt 64 (sizes (joined all))) ∙ ap (λ b. b && not (b && nat_lt 64 (sizes (joined all)))) h.sound

    fit : is_some v ≡ true → (p.is_sound ≡ true) × (unwrap_or (within_word p.is_sound p.width) 1 ≡ p.width) × (p.width ≤ 64)
    fit s = word-is p.is_sound p.width 1 (sym (ap is_some e) ∙ s)

    width_is : is_some v ≡ true → unwrap_or v 1 ≡ sum (map kept_of p.items.items)
    width_is s = let k = fit s in let l = k.2 in let w = h.width in let z : p.width ≡ sum (map kept_of p.items.items) = omega arith in ap (λ o. unwrap_or o 1) e ∙ k.1 ∙ z

    word : is_some v ≡ true → is_word (unwrap_or v 1) ≡ true
    word s = let k = fit s in let l = k.2 in let w = width_is s in let o = first-part t ts p.items.items (h.exprs k.0) (h.sized k.0) in let i = h.width in let u : unwrap_or v 1 ≡ p.width = ap (λ o. unwrap_or o 1) e ∙ k.1 in
        width_word (unwrap_or v 1) (record { some = omega arith; most = omega arith })

-- whether the sum passes a word, as it is held
pub wide-test : (ts : List Term) (p : Parts) → AreRead ts p → (p.is_sound && nat_lt 64 p.width) ≡ (all_sound ts && nat_lt 64 (sizes (joined ts)))
wide-test ts p h = go p.is_sound refl
  where
    go : (s : Bool) → p.is_sound ≡ s → (p.is_sound && nat_lt 64 p.width) ≡ (all_sound ts && nat_lt 64 (sizes (joined ts)))
    go false i = ap (λ b. b && nat_lt 64 p.width) i ∙ ap (λ b. b && nat_lt 64 (sizes (joined ts))) (sym i ∙ h.sound)
    go true i = ap (λ n. p.is_sound && nat_lt 64 n) h.width ∙ ap (λ b. p.is_sound && b) (held-most (sum (map kept_of p.items.items)) ∙ ap (nat_lt 64) (parts-sizes ts p h i))
        ∙ ap (λ b. b && nat_lt 64 (sizes (joined ts))) h.sound

-- a concatenation as it is made
pub is-joined : (t : Term) (ts : List Term) (p : Parts) (v : Option ℕ) (es : List FExpr) (w : ℕ) (s : Bool) (g : Signs) → AreRead (t ∷ ts) p → v ≡ within_word p.is_sound p.width
    → es ≡ p.items.items → w ≡ unwrap_or v 1 → s ≡ is_some v → IsRead (join_term (t ∷ ts)) (record { expr = f.Join es w; is_sound = s; is_constant = p.is_constant; count = None; signs = g })
is-joined t ts p v es w s g h e is iw so =
    subst (λ xs. IsRead (join_term (t ∷ ts)) (record { expr = f.Join xs w; is_sound = s; is_constant = p.is_constant; count = None; signs = g })) (sym is)
    (subst (λ n. IsRead (join_term (t ∷ ts)) (record { expr = f.Join p.items.items n; is_sound = s; is_constant = p.is_constant; count = None; signs = g })) (sym iw)
    (subst (λ b. IsRead (join_term (t ∷ ts)) (record { expr = f.Join p.items.items (unwrap_or v 1); is_sound = b; is_constant = p.is_constant; count = None; signs = g })) (sym so) (is-join t ts p v g h e)))
