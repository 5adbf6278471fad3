-- Counts and replications.
use Rattle.std.proofs.Common.{◌≡◌, ℕ, zero, suc, ◌-◌, ◌*◌, ◌^◌, ◌<◌, ◌≤◌, min, Bool, true, false, cond, not, ◌&&◌, ◌==◌, nat_lt, nat_le, List, [], ◌∷◌, ◌++◌, map, Option, Some, None, is_some, refl, sym, ap, ap₂, subst, ◌∙◌, arith, eq-eqb, ne_eqb, le-leb, leb-true, mul-suc, suc-mul}
use Rattle.std.specs.Prelude.{unwrap_or}
use Rattle.std.proofs.lemmas.Bool.{and_parts, false≢true}
use Rattle.flat_meaning.specs.Flat as m
use Rattle.flat_meaning.specs.Flat.{Expr, sizes}
use Rattle.flat_meaning.proofs.Words.{by_lt}
use Rattle.cell_graph.specs.Tree.{number}
use Rattle.flat_meaning.specs.Meaning.{value}
use Rattle.flat_meaning.specs.Full.{nothing}
use Rattle.flat_form.specs.declared.flat.FExpr.{FExpr}
use Rattle.flat_form.specs.declared.flat.FExpr.TheVariants as f
use Rattle.flat_form.specs.View.{expr_of, exprs_of}
use Rattle.flat_form.specs.Sizes.{Kept, is_word, kept_of, is_sized, sum}
use Rattle.flat_form.proofs.Folds.{expr_of-Repeat, kept_of-Repeat}
use Rattle.flat_form.proofs.Sized.{width_word}
use Rattle.flat_unfolding.specs.Outcome.{breaks_if}
use Rattle.flat_unfolding.specs.Constants.{own_value}
use Rattle.flat_unfolding.specs.Expressions.{Term, is_sound, all_broken, all_sound, joined, as_constant, as_bound, as_count, repeat_term}
use Rattle.flat_meaning.specs.Law.{expr_reads}
use Rattle.flat_names.specs.declared.resolved.Resolved.{Resolved}
use Rattle.flat_names.specs.declared.resolved.Parts.{Parts}
use Rattle.flat_names.specs.Noting.{Noted, noted, all_noted}
use Rattle.flat_names.specs.declared.signs.Signs.{Signs}
use Rattle.flat_names.specs.Pieces.{IsRead, AreRead, within_word, count_notes, out_of_range}
use Rattle.flat_names.proofs.Terms.{empty-both, empty-if}
use Rattle.flat_names.proofs.Looked.{own-is}
use Rattle.flat_names.proofs.Joined.{empty-all, parts-sizes, first-part, word-is, some-within, and-not, held-most}

-- ---- bounds and counts

pub bound-sound : (t : Term) → is_sound (as_bound t) ≡ (is_sound (as_constant t) && not (nat_le (2 ^ 31) (own_value t.expr)))
bound-sound t = empty-both (as_constant t).broken _ ∙ ap (λ b. is_sound (as_constant t) && b) (empty-if (is_sound (as_constant t) && nat_le (2 ^ 31) (own_value t.expr)) 307 [])
    ∙ sym (and-not (is_sound (as_constant t)) (nat_le (2 ^ 31) (own_value t.expr)))

pub count-sound : (t : Term) → is_sound (as_count t) ≡ (is_sound (as_bound t) && not (own_value t.expr == 0))
count-sound t = empty-both (as_bound t).broken _ ∙ ap (λ b. is_sound (as_bound t) && b) (empty-if (is_sound (as_bound t) && (own_value t.expr == 0)) 307 [])
    ∙ sym (and-not (is_sound (as_bound t)) (own_value t.expr == 0))

abbrev pub Counts : Term → Option ℕ → Noted → Noted → Type 0
Counts t n old new = (n ≡ cond (is_sound (as_count t)) (Some (own_value t.expr)) None) × (new ≡ all_noted old (count_notes t))

-- the three outcomes of a count, by whether its constant breaks a rule, is within its bounds, and is 0
counts-by : (t : Term) (old : Noted) (s b z : Bool) → is_sound (as_constant t) ≡ s → nat_le (2 ^ 31) (own_value t.expr) ≡ b → (own_value t.expr == 0) ≡ z
    → Counts t (cond ((s && not b) && not z) (Some (own_value t.expr)) None) old
    (all_noted old (breaks_if (s && b) 307 [] ++ breaks_if ((s && not b) && z) 307 []))
counts-by t old s b z es eb ez =
    let v = own_value t.expr in
    let bound : is_sound (as_bound t) ≡ (s && not b) = bound-sound t ∙ ap₂ (λ x y. x && not y) es eb in (
      ap (λ x. cond x (Some v) None) (sym (count-sound t ∙ ap₂ (λ x y. x && not y) bound ez)),
      ap₂ (λ x y. all_noted old (breaks_if x 307 [] ++ breaks_if y 307 [])) (sym (ap₂ (λ x y. x && y) es eb)) (sym (ap₂ (λ x y. x && y) bound ez)),
    )

le-false : (n : ℕ) → n < 2 ^ 31 → nat_le (2 ^ 31) n ≡ false
le-false n h = go (nat_le (2 ^ 31) n) refl
  where
    go : (v : Bool) → nat_le (2 ^ 31) n ≡ v → nat_le (2 ^ 31) n ≡ false
    go true e = absurd (let l = leb-true (2 ^ 31) n e in omega arith)
    go false e = e

-- the count's value, as it is computed
pub count-value : (t : Term) (r : Resolved) (n : ℕ) → IsRead (as_constant t) r → r.is_sound ≡ true
    → (is_sized r.expr ≡ true → (n ≡ number (value nothing (expr_of r.expr) (kept_of r.expr).width) (kept_of r.expr).width) × (n < 2 ^ (kept_of r.expr).width)) → n ≡ own_value t.expr
count-value t r n h s e = let z = h.sized s in own-is r.expr n z (e z).0 ∙ ap own_value (h.expr s)

pub count-unsound : (t : Term) (r : Resolved) (old : Noted) → IsRead (as_constant t) r → r.is_sound ≡ false → Counts t None old old
count-unsound t r old h s = counts-by t old false (nat_le (2 ^ 31) (own_value t.expr)) (own_value t.expr == 0) (sym h.sound ∙ s) refl refl

pub count-zero : (t : Term) (r : Resolved) (old : Noted) → IsRead (as_constant t) r → r.is_sound ≡ true → own_value t.expr ≡ 0 → Counts t None old (noted old out_of_range)
count-zero t r old h s e = counts-by t old true false true (sym h.sound ∙ s) (le-false (own_value t.expr) (omega arith)) (eq-eqb (own_value t.expr) 0 e)

pub count-large : (t : Term) (r : Resolved) (old : Noted) → IsRead (as_constant t) r → r.is_sound ≡ true → 2 ^ 31 ≤ own_value t.expr → Counts t None old (noted old out_of_range)
count-large t r old h s e = counts-by t old true true false (sym h.sound ∙ s) (le-leb (2 ^ 31) (own_value t.expr) e) (ne_eqb (own_value t.expr) 0 (λ z. omega arith))

pub count-right : (t : Term) (r : Resolved) (old : Noted) → IsRead (as_constant t) r → r.is_sound ≡ true → own_value t.expr < 2 ^ 31 → 1 ≤ own_value t.expr → Counts t (Some (own_value t.expr)) old old
count-right t r old h s e o = counts-by t old true false false (sym h.sound ∙ s) (le-false (own_value t.expr) e) (ne_eqb (own_value t.expr) 0 (λ z. omega arith))

-- ---- replications

no-less : (a b : ℕ) → 1 ≤ b → a ≤ a * b
no-less a zero h = absurd (omega arith)
no-less a (suc b) h = let p = mul-suc a b in omega arith

-- the product of the count and the parts' width, as it is held
product : (n s : ℕ) → n < 2 ^ 31 → min (2 ^ 64 - 1) (n * min (2 ^ 64 - 1) s) ≡ min (2 ^ 64 - 1) (n * s)
product n s h = by_lt (λ b. min (2 ^ 64 - 1) (n * min (2 ^ 64 - 1) s) ≡ min (2 ^ 64 - 1) (n * s)) s (2 ^ 64)
    (λ l. ap (λ k. min (2 ^ 64 - 1) (n * k)) (let e : min (2 ^ 64 - 1) s ≡ s = omega arith in e))
    (λ l. let e : min (2 ^ 64 - 1) s ≡ 2 ^ 64 - 1 = omega arith in ap (λ k. min (2 ^ 64 - 1) (n * k)) e ∙ large n l)
  where
    large : (n : ℕ) → 2 ^ 64 ≤ s → min (2 ^ 64 - 1) (n * (2 ^ 64 - 1)) ≡ min (2 ^ 64 - 1) (n * s)
    large zero l = omega arith
    large (suc k) l = let p = suc-mul k (2 ^ 64 - 1) in let q = suc-mul k s in omega arith

some-cond : (n : ℕ) (b : Bool) → is_some (cond b (Some n) None) ≡ b
some-cond n true = refl
some-cond n false = refl

pub is-repeat : (k t : Term) (ts : List Term) (p : Parts) (n v : Option ℕ) (count total : ℕ) (g : Signs) → AreRead (t ∷ ts) p → n ≡ cond (is_sound (as_count k)) (Some (own_value k.expr)) None
    → (is_sound (as_count k) ≡ true → (1 ≤ own_value k.expr) × (own_value k.expr < 2 ^ 31)) → total ≡ min (2 ^ 64 - 1) (unwrap_or n 0 * p.width)
    → v ≡ within_word (p.is_sound && is_some n) total → (own_value k.expr ≤ 64 → is_some n ≡ true → count ≡ own_value k.expr)
    → IsRead (repeat_term k (t ∷ ts)) (record { expr = f.Repeat count p.items.items (unwrap_or v 1); is_sound = is_some v; is_constant = p.is_constant; count = None; signs = g })
is-repeat k t ts p n v count total g h en small et ev ec = record {
  sound = ap is_some ev ∙ some-within (p.is_sound && is_some n) total ∙ wide ∙ sym whole_sound;
  constant = h.constant;
  expr = λ s. expr_of-Repeat count p.items.items (unwrap_or v 1) ∙ ap₂ m.Repeat (count_is s) (ap exprs_of (h.exprs (parts s)));
  sized = λ s. ap (λ (x : Kept). x.right) (kept_of-Repeat count p.items.items (unwrap_or v 1)) ∙ ap₂ (λ a b. a && b) (eq-eqb _ _ (width_is s)) (ap₂ (λ a b. a && b) (word s) (h.sized (parts s)));
  reads = λ wid s i. ap (λ x. expr_reads wid x s i) (expr_of-Repeat count p.items.items (unwrap_or v 1)) ∙ h.reads wid s i;
}
  where
    all : List Term
    all = t ∷ ts

    own : ℕ
    own = own_value k.expr

    sum_ : ℕ
    sum_ = sum (map kept_of p.items.items)

    some_is : is_some n ≡ is_sound (as_count k)
    some_is = ap is_some en ∙ some-cond own (is_sound (as_count k))

    -- where the count breaks no rule, and no part does
    held_is : is_sound (as_count k) ≡ true → total ≡ min (2 ^ 64 - 1) (own * sum_)
    held_is c = et ∙ ap (λ o. min (2 ^ 64 - 1) (unwrap_or o 0 * p.width)) (en ∙ ap (λ b. cond b (Some own) None) c)
        ∙ ap (λ w. min (2 ^ 64 - 1) (own * w)) h.width ∙ product own sum_ (small c).1

    whole_sound : is_sound (repeat_term k all) ≡ ((is_sound (as_count k) && all_sound all) && not (is_sound (as_count k) && all_sound all && nat_lt 64 (own * sizes (joined all))))
    whole_sound = empty-both ((as_count k).broken ++ all_broken all) _
        ∙ ap₂ (λ a b. a && b) (empty-both (as_count k).broken (all_broken all) ∙ ap (λ b. is_sound (as_count k) && b) (empty-all all))
        (empty-if (is_sound (as_count k) && all_sound all && nat_lt 64 (own * sizes (joined all))) 308 [])

    split : (a b : Bool) → p.is_sound ≡ a → is_sound (as_count k) ≡ b
        → ((a && b) && not (nat_lt 64 total)) ≡ ((b && a) && not (b && a && nat_lt 64 (own * sizes (joined all))))
    split true true ea eb = ap (λ x. not (nat_lt 64 x)) (held_is eb) ∙ ap not (held-most (own * sum_) ∙ ap (λ x. nat_lt 64 (own * x)) (parts-sizes all p h ea))
    split true false ea eb = refl
    split false true ea eb = refl
    split false false ea eb = refl

    wide : ((p.is_sound && is_some n) && not (nat_lt 64 total)) ≡ ((is_sound (as_count k) && all_sound all) && not (is_sound (as_count k) && all_sound all && nat_lt 64 (own * sizes (joined all))))
    wide = ap (λ b. (p.is_sound && b) && not (nat_lt 64 total)) some_is ∙ split p.is_sound (is_sound (as_count k)) refl refl
        ∙ ap (λ a. (is_sound (as_count k) && a) && not (is_sound (as_count k) && a && nat_lt 64 (own * sizes (joined all)))) h.sound

    fit : is_some v ≡ true → ((p.is_sound && is_some n) ≡ true) × (unwrap_or (within_word (p.is_sound && is_some n) total) 1 ≡ total) × (total ≤ 64)
    fit s = word-is (p.is_sound && is_some n) total 1 (sym (ap is_some ev) ∙ s)

    parts : is_some v ≡ true → p.is_sound ≡ true
    parts s = (and_parts p.is_sound (is_some n) (fit s).0).0

    counted : is_some v ≡ true → is_some n ≡ true
    counted s = (and_parts p.is_sound (is_some n) (fit s).0).1

    some_part : is_some v ≡ true → 1 ≤ sum_
    some_part s = first-part t ts p.items.items (h.exprs (parts s)) (h.sized (parts s))

    product_is : is_some v ≡ true → total ≡ own * sum_
    product_is s = let e = held_is (sym some_is ∙ counted s) in let l = (fit s).2 in omega arith

    count_is : is_some v ≡ true → count ≡ own
    count_is s = let e = product_is s in let l = (fit s).2 in let g = no-less own sum_ (some_part s) in ec (omega arith) (counted s)

    width_is : is_some v ≡ true → unwrap_or v 1 ≡ count * sum_
    width_is s = ap (λ o. unwrap_or o 1) ev ∙ (fit s).1 ∙ product_is s ∙ ap (λ x. x * sum_) (sym (count_is s))

    word : is_some v ≡ true → is_word (unwrap_or v 1) ≡ true
    word s = let e : unwrap_or v 1 ≡ total = ap (λ o. unwrap_or o 1) ev ∙ (fit s).1 in let l = (fit s).2 in let d = product_is s in let o = (small (sym some_is ∙ counted s)).0 in
        let g = no-less sum_ own o in let c : sum_ * own ≡ own * sum_ = grind arith in let i = some_part s in width_word (unwrap_or v 1) (record { some = omega arith; most = omega arith })

-- ---- what a replication notes

not-true : (b : Bool) → not b ≡ true → b ≡ false
not-true true h = absurd (false≢true h)
not-true false h = refl

-- a count that breaks no rule
pub count-range : (k : Term) → is_sound (as_count k) ≡ true → (1 ≤ own_value k.expr) × (own_value k.expr < 2 ^ 31)
count-range k h = (some, small)
  where
    parts : (is_sound (as_bound k) ≡ true) × (not (own_value k.expr == 0) ≡ true)
    parts = and_parts (is_sound (as_bound k)) (not (own_value k.expr == 0)) (sym (count-sound k) ∙ h)

    bound : (is_sound (as_constant k) ≡ true) × (not (nat_le (2 ^ 31) (own_value k.expr)) ≡ true)
    bound = and_parts (is_sound (as_constant k)) (not (nat_le (2 ^ 31) (own_value k.expr))) (sym (bound-sound k) ∙ parts.0)

    some : 1 ≤ own_value k.expr
    some = by_lt (λ b. 1 ≤ own_value k.expr) 0 (own_value k.expr) (λ l. omega arith)
        (λ g. absurd (false≢true (sym (not-true (own_value k.expr == 0) parts.1) ∙ eq-eqb (own_value k.expr) 0 (omega arith))))

    small : own_value k.expr < 2 ^ 31
    small = by_lt (λ b. own_value k.expr < 2 ^ 31) (own_value k.expr) (2 ^ 31) (λ l. l)
        (λ g. absurd (false≢true (sym (not-true (nat_le (2 ^ 31) (own_value k.expr)) bound.1) ∙ le-leb (2 ^ 31) (own_value k.expr) g)))

-- whether the product passes a word, as it is held
pub repeat-test : (k t : Term) (ts : List Term) (p : Parts) (n : Option ℕ) (total : ℕ) → AreRead (t ∷ ts) p → n ≡ cond (is_sound (as_count k)) (Some (own_value k.expr)) None
    → total ≡ min (2 ^ 64 - 1) (unwrap_or n 0 * p.width)
    → ((p.is_sound && is_some n) && nat_lt 64 total) ≡ (is_sound (as_count k) && all_sound (t ∷ ts) && nat_lt 64 (own_value k.expr * sizes (joined (t ∷ ts))))
repeat-test k t ts p n total h en et = go p.is_sound (is_sound (as_count k)) refl refl
  where
    all : List Term
    all = t ∷ ts

    own : ℕ
    own = own_value k.expr

    some_is : is_some n ≡ is_sound (as_count k)
    some_is = ap is_some en ∙ some-cond own (is_sound (as_count k))

    held_is : is_sound (as_count k) ≡ true → total ≡ min (2 ^ 64 - 1) (own * sum (map kept_of p.items.items))
    held_is c = et ∙ ap (λ o. min (2 ^ 64 - 1) (unwrap_or o 0 * p.width)) (en ∙ ap (λ b. cond b (Some own) None) c)
        ∙ ap (λ w. min (2 ^ 64 - 1) (own * w)) h.width ∙ product own (sum (map kept_of p.items.items)) (count-range k c).1

    split : (a b : Bool) → p.is_sound ≡ a → is_sound (as_count k) ≡ b → ((a && b) && nat_lt 64 total) ≡ ((b && a) && nat_lt 64 (own * sizes (joined all)))
    split true true ea eb = ap (nat_lt 64) (held_is eb) ∙ held-most (own * sum (map kept_of p.items.items)) ∙ ap (λ x. nat_lt 64 (own * x)) (parts-sizes all p h ea)
    split true false ea eb = refl
    split false true ea eb = refl
    split false false ea eb = refl

    go : (a b : Bool) → p.is_sound ≡ a → is_sound (as_count k) ≡ b → ((p.is_sound && is_some n) && nat_lt 64 total) ≡ ((is_sound (as_count k) && all_sound all) && nat_lt 64 (own * sizes (joined all)))
    go a b ea eb = ap₂ (λ x y. (x && y) && nat_lt 64 total) ea (some_is ∙ eb) ∙ split a b ea eb ∙ sym (ap₂ (λ x y. (x && y) && nat_lt 64 (own * sizes (joined all))) eb (sym h.sound ∙ ea))

-- a replication as it is made
pub is-repeated : (k t : Term) (ts : List Term) (p : Parts) (n v : Option ℕ) (total count : ℕ) (es : List FExpr) (w : ℕ) (s both : Bool) (g : Signs) → AreRead (t ∷ ts) p
    → n ≡ cond (is_sound (as_count k)) (Some (own_value k.expr)) None → total ≡ min (2 ^ 64 - 1) (unwrap_or n 0 * p.width) → both ≡ (p.is_sound && is_some n) → v ≡ within_word both total
    → (unwrap_or n 0 < 256 → count ≡ unwrap_or n 0) → es ≡ p.items.items → w ≡ unwrap_or v 1 → s ≡ is_some v
    → IsRead (repeat_term k (t ∷ ts)) (record { expr = f.Repeat count es w; is_sound = s; is_constant = p.is_constant; count = None; signs = g })
is-repeated k t ts p n v total count es w s both g h en et eb ev ec is iw so =
    subst (λ xs. IsRead (repeat_term k (t ∷ ts)) (record { expr = f.Repeat count xs w; is_sound = s; is_constant = p.is_constant; count = None; signs = g })) (sym is)
    (subst (λ m. IsRead (repeat_term k (t ∷ ts)) (record { expr = f.Repeat count p.items.items m; is_sound = s; is_constant = p.is_constant; count = None; signs = g })) (sym iw)
    (subst (λ b. IsRead (repeat_term k (t ∷ ts)) (record { expr = f.Repeat count p.items.items (unwrap_or v 1); is_sound = b; is_constant = p.is_constant; count = None; signs = g })) (sym so)
    (is-repeat k t ts p n v count total g h en (count-range k) et (ev ∙ ap (λ b. within_word b total) eb) few)))
  where
    few : own_value k.expr ≤ 64 → is_some n ≡ true → count ≡ own_value k.expr
    few l i = let c : is_sound (as_count k) ≡ true = sym (ap is_some en ∙ some-cond (own_value k.expr) (is_sound (as_count k))) ∙ i in
        let o : unwrap_or n 0 ≡ own_value k.expr = ap (λ x. unwrap_or x 0) (en ∙ ap (λ b. cond b (Some (own_value k.expr)) None) c) in
        ec (omega (arith, o, l)) ∙ o
