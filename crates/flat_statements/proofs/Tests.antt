-- Tests of a subject against labels.
use Rattle.std.proofs.Common.{◌≡◌, ◌≢◌, ℕ, zero, suc, ◌-◌, ◌^◌, ◌<◌, ◌≤◌, min, true, false, ◌&&◌, ◌||◌, nat_lt, List, [], ◌∷◌, map, refl, sym, ap, ap₂, subst, ◌∙◌, arith, lt-ltb, pow_pos}
use Rattle.cell_graph.specs.Tree.{number}
use Rattle.flat_meaning.specs.Flat.{Expr, Number, Binary, is_equal, bitwise_and, logical_or}
use Rattle.flat_meaning.specs.Full.{nothing}
use Rattle.flat_meaning.specs.Meaning.{value}
use Rattle.flat_meaning.specs.Law.{expr_reads}
use Rattle.flat_form.specs.declared.flat.FExpr.{FExpr}
use Rattle.flat_form.specs.declared.flat.FExpr.TheVariants as f
use Rattle.flat_form.specs.View.{expr_of}
use Rattle.flat_form.specs.Sizes.{Kept, is_word, kept_of, is_sized}
use Rattle.flat_form.proofs.Folds.{expr_of-Number, kept_of-Number}
use Rattle.flat_form.proofs.Sized.{word_width}
use Rattle.flat_unfolding.specs.Statements.{Mask, masks_broken, without_open, mask_test, also_tests, way_test}
use Rattle.flat_unfolding.proofs.Steps.{none_of_both}
use Rattle.flat_names.specs.Pieces.{SameReads, Makes}
use Rattle.flat_statements.specs.declared.masks.MaskLabel.{MaskLabel}
use Rattle.flat_statements.specs.Masks.{IsMask, AreMasks, mask_in, AllFit, AreRight, IsTest}
use Rattle.flat_statements.proofs.Sizes.{both-true}

pub number-sized : (v w : ℕ) → is_word w ≡ true → v < 2 ^ w → is_sized (f.Number v w) ≡ true
number-sized v w h l = ap (λ (k : Kept). k.right) (kept_of-Number v w) ∙ both-true (is_word w) (nat_lt v (2 ^ w)) h (lt-ltb v (2 ^ w) l)

-- ---- the subject with 0 at its open bits

pub without-none : (w o : ℕ) (s : FExpr) → o ≡ 0 → IsTest (AreRight w s []) (without_open w (expr_of s) o) s
without-none w o s e = subst (λ o. IsTest (AreRight w s []) (without_open w (expr_of s) o) s) (sym e) (record { expr = λ h. refl; sized = λ h. h.subject; reads = λ wid z i. refl })

kept-bits : (w o v : ℕ) → w ≤ 64 → v ≡ 2 ^ min w 64 - 1 - o → (v ≡ 2 ^ w - 1 - o) × (v < 2 ^ w)
kept-bits w o v h e =
    let small : min w 64 ≡ w = omega arith in
    let same : v ≡ 2 ^ w - 1 - o = e ∙ ap (λ n. 2 ^ n - 1 - o) small in
    (same, (let p = pow_pos w in omega arith))

pub without-some : (w o v k : ℕ) (s e : FExpr) → o ≢ 0 → v ≡ 2 ^ min w 64 - 1 - o
    → Makes e (Binary bitwise_and (expr_of s) (expr_of (f.Number v w))) (record { width = k; right = is_sized s && is_sized (f.Number v w) }) → IsTest (AreRight w s []) (without_open w (expr_of s) o) e
without-some w zero v k s e n d m = absurd (n refl)
without-some w (suc o) v k s e n d m = record {
  expr = λ h. m.expr ∙ ap (Binary bitwise_and (expr_of s)) (expr_of-Number v w ∙ ap (Number w) (kept-bits w (suc o) v (word_width w h.size).most d).0);
  sized = λ h. ap (λ (k : Kept). k.right) m.kept ∙ both-true (is_sized s) (is_sized (f.Number v w)) h.subject (number-sized v w h.size (kept-bits w (suc o) v (word_width w h.size).most d).1);
  reads = λ wid z i. ap (λ x. expr_reads wid x z i) (m.expr ∙ ap (Binary bitwise_and (expr_of s)) (expr_of-Number v w));
}

-- ---- a label

abbrev mask_at : ℕ → Expr → ℕ → Expr → Expr
mask_at w s o e = Binary is_equal (without_open w s o) (Number w (number (value nothing e w) w))

pub label-test : (w v k : ℕ) (s y x e : FExpr) (c : MaskLabel) → expr_of y ≡ expr_of s → kept_of y ≡ kept_of s → IsTest (AreRight w y []) (without_open w (expr_of y) c.opened) x
    → (is_sized c.expr ≡ true → (kept_of c.expr).width ≤ w → w ≤ 64 → (v ≡ number (value nothing (expr_of c.expr) w) w) × (v < 2 ^ w))
    → Makes e (Binary is_equal (expr_of x) (expr_of (f.Number v w))) (record { width = k; right = is_sized x && is_sized (f.Number v w) })
    → IsTest (AreRight w s (c ∷ [])) (mask_test w (expr_of s) (mask_in c)) e
label-test w v k s y x e c same kept t there m =
    let inner : AreRight w s (c ∷ []) → AreRight w y [] = λ h. record { size = h.size; subject = ap (λ (k : Kept). k.right) kept ∙ h.subject; labels = tt } in
    let told : AreRight w s (c ∷ []) → (v ≡ number (value nothing (expr_of c.expr) w) w) × (v < 2 ^ w) = λ h. there h.labels.0.sized h.labels.0.width (word_width w h.size).most in
    record {
      expr = λ h. m.expr ∙ ap₂ (Binary is_equal) (t.expr (inner h) ∙ ap (λ z. without_open w z c.opened) same) (expr_of-Number v w ∙ ap (Number w) (told h).0);
      sized = λ h. ap (λ (k : Kept). k.right) m.kept ∙ both-true (is_sized x) (is_sized (f.Number v w)) (t.sized (inner h)) (number-sized v w h.size (told h).1);
      reads = λ wid z i. ap (λ x. expr_reads wid x z i) (m.expr ∙ ap (Binary is_equal (expr_of x)) (expr_of-Number v w))
          ∙ ap (λ b. b || false) (t.reads wid z i ∙ ap (λ q. expr_reads wid (without_open w q c.opened) z i) same);
    }

-- ---- the labels of an item

also-reads : (w : ℕ) (s x y : Expr) (ms : List Mask) → SameReads x y → SameReads (also_tests w s x ms) (also_tests w s y ms)
also-reads w s x y [] h = h
also-reads w s x y (m ∷ ms) h = also-reads w s (Binary logical_or x (mask_test w s m)) (Binary logical_or y (mask_test w s m)) ms (λ wid z i. ap (λ b. b || expr_reads wid (mask_test w s m) z i) (h wid z i))

module _ (w : ℕ) (s : FExpr) (all : List MaskLabel) where
  abbrev whole : Expr
  whole = way_test w (expr_of s) (map mask_in all)

  abbrev also : FExpr → List MaskLabel → Expr
  also e rest = also_tests w (expr_of s) (expr_of e) (map mask_in rest)

  -- a test of the labels so far
  pub record TestSoFar (rest : List MaskLabel) (e : FExpr) : Type 0 where
    pub expr : AreRight w s all → also e rest ≡ whole
    pub sized : AreRight w s all → is_sized e ≡ true
    pub reads : SameReads (also e rest) whole
    pub fit : AreRight w s all → AllFit w rest

  pub test-start : (c : MaskLabel) (rest : List MaskLabel) (e : FExpr) → all ≡ c ∷ rest → IsTest (AreRight w s (c ∷ [])) (mask_test w (expr_of s) (mask_in c)) e → TestSoFar rest e
  test-start c rest e a t =
      let fits : AreRight w s all → AllFit w (c ∷ rest) = λ h. subst (λ cs. AllFit w cs) a h.labels in
      let one : AreRight w s all → AreRight w s (c ∷ []) = λ h. record { size = h.size; subject = h.subject; labels = ((fits h).0, tt) } in
      let same : way_test w (expr_of s) (map mask_in (c ∷ rest)) ≡ whole = ap (λ cs. way_test w (expr_of s) (map mask_in cs)) (sym a) in
      record {
        expr = λ h. ap (λ x. also_tests w (expr_of s) x (map mask_in rest)) (t.expr (one h)) ∙ same;
        sized = λ h. t.sized (one h);
        reads = λ wid z i. also-reads w (expr_of s) _ _ (map mask_in rest) t.reads wid z i ∙ ap (λ x. expr_reads wid x z i) same;
        fit = λ h. (fits h).1;
      }

  pub test-step : (left rest : List MaskLabel) (c : MaskLabel) (k : ℕ) (e x r : FExpr) → TestSoFar left e → left ≡ c ∷ rest → IsTest (AreRight w s (c ∷ [])) (mask_test w (expr_of s) (mask_in c)) x
      → Makes r (Binary logical_or (expr_of e) (expr_of x)) (record { width = k; right = is_sized e && is_sized x }) → TestSoFar rest r
  test-step left rest c k e x r h a t m =
      let g = subst (λ cs. TestSoFar cs e) a h in
      let one : AreRight w s all → AreRight w s (c ∷ []) = λ q. record { size = q.size; subject = q.subject; labels = ((g.fit q).0, tt) } in
      record {
        expr = λ q. ap (λ y. also_tests w (expr_of s) y (map mask_in rest)) (m.expr ∙ ap (Binary logical_or (expr_of e)) (t.expr (one q))) ∙ g.expr q;
        sized = λ q. ap (λ (k : Kept). k.right) m.kept ∙ both-true (is_sized e) (is_sized x) (g.sized q) (t.sized (one q));
        reads = λ wid z i. also-reads w (expr_of s) _ _ (map mask_in rest)
            (λ wid z i. ap (λ y. expr_reads wid y z i) m.expr ∙ ap (λ b. expr_reads wid (expr_of e) z i || b) (t.reads wid z i)) wid z i ∙ g.reads wid z i;
        fit = λ q. (g.fit q).1;
      }

  pub test-end : (e : FExpr) → TestSoFar [] e → IsTest (AreRight w s all) whole e
  test-end e h = record { expr = h.expr; sized = h.sized; reads = h.reads }

-- ---- labels as they were read

pub mask-same : (w : ℕ) (s : Expr) (m : Mask) (c : MaskLabel) → IsMask m c → m.term.broken ≡ [] → mask_test w s (mask_in c) ≡ mask_test w s m
mask-same w s m c h n = ap₂ (mask_at w s) h.opened (h.expr n)

also-same : (w : ℕ) (s x : Expr) (ms : List Mask) (cs : List MaskLabel) → AreMasks ms cs → masks_broken ms ≡ [] → also_tests w s x (map mask_in cs) ≡ also_tests w s x ms
also-same w s x [] [] h n = refl
also-same w s x [] (c ∷ cs) h n = absurd h
also-same w s x (m ∷ ms) [] h n = absurd h
also-same w s x (m ∷ ms) (c ∷ cs) h n = let p = none_of_both m.term.broken (masks_broken ms) n in
    ap (λ y. also_tests w s (Binary logical_or x y) (map mask_in cs)) (mask-same w s m c h.0 p.0) ∙ also-same w s (Binary logical_or x (mask_test w s m)) ms cs h.1 p.1

pub way-same : (w : ℕ) (s : Expr) (ms : List Mask) (cs : List MaskLabel) → AreMasks ms cs → masks_broken ms ≡ [] → way_test w s (map mask_in cs) ≡ way_test w s ms
way-same w s [] [] h n = refl
way-same w s [] (c ∷ cs) h n = absurd h
way-same w s (m ∷ ms) [] h n = absurd h
way-same w s (m ∷ ms) (c ∷ cs) h n = let p = none_of_both m.term.broken (masks_broken ms) n in
    ap (λ y. also_tests w s y (map mask_in cs)) (mask-same w s m c h.0 p.0) ∙ also-same w s (mask_test w s m) ms cs h.1 p.1

-- ---- what they read

open-reads : (w v : ℕ) (s u : Expr) (o : ℕ) → SameReads s u → SameReads (without_open w s o) (without_open v u o)
open-reads w v s u zero h = h
open-reads w v s u (suc o) h = λ wid z i. ap (λ b. b || false) (h wid z i)

mask-reads : (w v : ℕ) (s u : Expr) (m : Mask) (c : MaskLabel) → SameReads s u → IsMask m c → SameReads (mask_test w s (mask_in c)) (mask_test v u m)
mask-reads w v s u m c h i = λ wid z j. ap (λ b. b || false) (ap (λ o. expr_reads wid (without_open w s o) z j) i.opened ∙ open-reads w v s u m.opened h wid z j)

all-read : (w v : ℕ) (s u x y : Expr) (ms : List Mask) (cs : List MaskLabel) → SameReads s u → SameReads x y → AreMasks ms cs → SameReads (also_tests w s x (map mask_in cs)) (also_tests v u y ms)
all-read w v s u x y [] [] h g a = g
all-read w v s u x y [] (c ∷ cs) h g a = absurd a
all-read w v s u x y (m ∷ ms) [] h g a = absurd a
all-read w v s u x y (m ∷ ms) (c ∷ cs) h g a = all-read w v s u (Binary logical_or x (mask_test w s (mask_in c))) (Binary logical_or y (mask_test v u m)) ms cs h (λ wid z i. ap₂ (λ p q. p || q) (g wid z i) (mask-reads w v s u m c h a.0 wid z i)) a.1

pub way-reads : (w v : ℕ) (s u : Expr) (ms : List Mask) (cs : List MaskLabel) → SameReads s u → AreMasks ms cs → SameReads (way_test w s (map mask_in cs)) (way_test v u ms)
way-reads w v s u [] [] h a = λ wid z i. refl
way-reads w v s u [] (c ∷ cs) h a = absurd a
way-reads w v s u (m ∷ ms) [] h a = absurd a
way-reads w v s u (m ∷ ms) (c ∷ cs) h a = all-read w v s u _ _ ms cs h (mask-reads w v s u m c h a.0) a.1
