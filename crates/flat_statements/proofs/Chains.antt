-- The chain of `if`s that a `casez` stands for.
use Rattle.std.proofs.Common.{◌≡◌, ℕ, ◌≤◌, max, true, ◌&&◌, List, [], ◌∷◌, ◌++◌, map, refl, sym, ap, ap₂, subst, ◌∙◌, arith}
use Rattle.flat_meaning.specs.Flat.{Expr, size, Stmt, If}
use Rattle.flat_form.specs.declared.flat.FExpr.{FExpr}
use Rattle.flat_form.specs.declared.flat.FStmt.{FStmt}
use Rattle.flat_form.specs.View.{expr_of, stmt_of}
use Rattle.flat_form.specs.Sizes.{is_word, kept_of, is_sized}
use Rattle.flat_form.proofs.Sized.{width_word, sized_width, sized_range}
use Rattle.flat_unfolding.specs.Outcome.{Broken}
use Rattle.flat_unfolding.specs.Expressions.{Term}
use Rattle.flat_unfolding.specs.Statements.{Mask, Way, Done, masks_broken, ways_broken, masks_size, ways_size, way_test, chain, chained}
use Rattle.flat_unfolding.specs.Widths.{keeps_sizes, stmt_keeps_sizes}
use Rattle.flat_unfolding.proofs.Steps.{none_of_both}
use Rattle.flat_names.specs.declared.resolved.Resolved.{Resolved}
use Rattle.flat_names.specs.Pieces.{IsRead, SameReads}
use Rattle.flat_statements.specs.declared.masks.MaskLabel.{MaskLabel}
use Rattle.flat_statements.specs.declared.masks.MaskItem.{MaskItem}
use Rattle.flat_statements.specs.Statements.{Builds, AreAlike, IsDone, IsFull}
use Rattle.flat_statements.specs.Masks.{SideBySide, AreMasks, IsWay, AreWays, labels_width, items_width, mask_in, AllFit, AreRight, IsTest}
use Rattle.flat_statements.proofs.Sizes.{both-true, sized-keeps}
use Rattle.flat_statements.proofs.Alike.{alike-if}
use Rattle.flat_statements.proofs.Done.{read-expr, read-sized}
use Rattle.flat_statements.proofs.Sides.{side-last}
use Rattle.flat_statements.proofs.Tests.{way-same, way-reads}

-- ---- the size at which all is compared

abbrev AllSized : List MaskLabel → Type 0
AllSized [] = Unit {0}
AllSized (c ∷ cs) = (is_sized c.expr ≡ true) × AllSized cs

pub masks-sized : (ms : List Mask) (cs : List MaskLabel) → AreMasks ms cs → masks_broken ms ≡ [] → AllSized cs
masks-sized [] [] h n = tt
masks-sized [] (c ∷ cs) h n = absurd h
masks-sized (m ∷ ms) [] h n = absurd h
masks-sized (m ∷ ms) (c ∷ cs) h n = let p = none_of_both m.term.broken (masks_broken ms) n in (h.0.sized p.0, masks-sized ms cs h.1 p.1)

labels-least : (n : ℕ) (cs : List MaskLabel) → n ≤ labels_width n cs
labels-least n [] = omega arith
labels-least n (c ∷ cs) = let h = labels-least (max n (kept_of c.expr).width) cs in omega arith

items-least : (n : ℕ) (is : List MaskItem) → n ≤ items_width n is
items-least n [] = omega arith
items-least n (i ∷ is) = let h = items-least (labels_width n i.labels.items) is in let k = labels-least n i.labels.items in omega arith

pub labels-fit : (n w : ℕ) (cs : List MaskLabel) → AllSized cs → labels_width n cs ≤ w → AllFit w cs
labels-fit n w [] s h = tt
labels-fit n w (c ∷ cs) s h = let k = labels-least (max n (kept_of c.expr).width) cs in (record { sized = s.0; width = omega arith }, labels-fit (max n (kept_of c.expr).width) w cs s.1 h)

pub labels-small : (n : ℕ) (cs : List MaskLabel) → AllSized cs → n ≤ 64 → labels_width n cs ≤ 64
labels-small n [] s h = h
labels-small n (c ∷ cs) s h = let k = (sized_range c.expr s.0).most in labels-small (max n (kept_of c.expr).width) cs s.1 (omega arith)

pub labels-same : (n : ℕ) (ms : List Mask) (cs : List MaskLabel) → AreMasks ms cs → masks_broken ms ≡ [] → labels_width n cs ≡ masks_size n ms
labels-same n [] [] h b = refl
labels-same n [] (c ∷ cs) h b = absurd h
labels-same n (m ∷ ms) [] h b = absurd h
labels-same n (m ∷ ms) (c ∷ cs) h b = let p = none_of_both m.term.broken (masks_broken ms) b in
    ap (λ k. labels_width (max n k) cs) (sized_width c.expr (h.0.sized p.0) ∙ ap size (h.0.expr p.0)) ∙ labels-same (max n (size m.term.expr)) ms cs h.1 p.1

record IsSound (a : Way) (ws : List Way) : Type 0 where
  pub masks : masks_broken a.masks ≡ []
  pub body : a.body.broken ≡ []
  pub rest : ways_broken ws ≡ []

first-sound : (a : Way) (ws : List Way) → ways_broken (a ∷ ws) ≡ [] → IsSound a ws
first-sound a ws n = let p = none_of_both (masks_broken a.masks ++ a.body.broken) (ways_broken ws) n in let q = none_of_both (masks_broken a.masks) a.body.broken p.0 in record { masks = q.0; body = q.1; rest = p.1 }

items-small : (n : ℕ) (ws : List Way) (is : List MaskItem) → AreWays ws is → ways_broken ws ≡ [] → n ≤ 64 → items_width n is ≤ 64
items-small n [] [] h b s = s
items-small n [] (i ∷ is) h b s = absurd h
items-small n (a ∷ ws) [] h b s = absurd h
items-small n (a ∷ ws) (i ∷ is) h b s = let p = first-sound a ws b in
    items-small (labels_width n i.labels.items) ws is h.1 p.rest (labels-small n i.labels.items (masks-sized a.masks i.labels.items h.0.masks p.masks) s)

items-same : (n : ℕ) (ws : List Way) (is : List MaskItem) → AreWays ws is → ways_broken ws ≡ [] → items_width n is ≡ ways_size n ws
items-same n [] [] h b = refl
items-same n [] (i ∷ is) h b = absurd h
items-same n (a ∷ ws) [] h b = absurd h
items-same n (a ∷ ws) (i ∷ is) h b = let p = first-sound a ws b in
    ap (λ k. items_width k is) (labels-same n a.masks i.labels.items h.0.masks p.masks) ∙ items-same (masks_size n a.masks) ws is h.1 p.rest

-- ---- an item, which fits where no rule is broken

pub record IsRightWay (w : ℕ) (a : Way) (i : MaskItem) : Type 0 where
  pub masks : masks_broken a.masks ≡ []
  pub body : a.body.broken ≡ []
  pub labels : AllFit w i.labels.items

pub record IsLink (Sound : Type 0) (w : ℕ) (a : Way) (i : MaskItem) : Type 0 where
  pub is : IsWay a i
  pub right : Sound → IsRightWay w a i

links : (Sound : Type 0) (n w : ℕ) (ws : List Way) (is : List MaskItem) → AreWays ws is → (Sound → ways_broken ws ≡ []) → items_width n is ≤ w → SideBySide (IsLink Sound w) ws is
links Sound n w [] [] h s l = tt
links Sound n w [] (i ∷ is) h s l = absurd h
links Sound n w (a ∷ ws) [] h s l = absurd h
links Sound n w (a ∷ ws) (i ∷ is) h s l =
    let k : labels_width n i.labels.items ≤ w = let j = items-least (labels_width n i.labels.items) is in omega arith in (
      record {
        is = h.0;
        right = λ z. let p = first-sound a ws (s z) in record { masks = p.masks; body = p.body; labels = labels-fit n w i.labels.items (masks-sized a.masks i.labels.items h.0.masks p.masks) k };
      },
      links Sound (labels_width n i.labels.items) w ws is h.1 (λ z. (first-sound a ws (s z)).rest) l,
    )

chain-last : (w : ℕ) (e : Expr) (ws : List Way) (a : Way) (z : Stmt) → chain w e (ws ++ a ∷ []) z ≡ chain w e ws (If (way_test w e a.masks) a.body.stmt z)
chain-last w e [] a z = refl
chain-last w e (b ∷ ws) a z = ap (If (way_test w e b.masks) b.body.stmt) (chain-last w e ws a z)

-- ---- the chain behind the items that are left

module _ (t : Term) (ws : List Way) (d : Done) where
  abbrev all : List Broken
  all = (chained t ws d).broken

  abbrev Sound : Type 0
  Sound = all ≡ []

  abbrev at : ℕ
  at = ways_size (size t.expr) ws

  abbrev part : Stmt → Done
  part x = record { stmt = x; broken = all }

  pub record ChainSoFar (w : ℕ) (left : List MaskItem) (z : FStmt) : Type 0 where
    pub ways : List Way
    pub behind : Stmt
    pub are : SideBySide (IsLink Sound w) ways left
    pub is : IsDone (part behind) z
    pub whole : chain at t.expr ways behind ≡ (chained t ws d).stmt

  parts-sound : Sound → (t.broken ≡ []) × (ways_broken ws ≡ []) × (d.broken ≡ [])
  parts-sound n = let p = none_of_both (t.broken ++ ways_broken ws) d.broken n in let q = none_of_both t.broken (ways_broken ws) p.0 in (q.0, q.1, p.1)

  pub chain-start : (w : ℕ) (s : Resolved) (is : List MaskItem) (z : FStmt) → w ≡ items_width (kept_of s.expr).width is → AreWays ws is → IsDone d z → ChainSoFar w is z
  chain-start w s is z e h b = record {
    ways = ws;
    behind = d.stmt;
    are = links Sound (kept_of s.expr).width w ws is h (λ n. (parts-sound n).1) (omega (arith, e));
    is = record { stmt = λ n. b.stmt (parts-sound n).2; sizes = λ n. b.sizes (parts-sound n).2; alike = b.alike; full = b.full };
    whole = refl;
  }

  -- the size of the code is the definition's
  pub record IsSize (w : ℕ) : Type 0 where
    pub same : Sound → w ≡ at
    pub word : Sound → is_word w ≡ true

  pub size-is : (w : ℕ) (s : Resolved) (is : List MaskItem) → w ≡ items_width (kept_of s.expr).width is → IsRead t s → AreWays ws is → IsSize w
  size-is w s is e r h = record {
    same = λ n. let p = parts-sound n in e ∙ ap (λ k. items_width k is) (sized_width s.expr (read-sized t s r p.0) ∙ ap size (read-expr t s r p.0)) ∙ items-same (size t.expr) ws is h p.1;
    word = λ n. let p = parts-sound n in let k = sized_range s.expr (read-sized t s r p.0) in let a = k.some in let b = k.most in
        let small = items-small (kept_of s.expr).width ws is h p.1 b in let least = items-least (kept_of s.expr).width is in
        width_word w (record { some = omega (arith, e); most = omega (arith, e) });
  }

  link-done : (w : ℕ) (s : Resolved) (a : Way) (i : MaskItem) (behind : Stmt) (e : FExpr) (z r : FStmt) → IsSize w → IsRead t s → IsLink Sound w a i → IsDone (part behind) z
      → IsTest (AreRight w s.expr i.labels.items) (way_test w (expr_of s.expr) (map mask_in i.labels.items)) e
      → Builds r (If (expr_of e) (stmt_of i.body) (stmt_of z)) (keeps_sizes e && (stmt_keeps_sizes i.body && stmt_keeps_sizes z)) → IsDone (part (If (way_test at t.expr a.masks) a.body.stmt behind)) r
  link-done w s a i behind e z r j h k d test b =
      let cs = i.labels.items in
      let right : Sound → AreRight w s.expr cs = λ n. record { size = j.word n; subject = read-sized t s h (parts-sound n).0; labels = (k.right n).labels } in
      let same : Sound → expr_of e ≡ way_test at t.expr a.masks = λ n. test.expr (right n) ∙ ap₂ (λ v x. way_test v x (map mask_in cs)) (j.same n) (read-expr t s h (parts-sound n).0)
      ∙ way-same at t.expr a.masks cs k.is.masks (k.right n).masks in
      let reads : SameReads (expr_of e) (way_test at t.expr a.masks) = λ wid x y. test.reads wid x y ∙ way-reads w at (expr_of s.expr) t.expr a.masks cs h.reads k.is.masks wid x y in
      record {
        stmt = λ n. b.stmt ∙ ap (λ x. If x (stmt_of i.body) (stmt_of z)) (same n) ∙ ap₂ (If (way_test at t.expr a.masks)) (k.is.body.stmt (k.right n).body) (d.stmt n);
        sizes = λ n. b.sizes ∙ both-true (keeps_sizes e) (stmt_keeps_sizes i.body && stmt_keeps_sizes z) (sized-keeps e (test.sized (right n)))
            (both-true (stmt_keeps_sizes i.body) (stmt_keeps_sizes z) (k.is.body.sizes (k.right n).body) (d.sizes n));
        alike = subst (λ (x : Stmt). AreAlike x (If (way_test at t.expr a.masks) a.body.stmt behind)) (sym b.stmt)
            (alike-if (expr_of e) (way_test at t.expr a.masks) (stmt_of i.body) (stmt_of z) a.body.stmt behind reads k.is.body.alike d.alike);
        full = subst IsFull (sym b.stmt) (k.is.body.full, d.full);
      }

  pub chain-step : (w : ℕ) (s : Resolved) (left before : List MaskItem) (i : MaskItem) (e : FExpr) (z r : FStmt) → IsSize w → IsRead t s → ChainSoFar w left z → left ≡ before ++ i ∷ []
      → IsTest (AreRight w s.expr i.labels.items) (way_test w (expr_of s.expr) (map mask_in i.labels.items)) e
      → Builds r (If (expr_of e) (stmt_of i.body) (stmt_of z)) (keeps_sizes e && (stmt_keeps_sizes i.body && stmt_keeps_sizes z)) → ChainSoFar w before r
  chain-step w s left before i e z r j h c o test b =
      let g = subst (λ is. ChainSoFar w is z) o c in
      let l = side-last (IsLink Sound w) g.ways before i g.are in
      record {
        ways = l.before;
        behind = If (way_test at t.expr l.last.masks) l.last.body.stmt g.behind;
        are = l.are;
        is = link-done w s l.last i g.behind e z r j h l.is g.is test b;
        whole = sym (chain-last at t.expr l.before l.last g.behind) ∙ ap (λ xs. chain at t.expr xs g.behind) (sym l.whole) ∙ g.whole;
      }

  pub chain-end : (w : ℕ) (z : FStmt) → ChainSoFar w [] z → IsDone (chained t ws d) z
  chain-end w z c = go c.ways c.are c.whole
    where
      go : (ways : List Way) → SideBySide (IsLink Sound w) ways [] → chain at t.expr ways c.behind ≡ (chained t ws d).stmt → IsDone (chained t ws d) z
      go [] h e = subst (λ x. IsDone (part x) z) e c.is
      go (a ∷ ways) h e = absurd h
