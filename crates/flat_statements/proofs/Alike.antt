-- Statements whose expressions read the same bits have the same latches.
use Rattle.std.proofs.Common.{◌≡◌, ℕ, zero, suc, ◌+◌, ◌^◌, Bool, true, false, cond, not, ◌&&◌, ◌||◌, refl, sym, ap, ap₂, ◌∙◌}
use Rattle.flat_meaning.specs.Full.{is_full}
use Rattle.flat_meaning.specs.Flat.{Expr, Exprs, size, case_size, Target, Whole, Group, no_targets, Stmt, Null, Set, If, Case, Block, Items, no_items, default_item, item, Stmts, no_stmts, stmt}
use Rattle.flat_meaning.specs.Assigned.{covers, reaches, surely, surely_case, surely_all, may_assign, may_assign_in}
use Rattle.flat_meaning.specs.Deps.{Bits}
use Rattle.flat_unfolding.specs.Names.{Memory}
use Rattle.flat_unfolding.specs.Expressions.{is_index}
use Rattle.flat_unfolding.specs.Memories.{writes_from, memory_write}
use Rattle.flat_unfolding.specs.Statements.{with_last, unassigned}
use Rattle.flat_meaning.specs.Law.{expr_reads}
use Rattle.flat_form.specs.Uses.{exprs_read, target_reads}
use Rattle.flat_unfolding.specs.Reads.{early, early_in, early_all}
use Rattle.flat_names.specs.Pieces.{SameReads}
use Rattle.flat_statements.specs.Statements.{AreAlike, AreAllAlike, AreArmsAlike}

pub same-bits : (a b : Bits) → ((s i : ℕ) → a s i ≡ b s i) → a ≡ b
same-bits a b h = λ j s i. h s i j

pub alike-itself : (x : Stmt) → AreAlike x x
alike-itself x = record { may = λ wid s i. refl; surely = λ wid d s i. refl; early = λ wid d s i. refl }

pub alike-set : (b c : Bool) (t u : Target) (e f : Expr) → t ≡ u → SameReads e f → AreAlike (Set b t e) (Set c u f)
alike-set b c t u e f h r = record {
  may = λ wid s i. ap (λ z. reaches wid z s i) h;
  surely = λ wid d s i. ap (λ z. covers wid z s i || d s i) h;
  early = λ wid d s i. ap₂ (λ p q. (p || q) && not (d s i)) (r wid s i) (ap (λ z. target_reads wid z s i) h);
}

pub alike-if : (c k : Expr) (x y z w : Stmt) → SameReads c k → AreAlike x z → AreAlike y w → AreAlike (If c x y) (If k z w)
alike-if c k x y z w r h g = record {
  may = λ wid s i. ap₂ (λ p q. p || q) (h.may wid s i) (g.may wid s i);
  surely = λ wid d s i. ap₂ (λ p q. p && q) (h.surely wid d s i) (g.surely wid d s i);
  early = λ wid d s i. ap₂ (λ p q. (p && not (d s i)) || q) (r wid s i) (ap₂ (λ p q. p || q) (h.early wid d s i) (g.early wid d s i));
}

-- ---- one after another

pub alike-none : AreAllAlike no_stmts no_stmts
alike-none = record { may = λ wid s i. refl; surely = λ wid d s i. refl; early = λ wid d s i. refl }

pub alike-more : (x y : Stmt) (xs ys : Stmts) → AreAlike x y → AreAllAlike xs ys → AreAllAlike (stmt x xs) (stmt y ys)
alike-more x y xs ys h g = record {
  may = λ wid s i. ap₂ (λ p q. p || q) (h.may wid s i) (g.may wid s i);
  surely = λ wid d s i. ap (λ e. surely_all wid xs e s i) (same-bits (surely wid x d) (surely wid y d) (h.surely wid d)) ∙ g.surely wid (surely wid y d) s i;
  early = λ wid d s i. ap₂ (λ p q. p || q) (h.early wid d s i)
      (ap (λ e. early_all wid xs e s i) (same-bits (surely wid x d) (surely wid y d) (h.surely wid d)) ∙ g.early wid (surely wid y d) s i);
}

pub alike-block : (xs ys : Stmts) → AreAllAlike xs ys → AreAlike (Block xs) (Block ys)
alike-block xs ys h = record { may = h.may; surely = h.surely; early = h.early }

-- ---- items of a `case`

pub arms-alike-none : AreArmsAlike no_items no_items
arms-alike-none = record { may = λ wid z s i. refl; surely = λ wid full o d z s i. refl; early = λ wid d z s i. refl }

pub arms-alike-more : (ls ks : Exprs) (x y : Stmt) (xs ys : Items) → ((wid : ℕ → ℕ) (s i : ℕ) → exprs_read wid ls s i ≡ exprs_read wid ks s i) → AreAlike x y → AreArmsAlike xs ys → AreArmsAlike (item ls x xs) (item ks y ys)
arms-alike-more ls ks x y xs ys r h g = record {
  may = λ wid z s i. ap₂ (λ p q. p || q) (h.may wid s i) (g.may wid z s i);
  surely = λ wid full o d z s i. ap₂ (λ p q. p && q) (h.surely wid d s i)
      (ap (λ e. surely_case wid full (cond full e o) (with_last xs z) d s i) (same-bits (surely wid x d) (surely wid y d) (h.surely wid d)) ∙ g.surely wid full (cond full (surely wid y d) o) d z s i);
  early = λ wid d z s i. ap₂ (λ p q. (p && not (d s i)) || q) (r wid s i) (ap₂ (λ p q. p || q) (h.early wid d s i) (g.early wid d z s i));
}

-- where a default stands last, it makes no difference whether the labels take every value
default-only : (wid : ℕ → ℕ) (full more : Bool) (o u d : Bits) (xs : Items) (z : Stmt) (s i : ℕ)
    → surely_case wid full o (with_last xs (default_item z)) d s i ≡ surely_case wid more u (with_last xs (default_item z)) d s i
default-only wid full more o u d no_items z s i = refl
default-only wid full more o u d (default_item x) z s i = refl
default-only wid full more o u d (item ls x xs) z s i = ap (λ p. surely wid x d s i && p) (default-only wid full more (cond full (surely wid x d) o) (cond more (surely wid x d) u) d xs z s i)

module _ (x y : Stmt) (h : AreAlike x y) where
  last-may : (wid : ℕ → ℕ) (xs : Items) (s i : ℕ) → may_assign_in wid (with_last xs (default_item x)) s i ≡ may_assign_in wid (with_last xs (default_item y)) s i
  last-may wid no_items s i = h.may wid s i
  last-may wid (default_item z) s i = refl
  last-may wid (item ls z xs) s i = ap (λ p. may_assign wid z s i || p) (last-may wid xs s i)

  last-surely : (wid : ℕ → ℕ) (full : Bool) (o d : Bits) (xs : Items) (s i : ℕ)
      → surely_case wid full o (with_last xs (default_item x)) d s i ≡ surely_case wid full o (with_last xs (default_item y)) d s i
  last-surely wid full o d no_items s i = h.surely wid d s i
  last-surely wid full o d (default_item z) s i = refl
  last-surely wid full o d (item ls z xs) s i = ap (λ p. surely wid z d s i && p) (last-surely wid full (cond full (surely wid z d) o) d xs s i)

  last-early : (wid : ℕ → ℕ) (d : Bits) (xs : Items) (s i : ℕ) → early_in wid (with_last xs (default_item x)) d s i ≡ early_in wid (with_last xs (default_item y)) d s i
  last-early wid d no_items s i = h.early wid d s i
  last-early wid d (default_item z) s i = refl
  last-early wid d (item ls z xs) s i = ap (λ p. (exprs_read wid ls s i && not (d s i)) || (early wid z d s i || p)) (last-early wid d xs s i)

pub alike-case_with : (c k : Expr) (xs ys : Items) (x y : Stmt) → SameReads c k → AreArmsAlike xs ys → AreAlike x y
    → AreAlike (Case c (with_last xs (default_item x))) (Case k (with_last ys (default_item y)))
alike-case_with c k xs ys x y r g h = record {
  may = λ wid s i. g.may wid (default_item x) s i ∙ last-may x y h wid ys s i;
  surely = λ wid d s i. default-only wid _ true d d d xs x s i ∙ g.surely wid true d d (default_item x) s i ∙ last-surely x y h wid true d d ys s i ∙ default-only wid true _ d d d ys y s i;
  early = λ wid d s i. ap₂ (λ p q. (p && not (d s i)) || q) (r wid s i) (g.early wid d (default_item x) s i ∙ last-early x y h wid d ys s i);
}

pub with-none : (is : Items) → with_last is no_items ≡ is
with-none no_items = refl
with-none (default_item x) = refl
with-none (item ls x is) = ap (item ls x) (with-none is)

-- labels that take every value, or both don't
pub alike-case_full : (c k : Expr) (xs ys : Items) (full : Bool) → SameReads c k → AreArmsAlike xs ys → is_full (case_size c xs) xs ≡ full → is_full (case_size k ys) ys ≡ full
    → AreAlike (Case c (with_last xs no_items)) (Case k (with_last ys no_items))
alike-case_full c k xs ys full r g e f = record {
  may = λ wid s i. g.may wid no_items s i;
  surely = λ wid d s i. ap (λ b. surely_case wid b d (with_last xs no_items) d s i) (ap (λ z. is_full (case_size c z) z) (with-none xs) ∙ e) ∙ g.surely wid full d d no_items s i
      ∙ ap (λ b. surely_case wid b d (with_last ys no_items) d s i) (sym (ap (λ z. is_full (case_size k z) z) (with-none ys) ∙ f));
  early = λ wid d s i. ap₂ (λ p q. (p && not (d s i)) || q) (r wid s i) (g.early wid d no_items s i);
}

-- ---- words of memories

writes-alike : (m : Memory) (i v w : Expr) → SameReads v w → (n more : ℕ) → AreAllAlike (writes_from m i v n more) (writes_from m i w n more)
writes-alike m i v w r n zero = alike-none
writes-alike m i v w r n (suc more) =
    alike-more _ _ _ _ (alike-if (is_index i n) (is_index i n) _ _ _ _ (λ wid s k. refl) (alike-set false false (Whole (m.first + n)) (Whole (m.first + n)) v w refl r) (alike-itself Null)) (writes-alike m i v w r (suc n) more)

pub alike-write : (m : Memory) (i v w : Expr) → SameReads v w → AreAlike (memory_write m i v) (memory_write m i w)
alike-write m i v w r = alike-block _ _ (writes-alike m i v w r 0 (2 ^ size i))

pub alike-unassigned : (i v w : Expr) → SameReads v w → AreAlike (unassigned i v) (unassigned i w)
alike-unassigned i v w r = alike-set true true (Group no_targets) (Group no_targets) _ _ refl (λ wid s k. ap (λ p. expr_reads wid i s k || (p || false)) (r wid s k))
