-- Paths through statements, by their parts.
use Rattle.std.proofs.Common.{◌≡◌, ℕ, zero, suc, ◌+◌, ◌<◌, Bool, true, false, cond, not, ◌&&◌, ◌||◌, List, [], ◌∷◌, ◌++◌, map, length, take, get_or, Option, Some, None, refl, sym, ap, ap₂, subst, ◌∙◌, arith, rules}
use Rattle.std.specs.Prelude.{is_some}
use Rattle.std.proofs.lemmas.List.{take_more, map-append}
use Rattle.std.proofs.Math.Bool.{or_assoc, or_comm, or-false, and_assoc, and_self, and-true, or-and_distrib_right, and-or_distrib_right}
use Rattle.flat_meaning.specs.Flat.{Stmt, Items, no_items, default_item}
use Rattle.flat_meaning.specs.Assigned.{surely, surely_case, surely_all}
use Rattle.flat_meaning.specs.Deps.{Bits}
use Rattle.flat_form.specs.declared.flat.FStmt.{FStmt}
use Rattle.flat_form.specs.declared.flat.FCaseItem.{FCaseItem}
use Rattle.flat_form.specs.View.{stmt_of, stmts_of, Arm, arm_of, items_of}
use Rattle.flat_form.specs.Masks.{bits_in}
use Rattle.flat_form.specs.Uses.{exprs_read}
use Rattle.flat_form.proofs.StmtUses.{arm-is}
use Rattle.flat_unfolding.specs.Reads.{early, early_in, early_all}
use Rattle.flat_statements.specs.declared.latch.Paths.{Paths}
use Rattle.flat_statements.specs.Statements.{has_default, items_in, IsFull, AreFull, AreItemsFull}
use Rattle.flat_statements.specs.Latches.{IsPaths, behind, sure_if, early_if, is_item, each_surely, AreBranches}

abbrev IsEmpty : Paths → Type 0
IsEmpty p = ((s i : ℕ) → bits_in p.surely s i ≡ false) × ((s i : ℕ) → bits_in p.exposed s i ≡ false)

-- nothing is assigned, and nothing read
pub empty-paths : (p : Paths) → IsEmpty p → IsPaths (λ d s i. d s i) (λ d s i. false) p
empty-paths p h = record { surely = λ d s i b. sym (ap (λ x. x || d s i) (h.0 s i)); exposed = λ d s i b. sym (ap (λ x. x && not (d s i)) (h.1 s i)) }

-- ---- one path or another

pub or-paths : (sx ex sy ey : Bits → Bits) (p q r : Paths) → IsPaths sx ex p → IsPaths sy ey q → ((s i : ℕ) → i < 64 → bits_in r.surely s i ≡ (bits_in p.surely s i && bits_in q.surely s i))
    → ((s i : ℕ) → i < 64 → bits_in r.exposed s i ≡ (bits_in p.exposed s i || bits_in q.exposed s i)) → IsPaths (λ d s i. sx d s i && sy d s i) (λ d s i. ex d s i || ey d s i) r
or-paths sx ex sy ey p q r h g a b = record {
  surely = λ d s i l. ap₂ (λ x y. x && y) (h.surely d s i l) (g.surely d s i l) ∙ sym (or-and_distrib_right (bits_in p.surely s i) (bits_in q.surely s i) (d s i)) ∙ ap (λ x. x || d s i) (sym (a s i l));
  exposed = λ d s i l. ap₂ (λ x y. x || y) (h.exposed d s i l) (g.exposed d s i l) ∙ sym (and-or_distrib_right (bits_in p.exposed s i) (bits_in q.exposed s i) (not (d s i))) ∙ ap (λ x. x && not (d s i)) (sym (b s i l));
}

-- ---- an expression that is read before

pub read-paths : (sx ex : Bits → Bits) (c : Bits) (p q : Paths) → IsPaths sx ex p → ((s i : ℕ) → i < 64 → bits_in q.surely s i ≡ bits_in p.surely s i)
    → ((s i : ℕ) → i < 64 → bits_in q.exposed s i ≡ (bits_in p.exposed s i || c s i)) → IsPaths sx (behind c ex) q
read-paths sx ex c p q h a b = record {
  surely = λ d s i l. h.surely d s i l ∙ ap (λ x. x || d s i) (sym (a s i l));
  exposed = λ d s i l. ap (λ x. (c s i && not (d s i)) || x) (h.exposed d s i l) ∙ sym (and-or_distrib_right (c s i) (bits_in p.exposed s i) (not (d s i))) ∙ ap (λ x. x && not (d s i)) (or_comm (c s i) (bits_in p.exposed s i) ∙ sym (b s i l));
}

-- ---- the paths of an earlier item, if there is one, or those of another

pub either-surely : (o : Option Paths) (p q r : Paths) → o ≡ Some p → ((s i : ℕ) → i < 64 → bits_in r.surely s i ≡ (bits_in p.surely s i && bits_in q.surely s i))
    → (d : Bits) (s i : ℕ) → i < 64 → (bits_in r.surely s i || d s i) ≡ (sure_if o d s i && (bits_in q.surely s i || d s i))
either-surely o p q r e h d s i l =
    ap (λ x. x || d s i) (h s i l) ∙ or-and_distrib_right (bits_in p.surely s i) (bits_in q.surely s i) (d s i) ∙ ap (λ z. sure_if z d s i && (bits_in q.surely s i || d s i)) (sym e)

pub either-exposed : (o : Option Paths) (p q r : Paths) → o ≡ Some p → ((s i : ℕ) → i < 64 → bits_in r.exposed s i ≡ (bits_in p.exposed s i || bits_in q.exposed s i))
    → (d : Bits) (s i : ℕ) → i < 64 → (bits_in r.exposed s i && not (d s i)) ≡ (early_if o d s i || (bits_in q.exposed s i && not (d s i)))
either-exposed o p q r e h d s i l =
    ap (λ x. x && not (d s i)) (h s i l) ∙ and-or_distrib_right (bits_in p.exposed s i) (bits_in q.exposed s i) (not (d s i)) ∙ ap (λ z. early_if z d s i || (bits_in q.exposed s i && not (d s i))) (sym e)

-- ---- one after another

then-not : (e f a d : Bool) → ((e && not d) || (f && not (a || d))) ≡ ((e || (f && not a)) && not d)
then-not true true true true = refl
then-not true true true false = refl
then-not true true false true = refl
then-not true true false false = refl
then-not true false a true = refl
then-not true false a false = refl
then-not false true true true = refl
then-not false true true false = refl
then-not false true false true = refl
then-not false true false false = refl
then-not false false a d = refl

pub then-paths : (sx ex sy ey : Bits → Bits) (p q r : Paths) → IsPaths sx ex p → IsPaths sy ey q → ((s i : ℕ) → i < 64 → bits_in r.surely s i ≡ (bits_in p.surely s i || bits_in q.surely s i))
    → ((s i : ℕ) → i < 64 → bits_in r.exposed s i ≡ (bits_in p.exposed s i || (bits_in q.exposed s i && not (bits_in p.surely s i)))) → IsPaths (λ d. sy (sx d)) (λ d s i. ex d s i || ey (sx d) s i) r
then-paths sx ex sy ey p q r h g a b = record {
  surely = λ d s i l. g.surely (sx d) s i l ∙ ap (λ x. bits_in q.surely s i || x) (h.surely d s i l) ∙ sym (or_assoc (bits_in q.surely s i) (bits_in p.surely s i) (d s i)) ∙ ap (λ x. x || d s i) (or_comm (bits_in q.surely s i) (bits_in p.surely s i)) ∙ ap (λ x. x || d s i) (sym (a s i l));
  exposed = λ d s i l. ap₂ (λ x y. x || y) (h.exposed d s i l) (g.exposed (sx d) s i l ∙ ap (λ x. bits_in q.exposed s i && not x) (h.surely d s i l))
      ∙ then-not (bits_in p.exposed s i) (bits_in q.exposed s i) (bits_in p.surely s i) (d s i) ∙ ap (λ x. x && not (d s i)) (sym (b s i l));
}

module _ (wid : ℕ → ℕ) where
  surely-last : (xs : List Stmt) (x : Stmt) (d : Bits) → surely_all wid (stmts_of (xs ++ x ∷ [])) d ≡ surely wid x (surely_all wid (stmts_of xs) d)
  surely-last [] x d = refl
  surely-last (y ∷ xs) x d = surely-last xs x (surely wid y d)

  early-last : (xs : List Stmt) (x : Stmt) (d : Bits) (s i : ℕ) → early_all wid (stmts_of (xs ++ x ∷ [])) d s i ≡ (early_all wid (stmts_of xs) d s i || early wid x (surely_all wid (stmts_of xs) d) s i)
  early-last [] x d s i = or-false (early wid x d s i)
  early-last (y ∷ xs) x d s i = ap (λ b. early wid y d s i || b) (early-last xs x (surely wid y d) s i) ∙ sym (or_assoc (early wid y d s i) (early_all wid (stmts_of xs) (surely wid y d) s i) _)

  -- the paths through a block whose last statement was added
  pub block-paths : (xs : List Stmt) (x : Stmt) (p q r : Paths) → IsPaths (surely_all wid (stmts_of xs)) (early_all wid (stmts_of xs)) p → IsPaths (surely wid x) (early wid x) q
      → ((s i : ℕ) → i < 64 → bits_in r.surely s i ≡ (bits_in p.surely s i || bits_in q.surely s i))
      → ((s i : ℕ) → i < 64 → bits_in r.exposed s i ≡ (bits_in p.exposed s i || (bits_in q.exposed s i && not (bits_in p.surely s i))))
      → IsPaths (surely_all wid (stmts_of (xs ++ x ∷ []))) (early_all wid (stmts_of (xs ++ x ∷ []))) r
  block-paths xs x p q r h g a b =
      let t = then-paths (surely_all wid (stmts_of xs)) (early_all wid (stmts_of xs)) (surely wid x) (early wid x) p q r h g a b in record {
        surely = λ d s i l. ap (λ (e : Bits). e s i) (surely-last xs x d) ∙ t.surely d s i l;
        exposed = λ d s i l. early-last xs x d s i ∙ t.exposed d s i l;
      }

  -- ---- items

  abbrev items : List Arm → Items
  items ws = items_of ws no_items

  each-last : (ws : List Arm) (a : Arm) (d : Bits) (s i : ℕ) → each_surely wid (items (ws ++ a ∷ [])) d s i ≡ (each_surely wid (items ws) d s i && surely wid a.body d s i)
  each-last [] a d s i = and-true (surely wid a.body d s i)
  each-last (b ∷ ws) a d s i = ap (λ c. surely wid b.body d s i && c) (each-last ws a d s i) ∙ sym (and_assoc (surely wid b.body d s i) (each_surely wid (items ws) d s i) (surely wid a.body d s i))

  abbrev arm_early : Arm → Bits → Bits
  arm_early a d s i = (exprs_read wid a.labels s i && not (d s i)) || early wid a.body d s i

  early-item : (ws : List Arm) (a : Arm) (d : Bits) (s i : ℕ) → early_in wid (items (ws ++ a ∷ [])) d s i ≡ (early_in wid (items ws) d s i || arm_early a d s i)
  early-item [] a d s i = ap (λ b. (exprs_read wid a.labels s i && not (d s i)) || b) (or-false (early wid a.body d s i))
  early-item (b ∷ ws) a d s i =
      let l = exprs_read wid b.labels s i && not (d s i) in let e = early wid b.body d s i in let r = early_in wid (items ws) d s i in let x = arm_early a d s i in
      ap (λ z. l || (e || z)) (early-item ws a d s i) ∙ ap (λ z. l || z) (sym (or_assoc e r x)) ∙ sym (or_assoc l (e || r) x)

  some-last : (ws : List Arm) (a : Arm) → is_item (items (ws ++ a ∷ [])) ≡ true
  some-last [] a = refl
  some-last (b ∷ ws) a = refl

  -- one more item
  pub more-branches : (ws : List Arm) (a : Arm) (o : Option Paths) (q r : Paths) → AreBranches wid (items ws) o → IsPaths (surely wid a.body) (arm_early a) q
      → ((d : Bits) (s i : ℕ) → i < 64 → (bits_in r.surely s i || d s i) ≡ (sure_if o d s i && (bits_in q.surely s i || d s i)))
      → ((d : Bits) (s i : ℕ) → i < 64 → (bits_in r.exposed s i && not (d s i)) ≡ (early_if o d s i || (bits_in q.exposed s i && not (d s i)))) → AreBranches wid (items (ws ++ a ∷ [])) (Some r)
  more-branches ws a o q r h g x y = record {
    surely = λ d s i l. each-last ws a d s i ∙ ap₂ (λ b c. b && c) (h.surely d s i l) (g.surely d s i l) ∙ sym (x d s i l);
    exposed = λ d s i l. early-item ws a d s i ∙ ap₂ (λ b c. b || c) (h.exposed d s i l) (g.exposed d s i l) ∙ sym (y d s i l);
    some = sym (some-last ws a);
  }

  -- ---- cases

  surely-default : (full : Bool) (u d : Bits) (ws : List Arm) (x : Stmt) (s i : ℕ) → surely_case wid full u (items_of ws (default_item x)) d s i ≡ (each_surely wid (items ws) d s i && surely wid x d s i)
  surely-default full u d [] x s i = refl
  surely-default full u d (a ∷ ws) x s i = ap (λ b. surely wid a.body d s i && b) (surely-default full (cond full (surely wid a.body d) u) d ws x s i) ∙ sym (and_assoc (surely wid a.body d s i) (each_surely wid (items ws) d s i) (surely wid x d s i))

  early-default : (d : Bits) (ws : List Arm) (x : Stmt) (s i : ℕ) → early_in wid (items_of ws (default_item x)) d s i ≡ (early_in wid (items ws) d s i || early wid x d s i)
  early-default d [] x s i = refl
  early-default d (a ∷ ws) x s i =
      let l = exprs_read wid a.labels s i && not (d s i) in let e = early wid a.body d s i in let r = early_in wid (items ws) d s i in
      ap (λ z. l || (e || z)) (early-default d ws x s i) ∙ ap (λ z. l || z) (sym (or_assoc e r (early wid x d s i))) ∙ sym (or_assoc l (e || r) (early wid x d s i))

  pub default-paths : (full : Bool) (ws : List Arm) (x : Stmt) (o : Option Paths) (q r : Paths) → AreBranches wid (items ws) o → IsPaths (surely wid x) (early wid x) q
      → ((d : Bits) (s i : ℕ) → i < 64 → (bits_in r.surely s i || d s i) ≡ (sure_if o d s i && (bits_in q.surely s i || d s i)))
      → ((d : Bits) (s i : ℕ) → i < 64 → (bits_in r.exposed s i && not (d s i)) ≡ (early_if o d s i || (bits_in q.exposed s i && not (d s i))))
      → IsPaths (λ d. surely_case wid full d (items_of ws (default_item x)) d) (early_in wid (items_of ws (default_item x))) r
  default-paths full ws x o q r h g a b = record {
    surely = λ d s i l. surely-default full d d ws x s i ∙ ap₂ (λ b c. b && c) (h.surely d s i l) (g.surely d s i l) ∙ sym (a d s i l);
    exposed = λ d s i l. early-default d ws x s i ∙ ap₂ (λ b c. b || c) (h.exposed d s i l) (g.exposed d s i l) ∙ sym (b d s i l);
  }

  -- where every value is taken, the last item stands for the path past all items
  surely-full : (u d : Bits) (a : Arm) (ws : List Arm) (s i : ℕ) → surely_case wid true u (items (a ∷ ws)) d s i ≡ each_surely wid (items (a ∷ ws)) d s i
  surely-full u d a [] s i = and_self (surely wid a.body d s i) ∙ sym (and-true (surely wid a.body d s i))
  surely-full u d a (b ∷ ws) s i = ap (λ c. surely wid a.body d s i && c) (surely-full (surely wid a.body d) d b ws s i)

  pub full-paths : (ws : List Arm) (o : Option Paths) (n r : Paths) → AreBranches wid (items ws) o → IsEmpty n → (o ≡ None → r ≡ n) → ((p : Paths) → o ≡ Some p → r ≡ p)
      → IsPaths (λ d. surely_case wid true d (items ws) d) (early_in wid (items ws)) r
  full-paths [] o n r h e none some = go o h.some none some
    where
      go : (o : Option Paths) → is_some o ≡ false → (o ≡ None → r ≡ n) → ((p : Paths) → o ≡ Some p → r ≡ p) → IsPaths (λ d s i. d s i) (λ d s i. false) r
      go None k a b = empty-paths r ((λ s i. ap (λ (p : Paths). bits_in p.surely s i) (a refl) ∙ e.0 s i), (λ s i. ap (λ (p : Paths). bits_in p.exposed s i) (a refl) ∙ e.1 s i))
      go (Some p) k a b = absurd (search (rules, k))
  full-paths (a ∷ ws) o n r h e none some = go o h.some h.surely h.exposed some
    where
      xs : Items
      xs = items (a ∷ ws)

      go : (o : Option Paths) → is_some o ≡ true → ((d : Bits) (s i : ℕ) → i < 64 → each_surely wid xs d s i ≡ sure_if o d s i) → ((d : Bits) (s i : ℕ) → i < 64 → early_in wid xs d s i ≡ early_if o d s i)
          → ((p : Paths) → o ≡ Some p → r ≡ p) → IsPaths (λ d. surely_case wid true d xs d) (early_in wid xs) r
      go None k x y b = absurd (search (rules, k))
      go (Some p) k x y b = record {
        surely = λ d s i l. surely-full d d a ws s i ∙ x d s i l ∙ ap (λ (z : Paths). bits_in z.surely s i || d s i) (sym (b p refl));
        exposed = λ d s i l. y d s i l ∙ ap (λ (z : Paths). bits_in z.exposed s i && not (d s i)) (sym (b p refl));
      }

-- ---- a list's items, one by one

pub map-more : {A B : Type 0} (f : A → B) (all : List A) (k : ℕ) (x : A) → k < length all → x ≡ get_or all k x → map f (take (k + 1) all) ≡ map f (take k all) ++ f x ∷ []
map-more f all k x l e = ap (map f) (take_more all k x l ∙ ap (λ z. take k all ++ z ∷ []) (sym e)) ∙ map-append f (take k all) (x ∷ [])

-- ---- what holds of a whole holds of its parts

pub stmt-full : (all : List FStmt) (k : ℕ) (x : FStmt) → k < length all → x ≡ get_or all k x → AreFull (stmts_of (map stmt_of all)) → IsFull (stmt_of x)
stmt-full [] k x l e h = absurd (omega arith)
stmt-full (y ∷ ys) zero x l e h = subst (λ (z : FStmt). IsFull (stmt_of z)) (sym e) h.0
stmt-full (y ∷ ys) (suc k) x l e h = stmt-full ys k x (let m : k < length ys = omega arith in m) e h.1

pub item-full : (all : List FCaseItem) (k : ℕ) (x : FCaseItem) → k < length all → x ≡ get_or all k x → AreItemsFull (items_in all) → IsFull (stmt_of x.body)
item-full [] k x l e h = absurd (omega arith)
item-full (y ∷ ys) zero x l e h = subst (λ (a : Arm). IsFull a.body) (arm-is x) (subst (λ (z : FCaseItem). IsFull (arm_of z).body) (sym e) h.0)
item-full (y ∷ ys) (suc k) x l e h = item-full ys k x (let m : k < length ys = omega arith in m) e h.1

-- the items before a default, and the default
pub items-full : (ws : List Arm) (x : Stmt) → AreItemsFull (items_of ws (default_item x)) → AreItemsFull (items_of ws no_items) × IsFull x
items-full [] x h = (tt, h)
items-full (a ∷ ws) x h = let r = items-full ws x h.1 in ((h.0, r.0), r.1)

-- without a default every value is taken
pub takes-all : (ws : List Arm) (full : Bool) → (has_default (items_of ws no_items) || full) ≡ true → full ≡ true
takes-all ws full h = sym (ap (λ b. b || full) (no-default ws)) ∙ h
  where
    no-default : (ws : List Arm) → has_default (items_of ws no_items) ≡ false
    no-default [] = refl
    no-default (a ∷ ws) = no-default ws
