-- What statements add to the bits that are collected, one after another.
use Rattle.std.proofs.Common.{◌≡◌, ℕ, ◌<◌, Bool, true, false, cond, ◌&&◌, ◌||◌, ◌==◌, List, [], ◌∷◌, map, Option, Some, None, is_some, unwrap_or, Box, Global, refl, sym, ap, ap₂, ◌∙◌, eqb-true}
use Rattle.std.specs.Prelude.{bit_or}
use Rattle.std.specs.Ordering.{nat_cmp}
use Rattle.std.specs.BTreeMap.{BTreeMap, get, is_at}
use Rattle.cell_graph.specs.Tree.{bit_at}
use Rattle.cell_graph.proofs.Words.{bit_or-bit, bit-zero}
use Rattle.flat_form.specs.declared.flat.FExpr.{FExpr}
use Rattle.flat_form.specs.declared.flat.FStmt.{FStmt}
use Rattle.flat_form.specs.declared.flat.FCaseItem.{FCaseItem}
use Rattle.flat_form.specs.declared.flat.FStmt.TheOpen.{FCaseItem-F}
use Rattle.flat_form.specs.declared.flat.FStmt.TheFolds.{fold-roll-FCaseItem}
use Rattle.flat_form.specs.declared.flat.FStmt.TheVariants as v
use Rattle.flat_form.specs.View.{Arm, stmt_of, arm_of, items_of, stmt_step, arm_step}
use Rattle.flat_form.proofs.StmtFolds.{stmt_of-If, stmt_of-If_alone, stmt_of-Case, stmt_of-Case_alone}
use Rattle.flat_meaning.specs.Flat.{Stmt, Items, no_items, default_item, assigns, case_assigns}
use Rattle.flat_meaning.specs.Assigned.{Done, may_assign, may_assign_in}
use Rattle.driver_trees.specs.Collected.{has_bit, Adds, AddsSome}
use Rattle.driver_trees.specs.Statements.{other_of}
use Rattle.driver_trees.proofs.Maps.{at_query}

or_more : (a b c : Bool) → ((a || b) || c) ≡ (a || (b || c))
or_more true b c = refl
or_more false b c = refl

or_last : (a : Bool) → (a || false) ≡ a
or_last true = refl
or_last false = refl

pub adds_none : (m : BTreeMap ℕ ℕ) → Adds m m (λ x. false) (λ x i. false)
adds_none m = record { keys = λ x. sym (or_last (is_some (get nat_cmp m x))); bits = λ x i l. sym (or_last (has_bit m x i)) }

pub adds_as : {m n : BTreeMap ℕ ℕ} {a b : ℕ → Bool} {c d : Done} → Adds m n a c → ((x : ℕ) → a x ≡ b x) → ((x i : ℕ) → i < 64 → c x i ≡ d x i) → Adds m n b d
adds_as {m} h e f = record { keys = λ x. h.keys x ∙ ap (λ u. is_some (get nat_cmp m x) || u) (e x); bits = λ x i l. h.bits x i l ∙ ap (λ u. has_bit m x i || u) (f x i l) }

pub adds_both : {k m n : BTreeMap ℕ ℕ} {a b : ℕ → Bool} {c d : Done} → Adds k m a c → Adds m n b d → Adds k n (λ x. a x || b x) (λ x i. c x i || d x i)
adds_both {k} {m} {n} {a} {b} {c} {d} g h = record {
  keys = λ x. h.keys x ∙ ap (λ u. u || b x) (g.keys x) ∙ or_more (is_some (get nat_cmp k x)) (a x) (b x);
  bits = λ x i l. h.bits x i l ∙ ap (λ u. u || d x i) (g.bits x i l) ∙ or_more (has_bit k x i) (c x i) (d x i);
}

pub some_first : (m : BTreeMap ℕ ℕ) (all : ℕ → Bool) (bits : Done) → AddsSome m m all all bits bits
some_first m all bits = record { keys = λ x. refl; bits = λ x i l. refl }

pub some_more : {k m n : BTreeMap ℕ ℕ} {a left all rest : ℕ → Bool} {c left_bits all_bits rest_bits : Done} → AddsSome k m left all left_bits all_bits → Adds m n a c
    → ((x : ℕ) → (a x || rest x) ≡ left x) → ((x i : ℕ) → (c x i || rest_bits x i) ≡ left_bits x i) → AddsSome k n rest all rest_bits all_bits
some_more {k} {m} {n} {a} {left} {all} {rest} {c} {left_bits} {all_bits} {rest_bits} g h e f = record {
  keys = λ x. ap (λ u. u || rest x) (h.keys x) ∙ or_more (is_some (get nat_cmp m x)) (a x) (rest x) ∙ ap (λ u. is_some (get nat_cmp m x) || u) (e x) ∙ g.keys x;
  bits = λ x i l. ap (λ u. u || rest_bits x i) (h.bits x i l) ∙ or_more (has_bit m x i) (c x i) (rest_bits x i) ∙ ap (λ u. has_bit m x i || u) (f x i) ∙ g.bits x i l;
}

pub some_last : {m n : BTreeMap ℕ ℕ} {left all : ℕ → Bool} {left_bits all_bits : Done} → AddsSome m n left all left_bits all_bits
    → ((x : ℕ) → left x ≡ false) → ((x i : ℕ) → left_bits x i ≡ false) → Adds m n all all_bits
some_last {m} {n} h e f = record {
  keys = λ x. sym (or_last (is_some (get nat_cmp n x))) ∙ ap (λ u. is_some (get nat_cmp n x) || u) (sym (e x)) ∙ h.keys x;
  bits = λ x i l. sym (or_last (has_bit n x i)) ∙ ap (λ u. has_bit n x i || u) (sym (f x i)) ∙ h.bits x i l;
}

-- bits of one signal
module _ (m n : BTreeMap ℕ ℕ) (k before bits : ℕ) (is : before ≡ unwrap_or (get nat_cmp m k) 0) (puts : (x : ℕ) → get nat_cmp n x ≡ cond (is_at (nat_cmp k) x) (Some (bit_or before bits)) (get nat_cmp m x)) where
  at_key : (x : ℕ) → get nat_cmp n x ≡ cond (x == k) (Some (bit_or before bits)) (get nat_cmp m x)
  at_key x = puts x ∙ ap (λ b. cond b (Some (bit_or before bits)) (get nat_cmp m x)) (at_query k x)

  pub included : (set : ℕ → Bool) → ((i : ℕ) → i < 64 → bit_at bits i ≡ set i) → Adds m n (λ x. x == k) (λ x i. (x == k) && set i)
  included set h = record { keys = λ x. ap is_some (at_key x) ∙ one (x == k) (get nat_cmp m x); bits = λ x i l. ap (λ o. bit_at (unwrap_or o 0) i) (at_key x) ∙ two x i l (x == k) refl }
    where
      one : (b : Bool) (o : Option ℕ) → is_some (cond b (Some (bit_or before bits)) o) ≡ (is_some o || b)
      one true None = refl
      one true (Some w) = refl
      one false None = refl
      one false (Some w) = refl

      two : (x i : ℕ) → i < 64 → (b : Bool) → (x == k) ≡ b → bit_at (unwrap_or (cond b (Some (bit_or before bits)) (get nat_cmp m x)) 0) i ≡ (has_bit m x i || (b && set i))
      two x i l true e = bit_or-bit before bits i ∙ ap₂ (λ u w. u || w) (ap (λ w. bit_at w i) (is ∙ ap (λ y. unwrap_or (get nat_cmp m y) 0) (sym (eqb-true x k e)))) (h i l)
      two x i l false e = sym (or_last (has_bit m x i))

-- ---- forms of statements

pub if_adds : (s : FStmt) (c : FExpr) (x : Box FStmt Global) (o : Option (Box FStmt Global)) → s ≡ v.If c x o
    → ((y : ℕ) → (assigns (stmt_of x.value) y || assigns (other_of o) y) ≡ assigns (stmt_of s) y)
    × ((wid : ℕ → ℕ) (y i : ℕ) → (may_assign wid (stmt_of x.value) y i || may_assign wid (other_of o) y i) ≡ may_assign wid (stmt_of s) y i)
if_adds s c x None e = let f = ap stmt_of e ∙ stmt_of-If_alone c x in (λ y. sym (ap (λ t. assigns t y) f), λ wid y i. sym (ap (λ t. may_assign wid t y i) f))
if_adds s c x (Some z) e = let f = ap stmt_of e ∙ stmt_of-If c x z in (λ y. sym (ap (λ t. assigns t y) f), λ wid y i. sym (ap (λ t. may_assign wid t y i) f))

default_assigns : (arms : List Arm) (body : Stmt) (y : ℕ) → (case_assigns (items_of arms no_items) y || assigns body y) ≡ case_assigns (items_of arms (default_item body)) y
default_assigns [] body y = refl
default_assigns (a ∷ arms) body y = or_more (assigns a.body y) (case_assigns (items_of arms no_items) y) (assigns body y) ∙ ap (λ u. assigns a.body y || u) (default_assigns arms body y)

default_may : (wid : ℕ → ℕ) (arms : List Arm) (body : Stmt) (y i : ℕ) → (may_assign_in wid (items_of arms no_items) y i || may_assign wid body y i) ≡ may_assign_in wid (items_of arms (default_item body)) y i
default_may wid [] body y i = refl
default_may wid (a ∷ arms) body y i = or_more (may_assign wid a.body y i) (may_assign_in wid (items_of arms no_items) y i) (may_assign wid body y i) ∙ ap (λ u. may_assign wid a.body y i || u) (default_may wid arms body y i)

pub case_adds : (s : FStmt) (c : FExpr) (is : List FCaseItem) (o : Option (Box FStmt Global)) → s ≡ v.Case c is o
    → ((y : ℕ) → (case_assigns (items_of (map arm_of is) no_items) y || assigns (other_of o) y) ≡ assigns (stmt_of s) y)
    × ((wid : ℕ → ℕ) (y i : ℕ) → (may_assign_in wid (items_of (map arm_of is) no_items) y i || may_assign wid (other_of o) y i) ≡ may_assign wid (stmt_of s) y i)
case_adds s c is None e = let f = ap stmt_of e ∙ stmt_of-Case_alone c is in
    (λ y. or_last (case_assigns (items_of (map arm_of is) no_items) y) ∙ sym (ap (λ t. assigns t y) f), λ wid y i. or_last (may_assign_in wid (items_of (map arm_of is) no_items) y i) ∙ sym (ap (λ t. may_assign wid t y i) f))
case_adds s c is (Some z) e = let f = ap stmt_of e ∙ stmt_of-Case c is z in
    (λ y. default_assigns (map arm_of is) (stmt_of z.value) y ∙ sym (ap (λ t. assigns t y) f), λ wid y i. default_may wid (map arm_of is) (stmt_of z.value) y i ∙ sym (ap (λ t. may_assign wid t y i) f))

pub arm_body : (i : FCaseItem) → (arm_of i).body ≡ stmt_of i.body
arm_body i = let x : FCaseItem-F FStmt FCaseItem = record { labels = i.labels; body = i.body } in ap (λ (a : Arm). a.body) (fold-roll-FCaseItem Stmt Arm stmt_step arm_step x)
