-- Statements by their parts.
use Rattle.std.proofs.Common.{◌≡◌, ℕ, zero, suc, ◌^◌, max, Bool, true, false, cond, ◌&&◌, ◌||◌, List, [], ◌∷◌, ◌++◌, map, Option, ◌≤◌, refl, sym, ap, ap₂, subst, ◌∙◌, rules, arith}
use Rattle.std.proofs.lemmas.Bool.{and_parts}
use Rattle.std.specs.List.{list_all}
use Rattle.cell_graph.specs.Tree.{all_below}
use Rattle.verilog_ast.specs.declared.Delay.{Delay}
use Rattle.verilog_reading.specs.ExprTree.{ExprTree, TargetTree}
use Rattle.verilog_reading.specs.StmtTree.{StmtTree, null, set, when, either, switch, switch_else, subject_of, block, StmtTrees, no_rows, and_rows, LabelTree, ArmTrees, no_arms, and_arms}
use Rattle.flat_meaning.specs.Flat.{Expr, Exprs, Stmt, Null, Set, If, Case, Block, Items, no_items, default_item, item, stmt, size, largest, largest_label, case_size}
use Rattle.flat_meaning.specs.Full.{are_const, labels_const, some_label, has_label, is_full}
use Rattle.flat_form.specs.declared.flat.FExpr.{FExpr}
use Rattle.flat_form.specs.declared.flat.FStmt.{FStmt}
use Rattle.flat_form.specs.declared.flat.FStmt.TheOpen.{FStmt-F}
use Rattle.flat_form.specs.declared.flat.FStmt.TheFolds.{fold-roll-FStmt}
use Rattle.flat_form.specs.declared.flat.FStmt.TheVariants as t
use Rattle.flat_form.specs.declared.flat.FCaseItem.{FCaseItem}
use Rattle.flat_form.specs.View.{expr_of, exprs_of, stmt_of, stmts_of, Arm, arm_of, items_of, target_of}
use Rattle.flat_form.specs.Sizes.{kept_of, is_sized, all_right, are_labels_sized}
use Rattle.flat_form.proofs.StmtFolds.{stmt_of-Null}
use Rattle.flat_form.proofs.Sized.{sized_width, sized_range}
use Rattle.flat_form.proofs.Labels.{arm-labels}
use Rattle.flat_unfolding.specs.Outcome.{Broken, breaks_if}
use Rattle.flat_unfolding.specs.Names.{Memory, Look}
use Rattle.flat_unfolding.specs.Expressions.{Term, is_empty, is_sound, all_broken, all_sound, joined, read}
use Rattle.flat_unfolding.specs.Targets.{Aim, Goal, fixed, a_word, goal, first_name}
use Rattle.flat_unfolding.specs.Statements.{Kind, is_stray, unassigned, with_last, missing_last, done, done_all, arms, read_list, set_done}
use Rattle.flat_unfolding.specs.Memories.{memory_write, writes_from}
use Rattle.flat_unfolding.specs.Widths.{keeps_sizes, all_true, stmt_step, arm_step, stmt_keeps_sizes, target_keeps_sizes}
use Rattle.flat_unfolding.proofs.Steps.{none_of_both}
use Rattle.flat_unfolding.proofs.Terms.{sound_is, all_sound_are}
use Rattle.flat_names.specs.declared.resolved.Resolved.{Resolved}
use Rattle.flat_names.specs.declared.resolved.Parts.{Parts}
use Rattle.flat_targets.specs.declared.target.Fixed.{Fixed}
use Rattle.flat_names.specs.Noting.{Noted, all_noted}
use Rattle.flat_names.specs.Pieces.{IsRead, AreRead, SameReads}
use Rattle.flat_targets.specs.Aims.{IsAim}
use Rattle.flat_names.proofs.Notes.{noted-both}
use Rattle.flat_statements.specs.Statements.{arm_keeps_sizes, Builds, AreAlike, AreArmsAlike, IsDone, AreDone, items_in, labels_in, AreArms, has_default, IsFull, AreItemsFull, AreFull}
use Rattle.flat_statements.proofs.Sizes.{both-true, sized-keeps, all-keep, target-sized-keeps}
use Rattle.flat_statements.proofs.Alike.{alike-itself, alike-set, alike-if, alike-none, alike-more, alike-block, arms-alike-none, arms-alike-more, alike-case_with, alike-case_full, with-none, alike-write, alike-unassigned}

-- ---- what was read and breaks no rule

pub read-expr : (t : Term) (r : Resolved) → IsRead t r → t.broken ≡ [] → expr_of r.expr ≡ t.expr
read-expr t r h e = h.expr (h.sound ∙ sound_is t e)

pub read-sized : (t : Term) (r : Resolved) → IsRead t r → t.broken ≡ [] → is_sized r.expr ≡ true
read-sized t r h e = h.sized (h.sound ∙ sound_is t e)

pub read-keeps : (t : Term) (r : Resolved) → IsRead t r → t.broken ≡ [] → keeps_sizes r.expr ≡ true
read-keeps t r h e = sized-keeps r.expr (read-sized t r h e)

-- ---- notes, in groups

pub noted-three : (f : Noted) (xs bs cs : List Broken) → all_noted f (xs ++ bs ++ cs) ≡ all_noted (all_noted (all_noted f xs) bs) cs
noted-three f xs bs cs = noted-both f (xs ++ bs) cs ∙ ap (λ g. all_noted g cs) (noted-both f xs bs)

pub noted-four : (f : Noted) (xs bs cs ds : List Broken) → all_noted f (xs ++ bs ++ cs ++ ds) ≡ all_noted (all_noted (all_noted (all_noted f xs) bs) cs) ds
noted-four f xs bs cs ds = noted-both f (xs ++ bs ++ cs) ds ∙ ap (λ g. all_noted g ds) (noted-three f xs bs cs)

-- ---- `if`

pub keeps-null : stmt_keeps_sizes t.Null ≡ true
keeps-null = ap stmt_keeps_sizes (sym t.rolls-Null) ∙ fold-roll-FStmt Bool Bool stmt_step arm_step FStmt-F.Null

module _ (l : Look) (k : Kind) where
  pub done-null : IsDone (done l k null) t.Null
  done-null = record {
    stmt = λ e. stmt_of-Null;
    sizes = λ e. keeps-null;
    alike = subst (λ (x : Stmt). AreAlike x Null) (sym stmt_of-Null) (alike-itself Null);
    full = subst IsFull (sym stmt_of-Null) tt;
  }

  pub done-either : (e : ExprTree) (s z : StmtTree) (c : Resolved) (x y r : FStmt) → IsRead (read l e) c → IsDone (done l k s) x → IsDone (done l k z) y
      → Builds r (If (expr_of c.expr) (stmt_of x) (stmt_of y)) (keeps_sizes c.expr && (stmt_keeps_sizes x && stmt_keeps_sizes y)) → IsDone (done l k (either e s z)) r
  done-either e s z c x y r h i j b =
      let q = (read l e).broken in let a = (done l k s).broken in let o = (done l k z).broken in record {
        stmt = λ n. let m = none_of_both (q ++ a) o n in let g = none_of_both q a m.0 in
            b.stmt ∙ ap (λ p. If p (stmt_of x) (stmt_of y)) (read-expr (read l e) c h g.0) ∙ ap₂ (λ p u. If (read l e).expr p u) (i.stmt g.1) (j.stmt m.1);
        sizes = λ n. let m = none_of_both (q ++ a) o n in let g = none_of_both q a m.0 in
            b.sizes ∙ both-true (keeps_sizes c.expr) (stmt_keeps_sizes x && stmt_keeps_sizes y) (read-keeps (read l e) c h g.0) (both-true (stmt_keeps_sizes x) (stmt_keeps_sizes y) (i.sizes g.1) (j.sizes m.1));
        alike = subst (λ (p : Stmt). AreAlike p (done l k (either e s z)).stmt) (sym b.stmt) (alike-if (expr_of c.expr) (read l e).expr (stmt_of x) (stmt_of y) (done l k s).stmt (done l k z).stmt h.reads i.alike j.alike);
        full = subst IsFull (sym b.stmt) (i.full, j.full);
      }

  pub done-when : (e : ExprTree) (s : StmtTree) (c : Resolved) (x r : FStmt) → IsRead (read l e) c → IsDone (done l k s) x
      → Builds r (If (expr_of c.expr) (stmt_of x) Null) (keeps_sizes c.expr && stmt_keeps_sizes x) → IsDone (done l k (when e s)) r
  done-when e s c x r h i b = let q = (read l e).broken in let a = (done l k s).broken in record {
    stmt = λ n. let g = none_of_both q a n in b.stmt ∙ ap₂ (λ p u. If p u Null) (read-expr (read l e) c h g.0) (i.stmt g.1);
    sizes = λ n. let g = none_of_both q a n in b.sizes ∙ both-true (keeps_sizes c.expr) (stmt_keeps_sizes x) (read-keeps (read l e) c h g.0) (i.sizes g.1);
    alike = subst (λ (p : Stmt). AreAlike p (done l k (when e s)).stmt) (sym b.stmt) (alike-if (expr_of c.expr) (read l e).expr (stmt_of x) Null (done l k s).stmt Null h.reads i.alike (alike-itself Null));
    full = subst IsFull (sym b.stmt) (i.full, tt);
  }

  -- ---- blocks

  pub done-none : AreDone (done_all l k no_rows) []
  done-none = record { stmts = λ e. refl; sizes = λ e. refl; alike = alike-none; full = tt }

  pub done-more : (s : StmtTree) (rest : StmtTrees) (x : FStmt) (xs : List FStmt) → IsDone (done l k s) x → AreDone (done_all l k rest) xs → AreDone (done_all l k (and_rows s rest)) (x ∷ xs)
  done-more s rest x xs h i = let a = (done l k s).broken in let b = (done_all l k rest).broken in record {
    stmts = λ e. let g = none_of_both a b e in ap₂ stmt (h.stmt g.0) (i.stmts g.1);
    sizes = λ e. let g = none_of_both a b e in both-true (stmt_keeps_sizes x) (all_true (map stmt_keeps_sizes xs)) (h.sizes g.0) (i.sizes g.1);
    alike = alike-more (stmt_of x) (done l k s).stmt (stmts_of (map stmt_of xs)) (done_all l k rest).stmts h.alike i.alike;
    full = (h.full, i.full);
  }

  pub done-block : (rows : StmtTrees) (xs : List FStmt) (r : FStmt) → AreDone (done_all l k rows) xs → stmt_of r ≡ Block (stmts_of (map stmt_of xs)) → stmt_keeps_sizes r ≡ all_true (map stmt_keeps_sizes xs)
      → IsDone (done l k (block rows)) r
  done-block rows xs r h b s = record {
    stmt = λ e. b ∙ ap Block (h.stmts e);
    sizes = λ e. s ∙ h.sizes e;
    alike = subst (λ (p : Stmt). AreAlike p (done l k (block rows)).stmt) (sym b) (alike-block (stmts_of (map stmt_of xs)) (done_all l k rows).stmts h.alike);
    full = subst IsFull (sym b) h.full;
  }

  -- ---- items of a `case`

  abbrev no_case_items : List FCaseItem
  no_case_items = []

  pub arms-none : AreArms (arms l k no_arms) no_case_items true true
  arms-none = record { sound_is = refl; constant_is = refl; items = λ e. refl; sizes = λ e. refl; labels = λ e. refl; sized = λ e. refl; alike = arms-alike-none; full = tt }

exprs-same : (xs : List FExpr) (ts : List Term) → map expr_of xs ≡ map (λ (t : Term). t.expr) ts → exprs_of (map expr_of xs) ≡ joined ts
exprs-same xs ts e = ap exprs_of e

-- an item of the code, by its parts
pub record IsItem (i : FCaseItem) (ls : List FExpr) (x : FStmt) : Type 0 where
  pub labels : i.labels ≡ ls
  pub arm : arm_of i ≡ record { labels = exprs_of (map expr_of ls); body = stmt_of x }
  pub sizes : arm_keeps_sizes i ≡ (list_all keeps_sizes ls && stmt_keeps_sizes x)

list-right : (xs : List FExpr) → all_right (map kept_of xs) ≡ true → list_all is_sized xs ≡ true
list-right [] h = refl
list-right (x ∷ xs) h = let p = and_parts (is_sized x) (all_right (map kept_of xs)) h in both-true (is_sized x) (list_all is_sized xs) p.0 (list-right xs p.1)

module _ (l : Look) (k : Kind) where
  pub arms-more : (labels : List LabelTree) (s : StmtTree) (rest : ArmTrees) (p : Parts) (x : FStmt) (i : FCaseItem) (xs : List FCaseItem) (sound constant : Bool)
      → AreRead (read_list l k labels) p → IsDone (done l k s) x → IsItem i p.items.items x → AreArms (arms l k rest) xs sound constant
      → AreArms (arms l k (and_arms labels s rest)) (i ∷ xs) (p.is_sound && sound) (p.is_constant && constant)
  arms-more labels s rest p x i xs sound constant r d m a =
      let ts = read_list l k labels in let q = all_broken ts in let o = (done l k s).broken in let n = (arms l k rest).broken in
      let exprs : p.is_sound ≡ true → exprs_of (map expr_of p.items.items) ≡ joined ts = λ e. exprs-same p.items.items ts (r.exprs e) in
      let sized : p.is_sound ≡ true → list_all is_sized p.items.items ≡ true = λ e. list-right p.items.items (r.sized e) in
      let here : (all_sound ts && (arms l k rest).is_sound) ≡ true → p.is_sound ≡ true = λ e. r.sound ∙ (and_parts (all_sound ts) (arms l k rest).is_sound e).0 in
      record {
        sound_is = ap₂ (λ b c. b && c) r.sound a.sound_is;
        constant_is = ap₂ (λ b c. b && c) r.constant a.constant_is;
        items = λ e. let g = none_of_both (q ++ o) n e in let h = none_of_both q o g.0 in let t = r.sound ∙ all_sound_are ts h.0 in
            ap (λ (c : Arm). item c.labels c.body (items_in xs)) m.arm ∙ ap (λ z. item z (stmt_of x) (items_in xs)) (exprs t) ∙ ap₂ (λ y z. item (joined ts) y z) (d.stmt h.1) (a.items g.1);
        sizes = λ e. let g = none_of_both (q ++ o) n e in let h = none_of_both q o g.0 in let t = r.sound ∙ all_sound_are ts h.0 in
            both-true (arm_keeps_sizes i) (all_true (map arm_keeps_sizes xs)) (m.sizes ∙ both-true (list_all keeps_sizes p.items.items) (stmt_keeps_sizes x) (all-keep p.items.items (sized t)) (d.sizes h.1)) (a.sizes g.1);
        labels = λ e. ap₂ (λ y z. y ∷ z) (ap (λ (c : Arm). c.labels) m.arm ∙ exprs (here e)) (a.labels (and_parts (all_sound ts) (arms l k rest).is_sound e).1);
        sized = λ e. both-true (list_all is_sized i.labels) (are_labels_sized xs) (ap (list_all is_sized) m.labels ∙ sized (here e)) (a.sized (and_parts (all_sound ts) (arms l k rest).is_sound e).1);
        alike = subst (λ (c : Arm). AreArmsAlike (item c.labels c.body (items_in xs)) (arms l k (and_arms labels s rest)).items) (sym m.arm)
            (arms-alike-more (exprs_of (map expr_of p.items.items)) (joined ts) (stmt_of x) (done l k s).stmt (items_in xs) (arms l k rest).items r.reads d.alike a.alike);
        full = subst (λ (c : Arm). AreItemsFull (item c.labels c.body (items_in xs))) (sym m.arm) (d.full, a.full);
      }

-- ---- labels alone decide whether every value is taken

abbrev largest_of : List Exprs → ℕ
largest_of [] = 0
largest_of (ls ∷ rest) = max (largest ls) (largest_of rest)

abbrev constant_in : List Exprs → Bool
constant_in [] = true
constant_in (ls ∷ rest) = are_const ls && constant_in rest

abbrev has_in : ℕ → ℕ → List Exprs → Bool
has_in w x [] = false
has_in w x (ls ∷ rest) = has_label w x ls || has_in w x rest

abbrev full_of : ℕ → List Exprs → Bool
full_of w ls = constant_in ls && all_below (λ x. has_in w x ls) (2 ^ w)

largest-by : (is : Items) → largest_label is ≡ largest_of (labels_in is)
largest-by no_items = refl
largest-by (default_item x) = refl
largest-by (item ls x is) = ap (max (largest ls)) (largest-by is)

constant-by : (is : Items) → labels_const is ≡ constant_in (labels_in is)
constant-by no_items = refl
constant-by (default_item x) = refl
constant-by (item ls x is) = ap (λ b. are_const ls && b) (constant-by is)

label-by : (w x : ℕ) (is : Items) → some_label w x is ≡ has_in w x (labels_in is)
label-by w x no_items = refl
label-by w x (default_item s) = refl
label-by w x (item ls s is) = ap (λ b. has_label w x ls || b) (label-by w x is)

fun-same : (f g : ℕ → Bool) → ((x : ℕ) → f x ≡ g x) → f ≡ g
fun-same f g h = λ j x. h x j

full-by : (w : ℕ) (is : Items) → is_full w is ≡ full_of w (labels_in is)
full-by w is = ap₂ (λ b (p : ℕ → Bool). b && all_below p (2 ^ w)) (constant-by is) (fun-same (λ x. some_label w x is) (λ x. has_in w x (labels_in is)) (λ x. label-by w x is))

pub same-full : (e f : Expr) (is js : Items) → size e ≡ size f → labels_in is ≡ labels_in js → is_full (case_size e is) is ≡ is_full (case_size f js) js
same-full e f is js h g =
    full-by (case_size e is) is ∙ ap₂ full_of (ap₂ max h (largest-by is ∙ ap largest_of g ∙ sym (largest-by js))) g ∙ sym (full-by (case_size f js) js)

-- ---- a `case` without `default`

items-last : (is : List Arm) (z : Items) → items_of is z ≡ with_last (items_of is no_items) z
items-last [] z = refl
items-last (a ∷ is) z = ap (item a.labels a.body) (items-last is z)

same-test : (a b c f g : Bool) → ((a && b && c) ≡ true → f ≡ g) → ((a && b && c) && f) ≡ (a && b && c && g)
same-test true true true f g h = h refl
same-test true true false f g h = refl
same-test true false c f g h = refl
same-test false b c f g h = refl

pub three-hold : (a b c : Bool) → (a && b && c) ≡ true → (a ≡ true) × (b ≡ true)
three-hold true true c e = (refl, refl)
three-hold true false c e = absurd (search (rules, e))
three-hold false b c e = absurd (search (rules, e))

last-holds : (a b c f : Bool) → (a && b && c && f) ≡ true → f ≡ true
last-holds true true true f e = e
last-holds true true false f e = absurd (search (rules, e))
last-holds true false c f e = absurd (search (rules, e))
last-holds false b c f e = absurd (search (rules, e))

sound-empty : (t : Term) → is_sound t ≡ true → t.broken ≡ []
sound-empty t e = go t.broken e
  where
    go : (bs : List Broken) → is_empty bs ≡ true → bs ≡ []
    go [] e = refl
    go (b ∷ bs) e = absurd (search (rules, e))

abbrev pub last_if : Bool → Items
last_if b = cond b no_items (default_item Null)

pub last-none : (is : List FCaseItem) → items_of (map arm_of is) no_items ≡ with_last (items_in is) (last_if true)
last-none is = items-last (map arm_of is) no_items

pub last-null : (is : List FCaseItem) (x : Stmt) → x ≡ Null → items_of (map arm_of is) (default_item x) ≡ with_last (items_in is) (last_if false)
last-null is x e = items-last (map arm_of is) (default_item x) ∙ ap (λ z. with_last (items_in is) (default_item z)) e

or-true : (b : Bool) → (b || true) ≡ true
or-true true = refl
or-true false = refl

default-there : (is : Items) (x : Stmt) → has_default (with_last is (default_item x)) ≡ true
default-there no_items x = refl
default-there (default_item y) x = refl
default-there (item ls y is) x = default-there is x

default-full : (is : Items) (x : Stmt) → AreItemsFull is → IsFull x → AreItemsFull (with_last is (default_item x))
default-full no_items x h i = i
default-full (default_item y) x h i = h
default-full (item ls y is) x h i = (h.0, default-full is x h.1 i)

with-full : (c : Expr) (is : Items) (x : Stmt) → AreItemsFull is → IsFull x → IsFull (Case c (with_last is (default_item x)))
with-full c is x h i = let js = with_last is (default_item x) in (ap (λ b. b || is_full (case_size c js) js) (default-there is x), default-full is x h i)

last-full : (c : Expr) (is : Items) (b : Bool) → AreItemsFull is → (b ≡ true → is_full (case_size c is) is ≡ true) → IsFull (Case c (with_last is (last_if b)))
last-full c is false h e = with-full c is Null h tt
last-full c is true h e = subst (λ js. IsFull (Case c js)) (sym (with-none is)) (ap (λ b. has_default is || b) (e refl) ∙ or-true (has_default is), h)

writes-full : (m : Memory) (i v : Expr) (n more : ℕ) → AreFull (writes_from m i v n more)
writes-full m i v n zero = tt
writes-full m i v n (suc more) = ((tt, tt), writes-full m i v (suc n) more)

alike-last : (c k : Expr) (xs ys : Items) → SameReads c k → AreArmsAlike xs ys → (b : Bool) → (b ≡ true → is_full (case_size c xs) xs ≡ true) → (b ≡ true → is_full (case_size k ys) ys ≡ true)
    → AreAlike (Case c (with_last xs (last_if b))) (Case k (with_last ys (last_if b)))
alike-last c k xs ys r g true e f = alike-case_full c k xs ys true r g (e refl) (f refl)
alike-last c k xs ys r g false e f = alike-case_with c k xs ys Null Null r g (alike-itself Null)

module _ (l : Look) (k : Kind) where
  pub done-switch : (e : ExprTree) (rows : ArmTrees) (c : Resolved) (is : List FCaseItem) (sound constant : Bool) (r : FStmt) (b : Bool) → IsRead (read l e) c → AreArms (arms l k rows) is sound constant
      → b ≡ ((c.is_sound && sound && constant) && is_full (case_size (expr_of c.expr) (items_in is)) (items_in is))
      → stmt_of r ≡ Case (expr_of c.expr) (with_last (items_in is) (last_if b)) → stmt_keeps_sizes r ≡ (keeps_sizes c.expr && (all_true (map arm_keeps_sizes is) && true)) → IsDone (done l k (switch (subject_of false e) rows)) r
  done-switch e rows c is sound constant r b h a t q z =
      let v = read l e in let m = arms l k rows in
      let f = is_full (case_size (expr_of c.expr) (items_in is)) (items_in is) in let g = is_full (case_size v.expr m.items) m.items in
      let sames : (is_sound v && m.is_sound && m.is_constant) ≡ true → f ≡ g = λ n. let p = three-hold (is_sound v) m.is_sound m.is_constant n in
      same-full (expr_of c.expr) v.expr (items_in is) m.items (ap size (read-expr v c h (sound-empty v p.0))) (a.labels p.1) in
      let test : b ≡ (is_sound v && m.is_sound && m.is_constant && g) =
      t ∙ ap (λ x. (x && sound && constant) && f) h.sound ∙ ap₂ (λ x y. (is_sound v && x && y) && f) a.sound_is a.constant_is ∙ same-test (is_sound v) m.is_sound m.is_constant f g sames in
      let last : last_if b ≡ missing_last v m = ap last_if test in record {
        stmt = λ n. let p = none_of_both v.broken m.broken n in q ∙ ap (λ x. Case x (with_last (items_in is) (last_if b))) (read-expr v c h p.0) ∙ ap₂ (λ x y. Case v.expr (with_last x y)) (a.items p.1) last;
        sizes = λ n. let p = none_of_both v.broken m.broken n in
            z ∙ both-true (keeps_sizes c.expr) (all_true (map arm_keeps_sizes is) && true) (read-keeps v c h p.0) (both-true (all_true (map arm_keeps_sizes is)) true (a.sizes p.1) refl);
        alike = subst (λ (x : Stmt). AreAlike x (done l k (switch (subject_of false e) rows)).stmt) (sym q)
            (subst (λ (y : Items). AreAlike (Case (expr_of c.expr) (with_last (items_in is) (last_if b))) (Case v.expr (with_last m.items y))) last
            (alike-last (expr_of c.expr) v.expr (items_in is) m.items h.reads a.alike b (λ y. (and_parts (c.is_sound && sound && constant) f (sym t ∙ y)).1) (λ y. last-holds (is_sound v) m.is_sound m.is_constant g (sym test ∙ y))));
        full = subst IsFull (sym q) (last-full (expr_of c.expr) (items_in is) b a.full (λ y. (and_parts (c.is_sound && sound && constant) f (sym t ∙ y)).1));
      }

  pub done-switch_else : (e : ExprTree) (rows : ArmTrees) (d : StmtTree) (c : Resolved) (is : List FCaseItem) (sound constant : Bool) (x r : FStmt) → IsRead (read l e) c → AreArms (arms l k rows) is sound constant → IsDone (done l k d) x
      → Builds r (Case (expr_of c.expr) (items_of (map arm_of is) (default_item (stmt_of x)))) (keeps_sizes c.expr && (all_true (map arm_keeps_sizes is) && stmt_keeps_sizes x)) → IsDone (done l k (switch_else (subject_of false e) rows d)) r
  done-switch_else e rows d c is sound constant x r h a i b =
      let v = read l e in let m = arms l k rows in let o = (done l k d).broken in
      let q : stmt_of r ≡ Case (expr_of c.expr) (with_last (items_in is) (default_item (stmt_of x))) = b.stmt ∙ ap (Case (expr_of c.expr)) (items-last (map arm_of is) (default_item (stmt_of x))) in record {
        stmt = λ n. let p = none_of_both (v.broken ++ m.broken) o n in let g = none_of_both v.broken m.broken p.0 in
            q ∙ ap (λ y. Case y (with_last (items_in is) (default_item (stmt_of x)))) (read-expr v c h g.0) ∙ ap₂ (λ y z. Case v.expr (with_last y (default_item z))) (a.items g.1) (i.stmt p.1);
        sizes = λ n. let p = none_of_both (v.broken ++ m.broken) o n in let g = none_of_both v.broken m.broken p.0 in
            b.sizes ∙ both-true (keeps_sizes c.expr) (all_true (map arm_keeps_sizes is) && stmt_keeps_sizes x) (read-keeps v c h g.0)
            (both-true (all_true (map arm_keeps_sizes is)) (stmt_keeps_sizes x) (a.sizes g.1) (i.sizes p.1));
        alike = subst (λ (y : Stmt). AreAlike y (done l k (switch_else (subject_of false e) rows d)).stmt) (sym q) (alike-case_with (expr_of c.expr) v.expr (items_in is) m.items (stmt_of x) (done l k d).stmt h.reads a.alike i.alike);
        full = subst IsFull (sym q) (with-full (expr_of c.expr) (items_in is) (stmt_of x) a.full i.full);
      }

-- ---- assignments

module _ (l : Look) (k : Kind) where
  pub done-set : (blocking : Bool) (delay : Option Delay) (t : TargetTree) (e : ExprTree) (a : Aim) (f : Fixed) (v : Resolved) (r : FStmt) → goal l t ≡ fixed a → IsAim a f → IsRead (read l e) v
      → Builds r (Set blocking (target_of f.target) (expr_of v.expr)) (target_keeps_sizes f.target && keeps_sizes v.expr) → IsDone (done l k (set blocking delay t e)) r
  done-set blocking delay t e a f v r g h i b = subst (λ (p : Goal). IsDone (set_done l k blocking t p (read l e)) r) (sym g) (record {
    stmt = λ n. b.stmt ∙ ap₂ (λ p q. Set blocking p q) h.target (read-expr (read l e) v i (value n));
    sizes = λ n. b.sizes ∙ both-true (target_keeps_sizes f.target) (keeps_sizes v.expr) (target-sized-keeps f.target h.sized) (read-keeps (read l e) v i (value n));
    alike = subst (λ (p : Stmt). AreAlike p (Set blocking a.target (read l e).expr)) (sym b.stmt) (alike-set blocking blocking (target_of f.target) a.target (expr_of v.expr) (read l e).expr h.target i.reads);
    full = subst IsFull (sym b.stmt) tt;
  })
    where
      value : (set_done l k blocking t (fixed a) (read l e)).broken ≡ [] → (read l e).broken ≡ []
      value n = (none_of_both a.broken (read l e).broken (none_of_both (a.broken ++ (read l e).broken) _ (none_of_both (a.broken ++ (read l e).broken ++ breaks_if (is_stray k blocking) 313 (first_name t)) _ n).0).0).1

  pub done-word : (delay : Option Delay) (t : TargetTree) (e : ExprTree) (m : Memory) (i : Expr) (bs : List Broken) (v : Resolved) (r : FStmt) → goal l t ≡ a_word m i bs → IsRead (read l e) v
      → stmt_of r ≡ memory_write m i (expr_of v.expr) → (is_sized v.expr ≡ true → stmt_keeps_sizes r ≡ true) → IsDone (done l k (set false delay t e)) r
  done-word delay t e m i bs v r g h b z = subst (λ (p : Goal). IsDone (set_done l k false t p (read l e)) r) (sym g) (record {
    stmt = λ n. b ∙ ap (memory_write m i) (read-expr (read l e) v h (value n));
    sizes = λ n. z (read-sized (read l e) v h (value n));
    alike = subst (λ (p : Stmt). AreAlike p (memory_write m i (read l e).expr)) (sym b) (alike-write m i (expr_of v.expr) (read l e).expr h.reads);
    full = subst IsFull (sym b) (writes-full m i (expr_of v.expr) 0 (2 ^ size i));
  })
    where
      value : (set_done l k false t (a_word m i bs) (read l e)).broken ≡ [] → (read l e).broken ≡ []
      value n = (none_of_both bs (read l e).broken (none_of_both (bs ++ (read l e).broken) _ (none_of_both (bs ++ (read l e).broken ++ breaks_if (is_stray k false) 313 (first_name t)) _ n).0).0).1

  -- a blocking assignment to a word breaks a rule
  pub done-unassigned : (delay : Option Delay) (t : TargetTree) (e : ExprTree) (m : Memory) (i : Expr) (bs : List Broken) (v : Resolved) (r : FStmt) → goal l t ≡ a_word m i bs → IsRead (read l e) v
      → stmt_of r ≡ unassigned i (expr_of v.expr) → IsDone (done l k (set true delay t e)) r
  done-unassigned delay t e m i bs v r g h b = subst (λ (p : Goal). IsDone (set_done l k true t p (read l e)) r) (sym g) (record {
    stmt = λ n. absurd (broken n);
    sizes = λ n. absurd (broken n);
    alike = subst (λ (p : Stmt). AreAlike p (unassigned i (read l e).expr)) (sym b) (alike-unassigned i (expr_of v.expr) (read l e).expr h.reads);
    full = subst IsFull (sym b) tt;
  })
    where
      broken : (set_done l k true t (a_word m i bs) (read l e)).broken ≡ [] → ⊥
      broken n = let p = (none_of_both (bs ++ (read l e).broken ++ breaks_if (is_stray k true) 313 (first_name t)) _ n).1 in absurd (search (rules, p))

-- ---- labels have 64 bits at most

labels-small : (es : List FExpr) → list_all is_sized es ≡ true → largest (exprs_of (map expr_of es)) ≤ 64
labels-small [] h = omega arith
labels-small (e ∷ es) h =
    let p = and_parts (is_sized e) (list_all is_sized es) h in let i = sized_width e p.0 in let j = (sized_range e p.0).most in let k = labels-small es p.1 in
    at-most (size (expr_of e)) (largest (exprs_of (map expr_of es))) (subst (λ n. n ≤ 64) i j) k
  where
    at-most : (m n : ℕ) → m ≤ 64 → n ≤ 64 → max m n ≤ 64
    at-most m n a b = omega (arith, a, b)

pub largest-small : (is : List FCaseItem) → are_labels_sized is ≡ true → largest_label (items_in is) ≤ 64
largest-small [] h = omega arith
largest-small (i ∷ is) h =
    let p = and_parts (list_all is_sized i.labels) (are_labels_sized is) h in
    at-most (largest (arm_of i).labels) (largest_label (items_in is)) (subst (λ es. largest es ≤ 64) (sym (arm-labels i)) (labels-small i.labels p.0)) (largest-small is p.1)
  where
    at-most : (m n : ℕ) → m ≤ 64 → n ≤ 64 → max m n ≤ 64
    at-most m n a b = omega (arith, a, b)

-- what is compared is as wide as a word at most
pub case-small : (e : FExpr) (is : List FCaseItem) → is_sized e ≡ true → are_labels_sized is ≡ true → (case_size (expr_of e) (items_in is) ≤ 64) × (largest_label (items_in is) ≤ case_size (expr_of e) (items_in is))
case-small e is h k = both-at (size (expr_of e)) (largest_label (items_in is)) (subst (λ n. n ≤ 64) (sized_width e h) (sized_range e h).most) (largest-small is k)
  where
    both-at : (m n : ℕ) → m ≤ 64 → n ≤ 64 → (max m n ≤ 64) × (n ≤ max m n)
    both-at m n a b = ((let x : max m n ≤ 64 = omega (arith, a, b) in x), (let y : n ≤ max m n = omega arith in y))
