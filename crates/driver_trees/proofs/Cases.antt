-- Cases, executed: the parts of one, what its items make one after another, and the condition of an item.
use Rattle.std.proofs.Common.{◌≡◌, ℕ, ◌≤◌, max, Bool, true, false, cond, not, ◌&&◌, ◌||◌, List, [], ◌∷◌, ◌++◌, map, All, Option, Some, None, is_some, Box, Global, refl, sym, ap, ap₂, subst, ◌∙◌, arith}
use Rattle.std.specs.List.{list_all}
use Rattle.std.specs.BTreeMap.{BTreeMap, IsEmpty}
use Rattle.std.proofs.lemmas.Bool.{and_parts}
use Rattle.std.proofs.lemmas.List.Elements.{All-nil, All-cons, All-head, All-tail}
use Rattle.cell_graph.specs.declared.cell.CellId.{CellId}
use Rattle.cell_graph.specs.Tree.{Tree, Eq, Or, Mux}
use Rattle.flat_form.specs.declared.flat.FExpr.{FExpr}
use Rattle.flat_form.specs.declared.flat.FStmt.{FStmt}
use Rattle.flat_form.specs.declared.flat.FStmt.TheVariants as v
use Rattle.flat_form.specs.declared.flat.FCaseItem.{FCaseItem}
use Rattle.flat_form.specs.declared.flat.FStmt.TheOpen.{FCaseItem-F}
use Rattle.flat_form.specs.declared.flat.FStmt.TheFolds.{fold-roll-FCaseItem}
use Rattle.flat_form.specs.View as view
use Rattle.flat_form.specs.View.{stmt_of, expr_of, Arm, arm_of, items_of}
use Rattle.flat_form.specs.Sizes as sizes
use Rattle.flat_form.specs.Sizes.{is_stmt_sized, is_arm_sized, is_some_list, list_true, is_sized, kept_of, all_right, are_labels_sized}
use Rattle.flat_form.proofs.Labels.{arm-labels}
use Rattle.flat_form.proofs.StmtFolds.{stmt_of-Case, stmt_sized-Case, stmt_of-Case_alone, stmt_sized-Case_alone}
use Rattle.flat_meaning.specs.Assigned.{Done, FitsStmt, FitItems}
use Rattle.flat_meaning.specs.Fits.{AllFit}
use Rattle.flat_meaning.specs.Flat.{Expr, Stmt, Items, no_items, default_item, item, Case, size, largest, largest_label, case_size, assigns, case_assigns}
use Rattle.flat_meaning.specs.Full.{is_full}
use Rattle.flat_meaning.specs.Trees.{Selects, Trees, tree, merge, label_tree, any_label, after, after_case}
use Rattle.driver_trees.specs.declared.draft.Draft.{Draft}
use Rattle.driver_trees.specs.declared.present.Present.{Present}
use Rattle.driver_trees.specs.Drafts.{tree_in, IsDraftOf}
use Rattle.driver_trees.specs.Growth.{IsLonger, Grows, IsBuilt}
use Rattle.driver_trees.specs.Presents.{IsWithin, IsRead, AreRead}
use Rattle.driver_trees.specs.Changes.{IsSame, IsProcess, IsBranch, look_of}
use Rattle.driver_trees.specs.Statements.{IsStmtRead, IsItemRead, IsCaseRead, case_of, default_of, IsWord, tried, IsDefault, IsRest, IsNoneOrEmpty}
use denote.Param.Weighed.{most}
use Rattle.driver_trees.proofs.Parts.{views}
use Rattle.driver_trees.proofs.Forms.{first-read, size-range}
use Rattle.driver_trees.proofs.Growing.{place-kept, tree-kept, still-grows}
use Rattle.driver_trees.proofs.Merges.{word_same}
use Rattle.driver_trees.proofs.Stays.{branch_grows}
use Rattle.driver_trees.proofs.Statements.{branch_kept, no_branch}

-- ---- the parts of a case

pub first_true : (a b : Bool) → a ≡ true → (a || b) ≡ true
first_true true b h = refl
first_true false b h = cc

pub last_true : (a b : Bool) → b ≡ true → (a || b) ≡ true
last_true true b h = refl
last_true false b h = h

abbrev layer : FCaseItem → FCaseItem-F FStmt FCaseItem
layer i = record { labels = i.labels; body = i.body }

abbrev body_in : FCaseItem → FStmt
body_in i = i.body

abbrev labels_in : FCaseItem → List FExpr
labels_in i = i.labels

arm-body : (i : FCaseItem) → (arm_of i).body ≡ stmt_of (body_in i)
arm-body i = ap (λ (a : Arm). a.body) (fold-roll-FCaseItem Stmt Arm view.stmt_step view.arm_step (layer i))

arm-sized : (wid : ℕ → ℕ) (i : FCaseItem) → is_arm_sized wid i ≡ (is_some_list (labels_in i) && (list_all is_sized (labels_in i) && is_stmt_sized wid (body_in i)))
arm-sized wid i = fold-roll-FCaseItem Bool Bool (sizes.stmt_step wid) (sizes.arm_step wid) (layer i)

all-sized : (es : List FExpr) → list_all is_sized es ≡ true → all_right (map kept_of es) ≡ true
all-sized [] h = refl
all-sized (e ∷ es) h = let p = and_parts (is_sized e) (list_all is_sized es) h in ap₂ (λ a b. a && b) p.0 (all-sized es p.1)

labels-small : (wid : ℕ → ℕ) (es : List FExpr) → AreRead wid es → largest (views es) ≤ 64
labels-small wid [] h = omega arith
labels-small wid (e ∷ es) h = let p = first-read wid e es h in let a = (size-range wid e p.0).most in let b = labels-small wid es p.1 in omega arith

module _ (wid : ℕ → ℕ) (target : ℕ → Bool) where
  -- a default has no label
  pub default-small : (default : Option (Box FStmt Global)) → largest_label (default_of default) ≤ 64
  default-small None = omega arith
  default-small (Some s) = omega arith

  items-small : (behind : Items) → largest_label behind ≤ 64 → (w : ℕ) (is : List FCaseItem) → All (IsItemRead wid target w) is → largest_label (items_of (map arm_of is) behind) ≤ 64
  items-small behind l w [] h = l
  items-small behind l w (i ∷ is) h =
      let a = labels-small wid (labels_in i) (All-head (IsItemRead wid target w) i is h).labels in
      let b = items-small behind l w is (All-tail (IsItemRead wid target w) i is h) in
      let e = ap largest (arm-labels i) in
      omega arith

  record AreItemsRead (behind : Items) (done : Done) (w : ℕ) (is : List FCaseItem) : Type 0 where
    pub items : All (IsItemRead wid target w) is
    pub sized : are_labels_sized is ≡ true
    pub fits : FitItems wid (λ d. IsWithin wid) done behind
    pub targets : (x : ℕ) → case_assigns behind x ≡ true → target x ≡ true

  items-read : (behind : Items) (done : Done) (w : ℕ) (is : List FCaseItem) → list_true wid (map (is_arm_sized wid) is) ≡ true → FitItems wid (λ d. IsWithin wid) done (items_of (map arm_of is) behind)
      → largest_label (items_of (map arm_of is) behind) ≤ w → ((x : ℕ) → case_assigns (items_of (map arm_of is) behind) x ≡ true → target x ≡ true) → AreItemsRead behind done w is
  items-read behind done w [] sized fits room targets = record { items = All-nil (IsItemRead wid target w); sized = refl; fits = fits; targets = targets }
  items-read behind done w (i ∷ is) sized fits room targets =
      let p = and_parts (is_arm_sized wid i) (list_true wid (map (is_arm_sized wid) is)) sized in
      let q = and_parts (is_some_list (labels_in i)) (list_all is_sized (labels_in i) && is_stmt_sized wid (body_in i)) (sym (arm-sized wid i) ∙ p.0) in
      let r = and_parts (list_all is_sized (labels_in i)) (is_stmt_sized wid (body_in i)) q.1 in
      let e = ap largest (arm-labels i) in
      let one : IsItemRead wid target w i = record {
        labels = record { sized = all-sized (labels_in i) r.0; fits = subst (AllFit wid (IsWithin wid)) (arm-labels i) fits.0 };
        room = omega arith;
        body = record { sized = r.1; done = done; fits = subst (FitsStmt wid (λ d. IsWithin wid) done) (arm-body i) fits.1 };
        targets = λ x h. targets x (first_true (assigns (arm_of i).body x) (case_assigns (items_of (map arm_of is) behind) x) (ap (λ s. assigns s x) (arm-body i) ∙ h));
      } in
      let more = items-read behind done w is p.1 fits.2 (omega arith) (λ x h. targets x (last_true (assigns (arm_of i).body x) (case_assigns (items_of (map arm_of is) behind) x) h)) in
      record { items = All-cons (IsItemRead wid target w) i is one more.items; sized = ap₂ (λ a b. a && b) r.0 more.sized; fits = more.fits; targets = more.targets }

  pub case-read : (s : FStmt) → IsStmtRead wid s → (e : FExpr) (is : List FCaseItem) (default : Option (Box FStmt Global)) → s ≡ v.Case e is default
      → ((x : ℕ) → assigns (stmt_of s) x ≡ true → target x ≡ true) → (stmt_of s ≡ Case (expr_of e) (case_of is default)) × IsCaseRead wid target e is default
  case-read s h e is None at targets =
      let same = ap stmt_of at ∙ stmt_of-Case_alone e is in
      let W = case_size (expr_of e) (case_of is None) in
      let p = and_parts (is_sized e) (list_true wid (map (is_arm_sized wid) is) && true) (sym (ap (is_stmt_sized wid) at ∙ stmt_sized-Case_alone wid e is) ∙ h.sized) in
      let q = and_parts (list_true wid (map (is_arm_sized wid) is)) true p.1 in
      let fits = subst (FitsStmt wid (λ d. IsWithin wid) h.done) same h.fits in
      let subject : IsRead wid e = record { sized = p.0; fits = fits.0 } in
      let all = items-read no_items h.done W is q.0 fits.1 (omega arith) (λ x k. targets x (ap (λ z. assigns z x) same ∙ k)) in
      let a = (size-range wid e subject).most in let b = items-small no_items (omega arith) W is all.items in
      (same, record { subject = subject; sized = all.sized; items = all.items; default = tt; targets = λ x k. absurd (let f : false ≡ true → ⊥ = λ z. cc in f k); most = omega arith })
  case-read s h e is (Some y) at targets =
      let same = ap stmt_of at ∙ stmt_of-Case e is y in
      let W = case_size (expr_of e) (case_of is (Some y)) in
      let p = and_parts (is_sized e) (list_true wid (map (is_arm_sized wid) is) && is_stmt_sized wid y.value) (sym (ap (is_stmt_sized wid) at ∙ stmt_sized-Case wid e is y) ∙ h.sized) in
      let q = and_parts (list_true wid (map (is_arm_sized wid) is)) (is_stmt_sized wid y.value) p.1 in
      let fits = subst (FitsStmt wid (λ d. IsWithin wid) h.done) same h.fits in
      let subject : IsRead wid e = record { sized = p.0; fits = fits.0 } in
      let all = items-read (default_item (stmt_of y.value)) h.done W is q.0 fits.1 (omega arith) (λ x k. targets x (ap (λ z. assigns z x) same ∙ k)) in
      let a = (size-range wid e subject).most in let b = items-small (default_item (stmt_of y.value)) (omega arith) W is all.items in
      (same, record { subject = subject; sized = all.sized; items = all.items; default = record { sized = q.1; done = h.done; fits = all.fits }; targets = all.targets; most = omega arith })

-- the size of a case is the same without its default
pub size-default : (e : FExpr) (is : List FCaseItem) (default : Option (Box FStmt Global)) → case_size (expr_of e) (items_of (map arm_of is) no_items) ≡ case_size (expr_of e) (case_of is default)
size-default e is None = refl
size-default e is (Some s) = ap (max (size (expr_of e))) (go (map arm_of is))
  where
    go : (arms : List Arm) → largest_label (items_of arms no_items) ≡ largest_label (items_of arms (default_item (stmt_of s.value)))
    go [] = refl
    go (a ∷ arms) = ap (max (largest a.labels)) (go arms)

-- ---- branches

pub same_self : (p : Present) → IsSame p p
same_self p = record { present = λ x. refl; log = refl; widths = refl; blocking = refl }

pub branch_same : (wid : ℕ → ℕ) (ds : List Draft) (p : Present) (changes : BTreeMap ℕ CellId) (a b : ℕ → Bool) (ts us : Selects → Trees) → IsBranch wid ds p changes a ts
    → ((x : ℕ) → a x ≡ b x) → ((sel : Selects) (x : ℕ) → ts sel x ≡ us sel x) → IsBranch wid ds p changes b us
branch_same wid ds p changes a b ts us h e f = record { keys = λ x. h.keys x ∙ e x; targets = λ x k. h.targets x (e x ∙ k); leaves = λ x id k. word_same wid ds id x ts us (h.leaves x id k) (λ sel. f sel x) }

cond_same : {A : Type 0} (b : Bool) (x : A) → cond b x x ≡ x
cond_same true x = refl
cond_same false x = refl

cond_twice : {A : Type 0} (b : Bool) (x y z : A) → cond b x (cond b y z) ≡ cond b x z
cond_twice true x y z = refl
cond_twice false x y z = refl

or_same : (b : Bool) → (b || b) ≡ (b || false)
or_same true = refl
or_same false = refl

module _ (wid : ℕ → ℕ) (target : ℕ → Bool) (full : Bool) (w : ℕ) (t : Selects → Tree) (ts : Selects → Trees) where
  -- what stands behind stays as drafts grow
  pub rest_kept : (ds es : List Draft) (p q : Present) (is : Items) (rest : Option (BTreeMap ℕ CellId)) → IsRest wid ds p target full w t ts is rest → Grows wid ds es → IsSame p q → IsRest wid es q target full w t ts is rest
  rest_kept ds es p q is None h g s = h
  rest_kept ds es p q is (Some c) h g s = λ o.
      branch_same wid es q c (case_assigns is) (case_assigns is) (tried wid p.blocking target full w t o ts is) (tried wid q.blocking target full w t o ts is)
      (branch_kept wid es p q c (case_assigns is) (tried wid p.blocking target full w t o ts is) (branch_grows wid ds es g p c (case_assigns is) (tried wid p.blocking target full w t o ts is) (h o)) s)
      (λ x. refl) (λ sel x. ap (λ b. tried wid b target full w t o ts is sel x) (sym s.blocking))

  -- nothing stands behind the items of a case without a default
  pub no_rest : (ds : List Draft) (p : Present) (rest : Option (BTreeMap ℕ CellId)) → IsProcess wid ds p target ts → is_some rest ≡ not full → IsNoneOrEmpty rest → IsRest wid ds p target full w t ts no_items rest
  no_rest ds p None h e f = (not_true full e, refl)
    where
      not_true : (b : Bool) → false ≡ not b → b ≡ true
      not_true true e = refl
      not_true false e = cc
  no_rest ds p (Some c) h e f = λ o.
      branch_same wid ds p c (λ x. false) (λ x. false) ts (λ sel. cond full (o sel) (ts sel)) (no_branch wid ds p target ts c h f) (λ x. refl) (λ sel x. ap (λ b. cond b (o sel) (ts sel) x) (sym (not_false full e)))
    where
      not_false : (b : Bool) → true ≡ not b → b ≡ false
      not_false true e = cc
      not_false false e = refl

  -- all items have been tried
  pub last_rest : (ds : List Draft) (p : Present) (is : Items) (c : BTreeMap ℕ CellId) → IsRest wid ds p target full w t ts is (Some c) → IsBranch wid ds p c (case_assigns is) (tried wid p.blocking target full w t ts ts is)
  last_rest ds p is c h = h ts

  pub empty_rest : (ds : List Draft) (p : Present) (is : Items) (c : BTreeMap ℕ CellId) → IsProcess wid ds p target ts → IsRest wid ds p target full w t ts is None → IsEmpty c
      → IsBranch wid ds p c (case_assigns is) (tried wid p.blocking target full w t ts ts is)
  empty_rest ds p is c process h e =
      branch_same wid ds p c (λ x. false) (case_assigns is) ts (tried wid p.blocking target full w t ts ts is) (no_branch wid ds p target ts c process e)
      (λ x. sym (ap (λ z. case_assigns z x) h.1))
      (λ sel x. sym (ap (λ z. tried wid p.blocking target full w t ts ts z sel x) h.1 ∙ ap (λ f. f x) (cond_same full (ts sel))))

  module _ (ds : List Draft) (p : Present) (i : FCaseItem) (is : Items) (c : BTreeMap ℕ CellId) where
    abbrev looking : Selects → Trees → Selects
    looking sel = look_of wid p.blocking target sel

    abbrev pub met : Selects → Tree
    met sel = label_tree wid (looking sel (ts sel)) w (t sel) (views (labels_in i))

    abbrev pub bodied : Selects → Trees
    bodied sel = after wid (looking sel) (stmt_of (body_in i)) (ts sel)

    as_item : (b : ℕ → Bool) (us : Selects → Trees) → IsBranch wid ds p c b us → ((x : ℕ) → b x ≡ (assigns (stmt_of (body_in i)) x || case_assigns is x))
        → ((o : Selects → Trees) (sel : Selects) (x : ℕ) → us sel x ≡ merge (λ z. assigns (stmt_of (body_in i)) z || case_assigns is z) (met sel) (bodied sel)
        (after_case wid (looking sel) full w (t sel) (cond full (bodied sel) (cond full (o sel) (ts sel))) is (ts sel)) (ts sel) x)
        → IsRest wid ds p target full w t ts (items_of (arm_of i ∷ []) is) (Some c)
    as_item b us h e f = λ o.
        branch_same wid ds p c b (case_assigns (item (arm_of i).labels (arm_of i).body is)) us (tried wid p.blocking target full w t o ts (item (arm_of i).labels (arm_of i).body is)) h
        (λ x. e x ∙ ap (λ s. assigns s x || case_assigns is x) (sym (arm-body i)))
        (λ sel x. f o sel x
        ∙ ap₂ (λ ls s. after_case wid (looking sel) full w (t sel) (cond full (o sel) (ts sel)) (item ls s is) (ts sel) x) (sym (arm-labels i)) (sym (arm-body i)))

    -- an item before others
    pub item_before : IsBranch wid ds p c (λ x. assigns (stmt_of (body_in i)) x || case_assigns is x)
        (λ sel. merge (λ x. assigns (stmt_of (body_in i)) x || case_assigns is x) (met sel) (bodied sel) (tried wid p.blocking target full w t bodied ts is sel) (ts sel))
        → IsRest wid ds p target full w t ts (items_of (arm_of i ∷ []) is) (Some c)
    item_before h = as_item (λ x. assigns (stmt_of (body_in i)) x || case_assigns is x)
        (λ sel. merge (λ x. assigns (stmt_of (body_in i)) x || case_assigns is x) (met sel) (bodied sel) (tried wid p.blocking target full w t bodied ts is sel) (ts sel)) h (λ x. refl)
        (λ o sel x. ap (λ u. merge (λ z. assigns (stmt_of (body_in i)) z || case_assigns is z) (met sel) (bodied sel) (after_case wid (looking sel) full w (t sel) u is (ts sel)) (ts sel) x)
        (sym (cond_twice full (bodied sel) (o sel) (ts sel))))

    -- the last item of a full case
    pub last_item : (full ≡ true) × (is ≡ no_items) → IsBranch wid ds p c (λ x. assigns (stmt_of (body_in i)) x || assigns (stmt_of (body_in i)) x)
        (λ sel. merge (λ x. assigns (stmt_of (body_in i)) x || assigns (stmt_of (body_in i)) x) (met sel) (bodied sel) (bodied sel) (ts sel))
        → IsRest wid ds p target full w t ts (items_of (arm_of i ∷ []) is) (Some c)
    last_item h k = as_item (λ x. assigns (stmt_of (body_in i)) x || assigns (stmt_of (body_in i)) x)
        (λ sel. merge (λ x. assigns (stmt_of (body_in i)) x || assigns (stmt_of (body_in i)) x) (met sel) (bodied sel) (bodied sel) (ts sel)) k
        (λ x. or_same (assigns (stmt_of (body_in i)) x) ∙ ap (λ z. assigns (stmt_of (body_in i)) x || case_assigns z x) (sym h.1))
        (λ o sel x. ap (λ b. cond b (Mux (met sel) (bodied sel x) (bodied sel x)) (ts sel x)) (or_same (assigns (stmt_of (body_in i)) x))
        ∙ sym (ap₂ (λ b z. merge (λ y. assigns (stmt_of (body_in i)) y || case_assigns z y) (met sel) (bodied sel) (after_case wid (looking sel) b w (t sel) (cond b (bodied sel) (cond b (o sel) (ts sel))) z (ts sel)) (ts sel) x) h.0 h.1))

-- the case is done: what was tried in it, at its own size
pub case_done : (wid : ℕ → ℕ) (target : ℕ → Bool) (ds : List Draft) (p q r : Present) (ts : Selects → Trees) (e : Expr) (is : Items) (n : ℕ) (c : BTreeMap ℕ CellId) → n ≡ case_size e is → IsSame p q
    → IsBranch wid ds r c (case_assigns is) (tried wid q.blocking target (is_full n is) n (λ sel. tree wid (look_of wid p.blocking target sel (ts sel)) e n) ts ts is)
    → IsBranch wid ds r c (case_assigns is) (λ sel. after wid (look_of wid p.blocking target sel) (Case e is) (ts sel))
case_done wid target ds p q r ts e is n c size s h =
    branch_same wid ds r c (case_assigns is) (case_assigns is) (tried wid q.blocking target (is_full n is) n (λ sel. tree wid (look_of wid p.blocking target sel (ts sel)) e n) ts ts is)
    (λ sel. after wid (look_of wid p.blocking target sel) (Case e is) (ts sel)) h (λ x. refl)
    (λ sel x. ap₂ (λ b m. tried wid b target (is_full m is) m (λ sel. tree wid (look_of wid p.blocking target sel (ts sel)) e m) ts ts is sel x) s.blocking size
    ∙ ap (λ f. after_case wid (look_of wid p.blocking target sel) (is_full (case_size e is) is) (case_size e is) (tree wid (look_of wid p.blocking target sel (ts sel)) e (case_size e is)) f is (ts sel) x)
    (cond_same (is_full (case_size e is) is) (ts sel)))

-- what stands behind all items
module _ (wid : ℕ → ℕ) (target : ℕ → Bool) (n : ℕ) (t : Selects → Tree) (ts : Selects → Trees) (ds es : List Draft) (p : Present) (is : List FCaseItem) where
  pub case_rest : (default : Option (Box FStmt Global)) (last rest : Option (BTreeMap ℕ CellId)) → IsProcess wid es p target ts → Grows wid ds es → IsDefault wid ds p target ts default last
      → (is_some last ≡ true → rest ≡ last) → (is_some last ≡ false → largest_label (case_of is None) ≤ n → (is_some rest ≡ not (is_full n (case_of is None))) × IsNoneOrEmpty rest)
      → largest_label (case_of is default) ≤ n → IsRest wid es p target (is_full n (case_of is default)) n t ts (default_of default) rest
  case_rest None None rest process g h some full room = let k = full refl room in no_rest wid target (is_full n (case_of is None)) n t ts es p rest process k.0 k.1
  case_rest None (Some c) rest process g h some full room = absurd h
  case_rest (Some s) None rest process g h some full room = absurd h
  case_rest (Some s) (Some c) rest process g h some full room =
      let body = branch_grows wid ds es g p c (assigns (stmt_of s.value)) (λ sel. after wid (look_of wid p.blocking target sel) (stmt_of s.value) (ts sel)) h in
      subst (IsRest wid es p target (is_full n (case_of is (Some s))) n t ts (default_item (stmt_of s.value))) (sym (some refl)) (λ o. body)

-- ---- conditions

pub word_later : (ds es : List Draft) (id : CellId) (w : ℕ) (t : Selects → Tree) → IsLonger ds es → IsWord ds id w t → IsWord es id w t
word_later ds es id w t l h = record { place = place-kept ds es id w l h.place; tree = λ sel. tree-kept sel ds es l id h.place.0 ∙ h.tree sel }

-- the labels so far make the condition, and the others are left
pub record IsCompared (wid : ℕ → ℕ) (look : Selects → Selects) (old ds : List Draft) (w : ℕ) (t : Selects → Tree) (labels rest : List FExpr) (any : CellId) : Type 0 where
  pub grows : Grows wid old ds
  pub read : AreRead wid rest
  pub room : largest (views rest) ≤ w
  pub place : IsDraftOf ds any 1
  pub tree : (sel : Selects) → label_tree wid (look sel) w (t sel) (views labels) ≡ any_label wid (look sel) w (t sel) (tree_in sel ds any) (views rest)

module _ (wid : ℕ → ℕ) (look : Selects → Selects) (old : List Draft) (w : ℕ) (t : Selects → Tree) (labels : List FExpr) where
  pub first-label : (ds : List Draft) (x : FExpr) (others : List FExpr) (any : CellId) → labels ≡ x ∷ others → AreRead wid others → largest (views others) ≤ w
      → IsBuilt wid old ds any 1 (λ sel. Eq (t sel) (tree wid (look sel) (expr_of x) w)) → IsCompared wid look old ds w t labels others any
  first-label ds x others any e is l b = record {
    grows = b.grows;
    read = is;
    room = l;
    place = b.place;
    tree = λ sel. ap (λ r. label_tree wid (look sel) w (t sel) (views r)) e ∙ ap (λ u. any_label wid (look sel) w (t sel) u (views others)) (sym (b.tree sel));
  }

  pub next-label : (ds mid new : List Draft) (x : FExpr) (rest more : List FExpr) (any equal out : CellId) → IsCompared wid look old ds w t labels rest any → rest ≡ x ∷ more
      → IsBuilt wid ds mid equal 1 (λ sel. Eq (t sel) (tree wid (look sel) (expr_of x) w)) → IsBuilt wid mid new out 1 (λ sel. Or (tree_in sel mid any) (tree_in sel mid equal))
      → IsCompared wid look old new w t labels more out
  next-label ds mid new x rest more any equal out so_far e one b = record {
    grows = still-grows wid old ds new so_far.grows (still-grows wid ds mid new one.grows b.grows);
    read = (first-read wid x more (subst (AreRead wid) e so_far.read)).1;
    room = let l = subst (λ r. largest (views r) ≤ w) e so_far.room in omega arith;
    place = b.place;
    tree = λ sel. so_far.tree sel ∙ ap (λ r. any_label wid (look sel) w (t sel) (tree_in sel ds any) (views r)) e
        ∙ ap (λ u. any_label wid (look sel) w (t sel) u (views more)) (sym (b.tree sel ∙ ap₂ Or (tree-kept sel ds mid one.grows.longer any so_far.place.0) (one.tree sel)));
  }

-- ---- lists

pub middle : {A : Type 0} (P : A → Type 0) (xs : List A) (y : A) (ys : List A) → All P (xs ++ y ∷ ys) → P y
middle P [] y ys h = All-head P y ys h
middle P (x ∷ xs) y ys h = middle P xs y ys (All-tail P x (xs ++ y ∷ ys) h)

pub at_middle : {A : Type 0} (size : A → ℕ) (xs : List A) (y : A) (ys : List A) → size y ≤ most size (xs ++ y ∷ ys)
at_middle size [] y ys = omega arith
at_middle size (x ∷ xs) y ys = let h = at_middle size xs y ys in omega arith
