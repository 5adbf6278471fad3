-- Statements, executed: what is taken back, and what branches make.
use Rattle.std.proofs.Common.{◌≡◌, ℕ, Bool, true, false, cond, ◌&&◌, List, [], ◌∷◌, ◌++◌, take, drop, length, map, Option, Some, None, is_some, unwrap_or, option_map, slice_get, Box, Global, Result, Ok, Err, IfOk, OnOk, refl, sym, ap, ap₂, subst, ◌∙◌}
use Rattle.std.proofs.lemmas.Bool.{and_parts}
use Rattle.std.specs.Option.{option_or}
use Rattle.std.specs.Ordering.{nat_cmp}
use Rattle.std.specs.BTreeMap.{BTreeMap, get, IsEmpty, is_at}
use Rattle.std.specs.Map.{lookup}
use Rattle.cell_graph.specs.declared.cell.CellId.{CellId}
use Rattle.flat_form.specs.declared.flat.FExpr.{FExpr}
use Rattle.flat_form.specs.declared.flat.FTarget.{FTarget}
use Rattle.flat_form.specs.declared.flat.FStmt.{FStmt}
use Rattle.flat_form.specs.declared.flat.FStmt.TheVariants as v
use Rattle.flat_form.specs.View.{stmt_of, stmts_of, expr_of}
use Rattle.flat_form.specs.Sizes.{is_stmt_sized, list_true, target_kept, is_sized}
use Rattle.flat_form.proofs.StmtFolds.{stmt_of-Set, stmt_sized-Set, stmt_of-If, stmt_sized-If, stmt_of-If_alone, stmt_sized-If_alone, stmt_of-Block, stmt_sized-Block}
use Rattle.flat_meaning.specs.Assigned.{FitsStmt, FitStmts}
use Rattle.flat_meaning.specs.Flat.{If}
use Rattle.flat_meaning.specs.Trees.{Selects, Trees}
use Rattle.driver_trees.specs.declared.draft.Draft.{Draft}
use Rattle.driver_trees.specs.declared.present.Present.{Present}
use Rattle.driver_trees.specs.Growth.{Grows}
use Rattle.driver_trees.specs.Presents.{present_of, IsWithin, IsRead}
use Rattle.driver_trees.specs.Changes.{first_of, IsSame, Assigns, IsProcess, IsBranch}
use Rattle.driver_trees.specs.Shares.{IsPlaced}
use Rattle.driver_trees.specs.Statements.{IsStmtRead, IsOtherRead, RunsTo, other_of}
use Rattle.driver_trees.proofs.Steps.{assigns_same}
use Rattle.driver_trees.proofs.Stays.{word_grows}
use Rattle.driver_trees.proofs.Processes.{process_same}

pub ok_all : {A E : Type 0} {P R : A → Type 0} {Q L : Type 0} (r : Result A E) → IfOk r P → OnOk r Q → OnOk r L → ((x : A) → P x → Q → L → R x) → IfOk r R
ok_all (Ok x) p q l f = f x p q l
ok_all (Err e) p q l f = p

pub ok_two : {A E : Type 0} {P Q R : Type 0} (r : Result A E) → OnOk r P → OnOk r Q → (P → Q → R) → OnOk r R
ok_two (Ok x) p q f = f p q
ok_two (Err e) p q f = p

pub drop_length : {A : Type 0} (xs ys : List A) → drop (length xs) (xs ++ ys) ≡ ys
drop_length [] ys = refl
drop_length (x ∷ xs) ys = drop_length xs ys

pub take_length : {A : Type 0} (xs ys : List A) → take (length xs) (xs ++ ys) ≡ xs
take_length [] ys = refl
take_length (x ∷ xs) ys = ap (λ zs. x ∷ zs) (take_length xs ys)

pub runs_as : (wid : ℕ → ℕ) (ds es : List Draft) (p q : Present) (target a b : ℕ → Bool) (us vs : Selects → Trees) → RunsTo wid ds es p q target a us → ((x : ℕ) → a x ≡ b x) → ((sel : Selects) (x : ℕ) → us sel x ≡ vs sel x)
    → RunsTo wid ds es p q target b vs
runs_as wid ds es p q target a b us vs h e f = record { grows = h.grows; assigns = assigns_same p q a b h.assigns e; process = process_same wid es q target us vs h.process f }

pub same_next : (p q r : Present) → IsSame p q → IsSame q r → IsSame p r
same_next p q r h k = record { present = λ x. k.present x ∙ h.present x; log = k.log ∙ h.log; widths = k.widths ∙ h.widths; blocking = k.blocking ∙ h.blocking }

pub process_kept : (wid : ℕ → ℕ) (ds es : List Draft) (p q : Present) (target : ℕ → Bool) (ts : Selects → Trees) → IsProcess wid ds p target ts → Grows wid ds es → IsSame p q → IsProcess wid es q target ts
process_kept wid ds es p q target ts h g s = record {
  words = h.words;
  drafts = g.drafts;
  widths = λ x. ap (λ ws. unwrap_or (slice_get ws x) 0) s.widths ∙ h.widths x;
  targets = λ x. ap is_some (s.present x) ∙ h.targets x;
  trees = λ x id e. word_grows wid ds es g id x ts (h.trees x id (sym (s.present x) ∙ e));
}

pub branch_kept : (wid : ℕ → ℕ) (ds : List Draft) (p q : Present) (changes : BTreeMap ℕ CellId) (a : ℕ → Bool) (ts : Selects → Trees) → IsBranch wid ds p changes a ts → IsSame p q → IsBranch wid ds q changes a ts
branch_kept wid ds p q changes a ts h s = record { keys = h.keys; targets = λ x e. ap is_some (s.present x) ∙ h.targets x e; leaves = λ x id e. h.leaves x id (ap (option_or (get nat_cmp changes x)) (sym (s.present x)) ∙ e) }

back_none : (o : Option CellId) → option_map (unwrap_or None) o ≡ o
back_none None = refl
back_none (Some i) = refl

-- one signal: f is what the log has of it, o its last draft
back_one : (f o p : Option CellId) → p ≡ option_or f o → is_some o ≡ is_some p → option_map (unwrap_or f) o ≡ p
back_one None o p e h = back_none o ∙ sym e
back_one (Some b) None p e h = absurd (never_some (h ∙ ap is_some e))
  where
    never_some : false ≡ true → ⊥
    never_some h = cc
back_one (Some b) (Some i) p e h = sym e

key_one : (f o : Option CellId) (a : Bool) → is_some f ≡ a → (a ≡ true → is_some o ≡ true) → is_some (cond (is_some f) o None) ≡ a
key_one None o a e h = e
key_one (Some b) o a e h = h (sym e) ∙ e

leaves_one : (f o : Option CellId) (id : CellId) → option_or (cond (is_some f) o None) (option_map (unwrap_or f) o) ≡ Some id → o ≡ Some id
leaves_one None o id e = sym (back_none o) ∙ e
leaves_one (Some b) None id e = e
leaves_one (Some b) (Some i) id e = e

-- what is taken back is a branch
module _ (wid : ℕ → ℕ) (ds es : List Draft) (p q r : Present) (target assigned : ℕ → Bool) (ts us : Selects → Trees) (changes : BTreeMap ℕ CellId) (mark : ℕ) where
  pub taken_back : IsProcess wid ds p target ts → RunsTo wid ds es p q target assigned us → ((x : ℕ) → assigned x ≡ true → target x ≡ true) → mark ≡ length p.log.items
      → ((x : ℕ) → get nat_cmp changes x ≡ cond (is_some (first_of (drop mark q.log.items) x)) (present_of q x) None)
      → ((x : ℕ) → present_of r x ≡ option_map (unwrap_or (first_of (drop mark q.log.items) x)) (present_of q x))
      → r.log.items ≡ take mark q.log.items → r.widths.items ≡ q.widths.items → r.blocking ≡ q.blocking
      → IsSame p r × IsBranch wid es r changes assigned us
  taken_back process runs targets at gets presents log widths blocking =
      let entries = runs.assigns.entries in
      let rest : drop mark q.log.items ≡ entries = ap₂ (λ n l. drop n l) at runs.assigns.log ∙ drop_length p.log.items entries in
      let got : (x : ℕ) → get nat_cmp changes x ≡ cond (is_some (first_of entries x)) (present_of q x) None = λ x. gets x ∙ ap (λ l. cond (is_some (first_of l x)) (present_of q x) None) rest in
      let now : (x : ℕ) → present_of r x ≡ option_map (unwrap_or (first_of entries x)) (present_of q x) = λ x. presents x ∙ ap (λ l. option_map (unwrap_or (first_of l x)) (present_of q x)) rest in
      let same : (x : ℕ) → present_of r x ≡ present_of p x = λ x. now x ∙ back_one (first_of entries x) (present_of q x) (present_of p x) (runs.assigns.back x) (runs.assigns.targets x) in (
        record { present = same; log = log ∙ ap₂ (λ n l. take n l) at runs.assigns.log ∙ take_length p.log.items entries; widths = widths ∙ runs.assigns.widths; blocking = blocking ∙ runs.assigns.blocking },
        record {
          keys = λ x. ap is_some (got x) ∙ key_one (first_of entries x) (present_of q x) (assigned x) (runs.assigns.logged x) (λ e. runs.process.targets x ∙ targets x e);
          targets = λ x e. ap is_some (same x) ∙ process.targets x ∙ targets x e;
          leaves = λ x id e. runs.process.trees x id (leaves_one (first_of entries x) (present_of q x) id (ap₂ option_or (sym (got x)) (sym (now x)) ∙ e));
        },
      )

-- a branch that is assigned
module _ (wid : ℕ → ℕ) (ds es fs : List Draft) (p q r : Present) (target a : ℕ → Bool) (ts us : Selects → Trees) (changes : BTreeMap ℕ CellId) where
  pub branch_runs : IsProcess wid es q target ts → Grows wid ds fs → IsSame p q → IsBranch wid fs q changes a us
      → Assigns q r (λ x. is_some (get nat_cmp changes x)) → ((x : ℕ) → present_of r x ≡ option_or (get nat_cmp changes x) (present_of q x)) → RunsTo wid ds fs p r target a us
  branch_runs process g s b assigns now = record {
    grows = g;
    assigns = record {
      entries = assigns.entries;
      log = assigns.log ∙ ap (λ l. l ++ assigns.entries) s.log;
      logged = λ x. assigns.logged x ∙ b.keys x;
      back = λ x. sym (s.present x) ∙ assigns.back x;
      targets = λ x. assigns.targets x ∙ ap is_some (s.present x);
      widths = assigns.widths ∙ s.widths;
      blocking = assigns.blocking ∙ s.blocking;
    };
    process = record {
      words = process.words;
      drafts = g.drafts;
      widths = λ x. ap (λ ws. unwrap_or (slice_get ws x) 0) assigns.widths ∙ process.widths x;
      targets = λ x. assigns.targets x ∙ process.targets x;
      trees = λ x id e. b.leaves x id (sym (now x) ∙ e);
    };
  }

-- the parts of statements that may be executed
module _ (wid : ℕ → ℕ) (s : FStmt) (h : IsStmtRead wid s) where
  pub set_read : (blocking : Bool) (t : FTarget) (e : FExpr) → s ≡ v.Set blocking t e → IsPlaced wid t × IsRead wid e
  set_read blocking t e is =
      let p = and_parts (target_kept wid t).right (is_sized e) (sym (ap (is_stmt_sized wid) is ∙ stmt_sized-Set wid blocking t e) ∙ h.sized) in
      let f = subst (λ z. FitsStmt wid (λ d. IsWithin wid) h.done z) (ap stmt_of is ∙ stmt_of-Set blocking t e) h.fits in
      (record { sized = p.0; done = h.done; fits = f.1 }, record { sized = p.1; fits = f.0 })

  pub if_read : (c : FExpr) (x : Box FStmt Global) (o : Option (Box FStmt Global)) → s ≡ v.If c x o
      → (stmt_of s ≡ If (expr_of c) (stmt_of x.value) (other_of o)) × IsRead wid c × IsStmtRead wid x.value × IsOtherRead wid o
  if_read c x None is =
      let e = ap stmt_of is ∙ stmt_of-If_alone c x in
      let p = and_parts (is_sized c) (is_stmt_sized wid x.value && true) (sym (ap (is_stmt_sized wid) is ∙ stmt_sized-If_alone wid c x) ∙ h.sized) in
      let q = and_parts (is_stmt_sized wid x.value) true p.1 in
      let f = subst (λ z. FitsStmt wid (λ d. IsWithin wid) h.done z) e h.fits in
      (e, record { sized = p.0; fits = f.0 }, record { sized = q.0; done = h.done; fits = f.1 }, tt)
  if_read c x (Some y) is =
      let e = ap stmt_of is ∙ stmt_of-If c x y in
      let p = and_parts (is_sized c) (is_stmt_sized wid x.value && is_stmt_sized wid y.value) (sym (ap (is_stmt_sized wid) is ∙ stmt_sized-If wid c x y) ∙ h.sized) in
      let q = and_parts (is_stmt_sized wid x.value) (is_stmt_sized wid y.value) p.1 in
      let f = subst (λ z. FitsStmt wid (λ d. IsWithin wid) h.done z) e h.fits in
      (e, record { sized = p.0; fits = f.0 }, record { sized = q.0; done = h.done; fits = f.1 }, record { sized = q.1; done = h.done; fits = f.2 })

  pub block_read : (parts : List FStmt) → s ≡ v.Block parts → (list_true wid (map (is_stmt_sized wid) parts) ≡ true) × FitStmts wid (λ d. IsWithin wid) h.done (stmts_of (map stmt_of parts))
  block_read parts is = (
    sym (ap (is_stmt_sized wid) is ∙ stmt_sized-Block wid parts) ∙ h.sized,
    subst (λ z. FitsStmt wid (λ d. IsWithin wid) h.done z) (ap stmt_of is ∙ stmt_of-Block parts) h.fits,
  )

pub no_branch : (wid : ℕ → ℕ) (ds : List Draft) (p : Present) (target : ℕ → Bool) (ts : Selects → Trees) (m : BTreeMap ℕ CellId) → IsProcess wid ds p target ts → IsEmpty m → IsBranch wid ds p m (λ x. false) ts
no_branch wid ds p target ts m process e = record { keys = λ x. ap is_some (none x); targets = λ x h. absurd (never h); leaves = λ x id h. process.trees x id (sym (ap (λ o. option_or o (present_of p x)) (none x)) ∙ h) }
  where
    none : (x : ℕ) → get nat_cmp m x ≡ None
    none x = ap (λ es. lookup (is_at (nat_cmp x)) es) e

    never : false ≡ true → ⊥
    never h = cc
