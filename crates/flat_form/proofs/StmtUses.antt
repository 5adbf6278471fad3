-- What targets and statements read and may assign, form by form.
use Rattle.std.proofs.Common.{◌≡◌, ℕ, ◌||◌, List, [], ◌∷◌, map, Some, Box, Global, refl, sym, subst, ap, ◌∙◌}
use Rattle.std.proofs.Math.Bool.{or_assoc}
use Rattle.flat_meaning.specs.Flat as f
use Rattle.flat_meaning.specs.Deps.{Bits, union}
use Rattle.flat_meaning.specs.Assigned.{may_assign, may_assign_in, any_may_assign}
use Rattle.flat_form.specs.declared.flat.FExpr.{FExpr}
use Rattle.flat_form.specs.declared.flat.FStmt.{FStmt}
use Rattle.flat_form.specs.declared.flat.FStmt.TheOpen.{FCaseItem-F}
use Rattle.flat_form.specs.declared.flat.FStmt.TheFolds.{fold-roll-FCaseItem}
use Rattle.flat_form.specs.declared.flat.FStmt.TheVariants as s
use Rattle.flat_form.specs.declared.flat.FCaseItem.{FCaseItem}
use Rattle.flat_form.specs.declared.masks.Masks.{Masks}
use Rattle.flat_form.specs.View as v
use Rattle.flat_form.specs.View.{expr_of, exprs_of, target_of, targets_of, Arm, stmt_of, stmts_of, arm_of, items_of}
use Rattle.flat_form.specs.Masks.{Adds}
use Rattle.flat_meaning.specs.Law.{expr_reads}
use Rattle.flat_form.specs.Uses.{exprs_read, stmt_reads, items_read, stmts_read}
use Rattle.flat_form.proofs.MaskSets.{adds-same, adds-two}
use Rattle.flat_form.proofs.StmtFolds.{stmt_of-Case, stmt_of-Block}

pub arm-is : (i : FCaseItem) → arm_of i ≡ record { labels = exprs_of (map expr_of i.labels); body = stmt_of i.body }
arm-is i = let x : FCaseItem-F FStmt FCaseItem = record { labels = i.labels; body = i.body } in fold-roll-FCaseItem f.Stmt Arm v.stmt_step v.arm_step x

-- a default stands behind the items
pub items-default : (wid : ℕ → ℕ) (ks : List Arm) (d : f.Stmt) (x i : ℕ) → items_read wid (items_of ks (f.default_item d)) x i ≡ union (items_read wid (items_of ks f.no_items)) (stmt_reads wid d) x i
items-default wid [] d x i = refl
items-default wid (a ∷ ks) d x i = ap (λ b. exprs_read wid a.labels x i || (stmt_reads wid a.body x i || b)) (items-default wid ks d x i)
    ∙ ap (λ b. exprs_read wid a.labels x i || b) (sym (or_assoc (stmt_reads wid a.body x i) (items_read wid (items_of ks f.no_items) x i) (stmt_reads wid d x i)))
    ∙ sym (or_assoc (exprs_read wid a.labels x i) (stmt_reads wid a.body x i || items_read wid (items_of ks f.no_items) x i) (stmt_reads wid d x i))

pub assigned-default : (wid : ℕ → ℕ) (ks : List Arm) (d : f.Stmt) (x i : ℕ) → may_assign_in wid (items_of ks (f.default_item d)) x i ≡ union (may_assign_in wid (items_of ks f.no_items)) (may_assign wid d) x i
assigned-default wid [] d x i = refl
assigned-default wid (a ∷ ks) d x i = ap (λ b. may_assign wid a.body x i || b) (assigned-default wid ks d x i) ∙ sym (or_assoc (may_assign wid a.body x i) (may_assign_in wid (items_of ks f.no_items) x i) (may_assign wid d x i))

module _ (wid : ℕ → ℕ) (x : FStmt) where
  stmt-as : (r : f.Stmt → Bits) (old now : Masks) (z : f.Stmt) → stmt_of x ≡ z → Adds old now (r z) → Adds old now (r (stmt_of x))
  stmt-as r old now z is h = subst (λ (y : f.Stmt). Adds old now (r y)) (sym is) h

  module _ (a b : Masks) where
    pub block-reads : (parts : List FStmt) → x ≡ s.Block parts → Adds a b (stmts_read wid (stmts_of (map stmt_of parts))) → Adds a b (stmt_reads wid (stmt_of x))
    block-reads parts is h = stmt-as (stmt_reads wid) a b (f.Block (stmts_of (map stmt_of parts))) (ap stmt_of is ∙ stmt_of-Block parts) h

    pub block-assigns : (parts : List FStmt) → x ≡ s.Block parts → Adds a b (any_may_assign wid (stmts_of (map stmt_of parts))) → Adds a b (may_assign wid (stmt_of x))
    block-assigns parts is h = stmt-as (may_assign wid) a b (f.Block (stmts_of (map stmt_of parts))) (ap stmt_of is ∙ stmt_of-Block parts) h

    module _ (d : Masks) where
      pub case-assigns : (e : FExpr) (items : List FCaseItem) (z : Box FStmt Global) → x ≡ s.Case e items (Some z) → Adds a b (may_assign_in wid (items_of (map arm_of items) f.no_items)) → Adds b d (may_assign wid (stmt_of z.value))
          → Adds a d (may_assign wid (stmt_of x))
      case-assigns e items z is h k =
          let first = may_assign_in wid (items_of (map arm_of items) f.no_items) in
          let last = may_assign wid (stmt_of z.value) in
          stmt-as (may_assign wid) a d (f.Case (expr_of e) (items_of (map arm_of items) (f.default_item (stmt_of z.value)))) (ap stmt_of is ∙ stmt_of-Case e items z)
          (adds-same a d (union first last) (may_assign_in wid (items_of (map arm_of items) (f.default_item (stmt_of z.value)))) (λ y i l. sym (assigned-default wid (map arm_of items) (stmt_of z.value) y i)) (adds-two a b d first last h k))

      module _ (n : Masks) where
        pub case-reads : (e : FExpr) (items : List FCaseItem) (z : Box FStmt Global) → x ≡ s.Case e items (Some z) → Adds a b (expr_reads wid (expr_of e)) → Adds b d (items_read wid (items_of (map arm_of items) f.no_items)) → Adds d n (stmt_reads wid (stmt_of z.value))
            → Adds a n (stmt_reads wid (stmt_of x))
        case-reads e items z is h k m =
            let some = items_read wid (items_of (map arm_of items) f.no_items) in
            let all = items_read wid (items_of (map arm_of items) (f.default_item (stmt_of z.value))) in
            let last = stmt_reads wid (stmt_of z.value) in
            stmt-as (stmt_reads wid) a n (f.Case (expr_of e) (items_of (map arm_of items) (f.default_item (stmt_of z.value)))) (ap stmt_of is ∙ stmt_of-Case e items z)
            (adds-two a b n (expr_reads wid (expr_of e)) all h
            (adds-same b n (union some last) all (λ y i l. sym (items-default wid (map arm_of items) (stmt_of z.value) y i)) (adds-two b d n some last k m)))

-- an item of a case
pub item-reads : (wid : ℕ → ℕ) (a b d : Masks) (x : FCaseItem) (ls : List FExpr) → ls ≡ x.labels → Adds a b (exprs_read wid (exprs_of (map expr_of ls))) → Adds b d (stmt_reads wid (stmt_of x.body))
    → Adds a d (union (exprs_read wid (arm_of x).labels) (stmt_reads wid (arm_of x).body))
item-reads wid a b d x ls is h k = subst (λ (y : Arm). Adds a d (union (exprs_read wid y.labels) (stmt_reads wid y.body))) (sym (arm-is x))
    (adds-two a b d (exprs_read wid (exprs_of (map expr_of x.labels))) (stmt_reads wid (stmt_of x.body)) (subst (λ (es : List FExpr). Adds a b (exprs_read wid (exprs_of (map expr_of es)))) is h) k)

pub item-assigns : (wid : ℕ → ℕ) (a b : Masks) (x : FCaseItem) → Adds a b (may_assign wid (stmt_of x.body)) → Adds a b (may_assign wid (arm_of x).body)
item-assigns wid a b x h = subst (λ (y : Arm). Adds a b (may_assign wid y.body)) (sym (arm-is x)) h

pub items-step : (wid : ℕ → ℕ) (x : FCaseItem) (rest : List FCaseItem)
    → items_read wid (items_of (map arm_of (x ∷ rest)) f.no_items) ≡ union (union (exprs_read wid (arm_of x).labels) (stmt_reads wid (arm_of x).body)) (items_read wid (items_of (map arm_of rest) f.no_items))
items-step wid x rest = λ j. λ y i. sym (or_assoc (exprs_read wid (arm_of x).labels y i) (stmt_reads wid (arm_of x).body y i) (items_read wid (items_of (map arm_of rest) f.no_items) y i)) j
