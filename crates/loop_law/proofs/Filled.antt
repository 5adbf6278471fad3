-- Well sized designs have no empty parts.
use Rattle.std.proofs.Common.{◌≡◌, ℕ, zero, suc, ◌*◌, ◌≤◌, Bool, true, ◌&&◌, ◌==◌, List, [], ◌∷◌, map, Some, None, sym, ap, subst, ◌∙◌, arith, eqb-true}
use Rattle.std.specs.Prelude.{All}
use Rattle.std.specs.List.{list_all}
use Rattle.std.proofs.lemmas.Bool.{and_parts}
use Rattle.std.proofs.lemmas.List.Elements.{All-cons, All-nil}
use Rattle.flat_form.specs.declared.flat.FExpr.{FExpr, map-FExpr}
use Rattle.flat_form.specs.declared.flat.FExpr.TheOpen.{FExpr-F}
use Rattle.flat_form.specs.declared.flat.FExpr.TheFolds.{ind-FExpr, fold-roll-FExpr}
use Rattle.flat_form.specs.declared.flat.FTarget.{FTarget, map-FTarget}
use Rattle.flat_form.specs.declared.flat.FTarget.TheOpen.{FTarget-F}
use Rattle.flat_form.specs.declared.flat.FTarget.TheFolds.{ind-FTarget, fold-roll-FTarget}
use Rattle.flat_form.specs.declared.flat.FStmt.{FStmt}
use Rattle.flat_form.specs.declared.flat.FCaseItem.{FCaseItem}
use Rattle.flat_form.specs.declared.flat.FStmt.TheOpen.{FStmt-F, FCaseItem-F}
use Rattle.flat_form.specs.declared.flat.FStmt.TheFolds.{ind-FStmt, fold-roll-FStmt, fold-roll-FCaseItem, map-FStmt, map-FCaseItem}
use Rattle.flat_form.specs.declared.flat.FlatAssign.{FlatAssign}
use Rattle.flat_form.specs.declared.flat.FlatComb.{FlatComb}
use Rattle.flat_meaning.specs.Flat as f
use Rattle.flat_meaning.specs.Design.{width_in}
use Rattle.flat_meaning.proofs.Words.{never_same}
use Rattle.flat_form.specs.View as v
use Rattle.flat_form.specs.View.{exprs_of, expr_step, expr_of, targets_of, target_of, Arm, stmts_of, items_of, stmt_of, arm_of}
use Rattle.flat_form.specs.Sizes as s
use Rattle.flat_form.specs.Sizes.{Kept, is_word, kept_of, is_sized, kept_step, target_kept, sum, all_right, all_bits, is_some_list, list_true, is_stmt_sized, is_arm_sized}
use Rattle.flat_form.proofs.Sized.{word_width, sized_width, sized_range}
use Rattle.flat_reads.specs.Filled.{IsFilled, AreFilled, IsTargetFilled, AreTargetsFilled, HasLabel, IsStmtFilled, AreItemsFilled, AreStmtsFilled}
use Rattle.loop_law.specs.Designs.{WellSizedIsFilled}

-- ---- expressions

abbrev IsRight : FExpr → Type 0
IsRight e = is_sized e ≡ true → IsFilled (expr_of e)

abbrev E : Type 0
E = (e : FExpr) × IsRight e

sized_some : (e : FExpr) → is_sized e ≡ true → 1 ≤ f.size (expr_of e)
sized_some e h = subst (λ n. 1 ≤ n) (sized_width e h) (sized_range e h).some

parts_filled : (es : List E) → all_right (map kept_of (map (λ e. e.0) es)) ≡ true → AreFilled (exprs_of (map expr_of (map (λ e. e.0) es)))
parts_filled [] h = tt
parts_filled (e ∷ es) h =
    let p = and_parts (is_sized e.0) (all_right (map kept_of (map (λ e. e.0) es))) h in (sized_some e.0 p.0, e.1 p.0, parts_filled es p.1)

-- no copies have no bit
some_copies : (n m w : ℕ) → w ≡ n * m → 1 ≤ w → 1 ≤ n
some_copies zero m w e h = absurd (omega arith)
some_copies (suc n) m w e h = omega arith

abbrev kept_layer : FExpr-F FExpr → Kept
kept_layer x = kept_step (map-FExpr FExpr Kept kept_of x)

abbrev expr_layer : FExpr-F FExpr → f.Expr
expr_layer x = expr_step (map-FExpr FExpr f.Expr expr_of x)

abbrev plain : FExpr-F E → FExpr-F FExpr
plain = map-FExpr E FExpr (λ e. e.0)

layer_filled : (y : FExpr-F E) → (kept_layer (plain y)).right ≡ true → IsFilled (expr_layer (plain y))
layer_filled (FExpr-F.Number value width) h = tt
layer_filled (FExpr-F.Read sig at width) h = tt
layer_filled (FExpr-F.At sig index width) h = index.value.1 (and_parts (width == 1) (is_sized index.value.0) h).1
layer_filled (FExpr-F.Unary op a width) h = a.value.1 (and_parts _ (is_sized a.value.0) h).1
layer_filled (FExpr-F.Binary op a b width) h =
    let p = and_parts (is_sized a.value.0) (is_sized b.value.0) (and_parts _ (is_sized a.value.0 && is_sized b.value.0) h).1 in (a.value.1 p.0, b.value.1 p.1)
layer_filled (FExpr-F.Choose c x y width) h =
    let p = and_parts (is_sized c.value.0) (is_sized x.value.0 && is_sized y.value.0) (and_parts _ (is_sized c.value.0 && (is_sized x.value.0 && is_sized y.value.0)) h).1 in
    let q = and_parts (is_sized x.value.0) (is_sized y.value.0) p.1 in (c.value.1 p.0, x.value.1 q.0, y.value.1 q.1)
layer_filled (FExpr-F.Gate op inputs) h =
    let ks = map kept_of (map (λ (e : E). e.0) inputs) in
    parts_filled inputs (and_parts (all_bits ks) (all_right ks) (and_parts (is_some_list ks) (all_bits ks && all_right ks) h).1).1
layer_filled (FExpr-F.Join parts width) h =
    let ks = map kept_of (map (λ (e : E). e.0) parts) in
    parts_filled parts (and_parts (is_word width) (all_right ks) (and_parts (width == sum ks) (is_word width && all_right ks) h).1).1
layer_filled (FExpr-F.Repeat count parts width) h =
    let ks = map kept_of (map (λ (e : E). e.0) parts) in
    let p = and_parts (width == count * sum ks) (is_word width && all_right ks) h in
    let q = and_parts (is_word width) (all_right ks) p.1 in
    (some_copies count (sum ks) width (eqb-true width (count * sum ks) p.0) (word_width width q.0).some, parts_filled parts q.1)

pub filled : (e : FExpr) → is_sized e ≡ true → IsFilled (expr_of e)
filled = ind-FExpr IsRight (λ x y is h.
    subst IsFilled (sym (fold-roll-FExpr f.Expr expr_step x))
    (subst (λ z. (kept_layer z).right ≡ true → IsFilled (expr_layer z)) is (layer_filled y) (sym (ap (λ (k : Kept). k.right) (fold-roll-FExpr Kept kept_step x)) ∙ h)))

-- ---- targets

module _ (wid : ℕ → ℕ) where
  abbrev IsTargetRight : FTarget → Type 0
  IsTargetRight t = (target_kept wid t).right ≡ true → IsTargetFilled (target_of t)

  abbrev T : Type 0
  T = (t : FTarget) × IsTargetRight t

  targets_filled : (ts : List T) → all_right (map (target_kept wid) (map (λ t. t.0) ts)) ≡ true → AreTargetsFilled (targets_of (map target_of (map (λ t. t.0) ts)))
  targets_filled [] h = tt
  targets_filled (t ∷ ts) h = let p = and_parts (target_kept wid t.0).right (all_right (map (target_kept wid) (map (λ t. t.0) ts))) h in (t.1 p.0, targets_filled ts p.1)

  abbrev target_kept_layer : FTarget-F FTarget → Kept
  target_kept_layer x = s.target_step wid (map-FTarget FTarget Kept (target_kept wid) x)

  abbrev target_layer : FTarget-F FTarget → f.Target
  target_layer x = v.target_step (map-FTarget FTarget f.Target target_of x)

  abbrev plain_target : FTarget-F T → FTarget-F FTarget
  plain_target = map-FTarget T FTarget (λ t. t.0)

  target_layer_filled : (y : FTarget-F T) → (target_kept_layer (plain_target y)).right ≡ true → IsTargetFilled (target_layer (plain_target y))
  target_layer_filled (FTarget-F.Whole sig) h = tt
  target_layer_filled (FTarget-F.At sig index) h = filled index (and_parts (is_word (wid sig)) (is_sized index) h).1
  target_layer_filled (FTarget-F.Part sig at width) h = (word_width width (and_parts (is_word width) _ h).0).some
  target_layer_filled (FTarget-F.Join parts) h =
      let ks = map (target_kept wid) (map (λ (t : T). t.0) parts) in targets_filled parts (and_parts (is_word (sum ks)) (all_right ks) h).1

  pub target_filled : (t : FTarget) → (target_kept wid t).right ≡ true → IsTargetFilled (target_of t)
  target_filled = ind-FTarget IsTargetRight (λ x y is h.
      subst IsTargetFilled (sym (fold-roll-FTarget f.Target v.target_step x))
      (subst (λ z. (target_kept_layer z).right ≡ true → IsTargetFilled (target_layer z)) is (target_layer_filled y) (sym (ap (λ (k : Kept). k.right) (fold-roll-FTarget Kept (s.target_step wid) x)) ∙ h)))

-- ---- statements

labels_filled : (ls : List FExpr) → list_all is_sized ls ≡ true → AreFilled (exprs_of (map expr_of ls))
labels_filled [] h = tt
labels_filled (e ∷ es) h = let p = and_parts (is_sized e) (list_all is_sized es) h in (sized_some e p.0, filled e p.0, labels_filled es p.1)

has_label : (ls : List FExpr) → is_some_list ls ≡ true → HasLabel (exprs_of (map expr_of ls))
has_label [] h = never_same (sym h)
has_label (e ∷ es) h = tt

-- an item of a `case`
abbrev IsArmFilled : Arm → Type 0
IsArmFilled a = HasLabel a.labels × AreFilled a.labels × IsStmtFilled a.body

module _ (wid : ℕ → ℕ) where
  abbrev IsStmtRight : FStmt → Type 0
  IsStmtRight s = is_stmt_sized wid s ≡ true → IsStmtFilled (stmt_of s)

  abbrev IsArmRight : FCaseItem → Type 0
  IsArmRight i = is_arm_sized wid i ≡ true → IsArmFilled (arm_of i)

  abbrev S : Type 0
  S = (s : FStmt) × IsStmtRight s

  abbrev I : Type 0
  I = (i : FCaseItem) × IsArmRight i

  stmts_filled : (ss : List S) → list_true wid (map (is_stmt_sized wid) (map (λ s. s.0) ss)) ≡ true → AreStmtsFilled (stmts_of (map stmt_of (map (λ s. s.0) ss)))
  stmts_filled [] h = tt
  stmts_filled (s ∷ ss) h = let p = and_parts (is_stmt_sized wid s.0) (list_true wid (map (is_stmt_sized wid) (map (λ s. s.0) ss))) h in (s.1 p.0, stmts_filled ss p.1)

  items_filled : (is : List I) (last : f.Items) → AreItemsFilled last → list_true wid (map (is_arm_sized wid) (map (λ i. i.0) is)) ≡ true
      → AreItemsFilled (items_of (map arm_of (map (λ i. i.0) is)) last)
  items_filled [] last l h = l
  items_filled (i ∷ is) last l h =
      let p = and_parts (is_arm_sized wid i.0) (list_true wid (map (is_arm_sized wid) (map (λ i. i.0) is))) h in
      let a = i.1 p.0 in (a.0, a.1, a.2, items_filled is last l p.1)

  abbrev stmt_sized_layer : FStmt-F FStmt FCaseItem → Bool
  stmt_sized_layer x = s.stmt_step wid (map-FStmt FStmt FCaseItem Bool Bool (is_stmt_sized wid) (is_arm_sized wid) x)

  abbrev stmt_layer : FStmt-F FStmt FCaseItem → f.Stmt
  stmt_layer x = v.stmt_step (map-FStmt FStmt FCaseItem f.Stmt Arm stmt_of arm_of x)

  abbrev arm_sized_layer : FCaseItem-F FStmt FCaseItem → Bool
  arm_sized_layer x = s.arm_step wid (map-FCaseItem FStmt FCaseItem Bool Bool (is_stmt_sized wid) (is_arm_sized wid) x)

  abbrev arm_layer : FCaseItem-F FStmt FCaseItem → Arm
  arm_layer x = v.arm_step (map-FCaseItem FStmt FCaseItem f.Stmt Arm stmt_of arm_of x)

  abbrev plain_stmt : FStmt-F S I → FStmt-F FStmt FCaseItem
  plain_stmt = map-FStmt S I FStmt FCaseItem (λ s. s.0) (λ i. i.0)

  abbrev plain_arm : FCaseItem-F S I → FCaseItem-F FStmt FCaseItem
  plain_arm = map-FCaseItem S I FStmt FCaseItem (λ s. s.0) (λ i. i.0)

  stmt_layer_filled : (y : FStmt-F S I) → stmt_sized_layer (plain_stmt y) ≡ true → IsStmtFilled (stmt_layer (plain_stmt y))
  stmt_layer_filled FStmt-F.Null h = tt
  stmt_layer_filled (FStmt-F.Set blocking target value) h =
      let p = and_parts (target_kept wid target).right (is_sized value) h in (target_filled wid target p.0, filled value p.1)
  stmt_layer_filled (FStmt-F.If cond chosen None) h =
      let p = and_parts (is_sized cond) _ h in let q = and_parts (is_stmt_sized wid chosen.value.0) true p.1 in (filled cond p.0, chosen.value.1 q.0, tt)
  stmt_layer_filled (FStmt-F.If cond chosen (Some other)) h =
      let p = and_parts (is_sized cond) _ h in
      let q = and_parts (is_stmt_sized wid chosen.value.0) (is_stmt_sized wid other.value.0) p.1 in (filled cond p.0, chosen.value.1 q.0, other.value.1 q.1)
  stmt_layer_filled (FStmt-F.Case subject items None) h =
      let p = and_parts (is_sized subject) _ h in
      let q = and_parts (list_true wid (map (is_arm_sized wid) (map (λ (i : I). i.0) items))) true p.1 in (filled subject p.0, items_filled items f.no_items tt q.0)
  stmt_layer_filled (FStmt-F.Case subject items (Some last)) h =
      let p = and_parts (is_sized subject) _ h in
      let q = and_parts (list_true wid (map (is_arm_sized wid) (map (λ (i : I). i.0) items))) (is_stmt_sized wid last.value.0) p.1 in
      (filled subject p.0, items_filled items (f.default_item (stmt_of last.value.0)) (last.value.1 q.1) q.0)
  stmt_layer_filled (FStmt-F.Block parts) h = stmts_filled parts h

  arm_layer_filled : (y : FCaseItem-F S I) → arm_sized_layer (plain_arm y) ≡ true → IsArmFilled (arm_layer (plain_arm y))
  arm_layer_filled y h =
      let p = and_parts (is_some_list y.labels) (list_all is_sized y.labels && is_stmt_sized wid y.body.0) h in
      let q = and_parts (list_all is_sized y.labels) (is_stmt_sized wid y.body.0) p.1 in
      (has_label y.labels p.0, labels_filled y.labels q.0, y.body.1 q.1)

  pub stmt_filled : (s : FStmt) → is_stmt_sized wid s ≡ true → IsStmtFilled (stmt_of s)
  stmt_filled = ind-FStmt IsStmtRight IsArmRight
      (λ x y is h. subst IsStmtFilled (sym (fold-roll-FStmt f.Stmt Arm v.stmt_step v.arm_step x))
      (subst (λ z. stmt_sized_layer z ≡ true → IsStmtFilled (stmt_layer z)) is (stmt_layer_filled y) (sym (fold-roll-FStmt Bool Bool (s.stmt_step wid) (s.arm_step wid) x) ∙ h)))
      (λ x y is h. subst IsArmFilled (sym (fold-roll-FCaseItem f.Stmt Arm v.stmt_step v.arm_step x))
      (subst (λ z. arm_sized_layer z ≡ true → IsArmFilled (arm_layer z)) is (arm_layer_filled y) (sym (fold-roll-FCaseItem Bool Bool (s.stmt_step wid) (s.arm_step wid) x) ∙ h)))

-- ---- designs

module _ {A B : Type 0} (test : A → Bool) (Q : B → Type 0) (g : A → B) (h : (x : A) → test x ≡ true → Q (g x)) where
  all_images : (xs : List A) → list_all test xs ≡ true → All Q (map g xs)
  all_images [] e = All-nil Q
  all_images (x ∷ xs) e = let p = and_parts (test x) (list_all test xs) e in All-cons Q (g x) (map g xs) (h x p.0) (all_images xs p.1)

pub well_sized_is_filled : WellSizedIsFilled
well_sized_is_filled flat sized = record {
  assigned = all_images (λ (a : FlatAssign). (target_kept (width_in flat.signals) a.target).right && is_sized a.value) (λ (a : f.Target × f.Expr). IsFilled a.1)
      (λ (a : FlatAssign). (target_of a.target, expr_of a.value)) (λ a e. filled a.value (and_parts (target_kept (width_in flat.signals) a.target).right (is_sized a.value) e).1) flat.assigns sized.assigns;
  processed = all_images (λ (p : FlatComb). is_stmt_sized (width_in flat.signals) p.body) IsStmtFilled (λ (p : FlatComb). stmt_of p.body)
      (λ p e. stmt_filled (width_in flat.signals) p.body e) flat.combs sized.combs;
}
