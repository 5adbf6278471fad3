-- Kept widths that are sizes are right where the design is well sized.
use Rattle.std.proofs.Common.{◌≡◌, ℕ, zero, suc, ◌+◌, ◌*◌, ◌^◌, ◌≤◌, max, Bool, true, ◌&&◌, ◌==◌, nat_lt, nat_le, List, [], ◌∷◌, map, Some, None, refl, sym, ap, ap₂, subst, ◌∙◌, arith, rules, eqb-true, eq-eqb, le-leb, lt-ltb}
use Rattle.std.proofs.lemmas.Bool.{and_parts}
use Rattle.std.proofs.lemmas.Nat.{pow_pos}
use Rattle.std.specs.Prelude.{All}
use Rattle.std.specs.List.{list_all}
use Rattle.std.proofs.lemmas.List.Elements.{All-head, All-tail}
use Rattle.flat_form.specs.declared.flat.FExpr.{FExpr, map-FExpr}
use Rattle.flat_form.specs.declared.flat.FExpr.TheOpen.{FExpr-F}
use Rattle.flat_form.specs.declared.flat.FExpr.TheFolds.{ind-FExpr, fold-roll-FExpr}
use Rattle.flat_form.specs.declared.flat.FExpr.TheViews.{roll-FExpr}
use Rattle.cdc_base.specs.declared.signal.Signal.{Signal}
use Rattle.flat_form.specs.declared.flat.Flat.{Flat}
use Rattle.flat_form.specs.declared.flat.FlatAssign.{FlatAssign}
use Rattle.flat_form.specs.declared.flat.FlatComb.{FlatComb}
use Rattle.flat_form.specs.declared.flat.FlatClocked.{FlatClocked}
use Rattle.flat_form.specs.declared.flat.FTarget.{FTarget, map-FTarget}
use Rattle.flat_form.specs.declared.flat.FTarget.TheOpen.{FTarget-F}
use Rattle.flat_form.specs.declared.flat.FTarget.TheFolds.{ind-FTarget, fold-roll-FTarget}
use Rattle.flat_form.specs.declared.flat.FTarget.TheViews.{roll-FTarget}
use Rattle.flat_form.specs.declared.flat.FStmt.{FStmt, map-FStmt}
use Rattle.flat_form.specs.declared.flat.FCaseItem.{FCaseItem, map-FCaseItem}
use Rattle.flat_form.specs.declared.flat.FStmt.TheOpen.{FStmt-F, FCaseItem-F}
use Rattle.flat_form.specs.declared.flat.FStmt.TheFolds.{fold-FCaseItem, ind-FStmt, fold-roll-FStmt, fold-roll-FCaseItem}
use Rattle.flat_form.specs.declared.flat.FStmt.TheViews.{roll-FStmt, roll-FCaseItem}
use Rattle.flat_meaning.specs.Flat as f
use Rattle.flat_meaning.specs.Law.{AreWords}
use Rattle.flat_meaning.specs.Design.{width_in}
use Rattle.flat_form.specs.View as v
use Rattle.flat_form.specs.View.{unary_of, binary_of, exprs_of, expr_step, expr_of, targets_of, target_of, stmts_of, Arm, last_of, items_of, otherwise_of, stmt_of, arm_of, flat_of}
use Rattle.flat_form.specs.Sizes as s
use Rattle.flat_form.specs.Sizes.{Kept, is_word, kept_of, is_sized, target_kept, is_stmt_sized, is_arm_sized, list_true, kept_step, sum, all_right, all_bits, is_some_list, IsWellSized}
use Rattle.flat_unfolding.specs.Sized.{IsSized, AreSized, AreLabelsSized, IsTargetSized, AreTargetsSized, IsStmtSized, AreItemsSized, AreStmtsSized, any, IsSizedFlat}
use Rattle.flat_unfolding.specs.Widths.{width_step, width_of, keeps_sizes, all_true, target_step, target_keeps_sizes, stmt_step, arm_step, stmt_keeps_sizes, KeepsSizes}
use Rattle.flat_unfolding.specs.Laws.{WellSizedLaw}
use Rattle.flat_unfolding.proofs.Terms.{IsWide, size_wide}
use Rattle.flat_unfolding.proofs.Fit.{labels_are_sized}
use Rattle.flat_unfolding.proofs.Visited.{sizes_law}

both : (a b : Bool) → a ≡ true → b ≡ true → (a && b) ≡ true
both a b h k = ap₂ (λ p q. p && q) h k

wide_word : (w : ℕ) → IsWide w → is_word w ≡ true
wide_word w h = both (nat_le 1 w) (nat_le w 64) (le-leb 1 w h.0) (le-leb w 64 h.1)

module _ (wid : ℕ → ℕ) (words : AreWords wid) where
  -- a kept width that is right, and is the size n
  abbrev IsRight : Kept → ℕ → Type 0
  IsRight k n = (k.right ≡ true) × (k.width ≡ n)

  -- both folds keep one width; where it is a size, it is right
  record Tells (w k : Kept) (e : f.Expr) : Type 0 where
    pub same : w.width ≡ k.width
    pub right : w.right ≡ true → IsSized wid e → IsRight k (f.size e)

  abbrev E : Type 0
  E = (e : FExpr) × Tells (width_of e) (kept_of e) (expr_of e)

  abbrev width_layer : FExpr-F FExpr → Kept
  width_layer x = width_step (map-FExpr FExpr Kept width_of x)

  abbrev kept_layer : FExpr-F FExpr → Kept
  kept_layer x = kept_step (map-FExpr FExpr Kept kept_of x)

  abbrev expr_layer : FExpr-F FExpr → f.Expr
  expr_layer x = expr_step (map-FExpr FExpr f.Expr expr_of x)

  abbrev plain : FExpr-F E → FExpr-F FExpr
  plain = map-FExpr E FExpr (λ e. e.0)

  abbrev firsts : List E → List FExpr
  firsts = map (λ (e : E). e.0)

  same_sum : (es : List E) → sum (map width_of (firsts es)) ≡ sum (map kept_of (firsts es))
  same_sum [] = refl
  same_sum (e ∷ es) = ap₂ (λ m n. m + n) e.1.same (same_sum es)

  parts_right : (es : List E) → all_right (map width_of (firsts es)) ≡ true → AreSized wid (exprs_of (map expr_of (firsts es)))
      → (all_right (map kept_of (firsts es)) ≡ true) × (sum (map kept_of (firsts es)) ≡ f.sizes (exprs_of (map expr_of (firsts es))))
  parts_right [] h s = (refl, refl)
  parts_right (e ∷ es) h s =
      let p = and_parts (width_of e.0).right (all_right (map width_of (firsts es))) h in
      let a = e.1.right p.0 s.0 in let b = parts_right es p.1 s.1 in
      (both (kept_of e.0).right (all_right (map kept_of (firsts es))) a.0 b.0, ap₂ (λ m n. m + n) a.1 b.1)

  bits_right : (es : List E) → all_right (map width_of (firsts es)) ≡ true → AreSized wid (exprs_of (map expr_of (firsts es))) → f.largest (exprs_of (map expr_of (firsts es))) ≤ 1
      → all_bits (map kept_of (firsts es)) ≡ true
  bits_right [] h s l = refl
  bits_right (e ∷ es) h s l =
      let p = and_parts (width_of e.0).right (all_right (map width_of (firsts es))) h in
      let a = e.1.right p.0 s.0 in let w = size_wide wid words (expr_of e.0) s.0 in let some = w.0 in let i = a.1 in
      let rest = f.largest (exprs_of (map expr_of (firsts es))) in
      both ((kept_of e.0).width == 1) (all_bits (map kept_of (firsts es))) (eq-eqb (kept_of e.0).width 1 (one (kept_of e.0).width (f.size (expr_of e.0)) rest i some l))
      (bits_right es p.1 s.1 (less (f.size (expr_of e.0)) rest l))
    where
      one : (k n m : ℕ) → k ≡ n → 1 ≤ n → max n m ≤ 1 → k ≡ 1
      one k n m e a b = omega (arith, e, a, b)

      less : (n m : ℕ) → max n m ≤ 1 → m ≤ 1
      less n m b = omega (arith, b)

  some_inputs : (es : List E) → f.largest (exprs_of (map expr_of (firsts es))) ≡ 1 → is_some_list (map kept_of (firsts es)) ≡ true
  some_inputs [] h = absurd (search (rules, h))
  some_inputs (e ∷ es) h = refl

  layer_tells : (y : FExpr-F E) → Tells (width_layer (plain y)) (kept_layer (plain y)) (expr_layer (plain y))
  layer_tells (FExpr-F.Number value width) =
      record { same = refl; right = λ h s. (both (is_word width) (nat_lt value (2 ^ width)) (wide_word width (s.0, s.1)) (lt-ltb value (2 ^ width) s.2), refl) }
  layer_tells (FExpr-F.Read sig at width) = record { same = refl; right = λ h s. let l = words sig in let m = s.1 in (wide_word width (s.0, (let a : width ≤ 64 = omega arith in a)), refl) }
  layer_tells (FExpr-F.At sig index width) = record {
    same = refl;
    right = λ h s.
        let i = index.value in
        let p = and_parts (width == 1) (width_of i.0).right h in
        (both (width == 1) (kept_of i.0).right p.0 (i.1.right p.1 s.1).0, eqb-true width 1 p.0);
  }
  layer_tells (FExpr-F.Unary op a width) = record {
    same = refl;
    right = λ h s.
        let i = a.value in
        let p = and_parts (width == f.unary_size (unary_of op) (width_of i.0).width) (width_of i.0).right h in
        let r = i.1.right p.1 s in
        let e : width ≡ f.unary_size (unary_of op) (kept_of i.0).width = eqb-true width _ p.0 ∙ ap (f.unary_size (unary_of op)) i.1.same in
        (both (width == f.unary_size (unary_of op) (kept_of i.0).width) (kept_of i.0).right (eq-eqb width _ e) r.0, e ∙ ap (f.unary_size (unary_of op)) r.1);
  }
  layer_tells (FExpr-F.Binary op a b width) = record {
    same = refl;
    right = λ h s.
        let i = a.value in let j = b.value in let size = f.binary_size (binary_of op) in
        let p = and_parts (width == size (width_of i.0).width (width_of j.0).width) ((width_of i.0).right && (width_of j.0).right) h in
        let q = and_parts (width_of i.0).right (width_of j.0).right p.1 in
        let r = i.1.right q.0 s.1 in let t = j.1.right q.1 s.2 in
        let e : width ≡ size (kept_of i.0).width (kept_of j.0).width = eqb-true width _ p.0 ∙ ap₂ size i.1.same j.1.same in
        (both (width == size (kept_of i.0).width (kept_of j.0).width) ((kept_of i.0).right && (kept_of j.0).right) (eq-eqb width _ e) (both (kept_of i.0).right (kept_of j.0).right r.0 t.0), e ∙ ap₂ size r.1 t.1);
  }
  layer_tells (FExpr-F.Choose c a b width) = record {
    same = refl;
    right = λ h s.
        let k = c.value in let i = a.value in let j = b.value in
        let p = and_parts (width == max (width_of i.0).width (width_of j.0).width) ((width_of k.0).right && ((width_of i.0).right && (width_of j.0).right)) h in
        let o = and_parts (width_of k.0).right ((width_of i.0).right && (width_of j.0).right) p.1 in
        let q = and_parts (width_of i.0).right (width_of j.0).right o.1 in
        let u = k.1.right o.0 s.0 in let r = i.1.right q.0 s.1 in let t = j.1.right q.1 s.2 in
        let e : width ≡ max (kept_of i.0).width (kept_of j.0).width = eqb-true width _ p.0 ∙ ap₂ max i.1.same j.1.same in (
          both (width == max (kept_of i.0).width (kept_of j.0).width) ((kept_of k.0).right && ((kept_of i.0).right && (kept_of j.0).right)) (eq-eqb width _ e)
              (both (kept_of k.0).right ((kept_of i.0).right && (kept_of j.0).right) u.0 (both (kept_of i.0).right (kept_of j.0).right r.0 t.0)),
          e ∙ ap₂ max r.1 t.1,
        );
  }
  layer_tells (FExpr-F.Gate op inputs) = record {
    same = refl;
    right = λ h s.
        let ks = map kept_of (firsts inputs) in
        let l = s.1 in (
          both (is_some_list ks) (all_bits ks && all_right ks) (some_inputs inputs s.1)
              (both (all_bits ks) (all_right ks) (bits_right inputs h s.2 (let m : f.largest (exprs_of (map expr_of (firsts inputs))) ≤ 1 = omega arith in m)) (parts_right inputs h s.2).0),
          refl,
        );
  }
  layer_tells (FExpr-F.Join parts width) = record {
    same = refl;
    right = λ h s.
        let ks = map kept_of (firsts parts) in
        let p = and_parts (width == sum (map width_of (firsts parts))) (all_right (map width_of (firsts parts))) h in
        let r = parts_right parts p.1 s.2 in
        let e : width ≡ sum ks = eqb-true width _ p.0 ∙ same_sum parts in
        (both (width == sum ks) (is_word width && all_right ks) (eq-eqb width _ e) (both (is_word width) (all_right ks) (wide_word width (subst IsWide (sym (e ∙ r.1)) (s.0, s.1))) r.0), e ∙ r.1);
  }
  layer_tells (FExpr-F.Repeat count parts width) = record {
    same = refl;
    right = λ h s.
        let ks = map kept_of (firsts parts) in
        let p = and_parts (width == count * sum (map width_of (firsts parts))) (all_right (map width_of (firsts parts))) h in
        let r = parts_right parts p.1 s.3 in
        let e : width ≡ count * sum ks = eqb-true width _ p.0 ∙ ap (λ n. count * n) (same_sum parts) in
        let n = e ∙ ap (λ n. count * n) r.1 in
        let w = size_wide wid words (f.Repeat count (exprs_of (map expr_of (firsts parts)))) s in
        (both (width == count * sum ks) (is_word width && all_right ks) (eq-eqb width _ e) (both (is_word width) (all_right ks) (wide_word width (subst IsWide (sym n) w)) r.0), n);
  }

  tells : (e : FExpr) → Tells (width_of e) (kept_of e) (expr_of e)
  tells = ind-FExpr (λ e. Tells (width_of e) (kept_of e) (expr_of e)) (λ x y is.
      subst (λ (w : Kept). Tells w (kept_of (roll-FExpr x)) (expr_of (roll-FExpr x))) (sym (fold-roll-FExpr Kept width_step x))
      (subst (λ (k : Kept). Tells (width_layer x) k (expr_of (roll-FExpr x))) (sym (fold-roll-FExpr Kept kept_step x))
      (subst (Tells (width_layer x) (kept_layer x)) (sym (fold-roll-FExpr f.Expr expr_step x))
      (subst (λ z. Tells (width_layer z) (kept_layer z) (expr_layer z)) is (layer_tells y)))))

  pub sized_right : (e : FExpr) → (width_of e).right ≡ true → IsSized wid (expr_of e) → (kept_of e).right ≡ true
  sized_right e h s = ((tells e).right h s).0

  -- ---- targets

  module _ (may : ℕ → Bool) where
    abbrev TellsTarget : Bool → Kept → f.Target → Type 0
    TellsTarget b k t = b ≡ true → IsTargetSized wid may t → IsRight k (f.target_size wid t)

    abbrev T : Type 0
    T = (t : FTarget) × TellsTarget (target_keeps_sizes t) (target_kept wid t) (target_of t)

    abbrev step_layer : FTarget-F FTarget → Bool
    step_layer x = target_step (map-FTarget FTarget Bool target_keeps_sizes x)

    abbrev target_kept_layer : FTarget-F FTarget → Kept
    target_kept_layer x = s.target_step wid (map-FTarget FTarget Kept (target_kept wid) x)

    abbrev target_layer : FTarget-F FTarget → f.Target
    target_layer x = v.target_step (map-FTarget FTarget f.Target target_of x)

    abbrev plain_target : FTarget-F T → FTarget-F FTarget
    plain_target = map-FTarget T FTarget (λ t. t.0)

    abbrev first_targets : List T → List FTarget
    first_targets = map (λ (t : T). t.0)

    targets_right : (ts : List T) → all_true (map target_keeps_sizes (first_targets ts)) ≡ true → AreTargetsSized wid may (targets_of (map target_of (first_targets ts)))
        → (all_right (map (target_kept wid) (first_targets ts)) ≡ true) × (sum (map (target_kept wid) (first_targets ts)) ≡ f.target_sizes wid (targets_of (map target_of (first_targets ts))))
    targets_right [] h k = (refl, refl)
    targets_right (t ∷ ts) h k =
        let p = and_parts (target_keeps_sizes t.0) (all_true (map target_keeps_sizes (first_targets ts))) h in
        let a = t.1 p.0 k.0 in let b = targets_right ts p.1 k.1 in
        (both (target_kept wid t.0).right (all_right (map (target_kept wid) (first_targets ts))) a.0 b.0, ap₂ (λ m n. m + n) a.1 b.1)

    signal_word : (n s : ℕ) → 1 ≤ n → n ≤ wid s → is_word (wid s) ≡ true
    signal_word n s h k = wide_word (wid s) ((let a : 1 ≤ wid s = omega (arith, h, k) in a), words s)

    layer_target : (y : FTarget-F T) → TellsTarget (step_layer (plain_target y)) (target_kept_layer (plain_target y)) (target_layer (plain_target y))
    layer_target (FTarget-F.Whole sig) h k = (signal_word 1 sig (let a : 1 ≤ 1 = omega arith in a) k.1, refl)
    layer_target (FTarget-F.At sig index) h k =
        let p = pow_pos (f.size (expr_of index)) in
        (both (is_word (wid sig)) (is_sized index) (signal_word (2 ^ f.size (expr_of index)) sig (let a : 1 ≤ 2 ^ f.size (expr_of index) = omega arith in a) k.1) (sized_right index h k.2), refl)
    layer_target (FTarget-F.Part sig at width) h k =
        let l = words sig in let m = k.2 in let o = k.1 in (
          both (is_word width) (nat_le (at + width) (wid sig) && nat_le (wid sig) 64) (wide_word width (k.1, (let a : width ≤ 64 = omega arith in a)))
              (both (nat_le (at + width) (wid sig)) (nat_le (wid sig) 64) (le-leb (at + width) (wid sig) k.2) (le-leb (wid sig) 64 l)),
          refl,
        )
    layer_target (FTarget-F.Join parts) h k =
        let ks = map (target_kept wid) (first_targets parts) in
        let r = targets_right parts h k.2 in
        (both (is_word (sum ks)) (all_right ks) (wide_word (sum ks) (subst IsWide (sym r.1) (k.0, k.1))) r.0, r.1)

    target_tells : (t : FTarget) → TellsTarget (target_keeps_sizes t) (target_kept wid t) (target_of t)
    target_tells = ind-FTarget (λ t. TellsTarget (target_keeps_sizes t) (target_kept wid t) (target_of t)) (λ x y is.
        subst (λ (b : Bool). TellsTarget b (target_kept wid (roll-FTarget x)) (target_of (roll-FTarget x))) (sym (fold-roll-FTarget Bool target_step x))
        (subst (λ (k : Kept). TellsTarget (step_layer x) k (target_of (roll-FTarget x))) (sym (fold-roll-FTarget Kept (s.target_step wid) x))
        (subst (TellsTarget (step_layer x) (target_kept_layer x)) (sym (fold-roll-FTarget f.Target v.target_step x))
        (subst (λ z. TellsTarget (step_layer z) (target_kept_layer z) (target_layer z)) is (layer_target y)))))

    pub target_right : (t : FTarget) → target_keeps_sizes t ≡ true → IsTargetSized wid may (target_of t) → (target_kept wid t).right ≡ true
    target_right t h k = (target_tells t h k).0

    -- ---- statements

    abbrev arm_keeps : FCaseItem → Bool
    arm_keeps = fold-FCaseItem Bool Bool stmt_step arm_step

    abbrev TellsStmt : Bool → Bool → f.Stmt → Type 0
    TellsStmt b k t = b ≡ true → IsStmtSized wid may t → k ≡ true

    abbrev TellsArm : Bool → Bool → Arm → Type 0
    TellsArm b k a = b ≡ true → AreLabelsSized wid a.labels × IsStmtSized wid may a.body → k ≡ true

    abbrev S : Type 0
    S = (x : FStmt) × TellsStmt (stmt_keeps_sizes x) (is_stmt_sized wid x) (stmt_of x)

    abbrev I : Type 0
    I = (i : FCaseItem) × TellsArm (arm_keeps i) (is_arm_sized wid i) (arm_of i)

    abbrev stmt_at : FStmt-F S I → FStmt-F FStmt FCaseItem
    stmt_at = map-FStmt S I FStmt FCaseItem (λ e. e.0) (λ e. e.0)

    abbrev item_at : FCaseItem-F S I → FCaseItem-F FStmt FCaseItem
    item_at = map-FCaseItem S I FStmt FCaseItem (λ e. e.0) (λ e. e.0)

    abbrev keeps_layer : FStmt-F FStmt FCaseItem → Bool
    keeps_layer x = stmt_step (map-FStmt FStmt FCaseItem Bool Bool stmt_keeps_sizes arm_keeps x)

    abbrev sized_layer : FStmt-F FStmt FCaseItem → Bool
    sized_layer x = s.stmt_step wid (map-FStmt FStmt FCaseItem Bool Bool (is_stmt_sized wid) (is_arm_sized wid) x)

    abbrev meant_layer : FStmt-F FStmt FCaseItem → f.Stmt
    meant_layer x = v.stmt_step (map-FStmt FStmt FCaseItem f.Stmt Arm stmt_of arm_of x)

    abbrev arm_keeps_layer : FCaseItem-F FStmt FCaseItem → Bool
    arm_keeps_layer x = arm_step (map-FCaseItem FStmt FCaseItem Bool Bool stmt_keeps_sizes arm_keeps x)

    abbrev arm_sized_layer : FCaseItem-F FStmt FCaseItem → Bool
    arm_sized_layer x = s.arm_step wid (map-FCaseItem FStmt FCaseItem Bool Bool (is_stmt_sized wid) (is_arm_sized wid) x)

    abbrev arm_meant_layer : FCaseItem-F FStmt FCaseItem → Arm
    arm_meant_layer x = v.arm_step (map-FCaseItem FStmt FCaseItem f.Stmt Arm stmt_of arm_of x)

    abbrev first_stmts : List S → List FStmt
    first_stmts = map (λ (e : S). e.0)

    abbrev first_arms : List I → List FCaseItem
    first_arms = map (λ (e : I). e.0)

    stmts_right : (es : List S) → all_true (map stmt_keeps_sizes (first_stmts es)) ≡ true → AreStmtsSized wid may (stmts_of (map stmt_of (first_stmts es))) → list_true wid (map (is_stmt_sized wid) (first_stmts es)) ≡ true
    stmts_right [] h k = refl
    stmts_right (e ∷ es) h k =
        let p = and_parts (stmt_keeps_sizes e.0) (all_true (map stmt_keeps_sizes (first_stmts es))) h in
        both (is_stmt_sized wid e.0) (list_true wid (map (is_stmt_sized wid) (first_stmts es))) (e.1 p.0 k.0) (stmts_right es p.1 k.1)

    arms_right : (es : List I) (last : f.Items) → all_true (map arm_keeps (first_arms es)) ≡ true → AreItemsSized wid may (items_of (map arm_of (first_arms es)) last)
        → (list_true wid (map (is_arm_sized wid) (first_arms es)) ≡ true) × AreItemsSized wid may last
    arms_right [] last h k = (refl, k)
    arms_right (e ∷ es) last h k =
        let p = and_parts (arm_keeps e.0) (all_true (map arm_keeps (first_arms es))) h in
        let r = arms_right es last p.1 k.2 in
        (both (is_arm_sized wid e.0) (list_true wid (map (is_arm_sized wid) (first_arms es))) (e.1 p.0 (k.0, k.1)) r.0, r.1)

    labels_right : (es : List FExpr) → list_all keeps_sizes es ≡ true → AreSized wid (exprs_of (map expr_of es)) → list_all is_sized es ≡ true
    labels_right [] h k = refl
    labels_right (e ∷ es) h k =
        let p = and_parts (keeps_sizes e) (list_all keeps_sizes es) h in both (is_sized e) (list_all is_sized es) (sized_right e p.0 k.0) (labels_right es p.1 k.1)

    stmt_layer : (y : FStmt-F S I) → TellsStmt (keeps_layer (stmt_at y)) (sized_layer (stmt_at y)) (meant_layer (stmt_at y))
    stmt_layer FStmt-F.Null h k = refl
    stmt_layer (FStmt-F.Set blocking t e) h k =
        let p = and_parts (target_keeps_sizes t) (keeps_sizes e) h in both (target_kept wid t).right (is_sized e) (target_right t p.0 k.0) (sized_right e p.1 k.1)
    stmt_layer (FStmt-F.If c a None) h k =
        let x = a.value in
        let p = and_parts (keeps_sizes c) (stmt_keeps_sizes x.0 && true) h in let q = and_parts (stmt_keeps_sizes x.0) true p.1 in
        both (is_sized c) (is_stmt_sized wid x.0 && true) (sized_right c p.0 k.0) (both (is_stmt_sized wid x.0) true (x.1 q.0 k.1) refl)
    stmt_layer (FStmt-F.If c a (Some z)) h k =
        let x = a.value in let y = z.value in
        let p = and_parts (keeps_sizes c) (stmt_keeps_sizes x.0 && stmt_keeps_sizes y.0) h in let q = and_parts (stmt_keeps_sizes x.0) (stmt_keeps_sizes y.0) p.1 in
        both (is_sized c) (is_stmt_sized wid x.0 && is_stmt_sized wid y.0) (sized_right c p.0 k.0) (both (is_stmt_sized wid x.0) (is_stmt_sized wid y.0) (x.1 q.0 k.1) (y.1 q.1 k.2))
    stmt_layer (FStmt-F.Case c items None) h k =
        let p = and_parts (keeps_sizes c) (all_true (map arm_keeps (first_arms items)) && true) h in let q = and_parts (all_true (map arm_keeps (first_arms items))) true p.1 in
        let r = arms_right items f.no_items q.0 k.1 in
        both (is_sized c) (list_true wid (map (is_arm_sized wid) (first_arms items)) && true) (sized_right c p.0 k.0) (both (list_true wid (map (is_arm_sized wid) (first_arms items))) true r.0 refl)
    stmt_layer (FStmt-F.Case c items (Some z)) h k =
        let y = z.value in
        let p = and_parts (keeps_sizes c) (all_true (map arm_keeps (first_arms items)) && stmt_keeps_sizes y.0) h in let q = and_parts (all_true (map arm_keeps (first_arms items))) (stmt_keeps_sizes y.0) p.1 in
        let r = arms_right items (f.default_item (stmt_of y.0)) q.0 k.1 in
        both (is_sized c) (list_true wid (map (is_arm_sized wid) (first_arms items)) && is_stmt_sized wid y.0) (sized_right c p.0 k.0) (both (list_true wid (map (is_arm_sized wid) (first_arms items))) (is_stmt_sized wid y.0) r.0 (y.1 q.1 r.1))
    stmt_layer (FStmt-F.Block parts) h k = stmts_right parts h k

    some_labels : (es : List FExpr) → AreLabelsSized wid (exprs_of (map expr_of es)) → is_some_list es ≡ true
    some_labels [] h = absurd h
    some_labels (e ∷ es) h = refl

    item_layer : (y : FCaseItem-F S I) → TellsArm (arm_keeps_layer (item_at y)) (arm_sized_layer (item_at y)) (arm_meant_layer (item_at y))
    item_layer y h k =
        let b = y.body in
        let p = and_parts (list_all keeps_sizes y.labels) (stmt_keeps_sizes b.0) h in
        both (is_some_list y.labels) (list_all is_sized y.labels && is_stmt_sized wid b.0) (some_labels y.labels k.0)
        (both (list_all is_sized y.labels) (is_stmt_sized wid b.0) (labels_right y.labels p.0 (labels_are_sized wid (exprs_of (map expr_of y.labels)) k.0)) (b.1 p.1 k.1))

    stmt_tells : (x : FStmt) → TellsStmt (stmt_keeps_sizes x) (is_stmt_sized wid x) (stmt_of x)
    stmt_tells = ind-FStmt (λ x. TellsStmt (stmt_keeps_sizes x) (is_stmt_sized wid x) (stmt_of x)) (λ i. TellsArm (arm_keeps i) (is_arm_sized wid i) (arm_of i))
        (λ x y is.
        subst (λ (b : Bool). TellsStmt b (is_stmt_sized wid (roll-FStmt x)) (stmt_of (roll-FStmt x))) (sym (fold-roll-FStmt Bool Bool stmt_step arm_step x))
        (subst (λ (b : Bool). TellsStmt (keeps_layer x) b (stmt_of (roll-FStmt x))) (sym (fold-roll-FStmt Bool Bool (s.stmt_step wid) (s.arm_step wid) x))
        (subst (TellsStmt (keeps_layer x) (sized_layer x)) (sym (fold-roll-FStmt f.Stmt Arm v.stmt_step v.arm_step x))
        (subst (λ z. TellsStmt (keeps_layer z) (sized_layer z) (meant_layer z)) is (stmt_layer y)))))
        (λ x y is.
        subst (λ (b : Bool). TellsArm b (is_arm_sized wid (roll-FCaseItem x)) (arm_of (roll-FCaseItem x))) (sym (fold-roll-FCaseItem Bool Bool stmt_step arm_step x))
        (subst (λ (b : Bool). TellsArm (arm_keeps_layer x) b (arm_of (roll-FCaseItem x))) (sym (fold-roll-FCaseItem Bool Bool (s.stmt_step wid) (s.arm_step wid) x))
        (subst (TellsArm (arm_keeps_layer x) (arm_sized_layer x)) (sym (fold-roll-FCaseItem f.Stmt Arm v.stmt_step v.arm_step x))
        (subst (λ z. TellsArm (arm_keeps_layer z) (arm_sized_layer z) (arm_meant_layer z)) is (item_layer y)))))

    pub stmt_right : (x : FStmt) → stmt_keeps_sizes x ≡ true → IsStmtSized wid may (stmt_of x) → is_stmt_sized wid x ≡ true
    stmt_right = stmt_tells

-- ---- designs

widths_fit : (xs : List Signal) → All (λ (x : Signal). (1 ≤ x.width) × (x.width ≤ 64)) xs → AreWords (width_in xs)
widths_fit [] h s = let l : 0 ≤ 64 = omega arith in l
widths_fit (x ∷ xs) h zero = (All-head (λ (x : Signal). (1 ≤ x.width) × (x.width ≤ 64)) x xs h).1
widths_fit (x ∷ xs) h (suc s) = widths_fit xs (All-tail (λ (x : Signal). (1 ≤ x.width) × (x.width ≤ 64)) x xs h) s

-- a test that each of a list passes, of what it stands for
tested : {A B : Type 0} (P : B → Type 0) (g : A → B) (p q : A → Bool) → ((a : A) → p a ≡ true → P (g a) → q a ≡ true) → (xs : List A) → list_all p xs ≡ true → All P (map g xs) → list_all q xs ≡ true
tested P g p q h [] e k = refl
tested P g p q h (x ∷ xs) e k =
    let c = and_parts (p x) (list_all p xs) e in
    both (q x) (list_all q xs) (h x c.0 (All-head P (g x) (map g xs) k)) (tested P g p q h xs c.1 (All-tail P (g x) (map g xs) k))

words_tested : (xs : List Signal) → All (λ (x : Signal). (1 ≤ x.width) × (x.width ≤ 64)) xs → list_all (λ (x : Signal). is_word x.width) xs ≡ true
words_tested [] h = refl
words_tested (x ∷ xs) h =
    both (is_word x.width) (list_all (λ (x : Signal). is_word x.width) xs) (wide_word x.width (All-head (λ (x : Signal). (1 ≤ x.width) × (x.width ≤ 64)) x xs h))
    (words_tested xs (All-tail (λ (x : Signal). (1 ≤ x.width) × (x.width ≤ 64)) x xs h))

pub well_sized : (d : Flat) → IsSizedFlat (flat_of d) → KeepsSizes d → IsWellSized d
well_sized d h k =
    let wid = width_in d.signals in let words = widths_fit d.signals h.signals in
    record {
      signals = words_tested d.signals h.signals;
      assigns = tested (λ (a : f.Target × f.Expr). IsTargetSized wid any a.0 × IsSized wid a.1) (λ (a : FlatAssign). (target_of a.target, expr_of a.value)) (λ (a : FlatAssign). target_keeps_sizes a.target && keeps_sizes a.value)
          (λ (a : FlatAssign). (target_kept wid a.target).right && is_sized a.value)
          (λ a e s.
          let p = and_parts (target_keeps_sizes a.target) (keeps_sizes a.value) e in
          both (target_kept wid a.target).right (is_sized a.value) (target_right wid words any a.target p.0 s.0) (sized_right wid words a.value p.1 s.1))
          d.assigns k.assigns h.assigns;
      combs = tested (IsStmtSized wid any) (λ (p : FlatComb). stmt_of p.body) (λ (p : FlatComb). stmt_keeps_sizes p.body) (λ (p : FlatComb). is_stmt_sized wid p.body) (λ p e s. stmt_right wid words any p.body e s) d.combs k.combs h.combs;
      clocked = tested (λ (p : ℕ × f.Stmt). IsStmtSized wid any p.1) (λ (p : FlatClocked). (p.clock, stmt_of p.body)) (λ (p : FlatClocked). stmt_keeps_sizes p.body) (λ (p : FlatClocked). is_stmt_sized wid p.body)
          (λ p e s. stmt_right wid words any p.body e s) d.clocked k.clocked h.clocked;
    }

pub well_sized_law : WellSizedLaw
well_sized_law modules formed top resets named d e k = well_sized d (sizes_law modules formed top resets named (flat_of d) e) k
