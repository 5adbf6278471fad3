-- Which labels of its first item the subject of a `casez` meets.
use Rattle.std.proofs.Common.{◌≡◌, ℕ, ◌≤◌, max, Bool, true, false, cond, not, ◌==◌, nat_lt, List, [], ◌∷◌, ◌++◌, map, Option, Some, None, refl, sym, ap, ap₂, subst, ◌∙◌, arith, rules}
use Rattle.std.specs.Prelude.{is_some, option_map, All}
use Rattle.verilog_ast.specs.declared.Label.{Label}
use Rattle.verilog_ast.specs.declared.CaseItem.{CaseItem}
use Rattle.verilog_reading.specs.ExprTree.{ExprTree}
use Rattle.verilog_reading.specs.StmtTree.{ArmTree, ArmTrees, arms_of, label_tree_of}
use Rattle.flat_meaning.specs.Flat.{Expr, size}
use Rattle.flat_form.specs.declared.flat.FExpr.{FExpr}
use Rattle.flat_form.specs.View.{expr_of}
use Rattle.flat_form.specs.Sizes.{kept_of, is_sized}
use Rattle.flat_form.proofs.Sized.{width_word, sized_width, sized_range}
use Rattle.flat_unfolding.specs.Outcome.{Broken}
use Rattle.flat_unfolding.specs.Names.{Look}
use Rattle.flat_unfolding.specs.Constants.{own_value}
use Rattle.flat_unfolding.specs.Expressions.{is_empty, read}
use Rattle.flat_unfolding.specs.Formed.{IsLabelFormed, AreArmsFormed}
use Rattle.flat_unfolding.specs.Statements.{clocked, Mask, Way, masks_broken, masks_size, ways_size, mask_test, mask_of, ways}
use Rattle.flat_unfolding.specs.Resets.{labels_broken, is_met, labels_met}
use Rattle.flat_unfolding.proofs.Steps.{none_of_both}
use Rattle.flat_names.specs.declared.fault.Rule.{Rule}
use Rattle.flat_names.specs.declared.fault.Order.{Order}
use Rattle.flat_names.specs.declared.resolved.Resolved.{Resolved}
use Rattle.flat_names.specs.Noting.{Noted, number_of, order_of, all_noted}
use Rattle.flat_names.specs.Pieces.{IsRead}
use Rattle.flat_names.proofs.Notes.{noted-both}
use Rattle.flat_targets.proofs.Reading.{some-map}
use Rattle.flat_statements.specs.declared.masks.MaskLabel.{MaskLabel}
use Rattle.flat_statements.specs.Statements.{arm_tree_of}
use Rattle.flat_statements.specs.Masks.{AreMasks, IsLargest, labels_width, mask_in, AllFit, AreRight, IsTest}
use Rattle.flat_statements.proofs.Chains.{masks-sized, labels-fit, labels-small, labels-same}
use Rattle.flat_statements.proofs.Done.{read-expr, read-sized}
use Rattle.flat_statements.proofs.Loops.{push-push}
use Rattle.flat_statements.proofs.Tests.{mask-same}
use Rattle.flat_statements.proofs.Trees.{arm-tree}
use Rattle.flat_statements.proofs.Written.{item-formed}

-- ---- whether a rule was noted

some-noted : (order : Order) (b : Broken) (bs : List Broken) → is_some (all_noted (record { order = order; found = Some b }) bs).found ≡ true
some-noted order b [] = refl
some-noted order b (c ∷ bs) = some-noted order (cond (nat_lt (order_of order c.number) (order_of order b.number)) c b) bs

pub rule-noted : (bs : List Broken) (order : Order) (f : Noted) (r : Option Rule) → f ≡ all_noted (record { order = order; found = None }) bs
    → option_map number_of r ≡ option_map (λ (b : Broken). b.number) f.found → is_some r ≡ not (is_empty bs)
rule-noted bs order f r h i = sym (some-map number_of r) ∙ ap is_some i ∙ some-map (λ (b : Broken). b.number) f.found ∙ ap (λ (x : Noted). is_some x.found) h ∙ go bs
  where
    go : (bs : List Broken) → is_some (all_noted (record { order = order; found = None }) bs).found ≡ not (is_empty bs)
    go [] = refl
    go (b ∷ bs) = some-noted order b bs

is-empty : (bs : List Broken) → is_empty bs ≡ true → bs ≡ []
is-empty [] e = refl
is-empty (b ∷ bs) e = absurd (search (rules, e))

-- ---- sizes

masks-least : (n : ℕ) (ms : List Mask) → n ≤ masks_size n ms
masks-least n [] = omega arith
masks-least n (m ∷ ms) = let h = masks-least (max n (size m.term.expr)) ms in omega arith

ways-least : (n : ℕ) (ws : List Way) → n ≤ ways_size n ws
ways-least n [] = omega arith
ways-least n (w ∷ ws) = let h = ways-least (masks_size n w.masks) ws in let k = masks-least n w.masks in omega arith

module _ (l : Look) where
  abbrev pub item_rows : List CaseItem → ArmTrees
  item_rows xs = arms_of (map arm_tree_of xs)

  abbrev pub ways_in : List CaseItem → List Way
  ways_in xs = ways l clocked (item_rows xs)

  abbrev arm_masks : ArmTree → List Mask
  arm_masks a = map (mask_of l clocked) a.labels

  abbrev label_masks : List Label → List Mask
  label_masks xs = map (mask_of l clocked) (map label_tree_of xs)

  same-masks : (x : CaseItem) → arm_masks (arm_tree_of x) ≡ label_masks x.labels
  same-masks x = ap arm_masks (arm-tree x)

  -- the largest size so far
  pub record SizeSoFar (n : ℕ) (all rest : List CaseItem) (w : ℕ) (before now : Noted) : Type 0 where
    pub formed : AreArmsFormed (item_rows rest)
    pub clean : labels_broken (ways_in all) ≡ [] → labels_broken (ways_in rest) ≡ []
    pub same : labels_broken (ways_in all) ≡ [] → ways_size w (ways_in rest) ≡ ways_size n (ways_in all)
    pub most : labels_broken (ways_in all) ≡ [] → n ≤ 64 → w ≤ 64
    pub noted : all_noted now (labels_broken (ways_in rest)) ≡ all_noted before (labels_broken (ways_in all))

  pub size-start : (n : ℕ) (all : List CaseItem) (f : Noted) → AreArmsFormed (item_rows all) → SizeSoFar n all all n f f
  size-start n all f h = record { formed = h; clean = λ e. e; same = λ e. refl; most = λ e k. k; noted = refl }

  pub size-step : (n : ℕ) (all rest left : List CaseItem) (x : CaseItem) (cs : List MaskLabel) (w v : ℕ) (before now next : Noted) → SizeSoFar n all left w before now → left ≡ x ∷ rest
      → AreMasks (label_masks x.labels) cs → next ≡ all_noted now (masks_broken (label_masks x.labels)) → v ≡ labels_width w cs → SizeSoFar n all rest v before next
  size-step n all rest left x cs w v before now next h e a i j =
      let g = subst (λ ys. SizeSoFar n all ys w before now) e h in
      let ms = label_masks x.labels in
      let first = arm_masks (arm_tree_of x) in
      let tree : first ≡ ms = same-masks x in
      let later = ways_in rest in
      let both : labels_broken (ways_in all) ≡ [] → (masks_broken first ≡ []) × (labels_broken later ≡ []) = λ n. none_of_both (masks_broken first) (labels_broken later) (g.clean n) in
      let sound : labels_broken (ways_in all) ≡ [] → masks_broken ms ≡ [] = λ n. subst (λ xs. masks_broken xs ≡ []) tree (both n).0 in
      record {
        formed = g.formed.2;
        clean = λ n. (both n).1;
        same = λ n. ap (λ k. ways_size k later) (j ∙ labels-same w ms cs a (sound n) ∙ ap (masks_size w) (sym tree)) ∙ g.same n;
        most = λ n k. subst (λ m. m ≤ 64) (sym j) (labels-small w cs (masks-sized ms cs a (sound n)) (g.most n k));
        noted = ap (λ f. all_noted f (labels_broken later)) (i ∙ ap (λ xs. all_noted now (masks_broken xs)) (sym tree)) ∙ sym (noted-both now (masks_broken first) (labels_broken later)) ∙ g.noted;
      }

  pub size-end : (n : ℕ) (all : List CaseItem) (w : ℕ) (before now : Noted) → SizeSoFar n all [] w before now → IsLargest n (ways_in all) w × (now ≡ all_noted before (labels_broken (ways_in all)))
  size-end n all w before now h = (record { same = h.same; most = h.most }, h.noted)

-- ---- labels that are met

abbrev pub met_of : (w : ℕ) → Expr → List MaskLabel → List Bool
met_of w e cs = map (λ (c : MaskLabel). is_met w e (mask_in c)) cs

pub record MetSoFar (w : ℕ) (s : FExpr) (all rest : List MaskLabel) (bs : List Bool) : Type 0 where
  pub met : bs ++ met_of w (expr_of s) rest ≡ met_of w (expr_of s) all
  pub fit : AllFit w rest

pub met-start : (w : ℕ) (s : FExpr) (all : List MaskLabel) (bs : List Bool) → AreRight w s all → bs ≡ [] → MetSoFar w s all all bs
met-start w s all bs r e = record { met = ap (λ xs. xs ++ met_of w (expr_of s) all) e; fit = r.labels }

pub met-step : (w : ℕ) (s : FExpr) (all rest left : List MaskLabel) (c : MaskLabel) (e : FExpr) (v : ℕ) (b : Bool) (bs : List Bool) → AreRight w s all → MetSoFar w s all left bs → left ≡ c ∷ rest
    → IsTest (AreRight w s (c ∷ [])) (mask_test w (expr_of s) (mask_in c)) e → (is_sized e ≡ true → v ≡ own_value (expr_of e)) → b ≡ not (v == 0) → MetSoFar w s all rest (bs ++ b ∷ [])
met-step w s all rest left c e v b bs r h i t k j =
    let g = subst (λ cs. MetSoFar w s all cs bs) i h in
    let one : AreRight w s (c ∷ []) = record { size = r.size; subject = r.subject; labels = (g.fit.0, tt) } in
    let is : b ≡ is_met w (expr_of s) (mask_in c) = j ∙ ap (λ n. not (n == 0)) (k (t.sized one) ∙ ap own_value (t.expr one)) in
    record { met = push-push bs b (met_of w (expr_of s) rest) ∙ ap (λ x. bs ++ x ∷ met_of w (expr_of s) rest) is ∙ g.met; fit = g.fit.1 }

met-same : (w : ℕ) (e : Expr) (ms : List Mask) (cs : List MaskLabel) → AreMasks ms cs → masks_broken ms ≡ [] → met_of w e cs ≡ map (is_met w e) ms
met-same w e [] [] h n = refl
met-same w e [] (c ∷ cs) h n = absurd h
met-same w e (m ∷ ms) [] h n = absurd h
met-same w e (m ∷ ms) (c ∷ cs) h n = let p = none_of_both m.term.broken (masks_broken ms) n in
    ap₂ (λ b bs. b ∷ bs) (ap (λ x. not (own_value x == 0)) (mask-same w e m c h.0 p.0)) (met-same w e ms cs h.1 p.1)

module _ (l : Look) (e : ExprTree) where
  -- the rules that the subject and the labels break
  abbrev pub all_broken : List CaseItem → List Broken
  all_broken xs = (read l e).broken ++ labels_broken (ways_in l xs)

  -- those of the first item, where none is broken
  pub first-met : (x : CaseItem) (rest : List CaseItem) (s : Resolved) (cs : List MaskLabel) (w : ℕ) (bs : List Bool) → is_empty (all_broken (x ∷ rest)) ≡ true → IsRead (read l e) s
      → IsLargest (kept_of s.expr).width (ways_in l (x ∷ rest)) w → AreMasks (label_masks l x.labels) cs → (AreRight w s.expr cs → bs ≡ met_of w (expr_of s.expr) cs) → Some bs ≡ labels_met l e (item_rows l (x ∷ rest))
  first-met x rest s cs w bs clean r g a b =
      let k = read l e in
      let ws = ways_in l (x ∷ rest) in
      let later = ways_in l rest in
      let first = arm_masks l (arm_tree_of x) in
      let ms = label_masks l x.labels in
      let tree : first ≡ ms = same-masks l x in
      let p = none_of_both k.broken (labels_broken ws) (is-empty (all_broken (x ∷ rest)) clean) in
      let q = none_of_both (masks_broken first) (labels_broken later) p.1 in
      let sound : masks_broken ms ≡ [] = subst (λ xs. masks_broken xs ≡ []) tree q.0 in
      let sized = read-sized k s r p.0 in
      let n = (kept_of s.expr).width in
      let wide = sized_range s.expr sized in
      let some = wide.some in
      let same : w ≡ ways_size (size k.expr) ws = g.same p.1 ∙ ap (λ m. ways_size m ws) (sized_width s.expr sized ∙ ap size (read-expr k s r p.0)) in
      let small = g.most p.1 wide.most in
      let all : labels_width n cs ≡ masks_size n first = labels-same n ms cs a sound ∙ ap (masks_size n) (sym tree) in
      let least = ways-least (masks_size n first) later in
      let begun = masks-least n first in
      let room : ways_size (masks_size n first) later ≡ w = sym (g.same p.1) in
      let right : AreRight w s.expr cs = record {
        size = width_word w (record { some = omega arith; most = small });
        subject = sized;
        labels = labels-fit n w cs (masks-sized ms cs a sound) (omega arith);
      } in
      ap Some (b right ∙ ap₂ (λ m x. met_of m x cs) same (read-expr k s r p.0) ∙ met-same (ways_size (size k.expr) ws) k.expr ms cs a sound ∙ ap (map (is_met (ways_size (size k.expr) ws) k.expr)) (sym tree))
      ∙ ap (λ t. cond t (Some (map (is_met (ways_size (size k.expr) ws) k.expr) first)) None) (sym clean)

  pub met-is : (xs rest : List CaseItem) (x : CaseItem) (s : Resolved) (cs : List MaskLabel) (w : ℕ) (bs : List Bool) → xs ≡ x ∷ rest → is_empty (all_broken xs) ≡ true → IsRead (read l e) s
      → IsLargest (kept_of s.expr).width (ways_in l xs) w → AreMasks (label_masks l x.labels) cs → (AreRight w s.expr cs → bs ≡ met_of w (expr_of s.expr) cs) → Some bs ≡ labels_met l e (item_rows l xs)
  met-is xs rest x s cs w bs h = subst (λ ys. is_empty (all_broken ys) ≡ true → IsRead (read l e) s → IsLargest (kept_of s.expr).width (ways_in l ys) w → AreMasks (label_masks l x.labels) cs
      → (AreRight w s.expr cs → bs ≡ met_of w (expr_of s.expr) cs) → Some bs ≡ labels_met l e (item_rows l ys)) (sym h) (first-met x rest s cs w bs)

  first-unmet : (x : CaseItem) (rest : List CaseItem) → is_empty (all_broken (x ∷ rest)) ≡ false → None ≡ labels_met l e (item_rows l (x ∷ rest))
  first-unmet x rest h = ap (λ t. cond t (Some (map (is_met (ways_size (size (read l e).expr) (ways_in l (x ∷ rest))) (read l e).expr) (arm_masks l (arm_tree_of x)))) None) (sym h)

  -- nothing where one is
  pub unmet-is : (xs rest : List CaseItem) (x : CaseItem) → xs ≡ x ∷ rest → is_empty (all_broken xs) ≡ false → None ≡ labels_met l e (item_rows l xs)
  unmet-is xs rest x h = subst (λ ys. is_empty (all_broken ys) ≡ false → None ≡ labels_met l e (item_rows l ys)) (sym h) (first-unmet x rest)

-- the labels of the first item are as readings of texts give them
pub first-labels : (xs rest : List CaseItem) (x : CaseItem) → xs ≡ x ∷ rest → AreArmsFormed (arms_of (map arm_tree_of xs)) → All IsLabelFormed (map label_tree_of x.labels)
first-labels xs rest x h f = (item-formed x rest (subst (λ (ys : List CaseItem). AreArmsFormed (arms_of (map arm_tree_of ys))) h f)).0

pub is-clean : (bs : List Broken) → not (is_empty bs) ≡ false → is_empty bs ≡ true
is-clean [] e = refl
is-clean (b ∷ bs) e = absurd (search (rules, e))

pub is-broken : (bs : List Broken) → not (is_empty bs) ≡ true → is_empty bs ≡ false
is-broken [] e = absurd (search (rules, e))
is-broken (b ∷ bs) e = refl
