-- What the trees of drafts read, over marked selects.
use Rattle.std.proofs.Common.{◌≡◌, ℕ, zero, suc, ◌+◌, ◌<◌, false, ◌||◌, refl, sym, ap, ap₂, subst, ◌∙◌, arith, List, [], ◌∷◌, ◌++◌, length, Option, Some, None, slice_get, unwrap_or, length-append, add-zero}
use Rattle.std.specs.List.{AllByRecursion as Each}
use Rattle.std.proofs.lemmas.Option.{slice_get_past}
use Rattle.cell_graph.specs.declared.cell.Cell.{Cell}
use Rattle.cell_graph.specs.declared.cell.Cell.TheVariants.{Var, Const, Not, And, Or, Xor, Add, Sub, Eq, Lt, Shl, Shr, Mux, Concat, Slice, Extend, Reduce}
use Rattle.cell_graph.specs.declared.cell.ReduceKind.TheVariants as kind
use Rattle.cell_graph.specs.Tree as tree
use Rattle.cell_graph.specs.Tree.{Tree}
use Rattle.cell_graph.specs.Unfolded.{tree_at, unfolded}
use Rattle.flat_meaning.specs.Trees.{Selects}
use Rattle.flat_meaning.specs.Deps.{Bits, span}
use Rattle.flat_reads.specs.Marks.{marked, sliced, marks}
use Rattle.flat_reads.proofs.Cells.{or_none}
use Rattle.driver_trees.specs.declared.draft.Draft.{Draft}
use Rattle.driver_trees.specs.declared.draft.Form.{Form}
use Rattle.driver_trees.specs.declared.draft.Form.TheVariants.{Read, Made}
use Rattle.driver_trees.specs.Drafts.{form_tree, trees_after, draft_trees, IsMade, IsDraftAt, AreDrafts}
use Rattle.driver_loops.specs.Leads.{operand_ids}
use Rattle.flat_meaning.proofs.Words.{by_lt}
use Rattle.driver_loops.proofs.Members.{get_left, past_end}
use Rattle.driver_loops.proofs.Through.{operands_before}
use Rattle.loop_law.proofs.Members.{get_past}

-- ---- the list of all trees

module _ (sel : Selects) where
  trees_length : (ts : List Tree) (ds : List Draft) → length (trees_after sel ts ds) ≡ length ts + length ds
  trees_length ts [] = sym (add-zero (length ts))
  trees_length ts (d ∷ ds) = let e = trees_length (ts ++ form_tree sel ts d.width d.form ∷ []) ds in let l = length-append ts (form_tree sel ts d.width d.form ∷ []) in omega arith

  tree_before : (ts : List Tree) (ds : List Draft) (k : ℕ) → k < length ts → slice_get (trees_after sel ts ds) k ≡ slice_get ts k
  tree_before ts [] k h = refl
  tree_before ts (d ∷ ds) k h =
      tree_before (ts ++ form_tree sel ts d.width d.form ∷ []) ds k (let l = length-append ts (form_tree sel ts d.width d.form ∷ []) in omega arith)
      ∙ get_left ts (form_tree sel ts d.width d.form ∷ []) k h

  -- a draft's tree is made of the trees before it, which stay
  pub record IsTreeAt (ts : List Tree) (ds : List Draft) (n : ℕ) (d : Draft) : Type 0 where
    pub before : List Tree
    pub size : length before ≡ length ts + n
    pub made : slice_get (trees_after sel ts ds) (length ts + n) ≡ Some (form_tree sel before d.width d.form)
    pub kept : (k : ℕ) → k < length ts + n → slice_get before k ≡ slice_get (trees_after sel ts ds) k

  pub tree_made : (ts : List Tree) (ds : List Draft) (n : ℕ) (d : Draft) → slice_get ds n ≡ Some d → IsTreeAt ts ds n d
  tree_made ts [] n d h = absurd (cc)
  tree_made ts (e ∷ ds) zero d h =
      let same : e ≡ d = cc in
      let new = form_tree sel ts e.width e.form in record {
        before = ts;
        size = sym (add-zero (length ts));
        made = tree_before (ts ++ new ∷ []) ds (length ts + 0) (let l = length-append ts (new ∷ []) in omega arith)
            ∙ get_past ts (new ∷ []) 0 ∙ ap (λ (x : Draft). Some (form_tree sel ts x.width x.form)) same;
        kept = λ k l. sym (tree_before ts (e ∷ ds) k (omega arith));
      }
  tree_made ts (e ∷ ds) (suc n) d h =
      let new = form_tree sel ts e.width e.form in
      let l = length-append ts (new ∷ []) in
      let at = tree_made (ts ++ new ∷ []) ds n d h in record {
        before = at.before;
        size = at.size ∙ (let z : length (ts ++ new ∷ []) + n ≡ length ts + suc n = omega arith in z);
        made = ap (slice_get (trees_after sel (ts ++ new ∷ []) ds)) (let z : length ts + suc n ≡ length (ts ++ new ∷ []) + n = omega arith in z) ∙ at.made;
        kept = λ k m. at.kept k (omega arith);
      }

-- ---- no tree is a bare signal

abbrev pub IsCovered : Tree → Type 0
IsCovered t = (at w : ℕ) (b : Bits) → sliced t at w b ≡ b

cell_covered : (ds : List Draft) (n w : ℕ) (c : Cell) → IsMade ds n w c → (ts : List Tree) → IsCovered (unfolded [] ts c)
cell_covered ds n w (Var sig) is ts = absurd is
cell_covered ds n w (Const v value) is ts = λ at m b. refl
cell_covered ds n w (Not a) is ts = λ at m b. refl
cell_covered ds n w (And a c) is ts = λ at m b. refl
cell_covered ds n w (Or a c) is ts = λ at m b. refl
cell_covered ds n w (Xor a c) is ts = λ at m b. refl
cell_covered ds n w (Add a c) is ts = λ at m b. refl
cell_covered ds n w (Sub a c) is ts = λ at m b. refl
cell_covered ds n w (Eq a c) is ts = λ at m b. refl
cell_covered ds n w (Lt a c) is ts = λ at m b. refl
cell_covered ds n w (Shl a by) is ts = λ at m b. refl
cell_covered ds n w (Shr a by) is ts = λ at m b. refl
cell_covered ds n w (Mux c x y) is ts = λ at m b. refl
cell_covered ds n w (Concat high low) is ts = λ at m b. refl
cell_covered ds n w (Slice a at v) is ts = λ at m b. refl
cell_covered ds n w (Extend a v) is ts = λ at m b. refl
cell_covered ds n w (Reduce kind.And a) is ts = λ at m b. refl
cell_covered ds n w (Reduce kind.Or a) is ts = λ at m b. refl
cell_covered ds n w (Reduce kind.Xor a) is ts = λ at m b. refl

form_covered : (wid : ℕ → ℕ) (ds : List Draft) (n w : ℕ) (f : Form) → IsDraftAt wid ds n w f → (ts : List Tree) → IsCovered (form_tree marked ts w f)
form_covered wid ds n w (Read sig at) is ts = λ at m b. refl
form_covered wid ds n w (Made c) is ts = cell_covered ds n w c is ts

-- ---- what a cell reads

-- what the trees at some places read
abbrev pub any_reads : List Tree → List ℕ → Bits
any_reads ts [] s j = false
any_reads ts (a ∷ as_) s j = marks (unwrap_or (slice_get ts a) (tree.Const 1 0)) s j || any_reads ts as_ s j

cell_reads : (ts : List Tree) → ((k : ℕ) → IsCovered (unwrap_or (slice_get ts k) (tree.Const 1 0))) → (c : Cell) (s j : ℕ) → marks (unfolded [] ts c) s j ≡ any_reads ts (operand_ids c) s j
cell_reads ts h (Var sig) s j = refl
cell_reads ts h (Const v value) s j = refl
cell_reads ts h (Not a) s j = sym (or_none _)
cell_reads ts h (And a b) s j = ap (λ x. marks (tree_at ts a) s j || x) (sym (or_none _))
cell_reads ts h (Or a b) s j = ap (λ x. marks (tree_at ts a) s j || x) (sym (or_none _))
cell_reads ts h (Xor a b) s j = ap (λ x. marks (tree_at ts a) s j || x) (sym (or_none _))
cell_reads ts h (Add a b) s j = ap (λ x. marks (tree_at ts a) s j || x) (sym (or_none _))
cell_reads ts h (Sub a b) s j = ap (λ x. marks (tree_at ts a) s j || x) (sym (or_none _))
cell_reads ts h (Eq a b) s j = ap (λ x. marks (tree_at ts a) s j || x) (sym (or_none _))
cell_reads ts h (Lt a b) s j = ap (λ x. marks (tree_at ts a) s j || x) (sym (or_none _))
cell_reads ts h (Shl a by) s j = ap (λ x. marks (tree_at ts a) s j || x) (sym (or_none _))
cell_reads ts h (Shr a by) s j = ap (λ x. marks (tree_at ts a) s j || x) (sym (or_none _))
cell_reads ts h (Mux c x y) s j = ap (λ z. marks (tree_at ts c) s j || (marks (tree_at ts x) s j || z)) (sym (or_none _))
cell_reads ts h (Concat high low) s j = ap (λ x. marks (tree_at ts high) s j || x) (sym (or_none _))
cell_reads ts h (Slice a at v) s j = ap (λ (b : Bits). b s j) (h a.0 at v (marks (tree_at ts a))) ∙ sym (or_none _)
cell_reads ts h (Extend a v) s j = sym (or_none _)
cell_reads ts h (Reduce kind.And a) s j = sym (or_none _)
cell_reads ts h (Reduce kind.Or a) s j = sym (or_none _)
cell_reads ts h (Reduce kind.Xor a) s j = sym (or_none _)

-- ---- drafts

-- the tree at a place, and what it reads
abbrev pub tree_no : List Draft → ℕ → Tree
tree_no ds n = unwrap_or (slice_get (draft_trees marked ds) n) (tree.Const 1 0)

abbrev pub reads_at : List Draft → ℕ → Bits
reads_at ds n = marks (tree_no ds n)

same_any : (ts us : List Tree) (n : ℕ) → ((k : ℕ) → k < n → slice_get ts k ≡ slice_get us k) → (ids : List ℕ) → Each (λ k. k < n) ids → (s j : ℕ) → any_reads ts ids s j ≡ any_reads us ids s j
same_any ts us n h [] l s j = refl
same_any ts us n h (a ∷ as_) l s j = ap₂ (λ o x. marks (unwrap_or o (tree.Const 1 0)) s j || x) (h a l.0) (same_any ts us n h as_ l.1 s j)

module _ (wid : ℕ → ℕ) (ds : List Draft) (are : AreDrafts wid ds) where
  all_covered : (n : ℕ) → IsCovered (tree_no ds n)
  all_covered n = go (slice_get ds n) refl
    where
      go : (o : Option Draft) → slice_get ds n ≡ o → IsCovered (tree_no ds n)
      go (Some d) e =
          let at = tree_made marked [] ds n d e in
          subst (λ (t : Tree). IsCovered t) (sym (ap (λ o. unwrap_or o (tree.Const 1 0)) (ap (slice_get (draft_trees marked ds)) (let z : n ≡ 0 + n = omega arith in z) ∙ at.made))) (form_covered wid ds n d.width d.form (are n d e) at.before)
      go None e =
          let l = trees_length marked [] ds in
          subst (λ (t : Tree). IsCovered t) (sym (ap (λ o. unwrap_or o (tree.Const 1 0)) (slice_get_past (draft_trees marked ds) n (let m = past_end ds n e in omega arith)))) (λ at m b. refl)

  module _ (n : ℕ) (d : Draft) (stands : slice_get ds n ≡ Some d) where
    tree_is : (f : Form) → d.form ≡ f → tree_no ds n ≡ form_tree marked (tree_made marked [] ds n d stands).before d.width f
    tree_is f e =
        ap (λ o. unwrap_or o (tree.Const 1 0)) (ap (slice_get (draft_trees marked ds)) (let z : n ≡ 0 + n = omega arith in z) ∙ (tree_made marked [] ds n d stands).made)
        ∙ ap (form_tree marked (tree_made marked [] ds n d stands).before d.width) e

    is_form : (f : Form) → d.form ≡ f → IsDraftAt wid ds n d.width f
    is_form f e = subst (IsDraftAt wid ds n d.width) e (are n d stands)

    pub read_reads : (sig at : ℕ) → d.form ≡ Read sig at → (s j : ℕ) → reads_at ds n s j ≡ span sig at d.width s j
    read_reads sig at e s j = ap (λ t. marks t s j) (tree_is (Read sig at) e)

    pub operands_stand_before : (c : Cell) → d.form ≡ Made c → Each (λ k. k < n) (operand_ids c)
    operands_stand_before c e = operands_before ds n d.width c (is_form (Made c) e)

    -- the trees before it are those that stand before it
    before_kept : (k : ℕ) → k < n → slice_get (tree_made marked [] ds n d stands).before k ≡ slice_get (draft_trees marked ds) k
    before_kept k l = (tree_made marked [] ds n d stands).kept k (let z : 0 + n ≡ n = omega arith in omega arith)

    before_covered : (k : ℕ) → IsCovered (unwrap_or (slice_get (tree_made marked [] ds n d stands).before k) (tree.Const 1 0))
    before_covered k = by_lt (λ u. IsCovered (unwrap_or (slice_get (tree_made marked [] ds n d stands).before k) (tree.Const 1 0))) k n
        (λ l. subst (λ (o : Option Tree). IsCovered (unwrap_or o (tree.Const 1 0))) (sym (before_kept k l)) (all_covered k))
        (λ l. let e = (tree_made marked [] ds n d stands).size in
        subst (λ (o : Option Tree). IsCovered (unwrap_or o (tree.Const 1 0))) (sym (slice_get_past (tree_made marked [] ds n d stands).before k (omega arith))) (λ at m b. refl))

    pub made_reads : (c : Cell) → d.form ≡ Made c → (s j : ℕ) → reads_at ds n s j ≡ any_reads (draft_trees marked ds) (operand_ids c) s j
    made_reads c e s j =
        ap (λ t. marks t s j) (tree_is (Made c) e) ∙ cell_reads (tree_made marked [] ds n d stands).before before_covered c s j
        ∙ same_any (tree_made marked [] ds n d stands).before (draft_trees marked ds) n before_kept (operand_ids c) (operands_stand_before c e) s j
