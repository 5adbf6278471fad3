-- Each form of a written statement is done as its parts make it, and notes what they note.
use Rattle.std.proofs.Common.{◌≡◌, Bool, false, ◌&&◌, List, [], ◌∷◌, ◌++◌, map, All, refl, sym, ap, subst, ◌∙◌}
use Rattle.verilog_ast.specs.declared.Label.{Label}
use Rattle.verilog_ast.specs.declared.Stmt.{Stmt}
use Rattle.verilog_ast.specs.declared.CaseItem.{CaseItem}
use Rattle.verilog_ast.specs.declared.Stmt.TheVariants as s
use Rattle.verilog_reading.specs.ExprTree.{ExprTree}
use Rattle.verilog_reading.specs.StmtTree.{StmtTree, when, either, switch, switch_else, subject_of, block, StmtTrees, LabelTree, ArmTree, ArmTrees, stmt_tree_of, arms_of, label_tree_of}
use Rattle.flat_meaning.specs.Flat.{If, Null, Case, default_item}
use Rattle.flat_form.specs.declared.flat.FStmt.{FStmt}
use Rattle.flat_form.specs.declared.flat.FStmt.TheVariants as form
use Rattle.flat_form.specs.declared.flat.FCaseItem.{FCaseItem}
use Rattle.flat_form.specs.View.{expr_of, stmt_of, arm_of, items_of}
use Rattle.flat_unfolding.specs.Names.{Look}
use Rattle.flat_unfolding.specs.Expressions.{all_broken, read}
use Rattle.flat_unfolding.specs.Formed.{IsLabelFormed, IsStmtFormed, AreArmsFormed, AreLabels}
use Rattle.flat_unfolding.specs.Statements.{Kind, Done, ways_broken, chained, done, done_all, arms, ways, read_list}
use Rattle.flat_unfolding.specs.Widths.{keeps_sizes, all_true, stmt_keeps_sizes}
use Rattle.flat_names.specs.declared.resolved.Resolved.{Resolved}
use Rattle.flat_names.specs.declared.resolved.Parts.{Parts}
use Rattle.flat_names.specs.Noting.{Noted, all_noted}
use Rattle.flat_names.specs.Pieces.{IsRead, AreRead}
use Rattle.flat_names.proofs.Notes.{then-noted}
use Rattle.flat_statements.specs.Statements.{arm_tree_of, arm_keeps_sizes, Builds, IsDone, AreDone, AreArms}
use Rattle.flat_statements.proofs.Done.{done-null, done-when, done-either, done-switch_else, done-block}
use Rattle.flat_statements.proofs.Forms.{builds-block}
use Rattle.flat_statements.proofs.Loops.{ArmsSoFar, arms-step}
use Rattle.flat_statements.proofs.Trees.{tree-null, arm-tree, item-is}

module _ (l : Look) (k : Kind) where
  -- what was read of a statement and of an expression, between two notes of broken rules
  abbrev pub IsResolved : StmtTree → (before now : Noted) → FStmt → Type 0
  IsResolved s f g r = IsDone (done l k s) r × (g ≡ all_noted f (done l k s).broken)

  abbrev pub IsSettled : ExprTree → (before now : Noted) → Resolved → Type 0
  IsSettled e f g c = IsRead (read l e) c × (g ≡ all_noted f (read l e).broken)

  pub null-written : (x : Stmt) → x ≡ s.Null → (f : Noted) → IsResolved (stmt_tree_of x) f f form.Null
  null-written x e f = subst (λ t. IsResolved t f f form.Null) (sym (ap stmt_tree_of e ∙ tree-null)) (done-null l k, refl)

  pub when-written : (e : ExprTree) (t : StmtTree) (f g h : Noted) (c : Resolved) (x r : FStmt) → IsSettled e f g c → IsResolved t g h x
      → Builds r (If (expr_of c.expr) (stmt_of x) Null) (keeps_sizes c.expr && stmt_keeps_sizes x) → IsResolved (when e t) f h r
  when-written e t f g h c x r i j b = (done-when l k e t c x r i.0 j.0 b, then-noted f g h (read l e).broken (done l k t).broken i.1 j.1)

  pub either-written : (e : ExprTree) (t u : StmtTree) (f g h n : Noted) (c : Resolved) (x y r : FStmt) → IsSettled e f g c → IsResolved t g h x → IsResolved u h n y
      → Builds r (If (expr_of c.expr) (stmt_of x) (stmt_of y)) (keeps_sizes c.expr && (stmt_keeps_sizes x && stmt_keeps_sizes y)) → IsResolved (either e t u) f n r
  either-written e t u f g h n c x y r i j o b = let p = (read l e).broken in let q = (done l k t).broken in
      (done-either l k e t u c x y r i.0 j.0 o.0 b, then-noted f h n (p ++ q) (done l k u).broken (then-noted f g h p q i.1 j.1) o.1)

  pub switch-noted : (e : ExprTree) (rows : ArmTrees) (f g h : Noted) → g ≡ all_noted f (read l e).broken → h ≡ all_noted g (arms l k rows).broken → h ≡ all_noted f (done l k (switch (subject_of false e) rows)).broken
  switch-noted e rows f g h i j = then-noted f g h (read l e).broken (arms l k rows).broken i j

  pub switch_else-written : (e : ExprTree) (rows : ArmTrees) (d : StmtTree) (f g h n : Noted) (c : Resolved) (is : List FCaseItem) (sound constant : Bool) (x r : FStmt) → IsSettled e f g c
      → AreArms (arms l k rows) is sound constant × (h ≡ all_noted g (arms l k rows).broken) → IsResolved d h n x
      → Builds r (Case (expr_of c.expr) (items_of (map arm_of is) (default_item (stmt_of x)))) (keeps_sizes c.expr && (all_true (map arm_keeps_sizes is) && stmt_keeps_sizes x)) → IsResolved (switch_else (subject_of false e) rows d) f n r
  switch_else-written e rows d f g h n c is sound constant x r i j o b = let p = (read l e).broken in let q = (arms l k rows).broken in
      (done-switch_else l k e rows d c is sound constant x r i.0 j.0 o.0 b, then-noted f h n (p ++ q) (done l k d).broken (then-noted f g h p q i.1 j.1) o.1)

  pub chain-noted : (e : ExprTree) (rows : ArmTrees) (d : Done) (f g h n : Noted) → g ≡ all_noted f (read l e).broken → h ≡ all_noted g (ways_broken (ways l k rows)) → n ≡ all_noted h d.broken
      → n ≡ all_noted f (chained (read l e) (ways l k rows) d).broken
  chain-noted e rows d f g h n i j o = let p = (read l e).broken in let q = ways_broken (ways l k rows) in then-noted f h n (p ++ q) d.broken (then-noted f g h p q i j) o

  pub block-written : (rows : StmtTrees) (f g : Noted) (xs : List FStmt) → AreDone (done_all l k rows) xs × (g ≡ all_noted f (done_all l k rows).broken) → IsResolved (block rows) f g (form.Block xs)
  block-written rows f g xs h = let b = builds-block xs in (done-block l k rows xs (form.Block xs) h.0 b.stmt b.sizes, h.1)

-- ---- items of a `case`

labels-formed : (es : List LabelTree) → AreLabels es → All IsLabelFormed es
labels-formed [] h = absurd h
labels-formed (e ∷ es) h = h

pub item-formed : (x : CaseItem) (rest : List CaseItem) → AreArmsFormed (arms_of (map arm_tree_of (x ∷ rest))) → All IsLabelFormed (map label_tree_of x.labels) × IsStmtFormed (stmt_tree_of x.body)
item-formed x rest h = (labels-formed (map label_tree_of x.labels) (subst (λ (a : ArmTree). AreLabels a.labels) (arm-tree x) h.0), subst (λ (a : ArmTree). IsStmtFormed a.body) (arm-tree x) h.1)

module _ (l : Look) (k : Kind) where
  -- the items so far with one more
  pub item-written : (all rest left : List CaseItem) (x : CaseItem) (labels : List Label) (is js : List FCaseItem) (sound constant also still : Bool) (p : Parts) (b : FStmt) (f g h n : Noted)
      → ArmsSoFar l k all left is sound constant f g → left ≡ x ∷ rest → labels ≡ x.labels
      → AreRead (read_list l k (map label_tree_of labels)) p × (h ≡ all_noted g (all_broken (read_list l k (map label_tree_of labels)))) → IsResolved l k (stmt_tree_of x.body) h n b
      → (also ≡ (sound && p.is_sound)) × (still ≡ (constant && p.is_constant)) × (js ≡ is ++ (record { labels = p.items.items; body = b }) ∷ []) → ArmsSoFar l k all rest js also still f n
  item-written all rest left x labels is js sound constant also still p b f g h n before e o r d new =
      let i : FCaseItem = record { labels = p.items.items; body = b } in
      let tree = arm-tree x in
      let terms = λ (ls : List Label). read_list l k (map label_tree_of ls) in
      let read_there : AreRead (read_list l k (arm_tree_of x).labels) p = subst (λ (a : ArmTree). AreRead (read_list l k a.labels) p) (sym tree) (subst (λ ls. AreRead (terms ls) p) o r.0) in
      let done_there : IsDone (done l k (arm_tree_of x).body) b = subst (λ (a : ArmTree). IsDone (done l k a.body) b) (sym tree) d.0 in
      let told : n ≡ all_noted (all_noted g (all_broken (read_list l k (arm_tree_of x).labels))) (done l k (arm_tree_of x).body).broken =
      d.1 ∙ ap (λ m. all_noted m (done l k (stmt_tree_of x.body)).broken) (r.1 ∙ ap (λ ls. all_noted g (all_broken (terms ls))) o)
      ∙ ap (λ (a : ArmTree). all_noted (all_noted g (all_broken (read_list l k a.labels))) (done l k a.body).broken) (sym tree) in
      subst (λ s. ArmsSoFar l k all rest js s still f n) (sym new.0)
      (subst (λ c. ArmsSoFar l k all rest js (sound && p.is_sound) c f n) (sym new.1)
      (subst (λ ys. ArmsSoFar l k all rest ys (sound && p.is_sound) (constant && p.is_constant) f n) (sym new.2)
      (arms-step l k all rest left x is sound constant p b i f g n before e read_there done_there (item-is p.items.items b) told)))
