-- What is done of a list's items, and what the rest will add.
use Rattle.std.proofs.Common.{◌≡◌, ℕ, suc, ◌+◌, ◌^◌, ◌<◌, ◌≤◌, Bool, true, false, ◌&&◌, List, [], ◌∷◌, ◌++◌, map, refl, sym, ap, ap₂, subst, ◌∙◌, arith, append-nil}
use Rattle.std.specs.Prelude.{All}
use Rattle.std.proofs.lemmas.List.Elements.{All-tail}
use Rattle.std.proofs.lemmas.Bool.{and_parts}
use Rattle.verilog_ast.specs.declared.Label.{Label}
use Rattle.verilog_ast.specs.declared.Stmt.{Stmt}
use Rattle.verilog_ast.specs.declared.CaseItem.{CaseItem}
use Rattle.verilog_reading.specs.StmtTree.{StmtTrees, stmt_tree_of, stmt_trees_of, ArmTrees, arms_of, label_tree_of}
use Rattle.flat_meaning.specs.Flat as f
use Rattle.flat_form.specs.declared.flat.FStmt.{FStmt}
use Rattle.flat_form.specs.declared.flat.FCaseItem.{FCaseItem}
use Rattle.flat_form.specs.View.{stmt_of, stmts_of}
use Rattle.flat_unfolding.specs.Names.{Memory, Look}
use Rattle.flat_unfolding.specs.Expressions.{Term, all_broken, is_index}
use Rattle.flat_unfolding.specs.Memories.{writes_from}
use Rattle.flat_unfolding.specs.Statements.{Kind, done, done_all, arms, label_term, read_list}
use Rattle.flat_unfolding.specs.Formed.{IsLabelFormed, AreRowsFormed, AreArmsFormed}
use Rattle.flat_unfolding.specs.Widths.{all_true, stmt_keeps_sizes}
use Rattle.flat_names.specs.declared.resolved.Parts.{Parts}
use Rattle.flat_names.specs.Noting.{Noted, all_noted}
use Rattle.flat_names.specs.Pieces.{AreRead}
use Rattle.flat_names.proofs.Notes.{noted-both}
use Rattle.flat_statements.specs.Statements.{arm_tree_of, IsDone, AreDone, AreArms}
use Rattle.flat_statements.proofs.Sizes.{both-true}
use Rattle.flat_statements.proofs.Done.{done-none, done-more, arms-none, arms-more, IsItem, noted-three}

pub push-push : {A : Type 0} (xs : List A) (x : A) (ys : List A) → (xs ++ x ∷ []) ++ ys ≡ xs ++ (x ∷ ys)
push-push [] x ys = refl
push-push (y ∷ xs) x ys = ap (λ zs. y ∷ zs) (push-push xs x ys)

-- ---- blocks

abbrev rows : List Stmt → StmtTrees
rows xs = stmt_trees_of (map stmt_tree_of xs)

module _ (l : Look) (k : Kind) where
  pub record BlockSoFar (all rest : List Stmt) (rs : List FStmt) (before now : Noted) : Type 0 where
    pub formed : AreRowsFormed (rows rest)
    pub whole : (more : List FStmt) → AreDone (done_all l k (rows rest)) more → AreDone (done_all l k (rows all)) (rs ++ more)
    pub noted : all_noted now (done_all l k (rows rest)).broken ≡ all_noted before (done_all l k (rows all)).broken

  pub block-start : (all : List Stmt) (f : Noted) → AreRowsFormed (rows all) → BlockSoFar all all [] f f
  block-start all f h = record { formed = h; whole = λ more d. d; noted = refl }

  pub block-step : (all rest left : List Stmt) (x : Stmt) (rs : List FStmt) (r : FStmt) (before now next : Noted) → BlockSoFar all left rs before now → left ≡ x ∷ rest → IsDone (done l k (stmt_tree_of x)) r
      → next ≡ all_noted now (done l k (stmt_tree_of x)).broken → BlockSoFar all rest (rs ++ r ∷ []) before next
  block-step all rest left x rs r before now next h e d n =
      let g = subst (λ ys. BlockSoFar all ys rs before now) e h in
      let a = (done l k (stmt_tree_of x)).broken in let b = (done_all l k (rows rest)).broken in record {
        formed = g.formed.1;
        whole = λ more m. subst (AreDone (done_all l k (rows all))) (sym (push-push rs r more)) (g.whole (r ∷ more) (done-more l k (stmt_tree_of x) (rows rest) r more d m));
        noted = ap (λ f. all_noted f b) n ∙ sym (noted-both now a b) ∙ g.noted;
      }

  pub block-end : (all : List Stmt) (rs : List FStmt) (before now : Noted) → BlockSoFar all [] rs before now → AreDone (done_all l k (rows all)) rs × (now ≡ all_noted before (done_all l k (rows all)).broken)
  block-end all rs before now h = (subst (AreDone (done_all l k (rows all))) (append-nil rs) (h.whole [] (done-none l k)), h.noted)

-- ---- items of a `case`

abbrev arm_rows : List CaseItem → ArmTrees
arm_rows xs = arms_of (map arm_tree_of xs)

module _ (l : Look) (k : Kind) where
  pub record ArmsSoFar (all rest : List CaseItem) (is : List FCaseItem) (sound constant : Bool) (before now : Noted) : Type 0 where
    pub formed : AreArmsFormed (arm_rows rest)
    pub whole : (more : List FCaseItem) (s c : Bool) → AreArms (arms l k (arm_rows rest)) more s c → AreArms (arms l k (arm_rows all)) (is ++ more) (sound && s) (constant && c)
    pub noted : all_noted now (arms l k (arm_rows rest)).broken ≡ all_noted before (arms l k (arm_rows all)).broken

  pub arms-start : (all : List CaseItem) (f : Noted) → AreArmsFormed (arm_rows all) → ArmsSoFar all all [] true true f f
  arms-start all f h = record { formed = h; whole = λ more s c d. d; noted = refl }

  and-and : (a b c : Bool) → (a && (b && c)) ≡ ((a && b) && c)
  and-and true b c = refl
  and-and false b c = refl

  pub arms-step : (all rest left : List CaseItem) (x : CaseItem) (is : List FCaseItem) (sound constant : Bool) (p : Parts) (b : FStmt) (i : FCaseItem) (before now next : Noted)
      → ArmsSoFar all left is sound constant before now → left ≡ x ∷ rest → AreRead (read_list l k (arm_tree_of x).labels) p → IsDone (done l k (arm_tree_of x).body) b → IsItem i p.items.items b
      → next ≡ all_noted (all_noted now (all_broken (read_list l k (arm_tree_of x).labels))) (done l k (arm_tree_of x).body).broken
      → ArmsSoFar all rest (is ++ i ∷ []) (sound && p.is_sound) (constant && p.is_constant) before next
  arms-step all rest left x is sound constant p b i before now next h e r d m n =
      let g = subst (λ ys. ArmsSoFar all ys is sound constant before now) e h in
      let q = all_broken (read_list l k (arm_tree_of x).labels) in let o = (done l k (arm_tree_of x).body).broken in let z = (arms l k (arm_rows rest)).broken in record {
        formed = g.formed.2;
        whole = λ more s c a. subst (λ (y : List FCaseItem). AreArms (arms l k (arm_rows all)) y ((sound && p.is_sound) && s) ((constant && p.is_constant) && c)) (sym (push-push is i more))
            (subst (λ (t : Bool). AreArms (arms l k (arm_rows all)) (is ++ (i ∷ more)) ((sound && p.is_sound) && s) t) (and-and constant p.is_constant c)
            (subst (λ (t : Bool). AreArms (arms l k (arm_rows all)) (is ++ (i ∷ more)) t (constant && (p.is_constant && c))) (and-and sound p.is_sound s)
            (g.whole (i ∷ more) (p.is_sound && s) (p.is_constant && c) (arms-more l k (arm_tree_of x).labels (arm_tree_of x).body (arm_rows rest) p b i more s c r d m a))));
        noted = ap (λ f. all_noted f z) n ∙ sym (noted-three now q o z) ∙ g.noted;
      }

  and-true : (b : Bool) → (b && true) ≡ b
  and-true true = refl
  and-true false = refl

  pub arms-end : (all : List CaseItem) (is : List FCaseItem) (sound constant : Bool) (before now : Noted) → ArmsSoFar all [] is sound constant before now
      → AreArms (arms l k (arm_rows all)) is sound constant × (now ≡ all_noted before (arms l k (arm_rows all)).broken)
  arms-end all is sound constant before now h = (
    subst (λ (t : Bool). AreArms (arms l k (arm_rows all)) is sound t) (and-true constant)
        (subst (λ (t : Bool). AreArms (arms l k (arm_rows all)) is t (constant && true)) (and-true sound)
        (subst (λ (y : List FCaseItem). AreArms (arms l k (arm_rows all)) y (sound && true) (constant && true)) (append-nil is) (h.whole [] true true (arms-none l k)))),
    h.noted,
  )

-- ---- labels

abbrev terms : Look → Kind → List Label → List Term
terms l k xs = read_list l k (map label_tree_of xs)

module _ (l : Look) (k : Kind) where
  pub record LabelsSoFar (all rest : List Label) (p : Parts) (before now : Noted) : Type 0 where
    pub formed : All IsLabelFormed (map label_tree_of rest)
    pub ts : List Term
    pub are : AreRead ts p
    pub whole : ts ++ terms l k rest ≡ terms l k all
    pub noted : all_noted now (all_broken (terms l k rest)) ≡ all_noted before (all_broken (terms l k all))

  pub labels-start : (all : List Label) (p : Parts) (f : Noted) → All IsLabelFormed (map label_tree_of all) → AreRead [] p → LabelsSoFar all all p f f
  labels-start all p f h r = record { formed = h; ts = []; are = r; whole = refl; noted = refl }

  pub labels-step : (all rest left : List Label) (x : Label) (p q : Parts) (before now next : Noted) → (h : LabelsSoFar all left p before now) → left ≡ x ∷ rest → AreRead (h.ts ++ label_term l k (label_tree_of x) ∷ []) q
      → next ≡ all_noted now (label_term l k (label_tree_of x)).broken → LabelsSoFar all rest q before next
  labels-step all rest left x p q before now next h e r n =
      let a = (label_term l k (label_tree_of x)).broken in let b = all_broken (terms l k rest) in record {
        formed = All-tail IsLabelFormed (label_tree_of x) (map label_tree_of rest) (subst (λ ys. All IsLabelFormed (map label_tree_of ys)) e h.formed);
        ts = h.ts ++ label_term l k (label_tree_of x) ∷ [];
        are = r;
        whole = push-push h.ts (label_term l k (label_tree_of x)) (terms l k rest) ∙ sym (ap (λ ys. h.ts ++ terms l k ys) e) ∙ h.whole;
        noted = ap (λ f. all_noted f b) n ∙ sym (noted-both now a b) ∙ sym (ap (λ ys. all_noted now (all_broken (terms l k ys))) e) ∙ h.noted;
      }

  pub labels-end : (all : List Label) (p : Parts) (before now : Noted) → LabelsSoFar all [] p before now → AreRead (terms l k all) p × (now ≡ all_noted before (all_broken (terms l k all)))
  labels-end all p before now h = (subst (λ ys. AreRead ys p) (sym (append-nil h.ts) ∙ h.whole) h.are, h.noted)

-- ---- words of a memory

-- so many words are written
module _ (m : Memory) (i v : f.Expr) (sized : Bool) (count : ℕ) where
  abbrev write_at : ℕ → f.Stmt
  write_at n = f.If (is_index i n) (f.Set false (f.Whole (m.first + n)) v) f.Null

  pub record WritesSoFar (n : ℕ) (ws : List FStmt) : Type 0 where
    pub whole : (more : ℕ) (ss : List f.Stmt) → n + more ≡ count → stmts_of ss ≡ writes_from m i v n more → stmts_of (map stmt_of ws ++ ss) ≡ writes_from m i v 0 count
    pub sizes : sized ≡ true → all_true (map stmt_keeps_sizes ws) ≡ true

  pub writes-start : WritesSoFar 0 []
  writes-start = record { whole = λ more ss e h. h ∙ ap (writes_from m i v 0) (let d : more ≡ count = omega arith in d); sizes = λ e. refl }

  stmts-push : (ws : List FStmt) (w : FStmt) (ss : List f.Stmt) → stmts_of (map stmt_of (ws ++ w ∷ []) ++ ss) ≡ stmts_of (map stmt_of ws ++ (stmt_of w ∷ ss))
  stmts-push [] w ss = refl
  stmts-push (x ∷ ws) w ss = ap (f.stmt (stmt_of x)) (stmts-push ws w ss)

  sizes-push : (ws : List FStmt) (w : FStmt) → all_true (map stmt_keeps_sizes ws) ≡ true → stmt_keeps_sizes w ≡ true → all_true (map stmt_keeps_sizes (ws ++ w ∷ [])) ≡ true
  sizes-push [] w h e = both-true (stmt_keeps_sizes w) true e refl
  sizes-push (x ∷ ws) w h e = let p = and_parts (stmt_keeps_sizes x) (all_true (map stmt_keeps_sizes ws)) h in both-true (stmt_keeps_sizes x) _ p.0 (sizes-push ws w p.1 e)

  pub writes-step : (n : ℕ) (ws : List FStmt) (w : FStmt) → WritesSoFar n ws → stmt_of w ≡ write_at n → (sized ≡ true → stmt_keeps_sizes w ≡ true) → WritesSoFar (n + 1) (ws ++ w ∷ [])
  writes-step n ws w h e s = record {
    whole = λ more ss t g. stmts-push ws w ss ∙ h.whole (suc more) (stmt_of w ∷ ss) (let d : n + suc more ≡ count = omega arith in d)
        (ap₂ f.stmt e (g ∙ ap (λ j. writes_from m i v j more) (let d : n + 1 ≡ suc n = omega arith in d)));
    sizes = λ t. sizes-push ws w (h.sizes t) (s t);
  }

  pub writes-end : (n : ℕ) (ws : List FStmt) → n ≡ count → WritesSoFar n ws → stmts_of (map stmt_of ws) ≡ writes_from m i v 0 count
  writes-end n ws e h = ap stmts_of (sym (append-nil (map stmt_of ws))) ∙ h.whole 0 [] (let d : n + 0 ≡ count = omega arith in d) refl

-- how many words an index reaches, of those that a memory has
pub values-are : (w k words values : ℕ) → w ≡ k → 2 ^ k ≤ words → words < 2 ^ 32 → (2 ^ w < 2 ^ 32 → values ≡ 2 ^ w) → values ≡ 2 ^ k
values-are w k words values e l small h = let m : 2 ^ w ≤ words = subst (λ j. 2 ^ j ≤ words) (sym e) l in h (omega arith) ∙ ap (λ j. 2 ^ j) e
