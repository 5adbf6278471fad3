-- Processes: their events, bodies and resets, from what the code has to the definition's.
use Rattle.std.proofs.Common.{◌≡◌, ℕ, ◌<◌, Bool, true, false, cond, not, ◌&&◌, ◌||◌, ◌==◌, List, [], ◌∷◌, ◌++◌, length, map, get_or, Option, Some, None, refl, sym, ap, ap₂, subst, ◌∙◌, arith, rules, append_assoc, Box, Vec, Global}
use Rattle.std.specs.Prelude.{flat_map, option_map, is_some, is_none, unwrap_or, slice_get}
use Rattle.std.specs.Option.{option_map_or}
use Rattle.std.specs.List.{list_all, list_any}
use Rattle.verilog_ast.specs.declared.Edge.{Edge}
use Rattle.verilog_ast.specs.declared.EdgeKind.{EdgeKind}
use Rattle.verilog_ast.specs.declared.Expr.{Expr}
use Rattle.verilog_ast.specs.declared.CaseItem.{CaseItem}
use Rattle.verilog_ast.specs.declared.Stmt as s
use Rattle.verilog_ast.specs.declared.Stmt.TheVariants as vs
use Rattle.verilog_reading.specs.ExprTree.{ExprTree, tree_of}
use Rattle.verilog_reading.specs.StmtTree.{StmtTree, null, set, when, either, Subject, subject_of, switch, switch_else, block, StmtTrees, no_rows, and_rows, ArmTree, ArmTrees, no_arms, and_arms, arms_of, stmt_tree_of}
use Rattle.flat_meaning.specs.Flat.{Stmt}
use Rattle.flat_form.specs.View.{stmt_of, reset_of}
use Rattle.flat_form.specs.declared.flat.FStmt.{FStmt}
use Rattle.flat_form.specs.declared.flat.FStmt.TheVariants as form
use Rattle.flat_unfolding.specs.Outcome.{Text, Broken, breaks, breaks_if}
use Rattle.flat_unfolding.specs.Names.{Meaning, a_param, a_signal, a_memory, no_value, Look, meaning, width_at, reset_at}
use Rattle.flat_unfolding.specs.Expressions.{read}
use Rattle.flat_unfolding.specs.Widths.{stmt_keeps_sizes}
use Rattle.flat_unfolding.specs.Statements.{Kind, clocked, neither, Done, masks_broken, ways_broken, chained, nothing_done, mask_of, done, done_all, ways}
use Rattle.flat_unfolding.specs.Resets as q
use Rattle.flat_unfolding.specs.Mentions.{read_names}
use Rattle.flat_unfolding.specs.Resets.{peeled, peeled_rows, tested, item_tested, branch_given, form_with, items_form, form_in, reset_form, reads_other, is_malformed, reset_rules, is_edge_of, is_active_edge}
use Rattle.flat_unfolding.specs.Processes.{delay_rules, has_form, first_edge, edge_rules, meant_signal, edge_signal, is_wide, reset_edge, reset_signal, event_rules, pair_rules, with_kept, body_with, reset_branch, reset_gives}
use Rattle.flat_unfolding.specs.Formed.{IsFormed, IsStmtFormed, AreRowsFormed, AreArmsFormed}
use Rattle.flat_unfolding.specs.Design as u
use Rattle.flat_unfolding.proofs.Steps.{none_of_both, some_is}
use Rattle.flat_names.specs.declared.scope.Look as v
use Rattle.flat_names.specs.declared.design.Entry.{Entry}
use Rattle.flat_names.specs.Looks.{Shows, IsFit}
use Rattle.flat_names.specs.Noting.{Noted, all_noted}
use Rattle.flat_names.proofs.Looked.{width-is}
use Rattle.flat_names.proofs.Notes.{then-noted}
use Rattle.flat_names.proofs.Options.{none-some, some-same}
use Rattle.flat_statements.specs.Statements.{arm_tree_of, IsDone}
use Rattle.flat_statements.proofs.Done.{done-null}
use Rattle.flat_statements.proofs.Trees.{tree-when, tree-either, tree-switch, tree-switch_else, arm-tree}
use Rattle.flat_process.specs.declared.reset.Given.{Given}
use Rattle.flat_process.specs.declared.always.Clocked.{Clocked}
use Rattle.flat_process.specs.declared.always.ResetForm.{ResetForm}
use Rattle.flat_process.specs.declared.tested.Tested.{Tested}
use Rattle.flat_process.specs.Resets.{AreGiven, AreGivenIf, tested_of}
use Rattle.flat_process.specs.Processes.{IsBody, reset_with, IsClocked, IsForm, IsFormIf}

-- ---- bodies

pub done-body : (l : Look) (k : Kind) (t : StmtTree) (r : FStmt) → IsDone (done l k t) r → IsBody (done l k t).stmt (done l k t).broken r
done-body l k t r h = record { stmt = h.stmt; sizes = h.sizes }

-- the same where more rules may be broken
pub body-amid : (x : Stmt) (front bs back : List Broken) (r : FStmt) → IsBody x bs r → IsBody x (front ++ bs ++ back) r
body-amid x front bs back r h = record {
  stmt = λ e. h.stmt (none_of_both front bs (none_of_both (front ++ bs) back e).0).1;
  sizes = λ e. h.sizes (none_of_both front bs (none_of_both (front ++ bs) back e).0).1;
}

-- ---- blocks of one statement

module _ (l : Look) (k : Kind) where
  mutual
    -- what is in such blocks breaks no rule where they break none
    peeled-clean : (t : StmtTree) → (done l k t).broken ≡ [] → (done l k (peeled t)).broken ≡ []
    peeled-clean null e = e
    peeled-clean (set b delay t v) e = e
    peeled-clean (when c s) e = e
    peeled-clean (either c s z) e = e
    peeled-clean (switch v rows) e = e
    peeled-clean (switch_else v rows d) e = e
    peeled-clean (block rows) e = rows-clean rows e

    rows-clean : (rows : StmtTrees) → (done_all l k rows).broken ≡ [] → (done l k (peeled_rows rows)).broken ≡ []
    rows-clean no_rows e = e
    rows-clean (and_rows s no_rows) e = peeled-clean s (none_of_both (done l k s).broken [] e).0
    rows-clean (and_rows s (and_rows s' rest)) e = e

-- what is in blocks of one statement is as readings of texts give it
mutual
  pub peeled-formed : (t : StmtTree) → IsStmtFormed t → IsStmtFormed (peeled t)
  peeled-formed null h = h
  peeled-formed (set b delay t v) h = h
  peeled-formed (when c s) h = h
  peeled-formed (either c s z) h = h
  peeled-formed (switch v rows) h = h
  peeled-formed (switch_else v rows d) h = h
  peeled-formed (block rows) h = rows-formed rows h

  rows-formed : (rows : StmtTrees) → AreRowsFormed rows → IsStmtFormed (peeled_rows rows)
  rows-formed no_rows h = h
  rows-formed (and_rows s no_rows) h = peeled-formed s h.0
  rows-formed (and_rows s (and_rows s' rest)) h = h

-- ---- reset form

module _ (l : Look) where
  -- the first branch breaks no rule where the whole breaks none
  abbrev IsClean : q.ResetForm → Type 0
  IsClean f = (done l clocked f.branch).broken ≡ []

  with-clean : (o : Option q.Tested) (s all : StmtTree) (f : q.ResetForm) → form_with l o s all ≡ Some f → (done l clocked s).broken ≡ [] → IsClean f
  with-clean None s all f e c = absurd (search (rules, e))
  with-clean (Some t) s all f e c = subst IsClean (some_is _ f e) c

  items-clean : (c : Subject) (rows : ArmTrees) (all : StmtTree) (f : q.ResetForm) → items_form l c rows all ≡ Some f → (c.masks ≡ true → ways_broken (ways l clocked rows) ≡ []) → IsClean f
  items-clean c no_arms all f e w = absurd (search (rules, e))
  items-clean c (and_arms labels s rest) all f e w = go c.masks refl e
    where
      go : (b : Bool) → c.masks ≡ b → cond b (form_with l (item_tested l c.value (and_arms labels s rest)) s all) None ≡ Some f → IsClean f
      go true m i =
          let ms = map (mask_of l clocked) labels in let bs = (done l clocked s).broken in
          let p = none_of_both (masks_broken ms ++ bs) (ways_broken (ways l clocked rest)) (w m) in
          with-clean (item_tested l c.value (and_arms labels s rest)) s all f i (none_of_both (masks_broken ms) bs p.0).1
      go false m i = absurd (search (rules, i))

  -- the chain that a `casez` stands for
  masked : (b : Bool) (x y : Done) → b ≡ true → (cond b x y).broken ≡ [] → x.broken ≡ []
  masked true x y m e = e
  masked false x y m e = absurd (search (rules, m))

  form-clean : (t : StmtTree) (f : q.ResetForm) → form_in l t ≡ Some f → (done l clocked t).broken ≡ [] → IsClean f
  form-clean null f e c = absurd (search (rules, e))
  form-clean (set b delay t v) f e c = absurd (search (rules, e))
  form-clean (switch v rows) f e c =
      let k = read l v.value in let ws = ways l clocked rows in
      items-clean v rows (switch v rows) f e (λ m.
      let b = masked v.masks (chained k ws nothing_done) _ m c in
      (none_of_both k.broken (ways_broken ws) (none_of_both (k.broken ++ ways_broken ws) [] b).0).1)
  form-clean (switch_else v rows x) f e c =
      let k = read l v.value in let ws = ways l clocked rows in let d = done l clocked x in
      items-clean v rows (switch_else v rows x) f e (λ m.
      let b = masked v.masks (chained k ws d) _ m c in
      (none_of_both k.broken (ways_broken ws) (none_of_both (k.broken ++ ways_broken ws) d.broken b).0).1)
  form-clean (block rows) f e c = absurd (search (rules, e))
  form-clean (when k s) f e c = with-clean (tested l k) s (when k s) f e (none_of_both (read l k).broken (done l clocked s).broken c).1
  form-clean (either k s z) f e c =
      let parts = none_of_both ((read l k).broken ++ (done l clocked s).broken) (done l clocked z).broken c in
      with-clean (tested l k) s (either k s z) f e (none_of_both (read l k).broken (done l clocked s).broken parts.0).1

  both-clean : (t : StmtTree) (f : q.ResetForm) → reset_form l t ≡ Some f → (done l clocked t).broken ≡ [] → IsClean f
  both-clean t f e c = form-clean (peeled t) f e (peeled-clean l clocked t c)

  -- the same form where other rules are broken, at least one where one was
  pub form-amid : (bs cs : List Broken) (f : Option q.ResetForm) (o : Option ResetForm) → (cs ≡ [] → bs ≡ []) → IsFormIf l bs f o → IsFormIf l cs f o
  form-amid bs cs None None k h = tt
  form-amid bs cs None (Some r) k h = absurd h
  form-amid bs cs (Some f) None k h = absurd h
  form-amid bs cs (Some f) (Some r) k h = record { signals = h.signals; other = h.other; branch = h.branch; given = h.given; rest = record { stmt = λ n. h.rest.stmt (k n); sizes = λ n. h.rest.sizes (k n) } }

  -- the form of what stands in blocks of one statement
  pub form-around : (t x : StmtTree) (f : Option q.ResetForm) (o : Option ResetForm) → x ≡ peeled t → f ≡ form_in l x → IsFormIf l (done l clocked x).broken f o → IsFormIf l (done l clocked t).broken (reset_form l t) o
  form-around t x f o e i h =
      form-amid (done l clocked (peeled t)).broken (done l clocked t).broken (form_in l (peeled t)) o (peeled-clean l clocked t)
      (subst (λ y. IsFormIf l (done l clocked y).broken (form_in l y) o) e (subst (λ g. IsFormIf l (done l clocked x).broken g o) i h))

  -- a body without reset form stays whole
  pub whole-body : (c : ℕ) (edge : Option ℕ) (t : StmtTree) (p : Clocked) → p.clock ≡ c → p.reset ≡ (record { edge = edge; branch = form.Null }) → p.given.items ≡ []
      → IsDone (done l clocked t) p.body → IsFormIf l (done l clocked t).broken (reset_form l t) None
      → IsClocked (length l.entries) c (body_with l t (reset_form l t)) (reset_with l edge t) (reset_gives l (reset_form l t)) (done l clocked t).broken p
  whole-body c edge t p e r g d h = go (reset_form l t) h
    where
      go : (o : Option q.ResetForm) → IsFormIf l (done l clocked t).broken o None → IsClocked (length l.entries) c (body_with l t o) (edge, reset_branch l o) (reset_gives l o) (done l clocked t).broken p
      go None h = record { clock = e; body = done-body l clocked t p.body d; reset = λ k. ap reset_of r ∙ ap (λ (x : Stmt). (edge, x)) ((done-null l clocked).stmt refl); given = subst (AreGiven (length l.entries) []) (sym g) tt }
      go (Some f) h = absurd h

  -- what a first branch gives, nothing where it hasn't its form
  given-or : (gs : Option (List u.Given)) (o : Option (List Given)) → AreGivenIf (length l.entries) gs o → AreGiven (length l.entries) (unwrap_or gs []) (unwrap_or o [])
  given-or None None h = tt
  given-or None (Some xs) h = absurd h
  given-or (Some us) None h = absurd h
  given-or (Some us) (Some xs) h = h

  pub items-or : (o : Option (Vec Given Global)) (x y : Vec Given Global) → y ≡ unwrap_or o x → x.items ≡ [] → y.items ≡ unwrap_or (option_map (λ (v : Vec Given Global). v.items) o) []
  items-or None x y e h = ap (λ (v : Vec Given Global). v.items) e ∙ h
  items-or (Some z) x y e h = ap (λ (v : Vec Given Global). v.items) e

  -- of one with reset form the rest is left
  pub rest-body : (c : ℕ) (edge : Option ℕ) (t : StmtTree) (r : ResetForm) (p : Clocked) → p.clock ≡ c
      → stmt_of p.body ≡ with_kept (width_at l.entries) (stmt_of r.rest) (stmt_of r.branch) → (stmt_keeps_sizes r.rest ≡ true → stmt_keeps_sizes p.body ≡ true) → p.reset ≡ (record { edge = edge; branch = r.branch })
      → p.given.items ≡ unwrap_or (option_map (λ (v : Vec Given Global). v.items) r.given) [] → IsFormIf l (done l clocked t).broken (reset_form l t) (Some r)
      → IsClocked (length l.entries) c (body_with l t (reset_form l t)) (reset_with l edge t) (reset_gives l (reset_form l t)) (done l clocked t).broken p
  rest-body c edge t r p e b z s g h = go (reset_form l t) refl h
    where
      go : (o : Option q.ResetForm) → reset_form l t ≡ o → IsFormIf l (done l clocked t).broken o (Some r) → IsClocked (length l.entries) c (body_with l t o) (edge, reset_branch l o) (reset_gives l o) (done l clocked t).broken p
      go None i h = absurd h
      go (Some f) i h = record {
        clock = e;
        body = record {
          stmt = λ k. b ∙ ap₂ (with_kept (width_at l.entries)) (h.rest.stmt k) (h.branch.stmt (both-clean t f i k));
          sizes = λ k. z (h.rest.sizes k);
        };
        reset = λ k. ap reset_of s ∙ ap (λ (x : Stmt). (edge, x)) (h.branch.stmt (both-clean t f i k));
        given = subst (AreGiven (length l.entries) (unwrap_or f.given [])) (sym g) (given-or f.given (option_map (λ (v : Vec Given Global). v.items) r.given) h.given);
      }

module _ (l : Look) (x : s.Stmt) (k : Expr) (y : Box s.Stmt Global) where
  -- the parts of an `if` are as readings of texts give them
  pub branch-formed : (o : Option (Box s.Stmt Global)) → x ≡ vs.If k y o → IsStmtFormed (stmt_tree_of x) → IsFormed (tree_of k) × IsStmtFormed (stmt_tree_of y.value)
  branch-formed None e h = subst IsStmtFormed (ap stmt_tree_of e ∙ tree-when k y) h
  branch-formed (Some z) e h = let i = subst IsStmtFormed (ap stmt_tree_of e ∙ tree-either k y z) h in (i.0, i.1)

  -- its reset form
  pub if-form : (o : Option (Box s.Stmt Global)) → x ≡ vs.If k y o → form_with l (tested l (tree_of k)) (stmt_tree_of y.value) (stmt_tree_of x) ≡ form_in l (stmt_tree_of x)
  if-form None e = let t = ap stmt_tree_of e ∙ tree-when k y in
      ap (form_with l (tested l (tree_of k)) (stmt_tree_of y.value)) t ∙ ap (form_in l) (sym t)
  if-form (Some z) e = let t = ap stmt_tree_of e ∙ tree-either k y z in
      ap (form_with l (tested l (tree_of k)) (stmt_tree_of y.value)) t ∙ ap (form_in l) (sym t)

-- items of a `case`
abbrev pub item_rows : List CaseItem → ArmTrees
item_rows xs = arms_of (map arm_tree_of xs)

module _ (l : Look) (x : s.Stmt) (m : Bool) (k : Expr) (is : List CaseItem) where
  -- the same of a `case`
  pub items-formed : (o : Option (Box s.Stmt Global)) → x ≡ vs.Case m k is o → IsStmtFormed (stmt_tree_of x) → IsFormed (tree_of k) × AreArmsFormed (item_rows is)
  items-formed None e h = subst IsStmtFormed (ap stmt_tree_of e ∙ tree-switch m k is) h
  items-formed (Some z) e h = let i = subst IsStmtFormed (ap stmt_tree_of e ∙ tree-switch_else m k is z) h in (i.0, i.1)

  pub case-form : (o : Option (Box s.Stmt Global)) → x ≡ vs.Case m k is o → items_form l (subject_of m (tree_of k)) (item_rows is) (stmt_tree_of x) ≡ form_in l (stmt_tree_of x)
  case-form None e = let t = ap stmt_tree_of e ∙ tree-switch m k is in
      ap (items_form l (subject_of m (tree_of k)) (item_rows is)) t ∙ ap (form_in l) (sym t)
  case-form (Some z) e = let t = ap stmt_tree_of e ∙ tree-switch_else m k is z in
      ap (items_form l (subject_of m (tree_of k)) (item_rows is)) t ∙ ap (form_in l) (sym t)

module _ (l : Look) (e : ExprTree) (all : StmtTree) where
  -- a `case` has none, and neither has one without items
  pub unmasked-form : (xs : List CaseItem) → items_form l (subject_of false e) (item_rows xs) all ≡ None
  unmasked-form [] = refl
  unmasked-form (x ∷ xs) = refl

  pub no-items-form : (m : Bool) (xs : List CaseItem) → length xs ≡ 0 → items_form l (subject_of m e) (item_rows xs) all ≡ None
  no-items-form m [] h = refl
  no-items-form m (x ∷ xs) h = absurd (omega arith)

  -- the form of a `casez` is that with the branch of its first item
  pub first-form : (x : CaseItem) (xs rest : List CaseItem) → xs ≡ x ∷ rest → form_with l (item_tested l e (item_rows xs)) (stmt_tree_of x.body) all ≡ items_form l (subject_of true e) (item_rows xs) all
  first-form x xs rest h =
      ap (λ ys. form_with l (item_tested l e (item_rows ys)) (stmt_tree_of x.body) all) h
      ∙ sym (ap (λ (a : ArmTree). form_with l (item_tested l e (item_rows (x ∷ rest))) a.body all) (arm-tree x))
      ∙ sym (ap (λ ys. items_form l (subject_of true e) (item_rows ys) all) h)

  pub first-formed : (x : CaseItem) (xs rest : List CaseItem) → xs ≡ x ∷ rest → AreArmsFormed (item_rows xs) → IsStmtFormed (stmt_tree_of x.body)
  first-formed x xs rest h f = subst (λ (a : ArmTree). IsStmtFormed a.body) (arm-tree x) (subst (λ ys. AreArmsFormed (item_rows ys)) h f).1

module _ (l : Look) (first all : StmtTree) where
  -- a branch whose condition tests no reset has no reset form
  pub no-form : (o : Option Tested) → o ≡ None → IsFormIf l (done l clocked all).broken (form_with l (option_map tested_of o) first all) None
  no-form o e = subst (λ p. IsFormIf l (done l clocked all).broken (form_with l (option_map tested_of p) first all) None) (sym e) tt

  -- one whose condition tests some has it
  pub has-form : (o : Option Tested) (t : Tested) (r : ResetForm) (whole : FStmt) → o ≡ Some t → r.signals.items ≡ t.signals.items → r.reads_other ≡ reads_other l t.signals.items (read_names all)
      → IsDone (done l clocked first) r.branch → AreGivenIf (length l.entries) (branch_given l first) (option_map (λ (v : Vec Given Global). v.items) r.given)
      → IsDone (done l clocked all) whole → stmt_of r.rest ≡ q.left t.is_alone (stmt_of whole) → (stmt_keeps_sizes whole ≡ true → stmt_keeps_sizes r.rest ≡ true)
      → IsFormIf l (done l clocked all).broken (form_with l (option_map tested_of o) first all) (Some r)
  has-form o t r whole e i m b g w same sizes = subst (λ p. IsFormIf l (done l clocked all).broken (form_with l (option_map tested_of p) first all) (Some r)) (sym e) (record {
    signals = i;
    other = m;
    branch = b;
    given = g;
    rest = record { stmt = λ n. same ∙ ap (q.left t.is_alone) (w.stmt n); sizes = λ n. sizes (w.sizes n) };
  })

-- ---- events

module _ (l : Look) where
  -- the signal of an edge is declared
  edge-there : IsFit l → (e : Edge) (s : ℕ) → Some s ≡ edge_signal l e → s < length l.entries
  edge-there fit c s e = go (meaning l c.name) refl e
    where
      go : (m : Option Meaning) → meaning l c.name ≡ m → Some s ≡ meant_signal l m → s < length l.entries
      go None k e = none-some s (sym e)
      go (Some (a_param p)) k e = none-some s (sym e)
      go (Some (a_signal t)) k e = subst (λ i. i < length l.entries) (sym (some-same s t e)) (fit.signals c.name t k)
      go (Some (a_memory m)) k e = none-some s (sym e)
      go (Some no_value) k e = none-some s (sym e)

  pub wide-edge : (k : v.Look) → Shows k l → IsFit l → (c : Edge) (s n : ℕ) → Some s ≡ edge_signal l c → n ≡ option_map_or (λ (x : Entry). x.width) (slice_get k.entries.now s) 1 → not (n == 1) ≡ is_wide l c
  wide-edge k h fit c s n e w = ap (λ i. not (i == 1)) (w ∙ width-is k l h s (edge-there fit c s e)) ∙ ap (λ o. option_map_or (λ i. not (width_at l.entries i == 1)) o false) e

  -- an event without its form breaks a rule
  no-form-breaks : (edges : List Edge) → has_form edges ≡ false → event_rules l edges ≡ [] → ⊥
  no-form-breaks edges e h = go (list_any (is_wide l) edges) (none_of_both (flat_map (edge_rules l (first_edge edges)) edges) _ h).1
    where
      go : (b : Bool) → breaks_if (not (has_form edges) || b) 316 (first_edge edges) ≡ [] → ⊥
      go b k = let n = subst (λ a. breaks_if (not a || b) 316 (first_edge edges) ≡ []) e k in absurd (search (rules, n))

-- a rule that is noted where a test is true
pub told-if : (f g : Noted) (t : Bool) (n : ℕ) (x y : Text) (bs : List Broken) → t ≡ true → g ≡ all_noted f (breaks n x) → x ≡ y → breaks_if t n y ≡ bs → g ≡ all_noted f bs
told-if f g t n x y bs e d i k = d ∙ ap (λ z. all_noted f (breaks n z)) i ∙ ap (λ b. all_noted f (breaks_if b n y)) (sym e) ∙ ap (all_noted f) k

pub untold : (f : Noted) (t : Bool) (n : ℕ) (y : Text) (bs : List Broken) → t ≡ false → breaks_if t n y ≡ bs → f ≡ all_noted f bs
untold f t n y bs e k = ap (λ b. all_noted f (breaks_if b n y)) (sym e) ∙ ap (all_noted f) k

-- the step of a loop over edges
pub any-found : (P : Edge → Bool) (x : Edge) (rest : List Edge) (b : Bool) → list_any P (x ∷ rest) ≡ b → P x ≡ true → true ≡ b
any-found P x rest b h e = ap (λ t. t || list_any P rest) (sym e) ∙ h

pub any-then : (P : Edge → Bool) (x : Edge) (rest : List Edge) (b : Bool) → list_any P (x ∷ rest) ≡ b → P x ≡ false → list_any P rest ≡ b
any-then P x rest b h e = ap (λ t. t || list_any P rest) (sym e) ∙ h

-- two edges, and another number of them
pub two-are : (edges : List Edge) (c e : Edge) → length edges ≡ 2 → c ≡ get_or edges 0 c → e ≡ get_or edges 1 e → edges ≡ c ∷ e ∷ []
two-are [] c e h i j = absurd (omega arith)
two-are (a ∷ []) c e h i j = absurd (omega arith)
two-are (a ∷ b ∷ []) c e h i j = ap₂ (λ (x y : Edge). x ∷ y ∷ []) (sym i) (sym j)
two-are (a ∷ b ∷ d ∷ rest) c e h i j = absurd (omega arith)

pub none-of-others : (l : Look) (edges : List Edge) → (length edges ≡ 2 → ⊥) → None ≡ reset_edge l edges
none-of-others l [] h = refl
none-of-others l (a ∷ []) h = refl
none-of-others l (a ∷ b ∷ []) h = absurd (h refl)
none-of-others l (a ∷ b ∷ d ∷ rest) h = refl

-- ---- edges of resets

pub or-left : (a b : Bool) → a ≡ true → a ≡ (a || b)
or-left true b e = refl
or-left false b e = absurd (search (rules, e))

pub or-right : (a b : Bool) → a ≡ false → b ≡ (a || b)
or-right true b e = absurd (search (rules, e))
or-right false b e = refl

module _ (l : Look) where
  -- whether an edge is that of a reset, by what its name stands for
  abbrev edge_by : List ℕ → EdgeKind → Option Meaning → Bool
  edge_by ss k (Some (a_signal s)) = option_map_or (is_active_edge k) (reset_at l.entries s) false && list_all (λ t. t == s) ss
  edge_by ss k m = false

  pub is-edge : (ss : List ℕ) (e : Edge) (s : ℕ) → meaning l e.name ≡ Some (a_signal s) → is_edge_of l ss e ≡ (option_map_or (is_active_edge e.kind) (reset_at l.entries s) false && list_all (λ t. t == s) ss)
  is-edge ss e s h = ap (edge_by ss e.kind) h

  -- a first branch has its form in the code just where it has it in the definition
  none-given : (us : Option (List u.Given)) (o : Option (Vec Given Global)) → AreGivenIf (length l.entries) us (option_map (λ (v : Vec Given Global). v.items) o) → is_none o ≡ is_none us
  none-given None None h = refl
  none-given None (Some v) h = absurd h
  none-given (Some us) None h = absurd h
  none-given (Some us) (Some v) h = refl

  pub not-given : (bs : List Broken) (f : q.ResetForm) (r : ResetForm) (b : Bool) → IsForm l bs f r → is_some r.given ≡ not b → b ≡ is_none f.given
  not-given bs f r b h e = go r.given b e ∙ none-given f.given r.given h.given
    where
      go : (o : Option (Vec Given Global)) (b : Bool) → is_some o ≡ not b → b ≡ is_none o
      go None true e = refl
      go None false e = absurd (search (rules, e))
      go (Some v) true e = absurd (search (rules, e))
      go (Some v) false e = refl

  -- whether it is malformed
  pub given-fails : (f : q.ResetForm) (a : Bool) → a ≡ is_none f.given → a ≡ true → a ≡ is_malformed l f
  given-fails f a e t = or-left a (reads_other l f.signals f.reads) t ∙ ap (λ x. x || reads_other l f.signals f.reads) e

  pub other-fails : (bs : List Broken) (f : q.ResetForm) (r : ResetForm) (a : Bool) → IsForm l bs f r → a ≡ is_none f.given → a ≡ false → r.reads_other ≡ is_malformed l f
  other-fails bs f r a h e t = or-right a r.reads_other t ∙ ap₂ (λ x y. x || y) e h.other

  -- what a body with reset form breaks, and one without it
  pub form-breaks : (first : Text) (second : Option Edge) (bs : List Broken) (f : Option q.ResetForm) (r : ResetForm) (b : Bool) → IsFormIf l bs f (Some r)
      → ((g : q.ResetForm) → IsForm l bs g r → b ≡ (not (option_map_or (is_edge_of l g.signals) second true) || is_malformed l g)) → breaks_if b 317 first ≡ reset_rules l first second f
  form-breaks first second bs None r b h k = absurd h
  form-breaks first None bs (Some g) r b h k = ap (λ t. breaks_if t 317 first) (k g h)
  form-breaks first (Some e) bs (Some g) r b h k = ap (λ t. breaks_if t 317 first) (k g h)

  pub no-form-tells : (first : Text) (second : Option Edge) (bs : List Broken) (f : Option q.ResetForm) (b : Bool) → IsFormIf l bs f None → b ≡ is_some second → breaks_if b 317 first ≡ reset_rules l first second f
  no-form-tells first None bs None b h e = ap (λ t. breaks_if t 317 first) e
  no-form-tells first (Some x) bs None b h e = ap (λ t. breaks_if t 317 first) e
  no-form-tells first second bs (Some g) b h e = absurd h

-- ---- clocked processes

-- a clocked process where more rules may be broken
pub clocked-amid : (n c m : ℕ) (x : Stmt) (r : Option ℕ × Stmt) (us : List u.Given) (front bs back : List Broken) (p : Clocked) → m ≡ c → IsClocked n m x r us bs p → IsClocked n c x r us (front ++ bs ++ back) p
clocked-amid n c m x r us front bs back p e h = record {
  clock = h.clock ∙ e;
  body = body-amid x front bs back p.body h.body;
  reset = λ k. h.reset (none_of_both front bs (none_of_both (front ++ bs) back k).0).1;
  given = h.given;
}

module _ (l : Look) (edges : List Edge) (t : StmtTree) where
  abbrev reset_breaks : Option q.ResetForm → List Broken
  reset_breaks f = reset_rules l (first_edge edges) (reset_edge l edges) f

  -- what a process breaks at its item, and what behind all items, by whether its event has its form
  abbrev rules_at : Bool → List Broken
  rules_at b = event_rules l edges ++ (done l (cond b clocked neither) t).broken ++ delay_rules t

  abbrev taking_at : Bool → List Broken
  taking_at b = pair_rules l edges ++ reset_breaks (cond b (reset_form l t) None)

  -- what its reset tells of its drivers
  abbrev reset_if : Bool → Option ℕ × Stmt
  reset_if b = (reset_signal l edges, reset_branch l (cond b (reset_form l t) None))

  -- a process with what it notes
  abbrev IsProcess : ℕ → (f f' g g' : Noted) → Clocked → Bool → Type 0
  IsProcess c f f' g g' p b = IsClocked (length l.entries) c (body_with l t (cond b (reset_form l t) None)) (reset_if b) (reset_gives l (cond b (reset_form l t) None)) (rules_at b) p
      × (f' ≡ all_noted f (rules_at b)) × (g' ≡ all_noted g (taking_at b))

  -- an event with its form, and one without it
  pub formed-process : (c m : ℕ) (f g h i j k : Noted) (p : Clocked) → m ≡ c → has_form edges ≡ true → g ≡ all_noted f (event_rules l edges) → j ≡ all_noted i (pair_rules l edges)
      → IsClocked (length l.entries) m (body_with l t (reset_form l t)) (reset_with l (reset_signal l edges) t) (reset_gives l (reset_form l t)) (done l clocked t).broken p
      → h ≡ all_noted g ((done l clocked t).broken ++ delay_rules t) → k ≡ all_noted j (reset_breaks (reset_form l t)) → IsProcess c f h i k p (has_form edges)
  formed-process c m f g h i j k p same e events pair is body resets =
      let event = event_rules l edges in
      let broken = (done l clocked t).broken in
      let x = body_with l t (reset_form l t) in
      subst (IsProcess c f h i k p) (sym e) (
        clocked-amid (length l.entries) c m x (reset_with l (reset_signal l edges) t) (reset_gives l (reset_form l t)) event broken (delay_rules t) p same is,
        then-noted f g h event (broken ++ delay_rules t) events body ∙ ap (all_noted f) (sym (append_assoc event broken (delay_rules t))),
        then-noted i j k (pair_rules l edges) (reset_breaks (reset_form l t)) pair resets,
      )

  pub formless-process : (c : ℕ) (f g h i j k : Noted) (p : Clocked) → has_form edges ≡ false → g ≡ all_noted f (event_rules l edges) → j ≡ all_noted i (pair_rules l edges) → p.clock ≡ c → p.given.items ≡ []
      → h ≡ all_noted g ((done l neither t).broken ++ delay_rules t) → k ≡ all_noted j (reset_breaks None) → IsProcess c f h i k p (has_form edges)
  formless-process c f g h i j k p e events pair clock none body resets =
      let event = event_rules l edges in
      let broken = (done l neither t).broken in
      subst (IsProcess c f h i k p) (sym e) (
        record {
          clock = clock;
          body = record { stmt = λ b. absurd (tells b); sizes = λ b. absurd (tells b) };
          reset = λ b. absurd (tells b);
          given = subst (AreGiven (length l.entries) []) (sym none) tt;
        },
        then-noted f g h event (broken ++ delay_rules t) events body ∙ ap (all_noted f) (sym (append_assoc event broken (delay_rules t))),
        then-noted i j k (pair_rules l edges) (reset_breaks None) pair resets,
      )
    where
      tells : (event_rules l edges ++ (done l neither t).broken) ++ delay_rules t ≡ [] → ⊥
      tells b =
          let broken = (done l neither t).broken in
          no-form-breaks l edges e (none_of_both (event_rules l edges) broken (none_of_both (event_rules l edges ++ broken) (delay_rules t) b).0).0
