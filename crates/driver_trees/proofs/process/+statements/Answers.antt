-- Each statement changes the present trees as it is defined.
use Rattle.std.proofs.Common.{rules, arith, ◌≡◌, ℕ, ◌+◌, ◌*◌, ◌<◌, ◌≤◌, Bool, true, false, ◌||◌, [], ◌∷◌, ◌++◌, map, drop, All, IfOk, Some, None, is_some, refl, sym, ap, ap₂, subst, ◌∙◌, append-nil, append_assoc}
use Rattle.std.proofs.Math.Bool.{or-false}
use Rattle.std.proofs.lemmas.Bool.{and_parts}
use Rattle.std.proofs.lemmas.List.{drop_more, drop_all, nil_from_length}
use Rattle.std.specs.Ordering.{nat_cmp}
use Rattle.std.specs.BTreeMap.{get}
use Rattle.cell_graph.specs.Tree.{Const}
use denote.Param.Weighed.{most}
use Rattle.flat_form.specs.declared.flat.FCaseItem.{size-FCaseItem}
use Rattle.flat_form.specs.declared.flat.FStmt.TheVariants as v
use Rattle.flat_form.specs.Sizes.{is_stmt_sized, list_true}
use Rattle.flat_meaning.specs.Assigned.{surely, FitStmts}
use Rattle.driver_trees.specs.Presents.{IsWithin, AreRead, is_target as may_read}
use Rattle.driver_trees.specs.Statements.{IsStmtRead, IsOtherRead, other_of, IsItemRead, case_of, default_of, tried, IsDefault, IsRest}
use Rattle.flat_form.specs.View.{stmt_of, stmts_of, target_of, expr_of, arm_of, items_of}
use Rattle.flat_form.proofs.StmtFolds.{stmt_of-Null, stmt_of-Set, stmt_of-Block}
use Rattle.flat_meaning.specs.Flat.{Stmt, Case, case_size, largest, assigns, all_assign, case_assigns}
use Rattle.flat_meaning.specs.Full.{is_full}
use Rattle.flat_meaning.specs.Trees.{Selects, tree, value_tree, truth_of, label_tree, after, after_all}
use Rattle.driver_trees.specs.Growth.{Grows}
use Rattle.driver_trees.specs.Changes.{look_of, IsSame, IsBranch}
use Rattle.driver_trees.specs.Shares.{shares, share_trees, has_share, ArePuts}
use Rattle.driver_trees.proofs.Growing.{ok-map, still-grows}
use Rattle.driver_trees.proofs.Stays.{grows_not, process_grows, condition_grows, branch_grows}
use Rattle.driver_trees.proofs.Steps.{assigns_none, assigns_more}
use Rattle.driver_trees.proofs.Parts.{views}
use Rattle.driver_trees.proofs.Processes.{process_sees}
use Rattle.driver_trees.proofs.Shares.{shares_put, shares_targets}
use Rattle.driver_trees.proofs.Statements.{ok_all, ok_two, runs_as, taken_back, set_read, if_read, block_read, process_kept, branch_kept, same_next, branch_runs, no_branch}
use Rattle.driver_trees.proofs.Cases.{first_true, last_true, case-read, size-default, same_self, rest_kept, case_rest, last_rest, empty_rest, item_before, last_item, case_done, word_later, middle, at_middle}
use Rattle.driver_trees.proofs.process.+statements.Goals as goal

pub changes-returns : goal.changes-returns
changes-returns t c = record {
  branch = λ wid target ts process read targets.
      let p = c.args.present.now in let L = λ (sel : Selects). look_of wid p.blocking target sel in let s = stmt_of c.args.statement.now in
      let r = c.in_ok-run.ensures.runs wid target ts process read targets in
      ok_all c.take_back.result c.take_back.ensures.changes c.take_back.ensures.present c.take_back.ensures.log (λ changes gets presents log.
      let b = taken_back wid c.args.drafts.now c.run.new.drafts p c.run.new.present c.take_back.new.self target (assigns s) ts (λ sel. after wid (L sel) s (ts sel)) changes c.mark-mark.result
      process r targets c.mark-mark.ensures gets presents log c.take_back.ensures.widths c.take_back.ensures.blocking in
      (r.grows, b.0, b.1));
}

pub run-returns-in-Null : goal.run-returns-in-Null
run-returns-in-Null t c = record {
  runs = λ wid target ts process read targets.
      let p = c.args.present.now in let ds = c.args.drafts.now in
      let is = ap stmt_of c.in-Null.is ∙ stmt_of-Null in
      runs_as wid ds ds p p target (λ x. false) _ ts _ (record { grows = grows_not wid ds process.drafts; assigns = assigns_none p; process = process })
      (λ x. sym (ap (λ s. assigns s x) is)) (λ sel x. sym (ap (λ s. after wid (look_of wid p.blocking target sel) s (ts sel) x) is));
}

pub run-returns-in_ok-puts-in-Set : goal.run-returns-in_ok-puts-in-Set
run-returns-in_ok-puts-in-Set t c = record {
  runs = λ wid target ts process read targets.
      let p = c.args.present.now in let ds = c.args.drafts.now in let es = c.puts.new.drafts in let T = target_of c.in-Set.target in let E = expr_of c.in-Set.value in
      let is = ap stmt_of c.in-Set.is ∙ stmt_of-Set c.in-Set.blocking c.in-Set.target c.in-Set.value in
      let look = λ (sel : Selects). look_of wid p.blocking target sel (ts sel) in
      let ss = λ (sel : Selects). shares wid (look sel) T (value_tree wid (look sel) T E) in
      let first : Selects = λ s at w. Const 1 0 in
      let r = set_read wid c.args.statement.now read c.in-Set.blocking c.in-Set.target c.in-Set.value c.in-Set.is in
      let made = c.in_ok-puts-in-Set.ensures.shares wid look process.drafts (process_sees wid ds p target ts process) r.0 r.1 in
      let has : (x : ℕ) → has_share (ss first) x ≡ assigns (stmt_of c.args.statement.now) x = λ x. shares_targets wid (look first) T (value_tree wid (look first) T E) x ∙ sym (ap (λ s. assigns s x) is) in
      let a = c.assign_all.ensures.assigns wid target ts ss first (process_grows wid ds es made.0 p target ts process) (subst (λ xs. ArePuts wid es xs ss) (sym c.as_slice.ensures.value) made.1) (λ x h. targets x (sym (has x) ∙ h)) in
      ok-map c.assign_all.result (λ u h. runs_as wid ds c.assign_all.new.drafts p c.assign_all.new.present target (has_share (ss first)) _ (λ sel. share_trees wid (ss sel) (ts sel)) _
      (record { grows = still-grows wid ds es c.assign_all.new.drafts made.0 h.0; assigns = h.1; process = h.2 }) has
      (λ sel x. ap (λ f. f x) (shares_put wid (look sel) T (value_tree wid (look sel) T E) (ts sel)) ∙ sym (ap (λ s. after wid (look_of wid p.blocking target sel) s (ts sel) x) is))) a;
}

or_more : (a b c : Bool) → ((a || b) || c) ≡ (a || (b || c))
or_more true b c = refl
or_more false b c = refl

pub other_changes-returns-in-Some : goal.other_changes-returns-in-Some
other_changes-returns-in-Some t c = record {
  branch = λ wid target ts process read targets.
      let p = c.args.present.now in
      let same : c.in-Some.other.value ≡ c.deref.result.now = sym c.deref.ensures in
      let is : other_of c.args.other.now ≡ stmt_of c.deref.result.now = ap other_of c.in-Some.is ∙ ap stmt_of same in
      subst (λ (S : Stmt). IfOk c.changes.result (λ changes. Grows wid c.args.drafts.now c.changes.new.drafts × IsSame p c.changes.new.present
      × IsBranch wid c.changes.new.drafts c.changes.new.present changes (assigns S) (λ sel. after wid (look_of wid p.blocking target sel) S (ts sel)))) (sym is)
      (c.changes.ensures.branch wid target ts process (subst (IsStmtRead wid) same (subst (IsOtherRead wid) c.in-Some.is read)) (λ x h. targets x (ap (λ S. assigns S x) is ∙ h)));
}

pub other_changes-returns-in-None : goal.other_changes-returns-in-None
other_changes-returns-in-None t c = record {
  branch = λ wid target ts process read targets.
      let p = c.args.present.now in let ds = c.args.drafts.now in (
        grows_not wid ds process.drafts,
        record { present = λ x. refl; log = refl; widths = refl; blocking = refl },
        subst (λ (S : Stmt). IsBranch wid ds p c.new.result (assigns S) (λ sel. after wid (look_of wid p.blocking target sel) S (ts sel))) (sym (ap other_of c.in-None.is))
            (no_branch wid ds p target ts c.new.result process c.new.ensures.empty),
      );
}

pub run-returns-in_ok-merged-in-If : goal.run-returns-in_ok-merged-in-If
run-returns-in_ok-merged-in-If t c = record {
  runs = λ wid target ts process read targets.
      let p = c.args.present.now in let p1 = c.changes.new.present in let p2 = c.other_changes.new.present in
      let ds = c.args.drafts.now in let d1 = c.truth.new.drafts in let d2 = c.changes.new.drafts in let d3 = c.other_changes.new.drafts in let d4 = c.merged.new.drafts in
      let r = if_read wid c.args.statement.now read c.in-If.cond c.in-If.yes c.in-If.other c.in-If.is in
      let C = expr_of c.in-If.cond in let Y = stmt_of c.in-If.yes.value in let O = other_of c.in-If.other in
      let yes : c.in-If.yes.value ≡ c.deref.result.now = search rules in
      let L = λ (sel : Selects). look_of wid p.blocking target sel in
      let may : (x : ℕ) → (assigns Y x || assigns O x) ≡ true → target x ≡ true = λ x h. targets x (ap (λ s. assigns s x) r.0 ∙ h) in
      let b = c.in_ok-cond-in-If.ensures.built wid (λ sel. L sel (ts sel)) process.drafts (process_sees wid ds p target ts process) r.1 in
      let y = c.in_ok-yes-in-If.ensures.branch wid target ts (process_grows wid ds d1 b.grows p target ts process) (subst (IsStmtRead wid) yes r.2)
      (λ x h. may x (first_true (assigns Y x) (assigns O x) (ap (λ s. assigns (stmt_of s) x) yes ∙ h))) in
      let g2 = still-grows wid ds d1 d2 b.grows y.0 in
      let process1 = process_kept wid ds d2 p p1 target ts process g2 y.1 in
      let o = c.in_ok-other-in-If.ensures.branch wid target ts process1 r.3 (λ x h. may x (last_true (assigns Y x) (assigns O x) h)) in
      let same = same_next p p1 p2 y.1 o.1 in
      let g3 = still-grows wid ds d2 d3 g2 o.0 in
      let process2 = process_kept wid ds d3 p p2 target ts process g3 same in
      let first = subst (λ s. IsBranch wid d2 p1 c.in_ok-yes-in-If.yes (assigns (stmt_of s)) (λ sel. after wid (L sel) (stmt_of s) (ts sel))) (sym yes) y.2 in
      let second = subst (λ k. IsBranch wid d3 p2 c.in_ok-other-in-If.other (assigns O) (λ sel. after wid (look_of wid k target sel) O (ts sel))) y.1.blocking o.2 in
      let m = c.in_ok-merged-in-If.ensures.merged wid target (assigns Y) (assigns O) (λ sel. truth_of wid (L sel (ts sel)) C) ts (λ sel. after wid (L sel) Y (ts sel)) (λ sel. after wid (L sel) O (ts sel)) process2
      (condition_grows wid d1 d3 (still-grows wid d1 d2 d3 y.0 o.0) c.in_ok-cond-in-If.cond (λ sel. truth_of wid (L sel (ts sel)) C) (record { place = b.place; tree = b.tree }))
      (branch_kept wid d3 p1 p2 c.in_ok-yes-in-If.yes (assigns Y) _ (branch_grows wid d2 d3 o.0 p1 c.in_ok-yes-in-If.yes (assigns Y) _ first) o.1) second in
      let known : (x : ℕ) → is_some (get nat_cmp c.in_ok-merged-in-If.merged x) ≡ true → may_read p2 x ≡ true = λ x h. m.1.targets x (sym (m.1.keys x) ∙ h) in
      ok_two c.set_all.result (c.set_all.ensures.assigns known) (c.set_all.ensures.trees known) (λ a trees.
      runs_as wid ds d4 p c.set_all.new.self target (λ x. assigns Y x || assigns O x) _ _ _
      (branch_runs wid ds d3 d4 p p2 c.set_all.new.self target (λ x. assigns Y x || assigns O x) ts _ c.in_ok-merged-in-If.merged process2 (still-grows wid ds d3 d4 g3 m.0) same m.1 a trees)
      (λ x. sym (ap (λ s. assigns s x) r.0)) (λ sel x. sym (ap (λ s. after wid (L sel) s (ts sel) x) r.0)));
}

pub run-returns-in-Block : goal.run-returns-in-Block
run-returns-in-Block t c = record {
  runs = λ wid target ts process read targets.
      let p = c.args.present.now in let parts = c.as_slice-in-Block.result.now in
      let at : c.args.statement.now ≡ v.Block parts = c.in-Block.is ∙ ap v.Block (sym c.as_slice-in-Block.ensures) in
      let is = ap stmt_of at ∙ stmt_of-Block parts in
      let r = block_read wid c.args.statement.now read parts at in
      ok-map c.run_all.result (λ u h. runs_as wid c.args.drafts.now c.run_all.new.drafts p c.run_all.new.present target _ _ _ _ h
      (λ x. sym (ap (λ s. assigns s x) is)) (λ sel x. sym (ap (λ s. after wid (look_of wid p.blocking target sel) s (ts sel) x) is)))
      (c.run_all.ensures.runs wid target ts read.done process r.0 r.1 (λ x h. targets x (ap (λ s. assigns s x) is ∙ h)));
}

pub run_all-loop-part-init : goal.run_all-loop-part-init
run_all-loop-part-init t c = λ wid target ts done process sized fits targets.
    (grows_not wid c.args.drafts.now process.drafts, sized, done, fits, λ x. false, assigns_none c.args.present.now, λ x. refl, ts, process, λ sel. refl)

pub run_all-loop-part-preserved : goal.run_all-loop-part-preserved
run_all-loop-part-preserved t c = λ wid target ts done process sized fits targets.
    let i = c.loop-part.invariant wid target ts done process sized fits targets in
    let parts = c.args.parts.now in let k = c.loop-part.part-index in let part = c.part-item.result in let rest = drop (k + 1) parts in let X = stmt_of part in
    let p = c.args.present.now in let q = c.loop-part.present in
    let next : drop k parts ≡ part ∷ rest = drop_more parts k part (omega (arith, c.loop-part-test.true, c.loop-part.auto.part-index-end)) ∙ ap (λ y. y ∷ rest) (sym c.part-item.is) in
    let both = and_parts (is_stmt_sized wid part) (list_true wid (map (is_stmt_sized wid) rest)) (sym (ap (λ l. list_true wid (map (is_stmt_sized wid) l)) next) ∙ i.1) in
    let parted = subst (λ l. FitStmts wid (λ d. IsWithin wid) i.2 (stmts_of (map stmt_of l))) next i.3 in
    let all : (x : ℕ) → (i.4 x || (assigns X x || all_assign (stmts_of (map stmt_of rest)) x)) ≡ all_assign (stmts_of (map stmt_of parts)) x =
    λ x. ap (λ l. i.4 x || all_assign (stmts_of (map stmt_of l)) x) (sym next) ∙ i.6 x in
    let r = c.in_ok-run.ensures.runs wid target i.7 i.8 (record { sized = both.0; done = i.2; fits = parted.0 })
    (λ x h. targets x (sym (all x) ∙ last_true (i.4 x) _ (first_true (assigns X x) _ h))) in (
      still-grows wid c.args.drafts.now c.loop-part.drafts c.run.new.drafts i.0 r.grows,
      both.1,
      surely wid X i.2,
      parted.1,
      λ x. i.4 x || assigns X x,
      assigns_more p q c.run.new.present i.4 (assigns X) i.5 r.assigns,
      λ x. or_more (i.4 x) (assigns X x) (all_assign (stmts_of (map stmt_of rest)) x) ∙ all x,
      _,
      r.process,
      λ sel. ap (λ b. after_all wid (look_of wid p.blocking target sel) (stmts_of (map stmt_of rest)) (after wid (look_of wid b target sel) X (i.7 sel))) i.5.blocking
          ∙ ap (λ l. after_all wid (look_of wid p.blocking target sel) (stmts_of (map stmt_of l)) (i.7 sel)) (sym next) ∙ i.9 sel,
    )

pub run_all-returns : goal.run_all-returns
run_all-returns t c = record {
  runs = λ wid target ts done process sized fits targets.
      let i = c.loop-part.invariant wid target ts done process sized fits targets in
      let parts = c.args.parts.now in let p = c.args.present.now in
      let none : drop c.loop-part.part-index parts ≡ [] = drop_all c.loop-part.part-index parts (omega (arith, c.loop-part-test.false)) in
      runs_as wid c.args.drafts.now c.loop-part.drafts p c.loop-part.present target i.4 _ i.7 _ (record { grows = i.0; assigns = i.5; process = i.8 })
      (λ x. sym (or-false (i.4 x)) ∙ ap (λ l. i.4 x || all_assign (stmts_of (map stmt_of l)) x) (sym none) ∙ i.6 x)
      (λ sel x. ap (λ l. after_all wid (look_of wid p.blocking target sel) (stmts_of (map stmt_of l)) (i.7 sel) x) (sym none) ∙ ap (λ f. f x) (i.9 sel));
}

-- ---- cases

pub run-returns-in_ok-merged-in-Case : goal.run-returns-in_ok-merged-in-Case
run-returns-in_ok-merged-in-Case t c = record {
  runs = λ wid target ts process read targets.
      let p = c.args.present.now in let p1 = c.default_changes.new.present in let p2 = c.case_changes.new.present in
      let ds = c.args.drafts.now in let d1 = c.default_changes.new.drafts in let d2 = c.case_changes.new.drafts in
      let e = c.in-Case.subject in let is = c.as_slice-in-Case.result.now in let last = c.in-Case.default in
      let at : c.args.statement.now ≡ v.Case e is last = c.in-Case.is ∙ ap (λ l. v.Case e l last) (sym c.as_slice-in-Case.ensures) in
      let r = case-read wid target c.args.statement.now read e is last at targets in
      let d = c.in_ok-last-in-Case.ensures.branch wid target ts process r.1.default r.1.targets in
      let before = process_kept wid ds d1 p p1 target ts process d.0 d.1 in
      let m = c.in_ok-merged-in-Case.ensures.branch wid target ts last before r.1 d.2 in
      let g = still-grows wid ds d1 d2 d.0 m.0 in let same = same_next p p1 p2 d.1 m.1 in
      let merged = c.in_ok-merged-in-Case.merged in
      let assigned = case_assigns (case_of is last) in
      let branch = subst (λ k. IsBranch wid d2 p2 merged assigned (λ sel. after wid (look_of wid k target sel) (Case (expr_of e) (case_of is last)) (ts sel))) d.1.blocking m.2 in
      let known : (x : ℕ) → is_some (get nat_cmp merged x) ≡ true → may_read p2 x ≡ true = λ x h. branch.targets x (sym (branch.keys x) ∙ h) in
      ok_two c.set_all-in-Case.result (c.set_all-in-Case.ensures.assigns known) (c.set_all-in-Case.ensures.trees known) (λ a trees.
      runs_as wid ds d2 p c.set_all-in-Case.new.self target assigned _ _ _
      (branch_runs wid ds d2 d2 p p2 c.set_all-in-Case.new.self target assigned ts _ merged (process_kept wid ds d2 p p2 target ts process g same) g same branch a trees)
      (λ x. sym (ap (λ s. assigns s x) r.0)) (λ sel x. sym (ap (λ s. after wid (look_of wid p.blocking target sel) s (ts sel) x) r.0)));
}

pub default_changes-returns-in_ok-last-in-Some : goal.default_changes-returns-in_ok-last-in-Some
default_changes-returns-in_ok-last-in-Some t c = record {
  branch = λ wid target ts process read targets.
      let p1 = c.changes.new.present in let es = c.changes.new.drafts in let last = c.in_ok-last-in-Some.last in
      let body = c.in-Some.body in
      let same : body.value ≡ c.deref.result.now = sym c.deref.ensures in
      let other : other_of c.args.default.now ≡ stmt_of c.deref.result.now = ap other_of c.in-Some.is ∙ ap stmt_of same in
      let b = c.in_ok-last-in-Some.ensures.branch wid target ts process (subst (IsStmtRead wid) same (subst (IsOtherRead wid) c.in-Some.is read)) (λ x h. targets x (ap (λ z. assigns z x) other ∙ h)) in (
        b.0,
        b.1,
        subst (λ o. IsDefault wid es p1 target ts o (Some last)) (sym c.in-Some.is)
            (subst (λ s. IsBranch wid es p1 last (assigns (stmt_of s)) (λ sel. after wid (look_of wid p1.blocking target sel) (stmt_of s) (ts sel))) (sym same)
            (subst (λ k. IsBranch wid es p1 last (assigns (stmt_of c.deref.result.now)) (λ sel. after wid (look_of wid k target sel) (stmt_of c.deref.result.now) (ts sel))) (sym b.1.blocking) b.2)),
      );
}

pub default_changes-returns-in-None : goal.default_changes-returns-in-None
default_changes-returns-in-None t c = record {
  branch = λ wid target ts process read targets.
      let p = c.args.present.now in let ds = c.args.drafts.now in
      (grows_not wid ds process.drafts, same_self p, subst (λ o. IsDefault wid ds p target ts o None) (sym c.in-None.is) tt);
}

pub case_changes-returns : goal.case_changes-returns
case_changes-returns t c = record {
  branch = λ wid target ts last process read default.
      let p = c.args.present.now in let p2 = c.items_changes.new.present in
      let ds = c.args.drafts.now in let d1 = c.tree.new.drafts in let d3 = c.items_changes.new.drafts in
      let e = expr_of c.args.subject.now in let list = c.args.items.now in let is = case_of list last in let n = c.case_size-size.result in
      let T = λ (sel : Selects). tree wid (look_of wid p.blocking target sel (ts sel)) e n in
      let size : n ≡ case_size e is = c.case_size-size.ensures None read.subject.sized read.sized ∙ size-default c.args.subject.now list last in
      let most = read.most in
      let word = c.in_ok-word.ensures.built wid (λ sel. look_of wid p.blocking target sel (ts sel)) process.drafts (process_sees wid ds p target ts process) read.subject (omega (arith, size)) (omega (arith, size, most)) in
      let before = process_grows wid ds d1 word.grows p target ts process in
      let rest = case_rest wid target n T ts ds d1 p list last c.args.last c.in_ok-rest.rest before word.grows default c.in_ok-rest.ensures.some
      (λ none room. c.in_ok-rest.ensures.full none read.sized room (omega (arith, size, most))) (omega (arith, size)) in
      ok-map c.items_changes.result (λ changes m. (still-grows wid ds d1 d3 word.grows m.0, m.1, case_done wid target d3 p p p2 ts e is n changes size (same_self p) m.2))
      (c.items_changes.ensures.branch wid target (is_full n is) T ts (default_of last) before (subst (λ w. All (IsItemRead wid target w) list) (sym size) read.items)
      (record { place = word.place; tree = word.tree }) (omega (arith, size, most)) rest);
}

pub items_changes-loop-item-init : goal.items_changes-loop-item-init
items_changes-loop-item-init t c =
    ([], sym (append-nil c.args.items.now), λ wid target full T ts behind process items word most rest. (grows_not wid c.args.drafts.now process.drafts, same_self c.args.present.now, rest))

pub items_changes-loop-item-preserved : goal.items_changes-loop-item-preserved
items_changes-loop-item-preserved t c =
    let f = c.loop-item.invariant in let before = c.in-Some.before.now in let i = c.in-Some.item.now in
    let ds = c.args.drafts.now in let d1 = c.loop-item.drafts in let d2 = c.item_changes.new.drafts in
    let p = c.args.present.now in let p1 = c.loop-item.present in let p2 = c.item_changes.new.present in
    let front : c.args.items.now ≡ before ++ i ∷ f.0 = f.1 ∙ ap (λ xs. xs ++ f.0) c.in-Some.ensures.cases.0 ∙ append_assoc before (i ∷ []) f.0 in (
      i ∷ f.0,
      front,
      λ wid target full T ts behind process items word most rest.
          let so_far = f.2 wid target full T ts behind process items word most rest in
          let r = c.in_ok-changes.ensures.rest wid target full T ts (items_of (map arm_of f.0) behind) (process_kept wid ds d1 p p1 target ts process so_far.0 so_far.1)
          (middle (IsItemRead wid target c.args.size) before i f.0 (subst (All (IsItemRead wid target c.args.size)) front items)) (word_later ds d1 c.args.word c.args.size T so_far.0.longer word) most so_far.2 in
          (still-grows wid ds d1 d2 so_far.0 r.0, same_next p p1 p2 so_far.1 r.1, r.2),
    )

pub items_changes-returns-in-Some-rest : goal.items_changes-returns-in-Some-rest
items_changes-returns-in-Some-rest t c = record {
  branch = λ wid target full T ts behind process items word most rest.
      let f = c.loop-item.invariant in let es = c.loop-item.drafts in let q = c.loop-item.present in let n = c.args.size in
      let so_far = f.2 wid target full T ts behind process items word most rest in
      let all : c.args.items.now ≡ f.0 = f.1 ∙ ap (λ xs. xs ++ f.0) (nil_from_length c.loop-item.left.now c.in_default.ensures.cases) in
      let r = subst (IsRest wid es q target full n T ts (items_of (map arm_of f.0) behind)) c.in-Some-rest.is so_far.2 in (
        so_far.0,
        so_far.1,
        subst (λ k. IsBranch wid es q c.in-Some-rest.changes (case_assigns (items_of (map arm_of c.args.items.now) behind)) (tried wid k target full n T ts ts (items_of (map arm_of c.args.items.now) behind))) so_far.1.blocking
            (subst (λ xs. IsBranch wid es q c.in-Some-rest.changes (case_assigns (items_of (map arm_of xs) behind)) (tried wid q.blocking target full n T ts ts (items_of (map arm_of xs) behind))) (sym all)
            (last_rest wid target full n T ts es q (items_of (map arm_of f.0) behind) c.in-Some-rest.changes r)),
      );
}

pub items_changes-returns-in-None : goal.items_changes-returns-in-None
items_changes-returns-in-None t c = record {
  branch = λ wid target full T ts behind process items word most rest.
      let f = c.loop-item.invariant in let es = c.loop-item.drafts in let q = c.loop-item.present in let n = c.args.size in
      let so_far = f.2 wid target full T ts behind process items word most rest in
      let all : c.args.items.now ≡ f.0 = f.1 ∙ ap (λ xs. xs ++ f.0) (nil_from_length c.loop-item.left.now c.in_default.ensures.cases) in
      let r = subst (IsRest wid es q target full n T ts (items_of (map arm_of f.0) behind)) c.in-None.is so_far.2 in (
        so_far.0,
        so_far.1,
        subst (λ k. IsBranch wid es q c.new.result (case_assigns (items_of (map arm_of c.args.items.now) behind)) (tried wid k target full n T ts ts (items_of (map arm_of c.args.items.now) behind))) so_far.1.blocking
            (subst (λ xs. IsBranch wid es q c.new.result (case_assigns (items_of (map arm_of xs) behind)) (tried wid q.blocking target full n T ts ts (items_of (map arm_of xs) behind))) (sym all)
            (empty_rest wid target full n T ts es q (items_of (map arm_of f.0) behind) c.new.result (process_kept wid c.args.drafts.now es c.args.present.now q target ts process so_far.0 so_far.1) r c.new.ensures.empty)),
      );
}

pub items_changes-item_changes-requires : goal.items_changes-item_changes-requires
items_changes-item_changes-requires t c =
    let f = c.loop-item.invariant in let before = c.in-Some.before.now in let i = c.in-Some.item.now in
    let front : c.args.items.now ≡ before ++ i ∷ f.0 = f.1 ∙ ap (λ xs. xs ++ f.0) c.in-Some.ensures.cases.0 ∙ append_assoc before (i ∷ []) f.0 in
    let below : size-FCaseItem i ≤ most size-FCaseItem c.args.items.now = subst (λ xs. size-FCaseItem i ≤ most size-FCaseItem xs) (sym front) (at_middle size-FCaseItem before i f.0) in
    let now : 3 * most size-FCaseItem c.args.items.now + 1 ≡ t = c.decreases in
    let less : 3 * size-FCaseItem i + 0 < t = omega (arith, below, now) in
    (less, tt)

pub item_changes-returns-in-Some : goal.item_changes-returns-in-Some
item_changes-returns-in-Some t c = record {
  rest = λ wid target full T ts behind process read word most rest.
      let p = c.args.present.now in let p1 = c.changes.new.present in let i = c.args.item.now in let n = c.args.size in
      let ds = c.args.drafts.now in let d1 = c.condition.new.drafts in let d2 = c.changes.new.drafts in let d3 = c.merged.new.drafts in
      let S = stmt_of i.body in let labels = c.as_slice.result.now in let C = c.in_ok-cond.cond in let Y = c.in_ok-yes.yes in
      let same : labels ≡ i.labels = c.as_slice.ensures in
      let met_at = λ (k : Bool) (sel : Selects). label_tree wid (look_of wid k target sel (ts sel)) n (T sel) (views i.labels) in
      let done_at = λ (k : Bool) (sel : Selects). after wid (look_of wid k target sel) S (ts sel) in
      let test = c.in_ok-cond.ensures.built wid (λ sel. look_of wid p.blocking target sel (ts sel)) T process.drafts (process_sees wid ds p target ts process) (subst (AreRead wid) (sym same) read.labels)
      (subst (λ ls. largest (views ls) ≤ n) (sym same) read.room) most word in
      let y = c.in_ok-yes.ensures.branch wid target ts (process_grows wid ds d1 test.grows p target ts process) read.body read.targets in
      let g = still-grows wid ds d1 d2 test.grows y.0 in
      let cond = condition_grows wid d1 d2 y.0 C (met_at p1.blocking) (record {
        place = test.place;
        tree = λ sel. test.tree sel ∙ ap₂ (λ k ls. label_tree wid (look_of wid k target sel (ts sel)) n (T sel) (views ls)) (sym y.1.blocking) same;
      }) in
      let body = subst (λ k. IsBranch wid d2 p1 Y (assigns S) (done_at k)) (sym y.1.blocking) y.2 in
      let before = process_kept wid ds d2 p p1 target ts process g y.1 in
      let kept = subst (IsRest wid d2 p1 target full n T ts behind) c.in-Some.is (rest_kept wid target full n T ts ds d2 p p1 behind c.args.rest.now rest g y.1) in
      ok-map c.merged.result (λ changes m. (still-grows wid ds d2 d3 g m.0, y.1, item_before wid target full n T ts d3 p1 i behind changes m.1))
      (c.merged.ensures.merged wid target (assigns S) (case_assigns behind) (met_at p1.blocking) ts (done_at p1.blocking) (tried wid p1.blocking target full n T (done_at p1.blocking) ts behind) before cond body
      (kept (done_at p1.blocking)));
}

pub item_changes-returns : goal.item_changes-returns
item_changes-returns t c = record {
  rest = λ wid target full T ts behind process read word most rest.
      let p = c.args.present.now in let p1 = c.changes.new.present in let i = c.args.item.now in let n = c.args.size in
      let ds = c.args.drafts.now in let d1 = c.condition.new.drafts in let d2 = c.changes.new.drafts in let d3 = c.merged-in-None.new.drafts in
      let S = stmt_of i.body in let labels = c.as_slice.result.now in let C = c.in_ok-cond.cond in let Y = c.in_ok-yes.yes in
      let same : labels ≡ i.labels = c.as_slice.ensures in
      let met_at = λ (k : Bool) (sel : Selects). label_tree wid (look_of wid k target sel (ts sel)) n (T sel) (views i.labels) in
      let done_at = λ (k : Bool) (sel : Selects). after wid (look_of wid k target sel) S (ts sel) in
      let test = c.in_ok-cond.ensures.built wid (λ sel. look_of wid p.blocking target sel (ts sel)) T process.drafts (process_sees wid ds p target ts process) (subst (AreRead wid) (sym same) read.labels)
      (subst (λ ls. largest (views ls) ≤ n) (sym same) read.room) most word in
      let y = c.in_ok-yes.ensures.branch wid target ts (process_grows wid ds d1 test.grows p target ts process) read.body read.targets in
      let g = still-grows wid ds d1 d2 test.grows y.0 in
      let cond = condition_grows wid d1 d2 y.0 C (met_at p1.blocking) (record {
        place = test.place;
        tree = λ sel. test.tree sel ∙ ap₂ (λ k ls. label_tree wid (look_of wid k target sel (ts sel)) n (T sel) (views ls)) (sym y.1.blocking) same;
      }) in
      let body = subst (λ k. IsBranch wid d2 p1 Y (assigns S) (done_at k)) (sym y.1.blocking) y.2 in
      let before = process_kept wid ds d2 p p1 target ts process g y.1 in
      let kept = subst (IsRest wid d2 p1 target full n T ts behind) c.in-None.is (rest_kept wid target full n T ts ds d2 p p1 behind c.args.rest.now rest g y.1) in
      ok-map c.merged-in-None.result (λ changes m. (still-grows wid ds d2 d3 g m.0, y.1, last_item wid target full n T ts d3 p1 i behind changes kept m.1))
      (c.merged-in-None.ensures.merged wid target (assigns S) (assigns S) (met_at p1.blocking) ts (done_at p1.blocking) (done_at p1.blocking) before cond body body);
}
