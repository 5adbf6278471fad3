-- Each process gives its registers their next values.
use Rattle.std.proofs.Common.{◌≡◌, ℕ, ◌+◌, ◌<◌, ◌≤◌, [], ◌∷◌, ◌++◌, map, take, drop, length, sym, ap, subst, ◌∙◌, arith}
use Rattle.std.specs.List.{AllByRecursion as Each}
use Rattle.std.proofs.lemmas.List.{drop_more, take_more, take_all}
use Rattle.flat_form.specs.declared.flat.FlatClocked.{FlatClocked}
use Rattle.flat_form.specs.View.{stmt_of}
use Rattle.flat_meaning.specs.Flat.{Stmt}
use Rattle.driver_trees.specs.Statements.{IsStmtRead}
use Rattle.driver_trees.specs.Sketched.{AreNexts}
use Rattle.driver_trees.proofs.Growing.{still-grows}
use Rattle.driver_trees.proofs.Stays.{grows_not}
use Rattle.driver_trees.proofs.Begun.{nexts_none}
use Rattle.driver_trees.proofs.Registers.{map_end}
use Rattle.driver_trees.proofs.sketch.all_nexts.Goals as goal

pub loop-process-init : goal.loop-process-init
loop-process-init c = λ wid drafts idle read. (grows_not wid c.args.drafts.now drafts, idle, read, nexts_none wid c.args.drafts.now c.new-nexts.result c.new-nexts.ensures.empty)

pub loop-process-preserved : goal.loop-process-preserved
loop-process-preserved c = λ wid drafts idle read.
    let i = c.loop-process.invariant wid drafts idle read in
    let xs = c.args.processes.now in let k = c.loop-process.process-index in let a = c.process-item.result in let rest = drop (k + 1) xs in
    let ds = c.loop-process.drafts in let es = c.add_clocked.new.drafts in
    let one : FlatClocked → ℕ × Stmt = λ p. (p.clock, stmt_of p.body) in
    let l : k < length xs = omega (arith, c.loop-process-test.true, c.loop-process.auto.process-index-end) in
    let next : drop k xs ≡ a ∷ rest = drop_more xs k a l ∙ ap (λ y. y ∷ rest) (sym c.process-item.is) in
    let done : map one (take (k + 1) xs) ≡ map one (take k xs) ++ one a ∷ [] = ap (map one) (take_more xs k a l ∙ ap (λ y. take k xs ++ y ∷ []) (sym c.process-item.is)) ∙ map_end one (take k xs) a in
    let both = subst (Each (λ (p : FlatClocked). IsStmtRead wid p.body × (1 ≤ wid p.clock))) next i.2 in
    let r = c.in_ok-add_clocked.ensures.adds wid (map one (take k xs)) i.0.drafts i.1 both.0.0 both.0.1 i.3 in
    (still-grows wid c.args.drafts.now ds es i.0 r.0, r.1, both.1, subst (AreNexts wid es c.add_clocked.new.nexts) (sym done) r.2)

pub returns : goal.returns
returns c = record {
  nexts = λ wid drafts idle read.
      let i = c.loop-process.invariant wid drafts idle read in let xs = c.args.processes.now in
      let all : take c.loop-process.process-index xs ≡ xs = take_all c.loop-process.process-index xs (omega (arith, c.loop-process-test.false)) in
      (i.0, i.1, subst (λ l. AreNexts wid c.loop-process.drafts c.loop-process.nexts (map (λ (p : FlatClocked). (p.clock, stmt_of p.body)) l)) all i.3);
}
