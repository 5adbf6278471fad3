-- All places are gone over.
use Rattle.std.proofs.Common.{◌≡◌, ℕ, ◌+◌, ◌-◌, ◌<◌, ◌≤◌, cond, [], ◌++◌, map, sym, ap, subst, ◌∙◌, arith, append-nil}
use Rattle.cell_graph.specs.Tree.{bit_at}
use Rattle.flat_meaning.specs.Pieces.{add_bit}
use Rattle.driver_trees.specs.Collected.{run_of, runs_from, begun, IsBegun}
use Rattle.driver_trees.proofs.Runs.{runs_up, from_next, next_above}
use Rattle.driver_trees.proofs.mask.runs.Goals as goal

pub loop-at-preserved : goal.loop-at-preserved
loop-at-preserved c =
    let i = c.loop-at.invariant in let at = c.loop-at.at in let p = bit_at c.args.bits in let done = map run_of c.loop-at.runs.items in (
      (c.in_ok-from.ensures.goes_on [] i.0 tt).0,
      λ n e. let rs = runs_from p (at + 1) (n - (at + 1)) in
          sym (c.in_ok-from.ensures.goes_on rs i.0 (next_above p at (n - (at + 1)))).1
          ∙ ap (λ b. done ++ begun c.loop-at.from at (cond b (add_bit at rs) rs)) c.is_set.ensures
          ∙ ap (λ rs. done ++ begun c.loop-at.from at rs) (sym (from_next p at n (omega (arith, c.loop-at-test.true, c.loop-at.auto.at-end, e)))) ∙ i.1 n e,
    )

pub returns : goal.returns
returns c = λ n e.
    let i = c.loop-at.invariant in let at = c.loop-at.at in let p = bit_at c.args.bits in
    let end : at ≡ 64 = omega (arith, c.loop-at-test.false, c.loop-at.auto.at-end) in
    sym (append-nil (map run_of c.end_run.new.runs.items)) ∙ sym (c.in_ok-end_run.ensures.ends [] (subst (IsBegun c.loop-at.from) end i.0) tt)
    ∙ ap (λ a. map run_of c.loop-at.runs.items ++ begun c.loop-at.from a []) (sym end)
    ∙ ap (λ k. map run_of c.loop-at.runs.items ++ begun c.loop-at.from at (runs_from p at k)) (let z : 0 ≡ n - at = omega (arith, e, end) in z) ∙ i.1 n e ∙ sym (runs_up p n)
