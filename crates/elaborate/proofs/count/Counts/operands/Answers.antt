use Rattle.std.proofs.Common.{◌≡◌, ◌∙◌, ◌+◌, refl, sym, ap, arith, drop, get_or, length, None}
use Rattle.std.proofs.lemmas.List.{drop_more}
use Rattle.driver_loops.specs.Leads.{id_in, ids_in}
use Rattle.elaborate.specs.Counts.{added, capped}
use Rattle.elaborate.proofs.Counts.{added-append, one-added}
use Rattle.elaborate.proofs.NetTrees.{drop-whole}
use Rattle.elaborate.proofs.count.Counts.operands.Goals as goal

pub loop-operand-preserved : goal.loop-operand-preserved
loop-operand-preserved c =
    let counts = c.args.self.now.cells.items in let os = c.args.operands.now in let k = c.loop-operand.operand-index in
    let rest = ids_in (drop (k + 1) os) in
    let inv = c.loop-operand.invariant in
    let split : added counts (ids_in (drop k os)) ≡ c.operand.result + added counts rest =
    ap (λ xs. added counts (ids_in xs)) (drop_more os k None c.loop-operand-test.true) ∙ added-append counts (id_in (get_or os k None)) rest ∙ ap (λ n. n + added counts rest) (sym c.operand.ensures) in
    record {
      small = omega (arith, c.saturating_add-cells.ensures);
      summed = one-added c.loop-operand.cells c.saturating_add-cells.result c.operand.result (added counts rest) (capped (added counts (ids_in os))) (omega (arith, c.saturating_add-cells.ensures))
          (sym (ap (λ n. capped (c.loop-operand.cells + n)) split) ∙ inv.summed);
    }

pub returns : goal.returns
returns c =
    let counts = c.args.self.now.cells.items in let os = c.args.operands.now in let k = c.loop-operand.operand-index in
    let inv = c.loop-operand.invariant in
    let none : added counts (ids_in (drop k os)) ≡ 0 = ap (λ xs. added counts (ids_in xs)) (drop-whole os k (omega (arith, c.loop-operand-test.false))) in
    let whole : c.loop-operand.cells ≡ capped (c.loop-operand.cells + added counts (ids_in (drop k os))) = omega (arith, inv.small, none) in
    whole ∙ inv.summed
