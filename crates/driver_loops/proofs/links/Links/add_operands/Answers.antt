use Rattle.std.proofs.Common.{◌∙◌, sym, ap, arith, drop, get_or, None, ◌+◌}
use Rattle.std.proofs.lemmas.List.{at_drop_more, at_drop_all}
use Rattle.driver_loops.specs.Leads.{id_in, ids_in}
use Rattle.driver_loops.specs.Links.{extended}
use Rattle.driver_loops.proofs.Rows.{extended-nothing, extended-twice}
use Rattle.driver_loops.proofs.links.Links.add_operands.Goals as goal

pub loop-operand-preserved : goal.loop-operand-preserved
loop-operand-preserved c =
    let xs = c.operands-all.result in
    let i = c.loop-operand.operand-index in
    let rest = ids_in (drop (i + 1) xs) in
    ap (λ rs. extended rs rest) c.in_ok-add_operand.ensures ∙ extended-twice c.loop-operand.self (id_in (get_or xs i None)) rest
    ∙ ap (extended c.loop-operand.self) (sym (at_drop_more ids_in xs i None (let t = c.loop-operand-test.true in let n = c.operands-all.ensures.count in omega arith))) ∙ c.loop-operand.invariant

pub returns : goal.returns
returns c =
    let xs = c.operands-all.result in
    let i = c.loop-operand.operand-index in
    sym (extended-nothing c.loop-operand.self) ∙ ap (extended c.loop-operand.self) (sym (at_drop_all ids_in xs i (let t = c.loop-operand-test.false in let n = c.operands-all.ensures.count in omega arith)))
    ∙ c.loop-operand.invariant ∙ ap (extended c.args.self.now) c.operands-all.ensures.exact
