use Rattle.std.proofs.Common.{sym, ap, subst, ◌∙◌}
use Rattle.verilog_reading.specs.ExprTree.{tree_of}
use Rattle.flat_unfolding.specs.Names.{meaning}
use Rattle.flat_unfolding.specs.Expressions.{read}
use Rattle.flat_unfolding.specs.Design.{look_of}
use Rattle.flat_unfolding.specs.Starts.{so_far}
use Rattle.flat_names.specs.Noting.{all_noted}
use Rattle.flat_names.specs.Designs.{ShowsNames, Meets}
use Rattle.flat_process.specs.Assigns.{fresh}
use Rattle.flat_process.specs.Starts.{with_one, declared_one, declared_broken}
use Rattle.flat_process.proofs.Started.{at-first, look-of, declared-inside, declared-is, starts-end}
use Rattle.flat_process.proofs.start.add_declared_start.Goals as goal

pub returns-clause-meets : goal.returns-clause-meets
returns-clause-meets c = λ pins s h is formed.
    let l = look_of s in
    let x = c.args.decl.now.name in
    let v = read l (tree_of c.args.value.now) in
    let m = meaning l x in
    let one = declared_one l m v in
    let bs = declared_broken l x m v in
    let table = c.args.names.now in
    let first = at-first pins c.args.design.now s h.design in
    let look = look-of pins c.look-look.result c.args.design.now s (so_far s) (subst (λ k. ShowsNames k s.names) (sym c.look-look.ensures.names) h.names) first c.look-look.ensures.entries c.look-look.ensures.active in
    let g = c.in_ok-start.ensures l look is formed in
    let kept = c.in_ok-set_start.ensures pins s.design (so_far s) one bs fresh first g.0 (declared-inside l is x v) (g.1 ∙ ap (λ f. all_noted f bs) c.new-faults.ensures) in
    subst (λ o. Meets pins table o c.raise.result c.set_start.new.design) (sym (declared-is s c.args.place x m v))
    (starts-end pins table c.set_start.new.design s c.args.place (with_one s.design.entries one bs (so_far s)) c.set_start.new.faults c.raise.result h.names kept.0 kept.1 c.raise.ensures.exact)
