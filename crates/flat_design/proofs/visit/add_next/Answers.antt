use Rattle.std.proofs.Common.{◌-◌, map, sym, ap, subst, ◌∙◌}
use Rattle.verilog_ast.specs.declared.ItemBody.{ItemBody}
use Rattle.verilog_reading.specs.SourceTree.{body_of, module_of}
use Rattle.flat_unfolding.specs.Formed.{IsBodyFormed}
use Rattle.flat_design.specs.Visiting.{named_part, part_in, next_of, Goes}
use Rattle.flat_design.proofs.Going.{item-formed, plain-if}
use Rattle.flat_design.proofs.visit.add_next.Goals as goal

pub returns-in-Instance-clause-exact : goal.returns-in-Instance-clause-exact
returns-in-Instance-clause-exact c = λ pins frames f d lib pinned formed visiting before.
    let modules = c.args.library.now.modules.now in let wires = c.args.library.now.wires_only in let item = c.args.item.now in
    let body = item-formed modules c.args.outer.module (c.args.outer.next - 1) item formed before in
    let conns = subst (λ (z : ItemBody). IsBodyFormed (body_of z)) c.in-Instance.is body in
    subst (λ (z : ItemBody). Goes wires pins modules (next_of wires (map module_of modules) f frames d (record { place = item.place; body = body_of z })) c.add_instance.result c.add_instance.new.visit) (sym c.in-Instance.is)
    (c.add_instance.ensures.exact pins frames f d lib pinned formed visiting (ap part_in before ∙ ap named_part c.in-Instance.is) conns.0 conns.1)

pub returns-clause-exact : goal.returns-clause-exact
returns-clause-exact c = λ pins frames f d lib pinned formed visiting before.
    c.add_plain.ensures.exact pins frames f d lib formed visiting before (plain-if c.args.item.now.body c.in_default.not-Instance)
