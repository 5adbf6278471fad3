use Rattle.std.proofs.Common.{◌≡◌, ◌-◌, ◌∷◌, map, refl, sym, subst, rules}
use Rattle.std.specs.Prelude.{Err}
use Rattle.verilog_reading.specs.SourceTree.{body_of, item_of, module_of}
use Rattle.flat_unfolding.specs.Design.{Stage}
use Rattle.flat_design.specs.declared.visit.Visit.{Visit}
use Rattle.flat_design.specs.Chosen.{chosen_visit}
use Rattle.flat_design.specs.Visiting.{visited, next_of, Goes}
use Rattle.flat_design.proofs.Fits.{chosen-looks}
use Rattle.flat_design.proofs.Going.{item-formed, item-refused, item-done, stage-shown}
use Rattle.flat_design.proofs.visit.add_plain.Goals as goal

pub returns-in_err-add_item-clause-exact : goal.returns-in_err-add_item-clause-exact
returns-in_err-add_item-clause-exact c = λ pins frames f d lib formed h before plain.
    let modules = c.args.library.now.modules.now in let wires = c.args.library.now.wires_only in let trees = map module_of modules in let i = c.args.item.now in let o = c.args.outer in let now = c.args.visit.now in
    let s : Stage = record { names = f.names; design = d } in
    let st = stage-shown pins modules lib.distinct now.open.items o now.is_open.items now.design f frames d h in
    let e = c.in_err-add_item.field-0.0 in
    let failed : c.from_residual.result ≡ Err e = search rules in
    let new : Visit = record now { design = c.add_item.new.design } in
    subst (λ r. Goes wires pins modules (next_of wires trees f frames d (item_of i)) r new) (sym failed)
    (item-refused wires pins modules f frames d (item_of i) o.names c.add_item.new.design new e
    (c.in_err-add_item.ensures.exact pins s trees (visited (f ∷ frames)) f.prefix (chosen_visit wires trees f.depth) st.0 st.1 (item-formed modules o.module (o.next - 1) i formed before) plain))

pub returns-clause-exact : goal.returns-clause-exact
returns-clause-exact c = λ pins frames f d lib formed h before plain.
    let modules = c.args.library.now.modules.now in let wires = c.args.library.now.wires_only in let trees = map module_of modules in let i = c.args.item.now in let o = c.args.outer in let now = c.args.visit.now in
    let s : Stage = record { names = f.names; design = d } in
    let st = stage-shown pins modules lib.distinct now.open.items o now.is_open.items now.design f frames d h in
    let new : Visit = record now { «open» = c.push.new.items; design = c.add_item.new.design } in
    item-done wires pins modules now.open.items o now.is_open.items now.design f frames d (item_of i) new h
    (λ t e. chosen-looks wires trees (visited (f ∷ frames)) f.prefix (chosen_visit wires trees f.depth) s t i.place (body_of i.body) plain e)
    (c.in_ok-add_item.ensures.exact pins s trees (visited (f ∷ frames)) f.prefix (chosen_visit wires trees f.depth) st.0 st.1 (item-formed modules o.module (o.next - 1) i formed before) plain)
    c.in_ok-push.ensures.pushed refl
