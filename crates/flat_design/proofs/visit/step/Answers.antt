use Rattle.std.proofs.Common.{◌≡◌, List, Some, None, sym, ap, subst, ◌∙◌, rules}
use Rattle.std.specs.Prelude.{Err}
use Rattle.flat_names.specs.declared.design.Design.{Design}
use Rattle.flat_design.specs.declared.visit.Open.{Open}
use Rattle.flat_names.specs.Designs.{ShowsDesign}
use Rattle.flat_design.specs.Visiting.{AreFrames, Goes, Steps}
use Rattle.flat_design.proofs.Going.{item_at, no-frames, none-open, is-left, left-on, left-refused, has-next}
use Rattle.flat_design.proofs.visit.step.Goals as goal

pub returns-in_default-clause-exact : goal.returns-in_default-clause-exact
returns-in_default-clause-exact c = λ pins frames d lib pinned formed h.
    let modules = c.args.library.now.modules.now in
    let none = none-open c.args.visit.now.open.items (sym c.args.visit.now.open.ok.0 ∙ c.in_default.ensures.cases.0) in
    (no-frames modules frames (subst (λ (os : List Open). AreFrames modules os frames) none h.frames_are), (h.design, h.fit))

pub returns-in_err-try_given-clause-exact : goal.returns-in_err-try_given-clause-exact
returns-in_err-try_given-clause-exact c = λ pins frames d lib pinned formed h.
    let modules = c.args.library.now.modules.now in let wires = c.args.library.now.wires_only in let o = c.in-Some.open in let now = c.args.visit.now in
    let none : item_at modules o.module o.next ≡ None = sym c.in_default-item.ensures in
    let left = is-left wires pins modules lib.distinct now.open.items c.pop.new.self.items o now.is_open.items now.design d c.in-Some.ensures.items frames h none in
    let shown = subst (λ (k : Design). ShowsDesign pins k d) (sym c.mark.ensures.design) h.design in
    let e = c.in_err-try_given.field-0.0 in
    let failed : c.from_residual.result ≡ Err e = search rules in
    subst (λ r. Steps wires pins modules frames d r c.mark.new.self) (sym failed)
    (left-refused wires pins modules lib.distinct now.open.items c.pop.new.self.items o now.is_open.items now.design d c.in-Some.ensures.items frames left c.mark.new.self e (c.in_err-try_given.ensures.exact pins left.f d left.is shown left.names))

pub returns-in_default-item-clause-exact : goal.returns-in_default-item-clause-exact
returns-in_default-item-clause-exact c = λ pins frames d lib pinned formed h.
    let modules = c.args.library.now.modules.now in let wires = c.args.library.now.wires_only in let o = c.in-Some.open in let now = c.args.visit.now in
    let none : item_at modules o.module o.next ≡ None = sym c.in_default-item.ensures in
    let left = is-left wires pins modules lib.distinct now.open.items c.pop.new.self.items o now.is_open.items now.design d c.in-Some.ensures.items frames h none in
    let shown = subst (λ (k : Design). ShowsDesign pins k d) (sym c.mark.ensures.design) h.design in
    left-on wires pins modules lib.distinct now.open.items c.pop.new.self.items o now.is_open.items now.design d c.in-Some.ensures.items frames left c.mark.new.self
    (c.in_ok-try_given.ensures.exact pins left.f d left.is shown left.names) (ap (λ v. v.items) c.mark.ensures.stack) c.mark.ensures.marks c.mark.ensures.design

pub returns-in_err-add_next-clause-exact : goal.returns-in_err-add_next-clause-exact
returns-in_err-add_next-clause-exact c = λ pins frames d lib pinned formed h.
    let modules = c.args.library.now.modules.now in let wires = c.args.library.now.wires_only in let o = c.in-Some.open in let now = c.args.visit.now in let i = c.in-Some-item.item.now in
    let next = c.in-Some-checked_add.next in
    let found : item_at modules o.module o.next ≡ Some i = sym c.in-Some-item.ensures in
    let n = has-next wires pins modules lib.distinct now.open.items c.pop.new.self.items o now.is_open.items now.design d c.in-Some.ensures.items frames h i found next c.in-Some-checked_add.ensures.1 in
    let e = c.in_err-add_next.field-0.0 in
    let failed : c.from_residual-in_err-add_next.result ≡ Err e = search rules in
    subst (λ r. Steps wires pins modules frames d r c.add_next.new.visit) (sym failed)
    (subst (λ q. Goes wires pins modules q (Err e) c.add_next.new.visit) (sym n.rest) (c.in_err-add_next.ensures.exact pins n.fs n.f d lib pinned formed n.visiting n.before))

pub returns-clause-exact : goal.returns-clause-exact
returns-clause-exact c = λ pins frames d lib pinned formed h.
    let modules = c.args.library.now.modules.now in let wires = c.args.library.now.wires_only in let o = c.in-Some.open in let now = c.args.visit.now in let i = c.in-Some-item.item.now in
    let next = c.in-Some-checked_add.next in
    let found : item_at modules o.module o.next ≡ Some i = sym c.in-Some-item.ensures in
    let n = has-next wires pins modules lib.distinct now.open.items c.pop.new.self.items o now.is_open.items now.design d c.in-Some.ensures.items frames h i found next c.in-Some-checked_add.ensures.1 in
    let g = c.in_ok-add_next.ensures.exact pins n.fs n.f d lib pinned formed n.visiting n.before in
    (g.0, g.1, n.rest ∙ g.2, g.3)
