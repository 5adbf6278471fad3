use Rattle.std.proofs.Common.{Some, None, true, refl, ap, ap₂, ◌∙◌, arith}
use Rattle.flat_unfolding.specs.Names.{a_param}
use Rattle.flat_names.specs.Looks.{param_of}
use Rattle.flat_names.specs.Selects.{index_of}
use Rattle.flat_names.proofs.Selected.{select-as, sound_with, missed, index-value, param-range, param-hit, param-missed}
use Rattle.flat_names.proofs.select.index_of_parameter.Goals as goal

pub returns-in-Some : goal.returns-in-Some
returns-in-Some c = λ l t fit is.
    let p = param_of c.args.param in let old = c.args.faults.now in let x = c.args.name.now in
    let o = index-value t c.args.index (Some c.in-Some.at) p.range is c.if-not-index.false (c.in-Some.ensures (is.sized c.if-not-index.false) (param-range p fit)) in
    select-as t.broken (index_of l x t (Some (a_param p))) old old old c.constant.result _ refl (c.constant.ensures ∙ ap₂ (λ g y. sound_with g y true) c.none.ensures (c.bits_of.ensures (omega arith)))
    (param-hit l x t c.args.index old p c.in-Some.at is c.if-not-index.false c.if-not-index-2.false o)

pub returns : goal.returns
returns c = λ l t fit is.
    let p = param_of c.args.param in let old = c.args.faults.now in let x = c.args.name.now in
    let o = index-value t c.args.index None p.range is c.if-not-index.false (c.in-None.ensures (is.sized c.if-not-index.false) (param-range p fit)) in
    select-as t.broken (index_of l x t (Some (a_param p))) old c.note-in-None.new.self (missed old 314 x) c.broken-in-None.result _ (c.in_ok-note-in-None.ensures ∙ ap (missed old 314) c.as_str-in-None.ensures) c.broken-in-None.ensures
    (param-missed l x t c.args.index old p c.nothing.result is c.if-not-index.false c.if-not-index-2.false o c.nothing.ensures)
