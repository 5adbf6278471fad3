use Rattle.std.proofs.Common.{true, Some, sym, ap, ap₂, ◌∙◌}
use Rattle.std.specs.Prelude.{option_map}
use Rattle.flat_form.proofs.Sized.{word_width}
use Rattle.flat_unfolding.specs.Names.{a_param}
use Rattle.flat_unfolding.specs.Expressions.{Select}
use Rattle.flat_names.specs.Looks.{range_of, param_of}
use Rattle.flat_names.specs.Noting.{all_noted}
use Rattle.flat_names.specs.Selects.{part_at, part_notes, select_of}
use Rattle.flat_names.proofs.Selected.{select-as, sound_with, some-map, param-range, part-word, part-param-hit, part-param-missed}
use Rattle.flat_names.proofs.select.part_of_parameter.Goals as goal

pub returns-in-Some : goal.returns-in-Some
returns-in-Some c = λ l bs fit b.
    let p = param_of c.args.param in let o = option_map range_of c.args.part in let x = c.args.name.now in let old = c.args.faults.now in
    let part : Select = record { at = c.in-Some.at; bits = c.in-Some.width } in
    let g = c.in_ok-at.ensures (param-range p fit) in
    let e = ap (option_map select_of) (sym c.in-Some.is) ∙ g.0 in
    let w = (word_width part.bits (part-word l x c.args.kind bs old p.range o part (param-range p fit) e)).most in
    select-as bs (part_at l x c.args.kind o (Some (a_param p))) old c.part_within.new.faults (all_noted old (part_notes x p.range c.args.kind o)) c.constant.result _ g.1 (c.constant.ensures ∙ ap₂ (λ g y. sound_with g y true) c.none.ensures (c.bits_of.ensures w))
    (part-param-hit l x c.args.kind bs old p o part fit (b ∙ some-map range_of c.args.part) e)

pub returns-in-None : goal.returns-in-None
returns-in-None c = λ l bs fit b.
    let p = param_of c.args.param in let o = option_map range_of c.args.part in let x = c.args.name.now in let old = c.args.faults.now in
    let g = c.in_ok-at.ensures (param-range p fit) in
    select-as bs (part_at l x c.args.kind o (Some (a_param p))) old c.part_within.new.faults (all_noted old (part_notes x p.range c.args.kind o)) c.broken.result _ g.1 c.broken.ensures
    (part-param-missed l x c.args.kind bs old p o c.nothing.result (b ∙ some-map range_of c.args.part) (ap (option_map select_of) (sym c.in-None.is) ∙ g.0) c.nothing.ensures)
