use Rattle.std.proofs.Common.{Some, None, sym, ap, ◌∙◌}
use Rattle.std.specs.Prelude.{option_map}
use Rattle.flat_names.specs.declared.scope.Meaning.TheVariants as m
use Rattle.flat_names.specs.Looks.{range_of}
use Rattle.flat_targets.proofs.Aimed.{meaning-at, part-inside, part-outside, part-plain, is_plain}
use Rattle.flat_targets.proofs.target.part_aim.Goals as goal

pub returns-in-Some : goal.returns-in-Some
returns-in-Some c = λ l u h fit. let s = c.in-Some-Signal in
    part-inside c.args.look.now l h fit u c.args.name.now s.sig c.args.kind (option_map range_of c.args.numbers) c.bounds.result c.bounds.ensures _ c.args.faults.now c.part_within.new.faults c.in_ok-at-in-Some-Signal.ensures
    (c.in-Some.at, c.in-Some.width) c.in-Some.is c.part.result c.part.ensures
    (meaning-at c.args.look.now l h c.args.name.now (Some (m.Signal s.sig)) (sym (s.is ∙ ap Some s.field-0-is) ∙ c.meaning.ensures))

pub returns-in-None-2 : goal.returns-in-None-2
returns-in-None-2 c = λ l u h fit. let s = c.in-Some-Signal in
    part-outside c.args.look.now l h fit u c.args.name.now s.sig c.args.kind (option_map range_of c.args.numbers) c.bounds.result c.bounds.ensures _ c.args.faults.now c.part_within.new.faults c.in_ok-at-in-Some-Signal.ensures
    c.in-None-2.is c.nowhere.result c.nowhere.ensures
    (meaning-at c.args.look.now l h c.args.name.now (Some (m.Signal s.sig)) (sym (s.is ∙ ap Some s.field-0-is) ∙ c.meaning.ensures))

pub returns-in-Some-Param : goal.returns-in-Some-Param
returns-in-Some-Param c = λ l u h fit. let s = c.in-Some-Param in
    part-plain l u c.args.name.now c.args.kind (option_map range_of c.args.numbers) c.args.faults.now c.nowhere-in-Some-Param.result c.nowhere-in-Some-Param.ensures
    (ap is_plain (meaning-at c.args.look.now l h c.args.name.now _ (sym (s.is ∙ ap Some s.field-0-is) ∙ c.meaning.ensures)))

pub returns-in-Some-NoValue : goal.returns-in-Some-NoValue
returns-in-Some-NoValue c = λ l u h fit. let s = c.in-Some-NoValue in
    part-plain l u c.args.name.now c.args.kind (option_map range_of c.args.numbers) c.args.faults.now c.nowhere-in-Some-NoValue.result c.nowhere-in-Some-NoValue.ensures
    (ap is_plain (meaning-at c.args.look.now l h c.args.name.now _ (sym (s.is ∙ ap Some s.field-0-is) ∙ c.meaning.ensures)))

pub returns-in-None : goal.returns-in-None
returns-in-None c = λ l u h fit.
    part-plain l u c.args.name.now c.args.kind (option_map range_of c.args.numbers) c.args.faults.now c.nowhere-in-None.result c.nowhere-in-None.ensures
    (ap is_plain (meaning-at c.args.look.now l h c.args.name.now None (sym c.in-None.is ∙ c.meaning.ensures)))
