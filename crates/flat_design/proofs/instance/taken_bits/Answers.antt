use Rattle.std.proofs.Common.{length, sym, ap, subst, ◌∙◌}
use Rattle.std.specs.Prelude.{Some, option_and_then}
use Rattle.flat_unfolding.specs.Names as n
use Rattle.flat_unfolding.specs.Instances as of
use Rattle.flat_names.specs.declared.scope.Meaning.{Meaning}
use Rattle.flat_names.specs.Looks.{meaning_of}
use Rattle.flat_design.specs.Visiting.{IsFitMeaning}
use Rattle.flat_design.proofs.Taken.{param-bits}
use Rattle.flat_design.proofs.instance.taken_bits.Goals as goal

pub returns-in-Signal : goal.returns-in-Signal
returns-in-Signal c = λ pins e shows fit.
    let there = subst (IsFitMeaning (length e.entries)) c.in-Signal.is fit in
    c.signal_width.ensures pins e shows there ∙ ap (λ (v : Meaning). of.taken_bits e.entries (option_and_then n.as_value (Some (meaning_of v)))) (sym c.in-Signal.is)

pub returns-then-is_some : goal.returns-then-is_some
returns-then-is_some c = λ pins e shows fit.
    let there = subst (IsFitMeaning (length e.entries)) c.in-Param.is fit in
    param-bits c.in-Param.param there c.is_some.result c.is_some.ensures c.if-is_some.true ∙ ap (λ (v : Meaning). of.taken_bits e.entries (option_and_then n.as_value (Some (meaning_of v)))) (sym c.in-Param.is)
