use Rattle.std.proofs.Common.{◌∙◌, rules}
use Rattle.std.specs.Prelude.{IfErr}
use Rattle.verilog_reading.specs.SourceTree.{source_of}
use Rattle.command_files.specs.Endings.{HasCause}
use Rattle.selftest_command.specs.Selftests.{IsGeneratedRefused}
use Rattle.selftest_command.proofs.Selftests.{design_refused, generated_by, text_refused}
use Rattle.selftest_command.proofs.generated.Goals as goal

pub returns-clause-design : goal.returns-clause-design
returns-clause-design c =
    generated_by c.args.channels _ (c.as_slice.ensures ∙ c.in_ok-text.ensures.is) (source_of c.in_ok-source.source) c.in_ok-source.ensures.reads c.in_ok-constraints.constraints c.in_ok-constraints.ensures
    (λ made. made.0) (λ made. made.1) c.constrained.result c.constrained.ensures.design c.constrained.ensures.unfolded

pub returns-clause-refused : goal.returns-clause-refused
returns-clause-refused c =
    design_refused c.args.channels _ (c.as_slice.ensures ∙ c.in_ok-text.ensures.is) (source_of c.in_ok-source.source) c.in_ok-source.ensures.reads c.in_ok-constraints.constraints c.in_ok-constraints.ensures
    c.constrained.result c.constrained.ensures.refused

pub returns-in_err-source-clause-refused : goal.returns-in_err-source-clause-refused
returns-in_err-source-clause-refused c =
    let refused : IfErr c.read_source.result (HasCause (λ status fault. IsGeneratedRefused c.args.channels fault status))
    = text_refused c.args.channels _ (c.as_slice.ensures ∙ c.in_ok-text.ensures.is) _ c.read_source.ensures.refused in
    search (rules, refused, c.in_err-source.was, c.from_residual-in_err-source.ensures.0, c.from_residual-in_err-source.ensures.1)
