use Rattle.std.proofs.Common.{◌≡◌, subst, sym}
use Rattle.std.specs.Prelude.{IfOk}
use Rattle.sdc_subset.specs.declared.command.Kind.{Kind}
use Rattle.sdc_subset.specs.Arguments.{arguments_of}
use Rattle.sdc_subset.specs.Forms.{valued_options, flag_options}
use Rattle.sdc_subset.proofs.command.read_arguments.Goals as goal

pub returns-in-Delay : goal.returns-in-Delay
returns-in-Delay c = subst (λ (k : Kind). IfOk c.arguments-in-Delay.result (λ given. given ≡ arguments_of (valued_options k) (flag_options k) c.args.words.now))
    (sym c.in-Delay.is) c.arguments-in-Delay.ensures
