use Rattle.std.proofs.Common.{◌∙◌, ◌≡◌, ap, ap₂, map, string_bytes, true, refl, sym, [], ◌∷◌, inl, inr}
use Rattle.clap.specs.Kinds.{Kinds, HasKind}
use Rattle.clap.specs.Values.{kind_of}
use Rattle.clap.specs.declared.error.Error.{Error}
use Rattle.clap.specs.declared.error.kind.ErrorKind.TheVariants as kind
use Rattle.clap.specs.Words.{app_of, fault_of, is_simple, is_simple_and_free, subcommand_of}
use Rattle.clap.proofs.OnLiterals.{clap_on_literals}
use Rattle.command_line.specs.Cli.{cli}
use Rattle.command_line.proofs.matches.Goals as goal

cli_is_free : is_simple_and_free cli ≡ true
unfolding clap_on_literals
cli_is_free = refl

cli_is_simple : is_simple cli ≡ true
unfolding clap_on_literals
cli_is_simple = refl

-- where no kind of error may come, an error is want of memory
no_kind : (kinds : Kinds) (e : Error) → kinds ≡ [] → HasKind kinds e → kind_of e ≡ kind.OutOfMemory
no_kind [] e _ (inl memory) = memory
no_kind [] e _ (inr other) = absurd other
no_kind (k ∷ ks) e none has = cc

pub returns : goal.returns
returns c =
    let cli_is : app_of c.in_ok-command.field-0 ≡ cli = c.in_ok-command.ensures.0 in
    let kinds = c.in-Err.ensures.kinds (ap is_simple_and_free cli_is ∙ cli_is_free) in
    record {
      ok = tt;
      refused = λ _ none.
          let kinds_are : fault_of (app_of c.in_ok-command.field-0) (map string_bytes c.args.words.now) ≡ [] = ap₂ fault_of cli_is refl ∙ none in
          c.in_default.not-OutOfMemory (c.kind.ensures ∙ no_kind _ c.in-Err.error kinds_are kinds);
    }

pub returns-in-Ok-clause-ok : goal.returns-in-Ok-clause-ok
returns-in-Ok-clause-ok c =
    let cli_is : app_of c.in_ok-command.field-0 ≡ cli = c.in_ok-command.ensures.0 in (
      ap₂ fault_of (sym cli_is) refl ∙ c.in-Ok.ensures.kinds (ap is_simple_and_free cli_is ∙ cli_is_free),
      (c.in-Ok.ensures.matches (ap is_simple cli_is ∙ cli_is_simple)).1 ∙ ap₂ subcommand_of cli_is refl,
    )
