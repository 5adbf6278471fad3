-- One word more among the arguments.
use Rattle.std.proofs.Common.{◌≡◌, ◌∙◌, ap, sym, List, ◌∷◌, [], ◌++◌, Option, Some, None}
use Rattle.std.specs.Prelude.{option_map}
use Rattle.clock_constraints.specs.Refusals.{Text}
use Rattle.sdc_subset.specs.declared.words.Word.{Word}
use Rattle.sdc_subset.specs.declared.arguments.Argument.{Argument}
use Rattle.sdc_subset.specs.declared.arguments.Step.{Step}
use Rattle.sdc_subset.specs.declared.arguments.Step.TheVariants.{Adds, Waits}
use Rattle.sdc_subset.specs.Arguments.{step_of, add_step, waiting, arguments_from}
use Rattle.sdc_subset.proofs.Options.{one-more}

pub adds : (v f : List Text) (p q : Option Text) (done new : List Argument) (w : Word) (ws : List Word) (a : Argument)
    → step_of v f p w ≡ Adds a → new ≡ done ++ a ∷ [] → q ≡ None
    → option_map (λ rest. done ++ rest) (arguments_from v f p (w ∷ ws)) ≡ option_map (λ rest. new ++ rest) (arguments_from v f q ws)
adds v f p q done new w ws a e n none =
    ap (λ (s : Step). option_map (λ rest. done ++ rest) (add_step s (arguments_from v f (waiting s) ws))) e
    ∙ one-more done a (arguments_from v f None ws)
    ∙ ap (λ (xs : List Argument). option_map (λ rest. xs ++ rest) (arguments_from v f None ws)) (sym n)
    ∙ ap (λ (o : Option Text). option_map (λ rest. new ++ rest) (arguments_from v f o ws)) (sym none)

pub waits : (v f : List Text) (p q : Option Text) (done new : List Argument) (w : Word) (ws : List Word) (o : Text)
    → step_of v f p w ≡ Waits o → new ≡ done → q ≡ Some o
    → option_map (λ rest. done ++ rest) (arguments_from v f p (w ∷ ws)) ≡ option_map (λ rest. new ++ rest) (arguments_from v f q ws)
waits v f p q done new w ws o e n some =
    ap (λ (s : Step). option_map (λ rest. done ++ rest) (add_step s (arguments_from v f (waiting s) ws))) e
    ∙ ap (λ (xs : List Argument). option_map (λ rest. xs ++ rest) (arguments_from v f (Some o) ws)) (sym n)
    ∙ ap (λ (r : Option Text). option_map (λ rest. new ++ rest) (arguments_from v f r ws)) (sym some)
