use Rattle.std.proofs.Common.{◌≡◌, ◌∙◌, ap, ◌+◌, ◌++◌, ◌∷◌, List, map, drop, drop-cons, add-one}
use Rattle.std.specs.Prelude.{option_map}
use Rattle.sdc_subset.specs.declared.words.Word.{Word}
use Rattle.sdc_subset.specs.declared.arguments.Argument.{Argument}
use Rattle.sdc_subset.specs.Arguments.{step_of, arguments_from}
use Rattle.sdc_subset.proofs.Steps.{adds, waits}
use Rattle.sdc_subset.proofs.arguments.arguments.Goals as goal
use Rattle.sdc_subset.proofs.arguments.arguments.Goals.{in-Adds+in_ok-push-in-Adds, in-Waits}

pub loop-word-preserved : goal.loop-word-preserved
loop-word-preserved c =
    let words = c.args.words.now in
    let at = c.loop-word.word-index in
    let valued = map (λ o. o.now) c.args.valued.now in
    let flags = map (λ o. o.now) c.args.flags.now in
    let before = c.loop-word.pending in
    let done = c.loop-word.arguments in
    let new = c.match-branch-2.arguments in
    let after = c.match-branch-2.pending in
    let split = drop-cons words at c.word-item.result c.loop-word-test.true in
    let next = add-one at in
    let here : drop at words ≡ c.word-item.result ∷ drop (at + 1) words = cc in
    let taken = c.take.ensures.value in
    let step : step_of valued flags before c.word-item.result ≡ c.in_ok-argument.field-0 = cc (c.in_ok-argument.ensures, taken) in
    c.loop-word.invariant ∙ ap (λ (ws : List Word). option_map (λ (rest : List Argument). done ++ rest) (arguments_from valued flags before ws)) here
    ∙ elim c.match-branch-2.branch [
      | in-Adds+in_ok-push-in-Adds w ↦ adds valued flags before after done new c.word-item.result (drop (at + 1) words) w.in-Adds.argument (cc) (w.arguments-is ∙ w.in_ok-push-in-Adds.ensures.pushed) (cc)
      | in-Waits w ↦ waits valued flags before after done new c.word-item.result (drop (at + 1) words) w.in-Waits.option (cc) (cc) (cc)
    ]
