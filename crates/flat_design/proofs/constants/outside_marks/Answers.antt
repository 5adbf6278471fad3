use Rattle.std.proofs.Common.{List, ◌++◌, map, sym, ap, ◌∙◌, append-nil}
use Rattle.std.proofs.lemmas.List.{drop_all}
use Rattle.cdc_base.specs.declared.signal.Signal.{Signal}
use Rattle.flat_unfolding.specs.Drivers.{is_from_outside}
use Rattle.flat_design.proofs.constants.outside_marks.Goals as goal

pub returns : goal.returns
returns c =
    let all = c.args.signals.now in let marks = c.loop-signal.marks.items in
    sym (c.loop-signal.invariant ∙ ap (λ (xs : List Signal). marks ++ map (λ (y : Signal). is_from_outside y.kind) xs)
    (drop_all c.loop-signal.signal-index all c.loop-signal-test.false) ∙ append-nil marks)
