use Rattle.std.proofs.Common.{◌+◌, [], map, drop, get_or, Option, option_map, Bor, sym, ap, subst, ◌∙◌}
use Rattle.flat_unfolding.specs.Outcome.{Text}
use Rattle.process_delays.specs.Paths.{under}
use Rattle.process_delays.proofs.Walks.{map-or, now_left, NamesSoFar, names-step}
use Rattle.process_delays.proofs.walk.assign_names.Goals as goal

pub loop-name-preserved : goal.loop-name-preserved
loop-name-preserved c =
    let now = λ (n : Bor Text). n.now in
    let xs = c.args.names.now in
    let i = c.loop-name.name-index in
    let none : Bor Text = record { ref_ptr = (0, 0); now = [] } in
    let x = get_or xs i none in
    let d = c.args.delay.now in
    let all = map now xs in
    let rest = map now (drop (i + 1) xs) in
    let before = under c.args.paths.now in
    let next = under c.add.new.self in
    let step = names-step d all (map now (drop i xs)) rest x.now before (under c.loop-name.paths) next (option_map now c.loop-name.clash) (option_map now c.clashing-own.result)
    c.loop-name.invariant (now_left xs i none c.loop-name-test.true) c.in_ok-add.ensures c.clashing-own.ensures in
    subst (λ (o : Option Text). NamesSoFar d all rest before next o) (sym (ap (option_map now) c.or-clash.ensures ∙ map-or now c.loop-name.clash c.clashing-own.result)) step
