use Rattle.std.proofs.Common.{◌≡◌, ◌+◌, false, length, drop, get_or, rules}
use Rattle.std.proofs.lemmas.List.{drop_more, nil_from_length}
use Rattle.flat_process.proofs.TestedResets.{no-more}
use Rattle.flat_process.proofs.tested.tests_one.Goals as goal

pub returns-in_default : goal.returns-in_default
returns-in_default c =
    let xs = c.args.inactive.now in
    let i = c.loop-met.met-index in
    let none : length c.loop-met.left.now ≡ 0 = search rules in
    no-more (drop i xs) c.loop-met.left.now (drop (i + 1) xs) (get_or xs i false) _ (drop_more xs i false c.loop-met-test.true) (nil_from_length c.loop-met.left.now none) c.loop-met.invariant
