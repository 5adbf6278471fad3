use Rattle.std.proofs.Common.{◌+◌, ◌||◌, [], Bor, List, map, drop, get_or, sym, ap, ◌∙◌}
use Rattle.std.proofs.lemmas.List.{drop_more, drop_all}
use Rattle.std.proofs.Math.Bool.{or-false}
use Rattle.cdc_base.specs.Words.{is_in}
use Rattle.flat_unfolding.specs.Outcome.{Text}
use Rattle.process_names.specs.Sets.{has}
use Rattle.process_names.proofs.Keys.{set-more}
use Rattle.process_names.proofs.sets.name_set.Goals as goal

pub loop-name-preserved : goal.loop-name-preserved
loop-name-preserved c = λ x.
    let now = λ (n : Bor Text). n.now in let all = c.args.names.now in let i = c.loop-name.name-index in
    let none : Bor Text = record { ref_ptr = (0, 0); now = [] } in let n = get_or all i none in let rest = drop (i + 1) all in
    ap (λ (keys : List (Bor Text)). has keys x || is_in (map now rest) x) c.in_ok-insert.ensures
    ∙ set-more n c.loop-name.set.keys rest (drop i all) (drop_more all i none c.loop-name-test.true) x ∙ c.loop-name.invariant x

pub returns : goal.returns
returns c = λ x.
    let now = λ (n : Bor Text). n.now in let all = c.args.names.now in let keys = c.loop-name.set.keys in
    sym (or-false (has keys x)) ∙ ap (λ (ns : List (Bor Text)). has keys x || is_in (map now ns) x) (sym (drop_all c.loop-name.name-index all c.loop-name-test.false))
    ∙ c.loop-name.invariant x
