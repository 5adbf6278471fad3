use Rattle.std.proofs.Common.{◌≡◌, ◌+◌, [], Bor, List, map, drop, get_or, sym, subst, ap, ◌∙◌}
use Rattle.std.specs.List.{list_any}
use Rattle.std.proofs.lemmas.List.{drop_more, drop_all}
use Rattle.flat_unfolding.specs.Outcome.{Text}
use Rattle.flat_unfolding.specs.Names.{meaning}
use Rattle.flat_process.specs.Resets.{is_other}
use Rattle.flat_process.proofs.LevelLists.{names-found, names-then}
use Rattle.flat_process.proofs.others.name_other.Goals as goal

pub returns-then-branch : goal.returns-then-branch
returns-then-branch c = λ l h.
    let now = λ (n : Bor Text). n.now in let all = c.args.names.now in let i = c.loop-text.text-index in
    let none : Bor Text = record { ref_ptr = (0, 0); now = [] } in let n = get_or all i none in let others = λ (x : Text). is_other l c.args.signals.now (meaning l x) in
    let before = subst (λ (ns : List (Bor Text)). list_any others (map now ns) ≡ list_any others (map now all)) (drop_more all i none c.loop-text-test.true) (c.loop-text.invariant l h) in
    names-found others n.now (map now (drop (i + 1) all)) (list_any others (map now all)) before (sym (c.in_ok-names_other.ensures l h) ∙ c.if-branch.true)

pub loop-text-preserved : goal.loop-text-preserved
loop-text-preserved c = λ l h.
    let now = λ (n : Bor Text). n.now in let all = c.args.names.now in let i = c.loop-text.text-index in
    let none : Bor Text = record { ref_ptr = (0, 0); now = [] } in let n = get_or all i none in let others = λ (x : Text). is_other l c.args.signals.now (meaning l x) in
    let before = subst (λ (ns : List (Bor Text)). list_any others (map now ns) ≡ list_any others (map now all)) (drop_more all i none c.loop-text-test.true) (c.loop-text.invariant l h) in
    names-then others n.now (map now (drop (i + 1) all)) (list_any others (map now all)) before (sym (c.in_ok-names_other.ensures l h) ∙ c.if-branch.false)

pub returns : goal.returns
returns c = λ l h.
    let now = λ (n : Bor Text). n.now in let all = c.args.names.now in let others = λ (x : Text). is_other l c.args.signals.now (meaning l x) in
    ap (λ (ns : List (Bor Text)). list_any others (map now ns)) (sym (drop_all c.loop-text.text-index all c.loop-text-test.false)) ∙ c.loop-text.invariant l h
