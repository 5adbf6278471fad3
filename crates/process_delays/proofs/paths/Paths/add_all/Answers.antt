use Rattle.std.proofs.Common.{◌≡◌, List, [], ◌∷◌, Bor, sym, ap, ◌∙◌}
use Rattle.std.specs.Map.Iter.{deref_pair}
use Rattle.std.proofs.lemmas.Map.Iter.{rest_all, rest_more}
use Rattle.flat_unfolding.specs.Outcome.{Text}
use Rattle.flat_unfolding.specs.Delays.{on_both}
use Rattle.process_delays.specs.declared.paths.Ways.{Ways}
use Rattle.process_delays.specs.Paths.{under}
use Rattle.process_delays.proofs.Ways.{listed, listed-is, added-entry, on_both-none}
use Rattle.process_delays.proofs.paths.Paths.add_all.Goals as goal

pub loop-name-preserved : goal.loop-name-preserved
loop-name-preserved c =
    let now = under c.loop-name.self in
    let e : Bor Text × Ways = (c.in-Some.name.now, c.in-Some.ways.now) in
    let rest = c.next.new.self in
    let first : c.loop-name.name-iterator ≡ e ∷ rest = rest_more deref_pair _ _ _ (c.in-Some.name, c.in-Some.ways) c.in-Some.is c.next.ensures.steps in
    added-entry now (under c.add.new.self) e rest c.in_ok-add.ensures ∙ ap (λ (es : List (Bor Text × Ways)). on_both now (listed es)) (sym first) ∙ c.loop-name.invariant

pub returns : goal.returns
returns c =
    let now = under c.loop-name.self in
    let all = c.args.other.now.by_name.entries in
    let done : c.loop-name.name-iterator ≡ [] = rest_all deref_pair _ _ _ c.in-None.is c.next.ensures.steps in
    sym (on_both-none now) ∙ ap (λ (es : List (Bor Text × Ways)). on_both now (listed es)) (sym done) ∙ c.loop-name.invariant ∙ ap (on_both (under c.args.self.now)) (listed-is all c.iter-name-items.ensures.unique)
