use Rattle.std.proofs.Common.{◌↔◌, List, Contains, subst, sym}
use Rattle.cdc_model.specs.declared.scheme.Crossing.{Crossing}
use Rattle.fifo_scheme.specs.declared.finder.Key.{Key}
use Rattle.fifo_scheme.specs.declared.found.Fifo.{Fifo as Entry}
use Rattle.fifo_scheme.specs.declared.found.FifoPair.{FifoPair}
use Rattle.fifo_scheme.specs.declared.index.Index.{Index}
use Rattle.fifo_scheme.specs.Candidates.{AreBy, IsFirst, OfOne}
use Rattle.fifo_scheme.specs.Entries.{IsCrossingOfOne}
use Rattle.fifo_scheme.specs.Pairs.{AreStoodFor}
use Rattle.fifo_scheme.proofs.Searched.{IsSearched, all_pairs, are_listed, missing_pair, they_are_stood_for, they_fit, they_have_order}
use Rattle.fifo_scheme.proofs.finder.fifos_of.Goals as goal
use Rattle.fifo_scheme.proofs.finder.fifos_of.Goals.{In_ok-fifos, In_ok-place}

abbrev IsByOne : Index → List FifoPair → Key → Type 0
IsByOne i = OfOne (λ (p : FifoPair) k. AreBy i.sides.items p.wb p.rb k)

searched : (c : In_ok-fifos)
    → IsSearched c.args.net.now c.args.domains.now c.args.syncs.now c.args.grays.now (IsByOne c.in_ok-index.index c.args.pairs.now) c.in_ok-index.index c.in_ok-candidates.candidates c.in_ok-fifos.fifos
searched c = record {
  table = c.in_ok-table.table;
  after = c.of.new.table;
  same = c.of.ensures.unchanged;
  shows = c.in_ok-table.ensures;
  index = c.in_ok-index.ensures.found;
  candidates = c.in_ok-candidates.ensures;
  made = c.in_ok-fifos.ensures.made;
  ordered = c.in_ok-fifos.ensures.ordered;
}

first : (c : In_ok-place) → IsFirst c.in_ok-fifos.fifos c.args.pairs.now c.in_ok-place.field-0
first c = subst (λ (es : List Entry). IsFirst es c.args.pairs.now c.in_ok-place.field-0) c.as_slice.ensures c.in_ok-place.ensures

pub returns-in-Some-clause-exact : goal.returns-in-Some-clause-exact
returns-in-Some-clause-exact c = λ syncs t given lists few.
    missing_pair (searched (goal.at.returns-in-Some-clause-exact c).In_ok-fifos) syncs given c.args.pairs.now (λ k h. h) t lists (λ k h. h) c.in-Some.place
    (subst (IsFirst c.in_ok-fifos.fifos c.args.pairs.now) c.in-Some.is (first (goal.at.returns-in-Some-clause-exact c).In_ok-place))

pub returns-clause-sound : goal.returns-clause-sound
returns-clause-sound c = λ syncs given e h.
    let is = searched (goal.at.returns-clause-sound c).In_ok-fifos in
    let there = subst (λ (es : List Entry). Contains es e) c.in_ok-fifos-in-None.ensures.given.4 h in
    (are_listed is syncs given e there, they_are_stood_for is syncs given c.args.pairs.now (λ k h. h) e there)

pub returns-clause-exact : goal.returns-clause-exact
returns-clause-exact c = λ syncs t given lists few.
    subst (AreStoodFor c.args.net.now c.args.domains.now syncs c.args.grays.now c.args.pairs.now) (sym c.in_ok-fifos-in-None.ensures.given.4)
    (all_pairs (searched (goal.at.returns-clause-exact c).In_ok-fifos) syncs given c.args.pairs.now (λ k h. h) t lists (λ k h. h)
    (subst (IsFirst c.in_ok-fifos.fifos c.args.pairs.now) c.in-None.is (first (goal.at.returns-clause-exact c).In_ok-place)))

pub returns-clause-fits : goal.returns-clause-fits
returns-clause-fits c = λ syncs t given lists.
    they_fit (searched (goal.at.returns-clause-fits c).In_ok-fifos) syncs given t lists c.in_ok-fifos-in-None.fifos c.in_ok-fifos-in-None.ensures.given c.in_ok-fifos-in-None.ensures.all

pub returns-clause-order : goal.returns-clause-order
returns-clause-order c = λ syncs t given lists rings e h.
    they_have_order (searched (goal.at.returns-clause-order c).In_ok-fifos) syncs given t lists rings e (subst (λ (es : List Entry). Contains es e) c.in_ok-fifos-in-None.ensures.given.4 h)

pub returns-clause-guards : goal.returns-clause-guards
returns-clause-guards c =
    subst (λ (es : List Entry). (k : Crossing) → Contains c.in_ok-fifos-in-None.fifos.crossings k ↔ IsCrossingOfOne es k)
    (sym c.in_ok-fifos-in-None.ensures.given.4) c.in_ok-fifos-in-None.ensures.all
