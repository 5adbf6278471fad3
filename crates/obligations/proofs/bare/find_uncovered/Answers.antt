-- What one crossing more lacks.
use Rattle.std.proofs.Common.{◌≡◌, ◌∙◌, ◌+◌, rules, sym, subst, [], ◌++◌, ◌∷◌, Some, get_or, slice_get}
use Rattle.std.proofs.lemmas.Option.{slice_get-get_or}
use Rattle.cdc_model.specs.declared.scheme.Crossing.{Crossing}
use Rattle.obligations.specs.declared.bare.Uncovered.{Uncovered}
use Rattle.obligations.specs.Bare.{finding_at}
use Rattle.obligations.specs.Findings.{IsFindingIn}
use Rattle.obligations.proofs.Lacks.{crossings_ascend, lacking_is}
use Rattle.obligations.proofs.Sieve.{AreInFirst, all_in_first, one_kept, one_skipped}
use Rattle.obligations.proofs.bare.find_uncovered.Goals as goal
use Rattle.obligations.proofs.bare.find_uncovered.Goals.{in-Some+in_ok-map_err, in_default}

abbrev none : Crossing
none = record { from = record { sig = 0; at = 0 }; to = record { sig = 0; at = 0 } }

pub loop-place-preserved : goal.loop-place-preserved
loop-place-preserved c = λ grays rings is_extra handed shown.
    let found = c.args.found.now in
    let ks = found.crossings.now in
    let n = c.loop-place.place in
    let k = get_or ks n none in
    let at : slice_get ks n ≡ Some k = slice_get-get_or ks n none c.loop-place-test.true in
    let P = λ (u : Uncovered). IsFindingIn grays rings is_extra found (finding_at u) in
    let exact = c.find_lack.ensures grays rings is_extra handed shown at in
    let so_far = c.loop-place.invariant grays rings is_extra handed shown in
    elim c.match-find_lack.branch [
      | in-Some+in_ok-map_err w ↦
          let lack = w.in-Some.lack in
          let pushed : c.match-find_lack.uncovered.items ≡ c.loop-place.uncovered.items ++ record { crossing = k; lack = lack } ∷ [] = search rules in
          subst (AreInFirst P ks (n + 1)) (sym pushed)
          (one_kept P ks n k at c.loop-place.uncovered.items so_far (crossings_ascend grays rings found handed.are_found) lack ((exact lack).0 w.in-Some.is)
          (λ other p. let e : Some lack ≡ Some other = sym w.in-Some.is ∙ (exact other).1 p in cc))
      | in_default w ↦
          let same : c.match-find_lack.uncovered.items ≡ c.loop-place.uncovered.items = search rules in
          subst (AreInFirst P ks (n + 1)) (sym same) (one_skipped P ks n k at c.loop-place.uncovered.items so_far (λ lack p. w.in_default.not-Some lack ((exact lack).1 p)))
    ]

pub returns : goal.returns
returns c = record {
  exact = λ grays rings is_extra handed shown.
      let found = c.args.found.now in
      all_in_first (λ (u : Uncovered). IsFindingIn grays rings is_extra found (finding_at u)) found.crossings.now c.loop-place.place c.loop-place.uncovered.items c.loop-place-test.false
      (λ u p. lacking_is grays rings is_extra found u.crossing handed.are_found u.lack p) (c.loop-place.invariant grays rings is_extra handed shown);
}
