-- One number after another.
use Rattle.std.proofs.Common.{◌≡◌, inl, inr, sym, subst, arith, ℕ, List, [], Contains}
use Rattle.cdc_model.specs.declared.verdict.Finding.{Finding as FindingEntry}
use Rattle.obligations.specs.declared.bare.Uncovered.{Uncovered}
use Rattle.obligations.specs.Bare.{AddsCrossings, CanWalk}
use Rattle.cdc_model.specs.Tables.{ShowsNet}
use Rattle.obligations.specs.Findings.{HavePaths}
use Rattle.obligations.specs.Given.{design_in, syncs_in, trees_in}
use Rattle.obligations.specs.Words.{AreEntries}
use Rattle.obligations.proofs.Joined.{AreUpTo, all_numbers, none_yet, one_number_more}
use Rattle.obligations.proofs.OfCrossings.{crossings_added}
use Rattle.obligations.proofs.Walked.{none_needed, reads_source, walks_on}
use Rattle.obligations.proofs.findings.Goals as goal

pub returns : goal.returns
returns c = record {
  exact = λ grays rings is_extra handed shown. (
    let found = c.args.found.now in
        let d = design_in found in
        let t = trees_in grays found in
        let are = handed.are_found in
        let every = c.in_ok-uncovered.ensures.exact grays rings is_extra handed shown in
        let entries = c.in_ok-entries.ensures grays rings are in
        let next = one_number_more d t found.grays.now (syncs_in found) rings found.loads.now is_extra in
        let crossings = crossings_added d t found.grays.now (syncs_in found) rings found.loads.now is_extra in
        let of = λ (us : List Uncovered) (e : us ≡ c.in_ok-uncovered.uncovered.items) (n : ℕ) (old new : List FindingEntry) (h : AddsCrossings n us old new).
        subst (λ (xs : List Uncovered). AddsCrossings n xs old new) e h in
        let begun = subst (AreUpTo d t found.grays.now (syncs_in found) rings found.loads.now is_extra 0) (sym c.new-findings.ensures) (none_yet d t found.grays.now (syncs_in found) rings found.loads.now is_extra) in
        let one = next 0 _ _ begun (crossings 1 (inl (omega arith)) _ _ _ every (of _ c.as_slice.ensures.value 1 _ _ c.in_ok-add_crossings.ensures.added)) in
        let two = next 1 _ _ one (crossings 2 (inl (omega arith)) _ _ _ every (of _ c.as_slice-2.ensures.value 2 _ _ c.in_ok-add_crossings-2.ensures.added)) in
        let three = next 2 _ _ two (c.in_ok-add_v3.ensures grays rings is_extra are (subst (AreEntries d (syncs_in found)) (sym c.as_slice-3.ensures.value) entries)) in
        let four = next 3 _ _ three (c.in_ok-add_v4.ensures d t found.grays.now (syncs_in found) rings found.loads.now is_extra (subst (AreEntries d (syncs_in found)) (sym c.as_slice-4.ensures.value) entries)) in
        let five = next 4 _ _ four (c.in_ok-add_v5.ensures d t found.grays.now (syncs_in found) rings found.loads.now is_extra (subst (AreEntries d (syncs_in found)) (sym c.as_slice-5.ensures.value) entries)) in
        let six = next 5 _ _ five (c.in_ok-add_v6.ensures.added grays rings is_extra are shown) in
        let seven = next 6 _ _ six (crossings 7 (inr (omega arith)) _ _ _ every (of _ c.as_slice-6.ensures.value 7 _ _ c.in_ok-add_crossings-3.ensures.added)) in
        let eight = next 7 _ _ seven (crossings 8 (inr (omega arith)) _ _ _ every (of _ c.as_slice-7.ensures.value 8 _ _ c.in_ok-add_crossings-4.ensures.added)) in
        all_numbers d t found.grays.now (syncs_in found) rings found.loads.now is_extra _ eight,
    let found = c.args.found.now in
        let net = found.net.now in
        let d = design_in found in
        let are = handed.are_found in
        let every = c.in_ok-uncovered.ensures.exact grays rings is_extra handed shown in
        let entries = c.in_ok-entries.ensures grays rings are in
        let each = λ (us : List Uncovered) (e : us ≡ c.in_ok-uncovered.uncovered.items) (u : Uncovered) (i : Contains us u). reads_source grays rings is_extra found u (every.only u (subst (λ xs. Contains xs u) e i)) in
        let none = none_needed grays rings is_extra found in
        let ready : CanWalk net c.args.plain.now _ = record { is_net = are.is_net; has_next = are.has_next; shown = shown; sized = c.in_ok-paths.ensures } in
        let begun = subst (HavePaths net) (sym c.new-findings.ensures) tt in
        let one = c.in_ok-add_crossings.ensures.paths ready (each _ c.as_slice.ensures.value) begun in
        let ready-2 = walks_on net c.args.plain.now _ _ c.add_crossings.ensures.kept ready in
        let two = c.in_ok-add_crossings-2.ensures.paths ready-2 (each _ c.as_slice-2.ensures.value) one in
        let ready-3 = walks_on net c.args.plain.now _ _ c.add_crossings-2.ensures.kept ready-2 in
        let three = none 3 (omega arith) (omega arith) _ _ (c.in_ok-add_v3.ensures grays rings is_extra are (subst (AreEntries d (syncs_in found)) (sym c.as_slice-3.ensures.value) entries)) two in
        let four = none 4 (omega arith) (omega arith) _ _ (c.in_ok-add_v4.ensures d (trees_in grays found) found.grays.now (syncs_in found) rings found.loads.now is_extra (subst (AreEntries d (syncs_in found)) (sym c.as_slice-4.ensures.value) entries)) three in
        let five = none 5 (omega arith) (omega arith) _ _ (c.in_ok-add_v5.ensures d (trees_in grays found) found.grays.now (syncs_in found) rings found.loads.now is_extra (subst (AreEntries d (syncs_in found)) (sym c.as_slice-5.ensures.value) entries)) four in
        let six = none 6 (omega arith) (omega arith) _ _ (c.in_ok-add_v6.ensures.added grays rings is_extra are shown) five in
        let shown-2 = subst (ShowsNet net []) (sym c.add_v6.ensures.unchanged) shown in
        let ready-4 : CanWalk net _ _ = record { is_net = are.is_net; has_next = are.has_next; shown = shown-2; sized = ready-3.sized } in
        let seven = c.in_ok-add_crossings-3.ensures.paths ready-4 (each _ c.as_slice-6.ensures.value) six in
        let ready-5 = walks_on net _ _ _ c.add_crossings-3.ensures.kept ready-4 in
        c.in_ok-add_crossings-4.ensures.paths ready-5 (each _ c.as_slice-7.ensures.value) seven,
  );
}
