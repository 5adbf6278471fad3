-- What the register bit reads of the arrivals, or nothing where it is a copy or reads none.
use Rattle.std.proofs.Common.{◌∙◌, sym, subst, []}
use Rattle.std.specs.List.{flat_map}
use Rattle.cdc_model.proofs.ReadBits.{two_if}
use Rattle.obligations.specs.contracts.arrivals.FamilyPartialEq.TheImpl as families
use Rattle.obligations.specs.Arrivals.{of_one_group, group_key, v6_of}
use Rattle.obligations.specs.Lots.{AreInLots, lots_of}
use Rattle.obligations.proofs.OneReader.{nothing_added, register_within, copy_unfound, unread_unfound, bits_ascend, reads_all, families_equal, some_copy, no_copy}
use Rattle.obligations.proofs.Readers.{readers_found}
use Rattle.obligations.proofs.arrivals.add_reader.Goals as goal
use Rattle.obligations.proofs.arrivals.add_reader.Goals.{then-not-reads_marked-via-then-not-reads_marked, then-not-reads_marked-via-else-not-reads_marked+then-is_some}

pub returns-then-not-reads_marked-clause-added : goal.returns-then-not-reads_marked-clause-added
returns-then-not-reads_marked-clause-added c = λ grays rings is_extra are shown all marked below reg.
    let found = c.args.found.now in
    let x = c.args.to in
    elim c.then-not-reads_marked.branch [
      | then-not-reads_marked-via-then-not-reads_marked w ↦
          nothing_added grays rings is_extra found x
          (unread_unfound grays rings found are x reg c.args.arrivals.now all c.args.marks.now marked is_extra (c.reads_marked.ensures w.if-not-reads_marked.true c.args.marks.now [] are.is_net are.has_next below))
          c.args.findings.now
      | then-not-reads_marked-via-else-not-reads_marked+then-is_some w ↦
          nothing_added grays rings is_extra found x
          (copy_unfound grays rings found are x reg c.args.arrivals.now all c.args.marks.now marked is_extra
          (some_copy w.copied_bit.result _ (sym w.is_some.ensures ∙ w.if-is_some.true) (w.copied_bit.ensures are.is_net are.has_next shown (register_within found.net.now x reg))))
          c.args.findings.now
    ]

pub returns-clause-added : goal.returns-clause-added
returns-clause-added c = two_if c.add_lots.result (λ _ added _ grays rings is_extra are shown all marked below reg.
    let found = c.args.found.now in
    let x = c.args.to in
    let within = register_within found.net.now x reg in
    let plain = no_copy c.copied_bit.result _ (sym c.is_some.ensures ∙ c.if-is_some.false) (c.copied_bit.ensures are.is_net are.has_next shown within) in
    let read = c.as_slice.ensures ∙ c.in_ok-bits.ensures.exact [] are.is_net are.has_next shown within in
    let arrivals = c.args.arrivals.now in
    let marks = c.args.marks.now in
    let reads = c.in_ok-reads.ensures grays rings are all (bits_ascend grays rings found are x reg arrivals all marks marked c.as_slice.result.now read) in
    let sorted = c.as_slice-2.result.now in
    let lots = subst (AreInLots of_one_group group_key c.in_ok-reads.reads.items) (sym c.as_slice-2.ensures.value) c.in_ok-by_group.ensures in (
      flat_map (v6_of families.ghosts.eq x) (lots_of of_one_group sorted),
      added,
      readers_found grays rings is_extra found x reg plain families.ghosts.eq families_equal c.in_ok-reads.reads.items sorted
          (reads_all grays rings found are x reg arrivals all marks marked c.as_slice.result.now read c.in_ok-reads.reads.items reads)
          lots,
    )) c.add_lots.ensures c.add_lots.ensures
