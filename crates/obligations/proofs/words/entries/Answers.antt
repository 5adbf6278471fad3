-- Each synchronizer gives its first flop.
use Rattle.std.proofs.Common.{◌∙◌, sym, ap, subst, take, ◌+◌}
use Rattle.std.specs.Result.{is_ok}
use Rattle.obligations.specs.Given.{design_in, syncs_in}
use Rattle.obligations.specs.Words.{AreEntries}
use Rattle.obligations.proofs.FirstFlops.{no_none, entry_more, all_met}
use Rattle.handshake.proofs.Pairs.{pushed}
use Rattle.obligations.proofs.words.entries.Goals as goal
use Rattle.obligations.proofs.words.entries.Goals.{in-Some+in_ok-map_err, in_default}

pub loop-sync-preserved : goal.loop-sync-preserved
loop-sync-preserved c = λ grays rings are.
    elim c.match-entry_of.branch [
      | in-Some+in_ok-map_err w ↦ subst (λ es. AreEntries (design_in c.args.found.now) (take (c.loop-sync.sync-index + 1) (syncs_in c.args.found.now)) es)
          (sym (pushed w.push.result c.loop-sync.entries.items w.push.new.self.items w.in-Some.entry (sym w.map_err.ensures.variant ∙ ap is_ok w.in_ok-map_err.was) w.push.ensures.items) ∙ ap (λ v. v.items) (sym w.entries-is))
          (entry_more grays rings c.args.found.now are c.loop-sync.sync-index c.sync-item.result c.loop-sync-test.true c.sync-item.is c.loop-sync.entries.items w.in-Some.entry c.entry_of.result c.entry_of.ensures w.in-Some.is (c.loop-sync.invariant grays rings are))
      | in_default w ↦ absurd (no_none grays rings c.args.found.now are c.loop-sync.sync-index c.sync-item.result c.loop-sync-test.true c.sync-item.is c.entry_of.result c.entry_of.ensures w.in_default.is)
    ]

pub returns : goal.returns
returns c = λ grays rings are. all_met grays rings c.args.found.now are c.loop-sync.sync-index c.loop-sync.entries.items c.loop-sync-test.false (c.loop-sync.invariant grays rings are)
