-- All entries are those that are there and those to come.
use Rattle.std.proofs.Common.{◌≡◌, ◌++◌, drop}
use Rattle.cert_check.specs.Meetings.{entries_of}
use Rattle.cert_check.proofs.meetings.each_entry.Given as goal

abbrev pub invariant-loop-sync : goal.invariant-loop-sync
invariant-loop-sync l = entries_of l.domains l.syncs ≡ l.entries.items ++ entries_of l.domains (drop l.sync-index l.syncs)
