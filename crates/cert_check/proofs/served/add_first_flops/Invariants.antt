-- All are those that are there and those of the synchronizers to come.
use Rattle.std.proofs.Common.{◌≡◌, ◌++◌, drop}
use Rattle.cert_check.specs.Served.{sync_passages}
use Rattle.cert_check.proofs.served.add_first_flops.Given as goal

abbrev pub invariant-loop-sync : goal.invariant-loop-sync
invariant-loop-sync l = l.initial.served.items ++ sync_passages l.syncs ≡ l.served.items ++ sync_passages (drop l.sync-index l.syncs)
