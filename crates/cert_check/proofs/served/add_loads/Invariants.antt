-- All are those that are there and those of the loads to come.
use Rattle.std.proofs.Common.{◌≡◌, ◌++◌, drop}
use Rattle.cert_check.specs.Served.{load_passages}
use Rattle.cert_check.proofs.served.add_loads.Given as goal

abbrev pub invariant-loop-load : goal.invariant-loop-load
invariant-loop-load l = l.initial.served.items ++ load_passages l.loads ≡ l.served.items ++ load_passages (drop l.load-index l.loads)
