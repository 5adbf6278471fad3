use Rattle.std.proofs.Common.{◌≡◌, drop}
use Rattle.std.specs.List.{list_all}
use Rattle.flat_unfolding.specs.Names as n
use Rattle.flat_unfolding.specs.Resets.{is_reset}
use Rattle.flat_names.specs.Looks.{Shows}
use Rattle.flat_process.proofs.reset.are_resets.Given as goal

abbrev pub invariant-loop-sig : goal.invariant-loop-sig
invariant-loop-sig l = (k : n.Look) → Shows l.look k → list_all (is_reset k) (drop l.sig-index l.signals) ≡ list_all (is_reset k) l.signals
