use Rattle.std.proofs.Common.{◌≡◌, drop}
use Rattle.std.specs.Prelude.{is_some}
use Rattle.std.specs.List.{list_all}
use Rattle.reset_nets.specs.Finding.{known_in}
use Rattle.reset_nets.proofs.levels.are_known.Given as goal

abbrev pub invariant-loop-sig : goal.invariant-loop-sig
invariant-loop-sig l = list_all (λ s. is_some (known_in l.levels s)) (drop l.sig-index l.signals) ≡ list_all (λ s. is_some (known_in l.levels s)) l.signals
