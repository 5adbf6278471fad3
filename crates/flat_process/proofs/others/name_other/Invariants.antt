use Rattle.std.specs.Prelude.{◌≡◌, map, drop}
use Rattle.std.specs.List.{list_any}
use Rattle.flat_unfolding.specs.Names.{Look, meaning}
use Rattle.flat_names.specs.Looks.{Shows}
use Rattle.flat_process.specs.Resets.{is_other}
use Rattle.flat_process.proofs.others.name_other.Given as goal

abbrev pub invariant-loop-text : goal.invariant-loop-text
invariant-loop-text l = (k : Look) → Shows l.look k
    → list_any (λ x. is_other k l.signals (meaning k x)) (map (λ n. n.now) (drop l.text-index l.names)) ≡ list_any (λ x. is_other k l.signals (meaning k x)) (map (λ n. n.now) l.names)
