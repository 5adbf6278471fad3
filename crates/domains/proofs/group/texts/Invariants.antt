use Rattle.std.proofs.Common.{◌≡◌, map, take}
use Rattle.domains.proofs.group.texts.Given as goal

abbrev pub invariant-loop-name : goal.invariant-loop-name
invariant-loop-name l = l.copies ≡ map (λ n. n.now) (take l.name-index l.names)
