-- The findings with the number are those that were added and those of the crossings to come, each with its path.
use Rattle.std.proofs.Common.{◌≡◌, length, Contains}
use Rattle.obligations.specs.declared.bare.Uncovered.{Uncovered}
use Rattle.obligations.specs.Bare.{CanWalk, ReadsSource}
use Rattle.obligations.specs.Findings.{HavePaths}
use Rattle.obligations.proofs.Numbered.{HasAdded}
use Rattle.obligations.proofs.bare.add_crossings.Given as goal

abbrev pub invariant-loop-uncovered : goal.invariant-loop-uncovered
invariant-loop-uncovered l = HasAdded l.number l.uncovered l.initial.findings l.findings l.uncovered-index × (length l.paths ≡ length l.initial.paths)
    × (CanWalk l.found.net.now l.plain l.initial.paths → ((u : Uncovered) → Contains l.uncovered u → ReadsSource l.found.net.now u.crossing) → HavePaths l.found.net.now l.initial.findings → HavePaths l.found.net.now l.findings)
