use Rattle.std.proofs.Common.{◌≡◌, ◌++◌, drop, string_bytes}
use Rattle.flat_design.specs.Visiting.{prefix_of}
use Rattle.flat_design.proofs.visit.Visit.prefix.Given as goal

abbrev pub invariant-loop-here : goal.invariant-loop-here
invariant-loop-here l = string_bytes l.prefix ++ prefix_of l.library.modules.now (drop l.here-index l.here-items) ≡ prefix_of l.library.modules.now l.here-items
