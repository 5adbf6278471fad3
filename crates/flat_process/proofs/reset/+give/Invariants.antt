use Rattle.std.proofs.Common.{◌≤◌, List, length, map, drop}
use Rattle.flat_meaning.specs.Flat.{target_sizes}
use Rattle.flat_form.specs.View.{target_of, targets_of}
use Rattle.flat_unfolding.specs.Names as n
use Rattle.flat_unfolding.specs.Names.{width_at}
use Rattle.flat_unfolding.specs.Design as u
use Rattle.flat_names.specs.Looks.{Shows}
use Rattle.flat_process.specs.Resets.{ArePlain, AreGiven}
use Rattle.flat_process.proofs.Given.{GivesSoFar}
use Rattle.flat_process.proofs.reset.+give.Given as goal

abbrev pub invariant-give_all-loop-target : goal.invariant-give_all-loop-target
invariant-give_all-loop-target l = (k : n.Look) (us : List u.Given) → Shows l.look k → ArePlain (length k.entries) (targets_of (map target_of l.targets)) → target_sizes (width_at k.entries) (targets_of (map target_of l.targets)) ≤ l.top
    → l.top ≤ 64 → AreGiven (length k.entries) us l.initial.given.items
    → GivesSoFar k us (targets_of (map target_of l.targets)) (targets_of (map target_of (drop l.target-index l.targets))) l.word l.top l.left l.given.items
