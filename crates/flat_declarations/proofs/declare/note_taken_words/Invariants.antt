use Rattle.std.proofs.Common.{◌≡◌, ◌-◌}
use Rattle.flat_unfolding.specs.Names.{Look}
use Rattle.flat_unfolding.specs.Memories.{word_names, taken}
use Rattle.flat_names.specs.Noting.{all_noted}
use Rattle.flat_names.specs.Looks.{Shows}
use Rattle.flat_declarations.proofs.declare.note_taken_words.Given as goal

abbrev pub invariant-loop-k : goal.invariant-loop-k
invariant-loop-k l = (look : Look) → Shows l.look look
    → all_noted l.initial.faults (taken look.names (word_names l.memory 0 l.words)) ≡ all_noted l.faults (taken look.names (word_names l.memory l.k (l.words - l.k)))
