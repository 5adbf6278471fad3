use Rattle.std.proofs.Common.{◌≡◌, ◌*◌, ◌≤◌}
use Rattle.cell_graph.specs.Tree.{number}
use Rattle.flat_meaning.specs.Values.{Word}
use Rattle.flat_meaning.specs.Meaning.{copies}
use Rattle.flat_form.proofs.value.repeated.Given as goal

abbrev pub invariant-loop : goal.invariant-loop
invariant-loop l = (f : Word) → l.count * l.width ≤ 64 → l.word ≡ number f l.width → l.all ≡ number (copies l.counter l.width f) (l.counter * l.width)
