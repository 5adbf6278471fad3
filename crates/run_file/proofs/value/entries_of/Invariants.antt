use Rattle.std.proofs.Common.{◌≡◌, ◌++◌, Ok}
use Rattle.serde_json.specs.View.{members_view}
use Rattle.clock_constraints.specs.Refusals.{◌>>=◌}
use Rattle.run_file.specs.Values.{entries_of}
use Rattle.run_file.proofs.value.entries_of.Given as goal

abbrev pub invariant-loop-name : goal.invariant-loop-name
invariant-loop-name l =
    (goal.iterator-loop-name).can_next l.name-iterator ×
    (goal.iterator-loop-name).is_finite l.name-iterator ×
    (entries_of (members_view l.members.entries) ≡ (entries_of (members_view l.name-iterator) >>= (λ rest. Ok (l.entries ++ rest))))
