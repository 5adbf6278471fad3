use Rattle.std.proofs.Common.{◌≡◌, map}
use Rattle.serde_json.specs.View.{members_view}
use Rattle.run_file.specs.Values.{has_others}
use Rattle.run_file.proofs.value.has_others.Given as goal

abbrev pub invariant-loop-key : goal.invariant-loop-key
invariant-loop-key l =
    (goal.iterator-loop-key).can_next l.key-iterator ×
    (goal.iterator-loop-key).is_finite l.key-iterator ×
    (has_others (map (λ k. k.now) l.known) (members_view l.members.entries) ≡ has_others (map (λ k. k.now) l.known) (members_view l.key-iterator))
