use Rattle.std.proofs.Common.{◌≡◌, ◌++◌, [], map, take, drop}
use Rattle.std.specs.List.{AllZip}
use Rattle.clock_constraints.specs.declared.ClockPin.{ClockPin}
use Rattle.domains.specs.Groups.{mentions, IsInGroup}
use Rattle.domains.proofs.group.number.Given as goal

abbrev pub invariant-loop-clock : goal.invariant-loop-clock
invariant-loop-clock l = record {
  mentioned : mentions [] (map (λ (k : ClockPin). k.group) l.clocks)
      ≡ map (λ n. n.now) l.names.keys ++ mentions (map (λ n. n.now) l.names.keys) (map (λ (k : ClockPin). k.group) (drop l.clock-index l.clocks));
  in_groups : AllZip (IsInGroup (map (λ n. n.now) l.names.keys)) (take l.clock-index l.clocks) l.by_clock;
}
