use Rattle.std.proofs.Common.{◌≡◌, ◌++◌, map, drop}
use Rattle.std.specs.Prelude.{is_some}
use Rattle.flat_names.specs.declared.design.Entry.{Entry}
use Rattle.flat_design.proofs.free.start_marks.Given as goal

abbrev pub invariant-loop-entry : goal.invariant-loop-entry
invariant-loop-entry l = map (λ (x : Entry). is_some x.start) l.entries ≡ l.marks.items ++ map (λ (x : Entry). is_some x.start)
    (drop l.entry-index l.entries)
