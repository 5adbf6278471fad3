use Rattle.std.proofs.Common.{◌≡◌, ◌⊎◌, ◌<◌, ℕ, true, Some}
use Rattle.std.specs.List.{Contains}
use Rattle.cdc_base.specs.declared.bit.Bit.{Bit}
use Rattle.cell_graph.specs.Tree.{bit_at}
use Rattle.cofactor.specs.Shown.{same_in}
use Rattle.cofactor.specs.Walked.{is_sought}
use Rattle.cofactor.proofs.walk.Walk.find_all.Given as goal

abbrev pub invariant-loop-at : goal.invariant-loop-at
invariant-loop-at l = record {
  there : (i : ℕ) (b : Bit) → i < l.at → is_sought l.marks b ≡ true → bit_at l.bits i ≡ true → same_in l.table l.row i ≡ Some b → Contains l.self.found b;
  only : (b : Bit) → Contains l.self.found b → Contains l.initial.self.found b ⊎ ((i : ℕ) × (bit_at l.bits i ≡ true) × (same_in l.table l.row i ≡ Some b));
  sought : (b : Bit) → Contains l.self.found b → Contains l.initial.self.found b ⊎ (is_sought l.marks b ≡ true);
  kept : (b : Bit) → Contains l.initial.self.found b → Contains l.self.found b;
  wanted : l.self.wanted ≡ l.initial.self.wanted;
}
