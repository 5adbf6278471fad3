use Rattle.std.proofs.Common.{◌≡◌, List, ℕ, ◌++◌, take}
use Rattle.driver_loops.specs.Walks.{HasWalked}
use Rattle.driver_loops.proofs.walk.Walk.go_all.Given as goal

abbrev pub invariant-loop-root : goal.invariant-loop-root
invariant-loop-root l = record {
  walked : (before : List ℕ) → HasWalked l.links before l.initial.self → HasWalked l.links (before ++ take l.root-index l.roots) l.self;
  longer : (before : List ℕ) → HasWalked l.links before l.initial.self → (rest : List ℕ) × (l.self.order.items ≡ l.initial.self.order.items ++ rest);
}
