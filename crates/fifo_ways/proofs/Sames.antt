-- Tests for equality find what is equal.
use Rattle.std.proofs.Common.{rules, ◌≡◌, true}
use Rattle.std.specs.Cmp.{IsEquivalence}
use Rattle.std.specs.Cmp.Rules.{comparing}
use Rattle.cdc_base.specs.declared.bit.Bit.{Bit}
use Rattle.cell_graph.specs.declared.cell.Node.{Node}
use Rattle.fifo_ways.specs.declared.sought.Guard.{Guard}
use Rattle.fifo_ways.specs.Marked.{same_bit, same_node, same_guard}

pub equal_bits : IsEquivalence same_bit
equal_bits = search (comparing, rules)

pub equal_nodes : IsEquivalence same_node
equal_nodes = search (comparing, rules)

pub equal_guards : IsEquivalence same_guard
equal_guards = search (comparing, rules)

pub same_bit-is : (a b : Bit) → same_bit a b ≡ true → a ≡ b
same_bit-is a b h = search rules

pub same_node-is : (a b : Node) → same_node a b ≡ true → a ≡ b
same_node-is a b h = search rules

pub same_guard-is : (a b : Guard) → same_guard a b ≡ true → a ≡ b
same_guard-is a b h = search rules
