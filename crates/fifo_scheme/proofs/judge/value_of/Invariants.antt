-- The words so far are word bits that take the node.
use Rattle.std.proofs.Common.{◌≡◌, ℕ, ◌<◌, Some, option_map, length, slice_get}
use Rattle.cdc_base.specs.declared.bit.Bit.{Bit}
use Rattle.cell_graph.specs.Unfolded.{bit_of}
use Rattle.cdc_model.specs.Nets.{design_of, next_tree}
use Rattle.gray_pointer.specs.Words.{IsIn}
use Rattle.fifo_laws.specs.Words.{depth_of, IsWordBit}
use Rattle.fifo_scheme.specs.Met.{AreNumbers, ForMet}
use Rattle.fifo_scheme.proofs.judge.value_of.Given as goal

abbrev pub invariant-loop-word : goal.invariant-loop-word
invariant-loop-word l = ForMet l.shown.net.now l.shown.domains.now l.shown.table.now l.index l.pair
    (λ write read. AreNumbers l.shown.net.now l.shown.domains.now write read l.numbers
    → length l.words ≡ depth_of (design_of l.shown.net.now l.shown.domains.now) write → IsIn l.shown.net.now.graph l.value
    → (k : ℕ) (m : Bit) → k < l.word → slice_get l.words k ≡ Some m
    → IsWordBit (design_of l.shown.net.now l.shown.domains.now) (next_tree l.shown.net.now) write read k (option_map (bit_of l.shown.net.now.graph) l.value) m)
