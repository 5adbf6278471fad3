-- The one operand is the bit and the other one zero, in either order.
use Rattle.std.proofs.Common.{◌≡◌, ◌∙◌, sym, subst, inl, inr, true, false, option_map}
use Rattle.cell_graph.specs.Unfolded.{bit_of}
use Rattle.fifo_nodes.specs.Codes.{AreOperands, word_bit}
use Rattle.fifo_nodes.proofs.CodeBits.{beside_by, beside_is}
use Rattle.fifo_nodes.proofs.codes.is_top.Goals as goal

pub returns-then-is_with_zero : goal.returns-then-is_with_zero
returns-then-is_with_zero c = λ plain shown word inside.
    let g = c.args.net.now.graph in
    let x = option_map (bit_of g) c.args.node in
    let are = subst (AreOperands g x) c.in-Some.is (c.operands_of.ensures plain inside) in
    let first = c.is_with_zero.ensures plain shown word are.2 are.3 in
    (λ t. beside_by g x c.in-Some.sides are (word_bit g c.args.word c.args.at) (inl (first.0 t)), λ h. c.if-is_with_zero.true)

pub returns-else-is_with_zero : goal.returns-else-is_with_zero
returns-else-is_with_zero c = λ plain shown word inside.
    let g = c.args.net.now.graph in
    let x = option_map (bit_of g) c.args.node in
    let y = word_bit g c.args.word c.args.at in
    let are = subst (AreOperands g x) c.in-Some.is (c.operands_of.ensures plain inside) in
    let first = c.is_with_zero.ensures plain shown word are.2 are.3 in
    let second = c.is_with_zero-else-is_with_zero.ensures plain shown word are.3 are.2 in (
      λ t. beside_by g x c.in-Some.sides are y (inr (second.0 t)),
      λ h. elim (beside_is g x c.in-Some.sides are y h) [
        | inl k ↦ let t : true ≡ false = sym (first.1 k) ∙ c.if-is_with_zero.false in cc
        | inr k ↦ second.1 k
      ],
    )
