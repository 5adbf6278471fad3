-- The cell is a sum or a choice, or neither.
use Rattle.std.proofs.Common.{◌∙◌, sym}
use Rattle.fifo_nodes.proofs.NextCodes.{sum_cell, choice_cell, other_cell}
use Rattle.fifo_nodes.proofs.codes.is_sum_or_choice.Goals as goal

pub returns-in-Add : goal.returns-in-Add
returns-in-Add c = λ plain l. (
  λ t. sum_cell c.args.net.now.graph plain c.args.cell l c.in-Add.a c.in-Add.b
      (sym c.cell.ensures ∙ c.in-Add.is),
  λ is. cc,
)

pub returns-in-Mux : goal.returns-in-Mux
returns-in-Mux c = λ plain l. (
  λ t. choice_cell c.args.net.now.graph plain c.args.cell l c.in-Mux.cond c.in-Mux.yes c.in-Mux.other
      (sym c.cell.ensures ∙ c.in-Mux.is),
  λ is. cc,
)

pub returns-in_default : goal.returns-in_default
returns-in_default c = λ plain l. (
  λ t. cc,
  λ is. absurd (other_cell c.args.net.now.graph plain c.args.cell l (λ a b e. c.in_default.not-Add a b (c.cell.ensures ∙ e))
      (λ s a b e. c.in_default.not-Mux s a b (c.cell.ensures ∙ e)) is),
)
