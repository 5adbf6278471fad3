-- The terms are the same, or one is the other one turned.
use Rattle.std.proofs.Common.{◌≡◌, ◌∙◌, sym, inl, inr, true, false}
use Rattle.fifo_nodes.proofs.Sets.{one_tells, turned_one}
use Rattle.fifo_nodes.proofs.term.are_one.Goals as goal

pub returns-else-are_same : goal.returns-else-are_same
returns-else-are_same c = λ g plain one another. (
  λ t. turned_one g c.args.one c.args.another (c.are_same-else-are_same.ensures.0 t ∙ c.turned.ensures),
  λ h. elim (one_tells g plain c.args.one c.args.another one another h) [
    | inl e ↦ let t : true ≡ false = sym (c.are_same.ensures.1 e) ∙ c.if-are_same.false in cc
    | inr e ↦ c.are_same-else-are_same.ensures.1 (e ∙ sym c.turned.ensures)
  ],
)
