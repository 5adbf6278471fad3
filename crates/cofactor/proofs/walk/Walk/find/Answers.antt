use Rattle.std.proofs.Common.{◌∙◌, inl, inr, ap, sym, Some}
use Rattle.cell_graph.proofs.Cones.{on_ok}
use Rattle.cofactor.proofs.walk.Walk.find.Goals as goal

pub returns-in-Some-clause-only : goal.returns-in-Some-clause-only
returns-in-Some-clause-only c = on_ok c.add_sought.result (λ f b h. elim (f b h) [
  | inl k ↦ inl k
  | inr e ↦ inr (sym c.has_bit.ensures ∙ c.if-not-has_bit.false, sym c.in-Some.ensures ∙ ap Some (sym e))
]) c.add_sought.ensures.only
