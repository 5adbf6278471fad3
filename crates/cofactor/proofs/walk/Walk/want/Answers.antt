use Rattle.std.proofs.Common.{◌∙◌, ap, sym, Some}
use Rattle.cell_graph.proofs.Cones.{on_ok, met_more}
use Rattle.cofactor.proofs.walk.Walk.want.Goals as goal

pub returns-in-Some-clause-only : goal.returns-in-Some-clause-only
returns-in-Some-clause-only c = on_ok c.want_at.result (λ f w h. met_more (λ k. (sym c.in-Some.ensures ∙ ap Some (sym k.0), k.1)) (f w h)) c.want_at.ensures.only
