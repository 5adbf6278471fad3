use Rattle.std.proofs.Common.{sym, subst}
use Rattle.cell_graph.specs.Below.{IsOperand}
use Rattle.cell_graph.proofs.Cones.{on_ok, met_in_turn, met_more, both_operands}
use Rattle.cell_graph.proofs.cone.Cone.meet_operands.Goals as goal

pub returns-in_ok-meet-in-Mux-clause-only : goal.returns-in_ok-meet-in-Mux-clause-only
returns-in_ok-meet-in-Mux-clause-only c =
    on_ok c.meet_both.result (λ f x k. met_more (λ e. subst (λ d. IsOperand d x) (sym c.in-Mux.is) e) (met_in_turn (c.in_ok-meet-in-Mux.ensures.only x) (f x k)))
    c.meet_both.ensures.only

pub returns-in-And-clause-only : goal.returns-in-And-clause-only
returns-in-And-clause-only c =
    on_ok c.meet_both-in-And.result (λ f x k. met_more (both_operands c.args.cell c.in-And.a c.in-And.b c.in-And.is x) (f x k)) c.meet_both-in-And.ensures.only

pub returns-in-Not-clause-only : goal.returns-in-Not-clause-only
returns-in-Not-clause-only c = on_ok c.meet.result (λ f x k. met_more (λ e. subst (λ d. IsOperand d x) (sym c.in-Not.is) e) (f x k)) c.meet.ensures.only

pub returns-in-Slice-clause-only : goal.returns-in-Slice-clause-only
returns-in-Slice-clause-only c = on_ok c.meet-in-Slice.result (λ f x k. met_more (λ e. subst (λ d. IsOperand d x) (sym c.in-Slice.is) e) (f x k)) c.meet-in-Slice.ensures.only

pub returns-in-Extend-clause-only : goal.returns-in-Extend-clause-only
returns-in-Extend-clause-only c = on_ok c.meet-in-Extend.result (λ f x k. met_more (λ e. subst (λ d. IsOperand d x) (sym c.in-Extend.is) e) (f x k)) c.meet-in-Extend.ensures.only

pub returns-in-Reduce-clause-only : goal.returns-in-Reduce-clause-only
returns-in-Reduce-clause-only c = on_ok c.meet-in-Reduce.result (λ f x k. met_more (λ e. subst (λ d. IsOperand d x) (sym c.in-Reduce.is) e) (f x k)) c.meet-in-Reduce.ensures.only
