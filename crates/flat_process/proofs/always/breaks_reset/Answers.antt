use Rattle.std.proofs.Common.{◌≡◌, Option, Some, None, refl, ap, subst, ◌∙◌, Bor}
use Rattle.std.specs.Prelude.{is_some, option_copied}
use Rattle.verilog_ast.specs.declared.Edge.{Edge}
use Rattle.flat_unfolding.specs.Processes.{first_edge, reset_edge}
use Rattle.flat_process.specs.Processes.{IsFormIf}
use Rattle.flat_process.proofs.Processes.{form-breaks, no-form-tells}
use Rattle.flat_process.proofs.always.breaks_reset.Goals as goal

copied-some : (o : Option (Bor Edge)) → is_some o ≡ is_some (option_copied o)
copied-some None = refl
copied-some (Some x) = refl

pub returns-in-Some : goal.returns-in-Some
returns-in-Some c = λ pins l bs f h pinned is.
    let edges = c.args.edges.now in
    form-breaks l (first_edge edges) (reset_edge l edges) bs f c.in-Some.form c.breaks_form.result (subst (IsFormIf l bs f) c.in-Some.is is) (λ g k. c.breaks_form.ensures pins l bs g h pinned k)

pub returns-in-None : goal.returns-in-None
returns-in-None c = λ pins l bs f h pinned is.
    let edges = c.args.edges.now in
    no-form-tells l (first_edge edges) (reset_edge l edges) bs f c.is_some.result (subst (IsFormIf l bs f) c.in-None.is is) (c.is_some.ensures ∙ copied-some c.reset_edge.result ∙ ap is_some (c.reset_edge.ensures l h))
