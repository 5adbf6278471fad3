use Rattle.std.proofs.Common.{◌≡◌, ◌&&◌, ◌==◌, Some, sym, ap, ◌∙◌}
use Rattle.std.specs.List.{list_all}
use Rattle.flat_unfolding.specs.Names.{a_signal, meaning}
use Rattle.flat_names.specs.declared.scope.Meaning.TheVariants as m
use Rattle.flat_targets.proofs.Aimed.{meaning-at}
use Rattle.flat_process.proofs.Processes.{is-edge}
use Rattle.flat_process.proofs.always.is_edge_of.Goals as goal

pub returns-then-becomes_active : goal.returns-then-becomes_active
returns-then-becomes_active c = λ pins l h pinned.
    let s = c.in-Some-Signal in
    let e = c.args.edge.now in
    let ss = c.args.signals.now in
    let means : meaning l e.name ≡ Some (a_signal s.sig) = meaning-at c.args.look.now l h e.name (Some (m.Signal s.sig)) (sym (s.is ∙ ap Some s.field-0-is) ∙ c.meaning.ensures) in
    c.are_all.ensures ∙ ap (λ b. b && list_all (λ t. t == s.sig) ss) (sym c.if-becomes_active.true ∙ c.becomes_active.ensures pins l h pinned) ∙ sym (is-edge l ss e s.sig means)

pub returns-else-becomes_active : goal.returns-else-becomes_active
returns-else-becomes_active c = λ pins l h pinned.
    let s = c.in-Some-Signal in
    let e = c.args.edge.now in
    let ss = c.args.signals.now in
    let means : meaning l e.name ≡ Some (a_signal s.sig) = meaning-at c.args.look.now l h e.name (Some (m.Signal s.sig)) (sym (s.is ∙ ap Some s.field-0-is) ∙ c.meaning.ensures) in
    c.if-becomes_active.false ∙ ap (λ b. b && list_all (λ t. t == s.sig) ss) (sym c.if-becomes_active.false ∙ c.becomes_active.ensures pins l h pinned) ∙ sym (is-edge l ss e s.sig means)
