use Rattle.std.proofs.Common.{[], List, ℕ, Bor, Some, None, map, length, sym, ap, ◌∙◌}
use Rattle.flat_form.specs.View.{target_of}
use Rattle.flat_unfolding.specs.Names.{width_at}
use Rattle.flat_targets.specs.Parts.{parts, first_met}
use Rattle.flat_targets.specs.Pieces.{first_noted}
use Rattle.flat_targets.proofs.Aimed.{ok-then}
use Rattle.flat_targets.proofs.PieceRules.{met-in}
use Rattle.flat_targets.proofs.pieces.note_first.Goals as goal

pub returns-in-Some : goal.returns-in-Some
returns-in-Some c = λ l h fit.
    let f = c.args.faults.now in
    let ns = map (λ (n : Bor (List ℕ)). n.now) c.args.names.now in
    let ps = parts (target_of c.args.resolved.now) in
    ok-then c.note_named.result _ _ (λ _ k. k ∙ ap (first_noted f ns) (sym c.in-Some.is ∙ met-in c.args.look.now l h fit c.in_ok-place.field-0 ps (λ n w. c.in_ok-place.ensures n w))) c.note_named.ensures

pub returns-in-None : goal.returns-in-None
returns-in-None c = λ l h fit.
    let f = c.args.faults.now in
    let ns = map (λ (n : Bor (List ℕ)). n.now) c.args.names.now in
    let ps = parts (target_of c.args.resolved.now) in
    ap (first_noted f ns) (sym c.in-None.is ∙ met-in c.args.look.now l h fit c.in_ok-place.field-0 ps (λ n w. c.in_ok-place.ensures n w))
