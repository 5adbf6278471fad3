use Rattle.std.proofs.Common.{◌≡◌, false, not, ◌&&◌, nat_lt, [], sym, ap, ◌∙◌}
use Rattle.std.specs.Option.{option_map_or}
use Rattle.flat_unfolding.specs.Outcome.{breaks_if}
use Rattle.flat_unfolding.specs.Targets.{total}
use Rattle.flat_names.specs.Noting.{all_noted}
use Rattle.flat_targets.proofs.AimedParts.{is-group-of, wide-is}
use Rattle.flat_targets.proofs.target.joined.Goals as goal
use Rattle.flat_targets.proofs.target.joined.Goals.{then-is_wide+in_ok-note, else-is_wide, then-parts, else-parts}

pub returns : goal.returns
returns c = λ bs h.
    let p = c.args.parts in
    let f = c.args.faults.now in
    let wide : c.is_wide-is_wide.result ≡ option_map_or (nat_lt 64) (total bs) false = c.is_wide-is_wide.ensures ∙ wide-is bs p h in
    let sound : c.if-parts.result ≡ (p.is_sound && not c.is_wide-is_wide.result) = elim c.if-parts.branch [
      | then-parts w ↦ w.result-is ∙ ap (λ b. b && not c.is_wide-is_wide.result) (sym w.if-parts.true)
      | else-parts w ↦ w.result-is ∙ w.if-parts.false ∙ ap (λ b. b && not c.is_wide-is_wide.result) (sym w.if-parts.false)
    ] in
    let told : c.if-is_wide.faults ≡ all_noted f (breaks_if (option_map_or (nat_lt 64) (total bs) false) 308 []) = elim c.if-is_wide.branch [
      | then-is_wide+in_ok-note w ↦ w.faults-is ∙ w.in_ok-note.ensures ∙ ap (λ b. all_noted f (breaks_if b 308 [])) (sym w.if-is_wide.true ∙ wide)
      | else-is_wide w ↦ w.faults-is ∙ ap (λ b. all_noted f (breaks_if b 308 [])) (sym w.if-is_wide.false ∙ wide)
    ] in
    (is-group-of bs p c.is_wide-is_wide.result c.if-parts.result c.from_vec.result h wide sound c.from_vec.ensures, told)
