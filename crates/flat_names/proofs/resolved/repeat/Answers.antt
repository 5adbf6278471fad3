use Rattle.std.proofs.Common.{◌≡◌, ◌-◌, ◌*◌, ◌^◌, min, ◌&&◌, nat_lt, [], ◌∷◌, is_some, refl, sym, ap, ◌∙◌, arith}
use Rattle.std.specs.Prelude.{unwrap_or}
use Rattle.flat_unfolding.specs.Outcome.{breaks_if}
use Rattle.flat_names.specs.Noting.{all_noted}
use Rattle.flat_names.specs.Pieces.{count_notes, repeat_notes}
use Rattle.flat_names.proofs.Notes.{then-noted}
use Rattle.flat_names.proofs.Repeats.{is-repeated, repeat-test}
use Rattle.flat_names.proofs.resolved.repeat.Goals as goal
use Rattle.flat_names.proofs.resolved.repeat.Goals.{then-parts, else-parts}

pub returns : goal.returns
returns c = λ k t ts is are.
    let p = c.args.parts in
    let n = c.in_ok-times.times in
    let total = c.saturating_mul-total.result in
    let v = c.in_ok-width.width in
    let count = c.in_ok-times.ensures k is in
    let product : total ≡ min (2 ^ 64 - 1) (unwrap_or n 0 * p.width) = let e = c.saturating_mul-total.ensures in let d = ap (λ x. x * p.width) c.unwrap_or.ensures in omega (arith, e, d) in
    let both : c.if-parts.joined_width ≡ (p.is_sound && is_some n) = elim c.if-parts.branch [
      | then-parts w ↦ w.joined_width-is ∙ w.is_some.ensures ∙ sym (ap (λ x. x && is_some n) w.if-parts.true)
      | else-parts w ↦ w.joined_width-is ∙ w.if-parts.false ∙ sym (ap (λ x. x && is_some n) w.if-parts.false)
    ] in (
      is-repeated k t ts p n v total c.kept_count.result c.from_vec.result c.unwrap_or-2.result c.is_some-2.result c.if-parts.joined_width c.none.result are count.0 product both c.in_ok-width.ensures.0 c.kept_count.ensures c.from_vec.ensures
          c.unwrap_or-2.ensures c.is_some-2.ensures,
      refl,
      then-noted c.args.faults.now c.repetition.new.faults c.joined_width.new.faults (count_notes k) (repeat_notes k (t ∷ ts)) count.1
          (c.in_ok-width.ensures.1 ∙ ap (λ b. all_noted c.repetition.new.faults (breaks_if b 308 [])) (ap (λ b. b && nat_lt 64 total) both ∙ repeat-test k t ts p n total are count.0 product)),
      c.none.ensures,
    )
