use Rattle.std.proofs.Common.{[], ◌∷◌, refl, ap, ◌∙◌}
use Rattle.flat_unfolding.specs.Outcome.{breaks_if}
use Rattle.flat_names.specs.Noting.{all_noted}
use Rattle.flat_names.proofs.Joined.{is-joined, wide-test}
use Rattle.flat_names.proofs.resolved.join.Goals as goal

pub returns : goal.returns
returns c = λ t ts are.
    let p = c.args.parts in (
      is-joined t ts p c.in_ok-width.width c.from_vec.result c.unwrap_or.result c.is_some.result c.none.result are c.in_ok-width.ensures.0 c.from_vec.ensures c.unwrap_or.ensures c.is_some.ensures,
      refl,
      c.in_ok-width.ensures.1 ∙ ap (λ b. all_noted c.args.faults.now (breaks_if b 308 [])) (wide-test (t ∷ ts) p are),
      c.none.ensures,
    )
