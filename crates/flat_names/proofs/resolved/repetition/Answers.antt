use Rattle.std.proofs.Common.{◌≡◌, Some, None, sym, ap, ◌∙◌, arith}
use Rattle.flat_unfolding.specs.Constants.{own_value}
use Rattle.flat_names.specs.Noting.{noted}
use Rattle.flat_names.specs.Pieces.{out_of_range}
use Rattle.flat_names.proofs.Repeats.{Counts, count-value, count-zero, count-large, count-right}
use Rattle.flat_names.proofs.resolved.repetition.Goals as goal
use Rattle.flat_names.proofs.resolved.repetition.Goals.{then-times-eq0-via-then-times-eq0, then-times-eq0-via-else-times-eq0+then-times-gt-MAX_WHOLE}

pub returns-then-times-eq0 : goal.returns-then-times-eq0
returns-then-times-eq0 c = λ t is.
    let r = c.args.count.now in
    let old = c.args.faults.now in
    let sound = c.if-not-count.false in
    let value : c.own_value-times.result ≡ own_value t.expr = count-value t r c.own_value-times.result is sound c.own_value-times.ensures in
    let counts : Counts t None old (noted old out_of_range) = elim c.then-times-eq0.branch [
      | then-times-eq0-via-then-times-eq0 w ↦ count-zero t r old is sound (sym value ∙ w.if-times-eq0.true)
      | then-times-eq0-via-else-times-eq0+then-times-gt-MAX_WHOLE w ↦ count-large t r old is sound (let g = w.if-times-gt-MAX_WHOLE.true in omega (arith, value, g))
    ] in
    (counts.0, c.in_ok-note.ensures ∙ counts.1)

pub returns : goal.returns
returns c = λ t is.
    let r = c.args.count.now in
    let sound = c.if-not-count.false in
    let value : c.own_value-times.result ≡ own_value t.expr = count-value t r c.own_value-times.result is sound c.own_value-times.ensures in
    let counts = count-right t r c.args.faults.now is sound (let l = c.if-times-gt-MAX_WHOLE.false in omega (arith, value, l)) (let n = c.if-times-eq0.false in omega (arith, value, n)) in
    (ap Some value ∙ counts.0, counts.1)
