-- By both comparisons.
use Rattle.std.proofs.Common.{◌∙◌, sym}
use Rattle.std.proofs.lemmas.Slice.Eq.{slice_eq-Decides}
use Rattle.cert_check.proofs.FirstFlops.{equal_bits, bits_equal}
use Rattle.cert_check.proofs.rings.is_with.Goals as goal

pub returns-then-eq : goal.returns-then-eq
returns-then-eq c =
    let same = slice_eq-Decides (λ a b. (equal_bits a b, bits_equal a b)) c.as_slice.result.now c.args.flops.now c.eq-then-eq.result c.eq-then-eq.ensures in (
      λ h. (equal_bits c.args.sync.now.from c.args.from (sym c.eq.ensures ∙ c.if-eq.true), sym c.as_slice.ensures ∙ same.0 h),
      λ p. same.1 (c.as_slice.ensures ∙ p.1),
    )
