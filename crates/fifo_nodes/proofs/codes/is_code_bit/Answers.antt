-- A node that doesn't hold it is no bit above the code's, and fits a next count's Gray word.
use Rattle.std.proofs.Common.{◌≡◌, ◌∙◌, sym, ap, subst, true, false, option_map}
use Rattle.cell_graph.specs.Unfolded.{bit_of}
use Rattle.cofactor.proofs.Places.{if_ok}
use Rattle.fifo_nodes.specs.Codes.{code_of, moment_of, FitsNext, IsMomentIn}
use Rattle.fifo_nodes.specs.Terms.{terms_of, AreTermsIn}
use Rattle.fifo_nodes.proofs.NextCodes.{no_bit_above, next_bit, bit_next}
use Rattle.fifo_nodes.proofs.codes.is_code_bit.Goals as goal

pub returns-then-at-code : goal.returns-then-at-code
returns-then-at-code c = λ plain shown code inside.
    let g = c.args.net.now.graph in
    let held = c.is_held.ensures g plain code inside in (
      λ t. cc,
      λ h. absurd (no_bit_above (code_of g c.args.code.now) c.args.at (option_map (bit_of g) c.args.node) c.if-at-code.true
          (λ e. let t : true ≡ false = sym (held.1 e) ∙ c.if-is_held.false in cc) h),
    )

pub returns-in-Next : goal.returns-in-Next
returns-in-Next c = if_ok c.fits_next.result
    (λ t h plain shown code inside.
    let g = c.args.net.now.graph in
    let k = code_of g c.args.code.now in
    let at = c.args.at in
    let x = option_map (bit_of g) c.args.node in
    let ts = terms_of g c.in-Next.under in
    let moment = ap (moment_of g) c.in-Next.is in
    let held = c.is_held.ensures g plain code inside in
    let under = subst (AreTermsIn g) (sym c.as_slice.ensures) (subst (IsMomentIn g) c.in-Next.is code.moment) in
    let next = h plain shown code under inside c.if-at-code.false in (
      λ r. next_bit k at x ts moment (subst (λ us. FitsNext k.b k.w (terms_of g us) at x) c.as_slice.ensures (next.0 r)),
      λ f. next.1 (subst (λ us. FitsNext k.b k.w (terms_of g us) at x) (sym c.as_slice.ensures)
          (bit_next k at x ts moment (λ e. let u : true ≡ false = sym (held.1 e) ∙ c.if-is_held.false in cc) f)),
    ))
    c.fits_next.ensures
