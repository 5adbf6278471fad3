use Rattle.std.proofs.Common.{◌≡◌, ◌∙◌, ◌+◌, sym, subst, take, List, false}
use Rattle.cell_graph.specs.Cofactor.{fixed}
use Rattle.cofactor.specs.declared.cube.Fixed.{Fixed}
use Rattle.cofactor.specs.Masks.{masks_of}
use Rattle.cofactor.specs.Cubes.{bit, fixings}
use Rattle.cofactor.proofs.Fixings.{row-more}
use Rattle.cofactor.proofs.cube.fixed_bits.Goals as goal

pub loop-fixed-preserved : goal.loop-fixed-preserved
loop-fixed-preserved c =
    let none : Fixed = record { bit = record { sig = 0; at = 0 }; value = false } in
    let n = c.loop-fixed.fixed-index in
    let inv = subst (λ (xs : List Fixed). c.loop-fixed.masks ≡ masks_of (λ i. fixed (fixings (take n xs)) (bit c.args.sig i)) 64) (sym c.as_slice-fixed-items.ensures) c.loop-fixed.invariant in
    subst (λ (xs : List Fixed). c.with_fixed-masks.result ≡ masks_of (λ i. fixed (fixings (take (n + 1) xs)) (bit c.args.sig i)) 64) c.as_slice-fixed-items.ensures
    (c.with_fixed-masks.ensures (λ i. fixed (fixings (take n c.as_slice-fixed-items.result.now)) (bit c.args.sig i)) inv
    ∙ row-more c.as_slice-fixed-items.result.now n none c.args.sig c.loop-fixed-test.true)
