use Rattle.std.proofs.Common.{◌≡◌, take}
use Rattle.cell_graph.specs.Cofactor.{fixed}
use Rattle.cofactor.specs.Masks.{masks_of}
use Rattle.cofactor.specs.Cubes.{bit, fixings}
use Rattle.cofactor.proofs.cube.fixed_bits.Given as goal

abbrev pub invariant-loop-fixed : goal.invariant-loop-fixed
invariant-loop-fixed l = l.masks ≡ masks_of (λ i. fixed (fixings (take l.fixed-index l.cube.fixed)) (bit l.sig i)) 64
