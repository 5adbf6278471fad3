use Rattle.flat_unfolding.proofs.Visited.{sizes_law}
use Rattle.flat_unfolding.proofs.Widths.{well_sized_law}
use Rattle.flat_unfolding.proofs.laws.words_have_bits.Goals as goal

pub returns-clause-bits : goal.returns-clause-bits
returns-clause-bits c = sizes_law

pub returns-clause-kept : goal.returns-clause-kept
returns-clause-kept c = well_sized_law
