-- Loops of well sized designs.
use Rattle.flat_form.specs.View.{flat_of}
use Rattle.loop_law.specs.Designs.{SizedSignalsOnLoops, SizedLoopsAreSegments, SizedFirstLoopIsFirst}
use Rattle.loop_law.proofs.Filled.{well_sized_is_filled}
use Rattle.loop_law.proofs.Loops.{signals_on_loops, loops_are_segments, first_loop_is_first}

pub sized_signals_on_loops : SizedSignalsOnLoops
sized_signals_on_loops flat ds k sized sound is = signals_on_loops (flat_of flat) ds k sound (well_sized_is_filled flat sized) is

pub sized_loops_are_segments : SizedLoopsAreSegments
sized_loops_are_segments flat ds k sized sound is = loops_are_segments (flat_of flat) ds k sound (well_sized_is_filled flat sized) is

pub sized_first_loop_is_first : SizedFirstLoopIsFirst
sized_first_loop_is_first flat ds k sized sound is n p stands back none =
    let h = first_loop_is_first (flat_of flat) ds k sound (well_sized_is_filled flat sized) is n p stands back none in record { loops = h.0; none_below = h.1 }
