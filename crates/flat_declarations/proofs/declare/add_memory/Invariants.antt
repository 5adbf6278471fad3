use Rattle.std.proofs.Common.{◌≡◌, ◌≤◌, true, List, []}
use Rattle.std.specs.Prelude.{option_map}
use Rattle.cdc_base.specs.declared.signal.ResetPin.{ResetPin}
use Rattle.verilog_reading.specs.SourceTree.{decl_of}
use Rattle.flat_unfolding.specs.Names.{width_of}
use Rattle.flat_unfolding.specs.Memories.{is_depth, word_names, taken}
use Rattle.flat_unfolding.specs.Declarations.{Site}
use Rattle.flat_unfolding.specs.Design.{Stage}
use Rattle.flat_names.specs.Looks.{range_of}
use Rattle.flat_names.specs.Designs.{ShowsStage}
use Rattle.flat_declarations.specs.Declaring.{IsAt}
use Rattle.flat_declarations.proofs.Added.{with_words}
use Rattle.flat_declarations.proofs.declare.add_memory.Given as goal

abbrev pub invariant-loop-k : goal.invariant-loop-k
invariant-loop-k l = (pins : List ResetPin) (s : Stage) (at : Site) → ShowsStage pins l.initial.names l.initial.design s → IsAt l.declaring at → at.place ≡ l.place
    → width_of (option_map range_of l.bounds) ≤ 64 → is_depth l.words ≡ true → taken s.names (word_names l.decl.name 0 l.words) ≡ []
    → ShowsStage pins l.names l.design (with_words s at (decl_of l.decl) (option_map range_of l.bounds) l.k)
