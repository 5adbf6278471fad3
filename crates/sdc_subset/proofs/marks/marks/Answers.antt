use Rattle.std.proofs.Common.{◌≡◌, ◌∙◌, ap, ◌+◌, ◌++◌, ◌∷◌, Bool, List, ℕ, Some, None, drop, drop-cons, add-one}
use Rattle.std.specs.Prelude.{option_map, if◌then◌else◌}
use Rattle.sdc_subset.specs.declared.marks.Mark.{Mark}
use Rattle.sdc_subset.specs.Marks.{chunk_marks, marks_of}
use Rattle.sdc_subset.proofs.Options.{read-behind}
use Rattle.sdc_subset.proofs.marks.marks.Goals as goal

pub loop-chunk-preserved : goal.loop-chunk-preserved
loop-chunk-preserved c =
    let chunks = c.args.chunks.now in
    let at = c.loop-chunk.chunk-index in
    let new = c.add_chunk.new.marks in
    let split = drop-cons chunks at c.chunk-item.result c.loop-chunk-test.true in
    let next = add-one at in
    let here : drop at chunks ≡ c.as_slice.result.now ∷ drop (at + 1) chunks = cc in
    let first : option_map (λ ms. c.loop-chunk.marks ++ ms) (chunk_marks c.as_slice.result.now) ≡ Some new =
    c.in_ok-add_chunk.ensures ∙ ap (λ (t : Bool). if t then Some new else None) c.if-not-branch.false in
    c.loop-chunk.invariant ∙ ap (λ (cs : List (List ℕ)). option_map (λ (rest : List Mark). c.loop-chunk.marks ++ rest) (marks_of cs)) here
    ∙ read-behind c.loop-chunk.marks new (chunk_marks c.as_slice.result.now) (marks_of (drop (at + 1) chunks)) first
