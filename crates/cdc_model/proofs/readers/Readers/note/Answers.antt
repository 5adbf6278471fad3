-- The reader at the bit's place is written.
use Rattle.std.proofs.Common.{◌≡◌, ◌∙◌, sym, ap, subst, arith, Some, length, set}
use Rattle.std.specs.Prelude.{cond}
use Rattle.cell_graph.specs.Reading.{bit_eq}
use Rattle.cdc_model.specs.Readers.{Kept, HasPlace, place_of, reader_at, more_readers}
use Rattle.cdc_model.proofs.Noted.{placed_within, note_placed}
use Rattle.cdc_model.proofs.readers.Readers.note.Goals as goal

pub returns-then-place-len-clause-noted : goal.returns-then-place-len-clause-noted
returns-then-place-len-clause-noted c = λ b.
    let ss = c.self.inside.spans.items in
    let rs = c.self.inside.readers.items in
    let at : place_of ss c.args.bit ≡ Some c.in-Some.place = ap (λ (k : Kept). place_of k.spans c.args.bit) c.self.view_is ∙ sym c.place.ensures ∙ c.in-Some.is in
    let new : Kept = record { spans = ss; readers = set rs c.in-Some.place c.and.result } in
    subst (λ (k : Kept). HasPlace k.spans b → reader_at new b ≡ cond (bit_eq c.args.bit b) (more_readers (reader_at k b) c.args.reader) (reader_at k b)) c.self.view_is
    (note_placed ss rs c.self.invariant c.args.bit c.args.reader c.and.result c.index.result.now c.in-Some.place at (c.and.ensures ∙ ap (λ r. more_readers r c.args.reader) c.index.ensures) b)

pub returns-else-place-len-clause-noted : goal.returns-else-place-len-clause-noted
returns-else-place-len-clause-noted c =
    let ss = c.self.inside.spans.items in
    let at : place_of ss c.args.bit ≡ Some c.in-Some.place = ap (λ (k : Kept). place_of k.spans c.args.bit) c.self.view_is ∙ sym c.place.ensures ∙ c.in-Some.is in
    let l = placed_within ss (length c.self.inside.readers.items) c.args.bit c.in-Some.place c.self.invariant at in
    let ok = c.self.inside.readers.ok in
    let e = c.len.ensures in
    absurd (omega arith)
