-- The ring's two ends, and the table under each cube.
use Rattle.std.proofs.Common.{◌∙◌, sym, ap, slice_get, length, ◌-◌}
use Rattle.mux_recirc.proofs.held.Busy.open.Goals as goal

pub returns : goal.returns
returns c = λ is has. (
  c.in-Some-Some.request.now,
  c.in-Some-Some.last.now,
  sym (c.in-Some-Some.ensures.value ∙ ap (λ xs. slice_get xs 0) c.as_slice-ends.ensures),
  sym (c.in-Some-Some.ensures'.value ∙ ap (λ xs. slice_get xs (length xs - 1)) c.as_slice-ends.ensures),
  c.in_ok-differing.ensures is has,
  c.in_ok-differing-2.ensures is has,
)
