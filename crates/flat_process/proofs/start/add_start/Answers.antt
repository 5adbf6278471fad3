use Rattle.std.proofs.Common.{◌≡◌, rules, sym, ap, ap₂, ◌∙◌}
use Rattle.std.specs.Prelude.{slice_get}
use Rattle.flat_process.specs.Starts.{with_start}
use Rattle.flat_process.proofs.Started.{has-start, keep-first, keep-second}
use Rattle.flat_process.proofs.start.add_start.Goals as goal

pub returns-then-has_start : goal.returns-then-has_start
returns-then-has_start c = λ pins e a p bs f h is inside noted.
    let d = c.args.design.now in
    let same : c.unwrap_or-place.result ≡ c.args.start.sig = search rules in
    let at : c.unwrap_or-place.result ≡ p.0 = same ∙ is.sig in
    let t = sym (has-start pins d e a bs h p.0 c.unwrap_or-place.result c.as_slice.result.now c.has_start.result at c.as_slice.ensures.value c.has_start.ensures) ∙ c.if-has_start.true in
    keep-second pins d e a bs h p f c.args.faults.now c.note_second.new.faults c.note_second.result inside t noted
    (λ x q. c.note_second.ensures x (ap₂ slice_get c.as_slice-then-has_start.ensures.value at ∙ q))

pub returns : goal.returns
returns c = λ pins e a p bs f h is inside noted.
    let d = c.args.design.now in
    let same : c.unwrap_or-place.result ≡ c.args.start.sig = search rules in
    let at : c.unwrap_or-place.result ≡ p.0 = same ∙ is.sig in
    let t = sym (has-start pins d e a bs h p.0 c.unwrap_or-place.result c.as_slice.result.now c.has_start.result at c.as_slice.ensures.value c.has_start.ensures) ∙ c.if-has_start.false in
    keep-first pins d e a bs h c.write_start.new.entries p c.args.start f c.args.faults.now (c.write_start.ensures ∙ ap (λ k. with_start k c.args.start.value d.entries.items) at) is inside t noted
