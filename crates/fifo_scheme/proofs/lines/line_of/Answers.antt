-- The line has both names in it.
use Rattle.std.proofs.Common.{◌∙◌, ℕ, List, ap, length}
use Rattle.cofactor.proofs.Places.{if_ok}
use Rattle.fifo_scheme.specs.Lines.{line_between, signal_text}
use Rattle.fifo_scheme.proofs.lines.line_of.Goals as goal

pub returns-in-Ok : goal.returns-in-Ok
returns-in-Ok c =
    let line = λ (wb rb : List ℕ) (count : ℕ). line_between c.args.number wb rb c.args.fifo.now.depth count in
    if_ok c.from_text.result
    (λ text is. is ∙ c.as_str.ensures.value ∙ c.in-Ok.ensures.ok
    ∙ ap (line c.signal_text-wb.result.now c.signal_text-rb.result.now) c.len-crossings.ensures
    ∙ ap (λ wb. line wb c.signal_text-rb.result.now (length c.args.fifo.now.crossings)) c.signal_text-wb.ensures
    ∙ ap (λ rb. line (signal_text c.args.net.now.graph.signals c.args.fifo.now.wb) rb (length c.args.fifo.now.crossings)) c.signal_text-rb.ensures)
    c.from_text.ensures
