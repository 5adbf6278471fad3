use Rattle.std.proofs.Common.{◌∙◌, sym, Some, None}
use Rattle.report.proofs.Patterns.{after-tail, piece-found}
use Rattle.report.proofs.pattern.matches_after_run.Goals as goal

pub returns-in_default-first_behind : goal.returns-in_default-first_behind
returns-in_default-first_behind c =
    sym (c.loop-piece.invariant ∙ piece-found c.loop-piece.pattern.now c.in-Some.piece.now c.in-Some.others.now c.loop-piece.line.now None
    c.in-Some.ensures.0 c.in-Some.ensures.1 c.in_default-first_behind.ensures)

pub loop-piece-preserved : goal.loop-piece-preserved
loop-piece-preserved c =
    c.loop-piece.invariant ∙ piece-found c.loop-piece.pattern.now c.in-Some.piece.now c.in-Some.others.now c.loop-piece.line.now (Some c.in-Some-first_behind.rest.now)
    c.in-Some.ensures.0 c.in-Some.ensures.1 c.in-Some-first_behind.ensures

pub returns : goal.returns
returns c = c.ends_with.ensures ∙ after-tail c.loop-piece.pattern.now c.loop-piece.line.now c.in_default.ensures ∙ sym c.loop-piece.invariant
