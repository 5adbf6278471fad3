use Rattle.std.proofs.Common.{◌∙◌, sym, Some, None}
use Rattle.report.proofs.Patterns.{front-found, matches-same}
use Rattle.report.proofs.pattern.matches.Goals as goal

pub returns-in_default : goal.returns-in_default
returns-in_default c = c.eq.ensures ∙ sym (matches-same c.args.pattern.now c.args.line.now c.in_default.ensures)

pub returns-in-Some-behind : goal.returns-in-Some-behind
returns-in-Some-behind c =
    c.matches_after_run.ensures ∙ sym (front-found c.args.pattern.now c.in-Some.front.now c.in-Some.others.now c.args.line.now (Some c.in-Some-behind.rest.now)
    c.in-Some.ensures.0 c.in-Some.ensures.1 c.in-Some-behind.ensures)

pub returns-in-None : goal.returns-in-None
returns-in-None c =
    sym (front-found c.args.pattern.now c.in-Some.front.now c.in-Some.others.now c.args.line.now None c.in-Some.ensures.0 c.in-Some.ensures.1 c.in-None.ensures)
