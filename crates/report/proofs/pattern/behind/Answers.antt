use Rattle.report.proofs.Patterns.{strip-gives}
use Rattle.report.proofs.pattern.behind.Goals as goal

pub returns : goal.returns
returns c = strip-gives c.strip_prefix.result c.args.front.now c.args.line.now c.strip_prefix.ensures.cases
