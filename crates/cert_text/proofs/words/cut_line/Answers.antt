use Rattle.std.proofs.Common.{arith}
use Rattle.std.proofs.lemmas.Grind.{common_steps}
use Rattle.cert_text.proofs.Cuts.{cut_at, cut_none, not_empty, some_length}
use Rattle.cert_text.proofs.words.cut_line.Goals as goal

pub returns-in-Some-clause-lines : goal.returns-in-Some-clause-lines
returns-in-Some-clause-lines c = λ ne. grind (arith, common_steps, cut_at c.args.text.now c.in-Some.place c.in-Some.ensures.0 c.in-Some.ensures.1 c.in-Some.ensures.2)

pub returns-in-None-clause-lines : goal.returns-in-None-clause-lines
returns-in-None-clause-lines c = λ ne. cut_none c.args.text.now (not_empty c.args.text.now ne) c.in-None.ensures

pub returns-in-None-clause-shorter : goal.returns-in-None-clause-shorter
returns-in-None-clause-shorter c = λ ne. some_length c.args.text.now ne
