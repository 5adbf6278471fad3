use Rattle.std.proofs.Common.{map, string_bytes, refl}
use Rattle.command_line.specs.Cli.{asked_of}
use Rattle.audit_top.proofs.Answered.{answered_usage, asks_by}
use Rattle.audit_top.proofs.top.answer.Goals as goal

pub returns-in-Ok-clause-asks : goal.returns-in-Ok-clause-asks
returns-in-Ok-clause-asks g c = asks_by (map string_bytes c.args.words.now) (asked_of c.in-Ok.request) _ _ c.in-Ok.ensures.accepted c.answer_request.ensures.asks

pub returns-in-Ok-clause-answered : goal.returns-in-Ok-clause-answered
returns-in-Ok-clause-answered g c = c.answer_request.ensures.answered (map string_bytes c.args.words.now) c.in-Ok.ensures.accepted

pub returns-in-Err-Words-clause-answered : goal.returns-in-Err-Words-clause-answered
returns-in-Err-Words-clause-answered g c =
    answered_usage _ _ _ ((rw c.in-Err-Words.field-0-is at c.in-Err-Words.ensures.refused) refl) _ c.usage.ensures
