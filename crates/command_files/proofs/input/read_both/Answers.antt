use Rattle.command_files.proofs.ReadInTurn.{first_ends, first_unread, second_ends, second_unread, still_told}
use Rattle.command_files.proofs.input.read_both.Goals as goal

pub returns-in-Err-clause-files : goal.returns-in-Err-clause-files
returns-in-Err-clause-files g c = first_ends _ _ _ _ _ c.in-Err.ensures

pub returns-in-Err-read_text-clause-files : goal.returns-in-Err-read_text-clause-files
returns-in-Err-read_text-clause-files g c = second_ends _ _ _ _ _ _ _ c.in-Ok.ensures c.in-Err-read_text.ensures

pub returns-in-Ok-read_text-clause-content : goal.returns-in-Ok-read_text-clause-content
returns-in-Ok-read_text-clause-content g c = (still_told _ _ _ (c.in-Ok-read_text.ensures.holds c.args.net.now) c.in-Ok.ensures.content, c.in-Ok-read_text.ensures.content)

pub returns-in-Err-clause-unread : goal.returns-in-Err-clause-unread
returns-in-Err-clause-unread g c = first_unread _ _ _ _ _ c.in-Err.ensures

pub returns-in-Err-read_text-clause-unread : goal.returns-in-Err-read_text-clause-unread
returns-in-Err-read_text-clause-unread g c = second_unread _ _ _ _ _ c.in-Err-read_text.ensures
