use Rattle.std.proofs.Common.{inr}
use Rattle.command_files.proofs.ReadInTurn.{first_unread, second_unread, third_unread, first_of_three, second_of_three, third_of_three, all_read, netlist_length, constraints_length, record_length, still_told}
use Rattle.command_files.proofs.input.read_three.Goals as goal

pub returns-in-Err-clause-files : goal.returns-in-Err-clause-files
returns-in-Err-clause-files g c = first_of_three _ _ _ _ _ _ c.in-Err.ensures

pub returns-in-Err-read_text-clause-files : goal.returns-in-Err-read_text-clause-files
returns-in-Err-read_text-clause-files g c = second_of_three _ _ _ _ _ _ _ _ c.in-Ok.ensures c.in-Err-read_text.ensures

pub returns-in-Err-read_text-2-clause-files : goal.returns-in-Err-read_text-2-clause-files
returns-in-Err-read_text-2-clause-files g c = third_of_three _ _ _ _ _ _ _ _ _ _ c.in-Ok.ensures c.in-Ok-read_text.ensures c.in-Err-read_text-2.ensures

pub returns-in-Ok-read_text-2-clause-files : goal.returns-in-Ok-read_text-2-clause-files
returns-in-Ok-read_text-2-clause-files g c = all_read _ _ _ _ _ _ _ _ _ _ _ c.in-Ok.ensures c.in-Ok-read_text.ensures c.in-Ok-read_text-2.ensures

pub returns-in-Err-clause-of_length : goal.returns-in-Err-clause-of_length
returns-in-Err-clause-of_length g c = netlist_length _ _ _ _ _ c.in-Err.ensures

pub returns-in-Err-read_text-clause-of_length : goal.returns-in-Err-read_text-clause-of_length
returns-in-Err-read_text-clause-of_length g c = constraints_length _ _ _ _ _ c.in-Err-read_text.ensures

pub returns-in-Err-read_text-2-clause-of_length : goal.returns-in-Err-read_text-2-clause-of_length
returns-in-Err-read_text-2-clause-of_length g c = record_length _ _ _ _ c.in-Err-read_text-2.ensures

pub returns-in-Ok-read_text-2-clause-content : goal.returns-in-Ok-read_text-2-clause-content
returns-in-Ok-read_text-2-clause-content g c = (
  still_told _ _ _ (c.in-Ok-read_text-2.ensures.holds c.args.net.now) (still_told _ _ _ (c.in-Ok-read_text.ensures.holds c.args.net.now) c.in-Ok.ensures.content),
  still_told _ _ _ (c.in-Ok-read_text-2.ensures.holds c.args.con.now) c.in-Ok-read_text.ensures.content,
  c.in-Ok-read_text-2.ensures.content,
)

pub returns-in-Err-clause-unread : goal.returns-in-Err-clause-unread
returns-in-Err-clause-unread g c = inr (first_unread _ _ _ _ _ c.in-Err.ensures)

pub returns-in-Err-read_text-clause-unread : goal.returns-in-Err-read_text-clause-unread
returns-in-Err-read_text-clause-unread g c = inr (second_unread _ _ _ _ _ c.in-Err-read_text.ensures)

pub returns-in-Err-read_text-2-clause-unread : goal.returns-in-Err-read_text-2-clause-unread
returns-in-Err-read_text-2-clause-unread g c = third_unread _ _ _ _ _ _ c.in-Err-read_text-2.ensures
