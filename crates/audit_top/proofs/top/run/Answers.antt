use Rattle.audit_top.proofs.Finished.{run_done, run_unwritten, run_out_of_memory}
use Rattle.audit_top.proofs.top.run.Goals as goal

pub returns-in-Ok-write_lines : goal.returns-in-Ok-write_lines
returns-in-Ok-write_lines g c =
    run_done _ _ _ _ _ _ _ _ c.answer.ensures.asks c.in-Ok.ensures.answered c.as_slice.ensures c.in-Ok-write_lines.ensures.added

pub returns-in-Err-Failed : goal.returns-in-Err-Failed
returns-in-Err-Failed g c =
    run_unwritten _ _ _ _ _ _ _ _ c.answer.ensures.asks c.in-Ok.ensures.answered c.as_slice.ensures
    (c.write_lines.ensures.failed (rw c.in-Err-Failed.field-0-is at c.in-Err-Failed.is)) c.in-Err-Failed.ensures.front

pub returns : goal.returns
returns g c =
    run_out_of_memory _ _ _ _ _ _ _ _ c.answer.ensures.asks c.in-Ok.ensures.answered c.as_slice.ensures c.in-Err-Memory.ensures.front
