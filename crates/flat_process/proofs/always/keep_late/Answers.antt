use Rattle.std.proofs.Common.{sym, ◌∙◌}
use Rattle.flat_process.proofs.Ended.{late-kept, late-passed}
use Rattle.flat_process.proofs.always.keep_late.Goals as goal

pub returns-then-is_first_late : goal.returns-then-is_first_late
returns-then-is_first_late c = λ pins e ts h noted. late-kept pins c.args.design.now e h c.args.place ts c.args.faults noted (sym c.is_first_late.ensures ∙ c.if-is_first_late.true)

pub returns-else-is_first_late : goal.returns-else-is_first_late
returns-else-is_first_late c = λ pins e ts h noted. late-passed pins c.args.design.now e h c.args.place ts c.args.faults noted (sym c.is_first_late.ensures ∙ c.if-is_first_late.false)
