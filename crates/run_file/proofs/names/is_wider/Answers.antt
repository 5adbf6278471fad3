use Rattle.run_file.proofs.Places.{wide, never-wider}
use Rattle.run_file.proofs.names.is_wider.Goals as goal

pub returns-then-width-lt64 : goal.returns-then-width-lt64
returns-then-width-lt64 c = wide c.args.value c.args.width

pub returns-else-width-lt64 : goal.returns-else-width-lt64
returns-else-width-lt64 c = never-wider c.args.value c.args.width c.ranges.value.fits c.if-width-lt64.false
