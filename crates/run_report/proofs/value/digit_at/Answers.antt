use Rattle.std.proofs.Common.{sym}
use Rattle.run_report.proofs.Digits.{no-digit}
use Rattle.run_report.proofs.value.digit_at.Goals as goal

pub returns-else-place-lt16 : goal.returns-else-place-lt16
returns-else-place-lt16 c = sym (no-digit c.args.value c.args.place c.ranges.value.fits c.if-place-lt16.false)
