use Rattle.std.proofs.Common.{◌≡◌, ◌-◌, suc, arith}
use Rattle.run_report.proofs.Digits.{digit-goes}
use Rattle.run_report.proofs.value.add_hex.Goals as goal

pub loop-left-preserved : goal.loop-left-preserved
loop-left-preserved c =
    let one : c.loop-left.left ≡ suc (c.loop-left.left - 1) = omega arith in
    digit-goes c.args.value c.loop-left.left (c.loop-left.left - 1) _ c.loop-left.text c.add_byte.new.self _ one c.loop-left.invariant c.digit_at.ensures c.in_ok-add_byte.ensures
