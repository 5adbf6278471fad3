use Rattle.std.proofs.Common.{refl, sym}
use Rattle.flat_process.proofs.Started.{set-is, set-past}
use Rattle.flat_process.proofs.start.write_start.Goals as goal

pub returns-in-Some : goal.returns-in-Some
returns-in-Some c = set-is c.args.place c.args.value c.args.entries.now.items c.in-Some.entry.now _ c.in-Some.ensures.item.3.0 c.in-Some.ensures.value refl

pub returns-in_default : goal.returns-in_default
returns-in_default c = sym (set-past c.args.place c.args.value c.args.entries.now.items c.in_default.ensures.item.3)
