use Rattle.flat_process.proofs.Keeping.{set-given, unset-given}
use Rattle.flat_process.proofs.reset.write_given.Goals as goal

pub returns-in-Some : goal.returns-in-Some
returns-in-Some c = set-given c.args.place c.args.one c.args.entries.now.items c.in-Some.entry.now c.in-Some.ensures.item.3.0 c.in-Some.ensures.value

pub returns-in_default : goal.returns-in_default
returns-in_default c = unset-given c.args.place c.args.one c.args.entries.now.items c.in_default.ensures.item.3
