use Rattle.std.proofs.Common.{true, false, rules}
use Rattle.verilog_reading.specs.SourceTree.{decl_of}
use Rattle.flat_declarations.proofs.Shown.{again-is}
use Rattle.flat_declarations.proofs.declare.declared_before.Goals as goal

pub returns-then-may_be_again : goal.returns-then-may_be_again
returns-then-may_be_again c = λ l shows may. again-is c.args.look.now l shows (decl_of c.args.decl.now) c.in-Some-Signal.sig true may (search rules) (search rules) (search rules) (search rules)

pub returns-else-may_be_again : goal.returns-else-may_be_again
returns-else-may_be_again c = λ l shows may. again-is c.args.look.now l shows (decl_of c.args.decl.now) c.in-Some-Signal.sig false may (search rules) (search rules) (search rules) (search rules)
