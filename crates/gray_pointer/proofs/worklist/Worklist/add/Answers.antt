-- The item is new, or it was met before.
use Rattle.std.proofs.Common.{rules}
use Rattle.std.specs.HashSet.{keys}
use Rattle.gray_pointer.proofs.Adding.{adds_new, adds_old}
use Rattle.gray_pointer.proofs.worklist.Worklist.add.Goals as goal

pub returns-in_ok-map_err-2 : goal.returns-in_ok-map_err-2
returns-in_ok-map_err-2 g c = adds_new g.T.PartialEq.eq c.args.item (keys c.args.self.now.met) (keys c.insert.new.self) c.args.self.now.left.items c.push.new.self.items (search rules) (search rules) (search rules)

pub returns-else-branch : goal.returns-else-branch
returns-else-branch g c = adds_old g.T.PartialEq.eq c.args.item (keys c.args.self.now.met) (keys c.insert.new.self) c.args.self.now.left.items (search rules) (search rules)
