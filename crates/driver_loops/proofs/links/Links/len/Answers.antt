use Rattle.std.proofs.Common.{rules}
use Rattle.driver_loops.proofs.Rows.{length-rows}
use Rattle.driver_loops.proofs.links.Links.len.Goals as goal

pub returns : goal.returns
returns c = let r = length-rows c.self.inside.starts.items c.self.inside.ends.items in search (rules, r)
