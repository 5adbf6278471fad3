use Rattle.std.proofs.Common.{[]}
use Rattle.driver_loops.proofs.Fronts.{walk_begun, order_of}
use Rattle.driver_loops.proofs.walk.order.Goals as goal

pub returns : goal.returns
returns c =
    let ls = c.args.links.now in
    let begun = walk_begun ls c.in_ok-walk.walk c.len.result c.len.ensures c.in_ok-walk.ensures.entered c.in_ok-walk.ensures.way c.in_ok-walk.ensures.order in
    let all = c.in_ok-go_all.ensures.walked [] begun in
    order_of ls c.go_all.new.self.entered.items c.args.roots.now c.go_all.new.self.order.items all.done all.reached
