-- The first roots' part stays in front when the others are walked.
use Rattle.std.proofs.Common.{◌≡◌, [], ◌++◌, length, rules}
use Rattle.driver_loops.proofs.Fronts.{walk_begun, order_of, front_of}
use Rattle.driver_loops.proofs.walk.front_order.Goals as goal

pub returns-clause-order : goal.returns-clause-order
returns-clause-order c =
    let ls = c.args.links.now in
    let begun = walk_begun ls c.in_ok-walk.walk c.len.result c.len.ensures c.in_ok-walk.ensures.entered c.in_ok-walk.ensures.way c.in_ok-walk.ensures.order in
    let first = c.in_ok-go_all.ensures.walked [] begun in
    let all = c.in_ok-go_all-2.ensures.walked c.args.first.now first in
    order_of ls c.go_all-2.new.self.entered.items (c.args.first.now ++ c.args.others.now) c.go_all-2.new.self.order.items all.done all.reached

pub returns-clause-front : goal.returns-clause-front
returns-clause-front c =
    let ls = c.args.links.now in
    let begun = walk_begun ls c.in_ok-walk.walk c.len.result c.len.ensures c.in_ok-walk.ensures.entered c.in_ok-walk.ensures.way c.in_ok-walk.ensures.order in
    let first = c.in_ok-go_all.ensures.walked [] begun in
    let longer = c.in_ok-go_all-2.ensures.longer c.args.first.now first in
    let count : c.len-count.result ≡ length c.go_all.new.self.order.items = search rules in
    front_of ls c.args.first.now c.go_all.new.self.order.items longer.0 c.go_all-2.new.self.order.items first.reached longer.1 c.len-count.result count
