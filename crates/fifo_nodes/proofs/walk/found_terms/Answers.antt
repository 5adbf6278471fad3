-- A node more is looked at, or none is left.
use Rattle.std.proofs.Common.{subst}
use Rattle.fifo_nodes.specs.Searches.{IsTake}
use Rattle.fifo_nodes.proofs.Searches.{taken_met, search_goes_on, search_ends}
use Rattle.fifo_nodes.proofs.walk.found_terms.Goals as goal

pub loop-init : goal.loop-init
loop-init c = λ ts plain shown so. so

pub returns-in_default : goal.returns-in_default
returns-in_default c = λ ts plain shown so.
    let g = c.args.net.now.graph in
    let k = subst (λ o. IsTake c.loop.search c.take.new.self o) c.in_default.is c.take.ensures in
    search_ends g ts c.loop.search (c.loop.invariant ts plain shown so) k.left c.take.new.self k.terms

pub loop-preserved : goal.loop-preserved
loop-preserved c = λ ts plain shown so.
    let g = c.args.net.now.graph in
    let here = c.loop.invariant ts plain shown so in
    let k = subst (λ o. IsTake c.loop.search c.take.new.self o) c.in-Some.is c.take.ensures in
    search_goes_on g ts c.loop.search c.take.new.self c.look.new.self c.in-Some.asked here k
    (c.in_ok-look.ensures plain shown (here.own c.in-Some.asked (taken_met g ts c.loop.search c.take.new.self c.in-Some.asked here k)))
