-- A sum, a choice more, or neither.
use Rattle.std.proofs.Common.{refl, subst, arith, length, Some}
use Rattle.cell_graph.specs.Feeds.{node}
use Rattle.cell_graph.specs.Unfolded.{IsNodeOf}
use Rattle.gray_pointer.specs.Words.{word_of}
use Rattle.fifo_nodes.specs.Counts.{IsStep, IsTurn}
use Rattle.fifo_nodes.proofs.Asking.{in_within}
use Rattle.fifo_nodes.proofs.Counting.{count_begins, count_goes_on, count_ends, count_fails}
use Rattle.fifo_nodes.proofs.counts.follow.Goals as goal

pub loop-init : goal.loop-init
loop-init c = λ plain shown r.
    let g = c.args.net.now.graph in
    let w = c.args.register.now.width in
    count_begins g c.args.register.now.sig w r.wide (word_of g c.args.register.now.next w) c.args.register.now.next c.args.search.now refl r.next

pub returns-in-Some : goal.returns-in-Some
returns-in-Some c = λ plain shown r.
    let g = c.args.net.now.graph in
    let b = c.args.register.now.sig in
    let w = c.args.register.now.width in
    let so = c.loop.invariant plain shown r in
    let is = subst (IsStep g b w (word_of g c.loop.word w)) c.in-Some.is (c.step_of.ensures plain shown r so.has) in
    let low : IsNodeOf g (node c.in-Some.step 0) = (let has = is.2 in let one = has.1 in let wide = has.2 in (has.0, omega arith)) in
    count_ends g b w r.wide (word_of g c.args.register.now.next w) c.loop.word c.in-Some.step c.args.search.now c.loop.search c.ask.new.self so is
    (c.in_ok-ask.ensures (length g.cells) plain (in_within g (Some (node c.in-Some.step 0)) low))

pub returns-in_default-turn_of : goal.returns-in_default-turn_of
returns-in_default-turn_of c = λ plain shown r.
    let g = c.args.net.now.graph in
    let b = c.args.register.now.sig in
    let w = c.args.register.now.width in
    let so = c.loop.invariant plain shown r in
    let no_step = subst (IsStep g b w (word_of g c.loop.word w)) c.in_default.is (c.step_of.ensures plain shown r so.has) in
    let no_turn = subst (IsTurn g b w (word_of g c.loop.word w)) c.in_default-turn_of.is (c.turn_of.ensures plain r so.has) in
    count_fails g b w r.wide (word_of g c.args.register.now.next w) c.loop.word c.args.search.now c.loop.search c.loop.search so no_step no_turn

pub loop-preserved : goal.loop-preserved
loop-preserved c = λ plain shown r.
    let g = c.args.net.now.graph in
    let b = c.args.register.now.sig in
    let w = c.args.register.now.width in
    let so = c.loop.invariant plain shown r in
    let is = subst (IsTurn g b w (word_of g c.loop.word w)) c.in-Some-turn_of.is (c.turn_of.ensures plain r so.has) in
    count_goes_on g b w r.wide (word_of g c.args.register.now.next w) c.loop.word c.in-Some-turn_of.turn c.args.search.now c.loop.search c.ask-in-loop.new.self so is
    (c.in_ok-ask-2.ensures (length g.cells) plain (in_within g c.in-Some-turn_of.turn.cond is.3))
