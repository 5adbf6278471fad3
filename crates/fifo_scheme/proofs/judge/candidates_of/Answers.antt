-- Those that read one word more, and in the end all.
use Rattle.std.proofs.Common.{arith}
use Rattle.fifo_scheme.specs.Met.{ReadsAt}
use Rattle.fifo_scheme.proofs.Gathered.{gathered_add, gathered_all}
use Rattle.fifo_scheme.proofs.MetFound.{candidates_end}
use Rattle.fifo_scheme.proofs.judge.candidates_of.Goals as goal

pub loop-word-preserved : goal.loop-word-preserved
loop-word-preserved c = λ meant grays shown is.
    gathered_add (ReadsAt c.args.shown.net.now c.args.shown.domains.now c.args.index.now c.args.pair.now.read.side.now.clock) c.args.words.now c.loop-word.word-index _ c.loop-word.places.items c.add_candidates.new.places.items
    c.loop-word-test.true (c.loop-word.invariant meant grays shown is) (c.in_ok-add_candidates.ensures meant grays shown is)

pub returns : goal.returns
returns c = λ syncs grays write read met.
    candidates_end c.args.shown.net.now c.args.shown.domains.now c.args.shown.table.now syncs grays c.args.index.now c.args.pair.now write read met c.args.words.now c.loop-word.places.items c.into_order.result.items
    (gathered_all (ReadsAt c.args.shown.net.now c.args.shown.domains.now c.args.index.now c.args.pair.now.read.side.now.clock) c.args.words.now c.loop-word.word-index c.loop-word.places.items (let l = c.loop-word-test.false in omega arith)
    (c.loop-word.invariant syncs grays met.shown met.index)) c.into_order.ensures.same c.into_order.ensures.ordered
