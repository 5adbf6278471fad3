use Rattle.flat_targets.proofs.Aimed.{ok-then, along, signal-constant, signal-variable}
use Rattle.flat_targets.proofs.target.bit_target.Goals as goal

pub returns-then-index : goal.returns-then-index
returns-then-index c = λ l t u h fit i is sound.
    ok-then c.bit_at.result _ _
    (λ r p. along _ _ (signal-constant c.args.look.now l h fit u c.args.name.now c.args.sig c.bounds.result c.bounds.ensures t c.args.index is sound c.if-index.true c.offset_in-at.result c.offset_in-at.ensures) r _ _ p)
    (c.bit_at.ensures l u)

pub returns : goal.returns
returns c = λ l t u h fit i is sound.
    signal-variable c.args.look.now l h u c.args.name.now c.args.sig c.bounds-2.result c.bounds-2.ensures t c.args.index is sound c.if-index.false c.width.result c.width.ensures c.args.faults.now c.note_miss.new.faults c.in_ok-note_miss.ensures
