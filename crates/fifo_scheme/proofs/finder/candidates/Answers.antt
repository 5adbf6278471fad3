use Rattle.std.proofs.Common.{arith, ap, get_or, List, length, subst, ◌≡◌}
use Rattle.fifo_parts.specs.declared.reads.Read.{Read}
use Rattle.fifo_scheme.specs.Candidates.{Grows, IsReadTo}
use Rattle.fifo_scheme.proofs.Growing.{grows_more}
use Rattle.fifo_scheme.proofs.finder.candidates.Goals as goal

pub loop-read-preserved : goal.loop-read-preserved
loop-read-preserved c = λ h.
    let i = c.args.index.now in
    let r = c.read-item.result in
    let is : r ≡ get_or i.reads c.loop-read.read-index r = cc (c.read-item.is, c.as_slice-read-items.ensures) in
    grows_more i.sides.items (IsReadTo c.args.net.now i) i.reads c.loop-read.read-index r c.new-candidates.result c.loop-read.candidates c.add_read.new.candidates
    (omega (arith, ap (λ (xs : List Read). length xs) c.as_slice-read-items.ensures)) (c.loop-read.invariant h)
    (subst (λ (x : Read). Grows i.sides.items (IsReadTo c.args.net.now i x) c.loop-read.candidates c.add_read.new.candidates) is (c.in_ok-add_read.ensures h))
