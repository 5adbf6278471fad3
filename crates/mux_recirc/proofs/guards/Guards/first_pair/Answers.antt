-- One part more, and in the end none.
use Rattle.std.proofs.Common.{◌∙◌, sym, ap, arith, get_or, slice_get, length, ◌≡◌}
use Rattle.std.proofs.lemmas.Option.{slice_get-get_or}
use Rattle.mux_recirc.specs.declared.parts.Part.{Part}
use Rattle.mux_recirc.specs.Parts.{parts_at}
use Rattle.mux_recirc.proofs.Joining.{none_more, some_pair, no_pair}
use Rattle.mux_recirc.proofs.guards.Guards.first_pair.Goals as goal

abbrev none : Part
none = record { bit = record { sig = 0; at = 0 }; ring = 0 }

pub returns-then-joins : goal.returns-then-joins
returns-then-joins c = λ sorted.
    let list = c.pairs_of-part-items.result.now in
    let i = c.loop-part.part-index in
    let there = ap (λ xs. slice_get xs i) (sym (c.pairs_of-part-items.ensures sorted)) ∙ slice_get-get_or list i none c.loop-part-test.true in
    some_pair c.args.self.now.held.pairs.items c.args.self.now.sides.items c.args.bit c.args.sides sorted i (get_or list i none) there (c.joins.ensures.0 c.if-joins.true) (c.loop-part.invariant sorted)

pub loop-part-preserved : goal.loop-part-preserved
loop-part-preserved c = λ sorted.
    none_more c.args.self.now.held.pairs.items c.args.self.now.sides.items c.args.bit c.args.sides c.loop-part.part-index c.pairs_of-part-items.result.now none c.joins.result
    (c.pairs_of-part-items.ensures sorted) c.loop-part-test.true c.if-joins.false c.joins.ensures (c.loop-part.invariant sorted)

pub returns : goal.returns
returns c = λ sorted.
    no_pair c.args.self.now.held.pairs.items c.args.self.now.sides.items c.args.bit c.args.sides (λ j p l there.
    let all : length c.pairs_of-part-items.result.now ≡ length (parts_at c.args.self.now.held.pairs.items c.args.bit) = ap length (c.pairs_of-part-items.ensures sorted) in
    c.loop-part.invariant sorted j p (let m = c.loop-part-test.false in omega arith) there)
