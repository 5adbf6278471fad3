-- One blindness more, and in the end none.
use Rattle.std.proofs.Common.{◌∙◌, sym, ap, arith, false, get_or, slice_get, length, ◌≡◌}
use Rattle.std.proofs.lemmas.Option.{slice_get-get_or}
use Rattle.mux_recirc.specs.declared.blind.Blind.{Blind}
use Rattle.mux_recirc.specs.Given.{blind_at}
use Rattle.mux_recirc.proofs.Guarding.{none_more, first_load, load_found, no_load_found}
use Rattle.mux_recirc.proofs.guards.Guards.load_of.Goals as goal

abbrev none : Blind
none = record { crossing = 0; ring = 0; gate = 0; recirculating = false }

pub returns-then-has : goal.returns-then-has
returns-then-has c = λ net domains crossings rings are at.
    let list = c.blind_at-blind-items.result.now in
    let i = c.loop-blind.blind-index in
    let b = get_or list i none in
    let there = ap (λ xs. slice_get xs i) (sym (c.blind_at-blind-items.ensures are.blind_sorted)) ∙ slice_get-get_or list i none c.loop-blind-test.true in
    load_found net domains crossings rings c.args.self.now are c.args.place c.args.crossing at b (first_load net domains crossings rings c.args.self.now are c.args.place c.args.crossing at i b there
    (c.loop-blind.invariant are.blind_sorted are.constant_sorted are.pairs_sorted) ((c.has.ensures are.constant_sorted are.pairs_sorted).0 c.if-has.true))

pub loop-blind-preserved : goal.loop-blind-preserved
loop-blind-preserved c = λ sorted constants pairs.
    none_more c.args.self.now c.args.crossing.from c.args.place c.loop-blind.blind-index c.blind_at-blind-items.result.now none c.has.result (c.blind_at-blind-items.ensures sorted) c.loop-blind-test.true
    c.if-has.false (c.has.ensures constants pairs) (c.loop-blind.invariant sorted constants pairs)

pub returns : goal.returns
returns c = λ net domains crossings rings are at.
    no_load_found net domains crossings rings c.args.self.now are c.args.place c.args.crossing at (λ j b l there.
    let all : length c.blind_at-blind-items.result.now ≡ length (blind_at c.args.self.now.blind.items c.args.place) = ap length (c.blind_at-blind-items.ensures are.blind_sorted) in
    c.loop-blind.invariant are.blind_sorted are.constant_sorted are.pairs_sorted j b (let m = c.loop-blind-test.false in omega arith) there)
