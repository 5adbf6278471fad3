-- One word more comes first, and in the end the last.
use Rattle.std.proofs.Common.{◌+◌, sym, subst, arith, Some, option_map}
use Rattle.cell_graph.specs.Unfolded.{bit_of}
use Rattle.cdc_model.specs.Nets.{design_of}
use Rattle.cofactor.proofs.Places.{if_ok}
use Rattle.fifo_ways.specs.Steps.{IsStep}
use Rattle.fifo_ways.proofs.Choices.{AreFirst, no-words, one-more, no-more, all-chosen, index_is, last_place}
use Rattle.fifo_ways.proofs.choice.chosen.Goals as goal

pub loop-place-init : goal.loop-place-init
loop-place-init c = λ domains side plain shown is index conds.
    let d = design_of c.args.net.now domains in
    let x = Some (bit_of c.args.net.now.graph c.args.node) in
    (is, conds, subst (λ ws. AreFirst d side x 0 ws x) (sym c.new-words.ensures) (no-words d side x))

pub loop-place-preserved : goal.loop-place-preserved
loop-place-preserved c = λ domains side plain shown is index conds.
    let g = c.args.net.now.graph in
    let d = design_of c.args.net.now domains in
    let x = Some (bit_of c.args.net.now.graph c.args.node) in
    let place = c.loop-place.place in
    let rest = option_map (bit_of g) c.loop-place.rest in
    let so = c.loop-place.invariant domains side plain shown is index conds in
    let next = c.in_ok-step.ensures domains side plain shown so.0 index so.1 in
    let step = subst (IsStep g d side place rest) c.in-Some.is next.0 in
    let further = option_map (bit_of g) c.in-Some.step.rest in (
      step.1,
      next.1,
      subst (λ ws. AreFirst d side x (place + 1) ws further) (sym c.in_ok-push.ensures.pushed)
          (one-more d side x place c.loop-place.words rest further c.in-Some.step.word so.2 step.0),
    )

pub returns-in_default : goal.returns-in_default
returns-in_default c = record {
  exact = λ domains side plain shown is count wide many few conds ws l h.
      let g = c.args.net.now.graph in
      let d = design_of c.args.net.now domains in
      let place = c.loop-place.place in
      let rest = option_map (bit_of g) c.loop-place.rest in
      let index = index_is d side c.args.width c.saturating_sub.result c.saturating_sub.ensures wide c.args.count count many few in
      let so = c.loop-place.invariant domains side plain shown is index conds in
      let none = subst (IsStep g d side place rest) c.in_default.is (c.in_ok-step.ensures domains side plain shown so.0 index so.1).0 in
      let last = last_place d side c.args.width c.saturating_sub.result c.saturating_sub.ensures wide few c.from.result c.shifted_left.result
      c.saturating_sub-last.result
      c.from.ensures c.shifted_left.ensures c.saturating_sub-last.ensures in
      let lt = c.loop-place-test.true in
      no-more d side (Some (bit_of g c.args.node)) place c.loop-place.words rest so.2 none ws (omega arith) h;
  conditions = λ domains side plain shown is count wide many few conds.
      let d = design_of c.args.net.now domains in
      let index = index_is d side c.args.width c.saturating_sub.result c.saturating_sub.ensures wide c.args.count count many few in
      let so = c.loop-place.invariant domains side plain shown is index conds in
      (c.in_ok-step.ensures domains side plain shown so.0 index so.1).1;
}

pub returns : goal.returns
returns c = record {
  exact = if_ok c.with_last.result (λ found ended domains side plain shown is count wide many few conds.
      let g = c.args.net.now.graph in
      let d = design_of c.args.net.now domains in
      let index = index_is d side c.args.width c.saturating_sub.result c.saturating_sub.ensures wide c.args.count count many few in
      let so = c.loop-place.invariant domains side plain shown is index conds in
      let last = last_place d side c.args.width c.saturating_sub.result c.saturating_sub.ensures wide few c.from.result c.shifted_left.result
      c.saturating_sub-last.result
      c.from.ensures c.shifted_left.ensures c.saturating_sub-last.ensures in
      let le = c.loop-place-test.false in
      let end = c.loop-place.auto.place-end in
      all-chosen d side (Some (bit_of g c.args.node)) c.loop-place.place c.loop-place.words (option_map (bit_of g) c.loop-place.rest) so.2
      (omega arith) found (ended domains plain so.0))
      c.with_last.ensures;
  conditions = if_ok c.with_last.result (λ found ended domains side plain shown is count wide many few conds.
      let d = design_of c.args.net.now domains in
      let index = index_is d side c.args.width c.saturating_sub.result c.saturating_sub.ensures wide c.args.count count many few in
      (c.loop-place.invariant domains side plain shown is index conds).1)
      c.with_last.ensures;
}
