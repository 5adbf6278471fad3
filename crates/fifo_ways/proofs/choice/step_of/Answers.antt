-- The branches, the word and the place are those of a step, or there is none.
use Rattle.std.proofs.Common.{option_map}
use Rattle.cell_graph.specs.Unfolded.{bit_of}
use Rattle.cdc_model.specs.Nets.{design_of}
use Rattle.fifo_ways.proofs.Steps.{other_word, other_place, step_found}
use Rattle.fifo_ways.proofs.choice.step_of.Goals as goal

pub returns-in_default-signal_bit : goal.returns-in_default-signal_bit
returns-in_default-signal_bit c = λ domains side plain shown is index conds.
    let g = c.args.net.now.graph in
    let are = c.in-Some.ensures plain is in (
      other_word g (design_of c.args.net.now domains) side c.args.place (option_map (bit_of g) c.args.node) c.in-Some.branches are
          (c.in_default-signal_bit.ensures domains plain are.3),
      conds,
    )

pub returns-then-not-branch : goal.returns-then-not-branch
returns-then-not-branch c = λ domains side plain shown is index conds.
    let g = c.args.net.now.graph in
    let are = c.in-Some.ensures plain is in
    let so = c.in_ok-is_condition.ensures domains side plain shown are.2 are.1 index conds in (
      other_place g (design_of c.args.net.now domains) side c.args.place (option_map (bit_of g) c.args.node) c.in-Some.branches are
          (λ h. let t = so.0.1 h in let f = c.if-not-branch.true in cc),
      so.1,
    )

pub returns : goal.returns
returns c = λ domains side plain shown is index conds.
    let g = c.args.net.now.graph in
    let are = c.in-Some.ensures plain is in
    let so = c.in_ok-is_condition.ensures domains side plain shown are.2 are.1 index conds in (
      step_found g (design_of c.args.net.now domains) side c.args.place (option_map (bit_of g) c.args.node) c.in-Some.branches are
          c.in-Some-signal_bit.word
          (c.in-Some-signal_bit.ensures domains plain are.3) (so.0.0 c.if-not-branch.false),
      so.1,
    )
