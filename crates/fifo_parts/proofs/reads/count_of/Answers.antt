-- The count that is kept, or that the terms of the condition say.
use Rattle.std.proofs.Common.{◌∙◌, sym, subst, ap, true}
use Rattle.std.specs.HashMap.{get}
use Rattle.std.specs.Option.{option_copied}
use Rattle.cell_graph.specs.Met.{same_id}
use Rattle.cell_graph.specs.Unfolded.{tree_of}
use Rattle.cdc_model.specs.Nets.{bit_count}
use Rattle.fifo_terms.specs.Terms.{terms}
use Rattle.gray_pointer.specs.Words.{IsPlain}
use Rattle.fifo_parts.specs.Words.{SayZero}
use Rattle.fifo_parts.proofs.ReadCells.{count_kept, say_zero}
use Rattle.fifo_parts.proofs.reads.count_of.Goals as goal

pub returns-in-Some-clause-count : goal.returns-in-Some-clause-count
returns-in-Some-clause-count c = λ shown inside are. are c.args.cond c.in-Some.count.now (sym c.get.ensures.value ∙ ap option_copied c.in-Some.is)

pub returns-in-Ok-clause-count : goal.returns-in-Ok-clause-count
returns-in-Ok-clause-count c = λ shown inside are sig zero.
    let g = c.args.net.now.graph in
    let plain : IsPlain g = record { well = shown.is_net.graph; shared = shown.is_shared } in
    c.count_at_zero-count.ensures sig (subst (SayZero g sig) (sym c.as_slice.ensures)
    (say_zero g plain sig (bit_count g.signals sig) (terms (tree_of g c.args.cond) 0 true) c.in_ok-said.said
    (c.in_ok-said.ensures plain shown.shows inside) zero))

pub returns-in-Ok-clause-counts : goal.returns-in-Ok-clause-counts
returns-in-Ok-clause-counts c = λ shown inside are k o at.
    let g = c.args.net.now.graph in
    let plain : IsPlain g = record { well = shown.is_net.graph; shared = shown.is_shared } in
    count_kept c.args.net.now c.args.cond k c.count_at_zero-count.result o (get same_id c.args.counts.now k) (get same_id c.insert.new.self k)
    (c.in-Ok.ensures.updates.0 k) at
    (λ sig zero. c.count_at_zero-count.ensures sig (subst (SayZero g sig) (sym c.as_slice.ensures)
    (say_zero g plain sig (bit_count g.signals sig) (terms (tree_of g c.args.cond) 0 true) c.in_ok-said.said
    (c.in_ok-said.ensures plain shown.shows inside) zero)))
    (are k o)
