-- By the terms of the guard.
use Rattle.std.proofs.Common.{◌≡◌, ◌↔◌, subst, true, List, Contains}
use Rattle.cofactor.proofs.Places.{if_ok}
use Rattle.cdc_model.specs.Nets.{design_of, next_tree}
use Rattle.fifo_nodes.specs.declared.term.Term.{Term}
use Rattle.fifo_nodes.specs.Terms.{AreTermsIn, term_of}
use Rattle.fifo_parts.specs.Tellers.{IsTestBy}
use Rattle.fifo_scheme.proofs.MetGuards.{guard_test}
use Rattle.fifo_scheme.proofs.MetSides.{plain_shown}
use Rattle.fifo_scheme.proofs.judge.has_test.Goals as goal

pub returns : goal.returns
returns c = if_ok c.has_test.result
    (λ has h shown write read pair is. guard_test c.args.shown.net.now c.args.shown.domains.now c.args.pair.now write read pair c.args.guard c.in_ok-said.said has
    (c.in_ok-said.ensures (plain_shown c.args.shown.net.now c.args.shown.table.now shown) shown.shows is)
    (subst (λ (ts : List Term). AreTermsIn c.args.shown.net.now.graph ts → (has ≡ true) ↔ ((t : Term) × Contains ts t
    × IsTestBy c.args.pair.now.read.apart (design_of c.args.shown.net.now c.args.shown.domains.now) (next_tree c.args.shown.net.now) read write (term_of c.args.shown.net.now.graph t))) c.as_slice.ensures
    (h read write shown pair.read_tells)))
    c.has_test.ensures
