-- The origin is asked for, or is the zero bit.
use Rattle.std.proofs.Common.{◌≡◌, refl, subst, None}
use Rattle.cofactor.proofs.Places.{if_ok}
use Rattle.fifo_nodes.specs.contracts.search.AskedPartialEq.TheImpl as equality
use Rattle.fifo_nodes.specs.Nodes.{IsOwnOrZero, IsWithin}
use Rattle.fifo_nodes.specs.Terms.{terms_in}
use Rattle.fifo_nodes.proofs.Asking.{within_in, by_origin, same_asked, node_asked}
use Rattle.fifo_nodes.proofs.Searches.{covers_from, covers_same}
use Rattle.fifo_nodes.proofs.search.Search.ask.Goals as goal

pub returns-in-Some : goal.returns-in-Some
returns-in-Some c = if_ok c.add.result
    (λ t h n plain within.
    let g = c.args.net.now.graph in
    let v = c.args.value in
    let is = within_in g n c.args.node within in
    let same = by_origin g c.args.node c.origin_of.result v (c.origin_of.ensures.exact plain.well is) in
    covers_from g n _ _ _ _ c.self.view_is
    (node_asked g n c.args.node c.in-Some.node v equality.ghosts.eq same_asked _ _ h
    (subst (IsOwnOrZero g) c.in-Some.is (c.origin_of.ensures.own plain.well is))
    (subst (IsWithin g n) c.in-Some.is (c.origin_of.ensures.within n plain.well within))
    (subst (λ o. terms_in g o v ≡ terms_in g c.args.node v) c.in-Some.is same) refl))
    c.add.ensures

pub returns-in-None : goal.returns-in-None
returns-in-None c = if_ok c.add_zero.result
    (λ t h n plain within.
    let g = c.args.net.now.graph in
    let v = c.args.value in
    let is = within_in g n c.args.node within in
    let same = by_origin g c.args.node c.origin_of.result v (c.origin_of.ensures.exact plain.well is) in
    covers_same g n (terms_in g None v) (terms_in g c.args.node v) c.args.self.now c.add_zero.new.self
    (subst (λ o. terms_in g o v ≡ terms_in g c.args.node v) c.in-None.is same) (h n c.args.net.now))
    c.add_zero.ensures
