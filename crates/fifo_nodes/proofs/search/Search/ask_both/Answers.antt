-- First the one, then the other.
use Rattle.cofactor.proofs.Places.{if_ok}
use Rattle.fifo_nodes.specs.Terms.{terms_at}
use Rattle.fifo_nodes.proofs.Searches.{covers_then}
use Rattle.fifo_nodes.proofs.search.Search.ask_both.Goals as goal

pub returns : goal.returns
returns c = if_ok c.ask-2.result
    (λ t h n plain first second.
    let g = c.args.net.now.graph in
    covers_then g n (terms_at g c.args.one c.args.value) (terms_at g c.args.another c.args.value) c.args.self.now c.ask.new.self c.ask-2.new.self (c.in_ok-ask.ensures n plain first) (h n plain second))
    c.ask-2.ensures
