-- The term is that the node has the value.
use Rattle.std.proofs.Common.{◌≡◌, ◌↔◌, sym, subst, true}
use Rattle.fifo_nodes.specs.declared.term.Term.{Term}
use Rattle.fifo_nodes.specs.Terms.{IsTermIn, term_of}
use Rattle.fifo_parts.specs.Tellers.{SaysFlag}
use Rattle.fifo_parts.proofs.pair.Teller.has_flag.Goals as goal

pub returns-in-Is : goal.returns-in-Is
returns-in-Is c = λ plain up inside.
    let g = c.args.net.now.graph in
    subst (λ (t : Term). (c.has_flag_of.result ≡ true) ↔ SaysFlag g c.args.self.now.flags (term_of g t)) (sym c.in-Is.is)
    (c.has_flag_of.ensures plain up (subst (IsTermIn g) c.in-Is.is inside))
