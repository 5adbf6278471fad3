-- The test of a guard for empty.
use Rattle.std.proofs.Common.{◌≡◌, ◌↔◌, sym, subst, true, Bool, List, Contains}
use Rattle.cell_graph.specs.declared.net.Net.{Net}
use Rattle.domains.specs.declared.Domains.{Domains}
use Rattle.cdc_model.specs.Nets.{design_of, next_tree}
use Rattle.cdc_model.proofs.Ascending.{from_map, in_map}
use Rattle.fifo_laws.specs.Sides.{Side}
use Rattle.fifo_laws.specs.Tests.{HasEmptyTest, IsEmptyTest}
use Rattle.fifo_nodes.specs.declared.shows.Apart.{Apart}
use Rattle.fifo_nodes.specs.declared.term.Term.{Term}
use Rattle.fifo_nodes.specs.Terms.{AreTerms, AreTermsIn, term_of}
use Rattle.fifo_ways.specs.declared.sought.Guard.{Guard}
use Rattle.fifo_ways.specs.Guards.{guard_terms}
use Rattle.fifo_parts.specs.declared.pair.Pair.{Pair}
use Rattle.fifo_parts.specs.Tellers.{IsPair, IsTestBy}

pub guard_test : (net : Net) (domains : Domains) (p : Pair) (write read : Side) → IsPair net domains p write read → (g : Guard) (found : List Term) (has : Bool) → AreTerms net.graph (guard_terms net.graph g) found
    → (AreTermsIn net.graph found → (has ≡ true) ↔ ((t : Term) × Contains found t × IsTestBy p.read.apart (design_of net domains) (next_tree net) read write (term_of net.graph t)))
    → (has ≡ true) ↔ HasEmptyTest (design_of net domains) (next_tree net) write read (guard_terms net.graph g)
guard_test net domains p write read pair g found has are h =
    let k = subst (λ (a : Apart). (has ≡ true) ↔ ((t : Term) × Contains found t × IsTestBy a (design_of net domains) (next_tree net) read write (term_of net.graph t))) pair.aparts.1 (h are.within) in (
      λ e. let t = k.0 e in (term_of net.graph t.0, are.only (term_of net.graph t.0) (in_map (term_of net.graph) found t.0 t.1), t.2),
      λ t.
          let f = from_map (term_of net.graph) found t.0 (are.all t.0 t.1) in
          k.1 (f.0, f.1, subst (IsEmptyTest (design_of net domains) (next_tree net) write read) (sym f.2) t.2),
    )
