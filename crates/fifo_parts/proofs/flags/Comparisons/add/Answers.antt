-- One term more, and in the end all of the next value.
use Rattle.std.proofs.Common.{◌≡◌, ◌∙◌, sym, subst, arith, inl, inr, ℕ, List, Contains}
use Rattle.std.proofs.lemmas.List.{take_all}
use Rattle.std.proofs.lemmas.Option.{slice_get-get_or}
use Rattle.cell_graph.specs.Tree.{Tree}
use Rattle.cell_graph.specs.Unfolded.{tree_of}
use Rattle.cdc_model.proofs.Ascending.{from_map}
use Rattle.cdc_model.proofs.Found.{net_ascends}
use Rattle.cdc_model.proofs.Justify.{slice_in}
use Rattle.cdc_model.proofs.ReadBits.{place-of}
use Rattle.fifo_terms.specs.Terms as rules
use Rattle.fifo_nodes.specs.declared.term.Term.{Term}
use Rattle.fifo_nodes.specs.Terms.{AreTermsIn, term_of}
use Rattle.fifo_parts.specs.declared.flags.Flag.{Flag}
use Rattle.fifo_parts.specs.Comparisons.{IsKeptBy}
use Rattle.fifo_parts.proofs.Comparing.{still_kept, then_by}
use Rattle.fifo_parts.proofs.Sifted.{so_far_cases}
use Rattle.fifo_parts.proofs.Tests.{has_next, next_in, next_is, plain_net}
use Rattle.fifo_parts.proofs.flags.Comparisons.add.Goals as goal

pub returns-in_default-clause-found : goal.returns-in_default-clause-found
returns-in_default-clause-found c = λ shown reg.
    let net = c.args.shown.net.now in
    absurd (has_next net c.args.shown.table.now shown c.args.shown.domains.now c.args.flag.bit reg
    (sym (c.next_node.ensures (net_ascends net shown.is_net)) ∙ c.in_default.is))

pub loop-term-preserved : goal.loop-term-preserved
loop-term-preserved c =
    let net = c.args.shown.net.now in
    let domains = c.args.shown.domains.now in
    let flag = c.args.flag in
    let said = c.as_slice-term-items.result.now in
    let idx = c.loop-term.term-index in
    let lt = c.loop-term-test.true in
    let mid = c.loop-term.self in
    let new = c.add_term.new.self in
    let grows = c.in_ok-add_term.ensures.kept in
    record {
      grows = then_by (λ (f : Flag). f ≡ flag) c.args.self.now mid new c.loop-term.invariant.grows grows;
      kept = λ shown inside clock on t i. elim (so_far_cases said idx _ lt t i) [
        | inl j ↦ still_kept (λ (f : Flag). f ≡ flag) mid new grows net domains flag clock (term_of net.graph t)
            (c.loop-term.invariant.kept shown inside clock on t j)
        | inr e ↦ subst (λ (x : Term). IsKeptBy net domains new.by_bit new.by_clock flag clock (term_of net.graph x)) e
            (c.in_ok-add_term.ensures.found shown (inside _ (slice_in said idx _ (slice_get-get_or said idx _ lt))) clock on)
      ];
    }

pub returns-clause-found : goal.returns-clause-found
returns-clause-found c = λ shown reg clock on t i.
    let net = c.args.shown.net.now in
    let table = c.args.shown.table.now in
    let domains = c.args.shown.domains.now in
    let flag = c.args.flag in
    let n = c.in-Some.next in
    let next = sym (c.next_node.ensures (net_ascends net shown.is_net)) ∙ c.in-Some.is in
    let are = c.in_ok-said.ensures (plain_net net table shown) shown.shows (next_in net table shown domains flag.bit reg n next) in
    let there = subst (λ (a : ℕ). Contains (rules.terms (tree_of net.graph n.cell) a flag.value) t) (sym (place-of net flag.bit n next))
    (subst (λ (u : Tree). Contains (rules.terms u flag.bit.at flag.value) t) (next_is net table shown domains flag.bit reg n next) i) in
    let k = from_map (term_of net.graph) c.in_ok-said.said t (are.all t there) in
    let items = c.as_slice-term-items.result.now in
    let all = subst (λ (ts : List Term). Contains ts k.0)
    (sym (take_all c.loop-term.term-index items (let l = c.loop-term-test.false in omega arith) ∙ c.as_slice-term-items.ensures)) k.1 in
    subst (λ (x : rules.Term). IsKeptBy net domains c.loop-term.self.by_bit c.loop-term.self.by_clock flag clock x) k.2
    (c.loop-term.invariant.kept shown (subst (AreTermsIn net.graph) (sym c.as_slice-term-items.ensures) are.within) clock on k.0 all)
