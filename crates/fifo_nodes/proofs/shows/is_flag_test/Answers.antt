-- A term that is a test, or none is.
use Rattle.std.proofs.Common.{◌≡◌, ◌∙◌, sym, refl, subst, true, false, [], All}
use Rattle.std.proofs.lemmas.List.{take_all}
use Rattle.std.proofs.lemmas.List.Elements.{All-more, Contains-get_or}
use Rattle.cell_graph.specs.Unfolded.{IsNodeOf}
use Rattle.cdc_model.specs.Tables.{ShowsNet}
use Rattle.gray_pointer.specs.Words.{IsPlain}
use Rattle.fifo_nodes.specs.Codes.{code_of, nodes_of, apart_of}
use Rattle.fifo_nodes.specs.Terms.{terms_at, AreTerms}
use Rattle.fifo_nodes.proofs.Comparing.{IsNoTest, some_test, no_test}
use Rattle.fifo_nodes.proofs.shows.is_flag_test.Goals as goal
use Rattle.fifo_nodes.proofs.shows.is_flag_test.Goals.{After-as_slice-term-items}

are_terms : (c : After-as_slice-term-items) → IsPlain c.args.net.now.graph → ShowsNet c.args.net.now [] c.args.table.now → IsNodeOf c.args.net.now.graph c.args.next
    → AreTerms c.args.net.now.graph (terms_at c.args.net.now.graph c.args.next c.args.value) c.as_slice-term-items.result.now
are_terms c plain shown inside =
    subst (AreTerms c.args.net.now.graph (terms_at c.args.net.now.graph c.args.next c.args.value)) (sym c.as_slice-term-items.ensures) (c.in_ok-terms.ensures plain shown inside)

pub returns-then-branch : goal.returns-then-branch
returns-then-branch c = λ plain shown code short inside.
    let g = c.args.net.now.graph in
    let are = are_terms (goal.at.returns-then-branch c).After-as_slice-term-items plain shown inside in
    let there = Contains-get_or c.as_slice-term-items.result.now c.loop-term.term-index _ c.loop-term-test.true in
    let test = c.in_ok-is_test.ensures plain shown code short (are.within _ there) in
    (λ t. some_test (code_of g c.args.code.now) (nodes_of g c.args.over.now) (apart_of c.args.apart) are _ there (test.0 c.if-branch.true), λ h. refl)

pub loop-term-preserved : goal.loop-term-preserved
loop-term-preserved c = λ plain shown code short inside.
    let g = c.args.net.now.graph in
    let items = c.as_slice-term-items.result.now in
    let are = are_terms (goal.at.loop-term-preserved c).After-as_slice-term-items plain shown inside in
    let there = Contains-get_or items c.loop-term.term-index _ c.loop-term-test.true in
    let test = c.in_ok-is_test.ensures plain shown code short (are.within _ there) in
    All-more (IsNoTest (code_of g c.args.code.now) (nodes_of g c.args.over.now) (apart_of c.args.apart) g) items c.loop-term.term-index _ c.loop-term-test.true
    (c.loop-term.invariant plain shown code short inside) (λ h. let t : true ≡ false = sym (test.1 h) ∙ c.if-branch.false in cc)

pub returns : goal.returns
returns c = λ plain shown code short inside.
    let g = c.args.net.now.graph in
    let k = code_of g c.args.code.now in
    let over = nodes_of g c.args.over.now in
    let apart = apart_of c.args.apart in
    let none = subst (All (IsNoTest k over apart g)) (take_all c.loop-term.term-index c.as_slice-term-items.result.now c.loop-term-test.false) (c.loop-term.invariant plain shown code short inside) in
    (λ t. cc, λ h. absurd (no_test k over apart (are_terms (goal.at.returns c).After-as_slice-term-items plain shown inside) none h))
