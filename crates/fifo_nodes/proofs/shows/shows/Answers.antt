-- A term that doesn't say so, or all do.
use Rattle.std.proofs.Common.{◌≡◌, ◌∙◌, sym, refl, subst, true, false, [], All}
use Rattle.std.proofs.lemmas.List.{take_all}
use Rattle.std.proofs.lemmas.List.Elements.{All-more, Contains-get_or}
use Rattle.cdc_model.specs.Tables.{ShowsNet}
use Rattle.gray_pointer.specs.Words.{IsIn, IsPlain}
use Rattle.fifo_nodes.specs.Codes.{code_of, nodes_of, apart_of}
use Rattle.fifo_nodes.specs.Terms.{terms_in, AreTerms}
use Rattle.fifo_nodes.proofs.Comparing.{Says, each_said, said_each}
use Rattle.fifo_nodes.proofs.shows.shows.Goals as goal
use Rattle.fifo_nodes.proofs.shows.shows.Goals.{After-as_slice-term-items}

are_terms : (c : After-as_slice-term-items) → IsPlain c.args.net.now.graph → ShowsNet c.args.net.now [] c.args.table.now → IsIn c.args.net.now.graph c.args.node
    → AreTerms c.args.net.now.graph (terms_in c.args.net.now.graph c.args.node c.args.value) c.as_slice-term-items.result.now
are_terms c plain shown inside =
    subst (AreTerms c.args.net.now.graph (terms_in c.args.net.now.graph c.args.node c.args.value)) (sym c.as_slice-term-items.ensures) (c.in_ok-terms.ensures plain shown inside)

pub returns-then-not-branch : goal.returns-then-not-branch
returns-then-not-branch c = λ plain shown code short inside.
    let g = c.args.net.now.graph in
    let are = are_terms (goal.at.returns-then-not-branch c).After-as_slice-term-items plain shown inside in
    let there = Contains-get_or c.as_slice-term-items.result.now c.loop-term.term-index _ c.loop-term-test.true in
    let said = c.in_ok-compares.ensures plain shown code short (are.within _ there) in
    (λ t. cc, λ h. let t : true ≡ false = sym (said.1 (said_each (code_of g c.args.code.now) (nodes_of g c.args.over.now) (apart_of c.args.apart) are h _ there)) ∙ c.if-not-branch.true in cc)

pub loop-term-preserved : goal.loop-term-preserved
loop-term-preserved c = λ plain shown code short inside.
    let g = c.args.net.now.graph in
    let items = c.as_slice-term-items.result.now in
    let are = are_terms (goal.at.loop-term-preserved c).After-as_slice-term-items plain shown inside in
    let there = Contains-get_or items c.loop-term.term-index _ c.loop-term-test.true in
    let said = c.in_ok-compares.ensures plain shown code short (are.within _ there) in
    All-more (Says (code_of g c.args.code.now) (nodes_of g c.args.over.now) (apart_of c.args.apart) g) items c.loop-term.term-index _ c.loop-term-test.true
    (c.loop-term.invariant plain shown code short inside) (said.0 c.if-not-branch.false)

pub returns : goal.returns
returns c = λ plain shown code short inside.
    let g = c.args.net.now.graph in
    let k = code_of g c.args.code.now in
    let over = nodes_of g c.args.over.now in
    let apart = apart_of c.args.apart in
    let all = subst (All (Says k over apart g)) (take_all c.loop-term.term-index c.as_slice-term-items.result.now c.loop-term-test.false) (c.loop-term.invariant plain shown code short inside) in
    (λ t. each_said k over apart (are_terms (goal.at.returns c).After-as_slice-term-items plain shown inside) all, λ h. refl)
