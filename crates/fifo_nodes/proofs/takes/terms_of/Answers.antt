-- One condition more is asked for, and in the end all are.
use Rattle.std.proofs.Common.{sym, subst, false, length, get_or, Some, List, []}
use Rattle.std.proofs.lemmas.List.{take_all}
use Rattle.std.proofs.lemmas.Option.{slice_get-get_or}
use Rattle.cdc_model.proofs.Justify.{slice_in}
use Rattle.fifo_nodes.specs.declared.search.Asked.{Asked}
use Rattle.fifo_nodes.specs.Searches.{Covers, nothing}
use Rattle.fifo_nodes.specs.Takes.{condition_terms}
use Rattle.fifo_nodes.specs.Terms.{AreTerms}
use Rattle.fifo_nodes.proofs.Asking.{in_within}
use Rattle.fifo_nodes.proofs.Choices.{condition_asked}
use Rattle.fifo_nodes.proofs.Searches.{covers_nothing, search_starts}
use Rattle.fifo_nodes.proofs.takes.terms_of.Goals as goal

pub loop-condition-init : goal.loop-condition-init
loop-condition-init c = λ plain within.
    let g = c.args.net.now.graph in
    subst (Covers g (length g.cells) [] nothing) (sym c.new-search.ensures) (covers_nothing g (length g.cells) nothing)

abbrev none : Asked
none = record { node = record { cell = record { 0 = 0 }; at = 0 }; value = false }

pub loop-condition-preserved : goal.loop-condition-preserved
loop-condition-preserved c = λ plain within.
    let g = c.args.net.now.graph in
    let qs = c.args.conditions.now in
    let i = c.loop-condition.condition-index in
    let q = get_or qs i none in
    let lt = c.loop-condition-test.true in
    let there = within q (slice_in qs i q (slice_get-get_or qs i none lt)) in
    condition_asked g (length g.cells) qs i none lt nothing c.loop-condition.search c.ask.new.self
    (c.loop-condition.invariant plain within) (c.in_ok-ask.ensures (length g.cells) plain (in_within g (Some q.node) there))

pub returns : goal.returns
returns c = λ plain shown within.
    let g = c.args.net.now.graph in
    let qs = c.args.conditions.now in
    let ts = condition_terms g qs in
    let s = c.loop-condition.search in
    let covers = subst (λ (xs : List Asked). Covers g (length g.cells) (condition_terms g xs) nothing s)
    (take_all c.loop-condition.condition-index qs c.loop-condition-test.false) (c.loop-condition.invariant plain within) in
    subst (AreTerms g ts) (sym c.into_terms.ensures) (c.in_ok-found_terms.ensures ts plain shown (search_starts g ts (length g.cells) s covers))
