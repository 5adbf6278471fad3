-- The node is known, or the search goes on by what its terms are made of.
use Rattle.std.proofs.Common.{◌∙◌, sym, []}
use Rattle.cofactor.proofs.Places.{if_ok}
use Rattle.fifo_nodes.specs.Searches.{asked_terms}
use Rattle.fifo_nodes.proofs.Looking.{known_terms, goes_on}
use Rattle.fifo_nodes.proofs.Searches.{covers_nothing, covers_same}
use Rattle.fifo_nodes.proofs.search.Search.look.Goals as goal

pub returns-then-is_known : goal.returns-then-is_known
returns-then-is_known c = λ plain shown own.
    let g = c.args.net.now.graph in
    let n = c.args.asked.node.cell.0 in
    let e = (c.is_known.ensures c.args.net.now shown own.0).0 c.if-is_known.true in
    covers_same g n [] (asked_terms g c.args.asked) c.args.self.now c.args.self.now (sym (known_terms g plain.well c.args.asked own e)) (covers_nothing g n c.args.self.now)

pub returns-in-Of : goal.returns-in-Of
returns-in-Of c = if_ok c.ask.result
    (λ t h plain shown own.
    goes_on c.args.net.now.graph plain.well c.args.asked own _ c.args.self.now c.ask.new.self
    c.is_known.result (c.is_known.ensures c.args.net.now shown own.0) c.if-is_known.false
    (sym c.in-Of.is ∙ c.made_of.ensures) (λ m. h c.args.asked.node.cell.0 plain m))
    c.ask.ensures

pub returns-in-Both : goal.returns-in-Both
returns-in-Both c = if_ok c.ask_both.result
    (λ t h plain shown own.
    goes_on c.args.net.now.graph plain.well c.args.asked own _ c.args.self.now c.ask_both.new.self
    c.is_known.result (c.is_known.ensures c.args.net.now shown own.0) c.if-is_known.false
    (sym c.in-Both.is ∙ c.made_of.ensures) (λ m. h c.args.asked.node.cell.0 plain m.0 m.1))
    c.ask_both.ensures

pub returns-in-Each : goal.returns-in-Each
returns-in-Each c = if_ok c.ask_each.result
    (λ t h plain shown own.
    goes_on c.args.net.now.graph plain.well c.args.asked own _ c.args.self.now c.ask_each.new.self
    c.is_known.result (c.is_known.ensures c.args.net.now shown own.0) c.if-is_known.false
    (sym c.in-Each.is ∙ c.made_of.ensures) (λ m. h c.args.asked.node.cell.0 plain m))
    c.ask_each.ensures

pub returns-in-Unequal : goal.returns-in-Unequal
returns-in-Unequal c = if_ok c.ask_unequal.result
    (λ t h plain shown own.
    goes_on c.args.net.now.graph plain.well c.args.asked own _ c.args.self.now c.ask_unequal.new.self
    c.is_known.result (c.is_known.ensures c.args.net.now shown own.0) c.if-is_known.false
    (sym c.in-Unequal.is ∙ c.made_of.ensures) (λ m. h c.args.asked.node.cell.0 plain shown m.0 m.1 m.2))
    c.ask_unequal.ensures

pub returns-in-Pairs : goal.returns-in-Pairs
returns-in-Pairs c = if_ok c.ask_pairs.result
    (λ t h plain shown own.
    goes_on c.args.net.now.graph plain.well c.args.asked own _ c.args.self.now c.ask_pairs.new.self
    c.is_known.result (c.is_known.ensures c.args.net.now shown own.0) c.if-is_known.false
    (sym c.in-Pairs.is ∙ c.made_of.ensures) (λ m. h c.args.asked.node.cell.0 plain shown m))
    c.ask_pairs.ensures

pub returns-in-Itself : goal.returns-in-Itself
returns-in-Itself c = if_ok c.add.result
    (λ t h plain shown own.
    goes_on c.args.net.now.graph plain.well c.args.asked own _ c.args.self.now c.add.new.self
    c.is_known.result (c.is_known.ensures c.args.net.now shown own.0) c.if-is_known.false
    (sym c.in-Itself.is ∙ c.made_of.ensures) (λ m. h c.args.asked.node.cell.0 c.args.net.now own.0))
    c.add.ensures
