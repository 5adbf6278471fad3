-- The word that the terms say is the only one that has to be tried.
use Rattle.std.proofs.Common.{◌≡◌, ◌∙◌, sym, ap, subst, true, false, ◌-◌}
use Rattle.cell_graph.specs.Tree.{number}
use Rattle.fifo_laws.specs.Sides.{Side}
use Rattle.fifo_parts.specs.Tellers.{IsPair, IsShown}
use Rattle.fifo_parts.specs.Words.{IsTaking, IsWordBitOf, word_bit, word_said}
use Rattle.fifo_parts.proofs.WordsOfPairs.{narrow, word_fits, word_found, word_small}
use Rattle.fifo_parts.proofs.words.word_of.Goals as goal
use Rattle.fifo_parts.proofs.words.word_of.Goals.{After-word_said}

said : (c : After-word_said) (write read : Side) → IsShown c.args.shown.net.now c.args.shown.table.now → IsPair c.args.shown.net.now c.args.shown.domains.now c.args.pair.now write read
    → IsTaking c.args.shown.net.now c.args.taking.now → let side = c.args.pair.now.write.side.now in
    c.word_said.result ≡ word_said c.args.shown.net.now.graph side.reg.count side.width c.args.taking.now.taken.under side.under
said c write read shown is takes =
    let side = c.args.pair.now.write.side.now in
    c.word_said.ensures (narrow shown is c.args.taking.now takes) ∙ ap (λ xs. word_said c.args.shown.net.now.graph side.reg.count side.width xs side.under) c.as_slice.ensures

pub returns-in_default : goal.returns-in_default
returns-in_default c = λ write read shown is takes h.
    let told = said (goal.at.returns-in_default c).After-word_said write read shown is takes in
    let both = sym c.in_default.is ∙ told ∙ word_found shown is c.args.taking.now takes h.0 h.1 h.3 in
    cc

pub returns-then-is_word_bit : goal.returns-then-is_word_bit
returns-then-is_word_bit c = λ write read shown is takes.
    let told = said (goal.at.returns-then-is_word_bit c).After-word_said write read shown is takes in
    let small = word_small shown is c.args.taking.now takes c.in-Some.word (sym told ∙ c.in-Some.is) in
    (small, (c.is_word_bit.ensures write read shown is takes small).0 c.if-is_word_bit.true)

pub returns-else-is_word_bit : goal.returns-else-is_word_bit
returns-else-is_word_bit c = λ write read shown is takes h.
    let net = c.args.shown.net.now in
    let side = c.args.pair.now.write.side.now in
    let t = c.args.taking.now in
    let word = c.in-Some.word in
    let there = sym (said (goal.at.returns-else-is_word_bit c).After-word_said write read shown is takes) ∙ c.in-Some.is in
    let small = word_small shown is t takes word there in
    let both = sym there ∙ word_found shown is t takes h.0 h.1 h.3 in
    let same : word ≡ number (word_bit net.graph side.reg.count side.width t.taken.under side.under) (side.width - 1) = cc in
    let yes = (c.is_word_bit.ensures write read shown is takes small).1
    (subst (λ k. IsWordBitOf net c.args.shown.domains.now write read k t) (sym same) (word_fits shown is t takes h.0 h.1 h.3)) in
    let e : true ≡ false = sym yes ∙ c.if-is_word_bit.false in
    cc
