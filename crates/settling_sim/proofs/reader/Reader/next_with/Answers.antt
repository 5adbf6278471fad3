use Rattle.std.proofs.Common.{◌≡◌, ◌∙◌, ap, sym, subst, rules, arith, List, [], ℕ, length}
use Rattle.std.proofs.lemmas.Grind.{common_steps}
use Rattle.cell_graph.specs.Values.{AreWordsOf, values_of}
use Rattle.settling_sim.specs.Reader.{next_in, next_with}
use Rattle.settling_sim.specs.Words.{flip_in}
use Rattle.settling_sim.proofs.Values.{next-plain, next-flipped, flip-words, no-bits}
use Rattle.settling_sim.proofs.reader.Reader.next_with.Goals as goal

pub returns-then-is_empty-clause-value : goal.returns-then-is_empty-clause-value
returns-then-is_empty-clause-value c = λ runs room are plain within register.
    let none : c.args.flips.now ≡ [] = no-bits c.args.flips.now (sym c.is_empty.ensures ∙ c.if-is_empty.true) in
    c.next_value.ensures runs.ascending
    ∙ ap (λ (vs : List ℕ). next_in vs c.args.net.now.regs c.args.bit) plain
    ∙ next-plain c.args.net.now c.args.words.now c.args.bit runs register
    ∙ ap (λ bs. next_with c.args.net.now c.args.words.now bs c.args.bit) (sym none)

pub returns-clause-value : goal.returns-clause-value
returns-clause-value c = λ runs room are plain within register.
    let entered : c.deref_mut.result.now ≡ c.args.self.now.flipped.items = search rules in
    let flips : c.flip.new.flipped ≡ flip_in c.args.words.now c.args.words.now c.args.flips.now = c.flip.ensures.flipped (ap length entered ∙ room.words ∙ sym are.counted) in
    let passed : c.as_slice.result.now ≡ c.flip.new.flipped = grind (arith, common_steps, c.as_slice.ensures.value, c.flip.ensures.length, c.deref_mut.ensures.len) in
    let words : c.as_slice.result.now ≡ flip_in c.args.words.now c.args.words.now c.args.flips.now = passed ∙ flips in
    let fit : AreWordsOf c.args.net.now.graph.signals c.as_slice.result.now
    = subst (λ (ws : List ℕ). AreWordsOf c.args.net.now.graph.signals ws) (sym words) (flip-words c.args.net.now c.args.words.now c.args.words.now c.args.flips.now runs are within) in
    let filled : c.fill.new.self ≡ values_of c.args.net.now.graph c.as_slice.result.now = c.fill.ensures.filled runs.graph fit room.tried in
    c.next_value-2.ensures runs.ascending
    ∙ ap (λ (vs : List ℕ). next_in vs c.args.net.now.regs c.args.bit) (filled ∙ ap (values_of c.args.net.now.graph) words)
    ∙ next-flipped c.args.net.now c.args.words.now c.args.flips.now c.args.bit runs are within register
