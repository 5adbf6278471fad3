-- The word is a sum of the own word and a step, or none.
use Rattle.std.proofs.Common.{◌≡◌, ◌≢◌, ◌∙◌, ◌↔◌, sym, ap, inl, inr, ◌⊎◌, Bool, true, false, Some, [], option_map}
use Rattle.cell_graph.specs.Origin.{origin}
use Rattle.cell_graph.specs.Unfolded.{IsNodeOf, bit_of, tree_of}
use Rattle.cdc_model.specs.Tables.{ShowsNet}
use Rattle.cdc_model.specs.Word.{own_word}
use Rattle.gray_pointer.specs.Words.{HasWord, IsPlain, IsPlus, word_of}
use Rattle.fifo_nodes.specs.Counts.{IsCounter}
use Rattle.gray_pointer.proofs.Wholes.{word_node}
use Rattle.fifo_nodes.proofs.Counting.{left_own, left_word, plus_is_add, plus_there, right_own}
use Rattle.fifo_nodes.proofs.counts.step_of.Goals as goal
use Rattle.fifo_nodes.proofs.counts.step_of.Goals.{After-origin, In_ok-sum}

-- what is the own word or a sum and isn't the own word is a sum
plus_of : {A B : Type 0} (own either : Bool) → (own ≡ true) ↔ A → own ≡ false → (either ≡ true) ↔ (A ⊎ B) → either ≡ true → B
plus_of own either is other both t = elim (both.0 t) [
  | inl a ↦ let f : true ≡ false = sym (is.1 a) ∙ other in cc
  | inr b ↦ b
]

-- the word is the register's own and a step
is_plus : (c : After-origin) → IsPlain c.args.net.now.graph → ShowsNet c.args.net.now [] c.args.table.now → IsCounter c.args.net.now.graph c.args.register.now
    → HasWord c.args.net.now.graph c.args.word c.args.register.now.width → IsPlus c.args.register.now.sig c.args.register.now.width (word_of c.args.net.now.graph c.args.word c.args.register.now.width)
is_plus c plain shown r has = plus_of c.is_own.result c.is_own_or_plus.result (c.is_own.ensures plain has r.signal) c.if-is_own.false
    (c.is_own_or_plus.ensures plain shown has r.signal) c.if-not-is_own_or_plus.false

-- the origin of its lowest bit
at_sum : (c : In_ok-sum) → IsPlain c.args.net.now.graph → HasWord c.args.net.now.graph c.args.word c.args.register.now.width
    → (origin (tree_of c.args.net.now.graph c.args.word) 0 ≡ Some (bit_of c.args.net.now.graph c.in_ok-sum.sum)) × IsNodeOf c.args.net.now.graph c.in_ok-sum.sum
at_sum c plain has =
    let first = word_node c.args.net.now.graph c.args.word c.args.register.now.width 0 has has.1 in
    (c.origin.ensures.exact plain.well first ∙ ap (option_map (bit_of c.args.net.now.graph)) c.in_ok-sum.was, (c.origin.ensures.within plain.well first c.in_ok-sum.sum c.in_ok-sum.was).0)

pub returns-in_err-sum : goal.returns-in_err-sum
returns-in_err-sum c = λ plain shown r has.
    let g = c.args.net.now.graph in
    let b = c.args.register.now.sig in
    let w = c.args.register.now.width in
    let plus = is_plus (goal.at.returns-in_err-sum c).After-origin plain shown r has in
    let exact = c.origin.ensures.exact plain.well (word_node g c.args.word w 0 has has.1) ∙ ap (option_map (bit_of g)) c.in_err-sum.was in
    absurd (plus_there g plain b w r.wide c.args.word has plus exact)

pub returns-then-is_own-2 : goal.returns-then-is_own-2
returns-then-is_own-2 c = λ plain shown r has.
    let g = c.args.net.now.graph in
    let b = c.args.register.now.sig in
    let w = c.args.register.now.width in
    let sum = c.in_ok-sum.sum in
    let plus = is_plus (goal.at.returns-then-is_own-2 c).After-origin plain shown r has in
    let at = at_sum (goal.at.returns-then-is_own-2 c).In_ok-sum plain has in
    let add = sym c.cell.ensures ∙ c.in-Add.is in
    let left = left_word g plain b w r.wide c.args.word has plus sum at.0 at.1 c.in-Add.a c.in-Add.b add in
    left_own g plain b w r.wide c.args.word has plus sum at.0 at.1 c.in-Add.a c.in-Add.b add
    ((c.is_own-in-Add.ensures plain left r.signal).0 c.if-is_own-2.true)

pub returns-else-is_own-2 : goal.returns-else-is_own-2
returns-else-is_own-2 c = λ plain shown r has.
    let g = c.args.net.now.graph in
    let b = c.args.register.now.sig in
    let w = c.args.register.now.width in
    let sum = c.in_ok-sum.sum in
    let plus = is_plus (goal.at.returns-else-is_own-2 c).After-origin plain shown r has in
    let at = at_sum (goal.at.returns-else-is_own-2 c).In_ok-sum plain has in
    let add = sym c.cell.ensures ∙ c.in-Add.is in
    let left = left_word g plain b w r.wide c.args.word has plus sum at.0 at.1 c.in-Add.a c.in-Add.b add in
    let other : word_of g c.in-Add.a w ≢ own_word b w = λ e.
    (let t : true ≡ false = sym ((c.is_own-in-Add.ensures plain left r.signal).1 e) ∙ c.if-is_own-2.false in cc) in
    right_own g plain b w r.wide c.args.word has plus sum at.0 at.1 c.in-Add.a c.in-Add.b add other

pub returns-in_default : goal.returns-in_default
returns-in_default c = λ plain shown r has.
    let g = c.args.net.now.graph in
    let plus = is_plus (goal.at.returns-in_default c).After-origin plain shown r has in
    let at = at_sum (goal.at.returns-in_default c).In_ok-sum plain has in
    absurd (plus_is_add g plain c.args.register.now.sig c.args.register.now.width r.wide c.args.word has plus c.in_ok-sum.sum at.0 at.1 (λ p q e. c.in_default.not-Add p q (c.cell.ensures ∙ e)))
