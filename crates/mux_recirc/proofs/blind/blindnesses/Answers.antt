-- What was found of the ends is all that holds of them.
use Rattle.std.proofs.Common.{◌↔◌, sym, subst, Contains}
use Rattle.std.specs.List.Sorted.{IsPermutation, IsSorted}
use Rattle.std.specs.Prelude.{filter}
use Rattle.mux_recirc.specs.contracts.questions.QuestionOrd.TheImpl as question_order
use Rattle.mux_recirc.specs.declared.blind.Blind.{Blind}
use Rattle.mux_recirc.specs.declared.questions.Question.{Question}
use Rattle.mux_recirc.specs.Blind.{IsBlindAmong, is_behind}
use Rattle.mux_recirc.specs.Held.{AreWithin}
use Rattle.mux_recirc.specs.Questions.{AreBitsWithin, IsAsked}
use Rattle.mux_recirc.proofs.AllBlind.{all_blind, ends_within, questions_within}
use Rattle.mux_recirc.proofs.Crossed.{by_ends}
use Rattle.mux_recirc.proofs.blind.blindnesses.Goals as goal

pub returns-clause-exact : goal.returns-clause-exact
returns-clause-exact c = λ grays list given shown.
    let net = c.args.net.now in
    let domains = c.args.domains.now in
    let crossings = c.args.crossings.now in
    let entries = c.args.rings.now in
    let ends = c.in_ok-ends.ends.items in
    let gates = c.in_ok-gates.gates.entries.items in
    let asked = c.in_ok-asked.asked.items in
    let questions = c.in_ok-questions.questions.items in
    let found = c.in_ok-found.found.items in
    let are = c.in_ok-ends.ensures in
    let within = ends_within net domains grays crossings list entries given ends are in
    let all_asked : (q : Question) → Contains asked q ↔ IsAsked net gates ends q = λ q. subst (λ bs. Contains asked q ↔ IsAsked net gates bs q) c.as_slice.ensures.value
    (c.in_ok-asked.ensures.exact given.is_net given.has_next shown (subst (AreBitsWithin net) (sym c.as_slice.ensures.value) within) c.in_ok-gates.ensures.ordered q) in
    let kept = subst (λ qs. IsPermutation (filter (λ (q : Question). is_behind domains entries q.ring q.bit) qs) questions) c.as_slice-2.ensures.value c.in_ok-questions.ensures.all in
    let inside = questions_within net domains grays crossings list entries given ends are gates c.in_ok-gates.ensures.all asked questions all_asked kept in
    let all_found : (b : Blind) → Contains found b ↔ IsBlindAmong net domains crossings entries questions b = λ b. subst (λ qs. Contains found b ↔ IsBlindAmong net domains crossings entries qs b) c.as_slice-3.ensures.value
    (c.in_ok-found.ensures.exact given.is_net given.has_next (by_ends net domains grays crossings list entries given) (subst (AreWithin net) (sym c.as_slice-3.ensures.value) inside)
    (subst (IsSorted question_order.ghosts.cmp) (sym c.as_slice-3.ensures.value) c.in_ok-questions.ensures.sorted) b) in
    all_blind net domains grays crossings list entries given ends are gates c.in_ok-gates.ensures.all asked questions all_asked kept found all_found
