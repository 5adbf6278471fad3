-- What was found of the sources is all that holds of them.
use Rattle.std.proofs.Common.{◌∙◌, ◌↔◌, sym, ap, subst, [], Contains}
use Rattle.std.specs.List.Sorted.{IsPermutation, IsSorted}
use Rattle.std.specs.Prelude.{filter}
use Rattle.cdc_base.specs.contracts.bit.BitOrd.TheImpl as bit_order
use Rattle.mux_recirc.specs.contracts.questions.QuestionOrd.TheImpl as question_order
use Rattle.mux_recirc.specs.declared.parts.Part.{Part}
use Rattle.mux_recirc.specs.declared.questions.Question.{Question}
use Rattle.mux_recirc.specs.Held.{AreWithin, IsAnswered, is_before}
use Rattle.mux_recirc.specs.Questions.{AreBitsWithin, IsAsked}
use Rattle.mux_recirc.specs.Shown.{keeps}
use Rattle.mux_recirc.proofs.AllHeld.{all_held, sources_within, questions_within}
use Rattle.mux_recirc.proofs.Orders.{kept_sorted, bit_total}
use Rattle.mux_recirc.proofs.held.Held.find.Goals as goal

pub returns-clause-exact : goal.returns-clause-exact
returns-clause-exact c = λ grays list given shown.
    let net = c.args.net.now in
    let domains = c.args.domains.now in
    let entries = c.args.rings.now in
    let sources = c.in_ok-sources.sources.items in
    let ends = c.in_ok-ends.ends.entries.items in
    let asked = c.in_ok-asked.asked.items in
    let questions = c.in_ok-questions.questions.items in
    let pairs = c.in_ok-pairs.pairs.items in
    let are = c.in_ok-sources.ensures.exact given.is_net in
    let within = sources_within net domains grays c.args.crossings.now list entries given sources are in
    let all_asked : (q : Question) → Contains asked q ↔ IsAsked net ends sources q = λ q. subst (λ bs. Contains asked q ↔ IsAsked net ends bs q) c.as_slice-2.ensures.value
    (c.in_ok-asked.ensures.exact given.is_net given.has_next shown (subst (AreBitsWithin net) (sym c.as_slice-2.ensures.value) within) c.in_ok-ends.ensures.ordered q) in
    let kept = subst (λ qs. IsPermutation (filter (λ (q : Question). is_before domains entries q.ring q.bit) qs) questions) c.as_slice-3.ensures.value c.in_ok-questions.ensures.all in
    let inside = questions_within net domains grays c.args.crossings.now list entries given sources are ends c.in_ok-ends.ensures.all asked questions all_asked kept in
    let all_pairs : (p : Part) → Contains pairs p ↔ IsAnswered net entries questions p = λ p. subst (λ qs. Contains pairs p ↔ IsAnswered net entries qs p) c.as_slice-4.ensures.value
    (c.in_ok-pairs.ensures.exact given.is_net given.has_next (subst (AreWithin net) (sym c.as_slice-4.ensures.value) inside)
    (subst (IsSorted question_order.ghosts.cmp) (sym c.as_slice-4.ensures.value) c.in_ok-questions.ensures.sorted) p) in
    all_held net domains grays c.args.crossings.now list entries given sources are ends c.in_ok-ends.ensures.all asked questions all_asked kept pairs all_pairs c.in_ok-constant.constant.items
    (c.in_ok-constant.ensures given.is_net given.has_next shown (subst (AreBitsWithin net) (sym c.as_slice.ensures.value) within) ∙ ap (filter (keeps net [])) c.as_slice.ensures.value)

pub returns-clause-constant_sorted : goal.returns-clause-constant_sorted
returns-clause-constant_sorted c = λ grays list given shown.
    let net = c.args.net.now in
    let sources = c.in_ok-sources.sources.items in
    let within = sources_within net c.args.domains.now grays c.args.crossings.now list c.args.rings.now given sources (c.in_ok-sources.ensures.exact given.is_net) in
    subst (IsSorted bit_order.ghosts.cmp)
    (sym (c.in_ok-constant.ensures given.is_net given.has_next shown (subst (AreBitsWithin net) (sym c.as_slice.ensures.value) within) ∙ ap (filter (keeps net [])) c.as_slice.ensures.value))
    (kept_sorted bit_order.ghosts.cmp bit_total (keeps net []) sources c.in_ok-sources.ensures.sorted)
