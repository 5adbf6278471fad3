-- By what the bit copies, and by the first flops.
use Rattle.std.proofs.Common.{◌≡◌, ◌∙◌, rules, sym, Some, not, true, false, Bool}
use Rattle.std.specs.Cmp.Rules.{comparing}
use Rattle.two_flop.proofs.Chains.{bit_inside}
use Rattle.obligations.specs.Given.{syncs_in}
use Rattle.obligations.proofs.Given.{all_syncs}
use Rattle.obligations.proofs.bare.is_bare_copy.Goals as goal

true_not : (v : Bool) → not v ≡ true → v ≡ true → ⊥
true_not true h k = cc
true_not false h k = cc

not_true : (v : Bool) → (v ≡ true → ⊥) → not v ≡ true
not_true true h = absurd (h (cc))
not_true false h = cc

pub returns-then-eq : goal.returns-then-eq
returns-then-eq c = λ grays rings are shown register.
    let found = c.args.found.now in
    let x = c.args.crossing.now.to in
    let copied = sym (c.copied_bit.ensures are.is_net are.has_next shown (bit_inside found.net.now x register)) in
    let same : c.copied_bit.result ≡ Some c.args.crossing.now.from = search (comparing, rules) in
    let first = c.is_first_flop.ensures (syncs_in found) are.all_syncs (all_syncs grays rings found are).ordered in (
      λ h. (copied ∙ same, λ s i e. true_not c.is_first_flop.result h (first.1 (s, i, e))),
      λ h. not_true c.is_first_flop.result (λ e. let s = first.0 e in h.1 s.0 s.1 s.2),
    )

pub returns-else-eq : goal.returns-else-eq
returns-else-eq c = λ grays rings are shown register.
    let found = c.args.found.now in
    let x = c.args.crossing.now.to in
    let copied = sym (c.copied_bit.ensures are.is_net are.has_next shown (bit_inside found.net.now x register)) in
    let other : c.copied_bit.result ≡ Some c.args.crossing.now.from → ⊥ = λ e. search (comparing, rules) in (
      λ h. absurd (search rules),
      λ h. absurd (other (sym copied ∙ h.0)),
    )
