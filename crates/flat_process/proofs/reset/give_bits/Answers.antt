use Rattle.std.proofs.Common.{◌≡◌, ◌+◌, ◌-◌, ◌/◌, ◌^◌, ◌≤◌, [], ◌∷◌, ◌++◌, sym, ap, subst, ◌∙◌, arith}
use Rattle.flat_process.specs.Resets.{bits_given, IsGiven, AreGiven}
use Rattle.flat_process.proofs.Given.{are-push}
use Rattle.flat_process.proofs.reset.give_bits.Goals as goal

pub returns : goal.returns
returns c = λ n us declared fits small given.
    let a = c.args in
    let from = c.from.ensures in
    let sub = c.saturating_sub-rest.ensures in
    let left : c.saturating_sub-rest.result + a.width ≡ a.top = omega arith in
    let rest : c.saturating_sub-rest.result ≡ a.top - a.width = omega arith in
    let moved : c.shifted_right.result ≡ a.word / 2 ^ (a.top - a.width) = c.shifted_right.ensures ∙ ap (λ k. a.word / 2 ^ k) rest in
    let one = subst (λ k. IsGiven n (bits_given a.sig a.at a.width k) c.given_bits-one.result) moved (c.given_bits-one.ensures n declared (let w : a.width ≤ 64 = omega arith in w)) in (
      left,
      subst (AreGiven n (us ++ bits_given a.sig a.at a.width (a.word / 2 ^ (a.top - a.width)) ∷ [])) (sym c.in_ok-push.ensures.pushed) (are-push n us a.given.now.items (bits_given a.sig a.at a.width (a.word / 2 ^ (a.top - a.width))) c.given_bits-one.result given one),
    )
