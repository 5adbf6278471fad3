use Rattle.std.proofs.Common.{◌≡◌, ◌≤◌, ◌++◌, length, sym, ap, ap₂, subst, ◌∙◌, rules, arith}
use Rattle.flat_meaning.specs.Flat.{target_size}
use Rattle.flat_form.specs.View.{target_of}
use Rattle.flat_unfolding.specs.Names.{width_at}
use Rattle.flat_unfolding.specs.Constants.{assigned_value}
use Rattle.flat_unfolding.specs.Resets.{given_to}
use Rattle.flat_process.specs.Resets.{IsPlain, AreGiven}
use Rattle.flat_process.proofs.ResetRows.{constant-is, some-bits, given-sound, gives-all}
use Rattle.flat_process.proofs.reset.give_constant.Goals as goal

pub returns-in_ok-give : goal.returns-in_ok-give
returns-in_ok-give c = λ l us a v shows aim read plain given.
    let f = c.args.fixed.now in
    let r = c.args.value.now in
    let bits = some-bits a.bits (sym aim.sound ∙ c.if-fixed.true) in
    let w = bits.0 in
    let size = plain.size w bits.1 in
    let width = aim.width w bits.1 in
    let small = size.1 in
    let narrow : f.width ≤ 64 = omega arith in
    let byte : c.unwrap_or-width.result ≡ f.width = search rules in
    let expr = read.sized c.if-value.true in
    let word = subst (λ k. c.assigned_value-word.result ≡ assigned_value v.expr k) (byte ∙ width) (constant-is r.expr c.unwrap_or-width.result c.assigned_value-word.result expr (c.assigned_value-word.ensures expr (let k : c.unwrap_or-width.result ≤ 64 = omega arith in k)).0 ∙ ap (λ e. assigned_value e c.unwrap_or-width.result) (read.expr c.if-value.true)) in
    let target = sym aim.target in
    let fits : target_size (width_at l.entries) a.target ≤ f.width = omega (arith, size.0) in
    let g = c.in_ok-give.ensures l us shows (subst (IsPlain (length l.entries)) target plain.plain) (subst (λ t. target_size (width_at l.entries) t ≤ f.width) target fits) narrow given in
    let same = ap₂ (given_to l) aim.target word ∙ sym (given-sound l v a w bits.1 (sym read.sound ∙ c.if-value.true)) in
    subst (λ vs. AreGiven (length l.entries) (us ++ vs) c.give.new.given.items) same
    (gives-all l us (target_of f.target) c.assigned_value-word.result f.width c.in_ok-give.field-0 c.give.new.given.items g (ap (target_size (width_at l.entries)) aim.target ∙ size.0 ∙ sym width))
