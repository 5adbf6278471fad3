use Rattle.std.proofs.Common.{◌≡◌, ℕ, ◌≤◌, Bool, true, false, nat_lt, nat_le, refl, sym, ap, ◌∙◌, arith, le-leb, leb-true}
use Rattle.cell_graph.specs.Tree.{number}
use Rattle.flat_meaning.specs.Meaning.{value}
use Rattle.flat_meaning.specs.Full.{nothing}
use Rattle.flat_meaning.proofs.Words.{by_lt}
use Rattle.flat_form.specs.View.{expr_of}
use Rattle.flat_form.proofs.Sized.{sized_width}
use Rattle.flat_unfolding.specs.Constants.{own_value}
use Rattle.flat_declarations.proofs.parameter.is_past_whole.Goals as goal

past : (n : ℕ) → nat_lt 2147483647 n ≡ nat_le 2147483648 n
past n = by_lt (λ b. b ≡ nat_le 2147483648 n) 2147483647 n (λ l. sym (le-leb 2147483648 n (omega (arith, l)))) (λ l. sym (go (nat_le 2147483648 n) refl l))
  where
    go : (b : Bool) → nat_le 2147483648 n ≡ b → n ≤ 2147483647 → nat_le 2147483648 n ≡ false
    go true e l = absurd (let k = leb-true 2147483648 n e in omega (arith, k, l))
    go false e l = e

pub returns : goal.returns
returns c = λ h.
    let x = c.args.value.now in
    let e : c.own_value.result ≡ own_value (expr_of x) = (c.own_value.ensures h).0 ∙ ap (λ i. number (value nothing (expr_of x) i) i) (sized_width x h) in
    past c.own_value.result ∙ ap (nat_le 2147483648) e
