-- The distance doubles, until it is past all bits.
use Rattle.std.proofs.Common.{◌≡◌, ◌∙◌, sym, ap, ap₂, arith, pow-suc, ℕ, suc, ◌+◌, ◌^◌, ◌/◌}
use Rattle.std.specs.Int.Bits.{bit_xor}
use Rattle.gray_pointer.proofs.Decoded.{folded, folded_more, folded_far, distance_is}
use Rattle.gray_pointer.proofs.register.decoded.Goals as goal

pub loop-distance-preserved : goal.loop-distance-preserved
loop-distance-preserved c = λ word l e.
    let i = c.loop-distance.distance-index in
    let t = c.loop-distance-test.true in
    ap₂ (λ (n k : ℕ). bit_xor n (n / 2 ^ k)) (c.loop-distance.invariant word l e) (distance_is i t)
    ∙ folded_more word (2 ^ i) ∙ ap (folded word) (sym (let s : i + 1 ≡ suc i = omega arith in let p = pow-suc 2 i in ap (λ (k : ℕ). 2 ^ k) s ∙ (let q : 2 ^ suc i ≡ 2 ^ i + 2 ^ i = omega arith in q)))

pub returns : goal.returns
returns c = λ word l e.
    let t = c.loop-distance-test.false in
    let d = c.loop-distance.auto.distance-index-end in
    let six : c.loop-distance.distance-index ≡ 6 = omega arith in
    c.loop-distance.invariant word l e ∙ ap (λ (i : ℕ). folded word (2 ^ i)) six ∙ folded_far word 64 l
