use Rattle.std.proofs.Common.{◌≡◌, ℕ, ◌-◌, ◌^◌, ◌<◌, not, ◌&&◌, ◌||◌, List, [], ◌∷◌, bit_and, sym, subst, ap, ◌∙◌, arith}
use Rattle.std.specs.Map.Iter.{deref_pair}
use Rattle.std.proofs.lemmas.Map.Iter.{rest_all, rest_more}
use Rattle.std.proofs.Math.Bool.{or-false}
use Rattle.cell_graph.specs.Tree.{bit_at}
use Rattle.flat_meaning.specs.Deps.{Bits}
use Rattle.flat_form.specs.Masks.{bits_in}
use Rattle.flat_form.proofs.MaskSets.{entry_bits, listed_bits, listed-is, Left, adds-same, kept_by, kept-step, kept-entry, but-bits}
use Rattle.flat_form.proofs.masks.Masks.add_all_but.Goals as goal

pub loop-sig-preserved : goal.loop-sig-preserved
loop-sig-preserved c =
    let outside : Bits = λ s i. not (bits_in c.args.but.now s i) in
    let old = bits_in c.args.self.now in
    let now = c.loop-sig.self in
    let whole = kept_by outside (listed_bits c.args.other.now.by_signal.entries) in
    let e : ℕ × ℕ = (c.in-Some.sig.now, c.in-Some.mask.now) in
    let rest = c.next.new.self in
    let first : c.loop-sig.sig-iterator ≡ e ∷ rest = rest_more deref_pair _ _ _ (c.in-Some.sig, c.in-Some.mask) c.in-Some.is c.next.ensures.steps in
    let small : c.of.result < 2 ^ 64 = omega arith in
    let mask = bit_and e.1 (2 ^ 64 - 1 - c.of.result) in
    kept-step outside old now c.add.new.self e rest whole (subst (λ (es : List (ℕ × ℕ)). Left old now (kept_by outside (listed_bits es)) whole) first c.loop-sig.invariant)
    (adds-same now c.add.new.self (entry_bits (e.0, mask)) (kept_by outside (entry_bits e))
    (kept-entry outside e mask (λ i l. but-bits e.1 c.of.result i small l ∙ ap (λ b. bit_at e.1 i && not b) (c.of.ensures.bits i l))) c.in_ok-add.ensures.added)

pub returns : goal.returns
returns c =
    let outside : Bits = λ s i. not (bits_in c.args.but.now s i) in
    let old = c.args.self.now in
    let new = c.loop-sig.self in
    let es = c.args.other.now.by_signal.entries in
    let done : c.loop-sig.sig-iterator ≡ [] = rest_all deref_pair _ _ _ c.in-None.is c.next.ensures.steps in
    let all : Left (bits_in old) new (kept_by outside (listed_bits [])) (kept_by outside (listed_bits es)) = subst (λ (rest : List (ℕ × ℕ)). Left (bits_in old) new (kept_by outside (listed_bits rest)) (kept_by outside (listed_bits es))) done c.loop-sig.invariant in
    record { added = λ s i l. sym (or-false (bits_in new s i)) ∙ all s i l ∙ ap (λ b. bits_in old s i || (b && outside s i)) (listed-is es c.iter-sig-items.ensures.unique s i) }
