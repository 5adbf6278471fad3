use Rattle.std.proofs.Common.{◌≡◌, ℕ, ◌&&◌, List, [], ◌∷◌, bit_and, sym, subst, ap, ◌∙◌}
use Rattle.std.specs.Map.Iter.{deref_pair}
use Rattle.std.proofs.lemmas.Map.Iter.{rest_all, rest_more}
use Rattle.std.proofs.Math.Bool.{or-false}
use Rattle.cell_graph.specs.Tree.{bit_at}
use Rattle.cell_graph.proofs.Words.{bit_and-bit}
use Rattle.flat_meaning.specs.Deps.{none}
use Rattle.flat_form.specs.Masks.{bits_in}
use Rattle.flat_form.proofs.MaskSets.{entry_bits, listed_bits, listed-is, Left, adds-same, kept_by, kept-step, kept-entry, kept-nothing}
use Rattle.flat_form.proofs.masks.Masks.common.Goals as goal

pub loop-sig-preserved-in-Continue-1 : goal.loop-sig-preserved-in-Continue-1
loop-sig-preserved-in-Continue-1 c =
    let other = bits_in c.args.other.now in
    let now = c.loop-sig.both in
    let whole = kept_by other (listed_bits c.args.self.now.by_signal.entries) in
    let e : ℕ × ℕ = (c.in-Some.sig.now, c.in-Some.mask.now) in
    let rest = c.next.new.self in
    let first : c.loop-sig.sig-iterator ≡ e ∷ rest = rest_more deref_pair _ _ _ (c.in-Some.sig, c.in-Some.mask) c.in-Some.is c.next.ensures.steps in
    let mask = bit_and e.1 c.of.result in
    kept-step other none now c.add.new.self e rest whole (subst (λ (es : List (ℕ × ℕ)). Left none now (kept_by other (listed_bits es)) whole) first c.loop-sig.invariant)
    (adds-same now c.add.new.self (entry_bits (e.0, mask)) (kept_by other (entry_bits e))
    (kept-entry other e mask (λ i l. bit_and-bit e.1 c.of.result i ∙ ap (λ b. bit_at e.1 i && b) (c.of.ensures.bits i l))) c.in_ok-add.ensures.added)

pub loop-sig-preserved : goal.loop-sig-preserved
loop-sig-preserved c =
    let other = bits_in c.args.other.now in
    let now = c.loop-sig.both in
    let whole = kept_by other (listed_bits c.args.self.now.by_signal.entries) in
    let e : ℕ × ℕ = (c.in-Some.sig.now, c.in-Some.mask.now) in
    let rest = c.next.new.self in
    let first : c.loop-sig.sig-iterator ≡ e ∷ rest = rest_more deref_pair _ _ _ (c.in-Some.sig, c.in-Some.mask) c.in-Some.is c.next.ensures.steps in
    let mask = bit_and e.1 c.of.result in
    kept-step other none now now e rest whole (subst (λ (es : List (ℕ × ℕ)). Left none now (kept_by other (listed_bits es)) whole) first c.loop-sig.invariant)
    (kept-nothing other now e mask c.if-mask-ne0.false (λ i l. bit_and-bit e.1 c.of.result i ∙ ap (λ b. bit_at e.1 i && b) (c.of.ensures.bits i l)))

pub returns : goal.returns
returns c =
    let other = bits_in c.args.other.now in
    let new = c.loop-sig.both in
    let es = c.args.self.now.by_signal.entries in
    let done : c.loop-sig.sig-iterator ≡ [] = rest_all deref_pair _ _ _ c.in-None.is c.next.ensures.steps in
    let all : Left none new (kept_by other (listed_bits [])) (kept_by other (listed_bits es)) = subst (λ (rest : List (ℕ × ℕ)). Left none new (kept_by other (listed_bits rest)) (kept_by other (listed_bits es))) done c.loop-sig.invariant in
    record { both = λ s i l. sym (or-false (bits_in new s i)) ∙ all s i l ∙ ap (λ b. b && other s i) (listed-is es c.iter-sig-items.ensures.unique s i) }
