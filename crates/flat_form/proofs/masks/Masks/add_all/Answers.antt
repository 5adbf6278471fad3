use Rattle.std.proofs.Common.{◌≡◌, ℕ, ◌||◌, List, [], subst, ap, ◌∙◌}
use Rattle.std.specs.Map.Iter.{deref_pair}
use Rattle.std.proofs.lemmas.Map.Iter.{rest_all}
use Rattle.flat_meaning.specs.Deps.{none}
use Rattle.flat_form.specs.Masks.{bits_in}
use Rattle.flat_form.proofs.MaskSets.{listed_bits, listed-is, Left, left-end}
use Rattle.flat_form.proofs.masks.Masks.add_all.Goals as goal

pub returns : goal.returns
returns c =
    let old = c.args.self.now in
    let new = c.loop-sig.self in
    let es = c.args.other.now.by_signal.entries in
    let done : c.loop-sig.sig-iterator ≡ [] = rest_all deref_pair _ _ _ c.in-None.is c.next.ensures.steps in
    let all : Left (bits_in old) new none (listed_bits es) = subst (λ (rest : List (ℕ × ℕ)). Left (bits_in old) new (listed_bits rest) (listed_bits es)) done c.loop-sig.invariant in
    record { added = λ s i l. left-end old new (listed_bits es) all s i l ∙ ap (λ b. bits_in old s i || b) (listed-is es c.iter-sig-items.ensures.unique s i) }
