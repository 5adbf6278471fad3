-- The places ascend, and so do the registers there.
use Rattle.std.proofs.Common.{◌∙◌, sym, subst, List, Contains, ℕ, eqb}
use Rattle.std.proofs.lemmas.List.Filters.{dedup_is}
use Rattle.std.proofs.lemmas.List.Kept.{AllPairs-from_increasing, Contains-dedup_nat}
use Rattle.std.proofs.lemmas.List.Sorted.{Contains-permutation}
use Rattle.std.proofs.lemmas.Map.Keys.{IsStrictlyIncreasing-dedup}
use Rattle.std.specs.List.Sorted.{IsStrictlyIncreasing}
use Rattle.cofactor.proofs.Places.{if_ok}
use Rattle.cdc_model.proofs.Justify.{slice_in, in_slice}
use Rattle.gray_pointer.specs.declared.register.Register.{Register}
use Rattle.gray_pointer.specs.Registers.{Ascend}
use Rattle.gray_pointer.proofs.Registers.{from_taken, in_taken, taken_ascend}
use Rattle.gray_pointer.proofs.candidates.Candidates.counters_of.Goals as goal

pub returns-clause-only : goal.returns-clause-only
returns-clause-only c = if_ok c.registers_at.result
    (λ found e r k.
    let at = from_taken c.args.registers.now c.as_slice.result.now r (subst (λ (l : List Register). Contains l r) e k) in
    slice_in c.args.registers.now at.0 r at.2)
    c.registers_at.ensures

pub returns-clause-all : goal.returns-clause-all
returns-clause-all c = if_ok c.registers_at.result
    (λ found e plain inside up is idle count s i follows.
    let rs = c.args.registers.now in
    let found_at = c.in_ok-places.ensures plain inside up is idle i.0 count s (in_slice rs count i) follows in
    let sorted = Contains-permutation c.in_ok-places.places.items c.sort_unstable.new.self.items i.0 c.sort_unstable.ensures.permutation found_at in
    let kept = subst (λ (l : List ℕ). Contains l i.0) (sym (c.as_slice.ensures.value ∙ dedup_is eqb c.sort_unstable.new.self.items c.dedup.new.self.items c.dedup.ensures.filtered))
    (Contains-dedup_nat c.sort_unstable.new.self.items i.0 sorted) in
    subst (λ (l : List Register). Contains l count) (sym e) (in_taken rs c.as_slice.result.now i.0 count kept (in_slice rs count i)))
    c.registers_at.ensures

pub returns-clause-ordered : goal.returns-clause-ordered
returns-clause-ordered c = if_ok c.registers_at.result
    (λ found e up.
    subst Ascend (sym e) (taken_ascend c.args.registers.now up c.as_slice.result.now
    (AllPairs-from_increasing c.as_slice.result.now
    (subst IsStrictlyIncreasing (sym (c.as_slice.ensures.value ∙ dedup_is eqb c.sort_unstable.new.self.items c.dedup.new.self.items c.dedup.ensures.filtered))
    (IsStrictlyIncreasing-dedup c.sort_unstable.new.self.items c.sort_unstable.ensures.sorted)))))
    c.registers_at.ensures
