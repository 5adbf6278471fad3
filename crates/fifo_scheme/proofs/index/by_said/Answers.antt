use Rattle.std.proofs.Common.{◌≡◌, ◌↔◌, ℕ, List, Contains, arith, ap, refl, subst, sym}
use Rattle.cdc_base.specs.declared.bit.Bit.{Bit}
use Rattle.fifo_parts.specs.declared.words.Taking.{Taking}
use Rattle.fifo_parts.specs.Brought.{places_at}
use Rattle.fifo_parts.specs.Words.{lowest}
use Rattle.fifo_scheme.specs.Indexed.{IsFoundFrom}
use Rattle.fifo_scheme.proofs.IndexLooks.{at_index}
use Rattle.fifo_scheme.proofs.IndexPlaces.{adds_iff, places_end, places_iff, places_more}
use Rattle.fifo_scheme.proofs.index.by_said.Goals as goal

pub loop-place-preserved : goal.loop-place-preserved
loop-place-preserved c =
    let t = c.index-takings-place.result in
    let k = c.loop-place.place in
    let net = c.args.net.now in
    let sides = c.args.sides.now in
    let old = c.loop-place.places in
    let new = c.add_at_each.new.places in
    let same : (b : Bit) → Contains c.as_slice.result.now b ↔ ((count : ℕ) × (b ≡ lowest count) × IsFoundFrom net sides count t) =
    subst (λ (bs : List Bit). (b : Bit) → Contains bs b ↔ ((count : ℕ) × (b ≡ lowest count) × IsFoundFrom net sides count t))
    (sym c.as_slice.ensures) c.in_ok-counters.ensures in
    places_more (λ b (t : Taking). (count : ℕ) × (b ≡ lowest count) × IsFoundFrom net sides count t) c.args.takings.now k t old new
    (at_index c.args.takings.now k t (omega arith) c.index-takings-place.is) c.loop-place.invariant
    (adds_iff k old new (Contains c.as_slice.result.now)
    (λ b. (count : ℕ) × (b ≡ lowest count) × IsFoundFrom net sides count t) same c.in_ok-add_at_each.ensures)

pub returns : goal.returns
returns c = λ count.
    let net = c.args.net.now in
    let sides = c.args.sides.now in
    places_iff (λ (t : Taking). (n : ℕ) × (lowest count ≡ lowest n) × IsFoundFrom net sides n t) (IsFoundFrom net sides count) c.args.takings.now
    (places_at c.loop-place.places (lowest count))
    (λ t. (
      (λ (h : (n : ℕ) × (lowest count ≡ lowest n) × IsFoundFrom net sides n t). subst (λ (n : ℕ). IsFoundFrom net sides n t)
          (ap (λ (b : Bit). b.sig) (sym h.1)) h.2),
      λ h. (count, refl, h),
    ))
    (places_end (λ b (t : Taking). (n : ℕ) × (b ≡ lowest n) × IsFoundFrom net sides n t) c.args.takings.now c.loop-place.place c.loop-place.places
    (omega arith) c.loop-place.invariant (lowest count))
