-- The signal of one arrival more is marked.
use Rattle.std.proofs.Common.{◌∙◌, inl, inr, sym, ap, subst, arith, Contains, get_or}
use Rattle.std.proofs.lemmas.List.{take_all}
use Rattle.cdc_model.specs.declared.scheme.Arrival.{Arrival}
use Rattle.cdc_model.specs.Readers.{IsMarked}
use Rattle.cdc_model.proofs.Ascending.{nothing_in}
use Rattle.obligations.proofs.ReadArrivals.{taken_more, only_one}
use Rattle.obligations.proofs.arrivals.marks_of.Goals as goal

abbrev none : Arrival
none = record { bit = record { sig = 0; at = 0 }; source = record { sig = 0; at = 0 }; depth = 0 }

pub loop-arrival-init : goal.loop-arrival-init
loop-arrival-init c = (c.in_ok-marks.ensures, λ a i. absurd (nothing_in a i))

pub loop-arrival-preserved : goal.loop-arrival-preserved
loop-arrival-preserved c = (
  c.mark.ensures.counted ∙ c.loop-arrival.invariant.0,
  λ a i within.
      let i_th = c.loop-arrival.arrival-index in
      elim (taken_more c.args.arrivals.now i_th none a c.loop-arrival-test.true i) [
        | inl j ↦ c.mark.ensures.kept a.bit.sig (c.loop-arrival.invariant.1 a j within)
        | inr j ↦ (let e = only_one (get_or c.args.arrivals.now i_th none) a j in
            let same = ap (λ (b : Arrival). b.bit.sig) e in
            let long = c.loop-arrival.invariant.0 in
            subst (λ (b : Arrival). IsMarked c.mark.new.marks.items b.bit.sig) e (c.mark.ensures.marked (omega (arith, same, long, within))))
      ],
)

pub returns : goal.returns
returns c = λ a i within. c.loop-arrival.invariant.1 a (subst (λ xs. Contains xs a) (sym (take_all c.loop-arrival.arrival-index c.args.arrivals.now c.loop-arrival-test.false)) i) within
