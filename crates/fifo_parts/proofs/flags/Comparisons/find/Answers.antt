-- One bit more, and in the end all of registers.
use Rattle.std.proofs.Common.{◌∙◌, sym, subst, inl, inr, List, Contains}
use Rattle.std.proofs.lemmas.List.{take_all}
use Rattle.std.proofs.lemmas.Option.{slice_get-get_or}
use Rattle.cdc_base.specs.declared.bit.Bit.{Bit}
use Rattle.cdc_model.proofs.Justify.{slice_in}
use Rattle.fifo_parts.specs.declared.flags.Flag.{Flag}
use Rattle.fifo_parts.specs.Comparisons.{IsAdded, IsOwn}
use Rattle.fifo_parts.proofs.Comparing.{still_added}
use Rattle.fifo_parts.proofs.Sifted.{so_far_cases}
use Rattle.fifo_parts.proofs.Tests.{listed_register, register_clock, register_in}
use Rattle.fifo_parts.proofs.flags.Comparisons.find.Goals as goal

pub loop-bit-preserved : goal.loop-bit-preserved
loop-bit-preserved c =
    let net = c.args.shown.net.now in
    let domains = c.args.shown.domains.now in
    let items = c.as_slice-bit-items.result.now in
    let idx = c.loop-bit.bit-index in
    let lt = c.loop-bit-test.true in
    let mid = c.loop-bit.found in
    let new = c.add_bit.new.self in
    let listed = c.as_slice-bit-items.ensures ∙ c.in_ok-bits.ensures in
    record {
      added = λ shown f i own.
          let reg = listed_register net shown.is_net items listed _ (slice_in items idx _ (slice_get-get_or items idx _ lt)) in
          elim (so_far_cases items idx _ lt f.bit i) [
            | inl j ↦ still_added (IsOwn net domains) mid new (c.in_ok-add_bit.ensures.kept shown reg) net domains f
                (c.loop-bit.invariant.added shown f j own)
            | inr e ↦ subst (λ (b : Bit). let h : Flag = record { bit = b; value = f.value } in IsOwn net domains h → IsAdded net domains new h) e
                (c.in_ok-add_bit.ensures.found shown reg f.value) own
          ];
      own = λ shown f b i.
          let reg = listed_register net shown.is_net items listed _ (slice_in items idx _ (slice_get-get_or items idx _ lt)) in
          elim ((c.in_ok-add_bit.ensures.kept shown reg).0.only b f i) [ inl j ↦ c.loop-bit.invariant.own shown f b j | inr p ↦ p ];
      clocked = λ shown f k i.
          let reg = listed_register net shown.is_net items listed _ (slice_in items idx _ (slice_get-get_or items idx _ lt)) in
          elim ((c.in_ok-add_bit.ensures.kept shown reg).1.only k f i) [ inl j ↦ c.loop-bit.invariant.clocked shown f k j | inr p ↦ p ];
    }

pub returns : goal.returns
returns c = λ shown.
    let net = c.args.shown.net.now in
    let table = c.args.shown.table.now in
    let domains = c.args.shown.domains.now in
    let items = c.as_slice-bit-items.result.now in
    let all = take_all c.loop-bit.bit-index items c.loop-bit-test.false ∙ c.as_slice-bit-items.ensures ∙ c.in_ok-bits.ensures in record {
      compared = λ f clock own on t i. c.loop-bit.invariant.added shown f
          (subst (λ (bs : List Bit). Contains bs f.bit) (sym all) (register_in net table shown domains f.bit own.0)) own clock
          (sym (register_clock net table shown domains f.bit own.0) ∙ on) t i;
      own = c.loop-bit.invariant.own shown;
      clocked = c.loop-bit.invariant.clocked shown;
    }
