-- The crossings into one bit more, or too many of them.
use Rattle.std.proofs.Common.{◌∙◌, ◌<◌, sym, subst, length, []}
use Rattle.std.proofs.lemmas.Result.{err_from_is_err_and}
use Rattle.cdc_base.specs.declared.bit.Bit.{Bit}
use Rattle.cdc_base.specs.declared.limits.TheConstants.{MAX_CROSSINGS}
use Rattle.cdc_model.specs.Tables.{ShowsNet}
use Rattle.crossings.proofs.Exact.{among-more, among-over, bit-within, cause-map}
use Rattle.crossings.proofs.find_with.Goals as goal

abbrev none : Bit
none = record { sig = 0; at = 0 }

pub returns-in_err-add_crossings_into-clause-full : goal.returns-in_err-add_crossings_into-clause-full
returns-in_err-add_crossings_into-clause-full c =
    let lt : c.loop-to.to-index < length c.as_slice-to-items.result.now = c.loop-to-test.true in
    let p = err_from_is_err_and c.from_residual-in_err-add_crossings_into.result c.from_residual-in_err-add_crossings_into.ensures.1 in
    rw (p.1, p.2) (cause-map 603 c.in_err-add_crossings_into.field-0.0 (λ over is has fit shown.
    among-over c.args.net.now c.args.domains.now _ c.loop-to.crossings c.as_slice-to-items.result.now c.loop-to.to-index none lt (c.loop-to.invariant.all is has fit shown) MAX_CROSSINGS
    (over is has fit (subst (ShowsNet c.args.net.now []) (sym c.loop-to.invariant.same) shown) (bit-within c.args.net.now c.as_slice-to-items.result.now c.loop-to.to-index none
    (c.as_slice-to-items.ensures ∙ c.in_ok-bits.ensures) lt))) c.in_err-add_crossings_into.ensures.full)

pub loop-to-preserved : goal.loop-to-preserved
loop-to-preserved c =
    let lt : c.loop-to.to-index < length c.as_slice-to-items.result.now = c.loop-to-test.true in
    record {
      few = c.in_ok-add_crossings_into.ensures.within c.loop-to.invariant.few;
      same = c.in_ok-add_crossings_into.ensures.unchanged ∙ c.loop-to.invariant.same;
      all = λ is has fit shown.
          let added = c.in_ok-add_crossings_into.ensures.added is has fit (subst (ShowsNet c.args.net.now []) (sym c.loop-to.invariant.same) shown) (c.in_ok-below.ensures is.graph)
          (bit-within c.args.net.now c.as_slice-to-items.result.now c.loop-to.to-index none (c.as_slice-to-items.ensures ∙ c.in_ok-bits.ensures) lt) in
          among-more c.args.net.now c.args.domains.now _ c.loop-to.crossings c.as_slice-to-items.result.now c.loop-to.to-index none lt (c.loop-to.invariant.all is has fit shown)
          c.add_crossings_into.new.crossings added;
    }
