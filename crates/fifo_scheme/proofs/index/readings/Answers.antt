use Rattle.std.proofs.Common.{rules, arith, ◌≡◌, ◌∙◌, ◌++◌, ◌+◌, ◌∷◌, [], None, get_or, subst, sym}
use Rattle.std.proofs.lemmas.Option.{slice_get-get_or}
use Rattle.cdc_base.specs.declared.bit.Bit.{Bit}
use Rattle.cdc_model.specs.Nets.{bits_of_registers}
use Rattle.cdc_model.specs.Tables.{ShowsNet}
use Rattle.cdc_model.proofs.Noted.{bit_within}
use Rattle.fifo_scheme.specs.Indexed.{IsReading}
use Rattle.fifo_scheme.proofs.IndexReadings.{AreReadingsBelow, readings_end, readings_grow, readings_stay, register_bits_ascend}
use Rattle.fifo_scheme.proofs.index.readings.Goals as goal
use Rattle.fifo_scheme.proofs.index.readings.Goals.{in-Some+in_ok-push, in_default}

abbrev nothing : Bit
nothing = record { sig = 0; at = 0 }

pub loop-bit-preserved : goal.loop-bit-preserved
loop-bit-preserved c =
    let net = c.args.net.now in
    let domains = c.args.domains.now in
    let bits = c.as_slice-bit-items.result.now in
    let k = c.loop-bit.bit-index in
    let x = get_or bits k nothing in
    let all : bits ≡ bits_of_registers net.graph.signals net.regs = c.as_slice-bit-items.ensures ∙ c.in_ok-bits.ensures in (
      c.in_ok-reading.ensures.unchanged ∙ c.loop-bit.invariant.0,
      λ is has fit shows.
          let at = slice_get-get_or bits k nothing (omega arith) in
          let old = c.loop-bit.invariant.1 is has fit shows in
          let found = c.in_ok-reading.ensures.found is has fit (subst (ShowsNet net []) (sym c.loop-bit.invariant.0) shows)
          (c.in_ok-groups.ensures is.graph) (bit_within net bits k nothing all (omega arith)) in
          elim c.match-branch-4.branch [
            | in-Some+in_ok-push w ↦
                let e : c.match-branch-4.readings ≡ c.loop-bit.readings ++ w.in-Some.reading ∷ [] = search rules in
                subst (AreReadingsBelow net domains bits (k + 1)) (sym e)
                (readings_grow net domains bits k x at c.loop-bit.readings old (register_bits_ascend net is bits all) w.in-Some.reading
                (subst (IsReading net domains x) w.in-Some.is found))
            | in_default w ↦
                let e : c.match-branch-4.readings ≡ c.loop-bit.readings = search rules in
                let none : c.in_ok-reading.field-0 ≡ None = search rules in
                subst (AreReadingsBelow net domains bits (k + 1)) (sym e)
                (readings_stay net domains bits k x at c.loop-bit.readings old (subst (IsReading net domains x) none found))
          ],
    )

pub returns-clause-found : goal.returns-clause-found
returns-clause-found c = λ is has fit shows.
    readings_end c.args.net.now c.args.domains.now is fit c.as_slice-bit-items.result.now c.loop-bit.bit-index c.loop-bit.readings
    (c.as_slice-bit-items.ensures ∙ c.in_ok-bits.ensures) (omega arith) (c.loop-bit.invariant.1 is has fit shows)
