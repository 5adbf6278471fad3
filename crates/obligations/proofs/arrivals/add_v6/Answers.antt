-- One register bit after another, and in the end all of them.
use Rattle.std.proofs.Common.{◌≡◌, ◌<◌, ◌∙◌, refl, sym, subst, take, length, [], get_or, append-nil, Contains, is_some, ltb-true}
use Rattle.std.proofs.lemmas.Bool.{and_parts}
use Rattle.std.proofs.lemmas.List.{take_all, take_more}
use Rattle.std.proofs.lemmas.List.Elements.{Contains-get_or}
use Rattle.std.proofs.lemmas.Option.{slice_get_within}
use Rattle.cdc_base.specs.declared.bit.Bit.{Bit}
use Rattle.cell_graph.specs.declared.net.Net.{Net}
use Rattle.domains.specs.declared.Domains.{Domains}
use Rattle.domains.specs.Fit.{Fit}
use Rattle.domains.specs.Nets.{IsNet}
use Rattle.cdc_model.specs.declared.scheme.Arrival.{Arrival}
use Rattle.cdc_model.specs.Nets.{bit_count, bits_of_registers, design_of, is_within, next_cell}
use Rattle.cdc_model.specs.Ordered.{IsAll, IsAscending}
use Rattle.cdc_model.specs.Readers.{IsMarked, ShowsBelow}
use Rattle.cdc_model.specs.Syncs.{syncs_of}
use Rattle.cdc_model.specs.Tables.{ShowsNet}
use Rattle.cdc_model.proofs.Ascending.{ascending}
use Rattle.cdc_model.proofs.Found.{counted, net_ascends, registers_ascend}
use Rattle.cdc_model.proofs.Synced.{unlisted}
use Rattle.obligations.specs.Arrivals.{IsArrival, arrival_key, AreMarked, AddsReaders, by_bit}
use Rattle.obligations.specs.Given.{design_in, syncs_in}
use Rattle.obligations.proofs.AddedReaders.{no_readers, more_readers, all_readers}
use Rattle.obligations.proofs.AllArrivals.{register_at}
use Rattle.obligations.proofs.ReadArrivals.{front_before}
use Rattle.obligations.proofs.arrivals.add_v6.Goals as goal

abbrev none : Bit
none = record { sig = 0; at = 0 }

arrival_within : (net : Net) (domains : Domains) → IsNet net → Fit net domains → (a : Arrival) → IsArrival (design_of net domains) (syncs_of net domains) a → a.bit.sig < length net.graph.signals
arrival_within net domains is fit a (s, n, i, h, src, dep) =
    let p = and_parts (is_some (next_cell net.regs a.bit.sig)) (is_within net a.bit) (register_at net domains is fit s n a.bit i h) in
    let c = counted net.graph.signals a.bit.sig a.bit.at (ltb-true a.bit.at (bit_count net.graph.signals a.bit.sig) p.1) in
    slice_get_within net.graph.signals a.bit.sig c.0 c.1

pub loop-to-init : goal.loop-to-init
loop-to-init c = (refl, λ grays rings is_extra are shown bits all marked below. ([], sym (append-nil c.args.findings.now), no_readers grays rings is_extra c.args.found.now))

pub loop-to-preserved : goal.loop-to-preserved
loop-to-preserved c = (
  c.in_ok-add_reader.ensures.unchanged ∙ c.loop-to.invariant.0,
  λ grays rings is_extra are shown bits all marked below.
      let found = c.args.found.now in
      let net = found.net.now in
      let items = c.as_slice-to-items.result.now in
      let at = c.loop-to.to-index in
      let to = get_or items at none in
      let within : at < length items = c.loop-to-test.true in
      let up : IsAscending by_bit items = subst (IsAscending by_bit) (sym bits) (ascending by_bit (bits_of_registers net.graph.signals net.regs) (registers_ascend net.graph.signals net.regs (net_ascends net are.is_net))) in
      let one = c.in_ok-add_reader.ensures.added grays rings is_extra are (subst (ShowsNet net []) (sym c.loop-to.invariant.0) shown)
      (subst (IsAll (IsArrival (design_in found) (syncs_in found)) arrival_key) (sym c.as_slice-in-loop-to.ensures.value) all)
      (λ a i. subst (λ ms. IsMarked ms a.bit.sig) (sym c.as_slice-in-loop-to-2.ensures.value) (marked a (subst (λ xs. Contains xs a) c.as_slice-in-loop-to.ensures.value i)))
      (subst (ShowsBelow net c.as_slice-in-loop-to-2.result.now) c.below.view_is (subst (λ ms. ShowsBelow net ms c.below.inside.cells.items) (sym c.as_slice-in-loop-to-2.ensures.value) below))
      (unlisted net are.is_net none to (subst (λ xs. Contains xs to) bits (Contains-get_or items at none within))) in
      subst (λ xs. AddsReaders grays rings is_extra found xs c.args.findings.now c.add_reader.new.findings) (sym (take_more items at none within))
      (more_readers grays rings is_extra found (take at items) to c.args.findings.now c.loop-to.findings c.add_reader.new.findings (λ y i. front_before by_bit items up at none y within i)
      (c.loop-to.invariant.1 grays rings is_extra are shown bits all marked below) one),
)

pub returns-clause-added : goal.returns-clause-added
returns-clause-added c = λ grays rings is_extra are shown.
    let found = c.args.found.now in
    let net = found.net.now in
    let items = c.as_slice-to-items.result.now in
    let bits : items ≡ bits_of_registers net.graph.signals net.regs = c.as_slice-to-items.ensures ∙ c.in_ok-bits.ensures in
    let all = c.in_ok-arrivals.ensures grays rings are shown (c.as_slice.ensures ∙ c.in_ok-bits.ensures) in
    let marked : AreMarked c.in_ok-arrivals.arrivals.items c.in_ok-marks.marks.items = λ a i.
    c.in_ok-marks.ensures a (subst (λ xs. Contains xs a) (sym c.as_slice-2.ensures.value) i) (arrival_within net found.domains.now are.is_net are.fits a (all.only a i)) in
    let below = subst (λ ms. ShowsBelow net ms c.below.inside.cells.items) c.as_slice-3.ensures.value (subst (ShowsBelow net c.as_slice-3.result.now) (sym c.below.view_is) (c.in_ok-below.ensures are.is_net.graph)) in
    all_readers grays rings is_extra found c.args.findings.now c.loop-to.findings (subst (λ xs. AddsReaders grays rings is_extra found xs c.args.findings.now c.loop-to.findings)
    (take_all c.loop-to.to-index items c.loop-to-test.false ∙ bits) (c.loop-to.invariant.1 grays rings is_extra are shown bits all marked below))
