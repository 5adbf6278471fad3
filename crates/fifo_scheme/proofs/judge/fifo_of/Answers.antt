-- By the pair of sides, its readers, columns and crossings.
use Rattle.std.proofs.Common.{◌≡◌, ◌∙◌, ◌↔◌, Bool, true, sym, ap, subst, refl, arith, ℕ, List, [], length, Some, Contains}
use Rattle.std.proofs.lemmas.Bool.Decides.{nat_tests}
use Rattle.cdc_base.specs.declared.bit.Bit.{Bit}
use Rattle.cdc_model.specs.declared.scheme.GrayReg.{GrayReg}
use Rattle.cdc_model.specs.Nets.{bit_count}
use Rattle.cdc_model.specs.Schemes.{Sync}
use Rattle.fifo_parts.specs.Tellers.{IsShown}
use Rattle.fifo_scheme.specs.declared.found.Column.{Column}
use Rattle.fifo_scheme.specs.Given.{AreGiven}
use Rattle.fifo_scheme.specs.Indexed.{IsIndex}
use Rattle.fifo_scheme.specs.Met.{ArePlacesOf, AreReadersAt, AreReadsOf, bits_at, crossings_at, IsMet, IsOfEntries, IsPaired, MayRead}
use Rattle.fifo_scheme.proofs.Items.{empty_of}
use Rattle.fifo_scheme.proofs.Judged.{is_judged, no_reader}
use Rattle.fifo_scheme.proofs.MetSides.{wide_of}
use Rattle.fifo_scheme.proofs.judge.fifo_of.Goals as goal
use Rattle.fifo_scheme.proofs.judge.fifo_of.Goals.{In_ok-readers}

-- the sides of the pair, the reads of columns and the places of its readers
record IsFound (c : In_ok-readers) (meant : List Sync) (grays : List GrayReg) : Type 0 where
  pub paired : IsPaired c.args.shown.net.now c.args.shown.domains.now meant grays c.args.write.now.reg c.args.read.now.reg (Some c.in-Some.pair)
  pub met : IsMet c.args.shown.net.now c.args.shown.domains.now c.args.shown.table.now meant grays c.args.index.now c.in-Some.pair paired.0 paired.1
  pub reads : AreReadsOf c.args.shown.net.now c.args.shown.domains.now c.args.index.now paired.0 paired.1 c.in_ok-reads.reads
  pub readers : AreReadersAt c.args.shown.net.now c.args.shown.domains.now c.args.index.now paired.0 paired.1 c.in_ok-readers.readers.items

is_found : (c : In_ok-readers) (meant : List Sync) (grays : List GrayReg) → AreGiven c.args.shown.net.now c.args.shown.domains.now c.args.syncs.now meant
    → IsShown c.args.shown.net.now c.args.shown.table.now → IsIndex c.args.shown.net.now c.args.shown.domains.now meant grays c.args.index.now
    → Contains c.args.index.now.sides.items c.args.write.now → Contains c.args.index.now.sides.items c.args.read.now → IsFound c meant grays
is_found c meant grays given shown is iw ir =
    let net = c.args.shown.net.now in
    let domains = c.args.shown.domains.now in
    let i = c.args.index.now in
    let pair = c.in-Some.pair in
    let told = subst (IsPaired net domains meant grays c.args.write.now.reg c.args.read.now.reg) c.in-Some.is (c.in_ok-pair.ensures meant grays given shown is iw ir) in
    let w = told.0 in
    let r = told.1 in
    let met : IsMet net domains c.args.shown.table.now meant grays i pair w r = record {
      shown = shown;
      index = is;
      pair = told.5;
      apart = told.4.apart;
      listed = (c.args.write.now, iw, ap (λ (g : GrayReg). g.count) (sym told.2));
    } in
    let reads = c.in_ok-reads.ensures meant grays w r met (c.in_ok-bits.ensures.numbers meant grays w r met) in
    let may = subst (λ (bs : List Bit). ArePlacesOf i (MayRead net domains pair.read.side.now.clock bs) c.in_ok-candidates.candidates.items) c.as_slice.ensures (c.in_ok-candidates.ensures meant grays w r met) in
    record {
      paired = told;
      met = met;
      reads = reads;
      readers = c.in_ok-readers.ensures meant grays w r met (c.in_ok-bits.ensures.bits meant grays w r met) reads
          (subst (ArePlacesOf i (MayRead net domains pair.read.side.now.clock c.in_ok-bits.field-0.bits)) (sym c.as_slice-2.ensures.value) may);
    }

pub returns-then-is_empty : goal.returns-then-is_empty
returns-then-is_empty c = λ meant grays given shown is iw ir.
    let found = is_found (goal.at.returns-then-is_empty c).In_ok-readers meant grays given shown is iw ir in
    let places = c.in_ok-readers.readers.items in
    let l : length places ≡ 0 = grind (arith, nat_tests) in
    no_reader found.met c.args.write.now c.args.read.now found.paired.2 found.paired.3 found.paired.4 places found.readers (empty_of places l)

pub returns : goal.returns
returns c = λ meant grays given shown is iw ir.
    let net = c.args.shown.net.now in
    let domains = c.args.shown.domains.now in
    let i = c.args.index.now in
    let pair = c.in-Some.pair in
    let found = is_found (goal.at.returns c).In_ok-readers meant grays given shown is iw ir in
    let w = found.paired.0 in
    let r = found.paired.1 in
    let ew = found.paired.2 in
    let places = c.in_ok-readers.readers.items in
    let columns = c.in_ok-columns.columns in
    let passed = c.in_ok-columns.ensures pair meant grays w r found.met found.reads (subst (AreReadersAt net domains i w r) (sym c.as_slice-3.ensures.value) found.readers) in
    let cross = subst (λ (cs : List Column). (test : Bit → Bool) × ((b : Bit) → (test b ≡ true) ↔ IsOfEntries cs b) × (c.in_ok-crossings.crossings ≡ crossings_at test i.readings c.as_slice-5.result.now)) c.as_slice-4.ensures c.in_ok-crossings.ensures in
    let some = λ (e : places ≡ []). let l = ap (λ (ns : List ℕ). length ns) e in let f = c.if-is_empty.false in let o : ⊥ = grind (arith, nat_tests) in o in
    let alone = (is.sides.only c.args.write.now iw).0.1 in
    let width = wide_of net domains pair.write.side.now w found.met.pair.write_tells.side in
    let own = ap (λ (g : GrayReg). bit_count net.graph.signals g.count) ew ∙ alone.count_width in
    let wide = alone.wide in
    let columns_are : c.columns.inside.items.items ≡ c.in_ok-columns.columns = cc in
    is_judged found.met c.args.write.now c.args.read.now ew found.paired.3 found.paired.4 places found.readers columns passed cross.0 cross.1 some own (record {
      wb = c.args.write.now.reg.count;
      wg = c.args.write.now.reg.gray;
      rb = c.args.read.now.reg.count;
      rg = c.args.read.now.reg.gray;
      depth = c.depth_of.result;
      columns = c.columns.inside.items.items;
      readers = c.in_ok-bits_of.field-0;
      crossings = c.in_ok-crossings.crossings;
    }) refl refl refl refl (c.depth_of.ensures (omega arith) (omega arith)) columns_are (c.in_ok-bits_of.ensures ∙ ap (bits_at i.readings) c.as_slice-6.ensures.value) (cross.2 ∙ ap (crossings_at cross.0 i.readings) c.as_slice-5.ensures.value)
