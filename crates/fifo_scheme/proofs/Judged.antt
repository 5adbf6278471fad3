-- What is found of two sides is their FIFO.
use Rattle.std.proofs.Common.{◌≡◌, ◌≢◌, ◌∙◌, sym, ap, ◌↔◌, subst, refl, ℕ, ◌-◌, ◌^◌, Bool, true, Some, None, List, [], ◌∷◌, slice_get, Contains, map}
use Rattle.cdc_base.specs.declared.bit.Bit.{Bit}
use Rattle.cell_graph.specs.declared.net.Net.{Net}
use Rattle.cofactor.specs.Shown.{Shown as Rows}
use Rattle.domains.specs.declared.Domains.{Domains}
use Rattle.cdc_model.specs.declared.scheme.GrayReg.{GrayReg}
use Rattle.cdc_model.specs.Nets.{design_of, next_tree}
use Rattle.cdc_model.specs.Ordered.{IsAll}
use Rattle.cdc_model.specs.Schemes.{Sync}
use Rattle.cdc_model.proofs.Ascending.{here, nothing_in}
use Rattle.fifo_laws.specs.Fifos.{all_flops, Fifo, IsFifo, IsReader, one_bit_key}
use Rattle.fifo_laws.specs.Sides.{Side, side_width}
use Rattle.fifo_scheme.specs.declared.found.Column.{Column as ColumnEntry}
use Rattle.fifo_scheme.specs.declared.found.Fifo.{Fifo as Entry}
use Rattle.fifo_scheme.specs.declared.index.Index.{Index}
use Rattle.fifo_scheme.specs.declared.index.Reading.{Reading}
use Rattle.fifo_parts.specs.declared.pair.Pair.{Pair}
use Rattle.fifo_parts.specs.declared.side.Side.{Side as SideEntry}
use Rattle.fifo_scheme.specs.Entries.{column_of}
use Rattle.fifo_scheme.specs.Judged.{IsJudged}
use Rattle.fifo_scheme.specs.Met.{ArePassed, AreReadersAt, bits_at, crossings_at, IsMatch, IsMet, IsOfEntries, IsPaired}
use Rattle.fifo_scheme.proofs.MetCrossings.{crossings_are}
use Rattle.fifo_scheme.proofs.MetPlaces.{in_bits_at}
use Rattle.fifo_scheme.proofs.MetReaders.{all_readers}
use Rattle.fifo_scheme.proofs.OneFifo.{fifo_match, one_match}

pub not_paired : (net : Net) (domains : Domains) (syncs : List Sync) (grays : List GrayReg) (write read : SideEntry) → IsPaired net domains syncs grays write.reg read.reg None → IsJudged net domains syncs grays write read None
not_paired net domains syncs grays write read h f k ew er = h k.write k.read ew er (fifo_match (design_of net domains) (next_tree net) syncs grays f k)

module _ {net : Net} {domains : Domains} {table : Rows} {syncs : List Sync} {grays : List GrayReg} {i : Index} {p : Pair} {w r : Side} (met : IsMet net domains table syncs grays i p w r)
    (write read : SideEntry) (ew : w.reg ≡ write.reg) (er : r.reg ≡ read.reg) (match : IsMatch (design_of net domains) (next_tree net) syncs grays w r) (places : List ℕ) (are : AreReadersAt net domains i w r places) where
  readers : IsAll (IsReader (design_of net domains) (next_tree net) w r) one_bit_key (bits_at i.readings places)
  readers = all_readers net domains table syncs grays i p w r met places are

  -- where there is no reader there is no FIFO
  pub no_reader : places ≡ [] → IsJudged net domains syncs grays write read None
  no_reader e f k fw fr =
      let s = one_match (design_of net domains) (next_tree net) syncs grays k.write k.read w r (fifo_match (design_of net domains) (next_tree net) syncs grays f k) match (fw ∙ sym ew) (fr ∙ sym er) in
      go f.readers k.reader (λ x h. subst (λ (ns : List ℕ). Contains (bits_at i.readings ns) x) e (readers.all x
      (subst (λ (b : Side). IsReader (design_of net domains) (next_tree net) w b x) s.1 (subst (λ (a : Side). IsReader (design_of net domains) (next_tree net) a k.read x) s.0 (k.readers.only x h)))))
    where
      go : (bs : List Bit) → bs ≢ [] → ((x : Bit) → Contains bs x → Contains [] x) → ⊥
      go [] n h = n refl
      go (b ∷ bs) n h = nothing_in b (h b (here b bs))

  some_readers : (places ≡ [] → ⊥) → bits_at i.readings places ≢ []
  some_readers some e = go places are.only some e
    where
      go : (ns : List ℕ) → ((n : ℕ) → Contains ns n → (q : Reading) × (slice_get i.readings n ≡ Some q) × IsReader (design_of net domains) (next_tree net) w r q.bit) → (ns ≡ [] → ⊥) → bits_at i.readings ns ≡ [] → ⊥
      go [] only n f = n refl
      go (m ∷ ns) only n f =
          let q = only m (here m ns) in
          nothing_in q.0.bit (subst (λ (bs : List Bit). Contains bs q.0.bit) f (in_bits_at i.readings (m ∷ ns) m q.0 (here m ns) q.1))

  module _ (columns : List ColumnEntry) (passed : ArePassed net domains w r columns) (test : Bit → Bool) (tests : (b : Bit) → (test b ≡ true) ↔ IsOfEntries columns b) where
    abbrev fifo : Fifo
    fifo = record {
      wb = write.reg.count;
      wg = write.reg.gray;
      rb = read.reg.count;
      rg = read.reg.gray;
      width = side_width (design_of net domains) w;
      depth = 2 ^ (side_width (design_of net domains) w - 1);
      columns = map (column_of net.graph) columns;
      readers = bits_at i.readings places;
      crossings = crossings_at test i.readings places;
      there = all_flops w;
      back = all_flops r;
    }

    is_fifo : (places ≡ [] → ⊥) → IsFifo (design_of net domains) (next_tree net) syncs grays fifo
    is_fifo some = record {
      write = w;
      read = r;
      named = (ap (λ (g : GrayReg). g.count) ew, ap (λ (g : GrayReg). g.gray) ew, ap (λ (g : GrayReg). g.count) er, ap (λ (g : GrayReg). g.gray) er);
      writes = match.writes;
      reads = match.reads;
      apart = match.apart;
      settles = match.settles;
      wide = (match.wide.0, match.wide.1, refl, match.wide.2);
      deep = refl;
      pushes = match.pushes;
      pops = match.pops;
      readers = readers;
      reader = some_readers some;
      columns = passed.columns;
      crossings = crossings_are net domains table syncs grays i p w r met columns passed places are test tests;
      flops = (refl, refl);
    }

    pub is_judged : (places ≡ [] → ⊥) → side_width (design_of net domains) w ≡ write.width → (e : Entry) → e.wb ≡ write.reg.count → e.wg ≡ write.reg.gray → e.rb ≡ read.reg.count → e.rg ≡ read.reg.gray
        → e.depth ≡ 2 ^ (write.width - 1) → e.columns ≡ columns → e.readers ≡ bits_at i.readings places → e.crossings ≡ crossings_at test i.readings places → IsJudged net domains syncs grays write read (Some e)
    is_judged some width e wb wg rb rg depth cs rs xs = (
      (
        fifo,
        is_fifo some,
        record {
          counts = (wb, wg, rb, rg);
          depth = depth ∙ ap (λ (n : ℕ). 2 ^ (n - 1)) (sym width);
          columns = ap (map (column_of net.graph)) cs;
          values = λ c h. (passed.each c (subst (λ (k : List ColumnEntry). Contains k c) cs h)).1;
          readers = rs;
          crossings = xs;
        },
      ),
      wb,
      wg,
      rb,
      rg,
    )
