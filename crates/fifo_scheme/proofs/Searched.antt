-- What a search finds, by what its parts found.
use Rattle.std.proofs.Common.{◌≡◌, ◌↔◌, sym, subst, List, [], None, Some, ℕ, map, Contains}
use Rattle.std.specs.BTreeMap as tree
use Rattle.std.specs.BTreeMap.{BTreeMap}
use Rattle.cell_graph.specs.declared.net.Net.{Net}
use Rattle.cell_graph.specs.Shared.{IsShared}
use Rattle.cell_graph.specs.Unfolded.{IsWellFormed}
use Rattle.cofactor.specs.Shown.{Shown as Rows}
use Rattle.domains.specs.declared.Domains.{Domains}
use Rattle.domains.specs.Fit.{Fit}
use Rattle.domains.specs.Nets.{IsNet}
use Rattle.cdc_model.specs.declared.scheme.Crossing.{Crossing}
use Rattle.cdc_model.specs.declared.scheme.GrayReg.{GrayReg}
use Rattle.cdc_model.specs.declared.scheme.Sync.{Sync as SyncEntry}
use Rattle.cdc_model.specs.Listed.{sync_entry}
use Rattle.cdc_model.specs.Nets.{HasNextCells, design_of, next_tree}
use Rattle.cdc_model.specs.Ordered.{IsAll}
use Rattle.cdc_model.specs.Schemes.{Ring, Sync, Trees}
use Rattle.cdc_model.specs.Tables.{ShowsNet}
use Rattle.gray_pointer.specs.Words.{IsPlain}
use Rattle.fifo_laws.specs.Laws.{AreLists}
use Rattle.fifo_scheme.specs.contracts.finder.KeyOrd.TheImpl as order
use Rattle.fifo_scheme.specs.declared.finder.Key.{Key}
use Rattle.fifo_scheme.specs.declared.finder.Sides.{Sides}
use Rattle.fifo_scheme.specs.declared.found.Fifo.{Fifo as Entry}
use Rattle.fifo_scheme.specs.declared.found.FifoPair.{FifoPair}
use Rattle.fifo_scheme.specs.declared.index.Index.{Index}
use Rattle.fifo_scheme.specs.Candidates.{AreAt, AreBy, AreKept, AreLookedUp, AreMade, IsFirst, IsReadTo, OfOne}
use Rattle.fifo_scheme.specs.Entries.{IsCrossingOfOne, IsListedFifo, fifo_key}
use Rattle.fifo_scheme.specs.Found.{Found, HasOrder, IsFoundFor}
use Rattle.fifo_scheme.specs.Given.{AreGiven}
use Rattle.fifo_scheme.specs.Indexed.{IsIndex}
use Rattle.fifo_scheme.specs.Pairs.{AreStoodFor, IsFirstMissing, IsStoodFor}
use Rattle.fifo_parts.specs.Tellers.{IsShown}
use Rattle.fifo_scheme.proofs.FoundAll.{all_by_reads, all_stood_for, first_missing, stood_for}
use Rattle.fifo_scheme.proofs.FoundFor.{has_order, made_fit}

-- the table, the index, the candidates and the FIFOs are what those that made them say
pub record IsSearched (net : Net) (domains : Domains) (entries : List SyncEntry) (grays : List GrayReg) (P : Key → Type 0) (i : Index) (m : BTreeMap Key Sides) (fifos : List Entry) : Type 0 where
  pub table : Rows
  pub after : Rows
  pub same : after ≡ table
  pub shows : IsWellFormed net.graph → ShowsNet net [] table
  pub index : (syncs : List Sync) → IsNet net → HasNextCells net → Fit net domains → IsShared net.graph → ShowsNet net [] table
      → entries ≡ map sync_entry syncs → IsIndex net domains syncs grays i
  pub candidates : AreLookedUp i → AreAt i.sides.items P m
  pub made : (syncs : List Sync) (grays : List GrayReg) → AreGiven net domains entries syncs → IsShown net after → IsIndex net domains syncs grays i → AreKept i.sides.items m
      → AreMade net domains syncs grays i.sides.items m.entries fifos
  pub ordered : tree.IsOrdered order.ghosts.cmp m

module _ {net : Net} {domains : Domains} {entries : List SyncEntry} {grays : List GrayReg} {P : Key → Type 0} {i : Index} {m : BTreeMap Key Sides} {fifos : List Entry}
    (is : IsSearched net domains entries grays P i m fifos) (syncs : List Sync) (given : AreGiven net domains entries syncs) where
  plain : IsPlain net.graph
  plain = record { well = given.is_net.graph; shared = given.is_shared }

  index : IsIndex net domains syncs grays i
  index = is.index syncs given.is_net given.has_next given.fits given.is_shared (is.shows given.is_net.graph) given.listed

  at : AreAt i.sides.items P m
  at = is.candidates index.sides_at

  made : AreMade net domains syncs grays i.sides.items m.entries fifos
  made = is.made syncs grays given
      (record { is_net = given.is_net; has_next = given.has_next; is_shared = given.is_shared; shows = subst (ShowsNet net []) (sym is.same) (is.shows given.is_net.graph) })
      index (λ k p e. (at.only k p e).0)

  pub are_listed : (e : Entry) → Contains fifos e → IsListedFifo net domains syncs grays e
  are_listed e h = (made.only e h).0

  module _ (t : Trees) (lists : AreLists (design_of net domains) (next_tree net) t syncs grays) where
    pub all_are_found : ((k : Key) → OfOne (IsReadTo net i) i.reads k → P k) → IsAll (IsListedFifo net domains syncs grays) fifo_key fifos
    all_are_found led = all_by_reads net domains plain given.has_next t syncs grays lists i index P m fifos at made led

    pub they_fit : (found : Found) → (found.net ≡ net) × (found.domains ≡ domains) × (found.syncs ≡ entries) × (found.grays ≡ grays) × (found.fifos ≡ fifos)
        → ((c : Crossing) → Contains found.crossings c ↔ IsCrossingOfOne fifos c) → IsFoundFor found (design_of net domains) t syncs grays
    they_fit found of all = made_fit net domains syncs grays found fifos t entries lists given.listed of are_listed all

    pub they_have_order : (rings : List Ring) (e : Entry) → Contains fifos e → HasOrder net domains syncs grays rings e
    they_have_order rings e h = has_order net domains syncs grays t lists rings e (are_listed e h)

  module _ (pairs : List FifoPair) (from : (k : Key) → P k → OfOne (λ (p : FifoPair) k. AreBy i.sides.items p.wb p.rb k) pairs k) where
    pub they_are_stood_for : (e : Entry) → Contains fifos e → IsStoodFor pairs e
    they_are_stood_for e h = stood_for net domains syncs grays i index P m fifos at made pairs is.ordered from e h

    module _ (t : Trees) (lists : AreLists (design_of net domains) (next_tree net) t syncs grays) (by : (k : Key) → OfOne (λ (p : FifoPair) k. AreBy i.sides.items p.wb p.rb k) pairs k → P k) where
      pub all_pairs : IsFirst fifos pairs None → AreStoodFor net domains syncs grays pairs fifos
      all_pairs each = all_stood_for net domains plain given.has_next t syncs grays lists i index P m fifos at made pairs is.ordered by from each

      pub missing_pair : (n : ℕ) → IsFirst fifos pairs (Some n) → IsFirstMissing net domains syncs grays pairs n
      missing_pair n first = first_missing net domains plain given.has_next t syncs grays lists i index P m fifos at made pairs is.ordered by from n first
