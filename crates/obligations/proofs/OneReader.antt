-- What one register bit reads of the arrivals.
use Rattle.std.proofs.Common.{◌≡◌, ◌≢◌, ◌∙◌, ◌↔◌, rules, refl, sym, ap, subst, ℕ, suc, ◌<◌, Bool, true, false, ltb-true, Option, Some, None, is_some, unwrap_or, List, [], ◌∷◌, Contains, slice_get, append-nil}
use Rattle.std.specs.Cmp.{IsEquivalence}
use Rattle.std.specs.Prelude.{filter}
use Rattle.std.specs.Option.{option_map_or}
use Rattle.std.proofs.lemmas.Bool.{and_parts, both_ways}
use Rattle.cdc_base.specs.declared.bit.Bit.{Bit}
use Rattle.cell_graph.specs.declared.cell.CellId.{CellId}
use Rattle.cell_graph.specs.declared.net.Net.{Net}
use Rattle.cell_graph.specs.Cofactor.{reads}
use Rattle.cofactor.specs.Walked.{is_sought}
use Rattle.cdc_model.specs.declared.scheme.Arrival.{Arrival}
use Rattle.cdc_model.specs.declared.scheme.GrayReg.{GrayReg}
use Rattle.cdc_model.specs.declared.verdict.Finding.{Finding as FindingEntry}
use Rattle.cdc_model.specs.Design.{is_behind}
use Rattle.cdc_model.specs.Found.{bits_of_signals, bits_read_by}
use Rattle.cdc_model.specs.Nets.{bit_count, next_cell, next_tree, is_register_bit, is_within}
use Rattle.cdc_model.specs.Ordered.{IsAll, IsAscending}
use Rattle.cdc_model.specs.Readers.{IsMarked}
use Rattle.cdc_model.specs.Schemes.{Ring, Sync}
use Rattle.cdc_model.specs.Verdict.{Finding, V6, IsFinding, finding_key}
use Rattle.cdc_model.proofs.Ascending.{in_filter, from_filter, ascending, filtered_ascend}
use Rattle.cdc_model.proofs.Noted.{read_listed}
use Rattle.cdc_model.proofs.ReadBits.{listed}
use Rattle.obligations.specs.declared.Found.{Found}
use Rattle.obligations.specs.declared.arrivals.Family.{Family}
use Rattle.obligations.specs.declared.arrivals.Read.{Read}
use Rattle.obligations.specs.contracts.arrivals.FamilyPartialEq.TheImpl as families
use Rattle.obligations.specs.contracts.arrivals.FamilyEq.TheImpl.Laws.{laws-law}
use Rattle.obligations.specs.Arrivals.{IsArrival, arrival_key, IsRead, AreReadsIn, AreMarked, read_key, by_bit, IsOfBits, AddsReaders}
use Rattle.obligations.specs.Findings.{number_of}
use Rattle.obligations.specs.Given.{AreFound, design_in, trees_in, syncs_in}
use Rattle.cdc_model.proofs.Keys.{ascends}
use Rattle.obligations.proofs.ReadArrivals.{none_all, only_one}

-- a bit of a marked signal is sought
marked_sought : (marks : List (Option ℕ)) (b : Bit) → IsMarked marks b.sig → is_sought marks b ≡ true
marked_sought marks b h = go (slice_get marks b.sig) h
  where
    go : (o : Option (Option ℕ)) → is_some (unwrap_or o None) ≡ true → option_map_or (λ (mark : Option ℕ). is_some mark) o true ≡ true
    go None h = refl
    go (Some mark) h = h

-- families that the code calls equal are the same
same_families : (f g : Family) → families.ghosts.eq f g ≡ true → f ≡ g
same_families f g h = search rules

equal_families : IsEquivalence families.ghosts.eq
equal_families = laws-law

pub families_equal : (f g : Family) → (families.ghosts.eq f g ≡ true) ↔ (f ≡ g)
families_equal f g = (same_families f g, λ e. subst (λ h. families.ghosts.eq f h ≡ true) e (equal_families.refl f))

-- a copy is shown by an answer, and none by none
pub some_copy : (answer copy : Option Bit) → is_some answer ≡ true → answer ≡ copy → copy ≢ None
some_copy None copy some e none = cc
some_copy (Some b) copy some e none = cc

pub no_copy : (answer copy : Option Bit) → is_some answer ≡ false → answer ≡ copy → copy ≡ None
no_copy None copy none e = sym e
no_copy (Some b) copy none e = cc

-- a register bit lies in its signal
pub register_within : (net : Net) (x : Bit) → is_register_bit net x ≡ true → x.at < bit_count net.graph.signals x.sig
register_within net x reg = ltb-true x.at (bit_count net.graph.signals x.sig) (and_parts (is_some (next_cell net.regs x.sig)) (is_within net x) reg).1

module _ (grays : GrayReg → Bool) (rings : List Ring) (is_extra : Bit → Bit → Bool) (found : Found) (x : Bit) where
  abbrev IsSuch : Finding → Type 0
  IsSuch f = IsFinding (design_in found) (trees_in grays found) found.grays.now (syncs_in found) rings found.loads.now is_extra f

  abbrev IsReader : Finding → Type 0
  IsReader f = IsSuch f × (number_of f ≡ 6) × IsOfBits (x ∷ []) f

  -- where no finding is one of the bit, nothing is added
  pub nothing_added : ((g : ℕ) → IsSuch (V6 x g) → ⊥) → (old : List FindingEntry) → AddsReaders grays rings is_extra found (x ∷ []) old old
  nothing_added none old = ([], sym (append-nil old), record { all = none_all finding_key IsReader no_reader; shown = tt })
    where
      no_reader : (f : Finding) → IsReader f → ⊥
      no_reader f p = none p.2.1 (subst IsSuch (p.2.3 ∙ ap (λ b. V6 b p.2.1) (sym (only_one x p.2.0 p.2.2))) p.0)

module _ (grays : GrayReg → Bool) (rings : List Ring) (found : Found) (are : AreFound grays rings found) (x : Bit) (reg : is_register_bit found.net.now x ≡ true)
    (arrivals : List Arrival) (all : IsAll (IsArrival (design_in found) (syncs_in found)) arrival_key arrivals) (marks : List (Option ℕ)) (marked : AreMarked arrivals marks) where
  -- the signal of an arrival is marked
  pub arrival_marked : (s : Sync) (n : ℕ) (y : Bit) → Contains (syncs_in found) s → is_behind (design_in found) s.first n y ≡ true → IsMarked marks y.sig
  arrival_marked s n y i h = let a : Arrival = record { bit = y; source = s.from; depth = suc n } in marked a (all.all a (s, n, i, h, refl, refl))

  -- a bit that is a copy, or that reads no marked signal, has no finding
  pub copy_unfound : (is_extra : Bit → Bit → Bool) → ((design_in found).copied x ≢ None) → (g : ℕ)
      → IsFinding (design_in found) (trees_in grays found) found.grays.now (syncs_in found) rings found.loads.now is_extra (V6 x g) → ⊥
  copy_unfound is_extra copy g f = copy f.1

  pub unread_unfound : (is_extra : Bit → Bit → Bool) → ((b : Bit) → IsMarked marks b.sig → reads [] (next_tree found.net.now x.sig) x.at b ≡ false) → (g : ℕ)
      → IsFinding (design_in found) (trees_in grays found) found.grays.now (syncs_in found) rings found.loads.now is_extra (V6 x g) → ⊥
  unread_unfound is_extra unread g (reg', plain, (s, r, y, z, n, m, h, k, apart)) = both_ways (reads [] (next_tree found.net.now x.sig) x.at y) (unread y (arrival_marked s n y h.sync h.arrival)) h.reads

  module _ (bits : List Bit) (are_bits : bits ≡ filter (is_sought marks) (bits_read_by found.net.now [] x)) where
    abbrev test : Bit → Bool
    test b = reads [] (next_tree found.net.now x.sig) x.at b

    cell : (o : Option CellId) → next_cell found.net.now.regs x.sig ≡ o → is_some o ≡ true → (c : CellId) × (next_cell found.net.now.regs x.sig ≡ Some c)
    cell None e h = cc
    cell (Some c) e h = (c, e)

    -- the sought bits that it reads ascend
    pub bits_ascend : IsAscending by_bit bits
    bits_ascend =
        let c = cell (next_cell found.net.now.regs x.sig) refl (and_parts (is_some (next_cell found.net.now.regs x.sig)) (is_within found.net.now x) reg).0 in
        subst (IsAscending by_bit) (sym are_bits)
        (ascending by_bit (filter (is_sought marks) (bits_read_by found.net.now [] x)) (filtered_ascend by_bit (is_sought marks) (bits_read_by found.net.now [] x)
        (ascends by_bit (bits_read_by found.net.now [] x) (listed found.net.now are.is_net are.has_next [] x (register_within found.net.now x reg) c.0 c.1).ordered)))

    -- the reads at those bits are all that it reads
    pub reads_all : (rs : List Read) → AreReadsIn (design_in found) found.grays.now (syncs_in found) bits rs
        → IsAll (λ r. IsRead (design_in found) found.grays.now (syncs_in found) r × ((trees_in grays found).reads [] x r.arrival.bit ≡ true)) read_key rs
    reads_all rs h = record {
      all = λ r p.
          let b = r.arrival.bit in
          let s = p.0 in
          h.all r (
            s,
            subst (λ bs. Contains bs b) (sym are_bits)
                (in_filter (is_sought marks) (bits_read_by found.net.now [] x) b (read_listed found.net.now are.is_net are.has_next [] x (register_within found.net.now x reg) b p.1)
                (marked_sought marks b (arrival_marked s.0 s.1 b s.2 s.3))),
          );
      only = λ r i.
          let p = h.only r i in
          let f = from_filter (is_sought marks) (bits_read_by found.net.now [] x) r.arrival.bit (subst (λ bs. Contains bs r.arrival.bit) are_bits p.1) in
          (p.0, (from_filter test (bits_of_signals 0 found.net.now.graph.signals) r.arrival.bit f.0).1);
      ordered = h.ordered;
    }
