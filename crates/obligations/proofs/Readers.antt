-- The readers of arrivals of several families.
use Rattle.std.proofs.Common.{◌≡◌, ◌∙◌, ◌↔◌, refl, sym, ap, ap₂, subst, ℕ, suc, Bool, true, cond, Option, Some, None, is_some, option_map, List, [], ◌∷◌, map, Contains}
use Rattle.std.specs.List.{flat_map}
use Rattle.std.specs.Prelude.{filter}
use Rattle.std.proofs.lemmas.Bool.{and_parts}
use Rattle.cdc_base.specs.declared.bit.Bit.{Bit}
use Rattle.cell_graph.specs.declared.net.Net.{Net}
use Rattle.domains.specs.declared.Domains.{Domains}
use Rattle.domains.specs.Assignment.{clock_of, group_of}
use Rattle.domains.specs.Fit.{Fit}
use Rattle.domains.specs.Nets.{IsNet}
use Rattle.cdc_model.specs.declared.scheme.Arrival.{Arrival}
use Rattle.cdc_model.specs.declared.scheme.GrayReg.{GrayReg}
use Rattle.cdc_model.specs.declared.verdict.Finding.{Finding as FindingEntry}
use Rattle.cdc_model.specs.declared.verdict.Finding.TheVariants as entry
use Rattle.cdc_model.specs.Design.{Design, group, is_behind}
use Rattle.cdc_model.specs.Nets.{design_of, next_cell, is_register_bit, is_within}
use Rattle.cdc_model.specs.Ordered.{IsAll, is_before}
use Rattle.cdc_model.specs.Schemes.{Sync, Ring}
use Rattle.cdc_model.specs.Syncs.{syncs_of}
use Rattle.cdc_model.specs.Together.{Reads}
use Rattle.cdc_model.specs.Verdict.{family, OfWord, OfBit, is_code, bit_key, Finding, V1, V2, V3, V4, V5, V6, V7, V8, IsFinding, IsReadArrival, AreArrivalsListed, finding_key}
use Rattle.cdc_model.proofs.Ascending.{here, in_map, from_map, in_filter, from_filter, same_before, ascending, filtered_ascend, mapped_ascend}
use Rattle.cdc_model.proofs.Behind.{source_clock, behind_clock}
use Rattle.cdc_model.proofs.Loads.{all_of}
use Rattle.cdc_model.proofs.NetDesign.{group_is, cond_some}
use Rattle.obligations.specs.declared.Found.{Found}
use Rattle.obligations.specs.declared.arrivals.Family.{Family}
use Rattle.obligations.specs.declared.arrivals.Read.{Read}
use Rattle.obligations.specs.Arrivals.{IsArrival, IsRead, family_as, family_at, read_key, of_one_group, group_key, arrival_of, has_several_families, v6_of, IsOfBits, AreReaders}
use Rattle.obligations.specs.Findings.{number_of, IsShownBy}
use Rattle.obligations.specs.Given.{design_in, trees_in, syncs_in}
use Rattle.obligations.specs.Lots.{AreInLots, lots_of}
use Rattle.obligations.proofs.AllArrivals.{are_syncs, register_at, one_place}
use Rattle.cdc_model.proofs.Keys.{ascends}
use Rattle.obligations.proofs.Lots.{all_found, each_found, one_differs, some_differ}
use Rattle.obligations.proofs.ReadArrivals.{of_one_group_is, kept_as, as_kept, kept_is, only_one}

one_of : {A : Type 0} (x y : A) → Some x ≡ Some y → x ≡ y
one_of x y e = cc

module _ (net : Net) (domains : Domains) (is : IsNet net) (fit : Fit net domains) (grays : List GrayReg) where
  abbrev d : Design
  d = design_of net domains

  abbrev ss : List Sync
  ss = syncs_of net domains

  source_group : (s : Sync) → Contains ss s → (g : ℕ) × (group d s.from ≡ Some g) × (group_of domains s.from ≡ Some g)
  source_group s i =
      let c = source_clock d s.from s.first (are_syncs net domains is fit s i).crossing.async in
      let grouped : group d s.from ≡ Some (d.group_of c.0) = ap (option_map d.group_of) c.1 in
      (d.group_of c.0, grouped, sym (group_is net domains fit s.from (cond_some (is_within net s.from) (clock_of domains s.from) c.0 c.1).0) ∙ grouped)

  -- the source of an arrival has a group
  pub source_grouped : (a : Arrival) → IsArrival d ss a → group_of domains a.source ≡ None → ⊥
  source_grouped a s e = none (sym e ∙ ap (group_of domains) s.4 ∙ (source_group s.0 s.2).2)
    where
      none : {g : ℕ} → None ≡ Some g → ⊥
      none f = cc

  -- an arrival with the group of its source and with its family
  pub read_made : (a : Arrival) → IsArrival d ss a → (g : ℕ) → group_of domains a.source ≡ Some g → (f : Family) → family_as f ≡ family_at domains grays a → IsRead d grays ss (record { group = g; family = f; arrival = a })
  read_made a (s, n, i, h, src, dep) g e f k = (s, n, i, h, src, dep, from, k ∙ ap₂ (λ (b : Bit) (o : Option ℕ). cond (is_code grays b.sig) (OfWord b.sig o) (OfBit b o)) src entered)
    where
      from : group d s.from ≡ Some g
      from = let o = source_group s i in o.1 ∙ sym o.2 ∙ sym (ap (group_of domains) src) ∙ e

      entered : group_of domains a.bit ≡ group d s.first
      entered = sym (group_is net domains fit a.bit (and_parts (is_some (next_cell net.regs a.bit.sig)) (is_within net a.bit) (register_at net domains is fit s n a.bit i h)).1)
          ∙ ap (option_map d.group_of) (behind_clock d s.first n a.bit h)

  -- there is one read at a bit
  pub one_read : (r q : Read) → IsRead d grays ss r → IsRead d grays ss q → r.arrival.bit ≡ q.arrival.bit → r ≡ q
  one_read r q (s, n, i, h, src, dep, grp, fam) (o, m, j, k, from, deep, come, kin) e =
      ap (λ g. record { group = g; family = r.family; arrival = r.arrival }) groups ∙ ap (λ f. record { group = q.group; family = f; arrival = r.arrival }) families
      ∙ ap (λ a. record { group = q.group; family = q.family; arrival = a }) arrivals
    where
      place : (n ≡ m) × (s.first ≡ o.first)
      place = one_place net domains is fit s o n m r.arrival.bit i j h (subst (λ (b : Bit). is_behind d o.first m b ≡ true) (sym e) k)

      sources : s.from ≡ o.from
      sources = one_of s.from o.from (sym (are_syncs net domains is fit s i).copy ∙ ap d.copied place.1 ∙ (are_syncs net domains is fit o j).copy)

      groups : r.group ≡ q.group
      groups = one_of r.group q.group (sym grp ∙ ap (group d) sources ∙ come)

      families : r.family ≡ q.family
      families = sym (kept_is r.family) ∙ ap kept_as (fam ∙ ap₂ (λ (b f : Bit). cond (is_code grays b.sig) (OfWord b.sig (group d f)) (OfBit b (group d f))) sources place.1 ∙ sym kin) ∙ kept_is q.family

      arrivals : r.arrival ≡ q.arrival
      arrivals = ap (λ (b : Bit). record { bit = b; source = r.arrival.source; depth = r.arrival.depth }) e
          ∙ ap₂ (λ (b : Bit) (l : ℕ). record { bit = q.arrival.bit; source = b; depth = l }) (src ∙ sources ∙ sym from) (dep ∙ ap suc place.0 ∙ sym deep)

-- ---- findings

module _ (grays : GrayReg → Bool) (rings : List Ring) (is_extra : Bit → Bit → Bool) (found : Found) (x : Bit) (reg : is_register_bit found.net.now x ≡ true) (plain : (design_in found).copied x ≡ None)
    (equal : Family → Family → Bool) (decides : (f g : Family) → (equal f g ≡ true) ↔ (f ≡ g)) (reads sorted : List Read)
    (all : IsAll (λ r. IsRead (design_in found) found.grays.now (syncs_in found) r × ((trees_in grays found).reads [] x r.arrival.bit ≡ true)) read_key reads)
    (lots : AreInLots of_one_group group_key reads sorted) where
  abbrev list : List GrayReg
  list = found.grays.now

  abbrev IsReader : Finding → Type 0
  IsReader f = (IsFinding (design_in found) (trees_in grays found) found.grays.now (syncs_in found) rings found.loads.now is_extra f) × (number_of f ≡ 6) × IsOfBits (x ∷ []) f

  in_sorted : (r : Read) → Contains reads r → Contains sorted r
  in_sorted r i = (from_filter (of_one_group r) sorted r (subst (λ rs. Contains rs r) (sym (lots.kept r)) (in_filter (of_one_group r) reads r i ((of_one_group_is r r).1 refl)))).0

  of_sorted : (r : Read) → Contains sorted r → Contains reads r
  of_sorted r i = (from_filter (of_one_group r) reads r (subst (λ rs. Contains rs r) (lots.kept r) (in_filter (of_one_group r) sorted r i ((of_one_group_is r r).1 refl)))).0

  -- an arrival that the bit reads
  read_of : (g n : ℕ) (s : Sync) (y : Bit) → Reads (design_in found) (trees_in grays found) (syncs_in found) x g n s y
      → (r : Read) × Contains reads r × (r.group ≡ g) × (family_as r.family ≡ family (design_in found) found.grays.now s) × (r.arrival ≡ record { bit = y; source = s.from; depth = suc n })
  read_of g n s y h =
      let r : Read = record { group = g; family = kept_as (family (design_in found) found.grays.now s); arrival = record { bit = y; source = s.from; depth = suc n } } in
      let fam = as_kept (family (design_in found) found.grays.now s) in
      (r, all.all r ((s, n, h.sync, h.arrival, refl, refl, h.from, fam), h.reads), refl, fam, refl)

  reads_at : (r : Read) → Contains reads r → (s : Sync) × (n : ℕ) × Reads (design_in found) (trees_in grays found) (syncs_in found) x r.group n s r.arrival.bit
      × (r.arrival.source ≡ s.from) × (r.arrival.depth ≡ suc n) × (family_as r.family ≡ family (design_in found) found.grays.now s)
  reads_at r i =
      let ((s, n, j, h, src, dep, grp, fam), k) = all.only r i in
      (s, n, record { sync = j; from = grp; arrival = h; reads = k }, src, dep, fam)

  group_same : (r q : Read) → group_key r ≡ group_key q → r.group ≡ q.group
  group_same r q e = cc

  shown : (f : Finding) → IsReader f → (r : Read) × Contains sorted r × (f ≡ V6 x r.group) × ((h : Read) → Contains sorted h → group_key h ≡ group_key r → has_several_families equal h (filter (of_one_group h) sorted) ≡ true)
  shown (V1 b y) (k, n, o) = cc
  shown (V2 b y) (k, n, o) = cc
  shown (V3 w g) (k, n, o) = cc
  shown (V4 b g) (k, n, o) = cc
  shown (V5 w g) (k, n, o) = cc
  shown (V6 y g) ((reg', plain', (s, r, u, v, n, m, hs, hr, apart)), num, (z, k, i, is)) =
      let same : y ≡ x = reader (is ∙ ap (λ (b : Bit). V6 b k) (sym (only_one x z i))) in
      let a = read_of g n s u (subst (λ (b : Bit). Reads (design_in found) (trees_in grays found) (syncs_in found) b g n s u) same hs) in
      let b = read_of g m r v (subst (λ (b : Bit). Reads (design_in found) (trees_in grays found) (syncs_in found) b g m r v) same hr) in (
        a.0,
        in_sorted a.0 a.1,
        ap₂ V6 same (sym a.2),
        λ h j e.
            some_differ equal decides (λ (q : Read). q.family) h a.0 b.0 (filter (of_one_group h) sorted)
            (in_filter (of_one_group h) sorted a.0 (in_sorted a.0 a.1) ((of_one_group_is h a.0).1 e))
            (in_filter (of_one_group h) sorted b.0 (in_sorted b.0 b.1) ((of_one_group_is h b.0).1 (e ∙ ap (λ l. l ∷ []) (a.2 ∙ sym b.2))))
            (λ f. apart (sym a.3 ∙ ap family_as f ∙ b.3)),
      )
    where
      reader : {p q : Bit} {l j : ℕ} → V6 p l ≡ V6 q j → p ≡ q
      reader e = cc
  shown (V7 b y l) (k, n, o) = cc
  shown (V8 b y l) (k, n, o) = cc

  only : (r : Read) → Contains sorted r → has_several_families equal r (filter (of_one_group r) sorted) ≡ true → IsReader (V6 x r.group)
  only r i p =
      let q = one_differs equal decides (λ (q : Read). q.family) r (filter (of_one_group r) sorted) p in
      let f = from_filter (of_one_group r) sorted q.0 q.1 in
      let a = reads_at r (of_sorted r i) in
      let b = reads_at q.0 (of_sorted q.0 f.0) in
      let groups : q.0.group ≡ r.group = sym (group_same r q.0 ((of_one_group_is r q.0).0 f.1)) in (
        (
          reg,
          plain,
          (
            a.0,
            b.0,
            r.arrival.bit,
            q.0.arrival.bit,
            a.1,
            b.1,
            a.2,
            subst (λ g. Reads (design_in found) (trees_in grays found) (syncs_in found) x g b.1 b.0 q.0.arrival.bit) groups b.2,
            λ e. q.2 (sym (kept_is r.family) ∙ ap kept_as (a.5 ∙ e ∙ sym b.5) ∙ kept_is q.0.family),
          ),
        ),
        refl,
        (x, r.group, here x [], refl),
      )

  -- the arrivals of a lot are those that the bit reads from the group
  listed : (r : Read) → AreArrivalsListed (design_in found) (trees_in grays found) (syncs_in found) x r.group (map arrival_of (filter (of_one_group r) reads))
  listed r = record {
    all = λ a (s, n, h, src, dep).
        let q = read_of r.group n s a.bit h in
        subst (Contains (map arrival_of (filter (of_one_group r) reads)))
        (q.4 ∙ ap₂ (λ (b : Bit) (l : ℕ). record { bit = a.bit; source = b; depth = l }) (sym src) (sym dep))
        (in_map arrival_of (filter (of_one_group r) reads) q.0 (in_filter (of_one_group r) reads q.0 q.1 ((of_one_group_is r q.0).1 (ap (λ g. g ∷ []) (sym q.2)))));
    only = λ a i.
        let q = from_map arrival_of (filter (of_one_group r) reads) a i in
        let f = from_filter (of_one_group r) reads q.0 q.1 in
        let s = reads_at q.0 f.0 in
        subst (IsReadArrival (design_in found) (trees_in grays found) (syncs_in found) x r.group) q.2
        (s.0, s.1, subst (λ g. Reads (design_in found) (trees_in grays found) (syncs_in found) x g s.1 s.0 q.0.arrival.bit) (sym (group_same r q.0 ((of_one_group_is r q.0).0 f.1))) s.2, s.3, s.4);
    ordered = ascending (λ a. bit_key a.bit []) (map arrival_of (filter (of_one_group r) reads))
        (mapped_ascend arrival_of (λ a. bit_key a.bit []) (filter (of_one_group r) reads) (filtered_ascend read_key (of_one_group r) reads (ascends read_key reads all.ordered)));
  }

  pub readers_found : AreReaders grays rings is_extra found (x ∷ []) (flat_map (v6_of equal x) (lots_of of_one_group sorted))
  readers_found = record {
    all = all_found group_key of_one_group of_one_group_is (has_several_families equal) make (λ r. V6 x r.group) (λ r lot. refl) (λ r q e. ap (V6 x) (group_same r q e)) rise sorted lots.rises IsReader shown only;
    shown = all_of (IsShownBy (design_in found) (trees_in grays found) (syncs_in found)) (flat_map (v6_of equal x) (lots_of of_one_group sorted))
        (each_found group_key of_one_group of_one_group_is (has_several_families equal) make (λ r. V6 x r.group) (λ r lot. refl) (λ r q e. ap (V6 x) (group_same r q e)) rise sorted lots.rises
        (IsShownBy (design_in found) (trees_in grays found) (syncs_in found)) (λ r i.
        subst (λ rs. AreArrivalsListed (design_in found) (trees_in grays found) (syncs_in found) x r.group (map arrival_of rs)) (sym (lots.kept r)) (listed r)));
  }
    where
      make : Read → List Read → FindingEntry
      make r rs = entry.V6 x r.group (map arrival_of rs)

      rise : (r q : Read) → is_before (group_key r) (group_key q) ≡ true → is_before (finding_key (V6 x r.group)) (finding_key (V6 x q.group)) ≡ true
      rise r q h = same_before 6 6 (bit_key x (r.group ∷ [])) (bit_key x (q.group ∷ [])) refl
          (same_before x.sig x.sig (x.at ∷ r.group ∷ []) (x.at ∷ q.group ∷ []) refl (same_before x.at x.at (r.group ∷ []) (q.group ∷ []) refl h))
