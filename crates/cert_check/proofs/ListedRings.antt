-- Rings over listed synchronizers, and what their lines determine.
use Rattle.std.proofs.Common.{◌≡◌, ◌∙◌, ◌↔◌, sym, ap, ap₂, subst, Bool, true, false, Option, Some, List, [], ◌∷◌, map, slice_get, Contains}
use Rattle.std.proofs.lemmas.Bool.{and_parts}
use Rattle.cdc_base.specs.declared.bit.Bit.{Bit}
use Rattle.cell_graph.specs.declared.net.Net.{Net}
use Rattle.cell_graph.specs.Cofactor.{reads}
use Rattle.domains.specs.declared.Domains.{Domains}
use Rattle.domains.specs.Fit.{Fit}
use Rattle.domains.specs.Nets.{IsNet}
use Rattle.cdc_model.specs.declared.scheme.GrayReg.{GrayReg}
use Rattle.cdc_model.specs.declared.scheme.Ring.{Ring as RingEntry}
use Rattle.cdc_model.specs.declared.scheme.Sync.{Sync as SyncEntry}
use Rattle.cdc_model.specs.Listed.{sync_entry, ring_entry}
use Rattle.cdc_model.specs.Nets.{design_of, net_trees, next_tree, is_register_bit}
use Rattle.cdc_model.specs.Schemes.{Sync, AreSyncs, flops, last_flop, Ring, request, acknowledge, IsRing}
use Rattle.cdc_model.specs.Syncs.{sync_of, syncs_of}
use Rattle.cdc_model.proofs.Ascending.{in_map, from_map}
use Rattle.cdc_model.proofs.Synced.{one_is, syncs_are_all}
use Rattle.handshake.specs.Pairs.{are_closed, may_turn, start_alike, turns}
use Rattle.handshake.proofs.AllRings.{closed_registers, makes_ring, may, does}
use Rattle.cert_check.specs.Certified.{IsRingItem}
use Rattle.cert_check.specs.Rings.{line_of, BeginsAt, HaveOwnFirsts}
use Rattle.cert_check.proofs.Meant.{same_line, same_ring, same_syncs}

-- ---- synchronizers

-- the synchronizer of a line
pub listed_sync : (ss : List Sync) (entries : List SyncEntry) → entries ≡ map sync_entry ss → (e : SyncEntry) → Contains entries e → (s : Sync) × Contains ss s × (e ≡ sync_entry s)
listed_sync ss entries are e i = let k = from_map sync_entry ss e (subst (λ xs. Contains xs e) are i) in (k.0, k.1, sym k.2)

pub sync_listed : (ss : List Sync) (entries : List SyncEntry) → entries ≡ map sync_entry ss → (s : Sync) → Contains ss s → Contains entries (sync_entry s)
sync_listed ss entries are s i = subst (λ xs. Contains xs (sync_entry s)) (sym are) (in_map sync_entry ss s i)

module _ (net : Net) (domains : Domains) (is : IsNet net) (fit : Fit net domains) (grays : GrayReg → Bool) (ss : List Sync)
    (are : AreSyncs (design_of net domains) (net_trees net grays) ss) where
  -- ---- synchronizers

  whole : (s : Sync) → Contains ss s → Contains (syncs_of net domains) s
  whole s i = (syncs_are_all net domains grays is fit).all s (are s i)

  one_source : (o : Option Bit) (a b : Bit) → o ≡ Some a → o ≡ Some b → a ≡ b
  one_source o a b e f = cc

  by_first : (s r : Sync) → Contains ss s → Contains ss r → s.first ≡ r.first → s ≡ r
  by_first s r i j e =
      let from : s.from ≡ r.from = one_source ((design_of net domains).copied s.first) s.from r.from (are s i).copy (ap (design_of net domains).copied e ∙ (are r j).copy) in
      sym (one_is net domains grays is fit s (are s i)).1
      ∙ ap₂ (λ (b f : Bit). sync_of net domains (record { from = b; to = f })) from e
      ∙ (one_is net domains grays is fit r (are r j)).1

  -- each has a first flop, and those with one first flop are one
  pub own_firsts : (entries : List SyncEntry) → entries ≡ map sync_entry ss → HaveOwnFirsts entries
  own_firsts entries same = record {
    first = λ e i. let s = listed_sync ss entries same e i in (s.0.first, ap (λ (x : SyncEntry). slice_get x.flops 0) s.2);
    own = λ e f b i j x y.
        let s = listed_sync ss entries same e i in
        let r = listed_sync ss entries same f j in
        s.2 ∙ ap sync_entry (by_first s.0 r.0 s.1 r.1 (first_is s.0 e b s.2 x ∙ sym (first_is r.0 f b r.2 y))) ∙ sym r.2;
  }
    where
      some_bit : (a c : Bit) → Some a ≡ Some c → a ≡ c
      some_bit a c h = cc

      first_is : (s : Sync) (e : SyncEntry) (b : Bit) → e ≡ sync_entry s → BeginsAt b e → s.first ≡ b
      first_is s e b same h = some_bit s.first b (ap (λ (x : SyncEntry). slice_get x.flops 0) (sym same) ∙ h)

  -- ---- rings

  -- a ring over other synchronizers, its own among them
  over : (others own : List Sync) (r : Ring) → Contains own r.there → Contains own r.back → IsRing (design_of net domains) (net_trees net grays) others r
      → IsRing (design_of net domains) (net_trees net grays) own r
  over others own r i j k = record {
    there = i;
    back = j;
    registers = k.registers;
    there_group = k.there_group;
    back_group = k.back_group;
    apart = k.apart;
    start = k.start;
    reads = k.reads;
    waits = k.waits;
    answers = k.answers;
  }

  to_all : (r : Ring) → IsRing (design_of net domains) (net_trees net grays) ss r → IsRing (design_of net domains) (net_trees net grays) (syncs_of net domains) r
  to_all r k = over ss (syncs_of net domains) r (whole r.there k.there) (whole r.back k.back) k

  from_all : (r : Ring) → Contains ss r.there → Contains ss r.back → IsRing (design_of net domains) (net_trees net grays) (syncs_of net domains) r
      → IsRing (design_of net domains) (net_trees net grays) ss r
  from_all r i j k = over (syncs_of net domains) ss r i j k

  module _ (s b : Sync) (i : Contains ss s) (j : Contains ss b) where
    -- of two that may turn both sources are bits of registers
    pub turn_registers : may_turn net domains (record { there = s; back = b }) ≡ true → (is_register_bit net s.from ≡ true) × (is_register_bit net b.from ≡ true)
    turn_registers h =
        let r : Ring = record { there = s; back = b } in
        let c = closed_registers net domains is fit r (whole s i) (whole b j) (and_parts (are_closed net domains r) (start_alike net r) h).0 in
        (c.0, c.1)

    pub no_turn : may_turn net domains (record { there = s; back = b }) ≡ false → IsRing (design_of net domains) (net_trees net grays) ss (record { there = s; back = b }) → ⊥
    no_turn e k = never (sym e ∙ may net domains is fit grays (record { there = s; back = b }) (to_all (record { there = s; back = b }) k))
      where
        never : false ≡ true → ⊥
        never h = cc

    pub no_read : reads [] (next_tree net s.from.sig) s.from.at (last_flop b) ≡ false → IsRing (design_of net domains) (net_trees net grays) ss (record { there = s; back = b }) → ⊥
    no_read e k = never (sym e ∙ k.reads)
      where
        never : false ≡ true → ⊥
        never h = cc

    pub ring_if : may_turn net domains (record { there = s; back = b }) ≡ true → reads [] (next_tree net s.from.sig) s.from.at (last_flop b) ≡ true
        → (turns net (record { there = s; back = b }) ≡ true) ↔ IsRing (design_of net domains) (net_trees net grays) ss (record { there = s; back = b })
    ring_if h read = (
      λ t. from_all (record { there = s; back = b }) i j (makes_ring net domains is fit grays (record { there = s; back = b }) (whole s i) (whole b j) h read t),
      λ k. does net domains is fit grays (record { there = s; back = b }) (to_all (record { there = s; back = b }) k),
    )

  -- ---- lines of rings

  module _ (entries : List SyncEntry) (same : entries ≡ map sync_entry ss) (e : RingEntry) where
    -- the ring of a line
    item_ring : IsRingItem (design_of net domains) (net_trees net grays) entries e → (r : Ring) × (e ≡ ring_entry r) × IsRing (design_of net domains) (net_trees net grays) ss r
    item_ring h =
        let own : h.0 ≡ ss = same_syncs h.0 ss (sym h.1 ∙ same) in
        (h.2.0, h.2.1, subst (λ xs. IsRing (design_of net domains) (net_trees net grays) xs h.2.0) own h.2.2)

    -- a line with a part missing
    pub no_parts : ((a f b g : Bit) (fs gs : List Bit) → e ≡ line_of a (f ∷ fs) b (g ∷ gs) → ⊥) → IsRingItem (design_of net domains) (net_trees net grays) entries e → ⊥
    no_parts none h = let k = item_ring h in none (request k.0) k.0.there.first (acknowledge k.0) k.0.back.first k.0.there.more k.0.back.more k.1

    module _ (a b : Bit) (fs gs : List Bit) (line : e ≡ line_of a fs b gs) where
      -- the parts of a line's ring
      ring_parts : (r : Ring) → e ≡ ring_entry r → (request r ≡ a) × (flops r.there ≡ fs) × (acknowledge r ≡ b) × (flops r.back ≡ gs)
      ring_parts r is = same_line (request r) a (acknowledge r) b (flops r.there) fs (flops r.back) gs (sym is ∙ line)

      pub no_there : ((x : SyncEntry) → Contains entries x → x.from ≡ a → x.flops ≡ fs → ⊥) → IsRingItem (design_of net domains) (net_trees net grays) entries e → ⊥
      no_there none h =
          let k = item_ring h in
          let p = ring_parts k.0 k.1 in
          none (sync_entry k.0.there) (sync_listed ss entries same k.0.there k.2.there) p.0 p.1

      pub no_back : ((x : SyncEntry) → Contains entries x → x.from ≡ b → x.flops ≡ gs → ⊥) → IsRingItem (design_of net domains) (net_trees net grays) entries e → ⊥
      no_back none h =
          let k = item_ring h in
          let p = ring_parts k.0 k.1 in
          none (sync_entry k.0.back) (sync_listed ss entries same k.0.back k.2.back) p.2 p.3

      -- the line of two synchronizers is that of a ring where they make one
      pub item_if : (s r : Sync) (x y : SyncEntry) → x ≡ sync_entry s → y ≡ sync_entry r → x.from ≡ a → x.flops ≡ fs → y.from ≡ b → y.flops ≡ gs → (answer : Bool)
          → (answer ≡ true) ↔ IsRing (design_of net domains) (net_trees net grays) ss (record { there = s; back = r }) → (answer ≡ true) ↔ IsRingItem (design_of net domains) (net_trees net grays) entries e
      item_if s r x y p q from there to back answer iff = (
        λ h. (ss, same, (record { there = s; back = r }, own, iff.0 h)),
        λ h.
            let k = item_ring h in
            iff.1 (subst (IsRing (design_of net domains) (net_trees net grays) ss) (same_ring k.0 (record { there = s; back = r }) (sym k.1 ∙ own)) k.2),
      )
        where
          own : e ≡ ring_entry (record { there = s; back = r })
          own =
              let from' : s.from ≡ a = ap (λ (z : SyncEntry). z.from) (sym p) ∙ from in
              let there' : flops s ≡ fs = ap (λ (z : SyncEntry). z.flops) (sym p) ∙ there in
              let to' : r.from ≡ b = ap (λ (z : SyncEntry). z.from) (sym q) ∙ to in
              let back' : flops r ≡ gs = ap (λ (z : SyncEntry). z.flops) (sym q) ∙ back in
              line ∙ ap₂ (λ (c : Bit) (hs : List Bit). line_of c hs b gs) (sym from') (sym there') ∙ ap₂ (λ (c : Bit) (hs : List Bit). line_of s.from (flops s) c hs) (sym to') (sym back')
