-- Listed synchronizers are tested one flop after the other.
use Rattle.std.proofs.Common.{◌≡◌, ◌∙◌, refl, sym, ap, ap₂, subst, arith, ℕ, zero, suc, ◌+◌, ◌-◌, ◌<◌, ◌≤◌, ◌&&◌, nat_lt, nat_le, ltb-true, lt-ltb, Bool, true, false, not, Option, Some, None, is_none, is_some, List, [], ◌∷◌, length, drop, get_or}
use Rattle.std.specs.Option.{option_map_or}
use Rattle.std.proofs.lemmas.Bool.{and_parts, and_from, leb-true, le-leb}
use Rattle.std.proofs.lemmas.List.{drop_more, drop_all}
use Rattle.cdc_base.specs.declared.bit.Bit.{Bit}
use Rattle.cell_graph.specs.declared.cell.CellId.{CellId}
use Rattle.cell_graph.specs.declared.net.Net.{Net}
use Rattle.cell_graph.specs.Cofactor.{same}
use Rattle.cell_graph.specs.Reading.{bit_eq}
use Rattle.cell_graph.proofs.Bits.{bit_eq-true, eq-bit_eq}
use Rattle.domains.specs.declared.Domains.{Domains}
use Rattle.domains.specs.Assignment.{clock_of, group_of}
use Rattle.domains.specs.Fit.{Fit}
use Rattle.domains.specs.Nets.{IsNet}
use Rattle.cdc_model.specs.declared.scheme.Crossing.{Crossing}
use Rattle.cdc_model.specs.declared.scheme.GrayReg.{GrayReg}
use Rattle.cdc_model.specs.declared.scheme.Sync.{Sync as SyncEntry}
use Rattle.cdc_model.specs.Design.{at_bit, are_async, differ, settle_of}
use Rattle.cdc_model.specs.Nets.{HasNextCells, next_cell, next_tree, bit_count, is_within, is_register_bit, design_of, net_trees, settle_at}
use Rattle.cdc_model.specs.Schemes.{Sync, IsCrossing, IsSync}
use Rattle.cdc_model.specs.Syncs.{copies, next_flop, flops_behind}
use Rattle.cdc_model.proofs.Net.{self_reads}
use Rattle.cdc_model.proofs.NetDesign.{group_is}
use Rattle.cdc_model.proofs.ReadBits.{read-within}
use Rattle.cdc_model.proofs.Synced.{is_one, one_is, next_copies}
use Rattle.two_flop.proofs.Chains.{bit_inside, settle_is}
use Rattle.cert_check.specs.Certified.{IsSyncItem}
use Rattle.cert_check.specs.Items.{is_next, is_chain, is_sync_item}
use Rattle.cert_check.proofs.FirstFailing.{other}

copied_from : (o : Option Bit) (b : Bit) → at_bit o (λ a. bit_eq a b) ≡ true → o ≡ Some b
copied_from None b h = other h
copied_from (Some a) b h = ap Some (bit_eq-true a b h)

some_cell : (o : Option CellId) → is_some o ≡ true → (c : CellId) × (o ≡ Some c)
some_cell None h = other h
some_cell (Some c) h = (c, refl)

module _ (net : Net) (domains : Domains) where
  next_from : (f g : Bit) → is_next net domains f g ≡ true → next_flop net domains f ≡ Some g
  next_from f g h = copied_from (next_flop net domains f) g h

  -- the flops that are tested are those behind the flop
  chain_from : (n : ℕ) (f : Bit) (gs : List Bit) → is_chain net domains n f gs ≡ true → gs ≡ flops_behind net domains n f
  chain_from zero f [] h = refl
  chain_from zero f (g ∷ gs) h = other h
  chain_from (suc n) f [] h = go (next_flop net domains f) h
    where
      go : (o : Option Bit) → is_none o ≡ true → [] ≡ option_map_or (λ (g : Bit). g ∷ flops_behind net domains n g) o []
      go None h = refl
      go (Some g) h = other h
  chain_from (suc n) f (g ∷ gs) h =
      let p = and_parts (is_next net domains f g) (is_chain net domains n g gs) h in
      ap (λ xs. g ∷ xs) (chain_from n g gs p.1) ∙ sym (ap (λ o. option_map_or (λ (g : Bit). g ∷ flops_behind net domains n g) o []) (next_from f g p.0))

  from_chain : (n : ℕ) (f : Bit) → is_chain net domains n f (flops_behind net domains n f) ≡ true
  from_chain zero f = refl
  from_chain (suc n) f = go (next_flop net domains f) refl (from_chain n)
    where
      go : (o : Option Bit) → next_flop net domains f ≡ o → ((g : Bit) → is_chain net domains n g (flops_behind net domains n g) ≡ true)
          → is_chain net domains (suc n) f (option_map_or (λ (g : Bit). g ∷ flops_behind net domains n g) o []) ≡ true
      go None e ih = ap is_none e
      go (Some g) e ih = and_from (is_next net domains f g) (is_chain net domains n g (flops_behind net domains n g)) (ap (λ o. at_bit o (λ h. bit_eq h g)) e ∙ eq-bit_eq g g refl) (ih g)

  and_false : (v : Bool) → (v && false) ≡ false
  and_false true = refl
  and_false false = refl

  -- more flops than are asked for are too many
  pub too_many : (n : ℕ) (f : Bit) (gs : List Bit) → n < length gs → is_chain net domains n f gs ≡ false
  too_many zero f [] l = absurd (omega arith)
  too_many zero f (g ∷ gs) l = refl
  too_many (suc n) f [] l = absurd (omega arith)
  too_many (suc n) f (g ∷ gs) l = ap (λ v. is_next net domains f g && v) (too_many n g gs (omega arith)) ∙ and_false (is_next net domains f g)

  -- ---- along the flops

  module _ (gs : List Bit) (i : ℕ) (f : Bit) where
    pub chain_step : (d : Bit) → i < length gs → i < 3
        → is_chain net domains (3 - i) f (drop i gs) ≡ (is_next net domains f (get_or gs i d) && is_chain net domains (3 - (i + 1)) (get_or gs i d) (drop (i + 1) gs))
    chain_step d l m = ap₂ (λ n xs. is_chain net domains n f xs) (let e : 3 - i ≡ suc (3 - (i + 1)) = omega arith in e) (drop_more gs i d l)

    pub chain_full : length gs ≤ i → 3 ≤ i → is_chain net domains (3 - i) f (drop i gs) ≡ true
    chain_full l m = ap₂ (λ n xs. is_chain net domains n f xs) (let e : 3 - i ≡ 0 = omega arith in e) (drop_all i gs l)

    pub chain_ends : length gs ≤ i → i < 3 → is_chain net domains (3 - i) f (drop i gs) ≡ is_none (next_flop net domains f)
    chain_ends l m = ap₂ (λ n xs. is_chain net domains n f xs) (let e : 3 - i ≡ suc (3 - (i + 1)) = omega arith in e) (drop_all i gs l)

  none_is : (o : Option Bit) (r : Bool) → is_some o ≡ not r → r ≡ is_none o
  none_is None true e = refl
  none_is None false e = other e
  none_is (Some b) false e = refl
  none_is (Some b) true e = other (sym e)

  -- there is none where the search says so
  pub no_next : (f : Bit) (o : Option Bit) (r : Bool) → is_some o ≡ not r → o ≡ next_flop net domains f → r ≡ is_none (next_flop net domains f)
  no_next f o r e h = none_is o r e ∙ ap is_none h

  -- the next flop is a register bit
  pub next_register : IsNet net → (f g : Bit) → is_next net domains f g ≡ true → is_register_bit net g ≡ true
  next_register is f g h = (next_copies net domains is f g (next_from f g h)).0

module _ (net : Net) (domains : Domains) (grays : GrayReg → Bool) (is : IsNet net) (has : HasNextCells net) (fit : Fit net domains) where
  -- the groups of a register bit and of one that it copies are those of the design
  groups_are : (x b : Bit) → is_register_bit net x ≡ true → same [] (next_tree net x.sig) x.at ≡ Some b
      → differ (group_of domains b) (group_of domains x) ≡ are_async (design_of net domains) b x
  groups_are x b reg copy =
      let inside = bit_inside net x reg in
      let cell = some_cell (next_cell net.regs x.sig) (and_parts (is_some (next_cell net.regs x.sig)) (is_within net x) reg).0 in
      let within = read-within net is has [] x inside cell.0 cell.1 b (self_reads [] (next_tree net x.sig) x.at b copy) in
      sym (ap₂ differ (group_is net domains fit b (lt-ltb b.at (bit_count net.graph.signals b.sig) within))
      (group_is net domains fit x (lt-ltb x.at (bit_count net.graph.signals x.sig) inside)))

  -- what passes the test is a synchronizer
  passes : (from f : Bit) (fs : List Bit) → is_sync_item net domains from (f ∷ fs) ≡ true → IsSync (design_of net domains) (net_trees net grays) (record { from = from; first = f; more = fs })
  passes from f fs h =
      let settle = settle_at domains (clock_of domains f) in
      let p = and_parts (is_register_bit net f) _ h in
      let q = and_parts (copies net f from) _ p.1 in
      let r = and_parts (differ (group_of domains from) (group_of domains f)) _ q.1 in
      let s = and_parts (nat_le settle (length fs)) (is_chain net domains 3 f fs) r.1 in
      let k : Crossing = record { from = from; to = f } in
      let copy = copied_from (same [] (next_tree net f.sig) f.at) from q.0 in
      let more = chain_from net domains 3 f fs s.1 in
      let crossing : IsCrossing (design_of net domains) (net_trees net grays) from f = record {
        register = p.0;
        reads = self_reads [] (next_tree net f.sig) f.at from copy;
        async = sym (groups_are f from p.0 copy) ∙ r.0;
      } in
      let l = leb-true settle (length fs) s.0 in
      let m = settle_is net domains f p.0 in
      let n = ap length more in
      let lt : settle_of (design_of net domains) f < suc (length (flops_behind net domains 3 f)) = omega arith in
      subst (λ xs. IsSync (design_of net domains) (net_trees net grays) (record { from = from; first = f; more = xs })) (sym more)
      (is_one net domains grays is fit k crossing (and_from (copies net f from) (nat_lt (settle_of (design_of net domains) f) (suc (length (flops_behind net domains 3 f)))) q.0
      (lt-ltb (settle_of (design_of net domains) f) (suc (length (flops_behind net domains 3 f))) lt)))

  -- and a synchronizer passes it
  passed : (s : Sync) → IsSync (design_of net domains) (net_trees net grays) s → is_sync_item net domains s.from (s.first ∷ s.more) ≡ true
  passed s h =
      let f = s.first in
      let settle = settle_at domains (clock_of domains f) in
      let one = one_is net domains grays is fit s h in
      let p = and_parts (copies net f s.from) _ one.0 in
      let more : flops_behind net domains 3 f ≡ s.more = ap (λ (x : Sync). x.more) one.1 in
      let lt = ltb-true (settle_of (design_of net domains) f) (suc (length (flops_behind net domains 3 f))) p.1 in
      let m = settle_is net domains f h.crossing.register in
      let n = ap length more in
      let l : settle ≤ length s.more = omega arith in
      and_from (is_register_bit net f) _ h.crossing.register
      (and_from (copies net f s.from) _ p.0
      (and_from (differ (group_of domains s.from) (group_of domains f)) _ (groups_are f s.from h.crossing.register h.copy ∙ h.crossing.async)
      (and_from (nat_le settle (length s.more)) (is_chain net domains 3 f s.more) (le-leb settle (length s.more) l)
      (subst (λ xs. is_chain net domains 3 f xs ≡ true) more (from_chain net domains 3 f)))))

  pub is_item : (e : SyncEntry) → is_sync_item net domains e.from e.flops ≡ true → IsSyncItem (design_of net domains) (net_trees net grays) e
  is_item e h = go e.flops h
    where
      go : (fs : List Bit) → is_sync_item net domains e.from fs ≡ true → IsSyncItem (design_of net domains) (net_trees net grays) (record { from = e.from; flops = fs })
      go [] h = other h
      go (f ∷ fs) h = (record { from = e.from; first = f; more = fs }, refl, passes e.from f fs h)

  pub item_is : (e : SyncEntry) → IsSyncItem (design_of net domains) (net_trees net grays) e → is_sync_item net domains e.from e.flops ≡ true
  item_is e h = subst (λ (x : SyncEntry). is_sync_item net domains x.from x.flops ≡ true) (sym h.1) (passed h.0 h.2)
