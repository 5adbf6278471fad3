-- What a search is given: crossings with their groups, and rings by their numbers.
use Rattle.std.proofs.Common.{◌≡◌, ◌∙◌, inl, inr, refl, sym, ap, subst, arith, ℕ, zero, suc, ◌+◌, ltb-true, eqb-true, nat_lt, ◌==◌, ◌&&◌, lt-ltb, get_or, Bool, true, false, Option, Some, None, is_some, option_map, List, [], ◌∷◌, ◌++◌, map, length, slice_get, Contains}
use Rattle.std.specs.Option.{option_map_or}
use Rattle.std.specs.Ordering.{is_lt}
use Rattle.std.proofs.lemmas.Bool.{and_parts, or_cases}
use Rattle.std.proofs.lemmas.Option.{slice_get-get_or}
use Rattle.cdc_base.specs.contracts.bit.BitOrd.TheImpl as bit_order
use Rattle.cdc_base.specs.declared.bit.Bit.{Bit}
use Rattle.cell_graph.specs.declared.cell.CellId.{CellId}
use Rattle.cell_graph.specs.declared.cell.Node.{Node}
use Rattle.cell_graph.specs.declared.net.Net.{Net}
use Rattle.domains.specs.declared.Domains.{Domains}
use Rattle.domains.specs.Assignment.{group_of}
use Rattle.cdc_model.specs.declared.scheme.Crossing.{Crossing}
use Rattle.cdc_model.specs.declared.scheme.GrayReg.{GrayReg}
use Rattle.cdc_model.specs.declared.scheme.Ring.{Ring as RingEntry}
use Rattle.cdc_model.specs.Design.{group, are_equal}
use Rattle.cdc_model.specs.Listed.{ring_entry}
use Rattle.cdc_model.specs.Nets.{next_cell, next_node_of, bit_count, is_within, is_register_bit, design_of}
use Rattle.cdc_model.specs.Ordered.{IsAscending, is_before as is_before_key}
use Rattle.cdc_model.specs.Schemes.{AreTrees, AreSyncs, IsCrossing, flops, Ring, request, acknowledge, IsRing}
use Rattle.cdc_model.specs.Syncs.{syncs_of}
use Rattle.cdc_model.specs.Verdict.{bit_key, crossing_key}
use Rattle.cdc_model.proofs.Behind.{async_clock, source_clock}
use Rattle.cdc_model.proofs.Found.{crossings_are_all, net_ascends}
use Rattle.cdc_model.proofs.Justify.{slice_in}
use Rattle.cdc_model.proofs.NetDesign.{plain_trees_are}
use Rattle.cdc_model.proofs.Synced.{syncs_are_all}
use Rattle.mux_recirc.specs.Blind.{is_behind, AreByEnds}
use Rattle.mux_recirc.specs.Given.{AreGiven, plain_trees}
use Rattle.mux_recirc.specs.Held.{is_before}
use Rattle.mux_recirc.proofs.Listed.{entry_there}
use Rattle.mux_recirc.proofs.Search.{not_less, same_not_less}
use Rattle.mux_recirc.proofs.Plain.{same_ring, together, put_together}

-- a bit with a next value's node has a next value's cell
pub has_node : (net : Net) (b : Bit) → is_some (next_node_of net b) ≡ is_some (next_cell net.regs b.sig)
has_node net b = go (next_cell net.regs b.sig)
  where
    node : CellId → Node
    node c = record { cell = c; at = b.at }

    go : (o : Option CellId) → is_some (option_map node o) ≡ is_some o
    go None = refl
    go (Some c) = refl

-- the number's ring
pub entry_back : (rings : List Ring) (n : ℕ) (e : RingEntry) → slice_get (map ring_entry rings) n ≡ Some e → (r : Ring) × (slice_get rings n ≡ Some r) × (e ≡ ring_entry r)
entry_back [] n e h = cc
entry_back (r ∷ rs) zero e h = (r, refl, let f : ring_entry r ≡ e = cc in sym f)
entry_back (r ∷ rs) (suc n) e h = entry_back rs n e h

-- the acknowledgement stands behind the flops
behind_all : (xs : List Bit) (a : Bit) (ys : List Bit) → slice_get (xs ++ a ∷ ys) (length xs) ≡ Some a
behind_all [] a ys = refl
behind_all (x ∷ xs) a ys = behind_all xs a ys

pub acknowledge_there : (r : Ring) → slice_get (ring_entry r).bits (ring_entry r).ack ≡ Some (acknowledge r)
acknowledge_there r = behind_all (flops r.there) (acknowledge r) (flops r.back)

-- by their keys crossings are in the order of their ends
not_before : (x y : Crossing) → is_before_key (crossing_key x) (crossing_key y) ≡ true → is_lt (bit_order.ghosts.cmp y.to x.to) ≡ false
not_before x y h = elim (or_cases (nat_lt x.to.sig y.to.sig) ((x.to.sig == y.to.sig) && is_before_key (x.to.at ∷ bit_key x.from []) (y.to.at ∷ bit_key y.from [])) h) [
  | inl l ↦ not_less x.to y.to (inl (ltb-true x.to.sig y.to.sig l))
  | inr m ↦
      let p = and_parts (x.to.sig == y.to.sig) (is_before_key (x.to.at ∷ bit_key x.from []) (y.to.at ∷ bit_key y.from [])) m in
      let sig = eqb-true x.to.sig y.to.sig p.0 in
      elim (or_cases (nat_lt x.to.at y.to.at) ((x.to.at == y.to.at) && is_before_key (bit_key x.from []) (bit_key y.from [])) p.1) [
        | inl l ↦ not_less x.to y.to (inr (sig, ltb-true x.to.at y.to.at l))
        | inr n ↦ same_not_less x.to y.to sig (eqb-true x.to.at y.to.at (and_parts (x.to.at == y.to.at) (is_before_key (bit_key x.from []) (bit_key y.from [])) n).0)
      ]
]

register_within : (net : Net) (b : Bit) → is_register_bit net b ≡ true → is_within net b ≡ true
register_within net b h = (and_parts (is_some (next_cell net.regs b.sig)) (is_within net b) h).1

module _ (net : Net) (domains : Domains) (grays : GrayReg → Bool) (crossings : List Crossing) (rings : List Ring) (entries : List RingEntry)
    (given : AreGiven net domains grays crossings rings entries) where
  pub laws : AreTrees (design_of net domains) (plain_trees net)
  laws = plain_trees_are net domains given.fits

  pub are_syncs : AreSyncs (design_of net domains) (plain_trees net) (syncs_of net domains)
  are_syncs = (syncs_are_all net domains (λ g. false) given.is_net given.fits).only

  -- ---- crossings

  pub is_crossing : (k : Crossing) → Contains crossings k → IsCrossing (design_of net domains) (plain_trees net) k.from k.to
  is_crossing k i = (crossings_are_all net domains (λ g. false) (net_ascends net given.is_net)).only k (subst (λ xs. Contains xs k) given.all_crossings i)

  pub ordered : IsAscending crossing_key crossings
  ordered = subst (IsAscending crossing_key) (sym given.all_crossings) (crossings_are_all net domains (λ g. false) (net_ascends net given.is_net)).ordered

  pub by_ends : AreByEnds crossings
  by_ends k d l m = not_before (get_or crossings k d) (get_or crossings (k + 1) d)
      (ordered k (k + 1) (get_or crossings k d) (get_or crossings (k + 1) d) (omega arith) (slice_get-get_or crossings k d (omega arith)) (slice_get-get_or crossings (k + 1) d (omega arith)))

  within : (b : Bit) (c : ℕ) → (design_of net domains).clock b ≡ Some c → is_within net b ≡ true
  within b c e = lt-ltb b.at (bit_count net.graph.signals b.sig) (laws.within b c e)

  pub from_within : (k : Crossing) → Contains crossings k → is_within net k.from ≡ true
  from_within k i = let c = source_clock (design_of net domains) k.from k.to (is_crossing k i).async in within k.from c.0 c.1

  pub to_within : (k : Crossing) → Contains crossings k → is_within net k.to ≡ true
  to_within k i = let c = async_clock (design_of net domains) k.from k.to (is_crossing k i).async in within k.to c.0 c.1

  pub from_group : (k : Crossing) → Contains crossings k → (g : ℕ) × (group (design_of net domains) k.from ≡ Some g)
  from_group k i = let c = source_clock (design_of net domains) k.from k.to (is_crossing k i).async in ((design_of net domains).group_of c.0, ap (option_map (design_of net domains).group_of) c.1)

  pub to_group : (k : Crossing) → Contains crossings k → (g : ℕ) × (group (design_of net domains) k.to ≡ Some g)
  to_group k i = let c = async_clock (design_of net domains) k.from k.to (is_crossing k i).async in ((design_of net domains).group_of c.0, ap (option_map (design_of net domains).group_of) c.1)

  -- ---- rings

  pub is_ring : (n : ℕ) (r : Ring) → slice_get rings n ≡ Some r → IsRing (design_of net domains) (plain_trees net) (syncs_of net domains) r
  is_ring n r at = same_ring net domains grays (λ g. false) (syncs_of net domains) r (given.all_rings.only r (slice_in rings n r at))

  pub request_within : (n : ℕ) (r : Ring) → slice_get rings n ≡ Some r → is_within net (request r) ≡ true
  request_within n r at = register_within net (request r) (is_ring n r at).registers.0

  pub acknowledge_within : (n : ℕ) (r : Ring) → slice_get rings n ≡ Some r → is_within net (acknowledge r) ≡ true
  acknowledge_within n r at = register_within net (acknowledge r) (is_ring n r at).registers.1

  pub entry_at : (n : ℕ) (r : Ring) → slice_get rings n ≡ Some r → slice_get entries n ≡ Some (ring_entry r)
  entry_at n r at = ap (λ es. slice_get es n) given.listed ∙ entry_there rings n r at

  pub ring_at : (n : ℕ) (e : RingEntry) → slice_get entries n ≡ Some e → (r : Ring) × (slice_get rings n ≡ Some r) × (e ≡ ring_entry r)
  ring_at n e at = entry_back rings n e (ap (λ es. slice_get es n) (sym given.listed) ∙ at)

  pub before_is : (n : ℕ) (r : Ring) (b : Bit) → slice_get rings n ≡ Some r → is_before domains entries n b ≡ are_equal (group_of domains b) (group_of domains (request r))
  before_is n r b at = ap (λ o. option_map_or (λ request. are_equal (group_of domains b) (group_of domains request)) (request_of o) false) (entry_at n r at)
    where
      request_of : Option RingEntry → Option Bit
      request_of None = None
      request_of (Some e) = slice_get e.bits 0

  pub behind_is : (n : ℕ) (r : Ring) (b : Bit) → slice_get rings n ≡ Some r → is_behind domains entries n b ≡ are_equal (group_of domains b) (group_of domains (acknowledge r))
  behind_is n r b at =
      ap (λ o. option_map_or (λ (e : RingEntry). option_map_or (λ a. are_equal (group_of domains b) (group_of domains a)) (slice_get e.bits e.ack) false) o false) (entry_at n r at)
      ∙ ap (λ o. option_map_or (λ a. are_equal (group_of domains b) (group_of domains a)) o false) (acknowledge_there r)

  -- the bit has the request's group, or the acknowledgement's, where the domains put them together
  pub with_request : (n : ℕ) (r : Ring) (b : Bit) → slice_get rings n ≡ Some r → is_within net b ≡ true → are_equal (group_of domains b) (group_of domains (request r)) ≡ true
      → group (design_of net domains) b ≡ group (design_of net domains) (request r)
  with_request n r b at w h = together net domains given.fits b (request r) w (request_within n r at) h

  pub with_acknowledge : (n : ℕ) (r : Ring) (b : Bit) → slice_get rings n ≡ Some r → is_within net b ≡ true → are_equal (group_of domains b) (group_of domains (acknowledge r)) ≡ true
      → group (design_of net domains) b ≡ group (design_of net domains) (acknowledge r)
  with_acknowledge n r b at w h = together net domains given.fits b (acknowledge r) w (acknowledge_within n r at) h

  pub request_with : (n : ℕ) (r : Ring) (b : Bit) (g : ℕ) → slice_get rings n ≡ Some r → is_within net b ≡ true → group (design_of net domains) b ≡ Some g
      → group (design_of net domains) b ≡ group (design_of net domains) (request r) → are_equal (group_of domains b) (group_of domains (request r)) ≡ true
  request_with n r b g at w e h = put_together net domains given.fits b (request r) w (request_within n r at) g h (sym h ∙ e)

  pub acknowledge_with : (n : ℕ) (r : Ring) (b : Bit) (g : ℕ) → slice_get rings n ≡ Some r → is_within net b ≡ true → group (design_of net domains) b ≡ Some g
      → group (design_of net domains) b ≡ group (design_of net domains) (acknowledge r) → are_equal (group_of domains b) (group_of domains (acknowledge r)) ≡ true
  acknowledge_with n r b g at w e h = put_together net domains given.fits b (acknowledge r) w (acknowledge_within n r at) g h (sym h ∙ e)

  -- the rings are all, whatever is taken for Gray registers
  pub plain_given : AreGiven net domains (λ g. false) crossings rings (map ring_entry rings)
  plain_given = record {
    is_net = given.is_net;
    has_next = given.has_next;
    fits = given.fits;
    all_crossings = given.all_crossings;
    all_rings = record {
      all = λ r is. given.all_rings.all r (same_ring net domains (λ g. false) grays (syncs_of net domains) r is);
      only = λ r i. same_ring net domains grays (λ g. false) (syncs_of net domains) r (given.all_rings.only r i);
      ordered = given.all_rings.ordered;
    };
    listed = refl;
  }
