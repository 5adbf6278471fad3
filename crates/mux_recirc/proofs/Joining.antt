-- The first ring that joins the groups of a crossing and holds its source.
use Rattle.std.proofs.Common.{◌≡◌, ◌∙◌, ◌⊎◌, ◌↔◌, inl, inr, refl, sym, ap, ap₂, subst, arith, rules, ℕ, zero, suc, ◌+◌, ◌<◌, ◌≤◌, Bool, true, false, get_or, Option, Some, None, option_map, List, [], ◌∷◌, ◌++◌, map, length, slice_get, Contains, Ordering, Less, Equal, Greater}
use Rattle.std.specs.Prelude.{option_and_then}
use Rattle.std.specs.Cmp.Rules.{comparing}
use Rattle.std.specs.List.Sorted.{IsSorted}
use Rattle.std.specs.Ordering.{is_lt, is_eq, ordering_then, eq_by_cmp, nat_cmp}
use Rattle.std.proofs.lemmas.Bool.{cases_lt}
use Rattle.std.proofs.lemmas.Option.{slice_get-map, slice_get-get_or, slice_get_within}
use Rattle.cdc_base.specs.declared.bit.Bit.{Bit}
use Rattle.cdc_base.specs.contracts.bit.BitOrd.TheImpl as bit_order
use Rattle.cell_graph.specs.declared.net.Net.{Net}
use Rattle.cell_graph.specs.Reading.{bit_eq}
use Rattle.cell_graph.proofs.Bits.{bit_eq-true, bit_eq-refl}
use Rattle.domains.specs.declared.Domains.{Domains}
use Rattle.domains.specs.Assignment.{group_of}
use Rattle.cdc_model.specs.declared.scheme.Crossing.{Crossing}
use Rattle.cdc_model.specs.declared.scheme.Ring.{Ring as RingEntry}
use Rattle.cdc_model.specs.Design.{group}
use Rattle.cdc_model.specs.Listed.{ring_entry}
use Rattle.cdc_model.specs.Nets.{design_of}
use Rattle.cdc_model.specs.Schemes.{Ring, request, acknowledge}
use Rattle.cdc_model.specs.Verdict.{IsBetween, HoldsUnder}
use Rattle.cdc_model.proofs.Ascending.{in_filter, from_filter}
use Rattle.cdc_model.proofs.Justify.{slice_in, in_slice}
use Rattle.cdc_model.proofs.NetDesign.{group_is}
use Rattle.mux_recirc.specs.contracts.guards.JointOrd.TheImpl as joint_order
use Rattle.mux_recirc.specs.contracts.guards.SidesOrd.TheImpl as sides_order
use Rattle.mux_recirc.specs.contracts.parts.PartOrd.TheImpl as part_order
use Rattle.mux_recirc.specs.declared.guards.Guards.{Guards}
use Rattle.mux_recirc.specs.declared.guards.Joint.{Joint}
use Rattle.mux_recirc.specs.declared.guards.Sides.{Sides}
use Rattle.mux_recirc.specs.declared.parts.Part.{Part}
use Rattle.mux_recirc.specs.Given.{AreGuards, IsFirstOf, IsFirstJoint, IsFirstPair, joints_at, sides_of, plain_trees}
use Rattle.mux_recirc.specs.Parts.{parts_at}
use Rattle.mux_recirc.proofs.Added.{same_item, in_pushed}
use Rattle.mux_recirc.proofs.Crossed.{from_within, to_within, request_within, acknowledge_within, acknowledge_there}
use Rattle.mux_recirc.proofs.Listed.{entry_there}
use Rattle.mux_recirc.proofs.Guarding.{in_front_of, empty_of, served}
use Rattle.mux_recirc.proofs.Orders.{never_less, first_least, kept_sorted, joint_total, part_total, same_sides}
use Rattle.mux_recirc.proofs.Search.{below}

never : {A : Type 0} → true ≡ false → A
never e = cc

then_less : (o p : Ordering) → is_eq o ≡ true → p ≡ Less → is_lt (ordering_then o p) ≡ true
then_less Less p e f = refl
then_less Equal p e f = ap is_lt f
then_less Greater p e f = cc

-- ---- rings by their groups

abbrev made : Sides → ℕ → Joint
made t n = record { sides = t; ring = n }

itself : (s : Sides) → eq_by_cmp sides_order.ghosts.cmp s s ≡ true
itself s = search (comparing, rules)

less_joint : (s : Sides) (m n : ℕ) → m < n → is_lt (joint_order.ghosts.cmp (record { sides = s; ring = m }) (record { sides = s; ring = n })) ≡ true
less_joint s m n l = then_less (sides_order.ghosts.cmp s s) (nat_cmp m n) (itself s) (below m n l)

module _ (joints : List Joint) (s : Sides) where
  in_here : (m : ℕ) → Contains joints (record { sides = s; ring = m }) → Contains (joints_at joints s) (record { sides = s; ring = m })
  in_here m i = in_filter (λ (j : Joint). eq_by_cmp sides_order.ghosts.cmp j.sides s) joints (record { sides = s; ring = m }) i (itself s)

  pub some_joint : IsSorted joint_order.ghosts.cmp joints → (j : Joint) → slice_get (joints_at joints s) 0 ≡ Some j → IsFirstJoint joints s (Some j.ring)
  some_joint sorted j first =
      let f = from_filter (λ (i : Joint). eq_by_cmp sides_order.ghosts.cmp i.sides s) joints j (slice_in (joints_at joints s) 0 j first) in
      let same : j ≡ made s j.ring = ap (λ t. made t j.ring) (same_sides j.sides s f.1) in (
        subst (Contains joints) same f.0,
        λ m l i. never (sym (less_joint s m j.ring l) ∙ sym (ap (λ (x : Joint). is_lt (joint_order.ghosts.cmp (made s m) x)) same)
            ∙ first_least joint_order.ghosts.cmp joint_total (joints_at joints s)
            (kept_sorted joint_order.ghosts.cmp joint_total (λ (i : Joint). eq_by_cmp sides_order.ghosts.cmp i.sides s) joints sorted) j (made s m) first (in_here m i)),
      )

  pub no_joint : slice_get (joints_at joints s) 0 ≡ None → IsFirstJoint joints s None
  no_joint none m i = empty_of (joints_at joints s) (made s m) none (in_here m i)

-- one ring more
pub joint_more : (sides : List Sides) (i : ℕ) (d : Sides) (old new : List Joint) (j : Joint) → i < length sides → new ≡ old ++ record { sides = get_or sides i d; ring = i } ∷ []
    → Contains old j ↔ ((j.ring < i) × (slice_get sides j.ring ≡ Some j.sides)) → Contains new j ↔ ((j.ring < i + 1) × (slice_get sides j.ring ≡ Some j.sides))
joint_more sides i d old new j l e f = (
  λ c. elim ((in_pushed old new (made (get_or sides i d) i) j e).0 c) [
    | inl k ↦ let h = f.0 k in ((let m = h.0 in omega arith), h.1)
    | inr same ↦ subst (λ (x : Joint). (x.ring < i + 1) × (slice_get sides x.ring ≡ Some x.sides)) same (omega arith, slice_get-get_or sides i d l)
  ],
  λ h. (in_pushed old new (made (get_or sides i d) i) j e).1 (elim (cases_lt j.ring i) [
    | inl k ↦ inl (f.1 (k, h.1))
    | inr k ↦
        let same : i ≡ j.ring = let m = h.0 in omega arith in
        inr (ap₂ made (same_item (slice_get sides i) (get_or sides i d) j.sides (slice_get-get_or sides i d l) (ap (slice_get sides) same ∙ h.1)) same)
  ]),
)

-- all rings
pub joints_all : {X : Type 0} (sides : List Sides) (n : ℕ) (j : Joint) → length sides ≤ n → X ↔ ((j.ring < n) × (slice_get sides j.ring ≡ Some j.sides)) → X ↔ (slice_get sides j.ring ≡ Some j.sides)
joints_all sides n j l f = (λ x. (f.0 x).1, λ h. f.1 ((let m = slice_get_within sides j.ring j.sides h in omega arith), h))

-- ---- rings that hold a bit

bit_itself : (b : Bit) → is_eq (bit_order.ghosts.cmp b b) ≡ true
bit_itself b = search (comparing, rules)

less_part : (b : Bit) (m n : ℕ) → m < n → is_lt (part_order.ghosts.cmp (record { bit = b; ring = m }) (record { bit = b; ring = n })) ≡ true
less_part b m n l = then_less (bit_order.ghosts.cmp b b) (nat_cmp m n) (bit_itself b) (below m n l)

-- none of the first i rings that hold the bit joins the groups
abbrev pub NoneJoins : List Part → List Sides → Bit → Sides → ℕ → Type 0
NoneJoins parts all b s i = (j : ℕ) (p : Part) → j < i → slice_get (parts_at parts b) j ≡ Some p → slice_get all p.ring ≡ Some s → ⊥

module _ (parts : List Part) (all : List Sides) (b : Bit) (s : Sides) where
  pub none_more : (i : ℕ) (list : List Part) (d : Part) (v : Bool) → list ≡ parts_at parts b → i < length list → v ≡ false → (v ≡ true) ↔ (slice_get all (get_or list i d).ring ≡ Some s)
      → NoneJoins parts all b s i → NoneJoins parts all b s (i + 1)
  none_more i list d v e l other test none j p m at h = elim (cases_lt j i) [
    | inl k ↦ none j p k at h
    | inr k ↦
        let same : j ≡ i = omega arith in
        let own : get_or list i d ≡ p = same_item (slice_get list i) (get_or list i d) p (slice_get-get_or list i d l) (ap (slice_get list) (sym same) ∙ ap (λ xs. slice_get xs j) e ∙ at) in
        never (sym (test.1 (subst (λ (x : Part). slice_get all x.ring ≡ Some s) (sym own) h)) ∙ other)
  ]

  abbrev part : Bit → ℕ → Part
  part a n = record { bit = a; ring = n }

  place_of : (m : ℕ) → Contains parts (part b m) → Contains (parts_at parts b) (part b m)
  place_of m i = in_filter (λ (p : Part). bit_eq p.bit b) parts (part b m) i (bit_eq-refl b)

  pub some_pair : IsSorted part_order.ghosts.cmp parts → (i : ℕ) (p : Part) → slice_get (parts_at parts b) i ≡ Some p → slice_get all p.ring ≡ Some s → NoneJoins parts all b s i
      → IsFirstPair parts all b s (Some p.ring)
  some_pair sorted i p at own none =
      let f = from_filter (λ (q : Part). bit_eq q.bit b) parts p (slice_in (parts_at parts b) i p at) in
      let same : p ≡ part b p.ring = ap (λ a. part a p.ring) (bit_eq-true p.bit b f.1) in (
        subst (Contains parts) same f.0,
        own,
        λ m l j h.
            let k = place_of m j in
            let less = ap (λ (x : Part). is_lt (part_order.ghosts.cmp (part b m) x)) same ∙ less_part b m p.ring l in
            let front = in_front_of part_order.ghosts.cmp (parts_at parts b)
            (never_less part_order.ghosts.cmp part_total (parts_at parts b) (kept_sorted part_order.ghosts.cmp part_total (λ (q : Part). bit_eq q.bit b) parts sorted))
            i k.0 p (part b m) at (in_slice (parts_at parts b) (part b m) k) less in
            none k.0 (part b m) front (in_slice (parts_at parts b) (part b m) k) h,
      )

  pub no_pair : NoneJoins parts all b s (length (parts_at parts b)) → IsFirstPair parts all b s None
  no_pair none m i h = let k = place_of m i in none k.0 (part b m) k.1 (in_slice (parts_at parts b) (part b m) k) h

-- ---- the first ring that holds the source of a crossing

entry_of : (f : RingEntry → Sides) (rings : List Ring) (n : ℕ) (s : Sides) → slice_get (map f (map ring_entry rings)) n ≡ Some s → (r : Ring) × (slice_get rings n ≡ Some r)
entry_of f [] n s h = cc
entry_of f (r ∷ rs) zero s h = (r, refl)
entry_of f (r ∷ rs) (suc n) s h = entry_of f rs n s h

module _ (net : Net) (domains : Domains) (crossings : List Crossing) (rings : List Ring) (guards : Guards) (are : AreGuards net domains crossings rings guards) (k : Crossing) (there : Contains crossings k) where
  abbrev entries : List RingEntry
  entries = map ring_entry rings

  abbrev pub sides : Sides
  sides = record { request = group_of domains k.from; acknowledge = group_of domains k.to }

  sides_at : (n : ℕ) (r : Ring) → slice_get rings n ≡ Some r → slice_get guards.sides.items n ≡ Some (record { request = group_of domains (request r); acknowledge = group_of domains (acknowledge r) })
  sides_at n r at =
      ap (λ xs. slice_get xs n) are.sides ∙ slice_get-map (sides_of domains) entries n ∙ ap (option_map (sides_of domains)) (entry_there rings n r at)
      ∙ ap (λ o. Some (with_other (option_and_then (group_of domains) o))) (acknowledge_there r)
    where
      with_other : Option ℕ → Sides
      with_other o = record { request = group_of domains (request r); acknowledge = o }

  from_is : group (design_of net domains) k.from ≡ group_of domains k.from
  from_is = group_is net domains are.given.fits k.from (from_within net domains (λ g. false) crossings rings entries are.given k there)

  to_is : group (design_of net domains) k.to ≡ group_of domains k.to
  to_is = group_is net domains are.given.fits k.to (to_within net domains (λ g. false) crossings rings entries are.given k there)

  request_is : (n : ℕ) (r : Ring) → slice_get rings n ≡ Some r → group (design_of net domains) (request r) ≡ group_of domains (request r)
  request_is n r at = group_is net domains are.given.fits (request r) (request_within net domains (λ g. false) crossings rings entries are.given n r at)

  acknowledge_is : (n : ℕ) (r : Ring) → slice_get rings n ≡ Some r → group (design_of net domains) (acknowledge r) ≡ group_of domains (acknowledge r)
  acknowledge_is n r at = group_is net domains are.given.fits (acknowledge r) (acknowledge_within net domains (λ g. false) crossings rings entries are.given n r at)

  abbrev both : Option ℕ → Option ℕ → Sides
  both o p = record { request = o; acknowledge = p }

  -- the ring goes from the one group to the other exactly where it joins the groups
  joins : (n : ℕ) (r : Ring) → slice_get rings n ≡ Some r → IsBetween (design_of net domains) r k.from k.to → slice_get guards.sides.items n ≡ Some sides
  joins n r at between =
      sides_at n r at ∙ ap₂ (λ o p. Some (both o p)) (sym (request_is n r at) ∙ sym between.from ∙ from_is) (sym (acknowledge_is n r at) ∙ sym between.to ∙ to_is)

  joined_between : (n : ℕ) (r : Ring) → slice_get rings n ≡ Some r → slice_get guards.sides.items n ≡ Some sides → IsBetween (design_of net domains) r k.from k.to
  joined_between n r at h =
      let same : both (group_of domains (request r)) (group_of domains (acknowledge r)) ≡ sides = same_item (slice_get guards.sides.items n) _ sides (sides_at n r at) h in
      record {
        from = from_is ∙ sym (ap (λ (x : Sides). x.request) same) ∙ sym (request_is n r at);
        to = to_is ∙ sym (ap (λ (x : Sides). x.acknowledge) same) ∙ sym (acknowledge_is n r at);
      }

  ring_of : (n : ℕ) → slice_get guards.sides.items n ≡ Some sides → (r : Ring) × (slice_get rings n ≡ Some r)
  ring_of n h = entry_of (sides_of domains) rings n sides (ap (λ xs. slice_get xs n) (sym are.sides) ∙ h)

  holds : (n : ℕ) → slice_get guards.sides.items n ≡ Some sides → Contains guards.held.constant.items k.from ⊎ Contains guards.held.pairs.items (record { bit = k.from; ring = n })
      → (r : Ring) × (slice_get rings n ≡ Some r) × HoldsUnder (design_of net domains) (plain_trees net) k.from k.to r
  holds n h s =
      let r = ring_of n h in
      let between = joined_between n r.0 r.1 h in
      (r.0, r.1, (between, served net domains crossings rings guards are there.0 k (in_slice crossings k there) n r.0 r.1 between s))

  -- a source that always keeps its value is held by the first ring that joins the groups
  pub constant_first : Contains guards.held.constant.items k.from → (o : Option ℕ) → IsFirstJoint guards.joints.items sides o
      → IsFirstOf (HoldsUnder (design_of net domains) (plain_trees net) k.from k.to) rings o
  constant_first i (Some n) h = (holds n ((are.joints (record { sides = sides; ring = n })).0 h.0) (inl i), λ m r l at held. h.1 m l ((are.joints (record { sides = sides; ring = m })).1 (joins m r at held.0)))
  constant_first i None h = λ m r at held. h m ((are.joints (record { sides = sides; ring = m })).1 (joins m r at held.0))

  -- and another by the first one that is kept with it
  pub pair_first : (Contains guards.held.constant.items k.from → ⊥) → (o : Option ℕ) → IsFirstPair guards.held.pairs.items guards.sides.items k.from sides o
      → IsFirstOf (HoldsUnder (design_of net domains) (plain_trees net) k.from k.to) rings o
  pair_first other (Some n) h = (holds n h.1 (inr h.0), λ m r l at held. h.2 m l (kept m r at held) (joins m r at held.0))
    where
      kept : (m : ℕ) (r : Ring) → slice_get rings m ≡ Some r → HoldsUnder (design_of net domains) (plain_trees net) k.from k.to r → Contains guards.held.pairs.items (record { bit = k.from; ring = m })
      kept m r at held = elim (are.held.others (record { bit = k.from; ring = m }) (held.1.register, (k, there, refl)) (r, at, held.1)) [ inl i ↦ absurd (other i) | inr i ↦ i ]
  pair_first other None h = λ m r at held.
      elim (are.held.others (record { bit = k.from; ring = m }) (held.1.register, (k, there, refl)) (r, at, held.1)) [ inl i ↦ absurd (other i) | inr i ↦ h m i (joins m r at held.0) ]
