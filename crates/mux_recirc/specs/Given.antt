-- What a search for loads is given, and what it keeps of crossings and rings.
use Rattle.std.specs.Prelude.{◌≡◌, ◌⊎◌, ◌↔◌, ◌<◌, ◌==◌, ℕ, Bool, true, false, Option, Some, None, List, [], ◌∷◌, map, filter, Contains, slice_get, option_and_then}
use Rattle.std.specs.List.Sorted.{IsSorted}
use Rattle.std.specs.Ordering.{eq_by_cmp}
use Rattle.cdc_base.specs.contracts.bit.BitOrd.TheImpl as bit_order
use Rattle.cdc_base.specs.declared.bit.Bit.{Bit}
use Rattle.cell_graph.specs.declared.net.Net.{Net}
use Rattle.domains.specs.declared.Domains.{Domains}
use Rattle.domains.specs.Assignment.{group_of}
use Rattle.domains.specs.Fit.{Fit}
use Rattle.domains.specs.Nets.{IsNet}
use Rattle.cdc_model.specs.declared.scheme.Crossing.{Crossing}
use Rattle.cdc_model.specs.declared.scheme.GrayReg.{GrayReg}
use Rattle.cdc_model.specs.declared.scheme.Load.{Load}
use Rattle.cdc_model.specs.declared.scheme.Ring.{Ring as RingEntry}
use Rattle.cdc_model.specs.Found.{crossings_of}
use Rattle.cdc_model.specs.Listed.{ring_entry}
use Rattle.cdc_model.specs.Nets.{HasNextCells, is_register_bit, design_of, net_trees}
use Rattle.cdc_model.specs.Ordered.{IsAll}
use Rattle.cdc_model.specs.Schemes.{Trees, Ring, IsRing, IsHeld, IsGate, IsBlind}
use Rattle.cdc_model.specs.Syncs.{syncs_of}
use Rattle.cdc_model.specs.Verdict.{ring_key, IsBetween, IsFirstLoad, IsFirstRing}
use Rattle.mux_recirc.specs.declared.blind.Blind.{Blind}
use Rattle.mux_recirc.specs.declared.guards.Guards.{Guards}
use Rattle.mux_recirc.specs.declared.guards.Joint.{Joint}
use Rattle.mux_recirc.specs.declared.guards.Sides.{Sides}
use Rattle.mux_recirc.specs.declared.parts.Part.{Part}
use Rattle.mux_recirc.specs.contracts.blind.BlindOrd.TheImpl as blind_order
use Rattle.mux_recirc.specs.contracts.guards.JointOrd.TheImpl as joint_order
use Rattle.mux_recirc.specs.contracts.guards.SidesOrd.TheImpl as sides_order
use Rattle.mux_recirc.specs.contracts.parts.PartOrd.TheImpl as part_order
use Rattle.mux_recirc.specs.Shown.{equal}

-- The crossings and the entries are the net's crossings and rings, all of them and in order.
pub record AreGiven (net : Net) (domains : Domains) (grays : GrayReg → Bool) (crossings : List Crossing) (rings : List Ring) (entries : List RingEntry) : Type 0 where
  pub is_net : IsNet net
  pub has_next : HasNextCells net
  pub fits : Fit net domains
  pub all_crossings : crossings ≡ crossings_of net domains
  pub all_rings : IsAll (IsRing (design_of net domains) (net_trees net grays) (syncs_of net domains)) ring_key rings
  pub listed : entries ≡ map ring_entry rings

-- loads ask for no Gray register
abbrev pub plain_trees : Net → Trees
plain_trees net = net_trees net (λ g. false)

-- ---- held bits

-- the bit is a register's, and a crossing comes from it
abbrev pub IsSource : Net → List Crossing → Bit → Type 0
IsSource net crossings b = (is_register_bit net b ≡ true) × ((k : Crossing) × Contains crossings k × (k.from ≡ b))

-- the ring with that number holds the bit
abbrev pub IsHeldBy : Net → Domains → List Ring → Part → Type 0
IsHeldBy net domains rings p = (r : Ring) × (slice_get rings p.ring ≡ Some r) × IsHeld (design_of net domains) (plain_trees net) r p.bit

-- Of the crossings' sources the ones always keep their value, and the others are held by these rings; no source is held otherwise.
pub record AreHeld (net : Net) (domains : Domains) (crossings : List Crossing) (rings : List Ring) (constant : List Bit) (pairs : List Part) : Type 0 where
  pub copies : (b : Bit) → Contains constant b → IsSource net crossings b × ((design_of net domains).copied b ≡ Some b)
  pub always : (b : Bit) → IsSource net crossings b → (design_of net domains).copied b ≡ Some b → Contains constant b
  pub held : (p : Part) → Contains pairs p → IsHeldBy net domains rings p
  pub others : (p : Part) → IsSource net crossings p.bit → IsHeldBy net domains rings p → Contains constant p.bit ⊎ Contains pairs p

-- ---- blind ends

-- the bit keeps its value while the gate is shut
abbrev pub Recirculates : Trees → Ring → ℕ → Bit → Type 0
Recirculates t r gate x = (p q : Bit) → IsGate r gate p q → (v : Bool) → t.same (equal p q v) x ≡ Some x

-- the crossing's end is blind to its source at that gate of the ring, and keeps its value there or not
abbrev pub IsBlindAt : Net → Domains → List Crossing → List Ring → Blind → Type 0
IsBlindAt net domains crossings rings b = (k : Crossing) × (r : Ring) × (slice_get crossings b.crossing ≡ Some k) × (slice_get rings b.ring ≡ Some r)
    × IsBetween (design_of net domains) r k.from k.to × IsBlind (design_of net domains) (plain_trees net) r b.gate k.from k.to
    × ((b.recirculating ≡ true) ↔ Recirculates (plain_trees net) r b.gate k.to)

-- these are all of them
abbrev pub AreBlind : Net → Domains → List Crossing → List Ring → List Blind → Type 0
AreBlind net domains crossings rings blind = (b : Blind) → Contains blind b ↔ IsBlindAt net domains crossings rings b

-- the number is that of the first ring of which P holds; none where it holds of none
abbrev pub IsFirstOf : (Ring → Type 0) → List Ring → Option ℕ → Type 0
IsFirstOf P rings (Some n) = IsFirstRing P rings n
IsFirstOf P rings None = (m : ℕ) (r : Ring) → slice_get rings m ≡ Some r → P r → ⊥

-- ---- loads

-- the blindnesses of the crossing at that place
abbrev pub blind_at : List Blind → ℕ → List Blind
blind_at blind place = filter (λ (b : Blind). b.crossing == place) blind

-- the load of the crossing at that place, where it is one
abbrev pub IsLoadAt : Net → Domains → List Crossing → List Ring → ℕ → Option Load → Type 0
IsLoadAt net domains crossings rings place o = (k : Crossing) → slice_get crossings place ≡ Some k
    → (l : Load) → (o ≡ Some l) ↔ (IsFirstLoad (design_of net domains) (plain_trees net) rings l × (l.from ≡ k.from) × (l.to ≡ k.to))

-- the load, if there is one
abbrev pub load_there : Option Load → List Load
load_there None = []
load_there (Some l) = l ∷ []

-- ---- groups

-- the groups of a ring's request and of its acknowledgement
abbrev pub sides_of : Domains → RingEntry → Sides
sides_of domains e = record { request = option_and_then (group_of domains) (slice_get e.bits 0); acknowledge = option_and_then (group_of domains) (slice_get e.bits e.ack) }

-- the groups of a crossing's source and of its end
abbrev pub sides_between : Domains → Crossing → Sides
sides_between domains k = record { request = group_of domains k.from; acknowledge = group_of domains k.to }

-- the rings that join these groups
abbrev pub joints_at : List Joint → Sides → List Joint
joints_at joints sides = filter (λ (j : Joint). eq_by_cmp sides_order.ghosts.cmp j.sides sides) joints

-- the number is that of the first ring that joins these groups; none where there is none
abbrev pub IsFirstJoint : List Joint → Sides → Option ℕ → Type 0
IsFirstJoint joints sides (Some n) = Contains joints (record { sides = sides; ring = n }) × ((m : ℕ) → m < n → Contains joints (record { sides = sides; ring = m }) → ⊥)
IsFirstJoint joints sides None = (m : ℕ) → Contains joints (record { sides = sides; ring = m }) → ⊥

-- the number is that of the first ring that joins these groups and has the bit among these parts; none where there is none
abbrev pub IsFirstPair : List Part → List Sides → Bit → Sides → Option ℕ → Type 0
IsFirstPair parts all b sides (Some n) = Contains parts (record { bit = b; ring = n }) × (slice_get all n ≡ Some sides)
    × ((m : ℕ) → m < n → Contains parts (record { bit = b; ring = m }) → slice_get all m ≡ Some sides → ⊥)
IsFirstPair parts all b sides None = (m : ℕ) → Contains parts (record { bit = b; ring = m }) → slice_get all m ≡ Some sides → ⊥

-- ---- what is kept

-- What the guards keep is all that the rings say of the crossings, in order.
pub record AreGuards (net : Net) (domains : Domains) (crossings : List Crossing) (rings : List Ring) (guards : Guards) : Type 0 where
  pub given : AreGiven net domains (λ g. false) crossings rings (map ring_entry rings)
  pub blind : AreBlind net domains crossings rings guards.blind.items
  pub blind_sorted : IsSorted blind_order.ghosts.cmp guards.blind.items
  pub held : AreHeld net domains crossings rings guards.held.constant.items guards.held.pairs.items
  pub constant_sorted : IsSorted bit_order.ghosts.cmp guards.held.constant.items
  pub pairs_sorted : IsSorted part_order.ghosts.cmp guards.held.pairs.items
  pub sides : guards.sides.items ≡ map (sides_of domains) (map ring_entry rings)
  pub joints : (j : Joint) → Contains guards.joints.items j ↔ (slice_get guards.sides.items j.ring ≡ Some j.sides)
  pub joints_sorted : IsSorted joint_order.ghosts.cmp guards.joints.items
