-- What a crossing lacks, by what was found.
use Rattle.std.proofs.Common.{◌≡◌, ◌∙◌, ◌↔◌, inl, inr, refl, sym, ap, subst, arith, ℕ, Bool, false, Option, Some, None, List, Contains}
use Rattle.std.proofs.lemmas.Bool.{cases_lt, cases_eq}
use Rattle.cdc_base.specs.declared.bit.Bit.{Bit}
use Rattle.cdc_model.specs.declared.scheme.Cover.{Cover}
use Rattle.cdc_model.specs.declared.scheme.Crossing.{Crossing}
use Rattle.cdc_model.specs.declared.scheme.GrayReg.{GrayReg}
use Rattle.cdc_model.specs.Schemes.{Ring, IsCrossing}
use Rattle.cdc_model.specs.Verdict.{IsBareCopy, IsOpen, IsFirstRing, BlindUnder, HoldsUnder, IsCover, IsServed, crossing_key}
use Rattle.cdc_model.specs.Ordered.{IsAscending}
use Rattle.cdc_model.proofs.Found.{crossings_are_all, net_ascends}
use Rattle.mux_recirc.specs.Given.{IsFirstOf, plain_trees}
use Rattle.mux_recirc.proofs.Plain.{same_blind, same_held}
use Rattle.obligations.specs.declared.Found.{Found}
use Rattle.obligations.specs.declared.bare.Lack.{Lack}
use Rattle.obligations.specs.declared.bare.Lack.TheVariants.{Flops, Hold, Gate, Scheme}
use Rattle.obligations.specs.Bare.{AreHanded, finding_by}
use Rattle.obligations.specs.Covers.{cover_by_load, cover_by_sync}
use Rattle.obligations.specs.Findings.{IsFindingIn}
use Rattle.obligations.specs.Given.{AreFound, design_in, trees_in, syncs_in}

-- there is one first ring
first_is_one : (P : Ring → Type 0) (rings : List Ring) (m n : ℕ) → IsFirstRing P rings m → IsFirstRing P rings n → m ≡ n
first_is_one P rings m n h k = elim (cases_eq m n) [
  | inl e ↦ e
  | inr ne ↦ elim (cases_lt m n) [
    | inl l ↦ absurd (k.1 m h.0.0 l h.0.1 h.0.2)
    | inr l ↦ absurd (h.1 n k.0.0 (omega (arith, l, ne)) k.0.1 k.0.2)
  ]
]

-- the first ring of which one thing holds is the first of which the same thing holds
first_of_same : (P Q : Ring → Type 0) (rings : List Ring) (o : Option ℕ) → ((r : Ring) → P r → Q r) → ((r : Ring) → Q r → P r) → IsFirstOf P rings o → IsFirstOf Q rings o
first_of_same P Q rings (Some n) f g h = ((h.0.0, h.0.1, f h.0.0 h.0.2), λ m r l e q. h.1 m r l e (g r q))
first_of_same P Q rings None f g h = λ m r e q. h m r e (g r q)

module _ (grays : GrayReg → Bool) (rings : List Ring) (is_extra : Bit → Bit → Bool) (found : Found) (k : Crossing) where
  abbrev IsLack : Lack → Type 0
  IsLack lack = IsFindingIn grays rings is_extra found (finding_by k lack)

  abbrev Blind : Ring → Type 0
  Blind = BlindUnder (design_in found) (trees_in grays found) k.from k.to

  abbrev Holds : Ring → Type 0
  Holds = HoldsUnder (design_in found) (trees_in grays found) k.from k.to

  abbrev Open : Type 0
  Open = IsOpen (design_in found) (trees_in grays found) found.grays.now (syncs_in found) rings found.loads.now is_extra k.from k.to

  abbrev BareCopy : Type 0
  BareCopy = IsBareCopy (design_in found) (trees_in grays found) found.grays.now (syncs_in found) rings found.loads.now is_extra k.from k.to

  pub first_blind : (o : Option ℕ) → IsFirstOf (BlindUnder (design_in found) (plain_trees found.net.now) k.from k.to) rings o → IsFirstOf Blind rings o
  first_blind o = first_of_same (BlindUnder (design_in found) (plain_trees found.net.now) k.from k.to) Blind rings o
      (λ r h. (h.0, (h.1.0, same_blind found.net.now found.domains.now (λ g. false) grays r h.1.0 k.from k.to h.1.1)))
      (λ r h. (h.0, (h.1.0, same_blind found.net.now found.domains.now grays (λ g. false) r h.1.0 k.from k.to h.1.1)))

  pub first_held : (o : Option ℕ) → IsFirstOf (HoldsUnder (design_in found) (plain_trees found.net.now) k.from k.to) rings o → IsFirstOf Holds rings o
  first_held o = first_of_same (HoldsUnder (design_in found) (plain_trees found.net.now) k.from k.to) Holds rings o
      (λ r h. (h.0, same_held found.net.now found.domains.now (λ g. false) grays r k.from h.1))
      (λ r h. (h.0, same_held found.net.now found.domains.now grays (λ g. false) r k.from h.1))

  -- ---- an open crossing

  pub lacks_hold : Open → (n : ℕ) → IsFirstOf Blind rings (Some n) → (lack : Lack) → (Hold n ≡ lack) ↔ IsLack lack
  lacks_hold is n first lack = (λ e. subst IsLack e (is, first), only lack)
    where
      only : (lack : Lack) → IsLack lack → Hold n ≡ lack
      only Flops h = absurd (is.2 h)
      only (Hold m) h = ap Hold (first_is_one Blind rings n m first h.1)
      only (Gate m) h = absurd (h.1 n (is, first))
      only Scheme h = absurd (h.1 n (is, first))

  pub lacks_gate : Open → IsFirstOf Blind rings None → (n : ℕ) → IsFirstOf Holds rings (Some n) → (lack : Lack) → (Gate n ≡ lack) ↔ IsLack lack
  lacks_gate is none n first lack = (λ e. subst IsLack e (is, (λ m h. none m h.1.0.0 h.1.0.1 h.1.0.2), first), only lack)
    where
      only : (lack : Lack) → IsLack lack → Gate n ≡ lack
      only Flops h = absurd (is.2 h)
      only (Hold m) h = absurd (none m h.1.0.0 h.1.0.1 h.1.0.2)
      only (Gate m) h = ap Gate (first_is_one Holds rings n m first h.2)
      only Scheme h = absurd (h.2 n (is, h.1, first))

  pub lacks_scheme : Open → IsFirstOf Blind rings None → IsFirstOf Holds rings None → (lack : Lack) → (Scheme ≡ lack) ↔ IsLack lack
  lacks_scheme is none no_hold lack = (λ e. subst IsLack e (is, (λ m h. none m h.1.0.0 h.1.0.1 h.1.0.2), (λ m h. no_hold m h.2.0.0 h.2.0.1 h.2.0.2)), only lack)
    where
      only : (lack : Lack) → IsLack lack → Scheme ≡ lack
      only Flops h = absurd (is.2 h)
      only (Hold m) h = absurd (none m h.1.0.0 h.1.0.1 h.1.0.2)
      only (Gate m) h = absurd (no_hold m h.2.0.0 h.2.0.1 h.2.0.2)
      only Scheme h = refl

  -- ---- any crossing

  -- where it is neither open nor into a bare copy, nothing is found
  lacks_nothing : (Open → ⊥) → (BareCopy → ⊥) → (lack : Lack) → IsLack lack → ⊥
  lacks_nothing no_open no_copy Flops h = no_copy h
  lacks_nothing no_open no_copy (Hold n) h = no_open h.0
  lacks_nothing no_open no_copy (Gate n) h = no_open h.0
  lacks_nothing no_open no_copy Scheme h = no_open h.0

  none_lacks : ((lack : Lack) → IsLack lack → ⊥) → (lack : Lack) → (None ≡ Some lack) ↔ IsLack lack
  none_lacks h lack = (λ e. absurd (cc), λ l. absurd (h lack l))

  pub lacks_flops : BareCopy → (lack : Lack) → (Some Flops ≡ Some lack) ↔ IsLack lack
  lacks_flops copy lack = (λ e. let s : Flops ≡ lack = cc in subst IsLack s copy, λ h. ap Some (only lack h))
    where
      only : (lack : Lack) → IsLack lack → Flops ≡ lack
      only Flops h = refl
      only (Hold m) h = absurd (h.0.2 copy)
      only (Gate m) h = absurd (h.0.2 copy)
      only Scheme h = absurd (h.0.2 copy)

  module _ (covers : List Cover) (extra : List Crossing) (handed : AreHanded grays rings is_extra found covers extra) where
    abbrev served : Type 0
    served = IsServed (syncs_in found) found.loads.now is_extra k.from k.to

    -- a cover serves its crossing, which isn't into a bare copy
    covered : (c : Cover) → IsCover found.grays.now (syncs_in found) found.loads.now c → c.from ≡ k.from → c.to ≡ k.to → served × (BareCopy → ⊥)
    covered c (inl s) e f =
        let from = ap (λ (k : Cover). k.from) (sym s.2) ∙ e in
        let to = ap (λ (k : Cover). k.to) (sym s.2) ∙ f in
        (inl (s.0, s.1, from, to), λ copy. copy.2 s.0 s.1 to)
    covered c (inr l) e f =
        let from : l.0.from ≡ k.from = ap (λ (k : Cover). k.from) (sym l.2) ∙ e in
        let to : l.0.to ≡ k.to = ap (λ (k : Cover). k.to) (sym l.2) ∙ f in
        (inr (inl (l.0, l.1, from, to)), λ copy. (handed.are_found.all_loads.only l.0 l.1).load.no_copy (ap (design_in found).copied to ∙ copy.1 ∙ ap Some (sym from)))

    pub lacks_cover : (c : Cover) → Contains covers c → c.from ≡ k.from → c.to ≡ k.to → (lack : Lack) → (None ≡ Some lack) ↔ IsLack lack
    lacks_cover c i e f = let h = covered c (handed.all_covers.only c i) e f in none_lacks (lacks_nothing (λ is. is.1 h.0) h.1)

    -- a crossing that is extra and not into a bare copy
    pub lacks_extra : Contains extra k → (BareCopy → ⊥) → (lack : Lack) → (None ≡ Some lack) ↔ IsLack lack
    lacks_extra i no_copy = none_lacks (lacks_nothing (λ is. is.1 (inr (inr ((handed.listed k.from k.to).1 i)))) no_copy)

    -- a crossing that is neither covered nor extra, nor into a bare copy
    pub is_open : IsCrossing (design_in found) (trees_in grays found) k.from k.to → ((c : Cover) → Contains covers c → c.from ≡ k.from → c.to ≡ k.to → ⊥) → (Contains extra k → ⊥) → (BareCopy → ⊥) → Open
    is_open crossing no_cover no_extra no_copy = (crossing, unserved, no_copy)
      where
        unserved : IsServed (syncs_in found) found.loads.now is_extra k.from k.to → ⊥
        unserved (inl s) = no_cover (cover_by_sync found.grays.now s.0) (handed.all_covers.all (cover_by_sync found.grays.now s.0) (inl (s.0, s.1, refl))) s.2 s.3
        unserved (inr (inl l)) = no_cover (cover_by_load l.0) (handed.all_covers.all (cover_by_load l.0) (inr (l.0, l.1, refl))) l.2 l.3
        unserved (inr (inr h)) = no_extra ((handed.listed k.from k.to).0 h)

-- each of the crossings is one
pub crossing_is : (grays : GrayReg → Bool) (rings : List Ring) (found : Found) → AreFound grays rings found → (k : Crossing) → Contains found.crossings.now k → IsCrossing (design_in found) (trees_in grays found) k.from k.to
crossing_is grays rings found are k i =
    (crossings_are_all found.net.now found.domains.now grays (net_ascends found.net.now are.is_net)).only k (subst (λ (ks : List Crossing). Contains ks k) are.all_crossings i)

pub crossings_ascend : (grays : GrayReg → Bool) (rings : List Ring) (found : Found) → AreFound grays rings found → IsAscending crossing_key found.crossings.now
crossings_ascend grays rings found are =
    subst (IsAscending crossing_key) (sym are.all_crossings) (crossings_are_all found.net.now found.domains.now grays (net_ascends found.net.now are.is_net)).ordered

-- what lacks something is a crossing
pub lacking_crosses : (grays : GrayReg → Bool) (rings : List Ring) (is_extra : Bit → Bit → Bool) (found : Found) (k : Crossing) (lack : Lack)
    → IsFindingIn grays rings is_extra found (finding_by k lack) → IsCrossing (design_in found) (trees_in grays found) k.from k.to
lacking_crosses grays rings is_extra found k Flops h = h.0
lacking_crosses grays rings is_extra found k (Hold n) h = h.0.0
lacking_crosses grays rings is_extra found k (Gate n) h = h.0.0
lacking_crosses grays rings is_extra found k Scheme h = h.0.0

pub lacking_is : (grays : GrayReg → Bool) (rings : List Ring) (is_extra : Bit → Bit → Bool) (found : Found) (k : Crossing) → AreFound grays rings found
    → (lack : Lack) → IsFindingIn grays rings is_extra found (finding_by k lack) → Contains found.crossings.now k
lacking_is grays rings is_extra found k are lack h =
    subst (λ (ks : List Crossing). Contains ks k) (sym are.all_crossings) ((crossings_are_all found.net.now found.domains.now grays (net_ascends found.net.now are.is_net)).all k (lacking_crosses grays rings is_extra found k lack h))
