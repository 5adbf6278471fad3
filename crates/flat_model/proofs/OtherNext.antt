-- What a design's trees show doesn't rest on its next values: neither does its verdict.
use Rattle.std.proofs.Common.{ℕ, zero, suc, Bool, inl, inr, List, [], ◌∷◌}
use Rattle.cdc_base.specs.declared.bit.Bit.{Bit}
use Rattle.cell_graph.specs.Reading.{Reading}
use Rattle.cell_graph.specs.Tree.{Tree}
use Rattle.cdc_model.specs.declared.scheme.GrayReg.{GrayReg}
use Rattle.cdc_model.specs.declared.scheme.Load.{Load}
use Rattle.cdc_model.specs.Design.{Design}
use Rattle.cdc_model.specs.GrayShape.{IsGrayReg}
use Rattle.cdc_model.specs.Ordered.{IsAll}
use Rattle.cdc_model.specs.Schemes.{Trees, IsCrossing, Follows, Sync, IsChain, IsSync, Ring, IsRing, IsHeld, IsBlind, IsLoad}
use Rattle.cdc_model.specs.Together.{Reads}
use Rattle.cdc_model.specs.Verdict.{IsBetween, HoldsUnder, BlindUnder, IsFirstRing, IsFirstLoad, Finding, V1, V2, V3, V4, V5, V6, V7, V8, IsBareCopy, IsOpen, IsOnlyBlind, IsOnlyHeld, IsPair, IsFinding, Verdict, IsVerdict}

all_of : {A : Type 0} {P Q : A → Type 0} {key : A → List ℕ} {xs : List A} → ((x : A) → P x → Q x) → ((x : A) → Q x → P x) → IsAll P key xs → IsAll Q key xs
all_of to from h = record { all = λ x q. h.all x (from x q); only = λ x i. to x (h.only x i); ordered = h.ordered }

first_ring : (P Q : Ring → Type 0) (rings : List Ring) (n : ℕ) → ((r : Ring) → P r → Q r) → ((r : Ring) → Q r → P r) → IsFirstRing P rings n → IsFirstRing Q rings n
first_ring P Q rings n to from h = ((h.0.0, h.0.1, to h.0.0 h.0.2), λ m r l e q. h.1 m r l e (from r q))

module _ (d : Design) (t : Trees) where
  abbrev Next : Type 0
  Next = Reading → Bit → Bool

  -- the design with these next values
  abbrev with_next : Next → Design
  with_next n = record d { next = n }

  crossing : (n m : Next) (b x : Bit) → IsCrossing (with_next n) t b x → IsCrossing (with_next m) t b x
  crossing n m b x h = record { register = h.register; reads = h.reads; async = h.async }

  follows : (n m : Next) (f g : Bit) → Follows (with_next n) t f g → Follows (with_next m) t f g
  follows n m f g h = record { register = h.register; copy = h.copy; clock = h.clock; only = h.only; hidden = h.hidden }

  chain : (n m : Next) (k j : ℕ) (f : Bit) (gs : List Bit) → IsChain (with_next n) t k j f gs → IsChain (with_next m) t k j f gs
  chain n m (suc k) j f [] h = h
  chain n m (suc k) j f (g ∷ gs) h = (follows n m f g h.0, chain n m k j g gs h.1)
  chain n m zero j f [] h = elim h [ inl e ↦ inl e | inr none ↦ inr (λ g q. none g (follows m n f g q)) ]
  chain n m zero zero f (g ∷ gs) h = h
  chain n m zero (suc j) f (g ∷ gs) h = (follows n m f g h.0, chain n m zero j g gs h.1)

  sync : (n m : Next) (s : Sync) → IsSync (with_next n) t s → IsSync (with_next m) t s
  sync n m s h = record { crossing = crossing n m s.from s.first h.crossing; copy = h.copy; chain = chain n m _ _ s.first s.more h.chain }

  ring : (n m : Next) (syncs : List Sync) (r : Ring) → IsRing (with_next n) t syncs r → IsRing (with_next m) t syncs r
  ring n m syncs r h = record {
    there = h.there;
    back = h.back;
    registers = h.registers;
    there_group = h.there_group;
    back_group = h.back_group;
    apart = h.apart;
    start = h.start;
    reads = h.reads;
    waits = h.waits;
    answers = h.answers;
  }

  held : (n m : Next) (r : Ring) (b : Bit) → IsHeld (with_next n) t r b → IsHeld (with_next m) t r b
  held n m r b h = record { register = h.register; group = h.group; holds = h.holds }

  blind : (n m : Next) (r : Ring) (place : ℕ) (b x : Bit) → IsBlind (with_next n) t r place b x → IsBlind (with_next m) t r place b x
  blind n m r place b x h = record { group = h.group; gate = h.gate }

  between : (n m : Next) (r : Ring) (b x : Bit) → IsBetween (with_next n) r b x → IsBetween (with_next m) r b x
  between n m r b x h = record { from = h.from; to = h.to }

  holds_under : (n m : Next) (b x : Bit) (r : Ring) → HoldsUnder (with_next n) t b x r → HoldsUnder (with_next m) t b x r
  holds_under n m b x r h = (between n m r b x h.0, held n m r b h.1)

  blind_under : (n m : Next) (b x : Bit) (r : Ring) → BlindUnder (with_next n) t b x r → BlindUnder (with_next m) t b x r
  blind_under n m b x r h = (between n m r b x h.0, (h.1.0, blind n m r h.1.0 b x h.1.1))

  load : (n m : Next) (rings : List Ring) (l : Load) → IsLoad (with_next n) t rings l → IsLoad (with_next m) t rings l
  load n m rings l h = record {
    crossing = crossing n m l.from l.to h.crossing;
    no_copy = h.no_copy;
    ring = (h.ring.0, h.ring.1, held n m h.ring.0 l.from h.ring.2, blind n m h.ring.0 l.gate l.from l.to h.ring.3);
  }

  first_load : (n m : Next) (rings : List Ring) (l : Load) → IsFirstLoad (with_next n) t rings l → IsFirstLoad (with_next m) t rings l
  first_load n m rings l h = record {
    load = load n m rings l h.load;
    first_ring = first_ring (λ r. HoldsUnder (with_next n) t l.from l.to r × BlindUnder (with_next n) t l.from l.to r) (λ r. HoldsUnder (with_next m) t l.from l.to r × BlindUnder (with_next m) t l.from l.to r)
        rings l.ring
        (λ r k. (holds_under n m l.from l.to r k.0, blind_under n m l.from l.to r k.1)) (λ r k. (holds_under m n l.from l.to r k.0, blind_under m n l.from l.to r k.1)) h.first_ring;
    first_gate = λ r place e lt k. h.first_gate r place e lt (blind m n r place l.from l.to k);
    recirculates = h.recirculates;
  }

  reads_same : (n m : Next) (syncs : List Sync) (x : Bit) (g k : ℕ) (s : Sync) (y : Bit) → Reads (with_next n) t syncs x g k s y → Reads (with_next m) t syncs x g k s y
  reads_same n m syncs x g k s y h = record { sync = h.sync; from = h.from; arrival = h.arrival; reads = h.reads }

  pub gray_reg : (n m : Next) (tree : ℕ → Tree) (g : GrayReg) → IsGrayReg (with_next n) tree g → IsGrayReg (with_next m) tree g
  gray_reg n m tree g h = record { apart = h.apart; width = h.width; one_clock = h.one_clock; start = h.start; shape = h.shape }

  module _ (grays : List GrayReg) (syncs : List Sync) (rings : List Ring) (loads : List Load) (is_extra : Bit → Bit → Bool) where
    bare : (n m : Next) (b x : Bit) → IsBareCopy (with_next n) t grays syncs rings loads is_extra b x → IsBareCopy (with_next m) t grays syncs rings loads is_extra b x
    bare n m b x h = (crossing n m b x h.0, h.1, h.2)

    open_one : (n m : Next) (b x : Bit) → IsOpen (with_next n) t grays syncs rings loads is_extra b x → IsOpen (with_next m) t grays syncs rings loads is_extra b x
    open_one n m b x h = (crossing n m b x h.0, h.1, λ k. h.2 (bare m n b x k))

    only_blind : (n m : Next) (b x : Bit) (k : ℕ) → IsOnlyBlind (with_next n) t grays syncs rings loads is_extra b x k → IsOnlyBlind (with_next m) t grays syncs rings loads is_extra b x k
    only_blind n m b x k h = (
      open_one n m b x h.0,
      first_ring (BlindUnder (with_next n) t b x) (BlindUnder (with_next m) t b x) rings k (blind_under n m b x) (blind_under m n b x) h.1,
    )

    only_held : (n m : Next) (b x : Bit) (k : ℕ) → IsOnlyHeld (with_next n) t grays syncs rings loads is_extra b x k → IsOnlyHeld (with_next m) t grays syncs rings loads is_extra b x k
    only_held n m b x k h = (
      open_one n m b x h.0,
      λ j q. h.1 j (only_blind m n b x j q),
      first_ring (HoldsUnder (with_next n) t b x) (HoldsUnder (with_next m) t b x) rings k (holds_under n m b x) (holds_under m n b x) h.2,
    )

    pair : (n m : Next) (g : ℕ) (s r : Sync) → IsPair (with_next n) t grays syncs rings loads is_extra g s r → IsPair (with_next m) t grays syncs rings loads is_extra g s r
    pair n m g s r h = record { one = h.one; other = h.other; one_group = h.one_group; other_group = h.other_group }

    finding : (n m : Next) (v : Finding) → IsFinding (with_next n) t grays syncs rings loads is_extra v → IsFinding (with_next m) t grays syncs rings loads is_extra v
    finding n m (V1 b x) h = (open_one n m b x h.0, λ k q. h.1 k (only_blind m n b x k q), λ k q. h.2 k (only_held m n b x k q))
    finding n m (V2 b x) h = bare n m b x h
    finding n m (V3 w g) h = ((h.0.0, h.0.1, pair n m g h.0.0 h.0.1 h.0.2, h.0.3, h.0.4, h.0.5), h.1)
    finding n m (V4 b g) h = (h.0, h.1, pair n m g h.0 h.1 h.2, h.3, h.4, h.5)
    finding n m (V5 w g) h = (h.0, h.1, pair n m g h.0 h.1 h.2, h.3, h.4, h.5)
    finding n m (V6 x g) h = let (s, r, y, z, k, j, a, b, ne) = h.2 in (h.0, h.1, (s, r, y, z, k, j, reads_same n m syncs x g k s y a, reads_same n m syncs x g j r z b, ne))
    finding n m (V7 b x k) h = only_blind n m b x k h
    finding n m (V8 b x k) h = only_held n m b x k h

  pub verdict_same : (n m : Next) (is_extra : Bit → Bit → Bool) (syncs : List Sync) (loads : List Load) (v : Verdict)
      → IsVerdict (with_next n) t is_extra syncs loads v → IsVerdict (with_next m) t is_extra syncs loads v
  verdict_same n m is_extra syncs loads v h = record {
    all_crossings = all_of (λ c. crossing n m c.from c.to) (λ c. crossing m n c.from c.to) h.all_crossings;
    all_syncs = all_of (sync n m) (sync m n) h.all_syncs;
    all_grays = h.all_grays;
    all_rings = all_of (ring n m syncs) (ring m n syncs) h.all_rings;
    all_loads = all_of (first_load n m v.rings) (first_load m n v.rings) h.all_loads;
    all_covers = h.all_covers;
    all_findings = all_of (finding v.grays syncs v.rings loads is_extra n m) (finding v.grays syncs v.rings loads is_extra m n) h.all_findings;
  }
