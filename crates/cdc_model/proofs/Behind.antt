-- Flops behind one another: places in a chain, and copies of copies.
use Rattle.std.proofs.Common.{◌≡◌, ℕ, zero, suc, ◌-◌, ◌≤◌, Bool, true, ◌&&◌, Option, Some, None, option_map, List, [], Contains, refl, sym, ap, subst, ◌∙◌, arith, eq-eqb}
use Rattle.std.proofs.lemmas.Bool.{both_ways, and_parts, and_from}
use Rattle.cdc_base.specs.declared.bit.Bit.{Bit}
use Rattle.cell_graph.proofs.Bits.{bit_eq-true, eq-bit_eq}
use Rattle.cdc_model.specs.Design.{Design, are_async, differ, group, are_equal, settle_of, at_bit, is_behind}
use Rattle.cdc_model.specs.Schemes.{IsAt, Trees, AreTrees, Sync, IsSync, flops}
use Rattle.cdc_model.proofs.Flips.{same_clock_not_async, one_bit}
use Rattle.cdc_model.proofs.Chain.{equal_eq, before_at, at_clock, reads_settling}

at_bit_some : (o : Option Bit) (test : Bit → Bool) → at_bit o test ≡ true → (b : Bit) × (o ≡ Some b) × (test b ≡ true)
at_bit_some None test h = cc
at_bit_some (Some b) test h = (b, refl, h)

clock_some : (g o : Option ℕ) (f : ℕ → ℕ) → differ g (option_map f o) ≡ true → (c : ℕ) × (o ≡ Some c)
clock_some None o f h = cc
clock_some (Some a) None f h = cc
clock_some (Some a) (Some c) f h = (c, refl)

-- a flop of another group has a clock
pub async_clock : (d : Design) (b x : Bit) → are_async d b x ≡ true → (c : ℕ) × (d.clock x ≡ Some c)
async_clock d b x h = clock_some (group d b) (d.clock x) d.group_of h

first_some : (o g : Option ℕ) (f : ℕ → ℕ) → differ (option_map f o) g ≡ true → (c : ℕ) × (o ≡ Some c)
first_some None g f h = cc
first_some (Some c) g f h = (c, refl)

-- and so does its source
pub source_clock : (d : Design) (b x : Bit) → are_async d b x ≡ true → (c : ℕ) × (d.clock b ≡ Some c)
source_clock d b x h = first_some (d.clock b) (group d x) d.group_of h

-- a further flop copies the one before
pub next_behind : (d : Design) (f : Bit) (n : ℕ) (x : Bit) → is_behind d f (suc n) x ≡ true
    → (d.is_register x ≡ true) × (d.clock x ≡ d.clock f) × ((z : Bit) × (d.copied x ≡ Some z) × (is_behind d f n z ≡ true))
next_behind d f n x h =
    let p = and_parts (d.is_register x) (are_equal (d.clock x) (d.clock f) && at_bit (d.copied x) (is_behind d f n)) h in
    let q = and_parts (are_equal (d.clock x) (d.clock f)) (at_bit (d.copied x) (is_behind d f n)) p.1 in
    (p.0, equal_eq (d.clock x) (d.clock f) q.0, at_bit_some (d.copied x) (is_behind d f n) q.1)

pub behind_clock : (d : Design) (f : Bit) (n : ℕ) (x : Bit) → is_behind d f n x ≡ true → d.clock x ≡ d.clock f
behind_clock d f zero x h = ap d.clock (bit_eq-true x f h)
behind_clock d f (suc n) x h = (next_behind d f n x h).1

module _ (d : Design) (t : Trees) (laws : AreTrees d t) (syncs : List Sync) (ok : (s : Sync) → Contains syncs s → IsSync d t s) where
  pub behind_register : (s : Sync) → Contains syncs s → (n : ℕ) (x : Bit) → is_behind d s.first n x ≡ true → d.is_register x ≡ true
  behind_register s i zero x h = ap d.is_register (bit_eq-true x s.first h) ∙ (ok s i).crossing.register
  behind_register s i (suc n) x h = (next_behind d s.first n x h).0

  pub at_behind : (s : Sync) → Contains syncs s → (j : ℕ) (x : Bit) → IsAt j x (flops s) → is_behind d s.first j x ≡ true
  at_behind s i zero x a = eq-bit_eq x s.first a
  at_behind s i (suc j) x a =
      let b = before_at d t (settle_of d s.first) (3 - settle_of d s.first) s.first s.more (ok s i).chain j x a in
      let c = async_clock d s.from s.first (ok s i).crossing.async in
      and_from (d.is_register x) (are_equal (d.clock x) (d.clock s.first) && at_bit (d.copied x) (is_behind d s.first j)) b.2.register
      (and_from (are_equal (d.clock x) (d.clock s.first)) (at_bit (d.copied x) (is_behind d s.first j))
      (ap (λ o. are_equal o (d.clock s.first)) (at_clock d t laws syncs ok s i (suc j) x a) ∙ ap (λ o. are_equal o o) c.1 ∙ eq-eqb c.0 c.0 refl)
      (ap (λ o. at_bit o (is_behind d s.first j)) b.2.copy ∙ at_behind s i j b.0 b.1))

  -- a settling flop, and the one behind the last of them, stand in the chain
  pub behind_at : (s : Sync) → Contains syncs s → (j : ℕ) (x : Bit) → j ≤ settle_of d s.first → is_behind d s.first j x ≡ true → IsAt j x (flops s)
  behind_at s i zero x l h = bit_eq-true x s.first h
  behind_at s i (suc j) x l h =
      let n = next_behind d s.first j x h in
      (reads_settling d t laws syncs ok s i j n.2.0 x (omega arith) (behind_at s i j n.2.0 (omega arith) n.2.2) n.0
      (laws.same_reads [] x n.2.0 n.0 (sym (laws.copied x n.0) ∙ n.2.1))).2

  -- a first flop is behind no other
  first_only : (s r : Sync) → Contains syncs s → Contains syncs r → (n : ℕ) (x : Bit) → is_behind d s.first 0 x ≡ true → is_behind d r.first (suc n) x ≡ true → ⊥
  first_only s r p q n x h k =
      let a = next_behind d r.first n x k in
      let f : x ≡ s.first = bit_eq-true x s.first h in
      let e : a.2.0 ≡ s.from = one_bit a.2.0 s.from (d.copied x) a.2.1 (ap d.copied f ∙ (ok s p).copy) in
      both_ways (are_async d s.from s.first) (same_clock_not_async d s.from s.first (ap d.clock (sym e) ∙ behind_clock d r.first n a.2.0 a.2.2 ∙ sym a.1 ∙ ap d.clock f)) (ok s p).crossing.async

  -- a bit is behind one first flop, at one depth
  pub behind_unique : (s r : Sync) → Contains syncs s → Contains syncs r → (n m : ℕ) (x : Bit) → is_behind d s.first n x ≡ true → is_behind d r.first m x ≡ true
      → (n ≡ m) × (s.first ≡ r.first)
  behind_unique s r p q zero zero x h k = (refl, sym (bit_eq-true x s.first h) ∙ bit_eq-true x r.first k)
  behind_unique s r p q zero (suc m) x h k = absurd (first_only s r p q m x h k)
  behind_unique s r p q (suc n) zero x h k = absurd (first_only r s q p n x k h)
  behind_unique s r p q (suc n) (suc m) x h k =
      let a = next_behind d s.first n x h in
      let b = next_behind d r.first m x k in
      let e : b.2.0 ≡ a.2.0 = one_bit b.2.0 a.2.0 (d.copied x) b.2.1 a.2.1 in
      let u = behind_unique s r p q n m a.2.0 a.2.2 (subst (λ (z : Bit). is_behind d r.first m z ≡ true) e b.2.2) in
      (ap suc u.0, u.1)

  -- a bit stands at one place of one synchronizer
  pub place_unique : (s r : Sync) → Contains syncs s → Contains syncs r → (j i : ℕ) (x : Bit) → IsAt j x (flops s) → IsAt i x (flops r) → (j ≡ i) × (s.first ≡ r.first)
  place_unique s r p q j i x a b = behind_unique s r p q j i x (at_behind s p j x a) (at_behind r q i x b)
