-- The walk meets each arrival once.
use Rattle.std.proofs.Common.{◌≡◌, ◌∙◌, ◌⊎◌, inl, inr, refl, sym, ap, ap₂, subst, arith, ℕ, zero, suc, ◌+◌, ◌<◌, ◌≤◌, ◌&&◌, Bool, true, false, cond, eq-eqb, Option, Some, None, is_some, List, [], ◌∷◌, ◌++◌, map, take, length, Contains, length-append, Ordering, Less, Equal, Greater}
use Rattle.std.specs.List.{flat_map, IsDistinct, AllByRecursion}
use Rattle.std.specs.List.Sorted.{IsPermutation, IsSortedBy}
use Rattle.std.specs.Ordering.{is_lt, is_eq, ordering_reverse}
use Rattle.std.specs.Prelude.{filter, if◌then◌else◌}
use Rattle.std.proofs.lemmas.Bool.{both_ways, and_parts, and_from, false_from_ne_true}
use Rattle.std.proofs.lemmas.List.{take_all, length-map}
use Rattle.std.proofs.lemmas.List.Folds.{Any-from_list_any, list_any-from_Any}
use Rattle.std.proofs.lemmas.List.Sorted.{Contains-permutation, IsPermutation-sym}
use Rattle.std.proofs.lemmas.Map.Keys.{IsDistinct-IsPermutation}
use Rattle.std.proofs.lemmas.Map.Made.{length-le_from_is_member}
use Rattle.std.proofs.lemmas.List.Elements.{Contains-append_cases, Contains-append_left, Contains-append_right, filter-append}
use Rattle.cdc_base.specs.declared.bit.Bit.{Bit}
use Rattle.cdc_base.specs.contracts.bit.BitOrd.TheImpl as order
use Rattle.cdc_base.specs.contracts.bit.BitPartialEq.TheImpl as equality
use Rattle.cofactor.proofs.Ascending.{equal_bits, equal-is}
use Rattle.cell_graph.specs.declared.net.Net.{Net}
use Rattle.cell_graph.specs.Reading.{bit_eq}
use Rattle.cell_graph.proofs.Bits.{bit_eq-true, eq-bit_eq, bit_eq-refl}
use Rattle.domains.specs.declared.Domains.{Domains}
use Rattle.domains.specs.Assignment.{clock_of}
use Rattle.domains.specs.Fit.{Fit}
use Rattle.domains.specs.Nets.{IsNet}
use Rattle.cdc_model.specs.declared.scheme.Arrival.{Arrival}
use Rattle.cdc_model.specs.Design.{Design, are_equal, at_bit, is_behind}
use Rattle.cdc_model.specs.Nets.{next_cell, is_within, is_register_bit, bits_of_registers, design_of, net_trees}
use Rattle.cdc_model.specs.Ordered.{IsAll, is_before}
use Rattle.cdc_model.specs.Schemes.{Trees, Sync, IsSync}
use Rattle.cdc_model.specs.Syncs.{syncs_of}
use Rattle.cdc_model.specs.Verdict.{bit_key, sync_key}
use Rattle.cdc_model.proofs.Ascending.{here, later, parts, nothing_in, in_map, from_map, in_filter, from_filter, Ascends, filtered_ascend}
use Rattle.cdc_model.proofs.Behind.{async_clock, next_behind, behind_clock, behind_register, behind_unique}
use Rattle.cdc_model.proofs.Chain.{equal_eq}
use Rattle.cdc_model.proofs.Loads.{all_of}
use Rattle.cdc_model.proofs.NetDesign.{plain_trees_are}
use Rattle.cdc_model.proofs.Ordered.{never_before}
use Rattle.cdc_model.proofs.Synced.{syncs_are_all}
use Rattle.obligations.specs.declared.arrivals.Copying.{Copying}
use Rattle.obligations.specs.Arrivals.{IsCopying, copying_key, copyings_at, IsArrival, arrival_key, first_arrival, copy_of, copies_of}
use Rattle.obligations.proofs.Copyings.{registers_listed}
use Rattle.cdc_model.proofs.Keys.{bits_total, bits_same, bits_order, ascending, ascends}

-- ---- lists

from_flat : {A B : Type 0} (f : A → List B) (xs : List A) (y : B) → Contains (flat_map f xs) y → (x : A) × Contains xs x × Contains (f x) y
from_flat f [] y i = absurd (nothing_in y i)
from_flat f (x ∷ xs) y i = elim (Contains-append_cases (f x) (flat_map f xs) y i) [
  | inl j ↦ (x, here x xs, j)
  | inr j ↦ let k = from_flat f xs y j in (k.0, later x xs k.0 k.1, k.2)
]

in_flat : {A B : Type 0} (f : A → List B) (xs : List A) (x : A) (y : B) → Contains xs x → Contains (f x) y → Contains (flat_map f xs) y
in_flat f [] x y i j = absurd (nothing_in x i)
in_flat {A} {B} f (z ∷ xs) x y i j = elim (parts z xs x i) [
  | inl e ↦ Contains-append_left (f z) (flat_map f xs) y (subst (λ (w : A). Contains (f w) y) (sym e) j)
  | inr k ↦ Contains-append_right (f z) (flat_map f xs) y (in_flat f xs x y k j)
]

from_take : {A : Type 0} (n : ℕ) (xs : List A) (x : A) → Contains (take n xs) x → Contains xs x
from_take zero xs x i = absurd (nothing_in x i)
from_take (suc n) [] x i = absurd (nothing_in x i)
from_take (suc n) (y ∷ xs) x i = elim (parts y (take n xs) x i) [ inl e ↦ subst (Contains (y ∷ xs)) e (here y xs) | inr j ↦ later y xs x (from_take n xs x j) ]

-- ---- how often a test passes

abbrev pub count : {A : Type 0} → (A → Bool) → List A → ℕ
count p xs = length (filter p xs)

module _ {A : Type 0} (p : A → Bool) where
  count_one : (x : A) (xs : List A) → count p (x ∷ xs) ≡ cond (p x) 1 0 + count p xs
  count_one x xs = go (p x)
    where
      go : (v : Bool) → length (if v then x ∷ filter p xs else filter p xs) ≡ cond v 1 0 + count p xs
      go true = omega arith
      go false = omega arith

  count_both : (xs ys : List A) → count p (xs ++ ys) ≡ count p xs + count p ys
  count_both xs ys = ap length (filter-append p xs ys) ∙ length-append (filter p xs) (filter p ys)

  count_none : (xs : List A) → ((x : A) → Contains xs x → p x ≡ true → ⊥) → count p xs ≡ 0
  count_none [] h = refl
  count_none (x ∷ xs) h =
      let e : cond (p x) 1 0 ≡ 0 = ap {B = ℕ} (λ v. cond v 1 0) (false_from_ne_true (p x) (h x (here x xs))) in
      let ih = count_none xs (λ y i. h y (later x xs y i)) in
      omega (arith, count_one x xs, e, ih)

  count_there : (xs : List A) (x : A) → Contains xs x → p x ≡ true → 1 ≤ count p xs
  count_there [] x i e = absurd (nothing_in x i)
  count_there (y ∷ xs) x i e = elim (parts y xs x i) [
    | inl f ↦ (let g : cond (p y) 1 0 ≡ 1 = ap {B = ℕ} (λ v. cond v 1 0) (ap p f ∙ e) in omega (arith, count_one y xs, g))
    | inr j ↦ (let ih = count_there xs x j e in omega (arith, count_one y xs, ih))
  ]

  count_take : (n : ℕ) (xs : List A) → count p (take n xs) ≤ count p xs
  count_take zero xs = omega arith
  count_take (suc n) [] = omega arith
  count_take (suc n) (x ∷ xs) = let ih = count_take n xs in omega (arith, count_one x (take n xs), count_one x xs, ih)

  -- of items in strict order one at most has a key
  count_key : (key : A → List ℕ) (xs : List A) → Ascends key xs → ((x y : A) → Contains xs x → Contains xs y → p x ≡ true → p y ≡ true → key x ≡ key y) → count p xs ≤ 1
  count_key key [] up h = omega arith
  count_key key (x ∷ xs) up h = go (count_key key xs up.1 (λ y z i j. h y z (later x xs y i) (later x xs z j))) (p x) refl
    where
      behind : p x ≡ true → count p xs ≡ 0
      behind e = count_none xs (λ y i f. both_ways (is_before (key x) (key x)) (never_before (key x)) (subst (λ k. is_before (key x) k ≡ true) (sym (h x y (here x xs) (later x xs y i) e f)) (up.0 y i)))

      go : count p xs ≤ 1 → (v : Bool) → p x ≡ v → count p (x ∷ xs) ≤ 1
      go ih true e = let g : cond (p x) 1 0 ≡ 1 = ap {B = ℕ} (λ v. cond v 1 0) e in omega (arith, count_one x xs, behind e, g)
      go ih false e = let g : cond (p x) 1 0 ≡ 0 = ap {B = ℕ} (λ v. cond v 1 0) e in omega (arith, count_one x xs, ih, g)

count_map : {A B : Type 0} (p : B → Bool) (f : A → B) (xs : List A) → count p (map f xs) ≡ count (λ x. p (f x)) xs
count_map p f [] = refl
count_map p f (x ∷ xs) = let ih = count_map p f xs in omega (arith, count_one p (f x) (map f xs), count_one (λ y. p (f y)) x xs, ih)

-- the items that are made pass at most as often as those that they are made of
count_flat : {A B : Type 0} (p : B → Bool) (q : A → Bool) (f : A → List B) → ((x : A) → count p (f x) ≤ cond (q x) 1 0) → (xs : List A) → count p (flat_map f xs) ≤ count q xs
count_flat p q f h [] = omega arith
count_flat p q f h (x ∷ xs) = let ih = count_flat p q f h xs in let one = h x in omega (arith, count_both p (f x) (flat_map f xs), count_one q x xs, ih, one)

-- where no bit is met twice, the items differ
pub differ : (e : Arrival → Arrival → Bool) → ((a b : Arrival) → e a b ≡ true → a.bit ≡ b.bit) → (xs : List Arrival) → ((x : Bit) → count (λ (a : Arrival). bit_eq a.bit x) xs ≤ 1) → IsDistinct e xs
unfolding IsDistinct
differ e same [] h = tt
differ e same (a ∷ xs) h = (
  all_of (λ b. e a b ≡ false) xs (λ b i. false_from_ne_true (e a b) (λ f.
      let once = h a.bit in
      let one : cond (bit_eq a.bit a.bit) 1 0 ≡ 1 = ap {B = ℕ} (λ v. cond v 1 0) (bit_eq-refl a.bit) in
      let other = count_there (λ (k : Arrival). bit_eq k.bit a.bit) xs b i (eq-bit_eq b.bit a.bit (sym (same a b f))) in
      omega (arith, count_one (λ (k : Arrival). bit_eq k.bit a.bit) a xs, once, one, other))),
  differ e same xs (λ x. let once = h x in omega (arith, count_one (λ (k : Arrival). bit_eq k.bit x) a xs, once)),
)

differ_mapped : (xs : List Arrival) → ((x : Bit) → count (λ (a : Arrival). bit_eq a.bit x) xs ≤ 1) → IsDistinct equality.ghosts.eq (map (λ (a : Arrival). a.bit) xs)
unfolding IsDistinct
differ_mapped xs h = go xs (differ (λ a b. equality.ghosts.eq a.bit b.bit) (λ a b e. equal-is a.bit b.bit e) xs h)
  where
    bits : (a : Arrival) (ys : List Arrival) → AllByRecursion (λ (b : Arrival). equality.ghosts.eq a.bit b.bit ≡ false) ys → AllByRecursion (λ (b : Bit). equality.ghosts.eq a.bit b ≡ false) (map (λ (a : Arrival). a.bit) ys)
    bits a [] k = tt
    bits a (y ∷ ys) k = (k.0, bits a ys k.1)

    go : (ys : List Arrival) → IsDistinct (λ (a : Arrival) (b : Arrival). equality.ghosts.eq a.bit b.bit) ys → IsDistinct equality.ghosts.eq (map (λ (a : Arrival). a.bit) ys)
    go [] k = k
    go (y ∷ ys) k = (bits y ys k.0, go ys k.1)

equal : (o : Ordering) → is_eq o ≡ true → o ≡ Equal
equal Less e = cc
equal Equal e = refl
equal Greater e = cc

apart : Arrival → Arrival → Bool
apart a b = is_eq (order.ghosts.cmp a.bit b.bit)

flips : (a b : Arrival) → apart a b ≡ apart b a
unfolding apart
flips a b = ap is_eq (bits_total.antisymm a.bit b.bit) ∙ back (order.ghosts.cmp b.bit a.bit)
  where
    back : (o : Ordering) → is_eq (ordering_reverse o) ≡ is_eq o
    back Less = refl
    back Equal = refl
    back Greater = refl

-- ---- arrivals

one_bit : (a b : Bit) → Some a ≡ Some b → a ≡ b
one_bit a b e = cc

module _ (net : Net) (domains : Domains) (is : IsNet net) (fit : Fit net domains) where
  abbrev d : Design
  d = design_of net domains

  abbrev t : Trees
  t = net_trees net (λ g. false)

  abbrev ss : List Sync
  ss = syncs_of net domains

  pub are_syncs : (s : Sync) → Contains (syncs_of net domains) s → IsSync (design_of net domains) (net_trees net (λ g. false)) s
  are_syncs s i = (syncs_are_all net domains (λ g. false) is fit).only s i

  -- the clock of a bit of a register
  clock_is : (x : Bit) → is_register_bit net x ≡ true → d.clock x ≡ clock_of domains x
  clock_is x h = ap (λ v. cond v (clock_of domains x) None) (and_parts (is_some (next_cell net.regs x.sig)) (is_within net x) h).1

  equal_some : (o p : Option ℕ) (c : ℕ) → p ≡ Some c → o ≡ p → are_equal o p ≡ true
  equal_some o p c e f = ap₂ are_equal (f ∙ e) e ∙ eq-eqb c c refl

  pub register_at : (s : Sync) (n : ℕ) (x : Bit) → Contains ss s → is_behind d s.first n x ≡ true → is_register_bit net x ≡ true
  register_at s n x i h = behind_register d t (plain_trees_are net domains fit) ss are_syncs s i n x h

  pub one_place : (s r : Sync) (n m : ℕ) (x : Bit) → Contains ss s → Contains ss r → is_behind d s.first n x ≡ true → is_behind d r.first m x ≡ true → (n ≡ m) × (s.first ≡ r.first)
  one_place s r n m x i j h k = behind_unique d t (plain_trees_are net domains fit) ss are_syncs s r i j n m x h k

  module _ (cs : List Copying) (all : IsAll (IsCopying net domains) copying_key cs) where
    from_copies : (b a : Arrival) → Contains (copies_of cs b) a → (c : Copying) × Contains cs c × (c.from ≡ b.bit) × (a ≡ copy_of b c)
    from_copies b a i =
        let k = from_map (copy_of b) (copyings_at cs b.bit) a i in
        let f = from_filter (λ (c : Copying). bit_eq c.from b.bit) cs k.0 k.1 in
        (k.0, f.0, bit_eq-true k.0.from b.bit f.1, sym k.2)

    -- the copy of a bit behind a first flop is one flop deeper
    deeper : (s : Sync) (n : ℕ) (c : Copying) → Contains ss s → Contains cs c → is_behind d s.first n c.from ≡ true → is_behind d s.first (suc n) c.to ≡ true
    deeper s n c i j h =
        let k = all.only c j in
        let clock = async_clock d s.from s.first (are_syncs s i).crossing.async in
        and_from (d.is_register c.to) (are_equal (d.clock c.to) (d.clock s.first) && at_bit (d.copied c.to) (is_behind d s.first n)) k.0
        (and_from (are_equal (d.clock c.to) (d.clock s.first)) (at_bit (d.copied c.to) (is_behind d s.first n))
        (equal_some (d.clock c.to) (d.clock s.first) clock.0 clock.1
        (clock_is c.to k.0 ∙ equal_eq (clock_of domains c.to) (clock_of domains c.from) k.2 ∙ sym (clock_is c.from (register_at s n c.from i h)) ∙ behind_clock d s.first n c.from h))
        (ap (λ o. at_bit o (is_behind d s.first n)) k.1 ∙ h))

    module _ (xs : List Arrival) (n : ℕ) (walked : xs ≡ map first_arrival ss ++ flat_map (copies_of cs) (take n xs)) where
      one_met : (k : ℕ) → ((b : Arrival) → b.depth < k → Contains xs b → IsArrival d ss b) → (a : Arrival) → a.depth ≤ k → Contains xs a → IsArrival d ss a
      one_met k ih a l i = elim (Contains-append_cases (map first_arrival ss) (flat_map (copies_of cs) (take n xs)) a (subst (λ ys. Contains ys a) walked i)) [
        | inl j ↦ (let s = from_map first_arrival ss a j in subst (IsArrival d ss) s.2 (s.0, 0, s.1, bit_eq-refl s.0.first, refl, refl))
        | inr j ↦ (let b = from_flat (copies_of cs) (take n xs) a j in
            let c = from_copies b.0 a b.2 in
            let above : a.depth ≡ suc b.0.depth = ap (λ (q : Arrival). q.depth) c.3 in
            let s = ih b.0 (omega (arith, above, l)) (from_take n xs b.0 b.1) in
            subst (IsArrival d ss) (sym c.3)
            (s.0, suc s.1, s.2, deeper s.0 s.1 c.0 s.2 c.1 (subst (λ (z : Bit). is_behind d s.0.first s.1 z ≡ true) (sym c.2) s.3), s.4, ap suc s.5))
      ]

      met_upto : (k : ℕ) (a : Arrival) → a.depth ≤ k → Contains xs a → IsArrival d ss a
      met_upto zero = one_met zero (λ b l i. absurd (omega (arith, l)))
      met_upto (suc k) = one_met (suc k) (λ b l i. met_upto k b (omega (arith, l)) i)

      -- what is met is an arrival
      pub met : (a : Arrival) → Contains xs a → IsArrival d ss a
      met a i = met_upto a.depth a (omega arith) i

      -- a first flop's bit is that of no copy, and a copy's of no first flop
      firsts_at : (x : Bit) → count (λ (a : Arrival). bit_eq a.bit x) (map first_arrival ss) ≤ 1
      firsts_at x =
          let one = count_key (λ (s : Sync). bit_eq s.first x) sync_key ss (ascends sync_key ss (syncs_are_all net domains (λ g. false) is fit).ordered)
          (λ s r i j e f. ap (λ (b : Bit). bit_key b []) (bit_eq-true s.first x e ∙ sym (bit_eq-true r.first x f))) in
          omega (arith, count_map (λ (a : Arrival). bit_eq a.bit x) first_arrival ss, one)

      no_copies : (s : Sync) (x : Bit) → Contains ss s → is_behind d s.first 0 x ≡ true → count (λ (a : Arrival). bit_eq a.bit x) (flat_map (copies_of cs) (take n xs)) ≡ 0
      no_copies s x i h = count_none (λ (a : Arrival). bit_eq a.bit x) (flat_map (copies_of cs) (take n xs)) (λ a j e.
          let b = from_flat (copies_of cs) (take n xs) a j in
          let c = from_copies b.0 a b.2 in
          let r = met b.0 (from_take n xs b.0 b.1) in
          let to : c.0.to ≡ x = sym (ap (λ (q : Arrival). q.bit) c.3) ∙ bit_eq-true a.bit x e in
          let k = deeper r.0 r.1 c.0 r.2 c.1 (subst (λ (z : Bit). is_behind d r.0.first r.1 z ≡ true) (sym c.2) r.3) in
          let p = (one_place s r.0 0 (suc r.1) x i r.2 h (subst (λ (z : Bit). is_behind d r.0.first (suc r.1) z ≡ true) to k)).0 in
          omega (arith, p))

      no_firsts : (s : Sync) (m : ℕ) (x : Bit) → Contains ss s → is_behind d s.first (suc m) x ≡ true → count (λ (a : Arrival). bit_eq a.bit x) (map first_arrival ss) ≡ 0
      no_firsts s m x i h = count_none (λ (a : Arrival). bit_eq a.bit x) (map first_arrival ss) (λ a j e.
          let r = from_map first_arrival ss a j in
          let at : x ≡ r.0.first = sym (bit_eq-true a.bit x e) ∙ ap (λ (q : Arrival). q.bit) (sym r.2) in
          let p = (one_place s r.0 (suc m) 0 x i r.1 h (eq-bit_eq x r.0.first at)).0 in
          omega (arith, p))

      -- one copy at most of an arrival is the bit, and none where the bit copies another one
      copies_at : (x z : Bit) → d.copied x ≡ Some z → (b : Arrival) → count (λ (a : Arrival). bit_eq a.bit x) (copies_of cs b) ≤ cond (bit_eq b.bit z) 1 0
      copies_at x z copied b = go (bit_eq b.bit z) refl
        where
          from_bit : (c : Copying) → Contains (copyings_at cs b.bit) c → c.from ≡ b.bit
          from_bit c i = bit_eq-true c.from b.bit (from_filter (λ (k : Copying). bit_eq k.from b.bit) cs c i).1

          once : count (λ (a : Arrival). bit_eq a.bit x) (copies_of cs b) ≤ 1
          once =
              let one = count_key (λ (c : Copying). bit_eq c.to x) copying_key (copyings_at cs b.bit) (filtered_ascend copying_key (λ (c : Copying). bit_eq c.from b.bit) cs (ascends copying_key cs all.ordered))
              (λ c k i j e f. ap₂ (λ (u v : Bit). bit_key u (bit_key v [])) (from_bit c i ∙ sym (from_bit k j)) (bit_eq-true c.to x e ∙ sym (bit_eq-true k.to x f))) in
              omega (arith, count_map (λ (a : Arrival). bit_eq a.bit x) (copy_of b) (copyings_at cs b.bit), one)

          go : (v : Bool) → bit_eq b.bit z ≡ v → count (λ (a : Arrival). bit_eq a.bit x) (copies_of cs b) ≤ cond v 1 0
          go true e = once
          go false e = (let none = count_none (λ (a : Arrival). bit_eq a.bit x) (copies_of cs b) (λ a i f.
              let c = from_copies b a i in
              let to : c.0.to ≡ x = sym (ap (λ (q : Arrival). q.bit) c.3) ∙ bit_eq-true a.bit x f in
              let from : Some c.0.from ≡ Some z = sym (all.only c.0 c.1).1 ∙ ap d.copied to ∙ copied in
              both_ways (bit_eq b.bit z) e (eq-bit_eq b.bit z (sym c.2 ∙ one_bit c.0.from z from))) in omega (arith, none))

      -- no bit is met twice
      met_once : (m : ℕ) (s : Sync) (x : Bit) → Contains ss s → is_behind d s.first m x ≡ true → count (λ (a : Arrival). bit_eq a.bit x) xs ≤ 1
      met_once zero s x i h =
          let both = ap (count (λ (a : Arrival). bit_eq a.bit x)) walked ∙ count_both (λ (a : Arrival). bit_eq a.bit x) (map first_arrival ss) (flat_map (copies_of cs) (take n xs)) in
          omega (arith, both, firsts_at x, no_copies s x i h)
      met_once (suc m) s x i h =
          let both = ap (count (λ (a : Arrival). bit_eq a.bit x)) walked ∙ count_both (λ (a : Arrival). bit_eq a.bit x) (map first_arrival ss) (flat_map (copies_of cs) (take n xs)) in
          let z = (next_behind d s.first m x h).2 in
          let ih = met_once m s z.0 i z.2 in
          let made = count_flat (λ (a : Arrival). bit_eq a.bit x) (λ (b : Arrival). bit_eq b.bit z.0) (copies_of cs) (copies_at x z.0 z.1) (take n xs) in
          omega (arith, both, no_firsts s m x i h, made, count_take (λ (b : Arrival). bit_eq b.bit z.0) n xs, ih)

      pub once : (x : Bit) → count (λ (a : Arrival). bit_eq a.bit x) xs ≤ 1
      once x = go (count (λ (a : Arrival). bit_eq a.bit x) xs) refl
        where
          some : (ys : List Arrival) → 1 ≤ length ys → (a : Arrival) × Contains ys a
          some [] l = absurd (omega (arith, l))
          some (a ∷ ys) l = (a, here a ys)

          go : (k : ℕ) → count (λ (a : Arrival). bit_eq a.bit x) xs ≡ k → count (λ (a : Arrival). bit_eq a.bit x) xs ≤ 1
          go zero e = omega (arith, e)
          go (suc k) e =
              let a = some (filter (λ (a : Arrival). bit_eq a.bit x) xs) (omega (arith, e)) in
              let f = from_filter (λ (a : Arrival). bit_eq a.bit x) xs a.0 a.1 in
              let s = met a.0 f.0 in
              met_once s.1 s.0 x s.2 (subst (λ (z : Bit). is_behind d s.0.first s.1 z ≡ true) (bit_eq-true a.0.bit x f.1) s.3)

      -- and all arrivals are met where the copies of all have been
      pub reached : length xs ≤ n → (m : ℕ) (s : Sync) (x : Bit) → Contains ss s → is_behind d s.first m x ≡ true → Contains xs (record { bit = x; source = s.from; depth = suc m })
      reached done zero s x i h =
          let first : Arrival = record { bit = x; source = s.from; depth = 1 } in
          subst (λ ys. Contains ys first) (sym walked)
          (Contains-append_left (map first_arrival ss) (flat_map (copies_of cs) (take n xs)) first
          (subst (λ (b : Bit). Contains (map first_arrival ss) (record { bit = b; source = s.from; depth = 1 })) (sym (bit_eq-true x s.first h)) (in_map first_arrival ss s i)))
      reached done (suc m) s x i h =
          let k = next_behind d s.first m x h in
          let z = k.2 in
          let b : Arrival = record { bit = z.0; source = s.from; depth = suc m } in
          let copying : Copying = record { from = z.0; to = x } in
          let copied : Arrival = record { bit = x; source = s.from; depth = suc (suc m) } in
          let clock = async_clock d s.from s.first (are_syncs s i).crossing.async in
          let same_clocks : d.clock x ≡ d.clock z.0 = k.1 ∙ sym (behind_clock d s.first m z.0 z.2) in
          let listed = all.all copying (
            k.0,
            z.1,
            equal_some (clock_of domains x) (clock_of domains z.0) clock.0
                (sym (clock_is z.0 (register_at s m z.0 i z.2)) ∙ behind_clock d s.first m z.0 z.2 ∙ clock.1)
                (sym (clock_is x k.0) ∙ same_clocks ∙ clock_is z.0 (register_at s m z.0 i z.2)),
          ) in
          subst (λ ys. Contains ys copied) (sym walked)
          (Contains-append_right (map first_arrival ss) (flat_map (copies_of cs) (take n xs)) copied
          (in_flat (copies_of cs) (take n xs) b copied
          (subst (λ ys. Contains ys b) (sym (take_all n xs done)) (reached done m s z.0 i z.2))
          (in_map (copy_of b) (copyings_at cs z.0) copying (in_filter (λ (c : Copying). bit_eq c.from z.0) cs copying listed (bit_eq-refl z.0)))))

    module _ (xs : List Arrival) (n : ℕ) (walked : xs ≡ map first_arrival ss ++ flat_map (copies_of cs) (take n xs)) where
      -- there are no more arrivals than bits of registers
      few : length xs ≤ length (bits_of_registers net.graph.signals net.regs)
      few =
          let l = length-le_from_is_member equal_bits (map (λ (a : Arrival). a.bit) xs) (bits_of_registers net.graph.signals net.regs) (differ_mapped xs (once xs n walked)) (λ q h.
          let (k, b, lt, at, e) = Any-from_list_any (equality.ghosts.eq q) (map (λ (a : Arrival). a.bit) xs) h in
          let a = from_map (λ (a : Arrival). a.bit) xs b (k, lt, at) in
          let s = met xs n walked a.0 a.1 in
          let i = registers_listed net b (subst (λ (x : Bit). is_register_bit net x ≡ true) a.2 (register_at s.0 s.1 a.0.bit s.2 s.3)) in
          list_any-from_Any (equality.ghosts.eq q) (bits_of_registers net.graph.signals net.regs) (i.0, b, i.1, i.2, e)) in
          subst (λ k. k ≤ length (bits_of_registers net.graph.signals net.regs)) (length-map xs (λ (a : Arrival). a.bit)) l

      pub all_arrivals : (length xs ≤ n) ⊎ (n ≡ length (bits_of_registers net.graph.signals net.regs)) → (ys : List Arrival) → IsPermutation xs ys
          → IsSortedBy (λ (a : Arrival) (b : Arrival). is_lt (order.ghosts.cmp a.bit b.bit)) ys → IsAll (IsArrival d ss) arrival_key ys
      unfolding apart
      all_arrivals end ys moved sorted = record {
        all = λ a s. Contains-permutation xs ys a moved (subst (Contains xs) (ap₂ (λ (b : Bit) (k : ℕ). record { bit = a.bit; source = b; depth = k }) (sym s.4) (sym s.5)) (reached xs n walked done s.1 s.0 a.bit s.2 s.3));
        only = λ a i. met xs n walked a (Contains-permutation ys xs a (IsPermutation-sym xs ys moved) i);
        ordered = ascending order.ghosts.cmp (λ b. bit_key b []) bits_order (λ (a : Arrival). a.bit) ys sorted (IsDistinct-IsPermutation apart flips xs ys moved
            (differ apart (λ a b e. bits_same a.bit b.bit (equal (order.ghosts.cmp a.bit b.bit) e)) xs (once xs n walked)));
      }
        where
          done : length xs ≤ n
          done = elim end [ inl l ↦ l | inr e ↦ (let l = few in omega (arith, l, e)) ]
