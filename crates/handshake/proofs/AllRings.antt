-- The rings among the pairs are all rings of the net, in order.
use Rattle.std.proofs.Common.{◌≡◌, ◌≢◌, ◌∙◌, ◌↔◌, inl, inr, refl, sym, ap, ap₂, subst, arith, ℕ, zero, suc, ◌-◌, ◌<◌, ◌≤◌, ◌==◌, ◌&&◌, nat_lt, ltb-true, lt-ltb, eqb-true, eq-eqb, Bool, true, false, not, cond, Option, Some, None, is_some, option_map, List, [], ◌∷◌, ◌++◌, length, slice_get, Contains}
use Rattle.std.specs.List.{AllByRecursion}
use Rattle.std.specs.Option.{option_map_or}
use Rattle.std.proofs.lemmas.Bool.{and_parts, and_from, or_cases, both_ways, cases_lt}
use Rattle.std.proofs.lemmas.List.Elements.{Contains-append_left, Contains-append_right, Contains-append_cases}
use Rattle.cdc_base.specs.declared.bit.Bit.{Bit}
use Rattle.cell_graph.specs.declared.cell.CellId.{CellId}
use Rattle.cell_graph.specs.declared.net.Net.{Net}
use Rattle.cell_graph.specs.Cofactor.{known, reads}
use Rattle.cell_graph.specs.Reading.{bit_eq}
use Rattle.cell_graph.proofs.Bits.{bit_eq-true, bit_eq-false}
use Rattle.domains.specs.declared.Domains.{Domains}
use Rattle.domains.specs.Assignment.{group_of}
use Rattle.domains.specs.Fit.{Fit}
use Rattle.domains.specs.Nets.{IsNet}
use Rattle.cdc_model.specs.declared.scheme.GrayReg.{GrayReg}
use Rattle.cdc_model.specs.Design.{Design, group, are_equal, settle_of}
use Rattle.cdc_model.specs.Found.{bits_read_by}
use Rattle.cdc_model.specs.Nets.{next_cell, next_tree, bit_count, is_within, is_register_bit, start_of, design_of, net_trees, HasNextCells}
use Rattle.cdc_model.specs.Ordered.{is_before, IsAll, IsAscending}
use Rattle.cdc_model.specs.Schemes.{Trees, AreTrees, IsAt, Sync, IsSync, flops, last_flop, Ring, request, acknowledge, ring_bits, IsRing}
use Rattle.cdc_model.specs.Syncs.{flops_behind, next_flop, syncs_of}
use Rattle.cdc_model.specs.Verdict.{bit_key, sync_key, ring_key}
use Rattle.cdc_model.proofs.Ascending.{here, later, parts, nothing_in, Ascends, ascending, joined_ascend, less_before, same_before}
use Rattle.cdc_model.proofs.Behind.{async_clock, source_clock, place_unique}
use Rattle.cdc_model.proofs.Chain.{equal_eq, at_clock}
use Rattle.cdc_model.proofs.Found.{by_bit, before_any}
use Rattle.cdc_model.proofs.Justify.{in_slice, slice_in}
use Rattle.cdc_model.proofs.NetDesign.{plain_trees_are, group_is}
use Rattle.cdc_model.proofs.Ordered.{never_before}
use Rattle.cdc_model.proofs.ReadBits.{listed}
use Rattle.cdc_model.proofs.Rings.{last_at, last_settled}
use Rattle.cdc_model.proofs.Synced.{one_is, syncs_are_all}
use Rattle.handshake.specs.declared.candidates.Pair.{Pair}
use Rattle.handshake.specs.Pairs.{HaveOwnEnds, AreSourcesWithin, AreShort, is_value, starts_at, all_start, start_alike, are_closed, may_turn, ring_at, pair_there, IsPairFrom, pair_key, waits_at, waits, answers_at, answers, turns, ring_from, rings_among}
use Rattle.handshake.proofs.Pairs.{ring_is, ring_parts}

-- ---- values

value_is : (o : Option Bool) (v : Bool) → is_value o v ≡ true → o ≡ Some v
value_is None v h = cc
value_is (Some true) true h = refl
value_is (Some true) false h = cc
value_is (Some false) true h = cc
value_is (Some false) false h = refl

is_that : (o : Option Bool) (v : Bool) → o ≡ Some v → is_value o v ≡ true
is_that None v h = cc
is_that (Some true) true h = refl
is_that (Some true) false h = cc
is_that (Some false) true h = cc
is_that (Some false) false h = refl

-- what holds of both values holds of each
each_value : (P : Bool → Type 0) → P false → P true → (v : Bool) → P v
each_value P f t true = t
each_value P f t false = f

-- ---- start values

module _ (net : Net) (v : Bool) where
  abbrev Starts : Bit → Type 0
  Starts b = start_of net.graph.signals b ≡ Some v

  all_are : (bs : List Bit) → all_start net bs v ≡ true → AllByRecursion Starts bs
  all_are [] h = tt
  all_are (b ∷ bs) h = let p = and_parts (starts_at net b v) (all_start net bs v) h in (value_is (start_of net.graph.signals b) v p.0, all_are bs p.1)

  are_all : (bs : List Bit) → AllByRecursion Starts bs → all_start net bs v ≡ true
  are_all [] h = refl
  are_all (b ∷ bs) h = and_from (starts_at net b v) (all_start net bs v) (is_that (start_of net.graph.signals b) v h.0) (are_all bs h.1)

  joined : (xs ys : List Bit) → AllByRecursion Starts xs → AllByRecursion Starts ys → AllByRecursion Starts (xs ++ ys)
  joined [] ys h k = k
  joined (x ∷ xs) ys h k = (h.0, joined xs ys h.1 k)

  parted : (xs ys : List Bit) → AllByRecursion Starts (xs ++ ys) → AllByRecursion Starts xs × AllByRecursion Starts ys
  parted [] ys h = (tt, h)
  parted (x ∷ xs) ys h = let p = parted xs ys h.1 in ((h.0, p.0), p.1)

abbrev start_by : Net → Ring → Bool → Bool
start_by net r v = (starts_at net (acknowledge r) v && all_start net (flops r.there) v) && all_start net (flops r.back) v

start_is : (net : Net) (r : Ring) → start_alike net r ≡ true → (v : Bool) × AllByRecursion (λ b. start_of net.graph.signals b ≡ Some v) (ring_bits r)
start_is net r h = go (start_of net.graph.signals (request r)) refl h
  where
    go : (o : Option Bool) → start_of net.graph.signals (request r) ≡ o → option_map_or (λ v. start_by net r v) o false ≡ true
        → (v : Bool) × AllByRecursion (λ b. start_of net.graph.signals b ≡ Some v) (ring_bits r)
    go None e k = cc
    go (Some v) e k =
        let p = and_parts (starts_at net (acknowledge r) v && all_start net (flops r.there) v) (all_start net (flops r.back) v) k in
        let q = and_parts (starts_at net (acknowledge r) v) (all_start net (flops r.there) v) p.0 in (
          v,
          (
            e,
            joined net v (flops r.there) (acknowledge r ∷ flops r.back) (all_are net v (flops r.there) q.1)
                (value_is (start_of net.graph.signals (acknowledge r)) v q.0, all_are net v (flops r.back) p.1),
          ),
        )

is_start : (net : Net) (r : Ring) → (v : Bool) × AllByRecursion (λ b. start_of net.graph.signals b ≡ Some v) (ring_bits r) → start_alike net r ≡ true
is_start net r h =
    let v = h.0 in
    let p = parted net v (flops r.there) (acknowledge r ∷ flops r.back) h.1.1 in
    ap (λ o. option_map_or (λ v. start_by net r v) o false) h.1.0
    ∙ and_from (starts_at net (acknowledge r) v && all_start net (flops r.there) v) (all_start net (flops r.back) v)
    (and_from (starts_at net (acknowledge r) v) (all_start net (flops r.there) v) (is_that (start_of net.graph.signals (acknowledge r)) v p.1.0) (are_all net v (flops r.there) p.0))
    (are_all net v (flops r.back) p.1.1)

-- ---- keys

-- one number more in front of both
same_front : (m n : ℕ) (ms ns ks ls : List ℕ) → is_before (m ∷ ms) (n ∷ ns) ≡ true → (is_before ms ns ≡ true → is_before ks ls ≡ true) → is_before (m ∷ ks) (n ∷ ls) ≡ true
same_front m n ms ns ks ls h f = elim (or_cases (nat_lt m n) ((m == n) && is_before ms ns) h) [
  | inl l ↦ less_before m n ks ls (ltb-true m n l)
  | inr e ↦ let p = and_parts (m == n) (is_before ms ns) e in same_before m n ks ls (eqb-true m n p.0) (f p.1)
]

same_bit : (a b : Bit) (ms ns ks ls : List ℕ) → is_before (bit_key a ms) (bit_key b ns) ≡ true → (is_before ms ns ≡ true → is_before ks ls ≡ true) → is_before (bit_key a ks) (bit_key b ls) ≡ true
same_bit a b ms ns ks ls h f = same_front a.sig b.sig (a.at ∷ ms) (b.at ∷ ns) (a.at ∷ ks) (b.at ∷ ls) h (λ k. same_front a.at b.at ms ns ks ls k f)

one_item : {A : Type 0} (o : Option A) (x y : A) → o ≡ Some x → o ≡ Some y → x ≡ y
one_item o x y e f = cc

never : false ≡ true → ⊥
never f = cc

module _ (net : Net) (domains : Domains) (is : IsNet net) (fit : Fit net domains) where
  abbrev d : Design
  d = design_of net domains

  abbrev t : Trees
  t = net_trees net (λ g. false)

  abbrev ss : List Sync
  ss = syncs_of net domains

  laws : AreTrees (design_of net domains) (net_trees net (λ g. false))
  laws = plain_trees_are net domains fit

  every : IsAll (IsSync (design_of net domains) (net_trees net (λ g. false))) sync_key (syncs_of net domains)
  every = syncs_are_all net domains (λ g. false) is fit

  -- ---- synchronizers

  same_place : (i j : ℕ) (s r : Sync) → slice_get ss i ≡ Some s → slice_get ss j ≡ Some r → s.first ≡ r.first → i ≡ j
  same_place i j s r e f same = elim (cases_lt i j) [
    | inl l ↦ absurd (both_ways (is_before (sync_key s) (sync_key s)) (never_before (sync_key s)) (subst (λ (b : Bit). is_before (sync_key s) (by_bit b) ≡ true) (sym same) (every.ordered i j s r l e f)))
    | inr k ↦ elim (cases_lt j i) [
      | inl l ↦ absurd (both_ways (is_before (sync_key s) (sync_key s)) (never_before (sync_key s)) (subst (λ (b : Bit). is_before (by_bit b) (sync_key s) ≡ true) (sym same) (every.ordered j i r s l f e)))
      | inr l ↦ omega arith
    ]
  ]

  last_place : (s : Sync) → Contains ss s → (j : ℕ) × (settle_of d s.first ≤ j) × IsAt j (last_flop s) (flops s)
  last_place s i = last_at d t (settle_of d s.first) (3 - settle_of d s.first) s.first s.more (every.only s i).chain

  pub own_ends : HaveOwnEnds (syncs_of net domains)
  own_ends i j s r e f same =
      let p = slice_in ss i s e in
      let q = slice_in ss j r f in
      let a = last_place s p in
      let b = last_place r q in
      same_place i j s r e f (place_unique d t laws ss every.only s r p q a.0 b.0 (last_flop s) a.2 (subst (λ (x : Bit). IsAt b.0 x (flops r)) (sym same) b.2)).1

  source_inside : (s : Sync) → Contains ss s → s.from.at < bit_count net.graph.signals s.from.sig
  source_inside s i = let k = source_clock d s.from s.first (every.only s i).crossing.async in laws.within s.from k.0 k.1

  source_within : (s : Sync) → Contains ss s → is_within net s.from ≡ true
  source_within s i = lt-ltb s.from.at (bit_count net.graph.signals s.from.sig) (source_inside s i)

  pub sources_within : AreSourcesWithin net (syncs_of net domains)
  sources_within i s e = source_inside s (slice_in ss i s e)

  few_behind : (n : ℕ) (f : Bit) → length (flops_behind net domains n f) ≤ n
  few_behind zero f = omega arith
  few_behind (suc n) f = go (next_flop net domains f) (few_behind n)
    where
      go : (o : Option Bit) → ((g : Bit) → length (flops_behind net domains n g) ≤ n) → length (option_map_or (λ (g : Bit). g ∷ flops_behind net domains n g) o []) ≤ suc n
      go None ih = omega arith
      go (Some g) ih = let l = ih g in omega arith

  pub few_flops : AreShort (syncs_of net domains)
  few_flops i s e =
      let k = one_is net domains (λ g. false) is fit s (every.only s (slice_in ss i s e)) in
      subst (λ (q : Sync). length (flops q) ≤ 4) k.1 (let l = few_behind 3 s.first in omega arith)

  -- ---- groups

  first_group : (s : Sync) → Contains ss s → (c : ℕ) × (group d s.first ≡ Some c)
  first_group s i = let k = async_clock d s.from s.first (every.only s i).crossing.async in (d.group_of k.0, ap (option_map d.group_of) k.1)

  last_within : (s : Sync) → Contains ss s → is_within net (last_flop s) ≡ true
  last_within s i =
      let k = async_clock d s.from s.first (every.only s i).crossing.async in
      let a = last_place s i in
      lt-ltb (last_flop s).at (bit_count net.graph.signals (last_flop s).sig) (laws.within (last_flop s) k.0 (at_clock d t laws ss every.only s i a.0 (last_flop s) a.2 ∙ k.1))

  last_group : (s : Sync) → Contains ss s → group_of domains (last_flop s) ≡ group d s.first
  last_group s i = sym (group_is net domains fit (last_flop s) (last_within s i)) ∙ (last_settled d t laws ss every.only s i).1

  source_group : (s : Sync) → Contains ss s → group_of domains s.from ≡ group d s.from
  source_group s i = sym (group_is net domains fit s.from (source_within s i))

  both_equal : (a b : Option ℕ) (c : ℕ) → a ≡ b → a ≡ Some c → are_equal a b ≡ true
  both_equal a b c e f = ap₂ are_equal f (sym e ∙ f) ∙ eq-eqb c c refl

  -- ---- rings

  there_test : (r : Ring) → Contains ss r.there → Contains ss r.back → are_equal (group_of domains (acknowledge r)) (group_of domains (last_flop r.there)) ≡ are_equal (group d (acknowledge r)) (group d r.there.first)
  there_test r i j = ap₂ are_equal (source_group r.back j) (last_group r.there i)

  back_test : (r : Ring) → Contains ss r.there → Contains ss r.back → are_equal (group_of domains (last_flop r.back)) (group_of domains (request r)) ≡ are_equal (group d r.back.first) (group d (request r))
  back_test r i j = ap₂ are_equal (last_group r.back j) (source_group r.there i)

  register_is : (b : Bit) → is_some (next_cell net.regs b.sig) ≡ true → is_within net b ≡ true → is_register_bit net b ≡ true
  register_is b h k = and_from (is_some (next_cell net.regs b.sig)) (is_within net b) h k

  is_register : (b : Bit) → is_register_bit net b ≡ true → is_some (next_cell net.regs b.sig) ≡ true
  is_register b h = (and_parts (is_some (next_cell net.regs b.sig)) (is_within net b) h).0

  -- of two synchronizers that may turn both sources are bits of registers
  pub closed_registers : (r : Ring) → Contains ss r.there → Contains ss r.back → are_closed net domains r ≡ true
      → (is_register_bit net (request r) ≡ true) × (is_register_bit net (acknowledge r) ≡ true) × (acknowledge r ≢ last_flop r.there)
      × (group d (acknowledge r) ≡ group d r.there.first) × (group d r.back.first ≡ group d (request r))
  closed_registers r i j h =
      let there = are_equal (group_of domains (acknowledge r)) (group_of domains (last_flop r.there)) in
      let back = are_equal (group_of domains (last_flop r.back)) (group_of domains (request r)) in
      let one = is_some (next_cell net.regs (request r).sig) in
      let two = is_some (next_cell net.regs (acknowledge r).sig) in
      let apart = not (bit_eq (acknowledge r) (last_flop r.there)) in
      let p = and_parts ((one && two) && apart) (there && back) h in
      let q = and_parts there back p.1 in
      let s = and_parts (one && two) apart p.0 in
      let u = and_parts one two s.0 in (
        register_is (request r) u.0 (source_within r.there i),
        register_is (acknowledge r) u.1 (source_within r.back j),
        bit_eq-false (acknowledge r) (last_flop r.there) (not_true (bit_eq (acknowledge r) (last_flop r.there)) s.1),
        equal_eq (group d (acknowledge r)) (group d r.there.first) (sym (there_test r i j) ∙ q.0),
        equal_eq (group d r.back.first) (group d (request r)) (sym (back_test r i j) ∙ q.1),
      )
    where
      not_true : (v : Bool) → not v ≡ true → v ≡ false
      not_true true f = cc
      not_true false f = refl

  is_closed : (grays : GrayReg → Bool) (r : Ring) → IsRing (design_of net domains) (net_trees net grays) (syncs_of net domains) r → are_closed net domains r ≡ true
  is_closed grays r h =
      let g = first_group r.there h.there in
      let k = first_group r.back h.back in
      let there = are_equal (group_of domains (acknowledge r)) (group_of domains (last_flop r.there)) in
      let back = are_equal (group_of domains (last_flop r.back)) (group_of domains (request r)) in
      let one = is_some (next_cell net.regs (request r).sig) in
      let two = is_some (next_cell net.regs (acknowledge r).sig) in
      let apart = not (bit_eq (acknowledge r) (last_flop r.there)) in
      and_from ((one && two) && apart) (there && back)
      (and_from (one && two) apart (and_from one two (is_register (request r) h.registers.0) (is_register (acknowledge r) h.registers.1))
      (differs (bit_eq (acknowledge r) (last_flop r.there)) refl))
      (and_from there back
      (there_test r h.there h.back ∙ both_equal (group d (acknowledge r)) (group d r.there.first) g.0 h.there_group (h.there_group ∙ g.1))
      (back_test r h.there h.back ∙ both_equal (group d r.back.first) (group d (request r)) k.0 h.back_group k.1))
    where
      differs : (v : Bool) → bit_eq (acknowledge r) (last_flop r.there) ≡ v → not v ≡ true
      differs true e = absurd (h.apart (bit_eq-true (acknowledge r) (last_flop r.there) e))
      differs false e = refl

  -- two synchronizers that may turn, and do, whose request reads the last flop back, are a ring
  pub makes_ring : (grays : GrayReg → Bool) (r : Ring) → Contains ss r.there → Contains ss r.back → may_turn net domains r ≡ true
      → reads [] (next_tree net (request r).sig) (request r).at (last_flop r.back) ≡ true → turns net r ≡ true
      → IsRing (design_of net domains) (net_trees net grays) (syncs_of net domains) r
  makes_ring grays r i j may read h =
      let p = and_parts (are_closed net domains r) (start_alike net r) may in
      let c = closed_registers r i j p.0 in
      let q = and_parts (waits net r) (answers net r) h in
      let w = and_parts (waits_at net r false) (waits_at net r true) q.0 in
      let a = and_parts (answers_at net r false) (answers_at net r true) q.1 in
      record {
        there = i;
        back = j;
        registers = (c.0, c.1);
        there_group = c.3;
        back_group = c.4;
        apart = c.2;
        start = start_is net r p.1;
        reads = read;
        waits = each_value (λ v. known ((request r, v) ∷ (last_flop r.back, not v) ∷ []) (next_tree net (request r).sig) (request r).at ≡ Some v)
            (value_is (known ((request r, false) ∷ (last_flop r.back, true) ∷ []) (next_tree net (request r).sig) (request r).at) false w.0)
            (value_is (known ((request r, true) ∷ (last_flop r.back, false) ∷ []) (next_tree net (request r).sig) (request r).at) true w.1);
        answers = each_value (λ v. known ((last_flop r.there, v) ∷ (acknowledge r, v) ∷ []) (next_tree net (acknowledge r).sig) (acknowledge r).at ≡ Some v)
            (value_is (known ((last_flop r.there, false) ∷ (acknowledge r, false) ∷ []) (next_tree net (acknowledge r).sig) (acknowledge r).at) false a.0)
            (value_is (known ((last_flop r.there, true) ∷ (acknowledge r, true) ∷ []) (next_tree net (acknowledge r).sig) (acknowledge r).at) true a.1);
      }

  -- and a ring is that
  pub may : (grays : GrayReg → Bool) (r : Ring) → IsRing (design_of net domains) (net_trees net grays) (syncs_of net domains) r → may_turn net domains r ≡ true
  may grays r h = and_from (are_closed net domains r) (start_alike net r) (is_closed grays r h) (is_start net r h.start)

  pub does : (grays : GrayReg → Bool) (r : Ring) → IsRing (design_of net domains) (net_trees net grays) (syncs_of net domains) r → turns net r ≡ true
  does grays r h =
      and_from (waits net r) (answers net r)
      (and_from (waits_at net r false) (waits_at net r true)
      (is_that (known ((request r, false) ∷ (last_flop r.back, true) ∷ []) (next_tree net (request r).sig) (request r).at) false (h.waits false))
      (is_that (known ((request r, true) ∷ (last_flop r.back, false) ∷ []) (next_tree net (request r).sig) (request r).at) true (h.waits true)))
      (and_from (answers_at net r false) (answers_at net r true)
      (is_that (known ((last_flop r.there, false) ∷ (acknowledge r, false) ∷ []) (next_tree net (acknowledge r).sig) (acknowledge r).at) false (h.answers false))
      (is_that (known ((last_flop r.there, true) ∷ (acknowledge r, true) ∷ []) (next_tree net (acknowledge r).sig) (acknowledge r).at) true (h.answers true)))

  -- ---- the list

  from_pair : (p : Pair) (r : Ring) → Contains (ring_from net ss p) r → (ring_at ss p.there p.back ≡ Some r) × (turns net r ≡ true)
  from_pair p r i = go (ring_at ss p.there p.back) refl i
    where
      go : (o : Option Ring) → ring_at ss p.there p.back ≡ o → Contains (option_map_or (λ (q : Ring). cond (turns net q) (q ∷ []) []) o []) r → (ring_at ss p.there p.back ≡ Some r) × (turns net r ≡ true)
      go None e j = absurd (nothing_in r j)
      go (Some q) e j = taken (turns net q) refl j
        where
          taken : (v : Bool) → turns net q ≡ v → Contains (cond v (q ∷ []) []) r → (ring_at ss p.there p.back ≡ Some r) × (turns net r ≡ true)
          taken false f k = absurd (nothing_in r k)
          taken true f k = elim (parts q [] r k) [ inl same ↦ (e ∙ ap Some same, subst (λ (x : Ring). turns net x ≡ true) same f) | inr l ↦ absurd (nothing_in r l) ]

  in_pair : (p : Pair) (r : Ring) → ring_at ss p.there p.back ≡ Some r → turns net r ≡ true → Contains (ring_from net ss p) r
  in_pair p r e h = subst (λ o. Contains (option_map_or (λ (q : Ring). cond (turns net q) (q ∷ []) []) o []) r) (sym e) (subst (λ v. Contains (cond v (r ∷ []) []) r) (sym h) (here r []))

  from_pairs : (ps : List Pair) (r : Ring) → Contains (rings_among net ss ps) r → (p : Pair) × Contains ps p × (ring_at ss p.there p.back ≡ Some r) × (turns net r ≡ true)
  from_pairs [] r i = absurd (nothing_in r i)
  from_pairs (p ∷ ps) r i = elim (Contains-append_cases (ring_from net ss p) (rings_among net ss ps) r i) [
    | inl j ↦ let k = from_pair p r j in (p, here p ps, k.0, k.1)
    | inr j ↦ let k = from_pairs ps r j in (k.0, later p ps k.0 k.1, k.2, k.3)
  ]

  in_pairs : (ps : List Pair) (p : Pair) (r : Ring) → Contains ps p → ring_at ss p.there p.back ≡ Some r → turns net r ≡ true → Contains (rings_among net ss ps) r
  in_pairs [] p r i e h = absurd (nothing_in p i)
  in_pairs (q ∷ ps) p r i e h = elim (parts q ps p i) [
    | inl same ↦ Contains-append_left (ring_from net ss q) (rings_among net ss ps) r (in_pair q r (ap (λ (x : Pair). ring_at ss x.there x.back) same ∙ e) h)
    | inr j ↦ Contains-append_right (ring_from net ss q) (rings_among net ss ps) r (in_pairs ps p r j e h)
  ]

  -- ---- its order

  by_place : (i j : ℕ) (s b : Sync) (ms ns ks ls : List ℕ) → slice_get ss i ≡ Some s → slice_get ss j ≡ Some b → is_before (i ∷ ms) (j ∷ ns) ≡ true
      → (is_before ms ns ≡ true → is_before ks ls ≡ true) → is_before (bit_key s.first ks) (bit_key b.first ls) ≡ true
  by_place i j s b ms ns ks ls e f h g = elim (or_cases (nat_lt i j) ((i == j) && is_before ms ns) h) [
    | inl l ↦ before_any s.first b.first ks ls (every.ordered i j s b (ltb-true i j l) e f)
    | inr m ↦
        let p = and_parts (i == j) (is_before ms ns) m in
        let same : s ≡ b = one_item (slice_get ss i) s b e (ap (slice_get ss) (eqb-true i j p.0) ∙ f) in
        subst (λ (q : Sync). is_before (bit_key s.first ks) (bit_key q.first ls) ≡ true) same
        (same_before s.first.sig s.first.sig (s.first.at ∷ ks) (s.first.at ∷ ls) refl (same_before s.first.at s.first.at ks ls refl (g p.1)))
  ]

  key_before : (p q : Pair) (r o : Ring) → p ≡ pair_there p.there p.back r → q ≡ pair_there q.there q.back o → ring_at ss p.there p.back ≡ Some r → ring_at ss q.there q.back ≡ Some o
      → is_before (pair_key p) (pair_key q) ≡ true → is_before (ring_key r) (ring_key o) ≡ true
  key_before p q r o e f g k h =
      let a = ring_parts ss p.there p.back r g in
      let b = ring_parts ss q.there q.back o k in
      same_bit (request r) (request o) (p.there ∷ bit_key (acknowledge r) (p.back ∷ [])) (q.there ∷ bit_key (acknowledge o) (q.back ∷ []))
      (bit_key r.there.first (bit_key (acknowledge r) (bit_key r.back.first []))) (bit_key o.there.first (bit_key (acknowledge o) (bit_key o.back.first [])))
      (ap₂ (λ (x y : Pair). is_before (pair_key x) (pair_key y)) (sym e) (sym f) ∙ h)
      (λ l. by_place p.there q.there r.there o.there (bit_key (acknowledge r) (p.back ∷ [])) (bit_key (acknowledge o) (q.back ∷ []))
      (bit_key (acknowledge r) (bit_key r.back.first [])) (bit_key (acknowledge o) (bit_key o.back.first [])) a.0 b.0 l
      (λ m. same_bit (acknowledge r) (acknowledge o) (p.back ∷ []) (q.back ∷ []) (bit_key r.back.first []) (bit_key o.back.first []) m
      (λ n. by_place p.back q.back r.back o.back [] [] [] [] a.1 b.1 n (λ u. u))))

  among_ascends : (ps : List Pair) → IsAscending pair_key ps → ((p : Pair) (r : Ring) → Contains ps p → ring_at ss p.there p.back ≡ Some r → p ≡ pair_there p.there p.back r)
      → Ascends ring_key (rings_among net ss ps)
  among_ascends [] asc made = tt
  among_ascends (p ∷ ps) asc made =
      joined_ascend ring_key (ring_from net ss p) (rings_among net ss ps) one
      (among_ascends ps (λ i j x y l e f. asc (suc i) (suc j) x y (omega arith) e f) (λ q r i e. made q r (later p ps q i) e))
      (λ r o i j.
      let k = from_pair p r i in
      let l = from_pairs ps o j in
      key_before p l.0 r o (made p r (here p ps) k.0) (made l.0 o (later p ps l.0 l.1) l.2) k.0 l.2 (asc 0 (suc l.1.0) p l.0 (omega arith) refl (in_slice ps l.0 l.1)))
    where
      one : Ascends ring_key (ring_from net ss p)
      one = go (ring_at ss p.there p.back)
        where
          go : (o : Option Ring) → Ascends ring_key (option_map_or (λ (q : Ring). cond (turns net q) (q ∷ []) []) o [])
          go None = tt
          go (Some q) = taken (turns net q)
            where
              taken : (v : Bool) → Ascends ring_key (cond v (q ∷ []) [])
              taken false = tt
              taken true = (λ y i. absurd (nothing_in y i), tt)

  -- ---- the theorem

  made_of : (p : Pair) (r : Ring) → IsPairFrom net domains ss p.there p → ring_at ss p.there p.back ≡ Some r → p ≡ pair_there p.there p.back r
  made_of p r h e = let same = one_item (ring_at ss p.there p.back) h.2.0 r h.2.1 e in h.2.4 ∙ ap (pair_there p.there p.back) same

  -- what makes a pair, of its ring
  pub pair_gives : (p : Pair) (r : Ring) → IsPairFrom net domains ss p.there p → ring_at ss p.there p.back ≡ Some r
      → Contains ss r.there × Contains ss r.back × (may_turn net domains r ≡ true) × Contains (bits_read_by net [] (request r)) (last_flop r.back)
  pair_gives p r h e =
      let same = one_item (ring_at ss p.there p.back) h.2.0 r h.2.1 e in
      let a = ring_parts ss p.there p.back r e in (
        slice_in ss p.there r.there a.0,
        slice_in ss p.back r.back a.1,
        subst (λ (x : Ring). may_turn net domains x ≡ true) same h.2.3,
        subst (λ (b : Bit). Contains (bits_read_by net [] b) (last_flop r.back)) (ap (λ (x : Pair). x.request) (made_of p r h e))
            (subst (Contains (bits_read_by net [] p.request)) (sym h.2.2 ∙ ap (λ (x : Ring). last_flop x.back) same) h.1),
      )

  -- the pairs of two synchronizers of a net, of which both sources are bits of registers
  pub pair_registers : (p : Pair) (r : Ring) → IsPairFrom net domains ss p.there p → ring_at ss p.there p.back ≡ Some r → (is_register_bit net (request r) ≡ true) × (is_register_bit net (acknowledge r) ≡ true)
  pair_registers p r h e =
      let g = pair_gives p r h e in
      let c = closed_registers r g.0 g.1 (and_parts (are_closed net domains r) (start_alike net r) g.2).0 in
      (c.0, c.1)

  module _ (has : HasNextCells net) (ps : List Pair) (exact : (p : Pair) → Contains ps p ↔ IsPairFrom net domains (syncs_of net domains) p.there p) (asc : IsAscending pair_key ps) where
    read_is : (r : Ring) → is_register_bit net (request r) ≡ true → IsAll (λ b. reads [] (next_tree net (request r).sig) (request r).at b ≡ true) by_bit (bits_read_by net [] (request r))
    read_is r reg = go (next_cell net.regs (request r).sig) refl (is_register (request r) reg)
      where
        go : (o : Option CellId) → next_cell net.regs (request r).sig ≡ o → is_some o ≡ true → IsAll (λ b. reads [] (next_tree net (request r).sig) (request r).at b ≡ true) by_bit (bits_read_by net [] (request r))
        go None e h = cc
        go (Some c) e h = listed net is has [] (request r) (ltb-true (request r).at (bit_count net.graph.signals (request r).sig) (and_parts (is_some (next_cell net.regs (request r).sig)) (is_within net (request r)) reg).1) c e

    -- the rings among exactly these pairs are all rings
    pub rings_are_all : (grays : GrayReg → Bool) → IsAll (IsRing (design_of net domains) (net_trees net grays) (syncs_of net domains)) ring_key (rings_among net (syncs_of net domains) ps)
    rings_are_all grays = record {
      all = λ r h.
          let i = h.there.0 in
          let j = h.back.0 in
          let at : ring_at ss i j ≡ Some r = ring_is ss i j r.there r.back (in_slice ss r.there h.there) (in_slice ss r.back h.back) in
          in_pairs ps (pair_there i j r) r
          ((exact (pair_there i j r)).1 (last_flop r.back, (read_is r h.registers.0).all (last_flop r.back) h.reads, (r, at, refl, may grays r h, refl)))
          at (does grays r h);
      only = λ r i.
          let k = from_pairs ps r i in
          let f = (exact k.0).0 k.1 in
          let g = pair_gives k.0 r f k.2 in
          makes_ring grays r g.0 g.1 g.2 ((read_is r (pair_registers k.0 r f k.2).0).only (last_flop r.back) g.3) k.3;
      ordered = ascending ring_key (rings_among net ss ps) (among_ascends ps asc (λ p r i e. made_of p r ((exact p).0 i) e));
    }
