-- The list of all crossings of a net has exactly its crossings, in order.
use Rattle.std.proofs.Common.{◌≡◌, ℕ, zero, suc, ◌+◌, ◌<◌, ◌≤◌, ◌==◌, ◌&&◌, nat_lt, Bool, true, false, cond, Option, Some, None, is_some, option_map, List, [], ◌∷◌, Contains, slice_get, ◌⊎◌, inl, inr, refl, sym, ap, subst, ◌∙◌, arith, eqb-true, eq-eqb, ltb-true, lt-ltb}
use Rattle.std.specs.Option.{option_map_or}
use Rattle.std.specs.Prelude.{filter, if◌then◌else◌}
use Rattle.std.proofs.lemmas.Option.{slice_get-map}
use Rattle.std.proofs.lemmas.Bool.{and_parts, and_from, or_cases}
use Rattle.std.proofs.lemmas.List.Elements.{Contains-append_left, Contains-append_right, Contains-append_cases}
use Rattle.cdc_base.specs.declared.bit.Bit.{Bit}
use Rattle.cdc_base.specs.declared.signal.Signal.{Signal}
use Rattle.cell_graph.specs.declared.net.Net.{Net}
use Rattle.cell_graph.specs.declared.net.Reg.{Reg}
use Rattle.cell_graph.specs.Cofactor.{reads}
use Rattle.domains.specs.declared.Domains.{Domains}
use Rattle.domains.specs.Assignment.{clock_of}
use Rattle.domains.specs.Nets.{is_register, register_signals, IsNet}
use Rattle.cdc_model.specs.declared.scheme.Crossing.{Crossing}
use Rattle.cdc_model.specs.declared.scheme.GrayReg.{GrayReg}
use Rattle.cdc_model.specs.Design.{are_async, bits_from, differ, group}
use Rattle.cdc_model.specs.Found.{bits_of_signals, bits_read_by, crossings_into, crossings_among, crossings_of}
use Rattle.cdc_model.specs.Nets.{next_cell, next_tree, bit_count, bits_of_registers, is_within, design_of, net_trees, AreAscending}
use Rattle.cdc_model.specs.Ordered.{is_before, IsAll}
use Rattle.cdc_model.specs.Schemes.{IsCrossing}
use Rattle.cdc_model.specs.Verdict.{bit_key, crossing_key}
use Rattle.cdc_model.proofs.Ascending.{here, later, parts, nothing_in, in_map, from_map, in_filter, from_filter, Ascends, ascending, joined_ascend, filtered_ascend, mapped_ascend, rekeyed_ascend, less_before, same_before}
use Rattle.cdc_model.proofs.Codes.{word_has}
use Rattle.cdc_model.proofs.Justify.{in_slice}
use Rattle.cdc_model.proofs.NetDesign.{in_bits}

abbrev pub by_bit : Bit → List ℕ
by_bit b = bit_key b []

-- ---- bits of a signal

from_word : (sig i n : ℕ) (b : Bit) → Contains (bits_from sig i n) b → (b.sig ≡ sig) × (i ≤ b.at) × (b.at < i + n)
from_word sig i zero b h = absurd (nothing_in b h)
from_word sig i (suc n) b h = elim (parts (record { sig = sig; at = i }) (bits_from sig (suc i) n) b h) [
  | inl e ↦ (ap (λ (a : Bit). a.sig) (sym e), (let f : i ≡ b.at = ap (λ (a : Bit). a.at) e in omega arith), (let f : i ≡ b.at = ap (λ (a : Bit). a.at) e in omega arith))
  | inr j ↦ let k = from_word sig (suc i) n b j in (k.0, omega (arith, k.1), omega (arith, k.2))
]

word_ascends : (sig i n : ℕ) → Ascends by_bit (bits_from sig i n)
word_ascends sig i zero = tt
word_ascends sig i (suc n) = (
  λ y j. let k = from_word sig (suc i) n y j in
      same_before sig y.sig (i ∷ []) (y.at ∷ []) (sym k.0) (less_before i y.at [] [] (omega (arith, k.1))),
  word_ascends sig (suc i) n,
)

-- ---- bits of all signals

from_signals : (sig : ℕ) (ss : List Signal) (b : Bit) → Contains (bits_of_signals sig ss) b → sig ≤ b.sig
from_signals sig [] b h = absurd (nothing_in b h)
from_signals sig (s ∷ ss) b h = elim (Contains-append_cases (bits_from sig 0 s.width) (bits_of_signals (suc sig) ss) b h) [
  | inl j ↦ let k = from_word sig 0 s.width b j in omega (arith, k.0)
  | inr j ↦ let k = from_signals (suc sig) ss b j in omega (arith, k)
]

pub signals_ascend : (sig : ℕ) (ss : List Signal) → Ascends by_bit (bits_of_signals sig ss)
signals_ascend sig [] = tt
signals_ascend sig (s ∷ ss) = joined_ascend by_bit (bits_from sig 0 s.width) (bits_of_signals (suc sig) ss) (word_ascends sig 0 s.width) (signals_ascend (suc sig) ss)
    (λ x y i j. let k = from_word sig 0 s.width x i in let l = from_signals (suc sig) ss y j in less_before x.sig y.sig (x.at ∷ []) (y.at ∷ []) (omega (arith, k.0, l)))

pub in_signals : (b : Bit) (sig k : ℕ) (ss : List Signal) (s : Signal) → slice_get ss k ≡ Some s → b.sig ≡ sig + k → b.at < s.width → Contains (bits_of_signals sig ss) b
in_signals b sig k [] s e f l = cc
in_signals b sig zero (r ∷ ss) s e f l =
    let same : r ≡ s = cc in
    Contains-append_left (bits_from sig 0 r.width) (bits_of_signals (suc sig) ss) b
    (subst (λ (n : ℕ). Contains (bits_from n 0 r.width) b) (let g : b.sig ≡ sig = omega arith in g)
    (word_has b 0 r.width (omega arith) (subst (λ (q : Signal). b.at < 0 + q.width) (sym same) (omega arith))))
in_signals b sig (suc k) (r ∷ ss) s e f l = Contains-append_right (bits_from sig 0 r.width) (bits_of_signals (suc sig) ss) b (in_signals b (suc sig) k ss s e (omega arith) l)

pub counted : (signals : List Signal) (sig n : ℕ) → n < bit_count signals sig → (s : Signal) × (slice_get signals sig ≡ Some s) × (n < s.width)
counted signals sig n l = go (slice_get signals sig) refl
  where
    go : (o : Option Signal) → slice_get signals sig ≡ o → (s : Signal) × (slice_get signals sig ≡ Some s) × (n < s.width)
    go None e = let f : bit_count signals sig ≡ 0 = ap (λ (p : Option Signal). option_map_or (λ (s : Signal). s.width) p 0) e in absurd (omega arith)
    go (Some s) e = let f : bit_count signals sig ≡ s.width = ap (λ (p : Option Signal). option_map_or (λ (s : Signal). s.width) p 0) e in (s, e, omega arith)

-- ---- bits of registers

pub from_registers : (signals : List Signal) (rs : List Reg) (b : Bit) → Contains (bits_of_registers signals rs) b → (r : Reg) × Contains rs r × (b.sig ≡ r.sig) × (b.at < bit_count signals b.sig)
from_registers signals [] b h = absurd (nothing_in b h)
from_registers signals (r ∷ rs) b h = elim (Contains-append_cases (bits_from r.sig 0 (bit_count signals r.sig)) (bits_of_registers signals rs) b h) [
  | inl j ↦ let k = from_word r.sig 0 (bit_count signals r.sig) b j in
      (r, here r rs, k.0, subst (λ (n : ℕ). b.at < bit_count signals n) (sym k.0) (omega (arith, k.2)))
  | inr j ↦ let k = from_registers signals rs b j in (k.0, later r rs k.0 k.1, k.2, k.3)
]

pub registers_ascend : (signals : List Signal) (rs : List Reg) → AreAscending rs → Ascends by_bit (bits_of_registers signals rs)
registers_ascend signals [] h = tt
registers_ascend signals (r ∷ rs) h = joined_ascend by_bit (bits_from r.sig 0 (bit_count signals r.sig)) (bits_of_registers signals rs)
    (word_ascends r.sig 0 (bit_count signals r.sig)) (registers_ascend signals rs (λ i j q s l e f. h (suc i) (suc j) q s (omega arith) e f))
    (λ x y i j.
    let k = from_word r.sig 0 (bit_count signals r.sig) x i in
    let l = from_registers signals rs y j in
    let m = h 0 (suc l.1.0) r l.0 (omega arith) refl (in_slice rs l.0 l.1) in
    less_before x.sig y.sig (x.at ∷ []) (y.at ∷ []) (omega (arith, k.0, l.2, m)))

pub has_next : (rs : List Reg) (r : Reg) → Contains rs r → is_some (next_cell rs r.sig) ≡ true
has_next [] r i = absurd (nothing_in r i)
has_next (q ∷ rs) r i = go (q.sig == r.sig) refl (parts q rs r i) (has_next rs r)
  where
    go : (v : Bool) → (q.sig == r.sig) ≡ v → (q ≡ r) ⊎ Contains rs r → (Contains rs r → is_some (next_cell rs r.sig) ≡ true) → is_some (cond v (Some q.next) (next_cell rs r.sig)) ≡ true
    go true e c ih = refl
    go false e (inr j) ih = ih j
    go false e (inl same) ih = absurd (both (sym e ∙ eq-eqb q.sig r.sig (ap (λ (p : Reg). p.sig) same)))
      where
        both : false ≡ true → ⊥
        both f = cc

-- ---- crossings

pub before_any : (x y : Bit) (ms ns : List ℕ) → is_before (by_bit x) (by_bit y) ≡ true → is_before (bit_key x ms) (bit_key y ns) ≡ true
before_any x y ms ns h = elim (or_cases (nat_lt x.sig y.sig) ((x.sig == y.sig) && is_before (x.at ∷ []) (y.at ∷ [])) h) [
  | inl l ↦ less_before x.sig y.sig (x.at ∷ ms) (y.at ∷ ns) (ltb-true x.sig y.sig l)
  | inr e ↦
      let p = and_parts (x.sig == y.sig) (is_before (x.at ∷ []) (y.at ∷ [])) e in
      same_before x.sig y.sig (x.at ∷ ms) (y.at ∷ ns) (eqb-true x.sig y.sig p.0) (elim (or_cases (nat_lt x.at y.at) ((x.at == y.at) && false) p.1) [
        | inl l ↦ less_before x.at y.at ms ns (ltb-true x.at y.at l)
        | inr f ↦ absurd (never (and_parts (x.at == y.at) false f).1)
      ])
]
  where
    never : false ≡ true → ⊥
    never f = cc

module _ (net : Net) (domains : Domains) where
  abbrev crossing : Bit → Bit → Crossing
  crossing x b = record { from = b; to = x }

  into_ascends : (x : Bit) → Ascends crossing_key (crossings_into net domains x)
  into_ascends x = mapped_ascend (crossing x) crossing_key (filter (λ b. are_async (design_of net domains) b x) (bits_read_by net [] x))
      (rekeyed_ascend by_bit (λ b. crossing_key (crossing x b)) (λ a b h. same_before x.sig x.sig (x.at ∷ by_bit a) (x.at ∷ by_bit b) refl (same_before x.at x.at (by_bit a) (by_bit b) refl h))
      (filter (λ b. are_async (design_of net domains) b x) (bits_read_by net [] x))
      (filtered_ascend by_bit (λ b. are_async (design_of net domains) b x) (bits_read_by net [] x)
      (filtered_ascend by_bit (λ b. reads [] (next_tree net x.sig) x.at b) (bits_of_signals 0 net.graph.signals) (signals_ascend 0 net.graph.signals))))

  from_into : (x : Bit) (c : Crossing) → Contains (crossings_into net domains x) c
      → (x ≡ c.to) × (reads [] (next_tree net x.sig) x.at c.from ≡ true) × (are_async (design_of net domains) c.from x ≡ true)
  from_into x c i =
      let k = from_map (crossing x) (filter (λ b. are_async (design_of net domains) b x) (bits_read_by net [] x)) c i in
      let l = from_filter (λ b. are_async (design_of net domains) b x) (bits_read_by net [] x) k.0 k.1 in
      let m = from_filter (λ b. reads [] (next_tree net x.sig) x.at b) (bits_of_signals 0 net.graph.signals) k.0 l.0 in
      let same : k.0 ≡ c.from = ap (λ (q : Crossing). q.from) k.2 in (
        ap (λ (q : Crossing). q.to) k.2,
        subst (λ (b : Bit). reads [] (next_tree net x.sig) x.at b ≡ true) same m.1,
        subst (λ (b : Bit). are_async (design_of net domains) b x ≡ true) same l.1,
      )

  from_among : (xs : List Bit) (c : Crossing) → Contains (crossings_among net domains xs) c → (x : Bit) × Contains xs x × Contains (crossings_into net domains x) c
  from_among [] c i = absurd (nothing_in c i)
  from_among (x ∷ xs) c i = elim (Contains-append_cases (crossings_into net domains x) (crossings_among net domains xs) c i) [
    | inl j ↦ (x, here x xs, j)
    | inr j ↦ let k = from_among xs c j in (k.0, later x xs k.0 k.1, k.2)
  ]

  in_among : (xs : List Bit) (x : Bit) (c : Crossing) → Contains xs x → Contains (crossings_into net domains x) c → Contains (crossings_among net domains xs) c
  in_among [] x c i h = absurd (nothing_in x i)
  in_among (y ∷ ys) x c i h = elim (parts y ys x i) [
    | inl e ↦ Contains-append_left (crossings_into net domains y) (crossings_among net domains ys) c (subst (λ (z : Bit). Contains (crossings_into net domains z) c) (sym e) h)
    | inr j ↦ Contains-append_right (crossings_into net domains y) (crossings_among net domains ys) c (in_among ys x c j h)
  ]

  pub among_ascends : (xs : List Bit) → Ascends by_bit xs → Ascends crossing_key (crossings_among net domains xs)
  among_ascends [] h = tt
  among_ascends (x ∷ xs) h = joined_ascend crossing_key (crossings_into net domains x) (crossings_among net domains xs) (into_ascends x) (among_ascends xs h.1)
      (λ c e i j.
      let k = from_into x c i in
      let l = from_among xs e j in
      let m = from_into l.0 e l.2 in
      subst (λ (z : Bit). is_before (bit_key z (by_bit c.from)) (crossing_key e) ≡ true) k.0
      (subst (λ (z : Bit). is_before (bit_key x (by_bit c.from)) (bit_key z (by_bit e.from)) ≡ true) m.0 (before_any x l.0 (by_bit c.from) (by_bit e.from) (h.0 l.0 l.1))))

  -- a bit with a group lies in its signal
  grouped_within : (b x : Bit) → are_async (design_of net domains) b x ≡ true → is_within net b ≡ true
  grouped_within b x h = go (is_within net b) refl
    where
      nobody : (o : Option ℕ) → differ None o ≡ true → ⊥
      nobody o f = cc

      go : (v : Bool) → is_within net b ≡ v → is_within net b ≡ true
      go true e = e
      go false e = absurd (nobody (group (design_of net domains) x) (subst (λ (v : Bool). differ (option_map (design_of net domains).group_of (cond v (clock_of domains b) None)) (group (design_of net domains) x) ≡ true) e h))

  pub crossings_are_all : (grays : GrayReg → Bool) → AreAscending net.regs → IsAll (λ c. IsCrossing (design_of net domains) (net_trees net grays) c.from c.to) crossing_key (crossings_of net domains)
  crossings_are_all grays h = record {
    all = λ c k.
        let p = and_parts (is_some (next_cell net.regs c.to.sig)) (is_within net c.to) k.register in
        let at = in_bits net.graph.signals c.to (ltb-true c.to.at (bit_count net.graph.signals c.to.sig) p.1) net.regs p.0 in
        let w = counted net.graph.signals c.from.sig c.from.at (ltb-true c.from.at (bit_count net.graph.signals c.from.sig) (grouped_within c.from c.to k.async)) in
        let b = in_signals c.from 0 c.from.sig net.graph.signals w.0 w.1 (omega arith) w.2 in
        in_among (bits_of_registers net.graph.signals net.regs) c.to c at (in_map (crossing c.to) (filter (λ b. are_async (design_of net domains) b c.to) (bits_read_by net [] c.to)) c.from
        (in_filter (λ b. are_async (design_of net domains) b c.to) (bits_read_by net [] c.to) c.from
        (in_filter (λ b. reads [] (next_tree net c.to.sig) c.to.at b) (bits_of_signals 0 net.graph.signals) c.from b k.reads) k.async));
    only = λ c i.
        let k = from_among (bits_of_registers net.graph.signals net.regs) c i in
        let l = from_into k.0 c k.2 in
        let m = from_registers net.graph.signals net.regs k.0 k.1 in
        let next = subst (λ (n : ℕ). is_some (next_cell net.regs n) ≡ true) (sym m.2) (has_next net.regs m.0 m.1) in
        let in_signal = lt-ltb k.0.at (bit_count net.graph.signals k.0.sig) m.3 in
        subst (λ (x : Bit). IsCrossing (design_of net domains) (net_trees net grays) c.from x) l.0
        (record { register = and_from (is_some (next_cell net.regs k.0.sig)) (is_within net k.0) next in_signal; reads = l.1; async = l.2 });
    ordered = ascending crossing_key (crossings_of net domains) (among_ascends (bits_of_registers net.graph.signals net.regs) (registers_ascend net.graph.signals net.regs h));
  }

-- ---- registers of a net

abbrev alone : ℕ → List ℕ
alone n = n ∷ []

from_register_signals : (k : ℕ) (ss : List Signal) (n : ℕ) → Contains (register_signals k ss) n → k ≤ n
from_register_signals k [] n h = absurd (nothing_in n h)
from_register_signals k (s ∷ ss) n h = go (is_register s.kind) h (from_register_signals (k + 1) ss n)
  where
    go : (v : Bool) → Contains (if v then k ∷ register_signals (k + 1) ss else register_signals (k + 1) ss) n → (Contains (register_signals (k + 1) ss) n → k + 1 ≤ n) → k ≤ n
    go true i ih = elim (parts k (register_signals (k + 1) ss) n i) [ inl e ↦ omega arith | inr j ↦ let l = ih j in omega arith ]
    go false i ih = let l = ih i in omega arith

register_signals_ascend : (k : ℕ) (ss : List Signal) → Ascends alone (register_signals k ss)
register_signals_ascend k [] = tt
register_signals_ascend k (s ∷ ss) = go (is_register s.kind) (register_signals_ascend (k + 1) ss)
  where
    go : (v : Bool) → Ascends alone (register_signals (k + 1) ss) → Ascends alone (if v then k ∷ register_signals (k + 1) ss else register_signals (k + 1) ss)
    go true h = (λ n i. let l = from_register_signals (k + 1) ss n i in less_before k n [] [] (omega arith), h)
    go false h = h

pub net_ascends : (net : Net) → IsNet net → AreAscending net.regs
net_ascends net h i j r s l e f = less (ascending alone (register_signals 0 net.graph.signals) (register_signals_ascend 0 net.graph.signals) i j r.sig s.sig l (at i r e) (at j s f))
  where
    at : (k : ℕ) (q : Reg) → slice_get net.regs k ≡ Some q → slice_get (register_signals 0 net.graph.signals) k ≡ Some q.sig
    at k q g = ap (λ xs. slice_get xs k) (sym h.registers) ∙ slice_get-map (λ (p : Reg). p.sig) net.regs k ∙ ap (option_map (λ (p : Reg). p.sig)) g

    less : is_before (alone r.sig) (alone s.sig) ≡ true → r.sig < s.sig
    less b = elim (or_cases (nat_lt r.sig s.sig) ((r.sig == s.sig) && false) b) [
      | inl m ↦ ltb-true r.sig s.sig m
      | inr m ↦ absurd (never (and_parts (r.sig == s.sig) false m).1)
    ]
      where
        never : false ≡ true → ⊥
        never m = cc
