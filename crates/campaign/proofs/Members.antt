-- What the inputs, the settling flops and the pairs of a campaign are.
use Rattle.std.proofs.Common.{◌≡◌, ◌≢◌, ◌∙◌, ℕ, ◌<◌, ◌==◌, nat_lt, Bool, true, false, not, ◌&&◌, ◌||◌, List, [], ◌∷◌, ◌++◌, length, Contains, Option, Some, None, inl, inr, refl, sym, ap, ap₂, subst, arith, ltb-true, lt-ltb}
use Rattle.std.specs.Prelude.{filter, slice_get}
use Rattle.std.specs.Option.{option_map_or}
use Rattle.std.proofs.lemmas.Bool.{and_parts, both_ways}
use Rattle.std.proofs.lemmas.List.Elements.{Contains-append_cases}
use Rattle.cdc_base.specs.declared.bit.Bit.{Bit}
use Rattle.cdc_base.specs.declared.signal.Signal.{Signal}
use Rattle.cell_graph.specs.declared.net.Net.{Net}
use Rattle.cell_graph.specs.Cofactor.{reads}
use Rattle.domains.specs.declared.Domains.{Domains}
use Rattle.domains.specs.Nets.{IsNet}
use Rattle.cdc_model.specs.declared.scheme.Crossing.{Crossing}
use Rattle.cdc_model.specs.Design.{Design}
use Rattle.cdc_model.specs.Found.{bits_of_signals, bits_read_by}
use Rattle.cdc_model.specs.Nets.{bit_count, bits_of_registers, design_of, is_register_bit, is_within, next_tree, HasNextCells}
use Rattle.cdc_model.specs.Ordered.{is_before}
use Rattle.cdc_model.proofs.Ascending.{Ascends, here, later, parts, nothing_in, from_filter, from_map}
use Rattle.cdc_model.proofs.Found.{by_bit, registers_ascend}
use Rattle.cdc_model.proofs.Net.{self_reads}
use Rattle.cdc_model.proofs.ReadBits.{read-within}
use Rattle.cdc_model.proofs.Synced.{unlisted}
use Rattle.settling_sim.specs.Runs.{HasCells}
use Rattle.settling_sim.specs.State.{has_kind, is_input, is_clocked_input}
use Rattle.settling_sim.proofs.Values.{next-of}
use Rattle.campaign.specs.Plan.{inputs_of, flops_of, copies_among, copy_from, pairs_of, reads_among, reads_of, settles}
use Rattle.campaign.specs.Torn.{IsPair}
use Rattle.campaign.proofs.DrawnInputs.{number-passes}
use Rattle.campaign.proofs.Passing.{AreApart, apart-passing, each-of, of-each}
use Rattle.campaign.proofs.FlopRaces.{IsFlop}

abbrev pair-of : Bit → Bit → Crossing
pair-of x b = record { from = b; to = x }

self-less : (m : ℕ) → nat_lt m m ≡ false
self-less m = go (nat_lt m m) refl
  where
    go : (t : Bool) → nat_lt m m ≡ t → nat_lt m m ≡ false
    go true e = absurd (let l = ltb-true m m e in omega (arith, l))
    go false e = e

-- no bit comes before itself
before-self : (x : Bit) → is_before (by_bit x) (by_bit x) ≡ false
before-self x =
    ap₂ (λ u v. u || ((x.sig == x.sig) && (v || ((x.at == x.at) && false)))) (self-less x.sig) (self-less x.at) ∙ never (x.sig == x.sig) (x.at == x.at)
  where
    never : (p q : Bool) → (p && (q && false)) ≡ false
    never true true = refl
    never true false = refl
    never false q = refl

apart-ascending : (xs : List Bit) → Ascends by_bit xs → AreApart (λ (x : Bit). x) xs
apart-ascending [] h = tt
apart-ascending (x ∷ xs) h = (
  each-of (λ y. x ≢ y) xs (λ y i e. both_ways (is_before (by_bit x) (by_bit x)) (before-self x) (subst (λ (z : Bit). is_before (by_bit x) (by_bit z) ≡ true) (sym e) (h.0 y i))),
  apart-ascending xs h.1,
)

-- a copy is one of the bits, and of what it copies
pub copy-in : (d : Design) (xs : List Bit) (c : Crossing) → Contains (copies_among d xs) c → Contains xs c.to × (d.copied c.to ≡ Some c.from)
copy-in d [] c i = absurd (nothing_in c i)
copy-in d (x ∷ xs) c i = go (d.copied x) refl i (copy-in d xs c)
  where
    more : Contains xs c.to × (d.copied c.to ≡ Some c.from) → Contains (x ∷ xs) c.to × (d.copied c.to ≡ Some c.from)
    more p = (later x xs c.to p.0, p.1)

    go : (o : Option Bit) → d.copied x ≡ o → Contains (copy_from x o ++ copies_among d xs) c → (Contains (copies_among d xs) c → Contains xs c.to × (d.copied c.to ≡ Some c.from))
        → Contains (x ∷ xs) c.to × (d.copied c.to ≡ Some c.from)
    go None e j ih = more (ih j)
    go (Some b) e j ih = elim (parts (pair-of x b) (copies_among d xs) c j) [
      | inl f ↦ (
        subst (λ (k : Crossing). Contains (x ∷ xs) k.to) f (here x xs),
        subst (λ (k : Crossing). d.copied k.to ≡ Some k.from) f e,
      )
      | inr k ↦ more (ih k)
    ]

pub apart-copies : (d : Design) (xs : List Bit) → AreApart (λ (x : Bit). x) xs → AreApart (λ (c : Crossing). c.to) (copies_among d xs)
apart-copies d [] h = tt
apart-copies d (x ∷ xs) h = go (d.copied x) (apart-copies d xs h.1)
  where
    go : (o : Option Bit) → AreApart (λ (c : Crossing). c.to) (copies_among d xs) → AreApart (λ (c : Crossing). c.to) (copy_from x o ++ copies_among d xs)
    go None ih = ih
    go (Some b) ih = (each-of (λ c. x ≢ c.to) (copies_among d xs) (λ c i. of-each (λ y. x ≢ y) xs c.to h.0 (copy-in d xs c i).0), ih)

-- a pair is of one of the bits, and of a bit that it reads
pub pair-in : (net : Net) (xs : List Bit) (c : Crossing) → Contains (reads_among net xs) c → Contains xs c.to × (reads [] (next_tree net c.to.sig) c.to.at c.from ≡ true)
pair-in net [] c i = absurd (nothing_in c i)
pair-in net (x ∷ xs) c i = elim (Contains-append_cases (reads_of net x) (reads_among net xs) c i) [
  | inl j ↦ let p = from_map (pair-of x) (bits_read_by net [] x) c j in (
    subst (λ (k : Crossing). Contains (x ∷ xs) k.to) p.2 (here x xs),
    subst (λ (k : Crossing). reads [] (next_tree net k.to.sig) k.to.at k.from ≡ true) p.2 (read p.0 p.1),
  )
  | inr j ↦ let p = pair-in net xs c j in (later x xs c.to p.0, p.1)
]
  where
    read : (b : Bit) → Contains (bits_read_by net [] x) b → reads [] (next_tree net x.sig) x.at b ≡ true
    read b j = (from_filter (λ b. reads [] (next_tree net x.sig) x.at b) (bits_of_signals 0 net.graph.signals) b j).1

-- a pair of a campaign is of a bit that is read
pub pair-reads : (net : Net) (domains : Domains) (c : Crossing) → Contains (pairs_of net domains) c → reads [] (next_tree net c.to.sig) c.to.at c.from ≡ true
pair-reads net domains c i = (pair-in net (filter (λ x. not (settles net domains x)) (bits_of_registers net.graph.signals net.regs)) c i).1

module _ (net : Net) (domains : Domains) (is : IsNet net) (has : HasNextCells net) (runs : HasCells net) where
  -- an input has a first bit
  pub input-within : (sig : ℕ) → is_clocked_input net domains sig ≡ true → is_within net (record { sig = sig; at = 0 }) ≡ true
  input-within sig clocked = go (slice_get net.graph.signals sig) refl (and_parts (has_kind net is_input sig) _ clocked).0
    where
      go : (o : Option Signal) → slice_get net.graph.signals sig ≡ o → option_map_or (λ (s : Signal). is_input s.kind) (slice_get net.graph.signals sig) false ≡ true
          → is_within net (record { sig = sig; at = 0 }) ≡ true
      go None e h = let none : option_map_or (λ (s : Signal). is_input s.kind) None false ≡ true = subst (λ (q : Option Signal). option_map_or (λ (s : Signal). is_input s.kind) q false ≡ true) e h in cc
      go (Some s) e h =
          let wide = runs.graph.signals sig s e in
          let count : bit_count net.graph.signals sig ≡ s.width = ap (λ o. option_map_or (λ (s : Signal). s.width) o 0) e in
          lt-ltb 0 (bit_count net.graph.signals sig) (omega (arith, wide.0, count))

  pub input-there : (sig : ℕ) → Contains (inputs_of net domains) sig → (is_clocked_input net domains sig ≡ true) × (sig < length net.graph.signals)
  input-there sig i = let p = number-passes (is_clocked_input net domains) 0 (length net.graph.signals) sig i in (p.0, omega (arith, p.1))

  -- what a register bit reads lies in its signal
  pub read-there : (x b : Bit) → is_register_bit net x ≡ true → reads [] (next_tree net x.sig) x.at b ≡ true → is_within net b ≡ true
  read-there x b h r =
      let n = next-of net x runs h in
      let l = ltb-true x.at (bit_count net.graph.signals x.sig) (and_parts _ _ h).1 in
      lt-ltb b.at (bit_count net.graph.signals b.sig) (read-within net is has [] x l n.cell n.is b r)

  pub flop-is : (c : Crossing) → Contains (flops_of net domains) c → IsFlop net c × (settles net domains c.to ≡ true)
  flop-is c i =
      let p = copy-in (design_of net domains) (filter (settles net domains) (bits_of_registers net.graph.signals net.regs)) c i in
      let q = from_filter (settles net domains) (bits_of_registers net.graph.signals net.regs) c.to p.0 in
      let register = unlisted net is c.to c.to q.0 in (
        record { register = register; copy = p.1; within = read-there c.to c.from register (self_reads [] (next_tree net c.to.sig) c.to.at c.from p.1) },
        q.1,
      )

  pub flops-apart : AreApart (λ (c : Crossing). c.to) (flops_of net domains)
  flops-apart = apart-copies (design_of net domains) (filter (settles net domains) (bits_of_registers net.graph.signals net.regs))
      (apart-passing (λ (x : Bit). x) (settles net domains) (bits_of_registers net.graph.signals net.regs)
      (apart-ascending (bits_of_registers net.graph.signals net.regs) (registers_ascend net.graph.signals net.regs runs.ascending)))

  pub pair-is : (c : Crossing) → Contains (pairs_of net domains) c → IsPair net c × (settles net domains c.to ≡ false)
  pair-is c i =
      let p = pair-in net (filter (λ x. not (settles net domains x)) (bits_of_registers net.graph.signals net.regs)) c i in
      let q = from_filter (λ x. not (settles net domains x)) (bits_of_registers net.graph.signals net.regs) c.to p.0 in
      let register = unlisted net is c.to c.to q.0 in (
        record { from = read-there c.to c.from register p.1; to = register },
        turned (settles net domains c.to) q.1,
      )
    where
      turned : (t : Bool) → not t ≡ true → t ≡ false
      turned true e = cc
      turned false e = refl
