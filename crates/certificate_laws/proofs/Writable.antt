-- What a clean verdict lists can be written.
use Rattle.std.proofs.Common.{◌≡◌, ◌∙◌, refl, sym, ap, subst, inl, inr, arith, ℕ, zero, suc, ◌+◌, ◌-◌, ◌<◌, ◌≤◌, Bool, true, Option, Some, None, option_map, List, [], ◌∷◌, ◌++◌, map, length, length-append, Contains}
use Rattle.std.specs.Prelude.{slice_get}
use Rattle.std.specs.Option.{option_map_or}
use Rattle.std.proofs.lemmas.Bool.{and_parts}
use Rattle.std.proofs.lemmas.List.Elements.{Contains-append_cases}
use Rattle.std.proofs.lemmas.Option.{slice_get-map, slice_get_within}
use Rattle.cdc_base.specs.declared.bit.Bit.{Bit}
use Rattle.cdc_base.specs.declared.signal.Signal.{Signal}
use Rattle.cell_graph.specs.declared.net.Net.{Net}
use Rattle.domains.specs.declared.Domains.{Domains}
use Rattle.domains.specs.Assignment.{clock_of}
use Rattle.domains.specs.Fit.{Fit}
use Rattle.cdc_model.specs.declared.scheme.GrayReg.{GrayReg}
use Rattle.cdc_model.specs.declared.scheme.Load.{Load}
use Rattle.cdc_model.specs.declared.scheme.Ring.{Ring as RingEntry}
use Rattle.cdc_model.specs.Design.{settle_by, settle_of}
use Rattle.cdc_model.specs.GrayShape.{IsGrayReg}
use Rattle.cdc_model.specs.Listed.{ring_entry, sync_entry}
use Rattle.cdc_model.specs.Nets.{bit_count, design_of, is_register_bit, is_within, net_trees, next_tree}
use Rattle.cdc_model.specs.Schemes.{AreSyncs, IsChain, IsCrossing, IsLoad, IsRing, IsSync, Ring, Sync, acknowledge, flops, request, ring_bits}
use Rattle.cdc_model.proofs.Ascending.{nothing_in, parts}
use Rattle.cdc_model.proofs.Behind.{source_clock}
use Rattle.cdc_model.proofs.Justify.{slice_in}
use Rattle.cdc_model.proofs.NetDesign.{cond_some, settles}
use Rattle.mux_recirc.proofs.Meaning.{gate_stands}
use Rattle.fifo_scheme.specs.declared.found.Fifo.{Fifo as Entry}
use Rattle.fifo_scheme.specs.Entries.{IsListedFifo}
use Rattle.cert_text.specs.Written.{CanWriteLoad, CanWriteRing, CanWriteSync, IsFound, IsFoundSignal}
use Rattle.cert_check.specs.Promised.{plain_load}

-- each bit and each signal of a net is found by its printed name
pub record AreAllFound (net : Net) : Type 0 where
  pub bits : (b : Bit) → is_within net b ≡ true → IsFound net.graph.signals b
  pub signals : (sig : ℕ) → sig < length net.graph.signals → IsFoundSignal net.graph.signals sig

module _ (net : Net) (domains : Domains) (fit : Fit net domains) (found : AreAllFound net) (grays : GrayReg → Bool) where
  -- ---- bits

  register-found : (b : Bit) → is_register_bit net b ≡ true → IsFound net.graph.signals b
  register-found b h = found.bits b (and_parts _ (is_within net b) h).1

  source-found : (b x : Bit) → IsCrossing (design_of net domains) (net_trees net grays) b x → IsFound net.graph.signals b
  source-found b x h = let c = source_clock (design_of net domains) b x h.async in found.bits b (cond_some (is_within net b) (clock_of domains b) c.0 c.1).0

  -- ---- synchronizers

  first-or : (f : Bit) (gs : List Bit) (x : Bit) → is_register_bit net f ≡ true → Contains (f ∷ gs) x → (Contains gs x → is_register_bit net x ≡ true) → is_register_bit net x ≡ true
  first-or f gs x reg i more = elim (parts f gs x i) [ inl e ↦ subst (λ (b : Bit). is_register_bit net b ≡ true) e reg | inr j ↦ more j ]

  flops-are-registers : (m n : ℕ) (f : Bit) (gs : List Bit) → is_register_bit net f ≡ true → IsChain (design_of net domains) (net_trees net grays) m n f gs
      → (x : Bit) → Contains (f ∷ gs) x → is_register_bit net x ≡ true
  flops-are-registers m n f [] reg chain x i = first-or f [] x reg i (λ j. absurd (nothing_in x j))
  flops-are-registers (suc m) n f (g ∷ gs) reg chain x i = first-or f (g ∷ gs) x reg i (flops-are-registers m n g gs chain.0.register chain.1 x)
  flops-are-registers zero zero f (g ∷ gs) reg chain x i = absurd chain
  flops-are-registers zero (suc n) f (g ∷ gs) reg chain x i = first-or f (g ∷ gs) x reg i (flops-are-registers zero n g gs chain.0.register chain.1 x)

  -- settling flops are three at most, and one more goes on at most
  chain-short : (m n : ℕ) (f : Bit) (gs : List Bit) → IsChain (design_of net domains) (net_trees net grays) m n f gs → length gs ≤ m + n
  chain-short m n f [] chain = omega arith
  chain-short (suc m) n f (g ∷ gs) chain = let l = chain-short m n g gs chain.1 in omega (arith, l)
  chain-short zero zero f (g ∷ gs) chain = absurd chain
  chain-short zero (suc n) f (g ∷ gs) chain = let l = chain-short zero n g gs chain.1 in omega (arith, l)

  settle-few : (b : Bit) → settle_of (design_of net domains) b ≤ 3
  settle-few b = go ((design_of net domains).clock b)
    where
      go : (o : Option ℕ) → settle_by (design_of net domains).settle o ≤ 3
      go None = omega arith
      go (Some c) = (settles net domains fit c).1

  flops-few : (s : Sync) → IsSync (design_of net domains) (net_trees net grays) s → length (flops s) ≤ 4
  flops-few s h =
      let l = chain-short (settle_of (design_of net domains) s.first) (3 - settle_of (design_of net domains) s.first) s.first s.more h.chain in
      let m = settle-few s.first in
      omega (arith, l, m)

  flops-found : (s : Sync) → IsSync (design_of net domains) (net_trees net grays) s → (b : Bit) → Contains (flops s) b → IsFound net.graph.signals b
  flops-found s h b i = register-found b
      (flops-are-registers (settle_of (design_of net domains) s.first) (3 - settle_of (design_of net domains) s.first) s.first s.more h.crossing.register h.chain b i)

  pub write-sync : (s : Sync) → IsSync (design_of net domains) (net_trees net grays) s → CanWriteSync net.graph.signals (sync_entry s)
  write-sync s h = record { from = source-found s.from s.first h.crossing; some = λ e. cc; flops = flops-found s h }

  -- ---- rings

  module _ (syncs : List Sync) (are : AreSyncs (design_of net domains) (net_trees net grays) syncs) where
    module _ (r : Ring) (h : IsRing (design_of net domains) (net_trees net grays) syncs r) where
      ring-found : (b : Bit) → Contains (ring_bits r) b → IsFound net.graph.signals b
      ring-found b i = elim (parts (request r) (flops r.there ++ acknowledge r ∷ flops r.back) b i) [
        | inl e ↦ subst (IsFound net.graph.signals) e (register-found (request r) h.registers.0)
        | inr j ↦ elim (Contains-append_cases (flops r.there) (acknowledge r ∷ flops r.back) b j) [
          | inl k ↦ flops-found r.there (are r.there h.there) b k
          | inr k ↦ elim (parts (acknowledge r) (flops r.back) b k) [
            | inl e ↦ subst (IsFound net.graph.signals) e (register-found (acknowledge r) h.registers.1)
            | inr l ↦ flops-found r.back (are r.back h.back) b l
          ]
        ]
      ]

      there-few : length (flops r.there) ≤ 4
      there-few = flops-few r.there (are r.there h.there)

      ring-long : length (ring_bits r) ≡ suc (length (flops r.there) + suc (length (flops r.back)))
      ring-long = ap suc (length-append (flops r.there) (acknowledge r ∷ flops r.back))

      pub write-ring : CanWriteRing net.graph.signals (ring_entry r)
      write-ring = record {
        some = λ e. cc;
        bits = ring-found;
        end = (omega (arith, ring-long, there-few), omega (arith, there-few));
        ack = (omega (arith, ring-long, there-few), omega (arith, there-few));
      }

    -- ---- loads

    pub write-load : (rings : List Ring) → ((r : Ring) → Contains rings r → IsRing (design_of net domains) (net_trees net grays) syncs r) → (l : Load)
        → IsLoad (design_of net domains) (net_trees net grays) rings l → CanWriteLoad net.graph.signals (map ring_entry rings) l
    write-load rings are-rings l h =
        let (r, at, held, blind) = h.ring in
        let is = are-rings r (slice_in rings l.ring r at) in
        let (p, q, gate, none) = blind.gate in
        let within = (gate_stands r l.gate p q gate).1 in
        let whole = ring-long r is in
        let few = there-few r is in
        record {
          from = source-found l.from l.to h.crossing;
          to = register-found l.to h.crossing.register;
          ring = (ring_entry r, slice_get-map ring_entry rings l.ring ∙ ap (option_map ring_entry) at, omega (arith, within, whole));
          gate = omega (arith, within, few);
        }

    -- a load is written as any with its crossing, ring and gate
    pub write-like : (rings : List RingEntry) (l m : Load) → plain_load m ≡ plain_load l → CanWriteLoad net.graph.signals rings m → CanWriteLoad net.graph.signals rings l
    write-like rings l m same h =
        let plainly : CanWriteLoad net.graph.signals rings (plain_load m) = record { from = h.from; to = h.to; ring = h.ring; gate = h.gate } in
        let k = subst (CanWriteLoad net.graph.signals rings) same plainly in
        record { from = k.from; to = k.to; ring = k.ring; gate = k.gate }

  -- ---- Gray registers and FIFOs

  signal-there : (sig : ℕ) → 2 ≤ bit_count net.graph.signals sig → sig < length net.graph.signals
  signal-there sig wide = go (slice_get net.graph.signals sig) refl
    where
      go : (o : Option Signal) → slice_get net.graph.signals sig ≡ o → sig < length net.graph.signals
      go None e = absurd (let none : bit_count net.graph.signals sig ≡ 0 = ap (λ (o : Option Signal). option_map_or (λ (s : Signal). s.width) o 0) e in omega (arith, none, wide))
      go (Some s) e = slice_get_within net.graph.signals sig s e

  pub count-found : (g : GrayReg) → IsGrayReg (design_of net domains) (next_tree net) g → IsFoundSignal net.graph.signals g.count
  count-found g h = found.signals g.count (signal-there g.count h.width.0)

  pub gray-found : (g : GrayReg) → IsGrayReg (design_of net domains) (next_tree net) g → IsFoundSignal net.graph.signals g.gray
  gray-found g h = found.signals g.gray (signal-there g.gray (let w = h.width in omega (arith, w.0, w.2)))

  pub write-pair : (syncs : List Sync) (regs : List GrayReg) → ((g : GrayReg) → Contains regs g → IsGrayReg (design_of net domains) (next_tree net) g) → (e : Entry)
      → IsListedFifo net domains syncs regs e → IsFoundSignal net.graph.signals e.wb × IsFoundSignal net.graph.signals e.rb
  write-pair syncs regs are e (f, fifo, entry) = (
    subst (IsFoundSignal net.graph.signals) (fifo.named.0 ∙ sym entry.counts.0) (count-found fifo.write.reg (are fifo.write.reg fifo.writes.listed)),
    subst (IsFoundSignal net.graph.signals) (fifo.named.2 ∙ sym entry.counts.2) (count-found fifo.read.reg (are fifo.read.reg fifo.reads.listed)),
  )
