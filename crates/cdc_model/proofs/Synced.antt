-- The list of all synchronizers of a net has exactly its synchronizers, in order.
use Rattle.std.proofs.Common.{◌≡◌, ◌∙◌, ◌⊎◌, inl, inr, refl, sym, ap, ap₂, subst, arith, ℕ, zero, suc, ◌+◌, ◌-◌, ◌<◌, ◌≤◌, ◌==◌, ◌&&◌, nat_lt, ltb-true, lt-ltb, eqb-true, eq-eqb, Bool, true, false, cond, Option, Some, None, is_some, unwrap_or, List, [], ◌∷◌, ◌++◌, map, length, slice_get, Contains}
use Rattle.std.specs.Option.{option_map_or}
use Rattle.std.specs.Prelude.{if◌then◌else◌}
use Rattle.std.proofs.lemmas.Bool.{and_parts, and_from, or_cases}
use Rattle.std.proofs.lemmas.List.Elements.{Contains-append_left, Contains-append_right, Contains-append_cases}
use Rattle.cdc_base.specs.declared.bit.Bit.{Bit}
use Rattle.cdc_base.specs.declared.signal.Signal.{Signal}
use Rattle.cdc_base.specs.declared.signal.SigKind.{SigKind}
use Rattle.cdc_base.specs.declared.signal.SigKind.TheVariants.{Input, Register, Wire}
use Rattle.cell_graph.specs.declared.net.Net.{Net}
use Rattle.cell_graph.specs.declared.net.Reg.{Reg}
use Rattle.cell_graph.specs.Cofactor.{same, reads}
use Rattle.cell_graph.specs.Reading.{bit_eq}
use Rattle.cell_graph.proofs.Bits.{bit_eq-true, eq-bit_eq}
use Rattle.domains.specs.declared.Domains.{Domains}
use Rattle.domains.specs.Assignment.{clock_of}
use Rattle.domains.specs.Fit.{Fit, IsClockedAs}
use Rattle.domains.specs.Nets.{IsNet, is_register, register_signals}
use Rattle.cdc_model.specs.declared.readers.Reader.{Reader}
use Rattle.cdc_model.specs.declared.readers.Reader.TheVariants.{Nobody, Alone, Others}
use Rattle.cdc_model.specs.declared.scheme.Crossing.{Crossing}
use Rattle.cdc_model.specs.declared.scheme.GrayReg.{GrayReg}
use Rattle.cdc_model.specs.Design.{are_equal, at_bit, settle_by, settle_of}
use Rattle.cdc_model.specs.Found.{crossings_of}
use Rattle.cdc_model.specs.Nets.{next_cell, next_tree, bit_count, bits_of_registers, is_within, is_register_bit, is_read_by_output, design_of, net_trees}
use Rattle.cdc_model.specs.Ordered.{is_before, IsAll}
use Rattle.cdc_model.specs.Readers.{reader_among, registers_reading, readers_of, state_width, IsStateBit}
use Rattle.cdc_model.specs.Schemes.{IsCrossing, Follows, Sync, IsChain, IsSync, flops}
use Rattle.cdc_model.specs.Syncs.{copies, on_one_clock, copy_among, next_flop, flops_behind, sync_of, is_sync, syncs_from, syncs_among, syncs_of}
use Rattle.cdc_model.specs.Verdict.{crossing_key, sync_key}
use Rattle.cdc_model.proofs.Ascending.{here, later, parts, nothing_in, in_filter, from_filter, Ascends, ascending, filtered_ascend, less_before, same_before}
use Rattle.cdc_model.proofs.Found.{by_bit, net_ascends, from_registers, registers_ascend, has_next, among_ascends as among_crossings, crossings_are_all}
use Rattle.cdc_model.proofs.Net.{self_reads}
use Rattle.cdc_model.proofs.NetDesign.{in_bits, settles}
use Rattle.cdc_model.proofs.Ordered.{never_before}

never : false ≡ true → ⊥
never f = cc

-- ---- bits of registers

-- a number that is listed as that of a register is one's
listed_register : (k : ℕ) (ss : List Signal) (n : ℕ) → Contains (register_signals k ss) n → (i : ℕ) × (s : Signal) × (n ≡ k + i) × (slice_get ss i ≡ Some s) × (s.kind ≡ Register)
listed_register k [] n h = absurd (nothing_in n h)
listed_register k (s ∷ ss) n h = go s.kind refl h (λ j. let r = listed_register (k + 1) ss n j in (suc r.0, r.1, (let e = r.2 in omega arith), r.3, r.4))
  where
    go : (kind : SigKind) → s.kind ≡ kind → Contains (if is_register kind then k ∷ register_signals (k + 1) ss else register_signals (k + 1) ss) n
        → (Contains (register_signals (k + 1) ss) n → (i : ℕ) × (q : Signal) × (n ≡ k + i) × (slice_get (s ∷ ss) i ≡ Some q) × (q.kind ≡ Register))
        → (i : ℕ) × (q : Signal) × (n ≡ k + i) × (slice_get (s ∷ ss) i ≡ Some q) × (q.kind ≡ Register)
    go Register e j further = elim (parts k (register_signals (k + 1) ss) n j) [
      | inl f ↦ (0, s, omega arith, refl, e)
      | inr i ↦ further i
    ]
    go Input e j further = further j
    go Wire e j further = further j

sig_listed : (rs : List Reg) (sig : ℕ) → is_some (next_cell rs sig) ≡ true → Contains (map (λ (r : Reg). r.sig) rs) sig
sig_listed [] sig h = cc
sig_listed (r ∷ rs) sig h = go (r.sig == sig) refl h (sig_listed rs sig)
  where
    go : (v : Bool) → (r.sig == sig) ≡ v → is_some (cond v (Some r.next) (next_cell rs sig)) ≡ true → (is_some (next_cell rs sig) ≡ true → Contains (map (λ (r : Reg). r.sig) rs) sig) → Contains (r.sig ∷ map (λ (r : Reg). r.sig) rs) sig
    go true e k ih = (0, omega arith, eqb-true r.sig sig e)
    go false e k ih = later r.sig (map (λ (r : Reg). r.sig) rs) sig (ih k)

-- a register's signal is one of that kind
pub register_kind : (net : Net) → IsNet net → (sig : ℕ) → is_some (next_cell net.regs sig) ≡ true → (s : Signal) × (slice_get net.graph.signals sig ≡ Some s) × (s.kind ≡ Register)
register_kind net is sig h =
    let i = listed_register 0 net.graph.signals sig (subst (λ ns. Contains ns sig) is.registers (sig_listed net.regs sig h)) in
    (i.1, ap (slice_get net.graph.signals) (let e = i.2 in let f : sig ≡ i.0 = omega arith in f) ∙ i.3, i.4)

-- a bit of a register is a state bit
pub register_state : (net : Net) → IsNet net → (b : Bit) → is_register_bit net b ≡ true → IsStateBit net.graph.signals b
register_state net is b h =
    let p = and_parts (is_some (next_cell net.regs b.sig)) (is_within net b) h in
    let k = register_kind net is b.sig p.0 in
    let l = ltb-true b.at (bit_count net.graph.signals b.sig) p.1 in
    subst (λ o. b.at < option_map_or (λ (s : Signal). state_width s) o 0) (sym k.1)
    (as_wide k.0 k.2 (subst (λ o. b.at < option_map_or (λ (s : Signal). s.width) o 0) k.1 l))
  where
    as_wide : (s : Signal) → s.kind ≡ Register → b.at < s.width → b.at < state_width s
    as_wide s e l = subst (λ k. b.at < wide k) (sym e) l
      where
        wide : SigKind → ℕ
        wide k = state_width (record s { kind = k })

module _ (net : Net) (domains : Domains) (is : IsNet net) (fit : Fit net domains) where
  -- a register has a clock
  clocked : (b : Bit) → is_register_bit net b ≡ true → (c : ℕ) × (clock_of domains b ≡ Some c)
  clocked b h =
      let p = and_parts (is_some (next_cell net.regs b.sig)) (is_within net b) h in
      let k = register_kind net is b.sig p.0 in
      let c = subst (λ kind. IsClockedAs domains b.sig kind) k.2 (fit.signals b.sig k.0 k.1) in
      (c.0, ap (λ o. unwrap_or o None) c.1)

  clock_is : (b : Bit) → is_register_bit net b ≡ true → (design_of net domains).clock b ≡ clock_of domains b
  clock_is b h = ap (λ v. cond v (clock_of domains b) None) (and_parts (is_some (next_cell net.regs b.sig)) (is_within net b) h).1

-- ---- who reads a flop

only_item : (xs : List Bit) (g : Bit) → reader_among xs ≡ Alone g → xs ≡ g ∷ []
only_item [] g h = cc
only_item (x ∷ []) g h = ap (λ y. y ∷ []) (let e : x ≡ g = cc in e)
only_item (x ∷ y ∷ zs) g h = cc

module _ (net : Net) (is : IsNet net) (f : Bit) where
  abbrev test : Bit → Bool
  test x = reads [] (next_tree net x.sig) x.at f

  abbrev all : List Bit
  all = bits_of_registers net.graph.signals net.regs

  listed : (x : Bit) → is_register_bit net x ≡ true → Contains (bits_of_registers net.graph.signals net.regs) x
  listed x h =
      let p = and_parts (is_some (next_cell net.regs x.sig)) (is_within net x) h in
      in_bits net.graph.signals x (ltb-true x.at (bit_count net.graph.signals x.sig) p.1) net.regs p.0

  pub unlisted : (x : Bit) → Contains (bits_of_registers net.graph.signals net.regs) x → is_register_bit net x ≡ true
  unlisted x i =
      let m = from_registers net.graph.signals net.regs x i in
      and_from (is_some (next_cell net.regs x.sig)) (is_within net x) (subst (λ (n : ℕ). is_some (next_cell net.regs n) ≡ true) (sym m.2) (has_next net.regs m.0 m.1))
      (lt-ltb x.at (bit_count net.graph.signals x.sig) m.3)

  -- what one register bit alone, and no output, reads
  pub alone : (g : Bit) → readers_of net f ≡ Alone g
      → (is_read_by_output net f ≡ false) × (is_register_bit net g ≡ true) × ((x : Bit) → is_register_bit net x ≡ true → reads [] (next_tree net x.sig) x.at f ≡ true → x ≡ g)
  alone g h = go (is_read_by_output net f) refl h
    where
      go : (v : Bool) → is_read_by_output net f ≡ v → cond v Others (reader_among (registers_reading net f)) ≡ Alone g
          → (is_read_by_output net f ≡ false) × (is_register_bit net g ≡ true) × ((x : Bit) → is_register_bit net x ≡ true → reads [] (next_tree net x.sig) x.at f ≡ true → x ≡ g)
      go true e k = cc
      go false e k =
          let one = only_item (registers_reading net f) g k in (
            e,
            unlisted g (from_filter test all g (subst (λ xs. Contains xs g) (sym one) (here g []))).0,
            λ x reg r. elim (parts g [] x (subst (λ xs. Contains xs x) one (in_filter test all x (listed x reg) r))) [
              | inl same ↦ sym same
              | inr j ↦ absurd (nothing_in x j)
            ],
          )

  -- and what is read so has that reader
  one_reader : (g : Bit) → is_register_bit net g ≡ true → reads [] (next_tree net g.sig) g.at f ≡ true
      → ((x : Bit) → is_register_bit net x ≡ true → reads [] (next_tree net x.sig) x.at f ≡ true → x ≡ g) → is_read_by_output net f ≡ false → readers_of net f ≡ Alone g
  one_reader g reg r only hidden = ap (λ v. cond v Others (reader_among (registers_reading net f))) hidden
      ∙ go (registers_reading net f) (in_filter test all g (listed g reg) r)
      (λ x i. let k = from_filter test all x i in only x (unlisted x k.0) k.1)
      (filtered_ascend by_bit test all (registers_ascend net.graph.signals net.regs (net_ascends net is)))
    where
      go : (xs : List Bit) → Contains xs g → ((x : Bit) → Contains xs x → x ≡ g) → Ascends by_bit xs → reader_among xs ≡ Alone g
      go [] i each asc = absurd (nothing_in g i)
      go (x ∷ []) i each asc = ap Alone (each x (here x []))
      go (x ∷ y ∷ zs) i each asc =
          let same : x ≡ y = each x (here x (y ∷ zs)) ∙ sym (each y (later x (y ∷ zs) y (here y zs))) in
          absurd (never (sym (never_before (by_bit x)) ∙ subst (λ (z : Bit). is_before (by_bit x) (by_bit z) ≡ true) (sym same) (asc.0 y (here y zs))))

-- ---- the next flop

copied_from : (o : Option Bit) (b : Bit) → at_bit o (λ a. bit_eq a b) ≡ true → o ≡ Some b
copied_from None b h = cc
copied_from (Some a) b h = ap Some (bit_eq-true a b h)

-- the next flop is a register bit that copies the flop
pub next_copies : (net : Net) (domains : Domains) → IsNet net → (f g : Bit) → next_flop net domains f ≡ Some g → (is_register_bit net g ≡ true) × (copies net g f ≡ true)
next_copies net domains is f g h = go (readers_of net f) refl h
  where
    go : (r : Reader) → readers_of net f ≡ r → copy_among net domains f r ≡ Some g → (is_register_bit net g ≡ true) × (copies net g f ≡ true)
    go Nobody e k = cc
    go Others e k = cc
    go (Alone x) e k = taken (copies net x f && on_one_clock domains x f) refl k
      where
        taken : (v : Bool) → (copies net x f && on_one_clock domains x f) ≡ v → cond v (Some x) None ≡ Some g → (is_register_bit net g ≡ true) × (copies net g f ≡ true)
        taken false u w = cc
        taken true u w = subst (λ (y : Bit). (is_register_bit net y ≡ true) × (copies net y f ≡ true)) (let same : x ≡ g = cc in same)
            ((alone net is f x e).1, (and_parts (copies net x f) (on_one_clock domains x f) u).0)

one_clock : (o p : Option ℕ) → are_equal o p ≡ true → o ≡ p
one_clock None p h = cc
one_clock (Some m) None h = cc
one_clock (Some m) (Some n) h = ap Some (eqb-true m n h)

module _ (net : Net) (domains : Domains) (grays : GrayReg → Bool) (is : IsNet net) (fit : Fit net domains) where
  -- the next flop follows
  follows : (f : Bit) → is_register_bit net f ≡ true → (g : Bit) → next_flop net domains f ≡ Some g → Follows (design_of net domains) (net_trees net grays) f g
  follows f reg g h = go (readers_of net f) refl h
    where
      go : (r : Reader) → readers_of net f ≡ r → copy_among net domains f r ≡ Some g → Follows (design_of net domains) (net_trees net grays) f g
      go Nobody e k = cc
      go Others e k = cc
      go (Alone x) e k = taken (copies net x f && on_one_clock domains x f) refl k
        where
          taken : (v : Bool) → (copies net x f && on_one_clock domains x f) ≡ v → cond v (Some x) None ≡ Some g → Follows (design_of net domains) (net_trees net grays) f g
          taken false u w = cc
          taken true u w =
              let p = and_parts (copies net x f) (on_one_clock domains x f) u in
              let a = alone net is f x e in
              subst (Follows (design_of net domains) (net_trees net grays) f) (let same : x ≡ g = cc in same)
              (record {
                register = a.1;
                copy = copied_from (same [] (next_tree net x.sig) x.at) f p.0;
                clock = clock_is net domains is fit x a.1 ∙ one_clock (clock_of domains x) (clock_of domains f) p.1 ∙ sym (clock_is net domains is fit f reg);
                only = a.2;
                hidden = a.0;
              })

  -- and what follows is the next flop
  followed : (f : Bit) → is_register_bit net f ≡ true → (g : Bit) → Follows (design_of net domains) (net_trees net grays) f g → next_flop net domains f ≡ Some g
  followed f reg g h =
      let read = self_reads [] (next_tree net g.sig) g.at f h.copy in
      let c = clocked net domains is fit f reg in
      let clocks : clock_of domains g ≡ clock_of domains f = sym (clock_is net domains is fit g h.register) ∙ h.clock ∙ clock_is net domains is fit f reg in
      let one : on_one_clock domains g f ≡ true = ap₂ are_equal (clocks ∙ c.1) c.1 ∙ eq-eqb c.0 c.0 refl in
      let copy : copies net g f ≡ true = ap (λ o. at_bit o (λ a. bit_eq a f)) h.copy ∙ eq-bit_eq f f refl in
      ap (copy_among net domains f) (one_reader net is f g h.register read h.only h.hidden)
      ∙ ap (λ v. cond v (Some g) None) (and_from (copies net g f) (on_one_clock domains g f) copy one)

  -- ---- chains

  abbrev behind : ℕ → Bit → List Bit
  behind n f = flops_behind net domains n f

  next_is : (n : ℕ) (f g : Bit) → next_flop net domains f ≡ Some g → behind (suc n) f ≡ g ∷ behind n g
  next_is n f g h = ap (λ o. option_map_or (λ (g : Bit). g ∷ behind n g) o []) h

  next_none : (n : ℕ) (f : Bit) → next_flop net domains f ≡ None → behind (suc n) f ≡ []
  next_none n f h = ap (λ o. option_map_or (λ (g : Bit). g ∷ behind n g) o []) h

  some_other : (o : Option Bit) (g : Bit) → o ≡ None → o ≡ Some g → ⊥
  some_other o g e k = cc

  chain_is : (m n t : ℕ) → m + n ≡ t → (f : Bit) → is_register_bit net f ≡ true → m ≤ length (behind t f) → IsChain (design_of net domains) (net_trees net grays) m n f (behind t f)
  chain_is zero zero zero sum f reg l = inl refl
  chain_is zero zero (suc t) sum f reg l = absurd (omega arith)
  chain_is zero (suc n) zero sum f reg l = absurd (omega arith)
  chain_is zero (suc n) (suc t) sum f reg l = go (next_flop net domains f) refl (λ g k. chain_is zero n t (omega arith) g k (omega arith))
    where
      go : (o : Option Bit) → next_flop net domains f ≡ o → ((g : Bit) → is_register_bit net g ≡ true → IsChain (design_of net domains) (net_trees net grays) zero n g (behind t g))
          → IsChain (design_of net domains) (net_trees net grays) zero (suc n) f (behind (suc t) f)
      go None e ih = subst (IsChain (design_of net domains) (net_trees net grays) zero (suc n) f) (sym (next_none t f e)) (inr (λ g k. some_other (next_flop net domains f) g e (followed f reg g k)))
      go (Some g) e ih =
          let k = follows f reg g e in
          subst (IsChain (design_of net domains) (net_trees net grays) zero (suc n) f) (sym (next_is t f g e)) (k, ih g k.register)
  chain_is (suc m) n zero sum f reg l = absurd (omega arith)
  chain_is (suc m) n (suc t) sum f reg l = go (next_flop net domains f) refl (λ g k j. chain_is m n t (omega arith) g k j)
    where
      go : (o : Option Bit) → next_flop net domains f ≡ o → ((g : Bit) → is_register_bit net g ≡ true → m ≤ length (behind t g) → IsChain (design_of net domains) (net_trees net grays) m n g (behind t g))
          → IsChain (design_of net domains) (net_trees net grays) (suc m) n f (behind (suc t) f)
      go None e ih = absurd (let k = ap length (next_none t f e) in omega arith)
      go (Some g) e ih =
          let k = follows f reg g e in
          subst (IsChain (design_of net domains) (net_trees net grays) (suc m) n f) (sym (next_is t f g e))
          (k, ih g k.register (let j = ap length (next_is t f g e) in omega arith))

  chain_only : (m n t : ℕ) → m + n ≡ t → (f : Bit) (gs : List Bit) → is_register_bit net f ≡ true → IsChain (design_of net domains) (net_trees net grays) m n f gs → (gs ≡ behind t f) × (m ≤ length gs)
  chain_only zero zero zero sum f [] reg h = (refl, omega arith)
  chain_only zero zero (suc t) sum f gs reg h = absurd (omega arith)
  chain_only zero zero zero sum f (g ∷ gs) reg h = absurd h
  chain_only zero (suc n) zero sum f gs reg h = absurd (omega arith)
  chain_only zero (suc n) (suc t) sum f [] reg h = (go (next_flop net domains f) refl h, omega arith)
    where
      go : (o : Option Bit) → next_flop net domains f ≡ o → (suc n ≡ 0) ⊎ ((g : Bit) → Follows (design_of net domains) (net_trees net grays) f g → ⊥) → [] ≡ behind (suc t) f
      go None e k = sym (next_none t f e)
      go (Some g) e (inl k) = absurd (omega arith)
      go (Some g) e (inr k) = absurd (k g (follows f reg g e))
  chain_only zero (suc n) (suc t) sum f (g ∷ gs) reg h =
      let k = chain_only zero n t (omega arith) g gs h.0.register h.1 in
      (ap (λ xs. g ∷ xs) k.0 ∙ sym (next_is t f g (followed f reg g h.0)), omega arith)
  chain_only (suc m) n zero sum f gs reg h = absurd (omega arith)
  chain_only (suc m) n (suc t) sum f [] reg h = absurd h
  chain_only (suc m) n (suc t) sum f (g ∷ gs) reg h =
      let k = chain_only m n t (omega arith) g gs h.0.register h.1 in
      (ap (λ xs. g ∷ xs) k.0 ∙ sym (next_is t f g (followed f reg g h.0)), omega (arith, k.1))

  -- ---- synchronizers

  settle_bound : (f : Bit) → is_register_bit net f ≡ true → (settle_of (design_of net domains) f ≤ 3)
  settle_bound f reg =
      let c = clocked net domains is fit f reg in
      subst (λ o. settle_by (design_of net domains).settle o ≤ 3) (sym (clock_is net domains is fit f reg ∙ c.1)) (settles net domains fit c.0).1

  three : (k : ℕ) → k ≤ 3 → k + (3 - k) ≡ 3
  three k l = omega arith

  pub is_one : (k : Crossing) → IsCrossing (design_of net domains) (net_trees net grays) k.from k.to → is_sync net domains k ≡ true
      → IsSync (design_of net domains) (net_trees net grays) (sync_of net domains k)
  is_one k crossing h =
      let s = settle_of (design_of net domains) k.to in
      let p = and_parts (copies net k.to k.from) (nat_lt s (length (flops (sync_of net domains k)))) h in
      let l = ltb-true s (length (flops (sync_of net domains k))) p.1 in
      let e = three s (settle_bound k.to crossing.register) in
      record {
        crossing = crossing;
        copy = copied_from (same [] (next_tree net k.to.sig) k.to.at) k.from p.0;
        chain = chain_is s (3 - s) 3 e k.to crossing.register (omega arith);
      }

  pub one_is : (s : Sync) → IsSync (design_of net domains) (net_trees net grays) s
      → (is_sync net domains (record { from = s.from; to = s.first }) ≡ true) × (sync_of net domains (record { from = s.from; to = s.first }) ≡ s)
  one_is s h =
      let n = settle_of (design_of net domains) s.first in
      let k = chain_only n (3 - n) 3 (three n (settle_bound s.first h.crossing.register)) s.first s.more h.crossing.register h.chain in
      let more : s.more ≡ behind 3 s.first = k.0 in
      let copy : copies net s.first s.from ≡ true = ap (λ o. at_bit o (λ a. bit_eq a s.from)) h.copy ∙ eq-bit_eq s.from s.from refl in (
        and_from (copies net s.first s.from) (nat_lt n (suc (length (behind 3 s.first)))) copy (lt-ltb n (suc (length (behind 3 s.first))) (let e = ap length more in let l = k.1 in omega arith)),
        ap (λ gs. let r : Sync = record { from = s.from; first = s.first; more = gs } in r) (sym more),
      )

  from_one : (k : Crossing) (s : Sync) → Contains (syncs_from net domains k) s → (is_sync net domains k ≡ true) × (sync_of net domains k ≡ s)
  from_one k s i = go (is_sync net domains k) refl i
    where
      go : (v : Bool) → is_sync net domains k ≡ v → Contains (cond v (sync_of net domains k ∷ []) []) s → (is_sync net domains k ≡ true) × (sync_of net domains k ≡ s)
      go false e j = absurd (nothing_in s j)
      go true e j = elim (parts (sync_of net domains k) [] s j) [ inl f ↦ (e, f) | inr i ↦ absurd (nothing_in s i) ]

  in_one : (k : Crossing) → is_sync net domains k ≡ true → Contains (syncs_from net domains k) (sync_of net domains k)
  in_one k h = subst (λ v. Contains (cond v (sync_of net domains k ∷ []) []) (sync_of net domains k)) (sym h) (here (sync_of net domains k) [])

  from_among : (ks : List Crossing) (s : Sync) → Contains (syncs_among net domains ks) s → (k : Crossing) × Contains ks k × (is_sync net domains k ≡ true) × (sync_of net domains k ≡ s)
  from_among [] s i = absurd (nothing_in s i)
  from_among (k ∷ ks) s i = elim (Contains-append_cases (syncs_from net domains k) (syncs_among net domains ks) s i) [
    | inl j ↦ let r = from_one k s j in (k, here k ks, r.0, r.1)
    | inr j ↦ let r = from_among ks s j in (r.0, later k ks r.0 r.1, r.2, r.3)
  ]

  in_among : (ks : List Crossing) (k : Crossing) → Contains ks k → is_sync net domains k ≡ true → Contains (syncs_among net domains ks) (sync_of net domains k)
  in_among [] k i h = absurd (nothing_in k i)
  in_among (l ∷ ks) k i h = elim (parts l ks k i) [
    | inl e ↦ Contains-append_left (syncs_from net domains l) (syncs_among net domains ks) (sync_of net domains k)
        (subst (λ m. Contains (syncs_from net domains m) (sync_of net domains k)) (sym e) (in_one k h))
    | inr j ↦ Contains-append_right (syncs_from net domains l) (syncs_among net domains ks) (sync_of net domains k) (in_among ks k j h)
  ]

  -- ---- their order

  sources_are_one : (o : Option Bit) (a b : Bit) → o ≡ Some a → o ≡ Some b → a ≡ b
  sources_are_one o a b e f = cc

  -- of two crossings into plain copies the later one has the later end
  ends_rise : (k l : Crossing) → is_sync net domains k ≡ true → is_sync net domains l ≡ true → is_before (crossing_key k) (crossing_key l) ≡ true → is_before (by_bit k.to) (by_bit l.to) ≡ true
  ends_rise k l h j before = elim (or_cases (nat_lt k.to.sig l.to.sig) ((k.to.sig == l.to.sig) && is_before (k.to.at ∷ by_bit k.from) (l.to.at ∷ by_bit l.from)) before) [
    | inl m ↦ less_before k.to.sig l.to.sig (k.to.at ∷ []) (l.to.at ∷ []) (ltb-true k.to.sig l.to.sig m)
    | inr m ↦
        let p = and_parts (k.to.sig == l.to.sig) (is_before (k.to.at ∷ by_bit k.from) (l.to.at ∷ by_bit l.from)) m in
        let sig = eqb-true k.to.sig l.to.sig p.0 in
        elim (or_cases (nat_lt k.to.at l.to.at) ((k.to.at == l.to.at) && is_before (by_bit k.from) (by_bit l.from)) p.1) [
          | inl n ↦ same_before k.to.sig l.to.sig (k.to.at ∷ []) (l.to.at ∷ []) sig (less_before k.to.at l.to.at [] [] (ltb-true k.to.at l.to.at n))
          | inr n ↦
              let q = and_parts (k.to.at == l.to.at) (is_before (by_bit k.from) (by_bit l.from)) n in
              let to : k.to ≡ l.to = ap₂ (λ (x y : ℕ). let c : Bit = record { sig = x; at = y } in c) sig (eqb-true k.to.at l.to.at q.0) in
              let one = copied_from (same [] (next_tree net k.to.sig) k.to.at) k.from (and_parts (copies net k.to k.from) _ h).0 in
              let two = copied_from (same [] (next_tree net l.to.sig) l.to.at) l.from (and_parts (copies net l.to l.from) _ j).0 in
              let from : k.from ≡ l.from = sources_are_one (same [] (next_tree net k.to.sig) k.to.at) k.from l.from one (subst (λ (x : Bit). same [] (next_tree net x.sig) x.at ≡ Some l.from) (sym to) two) in
              absurd (never (sym (never_before (by_bit k.from)) ∙ subst (λ (x : Bit). is_before (by_bit k.from) (by_bit x) ≡ true) (sym from) q.1))
        ]
  ]

  among_ascends : (ks : List Crossing) → Ascends crossing_key ks → Ascends sync_key (syncs_among net domains ks)
  among_ascends [] h = tt
  among_ascends (k ∷ ks) h = go (is_sync net domains k) refl (among_ascends ks h.1)
    where
      go : (v : Bool) → is_sync net domains k ≡ v → Ascends sync_key (syncs_among net domains ks) → Ascends sync_key (cond v (sync_of net domains k ∷ []) [] ++ syncs_among net domains ks)
      go false e ih = ih
      go true e ih = (
        λ s i. let r = from_among ks s i in
            subst (λ (t : Sync). is_before (by_bit k.to) (sync_key t) ≡ true) r.3 (ends_rise k r.0 e r.2 (h.0 r.0 r.1)),
        ih,
      )

  pub syncs_are_all : IsAll (IsSync (design_of net domains) (net_trees net grays)) sync_key (syncs_of net domains)
  syncs_are_all =
      let every = crossings_are_all net domains grays (net_ascends net is) in
      record {
        all = λ s h.
            let r = one_is s h in
            subst (Contains (syncs_of net domains)) r.1
            (in_among (crossings_of net domains) (record { from = s.from; to = s.first }) (every.all (record { from = s.from; to = s.first }) h.crossing) r.0);
        only = λ s i.
            let r = from_among (crossings_of net domains) s i in
            subst (IsSync (design_of net domains) (net_trees net grays)) r.3 (is_one r.0 (every.only r.0 r.1) r.2);
        ordered = ascending sync_key (syncs_of net domains) (among_ascends (crossings_of net domains)
            (among_crossings net domains (bits_of_registers net.graph.signals net.regs) (registers_ascend net.graph.signals net.regs (net_ascends net is))));
      }
