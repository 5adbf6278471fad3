-- Registers that fit each other are a counter and its Gray register where they have a shape.
use Rattle.std.proofs.Common.{◌≡◌, ◌∙◌, sym, ap, ap₂, refl, subst, inl, inr, ◌⊎◌, arith, ℕ, zero, suc, ◌+◌, ◌-◌, ◌/◌, ◌%◌, ◌^◌, ◌<◌, ◌≤◌, ◌==◌, ◌&&◌, nat_lt, Bool, true, false, cond, List, [], ◌∷◌, map, Contains, Option, Some, None, slice_get, unwrap_or, is_some, ltb-true, lt-ltb, eqb-true, eq-eqb}
use Rattle.std.specs.List.{AllByRecursion, AllPairs}
use Rattle.std.specs.Option.{option_and_then, option_map_or}
use Rattle.std.specs.Int as int
use Rattle.std.proofs.lemmas.Bool.{and_parts}
use Rattle.std.proofs.lemmas.Nat.Bits.{bit_at_ones, bit_at_xor, bit_at-lt, bit_at-suc}
use Rattle.std.proofs.Math.Nat.{div-eq_of_lt}
use Rattle.std.proofs.Math.Pow.{pow_mono}
use Rattle.cdc_base.specs.declared.bit.Bit.{Bit}
use Rattle.cdc_base.specs.declared.signal.Signal.{Signal}
use Rattle.cell_graph.specs.declared.net.Net.{Net}
use Rattle.cell_graph.specs.declared.net.Reg.{Reg}
use Rattle.cell_graph.specs.Tree.{Tree, bit_at}
use Rattle.cell_graph.specs.Unfolded.{tree_of}
use Rattle.domains.specs.declared.Domains.{Domains}
use Rattle.domains.specs.Assignment.{clock_of}
use Rattle.domains.specs.Nets.{IsNet}
use Rattle.cdc_model.specs.declared.scheme.Shape.{Shape}
use Rattle.cdc_model.specs.Design.{bits_from}
use Rattle.cdc_model.specs.Gray.{exclusive_or, gray_code}
use Rattle.cdc_model.specs.GrayShape.{HasShape, IsGrayReg}
use Rattle.cdc_model.specs.Nets.{next_cell, next_tree, tree_or_zero, AreAscending, HasNextCells, bit_count, is_register_bit, clock_of_bit, start_of, design_of}
use Rattle.cdc_model.specs.Word.{origins}
use Rattle.cdc_model.proofs.Ascending.{here, later, parts, nothing_in}
use Rattle.cdc_model.proofs.Found.{net_ascends}
use Rattle.cdc_model.proofs.Justify.{in_slice, slice_in}
use Rattle.gray_pointer.specs.declared.register.Register.{Register}
use Rattle.gray_pointer.specs.Counters.{AreRegistersIn}
use Rattle.gray_pointer.specs.Registers.{AreStartsNarrow, is_wide, register_of, register_at, in_front, registers_among, Ascend, taken_at, number_code, Fits}
use Rattle.gray_pointer.specs.Shapes.{IsRegisterIn}
use Rattle.gray_pointer.specs.Words.{word_of}
use Rattle.gray_pointer.proofs.Bits.{bits}

-- ---- a register that was found

pub record IsFound (net : Net) (domains : Domains) (reg : Reg) (r : Register) : Type 0 where
  pub signal : (s : Signal) × (slice_get net.graph.signals reg.sig ≡ Some s) × (r.width ≡ s.width) × (r.start ≡ s.start) × (s.known ≡ 2 ^ s.width - 1)
  pub wide : (2 ≤ r.width) × (r.width ≤ 64)
  pub clock : clock_of domains (record { sig = reg.sig; at = 0 }) ≡ Some r.clock
  pub is : (r.sig ≡ reg.sig) × (r.next ≡ reg.next)

wide_parts : (w : ℕ) → is_wide w ≡ true → (2 ≤ w) × (w ≤ 64)
wide_parts w h =
    let p = and_parts (nat_lt 1 w) (nat_lt w 65) h in
    let a : 1 < w = ltb-true 1 w p.0 in
    let b : w < 65 = ltb-true w 65 p.1 in
    ((omega arith), (omega arith))

module _ (net : Net) (domains : Domains) where
  pub found : (reg : Reg) (r : Register) → register_at net domains reg ≡ Some r → IsFound net domains reg r
  found reg r e = by_signal (slice_get net.graph.signals reg.sig) refl e
    where
      test : (s : Signal) (c : ℕ) (u v : Bool) → slice_get net.graph.signals reg.sig ≡ Some s → clock_of domains (record { sig = reg.sig; at = 0 }) ≡ Some c
          → is_wide s.width ≡ u → (s.known == 2 ^ s.width - 1) ≡ v
          → cond (u && v) (let q : Register = record { sig = reg.sig; width = s.width; clock = c; start = s.start; next = reg.next } in Some q) None ≡ Some r → IsFound net domains reg r
      test s c true true at on p q f =
          let new : Register = record { sig = reg.sig; width = s.width; clock = c; start = s.start; next = reg.next } in
          let same : new ≡ r = cc in
          subst (IsFound net domains reg) same (record {
            signal = (s, at, refl, refl, eqb-true s.known (2 ^ s.width - 1) q);
            wide = wide_parts s.width p;
            clock = on;
            is = (refl, refl);
          })
      test s c true false at on p q f = cc
      test s c false v at on p q f = cc

      by_clock : (s : Signal) (o : Option ℕ) → slice_get net.graph.signals reg.sig ≡ Some s → clock_of domains (record { sig = reg.sig; at = 0 }) ≡ o
          → option_and_then (λ clock. register_of reg clock s) o ≡ Some r → IsFound net domains reg r
      by_clock s None at on f = cc
      by_clock s (Some c) at on f = test s c (is_wide s.width) (s.known == 2 ^ s.width - 1) at on refl refl f

      by_signal : (o : Option Signal) → slice_get net.graph.signals reg.sig ≡ o
          → option_and_then (λ (s : Signal). option_and_then (λ clock. register_of reg clock s) (clock_of domains (record { sig = reg.sig; at = 0 }))) o ≡ Some r → IsFound net domains reg r
      by_signal None at f = cc
      by_signal (Some s) at f = by_clock s (clock_of domains (record { sig = reg.sig; at = 0 })) at refl f

  -- each register of the list was found at one of the net
  pub from_among : (regs : List Reg) (r : Register) → Contains (registers_among net domains regs) r → (reg : Reg) × Contains regs reg × (register_at net domains reg ≡ Some r)
  from_among [] r i = absurd (nothing_in r i)
  from_among (reg ∷ regs) r i = go (register_at net domains reg) refl i (from_among regs r)
    where
      go : (o : Option Register) → register_at net domains reg ≡ o → Contains (in_front o (registers_among net domains regs)) r
          → (Contains (registers_among net domains regs) r → (q : Reg) × Contains regs q × (register_at net domains q ≡ Some r)) → (q : Reg) × Contains (reg ∷ regs) q × (register_at net domains q ≡ Some r)
      go None e j ih = let k = ih j in (k.0, later reg regs k.0 k.1, k.2)
      go (Some q) e j ih = elim (parts q (registers_among net domains regs) r j) [
        | inl same ↦ (reg, here reg regs, e ∙ ap Some same)
        | inr l ↦ let k = ih l in (k.0, later reg regs k.0 k.1, k.2)
      ]

  -- they ascend
  pub among_ascend : (regs : List Reg) → AreAscending regs → Ascend (registers_among net domains regs)
  among_ascend [] h = tt
  among_ascend (reg ∷ regs) h = go (register_at net domains reg) refl (among_ascend regs (λ i j q p l e f. h (suc i) (suc j) q p (omega arith) e f))
    where
      before : (q : Register) → register_at net domains reg ≡ Some q → (s : Register) → Contains (registers_among net domains regs) s → q.sig < s.sig
      before q o s i =
          let at = from_among regs s i in
          let one = (found reg q o).is.0 in
          let two = (found at.0 s at.2).is.0 in
          let less = h 0 (suc at.1.0) reg at.0 (omega arith) refl (in_slice regs at.0 at.1) in
          omega arith

      go : (o : Option Register) → register_at net domains reg ≡ o → Ascend (registers_among net domains regs) → Ascend (in_front o (registers_among net domains regs))
      go None o ih = ih
      go (Some q) o ih = (before q o, ih)

-- the cell of a listed register's next value
pub next_of : (regs : List Reg) → AreAscending regs → (reg : Reg) → Contains regs reg → next_cell regs reg.sig ≡ Some reg.next
next_of [] h reg i = absurd (nothing_in reg i)
next_of (q ∷ regs) h reg i = go (q.sig == reg.sig) refl (parts q regs reg i) (next_of regs (λ i j q p l e f. h (suc i) (suc j) q p (omega arith) e f) reg)
  where
    go : (v : Bool) → (q.sig == reg.sig) ≡ v → (q ≡ reg) ⊎ Contains regs reg → (Contains regs reg → next_cell regs reg.sig ≡ Some reg.next) → cond v (Some q.next) (next_cell regs reg.sig) ≡ Some reg.next
    go true e (inl same) ih = ap (λ (p : Reg). Some p.next) same
    go true e (inr j) ih =
        let l = h 0 (suc j.0) q reg (omega arith) refl (in_slice regs reg j) in
        let k = eqb-true q.sig reg.sig e in absurd (omega arith)
    go false e (inl same) ih = absurd (let k = eq-eqb q.sig reg.sig (ap (λ (p : Reg). p.sig) same) in let f : false ≡ true = sym e ∙ k in cc)
    go false e (inr j) ih = ih j

-- ---- registers at places

pub from_taken : (rs : List Register) (places : List ℕ) (r : Register) → Contains (taken_at rs places) r → (place : ℕ) × Contains places place × (slice_get rs place ≡ Some r)
from_taken rs [] r i = absurd (nothing_in r i)
from_taken rs (p ∷ places) r i = go (slice_get rs p) refl i (from_taken rs places r)
  where
    go : (o : Option Register) → slice_get rs p ≡ o → Contains (in_front o (taken_at rs places)) r
        → (Contains (taken_at rs places) r → (place : ℕ) × Contains places place × (slice_get rs place ≡ Some r)) → (place : ℕ) × Contains (p ∷ places) place × (slice_get rs place ≡ Some r)
    go None e j ih = let k = ih j in (k.0, later p places k.0 k.1, k.2)
    go (Some q) e j ih = elim (parts q (taken_at rs places) r j) [
      | inl same ↦ (p, here p places, e ∙ ap Some same)
      | inr l ↦ let k = ih l in (k.0, later p places k.0 k.1, k.2)
    ]

pub in_taken : (rs : List Register) (places : List ℕ) (place : ℕ) (r : Register) → Contains places place → slice_get rs place ≡ Some r → Contains (taken_at rs places) r
in_taken rs [] place r i e = absurd (nothing_in place i)
in_taken rs (p ∷ places) place r i e = go (slice_get rs p) refl (parts p places place i) (λ j. in_taken rs places place r j e)
  where
    go : (o : Option Register) → slice_get rs p ≡ o → (p ≡ place) ⊎ Contains places place → (Contains places place → Contains (taken_at rs places) r) → Contains (in_front o (taken_at rs places)) r
    go None f (inl same) ih = absurd (let g : slice_get rs place ≡ None = ap (slice_get rs) (sym same) ∙ f in cc)
    go None f (inr j) ih = ih j
    go (Some q) f (inl same) ih =
        let g : slice_get rs place ≡ Some q = ap (slice_get rs) (sym same) ∙ f in
        let k : q ≡ r = cc in subst (Contains (q ∷ taken_at rs places)) k (here q (taken_at rs places))
    go (Some q) f (inr j) ih = later q (taken_at rs places) r (ih j)

-- of two places the later has the larger signal
pub ascend_at : (rs : List Register) → Ascend rs → (i j : ℕ) (r s : Register) → i < j → slice_get rs i ≡ Some r → slice_get rs j ≡ Some s → r.sig < s.sig
ascend_at [] h i j r s l e f = cc
ascend_at (q ∷ rs) h i zero r s l e f = absurd (omega arith)
ascend_at (q ∷ rs) h zero (suc j) r s l e f =
    let same : q ≡ r = cc in
    let m = h.0 s (slice_in rs j s f) in
    let k : q.sig ≡ r.sig = ap (λ (p : Register). p.sig) same in omega arith
ascend_at (q ∷ rs) h (suc i) (suc j) r s l e f = ascend_at rs h.1 i j r s (omega arith) e f

pub taken_ascend : (rs : List Register) → Ascend rs → (places : List ℕ) → AllPairs (λ x y. x < y) places → Ascend (taken_at rs places)
taken_ascend rs h [] up = tt
taken_ascend rs h (p ∷ places) up = go (slice_get rs p) refl (taken_ascend rs h places (λ i j d l m. up (suc i) (suc j) d (omega arith) (omega arith)))
  where
    below : (q : ℕ) → Contains places q → p < q
    below q i = let m = up 0 (suc i.0) q (omega arith) (let l = i.1 in omega arith) in let e = i.2 in omega arith

    before : (q : Register) → slice_get rs p ≡ Some q → (s : Register) → Contains (taken_at rs places) s → q.sig < s.sig
    before q e s i = let at = from_taken rs places s i in ascend_at rs h p at.0 q s (below at.0 at.1) e at.2

    go : (o : Option Register) → slice_get rs p ≡ o → Ascend (taken_at rs places) → Ascend (in_front o (taken_at rs places))
    go None e ih = ih
    go (Some q) e ih = (before q e, ih)

-- ---- start values

abbrev pub bools : ℕ → ℕ → ℕ → List Bool
bools n i k = bits (bit_at n) i k

code_bit : (n i : ℕ) → bit_at (number_code n) i ≡ exclusive_or (bit_at n i) (bit_at n (suc i))
code_bit n i = ap (λ k. k == 1) (bit_at_xor n (n / 2) i ∙ ap (λ k. (int.bit_at n i + k) % 2) (sym (bit_at-suc n i))) ∙ go (int.bit_at n i) (int.bit_at n (suc i)) (bit_at-lt n i) (bit_at-lt n (suc i))
  where
    go : (a b : ℕ) → a < 2 → b < 2 → ((a + b) % 2 == 1) ≡ exclusive_or (a == 1) (b == 1)
    go zero zero l m = refl
    go zero (suc zero) l m = refl
    go (suc zero) zero l m = refl
    go (suc zero) (suc zero) l m = refl
    go zero (suc (suc b)) l m = absurd (omega arith)
    go (suc zero) (suc (suc b)) l m = absurd (omega arith)
    go (suc (suc a)) b l m = absurd (omega arith)

above : (n i : ℕ) → n < 2 ^ i → bit_at n i ≡ false
above n i l = ap (λ k. k % 2 == 1) (div-eq_of_lt l)

pub code_bools : (n i k : ℕ) → n < 2 ^ (i + k) → bools (number_code n) i k ≡ gray_code (bools n i k)
code_bools n i zero l = refl
code_bools n i (suc zero) l =
    let top : bit_at n (suc i) ≡ false = above n (suc i) (subst (λ k. n < 2 ^ k) (let e : i + 1 ≡ suc i = omega arith in e) l) in
    ap (λ x. x ∷ []) (code_bit n i ∙ ap (exclusive_or (bit_at n i)) top ∙ with_none (bit_at n i))
  where
    with_none : (b : Bool) → exclusive_or b false ≡ b
    with_none true = refl
    with_none false = refl
code_bools n i (suc (suc k)) l = ap₂ (λ x xs. x ∷ xs) (code_bit n i) (code_bools n (suc i) (suc k) (subst (λ k. n < 2 ^ k) (let e : i + suc (suc k) ≡ suc i + suc k = omega arith in e) l))

-- ---- the design of a net at such a register

all_bits : (P : Bit → Type 0) (sig i n : ℕ) → ((j : ℕ) → i ≤ j → j < i + n → P (record { sig = sig; at = j })) → AllByRecursion P (bits_from sig i n)
all_bits P sig i zero h = tt
all_bits P sig i (suc n) h = (h i (omega arith) (omega arith), all_bits P sig (suc i) n (λ j l m. h j (omega arith) (omega arith)))

module _ (net : Net) (domains : Domains) (is : IsNet net) (has : HasNextCells net) (narrow : AreStartsNarrow net) (reg : Reg) (listed : Contains net.regs reg) (r : Register) (f : IsFound net domains reg r) where
  at : slice_get net.graph.signals r.sig ≡ Some f.signal.0
  at = ap (slice_get net.graph.signals) f.is.0 ∙ f.signal.1

  pub counted : bit_count net.graph.signals r.sig ≡ r.width
  counted = ap (λ o. option_map_or (λ (s : Signal). s.width) o 0) at ∙ sym f.signal.2

  next : next_cell net.regs r.sig ≡ Some r.next
  next = ap (next_cell net.regs) f.is.0 ∙ next_of net.regs (net_ascends net is) reg listed ∙ ap Some (sym f.is.1)

  pub next_is : next_tree net r.sig ≡ tree_of net.graph r.next
  next_is = ap (tree_or_zero net.graph) next

  pub is_register_in : IsRegisterIn net.graph r
  is_register_in =
      let c = has r.sig r.next next in
      let w = f.wide in
      let n = c.1 in
      let k = counted in
      (ap (λ o. option_map_or (λ (s : Signal). s.width) o 1) at ∙ sym f.signal.2, (c.0, (omega arith), (omega arith)))

  within : (j : ℕ) → j < r.width → nat_lt j (bit_count net.graph.signals r.sig) ≡ true
  within j l = lt-ltb j (bit_count net.graph.signals r.sig) (let k = counted in omega arith)

  register_bit : (j : ℕ) → j < r.width → is_register_bit net (record { sig = r.sig; at = j }) ≡ true
  register_bit j l = ap₂ (λ u v. u && v) (ap is_some next) (within j l)

  clock_bit : (j : ℕ) → j < r.width → clock_of_bit net domains (record { sig = r.sig; at = j }) ≡ Some r.clock
  clock_bit j l =
      ap (λ v. cond v (clock_of domains (record { sig = r.sig; at = j })) None) (within j l)
      ∙ ap (λ sig. unwrap_or (slice_get domains.clock_by_sig sig) None) f.is.0 ∙ f.clock

  pub on_clock : AllByRecursion (λ b. (is_register_bit net b ≡ true) × (clock_of_bit net domains b ≡ Some r.clock)) (bits_from r.sig 0 (bit_count net.graph.signals r.sig))
  on_clock = all_bits (λ b. (is_register_bit net b ≡ true) × (clock_of_bit net domains b ≡ Some r.clock)) r.sig 0 (bit_count net.graph.signals r.sig)
      (λ j l m. let k = counted in let n : j < r.width = omega arith in (register_bit j n, clock_bit j n))

  start_bit : (j : ℕ) → j < r.width → start_of net.graph.signals (record { sig = r.sig; at = j }) ≡ Some (bit_at r.start j)
  start_bit j l =
      let s = f.signal.0 in
      let w = f.signal.2 in
      ap (option_and_then (λ (s : Signal). cond (bit_at s.known j) (Some (bit_at s.start j)) None)) at
      ∙ ap (λ v. cond v (Some (bit_at s.start j)) None) (ap (λ n. bit_at n j) f.signal.4 ∙ ap (λ k. k == 1) (bit_at_ones s.width j (omega arith)))
      ∙ ap (λ n. Some (bit_at n j)) (sym f.signal.3)

  starts_from : (i n : ℕ) → i + n ≤ r.width → map (start_of net.graph.signals) (bits_from r.sig i n) ≡ map Some (bools r.start i n)
  starts_from i zero l = refl
  starts_from i (suc n) l = ap₂ (λ x xs. x ∷ xs) (start_bit i (omega arith)) (starts_from (suc i) n (omega arith))

  pub starts : map (start_of net.graph.signals) (bits_from r.sig 0 (bit_count net.graph.signals r.sig)) ≡ map Some (bools r.start 0 (bit_count net.graph.signals r.sig))
  starts = starts_from 0 (bit_count net.graph.signals r.sig) (let k = counted in omega arith)

  pub start_narrow : r.start < 2 ^ r.width
  start_narrow =
      let n = narrow.start r.sig f.signal.0 at in
      subst (λ w. r.start < 2 ^ w) (sym f.signal.2) (subst (λ s. s < 2 ^ f.signal.0.width) (sym f.signal.3) n)

pub moved : (s : Shape) (b c w v : ℕ) (t u t' u' : Tree) → w ≡ v → t ≡ t' → u ≡ u' → HasShape s b c w (origins t 0 w) (origins u 0 w) → HasShape s b c v (origins t' 0 v) (origins u' 0 v)
moved s b c w v t u t' u' e f g h =
    subst (λ (k : ℕ). HasShape s b c k (origins t' 0 k) (origins u' 0 k)) e
    (subst (λ (x : Tree). HasShape s b c w (origins x 0 w) (origins u' 0 w)) f (subst (λ (x : Tree). HasShape s b c w (origins t 0 w) (origins x 0 w)) g h))

module _ (net : Net) (domains : Domains) (is : IsNet net) (has : HasNextCells net) (narrow : AreStartsNarrow net) where
  -- registers of the list that fit and have a shape
  pub is_gray : (count gray : Register) → Contains (registers_among net domains net.regs) count → Contains (registers_among net domains net.regs) gray → Fits count gray → (shape : Shape)
      → HasShape shape count.sig gray.sig count.width (word_of net.graph count.next count.width) (word_of net.graph gray.next count.width)
      → IsGrayReg (design_of net domains) (next_tree net) (record { count = count.sig; gray = gray.sig; shape = shape })
  is_gray count gray i j fits shape h =
      let a = from_among net domains net.regs count i in
      let b = from_among net domains net.regs gray j in
      let f = found net domains a.0 count a.2 in
      let g = found net domains b.0 gray b.2 in
      let cw = counted net domains is has narrow a.0 a.1 count f in
      let gw = counted net domains is has narrow b.0 b.1 gray g in
      let same = fits.2 in
      let wide = f.wide in
      let one = bit_count net.graph.signals count.sig in
      let two = bit_count net.graph.signals gray.sig in record {
        apart = fits.0;
        width = ((omega arith), (omega arith), (omega arith));
        one_clock = (
          count.clock,
          on_clock net domains is has narrow a.0 a.1 count f,
          subst (λ (c : ℕ). AllByRecursion (λ b. (is_register_bit net b ≡ true) × (clock_of_bit net domains b ≡ Some c)) (bits_from gray.sig 0 (bit_count net.graph.signals gray.sig))) (sym fits.1)
              (on_clock net domains is has narrow b.0 b.1 gray g),
        );
        start = (
          bools count.start 0 one,
          starts net domains is has narrow a.0 a.1 count f,
          starts net domains is has narrow b.0 b.1 gray g ∙ ap (map Some)
              (ap₂ (λ (n k : ℕ). bools n 0 k) fits.3 (gw ∙ sym same ∙ sym cw)
              ∙ code_bools count.start 0 one (subst (λ (k : ℕ). count.start < 2 ^ k) (let z : count.width ≡ 0 + one = omega arith in z) (start_narrow net domains is has narrow a.0 a.1 count f))),
        );
        shape = moved shape count.sig gray.sig count.width one (tree_of net.graph count.next) (tree_of net.graph gray.next) (next_tree net count.sig) (next_tree net gray.sig) (sym cw)
            (sym (next_is net domains is has narrow a.0 a.1 count f)) (sym (next_is net domains is has narrow b.0 b.1 gray g)) h;
      }

  pub registers_in : AreRegistersIn net.graph (registers_among net domains net.regs)
  registers_in r i =
      let a = from_among net domains net.regs r i in
      let f = found net domains a.0 r a.2 in
      let start = start_narrow net domains is has narrow a.0 a.1 r f in
      let most : 2 ^ r.width ≤ 2 ^ 64 = pow_mono f.wide.1 in
      (is_register_in net domains is has narrow a.0 a.1 r f, f.wide.0, (omega arith))
