-- Each Gray register is one of two registers of the list that fit each other.
use Rattle.std.proofs.Common.{◌≡◌, ◌∙◌, sym, ap, ap₂, refl, subst, inl, inr, ◌⊎◌, arith, ℕ, zero, suc, ◌+◌, ◌-◌, ◌/◌, ◌^◌, ◌<◌, ◌≤◌, ◌==◌, ◌&&◌, nat_lt, Bool, true, false, cond, List, [], ◌∷◌, map, Contains, Option, Some, None, slice_get, is_some, lt-ltb, eqb-true, eq-eqb}
use Rattle.std.specs.List.{AllByRecursion}
use Rattle.std.specs.Option.{option_and_then, option_map_or}
use Rattle.std.specs.Int as int
use Rattle.std.proofs.lemmas.Bool.{and_parts}
use Rattle.std.proofs.lemmas.Nat.{xor_lt, pow_pos}
use Rattle.std.proofs.lemmas.Nat.Bits.{bit_at_ones, bit_at-lt, same_from_bits_below}
use Rattle.std.proofs.Math.Nat.{div-le_self}
use Rattle.cdc_base.specs.declared.bit.Bit.{Bit}
use Rattle.cdc_base.specs.declared.signal.Signal.{Signal}
use Rattle.cell_graph.specs.declared.net.Net.{Net}
use Rattle.cell_graph.specs.declared.net.Reg.{Reg}
use Rattle.cell_graph.specs.Tree.{bit_at}
use Rattle.cell_graph.specs.Unfolded.{tree_of}
use Rattle.domains.specs.declared.Domains.{Domains}
use Rattle.domains.specs.Assignment.{clock_of}
use Rattle.domains.specs.Nets.{IsNet}
use Rattle.cdc_model.specs.declared.scheme.GrayReg.{GrayReg}
use Rattle.cdc_model.specs.Design.{bits_from}
use Rattle.cdc_model.specs.Gray.{gray_code}
use Rattle.cdc_model.specs.GrayShape.{IsGrayReg, HasShape}
use Rattle.cdc_model.specs.Nets.{next_cell, next_tree, HasNextCells, bit_count, is_register_bit, clock_of_bit, start_of, design_of}
use Rattle.cdc_model.proofs.Ascending.{here, later, parts, nothing_in}
use Rattle.cdc_model.proofs.Codes.{word_has}
use Rattle.cdc_model.proofs.Loads.{each_of}
use Rattle.gray_pointer.specs.declared.register.Register.{Register}
use Rattle.gray_pointer.specs.Grays.{Follows, gray_reg}
use Rattle.gray_pointer.specs.Registers.{AreStartsNarrow, register_of, register_at, in_front, registers_among, number_code, Fits}
use Rattle.gray_pointer.specs.Words.{word_of}
use Rattle.gray_pointer.proofs.Bits.{each_same}
use Rattle.gray_pointer.proofs.Registers.{IsFound, found, from_among, counted, next_is, starts, start_narrow, bools, code_bools, moved}

-- ---- start values

-- each bit of a word with start values has one
each_known : (f : Bit → Option Bool) (bs : List Bit) (vs : List Bool) → map f bs ≡ map Some vs → (b : Bit) → Contains bs b → (v : Bool) × (f b ≡ Some v)
each_known f [] vs e b i = absurd (nothing_in b i)
each_known f (a ∷ bs) [] e b i = cc
each_known f (a ∷ bs) (v ∷ vs) e b i = elim (parts a bs b i) [
  | inl same ↦ (v, ap f (sym same) ∙ (let h : f a ≡ Some v = cc in h))
  | inr j ↦ each_known f bs vs (let t : map f bs ≡ map Some vs = cc in t) b j
]

same_values : (vs us : List Bool) → map Some vs ≡ map Some us → vs ≡ us
same_values [] [] e = refl
same_values [] (u ∷ us) e = cc
same_values (v ∷ vs) [] e = cc
same_values (v ∷ vs) (u ∷ us) e = ap₂ (λ x xs. x ∷ xs) (let h : v ≡ u = cc in h) (same_values vs us (let t : map Some vs ≡ map Some us = cc in t))

one_or_zero : (x y : ℕ) → x < 2 → y < 2 → (x == 1) ≡ (y == 1) → x ≡ y
one_or_zero zero zero l m e = refl
one_or_zero (suc zero) (suc zero) l m e = refl
one_or_zero zero (suc zero) l m e = cc
one_or_zero (suc zero) zero l m e = cc
one_or_zero (suc (suc x)) y l m e = absurd (omega arith)
one_or_zero zero (suc (suc y)) l m e = absurd (omega arith)
one_or_zero (suc zero) (suc (suc y)) l m e = absurd (omega arith)

-- a number is told by its bits
bools_tell : (a b n : ℕ) → a < 2 ^ n → b < 2 ^ n → bools a 0 n ≡ bools b 0 n → a ≡ b
bools_tell a b n l m e =
    same_from_bits_below n a b l m (λ j k. one_or_zero (int.bit_at a j) (int.bit_at b j) (bit_at-lt a j) (bit_at-lt b j) (each_same (bit_at a) (bit_at b) 0 n e j (omega arith) (omega arith)))

-- ---- registers of the list

listed_reg : (regs : List Reg) (sig : ℕ) → is_some (next_cell regs sig) ≡ true → (reg : Reg) × Contains regs reg × (reg.sig ≡ sig)
listed_reg [] sig e = cc
listed_reg (q ∷ regs) sig e = go (q.sig == sig) refl e (listed_reg regs sig)
  where
    go : (v : Bool) → (q.sig == sig) ≡ v → is_some (cond v (Some q.next) (next_cell regs sig)) ≡ true → (is_some (next_cell regs sig) ≡ true → (reg : Reg) × Contains regs reg × (reg.sig ≡ sig))
        → (reg : Reg) × Contains (q ∷ regs) reg × (reg.sig ≡ sig)
    go true same h ih = (q, here q regs, eqb-true q.sig sig same)
    go false same h ih = let k = ih h in (k.0, later q regs k.0 k.1, k.2)

in_among : (net : Net) (domains : Domains) (regs : List Reg) (reg : Reg) (r : Register) → Contains regs reg → register_at net domains reg ≡ Some r → Contains (registers_among net domains regs) r
in_among net domains [] reg r i e = absurd (nothing_in reg i)
in_among net domains (q ∷ regs) reg r i e = go (register_at net domains q) refl (parts q regs reg i) (λ j. in_among net domains regs reg r j e)
  where
    go : (o : Option Register) → register_at net domains q ≡ o → (q ≡ reg) ⊎ Contains regs reg → (Contains regs reg → Contains (registers_among net domains regs) r)
        → Contains (in_front o (registers_among net domains regs)) r
    go None f (inl same) ih = absurd (let g : register_at net domains reg ≡ None = ap (register_at net domains) (sym same) ∙ f in cc)
    go None f (inr j) ih = ih j
    go (Some p) f (inl same) ih =
        let g : register_at net domains reg ≡ Some p = ap (register_at net domains) (sym same) ∙ f in
        let k : p ≡ r = cc in subst (Contains (p ∷ registers_among net domains regs)) k (here p (registers_among net domains regs))
    go (Some p) f (inr j) ih = later p (registers_among net domains regs) r (ih j)

module _ (net : Net) (domains : Domains) (narrow : AreStartsNarrow net) (sig : ℕ) where
  abbrev signals : List Signal
  signals = net.graph.signals

  abbrev wide : ℕ
  wide = bit_count signals sig

  -- the signal of this number
  pub signal_there : 1 ≤ wide → (s : Signal) × (slice_get signals sig ≡ Some s) × (s.width ≡ wide)
  signal_there l = go (slice_get signals sig) refl
    where
      go : (o : Option Signal) → slice_get signals sig ≡ o → (s : Signal) × (slice_get signals sig ≡ Some s) × (s.width ≡ wide)
      go None e = absurd (let f : wide ≡ 0 = ap (λ o. option_map_or (λ (s : Signal). s.width) o 0) e in omega arith)
      go (Some s) e = (s, e, sym (ap (λ o. option_map_or (λ (s : Signal). s.width) o 0) e))

  module _ (s : Signal) (at : slice_get signals sig ≡ Some s) (width_is : s.width ≡ wide) (two : 2 ≤ wide) (few : wide ≤ 64) (c : ℕ)
      (on : AllByRecursion (λ b. (is_register_bit net b ≡ true) × (clock_of_bit net domains b ≡ Some c)) (bits_from sig 0 wide)) (vs : List Bool)
      (known : map (start_of signals) (bits_from sig 0 wide) ≡ map Some vs) where
    abbrev lowest : Bit
    lowest = record { sig = sig; at = 0 }

    lowest_in : Contains (bits_from sig 0 wide) lowest
    lowest_in = word_has lowest 0 wide (omega arith) (omega arith)

    on_clock : (is_register_bit net lowest ≡ true) × (clock_of_bit net domains lowest ≡ Some c)
    on_clock = each_of (λ b. (is_register_bit net b ≡ true) × (clock_of_bit net domains b ≡ Some c)) (bits_from sig 0 wide) on lowest lowest_in

    reg : (reg : Reg) × Contains net.regs reg × (reg.sig ≡ sig)
    reg = listed_reg net.regs sig (and_parts (is_some (next_cell net.regs sig)) (nat_lt 0 wide) on_clock.0).0

    clock_is : clock_of domains lowest ≡ Some c
    clock_is = sym (ap (λ v. cond v (clock_of domains lowest) None) (lt-ltb 0 wide (omega arith))) ∙ on_clock.1

    -- all bits have start values
    bit_known : (j : ℕ) → j < s.width → bit_at s.known j ≡ true
    bit_known j l = go (bit_at s.known j) refl
      where
        b : Bit
        b = record { sig = sig; at = j }

        start : (v : Bool) × (start_of signals b ≡ Some v)
        start = each_known (start_of signals) (bits_from sig 0 wide) vs known b (word_has b 0 wide (omega arith) (let w = width_is in omega arith))

        go : (v : Bool) → bit_at s.known j ≡ v → v ≡ true
        go true e = refl
        go false e =
            let f : start_of signals b ≡ None =
            ap (option_and_then (λ (s : Signal). cond (bit_at s.known j) (Some (bit_at s.start j)) None)) at ∙ ap (λ v. cond v (Some (bit_at s.start j)) None) e in
            let h = start.1 in cc

    all_known : s.known ≡ 2 ^ s.width - 1
    all_known = same_from_bits_below s.width s.known (2 ^ s.width - 1) (narrow.known sig s at) (let p = pow_pos s.width in omega arith)
        (λ j l. eqb-true (int.bit_at s.known j) 1 (bit_known j l) ∙ sym (bit_at_ones s.width j l))

    -- the register of the list
    abbrev r : Register
    r = record { sig = reg.0.sig; width = s.width; clock = c; start = s.start; next = reg.0.next }

    is_listed : register_at net domains reg.0 ≡ Some r
    is_listed =
        ap (option_and_then (λ (s : Signal). option_and_then (λ clock. register_of reg.0 clock s) (clock_of domains (record { sig = reg.0.sig; at = 0 })))) (ap (slice_get signals) reg.2 ∙ at)
        ∙ ap (option_and_then (λ clock. register_of reg.0 clock s)) (ap (λ (n : ℕ). clock_of domains (record { sig = n; at = 0 })) reg.2 ∙ clock_is)
        ∙ ap (λ v. cond v (Some r) None)
        (ap₂ (λ u v. u && v) (ap₂ (λ u v. u && v) (lt-ltb 1 s.width (let w = width_is in omega arith)) (lt-ltb s.width 65 (let w = width_is in omega arith)))
        (eq-eqb s.known (2 ^ s.width - 1) all_known))

    listed : (q : Register) × Contains (registers_among net domains net.regs) q × (q.sig ≡ sig) × (q.width ≡ wide) × (q.clock ≡ c)
    listed = (r, in_among net domains net.regs reg.0 r reg.1 is_listed, reg.2, width_is, refl)

  pub in_list : 2 ≤ wide → wide ≤ 64 → (c : ℕ) → AllByRecursion (λ b. (is_register_bit net b ≡ true) × (clock_of_bit net domains b ≡ Some c)) (bits_from sig 0 wide) → (vs : List Bool)
      → map (start_of signals) (bits_from sig 0 wide) ≡ map Some vs → (q : Register) × Contains (registers_among net domains net.regs) q × (q.sig ≡ sig) × (q.width ≡ wide) × (q.clock ≡ c)
  in_list two few c on vs known = let (s, at, width_is) = signal_there (let l : 1 ≤ wide = omega arith in l) in listed s at width_is two few c on vs known

-- ---- both registers

module _ (net : Net) (domains : Domains) (is : IsNet net) (has : HasNextCells net) (narrow : AreStartsNarrow net) where
  -- what is known of a register of the list
  module _ (r : Register) (i : Contains (registers_among net domains net.regs) r) where
    reg_of : (reg : Reg) × Contains net.regs reg × (register_at net domains reg ≡ Some r)
    reg_of = from_among net domains net.regs r i

    found_of : IsFound net domains reg_of.0 r
    found_of = found net domains reg_of.0 r reg_of.2

    width_of : bit_count net.graph.signals r.sig ≡ r.width
    width_of = counted net domains is has narrow reg_of.0 reg_of.1 r found_of

    next_of : next_tree net r.sig ≡ tree_of net.graph r.next
    next_of = next_is net domains is has narrow reg_of.0 reg_of.1 r found_of

    starts_of : map (start_of net.graph.signals) (bits_from r.sig 0 (bit_count net.graph.signals r.sig)) ≡ map Some (bools r.start 0 (bit_count net.graph.signals r.sig))
    starts_of = starts net domains is has narrow reg_of.0 reg_of.1 r found_of

    narrow_of : r.start < 2 ^ r.width
    narrow_of = start_narrow net domains is has narrow reg_of.0 reg_of.1 r found_of

    -- its start values are those of its word
    values_of : (sig n : ℕ) (vs : List Bool) → r.sig ≡ sig → bit_count net.graph.signals sig ≡ n → map (start_of net.graph.signals) (bits_from sig 0 n) ≡ map Some vs → bools r.start 0 r.width ≡ vs
    values_of sig n vs same wide e =
        let w : r.width ≡ n = sym width_of ∙ ap (bit_count net.graph.signals) same ∙ wide in
        same_values (bools r.start 0 r.width) vs
        (sym (subst (λ (k : ℕ). map (start_of net.graph.signals) (bits_from r.sig 0 k) ≡ map Some (bools r.start 0 k)) width_of starts_of)
        ∙ ap₂ (λ (p k : ℕ). map (start_of net.graph.signals) (bits_from p 0 k)) same w ∙ e)

  code_narrow : (n w : ℕ) → n < 2 ^ w → number_code n < 2 ^ w
  code_narrow n w l = xor_lt w n (n / 2) l (let h = div-le_self n 2 in omega arith)

  -- the code of the counter's start is the register's start
  start_code : (c r : Register) → c.start < 2 ^ c.width → r.start < 2 ^ r.width → c.width ≡ r.width → bools r.start 0 r.width ≡ gray_code (bools c.start 0 c.width) → r.start ≡ number_code c.start
  start_code c r l m wide e = bools_tell r.start (number_code c.start) r.width m (code_narrow c.start r.width (subst (λ (w : ℕ). c.start < 2 ^ w) wide l))
      (e ∙ sym (code_bools c.start 0 c.width (subst (λ (w : ℕ). c.start < 2 ^ w) (let z : c.width ≡ 0 + c.width = omega arith in z) l)) ∙ ap (λ (w : ℕ). bools (number_code c.start) 0 w) wide)

  pub every_gray : (x : GrayReg) → IsGrayReg (design_of net domains) (next_tree net) x
      → (c r : Register) × Contains (registers_among net domains net.regs) c × Contains (registers_among net domains net.regs) r × Follows net.graph c r x.shape × (x ≡ gray_reg c r x.shape)
  every_gray x h =
      let two = h.width.0 in
      let few = h.width.1 in
      let same = h.width.2 in
      let clock = h.one_clock.0 in
      let vs = h.start.0 in
      let count = in_list net domains narrow x.count two few clock h.one_clock.1 vs h.start.1 in
      let gray = in_list net domains narrow x.gray (omega arith) (omega arith) clock h.one_clock.2 (gray_code vs) h.start.2 in
      let c = count.0 in
      let r = gray.0 in
      let wide : c.width ≡ r.width = count.3 ∙ sym same ∙ sym gray.3 in
      let cv = values_of c count.1 x.count (bit_count net.graph.signals x.count) vs count.2 refl h.start.1 in
      let rv = values_of r gray.1 x.gray (bit_count net.graph.signals x.gray) (gray_code vs) gray.2 refl h.start.2 in
      let fits : Fits c r = (
        (λ e. h.apart (sym count.2 ∙ e ∙ gray.2)),
        count.4 ∙ sym gray.4,
        wide,
        start_code c r (narrow_of c count.1) (narrow_of r gray.1) wide (rv ∙ ap gray_code (sym cv)),
      ) in
      let ct : next_tree net x.count ≡ tree_of net.graph c.next = ap (next_tree net) (sym count.2) ∙ next_of c count.1 in
      let rt : next_tree net x.gray ≡ tree_of net.graph r.next = ap (next_tree net) (sym gray.2) ∙ next_of r gray.1 in
      let shape = moved x.shape x.count x.gray (bit_count net.graph.signals x.count) c.width (next_tree net x.count) (next_tree net x.gray) (tree_of net.graph c.next) (tree_of net.graph r.next) (sym count.3) ct rt h.shape in (
        c,
        r,
        count.1,
        gray.1,
        (
          fits,
          subst (λ (n : ℕ). HasShape x.shape n r.sig c.width (word_of net.graph c.next c.width) (word_of net.graph r.next c.width)) (sym count.2)
              (subst (λ (n : ℕ). HasShape x.shape x.count n c.width (word_of net.graph c.next c.width) (word_of net.graph r.next c.width)) (sym gray.2) shape),
        ),
        ap₂ (λ (m n : ℕ). let y : GrayReg = record { count = m; gray = n; shape = x.shape } in y) (sym count.2) (sym gray.2),
      )
