-- A net and its domains meet all that the laws ask of a design and its trees.
use Rattle.std.proofs.Common.{◌≡◌, ℕ, zero, suc, ◌<◌, ◌≤◌, ◌==◌, Bool, true, false, cond, not, Option, Some, None, is_some, option_map, unwrap_or, List, [], ◌∷◌, ◌++◌, length, Contains, slice_get, refl, sym, ap, subst, ◌∙◌, arith, eqb-true, ltb-true, lt-ltb, inl, inr}
use Rattle.std.proofs.lemmas.Bool.{and_parts, cases_eq}
use Rattle.std.proofs.lemmas.List.Elements.{Contains-append_left, Contains-append_right}
use Rattle.std.proofs.lemmas.Option.{slice_get_within, slice_get-get_or, get_or_from_slice_get, unwrap_or-slice_get}
use Rattle.std.specs.Prelude.{All, option_and_then}
use Rattle.std.specs.Option.{option_map_or}
use Rattle.cdc_base.specs.declared.bit.Bit.{Bit}
use Rattle.cdc_base.specs.declared.signal.SigKind.{SigKind}
use Rattle.cdc_base.specs.declared.signal.SigKind.TheVariants.{Input, Register, Wire}
use Rattle.cdc_base.specs.declared.signal.Signal.{Signal}
use Rattle.cell_graph.specs.declared.net.Net.{Net}
use Rattle.cell_graph.specs.declared.net.Reg.{Reg}
use Rattle.clock_constraints.specs.declared.ClockPin.{ClockPin}
use Rattle.domains.specs.declared.Domains.{Domains}
use Rattle.domains.specs.Assignment.{clock_of, group_of}
use Rattle.domains.specs.Fit.{Fit, HasClockAt, HasNoClockAt, IsClockedAs}
use Rattle.cdc_model.specs.declared.scheme.GrayReg.{GrayReg}
use Rattle.cdc_model.specs.Design.{group, bits_from}
use Rattle.cdc_model.specs.GrayShape.{AreNextTrees}
use Rattle.cdc_model.specs.Nets.{bit_count, bits_of_registers, next_cell, next_tree, is_within, is_register_bit, is_read_by_output, clock_of_bit, design_of, net_trees, FindsGrays}
use Rattle.cdc_model.specs.Recorded.{IsFinite}
use Rattle.cdc_model.specs.Schemes.{AreTrees}
use Rattle.cdc_model.proofs.Codes.{word_has}
use Rattle.cdc_model.proofs.Net.{trees_are}

pub cond_some : (t : Bool) (o : Option ℕ) (c : ℕ) → cond t o None ≡ Some c → (t ≡ true) × (o ≡ Some c)
cond_some true o c h = (refl, h)
cond_some false o c h = cc

some_some : (o : Option (Option ℕ)) (c : ℕ) → unwrap_or o None ≡ Some c → o ≡ Some (Some c)
some_some None c h = cc
some_some (Some o) c h = ap Some h

all_at : {A : Type 0} (P : A → Type 0) (xs : List A) (i : ℕ) (x : A) → All P xs → slice_get xs i ≡ Some x → P x
all_at P xs i x h e = subst P (get_or_from_slice_get xs i x x e) (h i x (slice_get_within xs i x e))

past : {A : Type 0} (xs : List A) (i : ℕ) → i < length xs → slice_get xs i ≡ None → ⊥
past [] i l e = omega arith
past (x ∷ xs) zero l e = cc
past (x ∷ xs) (suc i) l e = past xs i (omega arith) e

-- a clock that a signal has is one of the list
declared : (net : Net) (domains : Domains) → Fit net domains → (sig c : ℕ) → slice_get domains.clock_by_sig sig ≡ Some (Some c) → c < length domains.clocks
declared net domains fit sig c e = go (slice_get net.graph.signals sig) refl
  where
    clocked : HasClockAt domains sig → c < length domains.clocks
    clocked h = let same : c ≡ h.0 = one (sym e ∙ h.1) in omega (arith, h.2)
      where
        one : {m n : ℕ} → Some (Some m) ≡ Some (Some n) → m ≡ n
        one f = cc

    unclocked : HasNoClockAt domains sig → c < length domains.clocks
    unclocked h = absurd (none (sym e ∙ h))
      where
        none : Some (Some c) ≡ Some None → ⊥
        none f = cc

    by_kind : (kind : SigKind) → IsClockedAs domains sig kind → c < length domains.clocks
    by_kind Register h = clocked h
    by_kind Input (inl h) = clocked h
    by_kind Input (inr h) = unclocked h
    by_kind Wire h = unclocked h

    go : (o : Option Signal) → slice_get net.graph.signals sig ≡ o → c < length domains.clocks
    go (Some s) f = by_kind s.kind (fit.signals sig s f)
    go None f = absurd (let l = slice_get_within domains.clock_by_sig sig (Some c) e in past net.graph.signals sig (omega (arith, fit.one_per_signal, l)) f)

module _ (net : Net) (domains : Domains) where
  are_next_trees : AreNextTrees (design_of net domains) (next_tree net)
  are_next_trees = record { next = λ r x reg. refl; copied = λ x reg. refl }

  pub settles : Fit net domains → (c : ℕ) → (1 ≤ (design_of net domains).settle c) × ((design_of net domains).settle c ≤ 3)
  settles fit c = go (slice_get domains.clocks c) refl
    where
      go : (o : Option ClockPin) → slice_get domains.clocks c ≡ o → (1 ≤ option_map_or (λ (p : ClockPin). p.settle) o 1) × (option_map_or (λ (p : ClockPin). p.settle) o 1 ≤ 3)
      go None e = (omega arith, omega arith)
      go (Some p) e = all_at (λ (k : ClockPin). (1 ≤ k.settle) × (k.settle ≤ 3)) domains.clocks c p fit.settles e

  within : (b : Bit) (c : ℕ) → clock_of_bit net domains b ≡ Some c → b.at < bit_count net.graph.signals b.sig
  within b c h = ltb-true b.at (bit_count net.graph.signals b.sig) (cond_some (is_within net b) (clock_of domains b) c h).0

  pub net_trees_are : Fit net domains → (grays : GrayReg → Bool) → FindsGrays net domains grays → AreTrees (design_of net domains) (net_trees net grays)
  net_trees_are fit grays finds = trees_are (design_of net domains) (next_tree net) (is_read_by_output net) grays are_next_trees (settles fit) within (λ g h. (finds g).0 h)

  -- the same where no Gray register is looked for
  pub plain_trees_are : Fit net domains → AreTrees (design_of net domains) (net_trees net (λ g. false))
  plain_trees_are fit = trees_are (design_of net domains) (next_tree net) (is_read_by_output net) (λ g. false) are_next_trees (settles fit) within (λ g h. absurd (never h))
    where
      never : false ≡ true → ⊥
      never f = cc

-- ---- finite lists

numbers : ℕ → List ℕ
numbers zero = []
numbers (suc n) = n ∷ numbers n

in_numbers : (k n : ℕ) → k < n → Contains (numbers n) k
unfolding numbers
in_numbers k zero l = absurd (omega arith)
in_numbers k (suc n) l = elim (cases_eq n k) [
  | inl e ↦ (0, omega arith, e)
  | inr ne ↦ let h = in_numbers k n (omega (arith, ne)) in (suc h.0, omega arith, h.2)
]

pub in_bits : (signals : List Signal) (b : Bit) → b.at < bit_count signals b.sig → (rs : List Reg) → is_some (next_cell rs b.sig) ≡ true → Contains (bits_of_registers signals rs) b
in_bits signals b l [] h = cc
in_bits signals b l (r ∷ rs) h = go (r.sig == b.sig) refl h (in_bits signals b l rs)
  where
    go : (v : Bool) → (r.sig == b.sig) ≡ v → is_some (cond v (Some r.next) (next_cell rs b.sig)) ≡ true → (is_some (next_cell rs b.sig) ≡ true → Contains (bits_of_registers signals rs) b)
        → Contains (bits_from r.sig 0 (bit_count signals r.sig) ++ bits_of_registers signals rs) b
    go true e h ih = Contains-append_left (bits_from r.sig 0 (bit_count signals r.sig)) (bits_of_registers signals rs) b
        (subst (λ (sig : ℕ). Contains (bits_from sig 0 (bit_count signals sig)) b) (sym (eqb-true r.sig b.sig e)) (word_has b 0 (bit_count signals b.sig) (omega arith) (omega arith)))
    go false e h ih = Contains-append_right (bits_from r.sig 0 (bit_count signals r.sig)) (bits_of_registers signals rs) b (ih h)

is_there : (o : Option ℕ) → is_some o ≡ true → (c : ℕ) × (o ≡ Some c)
is_there None h = cc
is_there (Some c) h = (c, refl)

first_within : (net : Net) (b : Bit) → is_within net b ≡ true → is_within net (record { sig = b.sig; at = 0 }) ≡ true
first_within net b h =
    let l = ltb-true b.at (bit_count net.graph.signals b.sig) h in
    lt-ltb 0 (bit_count net.graph.signals b.sig) (omega arith)

module _ (net : Net) (domains : Domains) where
  has_clock : (b : Bit) → (design_of net domains).is_input b ≡ true → (c : ℕ) × (is_within net b ≡ true) × (clock_of domains b ≡ Some c)
  has_clock b h =
      let k = is_there (clock_of_bit net domains b) (and_parts (is_some (clock_of_bit net domains b)) (not (is_register_bit net b)) h).0 in
      let p = cond_some (is_within net b) (clock_of domains b) k.0 k.1 in
      (k.0, p.0, p.1)

  pub net_is_finite : Fit net domains → IsFinite (design_of net domains)
  net_is_finite fit = record {
    registers = (
      bits_of_registers net.graph.signals net.regs,
      λ b h. let p = and_parts (is_some (next_cell net.regs b.sig)) (is_within net b) h in
          in_bits net.graph.signals b (ltb-true b.at (bit_count net.graph.signals b.sig) p.1) net.regs p.0,
    );
    inputs = (
      numbers (length domains.clock_by_sig),
      λ b h. let k = has_clock b h in
          in_numbers b.sig (length domains.clock_by_sig) (slice_get_within domains.clock_by_sig b.sig (Some k.0) (some_some (slice_get domains.clock_by_sig b.sig) k.0 k.2)),
    );
    numbered = λ b c e. declared net domains fit b.sig c (some_some (slice_get domains.clock_by_sig b.sig) c (cond_some (is_within net b) (clock_of domains b) c e).1);
    input_clock = λ b h.
        let k = has_clock b h in
        ap (λ t. cond t (clock_of domains b) None) (first_within net b k.1 ∙ sym k.1);
  }

  -- the group of a bit is that of the domains
  pub group_is : Fit net domains → (b : Bit) → is_within net b ≡ true → group (design_of net domains) b ≡ group_of domains b
  group_is fit b h = ap (λ t. option_map (design_of net domains).group_of (cond t (clock_of domains b) None)) h ∙ go (clock_of domains b) refl
    where
      grouped : (c : ℕ) → c < length domains.clocks → Some (unwrap_or (slice_get domains.group_by_clock c) 0) ≡ slice_get domains.group_by_clock c
      grouped c l = ap Some (unwrap_or-slice_get domains.group_by_clock c 0) ∙ sym (slice_get-get_or domains.group_by_clock c 0 (omega (arith, fit.one_per_clock)))

      go : (o : Option ℕ) → clock_of domains b ≡ o → option_map (design_of net domains).group_of o ≡ option_and_then (slice_get domains.group_by_clock) o
      go None e = refl
      go (Some c) e = grouped c (declared net domains fit b.sig c (some_some (slice_get domains.clock_by_sig b.sig) c e))
