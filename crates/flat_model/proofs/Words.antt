-- What signals as words keep.
use Rattle.std.proofs.Common.{◌≡◌, ◌∙◌, refl, sym, ap, ap₂, arith, ℕ, zero, suc, ◌+◌, ◌%◌, ◌^◌, ◌≤◌, nat_lt, Bool, true, false, cond, ◌&&◌, List, [], ◌∷◌, map, Option, Some, None, option_map, Result, Ok, slice_get}
use Rattle.std.specs.Prelude.{option_and_then}
use Rattle.std.specs.Option.{option_map_or}
use Rattle.std.proofs.lemmas.Option.{slice_get-map}
use Rattle.cdc_base.specs.declared.bit.Bit.{Bit}
use Rattle.cdc_base.specs.declared.fault.Fault.{Fault}
use Rattle.cdc_base.specs.declared.signal.SigKind.{SigKind}
use Rattle.cdc_base.specs.declared.signal.SigKind.TheVariants.{Input, Register, Wire}
use Rattle.cdc_base.specs.declared.signal.Signal.{Signal}
use Rattle.cell_graph.specs.Nets.{AreSized, bit_count, is_register, register_signals}
use Rattle.cell_graph.specs.Tree.{bit_at}
use Rattle.cell_graph.proofs.Words.{bit-mod, bit-zero}
use Rattle.clock_constraints.specs.declared.Constraints.{Constraints}
use Rattle.clock_constraints.specs.Refusals.{Text, ◌>>=◌, unless}
use Rattle.domains.specs.declared.port.Port.{Port}
use Rattle.domains.specs.declared.port.Role.{Role}
use Rattle.domains.specs.Assignment.{broken_port, port_roles}
use Rattle.domains.specs.Clocks.{Roles}
use Rattle.domains.specs.Ports.{is_input, roles, signal_ports, signal_role, signal_roles}
use Rattle.domains.specs.Tables.{named}
use Rattle.cdc_model.specs.Nets.{start_of}
use Rattle.flat_meaning.specs.Design.{kind_in}
use Rattle.elaborate.specs.Words.{as_word, known_bits, word_width}

word_wide : (w : ℕ) → 1 ≤ w → w ≤ 64 → word_width w ≡ w
word_wide w l m = omega (arith, l, m)

-- ---- one signal

module _ (ss : List Signal) (sig : ℕ) where
  of_word : {A : Type 0} (g : Signal → A) (d : A) → option_map_or g (slice_get (map as_word ss) sig) d ≡ option_map_or g (option_map as_word (slice_get ss sig)) d
  of_word g d = ap (λ o. option_map_or g o d) (slice_get-map as_word ss sig)

  pub kind_word : kind_in (map as_word ss) sig ≡ kind_in ss sig
  kind_word = of_word (λ (s : Signal). s.kind) Wire ∙ go (slice_get ss sig)
    where
      go : (o : Option Signal) → option_map_or (λ (s : Signal). s.kind) (option_map as_word o) Wire ≡ option_map_or (λ (s : Signal). s.kind) o Wire
      go None = refl
      go (Some s) = refl

  pub bits_word : AreSized ss → bit_count (map as_word ss) sig ≡ bit_count ss sig
  bits_word sized = of_word (λ (s : Signal). s.width) 0 ∙ go (slice_get ss sig) refl
    where
      go : (o : Option Signal) → slice_get ss sig ≡ o → option_map_or (λ (s : Signal). s.width) (option_map as_word o) 0 ≡ option_map_or (λ (s : Signal). s.width) o 0
      go None e = refl
      go (Some s) e = let size = sized sig s e in word_wide s.width size.0 size.1

-- ---- start values

pub cond_self : {A : Type 0} (t : Bool) (x : A) → cond t x x ≡ x
cond_self true x = refl
cond_self false x = refl

-- a word's bits with a known start are those of a register that lie in it
kept_start : (kind : SigKind) (known start w i : ℕ)
    → cond (bit_at (known_bits kind w known) i) (Some (bit_at (start % 2 ^ w) i)) None
    ≡ cond (is_register kind && nat_lt i w) (cond (bit_at known i) (Some (bit_at start i)) None) None
kept_start Register known start w i =
    ap₂ (λ t v. cond t (Some v) None) (bit-mod known w i) (bit-mod start w i) ∙ go (nat_lt i w)
  where
    go : (t : Bool) → cond (cond t (bit_at known i) false) (Some (cond t (bit_at start i) false)) None ≡ cond t (cond (bit_at known i) (Some (bit_at start i)) None) None
    go true = refl
    go false = refl
kept_start Input known start w i = ap (λ t. cond t (Some (bit_at (start % 2 ^ w) i)) None) (bit-zero i)
kept_start Wire known start w i = ap (λ t. cond t (Some (bit_at (start % 2 ^ w) i)) None) (bit-zero i)

-- the start value of a signal's bit
abbrev start_at : Bit → Signal → Option Bool
start_at b s = cond (bit_at s.known b.at) (Some (bit_at s.start b.at)) None

pub start_word : (ss : List Signal) → AreSized ss → (b : Bit)
    → start_of (map as_word ss) b ≡ cond (is_register (kind_in ss b.sig) && nat_lt b.at (bit_count ss b.sig)) (start_of ss b) None
start_word ss sized b = ap (option_and_then (start_at b)) (slice_get-map as_word ss b.sig) ∙ go (slice_get ss b.sig) refl
  where
    go : (o : Option Signal) → slice_get ss b.sig ≡ o
        → option_and_then (start_at b) (option_map as_word o) ≡ cond (is_register (kind_in ss b.sig) && nat_lt b.at (bit_count ss b.sig)) (start_of ss b) None
    go None e = sym (ap (λ o. cond (is_register (kind_in ss b.sig) && nat_lt b.at (bit_count ss b.sig)) (option_and_then (start_at b) o) None) e
        ∙ cond_self (is_register (kind_in ss b.sig) && nat_lt b.at (bit_count ss b.sig)) None)
    go (Some s) e =
        let size = sized b.sig s e in
        kept_start s.kind s.known s.start (word_width s.width) b.at
        ∙ ap (λ w. cond (is_register s.kind && nat_lt b.at w) (start_at b s) None) (word_wide s.width size.0 size.1)
        ∙ sym (ap (λ o. cond (is_register (option_map_or (λ (x : Signal). x.kind) o Wire) && nat_lt b.at (option_map_or (λ (x : Signal). x.width) o 0)) (option_and_then (start_at b) o) None) e)

-- ---- all signals

later : (s : Signal) (ss : List Signal) → AreSized (s ∷ ss) → AreSized ss
later s ss h sig t e = h (suc sig) t e

ports_word : (ss : List Signal) → AreSized ss → signal_ports (map as_word ss) ≡ signal_ports ss
ports_word [] sized = refl
ports_word (s ∷ ss) sized =
    let size = sized zero s refl in
    ap₂ (λ w (more : List (Text × Port)). (s.name, record { width = w; is_input = is_input s.kind }) ∷ more) (word_wide s.width size.0 size.1) (ports_word ss (later s ss sized))

signal_roles_word : (declared : Text → Option Role) (ss : List Signal) → signal_roles declared (map as_word ss) ≡ signal_roles declared ss
signal_roles_word declared [] = refl
signal_roles_word declared (s ∷ ss) = ap (λ (more : Result Roles Fault). signal_role declared s >>= (λ (r : Option Role). more >>= (λ (rs : Roles). Ok (r ∷ rs)))) (signal_roles_word declared ss)

pub port_roles_word : (ss : List Signal) (c : Constraints) → AreSized ss → port_roles (map as_word ss) c ≡ port_roles ss c
port_roles_word ss c sized =
    ap₂ (λ ports (rs : Result Roles Fault). unless (broken_port (named ports) (roles c) c) rs) (ports_word ss sized) (signal_roles_word (named (roles c)) ss)

pub registers_word : (k : ℕ) (ss : List Signal) → register_signals k (map as_word ss) ≡ register_signals k ss
registers_word k [] = refl
registers_word k (s ∷ ss) = ap (λ ns. cond (is_register s.kind) (k ∷ ns) ns) (registers_word (k + 1) ss)
