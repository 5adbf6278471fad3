-- Look-ups by name.
use Rattle.std.proofs.Common.{◌≡◌, ◌∙◌, ℕ, zero, suc, ◌+◌, Bool, true, false, cond, List, [], ◌∷◌, ◌++◌, Option, Some, None, refl, sym, ap, ap₂}
use Rattle.std.specs.Prelude.{option_map, if◌then◌else◌}
use Rattle.std.specs.Str.{bytes_eq}
use Rattle.cdc_base.specs.declared.bit.Bit.{Bit}
use Rattle.cdc_base.specs.declared.signal.Signal.{Signal}
use Rattle.cdc_base.specs.Bits.{bit_text}
use Rattle.clock_constraints.specs.Refusals.{Text}
use Rattle.domains.specs.Tables.{or_else, named, names_of_bits, bit_names}
use Rattle.domains.proofs.Names.{named-append}
use Rattle.run_file.specs.Names.{offset_named, bit_from, bit_named}

abbrev bit_at_offset : ℕ → ℕ → Bit
bit_at_offset k at = record { sig = k; at = at }

one-more : (k n : ℕ) (o : Option ℕ) (t : Bool)
    → or_else (option_map (bit_at_offset k) o) (cond t (Some (bit_at_offset k n)) None) ≡ option_map (bit_at_offset k) (or_else o (cond t (Some n) None))
one-more k n None true = refl
one-more k n None false = refl
one-more k n (Some m) t = refl

offsets-are : (k : ℕ) (s : Signal) (n : ℕ) (q : Text) → named (names_of_bits k s n) q ≡ option_map (bit_at_offset k) (offset_named s q n)
offsets-are k s zero q = refl
offsets-are k s (suc n) q =
    named-append (names_of_bits k s n) ((bit_text s n, bit_at_offset k n) ∷ []) q
    ∙ ap (λ o. or_else o (cond (bytes_eq q (bit_text s n)) (Some (bit_at_offset k n)) None)) (offsets-are k s n q)
    ∙ one-more k n (offset_named s q n) (bytes_eq q (bit_text s n))

pub names-are : (k : ℕ) (ss : List Signal) (q : Text) → named (bit_names k ss) q ≡ bit_from k ss q
names-are k [] q = refl
names-are k (s ∷ ss) q =
    named-append (names_of_bits k s s.width) (bit_names (k + 1) ss) q
    ∙ ap₂ (λ a b. or_else a b) (offsets-are k s s.width q) (names-are (k + 1) ss q)

-- the first value under the printed name of a bit is the bit
pub bits-are : (signals : List Signal) (q : Text) → named (bit_names 0 signals) q ≡ bit_named signals q
bits-are signals q = names-are 0 signals q
