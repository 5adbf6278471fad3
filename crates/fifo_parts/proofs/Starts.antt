-- The bits of a signal that start at 0, one after the other.
use Rattle.std.proofs.Common.{◌≡◌, ℕ, ◌+◌, ◌-◌, ◌<◌, Bool, true, false, not, Option, Some, None, List, [], ◌∷◌, refl, sym, subst}
use Rattle.std.specs.Bool.{beq}
use Rattle.std.specs.Option.{option_eq}
use Rattle.std.specs.Prelude.{◌↔◌}
use Rattle.cdc_base.specs.declared.signal.Signal.{Signal}
use Rattle.cdc_model.specs.Design.{bits_from}
use Rattle.cdc_model.specs.Nets.{start_of}
use Rattle.cdc_model.proofs.Registers.{one_bit_more}
use Rattle.fifo_parts.specs.Sides.{AllStartAtZero}

-- the next bit comes before the bits behind it
pub next_bits : (sig at end : ℕ) → at < end → bits_from sig at (end - at) ≡ record { sig = sig; at = at } ∷ bits_from sig (at + 1) (end - (at + 1))
next_bits sig at end l = sym (one_bit_more sig at end [] l)

pub next_starts : (signals : List Signal) (sig at end : ℕ) → at < end → AllStartAtZero signals (bits_from sig at (end - at))
    ↔ ((start_of signals (record { sig = sig; at = at }) ≡ Some false) × AllStartAtZero signals (bits_from sig (at + 1) (end - (at + 1))))
next_starts signals sig at end l = (
  subst (AllStartAtZero signals) (next_bits sig at end l),
  subst (AllStartAtZero signals)
      (sym (next_bits sig at end l)),
)

pub starts_false : (o : Option Bool) → not (option_eq beq o (Some false)) ≡ false → o ≡ Some false
starts_false None e = cc
starts_false (Some true) e = cc
starts_false (Some false) e = refl

pub starts_other : (o : Option Bool) → not (option_eq beq o (Some false)) ≡ true → o ≡ Some false → ⊥
starts_other None e f = cc
starts_other (Some true) e f = cc
starts_other (Some false) e f = cc
