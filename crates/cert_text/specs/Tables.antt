-- The names of signals and bits, in tables.
use Rattle.std.specs.Prelude.{◌≡◌, List}
use Rattle.cdc_base.specs.declared.signal.Signal.{Signal}
use Rattle.clock_constraints.specs.Refusals.{Text}
use Rattle.domains.specs.Tables.{found_in, named, first_signal, bit_names}
use Rattle.cert_text.specs.declared.names.Names.{Names}

-- the tables have the signals and the bits, each under its printed name
pub record HasNames (signals : List Signal) (names : Names) : Type 0 where
  pub signals_found : (q : Text) → found_in names.signals q ≡ first_signal signals q
  pub bits_found : (q : Text) → found_in names.bits q ≡ named (bit_names 0 signals) q
