-- What the words of a command line ask for.
use Rattle.std.specs.Prelude.{ℕ, Bool}
use Rattle.clap.specs.Words.{Text}
use Rattle.command_line.specs.declared.Page.{Page}

-- a verdict; a run; the audit of the generated design; a certificate, or whether one holds; random runs; or a page
pub data Asked : Type 0 where
  audit : Bool → Text → Text → Asked
  replay : Text → Text → Text → Asked
  selftest : ℕ → Asked
  certify : Text → Text → Asked
  check : Text → Text → Text → Asked
  campaign : ℕ → ℕ → Text → Text → Asked
  shown : Page → Asked
