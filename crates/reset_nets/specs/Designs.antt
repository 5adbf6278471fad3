-- The design of a source whose reset nets count as resets.
use Rattle.std.specs.Prelude.{◌≡◌, List, ◌++◌, Result, Ok, Err}
use Rattle.cdc_base.specs.declared.fault.Stop.{Stop}
use Rattle.cdc_base.specs.declared.fault.Stop.TheVariants.{Refused, Memory}
use Rattle.cdc_base.specs.declared.signal.ResetPin.{ResetPin}
use Rattle.verilog_reading.specs.SourceTree.{ModuleTree}
use Rattle.flat_form.specs.declared.flat.Flat as f
use Rattle.flat_form.specs.View.{flat_of}
use Rattle.flat_meaning.specs.Design.{Flat}
use Rattle.flat_unfolding.specs.Outcome.{Text, Outcome, good, bad}
use Rattle.flat_unfolding.specs.Unfolding.{unfolded}
use Rattle.flat_design.specs.Chosen.{wires_of}
use Rattle.reset_nets.specs.Nets.{AreNetsIn}

-- all reset nets of a source beside its declared resets
abbrev pub AreResetNets : List ModuleTree → (top : Text) → (resets nets : List ResetPin) → Type 0
AreResetNets modules top resets nets = AreNetsIn resets (wires_of modules top) nets

-- the source unfolds so, with each reset net as a reset
pub record Unfolds (modules : List ModuleTree) (top : Text) (resets : List ResetPin) (named : List Text) (o : Outcome Flat) : Type 0 where
  pub nets : List ResetPin
  pub are_nets : AreResetNets modules top resets nets
  pub unfolds : unfolded modules top (resets ++ nets) named ≡ o

-- what unfolding may answer: the flat design, the refusal, or want of memory
abbrev pub IsDesign : List ModuleTree → (top : Text) → List ResetPin → (named : List Text) → Result f.Flat Stop → Type 0
IsDesign modules top resets named (Ok f) = Unfolds modules top resets named (good (flat_of f))
IsDesign modules top resets named (Err (Refused e)) = Unfolds modules top resets named (bad e)
IsDesign modules top resets named (Err Memory) = Unit {0}

-- there is one list of them
abbrev pub NetsAreOne : Type 0
NetsAreOne = (modules : List ModuleTree) (top : Text) (resets nets others : List ResetPin) → AreResetNets modules top resets nets
    → AreResetNets modules top resets others → nets ≡ others
