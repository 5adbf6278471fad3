-- A flat design reads no input that is a declared reset.
use Rattle.std.specs.Prelude.{◌≡◌, ℕ, Bool, true, false, not, ◌&&◌, ◌==◌, List, All, is_some, find, bytes_eq, slice_get}
use Rattle.std.specs.Option.{option_map_or}
use Rattle.cdc_base.specs.declared.signal.ResetPin.{ResetPin}
use Rattle.cdc_base.specs.declared.signal.Signal.{Signal}
use Rattle.cdc_base.specs.declared.signal.SigKind.{SigKind}
use Rattle.cdc_base.specs.declared.signal.SigKind.TheVariants.{Input, Register, Wire}
use Rattle.verilog_reading.specs.SourceTree.{ModuleTree}
use Rattle.flat_meaning.specs.Flat.{Expr, Stmt, Target}
use Rattle.flat_meaning.specs.Design.{Flat}
use Rattle.flat_unfolding.specs.Formed.{IsSourceFormed}
use Rattle.flat_unfolding.specs.Outcome.{Text, good}
use Rattle.flat_unfolding.specs.Unfolding.{unfolded}
use Rattle.reset_reads.specs.Read.{Reads, TargetReads, StmtReads}

abbrev pub is_input : SigKind → Bool
is_input Input = true
is_input Register = false
is_input Wire = false

-- an input of one bit with the printed name of a reset
abbrev pub is_reset_signal : List ResetPin → Signal → Bool
is_reset_signal pins x = is_input x.kind && ((x.width == 1) && is_some (find (λ (r : ResetPin). bytes_eq r.name x.name) pins))

abbrev pub is_reset_input : List ResetPin → Flat → ℕ → Bool
is_reset_input pins f s = option_map_or (is_reset_signal pins) (slice_get f.signals s) false

abbrev pub may_read : List ResetPin → Flat → ℕ → Bool
may_read pins f s = not (is_reset_input pins f s)

-- no expression reads a reset that comes from outside: each reads as its inactive level
pub record ReadsNoReset (pins : List ResetPin) (f : Flat) : Type 0 where
  pub assigns : All (λ (a : Target × Expr). TargetReads (may_read pins f) (may_read pins f) a.0 × Reads (may_read pins f) (may_read pins f) a.1) f.assigns
  pub combs : All (StmtReads (may_read pins f) (may_read pins f)) f.combs
  pub clocked : All (λ (p : ℕ × Stmt). StmtReads (may_read pins f) (may_read pins f) p.1) f.clocked

-- so it is of every unfolding
abbrev pub ResetsAreUnread : Type 0
ResetsAreUnread = (modules : List ModuleTree) → IsSourceFormed modules → (top : Text) (pins : List ResetPin) (named : List Text) (f : Flat)
    → unfolded modules top pins named ≡ good f → ReadsNoReset pins f
