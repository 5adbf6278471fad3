-- A module is entered, or refused by a start value in its header.
use Rattle.std.proofs.Common.{◌≡◌, ℕ, List, [], ◌∷◌, ◌++◌, Result, Ok, Err, ap, ◌∙◌}
use Rattle.std.specs.Prelude.{Bool, true, slice_set}
use Rattle.cdc_base.specs.declared.fault.Stop.{Stop}
use Rattle.cdc_base.specs.declared.fault.Stop.TheVariants.{Refused, Memory}
use Rattle.cdc_base.specs.declared.signal.ResetPin.{ResetPin}
use Rattle.flat_unfolding.specs.Outcome.{Outcome}
use Rattle.flat_unfolding.specs.Design.{Stage}
use Rattle.flat_names.specs.declared.design.Design.{Design}
use Rattle.flat_names.specs.Designs.{Meets}
use Rattle.flat_design.specs.declared.instance.Given.{Given}
use Rattle.flat_design.specs.declared.visit.Open.{Open}
use Rattle.flat_design.specs.declared.visit.Visit.{Visit}
use Rattle.flat_design.specs.Visiting.{Table, Enters}

module _ (pins : List ResetPin) (number : ℕ) (names : Table) (given : Given) (old : Visit) (o : Outcome Stage) where
  pub enters-refused : (kept : Design) (new : Visit) (e : Stop) → Meets pins names o (Err e) kept → Enters pins number names given old o (Err e) new
  enters-refused kept new (Refused f) h = h
  enters-refused kept new Memory h = tt

  -- the module has its place on top of the stack
  pub enters-done : (new : Visit) → Meets pins names o (Ok tt) new.design → new.open.items ≡ old.open.items ++ (record { «module» = number; names = names; next = 0; given = given }) ∷ []
      → new.is_open.items ≡ slice_set old.is_open.items number true → Enters pins number names given old o (Ok tt) new
  enters-done new h e f = (h.0, h.1, h.2, e, f)

  -- what was entered doesn't depend on the design before
  pub enters-alike : (other : Visit) (r : Result (Unit {0}) Stop) (new : Visit) → other.open.items ≡ old.open.items → other.is_open.items ≡ old.is_open.items → Enters pins number names given other o r new → Enters pins number names given old o r new
  enters-alike other (Ok u) new e f h =
      (h.0, h.1, h.2, h.3 ∙ ap (λ (os : List Open). os ++ (record { «module» = number; names = names; next = 0; given = given }) ∷ []) e, h.4 ∙ ap (λ (ms : List Bool). slice_set ms number true) f)
  enters-alike other (Err (Refused f)) new e g h = h
  enters-alike other (Err Memory) new e g h = tt
