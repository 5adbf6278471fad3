-- The design as it grows.
use Rattle.std.specs.Prelude.{ℕ, zero, suc, false, List, [], ◌∷◌, ◌++◌, Option}
use Rattle.cdc_base.specs.declared.signal.ResetPin.{ResetPin}
use Rattle.flat_meaning.specs.Flat.{Expr, Target, Stmt}
use Rattle.flat_unfolding.specs.Outcome.{Outcome, good}
use Rattle.flat_unfolding.specs.Names.{Names, Entry, Look}

-- a start value of a whole register, by a declaration or by `initial`
pub record Start : Type 0 where
  pub sig : ℕ
  pub value : ℕ

-- the start value that a reset gives some bits of a register, the lowest of which is `at`
pub record Given : Type 0 where
  pub sig : ℕ
  pub at : ℕ
  pub bits : ℕ
  pub value : ℕ

pub record Design : Type 0 where
  -- the resets of the constraints
  pub pins : List ResetPin
  pub entries : List Entry
  pub assigns : List (Target × Expr)
  pub combs : List Stmt
  pub clocked : List (ℕ × Stmt)
  -- for each clocked process the signal of its reset's edge, and the first branch of its reset form, or nothing
  pub resets : List (Option ℕ × Stmt)
  pub outputs : List ℕ
  pub starts : List Start
  pub givens : List Given
  -- the first process, in the order of the visits, whose resets break a rule: it is refused behind all items
  pub late : Outcome (Unit {0})

abbrev pub no_design : List ResetPin → Design
no_design resets = record { pins = resets; entries = []; assigns = []; combs = []; clocked = []; resets = []; outputs = []; starts = []; givens = []; late = good (tt {0}) }

-- a module that is visited: its names, and the design so far
pub record Stage : Type 0 where
  pub names : Names
  pub design : Design

-- resets read at their inactive level
abbrev pub look_of : Stage → Look
look_of s = record { names = s.names; entries = s.design.entries; active = false }

abbrev pub with_design : Stage → Design → Stage
with_design s d = record { names = s.names; design = d }

abbrev pub assigned : Design → Target → Expr → Design
assigned d t e = record d { assigns = d.assigns ++ ((t, e) ∷ []) }

-- a signal's entry after a change
abbrev pub change_entry : (Entry → Entry) → ℕ → List Entry → List Entry
change_entry f s [] = []
change_entry f zero (e ∷ es) = f e ∷ es
change_entry f (suc s) (e ∷ es) = e ∷ change_entry f s es

-- so many entries from number s on after a change
abbrev pub change_from : (Entry → Entry) → (s more : ℕ) → List Entry → List Entry
change_from f s zero es = es
change_from f s (suc more) es = change_from f (suc s) more (change_entry f s es)
