-- What the first branch of reset form keeps, side by side with the definition's.
use Rattle.std.specs.Prelude.{◌≡◌, ℕ, true, List, [], ◌∷◌, map}
use Rattle.flat_meaning.specs.Flat.{Stmt, Stmts, stmt, assigns}
use Rattle.flat_form.specs.declared.flat.FStmt.{FStmt}
use Rattle.flat_form.specs.declared.masks.Masks.{Masks}
use Rattle.flat_form.specs.Masks.{has_signal}
use Rattle.flat_form.specs.View.{stmt_of}
use Rattle.flat_unfolding.specs.Widths.{all_true, stmt_keeps_sizes}

-- the set has the signals that the body assigns
abbrev pub AreAssigned : Stmt → Masks → Type 0
AreAssigned body m = (s : ℕ) → has_signal m s ≡ assigns body s

-- statements in front of further ones
abbrev pub in_front : List Stmt → Stmts → Stmts
in_front [] rest = rest
in_front (s ∷ ss) rest = stmt s (in_front ss rest)

-- rows that are to grow by all of these, and rows by which `left` is left
pub record Grow (left all : Stmts → Stmts) (old new : List FStmt) : Type 0 where
  pub rows : (rest : Stmts) → in_front (map stmt_of new) (left rest) ≡ in_front (map stmt_of old) (all rest)
  pub sizes : all_true (map stmt_keeps_sizes old) ≡ true → all_true (map stmt_keeps_sizes new) ≡ true

-- rows that grew by all of these
abbrev pub Grew : (all : Stmts → Stmts) → (old new : List FStmt) → Type 0
Grew all old new = Grow (λ rest. rest) all old new
