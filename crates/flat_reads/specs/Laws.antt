-- What finished trees read is what the definitions of segments say.
use Rattle.std.specs.Prelude.{◌≡◌, ℕ, ◌+◌, ◌≤◌, Bool, true, false, All}
use Rattle.std.specs.List.{Contains}
use Rattle.flat_meaning.specs.Flat.{Expr, Stmt}
use Rattle.flat_meaning.specs.Trees.{tree}
use Rattle.flat_meaning.specs.Fits.{Fits}
use Rattle.flat_meaning.specs.Deps.{wire_deps}
use Rattle.flat_meaning.specs.Assigned.{is_within}
use Rattle.flat_meaning.specs.Law.{Readable, MayBe, IsComb, wire_tree, expr_reads}
use Rattle.flat_meaning.specs.Pieces.{Piece}
use Rattle.flat_meaning.specs.Design.{Flat, size_in, is_variable}
use Rattle.flat_meaning.specs.SignalTrees.{pieces_of}
use Rattle.flat_meaning.specs.Sound.{IsSound}
use Rattle.flat_meaning.specs.Segments.{made_of}
use Rattle.flat_reads.specs.Marks.{marked, marks}
use Rattle.flat_reads.specs.Filled.{IsFilled, IsStmtFilled, IsDesignFilled}

-- the tree of an expression, at each size, reads what the expression does
abbrev pub ExpressionReads : Type 0
ExpressionReads = (wid : ℕ → ℕ) (ok : Readable) (e : Expr) → Fits wid (MayBe ok) e → IsFilled e
    → (W s j : ℕ) → marks (tree wid marked e W) s j ≡ expr_reads wid e s j

-- a process's finished trees read what they are made of
abbrev pub ProcessReads : Type 0
ProcessReads = (wid : ℕ → ℕ) (ok : Readable) (body : Stmt) → IsComb wid ok body → IsStmtFilled body
    → (x s j : ℕ) → marks (wire_tree wid marked body x) s j ≡ wire_deps wid body x s j

abbrev pub has_bit : Piece → ℕ → Bool
has_bit p i = is_within p.at p.bits i

-- a piece is of some bits of its wire, and reads what their segments are made of; a bit that is in no piece is made of nothing
pub record PiecesRead (f : Flat) (x : ℕ) : Type 0 where
  pub of_wire : All (λ (p : Piece). (is_variable f x ≡ false) × (1 ≤ p.bits) × (p.at + p.bits ≤ size_in f x)) (pieces_of f marked x)
  pub each : All (λ (p : Piece). (i t j : ℕ) → has_bit p i ≡ true → marks p.tree t j ≡ made_of f x i t j) (pieces_of f marked x)
  pub some : (i t j : ℕ) → made_of f x i t j ≡ true → (p : Piece) × Contains (pieces_of f marked x) p × (has_bit p i ≡ true)

abbrev pub DesignReads : Type 0
DesignReads = (f : Flat) → IsSound f → IsDesignFilled f → (x : ℕ) → PiecesRead f x
