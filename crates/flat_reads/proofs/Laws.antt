-- The laws of what trees read.
use Rattle.std.proofs.Common.{ℕ, Bool, true, false, cond}
use Rattle.flat_meaning.specs.Flat.{Expr, Stmt, assigns}
use Rattle.flat_meaning.specs.Trees.{Trees, cut, tree}
use Rattle.flat_meaning.specs.Fits.{Fits}
use Rattle.flat_meaning.specs.Deps.{Deps, span, through_wires, wire_deps}
use Rattle.flat_meaning.specs.Law.{Readable, MayBe, MayRead, IsComb, present, wire_tree, expr_reads}
use Rattle.flat_reads.specs.Marks.{marked}
use Rattle.flat_reads.specs.Filled.{IsFilled, IsStmtFilled}
use Rattle.flat_reads.specs.Laws.{ExpressionReads, ProcessReads}
use Rattle.flat_reads.proofs.Cells.{Reads, const_reads, marked_reads, cut_reads}
use Rattle.flat_reads.proofs.Expressions.{tree_reads}
use Rattle.flat_reads.proofs.Processes.{AllRead, after_reads}

-- the tree of an expression over marked selects
pub expression_marks : (wid : ℕ → ℕ) (ok : Readable) (e : Expr) → Fits wid (MayBe ok) e → IsFilled e → (W : ℕ) → Reads (tree wid marked e W) (expr_reads wid e)
expression_marks wid ok e f h W = tree_reads wid marked (MayBe ok) (λ d. span) (λ x i j. false) marked_reads e f h W

pub expression_reads : ExpressionReads
expression_reads wid ok e f h W = (expression_marks wid ok e f h W).same

-- a process sees its own targets as they are, and all else as it is
wires_seen : (wid : ℕ → ℕ) (is_target : ℕ → Bool) (m : Deps) (ts : Trees) → AllRead m ts → (s at w : ℕ) → Reads (present wid marked is_target ts s at w) (through_wires is_target m s at w)
wires_seen wid is_target m ts a s at w = go (is_target s)
  where
    go : (u : Bool) → Reads (cond u (cut (wid s) at w (ts s)) (marked s at w)) (cond u (m s) (span s at w))
    go true = cut_reads (a s) (wid s) at w
    go false = marked_reads s at w

pub process_marks : (wid : ℕ → ℕ) (ok : Readable) (body : Stmt) → IsComb wid ok body → IsStmtFilled body → (x : ℕ) → Reads (wire_tree wid marked body x) (wire_deps wid body x)
process_marks wid ok body f h x =
    after_reads wid (MayRead wid ok (assigns body)) (through_wires (assigns body)) (present wid marked (assigns body)) (wires_seen wid (assigns body))
    body (λ x i. false) f h (λ s. const_reads (wid s) 0) x

pub process_reads : ProcessReads
process_reads wid ok body f h x = (process_marks wid ok body f h x).same
