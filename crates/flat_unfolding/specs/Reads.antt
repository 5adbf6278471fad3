-- The bits that are read before they are assigned, and latches.
use Rattle.std.specs.Prelude.{ℕ, zero, suc, Bool, cond, not, ◌&&◌, ◌||◌, List, [], length, Option, Some, None}
use Rattle.cell_graph.specs.Tree.{any_below}
use Rattle.flat_meaning.specs.Flat.{Stmt, Null, Set, If, Case, Block, Items, no_items, default_item, item, Stmts, no_stmts, stmt}
use Rattle.flat_meaning.specs.Assigned.{surely, may_assign}
use Rattle.flat_meaning.specs.Deps.{Bits, none, union}
use Rattle.flat_meaning.specs.Law.{expr_reads}
use Rattle.flat_form.specs.Uses.{without, exprs_read, target_reads}
use Rattle.flat_unfolding.specs.Outcome.{Broken, breaks}
use Rattle.flat_unfolding.specs.Names.{Entry, width_at, own_at}

-- the first number from `from` on, of so many, that passes the test
abbrev pub first_from : (ℕ → Bool) → (from more : ℕ) → Option ℕ
first_from p from zero = None
first_from p from (suc more) = cond (p from) (Some from) (first_from p (suc from) more)

module _ (wid : ℕ → ℕ) where
  -- the bits that are read where they aren't assigned on the path so far; d are those done before
  abbrev mutual
    pub early : Stmt → Bits → Bits
    early Null d = none
    early (Set b t e) d = without d (union (expr_reads wid e) (target_reads wid t))
    early (If c x y) d = union (without d (expr_reads wid c)) (union (early x d) (early y d))
    early (Case e is) d = union (without d (expr_reads wid e)) (early_in is d)
    early (Block ss) d = early_all ss d

    pub early_in : Items → Bits → Bits
    early_in no_items d = none
    early_in (default_item s) d = early s d
    early_in (item ls s rest) d = union (without d (exprs_read wid ls)) (union (early s d) (early_in rest d))

    pub early_all : Stmts → Bits → Bits
    early_all no_stmts d = none
    early_all (stmt s ss) d = union (early s d) (early_all ss (surely wid s d))

  -- a bit that a process of wires may assign, and that isn't assigned on every path or is read before
  abbrev pub is_latch : Stmt → Bits
  is_latch body s i = may_assign wid body s i && (not (surely wid body none s i) || early body none s i)

-- E311 names the first such signal by its number
abbrev pub latch_of : List Entry → Option ℕ → List Broken
latch_of entries None = []
latch_of entries (Some s) = breaks 311 (own_at entries s)

abbrev pub latch_rule : List Entry → Stmt → List Broken
latch_rule entries body = latch_of entries (first_from (λ s. any_below (is_latch (width_at entries) body s) (width_at entries s)) 0 (length entries))
