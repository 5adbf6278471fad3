-- Memories: the form of their bounds, their words, and writes by a variable index. Reads stand with the expressions.
use Rattle.std.specs.Prelude.{ℕ, zero, suc, ◌+◌, ◌^◌, min, max, Bool, false, cond, ◌&&◌, ◌==◌, nat_le, List, [], ◌∷◌, ◌++◌, Option, Some, None}
use Rattle.verilog_ast.specs.declared.DeclKind.{DeclKind}
use Rattle.verilog_ast.specs.declared.DeclKind.TheVariants as k
use Rattle.flat_meaning.specs.Flat.{Expr, size, Whole, Stmt, Null, Set, If, Block, Stmts, no_stmts, stmt}
use Rattle.flat_unfolding.specs.Outcome.{Text, Broken, breaks_if}
use Rattle.flat_unfolding.specs.Names.{Range, Memory, Names, is_declared, word_name}
use Rattle.flat_unfolding.specs.Expressions.{is_index}

-- how many words `[0:D-1]` or `[D-1:0]` has, D from 2 to 1,024; none of any other form
abbrev pub is_depth : ℕ → Bool
is_depth d = nat_le 2 d && nat_le d 1024

abbrev pub depth_of : Range → Option ℕ
depth_of r = let d = max r.left r.right + 1 in cond (min r.left r.right == 0) (cond (is_depth d) (Some d) None) None

-- an array of another kind than `reg` is no memory
abbrev pub words_of : DeclKind → Option Range → Option ℕ
words_of k.Reg (Some r) = depth_of r
words_of kind r = None

-- the names of the words from the n-th on
abbrev pub word_names : Text → (n more : ℕ) → List Text
word_names x n zero = []
word_names x n (suc more) = word_name x n ∷ word_names x (suc n) more

-- E304: the printed names of its words count as declared
abbrev pub taken : Names → List Text → List Broken
taken names [] = []
taken names (x ∷ rest) = breaks_if (is_declared names x) 304 x ++ taken names rest

-- `if (i == n) M[n] <= value;` for each word from n on
abbrev pub writes_from : Memory → (i value : Expr) → (n more : ℕ) → Stmts
writes_from m i value n zero = no_stmts
writes_from m i value n (suc more) = stmt (If (is_index i n) (Set false (Whole (m.first + n)) value) Null) (writes_from m i value (suc n) more)

-- an index reaches as many words as it has values
abbrev pub memory_write : Memory → (i value : Expr) → Stmt
memory_write m i value = Block (writes_from m i value 0 (2 ^ size i))
