-- One more flop of a chain, and one more channel.
use Rattle.std.proofs.Common.{◌≡◌, ◌∙◌, ℕ, ◌+◌, ◌%◌, List, [], ◌∷◌, ◌++◌, map, add-one, ap, ap₂, sym, refl}
use Rattle.verilog_ast.specs.declared.Expr.{Expr}
use Rattle.verilog_ast.specs.declared.Expr.TheOpen.{Expr-F}
use Rattle.verilog_ast.specs.declared.Expr.TheFolds.{fold-roll-Expr}
use Rattle.verilog_ast.specs.declared.Expr.TheVariants.{Ident, rolls-Ident}
use Rattle.verilog_ast.specs.declared.Stmt.{Stmt}
use Rattle.verilog_reading.specs.StmtTree.{StmtTree, stmt_tree_of}
use Rattle.verilog_reading.specs.ExprTree.{ExprTree, expr_tree_step, name, tree_of}
use Rattle.generated_design.specs.Pieces.{flop, takes}
use Rattle.generated_design.specs.Channels.{chain, channel_of, channels, shifts, stage}

pub chain_more : (letter : List ℕ) (channel place : ℕ) → chain letter channel (place + 1) ≡ chain letter channel place ++ flop letter channel (place + 1) ∷ []
chain_more letter channel place = rw add-one

pub shifts_more : (letter : List ℕ) (channel : ℕ) (source : List ℕ) (place : ℕ)
    → shifts letter channel source (place + 1) ≡ shifts letter channel source place ++ takes (flop letter channel (place + 1)) (name (stage letter channel source place)) ∷ []
shifts_more letter channel source place = rw add-one

pub stage_more : (letter : List ℕ) (channel : ℕ) (source : List ℕ) (place : ℕ) → stage letter channel source (place + 1) ≡ flop letter channel (place + 1)
stage_more letter channel source place = rw add-one

pub channels_more : (channel : ℕ) → channels (channel + 1) ≡ channels channel ++ channel_of channel (2 + channel % 3)
channels_more channel = rw add-one

ident_tree : (n : List ℕ) → tree_of (Ident n) ≡ name n
ident_tree n = ap tree_of (sym (rolls-Ident n)) ∙ fold-roll-Expr ExprTree expr_tree_step (Expr-F.Ident n)

map_push : (xs : List Stmt) (x : Stmt) → map stmt_tree_of (xs ++ x ∷ []) ≡ map stmt_tree_of xs ++ stmt_tree_of x ∷ []
map_push [] x = refl
map_push (y ∷ ys) x = ap (λ rest. stmt_tree_of y ∷ rest) (map_push ys x)

pub shifted : (letter : List ℕ) (channel : ℕ) (source : List ℕ) (place : ℕ) (steps all : List Stmt) (stmt : Stmt) (next before : List ℕ)
    → map stmt_tree_of steps ≡ shifts letter channel source place → all ≡ steps ++ stmt ∷ [] → stmt_tree_of stmt ≡ takes next (tree_of (Ident before))
    → next ≡ flop letter channel (place + 1) → before ≡ stage letter channel source place → map stmt_tree_of all ≡ shifts letter channel source (place + 1)
shifted letter channel source place steps all stmt next before copied pushed took named last =
    ap (map stmt_tree_of) pushed ∙ map_push steps stmt
    ∙ ap₂ (λ (xs : List StmtTree) (x : StmtTree). xs ++ x ∷ []) copied
    (took ∙ ap₂ (λ (n : List ℕ) (e : ExprTree). takes n e) named (ident_tree before ∙ ap name last))
    ∙ sym (shifts_more letter channel source place)
