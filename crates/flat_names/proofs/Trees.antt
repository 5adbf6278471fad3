-- The tree of each form of a written expression, by the trees of its parts.
use Rattle.std.proofs.Common.{◌≡◌, ℕ, List, map, Box, Global, sym, ap, ap₂, ◌∙◌}
use Rattle.cdc_base.specs.declared.size.NumberSize.{NumberSize}
use Rattle.verilog_ast.specs.declared.UnaryOp.{UnaryOp}
use Rattle.verilog_ast.specs.declared.PartKind.{PartKind}
use Rattle.verilog_ast.specs.declared.BinaryOp.{BinaryOp}
use Rattle.verilog_ast.specs.declared.Expr.{Expr}
use Rattle.verilog_ast.specs.declared.Expr.TheOpen.{Expr-F}
use Rattle.verilog_ast.specs.declared.Expr.TheFolds.{fold-roll-Expr}
use Rattle.verilog_ast.specs.declared.Expr.TheVariants as e
use Rattle.verilog_reading.specs.ExprTree.{ExprTree, number, index, part, unary, binary, choice, join, repeat, tree_of, trees_of, expr_tree_step}

pub tree-number : (x : Expr) (v w : ℕ) (size : NumberSize) → x ≡ e.Number v w size → tree_of x ≡ number v w size
tree-number x v w size p = ap tree_of p ∙ ap tree_of (sym (e.rolls-Number v w size)) ∙ fold-roll-Expr ExprTree expr_tree_step (Expr-F.Number v w size)

pub tree-index : (x : Expr) (n : List ℕ) (i : Box Expr Global) (a : Expr) → x ≡ e.At n i → a ≡ i.value → tree_of x ≡ index n (tree_of a)
tree-index x n i a p q = ap tree_of p ∙ ap tree_of (sym (e.rolls-At n i)) ∙ fold-roll-Expr ExprTree expr_tree_step (Expr-F.At n i) ∙ ap (λ z. index n (tree_of z)) (sym q)

pub tree-part : (x : Expr) (n : List ℕ) (kind : PartKind) (i j : Box Expr Global) (a b : Expr) → x ≡ e.Part n kind i j → a ≡ i.value → b ≡ j.value → tree_of x ≡ part n kind (tree_of a) (tree_of b)
tree-part x n kind i j a b p q r = ap tree_of p ∙ ap tree_of (sym (e.rolls-Part n kind i j)) ∙ fold-roll-Expr ExprTree expr_tree_step (Expr-F.Part n kind i j)
    ∙ ap₂ (λ y z. part n kind (tree_of y) (tree_of z)) (sym q) (sym r)

pub tree-unary : (x : Expr) (op : UnaryOp) (i : Box Expr Global) (a : Expr) → x ≡ e.Unary op i → a ≡ i.value → tree_of x ≡ unary op (tree_of a)
tree-unary x op i a p q = ap tree_of p ∙ ap tree_of (sym (e.rolls-Unary op i)) ∙ fold-roll-Expr ExprTree expr_tree_step (Expr-F.Unary op i) ∙ ap (λ z. unary op (tree_of z)) (sym q)

pub tree-binary : (x : Expr) (op : BinaryOp) (i j : Box Expr Global) (a b : Expr) → x ≡ e.Binary op i j → a ≡ i.value → b ≡ j.value → tree_of x ≡ binary op (tree_of a) (tree_of b)
tree-binary x op i j a b p q r = ap tree_of p ∙ ap tree_of (sym (e.rolls-Binary op i j)) ∙ fold-roll-Expr ExprTree expr_tree_step (Expr-F.Binary op i j)
    ∙ ap₂ (λ y z. binary op (tree_of y) (tree_of z)) (sym q) (sym r)

pub tree-choice : (x : Expr) (i j k : Box Expr Global) (a b c : Expr) → x ≡ e.Choose i j k → a ≡ i.value → b ≡ j.value → c ≡ k.value → tree_of x ≡ choice (tree_of a) (tree_of b) (tree_of c)
tree-choice x i j k a b c p q r s = ap tree_of p ∙ ap tree_of (sym (e.rolls-Choose i j k)) ∙ fold-roll-Expr ExprTree expr_tree_step (Expr-F.Choose i j k)
    ∙ ap (λ y. choice (tree_of y) (tree_of j.value) (tree_of k.value)) (sym q) ∙ ap₂ (λ y z. choice (tree_of a) (tree_of y) (tree_of z)) (sym r) (sym s)

pub tree-join : (x : Expr) (es fs : List Expr) → x ≡ e.Join es → fs ≡ es → tree_of x ≡ join (trees_of (map tree_of fs))
tree-join x es fs p q = ap tree_of p ∙ ap tree_of (sym (e.rolls-Join es)) ∙ fold-roll-Expr ExprTree expr_tree_step (Expr-F.Join es) ∙ ap (λ z. join (trees_of (map tree_of z))) (sym q)

pub tree-repeat : (x : Expr) (i : Box Expr Global) (es fs : List Expr) (a : Expr) → x ≡ e.Repeat i es → a ≡ i.value → fs ≡ es → tree_of x ≡ repeat (tree_of a) (trees_of (map tree_of fs))
tree-repeat x i es fs a p q r = ap tree_of p ∙ ap tree_of (sym (e.rolls-Repeat i es)) ∙ fold-roll-Expr ExprTree expr_tree_step (Expr-F.Repeat i es)
    ∙ ap₂ (λ y z. repeat (tree_of y) (trees_of (map tree_of z))) (sym q) (sym r)
