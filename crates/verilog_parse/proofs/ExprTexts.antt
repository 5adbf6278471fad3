-- What is printed of expressions and targets that hold others.
use Rattle.std.proofs.Common.{ℕ, ◌≡◌, List, ◌++◌, map, sym, ap, ◌∙◌}
use Rattle.std.specs.Prelude.{Box}
use Rattle.std.specs.declared.alloc.Global.{Global}
use Rattle.verilog_ast.specs.declared.UnaryOp.{UnaryOp}
use Rattle.verilog_ast.specs.declared.BinaryOp.{BinaryOp}
use Rattle.verilog_ast.specs.declared.PartKind.{PartKind}
use Rattle.verilog_ast.specs.declared.Expr.{Expr}
use Rattle.verilog_ast.specs.declared.Expr.TheOpen.{Expr-F}
use Rattle.verilog_ast.specs.declared.Expr.TheFolds.{fold-roll-Expr}
use Rattle.verilog_ast.specs.declared.Expr.TheVariants.{At, Part, Unary, Binary, Choose, Join, Repeat, Paren, rolls-At, rolls-Part, rolls-Unary, rolls-Binary, rolls-Choose, rolls-Join, rolls-Repeat, rolls-Paren}
use Rattle.verilog_ast.specs.declared.Target.{Target}
use Rattle.verilog_ast.specs.declared.Target.TheOpen.{Target-F}
use Rattle.verilog_ast.specs.declared.Target.TheFolds.{fold-roll-Target}
use Rattle.verilog_ast.specs.declared.Target.TheVariants as t
use Rattle.verilog_lex.specs.declared.marks.MarkKind.{MarkKind}
use Rattle.verilog_lex.specs.declared.marks.MarkKind.TheVariants.{BracketOpen, BracketClose, BraceOpen, BraceClose, ParenOpen, ParenClose, Colon, Question}
use Rattle.verilog_reading.specs.ExprTree.{ExprTree, tree_of, expr_tree_step, TargetTree, target_tree_of, target_tree_step}
use Rattle.verilog_reading.specs.Parts.{part_mark}
use Rattle.verilog_parse.specs.Pieces.{unary_mark, binary_mark, expr_pieces, target_pieces}
use Rattle.verilog_parse.specs.Printed.{mark, ident, with_commas}
use Rattle.verilog_parse.specs.Texts.{printed_expr, printed_target}
use Rattle.verilog_parse.proofs.TextSteps.{each_of, each_target_of, map_twice}

pub at_printed : (x : Expr) (n : List ℕ) (i : Box Expr Global) (y : Expr) → x ≡ At n i → y ≡ i.value → printed_expr x ≡ ident n ++ (mark BracketOpen ++ (printed_expr y ++ mark BracketClose))
at_printed x n i y p q0 = ap printed_expr p ∙ ap printed_expr (sym (rolls-At n i)) ∙ ap expr_pieces (fold-roll-Expr ExprTree expr_tree_step (Expr-F.At n i))
    ∙ ap (λ z. ident n ++ (mark BracketOpen ++ (printed_expr z ++ mark BracketClose))) (sym q0)

pub part_printed : (x : Expr) (n : List ℕ) (kind : PartKind) (i : Box Expr Global) (j : Box Expr Global) (y : Expr) (w : Expr) (s : MarkKind) → x ≡ Part n kind i j → y ≡ i.value → w ≡ j.value → s ≡ part_mark kind
    → printed_expr x ≡ ident n ++ (mark BracketOpen ++ ((printed_expr y ++ (mark s ++ printed_expr w)) ++ mark BracketClose))
part_printed x n kind i j y w s p q0 q1 q = ap printed_expr p ∙ ap printed_expr (sym (rolls-Part n kind i j)) ∙ ap expr_pieces (fold-roll-Expr ExprTree expr_tree_step (Expr-F.Part n kind i j))
    ∙ ap (λ z. ident n ++ (mark BracketOpen ++ ((printed_expr z ++ (mark (part_mark kind) ++ printed_expr j.value)) ++ mark BracketClose))) (sym q0)
    ∙ ap (λ z. ident n ++ (mark BracketOpen ++ ((printed_expr y ++ (mark (part_mark kind) ++ printed_expr z)) ++ mark BracketClose))) (sym q1)
    ∙ ap (λ z. ident n ++ (mark BracketOpen ++ ((printed_expr y ++ (mark z ++ printed_expr w)) ++ mark BracketClose))) (sym q)

pub unary_printed : (x : Expr) (op : UnaryOp) (i : Box Expr Global) (y : Expr) (s : MarkKind) → x ≡ Unary op i → y ≡ i.value → s ≡ unary_mark op → printed_expr x ≡ mark s ++ printed_expr y
unary_printed x op i y s p q0 q = ap printed_expr p ∙ ap printed_expr (sym (rolls-Unary op i)) ∙ ap expr_pieces (fold-roll-Expr ExprTree expr_tree_step (Expr-F.Unary op i))
    ∙ ap (λ z. mark (unary_mark op) ++ printed_expr z) (sym q0) ∙ ap (λ z. mark z ++ printed_expr y) (sym q)

pub binary_printed : (x : Expr) (op : BinaryOp) (i : Box Expr Global) (j : Box Expr Global) (y : Expr) (w : Expr) (s : MarkKind) → x ≡ Binary op i j → y ≡ i.value → w ≡ j.value → s ≡ binary_mark op → printed_expr x ≡ printed_expr y ++ (mark s ++ printed_expr w)
binary_printed x op i j y w s p q0 q1 q = ap printed_expr p ∙ ap printed_expr (sym (rolls-Binary op i j)) ∙ ap expr_pieces (fold-roll-Expr ExprTree expr_tree_step (Expr-F.Binary op i j))
    ∙ ap (λ z. printed_expr z ++ (mark (binary_mark op) ++ printed_expr j.value)) (sym q0)
    ∙ ap (λ z. printed_expr y ++ (mark (binary_mark op) ++ printed_expr z)) (sym q1) ∙ ap (λ z. printed_expr y ++ (mark z ++ printed_expr w)) (sym q)

pub choice_printed : (x : Expr) (i : Box Expr Global) (j : Box Expr Global) (k : Box Expr Global) (y : Expr) (w : Expr) (v : Expr) → x ≡ Choose i j k → y ≡ i.value → w ≡ j.value → v ≡ k.value → printed_expr x ≡ printed_expr y ++ (mark Question ++ (printed_expr w ++ (mark Colon ++ printed_expr v)))
choice_printed x i j k y w v p q0 q1 q2 = ap printed_expr p ∙ ap printed_expr (sym (rolls-Choose i j k)) ∙ ap expr_pieces (fold-roll-Expr ExprTree expr_tree_step (Expr-F.Choose i j k))
    ∙ ap (λ z. printed_expr z ++ (mark Question ++ (printed_expr j.value ++ (mark Colon ++ printed_expr k.value)))) (sym q0)
    ∙ ap (λ z. printed_expr y ++ (mark Question ++ (printed_expr z ++ (mark Colon ++ printed_expr k.value)))) (sym q1)
    ∙ ap (λ z. printed_expr y ++ (mark Question ++ (printed_expr w ++ (mark Colon ++ printed_expr z)))) (sym q2)

pub paren_printed : (x : Expr) (i : Box Expr Global) (y : Expr) → x ≡ Paren i → y ≡ i.value → printed_expr x ≡ mark ParenOpen ++ (printed_expr y ++ mark ParenClose)
paren_printed x i y p q0 = ap printed_expr p ∙ ap printed_expr (sym (rolls-Paren i)) ∙ ap expr_pieces (fold-roll-Expr ExprTree expr_tree_step (Expr-F.Paren i))
    ∙ ap (λ z. mark ParenOpen ++ (printed_expr z ++ mark ParenClose)) (sym q0)

pub join_printed : (x : Expr) (es fs : List Expr) → x ≡ Join es → fs ≡ es → printed_expr x ≡ mark BraceOpen ++ (with_commas (map printed_expr fs) ++ mark BraceClose)
join_printed x es fs p q = ap printed_expr p ∙ ap printed_expr (sym (rolls-Join es)) ∙ ap expr_pieces (fold-roll-Expr ExprTree expr_tree_step (Expr-F.Join es))
    ∙ ap (λ z. mark BraceOpen ++ (with_commas z ++ mark BraceClose)) (each_of (map tree_of es) ∙ map_twice tree_of expr_pieces es)
    ∙ ap (λ z. mark BraceOpen ++ (with_commas (map printed_expr z) ++ mark BraceClose)) (sym q)

pub repeat_printed : (x : Expr) (i : Box Expr Global) (es fs : List Expr) (y : Expr) → x ≡ Repeat i es → y ≡ i.value → fs ≡ es
    → printed_expr x ≡ mark BraceOpen ++ ((printed_expr y ++ (mark BraceOpen ++ (with_commas (map printed_expr fs) ++ mark BraceClose))) ++ mark BraceClose)
repeat_printed x i es fs y p q r = ap printed_expr p ∙ ap printed_expr (sym (rolls-Repeat i es)) ∙ ap expr_pieces (fold-roll-Expr ExprTree expr_tree_step (Expr-F.Repeat i es))
    ∙ ap (λ z. mark BraceOpen ++ ((printed_expr i.value ++ (mark BraceOpen ++ (with_commas z ++ mark BraceClose))) ++ mark BraceClose)) (each_of (map tree_of es) ∙ map_twice tree_of expr_pieces es)
    ∙ ap (λ z. mark BraceOpen ++ ((printed_expr z ++ (mark BraceOpen ++ (with_commas (map printed_expr es) ++ mark BraceClose))) ++ mark BraceClose)) (sym q)
    ∙ ap (λ z. mark BraceOpen ++ ((printed_expr y ++ (mark BraceOpen ++ (with_commas (map printed_expr z) ++ mark BraceClose))) ++ mark BraceClose)) (sym r)

pub targets_printed : (x : Target) (ts us : List Target) → x ≡ t.Join ts → us ≡ ts → printed_target x ≡ mark BraceOpen ++ (with_commas (map printed_target us) ++ mark BraceClose)
targets_printed x ts us p q = ap printed_target p ∙ ap printed_target (sym (t.rolls-Join ts)) ∙ ap target_pieces (fold-roll-Target TargetTree target_tree_step (Target-F.Join ts))
    ∙ ap (λ z. mark BraceOpen ++ (with_commas z ++ mark BraceClose)) (each_target_of (map target_tree_of ts) ∙ map_twice target_tree_of target_pieces ts)
    ∙ ap (λ z. mark BraceOpen ++ (with_commas (map printed_target z) ++ mark BraceClose)) (sym q)

pub target_at_printed : (x : Target) (n : List ℕ) (i : Expr) → x ≡ t.At n i → printed_target x ≡ ident n ++ (mark BracketOpen ++ (printed_expr i ++ mark BracketClose))
target_at_printed x n i p = ap printed_target p ∙ ap printed_target (sym (t.rolls-At n i)) ∙ ap target_pieces (fold-roll-Target TargetTree target_tree_step (Target-F.At n i))

pub target_part_printed : (x : Target) (n : List ℕ) (kind : PartKind) (i j : Expr) (s : MarkKind) → x ≡ t.Part n kind i j → s ≡ part_mark kind
    → printed_target x ≡ ident n ++ (mark BracketOpen ++ ((printed_expr i ++ (mark s ++ printed_expr j)) ++ mark BracketClose))
target_part_printed x n kind i j s p q = ap printed_target p ∙ ap printed_target (sym (t.rolls-Part n kind i j)) ∙ ap target_pieces (fold-roll-Target TargetTree target_tree_step (Target-F.Part n kind i j))
    ∙ ap (λ z. ident n ++ (mark BracketOpen ++ ((printed_expr i ++ (mark z ++ printed_expr j)) ++ mark BracketClose))) (sym q)
