-- What is printed of statements that hold others.
use Rattle.std.proofs.Common.{◌≡◌, Bool, List, ◌++◌, map, Option, Some, None, sym, ap, ◌∙◌, rules}
use Rattle.std.specs.Prelude.{Box}
use Rattle.std.specs.declared.alloc.Global.{Global}
use Rattle.cdc_base.specs.declared.words.Keyword.{Keyword}
use Rattle.cdc_base.specs.declared.words.Keyword.TheVariants as k
use Rattle.verilog_ast.specs.declared.CaseItem.{CaseItem}
use Rattle.verilog_ast.specs.declared.Delay.{Delay}
use Rattle.verilog_ast.specs.declared.Expr.{Expr}
use Rattle.verilog_ast.specs.declared.Label.{Label}
use Rattle.verilog_ast.specs.declared.Stmt.{Stmt}
use Rattle.verilog_ast.specs.declared.Stmt.TheOpen.{Stmt-F}
use Rattle.verilog_ast.specs.declared.Stmt.TheFolds.{fold-roll-Stmt, the_lemmas}
use Rattle.verilog_ast.specs.declared.Stmt.TheVariants.{If, Case, Block, rolls-If, rolls-Case, rolls-Block}
use Rattle.verilog_lex.specs.declared.marks.MarkKind.{MarkKind}
use Rattle.verilog_lex.specs.declared.marks.MarkKind.TheVariants.{Colon, Semicolon}
use Rattle.verilog_reading.specs.ExprTree.{ExprTree, tree_of, TargetTree}
use Rattle.verilog_reading.specs.StmtReading.{assign_mark, case_word}
use Rattle.verilog_reading.specs.StmtTree.{StmtTree, ArmTree, label_tree_of, stmt_tree_of, stmt_tree_step, arm_tree_step}
use Rattle.verilog_stmts.specs.Forms.{arm_tree_of}
use Rattle.verilog_parse.specs.Pieces.{expr_pieces, target_pieces, delay_pieces, set_pieces, label_pieces, stmt_pieces, opening, default_line, row_line}
use Rattle.verilog_parse.specs.Printed.{word, mark, new_line, with_commas, in_turn}
use Rattle.verilog_parse.specs.Texts.{printed_stmt, printed_row, printed_label, printed_arm, arm_pieces, printed_default}
use Rattle.verilog_parse.proofs.TextSteps.{each_row_of, each_arm_of, map_twice}

pub when_printed : (x : Stmt) (c : Expr) (y : Box Stmt Global) (o : Option (Box Stmt Global)) (w : Stmt) → x ≡ If c y o → o ≡ None → w ≡ y.value
    → printed_stmt x ≡ opening k.If (tree_of c) ++ printed_stmt w
when_printed x c y o w p q r = ap printed_stmt (p ∙ ap (λ z. If c y z) q) ∙ ap printed_stmt (sym (rolls-If c y None)) ∙ ap stmt_pieces (fold-roll-Stmt StmtTree ArmTree stmt_tree_step arm_tree_step (Stmt-F.If c y None))
    ∙ ap (λ z. opening k.If (tree_of c) ++ printed_stmt z) (sym r)

pub either_printed : (x : Stmt) (c : Expr) (y : Box Stmt Global) (o : Option (Box Stmt Global)) (z : Box Stmt Global) (w v : Stmt) → x ≡ If c y o → o ≡ Some z → w ≡ y.value → v ≡ z.value
    → printed_stmt x ≡ opening k.If (tree_of c) ++ (printed_stmt w ++ (word k.Else ++ printed_stmt v))
either_printed x c y o z w v p q r s = ap printed_stmt (p ∙ ap (λ i. If c y i) q) ∙ ap printed_stmt (sym (rolls-If c y (Some z))) ∙ ap stmt_pieces (fold-roll-Stmt StmtTree ArmTree stmt_tree_step arm_tree_step (Stmt-F.If c y (Some z)))
    ∙ ap (λ i. opening k.If (tree_of c) ++ (printed_stmt i ++ (word k.Else ++ printed_stmt z.value))) (sym r)
    ∙ ap (λ i. opening k.If (tree_of c) ++ (printed_stmt w ++ (word k.Else ++ printed_stmt i))) (sym s)

-- behind its items a `case` has a `default` or none
case_items : (m : Bool) (c : Expr) (items : List CaseItem) (d : Option (Box Stmt Global))
    → printed_stmt (Case m c items d) ≡ opening (case_word m) (tree_of c) ++ (new_line ++ (in_turn (map printed_arm items) ++ (printed_default d ++ word k.EndCase)))
case_items m c items None = ap printed_stmt (sym (rolls-Case m c items None)) ∙ ap stmt_pieces (fold-roll-Stmt StmtTree ArmTree stmt_tree_step arm_tree_step (Stmt-F.Case m c items None))
    ∙ ap (λ z. opening (case_word m) (tree_of c) ++ (new_line ++ (in_turn z ++ word k.EndCase))) (each_arm_of (map arm_tree_of items) ∙ map_twice arm_tree_of arm_pieces items)
case_items m c items (Some b) = ap printed_stmt (sym (rolls-Case m c items (Some b))) ∙ ap stmt_pieces (fold-roll-Stmt StmtTree ArmTree stmt_tree_step arm_tree_step (Stmt-F.Case m c items (Some b)))
    ∙ ap (λ z. opening (case_word m) (tree_of c) ++ (new_line ++ (in_turn z ++ (default_line (printed_stmt b.value) ++ word k.EndCase)))) (each_arm_of (map arm_tree_of items) ∙ map_twice arm_tree_of arm_pieces items)

pub case_printed : (x : Stmt) (m : Bool) (c : Expr) (items : List CaseItem) (d : Option (Box Stmt Global)) (xs : List CaseItem) (w : Keyword) → x ≡ Case m c items d → xs ≡ items → w ≡ case_word m
    → printed_stmt x ≡ opening w (tree_of c) ++ (new_line ++ (in_turn (map printed_arm xs) ++ (printed_default d ++ word k.EndCase)))
case_printed x m c items d xs w p q r = ap printed_stmt p ∙ case_items m c items d
    ∙ ap (λ z. opening (case_word m) (tree_of c) ++ (new_line ++ (in_turn (map printed_arm z) ++ (printed_default d ++ word k.EndCase)))) (sym q)
    ∙ ap (λ z. opening z (tree_of c) ++ (new_line ++ (in_turn (map printed_arm xs) ++ (printed_default d ++ word k.EndCase)))) (sym r)

pub block_printed : (x : Stmt) (ss us : List Stmt) → x ≡ Block ss → us ≡ ss → printed_stmt x ≡ word k.Begin ++ (new_line ++ (in_turn (map printed_row us) ++ word k.End))
block_printed x ss us p q = ap printed_stmt p ∙ ap printed_stmt (sym (rolls-Block ss)) ∙ ap stmt_pieces (fold-roll-Stmt StmtTree ArmTree stmt_tree_step arm_tree_step (Stmt-F.Block ss))
    ∙ ap (λ z. word k.Begin ++ (new_line ++ (in_turn z ++ word k.End))) (each_row_of (map stmt_tree_of ss) ∙ map_twice stmt_tree_of (λ s. row_line (stmt_pieces s)) ss)
    ∙ ap (λ z. word k.Begin ++ (new_line ++ (in_turn (map printed_row z) ++ word k.End))) (sym q)

pub default_printed : (d : Option (Box Stmt Global)) (b : Box Stmt Global) (w : Stmt) → d ≡ Some b → w ≡ b.value → printed_default d ≡ default_line (printed_stmt w)
default_printed d b w p q = ap printed_default p ∙ ap (λ z. default_line (printed_stmt z)) (sym q)

pub set_printed : (blocking : Bool) (d : Option Delay) (t : TargetTree) (e : ExprTree) (s : MarkKind) → s ≡ assign_mark blocking
    → set_pieces blocking d t e ≡ target_pieces t ++ (mark s ++ (delay_pieces d ++ (expr_pieces e ++ mark Semicolon)))
set_printed blocking d t e s p = ap (λ z. target_pieces t ++ (mark z ++ (delay_pieces d ++ (expr_pieces e ++ mark Semicolon)))) (sym p)

arm_is : (i : CaseItem) → arm_tree_of i ≡ record { labels = map label_tree_of i.labels; body = stmt_tree_of i.body }
arm_is i = search (rules, the_lemmas)

pub arm_printed : (i : CaseItem) (ls : List Label) → ls ≡ i.labels → printed_arm i ≡ with_commas (map printed_label ls) ++ (mark Colon ++ (printed_stmt i.body ++ new_line))
arm_printed i ls p = ap arm_pieces (arm_is i) ∙ ap (λ z. with_commas z ++ (mark Colon ++ (printed_stmt i.body ++ new_line))) (map_twice label_tree_of label_pieces i.labels)
    ∙ ap (λ z. with_commas (map printed_label z) ++ (mark Colon ++ (printed_stmt i.body ++ new_line))) (sym p)
