-- Examples: what the readers give for short lists.
use Rattle.std.proofs.Common.{◌≡◌, ℕ, true, false, List, [], ◌∷◌, Option, Some, None, refl}
use Rattle.cdc_base.specs.declared.size.NumberSize.TheVariants.{Plain}
use Rattle.cdc_base.specs.declared.words.Keyword.TheVariants as k
use Rattle.verilog_ast.specs.declared.BinaryOp.TheVariants as b
use Rattle.verilog_ast.specs.declared.UnaryOp.TheVariants as u
use Rattle.verilog_ast.specs.declared.PartKind.TheVariants.{Up, Down}
use Rattle.verilog_ast.specs.declared.Delay.TheVariants as delay
use Rattle.verilog_lex.specs.declared.token.Token.{Token}
use Rattle.verilog_lex.specs.declared.token.TokenKind.{TokenKind}
use Rattle.verilog_lex.specs.declared.token.TokenKind.TheVariants.{Word, Ident, Number, Mask, Mark, End}
use Rattle.verilog_lex.specs.declared.marks.MarkKind.TheVariants as m
use Rattle.verilog_reading.specs.Lexemes.{token_at}
use Rattle.verilog_reading.specs.ExprTree.{name, number, part, unary, binary, choice, join, repeat, and_trees, no_trees, whole}
use Rattle.verilog_reading.specs.Outcome.{done, stop}
use Rattle.verilog_reading.specs.Reader.{read_expr, readers}
use Rattle.verilog_reading.specs.TargetReader.{read_target}
use Rattle.verilog_reading.specs.StmtTree.{null, set, when, either, by_value, by_mask, subject_of, switch, arms_of}
use Rattle.verilog_reading.specs.StmtReader.{read_stmt}
use Rattle.verilog_reading.specs.ItemReader.{read_source, source}
use Rattle.verilog_reading.specs.StmtReader.{lower}
use Rattle.verilog_ast.specs.declared.DeclKind.TheVariants as kinds
use Rattle.verilog_ast.specs.declared.GateKind.TheVariants as gates
use Rattle.verilog_reading.specs.SourceTree.{Bounds, decl, assign, gate, instance, ordered, named}
use Rattle.verilog_reading.proofs.Tests.{nowhere}

abbrev t : TokenKind → Token
t x = token_at x nowhere

abbrev n : ℕ → List ℕ
n x = x ∷ []

abbrev i : ℕ → Token
i x = t (Ident (x ∷ []))

abbrev d : ℕ → Token
d x = t (Number x 32 Plain)

abbrev bounds : ℕ → ℕ → Option Bounds
bounds x y = Some (record { left = number x 32 Plain; right = number y 32 Plain })

-- a + b * c
tighter_first : read_expr 5 (i 97 ∷ (t (Mark m.Plus) ∷ (i 98 ∷ (t (Mark m.Star) ∷ (i 99 ∷ (t End ∷ []))))))
    ≡ done (binary b.Add (name (n 97)) (binary b.Mul (name (n 98)) (name (n 99)))) (t End ∷ [])
unfolding readers read_target read_stmt read_source
tighter_first = refl

-- a - b - c, with one level left: the second operator is too deep
second_is_too_deep : read_expr 1 (i 97 ∷ (t (Mark m.Minus) ∷ (i 98 ∷ (t (Mark m.Minus) ∷ (i 99 ∷ (t End ∷ []))))))
    ≡ stop true (t (Mark m.Minus) ∷ (i 99 ∷ (t End ∷ [])))
unfolding readers read_target read_stmt read_source
second_is_too_deep = refl

from_the_left : read_expr 2 (i 97 ∷ (t (Mark m.Minus) ∷ (i 98 ∷ (t (Mark m.Minus) ∷ (i 99 ∷ (t End ∷ []))))))
    ≡ done (binary b.Sub (binary b.Sub (name (n 97)) (name (n 98))) (name (n 99))) (t End ∷ [])
unfolding readers read_target read_stmt read_source
from_the_left = refl

-- a << 1 <<< 2: the two are one operator
shifts_to_the_left : read_expr 5 (i 97 ∷ (t (Mark m.ShiftLeft) ∷ (d 1 ∷ (t (Mark m.LessLessLess) ∷ (d 2 ∷ (t End ∷ []))))))
    ≡ done (binary b.Shl (binary b.Shl (name (n 97)) (number 1 32 Plain)) (number 2 32 Plain)) (t End ∷ [])
unfolding readers read_target read_stmt read_source
shifts_to_the_left = refl

-- a mask begins no expression
mask_is_none : read_expr 5 (t (Mask 0 1 4) ∷ (t End ∷ [])) ≡ stop false (t (Mask 0 1 4) ∷ (t End ∷ []))
unfolding readers read_target read_stmt read_source
mask_is_none = refl

-- -a - - b: the mark is an operator before its operand, too
minus_before : read_expr 5 (t (Mark m.Minus) ∷ (i 97 ∷ (t (Mark m.Minus) ∷ (t (Mark m.Minus) ∷ (i 98 ∷ (t End ∷ []))))))
    ≡ done (binary b.Sub (unary u.Minus (name (n 97))) (unary u.Minus (name (n 98)))) (t End ∷ [])
unfolding readers read_target read_stmt read_source
minus_before = refl

-- a[b +: 2] - c[d -: 3]
parts_by_width : read_expr 5 (i 97 ∷ (t (Mark m.BracketOpen) ∷ (i 98 ∷ (t (Mark m.PlusColon) ∷ (d 2 ∷ (t (Mark m.BracketClose) ∷ (t (Mark m.Minus) ∷
    (i 99 ∷ (t (Mark m.BracketOpen) ∷ (i 100 ∷ (t (Mark m.MinusColon) ∷ (d 3 ∷ (t (Mark m.BracketClose) ∷ (t End ∷ []))))))))))))))
    ≡ done (binary b.Sub (part (n 97) Up (name (n 98)) (number 2 32 Plain)) (part (n 99) Down (name (n 100)) (number 3 32 Plain))) (t End ∷ [])
unfolding readers read_target read_stmt read_source
parts_by_width = refl

-- ~&a | b ? {c, d} : {2{e}}
choice_of_braces : read_expr 9 (t (Mark m.TildeAmpersand) ∷ (i 97 ∷ (t (Mark m.Bar) ∷ (i 98 ∷ (t (Mark m.Question) ∷ (t (Mark m.BraceOpen) ∷ (i 99 ∷ (t (Mark m.Comma) ∷ (i 100 ∷ (t (Mark m.BraceClose) ∷ (t (Mark m.Colon) ∷
    (t (Mark m.BraceOpen) ∷ (t (Number 2 32 Plain) ∷ (t (Mark m.BraceOpen) ∷ (i 101 ∷ (t (Mark m.BraceClose) ∷ (t (Mark m.BraceClose) ∷ (t End ∷ []))))))))))))))))))
    ≡ done (choice (binary b.Or (unary u.Nand (name (n 97))) (name (n 98))) (join (and_trees (name (n 99)) (and_trees (name (n 100)) no_trees))) (repeat (number 2 32 Plain) (and_trees (name (n 101)) no_trees))) (t End ∷ [])
unfolding readers read_target read_stmt read_source
choice_of_braces = refl

-- if (a) if (b) ; else ; the else belongs to the inner one
else_of_the_nearest : read_stmt 9 (t (Word k.If) ∷ (t (Mark m.ParenOpen) ∷ (i 97 ∷ (t (Mark m.ParenClose) ∷ (t (Word k.If) ∷ (t (Mark m.ParenOpen) ∷ (i 98 ∷ (t (Mark m.ParenClose) ∷ (t (Mark m.Semicolon) ∷ (t (Word k.Else) ∷ (t (Mark m.Semicolon) ∷ (t End ∷ []))))))))))))
    ≡ done (when (name (n 97)) (either (name (n 98)) null null)) (t End ∷ [])
unfolding readers read_target read_stmt read_source
else_of_the_nearest = refl

-- in an empty block with no level left a semicolon is too deep, and another word is refused for good
block_is_too_deep : read_stmt 0 (t (Word k.Begin) ∷ (t (Mark m.Semicolon) ∷ (t (Word k.End) ∷ []))) ≡ stop true (t (Mark m.Semicolon) ∷ (t (Word k.End) ∷ []))
unfolding readers read_target read_stmt read_source
block_is_too_deep = refl

no_statement : read_stmt 0 (t (Word k.Begin) ∷ (t (Word k.Wire) ∷ [])) ≡ stop false (t (Word k.Wire) ∷ [])
unfolding readers read_target read_stmt read_source
no_statement = refl

-- a second default is refused
second_default : read_stmt 5 (t (Word k.Case) ∷ (t (Mark m.ParenOpen) ∷ (i 97 ∷ (t (Mark m.ParenClose) ∷ (t (Word k.Default) ∷ (t (Mark m.Semicolon) ∷ (t (Word k.Default) ∷ (t (Mark m.Semicolon) ∷ (t (Word k.EndCase) ∷ [])))))))))
    ≡ stop false (t (Word k.Default) ∷ (t (Mark m.Semicolon) ∷ (t (Word k.EndCase) ∷ [])))
unfolding readers read_target read_stmt read_source
second_default = refl

-- case without an item
no_item : read_stmt 5 (t (Word k.Case) ∷ (t (Mark m.ParenOpen) ∷ (i 97 ∷ (t (Mark m.ParenClose) ∷ (t (Word k.EndCase) ∷ []))))) ≡ stop false (t (Word k.EndCase) ∷ [])
unfolding readers read_target read_stmt read_source
no_item = refl

-- casez (a) 4'b1?0, b: ; endcase
mask_label : read_stmt 5 (t (Word k.CaseZ) ∷ (t (Mark m.ParenOpen) ∷ (i 97 ∷ (t (Mark m.ParenClose) ∷ (t (Mask 4 2 4) ∷ (t (Mark m.Comma) ∷ (i 98 ∷
    (t (Mark m.Colon) ∷ (t (Mark m.Semicolon) ∷ (t (Word k.EndCase) ∷ []))))))))))
    ≡ done (switch (subject_of true (name (n 97))) (arms_of (record { labels = by_mask 4 2 4 ∷ by_value (name (n 98)) ∷ []; body = null } ∷ []))) []
unfolding readers read_target read_stmt read_source
mask_label = refl

-- case (a) 4'b1?0: a mask is a label of casez alone
mask_of_case : read_stmt 5 (t (Word k.Case) ∷ (t (Mark m.ParenOpen) ∷ (i 97 ∷ (t (Mark m.ParenClose) ∷ (t (Mask 4 2 4) ∷ (t End ∷ [])))))) ≡ stop false (t (Mask 4 2 4) ∷ (t End ∷ []))
unfolding readers read_target read_stmt read_source
mask_of_case = refl

-- casez (a) (4'b1?0): and no expression
mask_in_parens : read_stmt 5 (t (Word k.CaseZ) ∷ (t (Mark m.ParenOpen) ∷ (i 97 ∷ (t (Mark m.ParenClose) ∷ (t (Mark m.ParenOpen) ∷ (t (Mask 4 2 4) ∷ (t End ∷ [])))))))
    ≡ stop false (t (Mask 4 2 4) ∷ (t End ∷ []))
unfolding readers read_target read_stmt read_source
mask_in_parens = refl

-- a <= #1 b; and a <= #(z) b; keep their delays
delay_is_kept : read_stmt 5 (i 97 ∷ (t (Mark m.LessEqual) ∷ (t (Mark m.Hash) ∷ (d 1 ∷ (i 98 ∷ (t (Mark m.Semicolon) ∷ []))))))
    ≡ done (set false (Some (delay.Number 1)) (whole (n 97)) (name (n 98))) []
unfolding readers read_target read_stmt read_source
delay_is_kept = refl

named_delay_is_kept : read_stmt 5 (i 97 ∷ (t (Mark m.LessEqual) ∷ (t (Mark m.Hash) ∷ (t (Mark m.ParenOpen) ∷ (i 122 ∷ (t (Mark m.ParenClose) ∷ (i 98 ∷ (t (Mark m.Semicolon) ∷ []))))))))
    ≡ done (set false (Some (delay.Name (n 122))) (whole (n 97)) (name (n 98))) []
unfolding readers read_target read_stmt read_source
named_delay_is_kept = refl

-- a = #1 b: a blocking assignment has none, and a <= #(1, 2) b: one value stands there
blocking_delay : read_stmt 5 (i 97 ∷ (t (Mark m.Equals) ∷ (t (Mark m.Hash) ∷ (d 1 ∷ (i 98 ∷ (t (Mark m.Semicolon) ∷ [])))))) ≡ stop false (t (Mark m.Hash) ∷ (d 1 ∷ (i 98 ∷ (t (Mark m.Semicolon) ∷ []))))
unfolding readers read_target read_stmt read_source
blocking_delay = refl

two_values : read_stmt 5 (i 97 ∷ (t (Mark m.LessEqual) ∷ (t (Mark m.Hash) ∷ (t (Mark m.ParenOpen) ∷ (d 1 ∷ (t (Mark m.Comma) ∷ (d 2 ∷ [])))))))
    ≡ stop false (t (Mark m.Comma) ∷ (d 2 ∷ []))
unfolding readers read_target read_stmt read_source
two_values = refl

-- module m(input ca
cut_header : source (lower 255) (t (Word k.Module) ∷ (i 109 ∷ (t (Mark m.ParenOpen) ∷ (t (Word k.Input) ∷ (i 99 ∷ (t End ∷ [])))))) ≡ stop false (t End ∷ [])
unfolding readers read_target read_stmt read_source
cut_header = refl

-- module m(input ca)) ;
closed_twice : source (lower 255) (t (Word k.Module) ∷ (i 109 ∷ (t (Mark m.ParenOpen) ∷ (t (Word k.Input) ∷ (i 99 ∷ (t (Mark m.ParenClose) ∷ (t (Mark m.ParenClose) ∷ (t (Mark m.Semicolon) ∷ (t End ∷ []))))))))) ≡ stop false (t (Mark m.ParenClose) ∷ (t (Mark m.Semicolon) ∷ (t End ∷ [])))
unfolding readers read_target read_stmt read_source
closed_twice = refl

no_module : source (lower 255) (t End ∷ []) ≡ done [] []
unfolding readers read_target read_stmt read_source
no_module = refl

-- module m #(parameter [1:0] A = 1, B = 2)(output reg [3:0] c, d = 1); endmodule: short entries take after the one before
short_entries : source (lower 255) (t (Word k.Module) ∷ (i 109 ∷ (t (Mark m.Hash) ∷ (t (Mark m.ParenOpen) ∷ (t (Word k.Parameter) ∷ (t (Mark m.BracketOpen) ∷ (d 1 ∷ (t (Mark m.Colon) ∷ (d 0 ∷ (t (Mark m.BracketClose) ∷ (i 65 ∷ (t (Mark m.Equals) ∷ (d 1 ∷ (t (Mark m.Comma) ∷
    (i 66 ∷ (t (Mark m.Equals) ∷ (d 2 ∷ (t (Mark m.ParenClose) ∷ (t (Mark m.ParenOpen) ∷ (t (Word k.Output) ∷ (t (Word k.Reg) ∷ (t (Mark m.BracketOpen) ∷ (d 3 ∷ (t (Mark m.Colon) ∷ (d 0 ∷ (t (Mark m.BracketClose) ∷ (i 99 ∷ (t (Mark m.Comma) ∷ (i 100 ∷ (t (Mark m.Equals) ∷ (d 1 ∷
    (t (Mark m.ParenClose) ∷ (t (Mark m.Semicolon) ∷ (t (Word k.EndModule) ∷ (t End ∷ [])))))))))))))))))))))))))))))))))))
    ≡ done (record {
      place = nowhere.place;
      name = n 109;
      ansi = true;
      params = record { local = false; range = bounds 1 0; name = n 65; value = number 1 32 Plain } ∷ record { local = false; range = bounds 1 0; name = n 66; value = number 2 32 Plain } ∷ [];
      ports = record { name = n 99; decl = Some (record { kind = kinds.OutputReg; range = bounds 3 0; name = n 99; init = None; array = None }) }
          ∷ record { name = n 100; decl = Some (record { kind = kinds.OutputReg; range = bounds 3 0; name = n 100; init = Some (number 1 32 Plain); array = None }) } ∷ [];
      items = [];
    } ∷ []) []
unfolding readers read_target read_stmt read_source
short_entries = refl

-- module m #(parameter A = 1, localparam [1:0] B = 2, C = 3); endmodule: a short entry takes the word as well
short_entry_is_local : source (lower 255) (t (Word k.Module) ∷ (i 109 ∷ (t (Mark m.Hash) ∷ (t (Mark m.ParenOpen) ∷ (t (Word k.Parameter) ∷ (i 65 ∷ (t (Mark m.Equals) ∷ (d 1 ∷ (t (Mark m.Comma) ∷ (t (Word k.LocalParam) ∷ (t (Mark m.BracketOpen) ∷ (d 1 ∷ (t (Mark m.Colon) ∷ (d 0 ∷ (t (Mark m.BracketClose) ∷ (i 66 ∷ (t (Mark m.Equals) ∷ (d 2 ∷ (t (Mark m.Comma) ∷ (i 67 ∷ (t (Mark m.Equals) ∷ (d 3 ∷ (t (Mark m.ParenClose) ∷ (t (Mark m.Semicolon) ∷ (t (Word k.EndModule) ∷ (t End ∷ []))))))))))))))))))))))))))
    ≡ done (record { place = nowhere.place; name = n 109; ansi = false; params = record { local = false; range = None; name = n 65; value = number 1 32 Plain } ∷ record { local = true; range = bounds 1 0; name = n 66; value = number 2 32 Plain } ∷ record { local = true; range = bounds 1 0; name = n 67; value = number 3 32 Plain } ∷ []; ports = []; items = [] } ∷ []) []
unfolding readers read_target read_stmt read_source
short_entry_is_local = refl

-- module m #(A = 1: the first entry is not short
first_entry_has_a_word : source (lower 255) (t (Word k.Module) ∷ (i 109 ∷ (t (Mark m.Hash) ∷ (t (Mark m.ParenOpen) ∷ (i 65 ∷ (t (Mark m.Equals) ∷ (d 1 ∷ (t (Mark m.ParenClose) ∷ (t (Mark m.Semicolon) ∷ (t (Word k.EndModule) ∷ (t End ∷ [])))))))))))
    ≡ stop false (i 65 ∷ (t (Mark m.Equals) ∷ (d 1 ∷ (t (Mark m.ParenClose) ∷ (t (Mark m.Semicolon) ∷ (t (Word k.EndModule) ∷ (t End ∷ [])))))))
unfolding readers read_target read_stmt read_source
first_entry_has_a_word = refl

-- module m; wire [1:0] #5 a; assign #z q = d; and #(1, z) (a); and #(2) g(a); endmodule
delays_leave_no_trace : source (lower 255) (t (Word k.Module) ∷ (i 109 ∷ (t (Mark m.Semicolon) ∷ (t (Word k.Wire) ∷ (t (Mark m.BracketOpen) ∷ (d 1 ∷ (t (Mark m.Colon) ∷ (d 0 ∷ (t (Mark m.BracketClose) ∷ (t (Mark m.Hash) ∷ (d 5 ∷ (i 97 ∷ (t (Mark m.Semicolon) ∷ (t (Word k.Assign) ∷ (t (Mark m.Hash) ∷ (i 122 ∷ (i 113 ∷ (t (Mark m.Equals) ∷ (i 100 ∷ (t (Mark m.Semicolon) ∷ (t (Word k.And) ∷ (t (Mark m.Hash) ∷ (t (Mark m.ParenOpen) ∷ (d 1 ∷ (t (Mark m.Comma) ∷ (i 122 ∷ (t (Mark m.ParenClose) ∷ (t (Mark m.ParenOpen) ∷ (i 97 ∷ (t (Mark m.ParenClose) ∷ (t (Mark m.Semicolon) ∷ (t (Word k.And) ∷ (t (Mark m.Hash) ∷ (t (Mark m.ParenOpen) ∷ (d 2 ∷ (t (Mark m.ParenClose) ∷ (i 103 ∷ (t (Mark m.ParenOpen) ∷ (i 97 ∷ (t (Mark m.ParenClose) ∷ (t (Mark m.Semicolon) ∷ (t (Word k.EndModule) ∷ (t End ∷ [])))))))))))))))))))))))))))))))))))))))))))
    ≡ done (record {
      place = nowhere.place;
      name = n 109;
      ansi = false;
      params = [];
      ports = [];
      items = record { place = nowhere.place; body = decl (record { kind = kinds.Wire; range = bounds 1 0; name = n 97; init = None; array = None }) } ∷ record { place = nowhere.place; body = assign (whole (n 113)) (name (n 100)) }
          ∷ record { place = nowhere.place; body = gate gates.And (name (n 97) ∷ []) } ∷ record { place = nowhere.place; body = gate gates.And (name (n 97) ∷ []) } ∷ [];
    } ∷ []) []
unfolding readers read_target read_stmt read_source
delays_leave_no_trace = refl

-- module m; assign #(1, 2, 3): a delay has two values at most
third_delay : source (lower 255) (t (Word k.Module) ∷ (i 109 ∷ (t (Mark m.Semicolon) ∷ (t (Word k.Assign) ∷ (t (Mark m.Hash) ∷ (t (Mark m.ParenOpen) ∷ (d 1 ∷ (t (Mark m.Comma) ∷ (d 2 ∷ (t (Mark m.Comma) ∷ (d 3 ∷ (t (Mark m.ParenClose) ∷ (i 113 ∷ (t (Mark m.Equals) ∷ (i 100 ∷ (t (Mark m.Semicolon) ∷ (t (Word k.EndModule) ∷ (t End ∷ []))))))))))))))))))
    ≡ stop false (t (Mark m.Comma) ∷ (d 3 ∷ (t (Mark m.ParenClose) ∷ (i 113 ∷ (t (Mark m.Equals) ∷ (i 100 ∷ (t (Mark m.Semicolon) ∷ (t (Word k.EndModule) ∷ (t End ∷ [])))))))))
unfolding readers read_target read_stmt read_source
third_delay = refl

-- module m; assign #1 #2: one delay stands there at most
second_delay_mark : source (lower 255) (t (Word k.Module) ∷ (i 109 ∷ (t (Mark m.Semicolon) ∷ (t (Word k.Assign) ∷ (t (Mark m.Hash) ∷ (d 1 ∷ (t (Mark m.Hash) ∷ (d 2 ∷ (i 113 ∷ (t (Mark m.Equals) ∷ (i 100 ∷ (t (Mark m.Semicolon) ∷ (t (Word k.EndModule) ∷ (t End ∷ []))))))))))))))
    ≡ stop false (t (Mark m.Hash) ∷ (d 2 ∷ (i 113 ∷ (t (Mark m.Equals) ∷ (i 100 ∷ (t (Mark m.Semicolon) ∷ (t (Word k.EndModule) ∷ (t End ∷ []))))))))
unfolding readers read_target read_stmt read_source
second_delay_mark = refl

-- module m; reg #1 r: only a wire has a delay
reg_without_delay : source (lower 255) (t (Word k.Module) ∷ (i 109 ∷ (t (Mark m.Semicolon) ∷ (t (Word k.Reg) ∷ (t (Mark m.Hash) ∷ (d 1 ∷ (i 114 ∷ (t (Mark m.Semicolon) ∷ (t (Word k.EndModule) ∷ (t End ∷ []))))))))))
    ≡ stop false (t (Mark m.Hash) ∷ (d 1 ∷ (i 114 ∷ (t (Mark m.Semicolon) ∷ (t (Word k.EndModule) ∷ (t End ∷ []))))))
unfolding readers read_target read_stmt read_source
reg_without_delay = refl

-- module m; and g(a, b), (c); u #(1) v(), w(.p()); endmodule: each entry is an item of its own
entries_are_items : source (lower 255) (t (Word k.Module) ∷ (i 109 ∷ (t (Mark m.Semicolon) ∷ (t (Word k.And) ∷ (i 103 ∷ (t (Mark m.ParenOpen) ∷ (i 97 ∷ (t (Mark m.Comma) ∷ (i 98 ∷ (t (Mark m.ParenClose) ∷ (t (Mark m.Comma) ∷ (t (Mark m.ParenOpen) ∷ (i 99 ∷ (t (Mark m.ParenClose) ∷ (t (Mark m.Semicolon) ∷
    (i 117 ∷ (t (Mark m.Hash) ∷ (t (Mark m.ParenOpen) ∷ (d 1 ∷ (t (Mark m.ParenClose) ∷ (i 118 ∷ (t (Mark m.ParenOpen) ∷ (t (Mark m.ParenClose) ∷ (t (Mark m.Comma) ∷ (i 119 ∷ (t (Mark m.ParenOpen) ∷ (t (Mark m.Dot) ∷ (i 112 ∷ (t (Mark m.ParenOpen) ∷ (t (Mark m.ParenClose) ∷ (t (Mark m.ParenClose) ∷ (t (Mark m.Semicolon) ∷
    (t (Word k.EndModule) ∷ (t End ∷ []))))))))))))))))))))))))))))))))))
    ≡ done (record {
      place = nowhere.place;
      name = n 109;
      ansi = false;
      params = [];
      ports = [];
      items = record { place = nowhere.place; body = gate gates.And (name (n 97) ∷ name (n 98) ∷ []) } ∷ record { place = nowhere.place; body = gate gates.And (name (n 99) ∷ []) }
          ∷ record { place = nowhere.place; body = instance (n 117) (ordered (Some (number 1 32 Plain) ∷ [])) (n 118) (ordered []) }
          ∷ record { place = nowhere.place; body = instance (n 117) (ordered (Some (number 1 32 Plain) ∷ [])) (n 119) (named (record { name = n 112; value = None } ∷ [])) } ∷ [];
    } ∷ []) []
unfolding readers read_target read_stmt read_source
entries_are_items = refl
