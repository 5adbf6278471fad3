-- The reader's forms that a function of the parser reads by itself.
use Rattle.std.specs.Prelude.{ℕ, List, ◌∷◌, Option}
use Rattle.verilog_lex.specs.declared.token.Token.{Token}
use Rattle.verilog_lex.specs.declared.marks.MarkKind.TheVariants.{BracketOpen, ParenOpen, BraceOpen, Comma}
use Rattle.verilog_reading.specs.Lexemes.{mark_in}
use Rattle.verilog_reading.specs.Operators.{prefix_in}
use Rattle.verilog_reading.specs.ExprTree.{ExprTree, name}
use Rattle.verilog_reading.specs.Outcome.{Outcome, done, then_read, refuse, enter}
use Rattle.verilog_reading.specs.Lists.{more}
use Rattle.verilog_reading.specs.Reader.{Readers, selected, select, in_unary, in_paren, in_braces}

-- a name, or a select of it, behind the name
abbrev pub named_at : Option Readers → List ℕ → List Token → Outcome ExprTree
named_at down n = enter down (mark_in BracketOpen) (λ r _ ts. then_read (select r ts) (λ s. done (selected n s))) (done (name n))

-- an operator before its operand, parentheses or braces
abbrev pub operand_at : Option Readers → List Token → Outcome ExprTree
operand_at down = enter down prefix_in in_unary (enter down (mark_in ParenOpen) in_paren (enter down (mark_in BraceOpen) in_braces refuse))

-- `expr { , expr }`
abbrev pub exprs_at : Readers → List Token → Outcome (List ExprTree)
exprs_at r ts = then_read (r.expr ts) (λ a rest. then_read (more (mark_in Comma) r.expr rest) (λ bs. done (a ∷ bs)))
