-- The reader's forms that a function of the parser reads by itself.
use Rattle.std.specs.Prelude.{ℕ, ◌≡◌, Bool, List, ◌∷◌, ◌++◌, Option}
use Rattle.cdc_base.specs.declared.words.Keyword.TheVariants.{If, EndCase, Begin}
use Rattle.verilog_ast.specs.declared.CaseItem.{CaseItem}
use Rattle.verilog_ast.specs.declared.Stmt.TheFolds.{fold-CaseItem}
use Rattle.verilog_lex.specs.declared.token.Token.{Token}
use Rattle.verilog_lex.specs.declared.marks.MarkKind.TheVariants.{BracketOpen, ParenOpen, ParenClose, Comma}
use Rattle.verilog_reading.specs.Lexemes.{Spot, mark_in, word_in}
use Rattle.verilog_reading.specs.ExprTree.{ExprTree, tree_of, TargetTree, whole}
use Rattle.verilog_reading.specs.StmtTree.{StmtTree, Subject as SubjectTree, subject_of, LabelTree, ArmTree, stmt_tree_step, arm_tree_step}
use Rattle.verilog_reading.specs.Outcome.{Outcome, done, then_read, next, expect, refuse, enter}
use Rattle.verilog_reading.specs.Lists.{more, many}
use Rattle.verilog_reading.specs.Reader.{closed, select}
use Rattle.verilog_reading.specs.TargetReader.{Below, aimed}
use Rattle.verilog_reading.specs.StmtReader.{Lower, in_condition, in_if, case_in, in_subject, in_case, in_block, label, arm}
use Rattle.verilog_stmts.specs.declared.make.Subject.{Subject}

-- a name as a target, or a select of it, behind the name
abbrev pub aimed_at : Option Below → List ℕ → List Token → Outcome TargetTree
aimed_at down n = enter down (mark_in BracketOpen) (λ b _ ts. then_read (select b.exprs ts) (λ s. done (aimed n s))) (done (whole n))

-- `target { , target }`
abbrev pub targets_at : Below → List Token → Outcome (List TargetTree)
targets_at b ts = then_read (b.target ts) (λ a rest. then_read (more (mark_in Comma) b.target rest) (λ bs. done (a ∷ bs)))

-- `( expr )`, whose parentheses belong to the statement around it
abbrev pub condition_at : Lower → List Token → Outcome ExprTree
condition_at l = expect (mark_in ParenOpen) (λ _ ts. then_read (l.exprs.expr ts) (λ c. closed ParenClose c))

-- what stands behind `if`, and behind `case`
abbrev pub if_at : Lower → List Token → Outcome StmtTree
if_at l = expect (mark_in ParenOpen) (in_condition l)

abbrev pub case_at : Lower → Bool → List Token → Outcome StmtTree
case_at l masks = expect (mark_in ParenOpen) (in_subject l masks)

-- a statement that begins with a word
abbrev pub compound_at : Option Lower → List Token → Outcome StmtTree
compound_at down = enter down (word_in If) in_if (enter down case_in in_case (next (word_in Begin) (λ _. in_block down) refuse))

-- the tree of what a `case` compares
abbrev pub subject_tree : Subject → SubjectTree
subject_tree s = subject_of s.masks (tree_of s.value)

-- `label { , label }`
abbrev pub labels_at : Lower → Bool → List Token → Outcome (List LabelTree)
labels_at l masks ts = then_read (label l masks ts) (λ a rest. then_read (more (mark_in Comma) (label l masks) rest) (λ bs. done (a ∷ bs)))

-- the items of a `case` behind its `default`, which are put behind those before it
pub record ArmsBehind (l : Lower) (masks : Bool) (ts : List Token) (before all : List ArmTree) (rest : List Token) : Type 0 where
  pub rows : List ArmTree
  pub spot : Spot
  pub reads : many (word_in EndCase) (arm l masks) ts ≡ done (rows, spot) rest
  pub joined : all ≡ before ++ rows

-- the tree of an item of a `case`
abbrev pub arm_tree_of : CaseItem → ArmTree
arm_tree_of = fold-CaseItem StmtTree ArmTree stmt_tree_step arm_tree_step
