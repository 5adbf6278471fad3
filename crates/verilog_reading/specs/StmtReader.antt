-- The reader of statements, with the levels that are left below the first.
use Rattle.std.specs.Prelude.{ℕ, zero, suc, Bool, true, false, List, [], ◌∷◌, Option, Some, None, if◌then◌else◌}
use Rattle.cdc_base.specs.declared.words.Keyword.{Keyword}
use Rattle.cdc_base.specs.declared.words.Keyword.TheVariants.{If, Else, Case, CaseZ, EndCase, Default, Begin, End}
use Rattle.verilog_lex.specs.declared.token.Token.{Token}
use Rattle.verilog_lex.specs.declared.token.TokenKind.{TokenKind}
use Rattle.verilog_lex.specs.declared.token.TokenKind.TheVariants.{Word, Ident, Mark}
use Rattle.verilog_lex.specs.declared.marks.MarkKind.TheVariants.{ParenOpen, ParenClose, BraceOpen, Comma, Colon, Semicolon, Hash, Equals, LessEqual}
use Rattle.verilog_ast.specs.declared.Delay.{Delay}
use Rattle.verilog_reading.specs.Lexemes.{Spot, spot_of, word, mark_in, word_in, ident_in, mask_in, dval_in}
use Rattle.verilog_reading.specs.ExprTree.{ExprTree, TargetTree}
use Rattle.verilog_reading.specs.Outcome.{Outcome, done, then_read, next, expect, refuse, deep, enter, descend}
use Rattle.verilog_reading.specs.Lists.{more, many}
use Rattle.verilog_reading.specs.Reader.{Readers, readers, closed}
use Rattle.verilog_reading.specs.TargetReader.{read_target}
use Rattle.verilog_reading.specs.StmtTree.{StmtTree, null, set, when, either, switch, switch_else, block, no_rows, stmt_trees_of, Subject, subject_of, LabelTree, by_value, by_mask, ArmTree, arms_before, arms_of, takes_else}
use Rattle.verilog_reading.specs.StmtReading.{delay_by, case_word}

-- a target begins with it
abbrev pub target_of : TokenKind → Option (Unit {0})
target_of (Ident n) = Some tt
target_of (Mark BraceOpen) = Some tt
target_of k = None

abbrev pub target_in : Token → Option (Unit {0})
target_in t = target_of t.kind

-- a statement begins with it
abbrev pub start_of : TokenKind → Option (Unit {0})
start_of (Ident n) = Some tt
start_of (Mark BraceOpen) = Some tt
start_of (Mark Semicolon) = Some tt
start_of (Word If) = Some tt
start_of (Word Case) = Some tt
start_of (Word CaseZ) = Some tt
start_of (Word Begin) = Some tt
start_of k = None

abbrev pub start_in : Token → Option (Unit {0})
start_in t = start_of t.kind

-- what ends the items of a `case` before its `default`: that word, or `endcase`
pub record Ending : Type 0 where
  pub last : Bool
  pub spot : Spot

abbrev pub ending_word : Bool → Keyword
ending_word true = EndCase
ending_word false = Default

abbrev pub ending : Ending → Token
ending e = word (ending_word e.last) e.spot

abbrev pub ending_of : TokenKind → Spot → Option Ending
ending_of (Word EndCase) s = Some (record { last = true; spot = s })
ending_of (Word Default) s = Some (record { last = false; spot = s })
ending_of k s = None

abbrev pub ending_in : Token → Option Ending
ending_in t = ending_of t.kind (spot_of t)

-- what begins a `case`: its word tells whether masks may be among the labels
pub record CaseHead : Type 0 where
  pub masks : Bool
  pub spot : Spot

abbrev pub case_head : CaseHead → Token
case_head h = word (case_word h.masks) h.spot

abbrev pub masks_of : Keyword → Option Bool
masks_of Case = Some false
masks_of CaseZ = Some true
masks_of w = None

abbrev pub as_case : Option Bool → Spot → Option CaseHead
as_case None s = None
as_case (Some masks) s = Some (record { masks = masks; spot = s })

abbrev pub case_of : TokenKind → Spot → Option CaseHead
case_of (Word w) s = as_case (masks_of w) s
case_of k s = None

abbrev pub case_in : Token → Option CaseHead
case_in t = case_of t.kind (spot_of t)

-- the readers of the level below
pub record Lower : Type 0 where
  pub exprs : Readers
  pub target : List Token → Outcome TargetTree
  pub stmt : List Token → Outcome StmtTree

-- assignments
abbrev pub at_semicolon : Bool → TargetTree → Option Delay → ExprTree → List Token → Outcome StmtTree
at_semicolon b t d e = closed Semicolon (set b d t e)

abbrev pub in_value : Lower → TargetTree → Bool → Option Delay → List Token → Outcome StmtTree
in_value l t b d ts = then_read (l.exprs.expr ts) (at_semicolon b t d)

abbrev pub delay : List Token → Outcome Delay
delay = expect dval_in (λ d. done (delay_by d))

abbrev pub later_end : Delay → List Token → Outcome (Option Delay)
later_end d = closed ParenClose (Some d)

abbrev pub in_later : Spot → List Token → Outcome (Option Delay)
in_later _ = next (mark_in ParenOpen) (λ _ ts. then_read (delay ts) later_end) (λ ts. then_read (delay ts) (λ d. done (Some d)))

abbrev pub later : List Token → Outcome (Option Delay)
later = next (mark_in Hash) in_later (done None)

abbrev pub behind_arrow : Lower → TargetTree → Spot → List Token → Outcome StmtTree
behind_arrow l t _ ts = then_read (later ts) (in_value l t false)

abbrev pub at_assignment : Lower → TargetTree → List Token → Outcome StmtTree
at_assignment l t = next (mark_in Equals) (λ _. in_value l t true None) (expect (mark_in LessEqual) (behind_arrow l t))

abbrev pub in_set : Lower → List Token → Outcome StmtTree
in_set l ts = then_read (l.target ts) (at_assignment l)

-- `if`
abbrev pub in_else : Lower → ExprTree → StmtTree → Spot → List Token → Outcome StmtTree
in_else l c s _ ts = then_read (l.stmt ts) (λ z. done (either c s z))

abbrev pub at_else : Lower → ExprTree → StmtTree → List Token → Outcome StmtTree
at_else l c s = if takes_else s then done (when c s) else next (word_in Else) (in_else l c s) (done (when c s))

abbrev pub in_branch : Lower → ExprTree → Spot → List Token → Outcome StmtTree
in_branch l c _ ts = then_read (l.stmt ts) (at_else l c)

abbrev pub at_condition : Lower → ExprTree → List Token → Outcome StmtTree
at_condition l c = expect (mark_in ParenClose) (in_branch l c)

abbrev pub in_condition : Lower → Spot → List Token → Outcome StmtTree
in_condition l _ ts = then_read (l.exprs.expr ts) (at_condition l)

abbrev pub in_if : Lower → Spot → List Token → Outcome StmtTree
in_if l _ = expect (mark_in ParenOpen) (in_condition l)

-- items of a `case`
abbrev pub value_label : Lower → List Token → Outcome LabelTree
value_label l ts = then_read (l.exprs.expr ts) (λ e. done (by_value e))

abbrev pub label : Lower → Bool → List Token → Outcome LabelTree
label l masks = if masks then next mask_in (λ n. done (by_mask n.value n.opened n.width)) (value_label l) else value_label l

abbrev pub arm_end : List LabelTree → StmtTree → List Token → Outcome ArmTree
arm_end labels s = done (record { labels = labels; body = s })

abbrev pub in_arm : Lower → List LabelTree → Spot → List Token → Outcome ArmTree
in_arm l labels _ ts = then_read (l.stmt ts) (arm_end labels)

abbrev pub at_label : Lower → LabelTree → List LabelTree → List Token → Outcome ArmTree
at_label l a bs = expect (mark_in Colon) (in_arm l (a ∷ bs))

abbrev pub more_labels : Lower → Bool → LabelTree → List Token → Outcome ArmTree
more_labels l masks a ts = then_read (more (mark_in Comma) (label l masks) ts) (at_label l a)

abbrev pub arm : Lower → Bool → List Token → Outcome ArmTree
arm l masks ts = then_read (label l masks ts) (more_labels l masks)

abbrev pub case_end : Subject → List ArmTree → StmtTree → List ArmTree × Spot → List Token → Outcome StmtTree
case_end c before d rows = done (switch_else c (arms_before before (arms_of rows.0)) d)

abbrev pub behind_default : Lower → Subject → List ArmTree → StmtTree → List Token → Outcome StmtTree
behind_default l c before d ts = then_read (many (word_in EndCase) (arm l c.masks) ts) (case_end c before d)

abbrev pub default_body : Lower → Subject → List ArmTree → List Token → Outcome StmtTree
default_body l c before ts = then_read (l.stmt ts) (behind_default l c before)

abbrev pub in_default : Lower → Subject → List ArmTree → List Token → Outcome StmtTree
in_default l c before = next (mark_in Colon) (λ _. default_body l c before) (default_body l c before)

abbrev pub at_ending : Lower → Subject → ArmTree → List ArmTree × Ending → List Token → Outcome StmtTree
at_ending l c a rows = if rows.1.last then done (switch c (arms_of (a ∷ rows.0))) else in_default l c (a ∷ rows.0)

abbrev pub more_items : Lower → Subject → ArmTree → List Token → Outcome StmtTree
more_items l c a ts = then_read (many ending_in (arm l c.masks) ts) (at_ending l c a)

abbrev pub first_item : Lower → Subject → List Token → Outcome StmtTree
first_item l c ts = then_read (arm l c.masks ts) (more_items l c)

abbrev pub in_items : Lower → Subject → Spot → List Token → Outcome StmtTree
in_items l c _ = next (word_in Default) (λ _. in_default l c []) (first_item l c)

abbrev pub at_subject : Lower → Subject → List Token → Outcome StmtTree
at_subject l c = expect (mark_in ParenClose) (in_items l c)

abbrev pub in_subject : Lower → Bool → Spot → List Token → Outcome StmtTree
in_subject l masks _ ts = then_read (l.exprs.expr ts) (λ c. at_subject l (subject_of masks c))

abbrev pub in_case : Lower → CaseHead → List Token → Outcome StmtTree
in_case l h = expect (mark_in ParenOpen) (in_subject l h.masks)

-- blocks: where no level is left, an empty one
abbrev pub block_end : List StmtTree × Spot → List Token → Outcome StmtTree
block_end rows = done (block (stmt_trees_of rows.0))

abbrev pub block_rows : Option Lower → List Token → Outcome StmtTree
block_rows None = next (word_in End) (λ _. done (block no_rows)) (deep start_in refuse)
block_rows (Some l) = λ ts. then_read (many (word_in End) l.stmt ts) block_end

abbrev pub at_label_name : Option Lower → Spot → List Token → Outcome StmtTree
at_label_name down _ = expect ident_in (λ _. block_rows down)

abbrev pub in_block : Option Lower → List Token → Outcome StmtTree
in_block down = next (mark_in Colon) (at_label_name down) (block_rows down)

abbrev pub stmt_at : Option Lower → List Token → Outcome StmtTree
stmt_at down = next (mark_in Semicolon) (λ _. done null) (descend down target_in in_set
    (enter down (word_in If) in_if (enter down case_in in_case (next (word_in Begin) (λ _. in_block down) refuse))))

unfoldable pub read_stmt : ℕ → List Token → Outcome StmtTree
read_stmt zero = stmt_at None
read_stmt (suc k) = stmt_at (Some (record { exprs = readers k; target = read_target k; stmt = read_stmt k }))

abbrev pub lower : ℕ → Lower
lower k = record { exprs = readers k; target = read_target k; stmt = read_stmt k }
