-- What a list of tokens reads as: a case for each line of the grammar of statements.
use Rattle.std.specs.Prelude.{Bool, true, false, ◌≡◌, Option, Some, None, List, [], ◌∷◌, ◌++◌}
use Rattle.cdc_base.specs.declared.words.Keyword.{Keyword}
use Rattle.cdc_base.specs.declared.words.Keyword.TheVariants.{If, Else, Case, CaseZ, EndCase, Default, Begin, End}
use Rattle.verilog_lex.specs.declared.token.Token.{Token}
use Rattle.verilog_lex.specs.declared.marks.MarkKind.{MarkKind}
use Rattle.verilog_lex.specs.declared.marks.MarkKind.TheVariants.{ParenOpen, ParenClose, Comma, Colon, Semicolon, Hash, Equals, LessEqual}
use Rattle.verilog_ast.specs.declared.Delay.{Delay}
use Rattle.verilog_ast.specs.declared.Delay.TheVariants as delay
use Rattle.verilog_reading.specs.Lexemes.{Spot, mark, word, Named, ident, Masked, masked, Dval, by_number, by_name, dval}
use Rattle.verilog_reading.specs.ExprTree.{ExprTree, TargetTree}
use Rattle.verilog_reading.specs.Lists.{AreMore}
use Rattle.verilog_reading.specs.Reading.{IsExpr, IsTarget}
use Rattle.verilog_reading.specs.StmtTree.{StmtTree, null, set, when, either, block, StmtTrees, no_rows, and_rows, LabelTree, by_value, by_mask, subject_of, ArmTrees, no_arms, and_arms, choose, takes_else}

-- the mark of an assignment that blocks, and of one that does not
abbrev pub assign_mark : Bool → MarkKind
assign_mark true = Equals
assign_mark false = LessEqual

-- the delay that a number or a name is
abbrev pub delay_by : Dval → Delay
delay_by (by_number n) = delay.Number n.value
delay_by (by_name n) = delay.Name n.name

pub data IsDval : List Token → Delay → Type 0 where
  is_dval : (d : Dval) → IsDval (dval d ∷ []) (delay_by d)

-- `[ # dval | # "(" dval ")" ]`, a delay behind `<=` alone
pub data IsLater : Bool → List Token → Option Delay → Type 0 where
  at_once : {blocking : Bool} → IsLater blocking [] None
  after_value : (p : Spot) {u : List Token} {d : Delay} → IsDval u d → IsLater false (mark Hash p ∷ u) (Some d)
  after_parens : (p q r : Spot) {u : List Token} {d : Delay} → IsDval u d → IsLater false (mark Hash p ∷ (mark ParenOpen q ∷ (u ++ mark ParenClose r ∷ []))) (Some d)

-- the word of a `case` with masks, and of one without
abbrev pub case_word : Bool → Keyword
case_word true = CaseZ
case_word false = Case

-- `label = expr | mask`, a mask under `casez` alone
pub data IsChoice : Bool → List Token → LabelTree → Type 0 where
  is_value : {masks : Bool} {u : List Token} {e : ExprTree} → IsExpr u e → IsChoice masks u (by_value e)
  is_mask : (n : Masked) → IsChoice true (masked n ∷ []) (by_mask n.value n.opened n.width)

-- the mark, or nothing
pub data MayBe (m : MarkKind) : List Token → Type 0 where
  is_absent : MayBe m []
  is_present : (p : Spot) → MayBe m (mark m p ∷ [])

-- `[ : id ]`
pub data IsLabel : List Token → Type 0 where
  no_label : IsLabel []
  a_label : (p : Spot) (n : Named) → IsLabel (mark Colon p ∷ (ident n ∷ []))

-- a `case` has an item or more
abbrev pub some_item : ArmTrees → Option StmtTree → Bool
some_item no_arms None = false
some_item arms d = true

mutual
  -- `stmt = ; | target ( = | <= [ # dval | # "(" dval ")" ] ) expr ; | if "(" expr ")" stmt [ else stmt ]
  -- | ( case | casez ) "(" expr ")" citem { citem } endcase | begin [ : id ] { stmt } end`
  pub data IsStmt : List Token → StmtTree → Type 0 where
    is_null : (p : Spot) → IsStmt (mark Semicolon p ∷ []) null
    is_set : (blocking : Bool) (p q : Spot) {u v w : List Token} {t : TargetTree} {d : Option Delay} {e : ExprTree} → IsTarget u t → IsLater blocking v d → IsExpr w e
        → IsStmt (u ++ mark (assign_mark blocking) p ∷ (v ++ (w ++ mark Semicolon q ∷ []))) (set blocking d t e)
    is_when : (i p q : Spot) {u v : List Token} {c : ExprTree} {s : StmtTree} → IsExpr u c → IsStmt v s
        → IsStmt (word If i ∷ (mark ParenOpen p ∷ (u ++ mark ParenClose q ∷ v))) (when c s)
    -- the `else` belongs to the nearest `if` without one
    is_either : (i p q e : Spot) {u v w : List Token} {c : ExprTree} {s z : StmtTree} → IsExpr u c → IsStmt v s → takes_else s ≡ false → IsStmt w z
        → IsStmt (word If i ∷ (mark ParenOpen p ∷ (u ++ mark ParenClose q ∷ (v ++ word Else e ∷ w)))) (either c s z)
    is_case : (masks : Bool) (i p q e : Spot) {u v : List Token} {c : ExprTree} {arms : ArmTrees} {d : Option StmtTree} → IsExpr u c → AreItems masks v arms d
        → some_item arms d ≡ true
        → IsStmt (word (case_word masks) i ∷ (mark ParenOpen p ∷ (u ++ mark ParenClose q ∷ (v ++ word EndCase e ∷ [])))) (choose (subject_of masks c) arms d)
    is_block : (p q : Spot) {l u : List Token} {rows : StmtTrees} → IsLabel l → AreStmts u rows
        → IsStmt (word Begin p ∷ (l ++ (u ++ word End q ∷ []))) (block rows)

  -- `{ stmt }`
  pub data AreStmts : List Token → StmtTrees → Type 0 where
    no_stmts : AreStmts [] no_rows
    more_stmts : {u v : List Token} {s : StmtTree} {rows : StmtTrees} → IsStmt u s → AreStmts v rows → AreStmts (u ++ v) (and_rows s rows)

  -- `{ citem }`, where `citem = label { , label } : stmt | default [ : ] stmt`, with at most one `default`, which the tree has apart
  pub data AreItems : Bool → List Token → ArmTrees → Option StmtTree → Type 0 where
    no_items : {masks : Bool} → AreItems masks [] no_arms None
    is_arm : {masks : Bool} (p : Spot) {u v w x : List Token} {a : LabelTree} {bs : List LabelTree} {s : StmtTree} {arms : ArmTrees} {d : Option StmtTree}
        → IsChoice masks u a → AreMore (mark Comma) (IsChoice masks) v bs → IsStmt w s → AreItems masks x arms d
        → AreItems masks ((u ++ (v ++ mark Colon p ∷ w)) ++ x) (and_arms (a ∷ bs) s arms) d
    is_default : {masks : Bool} (p : Spot) {u v w : List Token} {s : StmtTree} {arms : ArmTrees} → MayBe Colon u → IsStmt v s → AreItems masks w arms None
        → AreItems masks (word Default p ∷ (u ++ (v ++ w))) arms (Some s)
