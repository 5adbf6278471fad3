-- Sources as readings of texts give them: a number fits in its 1 to 64 bits, a plain one is a whole number of 32, and no list of parts or labels is empty.
use Rattle.std.specs.Prelude.{◌≡◌, ◌^◌, ◌<◌, ◌≤◌, true, List, [], ◌∷◌, All, Option, Some, None}
use Rattle.verilog_reading.specs.ExprTree.{ExprTree, number, name, index, part, unary, binary, choice, join, repeat, paren, ExprTrees, no_trees, and_trees, TargetTree, whole, index_of, part_of, join_of, TargetTrees, no_parts, and_parts}
use Rattle.flat_unfolding.specs.Constants.{is_plain}
use Rattle.verilog_reading.specs.StmtTree.{StmtTree, null, set, when, either, switch, switch_else, block, StmtTrees, no_rows, and_rows, LabelTree, by_value, by_mask, ArmTrees, no_arms, and_arms}
use Rattle.verilog_reading.specs.SourceTree.{Bounds, ParamTree, DeclTree, PortTree, ConnTree, ConnsTree, ordered, named, BodyTree, param, decl, assign, gate, instance, always, initial, ItemTree, ModuleTree}

-- some parts
abbrev pub AreSome : ExprTrees → Type 0
AreSome no_trees = ⊥
AreSome (and_trees a rest) = Unit {0}

abbrev mutual
  pub IsFormed : ExprTree → Type 0
  IsFormed (number v w spelt) = (1 ≤ w) × (w ≤ 64) × (v < 2 ^ w) × (is_plain spelt ≡ true → (w ≡ 32) × (v < 2 ^ 31))
  IsFormed (name x) = Unit {0}
  IsFormed (index x i) = IsFormed i
  IsFormed (part x kind l r) = IsFormed l × IsFormed r
  IsFormed (unary op a) = IsFormed a
  IsFormed (binary op a b) = IsFormed a × IsFormed b
  IsFormed (choice c a b) = IsFormed c × IsFormed a × IsFormed b
  IsFormed (join parts) = AreSome parts × AreFormed parts
  IsFormed (repeat count parts) = IsFormed count × AreSome parts × AreFormed parts
  IsFormed (paren a) = IsFormed a

  pub AreFormed : ExprTrees → Type 0
  AreFormed no_trees = Unit {0}
  AreFormed (and_trees a rest) = IsFormed a × AreFormed rest

abbrev pub AreSomeParts : TargetTrees → Type 0
AreSomeParts no_parts = ⊥
AreSomeParts (and_parts t rest) = Unit {0}

abbrev mutual
  pub IsTargetFormed : TargetTree → Type 0
  IsTargetFormed (whole x) = Unit {0}
  IsTargetFormed (index_of x i) = IsFormed i
  IsTargetFormed (part_of x kind l r) = IsFormed l × IsFormed r
  IsTargetFormed (join_of parts) = AreSomeParts parts × AreTargetsFormed parts

  pub AreTargetsFormed : TargetTrees → Type 0
  AreTargetsFormed no_parts = Unit {0}
  AreTargetsFormed (and_parts t rest) = IsTargetFormed t × AreTargetsFormed rest

-- a mask has a value and open bits of its 1 to 64 bits
abbrev pub IsLabelFormed : LabelTree → Type 0
IsLabelFormed (by_value e) = IsFormed e
IsLabelFormed (by_mask v opened w) = (1 ≤ w) × (w ≤ 64) × (v < 2 ^ w) × (opened < 2 ^ w)

-- labels of an item: one at least
abbrev pub AreLabels : List LabelTree → Type 0
AreLabels [] = ⊥
AreLabels (a ∷ rest) = All IsLabelFormed (a ∷ rest)

abbrev mutual
  pub IsStmtFormed : StmtTree → Type 0
  IsStmtFormed null = Unit {0}
  IsStmtFormed (set blocking delay t e) = IsTargetFormed t × IsFormed e
  IsStmtFormed (when c s) = IsFormed c × IsStmtFormed s
  IsStmtFormed (either c s z) = IsFormed c × IsStmtFormed s × IsStmtFormed z
  IsStmtFormed (switch c arms) = IsFormed c.value × AreArmsFormed arms
  IsStmtFormed (switch_else c arms d) = IsFormed c.value × AreArmsFormed arms × IsStmtFormed d
  IsStmtFormed (block rows) = AreRowsFormed rows

  pub AreRowsFormed : StmtTrees → Type 0
  AreRowsFormed no_rows = Unit {0}
  AreRowsFormed (and_rows s rest) = IsStmtFormed s × AreRowsFormed rest

  pub AreArmsFormed : ArmTrees → Type 0
  AreArmsFormed no_arms = Unit {0}
  AreArmsFormed (and_arms labels s rest) = AreLabels labels × IsStmtFormed s × AreArmsFormed rest

abbrev pub IsFormedIf : Option ExprTree → Type 0
IsFormedIf None = Unit {0}
IsFormedIf (Some e) = IsFormed e

-- both bounds, where there are some
abbrev pub IsRangeFormed : Option Bounds → Type 0
IsRangeFormed None = Unit {0}
IsRangeFormed (Some b) = IsFormed b.left × IsFormed b.right

abbrev pub IsParamFormed : ParamTree → Type 0
IsParamFormed p = IsRangeFormed p.range × IsFormed p.value

abbrev pub IsDeclFormed : DeclTree → Type 0
IsDeclFormed d = IsRangeFormed d.range × IsRangeFormed d.array × IsFormedIf d.init

abbrev pub IsPortFormed : PortTree → Type 0
IsPortFormed p = go p.decl
  where
    go : Option DeclTree → Type 0
    go None = Unit {0}
    go (Some d) = IsDeclFormed d

abbrev pub AreConnsFormed : ConnsTree → Type 0
AreConnsFormed (ordered entries) = All IsFormedIf entries
AreConnsFormed (named conns) = All (λ (c : ConnTree). IsFormedIf c.value) conns

abbrev pub IsBodyFormed : BodyTree → Type 0
IsBodyFormed (param p) = IsParamFormed p
IsBodyFormed (decl d) = IsDeclFormed d
IsBodyFormed (assign t e) = IsTargetFormed t × IsFormed e
IsBodyFormed (gate kind terminals) = All IsFormed terminals
IsBodyFormed (instance child params x ports) = AreConnsFormed params × AreConnsFormed ports
IsBodyFormed (always event body) = IsStmtFormed body
IsBodyFormed (initial body) = IsStmtFormed body

pub record IsModuleFormed (m : ModuleTree) : Type 0 where
  pub params : All IsParamFormed m.params
  pub ports : All IsPortFormed m.ports
  pub items : All (λ (i : ItemTree). IsBodyFormed i.body) m.items

abbrev pub IsSourceFormed : List ModuleTree → Type 0
IsSourceFormed modules = All IsModuleFormed modules
