-- What a list of tokens reads as: a case for each line of the grammar of items, modules and sources.
use Rattle.std.specs.Prelude.{ℕ, ◌≡◌, Bool, true, false, List, [], ◌∷◌, ◌++◌, map, Option, Some, None}
use Rattle.cdc_base.specs.declared.fault.Place.{Place}
use Rattle.cdc_base.specs.declared.words.Keyword.{Keyword}
use Rattle.cdc_base.specs.declared.words.Keyword.TheVariants as k
use Rattle.verilog_lex.specs.declared.token.Token.{Token}
use Rattle.verilog_lex.specs.declared.marks.MarkKind.{MarkKind}
use Rattle.verilog_lex.specs.declared.marks.MarkKind.TheVariants.{ParenOpen, ParenClose, Comma, Semicolon, Dot, Hash, At, Equals, Star}
use Rattle.verilog_ast.specs.declared.DeclKind.{DeclKind}
use Rattle.verilog_ast.specs.declared.DeclKind.TheVariants.{Input, Output, OutputReg, Wire, Reg}
use Rattle.verilog_ast.specs.declared.GateKind.{GateKind}
use Rattle.verilog_ast.specs.declared.GateKind.TheVariants as g
use Rattle.verilog_ast.specs.declared.Event.{Event}
use Rattle.verilog_ast.specs.declared.Event.TheVariants as event
use Rattle.verilog_ast.specs.declared.Edge.{Edge}
use Rattle.verilog_ast.specs.declared.EdgeKind.{EdgeKind}
use Rattle.verilog_ast.specs.declared.EdgeKind.TheVariants.{Pos, Neg, Level}
use Rattle.verilog_reading.specs.Lexemes.{Spot, mark, word, Named, ident, Dval, dval, closing}
use Rattle.verilog_reading.specs.ExprTree.{ExprTree, TargetTree}
use Rattle.verilog_reading.specs.StmtTree.{StmtTree}
use Rattle.verilog_reading.specs.Lists.{AreMore, AreMany}
use Rattle.verilog_reading.specs.Reading.{IsExpr, IsTarget, IsRange}
use Rattle.verilog_reading.specs.StmtReading.{IsStmt}
use Rattle.verilog_reading.specs.SourceTree.{Bounds, ParamTree, PortTree, ConnTree, ConnsTree, ordered, named, BodyTree, param, decl, assign, gate, instance, always, initial, ItemTree, ModuleTree, joined}

-- `x { , x }` and the mark that closes it; the first may have a form of its own
pub data IsList {A B : Type 0} (tok : B → Token) (m : MarkKind) (First R : List Token → A → Type 0) : List Token → List A → Type 0 where
  is_list : (q : Spot) {u v : List Token} {a : A} {bs : List A} → First u a → AreMore tok R v bs → IsList tok m First R (u ++ (v ++ mark m q ∷ [])) (a ∷ bs)

-- with commas
abbrev pub IsListed : {A : Type 0} → MarkKind → (List Token → A → Type 0) → List Token → List A → Type 0
IsListed m R = IsList (mark Comma) m R R

-- `[range]`
pub data IsMaybeRange : List Token → Option Bounds → Type 0 where
  no_range : IsMaybeRange [] None
  a_range : {u : List Token} {a b : ExprTree} → IsRange u a b → IsMaybeRange u (Some (record { left = a; right = b }))

-- `[ = expr ]`
pub data IsInit : List Token → Option ExprTree → Type 0 where
  no_init : IsInit [] None
  an_init : (p : Spot) {u : List Token} {e : ExprTree} → IsExpr u e → IsInit (mark Equals p ∷ u) (Some e)

-- `id = expr`
pub record Setting : Type 0 where
  pub name : List ℕ
  pub value : ExprTree

pub data IsSetting : List Token → Setting → Type 0 where
  is_setting : (n : Named) (p : Spot) {u : List Token} {e : ExprTree} → IsExpr u e → IsSetting (ident n ∷ (mark Equals p ∷ u)) (record { name = n.name; value = e })

-- the word, or nothing
pub data MayBeWord (w : Keyword) : List Token → Type 0 where
  no_word : MayBeWord w []
  the_word : (p : Spot) → MayBeWord w (word w p ∷ [])

-- `input [wire] | output [wire | reg]`, whose first word stands at the spot
pub data IsDirection : Spot → List Token → DeclKind → Type 0 where
  is_input : (p : Spot) {u : List Token} → MayBeWord k.Wire u → IsDirection p (word k.Input p ∷ u) Input
  is_output : (p : Spot) {u : List Token} → MayBeWord k.Wire u → IsDirection p (word k.Output p ∷ u) Output
  is_output_reg : (p q : Spot) → IsDirection p (word k.Output p ∷ (word k.Reg q ∷ [])) OutputReg

-- `input [wire] | output [wire | reg] | wire | reg`
pub data IsKind : Spot → List Token → DeclKind → Type 0 where
  is_direction : {p : Spot} {u : List Token} {kind : DeclKind} → IsDirection p u kind → IsKind p u kind
  is_wire : (p : Spot) → IsKind p (word k.Wire p ∷ []) Wire
  is_reg : (p : Spot) → IsKind p (word k.Reg p ∷ []) Reg

-- `var = id [range] [ = expr ]`
pub record Var : Type 0 where
  pub name : List ℕ
  pub array : Option Bounds
  pub init : Option ExprTree

pub data IsVar : List Token → Var → Type 0 where
  is_var : (n : Named) {u v : List Token} {r : Option Bounds} {e : Option ExprTree} → IsMaybeRange u r → IsInit v e → IsVar (ident n ∷ (u ++ v)) (record { name = n.name; array = r; init = e })

-- `[ # dval | # "(" dval [ , dval ] ")" ]`, which has no meaning
pub data IsDelay : List Token → Type 0 where
  no_delay : IsDelay []
  bare_delay : (p : Spot) (d : Dval) → IsDelay (mark Hash p ∷ (dval d ∷ []))
  one_delay : (p q r : Spot) (d : Dval) → IsDelay (mark Hash p ∷ (mark ParenOpen q ∷ (dval d ∷ (mark ParenClose r ∷ []))))
  two_delays : (p q o r : Spot) (d e : Dval) → IsDelay (mark Hash p ∷ (mark ParenOpen q ∷ (dval d ∷ (mark Comma o ∷ (dval e ∷ (mark ParenClose r ∷ []))))))

-- of the declarations only a `wire` may have a delay
abbrev pub has_delay : DeclKind → Bool
has_delay Wire = true
has_delay kind = false

pub data IsDelayOf : DeclKind → List Token → Type 0 where
  not_delayed : {kind : DeclKind} → has_delay kind ≡ false → IsDelayOf kind []
  may_delay : {kind : DeclKind} {u : List Token} → has_delay kind ≡ true → IsDelay u → IsDelayOf kind u

-- `[delay] var { , var } ;`
pub data IsVars : DeclKind → List Token → List Var → Type 0 where
  are_vars : {kind : DeclKind} {u v : List Token} {xs : List Var} → IsDelayOf kind u → IsListed Semicolon IsVar v xs → IsVars kind (u ++ v) xs

-- `target = expr`
pub record Driven : Type 0 where
  pub target : TargetTree
  pub value : ExprTree

pub data IsDriven : List Token → Driven → Type 0 where
  is_driven : (p : Spot) {u v : List Token} {t : TargetTree} {e : ExprTree} → IsTarget u t → IsExpr v e → IsDriven (u ++ mark Equals p ∷ v) (record { target = t; value = e })

-- the gate that a word is
abbrev pub gate_of : Keyword → Option GateKind
gate_of k.And = Some g.And
gate_of k.Nand = Some g.Nand
gate_of k.Or = Some g.Or
gate_of k.Nor = Some g.Nor
gate_of k.Xor = Some g.Xor
gate_of k.Xnor = Some g.Xnor
gate_of k.Buf = Some g.Buf
gate_of k.Not = Some g.Not
gate_of w = None

-- `[id] ( expr { , expr } )`
pub data IsGate : List Token → List ExprTree → Type 0 where
  plain_gate : (p : Spot) {u : List Token} {es : List ExprTree} → IsListed ParenClose IsExpr u es → IsGate (mark ParenOpen p ∷ u) es
  named_gate : (n : Named) (p : Spot) {u : List Token} {es : List ExprTree} → IsListed ParenClose IsExpr u es → IsGate (ident n ∷ (mark ParenOpen p ∷ u)) es

-- `[expr]`
pub data IsValue : List Token → Option ExprTree → Type 0 where
  no_value : IsValue [] None
  a_value : {u : List Token} {e : ExprTree} → IsExpr u e → IsValue u (Some e)

-- `. id ( [expr] )`
pub data IsConn : List Token → ConnTree → Type 0 where
  is_conn : (p q r : Spot) (n : Named) {u : List Token} {e : Option ExprTree} → IsValue u e
      → IsConn (mark Dot p ∷ (ident n ∷ (mark ParenOpen q ∷ (u ++ mark ParenClose r ∷ [])))) (record { name = n.name; value = e })

-- a single empty entry counts as none
abbrev pub entries : List (Option ExprTree) → List (Option ExprTree)
entries (None ∷ []) = []
entries es = es

-- `( conns )`
pub data IsConns : List Token → ConnsTree → Type 0 where
  is_ordered : (p : Spot) {u : List Token} {es : List (Option ExprTree)} → IsListed ParenClose IsValue u es → IsConns (mark ParenOpen p ∷ u) (ordered (entries es))
  is_named : (p : Spot) {u : List Token} {cs : List ConnTree} → IsListed ParenClose IsConn u cs → IsConns (mark ParenOpen p ∷ u) (named cs)

-- `[ # ( conns ) ]`
pub data IsOverrides : List Token → ConnsTree → Type 0 where
  no_overrides : IsOverrides [] (ordered [])
  overrides : (p : Spot) {u : List Token} {c : ConnsTree} → IsConns u c → IsOverrides (mark Hash p ∷ u) c

-- `id ( conns )`
pub record Placed : Type 0 where
  pub name : List ℕ
  pub ports : ConnsTree

pub data IsPlaced : List Token → Placed → Type 0 where
  is_placed : (n : Named) {u : List Token} {c : ConnsTree} → IsConns u c → IsPlaced (ident n ∷ u) (record { name = n.name; ports = c })

-- `edge = [ posedge | negedge ] id`
abbrev pub edge_of : EdgeKind → List ℕ → Edge
edge_of kind n = record { kind = kind; name = n }

pub data IsEdge : List Token → Edge → Type 0 where
  is_positive : (p : Spot) (n : Named) → IsEdge (word k.PosEdge p ∷ (ident n ∷ [])) (edge_of Pos n.name)
  is_negative : (p : Spot) (n : Named) → IsEdge (word k.NegEdge p ∷ (ident n ∷ [])) (edge_of Neg n.name)
  is_level : (n : Named) → IsEdge (ident n ∷ []) (edge_of Level n.name)

-- what stands between edges: a comma or `or`
pub record Separator : Type 0 where
  pub comma : Bool
  pub spot : Spot

abbrev pub separator_at : Bool → Spot → Token
separator_at true s = mark Comma s
separator_at false s = word k.Or s

abbrev pub separator : Separator → Token
separator s = separator_at s.comma s.spot

-- `event = @ * | @ "(" * ")" | @ "(" edge { ( or | , ) edge } ")"`
pub data IsEvent : List Token → Event → Type 0 where
  is_star : (p q : Spot) → IsEvent (mark At p ∷ (mark Star q ∷ [])) event.Star
  is_star_in : (p q r s : Spot) → IsEvent (mark At p ∷ (mark ParenOpen q ∷ (mark Star r ∷ (mark ParenClose s ∷ [])))) event.Star
  is_edges : (p q : Spot) {u : List Token} {es : List Edge} → IsList separator ParenClose IsEdge IsEdge u es → IsEvent (mark At p ∷ (mark ParenOpen q ∷ u)) (event.Edges es)

-- each entry of a comma list is an item of its own, with the place of the list's first word
abbrev pub item_at : Place → BodyTree → ItemTree
item_at p b = record { place = p; body = b }

abbrev pub decl_item : Place → DeclKind → Option Bounds → Var → ItemTree
decl_item p kind r x = item_at p (decl (record { kind = kind; range = r; name = x.name; init = x.init; array = x.array }))

abbrev pub param_item : Place → Bool → Option Bounds → Setting → ItemTree
param_item p local r s = item_at p (param (record { local = local; range = r; name = s.name; value = s.value }))

abbrev pub assign_item : Place → Driven → ItemTree
assign_item p d = item_at p (assign d.target d.value)

abbrev pub gate_item : Place → GateKind → List ExprTree → ItemTree
gate_item p kind es = item_at p (gate kind es)

abbrev pub instance_item : Place → List ℕ → ConnsTree → Placed → ItemTree
instance_item p child c i = item_at p (instance child c i.name i.ports)

abbrev pub param_word : Bool → Keyword
param_word true = k.LocalParam
param_word false = k.Parameter

-- `item`: declarations, parameters, assignments, gates, instances, `always event stmt` or `initial stmt`
pub data IsItem : List Token → List ItemTree → Type 0 where
  is_decls : {p : Spot} {u v w : List Token} {kind : DeclKind} {r : Option Bounds} {xs : List Var} → IsKind p u kind → IsMaybeRange v r → IsVars kind w xs
      → IsItem (u ++ (v ++ w)) (map (decl_item p.place kind r) xs)
  is_params : (local : Bool) (p : Spot) {u v : List Token} {r : Option Bounds} {xs : List Setting} → IsMaybeRange u r → IsListed Semicolon IsSetting v xs
      → IsItem (word (param_word local) p ∷ (u ++ v)) (map (param_item p.place local r) xs)
  is_assigns : (p : Spot) {u v : List Token} {xs : List Driven} → IsDelay u → IsListed Semicolon IsDriven v xs → IsItem (word k.Assign p ∷ (u ++ v)) (map (assign_item p.place) xs)
  is_gates : (w : Keyword) (p : Spot) {kind : GateKind} {u v : List Token} {xs : List (List ExprTree)} → gate_of w ≡ Some kind → IsDelay u → IsListed Semicolon IsGate v xs
      → IsItem (word w p ∷ (u ++ v)) (map (gate_item p.place kind) xs)
  is_instances : (n : Named) {u v : List Token} {c : ConnsTree} {xs : List Placed} → IsOverrides u c → IsListed Semicolon IsPlaced v xs
      → IsItem (ident n ∷ (u ++ v)) (map (instance_item n.spot.place n.name c) xs)
  is_always : (p : Spot) {u v : List Token} {e : Event} {s : StmtTree} → IsEvent u e → IsStmt v s → IsItem (word k.Always p ∷ (u ++ v)) (item_at p.place (always e s) ∷ [])
  is_initial : (p : Spot) {u : List Token} {s : StmtTree} → IsStmt u s → IsItem (word k.Initial p ∷ u) (item_at p.place (initial s) ∷ [])

-- a parameter of a header; a short one has the word and range of the entry before it
pub record ParamForm : Type 0 where
  pub local : Bool
  pub range : Option Bounds

pub record Pdecl : Type 0 where
  pub form : Option ParamForm
  pub setting : Setting

-- `( parameter | localparam ) [range] id = expr`
pub data IsLongPdecl : List Token → Pdecl → Type 0 where
  is_long : (local : Bool) (p : Spot) {u v : List Token} {r : Option Bounds} {s : Setting} → IsMaybeRange u r → IsSetting v s
      → IsLongPdecl (word (param_word local) p ∷ (u ++ v)) (record { form = Some (record { local = local; range = r }); setting = s })

-- `pdecl = ( parameter | localparam ) [range] id = expr | id = expr`
pub data IsPdecl : List Token → Pdecl → Type 0 where
  long_pdecl : {u : List Token} {a : Pdecl} → IsLongPdecl u a → IsPdecl u a
  short_pdecl : {u : List Token} {s : Setting} → IsSetting u s → IsPdecl u (record { form = None; setting = s })

abbrev pub form_from : ParamForm → Option ParamForm → ParamForm
form_from before None = before
form_from before (Some f) = f

abbrev pub param_by : ParamForm → Setting → ParamTree
param_by f s = record { local = f.local; range = f.range; name = s.name; value = s.value }

abbrev pub params_from : ParamForm → List Pdecl → List ParamTree
params_from before [] = []
params_from before (a ∷ bs) = param_by (form_from before a.form) a.setting ∷ params_from (form_from before a.form) bs

-- the first entry is never short
abbrev pub first_form : ParamForm
first_form = record { local = false; range = None }

-- `[ # ( pdecl { , pdecl } ) ]`
pub data IsHeader : List Token → List ParamTree → Type 0 where
  no_header : IsHeader [] []
  a_header : (p q : Spot) {u : List Token} {bs : List Pdecl} → IsList (mark Comma) ParenClose IsLongPdecl IsPdecl u bs → IsHeader (mark Hash p ∷ (mark ParenOpen q ∷ u)) (params_from first_form bs)

-- only an `output reg` of a header has a start value
abbrev pub has_start : DeclKind → Bool
has_start OutputReg = true
has_start kind = false

pub data IsStart : DeclKind → List Token → Option ExprTree → Type 0 where
  no_start : {kind : DeclKind} → has_start kind ≡ false → IsStart kind [] None
  a_start : {kind : DeclKind} {u : List Token} {e : Option ExprTree} → has_start kind ≡ true → IsInit u e → IsStart kind u e

-- an entry of a header; a short one has the direction, kind and range of the entry before it
pub record Shape : Type 0 where
  pub kind : DeclKind
  pub range : Option Bounds

pub record Entry : Type 0 where
  pub shape : Option Shape
  pub name : List ℕ
  pub init : Option ExprTree

-- `adecl = input [wire] [range] id | output [wire] [range] id | output reg [range] id [ = expr ]`
pub data IsAdecl : List Token → Entry → Type 0 where
  is_adecl : {p : Spot} {kind : DeclKind} {u v w : List Token} {r : Option Bounds} {e : Option ExprTree} (n : Named) → IsDirection p u kind → IsMaybeRange v r → IsStart kind w e
      → IsAdecl (u ++ (v ++ ident n ∷ w)) (record { shape = Some (record { kind = kind; range = r }); name = n.name; init = e })

-- `adecl | id [ = expr ]`
pub data IsEntry : List Token → Entry → Type 0 where
  long_entry : {u : List Token} {a : Entry} → IsAdecl u a → IsEntry u a
  short_entry : (n : Named) {u : List Token} {e : Option ExprTree} → IsInit u e → IsEntry (ident n ∷ u) (record { shape = None; name = n.name; init = e })

abbrev pub shape_from : Shape → Option Shape → Shape
shape_from before None = before
shape_from before (Some s) = s

abbrev pub port_from : Shape → Entry → PortTree
port_from s a = record { name = a.name; decl = Some (record { kind = s.kind; range = s.range; name = a.name; init = a.init; array = None }) }

abbrev pub ports_from : Shape → List Entry → List PortTree
ports_from before [] = []
ports_from before (a ∷ bs) = port_from (shape_from before a.shape) a ∷ ports_from (shape_from before a.shape) bs

-- the first entry is never short
abbrev pub first_shape : Shape
first_shape = record { kind = Input; range = None }

-- an entry of the old style
pub data IsName : List Token → List ℕ → Type 0 where
  a_name : (n : Named) → IsName (ident n ∷ []) n.name

abbrev pub bare : List ℕ → PortTree
bare n = record { name = n; decl = None }

-- the ports of a header, and whether it declares them
pub record Ports : Type 0 where
  pub ansi : Bool
  pub list : List PortTree

-- `[ ( [ ports ] ) ]`
pub data IsPorts : List Token → Ports → Type 0 where
  no_ports : IsPorts [] (record { ansi = false; list = [] })
  empty_ports : (p q : Spot) → IsPorts (mark ParenOpen p ∷ (mark ParenClose q ∷ [])) (record { ansi = false; list = [] })
  old_ports : (p : Spot) {u : List Token} {ns : List (List ℕ)} → IsListed ParenClose IsName u ns → IsPorts (mark ParenOpen p ∷ u) (record { ansi = false; list = map bare ns })
  ansi_ports : (p : Spot) {u : List Token} {es : List Entry} → IsList (mark Comma) ParenClose IsAdecl IsEntry u es → IsPorts (mark ParenOpen p ∷ u) (record { ansi = true; list = ports_from first_shape es })

-- `module = module id [ # "(" pdecl { , pdecl } ")" ] [ "(" [ ports ] ")" ] ; { item } endmodule`
pub data IsModule : List Token → ModuleTree → Type 0 where
  is_module : (p q r : Spot) (n : Named) {u v w : List Token} {ps : List ParamTree} {ports : Ports} {items : List (List ItemTree)} → IsHeader u ps → IsPorts v ports → AreMany IsItem w items
      → IsModule (word k.Module p ∷ (ident n ∷ (u ++ (v ++ mark Semicolon q ∷ (w ++ word k.EndModule r ∷ [])))))
      (record { place = p.place; name = n.name; ansi = ports.ansi; params = ps; ports = ports.list; items = joined items })

-- `source = { module }`, and the closing end
pub data IsSource : List Token → List ModuleTree → Type 0 where
  is_source : (s : Spot) {u : List Token} {ms : List ModuleTree} → AreMany IsModule u ms → IsSource (u ++ closing s ∷ []) ms
