-- The reader of items, modules and sources, over those of expressions, targets and statements.
use Rattle.std.specs.Prelude.{ℕ, Bool, true, false, List, [], ◌∷◌, map, Option, Some, None, if◌then◌else◌}
use Rattle.cdc_base.specs.declared.fault.Place.{Place}
use Rattle.cdc_base.specs.declared.words.Keyword.{Keyword}
use Rattle.cdc_base.specs.declared.words.Keyword.TheVariants as k
use Rattle.verilog_lex.specs.declared.token.Token.{Token}
use Rattle.verilog_lex.specs.declared.token.TokenKind.{TokenKind}
use Rattle.verilog_lex.specs.declared.token.TokenKind.TheVariants.{Word, Mark}
use Rattle.verilog_lex.specs.declared.marks.MarkKind.{MarkKind}
use Rattle.verilog_lex.specs.declared.marks.MarkKind.TheVariants.{ParenOpen, ParenClose, BracketOpen, BracketClose, Comma, Colon, Semicolon, Dot, Hash, At, Equals, Star}
use Rattle.verilog_ast.specs.declared.DeclKind.{DeclKind}
use Rattle.verilog_ast.specs.declared.DeclKind.TheVariants.{Input, Output, OutputReg, Wire, Reg}
use Rattle.verilog_ast.specs.declared.GateKind.{GateKind}
use Rattle.verilog_ast.specs.declared.Event.{Event}
use Rattle.verilog_ast.specs.declared.Event.TheVariants as events
use Rattle.verilog_ast.specs.declared.Edge.{Edge}
use Rattle.verilog_ast.specs.declared.EdgeKind.{EdgeKind}
use Rattle.verilog_ast.specs.declared.EdgeKind.TheVariants.{Pos, Neg, Level}
use Rattle.verilog_reading.specs.Lexemes.{Spot, spot_of, word, mark_in, word_in, Named, ident_in, dval_in, end_in}
use Rattle.verilog_reading.specs.ExprTree.{ExprTree, TargetTree}
use Rattle.verilog_reading.specs.StmtTree.{StmtTree}
use Rattle.verilog_reading.specs.Outcome.{Outcome, done, then_read, next, expect, peek}
use Rattle.verilog_reading.specs.Lists.{more, many}
use Rattle.verilog_reading.specs.Reader.{closed}
use Rattle.verilog_reading.specs.StmtReader.{Lower, lower}
use Rattle.verilog_reading.specs.SourceTree.{Bounds, ParamTree, ConnTree, ConnsTree, ordered, named, always, initial, ItemTree, ModuleTree, joined}
use Rattle.verilog_reading.specs.ItemReading.{Setting, Var, has_delay, Driven, gate_of, entries, Placed, edge_of, Separator, item_at, decl_item, param_item, assign_item, gate_item, instance_item, Pdecl, params_from, first_form, has_start, Entry, ports_from, first_shape, bare, Ports}

-- `x { , x }` and the mark that closes it
abbrev pub list_end : {A : Type 0} → MarkKind → A → List A → List Token → Outcome (List A)
list_end m a bs = closed m (a ∷ bs)

abbrev pub list_more : {A B : Type 0} → (Token → Option B) → MarkKind → (List Token → Outcome A) → A → List Token → Outcome (List A)
list_more test m item a ts = then_read (more test item ts) (list_end m a)

abbrev pub list : {A B : Type 0} → (Token → Option B) → MarkKind → (List Token → Outcome A) → (List Token → Outcome A) → List Token → Outcome (List A)
list test m first item ts = then_read (first ts) (list_more test m item)

abbrev pub listed : {A : Type 0} → MarkKind → (List Token → Outcome A) → List Token → Outcome (List A)
listed m item = list (mark_in Comma) m item item

-- the value of a reader, made into another
abbrev pub then_done : {A B : Type 0} → (A → B) → (List Token → Outcome A) → List Token → Outcome B
then_done f r ts = then_read (r ts) (λ a. done (f a))

-- two readers, one behind the other
abbrev pub then_both : {A B D : Type 0} → (A → B → D) → (List Token → Outcome A) → (List Token → Outcome B) → List Token → Outcome D
then_both f r s ts = then_read (r ts) (λ a. then_done (f a) s)

-- `[range]`
abbrev pub right_end : ExprTree → ExprTree → List Token → Outcome (Option Bounds)
right_end a b = closed BracketClose (Some (record { left = a; right = b }))

abbrev pub in_right : Lower → ExprTree → Spot → List Token → Outcome (Option Bounds)
in_right l a _ ts = then_read (l.exprs.expr ts) (right_end a)

abbrev pub at_right : Lower → ExprTree → List Token → Outcome (Option Bounds)
at_right l a = expect (mark_in Colon) (in_right l a)

abbrev pub in_range : Lower → Spot → List Token → Outcome (Option Bounds)
in_range l _ ts = then_read (l.exprs.expr ts) (at_right l)

abbrev pub maybe_range : Lower → List Token → Outcome (Option Bounds)
maybe_range l = next (mark_in BracketOpen) (in_range l) (done None)

-- `[ = expr ]`
abbrev pub init : Lower → List Token → Outcome (Option ExprTree)
init l = next (mark_in Equals) (λ _. then_done Some l.exprs.expr) (done None)

-- `id = expr`
abbrev pub set_to : List ℕ → ExprTree → Setting
set_to n e = record { name = n; value = e }

abbrev pub at_setting : Lower → Named → List Token → Outcome Setting
at_setting l n = expect (mark_in Equals) (λ _. then_done (set_to n.name) l.exprs.expr)

abbrev pub setting : Lower → List Token → Outcome Setting
setting l = expect ident_in (at_setting l)

-- directions and kinds
abbrev pub maybe_wire : DeclKind → List Token → Outcome DeclKind
maybe_wire kind = next (word_in k.Wire) (λ _. done kind) (done kind)

abbrev pub output : List Token → Outcome DeclKind
output = next (word_in k.Reg) (λ _. done OutputReg) (maybe_wire Output)

abbrev pub direction : List Token → Outcome DeclKind
direction = next (word_in k.Input) (λ _. maybe_wire Input) (expect (word_in k.Output) (λ _. output))

-- `var`
abbrev pub var_of : List ℕ → Option Bounds → Option ExprTree → Var
var_of n r e = record { name = n; array = r; init = e }

abbrev pub in_var : Lower → Named → List Token → Outcome Var
in_var l n = then_both (var_of n.name) (maybe_range l) (init l)

abbrev pub var : Lower → List Token → Outcome Var
var l = expect ident_in (in_var l)

-- a reader behind what has no meaning
abbrev pub past : {A B : Type 0} → (List Token → Outcome A) → (List Token → Outcome B) → List Token → Outcome B
past r s ts = then_read (r ts) (λ _. s)

-- `[delay]`
abbrev pub delay_end : List Token → Outcome (Unit {0})
delay_end = closed ParenClose tt

abbrev pub second_delay : Spot → List Token → Outcome (Unit {0})
second_delay _ = expect dval_in (λ _. delay_end)

abbrev pub in_delays : Spot → List Token → Outcome (Unit {0})
in_delays _ = expect dval_in (λ _. next (mark_in Comma) second_delay delay_end)

abbrev pub in_delay : Spot → List Token → Outcome (Unit {0})
in_delay _ = next (mark_in ParenOpen) in_delays (expect dval_in (λ _. done tt))

abbrev pub maybe_delay : List Token → Outcome (Unit {0})
maybe_delay = next (mark_in Hash) in_delay (done tt)

abbrev pub delay_of : DeclKind → List Token → Outcome (Unit {0})
delay_of kind = if has_delay kind then maybe_delay else done tt

-- `[delay] var { , var } ;`
abbrev pub vars : Lower → DeclKind → List Token → Outcome (List Var)
vars l kind = past (delay_of kind) (listed Semicolon (var l))

-- `target = expr`
abbrev pub drive : TargetTree → ExprTree → Driven
drive t e = record { target = t; value = e }

abbrev pub at_driven : Lower → TargetTree → List Token → Outcome Driven
at_driven l t = expect (mark_in Equals) (λ _. then_done (drive t) l.exprs.expr)

abbrev pub driven : Lower → List Token → Outcome Driven
driven l ts = then_read (l.target ts) (at_driven l)

-- gates
pub record GateWord : Type 0 where
  pub kind : GateKind
  pub sign : Keyword
  pub spot : Spot

abbrev pub gate_word : GateWord → Token
gate_word g = word g.sign g.spot

abbrev pub as_gate : Option GateKind → Keyword → Spot → Option GateWord
as_gate None w s = None
as_gate (Some kind) w s = Some (record { kind = kind; sign = w; spot = s })

abbrev pub gate_word_of : TokenKind → Spot → Option GateWord
gate_word_of (Word w) s = as_gate (gate_of w) w s
gate_word_of x s = None

abbrev pub gate_in : Token → Option GateWord
gate_in t = gate_word_of t.kind (spot_of t)

abbrev pub terminals : Lower → List Token → Outcome (List ExprTree)
terminals l = expect (mark_in ParenOpen) (λ _. listed ParenClose l.exprs.expr)

abbrev pub gate : Lower → List Token → Outcome (List ExprTree)
gate l = next ident_in (λ _. terminals l) (terminals l)

-- connections
abbrev pub value_end_of : TokenKind → Option (Unit {0})
value_end_of (Mark Comma) = Some tt
value_end_of (Mark ParenClose) = Some tt
value_end_of x = None

abbrev pub value_end : Token → Option (Unit {0})
value_end t = value_end_of t.kind

abbrev pub value : Lower → List Token → Outcome (Option ExprTree)
value l = peek value_end (done None) (then_done Some l.exprs.expr)

abbrev pub conn_end : List ℕ → Option ExprTree → List Token → Outcome ConnTree
conn_end n e = closed ParenClose (record { name = n; value = e })

abbrev pub in_conn : Lower → Named → Spot → List Token → Outcome ConnTree
in_conn l n _ ts = then_read (value l ts) (conn_end n.name)

abbrev pub at_conn : Lower → Named → List Token → Outcome ConnTree
at_conn l n = expect (mark_in ParenOpen) (in_conn l n)

abbrev pub in_dot : Lower → Spot → List Token → Outcome ConnTree
in_dot l _ = expect ident_in (at_conn l)

abbrev pub conn : Lower → List Token → Outcome ConnTree
conn l = expect (mark_in Dot) (in_dot l)

abbrev pub as_ordered : List (Option ExprTree) → ConnsTree
as_ordered es = ordered (entries es)

abbrev pub in_conns : Lower → Spot → List Token → Outcome ConnsTree
in_conns l _ = peek (mark_in Dot) (then_done named (listed ParenClose (conn l))) (then_done as_ordered (listed ParenClose (value l)))

abbrev pub conns : Lower → List Token → Outcome ConnsTree
conns l = expect (mark_in ParenOpen) (in_conns l)

abbrev pub overrides : Lower → List Token → Outcome ConnsTree
overrides l = next (mark_in Hash) (λ _. conns l) (done (ordered []))

abbrev pub place_at : List ℕ → ConnsTree → Placed
place_at n c = record { name = n; ports = c }

abbrev pub placed : Lower → List Token → Outcome Placed
placed l = expect ident_in (λ n. then_done (place_at n.name) (conns l))

-- events
abbrev pub edge_name : EdgeKind → List Token → Outcome Edge
edge_name kind = expect ident_in (λ n. done (edge_of kind n.name))

abbrev pub edge : List Token → Outcome Edge
edge = next (word_in k.PosEdge) (λ _. edge_name Pos) (next (word_in k.NegEdge) (λ _. edge_name Neg) (edge_name Level))

abbrev pub separator_of : TokenKind → Spot → Option Separator
separator_of (Mark Comma) s = Some (record { comma = true; spot = s })
separator_of (Word k.Or) s = Some (record { comma = false; spot = s })
separator_of x s = None

abbrev pub separator_in : Token → Option Separator
separator_in t = separator_of t.kind (spot_of t)

abbrev pub in_event : List Token → Outcome Event
in_event = next (mark_in Star) (λ _. closed ParenClose events.Star) (then_done events.Edges (list separator_in ParenClose edge edge))

abbrev pub at_event : List Token → Outcome Event
at_event = next (mark_in Star) (λ _. done events.Star) (expect (mark_in ParenOpen) (λ _. in_event))

abbrev pub event : List Token → Outcome Event
event = expect (mark_in At) (λ _. at_event)

-- items
abbrev pub decl_items : Place → DeclKind → Option Bounds → List Var → List ItemTree
decl_items p kind r xs = map (decl_item p kind r) xs

abbrev pub decls : Lower → Place → DeclKind → List Token → Outcome (List ItemTree)
decls l p kind = then_both (decl_items p kind) (maybe_range l) (vars l kind)

abbrev pub in_input : Lower → Spot → List Token → Outcome (List ItemTree)
in_input l p ts = then_read (maybe_wire Input ts) (decls l p.place)

abbrev pub in_output : Lower → Spot → List Token → Outcome (List ItemTree)
in_output l p ts = then_read (output ts) (decls l p.place)

abbrev pub param_items : Place → Bool → Option Bounds → List Setting → List ItemTree
param_items p local r xs = map (param_item p local r) xs

abbrev pub in_params : Lower → Bool → Spot → List Token → Outcome (List ItemTree)
in_params l local p = then_both (param_items p.place local) (maybe_range l) (listed Semicolon (setting l))

abbrev pub assign_items : Place → List Driven → List ItemTree
assign_items p xs = map (assign_item p) xs

abbrev pub in_assigns : Lower → Spot → List Token → Outcome (List ItemTree)
in_assigns l p = past maybe_delay (then_done (assign_items p.place) (listed Semicolon (driven l)))

abbrev pub gate_items : Place → GateKind → List (List ExprTree) → List ItemTree
gate_items p kind xs = map (gate_item p kind) xs

abbrev pub in_gates : Lower → GateWord → List Token → Outcome (List ItemTree)
in_gates l g = past maybe_delay (then_done (gate_items g.spot.place g.kind) (listed Semicolon (gate l)))

abbrev pub instance_items : Place → List ℕ → ConnsTree → List Placed → List ItemTree
instance_items p n c xs = map (instance_item p n c) xs

abbrev pub in_instances : Lower → Named → List Token → Outcome (List ItemTree)
in_instances l n = then_both (instance_items n.spot.place n.name) (overrides l) (listed Semicolon (placed l))

abbrev pub always_items : Place → Event → StmtTree → List ItemTree
always_items p e s = item_at p (always e s) ∷ []

abbrev pub in_always : Lower → Spot → List Token → Outcome (List ItemTree)
in_always l p = then_both (always_items p.place) event l.stmt

abbrev pub initial_items : Place → StmtTree → List ItemTree
initial_items p s = item_at p (initial s) ∷ []

abbrev pub in_initial : Lower → Spot → List Token → Outcome (List ItemTree)
in_initial l p = then_done (initial_items p.place) l.stmt

abbrev pub item : Lower → List Token → Outcome (List ItemTree)
item l = next (word_in k.Input) (in_input l) (next (word_in k.Output) (in_output l) (next (word_in k.Wire) (λ p. decls l p.place Wire) (next (word_in k.Reg) (λ p. decls l p.place Reg)
    (next (word_in k.Parameter) (in_params l false) (next (word_in k.LocalParam) (in_params l true) (next (word_in k.Assign) (in_assigns l) (next gate_in (in_gates l)
    (next ident_in (in_instances l) (next (word_in k.Always) (in_always l) (expect (word_in k.Initial) (in_initial l)))))))))))

-- headers
abbrev pub long_of : Bool → Option Bounds → Setting → Pdecl
long_of local r s = record { form = Some (record { local = local; range = r }); setting = s }

abbrev pub short_of : Setting → Pdecl
short_of s = record { form = None; setting = s }

abbrev pub in_long : Lower → Bool → List Token → Outcome Pdecl
in_long l local = then_both (long_of local) (maybe_range l) (setting l)

abbrev pub long_pdecl : Lower → List Token → Outcome Pdecl
long_pdecl l = next (word_in k.Parameter) (λ _. in_long l false) (expect (word_in k.LocalParam) (λ _. in_long l true))

abbrev pub pdecl : Lower → List Token → Outcome Pdecl
pdecl l = next (word_in k.Parameter) (λ _. in_long l false) (next (word_in k.LocalParam) (λ _. in_long l true) (then_done short_of (setting l)))

abbrev pub in_header : Lower → Spot → List Token → Outcome (List ParamTree)
in_header l _ = expect (mark_in ParenOpen) (λ _. then_done (params_from first_form) (list (mark_in Comma) ParenClose (long_pdecl l) (pdecl l)))

abbrev pub header : Lower → List Token → Outcome (List ParamTree)
header l = next (mark_in Hash) (in_header l) (done [])

abbrev pub start : Lower → DeclKind → List Token → Outcome (Option ExprTree)
start l kind = if has_start kind then init l else done None

abbrev pub entry_of : DeclKind → Option Bounds → List ℕ → Option ExprTree → Entry
entry_of kind r n e = record { shape = Some (record { kind = kind; range = r }); name = n; init = e }

abbrev pub in_adecl : Lower → DeclKind → Option Bounds → Named → List Token → Outcome Entry
in_adecl l kind r n = then_done (entry_of kind r n.name) (start l kind)

abbrev pub behind_range : Lower → DeclKind → Option Bounds → List Token → Outcome Entry
behind_range l kind r = expect ident_in (in_adecl l kind r)

abbrev pub behind_direction : Lower → DeclKind → List Token → Outcome Entry
behind_direction l kind ts = then_read (maybe_range l ts) (behind_range l kind)

abbrev pub adecl : Lower → List Token → Outcome Entry
adecl l ts = then_read (direction ts) (behind_direction l)

abbrev pub short_entry_of : List ℕ → Option ExprTree → Entry
short_entry_of n e = record { shape = None; name = n; init = e }

abbrev pub entry : Lower → List Token → Outcome Entry
entry l = next ident_in (λ n. then_done (short_entry_of n.name) (init l)) (adecl l)

abbrev pub bare_name : List Token → Outcome (List ℕ)
bare_name = expect ident_in (λ n. done n.name)

abbrev pub old_of : List (List ℕ) → Ports
old_of ns = record { ansi = false; list = map bare ns }

abbrev pub ansi_of : List Entry → Ports
ansi_of es = record { ansi = true; list = ports_from first_shape es }

abbrev pub without_ports : Ports
without_ports = record { ansi = false; list = [] }

abbrev pub in_ports : Lower → Spot → List Token → Outcome Ports
in_ports l _ = next (mark_in ParenClose) (λ _. done without_ports) (peek ident_in (then_done old_of (listed ParenClose bare_name)) (then_done ansi_of (list (mark_in Comma) ParenClose (adecl l) (entry l))))

abbrev pub ports : Lower → List Token → Outcome Ports
ports l = next (mark_in ParenOpen) (in_ports l) (done without_ports)

-- modules
abbrev pub module_end : Place → List ℕ → List ParamTree → Ports → List (List ItemTree) × Spot → List Token → Outcome ModuleTree
module_end p n ps q rows = done (record { place = p; name = n; ansi = q.ansi; params = ps; ports = q.list; items = joined rows.0 })

abbrev pub in_items : Lower → Place → List ℕ → List ParamTree → Ports → Spot → List Token → Outcome ModuleTree
in_items l p n ps q _ ts = then_read (many (word_in k.EndModule) (item l) ts) (module_end p n ps q)

abbrev pub behind_ports : Lower → Place → List ℕ → List ParamTree → Ports → List Token → Outcome ModuleTree
behind_ports l p n ps q = expect (mark_in Semicolon) (in_items l p n ps q)

abbrev pub behind_header : Lower → Place → List ℕ → List ParamTree → List Token → Outcome ModuleTree
behind_header l p n ps ts = then_read (ports l ts) (behind_ports l p n ps)

abbrev pub in_module : Lower → Spot → Named → List Token → Outcome ModuleTree
in_module l p n ts = then_read (header l ts) (behind_header l p.place n.name)

abbrev pub at_module : Lower → Spot → List Token → Outcome ModuleTree
at_module l p = expect ident_in (in_module l p)

abbrev pub read_module : Lower → List Token → Outcome ModuleTree
read_module l = expect (word_in k.Module) (at_module l)

abbrev pub source_end : List ModuleTree × Spot → List Token → Outcome (List ModuleTree)
source_end rows = done rows.0

abbrev pub source : Lower → List Token → Outcome (List ModuleTree)
source l ts = then_read (many end_in (read_module l) ts) source_end

-- with so many levels left below the first of each expression, target and statement
unfoldable pub read_source : ℕ → List Token → Outcome (List ModuleTree)
read_source n = source (lower n)
