-- The readers of items, modules and sources see no token behind the first of their rest.
use Rattle.std.proofs.Common.{ℕ, ◌≤◌, Bool, true, false, List, [], ◌∷◌, ◌++◌, length, Option, Some, None, arith}
use Rattle.cdc_base.specs.declared.fault.Place.{Place}
use Rattle.cdc_base.specs.declared.words.Keyword.TheVariants as k
use Rattle.verilog_lex.specs.declared.token.Token.{Token}
use Rattle.verilog_lex.specs.declared.marks.MarkKind.{MarkKind}
use Rattle.verilog_lex.specs.declared.marks.MarkKind.TheVariants.{ParenOpen, ParenClose, BracketOpen, BracketClose, Comma, Colon, Semicolon, Dot, Hash, At, Equals, Star}
use Rattle.verilog_ast.specs.declared.DeclKind.{DeclKind}
use Rattle.verilog_ast.specs.declared.DeclKind.TheVariants.{Input, Output, OutputReg, Wire, Reg}
use Rattle.verilog_ast.specs.declared.GateKind.{GateKind}
use Rattle.verilog_ast.specs.declared.Event.TheVariants as events
use Rattle.verilog_ast.specs.declared.EdgeKind.{EdgeKind}
use Rattle.verilog_ast.specs.declared.EdgeKind.TheVariants.{Pos, Neg, Level}
use Rattle.verilog_reading.specs.Lexemes.{Spot, mark_in, word_in, Named, ident_in, dval_in, end_in}
use Rattle.verilog_reading.specs.ExprTree.{ExprTree, TargetTree}
use Rattle.verilog_reading.specs.Outcome.{Outcome, done, next, expect}
use Rattle.verilog_reading.specs.Lists.{more, many}
use Rattle.verilog_reading.specs.Reader.{closed}
use Rattle.verilog_reading.specs.StmtReader.{Lower, lower}
use Rattle.verilog_reading.specs.SourceTree.{Bounds, ParamTree, ordered, named, ItemTree, ModuleTree, joined}
use Rattle.verilog_reading.specs.ItemReading.{IsItem, is_decls, is_params, is_assigns, is_gates, is_instances, is_always, is_initial, IsKind, is_direction, is_wire, is_reg, IsDirection, is_input, is_output, is_output_reg, IsModule, is_module, edge_of, params_from, first_form, has_start, has_delay, Ports}
use Rattle.verilog_reading.specs.ItemReader as reader
use Rattle.verilog_reading.specs.ItemReader.{GateWord, gate_in, separator_in}
use Rattle.verilog_reading.specs.Laws.{Local}
use Rattle.verilog_reading.proofs.Local.{local_done, local_then, local_next, local_expect, local_closed, local_peek, local_if, local_more, local_many, Eats}
use Rattle.verilog_reading.proofs.StmtLocal.{LocalLower, local_lower, says_lower, eats_by}
use Rattle.verilog_reading.proofs.ItemSays.{says_item, says_module}

pub local_then_done : {A B : Type 0} (f : A → B) (r : List Token → Outcome A) → Local r → Local (reader.then_done f r)
local_then_done f r l = local_then r (λ a. done (f a)) l (λ a. local_done (f a))

pub local_then_both : {A B D : Type 0} (f : A → B → D) (r : List Token → Outcome A) (s : List Token → Outcome B) → Local r → Local s → Local (reader.then_both f r s)
local_then_both f r s l m = local_then r (λ a. reader.then_done (f a) s) l (λ a. local_then_done (f a) s m)

pub local_past : {A B : Type 0} (r : List Token → Outcome A) (s : List Token → Outcome B) → Local r → Local s → Local (reader.past r s)
local_past r s l m = local_then r (λ _. s) l (λ _. m)

pub local_list_more : {A B : Type 0} (test : Token → Option B) (m : MarkKind) (item : List Token → Outcome A) → Local item → (a : A) → Local (reader.list_more test m item a)
local_list_more test m item l a = local_then (more test item) (reader.list_end m a) (local_more test item l) (λ bs. local_closed m (a ∷ bs))

pub local_list : {A B : Type 0} (test : Token → Option B) (m : MarkKind) (first item : List Token → Outcome A) → Local first → Local item → Local (reader.list test m first item)
local_list test m first item f l = local_then first (reader.list_more test m item) f (local_list_more test m item l)

pub local_listed : {A : Type 0} (m : MarkKind) (item : List Token → Outcome A) → Local item → Local (reader.listed m item)
local_listed m item l = local_list (mark_in Comma) m item item l l

-- without expressions
pub local_wire : (kind : DeclKind) → Local (reader.maybe_wire kind)
local_wire kind = local_next (word_in k.Wire) (λ _. done kind) (done kind) (λ _. local_done kind) (local_done kind)

pub local_output : Local reader.output
local_output = local_next (word_in k.Reg) (λ _. done OutputReg) (reader.maybe_wire Output) (λ _. local_done OutputReg) (local_wire Output)

pub local_direction : Local reader.direction
local_direction = local_next (word_in k.Input) (λ _. reader.maybe_wire Input) (expect (word_in k.Output) (λ _. reader.output)) (λ _. local_wire Input) (local_expect (word_in k.Output) (λ _. reader.output) (λ _. local_output))

local_edge_name : (kind : EdgeKind) → Local (reader.edge_name kind)
local_edge_name kind = local_expect ident_in (λ n. done (edge_of kind n.name)) (λ n. local_done (edge_of kind n.name))

pub local_edge : Local reader.edge
local_edge = local_next (word_in k.PosEdge) (λ _. reader.edge_name Pos) (next (word_in k.NegEdge) (λ _. reader.edge_name Neg) (reader.edge_name Level)) (λ _. local_edge_name Pos)
    (local_next (word_in k.NegEdge) (λ _. reader.edge_name Neg) (reader.edge_name Level) (λ _. local_edge_name Neg) (local_edge_name Level))

pub local_event : Local reader.event
local_event = local_expect (mark_in At) (λ _. reader.at_event) (λ _. local_next (mark_in Star) (λ _. done events.Star) (expect (mark_in ParenOpen) (λ _. reader.in_event)) (λ _. local_done events.Star)
    (local_expect (mark_in ParenOpen) (λ _. reader.in_event) (λ _. local_next (mark_in Star) (λ _. closed ParenClose events.Star) (reader.then_done events.Edges (reader.list separator_in ParenClose reader.edge reader.edge))
    (λ _. local_closed ParenClose events.Star) (local_then_done events.Edges (reader.list separator_in ParenClose reader.edge reader.edge) (local_list separator_in ParenClose reader.edge reader.edge local_edge local_edge)))))

pub local_delay : Local reader.maybe_delay
local_delay = local_next (mark_in Hash) reader.in_delay (done tt) (λ _. local_next (mark_in ParenOpen) reader.in_delays (expect dval_in (λ _. done tt))
    (λ _. local_expect dval_in (λ _. next (mark_in Comma) reader.second_delay reader.delay_end) (λ _. local_next (mark_in Comma) reader.second_delay reader.delay_end
    (λ _. local_expect dval_in (λ _. reader.delay_end) (λ _. local_closed ParenClose tt)) (local_closed ParenClose tt)))
    (local_expect dval_in (λ _. done tt) (λ _. local_done tt))) (local_done tt)

pub local_delay_of : (kind : DeclKind) → Local (reader.delay_of kind)
local_delay_of kind = local_if (has_delay kind) reader.maybe_delay (done tt) local_delay (local_done tt)

pub local_bare : Local reader.bare_name
local_bare = local_expect ident_in (λ n. done n.name) (λ n. local_done n.name)

module _ (l : Lower) (i : LocalLower l) where
  pub local_in_right : (a : ExprTree) (p : Spot) → Local (reader.in_right l a p)
  local_in_right a p = local_then l.exprs.expr (reader.right_end a) i.exprs.expr (λ b. local_closed BracketClose (Some (record { left = a; right = b })))

  pub local_at_right : (a : ExprTree) → Local (reader.at_right l a)
  local_at_right a = local_expect (mark_in Colon) (reader.in_right l a) (local_in_right a)

  pub local_in_range : (p : Spot) → Local (reader.in_range l p)
  local_in_range p = local_then l.exprs.expr (reader.at_right l) i.exprs.expr local_at_right

  pub local_maybe_range : Local (reader.maybe_range l)
  local_maybe_range = local_next (mark_in BracketOpen) (reader.in_range l) (done None) local_in_range (local_done None)

  pub local_init : Local (reader.init l)
  local_init = local_next (mark_in Equals) (λ _. reader.then_done Some l.exprs.expr) (done None) (λ _. local_then_done Some l.exprs.expr i.exprs.expr) (local_done None)

  pub local_setting : Local (reader.setting l)
  local_setting = local_expect ident_in (reader.at_setting l) (λ n. local_expect (mark_in Equals) (λ _. reader.then_done (reader.set_to n.name) l.exprs.expr) (λ _. local_then_done (reader.set_to n.name) l.exprs.expr i.exprs.expr))

  pub local_in_var : (n : Named) → Local (reader.in_var l n)
  local_in_var n = local_then_both (reader.var_of n.name) (reader.maybe_range l) (reader.init l) local_maybe_range local_init

  pub local_var : Local (reader.var l)
  local_var = local_expect ident_in (reader.in_var l) local_in_var

  pub local_vars : (kind : DeclKind) → Local (reader.vars l kind)
  local_vars kind = local_past (reader.delay_of kind) (reader.listed Semicolon (reader.var l)) (local_delay_of kind) (local_listed Semicolon (reader.var l) local_var)

  pub local_at_driven : (t : TargetTree) → Local (reader.at_driven l t)
  local_at_driven t = local_expect (mark_in Equals) (λ _. reader.then_done (reader.drive t) l.exprs.expr) (λ _. local_then_done (reader.drive t) l.exprs.expr i.exprs.expr)

  pub local_driven : Local (reader.driven l)
  local_driven = local_then l.target (reader.at_driven l) i.target local_at_driven

  pub local_assigns : (p : Place) → Local (reader.then_done (reader.assign_items p) (reader.listed Semicolon (reader.driven l)))
  local_assigns p = local_then_done (reader.assign_items p) (reader.listed Semicolon (reader.driven l)) (local_listed Semicolon (reader.driven l) local_driven)

  pub local_terminals : Local (reader.terminals l)
  local_terminals = local_expect (mark_in ParenOpen) (λ _. reader.listed ParenClose l.exprs.expr) (λ _. local_listed ParenClose l.exprs.expr i.exprs.expr)

  pub local_gate : Local (reader.gate l)
  local_gate = local_next ident_in (λ _. reader.terminals l) (reader.terminals l) (λ _. local_terminals) local_terminals

  pub local_gates : (p : Place) (kind : GateKind) → Local (reader.then_done (reader.gate_items p kind) (reader.listed Semicolon (reader.gate l)))
  local_gates p kind = local_then_done (reader.gate_items p kind) (reader.listed Semicolon (reader.gate l)) (local_listed Semicolon (reader.gate l) local_gate)

  pub local_value : Local (reader.value l)
  local_value = local_peek reader.value_end (done None) (reader.then_done Some l.exprs.expr) (local_done None) (local_then_done Some l.exprs.expr i.exprs.expr)

  pub local_in_conn : (n : Named) (p : Spot) → Local (reader.in_conn l n p)
  local_in_conn n p = local_then (reader.value l) (reader.conn_end n.name) local_value (λ e. local_closed ParenClose (record { name = n.name; value = e }))

  pub local_conn : Local (reader.conn l)
  local_conn = local_expect (mark_in Dot) (reader.in_dot l) (λ p. local_expect ident_in (reader.at_conn l) (λ n. local_expect (mark_in ParenOpen) (reader.in_conn l n) (local_in_conn n)))

  pub local_in_conns : (p : Spot) → Local (reader.in_conns l p)
  local_in_conns p = local_peek (mark_in Dot) (reader.then_done named (reader.listed ParenClose (reader.conn l))) (reader.then_done reader.as_ordered (reader.listed ParenClose (reader.value l)))
      (local_then_done named (reader.listed ParenClose (reader.conn l)) (local_listed ParenClose (reader.conn l) local_conn))
      (local_then_done reader.as_ordered (reader.listed ParenClose (reader.value l)) (local_listed ParenClose (reader.value l) local_value))

  pub local_conns : Local (reader.conns l)
  local_conns = local_expect (mark_in ParenOpen) (reader.in_conns l) local_in_conns

  pub local_overrides : Local (reader.overrides l)
  local_overrides = local_next (mark_in Hash) (λ _. reader.conns l) (done (ordered [])) (λ _. local_conns) (local_done (ordered []))

  pub local_placed : Local (reader.placed l)
  local_placed = local_expect ident_in (λ n. reader.then_done (reader.place_at n.name) (reader.conns l)) (λ n. local_then_done (reader.place_at n.name) (reader.conns l) local_conns)

  -- items
  pub local_decls : (p : Place) (kind : DeclKind) → Local (reader.decls l p kind)
  local_decls p kind = local_then_both (reader.decl_items p kind) (reader.maybe_range l) (reader.vars l kind) local_maybe_range (local_vars kind)

  pub local_item : Local (reader.item l)
  local_item = local_next (word_in k.Input) (reader.in_input l) _ (λ p. local_then (reader.maybe_wire Input) (reader.decls l p.place) (local_wire Input) (local_decls p.place))
      (local_next (word_in k.Output) (reader.in_output l) _ (λ p. local_then reader.output (reader.decls l p.place) local_output (local_decls p.place))
      (local_next (word_in k.Wire) (λ p. reader.decls l p.place Wire) _ (λ p. local_decls p.place Wire)
      (local_next (word_in k.Reg) (λ p. reader.decls l p.place Reg) _ (λ p. local_decls p.place Reg)
      (local_next (word_in k.Parameter) (reader.in_params l false) _ (local_params false)
      (local_next (word_in k.LocalParam) (reader.in_params l true) _ (local_params true)
      (local_next (word_in k.Assign) (reader.in_assigns l) _ (λ p. local_past reader.maybe_delay (reader.then_done (reader.assign_items p.place) (reader.listed Semicolon (reader.driven l))) local_delay (local_assigns p.place))
      (local_next gate_in (reader.in_gates l) _ (λ g. local_past reader.maybe_delay (reader.then_done (reader.gate_items g.spot.place g.kind) (reader.listed Semicolon (reader.gate l))) local_delay (local_gates g.spot.place g.kind))
      (local_next ident_in (reader.in_instances l) _ (λ n. local_then_both (reader.instance_items n.spot.place n.name) (reader.overrides l) (reader.listed Semicolon (reader.placed l)) local_overrides (local_listed Semicolon (reader.placed l) local_placed))
      (local_next (word_in k.Always) (reader.in_always l) _ (λ p. local_then_both (reader.always_items p.place) reader.event l.stmt local_event i.stmt)
      (local_expect (word_in k.Initial) (reader.in_initial l) (λ p. local_then_done (reader.initial_items p.place) l.stmt i.stmt)))))))))))
    where
      local_params : (b : Bool) (p : Spot) → Local (reader.in_params l b p)
      local_params b p = local_then_both (reader.param_items p.place b) (reader.maybe_range l) (reader.listed Semicolon (reader.setting l)) local_maybe_range (local_listed Semicolon (reader.setting l) local_setting)

  -- headers
  pub local_in_long : (b : Bool) → Local (reader.in_long l b)
  local_in_long b = local_then_both (reader.long_of b) (reader.maybe_range l) (reader.setting l) local_maybe_range local_setting

  pub local_long : Local (reader.long_pdecl l)
  local_long = local_next (word_in k.Parameter) (λ _. reader.in_long l false) _ (λ _. local_in_long false) (local_expect (word_in k.LocalParam) (λ _. reader.in_long l true) (λ _. local_in_long true))

  pub local_pdecl : Local (reader.pdecl l)
  local_pdecl = local_next (word_in k.Parameter) (λ _. reader.in_long l false) _ (λ _. local_in_long false)
      (local_next (word_in k.LocalParam) (λ _. reader.in_long l true) (reader.then_done reader.short_of (reader.setting l)) (λ _. local_in_long true) (local_then_done reader.short_of (reader.setting l) local_setting))

  pub local_in_header : (p : Spot) → Local (reader.in_header l p)
  local_in_header p = local_expect (mark_in ParenOpen) (λ _. reader.then_done (params_from first_form) (reader.list (mark_in Comma) ParenClose (reader.long_pdecl l) (reader.pdecl l)))
      (λ _. local_then_done (params_from first_form) (reader.list (mark_in Comma) ParenClose (reader.long_pdecl l) (reader.pdecl l)) (local_list (mark_in Comma) ParenClose (reader.long_pdecl l) (reader.pdecl l) local_long local_pdecl))

  pub local_header : Local (reader.header l)
  local_header = local_next (mark_in Hash) (reader.in_header l) (done []) local_in_header (local_done [])

  pub local_start : (kind : DeclKind) → Local (reader.start l kind)
  local_start kind = local_if (has_start kind) (reader.init l) (done None) local_init (local_done None)

  pub local_behind_range : (kind : DeclKind) (a : Option Bounds) → Local (reader.behind_range l kind a)
  local_behind_range kind a = local_expect ident_in (reader.in_adecl l kind a) (λ n. local_then_done (reader.entry_of kind a n.name) (reader.start l kind) (local_start kind))

  pub local_behind_direction : (kind : DeclKind) → Local (reader.behind_direction l kind)
  local_behind_direction kind = local_then (reader.maybe_range l) (reader.behind_range l kind) local_maybe_range (local_behind_range kind)

  pub local_adecl : Local (reader.adecl l)
  local_adecl = local_then reader.direction (reader.behind_direction l) local_direction local_behind_direction

  pub local_entry : Local (reader.entry l)
  local_entry = local_next ident_in (λ n. reader.then_done (reader.short_entry_of n.name) (reader.init l)) (reader.adecl l) (λ n. local_then_done (reader.short_entry_of n.name) (reader.init l) local_init) local_adecl

  pub local_in_ports : (p : Spot) → Local (reader.in_ports l p)
  local_in_ports p = local_next (mark_in ParenClose) (λ _. done reader.without_ports) _ (λ _. local_done reader.without_ports)
      (local_peek ident_in (reader.then_done reader.old_of (reader.listed ParenClose reader.bare_name)) (reader.then_done reader.ansi_of (reader.list (mark_in Comma) ParenClose (reader.adecl l) (reader.entry l)))
      (local_then_done reader.old_of (reader.listed ParenClose reader.bare_name) (local_listed ParenClose reader.bare_name local_bare))
      (local_then_done reader.ansi_of (reader.list (mark_in Comma) ParenClose (reader.adecl l) (reader.entry l)) (local_list (mark_in Comma) ParenClose (reader.adecl l) (reader.entry l) local_adecl local_entry)))

  pub local_ports : Local (reader.ports l)
  local_ports = local_next (mark_in ParenOpen) (reader.in_ports l) (done reader.without_ports) local_in_ports (local_done reader.without_ports)

  module _ (item_eats : Eats (reader.item l)) where
    pub local_in_items : (p : Place) (n : List ℕ) (ps : List ParamTree) (q : Ports) (o : Spot) → Local (reader.in_items l p n ps q o)
    local_in_items p n ps q o = local_then (many (word_in k.EndModule) (reader.item l)) (reader.module_end p n ps q) (local_many (word_in k.EndModule) (reader.item l) item_eats local_item)
        (λ rows. local_done (record { place = p; name = n; ansi = q.ansi; params = ps; ports = q.list; items = joined rows.0 }))

    pub local_behind_ports : (p : Place) (n : List ℕ) (ps : List ParamTree) (q : Ports) → Local (reader.behind_ports l p n ps q)
    local_behind_ports p n ps q = local_expect (mark_in Semicolon) (reader.in_items l p n ps q) (local_in_items p n ps q)

    pub local_behind_header : (p : Place) (n : List ℕ) (ps : List ParamTree) → Local (reader.behind_header l p n ps)
    local_behind_header p n ps = local_then (reader.ports l) (reader.behind_ports l p n ps) local_ports (local_behind_ports p n ps)

    pub local_in_module : (p : Spot) (n : Named) → Local (reader.in_module l p n)
    local_in_module p n = local_then (reader.header l) (reader.behind_header l p.place n.name) local_header (local_behind_header p.place n.name)

    pub local_module : Local (reader.read_module l)
    local_module = local_expect (word_in k.Module) (reader.at_module l) (λ p. local_expect ident_in (reader.in_module l p) (local_in_module p))

    local_source : Eats (reader.read_module l) → Local (reader.source l)
    local_source eats = local_then (many end_in (reader.read_module l)) reader.source_end (local_many end_in (reader.read_module l) eats local_module) (λ rows. local_done rows.0)

-- each item and each module has a token
kind_has_token : {p : Spot} {u : List Token} {kind : DeclKind} → IsKind p u kind → (v : List Token) → 1 ≤ length (u ++ v)
kind_has_token (is_direction d) v = go d v
  where
    go : {p : Spot} {u : List Token} {kind : DeclKind} → IsDirection p u kind → (v : List Token) → 1 ≤ length (u ++ v)
    go (is_input p h) v = omega arith
    go (is_output p h) v = omega arith
    go (is_output_reg p q) v = omega arith
kind_has_token (is_wire p) v = omega arith
kind_has_token (is_reg p) v = omega arith

item_has_token : {u : List Token} {xs : List ItemTree} → IsItem u xs → 1 ≤ length u
item_has_token (is_decls {u = u} {v = v} {w = w} h x y) = kind_has_token h (v ++ w)
item_has_token (is_params b p x y) = omega arith
item_has_token (is_assigns p d x) = omega arith
item_has_token (is_gates w p e d x) = omega arith
item_has_token (is_instances n x y) = omega arith
item_has_token (is_always p x y) = omega arith
item_has_token (is_initial p x) = omega arith

module_has_token : {u : List Token} {m : ModuleTree} → IsModule u m → 1 ≤ length u
module_has_token (is_module p q r n x y z) = omega arith

pub eats_items : (n : ℕ) → Eats (reader.item (lower n))
eats_items n = eats_by _ (reader.item (lower n)) (says_item n (lower n) (says_lower n)) (λ u a p. item_has_token p.0)

pub eats_modules : (n : ℕ) → Eats (reader.read_module (lower n))
eats_modules n = eats_by _ (reader.read_module (lower n)) (says_module n (lower n) (says_lower n)) (λ u a p. module_has_token p.0)

pub local_sources : (n : ℕ) → Local (reader.read_source n)
unfolding reader.read_source
local_sources n = local_source (lower n) (local_lower n) (eats_items n) (eats_modules n)
