-- With more levels the outcome of the readers of items, modules and sources is the same, but for a token that is refused for its depth: that one is passed.
use Rattle.std.proofs.Common.{ℕ, suc, Bool, true, false, List, [], ◌∷◌, Option, Some, None}
use Rattle.cdc_base.specs.declared.fault.Place.{Place}
use Rattle.cdc_base.specs.declared.words.Keyword.TheVariants as k
use Rattle.verilog_lex.specs.declared.token.Token.{Token}
use Rattle.verilog_lex.specs.declared.marks.MarkKind.{MarkKind}
use Rattle.verilog_lex.specs.declared.marks.MarkKind.TheVariants.{ParenOpen, ParenClose, BracketOpen, BracketClose, Comma, Colon, Semicolon, Dot, Hash, At, Equals, Star}
use Rattle.verilog_ast.specs.declared.DeclKind.{DeclKind}
use Rattle.verilog_ast.specs.declared.DeclKind.TheVariants.{Input, Output, OutputReg, Wire, Reg}
use Rattle.verilog_ast.specs.declared.GateKind.{GateKind}
use Rattle.verilog_ast.specs.declared.Event.TheVariants as events
use Rattle.verilog_ast.specs.declared.EdgeKind.{EdgeKind}
use Rattle.verilog_ast.specs.declared.EdgeKind.TheVariants.{Pos, Neg, Level}
use Rattle.verilog_reading.specs.Lexemes.{Spot, mark_in, word_in, ident_in, dval_in, end_in}
use Rattle.verilog_reading.specs.Outcome.{Outcome, done, next, expect}
use Rattle.verilog_reading.specs.Lists.{more, many}
use Rattle.verilog_reading.specs.Reader.{closed}
use Rattle.verilog_reading.specs.StmtReader.{Lower, lower}
use Rattle.verilog_reading.specs.SourceTree.{ordered, named, joined}
use Rattle.verilog_reading.specs.ItemReading.{edge_of, params_from, first_form, has_start, has_delay}
use Rattle.verilog_reading.specs.ItemReader as reader
use Rattle.verilog_reading.specs.ItemReader.{GateWord, gate_in, separator_in}
use Rattle.verilog_reading.specs.Laws.{Above, Local}
use Rattle.verilog_reading.proofs.Local.{local_done, local_closed, Eats}
use Rattle.verilog_reading.proofs.Above.{above_then, above_next, above_done, above_expect, above_closed, above_peek, above_if, above_more, above_many}
use Rattle.verilog_reading.proofs.StmtLocal.{LocalLower, local_lower}
use Rattle.verilog_reading.proofs.StmtAbove.{AboveLower, above_exprs, above_aims, above_stmts}
use Rattle.verilog_reading.proofs.ItemLocal.{local_then_done, local_list_more, local_listed, local_edge, local_bare, local_at_right, local_init, local_setting, local_var, local_at_driven, local_driven, local_gate, local_value, local_conn, local_placed, local_vars, local_assigns, local_gates, local_decls, local_item, local_pdecl, local_behind_range, local_behind_direction, local_entry, local_behind_ports, local_behind_header, local_module, eats_items}

above_then_done : {A B : Type 0} (f : A → B) (r r2 : List Token → Outcome A) (ts : List Token) → Above (r ts) (r2 ts) → Above (reader.then_done f r ts) (reader.then_done f r2 ts)
above_then_done f r r2 ts h = above_then (r ts) (r2 ts) h (λ a. done (f a)) (λ a. done (f a)) (λ a rest _. above_done (f a) rest) (λ a. local_done (f a))

above_then_both : {A B D : Type 0} (f : A → B → D) (r r2 : List Token → Outcome A) (s s2 : List Token → Outcome B) (ts : List Token) → Above (r ts) (r2 ts) → ((xs : List Token) → Above (s xs) (s2 xs)) → Local s2
    → Above (reader.then_both f r s ts) (reader.then_both f r2 s2 ts)
above_then_both f r r2 s s2 ts h i l = above_then (r ts) (r2 ts) h (λ a. reader.then_done (f a) s) (λ a. reader.then_done (f a) s2) (λ a rest _. above_then_done (f a) s s2 rest (i rest)) (λ a. local_then_done (f a) s2 l)

above_past : {A B : Type 0} (r r2 : List Token → Outcome A) (s s2 : List Token → Outcome B) (ts : List Token) → Above (r ts) (r2 ts) → ((xs : List Token) → Above (s xs) (s2 xs)) → Local s2 → Above (reader.past r s ts) (reader.past r2 s2 ts)
above_past r r2 s s2 ts h i l = above_then (r ts) (r2 ts) h (λ _. s) (λ _. s2) (λ a rest _. i rest) (λ _. l)

above_list : {A B : Type 0} (test : Token → Option B) (m : MarkKind) (first first2 item item2 : List Token → Outcome A) → ((ts : List Token) → Above (first ts) (first2 ts)) → ((ts : List Token) → Above (item ts) (item2 ts)) → Local item2
    → (ts : List Token) → Above (reader.list test m first item ts) (reader.list test m first2 item2 ts)
above_list test m first first2 item item2 f h l ts = above_then (first ts) (first2 ts) (f ts) (reader.list_more test m item) (reader.list_more test m item2)
    (λ a rest _. above_then (more test item rest) (more test item2 rest) (above_more test item item2 h l rest) (reader.list_end m a) (reader.list_end m a) (λ bs ys _. above_closed m (a ∷ bs) ys) (λ bs. local_closed m (a ∷ bs)))
    (local_list_more test m item2 l)

above_listed : {A : Type 0} (m : MarkKind) (item item2 : List Token → Outcome A) → ((ts : List Token) → Above (item ts) (item2 ts)) → Local item2 → (ts : List Token) → Above (reader.listed m item ts) (reader.listed m item2 ts)
above_listed m item item2 h l = above_list (mark_in Comma) m item item2 item item2 h h l

-- without expressions
above_wire : (kind : DeclKind) (ts : List Token) → Above (reader.maybe_wire kind ts) (reader.maybe_wire kind ts)
above_wire kind = above_next (word_in k.Wire) (λ _. done kind) (λ _. done kind) (done kind) (done kind) (λ _. above_done kind) (above_done kind)

above_output : (ts : List Token) → Above (reader.output ts) (reader.output ts)
above_output = above_next (word_in k.Reg) (λ _. done OutputReg) (λ _. done OutputReg) (reader.maybe_wire Output) (reader.maybe_wire Output) (λ _. above_done OutputReg) (above_wire Output)

above_direction : (ts : List Token) → Above (reader.direction ts) (reader.direction ts)
above_direction = above_next (word_in k.Input) (λ _. reader.maybe_wire Input) (λ _. reader.maybe_wire Input) (expect (word_in k.Output) (λ _. reader.output)) (expect (word_in k.Output) (λ _. reader.output)) (λ _. above_wire Input)
    (above_expect (word_in k.Output) (λ _. reader.output) (λ _. reader.output) (λ _. above_output))

above_edge_name : (kind : EdgeKind) (ts : List Token) → Above (reader.edge_name kind ts) (reader.edge_name kind ts)
above_edge_name kind = above_expect ident_in (λ n. done (edge_of kind n.name)) (λ n. done (edge_of kind n.name)) (λ n. above_done (edge_of kind n.name))

above_edge : (ts : List Token) → Above (reader.edge ts) (reader.edge ts)
above_edge = above_next (word_in k.PosEdge) (λ _. reader.edge_name Pos) (λ _. reader.edge_name Pos) (next (word_in k.NegEdge) (λ _. reader.edge_name Neg) (reader.edge_name Level)) (next (word_in k.NegEdge) (λ _. reader.edge_name Neg) (reader.edge_name Level)) (λ _. above_edge_name Pos)
    (above_next (word_in k.NegEdge) (λ _. reader.edge_name Neg) (λ _. reader.edge_name Neg) (reader.edge_name Level) (reader.edge_name Level) (λ _. above_edge_name Neg) (above_edge_name Level))

above_event : (ts : List Token) → Above (reader.event ts) (reader.event ts)
above_event = above_expect (mark_in At) (λ _. reader.at_event) (λ _. reader.at_event) (λ _. above_next (mark_in Star) (λ _. done events.Star) (λ _. done events.Star) (expect (mark_in ParenOpen) (λ _. reader.in_event)) (expect (mark_in ParenOpen) (λ _. reader.in_event)) (λ _. above_done events.Star)
    (above_expect (mark_in ParenOpen) (λ _. reader.in_event) (λ _. reader.in_event) (λ _. above_next (mark_in Star) (λ _. closed ParenClose events.Star) (λ _. closed ParenClose events.Star)
    (reader.then_done events.Edges (reader.list separator_in ParenClose reader.edge reader.edge)) (reader.then_done events.Edges (reader.list separator_in ParenClose reader.edge reader.edge)) (λ _. above_closed ParenClose events.Star)
    (λ ts. above_then_done events.Edges (reader.list separator_in ParenClose reader.edge reader.edge) (reader.list separator_in ParenClose reader.edge reader.edge) ts (above_list separator_in ParenClose reader.edge reader.edge reader.edge reader.edge above_edge above_edge local_edge ts)))))

above_delay : (ts : List Token) → Above (reader.maybe_delay ts) (reader.maybe_delay ts)
above_delay = above_next (mark_in Hash) reader.in_delay reader.in_delay (done tt) (done tt) (λ _. above_next (mark_in ParenOpen) reader.in_delays reader.in_delays (expect dval_in (λ _. done tt)) (expect dval_in (λ _. done tt))
    (λ _. above_expect dval_in (λ _. next (mark_in Comma) reader.second_delay reader.delay_end) (λ _. next (mark_in Comma) reader.second_delay reader.delay_end)
    (λ _. above_next (mark_in Comma) reader.second_delay reader.second_delay reader.delay_end reader.delay_end
    (λ _. above_expect dval_in (λ _. reader.delay_end) (λ _. reader.delay_end) (λ _. above_closed ParenClose tt)) (above_closed ParenClose tt)))
    (above_expect dval_in (λ _. done tt) (λ _. done tt) (λ _. above_done tt))) (above_done tt)

above_delay_of : (kind : DeclKind) (ts : List Token) → Above (reader.delay_of kind ts) (reader.delay_of kind ts)
above_delay_of kind = above_if (has_delay kind) reader.maybe_delay reader.maybe_delay (done tt) (done tt) above_delay (above_done tt)

above_bare : (ts : List Token) → Above (reader.bare_name ts) (reader.bare_name ts)
above_bare = above_expect ident_in (λ n. done n.name) (λ n. done n.name) (λ n. above_done n.name)

module _ (l l2 : Lower) (h : AboveLower l l2) (i : LocalLower l2) where
  above_range : (ts : List Token) → Above (reader.maybe_range l ts) (reader.maybe_range l2 ts)
  above_range = above_next (mark_in BracketOpen) (reader.in_range l) (reader.in_range l2) (done None) (done None)
      (λ p ts. above_then (l.exprs.expr ts) (l2.exprs.expr ts) (h.exprs ts) (reader.at_right l) (reader.at_right l2)
      (λ a rest _. above_expect (mark_in Colon) (reader.in_right l a) (reader.in_right l2 a)
      (λ q xs. above_then (l.exprs.expr xs) (l2.exprs.expr xs) (h.exprs xs) (reader.right_end a) (reader.right_end a) (λ b ys _. above_closed BracketClose (Some (record { left = a; right = b })) ys) (λ b. local_closed BracketClose (Some (record { left = a; right = b })))) rest)
      (local_at_right l2 i))
      (above_done None)

  above_init : (ts : List Token) → Above (reader.init l ts) (reader.init l2 ts)
  above_init = above_next (mark_in Equals) (λ _. reader.then_done Some l.exprs.expr) (λ _. reader.then_done Some l2.exprs.expr) (done None) (done None) (λ _ ts. above_then_done Some l.exprs.expr l2.exprs.expr ts (h.exprs ts)) (above_done None)

  above_setting : (ts : List Token) → Above (reader.setting l ts) (reader.setting l2 ts)
  above_setting = above_expect ident_in (reader.at_setting l) (reader.at_setting l2) (λ n. above_expect (mark_in Equals) (λ _. reader.then_done (reader.set_to n.name) l.exprs.expr) (λ _. reader.then_done (reader.set_to n.name) l2.exprs.expr)
      (λ _ ts. above_then_done (reader.set_to n.name) l.exprs.expr l2.exprs.expr ts (h.exprs ts)))

  above_var : (ts : List Token) → Above (reader.var l ts) (reader.var l2 ts)
  above_var = above_expect ident_in (reader.in_var l) (reader.in_var l2) (λ n ts. above_then_both (reader.var_of n.name) (reader.maybe_range l) (reader.maybe_range l2) (reader.init l) (reader.init l2) ts (above_range ts) above_init (local_init l2 i))

  above_vars : (kind : DeclKind) (ts : List Token) → Above (reader.vars l kind ts) (reader.vars l2 kind ts)
  above_vars kind ts = above_past (reader.delay_of kind) (reader.delay_of kind) (reader.listed Semicolon (reader.var l)) (reader.listed Semicolon (reader.var l2)) ts (above_delay_of kind ts)
      (above_listed Semicolon (reader.var l) (reader.var l2) above_var (local_var l2 i)) (local_listed Semicolon (reader.var l2) (local_var l2 i))

  above_driven : (ts : List Token) → Above (reader.driven l ts) (reader.driven l2 ts)
  above_driven ts = above_then (l.target ts) (l2.target ts) (h.target ts) (reader.at_driven l) (reader.at_driven l2)
      (λ t rest _. above_expect (mark_in Equals) (λ _. reader.then_done (reader.drive t) l.exprs.expr) (λ _. reader.then_done (reader.drive t) l2.exprs.expr) (λ _ xs. above_then_done (reader.drive t) l.exprs.expr l2.exprs.expr xs (h.exprs xs)) rest)
      (local_at_driven l2 i)

  above_terminals : (ts : List Token) → Above (reader.terminals l ts) (reader.terminals l2 ts)
  above_terminals = above_expect (mark_in ParenOpen) (λ _. reader.listed ParenClose l.exprs.expr) (λ _. reader.listed ParenClose l2.exprs.expr) (λ _. above_listed ParenClose l.exprs.expr l2.exprs.expr h.exprs i.exprs.expr)

  above_gate : (ts : List Token) → Above (reader.gate l ts) (reader.gate l2 ts)
  above_gate = above_next ident_in (λ _. reader.terminals l) (λ _. reader.terminals l2) (reader.terminals l) (reader.terminals l2) (λ _. above_terminals) above_terminals

  above_value : (ts : List Token) → Above (reader.value l ts) (reader.value l2 ts)
  above_value = above_peek reader.value_end (done None) (done None) (reader.then_done Some l.exprs.expr) (reader.then_done Some l2.exprs.expr) (above_done None) (λ ts. above_then_done Some l.exprs.expr l2.exprs.expr ts (h.exprs ts))

  above_conn : (ts : List Token) → Above (reader.conn l ts) (reader.conn l2 ts)
  above_conn = above_expect (mark_in Dot) (reader.in_dot l) (reader.in_dot l2) (λ p. above_expect ident_in (reader.at_conn l) (reader.at_conn l2) (λ n. above_expect (mark_in ParenOpen) (reader.in_conn l n) (reader.in_conn l2 n)
      (λ q ts. above_then (reader.value l ts) (reader.value l2 ts) (above_value ts) (reader.conn_end n.name) (reader.conn_end n.name) (λ e rest _. above_closed ParenClose (record { name = n.name; value = e }) rest) (λ e. local_closed ParenClose (record { name = n.name; value = e })))))

  above_conns : (ts : List Token) → Above (reader.conns l ts) (reader.conns l2 ts)
  above_conns = above_expect (mark_in ParenOpen) (reader.in_conns l) (reader.in_conns l2)
      (λ p. above_peek (mark_in Dot) (reader.then_done named (reader.listed ParenClose (reader.conn l))) (reader.then_done named (reader.listed ParenClose (reader.conn l2))) (reader.then_done reader.as_ordered (reader.listed ParenClose (reader.value l))) (reader.then_done reader.as_ordered (reader.listed ParenClose (reader.value l2)))
      (λ ts. above_then_done named (reader.listed ParenClose (reader.conn l)) (reader.listed ParenClose (reader.conn l2)) ts (above_listed ParenClose (reader.conn l) (reader.conn l2) above_conn (local_conn l2 i) ts))
      (λ ts. above_then_done reader.as_ordered (reader.listed ParenClose (reader.value l)) (reader.listed ParenClose (reader.value l2)) ts (above_listed ParenClose (reader.value l) (reader.value l2) above_value (local_value l2 i) ts)))

  above_overrides : (ts : List Token) → Above (reader.overrides l ts) (reader.overrides l2 ts)
  above_overrides = above_next (mark_in Hash) (λ _. reader.conns l) (λ _. reader.conns l2) (done (ordered [])) (done (ordered [])) (λ _. above_conns) (above_done (ordered []))

  above_placed : (ts : List Token) → Above (reader.placed l ts) (reader.placed l2 ts)
  above_placed = above_expect ident_in (λ n. reader.then_done (reader.place_at n.name) (reader.conns l)) (λ n. reader.then_done (reader.place_at n.name) (reader.conns l2)) (λ n ts. above_then_done (reader.place_at n.name) (reader.conns l) (reader.conns l2) ts (above_conns ts))

  -- items
  above_decls : (p : Place) (kind : DeclKind) (ts : List Token) → Above (reader.decls l p kind ts) (reader.decls l2 p kind ts)
  above_decls p kind ts = above_then_both (reader.decl_items p kind) (reader.maybe_range l) (reader.maybe_range l2) (reader.vars l kind) (reader.vars l2 kind) ts (above_range ts) (above_vars kind) (local_vars l2 i kind)

  above_assigns : (p : Place) (ts : List Token) → Above (reader.past reader.maybe_delay (reader.then_done (reader.assign_items p) (reader.listed Semicolon (reader.driven l))) ts) (reader.past reader.maybe_delay (reader.then_done (reader.assign_items p) (reader.listed Semicolon (reader.driven l2))) ts)
  above_assigns p ts = above_past reader.maybe_delay reader.maybe_delay (reader.then_done (reader.assign_items p) (reader.listed Semicolon (reader.driven l))) (reader.then_done (reader.assign_items p) (reader.listed Semicolon (reader.driven l2))) ts (above_delay ts)
      (λ xs. above_then_done (reader.assign_items p) (reader.listed Semicolon (reader.driven l)) (reader.listed Semicolon (reader.driven l2)) xs (above_listed Semicolon (reader.driven l) (reader.driven l2) above_driven (local_driven l2 i) xs)) (local_assigns l2 i p)

  above_gates : (p : Place) (kind : GateKind) (ts : List Token) → Above (reader.past reader.maybe_delay (reader.then_done (reader.gate_items p kind) (reader.listed Semicolon (reader.gate l))) ts) (reader.past reader.maybe_delay (reader.then_done (reader.gate_items p kind) (reader.listed Semicolon (reader.gate l2))) ts)
  above_gates p kind ts = above_past reader.maybe_delay reader.maybe_delay (reader.then_done (reader.gate_items p kind) (reader.listed Semicolon (reader.gate l))) (reader.then_done (reader.gate_items p kind) (reader.listed Semicolon (reader.gate l2))) ts (above_delay ts)
      (λ xs. above_then_done (reader.gate_items p kind) (reader.listed Semicolon (reader.gate l)) (reader.listed Semicolon (reader.gate l2)) xs (above_listed Semicolon (reader.gate l) (reader.gate l2) above_gate (local_gate l2 i) xs)) (local_gates l2 i p kind)

  above_params : (b : Bool) (p : Spot) (ts : List Token) → Above (reader.in_params l b p ts) (reader.in_params l2 b p ts)
  above_params b p ts = above_then_both (reader.param_items p.place b) (reader.maybe_range l) (reader.maybe_range l2) (reader.listed Semicolon (reader.setting l)) (reader.listed Semicolon (reader.setting l2)) ts (above_range ts)
      (above_listed Semicolon (reader.setting l) (reader.setting l2) above_setting (local_setting l2 i)) (local_listed Semicolon (reader.setting l2) (local_setting l2 i))

  above_item : (ts : List Token) → Above (reader.item l ts) (reader.item l2 ts)
  above_item = above_next (word_in k.Input) (reader.in_input l) (reader.in_input l2) _ _ (λ p ts. above_then (reader.maybe_wire Input ts) (reader.maybe_wire Input ts) (above_wire Input ts) (reader.decls l p.place) (reader.decls l2 p.place) (λ kind rest _. above_decls p.place kind rest) (local_decls l2 i p.place))
      (above_next (word_in k.Output) (reader.in_output l) (reader.in_output l2) _ _ (λ p ts. above_then (reader.output ts) (reader.output ts) (above_output ts) (reader.decls l p.place) (reader.decls l2 p.place) (λ kind rest _. above_decls p.place kind rest) (local_decls l2 i p.place))
      (above_next (word_in k.Wire) (λ p. reader.decls l p.place Wire) (λ p. reader.decls l2 p.place Wire) _ _ (λ p. above_decls p.place Wire)
      (above_next (word_in k.Reg) (λ p. reader.decls l p.place Reg) (λ p. reader.decls l2 p.place Reg) _ _ (λ p. above_decls p.place Reg)
      (above_next (word_in k.Parameter) (reader.in_params l false) (reader.in_params l2 false) _ _ (above_params false)
      (above_next (word_in k.LocalParam) (reader.in_params l true) (reader.in_params l2 true) _ _ (above_params true)
      (above_next (word_in k.Assign) (reader.in_assigns l) (reader.in_assigns l2) _ _ (λ p. above_assigns p.place)
      (above_next gate_in (reader.in_gates l) (reader.in_gates l2) _ _ (λ g. above_gates g.spot.place g.kind)
      (above_next ident_in (reader.in_instances l) (reader.in_instances l2) _ _ (λ n ts. above_then_both (reader.instance_items n.spot.place n.name) (reader.overrides l) (reader.overrides l2) (reader.listed Semicolon (reader.placed l)) (reader.listed Semicolon (reader.placed l2)) ts (above_overrides ts)
      (above_listed Semicolon (reader.placed l) (reader.placed l2) above_placed (local_placed l2 i)) (local_listed Semicolon (reader.placed l2) (local_placed l2 i)))
      (above_next (word_in k.Always) (reader.in_always l) (reader.in_always l2) _ _ (λ p ts. above_then_both (reader.always_items p.place) reader.event reader.event l.stmt l2.stmt ts (above_event ts) h.stmt i.stmt)
      (above_expect (word_in k.Initial) (reader.in_initial l) (reader.in_initial l2) (λ p ts. above_then_done (reader.initial_items p.place) l.stmt l2.stmt ts (h.stmt ts))))))))))))

  -- headers
  above_in_long : (b : Bool) (ts : List Token) → Above (reader.in_long l b ts) (reader.in_long l2 b ts)
  above_in_long b ts = above_then_both (reader.long_of b) (reader.maybe_range l) (reader.maybe_range l2) (reader.setting l) (reader.setting l2) ts (above_range ts) above_setting (local_setting l2 i)

  above_long : (ts : List Token) → Above (reader.long_pdecl l ts) (reader.long_pdecl l2 ts)
  above_long = above_next (word_in k.Parameter) (λ _. reader.in_long l false) (λ _. reader.in_long l2 false) _ _ (λ _. above_in_long false)
      (above_expect (word_in k.LocalParam) (λ _. reader.in_long l true) (λ _. reader.in_long l2 true) (λ _. above_in_long true))

  above_pdecl : (ts : List Token) → Above (reader.pdecl l ts) (reader.pdecl l2 ts)
  above_pdecl = above_next (word_in k.Parameter) (λ _. reader.in_long l false) (λ _. reader.in_long l2 false) _ _ (λ _. above_in_long false)
      (above_next (word_in k.LocalParam) (λ _. reader.in_long l true) (λ _. reader.in_long l2 true) (reader.then_done reader.short_of (reader.setting l)) (reader.then_done reader.short_of (reader.setting l2)) (λ _. above_in_long true)
      (λ ts. above_then_done reader.short_of (reader.setting l) (reader.setting l2) ts (above_setting ts)))

  above_header : (ts : List Token) → Above (reader.header l ts) (reader.header l2 ts)
  above_header = above_next (mark_in Hash) (reader.in_header l) (reader.in_header l2) (done []) (done [])
      (λ p. above_expect (mark_in ParenOpen) (λ _. reader.then_done (params_from first_form) (reader.list (mark_in Comma) ParenClose (reader.long_pdecl l) (reader.pdecl l))) (λ _. reader.then_done (params_from first_form) (reader.list (mark_in Comma) ParenClose (reader.long_pdecl l2) (reader.pdecl l2)))
      (λ _ ts. above_then_done (params_from first_form) (reader.list (mark_in Comma) ParenClose (reader.long_pdecl l) (reader.pdecl l)) (reader.list (mark_in Comma) ParenClose (reader.long_pdecl l2) (reader.pdecl l2)) ts
      (above_list (mark_in Comma) ParenClose (reader.long_pdecl l) (reader.long_pdecl l2) (reader.pdecl l) (reader.pdecl l2) above_long above_pdecl (local_pdecl l2 i) ts)))
      (above_done [])

  above_start : (kind : DeclKind) (ts : List Token) → Above (reader.start l kind ts) (reader.start l2 kind ts)
  above_start kind = above_if (has_start kind) (reader.init l) (reader.init l2) (done None) (done None) above_init (above_done None)

  above_adecl : (ts : List Token) → Above (reader.adecl l ts) (reader.adecl l2 ts)
  above_adecl ts = above_then (reader.direction ts) (reader.direction ts) (above_direction ts) (reader.behind_direction l) (reader.behind_direction l2)
      (λ kind rest _. above_then (reader.maybe_range l rest) (reader.maybe_range l2 rest) (above_range rest) (reader.behind_range l kind) (reader.behind_range l2 kind)
      (λ a ys _. above_expect ident_in (reader.in_adecl l kind a) (reader.in_adecl l2 kind a) (λ n zs. above_then_done (reader.entry_of kind a n.name) (reader.start l kind) (reader.start l2 kind) zs (above_start kind zs)) ys)
      (local_behind_range l2 i kind))
      (local_behind_direction l2 i)

  above_entry : (ts : List Token) → Above (reader.entry l ts) (reader.entry l2 ts)
  above_entry = above_next ident_in (λ n. reader.then_done (reader.short_entry_of n.name) (reader.init l)) (λ n. reader.then_done (reader.short_entry_of n.name) (reader.init l2)) (reader.adecl l) (reader.adecl l2)
      (λ n ts. above_then_done (reader.short_entry_of n.name) (reader.init l) (reader.init l2) ts (above_init ts)) above_adecl

  above_ports : (ts : List Token) → Above (reader.ports l ts) (reader.ports l2 ts)
  above_ports = above_next (mark_in ParenOpen) (reader.in_ports l) (reader.in_ports l2) (done reader.without_ports) (done reader.without_ports)
      (λ p. above_next (mark_in ParenClose) (λ _. done reader.without_ports) (λ _. done reader.without_ports) _ _ (λ _. above_done reader.without_ports)
      (above_peek ident_in (reader.then_done reader.old_of (reader.listed ParenClose reader.bare_name)) (reader.then_done reader.old_of (reader.listed ParenClose reader.bare_name)) (reader.then_done reader.ansi_of (reader.list (mark_in Comma) ParenClose (reader.adecl l) (reader.entry l))) (reader.then_done reader.ansi_of (reader.list (mark_in Comma) ParenClose (reader.adecl l2) (reader.entry l2)))
      (λ ts. above_then_done reader.old_of (reader.listed ParenClose reader.bare_name) (reader.listed ParenClose reader.bare_name) ts (above_listed ParenClose reader.bare_name reader.bare_name above_bare local_bare ts))
      (λ ts. above_then_done reader.ansi_of (reader.list (mark_in Comma) ParenClose (reader.adecl l) (reader.entry l)) (reader.list (mark_in Comma) ParenClose (reader.adecl l2) (reader.entry l2)) ts
      (above_list (mark_in Comma) ParenClose (reader.adecl l) (reader.adecl l2) (reader.entry l) (reader.entry l2) above_adecl above_entry (local_entry l2 i) ts))))
      (above_done reader.without_ports)

  module _ (item_eats : Eats (reader.item l2)) where
    above_module : (ts : List Token) → Above (reader.read_module l ts) (reader.read_module l2 ts)
    above_module = above_expect (word_in k.Module) (reader.at_module l) (reader.at_module l2) (λ p. above_expect ident_in (reader.in_module l p) (reader.in_module l2 p)
        (λ n ts. above_then (reader.header l ts) (reader.header l2 ts) (above_header ts) (reader.behind_header l p.place n.name) (reader.behind_header l2 p.place n.name)
        (λ ps rest _. above_then (reader.ports l rest) (reader.ports l2 rest) (above_ports rest) (reader.behind_ports l p.place n.name ps) (reader.behind_ports l2 p.place n.name ps)
        (λ q ys _. above_expect (mark_in Semicolon) (reader.in_items l p.place n.name ps q) (reader.in_items l2 p.place n.name ps q)
        (λ o zs. above_then (many (word_in k.EndModule) (reader.item l) zs) (many (word_in k.EndModule) (reader.item l2) zs) (above_many (word_in k.EndModule) (reader.item l) (reader.item l2) above_item (local_item l2 i) zs) (reader.module_end p.place n.name ps q) (reader.module_end p.place n.name ps q)
        (λ rows xs _. above_done (record { place = p.place; name = n.name; ansi = q.ansi; params = ps; ports = q.list; items = joined rows.0 }) xs)
        (λ rows. local_done (record { place = p.place; name = n.name; ansi = q.ansi; params = ps; ports = q.list; items = joined rows.0 }))) ys)
        (local_behind_ports l2 i item_eats p.place n.name ps))
        (local_behind_header l2 i item_eats p.place n.name)))

    above_source : (ts : List Token) → Above (reader.source l ts) (reader.source l2 ts)
    above_source ts = above_then (many end_in (reader.read_module l) ts) (many end_in (reader.read_module l2) ts) (above_many end_in (reader.read_module l) (reader.read_module l2) above_module (local_module l2 i item_eats) ts) reader.source_end reader.source_end
        (λ rows rest _. above_done rows.0 rest) (λ rows. local_done rows.0)

pub above_sources : (n : ℕ) (ts : List Token) → Above (reader.read_source n ts) (reader.read_source (suc (suc (suc n))) ts)
unfolding reader.read_source
above_sources n = above_source (lower n) (lower (suc (suc (suc n)))) (record { exprs = above_exprs n; target = above_aims n; stmt = above_stmts n }) (local_lower (suc (suc (suc n)))) (eats_items (suc (suc (suc n))))
