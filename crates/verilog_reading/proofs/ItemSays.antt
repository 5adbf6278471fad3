-- What the readers of items, modules and sources give is read, and what they refuse can be completed up to there.
use Rattle.std.proofs.Common.{◌≡◌, ℕ, ◌≤◌, Bool, true, false, List, [], ◌∷◌, ◌++◌, map, Option, Some, None, refl, sym, ap, subst, ◌∙◌, append-nil, arith, rules, if◌then◌else◌}
use Rattle.cdc_base.specs.declared.words.Keyword.{Keyword}
use Rattle.cdc_base.specs.declared.words.Keyword.TheVariants as k
use Rattle.verilog_lex.specs.declared.token.Token.{Token}
use Rattle.verilog_lex.specs.declared.token.TokenKind.{TokenKind}
use Rattle.verilog_lex.specs.declared.token.TokenKind.TheVariants.{Word, Mark}
use Rattle.verilog_lex.specs.declared.marks.MarkKind.{MarkKind}
use Rattle.verilog_lex.specs.declared.marks.MarkKind.TheVariants.{ParenOpen, ParenClose, BracketOpen, BracketClose, Comma, Colon, Semicolon, Dot, Hash, At, Equals, Star}
use Rattle.verilog_ast.specs.declared.DeclKind.{DeclKind}
use Rattle.verilog_ast.specs.declared.DeclKind.TheVariants.{Input, Output, OutputReg, Wire, Reg}
use Rattle.verilog_ast.specs.declared.GateKind.{GateKind}
use Rattle.verilog_ast.specs.declared.Event.TheVariants as events
use Rattle.verilog_ast.specs.declared.Edge.{Edge}
use Rattle.verilog_ast.specs.declared.EdgeKind.{EdgeKind}
use Rattle.verilog_ast.specs.declared.EdgeKind.TheVariants.{Pos, Neg, Level}
use Rattle.verilog_reading.specs.Lexemes.{Spot, spot_of, token_at, mark, mark_in, word, word_in, Named, ident, ident_in, Dval, by_name, dval, dval_in, closing, end_in}
use Rattle.verilog_reading.specs.ExprTree.{ExprTree, height}
use Rattle.verilog_reading.specs.Outcome.{Outcome, done, next, expect}
use Rattle.verilog_reading.specs.Lists.{more, many, AreMore, AreMany}
use Rattle.verilog_reading.specs.Reading.{IsExpr, are_bounds}
use Rattle.verilog_reading.specs.Reader.{closed}
use Rattle.verilog_reading.specs.StmtReader.{Lower, lower}
use Rattle.verilog_reading.specs.SourceTree.{Bounds, ordered, named, ItemTree, ModuleTree, most, param_height, port_height, conn_height, conns_height, item_height, module_height, source_height, joined}
use Rattle.verilog_reading.specs.ItemReading.{IsList, is_list, IsListed, IsMaybeRange, no_range, a_range, IsInit, no_init, an_init, Setting, IsSetting, is_setting, MayBeWord, no_word, the_word, IsDirection, is_input, is_output, is_output_reg, IsKind, is_direction, is_wire, is_reg, IsVar, is_var, IsDelay, no_delay, bare_delay, one_delay, two_delays, has_delay, IsDelayOf, not_delayed, may_delay, IsVars, are_vars, IsDriven, is_driven, gate_of, IsGate, plain_gate, named_gate, IsValue, no_value, a_value, IsConn, is_conn, IsConns, is_ordered, is_named, IsOverrides, no_overrides, overrides, Placed, IsPlaced, is_placed, edge_of, IsEdge, is_positive, is_negative, is_level, Separator, separator, IsEvent, is_star, is_star_in, is_edges, decl_item, param_item, assign_item, gate_item, instance_item, param_word, IsItem, is_decls, is_params, is_assigns, is_gates, is_instances, is_always, is_initial, Pdecl, IsLongPdecl, is_long, IsPdecl, long_pdecl, short_pdecl, params_from, first_form, IsHeader, no_header, a_header, has_start, IsStart, no_start, a_start, IsAdecl, is_adecl, IsEntry, long_entry, short_entry, first_shape, IsName, a_name, bare, Ports, IsPorts, no_ports, empty_ports, old_ports, ansi_ports, IsModule, is_module, IsSource, is_source}
use Rattle.verilog_reading.specs.ItemReader as reader
use Rattle.verilog_reading.specs.ItemReader.{GateWord, gate_word, gate_word_of, gate_in, as_gate, separator_in, separator_of}
use Rattle.verilog_reading.specs.Laws.{Says, Within}
use Rattle.verilog_reading.proofs.Tests.{nowhere, mark_is, word_is, ident_is, dval_is, end_is, token_is}
use Rattle.verilog_reading.proofs.Says.{says_done, says_then, says_next, says_found, says_mark, says_word, says_must, says_expect, says_closed, says_peek, says_map}
use Rattle.verilog_reading.proofs.Lists.{says_more, says_many}
use Rattle.verilog_reading.proofs.ExprSays.{ExprIn}
use Rattle.verilog_reading.proofs.Targets.{TargetIn, some_name}
use Rattle.verilog_reading.proofs.StmtSays.{StmtIn, SaysLower}
use Rattle.verilog_reading.proofs.StmtLocal.{says_lower}
use Rattle.verilog_reading.proofs.Heights.{range_height, init_height, setting_height, var_height, driven_height, pdecl_height, entry_height, most_map, most_joined, entries_most, params_low, ports_low, within_list, within_many}

-- the tests of gates and separators
as_gate_is : (o : Option GateKind) (w : Keyword) (s : Spot) (g : GateWord) → as_gate o w s ≡ Some g → (o ≡ Some g.kind) × (w ≡ g.sign) × (s ≡ g.spot)
as_gate_is None w s g e = absurd (search (rules, e))
as_gate_is (Some x) w s g e = let h : record { kind = x; sign = w; spot = s } ≡ g = search (rules, e) in (ap (λ x. Some x.kind) h, ap (λ x. x.sign) h, ap (λ x. x.spot) h)

gate_kind : (x : TokenKind) (s : Spot) (g : GateWord) → gate_word_of x s ≡ Some g → (x ≡ Word g.sign) × (s ≡ g.spot)
gate_kind (Word w) s g e = let h = as_gate_is (gate_of w) w s g e in (ap Word h.1, h.2)
gate_kind x s g e = absurd (search (rules, e))

pub gate_is : (t : Token) (g : GateWord) → gate_in t ≡ Some g → t ≡ gate_word g
gate_is t g e = let h = gate_kind t.kind (spot_of t) g e in token_is t (Word g.sign) g.spot h.0 h.1

gate_op : (g : GateWord) → gate_in (gate_word g) ≡ Some g → gate_of g.sign ≡ Some g.kind
gate_op g e = (as_gate_is (gate_of g.sign) g.sign g.spot g e).0

separator_kind : (x : TokenKind) (s : Spot) (g : Separator) → separator_of x s ≡ Some g → token_at x s ≡ separator g
separator_kind (Mark Comma) s g e = let h : record { comma = true; spot = s } ≡ g = search (rules, e) in ap separator h
separator_kind (Word k.Or) s g e = let h : record { comma = false; spot = s } ≡ g = search (rules, e) in ap separator h
separator_kind x s g e = absurd (search (rules, e))

pub separator_is : (t : Token) (g : Separator) → separator_in t ≡ Some g → t ≡ separator g
separator_is t g e = separator_kind t.kind (spot_of t) g e

-- sequences and lists
pub says_then_done : {A B : Type 0} (P : List Token → A → Type 0) (Q : List Token → B → Type 0) (f : A → B) (r : List Token → Outcome A) (ts : List Token) → Says P ts (r ts)
    → ((u : List Token) (a : A) → P u a → Q u (f a)) → Says Q ts (reader.then_done f r ts)
says_then_done P Q f r ts s g = says_then P Q ts (r ts) s (λ a. done (f a)) (λ u a p. says_done (λ v. Q (u ++ v)) (f a) (subst (λ x. Q x (f a)) (sym (append-nil u)) (g u a p)))

pub says_then_both : {A B D : Type 0} (P : List Token → A → Type 0) (O : List Token → B → Type 0) (Q : List Token → D → Type 0) (f : A → B → D) (r : List Token → Outcome A) (s : List Token → Outcome B) (ts : List Token)
    → Says P ts (r ts) → ((xs : List Token) → Says O xs (s xs)) → ((u v : List Token) (a : A) (b : B) → P u a → O v b → Q (u ++ v) (f a b)) → Says Q ts (reader.then_both f r s ts)
says_then_both P O Q f r s ts h i g = says_then P Q ts (r ts) h (λ a. reader.then_done (f a) s) (λ u a p xs. says_then_done O (λ v. Q (u ++ v)) (f a) s xs (i xs) (λ v b q. g u v a b p q))

-- behind what has no meaning
pub says_past : {A B : Type 0} (P : List Token → A → Type 0) (O Q : List Token → B → Type 0) (r : List Token → Outcome A) (s : List Token → Outcome B) (ts : List Token)
    → Says P ts (r ts) → ((xs : List Token) → Says O xs (s xs)) → ((u v : List Token) (a : A) (b : B) → P u a → O v b → Q (u ++ v) b) → Says Q ts (reader.past r s ts)
says_past P O Q r s ts h i g = says_then P Q ts (r ts) h (λ _. s) (λ u a p xs. says_map O (λ v b. Q (u ++ v) b) (λ v b o. g u v a b p o) xs (s xs) (i xs))

pub says_list : {A B : Type 0} (test : Token → Option B) (tok : B → Token) (is : (t : Token) (b : B) → test t ≡ Some b → t ≡ tok b) (m : MarkKind) (F R : List Token → A → Type 0) (h : A → ℕ) (n : ℕ)
    (first item : List Token → Outcome A) → ((ts : List Token) → Says (Within F h n) ts (first ts)) → ((ts : List Token) → Says (Within R h n) ts (item ts))
    → (ts : List Token) → Says (Within (IsList tok m F R) (most h) n) ts (reader.list test m first item ts)
says_list test tok is m F R h n first item sf si ts =
    let L = IsList tok m (Within F h n) (Within R h n) in
    says_map L (Within (IsList tok m F R) (most h) n) (within_list tok m F R h n) ts (reader.list test m first item ts)
    (says_then (Within F h n) L ts (first ts) (sf ts) (reader.list_more test m item)
    (λ u a p xs. says_then (AreMore tok (Within R h n)) (λ v. L (u ++ v)) xs (more test item xs) (says_more test item tok is (Within R h n) si xs) (reader.list_end m a)
    (λ v bs q. says_closed (λ x. L (u ++ (v ++ x))) m (a ∷ bs) (λ t. is_list t p q))))

says_listed : {A : Type 0} (m : MarkKind) (R : List Token → A → Type 0) (h : A → ℕ) (n : ℕ) (item : List Token → Outcome A) → ((ts : List Token) → Says (Within R h n) ts (item ts))
    → (ts : List Token) → Says (Within (IsListed m R) (most h) n) ts (reader.listed m item ts)
says_listed m R h n item s = says_list (mark_in Comma) (mark Comma) (mark_is Comma) m R R h n item item s s

says_word_must : {A : Type 0} (P : List Token → A → Type 0) (w : Keyword) (f : Spot → List Token → Outcome A) → ((p : Spot) (ts : List Token) → Says (λ v. P (word w p ∷ v)) ts (f p ts)) → (ts : List Token) → Says P ts (expect (word_in w) f ts)
says_word_must P w = says_must P (word_in w) (word w) (word_is w) nowhere

says_ident : {A : Type 0} (P : List Token → A → Type 0) (f : Named → List Token → Outcome A) → ((n : Named) (ts : List Token) → Says (λ v. P (ident n ∷ v)) ts (f n ts)) → (ts : List Token) → Says P ts (expect ident_in f ts)
says_ident P = says_must P ident_in ident ident_is some_name

says_dval : {A : Type 0} (P : List Token → A → Type 0) (f : Dval → List Token → Outcome A) → ((d : Dval) (ts : List Token) → Says (λ v. P (dval d ∷ v)) ts (f d ts)) → (ts : List Token) → Says P ts (expect dval_in f ts)
says_dval P = says_must P dval_in dval dval_is (by_name some_name)

-- delays
abbrev Delays : List Token → Unit {0} → Type 0
Delays u _ = IsDelay u

says_delay : (ts : List Token) → Says Delays ts (reader.maybe_delay ts)
says_delay = says_mark Delays Hash reader.in_delay (done tt)
    (λ p. says_mark (λ v. Delays (mark Hash p ∷ v)) ParenOpen reader.in_delays (expect dval_in (λ _. done tt))
    (λ q. says_dval (λ v. Delays (mark Hash p ∷ (mark ParenOpen q ∷ v))) (λ _. next (mark_in Comma) reader.second_delay reader.delay_end)
    (λ d. says_mark (λ v. Delays (mark Hash p ∷ (mark ParenOpen q ∷ (dval d ∷ v)))) Comma reader.second_delay reader.delay_end
    (λ o. says_dval (λ v. Delays (mark Hash p ∷ (mark ParenOpen q ∷ (dval d ∷ (mark Comma o ∷ v))))) (λ _. reader.delay_end)
    (λ e. says_closed (λ v. Delays (mark Hash p ∷ (mark ParenOpen q ∷ (dval d ∷ (mark Comma o ∷ (dval e ∷ v)))))) ParenClose tt (λ r. two_delays p q o r d e)))
    (says_closed (λ v. Delays (mark Hash p ∷ (mark ParenOpen q ∷ (dval d ∷ v)))) ParenClose tt (λ r. one_delay p q r d))))
    (says_dval (λ v. Delays (mark Hash p ∷ v)) (λ _. done tt) (λ d. says_done (λ v. Delays (mark Hash p ∷ (dval d ∷ v))) tt (bare_delay p d))))
    (says_done Delays tt no_delay)

abbrev DelaysOf : DeclKind → List Token → Unit {0} → Type 0
DelaysOf kind u _ = IsDelayOf kind u

says_delay_of : (kind : DeclKind) (b : Bool) → has_delay kind ≡ b → (ts : List Token) → Says (DelaysOf kind) ts ((if b then reader.maybe_delay else done tt) ts)
says_delay_of kind true e ts = says_map Delays (DelaysOf kind) (λ u a h. may_delay e h) ts (reader.maybe_delay ts) (says_delay ts)
says_delay_of kind false e ts = says_done (DelaysOf kind) tt (not_delayed e) ts

-- without expressions in it
abbrev flat : {A : Type 0} → A → ℕ
flat a = 0

says_maybe_wire : (P : List Token → DeclKind → Type 0) (kind : DeclKind) → ((u : List Token) → MayBeWord k.Wire u → P u kind) → (ts : List Token) → Says P ts (reader.maybe_wire kind ts)
says_maybe_wire P kind g = says_word P k.Wire (λ _. done kind) (done kind) (λ p. says_done (λ v. P (word k.Wire p ∷ v)) kind (g (word k.Wire p ∷ []) (the_word p))) (says_done P kind (g [] no_word))

says_output : (p : Spot) (ts : List Token) → Says (λ v. IsDirection p (word k.Output p ∷ v)) ts (reader.output ts)
says_output p = let P = λ (v : List Token) (d : DeclKind). IsDirection p (word k.Output p ∷ v) d in
    says_word P k.Reg (λ _. done OutputReg) (reader.maybe_wire Output) (λ q. says_done (λ v. P (word k.Reg q ∷ v)) OutputReg (is_output_reg p q)) (says_maybe_wire P Output (λ u h. is_output p h))

-- a direction, wherever its first word stands
abbrev IsAnyDirection : List Token → DeclKind → Type 0
IsAnyDirection u kind = (p : Spot) × IsDirection p u kind

says_direction : (ts : List Token) → Says IsAnyDirection ts (reader.direction ts)
says_direction = says_word IsAnyDirection k.Input (λ _. reader.maybe_wire Input) (expect (word_in k.Output) (λ _. reader.output))
    (λ p. says_maybe_wire (λ v d. IsAnyDirection (word k.Input p ∷ v) d) Input (λ u h. (p, is_input p h)))
    (says_word_must IsAnyDirection k.Output (λ _. reader.output) (λ p ts. says_map (λ v d. IsDirection p (word k.Output p ∷ v) d) (λ v d. IsAnyDirection (word k.Output p ∷ v) d) (λ v d h. (p, h)) ts (reader.output ts) (says_output p ts)))

-- events
says_edge_name : (P : List Token → Edge → Type 0) (kind : EdgeKind) → ((n : Named) → P (ident n ∷ []) (edge_of kind n.name)) → (ts : List Token) → Says P ts (reader.edge_name kind ts)
says_edge_name P kind g = says_ident P (λ n. done (edge_of kind n.name)) (λ n. says_done (λ v. P (ident n ∷ v)) (edge_of kind n.name) (g n))

says_edge : (n : ℕ) (ts : List Token) → Says (Within IsEdge flat n) ts (reader.edge ts)
says_edge n = let P = Within IsEdge flat n in
    says_word P k.PosEdge (λ _. reader.edge_name Pos) (next (word_in k.NegEdge) (λ _. reader.edge_name Neg) (reader.edge_name Level)) (λ p. says_edge_name (λ v. P (word k.PosEdge p ∷ v)) Pos (λ m. (is_positive p m, omega arith)))
    (says_word P k.NegEdge (λ _. reader.edge_name Neg) (reader.edge_name Level) (λ p. says_edge_name (λ v. P (word k.NegEdge p ∷ v)) Neg (λ m. (is_negative p m, omega arith)))
    (says_edge_name P Level (λ m. (is_level m, omega arith))))

says_event : (ts : List Token) → Says IsEvent ts (reader.event ts)
says_event = says_expect IsEvent At (λ _. reader.at_event)
    (λ p. says_mark (λ v. IsEvent (mark At p ∷ v)) Star (λ _. done events.Star) (expect (mark_in ParenOpen) (λ _. reader.in_event)) (λ q. says_done (λ v. IsEvent (mark At p ∷ (mark Star q ∷ v))) events.Star (is_star p q))
    (says_expect (λ v. IsEvent (mark At p ∷ v)) ParenOpen (λ _. reader.in_event)
    (λ q. says_mark (λ v. IsEvent (mark At p ∷ (mark ParenOpen q ∷ v))) Star (λ _. closed ParenClose events.Star) (reader.then_done events.Edges (reader.list separator_in ParenClose reader.edge reader.edge))
    (λ o. says_closed (λ v. IsEvent (mark At p ∷ (mark ParenOpen q ∷ (mark Star o ∷ v)))) ParenClose events.Star (λ t. is_star_in p q o t))
    (λ ts. says_then_done (Within (IsList separator ParenClose IsEdge IsEdge) (most flat) 0) (λ v. IsEvent (mark At p ∷ (mark ParenOpen q ∷ v))) events.Edges (reader.list separator_in ParenClose reader.edge reader.edge) ts
    (says_list separator_in separator separator_is ParenClose IsEdge IsEdge flat 0 reader.edge reader.edge (says_edge 0) (says_edge 0) ts) (λ u es h. is_edges p q h.0)))))

module _ (n : ℕ) (l : Lower) (s : SaysLower n l) where
  abbrev E : (ts : List Token) → Says (ExprIn n) ts (l.exprs.expr ts)
  E = s.0.expr

  pub says_range : (ts : List Token) → Says (Within IsMaybeRange range_height n) ts (reader.maybe_range l ts)
  says_range = let P = Within IsMaybeRange range_height n in
      says_mark P BracketOpen (reader.in_range l) (done None)
      (λ p ts. says_then (ExprIn n) (λ v. P (mark BracketOpen p ∷ v)) ts (l.exprs.expr ts) (E ts) (reader.at_right l)
      (λ u a h. says_expect (λ v. P (mark BracketOpen p ∷ (u ++ v))) Colon (reader.in_right l a)
      (λ o xs. says_then (ExprIn n) (λ v. P (mark BracketOpen p ∷ (u ++ mark Colon o ∷ v))) xs (l.exprs.expr xs) (E xs) (reader.right_end a)
      (λ w b i. says_closed (λ v. P (mark BracketOpen p ∷ (u ++ mark Colon o ∷ (w ++ v)))) BracketClose (Some (record { left = a; right = b }))
      (λ q. (a_range (are_bounds p o q h.0 i.0), omega (arith, h.1, i.1)))))))
      (says_done P None (no_range, omega arith))

  pub says_init : (ts : List Token) → Says (Within IsInit init_height n) ts (reader.init l ts)
  says_init = let P = Within IsInit init_height n in
      says_mark P Equals (λ _. reader.then_done Some l.exprs.expr) (done None)
      (λ p ts. says_then_done (ExprIn n) (λ v. P (mark Equals p ∷ v)) Some l.exprs.expr ts (E ts) (λ u a h. (an_init p h.0, h.1)))
      (says_done P None (no_init, omega arith))

  pub says_setting : (ts : List Token) → Says (Within IsSetting setting_height n) ts (reader.setting l ts)
  says_setting = let P = Within IsSetting setting_height n in
      says_ident P (reader.at_setting l) (λ m. says_expect (λ v. P (ident m ∷ v)) Equals (λ _. reader.then_done (reader.set_to m.name) l.exprs.expr)
      (λ p ts. says_then_done (ExprIn n) (λ v. P (ident m ∷ (mark Equals p ∷ v))) (reader.set_to m.name) l.exprs.expr ts (E ts) (λ u a h. (is_setting m p h.0, h.1))))

  says_var : (ts : List Token) → Says (Within IsVar var_height n) ts (reader.var l ts)
  says_var = let P = Within IsVar var_height n in
      says_ident P (reader.in_var l) (λ m ts. says_then_both (Within IsMaybeRange range_height n) (Within IsInit init_height n) (λ v. P (ident m ∷ v)) (reader.var_of m.name) (reader.maybe_range l) (reader.init l) ts (says_range ts) says_init
      (λ u v a b p q. (is_var m p.0 q.0, omega (arith, p.1, q.1))))

  says_vars : (kind : DeclKind) (ts : List Token) → Says (Within (IsVars kind) (most var_height) n) ts (reader.vars l kind ts)
  says_vars kind ts = says_past (DelaysOf kind) (Within (IsListed Semicolon IsVar) (most var_height) n) (Within (IsVars kind) (most var_height) n) (reader.delay_of kind) (reader.listed Semicolon (reader.var l)) ts
      (says_delay_of kind (has_delay kind) refl ts) (says_listed Semicolon IsVar var_height n (reader.var l) says_var) (λ u v a xs d h. (are_vars d h.0, h.1))

  says_driven : (ts : List Token) → Says (Within IsDriven driven_height n) ts (reader.driven l ts)
  says_driven ts = let P = Within IsDriven driven_height n in
      says_then (TargetIn n) P ts (l.target ts) (s.1 ts) (reader.at_driven l)
      (λ u t h. says_expect (λ v. P (u ++ v)) Equals (λ _. reader.then_done (reader.drive t) l.exprs.expr)
      (λ p xs. says_then_done (ExprIn n) (λ v. P (u ++ mark Equals p ∷ v)) (reader.drive t) l.exprs.expr xs (E xs) (λ v a i. (is_driven p h.0 i.0, omega (arith, h.1, i.1)))))

  says_terminals : (P : List Token → List ExprTree → Type 0) → ((p : Spot) (u : List Token) (es : List ExprTree) → Within (IsListed ParenClose IsExpr) (most height) n u es → P (mark ParenOpen p ∷ u) es) → (ts : List Token) → Says P ts (reader.terminals l ts)
  says_terminals P g = says_expect P ParenOpen (λ _. reader.listed ParenClose l.exprs.expr)
      (λ p ts. says_map (Within (IsListed ParenClose IsExpr) (most height) n) (λ v. P (mark ParenOpen p ∷ v)) (g p) ts (reader.listed ParenClose l.exprs.expr ts) (says_listed ParenClose IsExpr height n l.exprs.expr E ts))

  says_gate : (ts : List Token) → Says (Within IsGate (most height) n) ts (reader.gate l ts)
  says_gate = let P = Within IsGate (most height) n in
      says_next P ident_in ident ident_is (λ _. reader.terminals l) (reader.terminals l) (λ m. says_terminals (λ v. P (ident m ∷ v)) (λ p u es h. (named_gate m p h.0, h.1))) (says_terminals P (λ p u es h. (plain_gate p h.0, h.1)))

  says_value : (ts : List Token) → Says (Within IsValue init_height n) ts (reader.value l ts)
  says_value = let P = Within IsValue init_height n in
      says_peek P reader.value_end (done None) (reader.then_done Some l.exprs.expr) (says_done P None (no_value, omega arith)) (λ ts. says_then_done (ExprIn n) P Some l.exprs.expr ts (E ts) (λ u a h. (a_value h.0, h.1)))

  says_conn : (ts : List Token) → Says (Within IsConn conn_height n) ts (reader.conn l ts)
  says_conn = let P = Within IsConn conn_height n in
      says_expect P Dot (reader.in_dot l) (λ p. says_ident (λ v. P (mark Dot p ∷ v)) (reader.at_conn l) (λ m. says_expect (λ v. P (mark Dot p ∷ (ident m ∷ v))) ParenOpen (reader.in_conn l m)
      (λ q ts. says_then (Within IsValue init_height n) (λ v. P (mark Dot p ∷ (ident m ∷ (mark ParenOpen q ∷ v)))) ts (reader.value l ts) (says_value ts) (reader.conn_end m.name)
      (λ u e h. says_closed (λ v. P (mark Dot p ∷ (ident m ∷ (mark ParenOpen q ∷ (u ++ v))))) ParenClose (record { name = m.name; value = e }) (λ t. (is_conn p q t m h.0, h.1))))))

  says_conns : (ts : List Token) → Says (Within IsConns conns_height n) ts (reader.conns l ts)
  says_conns = let P = Within IsConns conns_height n in
      says_expect P ParenOpen (reader.in_conns l) (λ p. says_peek (λ v. P (mark ParenOpen p ∷ v)) (mark_in Dot) (reader.then_done named (reader.listed ParenClose (reader.conn l))) (reader.then_done reader.as_ordered (reader.listed ParenClose (reader.value l)))
      (λ ts. says_then_done (Within (IsListed ParenClose IsConn) (most conn_height) n) (λ v. P (mark ParenOpen p ∷ v)) named (reader.listed ParenClose (reader.conn l)) ts (says_listed ParenClose IsConn conn_height n (reader.conn l) says_conn ts) (λ u cs h. (is_named p h.0, h.1)))
      (λ ts. says_then_done (Within (IsListed ParenClose IsValue) (most init_height) n) (λ v. P (mark ParenOpen p ∷ v)) reader.as_ordered (reader.listed ParenClose (reader.value l)) ts (says_listed ParenClose IsValue init_height n (reader.value l) says_value ts)
      (λ u es h. (is_ordered p h.0, subst (λ x. x ≤ n) (sym (entries_most es)) h.1))))

  says_overrides : (ts : List Token) → Says (Within IsOverrides conns_height n) ts (reader.overrides l ts)
  says_overrides = let P = Within IsOverrides conns_height n in
      says_mark P Hash (λ _. reader.conns l) (done (ordered []))
      (λ p ts. says_map (Within IsConns conns_height n) (λ v. P (mark Hash p ∷ v)) (λ u c h. (overrides p h.0, h.1)) ts (reader.conns l ts) (says_conns ts))
      (says_done P (ordered []) (no_overrides, omega arith))

  abbrev placed_height : Placed → ℕ
  placed_height i = conns_height i.ports

  says_placed : (ts : List Token) → Says (Within IsPlaced placed_height n) ts (reader.placed l ts)
  says_placed = let P = Within IsPlaced placed_height n in
      says_ident P (λ m. reader.then_done (reader.place_at m.name) (reader.conns l)) (λ m ts. says_then_done (Within IsConns conns_height n) (λ v. P (ident m ∷ v)) (reader.place_at m.name) (reader.conns l) ts (says_conns ts) (λ u c h. (is_placed m h.0, h.1)))

  -- items
  abbrev pub ItemIn : List Token → List ItemTree → Type 0
  ItemIn = Within IsItem (most item_height) n

  says_decls : (p : Spot) (kind : DeclKind) (u : List Token) → IsKind p u kind → (ts : List Token) → Says (λ v. ItemIn (u ++ v)) ts (reader.decls l p.place kind ts)
  says_decls p kind u i ts = says_then_both (Within IsMaybeRange range_height n) (Within (IsVars kind) (most var_height) n) (λ v. ItemIn (u ++ v)) (reader.decl_items p.place kind) (reader.maybe_range l) (reader.vars l kind) ts
      (says_range ts) (says_vars kind)
      (λ v w a xs h g. (is_decls i h.0 g.0, most_map var_height item_height (decl_item p.place kind a) n (λ x j. let z = h.1 in omega (arith, j, z)) xs g.1))

  says_input : (p : Spot) (ts : List Token) → Says (λ v. ItemIn (word k.Input p ∷ v)) ts (reader.in_input l p ts)
  says_input p ts = says_then (λ v d. IsKind p (word k.Input p ∷ v) d) (λ v. ItemIn (word k.Input p ∷ v)) ts (reader.maybe_wire Input ts)
      (says_maybe_wire (λ v d. IsKind p (word k.Input p ∷ v) d) Input (λ u h. is_direction (is_input p h)) ts) (reader.decls l p.place) (λ u d h. says_decls p d (word k.Input p ∷ u) h)

  says_in_output : (p : Spot) (ts : List Token) → Says (λ v. ItemIn (word k.Output p ∷ v)) ts (reader.in_output l p ts)
  says_in_output p ts = says_then (λ v d. IsDirection p (word k.Output p ∷ v) d) (λ v. ItemIn (word k.Output p ∷ v)) ts (reader.output ts) (says_output p ts) (reader.decls l p.place)
      (λ u d h. says_decls p d (word k.Output p ∷ u) (is_direction h))

  says_params : (local : Bool) (p : Spot) (ts : List Token) → Says (λ v. ItemIn (word (param_word local) p ∷ v)) ts (reader.in_params l local p ts)
  says_params local p ts = says_then_both (Within IsMaybeRange range_height n) (Within (IsListed Semicolon IsSetting) (most setting_height) n) (λ v. ItemIn (word (param_word local) p ∷ v)) (reader.param_items p.place local) (reader.maybe_range l) (reader.listed Semicolon (reader.setting l)) ts
      (says_range ts) (says_listed Semicolon IsSetting setting_height n (reader.setting l) says_setting)
      (λ v w a xs h g. (is_params local p h.0 g.0, most_map setting_height item_height (param_item p.place local a) n (λ x j. let z = h.1 in omega (arith, j, z)) xs g.1))

  says_assigns : (p : Spot) (ts : List Token) → Says (λ v. ItemIn (word k.Assign p ∷ v)) ts (reader.in_assigns l p ts)
  says_assigns p ts = says_then Delays (λ v. ItemIn (word k.Assign p ∷ v)) ts (reader.maybe_delay ts) (says_delay ts) (λ _. reader.then_done (reader.assign_items p.place) (reader.listed Semicolon (reader.driven l)))
      (λ u _ d xs. says_then_done (Within (IsListed Semicolon IsDriven) (most driven_height) n) (λ v. ItemIn (word k.Assign p ∷ (u ++ v))) (reader.assign_items p.place) (reader.listed Semicolon (reader.driven l)) xs
      (says_listed Semicolon IsDriven driven_height n (reader.driven l) says_driven xs) (λ v xs h. (is_assigns p d h.0, most_map driven_height item_height (assign_item p.place) n (λ x j. j) xs h.1)))

  says_gates : (g : GateWord) → gate_of g.sign ≡ Some g.kind → (ts : List Token) → Says (λ v. ItemIn (gate_word g ∷ v)) ts (reader.in_gates l g ts)
  says_gates g e ts = says_then Delays (λ v. ItemIn (gate_word g ∷ v)) ts (reader.maybe_delay ts) (says_delay ts) (λ _. reader.then_done (reader.gate_items g.spot.place g.kind) (reader.listed Semicolon (reader.gate l)))
      (λ u _ d xs. says_then_done (Within (IsListed Semicolon IsGate) (most (most height)) n) (λ v. ItemIn (gate_word g ∷ (u ++ v))) (reader.gate_items g.spot.place g.kind) (reader.listed Semicolon (reader.gate l)) xs
      (says_listed Semicolon IsGate (most height) n (reader.gate l) says_gate xs) (λ v xs h. (is_gates g.sign g.spot e d h.0, most_map (most height) item_height (gate_item g.spot.place g.kind) n (λ x j. j) xs h.1)))

  says_instances : (m : Named) (ts : List Token) → Says (λ v. ItemIn (ident m ∷ v)) ts (reader.in_instances l m ts)
  says_instances m ts = says_then_both (Within IsOverrides conns_height n) (Within (IsListed Semicolon IsPlaced) (most placed_height) n) (λ v. ItemIn (ident m ∷ v)) (reader.instance_items m.spot.place m.name) (reader.overrides l) (reader.listed Semicolon (reader.placed l)) ts
      (says_overrides ts) (says_listed Semicolon IsPlaced placed_height n (reader.placed l) says_placed)
      (λ v w c xs h g. (is_instances m h.0 g.0, most_map placed_height item_height (instance_item m.spot.place m.name c) n (λ x j. let z = h.1 in omega (arith, j, z)) xs g.1))

  says_always : (p : Spot) (ts : List Token) → Says (λ v. ItemIn (word k.Always p ∷ v)) ts (reader.in_always l p ts)
  says_always p ts = says_then_both IsEvent (StmtIn n) (λ v. ItemIn (word k.Always p ∷ v)) (reader.always_items p.place) reader.event l.stmt ts (says_event ts) s.2
      (λ u v e a h g. (is_always p h g.0, let z = g.1 in omega (arith, z)))

  says_initial : (p : Spot) (ts : List Token) → Says (λ v. ItemIn (word k.Initial p ∷ v)) ts (reader.in_initial l p ts)
  says_initial p ts = says_then_done (StmtIn n) (λ v. ItemIn (word k.Initial p ∷ v)) (reader.initial_items p.place) l.stmt ts (s.2 ts) (λ u a h. (is_initial p h.0, let z = h.1 in omega (arith, z)))

  pub says_item : (ts : List Token) → Says ItemIn ts (reader.item l ts)
  says_item = says_word ItemIn k.Input (reader.in_input l) _ says_input
      (says_word ItemIn k.Output (reader.in_output l) _ says_in_output
      (says_word ItemIn k.Wire (λ p. reader.decls l p.place Wire) _ (λ p. says_decls p Wire (word k.Wire p ∷ []) (is_wire p))
      (says_word ItemIn k.Reg (λ p. reader.decls l p.place Reg) _ (λ p. says_decls p Reg (word k.Reg p ∷ []) (is_reg p))
      (says_word ItemIn k.Parameter (reader.in_params l false) _ (says_params false)
      (says_word ItemIn k.LocalParam (reader.in_params l true) _ (says_params true)
      (says_word ItemIn k.Assign (reader.in_assigns l) _ says_assigns
      (says_found ItemIn gate_in gate_word gate_is (reader.in_gates l) _ (λ g e. says_gates g (gate_op g e))
      (says_next ItemIn ident_in ident ident_is (reader.in_instances l) _ says_instances
      (says_word ItemIn k.Always (reader.in_always l) _ says_always
      (says_word_must ItemIn k.Initial (reader.in_initial l) says_initial))))))))))

  -- headers
  says_in_long : (P : List Token → Pdecl → Type 0) (local : Bool) (p : Spot) → ((u v : List Token) (a : Option Bounds) (b : Setting) → Within IsMaybeRange range_height n u a → Within IsSetting setting_height n v b
      → P (word (param_word local) p ∷ (u ++ v)) (reader.long_of local a b)) → (ts : List Token) → Says (λ v. P (word (param_word local) p ∷ v)) ts (reader.in_long l local ts)
  says_in_long P local p g ts = says_then_both (Within IsMaybeRange range_height n) (Within IsSetting setting_height n) (λ v. P (word (param_word local) p ∷ v)) (reader.long_of local) (reader.maybe_range l) (reader.setting l) ts (says_range ts) says_setting g

  says_long : (ts : List Token) → Says (Within IsLongPdecl pdecl_height n) ts (reader.long_pdecl l ts)
  says_long = let P = Within IsLongPdecl pdecl_height n in
      says_word P k.Parameter (λ _. reader.in_long l false) _ (λ p. says_in_long P false p (λ u v a b h g. (is_long false p h.0 g.0, omega (arith, h.1, g.1))))
      (says_word_must P k.LocalParam (λ _. reader.in_long l true) (λ p. says_in_long P true p (λ u v a b h g. (is_long true p h.0 g.0, omega (arith, h.1, g.1)))))

  says_pdecl : (ts : List Token) → Says (Within IsPdecl pdecl_height n) ts (reader.pdecl l ts)
  says_pdecl = let P = Within IsPdecl pdecl_height n in
      says_word P k.Parameter (λ _. reader.in_long l false) _ (λ p. says_in_long P false p (λ u v a b h g. (long_pdecl (is_long false p h.0 g.0), omega (arith, h.1, g.1))))
      (says_word P k.LocalParam (λ _. reader.in_long l true) (reader.then_done reader.short_of (reader.setting l)) (λ p. says_in_long P true p (λ u v a b h g. (long_pdecl (is_long true p h.0 g.0), omega (arith, h.1, g.1))))
      (λ ts. says_then_done (Within IsSetting setting_height n) P reader.short_of (reader.setting l) ts (says_setting ts) (λ u a h. (short_pdecl h.0, omega (arith, h.1)))))

  says_header : (ts : List Token) → Says (Within IsHeader (most param_height) n) ts (reader.header l ts)
  says_header = let P = Within IsHeader (most param_height) n in
      says_mark P Hash (reader.in_header l) (done []) (λ p. says_expect (λ v. P (mark Hash p ∷ v)) ParenOpen (λ _. reader.then_done (params_from first_form) (reader.list (mark_in Comma) ParenClose (reader.long_pdecl l) (reader.pdecl l)))
      (λ q ts. says_then_done (Within (IsList (mark Comma) ParenClose IsLongPdecl IsPdecl) (most pdecl_height) n) (λ v. P (mark Hash p ∷ (mark ParenOpen q ∷ v))) (params_from first_form) (reader.list (mark_in Comma) ParenClose (reader.long_pdecl l) (reader.pdecl l)) ts
      (says_list (mark_in Comma) (mark Comma) (mark_is Comma) ParenClose IsLongPdecl IsPdecl pdecl_height n (reader.long_pdecl l) (reader.pdecl l) says_long says_pdecl ts)
      (λ u bs h. (a_header p q h.0, params_low n first_form bs (omega arith) h.1))))
      (says_done P [] (no_header, omega arith))

  says_start : (kind : DeclKind) (b : Bool) → has_start kind ≡ b → (ts : List Token) → Says (Within (IsStart kind) init_height n) ts ((if b then reader.init l else done None) ts)
  says_start kind true e ts = says_map (Within IsInit init_height n) (Within (IsStart kind) init_height n) (λ u a h. (a_start e h.0, h.1)) ts (reader.init l ts) (says_init ts)
  says_start kind false e ts = says_done (Within (IsStart kind) init_height n) None (no_start e, omega arith) ts

  says_adecl : (ts : List Token) → Says (Within IsAdecl entry_height n) ts (reader.adecl l ts)
  says_adecl ts = let P = Within IsAdecl entry_height n in
      says_then IsAnyDirection P ts (reader.direction ts) (says_direction ts) (reader.behind_direction l)
      (λ u kind h xs. says_then (Within IsMaybeRange range_height n) (λ v. P (u ++ v)) xs (reader.maybe_range l xs) (says_range xs) (reader.behind_range l kind)
      (λ v a g. says_ident (λ x. P (u ++ (v ++ x))) (reader.in_adecl l kind a)
      (λ m ys. says_then_done (Within (IsStart kind) init_height n) (λ x. P (u ++ (v ++ ident m ∷ x))) (reader.entry_of kind a m.name) (reader.start l kind) ys (says_start kind (has_start kind) refl ys)
      (λ w e i. (is_adecl m h.1 g.0 i.0, omega (arith, g.1, i.1))))))

  says_entry : (ts : List Token) → Says (Within IsEntry entry_height n) ts (reader.entry l ts)
  says_entry = let P = Within IsEntry entry_height n in
      says_next P ident_in ident ident_is (λ m. reader.then_done (reader.short_entry_of m.name) (reader.init l)) (reader.adecl l)
      (λ m ts. says_then_done (Within IsInit init_height n) (λ v. P (ident m ∷ v)) (reader.short_entry_of m.name) (reader.init l) ts (says_init ts) (λ u e h. (short_entry m h.0, omega (arith, h.1))))
      (λ ts. says_map (Within IsAdecl entry_height n) P (λ u a h. (long_entry h.0, h.1)) ts (reader.adecl l ts) (says_adecl ts))

  says_bare : (ts : List Token) → Says (Within IsName flat n) ts (reader.bare_name ts)
  says_bare = says_ident (Within IsName flat n) (λ m. done m.name) (λ m. says_done (λ v. Within IsName flat n (ident m ∷ v)) m.name (a_name m, omega arith))

  bare_low : (ns : List (List ℕ)) → most port_height (map bare ns) ≤ n
  bare_low [] = omega arith
  bare_low (x ∷ ns) = let z = bare_low ns in omega (arith, z)

  abbrev ports_height : Ports → ℕ
  ports_height q = most port_height q.list

  says_ports : (ts : List Token) → Says (Within IsPorts ports_height n) ts (reader.ports l ts)
  says_ports = let P = Within IsPorts ports_height n in
      says_mark P ParenOpen (reader.in_ports l) (done reader.without_ports)
      (λ p. says_mark (λ v. P (mark ParenOpen p ∷ v)) ParenClose (λ _. done reader.without_ports) _ (λ q. says_done (λ v. P (mark ParenOpen p ∷ (mark ParenClose q ∷ v))) reader.without_ports (empty_ports p q, omega arith))
      (says_peek (λ v. P (mark ParenOpen p ∷ v)) ident_in (reader.then_done reader.old_of (reader.listed ParenClose reader.bare_name)) (reader.then_done reader.ansi_of (reader.list (mark_in Comma) ParenClose (reader.adecl l) (reader.entry l)))
      (λ ts. says_then_done (Within (IsListed ParenClose IsName) (most flat) n) (λ v. P (mark ParenOpen p ∷ v)) reader.old_of (reader.listed ParenClose reader.bare_name) ts (says_listed ParenClose IsName flat n reader.bare_name says_bare ts)
      (λ u ns h. (old_ports p h.0, bare_low ns)))
      (λ ts. says_then_done (Within (IsList (mark Comma) ParenClose IsAdecl IsEntry) (most entry_height) n) (λ v. P (mark ParenOpen p ∷ v)) reader.ansi_of (reader.list (mark_in Comma) ParenClose (reader.adecl l) (reader.entry l)) ts
      (says_list (mark_in Comma) (mark Comma) (mark_is Comma) ParenClose IsAdecl IsEntry entry_height n (reader.adecl l) (reader.entry l) says_adecl says_entry ts)
      (λ u es h. (ansi_ports p h.0, ports_low n first_shape es (omega arith) h.1)))))
      (says_done P reader.without_ports (no_ports, omega arith))

  -- modules
  pub says_module : (ts : List Token) → Says (Within IsModule module_height n) ts (reader.read_module l ts)
  says_module = let P = Within IsModule module_height n in
      says_word_must P k.Module (reader.at_module l) (λ p. says_ident (λ v. P (word k.Module p ∷ v)) (reader.in_module l p)
      (λ m ts. let Q = λ (v : List Token). P (word k.Module p ∷ (ident m ∷ v)) in
      says_then (Within IsHeader (most param_height) n) Q ts (reader.header l ts) (says_header ts) (reader.behind_header l p.place m.name)
      (λ u ps h xs. says_then (Within IsPorts ports_height n) (λ v. Q (u ++ v)) xs (reader.ports l xs) (says_ports xs) (reader.behind_ports l p.place m.name ps)
      (λ v q g. says_expect (λ x. Q (u ++ (v ++ x))) Semicolon (reader.in_items l p.place m.name ps q)
      (λ o ys. says_then (λ x rows. (z : List Token) × (x ≡ z ++ word k.EndModule rows.1 ∷ []) × AreMany ItemIn z rows.0) (λ x. Q (u ++ (v ++ mark Semicolon o ∷ x))) ys (many (word_in k.EndModule) (reader.item l) ys)
      (says_many (word_in k.EndModule) (reader.item l) (word k.EndModule) (word_is k.EndModule) ItemIn says_item nowhere ys) (reader.module_end p.place m.name ps q)
      (λ x rows i. let z = within_many IsItem (most item_height) n i.2 in let t : ModuleTree = record { place = p.place; name = m.name; ansi = q.ansi; params = ps; ports = q.list; items = joined rows.0 } in
      says_done (λ w. Q (u ++ (v ++ mark Semicolon o ∷ (x ++ w)))) t (
        subst (λ w. IsModule (word k.Module p ∷ (ident m ∷ (u ++ (v ++ mark Semicolon o ∷ w)))) t) (sym (append-nil x ∙ i.1)) (is_module p o rows.1 m h.0 g.0 z.0),
        let j = most_joined item_height n rows.0 z.1 in omega (arith, h.1, g.1, j),
      )))))))

  pub says_source : (ts : List Token) → Says (Within IsSource source_height n) ts (reader.source l ts)
  says_source ts = says_then (λ x rows. (z : List Token) × (x ≡ z ++ closing rows.1 ∷ []) × AreMany (Within IsModule module_height n) z rows.0) (Within IsSource source_height n) ts (many end_in (reader.read_module l) ts)
      (says_many end_in (reader.read_module l) closing end_is (Within IsModule module_height n) says_module nowhere ts) reader.source_end
      (λ x rows i. let z = within_many IsModule module_height n i.2 in says_done (λ w. Within IsSource source_height n (x ++ w)) rows.0
      (subst (λ w. IsSource w rows.0) (sym (append-nil x ∙ i.1)) (is_source rows.1 z.0), z.1))

pub says_sources : (n : ℕ) (ts : List Token) → Says (Within IsSource source_height n) ts (reader.read_source n ts)
unfolding reader.read_source
says_sources n = says_source n (lower n) (says_lower n)
