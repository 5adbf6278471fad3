-- What reads as items, modules or a source within the depth is read as them.
use Rattle.std.proofs.Common.{◌≡◌, ℕ, ◌≤◌, Bool, true, false, List, [], ◌∷◌, ◌++◌, map, Option, Some, None, refl, sym, ap, subst, ◌∙◌, append_assoc, arith, rules, if◌then◌else◌}
use Rattle.cdc_base.specs.declared.fault.Place.{Place}
use Rattle.cdc_base.specs.declared.words.Keyword.{Keyword}
use Rattle.cdc_base.specs.declared.words.Keyword.TheVariants as k
use Rattle.verilog_lex.specs.declared.token.Token.{Token}
use Rattle.verilog_lex.specs.declared.marks.MarkKind.{MarkKind}
use Rattle.verilog_lex.specs.declared.marks.MarkKind.TheVariants.{ParenOpen, ParenClose, BracketOpen, BracketClose, Comma, Colon, Semicolon, Dot, Hash, Equals, Star}
use Rattle.verilog_ast.specs.declared.DeclKind.{DeclKind}
use Rattle.verilog_ast.specs.declared.DeclKind.TheVariants.{Input, Output, OutputReg}
use Rattle.verilog_ast.specs.declared.GateKind.{GateKind}
use Rattle.verilog_ast.specs.declared.GateKind.TheVariants as g
use Rattle.verilog_ast.specs.declared.Event.{Event}
use Rattle.verilog_ast.specs.declared.Event.TheVariants as events
use Rattle.verilog_ast.specs.declared.Edge.{Edge}
use Rattle.verilog_ast.specs.declared.UnaryOp.{UnaryOp}
use Rattle.cdc_base.specs.contracts.words.KeywordPartialEq.TheImpl as words
use Rattle.verilog_reading.specs.Lexemes.{Spot, mark, mark_in, word, word_in, Named, ident, ident_in, by_number, by_name, closing, end_in}
use Rattle.verilog_reading.specs.ExprTree.{ExprTree, height}
use Rattle.verilog_reading.specs.Outcome.{Outcome, done, then_read, refuse, peek}
use Rattle.verilog_reading.specs.Reader.{closed}
use Rattle.verilog_reading.specs.Operators.{unary_of}
use Rattle.verilog_reading.specs.Lists.{many, AreMore, no_more, one_more, AreMany, none_of, one_of}
use Rattle.verilog_reading.specs.Reading.{IsExpr, IsRange, are_bounds}
use Rattle.verilog_reading.specs.StmtReader.{Lower, lower}
use Rattle.verilog_reading.specs.SourceTree.{Bounds, ParamTree, ConnTree, ConnsTree, ordered, named, ItemTree, ModuleTree, most, param_height, port_height, conn_height, conns_height, item_height, module_height, source_height}
use Rattle.verilog_reading.specs.ItemReading.{IsList, is_list, IsListed, IsMaybeRange, no_range, a_range, IsInit, no_init, an_init, Setting, IsSetting, is_setting, MayBeWord, no_word, the_word, IsDirection, is_input, is_output, is_output_reg, IsKind, is_direction, is_wire, is_reg, Var, IsVar, is_var, IsDelay, no_delay, bare_delay, one_delay, two_delays, has_delay, IsDelayOf, not_delayed, may_delay, IsVars, are_vars, Driven, IsDriven, is_driven, gate_of, IsGate, plain_gate, named_gate, IsValue, no_value, a_value, IsConn, is_conn, IsConns, is_ordered, is_named, IsOverrides, no_overrides, overrides, Placed, IsPlaced, is_placed, IsEdge, is_positive, is_negative, is_level, Separator, separator, IsEvent, is_star, is_star_in, is_edges, decl_item, param_item, assign_item, gate_item, instance_item, param_word, IsItem, is_decls, is_params, is_assigns, is_gates, is_instances, is_always, is_initial, Pdecl, IsLongPdecl, is_long, IsPdecl, long_pdecl, short_pdecl, params_from, first_form, IsHeader, no_header, a_header, has_start, IsStart, no_start, a_start, Entry, IsAdecl, is_adecl, IsEntry, long_entry, short_entry, first_shape, IsName, a_name, Ports, IsPorts, no_ports, empty_ports, old_ports, ansi_ports, IsModule, is_module, IsSource, is_source}
use Rattle.verilog_reading.specs.ItemReader as reader
use Rattle.verilog_reading.specs.ItemReader.{separator_in}
use Rattle.verilog_reading.specs.Laws.{Within, Free}
use Rattle.verilog_reading.specs.Stands.{Stands}
use Rattle.verilog_reading.proofs.Complete.{next_free, next_found, peek_found, peek_free, c_more, c_many}
use Rattle.verilog_reading.proofs.ExprComplete.{c_expr, behind_paren, behind_bracket, before_comma, before_colon}
use Rattle.verilog_reading.proofs.Targets.{c_target}
use Rattle.verilog_reading.proofs.StmtComplete.{c_stmt, before_semicolon}
use Rattle.verilog_reading.proofs.Starts.{expr_starts, target_starts, dot_no_start, hash_no_start, IsNoStart}
use Rattle.verilog_reading.proofs.Tests.{same_words}
use Rattle.verilog_reading.proofs.ItemLocal.{eats_items, eats_modules}
use Rattle.verilog_reading.proofs.Heights.{range_height, init_height, setting_height, var_height, driven_height, pdecl_height, entry_height, map_most, joined_most, entries_most, low_params, low_ports, more_within, many_within}

-- a reader that reads what reads and is low enough, where what stands behind it is right
abbrev pub ReadsAll : {A : Type 0} → ℕ → (List Token → A → Type 0) → (A → ℕ) → (List Token → Type 0) → (List Token → Outcome A) → Type 0
ReadsAll {A} n R h Ok r = (u : List Token) (a : A) → R u a → h a ≤ n → (rest : List Token) → Ok rest → r (u ++ rest) ≡ done a rest

abbrev Anything : List Token → Type 0
Anything rest = Unit {0}

abbrev flat : {A : Type 0} → A → ℕ
flat a = 0

module _ {A B : Type 0} (test : Token → Option B) (tok : B → Token) (is : (b : B) → test (tok b) ≡ Some b) (m : MarkKind) (closes : (p : Spot) → mark_in m (mark m p) ≡ Some p) (free : (p : Spot) → test (mark m p) ≡ None)
    (n : ℕ) (F R : List Token → A → Type 0) (h : A → ℕ) (Ok : List Token → Type 0) (ok_tok : (b : B) (ts : List Token) → Ok (tok b ∷ ts)) (ok_close : (p : Spot) (ts : List Token) → Ok (mark m p ∷ ts))
    (first item : List Token → Outcome A) (f : ReadsAll n F h Ok first) (i : ReadsAll n R h Ok item) where
  behind : {v : List Token} {bs : List A} → AreMore tok R v bs → (q : Spot) (rest : List Token) → Ok (v ++ mark m q ∷ rest)
  behind no_more q rest = ok_close q rest
  behind (one_more b {u} {v} x y) q rest = ok_tok b ((u ++ v) ++ mark m q ∷ rest)

  pub list_reads : {u : List Token} {bs : List A} → IsList tok m F R u bs → most h bs ≤ n → (rest : List Token) → reader.list test m first item (u ++ rest) ≡ done bs rest
  list_reads (is_list q {u} {v} {a} {bs} x y) j rest = let last = mark m q ∷ rest in
      ap (reader.list test m first item) (append_assoc u (v ++ mark m q ∷ []) rest ∙ ap (λ w. u ++ w) (append_assoc v (mark m q ∷ []) rest))
      ∙ ap (λ o. then_read o (reader.list_more test m item)) (f u a x (omega (arith, j)) (v ++ last) (behind y q rest))
      ∙ ap (λ o. then_read o (reader.list_end m a)) (c_more test item tok is (Within R h n) Ok ok_tok (λ u a p rest s. i u a p.0 p.1 rest s) (more_within tok R h n y (omega (arith, j))) last (ok_close q rest) (free q))
      ∙ next_found (mark_in m) (λ _. done (a ∷ bs)) refuse (mark m q) q rest (closes q)

-- a list is never empty
first_low : {A B C : Type 0} (tok : B → Token) (m : MarkKind) (F R : List Token → A → Type 0) {u : List Token} {bs : List A} → IsList tok m F R u bs → (g : C → ℕ) (f : A → C) (c n : ℕ) → ((a : A) → g (f a) ≤ n → c ≤ n) → most g (map f bs) ≤ n → c ≤ n
first_low tok m F R (is_list q {a = a} x y) g f c n e h = e a (omega (arith, h))

-- what may stand behind an initial value
abbrev InitOk : List Token → Type 0
InitOk rest = Stands rest × Free (mark_in Equals) rest

init_comma : (p : Spot) (ts : List Token) → InitOk (mark Comma p ∷ ts)
init_comma p ts = (before_comma p ts, refl)

init_semicolon : (p : Spot) (ts : List Token) → InitOk (mark Semicolon p ∷ ts)
init_semicolon p ts = (before_semicolon p ts, refl)

init_paren : (p : Spot) (ts : List Token) → InitOk (mark ParenClose p ∷ ts)
init_paren p ts = (behind_paren p ts, refl)

-- what has to stand behind a connected value
abbrev EndsValue : List Token → Type 0
EndsValue [] = ⊥
EndsValue (t ∷ ts) = reader.value_end t ≡ Some tt

abbrev ValueOk : List Token → Type 0
ValueOk rest = Stands rest × EndsValue rest

value_no_start : IsNoStart reader.value_end
value_no_start = record { numeral = λ n. refl; ident = λ n. refl; prefix = λ p e. no_prefix p.sign p.spot (prefixed p.sign _ e); paren = λ p. refl; brace = λ p. refl }
  where
    is_prefix : MarkKind → Bool
    is_prefix Comma = false
    is_prefix ParenClose = false
    is_prefix m = true

    prefixed : (m : MarkKind) (op : UnaryOp) → unary_of m ≡ Some op → is_prefix m ≡ true
    prefixed Comma op e = absurd (search (rules, e))
    prefixed ParenClose op e = absurd (search (rules, e))
    prefixed m op e = refl

    no_prefix : (m : MarkKind) (p : Spot) → is_prefix m ≡ true → reader.value_end (mark m p) ≡ None
    no_prefix Comma p e = absurd (search (rules, e))
    no_prefix ParenClose p e = absurd (search (rules, e))
    no_prefix m p e = refl

-- directions
wire_reads : (kind : DeclKind) {u : List Token} → MayBeWord k.Wire u → (rest : List Token) → Free (word_in k.Wire) rest → reader.maybe_wire kind (u ++ rest) ≡ done kind rest
wire_reads kind no_word rest f = next_free (word_in k.Wire) (λ _. done kind) (done kind) rest f
wire_reads kind (the_word p) rest f = refl

output_reads : {u : List Token} → MayBeWord k.Wire u → (rest : List Token) → Free (word_in k.Wire) rest → Free (word_in k.Reg) rest → reader.output (u ++ rest) ≡ done Output rest
output_reads no_word rest f g = next_free (word_in k.Reg) (λ _. done OutputReg) (reader.maybe_wire Output) rest g ∙ wire_reads Output no_word rest f
output_reads (the_word p) rest f g = refl

direction_reads : {p : Spot} {u : List Token} {kind : DeclKind} → IsDirection p u kind → (rest : List Token) → Free (word_in k.Wire) rest → Free (word_in k.Reg) rest → reader.direction (u ++ rest) ≡ done kind rest
direction_reads (is_input p h) rest f g = wire_reads Input h rest f
direction_reads (is_output p h) rest f g = output_reads h rest f g
direction_reads (is_output_reg p q) rest f g = refl

-- the one or the other reader
chosen : {A : Type 0} (b : Bool) (r s : List Token → Outcome A) → b ≡ true → (ts : List Token) → (if b then r else s) ts ≡ r ts
chosen true r s e ts = refl
chosen false r s e ts = absurd (search (rules, e))

other : {A : Type 0} (b : Bool) (r s : List Token → Outcome A) → b ≡ false → (ts : List Token) → (if b then r else s) ts ≡ s ts
other true r s e ts = absurd (search (rules, e))
other false r s e ts = refl

-- delays
delay_reads : {u : List Token} → IsDelay u → (rest : List Token) → Free (mark_in Hash) rest → reader.maybe_delay (u ++ rest) ≡ done tt rest
delay_reads no_delay rest f = next_free (mark_in Hash) reader.in_delay (done tt) rest f
delay_reads (bare_delay p (by_number n)) rest f = refl
delay_reads (bare_delay p (by_name n)) rest f = refl
delay_reads (one_delay p q r (by_number n)) rest f = refl
delay_reads (one_delay p q r (by_name n)) rest f = refl
delay_reads (two_delays p q o r (by_number n) (by_number m)) rest f = refl
delay_reads (two_delays p q o r (by_number n) (by_name m)) rest f = refl
delay_reads (two_delays p q o r (by_name n) (by_number m)) rest f = refl
delay_reads (two_delays p q o r (by_name n) (by_name m)) rest f = refl

delay_of_reads : {kind : DeclKind} {u : List Token} → IsDelayOf kind u → (rest : List Token) → Free (mark_in Hash) rest → reader.delay_of kind (u ++ rest) ≡ done tt rest
delay_of_reads {kind} (not_delayed e) rest f = other (has_delay kind) reader.maybe_delay (done tt) e rest
delay_of_reads {kind} (may_delay {u = u} e d) rest f = chosen (has_delay kind) reader.maybe_delay (done tt) e (u ++ rest) ∙ delay_reads d rest f

delay_starts : {B : Type 0} (test : Token → Option B) → ((p : Spot) → test (mark Hash p) ≡ None) → {u : List Token} → IsDelay u → (ts : List Token) → Free test ts → Free test (u ++ ts)
delay_starts test h no_delay ts f = f
delay_starts test h (bare_delay p d) ts f = h p
delay_starts test h (one_delay p q r d) ts f = h p
delay_starts test h (two_delays p q o r d e) ts f = h p

-- events
edge_reads : (n : ℕ) → ReadsAll n IsEdge flat Anything reader.edge
edge_reads n u a x j rest ok = go x
  where
    go : {u : List Token} {a : Edge} → IsEdge u a → reader.edge (u ++ rest) ≡ done a rest
    go (is_positive p m) = refl
    go (is_negative p m) = refl
    go (is_level m) = refl

most_flat : {A : Type 0} (xs : List A) → most flat xs ≤ 0
most_flat [] = omega arith
most_flat (x ∷ xs) = let z = most_flat xs in omega (arith, z)

separator_found : (s : Separator) → separator_in (separator s) ≡ Some s
separator_found s = go s.comma s.spot
  where
    go : (b : Bool) (p : Spot) → separator_in (separator (record { comma = b; spot = p })) ≡ Some (record { comma = b; spot = p })
    go true p = refl
    go false p = refl

no_star : {u : List Token} {es : List Edge} → IsList separator ParenClose IsEdge IsEdge u es → (rest : List Token) → Free (mark_in Star) (u ++ rest)
no_star (is_list q {u} {v} x y) rest = subst (Free (mark_in Star)) (sym (append_assoc u (v ++ mark ParenClose q ∷ []) rest)) (go x _)
  where
    go : {u : List Token} {a : Edge} → IsEdge u a → (rest : List Token) → Free (mark_in Star) (u ++ rest)
    go (is_positive p m) rest = refl
    go (is_negative p m) rest = refl
    go (is_level m) rest = refl

event_reads : {u : List Token} {e : Event} → IsEvent u e → (rest : List Token) → reader.event (u ++ rest) ≡ done e rest
event_reads (is_star p q) rest = refl
event_reads (is_star_in p q r s) rest = refl
event_reads (is_edges p q {u} {es} x) rest =
    next_free (mark_in Star) (λ _. closed ParenClose events.Star) (reader.then_done events.Edges (reader.list separator_in ParenClose reader.edge reader.edge)) (u ++ rest) (no_star x rest)
    ∙ ap (λ o. then_read o (λ es. done (events.Edges es))) (list_reads separator_in separator separator_found ParenClose (λ p. refl) (λ p. refl) 0 IsEdge IsEdge flat Anything (λ b ts. tt) (λ p ts. tt) reader.edge reader.edge (edge_reads 0) (edge_reads 0) x (most_flat es) rest)

module _ (n : ℕ) where
  abbrev l : Lower
  l = lower n

  abbrev Listed : {A : Type 0} → MarkKind → (List Token → A → Type 0) → List Token → List A → Type 0
  Listed = IsListed

  listed_reads : {A : Type 0} (m : MarkKind) → ((p : Spot) → mark_in m (mark m p) ≡ Some p) → ((p : Spot) → mark_in Comma (mark m p) ≡ None) → (R : List Token → A → Type 0) (h : A → ℕ) (Ok : List Token → Type 0)
      → ((p : Spot) (ts : List Token) → Ok (mark Comma p ∷ ts)) → ((p : Spot) (ts : List Token) → Ok (mark m p ∷ ts)) → (item : List Token → Outcome A) → ReadsAll n R h Ok item
      → {u : List Token} {bs : List A} → IsListed m R u bs → most h bs ≤ n → (rest : List Token) → reader.listed m item (u ++ rest) ≡ done bs rest
  listed_reads m closes free R h Ok ok_comma ok_close item i x j rest = list_reads (mark_in Comma) (mark Comma) (λ p. refl) m closes free n R R h Ok ok_comma ok_close item item i i x j rest

  range_reads : ReadsAll n IsMaybeRange range_height (Free (mark_in BracketOpen)) (reader.maybe_range l)
  range_reads u b x j rest f = go x j
    where
      in_brackets : {u : List Token} {a b : ExprTree} → IsRange u a b → height a ≤ n → height b ≤ n → reader.maybe_range l (u ++ rest) ≡ done (Some (record { left = a; right = b })) rest
      in_brackets (are_bounds p o q {u} {v} {a} {b} x y) i j =
          ap (λ w. reader.maybe_range l (mark BracketOpen p ∷ w)) (append_assoc u (mark Colon o ∷ (v ++ mark BracketClose q ∷ [])) rest ∙ ap (λ w. u ++ mark Colon o ∷ w) (append_assoc v (mark BracketClose q ∷ []) rest))
          ∙ ap (λ w. then_read w (reader.at_right l)) (c_expr x n i (mark Colon o ∷ (v ++ mark BracketClose q ∷ rest)) (before_colon o (v ++ mark BracketClose q ∷ rest)))
          ∙ ap (λ w. then_read w (reader.right_end a)) (c_expr y n j (mark BracketClose q ∷ rest) (behind_bracket q rest))

      go : {u : List Token} {b : Option Bounds} → IsMaybeRange u b → range_height b ≤ n → reader.maybe_range l (u ++ rest) ≡ done b rest
      go no_range j = next_free (mark_in BracketOpen) (reader.in_range l) (done None) rest f
      go (a_range x) j = in_brackets x (omega (arith, j)) (omega (arith, j))

  init_reads : ReadsAll n IsInit init_height InitOk (reader.init l)
  init_reads u b x j rest f = go x j
    where
      go : {u : List Token} {b : Option ExprTree} → IsInit u b → init_height b ≤ n → reader.init l (u ++ rest) ≡ done b rest
      go no_init j = next_free (mark_in Equals) (λ _. reader.then_done Some l.exprs.expr) (done None) rest f.1
      go (an_init p x) j = ap (λ o. then_read o (λ e. done (Some e))) (c_expr x n j rest f.0)

  setting_reads : ReadsAll n IsSetting setting_height Stands (reader.setting l)
  setting_reads u b x j rest f = go x j
    where
      go : {u : List Token} {b : Setting} → IsSetting u b → setting_height b ≤ n → reader.setting l (u ++ rest) ≡ done b rest
      go (is_setting m p x) j = ap (λ o. then_read o (λ e. done (reader.set_to m.name e))) (c_expr x n j rest f)

  init_bracket : {v : List Token} {e : Option ExprTree} → IsInit v e → (rest : List Token) → InitOk rest → Free (mark_in BracketOpen) (v ++ rest)
  init_bracket no_init rest f = f.0.bracket
  init_bracket (an_init p x) rest f = refl

  var_reads : ReadsAll n IsVar var_height InitOk (reader.var l)
  var_reads u b x j rest f = go x j
    where
      go : {u : List Token} {b : Var} → IsVar u b → var_height b ≤ n → reader.var l (u ++ rest) ≡ done b rest
      go (is_var m {u} {v} {r} {e} x y) j = ap (reader.in_var l m) (append_assoc u v rest)
          ∙ ap (λ o. then_read o (λ r. reader.then_done (reader.var_of m.name r) (reader.init l))) (range_reads u r x (omega (arith, j)) (v ++ rest) (init_bracket y rest f))
          ∙ ap (λ o. then_read o (λ e. done (reader.var_of m.name r e))) (init_reads v e y (omega (arith, j)) rest f)

  -- what begins with a name
  vars_start : {B : Type 0} (test : Token → Option B) → ((m : Named) → test (ident m) ≡ None) → {u : List Token} {xs : List Var} → IsListed Semicolon IsVar u xs → (rest : List Token) → Free test (u ++ rest)
  vars_start test e (is_list q (is_var m x y) z) rest = e m

  -- or else with a delay
  all_start : {B : Type 0} (test : Token → Option B) → ((m : Named) → test (ident m) ≡ None) → ((p : Spot) → test (mark Hash p) ≡ None) → {kind : DeclKind} {u : List Token} {xs : List Var} → IsVars kind u xs → (rest : List Token) → Free test (u ++ rest)
  all_start test e h (are_vars {u = u} {v = v} d x) rest = subst (Free test) (sym (append_assoc u v rest)) (go d)
    where
      go : {kind : DeclKind} {u : List Token} → IsDelayOf kind u → Free test (u ++ (v ++ rest))
      go (not_delayed i) = vars_start test e x rest
      go (may_delay i y) = delay_starts test h y (v ++ rest) (vars_start test e x rest)

  all_read : {kind : DeclKind} {u : List Token} {xs : List Var} → IsVars kind u xs → most var_height xs ≤ n → (rest : List Token) → reader.vars l kind (u ++ rest) ≡ done xs rest
  all_read {kind} (are_vars {u = u} {v = v} d x) j rest = ap (reader.vars l kind) (append_assoc u v rest)
      ∙ ap (λ o. then_read o (λ _. reader.listed Semicolon (reader.var l))) (delay_of_reads d (v ++ rest) (vars_start (mark_in Hash) (λ m. refl) x rest))
      ∙ listed_reads Semicolon (λ p. refl) (λ p. refl) IsVar var_height InitOk init_comma init_semicolon (reader.var l) var_reads x j rest

  driven_reads : ReadsAll n IsDriven driven_height Stands (reader.driven l)
  driven_reads u b x j rest f = go x j
    where
      go : {u : List Token} {b : Driven} → IsDriven u b → driven_height b ≤ n → reader.driven l (u ++ rest) ≡ done b rest
      go (is_driven p {u} {v} {t} {e} x y) j = ap (reader.driven l) (append_assoc u (mark Equals p ∷ v) rest)
          ∙ ap (λ o. then_read o (reader.at_driven l)) (c_target x n (omega (arith, j)) (mark Equals p ∷ (v ++ rest)) refl)
          ∙ ap (λ o. then_read o (λ e. done (reader.drive t e))) (c_expr y n (omega (arith, j)) rest f)

  exprs_reads : {u : List Token} {es : List ExprTree} → IsListed ParenClose IsExpr u es → most height es ≤ n → (rest : List Token) → reader.listed ParenClose l.exprs.expr (u ++ rest) ≡ done es rest
  exprs_reads = listed_reads ParenClose (λ p. refl) (λ p. refl) IsExpr height Stands before_comma behind_paren l.exprs.expr (λ u a p j rest s. c_expr p n j rest s)

  gate_reads : ReadsAll n IsGate (most height) Anything (reader.gate l)
  gate_reads u b x j rest f = go x j
    where
      go : {u : List Token} {b : List ExprTree} → IsGate u b → most height b ≤ n → reader.gate l (u ++ rest) ≡ done b rest
      go (plain_gate p x) j = exprs_reads x j rest
      go (named_gate m p x) j = exprs_reads x j rest

  value_reads : ReadsAll n IsValue init_height ValueOk (reader.value l)
  value_reads u b x j rest f = go x j
    where
      ended : (rest : List Token) → EndsValue rest → reader.value l rest ≡ done None rest
      ended [] e = absurd e
      ended (t ∷ ts) e = peek_found reader.value_end (done None) (reader.then_done Some l.exprs.expr) t tt ts e

      go : {u : List Token} {b : Option ExprTree} → IsValue u b → init_height b ≤ n → reader.value l (u ++ rest) ≡ done b rest
      go no_value j = ended rest f.1
      go (a_value {u} {e} x) j = peek_free reader.value_end (done None) (reader.then_done Some l.exprs.expr) (u ++ rest) (expr_starts reader.value_end value_no_start x rest)
          ∙ ap (λ o. then_read o (λ e. done (Some e))) (c_expr x n j rest f.0)

  value_comma : (p : Spot) (ts : List Token) → ValueOk (mark Comma p ∷ ts)
  value_comma p ts = (before_comma p ts, refl)

  value_paren : (p : Spot) (ts : List Token) → ValueOk (mark ParenClose p ∷ ts)
  value_paren p ts = (behind_paren p ts, refl)

  conn_reads : ReadsAll n IsConn conn_height Anything (reader.conn l)
  conn_reads u b x j rest f = go x j
    where
      go : {u : List Token} {b : ConnTree} → IsConn u b → conn_height b ≤ n → reader.conn l (u ++ rest) ≡ done b rest
      go (is_conn p q t m {u} {e} x) j = ap (reader.in_conn l m q) (append_assoc u (mark ParenClose t ∷ []) rest)
          ∙ ap (λ o. then_read o (reader.conn_end m.name)) (value_reads u e x j (mark ParenClose t ∷ rest) (value_paren t rest))

  named_enters : {u : List Token} {cs : List ConnTree} → IsListed ParenClose IsConn u cs → (p : Spot) (rest : List Token) → reader.in_conns l p (u ++ rest) ≡ reader.then_done named (reader.listed ParenClose (reader.conn l)) (u ++ rest)
  named_enters (is_list q (is_conn p o t m x) y) s rest = refl

  ordered_starts : {u : List Token} {es : List (Option ExprTree)} → IsListed ParenClose IsValue u es → (rest : List Token) → Free (mark_in Dot) (u ++ rest)
  ordered_starts (is_list q {u} {v} x y) rest = subst (Free (mark_in Dot)) (sym (append_assoc u (v ++ mark ParenClose q ∷ []) rest)) (go x y)
    where
      behind : {v : List Token} {bs : List (Option ExprTree)} → AreMore (mark Comma) IsValue v bs → Free (mark_in Dot) ((v ++ mark ParenClose q ∷ []) ++ rest)
      behind no_more = refl
      behind (one_more p x y) = refl

      go : {u v : List Token} {a : Option ExprTree} {bs : List (Option ExprTree)} → IsValue u a → AreMore (mark Comma) IsValue v bs → Free (mark_in Dot) (u ++ ((v ++ mark ParenClose q ∷ []) ++ rest))
      go no_value y = behind y
      go {v = v} (a_value x) y = expr_starts (mark_in Dot) dot_no_start x ((v ++ mark ParenClose q ∷ []) ++ rest)

  conns_reads : ReadsAll n IsConns conns_height Anything (reader.conns l)
  conns_reads u b x j rest f = go x j
    where
      go : {u : List Token} {b : ConnsTree} → IsConns u b → conns_height b ≤ n → reader.conns l (u ++ rest) ≡ done b rest
      go (is_ordered p {u} {es} x) j =
          peek_free (mark_in Dot) (reader.then_done named (reader.listed ParenClose (reader.conn l))) (reader.then_done reader.as_ordered (reader.listed ParenClose (reader.value l))) (u ++ rest) (ordered_starts x rest)
          ∙ ap (λ o. then_read o (λ es. done (reader.as_ordered es))) (listed_reads ParenClose (λ p. refl) (λ p. refl) IsValue init_height ValueOk value_comma value_paren (reader.value l) value_reads x (subst (λ z. z ≤ n) (entries_most es) j) rest)
      go (is_named p {u} {cs} x) j = named_enters x p rest
          ∙ ap (λ o. then_read o (λ cs. done (named cs))) (listed_reads ParenClose (λ p. refl) (λ p. refl) IsConn conn_height Anything (λ p ts. tt) (λ p ts. tt) (reader.conn l) conn_reads x j rest)

  overrides_reads : ReadsAll n IsOverrides conns_height (Free (mark_in Hash)) (reader.overrides l)
  overrides_reads u b x j rest f = go x j
    where
      go : {u : List Token} {b : ConnsTree} → IsOverrides u b → conns_height b ≤ n → reader.overrides l (u ++ rest) ≡ done b rest
      go no_overrides j = next_free (mark_in Hash) (λ _. reader.conns l) (done (ordered [])) rest f
      go (overrides p {u} {c} x) j = conns_reads u c x j rest tt

  abbrev placed_height : Placed → ℕ
  placed_height i = conns_height i.ports

  placed_reads : ReadsAll n IsPlaced placed_height Anything (reader.placed l)
  placed_reads u b x j rest f = go x j
    where
      go : {u : List Token} {b : Placed} → IsPlaced u b → placed_height b ≤ n → reader.placed l (u ++ rest) ≡ done b rest
      go (is_placed m {u} {c} x) j = ap (λ o. then_read o (λ c. done (reader.place_at m.name c))) (conns_reads u c x j rest tt)

  -- two readers, one behind the other
  both_read : {A B D : Type 0} (f : A → B → D) (r : List Token → Outcome A) (s : List Token → Outcome B) (u v rest : List Token) (a : A) (b : B) → r (u ++ (v ++ rest)) ≡ done a (v ++ rest) → s (v ++ rest) ≡ done b rest
      → reader.then_both f r s ((u ++ v) ++ rest) ≡ done (f a b) rest
  both_read f r s u v rest a b h i = ap (reader.then_both f r s) (append_assoc u v rest) ∙ ap (λ o. then_read o (λ a. reader.then_done (f a) s)) h ∙ ap (λ o. then_read o (λ b. done (f a b))) i

  settings_start : {B : Type 0} (test : Token → Option B) → ((m : Named) → test (ident m) ≡ None) → {u : List Token} {xs : List Setting} → IsListed Semicolon IsSetting u xs → (rest : List Token) → Free test (u ++ rest)
  settings_start test e (is_list q (is_setting m p x) z) rest = e m

  placed_start : {u : List Token} {xs : List Placed} → IsListed Semicolon IsPlaced u xs → (rest : List Token) → Free (mark_in Hash) (u ++ rest)
  placed_start (is_list q (is_placed m x) z) rest = refl

  -- a range before a name
  range_start : (w : Keyword) {v : List Token} {b : Option Bounds} → IsMaybeRange v b → (ts : List Token) → Free (word_in w) ts → Free (word_in w) (v ++ ts)
  range_start w no_range ts f = f
  range_start w (a_range x) ts f = go x
    where
      go : {v : List Token} {a b : ExprTree} → IsRange v a b → Free (word_in w) (v ++ ts)
      go (are_bounds p o q x y) = refl

  vars_low : {C : Type 0} {kind : DeclKind} {u : List Token} {xs : List Var} → IsVars kind u xs → (g : C → ℕ) (f : Var → C) (c : ℕ) → ((a : Var) → g (f a) ≤ n → c ≤ n) → most g (map f xs) ≤ n → c ≤ n
  vars_low (are_vars d x) g f c e j = first_low (mark Comma) Semicolon IsVar IsVar x g f c n e j

  decls_read : (p : Place) (kind : DeclKind) {v w : List Token} {b : Option Bounds} {xs : List Var} → IsMaybeRange v b → IsVars kind w xs → most item_height (map (decl_item p kind b) xs) ≤ n → (rest : List Token)
      → reader.decls l p kind ((v ++ w) ++ rest) ≡ done (map (decl_item p kind b) xs) rest
  decls_read p kind {v} {w} {b} {xs} x y j rest = both_read (reader.decl_items p kind) (reader.maybe_range l) (reader.vars l kind) v w rest b xs
      (range_reads v b x (vars_low y item_height (decl_item p kind b) (range_height b) (λ a i. omega (arith, i)) j) (w ++ rest) (all_start (mark_in BracketOpen) (λ m. refl) (λ q. refl) y rest))
      (all_read y (map_most var_height item_height (decl_item p kind b) n (λ a i. omega (arith, i)) xs j) rest)

  decl_start : (t : Keyword) {kind : DeclKind} {v w : List Token} {b : Option Bounds} {xs : List Var} → IsMaybeRange v b → IsVars kind w xs → (rest : List Token) → Free (word_in t) ((v ++ w) ++ rest)
  decl_start t {v} {w} x y rest = subst (Free (word_in t)) (sym (append_assoc v w rest)) (range_start t x (w ++ rest) (all_start (word_in t) (λ m. refl) (λ q. refl) y rest))

  -- the word of a direction or kind leads to its declarations
  direction_enters : {p : Spot} {u : List Token} {kind : DeclKind} → IsDirection p u kind → (ts : List Token) → Free (word_in k.Wire) ts → Free (word_in k.Reg) ts → reader.item l (u ++ ts) ≡ reader.decls l p.place kind ts
  direction_enters (is_input p h) ts f e = ap (λ o. then_read o (reader.decls l p.place)) (wire_reads Input h ts f)
  direction_enters (is_output p h) ts f e = ap (λ o. then_read o (reader.decls l p.place)) (output_reads h ts f e)
  direction_enters (is_output_reg p q) ts f e = refl

  kind_enters : {p : Spot} {u : List Token} {kind : DeclKind} → IsKind p u kind → (ts : List Token) → Free (word_in k.Wire) ts → Free (word_in k.Reg) ts → reader.item l (u ++ ts) ≡ reader.decls l p.place kind ts
  kind_enters (is_direction h) ts f e = direction_enters h ts f e
  kind_enters (is_wire p) ts f e = refl
  kind_enters (is_reg p) ts f e = refl

  params_enter : (b : Bool) (p : Spot) (ts : List Token) → reader.item l (word (param_word b) p ∷ ts) ≡ reader.in_params l b p ts
  params_enter true p ts = refl
  params_enter false p ts = refl

  gate_is : (w : Keyword) (p : Spot) (a kind : GateKind) (ts : List Token) → Some a ≡ Some kind → reader.in_gates l (record { kind = a; sign = w; spot = p }) ts ≡ reader.in_gates l (record { kind = kind; sign = w; spot = p }) ts
  gate_is w p a kind ts e = let z : a ≡ kind = search (rules, e) in ap (λ x. reader.in_gates l (record { kind = x; sign = w; spot = p }) ts) z

  gates_enter : (w : Keyword) (p : Spot) (kind : GateKind) (ts : List Token) → gate_of w ≡ Some kind → reader.item l (word w p ∷ ts) ≡ reader.in_gates l (record { kind = kind; sign = w; spot = p }) ts
  gates_enter k.And p kind ts e = gate_is k.And p g.And kind ts e
  gates_enter k.Nand p kind ts e = gate_is k.Nand p g.Nand kind ts e
  gates_enter k.Or p kind ts e = gate_is k.Or p g.Or kind ts e
  gates_enter k.Nor p kind ts e = gate_is k.Nor p g.Nor kind ts e
  gates_enter k.Xor p kind ts e = gate_is k.Xor p g.Xor kind ts e
  gates_enter k.Xnor p kind ts e = gate_is k.Xnor p g.Xnor kind ts e
  gates_enter k.Buf p kind ts e = gate_is k.Buf p g.Buf kind ts e
  gates_enter k.Not p kind ts e = gate_is k.Not p g.Not kind ts e
  gates_enter w p kind ts e = absurd (search (rules, e))

  driven_start : {v : List Token} {xs : List Driven} → IsListed Semicolon IsDriven v xs → (rest : List Token) → Free (mark_in Hash) (v ++ rest)
  driven_start (is_list q {u} {v} x y) rest = subst (Free (mark_in Hash)) (sym (append_assoc u (v ++ mark Semicolon q ∷ []) rest)) (go x ((v ++ mark Semicolon q ∷ []) ++ rest))
    where
      go : {u : List Token} {d : Driven} → IsDriven u d → (ts : List Token) → Free (mark_in Hash) (u ++ ts)
      go (is_driven p {u} {v} x y) ts = subst (Free (mark_in Hash)) (sym (append_assoc u (mark Equals p ∷ v) ts)) (target_starts (mark_in Hash) hash_no_start x (mark Equals p ∷ (v ++ ts)))

  gates_start : {v : List Token} {xs : List (List ExprTree)} → IsListed Semicolon IsGate v xs → (rest : List Token) → Free (mark_in Hash) (v ++ rest)
  gates_start (is_list q (plain_gate p x) y) rest = refl
  gates_start (is_list q (named_gate m p x) y) rest = refl

  -- assignments and gates behind their delay
  abbrev assigns : Place → List Token → Outcome (List ItemTree)
  assigns p = reader.then_done (reader.assign_items p) (reader.listed Semicolon (reader.driven l))

  abbrev gates : Place → GateKind → List Token → Outcome (List ItemTree)
  gates p kind = reader.then_done (reader.gate_items p kind) (reader.listed Semicolon (reader.gate l))

  pub item_reads : ReadsAll n IsItem (most item_height) (Free (word_in k.Else)) (reader.item l)
  item_reads u b x j rest f = go x j
    where
      go : {u : List Token} {b : List ItemTree} → IsItem u b → most item_height b ≤ n → reader.item l (u ++ rest) ≡ done b rest
      go (is_decls {p} {u} {v} {w} {kind} {r = a} {xs} h x y) j = ap (reader.item l) (append_assoc u (v ++ w) rest)
          ∙ kind_enters h ((v ++ w) ++ rest) (decl_start k.Wire x y rest) (decl_start k.Reg x y rest) ∙ decls_read p.place kind x y j rest
      go (is_params b p {u} {v} {r = a} {xs} x y) j = params_enter b p ((u ++ v) ++ rest)
          ∙ both_read (reader.param_items p.place b) (reader.maybe_range l) (reader.listed Semicolon (reader.setting l)) u v rest a xs
          (range_reads u a x (first_low (mark Comma) Semicolon IsSetting IsSetting y item_height (param_item p.place b a) (range_height a) n (λ z i. omega (arith, i)) j) (v ++ rest) (settings_start (mark_in BracketOpen) (λ m. refl) y rest))
          (listed_reads Semicolon (λ p. refl) (λ p. refl) IsSetting setting_height Stands before_comma before_semicolon (reader.setting l) setting_reads y (map_most setting_height item_height (param_item p.place b a) n (λ z i. omega (arith, i)) xs j) rest)
      go (is_assigns p {u} {v} {xs} d x) j = ap (reader.past reader.maybe_delay (assigns p.place)) (append_assoc u v rest)
          ∙ ap (λ o. then_read o (λ _. assigns p.place)) (delay_reads d (v ++ rest) (driven_start x rest)) ∙ ap (λ o. then_read o (λ xs. done (reader.assign_items p.place xs)))
          (listed_reads Semicolon (λ p. refl) (λ p. refl) IsDriven driven_height Stands before_comma before_semicolon (reader.driven l) driven_reads x (map_most driven_height item_height (assign_item p.place) n (λ z i. i) xs j) rest)
      go (is_gates w p {kind} {u} {v} {xs} e d x) j = gates_enter w p kind ((u ++ v) ++ rest) e ∙ ap (reader.past reader.maybe_delay (gates p.place kind)) (append_assoc u v rest)
          ∙ ap (λ o. then_read o (λ _. gates p.place kind)) (delay_reads d (v ++ rest) (gates_start x rest)) ∙ ap (λ o. then_read o (λ xs. done (reader.gate_items p.place kind xs)))
          (listed_reads Semicolon (λ p. refl) (λ p. refl) IsGate (most height) Anything (λ p ts. tt) (λ p ts. tt) (reader.gate l) gate_reads x (map_most (most height) item_height (gate_item p.place kind) n (λ z i. i) xs j) rest)
      go (is_instances m {u} {v} {c} {xs} x y) j = both_read (reader.instance_items m.spot.place m.name) (reader.overrides l) (reader.listed Semicolon (reader.placed l)) u v rest c xs
          (overrides_reads u c x (first_low (mark Comma) Semicolon IsPlaced IsPlaced y item_height (instance_item m.spot.place m.name c) (conns_height c) n (λ z i. omega (arith, i)) j) (v ++ rest) (placed_start y rest))
          (listed_reads Semicolon (λ p. refl) (λ p. refl) IsPlaced placed_height Anything (λ p ts. tt) (λ p ts. tt) (reader.placed l) placed_reads y (map_most placed_height item_height (instance_item m.spot.place m.name c) n (λ z i. omega (arith, i)) xs j) rest)
      go (is_always p {u} {v} {e} {s} x y) j = both_read (reader.always_items p.place) reader.event l.stmt u v rest e s (event_reads x (v ++ rest)) (c_stmt y n (omega (arith, j)) rest (λ _. f))
      go (is_initial p {u} {s} x) j = ap (λ o. then_read o (λ s. done (reader.initial_items p.place s))) (c_stmt x n (omega (arith, j)) rest (λ _. f))

  -- headers
  long_enters : (b : Bool) (p : Spot) (ts : List Token) → reader.long_pdecl l (word (param_word b) p ∷ ts) ≡ reader.in_long l b ts
  long_enters true p ts = refl
  long_enters false p ts = refl

  long_reads : ReadsAll n IsLongPdecl pdecl_height Stands (reader.long_pdecl l)
  long_reads u b x j rest f = go x j
    where
      go : {u : List Token} {b : Pdecl} → IsLongPdecl u b → pdecl_height b ≤ n → reader.long_pdecl l (u ++ rest) ≡ done b rest
      go (is_long b p {u} {v} {r = a} {s} x y) j = long_enters b p ((u ++ v) ++ rest)
          ∙ both_read (reader.long_of b) (reader.maybe_range l) (reader.setting l) u v rest a s (range_reads u a x (omega (arith, j)) (v ++ rest) (starts y)) (setting_reads v s y (omega (arith, j)) rest f)
        where
          starts : {v : List Token} {s : Setting} → IsSetting v s → Free (mark_in BracketOpen) (v ++ rest)
          starts (is_setting m q x) = refl

  long_same : {u : List Token} {b : Pdecl} → IsLongPdecl u b → (rest : List Token) → reader.pdecl l (u ++ rest) ≡ reader.long_pdecl l (u ++ rest)
  long_same (is_long true p x y) rest = refl
  long_same (is_long false p x y) rest = refl

  short_same : {u : List Token} {s : Setting} → IsSetting u s → (rest : List Token) → reader.pdecl l (u ++ rest) ≡ reader.then_done reader.short_of (reader.setting l) (u ++ rest)
  short_same (is_setting m p x) rest = refl

  pdecl_reads : ReadsAll n IsPdecl pdecl_height Stands (reader.pdecl l)
  pdecl_reads u b x j rest f = go x j
    where
      go : {u : List Token} {b : Pdecl} → IsPdecl u b → pdecl_height b ≤ n → reader.pdecl l (u ++ rest) ≡ done b rest
      go (long_pdecl {u} {a = b} x) j = long_same x rest ∙ long_reads u b x j rest f
      go (short_pdecl {u} {s} x) j = short_same x rest ∙ ap (λ o. then_read o (λ s. done (reader.short_of s))) (setting_reads u s x (omega (arith, j)) rest f)

  header_reads : ReadsAll n IsHeader (most param_height) (Free (mark_in Hash)) (reader.header l)
  header_reads u b x j rest f = go x j
    where
      go : {u : List Token} {b : List ParamTree} → IsHeader u b → most param_height b ≤ n → reader.header l (u ++ rest) ≡ done b rest
      go no_header j = next_free (mark_in Hash) (reader.in_header l) (done []) rest f
      go (a_header p q {u} {bs} x) j = ap (λ o. then_read o (λ bs. done (params_from first_form bs)))
          (list_reads (mark_in Comma) (mark Comma) (λ p. refl) ParenClose (λ p. refl) (λ p. refl) n IsLongPdecl IsPdecl pdecl_height Stands before_comma behind_paren (reader.long_pdecl l) (reader.pdecl l) long_reads pdecl_reads x (low_params n first_form bs j) rest)

  start_reads : (kind : DeclKind) (u : List Token) (e : Option ExprTree) → IsStart kind u e → init_height e ≤ n → (rest : List Token) → InitOk rest → reader.start l kind (u ++ rest) ≡ done e rest
  start_reads kind u e x j rest f = go x j
    where
      go : {kind : DeclKind} {u : List Token} {e : Option ExprTree} → IsStart kind u e → init_height e ≤ n → reader.start l kind (u ++ rest) ≡ done e rest
      go {kind} (no_start e) j = other (has_start kind) (reader.init l) (done None) e rest
      go {kind} (a_start {u = u} {e = a} e x) j = chosen (has_start kind) (reader.init l) (done None) e (u ++ rest) ∙ init_reads u a x j rest f

  adecl_reads : ReadsAll n IsAdecl entry_height InitOk (reader.adecl l)
  adecl_reads u b x j rest f = go x j
    where
      ended : (w : List Token) → (v : List Token) (m : Named) → (v ++ ident m ∷ w) ++ rest ≡ v ++ ident m ∷ (w ++ rest)
      ended w v m = append_assoc v (ident m ∷ w) rest

      go : {u : List Token} {b : Entry} → IsAdecl u b → entry_height b ≤ n → reader.adecl l (u ++ rest) ≡ done b rest
      go (is_adecl {p} {kind} {u} {v} {w} {r = a} {e} m x y z) j = let last = ident m ∷ (w ++ rest) in
          ap (reader.adecl l) (append_assoc u (v ++ ident m ∷ w) rest ∙ ap (λ o. u ++ o) (append_assoc v (ident m ∷ w) rest))
          ∙ ap (λ o. then_read o (reader.behind_direction l)) (direction_reads x (v ++ last) (range_start k.Wire y last refl) (range_start k.Reg y last refl))
          ∙ ap (λ o. then_read o (reader.behind_range l kind)) (range_reads v a y (omega (arith, j)) last refl)
          ∙ ap (λ o. then_read o (λ e. done (reader.entry_of kind a m.name e))) (start_reads kind w e z (omega (arith, j)) rest f)

  adecl_starts : {B : Type 0} (test : Token → Option B) → ((w : Keyword) (p : Spot) → test (word w p) ≡ None) → {u : List Token} {b : Entry} → IsAdecl u b → (rest : List Token) → Free test (u ++ rest)
  adecl_starts test e (is_adecl {u = u} {v = v} {w = w} m x y z) rest = subst (Free test) (sym (append_assoc u (v ++ ident m ∷ w) rest)) (go x)
    where
      go : {p : Spot} {u : List Token} {kind : DeclKind} → IsDirection p u kind → Free test (u ++ ((v ++ ident m ∷ w) ++ rest))
      go (is_input p h) = e k.Input p
      go (is_output p h) = e k.Output p
      go (is_output_reg p q) = e k.Output p

  entry_reads : ReadsAll n IsEntry entry_height InitOk (reader.entry l)
  entry_reads u b x j rest f = go x j
    where
      go : {u : List Token} {b : Entry} → IsEntry u b → entry_height b ≤ n → reader.entry l (u ++ rest) ≡ done b rest
      go (long_entry {u} {a = b} x) j = next_free ident_in (λ m. reader.then_done (reader.short_entry_of m.name) (reader.init l)) (reader.adecl l) (u ++ rest) (adecl_starts ident_in (λ w p. refl) x rest) ∙ adecl_reads u b x j rest f
      go (short_entry m {u} {e} x) j = ap (λ o. then_read o (λ e. done (reader.short_entry_of m.name e))) (init_reads u e x (omega (arith, j)) rest f)

  bare_reads : ReadsAll n IsName flat Anything reader.bare_name
  bare_reads u b x j rest f = go x
    where
      go : {u : List Token} {b : List ℕ} → IsName u b → reader.bare_name (u ++ rest) ≡ done b rest
      go (a_name m) = refl

  old_enters : {u : List Token} {ns : List (List ℕ)} → IsListed ParenClose IsName u ns → (p : Spot) (rest : List Token) → reader.in_ports l p (u ++ rest) ≡ reader.then_done reader.old_of (reader.listed ParenClose reader.bare_name) (u ++ rest)
  old_enters (is_list q (a_name m) y) p rest = refl

  ansi_enters : {u : List Token} {es : List Entry} → IsList (mark Comma) ParenClose IsAdecl IsEntry u es → (p : Spot) (rest : List Token)
      → reader.in_ports l p (u ++ rest) ≡ reader.then_done reader.ansi_of (reader.list (mark_in Comma) ParenClose (reader.adecl l) (reader.entry l)) (u ++ rest)
  ansi_enters (is_list q {u} {v} x y) p rest = let whole = (u ++ (v ++ mark ParenClose q ∷ [])) ++ rest in
      next_free (mark_in ParenClose) (λ _. done reader.without_ports) (peek ident_in (reader.then_done reader.old_of (reader.listed ParenClose reader.bare_name)) (reader.then_done reader.ansi_of (reader.list (mark_in Comma) ParenClose (reader.adecl l) (reader.entry l)))) whole
      (subst (Free (mark_in ParenClose)) (sym (append_assoc u (v ++ mark ParenClose q ∷ []) rest)) (adecl_starts (mark_in ParenClose) (λ w p. refl) x ((v ++ mark ParenClose q ∷ []) ++ rest)))
      ∙ peek_free ident_in (reader.then_done reader.old_of (reader.listed ParenClose reader.bare_name)) (reader.then_done reader.ansi_of (reader.list (mark_in Comma) ParenClose (reader.adecl l) (reader.entry l))) whole
      (subst (Free ident_in) (sym (append_assoc u (v ++ mark ParenClose q ∷ []) rest)) (adecl_starts ident_in (λ w p. refl) x ((v ++ mark ParenClose q ∷ []) ++ rest)))

  abbrev ports_height : Ports → ℕ
  ports_height q = most port_height q.list

  ports_reads : ReadsAll n IsPorts ports_height (Free (mark_in ParenOpen)) (reader.ports l)
  ports_reads u b x j rest f = go x j
    where
      low : {A : Type 0} (xs : List A) → most flat xs ≤ n
      low xs = let z = most_flat xs in omega (arith, z)

      go : {u : List Token} {b : Ports} → IsPorts u b → ports_height b ≤ n → reader.ports l (u ++ rest) ≡ done b rest
      go no_ports j = next_free (mark_in ParenOpen) (reader.in_ports l) (done reader.without_ports) rest f
      go (empty_ports p q) j = refl
      go (old_ports p {u} {ns} x) j = old_enters x p rest ∙ ap (λ o. then_read o (λ ns. done (reader.old_of ns)))
          (listed_reads ParenClose (λ p. refl) (λ p. refl) IsName flat Anything (λ p ts. tt) (λ p ts. tt) reader.bare_name bare_reads x (low ns) rest)
      go (ansi_ports p {u} {es} x) j = ansi_enters x p rest ∙ ap (λ o. then_read o (λ es. done (reader.ansi_of es)))
          (list_reads (mark_in Comma) (mark Comma) (λ p. refl) ParenClose (λ p. refl) (λ p. refl) n IsAdecl IsEntry entry_height InitOk init_comma init_paren (reader.adecl l) (reader.entry l) adecl_reads entry_reads x (low_ports n first_shape es j) rest)

  -- what an item begins with
  no_gate : (t w : Keyword) (kind : GateKind) (p : Spot) → gate_of t ≡ None → gate_of w ≡ Some kind → word_in t (word w p) ≡ None
  no_gate t w kind p e h = go (words.ghosts.eq t w) refl
    where
      go : (b : Bool) → words.ghosts.eq t w ≡ b → (if b then Some p else None) ≡ None
      go true f = absurd (let z : t ≡ w = same_words t w f in let y : gate_of w ≡ None = subst (λ x. gate_of x ≡ None) z e in search (rules, y, h))
      go false f = refl

  kind_starts : {p : Spot} {u : List Token} {kind : DeclKind} → IsKind p u kind → (t : Keyword) → words.ghosts.eq t k.Input ≡ false → words.ghosts.eq t k.Output ≡ false → words.ghosts.eq t k.Wire ≡ false → words.ghosts.eq t k.Reg ≡ false → (ts : List Token) → Free (word_in t) (u ++ ts)
  kind_starts (is_direction h) t a b c d ts = go h
    where
      go : {p : Spot} {u : List Token} {kind : DeclKind} → IsDirection p u kind → Free (word_in t) (u ++ ts)
      go (is_input p h) = ap (λ x. if x then Some p else None) a
      go (is_output p h) = ap (λ x. if x then Some p else None) b
      go (is_output_reg p q) = ap (λ x. if x then Some p else None) b
  kind_starts (is_wire p) t a b c d ts = ap (λ x. if x then Some p else None) c
  kind_starts (is_reg p) t a b c d ts = ap (λ x. if x then Some p else None) d

  no_else : {u : List Token} {xs : List ItemTree} → IsItem u xs → (rest : List Token) → Free (word_in k.Else) (u ++ rest)
  no_else (is_decls {u = u} {v = v} {w = w} h x y) rest = subst (Free (word_in k.Else)) (sym (append_assoc u (v ++ w) rest)) (kind_starts h k.Else refl refl refl refl ((v ++ w) ++ rest))
  no_else (is_params true p x y) rest = refl
  no_else (is_params false p x y) rest = refl
  no_else (is_assigns p d x) rest = refl
  no_else (is_gates w p {kind} e d x) rest = no_gate k.Else w kind p refl e
  no_else (is_instances m x y) rest = refl
  no_else (is_always p x y) rest = refl
  no_else (is_initial p x) rest = refl

  no_end : {u : List Token} {xs : List ItemTree} → IsItem u xs → (rest : List Token) → Free (word_in k.EndModule) (u ++ rest)
  no_end (is_decls {u = u} {v = v} {w = w} h x y) rest = subst (Free (word_in k.EndModule)) (sym (append_assoc u (v ++ w) rest)) (kind_starts h k.EndModule refl refl refl refl ((v ++ w) ++ rest))
  no_end (is_params true p x y) rest = refl
  no_end (is_params false p x y) rest = refl
  no_end (is_assigns p d x) rest = refl
  no_end (is_gates w p {kind} e d x) rest = no_gate k.EndModule w kind p refl e
  no_end (is_instances m x y) rest = refl
  no_end (is_always p x y) rest = refl
  no_end (is_initial p x) rest = refl

  -- modules
  abbrev ItemTo : List Token → List ItemTree → Type 0
  ItemTo = Within IsItem (most item_height) n

  behind_item : {v : List Token} {xs : List (List ItemTree)} → AreMany ItemTo v xs → (q : Spot) (rest : List Token) → Free (word_in k.Else) (v ++ word k.EndModule q ∷ rest)
  behind_item none_of q rest = refl
  behind_item (one_of {u} {v} x y) q rest = subst (Free (word_in k.Else)) (sym (append_assoc u v (word k.EndModule q ∷ rest))) (no_else x.0 (v ++ word k.EndModule q ∷ rest))

  items_read : {v : List Token} {xs : List (List ItemTree)} → AreMany IsItem v xs → most (most item_height) xs ≤ n → (q : Spot) (rest : List Token) → many (word_in k.EndModule) (reader.item l) (v ++ word k.EndModule q ∷ rest) ≡ done (xs, q) rest
  items_read m j q rest = c_many (word_in k.EndModule) (reader.item l) (eats_items n) ItemTo (λ u a x. no_end x.0) (word k.EndModule q) q refl
      (λ u v a bs x y rest. item_reads u a x.0 x.1 (v ++ word k.EndModule q ∷ rest) (behind_item y q rest)) (many_within IsItem (most item_height) n m j) rest

  ports_start : {v : List Token} {q : Ports} → IsPorts v q → (p : Spot) (ts : List Token) → Free (mark_in Hash) (v ++ mark Semicolon p ∷ ts)
  ports_start no_ports p ts = refl
  ports_start (empty_ports o q) p ts = refl
  ports_start (old_ports o x) p ts = refl
  ports_start (ansi_ports o x) p ts = refl

  module_reads : ReadsAll n IsModule module_height Anything (reader.read_module l)
  module_reads u b x j rest f = go x j
    where
      go : {u : List Token} {b : ModuleTree} → IsModule u b → module_height b ≤ n → reader.read_module l (u ++ rest) ≡ done b rest
      go (is_module p q t m {u} {v} {w} {ps} {ports} {items} x y z) j =
          let ending = word k.EndModule t ∷ rest in let last = mark Semicolon q ∷ (w ++ ending) in
          let low : most (most item_height) items ≤ n = joined_most item_height n items (omega (arith, j)) in
          ap (reader.in_module l p m) (append_assoc u (v ++ mark Semicolon q ∷ (w ++ word k.EndModule t ∷ [])) rest ∙ ap (λ o. u ++ o) (append_assoc v (mark Semicolon q ∷ (w ++ word k.EndModule t ∷ [])) rest
          ∙ ap (λ o. v ++ mark Semicolon q ∷ o) (append_assoc w (word k.EndModule t ∷ []) rest)))
          ∙ ap (λ o. then_read o (reader.behind_header l p.place m.name)) (header_reads u ps x (omega (arith, j)) (v ++ last) (ports_start y q (w ++ ending)))
          ∙ ap (λ o. then_read o (reader.behind_ports l p.place m.name ps)) (ports_reads v ports y (omega (arith, j)) last refl)
          ∙ ap (λ o. then_read o (reader.module_end p.place m.name ps ports)) (items_read z low t rest)

  modules_start : {u : List Token} {b : ModuleTree} → IsModule u b → (rest : List Token) → Free end_in (u ++ rest)
  modules_start (is_module p q t m x y z) rest = refl

  pub source_reads : {u : List Token} {ms : List ModuleTree} → IsSource u ms → source_height ms ≤ n → (rest : List Token) → reader.source l (u ++ rest) ≡ done ms rest
  source_reads (is_source s {u} {ms} x) j rest = ap (reader.source l) (append_assoc u (closing s ∷ []) rest)
      ∙ ap (λ o. then_read o reader.source_end) (c_many end_in (reader.read_module l) (eats_modules n) (Within IsModule module_height n) (λ u a x. modules_start x.0) (closing s) s refl
      (λ u v a bs x y rest. module_reads u a x.0 x.1 (v ++ closing s ∷ rest) tt) (many_within IsModule module_height n x j) rest)

pub c_source : {u : List Token} {ms : List ModuleTree} → IsSource u ms → (n : ℕ) → source_height ms ≤ n → (rest : List Token) → reader.read_source n (u ++ rest) ≡ done ms rest
unfolding reader.read_source
c_source x n j rest = source_reads n x j rest
