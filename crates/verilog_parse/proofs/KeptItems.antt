-- What a text can hold stays so where it is read and printed: items, modules and sources.
use Rattle.std.proofs.Common.{ℕ, ◌≡◌, Bool, true, false, List, [], ◌∷◌, ◌++◌, map, Option, Some, None, refl, sym, ap, subst, ◌∙◌, append_assoc}
use Rattle.std.specs.Prelude.{if◌then◌else◌}
use Rattle.cdc_base.specs.declared.words.Keyword.TheVariants as k
use Rattle.verilog_ast.specs.declared.DeclKind.{DeclKind}
use Rattle.verilog_ast.specs.declared.DeclKind.TheVariants.{Input, Output, OutputReg, Wire, Reg}
use Rattle.verilog_ast.specs.declared.Edge.{Edge}
use Rattle.verilog_ast.specs.declared.Event.{Event}
use Rattle.verilog_lex.specs.declared.token.Token.{Token}
use Rattle.verilog_lex.specs.declared.token.TokenKind.TheVariants.{Ident, Mark}
use Rattle.verilog_lex.specs.declared.marks.MarkKind.{MarkKind}
use Rattle.verilog_lex.specs.declared.marks.MarkKind.TheVariants.{ParenClose, Comma, Semicolon, Equals}
use Rattle.verilog_reading.specs.Lexemes.{token_at}
use Rattle.verilog_reading.specs.ExprTree.{ExprTree}
use Rattle.verilog_reading.specs.Lists.{AreMore, no_more, one_more, AreMany, none_of, one_of}
use Rattle.verilog_reading.specs.Reading.{IsExpr}
use Rattle.verilog_reading.specs.ItemReading.{IsList, is_list, IsListed, IsMaybeRange, no_range, a_range, IsInit, no_init, an_init, Setting, IsSetting, is_setting, Var, IsVar, is_var, are_vars, Driven, IsDriven, is_driven, IsGate, plain_gate, named_gate, IsValue, no_value, a_value, IsConn, is_conn, entries, IsConns, is_ordered, is_named, IsOverrides, no_overrides, overrides, Placed, IsPlaced, is_placed, IsEdge, is_positive, is_negative, is_level, separator, IsEvent, is_star, is_star_in, is_edges, decl_item, param_item, assign_item, gate_item, instance_item, IsItem, is_decls, is_params, is_assigns, is_gates, is_instances, is_always, is_initial, ParamForm, Pdecl, is_long, IsPdecl, long_pdecl, short_pdecl, form_from, params_from, first_form, IsHeader, no_header, a_header, IsStart, no_start, a_start, Shape, Entry, is_adecl, IsEntry, long_entry, short_entry, shape_from, port_from, ports_from, first_shape, IsName, a_name, bare, Ports, IsPorts, no_ports, empty_ports, old_ports, ansi_ports, IsModule, is_module, IsSource, is_source}
use Rattle.verilog_reading.specs.SourceTree.{Bounds, ParamTree, ConnTree, ConnsTree, ordered, named, ItemTree, ModuleTree, joined}
use Rattle.verilog_parse.specs.Printed.{Printed, mark, word, ident, behind, with_commas, separated, in_turn}
use Rattle.verilog_parse.specs.Pieces.{expr_pieces, target_pieces, if_any, bounds_pieces, init_pieces, kind_pieces, value_pieces, conn_pieces, conns_pieces, overrides_pieces, edge_pieces, event_pieces, body_pieces, item_pieces, param_pieces, header_pieces, decl_pieces, is_short, port_pieces, module_pieces, source_pieces}
use Rattle.verilog_parse.specs.Written.{IsWritable}
use Rattle.verilog_parse.proofs.TextSteps.{map_twice}
use Rattle.verilog_parse.proofs.Kept.{CanStand, Stand, s_more, front, rest, tail, Written, w_end, w_still, w_token, w_line, w_mark, w_word, both, Keeps, kept_more, kept_part, kept_expr, kept_target, kept_stmt}

kept_listed : {b : Bool} {A : Type 0} (R : List Token → A → Type 0) (f : A → List Printed) → Keeps R f → {m : MarkKind} {u : List Token} {bs : List A} → IsListed m R u bs → Stand u → Written false b (with_commas (map f bs) ++ mark m)
kept_listed R f g (is_list q {u} {v} {a} {bs} x y) r = both (both (g u a x (front u _ r)) (kept_more R f g y (front v _ (rest u _ r)))) (w_mark w_end)

kept_maybe_range : {u : List Token} {b : Option Bounds} → IsMaybeRange u b → Stand u → Written false false (if_any bounds_pieces b)
kept_maybe_range no_range r = w_end
kept_maybe_range (a_range x) r = kept_part x r

kept_init : {u : List Token} {e : Option ExprTree} → IsInit u e → Stand u → Written false true (init_pieces e)
kept_init no_init r = w_end
kept_init (an_init p x) (s_more h r) = w_mark (kept_expr x r)

kept_setting : {u : List Token} {s : Setting} → IsSetting u s → Stand u → Written false true (ident s.name ++ (mark Equals ++ expr_pieces s.value))
kept_setting (is_setting n p x) (s_more h (s_more g r)) = w_token h (w_mark (kept_expr x r))

kind_written : (kind : DeclKind) → Written false false (kind_pieces kind)
kind_written Input = w_word w_end
kind_written Output = w_word w_end
kind_written OutputReg = w_word (w_word w_end)
kind_written Wire = w_word w_end
kind_written Reg = w_word w_end

kept_var : {u : List Token} {x : Var} → IsVar u x → Stand u → Written false true (ident x.name ++ (if_any bounds_pieces x.array ++ init_pieces x.init))
kept_var (is_var n {u} x y) (s_more h r) = w_token h (both (kept_maybe_range x (front u _ r)) (kept_init y (rest u _ r)))

kept_value : {u : List Token} {e : Option ExprTree} → IsValue u e → Stand u → Written false true (value_pieces e)
kept_value no_value r = w_end
kept_value (a_value x) r = kept_expr x r

kept_conn : {u : List Token} {c : ConnTree} → IsConn u c → Stand u → Written false true (conn_pieces c)
kept_conn (is_conn p q t n {u} x) (s_more h (s_more g (s_more i r))) = w_mark (w_token g (w_mark (both (kept_value x (front u _ r)) (w_mark w_end))))

kept_ordered : {u : List Token} (es : List (Option ExprTree)) → IsListed ParenClose IsValue u es → Stand u → Written false false (conns_pieces (ordered (entries es)))
kept_ordered [] x r = w_mark (w_mark w_end)
kept_ordered (None ∷ []) x r = w_mark (w_mark w_end)
kept_ordered (None ∷ (e ∷ es)) x r = w_mark (kept_listed IsValue value_pieces (λ u a y. kept_value y) x r)
kept_ordered (Some e ∷ es) x r = w_mark (kept_listed IsValue value_pieces (λ u a y. kept_value y) x r)

kept_conns : {u : List Token} {c : ConnsTree} → IsConns u c → Stand u → Written false false (conns_pieces c)
kept_conns (is_ordered p {u} {es} x) (s_more h r) = kept_ordered es x r
kept_conns (is_named p x) (s_more h r) = w_mark (kept_listed IsConn conn_pieces (λ u a y. kept_conn y) x r)

override_written : (c : ConnsTree) → Written false false (conns_pieces c) → Written false false (overrides_pieces c)
override_written (ordered []) w = w_end
override_written (ordered (e ∷ es)) w = w_mark w
override_written (named cs) w = w_mark w

kept_overrides : {u : List Token} {c : ConnsTree} → IsOverrides u c → Stand u → Written false false (overrides_pieces c)
kept_overrides no_overrides r = w_end
kept_overrides (overrides p {u} {c} x) (s_more h r) = override_written c (kept_conns x r)

kept_edge : {u : List Token} {e : Edge} → IsEdge u e → Stand u → Written false true (edge_pieces e)
kept_edge (is_positive p n) (s_more h (s_more g r)) = w_word (w_token g w_end)
kept_edge (is_negative p n) (s_more h (s_more g r)) = w_word (w_token g w_end)
kept_edge (is_level n) (s_more h r) = w_token h w_end

kept_edges : {u : List Token} {es : List Edge} → AreMore separator IsEdge u es → Stand u → Written true true (behind (word k.Or) (map edge_pieces es))
kept_edges no_more r = w_still
kept_edges (one_more b {u} {v} x y) (s_more h r) = w_word (both (kept_edge x (front u _ r)) (kept_edges y (rest u _ r)))

kept_edge_list : {u : List Token} {es : List Edge} → IsList separator ParenClose IsEdge IsEdge u es → Stand u → Written false false (separated (word k.Or) (map edge_pieces es) ++ mark ParenClose)
kept_edge_list (is_list q {u} {v} x y) r = both (both (kept_edge x (front u _ r)) (kept_edges y (front v _ (rest u _ r)))) (w_mark w_end)

kept_event : {u : List Token} {e : Event} → IsEvent u e → Stand u → Written false false (event_pieces e)
kept_event (is_star p q) r = w_mark (w_mark w_end)
kept_event (is_star_in p q i j) r = w_mark (w_mark w_end)
kept_event (is_edges p q x) (s_more h (s_more g r)) = w_mark (w_mark (kept_edge_list x r))

-- each entry of a list is a line
abbrev Lines : List ItemTree → Type 0
Lines xs = Written false false (in_turn (map item_pieces xs))

abbrev KeepsItem : {A : Type 0} → (List Token → A → Type 0) → (A → ItemTree) → Type 0
KeepsItem {A} R make = (u : List Token) (a : A) → R u a → Stand u → Written false false (body_pieces (make a).body)

lines_more : {A : Type 0} (R : List Token → A → Type 0) (make : A → ItemTree) → KeepsItem R make → {u : List Token} {bs : List A} → AreMore (token_at (Mark Comma)) R u bs → Stand u → Lines (map make bs)
lines_more R make f no_more r = w_end
lines_more R make f (one_more p {u} {v} {a} {bs} x y) (s_more h r) = both (both (f u a x (front u _ r)) (w_line w_end)) (lines_more R make f y (rest u _ r))

lines_listed : {A : Type 0} (R : List Token → A → Type 0) (make : A → ItemTree) → KeepsItem R make → {u : List Token} {xs : List A} → IsListed Semicolon R u xs → Stand u → Lines (map make xs)
lines_listed R make f (is_list q {u} {v} {a} {bs} x y) r = both (both (f u a x (front u _ r)) (w_line w_end)) (lines_more R make f y (front v _ (rest u _ r)))

kept_driven : {u : List Token} {d : Driven} → IsDriven u d → Stand u → Written false false (target_pieces d.target ++ (mark Equals ++ (expr_pieces d.value ++ mark Semicolon)))
kept_driven (is_driven p {u} {v} x y) r = both {b = false} (kept_target x (front u _ r)) (w_mark (both (kept_expr y (tail (rest u _ r))) (w_mark w_end)))

kept_terminals : {u : List Token} {es : List ExprTree} → IsGate u es → Stand u → Written false true (with_commas (map expr_pieces es))
kept_terminals (plain_gate p (is_list q {u} {v} x y)) (s_more h r) = both (kept_expr x (front u _ r)) (kept_more IsExpr expr_pieces (λ u a y. kept_expr y) y (front v _ (rest u _ r)))
kept_terminals (named_gate n p (is_list q {u} {v} x y)) (s_more h (s_more g r)) = both (kept_expr x (front u _ r)) (kept_more IsExpr expr_pieces (λ u a y. kept_expr y) y (front v _ (rest u _ r)))

kept_placed : {u : List Token} {i : Placed} → IsPlaced u i → Stand u → Written false false (ident i.name ++ (conns_pieces i.ports ++ mark Semicolon))
kept_placed (is_placed n x) (s_more h r) = w_token h (both (kept_conns x r) (w_mark w_end))

kept_item : {u : List Token} {xs : List ItemTree} → IsItem u xs → Stand u → Lines xs
kept_item (is_decls {p} {u} {v} {kind = kind} {r = b} x y (are_vars {u = d} e z)) r = let m = kept_maybe_range y (front v _ (rest u _ r)) in
    lines_listed IsVar (decl_item p.place kind b) (λ u a x r. both (both (kind_written kind) (both m (kept_var x r))) (w_mark w_end)) z (rest d _ (rest v _ (rest u _ r)))
kept_item (is_params local p {u} {v} {r = b} y z) (s_more h r) = let m = kept_maybe_range y (front u _ r) in
    lines_listed IsSetting (param_item p.place local b) (λ u a x r. w_word (both (both m (kept_setting x r)) (w_mark w_end))) z (rest u _ r)
kept_item (is_assigns p {u} d z) (s_more h r) = lines_listed IsDriven (assign_item p.place) (λ u a x r. w_word (kept_driven x r)) z (rest u _ r)
kept_item (is_gates w p {kind} {u} e d z) (s_more h r) = lines_listed IsGate (gate_item p.place kind) (λ u a x r. w_word (w_mark (both (kept_terminals x r) (w_mark (w_mark w_end))))) z (rest u _ r)
kept_item (is_instances n {u} {v} {c} y z) (s_more h r) = let m = kept_overrides y (front u _ r) in
    lines_listed IsPlaced (instance_item n.spot.place n.name c) (λ u a x r. w_token h (both m (kept_placed x r))) z (rest u _ r)
kept_item (is_always p {u} {v} x y) (s_more h r) = both (both (w_word (both (kept_event x (front u _ r)) (kept_stmt y (rest u _ r)))) (w_line w_end)) w_end
kept_item (is_initial p x) (s_more h r) = both (both (w_word (kept_stmt x r)) (w_line w_end)) w_end

turns : (xs ys : List ItemTree) → in_turn (map item_pieces (xs ++ ys)) ≡ in_turn (map item_pieces xs) ++ in_turn (map item_pieces ys)
turns [] ys = refl
turns (x ∷ xs) ys = ap (λ z. item_pieces x ++ z) (turns xs ys) ∙ sym (append_assoc (item_pieces x) (in_turn (map item_pieces xs)) (in_turn (map item_pieces ys)))

lines_both : (xs ys : List ItemTree) → Lines xs → Lines ys → Lines (xs ++ ys)
lines_both xs ys a b = subst (Written false false) (sym (turns xs ys)) (both a b)

kept_items : {u : List Token} {rows : List (List ItemTree)} → AreMany IsItem u rows → Stand u → Lines (joined rows)
kept_items none_of r = w_end
kept_items (one_of {u} {v} {a} {bs} x y) r = lines_both a (joined bs) (kept_item x (front u _ r)) (kept_items y (rest u _ r))

-- the range of a parameter, which may be that of the entry before it
abbrev RangeWritten : Option Bounds → Type 0
RangeWritten b = Written false false (if_any bounds_pieces b)

range_kept : {u : List Token} {a : Pdecl} (before : ParamForm) → RangeWritten before.range → IsPdecl u a → Stand u → RangeWritten (form_from before a.form).range
range_kept before w (long_pdecl (is_long local p {u} {v} x y)) (s_more h r) = kept_maybe_range x (front u _ r)
range_kept before w (short_pdecl y) r = w

pdecl_setting_kept : {u : List Token} {a : Pdecl} → IsPdecl u a → Stand u → Written false true (ident a.setting.name ++ (mark Equals ++ expr_pieces a.setting.value))
pdecl_setting_kept (long_pdecl (is_long local p {u} {v} x y)) (s_more h r) = kept_setting y (rest u _ r)
pdecl_setting_kept (short_pdecl y) r = kept_setting y r

kept_pdecls : {u : List Token} {bs : List Pdecl} (before : ParamForm) → RangeWritten before.range → AreMore (token_at (Mark Comma)) IsPdecl u bs → Stand u → Written true true (behind (mark Comma) (map param_pieces (params_from before bs)))
kept_pdecls before w no_more r = w_still
kept_pdecls before w (one_more p {u} {v} {a} {bs} x y) (s_more h r) = let m = range_kept before w x (front u _ r) in
    w_mark (both (w_word (both m (pdecl_setting_kept x (front u _ r)))) (kept_pdecls (form_from before a.form) m y (rest u _ r)))

kept_header : {u : List Token} {ps : List ParamTree} → IsHeader u ps → Stand u → Written false false (header_pieces ps)
kept_header no_header r = w_end
kept_header (a_header p q (is_list t {u} {v} {a} {bs} x y)) (s_more h (s_more g r)) = let m = range_kept first_form w_end (long_pdecl x) (front u _ r) in
    w_mark (w_mark (both (both (w_word (both m (pdecl_setting_kept (long_pdecl x) (front u _ r)))) (kept_pdecls (form_from first_form a.form) m y (front v _ (rest u _ r)))) (w_mark w_end)))

head : {t : Token} {ts : List Token} → Stand (t ∷ ts) → CanStand t.kind
head (s_more h r) = h

kept_start : {kind : DeclKind} {u : List Token} {e : Option ExprTree} → IsStart kind u e → Stand u → Written false true (init_pieces e)
kept_start (no_start h) r = w_end
kept_start (a_start h x) r = kept_init x r

-- what is written of an entry of a header: its range, its name and its value
record EntryWritten (before : Shape) (a : Entry) : Type 0 where
  range : RangeWritten (shape_from before a.shape).range
  name : IsWritable (Ident a.name)
  init : Written false true (init_pieces a.init)

kept_entry : {u : List Token} {a : Entry} (before : Shape) → RangeWritten before.range → IsEntry u a → Stand u → EntryWritten before a
kept_entry before w (long_entry (is_adecl {p} {kind} {u} {v} n x y z)) r = let t = rest v _ (rest u _ r) in
    record { range = kept_maybe_range y (front v _ (rest u _ r)); name = head t; init = kept_start z (tail t) }
kept_entry before w (short_entry n x) (s_more h r) = record { range = w; name = h; init = kept_init x r }

port_written : (s : Shape) (a : Entry) → RangeWritten s.range → IsWritable (Ident a.name) → Written false true (init_pieces a.init) → Written false true (port_pieces (port_from s a))
port_written s a w h i = by (is_short s.kind a.init)
  where
    by : (t : Bool) → Written false true (if t then ident a.name ++ init_pieces a.init else decl_pieces (record { kind = s.kind; range = s.range; name = a.name; init = a.init; array = None }))
    by true = w_token h i
    by false = both (kind_written s.kind) (both w (w_token h i))

kept_entries : {u : List Token} {bs : List Entry} (before : Shape) → RangeWritten before.range → AreMore (token_at (Mark Comma)) IsEntry u bs → Stand u → Written true true (behind (mark Comma) (map port_pieces (ports_from before bs)))
kept_entries before w no_more r = w_still
kept_entries before w (one_more p {u} {v} {a} {bs} x y) (s_more h r) = let e = kept_entry before w x (front u _ r) in let s = shape_from before a.shape in
    w_mark (both (port_written s a e.range e.name e.init) (kept_entries s e.range y (rest u _ r)))

kept_name : {u : List Token} {n : List ℕ} → IsName u n → Stand u → Written false true (port_pieces (bare n))
kept_name (a_name n) (s_more h r) = w_token h w_end

kept_ports : {u : List Token} {q : Ports} → IsPorts u q → Stand u → Written false true (with_commas (map port_pieces q.list))
kept_ports no_ports r = w_end
kept_ports (empty_ports p q) r = w_end
kept_ports (old_ports p (is_list q {u} {v} {a} {bs} x y)) (s_more h r) = subst (λ z. Written false true (with_commas z)) (sym (map_twice bare port_pieces (a ∷ bs)))
    (both (kept_name x (front u _ r)) (kept_more IsName (λ n. port_pieces (bare n)) (λ u a x. kept_name x) y (front v _ (rest u _ r))))
kept_ports (ansi_ports p (is_list q {u} {v} {a} {bs} x y)) (s_more h r) = let e = kept_entry first_shape w_end (long_entry x) (front u _ r) in let s = shape_from first_shape a.shape in
    both (port_written s a e.range e.name e.init) (kept_entries s e.range y (front v _ (rest u _ r)))

kept_module : {u : List Token} {m : ModuleTree} → IsModule u m → Stand u → Written false false (module_pieces m)
kept_module (is_module p q t n {u} {v} {w} x y z) (s_more i (s_more h r)) = let s = rest u _ r in let e = tail (rest v _ s) in
    w_word (w_token h (both (kept_header x (front u _ r)) (w_mark (both (kept_ports y (front v _ s)) (w_mark (w_mark (w_line (both (kept_items z (front w _ e)) (w_word (w_line w_end))))))))))

kept_modules : {u : List Token} {ms : List ModuleTree} → AreMany IsModule u ms → Stand u → Written false false (source_pieces ms)
kept_modules none_of r = w_end
kept_modules (one_of {u} {v} x y) r = both (kept_module x (front u _ r)) (kept_modules y (rest u _ r))

pub kept_source : {u : List Token} {ms : List ModuleTree} → IsSource u ms → Stand u → Written false false (source_pieces ms)
kept_source (is_source s {u} x) r = kept_modules x (front u _ r)
