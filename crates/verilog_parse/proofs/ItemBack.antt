-- Tokens of the kinds that are printed of an item read as it, its place aside.
use Rattle.std.proofs.Common.{ℕ, ◌≡◌, Bool, false, List, [], ◌∷◌, ◌++◌, map, Option, Some, None, refl}
use Rattle.cdc_base.specs.declared.fault.Place.{Place}
use Rattle.cdc_base.specs.declared.words.Keyword.TheVariants as k
use Rattle.verilog_ast.specs.declared.DeclKind.{DeclKind}
use Rattle.verilog_ast.specs.declared.DeclKind.TheVariants.{Input, Output, OutputReg, Wire, Reg}
use Rattle.verilog_ast.specs.declared.GateKind.{GateKind}
use Rattle.verilog_ast.specs.declared.GateKind.TheVariants as g
use Rattle.verilog_ast.specs.declared.Edge.{Edge}
use Rattle.verilog_ast.specs.declared.Event.{Event}
use Rattle.verilog_lex.specs.declared.token.Token.{Token}
use Rattle.verilog_lex.specs.declared.token.TokenKind.TheVariants.{Mark}
use Rattle.verilog_lex.specs.declared.marks.MarkKind.{MarkKind}
use Rattle.verilog_lex.specs.declared.marks.MarkKind.TheVariants.{ParenOpen, ParenClose, Comma, Semicolon, Equals}
use Rattle.verilog_reading.specs.Lexemes.{Spot, token_at}
use Rattle.verilog_reading.specs.ExprTree.{ExprTree}
use Rattle.verilog_reading.specs.Lists.{AreMore, no_more, one_more}
use Rattle.verilog_reading.specs.Reading.{IsExpr}
use Rattle.verilog_reading.specs.ItemReading.{IsList, is_list, IsListed, IsMaybeRange, no_range, a_range, IsInit, no_init, an_init, Setting, IsSetting, is_setting, no_word, is_input, is_output, is_output_reg, IsKind, is_direction, is_wire, is_reg, Var, IsVar, is_var, no_delay, IsDelayOf, not_delayed, may_delay, are_vars, Driven, IsDriven, is_driven, gate_of, IsGate, plain_gate, named_gate, IsValue, no_value, a_value, IsConn, is_conn, entries, IsConns, is_ordered, is_named, IsOverrides, no_overrides, overrides, Placed, IsPlaced, is_placed, IsEdge, is_positive, is_negative, is_level, separator, IsEvent, is_star, is_star_in, is_edges, item_at, decl_item, param_item, assign_item, gate_item, instance_item, IsItem, is_decls, is_params, is_assigns, is_gates, is_instances, is_always, is_initial}
use Rattle.verilog_reading.specs.SourceTree.{Bounds, ConnTree, ConnsTree, ordered, named, BodyTree, ItemTree}
use Rattle.verilog_parse.specs.Printed.{Printed, mark, word, ident, behind, with_commas, separated}
use Rattle.verilog_parse.specs.Pieces.{expr_pieces, target_pieces, if_any, bounds_pieces, init_pieces, kind_pieces, gate_word, value_pieces, conn_pieces, conns_pieces, overrides_pieces, edge_pieces, event_pieces, body_pieces}
use Rattle.verilog_parse.proofs.Back.{Back, at_end, at_token, at_last, at_all, at_part, grouped, ungrouped, back_expr, back_part, back_target}
use Rattle.verilog_parse.proofs.StmtBack.{back_more, back_stmt}

pub back_listed : {A : Type 0} (R : List Token → A → Type 0) (f : A → List Printed) → ((u : List Token) (a : A) → R u a → Back (λ v. R v a) (f a)) → {m : MarkKind} {u : List Token} {bs : List A}
    → IsListed m R u bs → Back (λ v. IsListed m R v bs) (with_commas (map f bs) ++ mark m)
back_listed R f g {m} (is_list q {u} {v} {a} {bs} x y) = grouped (f a) (behind (mark Comma) (map f bs)) (mark m) (at_part (g u a x) (λ u b. at_part (back_more R f g y) (λ v c. at_last (λ s. is_list s b c))))

pub back_maybe_range : {u : List Token} {r : Option Bounds} → IsMaybeRange u r → Back (λ v. IsMaybeRange v r) (if_any bounds_pieces r)
back_maybe_range no_range = at_end no_range
back_maybe_range (a_range x) = at_all (back_part x) (λ u y. a_range y)

pub back_init : {u : List Token} {e : Option ExprTree} → IsInit u e → Back (λ v. IsInit v e) (init_pieces e)
back_init no_init = at_end no_init
back_init (an_init p x) = at_token (λ s. at_all (back_expr x) (λ u y. an_init s y))

pub back_setting : {u : List Token} {s : Setting} → IsSetting u s → Back (λ v. IsSetting v s) (ident s.name ++ (mark Equals ++ expr_pieces s.value))
back_setting (is_setting n p x) = at_token (λ s. at_token (λ t. at_all (back_expr x) (λ u y. is_setting (record { name = n.name; spot = s }) t y)))

pub back_kind : (kind : DeclKind) → Back (λ v. (p : Spot) × IsKind p v kind) (kind_pieces kind)
back_kind Input = at_last (λ s. (s, is_direction (is_input s no_word)))
back_kind Output = at_last (λ s. (s, is_direction (is_output s no_word)))
back_kind OutputReg = at_token (λ s. at_last (λ t. (s, is_direction (is_output_reg s t))))
back_kind Wire = at_last (λ s. (s, is_wire s))
back_kind Reg = at_last (λ s. (s, is_reg s))

back_var : {u : List Token} {x : Var} → IsVar u x → Back (λ v. IsVar v x) (ident x.name ++ (if_any bounds_pieces x.array ++ init_pieces x.init))
back_var (is_var n x y) = at_token (λ s. at_part (back_maybe_range x) (λ u a. at_all (back_init y) (λ v b. is_var (record { name = n.name; spot = s }) a b)))

back_driven : {u : List Token} {d : Driven} → IsDriven u d → Back (λ v. IsDriven v d) (target_pieces d.target ++ (mark Equals ++ expr_pieces d.value))
back_driven (is_driven p x y) = at_part (back_target x) (λ u a. at_token (λ s. at_all (back_expr y) (λ v b. is_driven s a b)))

gate_back : (kind : GateKind) → gate_of (gate_word kind) ≡ Some kind
gate_back g.And = refl
gate_back g.Nand = refl
gate_back g.Or = refl
gate_back g.Nor = refl
gate_back g.Xor = refl
gate_back g.Xnor = refl
gate_back g.Buf = refl
gate_back g.Not = refl

-- the terminals of a gate, whose name is not kept
terminals : {u : List Token} {es : List ExprTree} → IsGate u es → (v : List Token) × IsListed ParenClose IsExpr v es
terminals (plain_gate p {u} x) = (u, x)
terminals (named_gate n p {u} x) = (u, x)

back_gate : {u : List Token} {es : List ExprTree} → IsGate u es → Back (λ v. IsGate v es) (mark ParenOpen ++ (with_commas (map expr_pieces es) ++ mark ParenClose))
back_gate x = at_token (λ s. at_all (back_listed IsExpr expr_pieces (λ u a y. back_expr y) (terminals x).1) (λ u y. plain_gate s y))

back_value : {u : List Token} {e : Option ExprTree} → IsValue u e → Back (λ v. IsValue v e) (value_pieces e)
back_value no_value = at_end no_value
back_value (a_value x) = at_all (back_expr x) (λ u y. a_value y)

back_conn : {u : List Token} {c : ConnTree} → IsConn u c → Back (λ v. IsConn v c) (conn_pieces c)
back_conn (is_conn p q r n x) = at_token (λ s. at_token (λ i. at_token (λ t. at_part (back_value x) (λ u y. at_last (λ z. is_conn s t z (record { name = n.name; spot = i }) y)))))

-- a single empty entry is none, and is read as one again
back_ordered : {u : List Token} (es : List (Option ExprTree)) → IsListed ParenClose IsValue u es → Back (λ v. IsConns v (ordered (entries es))) (conns_pieces (ordered (entries es)))
back_ordered [] x = at_token (λ s. at_all (back_listed IsValue value_pieces (λ u a y. back_value y) x) (λ u y. is_ordered s y))
back_ordered (None ∷ []) x = at_token (λ s. at_last (λ t. is_ordered s (is_list t no_value no_more)))
back_ordered (None ∷ (e ∷ es)) x = at_token (λ s. at_all (back_listed IsValue value_pieces (λ u a y. back_value y) x) (λ u y. is_ordered s y))
back_ordered (Some e ∷ es) x = at_token (λ s. at_all (back_listed IsValue value_pieces (λ u a y. back_value y) x) (λ u y. is_ordered s y))

back_conns : {u : List Token} {c : ConnsTree} → IsConns u c → Back (λ v. IsConns v c) (conns_pieces c)
back_conns (is_ordered p {u} {es} x) = back_ordered es x
back_conns (is_named p x) = at_token (λ s. at_all (back_listed IsConn conn_pieces (λ u a y. back_conn y) x) (λ u y. is_named s y))

override_of : {u : List Token} (c : ConnsTree) → IsConns u c → Back (λ v. IsOverrides v c) (overrides_pieces c)
override_of (ordered []) x = at_end no_overrides
override_of (ordered (e ∷ es)) x = at_token (λ s. at_all (back_conns x) (λ u y. overrides s y))
override_of (named cs) x = at_token (λ s. at_all (back_conns x) (λ u y. overrides s y))

back_overrides : {u : List Token} {c : ConnsTree} → IsOverrides u c → Back (λ v. IsOverrides v c) (overrides_pieces c)
back_overrides no_overrides = at_end no_overrides
back_overrides (overrides p {u} {c} x) = override_of c x

back_placed : {u : List Token} {i : Placed} → IsPlaced u i → Back (λ v. IsPlaced v i) (ident i.name ++ conns_pieces i.ports)
back_placed (is_placed n x) = at_token (λ s. at_all (back_conns x) (λ u y. is_placed (record { name = n.name; spot = s }) y))

back_edge : {u : List Token} {e : Edge} → IsEdge u e → Back (λ v. IsEdge v e) (edge_pieces e)
back_edge (is_positive p n) = at_token (λ s. at_last (λ t. is_positive s (record { name = n.name; spot = t })))
back_edge (is_negative p n) = at_token (λ s. at_last (λ t. is_negative s (record { name = n.name; spot = t })))
back_edge (is_level n) = at_last (λ t. is_level (record { name = n.name; spot = t }))

back_edges : {u : List Token} {es : List Edge} → AreMore separator IsEdge u es → Back (λ v. AreMore separator IsEdge v es) (behind (word k.Or) (map edge_pieces es))
back_edges no_more = at_end no_more
back_edges (one_more b x y) = at_token (λ s. at_part (back_edge x) (λ u e. at_all (back_edges y) (λ v r. one_more (record { comma = false; spot = s }) e r)))

edge_list : {u : List Token} {es : List Edge} → IsList separator ParenClose IsEdge IsEdge u es → Back (λ v. IsList separator ParenClose IsEdge IsEdge v es) (separated (word k.Or) (map edge_pieces es) ++ mark ParenClose)
edge_list (is_list q {u} {v} {a} {bs} x y) = grouped (edge_pieces a) (behind (word k.Or) (map edge_pieces bs)) (mark ParenClose) (at_part (back_edge x) (λ u a. at_part (back_edges y) (λ v b. at_last (λ s. is_list s a b))))

back_event : {u : List Token} {e : Event} → IsEvent u e → Back (λ v. IsEvent v e) (event_pieces e)
back_event (is_star p q) = at_token (λ s. at_last (λ t. is_star s t))
back_event (is_star_in p q r s) = at_token (λ s. at_last (λ t. is_star s t))
back_event (is_edges p q x) = at_token (λ s. at_token (λ t. at_all (edge_list x) (λ u y. is_edges s t y)))

-- the tokens are one item of this body, at some place
abbrev pub IsBody : BodyTree → List Token → Type 0
IsBody b v = (p : Place) × IsItem v (item_at p b ∷ [])

-- each entry of a list is read as an item of its own
pub data EachBack : List ItemTree → Type 0 where
  none_back : EachBack []
  one_back : {x : ItemTree} {xs : List ItemTree} → Back (IsBody x.body) (body_pieces x.body) → EachBack xs → EachBack (x ∷ xs)

-- the entries of a list, each by itself
abbrev OneBack : {A : Type 0} → (List Token → A → Type 0) → (A → ItemTree) → Type 0
OneBack {A} R make = (u : List Token) (a : A) → R u a → Back (IsBody (make a).body) (body_pieces (make a).body)

each_more : {A : Type 0} (R : List Token → A → Type 0) (make : A → ItemTree) → OneBack R make → {u : List Token} {bs : List A} → AreMore (token_at (Mark Comma)) R u bs → EachBack (map make bs)
each_more R make f no_more = none_back
each_more R make f (one_more p {u} {v} {a} {bs} x y) = one_back (f u a x) (each_more R make f y)

each_listed : {A : Type 0} (R : List Token → A → Type 0) (make : A → ItemTree) → OneBack R make → {u : List Token} {xs : List A} → IsListed Semicolon R u xs → EachBack (map make xs)
each_listed R make f (is_list q {u} {v} {a} {bs} x y) = one_back (f u a x) (each_more R make f y)

-- a delay is not printed
undelayed : (kind : DeclKind) → IsDelayOf kind []
undelayed Input = not_delayed refl
undelayed Output = not_delayed refl
undelayed OutputReg = not_delayed refl
undelayed Wire = may_delay refl no_delay
undelayed Reg = not_delayed refl

decl_back : (p : Place) (kind : DeclKind) {w : List Token} {r : Option Bounds} → IsMaybeRange w r → {u : List Token} {x : Var} → IsVar u x → Back (IsBody (decl_item p kind r x).body) (body_pieces (decl_item p kind r x).body)
decl_back p kind {w} {r} y {u} {x} z = let R = if_any bounds_pieces r in let V = ident x.name ++ (if_any bounds_pieces x.array ++ init_pieces x.init) in
    grouped (kind_pieces kind) (R ++ V) (mark Semicolon) (at_part (back_kind kind) (λ u q. grouped R V (mark Semicolon) (at_part (back_maybe_range y) (λ v a. at_part (back_var z) (λ w b.
    at_last (λ s. (q.0.place, is_decls q.1 a (are_vars (undelayed kind) (is_list s b no_more)))))))))

param_back : (p : Place) (local : Bool) {w : List Token} {r : Option Bounds} → IsMaybeRange w r → {u : List Token} {x : Setting} → IsSetting u x → Back (IsBody (param_item p local r x).body) (body_pieces (param_item p local r x).body)
param_back p local {w} {r} y {u} {x} z = let R = if_any bounds_pieces r in
    at_token (λ t. grouped R (ident x.name ++ (mark Equals ++ expr_pieces x.value)) (mark Semicolon) (at_part (back_maybe_range y) (λ v a. at_part (back_setting z) (λ w b.
    at_last (λ s. (t.place, is_params local t a (is_list s b no_more)))))))

assign_back : (p : Place) {u : List Token} {x : Driven} → IsDriven u x → Back (IsBody (assign_item p x).body) (body_pieces (assign_item p x).body)
assign_back p {u} {x} y = at_token (λ t. ungrouped (target_pieces x.target) (mark Equals ++ expr_pieces x.value) (mark Semicolon) (at_part (back_driven y) (λ v a. at_last (λ s. (t.place, is_assigns t no_delay (is_list s a no_more))))))

gate_item_back : (p : Place) (kind : GateKind) {u : List Token} {es : List ExprTree} → IsGate u es → Back (IsBody (gate_item p kind es).body) (body_pieces (gate_item p kind es).body)
gate_item_back p kind {u} {es} y = at_token (λ t. ungrouped (mark ParenOpen ++ with_commas (map expr_pieces es)) (mark ParenClose) (mark Semicolon) (at_part (back_gate y) (λ v a.
    at_last (λ s. (t.place, is_gates (gate_word kind) t (gate_back kind) no_delay (is_list s a no_more))))))

instance_back : (p : Place) (child : List ℕ) {w : List Token} {c : ConnsTree} → IsOverrides w c → {u : List Token} {x : Placed} → IsPlaced u x → Back (IsBody (instance_item p child c x).body) (body_pieces (instance_item p child c x).body)
instance_back p child {w} {c} y z = at_token (λ t. at_part (back_overrides y) (λ v a. at_part (back_placed z) (λ w b. at_last (λ s. (t.place, is_instances (record { name = child; spot = t }) a (is_list s b no_more))))))

pub back_items : {u : List Token} {xs : List ItemTree} → IsItem u xs → EachBack xs
back_items (is_decls {p} {u} {v} {kind = kind} {r = r} x y (are_vars d z)) = each_listed IsVar (decl_item p.place kind r) (λ u a x. decl_back p.place kind y x) z
back_items (is_params local p {u} {v} {r} y z) = each_listed IsSetting (param_item p.place local r) (λ u a x. param_back p.place local y x) z
back_items (is_assigns p d z) = each_listed IsDriven (assign_item p.place) (λ u a x. assign_back p.place x) z
back_items (is_gates w p {kind} e d z) = each_listed IsGate (gate_item p.place kind) (λ u a x. gate_item_back p.place kind x) z
back_items (is_instances n {u} {v} {c} y z) = each_listed IsPlaced (instance_item n.spot.place n.name c) (λ u a x. instance_back n.spot.place n.name y x) z
back_items (is_always p x y) = one_back (at_token (λ t. at_part (back_event x) (λ u a. at_all (back_stmt y) (λ v b. (t.place, is_always t a b))))) none_back
back_items (is_initial p x) = one_back (at_token (λ t. at_all (back_stmt x) (λ v b. (t.place, is_initial t b)))) none_back
