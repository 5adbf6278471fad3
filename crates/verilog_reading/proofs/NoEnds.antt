-- No form but a source has a closing end in it.
use Rattle.std.proofs.Common.{◌≡◌, ℕ, List, [], ◌∷◌, ◌++◌, Option, None, refl, true, false, Bool}
use Rattle.verilog_ast.specs.declared.DeclKind.{DeclKind}
use Rattle.verilog_ast.specs.declared.Event.{Event}
use Rattle.verilog_ast.specs.declared.Edge.{Edge}
use Rattle.verilog_lex.specs.declared.token.Token.{Token}
use Rattle.verilog_lex.specs.declared.marks.MarkKind.{MarkKind}
use Rattle.verilog_lex.specs.declared.marks.MarkKind.TheVariants.{BracketClose, BraceClose, BraceOpen, ParenClose, Comma, Colon, Question, Semicolon, Equals}
use Rattle.cdc_base.specs.declared.words.Keyword.TheVariants as k
use Rattle.verilog_ast.specs.declared.Delay.{Delay}
use Rattle.verilog_ast.specs.declared.PartKind.{PartKind}
use Rattle.verilog_reading.specs.Lexemes.{Spot, mark, word, ident, Dval, by_number, by_name, dval, end_in}
use Rattle.verilog_reading.specs.Parts.{part_mark}
use Rattle.verilog_reading.specs.ExprTree.{ExprTree, ExprTrees, TargetTree, TargetTrees}
use Rattle.verilog_reading.specs.StmtTree.{StmtTree, StmtTrees, LabelTree, ArmTrees}
use Rattle.verilog_reading.specs.Lists.{AreMore, no_more, one_more, AreMany, none_of, one_of}
use Rattle.verilog_reading.specs.Reading.{IsUnary, IsBinary, IsExpr, AreMoreExprs, IsPart, is_number, is_name, is_index, is_part, is_paren, is_join, is_repeat, is_unary, is_single, is_tighter, is_binary, is_plain, is_choice, no_exprs, more_exprs, are_bounds, IsTarget, is_whole, is_index_of, is_part_of, is_join_of, AreMoreTargets, no_targets, more_targets}
use Rattle.verilog_reading.specs.StmtReading.{IsStmt, AreStmts, AreItems, MayBe, is_absent, is_present, IsLabel, no_label, a_label, is_dval, IsLater, at_once, after_value, after_parens, IsChoice, is_value, is_mask, assign_mark, is_null, is_set, is_when, is_either, is_case, is_block, no_stmts, more_stmts, no_items, is_arm, is_default}
use Rattle.verilog_reading.specs.SourceTree.{Bounds, ParamTree, ConnTree, ConnsTree, ItemTree, ModuleTree}
use Rattle.verilog_reading.specs.ItemReading.{IsList, is_list, IsListed, IsMaybeRange, no_range, a_range, IsInit, no_init, an_init, Setting, IsSetting, is_setting, MayBeWord, no_word, the_word, IsDirection, is_input, is_output, is_output_reg, IsKind, is_direction, is_wire, is_reg, Var, IsVar, is_var, IsDelay, no_delay, bare_delay, one_delay, two_delays, IsDelayOf, not_delayed, may_delay, IsVars, are_vars, Driven, IsDriven, is_driven, IsGate, plain_gate, named_gate, IsValue, no_value, a_value, IsConn, is_conn, IsConns, is_ordered, is_named, IsOverrides, no_overrides, overrides, Placed, IsPlaced, is_placed, IsEdge, is_positive, is_negative, is_level, separator, separator_at, IsEvent, is_star, is_star_in, is_edges, IsItem, is_decls, is_params, is_assigns, is_gates, is_instances, is_always, is_initial, Pdecl, IsLongPdecl, is_long, IsPdecl, long_pdecl, short_pdecl, IsHeader, no_header, a_header, IsStart, no_start, a_start, Entry, IsAdecl, is_adecl, IsEntry, long_entry, short_entry, IsName, a_name, Ports, IsPorts, no_ports, empty_ports, old_ports, ansi_ports, IsModule, is_module}
use Rattle.verilog_reading.specs.Refusals.{NoEnd}

pub both : (u v : List Token) → NoEnd u → NoEnd v → NoEnd (u ++ v)
both [] v h i = i
both (t ∷ ts) v h i = (h.0, both ts v h.1 i)

-- with a mark behind
closed : (u : List Token) (m : MarkKind) (p : Spot) → NoEnd u → NoEnd (u ++ mark m p ∷ [])
closed u m p h = both u (mark m p ∷ []) h (refl, tt)

-- with a mark between
around : (u : List Token) (m : MarkKind) (p : Spot) (v : List Token) → NoEnd u → NoEnd v → NoEnd (u ++ mark m p ∷ v)
around u m p v h i = both u (mark m p ∷ v) h (refl, i)

mutual
  unary_end : {u : List Token} {a : ExprTree} → IsUnary u a → NoEnd u
  unary_end (is_number n) = (refl, tt)
  unary_end (is_name n) = (refl, tt)
  unary_end (is_index n p q {u} x) = (refl, (refl, closed u BracketClose q (expr_end x)))
  unary_end (is_part n x) = (refl, part_end x)
  unary_end (is_paren p q {u} x) = (refl, closed u ParenClose q (expr_end x))
  unary_end (is_join p q {u} {v} x y) = (refl, both u (v ++ mark BraceClose q ∷ []) (expr_end x) (closed v BraceClose q (exprs_end y)))
  unary_end (is_repeat p o q r {u} {v} {w} x y z) = (
    refl,
    around u BraceOpen o (v ++ (w ++ mark BraceClose q ∷ (mark BraceClose r ∷ []))) (expr_end x)
        (both v (w ++ mark BraceClose q ∷ (mark BraceClose r ∷ [])) (expr_end y) (around w BraceClose q (mark BraceClose r ∷ []) (exprs_end z) (refl, tt))),
  )
  unary_end (is_unary p e x) = (refl, unary_end x)

  binary_end : {l : ℕ} {u : List Token} {a : ExprTree} → IsBinary l u a → NoEnd u
  binary_end (is_single x) = unary_end x
  binary_end (is_tighter l x) = binary_end x
  binary_end (is_binary l j {u} {v} e x y) = around u j.sign j.spot v (binary_end x) (binary_end y)

  expr_end : {u : List Token} {a : ExprTree} → IsExpr u a → NoEnd u
  expr_end (is_plain x) = binary_end x
  expr_end (is_choice p q {u} {v} {w} x y z) = around u Question p (v ++ mark Colon q ∷ w) (binary_end x) (around v Colon q w (expr_end y) (expr_end z))

  exprs_end : {u : List Token} {bs : ExprTrees} → AreMoreExprs u bs → NoEnd u
  exprs_end no_exprs = tt
  exprs_end (more_exprs p {u} {v} x y) = (refl, both u v (expr_end x) (exprs_end y))

  part_end : {kind : PartKind} {u : List Token} {a b : ExprTree} → IsPart kind u a b → NoEnd u
  part_end (are_bounds {kind} p o q {u} {v} x y) = (refl, around u (part_mark kind) o (v ++ mark BracketClose q ∷ []) (expr_end x) (closed v BracketClose q (expr_end y)))

mutual
  target_end : {u : List Token} {a : TargetTree} → IsTarget u a → NoEnd u
  target_end (is_whole n) = (refl, tt)
  target_end (is_index_of n p q {u} x) = (refl, (refl, closed u BracketClose q (expr_end x)))
  target_end (is_part_of n x) = (refl, part_end x)
  target_end (is_join_of p q {u} {v} x y) = (refl, both u (v ++ mark BraceClose q ∷ []) (target_end x) (closed v BraceClose q (targets_end y)))

  targets_end : {u : List Token} {bs : TargetTrees} → AreMoreTargets u bs → NoEnd u
  targets_end no_targets = tt
  targets_end (more_targets p {u} {v} x y) = (refl, both u v (target_end x) (targets_end y))

-- lists
more_end : {A B : Type 0} (tok : B → Token) (R : List Token → A → Type 0) → ((b : B) → end_in (tok b) ≡ None) → ((u : List Token) (a : A) → R u a → NoEnd u) → {v : List Token} {bs : List A} → AreMore tok R v bs → NoEnd v
more_end tok R e h no_more = tt
more_end tok R e h (one_more b {u} {v} {a} x y) = (e b, both u v (h u a x) (more_end tok R e h y))

list_end : {A B : Type 0} (tok : B → Token) (m : MarkKind) (F R : List Token → A → Type 0) → ((b : B) → end_in (tok b) ≡ None) → ((u : List Token) (a : A) → F u a → NoEnd u) → ((u : List Token) (a : A) → R u a → NoEnd u)
    → {v : List Token} {bs : List A} → IsList tok m F R v bs → NoEnd v
list_end tok m F R e f h (is_list q {u} {v} {a} x y) = both u (v ++ mark m q ∷ []) (f u a x) (closed v m q (more_end tok R e h y))

listed_end : {A : Type 0} (m : MarkKind) (R : List Token → A → Type 0) → ((u : List Token) (a : A) → R u a → NoEnd u) → {v : List Token} {bs : List A} → IsListed m R v bs → NoEnd v
listed_end m R h x = list_end (mark Comma) m R R (λ p. refl) h h x

many_end : {A : Type 0} (R : List Token → A → Type 0) → ((u : List Token) (a : A) → R u a → NoEnd u) → {v : List Token} {bs : List A} → AreMany R v bs → NoEnd v
many_end R h none_of = tt
many_end R h (one_of {u} {v} {a} x y) = both u v (h u a x) (many_end R h y)

-- statements
maybe_end : {m : MarkKind} {u : List Token} → MayBe m u → NoEnd u
maybe_end is_absent = tt
maybe_end (is_present p) = (refl, tt)

label_end : {u : List Token} → IsLabel u → NoEnd u
label_end no_label = tt
label_end (a_label p n) = (refl, (refl, tt))

dval_end : (d : Dval) → end_in (dval d) ≡ None
dval_end (by_number n) = refl
dval_end (by_name n) = refl

later_end : {b : Bool} {u : List Token} {d : Option Delay} → IsLater b u d → NoEnd u
later_end at_once = tt
later_end (after_value p (is_dval d)) = (refl, (dval_end d, tt))
later_end (after_parens p q r (is_dval d)) = (refl, (refl, (dval_end d, (refl, tt))))

choice_end : {masks : Bool} (u : List Token) (a : LabelTree) → IsChoice masks u a → NoEnd u
choice_end u a h = go h
  where
    go : {masks : Bool} {u : List Token} {a : LabelTree} → IsChoice masks u a → NoEnd u
    go (is_value x) = expr_end x
    go (is_mask n) = (refl, tt)

mutual
  stmt_end : {u : List Token} {s : StmtTree} → IsStmt u s → NoEnd u
  stmt_end (is_null p) = (refl, tt)
  stmt_end (is_set b p q {u} {v} {w} x d y) = around u (assign_mark b) p (v ++ (w ++ mark Semicolon q ∷ [])) (target_end x) (both v (w ++ mark Semicolon q ∷ []) (later_end d) (closed w Semicolon q (expr_end y)))
  stmt_end (is_when i p q {u} {v} x y) = (refl, (refl, around u ParenClose q v (expr_end x) (stmt_end y)))
  stmt_end (is_either i p q e {u} {v} {w} x y f z) = (refl, (refl, around u ParenClose q (v ++ word k.Else e ∷ w) (expr_end x) (both v (word k.Else e ∷ w) (stmt_end y) (refl, stmt_end z))))
  stmt_end (is_case masks i p q e {u} {v} x y f) = (refl, (refl, around u ParenClose q (v ++ word k.EndCase e ∷ []) (expr_end x) (both v (word k.EndCase e ∷ []) (items_end y) (refl, tt))))
  stmt_end (is_block p q {l} {u} x y) = (refl, both l (u ++ word k.End q ∷ []) (label_end x) (both u (word k.End q ∷ []) (stmts_end y) (refl, tt)))

  stmts_end : {u : List Token} {rows : StmtTrees} → AreStmts u rows → NoEnd u
  stmts_end no_stmts = tt
  stmts_end (more_stmts {u} {v} x y) = both u v (stmt_end x) (stmts_end y)

  items_end : {masks : Bool} {u : List Token} {arms : ArmTrees} {d : Option StmtTree} → AreItems masks u arms d → NoEnd u
  items_end no_items = tt
  items_end (is_arm {masks} p {u} {v} {w} {x} {a} e m t r) = both (u ++ (v ++ mark Colon p ∷ w)) x
      (both u (v ++ mark Colon p ∷ w) (choice_end u a e) (around v Colon p w (more_end (mark Comma) (IsChoice masks) (λ q. refl) choice_end m) (stmt_end t))) (items_end r)
  items_end (is_default p {u} {v} {w} m t r) = (refl, both u (v ++ w) (maybe_end m) (both v w (stmt_end t) (items_end r)))

-- items
maybe_range_end : {u : List Token} {r : Option Bounds} → IsMaybeRange u r → NoEnd u
maybe_range_end no_range = tt
maybe_range_end (a_range x) = part_end x

init_end : {u : List Token} {e : Option ExprTree} → IsInit u e → NoEnd u
init_end no_init = tt
init_end (an_init p x) = (refl, expr_end x)

setting_end : (u : List Token) (s : Setting) → IsSetting u s → NoEnd u
setting_end u s x = go x
  where
    go : {u : List Token} {s : Setting} → IsSetting u s → NoEnd u
    go (is_setting n p x) = (refl, (refl, expr_end x))

maybe_word_end : {u : List Token} → MayBeWord k.Wire u → NoEnd u
maybe_word_end no_word = tt
maybe_word_end (the_word p) = (refl, tt)

direction_end : {p : Spot} {u : List Token} {kind : DeclKind} → IsDirection p u kind → NoEnd u
direction_end (is_input p x) = (refl, maybe_word_end x)
direction_end (is_output p x) = (refl, maybe_word_end x)
direction_end (is_output_reg p q) = (refl, (refl, tt))

kind_end : {p : Spot} {u : List Token} {kind : DeclKind} → IsKind p u kind → NoEnd u
kind_end (is_direction x) = direction_end x
kind_end (is_wire p) = (refl, tt)
kind_end (is_reg p) = (refl, tt)

var_end : (u : List Token) (x : Var) → IsVar u x → NoEnd u
var_end u x h = go h
  where
    go : {u : List Token} {x : Var} → IsVar u x → NoEnd u
    go (is_var n {u} {v} x y) = (refl, both u v (maybe_range_end x) (init_end y))

delay_end : {u : List Token} → IsDelay u → NoEnd u
delay_end no_delay = tt
delay_end (bare_delay p d) = (refl, (dval_end d, tt))
delay_end (one_delay p q r d) = (refl, (refl, (dval_end d, (refl, tt))))
delay_end (two_delays p q o r d e) = (refl, (refl, (dval_end d, (refl, (dval_end e, (refl, tt))))))

delay_of_end : {kind : DeclKind} {u : List Token} → IsDelayOf kind u → NoEnd u
delay_of_end (not_delayed e) = tt
delay_of_end (may_delay e x) = delay_end x

vars_end : {kind : DeclKind} {u : List Token} {xs : List Var} → IsVars kind u xs → NoEnd u
vars_end (are_vars {u = u} {v = v} x y) = both u v (delay_of_end x) (listed_end Semicolon IsVar var_end y)

driven_end : (u : List Token) (d : Driven) → IsDriven u d → NoEnd u
driven_end u d h = go h
  where
    go : {u : List Token} {d : Driven} → IsDriven u d → NoEnd u
    go (is_driven p {u} {v} x y) = around u Equals p v (target_end x) (expr_end y)

gate_end : (u : List Token) (es : List ExprTree) → IsGate u es → NoEnd u
gate_end u es h = go h
  where
    go : {u : List Token} {es : List ExprTree} → IsGate u es → NoEnd u
    go (plain_gate p x) = (refl, listed_end ParenClose IsExpr (λ u a x. expr_end x) x)
    go (named_gate n p x) = (refl, (refl, listed_end ParenClose IsExpr (λ u a x. expr_end x) x))

value_end : (u : List Token) (e : Option ExprTree) → IsValue u e → NoEnd u
value_end u e h = go h
  where
    go : {u : List Token} {e : Option ExprTree} → IsValue u e → NoEnd u
    go no_value = tt
    go (a_value x) = expr_end x

conn_end : (u : List Token) (c : ConnTree) → IsConn u c → NoEnd u
conn_end u c h = go h
  where
    go : {u : List Token} {c : ConnTree} → IsConn u c → NoEnd u
    go (is_conn p q r n {u} {e} x) = (refl, (refl, (refl, closed u ParenClose r (value_end u e x))))

conns_end : {u : List Token} {c : ConnsTree} → IsConns u c → NoEnd u
conns_end (is_ordered p x) = (refl, listed_end ParenClose IsValue value_end x)
conns_end (is_named p x) = (refl, listed_end ParenClose IsConn conn_end x)

overrides_end : {u : List Token} {c : ConnsTree} → IsOverrides u c → NoEnd u
overrides_end no_overrides = tt
overrides_end (overrides p x) = (refl, conns_end x)

placed_end : (u : List Token) (i : Placed) → IsPlaced u i → NoEnd u
placed_end u i h = go h
  where
    go : {u : List Token} {i : Placed} → IsPlaced u i → NoEnd u
    go (is_placed n x) = (refl, conns_end x)

edge_end : (u : List Token) (e : Edge) → IsEdge u e → NoEnd u
edge_end u e h = go h
  where
    go : {u : List Token} {e : Edge} → IsEdge u e → NoEnd u
    go (is_positive p n) = (refl, (refl, tt))
    go (is_negative p n) = (refl, (refl, tt))
    go (is_level n) = (refl, tt)

separator_end : (b : Bool) (p : Spot) → end_in (separator_at b p) ≡ None
separator_end true p = refl
separator_end false p = refl

event_end : {u : List Token} {e : Event} → IsEvent u e → NoEnd u
event_end (is_star p q) = (refl, (refl, tt))
event_end (is_star_in p q r s) = (refl, (refl, (refl, (refl, tt))))
event_end (is_edges p q x) = (refl, (refl, list_end separator ParenClose IsEdge IsEdge (λ s. separator_end s.comma s.spot) edge_end edge_end x))

item_end : (u : List Token) (xs : List ItemTree) → IsItem u xs → NoEnd u
item_end u xs h = go h
  where
    go : {u : List Token} {xs : List ItemTree} → IsItem u xs → NoEnd u
    go (is_decls {u = u} {v = v} {w = w} h x y) = both u (v ++ w) (kind_end h) (both v w (maybe_range_end x) (vars_end y))
    go (is_params b p {u} {v} x y) = (refl, both u v (maybe_range_end x) (listed_end Semicolon IsSetting setting_end y))
    go (is_assigns p {u} {v} d x) = (refl, both u v (delay_end d) (listed_end Semicolon IsDriven driven_end x))
    go (is_gates w p {u = u} {v = v} e d x) = (refl, both u v (delay_end d) (listed_end Semicolon IsGate gate_end x))
    go (is_instances n {u} {v} x y) = (refl, both u v (overrides_end x) (listed_end Semicolon IsPlaced placed_end y))
    go (is_always p {u} {v} x y) = (refl, both u v (event_end x) (stmt_end y))
    go (is_initial p x) = (refl, stmt_end x)

-- headers and modules
long_end : (u : List Token) (a : Pdecl) → IsLongPdecl u a → NoEnd u
long_end u a h = go h
  where
    go : {u : List Token} {a : Pdecl} → IsLongPdecl u a → NoEnd u
    go (is_long b p {u} {v} {s = s} x y) = (refl, both u v (maybe_range_end x) (setting_end v s y))

pdecl_end : (u : List Token) (a : Pdecl) → IsPdecl u a → NoEnd u
pdecl_end u a h = go h
  where
    go : {u : List Token} {a : Pdecl} → IsPdecl u a → NoEnd u
    go (long_pdecl {u} {a} x) = long_end u a x
    go (short_pdecl {u} {s} x) = setting_end u s x

header_end : {u : List Token} {ps : List ParamTree} → IsHeader u ps → NoEnd u
header_end no_header = tt
header_end (a_header p q x) = (refl, (refl, list_end (mark Comma) ParenClose IsLongPdecl IsPdecl (λ p. refl) long_end pdecl_end x))

start_end : {kind : DeclKind} {u : List Token} {e : Option ExprTree} → IsStart kind u e → NoEnd u
start_end (no_start e) = tt
start_end (a_start e x) = init_end x

adecl_end : (u : List Token) (a : Entry) → IsAdecl u a → NoEnd u
adecl_end u a h = go h
  where
    go : {u : List Token} {a : Entry} → IsAdecl u a → NoEnd u
    go (is_adecl {u = u} {v = v} {w = w} n x y z) = both u (v ++ ident n ∷ w) (direction_end x) (both v (ident n ∷ w) (maybe_range_end y) (refl, start_end z))

entry_end : (u : List Token) (a : Entry) → IsEntry u a → NoEnd u
entry_end u a h = go h
  where
    go : {u : List Token} {a : Entry} → IsEntry u a → NoEnd u
    go (long_entry {u} {a} x) = adecl_end u a x
    go (short_entry n x) = (refl, init_end x)

name_end : (u : List Token) (n : List ℕ) → IsName u n → NoEnd u
name_end u n h = go h
  where
    go : {u : List Token} {n : List ℕ} → IsName u n → NoEnd u
    go (a_name n) = (refl, tt)

ports_end : {u : List Token} {q : Ports} → IsPorts u q → NoEnd u
ports_end no_ports = tt
ports_end (empty_ports p q) = (refl, (refl, tt))
ports_end (old_ports p x) = (refl, listed_end ParenClose IsName name_end x)
ports_end (ansi_ports p x) = (refl, list_end (mark Comma) ParenClose IsAdecl IsEntry (λ p. refl) adecl_end entry_end x)

module_end : (u : List Token) (m : ModuleTree) → IsModule u m → NoEnd u
module_end u m h = go h
  where
    go : {u : List Token} {m : ModuleTree} → IsModule u m → NoEnd u
    go (is_module p q r n {u} {v} {w} x y z) = (
      refl,
      (
        refl,
        both u (v ++ mark Semicolon q ∷ (w ++ word k.EndModule r ∷ [])) (header_end x)
            (around v Semicolon q (w ++ word k.EndModule r ∷ []) (ports_end y) (both w (word k.EndModule r ∷ []) (many_end IsItem item_end z) (refl, tt))),
      ),
    )

pub modules_end : {u : List Token} {ms : List ModuleTree} → AreMany IsModule u ms → NoEnd u
modules_end x = many_end IsModule module_end x
