-- Items, modules and sources that are read of tokens whose numbers fit are formed.
use Rattle.std.proofs.Common.{ℕ, List, [], ◌∷◌, map, Option, Some, None}
use Rattle.std.specs.Prelude.{All}
use Rattle.std.proofs.lemmas.List.Elements.{All-append, All-cons, All-head, All-map, All-nil, All-tail}
use Rattle.verilog_ast.specs.declared.DeclKind.{DeclKind}
use Rattle.verilog_lex.specs.declared.token.Token.{Token}
use Rattle.verilog_lex.specs.declared.marks.MarkKind.{MarkKind}
use Rattle.verilog_reading.specs.ExprTree.{ExprTree}
use Rattle.verilog_reading.specs.Lists.{AreMany, none_of, one_of}
use Rattle.verilog_reading.specs.Reading.{IsExpr}
use Rattle.verilog_reading.specs.ItemReading.{is_list, IsListed, IsMaybeRange, no_range, a_range, IsInit, no_init, an_init, Setting, IsSetting, is_setting, Var, IsVar, is_var, are_vars, Driven, IsDriven, is_driven, IsGate, plain_gate, named_gate, IsValue, no_value, a_value, IsConn, is_conn, entries, IsConns, is_ordered, is_named, IsOverrides, no_overrides, overrides, Placed, IsPlaced, is_placed, decl_item, param_item, assign_item, gate_item, instance_item, IsItem, is_decls, is_params, is_assigns, is_gates, is_instances, is_always, is_initial, ParamForm, Pdecl, is_long, IsPdecl, long_pdecl, short_pdecl, form_from, param_by, params_from, first_form, IsHeader, no_header, a_header, IsStart, no_start, a_start, Shape, Entry, is_adecl, IsEntry, long_entry, short_entry, shape_from, port_from, ports_from, first_shape, bare, Ports, IsPorts, no_ports, empty_ports, old_ports, ansi_ports, IsModule, is_module, IsSource, is_source}
use Rattle.verilog_reading.specs.SourceTree.{Bounds, ParamTree, ConnTree, ConnsTree, ItemTree, ModuleTree, joined}
use Rattle.flat_unfolding.specs.Formed.{IsFormed, IsFormedIf, IsRangeFormed, IsParamFormed, IsTargetFormed, IsPortFormed, AreConnsFormed, IsBodyFormed, IsModuleFormed, IsSourceFormed}
use Rattle.source_forms.specs.Numerals.{AreNumerals}
use Rattle.source_forms.proofs.Statements.{Fit, fit, front, rest, tail, Gives, more_formed, each_formed, part_formed, expr_formed, target_formed, stmt_formed}

listed_formed : {A : Type 0} (R : List Token → A → Type 0) (P : A → Type 0) → Gives R P → {m : MarkKind} {u : List Token} {xs : List A} → IsListed m R u xs → Fit u → All P xs
listed_formed R P f (is_list q {u} {v} {a} {bs} x y) r = All-cons P a bs (f u a x (front u _ r)) (more_formed R P f y (front v _ (rest u _ r)))

bounds_formed : {u : List Token} {r : Option Bounds} → IsMaybeRange u r → Fit u → IsRangeFormed r
bounds_formed no_range r = tt
bounds_formed (a_range x) r = part_formed x r

init_formed : {u : List Token} {e : Option ExprTree} → IsInit u e → Fit u → IsFormedIf e
init_formed no_init r = tt
init_formed (an_init p x) r = expr_formed x (tail r)

setting_formed : Gives IsSetting (λ (s : Setting). IsFormed s.value)
setting_formed _ _ (is_setting n p x) r = expr_formed x (tail (tail r))

var_formed : Gives IsVar (λ (x : Var). IsRangeFormed x.array × IsFormedIf x.init)
var_formed _ _ (is_var n {u} x y) r = (bounds_formed x (front u _ (tail r)), init_formed y (rest u _ (tail r)))

driven_formed : Gives IsDriven (λ (d : Driven). IsTargetFormed d.target × IsFormed d.value)
driven_formed _ _ (is_driven p {u} x y) r = (target_formed x (front u _ r), expr_formed y (tail (rest u _ r)))

terminals_formed : Gives IsGate (All IsFormed)
terminals_formed _ _ (plain_gate p x) r = listed_formed IsExpr IsFormed each_formed x (tail r)
terminals_formed _ _ (named_gate n p x) r = listed_formed IsExpr IsFormed each_formed x (tail (tail r))

value_formed : Gives IsValue IsFormedIf
value_formed _ _ no_value r = tt
value_formed _ _ (a_value x) r = expr_formed x r

conn_formed : Gives IsConn (λ (c : ConnTree). IsFormedIf c.value)
conn_formed _ _ (is_conn p q s n {u} {e} x) r = value_formed u e x (front u _ (tail (tail (tail r))))

entries_formed : (es : List (Option ExprTree)) → All IsFormedIf es → All IsFormedIf (entries es)
entries_formed [] h = h
entries_formed (None ∷ []) h = All-nil IsFormedIf
entries_formed (None ∷ (e ∷ es)) h = h
entries_formed (Some e ∷ es) h = h

conns_formed : {u : List Token} {c : ConnsTree} → IsConns u c → Fit u → AreConnsFormed c
conns_formed (is_ordered p {es} x) r = entries_formed es (listed_formed IsValue IsFormedIf value_formed x (tail r))
conns_formed (is_named p x) r = listed_formed IsConn (λ (c : ConnTree). IsFormedIf c.value) conn_formed x (tail r)

overrides_formed : {u : List Token} {c : ConnsTree} → IsOverrides u c → Fit u → AreConnsFormed c
overrides_formed no_overrides r = All-nil IsFormedIf
overrides_formed (overrides p x) r = conns_formed x (tail r)

placed_formed : Gives IsPlaced (λ (i : Placed). AreConnsFormed i.ports)
placed_formed _ _ (is_placed n x) r = conns_formed x (tail r)

abbrev IsItemFormed : ItemTree → Type 0
IsItemFormed i = IsBodyFormed i.body

abbrev AreItemsFormed : List ItemTree → Type 0
AreItemsFormed is = All IsItemFormed is

-- each entry of a list is an item of its own
made_formed : {A : Type 0} (R : List Token → A → Type 0) (make : A → ItemTree) → Gives R (λ a. IsItemFormed (make a)) → {m : MarkKind} {u : List Token} {xs : List A} → IsListed m R u xs → Fit u → AreItemsFormed (map make xs)
made_formed R make f {xs} x r = All-map IsItemFormed make xs (listed_formed R (λ a. IsItemFormed (make a)) f x r)

one_formed : (i : ItemTree) → IsItemFormed i → AreItemsFormed (i ∷ [])
one_formed i h = All-cons IsItemFormed i [] h (All-nil IsItemFormed)

item_formed : {u : List Token} {is : List ItemTree} → IsItem u is → Fit u → AreItemsFormed is
item_formed (is_decls {p} {u} {v} {kind = kind} {r = b} x y (are_vars {u = d} e z)) r = let h = bounds_formed y (front v _ (rest u _ r)) in
    made_formed IsVar (decl_item p.place kind b) (λ u i x s. let f = var_formed u i x s in (h, f.0, f.1)) z (rest d _ (rest v _ (rest u _ r)))
item_formed (is_params local p {u} {v} {r = b} y z) r = let h = bounds_formed y (front u _ (tail r)) in
    made_formed IsSetting (param_item p.place local b) (λ u i x s. (h, setting_formed u i x s)) z (rest u _ (tail r))
item_formed (is_assigns p {u} d z) r = made_formed IsDriven (assign_item p.place) driven_formed z (rest u _ (tail r))
item_formed (is_gates w p {kind} {u} e d z) r = made_formed IsGate (gate_item p.place kind) terminals_formed z (rest u _ (tail r))
item_formed (is_instances n {u} {v} {c} y z) r = let h = overrides_formed y (front u _ (tail r)) in
    made_formed IsPlaced (instance_item n.spot.place n.name c) (λ u i x s. (h, placed_formed u i x s)) z (rest u _ (tail r))
item_formed (is_always p {u} {e} {s} x y) r = one_formed _ (stmt_formed y (rest u _ (tail r)))
item_formed (is_initial p x) r = one_formed _ (stmt_formed x (tail r))

items_formed : {u : List Token} {rows : List (List ItemTree)} → AreMany IsItem u rows → Fit u → AreItemsFormed (joined rows)
items_formed none_of r = All-nil IsItemFormed
items_formed (one_of {u} {v} {a} {bs} x y) r = All-append IsItemFormed a (joined bs) (item_formed x (front u _ r)) (items_formed y (rest u _ r))

-- the parameters of a header; a short one is formed where the one before is
abbrev IsFormFormed : Option ParamForm → Type 0
IsFormFormed None = Unit {0}
IsFormFormed (Some f) = IsRangeFormed f.range

abbrev IsPdeclFormed : Pdecl → Type 0
IsPdeclFormed a = IsFormFormed a.form × IsFormed a.setting.value

pdecl_formed : Gives IsPdecl IsPdeclFormed
pdecl_formed _ _ (long_pdecl (is_long local p {u} {v} {s = s} x y)) r = (bounds_formed x (front u _ (tail r)), setting_formed v s y (rest u _ (tail r)))
pdecl_formed _ _ (short_pdecl {u} {s} y) r = (tt, setting_formed u s y r)

form_from_formed : (before : ParamForm) → IsRangeFormed before.range → (o : Option ParamForm) → IsFormFormed o → IsRangeFormed (form_from before o).range
form_from_formed before h None f = h
form_from_formed before h (Some s) f = f

params_formed : (before : ParamForm) → IsRangeFormed before.range → (bs : List Pdecl) → All IsPdeclFormed bs → All IsParamFormed (params_from before bs)
params_formed before f [] h = All-nil IsParamFormed
params_formed before f (a ∷ bs) h = let s = form_from before a.form in
    let d = All-head IsPdeclFormed a bs h in let g = form_from_formed before f a.form d.0 in
    All-cons IsParamFormed (param_by s a.setting) (params_from s bs) (g, d.1) (params_formed s g bs (All-tail IsPdeclFormed a bs h))

header_formed : {u : List Token} {ps : List ParamTree} → IsHeader u ps → Fit u → All IsParamFormed ps
header_formed no_header r = All-nil IsParamFormed
header_formed (a_header p q (is_list s {u} {v} {a} {bs} x y)) r = let t = tail (tail r) in
    params_formed first_form tt (a ∷ bs) (All-cons IsPdeclFormed a bs (pdecl_formed u a (long_pdecl x) (front u _ t)) (more_formed IsPdecl IsPdeclFormed pdecl_formed y (front v _ (rest u _ t))))

-- the ports of a header
abbrev IsShapeFormed : Option Shape → Type 0
IsShapeFormed None = Unit {0}
IsShapeFormed (Some s) = IsRangeFormed s.range

abbrev IsEntryFormed : Entry → Type 0
IsEntryFormed a = IsShapeFormed a.shape × IsFormedIf a.init

start_formed : {kind : DeclKind} {u : List Token} {e : Option ExprTree} → IsStart kind u e → Fit u → IsFormedIf e
start_formed (no_start h) r = tt
start_formed (a_start h x) r = init_formed x r

entry_formed : Gives IsEntry IsEntryFormed
entry_formed _ _ (long_entry (is_adecl {u} {v} n x y z)) r = let t = rest u _ r in (bounds_formed y (front v _ t), start_formed z (tail (rest v _ t)))
entry_formed _ _ (short_entry n x) r = (tt, init_formed x (tail r))

shape_from_formed : (before : Shape) → IsRangeFormed before.range → (o : Option Shape) → IsShapeFormed o → IsRangeFormed (shape_from before o).range
shape_from_formed before h None f = h
shape_from_formed before h (Some s) f = f

ports_formed : (before : Shape) → IsRangeFormed before.range → (bs : List Entry) → All IsEntryFormed bs → All IsPortFormed (ports_from before bs)
ports_formed before f [] h = All-nil IsPortFormed
ports_formed before f (a ∷ bs) h = let s = shape_from before a.shape in
    let d = All-head IsEntryFormed a bs h in let g = shape_from_formed before f a.shape d.0 in
    All-cons IsPortFormed (port_from s a) (ports_from s bs) (g, tt, d.1) (ports_formed s g bs (All-tail IsEntryFormed a bs h))

bare_formed : (ns : List (List ℕ)) → All IsPortFormed (map bare ns)
bare_formed [] = All-nil IsPortFormed
bare_formed (n ∷ ns) = All-cons IsPortFormed (bare n) (map bare ns) tt (bare_formed ns)

port_list_formed : {u : List Token} {q : Ports} → IsPorts u q → Fit u → All IsPortFormed q.list
port_list_formed no_ports r = All-nil IsPortFormed
port_list_formed (empty_ports p q) r = All-nil IsPortFormed
port_list_formed (old_ports p {ns} x) r = bare_formed ns
port_list_formed (ansi_ports p (is_list q {u} {v} {a} {bs} x y)) r = let t = tail r in
    ports_formed first_shape tt (a ∷ bs) (All-cons IsEntryFormed a bs (entry_formed u a (long_entry x) (front u _ t)) (more_formed IsEntry IsEntryFormed entry_formed y (front v _ (rest u _ t))))

module_formed : {u : List Token} {m : ModuleTree} → IsModule u m → Fit u → IsModuleFormed m
module_formed (is_module p q s n {u} {v} {w} x y z) r = let t = tail (tail r) in
    record { params = header_formed x (front u _ t); ports = port_list_formed y (front v _ (rest u _ t)); items = items_formed z (front w _ (tail (rest v _ (rest u _ t)))) }

modules_formed : {u : List Token} {ms : List ModuleTree} → AreMany IsModule u ms → Fit u → IsSourceFormed ms
modules_formed none_of r = All-nil IsModuleFormed
modules_formed (one_of {u} {v} {a} {bs} x y) r = All-cons IsModuleFormed a bs (module_formed x (front u _ r)) (modules_formed y (rest u _ r))

pub source_formed : (ts : List Token) (modules : List ModuleTree) → AreNumerals ts → IsSource ts modules → IsSourceFormed modules
source_formed ts modules h (is_source s {u} x) = modules_formed x (front u _ (fit ts h))
