-- What texts read as names its signals and instances with visible bytes.
use Rattle.std.proofs.Common.{◌≡◌, ◌≢◌, true, ◌&&◌, List, [], ◌∷◌, map, All, refl, ap, ◌∙◌, filter_map}
use Rattle.std.proofs.lemmas.List.Elements.{All-append, All-cons, All-head, All-map, All-nil, All-tail}
use Rattle.std.specs.List.{list_all}
use Rattle.cdc_base.specs.Bytes.{in_class}
use Rattle.cdc_base.specs.declared.bytes.Class.TheVariants.{Visible}
use Rattle.verilog_lex.specs.Laws.{AllOf}
use Rattle.verilog_lex.specs.declared.token.Token.{Token}
use Rattle.verilog_lex.specs.declared.marks.MarkKind.{MarkKind}
use Rattle.verilog_reading.specs.Lexemes.{ident}
use Rattle.verilog_reading.specs.Lists.{AreMore, no_more, one_more, AreMany, none_of, one_of}
use Rattle.verilog_reading.specs.ItemReading.{is_list, IsListed, Var, IsVar, is_var, are_vars, Placed, IsPlaced, is_placed, decl_item, param_item, assign_item, gate_item, instance_item, IsItem, is_decls, is_params, is_assigns, is_gates, is_instances, is_always, is_initial, Shape, Entry, is_adecl, IsEntry, long_entry, short_entry, shape_from, ports_from, first_shape, bare, Ports, IsPorts, no_ports, empty_ports, old_ports, ansi_ports, IsModule, is_module, IsSource, is_source}
use Rattle.verilog_reading.specs.SourceTree.{DeclTree, PortTree, ItemTree, ModuleTree, joined, source_of}
use Rattle.verilog_parse.proofs.Kept.{Stand, s_more, front, rest, tail}
use Rattle.verilog_parse.proofs.Ended.{texts_are_ended, texts_stand}
use Rattle.flat_unfolding.specs.Outcome.{Text}
use Rattle.signal_names.specs.Paths.{is_visible}
use Rattle.signal_names.specs.Laws.{IsNamedVisibly, IsModuleVisible, IsSourceVisible, ParsedAreVisible}

all_visible : (x : Text) → AllOf Visible x → list_all (in_class Visible) x ≡ true
all_visible [] h = refl
all_visible (b ∷ bs) h = ap (λ c. c && list_all (in_class Visible) bs) h.0 ∙ all_visible bs h.1

visible_is : (x : Text) → x ≢ [] → AllOf Visible x → is_visible x ≡ true
visible_is [] n h = absurd (n refl)
visible_is (b ∷ bs) n h = all_visible (b ∷ bs) h

abbrev Gives : {A : Type 0} → (List Token → A → Type 0) → (A → Type 0) → Type 0
Gives {A} R P = (u : List Token) (a : A) → R u a → Stand u → P a

more_give : {A B : Type 0} {separator : B → Token} (R : List Token → A → Type 0) (P : A → Type 0) → Gives R P → {u : List Token} {bs : List A} → AreMore separator R u bs → Stand u → All P bs
more_give R P f no_more r = All-nil P
more_give R P f (one_more b {u} {v} {a} {bs} x y) r = All-cons P a bs (f u a x (front u _ (tail r))) (more_give R P f y (rest u _ (tail r)))

listed_give : {A : Type 0} (R : List Token → A → Type 0) (P : A → Type 0) → Gives R P → {m : MarkKind} {u : List Token} {xs : List A} → IsListed m R u xs → Stand u → All P xs
listed_give R P f (is_list q {u} {v} {a} {bs} x y) r = All-cons P a bs (f u a x (front u _ r)) (more_give R P f y (front v _ (rest u _ r)))

abbrev IsItemVisible : ItemTree → Type 0
IsItemVisible i = IsNamedVisibly i.body

abbrev AreItemsVisible : List ItemTree → Type 0
AreItemsVisible is = All IsItemVisible is

made_visible : {A : Type 0} (R : List Token → A → Type 0) (make : A → ItemTree) → Gives R (λ a. IsItemVisible (make a)) → {m : MarkKind} {u : List Token} {xs : List A} → IsListed m R u xs → Stand u → AreItemsVisible (map make xs)
made_visible R make f {xs} x r = All-map IsItemVisible make xs (listed_give R (λ a. IsItemVisible (make a)) f x r)

var_visible : Gives IsVar (λ (x : Var). is_visible x.name ≡ true)
var_visible _ _ (is_var n x y) (s_more h r) = visible_is n.name h.0 h.1

placed_visible : Gives IsPlaced (λ (i : Placed). is_visible i.name ≡ true)
placed_visible _ _ (is_placed n x) (s_more h r) = visible_is n.name h.0 h.1

-- items that name nothing
quiet_visible : {A : Type 0} (make : A → ItemTree) → ((a : A) → IsItemVisible (make a)) → (xs : List A) → AreItemsVisible (map make xs)
quiet_visible make f [] = All-nil IsItemVisible
quiet_visible make f (x ∷ xs) = All-cons IsItemVisible (make x) (map make xs) (f x) (quiet_visible make f xs)

item_visible : {u : List Token} {is : List ItemTree} → IsItem u is → Stand u → AreItemsVisible is
item_visible (is_decls {p} {u} {v} {kind = kind} {r = b} x y (are_vars {u = d} e z)) r = made_visible IsVar (decl_item p.place kind b) var_visible z (rest d _ (rest v _ (rest u _ r)))
item_visible (is_params local p {r = b} {xs} y z) r = quiet_visible (param_item p.place local b) (λ a. tt) xs
item_visible (is_assigns p {xs = xs} d z) r = quiet_visible (assign_item p.place) (λ a. tt) xs
item_visible (is_gates w p {kind} {xs = xs} e d z) r = quiet_visible (gate_item p.place kind) (λ a. tt) xs
item_visible (is_instances n {u} {v} {c} y z) r = made_visible IsPlaced (instance_item n.spot.place n.name c) placed_visible z (rest u _ (tail r))
item_visible (is_always p x y) r = All-cons IsItemVisible _ [] tt (All-nil IsItemVisible)
item_visible (is_initial p x) r = All-cons IsItemVisible _ [] tt (All-nil IsItemVisible)

items_visible : {u : List Token} {rows : List (List ItemTree)} → AreMany IsItem u rows → Stand u → AreItemsVisible (joined rows)
items_visible none_of r = All-nil IsItemVisible
items_visible (one_of {u} {v} {a} {bs} x y) r = All-append IsItemVisible a (joined bs) (item_visible x (front u _ r)) (items_visible y (rest u _ r))

-- ---- the ports of a header

abbrev IsDeclVisible : DeclTree → Type 0
IsDeclVisible d = is_visible d.name ≡ true

abbrev decls_of : List PortTree → List DeclTree
decls_of ps = filter_map (λ (p : PortTree). p.decl) ps

entry_visible : Gives IsEntry (λ (a : Entry). is_visible a.name ≡ true)
entry_visible _ _ (long_entry (is_adecl {u} {v} n x y z)) r = go (rest v _ (rest u _ r))
  where
    go : {w : List Token} → Stand (ident n ∷ w) → is_visible n.name ≡ true
    go (s_more h t) = visible_is n.name h.0 h.1
entry_visible _ _ (short_entry n x) (s_more h r) = visible_is n.name h.0 h.1

ports_visible : (before : Shape) (bs : List Entry) → All (λ (a : Entry). is_visible a.name ≡ true) bs → All IsDeclVisible (decls_of (ports_from before bs))
ports_visible before [] h = All-nil IsDeclVisible
ports_visible before (a ∷ bs) h = let s = shape_from before a.shape in
    All-cons IsDeclVisible _ (decls_of (ports_from s bs)) (All-head (λ (a : Entry). is_visible a.name ≡ true) a bs h) (ports_visible s bs (All-tail (λ (a : Entry). is_visible a.name ≡ true) a bs h))

bare_visible : (ns : List Text) → All IsDeclVisible (decls_of (map bare ns))
bare_visible [] = All-nil IsDeclVisible
bare_visible (n ∷ ns) = bare_visible ns

port_list_visible : {u : List Token} {q : Ports} → IsPorts u q → Stand u → All IsDeclVisible (decls_of q.list)
port_list_visible no_ports r = All-nil IsDeclVisible
port_list_visible (empty_ports p q) r = All-nil IsDeclVisible
port_list_visible (old_ports p {ns} x) r = bare_visible ns
port_list_visible (ansi_ports p (is_list q {u} {v} {a} {bs} x y)) r = let t = tail r in
    ports_visible first_shape (a ∷ bs) (All-cons (λ (a : Entry). is_visible a.name ≡ true) a bs (entry_visible u a (long_entry x) (front u _ t))
    (more_give IsEntry (λ (a : Entry). is_visible a.name ≡ true) entry_visible y (front v _ (rest u _ t))))

module_visible : {u : List Token} {m : ModuleTree} → IsModule u m → Stand u → IsModuleVisible m
module_visible (is_module p q s n {u} {v} {w} x y z) r = let t = tail (tail r) in
    record { header = port_list_visible y (front v _ (rest u _ t)); items = items_visible z (front w _ (tail (rest v _ (rest u _ t)))) }

modules_visible : {u : List Token} {ms : List ModuleTree} → AreMany IsModule u ms → Stand u → IsSourceVisible ms
modules_visible none_of r = All-nil IsModuleVisible
modules_visible (one_of {u} {v} {a} {bs} x y) r = All-cons IsModuleVisible a bs (module_visible x (front u _ r)) (modules_visible y (rest u _ r))

source_visible : (ts : List Token) (modules : List ModuleTree) → Stand ts → IsSource ts modules → IsSourceVisible modules
source_visible ts modules h (is_source s {u} x) = modules_visible x (front u _ h)

pub parsed_are_visible : ParsedAreVisible
parsed_are_visible text ts source e f = source_visible ts (source_of source) (texts_stand text ts e) (f (texts_are_ended text ts e))
