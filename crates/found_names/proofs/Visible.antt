-- The modules that a text reads as name their signals and instances with visible bytes, whatever source they are of.
use Rattle.std.proofs.Common.{◌≡◌, ◌≢◌, true, ◌&&◌, List, [], ◌∷◌, map, All, Ok, ℕ, refl, ap, ◌∙◌, filter_map}
use Rattle.std.proofs.lemmas.List.Elements.{All-append, All-cons, All-head, All-map, All-nil, All-tail}
use Rattle.std.specs.List.{list_all}
use Rattle.cdc_base.specs.Bytes.{in_class}
use Rattle.cdc_base.specs.declared.bytes.Class.TheVariants.{Visible}
use Rattle.verilog_lex.specs.Laws.{AllOf}
use Rattle.verilog_lex.specs.Tokens.{tokens_of}
use Rattle.verilog_lex.specs.declared.token.Token.{Token}
use Rattle.verilog_lex.specs.declared.marks.MarkKind.{MarkKind}
use Rattle.verilog_reading.specs.Lexemes.{ident}
use Rattle.verilog_reading.specs.Lists.{AreMore, no_more, one_more, AreMany, none_of, one_of}
use Rattle.verilog_reading.specs.ItemReading.{is_list, IsListed, Var, IsVar, is_var, are_vars, Placed, IsPlaced, is_placed, decl_item, param_item, assign_item, gate_item, instance_item, IsItem, is_decls, is_params, is_assigns, is_gates, is_instances, is_always, is_initial, Shape, Entry, is_adecl, IsEntry, long_entry, short_entry, shape_from, ports_from, first_shape, bare, Ports, IsPorts, no_ports, empty_ports, old_ports, ansi_ports, IsModule, is_module, IsSource, is_source}
use Rattle.verilog_reading.specs.SourceTree.{DeclTree, PortTree, ItemTree, ModuleTree, joined}
use Rattle.verilog_parse.proofs.Kept.{Stand, s_more, front, rest, tail}
use Rattle.verilog_parse.proofs.Ended.{texts_stand}
use Rattle.flat_unfolding.specs.Outcome.{Text}
use Rattle.signal_names.specs.Paths.{is_visible}
use Rattle.signal_names.specs.Laws.{IsNamedVisibly, IsModuleVisible, IsSourceVisible}

all-visible : (x : Text) → AllOf Visible x → list_all (in_class Visible) x ≡ true
all-visible [] h = refl
all-visible (b ∷ bs) h = ap (λ c. c && list_all (in_class Visible) bs) h.0 ∙ all-visible bs h.1

visible-is : (x : Text) → x ≢ [] → AllOf Visible x → is_visible x ≡ true
visible-is [] n h = absurd (n refl)
visible-is (b ∷ bs) n h = all-visible (b ∷ bs) h

abbrev Gives : {A : Type 0} → (List Token → A → Type 0) → (A → Type 0) → Type 0
Gives {A} R P = (u : List Token) (a : A) → R u a → Stand u → P a

more-give : {A B : Type 0} {separator : B → Token} (R : List Token → A → Type 0) (P : A → Type 0) → Gives R P → {u : List Token} {bs : List A} → AreMore separator R u bs → Stand u → All P bs
more-give R P f no_more r = All-nil P
more-give R P f (one_more b {u} {v} {a} {bs} x y) r = All-cons P a bs (f u a x (front u _ (tail r))) (more-give R P f y (rest u _ (tail r)))

listed-give : {A : Type 0} (R : List Token → A → Type 0) (P : A → Type 0) → Gives R P → {m : MarkKind} {u : List Token} {xs : List A} → IsListed m R u xs → Stand u → All P xs
listed-give R P f (is_list q {u} {v} {a} {bs} x y) r = All-cons P a bs (f u a x (front u _ r)) (more-give R P f y (front v _ (rest u _ r)))

abbrev IsItemVisible : ItemTree → Type 0
IsItemVisible i = IsNamedVisibly i.body

abbrev AreItemsVisible : List ItemTree → Type 0
AreItemsVisible is = All IsItemVisible is

made-visible : {A : Type 0} (R : List Token → A → Type 0) (make : A → ItemTree) → Gives R (λ a. IsItemVisible (make a)) → {m : MarkKind} {u : List Token} {xs : List A} → IsListed m R u xs → Stand u → AreItemsVisible (map make xs)
made-visible R make f {xs} x r = All-map IsItemVisible make xs (listed-give R (λ a. IsItemVisible (make a)) f x r)

var-visible : Gives IsVar (λ (x : Var). is_visible x.name ≡ true)
var-visible _ _ (is_var n x y) (s_more h r) = visible-is n.name h.0 h.1

placed-visible : Gives IsPlaced (λ (i : Placed). is_visible i.name ≡ true)
placed-visible _ _ (is_placed n x) (s_more h r) = visible-is n.name h.0 h.1

-- items that name nothing
quiet-visible : {A : Type 0} (make : A → ItemTree) → ((a : A) → IsItemVisible (make a)) → (xs : List A) → AreItemsVisible (map make xs)
quiet-visible make f [] = All-nil IsItemVisible
quiet-visible make f (x ∷ xs) = All-cons IsItemVisible (make x) (map make xs) (f x) (quiet-visible make f xs)

item-visible : {u : List Token} {is : List ItemTree} → IsItem u is → Stand u → AreItemsVisible is
item-visible (is_decls {p} {u} {v} {kind = kind} {r = b} x y (are_vars {u = d} e z)) r = made-visible IsVar (decl_item p.place kind b) var-visible z (rest d _ (rest v _ (rest u _ r)))
item-visible (is_params local p {r = b} {xs} y z) r = quiet-visible (param_item p.place local b) (λ a. tt) xs
item-visible (is_assigns p {xs = xs} d z) r = quiet-visible (assign_item p.place) (λ a. tt) xs
item-visible (is_gates w p {kind} {xs = xs} e d z) r = quiet-visible (gate_item p.place kind) (λ a. tt) xs
item-visible (is_instances n {u} {v} {c} y z) r = made-visible IsPlaced (instance_item n.spot.place n.name c) placed-visible z (rest u _ (tail r))
item-visible (is_always p x y) r = All-cons IsItemVisible _ [] tt (All-nil IsItemVisible)
item-visible (is_initial p x) r = All-cons IsItemVisible _ [] tt (All-nil IsItemVisible)

items-visible : {u : List Token} {rows : List (List ItemTree)} → AreMany IsItem u rows → Stand u → AreItemsVisible (joined rows)
items-visible none_of r = All-nil IsItemVisible
items-visible (one_of {u} {v} {a} {bs} x y) r = All-append IsItemVisible a (joined bs) (item-visible x (front u _ r)) (items-visible y (rest u _ r))

-- ---- the ports of a header

abbrev IsDeclVisible : DeclTree → Type 0
IsDeclVisible d = is_visible d.name ≡ true

abbrev decls_of : List PortTree → List DeclTree
decls_of ps = filter_map (λ (p : PortTree). p.decl) ps

entry-visible : Gives IsEntry (λ (a : Entry). is_visible a.name ≡ true)
entry-visible _ _ (long_entry (is_adecl {u} {v} n x y z)) r = go (rest v _ (rest u _ r))
  where
    go : {w : List Token} → Stand (ident n ∷ w) → is_visible n.name ≡ true
    go (s_more h t) = visible-is n.name h.0 h.1
entry-visible _ _ (short_entry n x) (s_more h r) = visible-is n.name h.0 h.1

ports-visible : (before : Shape) (bs : List Entry) → All (λ (a : Entry). is_visible a.name ≡ true) bs → All IsDeclVisible (decls_of (ports_from before bs))
ports-visible before [] h = All-nil IsDeclVisible
ports-visible before (a ∷ bs) h = let s = shape_from before a.shape in
    All-cons IsDeclVisible _ (decls_of (ports_from s bs)) (All-head (λ (a : Entry). is_visible a.name ≡ true) a bs h) (ports-visible s bs (All-tail (λ (a : Entry). is_visible a.name ≡ true) a bs h))

bare-visible : (ns : List Text) → All IsDeclVisible (decls_of (map bare ns))
bare-visible [] = All-nil IsDeclVisible
bare-visible (n ∷ ns) = bare-visible ns

port-list-visible : {u : List Token} {q : Ports} → IsPorts u q → Stand u → All IsDeclVisible (decls_of q.list)
port-list-visible no_ports r = All-nil IsDeclVisible
port-list-visible (empty_ports p q) r = All-nil IsDeclVisible
port-list-visible (old_ports p {ns} x) r = bare-visible ns
port-list-visible (ansi_ports p (is_list q {u} {v} {a} {bs} x y)) r = let t = tail r in
    ports-visible first_shape (a ∷ bs) (All-cons (λ (a : Entry). is_visible a.name ≡ true) a bs (entry-visible u a (long_entry x) (front u _ t))
    (more-give IsEntry (λ (a : Entry). is_visible a.name ≡ true) entry-visible y (front v _ (rest u _ t))))

module-visible : {u : List Token} {m : ModuleTree} → IsModule u m → Stand u → IsModuleVisible m
module-visible (is_module p q s n {u} {v} {w} x y z) r = let t = tail (tail r) in
    record { header = port-list-visible y (front v _ (rest u _ t)); items = items-visible z (front w _ (tail (rest v _ (rest u _ t)))) }

modules-visible : {u : List Token} {ms : List ModuleTree} → AreMany IsModule u ms → Stand u → IsSourceVisible ms
modules-visible none_of r = All-nil IsModuleVisible
modules-visible (one_of {u} {v} {a} {bs} x y) r = All-cons IsModuleVisible a bs (module-visible x (front u _ r)) (modules-visible y (rest u _ r))

source-visible : (ts : List Token) (modules : List ModuleTree) → Stand ts → IsSource ts modules → IsSourceVisible modules
source-visible ts modules h (is_source s {u} x) = modules-visible x (front u _ h)

pub read-visible : (text : List ℕ) (ts : List Token) (modules : List ModuleTree) → tokens_of text ≡ Ok ts → IsSource ts modules → IsSourceVisible modules
read-visible text ts modules e h = source-visible ts modules (texts_stand text ts e) h
