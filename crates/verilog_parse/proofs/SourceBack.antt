-- Tokens of the kinds that are printed of a source read as it, places aside.
use Rattle.std.proofs.Common.{ℕ, ◌≡◌, Bool, true, false, List, [], ◌∷◌, ◌++◌, map, Option, Some, None, refl, sym, ap, subst, ◌∙◌, append_assoc, rules, Ok}
use Rattle.std.specs.Prelude.{max, if◌then◌else◌}
use Rattle.cdc_base.specs.declared.words.Keyword.TheVariants as k
use Rattle.verilog_ast.specs.declared.DeclKind.{DeclKind}
use Rattle.verilog_ast.specs.declared.DeclKind.TheVariants.{Input, Output, OutputReg, Wire, Reg}
use Rattle.verilog_lex.specs.declared.token.Token.{Token}
use Rattle.verilog_lex.specs.declared.token.TokenKind.TheVariants.{Mark}
use Rattle.verilog_lex.specs.declared.marks.MarkKind.TheVariants.{ParenOpen, ParenClose, Comma, Semicolon}
use Rattle.verilog_lex.specs.Tokens.{tokens_of}
use Rattle.verilog_reading.specs.Lexemes.{Spot, token_at, closing}
use Rattle.verilog_reading.specs.ExprTree.{ExprTree}
use Rattle.verilog_reading.specs.Lists.{AreMore, no_more, one_more, AreMany, none_of, one_of}
use Rattle.verilog_reading.specs.ItemReading.{IsList, is_list, IsMaybeRange, no_range, IsInit, no_init, an_init, IsSetting, no_word, IsDirection, is_input, is_output, is_output_reg, item_at, IsItem, ParamForm, Pdecl, IsLongPdecl, is_long, IsPdecl, long_pdecl, short_pdecl, form_from, param_by, params_from, first_form, IsHeader, no_header, a_header, IsStart, no_start, a_start, Shape, Entry, IsAdecl, is_adecl, IsEntry, long_entry, short_entry, shape_from, port_from, ports_from, first_shape, IsName, a_name, bare, Ports, IsPorts, no_ports, empty_ports, old_ports, ansi_ports, IsModule, is_module, IsSource, is_source}
use Rattle.verilog_reading.specs.SourceTree.{Bounds, ParamTree, ItemTree, ModuleTree, joined, most, param_height, port_height, item_height, module_height, source_height}
use Rattle.verilog_parse.specs.Printed.{Printed, bytes_of, mark, word, ident, new_line, behind, with_commas, in_turn}
use Rattle.verilog_parse.specs.Pieces.{if_any, bounds_pieces, init_pieces, param_pieces, kind_pieces, decl_pieces, item_pieces, body_pieces, header_pieces, is_short, port_pieces, module_pieces, source_pieces}
use Rattle.verilog_parse.specs.Written.{HasKinds}
use Rattle.verilog_parse.specs.ReadBack.{nowhere, unplaced_item, unplaced_module, unplaced, IsPrintable, ReadsBack}
use Rattle.verilog_parse.proofs.TextSteps.{map_twice}
use Rattle.verilog_parse.proofs.Ended.{texts_stand}
use Rattle.verilog_parse.proofs.Kept.{writable}
use Rattle.verilog_parse.proofs.KeptItems.{kept_source}
use Rattle.verilog_parse.proofs.Lexes.{printed_tokens}
use Rattle.verilog_parse.proofs.Back.{Back, at_end, at_token, at_last, at_line, at_all, at_part, grouped}
use Rattle.verilog_parse.proofs.ItemBack.{back_listed, back_maybe_range, back_init, back_setting, EachBack, none_back, one_back, back_items}

-- a range that is read wherever it is printed
abbrev RangeBack : Option Bounds → Type 0
RangeBack r = Back (λ v. IsMaybeRange v r) (if_any bounds_pieces r)

-- a parameter in its long form
abbrev again_pdecls : ParamForm → List Pdecl → List Pdecl
again_pdecls before [] = []
again_pdecls before (a ∷ bs) = let f = form_from before a.form in record { form = Some f; setting = a.setting } ∷ again_pdecls f bs

pdecl_range : {u : List Token} {a : Pdecl} (before : ParamForm) → RangeBack before.range → IsPdecl u a → RangeBack (form_from before a.form).range
pdecl_range before b (long_pdecl (is_long local p x y)) = back_maybe_range x
pdecl_range before b (short_pdecl y) = b

pdecl_setting : {u : List Token} {a : Pdecl} → IsPdecl u a → (v : List Token) × IsSetting v a.setting
pdecl_setting (long_pdecl (is_long local p {u} {v} x y)) = (v, y)
pdecl_setting (short_pdecl {u} y) = (u, y)

pdecl_back : {u : List Token} {a : Pdecl} (before : ParamForm) → RangeBack before.range → IsPdecl u a
    → Back (λ v. IsLongPdecl v (record { form = Some (form_from before a.form); setting = a.setting })) (param_pieces (param_by (form_from before a.form) a.setting))
pdecl_back {u} {a} before b x = at_token (λ s. at_part (pdecl_range before b x) (λ u r. at_all (back_setting (pdecl_setting x).1) (λ v y. is_long (form_from before a.form).local s r y)))

pdecls_back : {u : List Token} {bs : List Pdecl} (before : ParamForm) → RangeBack before.range → AreMore (token_at (Mark Comma)) IsPdecl u bs
    → Back (λ v. AreMore (token_at (Mark Comma)) IsPdecl v (again_pdecls before bs)) (behind (mark Comma) (map param_pieces (params_from before bs)))
pdecls_back before b no_more = at_end no_more
pdecls_back before b (one_more p {u} {v} {a} {bs} x y) = at_token (λ s. at_part (pdecl_back before b x) (λ u l. at_all (pdecls_back (form_from before a.form) (pdecl_range before b x) y) (λ v m. one_more s (long_pdecl l) m)))

same_params : (x before : ParamForm) (bs : List Pdecl) → params_from x (again_pdecls before bs) ≡ params_from before bs
same_params x before [] = refl
same_params x before (a ∷ bs) = let f = form_from before a.form in ap (λ z. param_by f a.setting ∷ z) (same_params f f bs)

header_back : {u : List Token} {ps : List ParamTree} → IsHeader u ps → Back (λ v. IsHeader v ps) (header_pieces ps)
header_back no_header = at_end no_header
header_back (a_header p q (is_list r {u} {v} {a} {bs} x y)) =
    let f = form_from first_form a.form in
    let first = param_pieces (param_by f a.setting) in
    let others = behind (mark Comma) (map param_pieces (params_from f bs)) in
    at_all {Q = λ v. IsHeader v (params_from first_form (again_pdecls first_form (a ∷ bs)))} (at_token (λ s. at_token (λ t. grouped first others (mark ParenClose)
    (at_part (pdecl_back first_form (at_end no_range) (long_pdecl x)) (λ u l. at_part (pdecls_back f (pdecl_range first_form (at_end no_range) (long_pdecl x)) y) (λ v m. at_last (λ e. a_header s t (is_list e l m))))))))
    (λ v h. subst (λ z. IsHeader v z) (same_params first_form first_form (a ∷ bs)) h)

-- the kinds that a port may have
abbrev is_port : DeclKind → Bool
is_port Input = true
is_port Output = true
is_port OutputReg = true
is_port Wire = false
is_port Reg = false

direction_port : {p : Spot} {u : List Token} {kind : DeclKind} → IsDirection p u kind → is_port kind ≡ true
direction_port (is_input p x) = refl
direction_port (is_output p x) = refl
direction_port (is_output_reg p q) = refl

direction_back : (kind : DeclKind) → is_port kind ≡ true → Back (λ v. (p : Spot) × IsDirection p v kind) (kind_pieces kind)
direction_back Input h = at_last (λ s. (s, is_input s no_word))
direction_back Output h = at_last (λ s. (s, is_output s no_word))
direction_back OutputReg h = at_token (λ s. at_last (λ t. (s, is_output_reg s t)))
direction_back Wire h = absurd (search (rules, h))
direction_back Reg h = absurd (search (rules, h))

-- a shape that is read wherever it is printed
record ShapeBack (s : Shape) : Type 0 where
  kind : is_port s.kind ≡ true
  range : RangeBack s.range

entry_shape : {u : List Token} {a : Entry} {before : Shape} → ShapeBack before → IsEntry u a → ShapeBack (shape_from before a.shape)
entry_shape b (long_entry (is_adecl n x y z)) = record { kind = direction_port x; range = back_maybe_range y }
entry_shape b (short_entry n x) = b

abbrev InitBack : Option ExprTree → Type 0
InitBack e = Back (λ v. IsInit v e) (init_pieces e)

start_init : {kind : DeclKind} {u : List Token} {e : Option ExprTree} → IsStart kind u e → InitBack e
start_init (no_start h) = at_end no_init
start_init (a_start h x) = back_init x

entry_init : {u : List Token} {a : Entry} → IsEntry u a → InitBack a.init
entry_init (long_entry (is_adecl n x y z)) = start_init z
entry_init (short_entry n x) = back_init x

start_of : (kind : DeclKind) {u : List Token} {e : Option ExprTree} → is_short kind e ≡ false → IsInit u e → IsStart kind u e
start_of OutputReg h x = a_start refl x
start_of Input h no_init = no_start refl
start_of Input h (an_init p x) = absurd (search (rules, h))
start_of Output h no_init = no_start refl
start_of Output h (an_init p x) = absurd (search (rules, h))
start_of Wire h no_init = no_start refl
start_of Wire h (an_init p x) = absurd (search (rules, h))
start_of Reg h no_init = no_start refl
start_of Reg h (an_init p x) = absurd (search (rules, h))

start_is_long : (kind : DeclKind) {u : List Token} {e : Option ExprTree} → IsStart kind u e → is_short kind e ≡ false
start_is_long kind (no_start h) = refl
start_is_long OutputReg (a_start {kind} {u} {e = None} h x) = refl
start_is_long OutputReg (a_start {kind} {u} {e = Some e} h x) = refl
start_is_long Input (a_start h x) = absurd (search (rules, h))
start_is_long Output (a_start h x) = absurd (search (rules, h))
start_is_long Wire (a_start h x) = absurd (search (rules, h))
start_is_long Reg (a_start h x) = absurd (search (rules, h))

abbrev shaped : Shape → List ℕ → Option ExprTree → Entry
shaped s n e = record { shape = Some s; name = n; init = e }

long_back : (s : Shape) (n : List ℕ) (e : Option ExprTree) → is_short s.kind e ≡ false → ShapeBack s → InitBack e
    → Back (λ v. IsAdecl v (shaped s n e)) (decl_pieces (record { kind = s.kind; range = s.range; name = n; init = e; array = None }))
long_back s n e h b i = at_part (direction_back s.kind b.kind) (λ u d. at_part b.range (λ v r. at_token (λ t. at_all i (λ w x. is_adecl (record { name = n; spot = t }) d.1 r (start_of s.kind h x)))))

-- an entry as it is printed
abbrev shape_if : Bool → Shape → Option Shape
shape_if true s = None
shape_if false s = Some s

abbrev again_entry : Shape → List ℕ → Option ExprTree → Entry
again_entry s n e = record { shape = shape_if (is_short s.kind e) s; name = n; init = e }

entry_back : (s : Shape) (n : List ℕ) (e : Option ExprTree) → ShapeBack s → InitBack e → Back (λ v. IsEntry v (again_entry s n e)) (port_pieces (port_from s (shaped s n e)))
entry_back s n e b i = by (is_short s.kind e) (λ h. long_back s n e h b i)
  where
    by : (t : Bool) → (t ≡ false → Back (λ v. IsAdecl v (shaped s n e)) (decl_pieces (record { kind = s.kind; range = s.range; name = n; init = e; array = None })))
        → Back (λ v. IsEntry v (record { shape = shape_if t s; name = n; init = e })) (if t then ident n ++ init_pieces e else decl_pieces (record { kind = s.kind; range = s.range; name = n; init = e; array = None }))
    by true l = at_token (λ q. at_all i (λ v x. short_entry (record { name = n; spot = q }) x))
    by false l = at_all (l refl) (λ v x. long_entry x)

abbrev again_entries : Shape → List Entry → List Entry
again_entries before [] = []
again_entries before (a ∷ bs) = again_entry (shape_from before a.shape) a.name a.init ∷ again_entries (shape_from before a.shape) bs

entries_back : {u : List Token} {bs : List Entry} (before : Shape) → ShapeBack before → AreMore (token_at (Mark Comma)) IsEntry u bs
    → Back (λ v. AreMore (token_at (Mark Comma)) IsEntry v (again_entries before bs)) (behind (mark Comma) (map port_pieces (ports_from before bs)))
entries_back before b no_more = at_end no_more
entries_back before b (one_more p {u} {v} {a} {bs} x y) = let s = shape_from before a.shape in
    at_token (λ t. at_part (entry_back s a.name a.init (entry_shape b x) (entry_init x)) (λ u e. at_all (entries_back s (entry_shape b x) y) (λ v r. one_more t e r)))

if_short : (t : Bool) (s : Shape) → shape_from s (shape_if t s) ≡ s
if_short true s = refl
if_short false s = refl

same_shape : {u : List Token} {a : Entry} (before : Shape) → IsEntry u a → shape_from before (shape_if (is_short (shape_from before a.shape).kind a.init) (shape_from before a.shape)) ≡ shape_from before a.shape
same_shape before (long_entry (is_adecl {p} {kind} {u} {v} {w} {r} {e} n x y z)) = ap (λ t. shape_from before (shape_if t (record { kind = kind; range = r }))) (start_is_long kind z)
same_shape before (short_entry n {u} {e} x) = if_short (is_short before.kind e) before

same_ports : {u : List Token} {bs : List Entry} (before : Shape) → AreMore (token_at (Mark Comma)) IsEntry u bs → ports_from before (again_entries before bs) ≡ ports_from before bs
same_ports before no_more = refl
same_ports before (one_more p {u} {v} {a} {bs} x y) = let s = shape_from before a.shape in
    ap (λ z. port_from z (again_entry s a.name a.init) ∷ ports_from z (again_entries s bs)) (same_shape before x) ∙ ap (λ z. port_from s a ∷ z) (same_ports s y)

-- the first entry is long, and so printed
first_back : (s : Shape) (n : List ℕ) (e : Option ExprTree) → is_short s.kind e ≡ false → ShapeBack s → InitBack e → Back (λ v. IsAdecl v (shaped s n e)) (port_pieces (port_from s (shaped s n e)))
first_back s n e h b i = subst (λ t. Back (λ v. IsAdecl v (shaped s n e)) (if t then ident n ++ init_pieces e else decl_pieces (record { kind = s.kind; range = s.range; name = n; init = e; array = None }))) (sym h) (long_back s n e h b i)

ansi_back : {u : List Token} {es : List Entry} → IsList (token_at (Mark Comma)) ParenClose IsAdecl IsEntry u es
    → Back (λ v. IsPorts v (record { ansi = true; list = ports_from first_shape es })) (mark ParenOpen ++ (with_commas (map port_pieces (ports_from first_shape es)) ++ mark ParenClose))
ansi_back (is_list q {bs = bs} (is_adecl {p} {kind} {r = r} {e = e} n x y z) rest) =
    let s : Shape = record { kind = kind; range = r } in
    let b : ShapeBack s = record { kind = direction_port x; range = back_maybe_range y } in
    at_all {Q = λ v. IsPorts v (record { ansi = true; list = port_from s (shaped s n.name e) ∷ ports_from s (again_entries s bs) })} (at_token (λ t.
    grouped (port_pieces (port_from s (shaped s n.name e))) (behind (mark Comma) (map port_pieces (ports_from s bs))) (mark ParenClose)
    (at_part (first_back s n.name e (start_is_long kind z) b (start_init z)) (λ u a. at_part (entries_back s b rest) (λ v m. at_last (λ c. ansi_ports t (is_list c a m)))))))
    (λ v h. subst (λ i. IsPorts v (record { ansi = true; list = port_from s (shaped s n.name e) ∷ i })) (same_ports s rest) h)

name_back : {u : List Token} {n : List ℕ} → IsName u n → Back (λ v. IsName v n) (ident n)
name_back (a_name n) = at_last (λ s. a_name (record { name = n.name; spot = s }))

ports_back : {u : List Token} {q : Ports} → IsPorts u q → Back (λ v. IsPorts v q) (mark ParenOpen ++ (with_commas (map port_pieces q.list) ++ mark ParenClose))
ports_back no_ports = at_token (λ s. at_last (λ t. empty_ports s t))
ports_back (empty_ports p q) = at_token (λ s. at_last (λ t. empty_ports s t))
ports_back (old_ports p {u} {ns} x) = subst (λ z. Back (λ v. IsPorts v (record { ansi = false; list = map bare ns })) (mark ParenOpen ++ (with_commas z ++ mark ParenClose))) (sym (map_twice bare port_pieces ns))
    (at_token (λ s. at_all (back_listed IsName ident (λ u a y. name_back y) x) (λ v y. old_ports s y)))
ports_back (ansi_ports p x) = ansi_back x

each_both : (xs ys : List ItemTree) → EachBack xs → EachBack ys → EachBack (xs ++ ys)
each_both [] ys none_back b = b
each_both (x ∷ xs) ys (one_back a r) b = one_back a (each_both xs ys r b)

each_joined : {u : List Token} {rows : List (List ItemTree)} → AreMany IsItem u rows → EachBack (joined rows)
each_joined none_of = none_back
each_joined (one_of {u} {v} {a} {bs} x y) = each_both a (joined bs) (back_items x) (each_joined y)

-- items that are these, places aside
abbrev ItemsAs : List ItemTree → List Token → Type 0
ItemsAs xs v = (rows : List (List ItemTree)) × AreMany IsItem v rows × (map unplaced_item (joined rows) ≡ map unplaced_item xs)

items_back : {xs : List ItemTree} → EachBack xs → Back (ItemsAs xs) (in_turn (map item_pieces xs))
items_back none_back = at_end ([], none_of, refl)
items_back (one_back {x} {xs} a r) = grouped (body_pieces x.body) new_line (in_turn (map item_pieces xs)) (at_part a (λ u y. at_line (at_all (items_back r) (λ v z.
    ((item_at y.0 x.body ∷ []) ∷ z.0, one_of y.1 z.1, ap (λ w. unplaced_item x ∷ w) z.2)))))

-- the parentheses of the ports, and what stands behind them
opened : {P : List Token → Type 0} (ps rs : List Printed) → Back P ((mark ParenOpen ++ (ps ++ mark ParenClose)) ++ rs) → Back P (mark ParenOpen ++ (ps ++ (mark ParenClose ++ rs)))
opened {P} ps rs b = subst (Back P) (ap (λ z. mark ParenOpen ++ z) (append_assoc ps (mark ParenClose) rs)) b

abbrev ModuleAs : ModuleTree → List Token → Type 0
ModuleAs m v = (n : ModuleTree) × IsModule v n × (unplaced_module n ≡ unplaced_module m)

module_back : {u : List Token} {m : ModuleTree} → IsModule u m → Back (ModuleAs m) (module_pieces m)
module_back (is_module p q r n {u} {v} {w} {ps} {ports} {items} x y z) = at_token (λ a. at_token (λ b. at_part (header_back x) (λ u h.
    opened (with_commas (map port_pieces ports.list)) (mark Semicolon ++ (new_line ++ (in_turn (map item_pieces (joined items)) ++ (word k.EndModule ++ new_line)))) (at_part (ports_back y) (λ v o.
    at_token (λ c. at_line (at_part (items_back (each_joined z)) (λ w i. at_token (λ d. at_line (at_end (
      record { place = a.place; name = n.name; ansi = ports.ansi; params = ps; ports = ports.list; items = joined i.0 },
      is_module a c d (record { name = n.name; spot = b }) h o i.1,
      ap (λ j. record { place = nowhere; name = n.name; ansi = ports.ansi; params = ps; ports = ports.list; items = j }) i.2,
    )))))))))))

abbrev ModulesAs : List ModuleTree → List Token → Type 0
ModulesAs ms v = (ns : List ModuleTree) × AreMany IsModule v ns × (unplaced ns ≡ unplaced ms)

modules_back : {u : List Token} {ms : List ModuleTree} → AreMany IsModule u ms → Back (ModulesAs ms) (source_pieces ms)
modules_back none_of = at_end ([], none_of, refl)
modules_back (one_of {u} {v} {a = m} {bs = ms} x y) = at_part (module_back x) (λ u a. at_all (modules_back y) (λ v b. (a.0 ∷ b.0, one_of a.1 b.1, ap (λ z. z ∷ unplaced b.0) a.2 ∙ ap (λ z. unplaced_module m ∷ z) b.2)))

-- places have no height
items_height : (xs : List ItemTree) → most item_height (map unplaced_item xs) ≡ most item_height xs
items_height [] = refl
items_height (x ∷ xs) = ap (λ h. max (item_height x) h) (items_height xs)

unplaced_height : (ms : List ModuleTree) → source_height (unplaced ms) ≡ source_height ms
unplaced_height [] = refl
unplaced_height (m ∷ ms) = ap (λ h. max (max (max (most param_height m.params) (most port_height m.ports)) h) (source_height (unplaced ms))) (items_height m.items)
    ∙ ap (λ h. max (module_height m) h) (unplaced_height ms)

same_height : (ms ns : List ModuleTree) → unplaced ms ≡ unplaced ns → source_height ms ≡ source_height ns
same_height ms ns e = sym (unplaced_height ms) ∙ ap source_height e ∙ unplaced_height ns

source_back : {u : List Token} {ms : List ModuleTree} → IsSource u ms → (v : List Token) → HasKinds v (source_pieces ms) → (s : Spot)
    → (found : List ModuleTree) × IsSource (v ++ closing s ∷ []) found × (unplaced found ≡ unplaced ms)
source_back (is_source t x) v h s = let r = (modules_back x).read v h in (r.0, is_source s r.1, r.2)

pub reads_back : (ms : List ModuleTree) → IsPrintable ms → ReadsBack (bytes_of (source_pieces ms)) ms
reads_back ms p =
    let t = printed_tokens (source_pieces ms) p.writable in
    let r = source_back p.reads t.tokens t.kinds t.end_spot in
    record { tokens = t.tokens ++ closing t.end_spot ∷ []; lexed = t.lexed; found = r.0; reads = r.1; same = r.2; as_deep = same_height r.0 ms r.2 }

-- what the tokens of a text read as can be printed
pub printable : (text : List ℕ) (ts : List Token) (ms : List ModuleTree) → tokens_of text ≡ Ok ts → IsSource ts ms → IsPrintable ms
printable text ts ms e x = record { tokens = ts; reads = x; writable = writable (kept_source x (texts_stand text ts e)) }
