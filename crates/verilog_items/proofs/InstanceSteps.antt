-- The steps of the reader of gates and instances: one for each way out of a function of the parser.
use Rattle.std.proofs.Common.{◌≡◌, ℕ, false, List, [], ◌∷◌, ◌++◌, map, length, Option, Some, None, refl, sym, ap, ◌∙◌, rules}
use Rattle.cdc_base.specs.declared.fault.Place.{Place}
use Rattle.verilog_ast.specs.declared.Conn.{Conn}
use Rattle.verilog_ast.specs.declared.Expr.{Expr}
use Rattle.verilog_ast.specs.declared.GateKind.{GateKind}
use Rattle.verilog_ast.specs.declared.Item.{Item}
use Rattle.verilog_exprs.specs.declared.halt.Halt.{Halt}
use Rattle.verilog_exprs.specs.declared.halt.Halt.TheVariants.{Refused}
use Rattle.verilog_exprs.specs.Forms.{exprs_at}
use Rattle.verilog_exprs.specs.Halts.{HaltsAs}
use Rattle.verilog_exprs.specs.Next.{Takes, Lacks}
use Rattle.verilog_exprs.proofs.Steps.{halts_then, halts_by, halts_for_memory, next_takes, next_lacks, peek_takes, peek_lacks, expect_halts}
use Rattle.verilog_exprs.proofs.Steps.{then_done as then_goes}
use Rattle.verilog_items.specs.Forms.{Puts, gate_list_at, gates_at, instances_at, ordered_at, named_at}
use Rattle.verilog_items.proofs.PushSteps.{map_same, Pushed, pushed_first, pushed_more, pushed_halts, pushed_open, pushed_end, reached_first_halts}
use Rattle.verilog_items.proofs.DeclSteps.{list_first_halts, list_halts, list_puts, puts_by}
use Rattle.verilog_lex.specs.declared.token.Token.{Token}
use Rattle.verilog_lex.specs.declared.token.TokenKind.{TokenKind}
use Rattle.verilog_lex.specs.declared.token.TokenKind.TheVariants.{Mark}
use Rattle.verilog_lex.specs.declared.marks.MarkKind.TheVariants.{ParenOpen, ParenClose, Comma, Semicolon, Dot, Hash}
use Rattle.verilog_reading.specs.ExprTree.{ExprTree, tree_of}
use Rattle.verilog_reading.specs.ItemReader.{listed, list_more, then_done, value_end_of, value_end, value, conn_end, at_conn, in_dot, conn, as_ordered, in_conns, conns, overrides, place_at, placed, terminals, gate, maybe_delay, gate_items, instance_items}
use Rattle.verilog_reading.specs.ItemReading.{Placed, entries, gate_item, instance_item, item_at}
use Rattle.verilog_reading.specs.Lexemes.{Spot, spot_of, mark_in, mark_of, ident_in}
use Rattle.verilog_reading.specs.Lists.{more}
use Rattle.verilog_reading.specs.Outcome.{Outcome, done, stop, then_read, expect, refuse}
use Rattle.verilog_reading.specs.Reader.{readers, closed}
use Rattle.verilog_reading.specs.SourceTree.{ConnTree, ConnsTree, ordered, named, maybe, item_of, conn_of, instance}
use Rattle.verilog_reading.specs.SourceTree.{gate as gate_body}
use Rattle.verilog_reading.specs.StmtReader.{Lower, lower}
use Rattle.verilog_reading.proofs.ItemLocal.{local_gate, local_value, local_conn, local_placed}
use Rattle.verilog_reading.proofs.StmtLocal.{local_lower}
use Rattle.verilog_reading.proofs.Tests.{mark_is}
use Rattle.verilog_stmts.proofs.ListSteps.{map_push}

-- gates
abbrev pub GoesToTerminals : List Token → List Token → Type 0
GoesToTerminals ts inner = (l : Lower) → gate l ts ≡ terminals l inner

pub named_gate : (ts : List Token) (n : List ℕ) (s : Spot) (rest : List Token) → Takes ident_in (record { name = n; spot = s }) ts rest → GoesToTerminals ts rest
named_gate ts n s rest w l = next_takes ident_in (λ _. terminals l) (terminals l) (record { name = n; spot = s }) ts rest w

pub plain_gate : (ts : List Token) → Lacks ident_in ts → GoesToTerminals ts ts
plain_gate ts w l = next_lacks ident_in (λ _. terminals l) (terminals l) ts w

pub ruleset name_steps = (named_gate, plain_gate)

abbrev close_list : List ExprTree → List Token → Outcome (List ExprTree)
close_list es = closed ParenClose es

list_groups : (n : ℕ) (o : Outcome ExprTree) → then_read o (list_more (mark_in Comma) ParenClose (readers n).expr) ≡ then_read (then_read o (λ a rest. then_read (more (mark_in Comma) (readers n).expr rest) (λ bs. done (a ∷ bs)))) close_list
list_groups n (stop d rest) = refl
list_groups n (done a rest) = go (more (mark_in Comma) (readers n).expr rest)
  where
    go : (m : Outcome (List ExprTree)) → then_read m (λ bs. closed ParenClose (a ∷ bs)) ≡ then_read (then_read m (λ bs. done (a ∷ bs))) close_list
    go (stop d last) = refl
    go (done bs last) = refl

abbrev open_list : ℕ → Spot → List Token → Outcome (List ExprTree)
open_list n _ = listed ParenClose (readers n).expr

pub gate_unopened : (n : ℕ) (ts inner : List Token) (h : Halt) → GoesToTerminals ts inner → Lacks (mark_in ParenOpen) inner → h ≡ Refused false (length inner) → HaltsAs (gate (lower n) ts) h
gate_unopened n ts inner h e w q = halts_by (gate (lower n) ts) (terminals (lower n) inner) h (e (lower n)) (expect_halts (mark_in ParenOpen) (open_list n) inner h w q)

gate_enters : (n : ℕ) (ts inner : List Token) (s : Spot) (mid : List Token) → GoesToTerminals ts inner → Takes (mark_in ParenOpen) s inner mid → gate (lower n) ts ≡ then_read (exprs_at (readers n) mid) close_list
gate_enters n ts inner s mid e w = e (lower n) ∙ next_takes (mark_in ParenOpen) (open_list n) refuse s inner mid w ∙ list_groups n ((readers n).expr mid)

pub gate_terminals_halt : (n : ℕ) (ts inner : List Token) (s : Spot) (mid : List Token) (h : Halt) → GoesToTerminals ts inner → Takes (mark_in ParenOpen) s inner mid → HaltsAs (exprs_at (readers n) mid) h → HaltsAs (gate (lower n) ts) h
gate_terminals_halt n ts inner s mid h e w x = halts_by (gate (lower n) ts) (then_read (exprs_at (readers n) mid) close_list) h (gate_enters n ts inner s mid e w) (halts_then (exprs_at (readers n) mid) close_list h x)

gate_ends : (n : ℕ) (ts inner : List Token) (s : Spot) (mid : List Token) (es : List ExprTree) (last : List Token) → GoesToTerminals ts inner → Takes (mark_in ParenOpen) s inner mid → exprs_at (readers n) mid ≡ done es last
    → gate (lower n) ts ≡ close_list es last
gate_ends n ts inner s mid es last e w x = gate_enters n ts inner s mid e w ∙ then_goes (exprs_at (readers n) mid) close_list es last x

pub gate_open : (n : ℕ) (ts inner : List Token) (s : Spot) (mid : List Token) (es : List ExprTree) (last : List Token) (h : Halt) → GoesToTerminals ts inner → Takes (mark_in ParenOpen) s inner mid → exprs_at (readers n) mid ≡ done es last
    → Lacks (mark_in ParenClose) last → h ≡ Refused false (length last) → HaltsAs (gate (lower n) ts) h
gate_open n ts inner s mid es last h e w x v q = halts_by (gate (lower n) ts) (close_list es last) h (gate_ends n ts inner s mid es last e w x) (expect_halts (mark_in ParenClose) (λ _. done es) last h v q)

pub gate_read : (n : ℕ) (p : Place) (kind : GateKind) (ts inner : List Token) (s : Spot) (mid : List Token) (es : List ExprTree) (last : List Token) (t : Spot) (rest : List Token) (old new : List Item) (it : Item)
    → GoesToTerminals ts inner → Takes (mark_in ParenOpen) s inner mid → exprs_at (readers n) mid ≡ done es last → Takes (mark_in ParenClose) t last rest → new ≡ old ++ it ∷ [] → item_of it ≡ item_at p (gate_body kind es)
    → (x : List ExprTree) × (gate (lower n) ts ≡ done x rest) × (map item_of new ≡ map item_of old ++ gate_item p kind x ∷ [])
gate_read n p kind ts inner s mid es last t rest old new it e w x v a b = (
  es,
  gate_ends n ts inner s mid es last e w x ∙ next_takes (mark_in ParenClose) (λ _. done es) refuse t last rest v,
  ap (map item_of) a ∙ map_push item_of old it ∙ ap (λ z. map item_of old ++ z ∷ []) b,
)

pub ruleset gate_steps = (gate_unopened, gate_terminals_halt, gate_open, gate_read, halts_for_memory)

abbrev pub GatesOn : ℕ → Place → GateKind → List Token → List Item → List Item → List Token → Type 0
GatesOn n p kind start old new rest = Pushed item_of (gate_item p kind) (mark_in Comma) Semicolon (gate (lower n)) (gate (lower n)) (listed Semicolon (gate (lower n)) start) old new rest

pub gate_list_first_halts : (n : ℕ) (p : Place) (kind : GateKind) (ts : List Token) (h : Halt) → HaltsAs (gate (lower n) ts) h → HaltsAs (gate_list_at (lower n) p kind ts) h
gate_list_first_halts n p kind ts h x = list_first_halts (gate (lower n)) (gate_items p kind) ts h x

pub gate_list_first : (n : ℕ) (p : Place) (kind : GateKind) (ts rest : List Token) (old new : List Item) → (x : List ExprTree) × (gate (lower n) ts ≡ done x rest) × (map item_of new ≡ map item_of old ++ gate_item p kind x ∷ []) → GatesOn n p kind ts old new rest
gate_list_first n p kind ts rest old new x = pushed_first item_of (gate_item p kind) (mark_in Comma) Semicolon (gate (lower n)) (gate (lower n)) ts x.0 rest old new x.1 x.2

pub gate_list_more : (n : ℕ) (p : Place) (kind : GateKind) (begin : List Token) (old xs ys : List Item) (s : Spot) (ts after rest : List Token) → GatesOn n p kind begin old xs ts → Takes (mark_in Comma) s ts after
    → (x : List ExprTree) × (gate (lower n) after ≡ done x rest) × (map item_of ys ≡ map item_of xs ++ gate_item p kind x ∷ []) → GatesOn n p kind begin old ys rest
gate_list_more n p kind begin old xs ys s ts after rest g w x = pushed_more item_of (gate_item p kind) (mark_in Comma) Semicolon (gate (lower n)) (gate (lower n)) (local_gate (lower n) (local_lower n)) (listed Semicolon (gate (lower n)) begin)
    old xs ys s ts after x.0 rest g w x.1 x.2

pub gate_list_stop : (n : ℕ) (p : Place) (kind : GateKind) (begin : List Token) (old xs : List Item) (s : Spot) (ts after : List Token) (h : Halt) → GatesOn n p kind begin old xs ts → Takes (mark_in Comma) s ts after → HaltsAs (gate (lower n) after) h
    → HaltsAs (gate_list_at (lower n) p kind begin) h
gate_list_stop n p kind begin old xs s ts after h g w x = list_halts (gate (lower n)) (gate_items p kind) begin h
    (pushed_halts item_of (gate_item p kind) (mark_in Comma) Semicolon (gate (lower n)) (gate (lower n)) (listed Semicolon (gate (lower n)) begin) old xs s ts after h g w x)

pub gate_list_open : (n : ℕ) (p : Place) (kind : GateKind) (begin : List Token) (old xs : List Item) (ts : List Token) (h : Halt) → GatesOn n p kind begin old xs ts → Lacks (mark_in Comma) ts → Lacks (mark_in Semicolon) ts
    → h ≡ Refused false (length ts) → HaltsAs (gate_list_at (lower n) p kind begin) h
gate_list_open n p kind begin old xs ts h g v w q = list_halts (gate (lower n)) (gate_items p kind) begin h
    (pushed_open item_of (gate_item p kind) (mark_in Comma) Semicolon (gate (lower n)) (gate (lower n)) (listed Semicolon (gate (lower n)) begin) old xs ts h g v w q)

pub gate_list_end : (n : ℕ) (p : Place) (kind : GateKind) (begin : List Token) (old xs : List Item) (ts : List Token) (s : Spot) (rest : List Token) → GatesOn n p kind begin old xs ts → Lacks (mark_in Comma) ts → Takes (mark_in Semicolon) s ts rest
    → Puts (gate_list_at (lower n) p kind begin) old xs rest
gate_list_end n p kind begin old xs ts s rest g v w = list_puts (gate (lower n)) (gate_item p kind) begin old xs rest
    (pushed_end item_of (gate_item p kind) (mark_in Comma) Semicolon (gate (lower n)) (gate (lower n)) (listed Semicolon (gate (lower n)) begin) old xs ts s rest g v w)

-- behind their delay
pub gates_delay_halts : (n : ℕ) (p : Place) (kind : GateKind) (ts : List Token) (h : Halt) → HaltsAs (maybe_delay ts) h → HaltsAs (gates_at (lower n) p kind ts) h
gates_delay_halts n p kind ts h x = halts_then (maybe_delay ts) (λ _. gate_list_at (lower n) p kind) h x

pub gates_are : (n : ℕ) (p : Place) (kind : GateKind) (ts rest : List Token) → maybe_delay ts ≡ done tt rest → gates_at (lower n) p kind ts ≡ gate_list_at (lower n) p kind rest
gates_are n p kind ts rest e = then_goes (maybe_delay ts) (λ _. gate_list_at (lower n) p kind) tt rest e

-- `[expr]` in a list of connections
pub comma_ends : (s : Spot) (ts rest : List Token) → Takes (mark_in Comma) s ts rest → Takes value_end tt ts rest
comma_ends s ts rest w = record { token = w.token; is = w.is; finds = ap value_end (mark_is Comma w.token s w.finds) }

pub paren_ends : (s : Spot) (ts rest : List Token) → Takes (mark_in ParenClose) s ts rest → Takes value_end tt ts rest
paren_ends s ts rest w = record { token = w.token; is = w.is; finds = ap value_end (mark_is ParenClose w.token s w.finds) }

no_end : (k : TokenKind) (s : Spot) → mark_of Comma k s ≡ None → mark_of ParenClose k s ≡ None → value_end_of k ≡ None
no_end (Mark Comma) s e f = absurd (search (rules, e))
no_end (Mark ParenClose) s e f = absurd (search (rules, f))
no_end k s e f = refl

pub none_ends : (ts : List Token) → Lacks (mark_in Comma) ts → Lacks (mark_in ParenClose) ts → Lacks value_end ts
none_ends [] v w = record { free = tt }
none_ends (t ∷ ts) v w = record { free = no_end t.kind (spot_of t) v.free w.free }

pub value_none : (n : ℕ) (ts rest : List Token) → Takes value_end tt ts rest → value (lower n) ts ≡ done None ts
value_none n ts rest w = peek_takes value_end (done None) (then_done Some (readers n).expr) tt ts rest w

value_is : (n : ℕ) (ts : List Token) → Lacks value_end ts → value (lower n) ts ≡ then_read ((readers n).expr ts) (λ a. done (Some a))
value_is n ts w = peek_lacks value_end (done None) (then_done Some (readers n).expr) ts w

pub value_halts : (n : ℕ) (ts : List Token) (h : Halt) → Lacks value_end ts → HaltsAs ((readers n).expr ts) h → HaltsAs (value (lower n) ts) h
value_halts n ts h w x = halts_by (value (lower n) ts) (then_read ((readers n).expr ts) (λ a. done (Some a))) h (value_is n ts w) (halts_then ((readers n).expr ts) (λ a. done (Some a)) h x)

pub value_done : (n : ℕ) (ts : List Token) (a : ExprTree) (rest : List Token) → Lacks value_end ts → (readers n).expr ts ≡ done a rest → value (lower n) ts ≡ done (Some a) rest
value_done n ts a rest w e = value_is n ts w ∙ then_goes ((readers n).expr ts) (λ a. done (Some a)) a rest e

pub ruleset value_steps = (value_none, value_halts, value_done)

-- `. id ( [expr] )`
pub conn_dot_halts : (n : ℕ) (ts : List Token) (h : Halt) → Lacks (mark_in Dot) ts → h ≡ Refused false (length ts) → HaltsAs (conn (lower n) ts) h
conn_dot_halts n ts h w q = expect_halts (mark_in Dot) (in_dot (lower n)) ts h w q

conn_name : (n : ℕ) (ts : List Token) (s : Spot) (a : List Token) → Takes (mark_in Dot) s ts a → conn (lower n) ts ≡ expect ident_in (at_conn (lower n)) a
conn_name n ts s a w = next_takes (mark_in Dot) (in_dot (lower n)) refuse s ts a w

pub conn_name_halts : (n : ℕ) (ts : List Token) (s : Spot) (a : List Token) (h : Halt) → Takes (mark_in Dot) s ts a → Lacks ident_in a → h ≡ Refused false (length a) → HaltsAs (conn (lower n) ts) h
conn_name_halts n ts s a h w v q = halts_by (conn (lower n) ts) (expect ident_in (at_conn (lower n)) a) h (conn_name n ts s a w) (expect_halts ident_in (at_conn (lower n)) a h v q)

abbrev in_parens : ℕ → List ℕ → Spot → List Token → Outcome ConnTree
in_parens n m _ ts = then_read (value (lower n) ts) (conn_end m)

conn_paren : (n : ℕ) (ts : List Token) (s : Spot) (a : List Token) (m : List ℕ) (t : Spot) (b : List Token) → Takes (mark_in Dot) s ts a → Takes ident_in (record { name = m; spot = t }) a b → conn (lower n) ts ≡ expect (mark_in ParenOpen) (in_parens n m) b
conn_paren n ts s a m t b w v = conn_name n ts s a w ∙ next_takes ident_in (at_conn (lower n)) refuse (record { name = m; spot = t }) a b v

pub conn_paren_halts : (n : ℕ) (ts : List Token) (s : Spot) (a : List Token) (m : List ℕ) (t : Spot) (b : List Token) (h : Halt) → Takes (mark_in Dot) s ts a → Takes ident_in (record { name = m; spot = t }) a b → Lacks (mark_in ParenOpen) b
    → h ≡ Refused false (length b) → HaltsAs (conn (lower n) ts) h
conn_paren_halts n ts s a m t b h w v x q = halts_by (conn (lower n) ts) (expect (mark_in ParenOpen) (in_parens n m) b) h (conn_paren n ts s a m t b w v) (expect_halts (mark_in ParenOpen) (in_parens n m) b h x q)

conn_value : (n : ℕ) (ts : List Token) (s : Spot) (a : List Token) (m : List ℕ) (t : Spot) (b : List Token) (u : Spot) (c : List Token) → Takes (mark_in Dot) s ts a → Takes ident_in (record { name = m; spot = t }) a b
    → Takes (mark_in ParenOpen) u b c → conn (lower n) ts ≡ then_read (value (lower n) c) (conn_end m)
conn_value n ts s a m t b u c w v x = conn_paren n ts s a m t b w v ∙ next_takes (mark_in ParenOpen) (in_parens n m) refuse u b c x

pub conn_value_halts : (n : ℕ) (ts : List Token) (s : Spot) (a : List Token) (m : List ℕ) (t : Spot) (b : List Token) (u : Spot) (c : List Token) (h : Halt) → Takes (mark_in Dot) s ts a → Takes ident_in (record { name = m; spot = t }) a b
    → Takes (mark_in ParenOpen) u b c → HaltsAs (value (lower n) c) h → HaltsAs (conn (lower n) ts) h
conn_value_halts n ts s a m t b u c h w v x y = halts_by (conn (lower n) ts) (then_read (value (lower n) c) (conn_end m)) h (conn_value n ts s a m t b u c w v x) (halts_then (value (lower n) c) (conn_end m) h y)

conn_ends : (n : ℕ) (ts : List Token) (s : Spot) (a : List Token) (m : List ℕ) (t : Spot) (b : List Token) (u : Spot) (c : List Token) (e : Option ExprTree) (d : List Token) → Takes (mark_in Dot) s ts a
    → Takes ident_in (record { name = m; spot = t }) a b → Takes (mark_in ParenOpen) u b c → value (lower n) c ≡ done e d → conn (lower n) ts ≡ conn_end m e d
conn_ends n ts s a m t b u c e d w v x y = conn_value n ts s a m t b u c w v x ∙ then_goes (value (lower n) c) (conn_end m) e d y

pub conn_open : (n : ℕ) (ts : List Token) (s : Spot) (a : List Token) (m : List ℕ) (t : Spot) (b : List Token) (u : Spot) (c : List Token) (e : Option ExprTree) (d : List Token) (h : Halt) → Takes (mark_in Dot) s ts a
    → Takes ident_in (record { name = m; spot = t }) a b → Takes (mark_in ParenOpen) u b c → value (lower n) c ≡ done e d → Lacks (mark_in ParenClose) d → h ≡ Refused false (length d) → HaltsAs (conn (lower n) ts) h
conn_open n ts s a m t b u c e d h w v x y z q = halts_by (conn (lower n) ts) (conn_end m e d) h (conn_ends n ts s a m t b u c e d w v x y) (expect_halts (mark_in ParenClose) (λ _. done (record { name = m; value = e })) d h z q)

pub conn_done : (n : ℕ) (ts : List Token) (s : Spot) (a : List Token) (m : List ℕ) (t : Spot) (b : List Token) (u : Spot) (c : List Token) (e : Option ExprTree) (d : List Token) (p : Spot) (rest : List Token) (k : List ℕ) (f : ConnTree)
    → Takes (mark_in Dot) s ts a → Takes ident_in (record { name = m; spot = t }) a b → Takes (mark_in ParenOpen) u b c → value (lower n) c ≡ done e d → Takes (mark_in ParenClose) p d rest → f ≡ record { name = k; value = e } → k ≡ m
    → conn (lower n) ts ≡ done f rest
conn_done n ts s a m t b u c e d p rest k f w v x y z q r = conn_ends n ts s a m t b u c e d w v x y ∙ next_takes (mark_in ParenClose) (λ _. done (record { name = m; value = e })) refuse p d rest z
    ∙ ap (λ o. done o rest) (sym (q ∙ ap (λ o. record { name = o; value = e }) r))

pub ruleset conn_steps = (conn_dot_halts, conn_name_halts, conn_paren_halts, conn_value_halts, conn_open, conn_done, halts_for_memory)

-- lists of connections
push_map : {X A : Type 0} (f : X → A) (xs ys : List X) (x : X) → ys ≡ xs ++ x ∷ [] → map f ys ≡ map f xs ++ f x ∷ []
push_map f xs ys x e = ap (map f) e ∙ map_push f xs x

abbrev pub NamedOn : ℕ → List Token → List Conn → List Token → Type 0
NamedOn n start new rest = Pushed conn_of (λ (c : ConnTree). c) (mark_in Comma) ParenClose (conn (lower n)) (conn (lower n)) (listed ParenClose (conn (lower n)) start) [] new rest

pub named_first_halts : (n : ℕ) (ts : List Token) (h : Halt) → HaltsAs (conn (lower n) ts) h → HaltsAs (named_at (lower n) ts) h
named_first_halts n ts h x = halts_then (listed ParenClose (conn (lower n)) ts) (λ a. done (named a)) h (reached_first_halts (mark_in Comma) ParenClose (conn (lower n)) (conn (lower n)) ts h x)

pub named_first : (n : ℕ) (ts : List Token) (x : Conn) (xs : List Conn) (rest : List Token) → conn (lower n) ts ≡ done (conn_of x) rest → xs ≡ x ∷ [] → NamedOn n ts xs rest
named_first n ts x xs rest e q = pushed_first conn_of (λ (c : ConnTree). c) (mark_in Comma) ParenClose (conn (lower n)) (conn (lower n)) ts (conn_of x) rest [] xs e (ap (map conn_of) q)

pub named_more : (n : ℕ) (begin : List Token) (xs ys : List Conn) (s : Spot) (ts after : List Token) (x : Conn) (rest : List Token) → NamedOn n begin xs ts → Takes (mark_in Comma) s ts after → conn (lower n) after ≡ done (conn_of x) rest
    → ys ≡ xs ++ x ∷ [] → NamedOn n begin ys rest
named_more n begin xs ys s ts after x rest g w e q = pushed_more conn_of (λ (c : ConnTree). c) (mark_in Comma) ParenClose (conn (lower n)) (conn (lower n)) (local_conn (lower n) (local_lower n)) (listed ParenClose (conn (lower n)) begin)
    [] xs ys s ts after (conn_of x) rest g w e (push_map conn_of xs ys x q)

pub named_stop : (n : ℕ) (begin : List Token) (xs : List Conn) (s : Spot) (ts after : List Token) (h : Halt) → NamedOn n begin xs ts → Takes (mark_in Comma) s ts after → HaltsAs (conn (lower n) after) h → HaltsAs (named_at (lower n) begin) h
named_stop n begin xs s ts after h g w x = halts_then (listed ParenClose (conn (lower n)) begin) (λ a. done (named a)) h
    (pushed_halts conn_of (λ (c : ConnTree). c) (mark_in Comma) ParenClose (conn (lower n)) (conn (lower n)) (listed ParenClose (conn (lower n)) begin) [] xs s ts after h g w x)

pub named_open : (n : ℕ) (begin : List Token) (xs : List Conn) (ts : List Token) (h : Halt) → NamedOn n begin xs ts → Lacks (mark_in Comma) ts → Lacks (mark_in ParenClose) ts → h ≡ Refused false (length ts) → HaltsAs (named_at (lower n) begin) h
named_open n begin xs ts h g v w q = halts_then (listed ParenClose (conn (lower n)) begin) (λ a. done (named a)) h
    (pushed_open conn_of (λ (c : ConnTree). c) (mark_in Comma) ParenClose (conn (lower n)) (conn (lower n)) (listed ParenClose (conn (lower n)) begin) [] xs ts h g v w q)

pub named_end : (n : ℕ) (begin : List Token) (xs : List Conn) (ts : List Token) (s : Spot) (rest : List Token) (d : ConnsTree) → NamedOn n begin xs ts → Lacks (mark_in Comma) ts → Takes (mark_in ParenClose) s ts rest → d ≡ named (map conn_of xs)
    → named_at (lower n) begin ≡ done d rest
named_end n begin xs ts s rest d g v w q =
    let z = pushed_end conn_of (λ (c : ConnTree). c) (mark_in Comma) ParenClose (conn (lower n)) (conn (lower n)) (listed ParenClose (conn (lower n)) begin) [] xs ts s rest g v w in
    then_goes (listed ParenClose (conn (lower n)) begin) (λ a. done (named a)) z.0 rest z.1 ∙ ap (λ o. done (named o) rest) (sym (z.2 ∙ map_same z.0)) ∙ ap (λ o. done o rest) (sym q)

pub ruleset named_steps = (named_first_halts, named_first, named_more, named_stop, named_open, named_end, halts_for_memory)

abbrev pub OrderedOn : ℕ → List Token → List (Option Expr) → List Token → Type 0
OrderedOn n start new rest = Pushed (maybe tree_of) (λ (c : Option ExprTree). c) (mark_in Comma) ParenClose (value (lower n)) (value (lower n)) (listed ParenClose (value (lower n)) start) [] new rest

pub ordered_first_halts : (n : ℕ) (ts : List Token) (h : Halt) → HaltsAs (value (lower n) ts) h → HaltsAs (ordered_at (lower n) ts) h
ordered_first_halts n ts h x = halts_then (listed ParenClose (value (lower n)) ts) (λ a. done (as_ordered a)) h (reached_first_halts (mark_in Comma) ParenClose (value (lower n)) (value (lower n)) ts h x)

pub ordered_first : (n : ℕ) (ts : List Token) (x : Option Expr) (xs : List (Option Expr)) (rest : List Token) → value (lower n) ts ≡ done (maybe tree_of x) rest → xs ≡ x ∷ [] → OrderedOn n ts xs rest
ordered_first n ts x xs rest e q = pushed_first (maybe tree_of) (λ (c : Option ExprTree). c) (mark_in Comma) ParenClose (value (lower n)) (value (lower n)) ts (maybe tree_of x) rest [] xs e (ap (map (maybe tree_of)) q)

pub ordered_more : (n : ℕ) (begin : List Token) (xs ys : List (Option Expr)) (s : Spot) (ts after : List Token) (x : Option Expr) (rest : List Token) → OrderedOn n begin xs ts → Takes (mark_in Comma) s ts after
    → value (lower n) after ≡ done (maybe tree_of x) rest → ys ≡ xs ++ x ∷ [] → OrderedOn n begin ys rest
ordered_more n begin xs ys s ts after x rest g w e q = pushed_more (maybe tree_of) (λ (c : Option ExprTree). c) (mark_in Comma) ParenClose (value (lower n)) (value (lower n)) (local_value (lower n) (local_lower n))
    (listed ParenClose (value (lower n)) begin) [] xs ys s ts after (maybe tree_of x) rest g w e (push_map (maybe tree_of) xs ys x q)

pub ordered_stop : (n : ℕ) (begin : List Token) (xs : List (Option Expr)) (s : Spot) (ts after : List Token) (h : Halt) → OrderedOn n begin xs ts → Takes (mark_in Comma) s ts after → HaltsAs (value (lower n) after) h
    → HaltsAs (ordered_at (lower n) begin) h
ordered_stop n begin xs s ts after h g w x = halts_then (listed ParenClose (value (lower n)) begin) (λ a. done (as_ordered a)) h
    (pushed_halts (maybe tree_of) (λ (c : Option ExprTree). c) (mark_in Comma) ParenClose (value (lower n)) (value (lower n)) (listed ParenClose (value (lower n)) begin) [] xs s ts after h g w x)

pub ordered_open : (n : ℕ) (begin : List Token) (xs : List (Option Expr)) (ts : List Token) (h : Halt) → OrderedOn n begin xs ts → Lacks (mark_in Comma) ts → Lacks (mark_in ParenClose) ts → h ≡ Refused false (length ts)
    → HaltsAs (ordered_at (lower n) begin) h
ordered_open n begin xs ts h g v w q = halts_then (listed ParenClose (value (lower n)) begin) (λ a. done (as_ordered a)) h
    (pushed_open (maybe tree_of) (λ (c : Option ExprTree). c) (mark_in Comma) ParenClose (value (lower n)) (value (lower n)) (listed ParenClose (value (lower n)) begin) [] xs ts h g v w q)

pub ordered_end : (n : ℕ) (begin : List Token) (xs : List (Option Expr)) (ts : List Token) (s : Spot) (rest : List Token) (d : ConnsTree) → OrderedOn n begin xs ts → Lacks (mark_in Comma) ts → Takes (mark_in ParenClose) s ts rest
    → d ≡ ordered (entries (map (maybe tree_of) xs)) → ordered_at (lower n) begin ≡ done d rest
ordered_end n begin xs ts s rest d g v w q =
    let z = pushed_end (maybe tree_of) (λ (c : Option ExprTree). c) (mark_in Comma) ParenClose (value (lower n)) (value (lower n)) (listed ParenClose (value (lower n)) begin) [] xs ts s rest g v w in
    then_goes (listed ParenClose (value (lower n)) begin) (λ a. done (as_ordered a)) z.0 rest z.1 ∙ ap (λ o. done (as_ordered o) rest) (sym (z.2 ∙ map_same z.0)) ∙ ap (λ o. done o rest) (sym q)

pub ruleset ordered_steps = (ordered_first_halts, ordered_first, ordered_more, ordered_stop, ordered_open, ordered_end, halts_for_memory)

-- `( conns )`
pub conns_unopened : (n : ℕ) (ts : List Token) (h : Halt) → Lacks (mark_in ParenOpen) ts → h ≡ Refused false (length ts) → HaltsAs (conns (lower n) ts) h
conns_unopened n ts h w q = expect_halts (mark_in ParenOpen) (in_conns (lower n)) ts h w q

pub conns_named : (n : ℕ) (ts : List Token) (s : Spot) (inner : List Token) (t : Spot) (rest : List Token) → Takes (mark_in ParenOpen) s ts inner → Takes (mark_in Dot) t inner rest → conns (lower n) ts ≡ named_at (lower n) inner
conns_named n ts s inner t rest w v = next_takes (mark_in ParenOpen) (in_conns (lower n)) refuse s ts inner w ∙ peek_takes (mark_in Dot) (named_at (lower n)) (ordered_at (lower n)) t inner rest v

pub conns_ordered : (n : ℕ) (ts : List Token) (s : Spot) (inner : List Token) → Takes (mark_in ParenOpen) s ts inner → Lacks (mark_in Dot) inner → conns (lower n) ts ≡ ordered_at (lower n) inner
conns_ordered n ts s inner w v = next_takes (mark_in ParenOpen) (in_conns (lower n)) refuse s ts inner w ∙ peek_lacks (mark_in Dot) (named_at (lower n)) (ordered_at (lower n)) inner v

pub ruleset conns_steps = (conns_unopened, conns_named, conns_ordered)

-- `[ # ( conns ) ]`
pub overrides_none : (n : ℕ) (ts : List Token) (es : List (Option Expr)) (d : ConnsTree) → Lacks (mark_in Hash) ts → es ≡ [] → d ≡ ordered (entries (map (maybe tree_of) es)) → overrides (lower n) ts ≡ done d ts
overrides_none n ts es d w e q = next_lacks (mark_in Hash) (λ _. conns (lower n)) (done (ordered [])) ts w ∙ ap (λ z. done (ordered (entries (map (maybe tree_of) z))) ts) (sym e) ∙ ap (λ z. done z ts) (sym q)

pub overrides_are : (n : ℕ) (ts : List Token) (s : Spot) (inner : List Token) → Takes (mark_in Hash) s ts inner → overrides (lower n) ts ≡ conns (lower n) inner
overrides_are n ts s inner w = next_takes (mark_in Hash) (λ _. conns (lower n)) (done (ordered [])) s ts inner w

pub ruleset overrides_steps = (overrides_none, overrides_are)

-- `id ( conns )`
pub placed_refused : (n : ℕ) (ts : List Token) (h : Halt) → Lacks ident_in ts → h ≡ Refused false (length ts) → HaltsAs (placed (lower n) ts) h
placed_refused n ts h w q = expect_halts ident_in (λ m. then_done (place_at m.name) (conns (lower n))) ts h w q

placed_is : (n : ℕ) (ts : List Token) (m : List ℕ) (s : Spot) (inner : List Token) → Takes ident_in (record { name = m; spot = s }) ts inner → placed (lower n) ts ≡ then_read (conns (lower n) inner) (λ c. done (place_at m c))
placed_is n ts m s inner w = next_takes ident_in (λ m. then_done (place_at m.name) (conns (lower n))) refuse (record { name = m; spot = s }) ts inner w

pub placed_halts : (n : ℕ) (ts : List Token) (m : List ℕ) (s : Spot) (inner : List Token) (h : Halt) → Takes ident_in (record { name = m; spot = s }) ts inner → HaltsAs (conns (lower n) inner) h → HaltsAs (placed (lower n) ts) h
placed_halts n ts m s inner h w x = halts_by (placed (lower n) ts) (then_read (conns (lower n) inner) (λ c. done (place_at m c))) h (placed_is n ts m s inner w) (halts_then (conns (lower n) inner) (λ c. done (place_at m c)) h x)

pub placed_read : (n : ℕ) (p : Place) (child : List ℕ) (c : ConnsTree) (ts : List Token) (m : List ℕ) (s : Spot) (inner : List Token) (e : ConnsTree) (rest : List Token) (old new : List Item) (it : Item) (child2 : List ℕ) (c2 : ConnsTree) (m2 : List ℕ)
    → Takes ident_in (record { name = m; spot = s }) ts inner → conns (lower n) inner ≡ done e rest → new ≡ old ++ it ∷ [] → item_of it ≡ item_at p (instance child2 c2 m2 e) → child2 ≡ child → c2 ≡ c → m2 ≡ m
    → (x : Placed) × (placed (lower n) ts ≡ done x rest) × (map item_of new ≡ map item_of old ++ instance_item p child c x ∷ [])
placed_read n p child c ts m s inner e rest old new it child2 c2 m2 w x a b i j k = (
  place_at m e,
  placed_is n ts m s inner w ∙ then_goes (conns (lower n) inner) (λ c. done (place_at m c)) e rest x,
  push_map item_of old new it a ∙ ap (λ z. map item_of old ++ z ∷ []) (b ∙ ap (λ z. item_at p (instance z c2 m2 e)) i ∙ ap (λ z. item_at p (instance child z m2 e)) j ∙ ap (λ z. item_at p (instance child c z e)) k),
)

pub ruleset instance_steps = (placed_refused, placed_halts, placed_read, halts_for_memory)

abbrev pub InstancesOn : ℕ → Place → List ℕ → ConnsTree → List Token → List Item → List Item → List Token → Type 0
InstancesOn n p child c start old new rest = Pushed item_of (instance_item p child c) (mark_in Comma) Semicolon (placed (lower n)) (placed (lower n)) (listed Semicolon (placed (lower n)) start) old new rest

pub instances_overrides_halt : (n : ℕ) (p : Place) (child : List ℕ) (ts : List Token) (h : Halt) → HaltsAs (overrides (lower n) ts) h → HaltsAs (instances_at (lower n) p child ts) h
instances_overrides_halt n p child ts h x = halts_then (overrides (lower n) ts) (λ c. then_done (instance_items p child c) (listed Semicolon (placed (lower n)))) h x

instances_begin : (n : ℕ) (p : Place) (child : List ℕ) (ts : List Token) (c : ConnsTree) (mid : List Token) → overrides (lower n) ts ≡ done c mid → instances_at (lower n) p child ts ≡ then_done (instance_items p child c) (listed Semicolon (placed (lower n))) mid
instances_begin n p child ts c mid e = then_goes (overrides (lower n) ts) (λ c. then_done (instance_items p child c) (listed Semicolon (placed (lower n)))) c mid e

pub instances_first_halts : (n : ℕ) (p : Place) (child : List ℕ) (ts : List Token) (c : ConnsTree) (mid : List Token) (h : Halt) → overrides (lower n) ts ≡ done c mid → HaltsAs (placed (lower n) mid) h → HaltsAs (instances_at (lower n) p child ts) h
instances_first_halts n p child ts c mid h e x = halts_by (instances_at (lower n) p child ts) (then_done (instance_items p child c) (listed Semicolon (placed (lower n))) mid) h (instances_begin n p child ts c mid e)
    (list_first_halts (placed (lower n)) (instance_items p child c) mid h x)

pub instances_first : (n : ℕ) (p : Place) (child : List ℕ) (c : ConnsTree) (mid rest : List Token) (old new : List Item)
    → (x : Placed) × (placed (lower n) mid ≡ done x rest) × (map item_of new ≡ map item_of old ++ instance_item p child c x ∷ []) → InstancesOn n p child c mid old new rest
instances_first n p child c mid rest old new x = pushed_first item_of (instance_item p child c) (mark_in Comma) Semicolon (placed (lower n)) (placed (lower n)) mid x.0 rest old new x.1 x.2

pub instances_more : (n : ℕ) (p : Place) (child : List ℕ) (c : ConnsTree) (mid : List Token) (old xs ys : List Item) (s : Spot) (ts after rest : List Token) → InstancesOn n p child c mid old xs ts → Takes (mark_in Comma) s ts after
    → (x : Placed) × (placed (lower n) after ≡ done x rest) × (map item_of ys ≡ map item_of xs ++ instance_item p child c x ∷ []) → InstancesOn n p child c mid old ys rest
instances_more n p child c mid old xs ys s ts after rest g w x = pushed_more item_of (instance_item p child c) (mark_in Comma) Semicolon (placed (lower n)) (placed (lower n)) (local_placed (lower n) (local_lower n))
    (listed Semicolon (placed (lower n)) mid) old xs ys s ts after x.0 rest g w x.1 x.2

pub instances_stop : (n : ℕ) (p : Place) (child : List ℕ) (begin : List Token) (c : ConnsTree) (mid : List Token) (old xs : List Item) (s : Spot) (ts after : List Token) (h : Halt) → overrides (lower n) begin ≡ done c mid
    → InstancesOn n p child c mid old xs ts → Takes (mark_in Comma) s ts after → HaltsAs (placed (lower n) after) h → HaltsAs (instances_at (lower n) p child begin) h
instances_stop n p child begin c mid old xs s ts after h e g w x = halts_by (instances_at (lower n) p child begin) (then_done (instance_items p child c) (listed Semicolon (placed (lower n))) mid) h (instances_begin n p child begin c mid e)
    (list_halts (placed (lower n)) (instance_items p child c) mid h
    (pushed_halts item_of (instance_item p child c) (mark_in Comma) Semicolon (placed (lower n)) (placed (lower n)) (listed Semicolon (placed (lower n)) mid) old xs s ts after h g w x))

pub instances_open : (n : ℕ) (p : Place) (child : List ℕ) (begin : List Token) (c : ConnsTree) (mid : List Token) (old xs : List Item) (ts : List Token) (h : Halt) → overrides (lower n) begin ≡ done c mid
    → InstancesOn n p child c mid old xs ts → Lacks (mark_in Comma) ts → Lacks (mark_in Semicolon) ts → h ≡ Refused false (length ts) → HaltsAs (instances_at (lower n) p child begin) h
instances_open n p child begin c mid old xs ts h e g v w q = halts_by (instances_at (lower n) p child begin) (then_done (instance_items p child c) (listed Semicolon (placed (lower n))) mid) h (instances_begin n p child begin c mid e)
    (list_halts (placed (lower n)) (instance_items p child c) mid h
    (pushed_open item_of (instance_item p child c) (mark_in Comma) Semicolon (placed (lower n)) (placed (lower n)) (listed Semicolon (placed (lower n)) mid) old xs ts h g v w q))

pub instances_end : (n : ℕ) (p : Place) (child : List ℕ) (begin : List Token) (c : ConnsTree) (mid : List Token) (old xs : List Item) (ts : List Token) (s : Spot) (rest : List Token) → overrides (lower n) begin ≡ done c mid
    → InstancesOn n p child c mid old xs ts → Lacks (mark_in Comma) ts → Takes (mark_in Semicolon) s ts rest → Puts (instances_at (lower n) p child begin) old xs rest
instances_end n p child begin c mid old xs ts s rest e g v w = puts_by (instances_at (lower n) p child begin) (then_done (instance_items p child c) (listed Semicolon (placed (lower n))) mid) old xs rest (instances_begin n p child begin c mid e)
    (list_puts (placed (lower n)) (instance_item p child c) mid old xs rest
    (pushed_end item_of (instance_item p child c) (mark_in Comma) Semicolon (placed (lower n)) (placed (lower n)) (listed Semicolon (placed (lower n)) mid) old xs ts s rest g v w))

pub ruleset instances_steps = (instances_overrides_halt, instances_first_halts, instances_first, instances_more, instances_stop, instances_open, instances_end)
