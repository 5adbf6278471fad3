-- The steps of the reader of processes, items, modules and sources: one for each way out of a function of the parser.
use Rattle.std.proofs.Common.{◌≡◌, ℕ, Bool, false, List, [], ◌∷◌, ◌++◌, map, length, Option, Some, None, refl, sym, ap, ap₂, ◌∙◌, rules, append_assoc, append-nil}
use Rattle.cdc_base.specs.declared.fault.Place.{Place}
use Rattle.cdc_base.specs.declared.words.Keyword.TheVariants as k
use Rattle.cdc_base.specs.declared.words.Keyword.{Keyword}
use Rattle.verilog_ast.specs.declared.DeclKind.{DeclKind}
use Rattle.verilog_ast.specs.declared.Event.{Event}
use Rattle.verilog_ast.specs.declared.GateKind.{GateKind}
use Rattle.verilog_ast.specs.declared.Item.{Item}
use Rattle.verilog_ast.specs.declared.Module.{Module}
use Rattle.verilog_exprs.specs.declared.halt.Halt.{Halt}
use Rattle.verilog_exprs.specs.declared.halt.Halt.TheVariants.{Refused}
use Rattle.verilog_exprs.specs.Halts.{HaltsAs}
use Rattle.verilog_exprs.specs.Next.{Takes, Lacks}
use Rattle.verilog_exprs.proofs.Steps.{halts_then, halts_by, halts_for_memory, next_takes, next_lacks, expect_halts}
use Rattle.verilog_exprs.proofs.Steps.{then_done as then_goes}
use Rattle.verilog_items.specs.Forms.{place_at, Puts, NoKind, NoParameter, params_at, assigns_at, gates_at, instances_at}
use Rattle.verilog_items.proofs.PushSteps.{map_same}
use Rattle.verilog_items.proofs.DeclSteps.{place_of_word, GoesToDecls, GoesToParams, past_parameters, behind_always, behind_names, behind_gates, behind_assigns}
use Rattle.verilog_lex.specs.declared.token.Token.{Token}
use Rattle.verilog_lex.specs.declared.token.TokenKind.{TokenKind}
use Rattle.verilog_lex.specs.declared.token.TokenKind.TheVariants.{Word}
use Rattle.verilog_lex.specs.declared.marks.MarkKind.TheVariants.{Semicolon}
use Rattle.verilog_parse.specs.Forms.{process_at, ItemsRead, module_at}
use Rattle.verilog_reading.specs.ItemReader.{then_done, decls, in_assigns, GateWord, as_gate, gate_word_of, gate_in, in_gates, in_instances, event, always_items, in_always, initial_items, in_initial, item, header, ports, module_end, in_items, behind_ports, behind_header, in_module, at_module, read_module, source_end, read_source}
use Rattle.verilog_reading.specs.ItemReading.{Ports, gate_of, item_at}
use Rattle.verilog_reading.specs.Lexemes.{Spot, spot_of, mark_in, word_in, ident_in, Named, end_in}
use Rattle.verilog_reading.specs.Lists.{many}
use Rattle.verilog_reading.specs.Outcome.{Outcome, done, then_read, refuse}
use Rattle.verilog_reading.specs.SourceTree.{ParamTree, ItemTree, item_of, ModuleTree, module_of, always, initial, joined}
use Rattle.verilog_reading.specs.StmtReader.{lower, read_stmt}
use Rattle.verilog_reading.specs.StmtTree.{StmtTree}
use Rattle.verilog_reading.proofs.ItemLocal.{eats_items, eats_modules}
use Rattle.verilog_reading.proofs.Tests.{ident_is}
use Rattle.verilog_stmts.proofs.ListSteps.{map_push, Rows, rows_none, rows_more, rows_halts, rows_end}

-- processes
item_put : (o : Outcome (List ItemTree)) (t : ItemTree) (rest : List Token) (old new : List Item) (it : Item) → o ≡ done (t ∷ []) rest → new ≡ old ++ it ∷ [] → item_of it ≡ t → Puts o old new rest
item_put o t rest old new it e p q = record { added = t ∷ []; reads = e; all = ap (map item_of) p ∙ map_push item_of old it ∙ ap (λ z. map item_of old ++ z ∷ []) q }

abbrev always_end : ℕ → Spot → Event → List Token → Outcome (List ItemTree)
always_end n s e = then_done (always_items s.place e) (read_stmt n)

process_always : (n : ℕ) (ts : List Token) (s : Spot) (a : List Token) → Takes (word_in k.Always) s ts a → process_at (lower n) ts ≡ then_read (event a) (always_end n s)
process_always n ts s a w = next_takes (word_in k.Always) (in_always (lower n)) (behind_always (lower n)) s ts a w

pub always_event_halts : (n : ℕ) (ts : List Token) (s : Spot) (a : List Token) (h : Halt) → Takes (word_in k.Always) s ts a → HaltsAs (event a) h → HaltsAs (process_at (lower n) ts) h
always_event_halts n ts s a h w x = halts_by (process_at (lower n) ts) (then_read (event a) (always_end n s)) h (process_always n ts s a w) (halts_then (event a) (always_end n s) h x)

always_body : (n : ℕ) (ts : List Token) (s : Spot) (a : List Token) (e : Event) (b : List Token) → Takes (word_in k.Always) s ts a → event a ≡ done e b → process_at (lower n) ts ≡ then_read (read_stmt n b) (λ c. done (always_items s.place e c))
always_body n ts s a e b w x = process_always n ts s a w ∙ then_goes (event a) (always_end n s) e b x

pub always_body_halts : (n : ℕ) (ts : List Token) (s : Spot) (a : List Token) (e : Event) (b : List Token) (h : Halt) → Takes (word_in k.Always) s ts a → event a ≡ done e b → HaltsAs (read_stmt n b) h → HaltsAs (process_at (lower n) ts) h
always_body_halts n ts s a e b h w x y = halts_by (process_at (lower n) ts) (then_read (read_stmt n b) (λ c. done (always_items s.place e c))) h (always_body n ts s a e b w x) (halts_then (read_stmt n b) (λ c. done (always_items s.place e c)) h y)

pub always_read : (n : ℕ) (ts : List Token) (s : Spot) (a : List Token) (e : Event) (b : List Token) (c : StmtTree) (rest : List Token) (old new : List Item) (it : Item) (p : Place) → Takes (word_in k.Always) s ts a → event a ≡ done e b
    → read_stmt n b ≡ done c rest → new ≡ old ++ it ∷ [] → item_of it ≡ item_at p (always e c) → p ≡ place_at ts → Puts (process_at (lower n) ts) old new rest
always_read n ts s a e b c rest old new it p w x y i j q = item_put (process_at (lower n) ts) (item_at s.place (always e c)) rest old new it
    (always_body n ts s a e b w x ∙ then_goes (read_stmt n b) (λ c. done (always_items s.place e c)) c rest y) i (j ∙ ap (λ z. item_at z (always e c)) (q ∙ sym (place_of_word k.Always s ts a w)))

abbrev initial_end : Spot → StmtTree → List Token → Outcome (List ItemTree)
initial_end s c = done (initial_items s.place c)

process_rest : (n : ℕ) (ts : List Token) → Lacks (word_in k.Always) ts → process_at (lower n) ts ≡ behind_always (lower n) ts
process_rest n ts w = next_lacks (word_in k.Always) (in_always (lower n)) (behind_always (lower n)) ts w

pub process_refused : (n : ℕ) (ts : List Token) (h : Halt) → Lacks (word_in k.Always) ts → Lacks (word_in k.Initial) ts → h ≡ Refused false (length ts) → HaltsAs (process_at (lower n) ts) h
process_refused n ts h v w q = halts_by (process_at (lower n) ts) (behind_always (lower n) ts) h (process_rest n ts v) (expect_halts (word_in k.Initial) (in_initial (lower n)) ts h w q)

process_initial : (n : ℕ) (ts : List Token) (s : Spot) (a : List Token) → Lacks (word_in k.Always) ts → Takes (word_in k.Initial) s ts a → process_at (lower n) ts ≡ then_read (read_stmt n a) (initial_end s)
process_initial n ts s a v w = process_rest n ts v ∙ next_takes (word_in k.Initial) (in_initial (lower n)) refuse s ts a w

pub initial_body_halts : (n : ℕ) (ts : List Token) (s : Spot) (a : List Token) (h : Halt) → Lacks (word_in k.Always) ts → Takes (word_in k.Initial) s ts a → HaltsAs (read_stmt n a) h → HaltsAs (process_at (lower n) ts) h
initial_body_halts n ts s a h v w x = halts_by (process_at (lower n) ts) (then_read (read_stmt n a) (initial_end s)) h (process_initial n ts s a v w) (halts_then (read_stmt n a) (initial_end s) h x)

pub initial_read : (n : ℕ) (ts : List Token) (s : Spot) (a : List Token) (c : StmtTree) (rest : List Token) (old new : List Item) (it : Item) (p : Place) → Lacks (word_in k.Always) ts → Takes (word_in k.Initial) s ts a
    → read_stmt n a ≡ done c rest → new ≡ old ++ it ∷ [] → item_of it ≡ item_at p (initial c) → p ≡ place_at ts → Puts (process_at (lower n) ts) old new rest
initial_read n ts s a c rest old new it p v w y i j q = item_put (process_at (lower n) ts) (item_at s.place (initial c)) rest old new it
    (process_initial n ts s a v w ∙ then_goes (read_stmt n a) (initial_end s) c rest y) i (j ∙ ap (λ z. item_at z (initial c)) (q ∙ sym (place_of_word k.Initial s ts a w)))

pub ruleset process_steps = (always_event_halts, always_body_halts, always_read, process_refused, initial_body_halts, initial_read, halts_for_memory)

-- items
pub item_decls : (n : ℕ) (kind : DeclKind) (ts rest : List Token) (p : Place) → p ≡ place_at ts → GoesToDecls kind ts rest → item (lower n) ts ≡ decls (lower n) p kind rest
item_decls n kind ts rest p e g = g (lower n) ∙ ap (λ z. decls (lower n) z kind rest) (sym e)

pub item_params : (n : ℕ) (local : Bool) (ts rest : List Token) (p : Place) → p ≡ place_at ts → NoKind ts → GoesToParams local ts rest → item (lower n) ts ≡ params_at (lower n) local p rest
item_params n local ts rest p e v g = g v (lower n) ∙ ap (λ z. params_at (lower n) local z rest) (sym e)

pub item_assigns : (n : ℕ) (ts : List Token) (s : Spot) (rest : List Token) (p : Place) → p ≡ place_at ts → NoKind ts → NoParameter ts → Takes (word_in k.Assign) s ts rest → item (lower n) ts ≡ assigns_at (lower n) p rest
item_assigns n ts s rest p e v w x = past_parameters ts v w (lower n) ∙ next_takes (word_in k.Assign) (in_assigns (lower n)) (behind_assigns (lower n)) s ts rest x
    ∙ ap (λ z. assigns_at (lower n) z rest) (place_of_word k.Assign s ts rest x ∙ sym e)

past_assigns : (n : ℕ) (ts : List Token) → NoKind ts → NoParameter ts → Lacks (word_in k.Assign) ts → item (lower n) ts ≡ behind_assigns (lower n) ts
past_assigns n ts v w x = past_parameters ts v w (lower n) ∙ next_lacks (word_in k.Assign) (in_assigns (lower n)) (behind_assigns (lower n)) ts x

gate_spot_of : (o : Option GateKind) (w : Keyword) (s : Spot) (g : GateWord) → as_gate o w s ≡ Some g → s ≡ g.spot
gate_spot_of None w s g e = absurd (search (rules, e))
gate_spot_of (Some kind) w s g e = let h : record { kind = kind; sign = w; spot = s } ≡ g = search (rules, e) in ap (λ x. x.spot) h

gate_spot : (x : TokenKind) (s : Spot) (g : GateWord) → gate_word_of x s ≡ Some g → s ≡ g.spot
gate_spot (Word w) s g e = gate_spot_of (gate_of w) w s g e
gate_spot x s g e = absurd (search (rules, e))

place_of_gate : (g : GateWord) (ts rest : List Token) → Takes gate_in g ts rest → g.spot.place ≡ place_at ts
place_of_gate g ts rest w = sym (ap place_at w.is ∙ ap (λ (s : Spot). s.place) (gate_spot w.token.kind (spot_of w.token) g w.finds))

pub item_gates : (n : ℕ) (ts : List Token) (kind : GateKind) (rest : List Token) (p : Place) → p ≡ place_at ts → NoKind ts → NoParameter ts → Lacks (word_in k.Assign) ts → (g : GateWord) × Takes gate_in g ts rest × (g.kind ≡ kind)
    → item (lower n) ts ≡ gates_at (lower n) p kind rest
item_gates n ts kind rest p e v w x g = past_assigns n ts v w x ∙ next_takes gate_in (in_gates (lower n)) (behind_gates (lower n)) g.0 ts rest g.1
    ∙ ap₂ (λ z y. gates_at (lower n) z y rest) (place_of_gate g.0 ts rest g.1 ∙ sym e) g.2

past_gates : (n : ℕ) (ts : List Token) → NoKind ts → NoParameter ts → Lacks (word_in k.Assign) ts → Lacks gate_in ts → item (lower n) ts ≡ behind_gates (lower n) ts
past_gates n ts v w x y = past_assigns n ts v w x ∙ next_lacks gate_in (in_gates (lower n)) (behind_gates (lower n)) ts y

place_of_ident : (m : Named) (ts rest : List Token) → Takes ident_in m ts rest → m.spot.place ≡ place_at ts
place_of_ident m ts rest w = sym (ap place_at w.is ∙ ap (λ (t : Token). t.place) (ident_is w.token m w.finds))

pub item_instances : (n : ℕ) (ts : List Token) (m : List ℕ) (s : Spot) (rest : List Token) (p : Place) → p ≡ place_at ts → NoKind ts → NoParameter ts → Lacks (word_in k.Assign) ts → Lacks gate_in ts
    → Takes ident_in (record { name = m; spot = s }) ts rest → item (lower n) ts ≡ instances_at (lower n) p m rest
item_instances n ts m s rest p e v w x y z = past_gates n ts v w x y ∙ next_takes ident_in (in_instances (lower n)) (behind_names (lower n)) (record { name = m; spot = s }) ts rest z
    ∙ ap (λ q. instances_at (lower n) q m rest) (place_of_ident (record { name = m; spot = s }) ts rest z ∙ sym e)

pub item_process : (n : ℕ) (ts : List Token) → NoKind ts → NoParameter ts → Lacks (word_in k.Assign) ts → Lacks gate_in ts → Lacks ident_in ts → item (lower n) ts ≡ process_at (lower n) ts
item_process n ts v w x y z = past_gates n ts v w x y ∙ next_lacks ident_in (in_instances (lower n)) (behind_names (lower n)) ts z

pub ruleset item_steps = (item_decls, item_params, item_assigns, item_gates, item_instances, item_process)

-- the items of a module
joined_push : {A : Type 0} (xs : List (List A)) (x : List A) → joined (xs ++ x ∷ []) ≡ joined xs ++ x
joined_push [] x = append-nil x
joined_push (y ∷ ys) x = ap (λ z. y ++ z) (joined_push ys x) ∙ sym (append_assoc y (joined ys) x)

abbrev item_rows : ℕ → List Token → Outcome (List (List ItemTree) × Spot)
item_rows n = many (word_in k.EndModule) (item (lower n))

pub record ItemsOn (n : ℕ) (start : List Token) (xs : List Item) (rest : List Token) : Type 0 where
  pub taken : List (List ItemTree)
  pub all : map item_of xs ≡ joined taken
  pub rows : Rows (λ (x : List ItemTree). x) (word_in k.EndModule) (item (lower n)) (many (word_in k.EndModule) (item (lower n)) start) [] taken rest

pub items_none : (n : ℕ) (ts : List Token) (xs : List Item) → xs ≡ [] → ItemsOn n ts xs ts
items_none n ts xs e = record { taken = []; all = ap (map item_of) e; rows = rows_none (λ (x : List ItemTree). x) (word_in k.EndModule) (item (lower n)) [] ts refl }

pub items_more : (n : ℕ) (begin : List Token) (xs ys : List Item) (ts rest : List Token) → ItemsOn n begin xs ts → Lacks (word_in k.EndModule) ts → Puts (item (lower n) ts) xs ys rest → ItemsOn n begin ys rest
items_more n begin xs ys ts rest g w p = record {
  taken = g.taken ++ p.added ∷ [];
  all = p.all ∙ ap (λ z. z ++ p.added) g.all ∙ sym (joined_push g.taken p.added);
  rows = rows_more (λ (x : List ItemTree). x) (word_in k.EndModule) (item (lower n)) (eats_items n) (item_rows n begin) [] g.taken (g.taken ++ p.added ∷ []) ts p.added rest g.rows w p.reads refl;
}

pub items_halt : (n : ℕ) (begin : List Token) (xs : List Item) (ts : List Token) (h : Halt) → ItemsOn n begin xs ts → Lacks (word_in k.EndModule) ts → HaltsAs (item (lower n) ts) h → HaltsAs (many (word_in k.EndModule) (item (lower n)) begin) h
items_halt n begin xs ts h g w x = rows_halts (λ (x : List ItemTree). x) (word_in k.EndModule) (item (lower n)) (item_rows n begin) [] g.taken ts h g.rows w x

pub items_end : (n : ℕ) (begin : List Token) (xs : List Item) (ts : List Token) (s : Spot) (rest : List Token) → ItemsOn n begin xs ts → Takes (word_in k.EndModule) s ts rest → ItemsRead (lower n) begin xs rest
items_end n begin xs ts s rest g w = record {
  rows = g.rows.rows;
  spot = s;
  reads = rows_end (λ (x : List ItemTree). x) (word_in k.EndModule) (item (lower n)) (item_rows n begin) [] g.taken s ts rest g.rows w;
  all = g.all ∙ ap joined (sym (map_same g.taken) ∙ g.rows.all);
}

pub ruleset items_steps = (items_none, items_more, items_halt, items_end)

-- modules
pub module_word_halts : (n : ℕ) (ts : List Token) (h : Halt) → Lacks (word_in k.Module) ts → h ≡ Refused false (length ts) → HaltsAs (read_module (lower n) ts) h
module_word_halts n ts h w q = expect_halts (word_in k.Module) (at_module (lower n)) ts h w q

module_begins : (n : ℕ) (ts : List Token) (s : Spot) (a : List Token) → Takes (word_in k.Module) s ts a → read_module (lower n) ts ≡ at_module (lower n) s a
module_begins n ts s a w = next_takes (word_in k.Module) (at_module (lower n)) refuse s ts a w

pub module_name_halts : (n : ℕ) (ts : List Token) (s : Spot) (a : List Token) (h : Halt) → Takes (word_in k.Module) s ts a → Lacks ident_in a → h ≡ Refused false (length a) → HaltsAs (read_module (lower n) ts) h
module_name_halts n ts s a h w v q = halts_by (read_module (lower n) ts) (at_module (lower n) s a) h (module_begins n ts s a w) (expect_halts ident_in (in_module (lower n) s) a h v q)

-- a module up to its name
pub record Entered (n : ℕ) (ts : List Token) (p : Place) (m : List ℕ) (b : List Token) : Type 0 where
  pub goes : read_module (lower n) ts ≡ then_read (header (lower n) b) (behind_header (lower n) p m)

pub module_entered : (n : ℕ) (ts : List Token) (s : Spot) (a : List Token) (m : List ℕ) (t : Spot) (b : List Token) (p : Place) → Takes (word_in k.Module) s ts a → Takes ident_in (record { name = m; spot = t }) a b → p ≡ place_at ts → Entered n ts p m b
module_entered n ts s a m t b p w v q = record {
  goes = module_begins n ts s a w ∙ next_takes ident_in (in_module (lower n) s) refuse (record { name = m; spot = t }) a b v
      ∙ ap (λ z. then_read (header (lower n) b) (behind_header (lower n) z m)) (place_of_word k.Module s ts a w ∙ sym q);
}

pub module_header_halts : (n : ℕ) (ts : List Token) (p : Place) (m : List ℕ) (b : List Token) (h : Halt) → Entered n ts p m b → HaltsAs (header (lower n) b) h → HaltsAs (read_module (lower n) ts) h
module_header_halts n ts p m b h g x = halts_by (read_module (lower n) ts) (then_read (header (lower n) b) (behind_header (lower n) p m)) h g.goes (halts_then (header (lower n) b) (behind_header (lower n) p m) h x)

module_ports : (n : ℕ) (ts : List Token) (p : Place) (m : List ℕ) (b : List Token) (ps : List ParamTree) (c : List Token) → Entered n ts p m b → header (lower n) b ≡ done ps c
    → read_module (lower n) ts ≡ then_read (ports (lower n) c) (behind_ports (lower n) p m ps)
module_ports n ts p m b ps c g x = g.goes ∙ then_goes (header (lower n) b) (behind_header (lower n) p m) ps c x

pub module_ports_halt : (n : ℕ) (ts : List Token) (p : Place) (m : List ℕ) (b : List Token) (ps : List ParamTree) (c : List Token) (h : Halt) → Entered n ts p m b → header (lower n) b ≡ done ps c → HaltsAs (ports (lower n) c) h
    → HaltsAs (read_module (lower n) ts) h
module_ports_halt n ts p m b ps c h g x y = halts_by (read_module (lower n) ts) (then_read (ports (lower n) c) (behind_ports (lower n) p m ps)) h (module_ports n ts p m b ps c g x) (halts_then (ports (lower n) c) (behind_ports (lower n) p m ps) h y)

module_mark : (n : ℕ) (ts : List Token) (p : Place) (m : List ℕ) (b : List Token) (ps : List ParamTree) (c : List Token) (q : Ports) (d : List Token) → Entered n ts p m b → header (lower n) b ≡ done ps c → ports (lower n) c ≡ done q d
    → read_module (lower n) ts ≡ behind_ports (lower n) p m ps q d
module_mark n ts p m b ps c q d g x y = module_ports n ts p m b ps c g x ∙ then_goes (ports (lower n) c) (behind_ports (lower n) p m ps) q d y

pub module_mark_halts : (n : ℕ) (ts : List Token) (p : Place) (m : List ℕ) (b : List Token) (ps : List ParamTree) (c : List Token) (q : Ports) (d : List Token) (h : Halt) → Entered n ts p m b → header (lower n) b ≡ done ps c
    → ports (lower n) c ≡ done q d → Lacks (mark_in Semicolon) d → h ≡ Refused false (length d) → HaltsAs (read_module (lower n) ts) h
module_mark_halts n ts p m b ps c q d h g x y w e = halts_by (read_module (lower n) ts) (behind_ports (lower n) p m ps q d) h (module_mark n ts p m b ps c q d g x y) (expect_halts (mark_in Semicolon) (in_items (lower n) p m ps q) d h w e)

module_items : (n : ℕ) (ts : List Token) (p : Place) (m : List ℕ) (b : List Token) (ps : List ParamTree) (c : List Token) (q : Ports) (d : List Token) (s : Spot) (e : List Token) → Entered n ts p m b → header (lower n) b ≡ done ps c
    → ports (lower n) c ≡ done q d → Takes (mark_in Semicolon) s d e → read_module (lower n) ts ≡ then_read (item_rows n e) (module_end p m ps q)
module_items n ts p m b ps c q d s e g x y w = module_mark n ts p m b ps c q d g x y ∙ next_takes (mark_in Semicolon) (in_items (lower n) p m ps q) refuse s d e w

pub module_items_halt : (n : ℕ) (ts : List Token) (p : Place) (m : List ℕ) (b : List Token) (ps : List ParamTree) (c : List Token) (q : Ports) (d : List Token) (s : Spot) (e : List Token) (h : Halt) → Entered n ts p m b
    → header (lower n) b ≡ done ps c → ports (lower n) c ≡ done q d → Takes (mark_in Semicolon) s d e → HaltsAs (many (word_in k.EndModule) (item (lower n)) e) h → HaltsAs (read_module (lower n) ts) h
module_items_halt n ts p m b ps c q d s e h g x y w z = halts_by (read_module (lower n) ts) (then_read (item_rows n e) (module_end p m ps q)) h (module_items n ts p m b ps c q d s e g x y w) (halts_then (item_rows n e) (module_end p m ps q) h z)

pub module_done : (n : ℕ) (ts : List Token) (p : Place) (m : List ℕ) (b : List Token) (ps : List ParamTree) (c : List Token) (q : Ports) (d : List Token) (s : Spot) (e : List Token) (xs : List Item) (rest : List Token) (r : ModuleTree) (m2 : List ℕ)
    → Entered n ts p m b → header (lower n) b ≡ done ps c → ports (lower n) c ≡ done q d → Takes (mark_in Semicolon) s d e → ItemsRead (lower n) e xs rest → r ≡ module_at p m2 ps q (map item_of xs) → m2 ≡ m → read_module (lower n) ts ≡ done r rest
module_done n ts p m b ps c q d s e xs rest r m2 g x y w z i j = module_items n ts p m b ps c q d s e g x y w ∙ then_goes (item_rows n e) (module_end p m ps q) (z.rows, z.spot) rest z.reads
    ∙ ap (λ t. done t rest) (sym (i ∙ ap (λ t. module_at p t ps q (map item_of xs)) j ∙ ap (module_at p m ps q) z.all))

pub ruleset module_steps = (module_word_halts, module_name_halts, module_entered, module_header_halts, module_ports_halt, module_mark_halts, module_items_halt, module_done, halts_for_memory)

-- sources
abbrev module_rows : ℕ → List Token → Outcome (List ModuleTree × Spot)
module_rows n = many end_in (read_module (lower n))

abbrev pub ModulesOn : ℕ → List Token → List Module → List Token → Type 0
ModulesOn n start xs rest = Rows module_of end_in (read_module (lower n)) (many end_in (read_module (lower n)) start) [] xs rest

pub modules_none : (n : ℕ) (ts : List Token) (xs : List Module) → xs ≡ [] → ModulesOn n ts xs ts
modules_none n ts xs e = rows_none module_of end_in (read_module (lower n)) xs ts e

pub modules_more : (n : ℕ) (begin : List Token) (xs ys : List Module) (ts : List Token) (x : Module) (rest : List Token) → ModulesOn n begin xs ts → Lacks end_in ts → read_module (lower n) ts ≡ done (module_of x) rest → ys ≡ xs ++ x ∷ [] → ModulesOn n begin ys rest
modules_more n begin xs ys ts x rest g w e q = rows_more module_of end_in (read_module (lower n)) (eats_modules n) (module_rows n begin) [] xs ys ts x rest g w e q

pub source_halts : (n : ℕ) (begin : List Token) (xs : List Module) (ts : List Token) (h : Halt) → ModulesOn n begin xs ts → Lacks end_in ts → HaltsAs (read_module (lower n) ts) h → HaltsAs (read_source n begin) h
unfolding read_source
source_halts n begin xs ts h g w x = halts_then (module_rows n begin) source_end h (rows_halts module_of end_in (read_module (lower n)) (module_rows n begin) [] xs ts h g w x)

pub source_done : (n : ℕ) (begin : List Token) (xs : List Module) (ts : List Token) (d : List ModuleTree) → ModulesOn n begin xs ts → (s : Spot) × (rest : List Token) × Takes end_in s ts rest → d ≡ map module_of xs
    → (rest : List Token) × (read_source n begin ≡ done d rest)
unfolding read_source
source_done n begin xs ts d g w q = (
  w.1,
  then_goes (module_rows n begin) source_end (g.rows, w.0) w.1 (rows_end module_of end_in (read_module (lower n)) (module_rows n begin) [] xs w.0 ts w.1 g w.2) ∙ ap (λ z. done z w.1) (sym (q ∙ g.all)),
)

pub ruleset source_steps = (modules_none, modules_more, source_halts, source_done, halts_for_memory)
