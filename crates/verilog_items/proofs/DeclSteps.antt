-- The steps of the reader of declarations, parameters and assignments: one for each way out of a function of the parser.
use Rattle.std.proofs.Common.{◌≡◌, ℕ, Bool, true, false, List, [], ◌∷◌, ◌++◌, map, length, Option, Some, None, sym, ap, ◌∙◌}
use Rattle.cdc_base.specs.declared.fault.Place.{Place}
use Rattle.cdc_base.specs.declared.words.Keyword.{Keyword}
use Rattle.cdc_base.specs.declared.words.Keyword.TheVariants as k
use Rattle.verilog_ast.specs.declared.DeclKind.{DeclKind}
use Rattle.verilog_ast.specs.declared.DeclKind.TheVariants.{Input, Output, OutputReg, Wire, Reg}
use Rattle.verilog_ast.specs.declared.Item.{Item}
use Rattle.verilog_exprs.specs.declared.halt.Halt.{Halt}
use Rattle.verilog_exprs.specs.declared.halt.Halt.TheVariants.{Refused}
use Rattle.verilog_exprs.specs.Halts.{HaltsAs}
use Rattle.verilog_exprs.specs.Next.{Takes, Lacks}
use Rattle.verilog_exprs.proofs.Steps.{halts_then, halts_by, halts_for_memory, next_takes, next_lacks, expect_halts}
use Rattle.verilog_exprs.proofs.Steps.{then_done as then_goes}
use Rattle.verilog_items.specs.Forms.{place_at, Puts, NoDirection, NoKind, NoParameter, vars_at, params_at, drives_at, assigns_at}
use Rattle.verilog_items.proofs.PushSteps.{Pushed, pushed_first, pushed_more, pushed_halts, pushed_open, pushed_end, reached_first_halts}
use Rattle.verilog_lex.specs.declared.token.Token.{Token}
use Rattle.verilog_lex.specs.declared.marks.MarkKind.TheVariants.{BracketOpen, BracketClose, Comma, Colon, Semicolon, Equals}
use Rattle.verilog_reading.specs.ExprTree.{ExprTree, TargetTree}
use Rattle.verilog_reading.specs.ItemReader.{listed, then_done, right_end, in_right, at_right, in_range, maybe_range, short_of, in_long, long_pdecl, pdecl, init, set_to, at_setting, setting, maybe_wire, output, direction, var_of, in_var, var, drive, at_driven, driven, maybe_delay, delay_of, vars, decl_items, decls, in_input, in_output, param_items, in_params, assign_items, in_assigns, gate_in, in_gates, in_instances, in_always, in_initial, item}
use Rattle.verilog_reading.specs.ItemReading.{Var, Setting, Pdecl, Driven, item_at, decl_item, param_item, assign_item}
use Rattle.verilog_reading.specs.Lexemes.{Spot, mark_in, word_in, ident_in}
use Rattle.verilog_reading.specs.Outcome.{Outcome, done, then_read, next, expect, refuse}
use Rattle.verilog_reading.specs.Reader.{readers}
use Rattle.verilog_reading.specs.SourceTree.{Bounds, ParamTree, DeclTree, ItemTree, item_of, param, decl, assign}
use Rattle.verilog_reading.specs.StmtReader.{Lower, lower}
use Rattle.verilog_reading.specs.TargetReader.{read_target}
use Rattle.verilog_reading.proofs.ItemLocal.{local_var, local_setting, local_driven}
use Rattle.verilog_reading.proofs.StmtLocal.{local_lower}
use Rattle.verilog_reading.proofs.Tests.{word_is}
use Rattle.verilog_stmts.proofs.ListSteps.{map_push}

-- `[range]`
pub range_none : (n : ℕ) (ts : List Token) → Lacks (mark_in BracketOpen) ts → maybe_range (lower n) ts ≡ done None ts
range_none n ts w = next_lacks (mark_in BracketOpen) (in_range (lower n)) (done None) ts w

range_enters : (n : ℕ) (ts : List Token) (s : Spot) (inner : List Token) → Takes (mark_in BracketOpen) s ts inner → maybe_range (lower n) ts ≡ then_read ((readers n).expr inner) (at_right (lower n))
range_enters n ts s inner w = next_takes (mark_in BracketOpen) (in_range (lower n)) (done None) s ts inner w

pub range_left_halts : (n : ℕ) (ts : List Token) (s : Spot) (inner : List Token) (h : Halt) → Takes (mark_in BracketOpen) s ts inner → HaltsAs ((readers n).expr inner) h → HaltsAs (maybe_range (lower n) ts) h
range_left_halts n ts s inner h w x = halts_by (maybe_range (lower n) ts) (then_read ((readers n).expr inner) (at_right (lower n))) h (range_enters n ts s inner w) (halts_then ((readers n).expr inner) (at_right (lower n)) h x)

range_colon : (n : ℕ) (ts : List Token) (s : Spot) (inner : List Token) (a : ExprTree) (mid : List Token) → Takes (mark_in BracketOpen) s ts inner → (readers n).expr inner ≡ done a mid → maybe_range (lower n) ts ≡ at_right (lower n) a mid
range_colon n ts s inner a mid w e = range_enters n ts s inner w ∙ then_goes ((readers n).expr inner) (at_right (lower n)) a mid e

pub range_colon_halts : (n : ℕ) (ts : List Token) (s : Spot) (inner : List Token) (a : ExprTree) (mid : List Token) (h : Halt) → Takes (mark_in BracketOpen) s ts inner → (readers n).expr inner ≡ done a mid → Lacks (mark_in Colon) mid
    → h ≡ Refused false (length mid) → HaltsAs (maybe_range (lower n) ts) h
range_colon_halts n ts s inner a mid h w e v q = halts_by (maybe_range (lower n) ts) (at_right (lower n) a mid) h (range_colon n ts s inner a mid w e) (expect_halts (mark_in Colon) (in_right (lower n) a) mid h v q)

range_right : (n : ℕ) (ts : List Token) (s : Spot) (inner : List Token) (a : ExprTree) (mid : List Token) (t : Spot) (last : List Token) → Takes (mark_in BracketOpen) s ts inner → (readers n).expr inner ≡ done a mid
    → Takes (mark_in Colon) t mid last → maybe_range (lower n) ts ≡ then_read ((readers n).expr last) (right_end a)
range_right n ts s inner a mid t last w e v = range_colon n ts s inner a mid w e ∙ next_takes (mark_in Colon) (in_right (lower n) a) refuse t mid last v

pub range_right_halts : (n : ℕ) (ts : List Token) (s : Spot) (inner : List Token) (a : ExprTree) (mid : List Token) (t : Spot) (last : List Token) (h : Halt) → Takes (mark_in BracketOpen) s ts inner → (readers n).expr inner ≡ done a mid
    → Takes (mark_in Colon) t mid last → HaltsAs ((readers n).expr last) h → HaltsAs (maybe_range (lower n) ts) h
range_right_halts n ts s inner a mid t last h w e v x = halts_by (maybe_range (lower n) ts) (then_read ((readers n).expr last) (right_end a)) h (range_right n ts s inner a mid t last w e v) (halts_then ((readers n).expr last) (right_end a) h x)

range_ends : (n : ℕ) (ts : List Token) (s : Spot) (inner : List Token) (a : ExprTree) (mid : List Token) (t : Spot) (last : List Token) (b : ExprTree) (end : List Token) → Takes (mark_in BracketOpen) s ts inner
    → (readers n).expr inner ≡ done a mid → Takes (mark_in Colon) t mid last → (readers n).expr last ≡ done b end → maybe_range (lower n) ts ≡ right_end a b end
range_ends n ts s inner a mid t last b end w e v f = range_right n ts s inner a mid t last w e v ∙ then_goes ((readers n).expr last) (right_end a) b end f

pub range_open : (n : ℕ) (ts : List Token) (s : Spot) (inner : List Token) (a : ExprTree) (mid : List Token) (t : Spot) (last : List Token) (b : ExprTree) (end : List Token) (h : Halt) → Takes (mark_in BracketOpen) s ts inner
    → (readers n).expr inner ≡ done a mid → Takes (mark_in Colon) t mid last → (readers n).expr last ≡ done b end → Lacks (mark_in BracketClose) end → h ≡ Refused false (length end) → HaltsAs (maybe_range (lower n) ts) h
range_open n ts s inner a mid t last b end h w e v f x q = halts_by (maybe_range (lower n) ts) (right_end a b end) h (range_ends n ts s inner a mid t last b end w e v f)
    (expect_halts (mark_in BracketClose) (λ _. done (Some (record { left = a; right = b }))) end h x q)

pub range_done : (n : ℕ) (ts : List Token) (s : Spot) (inner : List Token) (a : ExprTree) (mid : List Token) (t : Spot) (last : List Token) (b : ExprTree) (end : List Token) (u : Spot) (rest : List Token) (d : Bounds)
    → Takes (mark_in BracketOpen) s ts inner → (readers n).expr inner ≡ done a mid → Takes (mark_in Colon) t mid last → (readers n).expr last ≡ done b end → Takes (mark_in BracketClose) u end rest
    → d ≡ record { left = a; right = b } → maybe_range (lower n) ts ≡ done (Some d) rest
range_done n ts s inner a mid t last b end u rest d w e v f x q = range_ends n ts s inner a mid t last b end w e v f
    ∙ next_takes (mark_in BracketClose) (λ _. done (Some (record { left = a; right = b }))) refuse u end rest x ∙ ap (λ z. done (Some z) rest) (sym q)

pub ruleset range_steps = (range_none, range_left_halts, range_colon_halts, range_right_halts, range_open, range_done)

-- `[ = expr ]`
pub init_none : (n : ℕ) (ts : List Token) → Lacks (mark_in Equals) ts → init (lower n) ts ≡ done None ts
init_none n ts w = next_lacks (mark_in Equals) (λ _. then_done Some (readers n).expr) (done None) ts w

init_enters : (n : ℕ) (ts : List Token) (s : Spot) (inner : List Token) → Takes (mark_in Equals) s ts inner → init (lower n) ts ≡ then_read ((readers n).expr inner) (λ a. done (Some a))
init_enters n ts s inner w = next_takes (mark_in Equals) (λ _. then_done Some (readers n).expr) (done None) s ts inner w

pub init_halts : (n : ℕ) (ts : List Token) (s : Spot) (inner : List Token) (h : Halt) → Takes (mark_in Equals) s ts inner → HaltsAs ((readers n).expr inner) h → HaltsAs (init (lower n) ts) h
init_halts n ts s inner h w x = halts_by (init (lower n) ts) (then_read ((readers n).expr inner) (λ a. done (Some a))) h (init_enters n ts s inner w) (halts_then ((readers n).expr inner) (λ a. done (Some a)) h x)

pub init_done : (n : ℕ) (ts : List Token) (s : Spot) (inner : List Token) (a : ExprTree) (rest : List Token) → Takes (mark_in Equals) s ts inner → (readers n).expr inner ≡ done a rest → init (lower n) ts ≡ done (Some a) rest
init_done n ts s inner a rest w e = init_enters n ts s inner w ∙ then_goes ((readers n).expr inner) (λ a. done (Some a)) a rest e

pub ruleset init_steps = (init_none, init_halts, init_done)

-- directions and kinds
abbrev pub GoesPastWire : List Token → List Token → Type 0
GoesPastWire ts rest = (kind : DeclKind) → maybe_wire kind ts ≡ done kind rest

pub wire_taken : (ts : List Token) (s : Spot) (rest : List Token) → Takes (word_in k.Wire) s ts rest → GoesPastWire ts rest
wire_taken ts s rest w kind = next_takes (word_in k.Wire) (λ _. done kind) (done kind) s ts rest w

pub wire_absent : (ts : List Token) → Lacks (word_in k.Wire) ts → GoesPastWire ts ts
wire_absent ts w kind = next_lacks (word_in k.Wire) (λ _. done kind) (done kind) ts w

pub ruleset wire_steps = (wire_taken, wire_absent)

pub output_reg : (ts : List Token) (s : Spot) (rest : List Token) → Takes (word_in k.Reg) s ts rest → output ts ≡ done OutputReg rest
output_reg ts s rest w = next_takes (word_in k.Reg) (λ _. done OutputReg) (maybe_wire Output) s ts rest w

pub output_plain : (ts rest : List Token) → Lacks (word_in k.Reg) ts → GoesPastWire ts rest → output ts ≡ done Output rest
output_plain ts rest w e = next_lacks (word_in k.Reg) (λ _. done OutputReg) (maybe_wire Output) ts w ∙ e Output

pub ruleset output_steps = (output_reg, output_plain)

pub direction_input : (ts : List Token) (s : Spot) (inner rest : List Token) → Takes (word_in k.Input) s ts inner → GoesPastWire inner rest → direction ts ≡ done Input rest
direction_input ts s inner rest w e = next_takes (word_in k.Input) (λ _. maybe_wire Input) (expect (word_in k.Output) (λ _. output)) s ts inner w ∙ e Input

pub direction_output : (ts : List Token) (s : Spot) (inner : List Token) (kind : DeclKind) (rest : List Token) → Lacks (word_in k.Input) ts → Takes (word_in k.Output) s ts inner → output inner ≡ done kind rest → direction ts ≡ done kind rest
direction_output ts s inner kind rest v w e = next_lacks (word_in k.Input) (λ _. maybe_wire Input) (expect (word_in k.Output) (λ _. output)) ts v ∙ next_takes (word_in k.Output) (λ _. output) refuse s ts inner w ∙ e

pub place_of_word : (w : Keyword) (s : Spot) (ts rest : List Token) → Takes (word_in w) s ts rest → s.place ≡ place_at ts
place_of_word w s ts rest x = sym (ap place_at x.is ∙ ap (λ t. t.place) (word_is w x.token s x.finds))

-- the forms of an item, each behind those that are tried before it
abbrev pub behind_always : Lower → List Token → Outcome (List ItemTree)
behind_always l = expect (word_in k.Initial) (in_initial l)

abbrev pub behind_names : Lower → List Token → Outcome (List ItemTree)
behind_names l = next (word_in k.Always) (in_always l) (behind_always l)

abbrev pub behind_gates : Lower → List Token → Outcome (List ItemTree)
behind_gates l = next ident_in (in_instances l) (behind_names l)

abbrev pub behind_assigns : Lower → List Token → Outcome (List ItemTree)
behind_assigns l = next gate_in (in_gates l) (behind_gates l)

abbrev pub behind_params : Lower → List Token → Outcome (List ItemTree)
behind_params l = next (word_in k.Assign) (in_assigns l) (behind_assigns l)

abbrev pub behind_parameter : Lower → List Token → Outcome (List ItemTree)
behind_parameter l = next (word_in k.LocalParam) (in_params l true) (behind_params l)

abbrev pub behind_kinds : Lower → List Token → Outcome (List ItemTree)
behind_kinds l = next (word_in k.Parameter) (in_params l false) (behind_parameter l)

abbrev behind_wire : Lower → List Token → Outcome (List ItemTree)
behind_wire l = next (word_in k.Reg) (λ p. decls l p.place Reg) (behind_kinds l)

abbrev behind_directions : Lower → List Token → Outcome (List ItemTree)
behind_directions l = next (word_in k.Wire) (λ p. decls l p.place Wire) (behind_wire l)

abbrev behind_input : Lower → List Token → Outcome (List ItemTree)
behind_input l = next (word_in k.Output) (in_output l) (behind_directions l)

abbrev pub GoesToDecls : DeclKind → List Token → List Token → Type 0
GoesToDecls kind ts rest = (l : Lower) → item l ts ≡ decls l (place_at ts) kind rest

pub item_input : (ts : List Token) (s : Spot) (inner rest : List Token) → Takes (word_in k.Input) s ts inner → GoesPastWire inner rest → GoesToDecls Input ts rest
item_input ts s inner rest w e l = next_takes (word_in k.Input) (in_input l) (behind_input l) s ts inner w ∙ then_goes (maybe_wire Input inner) (decls l s.place) Input rest (e Input)
    ∙ ap (λ p. decls l p Input rest) (place_of_word k.Input s ts inner w)

pub item_output : (ts : List Token) (s : Spot) (inner : List Token) (kind : DeclKind) (rest : List Token) → Lacks (word_in k.Input) ts → Takes (word_in k.Output) s ts inner → output inner ≡ done kind rest → GoesToDecls kind ts rest
item_output ts s inner kind rest v w e l = next_lacks (word_in k.Input) (in_input l) (behind_input l) ts v ∙ next_takes (word_in k.Output) (in_output l) (behind_directions l) s ts inner w
    ∙ then_goes (output inner) (decls l s.place) kind rest e ∙ ap (λ p. decls l p kind rest) (place_of_word k.Output s ts inner w)

pub no_direction : (ts : List Token) → Lacks (word_in k.Input) ts → Lacks (word_in k.Output) ts → NoDirection ts
no_direction ts v w = record { input = v; output = w }

pub ruleset direction_steps = (direction_input, direction_output, item_input, item_output, no_direction)

past_directions : (ts : List Token) → NoDirection ts → (l : Lower) → item l ts ≡ behind_directions l ts
past_directions ts v l = next_lacks (word_in k.Input) (in_input l) (behind_input l) ts v.input ∙ next_lacks (word_in k.Output) (in_output l) (behind_directions l) ts v.output

pub item_wire : (ts : List Token) (s : Spot) (rest : List Token) → NoDirection ts → Takes (word_in k.Wire) s ts rest → GoesToDecls Wire ts rest
item_wire ts s rest v w l = past_directions ts v l ∙ next_takes (word_in k.Wire) (λ p. decls l p.place Wire) (behind_wire l) s ts rest w ∙ ap (λ p. decls l p Wire rest) (place_of_word k.Wire s ts rest w)

past_wire : (ts : List Token) → NoDirection ts → Lacks (word_in k.Wire) ts → (l : Lower) → item l ts ≡ behind_wire l ts
past_wire ts v w l = past_directions ts v l ∙ next_lacks (word_in k.Wire) (λ p. decls l p.place Wire) (behind_wire l) ts w

pub item_reg : (ts : List Token) (s : Spot) (rest : List Token) → NoDirection ts → Lacks (word_in k.Wire) ts → Takes (word_in k.Reg) s ts rest → GoesToDecls Reg ts rest
item_reg ts s rest u v w l = past_wire ts u v l ∙ next_takes (word_in k.Reg) (λ p. decls l p.place Reg) (behind_kinds l) s ts rest w ∙ ap (λ p. decls l p Reg rest) (place_of_word k.Reg s ts rest w)

pub no_kind : (ts : List Token) → NoDirection ts → Lacks (word_in k.Wire) ts → Lacks (word_in k.Reg) ts → NoKind ts
no_kind ts u v w = record { direction = u; wire = v; reg = w }

pub ruleset kind_steps = (item_wire, item_reg, no_kind)

pub past_kinds : (ts : List Token) → NoKind ts → (l : Lower) → item l ts ≡ behind_kinds l ts
past_kinds ts v l = past_wire ts v.direction v.wire l ∙ next_lacks (word_in k.Reg) (λ p. decls l p.place Reg) (behind_kinds l) ts v.reg

-- parameters
abbrev pub GoesToParams : Bool → List Token → List Token → Type 0
GoesToParams local ts rest = NoKind ts → (l : Lower) → item l ts ≡ params_at l local (place_at ts) rest

pub item_parameter : (ts : List Token) (s : Spot) (rest : List Token) → Takes (word_in k.Parameter) s ts rest → GoesToParams false ts rest
item_parameter ts s rest w v l = past_kinds ts v l ∙ next_takes (word_in k.Parameter) (in_params l false) (behind_parameter l) s ts rest w ∙ ap (λ p. params_at l false p rest) (place_of_word k.Parameter s ts rest w)

pub item_local : (ts : List Token) (s : Spot) (rest : List Token) → Lacks (word_in k.Parameter) ts → Takes (word_in k.LocalParam) s ts rest → GoesToParams true ts rest
item_local ts s rest u w v l = past_kinds ts v l ∙ next_lacks (word_in k.Parameter) (in_params l false) (behind_parameter l) ts u ∙ next_takes (word_in k.LocalParam) (in_params l true) (behind_params l) s ts rest w
    ∙ ap (λ p. params_at l true p rest) (place_of_word k.LocalParam s ts rest w)

pub no_parameter : (ts : List Token) → Lacks (word_in k.Parameter) ts → Lacks (word_in k.LocalParam) ts → NoParameter ts
no_parameter ts v w = record { parameter = v; local = w }

abbrev short_pdecl : Lower → List Token → Outcome Pdecl
short_pdecl l = then_done short_of (setting l)

abbrev local_pdecl : Lower → (List Token → Outcome Pdecl) → List Token → Outcome Pdecl
local_pdecl l other = next (word_in k.LocalParam) (λ _. in_long l true) other

abbrev pub GoesToLong : (Lower → List Token → Outcome Pdecl) → Bool → List Token → List Token → Type 0
GoesToLong r local ts rest = (l : Lower) → r l ts ≡ in_long l local rest

pub long_parameter : (ts : List Token) (s : Spot) (rest : List Token) → Takes (word_in k.Parameter) s ts rest → GoesToLong long_pdecl false ts rest
long_parameter ts s rest w l = next_takes (word_in k.Parameter) (λ _. in_long l false) (local_pdecl l refuse) s ts rest w

pub long_local : (ts : List Token) (s : Spot) (rest : List Token) → Lacks (word_in k.Parameter) ts → Takes (word_in k.LocalParam) s ts rest → GoesToLong long_pdecl true ts rest
long_local ts s rest v w l = next_lacks (word_in k.Parameter) (λ _. in_long l false) (local_pdecl l refuse) ts v ∙ next_takes (word_in k.LocalParam) (λ _. in_long l true) refuse s ts rest w

pub entry_parameter : (ts : List Token) (s : Spot) (rest : List Token) → Takes (word_in k.Parameter) s ts rest → GoesToLong pdecl false ts rest
entry_parameter ts s rest w l = next_takes (word_in k.Parameter) (λ _. in_long l false) (local_pdecl l (short_pdecl l)) s ts rest w

pub entry_local : (ts : List Token) (s : Spot) (rest : List Token) → Lacks (word_in k.Parameter) ts → Takes (word_in k.LocalParam) s ts rest → GoesToLong pdecl true ts rest
entry_local ts s rest v w l = next_lacks (word_in k.Parameter) (λ _. in_long l false) (local_pdecl l (short_pdecl l)) ts v ∙ next_takes (word_in k.LocalParam) (λ _. in_long l true) (short_pdecl l) s ts rest w

pub ruleset parameter_steps = (item_parameter, item_local, no_parameter, long_parameter, long_local, entry_parameter, entry_local)

pub past_parameters : (ts : List Token) → NoKind ts → NoParameter ts → (l : Lower) → item l ts ≡ behind_params l ts
past_parameters ts v w l = past_kinds ts v l ∙ next_lacks (word_in k.Parameter) (in_params l false) (behind_parameter l) ts w.parameter ∙ next_lacks (word_in k.LocalParam) (in_params l true) (behind_params l) ts w.local

-- lists of items
pub list_first_halts : {A : Type 0} (entry : List Token → Outcome A) (f : List A → List ItemTree) (ts : List Token) (h : Halt) → HaltsAs (entry ts) h → HaltsAs (then_done f (listed Semicolon entry) ts) h
list_first_halts entry f ts h x = halts_then (listed Semicolon entry ts) (λ a. done (f a)) h (reached_first_halts (mark_in Comma) Semicolon entry entry ts h x)

pub list_halts : {A : Type 0} (entry : List Token → Outcome A) (f : List A → List ItemTree) (ts : List Token) (h : Halt) → HaltsAs (listed Semicolon entry ts) h → HaltsAs (then_done f (listed Semicolon entry) ts) h
list_halts entry f ts h x = halts_then (listed Semicolon entry ts) (λ a. done (f a)) h x

pub list_puts : {A : Type 0} (entry : List Token → Outcome A) (make : A → ItemTree) (ts : List Token) (old new : List Item) (rest : List Token)
    → (ls : List A) × (listed Semicolon entry ts ≡ done ls rest) × (map item_of new ≡ map item_of old ++ map make ls) → Puts (then_done (map make) (listed Semicolon entry) ts) old new rest
list_puts entry make ts old new rest p = record { added = map make p.0; reads = then_goes (listed Semicolon entry ts) (λ a. done (map make a)) p.0 rest p.1; all = p.2 }

pub puts_by : (o p : Outcome (List ItemTree)) (old new : List Item) (rest : List Token) → o ≡ p → Puts p old new rest → Puts o old new rest
puts_by o p old new rest e w = record { added = w.added; reads = e ∙ w.reads; all = w.all }

-- declarations
abbrev pub DeclsOn : ℕ → Place → DeclKind → Option Bounds → List Token → List Item → List Item → List Token → Type 0
DeclsOn n p kind r start old new rest = Pushed item_of (decl_item p kind r) (mark_in Comma) Semicolon (var (lower n)) (var (lower n)) (listed Semicolon (var (lower n)) start) old new rest

pub decls_range_halts : (n : ℕ) (p : Place) (kind : DeclKind) (ts : List Token) (h : Halt) → HaltsAs (maybe_range (lower n) ts) h → HaltsAs (decls (lower n) p kind ts) h
decls_range_halts n p kind ts h x = halts_then (maybe_range (lower n) ts) (λ r. then_done (decl_items p kind r) (vars (lower n) kind)) h x

decls_begin : (n : ℕ) (p : Place) (kind : DeclKind) (ts : List Token) (r : Option Bounds) (mid : List Token) → maybe_range (lower n) ts ≡ done r mid → decls (lower n) p kind ts ≡ then_done (decl_items p kind r) (vars (lower n) kind) mid
decls_begin n p kind ts r mid e = then_goes (maybe_range (lower n) ts) (λ r. then_done (decl_items p kind r) (vars (lower n) kind)) r mid e

pub decls_delay_halts : (n : ℕ) (p : Place) (kind : DeclKind) (ts : List Token) (r : Option Bounds) (mid : List Token) (h : Halt) → maybe_range (lower n) ts ≡ done r mid → HaltsAs (delay_of kind mid) h → HaltsAs (decls (lower n) p kind ts) h
decls_delay_halts n p kind ts r mid h e x = halts_by (decls (lower n) p kind ts) (then_done (decl_items p kind r) (vars (lower n) kind) mid) h (decls_begin n p kind ts r mid e)
    (halts_then (vars (lower n) kind mid) (λ a. done (decl_items p kind r a)) h (halts_then (delay_of kind mid) (λ _. listed Semicolon (var (lower n))) h x))

pub decls_are : (n : ℕ) (p : Place) (kind : DeclKind) (ts : List Token) (r : Option Bounds) (mid last : List Token) → maybe_range (lower n) ts ≡ done r mid → delay_of kind mid ≡ done tt last → decls (lower n) p kind ts ≡ vars_at (lower n) p kind r last
decls_are n p kind ts r mid last e f = decls_begin n p kind ts r mid e ∙ ap (λ o. then_read o (λ a. done (decl_items p kind r a))) (then_goes (delay_of kind mid) (λ _. listed Semicolon (var (lower n))) tt last f)

pub vars_first_halts : (n : ℕ) (p : Place) (kind : DeclKind) (r : Option Bounds) (ts : List Token) (h : Halt) → HaltsAs (var (lower n) ts) h → HaltsAs (vars_at (lower n) p kind r ts) h
vars_first_halts n p kind r ts h x = list_first_halts (var (lower n)) (decl_items p kind r) ts h x

pub vars_first : (n : ℕ) (p : Place) (kind : DeclKind) (r : Option Bounds) (ts rest : List Token) (old new : List Item)
    → (x : Var) × (var (lower n) ts ≡ done x rest) × (map item_of new ≡ map item_of old ++ decl_item p kind r x ∷ []) → DeclsOn n p kind r ts old new rest
vars_first n p kind r ts rest old new x = pushed_first item_of (decl_item p kind r) (mark_in Comma) Semicolon (var (lower n)) (var (lower n)) ts x.0 rest old new x.1 x.2

pub vars_more : (n : ℕ) (p : Place) (kind : DeclKind) (r : Option Bounds) (begin : List Token) (old xs ys : List Item) (s : Spot) (ts after rest : List Token) → DeclsOn n p kind r begin old xs ts
    → Takes (mark_in Comma) s ts after → (x : Var) × (var (lower n) after ≡ done x rest) × (map item_of ys ≡ map item_of xs ++ decl_item p kind r x ∷ []) → DeclsOn n p kind r begin old ys rest
vars_more n p kind r begin old xs ys s ts after rest g w x = pushed_more item_of (decl_item p kind r) (mark_in Comma) Semicolon (var (lower n)) (var (lower n)) (local_var (lower n) (local_lower n))
    (listed Semicolon (var (lower n)) begin) old xs ys s ts after x.0 rest g w x.1 x.2

pub vars_stop : (n : ℕ) (p : Place) (kind : DeclKind) (r : Option Bounds) (begin : List Token) (old xs : List Item) (s : Spot) (ts after : List Token) (h : Halt) → DeclsOn n p kind r begin old xs ts → Takes (mark_in Comma) s ts after
    → HaltsAs (var (lower n) after) h → HaltsAs (vars_at (lower n) p kind r begin) h
vars_stop n p kind r begin old xs s ts after h g w x = list_halts (var (lower n)) (decl_items p kind r) begin h
    (pushed_halts item_of (decl_item p kind r) (mark_in Comma) Semicolon (var (lower n)) (var (lower n)) (listed Semicolon (var (lower n)) begin) old xs s ts after h g w x)

pub vars_open : (n : ℕ) (p : Place) (kind : DeclKind) (r : Option Bounds) (begin : List Token) (old xs : List Item) (ts : List Token) (h : Halt) → DeclsOn n p kind r begin old xs ts → Lacks (mark_in Comma) ts → Lacks (mark_in Semicolon) ts
    → h ≡ Refused false (length ts) → HaltsAs (vars_at (lower n) p kind r begin) h
vars_open n p kind r begin old xs ts h g v w q = list_halts (var (lower n)) (decl_items p kind r) begin h
    (pushed_open item_of (decl_item p kind r) (mark_in Comma) Semicolon (var (lower n)) (var (lower n)) (listed Semicolon (var (lower n)) begin) old xs ts h g v w q)

pub vars_end : (n : ℕ) (p : Place) (kind : DeclKind) (r : Option Bounds) (begin : List Token) (old xs : List Item) (ts : List Token) (s : Spot) (rest : List Token) → DeclsOn n p kind r begin old xs ts → Lacks (mark_in Comma) ts
    → Takes (mark_in Semicolon) s ts rest → Puts (vars_at (lower n) p kind r begin) old xs rest
vars_end n p kind r begin old xs ts s rest g v w = list_puts (var (lower n)) (decl_item p kind r) begin old xs rest
    (pushed_end item_of (decl_item p kind r) (mark_in Comma) Semicolon (var (lower n)) (var (lower n)) (listed Semicolon (var (lower n)) begin) old xs ts s rest g v w)

-- `var`
pub var_refused : (n : ℕ) (ts : List Token) (h : Halt) → Lacks ident_in ts → h ≡ Refused false (length ts) → HaltsAs (var (lower n) ts) h
var_refused n ts h w q = expect_halts ident_in (in_var (lower n)) ts h w q

var_begins : (n : ℕ) (ts : List Token) (m : List ℕ) (s : Spot) (mid : List Token) → Takes ident_in (record { name = m; spot = s }) ts mid → var (lower n) ts ≡ then_read (maybe_range (lower n) mid) (λ r. then_done (var_of m r) (init (lower n)))
var_begins n ts m s mid w = next_takes ident_in (in_var (lower n)) refuse (record { name = m; spot = s }) ts mid w

pub var_array_halts : (n : ℕ) (ts : List Token) (m : List ℕ) (s : Spot) (mid : List Token) (h : Halt) → Takes ident_in (record { name = m; spot = s }) ts mid → HaltsAs (maybe_range (lower n) mid) h → HaltsAs (var (lower n) ts) h
var_array_halts n ts m s mid h w x = halts_by (var (lower n) ts) (then_read (maybe_range (lower n) mid) (λ r. then_done (var_of m r) (init (lower n)))) h (var_begins n ts m s mid w)
    (halts_then (maybe_range (lower n) mid) (λ r. then_done (var_of m r) (init (lower n))) h x)

var_init : (n : ℕ) (ts : List Token) (m : List ℕ) (s : Spot) (mid : List Token) (r : Option Bounds) (last : List Token) → Takes ident_in (record { name = m; spot = s }) ts mid → maybe_range (lower n) mid ≡ done r last
    → var (lower n) ts ≡ then_read (init (lower n) last) (λ e. done (var_of m r e))
var_init n ts m s mid r last w e = var_begins n ts m s mid w ∙ then_goes (maybe_range (lower n) mid) (λ r. then_done (var_of m r) (init (lower n))) r last e

pub var_init_halts : (n : ℕ) (ts : List Token) (m : List ℕ) (s : Spot) (mid : List Token) (r : Option Bounds) (last : List Token) (h : Halt) → Takes ident_in (record { name = m; spot = s }) ts mid → maybe_range (lower n) mid ≡ done r last
    → HaltsAs (init (lower n) last) h → HaltsAs (var (lower n) ts) h
var_init_halts n ts m s mid r last h w e x = halts_by (var (lower n) ts) (then_read (init (lower n) last) (λ e. done (var_of m r e))) h (var_init n ts m s mid r last w e) (halts_then (init (lower n) last) (λ e. done (var_of m r e)) h x)

pub var_read : (n : ℕ) (p : Place) (kind : DeclKind) (g : Option Bounds) (ts : List Token) (m : List ℕ) (s : Spot) (mid : List Token) (r : Option Bounds) (last : List Token) (i : Option ExprTree) (rest : List Token) (old new : List Item) (it : Item)
    (d : DeclTree) (q : Option Bounds) (c : List ℕ) → Takes ident_in (record { name = m; spot = s }) ts mid → maybe_range (lower n) mid ≡ done r last → init (lower n) last ≡ done i rest → new ≡ old ++ it ∷ [] → item_of it ≡ item_at p (decl d)
    → d ≡ record { kind = kind; range = q; name = c; init = i; array = r } → q ≡ g → c ≡ m
    → (x : Var) × (var (lower n) ts ≡ done x rest) × (map item_of new ≡ map item_of old ++ decl_item p kind g x ∷ [])
var_read n p kind g ts m s mid r last i rest old new it d q c w e f a b z y x = (
  var_of m r i,
  var_init n ts m s mid r last w e ∙ then_goes (init (lower n) last) (λ e. done (var_of m r e)) i rest f,
  ap (map item_of) a ∙ map_push item_of old it ∙ ap (λ t. map item_of old ++ t ∷ []) (b ∙ ap (λ t. item_at p (decl t)) (z ∙ ap (λ t. record { kind = kind; range = t; name = c; init = i; array = r }) y ∙ ap (λ t. record { kind = kind; range = g; name = t; init = i; array = r }) x)),
)

pub ruleset var_steps = (var_refused, var_array_halts, var_init_halts, var_read, halts_for_memory)

-- `id = expr`
pub setting_refused : (n : ℕ) (ts : List Token) (h : Halt) → Lacks ident_in ts → h ≡ Refused false (length ts) → HaltsAs (setting (lower n) ts) h
setting_refused n ts h w q = expect_halts ident_in (at_setting (lower n)) ts h w q

abbrev set_value : ℕ → List ℕ → Spot → List Token → Outcome Setting
set_value n m _ = then_done (set_to m) (readers n).expr

setting_begins : (n : ℕ) (ts : List Token) (m : List ℕ) (s : Spot) (mid : List Token) → Takes ident_in (record { name = m; spot = s }) ts mid → setting (lower n) ts ≡ expect (mark_in Equals) (set_value n m) mid
setting_begins n ts m s mid w = next_takes ident_in (at_setting (lower n)) refuse (record { name = m; spot = s }) ts mid w

pub setting_equals_halts : (n : ℕ) (ts : List Token) (m : List ℕ) (s : Spot) (mid : List Token) (h : Halt) → Takes ident_in (record { name = m; spot = s }) ts mid → Lacks (mark_in Equals) mid → h ≡ Refused false (length mid)
    → HaltsAs (setting (lower n) ts) h
setting_equals_halts n ts m s mid h w v q = halts_by (setting (lower n) ts) (expect (mark_in Equals) (set_value n m) mid) h (setting_begins n ts m s mid w) (expect_halts (mark_in Equals) (set_value n m) mid h v q)

setting_value : (n : ℕ) (ts : List Token) (m : List ℕ) (s : Spot) (mid : List Token) (t : Spot) (inner : List Token) → Takes ident_in (record { name = m; spot = s }) ts mid → Takes (mark_in Equals) t mid inner
    → setting (lower n) ts ≡ then_read ((readers n).expr inner) (λ a. done (set_to m a))
setting_value n ts m s mid t inner w v = setting_begins n ts m s mid w ∙ next_takes (mark_in Equals) (set_value n m) refuse t mid inner v

pub setting_value_halts : (n : ℕ) (ts : List Token) (m : List ℕ) (s : Spot) (mid : List Token) (t : Spot) (inner : List Token) (h : Halt) → Takes ident_in (record { name = m; spot = s }) ts mid → Takes (mark_in Equals) t mid inner
    → HaltsAs ((readers n).expr inner) h → HaltsAs (setting (lower n) ts) h
setting_value_halts n ts m s mid t inner h w v x = halts_by (setting (lower n) ts) (then_read ((readers n).expr inner) (λ a. done (set_to m a))) h (setting_value n ts m s mid t inner w v) (halts_then ((readers n).expr inner) (λ a. done (set_to m a)) h x)

pub param_read : (n : ℕ) (local : Bool) (g : Option Bounds) (ts : List Token) (m : List ℕ) (s : Spot) (mid : List Token) (t : Spot) (inner : List Token) (v : ExprTree) (rest : List Token) (d : ParamTree) (q : Option Bounds) (c : List ℕ)
    → Takes ident_in (record { name = m; spot = s }) ts mid → Takes (mark_in Equals) t mid inner → (readers n).expr inner ≡ done v rest → d ≡ record { local = local; range = q; name = c; value = v } → q ≡ g → c ≡ m
    → (x : Setting) × (setting (lower n) ts ≡ done x rest) × (d ≡ record { local = local; range = g; name = x.name; value = x.value })
param_read n local g ts m s mid t inner v rest d q c w u e z y x = (
  set_to m v,
  setting_value n ts m s mid t inner w u ∙ then_goes ((readers n).expr inner) (λ a. done (set_to m a)) v rest e,
  z ∙ ap (λ t. record { local = local; range = t; name = c; value = v }) y ∙ ap (λ t. record { local = local; range = g; name = t; value = v }) x,
)

pub ruleset param_steps = (setting_refused, setting_equals_halts, setting_value_halts, param_read, halts_for_memory)

pub param_pushed : (p : Place) (local : Bool) (g : Option Bounds) (o : Outcome Setting) (rest : List Token) (old new : List Item) (it : Item) (d : ParamTree) → (x : Setting) × (o ≡ done x rest) × (d ≡ record { local = local; range = g; name = x.name; value = x.value })
    → new ≡ old ++ it ∷ [] → item_of it ≡ item_at p (param d) → (x : Setting) × (o ≡ done x rest) × (map item_of new ≡ map item_of old ++ param_item p local g x ∷ [])
param_pushed p local g o rest old new it d x a b = (x.0, x.1, ap (map item_of) a ∙ map_push item_of old it ∙ ap (λ t. map item_of old ++ t ∷ []) (b ∙ ap (λ t. item_at p (param t)) x.2))

pub ruleset push_param_steps = (param_pushed, halts_for_memory)

abbrev pub ParamsOn : ℕ → Place → Bool → Option Bounds → List Token → List Item → List Item → List Token → Type 0
ParamsOn n p local r start old new rest = Pushed item_of (param_item p local r) (mark_in Comma) Semicolon (setting (lower n)) (setting (lower n)) (listed Semicolon (setting (lower n)) start) old new rest

pub params_range_halts : (n : ℕ) (p : Place) (local : Bool) (ts : List Token) (h : Halt) → HaltsAs (maybe_range (lower n) ts) h → HaltsAs (params_at (lower n) local p ts) h
params_range_halts n p local ts h x = halts_then (maybe_range (lower n) ts) (λ r. then_done (param_items p local r) (listed Semicolon (setting (lower n)))) h x

params_begin : (n : ℕ) (p : Place) (local : Bool) (ts : List Token) (r : Option Bounds) (mid : List Token) → maybe_range (lower n) ts ≡ done r mid → params_at (lower n) local p ts ≡ then_done (param_items p local r) (listed Semicolon (setting (lower n))) mid
params_begin n p local ts r mid e = then_goes (maybe_range (lower n) ts) (λ r. then_done (param_items p local r) (listed Semicolon (setting (lower n)))) r mid e

pub params_first_halts : (n : ℕ) (p : Place) (local : Bool) (ts : List Token) (r : Option Bounds) (mid : List Token) (h : Halt) → maybe_range (lower n) ts ≡ done r mid → HaltsAs (setting (lower n) mid) h → HaltsAs (params_at (lower n) local p ts) h
params_first_halts n p local ts r mid h e x = halts_by (params_at (lower n) local p ts) (then_done (param_items p local r) (listed Semicolon (setting (lower n))) mid) h (params_begin n p local ts r mid e)
    (list_first_halts (setting (lower n)) (param_items p local r) mid h x)

pub params_first : (n : ℕ) (p : Place) (local : Bool) (r : Option Bounds) (mid : List Token) (rest : List Token) (old new : List Item) → (x : Setting) × (setting (lower n) mid ≡ done x rest) × (map item_of new ≡ map item_of old ++ param_item p local r x ∷ [])
    → ParamsOn n p local r mid old new rest
params_first n p local r mid rest old new x = pushed_first item_of (param_item p local r) (mark_in Comma) Semicolon (setting (lower n)) (setting (lower n)) mid x.0 rest old new x.1 x.2

pub params_more : (n : ℕ) (p : Place) (local : Bool) (r : Option Bounds) (mid : List Token) (old xs ys : List Item) (s : Spot) (ts after : List Token) (rest : List Token) → ParamsOn n p local r mid old xs ts → Takes (mark_in Comma) s ts after
    → (x : Setting) × (setting (lower n) after ≡ done x rest) × (map item_of ys ≡ map item_of xs ++ param_item p local r x ∷ []) → ParamsOn n p local r mid old ys rest
params_more n p local r mid old xs ys s ts after rest g w x = pushed_more item_of (param_item p local r) (mark_in Comma) Semicolon (setting (lower n)) (setting (lower n)) (local_setting (lower n) (local_lower n))
    (listed Semicolon (setting (lower n)) mid) old xs ys s ts after x.0 rest g w x.1 x.2

pub params_stop : (n : ℕ) (p : Place) (local : Bool) (begin : List Token) (r : Option Bounds) (mid : List Token) (old xs : List Item) (s : Spot) (ts after : List Token) (h : Halt) → maybe_range (lower n) begin ≡ done r mid
    → ParamsOn n p local r mid old xs ts → Takes (mark_in Comma) s ts after → HaltsAs (setting (lower n) after) h → HaltsAs (params_at (lower n) local p begin) h
params_stop n p local begin r mid old xs s ts after h e g w x = halts_by (params_at (lower n) local p begin) (then_done (param_items p local r) (listed Semicolon (setting (lower n))) mid) h (params_begin n p local begin r mid e)
    (list_halts (setting (lower n)) (param_items p local r) mid h (pushed_halts item_of (param_item p local r) (mark_in Comma) Semicolon (setting (lower n)) (setting (lower n)) (listed Semicolon (setting (lower n)) mid) old xs s ts after h g w x))

pub params_open : (n : ℕ) (p : Place) (local : Bool) (begin : List Token) (r : Option Bounds) (mid : List Token) (old xs : List Item) (ts : List Token) (h : Halt) → maybe_range (lower n) begin ≡ done r mid
    → ParamsOn n p local r mid old xs ts → Lacks (mark_in Comma) ts → Lacks (mark_in Semicolon) ts → h ≡ Refused false (length ts) → HaltsAs (params_at (lower n) local p begin) h
params_open n p local begin r mid old xs ts h e g v w q = halts_by (params_at (lower n) local p begin) (then_done (param_items p local r) (listed Semicolon (setting (lower n))) mid) h (params_begin n p local begin r mid e)
    (list_halts (setting (lower n)) (param_items p local r) mid h (pushed_open item_of (param_item p local r) (mark_in Comma) Semicolon (setting (lower n)) (setting (lower n)) (listed Semicolon (setting (lower n)) mid) old xs ts h g v w q))

pub params_end : (n : ℕ) (p : Place) (local : Bool) (begin : List Token) (r : Option Bounds) (mid : List Token) (old xs : List Item) (ts : List Token) (s : Spot) (rest : List Token) → maybe_range (lower n) begin ≡ done r mid
    → ParamsOn n p local r mid old xs ts → Lacks (mark_in Comma) ts → Takes (mark_in Semicolon) s ts rest → Puts (params_at (lower n) local p begin) old xs rest
params_end n p local begin r mid old xs ts s rest e g v w = puts_by (params_at (lower n) local p begin) (then_done (param_items p local r) (listed Semicolon (setting (lower n))) mid) old xs rest (params_begin n p local begin r mid e)
    (list_puts (setting (lower n)) (param_item p local r) mid old xs rest (pushed_end item_of (param_item p local r) (mark_in Comma) Semicolon (setting (lower n)) (setting (lower n)) (listed Semicolon (setting (lower n)) mid) old xs ts s rest g v w))

pub ruleset params_steps = (params_range_halts, params_first_halts, params_first, params_more, params_stop, params_open, params_end)

-- assignments
pub driven_target_halts : (n : ℕ) (ts : List Token) (h : Halt) → HaltsAs (read_target n ts) h → HaltsAs (driven (lower n) ts) h
driven_target_halts n ts h x = halts_then (read_target n ts) (at_driven (lower n)) h x

abbrev drive_value : ℕ → TargetTree → Spot → List Token → Outcome Driven
drive_value n t _ = then_done (drive t) (readers n).expr

driven_begins : (n : ℕ) (ts : List Token) (t : TargetTree) (mid : List Token) → read_target n ts ≡ done t mid → driven (lower n) ts ≡ expect (mark_in Equals) (drive_value n t) mid
driven_begins n ts t mid e = then_goes (read_target n ts) (at_driven (lower n)) t mid e

pub driven_equals_halts : (n : ℕ) (ts : List Token) (t : TargetTree) (mid : List Token) (h : Halt) → read_target n ts ≡ done t mid → Lacks (mark_in Equals) mid → h ≡ Refused false (length mid) → HaltsAs (driven (lower n) ts) h
driven_equals_halts n ts t mid h e v q = halts_by (driven (lower n) ts) (expect (mark_in Equals) (drive_value n t) mid) h (driven_begins n ts t mid e) (expect_halts (mark_in Equals) (drive_value n t) mid h v q)

driven_value : (n : ℕ) (ts : List Token) (t : TargetTree) (mid : List Token) (s : Spot) (inner : List Token) → read_target n ts ≡ done t mid → Takes (mark_in Equals) s mid inner
    → driven (lower n) ts ≡ then_read ((readers n).expr inner) (λ a. done (drive t a))
driven_value n ts t mid s inner e w = driven_begins n ts t mid e ∙ next_takes (mark_in Equals) (drive_value n t) refuse s mid inner w

pub driven_value_halts : (n : ℕ) (ts : List Token) (t : TargetTree) (mid : List Token) (s : Spot) (inner : List Token) (h : Halt) → read_target n ts ≡ done t mid → Takes (mark_in Equals) s mid inner → HaltsAs ((readers n).expr inner) h
    → HaltsAs (driven (lower n) ts) h
driven_value_halts n ts t mid s inner h e w x = halts_by (driven (lower n) ts) (then_read ((readers n).expr inner) (λ a. done (drive t a))) h (driven_value n ts t mid s inner e w) (halts_then ((readers n).expr inner) (λ a. done (drive t a)) h x)

pub driven_read : (n : ℕ) (p : Place) (ts : List Token) (t : TargetTree) (mid : List Token) (s : Spot) (inner : List Token) (v : ExprTree) (rest : List Token) (old new : List Item) (it : Item) → read_target n ts ≡ done t mid
    → Takes (mark_in Equals) s mid inner → (readers n).expr inner ≡ done v rest → new ≡ old ++ it ∷ [] → item_of it ≡ item_at p (assign t v)
    → (x : Driven) × (driven (lower n) ts ≡ done x rest) × (map item_of new ≡ map item_of old ++ assign_item p x ∷ [])
driven_read n p ts t mid s inner v rest old new it e w f a b = (
  drive t v,
  driven_value n ts t mid s inner e w ∙ then_goes ((readers n).expr inner) (λ a. done (drive t a)) v rest f,
  ap (map item_of) a ∙ map_push item_of old it ∙ ap (λ z. map item_of old ++ z ∷ []) b,
)

pub ruleset assign_steps = (driven_target_halts, driven_equals_halts, driven_value_halts, driven_read, halts_for_memory)

abbrev pub AssignsOn : ℕ → Place → List Token → List Item → List Item → List Token → Type 0
AssignsOn n p start old new rest = Pushed item_of (assign_item p) (mark_in Comma) Semicolon (driven (lower n)) (driven (lower n)) (listed Semicolon (driven (lower n)) start) old new rest

pub drives_first_halts : (n : ℕ) (p : Place) (ts : List Token) (h : Halt) → HaltsAs (driven (lower n) ts) h → HaltsAs (drives_at (lower n) p ts) h
drives_first_halts n p ts h x = list_first_halts (driven (lower n)) (assign_items p) ts h x

pub drives_first : (n : ℕ) (p : Place) (ts : List Token) (rest : List Token) (old new : List Item) → (x : Driven) × (driven (lower n) ts ≡ done x rest) × (map item_of new ≡ map item_of old ++ assign_item p x ∷ []) → AssignsOn n p ts old new rest
drives_first n p ts rest old new x = pushed_first item_of (assign_item p) (mark_in Comma) Semicolon (driven (lower n)) (driven (lower n)) ts x.0 rest old new x.1 x.2

pub drives_more : (n : ℕ) (p : Place) (begin : List Token) (old xs ys : List Item) (s : Spot) (ts after : List Token) (rest : List Token) → AssignsOn n p begin old xs ts → Takes (mark_in Comma) s ts after
    → (x : Driven) × (driven (lower n) after ≡ done x rest) × (map item_of ys ≡ map item_of xs ++ assign_item p x ∷ []) → AssignsOn n p begin old ys rest
drives_more n p begin old xs ys s ts after rest g w x = pushed_more item_of (assign_item p) (mark_in Comma) Semicolon (driven (lower n)) (driven (lower n)) (local_driven (lower n) (local_lower n)) (listed Semicolon (driven (lower n)) begin)
    old xs ys s ts after x.0 rest g w x.1 x.2

pub drives_stop : (n : ℕ) (p : Place) (begin : List Token) (old xs : List Item) (s : Spot) (ts after : List Token) (h : Halt) → AssignsOn n p begin old xs ts → Takes (mark_in Comma) s ts after → HaltsAs (driven (lower n) after) h
    → HaltsAs (drives_at (lower n) p begin) h
drives_stop n p begin old xs s ts after h g w x = list_halts (driven (lower n)) (assign_items p) begin h
    (pushed_halts item_of (assign_item p) (mark_in Comma) Semicolon (driven (lower n)) (driven (lower n)) (listed Semicolon (driven (lower n)) begin) old xs s ts after h g w x)

pub drives_open : (n : ℕ) (p : Place) (begin : List Token) (old xs : List Item) (ts : List Token) (h : Halt) → AssignsOn n p begin old xs ts → Lacks (mark_in Comma) ts → Lacks (mark_in Semicolon) ts → h ≡ Refused false (length ts)
    → HaltsAs (drives_at (lower n) p begin) h
drives_open n p begin old xs ts h g v w q = list_halts (driven (lower n)) (assign_items p) begin h
    (pushed_open item_of (assign_item p) (mark_in Comma) Semicolon (driven (lower n)) (driven (lower n)) (listed Semicolon (driven (lower n)) begin) old xs ts h g v w q)

pub drives_end : (n : ℕ) (p : Place) (begin : List Token) (old xs : List Item) (ts : List Token) (s : Spot) (rest : List Token) → AssignsOn n p begin old xs ts → Lacks (mark_in Comma) ts → Takes (mark_in Semicolon) s ts rest
    → Puts (drives_at (lower n) p begin) old xs rest
drives_end n p begin old xs ts s rest g v w = list_puts (driven (lower n)) (assign_item p) begin old xs rest
    (pushed_end item_of (assign_item p) (mark_in Comma) Semicolon (driven (lower n)) (driven (lower n)) (listed Semicolon (driven (lower n)) begin) old xs ts s rest g v w)

-- behind their delay
pub assigns_delay_halts : (n : ℕ) (p : Place) (ts : List Token) (h : Halt) → HaltsAs (maybe_delay ts) h → HaltsAs (assigns_at (lower n) p ts) h
assigns_delay_halts n p ts h x = halts_then (maybe_delay ts) (λ _. drives_at (lower n) p) h x

pub assigns_are : (n : ℕ) (p : Place) (ts rest : List Token) → maybe_delay ts ≡ done tt rest → assigns_at (lower n) p ts ≡ drives_at (lower n) p rest
assigns_are n p ts rest e = then_goes (maybe_delay ts) (λ _. drives_at (lower n) p) tt rest e
