-- The steps of the reader of a module's header: one for each way out of a function of the parser.
use Rattle.std.proofs.Common.{◌≡◌, ℕ, Bool, true, false, List, [], ◌∷◌, ◌++◌, map, length, Option, Some, None, refl, sym, ap, ◌∙◌, if◌then◌else◌}
use Rattle.cdc_base.specs.declared.words.Keyword.TheVariants as k
use Rattle.verilog_ast.specs.declared.DeclKind.{DeclKind}
use Rattle.verilog_ast.specs.declared.DeclKind.TheVariants.{Input, OutputReg}
use Rattle.verilog_ast.specs.declared.ParamDecl.{ParamDecl}
use Rattle.verilog_ast.specs.declared.Port.{Port}
use Rattle.verilog_exprs.specs.declared.halt.Halt.{Halt}
use Rattle.verilog_exprs.specs.declared.halt.Halt.TheVariants.{Refused, Memory}
use Rattle.verilog_exprs.specs.Halts.{HaltsAs}
use Rattle.verilog_exprs.specs.Next.{Takes, Lacks}
use Rattle.verilog_exprs.proofs.Steps.{halts_then, halts_by, halts_at, halts_for_memory, next_takes, next_lacks, peek_takes, peek_lacks, expect_halts}
use Rattle.verilog_exprs.proofs.Steps.{then_done as then_goes}
use Rattle.verilog_items.specs.Forms.{NoDirection, NoParameter, pdecls_at, names_at, adecls_at, last_form, last_shape, PutsParam, PutsPort, port_at, header_ports}
use Rattle.verilog_items.specs.declared.header.Ports as parsed
use Rattle.verilog_items.proofs.DeclSteps.{GoesToLong}
use Rattle.verilog_items.proofs.PushSteps.{Pushed, pushed_first, pushed_more, pushed_halts, pushed_open, pushed_end, Reached, reached_first_halts, reached_first, reached_more, reached_halts, reached_open, reached_end}
use Rattle.verilog_lex.specs.declared.token.Token.{Token}
use Rattle.verilog_lex.specs.declared.marks.MarkKind.TheVariants.{ParenOpen, ParenClose, Comma, Hash}
use Rattle.verilog_reading.specs.ExprTree.{ExprTree}
use Rattle.verilog_reading.specs.ItemReader.{list, listed, then_done, maybe_range, setting, direction, maybe_wire, output, long_of, short_of, in_long, long_pdecl, pdecl, in_header, header, start, init, entry_of, in_adecl, behind_range, behind_direction, adecl, short_entry_of, entry, bare_name, old_of, ansi_of, without_ports, in_ports, ports}
use Rattle.verilog_reading.specs.ItemReading.{Setting, ParamForm, Pdecl, form_from, param_by, params_from, first_form, has_start, Shape, Entry, shape_from, port_from, ports_from, first_shape, bare, Ports}
use Rattle.verilog_reading.specs.Lexemes.{Spot, mark_in, word_in, ident_in}
use Rattle.verilog_reading.specs.Outcome.{Outcome, done, then_read, next, expect, refuse, peek}
use Rattle.verilog_reading.specs.SourceTree.{Bounds, ParamTree, DeclTree, param_of, port_of}
use Rattle.verilog_reading.specs.StmtReader.{lower}
use Rattle.verilog_reading.proofs.ItemLocal.{local_pdecl, local_entry, local_bare}
use Rattle.verilog_reading.proofs.StmtLocal.{local_lower}
use Rattle.verilog_stmts.proofs.ListSteps.{map_push}

-- `[ # ( pdecl { , pdecl } ) ]`
pub header_none : (n : ℕ) (ts : List Token) (ps : List ParamDecl) → Lacks (mark_in Hash) ts → ps ≡ [] → header (lower n) ts ≡ done (map param_of ps) ts
header_none n ts ps w e = next_lacks (mark_in Hash) (in_header (lower n)) (done []) ts w ∙ ap (λ z. done (map param_of z) ts) (sym e)

abbrev open_header : ℕ → Spot → List Token → Outcome (List ParamTree)
open_header n _ = pdecls_at (lower n)

pub header_unopened : (n : ℕ) (ts : List Token) (s : Spot) (inner : List Token) (h : Halt) → Takes (mark_in Hash) s ts inner → Lacks (mark_in ParenOpen) inner → h ≡ Refused false (length inner) → HaltsAs (header (lower n) ts) h
header_unopened n ts s inner h w v q = halts_by (header (lower n) ts) (expect (mark_in ParenOpen) (open_header n) inner) h (next_takes (mark_in Hash) (in_header (lower n)) (done []) s ts inner w) (expect_halts (mark_in ParenOpen) (open_header n) inner h v q)

pub header_is : (n : ℕ) (ts : List Token) (s : Spot) (inner : List Token) (t : Spot) (rest : List Token) → Takes (mark_in Hash) s ts inner → Takes (mark_in ParenOpen) t inner rest → header (lower n) ts ≡ pdecls_at (lower n) rest
header_is n ts s inner t rest w v = next_takes (mark_in Hash) (in_header (lower n)) (done []) s ts inner w ∙ next_takes (mark_in ParenOpen) (open_header n) refuse t inner rest v

pub ruleset header_steps = (header_none, header_unopened, header_is)

-- `pdecl`
pub long_range_halts : (n : ℕ) (local : Bool) (ts : List Token) (h : Halt) → HaltsAs (maybe_range (lower n) ts) h → HaltsAs (in_long (lower n) local ts) h
long_range_halts n local ts h x = halts_then (maybe_range (lower n) ts) (λ r. then_done (long_of local r) (setting (lower n))) h x

long_is : (n : ℕ) (local : Bool) (ts : List Token) (r : Option Bounds) (mid : List Token) → maybe_range (lower n) ts ≡ done r mid → in_long (lower n) local ts ≡ then_read (setting (lower n) mid) (λ x. done (long_of local r x))
long_is n local ts r mid e = then_goes (maybe_range (lower n) ts) (λ r. then_done (long_of local r) (setting (lower n))) r mid e

pub long_setting_halts : (n : ℕ) (local : Bool) (ts : List Token) (r : Option Bounds) (mid : List Token) (h : Halt) → maybe_range (lower n) ts ≡ done r mid → HaltsAs (setting (lower n) mid) h → HaltsAs (in_long (lower n) local ts) h
long_setting_halts n local ts r mid h e x = halts_by (in_long (lower n) local ts) (then_read (setting (lower n) mid) (λ x. done (long_of local r x))) h (long_is n local ts r mid e) (halts_then (setting (lower n) mid) (λ x. done (long_of local r x)) h x)

param_put : (old new : List ParamDecl) (d : ParamDecl) (t : ParamTree) → new ≡ old ++ d ∷ [] → param_of d ≡ t → map param_of new ≡ map param_of old ++ t ∷ []
param_put old new d t e q = ap (map param_of) e ∙ map_push param_of old d ∙ ap (λ z. map param_of old ++ z ∷ []) q

-- for any form of the entry before it
pub long_read : (n : ℕ) (local : Bool) (ts : List Token) (r : Option Bounds) (mid rest : List Token) (old new : List ParamDecl) (d : ParamDecl) (form : ParamForm) → maybe_range (lower n) ts ≡ done r mid
    → (x : Setting) × (setting (lower n) mid ≡ done x rest) × (param_of d ≡ record { local = local; range = r; name = x.name; value = x.value }) → new ≡ old ++ d ∷ [] → form ≡ record { local = local; range = r }
    → (before : ParamForm) → PutsParam (in_long (lower n) local ts) before old new form rest
long_read n local ts r mid rest old new d form e x q f before = (
  long_of local r x.0,
  long_is n local ts r mid e ∙ then_goes (setting (lower n) mid) (λ x. done (long_of local r x)) x.0 rest x.1,
  param_put old new d (param_by (record { local = local; range = r }) x.0) q x.2,
  f,
)

pub ruleset long_steps = (long_range_halts, long_setting_halts, long_read, halts_for_memory)

pdecl_short : (n : ℕ) (ts : List Token) → NoParameter ts → pdecl (lower n) ts ≡ then_read (setting (lower n) ts) (λ x. done (short_of x))
pdecl_short n ts w = next_lacks (word_in k.Parameter) (λ _. in_long (lower n) false) (next (word_in k.LocalParam) (λ _. in_long (lower n) true) (then_done short_of (setting (lower n)))) ts w.parameter
    ∙ next_lacks (word_in k.LocalParam) (λ _. in_long (lower n) true) (then_done short_of (setting (lower n))) ts w.local

pub short_halts : (n : ℕ) (ts : List Token) (h : Halt) → NoParameter ts → HaltsAs (setting (lower n) ts) h → HaltsAs (pdecl (lower n) ts) h
short_halts n ts h w x = halts_by (pdecl (lower n) ts) (then_read (setting (lower n) ts) (λ x. done (short_of x))) h (pdecl_short n ts w) (halts_then (setting (lower n) ts) (λ x. done (short_of x)) h x)

pub short_read : (n : ℕ) (before : ParamForm) (ts rest : List Token) (old new : List ParamDecl) (d : ParamDecl) → NoParameter ts
    → (x : Setting) × (setting (lower n) ts ≡ done x rest) × (param_of d ≡ record { local = before.local; range = before.range; name = x.name; value = x.value }) → new ≡ old ++ d ∷ [] → PutsParam (pdecl (lower n) ts) before old new before rest
short_read n before ts rest old new d w x q = (short_of x.0, pdecl_short n ts w ∙ then_goes (setting (lower n) ts) (λ x. done (short_of x)) x.0 rest x.1, param_put old new d (param_by before x.0) q x.2, refl)

pub long_put : (n : ℕ) (before : ParamForm) (ts : List Token) (local : Bool) (inner : List Token) (old new : List ParamDecl) (after : ParamForm) (rest : List Token) → GoesToLong pdecl local ts inner
    → PutsParam (in_long (lower n) local inner) before old new after rest → PutsParam (pdecl (lower n) ts) before old new after rest
long_put n before ts local inner old new after rest w x = (x.0, w (lower n) ∙ x.1, x.2, x.3)

pub long_halts : (n : ℕ) (ts : List Token) (local : Bool) (inner : List Token) (h : Halt) → GoesToLong pdecl local ts inner → HaltsAs (in_long (lower n) local inner) h → HaltsAs (pdecl (lower n) ts) h
long_halts n ts local inner h w x = halts_by (pdecl (lower n) ts) (in_long (lower n) local inner) h (w (lower n)) x

-- how far the parameters of a header are read
pub record Params (n : ℕ) (start : List Token) (ps : List ParamDecl) (form : ParamForm) (rest : List Token) : Type 0 where
  pub entries : List Pdecl
  pub all : map param_of ps ≡ params_from first_form entries
  pub form_is : form ≡ last_form first_form entries
  pub lists : Reached (mark_in Comma) ParenClose (long_pdecl (lower n)) (pdecl (lower n)) (list (mark_in Comma) ParenClose (long_pdecl (lower n)) (pdecl (lower n)) start) entries rest

params_push : (before : ParamForm) (ls : List Pdecl) (a : Pdecl) → params_from before (ls ++ a ∷ []) ≡ params_from before ls ++ param_by (form_from (last_form before ls) a.form) a.setting ∷ []
params_push before [] a = refl
params_push before (b ∷ bs) a = ap (λ z. param_by (form_from before b.form) b.setting ∷ z) (params_push (form_from before b.form) bs a)

form_push : (before : ParamForm) (ls : List Pdecl) (a : Pdecl) → last_form before (ls ++ a ∷ []) ≡ form_from (last_form before ls) a.form
form_push before [] a = refl
form_push before (b ∷ bs) a = form_push (form_from before b.form) bs a

pub params_word_halts : (n : ℕ) (ts : List Token) (h : Halt) → NoParameter ts → h ≡ Refused false (length ts) → HaltsAs (pdecls_at (lower n) ts) h
params_word_halts n ts h w q = halts_then (list (mark_in Comma) ParenClose (long_pdecl (lower n)) (pdecl (lower n)) ts) (λ a. done (params_from first_form a)) h
    (reached_first_halts (mark_in Comma) ParenClose (long_pdecl (lower n)) (pdecl (lower n)) ts h (halts_by (long_pdecl (lower n) ts) (expect (word_in k.LocalParam) (λ _. in_long (lower n) true) ts) h
    (next_lacks (word_in k.Parameter) (λ _. in_long (lower n) false) (expect (word_in k.LocalParam) (λ _. in_long (lower n) true)) ts w.parameter) (expect_halts (word_in k.LocalParam) (λ _. in_long (lower n) true) ts h w.local q)))

pub params_first_halts : (n : ℕ) (ts : List Token) (local : Bool) (inner : List Token) (h : Halt) → GoesToLong long_pdecl local ts inner → HaltsAs (in_long (lower n) local inner) h → HaltsAs (pdecls_at (lower n) ts) h
params_first_halts n ts local inner h w x = halts_then (list (mark_in Comma) ParenClose (long_pdecl (lower n)) (pdecl (lower n)) ts) (λ a. done (params_from first_form a)) h
    (reached_first_halts (mark_in Comma) ParenClose (long_pdecl (lower n)) (pdecl (lower n)) ts h (halts_by (long_pdecl (lower n) ts) (in_long (lower n) local inner) h (w (lower n)) x))

pub params_first : (n : ℕ) (ts : List Token) (local : Bool) (inner rest : List Token) (old new : List ParamDecl) (form : ParamForm) → GoesToLong long_pdecl local ts inner → old ≡ [] → PutsParam (in_long (lower n) local inner) first_form old new form rest
    → Params n ts new form rest
params_first n ts local inner rest old new form w e x = record {
  entries = x.0 ∷ [];
  all = x.2 ∙ ap (λ z. map param_of z ++ param_by (form_from first_form x.0.form) x.0.setting ∷ []) e;
  form_is = x.3;
  lists = reached_first (mark_in Comma) ParenClose (long_pdecl (lower n)) (pdecl (lower n)) ts x.0 rest (w (lower n) ∙ x.1);
}

pub params_more : (n : ℕ) (begin : List Token) (xs ys : List ParamDecl) (form after_form : ParamForm) (s : Spot) (ts after rest : List Token) → Params n begin xs form ts → Takes (mark_in Comma) s ts after
    → PutsParam (pdecl (lower n) after) form xs ys after_form rest → Params n begin ys after_form rest
params_more n begin xs ys form after_form s ts after rest g w x = record {
  entries = g.entries ++ x.0 ∷ [];
  all = x.2 ∙ ap (λ z. z ++ param_by (form_from form x.0.form) x.0.setting ∷ []) g.all ∙ ap (λ z. params_from first_form g.entries ++ param_by (form_from z x.0.form) x.0.setting ∷ []) g.form_is ∙ sym (params_push first_form g.entries x.0);
  form_is = x.3 ∙ ap (λ z. form_from z x.0.form) g.form_is ∙ sym (form_push first_form g.entries x.0);
  lists = reached_more (mark_in Comma) ParenClose (long_pdecl (lower n)) (pdecl (lower n)) (local_pdecl (lower n) (local_lower n)) (list (mark_in Comma) ParenClose (long_pdecl (lower n)) (pdecl (lower n)) begin) g.entries s ts after x.0 rest
      g.lists w x.1;
}

pub params_stop : (n : ℕ) (begin : List Token) (xs : List ParamDecl) (form : ParamForm) (s : Spot) (ts after : List Token) (h : Halt) → Params n begin xs form ts → Takes (mark_in Comma) s ts after → HaltsAs (pdecl (lower n) after) h
    → HaltsAs (pdecls_at (lower n) begin) h
params_stop n begin xs form s ts after h g w x = halts_then (list (mark_in Comma) ParenClose (long_pdecl (lower n)) (pdecl (lower n)) begin) (λ a. done (params_from first_form a)) h
    (reached_halts (mark_in Comma) ParenClose (long_pdecl (lower n)) (pdecl (lower n)) (list (mark_in Comma) ParenClose (long_pdecl (lower n)) (pdecl (lower n)) begin) g.entries s ts after h g.lists w x)

pub params_open : (n : ℕ) (begin : List Token) (xs : List ParamDecl) (form : ParamForm) (ts : List Token) (h : Halt) → Params n begin xs form ts → Lacks (mark_in Comma) ts → Lacks (mark_in ParenClose) ts → h ≡ Refused false (length ts)
    → HaltsAs (pdecls_at (lower n) begin) h
params_open n begin xs form ts h g v w q = halts_then (list (mark_in Comma) ParenClose (long_pdecl (lower n)) (pdecl (lower n)) begin) (λ a. done (params_from first_form a)) h
    (reached_open (mark_in Comma) ParenClose (long_pdecl (lower n)) (pdecl (lower n)) (list (mark_in Comma) ParenClose (long_pdecl (lower n)) (pdecl (lower n)) begin) g.entries ts h g.lists v w q)

pub params_end : (n : ℕ) (begin : List Token) (xs : List ParamDecl) (form : ParamForm) (ts : List Token) (s : Spot) (rest : List Token) → Params n begin xs form ts → Lacks (mark_in Comma) ts → Takes (mark_in ParenClose) s ts rest
    → pdecls_at (lower n) begin ≡ done (map param_of xs) rest
params_end n begin xs form ts s rest g v w = then_goes (list (mark_in Comma) ParenClose (long_pdecl (lower n)) (pdecl (lower n)) begin) (λ a. done (params_from first_form a)) g.entries rest
    (reached_end (mark_in Comma) ParenClose (long_pdecl (lower n)) (pdecl (lower n)) (list (mark_in Comma) ParenClose (long_pdecl (lower n)) (pdecl (lower n)) begin) g.entries ts s rest g.lists v w) ∙ ap (λ z. done z rest) (sym g.all)

-- `[ ( [ ports ] ) ]`
pub ports_none : (n : ℕ) (ts : List Token) → Lacks (mark_in ParenOpen) ts → ports (lower n) ts ≡ done without_ports ts
ports_none n ts w = next_lacks (mark_in ParenOpen) (in_ports (lower n)) (done without_ports) ts w

pub ports_none_as : (n : ℕ) (ts rest : List Token) (p : parsed.Ports) → Lacks (mark_in ParenOpen) ts → header_ports p ≡ without_ports → rest ≡ ts → ports (lower n) ts ≡ done (header_ports p) rest
ports_none_as n ts rest p w e q = ports_none n ts w ∙ ap (λ z. done z ts) (sym e) ∙ ap (done (header_ports p)) (sym q)

abbrev styles : ℕ → List Token → Outcome Ports
styles n = peek ident_in names_at (adecls_at (lower n))

pub ports_empty : (n : ℕ) (ts : List Token) (s : Spot) (inner : List Token) (t : Spot) (rest : List Token) → Takes (mark_in ParenOpen) s ts inner → Takes (mark_in ParenClose) t inner rest → ports (lower n) ts ≡ done without_ports rest
ports_empty n ts s inner t rest w v = next_takes (mark_in ParenOpen) (in_ports (lower n)) (done without_ports) s ts inner w ∙ next_takes (mark_in ParenClose) (λ _. done without_ports) (styles n) t inner rest v

pub ports_empty_as : (n : ℕ) (ts : List Token) (s : Spot) (inner : List Token) (t : Spot) (after rest : List Token) (p : parsed.Ports) → Takes (mark_in ParenOpen) s ts inner → Takes (mark_in ParenClose) t inner after
    → header_ports p ≡ without_ports → rest ≡ after → ports (lower n) ts ≡ done (header_ports p) rest
ports_empty_as n ts s inner t after rest p w v e q = ports_empty n ts s inner t after w v ∙ ap (λ z. done z after) (sym e) ∙ ap (done (header_ports p)) (sym q)

ports_styles : (n : ℕ) (ts : List Token) (s : Spot) (inner : List Token) → Takes (mark_in ParenOpen) s ts inner → Lacks (mark_in ParenClose) inner → ports (lower n) ts ≡ styles n inner
ports_styles n ts s inner w v = next_takes (mark_in ParenOpen) (in_ports (lower n)) (done without_ports) s ts inner w ∙ next_lacks (mark_in ParenClose) (λ _. done without_ports) (styles n) inner v

pub ports_old : (n : ℕ) (ts : List Token) (s : Spot) (inner : List Token) (m : List ℕ) (t : Spot) (rest : List Token) → Takes (mark_in ParenOpen) s ts inner → Lacks (mark_in ParenClose) inner
    → Takes ident_in (record { name = m; spot = t }) inner rest → ports (lower n) ts ≡ names_at inner
ports_old n ts s inner m t rest w v x = ports_styles n ts s inner w v ∙ peek_takes ident_in names_at (adecls_at (lower n)) (record { name = m; spot = t }) inner rest x

pub ports_ansi : (n : ℕ) (ts : List Token) (s : Spot) (inner : List Token) → Takes (mark_in ParenOpen) s ts inner → Lacks (mark_in ParenClose) inner → Lacks ident_in inner → ports (lower n) ts ≡ adecls_at (lower n) inner
ports_ansi n ts s inner w v x = ports_styles n ts s inner w v ∙ peek_lacks ident_in names_at (adecls_at (lower n)) inner x

pub ruleset ports_steps = (ports_none_as, ports_empty_as, ports_old, ports_ansi)

-- entries of the old style
pub bare_refused : (ts : List Token) (h : Halt) → Lacks ident_in ts → h ≡ Refused false (length ts) → HaltsAs (bare_name ts) h
bare_refused ts h w q = expect_halts ident_in (λ n. done n.name) ts h w q

pub bare_read : (ts : List Token) (m : List ℕ) (s : Spot) (rest : List Token) (old new : List Port) (p : Port) (c : List ℕ) → Takes ident_in (record { name = m; spot = s }) ts rest → new ≡ old ++ p ∷ [] → port_of p ≡ record { name = c; decl = None } → c ≡ m
    → (x : List ℕ) × (bare_name ts ≡ done x rest) × (map port_of new ≡ map port_of old ++ bare x ∷ [])
bare_read ts m s rest old new p c w e q r = (
  m,
  next_takes ident_in (λ n. done n.name) refuse (record { name = m; spot = s }) ts rest w,
  ap (map port_of) e ∙ map_push port_of old p ∙ ap (λ z. map port_of old ++ z ∷ []) (q ∙ ap bare r),
)

pub ruleset bare_steps = (bare_refused, bare_read, halts_for_memory)

abbrev pub NamesOn : List Token → List Port → List Token → Type 0
NamesOn start new rest = Pushed port_of bare (mark_in Comma) ParenClose bare_name bare_name (listed ParenClose bare_name start) [] new rest

pub names_first_halts : (ts : List Token) (h : Halt) → HaltsAs (bare_name ts) h → HaltsAs (names_at ts) h
names_first_halts ts h x = halts_then (listed ParenClose bare_name ts) (λ a. done (old_of a)) h (reached_first_halts (mark_in Comma) ParenClose bare_name bare_name ts h x)

pub names_first : (ts rest : List Token) (old new : List Port) → old ≡ [] → (x : List ℕ) × (bare_name ts ≡ done x rest) × (map port_of new ≡ map port_of old ++ bare x ∷ []) → NamesOn ts new rest
names_first ts rest old new e x = pushed_first port_of bare (mark_in Comma) ParenClose bare_name bare_name ts x.0 rest [] new x.1 (x.2 ∙ ap (λ z. map port_of z ++ bare x.0 ∷ []) e)

pub names_more : (begin : List Token) (xs ys : List Port) (s : Spot) (ts after rest : List Token) → NamesOn begin xs ts → Takes (mark_in Comma) s ts after
    → (x : List ℕ) × (bare_name after ≡ done x rest) × (map port_of ys ≡ map port_of xs ++ bare x ∷ []) → NamesOn begin ys rest
names_more begin xs ys s ts after rest g w x = pushed_more port_of bare (mark_in Comma) ParenClose bare_name bare_name local_bare (listed ParenClose bare_name begin) [] xs ys s ts after x.0 rest g w x.1 x.2

pub names_stop : (begin : List Token) (xs : List Port) (s : Spot) (ts after : List Token) (h : Halt) → NamesOn begin xs ts → Takes (mark_in Comma) s ts after → HaltsAs (bare_name after) h → HaltsAs (names_at begin) h
names_stop begin xs s ts after h g w x = halts_then (listed ParenClose bare_name begin) (λ a. done (old_of a)) h
    (pushed_halts port_of bare (mark_in Comma) ParenClose bare_name bare_name (listed ParenClose bare_name begin) [] xs s ts after h g w x)

pub names_open : (begin : List Token) (xs : List Port) (ts : List Token) (h : Halt) → NamesOn begin xs ts → Lacks (mark_in Comma) ts → Lacks (mark_in ParenClose) ts → h ≡ Refused false (length ts) → HaltsAs (names_at begin) h
names_open begin xs ts h g v w q = halts_then (listed ParenClose bare_name begin) (λ a. done (old_of a)) h
    (pushed_open port_of bare (mark_in Comma) ParenClose bare_name bare_name (listed ParenClose bare_name begin) [] xs ts h g v w q)

pub names_end : (begin : List Token) (xs : List Port) (ts : List Token) (s : Spot) (rest : List Token) → NamesOn begin xs ts → Lacks (mark_in Comma) ts → Takes (mark_in ParenClose) s ts rest
    → names_at begin ≡ done (record { ansi = false; list = map port_of xs }) rest
names_end begin xs ts s rest g v w =
    let z = pushed_end port_of bare (mark_in Comma) ParenClose bare_name bare_name (listed ParenClose bare_name begin) [] xs ts s rest g v w in
    then_goes (listed ParenClose bare_name begin) (λ a. done (old_of a)) z.0 rest z.1 ∙ ap (λ o. done (record { ansi = false; list = o }) rest) (sym z.2)

pub ruleset names_steps = (names_first_halts, names_first, names_more, names_stop, names_open, names_end)

-- how far the entries of an ANSI header are read
pub record Entries (n : ℕ) (start : List Token) (ps : List Port) (shape : Shape) (rest : List Token) : Type 0 where
  pub entries : List Entry
  pub all : map port_of ps ≡ ports_from first_shape entries
  pub shape_is : shape ≡ last_shape first_shape entries
  pub lists : Reached (mark_in Comma) ParenClose (adecl (lower n)) (entry (lower n)) (list (mark_in Comma) ParenClose (adecl (lower n)) (entry (lower n)) start) entries rest

ports_push : (before : Shape) (ls : List Entry) (a : Entry) → ports_from before (ls ++ a ∷ []) ≡ ports_from before ls ++ port_from (shape_from (last_shape before ls) a.shape) a ∷ []
ports_push before [] a = refl
ports_push before (b ∷ bs) a = ap (λ z. port_from (shape_from before b.shape) b ∷ z) (ports_push (shape_from before b.shape) bs a)

shape_push : (before : Shape) (ls : List Entry) (a : Entry) → last_shape before (ls ++ a ∷ []) ≡ shape_from (last_shape before ls) a.shape
shape_push before [] a = refl
shape_push before (b ∷ bs) a = shape_push (shape_from before b.shape) bs a

abbrev adecl_end : ℕ → DeclKind → Option Bounds → List ℕ → List Token → Outcome Entry
adecl_end n kind r m = then_done (entry_of kind r m) (start (lower n) kind)

direction_lacks : (ts : List Token) → NoDirection ts → direction ts ≡ refuse ts
direction_lacks ts w = next_lacks (word_in k.Input) (λ _. maybe_wire Input) (expect (word_in k.Output) (λ _. output)) ts w.input ∙ next_lacks (word_in k.Output) (λ _. output) refuse ts w.output

pub adecl_refused : (n : ℕ) (ts : List Token) (h : Halt) → NoDirection ts → h ≡ Refused false (length ts) → HaltsAs (adecl (lower n) ts) h
adecl_refused n ts h w q = halts_then (direction ts) (behind_direction (lower n)) h (halts_at (direction ts) false ts h (direction_lacks ts w) q)

adecl_begins : (n : ℕ) (ts : List Token) (kind : DeclKind) (a : List Token) → direction ts ≡ done kind a → adecl (lower n) ts ≡ then_read (maybe_range (lower n) a) (behind_range (lower n) kind)
adecl_begins n ts kind a e = then_goes (direction ts) (behind_direction (lower n)) kind a e

pub adecl_range_halts : (n : ℕ) (ts : List Token) (kind : DeclKind) (a : List Token) (h : Halt) → direction ts ≡ done kind a → HaltsAs (maybe_range (lower n) a) h → HaltsAs (adecl (lower n) ts) h
adecl_range_halts n ts kind a h e x = halts_by (adecl (lower n) ts) (then_read (maybe_range (lower n) a) (behind_range (lower n) kind)) h (adecl_begins n ts kind a e) (halts_then (maybe_range (lower n) a) (behind_range (lower n) kind) h x)

adecl_name : (n : ℕ) (ts : List Token) (kind : DeclKind) (a : List Token) (r : Option Bounds) (b : List Token) → direction ts ≡ done kind a → maybe_range (lower n) a ≡ done r b → adecl (lower n) ts ≡ behind_range (lower n) kind r b
adecl_name n ts kind a r b e f = adecl_begins n ts kind a e ∙ then_goes (maybe_range (lower n) a) (behind_range (lower n) kind) r b f

pub adecl_name_halts : (n : ℕ) (ts : List Token) (kind : DeclKind) (a : List Token) (r : Option Bounds) (b : List Token) (h : Halt) → direction ts ≡ done kind a → maybe_range (lower n) a ≡ done r b → Lacks ident_in b
    → h ≡ Refused false (length b) → HaltsAs (adecl (lower n) ts) h
adecl_name_halts n ts kind a r b h e f w q = halts_by (adecl (lower n) ts) (behind_range (lower n) kind r b) h (adecl_name n ts kind a r b e f) (expect_halts ident_in (in_adecl (lower n) kind r) b h w q)

adecl_start : (n : ℕ) (ts : List Token) (kind : DeclKind) (a : List Token) (r : Option Bounds) (b : List Token) (m : List ℕ) (s : Spot) (c : List Token) → direction ts ≡ done kind a → maybe_range (lower n) a ≡ done r b
    → Takes ident_in (record { name = m; spot = s }) b c → adecl (lower n) ts ≡ adecl_end n kind r m c
adecl_start n ts kind a r b m s c e f w = adecl_name n ts kind a r b e f ∙ next_takes ident_in (in_adecl (lower n) kind r) refuse (record { name = m; spot = s }) b c w

pub adecl_start_halts : (n : ℕ) (ts : List Token) (kind : DeclKind) (a : List Token) (r : Option Bounds) (b : List Token) (m : List ℕ) (s : Spot) (c : List Token) (h : Halt) → direction ts ≡ done kind a → maybe_range (lower n) a ≡ done r b
    → Takes ident_in (record { name = m; spot = s }) b c → HaltsAs (start (lower n) kind c) h → HaltsAs (adecl (lower n) ts) h
adecl_start_halts n ts kind a r b m s c h e f w x = halts_by (adecl (lower n) ts) (adecl_end n kind r m c) h (adecl_start n ts kind a r b m s c e f w) (halts_then (start (lower n) kind c) (λ i. done (entry_of kind r m i)) h x)

-- for any shape of the entry before it
pub adecl_read_at : (n : ℕ) (ts : List Token) (kind : DeclKind) (a : List Token) (r : Option Bounds) (b : List Token) (m : List ℕ) (s : Spot) (c : List Token) (i : Option ExprTree) (rest : List Token) (old new : List Port) (shape : Shape)
    → direction ts ≡ done kind a → maybe_range (lower n) a ≡ done r b → Takes ident_in (record { name = m; spot = s }) b c → start (lower n) kind c ≡ done i rest → shape ≡ record { kind = kind; range = r }
    → map port_of new ≡ map port_of old ++ port_at shape m i ∷ [] → (before : Shape) → PutsPort (adecl (lower n) ts) before old new shape rest
adecl_read_at n ts kind a r b m s c i rest old new shape e f w x g q before = (
  entry_of kind r m i,
  adecl_start n ts kind a r b m s c e f w ∙ then_goes (start (lower n) kind c) (λ i. done (entry_of kind r m i)) i rest x,
  q ∙ ap (λ z. map port_of old ++ port_at z m i ∷ []) g,
  g,
)

pub ruleset adecl_steps = (adecl_refused, adecl_range_halts, adecl_name_halts, adecl_start_halts, adecl_read_at, halts_for_memory)

pub port_pushed : (old new : List Port) (p : Port) (c m : List ℕ) (d : DeclTree) (q r : Option Bounds) (kind : DeclKind) (i : Option ExprTree) (b : List ℕ) → new ≡ old ++ p ∷ [] → port_of p ≡ record { name = c; decl = Some d } → c ≡ m
    → d ≡ record { kind = kind; range = q; name = b; init = i; array = None } → q ≡ r → b ≡ m → map port_of new ≡ map port_of old ++ port_at (record { kind = kind; range = r }) m i ∷ []
port_pushed old new p c m d q r kind i b e f g h x y = ap (map port_of) e ∙ map_push port_of old p ∙ ap (λ z. map port_of old ++ z ∷ [])
    (f ∙ ap (λ z. record { name = z; decl = Some d }) g ∙ ap (λ z. record { name = m; decl = Some z }) (h ∙ ap (λ z. record { kind = kind; range = z; name = b; init = i; array = None }) x ∙ ap (λ z. record { kind = kind; range = r; name = z; init = i; array = None }) y))

pub start_none : (n : ℕ) (kind : DeclKind) (ts : List Token) → has_start kind ≡ false → start (lower n) kind ts ≡ done None ts
start_none n kind ts e = ap (λ z. (if z then init (lower n) else done None) ts) e

pub start_init : (n : ℕ) (kind : DeclKind) (ts : List Token) → kind ≡ OutputReg → start (lower n) kind ts ≡ init (lower n) ts
start_init n kind ts e = ap (λ z. start (lower n) z ts) e

pub ruleset start_steps = (start_none, start_init)

pub entry_long : (n : ℕ) (ts : List Token) → Lacks ident_in ts → entry (lower n) ts ≡ adecl (lower n) ts
entry_long n ts w = next_lacks ident_in (λ m. then_done (short_entry_of m.name) (init (lower n))) (adecl (lower n)) ts w

entry_short : (n : ℕ) (ts : List Token) (m : List ℕ) (s : Spot) (a : List Token) → Takes ident_in (record { name = m; spot = s }) ts a → entry (lower n) ts ≡ then_read (init (lower n) a) (λ i. done (short_entry_of m i))
entry_short n ts m s a w = next_takes ident_in (λ m. then_done (short_entry_of m.name) (init (lower n))) (adecl (lower n)) (record { name = m; spot = s }) ts a w

pub short_entry_halts : (n : ℕ) (ts : List Token) (m : List ℕ) (s : Spot) (a : List Token) (h : Halt) → Takes ident_in (record { name = m; spot = s }) ts a → HaltsAs (init (lower n) a) h → HaltsAs (entry (lower n) ts) h
short_entry_halts n ts m s a h w x = halts_by (entry (lower n) ts) (then_read (init (lower n) a) (λ i. done (short_entry_of m i))) h (entry_short n ts m s a w) (halts_then (init (lower n) a) (λ i. done (short_entry_of m i)) h x)

pub short_entry_read : (n : ℕ) (before : Shape) (ts : List Token) (m : List ℕ) (s : Spot) (a : List Token) (i : Option ExprTree) (rest : List Token) (old new : List Port) → Takes ident_in (record { name = m; spot = s }) ts a
    → init (lower n) a ≡ done i rest → map port_of new ≡ map port_of old ++ port_from before (short_entry_of m i) ∷ [] → PutsPort (entry (lower n) ts) before old new before rest
short_entry_read n before ts m s a i rest old new w x q = (short_entry_of m i, entry_short n ts m s a w ∙ then_goes (init (lower n) a) (λ i. done (short_entry_of m i)) i rest x, q, refl)

pub long_entry_put : (n : ℕ) (before : Shape) (ts : List Token) (old new : List Port) (after : Shape) (rest : List Token) → Lacks ident_in ts → PutsPort (adecl (lower n) ts) before old new after rest → PutsPort (entry (lower n) ts) before old new after rest
long_entry_put n before ts old new after rest w x = (x.0, entry_long n ts w ∙ x.1, x.2, x.3)

pub long_entry_halts : (n : ℕ) (ts : List Token) (h : Halt) → Lacks ident_in ts → HaltsAs (adecl (lower n) ts) h → HaltsAs (entry (lower n) ts) h
long_entry_halts n ts h w x = halts_by (entry (lower n) ts) (adecl (lower n) ts) h (entry_long n ts w) x

pub ruleset entry_steps = (long_entry_put, long_entry_halts, short_entry_halts, short_entry_read, halts_for_memory)

pub entries_first_halts : (n : ℕ) (ts : List Token) (h : Halt) → HaltsAs (adecl (lower n) ts) h → HaltsAs (adecls_at (lower n) ts) h
entries_first_halts n ts h x = halts_then (list (mark_in Comma) ParenClose (adecl (lower n)) (entry (lower n)) ts) (λ a. done (ansi_of a)) h (reached_first_halts (mark_in Comma) ParenClose (adecl (lower n)) (entry (lower n)) ts h x)

pub entries_first : (n : ℕ) (ts rest : List Token) (old new : List Port) (shape : Shape) → old ≡ [] → PutsPort (adecl (lower n) ts) first_shape old new shape rest → Entries n ts new shape rest
entries_first n ts rest old new shape e x = record {
  entries = x.0 ∷ [];
  all = x.2 ∙ ap (λ z. map port_of z ++ port_from (shape_from first_shape x.0.shape) x.0 ∷ []) e;
  shape_is = x.3;
  lists = reached_first (mark_in Comma) ParenClose (adecl (lower n)) (entry (lower n)) ts x.0 rest x.1;
}

pub entries_more : (n : ℕ) (begin : List Token) (xs ys : List Port) (shape after_shape : Shape) (s : Spot) (ts after rest : List Token) → Entries n begin xs shape ts → Takes (mark_in Comma) s ts after
    → PutsPort (entry (lower n) after) shape xs ys after_shape rest → Entries n begin ys after_shape rest
entries_more n begin xs ys shape after_shape s ts after rest g w x = record {
  entries = g.entries ++ x.0 ∷ [];
  all = x.2 ∙ ap (λ z. z ++ port_from (shape_from shape x.0.shape) x.0 ∷ []) g.all ∙ ap (λ z. ports_from first_shape g.entries ++ port_from (shape_from z x.0.shape) x.0 ∷ []) g.shape_is ∙ sym (ports_push first_shape g.entries x.0);
  shape_is = x.3 ∙ ap (λ z. shape_from z x.0.shape) g.shape_is ∙ sym (shape_push first_shape g.entries x.0);
  lists = reached_more (mark_in Comma) ParenClose (adecl (lower n)) (entry (lower n)) (local_entry (lower n) (local_lower n)) (list (mark_in Comma) ParenClose (adecl (lower n)) (entry (lower n)) begin) g.entries s ts after x.0 rest g.lists w x.1;
}

pub entries_stop : (n : ℕ) (begin : List Token) (xs : List Port) (shape : Shape) (s : Spot) (ts after : List Token) (h : Halt) → Entries n begin xs shape ts → Takes (mark_in Comma) s ts after → HaltsAs (entry (lower n) after) h
    → HaltsAs (adecls_at (lower n) begin) h
entries_stop n begin xs shape s ts after h g w x = halts_then (list (mark_in Comma) ParenClose (adecl (lower n)) (entry (lower n)) begin) (λ a. done (ansi_of a)) h
    (reached_halts (mark_in Comma) ParenClose (adecl (lower n)) (entry (lower n)) (list (mark_in Comma) ParenClose (adecl (lower n)) (entry (lower n)) begin) g.entries s ts after h g.lists w x)

pub entries_open : (n : ℕ) (begin : List Token) (xs : List Port) (shape : Shape) (ts : List Token) (h : Halt) → Entries n begin xs shape ts → Lacks (mark_in Comma) ts → Lacks (mark_in ParenClose) ts → h ≡ Refused false (length ts)
    → HaltsAs (adecls_at (lower n) begin) h
entries_open n begin xs shape ts h g v w q = halts_then (list (mark_in Comma) ParenClose (adecl (lower n)) (entry (lower n)) begin) (λ a. done (ansi_of a)) h
    (reached_open (mark_in Comma) ParenClose (adecl (lower n)) (entry (lower n)) (list (mark_in Comma) ParenClose (adecl (lower n)) (entry (lower n)) begin) g.entries ts h g.lists v w q)

pub entries_end : (n : ℕ) (begin : List Token) (xs : List Port) (shape : Shape) (ts : List Token) (s : Spot) (rest : List Token) → Entries n begin xs shape ts → Lacks (mark_in Comma) ts → Takes (mark_in ParenClose) s ts rest
    → adecls_at (lower n) begin ≡ done (record { ansi = true; list = map port_of xs }) rest
entries_end n begin xs shape ts s rest g v w = then_goes (list (mark_in Comma) ParenClose (adecl (lower n)) (entry (lower n)) begin) (λ a. done (ansi_of a)) g.entries rest
    (reached_end (mark_in Comma) ParenClose (adecl (lower n)) (entry (lower n)) (list (mark_in Comma) ParenClose (adecl (lower n)) (entry (lower n)) begin) g.entries ts s rest g.lists v w)
    ∙ ap (λ z. done (record { ansi = true; list = z }) rest) (sym g.all)

pub ruleset adecls_steps = (entries_first_halts, entries_first, entries_more, entries_stop, entries_open, entries_end)
