-- What the parser's functions of items speak of.
use Rattle.std.specs.Prelude.{ℕ, Bool, ◌≡◌, Option, None, List, [], ◌∷◌, ◌++◌, map}
use Rattle.cdc_base.specs.declared.fault.Place.{Place}
use Rattle.cdc_base.specs.declared.words.Keyword.TheVariants as k
use Rattle.verilog_ast.specs.declared.DeclKind.{DeclKind}
use Rattle.verilog_ast.specs.declared.GateKind.{GateKind}
use Rattle.verilog_ast.specs.declared.Item.{Item}
use Rattle.verilog_ast.specs.declared.ParamDecl.{ParamDecl}
use Rattle.verilog_ast.specs.declared.Port.{Port}
use Rattle.verilog_items.specs.declared.header.ParamForm as parsed_form
use Rattle.verilog_items.specs.declared.header.Ports as parsed_ports
use Rattle.verilog_items.specs.declared.header.Shape as parsed_shape
use Rattle.verilog_exprs.specs.Next.{Lacks}
use Rattle.verilog_lex.specs.declared.token.Token.{Token}
use Rattle.verilog_reading.specs.Lexemes.{mark_in, word_in}
use Rattle.verilog_reading.specs.Outcome.{Outcome, done}
use Rattle.verilog_lex.specs.declared.marks.MarkKind.TheVariants.{Semicolon, Comma, ParenClose}
use Rattle.verilog_reading.specs.ItemReader.{then_both, then_done, past, maybe_delay, maybe_range, decl_items, var, param_items, setting, assign_items, driven, gate_items, gate, instance_items, overrides, placed, as_ordered, value, conn, list, long_pdecl, pdecl, listed, old_of, bare_name, ansi_of, adecl, entry}
use Rattle.verilog_reading.specs.ExprTree.{ExprTree}
use Rattle.verilog_reading.specs.ItemReading.{ParamForm, Pdecl, form_from, param_by, params_from, first_form, Shape, Entry, shape_from, port_from, Ports}
use Rattle.verilog_reading.specs.SourceTree.{Bounds, ParamTree, PortTree, ItemTree, maybe, bounds_of, param_of, port_of, item_of, ConnsTree, named}
use Rattle.verilog_reading.specs.StmtReader.{Lower}

-- the place of the next token
abbrev pub place_at : List Token → Place
place_at [] = record { line = 0; column = 0 }
place_at (t ∷ ts) = t.place

-- the reader gives these items, which are put behind the others
pub record Puts (o : Outcome (List ItemTree)) (old new : List Item) (rest : List Token) : Type 0 where
  pub added : List ItemTree
  pub reads : o ≡ done added rest
  pub all : map item_of new ≡ map item_of old ++ added

-- no declaration of a port begins with the next token
pub record NoDirection (ts : List Token) : Type 0 where
  pub input : Lacks (word_in k.Input) ts
  pub output : Lacks (word_in k.Output) ts

-- no declaration begins with the next token
pub record NoKind (ts : List Token) : Type 0 where
  pub direction : NoDirection ts
  pub wire : Lacks (word_in k.Wire) ts
  pub reg : Lacks (word_in k.Reg) ts

-- no parameter begins with the next token
pub record NoParameter (ts : List Token) : Type 0 where
  pub parameter : Lacks (word_in k.Parameter) ts
  pub local : Lacks (word_in k.LocalParam) ts

-- variables behind their range and their delay
abbrev pub vars_at : Lower → Place → DeclKind → Option Bounds → List Token → Outcome (List ItemTree)
vars_at l p kind r = then_done (decl_items p kind r) (listed Semicolon (var l))

-- parameters behind their word
abbrev pub params_at : Lower → Bool → Place → List Token → Outcome (List ItemTree)
params_at l local p = then_both (param_items p local) (maybe_range l) (listed Semicolon (setting l))

-- assignments behind their delay, and behind `assign`
abbrev pub drives_at : Lower → Place → List Token → Outcome (List ItemTree)
drives_at l p = then_done (assign_items p) (listed Semicolon (driven l))

abbrev pub assigns_at : Lower → Place → List Token → Outcome (List ItemTree)
assigns_at l p = past maybe_delay (drives_at l p)

-- gates behind their delay, and behind the word of their kind
abbrev pub gate_list_at : Lower → Place → GateKind → List Token → Outcome (List ItemTree)
gate_list_at l p kind = then_done (gate_items p kind) (listed Semicolon (gate l))

abbrev pub gates_at : Lower → Place → GateKind → List Token → Outcome (List ItemTree)
gates_at l p kind = past maybe_delay (gate_list_at l p kind)

-- instances behind the name of their module
abbrev pub instances_at : Lower → Place → List ℕ → List Token → Outcome (List ItemTree)
instances_at l p n = then_both (instance_items p n) (overrides l) (listed Semicolon (placed l))

-- the two styles of connections, behind their parenthesis
abbrev pub ordered_at : Lower → List Token → Outcome ConnsTree
ordered_at l = then_done as_ordered (listed ParenClose (value l))

abbrev pub named_at : Lower → List Token → Outcome ConnsTree
named_at l = then_done named (listed ParenClose (conn l))

-- the entries of a header behind their parenthesis
abbrev pub pdecls_at : Lower → List Token → Outcome (List ParamTree)
pdecls_at l = then_done (params_from first_form) (list (mark_in Comma) ParenClose (long_pdecl l) (pdecl l))

abbrev pub names_at : List Token → Outcome Ports
names_at = then_done old_of (listed ParenClose bare_name)

abbrev pub adecls_at : Lower → List Token → Outcome Ports
adecls_at l = then_done ansi_of (list (mark_in Comma) ParenClose (adecl l) (entry l))

-- the word and range that stand behind entries
abbrev pub last_form : ParamForm → List Pdecl → ParamForm
last_form before [] = before
last_form before (a ∷ bs) = last_form (form_from before a.form) bs

-- the shape that stands behind entries
abbrev pub last_shape : Shape → List Entry → Shape
last_shape before [] = before
last_shape before (a ∷ bs) = last_shape (shape_from before a.shape) bs

-- the reader gives an entry, whose parameter is put behind the others; and the word and range that it leaves to the next
abbrev pub PutsParam : Outcome Pdecl → ParamForm → List ParamDecl → List ParamDecl → ParamForm → List Token → Type 0
PutsParam o before old new after rest = (a : Pdecl) × (o ≡ done a rest) × (map param_of new ≡ map param_of old ++ param_by (form_from before a.form) a.setting ∷ []) × (after ≡ form_from before a.form)

-- the reader gives an entry, whose port is put behind the others; and the shape that it leaves to the next
abbrev pub PutsPort : Outcome Entry → Shape → List Port → List Port → Shape → List Token → Type 0
PutsPort o before old new after rest = (a : Entry) × (o ≡ done a rest) × (map port_of new ≡ map port_of old ++ port_from (shape_from before a.shape) a ∷ []) × (after ≡ shape_from before a.shape)

-- a port of that shape
abbrev pub port_at : Shape → List ℕ → Option ExprTree → PortTree
port_at s n e = port_from s (record { shape = None; name = n; init = e })

-- what the parser keeps of a header
abbrev pub form_of : parsed_form.ParamForm → ParamForm
form_of f = record { local = f.local; range = maybe bounds_of f.range }

abbrev pub shape_of : parsed_shape.Shape → Shape
shape_of s = record { kind = s.kind; range = maybe bounds_of s.range }

abbrev pub header_ports : parsed_ports.Ports → Ports
header_ports p = record { ansi = p.ansi; list = map port_of p.list }
