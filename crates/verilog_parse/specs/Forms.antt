-- What the parser's functions of modules speak of.
use Rattle.std.specs.Prelude.{ℕ, ◌≡◌, List, [], ◌∷◌, ◌++◌, map}
use Rattle.cdc_base.specs.declared.fault.Place.{Place}
use Rattle.cdc_base.specs.declared.words.Keyword.TheVariants as k
use Rattle.verilog_ast.specs.declared.Edge.{Edge}
use Rattle.verilog_ast.specs.declared.Event.{Event}
use Rattle.verilog_ast.specs.declared.Event.TheVariants as events
use Rattle.verilog_ast.specs.declared.Item.{Item}
use Rattle.verilog_lex.specs.declared.token.Token.{Token}
use Rattle.verilog_lex.specs.declared.marks.MarkKind.TheVariants.{ParenClose}
use Rattle.verilog_reading.specs.ItemReader.{list, then_done, edge, separator_in, item, in_always, in_initial}
use Rattle.verilog_reading.specs.ItemReading.{Ports}
use Rattle.verilog_reading.specs.Lexemes.{Spot, word_in}
use Rattle.verilog_reading.specs.Lists.{many}
use Rattle.verilog_reading.specs.Outcome.{Outcome, done, next, expect}
use Rattle.verilog_reading.specs.SourceTree.{ParamTree, ItemTree, item_of, ModuleTree, joined}
use Rattle.verilog_reading.specs.StmtReader.{Lower}

-- edges behind their parenthesis
abbrev pub edges_at : List Token → Outcome Event
edges_at = then_done events.Edges (list separator_in ParenClose edge edge)

-- the reader gives an edge, which is put behind the others
abbrev pub PutsEdge : Outcome Edge → List Edge → List Edge → List Token → Type 0
PutsEdge o old new rest = (x : Edge) × (o ≡ done x rest) × (new ≡ old ++ x ∷ [])

-- a process
abbrev pub process_at : Lower → List Token → Outcome (List ItemTree)
process_at l = next (word_in k.Always) (in_always l) (expect (word_in k.Initial) (in_initial l))

-- the items of a module, up to its end
pub record ItemsRead (l : Lower) (ts : List Token) (xs : List Item) (rest : List Token) : Type 0 where
  pub rows : List (List ItemTree)
  pub spot : Spot
  pub reads : many (word_in k.EndModule) (item l) ts ≡ done (rows, spot) rest
  pub all : map item_of xs ≡ joined rows

-- a module of these parts
abbrev pub module_at : Place → List ℕ → List ParamTree → Ports → List ItemTree → ModuleTree
module_at p n ps q items = record { place = p; name = n; ansi = q.ansi; params = ps; ports = q.list; items = items }
