-- The module and the constraints that the texts say.
use Prim.Native.String.{String}
use Rattle.std.specs.Prelude.{ℕ, true, false, List, [], ◌∷◌, Some, None, codes}
use Rattle.cdc_base.specs.declared.fault.Place.{Place}
use Rattle.clock_constraints.specs.declared.Constraints.{Constraints}
use Rattle.verilog_ast.specs.declared.DeclKind.{DeclKind}
use Rattle.verilog_ast.specs.declared.DeclKind.TheVariants.{Input, Output, Reg}
use Rattle.verilog_ast.specs.declared.EdgeKind.TheVariants.{Pos}
use Rattle.verilog_ast.specs.declared.Event.TheVariants.{Edges}
use Rattle.verilog_reading.specs.ExprTree.{name, whole}
use Rattle.verilog_reading.specs.StmtTree.{StmtTree, set, block, and_rows, no_rows}
use Rattle.verilog_reading.specs.SourceTree.{BodyTree, DeclTree, ItemTree, ModuleTree, PortTree, always, assign, decl}

abbrev pub at_line : ℕ → Place
at_line line = record { line = line; column = 1 }

abbrev pub declared : DeclKind → String → DeclTree
declared kind x = record { kind = kind; range = None; name = codes x; init = None; array = None }

abbrev pub port : DeclKind → String → PortTree
port kind x = record { name = codes x; decl = Some (declared kind x) }

abbrev pub item : ℕ → BodyTree → ItemTree
item line body = record { place = at_line line; body = body }

-- x <= y
abbrev pub takes : String → String → StmtTree
takes x y = set false None (whole (codes x)) (name (codes y))

abbrev pub at_clock : String → StmtTree → BodyTree
at_clock clock body = always (Edges (record { kind = Pos; name = codes clock } ∷ [])) body

abbrev pub modules : List ModuleTree
modules = record {
  place = at_line 1;
  name = codes "m";
  ansi = true;
  params = [];
  ports = port Input "ca" ∷ port Input "cb" ∷ port Input "d" ∷ port Output "q" ∷ [];
  items = item 2 (decl (declared Reg "a")) ∷ item 2 (decl (declared Reg "s1")) ∷ item 2 (decl (declared Reg "s2"))
      ∷ item 3 (at_clock "ca" (takes "a" "d"))
      ∷ item 4 (at_clock "cb" (block (and_rows (takes "s1" "a") (and_rows (takes "s2" "s1") no_rows))))
      ∷ item 5 (assign (whole (codes "q")) (name (codes "s2"))) ∷ [];
} ∷ []

-- each clock has a group of its own and one cycle to settle; d changes with the first clock
abbrev pub constraints : Constraints
constraints = record {
  top = codes "m";
  clocks = record { name = codes "ca"; group = codes "A"; settle = 1 } ∷ record { name = codes "cb"; group = codes "B"; settle = 1 } ∷ [];
  inputs = record { name = codes "d"; clock = 0 } ∷ [];
  resets = [];
  statics = [];
  waivers = [];
}
