-- Words for small sources: each item stands on a line of its own, from line 2 on, and the header on line 1.
use Prim.Native.String.{String}
use Rattle.std.proofs.Common.{ℕ, suc, Bool, true, false, List, [], ◌∷◌, map, Option, Some, None}
use Rattle.std.specs.Prelude.{codes}
use Rattle.cdc_base.specs.declared.fault.Place.{Place}
use Rattle.cdc_base.specs.declared.size.NumberSize.TheVariants.{Plain, Unsized, Sized}
use Rattle.cdc_base.specs.declared.signal.Signal.{Signal}
use Rattle.cdc_base.specs.declared.signal.SigKind.{SigKind}
use Rattle.verilog_ast.specs.declared.DeclKind.{DeclKind}
use Rattle.verilog_ast.specs.declared.DeclKind.TheVariants as k
use Rattle.verilog_ast.specs.declared.Event.TheVariants as event
use Rattle.verilog_ast.specs.declared.Edge.{Edge}
use Rattle.verilog_ast.specs.declared.EdgeKind.{EdgeKind}
use Rattle.verilog_ast.specs.declared.EdgeKind.TheVariants as edge
use Rattle.verilog_reading.specs.ExprTree.{ExprTree, number, name, index, join, and_trees, no_trees, TargetTree, whole, index_of, join_of, and_parts, no_parts}
use Rattle.verilog_reading.specs.StmtTree.{StmtTree, set, block, stmt_trees_of}
use Rattle.verilog_reading.specs.SourceTree.{Bounds, ParamTree, DeclTree, PortTree, BodyTree, param, decl, instance, always, ordered, ItemTree, ModuleTree}
use Rattle.flat_meaning.specs.Design.{Flat}
use Rattle.flat_unfolding.specs.Outcome.{Outcome, refused}
use Rattle.flat_unfolding.specs.Unfolding.{unfolded}

-- ---- expressions and targets

abbrev pub v : String → ExprTree
v x = name (codes x)

abbrev pub plain : ℕ → ExprTree
plain n = number n 32 Plain

abbrev pub sized : (width n : ℕ) → ExprTree
sized w n = number n w Sized

abbrev pub unsized : ℕ → ExprTree
unsized n = number n 32 Unsized

abbrev pub bit : String → ExprTree → ExprTree
bit x i = index (codes x) i

abbrev pub pair : ExprTree → ExprTree → ExprTree
pair a b = join (and_trees a (and_trees b no_trees))

abbrev pub to : String → TargetTree
to x = whole (codes x)

abbrev pub to_bit : String → ExprTree → TargetTree
to_bit x i = index_of (codes x) i

abbrev pub to_pair : TargetTree → TargetTree → TargetTree
to_pair a b = join_of (and_parts a (and_parts b no_parts))

-- ---- statements

abbrev pub blocking : TargetTree → ExprTree → StmtTree
blocking t e = set true None t e

abbrev pub later : TargetTree → ExprTree → StmtTree
later t e = set false None t e

abbrev pub rows : List StmtTree → StmtTree
rows ss = block (stmt_trees_of ss)

-- ---- items

abbrev pub range : ExprTree → ExprTree → Option Bounds
range l r = Some (record { left = l; right = r })

abbrev pub down_to_zero : ℕ → Option Bounds
down_to_zero n = range (plain n) (plain 0)

abbrev pub declared : DeclKind → Option Bounds → String → Option ExprTree → DeclTree
declared kind r x e = record { kind = kind; range = r; name = codes x; init = e; array = None }

abbrev pub wire : Option Bounds → String → BodyTree
wire r x = decl (declared k.Wire r x None)

abbrev pub wire_with : String → ExprTree → BodyTree
wire_with x e = decl (declared k.Wire None x (Some e))

abbrev pub reg : Option Bounds → String → BodyTree
reg r x = decl (declared k.Reg r x None)

abbrev pub reg_with : Option Bounds → String → ExprTree → BodyTree
reg_with r x e = decl (declared k.Reg r x (Some e))

abbrev pub memory : Option Bounds → String → Option Bounds → BodyTree
memory r x a = decl (record { kind = k.Reg; range = r; name = codes x; init = None; array = a })

abbrev pub parameter_of : Bool → Option Bounds → String → ExprTree → ParamTree
parameter_of local r x e = record { local = local; range = r; name = codes x; value = e }

abbrev pub parameter : Option Bounds → String → ExprTree → BodyTree
parameter r x e = param (parameter_of false r x e)

abbrev pub localparam : String → ExprTree → BodyTree
localparam x e = param (parameter_of true None x e)

abbrev pub of_wires : StmtTree → BodyTree
of_wires s = always event.Star s

abbrev pub on : EdgeKind → String → Edge
on kind x = record { kind = kind; name = codes x }

abbrev pub at_clock : String → StmtTree → BodyTree
at_clock x s = always (event.Edges (on edge.Pos x ∷ [])) s

abbrev pub at_clock_or : String → Edge → StmtTree → BodyTree
at_clock_or x e s = always (event.Edges (on edge.Pos x ∷ e ∷ [])) s

abbrev pub instance_of : String → String → List ExprTree → BodyTree
instance_of child x es = instance (codes child) (ordered []) (codes x) (ordered (given es))
  where
    given : List ExprTree → List (Option ExprTree)
    given [] = []
    given (e ∷ rest) = Some e ∷ given rest

-- `input a;` and the like, as a module with a list of names has them
abbrev pub port_item : DeclKind → Option Bounds → String → BodyTree
port_item kind r x = decl (declared kind r x None)

-- ---- modules

abbrev pub place : (line column : ℕ) → Place
place l c = record { line = l; column = c }

abbrev pub in_lines : ℕ → List BodyTree → List ItemTree
in_lines n [] = []
in_lines n (b ∷ rest) = record { place = place n 1; body = b } ∷ in_lines (suc n) rest

abbrev pub port : DeclKind → Option Bounds → String → PortTree
port kind r x = record { name = codes x; decl = Some (declared kind r x None) }

abbrev pub input : String → PortTree
input x = port k.Input None x

abbrev pub output : String → PortTree
output x = port k.Output None x

abbrev pub a_module : String → List ParamTree → List PortTree → List BodyTree → ModuleTree
a_module x ps ports bodies = record { place = place 1 1; name = codes x; ansi = true; params = ps; ports = ports; items = in_lines 2 bodies }

-- the header has names alone
abbrev pub an_old_module : String → List String → List BodyTree → ModuleTree
an_old_module x ports bodies = record { place = place 1 1; name = codes x; ansi = false; params = []; ports = map (λ y. record { name = codes y; decl = None }) ports; items = in_lines 2 bodies }

abbrev pub top_m : List ModuleTree → Outcome Flat
top_m modules = unfolded modules (codes "m") [] []

-- `module m(input ca, cb, d, e, input [3:0] v, output q, output [7:0] o);` and these items
abbrev pub in_h : List BodyTree → ModuleTree
in_h bodies = a_module "m" [] (input "ca" ∷ input "cb" ∷ input "d" ∷ input "e" ∷ port k.Input (down_to_zero 3) "v" ∷ output "q" ∷ port k.Output (down_to_zero 7) "o" ∷ []) bodies

abbrev pub h : List BodyTree → Outcome Flat
h bodies = top_m (in_h bodies ∷ [])

-- the same with the reset `e`, active low
abbrev pub h_reset : List BodyTree → Outcome Flat
h_reset bodies = unfolded (in_h bodies ∷ []) (codes "m") (record { name = codes "e"; high = false } ∷ []) []

-- `module m(input d, output q); n u(d, q); endmodule`, where `module n(input a, output b);` has these items and the constraints name `u.b`
abbrev pub with_stub : List BodyTree → Outcome Flat
with_stub bodies = unfolded (a_module "n" [] (input "a" ∷ output "b" ∷ []) bodies
    ∷ a_module "m" [] (input "d" ∷ output "q" ∷ []) (instance_of "n" "u" (v "d" ∷ v "q" ∷ []) ∷ []) ∷ []) (codes "m") [] (codes "u.b" ∷ [])

-- ---- what is expected

-- a refusal at the item on a line, or at the header on line 1
abbrev pub refused_at : ℕ → ℕ → String → Outcome Flat
refused_at n line x = refused n (Some (place line 1)) (codes x)

-- a signal without a range, of no start value
abbrev pub one_bit : String → ℕ → SigKind → Signal
one_bit x line kind = record { name = codes x; place = place line 1; width = 1; ranged = false; left = 0; right = 0; kind = kind; known = 0; start = 0 }

abbrev pub ranged : String → ℕ → ℕ → SigKind → Signal
ranged x line n kind = record (one_bit x line kind) { width = suc n; ranged = true; left = n }

abbrev pub starts_as : ℕ → ℕ → Signal → Signal
starts_as known start s = record s { known = known; start = start }
