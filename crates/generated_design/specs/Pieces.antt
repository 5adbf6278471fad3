-- Pieces of the generated source.
use Rattle.std.specs.Prelude.{ℕ, false, List, [], ◌∷◌, ◌++◌, Option, Some, None, codes}
use Rattle.std.specs.Fmt.{decimal}
use Rattle.cdc_base.specs.declared.fault.Place.{Place}
use Rattle.cdc_base.specs.declared.size.NumberSize.TheVariants.{Plain}
use Rattle.verilog_ast.specs.declared.DeclKind.TheVariants.{Input, Reg}
use Rattle.verilog_ast.specs.declared.EdgeKind.TheVariants.{Pos}
use Rattle.verilog_ast.specs.declared.Event.TheVariants.{Edges}
use Rattle.verilog_reading.specs.ExprTree.{ExprTree, number, whole}
use Rattle.verilog_reading.specs.SourceTree.{Bounds, BodyTree, ItemTree, PortTree, decl, always}
use Rattle.verilog_reading.specs.StmtTree.{StmtTree, block, set, stmt_trees_of}

-- the name of a channel's signal, as r0, and that of a flop of its chains, as s0_1
abbrev pub signal : List ℕ → ℕ → List ℕ
signal letter channel = letter ++ decimal channel

abbrev pub flop : List ℕ → ℕ → ℕ → List ℕ
flop letter channel place = letter ++ (decimal channel ++ (codes "_" ++ decimal place))

-- a number without a size
abbrev pub plain : ℕ → ExprTree
plain value = number value 32 Plain

-- [7:0]
abbrev pub byte : Bounds
byte = record { left = plain 7; right = plain 0 }

-- no item of the source stands in a text
abbrev pub item : BodyTree → ItemTree
item body = record { place = record { line = 1; column = 1 }; body = body }

-- reg NAME = 0;
abbrev pub bit_item : List ℕ → ItemTree
bit_item name = item (decl (record { kind = Reg; range = None; name = name; init = Some (plain 0); array = None }))

-- reg [7:0] NAME;
abbrev pub byte_item : List ℕ → ItemTree
byte_item name = item (decl (record { kind = Reg; range = Some byte; name = name; init = None; array = None }))

-- TARGET <= VALUE;
abbrev pub takes : List ℕ → ExprTree → StmtTree
takes target value = set false None (whole target) value

-- always @(posedge CLOCK) begin .. end
abbrev pub clocked : List ℕ → List StmtTree → ItemTree
clocked clock steps = item (always (Edges (record { kind = Pos; name = clock } ∷ [])) (block (stmt_trees_of steps)))

-- input NAME, with its range
abbrev pub input_port : List ℕ → Option Bounds → PortTree
input_port name range = record { name = name; decl = Some (record { kind = Input; range = range; name = name; init = None; array = None }) }
