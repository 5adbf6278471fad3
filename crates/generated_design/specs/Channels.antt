-- The source of the generated design.
use Rattle.std.specs.Prelude.{ℕ, zero, suc, ◌+◌, ◌%◌, true, List, [], ◌∷◌, ◌++◌, map, Some, None, codes}
use Rattle.verilog_ast.specs.declared.BinaryOp.TheVariants.{Eq, Ne, LogicAnd}
use Rattle.verilog_ast.specs.declared.UnaryOp.TheVariants.{Not}
use Rattle.verilog_reading.specs.ExprTree.{ExprTree, name, binary, unary}
use Rattle.verilog_reading.specs.SourceTree.{ItemTree, ModuleTree, PortTree}
use Rattle.verilog_reading.specs.StmtTree.{StmtTree, block, stmt_trees_of, when}
use Rattle.generated_design.specs.Pieces.{signal, flop, byte, bit_item, byte_item, takes, clocked, input_port}

-- the flops of a chain, from the first to that of this place
abbrev pub chain : List ℕ → ℕ → ℕ → List (List ℕ)
chain letter channel zero = []
chain letter channel (suc place) = chain letter channel place ++ flop letter channel (suc place) ∷ []

-- what the next flop of a chain copies: the flop of this place, or the source
abbrev pub stage : List ℕ → ℕ → List ℕ → ℕ → List ℕ
stage letter channel source zero = source
stage letter channel source (suc place) = flop letter channel (suc place)

-- each flop of the chain copies the one before, and the first the source
abbrev pub shifts : List ℕ → ℕ → List ℕ → ℕ → List StmtTree
shifts letter channel source zero = []
shifts letter channel source (suc place) =
    shifts letter channel source place ++ takes (flop letter channel (suc place)) (name (stage letter channel source place)) ∷ []

-- a channel's declarations: request, its chain, acknowledgement, its chain, the data that is sent, the data that is taken
abbrev pub declarations : ℕ → ℕ → List ItemTree
declarations channel flops =
    ((((bit_item (signal (codes "r") channel) ∷ []) ++ map bit_item (chain (codes "s") channel flops))
    ++ bit_item (signal (codes "t") channel) ∷ []) ++ map bit_item (chain (codes "k") channel flops))
    ++ byte_item (signal (codes "a") channel) ∷ byte_item (signal (codes "x") channel) ∷ []

-- the request toggles, and the data is taken
abbrev pub sending : ℕ → StmtTree
sending channel = block (stmt_trees_of
    (takes (signal (codes "r") channel) (unary Not (name (signal (codes "r") channel)))
    ∷ takes (signal (codes "a") channel) (name (codes "d")) ∷ []))

-- where the acknowledgement that came equals the request, send sends
abbrev pub send_step : ℕ → ℕ → StmtTree
send_step channel flops =
    when (binary LogicAnd (name (codes "send")) (binary Eq (name (signal (codes "r") channel)) (name (flop (codes "k") channel flops)))) (sending channel)

-- the sending side: the acknowledgement comes through its chain
abbrev pub sender : ℕ → ℕ → ItemTree
sender channel flops = clocked (codes "ca") (shifts (codes "k") channel (signal (codes "t") channel) flops ++ send_step channel flops ∷ [])

-- the request that came is acknowledged
abbrev pub acknowledge_step : ℕ → ℕ → StmtTree
acknowledge_step channel flops = takes (signal (codes "t") channel) (name (flop (codes "s") channel flops))

-- where it differs from the acknowledgement, the data is taken
abbrev pub load_step : ℕ → ℕ → StmtTree
load_step channel flops =
    when (binary Ne (name (flop (codes "s") channel flops)) (name (signal (codes "t") channel))) (takes (signal (codes "x") channel) (name (signal (codes "a") channel)))

-- the receiving side: the request comes through its chain
abbrev pub receiver : ℕ → ℕ → ItemTree
receiver channel flops = clocked (codes "cb")
    ((shifts (codes "s") channel (signal (codes "r") channel) flops ++ acknowledge_step channel flops ∷ []) ++ load_step channel flops ∷ [])

-- a channel with chains of so many flops
abbrev pub channel_of : ℕ → ℕ → List ItemTree
channel_of channel flops = (declarations channel flops ++ sender channel flops ∷ []) ++ receiver channel flops ∷ []

-- the channels from the first on; the channel i has chains of 2 + i mod 3 flops
abbrev pub channels : ℕ → List ItemTree
channels zero = []
channels (suc channel) = channels channel ++ channel_of channel (2 + channel % 3)

-- input ca, cb, send, input [7:0] d
abbrev pub generated_ports : List PortTree
generated_ports =
    input_port (codes "ca") None ∷ input_port (codes "cb") None ∷ input_port (codes "send") None ∷ input_port (codes "d") (Some byte) ∷ []

-- the module m with so many channels
unfoldable pub generated_source : ℕ → List ModuleTree
generated_source n = record {
  place = record { line = 1; column = 1 };
  name = codes "m";
  ansi = true;
  params = [];
  ports = generated_ports;
  items = channels n;
} ∷ []
