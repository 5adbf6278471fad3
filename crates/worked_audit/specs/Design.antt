-- The flat design of the module, the net of its cells, its domains, and the verdict on it.
use Prim.Native.String.{String}
use Rattle.std.specs.Prelude.{ℕ, false, List, [], ◌∷◌, Some, None, codes}
use Rattle.cdc_base.specs.declared.bit.Bit.{Bit}
use Rattle.cdc_base.specs.declared.signal.Signal.{Signal}
use Rattle.cdc_base.specs.declared.signal.SigKind.{SigKind}
use Rattle.cdc_base.specs.declared.signal.SigKind.TheVariants.{Input, Register, Wire}
use Rattle.cell_graph.specs.Cells.{Cells}
use Rattle.cell_graph.specs.declared.cell.Cell.TheVariants.{Var}
use Rattle.cell_graph.specs.declared.cell.CellId.{CellId}
use Rattle.cell_graph.specs.declared.net.Net.{Net}
use Rattle.cell_graph.specs.declared.net.Reg.{Reg}
use Rattle.domains.specs.declared.Domains.{Domains}
use Rattle.cdc_model.specs.declared.scheme.Cover.{Cover}
use Rattle.cdc_model.specs.declared.scheme.Crossing.{Crossing}
use Rattle.cdc_model.specs.declared.scheme.Scheme.TheVariants.{TwoFlop}
use Rattle.cdc_model.specs.declared.verdict.Verdict.{Verdict}
use Rattle.flat_meaning.specs.Design.{Flat}
use Rattle.net_verdict.specs.declared.Judged.{Judged}
use Rattle.flat_meaning.specs.Flat.{Read, Stmt, Set, Block, stmt, no_stmts, Whole}
use Rattle.worked_audit.specs.Modules.{at_line, constraints}

-- ---- signals by number: ca 0, cb 1, d 2, q 3, a 4, s1 5, s2 6

abbrev pub signal : String → ℕ → SigKind → Signal
signal x line kind = record { name = codes x; place = at_line line; width = 1; ranged = false; left = 0; right = 0; kind = kind; known = 0; start = 0 }

abbrev pub signals : List Signal
signals =
    signal "ca" 1 Input ∷ signal "cb" 1 Input ∷ signal "d" 1 Input ∷ signal "q" 1 Wire
    ∷ signal "a" 2 Register ∷ signal "s1" 2 Register ∷ signal "s2" 2 Register ∷ []

-- a register takes a signal of one bit
abbrev pub taking : ℕ → ℕ → Stmt
taking x y = Set false (Whole x) (Read y 0 1)

abbrev pub flat : Flat
flat = record {
  signals = signals;
  assigns = (Whole 3, Read 6 0 1) ∷ [];
  combs = [];
  clocked = (0, taking 4 2) ∷ (1, Block (stmt (taking 5 4) (stmt (taking 6 5) no_stmts))) ∷ [];
  outputs = 3 ∷ [];
}

-- ---- cells: a signal each

abbrev pub cell : ℕ → CellId
cell n = record { 0 = n }

abbrev pub graph : Cells
graph = record { signals = signals; cells = Var 0 ∷ Var 1 ∷ Var 2 ∷ Var 4 ∷ Var 5 ∷ Var 6 ∷ []; calls = 6 }

abbrev pub register : (sig next clock : ℕ) → Reg
register sig next clock = record { sig = sig; next = cell next; clock = cell clock }

-- the next values are d, a and s1, and q is s2
abbrev pub net : Net
net = record { graph = graph; regs = register 4 2 0 ∷ register 5 3 1 ∷ register 6 4 1 ∷ []; outputs = cell 5 ∷ [] }

abbrev pub domains : Domains
domains = record {
  clocks = constraints.clocks;
  groups = codes "A" ∷ codes "B" ∷ [];
  clock_by_sig = None ∷ None ∷ Some 0 ∷ None ∷ Some 0 ∷ Some 1 ∷ Some 1 ∷ [];
  group_by_clock = 0 ∷ 1 ∷ [];
  statics = [];
}

-- ---- the verdict: one crossing, from a to s1, which two flops guard

abbrev pub bit_of : ℕ → Bit
bit_of sig = record { sig = sig; at = 0 }

abbrev pub crossing : Crossing
crossing = record { from = bit_of 4; to = bit_of 5 }

abbrev pub cover : Cover
cover = record { from = bit_of 4; to = bit_of 5; scheme = TwoFlop 2 }

abbrev pub verdict : Verdict
verdict = record { crossings = crossing ∷ []; grays = []; rings = []; covers = cover ∷ []; findings = [] }

-- with its one synchronizer, and no FIFO
abbrev pub judged : Judged
judged = record { verdict = verdict; syncs = record { from = bit_of 4; flops = bit_of 5 ∷ bit_of 6 ∷ [] } ∷ []; counts = []; lines = [] }
