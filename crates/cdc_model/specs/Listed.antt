-- How the code lists synchronizers, rings, findings and verdicts.
use Rattle.std.specs.Prelude.{◌≡◌, suc, Bool, true, Some, List, [], ◌∷◌, ◌++◌, map, length, Contains}
use Rattle.cdc_base.specs.declared.bit.Bit.{Bit}
use Rattle.cell_graph.specs.declared.cell.Cell.TheVariants.{Var}
use Rattle.cell_graph.specs.declared.cell.Node.{Node}
use Rattle.cell_graph.specs.declared.net.Net.{Net}
use Rattle.cell_graph.specs.Cells.{Cells, cell_at}
use Rattle.cell_graph.specs.Cofactor.{reads}
use Rattle.cell_graph.specs.Feeds.{feeds_of}
use Rattle.cell_graph.specs.Unfolded.{tree_of}
use Rattle.domains.specs.declared.Domains.{Domains}
use Rattle.cdc_model.specs.declared.scheme.Arrival.{Arrival}
use Rattle.cdc_model.specs.declared.scheme.GrayReg.{GrayReg}
use Rattle.cdc_model.specs.declared.scheme.Load.{Load}
use Rattle.cdc_model.specs.declared.scheme.Ring.{Ring as RingEntry}
use Rattle.cdc_model.specs.declared.scheme.Sync.{Sync as SyncEntry}
use Rattle.cdc_model.specs.declared.verdict.Finding.{Finding as FindingEntry}
use Rattle.cdc_model.specs.declared.verdict.Finding.TheVariants as entry
use Rattle.cdc_model.specs.declared.verdict.Verdict.{Verdict as VerdictEntry}
use Rattle.cdc_model.specs.Design.{Design}
use Rattle.cdc_model.specs.Nets.{next_cell, design_of, net_trees, FindsGrays}
use Rattle.cdc_model.specs.Schemes.{Trees, Sync, flops, Ring, ring_bits}
use Rattle.cdc_model.specs.Verdict.{Finding, V1, V2, V3, V4, V5, V6, V7, V8, flops_listed, AreArrivalsListed, Verdict, IsVerdict}

-- a synchronizer as its source and all its flops
abbrev pub sync_entry : Sync → SyncEntry
sync_entry s = record { from = s.from; flops = flops s }

-- a ring as all its bits, with the places of the last flop there and of the acknowledgement
abbrev pub ring_entry : Ring → RingEntry
ring_entry r = record { bits = ring_bits r; end = length (flops r.there); ack = suc (length (flops r.there)) }

-- the cell's bit reads b, without a cube
abbrev pub node_reads : Cells → Bit → Node → Bool
node_reads g b n = reads [] (tree_of g n.cell) n.at b

-- the node is the first of the list that reads b
abbrev pub IsFirstReading : Cells → Bit → List Node → Node → Type 0
IsFirstReading g b ns m = (before : List Node) × (after : List Node) × (ns ≡ before ++ m ∷ after) × (node_reads g b m ≡ true) × ((n : Node) → Contains before n → node_reads g b n ≡ true → ⊥)

-- from each node to its feed of least number that reads b, and down to the node of b
abbrev pub IsNodePath : Cells → Bit → List Node → Type 0
IsNodePath g b [] = ⊥
IsNodePath g b (n ∷ []) = (cell_at g n.cell ≡ Var b.sig) × (n.at ≡ b.at)
IsNodePath g b (n ∷ m ∷ ns) = IsFirstReading g b (feeds_of g (cell_at g n.cell) n.at) m × IsNodePath g b (m ∷ ns)

-- the list begins with this node
abbrev pub BeginsWith : Node → List Node → Type 0
BeginsWith n ns = (more : List Node) × (ns ≡ n ∷ more)

-- the path of a crossing, from its end's next value to its source
pub record IsPathOf (net : Net) (b x : Bit) (path : List Node) : Type 0 where
  pub start : (start : Node) × (next_cell net.regs x.sig ≡ Some start.cell) × (start.at ≡ x.at) × BeginsWith start path
  pub walk : IsNodePath net.graph b path

-- the finding as the code lists it, with its path, its first flops or its arrivals
abbrev pub IsEntry : Net → Design → Trees → List Sync → Finding → FindingEntry → Type 0
IsEntry net d t syncs (V1 b x) e = (path : List Node) × IsPathOf net b x path × (e ≡ entry.V1 b x path)
IsEntry net d t syncs (V2 b x) e = (path : List Node) × IsPathOf net b x path × (e ≡ entry.V2 b x path)
IsEntry net d t syncs (V3 w g) e = e ≡ entry.V3 w g (flops_listed d syncs (V3 w g))
IsEntry net d t syncs (V4 b g) e = e ≡ entry.V4 b g (flops_listed d syncs (V4 b g))
IsEntry net d t syncs (V5 w g) e = e ≡ entry.V5 w g (flops_listed d syncs (V5 w g))
IsEntry net d t syncs (V6 x g) e = (arrivals : List Arrival) × AreArrivalsListed d t syncs x g arrivals × (e ≡ entry.V6 x g arrivals)
IsEntry net d t syncs (V7 b x n) e = (path : List Node) × IsPathOf net b x path × (e ≡ entry.V7 b x n path)
IsEntry net d t syncs (V8 b x n) e = (path : List Node) × IsPathOf net b x path × (e ≡ entry.V8 b x n path)

-- each finding has its entry, in order
abbrev pub AreEntries : Net → Design → Trees → List Sync → List Finding → List FindingEntry → Type 0
AreEntries net d t syncs [] [] = Unit {0}
AreEntries net d t syncs [] (e ∷ es) = ⊥
AreEntries net d t syncs (f ∷ fs) [] = ⊥
AreEntries net d t syncs (f ∷ fs) (e ∷ es) = IsEntry net d t syncs f e × AreEntries net d t syncs fs es

-- The verdict as the code lists it.
pub record IsListed (net : Net) (d : Design) (t : Trees) (syncs : List Sync) (v : Verdict) (listed : VerdictEntry) : Type 0 where
  pub crossings : listed.crossings ≡ v.crossings
  pub grays : listed.grays ≡ v.grays
  pub rings : listed.rings ≡ map ring_entry v.rings
  pub covers : listed.covers ≡ v.covers
  pub findings : AreEntries net d t syncs v.findings listed.findings

-- The verdict of a net under its domains, as the code lists it.
pub record IsVerdictOf (net : Net) (domains : Domains) (is_extra : Bit → Bit → Bool) (listed : VerdictEntry) : Type 0 where
  -- which pairs of registers are counters with their codes, all synchronizers and all loads
  pub grays : GrayReg → Bool
  pub finds : FindsGrays net domains grays
  pub syncs : List Sync
  pub loads : List Load
  pub verdict : Verdict
  pub is_verdict : IsVerdict (design_of net domains) (net_trees net grays) is_extra syncs loads verdict
  pub is_listed : IsListed net (design_of net domains) (net_trees net grays) syncs verdict listed
