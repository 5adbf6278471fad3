-- What is promised of FIFOs.
use Rattle.std.specs.Prelude.{◌≡◌, ◌≢◌, ℕ, Bool, true, false, Some, List, [], Contains, ⊤, cond}
use Rattle.cdc_base.specs.declared.bit.Bit.{Bit}
use Rattle.cell_graph.specs.declared.net.Net.{Net}
use Rattle.cell_graph.specs.Tree.{Tree}
use Rattle.cell_graph.specs.Cofactor.{reads}
use Rattle.domains.specs.declared.Domains.{Domains}
use Rattle.domains.specs.Fit.{Fit}
use Rattle.cdc_model.specs.declared.scheme.GrayReg.{GrayReg}
use Rattle.cdc_model.specs.declared.verdict.Verdict.{Verdict as VerdictEntry}
use Rattle.cdc_model.specs.Design.{Design, flipped}
use Rattle.cdc_model.specs.Facts.{Facts, AllCalm, IsWhole, AreJustifiedBy}
use Rattle.cdc_model.specs.GrayShape.{AreNextTrees, IsGrayReg}
use Rattle.cdc_model.specs.Laws.{Fits}
use Rattle.cdc_model.specs.Listed.{IsVerdictOf}
use Rattle.cdc_model.specs.Nets.{design_of, net_trees}
use Rattle.cdc_model.specs.Runs.{State, Trace, Start, Then, now, ticks, AreLoose, IsStep, IsFirst, IsRun}
use Rattle.cdc_model.specs.Schemes.{Trees, AreTrees, AreSyncs, IsCrossing, Sync, Ring}
use Rattle.fifo_laws.specs.Fifos.{Fifo, IsFifo, AreFifos, is_fifo_crossing}
use Rattle.fifo_laws.specs.Keeps.{KeepsAll}
use Rattle.fifo_laws.specs.Order.{IsWithinDepth, ReadsOldest}

-- The trees are those of the design's next values, and the lists are of synchronizers and Gray registers.
pub record AreLists (d : Design) (tree : ℕ → Tree) (t : Trees) (syncs : List Sync) (grays : List GrayReg) : Type 0 where
  pub next : AreNextTrees d tree
  pub trees : AreTrees d t
  pub reads : (x b : Bit) → d.is_register x ≡ true → t.reads [] x b ≡ reads [] (tree x.sig) x.at b
  pub are_syncs : AreSyncs d t syncs
  pub are_grays : (g : GrayReg) → Contains grays g → IsGrayReg d tree g

-- a first state keeps each FIFO
abbrev pub FifosStart : Type 0
FifosStart = (d : Design) (tree : ℕ → Tree) (t : Trees) (syncs : List Sync) (grays : List GrayReg) (fifos : List Fifo)
    → AreLists d tree t syncs grays → AreFifos d tree syncs grays fifos → (s : State) → IsFirst d s → KeepsAll d tree syncs grays fifos s

-- each calm and whole step keeps each FIFO
abbrev pub FifosStep : Type 0
FifosStep = (d : Design) (tree : ℕ → Tree) (t : Trees) (syncs : List Sync) (grays : List GrayReg) (rings : List Ring) (fifos : List Fifo)
    → AreLists d tree t syncs grays → AreFifos d tree syncs grays fifos
    → (past : Trace) (edges : ℕ → Bool) (new : State) → IsRun d (Then past edges new) → KeepsAll d tree syncs grays fifos (now past) → Facts d syncs grays rings (now past)
    → AllCalm d syncs edges (now past) new (λ x. ⊤) → IsWhole d syncs (Then past edges new) → KeepsAll d tree syncs grays fifos new

-- where the FIFOs are kept, their crossings make no difference
abbrev pub FifosFlip : Type 0
FifosFlip = (d : Design) (tree : ℕ → Tree) (t : Trees) (syncs : List Sync) (grays : List GrayReg) (rings : List Ring) (fifos : List Fifo)
    → AreLists d tree t syncs grays → AreFifos d tree syncs grays fifos
    → (edges : ℕ → Bool) (old new : State) → IsStep d edges old new → KeepsAll d tree syncs grays fifos old → Facts d syncs grays rings old
    → AllCalm d syncs edges old new (λ x. (b : Bit) → is_fifo_crossing fifos b x ≡ false)
    → (x : Bit) → d.is_register x ≡ true → ticks d edges x ≡ true → (flips : Bit → Bool) → AreLoose d old new.values x flips
    → d.next (flipped flips old.values) x ≡ d.next (flipped (λ b. cond (is_fifo_crossing fifos b x) false (flips b)) old.values) x

-- so FIFOs justify their crossings
abbrev pub FifosJustify : Type 0
FifosJustify = (d : Design) (tree : ℕ → Tree) (t : Trees) (syncs : List Sync) (grays : List GrayReg) (rings : List Ring) (fifos : List Fifo)
    → AreLists d tree t syncs grays → AreFifos d tree syncs grays fifos → AreJustifiedBy d syncs grays rings (is_fifo_crossing fifos) (KeepsAll d tree syncs grays fifos)

-- a FIFO's crossings are crossings, and none into a plain copy
abbrev pub FifosCross : Type 0
FifosCross = (d : Design) (tree : ℕ → Tree) (t : Trees) (syncs : List Sync) (grays : List GrayReg) (fifos : List Fifo)
    → AreLists d tree t syncs grays → AreFifos d tree syncs grays fifos
    → (b x : Bit) → is_fifo_crossing fifos b x ≡ true → IsCrossing d t b x × (d.copied x ≢ Some b)

-- a run in which each step is calm and whole, and each state has the carried facts
abbrev pub IsSoundRun : Design → List Sync → List GrayReg → List Ring → Trace → Type 0
IsSoundRun d syncs grays rings (Start s) = IsFirst d s
IsSoundRun d syncs grays rings (Then past edges new) = IsSoundRun d syncs grays rings past × IsStep d edges (now past) new
    × Facts d syncs grays rings (now past) × AllCalm d syncs edges (now past) new (λ x. ⊤) × IsWhole d syncs (Then past edges new)

-- each run of a net whose verdict has no finding is such a run, by the lists of the verdict
abbrev pub CleanNetsRunSoundly : Fits → (Bit → Bit → Bool) → Type 0
CleanNetsRunSoundly fits is_extra = (net : Net) (domains : Domains) (e : VerdictEntry) → Fit net domains → (w : IsVerdictOf net domains is_extra e)
    → fits (design_of net domains) (net_trees net w.grays) w.syncs e.grays → e.findings ≡ []
    → (run : Trace) → IsRun (design_of net domains) run → IsSoundRun (design_of net domains) w.syncs e.grays w.verdict.rings run

-- FIFO order: in such a run no more is popped than pushed, and what a reader takes in a step is the oldest word
abbrev pub FifoOrder : Type 0
FifoOrder = (d : Design) (tree : ℕ → Tree) (t : Trees) (syncs : List Sync) (grays : List GrayReg) (rings : List Ring) (f : Fifo)
    → AreLists d tree t syncs grays → IsFifo d tree syncs grays f → (run : Trace) → IsSoundRun d syncs grays rings run → IsWithinDepth f run

abbrev pub FifoReads : Type 0
FifoReads = (d : Design) (tree : ℕ → Tree) (t : Trees) (syncs : List Sync) (grays : List GrayReg) (rings : List Ring) (f : Fifo)
    → AreLists d tree t syncs grays → IsFifo d tree syncs grays f
    → (past : Trace) (edges : ℕ → Bool) (new : State) → IsSoundRun d syncs grays rings (Then past edges new) → ReadsOldest d f past edges new
