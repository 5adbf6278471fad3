-- What synchronizers, rings, Gray codes, verdicts and records promise of every run.
use Rattle.std.specs.Prelude.{◌≡◌, ℕ, Bool, true, None, ◌↔◌, List, [], ◌∷◌, map}
use Rattle.std.specs.List.{AllByRecursion}
use Rattle.cdc_base.specs.declared.bit.Bit.{Bit}
use Rattle.cell_graph.specs.declared.net.Net.{Net}
use Rattle.cell_graph.specs.Cofactor.{reads}
use Rattle.cell_graph.specs.Tree.{Tree}
use Rattle.domains.specs.declared.Domains.{Domains}
use Rattle.domains.specs.Fit.{Fit}
use Rattle.domains.specs.Nets.{IsNet}
use Rattle.cdc_model.specs.declared.scheme.Cover.{Cover}
use Rattle.cdc_model.specs.declared.scheme.GrayReg.{GrayReg}
use Rattle.cdc_model.specs.declared.scheme.Ring.{Ring as RingEntry}
use Rattle.cdc_model.specs.declared.verdict.Verdict.{Verdict as VerdictEntry}
use Rattle.cdc_model.specs.Chain.{ChainStep, ChainRun}
use Rattle.cdc_model.specs.Design.{Design}
use Rattle.cdc_model.specs.Facts.{OnlySettling, RingTurnsOnce, Facts}
use Rattle.cdc_model.specs.Found.{crossings_of}
use Rattle.cdc_model.specs.Gray.{gray_code, increment, DifferInOne, IsGray}
use Rattle.cdc_model.specs.GrayShape.{AreNextTrees, IsGrayReg}
use Rattle.cdc_model.specs.Listed.{IsListed, IsVerdictOf}
use Rattle.cdc_model.specs.Nets.{is_register_bit, design_of, net_trees, AreAscending, FindsGrays}
use Rattle.cdc_model.specs.Ordered.{IsAll}
use Rattle.cdc_model.specs.Path.{path, IsPathTo}
use Rattle.cdc_model.specs.Recorded.{IsFinite, AreSame, AreSameRuns, first_state}
use Rattle.cdc_model.specs.declared.record.Given.{Given}
use Rattle.cdc_model.specs.declared.record.RecordStep.{RecordStep}
use Rattle.cdc_model.specs.declared.record.Record.{Record}
use Rattle.cdc_model.specs.Replay.{opened, step_fault, IsFixedStep, AreClocks, replayed, Ran}
use Rattle.cdc_model.specs.Runs.{State, Trace, IsRun, IsStep, InEachState}
use Rattle.cdc_model.specs.declared.scheme.Load.{Load}
use Rattle.cdc_model.specs.Schemes.{Trees, AreTrees, IsCrossing, Sync, IsSync, AreSyncs, Ring, IsRing, ring_bits, Justified}
use Rattle.cdc_model.specs.Sound.{Sound}
use Rattle.cdc_model.specs.Syncs.{syncs_of}
use Rattle.cdc_model.specs.Together.{IsTogether, OneFamily}
use Rattle.cdc_model.specs.Verdict.{AreCovers, crossing_key, sync_key, Verdict, IsVerdict}

-- what the flops of synchronizers take in a step, where only settling flops are unsettled before it
abbrev pub ChainSettlesInAStep : Type 0
ChainSettlesInAStep = (d : Design) (t : Trees) (syncs : List Sync) → AreTrees d t → AreSyncs d t syncs
    → (edges : ℕ → Bool) (old new : State) → IsStep d edges old new → OnlySettling d syncs old → ChainStep d syncs edges old new

-- what settling flops hold after a run in which only they were unsettled
abbrev pub ChainSettlesInARun : Type 0
ChainSettlesInARun = (d : Design) (t : Trees) (syncs : List Sync) → AreTrees d t → AreSyncs d t syncs
    → (run : Trace) → IsRun d run → InEachState (OnlySettling d syncs) run → ChainRun d syncs run

-- between states in which only settling flops are unsettled, the values round a ring go on changing at most once
abbrev pub RingsTurnOnce : Type 0
RingsTurnOnce = (d : Design) (t : Trees) (syncs : List Sync) → AreTrees d t → AreSyncs d t syncs
    → (r : Ring) → IsRing d t syncs r → (edges : ℕ → Bool) (old new : State) → IsStep d edges old new → OnlySettling d syncs old → OnlySettling d syncs new
    → RingTurnsOnce r old → RingTurnsOnce r new

-- the Gray codes of a count and of the next one differ in one bit
abbrev pub CodesDifferInOne : Type 0
CodesDifferInOne = (b : Bool) (bs : List Bool) → DifferInOne (gray_code (b ∷ bs)) (gray_code (increment (b ∷ bs)))

-- a record's step is refused exactly where it asks for what isn't met
abbrev pub StepsAreFixed : Type 0
StepsAreFixed = (d : Design) (s : State) (k : RecordStep) → (step_fault d s k ≡ None) ↔ IsFixedStep d s k

-- what a record fixes is a run
abbrev pub RecordsFixRuns : Type 0
RecordsFixRuns = (d : Design) (r : Record) → AllByRecursion (AreClocks d) r.steps → (run : Trace) → replayed d r ≡ Ran run → IsRun d run

-- every run from an opened state goes through the states of some record's run
abbrev pub RunsHaveRecords : Type 0
RunsHaveRecords = (d : Design) (t : Trees) → AreTrees d t → IsFinite d → (start : List Given) (run : Trace) → IsRun d run → AreSame (first_state run) (opened d start)
    → (ks : List RecordStep) × (q : Trace) × (replayed d (record { start = start; steps = ks }) ≡ Ran q) × AreSameRuns d run q

-- a clean verdict's lists justify the design, its words enter a group on one clock and its readers read one family, and its covers are those of the lists
abbrev pub CleanIsJustified : Type 0
CleanIsJustified = (d : Design) (t : Trees) (is_extra : Bit → Bit → Bool) (syncs : List Sync) (loads : List Load) (v : Verdict)
    → IsVerdict d t is_extra syncs loads v → v.findings ≡ []
    → Justified d t syncs v.grays v.rings loads is_extra × OneFamily d t syncs × AreCovers v.grays syncs loads v.covers

-- two verdicts of a design are the same
abbrev pub VerdictsAreOne : Type 0
VerdictsAreOne = (d : Design) (t : Trees) (is_extra : Bit → Bit → Bool) (syncs others : List Sync) (loads more : List Load) (v w : Verdict)
    → IsVerdict d t is_extra syncs loads v → IsVerdict d t is_extra others more w
    → (v.crossings ≡ w.crossings) × (v.grays ≡ w.grays) × (v.rings ≡ w.rings) × (v.covers ≡ w.covers) × (v.findings ≡ w.findings)

-- what the code lists of two verdicts of a design is the same
abbrev pub ListingsAreOne : Type 0
ListingsAreOne = (net : Net) (d : Design) (t : Trees) (is_extra : Bit → Bit → Bool) (syncs others : List Sync) (loads more : List Load) (v w : Verdict) (e o : VerdictEntry)
    → IsVerdict d t is_extra syncs loads v → IsVerdict d t is_extra others more w → IsListed net d t syncs v e → IsListed net d t others w o → e ≡ o

-- for which designs and lists further crossings were made
abbrev pub Fits : Type 1
Fits = Design → Trees → List Sync → List GrayReg → Type 0

-- lists that justify a design are sound, by the covers of their synchronizers and loads
abbrev pub JustifiedIsSound : Fits → (Bit → Bit → Bool) → Type 0
JustifiedIsSound fits is_extra = (d : Design) (t : Trees) (syncs : List Sync) (grays : List GrayReg) (rings : List Ring) (loads : List Load) (covers : List Cover)
    → fits d t syncs grays → AreTrees d t → Justified d t syncs grays rings loads is_extra → AreCovers grays syncs loads covers
    → Sound d covers (map ring_bits rings) is_extra

-- in each state of each run of a justified design the facts hold, and settling flops hold what the chain says
abbrev pub JustifiedKeepsFacts : Fits → (Bit → Bit → Bool) → Type 0
JustifiedKeepsFacts fits is_extra = (d : Design) (t : Trees) (syncs : List Sync) (grays : List GrayReg) (rings : List Ring) (loads : List Load)
    → fits d t syncs grays → AreTrees d t → Justified d t syncs grays rings loads is_extra
    → (run : Trace) → IsRun d run → InEachState (Facts d syncs grays rings) run × ChainRun d syncs run

-- in a justified design what meets behind synchronizers belongs to one moment
abbrev pub JustifiedIsTogether : Fits → (Bit → Bit → Bool) → Type 0
JustifiedIsTogether fits is_extra = (d : Design) (t : Trees) (syncs : List Sync) (grays : List GrayReg) (rings : List Ring) (loads : List Load)
    → fits d t syncs grays → AreTrees d t → Justified d t syncs grays rings loads is_extra → OneFamily d t syncs
    → (run : Trace) → IsRun d run → (x : Bit) → d.is_register x ≡ true → (group depth : ℕ) → IsTogether d t syncs run x group depth

-- a clean verdict is sound
abbrev pub CleanIsSound : Fits → (Bit → Bit → Bool) → Type 0
CleanIsSound fits is_extra = (d : Design) (t : Trees) (syncs : List Sync) (loads : List Load) (v : Verdict)
    → AreTrees d t → fits d t syncs v.grays → IsVerdict d t is_extra syncs loads v → v.findings ≡ []
    → Sound d v.covers (map ring_bits v.rings) is_extra

-- under a clean verdict what meets behind synchronizers belongs to one moment
abbrev pub CleanIsTogether : Fits → (Bit → Bit → Bool) → Type 0
CleanIsTogether fits is_extra = (d : Design) (t : Trees) (syncs : List Sync) (loads : List Load) (v : Verdict)
    → AreTrees d t → fits d t syncs v.grays → IsVerdict d t is_extra syncs loads v → v.findings ≡ []
    → (run : Trace) → IsRun d run → (x : Bit) → d.is_register x ≡ true → (group depth : ℕ) → IsTogether d t syncs run x group depth

-- a pair of registers whose next values have a shape of a counter and its code are a counter and its code in every reading
abbrev pub ShapesAreCodes : Type 0
ShapesAreCodes = (d : Design) (tree : ℕ → Tree) → AreNextTrees d tree → (g : GrayReg) → IsGrayReg d tree g → IsGray d g

-- what the trees of a net show of its design is so
abbrev pub NetsShowWhatIsSo : Type 0
NetsShowWhatIsSo = (net : Net) (domains : Domains) → Fit net domains → (grays : GrayReg → Bool) → FindsGrays net domains grays
    → AreTrees (design_of net domains) (net_trees net grays)

-- a net has finitely many register bits and inputs
abbrev pub NetsAreFinite : Type 0
NetsAreFinite = (net : Net) (domains : Domains) → Fit net domains → IsFinite (design_of net domains)

-- a net lists its registers in order
abbrev pub NetsAscend : Type 0
NetsAscend = (net : Net) → IsNet net → AreAscending net.regs

-- the path from a bit that reads b has only bits that read b, and ends at b
abbrev pub PathsRead : Type 0
PathsRead = (t : Tree) (i : ℕ) (b : Bit) → reads [] t i b ≡ true → IsPathTo b (path t i b)

-- the list of all crossings of a net has exactly the crossings of its design, in order
abbrev pub CrossingsAreAll : Type 0
CrossingsAreAll = (net : Net) (domains : Domains) (grays : GrayReg → Bool) → AreAscending net.regs
    → IsAll (λ c. IsCrossing (design_of net domains) (net_trees net grays) c.from c.to) crossing_key (crossings_of net domains)

-- the list of all synchronizers of a net has exactly those of its design, in order
abbrev pub SyncsAreAll : Type 0
SyncsAreAll = (net : Net) (domains : Domains) (grays : GrayReg → Bool) → IsNet net → Fit net domains
    → IsAll (IsSync (design_of net domains) (net_trees net grays)) sync_key (syncs_of net domains)

-- a net has one verdict under its domains
abbrev pub NetsHaveOneVerdict : Type 0
NetsHaveOneVerdict = (net : Net) (domains : Domains) (is_extra : Bit → Bit → Bool) (e o : VerdictEntry)
    → IsVerdictOf net domains is_extra e → IsVerdictOf net domains is_extra o → e ≡ o

-- a net whose verdict has no finding is sound, by the covers and rings that the code lists
abbrev pub CleanNetsAreSound : Fits → (Bit → Bit → Bool) → Type 0
CleanNetsAreSound fits is_extra = (net : Net) (domains : Domains) (e : VerdictEntry) → Fit net domains → (w : IsVerdictOf net domains is_extra e)
    → fits (design_of net domains) (net_trees net w.grays) w.syncs e.grays → e.findings ≡ []
    → Sound (design_of net domains) e.covers (map (λ (r : RingEntry). r.bits) e.rings) is_extra

-- and what meets behind its synchronizers belongs to one moment
abbrev pub CleanNetsAreTogether : Fits → (Bit → Bit → Bool) → Type 0
CleanNetsAreTogether fits is_extra = (net : Net) (domains : Domains) (e : VerdictEntry) → Fit net domains → (w : IsVerdictOf net domains is_extra e)
    → fits (design_of net domains) (net_trees net w.grays) w.syncs e.grays → e.findings ≡ []
    → (run : Trace) → IsRun (design_of net domains) run → (x : Bit) → is_register_bit net x ≡ true → (group depth : ℕ)
    → IsTogether (design_of net domains) (net_trees net w.grays) w.syncs run x group depth
