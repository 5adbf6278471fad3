-- The cells of a flat design's net mean the same as the design itself.
use Rattle.std.specs.Prelude.{◌≡◌, ℕ, ◌<◌, Bool, true, List, [], map}
use Rattle.cdc_base.specs.declared.bit.Bit.{Bit}
use Rattle.cell_graph.specs.declared.net.Net.{Net}
use Rattle.cell_graph.specs.Nets.{AreSized}
use Rattle.cell_graph.specs.Reading.{Reading}
use Rattle.clock_constraints.specs.declared.Constraints.{Constraints}
use Rattle.cofactor.specs.contracts.nodes.PlainCofactors.TheImpl as plain
use Rattle.domains.specs.declared.Domains.{Domains}
use Rattle.domains.specs.Assignment.{AreDomains as AreNetDomains}
use Rattle.domains.specs.Fit.{Fit}
use Rattle.domains.specs.Nets.{IsNet}
use Rattle.cdc_model.specs.declared.record.Record.{Record}
use Rattle.cdc_model.specs.declared.scheme.Cover.{Cover}
use Rattle.cdc_model.specs.declared.scheme.GrayReg.{GrayReg}
use Rattle.cdc_model.specs.declared.scheme.Ring.{Ring}
use Rattle.cdc_model.specs.declared.verdict.Verdict.{Verdict}
use Rattle.cdc_model.specs.Design.{Design}
use Rattle.cdc_model.specs.GrayShape.{IsGrayReg}
use Rattle.cdc_model.specs.Laws.{Fits}
use Rattle.cdc_model.specs.Listed.{IsVerdictOf}
use Rattle.cdc_model.specs.Nets.{HasNextCells, net_trees}
use Rattle.cdc_model.specs.Nets as net_model
use Rattle.cdc_model.specs.Recorded.{IsFinite}
use Rattle.cdc_model.specs.Replay.{replayed}
use Rattle.cdc_model.specs.Runs.{IsRun, Trace}
use Rattle.cdc_model.specs.Schemes.{AreTrees}
use Rattle.cdc_model.specs.Sound.{Sound}
use Rattle.cdc_model.specs.Together.{IsTogether}
use Rattle.flat_meaning.specs.Design.{Flat, given, size_in}
use Rattle.flat_meaning.specs.Segments.{IsLoopFree}
use Rattle.flat_meaning.specs.SignalTrees.{AreTrees as HasSelects}
use Rattle.flat_meaning.specs.Sound.{IsSound}
use Rattle.flat_meaning.specs.Trees.{Selects}
use Rattle.elaborate.specs.NetTrees.{HasTrees}
use Rattle.elaborate.specs.Words.{as_word}
use Rattle.flat_model.specs.Clocked.{AreDomains, ReadsStateAlone, pins_of}
use Rattle.flat_model.specs.Designs.{HasVerdict, IsMeaning, flat_trees, next_tree}

-- The net has the trees of a sound design without loops, and its signals as words, and the domains are those under the constraints.
pub record IsNetOf (f : Flat) (sel : Selects) (c : Constraints) (net : Net) (domains : Domains) : Type 0 where
  pub sound : IsSound f
  pub loop_free : IsLoopFree f
  pub are_trees : HasSelects f sel
  pub has_trees : HasTrees f sel net
  pub sized : AreSized f.signals
  pub signals : net.graph.signals ≡ map as_word f.signals
  pub is_net : IsNet net
  pub next_cells : HasNextCells net
  pub assigned : AreNetDomains plain.ghosts.reads net c domains
  pub fit : Fit net domains

-- the net's domains are the design's, by its trees
abbrev pub DomainsAreTheDesigns : Type 0
DomainsAreTheDesigns = (f : Flat) (sel : Selects) (c : Constraints) (net : Net) (domains : Domains) → (n : IsNetOf f sel c net domains)
    → AreDomains f sel c n.assigned.roles domains

-- a flat design with such a net has a meaning under the constraints
abbrev pub DesignsHaveMeaning : Type 0
DesignsHaveMeaning = (f : Flat) (sel : Selects) (c : Constraints) (net : Net) (domains : Domains) → IsNetOf f sel c net domains
    → (d : Design) × IsMeaning f c d

-- The design of the net is what the flat design means, but for next values: these are the same in readings that have the pins at their levels.
pub record IsSameDesign (f : Flat) (c : Constraints) (net : Net) (domains : Domains) (d : Design) (m : IsMeaning f c d) : Type 0 where
  pub fields : d ≡ record (net_model.design_of net domains) { next = d.next }
  pub next : (r : Reading) (x : Bit) → x.at < size_in f x.sig → d.next r x ≡ (net_model.design_of net domains).next (given f (pins_of f c m.roles) r) x
  pub trees : (grays : GrayReg → Bool) → flat_trees f m.sel grays ≡ net_trees net grays

abbrev pub NetsAreTheirDesigns : Type 0
NetsAreTheirDesigns = (f : Flat) (sel : Selects) (c : Constraints) (net : Net) (domains : Domains) → IsNetOf f sel c net domains
    → (d : Design) (m : IsMeaning f c d) → IsSameDesign f c net domains d m

-- next values are the same in every reading where they read state bits alone
abbrev pub NextsAreTheNets : Type 0
NextsAreTheNets = (f : Flat) (sel : Selects) (c : Constraints) (net : Net) (domains : Domains) → IsNetOf f sel c net domains
    → (d : Design) (m : IsMeaning f c d) → ReadsStateAlone f m.sel m.roles
    → (r : Reading) (x : Bit) → x.at < size_in f x.sig → d.next r x ≡ (net_model.design_of net domains).next r x

-- and then a record fixes the same run, or is refused for the same cause
abbrev pub ReplaysAreTheNets : Type 0
ReplaysAreTheNets = (f : Flat) (sel : Selects) (c : Constraints) (net : Net) (domains : Domains) → IsNetOf f sel c net domains
    → (d : Design) (m : IsMeaning f c d) → ReadsStateAlone f m.sel m.roles → (r : Record) → replayed d r ≡ replayed (net_model.design_of net domains) r

-- and then what the trees of the design show is so in it
abbrev pub DesignsShowWhatIsSo : Type 0
DesignsShowWhatIsSo = (f : Flat) (sel : Selects) (c : Constraints) (net : Net) (domains : Domains) → IsNetOf f sel c net domains
    → (d : Design) (m : IsMeaning f c d) → ReadsStateAlone f m.sel m.roles
    → (grays : GrayReg → Bool) → ((g : GrayReg) → grays g ≡ true → IsGrayReg d (next_tree f m.sel) g) → AreTrees d (flat_trees f m.sel grays)

-- a flat design has finitely many register bits and inputs
abbrev pub DesignsAreFinite : Type 0
DesignsAreFinite = (f : Flat) (sel : Selects) (c : Constraints) (net : Net) (domains : Domains) → IsNetOf f sel c net domains
    → (d : Design) → IsMeaning f c d → IsFinite d

-- the net's verdict is the flat design's
abbrev pub VerdictsAreTheDesigns : Type 0
VerdictsAreTheDesigns = (f : Flat) (sel : Selects) (c : Constraints) (net : Net) (domains : Domains) → IsNetOf f sel c net domains
    → (is_extra : Bit → Bit → Bool) (e : Verdict) → (w : IsVerdictOf net domains is_extra e)
    → (d : Design) (m : IsMeaning f c d) → HasVerdict f m.sel d is_extra w.verdict

-- where the net is sound, the flat design is
abbrev pub SoundNetsAreSoundDesigns : Type 0
SoundNetsAreSoundDesigns = (f : Flat) (sel : Selects) (c : Constraints) (net : Net) (domains : Domains) → IsNetOf f sel c net domains
    → (covers : List Cover) (rings : List (List Bit)) (is_extra : Bit → Bit → Bool) → Sound (net_model.design_of net domains) covers rings is_extra
    → (d : Design) → IsMeaning f c d → Sound d covers rings is_extra

-- a flat design whose net's verdict has no finding is sound, by the covers and rings that the code lists
abbrev pub CleanDesignsAreSound : Fits → (Bit → Bit → Bool) → Type 0
CleanDesignsAreSound fits is_extra = (f : Flat) (sel : Selects) (c : Constraints) (net : Net) (domains : Domains) → IsNetOf f sel c net domains
    → (e : Verdict) → (w : IsVerdictOf net domains is_extra e)
    → fits (net_model.design_of net domains) (net_trees net w.grays) w.syncs e.grays → e.findings ≡ []
    → (d : Design) → IsMeaning f c d → Sound d e.covers (map (λ (r : Ring). r.bits) e.rings) is_extra

-- and what meets behind its synchronizers belongs to one moment
abbrev pub CleanDesignsAreTogether : Fits → (Bit → Bit → Bool) → Type 0
CleanDesignsAreTogether fits is_extra = (f : Flat) (sel : Selects) (c : Constraints) (net : Net) (domains : Domains) → IsNetOf f sel c net domains
    → (e : Verdict) → (w : IsVerdictOf net domains is_extra e)
    → fits (net_model.design_of net domains) (net_trees net w.grays) w.syncs e.grays → e.findings ≡ []
    → (d : Design) (m : IsMeaning f c d) → (run : Trace) → IsRun d run → (x : Bit) → d.is_register x ≡ true → (group depth : ℕ)
    → IsTogether d (flat_trees f m.sel w.grays) w.syncs run x group depth
