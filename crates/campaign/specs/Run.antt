-- The runs of a campaign, as the code has them.
use Rattle.std.specs.Prelude.{◌≡◌, ℕ, ◌+◌, ◌≤◌, ◌^◌, Bool, false, None, Some, Option, List, [], ◌∷◌, ◌++◌, length, replicate}
use Rattle.cdc_base.specs.declared.bit.Bit.{Bit}
use Rattle.cell_graph.specs.declared.net.Net.{Net}
use Rattle.cell_graph.specs.Values.{AreWordsOf}
use Rattle.domains.specs.declared.Domains.{Domains}
use Rattle.domains.specs.Nets.{IsNet}
use Rattle.cdc_model.specs.declared.record.Given.{Given}
use Rattle.cdc_model.specs.declared.scheme.Crossing.{Crossing}
use Rattle.cdc_model.specs.Nets.{HasNextCells, is_register_bit}
use Rattle.settling_sim.specs.declared.moment.Moment.{Moment}
use Rattle.settling_sim.specs.Cycles.{cycles_of}
use Rattle.settling_sim.specs.Design.{take_cells, ShowsCopies}
use Rattle.settling_sim.specs.Edges.{mark_in}
use Rattle.settling_sim.specs.Opened.{CanOpen}
use Rattle.settling_sim.specs.Runs.{HasTrial, state_of}
use Rattle.settling_sim.specs.Trial.{register_ticks, take_next, take_given}
use Rattle.campaign.specs.declared.plan.Plan.{Plan}
use Rattle.campaign.specs.declared.run.Choices.{Choices}
use Rattle.campaign.specs.declared.run.Room.{Room}
use Rattle.campaign.specs.declared.run.Run.{Run}
use Rattle.campaign.specs.Campaign.{lane_after, steps_of, capture_after, captured_step, draw_after}
use Rattle.campaign.specs.Edges.{edges_of, behind_edges}
use Rattle.campaign.specs.Plan.{AreNamed, inputs_of, flops_of, watched_of}
use Rattle.campaign.specs.Room.{HasProbe}
use Rattle.campaign.specs.Tested.{behind_passing, givens_in, put_drawn, put_tosses, tosses_of}
use Rattle.campaign.specs.Torn.{is_torn_in}

-- a net and domains that a campaign can run on
pub record CanRun (net : Net) (domains : Domains) : Type 0 where
  pub is : IsNet net
  pub has : HasNextCells net
  pub opens : CanOpen net domains
  pub clocks : length domains.clocks ≤ 2 ^ 32

-- the plan is that of the net and its domains, with the inputs in the order of their names
pub record IsPlan (net : Net) (domains : Domains) (named : List ℕ) (p : Plan) : Type 0 where
  pub net_is : p.design.net.now ≡ net
  pub domains_are : p.design.domains.now ≡ domains
  pub cells : p.design.cells.items ≡ take_cells net.regs (replicate (length net.graph.signals) None)
  pub copies : ShowsCopies net p.design.copies
  pub inputs : p.inputs ≡ inputs_of net domains
  pub named_is : p.named.items ≡ named
  pub are_named : AreNamed net domains named
  pub flops : p.flops.items ≡ flops_of net domains
  pub pairs : p.pairs.items ≡ watched_of net domains

-- the net and the domains of a plan
abbrev pub net_of : Plan → Net
net_of p = p.design.net.now

abbrev pub domains_of : Plan → Domains
domains_of p = p.design.domains.now

-- a campaign can run by the plan
pub record IsPlanned (named : List ℕ) (p : Plan) : Type 0 where
  pub can : CanRun (net_of p) (domains_of p)
  pub lists : IsPlan (net_of p) (domains_of p) named p

-- there is room for a step
pub record HasSpace (net : Net) (domains : Domains) (room : Room) : Type 0 where
  pub trial : HasTrial net domains room.trial
  pub drawn : length room.drawn.items ≡ length net.graph.signals
  pub probe : HasProbe net room.probe

-- the run is that of the seed after n steps
pub record IsRunAfter (net : Net) (domains : Domains) (named : List ℕ) (seed n : ℕ) (run : Run) : Type 0 where
  pub rng : run.rng ≡ (lane_after net domains named seed n).rng
  pub state : state_of run.moment.words.items run.moment.cycles.items ≡ (lane_after net domains named seed n).state
  pub steps : run.steps ≡ steps_of net domains named seed n
  pub words : AreWordsOf net.graph.signals run.moment.words.items
  pub cycles : length run.moment.cycles.items ≡ length net.graph.signals
  pub rest : (b : Bit) → is_register_bit net b ≡ false → cycles_of run.moment.cycles.items b ≡ 0

-- the words behind a step in which no flop races
abbrev pub plain_after : Net → Domains → List ℕ → Moment → List Bool → List Given → List ℕ
plain_after net domains values m ticking inputs = take_given inputs (take_next domains ticking values net.regs m.words.items)

-- what a step draws, by which bit copies which, the inputs, the settling flops and the values of all cells, and the room behind it
pub record IsDrawnIn (net : Net) (domains : Domains) (copied : Bit → Option Bit) (listed named : List ℕ) (flops : List Crossing)
    (values : List ℕ) (m : Moment) (number : ℕ) (rng : List ℕ) (before : Room) (k : Choices) (behind : List ℕ) (room : Room) : Type 0 where
  pub edges : k.edges ≡ edges_of domains number rng
  pub ticking : room.trial.ticking.items ≡ mark_in (replicate (length before.trial.ticking.items) false) k.edges
  pub drawn : length room.drawn.items ≡ length before.drawn.items
  pub inputs : k.inputs ≡ givens_in net.graph.signals
      (put_drawn (register_ticks domains room.trial.ticking.items) listed (behind_edges number rng) before.drawn.items) (register_ticks domains room.trial.ticking.items) named
  pub tosses : k.tosses ≡ tosses_of
      (is_torn_in domains copied room.trial.ticking.items m.words.items m.cycles.items (plain_after net domains values m room.trial.ticking.items k.inputs)) flops
      (behind_passing (register_ticks domains room.trial.ticking.items) listed (behind_edges number rng)) []
  pub behind_is : behind ≡ behind_passing
      (is_torn_in domains copied room.trial.ticking.items m.words.items m.cycles.items (plain_after net domains values m room.trial.ticking.items k.inputs)) flops
      (behind_passing (register_ticks domains room.trial.ticking.items) listed (behind_edges number rng))
  pub words : room.trial.words.items ≡ put_tosses m.words.items k.tosses (plain_after net domains values m room.trial.ticking.items k.inputs)
  pub cycles : room.trial.cycles ≡ before.trial.cycles
  pub reader : room.trial.reader ≡ before.trial.reader
  pub probe : room.probe ≡ before.probe

-- the run goes one step more, or ends in the step with a capture
abbrev pub IsStepOfRun : Net → Domains → List ℕ → (seed n : ℕ) → Run → Option Crossing → Type 0
IsStepOfRun net domains named seed n run None = (capture_after net domains named seed n ≡ None) × IsRunAfter net domains named seed (n + 1) run
IsStepOfRun net domains named seed n run (Some c) = (capture_after net domains named seed n ≡ Some c)
    × (run.steps ≡ steps_of net domains named seed n ++ captured_step (draw_after net domains named seed n) c ∷ [])
