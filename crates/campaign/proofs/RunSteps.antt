-- What the code draws for a step, and the run behind it, are those of the model.
use Rattle.std.proofs.Common.{◌≡◌, ◌∙◌, ℕ, suc, ◌+◌, Bool, false, List, [], ◌∷◌, ◌++◌, map, length, replicate, Option, None, sym, ap, ap₂, arith}
use Rattle.std.specs.Prelude.{find}
use Rattle.cdc_base.specs.declared.bit.Bit.{Bit}
use Rattle.cell_graph.specs.declared.cell.CellId.{CellId}
use Rattle.cell_graph.specs.declared.net.Net.{Net}
use Rattle.cell_graph.specs.Values.{AreWordsOf, values_of}
use Rattle.cofactor.specs.Shown.{Shown}
use Rattle.domains.specs.declared.Domains.{Domains}
use Rattle.cdc_model.specs.declared.record.Given.{Given}
use Rattle.cdc_model.specs.declared.record.RecordStep.{RecordStep}
use Rattle.cdc_model.specs.declared.scheme.Crossing.{Crossing}
use Rattle.cdc_model.specs.Nets.{design_of, is_register_bit}
use Rattle.cdc_model.specs.Replay.{stepped}
use Rattle.cdc_model.specs.Runs.{State}
use Rattle.settling_sim.specs.declared.cycles.Cycles.{Cycles}
use Rattle.settling_sim.specs.declared.moment.Moment.{Moment}
use Rattle.settling_sim.specs.Cycles.{cycles_of}
use Rattle.settling_sim.specs.Design.{take_cells, copied_in, ShowsCopies}
use Rattle.settling_sim.specs.Edges.{mark_in}
use Rattle.settling_sim.specs.Loose.{needed_by}
use Rattle.settling_sim.specs.Runs.{state_of}
use Rattle.settling_sim.specs.Trial.{register_ticks, settle, take_given, take_next, tried_cycles, tried_words}
use Rattle.settling_sim.proofs.Counts.{settle-length, unsettle-length}
use Rattle.campaign.specs.declared.run.Choices.{Choices}
use Rattle.campaign.specs.declared.run.Room.{Room}
use Rattle.campaign.specs.declared.run.Run.{Run}
use Rattle.campaign.specs.declared.toss.Toss.{Toss}
use Rattle.campaign.specs.Campaign.{capture_after, capture_in, captured_races, captured_step, draw_after, lane_after, lane_behind, steps_of, Lane}
use Rattle.campaign.specs.Drawn.{Drawn, draw, race_of_toss, step_of, step_with, torn_in, toss, values_in, inputs_in}
use Rattle.campaign.specs.Draws.{behind_all, with_words}
use Rattle.campaign.specs.Edges.{behind_edges, edges_of}
use Rattle.campaign.specs.Plan.{AreNamed, flops_of, inputs_of, pairs_of}
use Rattle.campaign.specs.Run.{CanRun, HasSpace, IsDrawnIn, IsRunAfter, plain_after}
use Rattle.campaign.specs.Tested.{behind_passing, givens_in, put_drawn, put_tosses, tosses_of}
use Rattle.campaign.specs.Torn.{is_torn_in, shows_in}
use Rattle.campaign.proofs.StepInputs.{behind-inputs, inputs-are}
use Rattle.campaign.proofs.Steps.{after-fit, behind-tosses, captured-is, drawn-is, rest-after, state-after, tossed, tosses-drawn}

-- what a step draws, as the model has it
abbrev pub drawn_as : Choices → List ℕ → Drawn
drawn_as k rng = record { edges = k.edges; inputs = k.inputs; tosses = k.tosses; rng = rng }

module _ (net : Net) (domains : Domains) (can : CanRun net domains) (named : List ℕ) (are_named : AreNamed net domains named)
    (copies : Shown) (cells : List (Option CellId)) (cells_are : cells ≡ take_cells net.regs (replicate (length net.graph.signals) None)) (shows : ShowsCopies net copies)
    (m : Moment) (are : AreWordsOf net.graph.signals m.words.items) (number : ℕ) (rng : List ℕ) (before : Room) (space : HasSpace net domains before)
    (k : Choices) (behind : List ℕ) (room : Room) (values : List ℕ) (values_are : values ≡ values_of net.graph m.words.items)
    (by : IsDrawnIn net domains (copied_in cells copies) (inputs_of net domains) named (flops_of net domains) values m number rng before k behind room) where
  abbrev edges : List ℕ
  edges = edges_of domains number rng

  abbrev ticking : List Bool
  ticking = mark_in (replicate (length domains.clocks) false) edges

  abbrev rng1 : List ℕ
  rng1 = behind_edges number rng

  abbrev inputs : List Given
  inputs = values_in net domains named edges rng1

  abbrev rng2 : List ℕ
  rng2 = behind_all (length (inputs_in net domains edges)) rng1

  abbrev plain : List ℕ
  plain = take_given inputs (take_next domains ticking (values_of net.graph m.words.items) net.regs m.words.items)

  abbrev old : State
  old = state_of m.words.items m.cycles.items

  abbrev torn : List Crossing
  torn = torn_in net domains edges inputs old

  abbrev tosses : List Toss
  tosses = with_words toss rng2 torn

  pub ticking-is : room.trial.ticking.items ≡ ticking
  ticking-is = by.ticking ∙ ap₂ (λ (n : ℕ) (es : List ℕ). mark_in (replicate n false) es) space.trial.ticking by.edges

  inputs-is : k.inputs ≡ inputs
  inputs-is =
      by.inputs
      ∙ ap (λ (ts : List Bool). givens_in net.graph.signals (put_drawn (register_ticks domains ts) (inputs_of net domains) rng1 before.drawn.items) (register_ticks domains ts) named) ticking-is
      ∙ inputs-are net domains can.is can.has can.opens.cells can.opens.fit named are_named edges rng1 before.drawn.items space.drawn

  plain-is : plain_after net domains values m room.trial.ticking.items k.inputs ≡ plain
  plain-is =
      ap₂ (λ (ts : List Bool) (gs : List Given). take_given gs (take_next domains ts values net.regs m.words.items)) ticking-is inputs-is
      ∙ ap (λ (vs : List ℕ). take_given inputs (take_next domains ticking vs net.regs m.words.items)) values_are

  torn-are : is_torn_in domains (copied_in cells copies) room.trial.ticking.items m.words.items m.cycles.items (plain_after net domains values m room.trial.ticking.items k.inputs)
      ≡ is_torn_in domains (copied_in cells copies) ticking m.words.items m.cycles.items plain
  torn-are = ap₂ (λ (ts : List Bool) (ws : List ℕ). is_torn_in domains (copied_in cells copies) ts m.words.items m.cycles.items ws) ticking-is plain-is

  rng-is : behind_passing (register_ticks domains room.trial.ticking.items) (inputs_of net domains) rng1 ≡ rng2
  rng-is =
      ap (λ (ts : List Bool). behind_passing (register_ticks domains ts) (inputs_of net domains) rng1) ticking-is
      ∙ behind-inputs net domains can.is can.has can.opens.cells can.opens.fit named are_named edges rng1

  tosses-is : k.tosses ≡ tosses
  tosses-is =
      by.tosses
      ∙ ap₂ (λ (t : Crossing → Bool) (g : List ℕ). tosses_of t (flops_of net domains) g []) torn-are rng-is
      ∙ tosses-drawn net domains can.is can.has can.opens.cells can.opens.fit named are_named copies cells cells_are shows m.words.items m.cycles.items are number rng

  behind-is : behind ≡ behind_all (length torn) rng2
  behind-is =
      by.behind_is
      ∙ ap₂ (λ (t : Crossing → Bool) (g : List ℕ). behind_passing t (flops_of net domains) g) torn-are rng-is
      ∙ behind-tosses net domains can.is can.has can.opens.cells can.opens.fit named are_named copies cells cells_are shows m.words.items m.cycles.items are number rng

  -- the choices are the model's
  pub choices-are : drawn_as k behind ≡ draw net domains named number old rng
  choices-are =
      ap (λ (es : List ℕ). let d : Drawn = record { edges = es; inputs = k.inputs; tosses = k.tosses; rng = behind } in d) by.edges
      ∙ ap (λ (gs : List Given). let d : Drawn = record { edges = edges; inputs = gs; tosses = k.tosses; rng = behind } in d) inputs-is
      ∙ ap₂ (λ (ts : List Toss) (g : List ℕ). let d : Drawn = record { edges = edges; inputs = inputs; tosses = ts; rng = g } in d) tosses-is behind-is
      ∙ sym (drawn-is net domains can.is can.has can.opens.cells can.opens.fit named are_named copies cells cells_are shows m.words.items m.cycles.items are number rng)

  abbrev after : List ℕ
  after = tried_words net domains ticking m.words.items inputs (map race_of_toss tosses)

  pub words-are : room.trial.words.items ≡ after
  words-are =
      by.words ∙ ap₂ (λ (ts : List Toss) (ws : List ℕ). put_tosses m.words.items ts ws) tosses-is plain-is
      ∙ tossed net domains can.is can.has can.opens.cells can.opens.fit named are_named copies cells cells_are shows m.words.items m.cycles.items are number rng

  -- a capture by the tables is one of the model
  pub capture-is : (found : Option Crossing)
      → found ≡ find (shows_in net domains (copied_in cells copies) room.trial.ticking.items m.words.items m.cycles.items room.trial.words.items) (pairs_of net domains)
      → found ≡ capture_in net domains old (draw net domains named number old rng)
  capture-is found e =
      e
      ∙ ap₂ (λ (ts : List Bool) (ws : List ℕ). find (shows_in net domains (copied_in cells copies) ts m.words.items m.cycles.items ws) (pairs_of net domains)) ticking-is words-are
      ∙ captured-is net domains can.is can.has can.opens.cells can.opens.fit named are_named copies cells cells_are shows m.words.items m.cycles.items are number rng

  abbrev left : List Cycles
  left = tried_cycles domains (copied_in cells copies) ticking net.regs (map race_of_toss tosses) m.cycles.items

  pub cycles-are : (cs : List Cycles) → cs ≡ tried_cycles domains (copied_in cells copies) room.trial.ticking.items net.regs (map race_of_toss k.tosses) m.cycles.items → cs ≡ left
  cycles-are cs e = e ∙ ap₂ (λ (ts : List Bool) (us : List Toss). tried_cycles domains (copied_in cells copies) ts net.regs (map race_of_toss us) m.cycles.items) ticking-is tosses-is

  pub left-length : length left ≡ length m.cycles.items
  left-length =
      unsettle-length (λ (x : Bit). needed_by domains m.cycles.items x (copied_in cells copies x)) (map race_of_toss tosses) (settle domains ticking net.regs m.cycles.items)
      ∙ settle-length domains ticking net.regs m.cycles.items

  pub after-fits : AreWordsOf net.graph.signals after
  after-fits = after-fit net domains can.is can.has can.opens.cells can.opens.fit named are_named copies cells cells_are shows m.words.items m.cycles.items are number rng

  module _ (counted : length m.cycles.items ≡ length net.graph.signals) (rest : (b : Bit) → is_register_bit net b ≡ false → cycles_of m.cycles.items b ≡ 0) where
    pub rest-is : (b : Bit) → is_register_bit net b ≡ false → cycles_of left b ≡ 0
    rest-is = rest-after net domains can.is can.has can.opens.cells can.opens.fit named are_named copies cells cells_are shows m.words.items m.cycles.items are number rng counted rest

    pub state-is : state_of after left ≡ stepped (design_of net domains) old (step_of (draw net domains named number old rng))
    state-is =
        state-after net domains can.is can.has can.opens.cells can.opens.fit named are_named copies cells cells_are shows m.words.items m.cycles.items are number rng counted rest
        ∙ ap (λ (d : Drawn). stepped (design_of net domains) old (step_of d))
        (sym (drawn-is net domains can.is can.has can.opens.cells can.opens.fit named are_named copies cells cells_are shows m.words.items m.cycles.items are number rng))

-- ---- a run behind n steps

module _ (net : Net) (domains : Domains) (named : List ℕ) (seed n number : ℕ) (run : Run) (is : IsRunAfter net domains named seed n run) (next : number ≡ n + 1) where
  abbrev now : State
  now = state_of run.moment.words.items run.moment.cycles.items

  counts : number ≡ suc n
  counts = next ∙ (let e : n + 1 ≡ suc n = omega arith in e)

  -- what it draws is what the lane draws
  pub draws-are : draw net domains named number now run.rng ≡ draw_after net domains named seed n
  draws-are =
      ap (λ (j : ℕ). draw net domains named j now run.rng) counts
      ∙ ap₂ (λ (s : State) (g : List ℕ). draw net domains named (suc n) s g) is.state is.rng

  -- and so are its captures
  pub capture-same : capture_in net domains now (draw net domains named number now run.rng) ≡ capture_after net domains named seed n
  unfolding capture_after
  capture-same = ap₂ (λ (s : State) (d : Drawn). capture_in net domains s d) is.state draws-are

  -- the lane behind the step
  lane-next : lane_after net domains named seed (n + 1) ≡ lane_behind net domains (lane_after net domains named seed n) (draw_after net domains named seed n)
  unfolding lane_after
  lane-next = ap (lane_after net domains named seed) (let e : n + 1 ≡ suc n = omega arith in e)

  steps-next : steps_of net domains named seed (n + 1) ≡ steps_of net domains named seed n ++ step_of (draw_after net domains named seed n) ∷ []
  unfolding steps_of
  steps-next = ap (steps_of net domains named seed) (let e : n + 1 ≡ suc n = omega arith in e)

  -- a run that drew the lane's step and went where it leads is behind one step more
  pub run-next : (new : Run) (k : Choices) → drawn_as k new.rng ≡ draw net domains named number now run.rng
      → state_of new.moment.words.items new.moment.cycles.items ≡ stepped (design_of net domains) now (step_of (draw net domains named number now run.rng))
      → new.steps ≡ run.steps ++ step_with k.edges k.inputs (map race_of_toss k.tosses) ∷ []
      → AreWordsOf net.graph.signals new.moment.words.items → length new.moment.cycles.items ≡ length net.graph.signals
      → ((b : Bit) → is_register_bit net b ≡ false → cycles_of new.moment.cycles.items b ≡ 0)
      → IsRunAfter net domains named seed (n + 1) new
  run-next new k drawn leads steps words cycles rest = record {
    rng = ap (λ (d : Drawn). d.rng) (drawn ∙ draws-are) ∙ sym (ap (λ (l : Lane). l.rng) lane-next);
    state = leads ∙ ap₂ (λ (s : State) (d : Drawn). stepped (design_of net domains) s (step_of d)) is.state draws-are ∙ sym (ap (λ (l : Lane). l.state) lane-next);
    steps = steps ∙ ap₂ (λ (ks : List RecordStep) (d : Drawn). ks ++ step_of d ∷ []) is.steps (drawn ∙ draws-are) ∙ sym steps-next;
    words = words;
    cycles = cycles;
    rest = rest;
  }

  -- one that ends in a capture has its step
  pub run-end : (ends : List RecordStep) (k : Choices) (behind : List ℕ) (c : Crossing) → drawn_as k behind ≡ draw net domains named number now run.rng
      → ends ≡ run.steps ++ step_with k.edges k.inputs (captured_races k.tosses c) ∷ []
      → ends ≡ steps_of net domains named seed n ++ captured_step (draw_after net domains named seed n) c ∷ []
  run-end ends k behind c drawn steps = steps ∙ ap₂ (λ (ks : List RecordStep) (d : Drawn). ks ++ captured_step d c ∷ []) is.steps (drawn ∙ draws-are)
