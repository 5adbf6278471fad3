-- One step of a run by a plan.
use Rattle.std.proofs.Common.{◌≡◌, ◌∙◌, ℕ, ◌+◌, false, List, [], ◌∷◌, ◌++◌, map, length, get_or, Option, Some, None, sym, ap, ap₂, subst}
use Rattle.std.specs.Prelude.{find, All}
use Rattle.std.proofs.lemmas.List.Elements.{Contains-get_or}
use Rattle.cdc_base.specs.declared.bit.Bit.{Bit}
use Rattle.cell_graph.specs.declared.net.Net.{Net}
use Rattle.cell_graph.specs.Values.{AreWordsOf, values_of}
use Rattle.domains.specs.declared.Domains.{Domains}
use Rattle.cdc_model.specs.declared.scheme.Crossing.{Crossing}
use Rattle.cdc_model.specs.Runs.{State}
use Rattle.cdc_model.proofs.Ascending.{from_filter}
use Rattle.settling_sim.specs.declared.cycles.Cycles.{Cycles}
use Rattle.settling_sim.specs.Cycles.{cycles_of}
use Rattle.settling_sim.specs.Design.{copied_in}
use Rattle.settling_sim.specs.Runs.{state_of}
use Rattle.settling_sim.specs.Trial.{tried_cycles}
use Rattle.campaign.specs.declared.plan.Plan.{Plan}
use Rattle.campaign.specs.declared.run.Choices.{Choices}
use Rattle.campaign.specs.declared.run.Room.{Room}
use Rattle.campaign.specs.declared.run.Run.{Run}
use Rattle.campaign.specs.Campaign.{capture_after, captured_races}
use Rattle.campaign.specs.Drawn.{draw, race_of_toss, step_with}
use Rattle.campaign.specs.Plan.{flops_of, inputs_of, is_watched, pairs_of, settles, watched_of}
use Rattle.campaign.specs.Run.{HasSpace, IsDrawnIn, IsPlanned, IsRunAfter, IsStepOfRun, domains_of, net_of}
use Rattle.campaign.specs.Torn.{shows_in, IsPair}
use Rattle.campaign.proofs.Members.{pair-is}
use Rattle.campaign.proofs.RunSteps.{after-fits, capture-is, capture-same, choices-are, cycles-are, drawn_as, left-length, rest-is, run-end, run-next, state-is, words-are}
use Rattle.campaign.proofs.Watched.{find-among, lane-calm, unwatched}

module _ (p : Plan) (named : List ℕ) (by_plan : IsPlanned named p) where
  abbrev net : Net
  net = net_of p

  abbrev domains : Domains
  domains = domains_of p

  abbrev copied : Bit → Option Bit
  copied = copied_in p.design.cells.items p.design.copies

  -- the pairs of a plan are of bits of the net
  pub pairs-fit : All (IsPair net) p.pairs.items
  pairs-fit = subst (λ (cs : List Crossing). All (IsPair net) cs) (sym by_plan.lists.pairs) (λ i d l.
      let pair = get_or (watched_of net domains) i d in
      let among = (from_filter (is_watched domains (settles net domains)) (pairs_of net domains) pair (Contains-get_or (watched_of net domains) i d l)).0 in
      (pair-is net domains by_plan.can.is by_plan.can.has by_plan.can.opens.cells pair among).0)

  module _ (seed n number : ℕ) (run : Run) (is : IsRunAfter net domains named seed n run) (next : number ≡ n + 1) (values : List ℕ) (values_are : values ≡ values_of net.graph run.moment.words.items)
      (before : Room) (space : HasSpace net domains before) (k : Choices) (behind : List ℕ) (room : Room)
      (by : IsDrawnIn net domains copied p.inputs p.named.items p.flops.items values run.moment number run.rng before k behind room) where
    by-lists : IsDrawnIn net domains copied (inputs_of net domains) named (flops_of net domains) values run.moment number run.rng before k behind room
    by-lists =
        subst (λ (cs : List Crossing). IsDrawnIn net domains copied (inputs_of net domains) named cs values run.moment number run.rng before k behind room) by_plan.lists.flops
        (subst (λ (ns : List ℕ). IsDrawnIn net domains copied (inputs_of net domains) ns p.flops.items values run.moment number run.rng before k behind room) by_plan.lists.named_is
        (subst (λ (ss : List ℕ). IsDrawnIn net domains copied ss p.named.items p.flops.items values run.moment number run.rng before k behind room) by_plan.lists.inputs by))

    -- bits that are no settling flops are settled
    calm : (b : Bit) → settles net domains b ≡ false → cycles_of run.moment.cycles.items b ≡ 0
    calm b h = ap (λ (s : State). s.left b) is.state ∙ lane-calm net domains by_plan.can named seed n b h

    pub found-is : (found : Option Crossing)
        → found ≡ find (shows_in net domains copied room.trial.ticking.items run.moment.words.items run.moment.cycles.items room.trial.words.items) p.pairs.items
        → found ≡ capture_after net domains named seed n
    found-is found e =
        capture-is net domains by_plan.can named by_plan.lists.are_named p.design.copies p.design.cells.items by_plan.lists.cells by_plan.lists.copies run.moment is.words number run.rng before space
        k behind room values values_are by-lists found
        (e ∙ ap (find (shows_in net domains copied room.trial.ticking.items run.moment.words.items run.moment.cycles.items room.trial.words.items)) by_plan.lists.pairs
        ∙ find-among (shows_in net domains copied room.trial.ticking.items run.moment.words.items run.moment.cycles.items room.trial.words.items) (is_watched domains (settles net domains)) (pairs_of net domains)
        (λ c i. unwatched net domains by_plan.can named copied room.trial.ticking.items run.moment.words.items run.moment.cycles.items room.trial.words.items c calm))
        ∙ capture-same net domains named seed n number run is next

    drawn : drawn_as k behind ≡ draw net domains named number (state_of run.moment.words.items run.moment.cycles.items) run.rng
    drawn = choices-are net domains by_plan.can named by_plan.lists.are_named p.design.copies p.design.cells.items by_plan.lists.cells by_plan.lists.copies run.moment is.words number run.rng before space
        k behind room values values_are by-lists

    -- without a capture
    pub goes-on : None ≡ find (shows_in net domains copied room.trial.ticking.items run.moment.words.items run.moment.cycles.items room.trial.words.items) p.pairs.items
        → (new : Run) → new.rng ≡ behind → new.steps ≡ run.steps ++ step_with k.edges k.inputs (map race_of_toss k.tosses) ∷ [] → new.moment.words.items ≡ room.trial.words.items
        → new.moment.cycles.items ≡ tried_cycles domains copied room.trial.ticking.items net.regs (map race_of_toss k.tosses) run.moment.cycles.items
        → IsStepOfRun net domains named seed n new None
    goes-on e new rng steps words cycles =
        let after = words ∙ words-are net domains by_plan.can named by_plan.lists.are_named p.design.copies p.design.cells.items by_plan.lists.cells by_plan.lists.copies run.moment is.words number run.rng
        before space k behind room values values_are by-lists in
        let left = cycles-are net domains by_plan.can named by_plan.lists.are_named p.design.copies p.design.cells.items by_plan.lists.cells by_plan.lists.copies run.moment is.words number run.rng
        before space k behind room values values_are by-lists new.moment.cycles.items cycles in (
          sym (found-is None e),
          run-next net domains named seed n number run is next new k (ap (drawn_as k) rng ∙ drawn)
              (ap₂ (λ (ws : List ℕ) (cs : List Cycles). state_of ws cs) after left
              ∙ state-is net domains by_plan.can named by_plan.lists.are_named p.design.copies p.design.cells.items by_plan.lists.cells by_plan.lists.copies run.moment is.words number run.rng
              before space k behind room values values_are by-lists is.cycles is.rest)
              steps
              (subst (λ (ws : List ℕ). AreWordsOf net.graph.signals ws) (sym after)
              (after-fits net domains by_plan.can named by_plan.lists.are_named p.design.copies p.design.cells.items by_plan.lists.cells by_plan.lists.copies run.moment is.words number run.rng
              before space k behind room values values_are by-lists))
              (ap length left
              ∙ left-length net domains by_plan.can named by_plan.lists.are_named p.design.copies p.design.cells.items by_plan.lists.cells by_plan.lists.copies run.moment is.words number run.rng
              before space k behind room values values_are by-lists
              ∙ is.cycles)
              (λ b h. ap (λ (cs : List Cycles). cycles_of cs b) left
              ∙ rest-is net domains by_plan.can named by_plan.lists.are_named p.design.copies p.design.cells.items by_plan.lists.cells by_plan.lists.copies run.moment is.words number run.rng
              before space k behind room values values_are by-lists is.cycles is.rest b h),
        )

    -- with one
    pub ends-in : (c : Crossing) → Some c ≡ find (shows_in net domains copied room.trial.ticking.items run.moment.words.items run.moment.cycles.items room.trial.words.items) p.pairs.items
        → (new : Run) → new.steps ≡ run.steps ++ step_with k.edges k.inputs (captured_races k.tosses c) ∷ [] → IsStepOfRun net domains named seed n new (Some c)
    ends-in c e new steps = (sym (found-is (Some c) e), run-end net domains named seed n number run is next new.steps k behind c drawn steps)
