-- A step of a lane is the one that the model draws, and leads where that step leads.
use Rattle.std.proofs.Common.{◌≡◌, ◌≢◌, ◌∙◌, ℕ, Bool, true, false, cond, not, ◌&&◌, List, [], ◌∷◌, map, length, replicate, Contains, Option, Some, None, refl, sym, ap, ap₂, subst, arith}
use Rattle.std.specs.Prelude.{filter, find}
use Rattle.std.specs.Bool.{beq}
use Rattle.std.specs.List.{AllByRecursion}
use Rattle.std.proofs.lemmas.Bool.{both_ways}
use Rattle.std.proofs.lemmas.List.Elements.{All-nil}
use Rattle.cdc_base.specs.declared.bit.Bit.{Bit}
use Rattle.cell_graph.specs.declared.cell.CellId.{CellId}
use Rattle.cell_graph.specs.declared.net.Net.{Net}
use Rattle.cell_graph.specs.Values.{AreWordsOf, reading_of, values_of}
use Rattle.cofactor.specs.Shown.{Shown}
use Rattle.domains.specs.declared.Domains.{Domains}
use Rattle.domains.specs.Fit.{Fit}
use Rattle.domains.specs.Nets.{IsNet}
use Rattle.cdc_model.specs.declared.record.Given.{Given}
use Rattle.cdc_model.specs.declared.record.Race.{Race}
use Rattle.cdc_model.specs.declared.record.RecordStep.{RecordStep}
use Rattle.cdc_model.specs.declared.scheme.Crossing.{Crossing}
use Rattle.cdc_model.specs.Design.{Design, flipped}
use Rattle.cdc_model.specs.Nets.{design_of, is_register_bit, HasNextCells}
use Rattle.cdc_model.specs.Replay.{has_bit, has_edge, is_loose, next_value, next_left, stepped, race_of, Unticked, NotOther, unless, on_list, first_fault, input_fault, tick_fault, other_fault}
use Rattle.cdc_model.specs.Runs.{State, ticks}
use Rattle.cdc_model.proofs.Ascending.{from_filter}
use Rattle.cdc_model.proofs.ReadBits.{filter-same}
use Rattle.settling_sim.specs.declared.cycles.Cycles.{Cycles}
use Rattle.settling_sim.specs.Cycles.{cycles_of}
use Rattle.settling_sim.specs.Design.{take_cells, copied_in, ShowsCopies}
use Rattle.settling_sim.specs.Edges.{mark_in}
use Rattle.settling_sim.specs.Reader.{next_with}
use Rattle.settling_sim.specs.Runs.{HasCells, IsRace, IsStepOf, state_of}
use Rattle.settling_sim.specs.Trial.{take_next, take_given, tried_words, tried_cycles}
use Rattle.settling_sim.proofs.Faults.{copied-is}
use Rattle.settling_sim.proofs.Fits.{tried-fit}
use Rattle.settling_sim.proofs.Settles.{settled-bit}
use Rattle.settling_sim.proofs.Stepped.{stepped-bit, race-ticks, race-register, register-value}
use Rattle.campaign.specs.Campaign.{captures, capture_in}
use Rattle.campaign.specs.Draws.{behind_all, with_words}
use Rattle.campaign.specs.Drawn.{Drawn, draw, inputs_in, is_torn, race_of_toss, step_with, torn_in, toss, values_in}
use Rattle.campaign.specs.Edges.{edges_of, behind_edges}
use Rattle.campaign.specs.Plan.{AreNamed, flops_of, pairs_of, settles}
use Rattle.campaign.specs.Tested.{behind_passing, put_tosses, tosses_of}
use Rattle.campaign.specs.Torn.{is_torn_in, shows_in, IsPair}
use Rattle.campaign.proofs.LooseBits.{one-state, torn-is}
use Rattle.campaign.proofs.Members.{flop-is, flops-apart, pair-is}
use Rattle.campaign.proofs.Passing.{AreApart, apart-passing, apart-pairs, behind-passing, each-of, each-passing, find-same, of-each, tosses-are}
use Rattle.campaign.proofs.StepInputs.{inputs-fit, inputs-once, inputs-tick}
use Rattle.campaign.proofs.FlopRaces.{IsFlop, no-faults, other-differs, race-at, race-bit, race-from, race-none, races-apart, races-fit, tossed-are}

and-left : (a b : Bool) → cond a b false ≡ true → a ≡ true
and-left true b h = refl
and-left false b h = cc

module _ (net : Net) (domains : Domains) (is : IsNet net) (has : HasNextCells net) (runs : HasCells net) (fit : Fit net domains) (named : List ℕ) (are_named : AreNamed net domains named)
    (copies : Shown) (cells : List (Option CellId)) (cells_are : cells ≡ take_cells net.regs (replicate (length net.graph.signals) None)) (shows : ShowsCopies net copies)
    (words : List ℕ) (cycles : List Cycles) (are : AreWordsOf net.graph.signals words) (number : ℕ) (rng : List ℕ) where
  abbrev d : Design
  d = design_of net domains

  abbrev old : State
  old = state_of words cycles

  abbrev edges : List ℕ
  edges = edges_of domains number rng

  abbrev rng1 : List ℕ
  rng1 = behind_edges number rng

  abbrev ticking : List Bool
  ticking = mark_in (replicate (length domains.clocks) false) edges

  abbrev inputs : List Given
  inputs = values_in net domains named edges rng1

  abbrev calm : RecordStep
  calm = step_with edges inputs []

  -- ---- where no flop races

  abbrev plain : List ℕ
  plain = take_given inputs (take_next domains ticking (values_of net.graph words) net.regs words)

  calm-fits : IsStepOf net domains calm
  calm-fits = record {
    inputs = inputs-fit net domains is has runs fit named are_named edges rng1;
    once = inputs-once net domains is has runs fit named are_named edges rng1;
    races = All-nil (IsRace net);
    one_each = λ i j r l m. absurd (omega arith);
  }

  plain-fit : AreWordsOf net.graph.signals plain
  plain-fit = tried-fit net domains ticking words inputs [] runs are calm-fits.inputs calm-fits.races

  plain-leads : (b : Bit) → reading_of plain b ≡ (stepped d old calm).values b
  plain-leads b = stepped-bit net domains words cycles calm runs fit are calm-fits (inputs-tick net domains is has runs fit named are_named edges rng1 []) refl plain-fit b

  -- ---- the flops that are torn

  abbrev torn-in : Crossing → Bool
  torn-in = is_torn_in domains (copied_in cells copies) ticking words cycles plain

  abbrev torn : List Crossing
  torn = torn_in net domains edges inputs old

  torn-same : filter torn-in (flops_of net domains) ≡ torn
  torn-same = filter-same torn-in (is_torn d edges old (stepped d old calm).values) (flops_of net domains) (λ c i.
      let flop = (flop-is net domains is has runs c i).0 in
      torn-is net domains copies cells runs fit cells_are shows words cycles plain (stepped d old calm).values are plain-leads edges c flop.register flop.within)

  abbrev rng2 : List ℕ
  rng2 = behind_all (length (inputs_in net domains edges)) rng1

  pub tosses-drawn : tosses_of torn-in (flops_of net domains) rng2 [] ≡ with_words toss rng2 torn
  tosses-drawn = tosses-are torn-in (flops_of net domains) rng2 [] ∙ ap (with_words toss rng2) torn-same

  pub behind-tosses : behind_passing torn-in (flops_of net domains) rng2 ≡ behind_all (length torn) rng2
  behind-tosses = behind-passing torn-in (flops_of net domains) rng2 ∙ ap (λ cs. behind_all (length cs) rng2) torn-same

  torn-flops : AllByRecursion (IsFlop net) torn
  torn-flops = each-passing (IsFlop net) (is_torn d edges old (stepped d old calm).values) (flops_of net domains) (each-of (IsFlop net) (flops_of net domains) (λ c i. (flop-is net domains is has runs c i).0))

  torn-from : (c : Crossing) → Contains torn c → Contains (flops_of net domains) c × (is_torn d edges old (stepped d old calm).values c ≡ true)
  torn-from c i = from_filter (is_torn d edges old (stepped d old calm).values) (flops_of net domains) c i

  -- ---- with the races

  abbrev races : List Race
  races = map race_of_toss (with_words toss rng2 torn)

  abbrev step : RecordStep
  step = step_with edges inputs races

  races-once : AreApart (λ (r : Race). r.bit) races
  races-once = races-apart torn rng2 (apart-passing (λ (c : Crossing). c.to) (is_torn d edges old (stepped d old calm).values) (flops_of net domains) (flops-apart net domains is has runs))

  pub step-fits : IsStepOf net domains step
  step-fits = record {
    inputs = calm-fits.inputs;
    once = calm-fits.once;
    races = races-fit net torn rng2 torn-flops;
    one_each = apart-pairs (λ (r : Race). r.bit) races races-once;
  }

  step-inputs : first_fault (input_fault d step) inputs ≡ None
  step-inputs = inputs-tick net domains is has runs fit named are_named edges rng1 races

  step-races : first_fault (tick_fault d step) races ≡ None
  step-races = no-faults (tick_fault d step) races (λ r i.
      let p = race-from torn rng2 r i in
      let t = and-left (ticks d (has_edge edges) p.1.to) _ (torn-from p.1 p.2).1 in
      subst (λ (r : Race). tick_fault d step r ≡ None) p.3
      (ap (λ t. unless t (Unticked (race_of_toss (toss p.0 p.1)).bit)) (ap (ticks d (has_edge edges)) (race-bit (toss p.0 p.1)) ∙ t)))

  abbrev pub after : List ℕ
  after = tried_words net domains ticking words inputs races

  pub tossed : put_tosses words (with_words toss rng2 torn) plain ≡ after
  tossed = tossed-are net words torn rng2 plain torn-flops

  pub after-fit : AreWordsOf net.graph.signals after
  after-fit = tried-fit net domains ticking words inputs races runs are step-fits.inputs step-fits.races

  pub leads : (b : Bit) → reading_of after b ≡ (stepped d old step).values b
  leads b = stepped-bit net domains words cycles step runs fit are step-fits step-inputs step-races after-fit b

  takes : (b : Bit) (r : Race) → race_of races b ≡ Some r → (stepped d old step).values b ≡ next_with net words r.flip b
  takes b r e =
      let now = race-ticks net domains words cycles step runs fit are step-fits step-inputs step-races b r e in
      let register = race-register net domains words cycles step runs fit are step-fits step-inputs step-races b r e in
      ap (λ t. cond t (next_value d old step b) (reading_of words b)) now
      ∙ register-value net domains words cycles step runs fit are step-fits step-inputs step-races b (Some r) register e

  others : first_fault (other_fault d old (stepped d old step).values) races ≡ None
  others = no-faults (other_fault d old (stepped d old step).values) races (λ r i. go r i r.other refl)
    where
      unlike : (u v : Bool) → u ≢ v → not (beq u v) ≡ true
      unlike true true ne = absurd (ne refl)
      unlike true false ne = refl
      unlike false true ne = refl
      unlike false false ne = absurd (ne refl)

      go : (r : Race) → Contains races r → (o : Option (List Bit)) → r.other ≡ o
          → on_list o (λ bs. unless (not (beq (d.next (flipped (has_bit bs) (reading_of words)) r.bit) ((stepped d old step).values r.bit))) (NotOther r.bit)) ≡ None
      go r i None e = refl
      go r i (Some bs) e =
          let p = race-from torn rng2 r i in
          let at : p.1.to ≡ r.bit = sym (race-bit (toss p.0 p.1)) ∙ ap (λ (q : Race). q.bit) p.3 in
          let flop = of-each (IsFlop net) torn p.1 torn-flops p.2 in
          let ne = other-differs net words p.0 p.1 bs flop (ap (λ (q : Race). q.other) p.3 ∙ e) in
          ap (λ t. unless t (NotOther r.bit)) (unlike _ _ (λ f.
          ne (ap (next_with net words bs) at ∙ f ∙ takes r.bit r (race-at races r races-once i) ∙ ap₂ (λ (l : List Bit) (x : Bit). next_with net words l x) (sym (ap (λ (q : Race). q.flip) p.3)) (sym at))))

  -- the cycles behind the step
  module _ (are_cycles : length cycles ≡ length net.graph.signals) (rest : (b : Bit) → is_register_bit net b ≡ false → cycles_of cycles b ≡ 0) where
    abbrev left : List Cycles
    left = tried_cycles domains (copied_in cells copies) ticking net.regs races cycles

    pub lefts : (b : Bit) → cycles_of left b ≡ (stepped d old step).left b
    lefts b = settled-bit net domains words cycles step runs fit are are_cycles rest step-fits step-inputs step-races
        (copied_in cells copies) (λ x h. copied-is net domains copies cells runs fit cells_are shows words x are h) takes others b

    pub rest-after : (b : Bit) → is_register_bit net b ≡ false → cycles_of left b ≡ 0
    rest-after b h = lefts b ∙ ap (λ t. cond t (cond (ticks d (has_edge edges) b) (next_left d old step b) (cycles_of cycles b)) 0) h

    pub state-after : state_of after left ≡ stepped d old step
    state-after = one-state (state_of after left) (stepped d old step) (leads, lefts)

  -- ---- captures

  shows-same : (c : Crossing) → Contains (pairs_of net domains) c
      → shows_in net domains (copied_in cells copies) ticking words cycles after c ≡ captures d edges old (stepped d old step).values c
  shows-same c i = go (ticks d (has_edge edges) c.to) refl
    where
      pair : IsPair net c × (settles net domains c.to ≡ false)
      pair = pair-is net domains is has runs c i

      torn-here : is_torn_in domains (copied_in cells copies) ticking words cycles after c ≡ cond (ticks d (has_edge edges) c.to) (is_loose d old (stepped d old step).values c.to c.from) false
      torn-here = torn-is net domains copies cells runs fit cells_are shows words cycles after (stepped d old step).values are leads edges c pair.0.to pair.0.from

      no-flop : race_of races c.to ≡ None
      no-flop = race-none torn rng2 c.to (λ f j e.
          let p = (flop-is net domains is has runs f (torn-from f j).0).1 in both_ways (settles net domains c.to) pair.1 (ap (settles net domains) (sym e) ∙ p))

      now : ticks d (has_edge edges) c.to ≡ true → reading_of after c.to ≡ d.next (reading_of words) c.to
      now t =
          leads c.to ∙ ap (λ t. cond t (next_value d old step c.to) (reading_of words c.to)) t
          ∙ register-value net domains words cycles step runs fit are step-fits step-inputs step-races c.to None pair.0.to no-flop

      go : (t : Bool) → ticks d (has_edge edges) c.to ≡ t
          → (is_torn_in domains (copied_in cells copies) ticking words cycles after c && not (beq (next_with net words (c.from ∷ []) c.to) (reading_of after c.to)))
          ≡ (ticks d (has_edge edges) c.to && (is_loose d old (stepped d old step).values c.to c.from && not (beq (d.next (flipped (has_bit (c.from ∷ [])) (reading_of words)) c.to) (d.next (reading_of words) c.to))))
      go true t =
          ap₂ (λ v w. v && not (beq (next_with net words (c.from ∷ []) c.to) w)) (torn-here ∙ ap (λ v. cond v (is_loose d old (stepped d old step).values c.to c.from) false) t) (now t)
          ∙ sym (ap (λ v. v && (is_loose d old (stepped d old step).values c.to c.from && not (beq (d.next (flipped (has_bit (c.from ∷ [])) (reading_of words)) c.to) (d.next (reading_of words) c.to)))) t)
      go false t =
          ap (λ v. v && not (beq (next_with net words (c.from ∷ []) c.to) (reading_of after c.to))) (torn-here ∙ ap (λ v. cond v (is_loose d old (stepped d old step).values c.to c.from) false) t)
          ∙ sym (ap (λ v. v && (is_loose d old (stepped d old step).values c.to c.from && not (beq (d.next (flipped (has_bit (c.from ∷ [])) (reading_of words)) c.to) (d.next (reading_of words) c.to)))) t)

  -- ---- what the model draws

  abbrev drawn : Drawn
  drawn = record { edges = edges; inputs = inputs; tosses = with_words toss rng2 torn; rng = behind_all (length torn) rng2 }

  pub drawn-is : draw net domains named number old rng ≡ drawn
  unfolding draw
  drawn-is = refl

  pub captured-is : find (shows_in net domains (copied_in cells copies) ticking words cycles after) (pairs_of net domains) ≡ capture_in net domains old (draw net domains named number old rng)
  unfolding capture_in draw
  captured-is = find-same (shows_in net domains (copied_in cells copies) ticking words cycles after) (captures d edges old (stepped d old step).values) (pairs_of net domains) shows-same
