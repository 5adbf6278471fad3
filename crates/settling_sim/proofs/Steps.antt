-- A step is refused by the model's first fault, or leads to the model's next state.
use Rattle.std.proofs.Common.{◌≡◌, ◌∙◌, ℕ, ◌<◌, ◌≤◌, ◌==◌, Bool, true, false, cond, List, [], ◌∷◌, length, get_or, replicate, Option, Some, None, Ok, refl, sym, ap, subst, arith, lt-ltb}
use Rattle.std.specs.Prelude.{slice_get, All}
use Rattle.std.specs.Option.{option_map_or}
use Rattle.std.proofs.lemmas.Bool.{and_parts}
use Rattle.cdc_base.specs.declared.bit.Bit.{Bit}
use Rattle.cdc_base.specs.declared.signal.Signal.{Signal}
use Rattle.cell_graph.specs.declared.cell.CellId.{CellId}
use Rattle.cell_graph.specs.declared.net.Net.{Net}
use Rattle.cell_graph.specs.Tree.{bit}
use Rattle.cell_graph.specs.Values.{AreWordsOf, reading_of}
use Rattle.cofactor.specs.Shown.{Shown}
use Rattle.domains.specs.declared.Domains.{Domains}
use Rattle.domains.specs.Fit.{Fit}
use Rattle.cdc_model.specs.declared.record.Given.{Given}
use Rattle.cdc_model.specs.declared.record.Race.{Race}
use Rattle.cdc_model.specs.declared.record.RecordStep.{RecordStep}
use Rattle.cdc_model.specs.Design.{flipped}
use Rattle.cdc_model.specs.Nets.{is_within, is_register_bit, bit_count, next_tree, design_of}
use Rattle.cdc_model.specs.Recorded.{AreSame}
use Rattle.cdc_model.specs.Replay.{StepFault, NoEdge, or_else, first_fault, unless, any_edge, has_edge, race_of, flips_of, next_value, next_left, stepped, step_fault, input_fault, tick_fault, race_fault, other_fault}
use Rattle.cdc_model.specs.Runs.{State, ticks}
use Rattle.settling_sim.specs.declared.cycles.Cycles.{Cycles}
use Rattle.settling_sim.specs.Cycles.{cycles_of}
use Rattle.settling_sim.specs.Design.{take_cells, copied_in, ShowsCopies}
use Rattle.settling_sim.specs.Edges.{mark_in}
use Rattle.settling_sim.specs.Loose.{input_unmarked, race_unmarked, is_loose_in, race_fault_by, same_fault}
use Rattle.settling_sim.specs.Present.{IsStepped}
use Rattle.settling_sim.specs.Reader.{next_with}
use Rattle.settling_sim.specs.Runs.{HasCells, IsInput, IsRace, IsStepOf, state_of}
use Rattle.settling_sim.specs.State.{has_kind, is_input}
use Rattle.settling_sim.specs.Trial.{tried_words, tried_cycles}
use Rattle.settling_sim.proofs.Faults.{copied-is, races-are, others-are, inputs-unticked, races-unticked}
use Rattle.settling_sim.proofs.Fits.{tried-fit}
use Rattle.settling_sim.proofs.Settles.{settled-bit}
use Rattle.settling_sim.proofs.Stepped.{stepped-bit, race-ticks, race-register, register-value}

pass : (a b : Option StepFault) → a ≡ None → or_else a b ≡ b
pass a b e = ap (λ x. or_else x b) e

stop : (a b : Option StepFault) (f : StepFault) → a ≡ Some f → or_else a b ≡ Some f
stop a b f e = ap (λ x. or_else x b) e

pub some-edge : (es : List ℕ) → (length es == 0) ≡ false → any_edge es ≡ true
some-edge [] h = cc
some-edge (e ∷ es) h = refl

-- an input has a first bit
input-within : (net : Net) (domains : Domains) (g : Given) → HasCells net → IsInput net domains g → is_within net (record { sig = g.sig; at = 0 }) ≡ true
input-within net domains g runs input = go (slice_get net.graph.signals g.sig) refl (and_parts (has_kind net is_input g.sig) _ input.clocked).0
  where
    go : (o : Option Signal) → slice_get net.graph.signals g.sig ≡ o → option_map_or (λ (s : Signal). is_input s.kind) (slice_get net.graph.signals g.sig) false ≡ true
        → is_within net (record { sig = g.sig; at = 0 }) ≡ true
    go None e h = let none : option_map_or (λ (s : Signal). is_input s.kind) None false ≡ true = subst (λ (q : Option Signal). option_map_or (λ (s : Signal). is_input s.kind) q false ≡ true) e h in cc
    go (Some s) e h =
        let wide = runs.graph.signals g.sig s e in
        let is : bit_count net.graph.signals g.sig ≡ s.width = ap (λ o. option_map_or (λ (s : Signal). s.width) o 0) e in
        lt-ltb 0 (bit_count net.graph.signals g.sig) (omega (arith, wide.0))

module _ (net : Net) (domains : Domains) (copies : Shown) (cells : List (Option CellId)) (words : List ℕ) (cycles : List Cycles) (k : RecordStep) (runs : HasCells net) (fit : Fit net domains)
    (cells_are : cells ≡ take_cells net.regs (replicate (length net.graph.signals) None)) (shows : ShowsCopies net copies) (are : AreWordsOf net.graph.signals words) (fits : IsStepOf net domains k)
    (edge : any_edge k.edges ≡ true) where
  abbrev ticking : List Bool
  ticking = mark_in (replicate (length domains.clocks) false) k.edges

  abbrev old : State
  old = state_of words cycles

  abbrev after : List ℕ
  after = tried_words net domains ticking words k.inputs k.races

  begin : step_fault (design_of net domains) old k
      ≡ or_else (first_fault (input_fault (design_of net domains) k) k.inputs)
      (or_else (first_fault (tick_fault (design_of net domains) k) k.races)
      (or_else (first_fault (race_fault (design_of net domains) old (stepped (design_of net domains) old k).values) k.races)
      (first_fault (other_fault (design_of net domains) old (stepped (design_of net domains) old k).values) k.races)))
  begin = ap (λ t. or_else (unless t NoEdge) (or_else (first_fault (input_fault (design_of net domains) k) k.inputs)
      (or_else (first_fault (tick_fault (design_of net domains) k) k.races)
      (or_else (first_fault (race_fault (design_of net domains) old (stepped (design_of net domains) old k).values) k.races)
      (first_fault (other_fault (design_of net domains) old (stepped (design_of net domains) old k).values) k.races))))) edge

  inputs-are : first_fault (input_unmarked domains ticking) k.inputs ≡ first_fault (input_fault (design_of net domains) k) k.inputs
  inputs-are = inputs-unticked net domains fit k (λ i d l. input-within net domains (get_or k.inputs i d) runs (fits.inputs i d l))

  pub by-input : (f : StepFault) → first_fault (input_unmarked domains ticking) k.inputs ≡ Some f → step_fault (design_of net domains) old k ≡ Some f
  by-input f e = begin ∙ stop _ _ f (sym inputs-are ∙ e)

  module _ (inputs_tick : first_fault (input_unmarked domains ticking) k.inputs ≡ None) where
    past-inputs : step_fault (design_of net domains) old k
        ≡ or_else (first_fault (tick_fault (design_of net domains) k) k.races)
        (or_else (first_fault (race_fault (design_of net domains) old (stepped (design_of net domains) old k).values) k.races)
        (first_fault (other_fault (design_of net domains) old (stepped (design_of net domains) old k).values) k.races))
    past-inputs = begin ∙ pass _ _ (sym inputs-are ∙ inputs_tick)

    pub by-race : (f : StepFault) → first_fault (race_unmarked domains ticking) k.races ≡ Some f → step_fault (design_of net domains) old k ≡ Some f
    by-race f e = past-inputs ∙ stop _ _ f (sym (races-unticked net domains fit k fits.races) ∙ e)

    module _ (races_tick : first_fault (race_unmarked domains ticking) k.races ≡ None) where
      ticks-inputs : first_fault (input_fault (design_of net domains) k) k.inputs ≡ None
      ticks-inputs = sym inputs-are ∙ inputs_tick

      ticks-races : first_fault (tick_fault (design_of net domains) k) k.races ≡ None
      ticks-races = sym (races-unticked net domains fit k fits.races) ∙ races_tick

      past-races : step_fault (design_of net domains) old k
          ≡ or_else (first_fault (race_fault (design_of net domains) old (stepped (design_of net domains) old k).values) k.races)
          (first_fault (other_fault (design_of net domains) old (stepped (design_of net domains) old k).values) k.races)
      past-races = past-inputs ∙ pass _ _ ticks-races

      pub after-fits : AreWordsOf net.graph.signals (tried_words net domains ticking words k.inputs k.races)
      after-fits = tried-fit net domains ticking words k.inputs k.races runs are fits.inputs fits.races

      leads : (b : Bit) → reading_of (tried_words net domains ticking words k.inputs k.races) b ≡ (stepped (design_of net domains) old k).values b
      leads b = stepped-bit net domains words cycles k runs fit are fits ticks-inputs ticks-races after-fits b

      loose-are : first_fault (race_fault_by (is_loose_in domains (copied_in cells copies) words cycles (tried_words net domains ticking words k.inputs k.races))) k.races
          ≡ first_fault (race_fault (design_of net domains) old (stepped (design_of net domains) old k).values) k.races
      loose-are = races-are net domains copies cells runs fit cells_are shows words cycles (tried_words net domains ticking words k.inputs k.races) (stepped (design_of net domains) old k).values are leads k.races fits.races

      same-are : first_fault (same_fault (next_with net words) (tried_words net domains ticking words k.inputs k.races)) k.races
          ≡ first_fault (other_fault (design_of net domains) old (stepped (design_of net domains) old k).values) k.races
      same-are = others-are net domains copies cells runs fit cells_are shows words cycles (tried_words net domains ticking words k.inputs k.races) (stepped (design_of net domains) old k).values are leads k.races

      pub by-loose : (f : StepFault)
          → first_fault (race_fault_by (is_loose_in domains (copied_in cells copies) words cycles (tried_words net domains ticking words k.inputs k.races))) k.races ≡ Some f
          → step_fault (design_of net domains) old k ≡ Some f
      by-loose f e = past-races ∙ stop _ _ f (sym loose-are ∙ e)

      module _ (loose : first_fault (race_fault_by (is_loose_in domains (copied_in cells copies) words cycles (tried_words net domains ticking words k.inputs k.races))) k.races ≡ None) where
        pub by-other : (f : StepFault) → first_fault (same_fault (next_with net words) (tried_words net domains ticking words k.inputs k.races)) k.races ≡ Some f
            → step_fault (design_of net domains) old k ≡ Some f
        by-other f e = past-races ∙ pass _ _ (sym loose-are ∙ loose) ∙ sym same-are ∙ e

        module _ (differ : first_fault (same_fault (next_with net words) (tried_words net domains ticking words k.inputs k.races)) k.races ≡ None)
            (are_cycles : length cycles ≡ length net.graph.signals) (rest : (b : Bit) → is_register_bit net b ≡ false → cycles_of cycles b ≡ 0) where
          pub no-fault : step_fault (design_of net domains) old k ≡ None
          no-fault = past-races ∙ pass _ _ (sym loose-are ∙ loose) ∙ sym same-are ∙ differ

          -- a racing bit takes what its race says
          takes : (b : Bit) (r : Race) → race_of k.races b ≡ Some r → (stepped (design_of net domains) old k).values b ≡ next_with net words r.flip b
          takes b r e =
              let now = race-ticks net domains words cycles k runs fit are fits ticks-inputs ticks-races b r e in
              let register = race-register net domains words cycles k runs fit are fits ticks-inputs ticks-races b r e in
              ap (λ t. cond t (next_value (design_of net domains) old k b) (reading_of words b)) now
              ∙ register-value net domains words cycles k runs fit are fits ticks-inputs ticks-races b (Some r) register e

          lefts : (b : Bit) → cycles_of (tried_cycles domains (copied_in cells copies) ticking net.regs k.races cycles) b ≡ (stepped (design_of net domains) old k).left b
          lefts b = settled-bit net domains words cycles k runs fit are are_cycles rest fits ticks-inputs ticks-races
              (copied_in cells copies) (λ x h. copied-is net domains copies cells runs fit cells_are shows words x are h) takes (sym same-are ∙ differ) b

          unregistered-left : (b : Bit) → is_register_bit net b ≡ false → (stepped (design_of net domains) old k).left b ≡ 0
          unregistered-left b h = ap (λ t. cond t (cond (ticks (design_of net domains) (has_edge k.edges) b) (next_left (design_of net domains) old k b) (cycles_of cycles b)) 0) h

          -- words and cycles that are those of the trial are a step
          pub stepped-all : (new_words : List ℕ) (new_cycles : List Cycles) → new_words ≡ tried_words net domains ticking words k.inputs k.races
              → new_cycles ≡ tried_cycles domains (copied_in cells copies) ticking net.regs k.races cycles
              → IsStepped (record { net = net; domains = domains; words = words; cycles = cycles }) k (record { net = net; domains = domains; words = new_words; cycles = new_cycles }) (Ok tt)
          stepped-all ws cs e f = (
            no-fault,
            ((λ b. ap (λ v. reading_of v b) e ∙ leads b), (λ b. ap (λ v. cycles_of v b) f ∙ lefts b)),
            record {
              cells = runs;
              fit = fit;
              words = subst (λ (v : List ℕ). AreWordsOf net.graph.signals v) (sym e) after-fits;
              rest = λ b h. ap (λ v. cycles_of v b) f ∙ lefts b ∙ unregistered-left b h;
            },
          )
