-- A record names bits alone that hold state, and its replay begins without others set.
use Rattle.std.proofs.Common.{◌≡◌, ◌∙◌, refl, sym, ap, subst, ℕ, ◌/◌, ◌%◌, ◌^◌, length, Bool, true, false, cond, ◌||◌, ◌==◌, eqb-true, List, [], ◌∷◌, Option, Some, None, Ok, slice_get, nat_lt}
use Rattle.std.specs.Prelude.{All, option_and_then}
use Rattle.std.specs.List.{AllByRecursion}
use Rattle.std.proofs.lemmas.List.Elements.{All-head, All-tail}
use Rattle.cdc_base.specs.declared.bit.Bit.{Bit}
use Rattle.cdc_base.specs.declared.signal.Signal.{Signal}
use Rattle.cell_graph.specs.declared.net.Net.{Net}
use Rattle.cell_graph.specs.Reading.{bit_eq}
use Rattle.cell_graph.specs.Tree.{bit_at}
use Rattle.cell_graph.proofs.Bits.{bit_eq-true}
use Rattle.cell_graph.proofs.Words.{bit-zero}
use Rattle.clock_constraints.specs.Refusals.{Text, broken, ◌>>=◌}
use Rattle.domains.specs.declared.Domains.{Domains}
use Rattle.domains.specs.Nets.{IsNet}
use Rattle.cdc_model.specs.declared.record.Given.{Given}
use Rattle.cdc_model.specs.declared.record.Race.{Race}
use Rattle.cdc_model.specs.declared.record.Record.{Record}
use Rattle.cdc_model.specs.declared.record.RecordStep.{RecordStep}
use Rattle.cdc_model.specs.Nets.{design_of, start_of}
use Rattle.cdc_model.specs.Replay.{given_to, has_bit, known_or, opened}
use Rattle.settling_sim.specs.Opened.{IsStart}
use Rattle.settling_sim.specs.Starts.{HasStarts}
use Rattle.settling_sim.specs.State.{is_state_signal}
use Rattle.run_file.specs.declared.document.Document.{Document}
use Rattle.run_file.specs.declared.document.RaceEntry.{RaceEntry}
use Rattle.run_file.specs.declared.document.StepEntry.{StepEntry}
use Rattle.run_file.specs.Files.{IsMeaning, named}
use Rattle.run_file.specs.Names as names
use Rattle.run_file.specs.Names.{bit_named, each, input_value, other_bits, passing, register_bit, start_value, state_bit}
use Rattle.run_file.specs.Shapes.{document}
use Rattle.run_file.proofs.Documents.{meaning_fits}
use Rattle.run_file.proofs.Fitting.{bind_ok, each_always, not_refused, passing_some, required_ok}
use Rattle.flat_meaning.proofs.Placed.{each_of}
use Rattle.flat_model.proofs.OtherReplay.{IsQuiet, IsRaceHeld, IsStepHeld}

module _ (net : Net) (domains : Domains) where
  -- the bit is one of a register, of a clocked input or of a static one
  abbrev pub holds : Bit → Bool
  holds b = is_state_signal net domains b.sig

  -- ---- what is named

  state_bit_held : (t : Text) (b : Bit) → state_bit net domains t ≡ Ok b → holds b ≡ true
  state_bit_held t b h = (passing_some holds (bit_named net.graph.signals t) b (required_ok 503 t (passing holds (bit_named net.graph.signals t)) b h)).1

  listed_held : (bs : List Bit) → All (λ b. holds b ≡ true) bs → (b : Bit) → has_bit bs b ≡ true → holds b ≡ true
  listed_held [] h b e = cc
  listed_held (a ∷ bs) h b e = go (bit_eq a b) refl e (listed_held bs (All-tail (λ x. holds x ≡ true) a bs h) b)
    where
      go : (t : Bool) → bit_eq a b ≡ t → (t || has_bit bs b) ≡ true → (has_bit bs b ≡ true → holds b ≡ true) → holds b ≡ true
      go true s e rest = ap holds (sym (bit_eq-true a b s)) ∙ All-head (λ x. holds x ≡ true) a bs h
      go false s e rest = rest e

  bits_held : (ts : List Text) (bs : List Bit) → each (state_bit net domains) ts ≡ Ok bs → (b : Bit) → has_bit bs b ≡ true → holds b ≡ true
  bits_held ts bs e = listed_held bs (each_always (state_bit net domains) (λ b. holds b ≡ true) state_bit_held ts bs e)

  others_held : (o : Option (List Text)) (bs : List Bit) → other_bits net domains o ≡ Ok (Some bs) → (b : Bit) → has_bit bs b ≡ true → holds b ≡ true
  others_held None bs e = cc
  others_held (Some ts) bs e =
      let (cs, read, whole) = bind_ok (each (state_bit net domains) ts) (λ cs. Ok (Some cs)) (Some bs) e in
      let same : cs ≡ bs = cc in
      bits_held ts bs (read ∙ ap Ok same)

  race_held : (e : RaceEntry) (r : Race) → names.race net domains e ≡ Ok r → IsRaceHeld holds r
  race_held e r h =
      let (bit, first, rest) = bind_ok (register_bit net e.bit) (λ bit. each (state_bit net domains) e.flip >>= (λ flip. other_bits net domains e.other >>= (λ other. Ok (record { bit = bit; flip = flip; other = other })))) r h in
      let (flip, second, more) = bind_ok (each (state_bit net domains) e.flip) (λ flip. other_bits net domains e.other >>= (λ other. Ok (record { bit = bit; flip = flip; other = other }))) r rest in
      let (other, third, whole) = bind_ok (other_bits net domains e.other) (λ other. Ok (record { bit = bit; flip = flip; other = other })) r more in
      let made : Race = record { bit = bit; flip = flip; other = other } in
      let same : made ≡ r = cc in
      let held : IsRaceHeld holds made = (bits_held e.flip flip second, λ bs f. others_held e.other bs (third ∙ ap Ok f)) in
      subst (IsRaceHeld holds) same held

  step_held : (s : StepEntry) (k : RecordStep) → names.step net domains s ≡ Ok k → IsStepHeld holds k
  step_held s k h =
      let (edges, first, rest) = bind_ok (each (names.edge domains.clocks) s.edges) (λ edges. each (input_value net domains) s.inputs >>= (λ inputs. each (names.race net domains) s.races >>= (λ races. Ok (record { edges = edges; inputs = inputs; races = races })))) k h in
      let (inputs, second, more) = bind_ok (each (input_value net domains) s.inputs) (λ inputs. each (names.race net domains) s.races >>= (λ races. Ok (record { edges = edges; inputs = inputs; races = races }))) k rest in
      let (races, third, whole) = bind_ok (each (names.race net domains) s.races) (λ races. Ok (record { edges = edges; inputs = inputs; races = races })) k more in
      let made : RecordStep = record { edges = edges; inputs = inputs; races = races } in
      let same : made ≡ k = cc in
      let held : IsStepHeld holds made = each_of (IsRaceHeld holds) races (each_always (names.race net domains) (IsRaceHeld holds) race_held s.races races third) in
      subst (IsStepHeld holds) same held

  record_held : (doc : Document) (r : Record) → named net domains doc ≡ Ok r → AllByRecursion (IsStepHeld holds) r.steps
  record_held doc r h =
      let (few, read) = not_refused (nat_lt 100000 (length doc.steps)) (broken 604 []) (each (start_value net domains) doc.start >>= (λ start. each (names.step net domains) doc.steps >>= (λ ks. Ok (record { start = start; steps = ks })))) r h in
      let (start, first, rest) = bind_ok (each (start_value net domains) doc.start) (λ start. each (names.step net domains) doc.steps >>= (λ ks. Ok (record { start = start; steps = ks }))) r read in
      let (ks, second, whole) = bind_ok (each (names.step net domains) doc.steps) (λ ks. Ok (record { start = start; steps = ks })) r rest in
      let made : Record = record { start = start; steps = ks } in
      let same : made ≡ r = cc in
      let held : AllByRecursion (IsStepHeld holds) ks = each_of (IsStepHeld holds) ks (each_always (names.step net domains) (IsStepHeld holds) step_held doc.steps ks second) in
      subst (λ (q : Record). AllByRecursion (IsStepHeld holds) q.steps) same held

  pub meaning_held : (bytes : List ℕ) (r : Record) → IsMeaning net domains bytes r → AllByRecursion (IsStepHeld holds) r.steps
  meaning_held bytes r (d, tree, means) = let (doc, first, rest) = bind_ok (document d) (named net domains) r means in record_held doc r rest

  -- ---- the first state

  -- a start value is of a signal that holds state
  given_none : (start : List Given) → AllByRecursion (IsStart net domains) start → (b : Bit) → holds b ≡ false → given_to start b false ≡ false
  given_none [] h b e = refl
  given_none (g ∷ gs) h b e = go (g.sig == b.sig) refl (given_none gs h.1 b e)
    where
      never : true ≡ false → cond true ((g.value / 2 ^ b.at) % 2 == 1) false ≡ false
      never e = cc

      go : (t : Bool) → (g.sig == b.sig) ≡ t → given_to gs b false ≡ false → cond t ((g.value / 2 ^ b.at) % 2 == 1) (given_to gs b false) ≡ false
      go true s rest = never (sym (ap (is_state_signal net domains) (sym (eqb-true g.sig b.sig s)) ∙ h.0.state) ∙ e)
      go false s rest = rest

  start_none : HasStarts net domains → (b : Bit) → holds b ≡ false → start_of net.graph.signals b ≡ None
  start_none h b e = go (slice_get net.graph.signals b.sig) refl
    where
      go : (o : Option Signal) → slice_get net.graph.signals b.sig ≡ o → option_and_then (λ (s : Signal). cond (bit_at s.known b.at) (Some (bit_at s.start b.at)) None) o ≡ None
      go None f = refl
      go (Some s) f = ap (λ k. cond (bit_at k b.at) (Some (bit_at s.start b.at)) None) (h.states b.sig s f e) ∙ ap (λ t. cond t (Some (bit_at s.start b.at)) None) (bit-zero b.at)

  pub opened_quiet : IsNet net → HasStarts net domains → (bytes : List ℕ) (r : Record) → IsMeaning net domains bytes r → IsQuiet holds (opened (design_of net domains) r.start).values
  opened_quiet is starts bytes r means b e =
      ap (λ o. known_or o (given_to r.start b false)) (start_none starts b e)
      ∙ given_none r.start (each_of (IsStart net domains) r.start (meaning_fits net domains is bytes r means).starts.each) b e
