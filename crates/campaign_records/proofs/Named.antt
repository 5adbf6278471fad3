-- Names of a net's steps, looked up again.
use Rattle.std.proofs.Common.{◌≡◌, ◌≢◌, ◌∙◌, ℕ, suc, ◌<◌, ◌≤◌, ◌^◌, nat_lt, nat_le, Bool, true, false, List, [], ◌∷◌, map, length, Option, Some, None, option_map, Result, Ok, Err, is_some, refl, sym, ap, ap₂, arith}
use Rattle.std.specs.Prelude.{slice_get, if◌then◌else◌}
use Rattle.std.specs.List.{AllByRecursion}
use Rattle.std.specs.Option.{option_map_or}
use Rattle.std.proofs.lemmas.Bool.{and_parts, le-ltb}
use Rattle.std.proofs.lemmas.Bool.Decides.{nat_tests}
use Rattle.std.proofs.lemmas.Option.{slice_get_within}
use Rattle.cdc_base.specs.declared.bit.Bit.{Bit}
use Rattle.cdc_base.specs.declared.fault.Fault.{Fault}
use Rattle.cdc_base.specs.declared.signal.Signal.{Signal}
use Rattle.cdc_base.specs.declared.signal.SigKind.{SigKind}
use Rattle.cell_graph.specs.declared.net.Net.{Net}
use Rattle.cell_graph.specs.Nets.{is_register}
use Rattle.clock_constraints.specs.Refusals.{broken, ◌>>=◌, required}
use Rattle.domains.specs.declared.Domains.{Domains}
use Rattle.cdc_model.specs.declared.record.Given.{Given}
use Rattle.cdc_model.specs.declared.record.Race.{Race}
use Rattle.cdc_model.specs.declared.record.Record.{Record}
use Rattle.cdc_model.specs.declared.record.RecordStep.{RecordStep}
use Rattle.cdc_model.specs.Nets.{is_register_bit, is_within, next_cell}
use Rattle.settling_sim.specs.Runs.{HasCells, IsInput}
use Rattle.settling_sim.specs.State.{has_kind, is_clocked_input, is_input, is_state_signal}
use Rattle.settling_sim.proofs.Values.{found-register}
use Rattle.report.specs.Names.{bit_of}
use Rattle.run_file.specs.declared.document.Entry.{Entry}
use Rattle.run_file.specs.declared.document.RaceEntry.{RaceEntry}
use Rattle.run_file.specs.declared.document.StepEntry.{StepEntry}
use Rattle.run_file.specs.Files.{named}
use Rattle.run_file.specs.Names as names
use Rattle.run_file.specs.Names.{bit_named, each, edge, given, input_value, other_bits, register_bit, state_bit}
use Rattle.campaign.specs.Lines.{clock_name}
use Rattle.campaign.specs.Names.{name_of}
use Rattle.campaign.proofs.Passing.{each-weaker}
use Rattle.campaign_records.specs.Laws.{AreFound}

-- a bit of a signal that holds state
pub record IsStateBit (net : Net) (domains : Domains) (b : Bit) : Type 0 where
  pub within : is_within net b ≡ true
  pub state : is_state_signal net domains b.sig ≡ true

-- a race of a register bit, over bits of signals that hold state
pub record IsStateRace (net : Net) (domains : Domains) (r : Race) : Type 0 where
  pub register : is_register_bit net r.bit ≡ true
  pub flips : AllByRecursion (IsStateBit net domains) r.flip
  pub others : (bs : List Bit) → r.other ≡ Some bs → AllByRecursion (IsStateBit net domains) bs

-- a step of which all names are found again
pub record IsNamedStep (net : Net) (domains : Domains) (k : RecordStep) : Type 0 where
  pub edges : AllByRecursion (λ (c : ℕ). c < length domains.clocks) k.edges
  pub inputs : AllByRecursion (IsInput net domains) k.inputs
  pub races : AllByRecursion (IsStateRace net domains) k.races

-- ---- lists

each-named : {A B : Type 0} (one : A → Result B Fault) (f : B → A) (xs : List B) → AllByRecursion (λ x. one (f x) ≡ Ok x) xs → each one (map f xs) ≡ Ok xs
each-named one f [] h = refl
each-named one f (x ∷ xs) h = ap₂ (λ r s. r >>= (λ y. s >>= (λ ys. Ok (y ∷ ys)))) h.0 (each-named one f xs h.1)

-- a value that isn't too wide
narrow : (value : ℕ) (o : Option Signal) → value < 2 ^ option_map_or (λ (s : Signal). s.width) o 0 → option_map_or (λ (s : Signal). nat_le (2 ^ s.width) value) o false ≡ false
narrow value None h = refl
narrow value (Some s) h = grind (arith, nat_tests)

-- a signal of a kind is there
pub kind-there : (net : Net) (test : SigKind → Bool) (sig : ℕ) → has_kind net test sig ≡ true → sig < length net.graph.signals
kind-there net test sig h = go (slice_get net.graph.signals sig) refl
  where
    none : slice_get net.graph.signals sig ≡ None → false ≡ true
    none e = sym (ap (λ (o : Option Signal). option_map_or (λ (s : Signal). test s.kind) o false) e) ∙ h

    go : (o : Option Signal) → slice_get net.graph.signals sig ≡ o → sig < length net.graph.signals
    go None e = absurd (let f = none e in cc)
    go (Some s) e = slice_get_within net.graph.signals sig s e

-- a register's bits are of a signal of that kind
pub register-kind : (net : Net) → HasCells net → (b : Bit) → is_register_bit net b ≡ true → has_kind net is_register b.sig ≡ true
register-kind net cells b h =
    let (r, listed, same, next) = found-register net.regs b.sig (and_parts (is_some (next_cell net.regs b.sig)) (is_within net b) h).0 in
    ap (has_kind net is_register) (sym same) ∙ cells.kinds r listed

module _ (net : Net) (domains : Domains) (cells : HasCells net) (found : AreFound net domains) where
  abbrev signals : List Signal
  signals = net.graph.signals

  abbrev pub entry_of : Given → Entry
  entry_of g = record { name = name_of signals g.sig; value = g.value }

  abbrev pub race_of : Race → RaceEntry
  race_of r = record { bit = bit_of signals r.bit; flip = map (bit_of signals) r.flip; other = option_map (map (bit_of signals)) r.other }

  -- the step by names
  abbrev pub step_of : RecordStep → StepEntry
  step_of k = record { edges = map (clock_name domains) k.edges; inputs = map entry_of k.inputs; races = map race_of k.races }

  edge-found : (c : ℕ) → c < length domains.clocks → edge domains.clocks (clock_name domains c) ≡ Ok c
  edge-found c h = ap (required 503 (clock_name domains c)) (found.clocks c h).1

  input-found : (g : Given) → IsInput net domains g → input_value net domains (entry_of g) ≡ Ok g
  input-found g h =
      let name = name_of signals g.sig in
      let there = kind-there net is_input g.sig (and_parts (has_kind net is_input g.sig) _ h.clocked).0 in
      ap (λ o. required 503 name (names.passing (is_clocked_input net domains) o) >>= given signals (entry_of g)) (found.signals g.sig there).1
      ∙ ap (λ (v : Bool). required 503 name (if v then Some g.sig else None) >>= given signals (entry_of g)) h.clocked
      ∙ ap (λ (v : Bool). if v then Err (broken 508 name) else Ok g) (narrow g.value (slice_get signals g.sig) h.fits)

  register-found : (b : Bit) → is_register_bit net b ≡ true → register_bit net (bit_of signals b) ≡ Ok b
  register-found b h =
      let name = bit_of signals b in
      let within = (and_parts (is_some (next_cell net.regs b.sig)) (is_within net b) h).1 in
      ap (λ o. required 503 name (names.passing (λ (c : Bit). has_kind net is_register c.sig) o)) (found.bits b within).1
      ∙ ap (λ (v : Bool). required 503 name (if v then Some b else None)) (register-kind net cells b h)

  state-found : (b : Bit) → IsStateBit net domains b → state_bit net domains (bit_of signals b) ≡ Ok b
  state-found b h =
      let name = bit_of signals b in
      ap (λ o. required 503 name (names.passing (λ (c : Bit). is_state_signal net domains c.sig) o)) (found.bits b h.within).1
      ∙ ap (λ (v : Bool). required 503 name (if v then Some b else None)) h.state

  bits-found : (bs : List Bit) → AllByRecursion (IsStateBit net domains) bs → each (state_bit net domains) (map (bit_of signals) bs) ≡ Ok bs
  bits-found bs h = each-named (state_bit net domains) (bit_of signals) bs (each-weaker (IsStateBit net domains) (λ b. state_bit net domains (bit_of signals b) ≡ Ok b) state-found bs h)

  others-found : (o : Option (List Bit)) → ((bs : List Bit) → o ≡ Some bs → AllByRecursion (IsStateBit net domains) bs) → other_bits net domains (option_map (map (bit_of signals)) o) ≡ Ok o
  others-found None h = refl
  others-found (Some bs) h = ap (λ r. r >>= (λ cs. Ok (Some cs))) (bits-found bs (h bs refl))

  race-found : (r : Race) → IsStateRace net domains r → names.race net domains (race_of r) ≡ Ok r
  race-found r h =
      ap (λ x. x >>= (λ bit. each (state_bit net domains) (map (bit_of signals) r.flip) >>= (λ flip. other_bits net domains (option_map (map (bit_of signals)) r.other) >>= (λ other. Ok (made bit flip other)))))
      (register-found r.bit h.register)
      ∙ ap (λ x. x >>= (λ flip. other_bits net domains (option_map (map (bit_of signals)) r.other) >>= (λ other. Ok (made r.bit flip other)))) (bits-found r.flip h.flips)
      ∙ ap (λ x. x >>= (λ other. Ok (made r.bit r.flip other))) (others-found r.other h.others)
    where
      made : Bit → List Bit → Option (List Bit) → Race
      made bit flip other = record { bit = bit; flip = flip; other = other }

  step-found : (k : RecordStep) → IsNamedStep net domains k → names.step net domains (step_of k) ≡ Ok k
  step-found k h =
      ap (λ x. x >>= (λ edges. each (input_value net domains) (map entry_of k.inputs) >>= (λ inputs. each (names.race net domains) (map race_of k.races) >>= (λ races. Ok (made edges inputs races)))))
      (each-named (edge domains.clocks) (clock_name domains) k.edges (each-weaker (λ (c : ℕ). c < length domains.clocks) (λ c. edge domains.clocks (clock_name domains c) ≡ Ok c) edge-found k.edges h.edges))
      ∙ ap (λ x. x >>= (λ inputs. each (names.race net domains) (map race_of k.races) >>= (λ races. Ok (made k.edges inputs races))))
      (each-named (input_value net domains) entry_of k.inputs (each-weaker (IsInput net domains) (λ g. input_value net domains (entry_of g) ≡ Ok g) input-found k.inputs h.inputs))
      ∙ ap (λ x. x >>= (λ races. Ok (made k.edges k.inputs races)))
      (each-named (names.race net domains) race_of k.races (each-weaker (IsStateRace net domains) (λ r. names.race net domains (race_of r) ≡ Ok r) race-found k.races h.races))
    where
      made : List ℕ → List Given → List Race → RecordStep
      made edges inputs races = record { edges = edges; inputs = inputs; races = races }

  steps-long : (ks : List RecordStep) → length (map step_of ks) ≡ length ks
  steps-long [] = refl
  steps-long (k ∷ ks) = ap suc (steps-long ks)

  few-left : (ks : List RecordStep) → length ks ≤ 100000 → nat_lt 100000 (length (map step_of ks)) ≡ false
  few-left ks h = let l = steps-long ks in le-ltb 100000 (length (map step_of ks)) (omega (arith, l, h))

  -- the names stand for the steps again
  pub steps-named : (ks : List RecordStep) → length ks ≤ 100000 → AllByRecursion (IsNamedStep net domains) ks
      → named net domains (record { start = []; steps = map step_of ks }) ≡ Ok (record { start = []; steps = ks })
  steps-named ks few h =
      ap (λ (v : Bool). if v then Err (broken 604 []) else (each (names.step net domains) (map step_of ks) >>= (λ js. Ok (whole js)))) (few-left ks few)
      ∙ ap (λ x. x >>= (λ js. Ok (whole js))) (each-named (names.step net domains) step_of ks (each-weaker (IsNamedStep net domains) (λ k. names.step net domains (step_of k) ≡ Ok k) step-found ks h))
    where
      whole : List RecordStep → Record
      whole js = record { start = []; steps = js }

  -- ---- bits that differ have names that do

  pub names-differ : (b c : Bit) → is_within net b ≡ true → is_within net c ≡ true → b ≢ c → bit_of signals b ≢ bit_of signals c
  names-differ b c h k ne same = ne (one (sym (found.bits b h).1 ∙ ap (bit_named signals) same ∙ (found.bits c k).1))
    where
      one : Some b ≡ Some c → b ≡ c
      one e = cc
