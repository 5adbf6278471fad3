-- Two nets of one flat design take a text as the same record.
use Rattle.std.proofs.Common.{◌≡◌, ◌∙◌, refl, sym, ap, ap₂, arith, inl, inr, ℕ, ◌==◌, Bool, true, false, cond, ◌&&◌, ◌||◌, nat_lt, Option, Some, None, List, [], length, Result, Ok, Err, lt-ltb}
use Rattle.std.specs.Prelude.{if◌then◌else◌, is_some, slice_get}
use Rattle.std.specs.List.{list_any}
use Rattle.std.specs.Option.{option_map_or}
use Rattle.std.proofs.Math.Path.{fun_ext}
use Rattle.cdc_base.specs.declared.bit.Bit.{Bit}
use Rattle.cdc_base.specs.declared.fault.Fault.{Fault}
use Rattle.cdc_base.specs.declared.signal.SigKind.{SigKind}
use Rattle.cdc_base.specs.declared.signal.Signal.{Signal}
use Rattle.cell_graph.specs.declared.net.Net.{Net}
use Rattle.clock_constraints.specs.declared.ClockPin.{ClockPin}
use Rattle.clock_constraints.specs.declared.Constraints.{Constraints}
use Rattle.clock_constraints.specs.Refusals.{Text, broken, ◌>>=◌}
use Rattle.domains.specs.declared.Domains.{Domains}
use Rattle.domains.specs.Assignment.{clock_of, port_roles}
use Rattle.domains.specs.Clocks.{Roles, static_signals}
use Rattle.domains.specs.Nets.{is_register}
use Rattle.domains.specs.Tables.{first_signal}
use Rattle.cdc_model.specs.declared.record.Given.{Given}
use Rattle.cdc_model.specs.declared.record.Race.{Race}
use Rattle.cdc_model.specs.declared.record.Record.{Record}
use Rattle.cdc_model.specs.declared.record.RecordStep.{RecordStep}
use Rattle.cdc_model.specs.Design.{Design}
use Rattle.cdc_model.specs.Nets.{bit_count, is_within}
use Rattle.settling_sim.specs.State.{has_kind, is_clocked_input, is_input, is_state_signal}
use Rattle.serde_json.specs.Data.{Data}
use Rattle.run_file.specs.declared.document.Document.{Document}
use Rattle.run_file.specs.declared.document.Entry.{Entry}
use Rattle.run_file.specs.declared.document.RaceEntry.{RaceEntry}
use Rattle.run_file.specs.declared.document.StepEntry.{StepEntry}
use Rattle.run_file.specs.Files.{IsBroken, IsMeaning, record_of}
use Rattle.run_file.specs.Names.{bit_named, each, edge, given, input_value, known, other_bits, passing, race, register_bit, start_value, starting, state_bit, step}
use Rattle.run_file.specs.Shapes.{document}
use Rattle.flat_meaning.specs.Design.{Flat}
use Rattle.flat_meaning.specs.Trees.{Selects}
use Rattle.flat_model.specs.Laws.{IsNetOf}
use Rattle.described_design.proofs.Once.{one_design}

-- ---- what a record says, by the signals that pass a test

abbrev start-by : (ℕ → Bool) → List Signal → Entry → Result Given Fault
start-by test signals e = known e.name (passing test (first_signal signals e.name)) >>= (λ (sig : ℕ). given signals e sig >>= (λ (g : Given). starting signals e.name g))

abbrev input-by : (ℕ → Bool) → List Signal → Entry → Result Given Fault
input-by test signals e = known e.name (passing test (first_signal signals e.name)) >>= (λ (sig : ℕ). given signals e sig)

abbrev bit-by : (ℕ → Bool) → List Signal → Text → Result Bit Fault
bit-by test signals name = known name (passing (λ (b : Bit). test b.sig) (bit_named signals name))

abbrev race-by : Result Bit Fault → Result (List Bit) Fault → Result (Option (List Bit)) Fault → Result Race Fault
race-by bit flip other = bit >>= (λ (b : Bit). flip >>= (λ (bs : List Bit). other >>= (λ (o : Option (List Bit)). Ok (record { bit = b; flip = bs; other = o }))))

abbrev step-by : Result (List ℕ) Fault → Result (List Given) Fault → Result (List Race) Fault → Result RecordStep Fault
step-by edges inputs races = edges >>= (λ (es : List ℕ). inputs >>= (λ (gs : List Given). races >>= (λ (rs : List Race). Ok (record { edges = es; inputs = gs; races = rs }))))

abbrev named-by : (Entry → Result Given Fault) → (StepEntry → Result RecordStep Fault) → Document → Result Record Fault
named-by start one doc = if nat_lt 100000 (length doc.steps) then Err (broken 604 []) else (each start doc.start >>= (λ (gs : List Given). each one doc.steps >>= (λ (ks : List RecordStep). Ok (record { start = gs; steps = ks }))))

one-role : (r q : Roles) (given : Result Roles Fault) → given ≡ Ok r → given ≡ Ok q → r ≡ q
one-role r q given h k = cc

module _ (f : Flat) (sel : Selects) (c : Constraints) (net other : Net) (domains others : Domains) (n : IsNetOf f sel c net domains) (o : IsNetOf f sel c other others) where
  signals : net.graph.signals ≡ other.graph.signals
  signals = n.signals ∙ sym o.signals

  clocks : domains.clocks ≡ others.clocks
  clocks = n.assigned.clocks ∙ sym o.assigned.clocks

  roles : n.assigned.roles ≡ o.assigned.roles
  roles = one-role n.assigned.roles o.assigned.roles (port_roles other.graph.signals c) (ap (λ (ss : List Signal). port_roles ss c) (sym signals) ∙ n.assigned.ports) o.assigned.ports

  statics : domains.statics ≡ others.statics
  statics = n.assigned.statics ∙ ap (static_signals 0) roles ∙ sym o.assigned.statics

  same-kind : (test : SigKind → Bool) (sig : ℕ) → has_kind net test sig ≡ has_kind other test sig
  same-kind test sig = ap (λ (ss : List Signal). option_map_or (λ (s : Signal). test s.kind) (slice_get ss sig) false) signals

  abbrev low : ℕ → Bit
  low sig = record { sig = sig; at = 0 }

  -- where the signal is there
  same-clock : (sig : ℕ) → is_within net (low sig) ≡ true → clock_of domains (low sig) ≡ clock_of others (low sig)
  same-clock sig within =
      let there : is_within other (low sig) ≡ true = sym (ap (λ (ss : List Signal). nat_lt 0 (bit_count ss sig)) signals) ∙ within in
      sym (ap (λ (v : Bool). cond v (clock_of domains (low sig)) None) within)
      ∙ ap (λ (d : Design). d.clock (low sig)) (one_design f sel c net other domains others n o)
      ∙ ap (λ (v : Bool). cond v (clock_of others (low sig)) None) there

  same-input : (sig : ℕ) → is_clocked_input net domains sig ≡ is_clocked_input other others sig
  same-input sig = go (slice_get net.graph.signals sig) refl
    where
      go : (q : Option Signal) → slice_get net.graph.signals sig ≡ q → is_clocked_input net domains sig ≡ is_clocked_input other others sig
      go None e =
          let none : has_kind net is_input sig ≡ false = ap (λ (q : Option Signal). option_map_or (λ (s : Signal). is_input s.kind) q false) e in
          ap (λ (v : Bool). v && is_some (clock_of domains (low sig))) none
          ∙ sym (ap (λ (v : Bool). v && is_some (clock_of others (low sig))) (sym (same-kind is_input sig) ∙ none))
      go (Some s) e =
          let wide : nat_lt 0 s.width ≡ true = lt-ltb 0 s.width (let l = (n.is_net.graph.signals sig s e).0 in omega (arith, l)) in
          let within : is_within net (low sig) ≡ true = ap (λ (q : Option Signal). nat_lt 0 (option_map_or (λ (r : Signal). r.width) q 0)) e ∙ wide in
          ap₂ (λ (v : Bool) (k : Option ℕ). v && is_some k) (same-kind is_input sig) (same-clock sig within)

  same-state : (sig : ℕ) → is_state_signal net domains sig ≡ is_state_signal other others sig
  same-state sig =
      ap₂ (λ (v w : Bool). v || w) (ap₂ (λ (v w : Bool). v || w) (same-kind is_register sig) (same-input sig))
      (ap (λ (ss : List ℕ). list_any (λ (s : ℕ). s == sig) ss) statics)

  starts : start_value net domains ≡ start_value other others
  starts = fun_ext (λ (e : Entry). ap₂ (λ (test : ℕ → Bool) (ss : List Signal). start-by test ss e) (fun_ext same-state) signals)

  inputs : input_value net domains ≡ input_value other others
  inputs = fun_ext (λ (e : Entry). ap₂ (λ (test : ℕ → Bool) (ss : List Signal). input-by test ss e) (fun_ext same-input) signals)

  register-bits : register_bit net ≡ register_bit other
  register-bits = fun_ext (λ (name : Text). ap₂ (λ (test : ℕ → Bool) (ss : List Signal). bit-by test ss name) (fun_ext (same-kind is_register)) signals)

  state-bits : state_bit net domains ≡ state_bit other others
  state-bits = fun_ext (λ (name : Text). ap₂ (λ (test : ℕ → Bool) (ss : List Signal). bit-by test ss name) (fun_ext same-state) signals)

  same-others : (names : Option (List Text)) → other_bits net domains names ≡ other_bits other others names
  same-others None = refl
  same-others (Some names) = ap (λ (one : Text → Result Bit Fault). each one names >>= (λ (bs : List Bit). Ok (Some bs))) state-bits

  races : race net domains ≡ race other others
  races = fun_ext (λ (e : RaceEntry).
      ap₂ (λ (one : Text → Result Bit Fault) (all : Text → Result Bit Fault). race-by (one e.bit) (each all e.flip) (other_bits net domains e.other)) register-bits state-bits
      ∙ ap (race-by (register_bit other e.bit) (each (state_bit other others) e.flip)) (same-others e.other))

  steps : step net domains ≡ step other others
  steps = fun_ext (λ (e : StepEntry).
      ap₂ (λ (cs : List ClockPin) (one : Entry → Result Given Fault). step-by (each (edge cs) e.edges) (each one e.inputs) (each (race net domains) e.races)) clocks inputs
      ∙ ap (λ (one : RaceEntry → Result Race Fault). step-by (each (edge others.clocks) e.edges) (each (input_value other others) e.inputs) (each one e.races)) races)

  same-records : (d : Data) → record_of net domains d ≡ record_of other others d
  same-records d =
      ap (λ (one : Document → Result Record Fault). document d >>= one)
      (fun_ext (λ (doc : Document). ap₂ (λ (start : Entry → Result Given Fault) (one : StepEntry → Result RecordStep Fault). named-by start one doc) starts steps))

  pub same-meaning : (text : List ℕ) (r : Record) → IsMeaning net domains text r → IsMeaning other others text r
  same-meaning text r (d, tree, e) = (d, tree, sym (same-records d) ∙ e)

  pub same-fault : (text : List ℕ) (fault : Fault) → IsBroken net domains text fault → IsBroken other others text fault
  same-fault text fault (inl none) = inl none
  same-fault text fault (inr (d, tree, e)) = inr (d, tree, sym (same-records d) ∙ e)
