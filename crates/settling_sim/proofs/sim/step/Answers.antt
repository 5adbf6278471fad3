use Rattle.std.proofs.Common.{◌≡◌, ◌∙◌, ap, ap₂, sym, subst, refl, rules, ℕ, List, Bool, true, false, length, replicate, Some, None, Ok, Err, Result}
use Rattle.std.specs.Prelude.{⊤}
use Rattle.cell_graph.specs.Values.{AreWordsOf, values_of}
use Rattle.cdc_model.specs.declared.record.RecordStep.{RecordStep}
use Rattle.cdc_model.specs.Replay.{any_edge, first_fault}
use Rattle.settling_sim.specs.declared.fault.StepFault.{StepFault}
use Rattle.settling_sim.specs.declared.reader.Reader.{Reader}
use Rattle.settling_sim.specs.Design.{copied_in}
use Rattle.settling_sim.specs.Edges.{mark_in}
use Rattle.settling_sim.specs.Faults.{meant}
use Rattle.settling_sim.specs.Loose.{input_unmarked, race_unmarked, is_loose_in, race_fault_by, same_fault}
use Rattle.settling_sim.specs.Present.{IsStepped}
use Rattle.settling_sim.specs.Reader.{next_with, HasRoom}
use Rattle.settling_sim.specs.Trial.{tried_words, tried_cycles}
use Rattle.settling_sim.proofs.Kept.{marked-kept, tried-kept}
use Rattle.settling_sim.proofs.Steps.{some-edge, by-input, by-race, by-loose, by-other, stepped-all}
use Rattle.settling_sim.proofs.sim.step.Goals as goal

pub returns-in_err-check_inputs-clause-exact : goal.returns-in_err-check_inputs-clause-exact
returns-in_err-check_inputs-clause-exact c = λ kept can fits.
    let k : RecordStep = record { edges = c.args.edges.now; inputs = c.args.inputs.now; races = c.args.races.now } in
    let edge : any_edge c.args.edges.now ≡ true = some-edge c.args.edges.now (sym c.is_empty.ensures ∙ c.if-is_empty.false) in
    let marks : c.mark.new.self.ticking.items ≡ (mark_in (replicate (length c.args.design.now.domains.now.clocks) false) c.args.edges.now) = c.mark.ensures.ticking ∙ ap (λ n. mark_in (replicate n false) c.args.edges.now) kept.room.ticking in
    let inputs : first_fault (input_unmarked c.args.design.now.domains.now (mark_in (replicate (length c.args.design.now.domains.now.clocks) false) c.args.edges.now)) c.args.inputs.now ≡ Some (meant c.in_err-check_inputs.field-0.0)
    = subst (λ (ts : List Bool). first_fault (input_unmarked c.args.design.now.domains.now ts) c.args.inputs.now ≡ Some (meant c.in_err-check_inputs.field-0.0)) (c.deref.ensures.value ∙ marks) c.in_err-check_inputs.ensures in
    let result : c.from_residual.result ≡ Err c.in_err-check_inputs.field-0.0 = search rules in
    subst (λ (r : Result ⊤ StepFault). IsStepped (record { net = c.args.design.now.net.now; domains = c.args.design.now.domains.now; words = c.args.moment.now.words.items; cycles = c.args.moment.now.cycles.items }) k (record { net = c.args.design.now.net.now; domains = c.args.design.now.domains.now; words = c.args.moment.now.words.items; cycles = c.args.moment.now.cycles.items }) r) (sym result)
    (by-input c.args.design.now.net.now c.args.design.now.domains.now c.args.design.now.copies c.args.design.now.cells.items c.args.moment.now.words.items c.args.moment.now.cycles.items k can.cells can.fit kept.are_next (kept.shows can.cells.graph) can.words fits edge (meant c.in_err-check_inputs.field-0.0) inputs)

pub returns-in_err-check_inputs-clause-kept : goal.returns-in_err-check_inputs-clause-kept
returns-in_err-check_inputs-clause-kept c = λ kept. marked-kept c.args.design.now.net.now c.args.design.now.domains.now c.args.design.now.cells.items c.args.design.now.copies c.args.moment.now c.args.trial.now kept c.mark.new.self c.args.edges.now c.mark.ensures.ticking c.mark.ensures.words c.mark.ensures.cycles c.mark.ensures.reader

pub returns-in_err-check_clocks-clause-exact : goal.returns-in_err-check_clocks-clause-exact
returns-in_err-check_clocks-clause-exact c = λ kept can fits.
    let k : RecordStep = record { edges = c.args.edges.now; inputs = c.args.inputs.now; races = c.args.races.now } in
    let edge : any_edge c.args.edges.now ≡ true = some-edge c.args.edges.now (sym c.is_empty.ensures ∙ c.if-is_empty.false) in
    let marks : c.mark.new.self.ticking.items ≡ (mark_in (replicate (length c.args.design.now.domains.now.clocks) false) c.args.edges.now) = c.mark.ensures.ticking ∙ ap (λ n. mark_in (replicate n false) c.args.edges.now) kept.room.ticking in
    let inputs : first_fault (input_unmarked c.args.design.now.domains.now (mark_in (replicate (length c.args.design.now.domains.now.clocks) false) c.args.edges.now)) c.args.inputs.now ≡ None
    = subst (λ (ts : List Bool). first_fault (input_unmarked c.args.design.now.domains.now ts) c.args.inputs.now ≡ None) (c.deref.ensures.value ∙ marks) c.in_ok-check_inputs.ensures in
    let clocks : first_fault (race_unmarked c.args.design.now.domains.now (mark_in (replicate (length c.args.design.now.domains.now.clocks) false) c.args.edges.now)) c.args.races.now ≡ Some (meant c.in_err-check_clocks.field-0.0)
    = subst (λ (ts : List Bool). first_fault (race_unmarked c.args.design.now.domains.now ts) c.args.races.now ≡ Some (meant c.in_err-check_clocks.field-0.0)) (c.deref-2.ensures.value ∙ marks) c.in_err-check_clocks.ensures in
    let result : c.from_residual-in_err-check_clocks.result ≡ Err c.in_err-check_clocks.field-0.0 = search rules in
    subst (λ (r : Result ⊤ StepFault). IsStepped (record { net = c.args.design.now.net.now; domains = c.args.design.now.domains.now; words = c.args.moment.now.words.items; cycles = c.args.moment.now.cycles.items }) k (record { net = c.args.design.now.net.now; domains = c.args.design.now.domains.now; words = c.args.moment.now.words.items; cycles = c.args.moment.now.cycles.items }) r) (sym result)
    (by-race c.args.design.now.net.now c.args.design.now.domains.now c.args.design.now.copies c.args.design.now.cells.items c.args.moment.now.words.items c.args.moment.now.cycles.items k can.cells can.fit kept.are_next (kept.shows can.cells.graph) can.words fits edge inputs (meant c.in_err-check_clocks.field-0.0) clocks)

pub returns-in_err-check_clocks-clause-kept : goal.returns-in_err-check_clocks-clause-kept
returns-in_err-check_clocks-clause-kept c = λ kept. marked-kept c.args.design.now.net.now c.args.design.now.domains.now c.args.design.now.cells.items c.args.design.now.copies c.args.moment.now c.args.trial.now kept c.mark.new.self c.args.edges.now c.mark.ensures.ticking c.mark.ensures.words c.mark.ensures.cycles c.mark.ensures.reader

pub returns-in_err-check_loose-clause-exact : goal.returns-in_err-check_loose-clause-exact
returns-in_err-check_loose-clause-exact c = λ kept can fits.
    let k : RecordStep = record { edges = c.args.edges.now; inputs = c.args.inputs.now; races = c.args.races.now } in
    let edge : any_edge c.args.edges.now ≡ true = some-edge c.args.edges.now (sym c.is_empty.ensures ∙ c.if-is_empty.false) in
    let marks : c.mark.new.self.ticking.items ≡ (mark_in (replicate (length c.args.design.now.domains.now.clocks) false) c.args.edges.now) = c.mark.ensures.ticking ∙ ap (λ n. mark_in (replicate n false) c.args.edges.now) kept.room.ticking in
    let inputs : first_fault (input_unmarked c.args.design.now.domains.now (mark_in (replicate (length c.args.design.now.domains.now.clocks) false) c.args.edges.now)) c.args.inputs.now ≡ None
    = subst (λ (ts : List Bool). first_fault (input_unmarked c.args.design.now.domains.now ts) c.args.inputs.now ≡ None) (c.deref.ensures.value ∙ marks) c.in_ok-check_inputs.ensures in
    let clocks : first_fault (race_unmarked c.args.design.now.domains.now (mark_in (replicate (length c.args.design.now.domains.now.clocks) false) c.args.edges.now)) c.args.races.now ≡ None
    = subst (λ (ts : List Bool). first_fault (race_unmarked c.args.design.now.domains.now ts) c.args.races.now ≡ None) (c.deref-2.ensures.value ∙ marks) c.in_ok-check_clocks.ensures in
    let before : c.as_slice.result.now ≡ c.args.moment.now.words.items = c.as_slice.ensures.value in
    let room : HasRoom c.args.design.now.net.now c.mark.new.self.reader = subst (λ (r : Reader). HasRoom c.args.design.now.net.now r) (sym c.mark.ensures.reader) kept.room.reader in
    let are : AreWordsOf c.args.design.now.net.now.graph.signals c.as_slice.result.now = subst (λ (ws : List ℕ). AreWordsOf c.args.design.now.net.now.graph.signals ws) (sym before) can.words in
    let words : c.try_words.new.trial.words.items ≡ (tried_words c.args.design.now.net.now c.args.design.now.domains.now (mark_in (replicate (length c.args.design.now.domains.now.clocks) false) c.args.edges.now) c.args.moment.now.words.items c.args.inputs.now c.args.races.now)
    = c.try_words.ensures.words can.cells are room (ap (λ v. length v.items) c.mark.ensures.words ∙ kept.room.words ∙ sym kept.words ∙ ap length (sym before)) fits.races
    ∙ ap₂ (λ (ts : List Bool) (ws : List ℕ). tried_words c.args.design.now.net.now c.args.design.now.domains.now ts ws c.args.inputs.now c.args.races.now) marks before in
    let loose : first_fault (race_fault_by (is_loose_in c.args.design.now.domains.now (copied_in c.args.design.now.cells.items c.args.design.now.copies) c.args.moment.now.words.items c.args.moment.now.cycles.items (tried_words c.args.design.now.net.now c.args.design.now.domains.now (mark_in (replicate (length c.args.design.now.domains.now.clocks) false) c.args.edges.now) c.args.moment.now.words.items c.args.inputs.now c.args.races.now))) c.args.races.now ≡ Some (meant c.in_err-check_loose.field-0.0)
    = subst (λ (a : List ℕ). first_fault (race_fault_by (is_loose_in c.args.design.now.domains.now (copied_in c.args.design.now.cells.items c.args.design.now.copies) c.args.moment.now.words.items c.args.moment.now.cycles.items a)) c.args.races.now ≡ Some (meant c.in_err-check_loose.field-0.0)) (c.as_slice-2.ensures.value ∙ words) c.in_err-check_loose.ensures in
    let result : c.from_residual-in_err-check_loose.result ≡ Err c.in_err-check_loose.field-0.0 = search rules in
    subst (λ (r : Result ⊤ StepFault). IsStepped (record { net = c.args.design.now.net.now; domains = c.args.design.now.domains.now; words = c.args.moment.now.words.items; cycles = c.args.moment.now.cycles.items }) k (record { net = c.args.design.now.net.now; domains = c.args.design.now.domains.now; words = c.args.moment.now.words.items; cycles = c.args.moment.now.cycles.items }) r) (sym result)
    (by-loose c.args.design.now.net.now c.args.design.now.domains.now c.args.design.now.copies c.args.design.now.cells.items c.args.moment.now.words.items c.args.moment.now.cycles.items k can.cells can.fit kept.are_next (kept.shows can.cells.graph) can.words fits edge inputs clocks (meant c.in_err-check_loose.field-0.0) loose)

pub returns-in_err-check_loose-clause-kept : goal.returns-in_err-check_loose-clause-kept
returns-in_err-check_loose-clause-kept c = λ kept. tried-kept c.args.design.now.net.now c.args.design.now.domains.now c.args.design.now.cells.items c.args.design.now.copies c.args.moment.now c.mark.new.self (marked-kept c.args.design.now.net.now c.args.design.now.domains.now c.args.design.now.cells.items c.args.design.now.copies c.args.moment.now c.args.trial.now kept c.mark.new.self c.args.edges.now c.mark.ensures.ticking c.mark.ensures.words c.mark.ensures.cycles c.mark.ensures.reader) c.try_words.new.trial c.try_words.ensures.ticking c.try_words.ensures.length (ap (λ v. length v.items) c.try_words.ensures.cycles) c.try_words.ensures.room

pub returns-in_err-check_differing-clause-exact : goal.returns-in_err-check_differing-clause-exact
returns-in_err-check_differing-clause-exact c = λ kept can fits.
    let k : RecordStep = record { edges = c.args.edges.now; inputs = c.args.inputs.now; races = c.args.races.now } in
    let edge : any_edge c.args.edges.now ≡ true = some-edge c.args.edges.now (sym c.is_empty.ensures ∙ c.if-is_empty.false) in
    let marks : c.mark.new.self.ticking.items ≡ (mark_in (replicate (length c.args.design.now.domains.now.clocks) false) c.args.edges.now) = c.mark.ensures.ticking ∙ ap (λ n. mark_in (replicate n false) c.args.edges.now) kept.room.ticking in
    let inputs : first_fault (input_unmarked c.args.design.now.domains.now (mark_in (replicate (length c.args.design.now.domains.now.clocks) false) c.args.edges.now)) c.args.inputs.now ≡ None
    = subst (λ (ts : List Bool). first_fault (input_unmarked c.args.design.now.domains.now ts) c.args.inputs.now ≡ None) (c.deref.ensures.value ∙ marks) c.in_ok-check_inputs.ensures in
    let clocks : first_fault (race_unmarked c.args.design.now.domains.now (mark_in (replicate (length c.args.design.now.domains.now.clocks) false) c.args.edges.now)) c.args.races.now ≡ None
    = subst (λ (ts : List Bool). first_fault (race_unmarked c.args.design.now.domains.now ts) c.args.races.now ≡ None) (c.deref-2.ensures.value ∙ marks) c.in_ok-check_clocks.ensures in
    let before : c.as_slice.result.now ≡ c.args.moment.now.words.items = c.as_slice.ensures.value in
    let room : HasRoom c.args.design.now.net.now c.mark.new.self.reader = subst (λ (r : Reader). HasRoom c.args.design.now.net.now r) (sym c.mark.ensures.reader) kept.room.reader in
    let are : AreWordsOf c.args.design.now.net.now.graph.signals c.as_slice.result.now = subst (λ (ws : List ℕ). AreWordsOf c.args.design.now.net.now.graph.signals ws) (sym before) can.words in
    let words : c.try_words.new.trial.words.items ≡ (tried_words c.args.design.now.net.now c.args.design.now.domains.now (mark_in (replicate (length c.args.design.now.domains.now.clocks) false) c.args.edges.now) c.args.moment.now.words.items c.args.inputs.now c.args.races.now)
    = c.try_words.ensures.words can.cells are room (ap (λ v. length v.items) c.mark.ensures.words ∙ kept.room.words ∙ sym kept.words ∙ ap length (sym before)) fits.races
    ∙ ap₂ (λ (ts : List Bool) (ws : List ℕ). tried_words c.args.design.now.net.now c.args.design.now.domains.now ts ws c.args.inputs.now c.args.races.now) marks before in
    let loose : first_fault (race_fault_by (is_loose_in c.args.design.now.domains.now (copied_in c.args.design.now.cells.items c.args.design.now.copies) c.args.moment.now.words.items c.args.moment.now.cycles.items (tried_words c.args.design.now.net.now c.args.design.now.domains.now (mark_in (replicate (length c.args.design.now.domains.now.clocks) false) c.args.edges.now) c.args.moment.now.words.items c.args.inputs.now c.args.races.now))) c.args.races.now ≡ None
    = subst (λ (a : List ℕ). first_fault (race_fault_by (is_loose_in c.args.design.now.domains.now (copied_in c.args.design.now.cells.items c.args.design.now.copies) c.args.moment.now.words.items c.args.moment.now.cycles.items a)) c.args.races.now ≡ None) (c.as_slice-2.ensures.value ∙ words) c.in_ok-check_loose.ensures in
    let again : c.as_slice-3.result.now ≡ c.args.moment.now.words.items = c.as_slice-3.ensures.value in
    let filled : c.try_words.new.trial.reader.plain ≡ values_of c.args.design.now.net.now.graph c.as_slice-3.result.now = c.try_words.ensures.plain can.cells are room ∙ ap (values_of c.args.design.now.net.now.graph) (before ∙ sym again) in
    let others : first_fault (same_fault (next_with c.args.design.now.net.now c.args.moment.now.words.items) (tried_words c.args.design.now.net.now c.args.design.now.domains.now (mark_in (replicate (length c.args.design.now.domains.now.clocks) false) c.args.edges.now) c.args.moment.now.words.items c.args.inputs.now c.args.races.now)) c.args.races.now ≡ Some (meant c.in_err-check_differing.field-0.0)
    = sym (ap₂ (λ (ws : List ℕ) (a : List ℕ). first_fault (same_fault (next_with c.args.design.now.net.now ws) a) c.args.races.now) again (c.as_slice-4.ensures.value ∙ words))
    ∙ c.in_err-check_differing.ensures.refused can.cells (c.try_words.ensures.room room) (subst (λ (ws : List ℕ). AreWordsOf c.args.design.now.net.now.graph.signals ws) (sym again) can.words) filled fits.races in
    let result : c.from_residual-in_err-check_differing.result ≡ Err c.in_err-check_differing.field-0.0 = search rules in
    subst (λ (r : Result ⊤ StepFault). IsStepped (record { net = c.args.design.now.net.now; domains = c.args.design.now.domains.now; words = c.args.moment.now.words.items; cycles = c.args.moment.now.cycles.items }) k (record { net = c.args.design.now.net.now; domains = c.args.design.now.domains.now; words = c.args.moment.now.words.items; cycles = c.args.moment.now.cycles.items }) r) (sym result)
    (by-other c.args.design.now.net.now c.args.design.now.domains.now c.args.design.now.copies c.args.design.now.cells.items c.args.moment.now.words.items c.args.moment.now.cycles.items k can.cells can.fit kept.are_next (kept.shows can.cells.graph) can.words fits edge inputs clocks loose (meant c.in_err-check_differing.field-0.0) others)

pub returns-in_err-check_differing-clause-kept : goal.returns-in_err-check_differing-clause-kept
returns-in_err-check_differing-clause-kept c = λ kept. tried-kept c.args.design.now.net.now c.args.design.now.domains.now c.args.design.now.cells.items c.args.design.now.copies c.args.moment.now c.try_words.new.trial (tried-kept c.args.design.now.net.now c.args.design.now.domains.now c.args.design.now.cells.items c.args.design.now.copies c.args.moment.now c.mark.new.self (marked-kept c.args.design.now.net.now c.args.design.now.domains.now c.args.design.now.cells.items c.args.design.now.copies c.args.moment.now c.args.trial.now kept c.mark.new.self c.args.edges.now c.mark.ensures.ticking c.mark.ensures.words c.mark.ensures.cycles c.mark.ensures.reader) c.try_words.new.trial c.try_words.ensures.ticking c.try_words.ensures.length (ap (λ v. length v.items) c.try_words.ensures.cycles) c.try_words.ensures.room) (record c.try_words.new.trial { reader = c.check_differing.new.reader }) refl refl refl c.check_differing.ensures.room

pub returns-clause-exact : goal.returns-clause-exact
returns-clause-exact c = λ kept can fits.
    let k : RecordStep = record { edges = c.args.edges.now; inputs = c.args.inputs.now; races = c.args.races.now } in
    let edge : any_edge c.args.edges.now ≡ true = some-edge c.args.edges.now (sym c.is_empty.ensures ∙ c.if-is_empty.false) in
    let marks : c.mark.new.self.ticking.items ≡ (mark_in (replicate (length c.args.design.now.domains.now.clocks) false) c.args.edges.now) = c.mark.ensures.ticking ∙ ap (λ n. mark_in (replicate n false) c.args.edges.now) kept.room.ticking in
    let inputs : first_fault (input_unmarked c.args.design.now.domains.now (mark_in (replicate (length c.args.design.now.domains.now.clocks) false) c.args.edges.now)) c.args.inputs.now ≡ None
    = subst (λ (ts : List Bool). first_fault (input_unmarked c.args.design.now.domains.now ts) c.args.inputs.now ≡ None) (c.deref.ensures.value ∙ marks) c.in_ok-check_inputs.ensures in
    let clocks : first_fault (race_unmarked c.args.design.now.domains.now (mark_in (replicate (length c.args.design.now.domains.now.clocks) false) c.args.edges.now)) c.args.races.now ≡ None
    = subst (λ (ts : List Bool). first_fault (race_unmarked c.args.design.now.domains.now ts) c.args.races.now ≡ None) (c.deref-2.ensures.value ∙ marks) c.in_ok-check_clocks.ensures in
    let before : c.as_slice.result.now ≡ c.args.moment.now.words.items = c.as_slice.ensures.value in
    let room : HasRoom c.args.design.now.net.now c.mark.new.self.reader = subst (λ (r : Reader). HasRoom c.args.design.now.net.now r) (sym c.mark.ensures.reader) kept.room.reader in
    let are : AreWordsOf c.args.design.now.net.now.graph.signals c.as_slice.result.now = subst (λ (ws : List ℕ). AreWordsOf c.args.design.now.net.now.graph.signals ws) (sym before) can.words in
    let words : c.try_words.new.trial.words.items ≡ (tried_words c.args.design.now.net.now c.args.design.now.domains.now (mark_in (replicate (length c.args.design.now.domains.now.clocks) false) c.args.edges.now) c.args.moment.now.words.items c.args.inputs.now c.args.races.now)
    = c.try_words.ensures.words can.cells are room (ap (λ v. length v.items) c.mark.ensures.words ∙ kept.room.words ∙ sym kept.words ∙ ap length (sym before)) fits.races
    ∙ ap₂ (λ (ts : List Bool) (ws : List ℕ). tried_words c.args.design.now.net.now c.args.design.now.domains.now ts ws c.args.inputs.now c.args.races.now) marks before in
    let loose : first_fault (race_fault_by (is_loose_in c.args.design.now.domains.now (copied_in c.args.design.now.cells.items c.args.design.now.copies) c.args.moment.now.words.items c.args.moment.now.cycles.items (tried_words c.args.design.now.net.now c.args.design.now.domains.now (mark_in (replicate (length c.args.design.now.domains.now.clocks) false) c.args.edges.now) c.args.moment.now.words.items c.args.inputs.now c.args.races.now))) c.args.races.now ≡ None
    = subst (λ (a : List ℕ). first_fault (race_fault_by (is_loose_in c.args.design.now.domains.now (copied_in c.args.design.now.cells.items c.args.design.now.copies) c.args.moment.now.words.items c.args.moment.now.cycles.items a)) c.args.races.now ≡ None) (c.as_slice-2.ensures.value ∙ words) c.in_ok-check_loose.ensures in
    let again : c.as_slice-3.result.now ≡ c.args.moment.now.words.items = c.as_slice-3.ensures.value in
    let filled : c.try_words.new.trial.reader.plain ≡ values_of c.args.design.now.net.now.graph c.as_slice-3.result.now = c.try_words.ensures.plain can.cells are room ∙ ap (values_of c.args.design.now.net.now.graph) (before ∙ sym again) in
    let others : first_fault (same_fault (next_with c.args.design.now.net.now c.args.moment.now.words.items) (tried_words c.args.design.now.net.now c.args.design.now.domains.now (mark_in (replicate (length c.args.design.now.domains.now.clocks) false) c.args.edges.now) c.args.moment.now.words.items c.args.inputs.now c.args.races.now)) c.args.races.now ≡ None
    = sym (ap₂ (λ (ws : List ℕ) (a : List ℕ). first_fault (same_fault (next_with c.args.design.now.net.now ws) a) c.args.races.now) again (c.as_slice-4.ensures.value ∙ words))
    ∙ c.in_ok-check_differing.ensures.refused can.cells (c.try_words.ensures.room room) (subst (λ (ws : List ℕ). AreWordsOf c.args.design.now.net.now.graph.signals ws) (sym again) can.words) filled fits.races in
    let ticking : c.try_words.new.trial.ticking.items ≡ (mark_in (replicate (length c.args.design.now.domains.now.clocks) false) c.args.edges.now) = ap (λ v. v.items) c.try_words.ensures.ticking ∙ marks in
    let new_words : c.swap.new.x.items ≡ (tried_words c.args.design.now.net.now c.args.design.now.domains.now (mark_in (replicate (length c.args.design.now.domains.now.clocks) false) c.args.edges.now) c.args.moment.now.words.items c.args.inputs.now c.args.races.now) = ap (λ v. v.items) (c.swap.ensures.x_after ∙ c.try_cycles.ensures.words) ∙ words in
    let new_cycles : c.swap-2.new.x.items ≡ tried_cycles c.args.design.now.domains.now (copied_in c.args.design.now.cells.items c.args.design.now.copies) (mark_in (replicate (length c.args.design.now.domains.now.clocks) false) c.args.edges.now) c.args.design.now.net.now.regs c.args.races.now c.args.moment.now.cycles.items
    = ap (λ v. v.items) c.swap-2.ensures.x_after ∙ c.try_cycles.ensures.cycles (ap (λ v. length v.items) c.try_words.ensures.cycles ∙ ap (λ v. length v.items) c.mark.ensures.cycles ∙ kept.room.cycles ∙ sym kept.cycles)
    ∙ ap (λ (ts : List Bool). tried_cycles c.args.design.now.domains.now (copied_in c.args.design.now.cells.items c.args.design.now.copies) ts c.args.design.now.net.now.regs c.args.races.now c.args.moment.now.cycles.items) ticking in
    stepped-all c.args.design.now.net.now c.args.design.now.domains.now c.args.design.now.copies c.args.design.now.cells.items c.args.moment.now.words.items c.args.moment.now.cycles.items k can.cells can.fit kept.are_next (kept.shows can.cells.graph) can.words fits edge inputs clocks loose others kept.cycles can.rest c.swap.new.x.items c.swap-2.new.x.items new_words new_cycles

pub returns-clause-kept : goal.returns-clause-kept
returns-clause-kept c = λ kept.
    let tried = (tried-kept c.args.design.now.net.now c.args.design.now.domains.now c.args.design.now.cells.items c.args.design.now.copies c.args.moment.now (record c.try_words.new.trial { reader = c.check_differing.new.reader }) (tried-kept c.args.design.now.net.now c.args.design.now.domains.now c.args.design.now.cells.items c.args.design.now.copies c.args.moment.now c.try_words.new.trial (tried-kept c.args.design.now.net.now c.args.design.now.domains.now c.args.design.now.cells.items c.args.design.now.copies c.args.moment.now c.mark.new.self (marked-kept c.args.design.now.net.now c.args.design.now.domains.now c.args.design.now.cells.items c.args.design.now.copies c.args.moment.now c.args.trial.now kept c.mark.new.self c.args.edges.now c.mark.ensures.ticking c.mark.ensures.words c.mark.ensures.cycles c.mark.ensures.reader) c.try_words.new.trial c.try_words.ensures.ticking c.try_words.ensures.length (ap (λ v. length v.items) c.try_words.ensures.cycles) c.try_words.ensures.room) (record c.try_words.new.trial { reader = c.check_differing.new.reader }) refl refl refl c.check_differing.ensures.room) c.try_cycles.new.trial c.try_cycles.ensures.ticking (ap (λ v. length v.items) c.try_cycles.ensures.words) c.try_cycles.ensures.length (λ h. subst (λ (r : Reader). HasRoom c.args.design.now.net.now r) (sym c.try_cycles.ensures.reader) h)) in
    record {
      are_next = kept.are_next;
      shows = kept.shows;
      words = ap (λ v. length v.items) c.swap.ensures.x_after ∙ tried.room.words;
      cycles = ap (λ v. length v.items) c.swap-2.ensures.x_after ∙ tried.room.cycles;
      room = record {
        ticking = tried.room.ticking;
        words = ap (λ v. length v.items) c.swap.ensures.y_after ∙ kept.words;
        cycles = ap (λ v. length v.items) c.swap-2.ensures.y_after ∙ kept.cycles;
        reader = tried.room.reader;
      };
    }
