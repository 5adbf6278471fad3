-- A run goes on, step by step.
use Rattle.std.proofs.Common.{◌≡◌, ◌∙◌, ℕ, ◌+◌, ◌<◌, List, [], ◌∷◌, ◌++◌, length, drop, get_or, Result, Ok, Err, sym, ap, subst, inl, inr, arith}
use Rattle.std.specs.Prelude.{⊤, IfOk}
use Rattle.std.proofs.lemmas.List.{drop_more, drop_all}
use Rattle.std.proofs.lemmas.List.Elements.{All-get_or}
use Rattle.cdc_base.specs.declared.fault.Stop.{Stop}
use Rattle.cdc_base.specs.declared.fault.Stop.TheVariants.{Refused, Memory}
use Rattle.cdc_base.specs.declared.bit.Bit.{Bit}
use Rattle.cdc_base.specs.declared.list.NoMemory.{NoMemory}
use Rattle.cell_graph.specs.declared.net.Net.{Net}
use Rattle.clock_constraints.specs.Refusals.{IsStop}
use Rattle.domains.specs.declared.Domains.{Domains}
use Rattle.cdc_model.specs.declared.record.Given.{Given}
use Rattle.cdc_model.specs.declared.record.Race.{Race}
use Rattle.cdc_model.specs.declared.record.Record.{Record}
use Rattle.cdc_model.specs.declared.record.RecordStep.{RecordStep}
use Rattle.cdc_model.specs.Nets.{bits_of_registers}
use Rattle.settling_sim.specs.declared.fault.StepFault.{StepFault}
use Rattle.settling_sim.specs.Opened.{IsOpened}
use Rattle.settling_sim.specs.Present.{Present, CanStep, IsStepped}
use Rattle.settling_sim.specs.Runs.{IsStepOf}
use Rattle.run_report.specs.Lines.{IsStepText}
use Rattle.run_report.specs.Refusals.{name_of, number_of}
use Rattle.run_report.specs.Printed.{unsettled_in, start_of, IsAt, Leads, IsRefusedAt, GoesOn, AreSteps, IsPrinted, IsRunText, end_line}

-- want of memory may end any run
pub memory-ends : (net : Net) (domains : Domains) (p : Present) (gone : ℕ) (ks : List RecordStep) (text : List ℕ) → GoesOn net domains p gone ks text (Err Memory)
memory-ends net domains p gone [] text = tt
memory-ends net domains p gone (k ∷ ks) text = inl tt

-- a run that goes on behind a step goes on from it
pub goes-on : (net : Net) (domains : Domains) (p q : Present) (i : ℕ) (ks : List RecordStep) (k : RecordStep) (text longer : List ℕ) (answer : Result (List ℕ) Stop)
    → i < length ks → get_or ks i k ≡ k → IsPrinted net domains p (i + 1) k q text longer (Ok tt) → GoesOn net domains q (i + 1) (drop (i + 1) ks) longer answer
    → GoesOn net domains p i (drop i ks) text answer
goes-on net domains p q i ks k text longer answer within is printed rest =
    let next : drop i ks ≡ k ∷ drop (i + 1) ks = drop_more ks i k within ∙ ap (λ x. x ∷ drop (i + 1) ks) is in
    subst (λ (xs : List RecordStep). GoesOn net domains p i xs text answer) (sym next)
    (inr (q, printed.1.0, printed.0, printed.1.1, subst (λ (t : List ℕ). GoesOn net domains q (i + 1) (drop (i + 1) ks) t answer) printed.1.2 rest))

-- a step that is refused ends the run
pub stops : (net : Net) (domains : Domains) (p : Present) (i : ℕ) (ks : List RecordStep) (k : RecordStep) (text : List ℕ) (stop : Stop)
    → i < length ks → get_or ks i k ≡ k → IsRefusedAt net p (i + 1) k stop → GoesOn net domains p i (drop i ks) text (Err stop)
stops net domains p i ks k text stop within is refused =
    let next : drop i ks ≡ k ∷ drop (i + 1) ks = drop_more ks i k within ∙ ap (λ x. x ∷ drop (i + 1) ks) is in
    subst (λ (xs : List RecordStep). GoesOn net domains p i xs text (Err stop)) (sym next) (inl refused)

-- a step at a place is one of the net
pub item-fits : (net : Net) (domains : Domains) (ks : List RecordStep) (i : ℕ) (k : RecordStep) → AreSteps net domains ks → i < length ks → get_or ks i k ≡ k → IsStepOf net domains k
item-fits net domains ks i k steps within is = subst (λ (x : RecordStep). IsStepOf net domains x) is (All-get_or (λ (x : RecordStep). IsStepOf net domains x) ks i k within steps.fit)

-- what a run goes on from before a step it goes on from behind it
pub step-goes : (net : Net) (domains : Domains) (first p q : Present) (i number : ℕ) (ks : List RecordStep) (k : RecordStep) (start text longer : List ℕ)
    → i < length ks → get_or ks i k ≡ k → number ≡ i + 1 → IsPrinted net domains p number k q text longer (Ok tt)
    → ((answer : Result (List ℕ) Stop) → GoesOn net domains p i (drop i ks) text answer → GoesOn net domains first 0 ks start answer)
    → IsAt net domains q × ((answer : Result (List ℕ) Stop) → GoesOn net domains q (i + 1) (drop (i + 1) ks) longer answer → GoesOn net domains first 0 ks start answer)
step-goes net domains first p q i number ks k start text longer within is numbered printed before =
    let now : IsPrinted net domains p (i + 1) k q text longer (Ok tt) = subst (λ (n : ℕ). IsPrinted net domains p n k q text longer (Ok tt)) numbered printed in
    (now.0.there, λ (answer : Result (List ℕ) Stop). λ rest. before answer (goes-on net domains p q i ks k text longer answer within is now rest))

-- a step that is refused ends the whole run
pub step-stops : (net : Net) (domains : Domains) (first p : Present) (i number : ℕ) (ks : List RecordStep) (k : RecordStep) (start text : List ℕ) (stop : Stop)
    → i < length ks → get_or ks i k ≡ k → number ≡ i + 1 → IsRefusedAt net p number k stop
    → ((answer : Result (List ℕ) Stop) → GoesOn net domains p i (drop i ks) text answer → GoesOn net domains first 0 ks start answer)
    → GoesOn net domains first 0 ks start (Err stop)
step-stops net domains first p i number ks k start text stop within is numbered refused before =
    before (Err stop) (stops net domains p i ks k text stop within is (subst (λ (n : ℕ). IsRefusedAt net p n k stop) numbered refused))

-- behind the last step comes the last line
pub ends : (net : Net) (domains : Domains) (p : Present) (i : ℕ) (ks : List RecordStep) (text : List ℕ) → i ≡ length ks → GoesOn net domains p i (drop i ks) text (Ok (text ++ end_line (length ks)))
ends net domains p i ks text all =
    subst (λ (xs : List RecordStep). GoesOn net domains p i xs text (Ok (text ++ end_line (length ks)))) (sym (drop_all i ks (omega arith)))
    (ap (λ n. text ++ end_line n) (sym all))

-- a step of a record of the net is one at any moment of it
pub fits-at : (net : Net) (domains : Domains) (p : Present) (k : RecordStep) → IsAt net domains p → IsStepOf net domains k → IsStepOf p.net p.domains k
fits-at net domains p k at fits =
    subst (λ (n : Net). IsStepOf n p.domains k) (sym at.here) (subst (λ (d : Domains). IsStepOf net d k) (sym at.under) fits)

-- the simulator is handed a step's parts
abbrev parts : List ℕ → List Given → List Race → RecordStep
parts edges inputs races = record { edges = edges; inputs = inputs; races = races }

same-step : (k : RecordStep) (edges : List ℕ) (inputs : List Given) (races : List Race) → edges ≡ k.edges → inputs ≡ k.inputs → races ≡ k.races
    → parts edges inputs races ≡ k
same-step k edges inputs races by_edges by_inputs by_races =
    ap (λ es. parts es inputs races) by_edges ∙ ap (λ gs. parts k.edges gs races) by_inputs ∙ ap (λ rs. parts k.edges k.inputs rs) by_races

-- what the simulator says of the parts holds of the step
pub stepped-whole : (old new : Present) (k : RecordStep) (edges : List ℕ) (inputs : List Given) (races : List Race) (result : Result ⊤ StepFault)
    → edges ≡ k.edges → inputs ≡ k.inputs → races ≡ k.races
    → (CanStep old → IsStepOf old.net old.domains (parts edges inputs races) → IsStepped old (parts edges inputs races) new result)
    → CanStep old → IsStepOf old.net old.domains k → IsStepped old k new result
stepped-whole old new k edges inputs races result by_edges by_inputs by_races exact =
    subst (λ (x : RecordStep). CanStep old → IsStepOf old.net old.domains x → IsStepped old x new result) (same-step k edges inputs races by_edges by_inputs by_races) exact

-- a step that is gone leads to the next moment
pub leads : (old new : Present) (k : RecordStep) → new.net ≡ old.net → new.domains ≡ old.domains → IsStepped old k new (Ok tt) → Leads old.net old.domains old k new
leads old new k same_net same_domains stepped = record {
  stepped = stepped;
  there = record {
    here = same_net;
    under = same_domains;
    can = stepped.2;
  };
}

-- the refusal of a step
pub refused-at : (net : Net) (old new : Present) (number : ℕ) (k : RecordStep) (cause : StepFault) (stop : Stop) → IsStepped old k new (Err cause)
    → IsStop (number_of cause) (name_of net.graph.signals number cause) stop → IsRefusedAt net old number k stop
refused-at net old new number k cause (Refused f) stepped is = (cause, stepped, is)
refused-at net old new number k cause Memory stepped is = tt

-- the text of a step, by parts that are equal
pub shown-by : (net : Net) (domains : Domains) (number : ℕ) (k : RecordStep) (before after words : List ℕ) (bits left : List Bit) (result : Result (List ℕ) NoMemory)
    → words ≡ after → bits ≡ left → IfOk result (IsStepText net domains number k before words bits) → IfOk result (IsStepText net domains number k before after left)
shown-by net domains number k before after words bits left result by_words by_bits shown =
    subst (λ (bs : List Bit). IfOk result (IsStepText net domains number k before after bs)) by_bits
    (subst (λ (ws : List ℕ). IfOk result (IsStepText net domains number k before ws bits)) by_words shown)

-- a step that was gone, with its text
pub printed : (net : Net) (domains : Domains) (p q : Present) (number : ℕ) (k : RecordStep) (text longer piece before : List ℕ) (registers : List Bit) → IsAt net domains p
    → Leads p.net p.domains p k q → before ≡ p.words → registers ≡ bits_of_registers net.graph.signals net.regs
    → IsStepText net domains number k before q.words (unsettled_in q.cycles registers) piece → longer ≡ text ++ piece → IsPrinted net domains p number k q text longer (Ok tt)
printed net domains p q number k text longer piece before registers at led was all shown added = (
  record {
    stepped = led.stepped;
    there = record {
      here = led.there.here ∙ at.here;
      under = led.there.under ∙ at.under;
      can = led.there.can;
    };
  },
  (
    piece,
    subst (λ (bs : List Bit). IsStepText net domains number k p.words q.words (unsettled_in q.cycles bs) piece) all
        (subst (λ (ws : List ℕ). IsStepText net domains number k ws q.words (unsettled_in q.cycles registers) piece) was shown),
    added,
  ),
)

-- a run from its first moment
pub ran : (net : Net) (domains : Domains) (p : Present) (run : Record) (text : List ℕ) (answer : Result (List ℕ) Stop) → p.net ≡ net → p.domains ≡ domains
    → IsOpened run.start p → text ≡ start_of net domains p.words → (IsAt net domains p → GoesOn net domains p 0 run.steps text answer) → IsRunText net domains run answer
ran net domains p run text (Ok whole) here under opened begun goes =
    let at : IsAt net domains p = record { here = here; under = under; can = opened.can } in
    (p, at, opened, subst (λ (t : List ℕ). GoesOn net domains p 0 run.steps t (Ok whole)) begun (goes at))
ran net domains p run text (Err (Refused f)) here under opened begun goes =
    let at : IsAt net domains p = record { here = here; under = under; can = opened.can } in
    (p, at, opened, subst (λ (t : List ℕ). GoesOn net domains p 0 run.steps t (Err (Refused f))) begun (goes at))
ran net domains p run text (Err Memory) here under opened begun goes = tt

-- a run to its end
pub whole-run : (net : Net) (domains : Domains) (p : Present) (run : Record) (steps : List RecordStep) (text longer whole : List ℕ) (count : ℕ) → p.net ≡ net → p.domains ≡ domains
    → IsOpened run.start p → text ≡ start_of net domains p.words → steps ≡ run.steps → AreSteps net domains run.steps
    → (AreSteps net domains steps → IsAt net domains p → GoesOn net domains p 0 steps text (Ok (longer ++ end_line (length steps))))
    → count ≡ length steps → whole ≡ longer ++ end_line count → IsRunText net domains run (Ok whole)
whole-run net domains p run steps text longer whole count here under opened begun all fit goes many last =
    ran net domains p run text (Ok whole) here under opened begun (λ at.
    subst (λ (ks : List RecordStep). GoesOn net domains p 0 ks text (Ok whole)) all
    (subst (λ (t : List ℕ). GoesOn net domains p 0 steps text (Ok t)) (sym (last ∙ ap (λ n. longer ++ end_line n) many)) (goes (subst (λ (ks : List RecordStep). AreSteps net domains ks) (sym all) fit) at)))

-- a run to a step that is refused
pub stopped-run : (net : Net) (domains : Domains) (p : Present) (run : Record) (steps : List RecordStep) (text : List ℕ) (stop : Stop) → p.net ≡ net → p.domains ≡ domains
    → IsOpened run.start p → text ≡ start_of net domains p.words → steps ≡ run.steps → AreSteps net domains run.steps
    → (AreSteps net domains steps → IsAt net domains p → GoesOn net domains p 0 steps text (Err stop)) → IsRunText net domains run (Err stop)
stopped-run net domains p run steps text stop here under opened begun all fit goes =
    ran net domains p run text (Err stop) here under opened begun (λ at.
    subst (λ (ks : List RecordStep). GoesOn net domains p 0 ks text (Err stop)) all (goes (subst (λ (ks : List RecordStep). AreSteps net domains ks) (sym all) fit) at))

-- the text of the first moment
pub begun-text : (net : Net) (domains : Domains) (p : Present) (none words start piece text : List ℕ) → none ≡ [] → words ≡ p.words → start ≡ start_of net domains words → piece ≡ start
    → text ≡ none ++ piece → text ≡ start_of net domains p.words
begun-text net domains p none words start piece text empty same is bytes added =
    added ∙ ap (λ t. t ++ piece) empty ∙ bytes ∙ is ∙ ap (start_of net domains) same
