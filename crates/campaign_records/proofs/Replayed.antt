-- A record that fixes a run isn't refused.
use Rattle.std.proofs.Common.{◌≡◌, ◌∙◌, ℕ, suc, ◌+◌, List, [], ◌∷◌, ◌++◌, Option, Some, None, Err, inl, inr, refl, sym, ap, ap₂}
use Rattle.cdc_base.specs.declared.fault.Fault.{Fault}
use Rattle.cdc_base.specs.declared.fault.Stop.TheVariants.{Refused}
use Rattle.cell_graph.specs.declared.net.Net.{Net}
use Rattle.domains.specs.declared.Domains.{Domains}
use Rattle.cdc_model.specs.declared.record.Record.{Record}
use Rattle.cdc_model.specs.declared.record.RecordStep.{RecordStep}
use Rattle.cdc_model.specs.Design.{Design}
use Rattle.cdc_model.specs.Nets.{design_of}
use Rattle.cdc_model.specs.Replay.{StepFault, Replayed, Ran, has_edge, on_fault, opened, replayed, replayed_from, step_fault, stepped}
use Rattle.cdc_model.specs.Runs.{State, Trace, Start, Then, now}
use Rattle.settling_sim.specs.Faults.{meant}
use Rattle.settling_sim.specs.Present.{Present, state_at}
use Rattle.run_report.specs.Printed.{GoesOn, IsAt, IsRunText, start_of}
use Rattle.campaign.proofs.LooseBits.{one-state}

passed : (o : Option StepFault) (n : ℕ) (more : Replayed) (u : Trace) → on_fault o n more ≡ Ran u → (o ≡ None) × (more ≡ Ran u)
passed None n more u e = (refl, e)
passed (Some f) n more u e = cc

module _ (net : Net) (domains : Domains) where
  abbrev d : Design
  d = design_of net domains

  design-is : (p : Present) → IsAt net domains p → design_of p.net p.domains ≡ d
  design-is p at = ap₂ design_of at.here at.under

  -- from a moment of the run no step is refused
  goes-through : (p : Present) (past : Trace) (ks : List RecordStep) (n gone : ℕ) (text : List ℕ) (u : Trace) (f : Fault) → IsAt net domains p → state_at p ≡ now past
      → replayed_from d n past ks ≡ Ran u → GoesOn net domains p gone ks text (Err (Refused f)) → ⊥
  goes-through p past [] n gone text u f at same ran goes = goes
  goes-through p past (k ∷ ks) n gone text u f at same ran (inl (cause, stops, is)) =
      both (sym (passed (step_fault d (now past) k) n (replayed_from d (suc n) (Then past (has_edge k.edges) (stepped d (now past) k)) ks) u ran).0
      ∙ sym (ap₂ (λ (e : Design) (s : State). step_fault e s k) (design-is p at) same) ∙ stops)
    where
      both : None ≡ Some (meant cause) → ⊥
      both e = cc
  goes-through p past (k ∷ ks) n gone text u f at same ran (inr (q, piece, leads, between, goes)) =
      goes-through q (Then past (has_edge k.edges) (stepped d (now past) k)) ks (suc n) (gone + 1) (text ++ piece) u f leads.there
      (one-state (state_at q) (stepped (design_of p.net p.domains) (state_at p) k) leads.stepped.1 ∙ ap₂ (λ (e : Design) (s : State). stepped e s k) (design-is p at) same)
      (passed (step_fault d (now past) k) n (replayed_from d (suc n) (Then past (has_edge k.edges) (stepped d (now past) k)) ks) u ran).1 goes

  pub not-refused : (r : Record) (u : Trace) (f : Fault) → replayed d r ≡ Ran u → IsRunText net domains r (Err (Refused f)) → ⊥
  not-refused r u f ran (p, at, start, goes) =
      goes-through p (Start (opened d r.start)) r.steps 1 0 (start_of net domains p.words) u f at
      (one-state (state_at p) (opened (design_of p.net p.domains) r.start) start.state ∙ ap (λ (e : Design). opened e r.start) (design-is p at)) ran goes
