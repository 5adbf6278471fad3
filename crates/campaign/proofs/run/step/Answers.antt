-- The step is the one that the model draws, and leads where that leads, or ends in the model's capture.
use Rattle.std.proofs.Common.{◌≡◌, ◌∙◌, ℕ, List, Bool, Some, None, length, refl, sym, ap, ap₂, subst}
use Rattle.std.specs.Prelude.{find, All}
use Rattle.cdc_model.specs.declared.scheme.Crossing.{Crossing}
use Rattle.settling_sim.specs.Design.{copied_in}
use Rattle.campaign.specs.declared.run.Run.{Run}
use Rattle.campaign.specs.Lanes.{lane}
use Rattle.campaign.specs.Room.{HasProbe}
use Rattle.campaign.specs.Run.{domains_of, net_of}
use Rattle.campaign.specs.Torn.{shows_in, IsPair}
use Rattle.campaign.proofs.RunOnce.{goes-on, ends-in, pairs-fit}
use Rattle.campaign.proofs.StepRoom.{room-kept}
use Rattle.campaign.proofs.run.step.Goals as goal

pub returns-in_ok-advance-in-None-clause-stepped : goal.returns-in_ok-advance-in-None-clause-stepped
returns-in_ok-advance-in-None-clause-stepped c = λ named seed n planned is next values small space.
    let p = c.args.plan.now in
    let m = c.args.run.now.moment in
    let room = c.draw.new.room in
    let by = c.in_ok-drawn.ensures small planned.can.clocks (space.trial.words ∙ sym is.words.counted) in
    let pairs : All (IsPair (net_of p)) c.as_slice-2.result.now = subst (λ (cs : List Crossing). All (IsPair (net_of p)) cs) (sym c.as_slice-2.ensures.value) (pairs-fit p named planned) in
    let probe : HasProbe (net_of p) room.probe = subst (HasProbe (net_of p)) (sym by.probe) space.probe in
    let found : None ≡ find (shows_in (net_of p) (domains_of p) (copied_in p.design.cells.items p.design.copies) room.trial.ticking.items m.words.items m.cycles.items room.trial.words.items) p.pairs.items
    = sym c.in-None.is ∙ c.in_ok-captured.ensures.first planned.can.opens.cells probe is.words pairs
    ∙ ap₂ (λ (ts : List Bool) (ws : List ℕ). find (shows_in (net_of p) (domains_of p) (copied_in p.design.cells.items p.design.copies) ts m.words.items m.cycles.items ws) c.as_slice-2.result.now)
    c.deref.ensures.value c.as_slice.ensures.value
    ∙ ap (find (shows_in (net_of p) (domains_of p) (copied_in p.design.cells.items p.design.copies) room.trial.ticking.items m.words.items m.cycles.items room.trial.words.items)) c.as_slice-2.ensures.value in
    let new : Run = record { rng = c.draw.new.rng; moment = c.advance.new.moment; steps = c.advance.new.steps } in
    goes-on p named planned seed n c.args.number c.args.run.now is next (lane c.args.index c.args.cells.now) values c.args.room.now space c.in_ok-drawn.drawn c.draw.new.rng
    room by found new refl c.in_ok-advance-in-None.ensures.steps (ap (λ v. v.items) c.in_ok-advance-in-None.ensures.words)
    (c.in_ok-advance-in-None.ensures.cycles (ap (λ v. length v.items) by.cycles ∙ space.trial.cycles ∙ sym is.cycles))

pub returns-in_ok-end-in-Some-clause-stepped : goal.returns-in_ok-end-in-Some-clause-stepped
returns-in_ok-end-in-Some-clause-stepped c = λ named seed n planned is next values small space.
    let p = c.args.plan.now in
    let m = c.args.run.now.moment in
    let room = c.draw.new.room in
    let by = c.in_ok-drawn.ensures small planned.can.clocks (space.trial.words ∙ sym is.words.counted) in
    let pairs : All (IsPair (net_of p)) c.as_slice-2.result.now = subst (λ (cs : List Crossing). All (IsPair (net_of p)) cs) (sym c.as_slice-2.ensures.value) (pairs-fit p named planned) in
    let probe : HasProbe (net_of p) room.probe = subst (HasProbe (net_of p)) (sym by.probe) space.probe in
    let found : Some c.in-Some.capture ≡ find (shows_in (net_of p) (domains_of p) (copied_in p.design.cells.items p.design.copies) room.trial.ticking.items m.words.items m.cycles.items room.trial.words.items) p.pairs.items
    = sym c.in-Some.is ∙ c.in_ok-captured.ensures.first planned.can.opens.cells probe is.words pairs
    ∙ ap₂ (λ (ts : List Bool) (ws : List ℕ). find (shows_in (net_of p) (domains_of p) (copied_in p.design.cells.items p.design.copies) ts m.words.items m.cycles.items ws) c.as_slice-2.result.now)
    c.deref.ensures.value c.as_slice.ensures.value
    ∙ ap (find (shows_in (net_of p) (domains_of p) (copied_in p.design.cells.items p.design.copies) room.trial.ticking.items m.words.items m.cycles.items room.trial.words.items)) c.as_slice-2.ensures.value in
    let new : Run = record { rng = c.draw.new.rng; moment = m; steps = c.end.new.steps } in
    ends-in p named planned seed n c.args.number c.args.run.now is next (lane c.args.index c.args.cells.now) values c.args.room.now space c.in_ok-drawn.drawn c.draw.new.rng
    room by c.in-Some.capture found new c.in_ok-end-in-Some.ensures

pub returns-in_ok-end-in-Some-clause-space : goal.returns-in_ok-end-in-Some-clause-space
returns-in_ok-end-in-Some-clause-space c = λ named seed n planned is small space.
    let p = c.args.plan.now in
    let by = c.in_ok-drawn.ensures small planned.can.clocks (space.trial.words ∙ sym is.words.counted) in
    room-kept (net_of p) (domains_of p) (copied_in p.design.cells.items p.design.copies) p.inputs p.named.items p.flops.items (lane c.args.index c.args.cells.now) c.args.run.now.moment c.args.number
    c.args.run.now.rng c.args.room.now c.in_ok-drawn.drawn c.draw.new.rng c.draw.new.room space is.words.counted by c.capture.new.probe
    (c.in_ok-captured.ensures.room planned.can.opens.cells (subst (HasProbe (net_of p)) (sym by.probe) space.probe))

pub returns-in_ok-advance-in-None-clause-space : goal.returns-in_ok-advance-in-None-clause-space
returns-in_ok-advance-in-None-clause-space c = λ named seed n planned is small space.
    let p = c.args.plan.now in
    let by = c.in_ok-drawn.ensures small planned.can.clocks (space.trial.words ∙ sym is.words.counted) in
    c.in_ok-advance-in-None.ensures.room
    (room-kept (net_of p) (domains_of p) (copied_in p.design.cells.items p.design.copies) p.inputs p.named.items p.flops.items (lane c.args.index c.args.cells.now) c.args.run.now.moment c.args.number
    c.args.run.now.rng c.args.room.now c.in_ok-drawn.drawn c.draw.new.rng c.draw.new.room space is.words.counted by c.capture.new.probe
    (c.in_ok-captured.ensures.room planned.can.opens.cells (subst (HasProbe (net_of p)) (sym by.probe) space.probe)))
    is.words.counted is.cycles
