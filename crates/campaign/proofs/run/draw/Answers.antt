-- What is drawn, call by call.
use Rattle.std.proofs.Common.{◌≡◌, ◌∙◌, ℕ, Bool, true, false, cond, List, [], ◌∷◌, ◌++◌, length, set, take, drop, replicate, refl, sym, ap, ap₂}
use Rattle.std.proofs.lemmas.List.{length-set}
use Rattle.cell_graph.specs.declared.net.Reg.{Reg}
use Rattle.cdc_model.specs.declared.record.Given.{Given}
use Rattle.cdc_model.specs.declared.scheme.Crossing.{Crossing}
use Rattle.settling_sim.specs.declared.trial.Trial.{Trial}
use Rattle.settling_sim.specs.Design.{copied_in}
use Rattle.settling_sim.specs.Edges.{mark_in}
use Rattle.settling_sim.specs.Trial.{register_ticks, take_next, take_given}
use Rattle.settling_sim.proofs.Trials.{given-length, next-length}
use Rattle.campaign.specs.declared.toss.Toss.{Toss}
use Rattle.campaign.specs.Draws.{word, behind}
use Rattle.campaign.specs.Lanes.{lane}
use Rattle.campaign.specs.Run.{plain_after}
use Rattle.campaign.specs.Tested.{behind_passing, givens_in, put_drawn, put_tosses, tosses_of}
use Rattle.campaign.specs.Torn.{is_torn_in}
use Rattle.campaign.proofs.StepRoom.{kept, tossed-length}
use Rattle.campaign.proofs.run.draw.Goals as goal

drawn-length : (test : ℕ → Bool) (ss rng drawn : List ℕ) → length (put_drawn test ss rng drawn) ≡ length drawn
drawn-length test [] rng drawn = refl
drawn-length test (s ∷ ss) rng drawn = drawn-length test ss (cond (test s) (behind rng) rng) (cond (test s) (set drawn s (word rng)) drawn) ∙ go (test s)
  where
    go : (t : Bool) → length (cond t (set drawn s (word rng)) drawn) ≡ length drawn
    go true = length-set drawn s (word rng)
    go false = refl

pub returns : goal.returns
returns c = λ small clocks words.
    let p = c.args.plan.now in
    let net = p.design.net.now in
    let domains = p.design.domains.now in
    let copied = copied_in p.design.cells.items p.design.copies in
    let m = c.args.moment.now in
    let values = lane c.args.index c.args.cells.now in
    let room = c.args.room.now in
    let ticking = c.draw_values.new.room.trial.ticking.items in
    let inputs = c.in_ok-inputs.inputs in
    let behind_is = c.in_ok-edges.ensures.behind in
    let trial : c.draw_values.new.room.trial ≡ c.mark.new.self = c.in_ok-inputs.ensures.trial in
    let marked : c.mark.new.self.ticking.items ≡ ticking = sym (ap (λ (t : Trial). t.ticking.items) trial) in
    let rng : c.draw_values.new.rng ≡ behind_passing (register_ticks domains ticking) p.inputs _ =
    c.in_ok-inputs.ensures.rng ∙ ap₂ (λ (ts : List Bool) (r : List ℕ). behind_passing (register_ticks domains ts) p.inputs r) marked behind_is in
    let counted : length c.deref_mut.result.now ≡ length c.as_slice-3.result.now =
    ap length c.deref_mut.ensures.value ∙ ap (λ (t : Trial). length t.words.items) trial ∙ ap (λ v. length v.items) c.mark.ensures.words ∙ words ∙ sym (ap length c.as_slice-3.ensures.value) in
    let plain : c.take_plain.new.words ≡ plain_after net domains values m ticking inputs =
    c.take_plain.ensures small counted
    ∙ ap₂ (λ (gs : List Given) (ts : List Bool). take_given gs (take_next domains ts values c.as_slice-2.result.now c.as_slice-3.result.now)) c.as_slice-4.ensures c.deref.ensures.value
    ∙ ap₂ (λ (rs : List Reg) (ws : List ℕ). take_given inputs (take_next domains ticking values rs ws)) c.as_slice-2.ensures c.as_slice-3.ensures.value in
    let full = c.draw_values.new.room.trial.words in
    let before : length m.words.items ≡ full.len = sym words ∙ sym (ap (λ (t : Trial). length t.words.items) trial ∙ ap (λ v. length v.items) c.mark.ensures.words) ∙ sym full.ok.0 in
    let stays : take full.len (c.take_plain.new.words ++ drop (length c.take_plain.new.words) full.items) ≡ c.take_plain.new.words =
    kept full.len c.take_plain.new.words _ (ap length plain ∙ given-length inputs _ ∙ next-length domains ticking values net.regs m.words.items ∙ before) in
    let after = c.as_slice-5.ensures.value ∙ stays ∙ plain in
    let tossed : c.take_tosses.new.words ≡ put_tosses m.words.items c.in_ok-tosses.tosses (plain_after net domains values m ticking inputs) =
    c.take_tosses.ensures
    ∙ ap₂ (λ (bs : List ℕ) (ts : List Toss). put_tosses bs ts c.deref_mut-2.result.now) c.as_slice-8.ensures.value c.as_slice-7.ensures
    ∙ ap (put_tosses m.words.items c.in_ok-tosses.tosses) (c.deref_mut-2.ensures.value ∙ stays ∙ plain) in
    record {
      edges = c.in_ok-edges.ensures.edges clocks;
      ticking = sym marked ∙ c.mark.ensures.ticking ∙ ap (mark_in (replicate (length room.trial.ticking.items) false)) c.as_slice.ensures;
      drawn = ap length c.in_ok-inputs.ensures.drawn ∙ drawn-length _ p.inputs _ room.drawn.items;
      inputs = c.in_ok-inputs.ensures.values
          ∙ ap₂ (λ (ts : List Bool) (r : List ℕ). givens_in net.graph.signals (put_drawn (register_ticks domains ts) p.inputs r room.drawn.items) (register_ticks domains ts) p.named.items) marked behind_is;
      tosses = c.in_ok-tosses.ensures.tosses
          ∙ ap₂ (λ (ts : List Bool) (ws : List ℕ). tosses_of (is_torn_in domains copied ts m.words.items m.cycles.items ws) c.as_slice-6.result.now c.draw_values.new.rng []) c.deref-2.ensures.value after
          ∙ ap₂ (λ (cs : List Crossing) (r : List ℕ). tosses_of (is_torn_in domains copied ticking m.words.items m.cycles.items (plain_after net domains values m ticking inputs)) cs r []) c.as_slice-6.ensures.value rng;
      behind_is = c.in_ok-tosses.ensures.rng
          ∙ ap₂ (λ (ts : List Bool) (ws : List ℕ). behind_passing (is_torn_in domains copied ts m.words.items m.cycles.items ws) c.as_slice-6.result.now c.draw_values.new.rng) c.deref-2.ensures.value after
          ∙ ap₂ (λ (cs : List Crossing) (r : List ℕ). behind_passing (is_torn_in domains copied ticking m.words.items m.cycles.items (plain_after net domains values m ticking inputs)) cs r) c.as_slice-6.ensures.value rng;
      words = kept full.len c.take_tosses.new.words _
          (ap length tossed ∙ tossed-length m.words.items c.in_ok-tosses.tosses _ ∙ given-length inputs _ ∙ next-length domains ticking values net.regs m.words.items ∙ before)
          ∙ tossed;
      cycles = ap (λ (t : Trial). t.cycles) trial ∙ c.mark.ensures.cycles;
      reader = ap (λ (t : Trial). t.reader) trial ∙ c.mark.ensures.reader;
      probe = c.in_ok-inputs.ensures.probe;
    }
