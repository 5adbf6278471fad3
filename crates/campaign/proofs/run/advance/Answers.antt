-- The room stays one: the run's words and cycles have the lengths of those that it gets for them.
use Rattle.std.proofs.Common.{◌≡◌, ◌∙◌, length, Result, Ok, Err, sym, ap, subst}
use Rattle.std.specs.Prelude.{IfOk}
use Rattle.settling_sim.specs.Reader.{HasRoom}
use Rattle.campaign.specs.Run.{HasSpace}
use Rattle.campaign.proofs.run.advance.Goals as goal

in-each : {T E : Type 0} (P : Type 0) (r : Result T E) → P → IfOk r (λ x. P)
in-each P (Ok t) h = h
in-each P (Err e) h = tt

pub returns-clause-room : goal.returns-clause-room
returns-clause-room c = in-each _ c.push.result (λ space words cycles. record {
  trial = record {
    ticking = ap (λ v. length v.items) c.try_cycles.ensures.ticking ∙ space.trial.ticking;
    words = ap (λ v. length v.items) c.swap.ensures.y_after ∙ words;
    cycles = ap (λ v. length v.items) c.swap-2.ensures.y_after ∙ cycles;
    reader = subst (HasRoom c.args.plan.now.design.net.now) (sym c.try_cycles.ensures.reader) space.trial.reader;
  };
  drawn = space.drawn;
  probe = space.probe;
})
