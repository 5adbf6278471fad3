use Rattle.std.proofs.Common.{refl, subst}
use Rattle.flat_unfolding.specs.Statements.{clocked, done}
use Rattle.flat_unfolding.specs.Resets.{reset_form}
use Rattle.flat_process.specs.Processes.{IsFormIf}
use Rattle.flat_process.proofs.Processes.{items-or, rest-body, whole-body}
use Rattle.flat_process.proofs.always.with_reset.Goals as goal

pub returns-in_ok-body-in-Some : goal.returns-in_ok-body-in-Some
returns-in_ok-body-in-Some c = λ l t shows d h.
    let r = c.in-Some.form in
    rest-body l c.args.clock c.args.edge t r _ refl (c.in_ok-body-in-Some.ensures.same l shows) (c.in_ok-body-in-Some.ensures.sizes l shows) refl (items-or l r.given c.new.result c.unwrap_or.result c.unwrap_or.ensures c.new.ensures.items)
    (subst (IsFormIf l (done l clocked t).broken (reset_form l t)) c.in-Some.is h)

pub returns-in-None : goal.returns-in-None
returns-in-None c = λ l t shows d h. whole-body l c.args.clock c.args.edge t _ refl refl c.new-in-None.ensures.items d (subst (IsFormIf l (done l clocked t).broken (reset_form l t)) c.in-None.is h)
