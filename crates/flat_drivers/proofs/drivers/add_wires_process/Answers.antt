use Rattle.std.proofs.Common.{ℕ, ◌<◌, ◌&&◌, ◌||◌, ap, ap₂, ◌∙◌}
use Rattle.std.proofs.lemmas.Result.{IfOk-weaker}
use Rattle.flat_meaning.specs.Flat.{assigns}
use Rattle.flat_meaning.specs.Assigned.{may_assign}
use Rattle.flat_meaning.specs.Design.{width_in, once}
use Rattle.flat_form.specs.View.{stmt_of}
use Rattle.flat_form.specs.Masks.{bits_in}
use Rattle.flat_drivers.specs.Driving.{is_among}
use Rattle.flat_drivers.proofs.Counted.{more-same, of_process}
use Rattle.flat_drivers.proofs.drivers.add_wires_process.Goals as goal

pub returns : goal.returns
returns c =
    let wid = width_in c.args.signals.now in
    let body = stmt_of c.args.body.now in
    let may = c.add_may_assign.new.assigned in
    let all = c.signals.result.now in
    let listed = λ (s : ℕ). c.signals.ensures.exact s ∙ c.in_ok-add_may_assign.ensures.listed s ∙ ap (λ b. b || assigns body s) (c.new-may.ensures.unlisted s) in
    let bits = λ (s i : ℕ) (l : i < 64). c.in_ok-add_may_assign.ensures.added s i l ∙ ap (λ b. b || may_assign wid body s i) (c.new-may.ensures.none s i) in
    IfOk-weaker c.add_wires.result _ _ (λ _ h. more-same wid c.args.drivers.now c.add_wires.new.drivers (λ s i. once (is_among all s && bits_in may s i)) (λ s i. once (may_assign wid body s i)) (λ s. once (is_among all s)) (λ s. once (assigns body s))
    (record { at = λ s i l m. ap once (ap₂ (λ a b. a && b) (listed s) (bits s i m) ∙ of_process wid body s i) }) (λ s. ap once (listed s)) h) (c.add_wires.ensures c.signals.ensures.distinct)
