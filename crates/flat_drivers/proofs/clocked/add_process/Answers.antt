use Rattle.std.proofs.Common.{ℕ, ◌<◌, ◌||◌, ap, ◌∙◌}
use Rattle.std.proofs.lemmas.Result.{IfOk-weaker}
use Rattle.std.specs.Option.{option_copied}
use Rattle.flat_meaning.specs.Design.{width_in}
use Rattle.flat_form.specs.Masks.{bits_in}
use Rattle.flat_unfolding.specs.Drivers.{drives, may_drive}
use Rattle.flat_drivers.specs.Driving.{is_among}
use Rattle.flat_drivers.specs.Clocked.{process_of}
use Rattle.flat_drivers.proofs.Sharing.{process-added}
use Rattle.flat_drivers.proofs.clocked.add_process.Goals as goal

pub returns : goal.returns
returns c =
    let wid = width_in c.args.signals.now in
    let p = process_of c.args.process.now (option_copied c.args.reset) in
    let may = c.add_driven.new.may in
    let listed = λ (s : ℕ). c.signals.ensures.exact s ∙ c.in_ok-add_driven.ensures.listed s ∙ ap (λ b. b || drives p s) (c.new-may.ensures.unlisted s) in
    let bits = λ (s i : ℕ) (l : i < 64). c.in_ok-add_driven.ensures.added s i l ∙ ap (λ b. b || may_drive wid p s i) (c.new-may.ensures.none s i) in
    IfOk-weaker c.add_signals.result _ _ (λ _ h. process-added wid p c.read_edges.result (is_among c.signals.result.now) (bits_in may) c.args.bits.now c.add_signals.new.bits c.read_edges.ensures listed bits h)
    (c.add_signals.ensures c.signals.ensures.distinct)
