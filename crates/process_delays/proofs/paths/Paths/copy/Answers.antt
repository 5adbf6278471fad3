use Rattle.std.proofs.Common.{ap, ◌∙◌}
use Rattle.flat_unfolding.specs.Delays.{on_both}
use Rattle.process_delays.specs.Paths.{under}
use Rattle.process_delays.proofs.paths.Paths.copy.Goals as goal

pub returns : goal.returns
returns c = c.in_ok-add_all.ensures ∙ ap (λ f. on_both f (under c.args.self.now)) c.new-paths.ensures
