-- The first giver of the bit, or how many there are.
use Rattle.std.proofs.Common.{length, unwrap_or, ap, ◌∙◌}
use Rattle.driver_trees.proofs.Givers.{number_of}
use Rattle.driver_trees.proofs.shared.giver_of.Goals as goal

pub returns : goal.returns
returns c = c.unwrap_or.ensures ∙ ap (λ o. unwrap_or o (length c.args.givers.now)) c.first_giver.ensures ∙ number_of c.args.givers.now c.args.at
