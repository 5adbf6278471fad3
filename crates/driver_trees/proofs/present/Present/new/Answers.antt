-- The signals' bits, and no tree.
use Rattle.std.proofs.Common.{None, slice_get, sym, ap, ◌∙◌, ◌≡◌}
use Rattle.std.specs.Option.{option_flatten}
use Rattle.driver_trees.proofs.Seen.{no-tree, widths-of}
use Rattle.driver_trees.proofs.present.Present.new.Goals as goal

pub returns-clause-widths : goal.returns-clause-widths
returns-clause-widths c = λ s. widths-of c.in_ok-widths.field-0.items c.args.signals.now c.in_ok-widths.ensures s

pub returns-clause-trees : goal.returns-clause-trees
returns-clause-trees c = λ s. ap (λ ts. option_flatten (slice_get ts s)) c.in_ok-no_trees.ensures ∙ no-tree _ s
