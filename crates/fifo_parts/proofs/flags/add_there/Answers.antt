-- They are joined.
use Rattle.std.proofs.Common.{◌∙◌, ap, ◌++◌}
use Rattle.std.specs.Option.{option_copied}
use Rattle.cofactor.proofs.Places.{if_ok}
use Rattle.fifo_parts.proofs.Added.{joined}
use Rattle.fifo_parts.proofs.flags.add_there.Goals as goal

pub returns-in-Some : goal.returns-in-Some
returns-in-Some c = if_ok c.add_all.result
    (λ u e f. joined c.args.found.now.items c.add_all.new.found.items (option_copied c.args.there) c.in-Some.flags.now (ap option_copied c.in-Some.is)
    (e ∙ ap (λ xs. c.args.found.now.items ++ xs) c.as_slice.ensures.value) f)
    c.add_all.ensures
