-- Only the flag is new at the bit.
use Rattle.std.proofs.Common.{rules}
use Rattle.std.specs.HashMap as hash
use Rattle.cdc_base.specs.contracts.bit.BitPartialEq.TheImpl as equality
use Rattle.fifo_parts.proofs.Added.{only_pushed}
use Rattle.fifo_parts.proofs.flags.add_by_bit.Goals as goal

pub returns-in-Some-clause-only : goal.returns-in-Some-clause-only
returns-in-Some-clause-only c = only_pushed equality.ghosts.eq (λ a b h. search rules) (hash.get equality.ghosts.eq c.args.by_bit.now)
    (hash.get equality.ghosts.eq (c.get_mut.follows.lender c.push.new.self))
    c.args.bit c.in-Some.there.now c.push.new.self c.args.flag (search rules) (search rules)
    ((c.get_mut.follows.holds c.push.new.self).3 (search rules)).0
