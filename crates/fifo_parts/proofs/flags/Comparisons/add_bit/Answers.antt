-- Both flags of the bit are added.
use Rattle.std.proofs.Common.{◌≡◌, true, false}
use Rattle.fifo_parts.specs.declared.flags.Flag.{Flag}
use Rattle.fifo_parts.specs.Comparisons.{IsAdded}
use Rattle.fifo_parts.proofs.Comparing.{each_value, still_added}
use Rattle.fifo_parts.proofs.flags.Comparisons.add_bit.Goals as goal

pub returns-clause-found : goal.returns-clause-found
returns-clause-found c = λ shown reg v own.
    let net = c.args.shown.net.now in
    let domains = c.args.shown.domains.now in
    let new = c.add-2.new.self in
    let high : Flag = record { bit = c.args.bit; value = true } in
    let low : Flag = record { bit = c.args.bit; value = false } in
    each_value (λ u. IsAdded net domains new (record { bit = c.args.bit; value = u }))
    (still_added (λ (f : Flag). f ≡ high) c.add.new.self new c.in_ok-add-2.ensures.kept net domains low (c.in_ok-add.ensures.found shown reg))
    (c.in_ok-add-2.ensures.found shown reg) v

pub returns-then-is_choice-clause-found : goal.returns-then-is_choice-clause-found
returns-then-is_choice-clause-found c = λ shown reg v own. c.is_choice.ensures c.if-is_choice.true shown reg c.args.self.now v
