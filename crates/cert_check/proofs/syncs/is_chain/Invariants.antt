-- The flops are those of a chain where those to come are flops behind the last one.
use Rattle.std.proofs.Common.{◌≡◌, ◌-◌, true, [], ◌∷◌, drop, Contains}
use Rattle.domains.specs.Nets.{IsNet}
use Rattle.cdc_model.specs.Nets.{HasNextCells, is_register_bit}
use Rattle.cdc_model.specs.Tables.{ShowsNet}
use Rattle.cert_check.specs.Items.{AreKept, is_chain}
use Rattle.cert_check.proofs.syncs.is_chain.Given as goal

abbrev pub invariant-loop-flop : goal.invariant-loop-flop
invariant-loop-flop l = IsNet l.net → HasNextCells l.net → ShowsNet l.net [] l.plain → is_register_bit l.net l.fn.first ≡ true → AreKept l.net l.readers (l.fn.first ∷ l.more)
    → (is_register_bit l.net l.last ≡ true) × Contains (l.fn.first ∷ l.more) l.last
    × (is_chain l.net l.domains 3 l.fn.first l.more ≡ is_chain l.net l.domains (3 - l.flop-index) l.last (drop l.flop-index l.more))
