use Rattle.std.proofs.Common.{◌≡◌, ◌++◌, drop, map}
use Rattle.json.specs.Json.{string}
use Rattle.json.specs.Tree.{items_tokens}
use Rattle.json.specs.Value.{items_of}
use Rattle.report.specs.Names.{bit_of}
use Rattle.campaign.proofs.bits.add_bits.Given as goal

abbrev pub invariant-loop-bit : goal.invariant-loop-bit
invariant-loop-bit l = l.initial.output ++ items_tokens (items_of (map string (map (bit_of l.net.graph.signals) l.bits)))
    ≡ l.output ++ items_tokens (items_of (map string (map (bit_of l.net.graph.signals) (drop l.bit-index l.bits))))
