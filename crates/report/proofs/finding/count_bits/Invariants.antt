use Rattle.std.proofs.Common.{◌≡◌, ℕ, ◌+◌, ◌≤◌, ◌<◌, take, drop, [], ◌==◌, length, get_or, false}
use Rattle.std.specs.List.{list_any}
use Rattle.report.specs.Findings.{bits_copied}
use Rattle.report.proofs.finding.count_bits.Given as goal

abbrev pub invariant-loop-flop : goal.invariant-loop-flop
invariant-loop-flop l = record {
  counted : bits_copied [] l.flops ≡ l.count + bits_copied (take l.flop-index l.flops) (drop l.flop-index l.flops);
  few : l.count ≤ l.flop-index;
  all : length l.copied ≡ 256;
  marked : (at : ℕ) → at < 256 → get_or l.copied at false ≡ list_any (λ g. g.from.at == at) (take l.flop-index l.flops);
}
