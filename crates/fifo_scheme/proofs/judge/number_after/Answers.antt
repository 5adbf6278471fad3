-- By the last bit, or by the terms.
use Rattle.std.proofs.Common.{subst}
use Rattle.fifo_scheme.specs.Met.{IsLast}
use Rattle.fifo_parts.proofs.Alike.{alike_word}
use Rattle.fifo_scheme.proofs.judge.number_after.Goals as goal

pub returns-then-are_alike : goal.returns-then-are_alike
returns-then-are_alike c = λ write read shown is takes last.
    let net = c.args.shown.net.now in
    let domains = c.args.shown.domains.now in
    let k = c.in-Some.last in
    let so = subst (IsLast net domains write read) c.in-Some.is last in
    let same = c.are_alike.ensures c.if-are_alike.true in
    alike_word net c.args.shown.table.now shown domains write read k.taking.now c.args.taking.now so.0 takes same.0 same.1 k.number so.1
