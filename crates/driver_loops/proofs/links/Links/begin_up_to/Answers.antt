use Rattle.std.proofs.Common.{◌∙◌, ap, arith, ◌+◌, [], length}
use Rattle.std.proofs.lemmas.List.{length_push}
use Rattle.driver_loops.specs.Links.{ends_of}
use Rattle.driver_loops.proofs.Turned.{begun_ends}
use Rattle.driver_loops.proofs.links.Links.begin_up_to.Goals as goal

pub loop-place-preserved : goal.loop-place-preserved
loop-place-preserved c =
    let is = c.loop-place.invariant in
    let new = c.in_ok-begin.ensures in
    record {
      size = ap length new ∙ length_push c.loop-place.self [] ∙ ap (λ n. n + 1) is.size;
      most = let t = c.loop-place-test.true in omega arith;
      ends = λ v. ap (λ ls. ends_of ls v) new ∙ begun_ends c.loop-place.self v ∙ is.ends v;
    }
