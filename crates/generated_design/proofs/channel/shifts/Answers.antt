use Rattle.std.proofs.Common.{◌∙◌, sym}
use Rattle.generated_design.proofs.Steps.{shifted, stage_more}
use Rattle.generated_design.proofs.channel.shifts.Goals as goal

pub loop-place-preserved : goal.loop-place-preserved
loop-place-preserved c = record {
  copied = shifted c.args.letter.now c.args.channel c.args.source c.loop-place.place c.loop-place.steps c.push.new.self c.takes.result c.in_ok-next.next c.loop-place.before
      c.loop-place.invariant.copied c.in_ok-push.ensures.pushed c.takes.ensures c.in_ok-next.ensures c.loop-place.invariant.last;
  last = c.in_ok-copied.ensures ∙ c.in_ok-next.ensures ∙ sym (stage_more c.args.letter.now c.args.channel c.args.source c.loop-place.place);
}
