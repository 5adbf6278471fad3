use Rattle.std.proofs.Common.{◌∙◌, ◌<◌, ◌+◌, ap, subst, sym, refl, false, true, arith, length, take, drop}
use Rattle.std.proofs.lemmas.List.{get_or-replicate, length-set}
use Rattle.cdc_model.specs.declared.scheme.Crossing.{Crossing}
use Rattle.report.specs.Findings.{bits_copied}
use Rattle.report.proofs.Copied.{AreMarked, mark-set, mark-kept, count-more}
use Rattle.report.proofs.finding.count_bits.Goals as goal
use Rattle.report.proofs.finding.count_bits.Goals.{then-not-copied-at, else-not-copied-at}

abbrev none : Crossing
none = record { from = record { sig = 0; at = 0 }; to = record { sig = 0; at = 0 } }

pub loop-flop-init : goal.loop-flop-init
loop-flop-init c = record { counted = omega arith; few = omega arith; all = refl; marked = λ at h. get_or-replicate 256 at false false h }

pub loop-flop-preserved : goal.loop-flop-preserved
loop-flop-preserved c =
    let flops = c.args.flops.now in
    let i = c.loop-flop.flop-index in
    let within = c.loop-flop-test.true in
    let held = c.loop-flop.invariant in
    let small : c.from-at.result < 256 = omega arith in
    elim c.if-not-copied-at.branch [
      | then-not-copied-at w ↦
          record {
            counted =
                count-more c.loop-flop.copied flops i c.from-at.result c.loop-flop.count none false within small c.from-at.ensures held.marked w.if-not-copied-at.true held.counted
                ∙ ap (λ n. n + bits_copied (take (i + 1) flops) (drop (i + 1) flops)) (sym w.count-is);
            few = omega arith;
            all = ap length w.copied-is ∙ length-set c.loop-flop.copied c.from-at.result true ∙ held.all;
            marked = subst (λ marks. AreMarked marks (take (i + 1) flops)) (sym w.copied-is)
                (mark-set c.loop-flop.copied flops i c.from-at.result none within held.all small c.from-at.ensures held.marked);
          }
      | else-not-copied-at w ↦
          record {
            counted =
                count-more c.loop-flop.copied flops i c.from-at.result c.loop-flop.count none true within small c.from-at.ensures held.marked w.if-not-copied-at.false held.counted
                ∙ ap (λ n. n + bits_copied (take (i + 1) flops) (drop (i + 1) flops)) (omega arith);
            few = omega arith;
            all = ap length w.copied-is ∙ held.all;
            marked = subst (λ marks. AreMarked marks (take (i + 1) flops)) (sym w.copied-is)
                (mark-kept c.loop-flop.copied flops i c.from-at.result none within small c.from-at.ensures w.if-not-copied-at.false held.marked);
          }
    ]
