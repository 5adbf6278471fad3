use Rattle.std.proofs.Common.{◌∙◌, inl, inr, refl, arith}
use Rattle.cofactor.proofs.Walks.{found-more, only-more}
use Rattle.cofactor.proofs.walk.Walk.find_all.Goals as goal

pub loop-at-init : goal.loop-at-init
loop-at-init c = record {
  there = λ i b lt sought set. let l = c.lowest-at.ensures i set in absurd (omega arith);
  only = λ b h. inl h;
  sought = λ b h. inl h;
  kept = λ b h. h;
  wanted = refl;
}

pub loop-at-preserved : goal.loop-at-preserved
loop-at-preserved c =
    let inv = c.loop-at.invariant in
    let step = c.in_ok-find.ensures in
    let at = c.loop-at.at in
    record {
      there = λ i b lt sought. found-more c.args.table.now c.args.row c.args.bits at c.loop-at.self.found c.find.new.self.found b (step.kept b) (step.there b sought) (λ j l. inv.there j b l sought) i lt;
      only = λ b h. only-more c.args.table.now c.args.row c.args.bits at b (inv.only b) (step.only b h);
      sought = λ b h. elim (step.sought b h) [ inl k ↦ inv.sought b k | inr k ↦ inr k ];
      kept = λ b h. step.kept b (inv.kept b h);
      wanted = step.wanted ∙ inv.wanted;
    }

pub returns-clause-there : goal.returns-clause-there
returns-clause-there c = λ i b sought set. c.loop-at.invariant.there i b (let f = c.loop-at-test.false in let l = c.end-at-end.ensures i set in omega arith) sought set
