use Rattle.std.proofs.Common.{map, subst, ◌∙◌, arith}
use Rattle.std.proofs.lemmas.List.{take_all}
use Rattle.reset_nets.specs.Finding.{pair_of, Tells}
use Rattle.reset_nets.proofs.Noted.{noted_more}
use Rattle.reset_nets.proofs.drives.drives_of.Goals as goal

pub loop-number-preserved : goal.loop-number-preserved
loop-number-preserved c = record {
  count = c.note.ensures.count ∙ c.loop-number.invariant.count;
  tells = λ s d at.
      noted_more c.args.assigns.now c.loop-number.number c.index-assigns-number.result c.loop-number-test.true c.index-assigns-number.is c.loop-number.drives.items c.note.new.drives.items s
      (c.note.ensures.noted s) (c.loop-number.invariant.tells s) d at;
}

pub returns-clause-tells : goal.returns-clause-tells
returns-clause-tells c = λ s d at.
    let l = c.loop-number-test.false in
    subst (λ xs. Tells (map pair_of xs) s d) (take_all c.loop-number.number c.args.assigns.now (omega (arith, l))) (c.loop-number.invariant.tells s d at)
