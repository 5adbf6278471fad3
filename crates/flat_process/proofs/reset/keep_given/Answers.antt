use Rattle.std.proofs.Common.{◌+◌, drop, get_or, subst}
use Rattle.std.proofs.lemmas.List.{drop_more, drop_all}
use Rattle.flat_process.specs.declared.reset.Given.{Given}
use Rattle.flat_process.proofs.Keeping.{KeptSoFar, kept-next, kept-all}
use Rattle.flat_process.proofs.reset.keep_given.Goals as goal

pub loop-one-preserved : goal.loop-one-preserved
loop-one-preserved c = λ pins e us h a.
    let all = c.args.given.now in
    let i = c.loop-one.one-index in
    let nothing : Given = record { sig = 0; mask = 0; value = 0 } in
    let k = subst (KeptSoFar pins e us c.loop-one.design) (drop_more all i nothing c.loop-one-test.true) (c.loop-one.invariant pins e us h a) in
    kept-next pins e us c.loop-one.design c.keep_one.new.design (get_or all i nothing) (drop (i + 1) all) k (c.keep_one.ensures pins)

pub returns : goal.returns
returns c = λ pins e us h a.
    kept-all pins e us c.loop-one.design (subst (KeptSoFar pins e us c.loop-one.design) (drop_all c.loop-one.one-index c.args.given.now c.loop-one-test.false) (c.loop-one.invariant pins e us h a))
