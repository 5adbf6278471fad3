use Rattle.std.proofs.Common.{◌≡◌, Err, rules, sym, subst}
use Rattle.flat_unfolding.specs.Outcome.{judged, by_number}
use Rattle.flat_unfolding.specs.Design.{assigned}
use Rattle.flat_names.specs.Designs.{ShowsDesign, Ends}
use Rattle.flat_process.specs.Assigns.{IsAssign}
use Rattle.flat_process.proofs.Ended.{raised-none, raised-ok, raised-err, shows-assign}
use Rattle.flat_process.proofs.assign.keep_assign.Goals as goal

pub returns-in_err-raise-clause-kept : goal.returns-in_err-raise-clause-kept
returns-in_err-raise-clause-kept c = λ pins e t v bs h noted is.
    let same : c.from_residual.result ≡ Err c.in_err-raise.field-0.0 = search rules in
    let P = ShowsDesign pins c.args.design.now in
    subst (Ends P (judged by_number c.args.place bs (assigned e t v))) (sym same) (raised-err P c.args.place bs (assigned e t v) c.args.faults c.in_err-raise.field-0.0 noted c.in_err-raise.ensures.exact)

pub returns-clause-kept : goal.returns-clause-kept
returns-clause-kept c = λ pins e t v bs h noted is.
    let none = raised-none c.args.place bs c.args.faults tt noted c.in_ok-raise.ensures.exact in
    raised-ok (ShowsDesign pins (record c.args.design.now { assigns = c.push.new.items })) c.args.place bs (assigned e t v) tt none
    (shows-assign pins c.args.design.now e h c.push.new.items c.args.assign t v c.in_ok-push.ensures.pushed (subst (λ cs. IsAssign t v cs c.args.assign) none is))
