use Rattle.std.proofs.Common.{◌≡◌, ◌++◌, ◌∷◌, [], Err, rules, sym, subst}
use Rattle.flat_unfolding.specs.Outcome.{judged, by_number}
use Rattle.flat_unfolding.specs.Design as u
use Rattle.flat_names.specs.Designs.{ShowsDesign, Ends}
use Rattle.flat_process.proofs.Ended.{raised-none, raised-ok, raised-err, shows-comb}
use Rattle.flat_process.proofs.always.keep_wires_process.Goals as goal

pub returns-in_err-raise-clause-kept : goal.returns-in_err-raise-clause-kept
returns-in_err-raise-clause-kept c = λ pins e x bs h noted is.
    let same : c.from_residual.result ≡ Err c.in_err-raise.field-0.0 = search rules in
    let next : u.Design = record e { combs = e.combs ++ x ∷ [] } in
    let P = ShowsDesign pins c.args.design.now in
    subst (Ends P (judged by_number c.args.place bs next)) (sym same) (raised-err P c.args.place bs next c.args.faults c.in_err-raise.field-0.0 noted c.in_err-raise.ensures.exact)

pub returns-clause-kept : goal.returns-clause-kept
returns-clause-kept c = λ pins e x bs h noted is.
    let none = raised-none c.args.place bs c.args.faults tt noted c.in_ok-raise.ensures.exact in
    let next : u.Design = record e { combs = e.combs ++ x ∷ [] } in
    raised-ok (ShowsDesign pins (record c.args.design.now { combs = c.push.new.items })) c.args.place bs next tt none
    (shows-comb pins c.args.design.now e h c.push.new.items (record { body = c.args.body }) x c.in_ok-push.ensures.pushed (is.stmt none) (is.sizes none))
