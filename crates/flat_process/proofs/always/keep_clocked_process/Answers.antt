use Rattle.std.proofs.Common.{◌≡◌, ◌++◌, ◌∷◌, [], length, Err, rules, sym, subst}
use Rattle.flat_unfolding.specs.Outcome.{judged, by_number}
use Rattle.flat_unfolding.specs.Design as u
use Rattle.flat_names.specs.Designs.{ShowsDesign, Ends}
use Rattle.flat_process.specs.Resets.{AreGiven}
use Rattle.flat_process.proofs.Ended.{with_more, raised-none, raised-ok, raised-err, shows-clocked}
use Rattle.flat_process.proofs.always.keep_clocked_process.Goals as goal

pub returns-in_err-raise-clause-kept : goal.returns-in_err-raise-clause-kept
returns-in_err-raise-clause-kept c = λ pins e clock x r us bs ts h noted resets is.
    let same : c.from_residual.result ≡ Err c.in_err-raise.field-0.0 = search rules in
    let next : u.Design = record e { clocked = e.clocked ++ (clock, x) ∷ []; resets = e.resets ++ r ∷ []; givens = e.givens ++ us; late = with_more e.late c.args.place ts } in
    let P = ShowsDesign pins c.args.design.now in
    subst (Ends P (judged by_number c.args.place bs next)) (sym same) (raised-err P c.args.place bs next c.args.faults c.in_err-raise.field-0.0 noted c.in_err-raise.ensures.exact)

pub returns-clause-kept : goal.returns-clause-kept
returns-clause-kept c = λ pins e clock x r us bs ts h noted resets is.
    let none = raised-none c.args.place bs c.args.faults tt noted c.in_ok-raise.ensures.exact in
    let p = c.args.process in
    let d = c.keep_given.new.design in
    let late : u.Design = record e { late = with_more e.late c.args.place ts } in
    let given : u.Design = record late { givens = e.givens ++ us } in
    let next : u.Design = record given { clocked = e.clocked ++ (clock, x) ∷ []; resets = e.resets ++ r ∷ [] } in
    let shown = c.keep_given.ensures pins late us (c.keep_late.ensures pins e ts h resets) (subst (AreGiven (length e.entries) us) (sym c.as_slice.ensures.value) is.given) in
    raised-ok (ShowsDesign pins (record d { clocked = c.push-2.new.items; resets = c.push.new.items })) c.args.place bs next tt none
    (shows-clocked pins d given shown c.push-2.new.items c.push.new.items (record { clock = p.clock; body = p.body }) p.reset clock x r c.in_ok-push-2.ensures.pushed c.in_ok-push.ensures.pushed is.clock (is.body.stmt none)
    (is.body.sizes none) (is.reset none))
