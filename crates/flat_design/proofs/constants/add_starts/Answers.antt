use Rattle.std.proofs.Common.{◌+◌, ◌∷◌, drop, refl, sym, ap, ◌∙◌}
use Rattle.std.proofs.lemmas.List.{drop_more, drop_all}
use Rattle.flat_names.specs.declared.design.Entry.{Entry}
use Rattle.flat_design.proofs.StartValues.{next-assigned, all-assigned}
use Rattle.flat_design.proofs.constants.add_starts.Goals as goal

pub loop-sig-init : goal.loop-sig-init
loop-sig-init c = record { assigned = refl; sizes = λ h. h }

pub loop-sig-preserved : goal.loop-sig-preserved
loop-sig-preserved c =
    let all = c.args.entries.now in let k = c.loop-sig.sig in let x = c.index-entries-sig.result in
    next-assigned c.args.held.now all k c.args.assigns.now.items x (drop (k + 1) all) (drop k all) c.loop-sig.assigns.items c.add_unless_held.new.assigns.items
    (drop_more all k x c.loop-sig-test.true ∙ ap (λ (z : Entry). z ∷ drop (k + 1) all) (sym c.index-entries-sig.is)) c.loop-sig.invariant
    c.in_ok-add_unless_held.ensures

pub returns : goal.returns
returns c =
    let all = c.args.entries.now in let k = c.loop-sig.sig in
    all-assigned c.args.held.now all k c.args.assigns.now.items (drop k all) c.loop-sig.assigns.items (drop_all k all c.loop-sig-test.false) c.loop-sig.invariant
