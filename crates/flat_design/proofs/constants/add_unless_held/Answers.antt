use Rattle.std.proofs.Common.{sym, ◌∙◌}
use Rattle.std.proofs.lemmas.Result.{IfOk-weaker}
use Rattle.flat_design.proofs.StartValues.{held-grows-not, unheld-grows}
use Rattle.flat_design.proofs.constants.add_unless_held.Goals as goal

pub returns-then-is_held : goal.returns-then-is_held
returns-then-is_held c = held-grows-not c.args.held.now c.args.sig c.args.entry.now c.args.assigns.now.items (sym c.is_held.ensures ∙ c.if-is_held.true)

pub returns : goal.returns
returns c =
    IfOk-weaker c.add_start.result _ _
    (λ _ g. unheld-grows c.args.held.now c.args.sig c.args.entry.now c.args.assigns.now.items c.add_start.new.assigns.items (sym c.is_held.ensures ∙ c.if-is_held.false) g)
    c.add_start.ensures
