-- By both tables.
use Rattle.std.proofs.Common.{◌∙◌, ◌&&◌, sym, ap, true, false}
use Rattle.mux_recirc.specs.Shown.{keeps, differing}
use Rattle.mux_recirc.proofs.held.Busy.keeps.Goals as goal

pub returns-then-keeps_value : goal.returns-then-keeps_value
returns-then-keeps_value c = λ request last bits is has rising falling i l.
    c.keeps_value-then-keeps_value.ensures (differing request last false) bits is has falling i l
    ∙ sym (ap (λ v. v && keeps c.args.net.now (differing request last false) c.args.bit) (sym (c.keeps_value.ensures (differing request last true) bits is has rising i l) ∙ c.if-keeps_value.true))

pub returns-else-keeps_value : goal.returns-else-keeps_value
returns-else-keeps_value c = λ request last bits is has rising falling i l.
    c.if-keeps_value.false
    ∙ sym (ap (λ v. v && keeps c.args.net.now (differing request last false) c.args.bit) (sym (c.keeps_value.ensures (differing request last true) bits is has rising i l) ∙ c.if-keeps_value.false))
