-- By both tables.
use Rattle.std.proofs.Common.{◌∙◌, ◌&&◌, sym, ap, true, false}
use Rattle.mux_recirc.specs.Shown.{keeps, equal}
use Rattle.mux_recirc.proofs.blind.Shut.keeps.Goals as goal

pub returns-then-keeps_value : goal.returns-then-keeps_value
returns-then-keeps_value c = λ p q bits is has low high i l.
    c.keeps_value-then-keeps_value.ensures (equal p q true) bits is has high i l
    ∙ sym (ap (λ v. v && keeps c.args.net.now (equal p q true) c.args.bit) (sym (c.keeps_value.ensures (equal p q false) bits is has low i l) ∙ c.if-keeps_value.true))

pub returns-else-keeps_value : goal.returns-else-keeps_value
returns-else-keeps_value c = λ p q bits is has low high i l.
    c.if-keeps_value.false
    ∙ sym (ap (λ v. v && keeps c.args.net.now (equal p q true) c.args.bit) (sym (c.keeps_value.ensures (equal p q false) bits is has low i l) ∙ c.if-keeps_value.false))
