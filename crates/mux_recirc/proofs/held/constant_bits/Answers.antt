-- One bit more, if it keeps its value.
use Rattle.std.proofs.Common.{◌∙◌, ap, [], ◌∷◌, ◌++◌, cond, get_or}
use Rattle.std.proofs.lemmas.List.Elements.{Contains-get_or}
use Rattle.cdc_base.specs.declared.bit.Bit.{Bit}
use Rattle.mux_recirc.specs.Shown.{keeps}
use Rattle.mux_recirc.proofs.Added.{kept_more}
use Rattle.mux_recirc.proofs.held.constant_bits.Goals as goal

abbrev none : Bit
none = record { sig = 0; at = 0 }

pub loop-bit-preserved : goal.loop-bit-preserved
loop-bit-preserved c = λ is has shown within.
    let bits = c.args.bits.now in
    let i = c.loop-bit.bit-index in
    let b = get_or bits i none in
    kept_more (keeps c.args.net.now []) _ c.loop-bit.constant.items c.keep_if.new.bits.items bits i none c.loop-bit-test.true (c.loop-bit.invariant is has shown within)
    (c.in_ok-keep_if.ensures ∙ ap (λ v. c.loop-bit.constant.items ++ cond v (b ∷ []) []) (c.is_constant.ensures is has shown (within b (Contains-get_or bits i none c.loop-bit-test.true))))
