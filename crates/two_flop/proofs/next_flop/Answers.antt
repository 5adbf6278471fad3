-- The one reader is the next flop where it copies the flop on its clock.
use Rattle.std.proofs.Common.{◌≡◌, ◌∙◌, sym}
use Rattle.cdc_model.specs.declared.readers.Reader.TheVariants.{Alone}
use Rattle.cdc_model.specs.Readers.{readers_of}
use Rattle.cdc_model.proofs.Synced.{alone}
use Rattle.two_flop.proofs.Chains.{next_found, next_no_copy}
use Rattle.two_flop.proofs.next_flop.Goals as goal

pub returns-then-not-is_copy : goal.returns-then-not-is_copy
returns-then-not-is_copy c = λ is has shown kept.
    let reader : readers_of c.args.net.now c.args.flop ≡ Alone c.in-Alone.next = sym kept ∙ sym c.of.ensures ∙ c.in-Alone.is in
    next_no_copy c.args.net.now c.args.domains.now c.args.flop c.in-Alone.next reader
    (sym (c.is_copy.ensures is has shown (alone c.args.net.now is c.args.flop c.in-Alone.next reader).1) ∙ c.if-not-is_copy.true)

pub returns-then-on_one_clock : goal.returns-then-on_one_clock
returns-then-on_one_clock c = λ is has shown kept.
    let reader : readers_of c.args.net.now c.args.flop ≡ Alone c.in-Alone.next = sym kept ∙ sym c.of.ensures ∙ c.in-Alone.is in
    next_found c.args.net.now c.args.domains.now c.args.flop c.in-Alone.next reader
    (sym (c.is_copy.ensures is has shown (alone c.args.net.now is c.args.flop c.in-Alone.next reader).1) ∙ c.if-not-is_copy.false)
    (sym c.on_one_clock.ensures ∙ c.if-on_one_clock.true)
