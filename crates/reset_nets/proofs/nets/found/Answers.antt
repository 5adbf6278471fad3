use Rattle.std.proofs.Common.{◌∙◌, get_or, subst, arith}
use Rattle.std.proofs.lemmas.List.{take_all}
use Rattle.std.proofs.lemmas.Option.{slice_get-get_or}
use Rattle.reset_nets.specs.Shown.{Finds}
use Rattle.reset_nets.proofs.Shown.{first_found, tried_found, more_found}
use Rattle.reset_nets.proofs.nets.found.Goals as goal

pub loop-sig-init : goal.loop-sig-init
loop-sig-init c = λ pins d shows links sized first. first_found pins d c.in_ok-levels.levels.items (c.in_ok-levels.ensures ∙ c.as_slice.ensures.value ∙ shows.declared)

pub loop-sig-preserved : goal.loop-sig-preserved
loop-sig-preserved c = λ pins d shows links sized first.
    let old = c.loop-sig.levels.items in let new = c.try_signal.new.levels.items in let i = c.loop-sig.sig-index in
    let h = c.loop-sig.invariant pins d shows links sized first in let v = get_or c.args.order.now i 0 in
    more_found pins d c.args.links.now links c.args.order.now first i v (slice_get-get_or c.args.order.now i 0 c.loop-sig-test.true) old new c.try_signal.ensures.count
    (tried_found pins d c.args.links.now links c.args.wires.now shows v old new h.count c.try_signal.ensures.count (λ ends. c.in_ok-try_signal.ensures.tried ends sized)) h

pub returns : goal.returns
returns c = λ pins d shows links sized first.
    let l = c.loop-sig-test.false in
    subst (λ vs. Finds pins d vs c.loop-sig.levels.items) (take_all c.loop-sig.sig-index c.args.order.now (omega (arith, l))) (c.loop-sig.invariant pins d shows links sized first)
