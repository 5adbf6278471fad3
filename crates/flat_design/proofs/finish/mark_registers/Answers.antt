use Rattle.std.proofs.Common.{ℕ, ◌+◌, List, drop, get_or, sym, ap, ◌∙◌}
use Rattle.std.specs.Prelude.{option_map, slice_get}
use Rattle.std.proofs.lemmas.List.{drop_more, drop_all}
use Rattle.flat_drivers.specs.Driving.{is_among}
use Rattle.flat_design.specs.Finishing.{finished_at}
use Rattle.flat_design.proofs.Finished.{still-kept, next-marked, not-marked}
use Rattle.flat_design.proofs.finish.mark_registers.Goals as goal

pub loop-sig-preserved : goal.loop-sig-preserved
loop-sig-preserved c = λ d kept.
    let all = c.args.registers.now in let k = c.loop-sig.sig-index in
    let h = c.loop-sig.invariant d kept in
    let old = c.loop-sig.signals.items in let new = c.mark_register.new.signals.items in
    let r = get_or all k 0 in
    let marked = c.mark_register.ensures d h.0 in
    (still-kept d r c.args.entries.now old new marked h.0, next-marked d r c.args.entries.now old new marked all (drop (k + 1) all) (drop k all) c.args.signals.now.items (drop_more all k 0 c.loop-sig-test.true) h.1)

pub returns : goal.returns
returns c = λ d kept s.
    let all = c.args.registers.now in let now = slice_get c.loop-sig.signals.items s in
    sym (not-marked d s now) ∙ ap (λ (xs : List ℕ). option_map (finished_at d s (is_among xs s)) now) (sym (drop_all c.loop-sig.sig-index all c.loop-sig-test.false)) ∙ (c.loop-sig.invariant d kept).1 s
