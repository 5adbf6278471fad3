use Rattle.std.proofs.Common.{ℕ, ◌+◌, List, drop, get_or, sym, ap, ◌∙◌}
use Rattle.std.specs.Prelude.{option_map, slice_get}
use Rattle.std.proofs.lemmas.List.{drop_more, drop_all}
use Rattle.flat_drivers.specs.Driving.{is_among}
use Rattle.flat_design.specs.Freeing.{mark_if}
use Rattle.flat_design.proofs.FreeSignals.{next-mark, not-marked}
use Rattle.flat_design.proofs.free.mark_driven.Goals as goal

pub loop-sig-preserved : goal.loop-sig-preserved
loop-sig-preserved c =
    let all = c.args.driven.now in let k = c.loop-sig.sig-index in
    next-mark (get_or all k 0) all (drop (k + 1) all) (drop k all) c.loop-sig.marks.items c.mark.new.marks.items c.args.marks.now.items
    (drop_more all k 0 c.loop-sig-test.true) c.mark.ensures c.loop-sig.invariant

pub returns : goal.returns
returns c = λ s.
    let all = c.args.driven.now in let now = slice_get c.loop-sig.marks.items s in
    sym (not-marked now) ∙ ap (λ (xs : List ℕ). option_map (mark_if (is_among xs s)) now)
    (sym (drop_all c.loop-sig.sig-index all c.loop-sig-test.false)) ∙ c.loop-sig.invariant s
