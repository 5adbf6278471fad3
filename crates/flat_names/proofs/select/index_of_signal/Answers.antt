use Rattle.std.proofs.Common.{◌≡◌, ap, ap₂, ◌∙◌}
use Rattle.std.specs.Prelude.{option_map}
use Rattle.flat_unfolding.specs.Names.{range_at}
use Rattle.flat_unfolding.specs.Expressions.{may_index}
use Rattle.flat_names.specs.Looks.{range_of}
use Rattle.flat_names.proofs.Looked.{range-is}
use Rattle.flat_names.proofs.Selected.{signal-all, signal-variable}
use Rattle.flat_names.proofs.select.index_of_signal.Goals as goal

pub returns-then-index : goal.returns-then-index
returns-then-index c = λ l t h f i is.
    let s = c.if-not-index.false in
    signal-all l c.args.name.now t c.args.index c.args.faults.now c.args.sig c.bit_of_signal.new.faults c.bit_of_signal.result is s c.if-index.true (λ d. c.bit_of_signal.ensures l t.broken h f (is.sized s) d)

pub returns : goal.returns
returns c = λ l t h f i is.
    let sig = c.args.sig in
    let r : option_map range_of c.bounds.result ≡ range_at l.entries sig = ap (option_map range_of) c.bounds.ensures ∙ range-is c.args.look.now l h sig in
    let g = c.in_ok-is_sound.ensures in
    signal-variable l c.args.name.now t c.args.index c.args.faults.now sig c.in_ok-index.index c.in_ok-is_sound.is_sound c.none.result c.surely_meets.new.faults is c.if-not-index.false c.if-index.false c.in_ok-index.ensures
    (g.0 ∙ ap₂ may_index r c.width.ensures) g.1 c.none.ensures
