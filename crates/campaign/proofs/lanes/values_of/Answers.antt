use Rattle.std.proofs.Common.{◌∙◌, ap, ap₂, ℕ, ◌+◌, ◌-◌, ◌*◌, ◌/◌, ◌%◌, ◌==◌, ◌^◌, cond, nat_lt, get_or, bit_and, bit_or, bit_xor}
use Rattle.cell_graph.specs.Cells.{cell_width}
use Rattle.cell_graph.specs.Values.{cell_word, reduced_word, word_at}
use Rattle.campaign.specs.Lanes.{lane}
use Rattle.campaign.proofs.lanes.values_of.Goals as goal

pub returns-in-And : goal.returns-in-And
returns-in-And c = λ i h.
    c.ands.ensures i h ∙ ap₂ bit_and (c.get_row-in-And.ensures i h) (c.get_row-in-And-2.ensures i h)
    ∙ ap (cell_word c.args.graph.now (lane i c.args.signals.now) (lane i c.args.rows.now) (cell_width c.args.graph.now c.args.id)) c.in-And.ensures

pub returns-in-Or : goal.returns-in-Or
returns-in-Or c = λ i h.
    c.ors.ensures i h ∙ ap₂ bit_or (c.get_row-in-Or.ensures i h) (c.get_row-in-Or-2.ensures i h)
    ∙ ap (cell_word c.args.graph.now (lane i c.args.signals.now) (lane i c.args.rows.now) (cell_width c.args.graph.now c.args.id)) c.in-Or.ensures

pub returns-in-Xor : goal.returns-in-Xor
returns-in-Xor c = λ i h.
    c.xors.ensures i h ∙ ap₂ bit_xor (c.get_row-in-Xor.ensures i h) (c.get_row-in-Xor-2.ensures i h)
    ∙ ap (cell_word c.args.graph.now (lane i c.args.signals.now) (lane i c.args.rows.now) (cell_width c.args.graph.now c.args.id)) c.in-Xor.ensures

pub returns-in-Eq : goal.returns-in-Eq
returns-in-Eq c = λ i h.
    c.equals.ensures i h ∙ ap₂ (λ (x y : ℕ). cond (x == y) 1 0) (c.get_row-in-Eq.ensures i h) (c.get_row-in-Eq-2.ensures i h)
    ∙ ap (cell_word c.args.graph.now (lane i c.args.signals.now) (lane i c.args.rows.now) (cell_width c.args.graph.now c.args.id)) c.in-Eq.ensures

pub returns-in-Lt : goal.returns-in-Lt
returns-in-Lt c = λ i h.
    c.lesser.ensures i h ∙ ap₂ (λ (x y : ℕ). cond (nat_lt x y) 1 0) (c.get_row-in-Lt.ensures i h) (c.get_row-in-Lt-2.ensures i h)
    ∙ ap (cell_word c.args.graph.now (lane i c.args.signals.now) (lane i c.args.rows.now) (cell_width c.args.graph.now c.args.id)) c.in-Lt.ensures

pub returns-in-Shr : goal.returns-in-Shr
returns-in-Shr c = λ i h.
    c.moved_down.ensures i h ∙ ap₂ (λ (x y : ℕ). x / 2 ^ y) (c.get_row-in-Shr.ensures i h) (c.get_row-in-Shr-2.ensures i h)
    ∙ ap (cell_word c.args.graph.now (lane i c.args.signals.now) (lane i c.args.rows.now) (cell_width c.args.graph.now c.args.id)) c.in-Shr.ensures

pub returns-in-Not : goal.returns-in-Not
returns-in-Not c = λ i h.
    c.low.ensures i h ∙ ap₂ (λ (x n : ℕ). x % 2 ^ n) (c.nots.ensures i h ∙ ap (λ x. 2 ^ 64 - 1 - x) (c.get_row-in-Not.ensures i h)) c.width-width.ensures
    ∙ ap (cell_word c.args.graph.now (lane i c.args.signals.now) (lane i c.args.rows.now) (cell_width c.args.graph.now c.args.id)) c.in-Not.ensures

pub returns-in-Add : goal.returns-in-Add
returns-in-Add c = λ i h.
    c.low-in-Add.ensures i h ∙ ap₂ (λ (x n : ℕ). x % 2 ^ n) (c.sums.ensures i h ∙ ap₂ (λ (x y : ℕ). (x + y) % 2 ^ 64) (c.get_row-in-Add.ensures i h) (c.get_row-in-Add-2.ensures i h)) c.width-width.ensures
    ∙ ap (cell_word c.args.graph.now (lane i c.args.signals.now) (lane i c.args.rows.now) (cell_width c.args.graph.now c.args.id)) c.in-Add.ensures

pub returns-in-Sub : goal.returns-in-Sub
returns-in-Sub c = λ i h.
    c.low-in-Sub.ensures i h ∙ ap₂ (λ (x n : ℕ). x % 2 ^ n) (c.differences.ensures i h ∙ ap₂ (λ (x y : ℕ). (x + (2 ^ 64 - y)) % 2 ^ 64) (c.get_row-in-Sub.ensures i h) (c.get_row-in-Sub-2.ensures i h)) c.width-width.ensures
    ∙ ap (cell_word c.args.graph.now (lane i c.args.signals.now) (lane i c.args.rows.now) (cell_width c.args.graph.now c.args.id)) c.in-Sub.ensures

pub returns-in-Shl : goal.returns-in-Shl
returns-in-Shl c = λ i h.
    c.low-in-Shl.ensures i h ∙ ap₂ (λ (x n : ℕ). x % 2 ^ n) (c.moved_up.ensures i h ∙ ap₂ (λ (x y : ℕ). x * 2 ^ y % 2 ^ 64) (c.get_row-in-Shl.ensures i h) (c.get_row-in-Shl-2.ensures i h)) c.width-width.ensures
    ∙ ap (cell_word c.args.graph.now (lane i c.args.signals.now) (lane i c.args.rows.now) (cell_width c.args.graph.now c.args.id)) c.in-Shl.ensures

pub returns-in-Mux : goal.returns-in-Mux
returns-in-Mux c = λ i h.
    c.chosen.ensures i h ∙ ap₂ (λ (x y : ℕ). cond (x == 0) y (get_or c.get_row-in-Mux-2.result i 0)) (c.get_row-in-Mux.ensures i h) (c.get_row-in-Mux-3.ensures i h) ∙ ap (λ x. cond (word_at (lane i c.args.rows.now) c.in-Mux.cond.0 == 0) (word_at (lane i c.args.rows.now) c.in-Mux.other.0) x) (c.get_row-in-Mux-2.ensures i h)
    ∙ ap (cell_word c.args.graph.now (lane i c.args.signals.now) (lane i c.args.rows.now) (cell_width c.args.graph.now c.args.id)) c.in-Mux.ensures

pub returns-in-Concat : goal.returns-in-Concat
returns-in-Concat c = λ i h.
    c.joined.ensures i h ∙ ap₂ (λ (x n : ℕ). bit_or (x * 2 ^ n % 2 ^ 64) (get_or c.get_row-in-Concat-2.result i 0)) (c.get_row-in-Concat.ensures i h) c.width.ensures ∙ ap (λ x. bit_or (word_at (lane i c.args.rows.now) c.in-Concat.high.0 * 2 ^ cell_width c.args.graph.now c.in-Concat.low % 2 ^ 64) x) (c.get_row-in-Concat-2.ensures i h)
    ∙ ap (cell_word c.args.graph.now (lane i c.args.signals.now) (lane i c.args.rows.now) (cell_width c.args.graph.now c.args.id)) c.in-Concat.ensures

pub returns-in-Slice : goal.returns-in-Slice
returns-in-Slice c = λ i h.
    c.sliced.ensures i h ∙ ap₂ (λ (x n : ℕ). x / 2 ^ c.in-Slice.at % 2 ^ n) (c.get_row-in-Slice.ensures i h) c.width-width.ensures
    ∙ ap (cell_word c.args.graph.now (lane i c.args.signals.now) (lane i c.args.rows.now) (cell_width c.args.graph.now c.args.id)) c.in-Slice.ensures

pub returns-in-Reduce : goal.returns-in-Reduce
returns-in-Reduce c = λ i h.
    c.reduced.ensures i h ∙ ap₂ (λ (n x : ℕ). reduced_word c.in-Reduce.kind n x) c.width-in-Reduce.ensures (c.get_row-in-Reduce.ensures i h)
    ∙ ap (cell_word c.args.graph.now (lane i c.args.signals.now) (lane i c.args.rows.now) (cell_width c.args.graph.now c.args.id)) c.in-Reduce.ensures
