-- The bits of one column more, and in the end of all.
use Rattle.std.proofs.Common.{◌∙◌, ◌≡◌, ◌↔◌, ◌⊎◌, ap, subst, true, arith, List, Contains, get_or}
use Rattle.std.proofs.lemmas.List.{take_all}
use Rattle.std.specs.HashSet as set
use Rattle.cdc_base.specs.declared.bit.Bit.{Bit}
use Rattle.fifo_ways.specs.Marked.{same_bit}
use Rattle.fifo_scheme.specs.declared.found.Column.{Column}
use Rattle.fifo_scheme.specs.Met.{IsOfEntries}
use Rattle.fifo_scheme.proofs.Items.{column_added}
use Rattle.fifo_scheme.proofs.judge.words_in.Goals as goal

pub loop-column-preserved : goal.loop-column-preserved
loop-column-preserved c = λ b.
    let words : c.as_slice.result.now ≡ (get_or c.args.columns.now c.loop-column.column-index c.column-item.result).words = c.as_slice.ensures ∙ ap (λ (x : Column). x.words) c.column-item.is in
    column_added c.args.columns.now c.loop-column.column-index c.column-item.result (set.contains same_bit c.loop-column.words b) (set.contains same_bit c.add_words.new.words b) b c.loop-column-test.true (c.loop-column.invariant b)
    (subst (λ (bs : List Bit). (set.contains same_bit c.add_words.new.words b ≡ true) ↔ ((set.contains same_bit c.loop-column.words b ≡ true) ⊎ Contains bs b)) words (c.in_ok-add_words.ensures b))

pub returns : goal.returns
returns c = λ b.
    subst (λ (cs : List Column). (set.contains same_bit c.loop-column.words b ≡ true) ↔ IsOfEntries cs b) (take_all c.loop-column.column-index c.args.columns.now (let l = c.loop-column-test.false in omega arith)) (c.loop-column.invariant b)
