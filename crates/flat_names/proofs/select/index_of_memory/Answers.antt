use Rattle.std.proofs.Common.{◌≤◌, ◌^◌, false, Some, refl, sym, ap, ◌∙◌, leb-true}
use Rattle.std.specs.Prelude.{nat_le}
use Rattle.flat_form.specs.Sizes.{kept_of}
use Rattle.flat_unfolding.specs.Names.{a_memory}
use Rattle.flat_names.specs.Looks.{memory_of}
use Rattle.flat_names.specs.Selects.{index_of}
use Rattle.flat_names.proofs.Selected.{select-as, sound_as, missed, memory-wide, memory-chosen}
use Rattle.flat_names.proofs.select.index_of_memory.Goals as goal

pub returns-then-not-may_index_words : goal.returns-then-not-may_index_words
returns-then-not-may_index_words c = λ l t h f m is.
    let a = memory_of c.args.memory in let x = c.args.name.now in let old = c.args.faults.now in
    select-as t.broken (index_of l x t (Some (a_memory a))) old c.note.new.self (missed old 315 x) c.broken-then-not-may_index_words.result _ (c.in_ok-note.ensures ∙ ap (missed old 315) c.as_str.ensures) c.broken-then-not-may_index_words.ensures
    (memory-wide l x t c.args.index old a c.may_index_words.result is c.if-not-index.false c.if-index.false (c.may_index_words.ensures ∙ ap (λ w. nat_le (2 ^ w) c.args.memory.words) c.width.ensures) c.if-not-may_index_words.true)

pub returns : goal.returns
returns c = λ l t h f m is.
    let a = memory_of c.args.memory in let x = c.args.name.now in let old = c.args.faults.now in let s = c.if-not-index.false in
    let may = c.may_index_words.ensures ∙ ap (λ w. nat_le (2 ^ w) c.args.memory.words) c.width.ensures in
    let reaches : 2 ^ (kept_of c.args.index.expr).width ≤ c.args.memory.words = leb-true _ _ (sym may ∙ c.if-not-may_index_words.false) in
    select-as t.broken (index_of l x t (Some (a_memory a))) old old old c.variable.result (sound_as c.in_ok-read.read false) refl c.variable.ensures
    (memory-chosen l x t c.args.index old a c.may_index_words.result c.in_ok-read.read is s c.if-index.false may c.if-not-may_index_words.false (c.in_ok-read.ensures l h f m (is.sized s) reaches))
