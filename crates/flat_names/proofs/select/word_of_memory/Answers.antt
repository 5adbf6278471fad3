use Rattle.std.proofs.Common.{false, refl, ap, ◌∙◌, arith}
use Rattle.flat_form.specs.View.{expr_of}
use Rattle.flat_unfolding.specs.Constants.{own_value}
use Rattle.flat_unfolding.specs.Expressions.{word_of, word_bits}
use Rattle.flat_names.specs.Looks.{memory_of}
use Rattle.flat_names.proofs.Looked.{own-is}
use Rattle.flat_names.proofs.Selected.{select-as, sound_as, missed, whole-stands, word-within, word-hit, word-missed}
use Rattle.flat_names.proofs.select.word_of_memory.Goals as goal

pub returns-in-Some : goal.returns-in-Some
returns-in-Some c = λ l bs h f m s b.
    let few = f.few in let a = memory_of c.args.memory in let x = c.args.name.now in let old = c.args.faults.now in let e = c.args.index.now in
    let i = own_value (expr_of e) in
    let o = c.in-Some.ensures (omega arith) ∙ ap (word_of a) (own-is e c.own_value.result s (c.own_value.ensures s).0) in
    let n = word-within a i c.in-Some.word o in
    select-as bs (word_bits l x (word_of a i)) old old old c.variable.result (sound_as c.read.result false) refl c.variable.ensures
    (word-hit l x bs old a i c.in-Some.word c.read.result b o (whole-stands c.args.look.now l c.in-Some.word c.width.result c.read.result h f (omega arith) c.width.ensures c.read.ensures))

pub returns-in_ok-note-in-None : goal.returns-in_ok-note-in-None
returns-in_ok-note-in-None c = λ l bs h f m s b.
    let few = f.few in let a = memory_of c.args.memory in let x = c.args.name.now in let old = c.args.faults.now in let e = c.args.index.now in
    let i = own_value (expr_of e) in
    let o = c.in-None.ensures (omega arith) ∙ ap (word_of a) (own-is e c.own_value.result s (c.own_value.ensures s).0) in
    select-as bs (word_bits l x (word_of a i)) old c.note.new.self (missed old 314 x) c.broken.result _ (c.in_ok-note-in-None.ensures ∙ ap (missed old 314) c.as_str.ensures) c.broken.ensures
    (word-missed l x bs old a i c.nothing.result o c.nothing.ensures)
