use Rattle.std.proofs.Common.{◌≡◌, false, ◌≤◌, refl, sym, ap, subst, ◌∙◌}
use Rattle.std.specs.Prelude.{option_map}
use Rattle.flat_form.specs.View.{expr_of}
use Rattle.flat_unfolding.specs.Names.{offset_in, range_at, width_of}
use Rattle.flat_unfolding.specs.Constants.{own_value}
use Rattle.flat_unfolding.specs.Expressions.{bit_select, signal_bits}
use Rattle.flat_names.specs.Looks.{range_of}
use Rattle.flat_names.proofs.Looked.{range-is}
use Rattle.flat_names.proofs.Selected.{select-as, sound_as, missed, signal-range, read-stands, bit-hit, bit-missed}
use Rattle.flat_names.proofs.select.bit_of_signal.Goals as goal

pub returns-in-Some : goal.returns-in-Some
returns-in-Some c = λ l bs h f s b.
    let k = c.args.look.now in let sig = c.args.sig in let x = c.args.name.now in let old = c.args.faults.now in let at = c.in-Some.at in
    let i = own_value (expr_of c.args.index.now) in
    let r : option_map range_of c.bounds.result ≡ range_at l.entries sig = ap (option_map range_of) c.bounds.ensures ∙ range-is k l h sig in
    let o = c.in-Some.ensures s (subst (λ q. width_of q ≤ 64) (sym r) (signal-range l f sig)) ∙ ap (λ q. offset_in q i) r in
    select-as bs (signal_bits l x sig (bit_select (range_at l.entries sig) i)) old old old c.variable.result (sound_as c.read.result false) refl c.variable.ensures
    (bit-hit l x bs old sig i at c.read.result b o (read-stands k l sig at 1 c.read.result h refl c.read.ensures))

pub returns-in_ok-note-in-None : goal.returns-in_ok-note-in-None
returns-in_ok-note-in-None c = λ l bs h f s b.
    let k = c.args.look.now in let sig = c.args.sig in let x = c.args.name.now in let old = c.args.faults.now in
    let i = own_value (expr_of c.args.index.now) in
    let r : option_map range_of c.bounds.result ≡ range_at l.entries sig = ap (option_map range_of) c.bounds.ensures ∙ range-is k l h sig in
    let o = c.in-None.ensures s (subst (λ q. width_of q ≤ 64) (sym r) (signal-range l f sig)) ∙ ap (λ q. offset_in q i) r in
    select-as bs (signal_bits l x sig (bit_select (range_at l.entries sig) i)) old c.note.new.self (missed old 314 x) c.broken.result _ (c.in_ok-note-in-None.ensures ∙ ap (missed old 314) c.as_str.ensures) c.broken.ensures
    (bit-missed l x bs old sig i c.nothing.result o c.nothing.ensures)
