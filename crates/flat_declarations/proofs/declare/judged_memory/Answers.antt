use Rattle.std.proofs.Common.{None, Some, ap, sym, ◌∙◌}
use Rattle.std.specs.Prelude.{option_map}
use Rattle.verilog_reading.specs.SourceTree.{bounds_of, decl_of}
use Rattle.flat_unfolding.specs.Outcome.{breaks}
use Rattle.flat_unfolding.specs.Parameters.{bounds_read}
use Rattle.flat_names.specs.Noting.{all_noted}
use Rattle.flat_names.specs.Looks.{range_of}
use Rattle.flat_declarations.proofs.Judged.{array-meant, array-none}
use Rattle.flat_declarations.proofs.declare.judged_memory.Goals as goal

pub returns-in_ok-note-in-None : goal.returns-in_ok-note-in-None
returns-in_ok-note-in-None c = λ l shows is formed.
    let x = decl_of c.args.decl.now in let b = bounds_of c.args.array.now in
    let h = c.in_ok-bounds.ensures l shows is formed in
    let m = array-meant l x b c.range_bounds.new.faults c.args.faults.now c.pass_on.new.other c.note.new.self (option_map range_of c.in_ok-bounds.bounds) None h.0
    (h.1 ∙ ap (λ n. all_noted n (bounds_read l b).broken) c.new-inner.ensures) c.in_ok-pass_on.ensures (sym c.in-None.is ∙ c.memory_words.ensures)
    (c.in_ok-note-in-None.ensures ∙ ap (λ n. all_noted c.pass_on.new.other (breaks 319 n)) c.as_str.ensures) in
    (m.0, λ k. array-none l x b m.1 k)

pub returns-in_ok-note_taken_words-in-Some : goal.returns-in_ok-note_taken_words-in-Some
returns-in_ok-note_taken_words-in-Some c = λ l shows is formed.
    let x = decl_of c.args.decl.now in let b = bounds_of c.args.array.now in
    let h = c.in_ok-bounds.ensures l shows is formed in
    let m = array-meant l x b c.range_bounds.new.faults c.args.faults.now c.pass_on.new.other c.note_taken_words.new.faults (option_map range_of c.in_ok-bounds.bounds) (Some c.in-Some.words) h.0
    (h.1 ∙ ap (λ n. all_noted n (bounds_read l b).broken) c.new-inner.ensures) c.in_ok-pass_on.ensures (sym c.in-Some.is ∙ c.memory_words.ensures)
    (c.in_ok-note_taken_words-in-Some.ensures l shows) in
    (m.0, λ k. m.1)
