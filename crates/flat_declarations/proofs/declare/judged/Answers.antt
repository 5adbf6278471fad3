use Rattle.std.proofs.Common.{◌≡◌, None, Some, ◌&&◌, ap, sym, subst, ◌∙◌}
use Rattle.std.specs.Prelude.{is_some, is_none, option_map}
use Rattle.verilog_reading.specs.SourceTree.{maybe, bounds_of, decl_of}
use Rattle.flat_unfolding.specs.Outcome.{breaks_if}
use Rattle.flat_unfolding.specs.Names.{is_declared}
use Rattle.flat_unfolding.specs.Declarations.{again, range_rule}
use Rattle.flat_unfolding.specs.Formed.{IsRangeFormed}
use Rattle.flat_names.specs.Noting.{all_noted}
use Rattle.flat_names.specs.Looks.{range_of}
use Rattle.flat_declarations.proofs.Judged.{read-some, judged-again, judged-signal, judged-memory, count-at, broken-at}
use Rattle.flat_declarations.proofs.declare.judged.Goals as goal

pub returns-in_ok-note_range-in-Some : goal.returns-in_ok-note_range-in-Some
returns-in_ok-note_range-in-Some c = λ l at shows may is formed here header.
    let x = decl_of c.args.decl.now in let f0 = c.args.faults.now in let r = option_map range_of c.in_ok-bounds.bounds in
    let before = c.declared_before-again.ensures l shows may in
    let twice = c.in_ok-note_twice.ensures l shows ∙ ap (λ o. all_noted f0 (breaks_if (is_none o && is_declared l.names x.name) 304 x.name)) before in
    let b = c.in_ok-bounds.ensures l shows is formed.0 in
    let once_more : again l x ≡ Some c.in-Some.sig = sym before ∙ c.in-Some.is in
    let other = c.in_ok-note_range-in-Some.ensures l shows (λ k. read-some l x.name c.args.decl.now.range (sym (ap is_some b.0) ∙ k)) in (
      judged-again l at x f0 c.note_twice.new.faults c.note_form.new.faults c.declared_bounds.new.faults twice (c.in_ok-note_form.ensures at here header) b.1 c.note_range.new.faults c.in-Some.sig once_more
          (other ∙ ap (λ q. all_noted c.declared_bounds.new.faults (range_rule l x q (Some c.in-Some.sig))) b.0),
      λ k. once_more,
    )

pub returns-in-None-array : goal.returns-in-None-array
returns-in-None-array c = λ l at shows may is formed here header.
    let x = decl_of c.args.decl.now in let f0 = c.args.faults.now in
    let before = c.declared_before-again.ensures l shows may in
    let twice = c.in_ok-note_twice.ensures l shows ∙ ap (λ o. all_noted f0 (breaks_if (is_none o && is_declared l.names x.name) 304 x.name)) before in
    let b = c.in_ok-bounds.ensures l shows is formed.0 in
    let first : again l x ≡ None = sym before ∙ c.in-None.is in
    let plain : x.array ≡ None = ap (maybe bounds_of) c.in-None-array.is in (
      judged-signal l at x f0 c.note_twice.new.faults c.note_form.new.faults c.declared_bounds.new.faults twice (c.in_ok-note_form.ensures at here header) b.1 first plain,
      λ k. (first, count-at l x None plain, b.0),
    )

pub returns-in_ok-words-in-Some-array : goal.returns-in_ok-words-in-Some-array
returns-in_ok-words-in-Some-array c = λ l at shows may is formed here header.
    let x = decl_of c.args.decl.now in let f0 = c.args.faults.now in let array = bounds_of c.in-Some-array.array in
    let before = c.declared_before-again.ensures l shows may in
    let twice = c.in_ok-note_twice.ensures l shows ∙ ap (λ o. all_noted f0 (breaks_if (is_none o && is_declared l.names x.name) 304 x.name)) before in
    let b = c.in_ok-bounds.ensures l shows is formed.0 in
    let first : again l x ≡ None = sym before ∙ c.in-None.is in
    let words : x.array ≡ Some array = ap (maybe bounds_of) c.in-Some-array.is in
    let h = c.in_ok-words-in-Some-array.ensures l shows is (subst IsRangeFormed words formed.1) in (
      judged-memory l at x f0 c.note_twice.new.faults c.note_form.new.faults c.declared_bounds.new.faults twice (c.in_ok-note_form.ensures at here header) b.1 c.judged_memory.new.faults array first words h.0,
      λ k. (first, count-at l x (Some array) words ∙ h.1 (broken-at l at x (Some array) words k), b.0),
    )
