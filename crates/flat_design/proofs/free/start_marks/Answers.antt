use Rattle.std.proofs.Common.{List, ◌++◌, map, sym, ap, ◌∙◌, append-nil}
use Rattle.std.specs.Prelude.{is_some}
use Rattle.std.proofs.lemmas.List.{drop_all}
use Rattle.flat_names.specs.declared.design.Entry.{Entry}
use Rattle.flat_design.proofs.free.start_marks.Goals as goal

pub returns : goal.returns
returns c =
    let all = c.args.entries.now in let marks = c.loop-entry.marks.items in
    sym (c.loop-entry.invariant ∙ ap (λ (xs : List Entry). marks ++ map (λ (x : Entry). is_some x.start) xs)
    (drop_all c.loop-entry.entry-index all c.loop-entry-test.false) ∙ append-nil marks)
