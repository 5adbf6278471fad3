use Rattle.std.proofs.Common.{◌≡◌, ◌∙◌, ap, sym, List, ◌++◌, Ok}
use Rattle.std.proofs.lemmas.Map.Iter.{rest_more}
use Rattle.std.specs.Map.Iter.{deref_pair}
use Rattle.serde_json.specs.View.{view, members_view}
use Rattle.clock_constraints.specs.Refusals.{◌>>=◌}
use Rattle.run_file.specs.declared.document.Entry.{Entry}
use Rattle.run_file.specs.Values.{entry, entries_of}
use Rattle.run_file.proofs.Entries.{next-entry}
use Rattle.run_file.proofs.value.entries_of.Goals as goal

pub loop-name-preserved : goal.loop-name-preserved
loop-name-preserved c =
    let rest = rest_more deref_pair c.loop-name.name-iterator c.next.new.self c.next.result (c.in-Some.name, c.in-Some.value) c.in-Some.is c.next.ensures.steps in (
      tt,
      tt,
      next-entry (members_view c.args.members.now.entries) _ c.loop-name.name-iterator c.next.new.self c.in-Some.name.now c.in-Some.value.now c.in_ok-entry.field-0 rest
          (ap (λ t. entry t (view c.in-Some.value.now)) (sym c.as_str.ensures.value) ∙ c.in_ok-entry.ensures.gives) c.loop-name.invariant.2
          ∙ ap (λ (xs : List Entry). entries_of (members_view c.next.new.self) >>= (λ rest. Ok (xs ++ rest))) (sym c.in_ok-push.ensures.pushed),
    )
