use Rattle.std.proofs.Common.{ℕ, List, sym, ap, ◌∙◌, subst}
use Rattle.std.specs.Prelude.{option_map, slice_get}
use Rattle.std.specs.List.{list_any}
use Rattle.flat_meaning.specs.Flat.{Stmt, assigns}
use Rattle.flat_form.specs.declared.flat.FlatClocked.{FlatClocked}
use Rattle.flat_names.specs.declared.design.Entry.{Entry}
use Rattle.flat_drivers.proofs.Marked.{are_registers}
use Rattle.flat_design.specs.Finishing.{AreKept, finished_at}
use Rattle.flat_design.proofs.Finished.{kept-all, signals-are, flat-same}
use Rattle.flat_design.proofs.finish.finished.Goals as goal

pub returns-clause-exact : goal.returns-clause-exact
returns-clause-exact c = λ pins d shows fit.
    let kept : AreKept d c.as_slice-3.result.now c.args.design.signals.items = subst (λ (xs : List Entry). AreKept d xs c.args.design.signals.items) (sym c.as_slice-3.ensures.value) (kept-all pins c.args.design d shows fit) in
    let signals = signals-are d c.args.design.signals.items c.from_vec.result shows.signals
    (λ s. ap (λ ys. slice_get ys s) c.from_vec.ensures ∙ c.mark_registers.ensures d kept s
    ∙ ap (λ b. option_map (finished_at d s b) (slice_get c.args.design.signals.items s)) (c.signals.ensures.exact s ∙ c.in_ok-registers.ensures s ∙ ap (λ (xs : List FlatClocked). are_registers xs s) c.as_slice-2.ensures.value ∙ ap (λ (xs : List (ℕ × Stmt)). list_any (λ (p : ℕ × Stmt). assigns p.1 s) xs) shows.clocked)) in
    flat-same pins c.args.design d shows c.from_vec.result c.from_vec-2.result c.from_vec-3.result c.from_vec-4.result c.from_vec-5.result signals c.from_vec-2.ensures c.from_vec-3.ensures c.from_vec-4.ensures c.from_vec-5.ensures
