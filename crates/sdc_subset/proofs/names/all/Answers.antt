use Rattle.std.proofs.Common.{◌∙◌, sym, ap, Bor, List, ℕ, map, take, get_or, []}
use Rattle.std.specs.List.{list_any}
use Rattle.std.specs.Str.{bytes_eq}
use Rattle.std.proofs.lemmas.List.{take_more, map-append}
use Rattle.sdc_subset.proofs.Lookups.{any-added}
use Rattle.sdc_subset.proofs.names.all.Goals as goal

pub loop-name-preserved : goal.loop-name-preserved
loop-name-preserved c n =
    let names = c.args.names.now in
    let at = c.loop-name.name-index in
    let none : Bor (List ℕ) = record { ref_ptr = (0, 0); now = [] } in
    let now : Bor (List ℕ) → List ℕ = λ t. t.now in
    any-added n (get_or names at none).now c.loop-name.set (map now (take at names)) c.in_ok-add.field-0 c.add.new.self
    c.loop-name.invariant c.in_ok-add.ensures.new c.in_ok-add.ensures.kept
    ∙ ap (list_any (bytes_eq n)) (sym (ap (map now) (take_more names at none c.loop-name-test.true) ∙ map-append now (take at names) _))
