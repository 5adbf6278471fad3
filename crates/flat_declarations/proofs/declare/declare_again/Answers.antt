use Rattle.std.proofs.Common.{◌≡◌, ◌<◌, ◌≤◌, false, length, Some, refl, sym, ap, ◌∙◌, rules}
use Rattle.std.specs.Prelude.{slice_get, slice_set}
use Rattle.std.specs.Vec.{with_item}
use Rattle.std.proofs.lemmas.Option.{slice_get-get_or, slice_get_past}
use Rattle.flat_unfolding.specs.Declarations.{declared_again}
use Rattle.flat_names.specs.declared.design.Entry.{Entry}
use Rattle.flat_names.specs.declared.design.Design.{Design}
use Rattle.flat_declarations.proofs.Tables.{reg-again, again-shows, none-again}
use Rattle.flat_declarations.proofs.declare.declare_again.Goals as goal

pub returns-in-Some : goal.returns-in-Some
returns-in-Some c = λ pins e sh inner.
    let old = c.args.design.now in let x = c.in-Some.entry.now in let kind = c.args.kind in
    let z : Entry = record x { is_open = false; is_reg = c.eq-entry.result } in
    let place : c.unwrap_or-place.result ≡ c.args.sig = search rules in
    let within : c.unwrap_or-place.result < length old.entries.items = search rules in
    let here : slice_get old.entries.items c.args.sig ≡ Some x = ap (slice_get old.entries.items) (sym place) ∙ slice_get-get_or old.entries.items c.unwrap_or-place.result x within ∙ ap Some (sym c.in-Some.ensures.value) in
    let new : Design = record old { entries = with_item old.entries c.unwrap_or-place.result z } in
    again-shows pins old new e kind c.args.sig x z sh here (ap (λ b. let y : Entry = record x { is_open = false; is_reg = b } in y) (reg-again kind c.eq-entry.result inner c.eq-entry.ensures)) refl (ap (λ i. slice_set old.entries.items i z) place)

pub returns-in_default : goal.returns-in_default
returns-in_default c = λ pins e sh inner.
    let old = c.args.design.now in
    let place : c.unwrap_or-place.result ≡ c.args.sig = search rules in
    let past : length old.entries.items ≤ c.unwrap_or-place.result = search rules in
    none-again pins old e (declared_again c.args.kind) c.args.sig sh (ap (slice_get old.entries.items) (sym place) ∙ slice_get_past old.entries.items c.unwrap_or-place.result past)
