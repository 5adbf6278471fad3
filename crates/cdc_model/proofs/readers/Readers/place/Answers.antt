-- A span ends within the list of readers.
use Rattle.std.proofs.Common.{◌≡◌, ◌∙◌, sym, ap, arith, Some, None, length, slice_get}
use Rattle.cdc_model.specs.Readers.{Kept, place_in}
use Rattle.cdc_model.proofs.Noted.{laid_at, found_at, not_found}
use Rattle.cdc_model.proofs.readers.Readers.place.Goals as goal

pub returns-in-Some : goal.returns-in-Some
returns-in-Some c =
    let ss = c.self.inside.spans.items in
    let there : slice_get ss c.args.bit.sig ≡ Some c.in-Some.span.now = ap (λ xs. slice_get xs c.args.bit.sig) (sym c.deref.ensures.value) ∙ found_at c.deref.result.now c.args.bit.sig c.in-Some.span.now c.in-Some.ensures.lookup.0 c.in-Some.ensures.lookup.1 in
    let fits = laid_at 0 ss (length c.self.inside.readers.items) c.args.bit.sig c.in-Some.span.now c.self.invariant there in
    c.place.ensures (let ok = c.self.inside.readers.ok in omega (arith, fits.1))
    ∙ ap (λ o. place_in o c.args.bit.at) (sym there ∙ ap (λ (k : Kept). slice_get k.spans c.args.bit.sig) c.self.view_is)

pub returns-in-None : goal.returns-in-None
returns-in-None c =
    let ss = c.self.inside.spans.items in
    let none : slice_get ss c.args.bit.sig ≡ None = ap (λ xs. slice_get xs c.args.bit.sig) (sym c.deref.ensures.value) ∙ not_found c.deref.result.now c.args.bit.sig c.in-None.ensures.lookup.0 in
    ap (λ o. place_in o c.args.bit.at) (sym none ∙ ap (λ (k : Kept). slice_get k.spans c.args.bit.sig) c.self.view_is)
