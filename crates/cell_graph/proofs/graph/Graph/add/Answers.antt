use Rattle.std.proofs.Common.{◌≡◌, ◌∙◌, sym, ap, rules, arith, length, ◌++◌, ◌∷◌, [], None}
use Rattle.std.proofs.lemmas.List.{length-map, map-append}
use Rattle.cell_graph.specs.declared.cell.Entry.{Entry}
use Rattle.cell_graph.specs.Cells.{Cells, place_in, width_of, widths}
use Rattle.cell_graph.specs.Kept.{cells_of}
use Rattle.cell_graph.proofs.Places.{added, place_in-get, slice_get-push}
use Rattle.cell_graph.proofs.graph.Graph.add.Goals as goal

pub invariant_of-self-2 : goal.invariant_of-self-2
invariant_of-self-2 c =
    let es = c.self.inside.entries.items in
    let new : Entry = record { cell = c.args.cell; width = c.width_of-width.result } in
    let cells : cells_of es ≡ c.args.self.now.cells = ap (λ (v : Cells). v.cells) c.self.view_is in
    let pushed : c.push.new.self.items ≡ es ++ new ∷ [] = search rules in
    let wide : c.width_of-width.result ≡ width_of c.self.inside.signals (widths c.self.inside.signals (cells_of es)) c.args.cell =
    c.width_of-width.ensures ∙ ap (λ (v : Cells). width_of v.signals (widths v.signals v.cells) c.args.cell) (sym c.self.view_is) in
    let fresh : place_in (cells_of es) c.args.cell ≡ None = ap (λ cs. place_in cs c.args.cell) cells ∙ search rules in
    let n : c.cell_count-id.result ≡ length es = c.cell_count-id.ensures ∙ ap length (sym cells) ∙ length-map es (λ (e : Entry). e.cell) in
    rw pushed (added c.self.inside.signals es c.self.inside.places c.insert.new.self c.self.inside.calls c.cell_count-id.result new
    c.self.invariant n (omega arith) wide fresh (search rules))

pub returns-in-Some-clause-found : goal.returns-in-Some-clause-found
returns-in-Some-clause-found c =
    let cells : cells_of c.self.inside.entries.items ≡ c.args.self.now.cells = ap (λ (v : Cells). v.cells) c.self.view_is in
    place_in-get (cells_of c.self.inside.entries.items) c.args.cell c.in-Some.id (ap (λ cs. place_in cs c.args.cell) cells ∙ search rules)

pub returns-clause-found : goal.returns-clause-found
returns-clause-found c =
    let es = c.self.inside.entries.items in
    let new : Entry = record { cell = c.args.cell; width = c.width_of-width.result } in
    let cells : cells_of es ≡ c.args.self.now.cells = ap (λ (v : Cells). v.cells) c.self.view_is in
    let pushed : c.push.new.self.items ≡ es ++ new ∷ [] = search rules in
    let n : c.cell_count-id.result ≡ length (cells_of es) = c.cell_count-id.ensures ∙ ap length (sym cells) in
    rw (pushed, n, map-append (λ (e : Entry). e.cell) es (new ∷ [])) (slice_get-push (cells_of es) c.args.cell)
