use Rattle.std.proofs.Common.{◌∙◌, ◌-◌, ◌^◌, inl, inr, ap, sym, subst, refl, slice_get, unwrap_or}
use Rattle.std.specs.Option.{option_and_then}
use Rattle.std.specs.Prelude.{bit_and}
use Rattle.std.specs.List.{Contains}
use Rattle.cell_graph.specs.declared.cell.CellId.{CellId}
use Rattle.cell_graph.specs.Below.{IsOperand}
use Rattle.cell_graph.specs.Cells.{cell_at, cell_width}
use Rattle.cell_graph.specs.Unfolded.{IsCellOf}
use Rattle.cell_graph.proofs.Cones.{cell-there}
use Rattle.cofactor.specs.Made.{IsMadeOf}
use Rattle.cofactor.specs.Shown.{no_row}
use Rattle.cofactor.specs.Walked.{AreMakers}
use Rattle.cofactor.proofs.Makers.{has-bit}
use Rattle.cofactor.proofs.Walks.{is-read, no-bits, rest-small, three_ok}
use Rattle.cofactor.proofs.walk.Walk.read.Goals as goal

pub returns-then-bits-eq0-clause-read : goal.returns-then-bits-eq0-clause-read
returns-then-bits-eq0-clause-read c = λ cube id well lt place shows operands.
    let g = c.args.graph.now in
    let t = c.args.table.now in
    let row = c.row_there-row.result in
    let unknown = bit_and (bit_and c.args.wanted.bits (2 ^ 64 - 1 - row.masks.known)) c.mask.result in
    let rest = bit_and unknown (2 ^ 64 - 1 - bit_and unknown row.same) in
    let done = c.in_ok-find_all.ensures in
    is-read g well cube t id lt shows (λ a op. (operands a op).place) c.args.wanted.bits c.width-width.result c.mask.result unknown rest
    (c.width-width.ensures ∙ ap (cell_width g) (c.cell_at-cell.ensures id lt place)) c.mask.ensures
    row (c.row_there-row.ensures ∙ ap (λ o. unwrap_or (option_and_then (slice_get t.rows) o) no_row) (sym place)) c.mask.type_inv refl refl
    c.args.marks.now c.args.self.now c.find_all.new.self (λ i b l. done.there i b) done.only done.sought done.kept (λ i j x set made l p. no-bits rest i c.if-bits-eq0.true set) (λ v h. inl (subst (λ ws. Contains ws v) done.wanted h))

pub returns-clause-read : goal.returns-clause-read
returns-clause-read c = three_ok c.want_makers.result (λ asked only found cube id well lt place shows operands.
    let g = c.args.graph.now in
    let t = c.args.table.now in
    let row = c.row_there-row.result in
    let unknown = bit_and (bit_and c.args.wanted.bits (2 ^ 64 - 1 - row.masks.known)) c.mask.result in
    let rest = bit_and unknown (2 ^ 64 - 1 - bit_and unknown row.same) in
    let done = c.in_ok-find_all.ensures in
    let it = c.cell_at-cell.ensures id lt place in
    let cell = c.cell.ensures ∙ ap (cell_at g) it in
    let is = subst (IsCellOf g id.0) (sym cell) (well.cells id.0 (cell_at g id) (cell-there g id lt)) in
    let masks = λ (a : CellId) (op : IsOperand c.cell.result a). (operands a (subst (λ d. IsOperand d a) cell op)).masks in
    is-read g well cube t id lt shows (λ a op. (operands a op).place) c.args.wanted.bits c.width-width.result c.mask.result unknown rest
    (c.width-width.ensures ∙ ap (cell_width g) it) c.mask.ensures
    row (c.row_there-row.ensures ∙ ap (λ o. unwrap_or (option_and_then (slice_get t.rows) o) no_row) (sym place)) c.mask.type_inv refl refl
    c.args.marks.now c.args.self.now c.want_makers.new.self
    (λ i b l q set s. subst (λ bs. Contains bs b) (sym found) (done.there i b q set s))
    (λ b h. done.only b (subst (λ bs. Contains bs b) found h))
    (λ b h. done.sought b (subst (λ bs. Contains bs b) found h))
    (λ b h. subst (λ bs. Contains bs b) (sym found) (done.kept b h))
    (λ i j x set made. asked cube id.0 well is masks i j x set (subst (λ d. IsMadeOf g cube d i x j) (sym cell) made))
    (λ v h. elim (only cube id.0 well is masks (has-bit rest c.if-bits-eq0.false (rest-small (bit_and c.args.wanted.bits (2 ^ 64 - 1 - row.masks.known)) c.mask.result (2 ^ 64 - 1 - bit_and unknown row.same) c.mask.type_inv)) v h) [
      | inl k ↦ inl (subst (λ ws. Contains ws v) done.wanted k)
      | inr k ↦ inr (subst (λ d. AreMakers g cube t d rest v) cell k)
    ])) c.want_makers.ensures.asked c.want_makers.ensures.only c.want_makers.ensures.found
