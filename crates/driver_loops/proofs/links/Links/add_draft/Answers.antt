use Rattle.std.proofs.Common.{◌≡◌, ◌∙◌, sym, ap, cond, [], ◌∷◌, ◌++◌}
use Rattle.std.proofs.lemmas.Result.{on_ok_weaker}
use Rattle.driver_loops.specs.Leads.{operand_ids, meeting_places, form_ends, draft_ends}
use Rattle.driver_loops.specs.Links.{extended}
use Rattle.driver_loops.proofs.Rows.{extended-begun}
use Rattle.driver_loops.proofs.links.Links.add_draft.Goals as goal

pub returns-in-Made : goal.returns-in-Made
returns-in-Made c =
    let old = c.args.self.now in
    let d = c.args.draft.now in
    let ends : draft_ends c.args.signals.now c.args.first c.args.pieces.now d ≡ operand_ids c.in-Made.cell = ap (form_ends c.args.signals.now c.args.first c.args.pieces.now d.width) c.in-Made.is in
    on_ok_weaker c.add_operands.result
    (λ e ordered. e ∙ ap (λ rs. extended rs (operand_ids c.in-Made.cell)) c.in_ok-begin.ensures ∙ extended-begun old (operand_ids c.in-Made.cell) ∙ ap (λ es. old ++ es ∷ []) (sym ends))
    c.add_operands.ensures

pub returns-then-is_wire : goal.returns-then-is_wire
returns-then-is_wire c =
    let old = c.args.self.now in
    let d = c.args.draft.now in
    let ps = c.args.pieces.now in
    let met = meeting_places c.args.first ps c.in-Read.sig c.in-Read.at d.width in
    let ends : draft_ends c.args.signals.now c.args.first ps d ≡ met =
    ap (form_ends c.args.signals.now c.args.first ps d.width) c.in-Read.is ∙ ap (λ b. cond b met []) (sym c.is_wire.ensures ∙ c.if-is_wire.true) in
    on_ok_weaker c.add_pieces.result
    (λ f ordered. f ordered ∙ ap (λ rs. extended rs met) c.in_ok-begin.ensures ∙ extended-begun old met ∙ ap (λ es. old ++ es ∷ []) (sym ends))
    c.add_pieces.ensures
