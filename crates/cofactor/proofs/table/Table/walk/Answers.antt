use Rattle.std.proofs.Common.{◌≡◌, ◌∙◌, ◌≤◌, ◌*◌, ◌%◌, ◌^◌, ap, sym, subst, arith, length, true, ◌&&◌}
use Rattle.std.specs.Prelude.{◌↔◌}
use Rattle.std.specs.List.{Contains}
use Rattle.cell_graph.specs.Cofactor.{reads}
use Rattle.cell_graph.specs.Unfolded.{tree_of}
use Rattle.cell_graph.proofs.CellValues.{none-past}
use Rattle.cofactor.specs.Walked.{Walked, is_sought}
use Rattle.cofactor.proofs.Rounds.{under-way, still-under-way, found-all}
use Rattle.cofactor.proofs.table.Table.walk.Goals.{else-loop-turn-test, then-loop-turn-test+in_default}
use Rattle.cofactor.proofs.table.Table.walk.Goals as goal

pub loop-turn-init : goal.loop-turn-init
loop-turn-init c = λ cube well is shows.
    let old : Walked = record { wanted = c.clear.new.self.items; found = c.new.result.items } in
    under-way c.args.graph.now well cube c.args.self.now c.args.marks.now c.args.node is shows old c.want.new.self c.shifted_left.result c.clear.ensures.items
    (c.in_ok-want.ensures.found ∙ c.new.ensures.items) (c.shifted_left.ensures ∙ ap (λ n. 1 * 2 ^ n % 2 ^ 64) c.from.ensures) c.shifted_left.type_inv c.in_ok-want.ensures.asked c.in_ok-want.ensures.only

pub loop-turn-preserved : goal.loop-turn-preserved
loop-turn-preserved c = λ cube well is shows.
    still-under-way c.args.graph.now well cube c.args.self.now c.args.marks.now c.args.node is shows c.loop-turn.turn c.loop-turn.walk c.read.new.self c.in-Some.wanted (sym c.in-Some.ensures)
    c.in_ok-read.ensures.kept (λ id lt place own operands. c.in_ok-read.ensures.read cube id well lt place own operands) (c.loop-turn.invariant cube well is shows)

pub returns : goal.returns
returns c =
    let short = c.into_parts.ensures.short in
    let walk = c.loop-turn.walk in
    let whole : length walk.wanted ≤ c.loop-turn.turn = elim c.loop-turn-test.branch [
      | else-loop-turn-test w ↦ let f = w.loop-turn-test.false in omega arith
      | then-loop-turn-test+in_default w ↦ none-past walk.wanted c.loop-turn.turn (sym w.in_default.ensures)
    ] in
    λ cube well is shows b.
    subst (λ bits. (Contains bits b) ↔ ((is_sought c.args.marks.now b && reads cube (tree_of c.args.graph.now c.args.node.cell) c.args.node.at b) ≡ true)) (sym c.into_parts.ensures.found)
    (found-all c.args.graph.now well cube c.args.self.now c.args.marks.now c.args.node is shows c.loop-turn.turn walk whole (c.loop-turn.invariant cube well is shows) b)
