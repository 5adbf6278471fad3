use Rattle.std.proofs.Common.{◌∙◌, ap, sym, Some}
use Rattle.cell_graph.specs.Cells.{cell_width}
use Rattle.cell_graph.specs.Cofactor.{known}
use Rattle.cell_graph.specs.Unfolded.{tree_of}
use Rattle.cell_graph.proofs.Cones.{on_ok, met_more}
use Rattle.cofactor.proofs.Arms.{chosen-only, other-only, condition-only, branches-only, choice-asked}
use Rattle.cofactor.proofs.SamePush.{both_ok}
use Rattle.cofactor.proofs.WantedLists.{in-turn, asked-kept}
use Rattle.cofactor.proofs.walk.Walk.want_choice.Goals as goal

pub returns-then-first-clause-only : goal.returns-then-first-clause-only
returns-then-first-clause-only c = on_ok c.want.result (λ f g cube one shown some w h.
    met_more (chosen-only g cube c.args.table.now c.args.bits c.args.cond c.args.yes c.args.other w
    (ap Some (sym c.if-first.true) ∙ c.in-Some.ensures (known cube (tree_of g c.args.cond)) (cell_width g c.args.cond) one shown)) (f w h)) c.want.ensures.only

pub returns-else-first-clause-only : goal.returns-else-first-clause-only
returns-else-first-clause-only c = on_ok c.want-else-first.result (λ f g cube one shown some w h.
    met_more (other-only g cube c.args.table.now c.args.bits c.args.cond c.args.yes c.args.other w
    (ap Some (sym c.if-first.false) ∙ c.in-Some.ensures (known cube (tree_of g c.args.cond)) (cell_width g c.args.cond) one shown)) (f w h)) c.want-else-first.ensures.only

pub returns-in_ok-want-in-None-clause-asked : goal.returns-in_ok-want-in-None-clause-asked
returns-in_ok-want-in-None-clause-asked c =
    let t = c.args.table.now in
    let mid = c.want-in-None.new.self.wanted in
    let new = c.want_both.new.self.wanted in
    both_ok c.want_both.result (λ f keep g cube one shown.
    choice-asked g cube t c.args.bits mid new c.args.cond c.args.yes c.args.other (c.in-None.ensures (known cube (tree_of g c.args.cond)) (cell_width g c.args.cond) one shown)
    (asked-kept t mid new keep) c.in_ok-want-in-None.ensures.asked f) c.want_both.ensures.asked c.want_both.ensures.kept

pub returns-in_ok-want-in-None-clause-only : goal.returns-in_ok-want-in-None-clause-only
returns-in_ok-want-in-None-clause-only c = on_ok c.want_both.result (λ f g cube one shown some w h.
    let none = c.in-None.ensures (known cube (tree_of g c.args.cond)) (cell_width g c.args.cond) one shown in
    in-turn (condition-only g cube c.args.table.now c.args.bits c.args.cond c.args.yes c.args.other w none some)
    (branches-only g cube c.args.table.now c.args.bits c.args.cond c.args.yes c.args.other w none) (c.in_ok-want-in-None.ensures.only w) (f w h)) c.want_both.ensures.only
