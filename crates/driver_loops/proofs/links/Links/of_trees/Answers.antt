use Rattle.std.proofs.Common.{◌≡◌, ◌∙◌, ◌+◌, sym, ap, append_assoc, get_or, drop, map, [], ◌∷◌, ◌++◌}
use Rattle.std.proofs.lemmas.List.{at_drop_more}
use Rattle.driver_trees.specs.declared.sketch.Piece.{Piece}
use Rattle.driver_loops.specs.Leads.{piece_ends}
use Rattle.driver_loops.specs.Links.{extended}
use Rattle.driver_loops.proofs.Rows.{extended-begun}
use Rattle.driver_loops.proofs.links.Links.of_trees.Goals as goal

abbrev none : Piece
none = record { sig = 0; at = 0; width = 0; tree = record { 0 = 0 }; inside = 0 }

pub loop-piece-preserved : goal.loop-piece-preserved
loop-piece-preserved c = λ ordered.
    let ps = c.args.pieces.now in
    let i = c.loop-piece.piece-index in
    let ends = piece_ends (get_or ps i none) in
    let rest = map piece_ends (drop (i + 1) ps) in
    let new : c.add.new.self ≡ c.loop-piece.links ++ ends ∷ [] = c.in_ok-add.ensures ∙ ap (λ rs. extended rs ends) c.in_ok-begin.ensures ∙ extended-begun c.loop-piece.links ends in
    ap (λ rs. rs ++ rest) new ∙ append_assoc c.loop-piece.links (ends ∷ []) rest
    ∙ ap (λ xs. c.loop-piece.links ++ xs) (sym (at_drop_more (map piece_ends) ps i none c.loop-piece-test.true)) ∙ c.loop-piece.invariant ordered
