-- A word is a piece where it has a constant place.
use Rattle.std.proofs.Common.{◌≡◌, ◌++◌, ◌∷◌, [], ap, ◌∙◌, sym, append-nil}
use Rattle.driver_trees.specs.Sketched.{drafted_piece, share_pieces}
use Rattle.driver_trees.specs.Shares.{put_share}
use Rattle.driver_trees.proofs.Growing.{ok-map}
use Rattle.driver_trees.proofs.Drafted.{pieces_as, pieces_push, whole_drives, part_drives, none_drives}
use Rattle.driver_trees.proofs.sketch.add_put.Goals as goal

pub returns-in-Whole : goal.returns-in-Whole
returns-in-Whole c = record {
  adds = λ wid ds before widths put pieces.
      let n = c.width.result in let p = c.args.put in let old = c.args.pieces.now.items in
      let d = whole_drives wid ds p put n c.in-Whole.is (c.width.ensures ∙ widths p.sig) in
      ok-map c.push.result (λ u e. pieces_push c.push.new.items.items (drafted_piece p 0 n) before (λ sel x. share_pieces wid x (put_share sel ds p ∷ [])) (e ∙ ap (λ q. old ++ q ∷ []) c.word_piece.ensures) pieces d.0 d.1) c.push.ensures;
}

pub returns-in-Part : goal.returns-in-Part
returns-in-Part c = record {
  adds = λ wid ds before widths put pieces.
      let at = c.in-Part.at in let w = c.in-Part.width in let p = c.args.put in let old = c.args.pieces.now.items in
      let d = part_drives wid ds p put at w c.in-Part.is in
      ok-map c.push-in-Part.result (λ u e. pieces_push c.push-in-Part.new.items.items (drafted_piece p at w) before (λ sel x. share_pieces wid x (put_share sel ds p ∷ [])) (e ∙ ap (λ q. old ++ q ∷ []) c.word_piece-in-Part.ensures) pieces d.0 d.1) c.push-in-Part.ensures;
}

pub returns-in-Chosen : goal.returns-in-Chosen
returns-in-Chosen c = record {
  adds = λ wid ds before widths put pieces.
      pieces_as (λ sel x. before sel x ++ share_pieces wid x (put_share sel ds c.args.put ∷ [])) pieces
      (λ sel x. sym (append-nil (before sel x)) ∙ ap (λ ms. before sel x ++ ms) (none_drives wid ds c.args.put put c.in-Chosen.index c.in-Chosen.is sel x));
}
