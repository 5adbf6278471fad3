-- Walks from all pieces, and from whatever other roots.
use Rattle.std.proofs.Common.{ℕ, ◌+◌, ◌<◌, length, arith}
use Rattle.std.proofs.lemmas.Option.{slice_get_within}
use Rattle.flat_meaning.specs.Design.{size_in}
use Rattle.loop_law.specs.Loops.{WalksMeetLoops, LoopsAreMarked, FirstMarkIsFirst}
use Rattle.loop_law.proofs.LoopPieces.{loops_have_pieces, pieces_are_met}
use Rattle.loop_law.proofs.Loops.{signals_on_loops, first_loop_is_first}

pub walks_meet_loops : WalksMeetLoops
walks_meet_loops f ds k sound filled is roots order given walk = (
  λ h. let p = loops_have_pieces f.signals (size_in f) ds k.pieces.items is.drafts h.0 h.2 in (p.0, (signals_on_loops f ds k sound filled is p.0).0 p.1),
  λ h.
      let p = (signals_on_loops f ds k sound filled is h.0).1 h.1 in
      let met = pieces_are_met f.signals ds k.pieces.items roots order given walk p.place (slice_get_within k.pieces.items p.place p.piece p.stands) in
      (length ds + p.place, met, p.back),
)

pub loops_are_marked : LoopsAreMarked
loops_are_marked signals wid ds ps drafts roots order marks given walk are h =
    let p = loops_have_pieces signals wid ds ps drafts h.0 h.2 in
    let l = slice_get_within ps p.1.place p.1.piece p.1.stands in
    (p.1.place, l, (are (length ds + p.1.place)).1 (pieces_are_met signals ds ps roots order given walk p.1.place l, p.1.back))

pub first_mark_is_first : FirstMarkIsFirst
first_mark_is_first f ds k sound filled is roots order marks given walk are n p stands mark none =
    let h = first_loop_is_first f ds k sound filled is n p stands ((are (length ds + n)).0 mark).1
    (λ m less back. none m less ((are (length ds + m)).1 (pieces_are_met f.signals ds k.pieces.items roots order given walk m (between m less), back))) in
    record { loops = h.0; none_below = h.1 }
  where
    between : (m : ℕ) → m < n → m < length k.pieces.items
    between m less = let l = slice_get_within k.pieces.items n p stands in omega arith
