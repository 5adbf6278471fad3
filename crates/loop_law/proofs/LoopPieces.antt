-- Pieces on loops, and walks that meet all pieces.
use Rattle.std.proofs.Common.{◌+◌, length, refl}
use Rattle.driver_loops.specs.Orders.{here}
use Rattle.driver_loops.proofs.Through.{piece_leads_back}
use Rattle.loop_law.specs.Loops.{LoopsHavePieces, PiecesAreMet}
use Rattle.loop_law.proofs.Members.{found}
use Rattle.loop_law.proofs.Links.{piece_vertex}

pub loops_have_pieces : LoopsHavePieces
loops_have_pieces signals wid ds ps are v back =
    let q = piece_leads_back wid signals ds ps are v back in
    let p = found ps q.0 q.1 in (p.0.sig, record { place = q.0; piece = p.0; stands = p.1; of_signal = refl; back = q.2 })

pub pieces_are_met : PiecesAreMet
pieces_are_met signals ds ps roots order given is n l =
    let p = found ps n l in
    (is.reached (length ds + n)).1 (record { root = length ds + n; given = given n l; vertex = piece_vertex signals ds ps n p.0 p.1; way = here })
