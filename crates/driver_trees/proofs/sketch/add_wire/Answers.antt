-- A signal that has no tree drives nothing.
use Rattle.std.proofs.Common.{◌≡◌, Bool, cond, ◌&&◌, ◌==◌, [], ◌++◌, Some, None, is_some, sym, ap, ◌∙◌, append-nil}
use Rattle.flat_meaning.specs.Pieces.{run_pieces, runs}
use Rattle.driver_trees.specs.Presents.{present_of}
use Rattle.driver_trees.proofs.Growing.{ok-map}
use Rattle.driver_trees.proofs.Drafted.{pieces_as}
use Rattle.driver_trees.proofs.sketch.add_wire.Goals as goal

pub returns-in-Some-clause-adds : goal.returns-in-Some-clause-adds
returns-in-Some-clause-adds c = λ wid ds ts set before most words bits within pieces.
    let sig = c.args.sig in let n = wid sig in
    let here : present_of c.args.present.now sig ≡ Some c.in-Some.tree = sym c.finish.ensures.last ∙ c.in-Some.is in
    ok-map c.add_runs.result (λ u h. pieces_as (λ sel x. before sel x ++ cond (is_some (present_of c.args.present.now sig) && (x == sig)) (run_pieces n (ts sel sig) (runs set n [])) []) h
    (λ sel x. sym (ap (λ o. before sel x ++ cond (is_some o && (x == sig)) (run_pieces n (ts sel sig) (runs set n [])) []) here)))
    (c.add_runs.ensures.adds wid ds ts set before most (words c.in-Some.tree here) bits within pieces)

pub returns-in-None-clause-adds : goal.returns-in-None-clause-adds
returns-in-None-clause-adds c = λ wid ds ts set before most words bits within pieces.
    let sig = c.args.sig in let n = wid sig in
    let here : present_of c.args.present.now sig ≡ None = sym c.finish.ensures.last ∙ c.in-None.is in
    pieces_as (λ sel x. before sel x ++ cond (is_some (present_of c.args.present.now sig) && (x == sig)) (run_pieces n (ts sel sig) (runs set n [])) []) pieces
    (λ sel x. sym (ap (λ o. before sel x ++ cond (is_some o && (x == sig)) (run_pieces n (ts sel sig) (runs set n [])) []) here ∙ append-nil (before sel x)))
