-- Each run is a piece.
use Rattle.std.proofs.Common.{◌≡◌, ℕ, ◌+◌, ◌<◌, ◌≤◌, Bool, true, false, cond, ◌==◌, List, [], ◌∷◌, ◌++◌, map, drop, length, get_or, refl, sym, ap, ap₂, subst, ◌∙◌, arith}
use Rattle.std.specs.List.{AllByRecursion as Each}
use Rattle.std.proofs.lemmas.List.{drop_more, drop_all}
use Rattle.flat_meaning.specs.Trees.{Selects}
use Rattle.flat_meaning.specs.Pieces.{Piece as MeaningPiece, run_pieces}
use Rattle.driver_trees.specs.declared.mask.Run.{Run}
use Rattle.driver_trees.specs.declared.sketch.Piece.{Piece}
use Rattle.driver_trees.specs.Collected.{run_of, IsRunIn}
use Rattle.driver_trees.specs.Sketches.{pieces_in}
use Rattle.driver_trees.proofs.Drafted.{as_they_are, pieces_push, with_all, with_more, with_none, same_eq}
use Rattle.driver_trees.proofs.sketch.add_all_runs.Goals as goal

run_first : (b : Bool) (m : MeaningPiece) (ms : List MeaningPiece) → cond b (m ∷ []) [] ++ cond b ms [] ≡ cond b (m ∷ ms) []
run_first true m ms = refl
run_first false m ms = refl

both_none : (ms : List MeaningPiece) (b : Bool) → ms ≡ [] → cond b ms [] ≡ []
both_none ms true e = e
both_none ms false e = refl

pub loop-run-init : goal.loop-run-init
loop-run-init c = λ wid ds ts before word runs pieces. (runs, with_all (λ sel x. cond (x == c.args.sig) (run_pieces (wid c.args.sig) (ts sel c.args.sig) (map run_of c.args.runs.now)) []) pieces)

pub loop-run-preserved : goal.loop-run-preserved
loop-run-preserved c = λ wid ds ts before word runs pieces.
    let i = c.loop-run.invariant wid ds ts before word runs pieces in
    let rs = c.args.runs.now in let k = c.loop-run.run-index in let d : Run = record { at = 0; width = 0 } in let run = get_or rs k d in let rest = drop (k + 1) rs in let sig = c.args.sig in
    let next : drop k rs ≡ run ∷ rest = drop_more rs k d (omega (arith, c.loop-run-test.true, c.loop-run.auto.run-index-end)) in
    let both = subst (λ l. Each (IsRunIn (wid sig)) (map run_of l)) next i.0 in
    let p : Piece = record { sig = sig; at = run.at; width = run.width; tree = c.args.tree; inside = run.at } in
    let one : (sel : Selects) → MeaningPiece = λ sel. record { at = run.at; bits = run.width; tree = ts sel sig; size = wid sig; inside = run.at } in (
      both.1,
      with_more ds c.push.new.items.items (λ sel x. cond (x == sig) (one sel ∷ []) []) (λ sel x. cond (x == sig) (run_pieces (wid sig) (ts sel sig) (map run_of rest)) []) i.1
          (pieces_push c.push.new.items.items p (λ sel x. pieces_in sel ds c.loop-run.pieces.items x) (λ sel x. cond (x == sig) (one sel ∷ []) []) c.in_ok-push.ensures (as_they_are i.1.stand)
          ((word.place.0, refl), both.0.0, subst (λ n. run.at + run.width ≤ n) (sym word.place.1) both.0.1)
          (λ sel x. ap₂ (λ t n. cond (sig == x) (record { at = run.at; bits = run.width; tree = t; size = n; inside = run.at } ∷ []) []) (word.tree sel) word.place.1 ∙ ap (λ b. cond b (one sel ∷ []) []) (same_eq sig x)))
          (λ sel x. run_first (x == sig) (one sel) (run_pieces (wid sig) (ts sel sig) (map run_of rest)) ∙ ap (λ l. cond (x == sig) (run_pieces (wid sig) (ts sel sig) (map run_of l)) []) (sym next)),
    )

pub returns : goal.returns
returns c = record {
  adds = λ wid ds ts before word runs pieces.
      let i = c.loop-run.invariant wid ds ts before word runs pieces in let rs = c.args.runs.now in let sig = c.args.sig in
      let none : drop c.loop-run.run-index rs ≡ [] = drop_all c.loop-run.run-index rs (omega (arith, c.loop-run-test.false)) in
      with_none i.1 (λ sel x. ap (λ l. cond (x == sig) (run_pieces (wid sig) (ts sel sig) (map run_of l)) []) none ∙ both_none [] (x == sig) refl);
}
