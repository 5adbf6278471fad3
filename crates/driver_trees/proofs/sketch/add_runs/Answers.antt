-- The word's runs are those of its bits.
use Rattle.std.proofs.Common.{◌≡◌, ℕ, ◌<◌, cond, ◌==◌, [], ◌++◌, OnOk, map, refl, sym, ap, subst, ◌∙◌, arith}
use Rattle.std.specs.List.{AllByRecursion as Each}
use Rattle.flat_meaning.specs.Pieces.{run_pieces, runs}
use Rattle.flat_meaning.proofs.Placed.{runs_in}
use Rattle.driver_trees.specs.Collected.{run_of, IsRunIn}
use Rattle.driver_trees.proofs.Growing.{ok-map}
use Rattle.driver_trees.proofs.Begun.{runs_are}
use Rattle.driver_trees.proofs.Drafted.{pieces_as}
use Rattle.driver_trees.proofs.sketch.add_runs.Goals as goal

pub returns : goal.returns
returns c = record {
  adds = λ wid ds ts set before most word bits within pieces.
      let n = wid c.args.sig in let rs = c.as_slice.result.now in
      let same : (m : ℕ) → m ≡ 64 → map run_of rs ≡ runs set n [] = λ m e. ap (map run_of) c.as_slice.ensures.value ∙ c.in_ok-runs.ensures m e ∙ runs_are c.args.bits n set most bits within m e in
      let are = same 64 refl in
      ok-map c.add_all_runs.result (λ u h. pieces_as (λ sel x. before sel x ++ cond (x == c.args.sig) (run_pieces n (ts sel c.args.sig) (runs set n [])) []) h
      (λ sel x. ap (λ l. before sel x ++ cond (x == c.args.sig) (run_pieces n (ts sel c.args.sig) l) []) are))
      (c.add_all_runs.ensures.adds wid ds ts before word (subst (Each (IsRunIn n)) (sym are) (runs_in n set n [] (omega arith) tt)) pieces);
}
