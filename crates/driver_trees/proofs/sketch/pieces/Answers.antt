-- All pieces, sorted.
use Rattle.std.proofs.Common.{rules, ◌≡◌, ℕ, List, [], ◌++◌, map, sym, ap, subst}
use Rattle.std.specs.List.{AllByRecursion as Each}
use Rattle.std.specs.List.Sorted.{IsNonDecreasingBy}
use Rattle.std.proofs.lemmas.List.Sorted.{IsNonDecreasingBy-from_sort_by_key}
use Rattle.flat_form.specs.declared.flat.FlatComb.{FlatComb}
use Rattle.flat_form.specs.View.{flat_of, stmt_of}
use Rattle.flat_meaning.specs.Design.{size_in}
use Rattle.flat_meaning.specs.Sound.{IsSoundAssign, IsSoundComb}
use Rattle.flat_meaning.specs.Pieces.{assigned_pieces, all_comb_pieces}
use Rattle.flat_meaning.proofs.Placed.{each_of}
use Rattle.flat_meaning.proofs.Drivers.{driven, driven_in, driven_once}
use Rattle.driver_trees.specs.Sketched.{assign_of, IsAssignRead}
use Rattle.driver_trees.specs.Statements.{IsStmtRead}
use Rattle.driver_trees.proofs.Growing.{still-grows}
use Rattle.driver_trees.proofs.Readable.{assigns_read, combs_read}
use Rattle.driver_trees.proofs.Drafted.{no_pieces, pieces_as}
use Rattle.driver_trees.proofs.Sorted.{place_key, sorted_pieces, in_their_order}
use Rattle.driver_trees.proofs.sketch.pieces.Goals as goal

pub returns : goal.returns
returns c = record {
  exact = λ sized sound drafts idle.
      let F = c.args.flat.now in let f = flat_of F in let wid = size_in f in
      let assigns = subst (Each (IsAssignRead wid)) (sym c.as_slice.ensures) (assigns_read f F.assigns sized.assigns (each_of (IsSoundAssign f) f.assigns sound.assigned)) in
      let combs = subst (Each (λ (p : FlatComb). IsStmtRead wid p.body)) (sym c.as_slice-2.ensures) (combs_read f F.combs sized.combs (each_of (IsSoundComb f) f.combs sound.processed)) in
      let a = c.in_ok-add_assigns.ensures.adds wid (λ sel x. []) drafts idle assigns (no_pieces c.new-pieces.ensures.items) in
      let some = pieces_as (λ sel x. assigned_pieces wid sel x f.assigns) a.1 (λ sel x. ap (λ l. assigned_pieces wid sel x (map assign_of l)) c.as_slice.ensures) in
      let b = c.in_ok-add_combs.ensures.adds wid (λ sel x. assigned_pieces wid sel x f.assigns) a.0.drafts idle combs some in
      let all = pieces_as (λ sel x. driven f x sel) b.2 (λ sel x. ap (λ l. assigned_pieces wid sel x f.assigns ++ all_comb_pieces wid sel x (map (λ (p : FlatComb). stmt_of p.body) l)) c.as_slice-2.ensures) in
      let ps = c.add_combs.new.pieces.items in let qs = c.sort_unstable_by_key.new.self.items in
      let up : IsNonDecreasingBy place_key qs = IsNonDecreasingBy-from_sort_by_key place_key qs c.sort_unstable_by_key.ensures.sorted (λ a r q k. search rules) in
      let moved = c.sort_unstable_by_key.ensures.permutation in (
        still-grows wid c.args.drafts.now c.add_assigns.new.drafts c.add_combs.new.drafts a.0 b.0,
        b.1,
        sorted_pieces wid sound.sized c.add_combs.new.drafts ps qs (λ sel x. driven f x sel) all moved up (λ sel x. driven_in f x sel sound) (λ sel x i. driven_once f x sel sound i),
        in_their_order wid sound.sized c.add_combs.new.drafts ps qs (λ sel x. driven f x sel) all moved up (λ sel x. driven_in f x sel sound) (λ sel x i. driven_once f x sel sound i),
      );
}
