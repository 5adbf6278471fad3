-- Each signal's runs are pieces of its last tree.
use Rattle.std.proofs.Common.{◌≡◌, ℕ, ◌<◌, Bool, true, false, cond, ◌&&◌, ◌==◌, List, [], ◌∷◌, ◌++◌, Some, None, is_some, unwrap_or, slice_get, refl, sym, ap, ◌∙◌}
use Rattle.std.proofs.lemmas.Cmp.{nat_cmp_total}
use Rattle.std.proofs.lemmas.Map.Iter.{rest_more, rest_all, btree_map_turn}
use Rattle.std.specs.Ordering.{nat_cmp}
use Rattle.std.specs.Map.{lookup}
use Rattle.std.specs.Map.Iter.{deref_pair}
use Rattle.std.specs.BTreeMap.{get, is_at}
use Rattle.cell_graph.specs.declared.cell.CellId.{CellId}
use Rattle.cell_graph.specs.Tree.{bit_at}
use Rattle.flat_meaning.specs.Trees.{Selects}
use Rattle.flat_meaning.specs.Pieces.{Piece, run_pieces, runs}
use Rattle.driver_trees.specs.Presents.{present_of}
use Rattle.driver_trees.specs.Changes.{IsWordOf}
use Rattle.driver_trees.specs.Sketches.{pieces_in}
use Rattle.driver_trees.proofs.Drafted.{as_they_are, with_all, with_as, with_more, with_none, still_left, still_words, still_pieces, no_runs}
use Rattle.driver_trees.proofs.Begun.{targets_only, idle_again, all_ended}
use Rattle.driver_trees.proofs.sketch.add_wires.Goals as goal

pub loop-sig-init : goal.loop-sig-init
loop-sig-init c = λ wid ds target ts may before process keys bits within others pieces.
    let p = c.args.present.now in
    let r : Selects → ℕ → List Piece = λ sel x. run_pieces (wid x) (ts sel x) (runs (may x) (wid x) []) in (
      refl,
      process.trees,
      λ x s. ap (λ es. is_some (lookup (is_at (nat_cmp x)) es)) c.into_iter-sig-iterator.ensures.into_iter_gives.0 ∙ keys x ∙ sym (process.targets x) ∙ s,
      with_as (λ sel x. before sel x ++ r sel x) (with_all (λ sel x. cond (is_some (present_of p x)) (r sel x) []) pieces)
          (λ sel x. ap (λ ms. before sel x ++ ms) (targets_only (is_some (present_of p x)) (target x) (r sel x) (process.targets x) (λ e. no_runs (wid x) (ts sel x) (may x) (wid x) (λ i. others x i e)))),
    )

pub loop-sig-preserved : goal.loop-sig-preserved
loop-sig-preserved c = λ wid ds target ts may before process keys bits within others pieces.
    let i = c.loop-sig.invariant wid ds target ts may before process keys bits within others pieces in
    let k = c.in-Some.sig.now in let v = c.in-Some.bits.now in let p = c.loop-sig.present in let q = c.add_wire.new.present in
    let gives = c.into_iter-sig-iterator.ensures.into_iter_gives in
    let turn = btree_map_turn (deref_pair {K = ℕ} {X = ℕ}) c.loop-sig.yielded c.into_iter-sig-iterator.result c.loop-sig.sig-iterator c.next.new.self c.next.result (c.in-Some.sig, c.in-Some.bits)
    c.loop-sig.yielded_by c.in-Some.is c.next.ensures.steps nat_cmp_total c.args.assigned.now gives.0 gives.5 in
    let first = rest_more (deref_pair {K = ℕ} {X = ℕ}) c.loop-sig.sig-iterator c.next.new.self c.next.result (c.in-Some.sig, c.in-Some.bits) c.in-Some.is c.next.ensures.steps in
    let ends = c.add_wire.ensures.trees in
    let r : Selects → ℕ → List Piece = λ sel x. run_pieces (wid x) (ts sel x) (runs (may x) (wid x) []) in
    let mine : (j : ℕ) → j < 64 → bit_at v j ≡ may k j = λ j l. sym (ap (λ o. bit_at (unwrap_or o 0) j) turn.1) ∙ bits k j l in (
      c.add_wire.ensures.widths ∙ i.0,
      still_words k v c.loop-sig.sig-iterator c.next.new.self first (present_of p) (present_of q) ends {P = λ x id. IsWordOf wid ds id x ts} i.1,
      still_left k v c.loop-sig.sig-iterator c.next.new.self first (present_of p) (present_of q) ends i.2,
      with_more ds c.add_wire.new.pieces.items (λ sel x. cond (is_some (present_of p k) && (x == k)) (r sel k) []) (λ sel x. cond (is_some (present_of q x)) (r sel x) []) i.3
          (c.in_ok-add_wire.ensures.adds wid ds ts (may k) (λ sel x. pieces_in sel ds c.loop-sig.pieces.items x) (process.words k) (i.1 k) mine (within k) (as_they_are i.3.stand))
          (λ sel x. still_pieces k v c.loop-sig.sig-iterator c.next.new.self first (present_of p) (present_of q) ends (r sel) x),
    )

pub returns : goal.returns
returns c = record {
  adds = λ wid ds target ts may before process keys bits within others pieces.
      let i = c.loop-sig.invariant wid ds target ts may before process keys bits within others pieces in let p = c.loop-sig.present in
      let all = rest_all (deref_pair {K = ℕ} {X = ℕ}) c.loop-sig.sig-iterator c.next.new.self c.next.result c.in-None.is c.next.ensures.steps in
      let none = all_ended c.loop-sig.sig-iterator p all i.2 in (
        idle_again wid p process.words (λ x. ap (λ ws. unwrap_or (slice_get ws x) 0) i.0 ∙ process.widths x) none,
        with_none i.3 (λ sel x. ap (λ o. cond (is_some o) (run_pieces (wid x) (ts sel x) (runs (may x) (wid x) [])) []) (none x)),
      );
}
