-- The covers of synchronizers and loads, sorted.
use Rattle.std.proofs.Common.{◌≡◌, ◌∙◌, ◌++◌, List, map, rules, sym, ap, subst}
use Rattle.std.specs.List.Sorted.{IsPermutation}
use Rattle.std.proofs.lemmas.List.Sorted.{answers_always}
use Rattle.cdc_model.specs.declared.scheme.Cover.{Cover}
use Rattle.cdc_model.specs.Ordered.{IsAll}
use Rattle.cdc_model.specs.Verdict.{IsCover, cover_key}
use Rattle.obligations.specs.Covers.{cover_by_load, cover_by_sync, covers_by}
use Rattle.obligations.specs.Given.{syncs_in}
use Rattle.obligations.proofs.AllCovers.{all_covers}
use Rattle.obligations.proofs.Given.{all_syncs, few, loads_apart}
use Rattle.cdc_model.proofs.Keys.{Ends}
use Rattle.obligations.proofs.covers.covers.Goals as goal

pub returns : goal.returns
returns c = record {
  exact = λ grays rings are.
      let found = c.args.found.now in
      let listed = found.grays.now in
      let syncs = syncs_in found in
      let loads = found.loads.now in
      let ends = λ (k : Cover). let e : Ends = (k.to, k.from) in e in
      let by_syncs : c.add_sync_covers.new.covers.items ≡ map (cover_by_sync listed) syncs =
      c.in_ok-add_sync_covers.ensures syncs are.all_syncs are.all_grays.ordered (few grays rings found are) ∙ ap (λ (xs : List Cover). xs ++ map (cover_by_sync listed) syncs) c.new-covers.ensures.items in
      let by_both : c.add_load_covers.new.covers.items ≡ covers_by listed syncs loads = c.in_ok-add_load_covers.ensures ∙ ap (λ (xs : List Cover). xs ++ map cover_by_load loads) by_syncs in
      let moved = subst (λ (xs : List Cover). IsPermutation xs c.sort_unstable_by_key.new.self.items) by_both c.sort_unstable_by_key.ensures.permutation in
      subst (IsAll (IsCover listed syncs loads) cover_key) (sym c.from_vec.ensures)
      (all_covers listed syncs loads (all_syncs grays rings found are).ordered are.all_loads.ordered (loads_apart grays rings found are) c.sort_unstable_by_key.new.self.items moved
      (c.sort_unstable_by_key.ensures.sorted ends (answers_always _ _ _ (λ f a r g called. search rules))));
}
