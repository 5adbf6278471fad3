-- By the search's own answer, over the entries of the synchronizers.
use Rattle.std.proofs.Common.{◌≡◌, ◌∙◌, rules, sym, ap, subst, Some, List, slice_get, Contains}
use Rattle.std.proofs.lemmas.List.Sorted.{answers_always}
use Rattle.cdc_model.specs.declared.scheme.Sync.{Sync as SyncEntry}
use Rattle.cdc_model.specs.Listed.{sync_entry}
use Rattle.cdc_model.specs.Ordered.{IsAscending}
use Rattle.cdc_model.proofs.Ascending.{in_map, from_map}
use Rattle.cdc_model.proofs.Keys.{there_cmp, there_key, there_order, found, sorted, mapped_ascending}
use Rattle.obligations.proofs.bare.is_first_flop.Goals as goal

pub returns : goal.returns
returns c = λ list same up.
    let syncs = c.args.syncs.now in
    let x = c.args.crossing.now.to in
    let of = λ (s : SyncEntry). slice_get s.flops 0 in
    let ascends : IsAscending (λ (s : SyncEntry). there_key (of s)) syncs = subst (IsAscending (λ (s : SyncEntry). there_key (of s))) (sym same) (mapped_ascending sync_entry (λ (s : SyncEntry). there_key (of s)) list up) in
    let at = found there_cmp there_order.total there_order.same of syncs (Some x) c.binary_search_by_key.result (sorted there_cmp there_key there_order of syncs ascends) c.binary_search_by_key.ensures.bound
    (c.binary_search_by_key.ensures.position of (answers_always _ _ _ (λ f a r g called. search rules))) in (
      λ e.
          let t = at.0 (sym c.is_ok.ensures.value ∙ e) in
          let s = from_map sync_entry list t.0 (subst (λ (ss : List SyncEntry). Contains ss t.0) same t.1) in
          let h : Some s.0.first ≡ Some x = ap of s.2 ∙ t.2 in (s.0, s.1, cc),
      λ s. c.is_ok.ensures.value ∙ at.1 (sync_entry s.0, subst (λ (ss : List SyncEntry). Contains ss (sync_entry s.0)) (sym same) (in_map sync_entry list s.0 s.1), ap Some s.2),
    )
