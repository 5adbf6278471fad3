-- By what a stable sort keeps.
use Rattle.std.proofs.Common.{rules, ap, sym, subst, ◌≡◌, ◌∙◌, [], ◌∷◌}
use Rattle.std.proofs.lemmas.List.Sorted.{answers_always}
use Rattle.std.specs.Ordering.{nat_cmp}
use Rattle.std.specs.Result.{is_ok}
use Rattle.obligations.specs.Lots.{AreInLots}
use Rattle.obligations.specs.Words.{of_one_bit, entry_key}
use Rattle.handshake.proofs.Pairs.{when_ok}
use Rattle.cdc_model.proofs.Keys.{bit_before}
use Rattle.obligations.proofs.Sorts.{in_lots, last_before}
use Rattle.obligations.proofs.Entering.{of_one_bit_is}
use Rattle.obligations.proofs.words.by_bit.Goals as goal

pub returns : goal.returns
returns c =
    let copied : c.in_ok-sorted.sorted.items ≡ c.args.entries.now = search rules in
    subst (λ es. AreInLots of_one_bit entry_key es c.sort_by_key.new.self.items) copied
    (in_lots entry_key of_one_bit of_one_bit_is (λ e f. bit_before e.from f.from (nat_cmp e.group f.group) (e.group ∷ []) (f.group ∷ []) (last_before e.group f.group)) c.in_ok-sorted.sorted.items c.sort_by_key.new.self.items
    (when_ok c.sort_by_key.result (sym c.map_err-2.ensures.variant ∙ ap is_ok c.in_ok-map_err.was) c.sort_by_key.ensures.sorted (λ e. (e.from, e.group)) (answers_always _ _ _ (λ f a r g h. search rules)))
    (c.sort_by_key.ensures.stable (λ e. (e.from, e.group)) (answers_always _ _ _ (λ f a r g h. search rules))))
