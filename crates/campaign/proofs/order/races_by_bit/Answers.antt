use Rattle.std.proofs.Common.{subst, map, List, rules, of_calls}
use Rattle.std.specs.Borrow.{Bor}
use Rattle.std.specs.List.Sorted.{IsPermutation}
use Rattle.std.proofs.lemmas.Fn.{always_returns_same}
use Rattle.std.proofs.lemmas.List.Sorted.{IsPermutation-map}
use Rattle.cdc_model.specs.declared.record.Race.{Race}
use Rattle.campaign.specs.Lines.{bit_order}
use Rattle.campaign.proofs.Ordered.{sorted-map}
use Rattle.campaign.proofs.order.races_by_bit.Goals as goal

pub returns-clause-same : goal.returns-clause-same
returns-clause-same c =
    subst (λ (rs : List Race). IsPermutation rs (map (λ (r : Bor Race). r.now) c.sort_unstable_by_key.new.self.items)) c.in_ok-ordered.ensures
    (IsPermutation-map (λ (r : Bor Race). r.now) _ _ c.sort_unstable_by_key.ensures.permutation)

pub returns-clause-sorted : goal.returns-clause-sorted
returns-clause-sorted c =
    sorted-map (λ (r : Bor Race). r.now) (λ (r : Race). r.bit) bit_order c.sort_unstable_by_key.new.self.items
    (c.sort_unstable_by_key.ensures.sorted (λ (r : Bor Race). r.now.bit) (always_returns_same _ _ _ (λ a r f k. search (rules, of_calls))))
