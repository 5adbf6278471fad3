-- A search among sorted crossings finds those that are there.
use Rattle.std.proofs.Common.{◌≡◌, ◌∙◌, ◌↔◌, rules, ℕ, true, List, length, Contains, Result}
use Rattle.std.specs.Cmp.{IsTotalOrder}
use Rattle.std.specs.Cmp.Rules.{comparing}
use Rattle.std.specs.List.Sorted.{IsSorted, IsBinarySearchResult, IsSearchInRange}
use Rattle.std.specs.Ordering.{is_eq, eq_by_cmp}
use Rattle.std.specs.Result.{is_ok}
use Rattle.mux_recirc.proofs.Search.{found}
use Rattle.cert_check.specs.contracts.served.PassageOrd.TheImpl as order
use Rattle.cert_check.specs.contracts.served.PassageOrd.TheImpl.Laws.{total-law as passage_law}
use Rattle.cert_check.specs.contracts.served.PassagePartialEq.TheImpl as equality
use Rattle.cert_check.specs.declared.served.Passage.{Passage}

passages_total : IsTotalOrder order.ghosts.cmp
passages_total = passage_law

equal_passage : (a b : Passage) → equality.ghosts.eq a b ≡ true → a ≡ b
equal_passage a b h = search rules

ties : (a b : Passage) → equality.ghosts.eq a b ≡ eq_by_cmp order.ghosts.cmp a b
ties a b = search (comparing, rules)

same_passage : (a b : Passage) → is_eq (order.ghosts.cmp a b) ≡ true → a ≡ b
same_passage a b h = equal_passage a b (ties a b ∙ h)

itself : (p : Passage) → is_eq (order.ghosts.cmp p p) ≡ true
itself p = search (comparing, rules)

pub found_passage : (ps : List Passage) (p : Passage) (r : Result ℕ ℕ) → IsSearchInRange r (length ps) → IsBinarySearchResult (λ y. order.ghosts.cmp y p) ps r → IsSorted order.ghosts.cmp ps
    → (is_ok r ≡ true) ↔ Contains ps p
found_passage = found order.ghosts.cmp passages_total same_passage itself
