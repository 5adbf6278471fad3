-- A search among sorted items finds those that are there.
use Rattle.std.proofs.Common.{◌≡◌, ◌∙◌, ◌↔◌, inl, inr, refl, sym, ap, arith, rules, ℕ, ◌+◌, ◌<◌, nat_lt, ◌==◌, true, false, cond, List, length, get_or, Contains, Result, Ok, Err, Ordering, Less, Equal, Greater}
use Rattle.std.specs.Cmp.{IsTotalOrder}
use Rattle.std.specs.Cmp.Rules.{comparing}
use Rattle.std.specs.List.Sorted.{IsSorted, IsSortedBy, IsBinarySearchResult, IsSearchInRange}
use Rattle.std.specs.Ordering.{is_lt, is_eq, ordering_then, nat_cmp}
use Rattle.std.specs.Result.{is_ok}
use Rattle.std.proofs.lemmas.Bool.{cases_lt}
use Rattle.std.proofs.lemmas.Bool.Decides.{nat_tests}
use Rattle.std.proofs.lemmas.Option.{slice_get-get_or}
use Rattle.std.proofs.lemmas.List.Sorted.{searchable_from_sorted}
use Rattle.cdc_base.specs.declared.bit.Bit.{Bit}
use Rattle.cdc_base.specs.contracts.bit.BitOrd.TheImpl as order
use Rattle.cell_graph.specs.Reading.{bit_eq}
use Rattle.cell_graph.proofs.Bits.{bit_eq-true, bit_eq-refl}
use Rattle.mux_recirc.specs.contracts.parts.PartOrd.TheImpl as part_order
use Rattle.mux_recirc.specs.declared.parts.Part.{Part}
use Rattle.mux_recirc.proofs.Orders.{part_total, same_part}
use Rattle.cofactor.specs.Order.{IsBefore, AreAscending}

total : IsTotalOrder order.ghosts.cmp
total = search (comparing, rules) depth 12

pub ties : (a b : Bit) → bit_eq a b ≡ is_eq (order.ghosts.cmp a b)
ties a b = search (comparing, rules)

pub below : (m n : ℕ) → m < n → nat_cmp m n ≡ Less
below m n l =
    let e : nat_lt m n ≡ true = grind (arith, nat_tests) in
    ap (λ v. cond v Less (cond (m == n) Equal Greater)) e

pub above : (m n : ℕ) → n < m → nat_cmp m n ≡ Greater
above m n l =
    let e : nat_lt m n ≡ false = grind (arith, nat_tests) in
    let f : (m == n) ≡ false = grind (arith, nat_tests) in
    ap (λ v. cond v Less (cond (m == n) Equal Greater)) e ∙ ap (λ v. cond v Equal Greater) f

pub equal_to : (m n : ℕ) → n ≡ m → nat_cmp m n ≡ Equal
equal_to m n e =
    let f : nat_lt m n ≡ false = grind (arith, nat_tests) in
    let g : (m == n) ≡ true = grind (arith, nat_tests) in
    ap (λ v. cond v Less (cond (m == n) Equal Greater)) f ∙ ap (λ v. cond v Equal Greater) g

pub not_less : (a b : Bit) → IsBefore a b → is_lt (order.ghosts.cmp b a) ≡ false
not_less a b (inl l) = ap (λ o. is_lt (ordering_then o (nat_cmp b.at a.at))) (above b.sig a.sig l)
not_less a b (inr e) = ap (λ o. is_lt (ordering_then o (nat_cmp b.at a.at))) (equal_to b.sig a.sig e.0) ∙ ap is_lt (above b.at a.at e.1)

pub same_not_less : (a b : Bit) → a.sig ≡ b.sig → a.at ≡ b.at → is_lt (order.ghosts.cmp b a) ≡ false
same_not_less a b e f = ap (λ o. is_lt (ordering_then o (nat_cmp b.at a.at))) (equal_to b.sig a.sig e) ∙ ap is_lt (equal_to b.at a.at f)

pub ascending_sorted : (bits : List Bit) → AreAscending bits → IsSortedBy (λ a b. is_lt (order.ghosts.cmp a b)) bits
ascending_sorted bits asc k d l m = not_less (get_or bits k d) (get_or bits (k + 1) d) (asc k (k + 1) (get_or bits k d) (get_or bits (k + 1) d) (omega arith)
    (slice_get-get_or bits k d (omega arith)) (slice_get-get_or bits (k + 1) d (omega arith)))

itself : (b : Bit) → is_eq (order.ghosts.cmp b b) ≡ true
itself b = sym (ties b b) ∙ bit_eq-refl b

pub other : {A : Type 0} → false ≡ true → A
other e = cc

module _ {A : Type 0} (cmp : A → A → Ordering) (order : IsTotalOrder cmp) (same : (a b : A) → is_eq (cmp a b) ≡ true → a ≡ b) (itself : (a : A) → is_eq (cmp a a) ≡ true) where
  -- the search ends at the item, or the item isn't there
  pub found : (xs : List A) (x : A) (r : Result ℕ ℕ) → IsSearchInRange r (length xs) → IsBinarySearchResult (λ y. cmp y x) xs r → IsSorted cmp xs → (is_ok r ≡ true) ↔ Contains xs x
  found xs x (Ok i) range h sorted = (λ e. (i, range, same (get_or xs i x) x (ap is_eq (h x))), λ c. refl)
  found xs x (Err i) range h sorted = (
    λ e. other e,
    λ c.
        let p = h (searchable_from_sorted order (λ (y : A). y) xs x sorted) in
        let is = ap (λ y. is_eq (cmp y x)) c.2 ∙ itself x in
        elim (cases_lt c.0 i) [
          | inl l ↦ other (sym (ap is_eq (p.0 c.0 x (omega arith) l)) ∙ is)
          | inr l ↦ other (sym (ap is_eq (p.1 c.0 x (omega arith) c.1)) ∙ is)
        ],
  )

-- ---- bits

pub same_bit : (a b : Bit) → is_eq (order.ghosts.cmp a b) ≡ true → a ≡ b
same_bit a b e = bit_eq-true a b (ties a b ∙ e)

pub found_bit : (bits : List Bit) (b : Bit) (r : Result ℕ ℕ) → IsSearchInRange r (length bits) → IsBinarySearchResult (λ y. order.ghosts.cmp y b) bits r → IsSorted order.ghosts.cmp bits
    → (is_ok r ≡ true) ↔ Contains bits b
found_bit = found order.ghosts.cmp total same_bit itself

-- ---- parts

part_itself : (p : Part) → is_eq (part_order.ghosts.cmp p p) ≡ true
part_itself p = search (comparing, rules)

pub found_part : (parts : List Part) (p : Part) (r : Result ℕ ℕ) → IsSearchInRange r (length parts) → IsBinarySearchResult (λ y. part_order.ghosts.cmp y p) parts r → IsSorted part_order.ghosts.cmp parts
    → (is_ok r ≡ true) ↔ Contains parts p
found_part = found part_order.ghosts.cmp part_total same_part part_itself
