-- The orders in which blindnesses, questions, parts and rings are sorted.
use Rattle.std.proofs.Common.{◌≡◌, ◌∙◌, refl, ap, rules, ℕ, ◌+◌, ◌≤◌, zero, suc, Bool, true, false, List, [], ◌∷◌, get_or, slice_get, Some, Contains, subst, Ordering, Less, Equal, Greater, arith}
use Rattle.std.specs.Cmp.{IsTotalOrder, IsEquivalence}
use Rattle.std.specs.Cmp.Rules.{comparing}
use Rattle.std.specs.Ordering.{is_lt, is_eq, ordering_then, eq_by_cmp}
use Rattle.std.specs.List.Sorted.{IsSorted, IsSortedByKey, IsStrictlySortedBy, IsNonDecreasingBy}
use Rattle.std.specs.List.{dedup}
use Rattle.std.specs.Prelude.{filter}
use Rattle.std.proofs.lemmas.List.Kept.{IsSortedBy-filter, IsStrictlySortedBy-dedup}
use Rattle.std.proofs.lemmas.List.Sorted.{sorted_far, ranks_by, IsNonDecreasingBy-from_sort}
use Rattle.std.proofs.lemmas.Option.{slice_get_within, get_or_from_slice_get}
use Rattle.cdc_base.specs.declared.bit.Bit.{Bit}
use Rattle.cdc_base.specs.contracts.bit.BitOrd.TheImpl as bit_order
use Rattle.cell_graph.specs.Reading.{bit_eq}
use Rattle.cdc_model.proofs.Justify.{in_slice}
use Rattle.mux_recirc.specs.contracts.blind.BlindOrd.TheImpl as blind_order
use Rattle.mux_recirc.specs.contracts.blind.BlindOrd.TheImpl.Laws.{total-law as blind_law}
use Rattle.mux_recirc.specs.contracts.guards.JointOrd.TheImpl as joint_order
use Rattle.mux_recirc.specs.contracts.guards.JointOrd.TheImpl.Laws.{total-law as joint_law}
use Rattle.mux_recirc.specs.contracts.guards.SidesOrd.TheImpl as sides_order
use Rattle.mux_recirc.specs.contracts.guards.SidesOrd.TheImpl.Laws.{total-law as sides_law}
use Rattle.mux_recirc.specs.contracts.guards.SidesPartialEq.TheImpl as sides_equality
use Rattle.mux_recirc.specs.contracts.parts.PartOrd.TheImpl as part_order
use Rattle.mux_recirc.specs.contracts.parts.PartOrd.TheImpl.Laws.{total-law as part_law}
use Rattle.mux_recirc.specs.contracts.parts.PartPartialEq.TheImpl as part_equality
use Rattle.mux_recirc.specs.contracts.questions.QuestionOrd.TheImpl as question_order
use Rattle.mux_recirc.specs.contracts.questions.QuestionOrd.TheImpl.Laws.{total-law as question_law}
use Rattle.mux_recirc.specs.declared.blind.Blind.{Blind}
use Rattle.mux_recirc.specs.declared.guards.Joint.{Joint}
use Rattle.mux_recirc.specs.declared.guards.Sides.{Sides}
use Rattle.mux_recirc.specs.declared.parts.Part.{Part}
use Rattle.mux_recirc.specs.declared.questions.Question.{Question}

-- ---- items of a sorted list

module _ {A : Type 0} (cmp : A → A → Ordering) (total : IsTotalOrder cmp) where
  -- no item comes before one that stands in front of it
  pub never_less : (xs : List A) → IsSorted cmp xs → (i j : ℕ) (x y : A) → i ≤ j → slice_get xs i ≡ Some x → slice_get xs j ≡ Some y → is_lt (cmp y x) ≡ false
  never_less xs sorted i j x y l e f =
      subst (λ z. is_lt (cmp z x) ≡ false) (get_or_from_slice_get xs j y x f)
      (subst (λ z. is_lt (cmp (get_or xs j x) z) ≡ false) (get_or_from_slice_get xs i x x e)
      (sorted_far (λ a b. is_lt (cmp a b)) (ranks_by total (λ (a : A). a)) xs sorted i j x l (slice_get_within xs j y f)))

  pub first_least : (xs : List A) → IsSorted cmp xs → (x y : A) → slice_get xs 0 ≡ Some x → Contains xs y → is_lt (cmp y x) ≡ false
  first_least xs sorted x y e i = never_less xs sorted 0 i.0 x y (omega arith) e (in_slice xs y i)

  pub kept_sorted : (p : A → Bool) (xs : List A) → IsSorted cmp xs → IsSorted cmp (filter p xs)
  kept_sorted p xs sorted = IsSortedBy-filter (λ a b. is_lt (cmp a b)) (ranks_by total (λ (a : A). a)) p xs sorted

pub first_less : (o p : Ordering) → is_lt (ordering_then o p) ≡ false → is_lt o ≡ false
first_less Less p h = h
first_less Equal p h = refl
first_less Greater p h = refl

-- ---- the orders

pub part_total : IsTotalOrder part_order.ghosts.cmp
part_total = part_law

pub question_total : IsTotalOrder question_order.ghosts.cmp
question_total = question_law

pub blind_total : IsTotalOrder blind_order.ghosts.cmp
blind_total = blind_law

pub joint_total : IsTotalOrder joint_order.ghosts.cmp
joint_total = joint_law

pub sides_total : IsTotalOrder sides_order.ghosts.cmp
sides_total = sides_law

equal_part : (a b : Part) → part_equality.ghosts.eq a b ≡ true → a ≡ b
equal_part a b h = search rules

part_ties : (a b : Part) → part_equality.ghosts.eq a b ≡ eq_by_cmp part_order.ghosts.cmp a b
part_ties a b = search (comparing, rules)

pub same_part : (a b : Part) → is_eq (part_order.ghosts.cmp a b) ≡ true → a ≡ b
same_part a b h = equal_part a b (part_ties a b ∙ h)

-- ---- sorted by what comes first

pub by_bit : (parts : List Part) → IsSorted part_order.ghosts.cmp parts → IsSortedByKey (λ (p : Part). p.bit) bit_order.ghosts.cmp parts
by_bit parts sorted k d l m = first_less _ _ (sorted k d l m)

pub by_ring : (questions : List Question) → IsSorted question_order.ghosts.cmp questions → IsNonDecreasingBy (λ (q : Question). q.ring) questions
by_ring questions sorted = IsNonDecreasingBy-from_sort (λ (q : Question). q.ring) questions (λ k d l m. first_less _ _ (sorted k d l m))

pub by_crossing : (blind : List Blind) → IsSorted blind_order.ghosts.cmp blind → IsNonDecreasingBy (λ (b : Blind). b.crossing) blind
by_crossing blind sorted = IsNonDecreasingBy-from_sort (λ (b : Blind). b.crossing) blind (λ k d l m. first_less _ _ (sorted k d l m))

pub by_sides : (joints : List Joint) → IsSorted joint_order.ghosts.cmp joints → IsSortedByKey (λ (j : Joint). j.sides) sides_order.ghosts.cmp joints
by_sides joints sorted k d l m = first_less _ _ (sorted k d l m)

-- ---- groups

equal_sides : (a b : Sides) → sides_equality.ghosts.eq a b ≡ true → a ≡ b
equal_sides a b h = search rules

sides_ties : (a b : Sides) → sides_equality.ghosts.eq a b ≡ eq_by_cmp sides_order.ghosts.cmp a b
sides_ties a b = search (comparing, rules)

pub same_sides : (a b : Sides) → eq_by_cmp sides_order.ghosts.cmp a b ≡ true → a ≡ b
same_sides a b h = equal_sides a b (sides_ties a b ∙ h)

-- ---- bits, each once

pub equal_bits : IsEquivalence bit_eq
equal_bits = search (comparing, rules) depth 12

pub bit_total : IsTotalOrder bit_order.ghosts.cmp
bit_total = search (comparing, rules) depth 12

-- the second doesn't come before the first
after : (x y : Bit) → bit_order.ghosts.cmp x y ≡ Less → is_lt (bit_order.ghosts.cmp y x) ≡ false
after x y h = (ranks_by bit_total (λ (b : Bit). b)).one_way x y (ap is_lt h)

ascend : (xs : List Bit) → IsStrictlySortedBy bit_order.ghosts.cmp xs → IsSorted bit_order.ghosts.cmp xs
unfolding IsStrictlySortedBy
ascend [] h k d l m = absurd (omega arith)
ascend (x ∷ []) h k d l m = absurd (omega arith)
ascend (x ∷ y ∷ ys) h zero d l m = after x y h.0.0
ascend (x ∷ y ∷ ys) h (suc k) d l m = subst (λ n. is_lt (bit_order.ghosts.cmp (get_or (x ∷ y ∷ ys) n d) (get_or (y ∷ ys) k d)) ≡ false) (let e : suc (k + 1) ≡ suc k + 1 = omega arith in e) (ascend (y ∷ ys) h.1 k d (omega arith) (omega arith))

-- a sorted list stays sorted without repeated bits
pub dedup_sorted : (bits : List Bit) → IsSorted bit_order.ghosts.cmp bits → IsSorted bit_order.ghosts.cmp (dedup bit_eq bits)
dedup_sorted bits sorted = ascend (dedup bit_eq bits) (IsStrictlySortedBy-dedup bit_total (λ a b. search (comparing, rules)) bits sorted)
