-- What a search among registers finds, and bits above a word.
use Rattle.std.proofs.Common.{◌≡◌, ◌≢◌, ℕ, zero, suc, ◌+◌, ◌-◌, ◌++◌, ◌^◌, ◌%◌, ◌==◌, ◌<◌, ◌≤◌, false, length, get_or, Some, None, Ok, Err, List, [], ◌∷◌, refl, sym, ap, ◌∙◌, arith, inl, inr}
use Rattle.std.specs.List.Sorted.{IsBinarySearchResult, IsNonDecreasingBy}
use Rattle.std.specs.Ordering.{nat_cmp, ordering_index}
use Rattle.std.proofs.lemmas.Bool.{cases_lt}
use Rattle.std.proofs.lemmas.Bool.Decides.{nat_tests}
use Rattle.std.proofs.lemmas.Cmp.{ranked}
use Rattle.std.proofs.lemmas.List.{append_assoc}
use Rattle.std.proofs.lemmas.List.Sorted.{IsNonDecreasingBy-from_default}
use Rattle.std.proofs.lemmas.Option.{slice_get-get_or}
use Rattle.std.proofs.Math.Nat.{div-eq_of_lt}
use Rattle.std.proofs.Math.Pow.{pow_mono}
use Rattle.cdc_base.specs.declared.bit.Bit.{Bit}
use Rattle.cell_graph.specs.declared.net.Reg.{Reg}
use Rattle.cell_graph.specs.Tree.{bit_at}
use Rattle.cdc_model.specs.Design.{bits_from}
use Rattle.cdc_model.specs.Nets.{next_cell, AreAscending}

-- ---- words

pub no_bit_above : (word at : ℕ) → word < 2 ^ 64 → 64 ≤ at → bit_at word at ≡ false
no_bit_above word at fits l = ap (λ q. q % 2 == 1) (let m = pow_mono l in div-eq_of_lt (let lt : word < 2 ^ at = omega arith in lt))

-- ---- registers

abbrev no_reg : Reg
no_reg = record { sig = 0; next = record { 0 = 0 }; clock = record { 0 = 0 } }

abbrev sig_at : List Reg → ℕ → ℕ
sig_at regs i = (get_or regs i no_reg).sig

tail_ascends : (r : Reg) (rs : List Reg) → AreAscending (r ∷ rs) → AreAscending rs
tail_ascends r rs h i j q s l e f = h (suc i) (suc j) q s (omega arith) e f

rise : (regs : List Reg) → AreAscending regs → (i j : ℕ) → i < j → j < length regs → sig_at regs i < sig_at regs j
rise regs h i j l in_range = h i j (get_or regs i no_reg) (get_or regs j no_reg) l (slice_get-get_or regs i no_reg (omega arith)) (slice_get-get_or regs j no_reg in_range)

-- the register at the place is the first of its signal
found_at : (regs : List Reg) → AreAscending regs → (k i : ℕ) → i < length regs → sig_at regs i ≡ k → next_cell regs k ≡ Some (get_or regs i no_reg).next
found_at [] h k i l e = absurd (omega arith)
found_at (r ∷ rs) h k zero l e = grind (arith, nat_tests, e)
found_at (r ∷ rs) h k (suc i) l e = grind (arith, nat_tests, rise (r ∷ rs) h 0 (suc i) (omega arith) l, e, found_at rs (tail_ascends r rs h) k i (omega arith) e)

found_nowhere : (regs : List Reg) (k : ℕ) → ((i : ℕ) → i < length regs → sig_at regs i ≢ k) → next_cell regs k ≡ None
found_nowhere [] k h = refl
found_nowhere (r ∷ rs) k h = grind (arith, nat_tests, h 0 (omega arith), found_nowhere rs k (λ i l. h (suc i) (omega arith)))

module _ (regs : List Reg) (h : AreAscending regs) (k : ℕ) where
  comparisons_rise : IsNonDecreasingBy (λ r. ordering_index (nat_cmp r.sig k)) regs
  comparisons_rise = IsNonDecreasingBy-from_default (λ r. ordering_index (nat_cmp r.sig k)) regs no_reg (λ i j le in_range.
      let keys_rise : sig_at regs i ≤ sig_at regs j = grind (arith, rise regs h i j, λ (same : i ≡ j). ap (sig_at regs) same) in
      grind (arith, nat_tests))

  pub found : (i : ℕ) → i < length regs → IsBinarySearchResult (λ r. nat_cmp r.sig k) regs (Ok i) → next_cell regs k ≡ Some (get_or regs i no_reg).next
  found i in_range equal = found_at regs h k i in_range (ranked _ k _ (sym (equal no_reg)))

  pub absent : (i : ℕ) → IsBinarySearchResult (λ r. nat_cmp r.sig k) regs (Err i) → next_cell regs k ≡ None
  absent i parted = found_nowhere regs k (λ j in_range e. elim (cases_lt j i) [
    | inl l ↦ (let s = ranked _ k _ (sym ((parted comparisons_rise).0 j no_reg (omega arith) l)) in omega (arith, s, e))
    | inr l ↦ (let s = ranked _ k _ (sym ((parted comparisons_rise).1 j no_reg l in_range)) in omega (arith, s, e))
  ])

-- ---- bits of a signal

-- one more bit of a signal at the end is one less to come
pub one_bit_more : (sig at end : ℕ) (xs : List Bit) → at < end → (xs ++ record { sig = sig; at = at } ∷ []) ++ bits_from sig (at + 1) (end - (at + 1)) ≡ xs ++ bits_from sig at (end - at)
one_bit_more sig at end xs l = append_assoc xs (record { sig = sig; at = at } ∷ []) (bits_from sig (at + 1) (end - (at + 1)))
    ∙ ap (λ ys. xs ++ ys) (first ∙ ap (bits_from sig at) (let e : suc (end - (at + 1)) ≡ end - at = omega arith in e))
  where
    first : record { sig = sig; at = at } ∷ bits_from sig (at + 1) (end - (at + 1)) ≡ bits_from sig at (suc (end - (at + 1)))
    first = ap (λ k. record { sig = sig; at = at } ∷ bits_from sig k (end - (at + 1))) (let e : at + 1 ≡ suc at = omega arith in e)
