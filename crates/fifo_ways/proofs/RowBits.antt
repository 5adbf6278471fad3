-- Words of ones, and sets of what a list has.
use Rattle.std.proofs.Common.{◌≡◌, ◌↔◌, ◌∙◌, sym, ap, arith, ℕ, ◌-◌, ◌^◌, ◌≤◌, ◌==◌, min, Bool, true, false, List}
use Rattle.std.specs.Prelude.{bit_and}
use Rattle.std.specs.Cmp.{IsEquivalence}
use Rattle.std.specs.List.{Contains, list_any}
use Rattle.std.proofs.lemmas.Map.Views.{list_any-from_Contains, Contains-from_any}
use Rattle.std.proofs.lemmas.Nat.{and_mask}
use Rattle.cell_graph.specs.Tree.{bit_at, all_below}
use Rattle.fifo_ways.specs.Rows.{bits_of}
use Rattle.cell_graph.proofs.Words.{number-bits, all-bits}

pub all-ones : (v k ones : ℕ) → k ≤ 64 → ones ≡ 2 ^ min k 64 - 1 → (bit_and v ones == ones) ≡ all_below (bit_at v) k
all-ones v k ones h e =
    ap (λ m. bit_and v m == m) (e ∙ ap (λ w. 2 ^ w - 1) (let m : min k 64 ≡ k = omega arith in m))
    ∙ ap (λ n. n == 2 ^ k - 1) (and_mask v k ∙ sym (number-bits v k)) ∙ sym (all-bits (bit_at v) k)

-- a test that finds what a list has
pub listed : {K : Type 0} {eq : K → K → Bool} → IsEquivalence eq → ((x y : K) → eq x y ≡ true → x ≡ y) → (q : K) (ks : List K) (b : Bool)
    → b ≡ list_any (eq q) ks → (b ≡ true) ↔ Contains ks q
listed laws exact q ks b e = ((λ h. Contains-from_any exact q ks (sym e ∙ h)), λ h. e ∙ list_any-from_Contains laws q ks h)

-- both words of a row
pub both-rows : (word : Bool → ℕ) (guarded free : ℕ) → guarded ≡ word true → free ≡ word false → (b : Bool)
    → bits_of b (record { guarded = guarded; free = free }) ≡ word b
both-rows word guarded free e f true = e
both-rows word guarded free e f false = f
