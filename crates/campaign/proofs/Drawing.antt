-- The clocks that a word marks.
use Rattle.std.proofs.Common.{◌≡◌, ◌∙◌, ◌≤◌, ◌^◌, ◌%◌, ◌==◌, ℕ, Bool, true, false, cond, List, refl, sym, ap, ap₂, length, eqb-true, Ok, Err}
use Rattle.std.specs.Prelude.{Result, IfOk}
use Rattle.cell_graph.specs.Tree.{bit_at}
use Rattle.domains.specs.declared.Domains.{Domains}
use Rattle.campaign.specs.Draws.{word}
use Rattle.campaign.specs.Numbers.{numbers_from}
use Rattle.campaign.specs.Edges.{edges_of, or_first, is_full}

not-full : (n : ℕ) → (n % 4 ≡ 0 → ⊥) → is_full n ≡ false
not-full n h = go (n % 4 == 0) refl
  where
    go : (t : Bool) → (n % 4 == 0) ≡ t → (n % 4 == 0) ≡ false
    go true e = absurd (h (eqb-true (n % 4) 0 e))
    go false e = e

-- in a step that isn't a fourth one, the clocks are those marked, or the first
pub drawn-edges : {E : Type 0} (domains : Domains) (n w count : ℕ) (rng found : List ℕ) (r : Result (List ℕ) E) → (n % 4 ≡ 0 → ⊥) → w ≡ word rng → count ≡ length domains.clocks
    → (count ≤ 2 ^ 32 → found ≡ numbers_from (λ c. bit_at w (c % 64)) 0 count) → IfOk r (λ all. all ≡ or_first found)
    → IfOk r (λ all. length domains.clocks ≤ 2 ^ 32 → all ≡ edges_of domains n rng)
drawn-edges domains n w count rng found (Ok all) h is are marked first = λ small.
    first ∙ ap or_first (marked (let e : count ≤ 2 ^ 32 = rw are small in e) ∙ ap₂ (λ (v k : ℕ). numbers_from (λ c. bit_at v (c % 64)) 0 k) is are)
    ∙ sym (ap (λ t. cond t (numbers_from (λ c. true) 0 (length domains.clocks)) (or_first (numbers_from (λ c. bit_at (word rng) (c % 64)) 0 (length domains.clocks)))) (not-full n h))
drawn-edges domains n w count rng found (Err e) h is are marked first = first
