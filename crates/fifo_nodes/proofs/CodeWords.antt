-- Bits of Gray words of a tree's own bits.
use Rattle.std.proofs.Common.{◌≡◌, ◌↔◌, ap, refl, subst, arith, ℕ, zero, suc, ◌+◌, ◌<◌, Some, ◌∷◌}
use Rattle.cell_graph.specs.Origin.{TreeBit}
use Rattle.cell_graph.specs.Tree.{Tree, Add, Mux}
use Rattle.cdc_model.specs.Word.{cells, origins, IsXorOf, IsTopOf}
use Rattle.fifo_terms.specs.Codes.{FitsGray}

module _ (t : Tree) (x : TreeBit) where
  pair_to : (w i k : ℕ) → suc i < w → FitsGray (cells t k w) i x → IsXorOf x (Some (t, k + i)) (Some (t, suc (k + i)))
  pair_to zero i k l h = absurd (omega arith)
  pair_to (suc zero) i k l h = absurd (omega arith)
  pair_to (suc (suc w)) zero k l h = subst (λ (j : ℕ). IsXorOf x (Some (t, j)) (Some (t, suc j))) (let e : k ≡ k + 0 = omega arith in e) h
  pair_to (suc (suc w)) (suc i) k l h = subst (λ (j : ℕ). IsXorOf x (Some (t, j)) (Some (t, suc j))) (let e : suc k + i ≡ k + suc i = omega arith in e) (pair_to (suc w) i (suc k) (omega arith) h)

  pair_from : (w i k : ℕ) → suc i < w → IsXorOf x (Some (t, k + i)) (Some (t, suc (k + i))) → FitsGray (cells t k w) i x
  pair_from zero i k l h = absurd (omega arith)
  pair_from (suc zero) i k l h = absurd (omega arith)
  pair_from (suc (suc w)) zero k l h = subst (λ (j : ℕ). IsXorOf x (Some (t, j)) (Some (t, suc j))) (let e : k + 0 ≡ k = omega arith in e) h
  pair_from (suc (suc w)) (suc i) k l h = pair_from (suc w) i (suc k) (omega arith) (subst (λ (j : ℕ). IsXorOf x (Some (t, j)) (Some (t, suc j))) (let e : k + suc i ≡ suc k + i = omega arith in e) h)

  top_to : (w i k : ℕ) → suc i ≡ w → FitsGray (cells t k w) i x → IsTopOf x (Some (t, k + i))
  top_to zero i k l h = absurd (omega arith)
  top_to (suc zero) zero k l h = subst (λ (j : ℕ). IsTopOf x (Some (t, j))) (let e : k ≡ k + 0 = omega arith in e) h
  top_to (suc zero) (suc i) k l h = absurd (omega arith)
  top_to (suc (suc w)) zero k l h = absurd (omega arith)
  top_to (suc (suc w)) (suc i) k l h = subst (λ (j : ℕ). IsTopOf x (Some (t, j))) (let e : suc k + i ≡ k + suc i = omega arith in e) (top_to (suc w) i (suc k) (omega arith) h)

  top_from : (w i k : ℕ) → suc i ≡ w → IsTopOf x (Some (t, k + i)) → FitsGray (cells t k w) i x
  top_from zero i k l h = absurd (omega arith)
  top_from (suc zero) zero k l h = subst (λ (j : ℕ). IsTopOf x (Some (t, j))) (let e : k + 0 ≡ k = omega arith in e) h
  top_from (suc zero) (suc i) k l h = absurd (omega arith)
  top_from (suc (suc w)) zero k l h = absurd (omega arith)
  top_from (suc (suc w)) (suc i) k l h = top_from (suc w) i (suc k) (omega arith) (subst (λ (j : ℕ). IsTopOf x (Some (t, j))) (let e : k + suc i ≡ suc k + i = omega arith in e) h)

  -- bit i of a Gray word of the tree's w bits
  pub fits_pair : (w i : ℕ) → suc i < w → FitsGray (cells t 0 w) i x ↔ IsXorOf x (Some (t, i)) (Some (t, suc i))
  fits_pair w i l = (
    λ h. subst (λ (j : ℕ). IsXorOf x (Some (t, j)) (Some (t, suc j))) (let e : 0 + i ≡ i = omega arith in e) (pair_to w i 0 l h),
    λ h. pair_from w i 0 l (subst (λ (j : ℕ). IsXorOf x (Some (t, j)) (Some (t, suc j))) (let e : i ≡ 0 + i = omega arith in e) h),
  )

  pub fits_top : (w i : ℕ) → suc i ≡ w → FitsGray (cells t 0 w) i x ↔ IsTopOf x (Some (t, i))
  fits_top w i l = (
    λ h. subst (λ (j : ℕ). IsTopOf x (Some (t, j))) (let e : 0 + i ≡ i = omega arith in e) (top_to w i 0 l h),
    λ h. top_from w i 0 l (subst (λ (j : ℕ). IsTopOf x (Some (t, j))) (let e : i ≡ 0 + i = omega arith in e) h),
  )

  fits_within_from : (w i k : ℕ) → FitsGray (cells t k w) i x → i < w
  fits_within_from zero i k h = absurd h
  fits_within_from (suc zero) zero k h = omega arith
  fits_within_from (suc zero) (suc i) k h = absurd h
  fits_within_from (suc (suc w)) zero k h = omega arith
  fits_within_from (suc (suc w)) (suc i) k h = let l = fits_within_from (suc w) i (suc k) h in omega arith

  pub fits_within : (w i : ℕ) → FitsGray (cells t 0 w) i x → i < w
  fits_within w i h = fits_within_from w i 0 h

-- the origins of a sum's and of a choice's bits are these bits
sum_from : (a b : Tree) (i w : ℕ) → origins (Add a b) i w ≡ cells (Add a b) i w
sum_from a b i zero = refl
sum_from a b i (suc w) = ap (λ ns. Some (Add a b, i) ∷ ns) (sum_from a b (suc i) w)

choice_from : (c a b : Tree) (i w : ℕ) → origins (Mux c a b) i w ≡ cells (Mux c a b) i w
choice_from c a b i zero = refl
choice_from c a b i (suc w) = ap (λ ns. Some (Mux c a b, i) ∷ ns) (choice_from c a b (suc i) w)

pub sum_itself : (a b : Tree) (w : ℕ) → origins (Add a b) 0 w ≡ cells (Add a b) 0 w
sum_itself a b w = sum_from a b 0 w

pub choice_itself : (c a b : Tree) (w : ℕ) → origins (Mux c a b) 0 w ≡ cells (Mux c a b) 0 w
choice_itself c a b w = choice_from c a b 0 w
