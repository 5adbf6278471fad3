-- The marks of walks as lists of words.
use Rattle.std.proofs.Common.{◌≡◌, ◌⊎◌, inl, inr, ap, ap₂, refl, arith, ℕ, zero, suc, ◌+◌, ◌==◌, Bool, true, false, cond, List, [], ◌∷◌, length, set, replicate, eqb-true, eq-eqb}
use Rattle.std.specs.Prelude.{slice_set, bit_or}
use Rattle.cell_graph.specs.Tree.{bit_at}
use Rattle.cell_graph.proofs.Words.{bit_or-bit}
use Rattle.cofactor.specs.declared.marks.Mark.{Mark}
use Rattle.cofactor.specs.Marks.{met_by, bits_met, AreEarlier, marked}

pub first-none : (n : ℕ) → bits_met 1 (replicate n (record { walk = 0; bits = 0 })) ≡ replicate n 0
first-none zero = refl
first-none (suc n) = ap (λ xs. 0 ∷ xs) (first-none n)

-- a walk of a greater number has met nothing
pub later-none : (walk : ℕ) (marks : List Mark) → AreEarlier walk marks → bits_met (walk + 1) marks ≡ replicate (length marks) 0
later-none walk [] h = refl
later-none walk (m ∷ ms) h = ap₂ (λ x xs. x ∷ xs) (first (m.walk == walk + 1) refl) (later-none walk ms (λ k n e. h (suc k) n e))
  where
    first : (b : Bool) → (m.walk == walk + 1) ≡ b → cond (m.walk == walk + 1) m.bits 0 ≡ 0
    first true e = let l = h 0 m refl in let s = eqb-true m.walk (walk + 1) e in absurd (omega arith)
    first false e = ap (λ b. cond b m.bits 0) e

pub bits_met-set : (walk bits : ℕ) (ms : List Mark) (place : ℕ) → bits_met walk (set ms place (record { walk = walk; bits = bits })) ≡ set (bits_met walk ms) place bits
bits_met-set walk bits [] place = refl
bits_met-set walk bits (m ∷ ms) zero = ap (λ b. cond b bits 0 ∷ bits_met walk ms) (eq-eqb walk walk refl)
bits_met-set walk bits (m ∷ ms) (suc place) = ap (λ xs. met_by walk m ∷ xs) (bits_met-set walk bits ms place)

-- what is marked after bits were marked was so before, or is one of them
pub marked-set : (words : List ℕ) (place bits : ℕ) (p i : ℕ) → bit_at (marked (slice_set words place (bit_or (marked words place) bits)) p) i ≡ true
    → (bit_at (marked words p) i ≡ true) ⊎ ((p ≡ place) × (bit_at bits i ≡ true))
marked-set [] place bits p i h = inl h
marked-set (w ∷ ws) zero bits zero i h = go (bit_at w i) refl
  where
    go : (b : Bool) → bit_at w i ≡ b → (bit_at w i ≡ true) ⊎ ((zero ≡ zero) × (bit_at bits i ≡ true))
    go true e = inl e
    go false e = let s = bit_or-bit w bits i in inr (refl, cc)
marked-set (w ∷ ws) zero bits (suc p) i h = inl h
marked-set (w ∷ ws) (suc place) bits zero i h = inl h
marked-set (w ∷ ws) (suc place) bits (suc p) i h = elim (marked-set ws place bits p i h) [ inl k ↦ inl k | inr k ↦ inr (ap (λ n. suc n) k.0, k.1) ]

-- nothing is marked where a walk begins
pub marked-none : (n p : ℕ) → marked (replicate n 0) p ≡ 0
marked-none zero p = refl
marked-none (suc n) zero = refl
marked-none (suc n) (suc p) = marked-none n p
