-- Rows that have no state bit beside known bits.
use Rattle.std.proofs.Common.{◌≡◌, ◌∙◌, sym, ap, subst, refl, arith, ℕ, ◌-◌, ◌^◌, ◌<◌, ◌≤◌, ◌==◌, Bool, true, false, not, Option, Some, is_some, eqb-true}
use Rattle.std.specs.Prelude.{bit_and}
use Rattle.cell_graph.specs.Tree.{bit_at}
use Rattle.cell_graph.proofs.Words.{bit-zero, bit-not, has-64}
use Rattle.cofactor.specs.declared.masks.Masks.{Masks}
use Rattle.cofactor.specs.declared.table.Row.{Row}
use Rattle.cofactor.specs.Masks.{is_one, masks_of}
use Rattle.cofactor.specs.Shown.{HasNoneBeside}
use Rattle.cofactor.proofs.Shown.{known-of, value-of}
use Rattle.cofactor.proofs.Walks.{and-whole}

pub ones-known : (m : Masks) (k : ℕ → Option Bool) (w i : ℕ) (v : Bool) → v ≡ true → m ≡ masks_of k w → i < w → k i ≡ Some v → bit_at m.value i ≡ true
ones-known m k w i v t e l is = (value-of m k w e).each i l ∙ ap is_one is ∙ t

pub zeros-known : (m : Masks) (k : ℕ → Option Bool) (w i : ℕ) (v : Bool) → v ≡ false → w ≤ 64 → m ≡ masks_of k w → i < w → k i ≡ Some v → bit_at (bit_and m.known (2 ^ 64 - 1 - m.value)) i ≡ true
zeros-known m k w i v f small e l is = and-whole m.known (2 ^ 64 - 1 - m.value) i ((known-of m k w e).each i l ∙ ap is_some is)
    (bit-not m.value i (has-64 (value-of m k w e) small) (omega arith) ∙ ap not ((value-of m k w e).each i l ∙ ap is_one is ∙ f))

pub none-beside : (r s i : ℕ) → bit_and r s ≡ 0 → bit_at r i ≡ true → bit_at s i ≡ false
none-beside r s i z set = go (bit_at s i) refl
  where
    go : (b : Bool) → bit_at s i ≡ b → bit_at s i ≡ false
    go false e = e
    go true e = let h = sym (and-whole r s i set e) ∙ ap (λ n. bit_at n i) z in let y = bit-zero i in absurd (cc)

pub zero-of : (n : ℕ) → not (n == 0) ≡ false → n ≡ 0
zero-of n h = go (n == 0) refl h
  where
    go : (b : Bool) → (n == 0) ≡ b → not b ≡ false → n ≡ 0
    go true e k = eqb-true n 0 e
    go false e k = absurd (cc)

pub beside-rows : (a b p q : Row) (v : Bool) → a ≡ p → b ≡ q → HasNoneBeside a b v → HasNoneBeside p q v
beside-rows a b p q v e f h = subst (λ r. HasNoneBeside p r v) f (subst (λ r. HasNoneBeside r b v) e h)
