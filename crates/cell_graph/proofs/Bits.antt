-- Equality of bits is decided by `bit_eq`.
use Rattle.std.proofs.Common.{◌≡◌, ℕ, Bool, true, false, ◌==◌, ap₂, eqb-true, eq-eqb, ap, ◌⊎◌, inl, inr, ◌≢◌, refl, sym, ◌∙◌}
use Rattle.std.proofs.lemmas.Bool.{and_parts, and_from, both_ways}
use Rattle.cdc_base.specs.declared.bit.Bit.{Bit}
use Rattle.cell_graph.specs.Reading.{bit_eq}

pub bit_eq-true : (a b : Bit) → bit_eq a b ≡ true → a ≡ b
bit_eq-true a b h =
    let p = and_parts (a.sig == b.sig) (a.at == b.at) h in
    ap₂ (λ (x y : ℕ). record { sig = x; at = y }) (eqb-true a.sig b.sig p.0) (eqb-true a.at b.at p.1)

pub bit_eq-refl : (a : Bit) → bit_eq a a ≡ true
bit_eq-refl a = and_from (a.sig == a.sig) (a.at == a.at) (eq-eqb a.sig a.sig refl) (eq-eqb a.at a.at refl)

pub eq-bit_eq : (a b : Bit) → a ≡ b → bit_eq a b ≡ true
eq-bit_eq a b e = ap (bit_eq a) (sym e) ∙ bit_eq-refl a

pub bit_eq-false : (a b : Bit) → bit_eq a b ≡ false → a ≢ b
bit_eq-false a b h e = both_ways (bit_eq a b) h (eq-bit_eq a b e)

pub cases_bit : (a b : Bit) → (a ≡ b) ⊎ (a ≢ b)
cases_bit a b = go (bit_eq a b) refl
  where
    go : (t : Bool) → bit_eq a b ≡ t → (a ≡ b) ⊎ (a ≢ b)
    go true h = inl (bit_eq-true a b h)
    go false h = inr (bit_eq-false a b h)
