-- Crossings that are listed.
use Rattle.std.proofs.Common.{◌≡◌, ◌∙◌, ◌↔◌, ap, ap₂, refl, sym, subst, inl, inr, ◌⊎◌, Bool, true, false, ◌||◌, ◌&&◌, List, [], ◌∷◌, Contains}
use Rattle.std.specs.List.{list_any}
use Rattle.std.proofs.lemmas.Bool.{and_parts}
use Rattle.cdc_base.specs.declared.bit.Bit.{Bit}
use Rattle.cell_graph.specs.Reading.{bit_eq}
use Rattle.cell_graph.proofs.Bits.{bit_eq-true, bit_eq-refl}
use Rattle.cdc_model.specs.declared.scheme.Crossing.{Crossing}
use Rattle.cdc_model.proofs.Ascending.{here, later, nothing_in, parts}
use Rattle.fifo_laws.specs.Fifos.{is_crossing_between}
use Rattle.fifo_scheme.specs.Found.{is_listed}

one_of : (v w : Bool) → (v || w) ≡ true → (v ≡ true) ⊎ (w ≡ true)
one_of true w h = inl refl
one_of false w h = inr h

either_one : (v w : Bool) → v ≡ true → (v || w) ≡ true
either_one true w h = refl
either_one false w h = cc

either : (v w : Bool) → w ≡ true → (v || w) ≡ true
either true w h = refl
either false w h = h

module _ (b x : Bit) where
  abbrev pub between : Crossing
  between = record { from = b; to = x }

  is_between : (c : Crossing) → is_crossing_between b x c ≡ true → c ≡ between
  is_between c h =
      let e = and_parts (bit_eq c.from b) (bit_eq c.to x) h in
      ap₂ (λ (f t : Bit). let k : Crossing = record { from = f; to = t } in k) (bit_eq-true c.from b e.0) (bit_eq-true c.to x e.1)

  -- a list has the crossing where it is listed
  pub listed_tells : (cs : List Crossing) → (is_listed cs b x ≡ true) ↔ Contains cs between
  listed_tells [] = (λ h. cc, λ i. absurd (nothing_in between i))
  listed_tells (c ∷ cs) = (
    λ h. elim (one_of (is_crossing_between b x c) (is_listed cs b x) h) [
      | inl p ↦ subst (Contains (c ∷ cs)) (is_between c p) (here c cs)
      | inr p ↦ later c cs between ((listed_tells cs).0 p)
    ],
    λ i. elim (parts c cs between i) [
      | inl e ↦ ap (λ (k : Crossing). is_crossing_between b x k || is_listed cs b x) e
          ∙ ap₂ (λ u v. (u && v) || is_listed cs b x) (bit_eq-refl b) (bit_eq-refl x)
      | inr j ↦ either (is_crossing_between b x c) (is_listed cs b x) ((listed_tells cs).1 j)
    ],
  )

pub one_truth : (v w : Bool) (P : Type 0) → (v ≡ true) ↔ P → (w ≡ true) ↔ P → v ≡ w
one_truth true true P h k = refl
one_truth false false P h k = refl
one_truth true false P h k = sym (k.1 (h.0 refl))
one_truth false true P h k = h.1 (k.0 refl)

module _ {A : Type 0} (crossings_of : A → List Crossing) where
  -- some item has the crossing
  abbrev pub HasCrossing : List A → Crossing → Type 0
  HasCrossing xs c = (a : A) × Contains xs a × Contains (crossings_of a) c

  -- one of several lists has the crossing where it is listed in one
  pub one_tells : (xs : List A) (b x : Bit) → (list_any (λ a. is_listed (crossings_of a) b x) xs ≡ true) ↔ HasCrossing xs (between b x)
  one_tells [] b x = (λ h. cc, λ h. absurd (nothing_in h.0 h.1))
  one_tells (a ∷ rest) b x = (
    λ h. elim (one_of (is_listed (crossings_of a) b x) (list_any (λ c. is_listed (crossings_of c) b x) rest) h) [
      | inl k ↦ (a, here a rest, (listed_tells b x (crossings_of a)).0 k)
      | inr k ↦ (let r = (one_tells rest b x).0 k in (r.0, later a rest r.0 r.1, r.2))
    ],
    λ h. elim (parts a rest h.0 h.1) [
      | inl same ↦ either_one (is_listed (crossings_of a) b x) (list_any (λ c. is_listed (crossings_of c) b x) rest)
          ((listed_tells b x (crossings_of a)).1 (subst (λ (c : A). Contains (crossings_of c) (between b x)) (sym same) h.2))
      | inr k ↦ either (is_listed (crossings_of a) b x) (list_any (λ c. is_listed (crossings_of c) b x) rest) ((one_tells rest b x).1 (h.0, k, h.2))
    ],
  )
