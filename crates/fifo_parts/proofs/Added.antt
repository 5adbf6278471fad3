-- One flag more at a key.
use Rattle.std.proofs.Common.{◌≡◌, ◌∙◌, sym, subst, refl, ◌↔◌, ◌⊎◌, inl, inr, Bool, true, false, cond, Option, Some, List, [], ◌∷◌, ◌++◌, Contains}
use Rattle.std.specs.declared.vec.Vec.{Vec}
use Rattle.std.proofs.lemmas.List.Elements.{Contains-append_cases, Contains-append_left, Contains-append_right, Contains-push_cases}
use Rattle.fifo_parts.specs.declared.flags.Flag.{Flag}
use Rattle.fifo_parts.specs.Comparisons.{IsAmong}

module _ {K Z : Type 0} (same : K → K → Bool) (exact : (a b : K) → same a b ≡ true → a ≡ b) (old new : K → Option (Vec Flag Z)) where
  -- nothing but the flag is new at the key, nor at another
  pub only_pushed : (k : K) (there more : Vec Flag Z) (f : Flag) → old k ≡ Some there → more.items ≡ there.items ++ f ∷ []
      → ((q : K) → new q ≡ cond (same k q) (Some more) (old q)) → (q : K) (h : Flag) → IsAmong (new q) h → IsAmong (old q) h ⊎ (h ≡ f)
  only_pushed k there more f had pushed has q h among = go (same k q) refl (subst (λ o. IsAmong o h) (has q) among)
    where
      go : (t : Bool) → same k q ≡ t → IsAmong (cond t (Some more) (old q)) h → IsAmong (old q) h ⊎ (h ≡ f)
      go true e i = elim (Contains-push_cases there.items f h (subst (λ (l : List Flag). Contains l h) pushed i)) [
        | inl j ↦ inl (subst (λ o. IsAmong o h) (sym had ∙ at_key) j)
        | inr p ↦ inr (sym p)
      ]
        where
          at_key : old k ≡ old q
          at_key = subst (λ x. old k ≡ old x) (exact k q e) refl
      go false e i = inl i

-- flags that were added, where there are any
pub joined : {Z : Type 0} (old new : List Flag) (o : Option (Vec Flag Z)) (v : Vec Flag Z) → o ≡ Some v → new ≡ old ++ v.items → (f : Flag)
    → Contains new f ↔ (Contains old f ⊎ IsAmong o f)
joined old new o v is e f = (
  λ h. elim (Contains-append_cases old v.items f (subst (λ (l : List Flag). Contains l f) e h)) [
    | inl j ↦ inl j
    | inr j ↦ inr (subst (λ p. IsAmong p f) (sym is) j)
  ],
  λ h. elim h [
    | inl j ↦ subst (λ (l : List Flag). Contains l f) (sym e) (Contains-append_left old v.items f j)
    | inr j ↦ subst (λ (l : List Flag). Contains l f) (sym e) (Contains-append_right old v.items f (subst (λ p. IsAmong p f) is j))
  ],
)
