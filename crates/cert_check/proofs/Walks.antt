-- Walks over crossings, as far as they are served.
use Rattle.std.proofs.Common.{◌≡◌, ◌∙◌, inl, inr, refl, sym, ap, subst, arith, ℕ, ◌+◌, ◌<◌, Bool, true, false, List, [], ◌∷◌, ◌++◌, length, length-append, append_assoc, map, drop, get_or}
use Rattle.std.specs.Prelude.{filter, if◌then◌else◌}
use Rattle.std.proofs.lemmas.List.{drop_more, append-nil}
use Rattle.std.proofs.lemmas.List.Elements.{Contains-append_cases}
use Rattle.cdc_base.specs.declared.bit.Bit.{Bit}
use Rattle.domains.specs.declared.Domains.{Domains}
use Rattle.domains.specs.Assignment.{group_of}
use Rattle.cdc_model.specs.declared.scheme.Crossing.{Crossing}
use Rattle.cdc_model.specs.Design.{differ}
use Rattle.cdc_model.specs.Found.{crossings_from}
use Rattle.cdc_model.proofs.Ascending.{parts, nothing_in}
use Rattle.cert_check.specs.declared.served.Passage.{Passage}
use Rattle.cert_check.specs.declared.served.Walked.TheVariants.{Bare, Served}
use Rattle.cert_check.specs.Served.{HasPassage, HavePassages, AreWalked, IsWalked}

module _ (served : List Passage) where
  both_have : (xs ys : List Crossing) → HavePassages served xs → HavePassages served ys → HavePassages served (xs ++ ys)
  both_have xs ys h k c i = elim (Contains-append_cases xs ys c i) [ inl j ↦ h c j | inr j ↦ k c j ]

  -- nothing is walked over yet
  pub none_yet : (all : List Crossing) → AreWalked served all all 0
  none_yet all = ([], refl, (λ k i. absurd (nothing_in k i)), refl)

  -- some crossings more, which are all served
  pub walked_more : (all some rest : List Crossing) (n m sum : ℕ) → AreWalked served all (some ++ rest) n → IsWalked served some (Served m) → sum ≡ n + m → AreWalked served all rest sum
  walked_more all some rest n m sum (done, e, have, l) (more, k) s = (
    done ++ some,
    e ∙ sym (append_assoc done some rest),
    both_have done some have more,
    (let f = length-append done some in omega arith),
  )

  -- one among the next crossings isn't
  pub bare_among : (all some rest : List Crossing) (n : ℕ) (k : Crossing) → AreWalked served all (some ++ rest) n → IsWalked served some (Bare k) → IsWalked served all (Bare k)
  bare_among all some rest n k (done, e, have, l) (before, after, f, h, bare) = (
    done ++ before,
    after ++ rest,
    e ∙ ap (λ xs. done ++ (xs ++ rest)) f ∙ ap (λ xs. done ++ xs) (append_assoc before (k ∷ after) rest) ∙ sym (append_assoc done before (k ∷ (after ++ rest))),
    both_have done before have h,
    bare,
  )

  -- all are walked over
  pub all_walked : (all rest : List Crossing) (n : ℕ) → rest ≡ [] → AreWalked served all rest n → IsWalked served all (Served n)
  all_walked all rest n none (done, e, have, l) =
      let same : all ≡ done = e ∙ ap (λ xs. done ++ xs) none ∙ append-nil done in (subst (HavePassages served) (sym same) have, l ∙ ap length (sym same))

  pub none_served : IsWalked served [] (Served 0)
  none_served = ((λ c i. absurd (nothing_in c i)), refl)

-- ---- one bit more

module _ (domains : Domains) (x : Bit) where
  abbrev crossing : Bit → Crossing
  crossing b = record { from = b; to = x }

  abbrev apart : List Bit → List Bit
  apart bits = filter (λ b. differ (group_of domains b) (group_of domains x)) bits

  -- the crossings from a bit, and from those behind it
  pub from_step : (bits : List Bit) (i : ℕ) (d : Bit) → i < length bits
      → crossings_from domains x (drop i bits) ≡ crossings_from domains x (get_or bits i d ∷ []) ++ crossings_from domains x (drop (i + 1) bits)
  from_step bits i d l = ap (crossings_from domains x) (drop_more bits i d l) ∙ go (differ (group_of domains (get_or bits i d)) (group_of domains x))
    where
      go : (v : Bool) → map crossing (if v then get_or bits i d ∷ apart (drop (i + 1) bits) else apart (drop (i + 1) bits))
          ≡ map crossing (if v then get_or bits i d ∷ [] else []) ++ map crossing (apart (drop (i + 1) bits))
      go true = refl
      go false = refl

  module _ (served : List Passage) (b : Bit) where
    abbrev only : Bool → List Crossing
    only v = map crossing (if v then b ∷ [] else [])

    -- no crossing
    pub walked_none : differ (group_of domains b) (group_of domains x) ≡ false → IsWalked served (crossings_from domains x (b ∷ [])) (Served 0)
    walked_none e = subst (λ v. IsWalked served (only v) (Served 0)) (sym e) (none_served served)

    -- one that is served, or isn't
    pub walked_one : differ (group_of domains b) (group_of domains x) ≡ true → HasPassage served (record { from = b; to = x }) → IsWalked served (crossings_from domains x (b ∷ [])) (Served 1)
    walked_one e h = subst (λ v. IsWalked served (only v) (Served 1)) (sym e)
        ((λ c i. elim (parts (record { from = b; to = x }) [] c i) [ inl f ↦ subst (HasPassage served) f h | inr j ↦ absurd (nothing_in c j) ]), refl)

    pub bare_one : differ (group_of domains b) (group_of domains x) ≡ true → (HasPassage served (record { from = b; to = x }) → ⊥)
        → IsWalked served (crossings_from domains x (b ∷ [])) (Bare (record { from = b; to = x }))
    bare_one e h = subst (λ v. IsWalked served (only v) (Bare (record { from = b; to = x }))) (sym e) ([], [], refl, (λ c i. absurd (nothing_in c i)), h)
