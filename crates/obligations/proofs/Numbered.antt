-- The findings with a number among those of uncovered crossings.
use Rattle.std.proofs.Common.{◌≡◌, ◌∙◌, sym, ap, ℕ, ◌+◌, ◌<◌, ◌==◌, Bool, true, false, cond, List, [], ◌∷◌, ◌++◌, map, drop, length, get_or, append_assoc, eq-eqb, ne_eqb}
use Rattle.std.specs.Prelude.{filter}
use Rattle.std.proofs.lemmas.List.{drop_more, map-append}
use Rattle.cdc_model.specs.declared.verdict.Finding.{Finding as FindingEntry}
use Rattle.cdc_model.specs.Verdict.{Finding}
use Rattle.obligations.specs.declared.bare.Uncovered.{Uncovered}
use Rattle.obligations.specs.Bare.{finding_at}
use Rattle.obligations.specs.Findings.{finding_of, number_of}

abbrev pub with_number : ℕ → List Finding → List Finding
with_number number fs = filter (λ f. number_of f == number) fs

-- those with the number are the ones that were added and the ones of the crossings to come
abbrev pub HasAdded : ℕ → List Uncovered → List FindingEntry → List FindingEntry → ℕ → Type 0
HasAdded number us old new i = (more : List FindingEntry) × (new ≡ old ++ more) × (with_number number (map finding_at us) ≡ map finding_of more ++ with_number number (map finding_at (drop i us)))

module _ (number : ℕ) (us : List Uncovered) (old now : List FindingEntry) (i : ℕ) (d : Uncovered) (l : i < length us) (has : HasAdded number us old now i) where
  to_come : (v : Bool) → (number_of (finding_at (get_or us i d)) == number) ≡ v
      → with_number number (map finding_at (drop i us)) ≡ cond v (finding_at (get_or us i d) ∷ with_number number (map finding_at (drop (i + 1) us))) (with_number number (map finding_at (drop (i + 1) us)))
  to_come v e = ap (λ xs. with_number number (map finding_at xs)) (drop_more us i d l)
      ∙ ap (λ (w : Bool). cond w (finding_at (get_or us i d) ∷ with_number number (map finding_at (drop (i + 1) us))) (with_number number (map finding_at (drop (i + 1) us)))) e

  pub one_added : (new : List FindingEntry) (e : FindingEntry) → number_of (finding_at (get_or us i d)) ≡ number → finding_of e ≡ finding_at (get_or us i d) → new ≡ now ++ e ∷ [] → HasAdded number us old new (i + 1)
  one_added new e is same pushed =
      let f = finding_at (get_or us i d) in
      let rest = with_number number (map finding_at (drop (i + 1) us)) in
      let more = has.0 in
      let mapped : map finding_of (more ++ e ∷ []) ≡ map finding_of more ++ f ∷ [] = map-append finding_of more (e ∷ []) ∙ ap (λ (g : Finding). map finding_of more ++ g ∷ []) same in (
        more ++ e ∷ [],
        pushed ∙ ap (λ xs. xs ++ e ∷ []) has.1 ∙ append_assoc old more (e ∷ []),
        has.2 ∙ ap (λ ys. map finding_of more ++ ys) (to_come true (eq-eqb (number_of f) number is)) ∙ sym (append_assoc (map finding_of more) (f ∷ []) rest) ∙ ap (λ xs. xs ++ rest) (sym mapped),
      )

  pub none_added : (new : List FindingEntry) → (number_of (finding_at (get_or us i d)) ≡ number → ⊥) → new ≡ now → HasAdded number us old new (i + 1)
  none_added new is same = (
    has.0,
    same ∙ has.1,
    has.2 ∙ ap (λ ys. map finding_of has.0 ++ ys) (to_come false (ne_eqb (number_of (finding_at (get_or us i d))) number is)),
  )
