-- Pairs that stand for FIFOs of a list.
use Rattle.std.proofs.Common.{◌≡◌, ◌∙◌, ◌↔◌, sym, ap, subst, refl, inl, inr, arith, rules, ℕ, ◌+◌, ◌<◌, ◌≤◌, Bool, true, false, cond, Some, None, List, length, get_or, take, slice_get}
use Rattle.std.specs.Cmp.Rules.{comparing}
use Rattle.std.proofs.lemmas.Bool.{cases_lt}
use Rattle.std.proofs.lemmas.List.{take_all}
use Rattle.cdc_model.proofs.Ascending.{nothing_in}
use Rattle.cdc_model.proofs.Justify.{in_slice}
use Rattle.fifo_scheme.specs.contracts.found.FifoPairPartialEq.TheImpl as equality
use Rattle.fifo_scheme.specs.declared.found.Fifo.{Fifo as Entry}
use Rattle.fifo_scheme.specs.declared.found.FifoPair.{FifoPair}
use Rattle.fifo_scheme.specs.Candidates.{IsFirst, IsThere}
use Rattle.fifo_parts.proofs.Sifted.{so_far_cases, still_so_far, next_so_far}

same_pair : (a b : FifoPair) → equality.ghosts.eq a b ≡ true → a ≡ b
same_pair a b h = search rules

to_itself : (a : FifoPair) → equality.ghosts.eq a a ≡ true
to_itself a = search (comparing, rules)

abbrev pub pair_of : Entry → FifoPair
pair_of e = record { wb = e.wb; rb = e.rb }

pub there_none : (fifos : List Entry) (p : FifoPair) → IsThere (take 0 fifos) p → ⊥
there_none fifos p h = nothing_in h.0 h.1

-- the pair of one FIFO more is there
pub there_more : (fifos : List Entry) (i : ℕ) (d : Entry) (p : FifoPair) (old new : Bool) → i < length fifos → (old ≡ true) ↔ IsThere (take i fifos) p → new ≡ cond (equality.ghosts.eq (pair_of (get_or fifos i d)) p) true old
    → (new ≡ true) ↔ IsThere (take (i + 1) fifos) p
there_more fifos i d p old new l so_far step = go (equality.ghosts.eq (pair_of (get_or fifos i d)) p) refl step
  where
    never : {A : Type 0} → false ≡ true → A
    never h = cc

    go : (b : Bool) → equality.ghosts.eq (pair_of (get_or fifos i d)) p ≡ b → new ≡ cond b true old → (new ≡ true) ↔ IsThere (take (i + 1) fifos) p
    go true f s =
        let same = same_pair (pair_of (get_or fifos i d)) p f in
        (λ h. (get_or fifos i d, next_so_far fifos i d l, (ap (λ (q : FifoPair). q.wb) (sym same), ap (λ (q : FifoPair). q.rb) (sym same))), λ h. s)
    go false f s = (
      λ h. let (x, at, stands) = so_far.0 (sym s ∙ h) in (x, still_so_far fifos i d l x at, stands),
      λ h. elim (so_far_cases fifos i d l h.0 h.1) [
        | inl at ↦ s ∙ so_far.1 (h.0, at, h.2)
        | inr one ↦
            let first : (get_or fifos i d).wb ≡ p.wb = ap (λ (x : Entry). x.wb) one ∙ sym h.2.0 in
            let second : (get_or fifos i d).rb ≡ p.rb = ap (λ (x : Entry). x.rb) one ∙ sym h.2.1 in
            let both : pair_of (get_or fifos i d) ≡ p = λ k. record { wb = first k; rb = second k } in
            never (sym f ∙ ap (λ (q : FifoPair). equality.ghosts.eq (pair_of (get_or fifos i d)) q) (sym both) ∙ to_itself (pair_of (get_or fifos i d)))
      ],
    )

pub there_all : (fifos : List Entry) (i : ℕ) (p : FifoPair) (b : Bool) → length fifos ≤ i → (b ≡ true) ↔ IsThere (take i fifos) p → (b ≡ true) ↔ IsThere fifos p
there_all fifos i p b l h = subst (λ (es : List Entry). (b ≡ true) ↔ IsThere es p) (take_all i fifos l) h

-- ---- the first pair that stands for none

abbrev pub AreThereBelow : List Entry → List FifoPair → ℕ → Type 0
AreThereBelow fifos pairs n = (i : ℕ) (q : FifoPair) → i < n → slice_get pairs i ≡ Some q → IsThere fifos q

pub one_there : (fifos : List Entry) (pairs : List FifoPair) (n : ℕ) (p : FifoPair) → slice_get pairs n ≡ Some p → IsThere fifos p → AreThereBelow fifos pairs n → AreThereBelow fifos pairs (n + 1)
one_there fifos pairs n p at there so_far i q l e = elim (cases_lt i n) [
  | inl m ↦ so_far i q m e
  | inr m ↦
      let same : i ≡ n = omega arith in
      let both : Some q ≡ Some p = sym e ∙ ap (slice_get pairs) same ∙ at in
      let one : q ≡ p = cc in
      subst (IsThere fifos) (sym one) there
]

pub all_there : (fifos : List Entry) (pairs : List FifoPair) (n : ℕ) → length pairs ≤ n → AreThereBelow fifos pairs n → IsFirst fifos pairs None
all_there fifos pairs n l so_far p i = so_far i.0 p (let h = i.1 in omega arith) (in_slice pairs p i)
