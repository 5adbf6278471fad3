-- The bits that a walk was asked for.
use Rattle.std.proofs.Common.{◌≡◌, ◌∙◌, ◌⊎◌, inl, inr, sym, ap, subst, refl, ℕ, zero, suc, ◌-◌, ◌^◌, ◌<◌, Bool, true, false, not, List, [], ◌∷◌, ◌++◌, Some, slice_get}
use Rattle.std.specs.Prelude.{slice_set, bit_and, bit_or}
use Rattle.std.specs.List.{Contains}
use Rattle.std.proofs.lemmas.List.Elements.{Contains-push, Contains-push_cases}
use Rattle.std.proofs.lemmas.Option.{slice_get_within, get_or_from_slice_get, slice_get-get_or}
use Rattle.cell_graph.specs.declared.cell.CellId.{CellId}
use Rattle.cell_graph.specs.Tree.{bit_at}
use Rattle.cell_graph.proofs.Words.{bit-within, bit-zero, bit-not}
use Rattle.cofactor.specs.declared.walk.Wanted.{Wanted}
use Rattle.cofactor.specs.Marks.{marked}
use Rattle.cofactor.specs.Shown.{Shown}
use Rattle.cofactor.specs.Walked.{IsMet, IsAsked, AreListed, IsWithin, KeepEntries}
use Rattle.cofactor.proofs.MarkLists.{marked-set}
use Rattle.cofactor.proofs.Walks.{and-parts, and-whole}

-- one part of what is so in turn
pub in-turn : {O M P Q R : Type 0} → (P → R) → (Q → R) → (M → O ⊎ P) → M ⊎ Q → O ⊎ R
in-turn p q f (inl m) = elim (f m) [ inl o ↦ inl o | inr h ↦ inr (p h) ]
in-turn p q f (inr h) = inr (q h)

pub of-either : (P : CellId → Type 0) (a b x : CellId) → P a → P b → (x ≡ a) ⊎ (x ≡ b) → P x
of-either P a b x p q (inl e) = subst P (sym e) p
of-either P a b x p q (inr e) = subst P (sym e) q

get-push : {A : Type 0} (xs : List A) (y : A) (k : ℕ) (a : A) → slice_get xs k ≡ Some a → slice_get (xs ++ y ∷ []) k ≡ Some a
get-push [] y k a h = absurd (cc)
get-push (x ∷ xs) y zero a h = h
get-push (x ∷ xs) y (suc k) a h = get-push xs y k a h

pub kept-contains : {A : Type 0} (xs ys : List A) → ((k : ℕ) (a : A) → slice_get xs k ≡ Some a → slice_get ys k ≡ Some a) → (a : A) → Contains xs a → Contains ys a
kept-contains xs ys keep a h =
    let at = keep h.0 a (slice_get-get_or xs h.0 a h.1 ∙ ap Some h.2) in
    (h.0, slice_get_within ys h.0 a at, get_or_from_slice_get ys h.0 a a at)

pub keep-trans : (xs ys zs : List Wanted) → KeepEntries xs ys → KeepEntries ys zs → KeepEntries xs zs
keep-trans xs ys zs f g k w h = g k w (f k w h)

met-kept : (xs ys : List Wanted) → KeepEntries xs ys → (place i : ℕ) → IsMet xs place i → IsMet ys place i
met-kept xs ys keep place i m = (m.0, kept-contains xs ys keep m.0 m.1, m.2, m.3)

pub asked-kept : (t : Shown) (xs ys : List Wanted) → KeepEntries xs ys → (x : CellId) (i : ℕ) → IsAsked t xs x i → IsAsked t ys x i
asked-kept t xs ys keep x i a = (a.0, a.1, met-kept xs ys keep a.0 i a.2)

module _ (marks : List ℕ) (wanted : List Wanted) (listed : AreListed marks wanted) (place bits met fresh : ℕ) (small : bits < 2 ^ 64) (met-small : met < 2 ^ 64)
    (met-is : met ≡ marked marks place) (is : fresh ≡ bit_and bits (2 ^ 64 - 1 - met)) where
  met-or-fresh : (i : ℕ) → bit_at bits i ≡ true → IsMet wanted place i ⊎ (bit_at fresh i ≡ true)
  met-or-fresh i set = go (bit_at met i) refl
    where
      go : (b : Bool) → bit_at met i ≡ b → IsMet wanted place i ⊎ (bit_at fresh i ≡ true)
      go true e = inl (listed place i (sym (ap (λ n. bit_at n i) met-is) ∙ e))
      go false e =
          let l = bit-within bits 64 i small set in
          inr (ap (λ n. bit_at n i) is ∙ and-whole bits (2 ^ 64 - 1 - met) i set (bit-not met i met-small l ∙ ap not e))

  -- no bit is new: each was asked for before
  pub asked-before : fresh ≡ 0 → (i : ℕ) → bit_at bits i ≡ true → IsMet wanted place i
  asked-before none i set = elim (met-or-fresh i set) [
    | inl m ↦ m
    | inr e ↦ (let z = sym (ap (λ n. bit_at n i) none) ∙ e in let y = bit-zero i in absurd (cc))
  ]

  module _ (entry : Wanted) (entry-place : entry.place ≡ place) (entry-bits : entry.bits ≡ fresh) (new : List Wanted) (new-is : new ≡ wanted ++ entry ∷ []) where
    pub keep-new : KeepEntries wanted new
    keep-new k w h = ap (λ (ws : List Wanted). slice_get ws k) new-is ∙ get-push wanted entry k w h

    is-new : (p i : ℕ) → p ≡ place → bit_at fresh i ≡ true → IsMet new p i
    is-new p i e set = (entry, subst (λ ws. Contains ws entry) (sym new-is) (Contains-push wanted entry), entry-place ∙ sym e, ap (λ n. bit_at n i) entry-bits ∙ set)

    pub asked-now : (i : ℕ) → bit_at bits i ≡ true → IsMet new place i
    asked-now i set = elim (met-or-fresh i set) [ inl m ↦ met-kept wanted new keep-new place i m | inr e ↦ is-new place i refl e ]

    pub only-now : (w : Wanted) → Contains new w → Contains wanted w ⊎ ((w.place ≡ place) × IsWithin w.bits bits)
    only-now w h = elim (Contains-push_cases wanted entry w (subst (λ ws. Contains ws w) new-is h)) [
      | inl k ↦ inl k
      | inr e ↦ inr (
        sym (ap (λ (v : Wanted). v.place) e) ∙ entry-place,
        λ i set.
            (and-parts bits (2 ^ 64 - 1 - met) i (sym (ap (λ n. bit_at n i) (sym (ap (λ (v : Wanted). v.bits) e) ∙ entry-bits ∙ is)) ∙ set)).0,
      )
    ]

    pub listed-now : (all : List ℕ) → all ≡ slice_set marks place (bit_or (marked marks place) fresh) → AreListed all new
    listed-now all e p i h = elim (marked-set marks place fresh p i (sym (ap (λ (ms : List ℕ). bit_at (marked ms p) i) e) ∙ h)) [
      | inl k ↦ met-kept wanted new keep-new p i (listed p i k)
      | inr k ↦ is-new p i k.0 k.1
    ]
