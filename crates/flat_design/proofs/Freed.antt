-- The signals of a design once free ones come from outside: the definition place by place, and what it keeps.
use Rattle.std.proofs.Common.{◌≡◌, ℕ, zero, suc, ◌+◌, ◌≤◌, ◌^◌, Bool, true, false, cond, List, [], ◌∷◌, ◌++◌, length, map, Option, Some}
use Rattle.std.proofs.Common.{None, refl, sym, ap, subst, ◌∙◌, arith, rules}
use Rattle.std.specs.Prelude.{option_map, option_and_then, slice_get}
use Rattle.std.proofs.lemmas.Option.{slice_get-map}
use Rattle.flat_form.specs.Sizes.{is_word}
use Rattle.flat_unfolding.specs.Outcome.{Text}
use Rattle.flat_unfolding.specs.Names.{Entry, width_of, reset_at}
use Rattle.flat_unfolding.specs.Design.{Design, change_entry}
use Rattle.flat_unfolding.specs.Signals.{is_free, from_outside, freed_from, with_free}
use Rattle.flat_unfolding.proofs.Steps.{some_is}
use Rattle.flat_design.specs.Visiting.{IsFitDesign}
use Rattle.flat_design.proofs.Changes.{same-lists}

abbrev pub outside_here : Bool → Entry → Entry
outside_here true e = from_outside e
outside_here false e = e

-- ---- a change of the entry after some

changed-after : (f : Entry → Entry) (k : ℕ) (xs : List Entry) (e : Entry) (es : List Entry) → length xs ≡ k
    → change_entry f k (xs ++ e ∷ es) ≡ xs ++ f e ∷ es
changed-after f k xs e es h = ap (λ n. change_entry f n (xs ++ e ∷ es)) (sym h) ∙ go xs
  where
    go : (xs : List Entry) → change_entry f (length xs) (xs ++ e ∷ es) ≡ xs ++ f e ∷ es
    go [] = refl
    go (x ∷ xs) = ap (λ zs. x ∷ zs) (go xs)

one-freed : (b : Bool) (k : ℕ) (xs : List Entry) (e : Entry) (es : List Entry) → length xs ≡ k
    → cond b (change_entry from_outside k (xs ++ e ∷ es)) (xs ++ e ∷ es) ≡ xs ++ outside_here b e ∷ es
one-freed true k xs e es h = changed-after from_outside k xs e es h
one-freed false k xs e es h = refl

put-after : (xs : List Entry) (e : Entry) (es : List Entry) → (xs ++ e ∷ []) ++ es ≡ xs ++ e ∷ es
put-after [] e es = refl
put-after (x ∷ xs) e es = ap (λ zs. x ∷ zs) (put-after xs e es)

one-longer : (xs : List Entry) (e : Entry) → length (xs ++ e ∷ []) ≡ suc (length xs)
one-longer [] e = refl
one-longer (x ∷ xs) e = ap suc (one-longer xs e)

module _ (named : List Text) (d : Design) where
  -- the entries from number k on
  abbrev freed : (k : ℕ) → List Entry → List Entry
  freed k [] = []
  freed k (e ∷ es) = outside_here (is_free named d k) e ∷ freed (suc k) es

  freed-is : (k : ℕ) (xs es : List Entry) → length xs ≡ k → freed_from named d k (length es) (xs ++ es) ≡ xs ++ freed k es
  freed-is k xs [] h = refl
  freed-is k xs (e ∷ es) h =
      let x = outside_here (is_free named d k) e in
      ap (freed_from named d (suc k) (length es)) (one-freed (is_free named d k) k xs e es h ∙ sym (put-after xs x es))
      ∙ freed-is (suc k) (xs ++ x ∷ []) es (one-longer xs x ∙ ap suc h) ∙ put-after xs x (freed (suc k) es)

  freed-at : (k : ℕ) (es : List Entry) (t : ℕ) → slice_get (freed k es) t ≡ option_map (outside_here (is_free named d (k + t))) (slice_get es t)
  freed-at k [] t = refl
  freed-at k (e ∷ es) zero = let z : k ≡ k + 0 = omega arith in ap (λ i. Some (outside_here (is_free named d i) e)) z
  freed-at k (e ∷ es) (suc t) =
      freed-at (suc k) es t ∙ ap (λ i. option_map (outside_here (is_free named d i)) (slice_get es t))
      (let next : suc k + t ≡ k + suc t = omega arith in next)

  freed-length : (k : ℕ) (es : List Entry) → length (freed k es) ≡ length es
  freed-length k [] = refl
  freed-length k (e ∷ es) = ap suc (freed-length (suc k) es)

  freed-entries : (with_free named d).entries ≡ freed 0 d.entries
  freed-entries = freed-is 0 [] d.entries refl

  pub with-free-at : (t : ℕ) → slice_get (with_free named d).entries t ≡ option_map (outside_here (is_free named d t)) (slice_get d.entries t)
  with-free-at t =
      ap (λ es. slice_get es t) freed-entries ∙ freed-at 0 d.entries t
      ∙ ap (λ i. option_map (outside_here (is_free named d i)) (slice_get d.entries t)) (let z : 0 + t ≡ t = omega arith in z)

  -- what a signal from outside keeps
  module _ {A : Type 0} (g : Entry → A) (keeps : (e : Entry) → g (from_outside e) ≡ g e) where
    told-if : (b : Bool) (o : Option Entry) → option_map g (option_map (outside_here b) o) ≡ option_map g o
    told-if b None = refl
    told-if true (Some e) = ap Some (keeps e)
    told-if false (Some e) = refl

    pub free-tells : map g (with_free named d).entries ≡ map g d.entries
    free-tells = same-lists (map g (with_free named d).entries) (map g d.entries) (λ t.
        slice_get-map g (with_free named d).entries t ∙ ap (option_map g) (with-free-at t) ∙ told-if (is_free named d t) (slice_get d.entries t)
        ∙ sym (slice_get-map g d.entries t))

  pub free-reset : (t : ℕ) → reset_at (with_free named d).entries t ≡ reset_at d.entries t
  free-reset t = ap (option_and_then (λ (e : Entry). e.reset)) (with-free-at t) ∙ go (is_free named d t) (slice_get d.entries t)
    where
      go : (b : Bool) (o : Option Entry) → option_and_then (λ (e : Entry). e.reset) (option_map (outside_here b) o) ≡ option_and_then
          (λ (e : Entry). e.reset) o
      go b None = refl
      go true (Some e) = refl
      go false (Some e) = refl

  pub free-fit : IsFitDesign d → IsFitDesign (with_free named d)
  free-fit fit = record {
    entries = λ s a at. go s a (is_free named d s) (slice_get d.entries s) refl (sym (with-free-at s) ∙ at);
    few = subst (λ c. c ≤ 2 ^ 32) (sym (ap length freed-entries ∙ freed-length 0 d.entries)) fit.few;
  }
    where
      same-range : (b : Bool) (e : Entry) → (outside_here b e).range ≡ e.range
      same-range true e = refl
      same-range false e = refl

      go : (s : ℕ) (a : Entry) (b : Bool) (o : Option Entry) → slice_get d.entries s ≡ o → option_map (outside_here b) o ≡ Some a
          → is_word (width_of a.range) ≡ true
      go s a b None at e = absurd (search (rules, e))
      go s a b (Some x) at e =
          sym (ap (λ (z : Entry). is_word (width_of z.range)) (some_is (outside_here b x) a e)) ∙ ap (λ r. is_word (width_of r)) (same-range b x)
          ∙ fit.entries s x at
