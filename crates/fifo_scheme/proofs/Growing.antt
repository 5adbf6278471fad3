-- Candidates that are added one after the other.
use Rattle.std.proofs.Common.{Bor, is_some, ltb, ltb-true, unwrap_or, option_map, ◌≡◌, ◌∙◌, ◌↔◌, sym, ap, subst, refl, inl, inr, ◌⊎◌, arith, ℕ, ◌+◌, ◌<◌, ◌≤◌, Bool, true, false, cond, Option, Some, None, List, [], ◌∷◌, length, get_or, take, slice_get, Contains}
use Rattle.std.specs.Option.{IsSome}
use Rattle.std.specs.BTreeMap.{BTreeMap}
use Rattle.std.proofs.lemmas.List.{take_more, take_all}
use Rattle.std.proofs.lemmas.Option.{slice_get-get_or}
use Rattle.std.proofs.lemmas.List.Elements.{Contains-append_left, Contains-push, Contains-push_cases}
use Rattle.fifo_scheme.specs.declared.finder.Key.{Key}
use Rattle.fifo_scheme.specs.declared.finder.Sides.{Sides}
use Rattle.fifo_parts.specs.declared.side.Side.{Side}
use Rattle.fifo_scheme.specs.Candidates.{AreAt, Grows, HasKey, IsAt, kept, key_of, OfOne}

one_some : {A : Type 0} (x y : A) → Some x ≡ Some y → x ≡ y
one_some x y e = cc

nothing : {A : Type 0} (x : A) → Contains [] x → ⊥
nothing x i = omega (arith, i.1)

module _ (sides : List Side) where
  pub grows_none : (P : Key → Type 0) (m : BTreeMap Key Sides) → ((k : Key) → P k → ⊥) → Grows sides P m m
  grows_none P m empty = record {
    only = λ k p e. inl e;
    stays = λ k h. h;
    all = λ k h. absurd (empty k h);
  }

  pub grows_start : {A : Type 0} (F : A → Key → Type 0) (xs : List A) (m : BTreeMap Key Sides) → Grows sides (OfOne F (take 0 xs)) m m
  grows_start {A} F xs m = grows_none (OfOne F (take 0 xs)) m (λ k h. nothing h.0 h.1)

  pub grows_as : (P Q : Key → Type 0) (old new : BTreeMap Key Sides) → ((k : Key) → P k ↔ Q k) → Grows sides P old new → Grows sides Q old new
  grows_as P Q old new same h = record {
    only = λ k p e. elim (h.only k p e) [ inl f ↦ inl f | inr f ↦ inr (f.0, (same k).0 f.1) ];
    stays = h.stays;
    all = λ k q. h.all k ((same k).1 q);
  }

  module _ {A : Type 0} (F : A → Key → Type 0) (xs : List A) where
    pub grows_more : (i : ℕ) (d : A) (first old new : BTreeMap Key Sides) → i < length xs → Grows sides (OfOne F (take i xs)) first old → Grows sides (F (get_or xs i d)) old new
        → Grows sides (OfOne F (take (i + 1) xs)) first new
    grows_more i d first old new l h g = record {
      only = λ k p e. elim (g.only k p e) [
        | inl f ↦ elim (h.only k p f) [
          | inl j ↦ inl j
          | inr j ↦ inr (j.0, (j.1.0, subst (λ ys. Contains ys j.1.0) (sym (take_more xs i d l)) (Contains-append_left (take i xs) (get_or xs i d ∷ []) j.1.0 j.1.1), j.1.2))
        ]
        | inr f ↦ inr (f.0, (get_or xs i d, subst (λ ys. Contains ys (get_or xs i d)) (sym (take_more xs i d l)) (Contains-push (take i xs) (get_or xs i d)), f.1))
      ];
      stays = λ k s. g.stays k (h.stays k s);
      all = λ k s. elim (Contains-push_cases (take i xs) (get_or xs i d) s.0 (subst (λ ys. Contains ys s.0) (take_more xs i d l) s.1)) [
        | inl j ↦ g.stays k (h.all k (s.0, j, s.2))
        | inr j ↦ g.all k (subst (λ x. F x k) (sym j) s.2)
      ];
    }

    pub grows_all : (i : ℕ) (old new : BTreeMap Key Sides) → length xs ≤ i → Grows sides (OfOne F (take i xs)) old new → Grows sides (OfOne F xs) old new
    grows_all i old new l h = subst (λ ys. Grows sides (OfOne F ys) old new) (take_all i xs l) h

  -- from no candidates on
  pub at_first : (P : Key → Type 0) (old new : BTreeMap Key Sides) → ((k : Key) → kept old k ≡ None) → Grows sides P old new → AreAt sides P new
  at_first P old new none h = record {
    only = λ k p e. elim (h.only k p e) [ inl f ↦ absurd (never p (sym (none k) ∙ f)) | inr f ↦ f ];
    all = h.all;
  }
    where
      never : (p : Sides) → None ≡ Some p → ⊥
      never p e = cc

  -- one more is put at its key
  pub grows_put : (p : Sides) (write read : Side) (old new : BTreeMap Key Sides) (test : Key → Bool) → slice_get sides p.write ≡ Some write → slice_get sides p.read ≡ Some read
      → ((k : Key) → kept new k ≡ cond (test k) (Some p) (kept old k)) → ((k : Key) → test k ≡ true → key_of write read ≡ k) → test (key_of write read) ≡ true
      → Grows sides (IsAt sides p.write p.read) old new
  grows_put p write read old new test at_write at_read puts told own = record {
    only = λ k q e. go k q (test k) refl (sym (puts k) ∙ e);
    stays = λ k s. subst IsSome (sym (puts k)) (still k (test k) s);
    all = λ k h. subst (λ n. IsSome (kept new n)) (named k h) (subst IsSome (sym (puts (key_of write read))) (subst (λ b. IsSome (cond b (Some p) (kept old (key_of write read)))) (sym own) refl));
  }
    where
      go : (k : Key) (q : Sides) (b : Bool) → test k ≡ b → cond b (Some p) (kept old k) ≡ Some q → (kept old k ≡ Some q) ⊎ (HasKey sides k q × IsAt sides p.write p.read k)
      go k q true e f =
          let same : p ≡ q = one_some p q f in
          let has : HasKey sides k p = (write, read, at_write, at_read, told k e) in
          inr (subst (HasKey sides k) same has, has)
      go k q false e f = inl f

      still : (k : Key) (b : Bool) → IsSome (kept old k) → IsSome (cond b (Some p) (kept old k))
      still k true s = refl
      still k false s = s

      named : (k : Key) → IsAt sides p.write p.read k → key_of write read ≡ k
      named k (w, r, at_w, at_r, e) =
          let f : write ≡ w = one_some write w (sym at_write ∙ at_w) in
          let g : read ≡ r = one_some read r (sym at_read ∙ at_r) in
          subst (λ x. key_of x read ≡ k) (sym f) (subst (λ x. key_of w x ≡ k) (sym g) e)

pub found_at : {X : Type 0} (xs : List X) (i : ℕ) (o : Option (Bor X)) (w : Bor X) → o ≡ Some w → is_some o ≡ ltb i (length xs) → ((d : X) → unwrap_or (option_map (λ (x : Bor X). x.now) o) d ≡ get_or xs i d)
    → slice_get xs i ≡ Some w.now
found_at xs i o w is there get =
    let l : i < length xs = ltb-true i (length xs) (sym there ∙ ap is_some is) in
    slice_get-get_or xs i w.now l ∙ ap Some (sym (get w.now) ∙ ap (λ p. unwrap_or (option_map (λ (x : Bor _). x.now) p) w.now) is)
