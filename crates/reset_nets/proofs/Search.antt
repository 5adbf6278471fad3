-- Nets lie on no loop, so that an order in which the ends of links stand before it, but for loops, finds them all.
use Rattle.std.proofs.Common.{◌≡◌, ◌≢◌, ◌⊎◌, inl, inr, ℕ, zero, suc, ◌+◌, ◌<◌, Bool, true, false, cond, not, ◌&&◌, ◌==◌, eqb-true, eq-eqb, List, [], ◌∷◌, ◌++◌, length, take, Option, Some, None, sym, ap, ap₂, ◌∙◌, subst, refl, rules, arith, slice_get}
use Rattle.std.specs.Prelude.{unwrap_or, is_some}
use Rattle.std.specs.Option.{option_map_or}
use Rattle.std.specs.List.{Contains, list_all}
use Rattle.std.proofs.lemmas.Bool.{and_parts}
use Rattle.std.proofs.lemmas.List.Elements.{Contains-push_cases, Contains-append_right, Contains-append_cases, Contains-push}
use Rattle.driver_loops.specs.Links.{IsLink, ends_of}
use Rattle.driver_loops.specs.Orders.{Reaches, here, LeadsBack, IsDepthFirst}
use Rattle.driver_loops.proofs.Components.{first_link}
use Rattle.flat_meaning.specs.Flat.{Expr}
use Rattle.reset_nets.specs.Nets.{reads_of, value_at, IsNet, a_declared, a_made}
use Rattle.reset_nets.specs.Finding.{level_in, levels_at, are_known, if_differ, level_made, tried}
use Rattle.reset_nets.proofs.Values.{value_same}

-- ---- members

pub contains-head : (x : ℕ) (xs : List ℕ) → Contains (x ∷ xs) x
contains-head x xs = search rules

contains-tail : (x : ℕ) (xs : List ℕ) (y : ℕ) → Contains xs y → Contains (x ∷ xs) y
contains-tail x xs y c = Contains-append_right (x ∷ []) xs y c

contains-cases : (x : ℕ) (xs : List ℕ) (y : ℕ) → Contains (x ∷ xs) y → (x ≡ y) ⊎ Contains xs y
contains-cases x xs y c = go (Contains-append_cases (x ∷ []) xs y c)
  where
    go : Contains (x ∷ []) y ⊎ Contains xs y → (x ≡ y) ⊎ Contains xs y
    go (inl h) = one (Contains-push_cases [] x y h)
      where
        one : Contains [] y ⊎ (x ≡ y) → (x ≡ y) ⊎ Contains xs y
        one (inl h) = let l = h.1 in absurd (omega (arith, l))
        one (inr e) = inl e
    go (inr h) = inr h

pub some-same : {A : Type 0} (x y : A) → Some x ≡ Some y → x ≡ y
some-same x y e = search (rules, e)

take-suc : (xs : List ℕ) (i x : ℕ) → slice_get xs i ≡ Some x → take (suc i) xs ≡ take i xs ++ x ∷ []
take-suc [] i x e = absurd (search (rules, e))
take-suc (y ∷ xs) zero x e = ap (λ z. z ∷ []) (some-same y x e)
take-suc (y ∷ xs) (suc i) x e = ap (λ zs. y ∷ zs) (take-suc xs i x e)

take-next : (xs : List ℕ) (i x : ℕ) → slice_get xs i ≡ Some x → take (i + 1) xs ≡ take i xs ++ x ∷ []
take-next xs i x e = let k : i + 1 ≡ suc i = omega arith in ap (λ j. take j xs) k ∙ take-suc xs i x e

all-known : (known : ℕ → Option Bool) (ts : List ℕ) → list_all (λ t. is_some (known t)) ts ≡ true → (t : ℕ) → Contains ts t → is_some (known t) ≡ true
all-known known [] h t c = let l = c.1 in absurd (omega (arith, l))
all-known known (s ∷ ts) h t c =
    let p = and_parts (is_some (known s)) (list_all (λ u. is_some (known u)) ts) h in
    go p.0 (all-known known ts p.1 t) (contains-cases s ts t c)
  where
    go : is_some (known s) ≡ true → (Contains ts t → is_some (known t) ≡ true) → (s ≡ t) ⊎ Contains ts t → is_some (known t) ≡ true
    go k rest (inl same) = subst (λ u. is_some (known u) ≡ true) same k
    go k rest (inr c) = rest c

known-all : (known : ℕ → Option Bool) (ts : List ℕ) → ((t : ℕ) → Contains ts t → is_some (known t) ≡ true) → list_all (λ t. is_some (known t)) ts ≡ true
known-all known [] h = refl
known-all known (s ∷ ts) h = ap₂ (λ a b. a && b) (h s (contains-head s ts)) (known-all known ts (λ t c. h t (contains-tail s ts t c)))

are-known-each : (known : ℕ → Option Bool) (ts : List ℕ) → are_known known ts ≡ true → (t : ℕ) → Contains ts t → is_some (known t) ≡ true
are-known-each known [] h t c = absurd (search (rules, h))
are-known-each known (s ∷ ts) h t c = all-known known (s ∷ ts) h t c

are-known-some : (known : ℕ → Option Bool) (ts : List ℕ) → are_known known ts ≡ true → ts ≢ []
are-known-some known [] h e = search (rules, h)
are-known-some known (s ∷ ts) h e = search (rules, e)

each-are-known : (known : ℕ → Option Bool) (ts : List ℕ) → ts ≢ [] → ((t : ℕ) → Contains ts t → is_some (known t) ≡ true) → are_known known ts ≡ true
each-are-known known [] some h = absurd (some refl)
each-are-known known (s ∷ ts) some h = known-all known (s ∷ ts) h

known-level : (o : Option Bool) → is_some o ≡ true → o ≡ Some (unwrap_or o false)
known-level None h = absurd (search (rules, h))
known-level (Some l) h = refl

differ-some : (i a l : Bool) → if_differ i a ≡ Some l → (i ≢ a) × (l ≡ i)
differ-some true true l h = absurd (search (rules, h))
differ-some true false l h = ((λ e. search (rules, e)), sym (some-same true l h))
differ-some false true l h = ((λ e. search (rules, e)), sym (some-same false l h))
differ-some false false l h = absurd (search (rules, h))

some-differ : (i a : Bool) → i ≢ a → if_differ i a ≡ Some i
some-differ true true h = absurd (h refl)
some-differ true false h = refl
some-differ false true h = refl
some-differ false false h = absurd (h refl)

if-known : {A : Type 0} (b : Bool) (o : Option A) (a : A) → cond b o None ≡ Some a → (b ≡ true) × (o ≡ Some a)
if-known true o a h = (refl, h)
if-known false o a h = absurd (search (rules, h))

module _ (declared : ℕ → Option Bool) (made : ℕ → Option Expr) (apart : (s : ℕ) (l : Bool) → declared s ≡ Some l → made s ≡ None) (ls : List (List ℕ))
    (ends : (s : ℕ) → ends_of ls s ≡ option_map_or reads_of (made s) []) (within : (s : ℕ) (l : Bool) → IsNet declared made s l → s < length ls) where
  reads-end : (v : ℕ) (e : Expr) (t : ℕ) → made v ≡ Some e → Contains (ends_of ls v) t → Contains (reads_of e) t
  reads-end v e t is c = subst (λ ts. Contains ts t) (ends v ∙ ap (λ o. option_map_or reads_of o []) is) c

  end-reads : (v : ℕ) (e : Expr) (t : ℕ) → made v ≡ Some e → Contains (reads_of e) t → Contains (ends_of ls v) t
  end-reads v e t is c = subst (λ ts. Contains ts t) (sym (ends v ∙ ap (λ o. option_map_or reads_of o []) is)) c

  no-end : (v t : ℕ) → made v ≡ None → Contains (ends_of ls v) t → ⊥
  no-end v t is c = let k = subst (λ ts. Contains ts t) (ends v ∙ ap (λ o. option_map_or reads_of o []) is) c in let l = k.1 in omega (arith, l)

  -- a net leads to nets alone, so that it lies on no loop
  pub no-loop : (v : ℕ) (l : Bool) → IsNet declared made v l → LeadsBack ls v → ⊥
  no-loop v l (a_declared is) b = no-end v b.next (apart v l is) b.first.end
  no-loop v l (a_made e levels is some all differ same) b =
      let f = first_link ls b.next v b.next b.rest b.first in
      no-loop b.next (levels b.next) (all b.next (reads-end v e b.next is b.first.end)) (record { next = f.0; first = f.1; rest = f.2 })

  -- all that a net reads stands before it
  pub reads-before : (order : List ℕ) → IsDepthFirst ls order → (i v : ℕ) (l : Bool) → slice_get order i ≡ Some v → IsNet declared made v l → (e : Expr) → made v ≡ Some e
      → ((t : ℕ) → Contains (reads_of e) t → t < length ls) → (t : ℕ) → Contains (reads_of e) t → Contains (take i order) t
  reads-before order first i v l at net e is small t c =
      let k : IsLink ls v t = record { end = end-reads v e t is c; vertex = small t c } in
      go k (subst (λ vs. Contains vs v → IsLink ls v t → Contains vs t ⊎ Reaches ls t v) (take-next order i v at) (first i v v t at) (Contains-push (take i order) v) k)
    where
      before : IsLink ls v t → Contains (take i order) t ⊎ (v ≡ t) → Contains (take i order) t
      before k (inl c) = c
      before k (inr same) = absurd (no-loop v l net (record { next = t; first = k; rest = subst (λ w. Reaches ls t w) (sym same) here }))

      go : IsLink ls v t → Contains (take i order ++ v ∷ []) t ⊎ Reaches ls t v → Contains (take i order) t
      go k (inl c) = before k (Contains-push_cases (take i order) v t c)
      go k (inr r) = absurd (no-loop v l net (record { next = t; first = k; rest = r }))

  -- what is known is right, has all declared resets, and all nets among these signals
  pub record IsSettled (known : ℕ → Option Bool) (vs : List ℕ) : Type 0 where
    pub right : (s : ℕ) (l : Bool) → known s ≡ Some l → IsNet declared made s l
    pub given : (s : ℕ) (l : Bool) → declared s ≡ Some l → known s ≡ Some l
    pub found : (s : ℕ) (l : Bool) → Contains vs s → IsNet declared made s l → known s ≡ Some l

  made-is : (known : ℕ → Option Bool) → ((s : ℕ) (l : Bool) → known s ≡ Some l → IsNet declared made s l) → (v : ℕ) (e : Expr) (l : Bool) → made v ≡ Some e → level_made known e ≡ Some l → IsNet declared made v l
  made-is known right v e l is h =
      let k = if-known (are_known known (reads_of e)) _ l h in
      let d = differ-some (value_at (levels_at false known) e) (value_at (levels_at true known) e) l k.1 in
      a_made e (level_in known) is (are-known-some known (reads_of e) k.0)
      (λ t c. right t (level_in known t) (known-level (known t) (are-known-each known (reads_of e) k.0 t c))) d.0 d.1

  net-made : (known : ℕ → Option Bool) (v : ℕ) (e : Expr) (l : Bool) → made v ≡ Some e → IsNet declared made v l
      → ((t : ℕ) (m : Bool) → Contains (reads_of e) t → IsNet declared made t m → known t ≡ Some m) → level_made known e ≡ Some l
  net-made known v e l is (a_declared h) found = absurd (search (rules, sym is ∙ apart v l h))
  net-made known v e l is (a_made f levels made_of some all differ same) found =
      let fe : f ≡ e = some-same f e (sym made_of ∙ is) in
      let each : (t : ℕ) → Contains (reads_of e) t → known t ≡ Some (levels t) = λ t c. found t (levels t) c (all t (subst (λ g. Contains (reads_of g) t) (sym fe) c)) in
      let a = each-are-known known (reads_of e) (subst (λ g. reads_of g ≢ []) fe some) (λ t c. ap is_some (each t c)) in
      let inactive = value_same (levels_at false known) levels e (λ t c. ap (λ o. unwrap_or o false) (each t c)) in
      let active = value_same (levels_at true known) (λ t. not (levels t)) e (λ t c. ap (λ o. not (unwrap_or o false)) (each t c)) in
      ap (λ b. cond b (if_differ (value_at (levels_at false known) e) (value_at (levels_at true known) e)) None) a
      ∙ ap₂ if_differ inactive active
      ∙ some-differ (value_at levels e) (value_at (λ t. not (levels t)) e) (subst (λ g. value_at levels g ≢ value_at (λ t. not (levels t)) g) fe differ)
      ∙ ap Some (ap (value_at levels) (sym fe) ∙ sym same)

  reads-small : (v : ℕ) (l : Bool) → IsNet declared made v l → (e : Expr) → made v ≡ Some e → (t : ℕ) → Contains (reads_of e) t → t < length ls
  reads-small v l (a_declared h) e is t c = absurd (search (rules, sym is ∙ apart v l h))
  reads-small v l (a_made f levels made_of some all differ same) e is t c =
      within t (levels t) (all t (subst (λ g. Contains (reads_of g) t) (some-same e f (sym is ∙ made_of)) c))

  -- one signal more is tried
  module _ (order : List ℕ) (first : IsDepthFirst ls order) (i v : ℕ) (at : slice_get order i ≡ Some v) (known next : ℕ → Option Bool)
      (is : (s : ℕ) → next s ≡ tried known v (made v) s) (h : IsSettled known (take i order)) where
    right-next : (o : Option Expr) → made v ≡ o → (s : ℕ) (l : Bool) → tried known v o s ≡ Some l → IsNet declared made s l
    right-next None e s l k = h.right s l k
    right-next (Some f) e s l k = go (v == s) refl k
      where
        go : (b : Bool) → (v == s) ≡ b → cond b (level_made known f) (known s) ≡ Some l → IsNet declared made s l
        go false d k = h.right s l k
        go true d k = subst (λ t. IsNet declared made t l) (eqb-true v s d) (made-is known h.right v f l e k)

    given-next : (o : Option Expr) → made v ≡ o → (s : ℕ) (l : Bool) → declared s ≡ Some l → tried known v o s ≡ Some l
    given-next None e s l k = h.given s l k
    given-next (Some f) e s l k = go (v == s) refl
      where
        go : (b : Bool) → (v == s) ≡ b → cond b (level_made known f) (known s) ≡ Some l
        go false d = h.given s l k
        go true d = absurd (search (rules, sym e ∙ ap made (eqb-true v s d) ∙ apart s l k))

    found-here : (o : Option Expr) → made v ≡ o → (l : Bool) → IsNet declared made v l → tried known v o v ≡ Some l
    found-here None e l (a_declared k) = h.given v l k
    found-here None e l (a_made f levels made_of some all differ same) = absurd (search (rules, sym e ∙ made_of))
    found-here (Some f) e l n =
        ap (λ b. cond b (level_made known f) (known v)) (eq-eqb v v refl)
        ∙ net-made known v f l e n (λ t m c k. h.found t m (reads-before order first i v l at n f e (reads-small v l n f e) t c) k)

    pub settle : IsSettled next (take (i + 1) order)
    settle = record {
      right = λ s l k. right-next (made v) refl s l (sym (is s) ∙ k);
      given = λ s l k. is s ∙ given-next (made v) refl s l k;
      found = λ s l c n. is s ∙ go s l (Contains-push_cases (take i order) v s (subst (λ vs. Contains vs s) (take-next order i v at) c)) n;
    }
      where
        old : (o : Option Expr) → made v ≡ o → (s : ℕ) (l : Bool) → Contains (take i order) s → IsNet declared made s l → tried known v o s ≡ Some l
        old None e s l c n = h.found s l c n
        old (Some f) e s l c n = other (v == s) refl
          where
            other : (b : Bool) → (v == s) ≡ b → cond b (level_made known f) (known s) ≡ Some l
            other false d = h.found s l c n
            other true d = ap (λ b. cond b (level_made known f) (known s)) (sym d) ∙ subst (λ t. IsNet declared made t l → tried known v (Some f) t ≡ Some l) (eqb-true v s d) (λ m. found-here (Some f) e l m) n

        go : (s : ℕ) (l : Bool) → Contains (take i order) s ⊎ (v ≡ s) → IsNet declared made s l → tried known v (made v) s ≡ Some l
        go s l (inl c) n = old (made v) refl s l c n
        go s l (inr same) n = subst (λ t. IsNet declared made t l → tried known v (made v) t ≡ Some l) same (λ m. found-here (made v) refl l m) n
