-- What stands in the lots of a list that rises, and what is found in them.
use Rattle.std.proofs.Common.{◌≡◌, ◌≢◌, ◌∙◌, ◌⊎◌, ◌↔◌, inl, inr, refl, sym, ap, subst, ℕ, suc, ◌<◌, ◌==◌, ◌&&◌, nat_lt, ◌+◌, ◌-◌, Bool, true, false, not, cond, arith, ltb-true, eqb-true, List, [], ◌∷◌, ◌++◌, map, Contains, length, slice_index_or, append_assoc, append-nil}
use Rattle.std.specs.Prelude.{filter, if◌then◌else◌}
use Rattle.std.specs.List.{flat_map, list_any, IsChunkByPrefix}
use Rattle.std.proofs.lemmas.List.Folds.{Any-from_list_any, list_any-from_Any}
use Rattle.std.proofs.lemmas.Bool.{both_ways, or_cases, or_parts, and_parts, and_cases, eqb-false, ltb-false, false_from_ne_true, not-true, not_from_false}
use Rattle.std.proofs.lemmas.List.Elements.{Contains-append_left, Contains-append_right, Contains-append_cases, filter-append}
use Rattle.cdc_model.specs.declared.verdict.Finding.{Finding as FindingEntry}
use Rattle.cdc_model.specs.Ordered.{is_before, IsAll}
use Rattle.cdc_model.specs.Verdict.{Finding, finding_key}
use Rattle.cdc_model.proofs.Ascending.{here, later, parts, nothing_in, in_map, from_map, Ascends, ascending, joined_ascend, mapped_ascend, less_before, same_before}
use Rattle.cdc_model.proofs.ReadBits.{filter-none}
use Rattle.obligations.specs.Findings.{finding_of}
use Rattle.obligations.specs.Lots.{Rises, onto_lots, lots_of, found_in}

-- ---- keys

pub before_through : (ks ms ns : List ℕ) → is_before ks ms ≡ true → is_before ms ns ≡ true → is_before ks ns ≡ true
before_through [] [] ns h k = cc
before_through [] (m ∷ ms) [] h k = cc
before_through [] (m ∷ ms) (n ∷ ns) h k = refl
before_through (l ∷ ks) [] ns h k = cc
before_through (l ∷ ks) (m ∷ ms) [] h k = cc
before_through (l ∷ ks) (m ∷ ms) (n ∷ ns) h k =
    go (or_cases (nat_lt l m) ((l == m) && is_before ks ms) h) (or_cases (nat_lt m n) ((m == n) && is_before ms ns) k) (before_through ks ms ns)
  where
    go : (nat_lt l m ≡ true) ⊎ (((l == m) && is_before ks ms) ≡ true) → (nat_lt m n ≡ true) ⊎ (((m == n) && is_before ms ns) ≡ true)
        → (is_before ks ms ≡ true → is_before ms ns ≡ true → is_before ks ns ≡ true) → is_before (l ∷ ks) (n ∷ ns) ≡ true
    go (inl a) (inl b) ih = less_before l n ks ns (let p = ltb-true l m a in let q = ltb-true m n b in omega (arith, p, q))
    go (inl a) (inr b) ih = less_before l n ks ns (let p = ltb-true l m a in let q = eqb-true m n (and_parts (m == n) (is_before ms ns) b).0 in omega (arith, p, q))
    go (inr a) (inl b) ih = less_before l n ks ns (let p = eqb-true l m (and_parts (l == m) (is_before ks ms) a).0 in let q = ltb-true m n b in omega (arith, p, q))
    go (inr a) (inr b) ih =
        let p = and_parts (l == m) (is_before ks ms) a in
        let q = and_parts (m == n) (is_before ms ns) b in
        same_before l n ks ns (eqb-true l m p.0 ∙ eqb-true m n q.0) (ih p.1 q.1)

-- of two keys one comes first, or they are the same
pub tied : (ks ms : List ℕ) → is_before ks ms ≡ false → is_before ms ks ≡ false → ks ≡ ms
tied [] [] h k = refl
tied [] (m ∷ ms) h k = cc
tied (l ∷ ks) [] h k = cc
tied (l ∷ ks) (m ∷ ms) h k = go (or_parts (nat_lt l m) ((l == m) && is_before ks ms) h) (or_parts (nat_lt m l) ((m == l) && is_before ms ks) k) (tied ks ms)
  where
    rest : (m n : ℕ) (v : Bool) → m ≡ n → ((m == n) && v) ≡ false → v ≡ false
    rest m n v e f = elim (and_cases (m == n) v f) [ inl g ↦ absurd (eqb-false m n g e) | inr g ↦ g ]

    go : (nat_lt l m ≡ false) × (((l == m) && is_before ks ms) ≡ false) → (nat_lt m l ≡ false) × (((m == l) && is_before ms ks) ≡ false)
        → (is_before ks ms ≡ false → is_before ms ks ≡ false → ks ≡ ms) → l ∷ ks ≡ m ∷ ms
    go a b ih =
        let same : l ≡ m = (let p = ltb-false l m a.0 in let q = ltb-false m l b.0 in omega (arith, p, q)) in
        ap (λ n. n ∷ ks) same ∙ ap (λ ns. m ∷ ns) (ih (rest l m (is_before ks ms) same a.1) (rest m l (is_before ms ks) (sym same) b.1))

-- ---- filters

pub filter_all : {A : Type 0} (p : A → Bool) (xs : List A) → ((x : A) → Contains xs x → p x ≡ true) → filter p xs ≡ xs
filter_all p [] h = refl
filter_all p (x ∷ xs) h = ap (λ v. if v then x ∷ filter p xs else filter p xs) (h x (here x xs)) ∙ ap (λ ys. x ∷ ys) (filter_all p xs (λ y i. h y (later x xs y i)))

-- ---- lots

module _ {A : Type 0} (key : A → List ℕ) (same : A → A → Bool) (same_is : (x y : A) → (same x y ≡ true) ↔ (key x ≡ key y)) where
  -- lots, each of one key, and each before the next
  abbrev AreLots : List A → List (List A) → Type 0
  AreLots xs [] = xs ≡ []
  AreLots xs ([] ∷ lots) = ⊥
  AreLots xs ((h ∷ t) ∷ lots) = (rest : List A) × (xs ≡ (h ∷ t) ++ rest) × ((y : A) → Contains t y → key h ≡ key y)
      × ((y : A) → Contains rest y → is_before (key h) (key y) ≡ true) × AreLots rest lots

  onto : (x : A) (xs : List A) (lots : List (List A)) → ((y : A) → Contains xs y → is_before (key y) (key x) ≡ false) → AreLots xs lots → AreLots (x ∷ xs) (onto_lots same x lots)
  onto x xs [] first e = ([], ap (λ ys. x ∷ ys) e, λ y i. absurd (nothing_in y i), λ y i. absurd (nothing_in y i), refl)
  onto x xs ([] ∷ lots) first e = absurd e
  onto x xs ((h ∷ t) ∷ lots) first (rest, is, own, after, more) = go (same x h) refl
    where
      first_of : Contains xs h
      first_of = subst (λ ys. Contains ys h) (sym is) (here h (t ++ rest))

      own_too : same x h ≡ true → (y : A) → Contains (h ∷ t) y → key x ≡ key y
      own_too e y i = elim (parts h t y i) [ inl f ↦ (same_is x h).0 e ∙ ap key f | inr j ↦ (same_is x h).0 e ∙ own y j ]

      apart : same x h ≡ false → is_before (key x) (key h) ≡ true
      apart e = go (is_before (key x) (key h)) refl
        where
          go : (v : Bool) → is_before (key x) (key h) ≡ v → v ≡ true
          go true f = refl
          go false f = absurd (both_ways (same x h) e ((same_is x h).1 (tied (key x) (key h) f (first h first_of))))

      behind : same x h ≡ false → (y : A) → Contains ((h ∷ t) ++ rest) y → is_before (key x) (key y) ≡ true
      behind e y i = elim (Contains-append_cases (h ∷ t) rest y i) [
        | inl j ↦ elim (parts h t y j) [
          | inl f ↦ subst (λ z. is_before (key x) (key z) ≡ true) f (apart e)
          | inr k ↦ subst (λ ks. is_before (key x) ks ≡ true) (own y k) (apart e)
        ]
        | inr j ↦ before_through (key x) (key h) (key y) (apart e) (after y j)
      ]

      go : (v : Bool) → same x h ≡ v → AreLots (x ∷ xs) (cond v ((x ∷ h ∷ t) ∷ lots) ((x ∷ []) ∷ (h ∷ t) ∷ lots))
      go true e = (rest, ap (λ ys. x ∷ ys) is, own_too e, λ y i. subst (λ ks. is_before ks (key y) ≡ true) (sym ((same_is x h).0 e)) (after y i), more)
      go false e = (xs, refl, λ y i. absurd (nothing_in y i), λ y i. behind e y (subst (λ ys. Contains ys y) is i), (rest, is, own, after, more))

  lots_are : (xs : List A) → Rises key xs → AreLots xs (lots_of same xs)
  lots_are [] r = refl
  lots_are (x ∷ xs) r = onto x xs (lots_of same xs) r.0 (lots_are xs r.1)

  differ : (x y : A) → is_before (key x) (key y) ≡ true → (key x ≡ key y → ⊥)
  differ x y h e = itself (key x) (subst (λ ks. is_before (key x) ks ≡ true) (sym e) h)
    where
      itself : (ks : List ℕ) → is_before ks ks ≡ true → ⊥
      itself [] h = cc
      itself (k ∷ ks) h = elim (or_cases (nat_lt k k) ((k == k) && is_before ks ks) h) [
        | inl l ↦ (let p = ltb-true k k l in omega (arith, p))
        | inr e ↦ itself ks (and_parts (k == k) (is_before ks ks) e).1
      ]

  unlike : (x y : A) → (key x ≡ key y → ⊥) → same x y ≡ false
  unlike x y n = false_from_ne_true (same x y) (λ e. n ((same_is x y).0 e))

  -- the first lot has all that belongs to it
  whole : (h : A) (t rest : List A) → ((y : A) → Contains t y → key h ≡ key y) → ((y : A) → Contains rest y → is_before (key h) (key y) ≡ true) → filter (same h) ((h ∷ t) ++ rest) ≡ h ∷ t
  whole h t rest own after =
      filter-append (same h) (h ∷ t) rest
      ∙ ap (λ ys. filter (same h) (h ∷ t) ++ ys) (filter-none (same h) rest (λ y i. unlike h y (differ h y (after y i))))
      ∙ append-nil (filter (same h) (h ∷ t))
      ∙ filter_all (same h) (h ∷ t) (λ y i. (same_is h y).1 (elim (parts h t y i) [ inl f ↦ ap key f | inr j ↦ own y j ]))

  -- and nothing of the lots behind it
  further : (h : A) (t rest : List A) (a : A) → ((y : A) → Contains t y → key h ≡ key y) → is_before (key h) (key a) ≡ true → filter (same a) ((h ∷ t) ++ rest) ≡ filter (same a) rest
  further h t rest a own after =
      filter-append (same a) (h ∷ t) rest
      ∙ ap (λ ys. ys ++ filter (same a) rest) (filter-none (same a) (h ∷ t) (λ y i. unlike a y (λ e. differ h a after (elim (parts h t y i) [ inl f ↦ ap key f ∙ sym e | inr j ↦ own y j ∙ sym e ]))))

  module _ {B : Type 0} (test : A → List A → Bool) (make : A → List A → B) where
    abbrev found : List (List A) → List B
    found lots = flat_map (found_in test make) lots

    -- what is found is made of a lot that passes
    abbrev IsFound : List A → B → Type 0
    IsFound xs f = (a : A) × Contains xs a × (test a (filter (same a) xs) ≡ true) × (f ≡ make a (filter (same a) xs))

    from_lot : (h : A) (t : List A) (f : B) (v : Bool) → test h (h ∷ t) ≡ v → Contains (cond v (make h (h ∷ t) ∷ []) []) f → (test h (h ∷ t) ≡ true) × (f ≡ make h (h ∷ t))
    from_lot h t f true e i = elim (parts (make h (h ∷ t)) [] f i) [ inl g ↦ (e, sym g) | inr j ↦ absurd (nothing_in f j) ]
    from_lot h t f false e i = absurd (nothing_in f i)

    from_found : (xs : List A) (lots : List (List A)) → AreLots xs lots → (f : B) → Contains (found lots) f → IsFound xs f
    from_found xs [] are f i = absurd (nothing_in f i)
    from_found xs ([] ∷ lots) are f i = absurd are
    from_found xs ((h ∷ t) ∷ lots) (rest, is, own, after, more) f i = elim (Contains-append_cases (found_in test make (h ∷ t)) (found lots) f i) [
      | inl j ↦ (let k = from_lot h t f (test h (h ∷ t)) refl j in
          subst (λ ys. IsFound ys f) (sym is) (h, here h (t ++ rest), ap (test h) (whole h t rest own after) ∙ k.0, k.1 ∙ ap (make h) (sym (whole h t rest own after))))
      | inr j ↦ (let k = from_found rest lots more f j in
          let same_lot = further h t rest k.0 own (after k.0 k.1) in
          subst (λ ys. IsFound ys f) (sym is) (k.0, Contains-append_right (h ∷ t) rest k.0 k.1, ap (test k.0) same_lot ∙ k.2, k.3 ∙ ap (make k.0) (sym same_lot)))
    ]

    -- a lot that passes is found, by the first of it
    abbrev IsShown : List A → List B → A → Type 0
    IsShown xs fs a = (h : A) × Contains xs h × (key h ≡ key a) × (test h (filter (same h) xs) ≡ true → Contains fs (make h (filter (same h) xs)))

    in_lot : (h : A) (t : List A) → test h (h ∷ t) ≡ true → Contains (found_in test make (h ∷ t)) (make h (h ∷ t))
    in_lot h t e = subst (λ (v : Bool). Contains (cond v (make h (h ∷ t) ∷ []) []) (make h (h ∷ t))) (sym e) (here (make h (h ∷ t)) [])

    shown_first : (h : A) (t rest : List A) (lots : List (List A)) → ((y : A) → Contains t y → key h ≡ key y) → ((y : A) → Contains rest y → is_before (key h) (key y) ≡ true)
        → (a : A) → key h ≡ key a → IsShown ((h ∷ t) ++ rest) (found ((h ∷ t) ∷ lots)) a
    shown_first h t rest lots own after a e = (
      h,
      here h (t ++ rest),
      e,
      λ p.
          Contains-append_left (found_in test make (h ∷ t)) (found lots) (make h (filter (same h) ((h ∷ t) ++ rest)))
          (subst (λ l. Contains (found_in test make (h ∷ t)) (make h l)) (sym (whole h t rest own after)) (in_lot h t (ap (test h) (sym (whole h t rest own after)) ∙ p))),
    )

    to_found : (xs : List A) (lots : List (List A)) → AreLots xs lots → (a : A) → Contains xs a → IsShown xs (found lots) a
    to_found xs [] are a i = absurd (nothing_in a (subst (λ ys. Contains ys a) are i))
    to_found xs ([] ∷ lots) are a i = absurd are
    to_found xs ((h ∷ t) ∷ lots) (rest, is, own, after, more) a i = subst (λ ys. IsShown ys (found ((h ∷ t) ∷ lots)) a) (sym is)
        (elim (Contains-append_cases (h ∷ t) rest a (subst (λ ys. Contains ys a) is i)) [
          | inl j ↦ shown_first h t rest lots own after a (elim (parts h t a j) [ inl f ↦ ap key f | inr k ↦ own a k ])
          | inr j ↦ (let k = to_found rest lots more a j in
              let same_lot = further h t rest k.0 own (after k.0 k.1) in (
                k.0,
                Contains-append_right (h ∷ t) rest k.0 k.1,
                k.2,
                λ p.
                    Contains-append_right (found_in test make (h ∷ t)) (found lots) (make k.0 (filter (same k.0) ((h ∷ t) ++ rest)))
                    (subst (λ l. Contains (found lots) (make k.0 l)) (sym same_lot) (k.3 (ap (test k.0) (sym same_lot) ∙ p))),
              ))
        ])

    module _ (found_key : B → List ℕ) (rise : (a b : A) (la lb : List A) → is_before (key a) (key b) ≡ true → is_before (found_key (make a la)) (found_key (make b lb)) ≡ true) where
      one_ascends : (h : A) (t : List A) (v : Bool) → Ascends found_key (cond v (make h (h ∷ t) ∷ []) [])
      one_ascends h t true = (λ y i. absurd (nothing_in y i), tt)
      one_ascends h t false = tt

      found_ascend : (xs : List A) (lots : List (List A)) → AreLots xs lots → Ascends found_key (found lots)
      found_ascend xs [] are = tt
      found_ascend xs ([] ∷ lots) are = absurd are
      found_ascend xs ((h ∷ t) ∷ lots) (rest, is, own, after, more) =
          joined_ascend found_key (found_in test make (h ∷ t)) (found lots) (one_ascends h t (test h (h ∷ t))) (found_ascend rest lots more)
          (λ f g i j.
          let k = (from_lot h t f (test h (h ∷ t)) refl i).1 in
          let l = from_found rest lots more g j in
          subst (λ z. is_before (found_key z) (found_key g) ≡ true) (sym k) (subst (λ z. is_before (found_key (make h (h ∷ t))) (found_key z) ≡ true) (sym l.3)
          (rise h l.0 (h ∷ t) (filter (same l.0) rest) (after l.0 l.1))))

  -- exactly the findings of lots that pass the test are found, in order
  module _ (test : A → List A → Bool) (make : A → List A → FindingEntry) (name : A → Finding) (named : (a : A) (lot : List A) → finding_of (make a lot) ≡ name a)
      (one_name : (a b : A) → key a ≡ key b → name a ≡ name b)
      (rise : (a b : A) → is_before (key a) (key b) ≡ true → is_before (finding_key (name a)) (finding_key (name b)) ≡ true)
      (xs : List A) (rises : Rises key xs) where
    pub all_found : (P : Finding → Type 0)
        → ((f : Finding) → P f → (a : A) × Contains xs a × (f ≡ name a) × ((h : A) → Contains xs h → key h ≡ key a → test h (filter (same h) xs) ≡ true))
        → ((a : A) → Contains xs a → test a (filter (same a) xs) ≡ true → P (name a))
        → IsAll P finding_key (map finding_of (flat_map (found_in test make) (lots_of same xs)))
    all_found P shown only = record {
      all = λ f p.
          let y = shown f p in
          let s = to_found test make xs (lots_of same xs) (lots_are xs rises) y.0 y.1 in
          subst (Contains (map finding_of (flat_map (found_in test make) (lots_of same xs))))
          (named s.0 (filter (same s.0) xs) ∙ one_name s.0 y.0 s.2 ∙ sym y.2)
          (in_map finding_of (flat_map (found_in test make) (lots_of same xs)) (make s.0 (filter (same s.0) xs)) (s.3 (y.3 s.0 s.1 s.2)));
      only = λ f i.
          let e = from_map finding_of (flat_map (found_in test make) (lots_of same xs)) f i in
          let s = from_found test make xs (lots_of same xs) (lots_are xs rises) e.0 e.1 in
          subst P (sym (named s.0 (filter (same s.0) xs)) ∙ ap finding_of (sym s.3) ∙ e.2) (only s.0 s.1 s.2);
      ordered = ascending finding_key (map finding_of (flat_map (found_in test make) (lots_of same xs)))
          (mapped_ascend finding_of finding_key (flat_map (found_in test make) (lots_of same xs))
          (found_ascend test make (λ e. finding_key (finding_of e)) (λ a b la lb h.
          subst (λ f. is_before (finding_key f) (finding_key (finding_of (make b lb))) ≡ true) (sym (named a la))
          (subst (λ f. is_before (finding_key (name a)) (finding_key f) ≡ true) (sym (named b lb)) (rise a b h))) xs (lots_of same xs) (lots_are xs rises)));
    }

    pub each_found : (P : FindingEntry → Type 0) → ((a : A) → Contains xs a → P (make a (filter (same a) xs))) → (e : FindingEntry) → Contains (flat_map (found_in test make) (lots_of same xs)) e → P e
    each_found P h e i = let s = from_found test make xs (lots_of same xs) (lots_are xs rises) e i in subst P (sym s.3) (h s.0 s.1)

-- ---- what differs in a lot

module _ {A X : Type 0} (eq : X → X → Bool) (decides : (x y : X) → (eq x y ≡ true) ↔ (x ≡ y)) (f : A → X) where
  -- some item of a lot differs from its first where any two differ
  pub some_differ : (h a b : A) (es : List A) → Contains es a → Contains es b → f a ≢ f b → list_any (λ e. not (eq (f e) (f h))) es ≡ true
  some_differ h a b es i j n = go (eq (f a) (f h)) refl (eq (f b) (f h)) refl
    where
      at : (e : A) → Contains es e → eq (f e) (f h) ≡ false → list_any (λ e. not (eq (f e) (f h))) es ≡ true
      at e k p = list_any-from_Any (λ e. not (eq (f e) (f h))) es (k.0, e, k.1, k.2, not_from_false (eq (f e) (f h)) p)

      go : (u : Bool) → eq (f a) (f h) ≡ u → (v : Bool) → eq (f b) (f h) ≡ v → list_any (λ e. not (eq (f e) (f h))) es ≡ true
      go false p v q = at a i p
      go true p false q = at b j q
      go true p true q = absurd (n ((decides (f a) (f h)).0 p ∙ sym ((decides (f b) (f h)).0 q)))

  pub one_differs : (h : A) (es : List A) → list_any (λ e. not (eq (f e) (f h))) es ≡ true → (e : A) × Contains es e × (f h ≢ f e)
  one_differs h es p =
      let (k, e, l, at, q) = Any-from_list_any (λ e. not (eq (f e) (f h))) es p in
      (e, (k, l, at), λ same. both_ways (eq (f e) (f h)) (not-true (eq (f e) (f h)) q) ((decides (f e) (f h)).1 (sym same)))

-- ---- lots as they are cut off

module _ {A : Type 0} (same : A → A → Bool) where
  begins : (x : A) (xs : List A) → (ys : List A) × (lots : List (List A)) × (lots_of same (x ∷ xs) ≡ (x ∷ ys) ∷ lots)
  begins x xs = go (lots_of same xs)
    where
      go : (lots : List (List A)) → (ys : List A) × (more : List (List A)) × (onto_lots same x lots ≡ (x ∷ ys) ∷ more)
      go [] = ([], [], refl)
      go ([] ∷ lots) = ([], lots, refl)
      go ((y ∷ ys) ∷ lots) = by (same x y)
        where
          by : (v : Bool) → (zs : List A) × (more : List (List A)) × (cond v ((x ∷ y ∷ ys) ∷ lots) ((x ∷ []) ∷ (y ∷ ys) ∷ lots) ≡ (x ∷ zs) ∷ more)
          by true = (y ∷ ys, lots, refl)
          by false = ([], (y ∷ ys) ∷ lots, refl)

  -- a lot that ends before one that doesn't belong to it
  ends : (x : A) (rest : List A) → ((y : A) (ys : List A) → rest ≡ y ∷ ys → same x y ≡ false) → onto_lots same x (lots_of same rest) ≡ (x ∷ []) ∷ lots_of same rest
  ends x [] seam = refl
  ends x (y ∷ ys) seam =
      let b = begins y ys in
      ap (onto_lots same x) b.2 ∙ ap (λ v. cond v ((x ∷ y ∷ b.0) ∷ b.1) ((x ∷ []) ∷ (y ∷ b.0) ∷ b.1)) (seam y ys refl) ∙ ap (λ lots. (x ∷ []) ∷ lots) (sym b.2)

  pub cut_off : (lot rest : List A) → 0 < length lot → IsChunkByPrefix same (lot ++ rest) (length lot) → lots_of same (lot ++ rest) ≡ lot ∷ lots_of same rest
  cut_off [] rest some h = absurd (omega (arith, some))
  cut_off (x ∷ []) rest some h = ends x rest (λ y ys e. seam y ys e h)
    where
      seam : (y : A) (ys : List A) → rest ≡ y ∷ ys → IsChunkByPrefix same (x ∷ rest) 1 → same x y ≡ false
      seam y ys e h = (subst (λ zs. IsChunkByPrefix same (x ∷ zs) 1) e h).1 (omega arith) x
  cut_off (x ∷ y ∷ lot) rest some h =
      ap (onto_lots same x) (cut_off (y ∷ lot) rest (omega arith) (inner h))
      ∙ ap (λ v. cond v ((x ∷ y ∷ lot) ∷ lots_of same rest) ((x ∷ []) ∷ (y ∷ lot) ∷ lots_of same rest)) (h.0 0 x (omega arith))
    where
      inner : IsChunkByPrefix same (x ∷ y ∷ lot ++ rest) (suc (suc (length lot))) → IsChunkByPrefix same (y ∷ lot ++ rest) (suc (length lot))
      inner h = (
        λ k d l. subst (λ n. same (slice_index_or (x ∷ y ∷ lot ++ rest) (suc k) d) (slice_index_or (x ∷ y ∷ lot ++ rest) n d) ≡ true) (let e : suc k + 1 ≡ suc (k + 1) = omega arith in e) (h.0 (suc k) d (omega (arith, l))),
        λ l d. subst (λ n. same (slice_index_or (x ∷ y ∷ lot ++ rest) n d) (slice_index_or (x ∷ y ∷ lot ++ rest) (suc (suc (length lot))) d) ≡ false) (let e : suc (suc (length lot)) - 1 ≡ suc (suc (length lot) - 1) = omega arith in e) (h.1 (omega (arith, l)) d),
      )

  -- one lot more, of a list whose lots give all that is added
  pub one_lot : {B : Type 0} (f : List A → List B) (xs lot rest : List A) (old new all : List B) → xs ≡ lot ++ rest → 0 < length lot → IsChunkByPrefix same xs (length lot)
      → new ≡ old ++ f lot → old ++ flat_map f (lots_of same xs) ≡ all → new ++ flat_map f (lots_of same rest) ≡ all
  one_lot f xs lot rest old new all is some cut added h =
      ap (λ ys. ys ++ flat_map f (lots_of same rest)) added
      ∙ append_assoc old (f lot) (flat_map f (lots_of same rest))
      ∙ ap (λ ls. old ++ flat_map f ls) (sym (ap (lots_of same) is ∙ cut_off lot rest some (subst (λ ys. IsChunkByPrefix same ys (length lot)) is cut))) ∙ h

  pub last_lot : {B : Type 0} (f : List A → List B) (xs : List A) (new all : List B) → length xs ≡ 0 → new ++ flat_map f (lots_of same xs) ≡ all → new ≡ all
  last_lot f [] new all e h = sym (append-nil new) ∙ h
  last_lot f (x ∷ xs) new all e h = absurd (omega (arith, e))
