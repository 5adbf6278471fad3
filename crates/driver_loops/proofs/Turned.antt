-- Links that are turned round.
use Rattle.std.proofs.Common.{◌≡◌, ◌≢◌, ◌∙◌, ◌⊎◌, ◌↔◌, inl, inr, sym, ap, ap₂, subst, refl, arith, ℕ, zero, suc, ◌<◌, ◌≤◌, ◌+◌, List, [], ◌∷◌, ◌++◌, length, take, get_or, max, nat_eq, Bool, true, false}
use Rattle.std.specs.List.{All, Contains}
use Rattle.std.specs.List.Sorted.{IsNonDecreasingBy, IsPermutation}
use Rattle.std.proofs.lemmas.List.Sorted.{Contains-permutation, IsPermutation-sym}
use Rattle.std.proofs.lemmas.Bool.Decides.{nat_tests}
use Rattle.std.proofs.lemmas.List.{take_more, take_all, get_or_default}
use Rattle.std.proofs.lemmas.List.Elements.{Contains-get_or, Contains-push, Contains-push_cases, Contains-append_left}
use Rattle.driver_loops.specs.Links.{ends_of, extended, IsLink}
use Rattle.driver_loops.proofs.Members.{nothing_in}

pub begun_ends : (rs : List (List ℕ)) (v : ℕ) → ends_of (rs ++ [] ∷ []) v ≡ ends_of rs v
begun_ends [] zero = refl
begun_ends [] (suc v) = refl
begun_ends (r ∷ rs) zero = refl
begun_ends (r ∷ rs) (suc v) = begun_ends rs v

pub extended-length : (rs : List (List ℕ)) (es : List ℕ) → length (extended rs es) ≡ length rs
extended-length [] es = refl
extended-length (r ∷ []) es = refl
extended-length (r ∷ s ∷ rs) es = ap suc (extended-length (s ∷ rs) es)

pub extended_last : (rs : List (List ℕ)) (es : List ℕ) (k : ℕ) → length rs ≡ suc k → ends_of (extended rs es) k ≡ ends_of rs k ++ es
extended_last [] es k h = absurd (omega arith)
extended_last (r ∷ []) es zero h = refl
extended_last (r ∷ []) es (suc k) h = absurd (omega arith)
extended_last (r ∷ s ∷ rs) es zero h = absurd (omega arith)
extended_last (r ∷ s ∷ rs) es (suc k) h = extended_last (s ∷ rs) es k (omega arith)

pub extended_other : (rs : List (List ℕ)) (es : List ℕ) (k v : ℕ) → length rs ≡ suc k → v ≢ k → ends_of (extended rs es) v ≡ ends_of rs v
extended_other [] es k v h d = absurd (omega arith)
extended_other (r ∷ []) es k zero h d = absurd (d (omega arith))
extended_other (r ∷ []) es k (suc v) h d = refl
extended_other (r ∷ s ∷ rs) es k zero h d = refl
extended_other (r ∷ s ∷ rs) es zero (suc v) h d = absurd (omega arith)
extended_other (r ∷ s ∷ rs) es (suc k) (suc v) h d = extended_other (s ∷ rs) es k v (omega arith) (λ e. d (ap suc e))

-- the links of the pairs so far; none is of a vertex above those to come
pub record AreJoined (pairs : List (ℕ × ℕ)) (count i : ℕ) (links : List (List ℕ)) : Type 0 where
  pub short : (k : ℕ) (d : ℕ × ℕ) → i ≤ k → k < length pairs → length links ≤ (get_or pairs k d).0 + 1
  pub ends : (w v : ℕ) → Contains (ends_of links w) v ↔ Contains (take i pairs) (w, v)
  pub within : length links ≤ count

module _ (pairs : List (ℕ × ℕ)) (count i : ℕ) (links begun : List (List ℕ)) (d : ℕ × ℕ) (lt : i < length pairs) (old : AreJoined pairs count i links)
    (rise : IsNonDecreasingBy (λ (p : ℕ × ℕ). p.0) pairs) (all : All (λ (p : ℕ × ℕ). p.0 < count) pairs)
    (size : length begun ≡ max ((get_or pairs i d).0 + 1) (length links)) (same : (v : ℕ) → ends_of begun v ≡ ends_of links v) where
  exact_size : length begun ≡ suc ((get_or pairs i d).0)
  exact_size = let s = old.short i d (omega arith) lt in let e = size in omega arith

  more : take (i + 1) pairs ≡ take i pairs ++ get_or pairs i d ∷ []
  more = take_more pairs i d lt

  there : (w v : ℕ) → Contains (ends_of (extended begun ((get_or pairs i d).1 ∷ [])) w) v → Contains (take i pairs ++ get_or pairs i d ∷ []) (w, v)
  there w v h = go (nat_eq w ((get_or pairs i d).0)) refl
    where
      go : (b : Bool) → nat_eq w ((get_or pairs i d).0) ≡ b → Contains (take i pairs ++ get_or pairs i d ∷ []) (w, v)
      go true c =
          let e : w ≡ (get_or pairs i d).0 = grind (arith, nat_tests) in
          let is = ap (λ x. ends_of (extended begun ((get_or pairs i d).1 ∷ [])) x) e ∙ extended_last begun ((get_or pairs i d).1 ∷ []) ((get_or pairs i d).0) exact_size
          ∙ ap (λ es. es ++ (get_or pairs i d).1 ∷ []) (same ((get_or pairs i d).0) ∙ ap (ends_of links) (sym e)) in
          elim (Contains-push_cases (ends_of links w) ((get_or pairs i d).1) v (subst (λ es. Contains es v) is h)) [
            | inl k ↦ Contains-append_left (take i pairs) (get_or pairs i d ∷ []) (w, v) ((old.ends w v).0 k)
            | inr f ↦
                let p : get_or pairs i d ≡ (w, v) = ap₂ (λ a b. (a, b)) (sym e) f in
                subst (λ q. Contains (take i pairs ++ get_or pairs i d ∷ []) q) p (Contains-push (take i pairs) (get_or pairs i d))
          ]
      go false c =
          let e : w ≢ (get_or pairs i d).0 = grind (arith, nat_tests) in
          Contains-append_left (take i pairs) (get_or pairs i d ∷ []) (w, v)
          ((old.ends w v).0 (subst (λ es. Contains es v) (extended_other begun ((get_or pairs i d).1 ∷ []) ((get_or pairs i d).0) w exact_size e ∙ same w) h))

  kept : (w v : ℕ) → Contains (ends_of links w) v → Contains (ends_of (extended begun ((get_or pairs i d).1 ∷ [])) w) v
  kept w v h = go (nat_eq w ((get_or pairs i d).0)) refl
    where
      go : (b : Bool) → nat_eq w ((get_or pairs i d).0) ≡ b → Contains (ends_of (extended begun ((get_or pairs i d).1 ∷ [])) w) v
      go true c =
          let e : w ≡ (get_or pairs i d).0 = grind (arith, nat_tests) in
          subst (λ x. Contains (ends_of (extended begun ((get_or pairs i d).1 ∷ [])) x) v) (sym e)
          (subst (λ es. Contains es v) (sym (extended_last begun ((get_or pairs i d).1 ∷ []) ((get_or pairs i d).0) exact_size))
          (Contains-append_left (ends_of begun ((get_or pairs i d).0)) ((get_or pairs i d).1 ∷ []) v
          (subst (λ es. Contains es v) (ap (ends_of links) e ∙ sym (same ((get_or pairs i d).0))) h)))
      go false c =
          let e : w ≢ (get_or pairs i d).0 = grind (arith, nat_tests) in
          subst (λ es. Contains es v) (sym (extended_other begun ((get_or pairs i d).1 ∷ []) ((get_or pairs i d).0) w exact_size e ∙ same w)) h

  back : (w v : ℕ) → Contains (take i pairs ++ get_or pairs i d ∷ []) (w, v) → Contains (ends_of (extended begun ((get_or pairs i d).1 ∷ [])) w) v
  back w v h = elim (Contains-push_cases (take i pairs) (get_or pairs i d) (w, v) h) [
    | inl k ↦ kept w v ((old.ends w v).1 k)
    | inr p ↦
        let e : (get_or pairs i d).0 ≡ w = ap (λ (q : ℕ × ℕ). q.0) p in
        let f : (get_or pairs i d).1 ≡ v = ap (λ (q : ℕ × ℕ). q.1) p in
        subst (λ x. Contains (ends_of (extended begun ((get_or pairs i d).1 ∷ [])) x) v) e
        (subst (λ es. Contains es v) (sym (extended_last begun ((get_or pairs i d).1 ∷ []) ((get_or pairs i d).0) exact_size))
        (subst (λ y. Contains (ends_of begun ((get_or pairs i d).0) ++ (get_or pairs i d).1 ∷ []) y) f (Contains-push (ends_of begun ((get_or pairs i d).0)) ((get_or pairs i d).1))))
  ]

  -- one pair more
  pub more_joined : AreJoined pairs count (i + 1) (extended begun ((get_or pairs i d).1 ∷ []))
  more_joined = record {
    short = λ k e le within.
        let r = rise i k e (omega arith) within in
        let s = get_or_default pairs i e d lt in
        let t = ap (λ (p : ℕ × ℕ). p.0) s in
        let n = extended-length begun ((get_or pairs i d).1 ∷ []) in
        let m = exact_size in
        omega arith;
    ends = λ w v. (λ h. subst (λ ps. Contains ps (w, v)) (sym more) (there w v h), λ h. back w v (subst (λ ps. Contains ps (w, v)) more h));
    within = let a = all i d lt in let n = extended-length begun ((get_or pairs i d).1 ∷ []) in let m = exact_size in omega arith;
  }

pub none_joined : (pairs : List (ℕ × ℕ)) (count : ℕ) → AreJoined pairs count 0 []
none_joined pairs count = record {
  short = λ k d le within. omega arith;
  ends = λ w v. (λ h. absurd (nothing_in v h), λ h. absurd (nothing_in (w, v) h));
  within = omega arith;
}

-- ---- the links of one vertex, each with its end first

module _ (ends : List ℕ) (count vertex : ℕ) (old : List (ℕ × ℕ)) where
  abbrev pub AreTurned : ℕ → List (ℕ × ℕ) → Type 0
  AreTurned i new = (w v : ℕ) → Contains new (w, v) ↔ (Contains old (w, v) ⊎ ((v ≡ vertex) × (Contains (take i ends) w × (w < count))))

  module _ (i : ℕ) (lt : i < length ends) (now : List (ℕ × ℕ)) (is : AreTurned i now) where
    next : take (i + 1) ends ≡ take i ends ++ get_or ends i 0 ∷ []
    next = take_more ends i 0 lt

    earlier : (w v : ℕ) → Contains now (w, v) → Contains old (w, v) ⊎ ((v ≡ vertex) × (Contains (take (i + 1) ends) w × (w < count)))
    earlier w v h = elim ((is w v).0 h) [
      | inl k ↦ inl k
      | inr k ↦ inr (k.0, (subst (λ es. Contains es w) (sym next) (Contains-append_left (take i ends) (get_or ends i 0 ∷ []) w k.1.0), k.1.1))
    ]

    -- an end that is no vertex is passed over
    pub one_passed : count ≤ get_or ends i 0 → AreTurned (i + 1) now
    one_passed high w v = (
      earlier w v,
      λ h. elim h [
        | inl k ↦ (is w v).1 (inl k)
        | inr k ↦ elim (Contains-push_cases (take i ends) (get_or ends i 0) w (subst (λ es. Contains es w) next k.1.0)) [
          | inl j ↦ (is w v).1 (inr (k.0, (j, k.1.1)))
          | inr e ↦ absurd (let l = k.1.1 in omega arith)
        ]
      ],
    )

    pub one_turned : get_or ends i 0 < count → AreTurned (i + 1) (now ++ (get_or ends i 0, vertex) ∷ [])
    one_turned low w v = (there, back)
      where
        there : Contains (now ++ (get_or ends i 0, vertex) ∷ []) (w, v) → Contains old (w, v) ⊎ ((v ≡ vertex) × (Contains (take (i + 1) ends) w × (w < count)))
        there h = elim (Contains-push_cases now (get_or ends i 0, vertex) (w, v) h) [
          | inl k ↦ earlier w v k
          | inr p ↦
              let e : get_or ends i 0 ≡ w = ap (λ (q : ℕ × ℕ). q.0) p in
              let f : vertex ≡ v = ap (λ (q : ℕ × ℕ). q.1) p in
              inr (sym f, (subst (λ es. Contains es w) (sym next) (subst (λ y. Contains (take i ends ++ get_or ends i 0 ∷ []) y) e (Contains-push (take i ends) (get_or ends i 0))), subst (λ y. y < count) e low))
        ]

        back : Contains old (w, v) ⊎ ((v ≡ vertex) × (Contains (take (i + 1) ends) w × (w < count))) → Contains (now ++ (get_or ends i 0, vertex) ∷ []) (w, v)
        back (inl k) = Contains-append_left now ((get_or ends i 0, vertex) ∷ []) (w, v) ((is w v).1 (inl k))
        back (inr k) = elim (Contains-push_cases (take i ends) (get_or ends i 0) w (subst (λ es. Contains es w) next k.1.0)) [
          | inl j ↦ Contains-append_left now ((get_or ends i 0, vertex) ∷ []) (w, v) ((is w v).1 (inr (k.0, (j, k.1.1))))
          | inr e ↦
              let p : (get_or ends i 0, vertex) ≡ (w, v) = ap₂ (λ a b. (a, b)) e (sym k.0) in
              subst (λ q. Contains (now ++ (get_or ends i 0, vertex) ∷ []) q) p (Contains-push now (get_or ends i 0, vertex))
        ]

-- the ends that are all followed
pub all_turned : (ls : List (List ℕ)) (vertex : ℕ) (old new : List (ℕ × ℕ)) (ends : List ℕ) (count i : ℕ) → ends ≡ ends_of ls vertex → count ≡ length ls → length ends ≤ i → AreTurned ends count vertex old i new
    → (w v : ℕ) → Contains new (w, v) ↔ (Contains old (w, v) ⊎ ((v ≡ vertex) × IsLink ls vertex w))
all_turned ls vertex old new ends count i are n past is w v =
    let all = take_all i ends past in (
      λ h. elim ((is w v).0 h) [
        | inl k ↦ inl k
        | inr k ↦ inr (k.0, record { end = subst (λ es. Contains es w) (all ∙ are) k.1.0; vertex = subst (λ m. w < m) n k.1.1 })
      ],
      λ h. elim h [
        | inl k ↦ (is w v).1 (inl k)
        | inr k ↦ (is w v).1 (inr (k.0, (subst (λ es. Contains es w) (sym (all ∙ are)) k.1.end, subst (λ m. w < m) (sym n) k.1.vertex)))
      ],
    )

-- ---- the links of several vertices

module _ (ls : List (List ℕ)) (vertices : List ℕ) where
  abbrev pub AreAllTurned : ℕ → List (ℕ × ℕ) → Type 0
  AreAllTurned i new = (w v : ℕ) → Contains new (w, v) ↔ (Contains (take i vertices) v × IsLink ls v w)

  pub one_vertex_more : (i : ℕ) → i < length vertices → (old new : List (ℕ × ℕ)) → AreAllTurned i old
      → ((w v : ℕ) → Contains new (w, v) ↔ (Contains old (w, v) ⊎ ((v ≡ get_or vertices i 0) × IsLink ls (get_or vertices i 0) w))) → AreAllTurned (i + 1) new
  one_vertex_more i lt old new is step w v = (there, back)
    where
      more : take (i + 1) vertices ≡ take i vertices ++ get_or vertices i 0 ∷ []
      more = take_more vertices i 0 lt

      there : Contains new (w, v) → Contains (take (i + 1) vertices) v × IsLink ls v w
      there h = elim ((step w v).0 h) [
        | inl k ↦
            let r = (is w v).0 k in
            (subst (λ vs. Contains vs v) (sym more) (Contains-append_left (take i vertices) (get_or vertices i 0 ∷ []) v r.0), r.1)
        | inr k ↦ (
          subst (λ vs. Contains vs v) (sym more) (subst (λ x. Contains (take i vertices ++ get_or vertices i 0 ∷ []) x) (sym k.0) (Contains-push (take i vertices) (get_or vertices i 0))),
          subst (λ x. IsLink ls x w) (sym k.0) k.1,
        )
      ]

      back : Contains (take (i + 1) vertices) v × IsLink ls v w → Contains new (w, v)
      back h = elim (Contains-push_cases (take i vertices) (get_or vertices i 0) v (subst (λ vs. Contains vs v) more h.0)) [
        | inl k ↦ (step w v).1 (inl ((is w v).1 (k, h.1)))
        | inr e ↦ (step w v).1 (inr (sym e, subst (λ x. IsLink ls x w) (sym e) h.1))
      ]

  -- in another order, no pair is of a vertex that isn't there
  pub all_below : (i : ℕ) (old new : List (ℕ × ℕ)) → IsPermutation old new → AreAllTurned i old → All (λ (p : ℕ × ℕ). p.0 < length ls) new
  all_below i old new same is k d lt =
      let p = get_or new k d in
      ((is p.0 p.1).0 (Contains-permutation new old p (IsPermutation-sym old new same) (Contains-get_or new k d lt))).1.vertex

  pub reversed_all : (i : ℕ) (old new : List (ℕ × ℕ)) (back : List (List ℕ)) → length vertices ≤ i → IsPermutation old new → AreAllTurned i old
      → ((w v : ℕ) → Contains (ends_of back w) v ↔ Contains new (w, v)) → (v w : ℕ) → Contains (ends_of back w) v ↔ (Contains vertices v × IsLink ls v w)
  reversed_all i old new back past same is joined v w =
      let all = take_all i vertices past in (
        λ h.
            let r = (is w v).0 (Contains-permutation new old (w, v) (IsPermutation-sym old new same) ((joined w v).0 h)) in
            (subst (λ vs. Contains vs v) all r.0, r.1),
        λ h. (joined w v).1 (Contains-permutation old new (w, v) same ((is w v).1 (subst (λ vs. Contains vs v) (sym all) h.0, h.1))),
      )
