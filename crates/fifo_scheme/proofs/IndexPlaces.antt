-- Places that are kept by keys, of all items of a list.
use Rattle.std.proofs.Common.{◌≡◌, ◌∙◌, ◌↔◌, sym, ap, ap₂, subst, refl, inl, inr, ◌⊎◌, arith, rules, ℕ, ◌+◌, ◌<◌, ◌≤◌, ◌==◌, ◌&&◌}
use Rattle.std.proofs.Common.{Bool, true, false, cond, Option, Some, None, is_some, List, [], ◌∷◌, ◌++◌, length, slice_get, Contains, get_or}
use Rattle.std.proofs.Common.{take, eqb-true, eq-eqb}
use Rattle.std.proofs.lemmas.Bool.{and_parts, cases_lt}
use Rattle.std.proofs.lemmas.List.{take_more, take_all}
use Rattle.std.proofs.lemmas.List.Elements.{Contains-append_left, Contains-push, Contains-push_cases}
use Rattle.std.proofs.lemmas.Option.{slice_get_within}
use Rattle.std.specs.HashMap as hash
use Rattle.std.specs.HashMap.{HashMap}
use Rattle.std.specs.declared.vec.Vec.{Vec}
use Rattle.cdc_base.specs.contracts.bit.BitPartialEq.TheImpl as equality
use Rattle.cdc_base.specs.declared.bit.Bit.{Bit}
use Rattle.cell_graph.specs.Reading.{bit_eq}
use Rattle.cdc_model.proofs.Ascending.{nothing_in}
use Rattle.cdc_model.proofs.Justify.{in_slice}
use Rattle.fifo_parts.specs.declared.side.Side.{Side}
use Rattle.fifo_parts.specs.declared.words.Taking.{Taking}
use Rattle.fifo_parts.specs.Brought.{places_at, places_in}
use Rattle.fifo_parts.specs.Words.{lowest}
use Rattle.fifo_scheme.specs.Indexed.{AddsAt, IsCounter, IsPlaceOf}
use Rattle.fifo_scheme.specs.Judged.{ArePlaces}

same_is : (a b : Bit) → bit_eq a b ≡ true → a ≡ b
same_is a b h =
    let both = and_parts (a.sig == b.sig) (a.at == b.at) h in
    let s = eqb-true a.sig b.sig both.0 in
    let t = eqb-true a.at b.at both.1 in
    λ i. record { sig = s i; at = t i }

itself : (a : Bit) → bit_eq a a ≡ true
itself a = ap₂ (λ u v. u && v) (eq-eqb a.sig a.sig refl) (eq-eqb a.at a.at refl)

pub equal_is : (a b : Bit) → equality.ghosts.eq a b ≡ true → a ≡ b
equal_is a b h = search rules

-- ---- one place at one key, or at several

module _ {Z S : Type 0} (place : ℕ) (old new : HashMap Bit (Vec ℕ Z) S) where
  pub adds_one : (key : Bit) → places_at new key ≡ places_at old key ++ place ∷ []
      → ((other : Bit) → bit_eq key other ≡ false → places_at new other ≡ places_at old other) → AddsAt (λ b. b ≡ key) place old new
  adds_one key added kept b n = go (bit_eq key b) refl
    where
      go : (v : Bool) → bit_eq key b ≡ v → Contains (places_at new b) n ↔ (Contains (places_at old b) n ⊎ ((n ≡ place) × (b ≡ key)))
      go true e =
          let same = same_is key b e in
          let is = subst (λ (c : Bit). places_at new c ≡ places_at old c ++ place ∷ []) same added in (
            λ h. elim (Contains-push_cases (places_at old b) place n (subst (λ (ns : List ℕ). Contains ns n) is h)) [
              | inl i ↦ inl i
              | inr i ↦ inr (sym i, sym same)
            ],
            λ h. subst (λ (ns : List ℕ). Contains ns n) (sym is) (elim h [
              | inl i ↦ Contains-append_left (places_at old b) (place ∷ []) n i
              | inr i ↦ subst (Contains (places_at old b ++ place ∷ [])) (sym i.0) (Contains-push (places_at old b) place)
            ]),
          )
      go false e = (
        λ h. inl (subst (λ (ns : List ℕ). Contains ns n) (kept b e) h),
        λ h. elim h [
          | inl i ↦ subst (λ (ns : List ℕ). Contains ns n) (sym (kept b e)) i
          | inr i ↦ absurd (let t = itself key in let f = subst (λ (c : Bit). bit_eq key c ≡ false) i.1 e in let w : true ≡ false = sym t ∙ f in cc)
        ],
      )

  pub adds_iff : (Q R : Bit → Type 0) → ((b : Bit) → Q b ↔ R b) → AddsAt Q place old new → AddsAt R place old new
  adds_iff Q R same h b n = (
    λ k. elim ((h b n).0 k) [ inl i ↦ inl i | inr i ↦ inr (i.0, (same b).0 i.1) ],
    λ k. (h b n).1 (elim k [ inl i ↦ inl i | inr i ↦ inr (i.0, (same b).1 i.1) ]),
  )

pub adds_none : {Z S : Type 0} (keys : List Bit) (place : ℕ) (m : HashMap Bit (Vec ℕ Z) S) → AddsAt (Contains (take 0 keys)) place m m
adds_none keys place m b n = (λ h. inl h, λ h. elim h [ inl i ↦ i | inr i ↦ absurd (nothing_in b i.1) ])

pub adds_more : {Z S : Type 0} (keys : List Bit) (k : ℕ) (d : Bit) (place : ℕ) (start old new : HashMap Bit (Vec ℕ Z) S) → k < length keys
    → AddsAt (Contains (take k keys)) place start old
    → AddsAt (λ b. b ≡ get_or keys k d) place old new → AddsAt (Contains (take (k + 1) keys)) place start new
adds_more keys k d place start old new l h one b n = (
  λ i. elim ((one b n).0 i) [
    | inl j ↦ elim ((h b n).0 j) [
      | inl o ↦ inl o
      | inr o ↦ inr (
        o.0,
        subst (λ (bs : List Bit). Contains bs b) (sym (take_more keys k d l))
            (Contains-append_left (take k keys) (get_or keys k d ∷ []) b o.1),
      )
    ]
    | inr j ↦ inr (
      j.0,
      subst (λ (bs : List Bit). Contains bs b) (sym (take_more keys k d l))
          (subst (Contains (take k keys ++ get_or keys k d ∷ [])) (sym j.1) (Contains-push (take k keys) (get_or keys k d))),
    )
  ],
  λ i. (one b n).1 (elim i [
    | inl o ↦ inl ((h b n).1 (inl o))
    | inr o ↦ elim (Contains-push_cases (take k keys) (get_or keys k d) b (subst (λ (bs : List Bit). Contains bs b) (take_more keys k d l) o.1)) [
      | inl j ↦ inl ((h b n).1 (inr (o.0, j)))
      | inr j ↦ inr (o.0, sym j)
    ]
  ]),
)

pub adds_all : {Z S : Type 0} (keys : List Bit) (k place : ℕ) (start new : HashMap Bit (Vec ℕ Z) S) → length keys ≤ k
    → AddsAt (Contains (take k keys)) place start new → AddsAt (Contains keys) place start new
adds_all keys k place start new l h = subst (λ (bs : List Bit). AddsAt (Contains bs) place start new) (take_all k keys l) h

-- ---- the places of all items

module _ {A : Type 0} (P : Bit → A → Type 0) (xs : List A) where
  -- the places below k are those of the items of which P holds
  abbrev pub ArePlacesBelow : {Z S : Type 0} → ℕ → HashMap Bit (Vec ℕ Z) S → Type 0
  ArePlacesBelow k m = (b : Bit) (n : ℕ) → Contains (places_at m b) n ↔ ((x : A) × (n < k) × (slice_get xs n ≡ Some x) × P b x)

  pub places_begin : {Z S : Type 0} (m : HashMap Bit (Vec ℕ Z) S) → ((b : Bit) → hash.get equality.ghosts.eq m b ≡ None) → ArePlacesBelow 0 m
  places_begin m none b n = (
    λ h. absurd (nothing_in n (subst (λ o. Contains (places_in o) n) (none b) h)),
    λ h. absurd (let l = h.1 in omega arith),
  )

  pub places_more : {Z S : Type 0} (k : ℕ) (x : A) (old new : HashMap Bit (Vec ℕ Z) S) → slice_get xs k ≡ Some x → ArePlacesBelow k old
      → AddsAt (λ b. P b x) k old new → ArePlacesBelow (k + 1) new
  places_more k x old new at h adds b n = (
    λ i. elim ((adds b n).0 i) [
      | inl o ↦ let p = (h b n).0 o in (p.0, (let l = p.1 in omega arith), p.2, p.3)
      | inr o ↦ let e = o.0 in (x, omega arith, subst (λ (m : ℕ). slice_get xs m ≡ Some x) (sym e) at, o.1)
    ],
    λ p. (adds b n).1 (elim (cases_lt n k) [
      | inl l ↦ inl ((h b n).1 (p.0, l, p.2, p.3))
      | inr l ↦
          let m = p.1 in
          let e : n ≡ k = omega arith in
          let both : Some p.0 ≡ Some x = sym p.2 ∙ ap (slice_get xs) e ∙ at in
          let same : p.0 ≡ x = cc in
          inr (e, subst (P b) same p.3)
    ]),
  )

  pub places_end : {Z S : Type 0} (k : ℕ) (m : HashMap Bit (Vec ℕ Z) S) → length xs ≤ k → ArePlacesBelow k m → (b : Bit)
      → ArePlaces (P b) xs (places_at m b)
  places_end k m l h b n = (
    λ i. let p = (h b n).0 i in (p.0, p.2, p.3),
    λ p. (h b n).1 (p.0, (let w = slice_get_within xs n p.0 p.1 in omega arith), p.1, p.2),
  )

pub places_iff : {A : Type 0} (P R : A → Type 0) (xs : List A) (places : List ℕ) → ((x : A) → P x ↔ R x) → ArePlaces P xs places
    → ArePlaces R xs places
places_iff P R xs places same h n = (
  λ i. let p = (h n).0 i in (p.0, p.1, (same p.0).0 p.2),
  λ p. (h n).1 (p.0, p.1, (same p.0).1 p.2),
)

-- ---- the place of one item

-- the place is that of what the bit takes; or none before place k is
abbrev pub IsPlaceBelow : List Taking → ℕ → Bit → Option ℕ → Type 0
IsPlaceBelow ts k b None = (n : ℕ) (t : Taking) → n < k → slice_get ts n ≡ Some t → t.bit ≡ b → ⊥
IsPlaceBelow ts k b (Some n) = (t : Taking) × (slice_get ts n ≡ Some t) × (t.bit ≡ b)

pub place_more : (ts : List Taking) (k : ℕ) (t : Taking) (b : Bit) (old new : Option ℕ) → slice_get ts k ≡ Some t → IsPlaceBelow ts k b old
    → new ≡ cond (equality.ghosts.eq t.bit b) (Some k) old → IsPlaceBelow ts (k + 1) b new
place_more ts k t b old new at h e = subst (IsPlaceBelow ts (k + 1) b) (sym e) (go (equality.ghosts.eq t.bit b) refl old h)
  where
    refl_eq : (a : Bit) → equality.ghosts.eq a a ≡ true
    refl_eq a = itself a

    go : (v : Bool) → equality.ghosts.eq t.bit b ≡ v → (old : Option ℕ) → IsPlaceBelow ts k b old → IsPlaceBelow ts (k + 1) b (cond v (Some k) old)
    go true f old h = (t, at, equal_is t.bit b f)
    go false f (Some n) h = h
    go false f None h = λ n u l there same. elim (cases_lt n k) [
      | inl m ↦ h n u m there same
      | inr m ↦
          let e : n ≡ k = omega arith in
          let both : Some u ≡ Some t = sym there ∙ ap (slice_get ts) e ∙ at in
          let one : u ≡ t = cc in
          let bits : t.bit ≡ b = ap (λ (x : Taking). x.bit) (sym one) ∙ same in
          let yes = refl_eq t.bit in
          let no = subst (λ (c : Bit). equality.ghosts.eq t.bit c ≡ false) (sym bits) f in
          let w : true ≡ false = sym yes ∙ no in
          cc
    ]

pub place_end : (ts : List Taking) (k : ℕ) (b : Bit) (o : Option ℕ) → length ts ≤ k → IsPlaceBelow ts k b o → IsPlaceOf ts b o
place_end ts k b None l h = λ t i same. h i.0 t (let w = i.1 in omega arith) (in_slice ts t i) same
place_end ts k b (Some n) l h = h

-- ---- counters of sides

pub counter_there : {Z S : Type 0} (sides : List Side) (m : HashMap Bit (Vec ℕ Z) S) (count : ℕ)
    → ArePlaces (λ (s : Side). s.reg.count ≡ count) sides (places_at m (lowest count)) → IsCounter sides count
    → is_some (hash.get equality.ghosts.eq m (lowest count)) ≡ true
counter_there {Z} sides m count h c = go (hash.get equality.ghosts.eq m (lowest count)) ((h c.1.0).1 (c.0, in_slice sides c.0 c.1, c.2))
  where
    go : (o : Option (Vec ℕ Z)) → Contains (places_in o) c.1.0 → is_some o ≡ true
    go None i = absurd (nothing_in c.1.0 i)
    go (Some v) i = refl
