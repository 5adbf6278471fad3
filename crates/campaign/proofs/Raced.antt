-- Lists of races, and what the settling flops' races ask for.
use Rattle.std.proofs.Common.{◌≡◌, ◌≢◌, ◌∙◌, ℕ, ◌==◌, nat_lt, Bool, true, false, cond, not, ◌&&◌, List, [], ◌∷◌, ◌++◌, Contains, Some, None, ◌⊎◌, inl, inr, refl, sym, ap, subst, arith, ltb-true, eqb-true}
use Rattle.std.specs.List.{flat_map, AllByRecursion}
use Rattle.std.proofs.lemmas.Bool.{and_parts, or_cases}
use Rattle.std.proofs.lemmas.List.Elements.{Contains-append_cases}
use Rattle.cdc_base.specs.declared.bit.Bit.{Bit}
use Rattle.cell_graph.specs.Reading.{bit_eq}
use Rattle.cell_graph.proofs.Bits.{bit_eq-true, bit_eq-refl}
use Rattle.cdc_model.specs.declared.record.Race.{Race}
use Rattle.cdc_model.specs.declared.scheme.Crossing.{Crossing}
use Rattle.cdc_model.specs.Replay.{race_of}
use Rattle.cdc_model.proofs.Ascending.{here, later, parts, nothing_in}
use Rattle.campaign.specs.declared.toss.Toss.{Toss}
use Rattle.campaign.specs.Campaign.{is_before, own_race, race_if, races_before, races_behind, captured_races}
use Rattle.campaign.specs.Draws.{word, behind, with_words}
use Rattle.campaign.specs.Drawn.{race_of_toss, toss}
use Rattle.campaign.proofs.Passing.{AreApart, each-of, of-each}
use Rattle.campaign.proofs.FlopRaces.{race-bit}

-- no bit stands before one that stands before it
before-once : (a b : Bit) → is_before a b ≡ true → is_before b a ≡ true → ⊥
before-once a b h k = elim (or_cases (nat_lt a.sig b.sig) ((a.sig == b.sig) && nat_lt a.at b.at) h) [
  | inl l ↦ elim (or_cases (nat_lt b.sig a.sig) ((b.sig == a.sig) && nat_lt b.at a.at) k) [
    | inl m ↦ (let p = ltb-true a.sig b.sig l in let q = ltb-true b.sig a.sig m in omega (arith, p, q))
    | inr m ↦ (let p = ltb-true a.sig b.sig l in let q = eqb-true b.sig a.sig (and_parts (b.sig == a.sig) (nat_lt b.at a.at) m).0 in omega (arith, p, q))
  ]
  | inr l ↦ elim (or_cases (nat_lt b.sig a.sig) ((b.sig == a.sig) && nat_lt b.at a.at) k) [
    | inl m ↦ (let p = eqb-true a.sig b.sig (and_parts (a.sig == b.sig) (nat_lt a.at b.at) l).0 in let q = ltb-true b.sig a.sig m in omega (arith, p, q))
    | inr m ↦ (let p = ltb-true a.at b.at (and_parts (a.sig == b.sig) (nat_lt a.at b.at) l).1 in let q = ltb-true b.at a.at (and_parts (b.sig == a.sig) (nat_lt b.at a.at) m).1 in omega (arith, p, q))
  ]
]

-- a bit that no race of the list is of has none there
pub race-absent : (rs : List Race) (y : Bit) → ((r : Race) → Contains rs r → r.bit ≢ y) → race_of rs y ≡ None
race-absent [] y h = refl
race-absent (r ∷ rs) y h =
    ap (λ t. cond t (Some r) (race_of rs y)) (apart (bit_eq r.bit y) refl) ∙ race-absent rs y (λ q i. h q (later r rs q i))
  where
    apart : (t : Bool) → bit_eq r.bit y ≡ t → bit_eq r.bit y ≡ false
    apart true e = absurd (h r (here r rs) (bit_eq-true r.bit y e))
    apart false e = e

-- a toss that is drawn is that of a flop
pub toss-from : (cs : List Crossing) (rng : List ℕ) (t : Toss) → Contains (with_words toss rng cs) t → (w : ℕ) × (c : Crossing) × Contains cs c × (toss w c ≡ t)
toss-from [] rng t i = absurd (nothing_in t i)
toss-from (c ∷ cs) rng t i = elim (parts (toss (word rng) c) (with_words toss (behind rng) cs) t i) [
  | inl e ↦ (word rng, c, here c cs, e)
  | inr j ↦ let p = toss-from cs (behind rng) t j in (p.0, p.1, later c cs p.1 p.2, p.3)
]

pub tosses-apart : (cs : List Crossing) (rng : List ℕ) → AreApart (λ (c : Crossing). c.to) cs → AreApart (λ (t : Toss). t.flop) (with_words toss rng cs)
tosses-apart [] rng h = tt
tosses-apart (c ∷ cs) rng h = (others cs (behind rng) h.0, tosses-apart cs (behind rng) h.1)
  where
    others : (ds : List Crossing) (g : List ℕ) → AllByRecursion (λ d. c.to ≢ d.to) ds → AllByRecursion (λ (t : Toss). c.to ≢ t.flop) (with_words toss g ds)
    others [] g k = tt
    others (d ∷ ds) g k = (k.0, others ds (behind g) k.1)

-- ---- the races that stay

module _ (test : Toss → Bool) where
  pub stays-from : (ts : List Toss) (r : Race) → Contains (flat_map (λ t. race_if (test t) t) ts) r → (t : Toss) × Contains ts t × (test t ≡ true) × (race_of_toss t ≡ r)
  stays-from [] r i = absurd (nothing_in r i)
  stays-from (t ∷ ts) r i = go (test t) refl i (stays-from ts r)
    where
      more : (u : Toss) × Contains ts u × (test u ≡ true) × (race_of_toss u ≡ r) → (u : Toss) × Contains (t ∷ ts) u × (test u ≡ true) × (race_of_toss u ≡ r)
      more p = (p.0, later t ts p.0 p.1, p.2, p.3)

      go : (v : Bool) → test t ≡ v → Contains (race_if v t ++ flat_map (λ t. race_if (test t) t) ts) r
          → (Contains (flat_map (λ t. race_if (test t) t) ts) r → (u : Toss) × Contains ts u × (test u ≡ true) × (race_of_toss u ≡ r))
          → (u : Toss) × Contains (t ∷ ts) u × (test u ≡ true) × (race_of_toss u ≡ r)
      go true e j ih = elim (parts (race_of_toss t) (flat_map (λ t. race_if (test t) t) ts) r j) [
        | inl f ↦ (t, here t ts, e, f)
        | inr k ↦ more (ih k)
      ]
      go false e j ih = more (ih j)

  pub stays-apart : (ts : List Toss) → AreApart (λ (t : Toss). t.flop) ts → AreApart (λ (r : Race). r.bit) (flat_map (λ t. race_if (test t) t) ts)
  stays-apart [] h = tt
  stays-apart (t ∷ ts) h = go (test t) (stays-apart ts h.1)
    where
      go : (v : Bool) → AreApart (λ (r : Race). r.bit) (flat_map (λ t. race_if (test t) t) ts) → AreApart (λ (r : Race). r.bit) (race_if v t ++ flat_map (λ t. race_if (test t) t) ts)
      go true k = (
        each-of (λ (r : Race). (race_of_toss t).bit ≢ r.bit) (flat_map (λ t. race_if (test t) t) ts) (λ r i e.
            let p = stays-from ts r i in
            of-each (λ (u : Toss). t.flop ≢ u.flop) ts p.0 h.0 p.1 (sym (race-bit t) ∙ e ∙ sym (ap (λ (q : Race). q.bit) p.3) ∙ race-bit p.0)),
        k,
      )
      go false k = k

each-append : {A : Type 0} (P : A → Type 0) (xs ys : List A) → AllByRecursion P xs → AllByRecursion P ys → AllByRecursion P (xs ++ ys)
each-append P [] ys h k = k
each-append P (x ∷ xs) ys h k = (h.0, each-append P xs ys h.1 k)

apart-append : {A K : Type 0} (key : A → K) (xs ys : List A) → AreApart key xs → AreApart key ys → ((x y : A) → Contains xs x → Contains ys y → key x ≢ key y) → AreApart key (xs ++ ys)
apart-append key [] ys h k l = k
apart-append key (x ∷ xs) ys h k l = (
  each-append (λ y. key x ≢ key y) xs ys h.0 (each-of (λ y. key x ≢ key y) ys (λ y i. l x y (here x xs) i)),
  apart-append key xs ys h.1 k (λ z y i j. l z y (later x xs z i) j),
)

-- ---- the races of a capturing step

module _ (ts : List Toss) (c : Crossing) where
  abbrev before-test : Toss → Bool
  before-test t = is_before t.flop c.to && not (bit_eq t.source c.to)

  abbrev behind-test : Toss → Bool
  behind-test t = is_before c.to t.flop && not (bit_eq t.source c.to)

  kept : (t : Toss) → not (bit_eq t.source c.to) ≡ true → t.source ≢ c.to
  kept t h e = go (bit_eq t.source c.to) refl h
    where
      go : (v : Bool) → bit_eq t.source c.to ≡ v → not v ≡ true → ⊥
      go true f k = cc
      go false f k = let same : bit_eq t.source c.to ≡ true = subst (λ (x : Bit). bit_eq t.source x ≡ true) e (bit_eq-refl t.source) in cc

  -- a race is the capture's own, or that of a flop that doesn't copy the bit that captures
  pub captured-from : (r : Race) → Contains (captured_races ts c) r → (own_race c ≡ r) ⊎ ((t : Toss) × Contains ts t × (t.source ≢ c.to) × (race_of_toss t ≡ r))
  captured-from r i = elim (Contains-append_cases (races_before c.to ts ++ own_race c ∷ []) (races_behind c.to ts) r i) [
    | inl j ↦ elim (Contains-append_cases (races_before c.to ts) (own_race c ∷ []) r j) [
      | inl k ↦ (let p = stays-from before-test ts r k in inr (p.0, p.1, kept p.0 (and_parts (is_before p.0.flop c.to) (not (bit_eq p.0.source c.to)) p.2).1, p.3))
      | inr k ↦ elim (parts (own_race c) [] r k) [
        | inl e ↦ inl e
        | inr l ↦ absurd (nothing_in r l)
      ]
    ]
    | inr j ↦ (let p = stays-from behind-test ts r j in inr (p.0, p.1, kept p.0 (and_parts (is_before c.to p.0.flop) (not (bit_eq p.0.source c.to)) p.2).1, p.3))
  ]

  module _ (apart : AreApart (λ (t : Toss). t.flop) ts) (plain : (t : Toss) → Contains ts t → t.flop ≢ c.to) where
    own-apart : AreApart (λ (r : Race). r.bit) (races_before c.to ts ++ own_race c ∷ [])
    own-apart = apart-append (λ (r : Race). r.bit) (races_before c.to ts) (own_race c ∷ []) (stays-apart before-test ts apart) (tt, tt) (λ r q i j e.
        let p = stays-from before-test ts r i in
        elim (parts (own_race c) [] q j) [
          | inl f ↦ plain p.0 p.1 (sym (race-bit p.0) ∙ ap (λ (x : Race). x.bit) p.3 ∙ e ∙ sym (ap (λ (x : Race). x.bit) f))
          | inr l ↦ nothing_in q l
        ])

    pub captured-apart : AreApart (λ (r : Race). r.bit) (captured_races ts c)
    captured-apart = apart-append (λ (r : Race). r.bit) (races_before c.to ts ++ own_race c ∷ []) (races_behind c.to ts) own-apart (stays-apart behind-test ts apart) (λ r q i j e.
        let p = stays-from behind-test ts q j in
        let there : q.bit ≡ p.0.flop = sym (ap (λ (x : Race). x.bit) p.3) ∙ race-bit p.0 in
        elim (Contains-append_cases (races_before c.to ts) (own_race c ∷ []) r i) [
          | inl k ↦ (
              let o = stays-from before-test ts r k in
              let at : p.0.flop ≡ o.0.flop = sym there ∙ sym e ∙ sym (ap (λ (x : Race). x.bit) o.3) ∙ race-bit o.0 in
              before-once c.to o.0.flop
              (subst (λ (x : Bit). is_before c.to x ≡ true) at (and_parts (is_before c.to p.0.flop) (not (bit_eq p.0.source c.to)) p.2).0)
              (and_parts (is_before o.0.flop c.to) (not (bit_eq o.0.source c.to)) o.2).0
              )
          | inr k ↦ elim (parts (own_race c) [] r k) [
            | inl f ↦ plain p.0 p.1 (sym there ∙ sym e ∙ sym (ap (λ (x : Race). x.bit) f))
            | inr l ↦ nothing_in r l
          ]
        ])
