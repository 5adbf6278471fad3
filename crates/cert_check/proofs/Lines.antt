-- The line of the first bad item, by its kind and its place among the items of its kind.
use Rattle.std.proofs.Common.{◌≡◌, inl, inr, refl, ap, subst, arith, ℕ, zero, suc, ◌+◌, ◌<◌, Some, Option, List, [], ◌∷◌, ◌++◌, map, length, length-append, slice_get, Contains}
use Rattle.std.proofs.lemmas.List.{append-nil, length-map}
use Rattle.std.proofs.lemmas.List.Elements.{Contains-append_cases}
use Rattle.std.proofs.lemmas.Option.{slice_get_within}
use Rattle.cdc_model.specs.declared.scheme.GrayReg.{GrayReg}
use Rattle.cdc_model.specs.declared.scheme.Load.{Load}
use Rattle.cdc_model.specs.declared.scheme.Ring.{Ring as RingEntry}
use Rattle.cdc_model.specs.declared.scheme.Sync.{Sync as SyncEntry}
use Rattle.cdc_model.specs.Design.{Design}
use Rattle.cdc_model.specs.Schemes.{Trees}
use Rattle.cdc_model.proofs.Ascending.{from_map}
use Rattle.cert_text.specs.declared.certificate.Certificate.{Certificate}
use Rattle.cert_text.specs.declared.certificate.Entry.{Entry}
use Rattle.cert_text.specs.declared.certificate.Entry.TheVariants as entry
use Rattle.fifo_scheme.specs.declared.found.FifoPair.{FifoPair}
use Rattle.cert_text.specs.Texts.{entries_of}
use Rattle.cert_check.specs.Certified.{IsItem, IsSyncItem, IsRingItem, IsLoadItem}
use Rattle.cert_check.specs.Checked.{IsFirstBad}
use Rattle.cert_check.specs.Items.{AllBefore, IsFirstFailing}

many : {A B : Type 0} (f : B → A) (xs : List B) → length (map f xs) ≡ length xs
many f [] = refl
many f (x ∷ xs) = ap suc (many f xs)

-- ---- the first bad one of joined lists

module _ {A : Type 0} (P : A → Type 0) where
  module _ {B : Type 0} (f : B → A) where
    at_left : (xs : List B) (ys : List A) (i : ℕ) (x : B) → slice_get xs i ≡ Some x → slice_get (map f xs ++ ys) i ≡ Some (f x)
    at_left [] ys i x e = cc
    at_left (z ∷ xs) ys zero x e = let h : z ≡ x = cc in ap (λ y. Some (f y)) h
    at_left (z ∷ xs) ys (suc i) x e = at_left xs ys i x e

    from_left : (xs : List B) (ys : List A) (i : ℕ) (y : A) → i < length xs → slice_get (map f xs ++ ys) i ≡ Some y → (x : B) × (slice_get xs i ≡ Some x) × (f x ≡ y)
    from_left [] ys i y l e = absurd (omega arith)
    from_left (z ∷ xs) ys zero y l e = (z, refl, cc)
    from_left (z ∷ xs) ys (suc i) y l e = from_left xs ys i y (omega arith) e

    -- it stands in the first list
    first_left : (xs : List B) (ys : List A) (i : ℕ) → IsFirstFailing (λ x. P (f x)) xs (Some i) → IsFirstFailing P (map f xs ++ ys) (Some i)
    first_left xs ys i (x, at, bad, before) = (
      f x,
      at_left xs ys i x at,
      bad,
      λ j y l e.
          let m = slice_get_within xs i x at in
          let r = from_left xs ys j y (omega arith) e in
          subst P r.2 (before j r.0 l r.1),
    )

    -- the one list is all there is
    first_mapped : (xs : List B) (i : ℕ) → IsFirstFailing (λ x. P (f x)) xs (Some i) → IsFirstFailing P (map f xs) (Some i)
    first_mapped xs i h = subst (λ (ys : List A). IsFirstFailing P ys (Some i)) (append-nil (map f xs)) (first_left xs [] i h)

    each_mapped : (xs : List B) → ((x : B) → Contains xs x → P (f x)) → (y : A) → Contains (map f xs) y → P y
    each_mapped xs h y i = let r = from_map f xs y i in subst P r.2 (h r.0 r.1)

  -- or all of the first list are good
  first_right : (xs ys : List A) → ((x : A) → Contains xs x → P x) → (i : ℕ) → IsFirstFailing P ys (Some i) → (n : ℕ) → n ≡ length xs + i → IsFirstFailing P (xs ++ ys) (Some n)
  first_right [] ys h i k n e = subst (λ m. IsFirstFailing P ys (Some m)) (let f : i ≡ n = omega arith in f) k
  first_right (x ∷ xs) ys h i k zero e = absurd (omega arith)
  first_right (x ∷ xs) ys h i k (suc n) e =
      let (y, at, bad, before) = first_right xs ys (λ z j. h z (suc j.0, (let l = j.1 in omega arith), j.2)) i k n (omega arith) in
      (y, at, bad, further before)
    where
      further : AllBefore P (xs ++ ys) n → AllBefore P (x ∷ (xs ++ ys)) (suc n)
      further before zero z l f = subst P (let g : x ≡ z = cc in g) (h x (0, omega arith, refl))
      further before (suc j) z l f = before j z (omega arith) f

  each_joined : (xs ys : List A) → ((x : A) → Contains xs x → P x) → ((y : A) → Contains ys y → P y) → (z : A) → Contains (xs ++ ys) z → P z
  each_joined xs ys h k z i = elim (Contains-append_cases xs ys z i) [ inl j ↦ h z j | inr j ↦ k z j ]

-- the same of equal lists and answers
pub given : {A : Type 0} (P : A → Type 0) (xs ys : List A) (o p : Option ℕ) → xs ≡ ys → o ≡ p → IsFirstFailing P xs o → IsFirstFailing P ys p
given P xs ys o p e f h = subst (λ zs. IsFirstFailing P zs p) e (subst (IsFirstFailing P xs) f h)

-- the first failing item is one of the list
pub place_within : {A : Type 0} (P : A → Type 0) (xs : List A) (i : ℕ) → IsFirstFailing P xs (Some i) → i < length xs
place_within P xs i (x, at, bad, before) = slice_get_within xs i x at

module _ (d : Design) (t : Trees) (is_gray : GrayReg → Type 0) (stands : FifoPair → Type 0) (c : Certificate) where
  pub count_entries : length (entries_of c) ≡ length c.syncs + (length c.grays + (length c.rings + (length c.loads + length c.fifos)))
  count_entries = simp (length-append, length-map)

  at_line : (i line : ℕ) → line ≡ i + 2 → IsFirstFailing (IsItem d t is_gray stands c) (entries_of c) (Some i) → IsFirstBad d t is_gray stands c line
  at_line i line l (e, at, bad, before) = (i, e, l, at, bad, before)

  pub bad_sync : (place line : ℕ) → IsFirstFailing (IsSyncItem d t) c.syncs (Some place) → line ≡ 2 + place → IsFirstBad d t is_gray stands c line
  bad_sync place line h l = at_line place line (omega arith) (first_left (IsItem d t is_gray stands c) entry.Sync c.syncs _ place h)

  module _ (syncs : (s : SyncEntry) → Contains c.syncs s → IsSyncItem d t s) where
    good_syncs : (e : Entry) → Contains (map entry.Sync c.syncs) e → IsItem d t is_gray stands c e
    good_syncs = each_mapped (IsItem d t is_gray stands c) entry.Sync c.syncs syncs

    pub bad_gray : (place line : ℕ) → IsFirstFailing (λ g. is_gray g) c.grays (Some place) → line ≡ 2 + length c.syncs + place → IsFirstBad d t is_gray stands c line
    bad_gray place line h l = at_line (length c.syncs + place) line (omega arith)
        (first_right (IsItem d t is_gray stands c) (map entry.Sync c.syncs) _ good_syncs place
        (first_left (IsItem d t is_gray stands c) entry.Gray c.grays _ place h) (length c.syncs + place) (let n = many entry.Sync c.syncs in omega arith))

    module _ (grays : (g : GrayReg) → Contains c.grays g → is_gray g) where
      good_grays : (e : Entry) → Contains (map entry.Gray c.grays) e → IsItem d t is_gray stands c e
      good_grays = each_mapped (IsItem d t is_gray stands c) entry.Gray c.grays grays

      pub bad_ring : (place line : ℕ) → IsFirstFailing (IsRingItem d t c.syncs) c.rings (Some place) → line ≡ 2 + length c.syncs + length c.grays + place → IsFirstBad d t is_gray stands c line
      bad_ring place line h l = at_line (length c.syncs + (length c.grays + place)) line (omega arith)
          (first_right (IsItem d t is_gray stands c) (map entry.Sync c.syncs) _ good_syncs (length c.grays + place)
          (first_right (IsItem d t is_gray stands c) (map entry.Gray c.grays) _ good_grays place
          (first_left (IsItem d t is_gray stands c) entry.Ring c.rings _ place h) (length c.grays + place) (let n = many entry.Gray c.grays in omega arith))
          (length c.syncs + (length c.grays + place)) (let n = many entry.Sync c.syncs in omega arith))

      module _ (rings : (r : RingEntry) → Contains c.rings r → IsRingItem d t c.syncs r) where
        good_rings : (e : Entry) → Contains (map entry.Ring c.rings) e → IsItem d t is_gray stands c e
        good_rings = each_mapped (IsItem d t is_gray stands c) entry.Ring c.rings rings

        pub bad_load : (place line : ℕ) → IsFirstFailing (IsLoadItem d t c.rings) c.loads (Some place) → line ≡ 2 + length c.syncs + length c.grays + length c.rings + place
            → IsFirstBad d t is_gray stands c line
        bad_load place line h l = at_line (length c.syncs + (length c.grays + (length c.rings + place))) line (omega arith)
            (first_right (IsItem d t is_gray stands c) (map entry.Sync c.syncs) _ good_syncs (length c.grays + (length c.rings + place))
            (first_right (IsItem d t is_gray stands c) (map entry.Gray c.grays) _ good_grays (length c.rings + place)
            (first_right (IsItem d t is_gray stands c) (map entry.Ring c.rings) _ good_rings place
            (first_left (IsItem d t is_gray stands c) entry.Load c.loads _ place h) (length c.rings + place) (let n = many entry.Ring c.rings in omega arith))
            (length c.grays + (length c.rings + place)) (let n = many entry.Gray c.grays in omega arith))
            (length c.syncs + (length c.grays + (length c.rings + place))) (let n = many entry.Sync c.syncs in omega arith))

        module _ (loads : (l : Load) → Contains c.loads l → IsLoadItem d t c.rings l) where
          good_loads : (e : Entry) → Contains (map entry.Load c.loads) e → IsItem d t is_gray stands c e
          good_loads = each_mapped (IsItem d t is_gray stands c) entry.Load c.loads loads

          pub bad_fifo : (place line : ℕ) → IsFirstFailing stands c.fifos (Some place)
              → line ≡ 2 + (length c.syncs + (length c.grays + (length c.rings + (length c.loads + place)))) → IsFirstBad d t is_gray stands c line
          bad_fifo place line h l = at_line (length c.syncs + (length c.grays + (length c.rings + (length c.loads + place)))) line (omega arith)
              (first_right (IsItem d t is_gray stands c) (map entry.Sync c.syncs) _ good_syncs (length c.grays + (length c.rings + (length c.loads + place)))
              (first_right (IsItem d t is_gray stands c) (map entry.Gray c.grays) _ good_grays (length c.rings + (length c.loads + place))
              (first_right (IsItem d t is_gray stands c) (map entry.Ring c.rings) _ good_rings (length c.loads + place)
              (first_right (IsItem d t is_gray stands c) (map entry.Load c.loads) (map entry.Fifo c.fifos) good_loads place
              (first_mapped (IsItem d t is_gray stands c) entry.Fifo c.fifos place h) (length c.loads + place) (let n = many entry.Load c.loads in omega arith))
              (length c.rings + (length c.loads + place)) (let n = many entry.Ring c.rings in omega arith))
              (length c.grays + (length c.rings + (length c.loads + place))) (let n = many entry.Gray c.grays in omega arith))
              (length c.syncs + (length c.grays + (length c.rings + (length c.loads + place)))) (let n = many entry.Sync c.syncs in omega arith))

          pub all_good : ((p : FifoPair) → Contains c.fifos p → stands p) → (e : Entry) → Contains (entries_of c) e → IsItem d t is_gray stands c e
          all_good fifos = each_joined (IsItem d t is_gray stands c) (map entry.Sync c.syncs) _ good_syncs
              (each_joined (IsItem d t is_gray stands c) (map entry.Gray c.grays) _ good_grays
              (each_joined (IsItem d t is_gray stands c) (map entry.Ring c.rings) _ good_rings
              (each_joined (IsItem d t is_gray stands c) (map entry.Load c.loads) _ good_loads
              (each_mapped (IsItem d t is_gray stands c) entry.Fifo c.fifos fifos))))
