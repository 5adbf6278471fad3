-- A design without findings has fewer rings than its registers have bits, 64 times over.
use Rattle.std.proofs.Common.{◌≡◌, ◌≢◌, ◌∙◌, ℕ, zero, suc, ◌+◌, ◌*◌, ◌^◌, ◌<◌, ◌≤◌, ◌-◌, Bool, true, false, List, [], ◌∷◌, map, length, Contains, Option, Some, None, option_map, ◌⊎◌, inl, inr, refl, sym, ap, subst, arith, eqb-true}
use Rattle.std.specs.Prelude.{slice_get}
use Rattle.std.specs.List.{AllByRecursion, IsDistinct, list_any}
use Rattle.std.proofs.Math.Dec.{eqb}
use Rattle.std.proofs.lemmas.Bool.{both_ways, cases_lt, ne_eqb}
use Rattle.std.proofs.lemmas.List.{length-map}
use Rattle.std.proofs.lemmas.List.Folds.{Any-from_list_any}
use Rattle.std.proofs.lemmas.Map.Keys.{IsDistinct-cons}
use Rattle.std.proofs.lemmas.Map.Steps.{length-le_from_distinct_below}
use Rattle.cdc_base.specs.declared.bit.Bit.{Bit}
use Rattle.cell_graph.specs.Reading.{bit_eq, Reading}
use Rattle.cell_graph.proofs.Bits.{bit_eq-refl, bit_eq-true}
use Rattle.cdc_model.specs.declared.scheme.GrayReg.{GrayReg}
use Rattle.cdc_model.specs.declared.scheme.Load.{Load}
use Rattle.cdc_model.specs.Design.{Design, group, is_behind, settle_of}
use Rattle.cdc_model.specs.Ordered.{IsAll, IsAscending, is_before}
use Rattle.cdc_model.specs.Schemes.{AreTrees, IsRing, IsSync, Justified, Ring, Sync, Trees, acknowledge, last_flop, request}
use Rattle.cdc_model.specs.Together.{OneFamily, Reads}
use Rattle.cdc_model.specs.Verdict.{ring_key, sync_key}
use Rattle.cdc_model.proofs.Ascending.{here, later, parts, from_map}
use Rattle.cdc_model.proofs.Behind.{at_behind, behind_unique, next_behind, source_clock}
use Rattle.cdc_model.proofs.Flips.{same_clock_not_async}
use Rattle.cdc_model.proofs.Justify.{in_slice}
use Rattle.cdc_model.proofs.Ordered.{never_before}
use Rattle.cdc_model.proofs.Rings.{last_at}

-- ---- lists in the order of keys

module _ {A : Type 0} (key : A → List ℕ) (xs : List A) (up : IsAscending key xs) where
  not-later : (i j : ℕ) (x y : A) → slice_get xs i ≡ Some x → slice_get xs j ≡ Some y → key x ≡ key y → i < j → ⊥
  not-later i j x y at there e l =
      both_ways (is_before (key x) (key x)) (never_before (key x)) (subst (λ (k : List ℕ). is_before (key x) k ≡ true) (sym e) (up i j x y l at there))

  -- items of one key are one
  pub one-item : (x y : A) → Contains xs x → Contains xs y → key x ≡ key y → x ≡ y
  one-item x y h k e = go (cases_lt h.0 k.0) (cases_lt k.0 h.0)
    where
      at : slice_get xs h.0 ≡ Some x
      at = in_slice xs x h

      there : slice_get xs k.0 ≡ Some y
      there = in_slice xs y k

      go : (h.0 < k.0) ⊎ (k.0 ≤ h.0) → (k.0 < h.0) ⊎ (h.0 ≤ k.0) → x ≡ y
      go (inl l) m = absurd (not-later h.0 k.0 x y at there e l)
      go (inr l) (inl m) = absurd (not-later k.0 h.0 y x there at (sym e) m)
      go (inr l) (inr m) =
          let same : h.0 ≡ k.0 = omega (arith, l, m) in
          let both : Some x ≡ Some y = sym at ∙ ap (slice_get xs) same ∙ there in
          cc

-- ---- rings

-- a bit and a place in a word, as a number
abbrev number_of : Bit → ℕ → ℕ
number_of b k = (b.sig * 64 + b.at) * 64 + k

one-number : (b c : Bit) (k m : ℕ) → b.at < 64 → c.at < 64 → k < 64 → m < 64 → number_of b k ≡ number_of c m → (b ≡ c) × (k ≡ m)
one-number b c k m lb lc lk lm e =
    let sig : b.sig ≡ c.sig = omega (arith, e, lb, lc, lk, lm) in
    let at : b.at ≡ c.at = omega (arith, e, lb, lc, lk, lm) in
    let place : k ≡ m = omega (arith, e, lb, lc, lk, lm) in
    ((λ i. record { sig = sig i; at = at i }), place)

module _ (d : Design) (t : Trees) (laws : AreTrees d t) (syncs : List Sync) (all : IsAll (IsSync d t) sync_key syncs) (grays : List GrayReg) (rings : List Ring) (loads : List Load)
    (is_extra : Bit → Bit → Bool) (ok : Justified d t syncs grays rings loads is_extra) (one : OneFamily d t syncs) where
  -- a synchronizer is told by its first flop, and by its source and the group that it enters
  by-first : (s r : Sync) → Contains syncs s → Contains syncs r → s.first ≡ r.first → s ≡ r
  by-first s r i j e = one-item sync_key syncs all.ordered s r i j (ap (λ (b : Bit). b.sig ∷ b.at ∷ []) e)

  by-source : (s r : Sync) → Contains syncs s → Contains syncs r → s.from ≡ r.from → group d s.first ≡ group d r.first → s ≡ r
  by-source s r i j e g =
      let place : i.0 ≡ j.0 = ok.once i.0 j.0 s r (in_slice syncs s i) (in_slice syncs r j) e g in
      let both : Some s ≡ Some r = sym (in_slice syncs s i) ∙ ap (slice_get syncs) place ∙ in_slice syncs r j in
      cc

  last-behind : (s : Sync) → Contains syncs s → (n : ℕ) × (is_behind d s.first n (last_flop s) ≡ true)
  last-behind s i =
      let l = last_at d t (settle_of d s.first) (3 - settle_of d s.first) s.first s.more (ok.are_syncs s i).chain in
      (l.0, at_behind d t laws syncs ok.are_syncs s i l.0 (last_flop s) l.2)

  -- no flop copies itself
  no-own-copy : (s : Sync) → Contains syncs s → (n : ℕ) (x : Bit) → is_behind d s.first n x ≡ true → d.copied x ≢ Some x
  no-own-copy s i zero x h e =
      let k = ok.are_syncs s i in
      let first : x ≡ s.first = bit_eq-true x s.first h in
      let both : Some x ≡ Some s.from = sym e ∙ ap d.copied first ∙ k.copy in
      let from : x ≡ s.from = cc in
      both_ways _ (same_clock_not_async d s.from s.first (ap d.clock (sym from ∙ first))) k.crossing.async
  no-own-copy s i (suc n) x h e =
      let b = next_behind d s.first n x h in
      let both : Some x ≡ Some b.2.0 = sym e ∙ b.2.1 in
      let same : b.2.0 ≡ x = cc in
      let u = behind_unique d t laws syncs ok.are_syncs s s i i n (suc n) x (subst (λ (z : Bit). is_behind d s.first n z ≡ true) same b.2.2) h in
      omega (arith, u.0)

  module _ (r : Ring) (is : IsRing d t syncs r) where
    abbrev last : Bit
    last = last_flop r.back

    -- the request is no plain copy: it stays where the ring's last flop differs from it
    no-copy : (b : Bit) → d.copied (request r) ≡ Some b → ⊥
    no-copy b e =
        let same : t.same [] (request r) ≡ Some b = sym (laws.copied (request r) is.registers.0) ∙ e in
        let copied : last ≡ b = laws.same_only [] (request r) b last is.registers.0 same is.reads in
        go copied same (bit_eq last (request r)) refl
      where
        reading : Reading
        reading a = bit_eq a (request r)

        go : last ≡ b → t.same [] (request r) ≡ Some b → (v : Bool) → bit_eq last (request r) ≡ v → ⊥
        go copied same true f =
            let here : last ≡ request r = bit_eq-true last (request r) f in
            let p = last-behind r.back is.back in
            no-own-copy r.back is.back p.0 last p.1 (ap d.copied here ∙ e ∙ ap Some (sym copied))
        go copied same false f =
            let stays = laws.known ((request r, true) ∷ (last, false) ∷ []) (request r) true is.registers.0 (is.waits true) reading (bit_eq-refl (request r), (f, tt)) in
            let takes = laws.same [] (request r) b is.registers.0 same reading tt in
            both_ways (d.next reading (request r)) (takes ∙ ap reading (sym copied) ∙ f) stays

    request-free : d.copied (request r) ≡ None
    request-free = go (d.copied (request r)) refl
      where
        go : (o : Option Bit) → d.copied (request r) ≡ o → d.copied (request r) ≡ None
        go None e = e
        go (Some b) e = absurd (no-copy b e)

    -- so it is no first flop
    request-no-first : (s : Sync) → Contains syncs s → request r ≢ s.first
    request-no-first s i e = let both : None ≡ Some s.from = sym request-free ∙ ap d.copied e ∙ (ok.are_syncs s i).copy in cc

    -- it reads what comes back from the acknowledgement
    reads-back : (g : ℕ) → group d (acknowledge r) ≡ Some g → (n : ℕ) × Reads d t syncs (request r) g n r.back last
    reads-back g e = let p = last-behind r.back is.back in (p.0, record { sync = is.back; from = e; arrival = p.1; reads = is.reads })

    acknowledge-group : (g : ℕ) × (group d (acknowledge r) ≡ Some g)
    acknowledge-group = let c = source_clock d r.back.from r.back.first (ok.are_syncs r.back is.back).crossing.async in (d.group_of c.0, ap (option_map d.group_of) c.1)

  -- a ring is told by its first flop there, and the place of its acknowledgement in its word
  one-ring : (r q : Ring) → IsRing d t syncs r → IsRing d t syncs q → r.there.first ≡ q.there.first → (acknowledge r).at ≡ (acknowledge q).at → r ≡ q
  one-ring r q h k e at = λ i. record { there = there i; back = back i }
    where
      there : r.there ≡ q.there
      there = by-first r.there q.there h.there k.there e

      together : group d (acknowledge q) ≡ group d (acknowledge r)
      together = k.there_group ∙ ap (group d) (sym e) ∙ sym h.there_group

      family : ((acknowledge r).sig ≡ (acknowledge q).sig) × (group d r.back.first ≡ group d q.back.first)
      family =
          let g = acknowledge-group r h in
          let a = reads-back r h g.0 g.1 in
          let b = reads-back q k g.0 (together ∙ g.1) in
          let same : request q ≡ request r = ap (λ (s : Sync). s.from) (sym there) in
          one.one_family (request r) g.0 a.0 b.0 r.back q.back (last_flop r.back) (last_flop q.back) h.registers.0 (request-free r h) a.1
          (subst (λ (x : Bit). Reads d t syncs x g.0 b.0 q.back (last_flop q.back)) same b.1)

      source : acknowledge r ≡ acknowledge q
      source = λ i. record { sig = family.0 i; at = at i }

      back : r.back ≡ q.back
      back = by-source r.back q.back h.back k.back source family.1

  -- bits of registers are few
  module _ (small : (b : Bit) → d.is_register b ≡ true → (b.sig < 2 ^ 20) × (b.at < 64)) where
    abbrev number : Ring → ℕ
    number r = number_of r.there.first (acknowledge r).at

    abbrev AreRings : List Ring → Type 0
    AreRings rs = (r : Ring) → Contains rs r → IsRing d t syncs r

    first-small : (r : Ring) → IsRing d t syncs r → (r.there.first.sig < 2 ^ 20) × (r.there.first.at < 64)
    first-small r h = small r.there.first (ok.are_syncs r.there h.there).crossing.register

    place-small : (r : Ring) → IsRing d t syncs r → (acknowledge r).at < 64
    place-small r h = (small (acknowledge r) h.registers.1).1

    below : (r : Ring) → IsRing d t syncs r → number r < 2 ^ 32
    below r h = let f = first-small r h in let p = place-small r h in omega (arith, f.0, f.1, p)

    apart-from : (n : ℕ) (rs : List Ring) → ((r : Ring) → Contains rs r → n ≢ number r) → AllByRecursion (λ (m : ℕ). eqb n m ≡ false) (map number rs)
    apart-from n [] h = tt
    apart-from n (r ∷ rs) h = (ne_eqb n (number r) (h r (here r rs)), apart-from n rs (λ q i. h q (later r rs q i)))

    numbers-apart : (rs : List Ring) → AreRings rs → IsAscending ring_key rs → IsDistinct eqb (map number rs)
    unfolding IsDistinct
    numbers-apart [] are up = tt
    numbers-apart (r ∷ rs) are up = (
      apart-from (number r) rs (λ q i e.
          let h = are r (here r rs) in
          let k = are q (later r rs q i) in
          let s = one-number r.there.first q.there.first (acknowledge r).at (acknowledge q).at (first-small r h).1 (first-small q k).1 (place-small r h) (place-small q k) e in
          let same = one-ring r q h k s.0 s.1 in
          both_ways (is_before (ring_key r) (ring_key r)) (never_before (ring_key r))
          (subst (λ (x : Ring). is_before (ring_key r) (ring_key x) ≡ true) (sym same) (up 0 (suc i.0) r q (omega arith) refl (in_slice rs q i)))),
      numbers-apart rs (λ q i. are q (later r rs q i)) (λ i j x y l a b. up (suc i) (suc j) x y (omega (arith, l)) a b),
    )

    pub few-rings : IsAll (IsRing d t syncs) ring_key rings → length rings < 2 ^ 32
    few-rings are = go rings are.only are.ordered
      where
        go : (rs : List Ring) → AreRings rs → IsAscending ring_key rs → length rs < 2 ^ 32
        go [] only up = omega arith
        go (r ∷ rs) only up =
            let h = only r (here r rs) in
            let q = small (request r) h.registers.0 in
            let more : ℕ = number_of (request r) 0 in
            let apart : AllByRecursion (λ (m : ℕ). eqb more m ≡ false) (map number (r ∷ rs)) = apart-from more (r ∷ rs) (λ x i e.
            let k = only x i in
            request-no-first r h x.there k.there (one-number (request r) x.there.first 0 (acknowledge x).at q.1 (first-small x k).1 (omega arith) (place-small x k) e).0) in
            let distinct = IsDistinct-cons eqb more (map number (r ∷ rs)) apart (numbers-apart (r ∷ rs) only up) in
            let l = length-le_from_distinct_below (more ∷ map number (r ∷ rs)) (2 ^ 32) distinct (bounded more (r ∷ rs) (omega (arith, q.0, q.1)) only) in
            let m = length-map (r ∷ rs) number in
            omega (arith, l, m)
          where
            bounded : (n : ℕ) (xs : List Ring) → n < 2 ^ 32 → AreRings xs → (k : ℕ) → list_any (eqb k) (n ∷ map number xs) ≡ true → k < 2 ^ 32
            bounded n xs l only k e =
                let a = Any-from_list_any (eqb k) (n ∷ map number xs) e in
                elim (parts n (map number xs) a.1 (a.0, a.2, a.3)) [
                  | inl f ↦ subst (λ (j : ℕ). j < 2 ^ 32) (f ∙ sym (eqb-true k a.1 a.4)) l
                  | inr i ↦ let x = from_map number xs a.1 i in subst (λ (j : ℕ). j < 2 ^ 32) (x.2 ∙ sym (eqb-true k a.1 a.4)) (below x.0 (only x.0 x.1))
                ]
