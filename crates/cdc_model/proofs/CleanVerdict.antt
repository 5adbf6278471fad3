-- A verdict without findings justifies the design by its lists.
use Rattle.std.proofs.Common.{subst, ltb-true, ltb-false, nat_lt, ◌≡◌, ◌≢◌, ℕ, ◌==◌, ◌&&◌, Bool, true, false, cond, Option, Some, None, option_map, List, [], ◌∷◌, Contains, ◌⊎◌, inl, inr, refl, sym, ap, ◌∙◌, arith, eqb-true}
use Rattle.std.specs.List.{list_any}
use Rattle.std.proofs.lemmas.Bool.{both_ways, and_parts, and_from, eqb-false}
use Rattle.std.proofs.lemmas.List.Folds.{Any-from_list_any, list_any-from_Any}
use Rattle.std.specs.Prelude.{slice_get}
use Rattle.cdc_base.specs.declared.bit.Bit.{Bit}
use Rattle.cell_graph.specs.Reading.{bit_eq}
use Rattle.cell_graph.proofs.Bits.{bit_eq-true, eq-bit_eq, cases_bit}
use Rattle.cdc_model.specs.declared.scheme.GrayReg.{GrayReg}
use Rattle.cdc_model.specs.Design.{Design, group}
use Rattle.cdc_model.specs.Ordered.{IsAll, is_before}
use Rattle.cdc_model.specs.declared.scheme.Load.{Load}
use Rattle.cdc_model.specs.Schemes.{Ring, IsSync, IsRing, Trees, IsCrossing, Sync, Justified}
use Rattle.cdc_model.specs.Together.{OneFamily}
use Rattle.cdc_model.specs.Verdict.{IsFinding, IsVerdict, IsFirstLoad, IsCover, crossing_key, sync_key, gray_key, ring_key, load_key, cover_key, finding_key, bit_key, is_code, AreCovers, Family, OfWord, OfBit, family, Finding, V1, V2, V3, V4, V5, V6, V7, V8, IsServed, IsPair, Verdict}
use Rattle.cdc_model.proofs.Justify.{slice_in}
use Rattle.cdc_model.proofs.Behind.{async_clock}
use Rattle.cdc_model.proofs.Ordered.{never_before, one_list}

none_found : {A : Type 0} (xs : List A) (x : A) → xs ≡ [] → Contains xs x → ⊥
none_found [] x e i = omega (arith, i.1)
none_found (y ∷ ys) x e i = cc

number_cases : (a b : ℕ) → (a ≡ b) ⊎ (a ≢ b)
number_cases a b = go (a == b) refl
  where
    go : (v : Bool) → (a == b) ≡ v → (a ≡ b) ⊎ (a ≢ b)
    go true h = inl (eqb-true a b h)
    go false h = inr (eqb-false a b h)

option_cases : (a b : Option ℕ) → (a ≡ b) ⊎ (a ≢ b)
option_cases None None = inl refl
option_cases None (Some b) = inr (λ e. cc)
option_cases (Some a) None = inr (λ e. cc)
option_cases (Some a) (Some b) = elim (number_cases a b) [ inl e ↦ inl (ap Some e) | inr n ↦ inr (λ e. n (cc)) ]

word_parts : (a b : ℕ) (g h : Option ℕ) → OfWord a g ≡ OfWord b h → (a ≡ b) × (g ≡ h)
word_parts a b g h e = (cc, cc)

bit_parts : (a b : Bit) (g h : Option ℕ) → OfBit a g ≡ OfBit b h → (a ≡ b) × (g ≡ h)
bit_parts a b g h e = (cc, cc)

word_no_bit : (a : ℕ) (b : Bit) (g h : Option ℕ) → OfWord a g ≡ OfBit b h → ⊥
word_no_bit a b g h e = cc

family_cases : (f h : Family) → (f ≡ h) ⊎ (f ≢ h)
family_cases (OfWord a g) (OfWord b h) = elim (number_cases a b) [
  | inl e ↦ elim (option_cases g h) [ inl f ↦ inl (cc) | inr n ↦ inr (λ k. n (word_parts a b g h k).1) ]
  | inr n ↦ inr (λ k. n (word_parts a b g h k).0)
]
family_cases (OfWord a g) (OfBit b h) = inr (word_no_bit a b g h)
family_cases (OfBit a g) (OfWord b h) = inr (λ e. word_no_bit b a h g (sym e))
family_cases (OfBit a g) (OfBit b h) = elim (cases_bit a b) [
  | inl e ↦ elim (option_cases g h) [ inl f ↦ inl (cc) | inr n ↦ inr (λ k. n (bit_parts a b g h k).1) ]
  | inr n ↦ inr (λ k. n (bit_parts a b g h k).0)
]

-- whether some item leads from the one bit to the other
one_or_none : {A : Type 0} (from to : A → Bit) (xs : List A) (b x : Bit) → ((a : A) × Contains xs a × (from a ≡ b) × (to a ≡ x)) ⊎ ((a : A) → Contains xs a → from a ≡ b → to a ≡ x → ⊥)
one_or_none {A} from to xs b x = go (list_any (λ (a : A). bit_eq (from a) b && bit_eq (to a) x) xs) refl
  where
    go : (u : Bool) → list_any (λ (a : A). bit_eq (from a) b && bit_eq (to a) x) xs ≡ u → ((a : A) × Contains xs a × (from a ≡ b) × (to a ≡ x)) ⊎ ((a : A) → Contains xs a → from a ≡ b → to a ≡ x → ⊥)
    go true h =
        let (n, a, lt, at, p) = Any-from_list_any (λ (a : A). bit_eq (from a) b && bit_eq (to a) x) xs h in
        let q = and_parts (bit_eq (from a) b) (bit_eq (to a) x) p in
        inl (a, (n, lt, at), bit_eq-true (from a) b q.0, bit_eq-true (to a) x q.1)
    go false h = inr (λ a i e f. both_ways (list_any (λ (a : A). bit_eq (from a) b && bit_eq (to a) x) xs) h
        (list_any-from_Any (λ (a : A). bit_eq (from a) b && bit_eq (to a) x) xs (i.0, a, i.1, i.2, and_from (bit_eq (from a) b) (bit_eq (to a) x) (eq-bit_eq (from a) b e) (eq-bit_eq (to a) x f))))

-- one family, one word and one group
family_parts : (v w : Bool) (s r : Bit) (g h : Option ℕ) → cond v (OfWord s.sig g) (OfBit s g) ≡ cond w (OfWord r.sig h) (OfBit r h) → (s.sig ≡ r.sig) × (g ≡ h)
family_parts true true s r g h e = word_parts s.sig r.sig g h e
family_parts true false s r g h e = absurd (word_no_bit s.sig r g h e)
family_parts false true s r g h e = absurd (word_no_bit r.sig s h g (sym e))
family_parts false false s r g h e = let p = bit_parts s r g h e in (ap (λ (b : Bit). b.sig) p.0, p.1)

module _ (d : Design) (t : Trees) (is_extra : Bit → Bit → Bool)
    (syncs : List Sync) (loads : List Load) (v : Verdict) (k : IsVerdict d t is_extra syncs loads v) (clean : v.findings ≡ []) where
  none : (f : Finding) → IsFinding d t v.grays syncs v.rings loads is_extra f → ⊥
  none f h = none_found v.findings f clean (k.all_findings.all f h)

  pub covers_are : AreCovers v.grays syncs loads v.covers
  covers_are c = (k.all_covers.only c, k.all_covers.all c)

  each : (b x : Bit) → IsCrossing d t b x → IsServed syncs loads is_extra b x
  each b x c = elim (one_or_none (λ (s : Sync). s.from) (λ (s : Sync). s.first) syncs b x) [
    | inl s ↦ inl s
    | inr no_sync ↦ elim (one_or_none (λ (l : Load). l.from) (λ (l : Load). l.to) loads b x) [
      | inl l ↦ inr (inl l)
      | inr no_load ↦ by_extra no_sync no_load (is_extra b x) refl
    ]
  ]
    where
      by_extra : ((s : Sync) → Contains syncs s → s.from ≡ b → s.first ≡ x → ⊥) → ((l : Load) → Contains loads l → l.from ≡ b → l.to ≡ x → ⊥)
          → (u : Bool) → is_extra b x ≡ u → IsServed syncs loads is_extra b x
      by_extra no_sync no_load true e = inr (inr e)
      by_extra no_sync no_load false e = absurd (none (V1 b x) ((c, unserved, none (V2 b x)), (λ n. none (V7 b x n)), (λ n. none (V8 b x n))))
        where
          unserved : IsServed syncs loads is_extra b x → ⊥
          unserved (inl s) = no_sync s.0 s.1 s.2 s.3
          unserved (inr (inl l)) = no_load l.0 l.1 l.2 l.3
          unserved (inr (inr h)) = both_ways (is_extra b x) e h

  -- a first flop's group
  group_is : (s : Sync) → Contains syncs s → (g : ℕ) × (group d s.first ≡ Some g)
  group_is s i = let c = async_clock d s.from s.first (k.all_syncs.only s i).crossing.async in (d.group_of c.0, ap (option_map d.group_of) c.1)

  pair_of : (s r : Sync) → Contains syncs s → Contains syncs r → group d s.first ≡ group d r.first → (g : ℕ) × IsPair d t v.grays syncs v.rings loads is_extra g s r
  pair_of s r i j same = let g = group_is s i in (g.0, record { one = i; other = j; one_group = g.1; other_group = sym same ∙ g.1 })

  code_cases : (w : ℕ) → ((g : GrayReg) × Contains v.grays g × (g.gray ≡ w)) ⊎ (is_code v.grays w ≡ false)
  code_cases w = go (is_code v.grays w) refl
    where
      go : (u : Bool) → is_code v.grays w ≡ u → ((g : GrayReg) × Contains v.grays g × (g.gray ≡ w)) ⊎ (is_code v.grays w ≡ false)
      go true h = let (n, g, lt, at, p) = Any-from_list_any (λ (g : GrayReg). g.gray == w) v.grays h in inl (g, (n, lt, at), eqb-true g.gray w p)
      go false h = inr h

  same_first : (s r : Sync) → Contains syncs s → Contains syncs r → s.from ≡ r.from → group d s.first ≡ group d r.first → s.first ≡ r.first
  same_first s r i j from same = elim (cases_bit s.first r.first) [
    | inl e ↦ e
    | inr n ↦ let p = pair_of s r i j same in absurd (none (V4 s.from p.0) (s, r, p.1, refl, sym from, n))
  ]

  once : (i j : ℕ) (s r : Sync) → slice_get syncs i ≡ Some s → slice_get syncs j ≡ Some r → s.from ≡ r.from → group d s.first ≡ group d r.first → i ≡ j
  once i j s r a b from same = go (nat_lt i j) (nat_lt j i) refl refl
    where
      first : s.first ≡ r.first
      first = same_first s r (slice_in syncs i s a) (slice_in syncs j r b) from same

      go : (u w : Bool) → nat_lt i j ≡ u → nat_lt j i ≡ w → i ≡ j
      go true w e f = absurd (both_ways (is_before (bit_key s.first []) (bit_key r.first [])) (ap (λ (x : Bit). is_before (bit_key s.first []) (bit_key x [])) (sym first) ∙ never_before (bit_key s.first []))
          (k.all_syncs.ordered i j s r (ltb-true i j e) a b))
      go false true e f = absurd (both_ways (is_before (bit_key r.first []) (bit_key s.first [])) (ap (λ (x : Bit). is_before (bit_key r.first []) (bit_key x [])) first ∙ never_before (bit_key r.first []))
          (k.all_syncs.ordered j i r s (ltb-true j i f) b a))
      go false false e f = let l = ltb-false i j e in let m = ltb-false j i f in omega arith

  words : (s r : Sync) → Contains syncs s → Contains syncs r → s.from.sig ≡ r.from.sig → group d s.first ≡ group d r.first
      → (s.from ≡ r.from) ⊎ ((g : GrayReg) × Contains v.grays g × (g.gray ≡ s.from.sig))
  words s r i j word same = elim (cases_bit s.from r.from) [
    | inl e ↦ inl e
    | inr n ↦ elim (code_cases s.from.sig) [
      | inl g ↦ inr g
      | inr h ↦ let p = pair_of s r i j same in absurd (none (V3 s.from.sig p.0) ((s, r, p.1, refl, sym word, n), h))
    ]
  ]

  pub justified : Justified d t syncs v.grays v.rings loads is_extra
  justified = record {
    are_syncs = k.all_syncs.only;
    are_grays = k.all_grays.only;
    are_rings = k.all_rings.only;
    are_loads = λ l i. (k.all_loads.only l i).load;
    each = each;
    once = once;
    words = words;
  }

  pub one_family : OneFamily d t syncs
  one_family = record {
    one_clock = λ s r i j word same. elim (option_cases (d.clock s.first) (d.clock r.first)) [
      | inl e ↦ e
      | inr n ↦ let p = pair_of s r i j same in absurd (none (V5 s.from.sig p.0) (s, r, p.1, refl, sym word, n))
    ];
    one_family = λ x g n m s r y z reg free h l. elim (family_cases (family d v.grays s) (family d v.grays r)) [
      | inl e ↦ family_parts (is_code v.grays s.from.sig) (is_code v.grays r.from.sig) s.from r.from (group d s.first) (group d r.first) e
      | inr ne ↦ absurd (none (V6 x g) (reg, free, (s, r, y, z, n, m, h, l, ne)))
    ];
  }

-- a design has one verdict
pub one_verdict : (d : Design) (t : Trees) (is_extra : Bit → Bit → Bool) (syncs syncs' : List Sync) (loads loads' : List Load) (v w : Verdict)
    → IsVerdict d t is_extra syncs loads v → IsVerdict d t is_extra syncs' loads' w
    → (v.crossings ≡ w.crossings) × (v.grays ≡ w.grays) × (v.rings ≡ w.rings) × (v.covers ≡ w.covers) × (v.findings ≡ w.findings)
one_verdict d t is_extra syncs syncs' loads loads' v w k l = (crossings, grays, rings, covers, findings)
  where
    crossings : v.crossings ≡ w.crossings
    crossings = one_list crossing_key (λ c. IsCrossing d t c.from c.to) v.crossings w.crossings k.all_crossings l.all_crossings

    same_syncs : syncs ≡ syncs'
    same_syncs = one_list sync_key (IsSync d t) syncs syncs' k.all_syncs l.all_syncs

    grays : v.grays ≡ w.grays
    grays = one_list gray_key (λ g. t.is_gray g ≡ true) v.grays w.grays k.all_grays l.all_grays

    rings : v.rings ≡ w.rings
    rings = one_list ring_key (IsRing d t syncs) v.rings w.rings k.all_rings (subst (λ (ss : List Sync). IsAll (IsRing d t ss) ring_key w.rings) (sym same_syncs) l.all_rings)

    same_loads : loads ≡ loads'
    same_loads = one_list load_key (IsFirstLoad d t v.rings) loads loads' k.all_loads (subst (λ (rs : List Ring). IsAll (IsFirstLoad d t rs) load_key loads') (sym rings) l.all_loads)

    covers : v.covers ≡ w.covers
    covers = one_list cover_key (IsCover v.grays syncs loads) v.covers w.covers k.all_covers
        (subst (λ (gs : List GrayReg). IsAll (IsCover gs syncs loads) cover_key w.covers) (sym grays)
        (subst (λ (ss : List Sync). IsAll (IsCover w.grays ss loads) cover_key w.covers) (sym same_syncs)
        (subst (λ (ls : List Load). IsAll (IsCover w.grays syncs' ls) cover_key w.covers) (sym same_loads) l.all_covers)))

    findings : v.findings ≡ w.findings
    findings = one_list finding_key (IsFinding d t v.grays syncs v.rings loads is_extra) v.findings w.findings k.all_findings
        (subst (λ (gs : List GrayReg). IsAll (IsFinding d t gs syncs v.rings loads is_extra) finding_key w.findings) (sym grays)
        (subst (λ (ss : List Sync). IsAll (IsFinding d t w.grays ss v.rings loads is_extra) finding_key w.findings) (sym same_syncs)
        (subst (λ (rs : List Ring). IsAll (IsFinding d t w.grays syncs' rs loads is_extra) finding_key w.findings) (sym rings)
        (subst (λ (ls : List Load). IsAll (IsFinding d t w.grays syncs' w.rings ls is_extra) finding_key w.findings) (sym same_loads) l.all_findings))))
