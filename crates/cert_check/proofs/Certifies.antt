-- What good items, served crossings and words that don't meet certify.
use Rattle.std.proofs.Common.{◌≡◌, ◌≢◌, ◌∙◌, ◌⊎◌, inl, inr, refl, sym, ap, subst, arith, ℕ, ◌<◌, ◌==◌, Bool, true, false, eq-eqb, eqb-true, Option, Some, None, List, [], ◌∷◌, ◌++◌, map, slice_get, Contains}
use Rattle.std.proofs.lemmas.Bool.{both_ways, cases_lt}
use Rattle.std.proofs.lemmas.List.Elements.{Contains-append_left, Contains-append_right, Contains-append_cases}
use Rattle.std.proofs.lemmas.List.Folds.{Any-from_list_any, list_any-from_Any}
use Rattle.cdc_base.specs.declared.bit.Bit.{Bit}
use Rattle.cdc_model.specs.declared.scheme.Cover.{Cover}
use Rattle.cdc_model.specs.declared.scheme.Crossing.{Crossing}
use Rattle.cdc_model.specs.declared.scheme.GrayReg.{GrayReg}
use Rattle.cdc_model.specs.declared.scheme.Load.{Load}
use Rattle.cdc_model.specs.declared.scheme.Ring.{Ring as RingEntry}
use Rattle.cdc_model.specs.declared.scheme.Sync.{Sync as SyncEntry}
use Rattle.cdc_model.specs.Design.{Design, group, differ}
use Rattle.cdc_model.specs.Listed.{sync_entry, ring_entry}
use Rattle.cdc_model.specs.Schemes.{Trees, Sync, AreSyncs, Ring, IsRing, ring_bits, IsLoad}
use Rattle.cdc_model.specs.Verdict.{AreCovers, IsServed, is_code, scheme_of_sync}
use Rattle.cdc_model.proofs.Ascending.{here, later, parts, nothing_in, in_map, from_map}
use Rattle.cdc_model.proofs.Justify.{slice_in, in_slice}
use Rattle.cert_text.specs.declared.certificate.Certificate.{Certificate}
use Rattle.cert_text.specs.declared.certificate.Entry.{Entry}
use Rattle.cert_text.specs.declared.certificate.Entry.TheVariants as entry
use Rattle.fifo_scheme.specs.declared.found.FifoPair.{FifoPair}
use Rattle.cert_text.specs.Texts.{entries_of}
use Rattle.cert_check.specs.declared.Checked.{Checked}
use Rattle.cert_check.specs.declared.Checked.TheVariants.{Holds, BadItem, Bare, Word}
use Rattle.cert_check.specs.Certified.{AreMeant, IsCertified, IsItem, sync_covers, load_cover}
use Rattle.cert_check.specs.Checked.{AreItems, Meet, AreCrossingsChecked, IsChecked, DoesHold}
use Rattle.cert_check.proofs.Meant.{same_syncs, same_rings, all_syncs, all_rings}

-- ---- items among the entries

module _ (c : Certificate) where
  pub sync_in : (s : SyncEntry) → Contains c.syncs s → Contains (entries_of c) (entry.Sync s)
  sync_in s i = Contains-append_left (map entry.Sync c.syncs) _ (entry.Sync s) (in_map entry.Sync c.syncs s i)

  pub gray_in : (g : GrayReg) → Contains c.grays g → Contains (entries_of c) (entry.Gray g)
  gray_in g i = Contains-append_right (map entry.Sync c.syncs) _ (entry.Gray g) (Contains-append_left (map entry.Gray c.grays) _ (entry.Gray g) (in_map entry.Gray c.grays g i))

  pub ring_in : (r : RingEntry) → Contains c.rings r → Contains (entries_of c) (entry.Ring r)
  ring_in r i = Contains-append_right (map entry.Sync c.syncs) _ (entry.Ring r) (Contains-append_right (map entry.Gray c.grays) _ (entry.Ring r)
      (Contains-append_left (map entry.Ring c.rings) _ (entry.Ring r) (in_map entry.Ring c.rings r i)))

  pub load_in : (l : Load) → Contains c.loads l → Contains (entries_of c) (entry.Load l)
  load_in l i = Contains-append_right (map entry.Sync c.syncs) _ (entry.Load l) (Contains-append_right (map entry.Gray c.grays) _ (entry.Load l)
      (Contains-append_right (map entry.Ring c.rings) _ (entry.Load l) (Contains-append_left (map entry.Load c.loads) _ (entry.Load l) (in_map entry.Load c.loads l i))))

  fifo_in : (p : FifoPair) → Contains c.fifos p → Contains (entries_of c) (entry.Fifo p)
  fifo_in p i = Contains-append_right (map entry.Sync c.syncs) _ (entry.Fifo p) (Contains-append_right (map entry.Gray c.grays) _ (entry.Fifo p)
      (Contains-append_right (map entry.Ring c.rings) _ (entry.Fifo p) (Contains-append_right (map entry.Load c.loads) _ (entry.Fifo p) (in_map entry.Fifo c.fifos p i))))

-- ---- words

-- the word is a listed code, or none
code_in : (grays : List GrayReg) (w : ℕ) → is_code grays w ≡ true → (g : GrayReg) × Contains grays g × (g.gray ≡ w)
code_in grays w h = let (n, g, lt, at, p) = Any-from_list_any (λ (g : GrayReg). g.gray == w) grays h in (g, (n, lt, at), eqb-true g.gray w p)

code_out : (grays : List GrayReg) (w : ℕ) → is_code grays w ≡ false → (g : GrayReg) → Contains grays g → g.gray ≢ w
code_out grays w h g i e = both_ways (is_code grays w) h (list_any-from_Any (λ (g : GrayReg). g.gray == w) grays (i.0, g, i.1, i.2, eq-eqb g.gray w e))

some_group : (a b : Option ℕ) → differ a b ≡ true → (g : ℕ) × (b ≡ Some g)
some_group None b h = cc
some_group (Some m) None h = cc
some_group (Some m) (Some n) h = (n, refl)

same_item : {A : Type 0} (o : Option A) (x y : A) → o ≡ Some x → o ≡ Some y → x ≡ y
same_item o x y e f = cc

module _ (d : Design) (t : Trees) (ss : List Sync) (are : AreSyncs d t ss) (grays : List GrayReg) (none : (w g : ℕ) → Meet d ss grays w g → ⊥) where
  -- of two synchronizers of a word and group at different places one has a code, and they have different sources
  apart : (i j : ℕ) (s r : Sync) → i < j → slice_get ss i ≡ Some s → slice_get ss j ≡ Some r → s.from.sig ≡ r.from.sig → group d s.first ≡ group d r.first
      → (s.from ≡ r.from) ⊎ ((y : GrayReg) → Contains grays y → y.gray ≢ s.from.sig) → ⊥
  apart i j s r l at to sig same which =
      let g = some_group (group d s.from) (group d s.first) (are s (slice_in ss i s at)).crossing.async in
      none s.from.sig g.0 (i, j, s, r, l, at, to, refl, sym sig, g.1, sym same ∙ g.1, which)

  pub once : (i j : ℕ) (s r : Sync) → slice_get ss i ≡ Some s → slice_get ss j ≡ Some r → s.from ≡ r.from → group d s.first ≡ group d r.first → i ≡ j
  once i j s r at to from same = elim (cases_lt i j) [
    | inl l ↦ absurd (apart i j s r l at to (ap (λ (b : Bit). b.sig) from) same (inl from))
    | inr l ↦ elim (cases_lt j i) [
      | inl m ↦ absurd (apart j i r s m to at (ap (λ (b : Bit). b.sig) (sym from)) (sym same) (inl (sym from)))
      | inr m ↦ omega arith
    ]
  ]

  pub words : (s r : Sync) → Contains ss s → Contains ss r → s.from.sig ≡ r.from.sig → group d s.first ≡ group d r.first → (s.from ≡ r.from) ⊎ ((g : GrayReg) × Contains grays g × (g.gray ≡ s.from.sig))
  words s r p q sig same = go (is_code grays s.from.sig) refl
    where
      go : (v : Bool) → is_code grays s.from.sig ≡ v → (s.from ≡ r.from) ⊎ ((g : GrayReg) × Contains grays g × (g.gray ≡ s.from.sig))
      go true e = inr (code_in grays s.from.sig e)
      go false e = elim (cases_lt p.0 q.0) [
        | inl l ↦ absurd (apart p.0 q.0 s r l (in_slice ss s p) (in_slice ss r q) sig same (inr (code_out grays s.from.sig e)))
        | inr l ↦ elim (cases_lt q.0 p.0) [
          | inl m ↦ absurd (apart q.0 p.0 r s m (in_slice ss r q) (in_slice ss s p) (sym sig) (sym same)
              (inr (λ y i f. code_out grays s.from.sig e y i (f ∙ sym sig))))
          | inr m ↦
              let one : p.0 ≡ q.0 = omega arith in
              inl (ap (λ (x : Sync). x.from) (same_item (slice_get ss q.0) s r (ap (slice_get ss) (sym one) ∙ in_slice ss s p) (in_slice ss r q)))
        ]
      ]

-- ---- what is answered

module _ (d : Design) (t : Trees) (crossings : List Crossing) (is_gray : GrayReg → Type 0) (stands : FifoPair → Type 0) (is_extra : Bit → Bit → Bool) (c : Certificate) where
  module _ (shown : (g : GrayReg) → Contains c.grays g → t.is_gray g ≡ true) where
    module _ (good : (e : Entry) → Contains (entries_of c) e → IsItem d t is_gray stands c e) (ss : List Sync) (syncs : c.syncs ≡ map sync_entry ss) (are_syncs : AreSyncs d t ss)
        (rs : List Ring) (rings : c.rings ≡ map ring_entry rs) (are_rings : (r : Ring) → Contains rs r → IsRing d t ss r) where
      meant : AreMeant c ss rs
      meant = record { syncs_listed = syncs; rings_listed = rings }

      items : AreItems d t is_gray stands c ss rs
      items = record { meant = meant; each = good }

      load_is : (l : Load) → Contains c.loads l → IsLoad d t rs l
      load_is l i = let h = good (entry.Load l) (load_in c l i) in subst (λ qs. IsLoad d t qs l) (same_rings h.0 rs (sym h.1 ∙ rings)) h.2

      -- good items and what is answered of crossings and words make the answer
      pub checked : (r : Checked) → AreCrossingsChecked d t crossings ss is_extra c r → IsChecked d t crossings is_gray stands is_extra c r
      checked (BadItem line) h = absurd h
      checked (Bare k) h = (ss, rs, items, h)
      checked (Word w g) h = (ss, rs, items, h.0, h.1)
      checked (Holds n) h = (
        record {
          syncs = ss;
          rings = rs;
          meant = meant;
          grays = λ g i. good (entry.Gray g) (gray_in c g i);
          fifos = λ p i. good (entry.Fifo p) (fifo_in c p i);
          justified = record {
            are_syncs = are_syncs;
            are_grays = shown;
            are_rings = are_rings;
            are_loads = load_is;
            each = h.0;
            once = once d t ss are_syncs c.grays h.1;
            words = words d t ss are_syncs c.grays h.1;
          };
        },
        h.2,
      )

    -- so does what is answered of the synchronizers that the good items are
    pub answered : ((e : Entry) → Contains (entries_of c) e → IsItem d t is_gray stands c e) → (r : Checked)
        → ((ss : List Sync) → c.syncs ≡ map sync_entry ss → AreSyncs d t ss → AreCrossingsChecked d t crossings ss is_extra c r) → IsChecked d t crossings is_gray stands is_extra c r
    answered good r h =
        let s = all_syncs d t c.syncs (λ e i. good (entry.Sync e) (sync_in c e i)) in
        let q = all_rings d t c.syncs s.0 s.1 c.rings (λ e i. good (entry.Ring e) (ring_in c e i)) in
        checked good s.0 s.1 s.2 q.0 q.1 q.2 r (h s.0 s.1 s.2)

  module _ (h : IsCertified d t is_gray stands is_extra c) where
    -- all items of a certificate that certifies are good
    certified_items : (e : Entry) → Contains (entries_of c) e → IsItem d t is_gray stands c e
    certified_items e i = elim (Contains-append_cases (map entry.Sync c.syncs) _ e i) [
      | inl j ↦
          let r = from_map entry.Sync c.syncs e j in
          let q = from_map sync_entry h.syncs r.0 (subst (λ xs. Contains xs r.0) h.meant.syncs_listed r.1) in
          subst (IsItem d t is_gray stands c) r.2 (q.0, sym q.2, h.justified.are_syncs q.0 q.1)
      | inr j ↦ elim (Contains-append_cases (map entry.Gray c.grays) _ e j) [
        | inl k ↦ let r = from_map entry.Gray c.grays e k in subst (IsItem d t is_gray stands c) r.2 (h.grays r.0 r.1)
        | inr k ↦ elim (Contains-append_cases (map entry.Ring c.rings) _ e k) [
          | inl l ↦
              let r = from_map entry.Ring c.rings e l in
              let q = from_map ring_entry h.rings r.0 (subst (λ xs. Contains xs r.0) h.meant.rings_listed r.1) in
              subst (IsItem d t is_gray stands c) r.2 (h.syncs, h.meant.syncs_listed, (q.0, sym q.2, h.justified.are_rings q.0 q.1))
          | inr l ↦ elim (Contains-append_cases (map entry.Load c.loads) (map entry.Fifo c.fifos) e l) [
            | inl m ↦ let r = from_map entry.Load c.loads e m in subst (IsItem d t is_gray stands c) r.2 (h.rings, h.meant.rings_listed, h.justified.are_loads r.0 r.1)
            | inr m ↦ let r = from_map entry.Fifo c.fifos e m in subst (IsItem d t is_gray stands c) r.2 (h.fifos r.0 r.1)
          ]
        ]
      ]
    ]

    pub one_list : (ss : List Sync) → c.syncs ≡ map sync_entry ss → ss ≡ h.syncs
    one_list ss e = same_syncs ss h.syncs (sym e ∙ h.meant.syncs_listed)

    no_meeting : (w g : ℕ) → Meet d h.syncs c.grays w g → ⊥
    no_meeting w g (i, j, s, r, l, at, to, sw, rw, sg, rg, which) = elim which [
      | inl from ↦ twice from
      | inr none ↦ elim (h.justified.words s r (slice_in h.syncs i s at) (slice_in h.syncs j r to) (sw ∙ sym rw) (sg ∙ sym rg)) [
        | inl from ↦ twice from
        | inr code ↦ none code.0 code.1 (code.2 ∙ sw)
      ]
    ]
      where
        twice : s.from ≡ r.from → ⊥
        twice from = let e = h.justified.once i j s r at to from (sg ∙ sym rg) in omega arith

    -- a certificate that certifies holds
    pub holds : (r : Checked) → IsChecked d t crossings is_gray stands is_extra c r → DoesHold r
    holds (BadItem line) (i, e, l, at, bad, before) = bad (certified_items e (slice_in (entries_of c) i e at))
    holds (Bare k) (ss, rs, items, first) = first.bare (subst (λ xs. IsServed xs c.loads is_extra k.from k.to) (sym (one_list ss items.meant.syncs_listed)) (h.justified.each k.from k.to first.crossing))
    holds (Word w g) (ss, rs, items, served, first) = no_meeting w g (subst (λ xs. Meet d xs c.grays w g) (one_list ss items.meant.syncs_listed) first.meet)
    holds (Holds n) k = tt

    pub listed_bits : map (λ (r : RingEntry). r.bits) c.rings ≡ map ring_bits h.rings
    listed_bits = ap (map (λ (r : RingEntry). r.bits)) h.meant.rings_listed ∙ each h.rings
      where
        each : (rs : List Ring) → map (λ (r : RingEntry). r.bits) (map ring_entry rs) ≡ map ring_bits rs
        each [] = refl
        each (r ∷ rs) = ap (λ xs. ring_bits r ∷ xs) (each rs)

  -- what holds certifies
  pub holds_certified : (r : Checked) → IsChecked d t crossings is_gray stands is_extra c r → DoesHold r → IsCertified d t is_gray stands is_extra c
  holds_certified (BadItem line) h k = absurd k
  holds_certified (Bare k) h l = absurd l
  holds_certified (Word w g) h k = absurd k
  holds_certified (Holds n) h k = h.0

-- ---- covers

module _ (grays : List GrayReg) (ss : List Sync) (loads : List Load) where
  from_syncs : (xs : List Sync) (k : Cover) → Contains (sync_covers grays (map sync_entry xs)) k → (s : Sync) × Contains xs s × (k ≡ record { from = s.from; to = s.first; scheme = scheme_of_sync grays s })
  from_syncs [] k i = absurd (nothing_in k i)
  from_syncs (s ∷ xs) k i = elim (parts (record { from = s.from; to = s.first; scheme = scheme_of_sync grays s }) (sync_covers grays (map sync_entry xs)) k i) [
    | inl e ↦ (s, here s xs, sym e)
    | inr j ↦ let r = from_syncs xs k j in (r.0, later s xs r.0 r.1, r.2)
  ]

  in_syncs : (xs : List Sync) (s : Sync) → Contains xs s → Contains (sync_covers grays (map sync_entry xs)) (record { from = s.from; to = s.first; scheme = scheme_of_sync grays s })
  in_syncs [] s i = absurd (nothing_in s i)
  in_syncs (r ∷ xs) s i = elim (parts r xs s i) [
    | inl e ↦ subst (λ (z : Sync). Contains (sync_covers grays (map sync_entry (r ∷ xs))) (record { from = z.from; to = z.first; scheme = scheme_of_sync grays z })) e
        (here (record { from = r.from; to = r.first; scheme = scheme_of_sync grays r }) (sync_covers grays (map sync_entry xs)))
    | inr j ↦ later (record { from = r.from; to = r.first; scheme = scheme_of_sync grays r }) (sync_covers grays (map sync_entry xs))
        (record { from = s.from; to = s.first; scheme = scheme_of_sync grays s }) (in_syncs xs s j)
  ]

  -- the covers of a certificate are those of its synchronizers and loads
  pub covers_are : AreCovers grays ss loads (sync_covers grays (map sync_entry ss) ++ map load_cover loads)
  covers_are k = (
    λ i. elim (Contains-append_cases (sync_covers grays (map sync_entry ss)) (map load_cover loads) k i) [
      | inl j ↦ inl (from_syncs ss k j)
      | inr j ↦ let r = from_map load_cover loads k j in inr (r.0, r.1, sym r.2)
    ],
    λ h. elim h [
      | inl s ↦ Contains-append_left (sync_covers grays (map sync_entry ss)) (map load_cover loads) k (subst (Contains (sync_covers grays (map sync_entry ss))) (sym s.2) (in_syncs ss s.0 s.1))
      | inr l ↦ Contains-append_right (sync_covers grays (map sync_entry ss)) (map load_cover loads) k (subst (Contains (map load_cover loads)) (sym l.2) (in_map load_cover loads l.0 l.1))
    ],
  )
