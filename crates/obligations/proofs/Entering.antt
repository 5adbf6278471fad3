-- The findings among first flops by their words and bits.
use Rattle.std.proofs.Common.{◌≡◌, ◌∙◌, ◌↔◌, inl, inr, refl, sym, ap, ap₂, subst, ℕ, ◌==◌, ◌&&◌, Bool, true, false, not, Some, List, [], ◌∷◌, map, Contains, eqb-true, eq-eqb}
use Rattle.std.specs.Prelude.{filter, if◌then◌else◌}
use Rattle.std.specs.List.{flat_map}
use Rattle.std.proofs.lemmas.Bool.{and_parts, and_from, not-true, not_from_false}
use Rattle.cdc_base.specs.declared.bit.Bit.{Bit}
use Rattle.cell_graph.specs.Reading.{bit_eq}
use Rattle.cell_graph.proofs.Bits.{bit_eq-true, eq-bit_eq}
use Rattle.cdc_model.specs.declared.scheme.Crossing.{Crossing}
use Rattle.cdc_model.specs.declared.scheme.GrayReg.{GrayReg}
use Rattle.cdc_model.specs.declared.scheme.Load.{Load}
use Rattle.cdc_model.specs.declared.verdict.Finding.{Finding as FindingEntry}
use Rattle.cdc_model.specs.declared.verdict.Finding.TheVariants as entry
use Rattle.cdc_model.specs.Design.{Design, group, are_equal}
use Rattle.cdc_model.specs.Schemes.{Trees, Sync, Ring}
use Rattle.cdc_model.specs.Verdict.{Finding, V1, V2, V3, V4, V5, V6, V7, V8, IsFinding, IsPair, entering, is_code, bit_key}
use Rattle.cdc_model.proofs.Ascending.{here, later, parts, nothing_in, in_filter, from_filter, same_before}
use Rattle.cdc_model.proofs.Loads.{all_of}
use Rattle.obligations.specs.declared.words.Entry.{Entry}
use Rattle.obligations.specs.Findings.{number_of, IsShownBy, AreNumbered}
use Rattle.obligations.specs.Lots.{AreInLots, lots_of}
use Rattle.obligations.specs.Words.{IsEntryOf, AreEntries, word_key, entry_key, of_one_word, of_one_bit, has_several_bits, has_several_flops, has_several_clocks, crossing_of, v3_of, v4_of, v5_of}
use Rattle.obligations.proofs.Lots.{all_found, each_found, one_differs, some_differ}
use Rattle.obligations.proofs.Sorts.{same_test}

-- ---- keys

heads : (m n : ℕ) (ms ns : List ℕ) → m ∷ ms ≡ n ∷ ns → m ≡ n
heads m n ms ns e = cc

tails : (m n : ℕ) (ms ns : List ℕ) → m ∷ ms ≡ n ∷ ns → ms ≡ ns
tails m n ms ns e = cc

pub of_one_word_is : (e f : Entry) → (of_one_word e f ≡ true) ↔ (word_key e ≡ word_key f)
of_one_word_is e f = (
  λ h. let p = and_parts (e.from.sig == f.from.sig) (e.group == f.group) h in
      ap₂ (λ (m n : ℕ). m ∷ n ∷ []) (eqb-true e.from.sig f.from.sig p.0) (eqb-true e.group f.group p.1),
  λ h. and_from (e.from.sig == f.from.sig) (e.group == f.group) (eq-eqb e.from.sig f.from.sig (heads e.from.sig f.from.sig (e.group ∷ []) (f.group ∷ []) h))
      (eq-eqb e.group f.group (heads e.group f.group [] [] (tails e.from.sig f.from.sig (e.group ∷ []) (f.group ∷ []) h))),
)

pub of_one_bit_is : (e f : Entry) → (of_one_bit e f ≡ true) ↔ (entry_key e ≡ entry_key f)
of_one_bit_is e f = (
  λ h. let p = and_parts (bit_eq e.from f.from) (e.group == f.group) h in
      ap₂ (λ (b : Bit) (n : ℕ). bit_key b (n ∷ [])) (bit_eq-true e.from f.from p.0) (eqb-true e.group f.group p.1),
  λ h.
      let sigs = heads e.from.sig f.from.sig (e.from.at ∷ e.group ∷ []) (f.from.at ∷ f.group ∷ []) h in
      let more = tails e.from.sig f.from.sig (e.from.at ∷ e.group ∷ []) (f.from.at ∷ f.group ∷ []) h in
      let ats = heads e.from.at f.from.at (e.group ∷ []) (f.group ∷ []) more in
      and_from (bit_eq e.from f.from) (e.group == f.group) (eq-bit_eq e.from f.from (ap₂ (λ (m n : ℕ). record { sig = m; at = n }) sigs ats))
      (eq-eqb e.group f.group (heads e.group f.group [] [] (tails e.from.at f.from.at (e.group ∷ []) (f.group ∷ []) more))),
)

bits_decide : (a b : Bit) → (bit_eq a b ≡ true) ↔ (a ≡ b)
bits_decide a b = (bit_eq-true a b, eq-bit_eq a b)

numbers_decide : (m n : ℕ) → ((m == n) ≡ true) ↔ (m ≡ n)
numbers_decide m n = (eqb-true m n, eq-eqb m n)

-- ---- first flops and their synchronizers

some_one : (m n : ℕ) → Some m ≡ Some n → m ≡ n
some_one m n e = cc

module _ (d : Design) where
  to_entry : (ss : List Sync) (es : List Entry) → AreEntries d ss es → (s : Sync) → Contains ss s → (e : Entry) × Contains es e × IsEntryOf d s e
  to_entry [] es are s i = absurd (nothing_in s i)
  to_entry (r ∷ ss) [] are s i = absurd are
  to_entry (r ∷ ss) (e ∷ es) are s i = elim (parts r ss s i) [
    | inl same ↦ (e, here e es, subst (λ (q : Sync). IsEntryOf d q e) same are.0)
    | inr j ↦ let k = to_entry ss es are.1 s j in (k.0, later e es k.0 k.1, k.2)
  ]

  from_entry : (ss : List Sync) (es : List Entry) → AreEntries d ss es → (e : Entry) → Contains es e → (s : Sync) × Contains ss s × IsEntryOf d s e
  from_entry [] [] are e i = absurd (nothing_in e i)
  from_entry [] (f ∷ es) are e i = absurd are
  from_entry (s ∷ ss) [] are e i = absurd are
  from_entry (s ∷ ss) (f ∷ es) are e i = elim (parts f es e i) [
    | inl same ↦ (s, here s ss, subst (λ (g : Entry). IsEntryOf d s g) same are.0)
    | inr j ↦ let k = from_entry ss es are.1 e j in (k.0, later s ss k.0 k.1, k.2)
  ]

  -- the crossings of the first flops that pass a test are those that enter by their sources and group
  entering_are : (g : ℕ) (test : Bit → Bool) (p : Entry → Bool) → ((s : Sync) (e : Entry) → IsEntryOf d s e → p e ≡ (test s.from && are_equal (group d s.first) (Some g)))
      → (ss : List Sync) (es : List Entry) → AreEntries d ss es → map crossing_of (filter p es) ≡ entering d ss g test
  entering_are g test p h [] [] are = refl
  entering_are g test p h [] (e ∷ es) are = absurd are
  entering_are g test p h (s ∷ ss) [] are = absurd are
  entering_are g test p h (s ∷ ss) (e ∷ es) are =
      ap (λ v. map crossing_of (if v then e ∷ filter p es else filter p es)) (h s e are.0)
      ∙ go (test s.from && are_equal (group d s.first) (Some g)) (entering_are g test p h ss es are.1)
    where
      go : (v : Bool) → map crossing_of (filter p es) ≡ entering d ss g test → map crossing_of (if v then e ∷ filter p es else filter p es)
          ≡ map (λ (q : Sync). record { from = q.from; to = q.first }) (if v then s ∷ filter (λ q. test q.from && are_equal (group d q.first) (Some g)) ss else filter (λ q. test q.from && are_equal (group d q.first) (Some g)) ss)
      go true ih = ap₂ (λ (k : Crossing) ks. k ∷ ks) (ap₂ (λ (a b : Bit). record { from = a; to = b }) are.0.0 are.0.1) ih
      go false ih = ih

  module _ (ss : List Sync) (es sorted : List Entry) (are : AreEntries d ss es) {key : Entry → List ℕ} {same : Entry → Entry → Bool}
      (same_is : (e f : Entry) → (same e f ≡ true) ↔ (key e ≡ key f)) (lots : AreInLots same key es sorted) where
    of_sorted : (e : Entry) → Contains sorted e → (s : Sync) × Contains ss s × IsEntryOf d s e
    of_sorted e i = from_entry ss es are e (from_filter (same e) es e (subst (λ fs. Contains fs e) (lots.kept e) (in_filter (same e) sorted e i ((same_is e e).1 refl)))).0

    in_lot : (s : Sync) → Contains ss s → (e : Entry) × IsEntryOf d s e × Contains sorted e × ((h : Entry) → key h ≡ key e → Contains (filter (same h) sorted) e)
    in_lot s i =
        let k = to_entry ss es are s i in
        let j = (from_filter (same k.0) sorted k.0 (subst (λ fs. Contains fs k.0) (sym (lots.kept k.0)) (in_filter (same k.0) es k.0 k.1 ((same_is k.0 k.0).1 refl)))).0 in
        (k.0, k.2, j, λ h e. in_filter (same h) sorted k.0 j ((same_is h k.0).1 e))

    of_lot : (h e : Entry) → Contains (filter (same h) sorted) e → (s : Sync) × Contains ss s × IsEntryOf d s e × (key h ≡ key e)
    of_lot h e i =
        let k = from_filter (same h) sorted e i in
        let s = of_sorted e k.0 in
        (s.0, s.1, s.2, (same_is h e).0 k.1)

-- ---- findings

module _ (d : Design) (t : Trees) (grays : List GrayReg) (syncs : List Sync) (rings : List Ring) (loads : List Load) (is_extra : Bit → Bit → Bool)
    (entries sorted : List Entry) (are : AreEntries d syncs entries) where
  abbrev IsNumbered : ℕ → Finding → Type 0
  IsNumbered n f = IsFinding d t grays syncs rings loads is_extra f × (number_of f ≡ n)

  group_passes : (s : Sync) (e : Entry) (g : ℕ) → IsEntryOf d s e → (g == e.group) ≡ are_equal (group d s.first) (Some g)
  group_passes s e g is = turned g e.group ∙ ap (λ o. are_equal o (Some g)) (sym is.2)
    where
      turned : (m n : ℕ) → (m == n) ≡ (n == m)
      turned m n = same_test (m == n) (n == m) (λ h. eq-eqb n m (sym (eqb-true m n h))) (λ h. eq-eqb m n (sym (eqb-true n m h)))

  word_listed : (a : Entry) → map crossing_of (filter (of_one_word a) entries) ≡ entering d syncs a.group (λ b. b.sig == a.from.sig)
  word_listed a = entering_are d a.group (λ b. b.sig == a.from.sig) (of_one_word a) (λ s e is. ap₂ (λ u v. u && v)
      (same_test (a.from.sig == e.from.sig) (s.from.sig == a.from.sig)
      (λ h. eq-eqb s.from.sig a.from.sig (ap (λ (b : Bit). b.sig) (sym is.0) ∙ sym (eqb-true a.from.sig e.from.sig h)))
      (λ h. eq-eqb a.from.sig e.from.sig (sym (eqb-true s.from.sig a.from.sig h) ∙ ap (λ (b : Bit). b.sig) (sym is.0))))
      (group_passes s e a.group is)) syncs entries are

  bit_listed : (a : Entry) → map crossing_of (filter (of_one_bit a) entries) ≡ entering d syncs a.group (bit_eq a.from)
  bit_listed a = entering_are d a.group (bit_eq a.from) (of_one_bit a) (λ s e is. ap₂ (λ u v. u && v) (ap (bit_eq a.from) is.0) (group_passes s e a.group is)) syncs entries are

  -- two first flops of one key have one word and one group
  one_word : (a b : Entry) → word_key a ≡ word_key b → (a.from.sig ≡ b.from.sig) × (a.group ≡ b.group)
  one_word a b e = let p = and_parts (a.from.sig == b.from.sig) (a.group == b.group) ((of_one_word_is a b).1 e) in (eqb-true a.from.sig b.from.sig p.0, eqb-true a.group b.group p.1)

  one_bit : (a b : Entry) → entry_key a ≡ entry_key b → (a.from ≡ b.from) × (a.group ≡ b.group)
  one_bit a b e = let p = and_parts (bit_eq a.from b.from) (a.group == b.group) ((of_one_bit_is a b).1 e) in (bit_eq-true a.from b.from p.0, eqb-true a.group b.group p.1)

  pair_of : (s r : Sync) (a b : Entry) → Contains syncs s → Contains syncs r → IsEntryOf d s a → IsEntryOf d r b → a.group ≡ b.group → IsPair d t grays syncs rings loads is_extra a.group s r
  pair_of s r a b i j is also e = record { one = i; other = j; one_group = is.2; other_group = also.2 ∙ ap Some (sym e) }

  -- what two synchronizers of a pair are in lots of words
  module _ (lots : AreInLots of_one_word word_key entries sorted) (w g : ℕ) (s r : Sync) (p : IsPair d t grays syncs rings loads is_extra g s r) (sw : s.from.sig ≡ w) (rw : r.from.sig ≡ w) where
    abbrev first : (e : Entry) × IsEntryOf d s e × Contains sorted e × ((h : Entry) → word_key h ≡ word_key e → Contains (filter (of_one_word h) sorted) e)
    first = in_lot d syncs entries sorted are of_one_word_is lots s p.one

    abbrev other : (e : Entry) × IsEntryOf d r e × Contains sorted e × ((h : Entry) → word_key h ≡ word_key e → Contains (filter (of_one_word h) sorted) e)
    other = in_lot d syncs entries sorted are of_one_word_is lots r p.other

    word_is : first.0.from.sig ≡ w
    word_is = ap (λ (b : Bit). b.sig) first.1.0 ∙ sw

    group_is : first.0.group ≡ g
    group_is = some_one first.0.group g (sym first.1.2 ∙ p.one_group)

    one_key : word_key first.0 ≡ word_key other.0
    one_key = ap₂ (λ (m n : ℕ). m ∷ n ∷ []) (word_is ∙ sym rw ∙ ap (λ (b : Bit). b.sig) (sym other.1.0)) (group_is ∙ some_one g other.0.group (sym p.other_group ∙ other.1.2))

  v3_shown : (lots : AreInLots of_one_word word_key entries sorted) (f : Finding) → IsNumbered 3 f → (a : Entry) × Contains sorted a × (f ≡ V3 a.from.sig a.group)
      × ((h : Entry) → Contains sorted h → word_key h ≡ word_key a → (has_several_bits h (filter (of_one_word h) sorted) && not (is_code grays h.from.sig)) ≡ true)
  v3_shown lots (V1 b x) (k, n) = cc
  v3_shown lots (V2 b x) (k, n) = cc
  v3_shown lots (V3 w g) ((((s, r, p, sw, rw, apart), plain)), n) =
      let a = first lots w g s r p sw rw in
      let b = other lots w g s r p sw rw in
      let word = word_is lots w g s r p sw rw in (
        a.0,
        a.2,
        sym (ap₂ V3 word (group_is lots w g s r p sw rw)),
        λ h i e.
            and_from (has_several_bits h (filter (of_one_word h) sorted)) (not (is_code grays h.from.sig))
            (some_differ bit_eq bits_decide (λ (f : Entry). f.from) h a.0 b.0 (filter (of_one_word h) sorted) (a.3 h e) (b.3 h (e ∙ one_key lots w g s r p sw rw)) (λ same. apart (sym a.1.0 ∙ same ∙ b.1.0)))
            (not_from_false (is_code grays h.from.sig) (ap (is_code grays) ((one_word h a.0 e).0 ∙ word) ∙ plain)),
      )
  v3_shown lots (V4 b g) (k, n) = cc
  v3_shown lots (V5 w g) (k, n) = cc
  v3_shown lots (V6 x g) (k, n) = cc
  v3_shown lots (V7 b x m) (k, n) = cc
  v3_shown lots (V8 b x m) (k, n) = cc

  v3_only : (lots : AreInLots of_one_word word_key entries sorted) (a : Entry) → Contains sorted a
      → (has_several_bits a (filter (of_one_word a) sorted) && not (is_code grays a.from.sig)) ≡ true → IsNumbered 3 (V3 a.from.sig a.group)
  v3_only lots a i p =
      let q = and_parts (has_several_bits a (filter (of_one_word a) sorted)) (not (is_code grays a.from.sig)) p in
      let b = one_differs bit_eq bits_decide (λ (f : Entry). f.from) a (filter (of_one_word a) sorted) q.0 in
      let s = of_sorted d syncs entries sorted are of_one_word_is lots a i in
      let r = of_lot d syncs entries sorted are of_one_word_is lots a b.0 b.1 in
      let same = one_word a b.0 r.3 in (
        ((
          (s.0, r.0, pair_of s.0 r.0 a b.0 s.1 r.1 s.2 r.2 same.1, ap (λ (c : Bit). c.sig) (sym s.2.0), ap (λ (c : Bit). c.sig) (sym r.2.0) ∙ sym same.0, λ e. b.2 (s.2.0 ∙ e ∙ sym r.2.0)),
          not-true (is_code grays a.from.sig) q.1,
        )),
        refl,
      )

  -- exactly the words of which several bits enter a group, and which are no Gray codes
  pub words_found : AreInLots of_one_word word_key entries sorted → AreNumbered d t grays syncs rings loads is_extra 3 (flat_map (v3_of grays) (lots_of of_one_word sorted))
  words_found lots = record {
    all = all_found word_key of_one_word of_one_word_is test make (λ a. V3 a.from.sig a.group) (λ a lot. refl) (λ a b e. let k = one_word a b e in ap₂ V3 k.0 k.1)
        (λ a b h. same_before 3 3 (word_key a) (word_key b) refl h) sorted lots.rises (IsNumbered 3) (v3_shown lots) (v3_only lots);
    shown = all_of (IsShownBy d t syncs) (flat_map (v3_of grays) (lots_of of_one_word sorted))
        (each_found word_key of_one_word of_one_word_is test make (λ a. V3 a.from.sig a.group) (λ a lot. refl) (λ a b e. let k = one_word a b e in ap₂ V3 k.0 k.1)
        (λ a b h. same_before 3 3 (word_key a) (word_key b) refl h) sorted lots.rises (IsShownBy d t syncs) (λ a i. ap (map crossing_of) (lots.kept a) ∙ word_listed a));
  }
    where
      test : Entry → List Entry → Bool
      test e es = has_several_bits e es && not (is_code grays e.from.sig)

      make : Entry → List Entry → FindingEntry
      make e es = entry.V3 e.from.sig e.group (map crossing_of es)

  v5_shown : (lots : AreInLots of_one_word word_key entries sorted) (f : Finding) → IsNumbered 5 f → (a : Entry) × Contains sorted a × (f ≡ V5 a.from.sig a.group)
      × ((h : Entry) → Contains sorted h → word_key h ≡ word_key a → has_several_clocks h (filter (of_one_word h) sorted) ≡ true)
  v5_shown lots (V1 b x) (k, n) = cc
  v5_shown lots (V2 b x) (k, n) = cc
  v5_shown lots (V3 w g) (k, n) = cc
  v5_shown lots (V4 b g) (k, n) = cc
  v5_shown lots (V5 w g) ((s, r, p, sw, rw, apart), n) =
      let a = first lots w g s r p sw rw in
      let b = other lots w g s r p sw rw in (
        a.0,
        a.2,
        sym (ap₂ V5 (word_is lots w g s r p sw rw) (group_is lots w g s r p sw rw)),
        λ h i e.
            some_differ (λ m n. m == n) numbers_decide (λ (f : Entry). f.clock) h a.0 b.0 (filter (of_one_word h) sorted) (a.3 h e) (b.3 h (e ∙ one_key lots w g s r p sw rw))
            (λ same. apart (a.1.3 ∙ ap Some same ∙ sym b.1.3)),
      )
  v5_shown lots (V6 x g) (k, n) = cc
  v5_shown lots (V7 b x m) (k, n) = cc
  v5_shown lots (V8 b x m) (k, n) = cc

  v5_only : (lots : AreInLots of_one_word word_key entries sorted) (a : Entry) → Contains sorted a → has_several_clocks a (filter (of_one_word a) sorted) ≡ true → IsNumbered 5 (V5 a.from.sig a.group)
  v5_only lots a i p =
      let b = one_differs (λ m n. m == n) numbers_decide (λ (f : Entry). f.clock) a (filter (of_one_word a) sorted) p in
      let s = of_sorted d syncs entries sorted are of_one_word_is lots a i in
      let r = of_lot d syncs entries sorted are of_one_word_is lots a b.0 b.1 in
      let same = one_word a b.0 r.3 in (
        (
          s.0,
          r.0,
          pair_of s.0 r.0 a b.0 s.1 r.1 s.2 r.2 same.1,
          ap (λ (c : Bit). c.sig) (sym s.2.0),
          ap (λ (c : Bit). c.sig) (sym r.2.0) ∙ sym same.0,
          λ e. b.2 (some_one a.clock b.0.clock (sym s.2.3 ∙ e ∙ r.2.3)),
        ),
        refl,
      )

  -- exactly the words that enter a group on several clocks
  pub clocked_words_found : AreInLots of_one_word word_key entries sorted → AreNumbered d t grays syncs rings loads is_extra 5 (flat_map v5_of (lots_of of_one_word sorted))
  clocked_words_found lots = record {
    all = all_found word_key of_one_word of_one_word_is has_several_clocks make (λ a. V5 a.from.sig a.group) (λ a lot. refl) (λ a b e. let k = one_word a b e in ap₂ V5 k.0 k.1)
        (λ a b h. same_before 5 5 (word_key a) (word_key b) refl h) sorted lots.rises (IsNumbered 5) (v5_shown lots) (v5_only lots);
    shown = all_of (IsShownBy d t syncs) (flat_map v5_of (lots_of of_one_word sorted))
        (each_found word_key of_one_word of_one_word_is has_several_clocks make (λ a. V5 a.from.sig a.group) (λ a lot. refl) (λ a b e. let k = one_word a b e in ap₂ V5 k.0 k.1)
        (λ a b h. same_before 5 5 (word_key a) (word_key b) refl h) sorted lots.rises (IsShownBy d t syncs) (λ a i. ap (map crossing_of) (lots.kept a) ∙ word_listed a));
  }
    where
      make : Entry → List Entry → FindingEntry
      make e es = entry.V5 e.from.sig e.group (map crossing_of es)

  v4_shown : (lots : AreInLots of_one_bit entry_key entries sorted) (f : Finding) → IsNumbered 4 f → (a : Entry) × Contains sorted a × (f ≡ V4 a.from a.group)
      × ((h : Entry) → Contains sorted h → entry_key h ≡ entry_key a → has_several_flops h (filter (of_one_bit h) sorted) ≡ true)
  v4_shown lots (V1 b x) (k, n) = cc
  v4_shown lots (V2 b x) (k, n) = cc
  v4_shown lots (V3 w g) (k, n) = cc
  v4_shown lots (V4 c g) ((s, r, p, sc, rc, apart), n) =
      let a = in_lot d syncs entries sorted are of_one_bit_is lots s p.one in
      let b = in_lot d syncs entries sorted are of_one_bit_is lots r p.other in
      let groups = some_one a.0.group g (sym a.1.2 ∙ p.one_group) in
      let one_key = ap₂ (λ (z : Bit) (m : ℕ). bit_key z (m ∷ [])) (a.1.0 ∙ sc ∙ sym rc ∙ sym b.1.0) (groups ∙ some_one g b.0.group (sym p.other_group ∙ b.1.2)) in (
        a.0,
        a.2,
        sym (ap₂ V4 (a.1.0 ∙ sc) groups),
        λ h i e.
            some_differ bit_eq bits_decide (λ (f : Entry). f.to) h a.0 b.0 (filter (of_one_bit h) sorted) (a.3 h e) (b.3 h (e ∙ one_key)) (λ same. apart (sym a.1.1 ∙ same ∙ b.1.1)),
      )
  v4_shown lots (V5 w g) (k, n) = cc
  v4_shown lots (V6 x g) (k, n) = cc
  v4_shown lots (V7 b x m) (k, n) = cc
  v4_shown lots (V8 b x m) (k, n) = cc

  v4_only : (lots : AreInLots of_one_bit entry_key entries sorted) (a : Entry) → Contains sorted a → has_several_flops a (filter (of_one_bit a) sorted) ≡ true → IsNumbered 4 (V4 a.from a.group)
  v4_only lots a i p =
      let b = one_differs bit_eq bits_decide (λ (f : Entry). f.to) a (filter (of_one_bit a) sorted) p in
      let s = of_sorted d syncs entries sorted are of_one_bit_is lots a i in
      let r = of_lot d syncs entries sorted are of_one_bit_is lots a b.0 b.1 in
      let same = one_bit a b.0 r.3 in
      ((s.0, r.0, pair_of s.0 r.0 a b.0 s.1 r.1 s.2 r.2 same.1, sym s.2.0, sym r.2.0 ∙ sym same.0, λ e. b.2 (s.2.1 ∙ e ∙ sym r.2.1)), refl)

  -- exactly the bits that enter a group by several first flops
  pub bits_found : AreInLots of_one_bit entry_key entries sorted → AreNumbered d t grays syncs rings loads is_extra 4 (flat_map v4_of (lots_of of_one_bit sorted))
  bits_found lots = record {
    all = all_found entry_key of_one_bit of_one_bit_is has_several_flops make (λ a. V4 a.from a.group) (λ a lot. refl) (λ a b e. let k = one_bit a b e in ap₂ V4 k.0 k.1)
        (λ a b h. same_before 4 4 (entry_key a) (entry_key b) refl h) sorted lots.rises (IsNumbered 4) (v4_shown lots) (v4_only lots);
    shown = all_of (IsShownBy d t syncs) (flat_map v4_of (lots_of of_one_bit sorted))
        (each_found entry_key of_one_bit of_one_bit_is has_several_flops make (λ a. V4 a.from a.group) (λ a lot. refl) (λ a b e. let k = one_bit a b e in ap₂ V4 k.0 k.1)
        (λ a b h. same_before 4 4 (entry_key a) (entry_key b) refl h) sorted lots.rises (IsShownBy d t syncs) (λ a i. ap (map crossing_of) (lots.kept a) ∙ bit_listed a));
  }
    where
      make : Entry → List Entry → FindingEntry
      make e es = entry.V4 e.from e.group (map crossing_of es)
