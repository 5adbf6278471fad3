-- Where readers are kept, and what notes of them make of a bit's readers.
use Rattle.std.proofs.Common.{◌≡◌, ◌∙◌, inl, inr, refl, sym, ap, ap₂, subst, arith, ℕ, zero, suc, ◌+◌, ◌<◌, ◌≤◌, ◌||◌, nat_lt, ltb-true, ltb-false, lt-ltb, Bool, true, false, cond, Option, Some, None, is_some, unwrap_or, List, [], ◌∷◌, ◌++◌, map, length, drop, get_or, set, replicate, slice_get, append_assoc, Contains, ◌↔◌}
use Rattle.std.specs.List.{list_any}
use Rattle.std.specs.Option.{option_map_or}
use Rattle.std.specs.Prelude.{filter, option_and_then, option_map, if◌then◌else◌}
use Rattle.std.proofs.lemmas.Bool.{cases_lt}
use Rattle.std.proofs.lemmas.List.{drop_more, at_drop_all, map-append, get_or-set_same, get_or-set_other}
use Rattle.std.proofs.lemmas.Option.{slice_get-map, slice_get_past, slice_get-get_or, unwrap_or-slice_get}
use Rattle.std.proofs.lemmas.List.Elements.{Contains-get_or}
use Rattle.cdc_base.specs.declared.bit.Bit.{Bit}
use Rattle.cdc_base.specs.declared.signal.Signal.{Signal}
use Rattle.cell_graph.specs.declared.cell.CellId.{CellId}
use Rattle.cell_graph.specs.declared.net.Net.{Net}
use Rattle.cell_graph.specs.Cofactor.{reads}
use Rattle.cell_graph.specs.Reading.{bit_eq, Cube}
use Rattle.cell_graph.specs.Tree.{width, any_below}
use Rattle.cell_graph.specs.Unfolded.{tree_of}
use Rattle.cell_graph.proofs.CellValues.{no-tree}
use Rattle.cell_graph.proofs.Bits.{bit_eq-true, eq-bit_eq}
use Rattle.cofactor.specs.Walked.{is_sought}
use Rattle.domains.specs.Nets.{IsNet}
use Rattle.cdc_model.specs.declared.below.Marks.{Marks}
use Rattle.cdc_model.specs.declared.below.Marks.TheVariants.{Nothing}
use Rattle.cdc_model.specs.declared.readers.Reader.{Reader}
use Rattle.cdc_model.specs.declared.readers.Reader.TheVariants.{Nobody, Alone, Others}
use Rattle.cdc_model.specs.declared.readers.Span.{Span}
use Rattle.cdc_model.specs.Found.{bits_of_signals, bits_read_by}
use Rattle.cdc_model.specs.Marked.{Admits, mark_of, marks_at, ShowsMarks}
use Rattle.cdc_model.specs.Nets.{next_cell, next_tree, tree_or_zero, bit_count, bits_of_registers, HasNextCells}
use Rattle.cdc_model.specs.Ordered.{is_before}
use Rattle.cdc_model.specs.Readers.{reader_among, state_width, IsStateBit, IsMarked, Kept, place_in, place_of, HasPlace, reader_at, AreLaid, more_readers, noted_in, output_reads}
use Rattle.cdc_model.proofs.Ascending.{here, later, parts, nothing_in, in_filter, from_filter, Ascends, filtered_ascend}
use Rattle.cdc_model.proofs.Found.{by_bit, signals_ascend, in_signals, counted, from_registers}
use Rattle.cdc_model.proofs.Marked.{admitted}
use Rattle.cdc_model.proofs.Ordered.{never_before}
use Rattle.cdc_model.proofs.ReadBits.{read-within}

never : false ≡ true → ⊥
never f = cc

-- ---- spans

pub laid_more : (start : ℕ) (ss : List Span) (end w : ℕ) → AreLaid start ss end → AreLaid start (ss ++ record { start = end; width = w } ∷ []) (end + w)
laid_more start [] end w h = (sym h, ap (λ n. n + w) h)
laid_more start (s ∷ ss) end w h = (h.0, laid_more (start + s.width) ss end w h.1)

laid_least : (start : ℕ) (ss : List Span) (end : ℕ) → AreLaid start ss end → start ≤ end
laid_least start [] end h = omega arith
laid_least start (s ∷ ss) end h = let l = laid_least (start + s.width) ss end h.1 in omega arith

-- a span lies between the ends
pub laid_at : (start : ℕ) (ss : List Span) (end i : ℕ) (q : Span) → AreLaid start ss end → slice_get ss i ≡ Some q → (start ≤ q.start) × (q.start + q.width ≤ end)
laid_at start [] end i q h e = cc
laid_at start (s ∷ ss) end zero q h e =
    let same : s ≡ q = cc in
    let l = laid_least (start + s.width) ss end h.1 in
    let first = h.0 in
    subst (λ (p : Span). (start ≤ p.start) × (p.start + p.width ≤ end)) same (omega arith, omega arith)
laid_at start (s ∷ ss) end (suc i) q h e = let k = laid_at (start + s.width) ss end i q h.1 e in (omega (arith, k.0), k.1)

-- of two spans the later one begins where the earlier one has ended
laid_apart : (start : ℕ) (ss : List Span) (end i j : ℕ) (p q : Span) → AreLaid start ss end → i < j → slice_get ss i ≡ Some p → slice_get ss j ≡ Some q → p.start + p.width ≤ q.start
laid_apart start [] end i j p q h l e f = cc
laid_apart start (s ∷ ss) end i zero p q h l e f = absurd (omega arith)
laid_apart start (s ∷ ss) end zero (suc j) p q h l e f =
    let same : s ≡ p = cc in
    let k = laid_at (start + s.width) ss end j q h.1 f in
    let first = h.0 in
    subst (λ (r : Span). r.start + r.width ≤ q.start) same (omega (arith, k.0))
laid_apart start (s ∷ ss) end (suc i) (suc j) p q h l e f = laid_apart (start + s.width) ss end i j p q h.1 (omega arith) e f

place_parts : (o : Option Span) (at n : ℕ) → place_in o at ≡ Some n → (q : Span) × (o ≡ Some q) × (at < q.width) × (n ≡ q.start + at)
place_parts None at n h = cc
place_parts (Some s) at n h = go (nat_lt at s.width) refl h
  where
    go : (v : Bool) → nat_lt at s.width ≡ v → cond v (Some (s.start + at)) None ≡ Some n → (q : Span) × (Some s ≡ Some q) × (at < q.width) × (n ≡ q.start + at)
    go true e k = (s, refl, ltb-true at s.width e, (let f : s.start + at ≡ n = cc in sym f))
    go false e k = cc

one_span : (o : Option Span) (p q : Span) → o ≡ Some p → o ≡ Some q → p ≡ q
one_span o p q e f = cc

-- a place is within
pub placed_within : (ss : List Span) (end : ℕ) (b : Bit) (n : ℕ) → AreLaid 0 ss end → place_of ss b ≡ Some n → n < end
placed_within ss end b n h e =
    let k = place_parts (slice_get ss b.sig) b.at n e in
    let l = laid_at 0 ss end b.sig k.0 h k.1 in
    omega (arith, l.1, k.2, k.3)

-- two bits of one place are one
placed_once : (ss : List Span) (end : ℕ) (a b : Bit) (n : ℕ) → AreLaid 0 ss end → place_of ss a ≡ Some n → place_of ss b ≡ Some n → a ≡ b
placed_once ss end a b n h e f =
    let k = place_parts (slice_get ss a.sig) a.at n e in
    let m = place_parts (slice_get ss b.sig) b.at n f in
    elim (cases_lt a.sig b.sig) [
      | inl l ↦ absurd (let g = laid_apart 0 ss end a.sig b.sig k.0 m.0 h l k.1 m.1 in omega (arith, g, k.2, k.3, m.2, m.3))
      | inr l ↦ elim (cases_lt b.sig a.sig) [
        | inl r ↦ absurd (let g = laid_apart 0 ss end b.sig a.sig m.0 k.0 h r m.1 k.1 in omega (arith, g, k.2, k.3, m.2, m.3))
        | inr r ↦
            let sig : a.sig ≡ b.sig = omega arith in
            let same : k.0 ≡ m.0 = one_span (slice_get ss a.sig) k.0 m.0 k.1 (subst (λ (s : ℕ). slice_get ss s ≡ Some m.0) (sym sig) m.1) in
            let start : k.0.start ≡ m.0.start = ap (λ (s : Span). s.start) same in
            ap₂ (λ (x y : ℕ). let c : Bit = record { sig = x; at = y } in c) sig (let at : a.at ≡ b.at = omega (arith, start, k.3, m.3) in at)
      ]
    ]

-- each state bit has a place, where the spans are as wide as the signals have state bits
pub state_placed : (signals : List Signal) (ss : List Span) → map (λ (s : Span). s.width) ss ≡ map state_width signals → (b : Bit) → IsStateBit signals b → HasPlace ss b
state_placed signals ss e b h = go (slice_get ss b.sig) refl
  where
    widths : option_map (λ (s : Span). s.width) (slice_get ss b.sig) ≡ option_map state_width (slice_get signals b.sig)
    widths = sym (slice_get-map (λ (s : Span). s.width) ss b.sig) ∙ ap (λ ws. slice_get ws b.sig) e ∙ slice_get-map state_width signals b.sig

    wide : (o : Option Signal) (w : ℕ) → Some w ≡ option_map state_width o → b.at < option_map_or (λ (s : Signal). state_width s) o 0 → b.at < w
    wide None w f l = cc
    wide (Some s) w f l = let g : w ≡ state_width s = cc in omega (arith, g, l)

    none : (o : Option Signal) → None ≡ option_map state_width o → b.at < option_map_or (λ (s : Signal). state_width s) o 0 → ⊥
    none None f l = omega arith
    none (Some s) f l = cc

    go : (o : Option Span) → slice_get ss b.sig ≡ o → HasPlace ss b
    go None f = absurd (none (slice_get signals b.sig) (ap (option_map (λ (s : Span). s.width)) (sym f) ∙ widths) h)
    go (Some s) f =
        let l = wide (slice_get signals b.sig) s.width (ap (option_map (λ (s : Span). s.width)) (sym f) ∙ widths) h in
        ap (λ o. is_some (place_in o b.at)) f ∙ ap (λ (v : Bool). is_some (cond v (Some (s.start + b.at)) None)) (lt-ltb b.at s.width l)

-- ---- one note

module _ (ss : List Span) (rs : List Reader) (laid : AreLaid 0 ss (length rs)) (a : Bit) where
  abbrev kept : List Reader → Kept
  kept readers = record { spans = ss; readers = readers }

  -- a bit without a place is no bit that has one
  pub note_unplaced : (reader : Reader) → place_of ss a ≡ None → (b : Bit) → HasPlace ss b
      → reader_at (kept rs) b ≡ cond (bit_eq a b) (more_readers (reader_at (kept rs) b) reader) (reader_at (kept rs) b)
  note_unplaced reader e b h = go (bit_eq a b) refl
    where
      go : (v : Bool) → bit_eq a b ≡ v → reader_at (kept rs) b ≡ cond v (more_readers (reader_at (kept rs) b) reader) (reader_at (kept rs) b)
      go false f = refl
      go true f = absurd (never (sym (ap is_some e) ∙ subst (λ (c : Bit). HasPlace ss c) (sym (bit_eq-true a b f)) h))

  -- the readers of the bit at the place are written, and no others
  pub note_placed : (reader new d : Reader) (n : ℕ) → place_of ss a ≡ Some n → new ≡ more_readers (get_or rs n d) reader → (b : Bit) → HasPlace ss b
      → reader_at (kept (set rs n new)) b ≡ cond (bit_eq a b) (more_readers (reader_at (kept rs) b) reader) (reader_at (kept rs) b)
  note_placed reader new d n e is b h = go (place_of ss b) refl h
    where
      within : n < length rs
      within = placed_within ss (length rs) a n laid e

      read : (xs : List Reader) (m : ℕ) → place_of ss b ≡ Some m → reader_at (kept xs) b ≡ get_or xs m Nobody
      read xs m f = ap (λ o. unwrap_or (option_and_then (slice_get xs) o) Nobody) f ∙ unwrap_or-slice_get xs m Nobody

      at : (m : ℕ) → place_of ss b ≡ Some m → (v : Bool) → bit_eq a b ≡ v
          → reader_at (kept (set rs n new)) b ≡ cond v (more_readers (reader_at (kept rs) b) reader) (reader_at (kept rs) b)
      at m f true g =
          let same : n ≡ m = one_place (place_of ss b) n m (subst (λ (c : Bit). place_of ss c ≡ Some n) (bit_eq-true a b g) e) f in
          read (set rs n new) m f ∙ ap (λ k. get_or (set rs n new) k Nobody) (sym same) ∙ get_or-set_same rs n new Nobody within
          ∙ is ∙ ap (λ r. more_readers r reader) (at_default rs n d Nobody within ∙ ap (λ k. get_or rs k Nobody) same ∙ sym (read rs m f))
        where
          one_place : (o : Option ℕ) (n m : ℕ) → o ≡ Some n → o ≡ Some m → n ≡ m
          one_place o n m x y = cc

          at_default : (xs : List Reader) (n : ℕ) (d e : Reader) → n < length xs → get_or xs n d ≡ get_or xs n e
          at_default [] n d e l = absurd (omega arith)
          at_default (x ∷ xs) zero d e l = refl
          at_default (x ∷ xs) (suc n) d e l = at_default xs n d e (omega arith)
      at m f false g =
          read (set rs n new) m f
          ∙ get_or-set_other rs n m new Nobody (λ same. never (sym g ∙ eq-bit_eq a b (placed_once ss (length rs) a b n laid e (f ∙ ap Some same))))
          ∙ sym (read rs m f)

      go : (o : Option ℕ) → place_of ss b ≡ o → is_some o ≡ true → reader_at (kept (set rs n new)) b ≡ cond (bit_eq a b) (more_readers (reader_at (kept rs) b) reader) (reader_at (kept rs) b)
      go None f i = cc
      go (Some m) f i = at m f (bit_eq a b) refl

-- ---- notes of a list

module _ (b : Bit) (reader : Reader) where
  noted_absent : (xs : List Bit) (old : Reader) → (Contains xs b → ⊥) → noted_in b xs reader old ≡ old
  noted_absent [] old out = refl
  noted_absent (a ∷ xs) old out = go (bit_eq a b) refl (noted_absent xs old (λ i. out (later a xs b i)))
    where
      go : (v : Bool) → bit_eq a b ≡ v → noted_in b xs reader old ≡ old → noted_in b xs reader (cond v (more_readers old reader) old) ≡ old
      go true e ih = absurd (out (subst (Contains (a ∷ xs)) (bit_eq-true a b e) (here a xs)))
      go false e ih = ih

  noted_once : (xs : List Bit) (old : Reader) → Ascends by_bit xs → Contains xs b → noted_in b xs reader old ≡ more_readers old reader
  noted_once [] old h i = absurd (nothing_in b i)
  noted_once (a ∷ xs) old h i = go (bit_eq a b) refl (noted_once xs old h.1)
    where
      go : (v : Bool) → bit_eq a b ≡ v → (Contains xs b → noted_in b xs reader old ≡ more_readers old reader) → noted_in b xs reader (cond v (more_readers old reader) old) ≡ more_readers old reader
      go true e ih = noted_absent xs (more_readers old reader)
          (λ j. never (sym (never_before (by_bit b)) ∙ subst (λ (c : Bit). is_before (by_bit c) (by_bit b) ≡ true) (bit_eq-true a b e) (h.0 b j)))
      go false e ih = elim (parts a xs b i) [
        | inl same ↦ absurd (never (sym e ∙ eq-bit_eq a b same))
        | inr j ↦ ih j
      ]

-- the readers of a bit when a register bit is noted at all that it reads
pub noted_read : (net : Net) (cube : Cube) (x b : Bit) (reader old : Reader) → (reads cube (next_tree net x.sig) x.at b ≡ true → Contains (bits_read_by net cube x) b)
    → noted_in b (bits_read_by net cube x) reader old ≡ cond (reads cube (next_tree net x.sig) x.at b) (more_readers old reader) old
noted_read net cube x b reader old all = go (reads cube (next_tree net x.sig) x.at b) refl
  where
    go : (v : Bool) → reads cube (next_tree net x.sig) x.at b ≡ v → noted_in b (bits_read_by net cube x) reader old ≡ cond v (more_readers old reader) old
    go true e = noted_once b reader (bits_read_by net cube x) old
        (filtered_ascend by_bit (λ a. reads cube (next_tree net x.sig) x.at a) (bits_of_signals 0 net.graph.signals) (signals_ascend 0 net.graph.signals)) (all e)
    go false e = noted_absent b reader (bits_read_by net cube x) old
        (λ i. never (sym e ∙ (from_filter (λ a. reads cube (next_tree net x.sig) x.at a) (bits_of_signals 0 net.graph.signals) b i).1))

-- notes of others
module _ (b : Bit) where
  others_stay : (xs : List Bit) → noted_in b xs Others Others ≡ Others
  others_stay [] = refl
  others_stay (a ∷ xs) = go (bit_eq a b) (others_stay xs)
    where
      go : (v : Bool) → noted_in b xs Others Others ≡ Others → noted_in b xs Others (cond v Others Others) ≡ Others
      go true ih = ih
      go false ih = ih

  to_others : (old : Reader) → more_readers old Others ≡ Others
  to_others Nobody = refl
  to_others (Alone x) = refl
  to_others Others = refl

  others_noted : (xs : List Bit) (old : Reader) → Contains xs b → noted_in b xs Others old ≡ Others
  others_noted [] old i = absurd (nothing_in b i)
  others_noted (a ∷ xs) old i = go (bit_eq a b) refl (others_noted xs old)
    where
      go : (v : Bool) → bit_eq a b ≡ v → (Contains xs b → noted_in b xs Others old ≡ Others) → noted_in b xs Others (cond v (more_readers old Others) old) ≡ Others
      go true e ih = ap (noted_in b xs Others) (to_others old) ∙ others_stay xs
      go false e ih = elim (parts a xs b i) [ inl same ↦ absurd (never (sym e ∙ eq-bit_eq a b same)) | inr j ↦ ih j ]

  -- the readers of a bit when others are noted at all that a node reads
  pub noted_others : (xs : List Bit) (v : Bool) (old : Reader) → (Contains xs b ↔ (v ≡ true)) → noted_in b xs Others old ≡ cond v Others old
  noted_others xs true old h = others_noted xs old (h.1 refl)
  noted_others xs false old h = noted_absent b Others xs old (λ i. never (h.0 i))

-- one or the other
pub others_or : (u v : Bool) (old : Reader) → cond v Others (cond u Others old) ≡ cond (u || v) Others old
others_or true true old = refl
others_or true false old = refl
others_or false true old = refl
others_or false false old = refl

-- ---- all register bits

-- the readers when register bits are met one by one
unfoldable pub joined : Reader → List Bit → Reader
joined r [] = r
joined r (x ∷ xs) = joined (more_readers r (Alone x)) xs

others_joined : (xs : List Bit) → joined Others xs ≡ Others
unfolding joined
others_joined [] = refl
others_joined (x ∷ xs) = others_joined xs

pub joined_all : (xs : List Bit) → joined Nobody xs ≡ reader_among xs
unfolding joined
joined_all [] = refl
joined_all (x ∷ []) = refl
joined_all (x ∷ y ∷ zs) = others_joined zs

-- one register bit more
pub joined_more : (p : Bit → Bool) (bits : List Bit) (k : ℕ) (d : Bit) (old : Reader) → k < length bits
    → joined (cond (p (get_or bits k d)) (more_readers old (Alone (get_or bits k d))) old) (filter p (drop (k + 1) bits)) ≡ joined old (filter p (drop k bits))
unfolding joined
joined_more p bits k d old l = go (p (get_or bits k d)) refl ∙ ap (λ xs. joined old (filter p xs)) (sym (drop_more bits k d l))
  where
    go : (v : Bool) → p (get_or bits k d) ≡ v
        → joined (cond v (more_readers old (Alone (get_or bits k d))) old) (filter p (drop (k + 1) bits)) ≡ joined old (if v then get_or bits k d ∷ filter p (drop (k + 1) bits) else filter p (drop (k + 1) bits))
    go true e = refl
    go false e = refl

-- ---- what is below a cell

-- where no marked signal stands below a cell, its bits read no bit of one
pub unmarked_unread : (net : Net) (marks : List (Option ℕ)) (below : List Marks) (id : CellId) → ShowsMarks net.graph marks below id → marks_at below id ≡ Nothing
    → (cube : Cube) (i : ℕ) (b : Bit) → IsMarked marks b.sig → reads cube (tree_of net.graph id) i b ≡ false
unmarked_unread net marks below id shown none cube i b marked = go (reads cube (tree_of net.graph id) i b) refl
  where
    shut : (o : Option ℕ) → is_some o ≡ true → Admits Nothing o → ⊥
    shut None h a = cc
    shut (Some m) h a = a

    go : (v : Bool) → reads cube (tree_of net.graph id) i b ≡ v → reads cube (tree_of net.graph id) i b ≡ false
    go false e = e
    go true e = absurd (shut (mark_of marks b.sig) marked (subst (λ m. Admits m (mark_of marks b.sig)) none (admitted net.graph marks below id shown cube i b e)))

-- ---- what a register bit reads

-- each bit of the registers lies in its signal
pub bit_within : (net : Net) (bits : List Bit) (k : ℕ) (d : Bit) → bits ≡ bits_of_registers net.graph.signals net.regs → k < length bits
    → (get_or bits k d).at < bit_count net.graph.signals (get_or bits k d).sig
bit_within net bits k d e lt = (from_registers net.graph.signals net.regs (get_or bits k d) (subst (λ bs. Contains bs (get_or bits k d)) e (Contains-get_or bits k d lt))).3

-- what a register bit reads is listed
pub read_listed : (net : Net) → IsNet net → HasNextCells net → (cube : Cube) (x : Bit) → x.at < bit_count net.graph.signals x.sig → (b : Bit)
    → reads cube (next_tree net x.sig) x.at b ≡ true → Contains (bits_read_by net cube x) b
read_listed net is has cube x l b h = go (next_cell net.regs x.sig) refl
  where
    go : (o : Option CellId) → next_cell net.regs x.sig ≡ o → Contains (bits_read_by net cube x) b
    go None e = absurd (never (sym (ap (λ o. reads cube (tree_or_zero net.graph o) x.at b) e) ∙ h))
    go (Some c) e =
        let w = counted net.graph.signals b.sig b.at (read-within net is has cube x l c e b h) in
        in_filter (λ a. reads cube (next_tree net x.sig) x.at a) (bits_of_signals 0 net.graph.signals) b (in_signals b 0 b.sig net.graph.signals w.0 w.1 (omega arith) w.2) h

-- notes at the sought bits alone are the same for a bit that is sought
noted_sought : (s : Bit → Bool) (b : Bit) → s b ≡ true → (bits : List Bit) (reader old : Reader) → noted_in b (filter s bits) reader old ≡ noted_in b bits reader old
noted_sought s b h [] reader old = refl
noted_sought s b h (a ∷ bits) reader old = go (λ k. noted_sought s b h bits reader k) (s a) refl (bit_eq a b) refl
  where
    go : ((k : Reader) → noted_in b (filter s bits) reader k ≡ noted_in b bits reader k) → (v : Bool) → s a ≡ v → (w : Bool) → bit_eq a b ≡ w
        → noted_in b (filter s (a ∷ bits)) reader old ≡ noted_in b (a ∷ bits) reader old
    go rest true e w f = ap (λ (u : Bool). noted_in b (cond u (a ∷ filter s bits) (filter s bits)) reader old) e ∙ rest (cond (bit_eq a b) (more_readers old reader) old)
    go rest false e true f = absurd (never (sym e ∙ ap s (bit_eq-true a b f) ∙ h))
    go rest false e false f = ap (λ (u : Bool). noted_in b (cond u (a ∷ filter s bits) (filter s bits)) reader old) e ∙ rest old
        ∙ sym (ap (λ (u : Bool). noted_in b bits reader (cond u (more_readers old reader) old)) f)

-- a bit of a marked signal is sought
marked_sought : (marks : List (Option ℕ)) (b : Bit) → IsMarked marks b.sig → is_sought marks b ≡ true
marked_sought marks b h = go (slice_get marks b.sig) h
  where
    go : (o : Option (Option ℕ)) → is_some (unwrap_or o None) ≡ true → option_map_or (λ (mark : Option ℕ). is_some mark) o true ≡ true
    go None h = refl
    go (Some mark) h = h

-- the notes of a register bit that reads bits of marked signals
pub register_noted : (net : Net) → IsNet net → HasNextCells net → (x : Bit) → x.at < bit_count net.graph.signals x.sig → (marks : List (Option ℕ)) (bits : List Bit)
    → bits ≡ filter (is_sought marks) (bits_read_by net [] x) → (b : Bit) → IsMarked marks b.sig → (reader new old : Reader) → new ≡ noted_in b bits reader old → new ≡ cond (reads [] (next_tree net x.sig) x.at b) (more_readers old reader) old
register_noted net is has x l marks bits e b m reader new old n =
    n ∙ ap (λ xs. noted_in b xs reader old) e ∙ noted_sought (is_sought marks) b (marked_sought marks b m) (bits_read_by net [] x) reader old
    ∙ noted_read net [] x b reader old (read_listed net is has [] x l b)

-- all register bits have been met
pub joined_end : (p : Bit → Bool) (bits all : List Bit) (k : ℕ) (new old : Reader) → length bits ≤ k → joined new (filter p (drop k bits)) ≡ joined old (filter p bits)
    → old ≡ Nobody → bits ≡ all → new ≡ reader_among (filter p all)
unfolding joined
joined_end p bits all k new old l e nobody same =
    sym (at_drop_all (λ xs. joined new (filter p xs)) bits k l) ∙ e ∙ ap (λ r. joined r (filter p bits)) nobody ∙ joined_all (filter p bits) ∙ ap (λ xs. reader_among (filter p xs)) same

-- ---- outputs

any_none : (f : ℕ → Bool) (n : ℕ) → ((i : ℕ) → f i ≡ false) → any_below f n ≡ false
any_none f zero h = refl
any_none f (suc n) h = ap₂ (λ u v. u || v) (any_none f n h) (h n)

-- an output that the net doesn't have reads nothing
pub output_absent : (net : Net) (b : Bit) (o : CellId) → length net.graph.cells ≤ o.0 → output_reads net.graph b o ≡ false
output_absent net b o l = ap (λ t. any_below (λ i. reads [] t i b) (width t)) (no-tree net.graph o (slice_get_past net.graph.cells o.0 l))

-- nor does an output below which no marked signal stands read a bit of one
pub output_unmarked : (net : Net) (marks : List (Option ℕ)) (below : List Marks) (id : CellId) → ShowsMarks net.graph marks below id → marks_at below id ≡ Nothing
    → (b : Bit) → IsMarked marks b.sig → output_reads net.graph b id ≡ false
output_unmarked net marks below id shown none b marked =
    any_none (λ i. reads [] (tree_of net.graph id) i b) (width (tree_of net.graph id)) (λ i. unmarked_unread net marks below id shown none [] i b marked)

-- the notes of one bit more of an output
pub word_more : (f : ℕ → Bool) (at : ℕ) (b : Bit) (bits : List Bit) (old mid new : Reader) → (Contains bits b ↔ (f at ≡ true)) → new ≡ noted_in b bits Others mid
    → mid ≡ cond (any_below f at) Others old → new ≡ cond (any_below f (at + 1)) Others old
word_more f at b bits old mid new h n m =
    n ∙ noted_others b bits (f at) mid h ∙ ap (cond (f at) Others) m ∙ others_or (any_below f at) (f at) old ∙ ap (λ k. cond (any_below f k) Others old) (let e : suc at ≡ at + 1 = omega arith in e)

-- one output more
pub outputs_more : (f : CellId → Bool) (os : List CellId) (k : ℕ) (d : CellId) (mid new : Reader) → k < length os → new ≡ cond (f (get_or os k d)) Others mid
    → cond (list_any f (drop (k + 1) os)) Others new ≡ cond (list_any f (drop k os)) Others mid
outputs_more f os k d mid new l n =
    ap (cond (list_any f (drop (k + 1) os)) Others) n ∙ others_or (f (get_or os k d)) (list_any f (drop (k + 1) os)) mid
    ∙ ap (λ xs. cond (list_any f xs) Others mid) (sym (drop_more os k d l))

-- ---- no readers yet

nobody_again : (n m : ℕ) → get_or (replicate n Nobody) m Nobody ≡ Nobody
nobody_again zero m = refl
nobody_again (suc n) zero = refl
nobody_again (suc n) (suc m) = nobody_again n m

pub nobody_at : (ss : List Span) (rs : List Reader) (n : ℕ) → rs ≡ replicate n Nobody → (b : Bit) → reader_at (record { spans = ss; readers = rs }) b ≡ Nobody
nobody_at ss rs n e b = go (place_of ss b)
  where
    go : (o : Option ℕ) → unwrap_or (option_and_then (slice_get rs) o) Nobody ≡ Nobody
    go None = refl
    go (Some m) = unwrap_or-slice_get rs m Nobody ∙ ap (λ xs. get_or xs m Nobody) e ∙ nobody_again n m

-- one span more
pub widths_more : (whole : List ℕ) (ss : List Span) (signals : List Signal) (i : ℕ) (d : Signal) (s : Span) → i < length signals → s.width ≡ state_width (get_or signals i d)
    → whole ≡ map (λ (q : Span). q.width) ss ++ map state_width (drop i signals) → whole ≡ map (λ (q : Span). q.width) (ss ++ s ∷ []) ++ map state_width (drop (i + 1) signals)
widths_more whole ss signals i d s l w e =
    e ∙ ap (λ xs. map (λ (q : Span). q.width) ss ++ map state_width xs) (drop_more signals i d l)
    ∙ ap (λ n. map (λ (q : Span). q.width) ss ++ n ∷ map state_width (drop (i + 1) signals)) (sym w)
    ∙ sym (append_assoc (map (λ (q : Span). q.width) ss) (s.width ∷ []) (map state_width (drop (i + 1) signals)))
    ∙ ap (λ xs. xs ++ map state_width (drop (i + 1) signals)) (sym (map-append (λ (q : Span). q.width) ss (s ∷ [])))

-- ---- what a list answers

pub found_at : {A : Type 0} (xs : List A) (i : ℕ) (x : A) → true ≡ nat_lt i (length xs) → x ≡ get_or xs i x → slice_get xs i ≡ Some x
found_at xs i x l e = slice_get-get_or xs i x (ltb-true i (length xs) (sym l)) ∙ ap Some (sym e)

pub not_found : {A : Type 0} (xs : List A) (i : ℕ) → false ≡ nat_lt i (length xs) → slice_get xs i ≡ None
not_found xs i l = slice_get_past xs i (ltb-false i (length xs) (sym l))
