-- Columns by their words, in a map that is ordered by words.
use Rattle.std.proofs.Common.{◌≡◌, ◌∙◌, ◌↔◌, ◌⊎◌, inl, inr, sym, ap, ap₂, subst, refl, ℕ, ◌==◌, nat_lt, Bool, true, false, cond, Option, Some, List, [], ◌∷◌, map, Contains, Ordering, Less, Equal, Greater, ltb-true, eqb-true}
use Rattle.std.specs.BTreeMap.{BTreeMap, insert_entry, IsOrdered}
use Rattle.std.specs.Cmp.Lexicographic.{slice_cmp}
use Rattle.std.specs.List.{AllByRecursion}
use Rattle.std.specs.List.Sorted.{IsStrictlySortedBy}
use Rattle.std.specs.Map.{keys_of}
use Rattle.std.specs.Ordering.{match_ordering, nat_cmp, ordering_then}
use Rattle.std.specs.declared.vec.Vec.{Vec}
use Rattle.cdc_base.specs.contracts.bit.BitOrd.TheImpl as order
use Rattle.cdc_base.specs.declared.bit.Bit.{Bit}
use Rattle.cell_graph.specs.declared.cell.Node.{Node}
use Rattle.cdc_model.specs.Ordered.{is_before, IsAscending}
use Rattle.cdc_model.proofs.Ascending.{Ascends, ascending, here, later, less_before, nothing_in, parts, same_before}
use Rattle.fifo_laws.specs.Fifos.{bits_key}
use Rattle.fifo_scheme.specs.declared.found.Column.{Column}
use Rattle.fifo_scheme.specs.declared.index.Index.{Index}
use Rattle.fifo_scheme.specs.declared.judge.Reads.{Reads}
use Rattle.fifo_parts.specs.declared.reads.Read.{Read}
use Rattle.fifo_scheme.specs.Met.{column_at, entry_column}

-- ---- words

number_then : (m n : ℕ) (o : Ordering) (ms ns : List ℕ) → (o ≡ Less → is_before ms ns ≡ true) → ordering_then (nat_cmp m n) o ≡ Less → is_before (m ∷ ms) (n ∷ ns) ≡ true
number_then m n o ms ns f h = go (nat_lt m n) refl (m == n) refl h
  where
    go : (p : Bool) → nat_lt m n ≡ p → (q : Bool) → (m == n) ≡ q → ordering_then (cond p Less (cond q Equal Greater)) o ≡ Less → is_before (m ∷ ms) (n ∷ ns) ≡ true
    go true e q g k = less_before m n ms ns (ltb-true m n e)
    go false e true g k = same_before m n ms ns (eqb-true m n g) (f k)
    go false e false g k = cc

number_same : (m n : ℕ) → nat_cmp m n ≡ Equal → m ≡ n
number_same m n h = go (nat_lt m n) (m == n) refl h
  where
    go : (p q : Bool) → (m == n) ≡ q → cond p Less (cond q Equal Greater) ≡ Equal → m ≡ n
    go true q e k = cc
    go false true e k = eqb-true m n e
    go false false e k = cc

then_then : (a b c : Ordering) → ordering_then (ordering_then a b) c ≡ ordering_then a (ordering_then b c)
then_then Less b c = refl
then_then Equal b c = refl
then_then Greater b c = refl

both_equal : (a b : Ordering) → ordering_then a b ≡ Equal → (a ≡ Equal) × (b ≡ Equal)
both_equal Less b h = cc
both_equal Equal b h = (refl, h)
both_equal Greater b h = cc

pub words_before : (xs ys : List Bit) → slice_cmp order.ghosts.cmp xs ys ≡ Less → is_before (bits_key xs) (bits_key ys) ≡ true
words_before [] [] h = cc
words_before [] (y ∷ ys) h = refl
words_before (x ∷ xs) [] h = cc
words_before (x ∷ xs) (y ∷ ys) h =
    number_then x.sig y.sig (ordering_then (nat_cmp x.at y.at) (slice_cmp order.ghosts.cmp xs ys)) (x.at ∷ bits_key xs) (y.at ∷ bits_key ys)
    (number_then x.at y.at (slice_cmp order.ghosts.cmp xs ys) (bits_key xs) (bits_key ys) (words_before xs ys))
    (sym (then_then (nat_cmp x.sig y.sig) (nat_cmp x.at y.at) (slice_cmp order.ghosts.cmp xs ys)) ∙ h)

pub words_same : (xs ys : List Bit) → slice_cmp order.ghosts.cmp xs ys ≡ Equal → xs ≡ ys
words_same [] [] h = refl
words_same [] (y ∷ ys) h = cc
words_same (x ∷ xs) [] h = cc
words_same (x ∷ xs) (y ∷ ys) h =
    let both = both_equal (order.ghosts.cmp x y) (slice_cmp order.ghosts.cmp xs ys) h in
    let bit = both_equal (nat_cmp x.sig y.sig) (nat_cmp x.at y.at) both.0 in
    let s = number_same x.sig y.sig bit.0 in
    let t = number_same x.at y.at bit.1 in
    ap₂ (λ (b : Bit) bs. b ∷ bs) (λ i. record { sig = s i; at = t i }) (words_same xs ys both.1)

-- ---- entries

abbrev pub by_words : {Z : Type 0} → Vec Bit Z → Vec Bit Z → Ordering
by_words v w = slice_cmp order.ghosts.cmp v.items w.items

module _ {Z : Type 0} where
  behind_all : (k : Vec Bit Z) (es : List (Vec Bit Z × Option Node)) → AllByRecursion (λ w. by_words k w ≡ Less) (keys_of es) → (c : Column) → Contains (map entry_column es) c → is_before (bits_key k.items) (bits_key c.words) ≡ true
  behind_all k [] h c i = absurd (nothing_in c i)
  behind_all k (e ∷ es) h c i = elim (parts (entry_column e) (map entry_column es) c i) [
    | inl same ↦ subst (λ (x : Column). is_before (bits_key k.items) (bits_key x.words) ≡ true) same (words_before k.items e.0.items h.0)
    | inr j ↦ behind_all k es h.1 c j
  ]

  entries_ascend : (es : List (Vec Bit Z × Option Node)) → IsStrictlySortedBy by_words (keys_of es) → Ascends (λ (c : Column). bits_key c.words) (map entry_column es)
  unfolding IsStrictlySortedBy
  entries_ascend [] h = tt
  entries_ascend (e ∷ es) h = (behind_all e.0 es h.0, entries_ascend es h.1)

  pub columns_ascend : (m : BTreeMap (Vec Bit Z) (Option Node)) → IsOrdered by_words m → IsAscending (λ (c : Column). bits_key c.words) (map entry_column m.entries)
  columns_ascend m h = ascending (λ (c : Column). bits_key c.words) (map entry_column m.entries) (entries_ascend m.entries h)

  -- one entry more, of which the words have one value
  pub one_inserted : (es : List (Vec Bit Z × Option Node)) (k : Vec Bit Z) (v : Option Node) → ((c : Column) → Contains (map entry_column es) c → c.words ≡ k.items → c.value ≡ v) → (c : Column)
      → Contains (map entry_column (insert_entry by_words es k v)) c ↔ (Contains (map entry_column es) c ⊎ (record { words = k.items; value = v } ≡ c))
  one_inserted [] k v h c = (
    λ i. elim (parts (record { words = k.items; value = v }) [] c i) [ inl e ↦ inr e | inr j ↦ inl j ],
    λ i. elim i [ inl j ↦ absurd (nothing_in c j) | inr e ↦ subst (Contains (entry_column (k, v) ∷ [])) e (here (entry_column (k, v)) []) ],
  )
  one_inserted (e ∷ es) k v h c = go (by_words k e.0) refl (one_inserted es k v (λ d i same. h d (later (entry_column e) (map entry_column es) d i) same) c)
    where
      go : (o : Ordering) → by_words k e.0 ≡ o → Contains (map entry_column (insert_entry by_words es k v)) c ↔ (Contains (map entry_column es) c ⊎ (record { words = k.items; value = v } ≡ c))
          → Contains (map entry_column (match_ordering o ((k, v) ∷ e ∷ es) ((e.0, v) ∷ es) (e ∷ insert_entry by_words es k v))) c ↔ (Contains (map entry_column (e ∷ es)) c ⊎ (record { words = k.items; value = v } ≡ c))
      go Less q ih = (
        λ i. elim (parts (entry_column (k, v)) (map entry_column (e ∷ es)) c i) [ inl s ↦ inr s | inr j ↦ inl j ],
        λ i. elim i [
          | inl j ↦ later (entry_column (k, v)) (map entry_column (e ∷ es)) c j
          | inr s ↦ subst (Contains (entry_column (k, v) ∷ map entry_column (e ∷ es))) s (here (entry_column (k, v)) (map entry_column (e ∷ es)))
        ],
      )
      go Equal q ih =
          let words = words_same k.items e.0.items q in
          let value = h (entry_column e) (here (entry_column e) (map entry_column es)) (sym words) in
          let mine : entry_column (e.0, v) ≡ entry_column (k, v) = λ i. let x : Column = record { words = sym words i; value = v } in x in
          let old : entry_column e ≡ entry_column (e.0, v) = λ i. let x : Column = record { words = e.0.items; value = value i } in x in (
            λ i. elim (parts (entry_column (e.0, v)) (map entry_column es) c i) [
              | inl s ↦ inr (sym mine ∙ s)
              | inr j ↦ inl (later (entry_column e) (map entry_column es) c j)
            ],
            λ i. elim i [
              | inl j ↦ elim (parts (entry_column e) (map entry_column es) c j) [
                | inl s ↦ subst (Contains (entry_column (e.0, v) ∷ map entry_column es)) (sym old ∙ s) (here (entry_column (e.0, v)) (map entry_column es))
                | inr l ↦ later (entry_column (e.0, v)) (map entry_column es) c l
              ]
              | inr s ↦ subst (Contains (entry_column (e.0, v) ∷ map entry_column es)) (mine ∙ s) (here (entry_column (e.0, v)) (map entry_column es))
            ],
          )
      go Greater q ih = (
        λ i. elim (parts (entry_column e) (map entry_column (insert_entry by_words es k v)) c i) [
          | inl s ↦ inl (subst (Contains (entry_column e ∷ map entry_column es)) s (here (entry_column e) (map entry_column es)))
          | inr j ↦ elim (ih.0 j) [ inl l ↦ inl (later (entry_column e) (map entry_column es) c l) | inr s ↦ inr s ]
        ],
        λ i. elim i [
          | inl j ↦ elim (parts (entry_column e) (map entry_column es) c j) [
            | inl s ↦ subst (Contains (entry_column e ∷ map entry_column (insert_entry by_words es k v))) s (here (entry_column e) (map entry_column (insert_entry by_words es k v)))
            | inr l ↦ later (entry_column e) (map entry_column (insert_entry by_words es k v)) c (ih.1 (inl l))
          ]
          | inr s ↦ later (entry_column e) (map entry_column (insert_entry by_words es k v)) c (ih.1 (inr s))
        ],
      )

pub column_added : {Z : Type 0} (i : Index) (reads : Reads) (n : Node) (old new : List (Vec Bit Z × Option Node)) (k : Vec Bit Z) (v : Option Node) (r : Read) → column_at i reads n ≡ Some (record { words = r.words; value = v }) → k.items ≡ r.words
    → new ≡ insert_entry by_words old k v → ((e c : Column) → Contains (map entry_column old) e → column_at i reads n ≡ Some c → e.words ≡ c.words → e.value ≡ c.value) → (c : Column)
    → Contains (map entry_column new) c ↔ (Contains (map entry_column old) c ⊎ (column_at i reads n ≡ Some c))
column_added {Z} i reads n old new k v r is words e one c =
    let mine : Column = record { words = r.words; value = v } in
    let here : record { words = k.items; value = v } ≡ mine = λ j. let x : Column = record { words = words j; value = v } in x in
    let h = one_inserted old k v (λ d at same. one d mine at is (same ∙ words)) c in (
      λ a. elim (h.0 (subst (λ (es : List (Vec Bit Z × Option Node)). Contains (map entry_column es) c) e a)) [
        | inl o ↦ inl o
        | inr s ↦ inr (is ∙ ap Some (sym here ∙ s))
      ],
      λ a. subst (λ (es : List (Vec Bit Z × Option Node)). Contains (map entry_column es) c) (sym e) (h.1 (elim a [
        | inl o ↦ inl o
        | inr s ↦ (let both : Some mine ≡ Some c = sym is ∙ s in let f : mine ≡ c = cc in inr (here ∙ f))
      ])),
    )
