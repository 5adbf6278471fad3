-- FIFO order: pushes and pops over a run, and that a reader sees what was pushed first of what waits.
use Rattle.std.proofs.Common.{◌≡◌, ◌≢◌, ℕ, ◌+◌, ◌-◌, ◌*◌, ◌%◌, ◌^◌, ◌<◌, ◌≤◌, ◌==◌, ◌&&◌, Bool, true, false, cond, not, Option, Some, List, [], Contains, map, ◌⊎◌, inl, inr, refl, sym, ap, ap₂, subst, ◌∙◌, arith}
use Rattle.std.specs.Prelude.{slice_get}
use Rattle.std.proofs.lemmas.Bool.{both_ways, cases_eq, cases_lt, eq-eqb, false_from_ne_true, ne_eqb, true_from_ne_false}
use Rattle.cdc_base.specs.declared.bit.Bit.{Bit}
use Rattle.cell_graph.specs.Reading.{bit_eq, Reading}
use Rattle.cell_graph.specs.Tree.{Tree}
use Rattle.cell_graph.specs.Cofactor.{reads}
use Rattle.cell_graph.specs.Origin.{TreeBit, tree_bit}
use Rattle.cell_graph.proofs.Bits.{bit_eq-true}
use Rattle.cdc_model.specs.declared.scheme.GrayReg.{GrayReg}
use Rattle.cdc_model.specs.Design.{Design, bits_from, word, flipped}
use Rattle.cdc_model.specs.Facts.{Facts}
use Rattle.cdc_model.specs.Runs.{State, Trace, Start, Then, now, is_in, ticks, IsStep}
use Rattle.cdc_model.specs.Schemes.{Trees, Sync, is_settling, Ring}
use Rattle.cdc_model.proofs.Flips.{flipped_not}
use Rattle.fifo_terms.specs.Counts.{binary}
use Rattle.fifo_terms.specs.Takes.{taken}
use Rattle.fifo_terms.specs.Terms.{all_hold}
use Rattle.fifo_terms.proofs.Binary.{binary_tells}
use Rattle.fifo_terms.proofs.Same.{all_holds, has_holds}
use Rattle.fifo_terms.proofs.Takes.{takes_sound}
use Rattle.fifo_laws.specs.Sides.{side_width}
use Rattle.fifo_laws.specs.Words.{index_terms, depth_of, IsWordBit, IsWord, Column, IsColumn}
use Rattle.fifo_laws.specs.Fifos.{IsReader, Fifo, IsFifo}
use Rattle.fifo_laws.specs.Order.{agree_on, changes, before_change, pops, IsPushed, IsWithinDepth, IsOldest, ReadsOldest}
use Rattle.fifo_laws.specs.Laws.{AreLists, IsSoundRun}
use Rattle.fifo_laws.proofs.Flip.{Room, below_depth, reader_same, word_moves, word_stays}
use Rattle.fifo_laws.proofs.FlipCross.{column_word, word_settled}
use Rattle.fifo_laws.proofs.FlipIndex.{binary_bits, same_low, index_is, is_index, less_apart}
use Rattle.fifo_laws.proofs.OrderCount.{CountStep, Stays, Counts, count_step, counted, changes_once, half_round, further}

-- ---- counted words

-- A FIFO's counts in a state, unfolded: they have the words, and lie apart by the depth at most.
pub record Span (w depth : ℕ) (write read : List Bool) : Type 0 where
  pub wb : ℕ
  pub rb : ℕ
  pub write_word : write ≡ binary w wb
  pub read_word : read ≡ binary w rb
  pub popped : rb ≤ wb
  pub room : wb ≤ rb + depth

-- a number of pushes and one of pops that have these words, one after the other
spans_apart : (w depth p q : ℕ) (write read : List Bool) → Span w depth write read → write ≡ binary w p → read ≡ binary w q → (2 ^ w ≡ 2 * depth) × (2 ≤ depth)
    → (p + 1 ≢ q) × (p ≢ q + depth + 1)
spans_apart w depth p q write read s hp hq (round, deep) = (behind, beyond)
  where
    behind : p + 1 ≢ q
    behind e =
        let f : binary w s.rb ≡ binary w (s.wb + 1) = sym s.read_word ∙ hq ∙ ap (binary w) (sym e) ∙ further w p s.wb 1 (sym hp ∙ s.write_word) in
        let a = s.popped in
        let b = s.room in
        let g : s.rb ≡ s.wb + 1 = binary_tells w s.rb (s.wb + 1) f (omega (arith, a)) (omega (arith, b, round, deep)) in
        omega (arith, a, g)

    beyond : p ≢ q + depth + 1
    beyond e =
        let f : binary w s.wb ≡ binary w (s.rb + (depth + 1)) = sym s.write_word ∙ hp ∙ ap (binary w) (let g : p ≡ q + (depth + 1) = omega (arith, e) in g) ∙ further w q s.rb (depth + 1) (sym hq ∙ s.read_word) in
        let a = s.popped in
        let b = s.room in
        let g : s.wb ≡ s.rb + (depth + 1) = binary_tells w s.wb (s.rb + (depth + 1)) f (omega (arith, b)) (omega (arith, a, round, deep)) in
        omega (arith, b, g)

-- they lie as far apart as the unfolded counts
as_far : (w depth p q wb rb : ℕ) (write read : List Bool) → write ≡ binary w wb → read ≡ binary w rb → rb ≤ wb → wb ≤ rb + depth → write ≡ binary w p → read ≡ binary w q
    → (2 ^ w ≡ 2 * depth) × (2 ≤ depth) → q ≤ p → p ≤ q + depth → p + rb ≡ q + wb
as_far w depth p q wb rb write read hw hr a b hp hq (round, deep) l m = go (cases_lt (rb + (p - q)) wb)
  where
    f : binary w (rb + (p - q)) ≡ binary w wb
    f = further w rb q (p - q) (sym hr ∙ hq) ∙ ap (binary w) (let e : q + (p - q) ≡ p = omega (arith, l) in e) ∙ sym hp ∙ hw

    go : (rb + (p - q) < wb) ⊎ (wb ≤ rb + (p - q)) → p + rb ≡ q + wb
    go (inl k) = let e : rb + (p - q) ≡ wb = binary_tells w (rb + (p - q)) wb f (omega (arith, k)) (omega (arith, b, round, deep)) in omega (arith, e, l)
    go (inr k) = let e : wb ≡ rb + (p - q) = binary_tells w wb (rb + (p - q)) (sym f) k (omega (arith, a, m, l, round, deep)) in omega (arith, e, l)

-- within the depth, a step that changes each word once at most goes on so
stays_within : (p q p' q' depth : ℕ) → q ≤ p → p ≤ q + depth → p ≤ p' → p' ≤ p + 1 → q ≤ q' → q' ≤ q + 1 → p' + 1 ≢ q' → p' ≢ q' + depth + 1 → (q' ≤ p') × (p' ≤ q' + depth)
stays_within p q p' q' depth a b c e f g h i = (omega (arith, a, c, g, h), omega (arith, b, e, f, i))

one_clock : (a b : ℕ) (o : Option ℕ) → o ≡ Some a → o ≡ Some b → a ≡ b
one_clock a b o e g = cc

-- ---- a run

module _ (d : Design) (tree : ℕ → Tree) (t : Trees) (syncs : List Sync) (grays : List GrayReg) (lists : AreLists d tree t syncs grays) (rings : List Ring) (f : Fifo)
    (k : IsFifo d tree syncs grays f)
    (span : (run : Trace) → IsSoundRun d syncs grays rings run → Span (side_width d k.write) (depth_of d k.write) (map (now run).values (word d k.write.reg.count)) (map (now run).values (word d k.read.reg.count)))
    (rooms : (run : Trace) → IsSoundRun d syncs grays rings run → Facts d syncs grays rings (now run) → Room d tree k.write k.read (now run).values) where
  abbrev pushed : Trace → ℕ
  pushed run = changes (word d k.write.reg.count) run

  abbrev popped : Trace → ℕ
  popped run = changes (word d k.read.reg.count) run

  abbrev depth : ℕ
  depth = depth_of d k.write

  same_width : side_width d k.read ≡ side_width d k.write
  same_width = k.wide.3 ∙ sym k.wide.2

  round : (2 ^ side_width d k.write ≡ 2 * depth) × (2 ≤ depth)
  round = half_round (side_width d k.write) (let a = k.wide.0 in let b = k.wide.2 in omega (arith, a, b))

  deep : f.depth ≡ depth
  deep = k.deep ∙ ap (λ n. 2 ^ (n - 1)) (sym k.wide.2)

  write_named : bits_from f.wb 0 f.width ≡ word d k.write.reg.count
  write_named = ap₂ (λ sig n. bits_from sig 0 n) (sym k.named.0) (sym k.wide.2)

  read_named : bits_from f.rb 0 f.width ≡ word d k.read.reg.count
  read_named = ap₂ (λ sig n. bits_from sig 0 n) (sym k.named.2) (sym k.wide.3)

  write_counted : (run : Trace) → IsSoundRun d syncs grays rings run → map (now run).values (word d k.write.reg.count) ≡ binary (side_width d k.write) (pushed run)
  write_counted run h = counted d tree t syncs grays lists k.read.clock k.write k.writes rings run h

  read_counted : (run : Trace) → IsSoundRun d syncs grays rings run → map (now run).values (word d k.read.reg.count) ≡ binary (side_width d k.write) (popped run)
  read_counted run h = counted d tree t syncs grays lists k.write.clock k.read k.reads rings run h ∙ ap (λ w. binary w (popped run)) same_width

  within : (run : Trace) → IsSoundRun d syncs grays rings run → (popped run ≤ pushed run) × (pushed run ≤ popped run + depth)
  within (Start s) h = (omega arith, omega arith)
  within (Then past edges new) h =
      let i = within past h.0 in
      let a = changes_once (word d k.write.reg.count) past edges new in
      let b = changes_once (word d k.read.reg.count) past edges new in
      let run = Then past edges new in
      let c = spans_apart (side_width d k.write) depth (pushed run) (popped run) (map new.values (word d k.write.reg.count)) (map new.values (word d k.read.reg.count)) (span run h)
      (write_counted run h) (read_counted run h) round in
      stays_within (pushed past) (popped past) (pushed run) (popped run) depth i.0 i.1 a.0 a.1 b.0 b.1 c.0 c.1

  pub is_within : (run : Trace) → IsSoundRun d syncs grays rings run → IsWithinDepth f run
  is_within run h = let i = within run h in (
    subst (λ (bs : List Bit). changes (bits_from f.rb 0 f.width) run ≤ changes bs run) (sym write_named) (subst (λ (bs : List Bit). changes bs run ≤ pushed run) (sym read_named) i.0),
    subst (λ (bs : List Bit). changes bs run ≤ changes (bits_from f.rb 0 f.width) run + f.depth) (sym write_named)
        (subst (λ (bs : List Bit). pushed run ≤ changes bs run + f.depth) (sym read_named) (subst (λ (n : ℕ). pushed run ≤ popped run + n) (sym deep) i.1)),
  )

  -- so pushes and pops lie as far apart as a room's counts
  far_apart : (run : Trace) → IsSoundRun d syncs grays rings run → (room : Room d tree k.write k.read (now run).values) → pushed run + room.rb ≡ popped run + room.wb
  far_apart run h room = let i = within run h in
      as_far (side_width d k.write) depth (pushed run) (popped run) room.wb room.rb (map (now run).values (word d k.write.reg.count)) (map (now run).values (word d k.read.reg.count))
      room.write_word (room.read_word ∙ ap (λ w. binary w room.rb) same_width) (let a = room.between in let b = room.ahead in omega (arith, a, b)) (let a = room.behind in let b = room.room in omega (arith, a, b))
      (write_counted run h) (read_counted run h) round i.0 i.1

  -- numbers whose words a side has are at one index
  write_index : (v : Reading) (m n : ℕ) → map v (word d k.write.reg.count) ≡ binary (side_width d k.write) m → map v (word d k.write.reg.count) ≡ binary (side_width d k.write) n → m % depth ≡ n % depth
  write_index v m n e g = same_low (side_width d k.write - 1) m n (λ j l.
      sym (binary_bits v k.write.reg.count 0 (side_width d k.write) m j j e (omega arith) (omega (arith, l))) ∙ binary_bits v k.write.reg.count 0 (side_width d k.write) n j j g (omega arith) (omega (arith, l)))

  read_index : (v : Reading) (m n : ℕ) → map v (word d k.read.reg.count) ≡ binary (side_width d k.write) m → map v (word d k.read.reg.count) ≡ binary (side_width d k.read) n → m % depth ≡ n % depth
  read_index v m n e g = same_low (side_width d k.write - 1) m n (λ j l.
      sym (binary_bits v k.read.reg.count 0 (side_width d k.read) m j j (e ∙ ap (λ w. binary w m) (sym same_width)) (omega arith) (let s = same_width in omega (arith, l, s)))
      ∙ binary_bits v k.read.reg.count 0 (side_width d k.read) n j j g (omega arith) (let s = same_width in omega (arith, l, s)))

  -- the state in which a push was made: all its terms held, and the count was its number
  abbrev PushedIn : Trace → ℕ → Type 0
  PushedIn run j = (s : State) × (before_change (word d k.write.reg.count) (j + 1) run ≡ Some s) × (all_hold s.values k.write.under ≡ true)
      × (map s.values (word d k.write.reg.count) ≡ binary (side_width d k.write) j)

  before_stays : (m : ℕ) (past : Trace) (edges : ℕ → Bool) (new : State) → agree_on (word d k.write.reg.count) (now past).values new.values ≡ true
      → before_change (word d k.write.reg.count) m (Then past edges new) ≡ before_change (word d k.write.reg.count) m past
  before_stays m past edges new a = ap (λ v. cond (not v && (pushed past + 1 == m)) (Some (now past)) (before_change (word d k.write.reg.count) m past)) a

  before_counts : (m : ℕ) (past : Trace) (edges : ℕ → Bool) (new : State) → agree_on (word d k.write.reg.count) (now past).values new.values ≡ false → (v : Bool) → (pushed past + 1 == m) ≡ v
      → before_change (word d k.write.reg.count) m (Then past edges new) ≡ cond v (Some (now past)) (before_change (word d k.write.reg.count) m past)
  before_counts m past edges new a v e = ap₂ (λ u w. cond (not u && w) (Some (now past)) (before_change (word d k.write.reg.count) m past)) a e

  abbrev WriteStep : (ℕ → Bool) → Trace → State → Type 0
  WriteStep edges past new = CountStep d k.write edges past new (pushed past)

  write_step : (past : Trace) (edges : ℕ → Bool) (new : State) → IsSoundRun d syncs grays rings (Then past edges new) → WriteStep edges past new
  write_step past edges new h = count_step d tree t syncs grays lists k.read.clock k.write k.writes edges past new h.1 h.2.settled h.3 (pushed past) (write_counted past h.0)

  pushed_in : (run : Trace) → IsSoundRun d syncs grays rings run → (j : ℕ) → j < pushed run → PushedIn run j
  pushed_in (Start s) h j l = absurd (omega (arith, l))
  pushed_in (Then past edges new) h j l = go (λ m. pushed_in past h.0 j m) (write_step past edges new h)
    where
      go : (j < pushed past → PushedIn past j) → WriteStep edges past new → PushedIn (Then past edges new) j
      go ih (Stays a e) =
          let m : pushed past + cond (agree_on (word d k.write.reg.count) (now past).values new.values) 0 1 ≡ pushed past + 0 = ap (λ v. pushed past + cond v 0 1) a in
          let (s, b, all, is) = ih (omega (arith, l, m)) in
          (s, before_stays (j + 1) past edges new a ∙ b, all, is)
      go ih (Counts a e all tick) = elim (cases_eq j (pushed past)) [
        | inl same ↦ (
          now past,
          before_counts (j + 1) past edges new a true (eq-eqb (pushed past + 1) (j + 1) (omega (arith, same))),
          all,
          write_counted past h.0 ∙ ap (binary (side_width d k.write)) (sym same),
        )
        | inr ne ↦
            let m : pushed past + cond (agree_on (word d k.write.reg.count) (now past).values new.values) 0 1 ≡ pushed past + 1 = ap (λ v. pushed past + cond v 0 1) a in
            let (s, b, all', is) = ih (omega (arith, l, m, ne)) in
            (s, before_counts (j + 1) past edges new a false (ne_eqb (pushed past + 1) (j + 1) (λ e'. ne (omega (arith, e')))) ∙ b, all', is)
      ]

  -- ---- what a word holds

  -- where all terms of a push hold, a word bit's do at the count, and it takes its node
  pushes_hold : (n : ℕ) (value : TreeBit) (b : Bit) → IsWordBit d tree k.write k.read n value b → n < depth → (v : Reading) (c : ℕ) → map v (word d k.write.reg.count) ≡ binary (side_width d k.write) c
      → c % depth ≡ n → all_hold v k.write.under ≡ true → all_hold v (taken b (tree b.sig) b.at).under ≡ true
  pushes_hold n value b w l v c is at all = all_holds v (taken b (tree b.sig) b.at).under (λ s i. elim (w.others s i) [
    | inl j ↦ has_holds v (index_terms d k.write n) s (is_index d k.write v c (λ j m. binary_bits v k.write.reg.count 0 (side_width d k.write) c j j is (omega arith) m) n l at) j
    | inr j ↦ has_holds v k.write.under s all j
  ])

  -- the value that was pushed, and stands in the word bit
  abbrev Holds : Column → Bit → Trace → ℕ → Type 0
  Holds c b run j = (s : State) × (before_change (word d k.write.reg.count) (j + 1) run ≡ Some s) × (tree_bit s.values c.value ≡ (now run).values b)

  module _ (c : Column) (n : ℕ) (b : Bit) (w : IsWordBit d tree k.write k.read n c.value b) (l : n < depth) (none : is_settling d syncs b ≡ false) where
    -- while a value waits in it, a word bit keeps it
    waits : (past : Trace) (edges : ℕ → Bool) (new : State) → IsSoundRun d syncs grays rings (Then past edges new) → (j : ℕ) → popped past ≤ j → j < pushed past → j % depth ≡ n → new.values b ≡ (now past).values b
    waits past edges new h j low high at = elim (word_moves d tree t syncs grays lists rings f k (now past) h.2 room edges new h.1 n c.value b w l none) [
      | inl e ↦ e
      | inr p ↦ absurd (less_apart j (pushed past) depth high (let q = p.1 in let r = room.behind in omega (arith, q, r, far, low)) (at ∙ sym p.0 ∙ write_index (now past).values room.wb (pushed past) room.write_word (write_counted past h.0)))
    ]
      where
        room : Room d tree k.write k.read (now past).values
        room = rooms past h.0 h.2

        far : pushed past + room.rb ≡ popped past + room.wb
        far = far_apart past h.0 room

    holds_pushed : (run : Trace) → IsSoundRun d syncs grays rings run → (j : ℕ) → popped run ≤ j → j < pushed run → j % depth ≡ n → Holds c b run j
    holds_pushed (Start s) h j low high at = absurd (omega (arith, high))
    holds_pushed (Then past edges new) h j low high at = go (λ i m. holds_pushed past h.0 j i m at) (write_step past edges new h)
      where
        low_before : popped past ≤ j
        low_before = let i = (changes_once (word d k.read.reg.count) past edges new).0 in omega (arith, i, low)

        kept : popped past ≤ j → j < pushed past → Holds c b past j → before_change (word d k.write.reg.count) (j + 1) (Then past edges new) ≡ before_change (word d k.write.reg.count) (j + 1) past
            → Holds c b (Then past edges new) j
        kept i m (s, e, v) g = (s, g ∙ e, v ∙ sym (waits past edges new h j i m at))

        taking : edges k.write.clock ≡ true → all_hold (now past).values k.write.under ≡ true → j ≡ pushed past → tree_bit (now past).values c.value ≡ new.values b
        taking tick all same =
            let ticking : ticks d edges b ≡ true = ap (λ o. is_in o edges) w.clock ∙ tick in
            let p = step_of.captured b w.register ticking in
            let r = (now past).values in
            let hold : all_hold r (taken b (tree b.sig) b.at).under ≡ true = pushes_hold n c.value b w l r (pushed past) (write_counted past h.0) (ap (λ z. z % depth) (sym same) ∙ at) all in
            sym (p.2 ∙ h.3 b w.register ticking none tt p.0 p.1 ∙ lists.next.next r b w.register ∙ takes_sound r b (tree b.sig) b.at
            ∙ ap (λ v. cond v (tree_bit r (taken b (tree b.sig) b.at).node) (r b)) hold ∙ ap (tree_bit r) w.takes)
          where
            step_of : IsStep d edges (now past) new
            step_of = h.1

        go : (popped past ≤ j → j < pushed past → Holds c b past j) → WriteStep edges past new → Holds c b (Then past edges new) j
        go ih (Stays a e) =
            let m : pushed past + cond (agree_on (word d k.write.reg.count) (now past).values new.values) 0 1 ≡ pushed past + 0 = ap (λ v. pushed past + cond v 0 1) a in
            let i : j < pushed past = omega (arith, high, m) in
            kept low_before i (ih low_before i) (before_stays (j + 1) past edges new a)
        go ih (Counts a e all tick) = elim (cases_eq j (pushed past)) [
          | inl same ↦ (now past, before_counts (j + 1) past edges new a true (eq-eqb (pushed past + 1) (j + 1) (omega (arith, same))), taking tick all same)
          | inr ne ↦
              let m : pushed past + cond (agree_on (word d k.write.reg.count) (now past).values new.values) 0 1 ≡ pushed past + 1 = ap (λ v. pushed past + cond v 0 1) a in
              let i : j < pushed past = omega (arith, high, m, ne) in
              kept low_before i (ih low_before i) (before_counts (j + 1) past edges new a false (ne_eqb (pushed past + 1) (j + 1) (λ e'. ne (omega (arith, e')))))
        ]

  -- ---- what a reader sees

  module _ (past : Trace) (edges : ℕ → Bool) (new : State) (h : IsSoundRun d syncs grays rings (Then past edges new)) (x b : Bit) (among_readers : Contains f.readers x) (c : Column)
      (listed : Contains f.columns c) (among : Contains c.words b) (matters : d.next (now past).values x ≢ d.next (flipped (bit_eq b) (now past).values) x) where
    abbrev r : Reading
    r = (now past).values

    abbrev q : Reading
    q = flipped (bit_eq b) (now past).values

    reader : IsReader d tree k.write k.read x
    reader = k.readers.only x among_readers

    unflipped : (a : Bit) → (b ≡ a → ⊥) → q a ≡ r a
    unflipped a ne = flipped_not (bit_eq b) r a (false_from_ne_true (bit_eq b a) (λ e. ne (bit_eq-true b a e)))

    is_read : reads [] (tree x.sig) x.at b ≡ true
    is_read = true_from_ne_false (reads [] (tree x.sig) x.at b) (λ e. matters (lists.trees.reads [] x r q reader.register tt tt (λ a s. sym (unflipped a (λ same.
        both_ways (t.reads [] x b) (lists.reads x b reader.register ∙ e) (subst (λ (z : Bit). t.reads [] x z ≡ true) (sym same) s))))))

    found : (n : ℕ) × (n < depth) × (slice_get c.words n ≡ Some b) × IsWordBit d tree k.write k.read n c.value b
    found = column_word d tree t syncs grays lists f k c listed b among

    is_word : IsWord d tree k.write k.read b
    is_word = (found.0, c.value, found.1, found.3)

    settled : is_settling d syncs b ≡ false
    settled = word_settled d tree t syncs grays lists f k b x (record { from = (c, listed, among); to = among_readers; reads = is_read })

    room : Room d tree k.write k.read r
    room = rooms past h.0 h.2

    far : pushed past + room.rb ≡ popped past + room.wb
    far = far_apart past h.0 room

    one_value : (room.rb < room.there → (e : Column) (m : Bit) → IsColumn d tree k.write k.read e → slice_get e.words (room.rb % depth) ≡ Some m → r m ≡ q m) → ⊥
    one_value g = matters (reader_same d tree t syncs grays lists rings f k (now past) h.2 room x reader r q (λ a firm. refl)
        (λ a firm. unflipped a (λ same. k.apart (ap d.group_of (one_clock k.write.clock k.read.clock (d.clock b) found.3.clock (ap d.clock same ∙ firm.clock)))))
        (λ a no. sym (unflipped a (λ same. no (subst (IsWord d tree k.write k.read) same is_word)))) g)

    some : room.rb < room.there
    some = elim (cases_lt room.rb room.there) [
      | inl l ↦ l
      | inr l ↦ absurd (one_value (λ m. absurd (omega (arith, l, m))))
    ]

    waiting : popped past < pushed past
    waiting = let a = some in let b = room.ahead in let e = far in omega (arith, a, b, e)

    popped_at : popped past % depth ≡ room.rb % depth
    popped_at = read_index r (popped past) room.rb (read_counted past h.0) room.read_word

    -- a bit that is the word to be read of any column is of no other number
    no_other : (e : Column) (m : Bit) → IsColumn d tree k.write k.read e → slice_get e.words (room.rb % depth) ≡ Some m → b ≡ m → popped past % depth ≡ found.0
    no_other e m is g same =
        let w = subst (IsWordBit d tree k.write k.read (room.rb % depth) e.value) (sym same) (is.words (room.rb % depth) m g) in
        let (s, before, all, word') = pushed_in past h.0 (popped past) waiting in
        let hold = pushes_hold (room.rb % depth) e.value b w (below_depth room.rb (side_width d k.write - 1)) s.values (popped past) word' popped_at all in
        index_is d k.write s.values (popped past) (λ j l. binary_bits s.values k.write.reg.count 0 (side_width d k.write) (popped past) j j word' (omega arith) l) found.0 found.1
        (all_holds s.values (index_terms d k.write found.0) (λ u i. has_holds s.values (taken b (tree b.sig) b.at).under u hold (found.3.index u i)))

    index : popped past % depth ≡ found.0
    index = elim (cases_eq (popped past % depth) found.0) [
      | inl e ↦ e
      | inr ne ↦ absurd (one_value (λ l e m is g. sym (unflipped m (λ same. ne (no_other e m is g same)))))
    ]

    pub is_oldest : IsOldest f past new c b
    is_oldest = record {
      pushed = subst (λ (bs : List Bit). changes (bits_from f.rb 0 f.width) past < changes bs past) (sym write_named) (subst (λ (bs : List Bit). changes bs past < pushed past) (sym read_named) waiting);
      word = ap (slice_get c.words) (ap₂ (λ m n. m % n) pops_are deep ∙ index) ∙ found.2;
      before = before;
      after = word_stays d tree t syncs grays lists rings f k (now past) h.2 room edges new h.1 found.0 c.value b found.3 found.1 settled some (sym popped_at ∙ index);
    }
      where
        pops_are : pops f past ≡ popped past
        pops_are = ap (λ bs. changes bs past) read_named

        before : IsPushed f c (pops f past + 1) past (r b)
        before =
            let (s, e, v) = holds_pushed c found.0 b found.3 found.1 settled past h.0 (popped past) (omega arith) waiting index in
            (s, ap₂ (λ bs n. before_change bs (n + 1) past) write_named pops_are ∙ e, v)

  pub reads_oldest : (past : Trace) (edges : ℕ → Bool) (new : State) → IsSoundRun d syncs grays rings (Then past edges new) → ReadsOldest d f past edges new
  reads_oldest past edges new h x b c among_readers ticking listed among matters = is_oldest past edges new h x b among_readers c listed among matters
