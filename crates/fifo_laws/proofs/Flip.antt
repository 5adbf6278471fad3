-- What loose bits of a FIFO's words bring to its readers: nothing, since the word that is read doesn't move, and no other one gets through.
use Rattle.std.proofs.Common.{◌≡◌, ℕ, zero, suc, ◌+◌, ◌-◌, ◌%◌, ◌^◌, ◌<◌, ◌≤◌, Bool, true, false, cond, not, Some, List, [], ◌∷◌, map, length, ◌⊎◌, inl, inr, refl, sym, ap, ◌∙◌, arith}
use Rattle.std.specs.Prelude.{slice_get}
use Rattle.std.proofs.lemmas.Bool.{false_from_ne_true, cases_lt}
use Rattle.std.proofs.lemmas.Nat.{pow_pos}
use Rattle.cdc_base.specs.declared.bit.Bit.{Bit}
use Rattle.cell_graph.specs.Reading.{Reading}
use Rattle.cell_graph.specs.Tree.{Tree, bit, bit_at}
use Rattle.cell_graph.specs.Origin.{TreeBit, tree_bit}
use Rattle.cdc_model.specs.declared.scheme.GrayReg.{GrayReg}
use Rattle.cdc_model.specs.Design.{Design, word, flipped}
use Rattle.cdc_model.specs.Facts.{Facts}
use Rattle.cdc_model.specs.Runs.{State, ticks, IsLoose, Changes, Unsettled, AreLoose, IsStep}
use Rattle.cdc_model.specs.Schemes.{Trees, Sync, is_settling, Ring}
use Rattle.cdc_model.proofs.Flips.{flipped_not}
use Rattle.cdc_model.proofs.Chain.{left_zero}
use Rattle.fifo_terms.specs.Counts.{binary}
use Rattle.fifo_terms.specs.Takes.{taken}
use Rattle.fifo_terms.specs.Terms.{Term, holds, all_hold}
use Rattle.fifo_terms.proofs.Same.{each_holds, all_holds, has_holds}
use Rattle.fifo_terms.proofs.Takes.{takes_sound}
use Rattle.fifo_laws.specs.Sides.{Side, side_width}
use Rattle.fifo_laws.specs.Tests.{IsFullTest, IsEmptyTest, HasEmptyTest}
use Rattle.fifo_laws.specs.Words.{index_terms, depth_of, IsWordBit, IsWord, Column, IsColumn, Chooses}
use Rattle.fifo_laws.specs.Fifos.{marks_of, IsReader, Fifo, IsFifo}
use Rattle.fifo_laws.specs.Laws.{AreLists}
use Rattle.fifo_laws.proofs.Ways.{ways}
use Rattle.fifo_laws.proofs.FlipIndex.{binary_bits, index_is, chooses, less_apart}
use Rattle.fifo_laws.proofs.Settled.{AgreeOn, flips_agree, count_same, full_same, empty_same}

-- What a state keeps of a FIFO's room: its counts, unfolded, and what has come over of them.
pub record Room (d : Design) (tree : ℕ → Tree) (write read : Side) (s : Reading) : Type 0 where
  pub wb : ℕ
  pub rb : ℕ
  pub back : ℕ
  pub there : ℕ
  pub write_word : map s (word d write.reg.count) ≡ binary (side_width d write) wb
  pub read_word : map s (word d read.reg.count) ≡ binary (side_width d read) rb
  pub behind : back ≤ rb
  pub between : rb ≤ there
  pub ahead : there ≤ wb
  pub room : wb ≤ back + depth_of d write
  pub full : (t : Term) → IsFullTest d tree write read t → holds s t ≡ true → wb < back + depth_of d write
  pub empty : (t : Term) → IsEmptyTest d tree write read t → holds s t ≡ true → rb < there

pub get_within : {A : Type 0} (xs : List A) (i : ℕ) → i < length xs → (x : A) × (slice_get xs i ≡ Some x)
get_within [] i l = absurd (omega (arith, l))
get_within (x ∷ xs) zero l = (x, refl)
get_within (x ∷ xs) (suc i) l = get_within xs i (omega (arith, l))

pub below_depth : (a w : ℕ) → a % 2 ^ w < 2 ^ w
below_depth a w = let p = pow_pos w in omega (arith, p)

pub flip_same : (flips1 flips2 : Bit → Bool) (r : Reading) (b : Bit) → flips1 b ≡ flips2 b → flipped flips1 r b ≡ flipped flips2 r b
flip_same flips1 flips2 r b e = ap (λ v. cond v (not (r b)) (r b)) e

module _ (d : Design) (tree : ℕ → Tree) (t : Trees) (syncs : List Sync) (grays : List GrayReg) (lists : AreLists d tree t syncs grays) (rings : List Ring) (f : Fifo)
    (k : IsFifo d tree syncs grays f) (old : State) (facts : Facts d syncs grays rings old) (room : Room d tree k.write k.read old.values) where
  abbrev pub depth : ℕ
  depth = depth_of d k.write

  pub same_depth : depth_of d k.read ≡ depth
  same_depth = ap (λ w. 2 ^ (w - 1)) (k.wide.3 ∙ sym k.wide.2)

  -- readings that agree on the firm bits of a side have its count
  write_bits : (r : Reading) → AgreeOn d syncs k.write.clock r old.values → (j : ℕ) → j < side_width d k.write → r (record { sig = k.write.reg.count; at = j }) ≡ bit_at room.wb j
  write_bits r agree j l = binary_bits r k.write.reg.count 0 (side_width d k.write) room.wb j j
      (count_same d tree t syncs grays lists k.read.clock k.write k.writes r old.values agree ∙ room.write_word) (omega arith) l

  read_bits : (r : Reading) → AgreeOn d syncs k.read.clock r old.values → (j : ℕ) → j < side_width d k.read → r (record { sig = k.read.reg.count; at = j }) ≡ bit_at room.rb j
  read_bits r agree j l = binary_bits r k.read.reg.count 0 (side_width d k.read) room.rb j j
      (count_same d tree t syncs grays lists k.write.clock k.read k.reads r old.values agree ∙ room.read_word) (omega arith) l

  -- a word bit whose terms all hold is that of the count, and there is room
  pub taken_in : (n : ℕ) (value : TreeBit) (m : Bit) → IsWordBit d tree k.write k.read n value m → n < depth → (r : Reading) → AgreeOn d syncs k.write.clock r old.values
      → all_hold r (taken m (tree m.sig) m.at).under ≡ true → (room.wb % depth ≡ n) × (room.wb < room.back + depth)
  taken_in n value m w l r agree h = (
    index_is d k.write r room.wb (write_bits r agree) n l (all_holds r (index_terms d k.write n) (λ s i. has_holds r (taken m (tree m.sig) m.at).under s h (w.index s i))),
    room.full w.guarded.0 w.guarded.3 (sym (full_same d tree t syncs grays lists k.write k.read k.writes k.reads r old.values agree (facts.coded k.write.reg k.writes.listed) w.guarded.0 w.guarded.3)
        ∙ each_holds r (taken m (tree m.sig) m.at).under w.guarded.0 h w.guarded.1),
  )

  -- a reader takes one value in readings that have the read side's firm bits, if these differ in words alone, and not in the word to be read
  pub reader_same : (x : Bit) → IsReader d tree k.write k.read x → (r q : Reading) → AgreeOn d syncs k.read.clock r old.values → AgreeOn d syncs k.read.clock q old.values
      → ((b : Bit) → (IsWord d tree k.write k.read b → ⊥) → r b ≡ q b)
      → (room.rb < room.there → (c : Column) (m : Bit) → IsColumn d tree k.write k.read c → slice_get c.words (room.rb % depth) ≡ Some m → r m ≡ q m)
      → d.next r x ≡ d.next q x
  reader_same x reader r q hr hq agree read = lists.next.next r x reader.register ∙ go (cases_lt room.rb room.there) ∙ sym (lists.next.next q x reader.register)
    where
      brings : (v : Reading) → AgreeOn d syncs k.read.clock v old.values → (c : Column) → IsColumn d tree k.write k.read c → (n : TreeBit) → Chooses d k.read 0 c.words n
          → (m : Bit) → slice_get c.words (room.rb % depth) ≡ Some m → tree_bit v n ≡ v m
      brings v hv c is n ch m e = chooses d k.read v room.rb (read_bits v hv) 0 c.words n ch (let a = is.depth in let b = same_depth in omega (arith, a, b)) (room.rb % depth) m e
          (let h : room.rb % depth_of d k.read ≡ room.rb % depth = ap (λ z. room.rb % z) same_depth in omega (arith, h))

      chosen : room.rb < room.there → (c : Column) → IsColumn d tree k.write k.read c → (n : TreeBit) → Chooses d k.read 0 c.words n → tree_bit r n ≡ tree_bit q n
      chosen l c is n ch =
          let (m, e) = get_within c.words (room.rb % depth) (let a = is.depth in let b = below_depth room.rb (side_width d k.write - 1) in omega (arith, a, b)) in
          brings r hr c is n ch m e ∙ read l c m is e ∙ sym (brings q hq c is n ch m e)

      shut : room.there ≤ room.rb → (v : Reading) → AgreeOn d syncs k.read.clock v old.values → (ts : List Term) → HasEmptyTest d tree k.write k.read ts → all_hold v ts ≡ false
      shut l v hv ts (s, i, test) = false_from_ne_true (all_hold v ts) (λ h.
          let e : holds old.values s ≡ true = sym (empty_same d tree t syncs grays lists k.write k.read k.writes k.reads v old.values hv (facts.coded k.read.reg k.reads.listed) s test) ∙ each_holds v ts s h i in
          let b = room.empty s test e in
          omega (arith, l, b))

      go : (room.rb < room.there) ⊎ (room.there ≤ room.rb) → bit r (tree x.sig) x.at ≡ bit q (tree x.sig) x.at
      go (inl l) = ways (marks_of d tree k.write k.read) r q agree false (inl (λ u i p. chosen l p.0 p.1.0 (Some (u, i)) p.1.1)) (tree x.sig) x.at reader.passes
      go (inr l) = ways (marks_of d tree k.write k.read) r q agree false (inr (refl, λ ts p. (shut l r hr ts p, shut l q hq ts p))) (tree x.sig) x.at reader.passes

  module _ (edges : ℕ → Bool) (new : State) (step : IsStep d edges old new) where
    -- a word bit keeps its value, or it is that of the count and there is room
    pub word_moves : (n : ℕ) (value : TreeBit) (m : Bit) → IsWordBit d tree k.write k.read n value m → n < depth → is_settling d syncs m ≡ false
        → (new.values m ≡ old.values m) ⊎ ((room.wb % depth ≡ n) × (room.wb < room.back + depth))
    word_moves n value m w l none = go (ticks d edges m) refl
      where
        takes : (flips : Bit → Bool) → AgreeOn d syncs k.write.clock (flipped flips old.values) old.values → new.values m ≡ d.next (flipped flips old.values) m
            → (v : Bool) → all_hold (flipped flips old.values) (taken m (tree m.sig) m.at).under ≡ v → (new.values m ≡ old.values m) ⊎ ((room.wb % depth ≡ n) × (room.wb < room.back + depth))
        takes flips agree e true h = inr (taken_in n value m w l (flipped flips old.values) agree h)
        takes flips agree e false h = inl (e ∙ lists.next.next (flipped flips old.values) m w.register ∙ takes_sound (flipped flips old.values) m (tree m.sig) m.at
            ∙ ap (λ v. cond v (tree_bit (flipped flips old.values) (taken m (tree m.sig) m.at).node) (flipped flips old.values m)) h ∙ agree m (record { clock = w.clock; settled = none }))

        go : (v : Bool) → ticks d edges m ≡ v → (new.values m ≡ old.values m) ⊎ ((room.wb % depth ≡ n) × (room.wb < room.back + depth))
        go false e = inl (step.held m w.register e).0
        go true e =
            let (flips, loose, is) = step.captured m w.register e in
            takes flips (flips_agree d tree t syncs grays lists old new.values m k.write.clock flips facts.settled w.clock loose) is
            (all_hold (flipped flips old.values) (taken m (tree m.sig) m.at).under) refl

    -- the word to be read stays, where there is one
    pub word_stays : (n : ℕ) (value : TreeBit) (m : Bit) → IsWordBit d tree k.write k.read n value m → n < depth → is_settling d syncs m ≡ false
        → room.rb < room.there → room.rb % depth ≡ n → new.values m ≡ old.values m
    word_stays n value m w l none some at = elim (word_moves n value m w l none) [
      | inl e ↦ e
      | inr p ↦ absurd (less_apart room.rb room.wb depth (let a = room.ahead in omega (arith, some, a)) (let b = room.behind in let q = p.1 in omega (arith, b, q)) (at ∙ sym p.0))
    ]

    -- a bit that stays isn't flipped
    unmoved : (x b : Bit) (flips : Bit → Bool) → AreLoose d old new.values x flips → is_settling d syncs b ≡ false → new.values b ≡ old.values b → flips b ≡ false
    unmoved x b flips loose none stays = false_from_ne_true (flips b) (λ h. go (loose b h))
      where
        go : IsLoose d old new.values x b → ⊥
        go (Changes async ne) = ne (sym stays)
        go (Unsettled u free) = let z = left_zero d t lists.trees syncs lists.are_syncs old facts.settled b none in omega (arith, u, z)

    -- a reader takes one value under two sets of loose bits that differ in settled word bits alone
    pub flips_same : (x : Bit) → IsReader d tree k.write k.read x → (one another : Bit → Bool) → AreLoose d old new.values x one → AreLoose d old new.values x another
        → ((b : Bit) → (one b ≡ another b) ⊎ (IsWord d tree k.write k.read b × (is_settling d syncs b ≡ false)))
        → d.next (flipped one old.values) x ≡ d.next (flipped another old.values) x
    flips_same x reader one another loose1 loose2 apart = reader_same x reader (flipped one old.values) (flipped another old.values)
        (flips_agree d tree t syncs grays lists old new.values x k.read.clock one facts.settled reader.clock loose1)
        (flips_agree d tree t syncs grays lists old new.values x k.read.clock another facts.settled reader.clock loose2)
        (λ b no. elim (apart b) [
          | inl e ↦ flip_same one another old.values b e
          | inr p ↦ absurd (no p.0)
        ])
        (λ some c m is e. elim (apart m) [
          | inl h ↦ flip_same one another old.values m h
          | inr p ↦
              let b = below_depth room.rb (side_width d k.write - 1) in
              let stays = word_stays (room.rb % depth) c.value m (is.words (room.rb % depth) m e) b p.1 some refl in
              flipped_not one old.values m (unmoved x m one loose1 p.1 stays) ∙ sym (flipped_not another old.values m (unmoved x m another loose2 p.1 stays))
        ])
