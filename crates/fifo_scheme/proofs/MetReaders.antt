-- The readers of a FIFO, among the register bits that read its words.
use Rattle.std.proofs.Common.{◌≡◌, ◌≢◌, ◌==◌, ◌∙◌, ◌↔◌, eqb-true, sym, ap, ap₂, subst, refl, inl, inr, ◌⊎◌, arith, ℕ, zero, suc, ◌<◌, ◌≤◌}
use Rattle.std.proofs.Common.{Bool, true, false, not, Some, option_map, List, [], ◌∷◌, length, slice_get, Contains}
use Rattle.std.proofs.lemmas.Bool.{and_parts, both_ways, cases_lt}
use Rattle.std.proofs.lemmas.Option.{slice_get_within}
use Rattle.cdc_base.specs.declared.bit.Bit.{Bit}
use Rattle.cell_graph.specs.declared.cell.Node.{Node}
use Rattle.cell_graph.specs.declared.net.Net.{Net}
use Rattle.cell_graph.specs.Cofactor.{reads}
use Rattle.cell_graph.specs.Tree.{Tree}
use Rattle.cell_graph.specs.Unfolded.{tree_of}
use Rattle.cofactor.specs.Shown.{Shown as Rows}
use Rattle.domains.specs.declared.Domains.{Domains}
use Rattle.cdc_model.specs.declared.scheme.GrayReg.{GrayReg}
use Rattle.cdc_model.specs.Design.{are_async, differ}
use Rattle.cdc_model.specs.Nets.{design_of, is_register_bit, is_within, next_tree}
use Rattle.cdc_model.specs.Ordered.{is_before, IsAll, IsAscending}
use Rattle.cdc_model.specs.Schemes.{Sync}
use Rattle.cdc_model.proofs.Justify.{slice_in, in_slice}
use Rattle.cdc_model.proofs.Ordered.{never_before}
use Rattle.cdc_model.proofs.Synced.{unlisted}
use Rattle.fifo_laws.specs.Fifos.{IsReader, marks_of, one_bit_key}
use Rattle.fifo_laws.specs.Sides.{Side}
use Rattle.fifo_laws.specs.Tests.{HasEmptyTest}
use Rattle.fifo_laws.specs.Ways.{Passes}
use Rattle.fifo_laws.specs.Words.{IsWord}
use Rattle.fifo_ways.specs.declared.sought.Guard.{Guard}
use Rattle.fifo_ways.specs.declared.sought.Sought.{Sought}
use Rattle.fifo_ways.specs.Guards.{guard_terms, IsAsked}
use Rattle.fifo_ways.specs.Sought.{AreJudged, ShowsMarks}
use Rattle.fifo_scheme.specs.declared.index.Index.{Index}
use Rattle.fifo_scheme.specs.declared.index.Reading.{Reading}
use Rattle.fifo_scheme.specs.declared.judge.Reads.{Reads as Kept}
use Rattle.fifo_parts.specs.declared.pair.Pair.{Pair}
use Rattle.fifo_scheme.specs.Met.{ArePlacesOf, AreReadersAt, AreReadsOf, AreWords, bits_at, column, IsMet, IsOwnOn, kept_by, MayRead, roots_at}
use Rattle.fifo_scheme.proofs.MetPlaces.{from_bits, from_kept, in_bits_at, in_kept, kept_in_order, bits_ascend, next_root, next_there, roots_in_place, tree_there}
use Rattle.fifo_scheme.proofs.MetSides.{listed_register}

unequal : (m n : ℕ) → m ≢ n → (m == n) ≡ false
unequal m n h = go (m == n) refl
  where
    go : (v : Bool) → (m == n) ≡ v → v ≡ false
    go true e = absurd (h (eqb-true m n e))
    go false e = refl

some_at : (bs : List Bool) (k : ℕ) → k < length bs → (b : Bool) × (slice_get bs k ≡ Some b)
some_at [] k l = absurd (omega arith)
some_at (b ∷ bs) zero l = (b, refl)
some_at (b ∷ bs) (suc k) l = some_at bs k (omega arith)

-- a bit has one place
pub one_place : (rs : List Reading) → IsAscending (λ (r : Reading). one_bit_key r.bit) rs → (m n : ℕ) (r q : Reading) → slice_get rs m ≡ Some r → slice_get rs n ≡ Some q → r.bit ≡ q.bit → m ≡ n
one_place rs up m n r q at there same = go (cases_lt m n) (cases_lt n m)
  where
    never : (b c : Bit) → b ≡ c → is_before (one_bit_key b) (one_bit_key c) ≡ true → ⊥
    never b c e h = both_ways (is_before (one_bit_key b) (one_bit_key b)) (never_before (one_bit_key b)) (subst (λ (x : Bit). is_before (one_bit_key b) (one_bit_key x) ≡ true) (sym e) h)

    go : (m < n) ⊎ (n ≤ m) → (n < m) ⊎ (m ≤ n) → m ≡ n
    go (inl l) k = absurd (never r.bit q.bit same (up m n r q l at there))
    go (inr l) (inl k) = absurd (never q.bit r.bit (sym same) (up n m q r k there at))
    go (inr l) (inr k) = omega arith

pub tests_over : (net : Net) (domains : Domains) (write read : Side) (tests : List Guard) (ws words : List Bit) (rs roots : List Node) → ws ≡ words → rs ≡ roots
    → ((q : Guard) → IsAsked net.graph ws rs q → Contains tests q ↔ HasEmptyTest (design_of net domains) (next_tree net) write read (guard_terms net.graph q))
    → (q : Guard) → IsAsked net.graph words roots q → Contains tests q ↔ HasEmptyTest (design_of net domains) (next_tree net) write read (guard_terms net.graph q)
tests_over net domains write read tests ws words rs roots e f h =
    subst (λ (bs : List Bit). (q : Guard) → IsAsked net.graph bs roots q → Contains tests q ↔ HasEmptyTest (design_of net domains) (next_tree net) write read (guard_terms net.graph q)) e
    (subst (λ (ms : List Node). (q : Guard) → IsAsked net.graph ws ms q → Contains tests q ↔ HasEmptyTest (design_of net domains) (next_tree net) write read (guard_terms net.graph q)) f h)

module _ (net : Net) (domains : Domains) (table : Rows) (syncs : List Sync) (grays : List GrayReg) (i : Index) (p : Pair) (write read : Side) (met : IsMet net domains table syncs grays i p write read) where
  -- the clock of the side that reads
  at_read : (x : Bit) → (design_of net domains).clock x ≡ Some p.read.side.now.clock → (design_of net domains).clock x ≡ Some read.clock
  at_read x e = e ∙ ap Some (sym met.pair.read_tells.side.clock)

  register_at : (n : ℕ) (r : Reading) → slice_get i.readings n ≡ Some r → is_register_bit net r.bit ≡ true
  register_at n r at = unlisted net met.shown.is_net r.bit r.bit (met.index.readings.only r (slice_in i.readings n r at))

  -- a word is of another group than what is on the clock of the side that reads
  other_group : (b x : Bit) → IsWord (design_of net domains) (next_tree net) write read b → (design_of net domains).clock x ≡ Some read.clock
      → are_async (design_of net domains) b x ≡ true
  other_group b x word on =
      let d = design_of net domains in
      ap₂ differ (ap (option_map d.group_of) word.3.clock) (ap (option_map d.group_of) on)
      ∙ ap not (unequal (d.group_of write.clock) (d.group_of read.clock) met.apart)

  -- the place of a register bit that reads a word
  pub reader_place : (x b : Bit) → is_register_bit net x ≡ true → (design_of net domains).clock x ≡ Some read.clock
      → IsWord (design_of net domains) (next_tree net) write read b → reads [] (next_tree net x.sig) x.at b ≡ true
      → (n : ℕ) × (r : Reading) × (slice_get i.readings n ≡ Some r) × (r.bit ≡ x) × Contains r.reads b
  reader_place x b register on word h =
      let within = (and_parts _ (is_within net b) word.3.register).1 in
      let r = met.index.readings.all x b (listed_register net domains x register) within (other_group b x word on) h in
      (r.1.0, r.0, in_slice i.readings r.0 r.1, r.2, r.3)

  -- the bits at the readers' places are the readers
  pub all_readers : (places : List ℕ) → AreReadersAt net domains i write read places → IsAll (IsReader (design_of net domains) (next_tree net) write read) one_bit_key (bits_at i.readings places)
  all_readers places are = record {
    all = λ x h.
        let k = reader_place x h.reads.0 h.register h.clock h.reads.1 h.reads.2 in
        subst (Contains (bits_at i.readings places)) k.3
        (in_bits_at i.readings places k.0 k.1 (are.all k.0 k.1 k.2 (subst (IsReader (design_of net domains) (next_tree net) write read) (sym k.3) h)) k.2);
    only = λ x h.
        let k = from_bits i.readings places x h in
        let r = are.only k.0 k.2 in
        let e : Some r.0 ≡ Some k.1 = sym r.1 ∙ k.3 in
        let same : r.0 ≡ k.1 = cc in
        subst (IsReader (design_of net domains) (next_tree net) write read) (ap (λ (q : Reading). q.bit) same ∙ k.4) r.2;
    ordered = bits_ascend i.readings met.index.readings.ordered places are.ascend;
  }

  module _ (words : List Bit) (are_words : AreWords net domains write read words) (found : Kept) (are_reads : AreReadsOf net domains i write read found)
      (candidates : List ℕ) (are : ArePlacesOf i (MayRead net domains p.read.side.now.clock words) candidates) where
    pub registers : (n : ℕ) → Contains candidates n → (r : Reading) × (slice_get i.readings n ≡ Some r) × (is_register_bit net r.bit ≡ true)
    registers n h = let r = are.only n h in (r.0, r.1, register_at n r.0 r.1)

    pub bit_registers : (b : Bit) → Contains (bits_at i.readings candidates) b → is_register_bit net b ≡ true
    bit_registers b h = let k = from_bits i.readings candidates b h in subst (λ (x : Bit). is_register_bit net x ≡ true) k.4 (register_at k.0 k.1 k.3)

    pub shows_marks : (roots : List Node) (tests : List Guard) → ((q : Guard) → IsAsked net.graph words roots q → Contains tests q ↔ HasEmptyTest (design_of net domains) (next_tree net) write read (guard_terms net.graph q))
        → ShowsMarks net.graph roots (record { words = words; reads = found.nodes; tests = tests }) (marks_of (design_of net domains) (next_tree net) write read)
    shows_marks roots tests h = record {
      words = are_words;
      reads = λ n is below. ((λ k. let kept = are_reads.kept n k in (column net kept.entry.words kept.value, kept.reads)), λ k. are_reads.all n is k);
      tests = h;
    }

    pub shows_sought : (roots : List Node) (sought : Sought) → sought.words ≡ words → sought.reads ≡ found.nodes
        → ((q : Guard) → IsAsked net.graph words roots q → Contains sought.tests q ↔ HasEmptyTest (design_of net domains) (next_tree net) write read (guard_terms net.graph q))
        → ShowsMarks net.graph roots sought (marks_of (design_of net domains) (next_tree net) write read)
    shows_sought roots sought e f h = subst (λ (s : Sought). ShowsMarks net.graph roots s (marks_of (design_of net domains) (next_tree net) write read))
        (λ j. let s : Sought = record { words = sym e j; reads = sym f j; tests = sought.tests } in s) (shows_marks roots sought.tests h)

    abbrev Ends : Node → Type 0
    Ends n = Passes (marks_of (design_of net domains) (next_tree net) write read) false (tree_of net.graph n.cell) n.at

    -- the answer of a register bit's root is that of the bit
    answered : (answers : List Bool) → AreJudged Ends (roots_at net (bits_at i.readings candidates)) answers → (k n : ℕ) (r : Reading) → slice_get candidates k ≡ Some n → slice_get i.readings n ≡ Some r
        → (b : Bool) → slice_get answers k ≡ Some b → (b ≡ true) ↔ Passes (marks_of (design_of net domains) (next_tree net) write read) false (next_tree net r.bit.sig) r.bit.at
    answered answers judged k n r at there b answer =
        let c = next_there net r.bit (register_at n r there) in
        let root : Node = record { cell = c.0; at = r.bit.at } in
        subst (λ (t : Tree). (b ≡ true) ↔ Passes (marks_of (design_of net domains) (next_tree net) write read) false t r.bit.at) (sym (tree_there net r.bit c.0 c.1))
        (judged.1 k root b ((roots_in_place net i.readings candidates registers).1 k n r root at there (next_root net r.bit c.0 c.1)) answer)

    pub readers_are : (answers : List Bool) → AreJudged Ends (roots_at net (bits_at i.readings candidates)) answers → AreReadersAt net domains i write read (kept_by candidates answers)
    readers_are answers judged = record {
      ascend = kept_in_order candidates answers are.ascend;
      only = λ n h.
          let k = from_kept candidates answers n h in
          let r = are.only n (slice_in candidates k.0 n k.1) in
          let b = r.2.1 in (
            r.0,
            r.1,
            record {
              register = register_at n r.0 r.1;
              clock = at_read r.0.bit r.2.0.clock;
              own = r.2.0.own;
              reads = (b.0, (are_words b.0).0 b.1, met.index.readings.reads_are r.0 b.0 (slice_in i.readings n r.0 r.1) b.2);
              passes = (answered answers judged k.0 n r.0 k.1 r.1 true k.2).0 refl;
            },
          );
      all = λ n r there h.
          let b = h.reads in
          let place = reader_place r.bit b.0 h.register h.clock b.1 b.2 in
          let same = one_place i.readings met.index.readings.ordered place.0 n place.1 r place.2 there place.3 in
          let e : Some place.1 ≡ Some r = sym place.2 ∙ ap (slice_get i.readings) same ∙ there in
          let f : place.1 ≡ r = cc in
          let own : IsOwnOn net domains p.read.side.now.clock r.bit = record { clock = h.clock ∙ ap Some met.pair.read_tells.side.clock; own = h.own } in
          let c = are.all n r there (own, (b.0, (are_words b.0).1 b.1, subst (λ (q : Reading). Contains q.reads b.0) f place.4)) in
          let at = in_slice candidates n c in
          let l = (roots_in_place net i.readings candidates registers).0 in
          let m = judged.0 in
          let answer = some_at answers c.0 (let k = slice_get_within candidates c.0 n at in omega arith) in
          in_kept candidates answers c.0 n at (answer.1 ∙ ap Some ((answered answers judged c.0 n r at there answer.0 answer.1).1 h.passes));
    }
