-- The sides to which places, counts and reads lead.
use Rattle.std.proofs.Common.{◌≡◌, ◌∙◌, ◌↔◌, sym, subst, ℕ, Some, None, List, [], slice_get, Contains}
use Rattle.cdc_base.specs.declared.bit.Bit.{Bit}
use Rattle.cell_graph.specs.declared.net.Net.{Net}
use Rattle.cdc_model.proofs.Ascending.{nothing_in}
use Rattle.cdc_model.proofs.Justify.{slice_in, in_slice}
use Rattle.fifo_nodes.specs.declared.term.Term.{Term}
use Rattle.fifo_scheme.specs.declared.finder.Key.{Key}
use Rattle.fifo_scheme.specs.declared.index.Index.{Index}
use Rattle.fifo_parts.specs.declared.reads.Read.{Read}
use Rattle.fifo_parts.specs.declared.side.Side.{Side}
use Rattle.fifo_parts.specs.declared.words.Taking.{Taking}
use Rattle.fifo_parts.specs.Brought.{places_at}
use Rattle.fifo_scheme.specs.Candidates.{AreBy, AreLookedUp, IsAt, IsReadTo, IsWordTo, OfOne, WordSays, taking_found}
use Rattle.fifo_parts.specs.Words.{lowest, SaysBit, SaysLowest}

-- places of sides lead to the sides with the counters
pub at_places : (i : Index) → AreLookedUp i → (wb rb : ℕ) (writes reads : List ℕ) → writes ≡ places_at i.sides_by_count (lowest wb) → reads ≡ places_at i.sides_by_count (lowest rb)
    → (k : Key) → OfOne (λ m. OfOne (IsAt i.sides.items m) reads) writes k ↔ AreBy i.sides.items wb rb k
at_places i by wb rb writes reads of_writes of_reads k = (
  λ (m, at_m, (n, at_n, (write, read, at_write, at_read, key))).
      let w = (by wb m).0 (subst (λ (ns : List ℕ). Contains ns m) of_writes at_m) in
      let r = (by rb n).0 (subst (λ (ns : List ℕ). Contains ns n) of_reads at_n) in
      let e : w.0 ≡ write = one w.0 write (sym w.1 ∙ at_write) in
      let f : r.0 ≡ read = one r.0 read (sym r.1 ∙ at_read) in
      (write, read, slice_in i.sides.items m write at_write, slice_in i.sides.items n read at_read, subst (λ (s : Side). s.reg.count ≡ wb) e w.2, subst (λ (s : Side). s.reg.count ≡ rb) f r.2, key),
  λ (write, read, in_write, in_read, is_wb, is_rb, key). (
    in_write.0,
    subst (λ (ns : List ℕ). Contains ns in_write.0) (sym of_writes) ((by wb in_write.0).1 (write, in_slice i.sides.items write in_write, is_wb)),
    (
      in_read.0,
      subst (λ (ns : List ℕ). Contains ns in_read.0) (sym of_reads) ((by rb in_read.0).1 (read, in_slice i.sides.items read in_read, is_rb)),
      (write, read, in_slice i.sides.items write in_write, in_slice i.sides.items read in_read, key),
    ),
  ),
)
  where
    one : (a b : Side) → Some a ≡ Some b → a ≡ b
    one a b e = cc

-- what the terms under which a register bit takes its node say
pub word_says : (net : Net) (i : Index) (b : Bit) (t : Taking) (counts : List ℕ) → taking_found i b ≡ Some t → ((sig : ℕ) → Contains counts sig ↔ ((u : Term) × Contains t.taken.under u × SaysBit net sig u))
    → (wb : ℕ) → Contains counts wb ↔ WordSays net i b wb
word_says net i b t counts found said wb = (λ h. (t, found, (said wb).0 h), λ (u, found', says). (said wb).1 (subst (SaysLowest net wb) (same u t (sym found' ∙ found)) says))
  where
    same : (a b : Taking) → Some a ≡ Some b → a ≡ b
    same a b e = cc

pub word_says_none : (net : Net) (i : Index) (b : Bit) → taking_found i b ≡ None → (wb : ℕ) → Contains [] wb ↔ WordSays net i b wb
word_says_none net i b none wb = (λ h. absurd (nothing_in wb h), λ h. never h.0 (sym none ∙ h.1))
  where
    never : {A : Type 0} (t : Taking) → None ≡ Some t → A
    never t e = cc

-- by the counts that a word says, or by the first word of a read
pub by_counts : (net : Net) (i : Index) (rb : ℕ) (word : Bit) (counts : List ℕ) → ((wb : ℕ) → Contains counts wb ↔ WordSays net i word wb)
    → (k : Key) → OfOne (λ wb k. AreBy i.sides.items wb rb k) counts k ↔ IsWordTo net i rb word k
by_counts net i rb word counts said k = (λ h. (h.0, (said h.0).0 h.1, h.2), λ h. (h.0, (said h.0).1 h.1, h.2))

pub by_first : (net : Net) (i : Index) (r : Read) (word : Bit) → slice_get r.words 0 ≡ Some word → (k : Key) → IsWordTo net i r.count word k ↔ IsReadTo net i r k
by_first net i r word first k = (λ h. (word, first, h), λ (other, at, h). subst (λ (b : Bit). IsWordTo net i r.count b k) (one other word (sym at ∙ first)) h)
  where
    one : (a b : Bit) → Some a ≡ Some b → a ≡ b
    one a b e = cc

pub no_first : (net : Net) (i : Index) (r : Read) → slice_get r.words 0 ≡ None → (k : Key) → IsReadTo net i r k → ⊥
no_first net i r none k (word, at, h) = never (sym none ∙ at)
  where
    never : None ≡ Some word → ⊥
    never e = cc
