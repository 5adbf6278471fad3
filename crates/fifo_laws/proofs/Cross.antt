-- A FIFO's crossings are crossings of the design, from one clock's group to another's, and none into a plain copy.
use Rattle.std.proofs.Common.{◌≡◌, ◌≢◌, ℕ, ◌+◌, ◌-◌, ◌==◌, nat_lt, Bool, true, false, not, Option, Some, None, option_map, List, Contains, ◌⊎◌, inl, inr, ap, ap₂, subst, ◌∙◌, eqb-true}
use Rattle.std.specs.List.{list_any}
use Rattle.std.proofs.lemmas.Bool.{and_parts, false_from_ne_true}
use Rattle.std.proofs.lemmas.List.Folds.{Any-from_list_any}
use Rattle.cdc_base.specs.declared.bit.Bit.{Bit}
use Rattle.cell_graph.specs.Reading.{bit_eq}
use Rattle.cell_graph.specs.Tree.{Tree, Var, Const, Not, And, Or, Xor, Add, Sub, Eq, Lt, Shl, Shr, Mux, Concat, Slice, Extend, ReduceAnd, ReduceOr, ReduceXor, width}
use Rattle.cell_graph.specs.Origin.{const_of}
use Rattle.cell_graph.proofs.Bits.{bit_eq-true}
use Rattle.cdc_model.specs.declared.scheme.GrayReg.{GrayReg}
use Rattle.cdc_model.specs.Design.{Design, are_async, differ}
use Rattle.cdc_model.specs.Schemes.{Trees, IsCrossing, Sync}
use Rattle.cdc_model.proofs.Justify.{in_slice}
use Rattle.fifo_laws.specs.Fifos.{Fifo, IsFifo, AreFifos, IsFrom, IsReader, is_crossing_between, is_fifo_crossing}
use Rattle.fifo_laws.specs.Laws.{AreLists}
use Rattle.fifo_laws.specs.Words.{Column, IsColumn, IsReadOf, IsWordBit}
use Rattle.fifo_laws.specs.Ways.{If, MovedUp, MovedDown, Leads}

-- ---- where ways lead

module _ (P : Tree → ℕ → Type 0) where
  abbrev Somewhere : Type 0
  Somewhere = (t : Tree) × (i : ℕ) × P t i

  by_if : {Q R : Type 0} (v : Bool) → If v Q R → (Q → Somewhere) → (R → Somewhere) → Somewhere
  by_if true h f g = f h
  by_if false h f g = g h

  by_up : {Q : Type 0} {R : ℕ → Type 0} (o : Option ℕ) (i w : ℕ) → MovedUp o i w Q ⊥ R → (Q → Somewhere) → ((j : ℕ) → R j → Somewhere) → Somewhere
  by_up None i w h f g = f h
  by_up (Some n) i w h f g = by_if (nat_lt i n) h (λ e. absurd e) (λ k. by_if (nat_lt (i - n) w) k (λ r. g (i - n) r) (λ e. absurd e))

  by_down : {Q : Type 0} {R : ℕ → Type 0} (o : Option ℕ) (i w : ℕ) → MovedDown o i w Q ⊥ R → (Q → Somewhere) → ((j : ℕ) → R j → Somewhere) → Somewhere
  by_down None i w h f g = f h
  by_down (Some n) i w h f g = by_if (nat_lt (i + n) w) h (λ r. g (i + n) r) (λ e. absurd e)

  either : {Q R : Type 0} → Q ⊎ R → (Q → Somewhere) → (R → Somewhere) → Somewhere
  either (inl h) f g = f h
  either (inr h) f g = g h

  -- a way that leads to such a node shows one
  pub leads_to : (t : Tree) (i : ℕ) → Leads P t i → Somewhere
  leads_to (Var sig w) i h = absurd h
  leads_to (Const w v) i h = absurd h
  leads_to (Not a) i h = leads_to a i h
  leads_to (And a b) i h = either h (leads_to a i) (leads_to b i)
  leads_to (Or a b) i h = either h (leads_to a i) (leads_to b i)
  leads_to (Xor a b) i h = either h (leads_to a i) (leads_to b i)
  leads_to (Add a b) i h = either h.2 (leads_to a h.0) (leads_to b h.0)
  leads_to (Sub a b) i h = either h.2 (leads_to a h.0) (leads_to b h.0)
  leads_to (Eq a b) i h = either h.2 (leads_to a h.0) (leads_to b h.0)
  leads_to (Lt a b) i h = either h.2 (leads_to a h.0) (leads_to b h.0)
  leads_to (Shl a by) i h = by_up (const_of by) i (width a) h (λ k. either k (λ l. leads_to a l.0 l.2) (λ l. leads_to by l.0 l.2)) (λ j k. leads_to a j k)
  leads_to (Shr a by) i h = by_down (const_of by) i (width a) h (λ k. either k (λ l. leads_to a l.0 l.2) (λ l. leads_to by l.0 l.2)) (λ j k. leads_to a j k)
  leads_to (Mux c x y) i h = either h (λ p. (Mux c x y, i, p)) (λ k. either k (leads_to c 0) (λ l. either l (leads_to x i) (leads_to y i)))
  leads_to (Concat high low) i h = by_if (nat_lt i (width low)) h (leads_to low i) (leads_to high (i - width low))
  leads_to (Slice a at w) i h = leads_to a (at + i) h
  leads_to (Extend a w) i h = by_if (nat_lt i (width a)) h (leads_to a i) (λ e. absurd e)
  leads_to (ReduceAnd a) i h = leads_to a h.0 h.2
  leads_to (ReduceOr a) i h = leads_to a h.0 h.2
  leads_to (ReduceXor a) i h = leads_to a h.0 h.2

-- ---- crossings

module _ (d : Design) (tree : ℕ → Tree) (t : Trees) (syncs : List Sync) (grays : List GrayReg) (lists : AreLists d tree t syncs grays) where
  -- a listed column is one
  pub is_column : (f : Fifo) (fifo : IsFifo d tree syncs grays f) (c : Column) → Contains f.columns c → IsColumn d tree fifo.write fifo.read c
  is_column f fifo c i = let p = fifo.columns.only c i in
      (leads_to (λ t i. IsReadOf d tree fifo.write fifo.read c (Some (t, i))) (tree p.0.sig) p.0.at p.2).2.0

  -- and its bits are word bits
  pub is_word_bit : (f : Fifo) (fifo : IsFifo d tree syncs grays f) (c : Column) → Contains f.columns c → (b : Bit) → (i : Contains c.words b) → IsWordBit d tree fifo.write fifo.read i.0 c.value b
  is_word_bit f fifo c j b i = (is_column f fifo c j).words i.0 b (in_slice c.words b i)

  no_copy : {A : Type 0} (b : Bit) (o : Option Bit) → o ≡ None → o ≡ Some b → A
  no_copy b o e h = cc

  -- a crossing from a column to a reader
  pub crosses : (f : Fifo) → IsFifo d tree syncs grays f → (b x : Bit) → IsFrom tree f.columns f.readers (record { from = b; to = x }) → IsCrossing d t b x × (d.copied x ≢ Some b)
  crosses f fifo b x from = (
    record { register = reader.register; reads = lists.reads x b reader.register ∙ from.reads; async = async },
    λ e. no_copy b (d.copied x) reader.own e,
  )
    where
      reader : IsReader d tree fifo.write fifo.read x
      reader = fifo.readers.only x from.to

      word_clock : d.clock b ≡ Some fifo.write.clock
      word_clock = (is_word_bit f fifo from.from.0 from.from.1 b from.from.2).clock

      async : are_async d b x ≡ true
      async = ap₂ (λ o p. differ (option_map d.group_of o) (option_map d.group_of p)) word_clock reader.clock
          ∙ ap not (false_from_ne_true (d.group_of fifo.write.clock == d.group_of fifo.read.clock) (λ h. fifo.apart (eqb-true (d.group_of fifo.write.clock) (d.group_of fifo.read.clock) h)))

  -- each crossing of the FIFOs is one of a FIFO
  pub crossing_of : (fifos : List Fifo) → AreFifos d tree syncs grays fifos → (b x : Bit) → is_fifo_crossing fifos b x ≡ true
      → (f : Fifo) × IsFifo d tree syncs grays f × Contains fifos f × IsFrom tree f.columns f.readers (record { from = b; to = x })
  crossing_of fifos are b x h =
      let (k, f, l, at, p) = Any-from_list_any (λ (f : Fifo). list_any (is_crossing_between b x) f.crossings) fifos h in
      let (j, c, m, in_f, q) = Any-from_list_any (is_crossing_between b x) f.crossings p in
      let e = and_parts (bit_eq c.from b) (bit_eq c.to x) q in
      let fifo : IsFifo d tree syncs grays f = are f (k, l, at) in (
        f,
        fifo,
        (k, l, at),
        subst (λ (z : Bit). IsFrom tree f.columns f.readers (record { from = b; to = z })) (bit_eq-true c.to x e.1)
            (subst (λ (z : Bit). IsFrom tree f.columns f.readers (record { from = z; to = c.to })) (bit_eq-true c.from b e.0) (fifo.crossings.only c (j, m, in_f))),
      )

  pub all_cross : (fifos : List Fifo) → AreFifos d tree syncs grays fifos → (b x : Bit) → is_fifo_crossing fifos b x ≡ true → IsCrossing d t b x × (d.copied x ≢ Some b)
  all_cross fifos are b x h = let p = crossing_of fifos are b x h in crosses p.0 p.1 b x p.3
