-- What a FIFO is doesn't rest on a design's next values.
use Rattle.std.proofs.Common.{ℕ, suc, ◌+◌, ◌-◌, Bool, true, false, nat_lt, Option, None, Some, List, [], ◌∷◌, ◌⊎◌, inl, inr}
use Rattle.cdc_base.specs.declared.bit.Bit.{Bit}
use Rattle.cell_graph.specs.Origin.{TreeBit, const_of, origin}
use Rattle.cell_graph.specs.Reading.{Reading}
use Rattle.cell_graph.specs.Tree.{Tree, Var, Const, Not, And, Or, Xor, Add, Sub, Eq, Lt, Shl, Shr, Mux, Concat, Slice, Extend, ReduceAnd, ReduceOr, ReduceXor, width}
use Rattle.cdc_model.specs.declared.scheme.GrayReg.{GrayReg}
use Rattle.cdc_model.specs.Design.{Design}
use Rattle.cdc_model.specs.Ordered.{IsAll}
use Rattle.cdc_model.specs.Schemes.{Sync}
use Rattle.fifo_terms.specs.Shows.{full_apart, empty_apart}
use Rattle.fifo_terms.specs.Terms.{Term, terms}
use Rattle.fifo_laws.specs.Fifos.{Fifo, IsFifo, IsPassed, IsReader, marks_of}
use Rattle.fifo_laws.specs.Sides.{IsSide, Side}
use Rattle.fifo_laws.specs.Tests.{IsEmptyTest, IsFlag, IsFullTest}
use Rattle.fifo_laws.specs.Ways.{If, Into, Leads, Marks, MovedDown, MovedUp, Passes}
use Rattle.fifo_laws.specs.Words.{Chooses, Column, IsColumn, IsReadOf, IsWord, IsWordBit}

-- ---- ways

if_same : {P Q R S : Type 0} (v : Bool) → (P → R) → (Q → S) → If v P Q → If v R S
if_same true f g h = f h
if_same false f g h = g h

up_same : {P R : Type 0} {F G : ℕ → Type 0} (N : Type 0) (o : Option ℕ) (i w : ℕ) → (P → R) → ((j : ℕ) → F j → G j)
    → MovedUp o i w P N F → MovedUp o i w R N G
up_same N None i w f g h = f h
up_same N (Some n) i w f g h = if_same (nat_lt i n) (λ e. e) (if_same (nat_lt (i - n) w) (g (i - n)) (λ e. e)) h

down_same : {P R : Type 0} {F G : ℕ → Type 0} (N : Type 0) (o : Option ℕ) (i w : ℕ) → (P → R) → ((j : ℕ) → F j → G j)
    → MovedDown o i w P N F → MovedDown o i w R N G
down_same N None i w f g h = f h
down_same N (Some n) i w f g h = if_same (nat_lt (i + n) w) (g (i + n)) (λ e. e) h

either_same : {P Q R S : Type 0} → (P → R) → (Q → S) → P ⊎ Q → R ⊎ S
either_same f g (inl h) = inl (f h)
either_same f g (inr h) = inr (g h)

into_same : {P Q R A B C : Type 0} → (P → A) → (Q → B) → (R → C) → Into P Q R → Into A B C
into_same f g k (inl h) = inl (f h.0, g h.1)
into_same f g k (inr h) = inr (k h)

-- ways pass what they passed, where there are no more words and no fewer reads and tests
module _ (m n : Marks) (word : (b : Bit) → n.word b → m.word b) (read : (t : Tree) (i : ℕ) → m.read t i → n.read t i)
    (test : (ts : List Term) → m.test ts → n.test ts) where
  passes_same : (g : Bool) (t : Tree) (i : ℕ) → Passes m g t i → Passes n g t i
  passes_same g (Var sig w) i h = λ k. h (word (record { sig = sig; at = i }) k)
  passes_same g (Const w v) i h = h
  passes_same g (Not a) i h = passes_same g a i h
  passes_same g (And a b) i h = (
    into_same (test (terms b i true)) (passes_same true a i) (passes_same g a i) h.0,
    into_same (test (terms a i true)) (passes_same true b i) (passes_same g b i) h.1,
  )
  passes_same g (Or a b) i h = (
    into_same (test (terms b i false)) (passes_same true a i) (passes_same g a i) h.0,
    into_same (test (terms a i false)) (passes_same true b i) (passes_same g b i) h.1,
  )
  passes_same g (Xor a b) i h = (passes_same g a i h.0, passes_same g b i h.1)
  passes_same g (Add a b) i h = λ j l. (passes_same g a j (h j l).0, passes_same g b j (h j l).1)
  passes_same g (Sub a b) i h = λ j l. (passes_same g a j (h j l).0, passes_same g b j (h j l).1)
  passes_same g (Eq a b) i h = λ j l. (passes_same g a j (h j l).0, passes_same g b j (h j l).1)
  passes_same g (Lt a b) i h = λ j l. (passes_same g a j (h j l).0, passes_same g b j (h j l).1)
  passes_same g (Shl a by) i h =
      up_same (Unit {0}) (const_of by) i (width a)
      (λ k. (λ j l. passes_same g a j (k.0 j l), λ j l. passes_same g by j (k.1 j l))) (λ j. passes_same g a j) h
  passes_same g (Shr a by) i h =
      down_same (Unit {0}) (const_of by) i (width a)
      (λ k. (λ j l. passes_same g a j (k.0 j l), λ j l. passes_same g by j (k.1 j l))) (λ j. passes_same g a j) h
  passes_same g (Mux c x y) i h = elim h [
    | inl k ↦ inl (k.0, read (Mux c x y) i k.1)
    | inr k ↦ inr (
      passes_same g c 0 k.0,
      into_same (test (terms c 0 true)) (passes_same true x i) (passes_same g x i) k.1,
      into_same (test (terms c 0 false)) (passes_same true y i) (passes_same g y i) k.2,
    )
  ]
  passes_same g (Concat high low) i h = if_same (nat_lt i (width low)) (passes_same g low i) (passes_same g high (i - width low)) h
  passes_same g (Slice a at w) i h = passes_same g a (at + i) h
  passes_same g (Extend a w) i h = if_same (nat_lt i (width a)) (passes_same g a i) (λ e. e) h
  passes_same g (ReduceAnd a) i h = λ j l. passes_same g a j (h j l)
  passes_same g (ReduceOr a) i h = λ j l. passes_same g a j (h j l)
  passes_same g (ReduceXor a) i h = λ j l. passes_same g a j (h j l)

-- and they lead where they led
module _ (P Q : Tree → ℕ → Type 0) (to : (t : Tree) (i : ℕ) → P t i → Q t i) where
  leads_same : (t : Tree) (i : ℕ) → Leads P t i → Leads Q t i
  leads_same (Var sig w) i h = h
  leads_same (Const w v) i h = h
  leads_same (Not a) i h = leads_same a i h
  leads_same (And a b) i h = either_same (leads_same a i) (leads_same b i) h
  leads_same (Or a b) i h = either_same (leads_same a i) (leads_same b i) h
  leads_same (Xor a b) i h = either_same (leads_same a i) (leads_same b i) h
  leads_same (Add a b) i h = (h.0, h.1, either_same (leads_same a h.0) (leads_same b h.0) h.2)
  leads_same (Sub a b) i h = (h.0, h.1, either_same (leads_same a h.0) (leads_same b h.0) h.2)
  leads_same (Eq a b) i h = (h.0, h.1, either_same (leads_same a h.0) (leads_same b h.0) h.2)
  leads_same (Lt a b) i h = (h.0, h.1, either_same (leads_same a h.0) (leads_same b h.0) h.2)
  leads_same (Shl a by) i h =
      up_same ⊥ (const_of by) i (width a)
      (either_same (λ k. (k.0, k.1, leads_same a k.0 k.2)) (λ k. (k.0, k.1, leads_same by k.0 k.2))) (λ j. leads_same a j) h
  leads_same (Shr a by) i h =
      down_same ⊥ (const_of by) i (width a)
      (either_same (λ k. (k.0, k.1, leads_same a k.0 k.2)) (λ k. (k.0, k.1, leads_same by k.0 k.2))) (λ j. leads_same a j) h
  leads_same (Mux c x y) i h = either_same (to (Mux c x y) i) (either_same (leads_same c 0) (either_same (leads_same x i) (leads_same y i))) h
  leads_same (Concat high low) i h = if_same (nat_lt i (width low)) (leads_same low i) (leads_same high (i - width low)) h
  leads_same (Slice a at w) i h = leads_same a (at + i) h
  leads_same (Extend a w) i h = if_same (nat_lt i (width a)) (leads_same a i) (λ e. e) h
  leads_same (ReduceAnd a) i h = (h.0, h.1, leads_same a h.0 h.2)
  leads_same (ReduceOr a) i h = (h.0, h.1, leads_same a h.0 h.2)
  leads_same (ReduceXor a) i h = (h.0, h.1, leads_same a h.0 h.2)

-- ---- FIFOs

all_of : {A : Type 0} {P Q : A → Type 0} {key : A → List ℕ} {xs : List A}
    → ((x : A) → P x → Q x) → ((x : A) → Q x → P x) → IsAll P key xs → IsAll Q key xs
all_of to from h = record { all = λ x q. h.all x (from x q); only = λ x i. to x (h.only x i); ordered = h.ordered }

module _ (d : Design) (tree : ℕ → Tree) where
  abbrev Next : Type 0
  Next = Reading → Bit → Bool

  -- the design with these next values
  abbrev with_next : Next → Design
  with_next n = record d { next = n }

  side : (n m : Next) (syncs : List Sync) (grays : List GrayReg) (to : ℕ) (s : Side)
      → IsSide (with_next n) tree syncs grays to s → IsSide (with_next m) tree syncs grays to s
  side n m syncs grays to s h = record {
    listed = h.listed;
    clock = h.clock;
    counts = h.counts;
    over = h.over;
    one_length = h.one_length;
    start = h.start;
  }

  flag : (n m : Next) (near far : Side) (apart : ℕ → ℕ → Bool) (b : Bit) (u : Bool)
      → IsFlag (with_next n) tree near far apart b u → IsFlag (with_next m) tree near far apart b u
  flag n m near far apart b u h = record { register = h.register; clock = h.clock; own = h.own; shows = h.shows }

  module _ (write read : Side) where
    full_test : (n m : Next) (t : Term) → IsFullTest (with_next n) tree write read t → IsFullTest (with_next m) tree write read t
    full_test n m t (inl h) = inl h
    full_test n m t (inr h) = inr (h.0, h.1, h.2, flag n m write read full_apart h.0 h.1 h.3)

    empty_test : (n m : Next) (t : Term) → IsEmptyTest (with_next n) tree write read t → IsEmptyTest (with_next m) tree write read t
    empty_test n m t (inl h) = inl h
    empty_test n m t (inr h) = inr (h.0, h.1, h.2, (flag n m read write empty_apart h.0 h.1 h.3.0, h.3.1))

    word_bit : (n m : Next) (k : ℕ) (value : TreeBit) (b : Bit) → IsWordBit (with_next n) tree write read k value b
        → IsWordBit (with_next m) tree write read k value b
    word_bit n m k value b h = record {
      register = h.register;
      clock = h.clock;
      takes = h.takes;
      index = h.index;
      others = h.others;
      guarded = (h.guarded.0, h.guarded.1, h.guarded.2, full_test n m h.guarded.0 h.guarded.3);
    }

    is_word : (n m : Next) (b : Bit) → IsWord (with_next n) tree write read b → IsWord (with_next m) tree write read b
    is_word n m b h = (h.0, h.1, h.2, word_bit n m h.0 h.1 b h.3)

    column : (n m : Next) (c : Column) → IsColumn (with_next n) tree write read c → IsColumn (with_next m) tree write read c
    column n m c h = record { depth = h.depth; words = λ k b e. word_bit n m k c.value b (h.words k b e) }

    chooses : (n m : Next) (k : ℕ) (ws : List Bit) (x : TreeBit) → Chooses (with_next n) read k ws x → Chooses (with_next m) read k ws x
    chooses n m k [] x h = h
    chooses n m k (b ∷ []) x h = h
    chooses n m k (b ∷ e ∷ ws) x h = (h.0, h.1, h.2, h.3, h.4, h.5, h.6, chooses n m (suc k) (e ∷ ws) (origin h.2 h.3) h.7)

    read_of : (n m : Next) (c : Column) (x : TreeBit) → IsReadOf (with_next n) tree write read c x → IsReadOf (with_next m) tree write read c x
    read_of n m c x h = (column n m c h.0, chooses n m 0 c.words x h.1)

    reader : (n m : Next) (x : Bit) → IsReader (with_next n) tree write read x → IsReader (with_next m) tree write read x
    reader n m x h = record {
      register = h.register;
      clock = h.clock;
      own = h.own;
      reads = (h.reads.0, is_word n m h.reads.0 h.reads.1, h.reads.2);
      passes = passes_same (marks_of (with_next n) tree write read) (marks_of (with_next m) tree write read) (is_word m n)
          (λ t i k. (k.0, read_of n m k.0 (Some (t, i)) k.1)) (λ ts k. (k.0, k.1, empty_test n m k.0 k.2)) false (tree x.sig) x.at h.passes;
    }

    passed : (n m : Next) (c : Column) → IsPassed (with_next n) tree write read c → IsPassed (with_next m) tree write read c
    passed n m c h = (
      h.0,
      reader n m h.0 h.1,
      leads_same (λ t i. IsReadOf (with_next n) tree write read c (Some (t, i))) (λ t i. IsReadOf (with_next m) tree write read c (Some (t, i)))
          (λ t i. read_of n m c (Some (t, i))) (tree h.0.sig) h.0.at h.2,
    )

  pub fifo_same : (n m : Next) (syncs : List Sync) (grays : List GrayReg) (f : Fifo)
      → IsFifo (with_next n) tree syncs grays f → IsFifo (with_next m) tree syncs grays f
  fifo_same n m syncs grays f h = record {
    write = h.write;
    read = h.read;
    named = h.named;
    writes = side n m syncs grays h.read.clock h.write h.writes;
    reads = side n m syncs grays h.write.clock h.read h.reads;
    apart = h.apart;
    settles = h.settles;
    wide = h.wide;
    deep = h.deep;
    pushes = (h.pushes.0, h.pushes.1, full_test h.write h.read n m h.pushes.0 h.pushes.2);
    pops = (h.pops.0, h.pops.1, empty_test h.write h.read n m h.pops.0 h.pops.2);
    readers = all_of (reader h.write h.read n m) (reader h.write h.read m n) h.readers;
    reader = h.reader;
    columns = all_of (passed h.write h.read n m) (passed h.write h.read m n) h.columns;
    crossings = h.crossings;
    flops = h.flops;
  }
