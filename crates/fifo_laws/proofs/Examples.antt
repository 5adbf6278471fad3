-- A FIFO of two words: its word bits, its column, the read of it and its reader.
use Rattle.std.proofs.Common.{◌≡◌, ℕ, zero, suc, ◌<◌, Bool, true, false, cond, ◌==◌, Some, None, [], ◌∷◌, slice_get, slice_index_or, ◌⊎◌, inl, inr, refl, subst, arith}
use Rattle.cdc_base.specs.declared.bit.Bit.{Bit}
use Rattle.cell_graph.specs.Tree.{Tree, Var, Const, Not, And, Eq, Mux, Slice}
use Rattle.cell_graph.specs.Origin.{TreeBit}
use Rattle.cdc_model.specs.declared.scheme.Shape.TheVariants.{G2}
use Rattle.cdc_model.specs.Design.{Design}
use Rattle.cdc_model.specs.Schemes.{Sync}
use Rattle.fifo_terms.specs.Terms.{Term, Is, Differ, AreOne, HasTerm, terms}
use Rattle.fifo_terms.specs.Takes.{taken}
use Rattle.fifo_terms.specs.Shows.{Shows, full_apart, empty_apart}
use Rattle.fifo_laws.specs.Fifos.{IsReader, IsPassed}
use Rattle.fifo_laws.specs.Sides.{Side, code_of, came_over}
use Rattle.fifo_laws.specs.Tests.{IsFullTest, IsEmptyTest, HasEmptyTest}
use Rattle.fifo_laws.specs.Words.{Column, IsColumn, IsReadOf, IsWordBit, IsWord, index_terms}

abbrev at : ℕ → ℕ → Bit
at sig i = record { sig = sig; at = i }

-- signals 1 to 4 are wb, wg, rb, rg; 5 and 6 what came over of rg and of wg; 7 and 8 the words, 9 the reader, 10 the data; 11 and 12 push and pop
abbrev d : Design
d = record {
  width = λ sig. 2;
  is_register = λ b. true;
  is_input = λ b. false;
  clocks = 2;
  clock = λ b. Some (cond (b.sig == 9) 1 0);
  group_of = λ c. c;
  settle = λ c. 1;
  start = λ b. Some false;
  next = λ r b. false;
  copied = λ b. None;
}

abbrev brings : ℕ → ℕ → ℕ → Sync
brings from to i = record { from = at from i; first = at 20 i; more = at to i ∷ [] }

abbrev full : Tree
full = Eq (Var 2 2) (Not (Var 5 2))

abbrev empty : Tree
empty = Eq (Var 4 2) (Var 6 2)

abbrev push : Tree
push = And (Var 11 2) (Not full)

abbrev pop : Tree
pop = And (Var 12 2) (Not empty)

abbrev write : Side
write = record { reg = record { count = 1; gray = 2; shape = G2 }; clock = 0; under = terms push 0 true; over = brings 2 6 0 ∷ brings 2 6 1 ∷ [] }

abbrev read : Side
read = record { reg = record { count = 3; gray = 4; shape = G2 }; clock = 1; under = terms pop 0 true; over = brings 4 5 0 ∷ brings 4 5 1 ∷ [] }

abbrev word_tree : ℕ → ℕ → Tree
word_tree sig n = Mux push (Mux (Eq (Slice (Var 1 2) 0 1) (Const 1 n)) (Var 10 2) (Var sig 2)) (Var sig 2)

abbrev choice : Tree
choice = Mux (Eq (Slice (Var 3 2) 0 1) (Const 1 0)) (Var 7 2) (Var 8 2)

abbrev tree : ℕ → Tree
tree sig = cond (sig == 7) (word_tree 7 0) (cond (sig == 8) (word_tree 8 1) (cond (sig == 9) (Mux pop choice (Var 9 2)) (Var sig 2)))

one : (t : Term) → AreOne t t
one (Is n v) = (refl, refl)
one (Differ a b v) = (inl (refl, refl), refl)

said : (a b : TreeBit) (v : Bool) (t : Term) → Differ a b v ≡ t → AreOne t (Differ a b v)
said a b v t e = subst (λ (u : Term). AreOne u (Differ a b v)) e (inl (refl, refl), refl)

-- both bits of the codes differ where there is no room
full_test : IsFullTest d tree write read (Is (Some (full, 0)) false)
full_test = inl (Some (full, 0), false, refl, each)
  where
    each : Shows (code_of d write) (came_over d read) full_apart (Some (full, 0)) true
    each t (zero, l, e) = (0, Some (Var 2 2, 0), Some (Var 5 2, 0), omega arith, inl refl, refl, said (Some (Var 2 2, 0)) (Some (Var 5 2, 0)) true t e)
    each t (suc zero, l, e) = (1, Some (Var 2 2, 1), Some (Var 5 2, 1), omega arith, inl refl, refl, said (Some (Var 2 2, 1)) (Some (Var 5 2, 1)) true t e)
    each t (suc (suc k), l, e) = absurd (omega (arith, l))

empty_test : IsEmptyTest d tree write read (Is (Some (empty, 0)) false)
empty_test = inl (Some (empty, 0), false, refl, each)
  where
    each : Shows (code_of d read) (came_over d write) empty_apart (Some (empty, 0)) true
    each t (zero, l, e) = (0, Some (Var 4 2, 0), Some (Var 6 2, 0), omega arith, inl refl, refl, said (Some (Var 4 2, 0)) (Some (Var 6 2, 0)) false t e)
    each t (suc zero, l, e) = (1, Some (Var 4 2, 1), Some (Var 6 2, 1), omega arith, inl refl, refl, said (Some (Var 4 2, 1)) (Some (Var 6 2, 1)) false t e)
    each t (suc (suc k), l, e) = absurd (omega (arith, l))

-- a word bit takes the data under a push, with the count at its number
first_word : IsWordBit d tree write read 0 (Some (Var 10 2, 0)) (at 7 0)
first_word = record {
  register = refl;
  clock = refl;
  takes = refl;
  index = λ t i. index_in t i.0 i.1 i.2;
  others = λ t i. other_in t i.0 i.1 i.2;
  guarded = (Is (Some (full, 0)) false, (1, omega arith, refl), (Is (Some (full, 0)) false, (1, omega arith, refl), one (Is (Some (full, 0)) false)), full_test);
}
  where
    index_in : (t : Term) (k : ℕ) → k < 1 → slice_index_or (index_terms d write 0) k t ≡ t → HasTerm (taken (at 7 0) (tree 7) 0).under t
    index_in t zero l e = (t, (2, omega arith, e), one t)
    index_in t (suc k) l e = absurd (omega (arith, l))

    other_in : (t : Term) (k : ℕ) → k < 3 → slice_index_or (taken (at 7 0) (tree 7) 0).under k t ≡ t → HasTerm (index_terms d write 0) t ⊎ HasTerm write.under t
    other_in t zero l e = inr (t, (0, omega arith, e), one t)
    other_in t (suc zero) l e = inr (t, (1, omega arith, e), one t)
    other_in t (suc (suc zero)) l e = inl (t, (0, omega arith, e), one t)
    other_in t (suc (suc (suc k))) l e = absurd (omega (arith, l))

second_word : IsWordBit d tree write read 1 (Some (Var 10 2, 0)) (at 8 0)
second_word = record {
  register = refl;
  clock = refl;
  takes = refl;
  index = λ t i. index_in t i.0 i.1 i.2;
  others = λ t i. other_in t i.0 i.1 i.2;
  guarded = (Is (Some (full, 0)) false, (1, omega arith, refl), (Is (Some (full, 0)) false, (1, omega arith, refl), one (Is (Some (full, 0)) false)), full_test);
}
  where
    index_in : (t : Term) (k : ℕ) → k < 1 → slice_index_or (index_terms d write 1) k t ≡ t → HasTerm (taken (at 8 0) (tree 8) 0).under t
    index_in t zero l e = (t, (2, omega arith, e), one t)
    index_in t (suc k) l e = absurd (omega (arith, l))

    other_in : (t : Term) (k : ℕ) → k < 3 → slice_index_or (taken (at 8 0) (tree 8) 0).under k t ≡ t → HasTerm (index_terms d write 1) t ⊎ HasTerm write.under t
    other_in t zero l e = inr (t, (0, omega arith, e), one t)
    other_in t (suc zero) l e = inr (t, (1, omega arith, e), one t)
    other_in t (suc (suc zero)) l e = inl (t, (0, omega arith, e), one t)
    other_in t (suc (suc (suc k))) l e = absurd (omega (arith, l))

abbrev column : Column
column = record { words = at 7 0 ∷ at 8 0 ∷ []; value = Some (Var 10 2, 0) }

is_column : IsColumn d tree write read column
is_column = record { depth = refl; words = each }
  where
    same_bit : (a b : Bit) → Some a ≡ Some b → a ≡ b
    same_bit a b e = cc

    no_bit : {A : Type 0} (b : Bit) → None ≡ Some b → A
    no_bit b e = cc

    each : (n : ℕ) (m : Bit) → slice_get (at 7 0 ∷ at 8 0 ∷ []) n ≡ Some m → IsWordBit d tree write read n (Some (Var 10 2, 0)) m
    each zero m e = subst (λ (b : Bit). IsWordBit d tree write read 0 (Some (Var 10 2, 0)) b) (same_bit (at 7 0) m e) first_word
    each (suc zero) m e = subst (λ (b : Bit). IsWordBit d tree write read 1 (Some (Var 10 2, 0)) b) (same_bit (at 8 0) m e) second_word
    each (suc (suc n)) m e = no_bit m e

-- the choice by the count is a read of the column
is_read : IsReadOf d tree write read column (Some (choice, 0))
is_read = (is_column, (Eq (Slice (Var 3 2) 0 1) (Const 1 0), Var 7 2, Var 8 2, 0, refl, (λ t i. (t, i, one t), λ t i. (t, i, one t)), refl, refl))

not_empty : HasEmptyTest d tree write read (terms pop 0 true)
not_empty = (Is (Some (empty, 0)) false, (1, omega arith, refl), empty_test)

-- the register that takes the read under a pop is a reader: its one way to words passes the guard and the read
reader : IsReader d tree write read (at 9 0)
reader = record {
  register = refl;
  clock = refl;
  own = refl;
  reads = (at 7 0, (0, Some (Var 10 2, 0), omega arith, first_word), refl);
  passes = inr (
    (inr no_pop, inr (λ j l. (no_code j, no_flop j))),
    inl (not_empty, inl (refl, (column, is_read))),
    inr other_clock,
  );
}
  where
    no_pop : IsWord d tree write read (at 12 0) → ⊥
    no_pop w = omega (arith, w.3.guarded.1.1)

    no_code : (j : ℕ) → IsWord d tree write read (at 4 j) → ⊥
    no_code j w = omega (arith, w.3.guarded.1.1)

    no_flop : (j : ℕ) → IsWord d tree write read (at 6 j) → ⊥
    no_flop j w = omega (arith, w.3.guarded.1.1)

    other_clock : IsWord d tree write read (at 9 0) → ⊥
    other_clock w = let e : Some 1 ≡ Some 0 = w.3.clock in cc

passed : IsPassed d tree write read column
passed = (at 9 0, reader, inr (inr (inl (inl is_read))))
