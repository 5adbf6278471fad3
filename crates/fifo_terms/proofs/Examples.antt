-- The terms of the comparisons of a FIFO with Gray pointers, and what its counter's bit takes.
use Rattle.std.proofs.Common.{◌≡◌, ℕ, zero, suc, inl, inr, subst, arith, Bool, true, false, Some, [], ◌∷◌, refl}
use Rattle.std.specs.List.{Contains}
use Rattle.cell_graph.specs.Tree.{Tree, Var, Const, Not, And, Xor, Add, Eq, Shr, Mux, Concat, Slice, Extend}
use Rattle.cell_graph.specs.Origin.{TreeBit}
use Rattle.fifo_terms.specs.Terms.{Term, Is, Differ, terms, AreOne, HasTerm}
use Rattle.cdc_model.specs.Word.{cells, origins, own_word, IsStepOfOne}
use Rattle.fifo_terms.specs.Counts.{CountsUnder, First}
use Rattle.fifo_terms.specs.Codes.{Code, Now, Next, IsBit, IsCountAt}
use Rattle.fifo_terms.specs.Shows.{full_apart, Shows, IsTest, IsFlagTest}
use Rattle.fifo_terms.specs.Takes.{taken}

abbrev g : ℕ → TreeBit
g i = Some (Var 1 3, i)

abbrev q : ℕ → TreeBit
q i = Some (Var 2 3, i)

-- full: the code equals the one that came over, its two upper bits inverted
abbrev full : Tree
full = Eq (Var 1 3) (Concat (Not (Slice (Var 2 3) 1 2)) (Slice (Var 2 3) 0 1))

full_terms : terms full 0 true ≡ Differ (g 0) (q 0) false ∷ Differ (g 1) (q 1) true ∷ Differ (g 2) (q 2) true ∷ []
full_terms = refl

-- the same by single bits
abbrev full_by_bits : Tree
full_by_bits = And (Not (Eq (Slice (Var 1 3) 2 1) (Slice (Var 2 3) 2 1))) (And (Xor (Slice (Var 1 3) 1 1) (Slice (Var 2 3) 1 1)) (Eq (Slice (Var 1 3) 0 1) (Slice (Var 2 3) 0 1)))

full_by_bits_terms : terms full_by_bits 0 true ≡ Differ (g 2) (q 2) true ∷ Differ (g 1) (q 1) true ∷ Differ (g 0) (q 0) false ∷ []
full_by_bits_terms = refl

-- an index is compared with a constant
index_terms : terms (Eq (Slice (Var 3 3) 0 2) (Const 2 2)) 0 true ≡ Is (Some (Var 3 3, 0)) false ∷ Is (Some (Var 3 3, 1)) true ∷ []
index_terms = refl

-- with a reset and an enable: 0 in reset, plus one where enabled and not full
abbrev push : Tree
push = And (Var 5 1) (Not full)

memory_takes : taken (record { sig = 7; at = 0 }) (Mux push (Var 8 1) (Var 7 1)) 0 ≡ record { node = Some (Var 8 1, 0); under = Is (Some (Var 5 1, 0)) true ∷ Is (Some (full, 0)) false ∷ [] }
memory_takes = refl

-- the step of the counter is 1 exactly where it pushes
step_terms : terms (Extend push 3) 0 true ≡ Is (Some (Var 5 1, 0)) true ∷ Is (Some (full, 0)) false ∷ []
step_terms = refl

count_terms : CountsUnder 3 3 (cells (Add (Var 3 3) (Extend push 3)) 0 3) (terms (Extend push 3) 0 true)
count_terms = First (Var 3 3) (Extend push 3) refl one_step
  where
    one_step : IsStepOfOne (Extend push 3) 3
    one_step zero l m = absurd (omega (arith, l))
    one_step (suc zero) l m = refl
    one_step (suc (suc zero)) l m = refl
    one_step (suc (suc (suc i))) l m = absurd (omega (arith, m))

-- the code is held by register 1; that of the other side comes over in register 2
abbrev code : Code
code = record { b = 3; w = 3; held = own_word 1 3; moment = Now }

said : (a b : TreeBit) (v : Bool) (t : Term) → Differ a b v ≡ t → AreOne t (Differ a b v)
said a b v t e = subst (λ (u : Term). AreOne u (Differ a b v)) e (inl (refl, refl), refl)

-- "full is 0" is a test for full
full_tests : IsTest code (own_word 2 3) full_apart (Is (Some (full, 0)) false)
full_tests = (Some (full, 0), false, refl, each)
  where
    each : Shows code (own_word 2 3) full_apart (Some (full, 0)) true
    each t (zero, l, e) = (0, g 0, q 0, omega arith, inl refl, refl, said (g 0) (q 0) false t e)
    each t (suc zero, l, e) = (1, g 1, q 1, omega arith, inl refl, refl, said (g 1) (q 1) true t e)
    each t (suc (suc zero), l, e) = (2, g 2, q 2, omega arith, inl refl, refl, said (g 2) (q 2) true t e)
    each t (suc (suc (suc k)), l, e) = absurd (omega (arith, l))

-- with a registered flag: its next value compares the next code
abbrev next_count : Tree
next_count = Add (Var 3 3) (Extend (And (Var 5 1) (Not (Var 6 1))) 3)

abbrev next_code : Tree
next_code = Xor (Shr next_count (Const 1 1)) next_count

abbrev next_flag : Tree
next_flag = Eq next_code (Concat (Not (Slice (Var 2 3) 1 2)) (Slice (Var 2 3) 0 1))

next_flag_terms : terms next_flag 0 true ≡ Differ (Some (next_code, 0)) (q 0) false ∷ Differ (Some (next_code, 1)) (q 1) true ∷ Differ (Some (next_count, 2)) (q 2) true ∷ []
next_flag_terms = refl

abbrev coming : Code
coming = record { b = 3; w = 3; held = origins next_code 0 3; moment = Next (terms (Extend (And (Var 5 1) (Not (Var 6 1))) 3) 0 true) }

abbrev enough : Tree
enough = Extend (And (Var 5 1) (Not (Var 6 1))) 3

enough_step : IsStepOfOne enough 3
enough_step zero l m = absurd (omega (arith, l))
enough_step (suc zero) l m = refl
enough_step (suc (suc zero)) l m = refl
enough_step (suc (suc (suc i))) l m = absurd (omega (arith, m))

-- the next count's highest bit is that of its code
counted : IsCountAt 3 3 (Next (terms enough 0 true)) (cells next_count 0 3)
counted = (terms enough 0 true, First (Var 3 3) enough refl enough_step, (each_in, each_in), within)
  where
    within : (x : TreeBit) → Contains (cells next_count 0 3) x → IsBit x
    within x (zero, l, e) = subst IsBit e (omega arith)
    within x (suc zero, l, e) = subst IsBit e (omega arith)
    within x (suc (suc zero), l, e) = subst IsBit e (omega arith)
    within x (suc (suc (suc i)), l, e) = absurd (omega (arith, l))

    each_in : (t : Term) → Contains (terms enough 0 true) t → HasTerm (terms enough 0 true) t
    each_in t i = (t, i, same t)
      where
        same : (t : Term) → AreOne t t
        same (Is n v) = (refl, refl)
        same (Differ a b v) = (inl (refl, refl), refl)

-- "the flag is 0" is a test for full
flag_tests : IsFlagTest coming (own_word 2 3) full_apart next_flag 0 false
flag_tests = (Is (Some (next_flag, 0)) false, (0, omega arith, refl), (Some (next_flag, 0), false, refl, each))
  where
    each : Shows coming (own_word 2 3) full_apart (Some (next_flag, 0)) true
    each t (zero, l, e) = (0, Some (next_code, 0), q 0, omega arith, inl refl, refl, said (Some (next_code, 0)) (q 0) false t e)
    each t (suc zero, l, e) = (1, Some (next_code, 1), q 1, omega arith, inl refl, refl, said (Some (next_code, 1)) (q 1) true t e)
    each t (suc (suc zero), l, e) = (2, Some (next_count, 2), q 2, omega arith, inr (cells next_count 0 3, counted, inl refl), refl, said (Some (next_count, 2)) (q 2) true t e)
    each t (suc (suc (suc k)), l, e) = absurd (omega (arith, l))
