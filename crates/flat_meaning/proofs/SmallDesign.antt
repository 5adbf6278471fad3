-- The law at work: d is an input, w its complement, and q a register that takes w.
use Rattle.std.proofs.Common.{◌≡◌, ℕ, zero, suc, ◌+◌, ◌<◌, ◌≤◌, Bool, true, false, not, ◌&&◌, ◌||◌, ◌==◌, nat_lt, [], ◌∷◌, refl, sym, ap, ◌∙◌, arith, eqb-true}
use Rattle.std.proofs.lemmas.Bool.{and_parts}
use Rattle.std.proofs.lemmas.List.Elements.{All-head, All-cons, All-nil}
use Rattle.cdc_base.specs.declared.signal.SigKind.{SigKind}
use Rattle.cdc_base.specs.declared.signal.SigKind.TheVariants.{Input, Register, Wire}
use Rattle.cdc_base.specs.declared.signal.Signal.{Signal}
use Rattle.cell_graph.specs.Reading.{Reading}
use Rattle.cell_graph.specs.Tree.{bit}
use Rattle.flat_meaning.specs.Flat.{complement, Expr, Target, Read, Unary, Whole, Stmt, Set, assigns}
use Rattle.flat_meaning.specs.Trees.{Selects}
use Rattle.flat_meaning.specs.Assigned.{is_within}
use Rattle.flat_meaning.specs.Design.{HoldsValue, Flat, size_in, StatePin, given, is_variable, bit_of, once, drivers}
use Rattle.flat_meaning.specs.SignalTrees.{AreTrees, next_tree_of}
use Rattle.flat_meaning.specs.Sound.{IsSoundAssign, IsSoundClocked, IsSound}
use Rattle.flat_meaning.specs.Segments.{made_of, DependsIn, IsLoopFree}
use Rattle.flat_meaning.proofs.Words.{never, never_same}
use Rattle.flat_meaning.proofs.Elaboration.{law_of_elaboration}

abbrev signal : SigKind → Signal
signal kind = record { name = []; place = record { line = 1; column = 1 }; width = 1; ranged = false; left = 0; right = 0; kind = kind; known = 0; start = 0 }

abbrev complement_of_d : Target × Expr
complement_of_d = (Whole 1, Unary complement (Read 0 0 1))

abbrev body : Stmt
body = Set false (Whole 2) (Read 1 0 1)

-- input d; wire w; reg q; input clk; assign w = ~d; always @(posedge clk) q <= w;
abbrev small : Flat
small = record {
  signals = signal Input ∷ signal Wire ∷ signal Register ∷ signal Input ∷ [];
  assigns = complement_of_d ∷ [];
  combs = [];
  clocked = (3, body) ∷ [];
  outputs = [];
}

sized : (s : ℕ) → size_in small s ≤ 64
sized zero = let h : 1 ≤ 64 = omega arith in h
sized (suc zero) = let h : 1 ≤ 64 = omega arith in h
sized (suc (suc zero)) = let h : 1 ≤ 64 = omega arith in h
sized (suc (suc (suc zero))) = let h : 1 ≤ 64 = omega arith in h
sized (suc (suc (suc (suc s)))) = let h : 0 ≤ 64 = omega arith in h

one_driver : (s i : ℕ) → i < size_in small s → drivers small s i ≤ 1
one_driver s i l = go ((s == 1) && is_within 0 1 i)
  where
    go : (b : Bool) → once b + 0 + 0 ≤ 1
    go true = omega arith
    go false = omega arith

registers : (s : ℕ) → assigns body s ≡ true → is_variable small s ≡ true
registers s h = ap (is_variable small) (eqb-true s 2 h)

is_sound : IsSound small
is_sound = record {
  sized = sized;
  assigned = All-cons (IsSoundAssign small) complement_of_d [] (refl, (refl, (let h : 1 ≤ 1 = omega arith in h))) (All-nil (IsSoundAssign small));
  processed = All-nil _;
  clocked = All-cons (λ (p : ℕ × Stmt). IsSoundClocked small p.1) (3, body) [] (record { fits = (refl, tt); registers = registers }) (All-nil _);
  clocks = All-cons (λ (p : ℕ × Stmt). 1 ≤ size_in small p.0) (3, body) [] (let h : 1 ≤ 1 = omega arith in h) (All-nil _);
  outputs = All-nil _;
  one_driver = one_driver;
}

-- only w is made of anything, and that is d
made : (s i t j : ℕ) → made_of small s i t j ≡ true → (s ≡ 1) × (t ≡ 0)
made s i t j h =
    let w = (s == 1) && is_within 0 1 i in let d = (t == 0) && is_within 0 1 j in
    go w d (λ e. eqb-true s 1 (and_parts (s == 1) (is_within 0 1 i) e).0) (λ e. eqb-true t 0 (and_parts (t == 0) (is_within 0 1 j) e).0) (and_parts (nat_lt i (size_in small s)) (((w && d) || false) || false) h).1
  where
    go : (w d : Bool) → (w ≡ true → s ≡ 1) → (d ≡ true → t ≡ 0) → (((w && d) || false) || false) ≡ true → (s ≡ 1) × (t ≡ 0)
    go true true a b k = (a refl, b refl)
    go true false a b k = never_same (sym k)
    go false d a b k = never_same (sym k)

ends : (n s i t j : ℕ) → DependsIn small n s i t j → (s ≡ 1) × (t ≡ 0)
ends zero s i t j h = made s i t j h
ends (suc n) s i t j h = let a = made s i h.0 h.1 h.2 in let b = ends n h.0 h.1 t j h.3 in (a.0, b.1)

is_loop_free : IsLoopFree small
is_loop_free n s i h = let p = ends n s i s i h in let a = p.0 in let b = p.1 in absurd (never 0 (omega arith))

-- whatever the clock pin and the readings are, q's next tree has the complement of d
next_is_not_d : (sel : Selects) → AreTrees small sel → (r : Reading) → bit (given small (λ s. StatePin) r) (next_tree_of small sel 2) 0 ≡ not (r (bit_of 0 0))
next_is_not_d sel are r =
    let e = law_of_elaboration small is_sound is_loop_free sel are (λ s. StatePin) r in
    let one : 0 < 1 = omega arith in
    (e.nexts 2 refl).1 0 one ∙ All-head (HoldsValue small e.values) complement_of_d [] e.consistent.assigned 0 one ∙ ap not (e.consistent.variables 0 0 one refl)
