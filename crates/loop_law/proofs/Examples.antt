-- Worked examples, by computation.
use Rattle.std.proofs.Common.{◌≡◌, inl, inr, ℕ, zero, suc, ◌<◌, Bool, true, false, ◌&&◌, ◌||◌, ◌==◌, nat_lt, List, [], ◌∷◌, refl, sym, ap₂, arith, eqb-true, ltb-true}
use Rattle.std.proofs.lemmas.Bool.{and_parts, or_cases}
use Rattle.cdc_base.specs.declared.signal.SigKind.{SigKind}
use Rattle.cdc_base.specs.declared.signal.SigKind.TheVariants.{Input, Wire}
use Rattle.cdc_base.specs.declared.signal.Signal.{Signal}
use Rattle.flat_meaning.specs.Flat.{Expr, Read, Join, no_exprs, expr, Target, Whole, Part, Group, no_targets, target, Stmt, Set, Block, no_stmts, stmt}
use Rattle.flat_meaning.specs.Assigned.{is_within, may_assign}
use Rattle.flat_meaning.specs.Deps.{wire_deps}
use Rattle.flat_meaning.specs.Design.{Flat, size_in}
use Rattle.flat_meaning.specs.Segments.{made_of, DependsIn, IsLoopFree}
use Rattle.flat_meaning.proofs.Words.{never_same}
use Rattle.flat_meaning.proofs.Placed.{from_within}
use Rattle.loop_law.specs.Loops.{IsFirstLoop}

abbrev signal : SigKind → ℕ → Signal
signal kind bits = record { name = []; place = record { line = 1; column = 1 }; width = bits; ranged = false; left = 0; right = 0; kind = kind; known = 0; start = 0 }

abbrev design : List Signal → List (Target × Expr) → List Stmt → Flat
design signals assigns combs = record { signals = signals; assigns = assigns; combs = combs; clocked = []; outputs = [] }

-- wire [1:0] w (0) and input d (1)
abbrev w_and_d : List Signal
w_and_d = signal Wire 2 ∷ signal Input 1 ∷ []

-- assign {w[1], w[0]} = {w[0], d}; both parts are made of all that the right side reads, so w is on a loop
abbrev joined : Flat
joined = design w_and_d ((Group (target (Part 0 1 1) (target (Part 0 0 1) no_targets)), Join (expr (Read 0 0 1) (expr (Read 1 0 1) no_exprs))) ∷ []) []

joined_has_a_loop : IsFirstLoop joined 0
joined_has_a_loop = record { loops = (0, 0, refl); none_below = λ t l h. absurd (omega arith) }

-- a design is free of loops where bits are made of those of a lower rank alone
module _ (f : Flat) (rank : ℕ → ℕ → ℕ) (falls : (s i t j : ℕ) → made_of f s i t j ≡ true → rank t j < rank s i) where
  falls_on : (n s i t j : ℕ) → DependsIn f n s i t j → rank t j < rank s i
  falls_on zero s i t j h = falls s i t j h
  falls_on (suc n) s i t j h = let a = falls s i h.0 h.1 h.2 in let b = falls_on n h.0 h.1 t j h.3 in omega arith

  ranked_free : IsLoopFree f
  ranked_free n s i h = let l = falls_on n s i s i h in absurd (omega arith)

-- a read or a part of one bit
one_bit : (s x at i : ℕ) → ((s == x) && is_within at 1 i) ≡ true → (s ≡ x) × (i ≡ at)
one_bit s x at i h =
    let p = and_parts (s == x) (is_within at 1 i) h in
    let q = from_within at 1 i p.1 in let low = q.0 in let high = q.1 in (eqb-true s x p.0, (omega arith))

-- assign w[1] = w[0]; assign w[0] = d;
abbrev apart : Flat
apart = design w_and_d ((Part 0 1 1, Read 0 0 1) ∷ (Part 0 0 1, Read 1 0 1) ∷ []) []

abbrev rank_of_bit : ℕ → ℕ → ℕ
rank_of_bit zero i = suc i
rank_of_bit (suc s) i = 0

apart_is_free : IsLoopFree apart
apart_is_free = ranked_free apart rank_of_bit falls
  where
    falls : (s i t j : ℕ) → made_of apart s i t j ≡ true → rank_of_bit t j < rank_of_bit s i
    falls s i t j h =
        elim (or_cases (((s == 0) && is_within 1 1 i) && ((t == 0) && is_within 0 1 j)) ((((s == 0) && is_within 0 1 i) && ((t == 1) && is_within 0 1 j)) || false)
        (sure (and_parts (nat_lt i (size_in apart s)) _ h).1)) [
          | inl a ↦ drops 1 0 0 (and_parts ((s == 0) && is_within 1 1 i) ((t == 0) && is_within 0 1 j) a) (omega arith)
          | inr a ↦ drops 0 1 0 (and_parts ((s == 0) && is_within 0 1 i) ((t == 1) && is_within 0 1 j) (sure a)) (omega arith)
        ]
      where
        sure : {b : Bool} → (b || false) ≡ true → b ≡ true
        sure {b = true} e = refl
        sure {b = false} e = e

        drops : (at x low : ℕ) → (((s == 0) && is_within at 1 i) ≡ true) × (((t == x) && is_within low 1 j) ≡ true) → rank_of_bit x low < rank_of_bit 0 at → rank_of_bit t j < rank_of_bit s i
        drops at x low p less =
            let a = one_bit s 0 at i p.0 in let b = one_bit t x low j p.1 in
            let high : rank_of_bit s i ≡ rank_of_bit 0 at = ap₂ rank_of_bit a.0 a.1 in
            let lower : rank_of_bit t j ≡ rank_of_bit x low = ap₂ rank_of_bit b.0 b.1 in omega arith

-- wire r (0), wire s (1), input d (2)
-- always @* begin r = s; r = d; end
abbrev r_is_d : Stmt
r_is_d = Block (stmt (Set true (Whole 0) (Read 1 0 1)) (stmt (Set true (Whole 0) (Read 2 0 1)) no_stmts))

-- always @* s = r;
abbrev s_is_r : Stmt
s_is_r = Set true (Whole 1) (Read 0 0 1)

abbrev overwritten : Flat
overwritten = design (signal Wire 1 ∷ signal Wire 1 ∷ signal Input 1 ∷ []) [] (r_is_d ∷ s_is_r ∷ [])

abbrev rank_of : ℕ → ℕ → ℕ
rank_of zero i = 1
rank_of (suc zero) i = 2
rank_of (suc (suc s)) i = 0

-- an assignment that is wholly overwritten leaves nothing
overwritten_is_free : IsLoopFree overwritten
overwritten_is_free = ranked_free overwritten rank_of falls
  where
    made : (a d : Bool) → ((a && d) || false) ≡ true → d ≡ true
    made true true e = refl
    made true false e = e
    made false d e = never_same (sym e)

    lower : (t x j n : ℕ) → ((t == x) && is_within 0 1 j) ≡ true → rank_of x 0 < n → rank_of t j < n
    lower t x j n h less =
        let p = one_bit t x 0 j h in
        let e : rank_of t j ≡ rank_of x 0 = ap₂ rank_of p.0 p.1 in omega arith

    falls : (s i t j : ℕ) → made_of overwritten s i t j ≡ true → rank_of t j < rank_of s i
    falls zero i t j h = lower t 2 j 1 (made (may_assign (size_in overwritten) r_is_d 0 i) (wire_deps (size_in overwritten) r_is_d 0 t j) (and_parts (nat_lt i 1) _ h).1) (omega arith)
    falls (suc zero) i t j h = lower t 0 j 2 (made (may_assign (size_in overwritten) s_is_r 1 i) (wire_deps (size_in overwritten) s_is_r 1 t j) (and_parts (nat_lt i 1) _ h).1) (omega arith)
    falls (suc (suc zero)) i t j h = never_same (sym (and_parts (nat_lt i 1) false h).1)
    falls (suc (suc (suc s))) i t j h = absurd (let l = ltb-true i 0 (and_parts (nat_lt i 0) _ h).0 in omega arith)
