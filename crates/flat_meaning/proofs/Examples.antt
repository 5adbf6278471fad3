-- Worked examples, by computation.
use Rattle.std.proofs.Common.{◌≡◌, ℕ, true, false, cond, ◌||◌, ◌==◌, [], ◌∷◌, refl}
use Rattle.cell_graph.specs.Tree.{Var, Const, And, Eq, Mux, Concat, Slice}
use Rattle.flat_meaning.specs.Values.{Words}
use Rattle.flat_meaning.specs.Flat.{is_less, shift_left, bitwise_and, Expr, Number, Read, Binary, Gate, Join, Repeat, no_exprs, expr, Target, Whole, Part, Pick, Group, no_targets, target, Stmt, Null, Set, If, Case, Block, no_items, default_item, item, no_stmts, stmt}
use Rattle.flat_meaning.specs.Meaning.{value, run_blocking, run_clocked}
use Rattle.flat_meaning.specs.Full.{nothing}
use Rattle.flat_meaning.specs.Trees.{Selects, tree}
use Rattle.flat_meaning.specs.Assigned.{surely}
use Rattle.flat_meaning.specs.Deps.{wire_deps}
use Rattle.flat_meaning.specs.Law.{next_tree}
use Rattle.flat_meaning.specs.Segments.{made_by_assigns}
use Rattle.flat_meaning.specs.Design.{times_assigned}
use Rattle.flat_meaning.specs.Pieces.{pieces, runs, run_pieces, wire_select}

-- signals of one bit: x (0), s (1), a (2)
abbrev one_bit : ℕ → ℕ
one_bit s = 1

abbrev variables : Selects
variables s at w = Var s w

abbrev then_one : Stmt → Stmt → Stmt
then_one p q = Block (stmt p (stmt q no_stmts))

abbrev set : Target → Expr → Stmt
set t e = Set false t e

-- x <= 0; x <= 1;
later_wins : run_clocked one_bit (then_one (set (Whole 0) (Number 1 0)) (set (Whole 0) (Number 1 1))) nothing 0 0 ≡ true
later_wins = refl

-- nonblocking assignments read the values before the event: s <= x; x <= s; exchanges them
exchange : (v : Words) → run_clocked one_bit (then_one (set (Whole 1) (Read 0 0 1)) (set (Whole 0) (Read 1 0 1))) v 0 0 ≡ v 1 0
exchange v = refl

-- blocking ones read what stands there: s = x; x = s; gives both the first value of x
in_turn : (v : Words) → run_blocking one_bit (then_one (Set true (Whole 1) (Read 0 0 1)) (Set true (Whole 0) (Read 1 0 1))) v 0 0 ≡ v 0 0
in_turn v = refl

abbrev two_bits : ℕ → ℕ
two_bits s = 2

-- x[1] <= 1; keeps x[0]
keeps : (v : Words) → run_clocked two_bits (set (Part 0 1 1) (Number 1 1)) v 0 0 ≡ v 0 0
keeps v = refl

-- {x, x} <= 2'b10; the last part wins
last_part_wins : run_clocked one_bit (set (Group (target (Whole 0) (target (Whole 0) no_targets))) (Number 2 2)) nothing 0 0 ≡ false
last_part_wins = refl

-- {x, a[x]} = 3'b011 with x 0 before: the index is read before x is assigned
index_before : run_blocking two_bits (Set true (Group (target (Part 0 0 1) (target (Pick 2 (Read 0 0 1)) no_targets))) (Number 2 3)) nothing 2 0 ≡ true
index_before = refl

-- 1'd1 < 2'd2: the operands are evaluated at the larger size
compares_wide : value nothing (Binary is_less (Number 1 1) (Number 2 2)) 1 0 ≡ true
compares_wide = refl

-- 2'd3 << 2'd2
shifted_out : value nothing (Binary shift_left (Number 2 3) (Number 2 2)) 2 1 ≡ false
shifted_out = refl

-- case (1'b1) default: x <= 0; 1'b1: x <= 1; endcase: the default is tried last
default_last : run_clocked one_bit (Case (Number 1 1) (item (expr (Number 1 1) no_exprs) (set (Whole 0) (Number 1 1)) (default_item (set (Whole 0) (Number 1 0))))) nothing 0 0 ≡ true
default_last = refl

-- case (s) 1'b0: x <= s; 1'b1: x <= a; endcase: a full case, whose last body stands once more where a default would
full_case : next_tree one_bit variables (Case (Read 1 0 1) (item (expr (Number 1 0) no_exprs) (set (Whole 0) (Read 1 0 1)) (item (expr (Number 1 1) no_exprs) (set (Whole 0) (Read 2 0 1)) no_items))) 0
    ≡ Mux (Eq (Var 1 1) (Const 1 0)) (Var 1 1) (Mux (Eq (Var 1 1) (Const 1 1)) (Var 2 1) (Var 2 1))
full_case = refl

-- {2{a, s}} joins copies of the concatenation
copies_of_join : tree one_bit variables (Repeat 2 (expr (Read 2 0 1) (expr (Read 1 0 1) no_exprs))) 4 ≡ Concat (Concat (Var 2 1) (Var 1 1)) (Concat (Var 2 1) (Var 1 1))
copies_of_join = refl

-- and (q, x, s, a); folds from the left
gate_from_the_left : tree one_bit variables (Gate bitwise_and (expr (Read 0 0 1) (expr (Read 1 0 1) (expr (Read 2 0 1) no_exprs)))) 1 ≡ And (And (Var 0 1) (Var 1 1)) (Var 2 1)
gate_from_the_left = refl

-- wire [3:0] w; assign w[1] = a; the undriven bits are zero, and a select has only what it meets
undriven : wire_select (pieces (λ s. 4) 3 (Part 3 1 1) (Var 2 1)) 0 4 ≡ Concat (Const 2 0) (Concat (Var 2 1) (Const 1 0))
undriven = refl

undriven_part : wire_select (pieces (λ s. 4) 3 (Part 3 1 1) (Var 2 1)) 2 2 ≡ Const 2 0
undriven_part = refl

met_part : wire_select (pieces (λ s. 4) 3 (Part 3 1 1) (Var 2 1)) 1 1 ≡ Var 2 1
met_part = refl

-- a process that may assign bits 0 and 2 of three: two slices of the finished tree, and a zero between
two_runs : wire_select (run_pieces 3 (Var 5 3) (runs (λ i. (i == 0) || (i == 2)) 3 [])) 0 3 ≡ Concat (Slice (Var 5 3) 2 1) (Concat (Const 1 0) (Slice (Var 5 3) 0 1))
two_runs = refl

-- ---- segments and drivers: w (0) of two bits, d (1) and s (2) of one

abbrev sizes_of : ℕ → ℕ
sizes_of s = cond (s == 0) 2 1

abbrev both_bits : Target
both_bits = Group (target (Part 0 1 1) (target (Part 0 0 1) no_targets))

-- assign {w[1], w[0]} = {w[0], d}: each part depends on the whole right side, so w[0] on itself
loop_at_once : made_by_assigns sizes_of ((both_bits, Join (expr (Read 0 0 1) (expr (Read 1 0 1) no_exprs))) ∷ []) 0 0 0 0 ≡ true
loop_at_once = refl

-- assign w[1] = w[0]; assign w[0] = d
no_loop : made_by_assigns sizes_of ((Part 0 1 1, Read 0 0 1) ∷ (Part 0 0 1, Read 1 0 1) ∷ []) 0 0 0 0 ≡ false
no_loop = refl

-- r = s; r = d: an assignment that is wholly overwritten leaves nothing
overwritten : wire_deps one_bit (then_one (Set true (Whole 0) (Read 2 0 1)) (Set true (Whole 0) (Read 1 0 1))) 0 2 0 ≡ false
overwritten = refl

left_over : wire_deps one_bit (then_one (Set true (Whole 0) (Read 2 0 1)) (Set true (Whole 0) (Read 1 0 1))) 0 1 0 ≡ true
left_over = refl

-- assign {s, s} = 2'b10: a bit that one assignment assigns twice has two drivers
driven_twice : times_assigned sizes_of 2 0 ((Group (target (Whole 2) (target (Whole 2) no_targets)), Number 2 2) ∷ []) ≡ 2
driven_twice = refl

-- if (d) s = 1; leaves a path on which s isn't assigned
latch : surely sizes_of (If (Read 1 0 1) (Set true (Whole 2) (Number 1 1)) Null) (λ x i. false) 2 0 ≡ false
latch = refl

-- case (d) 1'b0: s = 1; 1'b1: s = 0; endcase leaves none
full_case_has_no_latch : surely sizes_of (Case (Read 1 0 1) (item (expr (Number 1 0) no_exprs) (Set true (Whole 2) (Number 1 1)) (item (expr (Number 1 1) no_exprs) (Set true (Whole 2) (Number 1 0)) no_items))) (λ x i. false) 2 0 ≡ true
full_case_has_no_latch = refl
