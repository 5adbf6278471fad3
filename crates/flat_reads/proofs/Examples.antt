-- Worked examples, by computation.
use Rattle.std.proofs.Common.{◌≡◌, ℕ, true, false, cond, ◌||◌, ◌==◌, refl}
use Rattle.flat_meaning.specs.Flat.{shift_left, plus, Expr, Number, Read, At, Binary, Join, no_exprs, expr, Target, Whole, Part, Pick, Stmt, Set, Case, Block, default_item, item, no_stmts, stmt}
use Rattle.flat_meaning.specs.Trees.{tree}
use Rattle.flat_meaning.specs.Deps.{wire_deps}
use Rattle.flat_meaning.specs.Law.{wire_tree}
use Rattle.flat_reads.specs.Marks.{marked, marks}

-- r (0) and s (1) of two bits, d (2) and e (3) of one
abbrev sizes : ℕ → ℕ
sizes s = cond ((s == 0) || (s == 1)) 2 1

abbrev set : Target → Expr → Stmt
set t e = Set true t e

abbrev in_turn : Stmt → Stmt → Stmt
in_turn p q = Block (stmt p (stmt q no_stmts))

-- {s[1], d} << e reads s[1], and not s[0]
abbrev shifted : Expr
shifted = Binary shift_left (Join (expr (Read 1 1 1) (expr (Read 2 0 1) no_exprs))) (Read 3 0 1)

reads_the_part : marks (tree sizes marked shifted 2) 1 1 ≡ true
reads_the_part = refl

reads_no_more : marks (tree sizes marked shifted 2) 1 0 ≡ false
reads_no_more = refl

reads_the_amount : marks (tree sizes marked shifted 2) 3 0 ≡ true
reads_the_amount = refl

-- s[d] reads all of s, and d
reads_all : marks (tree sizes marked (At 1 (Read 2 0 1)) 1) 1 1 ≡ true
reads_all = refl

reads_the_index : marks (tree sizes marked (At 1 (Read 2 0 1)) 1) 2 0 ≡ true
reads_the_index = refl

-- r = s; r[0] = d: the rest is cut out of s, which is read whole
abbrev rest_kept : Stmt
rest_kept = in_turn (set (Whole 0) (Read 1 0 2)) (set (Part 0 0 1) (Read 2 0 1))

rest_is_read : marks (wire_tree sizes marked rest_kept 0) 1 0 ≡ true
rest_is_read = refl

-- r = s; r[1:0] = {d, e}: nothing of s is left
abbrev all_new : Stmt
all_new = in_turn (set (Whole 0) (Read 1 0 2)) (set (Part 0 0 2) (Join (expr (Read 2 0 1) (expr (Read 3 0 1) no_exprs))))

nothing_is_left : marks (wire_tree sizes marked all_new 0) 1 0 ≡ false
nothing_is_left = refl

made_of_nothing_left : wire_deps sizes all_new 0 1 0 ≡ false
made_of_nothing_left = refl

made_of_rest : wire_deps sizes rest_kept 0 1 0 ≡ true
made_of_rest = refl

new_is_read : marks (wire_tree sizes marked all_new 0) 3 0 ≡ true
new_is_read = refl

-- r = s; r = r + d: a target reads as it is at that place
through_itself : marks (wire_tree sizes marked (in_turn (set (Whole 0) (Read 1 0 2)) (set (Whole 0) (Binary plus (Read 0 0 2) (Read 2 0 1)))) 0) 1 1 ≡ true
through_itself = refl

not_itself : marks (wire_tree sizes marked (in_turn (set (Whole 0) (Read 1 0 2)) (set (Whole 0) (Binary plus (Read 0 0 2) (Read 2 0 1)))) 0) 0 1 ≡ false
not_itself = refl

-- r = s; r[d] = e: the index is read, and the old bits are
abbrev one_chosen : Stmt
one_chosen = in_turn (set (Whole 0) (Read 1 0 2)) (set (Pick 0 (Read 2 0 1)) (Read 3 0 1))

index_is_read : marks (wire_tree sizes marked one_chosen 0) 2 0 ≡ true
index_is_read = refl

old_is_read : marks (wire_tree sizes marked one_chosen 0) 1 1 ≡ true
old_is_read = refl

-- case (d) 1'b0: r = s; default: r = 0; endcase reads the subject
subject_is_read : marks (wire_tree sizes marked (Case (Read 2 0 1) (item (expr (Number 1 0) no_exprs) (set (Whole 0) (Read 1 0 2)) (default_item (set (Whole 0) (Number 2 0))))) 0) 2 0 ≡ true
subject_is_read = refl
