-- The bits that a tree is made of: those that the expressions of its own making read. A signal's set is replaced where its tree is.
use Rattle.std.specs.Prelude.{◌≡◌, ℕ, Bool, true, false, cond, ◌&&◌, ◌||◌, ◌==◌, nat_lt}
use Rattle.flat_meaning.specs.Flat.{Expr, Number, Read, At, Unary, Binary, Choose, Gate, Join, Repeat, Exprs, no_exprs, expr, Target, Whole, Part, Pick, Group, Targets, no_targets, target, Stmt, Null, Set, If, Case, Block, Items, no_items, default_item, item, Stmts, no_stmts, stmt, case_size, assigns, case_assigns}
use Rattle.flat_meaning.specs.Full.{is_full}
use Rattle.flat_meaning.specs.Assigned.{is_within}

-- a set of bits
abbrev pub Bits : Type 0
Bits = ℕ → ℕ → Bool

abbrev pub none : Bits
none s i = false

abbrev pub union : Bits → Bits → Bits
union a b s i = a s i || b s i

-- the set of each signal's present tree
abbrev pub Deps : Type 0
Deps = ℕ → Bits

abbrev pub span : (sig at width : ℕ) → Bits
span s at w t i = (t == s) && is_within at w i

abbrev pub replace : ℕ → Bits → Deps → Deps
replace s b d x = cond (x == s) b (d x)

abbrev pub merge_deps : (ℕ → Bool) → Bits → Deps → Deps → Deps → Deps
merge_deps assigned c a b old x = cond (assigned x) (union c (union (a x) (b x))) (old x)

-- w bits are a signal's n bits, all of them
abbrev pub is_all : (n w : ℕ) → Bool
is_all n w = nat_lt 0 w && (w == n)

-- each bit of the set is one of those
abbrev pub AllIn : Bits → Bits → Type 0
AllIn good b = (s i : ℕ) → b s i ≡ true → good s i ≡ true

-- `through` tells, of the present sets, what a select reads
module _ (wid : ℕ → ℕ) (through : Deps → (sig at width : ℕ) → Bits) where
  abbrev mutual
    pub reads : Deps → Expr → Bits
    reads d (Number w n) = none
    reads d (Read s at w) = through d s at w
    reads d (At s e) = union (through d s 0 (wid s)) (reads d e)
    reads d (Unary op a) = reads d a
    reads d (Binary op a b) = union (reads d a) (reads d b)
    reads d (Choose c x y) = union (reads d c) (union (reads d x) (reads d y))
    reads d (Gate op es) = all_reads d es
    reads d (Join es) = all_reads d es
    reads d (Repeat n es) = all_reads d es

    pub all_reads : Deps → Exprs → Bits
    all_reads d no_exprs = none
    all_reads d (expr e es) = union (reads d e) (all_reads d es)

  -- an assignment to a part keeps what the rests are made of, if there are rests; r are the sets that indices read through
  abbrev mutual
    pub put_deps : (r : Deps) → Target → Bits → Deps → Deps
    put_deps r (Whole s) b d = replace s b d
    put_deps r (Part s at w) b d = replace s (cond (is_all (wid s) w) b (union b (d s))) d
    put_deps r (Pick s e) b d = replace s (union (reads r e) (union b (d s))) d
    put_deps r (Group gs) b d = puts_deps r gs b d

    pub puts_deps : (r : Deps) → Targets → Bits → Deps → Deps
    puts_deps r no_targets b d = d
    puts_deps r (target g gs) b d = puts_deps r gs b (put_deps r g b d)

  abbrev mutual
    pub deps : Stmt → Deps → Deps
    deps Null d = d
    deps (Set b t e) d = put_deps d t (reads d e) d
    deps (If c x y) d = merge_deps (λ z. assigns x z || assigns y z) (reads d c) (deps x d) (deps y d) d
    deps (Case e is) d = case_deps (is_full (case_size e is) is) (reads d e) d is d
    deps (Block ss) d = all_deps ss d

    pub case_deps : (full : Bool) → Bits → (otherwise : Deps) → Items → Deps → Deps
    case_deps full b otherwise no_items d = otherwise
    case_deps full b otherwise (default_item body) d = deps body d
    case_deps full b otherwise (item ls body rest) d = merge_deps (λ z. assigns body z || case_assigns rest z) (union b (all_reads d ls)) (deps body d)
        (case_deps full b (cond full (deps body d) otherwise) rest d) d

    pub all_deps : Stmts → Deps → Deps
    all_deps no_stmts d = d
    all_deps (stmt s ss) d = all_deps ss (deps s d)

-- a process of wires: a target read inside it is the making of its present tree; each set is empty at first
abbrev pub through_wires : (is_target : ℕ → Bool) → Deps → (sig at width : ℕ) → Bits
through_wires is_target d s at w = cond (is_target s) (d s) (span s at w)

abbrev pub wire_deps : (ℕ → ℕ) → Stmt → Deps
wire_deps wid body = deps wid (through_wires (assigns body)) body (λ x. none)
