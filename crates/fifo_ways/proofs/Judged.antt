-- The judgement of a bit by the bits of its operands is what its ways pass.
use Rattle.std.proofs.Common.{◌≡◌, inl, inr, ◌∙◌, ap, subst, refl, arith, ℕ, suc, ◌+◌, ◌-◌, ◌<◌, ◌≤◌, Bool, true, false, cond, ◌&&◌, nat_lt, ltb-true, ltb-false, lt-ltb, length, Option, Some, None}
use Rattle.std.proofs.Math.Nat.{mod-eq_of_lt}
use Rattle.cdc_base.specs.declared.bit.Bit.{Bit}
use Rattle.cell_graph.specs.declared.cell.Cell.{Cell}
use Rattle.cell_graph.specs.declared.cell.Cell.TheVariants.{Var, Const, Not, And, Or, Xor, Add, Sub, Eq, Lt, Shl, Shr, Mux, Concat, Slice, Extend, Reduce}
use Rattle.cell_graph.specs.declared.cell.CellId.{CellId}
use Rattle.cell_graph.specs.declared.cell.ReduceKind.{ReduceKind}
use Rattle.cell_graph.specs.declared.cell.ReduceKind.TheVariants as kind
use Rattle.cell_graph.specs.declared.feeds.Passed.TheVariants as passed
use Rattle.cell_graph.specs.Below.{IsOperand}
use Rattle.cell_graph.specs.Cells.{Cells, cell_at, cell_width}
use Rattle.cell_graph.specs.Feeds.{node, bit_or_zero, moved_up, moved_down, constant, by_constant}
use Rattle.cell_graph.specs.Origin.{const_of}
use Rattle.cell_graph.specs.Tree.{Tree, width, all_below}
use Rattle.cell_graph.specs.Unfolded.{tree_at, unfolded, reduced, trees, tree_of, IsCellOf, IsWellFormed}
use Rattle.cell_graph.proofs.Trees.{width-tree_of}
use Rattle.cell_graph.proofs.Words.{number-bits}
use Rattle.fifo_laws.specs.Ways.{Marks, Passes, Below, Into, If, MovedUp, MovedDown}
use Rattle.gray_pointer.proofs.Trees.{tree_there, is_cell}
use Rattle.fifo_ways.specs.declared.sought.Guard.{Guard}
use Rattle.fifo_ways.specs.Guards.{guard_terms, guard, IsGuardOf}
use Rattle.fifo_ways.specs.Judged.{Found, into, through, judged}
use Rattle.fifo_ways.proofs.Decides.{Decides, holds-always, both-decide, three-decide, either-decides, not-decides, into-decides, below-decides, pairs-decide}

-- a constant amount is that of its tree
const_of-reduced : (k : ReduceKind) (t : Tree) → const_of (reduced k t) ≡ None
const_of-reduced kind.And t = refl
const_of-reduced kind.Or t = refl
const_of-reduced kind.Xor t = refl

constant-unfolded : (g : Cells) (n : ℕ) (c : Cell) → IsCellOf g n c → const_of (unfolded g.signals (trees g) c) ≡ constant c
constant-unfolded g n (Const w v) h = ap Some (number-bits v w ∙ mod-eq_of_lt h.2)
constant-unfolded g n (Reduce k a) h = const_of-reduced k (tree_at (trees g) a)
constant-unfolded g n c h = refl

pub constant-tree : (g : Cells) → IsWellFormed g → (id : CellId) → id.0 < length g.cells → const_of (tree_of g id) ≡ constant (cell_at g id)
constant-tree g well id l = ap const_of (tree_there g well id l) ∙ constant-unfolded g id.0 (cell_at g id) (is_cell g well id l)

-- A fact P of bits of trees, and a test of bits of cells that decides it.
module _ (g : Cells) (P : Tree → ℕ → Type 0) (has : CellId → ℕ → Bool) where
  -- the test decides P of the bits of a cell
  abbrev pub DecidesAt : CellId → Type 0
  DecidesAt a = (i : ℕ) → i < cell_width g a → Decides (has a i) (P (tree_of g a) i)

  pub all-decide : (a : CellId) (n : ℕ) → DecidesAt a → n ≤ cell_width g a → Decides (all_below (has a) n) (Below n (λ j. P (tree_of g a) j))
  all-decide a n d l = below-decides (has a) (λ j. P (tree_of g a) j) n (λ j lt. d j (omega arith))

  pub part-decides : (a : CellId) (k : ℕ) (other : Bool) → DecidesAt a
      → Decides (through (bit_or_zero g a k) has other) (If (nat_lt k (width (tree_of g a))) (P (tree_of g a) k) (Unit {0}))
  part-decides a k other d = rw (← width-tree_of g a) (go (nat_lt k (cell_width g a)) refl)
    where
      go : (b : Bool) → nat_lt k (cell_width g a) ≡ b
          → Decides (through (cond b (passed.Bit (node a k)) passed.Zero) has other) (If b (P (tree_of g a) k) (Unit {0}))
      go true e = d k (ltb-true k (cell_width g a) e)
      go false e = holds-always tt

  pub up-decides : (a : CellId) (i : ℕ) (o : Option ℕ) (all : Type 0) (other : Bool) → DecidesAt a → Decides other all
      → Decides (through (by_constant o (moved_up g a i)) has other) (MovedUp o i (width (tree_of g a)) all (Unit {0}) (λ j. P (tree_of g a) j))
  up-decides a i None all other d e = e
  up-decides a i (Some n) all other d e = go (nat_lt i n)
    where
      go : (b : Bool) → Decides (through (cond b passed.Zero (bit_or_zero g a (i - n))) has other)
          (If b (Unit {0}) (If (nat_lt (i - n) (width (tree_of g a))) (P (tree_of g a) (i - n)) (Unit {0})))
      go true = holds-always tt
      go false = part-decides a (i - n) other d

  pub down-decides : (a : CellId) (i : ℕ) (o : Option ℕ) (all : Type 0) (other : Bool) → DecidesAt a → Decides other all
      → Decides (through (by_constant o (moved_down g a i)) has other) (MovedDown o i (width (tree_of g a)) all (Unit {0}) (λ j. P (tree_of g a) j))
  down-decides a i None all other d e = e
  down-decides a i (Some n) all other d e = part-decides a (i + n) other d

  pub joined-decides : (high low : CellId) (i : ℕ) (other : Bool) → DecidesAt high → DecidesAt low → i < cell_width g high + cell_width g low
      → Decides (through (cond (nat_lt i (cell_width g low)) (passed.Bit (node low i)) (passed.Bit (node high (i - cell_width g low)))) has other)
      (If (nat_lt i (width (tree_of g low))) (P (tree_of g low) i) (P (tree_of g high) (i - width (tree_of g low))))
  joined-decides high low i other d e lt = rw (← width-tree_of g low) (go (nat_lt i (cell_width g low)) refl)
    where
      go : (b : Bool) → nat_lt i (cell_width g low) ≡ b
          → Decides (through (cond b (passed.Bit (node low i)) (passed.Bit (node high (i - cell_width g low)))) has other)
          (If b (P (tree_of g low) i) (P (tree_of g high) (i - cell_width g low)))
      go true f = e i (ltb-true i (cell_width g low) f)
      go false f = d (i - cell_width g low) (let p = ltb-false i (cell_width g low) f in omega arith)

module _ (g : Cells) (well : IsWellFormed g) (m : Marks) (f : Found) (has : Bool → CellId → ℕ → Bool) where
  -- the bits that are kept of a cell are those of which all ways pass what is looked for
  abbrev pub IsShown : CellId → Type 0
  IsShown a = (b : Bool) → DecidesAt g (Passes m b) (has b) a

  -- what is found decides what is looked for at a cell: the words, the reads at its bits, and its guards' tests
  pub record Finds (id : CellId) (c : Cell) (i : ℕ) : Type 0 where
    pub words : (b : Bit) → Decides (f.word b) (m.word b)
    pub reads : Decides (f.read (node id i)) (m.read (tree_of g id) i)
    pub tests : (p : Guard) → IsGuardOf c i p → Decides (f.test p) (m.test (guard_terms g p))

  -- a feed behind a guard
  behind-decides : (p : Guard) → Decides (f.test p) (m.test (guard_terms g p)) → (b : Bool) (a : CellId) (j : ℕ) → IsShown a → j < cell_width g a
      → Decides (into (f.test p) (has true a j) (has b a j))
      (Into (m.test (guard_terms g p)) (Passes m true (tree_of g a) j) (Passes m b (tree_of g a) j))
  behind-decides p t b a j d l = into-decides (f.test p) (has true a j) (has b a j) t (d true j l) (d b j l)

  reduced-decides : (b : Bool) (k : ReduceKind) (a : CellId) (i : ℕ) → IsShown a
      → Decides (all_below (has b a) (cell_width g a)) (Passes m b (reduced k (tree_of g a)) i)
  reduced-decides b kind.And a i d =
      subst (λ w. Decides (all_below (has b a) (cell_width g a)) (Below w (λ j. Passes m b (tree_of g a) j))) (width-tree_of g a)
      (all-decide g (Passes m b) (has b) a (cell_width g a) (d b) (omega arith))
  reduced-decides b kind.Or a i d =
      subst (λ w. Decides (all_below (has b a) (cell_width g a)) (Below w (λ j. Passes m b (tree_of g a) j))) (width-tree_of g a)
      (all-decide g (Passes m b) (has b) a (cell_width g a) (d b) (omega arith))
  reduced-decides b kind.Xor a i d =
      subst (λ w. Decides (all_below (has b a) (cell_width g a)) (Below w (λ j. Passes m b (tree_of g a) j))) (width-tree_of g a)
      (all-decide g (Passes m b) (has b) a (cell_width g a) (d b) (omega arith))

  -- the lowest n bits of two cells
  pair-decides : (b : Bool) (x y : CellId) (n : ℕ) → IsShown x → IsShown y → n ≤ cell_width g x → n ≤ cell_width g y
      → Decides (all_below (has b x) n && all_below (has b y) n) (Below n (λ j. Passes m b (tree_of g x) j × Passes m b (tree_of g y) j))
  pair-decides b x y n d e l k =
      pairs-decide (has b x) (has b y) (λ j. Passes m b (tree_of g x) j) (λ j. Passes m b (tree_of g y) j) n (λ j lt. d b j (omega arith))
      (λ j lt. e b j (omega arith))

  -- all bits of both operands of a shift
  shift-decides : (b : Bool) (a by : CellId) → IsShown a → IsShown by
      → Decides (all_below (has b a) (cell_width g a) && all_below (has b by) (cell_width g by))
      (Below (width (tree_of g a)) (λ j. Passes m b (tree_of g a) j) × Below (width (tree_of g by)) (λ j. Passes m b (tree_of g by) j))
  shift-decides b a by d e =
      rw (← width-tree_of g a, ← width-tree_of g by) (both-decide (all_below (has b a) (cell_width g a)) (all_below (has b by) (cell_width g by))
      (all-decide g (Passes m b) (has b) a (cell_width g a) (d b) (omega arith))
      (all-decide g (Passes m b) (has b) by (cell_width g by) (e b) (omega arith)))

  -- bit i of cell number `id`, by its operands
  pub judged-decides : (b : Bool) (id : CellId) (c : Cell) (i : ℕ) → id.0 < length g.cells → cell_at g id ≡ c → IsCellOf g id.0 c
      → i < width (unfolded g.signals (trees g) c) → Finds id c i
      → ((a : CellId) → IsOperand c a → IsShown a) → Decides (judged g f has b c id i) (Passes m b (unfolded g.signals (trees g) c) i)
  judged-decides b id (Var sig) i l at h lt finds shown =
      not-decides (f.word (record { sig = sig; at = i })) (finds.words (record { sig = sig; at = i }))
  judged-decides b id (Const w v) i l at h lt finds shown = holds-always tt
  judged-decides b id (Not a) i l at h lt finds shown = shown a refl b i (let p = width-tree_of g a in omega arith)
  judged-decides b id (And x y) i l at h lt finds shown =
      let p = width-tree_of g x in let e = h.2 in
      both-decide (into (f.test (guard y i true)) (has true x i) (has b x i)) (into (f.test (guard x i true)) (has true y i) (has b y i))
      (behind-decides (guard y i true) (finds.tests (guard y i true) (inr refl)) b x i (shown x (inl refl)) (omega arith))
      (behind-decides (guard x i true) (finds.tests (guard x i true) (inl refl)) b y i (shown y (inr refl)) (omega arith))
  judged-decides b id (Or x y) i l at h lt finds shown =
      let p = width-tree_of g x in let e = h.2 in
      both-decide (into (f.test (guard y i false)) (has true x i) (has b x i)) (into (f.test (guard x i false)) (has true y i) (has b y i))
      (behind-decides (guard y i false) (finds.tests (guard y i false) (inr refl)) b x i (shown x (inl refl)) (omega arith))
      (behind-decides (guard x i false) (finds.tests (guard x i false) (inl refl)) b y i (shown y (inr refl)) (omega arith))
  judged-decides b id (Xor x y) i l at h lt finds shown =
      let p = width-tree_of g x in let e = h.2 in
      both-decide (has b x i) (has b y i) (shown x (inl refl) b i (omega arith)) (shown y (inr refl) b i (omega arith))
  judged-decides b id (Add x y) i l at h lt finds shown =
      let p = width-tree_of g x in let e = h.2 in pair-decides b x y (suc i) (shown x (inl refl)) (shown y (inr refl)) (omega arith) (omega arith)
  judged-decides b id (Sub x y) i l at h lt finds shown =
      let p = width-tree_of g x in let e = h.2 in pair-decides b x y (suc i) (shown x (inl refl)) (shown y (inr refl)) (omega arith) (omega arith)
  judged-decides b id (Eq x y) i l at h lt finds shown =
      let e = h.2 in rw (← width-tree_of g x) (pair-decides b x y (cell_width g x) (shown x (inl refl)) (shown y (inr refl)) (omega arith)
      (omega arith))
  judged-decides b id (Lt x y) i l at h lt finds shown =
      let e = h.2 in rw (← width-tree_of g x) (pair-decides b x y (cell_width g x) (shown x (inl refl)) (shown y (inr refl)) (omega arith)
      (omega arith))
  judged-decides b id (Shl a by) i l at h lt finds shown =
      let q = h.1 in rw (constant-tree g well by (omega arith))
      (up-decides g (Passes m b) (has b) a i (constant (cell_at g by)) _ _ (shown a (inl refl) b)
      (shift-decides b a by (shown a (inl refl)) (shown by (inr refl))))
  judged-decides b id (Shr a by) i l at h lt finds shown =
      let q = h.1 in rw (constant-tree g well by (omega arith))
      (down-decides g (Passes m b) (has b) a i (constant (cell_at g by)) _ _ (shown a (inl refl) b)
      (shift-decides b a by (shown a (inl refl)) (shown by (inr refl))))
  judged-decides b id (Mux c x y) i l at h lt finds shown =
      let p = width-tree_of g x in let o = h.1 in let e = h.2.2 in let t = tree_there g well id l in
      either-decides (b && f.read (node id i))
      (has b c 0 && (into (f.test (guard c 0 true)) (has true x i) (has b x i) && into (f.test (guard c 0 false)) (has true y i) (has b y i)))
      (both-decide b (f.read (node id i)) ((λ e. e), λ e. e)
      (subst (λ t. Decides (f.read (node id i)) (m.read t i)) (t ∙ ap (unfolded g.signals (trees g)) at) finds.reads))
      (three-decide (has b c 0) (into (f.test (guard c 0 true)) (has true x i) (has b x i))
      (into (f.test (guard c 0 false)) (has true y i) (has b y i))
      (shown c (inl refl) b 0 (omega arith))
      (behind-decides (guard c 0 true) (finds.tests (guard c 0 true) (inl refl)) b x i (shown x (inr (inl refl))) (omega arith))
      (behind-decides (guard c 0 false) (finds.tests (guard c 0 false) (inr refl)) b y i (shown y (inr (inr refl))) (omega arith)))
  judged-decides b id (Concat high low) i l at h lt finds shown =
      let p = width-tree_of g high in let q = width-tree_of g low in
      joined-decides g (Passes m b) (has b) high low i true (shown high (inl refl) b) (shown low (inr refl) b) (omega arith)
  judged-decides b id (Slice a from w) i l at h lt finds shown =
      let q = h.2 in let p = width-tree_of g a in
      rw (lt-ltb (from + i) (width (tree_of g a)) (omega arith)) at (part-decides g (Passes m b) (has b) a (from + i) true (shown a refl b))
  judged-decides b id (Extend a w) i l at h lt finds shown = part-decides g (Passes m b) (has b) a i true (shown a refl b)
  judged-decides b id (Reduce k a) i l at h lt finds shown = reduced-decides b k a i (shown a refl)
