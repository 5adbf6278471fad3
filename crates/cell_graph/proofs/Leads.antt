-- A bit that a cell passes has the origin of the bit passed.
use Rattle.std.proofs.Common.{◌≡◌, ◌∙◌, sym, ap, subst, refl, arith, ℕ, zero, suc, ◌+◌, ◌-◌, ◌*◌, ◌/◌, ◌%◌, ◌^◌, ◌<◌, ◌==◌, Bool, true, false, cond, nat_lt, Option, Some, None, slice_get, unwrap_or, ltb-true, ltb-false, lt-ltb}
use Rattle.std.proofs.lemmas.Nat.{mod-pow-add}
use Rattle.std.proofs.Math.Nat.{mod-eq_of_lt}
use Rattle.std.proofs.lemmas.Option.{slice_get_within, slice_get-get_or, unwrap_or-slice_get}
use Rattle.cell_graph.specs.declared.cell.Cell.{Cell}
use Rattle.cell_graph.specs.declared.cell.Cell.TheVariants.{Const, Shl, Shr, Concat, Slice, Extend, Reduce}
use Rattle.cell_graph.specs.declared.cell.CellId.{CellId}
use Rattle.cell_graph.specs.declared.cell.Node.{Node}
use Rattle.cell_graph.specs.declared.cell.ReduceKind.{ReduceKind}
use Rattle.cell_graph.specs.declared.cell.ReduceKind.TheVariants as kind
use Rattle.cell_graph.specs.declared.feeds.Passed.{Passed}
use Rattle.cell_graph.specs.declared.feeds.Passed.TheVariants.{Bit, Zero, Other}
use Rattle.cell_graph.specs.Tree.{Tree, width, bit_at, number}
use Rattle.cell_graph.specs.Cofactor.{on_number}
use Rattle.cell_graph.specs.Origin.{TreeBit, const_of, origin}
use Rattle.cell_graph.specs.Cells.{Cells, cell_width, cell_at}
use Rattle.cell_graph.specs.Feeds.{node, bit_or_zero, moved_up, moved_down, constant, by_constant, passed_by}
use Rattle.cell_graph.specs.Unfolded.{tree_at, unfolded, reduced, trees, tree_of, IsCellOf, IsWellFormed, IsNodeOf, bit_of}
use Rattle.cell_graph.proofs.Trees.{width-tree_of, tree_of-cell}

-- where what is passed leads to: an origin o, of a bit that is its own origin `own` where nothing is passed
abbrev pub Leads : Cells → ℕ → TreeBit → TreeBit → Passed → Type 0
Leads g n own o (Bit m) = (o ≡ origin (tree_of g m.cell) m.at) × (m.cell.0 < n) × (m.at < cell_width g m.cell)
Leads g n own o Zero = o ≡ None
Leads g n own o Other = o ≡ own

-- a number below 2 ^ w has its low w bits
number-bits : (v w : ℕ) → number (bit_at v) w ≡ v % 2 ^ w
number-bits v zero = omega arith
number-bits v (suc w) = ap (λ n. n + cond (bit_at v w) (2 ^ w) 0) (number-bits v w) ∙ go (v / 2 ^ w % 2) refl ∙ sym (ap (λ k. v % 2 ^ k) (let e : suc w ≡ 1 + w = omega arith in e) ∙ mod-pow-add v 1 w)
  where
    go : (b : ℕ) → v / 2 ^ w % 2 ≡ b → v % 2 ^ w + cond (b == 1) (2 ^ w) 0 ≡ (v / 2 ^ w % 2 ^ 1) * 2 ^ w + v % 2 ^ w
    go zero e = let f : v / 2 ^ w % 2 ^ 1 ≡ 0 = e in rw f (omega arith)
    go (suc zero) e = let f : v / 2 ^ w % 2 ^ 1 ≡ 1 = e in rw f (omega arith)
    go (suc (suc b)) e = absurd (omega arith)

const_of-reduced : (k : ReduceKind) (t : Tree) → const_of (reduced k t) ≡ None
const_of-reduced kind.And t = refl
const_of-reduced kind.Or t = refl
const_of-reduced kind.Xor t = refl

origin-reduced : (k : ReduceKind) (t : Tree) (i : ℕ) → origin (reduced k t) i ≡ Some (reduced k t, i)
origin-reduced kind.And t i = refl
origin-reduced kind.Or t i = refl
origin-reduced kind.Xor t i = refl

module _ (g : Cells) (well : IsWellFormed g) where
  constant-unfolded : (n : ℕ) (c : Cell) → IsCellOf g n c → const_of (unfolded g.signals (trees g) c) ≡ constant c
  constant-unfolded n (Const w v) h = ap Some (number-bits v w ∙ mod-eq_of_lt h.2)
  constant-unfolded n (Reduce k a) h = const_of-reduced k (tree_at (trees g) a)
  constant-unfolded n c h = refl

  -- an amount is constant where its tree is
  constant-tree : (by : CellId) (c : Cell) → slice_get g.cells by.0 ≡ Some c → const_of (tree_of g by) ≡ constant (cell_at g by)
  constant-tree by c h = ap const_of (tree_of-cell g well by c h) ∙ constant-unfolded by.0 c (well.cells by.0 c h) ∙ ap (λ o. constant (unwrap_or o (Const 1 0))) (sym h)

  leads-part : (n k : ℕ) (a : CellId) (own : TreeBit) → a.0 < n → Leads g n own (cond (nat_lt k (width (tree_of g a))) (origin (tree_of g a) k) None) (bit_or_zero g a k)
  leads-part n k a own h = rw (← width-tree_of g a) (go (nat_lt k (cell_width g a)) refl)
    where
      go : (b : Bool) → nat_lt k (cell_width g a) ≡ b → Leads g n own (cond b (origin (tree_of g a) k) None) (cond b (Bit (node a k)) Zero)
      go true e = (refl, h, ltb-true k (cell_width g a) e)
      go false e = refl

  leads-up : (n i : ℕ) (a : CellId) (own : TreeBit) (o : Option ℕ) → a.0 < n
      → Leads g n own (on_number o own (λ m. cond (nat_lt i m) None (cond (nat_lt (i - m) (width (tree_of g a))) (origin (tree_of g a) (i - m)) None))) (by_constant o (moved_up g a i))
  leads-up n i a own None h = refl
  leads-up n i a own (Some m) h = go (nat_lt i m)
    where
      go : (b : Bool) → Leads g n own (cond b None (cond (nat_lt (i - m) (width (tree_of g a))) (origin (tree_of g a) (i - m)) None)) (cond b Zero (bit_or_zero g a (i - m)))
      go true = refl
      go false = leads-part n (i - m) a own h

  leads-down : (n i : ℕ) (a : CellId) (own : TreeBit) (o : Option ℕ) → a.0 < n
      → Leads g n own (on_number o own (λ m. cond (nat_lt (i + m) (width (tree_of g a))) (origin (tree_of g a) (i + m)) None)) (by_constant o (moved_down g a i))
  leads-down n i a own None h = refl
  leads-down n i a own (Some m) h = leads-part n (i + m) a own h

  -- an earlier place has a cell
  earlier : (n : ℕ) (c : Cell) (by : CellId) → slice_get g.cells n ≡ Some c → by.0 < n → (d : Cell) × (slice_get g.cells by.0 ≡ Some d)
  earlier n c by h lt = let l = slice_get_within g.cells n c h in (cell_at g by, slice_get-get_or g.cells by.0 (Const 1 0) (omega arith) ∙ ap Some (sym (unwrap_or-slice_get g.cells by.0 (Const 1 0))))

  leads-own : (n i : ℕ) (c : Cell) → slice_get g.cells n ≡ Some c → IsCellOf g n c → i < width (unfolded g.signals (trees g) c)
      → Leads g n (Some (unfolded g.signals (trees g) c, i)) (origin (unfolded g.signals (trees g) c) i) (passed_by g c i)
  leads-own n i (Concat high low) at h lt = rw (← width-tree_of g low) (go (nat_lt i (cell_width g low)) refl)
    where
      own : TreeBit
      own = Some (unfolded g.signals (trees g) (Concat high low), i)

      go : (b : Bool) → nat_lt i (cell_width g low) ≡ b
          → Leads g n own (cond b (origin (tree_of g low) i) (origin (tree_of g high) (i - cell_width g low))) (cond b (Bit (node low i)) (Bit (node high (i - cell_width g low))))
      go true e = (refl, h.1, ltb-true i (cell_width g low) e)
      go false e = (refl, h.0, let p = ltb-false i (cell_width g low) e in let m = width-tree_of g high in let q = width-tree_of g low in omega arith)
  leads-own n i (Slice a from w) at h lt =
      let q = width-tree_of g a in
      let t : nat_lt (from + i) (width (tree_of g a)) ≡ true = lt-ltb (from + i) (width (tree_of g a)) (omega arith) in
      rw t at (leads-part n (from + i) a (Some (unfolded g.signals (trees g) (Slice a from w), i)) h.0)
  leads-own n i (Extend a w) at h lt = leads-part n i a (Some (unfolded g.signals (trees g) (Extend a w), i)) h.0
  leads-own n i (Shl a by) at h lt =
      let d = earlier n (Shl a by) by at h.1 in
      rw (← constant-tree by d.0 d.1) (leads-up n i a (Some (unfolded g.signals (trees g) (Shl a by), i)) (const_of (tree_of g by)) h.0)
  leads-own n i (Shr a by) at h lt =
      let d = earlier n (Shr a by) by at h.1 in
      rw (← constant-tree by d.0 d.1) (leads-down n i a (Some (unfolded g.signals (trees g) (Shr a by), i)) (const_of (tree_of g by)) h.0)
  leads-own n i (Reduce k a) at h lt = origin-reduced k (tree_at (trees g) a) i
  leads-own n i c at h lt = refl

  -- what a bit of a cell passes leads to its origin
  pub leads : (id : CellId) (i : ℕ) (c : Cell) → slice_get g.cells id.0 ≡ Some c → i < cell_width g id
      → Leads g id.0 (Some (tree_of g id, i)) (origin (tree_of g id) i) (passed_by g c i)
  leads id i c at lt =
      let e = tree_of-cell g well id c at in
      subst (λ t. Leads g id.0 (Some (t, i)) (origin t i) (passed_by g c i)) (sym e)
      (leads-own id.0 i c at (well.cells id.0 c at) (let w = ap width e in let v = width-tree_of g id in omega arith))

-- the three answers of `passed`, for a bit of a cell of the graph
module _ (g : Cells) (well : IsWellFormed g) (n : Node) (is : IsNodeOf g n) where
  cell-there : slice_get g.cells n.cell.0 ≡ Some (cell_at g n.cell)
  cell-there = slice_get-get_or g.cells n.cell.0 (Const 1 0) is.0 ∙ ap Some (sym (unwrap_or-slice_get g.cells n.cell.0 (Const 1 0)))

  there : Leads g n.cell.0 (Some (bit_of g n)) (origin (tree_of g n.cell) n.at) (passed_by g (cell_at g n.cell) n.at)
  there = leads g well n.cell n.at (cell_at g n.cell) cell-there is.1

  pub goes_on : (m : Node) → Bit m ≡ passed_by g (cell_at g n.cell) n.at → (origin (tree_of g n.cell) n.at ≡ origin (tree_of g m.cell) m.at) × (m.cell.0 < n.cell.0) × IsNodeOf g m
  goes_on m e =
      let l : Leads g n.cell.0 (Some (bit_of g n)) (origin (tree_of g n.cell) n.at) (Bit m) = subst (Leads g n.cell.0 (Some (bit_of g n)) (origin (tree_of g n.cell) n.at)) (sym e) there in
      (l.0, l.1, (let lt = l.1 in let h = is.0 in omega arith, l.2))

  pub is_zero : Zero ≡ passed_by g (cell_at g n.cell) n.at → origin (tree_of g n.cell) n.at ≡ None
  is_zero e = subst (Leads g n.cell.0 (Some (bit_of g n)) (origin (tree_of g n.cell) n.at)) (sym e) there

  pub is_own : Other ≡ passed_by g (cell_at g n.cell) n.at → origin (tree_of g n.cell) n.at ≡ Some (bit_of g n)
  is_own e = subst (Leads g n.cell.0 (Some (bit_of g n)) (origin (tree_of g n.cell) n.at)) (sym e) there
