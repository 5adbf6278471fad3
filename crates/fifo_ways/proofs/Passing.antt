-- Rows of cells that are judged one after the other, each after its operands.
use Rattle.std.proofs.Common.{rules, ◌≡◌, ◌⊎◌, inl, inr, ◌∙◌, sym, ap, subst, refl, arith, ℕ, zero, suc, ◌+◌, ◌<◌, Bool, true, false, nat_lt, ltb-true, ltb-false, List, [], ◌∷◌, length, map, take, get_or, Option, Some, None, slice_get, unwrap_or, option_map}
use Rattle.std.specs.List.{Contains}
use Rattle.std.specs.HashMap as hash
use Rattle.std.specs.HashMap.{HashMap}
use Rattle.std.proofs.lemmas.Option.{slice_get-map, get_or_from_slice_get, slice_get_within, slice_get-get_or}
use Rattle.std.proofs.lemmas.Bool.{both_ways}
use Rattle.std.proofs.lemmas.List.{length-map}
use Rattle.cell_graph.specs.declared.cell.CellId.{CellId}
use Rattle.cell_graph.specs.declared.cell.Node.{Node}
use Rattle.cell_graph.specs.Below.{IsOperand, IsBelow, IsClosed, AreIn, AreAscending}
use Rattle.cell_graph.specs.Cells.{Cells, cell_at, cell_width}
use Rattle.cell_graph.specs.Feeds.{node}
use Rattle.cell_graph.specs.Met.{same_id}
use Rattle.cell_graph.specs.Tree.{width, bit_at, number}
use Rattle.cell_graph.specs.Unfolded.{tree_of, IsWellFormed}
use Rattle.cell_graph.proofs.Cones.{same_id-is, take_cases, contains_get, get_contains, operand-before}
use Rattle.cell_graph.proofs.Trees.{width-tree_of}
use Rattle.cell_graph.proofs.Words.{bit-number}
use Rattle.fifo_laws.specs.Ways.{Marks, Passes}
use Rattle.gray_pointer.proofs.Trees.{tree_there, is_cell}
use Rattle.fifo_ways.specs.declared.rows.Row.{Row}
use Rattle.fifo_ways.specs.declared.sought.Sought.{Sought}
use Rattle.fifo_ways.specs.Guards.{cells_of}
use Rattle.fifo_ways.specs.Judged.{Found, judged}
use Rattle.fifo_ways.specs.Rows.{no_bits, row_at, bits_of, has}
use Rattle.fifo_ways.specs.Sought.{AreNodes, ShowsMarks, AreJudged, AreBelow, AreFound}
use Rattle.fifo_ways.proofs.Decides.{Decides, same-decides}
use Rattle.fifo_ways.proofs.Judged.{IsShown, Finds, judged-decides}

-- ---- a row that is added

module _ {S : Type 0} (rows then : HashMap CellId Row S) (id : CellId) (row : Row) (added : hash.Updates same_id rows then id (Some row)) where
  added-row : row_at then id ≡ row
  added-row = ap (λ o. unwrap_or o no_bits) added.1

  other-row : (q : CellId) → same_id id q ≡ false → row_at then q ≡ row_at rows q
  other-row q apart = ap (λ o. unwrap_or o no_bits) (added.2 q apart)

-- ---- cells that ascend

-- an item before place k is among the first k
in_front : (xs : List CellId) (a : CellId) (j k : ℕ) → j < k → slice_get xs j ≡ Some a → Contains (take k xs) a
in_front xs a j k l e = contains_get (take k xs) j a (slice_get-take xs j k l ∙ e)
  where
    slice_get-take : (xs : List CellId) (j k : ℕ) → j < k → slice_get (take k xs) j ≡ slice_get xs j
    slice_get-take [] j zero l = refl
    slice_get-take [] j (suc k) l = refl
    slice_get-take (x ∷ xs) j zero l = absurd (omega arith)
    slice_get-take (x ∷ xs) zero (suc k) l = refl
    slice_get-take (x ∷ xs) (suc j) (suc k) l = slice_get-take xs j k (omega arith)

-- an earlier cell stands before a place
pub earlier-taken : (cells : List CellId) (k : ℕ) (id a : CellId) → AreAscending cells → slice_get cells k ≡ Some id → Contains cells a → a.0 < id.0
    → Contains (take k cells) a
earlier-taken cells k id a ascending at there lt =
    let found = get_contains cells a there in go found.0 found.2 (nat_lt found.0 k) refl (nat_lt k found.0) refl
  where
    go : (j : ℕ) → slice_get cells j ≡ Some a → (b : Bool) → nat_lt j k ≡ b → (c : Bool) → nat_lt k j ≡ c → Contains (take k cells) a
    go j e true f c h = in_front cells a j k (ltb-true j k f) e
    go j e false f true h = absurd (let l = ascending k j id a (ltb-true k j h) at e in omega arith)
    go j e false f false h =
        let p = ltb-false j k f in let q = ltb-false k j h in
        let s : j ≡ k = omega arith in
        let same : a ≡ id = (let t = ap (slice_get cells) s in cc) in
        absurd (let u = ap (λ (c : CellId). c.0) same in omega arith)

-- ---- what is found on the ways from the roots

module _ (g : Cells) (well : IsWellFormed g) (roots : List Node) (s : Sought) (m : Marks) (shows : ShowsMarks g roots s m) (f : Found)
    (found : AreFound s f)
    {S : Type 0} (rows : HashMap CellId Row S) where
  -- the row of a cell says of which bits all ways pass what is looked for
  abbrev pub HasRow : CellId → Type 0
  HasRow a = IsShown g well m f (has rows) a

  finds : (id : CellId) (i : ℕ) → IsBelow g (cells_of roots) id → id.0 < length g.cells → i < cell_width g id
      → Finds g well m f (has rows) id (cell_at g id) i
  finds id i below l lt = record {
    words = λ b. same-decides (f.word b) (shows.words b) (found.words b);
    reads = same-decides (f.read (node id i)) (shows.reads (node id i) (l, lt) below) (found.reads (node id i));
    tests = λ p of. same-decides (f.test p) (shows.tests p (id, i, below, lt, of)) (found.tests p);
  }

  -- the row of a cell is right where those of its operands are
  right-row : (id : CellId) (row : Row) → IsBelow g (cells_of roots) id → id.0 < length g.cells
      → ((a : CellId) → IsOperand (cell_at g id) a → HasRow a)
      → ((b : Bool) → bits_of b row ≡ number (judged g f (has rows) b (cell_at g id) id) (cell_width g id))
      → (b : Bool) (i : ℕ) → i < cell_width g id → Decides (bit_at (bits_of b row) i) (Passes m b (tree_of g id) i)
  right-row id row below l operands is b i lt =
      let t = tree_there g well id l in
      let e : bit_at (bits_of b row) i ≡ judged g f (has rows) b (cell_at g id) id i =
      ap (λ v. bit_at v i) (is b) ∙ bit-number (judged g f (has rows) b (cell_at g id) id) (cell_width g id) i lt in
      subst (λ x. Decides x (Passes m b (tree_of g id) i)) (sym e)
      (subst (λ t. Decides (judged g f (has rows) b (cell_at g id) id i) (Passes m b t i)) (sym t)
      (judged-decides g well m f (has rows) b id (cell_at g id) i l refl (is_cell g well id l) (let w = ap width t in let v = width-tree_of g id in
      omega arith) (finds id i below l lt) operands))

-- a row that is added is right, and the others stay right
module _ (g : Cells) (well : IsWellFormed g) (roots : List Node) (s : Sought) (m : Marks) (shows : ShowsMarks g roots s m) (f : Found)
    (found : AreFound s f)
    {S : Type 0} (rows then : HashMap CellId Row S) (cells : List CellId) (are : AreBelow g roots cells) where
  pub rows-step : (k : ℕ) (d id : CellId) → k < length cells → get_or cells k d ≡ id → (row : Row)
      → ((b : Bool) → bits_of b row ≡ number (judged g f (has rows) b (cell_at g id) id) (cell_width g id))
      → hash.Updates same_id rows then id (Some row)
      → ((a : CellId) → Contains (take k cells) a → HasRow g well roots s m shows f found rows a)
      → (a : CellId) → Contains (take (k + 1) cells) a → HasRow g well roots s m shows f found then a
  rows-step k d id lt is row judged added so a there = go (same_id id a) refl
    where
      at : slice_get cells k ≡ Some id
      at = slice_get-get_or cells k d lt ∙ ap Some is

      here : Contains cells id
      here = contains_get cells k id at

      operands : (x : CellId) → IsOperand (cell_at g id) x → HasRow g well roots s m shows f found rows x
      operands x op =
          so x (earlier-taken cells k id x are.ascending at (are.closed id x here op)
          (operand-before g id.0 (cell_at g id) (is_cell g well id (are.within id here)) x op))

      old : Contains (take k cells) a ⊎ (get_or cells k d ≡ a)
      old = take_cases cells k d a lt there

      go : (b : Bool) → same_id id a ≡ b → HasRow g well roots s m shows f found then a
      go true e =
          let same = same_id-is id a e in
          subst (λ x. HasRow g well roots s m shows f found then x) same
          (λ b i l. subst (λ (r : Row). Decides (bit_at (bits_of b r) i) (Passes m b (tree_of g id) i)) (sym (added-row rows then id row added))
          (right-row g well roots s m shows f found rows id row (are.below id here) (are.within id here) operands judged b i l))
      go false e = elim old [
        | inl j ↦ λ b i l. subst (λ (r : Row). Decides (bit_at (bits_of b r) i) (Passes m b (tree_of g a) i))
            (sym (other-row rows then id row added a e)) (so a j b i l)
        | inr n ↦ absurd (both_ways (same_id id a) e (is_same id a (sym is ∙ n)))
      ]
        where
          is_same : (x y : CellId) → x ≡ y → same_id x y ≡ true
          is_same x y e = search rules

-- ---- the answers for the roots

pub roots-judged : (P : Node → Type 0) (test : Node → Bool) (nodes : List Node) (answers : List Bool) → answers ≡ map test nodes
    → ((n : Node) → Contains nodes n → Decides (test n) (P n)) → AreJudged P nodes answers
roots-judged P test nodes answers e each = (
  ap length e ∙ length-map nodes test,
  λ k n b at there.
      let f : slice_get answers k ≡ option_map test (slice_get nodes k) = ap (λ xs. slice_get xs k) e ∙ slice_get-map test nodes k in
      let g : Some b ≡ option_map test (Some n) = sym there ∙ f ∙ ap (option_map test) at in
      let same : test n ≡ b = cc in
      subst (λ x. Decides x (P n)) same (each n (k, slice_get_within nodes k n at, get_or_from_slice_get nodes k n n at)),
)

-- the cell of each node is among their cells
pub node-cell : (nodes : List Node) (n : Node) → Contains nodes n → Contains (cells_of nodes) n.cell
node-cell nodes n h =
    contains_get (cells_of nodes) h.0 n.cell
    (slice_get-map (λ (m : Node). m.cell) nodes h.0 ∙ ap (option_map (λ (m : Node). m.cell)) (slice_get-get_or nodes h.0 n h.1 ∙ ap Some h.2))

-- the cells of nodes of the graph are cells of it
pub tops-in : (g : Cells) (nodes : List Node) → AreNodes g nodes → AreIn g (cells_of nodes)
tops-in g nodes are c h =
    let at = get_contains (cells_of nodes) c h in
    go (slice_get nodes at.0) refl (sym (slice_get-map (λ (m : Node). m.cell) nodes at.0) ∙ at.2)
  where
    go : (o : Option Node) → slice_get nodes (get_contains (cells_of nodes) c h).0 ≡ o → option_map (λ (m : Node). m.cell) o ≡ Some c
        → c.0 < length g.cells
    go None e f = cc
    go (Some n) e f =
        let same : n.cell ≡ c = cc in
        let k = (get_contains (cells_of nodes) c h).0 in
        subst (λ (x : CellId). x.0 < length g.cells) same (are n (k, slice_get_within nodes k n e, get_or_from_slice_get nodes k n n e)).0

-- what a walk below the roots gives
pub are-below : (g : Cells) → IsWellFormed g → (roots : List Node) → AreNodes g roots → (tops cells order : List CellId) → tops ≡ cells_of roots
    → order ≡ cells → IsClosed g cells
    → ((c : CellId) → Contains cells c → IsBelow g tops c) → AreAscending cells → (IsWellFormed g → AreIn g tops → AreIn g cells)
    → AreBelow g roots order
are-below g well roots nodes tops cells order e f closed below ascending within = record {
  closed = subst (IsClosed g) (sym f) closed;
  below = λ x h. subst (λ ts. IsBelow g ts x) e (below x (subst (λ l. Contains l x) f h));
  ascending = subst AreAscending (sym f) ascending;
  within = subst (AreIn g) (sym f) (within well (subst (AreIn g) (sym e) (tops-in g roots nodes)));
}

-- and the cell of each root is in it
pub top-there : (roots : List Node) (tops cells order : List CellId) → tops ≡ cells_of roots → order ≡ cells
    → ((c : CellId) → Contains tops c → Contains cells c) → (c : CellId) → Contains (cells_of roots) c → Contains order c
top-there roots tops cells order e f there c h = subst (λ l. Contains l c) (sym f) (there c (subst (λ ts. Contains ts c) (sym e) h))
