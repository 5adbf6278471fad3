-- The walk from a node to the first of its feeds that reads b, and down to b.
use Rattle.std.proofs.Common.{◌≡◌, ◌∙◌, ◌⊎◌, inl, inr, refl, sym, ap, subst, arith, ℕ, ◌+◌, ◌<◌, ◌≤◌, Bool, true, false, cond, length, drop, append_assoc, List, [], ◌∷◌, ◌++◌, Some, None, slice_get}
use Rattle.std.specs.List.{Contains}
use Rattle.std.specs.Bool.{one_answer}
use Rattle.std.proofs.lemmas.Bool.{both_ways}
use Rattle.std.proofs.lemmas.List.{drop_more, drop_all}
use Rattle.std.proofs.lemmas.List.Elements.{Contains-append_right}
use Rattle.std.proofs.lemmas.Option.{slice_get_within, get_or_from_slice_get}
use Rattle.cdc_base.specs.declared.bit.Bit.{Bit}
use Rattle.cell_graph.specs.declared.cell.CellId.{CellId}
use Rattle.cell_graph.specs.declared.cell.Node.{Node}
use Rattle.cell_graph.specs.Cells.{Cells, cell_at}
use Rattle.cell_graph.specs.Feeds.{node, feeds_of}
use Rattle.cell_graph.specs.Tree.{bit_at}
use Rattle.cell_graph.specs.Unfolded.{IsWellFormed}
use Rattle.cell_graph.proofs.Cones.{cell-there, operand-before}
use Rattle.cdc_model.specs.Listed.{node_reads, IsFirstReading, IsNodePath, BeginsWith}
use Rattle.cdc_model.proofs.Ascending.{here, later, parts, nothing_in}
use Rattle.crossings.specs.Readings.{word_at, first_set, IsOnPath}
use Rattle.crossings.proofs.Feeding.{made-feeds, feeds-within}
use Rattle.crossings.proofs.Made.{reads-by}

-- ---- the first node of a list whose bit is set

pub set-more : (words : List ℕ) (ns : List Node) (k : ℕ) (m : Node) (v : Bool) → slice_get ns k ≡ Some m → bit_at (word_at words m.cell) m.at ≡ v
    → first_set words (drop k ns) ≡ cond v (Some m) (first_set words (drop (k + 1) ns))
set-more words ns k m v at e =
    ap (first_set words) (drop_more ns k m (slice_get_within ns k m at)) ∙ ap (λ n. first_set words (n ∷ drop (k + 1) ns)) (get_or_from_slice_get ns k m m at)
    ∙ ap (λ u. cond u (Some m) (first_set words (drop (k + 1) ns))) e

pub set-past : (words : List ℕ) (ns : List Node) (k : ℕ) → length ns ≤ k → first_set words (drop k ns) ≡ None
set-past words ns k l = ap (first_set words) (drop_all k ns l)

module _ (g : Cells) (b : Bit) (words : List ℕ) where
  abbrev AreRight : List Node → Type 0
  AreRight ns = (n : Node) → Contains ns n → bit_at (word_at words n.cell) n.at ≡ node_reads g b n

  first-reading : (ns : List Node) (m : Node) → AreRight ns → first_set words ns ≡ Some m → IsFirstReading g b ns m
  first-reading [] m right e = absurd (cc)
  first-reading (n ∷ ns) m right e = go (bit_at (word_at words n.cell) n.at) refl e (first-reading ns m (λ x i. right x (later n ns x i)))
    where
      go : (v : Bool) → bit_at (word_at words n.cell) n.at ≡ v → cond v (Some n) (first_set words ns) ≡ Some m → (first_set words ns ≡ Some m → IsFirstReading g b ns m) → IsFirstReading g b (n ∷ ns) m
      go true t k later-on =
          let is : n ≡ m = cc in
          ([], ns, ap (λ x. x ∷ ns) is, subst (λ x. node_reads g b x ≡ true) is (sym (right n (here n ns)) ∙ t), λ x i r. nothing_in x i)
      go false t k later-on =
          let rest = later-on k in (
            n ∷ rest.0,
            rest.1,
            ap (λ xs. n ∷ xs) rest.2,
            rest.3,
            λ x i r. elim (parts n rest.0 x i) [
              | inl same ↦ both_ways (node_reads g b n) (sym (right n (here n ns)) ∙ t) (subst (λ y. node_reads g b y ≡ true) (sym same) r)
              | inr j ↦ rest.4 x j r
            ],
          )

  none-reads : (ns : List Node) → AreRight ns → first_set words ns ≡ None → (m : Node) → Contains ns m → node_reads g b m ≡ false
  none-reads [] right e m h = absurd (nothing_in m h)
  none-reads (n ∷ ns) right e m h = go (bit_at (word_at words n.cell) n.at) refl e (λ k. none-reads ns (λ x j. right x (later n ns x j)) k m)
    where
      go : (v : Bool) → bit_at (word_at words n.cell) n.at ≡ v → cond v (Some n) (first_set words ns) ≡ None → (first_set words ns ≡ None → Contains ns m → node_reads g b m ≡ false)
          → node_reads g b m ≡ false
      go true t k later-on = absurd (cc)
      go false t k later-on = elim (parts n ns m h) [
        | inl same ↦ subst (λ x. node_reads g b x ≡ false) same (sym (right n (here n ns)) ∙ t)
        | inr i ↦ later-on k i
      ]

-- ---- one step of the walk

module _ (g : Cells) (well : IsWellFormed g) (b : Bit) (words : List ℕ) (cells : List CellId) (n : Node) (on : IsOnPath g b words cells n) where
  abbrev Feeds : List Node
  Feeds = feeds_of g (cell_at g n.cell) n.at

  feed-before : (m : Node) → Contains Feeds m → m.cell.0 < n.cell.0
  feed-before m h =
      operand-before g n.cell.0 (cell_at g n.cell) (well.cells n.cell.0 (cell_at g n.cell) (cell-there g n.cell on.node.0)) m.cell (feeds-within g well n.cell on.node.0 n.at on.node.1 m h).0

  right : (m : Node) → Contains Feeds m → bit_at (word_at words m.cell) m.at ≡ node_reads g b m
  right m h =
      let f = feeds-within g well n.cell on.node.0 n.at on.node.1 m h in
      one_answer (bit_at (word_at words m.cell) m.at) (node_reads g b m) (on.shown m.cell (on.closed n.cell m.cell on.there f.0) m.at) (λ r. (f.1, r), λ p. p.1)

  first-in : (m : Node) → IsFirstReading g b Feeds m → Contains Feeds m
  first-in m r = subst (λ ns. Contains ns m) (sym r.2) (Contains-append_right r.0 (m ∷ r.1) m (here m r.1))

  pub next-reads : (m : Node) → first_set words Feeds ≡ Some m → IsFirstReading g b Feeds m
  next-reads m e = first-reading g b words Feeds m right e

  pub next-before : (m : Node) → first_set words Feeds ≡ Some m → m.cell.0 < n.cell.0
  next-before m e = feed-before m (first-in m (next-reads m e))

  pub next-on : (m : Node) → first_set words Feeds ≡ Some m → IsOnPath g b words cells m
  next-on m e =
      let r = next-reads m e in
      let h = first-in m r in
      let f = feeds-within g well n.cell on.node.0 n.at on.node.1 m h in
      record {
        closed = on.closed;
        shown = on.shown;
        there = on.closed n.cell m.cell on.there f.0;
        node = (let l = feed-before m h in let k = on.node.0 in omega arith, f.1);
        reads = r.3;
      }

  -- where no feed reads b, or none can stand below, the node is that of b
  pub ends : (first_set words Feeds ≡ None) ⊎ (n.cell.0 ≡ 0) → IsNodePath g b (n ∷ [])
  ends none = elim (reads-by g well b n.cell on.node.0 n.at on.node.1 on.reads) [
    | inl s ↦ (s.0, s.1)
    | inr f ↦ absurd (no-feed none (node f.0 f.1) (made-feeds g well n.cell on.node.0 n.at f.0 f.1 f.2 f.3) f.4)
  ]
    where
      no-feed : (first_set words Feeds ≡ None) ⊎ (n.cell.0 ≡ 0) → (m : Node) → Contains Feeds m → node_reads g b m ≡ true → ⊥
      no-feed (inl e) m h r = both_ways (node_reads g b m) (none-reads g b words Feeds right e m h) r
      no-feed (inr e) m h r = let l = feed-before m h in omega arith

-- ---- the path so far

-- a path from the node in hand goes on from the nodes before it
abbrev pub GoesOn : Cells → Bit → Node → List Node → Type 0
GoesOn g b n path = (ns : List Node) → IsNodePath g b (n ∷ ns) → IsNodePath g b (path ++ ns)

pub goes-on : (g : Cells) (b : Bit) (n m : Node) (old new : List Node) → new ≡ old ++ m ∷ [] → IsFirstReading g b (feeds_of g (cell_at g n.cell) n.at) m → GoesOn g b n old → GoesOn g b m new
goes-on g b n m old new e r on ns p = subst (IsNodePath g b) (sym (ap (λ xs. xs ++ ns) e ∙ append_assoc old (m ∷ []) ns)) (on (m ∷ ns) (r, p))

pub begins-more : (start m : Node) (old new : List Node) → new ≡ old ++ m ∷ [] → BeginsWith start old → BeginsWith start new
begins-more start m old new e h = (h.0 ++ m ∷ [], e ∙ ap (λ xs. xs ++ m ∷ []) h.1)
