-- Cells over the cells of vertices that were met.
use Rattle.std.proofs.Common.{◌≡◌, ◌≢◌, ◌∙◌, refl, sym, ap, ap₂, subst, arith, inl, inr, ℕ, ◌+◌, ◌-◌, ◌<◌, ◌≤◌, max, min, true, false, cond, ◌==◌, eq-eqb, ne_eqb, lt-ltb, le-ltb, List, [], ◌∷◌, length, Option, Some, None, slice_get, unwrap_or}
use Rattle.std.specs.Option.{option_map_or}
use Rattle.std.proofs.lemmas.Option.{slice_get_within}
use Rattle.cell_graph.specs.declared.cell.Cell.{Cell}
use Rattle.cell_graph.specs.declared.cell.Cell.TheVariants.{Var, Const, Not, And, Or, Xor, Add, Sub, Eq, Lt, Shl, Shr, Mux, Concat, Slice, Extend, Reduce}
use Rattle.cell_graph.specs.declared.cell.CellId.{CellId}
use Rattle.cell_graph.specs.Below.{IsOperand}
use Rattle.cell_graph.specs.Cells.{Cells, cell_width, width_of, widths}
use Rattle.cell_graph.specs.Nets.{IsWordOf}
use Rattle.cell_graph.specs.Tree as tree
use Rattle.cell_graph.specs.Tree.{Tree}
use Rattle.cell_graph.specs.Unfolded.{IsCellOf, reduced, tree_of, trees, unfolded}
use Rattle.flat_meaning.specs.Trees.{Selects, cut, glue}
use Rattle.flat_meaning.specs.Pieces.{Piece, join_pieces, met, whole_piece}
use Rattle.driver_trees.specs.declared.draft.Draft.{Draft}
use Rattle.driver_trees.specs.Drafts.{IsMade, draft_trees, tree_in, width_at}
use Rattle.elaborate.specs.declared.lower.Tree.{Tree as Lowered}
use Rattle.elaborate.specs.Grown.{Grows}
use Rattle.elaborate.specs.Lowered.{HasTree, IsJoined, IsJoiningBy, IsMadeOf, IsMet, cell_met, over, tree_met}

-- ---- in a later graph

module _ (g h : Cells) (grows : Grows g h) where
  pub has-kept : (made : Lowered) (t : Tree) (w : ℕ) → HasTree g made t w → HasTree h made t w
  has-kept made t w is = record { word = grows.words made.cell w is.word; tree = grows.trees made.cell is.word.0 ∙ is.tree }

  pub joined-kept : (o : Option Lowered) (t : Tree) (n : ℕ) → IsJoined g o t n → IsJoined h o t n
  joined-kept None t n is = is
  joined-kept (Some made) t n is = (is.0, has-kept made t n is.1)

  pub met-kept : (ts : List (Option Lowered)) (v : ℕ) (t : Tree) (w : ℕ) → IsMet g ts v t w → IsMet h ts v t w
  met-kept ts v t w is = record { made = is.made; found = is.found; is = has-kept is.made t w is.is }

-- what a vertex that was met answers
pub met-has : (g : Cells) (ts : List (Option Lowered)) (v : ℕ) (t : Tree) (w : ℕ) (made : Lowered) → tree_met ts v ≡ Some made → IsMet g ts v t w → HasTree g made t w
met-has g ts v t w made e is = let same : Some is.made ≡ Some made = sym is.found ∙ e in let f : is.made ≡ made = cc in subst (λ x. HasTree g x t w) f is.is

pub met-within : (g : Cells) (ts : List (Option Lowered)) (v : ℕ) (t : Tree) (w : ℕ) → IsMet g ts v t w → v < length ts
met-within g ts v t w is = go (slice_get ts v) refl is.found
  where
    go : (o : Option (Option Lowered)) → slice_get ts v ≡ o → unwrap_or o None ≡ Some is.made → v < length ts
    go (Some x) e f = slice_get_within ts v x e
    go None e f = cc

pub not-none : (g : Cells) (ts : List (Option Lowered)) (v : ℕ) (t : Tree) (w : ℕ) → tree_met ts v ≡ None → IsMet g ts v t w → ⊥
not-none g ts v t w e is = let same : Some is.made ≡ None = sym is.found ∙ e in cc

-- ---- slices and concatenations

pub cut-same : (n at w : ℕ) (t : Tree) → n ≡ w → cut n at w t ≡ t
cut-same n at w t e = ap (λ b. cond b t (tree.Slice t at w)) (eq-eqb n w e)

pub cut-other : (n at w : ℕ) (t : Tree) → n ≢ w → cut n at w t ≡ tree.Slice t at w
cut-other n at w t e = ap (λ b. cond b t (tree.Slice t at w)) (ne_eqb n w e)

pub glue-both : (m n : ℕ) (t u : Tree) → 1 ≤ m → 1 ≤ n → glue m t n u ≡ tree.Concat t u
glue-both m n t u some more =
    ap (λ b. cond b t (cond (m == 0) u (tree.Concat t u))) (ne_eqb n 0 (λ e. omega arith)) ∙ ap (λ b. cond b u (tree.Concat t u)) (ne_eqb m 0 (λ e. omega arith))

pub glue-none : (m n : ℕ) (t u : Tree) → n ≡ 0 → glue m t n u ≡ t
glue-none m n t u e = ap (λ b. cond b t (cond (m == 0) u (tree.Concat t u))) (eq-eqb n 0 e)

pub glue-low : (m n : ℕ) (t u : Tree) → m ≡ 0 → 1 ≤ n → glue m t n u ≡ u
glue-low m n t u e some =
    ap (λ b. cond b t (cond (m == 0) u (tree.Concat t u))) (ne_eqb n 0 (λ z. omega arith)) ∙ ap (λ b. cond b u (tree.Concat t u)) (eq-eqb m 0 e)

module _ (g h : Cells) (grows : Grows g h) where
  pub cut-made : (a b : Lowered) (t : Tree) (n at w : ℕ) → HasTree g a t n → n ≢ w → IsMadeOf h b.cell (Slice a.cell at w) → HasTree h b (cut n at w t) w
  cut-made a b t n at w is other made = record {
    word = (made.there, made.wide);
    tree = made.tree ∙ ap (λ x. tree.Slice x at w) (grows.trees a.cell is.word.0 ∙ is.tree) ∙ sym (cut-other n at w t other);
  }

  pub above-made : (high low both : Lowered) (t u : Tree) (m n : ℕ) → HasTree g high t m → 1 ≤ n → HasTree g low u n → 1 ≤ m → m + n ≤ 64
      → IsMadeOf h both.cell (Concat high.cell low.cell) → HasTree h both (glue m t n u) (m + n)
  above-made high low both t u m n a more b some room made =
      let p = (grows.words high.cell m a.word).1 in let q = (grows.words low.cell n b.word).1 in record {
        word = (made.there, made.wide ∙ (let e : min (cell_width h high.cell + cell_width h low.cell) 255 ≡ m + n = omega (arith, p, q, room) in e));
        tree = made.tree ∙ ap₂ tree.Concat (grows.trees high.cell a.word.0 ∙ a.tree) (grows.trees low.cell b.word.0 ∙ b.tree) ∙ sym (glue-both m n t u some more);
      }

-- ---- zeros above what was joined

pub filled-same : (g : Cells) (o : Option Lowered) (u : Tree) (n end : ℕ) → n ≡ end → IsJoined g o u n → IsJoined g o (glue (end - n) (tree.Const (end - n) 0) n u) end
filled-same g None u n end e is = sym e ∙ is
filled-same g (Some made) u n end e is = (
  (let l = is.0 in omega arith),
  record {
    word = (is.1.word.0, is.1.word.1 ∙ e);
    tree = is.1.tree ∙ sym (glue-low (end - n) n (tree.Const (end - n) 0) u (omega arith) is.0);
  },
)

-- ---- pieces

module _ (at w : ℕ) (p : Piece) (left : List Piece) where
  abbrev low : ℕ
  low = max at p.at

  abbrev high : ℕ
  high = min (at + w) (p.bits + p.at)

  abbrev part : Piece
  part = whole_piece (low - at) (high - low) (cut p.size (p.inside + (low - p.at)) (high - low) p.tree)

  met-hit : low < high → met at w (p ∷ left) ≡ part ∷ met at w left
  met-hit l = ap (λ b. cond b (part ∷ met at w left) (met at w left)) (lt-ltb low high l)

  met-missed : high ≤ low → met at w (p ∷ left) ≡ met at w left
  met-missed l = ap (λ b. cond b (part ∷ met at w left) (met at w left)) (le-ltb low high l)

  pub joining-missed : (J : Tree → ℕ → Type 0) (n : ℕ) (whole : Tree) → high ≤ low → IsJoiningBy J n (p ∷ left) at w whole → IsJoiningBy J n left at w whole
  joining-missed J n whole l is = record {
    low = is.low;
    is = is.is;
    within = is.within;
    same = is.same ∙ ap (λ ps. join_pieces n is.low ps w) (met-missed l);
  }

  -- low bits and, above them, a part that ends at the place k
  abbrev pub joined_at : (n l k i : ℕ) → Tree → Tree
  joined_at n l k i u = glue (k - l) (cut p.size i (k - l) p.tree) (l - at) (glue (l - at - n) (tree.Const (l - at - n) 0) n u)

  pub joining-hit : (J : Tree → ℕ → Type 0) (n : ℕ) (u whole : Tree) (l k i b : ℕ) → low < high → l ≡ low → k ≡ high → i ≡ p.inside + (l - p.at) → b ≡ k - at
      → whole ≡ join_pieces n u (met at w (p ∷ left)) w → J (joined_at n l k i u) (k - l + (l - at)) → IsJoiningBy J b left at w whole
  joining-hit J n u whole l k i b hit el ek ei eb same has =
      let size : k - l + (l - at) ≡ b = omega arith in record {
        low = joined_at n l k i u;
        is = subst (λ x. J (joined_at n l k i u) x) size has;
        within = omega arith;
        same = same ∙ ap (λ ps. join_pieces n u ps w) (met-hit hit)
            ∙ ap₂ (λ x y. join_pieces (y - x + (x - at)) (joined_at n x y (p.inside + (x - p.at)) u) (met at w left) w) (sym el) (sym ek)
            ∙ ap₂ (λ x y. join_pieces y (joined_at n l k x u) (met at w left) w) (sym ei) size;
      }

-- ---- cells over the cells of their operands

module _ (g : Cells) (ts : List (Option Lowered)) where
  abbrev m : CellId → CellId
  m = cell_met ts

  pub operand-at : (a : CellId) (t : Tree) (w : ℕ) → IsMet g ts a.0 t w → IsWordOf g (m a) w × (tree_of g (m a) ≡ t)
  operand-at a t w is = let e : is.made.cell ≡ m a = sym (ap (λ o. option_map_or (λ (x : Lowered). x.cell) o a) is.found) in subst (λ c. IsWordOf g c w × (tree_of g c ≡ t)) e (is.is.word, is.is.tree)

  module _ (sel : Selects) (ds : List Draft) where
    abbrev Known : CellId → Type 0
    Known a = IsMet g ts a.0 (tree_in sel ds a) (width_at ds a)

    there : (a : CellId) → Known a → (m a).0 < length g.cells
    there a k = (operand-at a (tree_in sel ds a) (width_at ds a) k).0.0

    wide : (a : CellId) → Known a → cell_width g (m a) ≡ width_at ds a
    wide a k = (operand-at a (tree_in sel ds a) (width_at ds a) k).0.1

    alike : (a b : CellId) → Known a → Known b → width_at ds a ≡ width_at ds b → ((m a).0 < length g.cells) × ((m b).0 < length g.cells) × (cell_width g (m a) ≡ cell_width g (m b))
    alike a b k l e = (there a k, there b l, wide a k ∙ e ∙ sym (wide b l))

    pub over-fits : (n w : ℕ) (c : Cell) → IsMade ds n w c → ((a : CellId) → IsOperand c a → Known a) → IsCellOf g (length g.cells) (over m c)
    over-fits n w (Var sig) is known = absurd is
    over-fits n w (Const v value) is known = (is.1, is.2, is.3)
    over-fits n w (Not a) is known = there a (known a refl)
    over-fits n w (And a b) is known = alike a b (known a (inl refl)) (known b (inr refl)) is.1.2
    over-fits n w (Or a b) is known = alike a b (known a (inl refl)) (known b (inr refl)) is.1.2
    over-fits n w (Xor a b) is known = alike a b (known a (inl refl)) (known b (inr refl)) is.1.2
    over-fits n w (Add a b) is known = alike a b (known a (inl refl)) (known b (inr refl)) is.1.2
    over-fits n w (Sub a b) is known = alike a b (known a (inl refl)) (known b (inr refl)) is.1.2
    over-fits n w (Eq a b) is known = alike a b (known a (inl refl)) (known b (inr refl)) is.1.2
    over-fits n w (Lt a b) is known = alike a b (known a (inl refl)) (known b (inr refl)) is.1.2
    over-fits n w (Shl a by) is known = (there a (known a (inl refl)), there by (known by (inr refl)))
    over-fits n w (Shr a by) is known = (there a (known a (inl refl)), there by (known by (inr refl)))
    over-fits n w (Mux c x y) is known =
        (there c (known c (inl refl)), wide c (known c (inl refl)) ∙ is.2, alike x y (known x (inr (inl refl))) (known y (inr (inr refl))) is.3.2)
    over-fits n w (Concat high low) is known =
        let p = wide high (known high (inl refl)) in let q = wide low (known low (inr refl)) in let e = is.0 in let room = is.3 in
        (there high (known high (inl refl)), there low (known low (inr refl)), omega arith)
    over-fits n w (Slice a at v) is known = let p = wide a (known a refl) in let room = is.3 in (there a (known a refl), is.2, omega arith)
    over-fits n w (Extend a v) is known = let p = wide a (known a refl) in let more = is.2 in (there a (known a refl), omega arith, is.3)
    over-fits n w (Reduce k a) is known = there a (known a refl)

    module _ (h : Cells) (grows : Grows g h) where
      at : (a : CellId) → Known a → tree_of h (m a) ≡ tree_in sel ds a
      at a k = let is = operand-at a (tree_in sel ds a) (width_at ds a) k in grows.trees (m a) is.0.0 ∙ is.1

      bits : (a : CellId) → Known a → cell_width h (m a) ≡ width_at ds a
      bits a k = (grows.words (m a) (width_at ds a) (operand-at a (tree_in sel ds a) (width_at ds a) k).0).1

      over-tree : (n w : ℕ) (c : Cell) → IsMade ds n w c → ((a : CellId) → IsOperand c a → Known a) → unfolded h.signals (trees h) (over m c) ≡ unfolded [] (draft_trees sel ds) c
      over-tree n w (Var sig) is known = absurd is
      over-tree n w (Const v value) is known = refl
      over-tree n w (Not a) is known = ap tree.Not (at a (known a refl))
      over-tree n w (And a b) is known = ap₂ tree.And (at a (known a (inl refl))) (at b (known b (inr refl)))
      over-tree n w (Or a b) is known = ap₂ tree.Or (at a (known a (inl refl))) (at b (known b (inr refl)))
      over-tree n w (Xor a b) is known = ap₂ tree.Xor (at a (known a (inl refl))) (at b (known b (inr refl)))
      over-tree n w (Add a b) is known = ap₂ tree.Add (at a (known a (inl refl))) (at b (known b (inr refl)))
      over-tree n w (Sub a b) is known = ap₂ tree.Sub (at a (known a (inl refl))) (at b (known b (inr refl)))
      over-tree n w (Eq a b) is known = ap₂ tree.Eq (at a (known a (inl refl))) (at b (known b (inr refl)))
      over-tree n w (Lt a b) is known = ap₂ tree.Lt (at a (known a (inl refl))) (at b (known b (inr refl)))
      over-tree n w (Shl a by) is known = ap₂ tree.Shl (at a (known a (inl refl))) (at by (known by (inr refl)))
      over-tree n w (Shr a by) is known = ap₂ tree.Shr (at a (known a (inl refl))) (at by (known by (inr refl)))
      over-tree n w (Mux c x y) is known =
          ap₂ (λ (p q : Tree). tree.Mux p q (tree_of h (m y))) (at c (known c (inl refl))) (at x (known x (inr (inl refl))))
          ∙ ap (λ q. tree.Mux (tree_in sel ds c) (tree_in sel ds x) q) (at y (known y (inr (inr refl))))
      over-tree n w (Concat high low) is known = ap₂ tree.Concat (at high (known high (inl refl))) (at low (known low (inr refl)))
      over-tree n w (Slice a from v) is known = ap (λ t. tree.Slice t from v) (at a (known a refl))
      over-tree n w (Extend a v) is known = ap (λ t. tree.Extend t v) (at a (known a refl))
      over-tree n w (Reduce k a) is known = ap (reduced k) (at a (known a refl))

      over-wide : (n w : ℕ) (c : Cell) → IsMade ds n w c → ((a : CellId) → IsOperand c a → Known a) → width_of h.signals (widths h.signals h.cells) (over m c) ≡ w
      over-wide n w (Var sig) is known = absurd is
      over-wide n w (Const v value) is known = sym is.0
      over-wide n w (Not a) is known = bits a (known a refl) ∙ sym is.0
      over-wide n w (And a b) is known = bits a (known a (inl refl)) ∙ sym is.0
      over-wide n w (Or a b) is known = bits a (known a (inl refl)) ∙ sym is.0
      over-wide n w (Xor a b) is known = bits a (known a (inl refl)) ∙ sym is.0
      over-wide n w (Add a b) is known = bits a (known a (inl refl)) ∙ sym is.0
      over-wide n w (Sub a b) is known = bits a (known a (inl refl)) ∙ sym is.0
      over-wide n w (Eq a b) is known = sym is.0
      over-wide n w (Lt a b) is known = sym is.0
      over-wide n w (Shl a by) is known = bits a (known a (inl refl)) ∙ sym is.0
      over-wide n w (Shr a by) is known = bits a (known a (inl refl)) ∙ sym is.0
      over-wide n w (Mux c x y) is known = bits x (known x (inr (inl refl))) ∙ sym is.0
      over-wide n w (Concat high low) is known =
          let p = bits high (known high (inl refl)) in let q = bits low (known low (inr refl)) in let e = is.0 in let room = is.3 in
          let sum : min (cell_width h (m high) + cell_width h (m low)) 255 ≡ w = omega arith in sum
      over-wide n w (Slice a from v) is known = sym is.0
      over-wide n w (Extend a v) is known = sym is.0
      over-wide n w (Reduce k a) is known = sym is.0

      -- the cell of a draft, made over those of its operands
      pub over-made : (n w : ℕ) (c : Cell) (made : Lowered) → IsMade ds n w c → ((a : CellId) → IsOperand c a → Known a) → IsMadeOf h made.cell (over m c)
          → HasTree h made (unfolded [] (draft_trees sel ds) c) w
      over-made n w c made is known new = record { word = (new.there, new.wide ∙ over-wide n w c is known); tree = new.tree ∙ over-tree n w c is known }
