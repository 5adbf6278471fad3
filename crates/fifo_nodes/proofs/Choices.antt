-- The choices on the way to what a register bit takes.
use Rattle.std.proofs.Common.{◌≡◌, ◌≢◌, ◌∙◌, sym, ap, ap₂, refl, subst, inl, inr, arith, ℕ, ◌+◌, ◌<◌, ◌≤◌, Bool, true, false}
use Rattle.std.proofs.Common.{length, Option, Some, None, option_map, List, ◌++◌, [], ◌∷◌, get_or, take}
use Rattle.std.proofs.lemmas.List.{append_assoc, append-nil, take_more}
use Rattle.std.proofs.lemmas.List.Elements.{Contains-push_cases}
use Rattle.cdc_model.proofs.Ascending.{nothing_in}
use Rattle.cdc_base.specs.declared.bit.Bit.{Bit}
use Rattle.cell_graph.specs.declared.cell.Cell.{Cell}
use Rattle.cell_graph.specs.declared.cell.Cell.TheVariants.{Mux, Shl, Shr, Concat, Slice, Extend, Reduce}
use Rattle.cell_graph.specs.declared.cell.CellId.{CellId}
use Rattle.cell_graph.specs.declared.cell.Node.{Node}
use Rattle.cell_graph.specs.declared.cell.ReduceKind.TheVariants as kind
use Rattle.cell_graph.specs.Cells.{Cells, cell_at}
use Rattle.cell_graph.specs.Feeds.{node}
use Rattle.cell_graph.specs.Origin.{const_of, origin}
use Rattle.cell_graph.specs.Tree as tree
use Rattle.cell_graph.specs.Tree.{Tree, width}
use Rattle.cell_graph.specs.Unfolded.{unfolded, trees, tree_of, bit_of, IsCellOf, IsWellFormed, IsNodeOf}
use Rattle.cell_graph.proofs.Trees.{width-tree_of}
use Rattle.fifo_terms.specs.Takes as rules
use Rattle.fifo_terms.specs.Takes.{always, and_under, by_own, is_own, taken}
use Rattle.fifo_terms.specs.Terms.{Term, terms, moved_up, moved_down}
use Rattle.gray_pointer.proofs.Trees.{tree_there, is_cell}
use Rattle.gray_pointer.specs.Words.{IsIn}
use Rattle.fifo_nodes.specs.declared.search.Asked.{Asked}
use Rattle.fifo_nodes.specs.declared.takes.Way.{Way}
use Rattle.fifo_nodes.specs.declared.term.Term.{Term as Found}
use Rattle.fifo_nodes.specs.Nodes.{IsOwn, IsOwnOrZero, origin_in, passes}
use Rattle.fifo_nodes.specs.Searches.{Searched, asked_terms, Covers}
use Rattle.fifo_nodes.specs.Takes.{AreAskedIn, condition_terms, IsTaken, IsWay, IsFollowed, taken_bit, way_by}
use Rattle.fifo_nodes.specs.Terms.{terms_at, AreTerms}
use Rattle.fifo_nodes.proofs.Origins.{none_of, origin_stops, taken_origin}
use Rattle.fifo_nodes.proofs.Searches.{covers_then}

-- an origin is its own, or the zero bit
pub own_origin : (g : Cells) (n : Node) (o : Option Node) → origin (tree_of g n.cell) n.at ≡ option_map (bit_of g) o → ((m : Node) → o ≡ Some m → IsNodeOf g m × (m.cell.0 ≤ n.cell.0)) → IsOwnOrZero g o
own_origin g n None e within = tt
own_origin g n (Some m) e within = ((within m refl).0, origin_stops (tree_of g n.cell) n.at (tree_of g m.cell) m.at e)

pub own_is_in : (g : Cells) (o : Option Node) → IsOwnOrZero g o → IsIn g o
own_is_in g None h = tt
own_is_in g (Some n) h = h.0

module _ (g : Cells) (well : IsWellFormed g) (x : Bit) where
  module _ (n : Node) (is : IsOwn g n) where
    there : tree_of g n.cell ≡ unfolded g.signals (trees g) (cell_at g n.cell)
    there = tree_there g well n.cell is.0.0

    module _ (c a b : CellId) (m : cell_at g n.cell ≡ Mux c a b) where
      e : tree_of g n.cell ≡ tree.Mux (tree_of g c) (tree_of g a) (tree_of g b)
      e = there ∙ ap (unfolded g.signals (trees g)) m

      pub mux_nodes : IsNodeOf g (node c 0) × IsNodeOf g (node a n.at) × IsNodeOf g (node b n.at)
      mux_nodes =
          let h : IsCellOf g n.cell.0 (Mux c a b) = subst (IsCellOf g n.cell.0) m (is_cell g well n.cell is.0.0) in
          let w = width-tree_of g n.cell in
          let f = ap width e in
          let u = width-tree_of g a in
          let lt = is.0.1 in
          let l = is.0.0 in
          let h0 = h.0 in
          let h1 = h.1 in
          let h2 = h.2.0 in
          let h3 = h.2.1 in
          let h4 = h.2.2 in
          (((omega arith), omega arith), ((omega arith), omega arith), ((omega arith), omega arith))

      pub mux_way : (o : Option Way) → o ≡ way_by (is_own x (origin_in g (Some (node a n.at)))) (is_own x (origin_in g (Some (node b n.at)))) (node c 0) (node a n.at) (node b n.at) → IsWay g x (Some n) o
      mux_way o h = subst (IsWay g x (Some n)) (sym h) (go (is_own x (origin (tree_of g a) n.at)) refl (is_own x (origin (tree_of g b) n.at)) refl)
        where
          takes : (p q : Bool) → is_own x (origin (tree_of g a) n.at) ≡ p → is_own x (origin (tree_of g b) n.at) ≡ q
              → taken x (tree_of g n.cell) n.at ≡ by_own p q (and_under (terms (tree_of g c) 0 false) (taken x (tree_of g b) n.at)) (and_under (terms (tree_of g c) 0 true) (taken x (tree_of g a) n.at)) (always (Some (bit_of g n)))
          takes p q i j = ap (λ t. taken x t n.at) e
              ∙ ap₂ (λ u v. by_own u v (and_under (terms (tree_of g c) 0 false) (taken x (tree_of g b) n.at)) (and_under (terms (tree_of g c) 0 true) (taken x (tree_of g a) n.at)) (always (Some (tree.Mux (tree_of g c) (tree_of g a) (tree_of g b), n.at)))) i j
              ∙ ap (λ t. by_own p q (and_under (terms (tree_of g c) 0 false) (taken x (tree_of g b) n.at)) (and_under (terms (tree_of g c) 0 true) (taken x (tree_of g a) n.at)) (always (Some (t, n.at)))) (sym e)

          go : (p : Bool) → is_own x (origin (tree_of g a) n.at) ≡ p → (q : Bool) → is_own x (origin (tree_of g b) n.at) ≡ q → IsWay g x (Some n) (way_by p q (node c 0) (node a n.at) (node b n.at))
          go true i true j = takes true true i j
          go true i false j = (takes true false i j, mux_nodes.0, mux_nodes.2)
          go false i true j = (takes false true i j, mux_nodes.0, mux_nodes.1)
          go false i false j = takes false false i j

    pub other_way : ((c a b : CellId) → cell_at g n.cell ≢ Mux c a b) → IsWay g x (Some n) None
    other_way no_mux = subst (λ t. taken x t n.at ≡ always (Some (t, n.at))) (sym there) (go (cell_at g n.cell) no_mux (subst (λ t. passes t ≡ false) there is.1))
      where
        go : (c : Cell) → ((s a b : CellId) → c ≢ Mux s a b) → passes (unfolded g.signals (trees g) c) ≡ false → taken x (unfolded g.signals (trees g) c) n.at ≡ always (Some (unfolded g.signals (trees g) c, n.at))
        go (Mux s a b) h p = absurd (h s a b refl)
        go (Concat high low) h p = absurd (cc)
        go (Slice a at w) h p = absurd (cc)
        go (Extend a w) h p = absurd (cc)
        go (Shl a by) h p =
            let t = tree.Shl (tree_of g a) (tree_of g by) in
            ap (λ o. moved_up o n.at (width (tree_of g a)) (always (Some (t, n.at))) (always None) (λ j. taken x (tree_of g a) j)) (none_of (const_of (tree_of g by)) p)
        go (Shr a by) h p =
            let t = tree.Shr (tree_of g a) (tree_of g by) in
            ap (λ o. moved_down o n.at (width (tree_of g a)) (always (Some (t, n.at))) (always None) (λ j. taken x (tree_of g a) j)) (none_of (const_of (tree_of g by)) p)
        go (Reduce kind.And a) h p = refl
        go (Reduce kind.Or a) h p = refl
        go (Reduce kind.Xor a) h p = refl
        go _ h p = refl

-- ---- the conditions of choices

pub one_more : (g : Cells) (qs : List Asked) (q : Asked) → condition_terms g (qs ++ q ∷ []) ≡ condition_terms g qs ++ asked_terms g q
one_more g [] q = append-nil (asked_terms g q)
one_more g (p ∷ qs) q =
    ap (λ ts. asked_terms g p ++ ts) (one_more g qs q) ∙ sym (append_assoc (asked_terms g p) (condition_terms g qs) (asked_terms g q))

-- no conditions have no terms
pub no_conditions : (g : Cells) (qs : List Asked) (ts : List Found) → qs ≡ [] → ts ≡ [] → AreTerms g (condition_terms g qs) ts
no_conditions g qs ts e f =
    subst (λ (xs : List Asked). AreTerms g (condition_terms g xs) ts) (sym e) (subst (AreTerms g []) (sym f)
    (record { within = λ t h. absurd (nothing_in t h); all = λ t h. absurd (nothing_in t h); only = λ t h. absurd (nothing_in t h) }))

-- one condition more is asked for
pub condition_asked : (g : Cells) (n : ℕ) (qs : List Asked) (i : ℕ) (d : Asked) → i < length qs → (old mid new : Searched)
    → Covers g n (condition_terms g (take i qs)) old mid → Covers g n (asked_terms g (get_or qs i d)) mid new
    → Covers g n (condition_terms g (take (i + 1) qs)) old new
condition_asked g n qs i d l old mid new so more =
    subst (λ ts. Covers g n ts old new) (sym (ap (condition_terms g) (take_more qs i d l) ∙ one_more g (take i qs) (get_or qs i d)))
    (covers_then g n (condition_terms g (take i qs)) (asked_terms g (get_or qs i d)) old mid new so more)

-- ---- the walk over choices

-- the conditions of the choices so far, and the node that is reached
pub record IsSoFar (g : Cells) (x : Bit) (k : rules.Taken) (reached : Option Node) (qs : List Asked) : Type 0 where
  pub takes : k ≡ and_under (condition_terms g qs) (taken_bit x (option_map (bit_of g) reached))
  pub own : IsOwnOrZero g reached
  pub within : AreAskedIn g qs

under_all : (ts us : List Term) (k : rules.Taken) → and_under ts (and_under us k) ≡ and_under (ts ++ us) k
under_all ts us k = ap (λ (l : List Term). let r : rules.Taken = record { node = k.node; under = l } in r) (sym (append_assoc ts us k.under))

abbrev asked : Way → Asked
asked w = record { node = w.cond; value = w.value }

module _ (g : Cells) (x : Bit) (k : rules.Taken) where
  pub way_begins : (n : Node) (o : Option Node) (qs : List Asked) → qs ≡ [] → k ≡ taken x (tree_of g n.cell) n.at
      → origin (tree_of g n.cell) n.at ≡ option_map (bit_of g) o → ((m : Node) → o ≡ Some m → IsNodeOf g m × (m.cell.0 ≤ n.cell.0)) → IsSoFar g x k o qs
  way_begins n o qs none e exact within = subst (IsSoFar g x k o) (sym none) (record {
    takes = e ∙ taken_origin x (tree_of g n.cell) n.at ∙ ap (taken_bit x) exact;
    own = own_origin g n o exact within;
    within = λ q h. absurd (nothing_in q h);
  })

  pub way_goes_on : (reached o : Option Node) (w : Way) (qs : List Asked) → IsSoFar g x k reached qs → IsWay g x reached (Some w)
      → origin (tree_of g w.branch.cell) w.branch.at ≡ option_map (bit_of g) o → ((m : Node) → o ≡ Some m → IsNodeOf g m × (m.cell.0 ≤ w.branch.cell.0))
      → IsSoFar g x k o (qs ++ record { node = w.cond; value = w.value } ∷ [])
  way_goes_on reached o w qs so way exact within = record {
    takes = so.takes
        ∙ ap (and_under (condition_terms g qs)) (way.0
        ∙ ap (and_under (terms_at g w.cond w.value)) (taken_origin x (tree_of g w.branch.cell) w.branch.at ∙ ap (taken_bit x) exact))
        ∙ under_all (condition_terms g qs) (terms_at g w.cond w.value) (taken_bit x (option_map (bit_of g) o))
        ∙ ap (λ ts. and_under ts (taken_bit x (option_map (bit_of g) o))) (sym (one_more g qs (asked w)));
    own = own_origin g w.branch o exact within;
    within = λ q h. elim (Contains-push_cases qs (asked w) q h) [ inl i ↦ so.within q i | inr e ↦ subst (λ (z : Asked). IsNodeOf g z.node) e way.1 ];
  }

  pub way_ends : (reached : Option Node) (qs : List Asked) → IsSoFar g x k reached qs → IsWay g x reached None → IsFollowed g k reached qs
  way_ends reached qs so way = (so.takes ∙ ap (and_under (condition_terms g qs)) way, own_is_in g reached so.own, so.within)

-- what was found of the node that is taken
pub taken_found : (g : Cells) (k : rules.Taken) (reached : Option Node) (qs : List Asked) (found : List Found)
    → IsFollowed g k reached qs → AreTerms g (condition_terms g qs) found → IsTaken g k (record { node = reached; under = found })
taken_found g k reached qs found (e, within, inside) terms =
    let all : k.under ≡ condition_terms g qs = ap (λ (t : rules.Taken). t.under) e ∙ append-nil (condition_terms g qs) in
    (ap (λ (t : rules.Taken). t.node) e, within, subst (λ (l : List Term). AreTerms g l found) (sym all) terms)
