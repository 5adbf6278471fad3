-- An order of what a sketch's roots and pieces lead to.
use Rattle.std.proofs.Common.{◌≡◌, ◌∙◌, sym, ap, subst, ℕ, ◌+◌, ◌<◌, List, ◌++◌, length, take, Some, slice_get}
use Rattle.std.specs.List.{Contains}
use Rattle.cdc_base.specs.declared.signal.Signal.{Signal}
use Rattle.cdc_base.specs.declared.fault.Fault.{Fault}
use Rattle.flat_meaning.specs.Design.{Flat}
use Rattle.flat_meaning.specs.Segments.{IsLoopFree}
use Rattle.flat_meaning.specs.SignalTrees.{AreTrees}
use Rattle.flat_meaning.specs.Trees.{Selects}
use Rattle.driver_trees.specs.declared.sketch.Sketch.{Sketch}
use Rattle.driver_trees.specs.Sketches.{AreOrdered, IsSketchOf}
use Rattle.driver_loops.specs.Leads.{links_of}
use Rattle.driver_loops.specs.Orders as orders
use Rattle.driver_loops.specs.Orders.{HasLoop, IsFront, IsOrderOf}
use Rattle.loop_law.specs.Loops.{FirstLoopIsFirst, SignalsOnLoops, links}
use Rattle.elaborate.specs.Counts.{all_cells, draft_cells, root_ids}
use Rattle.elaborate.specs.Counted.{CanCount}
use Rattle.elaborate.specs.Refusals.{IsDesignOf, NamesFirstLoop, NamesPiece}
use Rattle.elaborate.specs.Lowered.{AreNeeded, EndsStandBefore}
use Rattle.elaborate.proofs.Leads.{front-ends, piece-in, root-in}
use Rattle.elaborate.proofs.Refusals.{names-first, no-loops}
use Rattle.elaborate.proofs.Roots.{needed-in, root-below, roots-cells}

-- the links of a sketch, its roots and pieces, and an order that begins with what the roots lead to
pub record IsWalked (signals : List Signal) (s : Sketch) (ls : List (List ℕ)) (roots others order : List ℕ) (count : ℕ) : Type 0 where
  pub linked : AreOrdered s.pieces.items → ls ≡ links_of signals s.drafts s.pieces.items
  pub listed : roots ≡ root_ids s
  pub pieces : (i : ℕ) → i < length s.pieces.items → slice_get others i ≡ Some (length s.drafts + i)
  pub is_order : IsOrderOf ls (roots ++ others) order
  pub front : IsFront ls roots order count

module _ (signals : List Signal) (s : Sketch) (ls : List (List ℕ)) (roots others order : List ℕ) (count : ℕ) (is : IsWalked signals s ls roots others order count)
    (f : Flat) (same : f.signals ≡ signals) (sketch : IsSketchOf f s.drafts s) where
  pub links-are : ls ≡ links_of f.signals s.drafts s.pieces.items
  links-are = is.linked sketch.ordered ∙ ap (λ ss. links_of ss s.drafts s.pieces.items) (sym same)

  pub has-pieces : (i : ℕ) → i < length s.pieces.items → Contains order (length s.drafts + i)
  has-pieces = piece-in f s.drafts s.pieces.items sketch.drafts sketch.stand roots others order (subst (λ xs. IsOrderOf xs (roots ++ others) order) links-are is.is_order) is.pieces

  pub front-has : (v : ℕ) → Contains roots v → Contains (take count order) v × (v < length s.drafts)
  front-has v given =
      let below = root-below f s.drafts s sketch v (subst (λ xs. Contains xs v) is.listed given) in
      (root-in f s.drafts s.pieces.items sketch.drafts sketch.stand roots order count v (subst (λ xs. IsFront xs roots order count) links-are is.front) given below, below)

  pub front-needed : AreNeeded s (take count order)
  front-needed = needed-in s (take count order) (λ v h. (front-has v (subst (λ xs. Contains xs v) (sym is.listed) h)).0)

  pub front-sorted : orders.EndsStandBefore ls order → EndsStandBefore f s.drafts s.pieces.items (take count order)
  front-sorted sorted =
      front-ends f s.drafts s.pieces.items sketch.drafts sketch.stand order count (subst (λ xs. orders.EndsStandBefore xs order) links-are sorted)

module _ (signals : List Signal) (s : Sketch) (ls : List (List ℕ)) (roots others order : List ℕ) (count : ℕ) (walked : IsWalked signals s ls roots others order count)
    (f : Flat) (is : IsDesignOf f signals s) where
  ls-are : ls ≡ links f s.drafts s
  ls-are = links-are signals s ls roots others order count walked f is.same is.sketch

  all-pieces : (i : ℕ) → i < length s.pieces.items → Contains order (length s.drafts + i)
  all-pieces = has-pieces signals s ls roots others order count walked f is.same is.sketch

  pub walked-free : SignalsOnLoops → (HasLoop ls order → ⊥) → IsLoopFree f
  walked-free law none = no-loops f signals s is order all-pieces law (subst (λ xs. HasLoop xs order → ⊥) ls-are none)

  pub loop-named : FirstLoopIsFirst → (fault : Fault) → NamesPiece signals s ls order fault → NamesFirstLoop f fault
  loop-named law fault told =
      names-first f signals s is order all-pieces law (roots ++ others) (subst (λ xs. IsOrderOf xs (roots ++ others) order) ls-are walked.is_order) fault
      (subst (λ xs. NamesPiece signals s xs order fault) ls-are told)

  -- what a count of the front's cells rests on, and what it is
  pub front-counted : orders.EndsStandBefore ls order → (sel : Selects) → AreTrees f sel → CanCount f sel s.drafts s signals × EndsStandBefore f s.drafts s.pieces.items (take count order)
      × ((v : ℕ) → Contains roots v → Contains (take count order) v × (v < length s.drafts)) × (draft_cells sel s.drafts roots ≡ all_cells f sel)
  front-counted sorted sel trees = (
    record { same = is.same; trees = trees; sketch = is.sketch },
    front-sorted signals s ls roots others order count walked f is.same is.sketch sorted,
    front-has signals s ls roots others order count walked f is.same is.sketch,
    ap (draft_cells sel s.drafts) walked.listed ∙ roots-cells sel s.drafts f s trees is.sketch is.registers,
  )
