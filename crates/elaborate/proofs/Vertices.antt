-- The trees of drafts and of pieces, at their places.
use Rattle.std.proofs.Common.{◌≡◌, ◌≢◌, ◌⊎◌, ◌∙◌, refl, sym, ap, ap₂, subst, arith, inl, inr, ℕ, zero, suc, ◌+◌, ◌-◌, ◌<◌, ◌≤◌, max, min, Bool, true, false, cond, ◌==◌, eq-eqb, ne_eqb, eqb-true, nat_lt, ltb-true, List, [], ◌∷◌, ◌++◌, length, drop, map, All, Option, Some, None, slice_get, unwrap_or, get_or, set}
use Rattle.std.specs.Option.{option_map_or}
use Rattle.std.specs.List.{AllWithin}
use Rattle.std.specs.List.Sorted.{IsPartitionPoint}
use Rattle.std.proofs.lemmas.Bool.{cases_Bool, false≢true, ltb-false}
use Rattle.std.proofs.lemmas.Option.{slice_get_within, slice_get-get_or, get_or_from_slice_get}
use Rattle.std.proofs.lemmas.List.Elements.{All-get_or}
use Rattle.cdc_base.specs.declared.signal.Signal.{Signal}
use Rattle.cdc_base.specs.declared.signal.SigKind.TheVariants.{Wire}
use Rattle.cell_graph.specs.declared.cell.Cell.{Cell}
use Rattle.cell_graph.specs.declared.cell.Cell.TheVariants.{Var, Const, Not, And, Or, Xor, Add, Sub, Eq, Lt, Shl, Shr, Mux, Concat, Slice, Extend, Reduce}
use Rattle.cell_graph.specs.declared.cell.CellId.{CellId}
use Rattle.cell_graph.specs.Cells.{Cells, signal_width}
use Rattle.cell_graph.specs.Tree as tree
use Rattle.cell_graph.specs.Tree.{Tree}
use Rattle.cell_graph.specs.Unfolded.{reduced, tree_at, unfolded}
use Rattle.cell_graph.proofs.Trees.{get-push_old, length-push}
use Rattle.flat_meaning.specs.Design.{Flat, kind_in, kind_is_variable, is_variable, width_in, size_in}
use Rattle.flat_meaning.specs.Trees.{Selects, cut}
use Rattle.flat_meaning.specs.SignalTrees.{AreTrees, pieces_of}
use Rattle.cell_graph.specs.Below.{IsOperand}
use Rattle.flat_meaning.specs.Pieces as meaning
use Rattle.flat_meaning.specs.Pieces.{join_pieces, met, wire_select}
use Rattle.driver_trees.specs.declared.draft.Draft.{Draft}
use Rattle.driver_trees.specs.declared.draft.Form.{Form}
use Rattle.driver_trees.specs.declared.draft.Form.TheVariants.{Read, Made}
use Rattle.driver_trees.specs.declared.sketch.Piece.{Piece}
use Rattle.driver_trees.specs.Drafts.{AreDrafts, IsMade, draft_trees, form_tree, tree_in, trees_after, width_at}
use Rattle.driver_trees.specs.Sketches.{AreOrdered, IsBefore, IsPieceIn, piece_of, pieces_in}
use Rattle.elaborate.specs.declared.lower.Tree.{Tree as Lowered}
use Rattle.elaborate.specs.Words.{as_word, word_width}
use Rattle.elaborate.specs.Grown.{Grows}
use Rattle.elaborate.specs.Lowered.{IsJoiningBy, IsTreeOf, Knows, tree_met}
use Rattle.elaborate.proofs.CellTrees.{has-kept}
use Rattle.flat_meaning.proofs.Words.{by_lt}

-- ---- lists

pub found-at : {A : Type 0} (xs : List A) (i : ℕ) (x : A) → true ≡ nat_lt i (length xs) → x ≡ get_or xs i x → slice_get xs i ≡ Some x
found-at xs i x l e = slice_get-get_or xs i x (ltb-true i (length xs) (sym l)) ∙ ap Some (sym e)

pub not-found : {A : Type 0} (xs : List A) (i : ℕ) → false ≡ nat_lt i (length xs) → length xs ≤ i
not-found xs i l = ltb-false i (length xs) (sym l)

pub all-at : {A : Type 0} (P : A → Type 0) (xs : List A) (i : ℕ) (x : A) → All P xs → slice_get xs i ≡ Some x → P x
all-at P xs i x all at = subst P (get_or_from_slice_get xs i x x at) (All-get_or P xs i x (slice_get_within xs i x at) all)

pub met-set : (ts : List (Option Lowered)) (v : ℕ) (made : Lowered) → v < length ts → tree_met (set ts v (Some made)) v ≡ Some made
met-set [] v made l = absurd (omega arith)
met-set (t ∷ ts) zero made l = refl
met-set (t ∷ ts) (suc v) made l = met-set ts v made (omega arith)

pub met-other : (ts : List (Option Lowered)) (v u : ℕ) (made : Lowered) → u ≢ v → tree_met (set ts v (Some made)) u ≡ tree_met ts u
met-other [] v u made other = refl
met-other (t ∷ ts) zero zero made other = absurd (other refl)
met-other (t ∷ ts) zero (suc u) made other = refl
met-other (t ∷ ts) (suc v) zero made other = refl
met-other (t ∷ ts) (suc v) (suc u) made other = met-other ts v u made (λ e. other (ap suc e))

-- ---- drafts

pub get-push_new : {A : Type 0} (xs : List A) (y : A) (k : ℕ) → k ≡ length xs → slice_get (xs ++ y ∷ []) k ≡ Some y
get-push_new [] y k h = ap (slice_get (y ∷ [])) h
get-push_new (x ∷ xs) y zero h = absurd (omega arith)
get-push_new (x ∷ xs) y (suc k) h = get-push_new xs y k (omega arith)

module _ (sel : Selects) where
  trees-before : (ts : List Tree) (ds : List Draft) (k : ℕ) → k < length ts → slice_get (trees_after sel ts ds) k ≡ slice_get ts k
  trees-before ts [] k l = refl
  trees-before ts (d ∷ ds) k l =
      trees-before (ts ++ form_tree sel ts d.width d.form ∷ []) ds k (let n = length-push ts (form_tree sel ts d.width d.form) in omega arith)
      ∙ get-push_old ts (form_tree sel ts d.width d.form) k l

  -- a draft's tree is made of trees that agree with the final ones at the places before it
  trees-at : (ts : List Tree) (ds : List Draft) (j k : ℕ) (d : Draft) → k ≡ length ts + j → slice_get ds j ≡ Some d
      → (xs : List Tree) × ((i : ℕ) → i < k → slice_get (trees_after sel ts ds) i ≡ slice_get xs i) × (slice_get (trees_after sel ts ds) k ≡ Some (form_tree sel xs d.width d.form))
  trees-at ts [] j k d e at = cc
  trees-at ts (x ∷ ds) zero k d e at =
      let same : x ≡ d = cc in
      let here : k ≡ length ts = omega arith in
      let n = length-push ts (form_tree sel ts x.width x.form) in (
        ts,
        λ i l. trees-before ts (x ∷ ds) i (omega arith),
        trees-before (ts ++ form_tree sel ts x.width x.form ∷ []) ds k (omega arith) ∙ get-push_new ts (form_tree sel ts x.width x.form) k here ∙ ap (λ (y : Draft). Some (form_tree sel ts y.width y.form)) same,
      )
  trees-at ts (x ∷ ds) (suc j) k d e at = trees-at (ts ++ form_tree sel ts x.width x.form ∷ []) ds j k d (let n = length-push ts (form_tree sel ts x.width x.form) in omega arith) at

module _ (ds : List Draft) (n : ℕ) (ts us : List Tree) (same : (i : ℕ) → i < n → slice_get ts i ≡ slice_get us i) where
  at : (a : CellId) → a.0 < n → tree_at ts a ≡ tree_at us a
  at a l = ap (λ o. unwrap_or o (tree.Const 1 0)) (same a.0 l)

  made-same : (w : ℕ) (c : Cell) → IsMade ds n w c → unfolded [] ts c ≡ unfolded [] us c
  made-same w (Var sig) is = absurd is
  made-same w (Const v value) is = refl
  made-same w (Not a) is = ap tree.Not (at a is.1)
  made-same w (And a b) is = ap₂ tree.And (at a is.1.0) (at b is.1.1)
  made-same w (Or a b) is = ap₂ tree.Or (at a is.1.0) (at b is.1.1)
  made-same w (Xor a b) is = ap₂ tree.Xor (at a is.1.0) (at b is.1.1)
  made-same w (Add a b) is = ap₂ tree.Add (at a is.1.0) (at b is.1.1)
  made-same w (Sub a b) is = ap₂ tree.Sub (at a is.1.0) (at b is.1.1)
  made-same w (Eq a b) is = ap₂ tree.Eq (at a is.1.0) (at b is.1.1)
  made-same w (Lt a b) is = ap₂ tree.Lt (at a is.1.0) (at b is.1.1)
  made-same w (Shl a by) is = ap₂ tree.Shl (at a is.1) (at by is.2)
  made-same w (Shr a by) is = ap₂ tree.Shr (at a is.1) (at by is.2)
  made-same w (Mux c x y) is = ap₂ (λ (p q : Tree). tree.Mux p q (tree_at ts y)) (at c is.1) (at x is.3.0) ∙ ap (λ q. tree.Mux (tree_at us c) (tree_at us x) q) (at y is.3.1)
  made-same w (Concat high low) is = ap₂ tree.Concat (at high is.1) (at low is.2)
  made-same w (Slice a from v) is = ap (λ t. tree.Slice t from v) (at a is.1)
  made-same w (Extend a v) is = ap (λ t. tree.Extend t v) (at a is.1)
  made-same w (Reduce k a) is = ap (reduced k) (at a is.1)

-- the tree of a draft, by its form
module _ (sel : Selects) (ds : List Draft) (id : CellId) (w : ℕ) where
  pub read-tree : (sig at : ℕ) (d : Draft) → slice_get ds id.0 ≡ Some d → d.form ≡ Read sig at → d.width ≡ w → tree_in sel ds id ≡ sel sig at w
  read-tree sig at d h form wide =
      let found = trees-at sel [] ds id.0 id.0 d (omega arith) h in
      ap (λ o. unwrap_or o (tree.Const 1 0)) found.2 ∙ ap₂ (λ v f. form_tree sel found.0 v f) wide form

  pub made-tree : (c : Cell) (d : Draft) → slice_get ds id.0 ≡ Some d → d.form ≡ Made c → IsMade ds id.0 w c → tree_in sel ds id ≡ unfolded [] (draft_trees sel ds) c
  made-tree c d h form is =
      let found = trees-at sel [] ds id.0 id.0 d (omega arith) h in
      ap (λ o. unwrap_or o (tree.Const 1 0)) found.2 ∙ ap (λ f. form_tree sel found.0 d.width f) form
      ∙ made-same ds id.0 found.0 (draft_trees sel ds) (λ i l. sym (found.1 i l)) w c is

pub draft-width : (ds : List Draft) (id : CellId) (d : Draft) → slice_get ds id.0 ≡ Some d → width_at ds id ≡ d.width
draft-width ds id d h = ap (λ o. option_map_or (λ (x : Draft). x.width) o 1) h

-- an operand of a draft stands before it
module _ (n : ℕ) (x : CellId) where
  one : (a : CellId) → x ≡ a → a.0 < n → x.0 < n
  one a e l = subst (λ (y : CellId). y.0 < n) (sym e) l

  two : (a b : CellId) → (x ≡ a) ⊎ (x ≡ b) → a.0 < n → b.0 < n → x.0 < n
  two a b e l m = elim e [
    | inl f ↦ one a f l
    | inr f ↦ one b f m
  ]

  pub operand-before : (ds : List Draft) (w : ℕ) (c : Cell) → IsMade ds n w c → IsOperand c x → x.0 < n
  operand-before ds w (Var sig) is e = absurd is
  operand-before ds w (Const v value) is e = absurd e
  operand-before ds w (Not a) is e = one a e is.1
  operand-before ds w (And a b) is e = two a b e is.1.0 is.1.1
  operand-before ds w (Or a b) is e = two a b e is.1.0 is.1.1
  operand-before ds w (Xor a b) is e = two a b e is.1.0 is.1.1
  operand-before ds w (Add a b) is e = two a b e is.1.0 is.1.1
  operand-before ds w (Sub a b) is e = two a b e is.1.0 is.1.1
  operand-before ds w (Eq a b) is e = two a b e is.1.0 is.1.1
  operand-before ds w (Lt a b) is e = two a b e is.1.0 is.1.1
  operand-before ds w (Shl a by) is e = two a by e is.1 is.2
  operand-before ds w (Shr a by) is e = two a by e is.1 is.2
  operand-before ds w (Mux c y z) is e = elim e [
    | inl f ↦ one c f is.1
    | inr f ↦ two y z f is.3.0 is.3.1
  ]
  operand-before ds w (Concat high low) is e = two high low e is.1 is.2
  operand-before ds w (Slice a at v) is e = one a e is.1
  operand-before ds w (Extend a v) is e = one a e is.1
  operand-before ds w (Reduce k a) is e = one a e is.1

-- ---- signals as words

pub word-wide : (ss : List Signal) (sig : ℕ) → 1 ≤ width_in ss sig → width_in ss sig ≤ 64 → signal_width (map as_word ss) sig ≡ width_in ss sig
word-wide [] sig some room = absurd (omega arith)
word-wide (s ∷ ss) zero some room = let e : word_width s.width ≡ s.width = omega arith in e
word-wide (s ∷ ss) (suc sig) some room = word-wide ss sig some room

pub word-there : (ss : List Signal) (sig : ℕ) → 1 ≤ width_in ss sig → sig < length (map as_word ss)
word-there [] sig some = absurd (omega arith)
word-there (s ∷ ss) zero some = omega arith
word-there (s ∷ ss) (suc sig) some = let l = word-there ss sig some in omega arith

pub word-kind : (ss : List Signal) (sig : ℕ) → kind_in (map as_word ss) sig ≡ kind_in ss sig
word-kind [] sig = refl
word-kind (s ∷ ss) zero = refl
word-kind (s ∷ ss) (suc sig) = word-kind ss sig

pub variable-word : (f : Flat) (words : List Signal) → words ≡ map as_word f.signals → (sig : ℕ) → kind_is_variable (kind_in words sig) ≡ is_variable f sig
variable-word f words e sig = ap (λ ss. kind_is_variable (kind_in ss sig)) e ∙ ap kind_is_variable (word-kind f.signals sig)

module _ (f : Flat) (sel : Selects) (trees : AreTrees f sel) (sig at w : ℕ) where
  pub of-variable : is_variable f sig ≡ true → sel sig at w ≡ cut (size_in f sig) at w (tree.Var sig (size_in f sig))
  of-variable e = trees sig at w ∙ ap (λ b. cond b (cut (size_in f sig) at w (tree.Var sig (size_in f sig))) (wire_select (pieces_of f sel sig) at w)) e

  pub of-wire : is_variable f sig ≡ false → sel sig at w ≡ wire_select (pieces_of f sel sig) at w
  of-wire e = trees sig at w ∙ ap (λ b. cond b (cut (size_in f sig) at w (tree.Var sig (size_in f sig))) (wire_select (pieces_of f sel sig) at w)) e

-- ---- pieces of one signal

pub ordered-at : (ps : List Piece) (i j : ℕ) (p q : Piece) → AreOrdered ps → i < j → slice_get ps i ≡ Some p → slice_get ps j ≡ Some q → IsBefore p q
ordered-at [] i j p q ordered l at to = cc
ordered-at (x ∷ ps) i zero p q ordered l at to = absurd (omega arith)
ordered-at (x ∷ ps) zero (suc j) p q ordered l at to = let e : x ≡ p = cc in subst (λ y. IsBefore y q) e (all-at (IsBefore x) ps j q ordered.0 to)
ordered-at (x ∷ ps) (suc i) (suc j) p q ordered l at to = ordered-at ps i j p q ordered.1 (omega arith) at to

module _ (sel : Selects) (ds : List Draft) (sig : ℕ) where
  others-first : (p : Piece) (ps : List Piece) → p.sig ≢ sig → pieces_in sel ds (p ∷ ps) sig ≡ pieces_in sel ds ps sig
  others-first p ps other = ap (λ b. cond b (piece_of sel ds p ∷ pieces_in sel ds ps sig) (pieces_in sel ds ps sig)) (ne_eqb p.sig sig other)

  pub own-first : (ps : List Piece) (k : ℕ) (p : Piece) → slice_get ps k ≡ Some p → p.sig ≡ sig → pieces_in sel ds (drop k ps) sig ≡ piece_of sel ds p ∷ pieces_in sel ds (drop (suc k) ps) sig
  own-first [] k p at own = cc
  own-first (x ∷ ps) zero p at own =
      let e : x ≡ p = cc in
      ap (λ b. cond b (piece_of sel ds x ∷ pieces_in sel ds ps sig) (pieces_in sel ds ps sig)) (eq-eqb x.sig sig (ap (λ (y : Piece). y.sig) e ∙ own))
      ∙ ap (λ y. piece_of sel ds y ∷ pieces_in sel ds ps sig) e
  own-first (x ∷ ps) (suc k) p at own = own-first ps k p at own

  pub skipped : (ps : List Piece) (k : ℕ) → ((i : ℕ) (p : Piece) → slice_get ps i ≡ Some p → i < k → p.sig ≢ sig) → pieces_in sel ds (drop k ps) sig ≡ pieces_in sel ds ps sig
  skipped ps zero other = refl
  skipped [] (suc k) other = refl
  skipped (x ∷ ps) (suc k) other = skipped ps k (λ i p at l. other (suc i) p at (omega arith)) ∙ sym (others-first x ps (other 0 x refl (omega arith)))

  pub none-left : (ps : List Piece) (k : ℕ) → ((i : ℕ) (p : Piece) → slice_get ps i ≡ Some p → k ≤ i → p.sig ≢ sig) → pieces_in sel ds (drop k ps) sig ≡ []
  none-left [] zero other = refl
  none-left [] (suc k) other = refl
  none-left (x ∷ ps) zero other = others-first x ps (other 0 x refl (omega arith)) ∙ none-left ps 0 (λ i p at l. other (suc i) p at (omega arith))
  none-left (x ∷ ps) (suc k) other = none-left ps k (λ i p at l. other (suc i) p at (omega arith))

-- pieces before the signal's first one and behind its last one are of other signals
within-at : {A : Type 0} (P : A → Type 0) (xs : List A) (low high i : ℕ) (x : A) → AllWithin P xs low high → slice_get xs i ≡ Some x → low ≤ i → i < high → P x
within-at P xs low high i x all at l m = subst P (get_or_from_slice_get xs i x x at) (all i x l m)

module _ (ps : List Piece) (sig first past : ℕ) (before : IsPartitionPoint (λ (p : Piece). p.sig < sig) (λ (p : Piece). sig ≤ p.sig) ps first)
    (behind : IsPartitionPoint (λ (p : Piece). p.sig ≤ sig) (λ (p : Piece). sig < p.sig) ps past) where
  pub own-between : (i : ℕ) (p : Piece) → slice_get ps i ≡ Some p → first ≤ i → i < past → p.sig ≡ sig
  own-between i p at l m =
      let a = within-at (λ (q : Piece). sig ≤ q.sig) ps first (length ps) i p before.1 at l (slice_get_within ps i p at) in
      let b = within-at (λ (q : Piece). q.sig ≤ sig) ps 0 past i p behind.0 at (omega arith) m in omega arith

  pub none-before : (i : ℕ) (p : Piece) → slice_get ps i ≡ Some p → i < first → p.sig ≢ sig
  none-before i p at l e = let a = within-at (λ (q : Piece). q.sig < sig) ps 0 first i p before.0 at (omega arith) l in absurd (omega arith)

  pub none-behind : (i : ℕ) (p : Piece) → slice_get ps i ≡ Some p → past ≤ i → p.sig ≢ sig
  none-behind i p at l e = let a = within-at (λ (q : Piece). sig < q.sig) ps past (length ps) i p behind.1 at l (slice_get_within ps i p at) in absurd (omega arith)

-- what was joined up to piece k, and that the signal's pieces from there on lie above it
pub record IsAt (sel : Selects) (ds : List Draft) (ps : List Piece) (J : Tree → ℕ → Type 0) (n sig at w k : ℕ) : Type 0 where
  pub join : IsJoiningBy J n (pieces_in sel ds (drop k ps) sig) at w (wire_select (pieces_in sel ds ps sig) at w)
  pub above : (i : ℕ) (q : Piece) → k ≤ i → slice_get ps i ≡ Some q → q.sig ≡ sig → at + n ≤ max at q.at

module _ (sel : Selects) (ds : List Draft) (ps : List Piece) (sig at w : ℕ) (J : Tree → ℕ → Type 0) where
  pub begins : J (tree.Const 0 0) 0 → (k : ℕ) → ((i : ℕ) (p : Piece) → slice_get ps i ≡ Some p → i < k → p.sig ≢ sig) → IsAt sel ds ps J 0 sig at w k
  begins is k before = record {
    join = record {
      low = tree.Const 0 0;
      is = is;
      within = omega arith;
      same = ap (λ qs. join_pieces 0 (tree.Const 0 0) (met at w qs) w) (sym (skipped sel ds sig ps k before));
    };
    above = λ i q l e own. omega arith;
  }

  -- piece k is the next one
  pub comes-next : (n k : ℕ) (p : Piece) → slice_get ps k ≡ Some p → p.sig ≡ sig → IsAt sel ds ps J n sig at w k
      → IsJoiningBy J n (piece_of sel ds p ∷ pieces_in sel ds (drop (k + 1) ps) sig) at w (wire_select (pieces_in sel ds ps sig) at w)
  comes-next n k p here own is =
      let next : suc k ≡ k + 1 = omega arith in
      subst (λ qs. IsJoiningBy J n qs at w (wire_select (pieces_in sel ds ps sig) at w))
      (own-first sel ds sig ps k p here own ∙ ap (λ j. piece_of sel ds p ∷ pieces_in sel ds (drop j ps) sig) next) is.join

  -- it was joined
  pub goes-on : (n m k : ℕ) (p : Piece) → AreOrdered ps → slice_get ps k ≡ Some p → p.sig ≡ sig → at + m ≤ max (at + n) (p.at + p.width)
      → ((i : ℕ) (q : Piece) → k ≤ i → slice_get ps i ≡ Some q → q.sig ≡ sig → at + n ≤ max at q.at)
      → IsJoiningBy J m (pieces_in sel ds (drop (k + 1) ps) sig) at w (wire_select (pieces_in sel ds ps sig) at w) → IsAt sel ds ps J m sig at w (k + 1)
  goes-on n m k p ordered here own short above join = record {
    join = join;
    above = λ i q l e same.
        let b = (ordered-at ps k i p q ordered (omega arith) here e).0 (own ∙ sym same) in
        let a = above i q (omega arith) e same in omega arith;
  }

  -- no piece of the signal is left
  pub ends : (n k : ℕ) → ((i : ℕ) (p : Piece) → slice_get ps i ≡ Some p → k ≤ i → p.sig ≢ sig) → IsAt sel ds ps J n sig at w k
      → IsJoiningBy J n [] at w (wire_select (pieces_in sel ds ps sig) at w)
  ends n k none is = subst (λ qs. IsJoiningBy J n qs at w (wire_select (pieces_in sel ds ps sig) at w)) (none-left sel ds sig ps k none) is.join

-- ---- vertices

-- the vertex was met last, or before
module _ (sel : Selects) (ds : List Draft) (ps : List Piece) (g h : Cells) (grows : Grows g h) (old new : List (Option Lowered)) (vertex : ℕ) (made : Lowered)
    (counted : length old ≡ length ds + length ps) (is : IsTreeOf sel ds ps h vertex made)
    (kept : vertex < length old → new ≡ set old vertex (Some made)) (past : length old ≤ vertex → new ≡ old) where
  met-last : Knows sel ds ps h new vertex
  met-last = record {
    draft = λ id at l. record {
      made = made;
      is = is.draft id at l;
      found = let m : vertex < length old = omega arith in ap (λ ts. tree_met ts vertex) (kept m) ∙ met-set old vertex made m;
    };
    piece = λ i p at here. record {
      made = made;
      is = is.piece i p at here;
      found = let l = slice_get_within ps i p here in let m : vertex < length old = omega arith in ap (λ ts. tree_met ts vertex) (kept m) ∙ met-set old vertex made m;
    };
  }

  met-before : (v : ℕ) → v ≢ vertex → Knows sel ds ps g old v → Knows sel ds ps h new v
  met-before v other known =
      let stays : tree_met new v ≡ tree_met old v = by_lt (λ u. tree_met new v ≡ tree_met old v) vertex (length old)
      (λ l. ap (λ ts. tree_met ts v) (kept l) ∙ met-other old vertex v made other) (λ l. ap (λ ts. tree_met ts v) (past l)) in
      record {
        draft = λ id at l. let k = known.draft id at l in record { made = k.made; found = stays ∙ k.found; is = has-kept g h grows k.made (tree_in sel ds id) (width_at ds id) k.is };
        piece = λ i p at here. let k = known.piece i p at here in record { made = k.made; found = stays ∙ k.found; is = has-kept g h grows k.made (tree_in sel ds p.tree) (width_at ds p.tree) k.is };
      }

  pub met-vertex : (v : ℕ) → (v ≡ vertex) ⊎ Knows sel ds ps g old v → Knows sel ds ps h new v
  met-vertex v (inl e) = subst (Knows sel ds ps h new) (sym e) met-last
  met-vertex v (inr known) = elim (cases_Bool (v == vertex)) [
    | inl e ↦ subst (Knows sel ds ps h new) (sym (eqb-true v vertex e)) met-last
    | inr e ↦ met-before v (λ same. false≢true (sym e ∙ eq-eqb v vertex same)) known
  ]
