-- Pieces as drivers are drafted, one after another.
use Rattle.std.proofs.Common.{◌≡◌, ℕ, ◌+◌, ◌<◌, ◌≤◌, Bool, true, false, cond, ◌&&◌, ◌||◌, ◌==◌, List, [], ◌∷◌, ◌++◌, map, All, get_or, Option, Some, None, is_some, refl, sym, ap, ap₂, subst, ◌∙◌, arith, append_assoc, append-nil, eqb-true}
use Rattle.std.specs.List.{AllByRecursion as Each}
use Rattle.std.specs.Ordering.{nat_cmp}
use Rattle.std.specs.Map.{lookup}
use Rattle.std.specs.BTreeMap.{is_at}
use Rattle.std.specs.Option.{option_map_or}
use Rattle.std.proofs.lemmas.Bool.{and_parts}
use Rattle.std.proofs.lemmas.List.Elements.{All-push, All-nil}
use Rattle.cell_graph.specs.declared.cell.CellId.{CellId}
use Rattle.cell_graph.specs.Tree.{Tree, Const, Slice}
use Rattle.flat_meaning.specs.Flat.{Target, Whole, Part, Pick, Group, Targets, no_targets, target, target_size, target_sizes, Stmt, Null, Set, If, Case, Block, Items, no_items, default_item, item, Stmts, no_stmts, stmt}
use Rattle.flat_meaning.specs.Trees.{Selects, Trees, cut}
use Rattle.flat_meaning.specs.Assigned.{Done, is_within, reaches, reach, may_assign, may_assign_in, any_may_assign, FitsTarget, FitTargets, FitsStmt, FitItems, FitStmts}
use Rattle.flat_meaning.specs.Law.{present}
use Rattle.flat_meaning.specs.Pieces as meaning
use Rattle.flat_meaning.specs.Pieces.{whole_piece, pieces, all_pieces, run_pieces, runs}
use Rattle.flat_meaning.proofs.Placed.{from_within, each_of}
use Rattle.driver_trees.specs.declared.draft.Draft.{Draft}
use Rattle.driver_trees.specs.declared.present.Present.{Present}
use Rattle.driver_trees.specs.declared.sketch.Piece.{Piece}
use Rattle.driver_trees.specs.declared.target.Put.{Put}
use Rattle.driver_trees.specs.declared.target.Spot.{Spot}
use Rattle.driver_trees.specs.declared.target.Spot.TheVariants as spot
use Rattle.driver_trees.specs.Drafts.{tree_in, width_at}
use Rattle.driver_trees.specs.Growth.{Grows}
use Rattle.driver_trees.specs.Presents.{present_of, is_target, looks, trees_of, Sees}
use Rattle.driver_trees.specs.Shares.{Share, all, bits, chosen, shares, all_shares, place_of, put_share, FitsPlace, IsPut}
use Rattle.driver_trees.specs.Sketches.{piece_of, pieces_in, IsPieceIn}
use Rattle.driver_trees.specs.Sketched.{IsIdle, Driven, ArePieces, ArePiecesWith, drafted_piece, placed_pieces, share_pieces}
use Rattle.driver_trees.proofs.Growing.{place-kept, tree-kept}
use Rattle.driver_trees.proofs.Maps.{lookup_first}
use Rattle.driver_trees.proofs.Runs.{runs_past}

-- ---- lists of pieces

pub pieces_more : (sel : Selects) (ds : List Draft) (ps qs : List Piece) (x : ℕ) → pieces_in sel ds (ps ++ qs) x ≡ pieces_in sel ds ps x ++ pieces_in sel ds qs x
pieces_more sel ds [] qs x = refl
pieces_more sel ds (p ∷ ps) qs x = go (p.sig == x) (pieces_more sel ds ps qs x)
  where
    go : (b : Bool) → pieces_in sel ds (ps ++ qs) x ≡ pieces_in sel ds ps x ++ pieces_in sel ds qs x
        → cond b (piece_of sel ds p ∷ pieces_in sel ds (ps ++ qs) x) (pieces_in sel ds (ps ++ qs) x) ≡ cond b (piece_of sel ds p ∷ pieces_in sel ds ps x) (pieces_in sel ds ps x) ++ pieces_in sel ds qs x
    go true e = ap (λ ms. piece_of sel ds p ∷ ms) e
    go false e = e

module _ {ds : List Draft} {ps : List Piece} where
  pub pieces_as : {a : Driven} (b : Driven) → ArePieces ds ps a → ((sel : Selects) (x : ℕ) → a sel x ≡ b sel x) → ArePieces ds ps b
  pieces_as b h e = record { stand = h.stand; pieces = λ sel x. h.pieces sel x ∙ e sel x }

  pub as_they_are : All (IsPieceIn ds) ps → ArePieces ds ps (λ sel x. pieces_in sel ds ps x)
  as_they_are h = record { stand = h; pieces = λ sel x. refl }

  pub no_pieces : ps ≡ [] → ArePieces ds ps (λ sel x. [])
  no_pieces e = record { stand = subst (All (IsPieceIn ds)) (sym e) (All-nil (IsPieceIn ds)); pieces = λ sel x. ap (λ l. pieces_in sel ds l x) e }

  pub pieces_push : (qs : List Piece) (p : Piece) (before one : Driven) → qs ≡ ps ++ p ∷ [] → ArePieces ds ps before → IsPieceIn ds p
      → ((sel : Selects) (x : ℕ) → cond (p.sig == x) (piece_of sel ds p ∷ []) [] ≡ one sel x) → ArePieces ds qs (λ sel x. before sel x ++ one sel x)
  pieces_push qs p before one e h is f = record {
    stand = subst (All (IsPieceIn ds)) (sym e) (All-push (IsPieceIn ds) ps p h.stand is);
    pieces = λ sel x. ap (λ l. pieces_in sel ds l x) e ∙ pieces_more sel ds ps (p ∷ []) x ∙ ap₂ (λ a b. a ++ b) (h.pieces sel x) (f sel x);
  }

  pub with_all : {before : Driven} (rest : Driven) → ArePieces ds ps before → ArePiecesWith ds ps rest (λ sel x. before sel x ++ rest sel x)
  with_all rest h = record { stand = h.stand; pieces = λ sel x. ap (λ ms. ms ++ rest sel x) (h.pieces sel x) }

  pub with_as : {rest whole : Driven} (other : Driven) → ArePiecesWith ds ps rest whole → ((sel : Selects) (x : ℕ) → whole sel x ≡ other sel x) → ArePiecesWith ds ps rest other
  with_as other h e = record { stand = h.stand; pieces = λ sel x. h.pieces sel x ∙ e sel x }

  pub with_more : {rest whole : Driven} (es : List Draft) (qs : List Piece) (one left : Driven) → ArePiecesWith ds ps rest whole → ArePieces es qs (λ sel x. pieces_in sel ds ps x ++ one sel x)
      → ((sel : Selects) (x : ℕ) → one sel x ++ left sel x ≡ rest sel x) → ArePiecesWith es qs left whole
  with_more es qs one left h k e = record {
    stand = k.stand;
    pieces = λ sel x. ap (λ ms. ms ++ left sel x) (k.pieces sel x) ∙ append_assoc (pieces_in sel ds ps x) (one sel x) (left sel x) ∙ ap (λ ms. pieces_in sel ds ps x ++ ms) (e sel x) ∙ h.pieces sel x;
  }

  pub with_none : {rest whole : Driven} → ArePiecesWith ds ps rest whole → ((sel : Selects) (x : ℕ) → rest sel x ≡ []) → ArePieces ds ps whole
  with_none h e = record { stand = h.stand; pieces = λ sel x. sym (append-nil (pieces_in sel ds ps x)) ∙ ap (λ ms. pieces_in sel ds ps x ++ ms) (sym (e sel x)) ∙ h.pieces sel x }

-- ---- drafts that grow

module _ (wid : ℕ → ℕ) (ds es : List Draft) (g : Grows wid ds es) where
  piece_grows : (p : Piece) → IsPieceIn ds p → IsPieceIn es p
  piece_grows p h = let k = place-kept ds es p.tree (width_at ds p.tree) g.longer h.0 in ((k.0, refl), h.1, subst (λ n. p.inside + p.width ≤ n) (sym k.1) h.2)

  piece_same : (sel : Selects) (p : Piece) → IsPieceIn ds p → piece_of sel es p ≡ piece_of sel ds p
  piece_same sel p h = ap₂ (λ t n. record { at = p.at; bits = p.width; tree = t; size = n; inside = p.inside }) (tree-kept sel ds es g.longer p.tree h.0.0)
      (place-kept ds es p.tree (width_at ds p.tree) g.longer h.0).1

  same_pieces : (sel : Selects) (x : ℕ) (ps : List Piece) → Each (IsPieceIn ds) ps → pieces_in sel es ps x ≡ pieces_in sel ds ps x
  same_pieces sel x [] h = refl
  same_pieces sel x (p ∷ ps) h = go (p.sig == x) (same_pieces sel x ps h.1)
    where
      go : (b : Bool) → pieces_in sel es ps x ≡ pieces_in sel ds ps x → cond b (piece_of sel es p ∷ pieces_in sel es ps x) (pieces_in sel es ps x) ≡ cond b (piece_of sel ds p ∷ pieces_in sel ds ps x) (pieces_in sel ds ps x)
      go true e = ap₂ (λ m ms. m ∷ ms) (piece_same sel p h.0) e
      go false e = e

  pub pieces_grow : (ps : List Piece) (driven : Driven) → ArePieces ds ps driven → ArePieces es ps driven
  pieces_grow ps driven h = record { stand = λ k d l. piece_grows (get_or ps k d) (h.stand k d l); pieces = λ sel x. same_pieces sel x ps (each_of (IsPieceIn ds) ps h.stand) ∙ h.pieces sel x }

-- ---- words that are assigned

pub same_eq : (k x : ℕ) → (k == x) ≡ (x == k)
same_eq k x = grind arith

module _ (wid : ℕ → ℕ) (ds : List Draft) (put : Put) (is : IsPut wid ds put) where
  drives : (sel : Selects) (at n w : ℕ) (x : ℕ) → n ≡ w → width_at ds put.tree ≡ w
      → cond (put.sig == x) (piece_of sel ds (drafted_piece put at n) ∷ []) [] ≡ cond (x == put.sig) (whole_piece at w (tree_in sel ds put.tree) ∷ []) [] ++ []
  drives sel at n w x e f =
      ap₂ (λ m k. cond (put.sig == x) (record { at = at; bits = m; tree = tree_in sel ds put.tree; size = k; inside = 0 } ∷ []) []) e f
      ∙ ap (λ b. cond b (whole_piece at w (tree_in sel ds put.tree) ∷ []) []) (same_eq put.sig x) ∙ sym (append-nil (cond (x == put.sig) (whole_piece at w (tree_in sel ds put.tree) ∷ []) []))

  at_spot : (sel : Selects) (x : ℕ) (s : Spot) → put.spot ≡ s → placed_pieces wid x put.sig (place_of sel ds s) (tree_in sel ds put.tree) ++ [] ≡ share_pieces wid x (put_share sel ds put ∷ [])
  at_spot sel x s e = ap (λ t. placed_pieces wid x put.sig (place_of sel ds t) (tree_in sel ds put.tree) ++ []) (sym e)

  fits : (s : Spot) → put.spot ≡ s → FitsPlace (wid put.sig) ds s (width_at ds put.tree)
  fits s e = subst (λ t. FitsPlace (wid put.sig) ds t (width_at ds put.tree)) e is.place

  pub whole_drives : (n : ℕ) → put.spot ≡ spot.Whole → n ≡ wid put.sig
      → IsPieceIn ds (drafted_piece put 0 n) × ((sel : Selects) (x : ℕ) → cond (put.sig == x) (piece_of sel ds (drafted_piece put 0 n) ∷ []) [] ≡ share_pieces wid x (put_share sel ds put ∷ []))
  whole_drives n e f = let p = fits spot.Whole e in
      ((is.word, (omega (arith, p.0, p.1, f)), (omega (arith, p.1, f))), λ sel x. drives sel 0 n (wid put.sig) x f p.1 ∙ at_spot sel x spot.Whole e)

  pub part_drives : (at w : ℕ) → put.spot ≡ spot.Part at w
      → IsPieceIn ds (drafted_piece put at w) × ((sel : Selects) (x : ℕ) → cond (put.sig == x) (piece_of sel ds (drafted_piece put at w) ∷ []) [] ≡ share_pieces wid x (put_share sel ds put ∷ []))
  part_drives at w e = let p = fits (spot.Part at w) e in
      ((is.word, p.1, (omega (arith, p.0))), λ sel x. drives sel at w w x refl p.0 ∙ at_spot sel x (spot.Part at w) e)

  pub none_drives : (i : CellId) → put.spot ≡ spot.Chosen i → (sel : Selects) (x : ℕ) → [] ≡ share_pieces wid x (put_share sel ds put ∷ [])
  none_drives i e sel x = at_spot sel x (spot.Chosen i) e

module _ (wid : ℕ → ℕ) (x : ℕ) where
  share_pieces_more : (ss us : List Share) → share_pieces wid x (ss ++ us) ≡ share_pieces wid x ss ++ share_pieces wid x us
  share_pieces_more [] us = refl
  share_pieces_more (s ∷ ss) us = ap (λ ms. placed_pieces wid x s.sig s.place s.word ++ ms) (share_pieces_more ss us)
      ∙ sym (append_assoc (placed_pieces wid x s.sig s.place s.word) (share_pieces wid x ss) (share_pieces wid x us))

  mutual
    pub shares_pieces : (sel : Selects) (g : Target) (t : Tree) → share_pieces wid x (shares wid sel g t) ≡ pieces wid x g t
    shares_pieces sel (Whole s) t = append-nil (cond (x == s) (whole_piece 0 (wid s) t ∷ []) [])
    shares_pieces sel (Part s at w) t = append-nil (cond (x == s) (whole_piece at w t ∷ []) [])
    shares_pieces sel (Pick s e) t = refl
    shares_pieces sel (Group gs) t = all_shares_pieces sel gs t

    all_shares_pieces : (sel : Selects) (gs : Targets) (t : Tree) → share_pieces wid x (all_shares wid sel gs t) ≡ all_pieces wid x gs t
    all_shares_pieces sel no_targets t = refl
    all_shares_pieces sel (target g gs) t =
        let u = Slice t (target_sizes wid gs) (target_size wid g) in
        share_pieces_more (shares wid sel g u) (all_shares wid sel gs t) ∙ ap₂ (λ a b. a ++ b) (shares_pieces sel g u) (all_shares_pieces sel gs t)

pub first_share : (wid : ℕ → ℕ) (x : ℕ) (s : Share) (ss : List Share) → share_pieces wid x (s ∷ []) ++ share_pieces wid x ss ≡ share_pieces wid x (s ∷ ss)
first_share wid x s ss = ap (λ ms. ms ++ share_pieces wid x ss) (append-nil (placed_pieces wid x s.sig s.place s.word))

-- ---- between processes each signal is read as it is

pub idle_sees : (wid : ℕ → ℕ) (ds : List Draft) (p : Present) → IsIdle wid p → Sees wid ds p (λ sel. sel)
idle_sees wid ds p h = record {
  words = h.words;
  widths = h.widths;
  trees = λ s id e. absurd (let f : None ≡ Some id → ⊥ = λ k. cc in f (sym (h.none s) ∙ e));
  looks = λ sel s at w l. go sel s at w p.blocking (present_of p s) (h.none s) refl;
}
  where
    go : (sel : Selects) (s at w : ℕ) (b : Bool) (o : Option CellId) → o ≡ None → present_of p s ≡ o → sel s at w ≡ cond b (present wid sel (is_target p) (trees_of sel ds p)) sel s at w
    go sel s at w true o e f = sym (ap (λ o. cond (is_some o) (cut (wid s) at w (option_map_or (tree_in sel ds) o (Const 0 0))) (sel s at w)) (f ∙ e))
    go sel s at w false o e f = refl

-- ---- the ends of processes

module _ (k v : ℕ) (left rest : List (ℕ × ℕ)) (first : left ≡ (k, v) ∷ rest) (p q : ℕ → Option CellId) (ends : (x : ℕ) → q x ≡ cond (x == k) None (p x)) where
  pub still_left : ((x : ℕ) → is_some (p x) ≡ true → is_some (lookup (is_at (nat_cmp x)) left) ≡ true) → (x : ℕ) → is_some (q x) ≡ true → is_some (lookup (is_at (nat_cmp x)) rest) ≡ true
  still_left h x e = go (x == k) (sym (ap is_some (ends x)) ∙ e) (λ s. sym (ap is_some (lookup_first x k v left rest first)) ∙ h x s)
    where
      go : (b : Bool) → is_some (cond b None (p x)) ≡ true → (is_some (p x) ≡ true → is_some (cond b (Some v) (lookup (is_at (nat_cmp x)) rest)) ≡ true) → is_some (lookup (is_at (nat_cmp x)) rest) ≡ true
      go true e f = absurd (let g : false ≡ true → ⊥ = λ k. cc in g e)
      go false e f = f e

  pub still_words : {P : ℕ → CellId → Type 0} → ((x : ℕ) (id : CellId) → p x ≡ Some id → P x id) → (x : ℕ) (id : CellId) → q x ≡ Some id → P x id
  still_words {P} h x id e = go (x == k) (sym (ends x) ∙ e)
    where
      go : (b : Bool) → cond b None (p x) ≡ Some id → P x id
      go true e = absurd (let g : None ≡ Some id → ⊥ = λ k. cc in g e)
      go false e = h x id e

  pub still_pieces : (r : ℕ → List meaning.Piece) (x : ℕ) → cond (is_some (p k) && (x == k)) (r k) [] ++ cond (is_some (q x)) (r x) [] ≡ cond (is_some (p x)) (r x) []
  still_pieces r x = ap (λ o. cond (is_some (p k) && (x == k)) (r k) [] ++ cond (is_some o) (r x) []) (ends x) ∙ go (x == k) refl
    where
      and_none : (b : Bool) → (b && false) ≡ false
      and_none true = refl
      and_none false = refl

      and_all : (b : Bool) → (b && true) ≡ b
      and_all true = refl
      and_all false = refl

      go : (b : Bool) → (x == k) ≡ b → cond (is_some (p k) && b) (r k) [] ++ cond (is_some (cond b None (p x))) (r x) [] ≡ cond (is_some (p x)) (r x) []
      go true e = append-nil (cond (is_some (p k) && true) (r k) []) ∙ ap (λ b. cond b (r k) []) (and_all (is_some (p k))) ∙ ap (λ y. cond (is_some (p y)) (r y) []) (sym (eqb-true x k e))
      go false e = ap (λ b. cond b (r k) [] ++ cond (is_some (p x)) (r x) []) (and_none (is_some (p k)))

pub none_left : (o : Option CellId) → (is_some o ≡ true → false ≡ true) → o ≡ None
none_left None h = refl
none_left (Some i) h = absurd (let f : false ≡ true → ⊥ = λ k. cc in f (h refl))

pub no_runs : (n : ℕ) (t : Tree) (p : ℕ → Bool) (m : ℕ) → ((i : ℕ) → p i ≡ false) → run_pieces n t (runs p m []) ≡ []
no_runs n t p m h = ap (run_pieces n t) (ap (λ k. runs p k []) (let e : m ≡ 0 + m = omega arith in e) ∙ runs_past p 0 m (λ i a b. h i) [])

-- ---- bits that are assigned are bits of their signals

either : {P : Type 0} (a b : Bool) → (a ≡ true → P) → (b ≡ true → P) → (a || b) ≡ true → P
either true b f g h = f refl
either false b f g h = g h

module _ (wid : ℕ → ℕ) (ok : Done → (sig at width : ℕ) → Type 0) (x i : ℕ) where
  reached : (s at w : ℕ) → at + w ≤ wid s → ((x == s) && is_within at w i) ≡ true → i < wid x
  reached s at w l h = let p = and_parts (x == s) (is_within at w i) h in let q = from_within at w i p.1 in let e = ap wid (eqb-true x s p.0) in omega (arith, l, q.1, e)

  mutual
    target_within : (d : Done) (t : Target) → FitsTarget wid ok d t → reaches wid t x i ≡ true → i < wid x
    target_within d (Whole s) f h = reached s 0 (wid s) (omega arith) h
    target_within d (Part s at w) f h = reached s at w f h
    target_within d (Pick s e) f h = reached s 0 (wid s) (omega arith) h
    target_within d (Group gs) f h = targets_within d gs f h

    targets_within : (d : Done) (gs : Targets) → FitTargets wid ok d gs → reach wid gs x i ≡ true → i < wid x
    targets_within d no_targets f h = absurd (let g : false ≡ true → ⊥ = λ k. cc in g h)
    targets_within d (target g gs) f h = either (reaches wid g x i) (reach wid gs x i) (target_within d g f.0) (targets_within d gs f.1) h

  mutual
    pub may_within : (d : Done) (s : Stmt) → FitsStmt wid ok d s → may_assign wid s x i ≡ true → i < wid x
    may_within d Null f h = absurd (let g : false ≡ true → ⊥ = λ k. cc in g h)
    may_within d (Set b t e) f h = target_within d t f.1 h
    may_within d (If c y z) f h = either (may_assign wid y x i) (may_assign wid z x i) (may_within d y f.1) (may_within d z f.2) h
    may_within d (Case e is) f h = items_within d is f.1 h
    may_within d (Block ss) f h = stmts_within d ss f h

    items_within : (d : Done) (is : Items) → FitItems wid ok d is → may_assign_in wid is x i ≡ true → i < wid x
    items_within d no_items f h = absurd (let g : false ≡ true → ⊥ = λ k. cc in g h)
    items_within d (default_item body) f h = may_within d body f h
    items_within d (item ls body rest) f h = either (may_assign wid body x i) (may_assign_in wid rest x i) (may_within d body f.1) (items_within d rest f.2) h

    stmts_within : (d : Done) (ss : Stmts) → FitStmts wid ok d ss → any_may_assign wid ss x i ≡ true → i < wid x
    stmts_within d no_stmts f h = absurd (let g : false ≡ true → ⊥ = λ k. cc in g h)
    stmts_within d (stmt s ss) f h = either (may_assign wid s x i) (any_may_assign wid ss x i) (may_within d s f.0) (stmts_within _ ss f.1) h
