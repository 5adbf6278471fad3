-- An assignment is what the words of its parts make, one after another.
use Rattle.std.proofs.Common.{◌≡◌, ℕ, Bool, false, cond, ◌||◌, ◌==◌, List, [], ◌∷◌, ◌++◌, map, All, length, get_or, zero, suc, ◌+◌, ◌<◌, ◌≤◌, ◌^◌, ◌&&◌, max, true, refl, sym, ap, ap₂, subst, ◌∙◌, arith, append_assoc}
use Rattle.std.proofs.Common.{eq-eqb}
use Rattle.std.proofs.lemmas.Bool.{and_parts}
use Rattle.std.proofs.lemmas.List.Elements.{All-push}
use Rattle.flat_form.specs.declared.flat.FExpr.{FExpr}
use Rattle.flat_form.specs.declared.flat.FTarget.{FTarget}
use Rattle.flat_form.specs.declared.flat.FTarget.TheVariants as v
use Rattle.flat_form.specs.View.{target_of, targets_of}
use Rattle.flat_form.specs.Sizes.{target_kept, sum, all_right, is_word, is_sized}
use Rattle.flat_form.proofs.Folds.{target_of-At, target_kept-At, target_of-Join, target_kept-Join}
use Rattle.flat_form.proofs.Sized.{word_width}
use Rattle.flat_meaning.specs.Assigned.{FitsTarget, FitTargets}
use Rattle.driver_trees.specs.declared.draft.Draft.{Draft}
use Rattle.driver_trees.specs.declared.target.Put.{Put}
use Rattle.driver_trees.specs.declared.target.Spot.{Spot}
use Rattle.driver_trees.specs.declared.target.Spot.TheVariants as spot
use Rattle.driver_trees.specs.Drafts.{width_at}
use Rattle.driver_trees.specs.Growth.{Grows}
use Rattle.driver_trees.specs.Presents.{IsWithin, IsRead}
use Rattle.driver_trees.proofs.Growing.{place-kept, tree-kept}
use Rattle.cell_graph.specs.Tree.{Tree, Slice}
use Rattle.flat_meaning.specs.Flat.{Target, Whole, Part, Pick, Group, Targets, no_targets, target, size, target_size, target_sizes, is_target, are_targets}
use Rattle.flat_meaning.specs.Trees.{Selects, Trees, tree, change_tree, put_tree, put_trees}
use Rattle.flat_meaning.specs.Pieces.{Piece, whole_piece, pieces, all_pieces}
use Rattle.driver_trees.specs.Shares.{Place, all, bits, chosen, Share, share_of, placed_tree, shares, all_shares, share_tree, share_trees, has_share, put_share, place_of, FitsPlace, IsPut, ArePuts, IsPlaced}

or_more : (a b c : Bool) → (a || (b || c)) ≡ ((a || b) || c)
or_more true b c = refl
or_more false b c = refl

pub has_more : (ss us : List Share) (x : ℕ) → has_share (ss ++ us) x ≡ (has_share ss x || has_share us x)
has_more [] us x = refl
has_more (s ∷ ss) us x = ap (λ b. (x == s.sig) || b) (has_more ss us x) ∙ or_more (x == s.sig) (has_share ss x) (has_share us x)

or_last : (a : Bool) → (a || false) ≡ a
or_last true = refl
or_last false = refl

module _ (wid : ℕ → ℕ) where
  pub trees_more : (ss us : List Share) (ts : Trees) → share_trees wid (ss ++ us) ts ≡ share_trees wid us (share_trees wid ss ts)
  trees_more [] us ts = refl
  trees_more (s ∷ ss) us ts = trees_more ss us (share_tree wid s ts)

  module _ (sel : Selects) where
    mutual
      pub shares_put : (g : Target) (t : Tree) (ts : Trees) → share_trees wid (shares wid sel g t) ts ≡ put_tree wid sel g t ts
      shares_put (Whole s) t ts = refl
      shares_put (Part s at w) t ts = refl
      shares_put (Pick s e) t ts = refl
      shares_put (Group gs) t ts = all_shares_put gs t ts

      pub all_shares_put : (gs : Targets) (t : Tree) (ts : Trees) → share_trees wid (all_shares wid sel gs t) ts ≡ put_trees wid sel gs t ts
      all_shares_put no_targets t ts = refl
      all_shares_put (target g gs) t ts =
          let u = Slice t (target_sizes wid gs) (target_size wid g) in
          trees_more (shares wid sel g u) (all_shares wid sel gs t) ts ∙ ap (share_trees wid (all_shares wid sel gs t)) (shares_put g u ts) ∙ all_shares_put gs t (put_tree wid sel g u ts)

    mutual
      pub shares_targets : (g : Target) (t : Tree) (x : ℕ) → has_share (shares wid sel g t) x ≡ is_target g x
      shares_targets (Whole s) t x = or_last (x == s)
      shares_targets (Part s at w) t x = or_last (x == s)
      shares_targets (Pick s e) t x = or_last (x == s)
      shares_targets (Group gs) t x = all_shares_targets gs t x

      pub all_shares_targets : (gs : Targets) (t : Tree) (x : ℕ) → has_share (all_shares wid sel gs t) x ≡ are_targets gs x
      all_shares_targets no_targets t x = refl
      all_shares_targets (target g gs) t x =
          let u = Slice t (target_sizes wid gs) (target_size wid g) in
          has_more (shares wid sel g u) (all_shares wid sel gs t) x ∙ ap₂ (λ a b. a || b) (shares_targets g u x) (all_shares_targets gs t x)

has_at : (f : Put → Share) → ((p : Put) → (f p).sig ≡ p.sig) → (ps : List Put) (k : ℕ) (d : Put) → k < length ps → has_share (map f ps) (get_or ps k d).sig ≡ true
has_at f e [] k d h = absurd (omega (arith, h))
has_at f e (p ∷ ps) zero d h = ap (λ b. b || has_share (map f ps) p.sig) (eq-eqb p.sig (f p).sig (sym (e p)))
has_at f e (p ∷ ps) (suc k) d h = ap (λ b. ((get_or ps k d).sig == (f p).sig) || b) (has_at f e ps k d (omega (arith, h))) ∙ true_last ((get_or ps k d).sig == (f p).sig)
  where
    true_last : (b : Bool) → (b || true) ≡ true
    true_last true = refl
    true_last false = refl

pub has_put : (sel : Selects) (ds : List Draft) (ps : List Put) (k : ℕ) (d : Put) → k < length ps → has_share (map (put_share sel ds) ps) (get_or ps k d).sig ≡ true
has_put sel ds = has_at (put_share sel ds) (λ p. refl)

pub map_last : (f : Put → Share) (ps : List Put) (p : Put) → map f (ps ++ p ∷ []) ≡ map f ps ++ f p ∷ []
map_last f [] p = refl
map_last f (q ∷ ps) p = ap (λ ss. f q ∷ ss) (map_last f ps p)

pub has_last : (ss : List Share) (s : Share) (x : ℕ) → has_share (ss ++ s ∷ []) x ≡ (has_share ss x || (x == s.sig))
has_last ss s x = has_more ss (s ∷ []) x ∙ ap (λ b. has_share ss x || b) (or_last (x == s.sig))

module _ (wid : ℕ → ℕ) (ds es : List Draft) (g : Grows wid ds es) where
  spot_grows : (n w v : ℕ) (p : Spot) → v ≡ w → FitsPlace n ds p w → FitsPlace n es p v
  spot_grows n w v spot.Whole e h = (subst (λ k. 1 ≤ k) (sym e) h.0, e ∙ h.1)
  spot_grows n w v (spot.Part at k) e h = (e ∙ h.0, h.1, h.2)
  spot_grows n w v (spot.Chosen i) e h =
      let k = place-kept ds es i (width_at ds i) g.longer h.1 in
      (e ∙ h.0, (k.0, refl), subst (λ m. 1 ≤ m) (sym k.1) h.2, subst (λ m. m ≤ 64) (sym k.1) h.3, h.4)

  pub put_grows : (p : Put) → IsPut wid ds p → IsPut wid es p
  put_grows p h = let k = place-kept ds es p.tree (width_at ds p.tree) g.longer h.word in
      record { word = (k.0, refl); place = spot_grows (wid p.sig) (width_at ds p.tree) (width_at es p.tree) p.spot k.1 h.place }

  place_same : (sel : Selects) (n w : ℕ) (p : Spot) → FitsPlace n ds p w → place_of sel es p ≡ place_of sel ds p
  place_same sel n w spot.Whole h = refl
  place_same sel n w (spot.Part at k) h = refl
  place_same sel n w (spot.Chosen i) h = ap₂ chosen (tree-kept sel ds es g.longer i h.1.0) (place-kept ds es i (width_at ds i) g.longer h.1).1

  pub share_same : (sel : Selects) (p : Put) → IsPut wid ds p → put_share sel es p ≡ put_share sel ds p
  share_same sel p h = ap₂ (share_of p.sig) (place_same sel (wid p.sig) (width_at ds p.tree) p.spot h.place) (tree-kept sel ds es g.longer p.tree h.word.0)

  shares_same : (sel : Selects) (ps : List Put) → All (IsPut wid ds) ps → map (put_share sel es) ps ≡ map (put_share sel ds) ps
  shares_same sel [] h = refl
  shares_same sel (p ∷ ps) h = ap₂ (λ s ss. s ∷ ss) (share_same sel p (h 0 p (omega arith))) (shares_same sel ps (λ k d l. h (suc k) d (omega (arith, l))))

  pub puts_grow : (ps : List Put) (ss : Selects → List Share) → ArePuts wid ds ps ss → ArePuts wid es ps ss
  puts_grow ps ss h = record { fit = λ k d l. put_grows (get_or ps k d) (h.fit k d l); are = λ sel. shares_same sel ps h.fit ∙ h.are sel }

module _ (wid : ℕ → ℕ) (ds : List Draft) where
  pub puts_same : (ps : List Put) (ss us : Selects → List Share) → ArePuts wid ds ps ss → ((sel : Selects) → ss sel ≡ us sel) → ArePuts wid ds ps us
  puts_same ps ss us h e = record { fit = h.fit; are = λ sel. h.are sel ∙ e sel }

  pub no_puts : (ps : List Put) → ps ≡ [] → ArePuts wid ds ps (λ sel. [])
  no_puts ps e = record { fit = subst (λ xs. All (IsPut wid ds) xs) (sym e) (λ k d l. absurd (omega (arith, l))); are = λ sel. ap (map (put_share sel ds)) e }

  pub puts_last : (ps qs : List Put) (ss : Selects → List Share) (p : Put) (s : Selects → Share) → ArePuts wid ds ps ss → IsPut wid ds p → ((sel : Selects) → put_share sel ds p ≡ s sel) → qs ≡ ps ++ p ∷ []
      → ArePuts wid ds qs (λ sel. ss sel ++ s sel ∷ [])
  puts_last ps qs ss p s h k f e = record {
    fit = subst (λ xs. All (IsPut wid ds) xs) (sym e) (All-push (IsPut wid ds) ps p h.fit k);
    are = λ sel. ap (map (put_share sel ds)) e ∙ map_last (put_share sel ds) ps p ∙ ap₂ (λ ss s. ss ++ s ∷ []) (h.are sel) (f sel);
  }

-- the parts of a target that is placed
module _ (wid : ℕ → ℕ) (t : FTarget) (h : IsPlaced wid t) where
  pub placed_at : (sig : ℕ) (index : FExpr) → t ≡ v.At sig index → (1 ≤ wid sig) × IsRead wid index
  placed_at sig index e =
      let p = and_parts (is_word (wid sig)) (is_sized index) (sym (ap (λ k. k.right) (ap (target_kept wid) e ∙ target_kept-At wid sig index)) ∙ h.sized) in
      let f = subst (λ g. FitsTarget wid (λ d. IsWithin wid) h.done g) (ap target_of e ∙ target_of-At sig index) h.fits in
      ((word_width (wid sig) p.0).some, record { sized = p.1; fits = f.1 })

  pub placed_join : (parts : List FTarget) → t ≡ v.Join parts → (all_right (map (target_kept wid) parts) ≡ true) × FitTargets wid (λ d. IsWithin wid) h.done (targets_of (map target_of parts))
  placed_join parts e =
      let ks = map (target_kept wid) parts in
      let p = and_parts (is_word (sum ks)) (all_right ks) (sym (ap (λ k. k.right) (ap (target_kept wid) e ∙ target_kept-Join wid parts)) ∙ h.sized) in
      (p.1, subst (λ g. FitsTarget wid (λ d. IsWithin wid) h.done g) (ap target_of e ∙ target_of-Join parts) h.fits)
