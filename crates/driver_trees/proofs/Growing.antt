-- Drafts that grow: what was there keeps its width and its tree, and what is added has its own.
use Rattle.std.proofs.Common.{◌≡◌, ℕ, zero, suc, ◌+◌, ◌<◌, ◌≤◌, ◌==◌, ◌⊎◌, inl, inr, List, [], ◌∷◌, ◌++◌, length, min, Bool, cond, Option, Some, None, Result, Ok, Err, IfOk, slice_get, unwrap_or, refl, sym, ap, ap₂, subst, ◌∙◌, arith, lt-ltb, ne_eqb, append-nil, append_assoc, zero-add, length-append}
use Rattle.std.specs.Option.{option_map_or}
use Rattle.std.proofs.lemmas.Option.{slice_get_within, slice_get_past}
use Rattle.cell_graph.specs.declared.cell.Cell.{Cell}
use Rattle.cell_graph.specs.declared.cell.Cell.TheVariants.{Var, Const, Not, And, Or, Xor, Add, Sub, Eq, Lt, Shl, Shr, Mux, Concat, Slice, Extend, Reduce}
use Rattle.cell_graph.specs.declared.cell.CellId.{CellId}
use Rattle.cell_graph.specs.Tree as tree
use Rattle.cell_graph.specs.Tree.{Tree}
use Rattle.cell_graph.specs.Unfolded.{tree_at}
use Rattle.flat_meaning.specs.Trees.{Selects, glue}
use Rattle.driver_trees.specs.declared.draft.Draft.{Draft}
use Rattle.driver_trees.specs.declared.draft.Form.{Form}
use Rattle.driver_trees.specs.declared.draft.Form.TheVariants.{Read, Made}
use Rattle.driver_trees.specs.Drafts.{form_tree, trees_after, draft_trees, tree_in, width_at, AreAlike, IsMade, IsDraftAt, AreDrafts, IsDraftOf}
use Rattle.driver_trees.specs.Growth.{cell_bits, drafted, IsLonger, Grows, IsBuilt}

-- ---- lists

pub get-append : {A : Type 0} (xs ys : List A) (k : ℕ) → k < length xs → slice_get (xs ++ ys) k ≡ slice_get xs k
get-append [] ys k h = absurd (omega arith)
get-append (x ∷ xs) ys zero h = refl
get-append (x ∷ xs) ys (suc k) h = get-append xs ys k (omega arith)

get-end : {A : Type 0} (xs : List A) (y : A) (k : ℕ) → k ≡ length xs → slice_get (xs ++ y ∷ []) k ≡ Some y
get-end [] y k h = ap (slice_get (y ∷ [])) h
get-end (x ∷ xs) y zero h = absurd (omega arith)
get-end (x ∷ xs) y (suc k) h = get-end xs y k (omega arith)

-- a place of the longer list is one of the shorter, or the last
get-push : {A : Type 0} (xs : List A) (y z : A) (n : ℕ) → slice_get (xs ++ y ∷ []) n ≡ Some z → ((n < length xs) × (slice_get xs n ≡ Some z)) ⊎ ((n ≡ length xs) × (y ≡ z))
get-push [] y z zero e = inr (refl, (cc))
get-push [] y z (suc n) e = cc
get-push (x ∷ xs) y z zero e = inl ((omega arith), e)
get-push (x ∷ xs) y z (suc n) e = elim (get-push xs y z n e) [
  | inl f ↦ let l = f.0 in inl ((omega arith), f.1)
  | inr p ↦ inr (ap suc p.0, p.1)
]

pub same-longer : (ds : List Draft) → IsLonger ds ds
same-longer ds = ([], sym (append-nil ds))

pub still-longer : (a b c : List Draft) → IsLonger a b → IsLonger b c → IsLonger a c
still-longer a b c h k = (h.0 ++ k.0, k.1 ∙ ap (λ xs. xs ++ k.0) h.1 ∙ append_assoc a h.0 k.0)

pub longer-length : (a b : List Draft) → IsLonger a b → length a ≤ length b
longer-length a b h = let l = ap length h.1 in let m = length-append a h.0 in omega arith

-- ---- what was there

pub width-kept : (old new : List Draft) → IsLonger old new → (id : CellId) → id.0 < length old → width_at new id ≡ width_at old id
width-kept old new h id l = ap (λ ds. width_at ds id) h.1 ∙ ap (λ o. option_map_or (λ (d : Draft). d.width) o 1) (get-append old h.0 id.0 l)

pub place-kept : (old new : List Draft) (id : CellId) (w : ℕ) → IsLonger old new → IsDraftOf old id w → IsDraftOf new id w
place-kept old new id w h is = (let l = longer-length old new h in let m = is.0 in omega arith, width-kept old new h id is.0 ∙ is.1)

trees-append : (sel : Selects) (ts : List Tree) (ds es : List Draft) → trees_after sel ts (ds ++ es) ≡ trees_after sel (trees_after sel ts ds) es
trees-append sel ts [] es = refl
trees-append sel ts (d ∷ ds) es = trees-append sel (ts ++ form_tree sel ts d.width d.form ∷ []) ds es

trees-length : (sel : Selects) (ts : List Tree) (ds : List Draft) → length (trees_after sel ts ds) ≡ length ts + length ds
trees-length sel ts [] = omega arith
trees-length sel ts (d ∷ ds) = let e = trees-length sel (ts ++ form_tree sel ts d.width d.form ∷ []) ds in let l = length-append ts (form_tree sel ts d.width d.form ∷ []) in omega arith

trees-before : (sel : Selects) (ts : List Tree) (ds : List Draft) (k : ℕ) → k < length ts → slice_get (trees_after sel ts ds) k ≡ slice_get ts k
trees-before sel ts [] k h = refl
trees-before sel ts (d ∷ ds) k h =
    trees-before sel (ts ++ form_tree sel ts d.width d.form ∷ []) ds k (let l = length-append ts (form_tree sel ts d.width d.form ∷ []) in omega arith)
    ∙ get-append ts (form_tree sel ts d.width d.form ∷ []) k h

pub tree-kept : (sel : Selects) (old new : List Draft) → IsLonger old new → (id : CellId) → id.0 < length old → tree_in sel new id ≡ tree_in sel old id
tree-kept sel old new h id l =
    ap (λ ds. tree_in sel ds id) h.1 ∙ ap (λ ts. tree_at ts id) (trees-append sel [] old h.0)
    ∙ ap (λ o. unwrap_or o (tree.Const 1 0)) (trees-before sel (draft_trees sel old) h.0 id.0 (let m = trees-length sel [] old in omega arith))

module _ (old new : List Draft) (h : IsLonger old new) (n : ℕ) (within : n ≤ length old) where
  wide : (a : CellId) → a.0 < n → width_at new a ≡ width_at old a
  wide a l = width-kept old new h a (omega arith)

  alike-kept : (a b : CellId) → AreAlike old n a b → AreAlike new n a b
  alike-kept a b is = (is.0, is.1, wide a is.0 ∙ is.2 ∙ sym (wide b is.1))

  made-kept : (w : ℕ) (c : Cell) → IsMade old n w c → IsMade new n w c
  made-kept w (Var sig) is = is
  made-kept w (Const v value) is = is
  made-kept w (Not a) is = (is.0 ∙ sym (wide a is.1), is.1)
  made-kept w (And a b) is = (is.0 ∙ sym (wide a is.1.0), alike-kept a b is.1)
  made-kept w (Or a b) is = (is.0 ∙ sym (wide a is.1.0), alike-kept a b is.1)
  made-kept w (Xor a b) is = (is.0 ∙ sym (wide a is.1.0), alike-kept a b is.1)
  made-kept w (Add a b) is = (is.0 ∙ sym (wide a is.1.0), alike-kept a b is.1)
  made-kept w (Sub a b) is = (is.0 ∙ sym (wide a is.1.0), alike-kept a b is.1)
  made-kept w (Eq a b) is = (is.0, alike-kept a b is.1)
  made-kept w (Lt a b) is = (is.0, alike-kept a b is.1)
  made-kept w (Shl a by) is = (is.0 ∙ sym (wide a is.1), is.1, is.2)
  made-kept w (Shr a by) is = (is.0 ∙ sym (wide a is.1), is.1, is.2)
  made-kept w (Mux c x y) is = (is.0 ∙ sym (wide x is.3.0), is.1, wide c is.1 ∙ is.2, alike-kept x y is.3)
  made-kept w (Concat high low) is = (is.0 ∙ sym (ap₂ (λ m n. m + n) (wide high is.1) (wide low is.2)), is.1, is.2, is.3)
  made-kept w (Slice a at v) is = (is.0, is.1, is.2, subst (λ m. at + v ≤ m) (sym (wide a is.1)) is.3)
  made-kept w (Extend a v) is = (is.0, is.1, subst (λ m. m < v) (sym (wide a is.1)) is.2, is.3)
  made-kept w (Reduce k a) is = is

  draft-kept : (wid : ℕ → ℕ) (w : ℕ) (f : Form) → IsDraftAt wid old n w f → IsDraftAt wid new n w f
  draft-kept wid w (Read sig at) is = is
  draft-kept wid w (Made cell) is = made-kept w cell is

-- ---- what is added

drafts-push : (wid : ℕ → ℕ) (ds new : List Draft) (f : Form) (w : ℕ) → new ≡ ds ++ drafted f w ∷ [] → AreDrafts wid ds → IsDraftAt wid ds (length ds) w f → AreDrafts wid new
drafts-push wid ds new f w e are is n d at = elim (get-push ds (drafted f w) d n (ap (λ xs. slice_get xs n) (sym e) ∙ at)) [
  | inl p ↦ let l = p.0 in draft-kept ds new (drafted f w ∷ [], e) n (omega arith) wid d.width d.form (are n d p.1)
  | inr p ↦ subst (λ (x : Draft). IsDraftAt wid new n x.width x.form) p.1
      (subst (λ k. IsDraftAt wid new k w f) (sym p.0) (draft-kept ds new (drafted f w ∷ [], e) (length ds) (omega arith) wid w f is))
]

pub built-push : (wid : ℕ → ℕ) (ds new : List Draft) (id : CellId) (f : Form) (w : ℕ) → id.0 ≡ length ds → new ≡ ds ++ drafted f w ∷ []
    → AreDrafts wid ds → IsDraftAt wid ds (length ds) w f → IsBuilt wid ds new id w (λ sel. form_tree sel (draft_trees sel ds) w f)
built-push wid ds new id f w at e are is = record {
  grows = record { longer = (drafted f w ∷ [], e); drafts = drafts-push wid ds new f w e are is };
  place = (
    (let l = ap length e in let m = length-append ds (drafted f w ∷ []) in omega arith),
    ap (λ xs. width_at xs id) e ∙ ap (λ o. option_map_or (λ (d : Draft). d.width) o 1) (get-end ds (drafted f w) id.0 at),
  );
  tree = λ sel. ap (λ xs. tree_in sel xs id) e ∙ ap (λ ts. tree_at ts id) (trees-append sel [] ds (drafted f w ∷ []))
      ∙ ap (λ o. unwrap_or o (tree.Const 1 0)) (get-end (draft_trees sel ds) (form_tree sel (draft_trees sel ds) w f) id.0 (let m = trees-length sel [] ds in omega arith));
}

-- a draft that is there already
pub built-same : (wid : ℕ → ℕ) (ds : List Draft) (id : CellId) (w : ℕ) → AreDrafts wid ds → IsDraftOf ds id w → IsBuilt wid ds ds id w (λ sel. tree_in sel ds id)
built-same wid ds id w are is = record { grows = record { longer = same-longer ds; drafts = are }; place = is; tree = λ sel. refl }

-- ---- every draft has 1 to 64 bits

abbrev pub IsSmall : ℕ → Type 0
IsSmall w = (1 ≤ w) × (w ≤ 64)

module _ (wid : ℕ → ℕ) (ds : List Draft) (n : ℕ) (below : (a : CellId) → a.0 < n → IsSmall (width_at ds a)) where
  as_wide_as : (w : ℕ) (a : CellId) → w ≡ width_at ds a → a.0 < n → IsSmall w
  as_wide_as w a e l = subst IsSmall (sym e) (below a l)

  one : (w : ℕ) → w ≡ 1 → IsSmall w
  one w e = ((omega arith), (omega arith))

  made-small : (w : ℕ) (c : Cell) → IsMade ds n w c → IsSmall w
  made-small w (Var sig) is = absurd is
  made-small w (Const v value) is = let e = is.0 in let l = is.1 in let m = is.2 in ((omega arith), (omega arith))
  made-small w (Not a) is = as_wide_as w a is.0 is.1
  made-small w (And a b) is = as_wide_as w a is.0 is.1.0
  made-small w (Or a b) is = as_wide_as w a is.0 is.1.0
  made-small w (Xor a b) is = as_wide_as w a is.0 is.1.0
  made-small w (Add a b) is = as_wide_as w a is.0 is.1.0
  made-small w (Sub a b) is = as_wide_as w a is.0 is.1.0
  made-small w (Eq a b) is = one w is.0
  made-small w (Lt a b) is = one w is.0
  made-small w (Shl a by) is = as_wide_as w a is.0 is.1
  made-small w (Shr a by) is = as_wide_as w a is.0 is.1
  made-small w (Mux c x y) is = as_wide_as w x is.0 is.3.0
  made-small w (Concat high low) is = let e = is.0 in let l = (below high is.1).0 in let m = is.3 in ((omega arith), m)
  made-small w (Slice a at v) is = let e = is.0 in let l = is.2 in let m = is.3 in let b = (below a is.1).1 in ((omega arith), (omega arith))
  made-small w (Extend a v) is = let e = is.0 in let l = is.2 in let m = is.3 in ((omega arith), (omega arith))
  made-small w (Reduce k a) is = one w is.0

  draft-small : (w : ℕ) (f : Form) → IsDraftAt wid ds n w f → IsSmall w
  draft-small w (Read sig at) is = let l = is.0 in let m = is.1 in let k = is.2 in (l, (omega arith))
  draft-small w (Made cell) is = made-small w cell is

all-small : (wid : ℕ → ℕ) (ds : List Draft) → AreDrafts wid ds → (n : ℕ) (id : CellId) → id.0 < n → IsSmall (width_at ds id)
all-small wid ds are zero id l = absurd (omega arith)
all-small wid ds are (suc n) id l = go (slice_get ds id.0) refl (λ a m. all-small wid ds are n a (omega arith))
  where
    go : (o : Option Draft) → slice_get ds id.0 ≡ o → ((a : CellId) → a.0 < id.0 → IsSmall (width_at ds a)) → IsSmall (width_at ds id)
    go (Some d) e below = rw e (draft-small wid ds id.0 below d.width d.form (are id.0 d e))
    go None e below = rw e ((omega arith), (omega arith))

pub some-bits : (wid : ℕ → ℕ) (ds : List Draft) (id : CellId) (w : ℕ) → AreDrafts wid ds → IsDraftOf ds id w → 1 ≤ w
some-bits wid ds id w are is = subst (λ n. 1 ≤ n) is.1 (all-small wid ds are (suc id.0) id (omega arith)).0

pub most-bits : (wid : ℕ → ℕ) (ds : List Draft) (id : CellId) (w : ℕ) → AreDrafts wid ds → IsDraftOf ds id w → w ≤ 64
most-bits wid ds id w are is = subst (λ n. n ≤ 64) is.1 (all-small wid ds are (suc id.0) id (omega arith)).1

-- the bits that a cell is given are those that it may have
pub made-bits : (ds : List Draft) (n w : ℕ) (c : Cell) → IsMade ds n w c → w ≡ cell_bits ds c
made-bits ds n w (Var sig) is = absurd is
made-bits ds n w (Const v value) is = is.0
made-bits ds n w (Not a) is = is.0
made-bits ds n w (And a b) is = is.0
made-bits ds n w (Or a b) is = is.0
made-bits ds n w (Xor a b) is = is.0
made-bits ds n w (Add a b) is = is.0
made-bits ds n w (Sub a b) is = is.0
made-bits ds n w (Eq a b) is = is.0
made-bits ds n w (Lt a b) is = is.0
made-bits ds n w (Shl a by) is = is.0
made-bits ds n w (Shr a by) is = is.0
made-bits ds n w (Mux c x y) is = is.0
made-bits ds n w (Concat high low) is = let e = is.0 in let l = is.3 in omega arith
made-bits ds n w (Slice a at v) is = is.0
made-bits ds n w (Extend a v) is = is.0
made-bits ds n w (Reduce k a) is = is.0

-- ---- one step after another

pub ok-map : {A E : Type 0} {P Q : A → Type 0} (r : Result A E) → ((x : A) → P x → Q x) → IfOk r P → IfOk r Q
ok-map (Ok x) f p = f x p
ok-map (Err e) f p = p

pub still-grows : (wid : ℕ → ℕ) (a b c : List Draft) → Grows wid a b → Grows wid b c → Grows wid a c
still-grows wid a b c h k = record { longer = still-longer a b c h.longer k.longer; drafts = k.drafts }

-- another tree that is the same
pub built-as : {wid : ℕ → ℕ} {a b : List Draft} {id : CellId} {w : ℕ} {t : Selects → Tree} (u : Selects → Tree) → IsBuilt wid a b id w t → ((sel : Selects) → t sel ≡ u sel) → IsBuilt wid a b id w u
built-as u is h = record { grows = is.grows; place = is.place; tree = λ sel. is.tree sel ∙ h sel }

-- drafts that had grown before
pub built-after : {wid : ℕ → ℕ} {a b c : List Draft} {id : CellId} {w : ℕ} {t : Selects → Tree} → Grows wid a b → IsBuilt wid b c id w t → IsBuilt wid a c id w t
built-after {wid} {a} {b} {c} g is = record { grows = still-grows wid a b c g is.grows; place = is.place; tree = is.tree }

-- a word made of the word before
pub built-of : {wid : ℕ → ℕ} {a b c : List Draft} {i j : CellId} {v w : ℕ} {t : Selects → Tree} (f : Tree → Tree)
    → IsBuilt wid a b i w t → IsBuilt wid b c j v (λ sel. f (tree_in sel b i)) → IsBuilt wid a c j v (λ sel. f (t sel))
built-of {wid} {a} {b} {c} f h k = record { grows = still-grows wid a b c h.grows k.grows; place = k.place; tree = λ sel. k.tree sel ∙ ap f (h.tree sel) }

-- the tree of a word that was built before
pub tree-later : {wid : ℕ → ℕ} {a b : List Draft} {i : CellId} {w : ℕ} {t : Selects → Tree} (c : List Draft) (sel : Selects) → IsBuilt wid a b i w t → IsLonger b c → tree_in sel c i ≡ t sel
tree-later {wid} {a} {b} {i} c sel h l = tree-kept sel b c l i h.place.0 ∙ h.tree sel

-- a word made of two words before
pub built-of_two : {wid : ℕ → ℕ} {a b c d : List Draft} {i j k : CellId} {v w z : ℕ} {t u : Selects → Tree} (f : Tree → Tree → Tree)
    → IsBuilt wid a b i v t → IsBuilt wid b c j w u → IsBuilt wid c d k z (λ sel. f (tree_in sel c i) (tree_in sel c j)) → IsBuilt wid a d k z (λ sel. f (t sel) (u sel))
built-of_two {wid} {a} {b} {c} {d} f h k m = record {
  grows = still-grows wid a b d h.grows (still-grows wid b c d k.grows m.grows);
  place = m.place;
  tree = λ sel. m.tree sel ∙ ap₂ f (tree-later c sel h k.grows.longer) (k.tree sel);
}

-- two words of some bits side by side
pub glue-both : (m n : ℕ) (t u : Tree) → 1 ≤ m → 1 ≤ n → tree.Concat t u ≡ glue m t n u
glue-both m n t u h k = sym (ap (λ b. cond b t (cond (m == 0) u (tree.Concat t u))) (ne_eqb n 0 (λ e. absurd (omega arith))) ∙ ap (λ b. cond b u (tree.Concat t u)) (ne_eqb m 0 (λ e. absurd (omega arith))))

-- a word made of three words before
pub built-of_three : {wid : ℕ → ℕ} {a b c d g : List Draft} {i j k l : CellId} {v w z s : ℕ} {t u r : Selects → Tree} (f : Tree → Tree → Tree → Tree)
    → IsBuilt wid a b i v t → IsBuilt wid b c j w u → IsBuilt wid c d k z r → IsBuilt wid d g l s (λ sel. f (tree_in sel d i) (tree_in sel d j) (tree_in sel d k)) → IsBuilt wid a g l s (λ sel. f (t sel) (u sel) (r sel))
built-of_three {wid} {a} {b} {c} {d} {g} {i} {j} {k} {l} {v} {w} {z} {s} {t} {u} {r} f x y q m = record {
  grows = still-grows wid a b g x.grows (still-grows wid b d g (still-grows wid b c d y.grows q.grows) m.grows);
  place = m.place;
  tree = λ sel. m.tree sel ∙ ap (λ p. f p (tree_in sel d j) (tree_in sel d k)) (tree-later d sel x (still-longer b c d y.grows.longer q.grows.longer))
      ∙ ap₂ (f (t sel)) (tree-later d sel y q.grows.longer) (q.tree sel);
}
