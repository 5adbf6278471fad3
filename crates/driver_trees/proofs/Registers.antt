-- Registers' next values, where the selects are a design's trees.
use Rattle.std.proofs.Common.{◌≡◌, ℕ, zero, suc, Bool, true, cond, List, [], ◌∷◌, ◌++◌, map, All, Some, slice_get, get_or, refl, sym, ap, ap₂, subst, ◌∙◌, eq-eqb}
use mathlib.Core.Path.{fun_ext}
use Rattle.std.specs.List.{AllByRecursion as Each}
use Rattle.std.specs.Option.{option_map_or}
use Rattle.cdc_base.specs.declared.signal.Signal.{Signal}
use Rattle.cdc_base.specs.declared.signal.SigKind.{SigKind}
use Rattle.cdc_base.specs.declared.signal.SigKind.TheVariants.{Input, Register as RegisterKind, Wire}
use Rattle.cell_graph.specs.declared.cell.CellId.{CellId}
use Rattle.cell_graph.specs.Nets.{is_register}
use Rattle.cell_graph.specs.Tree.{Tree, Var, Slice}
use Rattle.flat_meaning.specs.Flat.{Stmt, assigns}
use Rattle.flat_meaning.specs.Trees.{Selects, Trees, cut, after}
use Rattle.flat_meaning.specs.Law.{next_tree}
use Rattle.flat_meaning.specs.Pieces.{wire_select}
use Rattle.flat_meaning.specs.Design.{Flat, size_in, kind_in, kind_is_variable, is_variable}
use Rattle.flat_meaning.specs.Sound.{IsSoundClocked}
use Rattle.flat_meaning.specs.SignalTrees.{AreTrees, pieces_of, sharing, giver, given_tree, joined_runs, next_tree_by, next_tree_in}
use Rattle.flat_meaning.proofs.Depth.{by_bool}
use Rattle.flat_meaning.proofs.Placed.{each_of}
use Rattle.driver_trees.specs.declared.draft.Draft.{Draft}
use Rattle.driver_trees.specs.declared.sketch.Register.{Register}
use Rattle.driver_trees.specs.Drafts.{tree_in, width_at, IsDraftOf}
use Rattle.driver_trees.specs.Growth.{Grows}
use Rattle.driver_trees.specs.Sketches.{IsRegisterIn}
use Rattle.driver_trees.specs.Sketched.{last_tree, given_in, next_by, next_in, clock_in, IsRegisterOf}
use Rattle.driver_trees.proofs.Growing.{place-kept, tree-kept}
use Rattle.driver_trees.proofs.Begun.{next_grows}

module _ (f : Flat) (sel : Selects) (are : AreTrees f sel) where
  -- a register's own select is its variable
  own : (x : ℕ) → is_variable f x ≡ true → sel x 0 (size_in f x) ≡ Var x (size_in f x)
  own x v = let n = size_in f x in
      are x 0 n ∙ ap (λ b. cond b (cut n 0 n (Var x n)) (wire_select (pieces_of f sel x) 0 n)) v ∙ ap (λ b. cond b (Var x n) (Slice (Var x n) 0 n)) (eq-eqb n n refl)

  last_same : (body : Stmt) → ((s : ℕ) → assigns body s ≡ true → is_variable f s ≡ true) → (x : ℕ) → last_tree (size_in f) sel body x ≡ next_tree (size_in f) sel body x
  last_same body h x = ap (λ (ts : Trees). after (size_in f) (λ us. sel) body ts x) (fun_ext (λ y. by_bool (assigns body y)
      (λ e. ap (λ b. cond b (sel y 0 (size_in f y)) (Var y (size_in f y))) e ∙ own y (h y e)) (λ e. ap (λ b. cond b (sel y 0 (size_in f y)) (Var y (size_in f y))) e)))

  -- a process that assigns only variables
  abbrev AssignsVariables : Stmt → Type 0
  AssignsVariables body = (s : ℕ) → assigns body s ≡ true → is_variable f s ≡ true

  given_same : (bodies : List Stmt) → Each AssignsVariables bodies → (x : ℕ) → is_variable f x ≡ true → (k : ℕ) → given_in (size_in f) sel bodies x k ≡ given_tree (size_in f) sel bodies x k
  given_same [] h x v k = own x v
  given_same (body ∷ bodies) h x v zero = last_same body h.0 x
  given_same (body ∷ bodies) h x v (suc k) = given_same bodies h.1 x v k

  by_same : (bodies : List Stmt) → Each AssignsVariables bodies → (x : ℕ) → is_variable f x ≡ true → next_by (size_in f) sel bodies x ≡ next_tree_by (size_in f) sel bodies x
  by_same [] h x v = own x v
  by_same (body ∷ []) h x v = last_same body h.0 x
  by_same (body ∷ other ∷ bodies) h x v = let all = body ∷ other ∷ bodies in ap (λ (words : ℕ → Tree). joined_runs (size_in f x) words (giver (size_in f) all x)) (fun_ext (given_same all h x v))

  sharing_sound : (ps : List (ℕ × Stmt)) → Each (λ p. IsSoundClocked f p.1) ps → (x : ℕ) → Each AssignsVariables (sharing ps x)
  sharing_sound [] h x = tt
  sharing_sound (p ∷ ps) h x = let rest = sharing_sound ps h.1 x in by_bool (assigns p.1 x)
      (λ e. subst (λ (b : Bool). Each AssignsVariables (cond b (p.1 ∷ sharing ps x) (sharing ps x))) (sym e) (h.0.registers, rest))
      (λ e. subst (λ (b : Bool). Each AssignsVariables (cond b (p.1 ∷ sharing ps x) (sharing ps x))) (sym e) rest)

  pub next_same : (ps : List (ℕ × Stmt)) → Each (λ p. IsSoundClocked f p.1) ps → (x : ℕ) → is_variable f x ≡ true → next_in (size_in f) ps sel x ≡ next_tree_in (size_in f) sel ps x
  next_same ps h x v = by_same (sharing ps x) (sharing_sound ps h x) x v

pub register_in : (f : Flat) → All (λ p. IsSoundClocked f p.1) f.clocked → (ds : List Draft) (r : Register) → IsRegisterOf (size_in f) f.signals ds r (next_in (size_in f) f.clocked) (clock_in f.clocked) → IsRegisterIn f ds r
register_in f sound ds r h = record {
  next = h.given.next.place;
  clock = h.given.clock;
  next_tree = λ sel are. h.given.next.tree sel ∙ next_same f sel are f.clocked (each_of (λ (p : ℕ × Stmt). IsSoundClocked f p.1) f.clocked sound) r.sig h.is_variable;
  clock_tree = h.given.clock_tree;
}

pub register_grows : (wid : ℕ → ℕ) (signals : List Signal) (ds es : List Draft) (g : Grows wid ds es) (r : Register) (ts cs : Selects → Trees) → IsRegisterOf wid signals ds r ts cs → IsRegisterOf wid signals es r ts cs
register_grows wid signals ds es g r ts cs h = record { is_variable = h.is_variable; given = next_grows wid ds es g (r.next, r.clock) r.sig ts cs h.given }

pub registers_grow : (wid : ℕ → ℕ) (signals : List Signal) (ds es : List Draft) (g : Grows wid ds es) (rs : List Register) (ts cs : Selects → Trees) → All (λ r. IsRegisterOf wid signals ds r ts cs) rs → All (λ r. IsRegisterOf wid signals es r ts cs) rs
registers_grow wid signals ds es g rs ts cs h k d l = register_grows wid signals ds es g _ ts cs (h k d l)

variable_kind : (k : SigKind) → is_register k ≡ true → kind_is_variable k ≡ true
variable_kind Input h = refl
variable_kind RegisterKind h = refl
variable_kind Wire h = h

pub register_variable : (signals : List Signal) (place : ℕ) (signal : Signal) → slice_get signals place ≡ Some signal → is_register signal.kind ≡ true → kind_is_variable (kind_in signals place) ≡ true
register_variable signals place signal e h = ap (λ o. kind_is_variable (option_map_or (λ (x : Signal). x.kind) o Wire)) e ∙ variable_kind signal.kind h

-- ---- outputs

pub ids_grow : (wid : ℕ → ℕ) (ds es : List Draft) (g : Grows wid ds es) (ids : List CellId) → All (λ id. IsDraftOf ds id (width_at ds id)) ids → All (λ id. IsDraftOf es id (width_at es id)) ids
ids_grow wid ds es g ids h k d l = let i = get_or ids k d in ((place-kept ds es i (width_at ds i) g.longer (h k d l)).0, refl)

pub trees_same : (wid : ℕ → ℕ) (ds es : List Draft) (g : Grows wid ds es) (sel : Selects) (ids : List CellId) → Each (λ id. IsDraftOf ds id (width_at ds id)) ids → map (tree_in sel es) ids ≡ map (tree_in sel ds) ids
trees_same wid ds es g sel [] h = refl
trees_same wid ds es g sel (i ∷ ids) h = ap₂ (λ t ts. t ∷ ts) (tree-kept sel ds es g.longer i h.0.0) (trees_same wid ds es g sel ids h.1)

pub map_end : {A B : Type 0} (f : A → B) (xs : List A) (y : A) → map f (xs ++ y ∷ []) ≡ map f xs ++ f y ∷ []
map_end f [] y = refl
map_end f (x ∷ xs) y = ap (λ ys. f x ∷ ys) (map_end f xs y)
