-- The drafts that a design needs, and their cells.
use Rattle.std.proofs.Common.{◌≡◌, ◌⊎◌, ◌∙◌, refl, sym, ap, ap₂, subst, arith, inl, inr, ℕ, zero, suc, ◌+◌, ◌<◌, ◌≤◌, List, [], ◌∷◌, ◌++◌, length, map, drop, get_or, All}
use Rattle.std.specs.List.{Contains}
use Rattle.std.proofs.lemmas.List.{append_assoc, drop_more}
use Rattle.std.proofs.lemmas.List.Elements.{All-head, All-tail, Contains-append_cases, Contains-append_left, Contains-append_right}
use Rattle.cell_graph.specs.declared.cell.CellId.{CellId}
use Rattle.cell_graph.specs.Nets.{register_signals}
use Rattle.flat_meaning.specs.Design.{Flat}
use Rattle.flat_meaning.specs.SignalTrees.{AreTrees, tree_of}
use Rattle.flat_meaning.specs.Trees.{Selects}
use Rattle.driver_trees.specs.declared.draft.Draft.{Draft}
use Rattle.driver_trees.specs.declared.sketch.Piece.{Piece}
use Rattle.driver_trees.specs.declared.sketch.Register.{Register}
use Rattle.driver_trees.specs.declared.sketch.Sketch.{Sketch}
use Rattle.driver_trees.specs.Drafts.{IsDraftOf, tree_in, width_at}
use Rattle.driver_trees.specs.Sketches.{IsRegisterIn, IsSketchOf}
use Rattle.driver_loops.proofs.Members.{nothing_in}
use Rattle.elaborate.specs.Counts.{IsCounted, added, all_cells, capped, cells_in, count_at, draft_cells, output_cells, register_cells, register_roots, root_ids}
use Rattle.elaborate.specs.Lowered.{AreNeeded}

abbrev output_roots : List CellId → List ℕ
output_roots os = map (λ (o : CellId). o.0) os

-- ---- every register and output is there

later : (x : ℕ) (a : ℕ) (xs : List ℕ) → Contains xs x → Contains (a ∷ xs) x
later x a xs h = (suc h.0, (let l = h.1 in omega arith), h.2)

register-listed : (rs : List Register) (k : ℕ) (d : Register) → k < length rs → Contains (register_roots rs) (get_or rs k d).next.0 × Contains (register_roots rs) (get_or rs k d).clock.0
register-listed [] k d l = absurd (omega arith)
register-listed (r ∷ rs) zero d l = ((1, (omega arith), refl), (0, (omega arith), refl))
register-listed (r ∷ rs) (suc k) d l =
    let h = register-listed rs k d (omega arith) in let both = λ (x : ℕ) (g : Contains (register_roots rs) x). later x r.clock.0 (r.next.0 ∷ register_roots rs) (later x r.next.0 (register_roots rs) g) in
    (both _ h.0, both _ h.1)

output-listed : (os : List CellId) (k : ℕ) (d : CellId) → k < length os → Contains (output_roots os) (get_or os k d).0
output-listed [] k d l = absurd (omega arith)
output-listed (o ∷ os) zero d l = (0, (omega arith), refl)
output-listed (o ∷ os) (suc k) d l = later _ o.0 (output_roots os) (output-listed os k d (omega arith))

pub roots-needed : (s : Sketch) → AreNeeded s (root_ids s)
roots-needed s =
    let first = register_roots s.registers.items in let rest = output_roots s.outputs.items in record {
      registers = λ k d l. let h = register-listed s.registers.items k d l in (Contains-append_left first rest _ h.0, Contains-append_left first rest _ h.1);
      outputs = λ k d l. Contains-append_right first rest _ (output-listed s.outputs.items k d l);
    }

-- ---- nothing else is

module _ (f : Flat) (ds : List Draft) where
  register-below : (rs : List Register) → All (IsRegisterIn f ds) rs → (v k : ℕ) → k < length (register_roots rs) → get_or (register_roots rs) k v ≡ v → v < length ds
  register-below [] all v k l e = absurd (omega arith)
  register-below (r ∷ rs) all v zero l e = subst (λ n. n < length ds) e (All-head (IsRegisterIn f ds) r rs all).clock.0
  register-below (r ∷ rs) all v (suc zero) l e = subst (λ n. n < length ds) e (All-head (IsRegisterIn f ds) r rs all).next.0
  register-below (r ∷ rs) all v (suc (suc k)) l e = register-below rs (All-tail (IsRegisterIn f ds) r rs all) v k (omega arith) e

  abbrev Stands : CellId → Type 0
  Stands o = IsDraftOf ds o (width_at ds o)

  output-below : (os : List CellId) → All Stands os → (v k : ℕ) → k < length (output_roots os) → get_or (output_roots os) k v ≡ v → v < length ds
  output-below [] all v k l e = absurd (omega arith)
  output-below (o ∷ os) all v zero l e = subst (λ n. n < length ds) e (All-head Stands o os all).0
  output-below (o ∷ os) all v (suc k) l e = output-below os (All-tail Stands o os all) v k (omega arith) e

  pub root-below : (s : Sketch) → IsSketchOf f ds s → (v : ℕ) → Contains (root_ids s) v → v < length ds
  root-below s sketch v h = elim (Contains-append_cases (register_roots s.registers.items) (output_roots s.outputs.items) v h) [
    | inl g ↦ register-below s.registers.items sketch.registers v g.0 g.1 g.2
    | inr g ↦ output-below s.outputs.items sketch.outputs_stand v g.0 g.1 g.2
  ]

-- ---- one more

pub register-roots-more : (old mid new : List ℕ) (rs : List Register) (k : ℕ) (d : Register) → k < length rs → mid ≡ old ++ (get_or rs k d).clock.0 ∷ [] → new ≡ mid ++ (get_or rs k d).next.0 ∷ []
    → new ++ register_roots (drop (k + 1) rs) ≡ old ++ register_roots (drop k rs)
register-roots-more old mid new rs k d l first second =
    let r = get_or rs k d in let rest = register_roots (drop (k + 1) rs) in
    ap (λ vs. vs ++ rest) second ∙ append_assoc mid (r.next.0 ∷ []) rest ∙ ap (λ vs. vs ++ (r.next.0 ∷ rest)) first ∙ append_assoc old (r.clock.0 ∷ []) (r.next.0 ∷ rest)
    ∙ ap (λ qs. old ++ register_roots qs) (sym (drop_more rs k d l))

pub output-roots-more : (old new : List ℕ) (os : List CellId) (k : ℕ) (d : CellId) → k < length os → new ≡ old ++ (get_or os k d).0 ∷ []
    → new ++ map (λ (o : CellId). o.0) (drop (k + 1) os) ≡ old ++ map (λ (o : CellId). o.0) (drop k os)
output-roots-more old new os k d l pushed =
    let o = get_or os k d in let rest = output_roots (drop (k + 1) os) in
    ap (λ vs. vs ++ rest) pushed ∙ append_assoc old (o.0 ∷ []) rest ∙ ap (λ qs. old ++ output_roots qs) (sym (drop_more os k d l))

-- ---- their cells

module _ (sel : Selects) (ds : List Draft) where
  cells-append : (xs ys : List ℕ) → draft_cells sel ds (xs ++ ys) ≡ draft_cells sel ds xs + draft_cells sel ds ys
  cells-append [] ys = let e : draft_cells sel ds ys ≡ 0 + draft_cells sel ds ys = omega arith in e
  cells-append (v ∷ xs) ys = let e = cells-append xs ys in omega arith

  pub roots-counted : (ps : List Piece) (counts vs : List ℕ) → ((v : ℕ) → Contains vs v → IsCounted sel ds ps counts v × (v < length ds)) → capped (added counts vs) ≡ capped (draft_cells sel ds vs)
  roots-counted ps counts [] all = refl
  roots-counted ps counts (v ∷ vs) all =
      let here = all v (0, (omega arith), refl) in
      let one : count_at counts v ≡ capped (cells_in (tree_in sel ds (record { 0 = v }))) = here.0.draft (record { 0 = v }) refl here.1 in
      let rest = roots-counted ps counts vs (λ x h. all x (later x v vs h)) in
      omega arith

  module _ (f : Flat) where
    registers-cells : AreTrees f sel → (rs : List Register) → All (IsRegisterIn f ds) rs → draft_cells sel ds (register_roots rs) ≡ register_cells f sel (map (λ (r : Register). r.sig) rs)
    registers-cells trees [] all = refl
    registers-cells trees (r ∷ rs) all =
        let is = All-head (IsRegisterIn f ds) r rs all in
        let clock = ap cells_in (is.clock_tree sel) in let next = ap cells_in (is.next_tree sel trees) in
        ap₂ (λ a b. a + b) clock (ap₂ (λ a b. a + b) next (registers-cells trees rs (All-tail (IsRegisterIn f ds) r rs all)))

    outputs-cells : (os : List CellId) (xs : List ℕ) → map (tree_in sel ds) os ≡ map (tree_of f sel) xs → draft_cells sel ds (output_roots os) ≡ output_cells f sel xs
    outputs-cells [] [] e = refl
    outputs-cells [] (x ∷ xs) e = cc
    outputs-cells (o ∷ os) [] e = cc
    outputs-cells (o ∷ os) (x ∷ xs) e =
        let here : tree_in sel ds o ≡ tree_of f sel x = cc in let rest : map (tree_in sel ds) os ≡ map (tree_of f sel) xs = cc in
        ap₂ (λ a b. a + b) (ap cells_in here) (outputs-cells os xs rest)

    pub roots-cells : (s : Sketch) → AreTrees f sel → IsSketchOf f ds s → map (λ (r : Register). r.sig) s.registers.items ≡ register_signals 0 f.signals → draft_cells sel ds (root_ids s) ≡ all_cells f sel
    roots-cells s trees sketch names =
        cells-append (register_roots s.registers.items) (output_roots s.outputs.items)
        ∙ ap₂ (λ a b. a + b) (registers-cells trees s.registers.items sketch.registers ∙ ap (register_cells f sel) names) (outputs-cells s.outputs.items f.outputs (sketch.outputs sel))

-- ---- an order that has the roots

pub needed-in : (s : Sketch) (order : List ℕ) → ((v : ℕ) → Contains (root_ids s) v → Contains order v) → AreNeeded s order
needed-in s order all =
    let n = roots-needed s in record {
      registers = λ k d l. (all _ (n.registers k d l).0, all _ (n.registers k d l).1);
      outputs = λ k d l. all _ (n.outputs k d l);
    }
