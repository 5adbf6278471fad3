-- One cell more that is kept for its signal.
use Rattle.std.proofs.Common.{◌≡◌, ◌∙◌, inl, inr, sym, ap, refl, subst, arith, ℕ, zero, suc, ◌+◌, ◌<◌, length, Option, Some, List, [], ◌∷◌}
use Rattle.std.specs.Prelude.{slice_get}
use Rattle.std.proofs.Math.ListN.{set}
use Rattle.std.proofs.lemmas.Bool.{cases_eq}
use Rattle.std.proofs.lemmas.List.{length-set}
use Rattle.cell_graph.specs.declared.cell.Cell.TheVariants.{Var}
use Rattle.cell_graph.specs.declared.cell.CellId.{CellId}
use Rattle.cell_graph.specs.Cells.{Cells, cell_at}
use Rattle.fifo_parts.specs.Sides.{AreVarsBelow}

get_here : {X : Type 0} (xs : List X) (i : ℕ) (v : X) → i < length xs → slice_get (set xs i v) i ≡ Some v
get_here [] i v l = absurd (omega arith)
get_here (x ∷ xs) zero v l = refl
get_here (x ∷ xs) (suc i) v l = get_here xs i v (omega (arith, l))

get_other : {X : Type 0} (xs : List X) (i k : ℕ) (v : X) → (k ≡ i → ⊥) → slice_get (set xs i v) k ≡ slice_get xs k
get_other [] i k v ne = refl
get_other (x ∷ xs) zero zero v ne = absurd (ne refl)
get_other (x ∷ xs) zero (suc k) v ne = refl
get_other (x ∷ xs) (suc i) zero v ne = refl
get_other (x ∷ xs) (suc i) (suc k) v ne = get_other xs i k v (λ e. ne (ap suc e))

module _ (g : Cells) (c : CellId) (inside : c.0 < length g.cells) (cells : List (Option CellId)) (are : AreVarsBelow g c.0 cells) where
  pub vars_more : (sig : ℕ) → cell_at g c ≡ Var sig → sig < length cells → AreVarsBelow g (c.0 + 1) (set cells sig (Some c))
  vars_more sig is within = record {
    places = length-set cells sig (Some c) ∙ are.places;
    only = λ s d at. elim (cases_eq s sig) [
      | inl e ↦
          let same : Some (Some d) ≡ Some (Some c) = sym at ∙ ap (slice_get (set cells sig (Some c))) e ∙ get_here cells sig (Some c) within in
          let it : d ≡ c = cc in
          (ap (cell_at g) it ∙ is ∙ ap (λ k. Var k) (sym e), subst (λ (x : CellId). x.0 < length g.cells) (sym it) inside)
      | inr ne ↦ are.only s d (sym (get_other cells sig s (Some c) ne) ∙ at)
    ];
    all = λ s d l there in_list. elim (cases_eq s sig) [
      | inl e ↦ (c, ap (slice_get (set cells sig (Some c))) e ∙ get_here cells sig (Some c) within)
      | inr ne ↦ let k = are.all s d (earlier s d l there ne) there (subst (λ n. s < n) (length-set cells sig (Some c)) in_list) in
          (k.0, get_other cells sig s (Some c) ne ∙ k.1)
    ];
  }
    where
      earlier : (s : ℕ) (d : CellId) → d.0 < c.0 + 1 → cell_at g d ≡ Var s → (s ≡ sig → ⊥) → d.0 < c.0
      earlier s d l there ne = elim (cases_eq d.0 c.0) [
        | inl e ↦ absurd (ne (let same : Var s ≡ Var sig = sym there ∙ ap (λ (k : ℕ). cell_at g (let x : CellId = record { 0 = k } in x))
            e ∙ is in cc))
        | inr far ↦ omega arith
      ]
