-- What a walk over cells adds to those that it has met, and the order that a sort gives them.
use Rattle.std.proofs.Common.{◌≡◌, ◌∙◌, ◌⊎◌, inl, inr, Result, Ok, Err, sym, ap, subst, refl, rules, arith, ℕ, zero, suc, ◌<◌, ◌≤◌, ◌+◌, List, [], ◌∷◌, Some, slice_get, Bool, true, false, nat_lt, ltb-true, ltb-false, length, take, get_or}
use Rattle.std.specs.Prelude.{OnOk}
use Rattle.std.specs.Cmp.{IsTotalOrder, IsEquivalence}
use Rattle.std.specs.Cmp.Rules.{comparing}
use Rattle.std.specs.List.{AllByRecursion, Contains}
use Rattle.std.proofs.lemmas.List.Elements.{Contains-push_cases}
use Rattle.std.proofs.lemmas.List.{take_more}
use Rattle.std.proofs.lemmas.Option.{slice_get_within, slice_get-get_or, get_or_from_slice_get, unwrap_or-slice_get}
use Rattle.std.specs.List.Sorted.{IsStrictlySortedBy}
use Rattle.std.proofs.Common.{Ordering, Less}
use Rattle.std.specs.Ordering.{eq_by_cmp}
use Rattle.cell_graph.specs.contracts.cell.CellIdOrd.TheImpl as order
use Rattle.cell_graph.specs.declared.cell.Cell.{Cell}
use Rattle.cell_graph.specs.declared.cell.Cell.TheVariants.{Var, Const, Not, And, Or, Xor, Add, Sub, Eq, Lt, Shl, Shr, Mux, Concat, Slice, Extend, Reduce}
use Rattle.cell_graph.specs.declared.cell.CellId.{CellId}
use Rattle.cell_graph.specs.Below.{IsOperand, IsBelow, root, operand, AreAscending, KeepPlaces}
use Rattle.cell_graph.specs.Cells.{Cells, cell_at}
use Rattle.cell_graph.specs.Unfolded.{IsCellOf, IsWellFormed}
use Rattle.cell_graph.specs.Met.{same_id}

pub on_ok : {T E : Type 0} {P Q : Type 0} (r : Result T E) → (P → Q) → OnOk r P → OnOk r Q
on_ok (Ok t) f h = f h
on_ok (Err e) f h = tt

-- what was met before, or first, or then
pub met_in_turn : {O M A B : Type 0} → (M → O ⊎ A) → M ⊎ B → O ⊎ (A ⊎ B)
met_in_turn f (inr b) = inr (inr b)
met_in_turn f (inl m) = elim (f m) [ inl o ↦ inl o | inr a ↦ inr (inl a) ]

pub met_more : {O A B : Type 0} → (A → B) → O ⊎ A → O ⊎ B
met_more f (inl o) = inl o
met_more f (inr a) = inr (f a)

pub both_operands : (cell : Cell) (a b : CellId) → (cell ≡ And a b) ⊎ ((cell ≡ Or a b) ⊎ ((cell ≡ Xor a b) ⊎ ((cell ≡ Add a b) ⊎ ((cell ≡ Sub a b) ⊎ ((cell ≡ Eq a b) ⊎ ((cell ≡ Lt a b) ⊎ ((cell ≡ Shl a b) ⊎ ((cell ≡ Shr a b) ⊎ (cell ≡ Concat a b))))))))) → (x : CellId) → (x ≡ a) ⊎ (x ≡ b) → IsOperand cell x
both_operands cell a b (inl e) x h = subst (λ d. IsOperand d x) (sym e) h
both_operands cell a b (inr (inl e)) x h = subst (λ d. IsOperand d x) (sym e) h
both_operands cell a b (inr (inr (inl e))) x h = subst (λ d. IsOperand d x) (sym e) h
both_operands cell a b (inr (inr (inr (inl e)))) x h = subst (λ d. IsOperand d x) (sym e) h
both_operands cell a b (inr (inr (inr (inr (inl e))))) x h = subst (λ d. IsOperand d x) (sym e) h
both_operands cell a b (inr (inr (inr (inr (inr (inl e)))))) x h = subst (λ d. IsOperand d x) (sym e) h
both_operands cell a b (inr (inr (inr (inr (inr (inr (inl e))))))) x h = subst (λ d. IsOperand d x) (sym e) h
both_operands cell a b (inr (inr (inr (inr (inr (inr (inr (inl e)))))))) x h = subst (λ d. IsOperand d x) (sym e) h
both_operands cell a b (inr (inr (inr (inr (inr (inr (inr (inr (inl e))))))))) x h = subst (λ d. IsOperand d x) (sym e) h
both_operands cell a b (inr (inr (inr (inr (inr (inr (inr (inr (inr e))))))))) x h = subst (λ d. IsOperand d x) (sym e) h

-- ---- the order of cells

pub id_order : CellId → CellId → Ordering
id_order = order.ghosts.cmp

pub total : IsTotalOrder order.ghosts.cmp
total = search (comparing, rules)

pub equal_ids : IsEquivalence same_id
equal_ids = search (comparing, rules)

pub same_id-is : (a b : CellId) → same_id a b ≡ true → a ≡ b
same_id-is a b h = search rules

pub ties : (a b : CellId) → same_id a b ≡ eq_by_cmp order.ghosts.cmp a b
ties a b = search (comparing, rules)

less : (a b : CellId) → order.ghosts.cmp a b ≡ Less → a.0 < b.0
less a b h = search rules

all_get : (P : CellId → Type 0) (xs : List CellId) (j : ℕ) (d : CellId) → AllByRecursion P xs → slice_get xs j ≡ Some d → P d
all_get P [] j d h e = absurd (cc)
all_get P (x ∷ xs) zero d h e = let s : x ≡ d = cc in subst P s h.0
all_get P (x ∷ xs) (suc j) d h e = all_get P xs j d h.1 e

pub ascending : (cells : List CellId) → IsStrictlySortedBy order.ghosts.cmp cells → AreAscending cells
unfolding IsStrictlySortedBy
ascending [] h i j c d lt at there = cc
ascending (x ∷ xs) h zero zero c d lt at there = absurd (omega arith)
ascending (x ∷ xs) h zero (suc j) c d lt at there = let s : x ≡ c = cc in subst (λ (y : CellId). y.0 < d.0) s (less x d (all_get (λ y. order.ghosts.cmp x y ≡ Less) xs j d h.0 there))
ascending (x ∷ xs) h (suc i) zero c d lt at there = absurd (omega arith)
ascending (x ∷ xs) h (suc i) (suc j) c d lt at there = ascending xs h.1 i j c d (omega arith) at there

-- ---- the steps of the walk

pub take_all : (xs : List CellId) (n : ℕ) → length xs ≤ n → take n xs ≡ xs
take_all [] zero h = refl
take_all [] (suc n) h = refl
take_all (x ∷ xs) zero h = absurd (omega arith)
take_all (x ∷ xs) (suc n) h = ap (λ ys. x ∷ ys) (take_all xs n (omega arith))

pub take_cases : (xs : List CellId) (i : ℕ) (d x : CellId) → i < length xs → Contains (take (i + 1) xs) x → Contains (take i xs) x ⊎ (get_or xs i d ≡ x)
take_cases xs i d x lt h = Contains-push_cases (take i xs) (get_or xs i d) x (subst (λ ys. Contains ys x) (take_more xs i d lt) h)

pub contains_get : (xs : List CellId) (k : ℕ) (c : CellId) → slice_get xs k ≡ Some c → Contains xs c
contains_get xs k c e = (k, slice_get_within xs k c e, get_or_from_slice_get xs k c c e)

pub get_contains : (xs : List CellId) (c : CellId) → Contains xs c → (k : ℕ) × (k < length xs) × (slice_get xs k ≡ Some c)
get_contains xs c h = (h.0, h.1, slice_get-get_or xs h.0 c h.1 ∙ ap Some h.2)

module _ (g : Cells) (roots old new : List CellId) (place : ℕ) (cell : CellId) (at : slice_get old place ≡ Some cell) (places : KeepPlaces old new)
    (kept : (c : CellId) → Contains old c → Contains new c) (there : (c : CellId) → IsOperand (cell_at g cell) c → Contains new c)
    (only : (c : CellId) → Contains new c → Contains old c ⊎ IsOperand (cell_at g cell) c) where
  pub more_closed : ((k : ℕ) (c x : CellId) → k < place → slice_get old k ≡ Some c → IsOperand (cell_at g c) x → Contains old x)
      → (k : ℕ) (c x : CellId) → k < place + 1 → slice_get new k ≡ Some c → IsOperand (cell_at g c) x → Contains new x
  more_closed closed k c x lt e op = go (nat_lt k place) refl
    where
      go : (b : Bool) → nat_lt k place ≡ b → Contains new x
      go true t =
          let l = ltb-true k place t in
          let w : place < length old = slice_get_within old place cell at in
          let o = slice_get-get_or old k cell (omega arith) in
          let n = places k (get_or old k cell) o in
          let s : get_or old k cell ≡ c = cc in
          kept x (closed k c x l (o ∙ ap Some s) op)
      go false t =
          let l = ltb-false k place t in
          let is : place ≡ k = omega arith in
          let n = places place cell at in
          let m = ap (slice_get new) is in
          let s : c ≡ cell = cc in
          there x (subst (λ d. IsOperand (cell_at g d) x) s op)

  pub more_below : ((c : CellId) → Contains old c → IsBelow g roots c) → (c : CellId) → Contains new c → IsBelow g roots c
  more_below below c h = go (only c h)
    where
      go : Contains old c ⊎ IsOperand (cell_at g cell) c → IsBelow g roots c
      go (inl k) = below c k
      go (inr op) = operand (below cell (contains_get old place cell at)) op

-- ---- the cells of a graph that is well formed

before : (n : ℕ) (a x : CellId) → x ≡ a → a.0 < n → x.0 < n
before n a x e h = subst (λ (y : CellId). y.0 < n) (sym e) h

-- operands stand before their cell
pub operand-before : (g : Cells) (n : ℕ) (c : Cell) → IsCellOf g n c → (x : CellId) → IsOperand c x → x.0 < n
operand-before g n (Var sig) h x op = absurd op
operand-before g n (Const w value) h x op = absurd op
operand-before g n (Not a) h x op = before n a x op h
operand-before g n (And a b) h x (inl e) = before n a x e h.0
operand-before g n (And a b) h x (inr e) = before n b x e h.1
operand-before g n (Or a b) h x (inl e) = before n a x e h.0
operand-before g n (Or a b) h x (inr e) = before n b x e h.1
operand-before g n (Xor a b) h x (inl e) = before n a x e h.0
operand-before g n (Xor a b) h x (inr e) = before n b x e h.1
operand-before g n (Add a b) h x (inl e) = before n a x e h.0
operand-before g n (Add a b) h x (inr e) = before n b x e h.1
operand-before g n (Sub a b) h x (inl e) = before n a x e h.0
operand-before g n (Sub a b) h x (inr e) = before n b x e h.1
operand-before g n (Eq a b) h x (inl e) = before n a x e h.0
operand-before g n (Eq a b) h x (inr e) = before n b x e h.1
operand-before g n (Lt a b) h x (inl e) = before n a x e h.0
operand-before g n (Lt a b) h x (inr e) = before n b x e h.1
operand-before g n (Shl a b) h x (inl e) = before n a x e h.0
operand-before g n (Shl a b) h x (inr e) = before n b x e h.1
operand-before g n (Shr a b) h x (inl e) = before n a x e h.0
operand-before g n (Shr a b) h x (inr e) = before n b x e h.1
operand-before g n (Concat a b) h x (inl e) = before n a x e h.0
operand-before g n (Concat a b) h x (inr e) = before n b x e h.1
operand-before g n (Mux c y z) h x (inl e) = before n c x e h.0
operand-before g n (Mux c y z) h x (inr (inl e)) = before n y x e h.2.0
operand-before g n (Mux c y z) h x (inr (inr e)) = before n z x e h.2.1
operand-before g n (Slice a at w) h x op = before n a x op h.0
operand-before g n (Extend a w) h x op = before n a x op h.0
operand-before g n (Reduce kind a) h x op = before n a x op h

-- a place of the graph has its cell
pub cell-there : (g : Cells) (id : CellId) → id.0 < length g.cells → slice_get g.cells id.0 ≡ Some (cell_at g id)
cell-there g id h = slice_get-get_or g.cells id.0 (Const 1 0) h ∙ ap Some (sym (unwrap_or-slice_get g.cells id.0 (Const 1 0)))

module _ (g : Cells) (roots : List CellId) (well : IsWellFormed g) (within : (c : CellId) → Contains roots c → c.0 < length g.cells) where
  pub below-within : (c : CellId) → IsBelow g roots c → c.0 < length g.cells
  below-within c (root h) = within c h
  below-within x (operand {c = c} below op) =
      let lt = below-within c below in
      let first = operand-before g c.0 (cell_at g c) (well.cells c.0 (cell_at g c) (cell-there g c lt)) x op in
      omega arith
