-- The places of cells in a table.
use Rattle.std.proofs.Common.{◌≡◌, ◌∙◌, sym, ap, subst, refl, arith, ℕ, zero, suc, ◌+◌, ◌<◌, ◌≤◌, ◌==◌, Bool, true, false, cond, List, [], ◌∷◌, length, get_or, Option, Some, None, option_map, slice_get, eqb-true, eq-eqb, nat_lt, ltb-true, ltb-false, Ordering, Less, Equal, Greater, nat_cmp, ◌++◌, unwrap_or, Result, Ok, Err}
use Rattle.std.specs.Ordering.{is_lt, ordering_index}
use Rattle.std.specs.List.Sorted.{IsSortedBy, IsNonDecreasingBy}
use Rattle.std.proofs.lemmas.List.Sorted.{searchable_from_sorted}
use Rattle.cell_graph.proofs.Cones.{total, operand-before, cell-there, contains_get, get_contains}
use Rattle.std.specs.Option.{option_and_then}
use Rattle.std.specs.Prelude.{IfOk}
use Rattle.std.proofs.lemmas.Bool.{eqb-false}
use Rattle.std.proofs.lemmas.Option.{slice_get_within, get_or_from_slice_get, slice_get-get_or}
use Rattle.cell_graph.specs.contracts.cell.CellIdOrd.TheImpl as order
use Rattle.cell_graph.specs.declared.cell.CellId.{CellId}
use Rattle.cell_graph.specs.Below.{IsOperand, IsBelow, root, operand, IsClosed, AreIn, AreAscending}
use Rattle.std.specs.List.{Contains}
use Rattle.cell_graph.specs.Cells.{Cells, cell_at, cell_width}
use Rattle.cell_graph.specs.Reading.{Cube}
use Rattle.cell_graph.specs.Cofactor.{known, same}
use Rattle.cell_graph.specs.Unfolded.{IsWellFormed, tree_of}
use Rattle.cofactor.specs.declared.table.Row.{Row}
use Rattle.cofactor.specs.Masks.{masks_of}
use Rattle.cofactor.specs.Shown.{Shown, place_among, place_in, no_row, row_at, masks_at, IsSame, ShowsMasks, ShowsSames, KeepBits, IsComplete}
use Rattle.cell_graph.specs.Tree.{bit_at}
use Rattle.cofactor.proofs.SamePush.{sames-stay}

pub same-cell : (a b : CellId) → a.0 ≡ b.0 → a ≡ b
same-cell a b e = ap (λ (k : ℕ). let c : CellId = record { 0 = k } in c) e

pub among-get : (cs : List CellId) (id : CellId) (n : ℕ) → place_among cs id ≡ Some n → slice_get cs n ≡ Some id
among-get [] id n h = absurd (cc)
among-get (c ∷ cs) id n h = go (c.0 == id.0) refl (place_among cs id) refl h (among-get cs id)
  where
    go : (b : Bool) → (c.0 == id.0) ≡ b → (o : Option ℕ) → place_among cs id ≡ o → cond b (Some 0) (option_map (λ n. suc n) o) ≡ Some n
        → ((m : ℕ) → place_among cs id ≡ Some m → slice_get cs m ≡ Some id) → slice_get (c ∷ cs) n ≡ Some id
    go true e o p h ih = let z : 0 ≡ n = cc in subst (λ k. slice_get (c ∷ cs) k ≡ Some id) z (ap Some (same-cell c id (eqb-true c.0 id.0 e)))
    go false e None p h ih = absurd (cc)
    go false e (Some m) p h ih = let z : suc m ≡ n = cc in subst (λ k. slice_get (c ∷ cs) k ≡ Some id) z (ih m p)

pub get-among : (cs : List CellId) (id : CellId) (n : ℕ) → AreAscending cs → slice_get cs n ≡ Some id → place_among cs id ≡ Some n
get-among [] id n up h = absurd (cc)
get-among (c ∷ cs) id zero up h =
    let e : c ≡ id = cc in
    ap (λ b. cond b (Some 0) (option_map (λ n. suc n) (place_among cs id))) (eq-eqb c.0 id.0 (ap (λ (x : CellId). x.0) e))
get-among (c ∷ cs) id (suc n) up h =
    let lt = up 0 (suc n) c id (omega arith) refl h in
    ap (λ b. cond b (Some 0) (option_map (λ n. suc n) (place_among cs id))) (no (c.0 == id.0) refl lt)
    ∙ ap (option_map (λ n. suc n)) (get-among cs id n (λ i j x y l p q. up (suc i) (suc j) x y (omega arith) p q) h)
  where
    no : (b : Bool) → (c.0 == id.0) ≡ b → c.0 < id.0 → (c.0 == id.0) ≡ false
    no true e lt = absurd (let s = eqb-true c.0 id.0 e in omega arith)
    no false e lt = e

cmp-by : (x y : ℕ) (P : Ordering → Type 0) → (x < y → P Less) → (x ≡ y → P Equal) → (y < x → P Greater) → P (nat_cmp x y)
cmp-by x y P l e g = go (nat_lt x y) refl (x == y) refl
  where
    go : (b : Bool) → nat_lt x y ≡ b → (d : Bool) → (x == y) ≡ d → P (cond b Less (cond d Equal Greater))
    go true p d q = l (ltb-true x y p)
    go false p true q = e (eqb-true x y q)
    go false p false q = g (let m = ltb-false x y p in let n : x ≡ y → ⊥ = eqb-false x y q in omega arith)

not-below : (a b : CellId) → a.0 < b.0 → is_lt (order.ghosts.cmp b a) ≡ false
not-below a b h = cmp-by b.0 a.0 (λ o. is_lt o ≡ false) (λ l. absurd (omega arith)) (λ e. refl) (λ g. refl)

equal-order : (x y : ℕ) → nat_cmp x y ≡ Equal → x ≡ y
equal-order x y = cmp-by x y (λ o. o ≡ Equal → x ≡ y) (λ l h. absurd (cc)) (λ e h. e) (λ g h. absurd (cc))

not-less : (x : ℕ) → nat_cmp x x ≡ Less → ⊥
not-less x = cmp-by x x (λ o. o ≡ Less → ⊥) (λ l h. omega arith) (λ e h. cc) (λ g h. omega arith)

not-greater : (x : ℕ) → nat_cmp x x ≡ Greater → ⊥
not-greater x = cmp-by x x (λ o. o ≡ Greater → ⊥) (λ l h. omega arith) (λ e h. cc) (λ g h. omega arith)

pub sorted : (cs : List CellId) → AreAscending cs → IsSortedBy (λ a b. is_lt (order.ghosts.cmp a b)) cs
sorted cs up = λ k d low high. not-below (get_or cs k d) (get_or cs (k + 1) d)
    (up k (k + 1) (get_or cs k d) (get_or cs (k + 1) d) (omega arith) (slice_get-get_or cs k d (omega arith)) (slice_get-get_or cs (k + 1) d high))

pub found-at : (cs : List CellId) (x : CellId) (place : ℕ) → AreAscending cs → place < length cs → ((d : CellId) → nat_cmp (get_or cs place d).0 x.0 ≡ Equal) → Some place ≡ place_among cs x
found-at cs x place up lt h = sym (get-among cs x place up (slice_get-get_or cs place x lt ∙ ap Some (same-cell (get_or cs place x) x (equal-order (get_or cs place x).0 x.0 (h x)))))

pub found-nowhere : (cs : List CellId) (x : CellId) (i : ℕ) → AreAscending cs
    → (IsNonDecreasingBy (λ y. ordering_index (order.ghosts.cmp y x)) cs
    → ((k : ℕ) (d : CellId) → 0 ≤ k → k < i → nat_cmp (get_or cs k d).0 x.0 ≡ Less) × ((k : ℕ) (d : CellId) → i ≤ k → k < length cs → nat_cmp (get_or cs k d).0 x.0 ≡ Greater))
    → None ≡ place_among cs x
found-nowhere cs x i up h = go (place_among cs x) refl
  where
    go : (o : Option ℕ) → place_among cs x ≡ o → None ≡ place_among cs x
    go None e = sym e
    go (Some n) e = at (nat_lt n i) refl
      where
        here : slice_get cs n ≡ Some x
        here = among-get cs x n e

        parts : ((k : ℕ) (d : CellId) → 0 ≤ k → k < i → nat_cmp (get_or cs k d).0 x.0 ≡ Less) × ((k : ℕ) (d : CellId) → i ≤ k → k < length cs → nat_cmp (get_or cs k d).0 x.0 ≡ Greater)
        parts = h (searchable_from_sorted total (λ y. y) cs x (sorted cs up))

        same : (get_or cs n x).0 ≡ x.0
        same = ap (λ (y : CellId). y.0) (get_or_from_slice_get cs n x x here)

        at : (b : Bool) → nat_lt n i ≡ b → None ≡ place_among cs x
        at true t = absurd (not-less x.0 (ap (λ y. nat_cmp y x.0) (sym same) ∙ parts.0 n x (omega arith) (ltb-true n i t)))
        at false t = absurd (not-greater x.0 (ap (λ y. nat_cmp y x.0) (sym same) ∙ parts.1 n x (ltb-false n i t) (slice_get_within cs n x here)))

-- the answers of a result, each made into another
pub if_ok : {T E : Type 0} {P Q : T → Type 0} (r : Result T E) → ((t : T) → P t → Q t) → IfOk r P → IfOk r Q
if_ok (Ok t) f h = f t h
if_ok (Err e) f h = tt

pub three_if : {T E : Type 0} {P Q R S : T → Type 0} (r : Result T E) → ((t : T) → P t → Q t → R t → S t) → IfOk r P → IfOk r Q → IfOk r R → IfOk r S
three_if (Ok t) f p q r = f t p q r
three_if (Err e) f p q r = tt

some-is : (m n : ℕ) → Some m ≡ Some n → m ≡ n
some-is m n e = cc

-- all cells of a graph are complete
pub complete-all : (g : Cells) → IsWellFormed g → IsComplete g None (length g.cells)
complete-all g well place id lt at =
    let is : id.0 ≡ place = some-is id.0 place at in
    let here : id.0 < length g.cells = omega arith in
    (here, λ a op. (a.0, (let l = operand-before g id.0 (cell_at g id) (well.cells id.0 (cell_at g id) (cell-there g id here)) a op in omega arith), refl))

-- so are cells of it that ascend, with each its operands
pub complete-below : (g : Cells) (cs : List CellId) → IsWellFormed g → AreIn g cs → IsClosed g cs → AreAscending cs → IsComplete g (Some cs) (length cs)
complete-below g cs well within closed up place id lt at =
    let there = among-get cs id place at in
    let has = contains_get cs place id there in
    let here = within id has in (
      here,
      λ a op.
          let k = get_contains cs a (closed id a has op) in
          (k.0, earlier k.0 place a id k.2 there (operand-before g id.0 (cell_at g id) (well.cells id.0 (cell_at g id) (cell-there g id here)) a op), get-among cs a k.0 up k.2),
    )
  where
    earlier : (i j : ℕ) (x y : CellId) → slice_get cs i ≡ Some x → slice_get cs j ≡ Some y → x.0 < y.0 → i < j
    earlier i j x y p q l = go (nat_lt i j) refl (nat_lt j i) refl
      where
        go : (b : Bool) → nat_lt i j ≡ b → (d : Bool) → nat_lt j i ≡ d → i < j
        go true s d t = ltb-true i j s
        go false s true t = absurd (let m = up j i y x (ltb-true j i t) q p in omega arith)
        go false s false t =
            let m = ltb-false i j s in
            let n = ltb-false j i t in
            let e : i ≡ j = omega arith in
            let f : slice_get cs i ≡ slice_get cs j = ap (slice_get cs) e in
            let same : x ≡ y = cc in
            absurd (let z = ap (λ (c : CellId). c.0) same in omega arith)

-- ---- one more row

-- the masks of a cell whose place is known
masks-there : (t : Shown) (id : CellId) (n : ℕ) → place_in t.cells id ≡ Some n → masks_at t id ≡ (unwrap_or (slice_get t.rows n) no_row).masks
masks-there t id n e = ap (λ o. (unwrap_or (option_and_then (slice_get t.rows) o) no_row).masks) e

push-old : (xs : List Row) (y : Row) (k : ℕ) → k < length xs → slice_get (xs ++ y ∷ []) k ≡ slice_get xs k
push-old [] y k h = absurd (omega arith)
push-old (x ∷ xs) y zero h = refl
push-old (x ∷ xs) y (suc k) h = push-old xs y k (omega arith)

push-new : (xs : List Row) (y : Row) (k : ℕ) → k ≡ length xs → slice_get (xs ++ y ∷ []) k ≡ Some y
push-new [] y k h = ap (slice_get (y ∷ [])) h
push-new (x ∷ xs) y zero h = absurd (omega arith)
push-new (x ∷ xs) y (suc k) h = push-new xs y k (omega arith)

module _ (g : Cells) (well : IsWellFormed g) (cube : Cube) (cells : Option (List CellId)) (count n : ℕ) (old new : Shown) (row : Row) (cell : CellId)
    (within : n < count) (complete : IsComplete g cells count) (unmoved : old.cells ≡ cells) (still : new.cells ≡ old.cells) (counted : length old.rows ≡ n) (rows : new.rows ≡ old.rows ++ row ∷ [])
    (is : (id : CellId) → id.0 < length g.cells → place_in old.cells id ≡ Some n → cell ≡ id) where
  at-old : (id : CellId) (place : ℕ) → place_in cells id ≡ Some place → place_in old.cells id ≡ Some place
  at-old id place e = ap (λ o. place_in o id) unmoved ∙ e

  at-new : (id : CellId) (place : ℕ) → place_in cells id ≡ Some place → place_in new.cells id ≡ Some place
  at-new id place e = ap (λ o. place_in o id) (still ∙ unmoved) ∙ e

  -- rows of earlier places are as they were
  masks-kept : (id : CellId) (place : ℕ) → place < n → place_in cells id ≡ Some place → masks_at new id ≡ masks_at old id
  masks-kept id place lt e = masks-there new id place (at-new id place e)
      ∙ ap (λ (o : Option Row). (unwrap_or o no_row).masks) (ap (λ rs. slice_get rs place) rows ∙ push-old old.rows row place (omega arith))
      ∙ sym (masks-there old id place (at-old id place e))

  row-kept : (id : CellId) (place : ℕ) → place < n → place_in cells id ≡ Some place → row_at new id ≡ row_at old id
  row-kept id place lt e = ap (λ o. unwrap_or (option_and_then (slice_get new.rows) o) no_row) (at-new id place e)
      ∙ ap (λ (o : Option Row). unwrap_or o no_row) (ap (λ rs. slice_get rs place) rows ∙ push-old old.rows row place (omega arith))
      ∙ sym (ap (λ o. unwrap_or (option_and_then (slice_get old.rows) o) no_row) (at-old id place e))

  row-new : (id : CellId) (place : ℕ) → place ≡ n → place_in cells id ≡ Some place → row_at new id ≡ row
  row-new id place at e = ap (λ o. unwrap_or (option_and_then (slice_get new.rows) o) no_row) (at-new id place e)
      ∙ ap (λ (o : Option Row). unwrap_or o no_row) (ap (λ rs. slice_get rs place) rows ∙ push-new old.rows row place (at ∙ sym counted))

  pub sames-more : KeepBits old.sames new.sames → ((place : ℕ) (id : CellId) → place < n → place_in cells id ≡ Some place → ShowsMasks g cube old id)
      → ((place : ℕ) (id : CellId) → place < n → place_in cells id ≡ Some place → ShowsSames g cube old id)
      → (cell.0 < length g.cells → ((a : CellId) → IsOperand (cell_at g cell) a → ShowsMasks g cube old a) → ((a : CellId) → IsOperand (cell_at g cell) a → ShowsSames g cube old a)
      → (i : ℕ) → i < cell_width g cell → IsSame (bit_at row.same i) (slice_get new.sames (row.start + i)) (same cube (tree_of g cell) i))
      → (place : ℕ) (id : CellId) → place < n + 1 → place_in cells id ≡ Some place → ShowsSames g cube new id
  sames-more keep before told made place id lt e = go (nat_lt place n) refl
    where
      go : (b : Bool) → nat_lt place n ≡ b → ShowsSames g cube new id
      go true s = let l = ltb-true place n s in sames-stay g cube old new id (row-kept id place l e) keep (told place id l e)
      go false s = λ i small.
          let l = ltb-false place n s in
          let at : place ≡ n = omega arith in
          let here = complete place id (omega arith) e in
          let it : cell ≡ id = is id here.0 (at-old id place e ∙ ap Some at) in
          subst (λ (r : Row). IsSame (bit_at r.same i) (slice_get new.sames (r.start + i)) (same cube (tree_of g id) i)) (sym (row-new id place at e))
          (subst (λ c. IsSame (bit_at row.same i) (slice_get new.sames (row.start + i)) (same cube (tree_of g c) i)) it
          (made (subst (λ (c : CellId). c.0 < length g.cells) (sym it) here.0)
          (λ a op. let k = here.1 a (subst (λ c. IsOperand (cell_at g c) a) it op) in before k.0 a (let m = k.1 in omega arith) k.2)
          (λ a op. let k = here.1 a (subst (λ c. IsOperand (cell_at g c) a) it op) in told k.0 a (let m = k.1 in omega arith) k.2)
          i (subst (λ c. i < cell_width g c) (sym it) small)))

  pub masks-more : ((place : ℕ) (id : CellId) → place < n → place_in cells id ≡ Some place → ShowsMasks g cube old id)
      → (cell.0 < length g.cells → ((a : CellId) → IsOperand (cell_at g cell) a → ShowsMasks g cube old a) → row.masks ≡ masks_of (known cube (tree_of g cell)) (cell_width g cell))
      → (place : ℕ) (id : CellId) → place < n + 1 → place_in cells id ≡ Some place → ShowsMasks g cube new id
  masks-more before made place id lt e = go (nat_lt place n) refl
    where
      go : (b : Bool) → nat_lt place n ≡ b → ShowsMasks g cube new id
      go true s = let l = ltb-true place n s in masks-kept id place l e ∙ before place id l e
      go false s =
          let l = ltb-false place n s in
          let at : place ≡ n = omega arith in
          let here = complete place id (omega arith) e in
          let it : cell ≡ id = is id here.0 (at-old id place e ∙ ap Some at) in
          masks-there new id place (at-new id place e)
          ∙ ap (λ (o : Option Row). (unwrap_or o no_row).masks) (ap (λ rs. slice_get rs place) rows ∙ push-new old.rows row place (at ∙ sym counted))
          ∙ made (subst (λ (c : CellId). c.0 < length g.cells) (sym it) here.0)
          (λ a op. let k = here.1 a (subst (λ c. IsOperand (cell_at g c) a) it op) in before k.0 a (let m = k.1 in omega arith) k.2)
          ∙ ap (λ c. masks_of (known cube (tree_of g c)) (cell_width g c)) it

-- a list that has the roots and with each cell its operands has all cells below
pub below-listed : (g : Cells) (roots cs : List CellId) → ((c : CellId) → Contains roots c → Contains cs c) → IsClosed g cs → (id : CellId) → IsBelow g roots id → Contains cs id
below-listed g roots cs first closed id (root h) = first id h
below-listed g roots cs first closed id (operand {c = c} b op) = closed c id (below-listed g roots cs first closed c b) op

-- the one cell of a list
pub only-root : (x c : CellId) → Contains (x ∷ []) c → x ≡ c
only-root x c h = go h.0 h.1 h.2
  where
    go : (k : ℕ) → k < 1 → get_or (x ∷ []) k c ≡ c → x ≡ c
    go zero l e = e
    go (suc k) l e = absurd (omega arith)

pub own-root : (x : CellId) → Contains (x ∷ []) x
own-root x = (0, omega arith, refl)

pub root-within : (g : Cells) (x : CellId) → x.0 < length g.cells → AreIn g (x ∷ [])
root-within g x lt c h = subst (λ (y : CellId). y.0 < length g.cells) (only-root x c h) lt
