-- What a walk asks for behind bits of a cell, for each kind of cell.
use Rattle.std.proofs.Common.{◌≡◌, ◌∙◌, ◌⊎◌, inl, inr, sym, ap, subst, refl, arith, ℕ, ◌+◌, ◌*◌, ◌/◌, ◌%◌, ◌-◌, ◌^◌, ◌<◌, ◌≤◌, min, true, false, List, Option, Some, None}
use Rattle.std.specs.Prelude.{bit_and}
use Rattle.cell_graph.specs.declared.cell.Cell.{Cell}
use Rattle.cell_graph.specs.declared.cell.Cell.TheVariants.{Shl, Shr, Mux, Concat, Slice, Extend, Reduce}
use Rattle.cell_graph.specs.declared.cell.CellId.{CellId}
use Rattle.cell_graph.specs.declared.cell.ReduceKind.{ReduceKind}
use Rattle.cell_graph.specs.Below.{IsOperand}
use Rattle.cell_graph.specs.Cells.{Cells, cell_width}
use Rattle.cell_graph.specs.Cofactor.{known, known_number}
use Rattle.cell_graph.specs.Reading.{Cube}
use Rattle.cell_graph.specs.Tree.{bit_at}
use Rattle.cell_graph.specs.Unfolded.{IsWellFormed, tree_of}
use Rattle.cell_graph.proofs.CellValues.{width-64}
use Rattle.cell_graph.proofs.Trees.{width-tree_of}
use Rattle.cell_graph.proofs.Words.{bit-within}
use Rattle.cofactor.specs.declared.walk.Wanted.{Wanted}
use Rattle.cofactor.specs.Made.{HasBit, IsMovedUp, IsMovedDown, IsOfChoice, IsMadeOf}
use Rattle.cofactor.specs.Shown.{Shown, place_in, HasPlace}
use Rattle.cofactor.specs.Walked.{IsAsked, IsPartOf, AreMakers}
use Rattle.cofactor.proofs.Makers.{ones-there, ones-only, down-there, down-only, up-there, up-only}
use Rattle.cofactor.proofs.Walks.{and-parts, and-whole}

-- each bit was asked for of which these bits of the cell are made
abbrev pub AskedOf : Cells → Cube → Shown → ℕ → List Wanted → Cell → Type 0
AskedOf g cube t bits new c = (i j : ℕ) (x : CellId) → bit_at bits i ≡ true → IsMadeOf g cube c i x j → j < cell_width g x → HasPlace t x → IsAsked t new x j

pub small-width : (g : Cells) → IsWellFormed g → (id : CellId) → cell_width g id ≤ 64
small-width g well id = let l = width-64 g well id in let e = width-tree_of g id in omega arith

-- a cell that is one of two, or of three
pub of-two : (P : Cell → Type 0) (c d e : Cell) → P d → P e → (c ≡ d) ⊎ (c ≡ e) → P c
of-two P c d e p q (inl h) = subst P (sym h) p
of-two P c d e p q (inr h) = subst P (sym h) q

pub of-three : (P : Cell → Type 0) (c d e f : Cell) → P d → P e → P f → (c ≡ d) ⊎ ((c ≡ e) ⊎ (c ≡ f)) → P c
of-three P c d e f p q r (inl h) = subst P (sym h) p
of-three P c d e f p q r (inr (inl h)) = subst P (sym h) q
of-three P c d e f p q r (inr (inr h)) = subst P (sym h) r

module _ (g : Cells) (cube : Cube) (t : Shown) (bits : ℕ) where
  moved-to : (new : List Wanted) (a x : CellId) (j : ℕ) → x ≡ a → (HasPlace t a → IsAsked t new a j) → HasPlace t x → IsAsked t new x j
  moved-to new a x j e f = subst (λ y. HasPlace t y → IsAsked t new y j) (sym e) f

  pub one-maker : (c : Cell) (a : CellId) (r : ℕ) (w : Wanted) → IsOperand c a → ((j : ℕ) → bit_at r j ≡ true → j < cell_width g a → (i : ℕ) × (bit_at bits i ≡ true) × IsMadeOf g cube c i a j)
      → IsPartOf t a r w → AreMakers g cube t c bits w
  one-maker c a r w op f p = (a, op, p.0, λ j s l. f j (p.1 j s) l)

  pub two-makers : (c : Cell) (a b : CellId) (r : ℕ) (w : Wanted) → ((x : CellId) → (x ≡ a) ⊎ (x ≡ b) → IsOperand c x)
      → ((x : CellId) (j : ℕ) → (x ≡ a) ⊎ (x ≡ b) → bit_at r j ≡ true → (i : ℕ) × (bit_at bits i ≡ true) × IsMadeOf g cube c i x j)
      → (x : CellId) × ((x ≡ a) ⊎ (x ≡ b)) × IsPartOf t x r w → AreMakers g cube t c bits w
  two-makers c a b r w op f p = (p.0, op p.0 p.1, p.2.0, λ j s l. f p.0 j p.1 (p.2.1 j s))

  -- ---- shifts

  abbrev Amount : CellId → Option ℕ
  Amount by = known_number (known cube (tree_of g by)) (cell_width g by)

  pub shl-asked : (new : List Wanted) (a by : CellId) (n r : ℕ) → Some n ≡ Amount by → r ≡ bits / 2 ^ n → (HasPlace t a → (i : ℕ) → bit_at r i ≡ true → IsAsked t new a i) → AskedOf g cube t bits new (Shl a by)
  shl-asked new a by n r e d f i j x set made l = let m = subst (λ o. IsMovedUp g o a by i x j) (sym e) made in moved-to new a x j m.0 (λ q. f q j (down-there bits n r i j d set m.1))

  pub shl-only : (a by : CellId) (n r : ℕ) (w : Wanted) → Some n ≡ Amount by → r ≡ bits / 2 ^ n → IsPartOf t a r w → AreMakers g cube t (Shl a by) bits w
  shl-only a by n r w e d = one-maker (Shl a by) a r w (inl refl) (λ j s l. (j + n, down-only bits n r j d s, subst (λ o. IsMovedUp g o a by (j + n) a j) e (refl, refl)))

  pub shr-asked : IsWellFormed g → (new : List Wanted) (a by : CellId) (n r : ℕ) → Some n ≡ Amount by → r ≡ bits * 2 ^ n % 2 ^ 64 → (HasPlace t a → (i : ℕ) → bit_at r i ≡ true → IsAsked t new a i) → AskedOf g cube t bits new (Shr a by)
  shr-asked well new a by n r e d f i j x set made l =
      let m = subst (λ o. IsMovedDown g o a by i x j) (sym e) made in
      let k = small-width g well x in
      moved-to new a x j m.0 (λ q. f q j (up-there bits n r i j d set m.1 (omega arith)))

  pub shr-only : (a by : CellId) (n r : ℕ) (w : Wanted) → Some n ≡ Amount by → r ≡ bits * 2 ^ n % 2 ^ 64 → r < 2 ^ 64 → IsPartOf t a r w → AreMakers g cube t (Shr a by) bits w
  shr-only a by n r w e d small = one-maker (Shr a by) a r w (inl refl) (λ j s l. let u = up-only bits n r j d small s in (u.0, u.1, subst (λ o. IsMovedDown g o a by u.0 a j) e (refl, u.2)))

  pub shl-all : IsWellFormed g → (new : List Wanted) (a by : CellId) → None ≡ Amount by
      → ((x : CellId) → (x ≡ a) ⊎ (x ≡ by) → HasPlace t x → (i : ℕ) → i < cell_width g x → i < 64 → IsAsked t new x i) → AskedOf g cube t bits new (Shl a by)
  shl-all well new a by e f i j x set made l place = let m = subst (λ o. IsMovedUp g o a by i x j) (sym e) made in let k = small-width g well x in f x m.0 place j l (omega arith)

  pub shr-all : IsWellFormed g → (new : List Wanted) (a by : CellId) → None ≡ Amount by
      → ((x : CellId) → (x ≡ a) ⊎ (x ≡ by) → HasPlace t x → (i : ℕ) → i < cell_width g x → i < 64 → IsAsked t new x i) → AskedOf g cube t bits new (Shr a by)
  shr-all well new a by e f i j x set made l place = let m = subst (λ o. IsMovedDown g o a by i x j) (sym e) made in let k = small-width g well x in f x m.0 place j l (omega arith)

  pub shl-any : (a by : CellId) (w : Wanted) → None ≡ Amount by → HasBit bits → (x : CellId) × ((x ≡ a) ⊎ (x ≡ by)) × (place_in t.cells x ≡ Some w.place) → AreMakers g cube t (Shl a by) bits w
  shl-any a by w e some p = (p.0, p.1, p.2, λ j s l. (some.0, some.1, subst (λ o. IsMovedUp g o a by some.0 p.0 j) e (p.1, l)))

  pub shr-any : (a by : CellId) (w : Wanted) → None ≡ Amount by → HasBit bits → (x : CellId) × ((x ≡ a) ⊎ (x ≡ by)) × (place_in t.cells x ≡ Some w.place) → AreMakers g cube t (Shr a by) bits w
  shr-any a by w e some p = (p.0, p.1, p.2, λ j s l. (some.0, some.1, subst (λ o. IsMovedDown g o a by some.0 p.0 j) e (p.1, l)))

  -- ---- choices

  pub chosen-only : (c y z : CellId) (w : Wanted) → Some true ≡ known cube (tree_of g c) 0 → IsPartOf t y bits w → AreMakers g cube t (Mux c y z) bits w
  chosen-only c y z w e = one-maker (Mux c y z) y bits w (inr (inl refl)) (λ j s l. (j, s, subst (λ o. IsOfChoice o c y z j y j) e (refl, refl)))

  pub other-only : (c y z : CellId) (w : Wanted) → Some false ≡ known cube (tree_of g c) 0 → IsPartOf t z bits w → AreMakers g cube t (Mux c y z) bits w
  other-only c y z w e = one-maker (Mux c y z) z bits w (inr (inr refl)) (λ j s l. (j, s, subst (λ o. IsOfChoice o c y z j z j) e (refl, refl)))

  zero-bit : (j : ℕ) → bit_at 1 j ≡ true → j ≡ 0
  zero-bit j s = let l = bit-within 1 1 j (let z : 1 < 2 ^ 1 = omega arith in z) s in omega arith

  pub condition-only : (c y z : CellId) (w : Wanted) → None ≡ known cube (tree_of g c) 0 → HasBit bits → IsPartOf t c 1 w → AreMakers g cube t (Mux c y z) bits w
  condition-only c y z w e some = one-maker (Mux c y z) c 1 w (inl refl) (λ j s l. (some.0, some.1, subst (λ o. IsOfChoice o c y z some.0 c j) e (inl (refl, zero-bit j s))))

  pub branches-only : (c y z : CellId) (w : Wanted) → None ≡ known cube (tree_of g c) 0 → (x : CellId) × ((x ≡ y) ⊎ (x ≡ z)) × IsPartOf t x bits w → AreMakers g cube t (Mux c y z) bits w
  branches-only c y z w e = two-makers (Mux c y z) y z bits w (λ x h. inr h) (λ x j h s. (j, s, subst (λ o. IsOfChoice o c y z j x j) e (inr (h, refl))))

  pub choice-asked : (mid new : List Wanted) (c y z : CellId) → None ≡ known cube (tree_of g c) 0 → ((x : CellId) (i : ℕ) → IsAsked t mid x i → IsAsked t new x i)
      → (HasPlace t c → (i : ℕ) → bit_at 1 i ≡ true → IsAsked t mid c i)
      → ((x : CellId) → (x ≡ y) ⊎ (x ≡ z) → HasPlace t x → (i : ℕ) → bit_at bits i ≡ true → IsAsked t new x i)
      → (i j : ℕ) (x : CellId) → bit_at bits i ≡ true → IsMadeOf g cube (Mux c y z) i x j → HasPlace t x → IsAsked t new x j
  choice-asked mid new c y z e keep first both i j x set made place = go (subst (λ o. IsOfChoice o c y z i x j) (sym e) made)
    where
      go : IsOfChoice None c y z i x j → IsAsked t new x j
      go (inl m) = moved-to new c x j m.0 (λ q. keep c j (first q j (ap (bit_at 1) m.1))) place
      go (inr m) = both x m.0 place j (ap (bit_at bits) m.1 ∙ set)

  -- ---- parts of words

  pub parts-asked : (mid new : List Wanted) (high low : CellId) (v m r : ℕ) → v ≡ cell_width g low → m ≡ 2 ^ min v 64 - 1 → r ≡ bits / 2 ^ v → bits < 2 ^ 64
      → ((x : CellId) (i : ℕ) → IsAsked t mid x i → IsAsked t new x i)
      → (HasPlace t low → (i : ℕ) → bit_at (bit_and bits m) i ≡ true → IsAsked t mid low i) → (HasPlace t high → (i : ℕ) → bit_at r i ≡ true → IsAsked t new high i)
      → (i j : ℕ) (x : CellId) → bit_at bits i ≡ true → IsMadeOf g cube (Concat high low) i x j → HasPlace t x → IsAsked t new x j
  parts-asked mid new high low v m r e ones d small keep first second i j x set (inl k) place =
      let l = bit-within bits 64 i small set in
      let n = k.1 in
      let f = k.2 in
      moved-to new low x j k.0 (λ q. keep low j (first q j (ap (bit_at (bit_and bits m)) k.2 ∙ and-whole bits m i set (ones-there m v (cell_width g low) i ones e n l)))) place
  parts-asked mid new high low v m r e ones d small keep first second i j x set (inr k) place =
      let f = k.1 in
      moved-to new high x j k.0 (λ q. second q j (down-there bits v r i j d set (omega arith))) place

  pub low-only : (high low : CellId) (v m : ℕ) (w : Wanted) → v ≡ cell_width g low → m ≡ 2 ^ min v 64 - 1 → IsPartOf t low (bit_and bits m) w → AreMakers g cube t (Concat high low) bits w
  low-only high low v m w e ones = one-maker (Concat high low) low (bit_and bits m) w (inr refl)
      (λ j s l. let p = and-parts bits m j s in (j, p.0, inl (refl, ones-only m v (cell_width g low) j ones e p.1, refl)))

  pub high-only : (high low : CellId) (v r : ℕ) (w : Wanted) → v ≡ cell_width g low → r ≡ bits / 2 ^ v → IsPartOf t high r w → AreMakers g cube t (Concat high low) bits w
  high-only high low v r w e d = one-maker (Concat high low) high r w (inl refl) (λ j s l. (j + v, down-only bits v r j d s, inr (refl, ap (λ n. j + n) e)))

  pub slice-asked : IsWellFormed g → (new : List Wanted) (a : CellId) (at v n r : ℕ) → n ≡ at → r ≡ bits * 2 ^ n % 2 ^ 64 → (HasPlace t a → (i : ℕ) → bit_at r i ≡ true → IsAsked t new a i) → AskedOf g cube t bits new (Slice a at v)
  slice-asked well new a at v n r e d f i j x set made l =
      let k = small-width g well x in let m = made.1 in moved-to new a x j made.0 (λ q. f q j (up-there bits n r i j d set (omega arith) (omega arith)))

  pub slice-only : (a : CellId) (at v n r : ℕ) (w : Wanted) → n ≡ at → r ≡ bits * 2 ^ n % 2 ^ 64 → r < 2 ^ 64 → IsPartOf t a r w → AreMakers g cube t (Slice a at v) bits w
  slice-only a at v n r w e d small = one-maker (Slice a at v) a r w refl (λ j s l. let u = up-only bits n r j d small s in let p = u.2 in (u.0, u.1, (refl, omega arith)))

  pub extend-asked : IsWellFormed g → (new : List Wanted) (a : CellId) (v u m : ℕ) → u ≡ cell_width g a → m ≡ 2 ^ min u 64 - 1 → (HasPlace t a → (i : ℕ) → bit_at (bit_and bits m) i ≡ true → IsAsked t new a i)
      → AskedOf g cube t bits new (Extend a v)
  extend-asked well new a v u m e ones f i j x set made l =
      let k = small-width g well a in
      let n = made.1 in
      let p = made.2 in
      moved-to new a x j made.0 (λ q. f q j (and-whole bits m j (ap (bit_at bits) made.2 ∙ set) (ones-there m u (cell_width g a) j ones e (omega arith) (omega arith))))

  pub extend-only : (a : CellId) (v u m : ℕ) (w : Wanted) → u ≡ cell_width g a → m ≡ 2 ^ min u 64 - 1 → IsPartOf t a (bit_and bits m) w → AreMakers g cube t (Extend a v) bits w
  extend-only a v u m w e ones = one-maker (Extend a v) a (bit_and bits m) w refl (λ j s l. let p = and-parts bits m j s in (j, p.0, (refl, ones-only m u (cell_width g a) j ones e p.1, refl)))

  -- ---- whole words

  pub reduce-asked : IsWellFormed g → (new : List Wanted) (k : ReduceKind) (a : CellId) (u m : ℕ) → u ≡ cell_width g a → m ≡ 2 ^ min u 64 - 1 → (HasPlace t a → (i : ℕ) → bit_at m i ≡ true → IsAsked t new a i)
      → AskedOf g cube t bits new (Reduce k a)
  reduce-asked well new k a u m e ones f i j x set made l = let s = small-width g well a in let n = made.1 in moved-to new a x j made.0 (λ q. f q j (ones-there m u (cell_width g a) j ones e n (omega arith)))

  pub reduce-only : (k : ReduceKind) (a : CellId) (u m : ℕ) (w : Wanted) → u ≡ cell_width g a → m ≡ 2 ^ min u 64 - 1 → HasBit bits → IsPartOf t a m w → AreMakers g cube t (Reduce k a) bits w
  reduce-only k a u m w e ones some = one-maker (Reduce k a) a m w refl (λ j s l. (some.0, some.1, (refl, ones-only m u (cell_width g a) j ones e s)))

  pub whole-asked : IsWellFormed g → (new : List Wanted) (a b : CellId) (u m : ℕ) → u ≡ cell_width g a → m ≡ 2 ^ min u 64 - 1
      → ((x : CellId) → (x ≡ a) ⊎ (x ≡ b) → HasPlace t x → (i : ℕ) → bit_at m i ≡ true → IsAsked t new x i)
      → (i j : ℕ) (x : CellId) → bit_at bits i ≡ true → ((x ≡ a) ⊎ (x ≡ b)) × (j < cell_width g a) → j < cell_width g x → HasPlace t x → IsAsked t new x j
  whole-asked well new a b u m e ones f i j x set made l place = let s = small-width g well a in let n = made.1 in f x made.0 place j (ones-there m u (cell_width g a) j ones e n (omega arith))
