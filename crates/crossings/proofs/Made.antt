-- A bit that reads b is b itself, or is made of a bit that reads b.
use Rattle.std.proofs.Common.{◌≡◌, ◌∙◌, ◌⊎◌, inl, inr, refl, sym, ap, arith, ℕ, ◌+◌, ◌-◌, ◌<◌, ◌==◌, Bool, true, false, cond, nat_lt, ltb-true, ltb-false, eqb-true, length, Option, Some, None, is_some, []}
use Rattle.std.proofs.lemmas.Bool.{both_ways}
use Rattle.cdc_base.specs.declared.bit.Bit.{Bit}
use Rattle.cell_graph.specs.declared.cell.Cell.{Cell}
use Rattle.cell_graph.specs.declared.cell.Cell.TheVariants as cell
use Rattle.cell_graph.specs.declared.cell.CellId.{CellId}
use Rattle.cell_graph.specs.declared.cell.ReduceKind.TheVariants as kind
use Rattle.cell_graph.specs.Cells.{Cells, cell_at, cell_width}
use Rattle.cell_graph.specs.Cofactor.{known, known_number, on_number, same, reads, if_known_to_be, chosen, agreed_bit}
use Rattle.cell_graph.specs.Tree.{Tree, width}
use Rattle.cell_graph.specs.Unfolded.{unfolded, trees, tree_of, IsCellOf, IsWellFormed}
use Rattle.cell_graph.proofs.Bits.{bit_eq-true}
use Rattle.cell_graph.proofs.Cones.{cell-there}
use Rattle.cell_graph.proofs.Trees.{width-tree_of, tree_of-cell}
use Rattle.cofactor.specs.Made.{IsMovedUp, IsMovedDown, IsOfChoice, IsMadeOf}
use Rattle.cofactor.proofs.ReadBits.{reads-known, reads-same, reads-made}
use Rattle.cdc_model.proofs.Net.{no_bit, unless_none, if_cases, agreed_first, self_reads}
use Rattle.crossings.specs.Readings.{IsFed}

-- the test of a choice that gives a bit
unless-out : (c : Bool) (s : Option Bit) (b : Bit) → cond c None s ≡ Some b → (c ≡ false) × (s ≡ Some b)
unless-out true s b h = no_bit b h
unless-out false s b h = (refl, h)

if-in : (c : Bool) (s : Option Bit) (b : Bit) → cond c s None ≡ Some b → (c ≡ true) × (s ≡ Some b)
if-in true s b h = (refl, h)
if-in false s b h = no_bit b h

by-number : (o : Option ℕ) (f : ℕ → Option Bit) (b : Bit) → on_number o None f ≡ Some b → (n : ℕ) × (o ≡ Some n) × (f n ≡ Some b)
by-number None f b h = no_bit b h
by-number (Some n) f b h = (n, refl, h)

module _ (g : Cells) (well : IsWellFormed g) (b : Bit) (id : CellId) (lt : id.0 < length g.cells) where
  abbrev T : Cell → Tree
  T c = unfolded g.signals (trees g) c

  abbrev K : CellId → ℕ → Option Bool
  K x = known [] (tree_of g x)

  abbrev S : CellId → ℕ → Option Bit
  S x i = same [] (tree_of g x) i

  -- the cell is the signal of b, and the bit is that of b
  abbrev pub IsSource : Cell → ℕ → Type 0
  IsSource c i = (c ≡ cell.Var b.sig) × (i ≡ b.at)

  tree : (c : Cell) → cell_at g id ≡ c → tree_of g id ≡ unfolded g.signals (trees g) c
  tree c e = tree_of-cell g well id c (cell-there g id lt ∙ ap Some e)

  is-cell : (c : Cell) → cell_at g id ≡ c → IsCellOf g id.0 c
  is-cell c e = well.cells id.0 c (cell-there g id lt ∙ ap Some e)

  within : (x : CellId) (j : ℕ) → j < width (tree_of g x) → j < cell_width g x
  within x j l = let w = width-tree_of g x in omega arith

  fed-by : (c : Cell) (i : ℕ) (x : CellId) (j : ℕ) → IsMadeOf g [] c i x j → j < cell_width g x → S x j ≡ Some b → IsSource c i ⊎ IsFed g b c i
  fed-by c i x j m l h = inr (x, j, m, l, self_reads [] (tree_of g x) j b h)

  of-source : (sig i : ℕ) → ◌≡◌ {A = Option Bit} (Some (record { sig = sig; at = i })) (Some b) → IsSource (cell.Var sig) i
  of-source sig i h =
      let e : ◌≡◌ {A = Bit} (record { sig = sig; at = i }) b = cc in
      (ap (λ (a : Bit). cell.Var a.sig) e, ap (λ (a : Bit). a.at) e)

  of-gate : (c : Cell) (x y : CellId) (i : ℕ) (v : Bool) (k : Option Bool) → cell_width g x ≡ cell_width g y → i < width (tree_of g x) → ((z : CellId) → (z ≡ x) ⊎ (z ≡ y) → IsMadeOf g [] c i z i)
      → cond (is_some k) None (if_known_to_be (K x i) v (S y i) (if_known_to_be (K y i) v (S x i) None)) ≡ Some b → IsSource c i ⊎ IsFed g b c i
  of-gate c x y i v k e l made h =
      let u = within x i l in
      elim (if_cases (K x i) v (S y i) (if_known_to_be (K y i) v (S x i) None) b (unless_none k (if_known_to_be (K x i) v (S y i) (if_known_to_be (K y i) v (S x i) None)) b h).1) [
        | inl f ↦ fed-by c i y i (made y (inr refl)) (omega arith) f
        | inr f ↦ elim (if_cases (K y i) v (S x i) None b f) [
          | inl s ↦ fed-by c i x i (made x (inl refl)) u s
          | inr s ↦ no_bit b s
        ]
      ]

  of-choice : (c y z : CellId) (i : ℕ) (o : Option Bool) → cell_width g y ≡ cell_width g z → i < width (tree_of g y) → chosen o (S y i) (S z i) (agreed_bit (S y i) (S z i)) ≡ Some b
      → (x : CellId) × IsOfChoice o c y z i x i × (i < cell_width g x) × (S x i ≡ Some b)
  of-choice c y z i (Some true) e l h = (y, (refl, refl), within y i l, h)
  of-choice c y z i (Some false) e l h = let u = within y i l in (z, (refl, refl), omega arith, h)
  of-choice c y z i None e l h = (y, inr (inl refl, refl), within y i l, agreed_first (S y i) (S z i) b h)

  moved-up : (a by : CellId) (i : ℕ) (o : Option ℕ) → on_number o None (λ n. cond (nat_lt i n) None (cond (nat_lt (i - n) (width (tree_of g a))) (S a (i - n)) None)) ≡ Some b
      → (x : CellId) × (j : ℕ) × IsMovedUp g o a by i x j × (j < cell_width g x) × (S x j ≡ Some b)
  moved-up a by i None h = no_bit b h
  moved-up a by i (Some n) h =
      let p = unless-out (nat_lt i n) (cond (nat_lt (i - n) (width (tree_of g a))) (S a (i - n)) None) b h in
      let q = if-in (nat_lt (i - n) (width (tree_of g a))) (S a (i - n)) b p.1 in
      let le = ltb-false i n p.0 in
      (a, i - n, (refl, omega arith), within a (i - n) (ltb-true (i - n) (width (tree_of g a)) q.0), q.1)

  moved-down : (a by : CellId) (i : ℕ) (o : Option ℕ) → on_number o None (λ n. cond (nat_lt (i + n) (width (tree_of g a))) (S a (i + n)) None) ≡ Some b
      → (x : CellId) × (j : ℕ) × IsMovedDown g o a by i x j × (j < cell_width g x) × (S x j ≡ Some b)
  moved-down a by i None h = no_bit b h
  moved-down a by i (Some n) h =
      let q = if-in (nat_lt (i + n) (width (tree_of g a))) (S a (i + n)) b h in
      (a, i + n, (refl, refl), within a (i + n) (ltb-true (i + n) (width (tree_of g a)) q.0), q.1)

  of-one : (c : Cell) (a : CellId) (i : ℕ) → ((j : ℕ) → j < cell_width g a → IsMadeOf g [] c i a j) → cond (width (tree_of g a) == 1) (S a 0) None ≡ Some b → IsSource c i ⊎ IsFed g b c i
  of-one c a i made h =
      let p = if-in (width (tree_of g a) == 1) (S a 0) b h in
      let w = eqb-true (width (tree_of g a)) 1 p.0 in
      let l = within a 0 (omega arith) in
      fed-by c i a 0 (made 0 l) l p.1

  same-by : (c : Cell) → cell_at g id ≡ c → (i : ℕ) → i < width (T c) → same [] (T c) i ≡ Some b → IsSource c i ⊎ IsFed g b c i
  same-by (cell.Var sig) e i l h = inl (of-source sig i (unless_none (known [] (T (cell.Var sig)) i) (Some (record { sig = sig; at = i })) b h).1)
  same-by (cell.Const w value) e i l h = no_bit b h
  same-by (cell.Not a) e i l h = no_bit b h
  same-by (cell.And x y) e i l h = of-gate (cell.And x y) x y i true (known [] (T (cell.And x y)) i) (is-cell (cell.And x y) e).2 l (λ z p. (p, refl)) h
  same-by (cell.Or x y) e i l h = of-gate (cell.Or x y) x y i false (known [] (T (cell.Or x y)) i) (is-cell (cell.Or x y) e).2 l (λ z p. (p, refl)) h
  same-by (cell.Xor x y) e i l h = of-gate (cell.Xor x y) x y i false (known [] (T (cell.Xor x y)) i) (is-cell (cell.Xor x y) e).2 l (λ z p. (p, refl)) h
  same-by (cell.Add x y) e i l h = no_bit b h
  same-by (cell.Sub x y) e i l h = no_bit b h
  same-by (cell.Eq x y) e i l h = no_bit b h
  same-by (cell.Lt x y) e i l h = no_bit b h
  same-by (cell.Shl a by) e i l h =
      let m = moved-up a by i (known_number (K by) (cell_width g by))
      (ap (λ w. on_number (known_number (K by) w) None (λ n. cond (nat_lt i n) None (cond (nat_lt (i - n) (width (tree_of g a))) (S a (i - n)) None))) (width-tree_of g by) ∙ h) in
      fed-by (cell.Shl a by) i m.0 m.1 m.2 m.3 m.4
  same-by (cell.Shr a by) e i l h =
      let m = moved-down a by i (known_number (K by) (cell_width g by))
      (ap (λ w. on_number (known_number (K by) w) None (λ n. cond (nat_lt (i + n) (width (tree_of g a))) (S a (i + n)) None)) (width-tree_of g by) ∙ h) in
      fed-by (cell.Shr a by) i m.0 m.1 m.2 m.3 m.4
  same-by (cell.Mux c y z) e i l h =
      let m = of-choice c y z i (K c 0) (is-cell (cell.Mux c y z) e).2.2 l (unless_none (known [] (T (cell.Mux c y z)) i) (chosen (K c 0) (S y i) (S z i) (agreed_bit (S y i) (S z i))) b h).1 in
      fed-by (cell.Mux c y z) i m.0 i m.1 m.2 m.3
  same-by (cell.Concat high low) e i l h = go (nat_lt i (width (tree_of g low))) refl h
    where
      go : (v : Bool) → nat_lt i (width (tree_of g low)) ≡ v → cond v (S low i) (S high (i - width (tree_of g low))) ≡ Some b → IsSource (cell.Concat high low) i ⊎ IsFed g b (cell.Concat high low) i
      go true t k = let n = within low i (ltb-true i (width (tree_of g low)) t) in fed-by (cell.Concat high low) i low i (inl (refl, n, refl)) n k
      go false t k =
          let n = ltb-false i (width (tree_of g low)) t in
          let w = width-tree_of g low in
          fed-by (cell.Concat high low) i high (i - width (tree_of g low)) (inr (refl, omega arith)) (within high (i - width (tree_of g low)) (omega arith)) k
  same-by (cell.Slice a at w) e i l h = let fits = (is-cell (cell.Slice a at w) e).2 in fed-by (cell.Slice a at w) i a (at + i) (refl, refl) (omega arith) h
  same-by (cell.Extend a w) e i l h =
      let p = if-in (nat_lt i (width (tree_of g a))) (S a i) b h in
      let n = within a i (ltb-true i (width (tree_of g a)) p.0) in
      fed-by (cell.Extend a w) i a i (refl, n, refl) n p.1
  same-by (cell.Reduce kind.And a) e i l h = of-one (cell.Reduce kind.And a) a i (λ j m. (refl, m)) h
  same-by (cell.Reduce kind.Or a) e i l h = of-one (cell.Reduce kind.Or a) a i (λ j m. (refl, m)) h
  same-by (cell.Reduce kind.Xor a) e i l h = of-one (cell.Reduce kind.Xor a) a i (λ j m. (refl, m)) h

  -- a bit that reads b is b, or made of a bit that reads it
  pub reads-by : (i : ℕ) → i < cell_width g id → reads [] (tree_of g id) i b ≡ true → IsSource (cell_at g id) i ⊎ IsFed g b (cell_at g id) i
  reads-by i l r = go (known [] (tree_of g id) i) (same [] (tree_of g id) i) refl refl
    where
      go : (o : Option Bool) (s : Option Bit) → known [] (tree_of g id) i ≡ o → same [] (tree_of g id) i ≡ s → IsSource (cell_at g id) i ⊎ IsFed g b (cell_at g id) i
      go (Some v) s k e = absurd (both_ways (reads [] (tree_of g id) i b) (reads-known [] (tree_of g id) i b v k) r)
      go None (Some a) k e =
          let is : a ≡ b = bit_eq-true a b (sym (reads-same [] (tree_of g id) i b a e) ∙ r) in
          let t = tree (cell_at g id) refl in
          same-by (cell_at g id) refl i (let w = width-tree_of g id in let v = ap width t in omega arith) (ap (λ u. same [] u i) (sym t) ∙ e ∙ ap Some is)
      go None None k e = inr (reads-made g well [] id lt i l k e b r)
