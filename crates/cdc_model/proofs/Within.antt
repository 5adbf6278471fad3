-- What a bit of a cell reads lies in its signal.
use Rattle.std.proofs.Common.{◌≡◌, ◌⊎◌, inl, inr, refl, sym, ap, subst, arith, ℕ, zero, suc, ◌+◌, ◌-◌, ◌<◌, ◌≤◌, ◌==◌, ◌||◌, nat_lt, eqb-true, ltb-true, ltb-false, Bool, true, false, cond, Option, Some, None, is_some, List, length, slice_get}
use Rattle.std.specs.Option.{option_map_or}
use Rattle.std.proofs.lemmas.Bool.{or_cases}
use Rattle.cdc_base.specs.declared.bit.Bit.{Bit}
use Rattle.cdc_base.specs.declared.signal.Signal.{Signal}
use Rattle.cell_graph.specs.declared.cell.Cell.{Cell}
use Rattle.cell_graph.specs.declared.cell.Cell.TheVariants as cell
use Rattle.cell_graph.specs.declared.cell.CellId.{CellId}
use Rattle.cell_graph.specs.declared.cell.ReduceKind.TheVariants as kind
use Rattle.cell_graph.specs.Below.{IsOperand}
use Rattle.cell_graph.specs.Cells.{Cells, cell_at, cell_width, signal_width}
use Rattle.cell_graph.specs.Cofactor.{chosen, known, known_number, on_number, if_known_to_be, agreed_bit, same, reads_but, reads}
use Rattle.cell_graph.specs.Reading.{Cube}
use Rattle.cell_graph.specs.Tree.{Tree, Var, Const, Not, And, Or, Xor, Add, Sub, Eq, Lt, Shl, Shr, Mux, Concat, Slice, Extend, ReduceAnd, ReduceOr, ReduceXor, width, any_below}
use Rattle.cell_graph.specs.Unfolded.{unfolded, trees, tree_of, IsCellOf, IsWellFormed}
use Rattle.cell_graph.proofs.CellValues.{none-past}
use Rattle.cell_graph.proofs.Cones.{operand-before, cell-there}
use Rattle.cell_graph.proofs.Trees.{width-tree_of, tree_of-cell}
use Rattle.cdc_model.specs.Nets.{bit_count}
use Rattle.cdc_model.proofs.Net.{no_bit, unless_none, but_cases, if_cases, agreed_first, self_reads}

-- the parts of each bit lie in the operands
abbrev IsSized : List Signal → Tree → Type 0
IsSized signals (Var sig w) = w ≤ bit_count signals sig
IsSized signals (Const w v) = Unit {0}
IsSized signals (Not x) = IsSized signals x
IsSized signals (And x y) = IsSized signals x × IsSized signals y × (width x ≤ width y)
IsSized signals (Or x y) = IsSized signals x × IsSized signals y × (width x ≤ width y)
IsSized signals (Xor x y) = IsSized signals x × IsSized signals y × (width x ≤ width y)
IsSized signals (Add x y) = IsSized signals x × IsSized signals y × (width x ≤ width y)
IsSized signals (Sub x y) = IsSized signals x × IsSized signals y × (width x ≤ width y)
IsSized signals (Eq x y) = IsSized signals x × IsSized signals y × (width x ≤ width y)
IsSized signals (Lt x y) = IsSized signals x × IsSized signals y × (width x ≤ width y)
IsSized signals (Shl x by) = IsSized signals x × IsSized signals by
IsSized signals (Shr x by) = IsSized signals x × IsSized signals by
IsSized signals (Mux c x y) = IsSized signals c × IsSized signals x × IsSized signals y × (1 ≤ width c) × (width x ≤ width y)
IsSized signals (Concat high low) = IsSized signals high × IsSized signals low
IsSized signals (Slice x at w) = IsSized signals x × (at + w ≤ width x)
IsSized signals (Extend x w) = IsSized signals x
IsSized signals (ReduceAnd x) = IsSized signals x
IsSized signals (ReduceOr x) = IsSized signals x
IsSized signals (ReduceXor x) = IsSized signals x

-- ---- the cells of a graph

module _ (g : Cells) (n : ℕ) where
  alike : (a b : CellId) → cell_width g a ≡ cell_width g b → width (tree_of g a) ≤ width (tree_of g b)
  alike a b e = let p = width-tree_of g a in let q = width-tree_of g b in omega arith

  signal : (sig : ℕ) → sig < length g.signals → signal_width g.signals sig ≤ bit_count g.signals sig
  signal sig h = go (slice_get g.signals sig) refl
    where
      go : (o : Option Signal) → slice_get g.signals sig ≡ o → signal_width g.signals sig ≤ bit_count g.signals sig
      go None e = let past = none-past g.signals sig e in absurd (omega arith)
      go (Some s) e =
          let p : signal_width g.signals sig ≡ s.width = ap (λ (o : Option Signal). option_map_or (λ (s : Signal). s.width) o 1) e in
          let q : bit_count g.signals sig ≡ s.width = ap (λ (o : Option Signal). option_map_or (λ (s : Signal). s.width) o 0) e in
          omega arith

  sized-unfolded : (c : Cell) → IsCellOf g n c → ((a : CellId) → IsOperand c a → IsSized g.signals (tree_of g a)) → IsSized g.signals (unfolded g.signals (trees g) c)
  sized-unfolded (cell.Var sig) is below = signal sig is
  sized-unfolded (cell.Const w value) is below = tt
  sized-unfolded (cell.Not a) is below = below a refl
  sized-unfolded (cell.And a b) is below = (below a (inl refl), below b (inr refl), alike a b is.2)
  sized-unfolded (cell.Or a b) is below = (below a (inl refl), below b (inr refl), alike a b is.2)
  sized-unfolded (cell.Xor a b) is below = (below a (inl refl), below b (inr refl), alike a b is.2)
  sized-unfolded (cell.Add a b) is below = (below a (inl refl), below b (inr refl), alike a b is.2)
  sized-unfolded (cell.Sub a b) is below = (below a (inl refl), below b (inr refl), alike a b is.2)
  sized-unfolded (cell.Eq a b) is below = (below a (inl refl), below b (inr refl), alike a b is.2)
  sized-unfolded (cell.Lt a b) is below = (below a (inl refl), below b (inr refl), alike a b is.2)
  sized-unfolded (cell.Shl a by) is below = (below a (inl refl), below by (inr refl))
  sized-unfolded (cell.Shr a by) is below = (below a (inl refl), below by (inr refl))
  sized-unfolded (cell.Mux c x y) is below =
      let w = width-tree_of g c in let e = is.1 in
      (below c (inl refl), below x (inr (inl refl)), below y (inr (inr refl)), omega arith, alike x y is.2.2)
  sized-unfolded (cell.Concat high low) is below = (below high (inl refl), below low (inr refl))
  sized-unfolded (cell.Slice a at w) is below = let v = width-tree_of g a in let h = is.2 in (below a refl, omega arith)
  sized-unfolded (cell.Extend a w) is below = below a refl
  sized-unfolded (cell.Reduce kind.And a) is below = below a refl
  sized-unfolded (cell.Reduce kind.Or a) is below = below a refl
  sized-unfolded (cell.Reduce kind.Xor a) is below = below a refl

sized-before : (g : Cells) → IsWellFormed g → (n : ℕ) (id : CellId) → id.0 < n → id.0 < length g.cells → IsSized g.signals (tree_of g id)
sized-before g well zero id l lt = absurd (omega arith)
sized-before g well (suc n) id l lt =
    let there = cell-there g id lt in
    let is = well.cells id.0 (cell_at g id) there in
    subst (IsSized g.signals) (sym (tree_of-cell g well id (cell_at g id) there))
    (sized-unfolded g id.0 (cell_at g id) is (λ a op. let first = operand-before g id.0 (cell_at g id) is a op in sized-before g well n a (omega arith) (omega arith)))

-- ---- what is read

module _ (cube : Cube) (b : Bit) (Q : Type 0) where
  either : (u v : Bool) → (u ≡ true → Q) → (v ≡ true → Q) → (u || v) ≡ true → Q
  either u v p q h = elim (or_cases u v h) [ inl k ↦ p k | inr k ↦ q k ]

  any : (f : ℕ → Bool) (n : ℕ) → ((j : ℕ) → j < n → f j ≡ true → Q) → any_below f n ≡ true → Q
  any f zero each h = cc
  any f (suc n) each h = elim (or_cases (any_below f n) (f n) h) [
    | inl k ↦ any f n (λ j l. each j (omega arith)) k
    | inr k ↦ each n (omega arith) k
  ]

  gate : (v : Bool) (x y : Tree) (i : ℕ) (k l m : Option Bool) → (reads cube x i b ≡ true → Q) → (reads cube y i b ≡ true → Q)
      → reads_but k (cond (is_some k) None (if_known_to_be l v (same cube y i) (if_known_to_be m v (same cube x i) None))) b (reads cube x i b || reads cube y i b) ≡ true → Q
  gate v x y i k l m p q h =
      elim (but_cases k (cond (is_some k) None (if_known_to_be l v (same cube y i) (if_known_to_be m v (same cube x i) None))) b (reads cube x i b || reads cube y i b) h) [
        | inl e ↦ elim (if_cases l v (same cube y i) (if_known_to_be m v (same cube x i) None) b (unless_none k (if_known_to_be l v (same cube y i) (if_known_to_be m v (same cube x i) None)) b e).1) [
          | inl f ↦ q (self_reads cube y i b f)
          | inr f ↦ elim (if_cases m v (same cube x i) None b f) [ inl g ↦ p (self_reads cube x i b g) | inr g ↦ no_bit b g ]
        ]
        | inr e ↦ either (reads cube x i b) (reads cube y i b) p q e
      ]

  sum : (x y : Tree) (n : ℕ) (k : Option Bool) → ((j : ℕ) → j < n → reads cube x j b ≡ true → Q) → ((j : ℕ) → j < n → reads cube y j b ≡ true → Q)
      → reads_but k None b (any_below (λ j. reads cube x j b || reads cube y j b) n) ≡ true → Q
  sum x y n k p q h = elim (but_cases k None b (any_below (λ j. reads cube x j b || reads cube y j b) n) h) [
    | inl e ↦ no_bit b e
    | inr e ↦ any (λ j. reads cube x j b || reads cube y j b) n (λ j l. either (reads cube x j b) (reads cube y j b) (p j l) (q j l)) e
  ]

  reduce : (x : Tree) (k : Option Bool) → ((j : ℕ) → j < width x → reads cube x j b ≡ true → Q)
      → reads_but k (cond (width x == 1) (same cube x 0) None) b (any_below (λ j. reads cube x j b) (width x)) ≡ true → Q
  reduce x k p h = elim (but_cases k (cond (width x == 1) (same cube x 0) None) b (any_below (λ j. reads cube x j b) (width x)) h) [
    | inl e ↦ go (width x == 1) refl e
    | inr e ↦ any (λ j. reads cube x j b) (width x) p e
  ]
    where
      go : (v : Bool) → (width x == 1) ≡ v → cond v (same cube x 0) None ≡ Some b → Q
      go true e f = p 0 (omega (arith, eqb-true (width x) 1 e)) (self_reads cube x 0 b f)
      go false e f = no_bit b f

  shift : (x by : Tree) (o : Option ℕ) (move : ℕ → ℕ) (out : ℕ → Bool) → ((j : ℕ) → j < width x → reads cube x j b ≡ true → Q)
      → ((j : ℕ) → j < width by → reads cube by j b ≡ true → Q)
      → on_number o (any_below (λ j. reads cube x j b) (width x) || any_below (λ j. reads cube by j b) (width by)) (λ n. cond (out n) false (cond (nat_lt (move n) (width x)) (reads cube x (move n) b) false)) ≡ true → Q
  shift x by None move out p q h = either (any_below (λ j. reads cube x j b) (width x)) (any_below (λ j. reads cube by j b) (width by))
      (any (λ j. reads cube x j b) (width x) p) (any (λ j. reads cube by j b) (width by) q) h
  shift x by (Some n) move out p q h = go (out n) (nat_lt (move n) (width x)) refl h
    where
      go : (u v : Bool) → nat_lt (move n) (width x) ≡ v → cond u false (cond v (reads cube x (move n) b) false) ≡ true → Q
      go true v e h = cc
      go false true e h = p (move n) (ltb-true (move n) (width x) e) h
      go false false e h = cc

  choice : (c x y : Tree) (i : ℕ) (k : Option Bool) → (reads cube c 0 b ≡ true → Q) → (reads cube x i b ≡ true → Q) → (reads cube y i b ≡ true → Q)
      → reads_but k (cond (is_some k) None (chosen (known cube c 0) (same cube x i) (same cube y i) (agreed_bit (same cube x i) (same cube y i)))) b
      (chosen (known cube c 0) (reads cube x i b) (reads cube y i b) (reads cube c 0 b || (reads cube x i b || reads cube y i b))) ≡ true → Q
  choice c x y i k r p q h =
      elim (but_cases k (cond (is_some k) None (chosen (known cube c 0) (same cube x i) (same cube y i) (agreed_bit (same cube x i) (same cube y i)))) b
      (chosen (known cube c 0) (reads cube x i b) (reads cube y i b) (reads cube c 0 b || (reads cube x i b || reads cube y i b))) h) [
        | inl e ↦ by_same (known cube c 0) (unless_none k (chosen (known cube c 0) (same cube x i) (same cube y i) (agreed_bit (same cube x i) (same cube y i))) b e).1
        | inr e ↦ by_feed (known cube c 0) e
      ]
    where
      by_same : (o : Option Bool) → chosen o (same cube x i) (same cube y i) (agreed_bit (same cube x i) (same cube y i)) ≡ Some b → Q
      by_same (Some true) e = p (self_reads cube x i b e)
      by_same (Some false) e = q (self_reads cube y i b e)
      by_same None e = p (self_reads cube x i b (agreed_first (same cube x i) (same cube y i) b e))

      by_feed : (o : Option Bool) → chosen o (reads cube x i b) (reads cube y i b) (reads cube c 0 b || (reads cube x i b || reads cube y i b)) ≡ true → Q
      by_feed (Some true) e = p e
      by_feed (Some false) e = q e
      by_feed None e = either (reads cube c 0 b) (reads cube x i b || reads cube y i b) r (either (reads cube x i b) (reads cube y i b) p q) e

module _ (signals : List Signal) (cube : Cube) (b : Bit) where
  abbrev Q : Type 0
  Q = b.at < bit_count signals b.sig

  within : (t : Tree) (i : ℕ) → IsSized signals t → i < width t → reads cube t i b ≡ true → b.at < bit_count signals b.sig
  within (Var sig w) i s l h = go (but_cases (known cube (Var sig w) i) (same cube (Var sig w) i) b false h)
    where
      go : (same cube (Var sig w) i ≡ Some b) ⊎ (false ≡ true) → b.at < bit_count signals b.sig
      go (inl e) =
          let f : ◌≡◌ {A = Bit} (record { sig = sig; at = i }) b = some_eq (record { sig = sig; at = i }) b (unless_none (known cube (Var sig w) i) (Some (record { sig = sig; at = i })) b e).1 in
          subst (λ (c : Bit). c.at < bit_count signals c.sig) f (omega arith)
        where
          some_eq : (a b : Bit) → Some a ≡ Some b → a ≡ b
          some_eq a b e = cc
      go (inr e) = cc
  within (Const w v) i s l h = cc
  within (Not x) i s l h = elim (but_cases (known cube (Not x) i) None b (reads cube x i b) h) [ inl e ↦ no_bit b e | inr e ↦ within x i s l e ]
  within (And x y) i s l h = gate cube b Q true x y i (known cube (And x y) i) (known cube x i) (known cube y i) (within x i s.0 l) (within y i s.1 (omega (arith, s.2, l))) h
  within (Or x y) i s l h = gate cube b Q false x y i (known cube (Or x y) i) (known cube x i) (known cube y i) (within x i s.0 l) (within y i s.1 (omega (arith, s.2, l))) h
  within (Xor x y) i s l h = gate cube b Q false x y i (known cube (Xor x y) i) (known cube x i) (known cube y i) (within x i s.0 l) (within y i s.1 (omega (arith, s.2, l))) h
  within (Add x y) i s l h = sum cube b Q x y (suc i) (known cube (Add x y) i) (λ j m. within x j s.0 (omega (arith, l, m))) (λ j m. within y j s.1 (omega (arith, s.2, l, m))) h
  within (Sub x y) i s l h = sum cube b Q x y (suc i) (known cube (Sub x y) i) (λ j m. within x j s.0 (omega (arith, l, m))) (λ j m. within y j s.1 (omega (arith, s.2, l, m))) h
  within (Eq x y) i s l h = sum cube b Q x y (width x) (known cube (Eq x y) i) (λ j m. within x j s.0 m) (λ j m. within y j s.1 (omega (arith, s.2, m))) h
  within (Lt x y) i s l h = sum cube b Q x y (width x) (known cube (Lt x y) i) (λ j m. within x j s.0 m) (λ j m. within y j s.1 (omega (arith, s.2, m))) h
  within (Shl x by) i s l h = shift cube b Q x by (known_number (known cube by) (width by)) (λ n. i - n) (λ n. nat_lt i n) (λ j. within x j s.0) (λ j. within by j s.1) h
  within (Shr x by) i s l h = shift cube b Q x by (known_number (known cube by) (width by)) (λ n. i + n) (λ n. false) (λ j. within x j s.0) (λ j. within by j s.1) h
  within (Mux c x y) i s l h = choice cube b Q c x y i (known cube (Mux c x y) i) (within c 0 s.0 s.3) (within x i s.1 l) (within y i s.2 (omega (arith, s.4, l))) h
  within (Concat high low) i s l h = go (nat_lt i (width low)) refl h (within low i s.1) (within high (i - width low) s.0)
    where
      go : (v : Bool) → nat_lt i (width low) ≡ v → cond v (reads cube low i b) (reads cube high (i - width low) b) ≡ true
          → (i < width low → reads cube low i b ≡ true → b.at < bit_count signals b.sig)
          → (i - width low < width high → reads cube high (i - width low) b ≡ true → b.at < bit_count signals b.sig) → b.at < bit_count signals b.sig
      go true e h p q = p (ltb-true i (width low) e) h
      go false e h p q = q (let m = ltb-false i (width low) e in omega arith) h
  within (Slice x at w) i s l h = within x (at + i) s.0 (omega (arith, s.1, l)) h
  within (Extend x w) i s l h = go (nat_lt i (width x)) refl h (within x i s)
    where
      go : (v : Bool) → nat_lt i (width x) ≡ v → cond v (reads cube x i b) false ≡ true → (i < width x → reads cube x i b ≡ true → b.at < bit_count signals b.sig) → b.at < bit_count signals b.sig
      go true e h p = p (ltb-true i (width x) e) h
      go false e h p = cc
  within (ReduceAnd x) i s l h = reduce cube b Q x (known cube (ReduceAnd x) i) (λ j. within x j s) h
  within (ReduceOr x) i s l h = reduce cube b Q x (known cube (ReduceOr x) i) (λ j. within x j s) h
  within (ReduceXor x) i s l h = reduce cube b Q x (known cube (ReduceXor x) i) (λ j. within x j s) h

-- what a bit of a cell reads lies in its signal
pub reads_within : (g : Cells) → IsWellFormed g → (cube : Cube) (id : CellId) (i : ℕ) (b : Bit) → id.0 < length g.cells → i < cell_width g id
    → reads cube (tree_of g id) i b ≡ true → b.at < bit_count g.signals b.sig
reads_within g well cube id i b lt l h =
    let w = width-tree_of g id in
    within g.signals cube b (tree_of g id) i (sized-before g well (suc id.0) id (omega arith) lt) (omega arith) h
