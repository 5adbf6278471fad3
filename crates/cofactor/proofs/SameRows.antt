-- The state bits that a cell's bits equal, by those of its operands: one row of the rules for each kind of cell.
use Rattle.std.specs.Prelude.{bit_and}
use Rattle.std.proofs.Common.{◌≡◌, ◌∙◌, is_some, ◌&&◌, sym, ap, ap₂, subst, refl, arith, ℕ, ◌+◌, ◌-◌, ◌<◌, ◌≤◌, Bool, true, false, cond, nat_lt, inl, inr, length, Option, Some, None, slice_get, ◌==◌, ◌≢◌, ltb-true, ltb-false, lt-ltb, eqb-true}
use Rattle.cdc_base.specs.declared.bit.Bit.{Bit}
use Rattle.cell_graph.specs.declared.cell.Cell.{Cell}
use Rattle.cell_graph.specs.declared.cell.Cell.TheVariants.{Var, Const, Not, And, Or, Xor, Add, Sub, Eq, Lt, Shl, Shr, Mux, Concat, Slice, Extend, Reduce}
use Rattle.cell_graph.specs.declared.cell.CellId.{CellId}
use Rattle.cell_graph.specs.declared.cell.ReduceKind.{ReduceKind}
use Rattle.cell_graph.specs.declared.cell.ReduceKind.TheVariants as kind
use Rattle.cell_graph.specs.Cells.{Cells, cell_at, cell_width}
use Rattle.cell_graph.specs.Below.{IsOperand}
use Rattle.cell_graph.specs.Reading.{Cube}
use Rattle.cell_graph.specs.Tree.{Tree, width, bit_at}
use Rattle.cell_graph.specs.Unfolded.{unfolded, reduced, trees, tree_of, IsCellOf, IsWellFormed}
use Rattle.cell_graph.specs.Cofactor.{known, chosen, known_number, on_number, is_known, same, if_known_to_be, agreed_bit}
use Rattle.cell_graph.proofs.Words.{bit-zero, bit_and-bit}
use Rattle.std.specs.Bool.{beq}
use Rattle.cell_graph.specs.Feeds.{node, bit_or_zero, moved_up, moved_down, passed_by}
use Rattle.cell_graph.specs.declared.feeds.Passed.{Passed}
use Rattle.cell_graph.specs.declared.feeds.Passed.TheVariants as passed
use Rattle.cell_graph.proofs.Trees.{width-tree_of, tree_of-cell}
use Rattle.cell_graph.proofs.CellValues.{width-64}
use Rattle.cell_graph.proofs.Cones.{cell-there}
use Rattle.cofactor.specs.declared.masks.Masks.{Masks}
use Rattle.cofactor.specs.Masks.{masks_of}
use Rattle.cofactor.specs.Cubes.{bit}
use Rattle.cofactor.specs.Shown.{Shown, row_at, masks_at, same_at, same_passed, IsSame, HasNoneBeside, HasNoSames, ShowsMasks, ShowsSames}
use Rattle.cofactor.proofs.Shown.{some, known-of}

pub neq-eqb : (m n : ℕ) → m ≢ n → (m == n) ≡ false
neq-eqb m n h = go (m == n) refl
  where
    go : (b : Bool) → (m == n) ≡ b → (m == n) ≡ false
    go true e = absurd (h (eqb-true m n e))
    go false e = e

-- what the mask and the place tell is the state bit
told : (set : Bool) (there o : Option Bit) → IsSame set there o → cond set there None ≡ o
told set there None h = ap (λ b. cond b there None) h
told set there (Some b) h = ap (λ s. cond s there None) h.0 ∙ h.1

pub same-shown : (g : Cells) (cube : Cube) (t : Shown) (a : CellId) → ShowsSames g cube t a → (i : ℕ) → i < cell_width g a → same_at t a i ≡ same cube (tree_of g a) i
same-shown g cube t a h i lt = told (bit_at (row_at t a).same i) (slice_get t.sames ((row_at t a).start + i)) (same cube (tree_of g a) i) (h i lt)

-- a row without state bits tells of none
no-same : (g : Cells) (cube : Cube) (t : Shown) (a : CellId) → ShowsSames g cube t a → (row_at t a).same ≡ 0 → (i : ℕ) → i < cell_width g a → same cube (tree_of g a) i ≡ None
no-same g cube t a h none i lt = go (same cube (tree_of g a) i) (h i lt)
  where
    go : (o : Option Bit) → IsSame (bit_at (row_at t a).same i) (slice_get t.sames ((row_at t a).start + i)) o → o ≡ None
    go None k = refl
    go (Some b) k = let z = ap (λ n. bit_at n i) none ∙ bit-zero i in absurd (cc)

none-if : (o p : Option Bool) (v : Bool) → if_known_to_be o v None (if_known_to_be p v None None) ≡ None
none-if o p v = go o
  where
    inner : (p : Option Bool) → if_known_to_be p v None None ≡ None
    inner None = refl
    inner (Some w) = either (beq w v)
      where
        either : (b : Bool) → cond {A = Option Bit} b None None ≡ None
        either true = refl
        either false = refl

    go : (o : Option Bool) → if_known_to_be o v None (if_known_to_be p v None None) ≡ None
    go None = inner p
    go (Some w) = either (beq w v)
      where
        either : (b : Bool) → cond b None (if_known_to_be p v None None) ≡ None
        either true = refl
        either false = inner p

-- a bit that isn't marked tells of none
unmarked : (set : Bool) (there o : Option Bit) → IsSame set there o → set ≡ false → o ≡ None
unmarked set there None h z = refl
unmarked set there (Some b) h z = let y = h.0 in absurd (cc)

none-unless : (v : Bool) (o : Option Bool) (x y : Option Bit) → (o ≡ Some v → x ≡ None) → y ≡ None → if_known_to_be o v x y ≡ None
none-unless v None x y f e = e
none-unless true (Some true) x y f e = f refl
none-unless true (Some false) x y f e = e
none-unless false (Some true) x y f e = e
none-unless false (Some false) x y f e = f refl

unknown-condition : (m : Masks) (k : ℕ → Option Bool) (w : ℕ) → 0 < w → m ≡ masks_of k w → m.known ≡ 0 → k 0 ≡ None
unknown-condition m k w l is none = go (k 0) refl
  where
    go : (o : Option Bool) → k 0 ≡ o → k 0 ≡ None
    go None e = e
    go (Some v) e =
        let s = (known-of m k w is).each 0 l ∙ ap is_some e in
        let z = ap (λ n. bit_at n 0) none ∙ bit-zero 0 in
        absurd (cc)

-- two branches that have no state bit at one place
none-agreed : (p q i : ℕ) (x y : Option Bit) → bit_and p q ≡ 0 → (bit_at p i ≡ false → x ≡ None) → (bit_at q i ≡ false → y ≡ None) → agreed_bit x y ≡ None
none-agreed p q i x y z f h = go (bit_at p i) refl (bit_at q i) refl
  where
    right : (o : Option Bit) → agreed_bit o None ≡ None
    right None = refl
    right (Some a) = refl

    go : (b : Bool) → bit_at p i ≡ b → (d : Bool) → bit_at q i ≡ d → agreed_bit x y ≡ None
    go false e d k = ap (λ o. agreed_bit o y) (f e)
    go true e false k = ap (agreed_bit x) (h k) ∙ right x
    go true e true k = let s = bit_and-bit p q i in let u = ap (λ n. bit_at n i) z ∙ bit-zero i in let v = ap₂ (λ m n. m && n) e k in absurd (cc)

none-known : (b : Bool) (o : Option Bit) → o ≡ None → cond b None o ≡ None
none-known true o e = refl
none-known false o e = e

none-either : (b : Bool) (o p : Option Bit) → (b ≡ true → o ≡ None) → (b ≡ false → p ≡ None) → cond b o p ≡ None
none-either true o p e f = e refl
none-either false o p e f = f refl

none-chosen : (k : Option Bool) → chosen k None None (agreed_bit None None) ≡ None
none-chosen None = refl
none-chosen (Some true) = refl
none-chosen (Some false) = refl

none-number : (o : Option ℕ) (f : ℕ → Option Bit) → ((n : ℕ) → f n ≡ None) → on_number o None f ≡ None
none-number None f e = refl
none-number (Some n) f e = e n

same-reduced : (cube : Cube) (k : ReduceKind) (t : Tree) (i : ℕ) → same cube (reduced k t) i ≡ cond (width t == 1) (same cube t 0) None
same-reduced cube kind.And t i = refl
same-reduced cube kind.Or t i = refl
same-reduced cube kind.Xor t i = refl

-- what a part of a cell that is passed equals
part : (g : Cells) (cube : Cube) (t : Shown) (a : CellId) → ShowsSames g cube t a → (j : ℕ) → same_passed t (bit_or_zero g a j) ≡ cond (nat_lt j (width (tree_of g a))) (same cube (tree_of g a) j) None
part g cube t a h j = go (nat_lt j (cell_width g a)) refl ∙ ap (λ w. cond (nat_lt j w) (same cube (tree_of g a) j) None) (width-tree_of g a)
  where
    go : (b : Bool) → nat_lt j (cell_width g a) ≡ b → same_passed t (cond b (passed.Bit (node a j)) passed.Zero) ≡ cond b (same cube (tree_of g a) j) None
    go true e = same-shown g cube t a h j (ltb-true j (cell_width g a) e)
    go false e = refl

passed-zero : (t : Shown) (b : Bool) (p : Passed) (o : Option Bit) → same_passed t p ≡ o → same_passed t (cond b passed.Zero p) ≡ cond b None o
passed-zero t true p o e = refl
passed-zero t false p o e = e

module _ (g : Cells) (well : IsWellFormed g) (cube : Cube) (t : Shown) (id : CellId) (lt : id.0 < length g.cells) (i : ℕ) (within : i < cell_width g id)
    (shown : (a : CellId) → IsOperand (cell_at g id) a → ShowsMasks g cube t a) (sames : (a : CellId) → IsOperand (cell_at g id) a → ShowsSames g cube t a) where
  abbrev K : CellId → ℕ → Option Bool
  K a = known cube (tree_of g a)

  abbrev S : CellId → ℕ → Option Bit
  S a = same cube (tree_of g a)

  abbrev W : CellId → ℕ
  W a = width (tree_of g a)

  abbrev T : Cell → Tree
  T c = unfolded g.signals (trees g) c

  tree : (c : Cell) → cell_at g id ≡ c → tree_of g id ≡ unfolded g.signals (trees g) c
  tree c e = tree_of-cell g well id c (cell-there g id lt ∙ ap Some e)

  is-cell : (c : Cell) → cell_at g id ≡ c → IsCellOf g id.0 c
  is-cell c e = well.cells id.0 c (cell-there g id lt ∙ ap Some e)

  own : (c : Cell) → cell_at g id ≡ c → i < width (T c)
  own c e = let w = width-tree_of g id ∙ ap width (tree c e) in omega arith

  finish : (c : Cell) → cell_at g id ≡ c → (r : Option Bit) → r ≡ same cube (T c) i → r ≡ same cube (tree_of g id) i
  finish c e r h = h ∙ ap (λ u. same cube u i) (sym (tree c e))

  operand : (c : Cell) → cell_at g id ≡ c → (a : CellId) → IsOperand c a → masks_at t a ≡ masks_of (K a) (W a)
  operand c e a op = shown a (subst (λ d. IsOperand d a) (sym e) op) ∙ ap (masks_of (K a)) (width-tree_of g a)

  tells : (c : Cell) → cell_at g id ≡ c → (a : CellId) → IsOperand c a → ShowsSames g cube t a
  tells c e a op = sames a (subst (λ d. IsOperand d a) (sym e) op)

  at : (c : Cell) → cell_at g id ≡ c → (a : CellId) → IsOperand c a → (j : ℕ) → j < W a → same_at t a j ≡ S a j
  at c e a op j l = same-shown g cube t a (tells c e a op) j (let w = width-tree_of g a in omega arith)

  alike : (a b : CellId) → cell_width g a ≡ cell_width g b → masks_at t b ≡ masks_of (K b) (W b) → masks_at t b ≡ masks_of (K b) (W a)
  alike a b e h = h ∙ ap (masks_of (K b)) (sym (width-tree_of g b) ∙ sym e ∙ width-tree_of g a)

  unknown : (m : Masks) → m ≡ masks_of (known cube (tree_of g id)) (cell_width g id) → (c : Cell) → cell_at g id ≡ c → bit_at m.known i ≡ is_known cube (T c) i
  unknown m is c e = (known-of m (known cube (tree_of g id)) (cell_width g id) is).each i within ∙ ap (λ u. is_known cube u i) (tree c e)

  pub var-same : (m : Masks) → m ≡ masks_of (known cube (tree_of g id)) (cell_width g id) → (sig : ℕ) → cell_at g id ≡ Var sig → (r : Option Bit) → r ≡ cond (bit_at m.known i) None (Some (bit sig i)) → r ≡ same cube (tree_of g id) i
  var-same m is sig e r h = finish (Var sig) e r (h ∙ ap (λ b. cond b None (Some (bit sig i))) (unknown m is (Var sig) e))

  -- a bit with the state bit of the one side, where the other has the value v
  side : (c : Cell) → cell_at g id ≡ c → (a b : CellId) → IsOperand c a → IsOperand c b → cell_width g a ≡ cell_width g b → i < W a → (v : Bool) (s : Option Bit)
      → ((k l : ℕ → Option Bool) (w : ℕ) → i < w → masks_at t a ≡ masks_of k w → masks_at t b ≡ masks_of l w → s ≡ if_known_to_be (k i) v (same_at t b i) (if_known_to_be (l i) v (same_at t a i) None))
      → s ≡ if_known_to_be (K a i) v (S b i) (if_known_to_be (K b i) v (S a i) None)
  side c e a b p q like l v s f =
      f (K a) (K b) (W a) l (operand c e a p) (alike a b like (operand c e b q))
      ∙ ap₂ (λ x y. if_known_to_be (K a i) v x (if_known_to_be (K b i) v y None)) (at c e b q i (let w = width-tree_of g a in let u = width-tree_of g b in omega arith)) (at c e a p i l)

  pub and-same : (m : Masks) → m ≡ masks_of (known cube (tree_of g id)) (cell_width g id) → (a b : CellId) → cell_at g id ≡ And a b → (s r : Option Bit)
      → ((k l : ℕ → Option Bool) (w : ℕ) → i < w → masks_at t a ≡ masks_of k w → masks_at t b ≡ masks_of l w → s ≡ if_known_to_be (k i) true (same_at t b i) (if_known_to_be (l i) true (same_at t a i) None))
      → r ≡ cond (bit_at m.known i) None s → r ≡ same cube (tree_of g id) i
  and-same m is a b e s r f h = let cell = is-cell (And a b) e in
      finish (And a b) e r (h ∙ ap₂ (λ x y. cond x None y) (unknown m is (And a b) e) (side (And a b) e a b (inl refl) (inr refl) cell.2 (own (And a b) e) true s f))

  pub or-same : (m : Masks) → m ≡ masks_of (known cube (tree_of g id)) (cell_width g id) → (a b : CellId) → cell_at g id ≡ Or a b → (s r : Option Bit)
      → ((k l : ℕ → Option Bool) (w : ℕ) → i < w → masks_at t a ≡ masks_of k w → masks_at t b ≡ masks_of l w → s ≡ if_known_to_be (k i) false (same_at t b i) (if_known_to_be (l i) false (same_at t a i) None))
      → r ≡ cond (bit_at m.known i) None s → r ≡ same cube (tree_of g id) i
  or-same m is a b e s r f h = let cell = is-cell (Or a b) e in
      finish (Or a b) e r (h ∙ ap₂ (λ x y. cond x None y) (unknown m is (Or a b) e) (side (Or a b) e a b (inl refl) (inr refl) cell.2 (own (Or a b) e) false s f))

  pub xor-same : (m : Masks) → m ≡ masks_of (known cube (tree_of g id)) (cell_width g id) → (a b : CellId) → cell_at g id ≡ Xor a b → (s r : Option Bit)
      → ((k l : ℕ → Option Bool) (w : ℕ) → i < w → masks_at t a ≡ masks_of k w → masks_at t b ≡ masks_of l w → s ≡ if_known_to_be (k i) false (same_at t b i) (if_known_to_be (l i) false (same_at t a i) None))
      → r ≡ cond (bit_at m.known i) None s → r ≡ same cube (tree_of g id) i
  xor-same m is a b e s r f h = let cell = is-cell (Xor a b) e in
      finish (Xor a b) e r (h ∙ ap₂ (λ x y. cond x None y) (unknown m is (Xor a b) e) (side (Xor a b) e a b (inl refl) (inr refl) cell.2 (own (Xor a b) e) false s f))

  amount-is : (c : Cell) → cell_at g id ≡ c → (by : CellId) → IsOperand c by → (o : Option ℕ)
      → ((k : ℕ → Option Bool) → cell_width g by ≤ 64 → masks_at t by ≡ masks_of k (cell_width g by) → o ≡ known_number k (cell_width g by)) → o ≡ known_number (K by) (W by)
  amount-is c e by op o f = let w = width-tree_of g by in
      f (K by) (let l = width-64 g well by in omega arith) (operand c e by op ∙ ap (masks_of (K by)) (sym w)) ∙ ap (known_number (K by)) w

  pub shl-same : (a by : CellId) → cell_at g id ≡ Shl a by → (o : Option ℕ) (n : ℕ) → o ≡ Some n
      → ((k : ℕ → Option Bool) → cell_width g by ≤ 64 → masks_at t by ≡ masks_of k (cell_width g by) → o ≡ known_number k (cell_width g by))
      → (r : Option Bit) → r ≡ same_passed t (moved_up g a i n) → r ≡ same cube (tree_of g id) i
  shl-same a by e o n some amount r h = finish (Shl a by) e r (h
      ∙ passed-zero t (nat_lt i n) (bit_or_zero g a (i - n)) (cond (nat_lt (i - n) (W a)) (S a (i - n)) None) (part g cube t a (tells (Shl a by) e a (inl refl)) (i - n))
      ∙ ap (λ p. on_number p None (λ m. cond (nat_lt i m) None (cond (nat_lt (i - m) (W a)) (S a (i - m)) None))) (sym some ∙ amount-is (Shl a by) e by (inr refl) o amount))

  pub shr-same : (a by : CellId) → cell_at g id ≡ Shr a by → (o : Option ℕ) (n : ℕ) → o ≡ Some n
      → ((k : ℕ → Option Bool) → cell_width g by ≤ 64 → masks_at t by ≡ masks_of k (cell_width g by) → o ≡ known_number k (cell_width g by))
      → (r : Option Bit) → r ≡ same_passed t (moved_down g a i n) → r ≡ same cube (tree_of g id) i
  shr-same a by e o n some amount r h = finish (Shr a by) e r (h ∙ part g cube t a (tells (Shr a by) e a (inl refl)) (i + n)
      ∙ ap (λ p. on_number p None (λ m. cond (nat_lt (i + m) (W a)) (S a (i + m)) None)) (sym some ∙ amount-is (Shr a by) e by (inr refl) o amount))

  pub shl-not : (a by : CellId) → cell_at g id ≡ Shl a by → (o : Option ℕ) → o ≡ None
      → ((k : ℕ → Option Bool) → cell_width g by ≤ 64 → masks_at t by ≡ masks_of k (cell_width g by) → o ≡ known_number k (cell_width g by)) → None ≡ same cube (tree_of g id) i
  shl-not a by e o none amount = finish (Shl a by) e None
      (ap (λ p. on_number p None (λ m. cond (nat_lt i m) None (cond (nat_lt (i - m) (W a)) (S a (i - m)) None))) (sym none ∙ amount-is (Shl a by) e by (inr refl) o amount))

  pub shr-not : (a by : CellId) → cell_at g id ≡ Shr a by → (o : Option ℕ) → o ≡ None
      → ((k : ℕ → Option Bool) → cell_width g by ≤ 64 → masks_at t by ≡ masks_of k (cell_width g by) → o ≡ known_number k (cell_width g by)) → None ≡ same cube (tree_of g id) i
  shr-not a by e o none amount = finish (Shr a by) e None
      (ap (λ p. on_number p None (λ m. cond (nat_lt (i + m) (W a)) (S a (i + m)) None)) (sym none ∙ amount-is (Shr a by) e by (inr refl) o amount))

  pub mux-same : (m : Masks) → m ≡ masks_of (known cube (tree_of g id)) (cell_width g id) → (c x y : CellId) → cell_at g id ≡ Mux c x y → (s r : Option Bit)
      → ((k : ℕ → Option Bool) (w : ℕ) → 0 < w → masks_at t c ≡ masks_of k w → s ≡ chosen (k 0) (same_at t x i) (same_at t y i) (agreed_bit (same_at t x i) (same_at t y i)))
      → r ≡ cond (bit_at m.known i) None s → r ≡ same cube (tree_of g id) i
  mux-same m is c x y e s r f h =
      let cell = is-cell (Mux c x y) e in let l = own (Mux c x y) e in let one = cell.1 in let like = cell.2.2 in
      let p = width-tree_of g x in let q = width-tree_of g y in let u = width-tree_of g c in
      finish (Mux c x y) e r (h ∙ ap₂ (λ a b. cond a None b) (unknown m is (Mux c x y) e)
      (f (K c) (W c) (omega arith) (operand (Mux c x y) e c (inl refl))
      ∙ ap₂ (λ a b. chosen (K c 0) a b (agreed_bit a b)) (at (Mux c x y) e x (inr (inl refl)) i l) (at (Mux c x y) e y (inr (inr refl)) i (omega arith))))

  pub concat-same : (high low : CellId) → cell_at g id ≡ Concat high low → (r : Option Bit) → r ≡ same_passed t (passed_by g (Concat high low) i) → r ≡ same cube (tree_of g id) i
  concat-same high low e r h = finish (Concat high low) e r (h ∙ go (nat_lt i (cell_width g low)) refl ∙ ap (λ w. cond (nat_lt i w) (S low i) (S high (i - w))) q)
    where
      q : cell_width g low ≡ W low
      q = width-tree_of g low

      go : (b : Bool) → nat_lt i (cell_width g low) ≡ b → same_passed t (cond b (passed.Bit (node low i)) (passed.Bit (node high (i - cell_width g low)))) ≡ cond b (S low i) (S high (i - cell_width g low))
      go true s = let l = ltb-true i (cell_width g low) s in let p = width-tree_of g low in at (Concat high low) e low (inr refl) i (omega arith)
      go false s = let l = ltb-false i (cell_width g low) s in let p = width-tree_of g low in let o = own (Concat high low) e in at (Concat high low) e high (inl refl) (i - cell_width g low) (omega arith)

  pub slice-same : (a : CellId) (from v : ℕ) → cell_at g id ≡ Slice a from v → (r : Option Bit) → r ≡ same_passed t (passed_by g (Slice a from v) i) → r ≡ same cube (tree_of g id) i
  slice-same a from v e r h =
      let fits = (is-cell (Slice a from v) e).2 in let l = own (Slice a from v) e in let p = width-tree_of g a in
      finish (Slice a from v) e r (h ∙ part g cube t a (tells (Slice a from v) e a refl) (from + i)
      ∙ ap (λ b. cond b (S a (from + i)) None) (lt-ltb (from + i) (W a) (omega arith)))

  pub extend-same : (a : CellId) (v : ℕ) → cell_at g id ≡ Extend a v → (r : Option Bit) → r ≡ same_passed t (passed_by g (Extend a v) i) → r ≡ same cube (tree_of g id) i
  extend-same a v e r h = finish (Extend a v) e r (h ∙ part g cube t a (tells (Extend a v) e a refl) i)

  pub reduce-same : (k : ReduceKind) (a : CellId) → cell_at g id ≡ Reduce k a → (w : ℕ) → w ≡ cell_width g a → (b : Bool) → (w == 1) ≡ b → (r : Option Bit) → r ≡ cond b (same_at t a 0) None → r ≡ same cube (tree_of g id) i
  reduce-same k a e w is b test r h = finish (Reduce k a) e r (h ∙ go b test ∙ ap (λ u. cond (u == 1) (S a 0) None) (is ∙ width-tree_of g a) ∙ sym (same-reduced cube k (tree_of g a) i))
    where
      go : (b : Bool) → (w == 1) ≡ b → cond b (same_at t a 0) None ≡ cond (w == 1) (S a 0) None
      go true s = (let n = eqb-true w 1 s in let p = width-tree_of g a in at (Reduce k a) e a refl 0 (omega arith)) ∙ ap (λ c. cond c (S a 0) None) (sym s)
      go false s = ap (λ c. cond c (S a 0) None) (sym s)

  pub const-same : (v value : ℕ) → cell_at g id ≡ Const v value → None ≡ same cube (tree_of g id) i
  const-same v value e = finish (Const v value) e None refl

  pub not-same : (a : CellId) → cell_at g id ≡ Not a → None ≡ same cube (tree_of g id) i
  not-same a e = finish (Not a) e None refl

  pub add-same : (a b : CellId) → cell_at g id ≡ Add a b → None ≡ same cube (tree_of g id) i
  add-same a b e = finish (Add a b) e None refl

  pub sub-same : (a b : CellId) → cell_at g id ≡ Sub a b → None ≡ same cube (tree_of g id) i
  sub-same a b e = finish (Sub a b) e None refl

  pub eq-same : (a b : CellId) → cell_at g id ≡ Eq a b → None ≡ same cube (tree_of g id) i
  eq-same a b e = finish (Eq a b) e None refl

  pub lt-same : (a b : CellId) → cell_at g id ≡ Lt a b → None ≡ same cube (tree_of g id) i
  lt-same a b e = finish (Lt a b) e None refl

  -- ---- a cell whose operands have no state bits

  none-at : (c : Cell) → cell_at g id ≡ c → (a : CellId) → IsOperand c a → (row_at t a).same ≡ 0 → (j : ℕ) → j < W a → S a j ≡ None
  none-at c e a op z j l = no-same g cube t a (tells c e a op) z j (let w = width-tree_of g a in omega arith)

  none-marked : (c : Cell) → cell_at g id ≡ c → (a : CellId) → IsOperand c a → (j : ℕ) → j < W a → bit_at (row_at t a).same j ≡ false → S a j ≡ None
  none-marked c e a op j l z = unmarked (bit_at (row_at t a).same j) (slice_get t.sames ((row_at t a).start + j)) (S a j) (tells c e a op j (let w = width-tree_of g a in omega arith)) z

  none-both : (c : Cell) → cell_at g id ≡ c → (a b : CellId) → IsOperand c a → IsOperand c b → cell_width g a ≡ cell_width g b → i < W a → (v : Bool) → HasNoneBeside (row_at t a) (row_at t b) v
      → if_known_to_be (K a i) v (S b i) (if_known_to_be (K b i) v (S a i) None) ≡ None
  none-both c e a b p q like l v h =
      let w = width-tree_of g a in let u = width-tree_of g b in
      let none = h (K a) (K b) (W a) i (width-64 g well a) (operand c e a p) (alike a b like (operand c e b q)) l in
      none-unless v (K a i) (S b i) (if_known_to_be (K b i) v (S a i) None) (λ s. none-marked c e b q i (omega arith) (none.1 s))
      (none-unless v (K b i) (S a i) None (λ s. none-marked c e a p i l (none.0 s)) refl)

  none-part : (c : Cell) → cell_at g id ≡ c → (a : CellId) → IsOperand c a → (row_at t a).same ≡ 0 → (j : ℕ) → cond (nat_lt j (W a)) (S a j) None ≡ None
  none-part c e a op z j = none-either (nat_lt j (W a)) (S a j) None (λ s. none-at c e a op z j (ltb-true j (W a) s)) (λ s. refl)

  none-row : (c : Cell) → cell_at g id ≡ c → HasNoSames t c → same cube (T c) i ≡ None
  none-row (Var sig) e h = absurd h
  none-row (Const w value) e h = refl
  none-row (Not a) e h = refl
  none-row (And a b) e h = none-known (is_known cube (T (And a b)) i) (if_known_to_be (K a i) true (S b i) (if_known_to_be (K b i) true (S a i) None)) (none-both (And a b) e a b (inl refl) (inr refl) (is-cell (And a b) e).2 (own (And a b) e) true h)
  none-row (Or a b) e h = none-known (is_known cube (T (Or a b)) i) (if_known_to_be (K a i) false (S b i) (if_known_to_be (K b i) false (S a i) None)) (none-both (Or a b) e a b (inl refl) (inr refl) (is-cell (Or a b) e).2 (own (Or a b) e) false h)
  none-row (Xor a b) e h = none-known (is_known cube (T (Xor a b)) i) (if_known_to_be (K a i) false (S b i) (if_known_to_be (K b i) false (S a i) None)) (none-both (Xor a b) e a b (inl refl) (inr refl) (is-cell (Xor a b) e).2 (own (Xor a b) e) false h)
  none-row (Add a b) e h = refl
  none-row (Sub a b) e h = refl
  none-row (Eq a b) e h = refl
  none-row (Lt a b) e h = refl
  none-row (Shl a by) e h = none-number (known_number (K by) (W by)) (λ n. cond (nat_lt i n) None (cond (nat_lt (i - n) (W a)) (S a (i - n)) None))
      (λ n. none-known (nat_lt i n) (cond (nat_lt (i - n) (W a)) (S a (i - n)) None) (none-part (Shl a by) e a (inl refl) h (i - n)))
  none-row (Shr a by) e h = none-number (known_number (K by) (W by)) (λ n. cond (nat_lt (i + n) (W a)) (S a (i + n)) None) (λ n. none-part (Shr a by) e a (inl refl) h (i + n))
  none-row (Mux c x y) e (inr h) =
      let cell = is-cell (Mux c x y) e in let l = own (Mux c x y) e in let like = cell.2.2 in let p = width-tree_of g x in let q = width-tree_of g y in
      none-known (is_known cube (T (Mux c x y)) i) (chosen (K c 0) (S x i) (S y i) (agreed_bit (S x i) (S y i)))
      (ap₂ (λ a b. chosen (K c 0) a b (agreed_bit a b)) (none-at (Mux c x y) e x (inr (inl refl)) h.0 i l) (none-at (Mux c x y) e y (inr (inr refl)) h.1 i (omega arith)) ∙ none-chosen (K c 0))
  none-row (Mux c x y) e (inl h) =
      let cell = is-cell (Mux c x y) e in let l = own (Mux c x y) e in let like = cell.2.2 in let one = cell.1 in
      let p = width-tree_of g x in let q = width-tree_of g y in let u = width-tree_of g c in
      none-known (is_known cube (T (Mux c x y)) i) (chosen (K c 0) (S x i) (S y i) (agreed_bit (S x i) (S y i)))
      (ap (λ o. chosen o (S x i) (S y i) (agreed_bit (S x i) (S y i))) (unknown-condition (masks_at t c) (K c) (W c) (omega arith) (operand (Mux c x y) e c (inl refl)) h.0)
      ∙ none-agreed (row_at t x).same (row_at t y).same i (S x i) (S y i) h.1 (none-marked (Mux c x y) e x (inr (inl refl)) i l) (none-marked (Mux c x y) e y (inr (inr refl)) i (omega arith)))
  none-row (Concat high low) e h = none-either (nat_lt i (W low)) (S low i) (S high (i - W low)) (λ s. none-at (Concat high low) e low (inr refl) h.1 i (ltb-true i (W low) s))
      (λ s. none-at (Concat high low) e high (inl refl) h.0 (i - W low) (let l = ltb-false i (W low) s in let o = own (Concat high low) e in omega arith))
  none-row (Slice a from v) e h = let fits = (is-cell (Slice a from v) e).2 in let l = own (Slice a from v) e in let p = width-tree_of g a in
      none-at (Slice a from v) e a refl h (from + i) (omega arith)
  none-row (Extend a v) e h = none-part (Extend a v) e a refl h i
  none-row (Reduce k a) e h = same-reduced cube k (tree_of g a) i ∙ none-either (W a == 1) (S a 0) None (λ s. none-at (Reduce k a) e a refl h 0 (let n = eqb-true (W a) 1 s in omega arith)) (λ s. refl)

  pub none-same : (c : Cell) → cell_at g id ≡ c → HasNoSames t c → same cube (tree_of g id) i ≡ None
  none-same c e h = ap (λ u. same cube u i) (tree c e) ∙ none-row c e h
