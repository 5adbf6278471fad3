-- The words that a register takes where it holds the code of a counter.
use Rattle.std.proofs.Common.{◌≡◌, ◌∙◌, sym, ap, ap₂, refl, subst, inl, inr, ◌⊎◌, arith, ℕ, zero, suc, ◌<◌, ◌≤◌, List, [], ◌∷◌, Option, Some, None, option_map}
use Rattle.cell_graph.specs.declared.cell.CellId.{CellId}
use Rattle.cell_graph.specs.declared.cell.Node.{Node}
use Rattle.cell_graph.specs.Tree.{Tree, Var, Xor, Mux}
use Rattle.cell_graph.specs.Cells.{Cells}
use Rattle.cell_graph.specs.Origin.{TreeBit, origin}
use Rattle.cell_graph.specs.Unfolded.{tree_of, bit_of, IsNodeOf}
use Rattle.cdc_model.specs.declared.scheme.Shape.{Shape}
use Rattle.cdc_model.specs.declared.scheme.Shape.TheVariants.{G1, G2, G3}
use Rattle.cdc_model.specs.GrayShape.{HasShape}
use Rattle.cdc_model.specs.Word.{cells, origins, own_word, IsXorOf, IsCount, IsGrayWord, IsJoint, Coded, Own}
use Rattle.gray_pointer.specs.Counters.{IsCodeOf}
use Rattle.gray_pointer.specs.declared.register.Register.{Register}
use Rattle.gray_pointer.specs.declared.word.Choice.{Choice}
use Rattle.gray_pointer.specs.declared.word.Exclusive.{Exclusive}
use Rattle.gray_pointer.specs.Leaves.{CountsItself}
use Rattle.gray_pointer.specs.Taken.{IsTaken, Next, First, Second, IsChange}
use Rattle.gray_pointer.specs.Words.{IsPlain, word_of, IsIn, IsChoice, IsExclusive}
use Rattle.gray_pointer.proofs.Bits.{own_bit, cells_tell, same_tree, same_place}
use Rattle.gray_pointer.proofs.Joints.{IsBoth, joint_cases, joint_count}
use Rattle.gray_pointer.proofs.Leaves.{count_cells}
use Rattle.gray_pointer.proofs.Taken.{choice_not_own}
use Rattle.gray_pointer.proofs.Wholes.{same_origins}

-- ---- Gray words

-- the first bit of a Gray word is that of an exclusive or
pub first_of_code : (t : Tree) (w : ℕ) (n : List TreeBit) → 2 ≤ w → IsGrayWord (origins t 0 w) n → (x y : TreeBit) × (xs : List TreeBit) × (n ≡ x ∷ y ∷ xs) × IsXorOf (origin t 0) x y
first_of_code t zero n l h = absurd (omega arith)
first_of_code t (suc zero) n l h = absurd (omega arith)
first_of_code t (suc (suc w)) [] l h = absurd h
first_of_code t (suc (suc w)) (x ∷ []) l h = absurd h
first_of_code t (suc (suc w)) (x ∷ y ∷ xs) l h = (x, y, xs, refl, h.0)

-- so no cell but an exclusive or is one itself
pub code_cell : (t : Tree) (w : ℕ) (n : List TreeBit) → 2 ≤ w → IsGrayWord (cells t 0 w) n → (a b : Tree) × (t ≡ Xor a b)
code_cell t zero n l h = absurd (omega arith)
code_cell t (suc zero) n l h = absurd (omega arith)
code_cell t (suc (suc w)) [] l h = absurd h
code_cell t (suc (suc w)) (x ∷ []) l h = absurd h
code_cell t (suc (suc w)) (x ∷ y ∷ xs) l h = let (a, b, k, e, s) = h.0 in (a, b, same_tree t (Xor a b) 0 k e)

pub code_not_own : (m n : List TreeBit) (sig w : ℕ) → 2 ≤ w → IsGrayWord m n → m ≡ own_word sig w → ⊥
code_not_own m n sig w l h e = let (a, b, f) = code_cell (Var sig w) w n l (subst (λ (k : List TreeBit). IsGrayWord k n) e h) in cc

pub code_no_choice : (g : Cells) (x : CellId) (w : ℕ) (n : List TreeBit) → 2 ≤ w → IsGrayWord (word_of g x w) n → (b : Choice) → IsChoice g x w (Some b) → ⊥
code_no_choice g x w n l h b is =
    let (p, q, f) = code_cell (Mux is.0.0 (tree_of g b.yes) (tree_of g b.other)) w n l (subst (λ (k : List TreeBit). IsGrayWord k n) is.0.1 h) in cc

-- ---- the shapes as joint pairs

-- in each shape the word of the register is one of a joint pair
pub shape_joint : (s : Shape) (b c w : ℕ) (n m : List TreeBit) → HasShape s b c w n m → (k : List TreeBit) × IsJoint b c w k m
shape_joint G1 b c w n m h = (n, Coded h.0 h.1)
shape_joint G2 b c w n m h = (n, h.1)
shape_joint G3 b c w n m h = (own_word b w, Coded Own h.3)

module _ (g : Cells) (plain : IsPlain g) (b c w : ℕ) (two : 2 ≤ w) where
  one : 1 ≤ w
  one = omega arith

  -- a joint word that is a choice goes with a choice by the same condition, between words that are joint with its own
  pub joint_choice : (n : List TreeBit) (y : CellId) → IsJoint b c w n (word_of g y w) → (q : Choice) → IsChoice g y w (Some q)
      → (s t r : Tree) × (n ≡ cells (Mux s t r) 0 w) × (origin s 0 ≡ option_map (bit_of g) q.cond) × IsJoint b c w (origins t 0 w) (word_of g q.yes w) × IsJoint b c w (origins r 0 w) (word_of g q.other w)
  joint_choice n y h q of = go (joint_cases b c w n (word_of g y w) h)
    where
      go : IsGrayWord (word_of g y w) n ⊎ (((n ≡ own_word b w) × (word_of g y w ≡ own_word c w)) ⊎ IsBoth b c w n (word_of g y w))
          → (s t r : Tree) × (n ≡ cells (Mux s t r) 0 w) × (origin s 0 ≡ option_map (bit_of g) q.cond) × IsJoint b c w (origins t 0 w) (word_of g q.yes w)
          × IsJoint b c w (origins r 0 w) (word_of g q.other w)
      go (inl k) = absurd (code_no_choice g y w n two k q of)
      go (inr (inl k)) = absurd (choice_not_own g y c w one q of k.1)
      go (inr (inr (s, e, t, r, u, v, f, i, same, j, k))) =
          let m : Mux of.0.0 (tree_of g q.yes) (tree_of g q.other) ≡ Mux e u v = cells_tell (Mux of.0.0 (tree_of g q.yes) (tree_of g q.other)) (Mux e u v) w one (sym of.0.1 ∙ i) in
          let ea : e ≡ of.0.0 = cc in
          let ua : u ≡ tree_of g q.yes = cc in
          let va : v ≡ tree_of g q.other = cc in (
            s,
            t,
            r,
            f,
            same ∙ ap (λ (z : Tree). origin z 0) ea ∙ of.0.2,
            subst (λ (z : Tree). IsJoint b c w (origins t 0 w) (origins z 0 w)) ua j,
            subst (λ (z : Tree). IsJoint b c w (origins r 0 w) (origins z 0 w)) va k,
          )

  -- the parts of two choices that are a joint pair
  pub split : (x y : CellId) → IsJoint b c w (word_of g x w) (word_of g y w) → (p q : Choice) → IsChoice g x w (Some p) → IsChoice g y w (Some q)
      → (p.cond ≡ q.cond) × IsJoint b c w (word_of g p.yes w) (word_of g q.yes w) × IsJoint b c w (word_of g p.other w) (word_of g q.other w)
  split x y h p q is of =
      let (s, t, r, e, same, j, k) = joint_choice (word_of g x w) y h q of in
      let m : Mux is.0.0 (tree_of g p.yes) (tree_of g p.other) ≡ Mux s t r = cells_tell (Mux is.0.0 (tree_of g p.yes) (tree_of g p.other)) (Mux s t r) w one (sym is.0.1 ∙ e) in
      let sa : is.0.0 ≡ s = cc in
      let ta : t ≡ tree_of g p.yes = cc in
      let ra : r ≡ tree_of g p.other = cc in (
        same_origins g plain p.cond q.cond is.1 of.1 (sym is.0.2 ∙ ap (λ (z : Tree). origin z 0) sa ∙ same),
        subst (λ (z : Tree). IsJoint b c w (origins z 0 w) (word_of g q.yes w)) ta j,
        subst (λ (z : Tree). IsJoint b c w (origins z 0 w) (word_of g q.other w)) ra k,
      )

  -- ---- a register that changes

  -- each word that the register takes is one of a joint pair
  pub taken_joint : (n : List TreeBit) (next : CellId) → IsJoint b c w n (word_of g next w) → (y : CellId) → IsTaken g w next y → (k : List TreeBit) × IsJoint b c w k (word_of g y w)
  taken_joint n next h y Next = (n, h)
  taken_joint n next h y (First z q t of) = let k = taken_joint n next h z t in let (s, p, r, e, same, i, j) = joint_choice k.0 z k.1 q of in (origins p 0 w, i)
  taken_joint n next h y (Second z q t of) = let k = taken_joint n next h z t in let (s, p, r, e, same, i, j) = joint_choice k.0 z k.1 q of in (origins r 0 w, j)

  -- so what it takes beside its own word is the code of a count word
  pub changed_code : (gray : Register) → gray.sig ≡ c → gray.width ≡ w → (s : Shape) (n : List TreeBit) → HasShape s b c w n (word_of g gray.next w) → (x : CellId) → IsChange g gray (Some x) → IsCodeOf g b w x
  changed_code gray sig wide s n h x (t, has, other, none) = go (joint_cases b c w k.0 (word_of g x w) k.1)
    where
      k : (k : List TreeBit) × IsJoint b c w k (word_of g x w)
      k =
          let j = shape_joint s b c w n (word_of g gray.next w) h in
          taken_joint j.0 gray.next j.1 x (subst (λ (v : ℕ). IsTaken g v gray.next x) wide t)

      go : IsGrayWord (word_of g x w) k.0 ⊎ (((k.0 ≡ own_word b w) × (word_of g x w ≡ own_word c w)) ⊎ IsBoth b c w k.0 (word_of g x w)) → IsCodeOf g b w x
      go (inl i) = (k.0, joint_count b c w k.0 (word_of g x w) k.1, i)
      go (inr (inl i)) = absurd (other (subst (λ (v : ℕ). word_of g x v ≡ own_word gray.sig v) (sym wide) (i.1 ∙ ap (λ (q : ℕ). own_word q w) (sym sig))))
      go (inr (inr (s, e, p, q, u, v, f, i, same, j, l))) = absurd (none e u v (subst (λ (z : ℕ). word_of g x z ≡ cells (Mux e u v) 0 z) (sym wide) i))

-- ---- from the code to the counter

-- the bit is one of a count word's own
abbrev pub IsOfCount : Cells → ℕ → ℕ → Option Node → Type 0
IsOfCount g sig w bit = (node : Node) × (bit ≡ Some node) × IsNodeOf g node × (node.at < w) × CountsItself g sig w node.cell

module _ (g : Cells) (sig w : ℕ) (two : 2 ≤ w) where
  -- a bit that comes from the lowest of a count word
  of_count : (t : Tree) → IsCount sig w (cells t 0 w) → (o : Option Node) → IsIn g o → own_bit t 0 ≡ option_map (bit_of g) o → IsOfCount g sig w o
  of_count t k None within e = cc
  of_count t k (Some node) within e =
      let f : own_bit (tree_of g node.cell) node.at ≡ own_bit t 0 = sym e in
      let at : node.at ≡ 0 = same_place (tree_of g node.cell) t node.at 0 f in
      (node, refl, within, (omega arith), subst (λ (u : Tree). IsCount sig w (cells u 0 w)) (sym (same_tree (tree_of g node.cell) t node.at 0 f)) k)

  lowest : (t : Tree) (v : ℕ) (x : TreeBit) (xs : List TreeBit) → cells t 0 v ≡ x ∷ xs → x ≡ own_bit t 0
  lowest t zero x xs e = cc
  lowest t (suc v) x xs e = let f : own_bit t 0 ≡ x = cc in sym f

  -- one of the operands of the code's lowest bit is the count word's lowest bit
  pub code_leads : (x : CellId) → IsCodeOf g sig w x → (o : Option Exclusive) → IsExclusive g (origin (tree_of g x) 0) o
      → (e : Exclusive) × (o ≡ Some e) × (IsOfCount g sig w e.one ⊎ IsOfCount g sig w e.another)
  code_leads x (n, k, h) o is = go o is (first_of_code (tree_of g x) w n two h)
    where
      whole : (t : Tree) × (n ≡ cells t 0 w)
      whole = count_cells sig w n k

      counts : IsCount sig w (cells whole.0 0 w)
      counts = subst (IsCount sig w) whole.1 k

      go : (o : Option Exclusive) → IsExclusive g (origin (tree_of g x) 0) o → (y z : TreeBit) × (ys : List TreeBit) × (n ≡ y ∷ z ∷ ys) × IsXorOf (origin (tree_of g x) 0) y z
          → (e : Exclusive) × (o ≡ Some e) × (IsOfCount g sig w e.one ⊎ IsOfCount g sig w e.another)
      go None none (y, z, ys, same, (a, b, i, e, s)) = absurd (none a b i e)
      go (Some e) ((p, q, j, f, u, v), within, beside) (y, z, ys, same, (a, b, i, d, s)) = (
        e,
        refl,
        elim s [
          | inl m ↦ inl (of_count whole.0 counts e.one within (sym first ∙ sym m.0 ∙ ap₂ origin left place ∙ u))
          | inr m ↦ inr (of_count whole.0 counts e.another beside (sym first ∙ sym m.1 ∙ ap₂ origin right place ∙ v))
        ],
      )
        where
          first : y ≡ own_bit whole.0 0
          first = lowest whole.0 w y (z ∷ ys) (sym whole.1 ∙ same)

          bits : own_bit (Xor a b) i ≡ own_bit (Xor p q) j
          bits = sym d ∙ f

          left : a ≡ p
          left = let t : Xor a b ≡ Xor p q = same_tree (Xor a b) (Xor p q) i j bits in cc

          right : b ≡ q
          right = let t : Xor a b ≡ Xor p q = same_tree (Xor a b) (Xor p q) i j bits in cc

          place : i ≡ j
          place = same_place (Xor a b) (Xor p q) i j bits
