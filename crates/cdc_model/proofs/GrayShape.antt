-- A register with such a shape is a Gray code of its counter.
use Rattle.std.proofs.Common.{◌≡◌, ℕ, zero, suc, ◌+◌, ◌-◌, ◌^◌, ◌<◌, ◌≤◌, Bool, true, false, cond, nat_lt, Option, Some, None, is_some, List, [], ◌∷◌, Contains, ◌⊎◌, inl, inr, refl, sym, ap, ap₂, subst, ◌∙◌, arith, map}
use Rattle.std.specs.Bool.{beq}
use Rattle.std.specs.List.{AllByRecursion}
use Rattle.std.specs.Prelude.{⊤}
use Rattle.cdc_base.specs.declared.bit.Bit.{Bit}
use Rattle.cell_graph.specs.Reading.{bit_eq, Reading}
use Rattle.cell_graph.specs.Tree.{Tree, Var, Const, Xor, Add, Shl, Shr, Mux, Concat, Slice, Extend, width, bit_at, number}
use Rattle.cell_graph.specs.Cofactor.{known_xor, chosen, known_number, known_plus, on_number, known, is_known, if_known_to_be, agreed_bit, same}
use Rattle.cell_graph.specs.Origin.{TreeBit, const_of, origin}
use Rattle.cell_graph.proofs.OriginSound.{origin_sound}
use Rattle.cdc_model.specs.declared.scheme.GrayReg.{GrayReg}
use Rattle.cdc_model.specs.declared.scheme.Shape.{Shape}
use Rattle.cdc_model.specs.declared.scheme.Shape.TheVariants.{G1, G2, G3}
use Rattle.cdc_model.specs.Design.{Design, bits_from, word}
use Rattle.cdc_model.specs.Gray.{increment, gray_code, Codes, IsOwn, IsGray}
use Rattle.cdc_model.proofs.Codes.{word_has}
use Rattle.cdc_model.specs.Word.{cells, origins, own_word, IsCount, Own, Plus, Choose, IsXorOf, IsTopOf, IsGrayWord, IsJoint, Coded, Stay, Both, values}
use Rattle.cdc_model.specs.GrayShape.{AreNextTrees, HasShape, IsGrayReg}
use Rattle.cdc_model.proofs.Words.{count_sound, gray_sound, joint_sound}

-- ---- the bit that a node is

abbrev node_same : TreeBit → Option Bit
node_same None = None
node_same (Some n) = same [] n.0 n.1

pub number_known : (f : ℕ → Bool) (w : ℕ) → known_number (λ i. Some (f i)) w ≡ Some (number f w)
number_known f zero = refl
number_known f (suc w) = ap (λ o. known_plus o (Some (f w)) (2 ^ w)) (number_known f w)

origin_same : (t : Tree) (i : ℕ) → same [] t i ≡ node_same (origin t i)
origin_same (Concat high low) i = go (nat_lt i (width low)) (origin_same low i) (origin_same high (i - width low))
  where
    go : (v : Bool) → same [] low i ≡ node_same (origin low i) → same [] high (i - width low) ≡ node_same (origin high (i - width low))
        → cond v (same [] low i) (same [] high (i - width low)) ≡ node_same (cond v (origin low i) (origin high (i - width low)))
    go true h k = h
    go false h k = k
origin_same (Slice a at w) i = origin_same a (at + i)
origin_same (Extend a w) i = go (nat_lt i (width a)) (origin_same a i)
  where
    go : (v : Bool) → same [] a i ≡ node_same (origin a i) → cond v (same [] a i) None ≡ node_same (cond v (origin a i) None)
    go true h = h
    go false h = refl
origin_same (Shl a by) i = go by (λ n. origin_same a (i - n))
  where
    two : (u v : Bool) (n : ℕ) → same [] a (i - n) ≡ node_same (origin a (i - n))
        → cond u None (cond v (same [] a (i - n)) None) ≡ node_same (cond u None (cond v (origin a (i - n)) None))
    two true v n h = refl
    two false true n h = h
    two false false n h = refl

    go : (by : Tree) → ((n : ℕ) → same [] a (i - n) ≡ node_same (origin a (i - n)))
        → same [] (Shl a by) i ≡ node_same (on_number (const_of by) (Some (Shl a by, i)) (λ n. cond (nat_lt i n) None (cond (nat_lt (i - n) (width a)) (origin a (i - n)) None)))
    go (Const w v) h =
        ap (λ o. on_number o None (λ n. cond (nat_lt i n) None (cond (nat_lt (i - n) (width a)) (same [] a (i - n)) None))) (number_known (bit_at v) w)
        ∙ two (nat_lt i (number (bit_at v) w)) (nat_lt (i - number (bit_at v) w) (width a)) (number (bit_at v) w) (h (number (bit_at v) w))
    go _ h = refl
origin_same (Shr a by) i = go by (λ n. origin_same a (i + n))
  where
    two : (v : Bool) (n : ℕ) → same [] a (i + n) ≡ node_same (origin a (i + n)) → cond v (same [] a (i + n)) None ≡ node_same (cond v (origin a (i + n)) None)
    two true n h = h
    two false n h = refl

    go : (by : Tree) → ((n : ℕ) → same [] a (i + n) ≡ node_same (origin a (i + n)))
        → same [] (Shr a by) i ≡ node_same (on_number (const_of by) (Some (Shr a by, i)) (λ n. cond (nat_lt (i + n) (width a)) (origin a (i + n)) None))
    go (Const w v) h =
        ap (λ o. on_number o None (λ n. cond (nat_lt (i + n) (width a)) (same [] a (i + n)) None)) (number_known (bit_at v) w)
        ∙ two (nat_lt (i + number (bit_at v) w) (width a)) (number (bit_at v) w) (h (number (bit_at v) w))
    go _ h = refl
origin_same _ i = refl

-- ---- what nodes may be

-- P holds of the bit that each node is, from place i up
abbrev EachSame : (ℕ → Option Bit → Type 0) → ℕ → List TreeBit → Type 0
EachSame P i [] = ⊤
EachSame P i (n ∷ ns) = P i (node_same n) × EachSame P (suc i) ns

abbrev bit_of : ℕ → ℕ → Bit
bit_of sig i = record { sig = sig; at = i }

module _ (P : ℕ → Option Bit → Type 0) (free : (i : ℕ) → P i None) where
  agreed_keeps : (i : ℕ) (o p : Option Bit) → P i o → P i (agreed_bit o p)
  agreed_keeps i (Some a) (Some b) h = go (bit_eq a b)
    where
      go : (v : Bool) → P i (cond v (Some a) None)
      go true = h
      go false = free i
  agreed_keeps i (Some a) None h = free i
  agreed_keeps i None o h = free i

  chosen_keeps : (i : ℕ) (c : Option Bool) (o p : Option Bit) → P i o → P i p → P i (chosen c o p (agreed_bit o p))
  chosen_keeps i (Some true) o p h k = h
  chosen_keeps i (Some false) o p h k = k
  chosen_keeps i None o p h k = agreed_keeps i o p h

  unless_known : (i : ℕ) (v : Bool) (o : Option Bit) → P i o → P i (cond v None o)
  unless_known i true o h = free i
  unless_known i false o h = h

  mux_keeps : (i : ℕ) (c x y : Tree) → P i (same [] x i) → P i (same [] y i) → P i (same [] (Mux c x y) i)
  mux_keeps i c x y h k = unless_known i (is_known [] (Mux c x y) i) (chosen (known [] c 0) (same [] x i) (same [] y i) (agreed_bit (same [] x i) (same [] y i)))
      (chosen_keeps i (known [] c 0) (same [] x i) (same [] y i) h k)

  if_keeps : (i : ℕ) (o : Option Bool) (v : Bool) (x y : Option Bit) → P i x → P i y → P i (if_known_to_be o v x y)
  if_keeps i None v x y h k = k
  if_keeps i (Some w) v x y h k = go (beq w v)
    where
      go : (u : Bool) → P i (cond u x y)
      go true = h
      go false = k

  xor_keeps : (i : ℕ) (a b : Tree) (k : ℕ) → P i (same [] a k) → P i (same [] b k) → P i (same [] (Xor a b) k)
  xor_keeps i a b k h l = unless_known i (is_known [] (Xor a b) k) (if_known_to_be (known [] a k) false (same [] b k) (if_known_to_be (known [] b k) false (same [] a k) None))
      (if_keeps i (known [] a k) false (same [] b k) (if_known_to_be (known [] b k) false (same [] a k) None) l
      (if_keeps i (known [] b k) false (same [] a k) None h (free i)))

  -- a side that is known to be 0 isn't the bit
  zero_right : (i : ℕ) (a b : Tree) (k : ℕ) → known [] b k ≡ Some false → P i (same [] a k) → P i (same [] (Xor a b) k)
  zero_right i a b k z h = go (known [] a k) refl
    where
      full : (o p : Option Bool) → P i (cond (is_some (known_xor o p)) None (if_known_to_be o false (same [] b k) (if_known_to_be p false (same [] a k) None)))
          → known [] a k ≡ o → known [] b k ≡ p → P i (same [] (Xor a b) k)
      full o p q e f = subst (λ (x : Option Bool). P i (cond (is_some (known_xor x (known [] b k))) None (if_known_to_be x false (same [] b k) (if_known_to_be (known [] b k) false (same [] a k) None)))) (sym e)
          (subst (λ (x : Option Bool). P i (cond (is_some (known_xor o x)) None (if_known_to_be o false (same [] b k) (if_known_to_be x false (same [] a k) None)))) (sym f) q)

      go : (o : Option Bool) → known [] a k ≡ o → P i (same [] (Xor a b) k)
      go None e = full None (Some false) h e z
      go (Some v) e = full (Some v) (Some false) (free i) e z

  zero_left : (i : ℕ) (a b : Tree) (k : ℕ) → known [] a k ≡ Some false → P i (same [] b k) → P i (same [] (Xor a b) k)
  zero_left i a b k z h = go (known [] b k) refl
    where
      full : (o p : Option Bool) → P i (cond (is_some (known_xor o p)) None (if_known_to_be o false (same [] b k) (if_known_to_be p false (same [] a k) None)))
          → known [] a k ≡ o → known [] b k ≡ p → P i (same [] (Xor a b) k)
      full o p q e f = subst (λ (x : Option Bool). P i (cond (is_some (known_xor x (known [] b k))) None (if_known_to_be x false (same [] b k) (if_known_to_be (known [] b k) false (same [] a k) None)))) (sym e)
          (subst (λ (x : Option Bool). P i (cond (is_some (known_xor o x)) None (if_known_to_be o false (same [] b k) (if_known_to_be x false (same [] a k) None)))) (sym f) q)

      go : (o : Option Bool) → known [] b k ≡ o → P i (same [] (Xor a b) k)
      go None e = full (Some false) None h z e
      go (Some v) e = full (Some false) (Some v) (free i) z e

  mux_each : (c x y : Tree) (i n : ℕ) → EachSame P i (origins x i n) → EachSame P i (origins y i n) → EachSame P i (cells (Mux c x y) i n)
  mux_each c x y i zero h k = tt
  mux_each c x y i (suc n) h k = (
    mux_keeps i c x y (subst (P i) (sym (origin_same x i)) h.0) (subst (P i) (sym (origin_same y i)) k.0),
    mux_each c x y (suc i) n h.1 k.1,
  )

  add_each : (a b : Tree) (i n : ℕ) → EachSame P i (cells (Add a b) i n)
  add_each a b i zero = tt
  add_each a b i (suc n) = (free i, add_each a b (suc i) n)

  own_each : (sig w i n : ℕ) → ((j : ℕ) → i ≤ j → j < i + n → P j (Some (bit_of sig j))) → EachSame P i (cells (Var sig w) i n)
  own_each sig w i zero h = tt
  own_each sig w i (suc n) h = (h i (omega arith) (omega arith), own_each sig w (suc i) n (λ j l m. h j (omega arith) (omega arith)))

  count_each : (sig w : ℕ) (ns : List TreeBit) → IsCount sig w ns → ((j : ℕ) → j < w → P j (Some (bit_of sig j))) → EachSame P 0 ns
  count_each sig w ns Own h = own_each sig w 0 w (λ j l m. h j (omega arith))
  count_each sig w ns (Plus a b k) h = add_each a b 0 w
  count_each sig w ns (Choose c x y k l) h = mux_each c x y 0 w (count_each sig w (origins x 0 w) k h) (count_each sig w (origins y 0 w) l h)

  -- the next code of a count is no bit but those that the count is, if these have P at each place
  module _ (Q : Option Bit → Type 0) (all : (i : ℕ) (o : Option Bit) → Q o → P i o) where
    zero_node : (t : Tree) (k : ℕ) → origin t k ≡ None → (i : ℕ) → P i (same [] t k)
    zero_node t k e i = subst (P i) (sym (origin_same t k ∙ ap node_same e)) (free i)

    is_node : (i : ℕ) (t : Tree) (k : ℕ) (x : TreeBit) → origin t k ≡ x → Q (node_same x) → P i (same [] t k)
    is_node i t k x e q = subst (P i) (sym (origin_same t k ∙ ap node_same e)) (all i (node_same x) q)

    top_keeps : (i : ℕ) (g x : TreeBit) → IsTopOf g x → Q (node_same x) → P i (node_same g)
    top_keeps i g x (inl e) q = subst (λ (n : TreeBit). P i (node_same n)) (sym e) (all i (node_same x) q)
    top_keeps i g x (inr (a, b, k, e, inl (o, inl z))) q = subst (λ (n : TreeBit). P i (node_same n)) (sym e) (xor_keeps i a b k (is_node i a k x o q) (zero_node b k z i))
    top_keeps i g x (inr (a, b, k, e, inl (o, inr z))) q = subst (λ (n : TreeBit). P i (node_same n)) (sym e) (zero_right i a b k z (is_node i a k x o q))
    top_keeps i g x (inr (a, b, k, e, inr (o, inl z))) q = subst (λ (n : TreeBit). P i (node_same n)) (sym e) (xor_keeps i a b k (zero_node a k z i) (is_node i b k x o q))
    top_keeps i g x (inr (a, b, k, e, inr (o, inr z))) q = subst (λ (n : TreeBit). P i (node_same n)) (sym e) (zero_left i a b k z (is_node i b k x o q))

    pair_keeps : (i : ℕ) (g x y : TreeBit) → IsXorOf g x y → Q (node_same x) → Q (node_same y) → P i (node_same g)
    pair_keeps i g x y (a, b, k, e, inl h) p q = subst (λ (n : TreeBit). P i (node_same n)) (sym e) (xor_keeps i a b k (is_node i a k x h.0 p) (is_node i b k y h.1 q))
    pair_keeps i g x y (a, b, k, e, inr h) p q = subst (λ (n : TreeBit). P i (node_same n)) (sym e) (xor_keeps i a b k (is_node i a k y h.0 q) (is_node i b k x h.1 p))

    code_each : (i j : ℕ) (ms ns : List TreeBit) → IsGrayWord ms ns → EachSame (λ k o. Q o) j ns → EachSame P i ms
    code_each i j [] [] h q = tt
    code_each i j [] (x ∷ xs) h q = absurd h
    code_each i j (g ∷ gs) [] h q = absurd h
    code_each i j (g ∷ []) (x ∷ []) h q = (top_keeps i g x h q.0, tt)
    code_each i j (g ∷ k ∷ gs) (x ∷ []) h q = absurd h
    code_each i j (g ∷ gs) (x ∷ y ∷ xs) h q = (pair_keeps i g x y h.0 q.0 q.1.0, code_each (suc i) (suc j) gs (y ∷ xs) h.1 q.1)

-- ---- the register

-- the count is no bit but its own at that place; or no bit but its own at all
abbrev IsPlace : ℕ → ℕ → Option Bit → Type 0
IsPlace sig i o = (a : Bit) → o ≡ Some a → a ≡ bit_of sig i

abbrev IsIn : List Bit → Option Bit → Type 0
IsIn bs o = (a : Bit) → o ≡ Some a → Contains bs a

abbrev IsPlaceOrIn : ℕ → List Bit → ℕ → Option Bit → Type 0
IsPlaceOrIn sig bs i o = (a : Bit) → o ≡ Some a → (a ≡ bit_of sig i) ⊎ Contains bs a

some_is : (a b : Bit) → Some b ≡ Some a → a ≡ b
some_is a b e = cc

none_some : {A : Type 0} (a : Bit) → None ≡ Some a → A
none_some a e = cc

in_word : (sig w j : ℕ) → j < w → Contains (bits_from sig 0 w) (bit_of sig j)
in_word sig w j l = word_has (bit_of sig j) 0 w (omega arith) (omega arith)

joint_count : (b g w : ℕ) (n m : List TreeBit) → IsJoint b g w n m → IsCount b w n
joint_count b g w n m (Coded c k) = c
joint_count b g w n m Stay = Own
joint_count b g w n m (Both c e x y u v same h k) = Choose c x y (joint_count b g w (origins x 0 w) (origins u 0 w) h) (joint_count b g w (origins y 0 w) (origins v 0 w) k)

count_place : (sig w : ℕ) (ns : List TreeBit) → IsCount sig w ns → EachSame (IsPlace sig) 0 ns
count_place sig w ns k = count_each (IsPlace sig) (λ i a e. none_some a e) sig w ns k (λ j l a e. some_is a (bit_of sig j) e)

count_in : (sig w : ℕ) (ns : List TreeBit) → IsCount sig w ns → EachSame (λ i o. IsIn (bits_from sig 0 w) o) 0 ns
count_in sig w ns k = count_each (λ i o. IsIn (bits_from sig 0 w) o) (λ i a e. none_some a e) sig w ns k
    (λ j l a e. subst (Contains (bits_from sig 0 w)) (sym (some_is a (bit_of sig j) e)) (in_word sig w j l))

code_in : (b g w : ℕ) (ms ns : List TreeBit) → IsCount b w ns → IsGrayWord ms ns → EachSame (IsPlaceOrIn g (bits_from b 0 w)) 0 ms
code_in b g w ms ns k h = code_each (IsPlaceOrIn g (bits_from b 0 w)) (λ i a e. none_some a e) (IsIn (bits_from b 0 w)) (λ i o q a e. inr (q a e)) 0 0 ms ns h (count_in b w ns k)

joint_in : (b g w : ℕ) (n m : List TreeBit) → IsJoint b g w n m → EachSame (IsPlaceOrIn g (bits_from b 0 w)) 0 m
joint_in b g w n m (Coded c k) = code_in b g w m n c k
joint_in b g w n m Stay = own_each (IsPlaceOrIn g (bits_from b 0 w)) (λ i a e. none_some a e) g w 0 w (λ j l k a e. inl (some_is a (bit_of g j) e))
joint_in b g w n m (Both c e x y u v same h k) = mux_each (IsPlaceOrIn g (bits_from b 0 w)) (λ i a e. none_some a e) e u v 0 w
    (joint_in b g w (origins x 0 w) (origins u 0 w) h) (joint_in b g w (origins y 0 w) (origins v 0 w) k)

shape_count : (s : Shape) (b g w : ℕ) (n m : List TreeBit) → HasShape s b g w n m → IsCount b w n
shape_count G1 b g w n m h = h.0
shape_count G2 b g w n m h = joint_count b g w n m h.1
shape_count G3 b g w n m h = h.2

shape_in : (s : Shape) (b g w : ℕ) (n m : List TreeBit) → HasShape s b g w n m → EachSame (IsPlaceOrIn g (bits_from b 0 w)) 0 m
shape_in G1 b g w n m h = code_in b g w m n h.0 h.1
shape_in G2 b g w n m h = joint_in b g w n m h.1
shape_in G3 b g w n m h = code_in b g w m (own_word b w) Own h.3

shape_codes : (s : Shape) (b g w : ℕ) (n m : List TreeBit) → HasShape s b g w n m → (r : Reading) → Codes s (values r (own_word b w)) (values r (own_word g w)) (values r n) (values r m)
shape_codes G1 b g w n m h r = gray_sound r m n h.1
shape_codes G2 b g w n m h r = joint_sound r b g w n m h.1
shape_codes G3 b g w n m h r = gray_sound r m (own_word b w) h.3

own_values : (r : Reading) (sig w i n : ℕ) → values r (cells (Var sig w) i n) ≡ map r (bits_from sig i n)
own_values r sig w i zero = refl
own_values r sig w i (suc n) = ap (λ xs. r (bit_of sig i) ∷ xs) (own_values r sig w (suc i) n)

known_start : (d : Design) (r : Reading) → ((b : Bit) (v : Bool) → d.start b ≡ Some v → r b ≡ v) → (bs : List Bit) (vs : List Bool) → map d.start bs ≡ map Some vs → map r bs ≡ vs
known_start d r h [] [] e = refl
known_start d r h [] (v ∷ vs) e = cc
known_start d r h (b ∷ bs) [] e = cc
known_start d r h (b ∷ bs) (v ∷ vs) e = ap₂ (λ x xs. x ∷ xs) (h b v (cc)) (known_start d r h bs vs (cc))

module _ (d : Design) (tree : ℕ → Tree) (net : AreNextTrees d tree) where
  next_values : (r : Reading) (c sig i n : ℕ) → AllByRecursion (λ b. (d.is_register b ≡ true) × (d.clock b ≡ Some c)) (bits_from sig i n)
      → map (d.next r) (bits_from sig i n) ≡ values r (origins (tree sig) i n)
  next_values r c sig i zero all = refl
  next_values r c sig i (suc n) all = ap₂ (λ x xs. x ∷ xs) (net.next r (bit_of sig i) all.0.0 ∙ origin_sound r (tree sig) i) (next_values r c sig (suc i) n all.1)

  own_bits : (P : ℕ → Option Bit → Type 0) (c sig : ℕ) (others : List Bit) → ((i : ℕ) (o : Option Bit) → P i o → (a : Bit) → o ≡ Some a → (a ≡ bit_of sig i) ⊎ Contains others a)
      → (i n : ℕ) → AllByRecursion (λ b. (d.is_register b ≡ true) × (d.clock b ≡ Some c)) (bits_from sig i n) → EachSame P i (origins (tree sig) i n)
      → AllByRecursion (IsOwn d c others) (bits_from sig i n)
  own_bits P c sig others h i zero all each = tt
  own_bits P c sig others h i (suc n) all each = (
    record {
      register = all.0.0;
      clock = all.0.1;
      own = λ a e. h i (node_same (origin (tree sig) i)) each.0 a (sym (origin_same (tree sig) i) ∙ sym (net.copied (bit_of sig i) all.0.0) ∙ e);
    },
    own_bits P c sig others h (suc i) n all.1 each.1,
  )

  -- a register with such a shape is a Gray code of its counter
  pub gray_reg_sound : (g : GrayReg) → IsGrayReg d tree g → IsGray d g
  gray_reg_sound g k = record {
    one_clock = (
      k.one_clock.0,
      own_bits (IsPlace g.count) k.one_clock.0 g.count [] (λ i o p a e. inl (p a e)) 0 (d.width g.count) k.one_clock.1 (count_place g.count (d.width g.count) next_count is_count),
      subst (λ (w : ℕ). AllByRecursion (IsOwn d k.one_clock.0 (word d g.count)) (bits_from g.gray 0 w)) (sym k.width.2)
          (own_bits (IsPlaceOrIn g.gray (word d g.count)) k.one_clock.0 g.gray (word d g.count) (λ i o p a e. p a e) 0 (d.width g.count) gray_bits
          (shape_in g.shape g.count g.gray (d.width g.count) next_count next_gray k.shape)),
    );
    start = λ r h. known_start d r h (word d g.gray) (gray_code k.start.0) k.start.2 ∙ ap gray_code (sym (known_start d r h (word d g.count) k.start.0 k.start.1));
    counts = λ r. elim (count_sound r g.count (d.width g.count) next_count is_count) [
      | inl e ↦ inl (nexts r ∙ e ∙ own_values r g.count (d.width g.count) 0 (d.width g.count))
      | inr e ↦ inr (nexts r ∙ e ∙ ap increment (own_values r g.count (d.width g.count) 0 (d.width g.count)))
    ];
    codes = codes;
  }
    where
      next_count : List TreeBit
      next_count = origins (tree g.count) 0 (d.width g.count)

      next_gray : List TreeBit
      next_gray = origins (tree g.gray) 0 (d.width g.count)

      is_count : IsCount g.count (d.width g.count) next_count
      is_count = shape_count g.shape g.count g.gray (d.width g.count) next_count next_gray k.shape

      gray_bits : AllByRecursion (λ b. (d.is_register b ≡ true) × (d.clock b ≡ Some k.one_clock.0)) (bits_from g.gray 0 (d.width g.count))
      gray_bits = subst (λ (w : ℕ). AllByRecursion (λ b. (d.is_register b ≡ true) × (d.clock b ≡ Some k.one_clock.0)) (bits_from g.gray 0 w)) k.width.2 k.one_clock.2

      nexts : (r : Reading) → map (d.next r) (word d g.count) ≡ values r next_count
      nexts r = next_values r k.one_clock.0 g.count 0 (d.width g.count) k.one_clock.1

      next_codes : (r : Reading) → map (d.next r) (bits_from g.gray 0 (d.width g.count)) ≡ values r next_gray
      next_codes r = next_values r k.one_clock.0 g.gray 0 (d.width g.count) gray_bits

      codes : (r : Reading) → Codes g.shape (map r (word d g.count)) (map r (word d g.gray)) (map (d.next r) (word d g.count)) (map (d.next r) (word d g.gray))
      codes r = subst (λ (w : ℕ). Codes g.shape (map r (word d g.count)) (map r (bits_from g.gray 0 w)) (map (d.next r) (word d g.count)) (map (d.next r) (bits_from g.gray 0 w))) (sym k.width.2)
          (subst (λ (xs : List Bool). Codes g.shape xs (map r (bits_from g.gray 0 (d.width g.count))) (map (d.next r) (word d g.count)) (map (d.next r) (bits_from g.gray 0 (d.width g.count)))) (own_values r g.count (d.width g.count) 0 (d.width g.count))
          (subst (λ (xs : List Bool). Codes g.shape (values r (own_word g.count (d.width g.count))) xs (map (d.next r) (word d g.count)) (map (d.next r) (bits_from g.gray 0 (d.width g.count)))) (own_values r g.gray (d.width g.count) 0 (d.width g.count))
          (subst (λ (xs : List Bool). Codes g.shape (values r (own_word g.count (d.width g.count))) (values r (own_word g.gray (d.width g.count))) xs (map (d.next r) (bits_from g.gray 0 (d.width g.count)))) (sym (nexts r))
          (subst (λ (xs : List Bool). Codes g.shape (values r (own_word g.count (d.width g.count))) (values r (own_word g.gray (d.width g.count))) (values r next_count) xs) (sym (next_codes r))
          (shape_codes g.shape g.count g.gray (d.width g.count) next_count next_gray k.shape r)))))
