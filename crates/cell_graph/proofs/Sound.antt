-- A known bit has its value in each reading of the cube.
use Rattle.std.proofs.Common.{◌≡◌, ℕ, zero, suc, ◌+◌, ◌-◌, ◌^◌, ◌<◌, Bool, true, false, cond, not, ◌&&◌, ◌||◌, ◌==◌, nat_lt, Option, Some, None, option_map, [], ◌∷◌, refl, sym, ap, ap₂, subst, ◌∙◌, arith, eqb-true, ltb-true, inl, inr, is_some}
use Rattle.std.proofs.lemmas.Bool.{or_left, or_right, cases_eq}
use Rattle.std.specs.Bool.{beq}
use Rattle.cell_graph.specs.Reading.{bit_eq}
use Rattle.cell_graph.proofs.Bits.{bit_eq-true, bit_eq-refl}
use Rattle.cdc_base.specs.declared.bit.Bit.{Bit}
use Rattle.cell_graph.specs.Reading.{Reading}
use Rattle.cell_graph.specs.Reading.{Cube, Meets}
use Rattle.cell_graph.specs.Tree.{Tree, Var, Const, Not, And, Or, Xor, Add, Sub, Eq, Lt, Shl, Shr, Mux, Concat, Slice, Extend, ReduceAnd, ReduceOr, ReduceXor, width, bit_at, bit, number, all_below, any_below, odd_below}
use Rattle.cell_graph.specs.Cofactor.{fixed, known_and, known_or, known_xor, agreed, chosen, known_plus, known_number, on_number, on_numbers, known_all, known_any, known_odd, known, is_known, if_known_to_be, agreed_bit, same, reads_but, reads}

-- what is known of v, if anything, is so
abbrev pub Knows : {A : Type 0} → Option A → A → Type 0
Knows None v = Unit {0}
Knows (Some w) v = v ≡ w

beq_same : (a b : Bool) → beq a b ≡ true → a ≡ b
beq_same true true h = refl
beq_same true false h = cc
beq_same false true h = cc
beq_same false false h = refl

knows_fixed : (cube : Cube) (r : Reading) → Meets cube r → (b : Bit) → Knows (fixed cube b) (r b)
knows_fixed [] r m b = tt
knows_fixed (f ∷ fs) r m b = go (bit_eq f.0 b) refl (knows_fixed fs r m.1 b)
  where
    go : (v : Bool) → bit_eq f.0 b ≡ v → Knows (fixed fs b) (r b) → Knows (cond v (Some f.1) (fixed fs b)) (r b)
    go true e ih = ap r (sym (bit_eq-true f.0 b e)) ∙ m.0
    go false e ih = ih

knows_not : (o : Option Bool) (v : Bool) → Knows o v → Knows (option_map not o) (not v)
knows_not None v h = tt
knows_not (Some w) v h = ap not h

and_false : (v w : Bool) → w ≡ false → (v && w) ≡ false
and_false true w h = h
and_false false w h = refl

or_true : (v w : Bool) → w ≡ true → (v || w) ≡ true
or_true true w h = refl
or_true false w h = h

knows_and : (o p : Option Bool) (v w : Bool) → Knows o v → Knows p w → Knows (known_and o p) (v && w)
knows_and (Some true) p v w h k = subst (λ (x : Bool). Knows p (x && w)) (sym h) k
knows_and (Some false) p v w h k = ap (λ x. x && w) h
knows_and None (Some false) v w h k = and_false v w k
knows_and None (Some true) v w h k = tt
knows_and None None v w h k = tt

knows_or : (o p : Option Bool) (v w : Bool) → Knows o v → Knows p w → Knows (known_or o p) (v || w)
knows_or (Some false) p v w h k = subst (λ (x : Bool). Knows p (x || w)) (sym h) k
knows_or (Some true) p v w h k = ap (λ x. x || w) h
knows_or None (Some true) v w h k = or_true v w k
knows_or None (Some false) v w h k = tt
knows_or None None v w h k = tt

knows_xor : (o p : Option Bool) (v w : Bool) → Knows o v → Knows p w → Knows (known_xor o p) (cond v (not w) w)
knows_xor None p v w h k = tt
knows_xor (Some a) None v w h k = tt
knows_xor (Some a) (Some b) v w h k = ap₂ (λ x y. cond x (not y) y) h k

knows_agreed : (o p : Option Bool) (c v w : Bool) → Knows o v → Knows p w → Knows (agreed o p) (cond c v w)
knows_agreed None p c v w h k = tt
knows_agreed (Some a) None c v w h k = tt
knows_agreed (Some true) (Some true) true v w h k = h
knows_agreed (Some true) (Some true) false v w h k = k
knows_agreed (Some true) (Some false) c v w h k = tt
knows_agreed (Some false) (Some true) c v w h k = tt
knows_agreed (Some false) (Some false) true v w h k = h
knows_agreed (Some false) (Some false) false v w h k = k

knows_chosen : (o p q : Option Bool) (c v w : Bool) → Knows o c → Knows p v → Knows q w → Knows (chosen o p q (agreed p q)) (cond c v w)
knows_chosen (Some true) p q c v w h k l = subst (λ (x : Bool). Knows p (cond x v w)) (sym h) k
knows_chosen (Some false) p q c v w h k l = subst (λ (x : Bool). Knows q (cond x v w)) (sym h) l
knows_chosen None p q c v w h k l = knows_agreed p q c v w k l

knows_if : (t : Bool) (o p : Option Bool) (v w : Bool) → Knows o v → Knows p w → Knows (cond t o p) (cond t v w)
knows_if true o p v w h k = h
knows_if false o p v w h k = k

knows_plus : (o : Option ℕ) (p : Option Bool) (n k : ℕ) (v : Bool) → Knows o n → Knows p v → Knows (known_plus o p k) (n + cond v k 0)
knows_plus None p n k v h l = tt
knows_plus (Some m) None n k v h l = tt
knows_plus (Some m) (Some b) n k v h l = ap₂ (λ x y. x + cond y k 0) h l

module _ (k : ℕ → Option Bool) (f : ℕ → Bool) (each : (i : ℕ) → Knows (k i) (f i)) where
  knows_number : (w : ℕ) → Knows (known_number k w) (number f w)
  knows_number zero = refl
  knows_number (suc w) = knows_plus (known_number k w) (k w) (number f w) (2 ^ w) (f w) (knows_number w) (each w)

  knows_all : (w : ℕ) → Knows (known_all k w) (all_below f w)
  knows_all zero = refl
  knows_all (suc w) = knows_and (known_all k w) (k w) (all_below f w) (f w) (knows_all w) (each w)

  knows_any : (w : ℕ) → Knows (known_any k w) (any_below f w)
  knows_any zero = refl
  knows_any (suc w) = knows_or (known_any k w) (k w) (any_below f w) (f w) (knows_any w) (each w)

  knows_odd : (w : ℕ) → Knows (known_odd k w) (odd_below f w)
  knows_odd zero = refl
  knows_odd (suc w) = knows_xor (k w) (known_odd k w) (f w) (odd_below f w) (each w) (knows_odd w)

knows_on : (a b : Option ℕ) (m n : ℕ) (g : ℕ → ℕ → Bool) → Knows a m → Knows b n → Knows (on_numbers a b g) (g m n)
knows_on None b m n g h k = tt
knows_on (Some x) None m n g h k = tt
knows_on (Some x) (Some y) m n g h k = ap₂ g h k

knows_shl : (o : Option ℕ) (n w : ℕ) (k : ℕ → Option Bool) (f : ℕ → Bool) (i : ℕ) → Knows o n → ((i : ℕ) → Knows (k i) (f i))
    → Knows (on_number o None (λ n. cond (nat_lt i n) (Some false) (cond (nat_lt (i - n) w) (k (i - n)) (Some false)))) (cond (nat_lt i n) false (cond (nat_lt (i - n) w) (f (i - n)) false))
knows_shl None n w k f i h each = tt
knows_shl (Some m) n w k f i h each = subst (λ (x : ℕ). Knows (cond (nat_lt i m) (Some false) (cond (nat_lt (i - m) w) (k (i - m)) (Some false))) (cond (nat_lt i x) false (cond (nat_lt (i - x) w) (f (i - x)) false))) (sym h)
    (knows_if (nat_lt i m) (Some false) (cond (nat_lt (i - m) w) (k (i - m)) (Some false)) false (cond (nat_lt (i - m) w) (f (i - m)) false) refl
    (knows_if (nat_lt (i - m) w) (k (i - m)) (Some false) (f (i - m)) false (each (i - m)) refl))

knows_shr : (o : Option ℕ) (n w : ℕ) (k : ℕ → Option Bool) (f : ℕ → Bool) (i : ℕ) → Knows o n → ((i : ℕ) → Knows (k i) (f i))
    → Knows (on_number o None (λ n. cond (nat_lt (i + n) w) (k (i + n)) (Some false))) (cond (nat_lt (i + n) w) (f (i + n)) false)
knows_shr None n w k f i h each = tt
knows_shr (Some m) n w k f i h each = subst (λ (x : ℕ). Knows (cond (nat_lt (i + m) w) (k (i + m)) (Some false)) (cond (nat_lt (i + x) w) (f (i + x)) false)) (sym h)
    (knows_if (nat_lt (i + m) w) (k (i + m)) (Some false) (f (i + m)) false (each (i + m)) refl)

module _ (cube : Cube) (r : Reading) (meets : Meets cube r) where
  pub known_sound : (t : Tree) (i : ℕ) → Knows (known cube t i) (bit r t i)
  known_sound (Var sig w) i = knows_fixed cube r meets (record { sig = sig; at = i })
  known_sound (Const w v) i = refl
  known_sound (Not a) i = knows_not (known cube a i) (bit r a i) (known_sound a i)
  known_sound (And a b) i = knows_and (known cube a i) (known cube b i) (bit r a i) (bit r b i) (known_sound a i) (known_sound b i)
  known_sound (Or a b) i = knows_or (known cube a i) (known cube b i) (bit r a i) (bit r b i) (known_sound a i) (known_sound b i)
  known_sound (Xor a b) i = knows_xor (known cube a i) (known cube b i) (bit r a i) (bit r b i) (known_sound a i) (known_sound b i)
  known_sound (Add a b) i = knows_on (known_number (known cube a) (suc i)) (known_number (known cube b) (suc i)) (number (bit r a) (suc i)) (number (bit r b) (suc i)) (λ m n. bit_at (m + n) i)
      (knows_number (known cube a) (bit r a) (known_sound a) (suc i)) (knows_number (known cube b) (bit r b) (known_sound b) (suc i))
  known_sound (Sub a b) i = knows_on (known_number (known cube a) (suc i)) (known_number (known cube b) (suc i)) (number (bit r a) (suc i)) (number (bit r b) (suc i)) (λ m n. bit_at (2 ^ suc i + m - n) i)
      (knows_number (known cube a) (bit r a) (known_sound a) (suc i)) (knows_number (known cube b) (bit r b) (known_sound b) (suc i))
  known_sound (Eq a b) i = knows_all (λ j. option_map not (known_xor (known cube a j) (known cube b j))) (λ j. not (cond (bit r a j) (not (bit r b j)) (bit r b j)))
      (λ j. knows_not (known_xor (known cube a j) (known cube b j)) (cond (bit r a j) (not (bit r b j)) (bit r b j))
      (knows_xor (known cube a j) (known cube b j) (bit r a j) (bit r b j) (known_sound a j) (known_sound b j))) (width a)
  known_sound (Lt a b) i = knows_on (known_number (known cube a) (width a)) (known_number (known cube b) (width a)) (number (bit r a) (width a)) (number (bit r b) (width a)) nat_lt
      (knows_number (known cube a) (bit r a) (known_sound a) (width a)) (knows_number (known cube b) (bit r b) (known_sound b) (width a))
  known_sound (Shl a by) i = knows_shl (known_number (known cube by) (width by)) (number (bit r by) (width by)) (width a) (known cube a) (bit r a) i
      (knows_number (known cube by) (bit r by) (known_sound by) (width by)) (known_sound a)
  known_sound (Shr a by) i = knows_shr (known_number (known cube by) (width by)) (number (bit r by) (width by)) (width a) (known cube a) (bit r a) i
      (knows_number (known cube by) (bit r by) (known_sound by) (width by)) (known_sound a)
  known_sound (Mux c x y) i = knows_chosen (known cube c 0) (known cube x i) (known cube y i) (bit r c 0) (bit r x i) (bit r y i) (known_sound c 0) (known_sound x i) (known_sound y i)
  known_sound (Concat high low) i = knows_if (nat_lt i (width low)) (known cube low i) (known cube high (i - width low)) (bit r low i) (bit r high (i - width low)) (known_sound low i) (known_sound high (i - width low))
  known_sound (Slice a at w) i = known_sound a (at + i)
  known_sound (Extend a w) i = knows_if (nat_lt i (width a)) (known cube a i) (Some false) (bit r a i) false (known_sound a i) refl
  known_sound (ReduceAnd a) i = knows_all (known cube a) (bit r a) (known_sound a) (width a)
  known_sound (ReduceOr a) i = knows_any (known cube a) (bit r a) (known_sound a) (width a)
  known_sound (ReduceXor a) i = knows_odd (known cube a) (bit r a) (known_sound a) (width a)

-- the bit that v is, if any, has v's value
abbrev pub IsBit : Reading → Option Bit → Bool → Type 0
IsBit r None v = Unit {0}
IsBit r (Some a) v = v ≡ r a

bit_unless : (r : Reading) (t : Bool) (o : Option Bit) (v : Bool) → IsBit r o v → IsBit r (cond t None o) v
bit_unless r true o v h = tt
bit_unless r false o v h = h

bit_if : (r : Reading) (t : Bool) (o p : Option Bit) (v w : Bool) → IsBit r o v → IsBit r p w → IsBit r (cond t o p) (cond t v w)
bit_if r true o p v w h k = h
bit_if r false o p v w h k = k

and_true : (v : Bool) → (v && true) ≡ v
and_true true = refl
and_true false = refl

or_false : (v : Bool) → (v || false) ≡ v
or_false true = refl
or_false false = refl

xor_false : (v : Bool) → cond v true false ≡ v
xor_false true = refl
xor_false false = refl

-- where one operand is the neutral value u, the result is the other operand
one_side : (r : Reading) (op : Bool → Bool → Bool) (u : Bool) → ((v : Bool) → op u v ≡ v) → ((v : Bool) → op v u ≡ v)
    → (ka kb : Option Bool) (sa sb : Option Bit) (v w : Bool) → Knows ka v → Knows kb w → IsBit r sa v → IsBit r sb w
    → IsBit r (if_known_to_be ka u sb (if_known_to_be kb u sa None)) (op v w)
one_side r op u left right ka kb sa sb v w h k m n = first ka h
  where
    is : (o : Option Bit) (x y : Bool) → x ≡ y → IsBit r o y → IsBit r o x
    is None x y e h = tt
    is (Some a) x y e h = e ∙ h

    second : (o : Option Bool) → Knows o w → IsBit r (if_known_to_be o u sa None) (op v w)
    second None h = tt
    second (Some b) h = go (beq b u) refl
      where
        go : (t : Bool) → beq b u ≡ t → IsBit r (cond t sa None) (op v w)
        go true e = is sa (op v w) v (ap (op v) (h ∙ beq_same b u e) ∙ right v) m
        go false e = tt

    first : (o : Option Bool) → Knows o v → IsBit r (if_known_to_be o u sb (if_known_to_be kb u sa None)) (op v w)
    first None h = second kb k
    first (Some b) h = go (beq b u) refl
      where
        go : (t : Bool) → beq b u ≡ t → IsBit r (cond t sb (if_known_to_be kb u sa None)) (op v w)
        go true e = is sb (op v w) w (ap (λ x. op x w) (h ∙ beq_same b u e) ∙ left w) n
        go false e = second kb k

bit_agreed : (r : Reading) (o p : Option Bit) (c v w : Bool) → IsBit r o v → IsBit r p w → IsBit r (agreed_bit o p) (cond c v w)
bit_agreed r None p c v w h k = tt
bit_agreed r (Some a) None c v w h k = tt
bit_agreed r (Some a) (Some b) c v w h k = go (bit_eq a b) refl c
  where
    go : (t : Bool) → bit_eq a b ≡ t → (c : Bool) → IsBit r (cond t (Some a) None) (cond c v w)
    go true e true = h
    go true e false = k ∙ ap r (sym (bit_eq-true a b e))
    go false e c = tt

bit_chosen : (r : Reading) (k : Option Bool) (o p : Option Bit) (c v w : Bool) → Knows k c → IsBit r o v → IsBit r p w → IsBit r (chosen k o p (agreed_bit o p)) (cond c v w)
bit_chosen r (Some true) o p c v w h m n = subst (λ (x : Bool). IsBit r o (cond x v w)) (sym h) m
bit_chosen r (Some false) o p c v w h m n = subst (λ (x : Bool). IsBit r p (cond x v w)) (sym h) n
bit_chosen r None o p c v w h m n = bit_agreed r o p c v w m n

bit_shl : (r : Reading) (o : Option ℕ) (n w : ℕ) (s : ℕ → Option Bit) (f : ℕ → Bool) (i : ℕ) → Knows o n → ((i : ℕ) → IsBit r (s i) (f i))
    → IsBit r (on_number o None (λ n. cond (nat_lt i n) None (cond (nat_lt (i - n) w) (s (i - n)) None))) (cond (nat_lt i n) false (cond (nat_lt (i - n) w) (f (i - n)) false))
bit_shl r None n w s f i h each = tt
bit_shl r (Some m) n w s f i h each = subst (λ (x : ℕ). IsBit r (cond (nat_lt i m) None (cond (nat_lt (i - m) w) (s (i - m)) None)) (cond (nat_lt i x) false (cond (nat_lt (i - x) w) (f (i - x)) false))) (sym h)
    (bit_if r (nat_lt i m) None (cond (nat_lt (i - m) w) (s (i - m)) None) false (cond (nat_lt (i - m) w) (f (i - m)) false) tt
    (bit_if r (nat_lt (i - m) w) (s (i - m)) None (f (i - m)) false (each (i - m)) tt))

bit_shr : (r : Reading) (o : Option ℕ) (n w : ℕ) (s : ℕ → Option Bit) (f : ℕ → Bool) (i : ℕ) → Knows o n → ((i : ℕ) → IsBit r (s i) (f i))
    → IsBit r (on_number o None (λ n. cond (nat_lt (i + n) w) (s (i + n)) None)) (cond (nat_lt (i + n) w) (f (i + n)) false)
bit_shr r None n w s f i h each = tt
bit_shr r (Some m) n w s f i h each = subst (λ (x : ℕ). IsBit r (cond (nat_lt (i + m) w) (s (i + m)) None) (cond (nat_lt (i + x) w) (f (i + x)) false)) (sym h)
    (bit_if r (nat_lt (i + m) w) (s (i + m)) None (f (i + m)) false (each (i + m)) tt)

module _ (cube : Cube) (r : Reading) (meets : Meets cube r) where
  pub same_sound : (t : Tree) (i : ℕ) → IsBit r (same cube t i) (bit r t i)
  same_sound (Var sig w) i = bit_unless r (is_known cube (Var sig w) i) (Some (record { sig = sig; at = i })) (r (record { sig = sig; at = i })) refl
  same_sound (Const w v) i = tt
  same_sound (Not a) i = tt
  same_sound (And a b) i = bit_unless r (is_known cube (And a b) i) (if_known_to_be (known cube a i) true (same cube b i) (if_known_to_be (known cube b i) true (same cube a i) None)) (bit r a i && bit r b i)
      (one_side r (λ v w. v && w) true (λ v. refl) and_true (known cube a i) (known cube b i) (same cube a i) (same cube b i) (bit r a i) (bit r b i)
      (known_sound cube r meets a i) (known_sound cube r meets b i) (same_sound a i) (same_sound b i))
  same_sound (Or a b) i = bit_unless r (is_known cube (Or a b) i) (if_known_to_be (known cube a i) false (same cube b i) (if_known_to_be (known cube b i) false (same cube a i) None)) (bit r a i || bit r b i)
      (one_side r (λ v w. v || w) false (λ v. refl) or_false (known cube a i) (known cube b i) (same cube a i) (same cube b i) (bit r a i) (bit r b i)
      (known_sound cube r meets a i) (known_sound cube r meets b i) (same_sound a i) (same_sound b i))
  same_sound (Xor a b) i = bit_unless r (is_known cube (Xor a b) i) (if_known_to_be (known cube a i) false (same cube b i) (if_known_to_be (known cube b i) false (same cube a i) None)) (cond (bit r a i) (not (bit r b i)) (bit r b i))
      (one_side r (λ v w. cond v (not w) w) false (λ v. refl) xor_false (known cube a i) (known cube b i) (same cube a i) (same cube b i) (bit r a i) (bit r b i)
      (known_sound cube r meets a i) (known_sound cube r meets b i) (same_sound a i) (same_sound b i))
  same_sound (Add a b) i = tt
  same_sound (Sub a b) i = tt
  same_sound (Eq a b) i = tt
  same_sound (Lt a b) i = tt
  same_sound (Shl a by) i = bit_shl r (known_number (known cube by) (width by)) (number (bit r by) (width by)) (width a) (same cube a) (bit r a) i
      (knows_number (known cube by) (bit r by) (known_sound cube r meets by) (width by)) (same_sound a)
  same_sound (Shr a by) i = bit_shr r (known_number (known cube by) (width by)) (number (bit r by) (width by)) (width a) (same cube a) (bit r a) i
      (knows_number (known cube by) (bit r by) (known_sound cube r meets by) (width by)) (same_sound a)
  same_sound (Mux c x y) i = bit_unless r (is_known cube (Mux c x y) i) (chosen (known cube c 0) (same cube x i) (same cube y i) (agreed_bit (same cube x i) (same cube y i))) (cond (bit r c 0) (bit r x i) (bit r y i))
      (bit_chosen r (known cube c 0) (same cube x i) (same cube y i) (bit r c 0) (bit r x i) (bit r y i) (known_sound cube r meets c 0) (same_sound x i) (same_sound y i))
  same_sound (Concat high low) i = bit_if r (nat_lt i (width low)) (same cube low i) (same cube high (i - width low)) (bit r low i) (bit r high (i - width low)) (same_sound low i) (same_sound high (i - width low))
  same_sound (Slice a at w) i = same_sound a (at + i)
  same_sound (Extend a w) i = bit_if r (nat_lt i (width a)) (same cube a i) None (bit r a i) false (same_sound a i) tt
  same_sound (ReduceAnd a) i = one_and (width a) (same cube a 0) (bit r a) (same_sound a 0)
    where
      one_and : (w : ℕ) (o : Option Bit) (f : ℕ → Bool) → IsBit r o (f 0) → IsBit r (cond (w == 1) o None) (all_below f w)
      one_and w o f h = go (w == 1) refl
        where
          go : (v : Bool) → (w == 1) ≡ v → IsBit r (cond v o None) (all_below f w)
          go true e = subst (λ (x : ℕ). IsBit r o (all_below f x)) (sym (eqb-true w 1 e)) h
          go false e = tt
  same_sound (ReduceOr a) i = one_or (width a) (same cube a 0) (bit r a) (same_sound a 0)
    where
      one_or : (w : ℕ) (o : Option Bit) (f : ℕ → Bool) → IsBit r o (f 0) → IsBit r (cond (w == 1) o None) (any_below f w)
      one_or w o f h = go (w == 1) refl
        where
          go : (v : Bool) → (w == 1) ≡ v → IsBit r (cond v o None) (any_below f w)
          go true e = subst (λ (x : ℕ). IsBit r o (any_below f x)) (sym (eqb-true w 1 e)) h
          go false e = tt
  same_sound (ReduceXor a) i = one_odd (width a) (same cube a 0) (bit r a) (same_sound a 0)
    where
      one_odd : (w : ℕ) (o : Option Bit) (f : ℕ → Bool) → IsBit r o (f 0) → IsBit r (cond (w == 1) o None) (odd_below f w)
      one_odd w o f h = go (w == 1) refl
        where
          go : (v : Bool) → (w == 1) ≡ v → IsBit r (cond v o None) (odd_below f w)
          go true e = subst (λ (x : ℕ). IsBit r o (odd_below f x)) (sym (eqb-true w 1 e)) (subst (IsBit r o) (sym (xor_false (f 0))) h)
          go false e = tt

number_same : (f g : ℕ → Bool) (n : ℕ) → ((j : ℕ) → j < n → f j ≡ g j) → number f n ≡ number g n
number_same f g zero h = refl
number_same f g (suc n) h = ap₂ (λ x v. x + cond v (2 ^ n) 0) (number_same f g n (λ j l. h j (omega arith))) (h n (omega arith))

all_alike : (f g : ℕ → Bool) (n : ℕ) → ((j : ℕ) → j < n → f j ≡ g j) → all_below f n ≡ all_below g n
all_alike f g zero h = refl
all_alike f g (suc n) h = ap₂ (λ x v. x && v) (all_alike f g n (λ j l. h j (omega arith))) (h n (omega arith))

any_alike : (f g : ℕ → Bool) (n : ℕ) → ((j : ℕ) → j < n → f j ≡ g j) → any_below f n ≡ any_below g n
any_alike f g zero h = refl
any_alike f g (suc n) h = ap₂ (λ x v. x || v) (any_alike f g n (λ j l. h j (omega arith))) (h n (omega arith))

odd_alike : (f g : ℕ → Bool) (n : ℕ) → ((j : ℕ) → j < n → f j ≡ g j) → odd_below f n ≡ odd_below g n
odd_alike f g zero h = refl
odd_alike f g (suc n) h = ap₂ (λ x v. cond v (not x) x) (odd_alike f g n (λ j l. h j (omega arith))) (h n (omega arith))

any_at : (f : ℕ → Bool) (n j : ℕ) → j < n → f j ≡ true → any_below f n ≡ true
any_at f zero j l h = absurd (omega arith)
any_at f (suc n) j l h = elim (cases_eq j n) [
  | inl e ↦ or_right (any_below f n) (f n) (ap f (sym e) ∙ h)
  | inr ne ↦ or_left (any_below f n) (f n) (any_at f n j (omega arith) h)
]

module _ (cube : Cube) (r q : Reading) (mr : Meets cube r) (mq : Meets cube q) where
  abbrev pub Agree : (Bit → Bool) → Type 0
  Agree f = (b : Bit) → f b ≡ true → r b ≡ q b

  by_feeds : (k : Option Bool) (o : Option Bit) (f : Bit → Bool) (v w : Bool) → Knows k v → Knows k w → IsBit r o v → IsBit q o w
      → Agree (λ b. reads_but k o b (f b)) → (Agree f → v ≡ w) → v ≡ w
  by_feeds (Some u) o f v w h l m n agree rest = h ∙ sym l
  by_feeds None (Some a) f v w h l m n agree rest = m ∙ agree a (bit_eq-refl a) ∙ sym n
  by_feeds None None f v w h l m n agree rest = rest agree

  left : (f g : Bit → Bool) → Agree (λ b. f b || g b) → Agree f
  left f g agree b h = agree b (or_left (f b) (g b) h)

  right : (f g : Bit → Bool) → Agree (λ b. f b || g b) → Agree g
  right f g agree b h = agree b (or_right (f b) (g b) h)

  below : (f : ℕ → Bit → Bool) (n : ℕ) → Agree (λ b. any_below (λ j. f j b) n) → (j : ℕ) → j < n → Agree (f j)
  below f n agree j l b h = agree b (any_at (λ j. f j b) n j l h)

  chosen_same : (k : Option Bool) (c d : Bool) (v w x y : Bool) (fc f g : Bit → Bool) → Knows k c → Knows k d
      → Agree (λ b. chosen k (f b) (g b) (fc b || (f b || g b))) → (Agree fc → c ≡ d) → (Agree f → v ≡ x) → (Agree g → w ≡ y) → cond c v w ≡ cond d x y
  chosen_same (Some true) c d v w x y fc f g h l agree s t u = ap (λ z. cond z v w) h ∙ t agree ∙ ap (λ z. cond z x y) (sym l)
  chosen_same (Some false) c d v w x y fc f g h l agree s t u = ap (λ z. cond z v w) h ∙ u agree ∙ ap (λ z. cond z x y) (sym l)
  chosen_same None c d v w x y fc f g h l agree s t u =
      ap (λ z. cond z v w) (s (left fc (λ b. f b || g b) agree))
      ∙ ap₂ (cond d) (t (left f g (right fc (λ b. f b || g b) agree))) (u (right f g (right fc (λ b. f b || g b) agree)))

  if_same : (t : Bool) (v w x y : Bool) (f g : Bit → Bool) → Agree (λ b. cond t (f b) (g b)) → (Agree f → v ≡ x) → (Agree g → w ≡ y) → cond t v w ≡ cond t x y
  if_same true v w x y f g agree h k = h agree
  if_same false v w x y f g agree h k = k agree

  known_r : (t : Tree) (i : ℕ) → Knows (known cube t i) (bit r t i)
  known_r = known_sound cube r mr

  known_q : (t : Tree) (i : ℕ) → Knows (known cube t i) (bit q t i)
  known_q = known_sound cube q mq

  shl_same : (o : Option ℕ) (m n w : ℕ) (f g : ℕ → Bool) (reads_all : Bit → Bool) (reads_at : ℕ → Bit → Bool) (i : ℕ) → Knows o m → Knows o n
      → Agree (λ b. on_number o (reads_all b) (λ n. cond (nat_lt i n) false (cond (nat_lt (i - n) w) (reads_at (i - n) b) false)))
      → ((j : ℕ) → Agree (reads_at j) → f j ≡ g j) → (Agree reads_all → (m ≡ n) × ((j : ℕ) → j < w → f j ≡ g j))
      → cond (nat_lt i m) false (cond (nat_lt (i - m) w) (f (i - m)) false) ≡ cond (nat_lt i n) false (cond (nat_lt (i - n) w) (g (i - n)) false)
  shl_same (Some k) m n w f g reads_all reads_at i h l agree at all =
      ap (λ x. cond (nat_lt i x) false (cond (nat_lt (i - x) w) (f (i - x)) false)) h
      ∙ if_same (nat_lt i k) false (cond (nat_lt (i - k) w) (f (i - k)) false) false (cond (nat_lt (i - k) w) (g (i - k)) false) (λ b. false) (λ b. cond (nat_lt (i - k) w) (reads_at (i - k) b) false) agree
      (λ a. refl) (λ a. if_same (nat_lt (i - k) w) (f (i - k)) false (g (i - k)) false (reads_at (i - k)) (λ b. false) a (at (i - k)) (λ a. refl))
      ∙ ap (λ x. cond (nat_lt i x) false (cond (nat_lt (i - x) w) (g (i - x)) false)) (sym l)
  shl_same None m n w f g reads_all reads_at i h l agree at all =
      let e = all agree in
      ap (λ x. cond (nat_lt i x) false (cond (nat_lt (i - x) w) (f (i - x)) false)) e.0
      ∙ ap (cond (nat_lt i n) false) (within (nat_lt (i - n) w) refl e.1)
    where
      within : (v : Bool) → nat_lt (i - n) w ≡ v → ((j : ℕ) → j < w → f j ≡ g j) → cond v (f (i - n)) false ≡ cond v (g (i - n)) false
      within true e h = h (i - n) (ltb-true (i - n) w e)
      within false e h = refl

  shr_same : (o : Option ℕ) (m n w : ℕ) (f g : ℕ → Bool) (reads_all : Bit → Bool) (reads_at : ℕ → Bit → Bool) (i : ℕ) → Knows o m → Knows o n
      → Agree (λ b. on_number o (reads_all b) (λ n. cond (nat_lt (i + n) w) (reads_at (i + n) b) false))
      → ((j : ℕ) → Agree (reads_at j) → f j ≡ g j) → (Agree reads_all → (m ≡ n) × ((j : ℕ) → j < w → f j ≡ g j))
      → cond (nat_lt (i + m) w) (f (i + m)) false ≡ cond (nat_lt (i + n) w) (g (i + n)) false
  shr_same (Some k) m n w f g reads_all reads_at i h l agree at all =
      ap (λ x. cond (nat_lt (i + x) w) (f (i + x)) false) h
      ∙ if_same (nat_lt (i + k) w) (f (i + k)) false (g (i + k)) false (reads_at (i + k)) (λ b. false) agree (at (i + k)) (λ a. refl)
      ∙ ap (λ x. cond (nat_lt (i + x) w) (g (i + x)) false) (sym l)
  shr_same None m n w f g reads_all reads_at i h l agree at all =
      let e = all agree in
      ap (λ x. cond (nat_lt (i + x) w) (f (i + x)) false) e.0 ∙ within (nat_lt (i + n) w) refl e.1
    where
      within : (v : Bool) → nat_lt (i + n) w ≡ v → ((j : ℕ) → j < w → f j ≡ g j) → cond v (f (i + n)) false ≡ cond v (g (i + n)) false
      within true e h = h (i + n) (ltb-true (i + n) w e)
      within false e h = refl

  var_same : (o : Option Bool) (a : Bit) → Knows o (r a) → Knows o (q a) → Agree (λ b. reads_but o (cond (is_some o) None (Some a)) b false) → r a ≡ q a
  var_same None a h l agree = agree a (bit_eq-refl a)
  var_same (Some v) a h l agree = h ∙ sym l

  pub reads_sound : (t : Tree) (i : ℕ) → Agree (reads cube t i) → bit r t i ≡ bit q t i
  reads_sound (Var sig w) i agree = var_same (fixed cube (record { sig = sig; at = i })) (record { sig = sig; at = i }) (known_r (Var sig w) i) (known_q (Var sig w) i) agree
  reads_sound (Const w v) i agree = refl
  reads_sound (Not a) i agree = by_feeds (known cube (Not a) i) None (reads cube a i) (bit r (Not a) i) (bit q (Not a) i)
      (known_r (Not a) i) (known_q (Not a) i) tt tt agree (λ h. ap not (reads_sound a i h))
  reads_sound (And a b) i agree = by_feeds (known cube (And a b) i) (same cube (And a b) i) (λ c. reads cube a i c || reads cube b i c) (bit r (And a b) i) (bit q (And a b) i)
      (known_r (And a b) i) (known_q (And a b) i) (same_sound cube r mr (And a b) i) (same_sound cube q mq (And a b) i) agree
      (λ h. ap₂ (λ v w. v && w) (reads_sound a i (left (reads cube a i) (reads cube b i) h)) (reads_sound b i (right (reads cube a i) (reads cube b i) h)))
  reads_sound (Or a b) i agree = by_feeds (known cube (Or a b) i) (same cube (Or a b) i) (λ c. reads cube a i c || reads cube b i c) (bit r (Or a b) i) (bit q (Or a b) i)
      (known_r (Or a b) i) (known_q (Or a b) i) (same_sound cube r mr (Or a b) i) (same_sound cube q mq (Or a b) i) agree
      (λ h. ap₂ (λ v w. v || w) (reads_sound a i (left (reads cube a i) (reads cube b i) h)) (reads_sound b i (right (reads cube a i) (reads cube b i) h)))
  reads_sound (Xor a b) i agree = by_feeds (known cube (Xor a b) i) (same cube (Xor a b) i) (λ c. reads cube a i c || reads cube b i c) (bit r (Xor a b) i) (bit q (Xor a b) i)
      (known_r (Xor a b) i) (known_q (Xor a b) i) (same_sound cube r mr (Xor a b) i) (same_sound cube q mq (Xor a b) i) agree
      (λ h. ap₂ (λ v w. cond v (not w) w) (reads_sound a i (left (reads cube a i) (reads cube b i) h)) (reads_sound b i (right (reads cube a i) (reads cube b i) h)))
  reads_sound (Add a b) i agree = by_feeds (known cube (Add a b) i) None (λ c. any_below (λ j. reads cube a j c || reads cube b j c) (suc i)) (bit r (Add a b) i) (bit q (Add a b) i)
      (known_r (Add a b) i) (known_q (Add a b) i) tt tt agree
      (λ h. ap₂ (λ m n. bit_at (m + n) i)
      (number_same (bit r a) (bit q a) (suc i) (λ j l. reads_sound a j (left (reads cube a j) (reads cube b j) (below (λ j c. reads cube a j c || reads cube b j c) (suc i) h j l))))
      (number_same (bit r b) (bit q b) (suc i) (λ j l. reads_sound b j (right (reads cube a j) (reads cube b j) (below (λ j c. reads cube a j c || reads cube b j c) (suc i) h j l)))))
  reads_sound (Sub a b) i agree = by_feeds (known cube (Sub a b) i) None (λ c. any_below (λ j. reads cube a j c || reads cube b j c) (suc i)) (bit r (Sub a b) i) (bit q (Sub a b) i)
      (known_r (Sub a b) i) (known_q (Sub a b) i) tt tt agree
      (λ h. ap₂ (λ m n. bit_at (2 ^ suc i + m - n) i)
      (number_same (bit r a) (bit q a) (suc i) (λ j l. reads_sound a j (left (reads cube a j) (reads cube b j) (below (λ j c. reads cube a j c || reads cube b j c) (suc i) h j l))))
      (number_same (bit r b) (bit q b) (suc i) (λ j l. reads_sound b j (right (reads cube a j) (reads cube b j) (below (λ j c. reads cube a j c || reads cube b j c) (suc i) h j l)))))
  reads_sound (Eq a b) i agree = by_feeds (known cube (Eq a b) i) None (λ c. any_below (λ j. reads cube a j c || reads cube b j c) (width a)) (bit r (Eq a b) i) (bit q (Eq a b) i)
      (known_r (Eq a b) i) (known_q (Eq a b) i) tt tt agree
      (λ h. all_alike (λ j. not (cond (bit r a j) (not (bit r b j)) (bit r b j))) (λ j. not (cond (bit q a j) (not (bit q b j)) (bit q b j))) (width a)
      (λ j l. ap₂ (λ v w. not (cond v (not w) w))
      (reads_sound a j (left (reads cube a j) (reads cube b j) (below (λ j c. reads cube a j c || reads cube b j c) (width a) h j l)))
      (reads_sound b j (right (reads cube a j) (reads cube b j) (below (λ j c. reads cube a j c || reads cube b j c) (width a) h j l)))))
  reads_sound (Lt a b) i agree = by_feeds (known cube (Lt a b) i) None (λ c. any_below (λ j. reads cube a j c || reads cube b j c) (width a)) (bit r (Lt a b) i) (bit q (Lt a b) i)
      (known_r (Lt a b) i) (known_q (Lt a b) i) tt tt agree
      (λ h. ap₂ nat_lt
      (number_same (bit r a) (bit q a) (width a) (λ j l. reads_sound a j (left (reads cube a j) (reads cube b j) (below (λ j c. reads cube a j c || reads cube b j c) (width a) h j l))))
      (number_same (bit r b) (bit q b) (width a) (λ j l. reads_sound b j (right (reads cube a j) (reads cube b j) (below (λ j c. reads cube a j c || reads cube b j c) (width a) h j l)))))
  reads_sound (Shl a by) i agree = shl_same (known_number (known cube by) (width by)) (number (bit r by) (width by)) (number (bit q by) (width by)) (width a) (bit r a) (bit q a)
      (λ c. any_below (λ j. reads cube a j c) (width a) || any_below (λ j. reads cube by j c) (width by)) (reads cube a) i
      (knows_number (known cube by) (bit r by) (known_r by) (width by)) (knows_number (known cube by) (bit q by) (known_q by) (width by)) agree (reads_sound a)
      (λ h. (
        number_same (bit r by) (bit q by) (width by) (λ j l. reads_sound by j (below (reads cube by) (width by) (right (λ c. any_below (λ j. reads cube a j c) (width a)) (λ c. any_below (λ j. reads cube by j c) (width by)) h) j l)),
        λ j l. reads_sound a j (below (reads cube a) (width a) (left (λ c. any_below (λ j. reads cube a j c) (width a)) (λ c. any_below (λ j. reads cube by j c) (width by)) h) j l),
      ))
  reads_sound (Shr a by) i agree = shr_same (known_number (known cube by) (width by)) (number (bit r by) (width by)) (number (bit q by) (width by)) (width a) (bit r a) (bit q a)
      (λ c. any_below (λ j. reads cube a j c) (width a) || any_below (λ j. reads cube by j c) (width by)) (reads cube a) i
      (knows_number (known cube by) (bit r by) (known_r by) (width by)) (knows_number (known cube by) (bit q by) (known_q by) (width by)) agree (reads_sound a)
      (λ h. (
        number_same (bit r by) (bit q by) (width by) (λ j l. reads_sound by j (below (reads cube by) (width by) (right (λ c. any_below (λ j. reads cube a j c) (width a)) (λ c. any_below (λ j. reads cube by j c) (width by)) h) j l)),
        λ j l. reads_sound a j (below (reads cube a) (width a) (left (λ c. any_below (λ j. reads cube a j c) (width a)) (λ c. any_below (λ j. reads cube by j c) (width by)) h) j l),
      ))
  reads_sound (Mux c x y) i agree = by_feeds (known cube (Mux c x y) i) (same cube (Mux c x y) i) (λ b. chosen (known cube c 0) (reads cube x i b) (reads cube y i b) (reads cube c 0 b || (reads cube x i b || reads cube y i b)))
      (bit r (Mux c x y) i) (bit q (Mux c x y) i) (known_r (Mux c x y) i) (known_q (Mux c x y) i) (same_sound cube r mr (Mux c x y) i) (same_sound cube q mq (Mux c x y) i) agree
      (λ h. chosen_same (known cube c 0) (bit r c 0) (bit q c 0) (bit r x i) (bit r y i) (bit q x i) (bit q y i) (reads cube c 0) (reads cube x i) (reads cube y i)
      (known_r c 0) (known_q c 0) h (reads_sound c 0) (reads_sound x i) (reads_sound y i))
  reads_sound (Concat high low) i agree = if_same (nat_lt i (width low)) (bit r low i) (bit r high (i - width low)) (bit q low i) (bit q high (i - width low)) (reads cube low i) (reads cube high (i - width low)) agree
      (reads_sound low i) (reads_sound high (i - width low))
  reads_sound (Slice a at w) i agree = reads_sound a (at + i) agree
  reads_sound (Extend a w) i agree = if_same (nat_lt i (width a)) (bit r a i) false (bit q a i) false (reads cube a i) (λ b. false) agree (reads_sound a i) (λ h. refl)
  reads_sound (ReduceAnd a) i agree = by_feeds (known cube (ReduceAnd a) i) (same cube (ReduceAnd a) i) (λ c. any_below (λ j. reads cube a j c) (width a)) (bit r (ReduceAnd a) i) (bit q (ReduceAnd a) i)
      (known_r (ReduceAnd a) i) (known_q (ReduceAnd a) i) (same_sound cube r mr (ReduceAnd a) i) (same_sound cube q mq (ReduceAnd a) i) agree
      (λ h. all_alike (bit r a) (bit q a) (width a) (λ j l. reads_sound a j (below (reads cube a) (width a) h j l)))
  reads_sound (ReduceOr a) i agree = by_feeds (known cube (ReduceOr a) i) (same cube (ReduceOr a) i) (λ c. any_below (λ j. reads cube a j c) (width a)) (bit r (ReduceOr a) i) (bit q (ReduceOr a) i)
      (known_r (ReduceOr a) i) (known_q (ReduceOr a) i) (same_sound cube r mr (ReduceOr a) i) (same_sound cube q mq (ReduceOr a) i) agree
      (λ h. any_alike (bit r a) (bit q a) (width a) (λ j l. reads_sound a j (below (reads cube a) (width a) h j l)))
  reads_sound (ReduceXor a) i agree = by_feeds (known cube (ReduceXor a) i) (same cube (ReduceXor a) i) (λ c. any_below (λ j. reads cube a j c) (width a)) (bit r (ReduceXor a) i) (bit q (ReduceXor a) i)
      (known_r (ReduceXor a) i) (known_q (ReduceXor a) i) (same_sound cube r mr (ReduceXor a) i) (same_sound cube q mq (ReduceXor a) i) agree
      (λ h. odd_alike (bit r a) (bit q a) (width a) (λ j l. reads_sound a j (below (reads cube a) (width a) h j l)))
