-- Fixing bits that a bit of a tree doesn't read changes nothing of it.
use Rattle.std.proofs.Common.{◌≡◌, ◌∙◌, sym, ap, ap₂, refl, subst, arith, ℕ, zero, suc, ◌+◌, ◌-◌, ◌^◌, ◌<◌, Bool, true, false, not, ◌||◌, ◌==◌, cond, nat_lt, eqb-true, Option, Some, None, option_map, is_some, [], inl, inr}
use Rattle.std.specs.Bool.{beq}
use Rattle.std.proofs.lemmas.Bool.{cases_lt, or_left, or_right}
use Rattle.cdc_base.specs.declared.bit.Bit.{Bit}
use Rattle.cell_graph.specs.Reading.{Cube, bit_eq}
use Rattle.cell_graph.specs.Tree.{Tree, Var, Const, Not, And, Or, Xor, Add, Sub, Eq, Lt, Shl, Shr, Mux, Concat, Slice, Extend, ReduceAnd, ReduceOr, ReduceXor, width, bit_at, any_below}
use Rattle.cell_graph.specs.Cofactor.{fixed, known_and, known_or, known_xor, agreed, chosen, known_plus, known_number, on_number, on_numbers, known_all, known_any, known_odd, known, if_known_to_be, agreed_bit, same, reads_but, reads}
use Rattle.cell_graph.proofs.Bits.{bit_eq-true, bit_eq-refl}

-- ---- what is known stays known where more bits are fixed

-- what the first says, the second says too
abbrev pub Grows : {A : Type 0} → Option A → Option A → Type 0
Grows None p = Unit {0}
Grows (Some v) p = p ≡ Some v

grow_same : {A : Type 0} (o : Option A) → Grows o o
grow_same None = tt
grow_same (Some v) = refl

grow_not : (o p : Option Bool) → Grows o p → Grows (option_map not o) (option_map not p)
grow_not None p h = tt
grow_not (Some v) p h = ap (option_map not) h

and_false : (p : Option Bool) → known_and p (Some false) ≡ Some false
and_false None = refl
and_false (Some true) = refl
and_false (Some false) = refl

or_true : (p : Option Bool) → known_or p (Some true) ≡ Some true
or_true None = refl
or_true (Some true) = refl
or_true (Some false) = refl

grow_and : (o q p r : Option Bool) → Grows o p → Grows q r → Grows (known_and o q) (known_and p r)
grow_and (Some true) q p r h k = subst (λ x. Grows q (known_and x r)) (sym h) k
grow_and (Some false) q p r h k = ap (λ x. known_and x r) h
grow_and None (Some false) p r h k = ap (known_and p) k ∙ and_false p
grow_and None (Some true) p r h k = tt
grow_and None None p r h k = tt

grow_or : (o q p r : Option Bool) → Grows o p → Grows q r → Grows (known_or o q) (known_or p r)
grow_or (Some false) q p r h k = subst (λ x. Grows q (known_or x r)) (sym h) k
grow_or (Some true) q p r h k = ap (λ x. known_or x r) h
grow_or None (Some true) p r h k = ap (known_or p) k ∙ or_true p
grow_or None (Some false) p r h k = tt
grow_or None None p r h k = tt

grow_xor : (o q p r : Option Bool) → Grows o p → Grows q r → Grows (known_xor o q) (known_xor p r)
grow_xor None q p r h k = tt
grow_xor (Some a) None p r h k = tt
grow_xor (Some a) (Some b) p r h k = ap₂ known_xor h k

grow_agreed : (o q p r : Option Bool) → Grows o p → Grows q r → Grows (agreed o q) (agreed p r)
grow_agreed None q p r h k = tt
grow_agreed (Some a) None p r h k = tt
grow_agreed (Some true) (Some true) p r h k = ap₂ agreed h k
grow_agreed (Some true) (Some false) p r h k = tt
grow_agreed (Some false) (Some true) p r h k = tt
grow_agreed (Some false) (Some false) p r h k = ap₂ agreed h k

grow_left : (o q p r : Option Bool) → Grows o p → Grows q r → Grows (agreed o q) p
grow_left None q p r h k = tt
grow_left (Some a) None p r h k = tt
grow_left (Some true) (Some true) p r h k = h
grow_left (Some true) (Some false) p r h k = tt
grow_left (Some false) (Some true) p r h k = tt
grow_left (Some false) (Some false) p r h k = h

grow_right : (o q p r : Option Bool) → Grows o p → Grows q r → Grows (agreed o q) r
grow_right None q p r h k = tt
grow_right (Some a) None p r h k = tt
grow_right (Some true) (Some true) p r h k = k
grow_right (Some true) (Some false) p r h k = tt
grow_right (Some false) (Some true) p r h k = tt
grow_right (Some false) (Some false) p r h k = k

grow_chosen : (c d o q p r : Option Bool) → Grows c d → Grows o p → Grows q r → Grows (chosen c o q (agreed o q)) (chosen d p r (agreed p r))
grow_chosen (Some true) d o q p r l h k = subst (λ x. Grows o (chosen x p r (agreed p r))) (sym l) h
grow_chosen (Some false) d o q p r l h k = subst (λ x. Grows q (chosen x p r (agreed p r))) (sym l) k
grow_chosen None None o q p r l h k = grow_agreed o q p r h k
grow_chosen None (Some true) o q p r l h k = grow_left o q p r h k
grow_chosen None (Some false) o q p r l h k = grow_right o q p r h k

grow_plus : (o p : Option ℕ) (q r : Option Bool) (k : ℕ) → Grows o p → Grows q r → Grows (known_plus o q k) (known_plus p r k)
grow_plus None p q r k h l = tt
grow_plus (Some n) p None r k h l = tt
grow_plus (Some n) p (Some b) r k h l = ap₂ (λ x y. known_plus x y k) h l

module _ (f g : ℕ → Option Bool) (each : (i : ℕ) → Grows (f i) (g i)) where
  grow_number : (w : ℕ) → Grows (known_number f w) (known_number g w)
  grow_number zero = refl
  grow_number (suc w) = grow_plus (known_number f w) (known_number g w) (f w) (g w) (2 ^ w) (grow_number w) (each w)

  grow_all : (w : ℕ) → Grows (known_all f w) (known_all g w)
  grow_all zero = refl
  grow_all (suc w) = grow_and (known_all f w) (f w) (known_all g w) (g w) (grow_all w) (each w)

  grow_any : (w : ℕ) → Grows (known_any f w) (known_any g w)
  grow_any zero = refl
  grow_any (suc w) = grow_or (known_any f w) (f w) (known_any g w) (g w) (grow_any w) (each w)

  grow_odd : (w : ℕ) → Grows (known_odd f w) (known_odd g w)
  grow_odd zero = refl
  grow_odd (suc w) = grow_xor (f w) (known_odd f w) (g w) (known_odd g w) (each w) (grow_odd w)

grow_numbers : (a b c d : Option ℕ) (f : ℕ → ℕ → Bool) → Grows a c → Grows b d → Grows (on_numbers a b f) (on_numbers c d f)
grow_numbers None b c d f h k = tt
grow_numbers (Some m) None c d f h k = tt
grow_numbers (Some m) (Some n) c d f h k = ap₂ (λ x y. on_numbers x y f) h k

grow_on : (a b : Option ℕ) (f g : ℕ → Option Bool) → Grows a b → ((n : ℕ) → Grows (f n) (g n)) → Grows (on_number a None f) (on_number b None g)
grow_on None b f g h k = tt
grow_on (Some n) b f g h k = subst (λ x. Grows (f n) (on_number x None g)) (sym h) (k n)

grow_cond : (c : Bool) (o q p r : Option Bool) → Grows o p → Grows q r → Grows (cond c o q) (cond c p r)
grow_cond true o q p r h k = h
grow_cond false o q p r h k = k

pub known_grows : (cube : Cube) (t : Tree) (i : ℕ) → Grows (known [] t i) (known cube t i)
known_grows cube (Var sig w) i = tt
known_grows cube (Const w v) i = refl
known_grows cube (Not a) i = grow_not (known [] a i) (known cube a i) (known_grows cube a i)
known_grows cube (And a b) i = grow_and (known [] a i) (known [] b i) (known cube a i) (known cube b i) (known_grows cube a i) (known_grows cube b i)
known_grows cube (Or a b) i = grow_or (known [] a i) (known [] b i) (known cube a i) (known cube b i) (known_grows cube a i) (known_grows cube b i)
known_grows cube (Xor a b) i = grow_xor (known [] a i) (known [] b i) (known cube a i) (known cube b i) (known_grows cube a i) (known_grows cube b i)
known_grows cube (Add a b) i = grow_numbers (known_number (known [] a) (suc i)) (known_number (known [] b) (suc i)) (known_number (known cube a) (suc i)) (known_number (known cube b) (suc i)) (λ m n. bit_at (m + n) i)
    (grow_number (known [] a) (known cube a) (known_grows cube a) (suc i)) (grow_number (known [] b) (known cube b) (known_grows cube b) (suc i))
known_grows cube (Sub a b) i = grow_numbers (known_number (known [] a) (suc i)) (known_number (known [] b) (suc i)) (known_number (known cube a) (suc i)) (known_number (known cube b) (suc i)) (λ m n. bit_at (2 ^ suc i + m - n) i)
    (grow_number (known [] a) (known cube a) (known_grows cube a) (suc i)) (grow_number (known [] b) (known cube b) (known_grows cube b) (suc i))
known_grows cube (Eq a b) i = grow_all (λ j. option_map not (known_xor (known [] a j) (known [] b j))) (λ j. option_map not (known_xor (known cube a j) (known cube b j)))
    (λ j. grow_not (known_xor (known [] a j) (known [] b j)) (known_xor (known cube a j) (known cube b j))
    (grow_xor (known [] a j) (known [] b j) (known cube a j) (known cube b j) (known_grows cube a j) (known_grows cube b j))) (width a)
known_grows cube (Lt a b) i = grow_numbers (known_number (known [] a) (width a)) (known_number (known [] b) (width a)) (known_number (known cube a) (width a)) (known_number (known cube b) (width a)) nat_lt
    (grow_number (known [] a) (known cube a) (known_grows cube a) (width a)) (grow_number (known [] b) (known cube b) (known_grows cube b) (width a))
known_grows cube (Shl a by) i = grow_on (known_number (known [] by) (width by)) (known_number (known cube by) (width by))
    (λ n. cond (nat_lt i n) (Some false) (cond (nat_lt (i - n) (width a)) (known [] a (i - n)) (Some false))) (λ n. cond (nat_lt i n) (Some false) (cond (nat_lt (i - n) (width a)) (known cube a (i - n)) (Some false)))
    (grow_number (known [] by) (known cube by) (known_grows cube by) (width by))
    (λ n. grow_cond (nat_lt i n) (Some false) (cond (nat_lt (i - n) (width a)) (known [] a (i - n)) (Some false)) (Some false) (cond (nat_lt (i - n) (width a)) (known cube a (i - n)) (Some false)) refl
    (grow_cond (nat_lt (i - n) (width a)) (known [] a (i - n)) (Some false) (known cube a (i - n)) (Some false) (known_grows cube a (i - n)) refl))
known_grows cube (Shr a by) i = grow_on (known_number (known [] by) (width by)) (known_number (known cube by) (width by))
    (λ n. cond (nat_lt (i + n) (width a)) (known [] a (i + n)) (Some false)) (λ n. cond (nat_lt (i + n) (width a)) (known cube a (i + n)) (Some false))
    (grow_number (known [] by) (known cube by) (known_grows cube by) (width by))
    (λ n. grow_cond (nat_lt (i + n) (width a)) (known [] a (i + n)) (Some false) (known cube a (i + n)) (Some false) (known_grows cube a (i + n)) refl)
known_grows cube (Mux c x y) i = grow_chosen (known [] c 0) (known cube c 0) (known [] x i) (known [] y i) (known cube x i) (known cube y i) (known_grows cube c 0) (known_grows cube x i) (known_grows cube y i)
known_grows cube (Concat high low) i = grow_cond (nat_lt i (width low)) (known [] low i) (known [] high (i - width low)) (known cube low i) (known cube high (i - width low)) (known_grows cube low i) (known_grows cube high (i - width low))
known_grows cube (Slice a at w) i = known_grows cube a (at + i)
known_grows cube (Extend a w) i = grow_cond (nat_lt i (width a)) (known [] a i) (Some false) (known cube a i) (Some false) (known_grows cube a i) refl
known_grows cube (ReduceAnd a) i = grow_all (known [] a) (known cube a) (known_grows cube a) (width a)
known_grows cube (ReduceOr a) i = grow_any (known [] a) (known cube a) (known_grows cube a) (width a)
known_grows cube (ReduceXor a) i = grow_odd (known [] a) (known cube a) (known_grows cube a) (width a)

-- ---- what is known equals no bit

-- nothing is known where there is a bit
abbrev IsApart : Option Bool → Option Bit → Type 0
IsApart None o = Unit {0}
IsApart (Some v) o = o ≡ None

apart_none : (k : Option Bool) → IsApart k None
apart_none None = tt
apart_none (Some v) = refl

apart_guard : (k : Option Bool) (o : Option Bit) → IsApart k (cond (is_some k) None o)
apart_guard None o = tt
apart_guard (Some v) o = refl

apart_cond : (c : Bool) (k l : Option Bool) (o p : Option Bit) → IsApart k o → IsApart l p → IsApart (cond c k l) (cond c o p)
apart_cond true k l o p h g = h
apart_cond false k l o p h g = g

apart_number : (a : Option ℕ) (f : ℕ → Option Bool) (g : ℕ → Option Bit) → ((n : ℕ) → IsApart (f n) (g n)) → IsApart (on_number a None f) (on_number a None g)
apart_number None f g h = tt
apart_number (Some n) f g h = h n

-- of one bit a reduction is that bit
one_all : (f : ℕ → Option Bool) (w : ℕ) → w ≡ 1 → known_all f w ≡ f 0
one_all f w e = ap (known_all f) e

any_one : (o : Option Bool) → known_or (Some false) o ≡ o
any_one o = refl

one_any : (f : ℕ → Option Bool) (w : ℕ) → w ≡ 1 → known_any f w ≡ f 0
one_any f w e = ap (known_any f) e

odd_one : (o : Option Bool) → known_xor o (Some false) ≡ o
odd_one None = refl
odd_one (Some true) = refl
odd_one (Some false) = refl

one_odd : (f : ℕ → Option Bool) (w : ℕ) → w ≡ 1 → known_odd f w ≡ f 0
one_odd f w e = ap (known_odd f) e ∙ odd_one (f 0)

apart_one : (w : ℕ) (k l : Option Bool) (o : Option Bit) → (w ≡ 1 → k ≡ l) → IsApart l o → IsApart k (cond (w == 1) o None)
apart_one w k l o is h = go (w == 1) refl
  where
    go : (v : Bool) → (w == 1) ≡ v → IsApart k (cond v o None)
    go true e = subst (λ x. IsApart x o) (sym (is (eqb-true w 1 e))) h
    go false e = apart_none k

known_apart : (cube : Cube) (t : Tree) (i : ℕ) → IsApart (known cube t i) (same cube t i)
known_apart cube (Var sig w) i = apart_guard (known cube (Var sig w) i) (Some (record { sig = sig; at = i }))
known_apart cube (Const w v) i = refl
known_apart cube (Not a) i = apart_none (known cube (Not a) i)
known_apart cube (And a b) i = apart_guard (known cube (And a b) i) (if_known_to_be (known cube a i) true (same cube b i) (if_known_to_be (known cube b i) true (same cube a i) None))
known_apart cube (Or a b) i = apart_guard (known cube (Or a b) i) (if_known_to_be (known cube a i) false (same cube b i) (if_known_to_be (known cube b i) false (same cube a i) None))
known_apart cube (Xor a b) i = apart_guard (known cube (Xor a b) i) (if_known_to_be (known cube a i) false (same cube b i) (if_known_to_be (known cube b i) false (same cube a i) None))
known_apart cube (Add a b) i = apart_none (known cube (Add a b) i)
known_apart cube (Sub a b) i = apart_none (known cube (Sub a b) i)
known_apart cube (Eq a b) i = apart_none (known cube (Eq a b) i)
known_apart cube (Lt a b) i = apart_none (known cube (Lt a b) i)
known_apart cube (Shl a by) i = apart_number (known_number (known cube by) (width by))
    (λ n. cond (nat_lt i n) (Some false) (cond (nat_lt (i - n) (width a)) (known cube a (i - n)) (Some false))) (λ n. cond (nat_lt i n) None (cond (nat_lt (i - n) (width a)) (same cube a (i - n)) None))
    (λ n. apart_cond (nat_lt i n) (Some false) (cond (nat_lt (i - n) (width a)) (known cube a (i - n)) (Some false)) None (cond (nat_lt (i - n) (width a)) (same cube a (i - n)) None) refl
    (apart_cond (nat_lt (i - n) (width a)) (known cube a (i - n)) (Some false) (same cube a (i - n)) None (known_apart cube a (i - n)) refl))
known_apart cube (Shr a by) i = apart_number (known_number (known cube by) (width by))
    (λ n. cond (nat_lt (i + n) (width a)) (known cube a (i + n)) (Some false)) (λ n. cond (nat_lt (i + n) (width a)) (same cube a (i + n)) None)
    (λ n. apart_cond (nat_lt (i + n) (width a)) (known cube a (i + n)) (Some false) (same cube a (i + n)) None (known_apart cube a (i + n)) refl)
known_apart cube (Mux c x y) i = apart_guard (known cube (Mux c x y) i) (chosen (known cube c 0) (same cube x i) (same cube y i) (agreed_bit (same cube x i) (same cube y i)))
known_apart cube (Concat high low) i = apart_cond (nat_lt i (width low)) (known cube low i) (known cube high (i - width low)) (same cube low i) (same cube high (i - width low)) (known_apart cube low i) (known_apart cube high (i - width low))
known_apart cube (Slice a at w) i = known_apart cube a (at + i)
known_apart cube (Extend a w) i = apart_cond (nat_lt i (width a)) (known cube a i) (Some false) (same cube a i) None (known_apart cube a i) refl
known_apart cube (ReduceAnd a) i = apart_one (width a) (known_all (known cube a) (width a)) (known cube a 0) (same cube a 0) (one_all (known cube a) (width a)) (known_apart cube a 0)
known_apart cube (ReduceOr a) i = apart_one (width a) (known_any (known cube a) (width a)) (known cube a 0) (same cube a 0) (one_any (known cube a) (width a)) (known_apart cube a 0)
known_apart cube (ReduceXor a) i = apart_one (width a) (known_odd (known cube a) (width a)) (known cube a 0) (same cube a 0) (one_odd (known cube a) (width a)) (known_apart cube a 0)

-- ---- what equals a bit that isn't fixed goes on equalling it

-- it is the bit, and nothing is known of it
abbrev pub IsThat : Bit → Option Bool → Option Bit → Type 0
IsThat a k p = (k ≡ None) × (p ≡ Some a)

-- if the one was that bit, the other is
abbrev pub Stays : Bit → Option Bit → Option Bool → Option Bit → Type 0
Stays a s k p = s ≡ Some a → IsThat a k p

stays_none : (a : Bit) (k : Option Bool) (p : Option Bit) → Stays a None k p
stays_none a k p h = cc

stays_cond : (c : Bool) (a : Bit) (s r : Option Bit) (k l : Option Bool) (p q : Option Bit) → Stays a s k p → Stays a r l q → Stays a (cond c s r) (cond c k l) (cond c p q)
stays_cond true a s r k l p q h g = h
stays_cond false a s r k l p q h g = g

guarded : (a : Bit) (k : Option Bool) (s : Option Bit) → k ≡ None → s ≡ Some a → (k ≡ None) × (cond (is_some k) None s ≡ Some a)
guarded a k s e f = (e, ap₂ (λ (x : Option Bool) (y : Option Bit). cond (is_some x) None y) e f)

unguarded : (a : Bit) (k : Option Bool) (s : Option Bit) → cond (is_some k) None s ≡ Some a → s ≡ Some a
unguarded a None s h = h
unguarded a (Some v) s h = cc

beq_same : (a b : Bool) → beq a b ≡ true → a ≡ b
beq_same true true h = refl
beq_same true false h = cc
beq_same false true h = cc
beq_same false false h = refl

beq_refl : (a : Bool) → beq a a ≡ true
beq_refl true = refl
beq_refl false = refl

-- a choice is that bit
abbrev pub IsChosen : Bit → Option Bool → Option Bool → Option Bool → Option Bit → Option Bit → Type 0
IsChosen a o lx ly px py = IsThat a (chosen o lx ly (agreed lx ly)) (cond (is_some (chosen o lx ly (agreed lx ly))) None (chosen o px py (agreed_bit px py)))

-- an operation of which one operand is known to be the neutral value
stays_two : (op : Option Bool → Option Bool → Option Bool) (u : Bool) → ((o : Option Bool) → op (Some u) o ≡ o) → ((o : Option Bool) → op o (Some u) ≡ o)
    → (a : Bit) (kx ky lx ly : Option Bool) (sx sy px py : Option Bit) → Grows kx lx → Grows ky ly → Stays a sx lx px → Stays a sy ly py
    → Stays a (cond (is_some (op kx ky)) None (if_known_to_be kx u sy (if_known_to_be ky u sx None))) (op lx ly) (cond (is_some (op lx ly)) None (if_known_to_be lx u py (if_known_to_be ly u px None)))
stays_two op u left right a kx ky lx ly sx sy px py gx gy hx hy e = first kx gx (unguarded a (op kx ky) (if_known_to_be kx u sy (if_known_to_be ky u sx None)) e)
  where
    second : (o : Option Bool) → Grows o ly → if_known_to_be o u sx None ≡ Some a → IsThat a (op lx ly) (cond (is_some (op lx ly)) None (if_known_to_be lx u py (if_known_to_be ly u px None)))
    second None g h = cc
    second (Some v) g h = go (beq v u) refl h
      where
        go : (t : Bool) → beq v u ≡ t → cond t sx None ≡ Some a → IsThat a (op lx ly) (cond (is_some (op lx ly)) None (if_known_to_be lx u py (if_known_to_be ly u px None)))
        go true w h =
            let is : ly ≡ Some u = g ∙ ap Some (beq_same v u w) in
            let x = hx h in
            guarded a (op lx ly) (if_known_to_be lx u py (if_known_to_be ly u px None)) (ap (op lx) is ∙ right lx ∙ x.0)
            (ap₂ (λ (m n : Option Bool). if_known_to_be m u py (if_known_to_be n u px None)) x.0 is ∙ ap (λ t. cond t px None) (beq_refl u) ∙ x.1)
        go false w h = cc

    first : (o : Option Bool) → Grows o lx → if_known_to_be o u sy (if_known_to_be ky u sx None) ≡ Some a → IsThat a (op lx ly) (cond (is_some (op lx ly)) None (if_known_to_be lx u py (if_known_to_be ly u px None)))
    first None g h = second ky gy h
    first (Some v) g h = go (beq v u) refl h
      where
        go : (t : Bool) → beq v u ≡ t → cond t sy (if_known_to_be ky u sx None) ≡ Some a → IsThat a (op lx ly) (cond (is_some (op lx ly)) None (if_known_to_be lx u py (if_known_to_be ly u px None)))
        go true w h =
            let is : lx ≡ Some u = g ∙ ap Some (beq_same v u w) in
            let y = hy h in
            guarded a (op lx ly) (if_known_to_be lx u py (if_known_to_be ly u px None)) (ap (λ m. op m ly) is ∙ left ly ∙ y.0)
            (ap (λ (m : Option Bool). if_known_to_be m u py (if_known_to_be ly u px None)) is ∙ ap (λ t. cond t py (if_known_to_be ly u px None)) (beq_refl u) ∙ y.1)
        go false w h = second ky gy h

and_left : (o : Option Bool) → known_and (Some true) o ≡ o
and_left o = refl

and_right : (o : Option Bool) → known_and o (Some true) ≡ o
and_right None = refl
and_right (Some true) = refl
and_right (Some false) = refl

or_first : (o : Option Bool) → known_or (Some false) o ≡ o
or_first o = refl

or_second : (o : Option Bool) → known_or o (Some false) ≡ o
or_second None = refl
or_second (Some true) = refl
or_second (Some false) = refl

xor_left : (o : Option Bool) → known_xor (Some false) o ≡ o
xor_left None = refl
xor_left (Some v) = refl

agreed_parts : (a : Bit) (s r : Option Bit) → agreed_bit s r ≡ Some a → (s ≡ Some a) × (r ≡ Some a)
agreed_parts a None r h = cc
agreed_parts a (Some b) None h = cc
agreed_parts a (Some b) (Some c) h = go (bit_eq b c) refl h
  where
    go : (t : Bool) → bit_eq b c ≡ t → cond t (Some b) None ≡ Some a → (Some b ≡ Some a) × (Some c ≡ Some a)
    go true e h = (h, ap Some (sym (bit_eq-true b c e)) ∙ h)
    go false e h = cc

stays_chosen : (a : Bit) (kc lc kx ky lx ly : Option Bool) (sx sy px py : Option Bit) → Grows kc lc → Stays a sx lx px → Stays a sy ly py
    → Stays a (cond (is_some (chosen kc kx ky (agreed kx ky))) None (chosen kc sx sy (agreed_bit sx sy))) (chosen lc lx ly (agreed lx ly))
    (cond (is_some (chosen lc lx ly (agreed lx ly))) None (chosen lc px py (agreed_bit px py)))
stays_chosen a kc lc kx ky lx ly sx sy px py g hx hy e = go kc g (unguarded a (chosen kc kx ky (agreed kx ky)) (chosen kc sx sy (agreed_bit sx sy)) e)
  where
    both : (o : Option Bool) → (lx ≡ None) × (px ≡ Some a) → (ly ≡ None) × (py ≡ Some a) → IsChosen a o lx ly px py
    both (Some true) x y = guarded a lx px x.0 x.1
    both (Some false) x y = guarded a ly py y.0 y.1
    both None x y = guarded a (agreed lx ly) (agreed_bit px py) (ap (λ m. agreed m ly) x.0) (ap₂ agreed_bit x.1 y.1 ∙ ap (λ t. cond t (Some a) None) (bit_eq-refl a))

    go : (o : Option Bool) → Grows o lc → chosen o sx sy (agreed_bit sx sy) ≡ Some a → IsChosen a lc lx ly px py
    go (Some true) g h = let x = hx h in subst (λ o. IsChosen a o lx ly px py) (sym g) (guarded a lx px x.0 x.1)
    go (Some false) g h = let y = hy h in subst (λ o. IsChosen a o lx ly px py) (sym g) (guarded a ly py y.0 y.1)
    go None g h = let b = agreed_parts a sx sy h in both lc (hx b.0) (hy b.1)

stays_number : (a : Bit) (m n : Option ℕ) (f : ℕ → Option Bit) (k : ℕ → Option Bool) (g : ℕ → Option Bit) → Grows m n → ((x : ℕ) → Stays a (f x) (k x) (g x))
    → Stays a (on_number m None f) (on_number n None k) (on_number n None g)
stays_number a None n f k g h each e = cc
stays_number a (Some x) n f k g h each e = subst (λ o. IsThat a (on_number o None k) (on_number o None g)) (sym h) (each x e)

stays_one : (w : ℕ) (a : Bit) (s : Option Bit) (k l : Option Bool) (p : Option Bit) → (w ≡ 1 → k ≡ l) → Stays a s l p → Stays a (cond (w == 1) s None) k (cond (w == 1) p None)
stays_one w a s k l p is h = go (w == 1) refl
  where
    go : (v : Bool) → (w == 1) ≡ v → Stays a (cond v s None) k (cond v p None)
    go true e f = let x = h f in (is (eqb-true w 1 e) ∙ x.0, x.1)
    go false e f = cc

stays_bit : (cube : Cube) (a : Bit) → fixed cube a ≡ None → (b : Bit) → Stays a (Some b) (fixed cube b) (cond (is_some (fixed cube b)) None (Some b))
stays_bit cube a free b e = let same : b ≡ a = cc in guarded a (fixed cube b) (Some b) (ap (fixed cube) same ∙ free) e

-- what equals a bit that the cube doesn't fix equals it under the cube
pub same_stays : (cube : Cube) (a : Bit) → fixed cube a ≡ None → (t : Tree) (i : ℕ) → Stays a (same [] t i) (known cube t i) (same cube t i)
same_stays cube a free (Var sig w) i = stays_bit cube a free (record { sig = sig; at = i })
same_stays cube a free (Const w v) i = stays_none a (known cube (Const w v) i) None
same_stays cube a free (Not x) i = stays_none a (known cube (Not x) i) None
same_stays cube a free (And x y) i = stays_two known_and true and_left and_right a (known [] x i) (known [] y i) (known cube x i) (known cube y i) (same [] x i) (same [] y i) (same cube x i) (same cube y i)
    (known_grows cube x i) (known_grows cube y i) (same_stays cube a free x i) (same_stays cube a free y i)
same_stays cube a free (Or x y) i = stays_two known_or false or_first or_second a (known [] x i) (known [] y i) (known cube x i) (known cube y i) (same [] x i) (same [] y i) (same cube x i) (same cube y i)
    (known_grows cube x i) (known_grows cube y i) (same_stays cube a free x i) (same_stays cube a free y i)
same_stays cube a free (Xor x y) i = stays_two known_xor false xor_left odd_one a (known [] x i) (known [] y i) (known cube x i) (known cube y i) (same [] x i) (same [] y i) (same cube x i) (same cube y i)
    (known_grows cube x i) (known_grows cube y i) (same_stays cube a free x i) (same_stays cube a free y i)
same_stays cube a free (Add x y) i = stays_none a (known cube (Add x y) i) None
same_stays cube a free (Sub x y) i = stays_none a (known cube (Sub x y) i) None
same_stays cube a free (Eq x y) i = stays_none a (known cube (Eq x y) i) None
same_stays cube a free (Lt x y) i = stays_none a (known cube (Lt x y) i) None
same_stays cube a free (Shl x by) i = stays_number a (known_number (known [] by) (width by)) (known_number (known cube by) (width by))
    (λ n. cond (nat_lt i n) None (cond (nat_lt (i - n) (width x)) (same [] x (i - n)) None))
    (λ n. cond (nat_lt i n) (Some false) (cond (nat_lt (i - n) (width x)) (known cube x (i - n)) (Some false)))
    (λ n. cond (nat_lt i n) None (cond (nat_lt (i - n) (width x)) (same cube x (i - n)) None))
    (grow_number (known [] by) (known cube by) (known_grows cube by) (width by))
    (λ n. stays_cond (nat_lt i n) a None (cond (nat_lt (i - n) (width x)) (same [] x (i - n)) None) (Some false) (cond (nat_lt (i - n) (width x)) (known cube x (i - n)) (Some false))
    None (cond (nat_lt (i - n) (width x)) (same cube x (i - n)) None) (stays_none a (Some false) None)
    (stays_cond (nat_lt (i - n) (width x)) a (same [] x (i - n)) None (known cube x (i - n)) (Some false) (same cube x (i - n)) None (same_stays cube a free x (i - n)) (stays_none a (Some false) None)))
same_stays cube a free (Shr x by) i = stays_number a (known_number (known [] by) (width by)) (known_number (known cube by) (width by))
    (λ n. cond (nat_lt (i + n) (width x)) (same [] x (i + n)) None) (λ n. cond (nat_lt (i + n) (width x)) (known cube x (i + n)) (Some false)) (λ n. cond (nat_lt (i + n) (width x)) (same cube x (i + n)) None)
    (grow_number (known [] by) (known cube by) (known_grows cube by) (width by))
    (λ n. stays_cond (nat_lt (i + n) (width x)) a (same [] x (i + n)) None (known cube x (i + n)) (Some false) (same cube x (i + n)) None (same_stays cube a free x (i + n)) (stays_none a (Some false) None))
same_stays cube a free (Mux c x y) i = stays_chosen a (known [] c 0) (known cube c 0) (known [] x i) (known [] y i) (known cube x i) (known cube y i) (same [] x i) (same [] y i) (same cube x i) (same cube y i)
    (known_grows cube c 0) (same_stays cube a free x i) (same_stays cube a free y i)
same_stays cube a free (Concat high low) i = stays_cond (nat_lt i (width low)) a (same [] low i) (same [] high (i - width low)) (known cube low i) (known cube high (i - width low)) (same cube low i) (same cube high (i - width low))
    (same_stays cube a free low i) (same_stays cube a free high (i - width low))
same_stays cube a free (Slice x at w) i = same_stays cube a free x (at + i)
same_stays cube a free (Extend x w) i = stays_cond (nat_lt i (width x)) a (same [] x i) None (known cube x i) (Some false) (same cube x i) None (same_stays cube a free x i) (stays_none a (Some false) None)
same_stays cube a free (ReduceAnd x) i = stays_one (width x) a (same [] x 0) (known_all (known cube x) (width x)) (known cube x 0) (same cube x 0) (one_all (known cube x) (width x)) (same_stays cube a free x 0)
same_stays cube a free (ReduceOr x) i = stays_one (width x) a (same [] x 0) (known_any (known cube x) (width x)) (known cube x 0) (same cube x 0) (one_any (known cube x) (width x)) (same_stays cube a free x 0)
same_stays cube a free (ReduceXor x) i = stays_one (width x) a (same [] x 0) (known_odd (known cube x) (width x)) (known cube x 0) (same cube x 0) (one_odd (known cube x) (width x)) (same_stays cube a free x 0)

-- ---- what reads no fixed bit is as without the cube

-- the cube fixes no bit of these
abbrev pub IsFree : Cube → (Bit → Bool) → Type 0
IsFree cube f = (b : Bit) → f b ≡ true → fixed cube b ≡ None

-- known, same and read are alike
abbrev pub AreAlike : Option Bool → Option Bit → (Bit → Bool) → Option Bool → Option Bit → (Bit → Bool) → Type 0
AreAlike k s f l p g = (l ≡ k) × (p ≡ s) × ((b : Bit) → g b ≡ f b)

free_left : (cube : Cube) (f g : Bit → Bool) → IsFree cube (λ b. f b || g b) → IsFree cube f
free_left cube f g h b e = h b (or_left (f b) (g b) e)

free_right : (cube : Cube) (f g : Bit → Bool) → IsFree cube (λ b. f b || g b) → IsFree cube g
free_right cube f g h b e = h b (or_right (f b) (g b) e)

any_at : (f : ℕ → Bool) (n j : ℕ) → j < n → f j ≡ true → any_below f n ≡ true
any_at f zero j l e = absurd (omega arith)
any_at f (suc n) j l e = elim (cases_lt j n) [
  | inl m ↦ or_left (any_below f n) (f n) (any_at f n j m e)
  | inr m ↦ or_right (any_below f n) (f n) (subst (λ k. f k ≡ true) (let s : j ≡ n = omega arith in s) e)
]

free_below : (cube : Cube) (f : ℕ → Bit → Bool) (n : ℕ) → IsFree cube (λ b. any_below (λ j. f j b) n) → (j : ℕ) → j < n → IsFree cube (f j)
free_below cube f n h j l b e = h b (any_at (λ k. f k b) n j l e)

number_alike : (f g : ℕ → Option Bool) (w : ℕ) → ((j : ℕ) → j < w → g j ≡ f j) → known_number g w ≡ known_number f w
number_alike f g zero h = refl
number_alike f g (suc w) h = ap₂ (λ m n. known_plus m n (2 ^ w)) (number_alike f g w (λ j l. h j (omega arith))) (h w (omega arith))

all_alike : (f g : ℕ → Option Bool) (w : ℕ) → ((j : ℕ) → j < w → g j ≡ f j) → known_all g w ≡ known_all f w
all_alike f g zero h = refl
all_alike f g (suc w) h = ap₂ known_and (all_alike f g w (λ j l. h j (omega arith))) (h w (omega arith))

some_alike : (f g : ℕ → Option Bool) (w : ℕ) → ((j : ℕ) → j < w → g j ≡ f j) → known_any g w ≡ known_any f w
some_alike f g zero h = refl
some_alike f g (suc w) h = ap₂ known_or (some_alike f g w (λ j l. h j (omega arith))) (h w (omega arith))

odd_alike : (f g : ℕ → Option Bool) (w : ℕ) → ((j : ℕ) → j < w → g j ≡ f j) → known_odd g w ≡ known_odd f w
odd_alike f g zero h = refl
odd_alike f g (suc w) h = ap₂ known_xor (h w (omega arith)) (odd_alike f g w (λ j l. h j (omega arith)))

any_alike : (f g : ℕ → Bool) (w : ℕ) → ((j : ℕ) → j < w → g j ≡ f j) → any_below g w ≡ any_below f w
any_alike f g zero h = refl
any_alike f g (suc w) h = ap₂ (λ m n. m || n) (any_alike f g w (λ j l. h j (omega arith))) (h w (omega arith))

one_alike : (w : ℕ) (s p : Option Bit) → (0 < w → p ≡ s) → cond (w == 1) p None ≡ cond (w == 1) s None
one_alike w s p h = go (w == 1) refl
  where
    go : (v : Bool) → (w == 1) ≡ v → cond v p None ≡ cond v s None
    go true e = h (let f = eqb-true w 1 e in omega arith)
    go false e = refl

module _ (cube : Cube) where
  -- by what is known, by the bit that it equals, or by what the feeds read
  alike_but : (k l : Option Bool) (s p : Option Bit) (f g : Bit → Bool) → Grows k l → IsApart k s → IsApart l p → ((a : Bit) → fixed cube a ≡ None → Stays a s l p)
      → IsFree cube (λ b. reads_but k s b (f b)) → (IsFree cube f → AreAlike k s f l p g) → AreAlike k s (λ b. reads_but k s b (f b)) l p (λ b. reads_but l p b (g b))
  alike_but (Some v) l s p f g h m n stays free feeds = (h, subst (λ x. IsApart x p) h n ∙ sym m, λ b. ap (λ x. reads_but x p b (g b)) h)
  alike_but None l (Some a) p f g h m n stays free feeds = let x = stays a (free a (bit_eq-refl a)) refl in (x.0, x.1, λ b. ap₂ (λ y z. reads_but y z b (g b)) x.0 x.1)
  alike_but None l None p f g h m n stays free feeds = let x = feeds free in (x.0, x.1, λ b. ap₂ (λ y z. reads_but y z b (g b)) x.0 x.1 ∙ x.2 b)

  -- where no bit is ever equal
  alike_known : (k l : Option Bool) (f g : Bit → Bool) → Grows k l → IsFree cube (λ b. reads_but k None b (f b)) → (IsFree cube f → (l ≡ k) × ((b : Bit) → g b ≡ f b))
      → AreAlike k None (λ b. reads_but k None b (f b)) l None (λ b. reads_but l None b (g b))
  alike_known k l f g h free feeds = alike_but k l None None f g h (apart_none k) (apart_none l) (λ a e. stays_none a l None) free (λ e. let x = feeds e in (x.0, refl, x.1))

  alike_two : (op : Option Bool → Option Bool → Option Bool) (u : Bool) (kx ky lx ly : Option Bool) (sx sy px py : Option Bit) (fx fy gx gy : Bit → Bool)
      → AreAlike kx sx fx lx px gx → AreAlike ky sy fy ly py gy
      → AreAlike (op kx ky) (cond (is_some (op kx ky)) None (if_known_to_be kx u sy (if_known_to_be ky u sx None))) (λ b. fx b || fy b)
      (op lx ly) (cond (is_some (op lx ly)) None (if_known_to_be lx u py (if_known_to_be ly u px None))) (λ b. gx b || gy b)
  alike_two op u kx ky lx ly sx sy px py fx fy gx gy x y = (
    ap₂ op x.0 y.0,
    ap₂ (λ m n. cond (is_some (op m n)) None (if_known_to_be m u py (if_known_to_be n u px None))) x.0 y.0
        ∙ ap₂ (λ (m n : Option Bit). cond (is_some (op kx ky)) None (if_known_to_be kx u n (if_known_to_be ky u m None))) x.1 y.1,
    λ b. ap₂ (λ m n. m || n) (x.2 b) (y.2 b),
  )

  alike_chosen : (kc lc kx ky lx ly : Option Bool) (sx sy px py : Option Bit) (fc fx fy gc gx gy : Bit → Bool) → Grows kc lc
      → (IsFree cube fc → (lc ≡ kc) × ((b : Bit) → gc b ≡ fc b)) → (IsFree cube fx → AreAlike kx sx fx lx px gx) → (IsFree cube fy → AreAlike ky sy fy ly py gy)
      → IsFree cube (λ b. chosen kc (fx b) (fy b) (fc b || (fx b || fy b)))
      → AreAlike (chosen kc kx ky (agreed kx ky)) (cond (is_some (chosen kc kx ky (agreed kx ky))) None (chosen kc sx sy (agreed_bit sx sy))) (λ b. chosen kc (fx b) (fy b) (fc b || (fx b || fy b)))
      (chosen lc lx ly (agreed lx ly)) (cond (is_some (chosen lc lx ly (agreed lx ly))) None (chosen lc px py (agreed_bit px py))) (λ b. chosen lc (gx b) (gy b) (gc b || (gx b || gy b)))
  alike_chosen (Some true) lc kx ky lx ly sx sy px py fc fx fy gc gx gy grows hc hx hy free =
      let x = hx free in (
        ap (λ o. chosen o lx ly (agreed lx ly)) grows ∙ x.0,
        ap (λ o. cond (is_some (chosen o lx ly (agreed lx ly))) None (chosen o px py (agreed_bit px py))) grows ∙ ap₂ (λ (m : Option Bool) (n : Option Bit). cond (is_some m) None n) x.0 x.1,
        λ b. ap (λ o. chosen o (gx b) (gy b) (gc b || (gx b || gy b))) grows ∙ x.2 b,
      )
  alike_chosen (Some false) lc kx ky lx ly sx sy px py fc fx fy gc gx gy grows hc hx hy free =
      let y = hy free in (
        ap (λ o. chosen o lx ly (agreed lx ly)) grows ∙ y.0,
        ap (λ o. cond (is_some (chosen o lx ly (agreed lx ly))) None (chosen o px py (agreed_bit px py))) grows ∙ ap₂ (λ (m : Option Bool) (n : Option Bit). cond (is_some m) None n) y.0 y.1,
        λ b. ap (λ o. chosen o (gx b) (gy b) (gc b || (gx b || gy b))) grows ∙ y.2 b,
      )
  alike_chosen None lc kx ky lx ly sx sy px py fc fx fy gc gx gy grows hc hx hy free =
      let rest = free_right cube fc (λ b. fx b || fy b) free in
      let c = hc (free_left cube fc (λ b. fx b || fy b) free) in
      let x = hx (free_left cube fx fy rest) in
      let y = hy (free_right cube fx fy rest) in (
        ap (λ o. chosen o lx ly (agreed lx ly)) c.0 ∙ ap₂ agreed x.0 y.0,
        ap (λ o. cond (is_some (chosen o lx ly (agreed lx ly))) None (chosen o px py (agreed_bit px py))) c.0
            ∙ ap₂ (λ (m : Option Bool) (n : Option Bit). cond (is_some m) None n) (ap₂ agreed x.0 y.0) (ap₂ agreed_bit x.1 y.1),
        λ b. ap (λ o. chosen o (gx b) (gy b) (gc b || (gx b || gy b))) c.0 ∙ ap₂ (λ m n. m || n) (c.1 b) (ap₂ (λ m n. m || n) (x.2 b) (y.2 b)),
      )

  alike_number : (m n : Option ℕ) (zf zg : Bit → Bool) (k l : ℕ → Option Bool) (s p : ℕ → Option Bit) (f g : ℕ → Bit → Bool) → Grows m n
      → IsFree cube (λ b. on_number m (zf b) (λ x. f x b)) → ((x : ℕ) → IsFree cube (f x) → AreAlike (k x) (s x) (f x) (l x) (p x) (g x)) → (IsFree cube zf → (n ≡ m) × ((b : Bit) → zg b ≡ zf b))
      → AreAlike (on_number m None k) (on_number m None s) (λ b. on_number m (zf b) (λ x. f x b)) (on_number n None l) (on_number n None p) (λ b. on_number n (zg b) (λ x. g x b))
  alike_number None n zf zg k l s p f g h free each all = let e = all free in (ap (λ o. on_number o None l) e.0, ap (λ o. on_number o None p) e.0, λ b. ap (λ o. on_number o (zg b) (λ x. g x b)) e.0 ∙ e.1 b)
  alike_number (Some x) n zf zg k l s p f g h free each all =
      let e = each x free in (ap (λ o. on_number o None l) h ∙ e.0, ap (λ o. on_number o None p) h ∙ e.1, λ b. ap (λ o. on_number o (zg b) (λ y. g y b)) h ∙ e.2 b)

  alike_cond : (c : Bool) (k l kk ll : Option Bool) (s p ss pp : Option Bit) (f g ff gg : Bit → Bool) → IsFree cube (λ b. cond c (f b) (ff b))
      → (IsFree cube f → AreAlike k s f l p g) → (IsFree cube ff → AreAlike kk ss ff ll pp gg)
      → AreAlike (cond c k kk) (cond c s ss) (λ b. cond c (f b) (ff b)) (cond c l ll) (cond c p pp) (λ b. cond c (g b) (gg b))
  alike_cond true k l kk ll s p ss pp f g ff gg free h e = h free
  alike_cond false k l kk ll s p ss pp f g ff gg free h e = e free

  -- the zeros that a shift or an extension brings in
  alike_zero : AreAlike (Some false) None (λ b. false) (Some false) None (λ b. false)
  alike_zero = (refl, refl, λ b. refl)

  -- of two words bit by bit
  left_of : (x y : Tree) (w : ℕ) → IsFree cube (λ b. any_below (λ j. reads [] x j b || reads [] y j b) w) → (j : ℕ) → j < w → IsFree cube (reads [] x j)
  left_of x y w free j l = free_left cube (reads [] x j) (reads [] y j) (free_below cube (λ k b. reads [] x k b || reads [] y k b) w free j l)

  right_of : (x y : Tree) (w : ℕ) → IsFree cube (λ b. any_below (λ j. reads [] x j b || reads [] y j b) w) → (j : ℕ) → j < w → IsFree cube (reads [] y j)
  right_of x y w free j l = free_right cube (reads [] x j) (reads [] y j) (free_below cube (λ k b. reads [] x k b || reads [] y k b) w free j l)

  shifted : (x by : Tree) → IsFree cube (λ b. any_below (λ j. reads [] x j b) (width x) || any_below (λ j. reads [] by j b) (width by)) → (j : ℕ) → j < width x → IsFree cube (reads [] x j)
  shifted x by free j l = free_below cube (reads [] x) (width x) (free_left cube (λ b. any_below (λ k. reads [] x k b) (width x)) (λ b. any_below (λ k. reads [] by k b) (width by)) free) j l

  shift_by : (x by : Tree) → IsFree cube (λ b. any_below (λ j. reads [] x j b) (width x) || any_below (λ j. reads [] by j b) (width by)) → (j : ℕ) → j < width by → IsFree cube (reads [] by j)
  shift_by x by free j l = free_below cube (reads [] by) (width by) (free_right cube (λ b. any_below (λ k. reads [] x k b) (width x)) (λ b. any_below (λ k. reads [] by k b) (width by)) free) j l

  -- where no bit that is read is fixed, all is as with no bit fixed
  pub unfixed : (t : Tree) (i : ℕ) → IsFree cube (reads [] t i) → AreAlike (known [] t i) (same [] t i) (reads [] t i) (known cube t i) (same cube t i) (reads cube t i)
  unfixed (Var sig w) i free =
      let b : Bit = record { sig = sig; at = i } in
      let e = free b (bit_eq-refl b) in (e, ap (λ o. cond (is_some o) None (Some b)) e, λ a. ap (λ o. reads_but o (cond (is_some o) None (Some b)) a false) e)
  unfixed (Const w v) i free = (refl, refl, λ b. refl)
  unfixed (Not a) i free = alike_known (known [] (Not a) i) (known cube (Not a) i) (reads [] a i) (reads cube a i) (known_grows cube (Not a) i) free
      (λ h. let x = unfixed a i h in (ap (option_map not) x.0, x.2))
  unfixed (And x y) i free = alike_but (known [] (And x y) i) (known cube (And x y) i) (same [] (And x y) i) (same cube (And x y) i) (λ b. reads [] x i b || reads [] y i b) (λ b. reads cube x i b || reads cube y i b)
      (known_grows cube (And x y) i) (known_apart [] (And x y) i) (known_apart cube (And x y) i) (λ a e. same_stays cube a e (And x y) i) free
      (λ h. alike_two known_and true (known [] x i) (known [] y i) (known cube x i) (known cube y i) (same [] x i) (same [] y i) (same cube x i) (same cube y i) (reads [] x i) (reads [] y i) (reads cube x i) (reads cube y i)
      (unfixed x i (free_left cube (reads [] x i) (reads [] y i) h)) (unfixed y i (free_right cube (reads [] x i) (reads [] y i) h)))
  unfixed (Or x y) i free = alike_but (known [] (Or x y) i) (known cube (Or x y) i) (same [] (Or x y) i) (same cube (Or x y) i) (λ b. reads [] x i b || reads [] y i b) (λ b. reads cube x i b || reads cube y i b)
      (known_grows cube (Or x y) i) (known_apart [] (Or x y) i) (known_apart cube (Or x y) i) (λ a e. same_stays cube a e (Or x y) i) free
      (λ h. alike_two known_or false (known [] x i) (known [] y i) (known cube x i) (known cube y i) (same [] x i) (same [] y i) (same cube x i) (same cube y i) (reads [] x i) (reads [] y i) (reads cube x i) (reads cube y i)
      (unfixed x i (free_left cube (reads [] x i) (reads [] y i) h)) (unfixed y i (free_right cube (reads [] x i) (reads [] y i) h)))
  unfixed (Xor x y) i free = alike_but (known [] (Xor x y) i) (known cube (Xor x y) i) (same [] (Xor x y) i) (same cube (Xor x y) i) (λ b. reads [] x i b || reads [] y i b) (λ b. reads cube x i b || reads cube y i b)
      (known_grows cube (Xor x y) i) (known_apart [] (Xor x y) i) (known_apart cube (Xor x y) i) (λ a e. same_stays cube a e (Xor x y) i) free
      (λ h. alike_two known_xor false (known [] x i) (known [] y i) (known cube x i) (known cube y i) (same [] x i) (same [] y i) (same cube x i) (same cube y i) (reads [] x i) (reads [] y i) (reads cube x i) (reads cube y i)
      (unfixed x i (free_left cube (reads [] x i) (reads [] y i) h)) (unfixed y i (free_right cube (reads [] x i) (reads [] y i) h)))
  unfixed (Add x y) i free = alike_known (known [] (Add x y) i) (known cube (Add x y) i) (λ b. any_below (λ j. reads [] x j b || reads [] y j b) (suc i)) (λ b. any_below (λ j. reads cube x j b || reads cube y j b) (suc i))
      (known_grows cube (Add x y) i) free
      (λ h. (
        ap₂ (λ m n. on_numbers m n (λ m n. bit_at (m + n) i)) (number_alike (known [] x) (known cube x) (suc i) (λ j l. (unfixed x j (left_of x y (suc i) h j l)).0)) (number_alike (known [] y) (known cube y) (suc i) (λ j l. (unfixed y j (right_of x y (suc i) h j l)).0)),
        λ b. any_alike (λ j. reads [] x j b || reads [] y j b) (λ j. reads cube x j b || reads cube y j b) (suc i) (λ j l. ap₂ (λ m n. m || n) ((unfixed x j (left_of x y (suc i) h j l)).2 b) ((unfixed y j (right_of x y (suc i) h j l)).2 b)),
      ))
  unfixed (Sub x y) i free = alike_known (known [] (Sub x y) i) (known cube (Sub x y) i) (λ b. any_below (λ j. reads [] x j b || reads [] y j b) (suc i)) (λ b. any_below (λ j. reads cube x j b || reads cube y j b) (suc i))
      (known_grows cube (Sub x y) i) free
      (λ h. (
        ap₂ (λ m n. on_numbers m n (λ m n. bit_at (2 ^ suc i + m - n) i)) (number_alike (known [] x) (known cube x) (suc i) (λ j l. (unfixed x j (left_of x y (suc i) h j l)).0)) (number_alike (known [] y) (known cube y) (suc i) (λ j l. (unfixed y j (right_of x y (suc i) h j l)).0)),
        λ b. any_alike (λ j. reads [] x j b || reads [] y j b) (λ j. reads cube x j b || reads cube y j b) (suc i) (λ j l. ap₂ (λ m n. m || n) ((unfixed x j (left_of x y (suc i) h j l)).2 b) ((unfixed y j (right_of x y (suc i) h j l)).2 b)),
      ))
  unfixed (Lt x y) i free = alike_known (known [] (Lt x y) i) (known cube (Lt x y) i) (λ b. any_below (λ j. reads [] x j b || reads [] y j b) (width x)) (λ b. any_below (λ j. reads cube x j b || reads cube y j b) (width x))
      (known_grows cube (Lt x y) i) free
      (λ h. (
        ap₂ (λ m n. on_numbers m n (nat_lt)) (number_alike (known [] x) (known cube x) (width x) (λ j l. (unfixed x j (left_of x y (width x) h j l)).0)) (number_alike (known [] y) (known cube y) (width x) (λ j l. (unfixed y j (right_of x y (width x) h j l)).0)),
        λ b. any_alike (λ j. reads [] x j b || reads [] y j b) (λ j. reads cube x j b || reads cube y j b) (width x) (λ j l. ap₂ (λ m n. m || n) ((unfixed x j (left_of x y (width x) h j l)).2 b) ((unfixed y j (right_of x y (width x) h j l)).2 b)),
      ))
  unfixed (Eq x y) i free = alike_known (known [] (Eq x y) i) (known cube (Eq x y) i) (λ b. any_below (λ j. reads [] x j b || reads [] y j b) (width x)) (λ b. any_below (λ j. reads cube x j b || reads cube y j b) (width x))
      (known_grows cube (Eq x y) i) free
      (λ h. (
        all_alike (λ j. option_map not (known_xor (known [] x j) (known [] y j))) (λ j. option_map not (known_xor (known cube x j) (known cube y j))) (width x)
            (λ j l. ap₂ (λ m n. option_map not (known_xor m n)) (unfixed x j (left_of x y (width x) h j l)).0 (unfixed y j (right_of x y (width x) h j l)).0),
        λ b. any_alike (λ j. reads [] x j b || reads [] y j b) (λ j. reads cube x j b || reads cube y j b) (width x) (λ j l. ap₂ (λ m n. m || n) ((unfixed x j (left_of x y (width x) h j l)).2 b) ((unfixed y j (right_of x y (width x) h j l)).2 b)),
      ))
  unfixed (Shl x by) i free = alike_number (known_number (known [] by) (width by)) (known_number (known cube by) (width by)) (λ b. any_below (λ j. reads [] x j b) (width x) || any_below (λ j. reads [] by j b) (width by)) (λ b. any_below (λ j. reads cube x j b) (width x) || any_below (λ j. reads cube by j b) (width by))
      (λ n. cond (nat_lt i n) (Some false) (cond (nat_lt (i - n) (width x)) (known [] x (i - n)) (Some false))) (λ n. cond (nat_lt i n) (Some false) (cond (nat_lt (i - n) (width x)) (known cube x (i - n)) (Some false)))
      (λ n. cond (nat_lt i n) None (cond (nat_lt (i - n) (width x)) (same [] x (i - n)) None)) (λ n. cond (nat_lt i n) None (cond (nat_lt (i - n) (width x)) (same cube x (i - n)) None))
      (λ n b. cond (nat_lt i n) false (cond (nat_lt (i - n) (width x)) (reads [] x (i - n) b) false)) (λ n b. cond (nat_lt i n) false (cond (nat_lt (i - n) (width x)) (reads cube x (i - n) b) false))
      (grow_number (known [] by) (known cube by) (known_grows cube by) (width by)) free
      (λ n e. alike_cond (nat_lt i n) (Some false) (Some false) (cond (nat_lt (i - n) (width x)) (known [] x (i - n)) (Some false)) (cond (nat_lt (i - n) (width x)) (known cube x (i - n)) (Some false)) None None (cond (nat_lt (i - n) (width x)) (same [] x (i - n)) None) (cond (nat_lt (i - n) (width x)) (same cube x (i - n)) None) (λ b. false) (λ b. false) (λ b. cond (nat_lt (i - n) (width x)) (reads [] x (i - n) b) false) (λ b. cond (nat_lt (i - n) (width x)) (reads cube x (i - n) b) false) e (λ h. alike_zero)
      (λ h. alike_cond (nat_lt (i - n) (width x)) (known [] x (i - n)) (known cube x (i - n)) (Some false) (Some false) (same [] x (i - n)) (same cube x (i - n)) None None (reads [] x (i - n)) (reads cube x (i - n)) (λ b. false) (λ b. false) h
      (unfixed x (i - n)) (λ g. alike_zero)))
      (λ h. (
        number_alike (known [] by) (known cube by) (width by) (λ j l. (unfixed by j (shift_by x by h j l)).0),
        λ b. ap₂ (λ m n. m || n) (any_alike (λ j. reads [] x j b) (λ j. reads cube x j b) (width x) (λ j l. (unfixed x j (shifted x by h j l)).2 b))
            (any_alike (λ j. reads [] by j b) (λ j. reads cube by j b) (width by) (λ j l. (unfixed by j (shift_by x by h j l)).2 b)),
      ))
  unfixed (Shr x by) i free = alike_number (known_number (known [] by) (width by)) (known_number (known cube by) (width by)) (λ b. any_below (λ j. reads [] x j b) (width x) || any_below (λ j. reads [] by j b) (width by)) (λ b. any_below (λ j. reads cube x j b) (width x) || any_below (λ j. reads cube by j b) (width by))
      (λ n. cond (nat_lt (i + n) (width x)) (known [] x (i + n)) (Some false)) (λ n. cond (nat_lt (i + n) (width x)) (known cube x (i + n)) (Some false))
      (λ n. cond (nat_lt (i + n) (width x)) (same [] x (i + n)) None) (λ n. cond (nat_lt (i + n) (width x)) (same cube x (i + n)) None)
      (λ n b. cond (nat_lt (i + n) (width x)) (reads [] x (i + n) b) false) (λ n b. cond (nat_lt (i + n) (width x)) (reads cube x (i + n) b) false)
      (grow_number (known [] by) (known cube by) (known_grows cube by) (width by)) free
      (λ n e. alike_cond (nat_lt (i + n) (width x)) (known [] x (i + n)) (known cube x (i + n)) (Some false) (Some false) (same [] x (i + n)) (same cube x (i + n)) None None (reads [] x (i + n)) (reads cube x (i + n)) (λ b. false) (λ b. false) e
      (unfixed x (i + n)) (λ g. alike_zero))
      (λ h. (
        number_alike (known [] by) (known cube by) (width by) (λ j l. (unfixed by j (shift_by x by h j l)).0),
        λ b. ap₂ (λ m n. m || n) (any_alike (λ j. reads [] x j b) (λ j. reads cube x j b) (width x) (λ j l. (unfixed x j (shifted x by h j l)).2 b))
            (any_alike (λ j. reads [] by j b) (λ j. reads cube by j b) (width by) (λ j l. (unfixed by j (shift_by x by h j l)).2 b)),
      ))
  unfixed (Mux c x y) i free = alike_but (known [] (Mux c x y) i) (known cube (Mux c x y) i) (same [] (Mux c x y) i) (same cube (Mux c x y) i)
      (λ b. chosen (known [] c 0) (reads [] x i b) (reads [] y i b) (reads [] c 0 b || (reads [] x i b || reads [] y i b)))
      (λ b. chosen (known cube c 0) (reads cube x i b) (reads cube y i b) (reads cube c 0 b || (reads cube x i b || reads cube y i b)))
      (known_grows cube (Mux c x y) i) (known_apart [] (Mux c x y) i) (known_apart cube (Mux c x y) i) (λ a e. same_stays cube a e (Mux c x y) i) free
      (alike_chosen (known [] c 0) (known cube c 0) (known [] x i) (known [] y i) (known cube x i) (known cube y i) (same [] x i) (same [] y i) (same cube x i) (same cube y i)
      (reads [] c 0) (reads [] x i) (reads [] y i) (reads cube c 0) (reads cube x i) (reads cube y i) (known_grows cube c 0)
      (λ h. let e = unfixed c 0 h in (e.0, e.2)) (unfixed x i) (unfixed y i))
  unfixed (Concat high low) i free = alike_cond (nat_lt i (width low)) (known [] low i) (known cube low i) (known [] high (i - width low)) (known cube high (i - width low))
      (same [] low i) (same cube low i) (same [] high (i - width low)) (same cube high (i - width low)) (reads [] low i) (reads cube low i) (reads [] high (i - width low)) (reads cube high (i - width low)) free
      (unfixed low i) (unfixed high (i - width low))
  unfixed (Slice x at w) i free = unfixed x (at + i) free
  unfixed (Extend x w) i free = alike_cond (nat_lt i (width x)) (known [] x i) (known cube x i) (Some false) (Some false) (same [] x i) (same cube x i) None None (reads [] x i) (reads cube x i) (λ b. false) (λ b. false) free
      (unfixed x i) (λ h. alike_zero)
  unfixed (ReduceAnd x) i free = alike_but (known [] (ReduceAnd x) i) (known cube (ReduceAnd x) i) (same [] (ReduceAnd x) i) (same cube (ReduceAnd x) i) (λ b. any_below (λ j. reads [] x j b) (width x)) (λ b. any_below (λ j. reads cube x j b) (width x))
      (known_grows cube (ReduceAnd x) i) (known_apart [] (ReduceAnd x) i) (known_apart cube (ReduceAnd x) i) (λ a e. same_stays cube a e (ReduceAnd x) i) free
      (λ h. (
        all_alike (known [] x) (known cube x) (width x) (λ j l. (unfixed x j (free_below cube (reads [] x) (width x) h j l)).0),
        one_alike (width x) (same [] x 0) (same cube x 0) (λ l. (unfixed x 0 (free_below cube (reads [] x) (width x) h 0 l)).1),
        λ b. any_alike (λ j. reads [] x j b) (λ j. reads cube x j b) (width x) (λ j l. (unfixed x j (free_below cube (reads [] x) (width x) h j l)).2 b),
      ))
  unfixed (ReduceOr x) i free = alike_but (known [] (ReduceOr x) i) (known cube (ReduceOr x) i) (same [] (ReduceOr x) i) (same cube (ReduceOr x) i) (λ b. any_below (λ j. reads [] x j b) (width x)) (λ b. any_below (λ j. reads cube x j b) (width x))
      (known_grows cube (ReduceOr x) i) (known_apart [] (ReduceOr x) i) (known_apart cube (ReduceOr x) i) (λ a e. same_stays cube a e (ReduceOr x) i) free
      (λ h. (
        some_alike (known [] x) (known cube x) (width x) (λ j l. (unfixed x j (free_below cube (reads [] x) (width x) h j l)).0),
        one_alike (width x) (same [] x 0) (same cube x 0) (λ l. (unfixed x 0 (free_below cube (reads [] x) (width x) h 0 l)).1),
        λ b. any_alike (λ j. reads [] x j b) (λ j. reads cube x j b) (width x) (λ j l. (unfixed x j (free_below cube (reads [] x) (width x) h j l)).2 b),
      ))
  unfixed (ReduceXor x) i free = alike_but (known [] (ReduceXor x) i) (known cube (ReduceXor x) i) (same [] (ReduceXor x) i) (same cube (ReduceXor x) i) (λ b. any_below (λ j. reads [] x j b) (width x)) (λ b. any_below (λ j. reads cube x j b) (width x))
      (known_grows cube (ReduceXor x) i) (known_apart [] (ReduceXor x) i) (known_apart cube (ReduceXor x) i) (λ a e. same_stays cube a e (ReduceXor x) i) free
      (λ h. (
        odd_alike (known [] x) (known cube x) (width x) (λ j l. (unfixed x j (free_below cube (reads [] x) (width x) h j l)).0),
        one_alike (width x) (same [] x 0) (same cube x 0) (λ l. (unfixed x 0 (free_below cube (reads [] x) (width x) h 0 l)).1),
        λ b. any_alike (λ j. reads [] x j b) (λ j. reads cube x j b) (width x) (λ j l. (unfixed x j (free_below cube (reads [] x) (width x) h j l)).2 b),
      ))
