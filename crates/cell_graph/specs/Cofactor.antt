-- What a bit of a tree is known to be, which bit it is, and which it reads, where a cube fixes some bits.
use Rattle.std.specs.Prelude.{ℕ, zero, suc, ◌+◌, ◌-◌, ◌^◌, Bool, true, false, cond, not, ◌||◌, ◌==◌, nat_lt, Option, Some, None, option_map, [], ◌∷◌, is_some}
use Rattle.std.specs.Bool.{beq}
use Rattle.cell_graph.specs.Reading.{bit_eq}
use Rattle.cdc_base.specs.declared.bit.Bit.{Bit}
use Rattle.cell_graph.specs.Reading.{Cube}
use Rattle.cell_graph.specs.Tree.{Tree, Var, Const, Not, And, Or, Xor, Add, Sub, Eq, Lt, Shl, Shr, Mux, Concat, Slice, Extend, ReduceAnd, ReduceOr, ReduceXor, width, bit_at, any_below}

abbrev pub fixed : Cube → Bit → Option Bool
fixed [] b = None
fixed (f ∷ fs) b = cond (bit_eq f.0 b) (Some f.1) (fixed fs b)

abbrev pub known_and : Option Bool → Option Bool → Option Bool
known_and (Some true) o = o
known_and (Some false) o = Some false
known_and None (Some false) = Some false
known_and None (Some true) = None
known_and None None = None

abbrev pub known_or : Option Bool → Option Bool → Option Bool
known_or (Some false) o = o
known_or (Some true) o = Some true
known_or None (Some true) = Some true
known_or None (Some false) = None
known_or None None = None

abbrev pub known_xor : Option Bool → Option Bool → Option Bool
known_xor (Some a) o = option_map (λ b. cond a (not b) b) o
known_xor None o = None

-- the value, if both give one and the same
abbrev pub agreed : Option Bool → Option Bool → Option Bool
agreed (Some a) (Some b) = cond (beq a b) (Some a) None
agreed (Some a) None = None
agreed None o = None

abbrev pub chosen : {A : Type 0} → Option Bool → A → A → A → A
chosen (Some true) x y unknown = x
chosen (Some false) x y unknown = y
chosen None x y unknown = unknown

abbrev pub known_plus : Option ℕ → Option Bool → ℕ → Option ℕ
known_plus (Some n) (Some b) k = Some (n + cond b k 0)
known_plus (Some n) None k = None
known_plus None o k = None

-- the number of the low w bits, if each is known
abbrev pub known_number : (ℕ → Option Bool) → ℕ → Option ℕ
known_number k zero = Some 0
known_number k (suc w) = known_plus (known_number k w) (k w) (2 ^ w)

abbrev pub on_number : {A : Type 0} → Option ℕ → A → (ℕ → A) → A
on_number None none some = none
on_number (Some n) none some = some n

abbrev pub on_numbers : Option ℕ → Option ℕ → (ℕ → ℕ → Bool) → Option Bool
on_numbers a b f = on_number a None (λ m. on_number b None (λ n. Some (f m n)))

abbrev pub known_all : (ℕ → Option Bool) → ℕ → Option Bool
known_all k zero = Some true
known_all k (suc w) = known_and (known_all k w) (k w)

abbrev pub known_any : (ℕ → Option Bool) → ℕ → Option Bool
known_any k zero = Some false
known_any k (suc w) = known_or (known_any k w) (k w)

abbrev pub known_odd : (ℕ → Option Bool) → ℕ → Option Bool
known_odd k zero = Some false
known_odd k (suc w) = known_xor (k w) (known_odd k w)

abbrev pub known : Cube → Tree → ℕ → Option Bool
known cube (Var sig w) i = fixed cube (record { sig = sig; at = i })
known cube (Const w v) i = Some (bit_at v i)
known cube (Not a) i = option_map not (known cube a i)
known cube (And a b) i = known_and (known cube a i) (known cube b i)
known cube (Or a b) i = known_or (known cube a i) (known cube b i)
known cube (Xor a b) i = known_xor (known cube a i) (known cube b i)
known cube (Add a b) i = on_numbers (known_number (known cube a) (suc i)) (known_number (known cube b) (suc i)) (λ m n. bit_at (m + n) i)
known cube (Sub a b) i = on_numbers (known_number (known cube a) (suc i)) (known_number (known cube b) (suc i)) (λ m n. bit_at (2 ^ suc i + m - n) i)
known cube (Eq a b) i = known_all (λ j. option_map not (known_xor (known cube a j) (known cube b j))) (width a)
known cube (Lt a b) i = on_numbers (known_number (known cube a) (width a)) (known_number (known cube b) (width a)) nat_lt
known cube (Shl a by) i = on_number (known_number (known cube by) (width by)) None (λ n. cond (nat_lt i n) (Some false) (cond (nat_lt (i - n) (width a)) (known cube a (i - n)) (Some false)))
known cube (Shr a by) i = on_number (known_number (known cube by) (width by)) None (λ n. cond (nat_lt (i + n) (width a)) (known cube a (i + n)) (Some false))
known cube (Mux c x y) i = chosen (known cube c 0) (known cube x i) (known cube y i) (agreed (known cube x i) (known cube y i))
known cube (Concat high low) i = cond (nat_lt i (width low)) (known cube low i) (known cube high (i - width low))
known cube (Slice a at w) i = known cube a (at + i)
known cube (Extend a w) i = cond (nat_lt i (width a)) (known cube a i) (Some false)
known cube (ReduceAnd a) i = known_all (known cube a) (width a)
known cube (ReduceOr a) i = known_any (known cube a) (width a)
known cube (ReduceXor a) i = known_odd (known cube a) (width a)

abbrev pub is_known : Cube → Tree → ℕ → Bool
is_known cube t i = is_some (known cube t i)

abbrev pub if_known_to_be : Option Bool → Bool → Option Bit → Option Bit → Option Bit
if_known_to_be (Some v) w x y = cond (beq v w) x y
if_known_to_be None w x y = y

-- the bit, if both give one and the same
abbrev pub agreed_bit : Option Bit → Option Bit → Option Bit
agreed_bit (Some a) (Some b) = cond (bit_eq a b) (Some a) None
agreed_bit (Some a) None = None
agreed_bit None o = None

-- the bit that bit i is, where it isn't known
abbrev pub same : Cube → Tree → ℕ → Option Bit
same cube (Var sig w) i = cond (is_known cube (Var sig w) i) None (Some (record { sig = sig; at = i }))
same cube (Const w v) i = None
same cube (Not a) i = None
same cube (And a b) i = cond (is_known cube (And a b) i) None (if_known_to_be (known cube a i) true (same cube b i) (if_known_to_be (known cube b i) true (same cube a i) None))
same cube (Or a b) i = cond (is_known cube (Or a b) i) None (if_known_to_be (known cube a i) false (same cube b i) (if_known_to_be (known cube b i) false (same cube a i) None))
same cube (Xor a b) i = cond (is_known cube (Xor a b) i) None (if_known_to_be (known cube a i) false (same cube b i) (if_known_to_be (known cube b i) false (same cube a i) None))
same cube (Add a b) i = None
same cube (Sub a b) i = None
same cube (Eq a b) i = None
same cube (Lt a b) i = None
same cube (Shl a by) i = on_number (known_number (known cube by) (width by)) None (λ n. cond (nat_lt i n) None (cond (nat_lt (i - n) (width a)) (same cube a (i - n)) None))
same cube (Shr a by) i = on_number (known_number (known cube by) (width by)) None (λ n. cond (nat_lt (i + n) (width a)) (same cube a (i + n)) None)
same cube (Mux c x y) i = cond (is_known cube (Mux c x y) i) None (chosen (known cube c 0) (same cube x i) (same cube y i) (agreed_bit (same cube x i) (same cube y i)))
same cube (Concat high low) i = cond (nat_lt i (width low)) (same cube low i) (same cube high (i - width low))
same cube (Slice a at w) i = same cube a (at + i)
same cube (Extend a w) i = cond (nat_lt i (width a)) (same cube a i) None
same cube (ReduceAnd a) i = cond (width a == 1) (same cube a 0) None
same cube (ReduceOr a) i = cond (width a == 1) (same cube a 0) None
same cube (ReduceXor a) i = cond (width a == 1) (same cube a 0) None

-- b is read: by nothing that is known, as that bit where it is one, else by some feed
abbrev pub reads_but : Option Bool → Option Bit → Bit → Bool → Bool
reads_but (Some v) o b feeds = false
reads_but None (Some a) b feeds = bit_eq a b
reads_but None None b feeds = feeds

abbrev pub reads : Cube → Tree → ℕ → Bit → Bool
reads cube (Var sig w) i b = reads_but (known cube (Var sig w) i) (same cube (Var sig w) i) b false
reads cube (Const w v) i b = false
reads cube (Not a) i b = reads_but (known cube (Not a) i) None b (reads cube a i b)
reads cube (And x y) i b = reads_but (known cube (And x y) i) (same cube (And x y) i) b (reads cube x i b || reads cube y i b)
reads cube (Or x y) i b = reads_but (known cube (Or x y) i) (same cube (Or x y) i) b (reads cube x i b || reads cube y i b)
reads cube (Xor x y) i b = reads_but (known cube (Xor x y) i) (same cube (Xor x y) i) b (reads cube x i b || reads cube y i b)
reads cube (Add x y) i b = reads_but (known cube (Add x y) i) None b (any_below (λ j. reads cube x j b || reads cube y j b) (suc i))
reads cube (Sub x y) i b = reads_but (known cube (Sub x y) i) None b (any_below (λ j. reads cube x j b || reads cube y j b) (suc i))
reads cube (Eq x y) i b = reads_but (known cube (Eq x y) i) None b (any_below (λ j. reads cube x j b || reads cube y j b) (width x))
reads cube (Lt x y) i b = reads_but (known cube (Lt x y) i) None b (any_below (λ j. reads cube x j b || reads cube y j b) (width x))
reads cube (Shl a by) i b = on_number (known_number (known cube by) (width by))
    (any_below (λ j. reads cube a j b) (width a) || any_below (λ j. reads cube by j b) (width by))
    (λ n. cond (nat_lt i n) false (cond (nat_lt (i - n) (width a)) (reads cube a (i - n) b) false))
reads cube (Shr a by) i b = on_number (known_number (known cube by) (width by))
    (any_below (λ j. reads cube a j b) (width a) || any_below (λ j. reads cube by j b) (width by))
    (λ n. cond (nat_lt (i + n) (width a)) (reads cube a (i + n) b) false)
reads cube (Mux c x y) i b = reads_but (known cube (Mux c x y) i) (same cube (Mux c x y) i) b
    (chosen (known cube c 0) (reads cube x i b) (reads cube y i b) (reads cube c 0 b || (reads cube x i b || reads cube y i b)))
reads cube (Concat high low) i b = cond (nat_lt i (width low)) (reads cube low i b) (reads cube high (i - width low) b)
reads cube (Slice a at w) i b = reads cube a (at + i) b
reads cube (Extend a w) i b = cond (nat_lt i (width a)) (reads cube a i b) false
reads cube (ReduceAnd a) i b = reads_but (known cube (ReduceAnd a) i) (same cube (ReduceAnd a) i) b (any_below (λ j. reads cube a j b) (width a))
reads cube (ReduceOr a) i b = reads_but (known cube (ReduceOr a) i) (same cube (ReduceOr a) i) b (any_below (λ j. reads cube a j b) (width a))
reads cube (ReduceXor a) i b = reads_but (known cube (ReduceXor a) i) (same cube (ReduceXor a) i) b (any_below (λ j. reads cube a j b) (width a))
