-- No bit is read of a signal that doesn't stand in the tree.
use Rattle.std.proofs.Common.{◌≡◌, ap, refl, arith, ℕ, zero, suc, ◌+◌, ◌-◌, Bool, true, false, not, ◌&&◌, ◌||◌, ◌==◌, cond, nat_lt, Option, Some, None}
use Rattle.std.specs.Bool.{beq}
use Rattle.std.proofs.lemmas.Bool.Decides.{nat_tests}
use Rattle.cdc_base.specs.declared.bit.Bit.{Bit}
use Rattle.cell_graph.specs.Reading.{Cube, bit_eq}
use Rattle.cell_graph.specs.Tree.{Tree, Var, Const, Not, And, Or, Xor, Add, Sub, Eq, Lt, Shl, Shr, Mux, Concat, Slice, Extend, ReduceAnd, ReduceOr, ReduceXor, width, any_below}
use Rattle.cell_graph.specs.Cofactor.{known, same, reads, reads_but, is_known, if_known_to_be, agreed_bit, chosen, on_number, known_number}
use Rattle.cell_graph.specs.Stands.{stands_in}

-- no bit, or another one
abbrev is_other : Bit → Option Bit → Bool
is_other b None = true
is_other b (Some a) = not (bit_eq a b)

or-left : (x y : Bool) → (x || y) ≡ false → x ≡ false
or-left false y h = refl
or-left true y h = h

or-right : (x y : Bool) → (x || y) ≡ false → y ≡ false
or-right false y h = h
or-right true y h = absurd (cc)

both : (x y : Bool) → x ≡ false → y ≡ false → (x || y) ≡ false
both false y h k = k
both true y h k = h

any-none : (f : ℕ → Bool) (w : ℕ) → ((j : ℕ) → f j ≡ false) → any_below f w ≡ false
any-none f zero h = refl
any-none f (suc w) h = both (any_below f w) (f w) (any-none f w h) (h w)

other-cond : (b : Bit) (c : Bool) (x y : Option Bit) → is_other b x ≡ true → is_other b y ≡ true → is_other b (cond c x y) ≡ true
other-cond b true x y h k = h
other-cond b false x y h k = k

other-if : (b : Bit) (o : Option Bool) (w : Bool) (x y : Option Bit) → is_other b x ≡ true → is_other b y ≡ true → is_other b (if_known_to_be o w x y) ≡ true
other-if b None w x y h k = k
other-if b (Some v) w x y h k = other-cond b (beq v w) x y h k

other-agreed : (b : Bit) (x y : Option Bit) → is_other b x ≡ true → is_other b y ≡ true → is_other b (agreed_bit x y) ≡ true
other-agreed b None y h k = refl
other-agreed b (Some a) None h k = refl
other-agreed b (Some a) (Some c) h k = other-cond b (bit_eq a c) (Some a) None h refl

other-chosen : (b : Bit) (o : Option Bool) (x y z : Option Bit) → is_other b x ≡ true → is_other b y ≡ true → is_other b z ≡ true → is_other b (chosen o x y z) ≡ true
other-chosen b None x y z h k l = l
other-chosen b (Some true) x y z h k l = h
other-chosen b (Some false) x y z h k l = k

other-two : (b : Bit) (c : Bool) (o p : Option Bool) (w : Bool) (x y : Option Bit) → is_other b x ≡ true → is_other b y ≡ true
    → is_other b (cond c None (if_known_to_be o w y (if_known_to_be p w x None))) ≡ true
other-two b c o p w x y h k =
    other-cond b c None (if_known_to_be o w y (if_known_to_be p w x None)) refl
    (other-if b o w y (if_known_to_be p w x None) k (other-if b p w x None h refl))

other-var : (b : Bit) (sig i : ℕ) → (b.sig == sig) ≡ false → is_other b (Some (record { sig = sig; at = i })) ≡ true
other-var b sig i h = let e : (sig == b.sig) ≡ false = grind (arith, nat_tests) in ap (λ x. not (x && (i == b.at))) e

other-number : (b : Bit) (o : Option ℕ) (f : ℕ → Option Bit) → ((n : ℕ) → is_other b (f n) ≡ true) → is_other b (on_number o None f) ≡ true
other-number b None f h = refl
other-number b (Some n) f h = h n

same-other : (cube : Cube) (b : Bit) (t : Tree) (i : ℕ) → stands_in b.sig t ≡ false → is_other b (same cube t i) ≡ true
same-other cube b (Var sig w) i h = other-cond b (is_known cube (Var sig w) i) None (Some (record { sig = sig; at = i })) refl (other-var b sig i h)
same-other cube b (Const w v) i h = refl
same-other cube b (Not a) i h = refl
same-other cube b (And x y) i h =
    other-two b (is_known cube (And x y) i) (known cube x i) (known cube y i) true (same cube x i) (same cube y i)
    (same-other cube b x i (or-left (stands_in b.sig x) (stands_in b.sig y) h)) (same-other cube b y i (or-right (stands_in b.sig x) (stands_in b.sig y) h))
same-other cube b (Or x y) i h =
    other-two b (is_known cube (Or x y) i) (known cube x i) (known cube y i) false (same cube x i) (same cube y i)
    (same-other cube b x i (or-left (stands_in b.sig x) (stands_in b.sig y) h)) (same-other cube b y i (or-right (stands_in b.sig x) (stands_in b.sig y) h))
same-other cube b (Xor x y) i h =
    other-two b (is_known cube (Xor x y) i) (known cube x i) (known cube y i) false (same cube x i) (same cube y i)
    (same-other cube b x i (or-left (stands_in b.sig x) (stands_in b.sig y) h)) (same-other cube b y i (or-right (stands_in b.sig x) (stands_in b.sig y) h))
same-other cube b (Add x y) i h = refl
same-other cube b (Sub x y) i h = refl
same-other cube b (Eq x y) i h = refl
same-other cube b (Lt x y) i h = refl
same-other cube b (Shl a by) i h =
    other-number b (known_number (known cube by) (width by)) (λ n. cond (nat_lt i n) None (cond (nat_lt (i - n) (width a)) (same cube a (i - n)) None))
    (λ n. other-cond b (nat_lt i n) None (cond (nat_lt (i - n) (width a)) (same cube a (i - n)) None) refl
    (other-cond b (nat_lt (i - n) (width a)) (same cube a (i - n)) None (same-other cube b a (i - n) (or-left (stands_in b.sig a) (stands_in b.sig by) h)) refl))
same-other cube b (Shr a by) i h =
    other-number b (known_number (known cube by) (width by)) (λ n. cond (nat_lt (i + n) (width a)) (same cube a (i + n)) None)
    (λ n. other-cond b (nat_lt (i + n) (width a)) (same cube a (i + n)) None (same-other cube b a (i + n) (or-left (stands_in b.sig a) (stands_in b.sig by) h)) refl)
same-other cube b (Mux c x y) i h =
    let rest = or-right (stands_in b.sig c) (stands_in b.sig x || stands_in b.sig y) h in
    let p = same-other cube b x i (or-left (stands_in b.sig x) (stands_in b.sig y) rest) in
    let q = same-other cube b y i (or-right (stands_in b.sig x) (stands_in b.sig y) rest) in
    other-cond b (is_known cube (Mux c x y) i) None (chosen (known cube c 0) (same cube x i) (same cube y i) (agreed_bit (same cube x i) (same cube y i))) refl
    (other-chosen b (known cube c 0) (same cube x i) (same cube y i) (agreed_bit (same cube x i) (same cube y i)) p q (other-agreed b (same cube x i) (same cube y i) p q))
same-other cube b (Concat high low) i h =
    other-cond b (nat_lt i (width low)) (same cube low i) (same cube high (i - width low))
    (same-other cube b low i (or-right (stands_in b.sig high) (stands_in b.sig low) h)) (same-other cube b high (i - width low) (or-left (stands_in b.sig high) (stands_in b.sig low) h))
same-other cube b (Slice a at w) i h = same-other cube b a (at + i) h
same-other cube b (Extend a w) i h = other-cond b (nat_lt i (width a)) (same cube a i) None (same-other cube b a i h) refl
same-other cube b (ReduceAnd a) i h = other-cond b (width a == 1) (same cube a 0) None (same-other cube b a 0 h) refl
same-other cube b (ReduceOr a) i h = other-cond b (width a == 1) (same cube a 0) None (same-other cube b a 0 h) refl
same-other cube b (ReduceXor a) i h = other-cond b (width a == 1) (same cube a 0) None (same-other cube b a 0 h) refl

-- ---- reads

not-true : (x : Bool) → not x ≡ true → x ≡ false
not-true false h = refl
not-true true h = absurd (cc)

but-none : (o : Option Bool) (s : Option Bit) (b : Bit) (feeds : Bool) → is_other b s ≡ true → feeds ≡ false → reads_but o s b feeds ≡ false
but-none (Some v) s b feeds h k = refl
but-none None (Some a) b feeds h k = not-true (bit_eq a b) h
but-none None None b feeds h k = k

cond-none : (c x y : Bool) → x ≡ false → y ≡ false → cond c x y ≡ false
cond-none true x y h k = h
cond-none false x y h k = k

chosen-none : (o : Option Bool) (x y z : Bool) → x ≡ false → y ≡ false → z ≡ false → chosen o x y z ≡ false
chosen-none None x y z h k l = l
chosen-none (Some true) x y z h k l = h
chosen-none (Some false) x y z h k l = k

number-none : (o : Option ℕ) (z : Bool) (f : ℕ → Bool) → z ≡ false → ((n : ℕ) → f n ≡ false) → on_number o z f ≡ false
number-none None z f h k = h
number-none (Some n) z f h k = k n

-- a bit is read only where its signal stands in the tree
pub reads-unread : (cube : Cube) (t : Tree) (i : ℕ) (b : Bit) → stands_in b.sig t ≡ false → reads cube t i b ≡ false
reads-unread cube (Var sig w) i b h = but-none (known cube (Var sig w) i) (same cube (Var sig w) i) b false (same-other cube b (Var sig w) i h) refl
reads-unread cube (Const w v) i b h = refl
reads-unread cube (Not a) i b h = but-none (known cube (Not a) i) None b (reads cube a i b) refl (reads-unread cube a i b h)
reads-unread cube (And x y) i b h =
    but-none (known cube (And x y) i) (same cube (And x y) i) b (reads cube x i b || reads cube y i b) (same-other cube b (And x y) i h)
    (both (reads cube x i b) (reads cube y i b) (reads-unread cube x i b (or-left (stands_in b.sig x) (stands_in b.sig y) h)) (reads-unread cube y i b (or-right (stands_in b.sig x) (stands_in b.sig y) h)))
reads-unread cube (Or x y) i b h =
    but-none (known cube (Or x y) i) (same cube (Or x y) i) b (reads cube x i b || reads cube y i b) (same-other cube b (Or x y) i h)
    (both (reads cube x i b) (reads cube y i b) (reads-unread cube x i b (or-left (stands_in b.sig x) (stands_in b.sig y) h)) (reads-unread cube y i b (or-right (stands_in b.sig x) (stands_in b.sig y) h)))
reads-unread cube (Xor x y) i b h =
    but-none (known cube (Xor x y) i) (same cube (Xor x y) i) b (reads cube x i b || reads cube y i b) (same-other cube b (Xor x y) i h)
    (both (reads cube x i b) (reads cube y i b) (reads-unread cube x i b (or-left (stands_in b.sig x) (stands_in b.sig y) h)) (reads-unread cube y i b (or-right (stands_in b.sig x) (stands_in b.sig y) h)))
reads-unread cube (Add x y) i b h =
    but-none (known cube (Add x y) i) None b (any_below (λ j. reads cube x j b || reads cube y j b) (suc i)) refl
    (any-none (λ j. reads cube x j b || reads cube y j b) (suc i) (λ j. both (reads cube x j b) (reads cube y j b)
    (reads-unread cube x j b (or-left (stands_in b.sig x) (stands_in b.sig y) h)) (reads-unread cube y j b (or-right (stands_in b.sig x) (stands_in b.sig y) h))))
reads-unread cube (Sub x y) i b h =
    but-none (known cube (Sub x y) i) None b (any_below (λ j. reads cube x j b || reads cube y j b) (suc i)) refl
    (any-none (λ j. reads cube x j b || reads cube y j b) (suc i) (λ j. both (reads cube x j b) (reads cube y j b)
    (reads-unread cube x j b (or-left (stands_in b.sig x) (stands_in b.sig y) h)) (reads-unread cube y j b (or-right (stands_in b.sig x) (stands_in b.sig y) h))))
reads-unread cube (Eq x y) i b h =
    but-none (known cube (Eq x y) i) None b (any_below (λ j. reads cube x j b || reads cube y j b) (width x)) refl
    (any-none (λ j. reads cube x j b || reads cube y j b) (width x) (λ j. both (reads cube x j b) (reads cube y j b)
    (reads-unread cube x j b (or-left (stands_in b.sig x) (stands_in b.sig y) h)) (reads-unread cube y j b (or-right (stands_in b.sig x) (stands_in b.sig y) h))))
reads-unread cube (Lt x y) i b h =
    but-none (known cube (Lt x y) i) None b (any_below (λ j. reads cube x j b || reads cube y j b) (width x)) refl
    (any-none (λ j. reads cube x j b || reads cube y j b) (width x) (λ j. both (reads cube x j b) (reads cube y j b)
    (reads-unread cube x j b (or-left (stands_in b.sig x) (stands_in b.sig y) h)) (reads-unread cube y j b (or-right (stands_in b.sig x) (stands_in b.sig y) h))))
reads-unread cube (Shl a by) i b h =
    let p = or-left (stands_in b.sig a) (stands_in b.sig by) h in
    let q = or-right (stands_in b.sig a) (stands_in b.sig by) h in
    number-none (known_number (known cube by) (width by)) (any_below (λ j. reads cube a j b) (width a) || any_below (λ j. reads cube by j b) (width by))
    (λ n. cond (nat_lt i n) false (cond (nat_lt (i - n) (width a)) (reads cube a (i - n) b) false))
    (both (any_below (λ j. reads cube a j b) (width a)) (any_below (λ j. reads cube by j b) (width by))
    (any-none (λ j. reads cube a j b) (width a) (λ j. reads-unread cube a j b p)) (any-none (λ j. reads cube by j b) (width by) (λ j. reads-unread cube by j b q)))
    (λ n. cond-none (nat_lt i n) false (cond (nat_lt (i - n) (width a)) (reads cube a (i - n) b) false) refl (cond-none (nat_lt (i - n) (width a)) (reads cube a (i - n) b) false (reads-unread cube a (i - n) b p) refl))
reads-unread cube (Shr a by) i b h =
    let p = or-left (stands_in b.sig a) (stands_in b.sig by) h in
    let q = or-right (stands_in b.sig a) (stands_in b.sig by) h in
    number-none (known_number (known cube by) (width by)) (any_below (λ j. reads cube a j b) (width a) || any_below (λ j. reads cube by j b) (width by))
    (λ n. cond (nat_lt (i + n) (width a)) (reads cube a (i + n) b) false)
    (both (any_below (λ j. reads cube a j b) (width a)) (any_below (λ j. reads cube by j b) (width by))
    (any-none (λ j. reads cube a j b) (width a) (λ j. reads-unread cube a j b p)) (any-none (λ j. reads cube by j b) (width by) (λ j. reads-unread cube by j b q)))
    (λ n. cond-none (nat_lt (i + n) (width a)) (reads cube a (i + n) b) false (reads-unread cube a (i + n) b p) refl)
reads-unread cube (Mux c x y) i b h =
    let rest = or-right (stands_in b.sig c) (stands_in b.sig x || stands_in b.sig y) h in
    let o = reads-unread cube c 0 b (or-left (stands_in b.sig c) (stands_in b.sig x || stands_in b.sig y) h) in
    let p = reads-unread cube x i b (or-left (stands_in b.sig x) (stands_in b.sig y) rest) in
    let q = reads-unread cube y i b (or-right (stands_in b.sig x) (stands_in b.sig y) rest) in
    but-none (known cube (Mux c x y) i) (same cube (Mux c x y) i) b
    (chosen (known cube c 0) (reads cube x i b) (reads cube y i b) (reads cube c 0 b || (reads cube x i b || reads cube y i b))) (same-other cube b (Mux c x y) i h)
    (chosen-none (known cube c 0) (reads cube x i b) (reads cube y i b) (reads cube c 0 b || (reads cube x i b || reads cube y i b)) p q
    (both (reads cube c 0 b) (reads cube x i b || reads cube y i b) o (both (reads cube x i b) (reads cube y i b) p q)))
reads-unread cube (Concat high low) i b h =
    cond-none (nat_lt i (width low)) (reads cube low i b) (reads cube high (i - width low) b)
    (reads-unread cube low i b (or-right (stands_in b.sig high) (stands_in b.sig low) h)) (reads-unread cube high (i - width low) b (or-left (stands_in b.sig high) (stands_in b.sig low) h))
reads-unread cube (Slice a at w) i b h = reads-unread cube a (at + i) b h
reads-unread cube (Extend a w) i b h = cond-none (nat_lt i (width a)) (reads cube a i b) false (reads-unread cube a i b h) refl
reads-unread cube (ReduceAnd a) i b h =
    but-none (known cube (ReduceAnd a) i) (same cube (ReduceAnd a) i) b (any_below (λ j. reads cube a j b) (width a)) (same-other cube b (ReduceAnd a) i h)
    (any-none (λ j. reads cube a j b) (width a) (λ j. reads-unread cube a j b h))
reads-unread cube (ReduceOr a) i b h =
    but-none (known cube (ReduceOr a) i) (same cube (ReduceOr a) i) b (any_below (λ j. reads cube a j b) (width a)) (same-other cube b (ReduceOr a) i h)
    (any-none (λ j. reads cube a j b) (width a) (λ j. reads-unread cube a j b h))
reads-unread cube (ReduceXor a) i b h =
    but-none (known cube (ReduceXor a) i) (same cube (ReduceXor a) i) b (any_below (λ j. reads cube a j b) (width a)) (same-other cube b (ReduceXor a) i h)
    (any-none (λ j. reads cube a j b) (width a) (λ j. reads-unread cube a j b h))
