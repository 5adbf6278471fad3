-- The numbers that operators make of words.
use Rattle.std.proofs.Common.{◌≡◌, ◌≢◌, ◌⊎◌, inl, inr, ℕ, zero, suc, ◌+◌, ◌-◌, ◌*◌, ◌/◌, ◌%◌, ◌^◌, ◌<◌, ◌≤◌, max, min, Bool, true, false, cond, not, ◌&&◌, ◌||◌, ◌==◌, nat_lt, refl, sym, ap, ap₂, subst, ◌∙◌, arith, lt-ltb, pow-add, pow_pos, suc-mul, zero-mul, add-mul}
use Rattle.std.specs.Prelude.{bit_and, bit_or, bit_xor, count_ones}
use Rattle.std.proofs.Math.Nat.{mod-le, div-le_self}
use Rattle.cell_graph.specs.Tree.{bit_at, number, all_below, any_below, odd_below}
use Rattle.cell_graph.proofs.Words.{HasBits, number-same, number-has, has-number, has-same, bit-has, bit-zero, wider-has, low-has, not-has, and-has, or-has, xor-has, add-has, sub-has, up-has, down-has, narrow, any-bit, all-bits, odd-bits}
use Rattle.flat_form.specs.declared.flat.FUnaryOp.{FUnaryOp}
use Rattle.flat_form.specs.declared.flat.FUnaryOp.TheVariants as u
use Rattle.verilog_ast.specs.declared.BinaryOp.{BinaryOp}
use Rattle.verilog_ast.specs.declared.BinaryOp.TheVariants as b
use mir.Val.{bool_byte}
use Rattle.flat_form.specs.View.{unary_of, binary_of}
use Rattle.flat_form.specs.Operators.{comparison}
use Rattle.flat_meaning.specs.Values.{Word}
use Rattle.flat_meaning.specs.Flat as f
use Rattle.flat_meaning.specs.Meaning.{padded, flag, cat, copies, unary, binary, left_at, right_at}
use Rattle.flat_meaning.proofs.Words.{low_sum, low_difference, by_lt}

-- ---- flags and words with zeros above

both : (c b : Bool) → cond c b false ≡ (c && b)
both true b = refl
both false b = refl

pub has-padded : (v w W : ℕ) (f : Word) → w ≤ W → HasBits v f w → HasBits v (padded w f) W
has-padded v w W f h k = has-same (wider-has f w v W h k) (λ i l. both (nat_lt i w) (f i))

pub has-flag : (b : Bool) (W : ℕ) → 1 ≤ W → HasBits (cond b 1 0) (flag b) W
has-flag b W h = has-padded (cond b 1 0) 1 W (λ i. b) h (bit-has b (λ i. b) refl)

pub has-zero : (f : Word) (w : ℕ) → ((i : ℕ) → f i ≡ false) → HasBits 0 f w
has-zero f w h = record { lt = pow_pos w; each = λ i l. bit-zero i ∙ sym (h i) }

-- ---- high and low

pub has-word : (a w : ℕ) (g : Word) → a ≡ number g w → HasBits a g w
has-word a w g e = subst (λ n. HasBits n g w) (sym e) (number-has g w)

pub number-cat : (g h : Word) (m n : ℕ) → number (cat g n h) (m + n) ≡ number g m * 2 ^ n + number h n
number-cat g h zero n = ap (number (cat g n h)) (let e : 0 + n ≡ n = omega arith in e) ∙ number-same (cat g n h) h n (λ i l. ap (λ b. cond b (h i) (g (i - n))) (lt-ltb i n l)) ∙ (let e : number h n ≡ 0 * 2 ^ n + number h n = omega arith in e)
number-cat g h (suc m) n =
    ap (number (cat g n h)) (let e : suc m + n ≡ suc (m + n) = omega arith in e)
    ∙ ap₂ (λ x b. x + cond b (2 ^ (m + n)) 0) (number-cat g h m n) (top ∙ ap g (let e : m + n - n ≡ m = omega arith in e)) ∙ go (g m)
  where
    top : cat g n h (m + n) ≡ g (m + n - n)
    top = by_lt (λ b. cond b (h (m + n)) (g (m + n - n)) ≡ g (m + n - n)) (m + n) n (λ l. absurd (omega arith)) (λ l. refl)

    go : (b : Bool) → number g m * 2 ^ n + number h n + cond b (2 ^ (m + n)) 0 ≡ (number g m + cond b (2 ^ m) 0) * 2 ^ n + number h n
    go true = let p = pow-add 2 m n in let q = add-mul (number g m) (2 ^ m) (2 ^ n) in omega arith
    go false = let q = add-mul (number g m) 0 (2 ^ n) in omega arith

-- one more copy below the others
pub number-copies : (w : ℕ) (g : Word) (n : ℕ) → number (copies (suc n) w g) (suc n * w) ≡ number (copies n w g) (n * w) * 2 ^ w + number g w
number-copies w g zero = one 0 ∙ (let e : number g w * 2 ^ (0 * w) + number (λ i. false) (0 * w) ≡ number (λ i. false) (0 * w) * 2 ^ w + number g w = subst (λ k. number g w * 2 ^ k + number (λ i. false) k ≡ number (λ i. false) k * 2 ^ w + number g w) (sym (zero-mul w)) (omega arith) in e)
  where
    one : (n : ℕ) → number (copies (suc n) w g) (suc n * w) ≡ number g w * 2 ^ (n * w) + number (copies n w g) (n * w)
    one n = ap (number (copies (suc n) w g)) (suc-mul n w ∙ (let e : n * w + w ≡ w + n * w = omega arith in e)) ∙ number-cat g (copies n w g) w (n * w)
number-copies w g (suc n) =
    one (suc n) ∙ ap (λ x. number g w * 2 ^ (suc n * w) + x) (number-copies w g n)
    ∙ (let p : 2 ^ (suc n * w) ≡ 2 ^ (n * w) * 2 ^ w = ap (λ k. 2 ^ k) (suc-mul n w) ∙ pow-add 2 (n * w) w in
    ap (λ x. number g w * x + (number (copies n w g) (n * w) * 2 ^ w + number g w)) p ∙ last (number g w) (2 ^ (n * w)) (2 ^ w) (number (copies n w g) (n * w))
    ∙ ap (λ x. x * 2 ^ w + number g w) (sym (one n)))
  where
    one : (n : ℕ) → number (copies (suc n) w g) (suc n * w) ≡ number g w * 2 ^ (n * w) + number (copies n w g) (n * w)
    one n = ap (number (copies (suc n) w g)) (suc-mul n w ∙ (let e : n * w + w ≡ w + n * w = omega arith in e)) ∙ number-cat g (copies n w g) w (n * w)

    last : (v a b c : ℕ) → v * (a * b) + (c * b + v) ≡ (v * a + c) * b + v
    last v a b c = grind arith

-- ---- `!` and reductions

pub all-is : (g : Word) (w a m : ℕ) → w ≤ 64 → a ≡ number g w → m ≡ 2 ^ min w 64 - 1 → (a == m) ≡ all_below g w
all-is g w a m h e k = ap₂ (λ x y. x == y) e (k ∙ ap (λ n. 2 ^ n - 1) (let z : min w 64 ≡ w = omega arith in z)) ∙ sym (all-bits g w)

pub none-is : (g : Word) (w a : ℕ) → a ≡ number g w → (a == 0) ≡ not (any_below g w)
none-is g w a e = ap (λ x. x == 0) e ∙ twice (number g w == 0) ∙ ap not (sym (any-bit g w))
  where
    twice : (b : Bool) → b ≡ not (not b)
    twice true = refl
    twice false = refl

pub some-is : (g : Word) (w a : ℕ) → a ≡ number g w → not (a == 0) ≡ any_below g w
some-is g w a e = ap (λ x. not (x == 0)) e ∙ sym (any-bit g w)

pub odd-is : (g : Word) (w a : ℕ) → a ≡ number g w → (count_ones a % 2 == 1) ≡ odd_below g w
odd-is g w a e =
    let n = count_ones (number g w) in
    ap (λ x. count_ones x % 2 == 1) e ∙ ap (λ x. x == 1) (let z : n % 2 ≡ n % 2 / 2 ^ 0 % 2 = omega arith in z) ∙ (odd-bits g w).each 0 (omega arith)

-- every operator but `~` makes a flag
flag-number : (b : Bool) (W : ℕ) → 1 ≤ W → cond b 1 0 ≡ number (flag b) W
flag-number b W h = has-number (has-flag b W h)

pub unary-flag : (op : f.UnaryOp) (w W : ℕ) (g : Word) → op ≢ f.complement → 1 ≤ W → cond (unary op w g 0) 1 0 ≡ number (unary op w g) W
unary-flag f.complement w W g n h = absurd (n refl)
unary-flag f.logical_not w W g n h = flag-number (not (any_below g w)) W h
unary-flag f.reduce_and w W g n h = flag-number (all_below g w) W h
unary-flag f.reduce_or w W g n h = flag-number (any_below g w) W h
unary-flag f.reduce_xor w W g n h = flag-number (odd_below g w) W h
unary-flag f.reduce_nand w W g n h = flag-number (not (all_below g w)) W h
unary-flag f.reduce_nor w W g n h = flag-number (not (any_below g w)) W h
unary-flag f.reduce_xnor w W g n h = flag-number (not (odd_below g w)) W h

-- ---- binary operators

-- the words of operands that have the size of the whole
on-words : (op : f.BinaryOp) (r a b W : ℕ) → ((g h : Word) → HasBits a g W → HasBits b h W → HasBits r (binary op W W g h) W)
    → (g h : Word) (m n : ℕ) → W ≡ m → W ≡ n → a ≡ number g m → b ≡ number h n → r ≡ number (binary op m n g h) W
on-words op r a b W core g h m n p q =
    subst (λ m. a ≡ number g m → b ≡ number h n → r ≡ number (binary op m n g h) W) p
    (subst (λ n. a ≡ number g W → b ≡ number h n → r ≡ number (binary op W n g h) W) q (λ d e. has-number (core g h (has-word a W g d) (has-word b W h e))))

module _ (a b W : ℕ) (small : W ≤ 64) (g h : Word) (k : HasBits a g W) (l : HasBits b h W) where
  operands : (op : ℕ → ℕ → ℕ) → op a b ≡ op (number g W) (number h W)
  operands op = ap₂ op (has-number k) (has-number l)

  times-has : HasBits (a * b % 2 ^ 64 % 2 ^ W) (binary f.times W W g h) W
  times-has = subst (λ n. HasBits n (binary f.times W W g h) W) (sym (narrow (a * b) W small))
      (low-has (a * b) W (binary f.times W W g h) (λ i z. ap (λ n. bit_at n i) (operands (λ x y. x * y))))

  divided-has : HasBits (a / b) (binary f.divided W W g h) W
  divided-has = record { lt = below b; each = λ i z. ap (λ n. bit_at n i) (operands (λ x y. x / y)) }
    where
      below : (b : ℕ) → a / b < 2 ^ W
      below b = let z = k.lt in let y = div-le_self a b in omega arith

  remainder-has : HasBits (a % b) (binary f.remainder W W g h) W
  remainder-has = record { lt = let z = k.lt in let y = mod-le a b in omega arith; each = λ i z. ap (λ n. bit_at n i) (operands (λ x y. x % y)) }

  plus-has : HasBits ((a + b) % 2 ^ 64 % 2 ^ W) (binary f.plus W W g h) W
  plus-has = has-same (add-has g h W a b small k l) (λ i z. sym (low_sum g h W i z))

  minus-has : HasBits ((a + (2 ^ 64 - b)) % 2 ^ 64 % 2 ^ W) (binary f.minus W W g h) W
  minus-has = has-same (sub-has g h W a b small k l) (λ i z. sym (low_difference g h W i z))

module _ (r a b W : ℕ) (small : W ≤ 64) (g h : Word) (m n : ℕ) where
  pub times-is : r ≡ a * b % 2 ^ 64 % 2 ^ W → W ≡ m → W ≡ n → a ≡ number g m → b ≡ number h n → r ≡ number (binary f.times m n g h) W
  times-is e p q d c = e ∙ on-words f.times _ a b W (times-has a b W small) g h m n p q d c

  pub divided-is : r ≡ a / b → W ≡ m → W ≡ n → a ≡ number g m → b ≡ number h n → r ≡ number (binary f.divided m n g h) W
  divided-is e p q d c = e ∙ on-words f.divided _ a b W (divided-has a b W small) g h m n p q d c

  pub remainder-is : r ≡ a % b → W ≡ m → W ≡ n → a ≡ number g m → b ≡ number h n → r ≡ number (binary f.remainder m n g h) W
  remainder-is e p q d c = e ∙ on-words f.remainder _ a b W (remainder-has a b W small) g h m n p q d c

  pub plus-is : r ≡ (a + b) % 2 ^ 64 % 2 ^ W → W ≡ m → W ≡ n → a ≡ number g m → b ≡ number h n → r ≡ number (binary f.plus m n g h) W
  plus-is e p q d c = e ∙ on-words f.plus _ a b W (plus-has a b W small) g h m n p q d c

  pub minus-is : r ≡ (a + (2 ^ 64 - b)) % 2 ^ 64 % 2 ^ W → W ≡ m → W ≡ n → a ≡ number g m → b ≡ number h n → r ≡ number (binary f.minus m n g h) W
  minus-is e p q d c = e ∙ on-words f.minus _ a b W (minus-has a b W small) g h m n p q d c

  pub and-is : r ≡ bit_and a b → W ≡ m → W ≡ n → a ≡ number g m → b ≡ number h n → r ≡ number (binary f.bitwise_and m n g h) W
  and-is e p q d c = e ∙ on-words f.bitwise_and _ a b W (λ g h k l. and-has g h W a b k l) g h m n p q d c

  pub or-is : r ≡ bit_or a b → W ≡ m → W ≡ n → a ≡ number g m → b ≡ number h n → r ≡ number (binary f.bitwise_or m n g h) W
  or-is e p q d c = e ∙ on-words f.bitwise_or _ a b W (λ g h k l. or-has g h W a b k l) g h m n p q d c

  pub xor-is : r ≡ bit_xor a b → W ≡ m → W ≡ n → a ≡ number g m → b ≡ number h n → r ≡ number (binary f.bitwise_xor m n g h) W
  xor-is e p q d c = e ∙ on-words f.bitwise_xor _ a b W (λ g h k l. xor-has g h W a b k l) g h m n p q d c

  pub xnor-is : r ≡ (2 ^ 64 - 1 - bit_xor a b) % 2 ^ W → W ≡ m → W ≡ n → a ≡ number g m → b ≡ number h n → r ≡ number (binary f.bitwise_xnor m n g h) W
  xnor-is e p q d c = e ∙ on-words f.bitwise_xnor _ a b W (λ g h k l. not-has (λ i. cond (g i) (not (h i)) (h i)) h W (bit_xor a b) small (xor-has g h W a b k l)) g h m n p q d c

  pub up-is : r ≡ a * 2 ^ b % 2 ^ 64 % 2 ^ W → W ≡ m → n ≡ n → a ≡ number g m → b ≡ number h n → r ≡ number (binary f.shift_left m n g h) W
  up-is e p q d c = e ∙ subst (λ m. a ≡ number g m → a * 2 ^ b % 2 ^ 64 % 2 ^ W ≡ number (binary f.shift_left m n g h) W) p
      (λ d. has-number (subst (λ k. HasBits (a * 2 ^ b % 2 ^ 64 % 2 ^ W) (λ i. cond (nat_lt i k) false (g (i - k))) W) c
      (has-same (up-has g W a b small (has-word a W g d)) (λ i l. ap (cond (nat_lt i b) false) (ap (λ z. cond z (g (i - b)) false) (lt-ltb (i - b) W (omega arith)))))))
      d

  pub down-is : r ≡ a / 2 ^ b → W ≡ m → n ≡ n → a ≡ number g m → b ≡ number h n → r ≡ number (binary f.shift_right m n g h) W
  down-is e p q d c = e ∙ subst (λ m. a ≡ number g m → a / 2 ^ b ≡ number (binary f.shift_right m n g h) W) p
      (λ d. has-number (subst (λ k. HasBits (a / 2 ^ b) (λ i. cond (nat_lt (i + k) W) (g (i + k)) false) W) c (down-has g W a b (has-word a W g d))))
      d

-- ---- one negated word

pub not-is : (r a w W : ℕ) (g : Word) → w ≤ 64 → W ≡ w → a ≡ number g w → r ≡ (2 ^ 64 - 1 - a) % 2 ^ w → r ≡ number (unary f.complement w g) W
not-is r a w W g small p e d = d ∙ has-number (not-has g g w a small (has-word a w g e)) ∙ ap (number (λ i. not (g i))) (sym p)

-- ---- the operators of the code

pub reduced-none : (op : FUnaryOp) (w : ℕ) (g : Word) (b : Bool) → (op ≡ u.Not) ⊎ ((op ≡ u.LogicNot) ⊎ (op ≡ u.Nor)) → unary_of op ≢ f.complement → b ≡ not (any_below g w) → b ≡ unary (unary_of op) w g 0
reduced-none op w g b (inl p) n e = absurd (n (ap unary_of p))
reduced-none op w g b (inr (inl p)) n e = subst (λ (op : FUnaryOp). b ≡ unary (unary_of op) w g 0) (sym p) e
reduced-none op w g b (inr (inr p)) n e = subst (λ (op : FUnaryOp). b ≡ unary (unary_of op) w g 0) (sym p) e

pub no-complement : (op : FUnaryOp) → op ≢ u.Not → unary_of op ≢ f.complement
no-complement u.Not n = absurd (n refl)
no-complement u.LogicNot n = λ e. cc
no-complement u.And n = λ e. cc
no-complement u.Or n = λ e. cc
no-complement u.Xor n = λ e. cc
no-complement u.Nand n = λ e. cc
no-complement u.Nor n = λ e. cc
no-complement u.Xnor n = λ e. cc

pub byte-is : (b : Bool) → bool_byte b ≡ cond b 1 0
byte-is true = refl
byte-is false = refl

-- what the operators are that make one bit of two words
pub record IsOther (op : BinaryOp) : Type 0 where
  pub times : op ≢ b.Mul
  pub divided : op ≢ b.Div
  pub remainder : op ≢ b.Mod
  pub plus : op ≢ b.Add
  pub minus : op ≢ b.Sub
  pub both : op ≢ b.And
  pub differ : op ≢ b.Xor
  pub agree : op ≢ b.Xnor
  pub either : op ≢ b.Or
  pub up : op ≢ b.Shl
  pub down : op ≢ b.Shr

module _ (x y m n W : ℕ) (g h : Word) (some : 1 ≤ W) (d : x ≡ number g m) (e : y ≡ number h n) where
  -- two words of one size
  same-size : (p : ℕ → ℕ → Bool) → max m n ≡ m → max m n ≡ n → cond (p x y) 1 0 ≡ number (flag (p (number g m) (number h m))) W
  same-size p i j = flag-number (p x y) W some ∙ ap (λ z. number (flag z) W) (ap₂ p d (e ∙ ap (number h) (sym j ∙ i)))

  true-is : (u : Word) (k z : ℕ) → z ≡ number u k → not (z == 0) ≡ any_below u k
  true-is u k z q = some-is u k z q

  pub compared-is : (op : BinaryOp) → IsOther op → left_at (binary_of op) W m n ≡ m → right_at (binary_of op) W m n ≡ n → cond (comparison op x y) 1 0 ≡ number (binary (binary_of op) m n g h) W
  compared-is b.Mul o i j = absurd (o.times refl)
  compared-is b.Div o i j = absurd (o.divided refl)
  compared-is b.Mod o i j = absurd (o.remainder refl)
  compared-is b.Add o i j = absurd (o.plus refl)
  compared-is b.Sub o i j = absurd (o.minus refl)
  compared-is b.And o i j = absurd (o.both refl)
  compared-is b.Xor o i j = absurd (o.differ refl)
  compared-is b.Xnor o i j = absurd (o.agree refl)
  compared-is b.Or o i j = absurd (o.either refl)
  compared-is b.Shl o i j = absurd (o.up refl)
  compared-is b.Shr o i j = absurd (o.down refl)
  compared-is b.Lt o i j = same-size nat_lt i j
  compared-is b.Le o i j = same-size (λ p q. not (nat_lt q p)) i j
  compared-is b.Gt o i j = same-size (λ p q. nat_lt q p) i j
  compared-is b.Ge o i j = same-size (λ p q. not (nat_lt p q)) i j
  compared-is b.Eq o i j = same-size (λ p q. p == q) i j
  compared-is b.Ne o i j = same-size (λ p q. not (p == q)) i j
  compared-is b.LogicAnd o i j = flag-number (not (x == 0) && not (y == 0)) W some ∙ ap (λ z. number (flag z) W) (ap₂ (λ p q. p && q) (true-is g m x d) (true-is h n y e))
  compared-is b.LogicOr o i j = flag-number (not (x == 0) || not (y == 0)) W some ∙ ap (λ z. number (flag z) W) (ap₂ (λ p q. p || q) (true-is g m x d) (true-is h n y e))

-- what the code owes for an operator
abbrev pub Makes : BinaryOp → (r x y W : ℕ) → Word → Word → (m n : ℕ) → Type 0
Makes op r x y W g h m n = left_at (binary_of op) W m n ≡ m → right_at (binary_of op) W m n ≡ n → x ≡ number g m → y ≡ number h n → r ≡ number (binary (binary_of op) m n g h) W
