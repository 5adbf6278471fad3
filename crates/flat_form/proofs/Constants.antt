-- Values of parts beside one another, and of a gate's inputs.
use Rattle.std.proofs.Common.{◌≡◌, ℕ, zero, suc, ◌+◌, ◌-◌, ◌*◌, ◌%◌, ◌^◌, ◌<◌, ◌≤◌, true, false, ◌==◌, List, [], ◌∷◌, map, length, refl, sym, ap, ap₂, subst, ◌∙◌, arith, pow-add, pow_pos, suc-mul, mul-suc, add-mul, eqb-true}
use Rattle.std.specs.Prelude.{bit_or}
use Rattle.std.proofs.lemmas.Bool.{and_parts}
use Rattle.std.proofs.lemmas.Nat.{or_shifted, shl_below}
use Rattle.std.proofs.Math.Nat.{mod-eq_of_lt}
use Rattle.std.proofs.Math.Pow.{pow_mono}
use Rattle.cell_graph.specs.Tree.{number}
use Rattle.cell_graph.proofs.Words.{number-lt, has-number}
use Rattle.flat_meaning.specs.Values.{Word}
use Rattle.flat_meaning.specs.Flat as f
use Rattle.flat_meaning.specs.Meaning.{copies, value, joined, gated, gated_on, binary, left_at, right_at}
use Rattle.flat_meaning.specs.Full.{nothing}
use Rattle.flat_form.specs.declared.flat.FExpr.{FExpr}
use Rattle.flat_form.specs.View.{expr_of, exprs_of}
use Rattle.flat_form.specs.Sizes.{kept_of, is_sized, sum, all_right, all_bits}
use Rattle.flat_form.proofs.Sized.{sized_width}
use Rattle.flat_form.proofs.Numbers.{number-cat, number-copies, has-zero}

-- ---- parts

abbrev pub these : List FExpr → f.Exprs
these es = exprs_of (map expr_of es)

abbrev pub own : FExpr → ℕ
own e = number (value nothing (expr_of e) (f.size (expr_of e))) (f.size (expr_of e))

abbrev pub beside : List FExpr → ℕ
beside es = number (joined nothing (these es)) (f.sizes (these es))

-- the sum of the widths of sized parts
pub parts_width : (es : List FExpr) → all_right (map kept_of es) ≡ true → sum (map kept_of es) ≡ f.sizes (these es)
parts_width [] h = refl
parts_width (e ∷ es) h = let p = and_parts (is_sized e) (all_right (map kept_of es)) h in ap₂ (λ m n. m + n) (sized_width e p.0) (parts_width es p.1)

pub head-sized : (e : FExpr) (es : List FExpr) → all_right (map kept_of (e ∷ es)) ≡ true → is_sized e ≡ true
head-sized e es h = (and_parts (is_sized e) (all_right (map kept_of es)) h).0

pub none-left : (es : List FExpr) → length es ≡ 0 → es ≡ []
none-left [] h = refl
none-left (e ∷ es) h = absurd (omega arith)

-- the word has the parts above the rest
pub record Joins (word : ℕ) (rest all : List FExpr) : Type 0 where
  pub right : all_right (map kept_of rest) ≡ true
  pub whole : word * 2 ^ f.sizes (these rest) + beside rest ≡ beside all

pub joins-none : (all : List FExpr) → all_right (map kept_of all) ≡ true → Joins 0 all all
joins-none all h = record { right = h; whole = omega arith }

pub joins-all : (word : ℕ) (all : List FExpr) → Joins word [] all → word ≡ beside all
joins-all word all j = let w = j.whole in omega arith

assoc : (a b c : ℕ) → a * b * c ≡ a * (b * c)
assoc a b c = grind arith

no-less : (a b : ℕ) → 1 ≤ b → a ≤ a * b
no-less a zero h = absurd (omega arith)
no-less a (suc b) h = let p = mul-suc a b in omega arith

pub joins-step : (word x : ℕ) (e : FExpr) (rest all : List FExpr) → Joins word (e ∷ rest) all → f.sizes (these all) ≤ 64 → x ≡ own e
    → Joins (bit_or (word * 2 ^ f.size (expr_of e) % 2 ^ 64) x) rest all
joins-step word x e rest all j small q =
    let w = f.size (expr_of e) in
    let r = f.sizes (these rest) in
    let old : word * 2 ^ w * 2 ^ r + (own e * 2 ^ r + beside rest) ≡ beside all =
    ap₂ (λ a b. a + b) (assoc word (2 ^ w) (2 ^ r) ∙ ap (λ k. word * k) (sym (pow-add 2 w r))) (sym (number-cat (value nothing (expr_of e) w) (joined nothing (these rest)) w r)) ∙ j.whole in
    let limit : 2 ^ f.sizes (these all) ≤ 2 ^ 64 = pow_mono small in
    let top = number-lt (joined nothing (these all)) (f.sizes (these all)) in
    let some = pow_pos r in
    let part = no-less (word * 2 ^ w) (2 ^ r) (omega arith) in
    let below : word * 2 ^ w < 2 ^ 64 = omega arith in
    let low : x < 2 ^ w = subst (λ n. n < 2 ^ w) (sym q) (number-lt (value nothing (expr_of e) w) w) in
    let new : bit_or (word * 2 ^ w % 2 ^ 64) x ≡ word * 2 ^ w + x = ap (λ k. bit_or k x) (mod-eq_of_lt below) ∙ or_shifted word w x low in
    record {
      right = (and_parts (is_sized e) (all_right (map kept_of rest)) j.right).1;
      whole = ap (λ n. n * 2 ^ r + beside rest) new ∙ (let a = add-mul (word * 2 ^ w) x (2 ^ r) in let b = ap (λ n. n * 2 ^ r) q in omega arith);
    }

-- ---- copies

pub repeat-step : (g : Word) (w n word all : ℕ) → suc n * w ≤ 64 → word ≡ number g w → all ≡ number (copies n w g) (n * w) → bit_or (all * 2 ^ w % 2 ^ 64) word ≡ number (copies (suc n) w g) (suc n * w)
repeat-step g w n word all small e d =
    let low : word < 2 ^ w = subst (λ k. k < 2 ^ w) (sym e) (number-lt g w) in
    let part : all < 2 ^ (n * w) = subst (λ k. k < 2 ^ (n * w)) (sym d) (number-lt (copies n w g) (n * w)) in
    let moved : all * 2 ^ w < 2 ^ (n * w + w) = shl_below all (n * w) w part in
    let s = suc-mul n w in
    let limit : 2 ^ (n * w + w) ≤ 2 ^ 64 = pow_mono (let l : n * w + w ≤ 64 = omega arith in l) in
    let below : all * 2 ^ w < 2 ^ 64 = omega arith in
    ap (λ k. bit_or k word) (mod-eq_of_lt below) ∙ or_shifted all w word low ∙ ap₂ (λ x y. x * 2 ^ w + y) d e ∙ sym (number-copies w g n)

pub fewer : (n m w : ℕ) → n ≤ m → m * w ≤ 64 → n * w ≤ 64
fewer n m w h k = let p = add-mul n (m - n) w in let e : n + (m - n) ≡ m = omega arith in let q = ap (λ x. x * w) e in omega arith

-- ---- gates

-- the word is that of the inputs folded so far
pub record Folded (op : f.BinaryOp) (W word : ℕ) (rest all : List FExpr) : Type 0 where
  pub right : all_right (map kept_of rest) ≡ true
  pub bits : all_bits (map kept_of rest) ≡ true
  pub so_far : Word
  pub is : word ≡ number so_far W
  pub whole : gated nothing op W (these all) ≡ gated_on nothing op W so_far (these rest)

-- what the code owes for a gate's inputs, and for parts
abbrev pub GateGives : f.BinaryOp → List FExpr → (W r : ℕ) → Type 0
GateGives op inputs W r = all_right (map kept_of inputs) ≡ true → all_bits (map kept_of inputs) ≡ true → 1 ≤ W → W ≤ 64 → r ≡ number (gated nothing op W (these inputs)) W

abbrev pub JoinGives : List FExpr → ℕ → Type 0
JoinGives parts r = all_right (map kept_of parts) ≡ true → sum (map kept_of parts) ≤ 64 → r ≡ number (joined nothing (these parts)) (f.sizes (these parts))

abbrev pub OnceGives : List FExpr → ℕ → Type 0
OnceGives parts once = sum (map kept_of parts) < 2 ^ 64 → once ≡ sum (map kept_of parts)

-- an input's value at W bits
abbrev pub InputGives : FExpr → (W x : ℕ) → Type 0
InputGives e W x = is_sized e ≡ true → (kept_of e).width ≤ W → W ≤ 64 → (x ≡ number (value nothing (expr_of e) W) W) × (x < 2 ^ W)

pub gate-none : (op : f.BinaryOp) (inputs : List FExpr) (W : ℕ) → inputs ≡ [] → 0 ≡ number (gated nothing op W (these inputs)) W
gate-none op inputs W e = has-number (has-zero (λ i. false) W (λ i. refl)) ∙ ap (λ es. number (gated nothing op W (these es)) W) (sym e)

pub gate-first : (op : f.BinaryOp) (W x : ℕ) (e : FExpr) (rest inputs : List FExpr) → InputGives e W x → inputs ≡ e ∷ rest
    → all_right (map kept_of inputs) ≡ true → all_bits (map kept_of inputs) ≡ true → 1 ≤ W → W ≤ 64 → Folded op W x rest inputs
gate-first op W x e rest inputs v is r b some small =
    let p = and_parts (is_sized e) (all_right (map kept_of rest)) (ap (λ es. all_right (map kept_of es)) (sym is) ∙ r) in
    let q = and_parts ((kept_of e).width == 1) (all_bits (map kept_of rest)) (ap (λ es. all_bits (map kept_of es)) (sym is) ∙ b) in
    let one = eqb-true (kept_of e).width 1 q.0 in
    record { right = p.1; bits = q.1; so_far = value nothing (expr_of e) W; is = (v p.0 (omega arith) small).0; whole = ap (λ es. gated nothing op W (these es)) is }

-- every operator takes two words of one size at that size
left-whole : (op : f.BinaryOp) (W : ℕ) → left_at op W W W ≡ W
left-whole f.times W = refl
left-whole f.divided W = refl
left-whole f.remainder W = refl
left-whole f.plus W = refl
left-whole f.minus W = refl
left-whole f.shift_left W = refl
left-whole f.shift_right W = refl
left-whole f.is_less W = omega arith
left-whole f.is_at_most W = omega arith
left-whole f.is_greater W = omega arith
left-whole f.is_at_least W = omega arith
left-whole f.is_equal W = omega arith
left-whole f.is_unequal W = omega arith
left-whole f.bitwise_and W = refl
left-whole f.bitwise_or W = refl
left-whole f.bitwise_xor W = refl
left-whole f.bitwise_xnor W = refl
left-whole f.logical_and W = refl
left-whole f.logical_or W = refl

right-whole : (op : f.BinaryOp) (W : ℕ) → right_at op W W W ≡ W
right-whole f.times W = refl
right-whole f.divided W = refl
right-whole f.remainder W = refl
right-whole f.plus W = refl
right-whole f.minus W = refl
right-whole f.shift_left W = refl
right-whole f.shift_right W = refl
right-whole f.is_less W = omega arith
right-whole f.is_at_most W = omega arith
right-whole f.is_greater W = omega arith
right-whole f.is_at_least W = omega arith
right-whole f.is_equal W = omega arith
right-whole f.is_unequal W = omega arith
right-whole f.bitwise_and W = refl
right-whole f.bitwise_or W = refl
right-whole f.bitwise_xor W = refl
right-whole f.bitwise_xnor W = refl
right-whole f.logical_and W = refl
right-whole f.logical_or W = refl

pub gate-step : (op : f.BinaryOp) (W word x r : ℕ) (e : FExpr) (rest inputs : List FExpr) → Folded op W word (e ∷ rest) inputs → InputGives e W x → 1 ≤ W → W ≤ 64
    → ((g h : Word) (m n : ℕ) → 1 ≤ W → W ≤ 64 → left_at op W m n ≡ m → right_at op W m n ≡ n → word ≡ number g m → x ≡ number h n → r ≡ number (binary op m n g h) W)
    → Folded op W r rest inputs
gate-step op W word x r e rest inputs f v some small u =
    let p = and_parts (is_sized e) (all_right (map kept_of rest)) f.right in
    let q = and_parts ((kept_of e).width == 1) (all_bits (map kept_of rest)) f.bits in
    let one = eqb-true (kept_of e).width 1 q.0 in
    record {
      right = p.1;
      bits = q.1;
      so_far = binary op W W f.so_far (value nothing (expr_of e) W);
      is = u f.so_far (value nothing (expr_of e) W) W W some small (left-whole op W) (right-whole op W) f.is (v p.0 (omega arith) small).0;
      whole = f.whole;
    }

pub gate-all : (op : f.BinaryOp) (W word : ℕ) (inputs : List FExpr) → Folded op W word [] inputs → word ≡ number (gated nothing op W (these inputs)) W
gate-all op W word inputs f = f.is ∙ ap (λ g. number g W) (sym f.whole)
