-- The value of a constant expression, one form at a time.
use Rattle.std.proofs.Common.{◌≡◌, ℕ, ◌*◌, ◌^◌, ◌<◌, ◌≤◌, max, Bool, true, false, cond, not, ◌&&◌, ◌==◌, nat_lt, List, map, Box, Global, zero, suc, zero-mul, suc-mul, refl, sym, ap, ap₂, subst, ◌∙◌, arith, eqb-true, ltb-true}
use Rattle.std.proofs.lemmas.Bool.{and_parts}
use Rattle.flat_form.specs.declared.flat.FUnaryOp.{FUnaryOp}
use Rattle.verilog_ast.specs.declared.BinaryOp.{BinaryOp}
use Rattle.cell_graph.specs.Tree.{bit_at, number, any_below}
use Rattle.cell_graph.proofs.Words.{number-lt, number-has, has-number, any-bit}
use Rattle.flat_meaning.specs.Values.{Word}
use Rattle.flat_meaning.specs.Flat as f
use Rattle.flat_meaning.specs.Meaning.{padded, copies, unary, binary, unary_at, left_at, right_at, value, joined, gated}
use Rattle.flat_meaning.specs.Full.{nothing}
use Rattle.flat_form.specs.declared.flat.FExpr.{FExpr}
use Rattle.flat_form.specs.declared.flat.FExpr.TheVariants as e
use Rattle.flat_form.specs.View.{expr_of, unary_of, binary_of}
use Rattle.flat_form.specs.Sizes.{Kept, is_word, kept_of, is_sized, sum, all_right, all_bits, is_some_list}
use Rattle.flat_form.proofs.Folds.{expr_of-Number, expr_of-Read, expr_of-At, expr_of-Unary, expr_of-Binary, expr_of-Choose, expr_of-Gate, expr_of-Join, expr_of-Repeat, kept_of-Number, kept_of-Read, kept_of-At, kept_of-Unary, kept_of-Binary, kept_of-Choose, kept_of-Gate, kept_of-Join, kept_of-Repeat}
use Rattle.flat_form.proofs.Sized.{IsWidth, sized_width, sized_range}
use Rattle.flat_form.proofs.Numbers.{has-padded, has-zero}
use Rattle.flat_form.proofs.Constants.{these, parts_width}

-- r is the expression's value at W bits, where it is sized and W has room for it
abbrev pub Values : FExpr → (W r : ℕ) → Type 0
Values x W r = is_sized x ≡ true → (kept_of x).width ≤ W → W ≤ 64 → (r ≡ number (value nothing (expr_of x) W) W) × (r < 2 ^ W)

finish : (x : FExpr) (W r : ℕ) (k : Kept) (m : f.Expr) → kept_of x ≡ k → expr_of x ≡ m → (k.right ≡ true → k.width ≤ W → IsWidth k.width → W ≤ 64 → r ≡ number (value nothing m W) W) → Values x W r
finish x W r k m p q h = λ s l t.
    let n : r ≡ number (value nothing (expr_of x) W) W =
    h (sym (ap (λ (z : Kept). z.right) p) ∙ s) (subst (λ (z : Kept). z.width ≤ W) p l) (subst (λ (z : Kept). IsWidth z.width) p (sized_range x s)) t ∙ ap (λ z. number (value nothing z W) W) (sym q) in
    (n, subst (λ k. k < 2 ^ W) (sym n) (number-lt (value nothing (expr_of x) W) W))

and-false : (b : Bool) → (b && false) ≡ false
and-false true = refl
and-false false = refl

pub number-form : (v w W : ℕ) → Values (e.Number v w) W v
number-form v w W = finish _ W v _ _ (kept_of-Number v w) (expr_of-Number v w) (λ s l k t.
    let p = and_parts (is_word w) (nat_lt v (2 ^ w)) s in
    has-number (has-padded v w W (bit_at v) l (record { lt = ltb-true v (2 ^ w) p.1; each = λ i z. refl })))

pub read-form : (sig at w W : ℕ) → Values (e.Read sig at w) W 0
read-form sig at w W = finish _ W 0 _ _ (kept_of-Read sig at w) (expr_of-Read sig at w) (λ s l k t. has-number (has-zero (padded w (λ i. false)) W (λ i. and-false (nat_lt i w))))

pub at-form : (sig : ℕ) (a : Box FExpr Global) (w W : ℕ) → Values (e.At sig a w) W 0
at-form sig a w W = finish _ W 0 _ _ (kept_of-At sig a w) (expr_of-At sig a w) (λ s l k t. has-number (has-zero (padded 1 (λ i. false)) W (λ i. and-false (nat_lt i 1))))

-- ---- operators

record UnaryFits (op : f.UnaryOp) (W m : ℕ) : Type 0 where
  pub room : m ≤ unary_at op W m
  pub small : unary_at op W m ≤ 64
  pub same : unary_at op W (unary_at op W m) ≡ unary_at op W m

unary-fits : (op : f.UnaryOp) (W m : ℕ) → f.unary_size op m ≤ W → m ≤ 64 → W ≤ 64 → UnaryFits op W m
unary-fits f.complement W m h k l = record { room = h; small = l; same = refl }
unary-fits f.logical_not W m h k l = record { room = omega arith; small = k; same = refl }
unary-fits f.reduce_and W m h k l = record { room = omega arith; small = k; same = refl }
unary-fits f.reduce_or W m h k l = record { room = omega arith; small = k; same = refl }
unary-fits f.reduce_xor W m h k l = record { room = omega arith; small = k; same = refl }
unary-fits f.reduce_nand W m h k l = record { room = omega arith; small = k; same = refl }
unary-fits f.reduce_nor W m h k l = record { room = omega arith; small = k; same = refl }
unary-fits f.reduce_xnor W m h k l = record { room = omega arith; small = k; same = refl }

pub unary-form : (op : FUnaryOp) (a : Box FExpr Global) (w W at r ra : ℕ) → Values a.value at ra → at ≡ unary_at (unary_of op) W (kept_of a.value).width
    → ((g : Word) (whole : ℕ) → at ≤ 64 → 1 ≤ whole → unary_at (unary_of op) whole at ≡ at → ra ≡ number g at → r ≡ number (unary (unary_of op) at g) whole) → Values (e.Unary op a w) W r
unary-form op a w W at r ra va ea u = finish _ W r _ _ (kept_of-Unary op a w) (expr_of-Unary op a w) (λ s l k t.
    let o = unary_of op in
    let m = (kept_of a.value).width in
    let p = and_parts (w == f.unary_size o m) (is_sized a.value) s in
    let z = eqb-true w (f.unary_size o m) p.0 in
    let fits = unary-fits o W m (subst (λ n. n ≤ W) z l) (sized_range a.value p.1).most t in
    let small : at ≤ 64 = subst (λ n. n ≤ 64) (sym ea) fits.small in
    let room : m ≤ at = subst (λ n. m ≤ n) (sym ea) fits.room in
    let some = k.some in
    let same : at ≡ unary_at o W (f.size (expr_of a.value)) = ea ∙ ap (unary_at o W) (sized_width a.value p.1) in
    u (value nothing (expr_of a.value) at) W small (omega arith) (ap (unary_at o W) ea ∙ fits.same ∙ sym ea) (va p.1 room small).0
    ∙ ap (λ n. number (unary o n (value nothing (expr_of a.value) n)) W) same)

record BinaryFits (op : f.BinaryOp) (W m n : ℕ) : Type 0 where
  pub left : m ≤ left_at op W m n
  pub right : n ≤ right_at op W m n
  pub left-small : left_at op W m n ≤ 64
  pub right-small : right_at op W m n ≤ 64
  pub left-same : left_at op W (left_at op W m n) (right_at op W m n) ≡ left_at op W m n
  pub right-same : right_at op W (left_at op W m n) (right_at op W m n) ≡ right_at op W m n

module _ (W m n : ℕ) (k : m ≤ 64) (j : n ≤ 64) (t : W ≤ 64) where
  binary-fits : (op : f.BinaryOp) → f.binary_size op m n ≤ W → BinaryFits op W m n
  binary-fits f.times h = record { left = omega arith; right = omega arith; left-small = t; right-small = t; left-same = refl; right-same = refl }
  binary-fits f.divided h = record { left = omega arith; right = omega arith; left-small = t; right-small = t; left-same = refl; right-same = refl }
  binary-fits f.remainder h = record { left = omega arith; right = omega arith; left-small = t; right-small = t; left-same = refl; right-same = refl }
  binary-fits f.plus h = record { left = omega arith; right = omega arith; left-small = t; right-small = t; left-same = refl; right-same = refl }
  binary-fits f.minus h = record { left = omega arith; right = omega arith; left-small = t; right-small = t; left-same = refl; right-same = refl }
  binary-fits f.bitwise_and h = record { left = omega arith; right = omega arith; left-small = t; right-small = t; left-same = refl; right-same = refl }
  binary-fits f.bitwise_or h = record { left = omega arith; right = omega arith; left-small = t; right-small = t; left-same = refl; right-same = refl }
  binary-fits f.bitwise_xor h = record { left = omega arith; right = omega arith; left-small = t; right-small = t; left-same = refl; right-same = refl }
  binary-fits f.bitwise_xnor h = record { left = omega arith; right = omega arith; left-small = t; right-small = t; left-same = refl; right-same = refl }
  binary-fits f.shift_left h = record { left = h; right = omega arith; left-small = t; right-small = j; left-same = refl; right-same = refl }
  binary-fits f.shift_right h = record { left = h; right = omega arith; left-small = t; right-small = j; left-same = refl; right-same = refl }
  binary-fits f.is_less h = record { left = omega arith; right = omega arith; left-small = omega arith; right-small = omega arith; left-same = omega arith; right-same = omega arith }
  binary-fits f.is_at_most h = record { left = omega arith; right = omega arith; left-small = omega arith; right-small = omega arith; left-same = omega arith; right-same = omega arith }
  binary-fits f.is_greater h = record { left = omega arith; right = omega arith; left-small = omega arith; right-small = omega arith; left-same = omega arith; right-same = omega arith }
  binary-fits f.is_at_least h = record { left = omega arith; right = omega arith; left-small = omega arith; right-small = omega arith; left-same = omega arith; right-same = omega arith }
  binary-fits f.is_equal h = record { left = omega arith; right = omega arith; left-small = omega arith; right-small = omega arith; left-same = omega arith; right-same = omega arith }
  binary-fits f.is_unequal h = record { left = omega arith; right = omega arith; left-small = omega arith; right-small = omega arith; left-same = omega arith; right-same = omega arith }
  binary-fits f.logical_and h = record { left = omega arith; right = omega arith; left-small = k; right-small = j; left-same = refl; right-same = refl }
  binary-fits f.logical_or h = record { left = omega arith; right = omega arith; left-small = k; right-small = j; left-same = refl; right-same = refl }

pub binary-form : (op : BinaryOp) (a b : Box FExpr Global) (w W left right r ra rb : ℕ) → Values a.value left ra → Values b.value right rb
    → left ≡ left_at (binary_of op) W (kept_of a.value).width (kept_of b.value).width → right ≡ right_at (binary_of op) W (kept_of a.value).width (kept_of b.value).width
    → ((g h : Word) (m n : ℕ) → 1 ≤ W → W ≤ 64 → left_at (binary_of op) W m n ≡ m → right_at (binary_of op) W m n ≡ n → ra ≡ number g m → rb ≡ number h n → r ≡ number (binary (binary_of op) m n g h) W)
    → Values (e.Binary op a b w) W r
binary-form op a b w W left right r ra rb va vb ea eb u = finish _ W r _ _ (kept_of-Binary op a b w) (expr_of-Binary op a b w) (λ s l k t.
    let o = binary_of op in
    let m = (kept_of a.value).width in
    let n = (kept_of b.value).width in
    let p = and_parts (w == f.binary_size o m n) (is_sized a.value && is_sized b.value) s in
    let q = and_parts (is_sized a.value) (is_sized b.value) p.1 in
    let z = eqb-true w (f.binary_size o m n) p.0 in
    let fits = binary-fits W m n (sized_range a.value q.0).most (sized_range b.value q.1).most t o (subst (λ n. n ≤ W) z l) in
    let some = k.some in
    let x = va q.0 (subst (λ k. m ≤ k) (sym ea) fits.left) (subst (λ k. k ≤ 64) (sym ea) fits.left-small) in
    let y = vb q.1 (subst (λ k. n ≤ k) (sym eb) fits.right) (subst (λ k. k ≤ 64) (sym eb) fits.right-small) in
    let i = sized_width a.value q.0 in
    let j = sized_width b.value q.1 in
    u (value nothing (expr_of a.value) left) (value nothing (expr_of b.value) right) left right (omega arith) t
    (ap₂ (left_at o W) ea eb ∙ fits.left-same ∙ sym ea) (ap₂ (right_at o W) ea eb ∙ fits.right-same ∙ sym eb) x.0 y.0
    ∙ ap₂ (λ c d. number (binary o c d (value nothing (expr_of a.value) c) (value nothing (expr_of b.value) d)) W) (ea ∙ ap₂ (left_at o W) i j) (eb ∙ ap₂ (right_at o W) i j))

-- ---- choices

chosen : (c : f.Expr) (w rc : ℕ) → w ≡ f.size c → rc ≡ number (value nothing c w) w → any_below (value nothing c (f.size c)) (f.size c) ≡ not (rc == 0)
chosen c w rc e h = any-bit (value nothing c (f.size c)) (f.size c) ∙ ap (λ n. not (n == 0)) (ap (λ k. number (value nothing c k) k) (sym e) ∙ sym h)

pub choose-form : (b : Bool) (c x y : Box FExpr Global) (w W wc r rc : ℕ) → wc ≡ (kept_of c.value).width → Values c.value wc rc → not (rc == 0) ≡ b → (b ≡ true → Values x.value W r) → (b ≡ false → Values y.value W r)
    → Values (e.Choose c x y w) W r
choose-form b c x y w W wc r rc ec vc is vx vy = finish _ W r _ _ (kept_of-Choose c x y w) (expr_of-Choose c x y w) (λ s l k t.
    let p = and_parts (w == max (kept_of x.value).width (kept_of y.value).width) (is_sized c.value && (is_sized x.value && is_sized y.value)) s in
    let q = and_parts (is_sized c.value) (is_sized x.value && is_sized y.value) p.1 in
    let o = and_parts (is_sized x.value) (is_sized y.value) q.1 in
    let z = eqb-true w (max (kept_of x.value).width (kept_of y.value).width) p.0 in
    let cw = sized_range c.value q.0 in
    let rcs = (vc q.0 (subst (λ n. (kept_of c.value).width ≤ n) (sym ec) (let le : (kept_of c.value).width ≤ (kept_of c.value).width = omega arith in le)) (subst (λ n. n ≤ 64) (sym ec) cw.most)).0 in
    let tests = chosen (expr_of c.value) wc rc (ec ∙ sized_width c.value q.0) rcs ∙ is in
    let go : (d : Bool) → b ≡ d → r ≡ number (λ i. cond d (value nothing (expr_of x.value) W i) (value nothing (expr_of y.value) W i)) W = λ d.
    elim d as (λ d. b ≡ d → r ≡ number (λ i. cond d (value nothing (expr_of x.value) W i) (value nothing (expr_of y.value) W i)) W)
    [ true ↦ λ h. (vx h o.0 (omega arith) t).0 | false ↦ λ h. (vy h o.1 (omega arith) t).0 ] in
    go b refl ∙ ap (λ d. number (λ i. cond d (value nothing (expr_of x.value) W i) (value nothing (expr_of y.value) W i)) W) (sym tests))

-- ---- lists of expressions

pub gate-form : (op : BinaryOp) (inputs : List FExpr) (W r : ℕ)
    → (all_right (map kept_of inputs) ≡ true → all_bits (map kept_of inputs) ≡ true → 1 ≤ W → W ≤ 64 → r ≡ number (gated nothing (binary_of op) W (these inputs)) W) → Values (e.Gate op inputs) W r
gate-form op inputs W r g = finish _ W r _ _ (kept_of-Gate op inputs) (expr_of-Gate op inputs) (λ s l k t.
    let p = and_parts (is_some_list (map kept_of inputs)) (all_bits (map kept_of inputs) && all_right (map kept_of inputs)) s in
    let q = and_parts (all_bits (map kept_of inputs)) (all_right (map kept_of inputs)) p.1 in
    g q.1 q.0 l t)

pub join-form : (parts : List FExpr) (w W r : ℕ)
    → (all_right (map kept_of parts) ≡ true → sum (map kept_of parts) ≤ 64 → r ≡ number (joined nothing (these parts)) (f.sizes (these parts))) → Values (e.Join parts w) W r
join-form parts w W r g = finish _ W r _ _ (kept_of-Join parts w) (expr_of-Join parts w) (λ s l k t.
    let ks = map kept_of parts in
    let p = and_parts (w == sum ks) (is_word w && all_right ks) s in
    let q = and_parts (is_word w) (all_right ks) p.1 in
    let z = eqb-true w (sum ks) p.0 in
    let y = parts_width parts q.1 in
    let room : f.sizes (these parts) ≤ W = omega arith in
    let most = k.most in
    g q.1 (omega arith) ∙ has-number (has-padded _ (f.sizes (these parts)) W (joined nothing (these parts)) room (number-has (joined nothing (these parts)) (f.sizes (these parts)))))

pub repeat-form : (count : ℕ) (parts : List FExpr) (w W r rj once : ℕ)
    → (all_right (map kept_of parts) ≡ true → sum (map kept_of parts) ≤ 64 → rj ≡ number (joined nothing (these parts)) (f.sizes (these parts)))
    → (sum (map kept_of parts) < 2 ^ 64 → once ≡ sum (map kept_of parts))
    → ((g : Word) → count * once ≤ 64 → rj ≡ number g once → r ≡ number (copies count once g) (count * once)) → Values (e.Repeat count parts w) W r
repeat-form count parts w W r rj once j o g = finish _ W r _ _ (kept_of-Repeat count parts w) (expr_of-Repeat count parts w) (λ s l k t.
    let ks = map kept_of parts in
    let p = and_parts (w == count * sum ks) (is_word w && all_right ks) s in
    let q = and_parts (is_word w) (all_right ks) p.1 in
    let z = eqb-true w (count * sum ks) p.0 in
    let y = parts_width parts q.1 in
    let most = k.most in
    let some = k.some in
    let small : sum ks ≤ 64 = part-small count (sum ks) w z some most in
    let on : once ≡ f.sizes (these parts) = o (let big : 64 < 2 ^ 64 = omega arith in omega arith) ∙ y in
    let n = f.sizes (these parts) in
    let room : count * n ≤ W = subst (λ k. count * k ≤ W) y (omega arith) in
    let fine : count * once ≤ 64 = subst (λ k. count * k ≤ 64) (sym on) (subst (λ k. count * k ≤ 64) y (omega arith)) in
    g (joined nothing (these parts)) fine (j q.1 small ∙ ap (number (joined nothing (these parts))) (sym on))
    ∙ ap (λ k. number (copies count k (joined nothing (these parts))) (count * k)) on
    ∙ has-number (has-padded _ (count * n) W (copies count n (joined nothing (these parts))) room (number-has (copies count n (joined nothing (these parts))) (count * n))))
  where
    part-small : (c m w : ℕ) → w ≡ c * m → 1 ≤ w → w ≤ 64 → m ≤ 64
    part-small zero m w e h k = absurd (let y = zero-mul m in omega arith)
    part-small (suc c) m w e h k = let y = suc-mul c m in omega arith
