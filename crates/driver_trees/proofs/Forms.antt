-- The forms of expressions, one level down: what is read, and the sizes at which operands are evaluated.
use Rattle.std.proofs.Common.{◌≡◌, ℕ, zero, suc, ◌+◌, ◌*◌, ◌^◌, ◌<◌, ◌≤◌, max, Bool, true, false, ◌&&◌, ◌==◌, nat_lt, nat_le, List, [], ◌∷◌, map, Box, Global, refl, sym, ap, subst, ◌∙◌, arith, ltb-true, eqb-true}
use Rattle.std.proofs.lemmas.Bool.{and_parts}
use Rattle.std.proofs.lemmas.Nat.{pow_pos}
use Rattle.flat_form.specs.declared.flat.FUnaryOp.{FUnaryOp}
use Rattle.verilog_ast.specs.declared.BinaryOp.{BinaryOp}
use Rattle.flat_form.specs.declared.flat.FExpr.{FExpr}
use Rattle.flat_form.specs.declared.flat.FExpr.TheVariants as e
use Rattle.flat_form.specs.View.{unary_of, binary_of, expr_of, exprs_of}
use Rattle.flat_form.specs.Sizes.{Kept, is_word, kept_of, is_sized, sum, all_right, all_bits, is_some_list}
use Rattle.flat_form.proofs.Folds.{expr_of-Number, kept_of-Number, expr_of-Read, kept_of-Read, expr_of-At, kept_of-At, expr_of-Unary, kept_of-Unary, expr_of-Binary, kept_of-Binary, expr_of-Choose, kept_of-Choose, expr_of-Gate, kept_of-Gate, expr_of-Join, kept_of-Join, expr_of-Repeat, kept_of-Repeat}
use Rattle.flat_form.proofs.Sized.{IsWidth, word_width, sized_width, sized_range}
use Rattle.flat_meaning.specs.Flat as f
use Rattle.flat_meaning.specs.Fits.{Fits, AllFit, is_gate}
use Rattle.flat_meaning.specs.Meaning.{unary_at, left_at, right_at}
use Rattle.driver_trees.specs.Presents.{IsWithin, IsRead, AreRead}

-- ---- sizes

pub size-range : (wid : ℕ → ℕ) (x : FExpr) → IsRead wid x → IsWidth (f.size (expr_of x))
size-range wid x is = subst IsWidth (sized_width x is.sized) (sized_range x is.sized)

pub unary-fits : (op : f.UnaryOp) (W n : ℕ) → f.unary_size op n ≤ W → n ≤ 64 → W ≤ 64 → (n ≤ unary_at op W n) × (unary_at op W n ≤ 64)
unary-fits f.complement W n h a b = (h, b)
unary-fits f.logical_not W n h a b = ((omega arith), a)
unary-fits f.reduce_and W n h a b = ((omega arith), a)
unary-fits f.reduce_or W n h a b = ((omega arith), a)
unary-fits f.reduce_xor W n h a b = ((omega arith), a)
unary-fits f.reduce_nand W n h a b = ((omega arith), a)
unary-fits f.reduce_nor W n h a b = ((omega arith), a)
unary-fits f.reduce_xnor W n h a b = ((omega arith), a)

pub binary-fits : (op : f.BinaryOp) (W m n : ℕ) → f.binary_size op m n ≤ W → m ≤ 64 → n ≤ 64 → W ≤ 64 → (m ≤ left_at op W m n) × (left_at op W m n ≤ 64) × (n ≤ right_at op W m n) × (right_at op W m n ≤ 64)
binary-fits f.times W m n h a b c = ((omega arith), c, (omega arith), c)
binary-fits f.divided W m n h a b c = ((omega arith), c, (omega arith), c)
binary-fits f.remainder W m n h a b c = ((omega arith), c, (omega arith), c)
binary-fits f.plus W m n h a b c = ((omega arith), c, (omega arith), c)
binary-fits f.minus W m n h a b c = ((omega arith), c, (omega arith), c)
binary-fits f.shift_left W m n h a b c = (h, c, (omega arith), b)
binary-fits f.shift_right W m n h a b c = (h, c, (omega arith), b)
binary-fits f.is_less W m n h a b c = ((omega arith), (omega arith), (omega arith), (omega arith))
binary-fits f.is_at_most W m n h a b c = ((omega arith), (omega arith), (omega arith), (omega arith))
binary-fits f.is_greater W m n h a b c = ((omega arith), (omega arith), (omega arith), (omega arith))
binary-fits f.is_at_least W m n h a b c = ((omega arith), (omega arith), (omega arith), (omega arith))
binary-fits f.is_equal W m n h a b c = ((omega arith), (omega arith), (omega arith), (omega arith))
binary-fits f.is_unequal W m n h a b c = ((omega arith), (omega arith), (omega arith), (omega arith))
binary-fits f.bitwise_and W m n h a b c = ((omega arith), c, (omega arith), c)
binary-fits f.bitwise_or W m n h a b c = ((omega arith), c, (omega arith), c)
binary-fits f.bitwise_xor W m n h a b c = ((omega arith), c, (omega arith), c)
binary-fits f.bitwise_xnor W m n h a b c = ((omega arith), c, (omega arith), c)
binary-fits f.logical_and W m n h a b c = ((omega arith), a, (omega arith), b)
binary-fits f.logical_or W m n h a b c = ((omega arith), a, (omega arith), b)

pub gate-sizes : (op : f.BinaryOp) → is_gate op ≡ true → (W m n : ℕ) → (left_at op W m n ≡ W) × (right_at op W m n ≡ W)
gate-sizes f.times g W m n = cc
gate-sizes f.divided g W m n = cc
gate-sizes f.remainder g W m n = cc
gate-sizes f.plus g W m n = cc
gate-sizes f.minus g W m n = cc
gate-sizes f.shift_left g W m n = cc
gate-sizes f.shift_right g W m n = cc
gate-sizes f.is_less g W m n = cc
gate-sizes f.is_at_most g W m n = cc
gate-sizes f.is_greater g W m n = cc
gate-sizes f.is_at_least g W m n = cc
gate-sizes f.is_equal g W m n = cc
gate-sizes f.is_unequal g W m n = cc
gate-sizes f.bitwise_and g W m n = (refl, refl)
gate-sizes f.bitwise_or g W m n = (refl, refl)
gate-sizes f.bitwise_xor g W m n = (refl, refl)
gate-sizes f.bitwise_xnor g W m n = cc
gate-sizes f.logical_and g W m n = cc
gate-sizes f.logical_or g W m n = cc

pub factors : (m n : ℕ) → 1 ≤ m * n → (1 ≤ m) × (1 ≤ n)
factors zero n h = let e : 0 * n ≡ 0 = omega arith in absurd (omega arith)
factors (suc m) zero h = let e : suc m * 0 ≡ 0 = omega arith in absurd (omega arith)
factors (suc m) (suc n) h = ((omega arith), (omega arith))

-- ---- forms

abbrev right : Kept → Bool
right k = k.right

module _ (wid : ℕ → ℕ) (x : FExpr) (is : IsRead wid x) where
  -- what the kept width says, and what fits
  sized : (k : Kept) → kept_of x ≡ k → k.right ≡ true
  sized k h = sym (ap right h) ∙ is.sized

  fits : (z : f.Expr) → expr_of x ≡ z → Fits wid (IsWithin wid) z
  fits z h = subst (Fits wid (IsWithin wid)) h is.fits

  pub of-Number : (value width : ℕ) → x ≡ e.Number value width → (expr_of x ≡ f.Number width value) × (1 ≤ width) × (width ≤ 64) × (value < 2 ^ width)
  of-Number value width h =
      let k = sized _ (ap kept_of h ∙ kept_of-Number value width) in
      let p = and_parts (is_word width) (nat_lt value (2 ^ width)) k in
      let w = word_width width p.0 in
      (ap expr_of h ∙ expr_of-Number value width, w.some, w.most, ltb-true value (2 ^ width) p.1)

  pub of-Read : (sig at width : ℕ) → x ≡ e.Read sig at width → (expr_of x ≡ f.Read sig at width) × (1 ≤ width) × (at + width ≤ wid sig)
  of-Read sig at width h =
      let k = sized _ (ap kept_of h ∙ kept_of-Read sig at width) in
      let g : expr_of x ≡ f.Read sig at width = ap expr_of h ∙ expr_of-Read sig at width in
      (g, (word_width width k).some, fits _ g)

  pub of-At : (sig : ℕ) (index : Box FExpr Global) (width : ℕ) (y : FExpr) → x ≡ e.At sig index width → y ≡ index.value → (expr_of x ≡ f.At sig (expr_of y)) × IsRead wid y × (1 ≤ wid sig)
  of-At sig index width y h d =
      let k = sized _ (ap kept_of h ∙ kept_of-At sig index width) in
      let p = and_parts (width == 1) (is_sized index.value) k in
      let g : expr_of x ≡ f.At sig (expr_of y) = ap expr_of h ∙ expr_of-At sig index width ∙ ap (λ z. f.At sig (expr_of z)) (sym d) in
      let t = fits _ g in
      (g, record { sized = ap is_sized d ∙ p.1; fits = t.2 }, (let a = pow_pos (f.size (expr_of y)) in let b = t.1 in omega arith))

  pub of-Unary : (op : FUnaryOp) (a : Box FExpr Global) (width : ℕ) (y : FExpr) → x ≡ e.Unary op a width → y ≡ a.value → (expr_of x ≡ f.Unary (unary_of op) (expr_of y)) × IsRead wid y
  of-Unary op a width y h d =
      let k = sized _ (ap kept_of h ∙ kept_of-Unary op a width) in
      let p = and_parts (width == f.unary_size (unary_of op) (kept_of a.value).width) (is_sized a.value) k in
      let g : expr_of x ≡ f.Unary (unary_of op) (expr_of y) = ap expr_of h ∙ expr_of-Unary op a width ∙ ap (λ z. f.Unary (unary_of op) (expr_of z)) (sym d) in
      (g, record { sized = ap is_sized d ∙ p.1; fits = fits _ g })

  pub of-Binary : (op : BinaryOp) (a b : Box FExpr Global) (width : ℕ) (y z : FExpr) → x ≡ e.Binary op a b width → y ≡ a.value → z ≡ b.value → (expr_of x ≡ f.Binary (binary_of op) (expr_of y) (expr_of z)) × IsRead wid y × IsRead wid z
  of-Binary op a b width y z h d c =
      let k = sized _ (ap kept_of h ∙ kept_of-Binary op a b width) in
      let p = and_parts (width == f.binary_size (binary_of op) (kept_of a.value).width (kept_of b.value).width) (is_sized a.value && is_sized b.value) k in
      let q = and_parts (is_sized a.value) (is_sized b.value) p.1 in
      let g : expr_of x ≡ f.Binary (binary_of op) (expr_of y) (expr_of z) = ap expr_of h ∙ expr_of-Binary op a b width ∙ ap (λ v. f.Binary (binary_of op) (expr_of v) (expr_of b.value)) (sym d) ∙ ap (λ v. f.Binary (binary_of op) (expr_of y) (expr_of v)) (sym c) in
      let t = fits _ g in
      (g, record { sized = ap is_sized d ∙ q.0; fits = t.1 }, record { sized = ap is_sized c ∙ q.1; fits = t.2 })

  pub of-Choose : (i a b : Box FExpr Global) (width : ℕ) (w y z : FExpr) → x ≡ e.Choose i a b width → w ≡ i.value → y ≡ a.value → z ≡ b.value
      → (expr_of x ≡ f.Choose (expr_of w) (expr_of y) (expr_of z)) × IsRead wid w × IsRead wid y × IsRead wid z
  of-Choose i a b width w y z h c d l =
      let k = sized _ (ap kept_of h ∙ kept_of-Choose i a b width) in
      let p = and_parts (width == max (kept_of a.value).width (kept_of b.value).width) (is_sized i.value && (is_sized a.value && is_sized b.value)) k in
      let q = and_parts (is_sized i.value) (is_sized a.value && is_sized b.value) p.1 in
      let r = and_parts (is_sized a.value) (is_sized b.value) q.1 in
      let g : expr_of x ≡ f.Choose (expr_of w) (expr_of y) (expr_of z) = ap expr_of h ∙ expr_of-Choose i a b width ∙ ap (λ v. f.Choose (expr_of v) (expr_of a.value) (expr_of b.value)) (sym c)
      ∙ ap (λ v. f.Choose (expr_of w) (expr_of v) (expr_of b.value)) (sym d) ∙ ap (λ v. f.Choose (expr_of w) (expr_of y) (expr_of v)) (sym l) in
      let t = fits _ g in
      (g, record { sized = ap is_sized c ∙ q.0; fits = t.0 }, record { sized = ap is_sized d ∙ r.0; fits = t.1 }, record { sized = ap is_sized l ∙ r.1; fits = t.2 })

  pub of-Gate : (op : BinaryOp) (inputs ys : List FExpr) → x ≡ e.Gate op inputs → ys ≡ inputs
      → (expr_of x ≡ f.Gate (binary_of op) (exprs_of (map expr_of ys))) × AreRead wid ys × (is_gate (binary_of op) ≡ true) × (f.largest (exprs_of (map expr_of ys)) ≤ 1)
  of-Gate op inputs ys h d =
      let k = sized _ (ap kept_of h ∙ kept_of-Gate op inputs) in
      let p = and_parts (is_some_list (map kept_of inputs)) (all_bits (map kept_of inputs) && all_right (map kept_of inputs)) k in
      let q = and_parts (all_bits (map kept_of inputs)) (all_right (map kept_of inputs)) p.1 in
      let g : expr_of x ≡ f.Gate (binary_of op) (exprs_of (map expr_of ys)) = ap expr_of h ∙ expr_of-Gate op inputs ∙ ap (λ v. f.Gate (binary_of op) (exprs_of (map expr_of v))) (sym d) in
      let t = fits _ g in
      (g, record { sized = ap (λ v. all_right (map kept_of v)) d ∙ q.1; fits = t.2 }, t.0, t.1)

  pub of-Join : (parts ys : List FExpr) (width : ℕ) → x ≡ e.Join parts width → ys ≡ parts → (expr_of x ≡ f.Join (exprs_of (map expr_of ys))) × AreRead wid ys
  of-Join parts ys width h d =
      let k = sized _ (ap kept_of h ∙ kept_of-Join parts width) in
      let p = and_parts (width == sum (map kept_of parts)) (is_word width && all_right (map kept_of parts)) k in
      let q = and_parts (is_word width) (all_right (map kept_of parts)) p.1 in
      let g : expr_of x ≡ f.Join (exprs_of (map expr_of ys)) = ap expr_of h ∙ expr_of-Join parts width ∙ ap (λ v. f.Join (exprs_of (map expr_of v))) (sym d) in
      (g, record { sized = ap (λ v. all_right (map kept_of v)) d ∙ q.1; fits = (fits _ g).1 })

  pub of-Repeat : (count : ℕ) (parts ys : List FExpr) (width : ℕ) → x ≡ e.Repeat count parts width → ys ≡ parts
      → (expr_of x ≡ f.Repeat count (exprs_of (map expr_of ys))) × AreRead wid ys × (f.sizes (exprs_of (map expr_of ys)) ≤ 64)
  of-Repeat count parts ys width h d =
      let k = sized _ (ap kept_of h ∙ kept_of-Repeat count parts width) in
      let p = and_parts (width == count * sum (map kept_of parts)) (is_word width && all_right (map kept_of parts)) k in
      let q = and_parts (is_word width) (all_right (map kept_of parts)) p.1 in
      let g : expr_of x ≡ f.Repeat count (exprs_of (map expr_of ys)) = ap expr_of h ∙ expr_of-Repeat count parts width ∙ ap (λ v. f.Repeat count (exprs_of (map expr_of v))) (sym d) in
      let t = fits _ g in
      (g, record { sized = ap (λ v. all_right (map kept_of v)) d ∙ q.1; fits = t.2 }, t.0)

-- the first of some expressions, and the others
pub first-read : (wid : ℕ → ℕ) (y : FExpr) (ys : List FExpr) → AreRead wid (y ∷ ys) → IsRead wid y × AreRead wid ys
first-read wid y ys is =
    let p = and_parts (is_sized y) (all_right (map kept_of ys)) is.sized in
    (record { sized = p.0; fits = is.fits.0 }, record { sized = p.1; fits = is.fits.1 })
