-- A choice that is put around or taken off, and copies form by form.
use Rattle.std.proofs.Common.{◌≡◌, ℕ, ◌*◌, ◌&&◌, ◌==◌, List, [], ◌∷◌, ◌++◌, map, Box, Global, refl, sym, ap, ap₂, ◌∙◌}
use Rattle.flat_form.specs.declared.flat.FUnaryOp.{FUnaryOp}
use Rattle.verilog_ast.specs.declared.BinaryOp.{BinaryOp}
use Rattle.flat_form.specs.declared.flat.FExpr.{FExpr}
use Rattle.flat_form.specs.declared.flat.FExpr.TheVariants as e
use Rattle.flat_form.specs.declared.copy.Choice.{Choice}
use Rattle.flat_meaning.specs.Flat as f
use Rattle.flat_form.specs.View.{unary_of, binary_of, exprs_of, expr_of}
use Rattle.flat_form.specs.Sizes.{Kept, is_word, kept_of, sum, all_right, all_bits, is_some_list}
use Rattle.flat_form.specs.Copies.{wrapped, kept_choice, kept_wrapped}
use Rattle.flat_form.proofs.Folds.{expr_of-At, kept_of-At, expr_of-Unary, kept_of-Unary, expr_of-Binary, kept_of-Binary, expr_of-Choose, kept_of-Choose, expr_of-Gate, kept_of-Gate, expr_of-Join, kept_of-Join, expr_of-Repeat, kept_of-Repeat}

pub wrapped_push : (cs : List Choice) (c : Choice) (e : f.Expr) → wrapped (cs ++ c ∷ []) e ≡ wrapped cs (f.Choose (expr_of c.cond) (expr_of c.yes) e)
wrapped_push [] c e = refl
wrapped_push (d ∷ cs) c e = ap (λ x. f.Choose (expr_of d.cond) (expr_of d.yes) x) (wrapped_push cs c e)

pub kept_push : (cs : List Choice) (c : Choice) (k : Kept) → kept_wrapped (cs ++ c ∷ []) k ≡ kept_wrapped cs (kept_choice c.width (kept_of c.cond) (kept_of c.yes) k)
kept_push [] c k = refl
kept_push (d ∷ cs) c k = ap (λ x. kept_choice d.width (kept_of d.cond) (kept_of d.yes) x) (kept_push cs c k)

module _ (cs : List Choice) (c : Choice) (x y z : Box FExpr Global) (other : FExpr) where
  pub same-around : expr_of x.value ≡ expr_of c.cond → expr_of y.value ≡ expr_of c.yes → expr_of z.value ≡ expr_of other
      → wrapped cs (expr_of (e.Choose x y z c.width)) ≡ wrapped (cs ++ c ∷ []) (expr_of other)
  same-around hx hy hz = ap (wrapped cs) (expr_of-Choose x y z c.width ∙ (λ j. f.Choose (hx j) (hy j) (hz j))) ∙ sym (wrapped_push cs c (expr_of other))

  pub kept-around : kept_of x.value ≡ kept_of c.cond → kept_of y.value ≡ kept_of c.yes → kept_of z.value ≡ kept_of other
      → kept_wrapped cs (kept_of (e.Choose x y z c.width)) ≡ kept_wrapped (cs ++ c ∷ []) (kept_of other)
  kept-around hx hy hz = ap (kept_wrapped cs) (kept_of-Choose x y z c.width ∙ (λ j. kept_choice c.width (hx j) (hy j) (hz j))) ∙ sym (kept_push cs c (kept_of other))

-- the same expression with the same widths, in other boxes
abbrev pub AreSame : FExpr → FExpr → Type 0
AreSame x y = (expr_of x ≡ expr_of y) × (kept_of x ≡ kept_of y)

abbrev pub AreAllSame : List FExpr → List FExpr → Type 0
AreAllSame xs ys = (map expr_of xs ≡ map expr_of ys) × (map kept_of xs ≡ map kept_of ys)

-- what is boxed is a copy of what the other box has
pub boxed-same : (x y : Box FExpr Global) (copied from : FExpr) → x.value ≡ copied → expr_of copied ≡ expr_of from → kept_of copied ≡ kept_of from → from ≡ y.value → AreSame x.value y.value
boxed-same x y copied from hx he hk hy = (ap expr_of hx ∙ he ∙ ap expr_of hy, ap kept_of hx ∙ hk ∙ ap kept_of hy)

pub listed-same : (xs ys from : List FExpr) → map expr_of xs ≡ map expr_of from → map kept_of xs ≡ map kept_of from → from ≡ ys → AreAllSame xs ys
listed-same xs ys from he hk hy = (he ∙ ap (map expr_of) hy, hk ∙ ap (map kept_of) hy)

pub form-same : (x y x' y' : FExpr) → x ≡ x' → AreSame x' y' → y ≡ y' → AreSame x y
form-same x y x' y' hx h hy = (ap expr_of hx ∙ h.0 ∙ sym (ap expr_of hy), ap kept_of hx ∙ h.1 ∙ sym (ap kept_of hy))

pub at-same : (sig : ℕ) (x y : Box FExpr Global) (w : ℕ) → AreSame x.value y.value → AreSame (e.At sig x w) (e.At sig y w)
at-same sig x y w h = (
  expr_of-At sig x w ∙ ap (λ z. f.At sig z) h.0 ∙ sym (expr_of-At sig y w),
  kept_of-At sig x w ∙ ap (λ (k : Kept). let z : Kept = record { width = w; right = (w == 1) && k.right } in z) h.1 ∙ sym (kept_of-At sig y w),
)

pub unary-same : (op : FUnaryOp) (x y : Box FExpr Global) (w : ℕ) → AreSame x.value y.value → AreSame (e.Unary op x w) (e.Unary op y w)
unary-same op x y w h = (
  expr_of-Unary op x w ∙ ap (λ z. f.Unary (unary_of op) z) h.0 ∙ sym (expr_of-Unary op y w),
  kept_of-Unary op x w ∙ ap (λ (k : Kept). let z : Kept = record { width = w; right = (w == f.unary_size (unary_of op) k.width) && k.right } in z) h.1 ∙ sym (kept_of-Unary op y w),
)

pub binary-same : (op : BinaryOp) (x y x' y' : Box FExpr Global) (w : ℕ) → AreSame x.value x'.value → AreSame y.value y'.value → AreSame (e.Binary op x y w) (e.Binary op x' y' w)
binary-same op x y x' y' w h k = (
  expr_of-Binary op x y w ∙ (λ j. f.Binary (binary_of op) (h.0 j) (k.0 j)) ∙ sym (expr_of-Binary op x' y' w),
  kept_of-Binary op x y w
      ∙ ap₂ (λ (a b : Kept). let z : Kept = record { width = w; right = (w == f.binary_size (binary_of op) a.width b.width) && (a.right && b.right) } in z) h.1 k.1
      ∙ sym (kept_of-Binary op x' y' w),
)

pub gate-same : (op : BinaryOp) (xs ys : List FExpr) → AreAllSame xs ys → AreSame (e.Gate op xs) (e.Gate op ys)
gate-same op xs ys h = (
  expr_of-Gate op xs ∙ ap (λ es. f.Gate (binary_of op) (exprs_of es)) h.0 ∙ sym (expr_of-Gate op ys),
  kept_of-Gate op xs ∙ ap (λ (ks : List Kept). let z : Kept = record { width = 1; right = is_some_list ks && (all_bits ks && all_right ks) } in z) h.1 ∙ sym (kept_of-Gate op ys),
)

pub join-same : (xs ys : List FExpr) (w : ℕ) → AreAllSame xs ys → AreSame (e.Join xs w) (e.Join ys w)
join-same xs ys w h = (
  expr_of-Join xs w ∙ ap (λ es. f.Join (exprs_of es)) h.0 ∙ sym (expr_of-Join ys w),
  kept_of-Join xs w ∙ ap (λ (ks : List Kept). let z : Kept = record { width = w; right = (w == sum ks) && (is_word w && all_right ks) } in z) h.1 ∙ sym (kept_of-Join ys w),
)

pub repeat-same : (n : ℕ) (xs ys : List FExpr) (w : ℕ) → AreAllSame xs ys → AreSame (e.Repeat n xs w) (e.Repeat n ys w)
repeat-same n xs ys w h = (
  expr_of-Repeat n xs w ∙ ap (λ es. f.Repeat n (exprs_of es)) h.0 ∙ sym (expr_of-Repeat n ys w),
  kept_of-Repeat n xs w ∙ ap (λ (ks : List Kept). let z : Kept = record { width = w; right = (w == n * sum ks) && (is_word w && all_right ks) } in z) h.1 ∙ sym (kept_of-Repeat n ys w),
)
