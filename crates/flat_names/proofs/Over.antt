-- A unary expression over another one, by its operator or as a difference from 0.
use Rattle.std.proofs.Common.{◌≡◌, ℕ, ◌^◌, max, Bool, true, false, ◌&&◌, Some, None, refl, sym, ap, ap₂, ◌∙◌, arith, lt-ltb, pow_pos}
use Rattle.std.specs.Option.{option_map_or}
use Rattle.verilog_ast.specs.declared.UnaryOp.{UnaryOp}
use Rattle.flat_meaning.specs.Flat.{Number, Unary, Binary, minus, unary_size}
use Rattle.flat_meaning.specs.Law.{expr_reads}
use Rattle.flat_form.specs.declared.flat.FExpr.{FExpr}
use Rattle.flat_form.specs.declared.flat.FExpr.TheVariants as f
use Rattle.flat_form.specs.declared.flat.FUnaryOp.{FUnaryOp}
use Rattle.flat_form.specs.View.{expr_of, unary_of}
use Rattle.flat_form.specs.Sizes.{Kept, kept_of, is_sized}
use Rattle.flat_form.proofs.Folds.{expr_of-Number, kept_of-Number}
use Rattle.flat_form.proofs.Sized.{sized_width, sized_word}
use Rattle.flat_unfolding.specs.Constants.{plain_unary}
use Rattle.flat_unfolding.specs.Expressions.{unary_expr}
use Rattle.flat_names.specs.Pieces.{Makes, IsOver}

abbrev kept : ℕ → Bool → Kept
kept w r = record { width = w; right = r }

pub over-plain : (op : UnaryOp) (o : FUnaryOp) (a : FExpr) → plain_unary op ≡ Some o → (e : FExpr) → Makes e (Unary (unary_of o) (expr_of a)) (kept (unary_size (unary_of o) (kept_of a).width) (is_sized a)) → IsOver op a e
over-plain op o a h e m = record {
  expr = λ s. m.expr ∙ ap (λ x. unary_expr x (expr_of a)) (sym h);
  kept = m.kept ∙ ap (λ x. kept (option_map_or (λ f. unary_size (unary_of f) (kept_of a).width) x (kept_of a).width) (is_sized a)) (sym h);
  reads = λ wid s i. ap (λ x. expr_reads wid x s i) m.expr;
}

pub over-opposite : (op : UnaryOp) (a : FExpr) → plain_unary op ≡ None → (e : FExpr) → Makes e (Binary minus (Number (kept_of a).width 0) (expr_of a)) (kept (kept_of a).width (is_sized a)) → IsOver op a e
over-opposite op a h e m = record {
  expr = λ s. m.expr ∙ ap (λ w. Binary minus (Number w 0) (expr_of a)) (sized_width a s) ∙ ap (λ x. unary_expr x (expr_of a)) (sym h);
  kept = m.kept ∙ ap (λ x. kept (option_map_or (λ f. unary_size (unary_of f) (kept_of a).width) x (kept_of a).width) (is_sized a)) (sym h);
  reads = λ wid s i. ap (λ x. expr_reads wid x s i) m.expr;
}

-- the 0 is sized where the operand is
zero-sized : (a : FExpr) → (is_sized (f.Number 0 (kept_of a).width) && is_sized a) ≡ is_sized a
zero-sized a = go (is_sized a) refl
  where
    zero_right : is_sized a ≡ true → is_sized (f.Number 0 (kept_of a).width) ≡ true
    zero_right e = ap (λ (k : Kept). k.right) (kept_of-Number 0 (kept_of a).width) ∙ ap₂ (λ x y. x && y) (sized_word a e) (lt-ltb 0 (2 ^ (kept_of a).width) (pow_pos (kept_of a).width))

    and-none : (b : Bool) → (b && false) ≡ false
    and-none true = refl
    and-none false = refl

    go : (b : Bool) → is_sized a ≡ b → (is_sized (f.Number 0 (kept_of a).width) && b) ≡ b
    go true e = ap (λ x. x && true) (zero_right e)
    go false e = and-none (is_sized (f.Number 0 (kept_of a).width))

max-same : (n : ℕ) → max n n ≡ n
max-same n = omega arith

pub makes-opposite : (a : FExpr) (w : ℕ) → w ≡ (kept_of a).width → (e : FExpr)
    → Makes e (Binary minus (expr_of (f.Number 0 w)) (expr_of a)) (kept (max (kept_of (f.Number 0 w)).width (kept_of a).width) (is_sized (f.Number 0 w) && is_sized a))
    → Makes e (Binary minus (Number (kept_of a).width 0) (expr_of a)) (kept (kept_of a).width (is_sized a))
makes-opposite a w h e m = let v = (kept_of a).width in record {
  expr = m.expr ∙ ap (λ x. Binary minus x (expr_of a)) (expr_of-Number 0 w ∙ ap (λ n. Number n 0) h);
  kept = m.kept ∙ ap (λ n. kept (max (kept_of (f.Number 0 n)).width v) (is_sized (f.Number 0 n) && is_sized a)) h
      ∙ ap₂ kept (ap (λ (k : Kept). max k.width v) (kept_of-Number 0 v) ∙ max-same v) (zero-sized a);
}
