-- Forms over parts in boxes.
use Rattle.std.proofs.Common.{◌≡◌, ℕ, max, Bool, ◌&&◌, ◌==◌, ap, ap₂, ◌∙◌, Box, Global, eq-eqb}
use Rattle.flat_form.specs.declared.flat.FUnaryOp.{FUnaryOp}
use Rattle.verilog_ast.specs.declared.BinaryOp.{BinaryOp}
use Rattle.flat_meaning.specs.Flat.{Unary, Binary, Choose, unary_size, binary_size}
use Rattle.flat_form.specs.declared.flat.FExpr.{FExpr}
use Rattle.flat_form.specs.declared.flat.FExpr.TheVariants as f
use Rattle.flat_form.specs.View.{expr_of, unary_of, binary_of}
use Rattle.flat_form.specs.Sizes.{Kept, kept_of, is_sized}
use Rattle.flat_form.proofs.Folds.{expr_of-Unary, kept_of-Unary, expr_of-Binary, kept_of-Binary, expr_of-Choose, kept_of-Choose}
use Rattle.flat_names.specs.Pieces.{Makes}

-- a width that is the size, and what else is right
abbrev with_right : ℕ → Bool → Kept
with_right w r = record { width = w; right = r }

pub makes-unary : (op : FUnaryOp) (a : FExpr) (p : Box FExpr Global) (w : ℕ) → p.value ≡ a → w ≡ unary_size (unary_of op) (kept_of a).width
    → Makes (f.Unary op p w) (Unary (unary_of op) (expr_of a)) (with_right w (is_sized a))
makes-unary op a p w e h = record {
  expr = expr_of-Unary op p w ∙ ap (λ x. Unary (unary_of op) (expr_of x)) e;
  kept = kept_of-Unary op p w ∙ ap (λ x. with_right w ((w == unary_size (unary_of op) (kept_of x).width) && is_sized x)) e ∙ ap (λ t. with_right w (t && is_sized a)) (eq-eqb w _ h);
}

pub makes-binary : (op : BinaryOp) (a b : FExpr) (p q : Box FExpr Global) (w : ℕ) → p.value ≡ a → q.value ≡ b → w ≡ binary_size (binary_of op) (kept_of a).width (kept_of b).width
    → Makes (f.Binary op p q w) (Binary (binary_of op) (expr_of a) (expr_of b)) (with_right (binary_size (binary_of op) (kept_of a).width (kept_of b).width) (is_sized a && is_sized b))
makes-binary op a b p q w e d h = record {
  expr = expr_of-Binary op p q w ∙ ap₂ (λ x y. Binary (binary_of op) (expr_of x) (expr_of y)) e d;
  kept = kept_of-Binary op p q w ∙ ap₂ (λ x y. with_right w ((w == binary_size (binary_of op) (kept_of x).width (kept_of y).width) && (is_sized x && is_sized y))) e d
      ∙ ap₂ (λ n t. with_right n (t && (is_sized a && is_sized b))) h (eq-eqb w _ h);
}

pub makes-choose : (c a b : FExpr) (o p q : Box FExpr Global) (w : ℕ) → o.value ≡ c → p.value ≡ a → q.value ≡ b → w ≡ max (kept_of a).width (kept_of b).width
    → Makes (f.Choose o p q w) (Choose (expr_of c) (expr_of a) (expr_of b)) (with_right (max (kept_of a).width (kept_of b).width) (is_sized c && (is_sized a && is_sized b)))
makes-choose c a b o p q w g e d h = record {
  expr = expr_of-Choose o p q w ∙ ap (λ z. Choose (expr_of z) (expr_of p.value) (expr_of q.value)) g ∙ ap₂ (λ x y. Choose (expr_of c) (expr_of x) (expr_of y)) e d;
  kept = kept_of-Choose o p q w
      ∙ ap (λ z. with_right w ((w == max (kept_of p.value).width (kept_of q.value).width) && (is_sized z && (is_sized p.value && is_sized q.value)))) g
      ∙ ap₂ (λ x y. with_right w ((w == max (kept_of x).width (kept_of y).width) && (is_sized c && (is_sized x && is_sized y)))) e d
      ∙ ap₂ (λ n t. with_right n (t && (is_sized c && (is_sized a && is_sized b)))) h (eq-eqb w _ h);
}
