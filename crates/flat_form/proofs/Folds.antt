-- What each form of an expression, a target and a statement is, one level down: its meaning, and its kept width.
use Rattle.std.proofs.Common.{◌≡◌, ℕ, ◌+◌, ◌*◌, ◌^◌, max, ◌&&◌, ◌==◌, nat_lt, nat_le, List, map, Box, Global, sym, ap, ◌∙◌}
use Rattle.flat_form.specs.declared.flat.FUnaryOp.{FUnaryOp}
use Rattle.verilog_ast.specs.declared.BinaryOp.{BinaryOp}
use Rattle.flat_form.specs.declared.flat.FExpr.{FExpr}
use Rattle.flat_form.specs.declared.flat.FExpr.TheOpen.{FExpr-F}
use Rattle.flat_form.specs.declared.flat.FExpr.TheFolds.{fold-roll-FExpr}
use Rattle.flat_form.specs.declared.flat.FExpr.TheVariants as e
use Rattle.flat_form.specs.declared.flat.FTarget.{FTarget}
use Rattle.flat_form.specs.declared.flat.FTarget.TheOpen.{FTarget-F}
use Rattle.flat_form.specs.declared.flat.FTarget.TheFolds.{fold-roll-FTarget}
use Rattle.flat_form.specs.declared.flat.FTarget.TheVariants as t
use Rattle.flat_meaning.specs.Flat as f
use Rattle.flat_form.specs.View.{unary_of, binary_of, exprs_of, expr_step, expr_of, targets_of, target_step, target_of}
use Rattle.flat_form.specs.Sizes as s
use Rattle.flat_form.specs.Sizes.{Kept, is_word, kept_of, is_sized, kept_step, target_kept, sum, all_right, all_bits, is_some_list}

pub expr_of-Number : (value width : ℕ) → expr_of (e.Number value width) ≡ f.Number width value
expr_of-Number value width = ap expr_of (sym (e.rolls-Number value width)) ∙ fold-roll-FExpr f.Expr expr_step (FExpr-F.Number value width)

pub kept_of-Number : (value width : ℕ) → kept_of (e.Number value width) ≡ record { width = width; right = is_word width && nat_lt value (2 ^ width) }
kept_of-Number value width = ap kept_of (sym (e.rolls-Number value width)) ∙ fold-roll-FExpr Kept kept_step (FExpr-F.Number value width)

pub expr_of-Read : (sig at width : ℕ) → expr_of (e.Read sig at width) ≡ f.Read sig at width
expr_of-Read sig at width = ap expr_of (sym (e.rolls-Read sig at width)) ∙ fold-roll-FExpr f.Expr expr_step (FExpr-F.Read sig at width)

pub kept_of-Read : (sig at width : ℕ) → kept_of (e.Read sig at width) ≡ record { width = width; right = is_word width }
kept_of-Read sig at width = ap kept_of (sym (e.rolls-Read sig at width)) ∙ fold-roll-FExpr Kept kept_step (FExpr-F.Read sig at width)

pub expr_of-At : (sig : ℕ) (index : Box FExpr Global) (width : ℕ) → expr_of (e.At sig index width) ≡ f.At sig (expr_of index.value)
expr_of-At sig index width = ap expr_of (sym (e.rolls-At sig index width)) ∙ fold-roll-FExpr f.Expr expr_step (FExpr-F.At sig index width)

pub kept_of-At : (sig : ℕ) (index : Box FExpr Global) (width : ℕ) → kept_of (e.At sig index width) ≡ record { width = width; right = (width == 1) && is_sized index.value }
kept_of-At sig index width = ap kept_of (sym (e.rolls-At sig index width)) ∙ fold-roll-FExpr Kept kept_step (FExpr-F.At sig index width)

pub expr_of-Unary : (op : FUnaryOp) (a : Box FExpr Global) (width : ℕ) → expr_of (e.Unary op a width) ≡ f.Unary (unary_of op) (expr_of a.value)
expr_of-Unary op a width = ap expr_of (sym (e.rolls-Unary op a width)) ∙ fold-roll-FExpr f.Expr expr_step (FExpr-F.Unary op a width)

pub kept_of-Unary : (op : FUnaryOp) (a : Box FExpr Global) (width : ℕ) → kept_of (e.Unary op a width) ≡ record { width = width; right = (width == f.unary_size (unary_of op) (kept_of a.value).width) && is_sized a.value }
kept_of-Unary op a width = ap kept_of (sym (e.rolls-Unary op a width)) ∙ fold-roll-FExpr Kept kept_step (FExpr-F.Unary op a width)

pub expr_of-Binary : (op : BinaryOp) (a b : Box FExpr Global) (width : ℕ) → expr_of (e.Binary op a b width) ≡ f.Binary (binary_of op) (expr_of a.value) (expr_of b.value)
expr_of-Binary op a b width = ap expr_of (sym (e.rolls-Binary op a b width)) ∙ fold-roll-FExpr f.Expr expr_step (FExpr-F.Binary op a b width)

pub kept_of-Binary : (op : BinaryOp) (a b : Box FExpr Global) (width : ℕ) → kept_of (e.Binary op a b width) ≡ record { width = width; right = (width == f.binary_size (binary_of op) (kept_of a.value).width (kept_of b.value).width) && (is_sized a.value && is_sized b.value) }
kept_of-Binary op a b width = ap kept_of (sym (e.rolls-Binary op a b width)) ∙ fold-roll-FExpr Kept kept_step (FExpr-F.Binary op a b width)

pub expr_of-Choose : (c x y : Box FExpr Global) (width : ℕ) → expr_of (e.Choose c x y width) ≡ f.Choose (expr_of c.value) (expr_of x.value) (expr_of y.value)
expr_of-Choose c x y width = ap expr_of (sym (e.rolls-Choose c x y width)) ∙ fold-roll-FExpr f.Expr expr_step (FExpr-F.Choose c x y width)

pub kept_of-Choose : (c x y : Box FExpr Global) (width : ℕ) → kept_of (e.Choose c x y width) ≡ record { width = width; right = (width == max (kept_of x.value).width (kept_of y.value).width) && (is_sized c.value && (is_sized x.value && is_sized y.value)) }
kept_of-Choose c x y width = ap kept_of (sym (e.rolls-Choose c x y width)) ∙ fold-roll-FExpr Kept kept_step (FExpr-F.Choose c x y width)

pub expr_of-Gate : (op : BinaryOp) (inputs : List FExpr) → expr_of (e.Gate op inputs) ≡ f.Gate (binary_of op) (exprs_of (map expr_of inputs))
expr_of-Gate op inputs = ap expr_of (sym (e.rolls-Gate op inputs)) ∙ fold-roll-FExpr f.Expr expr_step (FExpr-F.Gate op inputs)

pub kept_of-Gate : (op : BinaryOp) (inputs : List FExpr) → kept_of (e.Gate op inputs) ≡ record { width = 1; right = is_some_list (map kept_of inputs) && (all_bits (map kept_of inputs) && all_right (map kept_of inputs)) }
kept_of-Gate op inputs = ap kept_of (sym (e.rolls-Gate op inputs)) ∙ fold-roll-FExpr Kept kept_step (FExpr-F.Gate op inputs)

pub expr_of-Join : (parts : List FExpr) (width : ℕ) → expr_of (e.Join parts width) ≡ f.Join (exprs_of (map expr_of parts))
expr_of-Join parts width = ap expr_of (sym (e.rolls-Join parts width)) ∙ fold-roll-FExpr f.Expr expr_step (FExpr-F.Join parts width)

pub kept_of-Join : (parts : List FExpr) (width : ℕ) → kept_of (e.Join parts width) ≡ record { width = width; right = (width == sum (map kept_of parts)) && (is_word width && all_right (map kept_of parts)) }
kept_of-Join parts width = ap kept_of (sym (e.rolls-Join parts width)) ∙ fold-roll-FExpr Kept kept_step (FExpr-F.Join parts width)

pub expr_of-Repeat : (count : ℕ) (parts : List FExpr) (width : ℕ) → expr_of (e.Repeat count parts width) ≡ f.Repeat count (exprs_of (map expr_of parts))
expr_of-Repeat count parts width = ap expr_of (sym (e.rolls-Repeat count parts width)) ∙ fold-roll-FExpr f.Expr expr_step (FExpr-F.Repeat count parts width)

pub kept_of-Repeat : (count : ℕ) (parts : List FExpr) (width : ℕ) → kept_of (e.Repeat count parts width) ≡ record { width = width; right = (width == count * sum (map kept_of parts)) && (is_word width && all_right (map kept_of parts)) }
kept_of-Repeat count parts width = ap kept_of (sym (e.rolls-Repeat count parts width)) ∙ fold-roll-FExpr Kept kept_step (FExpr-F.Repeat count parts width)

pub target_of-Whole : (sig : ℕ) → target_of (t.Whole sig) ≡ f.Whole sig
target_of-Whole sig = ap target_of (sym (t.rolls-Whole sig)) ∙ fold-roll-FTarget f.Target target_step (FTarget-F.Whole sig)

pub target_kept-Whole : (wid : ℕ → ℕ) (sig : ℕ) → target_kept wid (t.Whole sig) ≡ record { width = wid sig; right = is_word (wid sig) }
target_kept-Whole wid sig = ap (target_kept wid) (sym (t.rolls-Whole sig)) ∙ fold-roll-FTarget Kept (s.target_step wid) (FTarget-F.Whole sig)

pub target_of-At : (sig : ℕ) (index : FExpr) → target_of (t.At sig index) ≡ f.Pick sig (expr_of index)
target_of-At sig index = ap target_of (sym (t.rolls-At sig index)) ∙ fold-roll-FTarget f.Target target_step (FTarget-F.At sig index)

pub target_kept-At : (wid : ℕ → ℕ) (sig : ℕ) (index : FExpr) → target_kept wid (t.At sig index) ≡ record { width = 1; right = is_word (wid sig) && is_sized index }
target_kept-At wid sig index = ap (target_kept wid) (sym (t.rolls-At sig index)) ∙ fold-roll-FTarget Kept (s.target_step wid) (FTarget-F.At sig index)

pub target_of-Part : (sig at width : ℕ) → target_of (t.Part sig at width) ≡ f.Part sig at width
target_of-Part sig at width = ap target_of (sym (t.rolls-Part sig at width)) ∙ fold-roll-FTarget f.Target target_step (FTarget-F.Part sig at width)

pub target_kept-Part : (wid : ℕ → ℕ) (sig at width : ℕ) → target_kept wid (t.Part sig at width) ≡ record { width = width; right = is_word width && (nat_le (at + width) (wid sig) && nat_le (wid sig) 64) }
target_kept-Part wid sig at width = ap (target_kept wid) (sym (t.rolls-Part sig at width)) ∙ fold-roll-FTarget Kept (s.target_step wid) (FTarget-F.Part sig at width)

pub target_of-Join : (parts : List FTarget) → target_of (t.Join parts) ≡ f.Group (targets_of (map target_of parts))
target_of-Join parts = ap target_of (sym (t.rolls-Join parts)) ∙ fold-roll-FTarget f.Target target_step (FTarget-F.Join parts)

pub target_kept-Join : (wid : ℕ → ℕ) (parts : List FTarget) → target_kept wid (t.Join parts) ≡ record { width = sum (map (target_kept wid) parts); right = is_word (sum (map (target_kept wid) parts)) && all_right (map (target_kept wid) parts) }
target_kept-Join wid parts = ap (target_kept wid) (sym (t.rolls-Join parts)) ∙ fold-roll-FTarget Kept (s.target_step wid) (FTarget-F.Join parts)
