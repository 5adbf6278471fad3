-- The widths that a flat design keeps, where each is the size of what it stands for, whatever that is.
use Rattle.std.specs.Prelude.{◌≡◌, ◌*◌, max, Bool, true, ◌&&◌, ◌==◌, List, [], ◌∷◌, Option, Some, None, Box}
use Rattle.std.specs.List.{list_all}
use Rattle.std.specs.declared.alloc.Global.{Global}
use Rattle.flat_form.specs.declared.flat.Flat.{Flat}
use Rattle.flat_form.specs.declared.flat.FlatAssign.{FlatAssign}
use Rattle.flat_form.specs.declared.flat.FlatComb.{FlatComb}
use Rattle.flat_form.specs.declared.flat.FlatClocked.{FlatClocked}
use Rattle.flat_form.specs.declared.flat.FExpr.{FExpr}
use Rattle.flat_form.specs.declared.flat.FExpr.TheOpen.{FExpr-F}
use Rattle.flat_form.specs.declared.flat.FExpr.TheFolds.{fold-FExpr}
use Rattle.flat_form.specs.declared.flat.FTarget.{FTarget}
use Rattle.flat_form.specs.declared.flat.FTarget.TheOpen.{FTarget-F}
use Rattle.flat_form.specs.declared.flat.FTarget.TheFolds.{fold-FTarget}
use Rattle.flat_form.specs.declared.flat.FStmt.{FStmt}
use Rattle.flat_form.specs.declared.flat.FStmt.TheOpen.{FStmt-F, FCaseItem-F}
use Rattle.flat_form.specs.declared.flat.FStmt.TheFolds.{fold-FStmt}
use Rattle.flat_form.specs.View.{unary_of, binary_of}
use Rattle.flat_form.specs.Sizes.{Kept, sum, all_right}
use Rattle.flat_meaning.specs.Flat as f

abbrev pub width_step : FExpr-F Kept → Kept
width_step (FExpr-F.Number value width) = record { width = width; right = true }
width_step (FExpr-F.Read sig at width) = record { width = width; right = true }
width_step (FExpr-F.At sig index width) = record { width = width; right = (width == 1) && index.value.right }
width_step (FExpr-F.Unary op a width) = record { width = width; right = (width == f.unary_size (unary_of op) a.value.width) && a.value.right }
width_step (FExpr-F.Binary op a b width) =
    record { width = width; right = (width == f.binary_size (binary_of op) a.value.width b.value.width) && (a.value.right && b.value.right) }
width_step (FExpr-F.Choose c x y width) =
    record { width = width; right = (width == max x.value.width y.value.width) && (c.value.right && (x.value.right && y.value.right)) }
width_step (FExpr-F.Gate op inputs) = record { width = 1; right = all_right inputs }
width_step (FExpr-F.Join parts width) = record { width = width; right = (width == sum parts) && all_right parts }
width_step (FExpr-F.Repeat count parts width) = record { width = width; right = (width == count * sum parts) && all_right parts }

abbrev pub width_of : FExpr → Kept
width_of = fold-FExpr Kept width_step

abbrev pub keeps_sizes : FExpr → Bool
keeps_sizes e = (width_of e).right

abbrev pub all_true : List Bool → Bool
all_true [] = true
all_true (b ∷ bs) = b && all_true bs

abbrev pub target_step : FTarget-F Bool → Bool
target_step (FTarget-F.Whole sig) = true
target_step (FTarget-F.At sig index) = keeps_sizes index
target_step (FTarget-F.Part sig at width) = true
target_step (FTarget-F.Join parts) = all_true parts

abbrev pub target_keeps_sizes : FTarget → Bool
target_keeps_sizes = fold-FTarget Bool target_step

abbrev pub if_some : Option (Box Bool Global) → Bool
if_some None = true
if_some (Some b) = b.value

abbrev pub stmt_step : FStmt-F Bool Bool → Bool
stmt_step FStmt-F.Null = true
stmt_step (FStmt-F.Set blocking target value) = target_keeps_sizes target && keeps_sizes value
stmt_step (FStmt-F.If cond chosen other) = keeps_sizes cond && (chosen.value && if_some other)
stmt_step (FStmt-F.Case subject items default) = keeps_sizes subject && (all_true items && if_some default)
stmt_step (FStmt-F.Block parts) = all_true parts

abbrev pub arm_step : FCaseItem-F Bool Bool → Bool
arm_step i = list_all keeps_sizes i.labels && i.body

abbrev pub stmt_keeps_sizes : FStmt → Bool
stmt_keeps_sizes = fold-FStmt Bool Bool stmt_step arm_step

-- each kept width of the design is the size of what it stands for
pub record KeepsSizes (f : Flat) : Type 0 where
  pub assigns : list_all (λ (a : FlatAssign). target_keeps_sizes a.target && keeps_sizes a.value) f.assigns ≡ true
  pub combs : list_all (λ (p : FlatComb). stmt_keeps_sizes p.body) f.combs ≡ true
  pub clocked : list_all (λ (p : FlatClocked). stmt_keeps_sizes p.body) f.clocked ≡ true
