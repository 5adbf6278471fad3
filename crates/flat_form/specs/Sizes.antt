-- The widths that flat designs keep. In one that is well sized each is the size of what it stands for, and every word has 1 to 64 bits.
use Rattle.std.specs.Prelude.{◌≡◌, ℕ, ◌+◌, ◌*◌, ◌^◌, max, Bool, true, false, ◌&&◌, ◌==◌, nat_lt, nat_le, List, [], ◌∷◌, Option, Some, None, Box}
use Rattle.std.specs.List.{list_all}
use Rattle.std.specs.declared.alloc.Global.{Global}
use Rattle.cdc_base.specs.declared.signal.Signal.{Signal}
use Rattle.flat_form.specs.declared.flat.Flat.{Flat}
use Rattle.flat_form.specs.declared.flat.FlatAssign.{FlatAssign}
use Rattle.flat_form.specs.declared.flat.FlatComb.{FlatComb}
use Rattle.flat_form.specs.declared.flat.FlatClocked.{FlatClocked}
use Rattle.flat_form.specs.declared.flat.FExpr.{FExpr}
use Rattle.flat_form.specs.declared.flat.FExpr.TheOpen.{FExpr-F}
use Rattle.flat_form.specs.declared.flat.FExpr.TheFolds.{fold-FExpr}
use Rattle.flat_form.specs.declared.flat.FTarget.{FTarget}
use Rattle.flat_form.specs.declared.flat.FTarget.TheOpen.{FTarget-F}
use Rattle.flat_form.specs.declared.flat.FTarget.TheFolds.{fold-FTarget}
use Rattle.flat_form.specs.declared.flat.FStmt.{FStmt}
use Rattle.flat_form.specs.declared.flat.FCaseItem.{FCaseItem}
use Rattle.flat_form.specs.declared.flat.FStmt.TheOpen.{FStmt-F, FCaseItem-F}
use Rattle.flat_form.specs.declared.flat.FStmt.TheFolds.{fold-FStmt, fold-FCaseItem}
use Rattle.flat_form.specs.View.{unary_of, binary_of}
use Rattle.flat_meaning.specs.Flat as f
use Rattle.flat_meaning.specs.Design.{width_in}

abbrev pub is_word : ℕ → Bool
is_word w = nat_le 1 w && nat_le w 64

-- a kept width, and whether it and all below it are right
pub record Kept : Type 0 where
  pub width : ℕ
  pub right : Bool

abbrev pub sum : List Kept → ℕ
sum [] = 0
sum (k ∷ ks) = k.width + sum ks

abbrev pub all_right : List Kept → Bool
all_right [] = true
all_right (k ∷ ks) = k.right && all_right ks

-- inputs of a gate
abbrev pub all_bits : List Kept → Bool
all_bits [] = true
all_bits (k ∷ ks) = (k.width == 1) && all_bits ks

abbrev pub is_some_list : {A : Type 0} → List A → Bool
is_some_list [] = false
is_some_list (x ∷ xs) = true

abbrev pub kept_step : FExpr-F Kept → Kept
kept_step (FExpr-F.Number value width) = record { width = width; right = is_word width && nat_lt value (2 ^ width) }
kept_step (FExpr-F.Read sig at width) = record { width = width; right = is_word width }
kept_step (FExpr-F.At sig index width) = record { width = width; right = (width == 1) && index.value.right }
kept_step (FExpr-F.Unary op a width) = record { width = width; right = (width == f.unary_size (unary_of op) a.value.width) && a.value.right }
kept_step (FExpr-F.Binary op a b width) =
    record { width = width; right = (width == f.binary_size (binary_of op) a.value.width b.value.width) && (a.value.right && b.value.right) }
kept_step (FExpr-F.Choose c x y width) =
    record { width = width; right = (width == max x.value.width y.value.width) && (c.value.right && (x.value.right && y.value.right)) }
kept_step (FExpr-F.Gate op inputs) = record { width = 1; right = is_some_list inputs && (all_bits inputs && all_right inputs) }
kept_step (FExpr-F.Join parts width) = record { width = width; right = (width == sum parts) && (is_word width && all_right parts) }
kept_step (FExpr-F.Repeat count parts width) = record { width = width; right = (width == count * sum parts) && (is_word width && all_right parts) }

abbrev pub kept_of : FExpr → Kept
kept_of = fold-FExpr Kept kept_step

abbrev pub is_sized : FExpr → Bool
is_sized e = (kept_of e).right

abbrev pub are_labels_sized : List FCaseItem → Bool
are_labels_sized = list_all (λ (i : FCaseItem). list_all is_sized i.labels)

-- a target's bits; a part lies in its signal
module _ (wid : ℕ → ℕ) where
  abbrev pub target_step : FTarget-F Kept → Kept
  target_step (FTarget-F.Whole sig) = record { width = wid sig; right = is_word (wid sig) }
  target_step (FTarget-F.At sig index) = record { width = 1; right = is_word (wid sig) && is_sized index }
  target_step (FTarget-F.Part sig at width) = record { width = width; right = is_word width && (nat_le (at + width) (wid sig) && nat_le (wid sig) 64) }
  target_step (FTarget-F.Join parts) = record { width = sum parts; right = is_word (sum parts) && all_right parts }

  abbrev pub target_kept : FTarget → Kept
  target_kept = fold-FTarget Kept target_step

  abbrev pub if_some : Option (Box Bool Global) → Bool
  if_some None = true
  if_some (Some b) = b.value

  abbrev pub list_true : List Bool → Bool
  list_true [] = true
  list_true (b ∷ bs) = b && list_true bs

  abbrev pub stmt_step : FStmt-F Bool Bool → Bool
  stmt_step FStmt-F.Null = true
  stmt_step (FStmt-F.Set blocking target value) = (target_kept target).right && is_sized value
  stmt_step (FStmt-F.If cond chosen other) = is_sized cond && (chosen.value && if_some other)
  stmt_step (FStmt-F.Case subject items default) = is_sized subject && (list_true items && if_some default)
  stmt_step (FStmt-F.Block parts) = list_true parts

  abbrev pub arm_step : FCaseItem-F Bool Bool → Bool
  arm_step i = is_some_list i.labels && (list_all is_sized i.labels && i.body)

  abbrev pub is_stmt_sized : FStmt → Bool
  is_stmt_sized = fold-FStmt Bool Bool stmt_step arm_step

  abbrev pub is_arm_sized : FCaseItem → Bool
  is_arm_sized = fold-FCaseItem Bool Bool stmt_step arm_step

-- every word of the design has 1 to 64 bits, and every kept width is right
pub record IsWellSized (f : Flat) : Type 0 where
  pub signals : list_all (λ (s : Signal). is_word s.width) f.signals ≡ true
  pub assigns : list_all (λ (a : FlatAssign). (target_kept (width_in f.signals) a.target).right && is_sized a.value) f.assigns ≡ true
  pub combs : list_all (λ (p : FlatComb). is_stmt_sized (width_in f.signals) p.body) f.combs ≡ true
  pub clocked : list_all (λ (p : FlatClocked). is_stmt_sized (width_in f.signals) p.body) f.clocked ≡ true
