-- Targets with their names resolved, side by side with what the definition reads them as.
use Rattle.std.specs.Prelude.{◌≡◌, ℕ, ◌-◌, ◌^◌, min, Bool, true, cond, ◌&&◌, List, [], ◌∷◌, map, flat_map, Some, is_some}
use Rattle.verilog_ast.specs.declared.Target.{Target}
use Rattle.verilog_reading.specs.ExprTree.{TargetTrees, target_trees_of, target_tree_of}
use Rattle.flat_form.specs.View.{expr_of, target_of}
use Rattle.flat_form.specs.Sizes.{is_sized}
use Rattle.flat_form.specs.declared.flat.FTarget.{FTarget}
use Rattle.flat_form.specs.declared.flat.FTarget.TheOpen.{FTarget-F}
use Rattle.flat_form.specs.declared.flat.FTarget.TheFolds.{fold-FTarget}
use Rattle.flat_unfolding.specs.Outcome.{Text, Broken}
use Rattle.flat_unfolding.specs.Names.{Look, meaning}
use Rattle.flat_unfolding.specs.Expressions.{Term, is_sound}
use Rattle.flat_unfolding.specs.Targets as t
use Rattle.flat_unfolding.specs.Targets.{Use, of_wires, of_registers, is_input, Goal, fixed, a_word, total}
use Rattle.flat_targets.specs.declared.target.Assigned.{Assigned}
use Rattle.flat_targets.specs.declared.target.Assigned.TheVariants as w
use Rattle.flat_targets.specs.declared.target.Fixed.{Fixed}
use Rattle.flat_targets.specs.declared.target.FixedParts.{FixedParts}
use Rattle.flat_targets.specs.declared.target.Aim.{Aim}
use Rattle.flat_targets.specs.declared.target.Aim.TheVariants as a
use Rattle.flat_names.specs.Noting.{Noted, all_noted}
use Rattle.flat_names.specs.Looks.{memory_of}

abbrev pub use_of : Assigned → Use
use_of w.Wires = of_wires
use_of w.Registers = of_registers

-- whether the variable indices in a target keep right widths
abbrev pub all_true : List Bool → Bool
all_true [] = true
all_true (b ∷ bs) = b && all_true bs

abbrev pub sized_step : FTarget-F Bool → Bool
sized_step (FTarget-F.Whole sig) = true
sized_step (FTarget-F.At sig index) = is_sized index
sized_step (FTarget-F.Part sig at width) = true
sized_step (FTarget-F.Join parts) = all_true parts

abbrev pub is_target_sized : FTarget → Bool
is_target_sized = fold-FTarget Bool sized_step

-- a resolved target is what was read. Its width means nothing where a rule is broken
pub record IsAim (a : t.Aim) (f : Fixed) : Type 0 where
  pub sound : f.is_sound ≡ is_some a.bits
  pub width : (n : ℕ) → a.bits ≡ Some n → f.width ≡ n
  pub target : target_of f.target ≡ a.target
  pub sized : is_target_sized f.target ≡ true

-- a target of a process
abbrev pub IsGoal : Goal → Aim → Type 0
IsGoal (fixed b) (a.Fixed f) = IsAim b f
IsGoal (a_word m e bs) (a.Word memory index) = (memory_of memory ≡ m) × (expr_of index ≡ e) × (is_sized index ≡ true)
IsGoal g f = ⊥

abbrev pub broken_in : Goal → List Broken
broken_in (fixed b) = b.broken
broken_in (a_word m e bs) = bs

-- parts of a target concatenation; a width that passes a word is held at its top
pub record AreAims (bs : List t.Aim) (p : FixedParts) : Type 0 where
  pub sound : p.is_sound ≡ is_some (total bs)
  pub width : (n : ℕ) → total bs ≡ Some n → p.width ≡ min (2 ^ 64 - 1) n
  pub targets : map target_of p.items.items ≡ map (λ (b : t.Aim). b.target) bs
  pub sized : all_true (map is_target_sized p.items.items) ≡ true

-- all breaks of some parts
abbrev pub breaks_of : List t.Aim → List Broken
breaks_of bs = flat_map (λ (b : t.Aim). b.broken) bs

-- parts that were resolved between two notes of broken rules
pub record AreAllAims (l : Look) (u : Use) (ts : TargetTrees) (f g : Noted) (p : FixedParts) : Type 0 where
  pub are : AreAims (t.aims l u ts) p
  pub noted : g ≡ all_noted f (breaks_of (t.aims l u ts))

-- what an index chooses, past what its name and its parts break
abbrev pub chosen : Look → Use → Text → Term → Goal
chosen l u x i = cond (is_sound i) (t.meant_goal l u x i (meaning l x)) (fixed (t.nowhere []))

abbrev pub trees_in : List Target → TargetTrees
trees_in ts = target_trees_of (map target_tree_of ts)
