-- What is given to a name: the override that it makes, and whether it leans.
use Rattle.std.proofs.Common.{◌≡◌, Bool, true, false, cond, [], ◌∷◌, Some, None, refl, ap, ap₂, ◌∙◌}
use Rattle.std.specs.Prelude.{is_some}
use Rattle.std.specs.List.{cons_option}
use Rattle.verilog_reading.specs.ExprTree.{ExprTree}
use Rattle.flat_meaning.specs.Flat.{size}
use Rattle.flat_form.specs.View.{expr_of}
use Rattle.flat_form.specs.Sizes.{is_sized}
use Rattle.flat_form.proofs.Sized.{sized_width}
use Rattle.flat_unfolding.specs.Outcome.{Text}
use Rattle.flat_unfolding.specs.Names.{Look}
use Rattle.flat_unfolding.specs.Constants.{is_counted}
use Rattle.flat_unfolding.specs.Signs.{is_signed, leans}
use Rattle.flat_unfolding.specs.Expressions.{as_constant, read}
use Rattle.flat_unfolding.specs.Parameters as p
use Rattle.flat_unfolding.specs.Instances.{Leaning, leaning_joint}
use Rattle.flat_names.specs.declared.resolved.Resolved.{Resolved}
use Rattle.flat_names.specs.declared.signs.Signs.{Signs}
use Rattle.flat_names.specs.Pieces.{IsRead}
use Rattle.flat_names.specs.Signs.{signs_of}
use Rattle.flat_declarations.specs.Declaring.{override_of}
use Rattle.flat_design.specs.Visiting.{leaning_if, override_by}

module _ (l : Look) (v : ExprTree) (r : Resolved) where
  -- a constant that breaks no rule
  pub override-is : IsRead (as_constant (read l v)) r → is_some r.count ≡ is_counted l.names v → r.signs ≡ signs_of l.names v → r.is_sound ≡ true
      → override_of (override_by r) ≡ record { value = (read l v).expr; is_counted = is_counted l.names v; is_signed = is_signed l.names v }
  override-is h c s sound =
      ap₂ (λ x z. let o : p.Override = record { value = x; is_counted = z; is_signed = r.signs.is_signed } in o) (h.expr sound) c
      ∙ ap (λ (g : Signs). let o : p.Override = record { value = (read l v).expr; is_counted = is_counted l.names v; is_signed = g.is_signed } in o) s

  abbrev made : Text → Leaning
  made x = record { name = x; bits = size (read l v).expr }

  -- what leans of it
  pub leaning-is : (x : Text) → expr_of r.expr ≡ (read l v).expr → is_sized r.expr ≡ true → r.signs ≡ signs_of l.names v
      → leaning_if r x ≡ cons_option (leaning_joint l (record { name = Some x; value = v })) []
  leaning-is x e w s =
      ap₂ (λ b n. let g : Leaning = record { name = x; bits = n } in cond b (g ∷ []) []) (ap (λ (g : Signs). g.leans) s) (sized_width r.expr w ∙ ap size e)
      ∙ go (leans l.names v)
    where
      go : (b : Bool) → cond b (made x ∷ []) [] ≡ cons_option (cond b (Some (made x)) None) []
      go true = refl
      go false = refl
