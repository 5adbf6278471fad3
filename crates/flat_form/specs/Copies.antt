-- The choices around an expression that is copied, the outermost first.
use Rattle.std.specs.Prelude.{ℕ, max, ◌&&◌, ◌==◌, List, [], ◌∷◌}
use Rattle.flat_form.specs.declared.copy.Choice.{Choice}
use Rattle.flat_meaning.specs.Flat as f
use Rattle.flat_form.specs.View.{expr_of}
use Rattle.flat_form.specs.Sizes.{Kept, kept_of}

abbrev pub wrapped : List Choice → f.Expr → f.Expr
wrapped [] e = e
wrapped (c ∷ cs) e = f.Choose (expr_of c.cond) (expr_of c.yes) (wrapped cs e)

abbrev pub kept_choice : ℕ → (c x y : Kept) → Kept
kept_choice w c x y = record { width = w; right = (w == max x.width y.width) && (c.right && (x.right && y.right)) }

abbrev pub kept_wrapped : List Choice → Kept → Kept
kept_wrapped [] k = k
kept_wrapped (c ∷ cs) k = kept_choice c.width (kept_of c.cond) (kept_of c.yes) (kept_wrapped cs k)
