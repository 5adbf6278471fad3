use Rattle.std.proofs.Common.{true, sym, subst}
use Rattle.flat_meaning.specs.Flat.{Part}
use Rattle.flat_form.specs.declared.flat.FTarget.TheVariants as f
use Rattle.flat_unfolding.specs.Targets.{aim_at}
use Rattle.flat_targets.specs.Aims.{IsAim}
use Rattle.flat_targets.proofs.Aimed.{aim-part}
use Rattle.flat_targets.proofs.target.part.Goals as goal

pub returns : goal.returns
returns c = let s = c.args.sig in let p = c.args.at in let w = c.args.width in
    subst (λ v. IsAim (aim_at (Part s p w) w) (record { target = f.Part s p w; width = v; is_sound = true })) (sym c.from.ensures) (aim-part s p w)
