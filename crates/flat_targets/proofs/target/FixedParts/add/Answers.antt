use Rattle.std.proofs.Common.{◌≡◌, ◌+◌, ◌-◌, ◌^◌, min, ◌&&◌, sym, ap, ◌∙◌, arith}
use Rattle.flat_targets.proofs.Aimed.{ok-then}
use Rattle.flat_targets.proofs.AimedParts.{more-aims}
use Rattle.flat_targets.proofs.target.FixedParts.add.Goals as goal
use Rattle.flat_targets.proofs.target.FixedParts.add.Goals.{then-self, else-self}

pub returns : goal.returns
returns c = λ bs a h i.
    let p = c.args.self.now in
    let width : c.saturating_add-self.result ≡ min (2 ^ 64 - 1) (p.width + c.args.part.width) = let e = c.saturating_add-self.ensures in omega arith in
    let sound : c.if-self.self ≡ (p.is_sound && c.args.part.is_sound) = elim c.if-self.branch [
      | then-self w ↦ w.self-is ∙ ap (λ b. b && c.args.part.is_sound) (sym w.if-self.true)
      | else-self w ↦ w.self-is ∙ w.if-self.false ∙ ap (λ b. b && c.args.part.is_sound) (sym w.if-self.false)
    ] in
    ok-then c.push.result _ _ (λ x e. more-aims bs a p (record { items = c.push.new.items; width = c.saturating_add-self.result; is_sound = c.if-self.self }) c.args.part h i e width sound) c.push.ensures.pushed
