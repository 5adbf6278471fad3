use Rattle.std.proofs.Common.{◌≡◌, ◌+◌, ◌-◌, ◌^◌, min, ◌&&◌, sym, ap, ◌∙◌, arith}
use Rattle.flat_form.specs.Sizes.{kept_of}
use Rattle.flat_names.proofs.Options.{ok-map}
use Rattle.flat_names.proofs.Joined.{more-read}
use Rattle.flat_names.proofs.resolved.Parts.add.Goals as goal
use Rattle.flat_names.proofs.resolved.Parts.add.Goals.{then-self, else-self, then-self-2, else-self-2}

pub returns : goal.returns
returns c = λ ts t are is.
    let p = c.args.self.now in
    let r = c.args.part in
    let width : c.saturating_add-self.result ≡ min (2 ^ 64 - 1) (p.width + (kept_of r.expr).width) =
    let w : c.from.result ≡ (kept_of r.expr).width = c.from.ensures ∙ c.width.ensures in omega (arith, c.saturating_add-self.ensures, w) in
    let sound : c.if-self.self ≡ (p.is_sound && r.is_sound) =
    elim c.if-self.branch [ then-self w ↦ w.self-is ∙ sym (ap (λ x. x && r.is_sound) w.if-self.true) | else-self w ↦ w.self-is ∙ w.if-self.false ∙ sym (ap (λ x. x && r.is_sound) w.if-self.false) ] in
    let constant : c.if-self-2.self ≡ (p.is_constant && r.is_constant) =
    elim c.if-self-2.branch [ then-self-2 w ↦ w.self-is ∙ sym (ap (λ x. x && r.is_constant) w.if-self-2.true) | else-self-2 w ↦ w.self-is ∙ w.if-self-2.false ∙ sym (ap (λ x. x && r.is_constant) w.if-self-2.false) ] in
    ok-map c.push.result (λ x pushed. more-read ts t p _ r are is pushed width sound constant) c.push.ensures.pushed
