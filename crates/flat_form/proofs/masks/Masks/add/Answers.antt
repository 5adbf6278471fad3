use Rattle.std.proofs.Common.{ℕ, cond, nat_eq, Some, bit_or, ap, ◌∙◌}
use Rattle.indexmap.specs.IndexMap.{get}
use Rattle.flat_form.specs.declared.masks.Masks.{Masks}
use Rattle.flat_form.proofs.MaskSets.{add-bits, add-entry}
use Rattle.flat_form.proofs.masks.Masks.add.Goals as goal

pub returns-in-Ok : goal.returns-in-Ok
returns-in-Ok c =
    let old = c.args.self.now in
    let new : Masks = record { by_signal = c.insert.new.self } in
    let held = λ (q : ℕ). c.in-Ok.ensures.updates.0 q ∙ ap (λ z. cond (nat_eq c.args.sig q) (Some (bit_or z c.args.mask)) (get nat_eq old.by_signal q)) c.of.ensures.mask in
    record {
      added = add-bits old new c.args.sig c.args.mask held;
      listed = add-entry old new c.args.sig c.args.mask held;
    }
