use Rattle.std.proofs.Common.{◌∙◌, ap₂}
use Rattle.std.specs.Prelude.{slice_set, bit_or}
use Rattle.cofactor.proofs.MarkLists.{bits_met-set}
use Rattle.cofactor.proofs.marks.Marks.mark.Goals as goal

pub returns-then-place-len : goal.returns-then-place-len
returns-then-place-len c =
    bits_met-set c.self.inside.walk (bit_or c.met.result c.args.bits) c.self.inside.marks.items c.args.place
    ∙ ap₂ (λ ws m. slice_set ws c.args.place (bit_or m c.args.bits)) c.self.view_is c.met.ensures
