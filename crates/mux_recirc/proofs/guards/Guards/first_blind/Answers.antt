-- The first blindness of the crossing has the first ring.
use Rattle.std.proofs.Common.{◌∙◌, sym, ap, slice_get}
use Rattle.mux_recirc.proofs.Guarding.{some_blind, no_blind}
use Rattle.mux_recirc.proofs.guards.Guards.first_blind.Goals as goal

pub returns-in-Some : goal.returns-in-Some
returns-in-Some c = record {
  exact = λ net domains crossings rings k are at.
      some_blind net domains crossings rings c.args.self.now are c.args.crossing k at c.in-Some.blind.now (sym (c.in-Some.ensures.value ∙ ap (λ xs. slice_get xs 0) (c.blind_at.ensures are.blind_sorted)));
}

pub returns-in-None : goal.returns-in-None
returns-in-None c = record {
  exact = λ net domains crossings rings k are at.
      no_blind net domains crossings rings c.args.self.now are c.args.crossing k at (sym (c.in-None.ensures.value ∙ ap (λ xs. slice_get xs 0) (c.blind_at.ensures are.blind_sorted)));
}
