-- By the search's own answer.
use Rattle.std.proofs.Common.{rules, Err, true, false, [], ◌≡◌}
use Rattle.std.proofs.lemmas.List.Elements.{Contains-get_or}
use Rattle.std.proofs.lemmas.List.Sorted.{answers_always}
use Rattle.cdc_base.specs.contracts.bit.BitOrd.TheImpl as order
use Rattle.cdc_model.specs.declared.scheme.Arrival.{Arrival}
use Rattle.cdc_model.specs.Verdict.{bit_key}
use Rattle.cdc_model.proofs.Keys.{found, sorted, bits_order, bits_total, bits_same}
use Rattle.obligations.proofs.arrivals.arrival_at.Goals as goal

never : false ≡ true → ⊥
never h = cc

pub returns-in-Ok : goal.returns-in-Ok
returns-in-Ok c = λ up. (
  Contains-get_or c.args.arrivals.now c.in-Ok.place _ c.in-Ok.ensures.bound,
  bits_same _ c.args.bit (c.in-Ok.ensures.position (λ (a : Arrival). a.bit) (answers_always _ _ _ (λ f a r g called. search rules)) _),
)

pub returns-in-Err : goal.returns-in-Err
returns-in-Err c = λ up a i e.
    never ((found order.ghosts.cmp bits_total bits_same (λ (a : Arrival). a.bit) c.args.arrivals.now c.args.bit (Err c.in-Err.field-0)
    (sorted order.ghosts.cmp (λ b. bit_key b []) bits_order (λ (a : Arrival). a.bit) c.args.arrivals.now up) c.in-Err.ensures.bound
    (c.in-Err.ensures.position (λ (a : Arrival). a.bit) (answers_always _ _ _ (λ f a r g called. search rules)))).1 (a, i, e))
