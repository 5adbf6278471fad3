-- By the bits and the clock.
use Rattle.std.proofs.Common.{◌↔◌, ◌⊎◌, inl, inr, subst, Contains}
use Rattle.fifo_parts.specs.Comparisons.{IsAmong}
use Rattle.fifo_parts.proofs.flags.Comparisons.candidates.Goals as goal

pub returns-clause-same : goal.returns-clause-same
returns-clause-same c = λ f.
    let old = c.in_ok-candidates.candidates.items in
    let new = c.add_there.new.found.items in
    let more = subst (λ o. Contains new f ↔ (Contains old f ⊎ IsAmong o f)) c.get.ensures.value (c.in_ok-add_there.ensures f) in
    let order = c.into_order.ensures.same f in
    let by = c.in_ok-candidates.ensures f in (
      λ h. elim (more.0 (order.0 h)) [ inl j ↦ inl (by.0 j) | inr j ↦ inr j ],
      λ h. order.1 (more.1 (elim h [ inl j ↦ inl (by.1 j) | inr j ↦ inr j ])),
    )
