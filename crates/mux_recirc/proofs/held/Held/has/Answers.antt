-- By where the search ends.
use Rattle.std.proofs.Common.{◌∙◌, inl, inr, sym, subst, Contains}
use Rattle.std.specs.List.Sorted.{IsSorted}
use Rattle.mux_recirc.specs.contracts.parts.PartOrd.TheImpl as part_order
use Rattle.mux_recirc.specs.declared.parts.Part.{Part}
use Rattle.mux_recirc.proofs.Search.{found_part, other}
use Rattle.mux_recirc.proofs.held.Held.has.Goals as goal

pub returns-else-is_constant : goal.returns-else-is_constant
returns-else-is_constant c = λ constants sorted.
    let p : Part = record { bit = c.args.bit; ring = c.args.ring } in
    let f = found_part c.deref.result.now p c.binary_search.result c.binary_search.ensures.bound c.binary_search.ensures.position
    (subst (IsSorted part_order.ghosts.cmp) (sym c.deref.ensures.value) sorted) in (
      λ e. inr (subst (λ ps. Contains ps p) c.deref.ensures.value (f.0 (sym c.is_ok.ensures.value ∙ e))),
      λ s. elim s [
        | inl i ↦ other (sym c.if-is_constant.false ∙ (c.is_constant.ensures constants).1 i)
        | inr i ↦ c.is_ok.ensures.value ∙ f.1 (subst (λ ps. Contains ps p) (sym c.deref.ensures.value) i)
      ],
    )
