-- By what is known, or by the place.
use Rattle.std.proofs.Common.{◌≡◌, ◌∙◌, sym, ap, refl, true, List, slice_get}
use Rattle.cell_graph.specs.declared.cell.CellId.{CellId}
use Rattle.cdc_model.specs.Nets.{design_of}
use Rattle.fifo_ways.proofs.Conditions.{known_condition, more_conditions}
use Rattle.fifo_ways.proofs.choice.is_condition.Goals as goal

pub returns-then-is_known : goal.returns-then-is_known
returns-then-is_known c = λ domains side plain shown is low index are.
    let at = ap (λ (cs : List CellId). slice_get cs c.args.place) (sym c.as_slice.ensures) ∙ c.is_known.ensures c.if-is_known.true in (
      (λ e. known_condition c.args.net.now.graph (design_of c.args.net.now domains) side c.args.cond low c.args.place c.args.conditions.now are at, λ h. refl),
      are,
    )

pub returns-then-not-branch : goal.returns-then-not-branch
returns-then-not-branch c = λ domains side plain shown is low index are. (
  (λ e. cc, λ h. let t : true ≡ _ = sym ((c.in_ok-is_place.ensures domains side plain shown is index).1 h) ∙ c.if-not-branch.true in cc),
  are,
)

pub returns : goal.returns
returns c = λ domains side plain shown is low index are.
    let one = (c.in_ok-is_place.ensures domains side plain shown is index).0 c.if-not-branch.false in (
      (λ e. one, λ h. refl),
      more_conditions c.args.net.now.graph (design_of c.args.net.now domains) side c.args.cond low c.args.place c.args.conditions.now are
          c.add_next.new.conditions one c.in_ok-add_next.ensures,
    )
