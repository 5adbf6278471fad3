use Rattle.std.proofs.Common.{sym, subst, refl, inl, inr, arith}
use Rattle.cell_graph.specs.declared.cell.Cell.TheVariants.{Not, And, Or, Xor, Add, Sub, Eq, Lt}
use Rattle.cell_graph.specs.Below.{IsOperand}
use Rattle.cell_graph.specs.Cells.{cell_width}
use Rattle.cell_graph.specs.Cofactor.{known}
use Rattle.cell_graph.specs.Unfolded.{IsCellOf, tree_of}
use Rattle.cell_graph.proofs.Cones.{on_ok, met_more}
use Rattle.cofactor.specs.Walked.{AreMakers}
use Rattle.cofactor.proofs.Arms.{AskedOf, small-width, of-two, of-three, one-maker, two-makers, shl-asked, shl-only, shr-asked, shr-only, shl-all, shr-all, shl-any, shr-any, slice-asked, slice-only, extend-asked, extend-only, reduce-asked, reduce-only, whole-asked}
use Rattle.cofactor.proofs.Makers.{ones-only}
use Rattle.cofactor.proofs.walk.Walk.want_makers.Goals as goal

pub returns-in-Not-clause-only : goal.returns-in-Not-clause-only
returns-in-Not-clause-only c = on_ok c.want.result (λ f cube n well is shown some w h.
    met_more (λ p. subst (λ d. AreMakers c.args.graph.now cube c.args.table.now d c.args.bits w) (sym c.in-Not.is)
    (one-maker c.args.graph.now cube c.args.table.now c.args.bits (Not c.in-Not.a) c.in-Not.a c.args.bits w refl (λ j s l. (j, s, (refl, refl))) p)) (f w h)) c.want.ensures.only

pub returns-in-Some-clause-asked : goal.returns-in-Some-clause-asked
returns-in-Some-clause-asked c = on_ok c.want-in-Some.result (λ f cube n well is shown.
    subst (AskedOf c.args.graph.now cube c.args.table.now c.args.bits c.want-in-Some.new.self.wanted) (sym c.in-Shl.is)
    (shl-asked c.args.graph.now cube c.args.table.now c.args.bits c.want-in-Some.new.self.wanted c.in-Shl.a c.in-Shl.by c.in-Some.amount c.shifted_right.result
    (c.in-Some.ensures (known cube (tree_of c.args.graph.now c.in-Shl.by)) (small-width c.args.graph.now well c.in-Shl.by) (shown c.in-Shl.by (subst (λ d. IsOperand d c.in-Shl.by) (sym c.in-Shl.is) (inr refl)))) c.shifted_right.ensures f)) c.want-in-Some.ensures.asked

pub returns-in-Some-clause-only : goal.returns-in-Some-clause-only
returns-in-Some-clause-only c = on_ok c.want-in-Some.result (λ f cube n well is shown some w h.
    met_more (λ p. subst (λ d. AreMakers c.args.graph.now cube c.args.table.now d c.args.bits w) (sym c.in-Shl.is)
    (shl-only c.args.graph.now cube c.args.table.now c.args.bits c.in-Shl.a c.in-Shl.by c.in-Some.amount c.shifted_right.result w
    (c.in-Some.ensures (known cube (tree_of c.args.graph.now c.in-Shl.by)) (small-width c.args.graph.now well c.in-Shl.by) (shown c.in-Shl.by (subst (λ d. IsOperand d c.in-Shl.by) (sym c.in-Shl.is) (inr refl)))) c.shifted_right.ensures p)) (f w h)) c.want-in-Some.ensures.only

pub returns-in-None-clause-asked : goal.returns-in-None-clause-asked
returns-in-None-clause-asked c = on_ok c.want_all.result (λ f cube n well is shown.
    subst (AskedOf c.args.graph.now cube c.args.table.now c.args.bits c.want_all.new.self.wanted) (sym c.in-Shl.is)
    (shl-all c.args.graph.now cube c.args.table.now c.args.bits well c.want_all.new.self.wanted c.in-Shl.a c.in-Shl.by
    (c.in-None.ensures (known cube (tree_of c.args.graph.now c.in-Shl.by)) (small-width c.args.graph.now well c.in-Shl.by) (shown c.in-Shl.by (subst (λ d. IsOperand d c.in-Shl.by) (sym c.in-Shl.is) (inr refl)))) f)) c.want_all.ensures.asked

pub returns-in-None-clause-only : goal.returns-in-None-clause-only
returns-in-None-clause-only c = on_ok c.want_all.result (λ f cube n well is shown some w h.
    met_more (λ p. subst (λ d. AreMakers c.args.graph.now cube c.args.table.now d c.args.bits w) (sym c.in-Shl.is)
    (shl-any c.args.graph.now cube c.args.table.now c.args.bits c.in-Shl.a c.in-Shl.by w
    (c.in-None.ensures (known cube (tree_of c.args.graph.now c.in-Shl.by)) (small-width c.args.graph.now well c.in-Shl.by) (shown c.in-Shl.by (subst (λ d. IsOperand d c.in-Shl.by) (sym c.in-Shl.is) (inr refl)))) some p)) (f w h)) c.want_all.ensures.only

pub returns-in-Some-amount-clause-asked : goal.returns-in-Some-amount-clause-asked
returns-in-Some-amount-clause-asked c = on_ok c.want-in-Some-amount.result (λ f cube n well is shown.
    subst (AskedOf c.args.graph.now cube c.args.table.now c.args.bits c.want-in-Some-amount.new.self.wanted) (sym c.in-Shr.is)
    (shr-asked c.args.graph.now cube c.args.table.now c.args.bits well c.want-in-Some-amount.new.self.wanted c.in-Shr.a c.in-Shr.by c.in-Some-amount.amount c.shifted_left.result
    (c.in-Some-amount.ensures (known cube (tree_of c.args.graph.now c.in-Shr.by)) (small-width c.args.graph.now well c.in-Shr.by) (shown c.in-Shr.by (subst (λ d. IsOperand d c.in-Shr.by) (sym c.in-Shr.is) (inr refl)))) c.shifted_left.ensures f)) c.want-in-Some-amount.ensures.asked

pub returns-in-Some-amount-clause-only : goal.returns-in-Some-amount-clause-only
returns-in-Some-amount-clause-only c = on_ok c.want-in-Some-amount.result (λ f cube n well is shown some w h.
    met_more (λ p. subst (λ d. AreMakers c.args.graph.now cube c.args.table.now d c.args.bits w) (sym c.in-Shr.is)
    (shr-only c.args.graph.now cube c.args.table.now c.args.bits c.in-Shr.a c.in-Shr.by c.in-Some-amount.amount c.shifted_left.result w
    (c.in-Some-amount.ensures (known cube (tree_of c.args.graph.now c.in-Shr.by)) (small-width c.args.graph.now well c.in-Shr.by) (shown c.in-Shr.by (subst (λ d. IsOperand d c.in-Shr.by) (sym c.in-Shr.is) (inr refl)))) c.shifted_left.ensures c.shifted_left.type_inv p)) (f w h)) c.want-in-Some-amount.ensures.only

pub returns-in-None-amount-clause-asked : goal.returns-in-None-amount-clause-asked
returns-in-None-amount-clause-asked c = on_ok c.want_all-in-None-amount.result (λ f cube n well is shown.
    subst (AskedOf c.args.graph.now cube c.args.table.now c.args.bits c.want_all-in-None-amount.new.self.wanted) (sym c.in-Shr.is)
    (shr-all c.args.graph.now cube c.args.table.now c.args.bits well c.want_all-in-None-amount.new.self.wanted c.in-Shr.a c.in-Shr.by
    (c.in-None-amount.ensures (known cube (tree_of c.args.graph.now c.in-Shr.by)) (small-width c.args.graph.now well c.in-Shr.by) (shown c.in-Shr.by (subst (λ d. IsOperand d c.in-Shr.by) (sym c.in-Shr.is) (inr refl)))) f)) c.want_all-in-None-amount.ensures.asked

pub returns-in-None-amount-clause-only : goal.returns-in-None-amount-clause-only
returns-in-None-amount-clause-only c = on_ok c.want_all-in-None-amount.result (λ f cube n well is shown some w h.
    met_more (λ p. subst (λ d. AreMakers c.args.graph.now cube c.args.table.now d c.args.bits w) (sym c.in-Shr.is)
    (shr-any c.args.graph.now cube c.args.table.now c.args.bits c.in-Shr.a c.in-Shr.by w
    (c.in-None-amount.ensures (known cube (tree_of c.args.graph.now c.in-Shr.by)) (small-width c.args.graph.now well c.in-Shr.by) (shown c.in-Shr.by (subst (λ d. IsOperand d c.in-Shr.by) (sym c.in-Shr.is) (inr refl)))) some p)) (f w h)) c.want_all-in-None-amount.ensures.only

pub returns-in-Mux-clause-asked : goal.returns-in-Mux-clause-asked
returns-in-Mux-clause-asked c = on_ok c.want_choice.result (λ f cube n well is shown.
    subst (AskedOf c.args.graph.now cube c.args.table.now c.args.bits c.want_choice.new.self.wanted) (sym c.in-Mux.is)
    (λ i j x set made l place. f c.args.graph.now cube (let one = (subst (IsCellOf c.args.graph.now n) c.in-Mux.is is).1 in omega arith)
    (shown c.in-Mux.cond (subst (λ d. IsOperand d c.in-Mux.cond) (sym c.in-Mux.is) (inl refl))) i j x set made place)) c.want_choice.ensures.asked

pub returns-in-Mux-clause-only : goal.returns-in-Mux-clause-only
returns-in-Mux-clause-only c = on_ok c.want_choice.result (λ f cube n well is shown some w h.
    met_more (subst (λ d. AreMakers c.args.graph.now cube c.args.table.now d c.args.bits w) (sym c.in-Mux.is))
    (f c.args.graph.now cube (let one = (subst (IsCellOf c.args.graph.now n) c.in-Mux.is is).1 in omega arith)
    (shown c.in-Mux.cond (subst (λ d. IsOperand d c.in-Mux.cond) (sym c.in-Mux.is) (inl refl))) some w h)) c.want_choice.ensures.only

pub returns-in-Concat-clause-asked : goal.returns-in-Concat-clause-asked
returns-in-Concat-clause-asked c = on_ok c.want_parts.result (λ f cube n well is shown.
    subst (AskedOf c.args.graph.now cube c.args.table.now c.args.bits c.want_parts.new.self.wanted) (sym c.in-Concat.is)
    (λ i j x set made l place. f cube i j x set made place)) c.want_parts.ensures.asked

pub returns-in-Concat-clause-only : goal.returns-in-Concat-clause-only
returns-in-Concat-clause-only c = on_ok c.want_parts.result (λ f cube n well is shown some w h.
    met_more (subst (λ d. AreMakers c.args.graph.now cube c.args.table.now d c.args.bits w) (sym c.in-Concat.is)) (f cube w h)) c.want_parts.ensures.only

pub returns-in-Slice-clause-asked : goal.returns-in-Slice-clause-asked
returns-in-Slice-clause-asked c = on_ok c.want-in-Slice.result (λ f cube n well is shown.
    subst (AskedOf c.args.graph.now cube c.args.table.now c.args.bits c.want-in-Slice.new.self.wanted) (sym c.in-Slice.is)
    (slice-asked c.args.graph.now cube c.args.table.now c.args.bits well c.want-in-Slice.new.self.wanted c.in-Slice.a c.in-Slice.at c.in-Slice.width c.from.result c.shifted_left-in-Slice.result
    c.from.ensures c.shifted_left-in-Slice.ensures f)) c.want-in-Slice.ensures.asked

pub returns-in-Slice-clause-only : goal.returns-in-Slice-clause-only
returns-in-Slice-clause-only c = on_ok c.want-in-Slice.result (λ f cube n well is shown some w h.
    met_more (λ p. subst (λ d. AreMakers c.args.graph.now cube c.args.table.now d c.args.bits w) (sym c.in-Slice.is)
    (slice-only c.args.graph.now cube c.args.table.now c.args.bits c.in-Slice.a c.in-Slice.at c.in-Slice.width c.from.result c.shifted_left-in-Slice.result w
    c.from.ensures c.shifted_left-in-Slice.ensures c.shifted_left-in-Slice.type_inv p)) (f w h)) c.want-in-Slice.ensures.only

pub returns-in-Extend-clause-asked : goal.returns-in-Extend-clause-asked
returns-in-Extend-clause-asked c = on_ok c.want-in-Extend.result (λ f cube n well is shown.
    subst (AskedOf c.args.graph.now cube c.args.table.now c.args.bits c.want-in-Extend.new.self.wanted) (sym c.in-Extend.is)
    (extend-asked c.args.graph.now cube c.args.table.now c.args.bits well c.want-in-Extend.new.self.wanted c.in-Extend.a c.in-Extend.width c.width.result c.mask.result
    c.width.ensures c.mask.ensures f)) c.want-in-Extend.ensures.asked

pub returns-in-Extend-clause-only : goal.returns-in-Extend-clause-only
returns-in-Extend-clause-only c = on_ok c.want-in-Extend.result (λ f cube n well is shown some w h.
    met_more (λ p. subst (λ d. AreMakers c.args.graph.now cube c.args.table.now d c.args.bits w) (sym c.in-Extend.is)
    (extend-only c.args.graph.now cube c.args.table.now c.args.bits c.in-Extend.a c.in-Extend.width c.width.result c.mask.result w c.width.ensures c.mask.ensures p)) (f w h)) c.want-in-Extend.ensures.only

pub returns-in-Reduce-clause-asked : goal.returns-in-Reduce-clause-asked
returns-in-Reduce-clause-asked c = on_ok c.want-in-Reduce.result (λ f cube n well is shown.
    subst (AskedOf c.args.graph.now cube c.args.table.now c.args.bits c.want-in-Reduce.new.self.wanted) (sym c.in-Reduce.is)
    (reduce-asked c.args.graph.now cube c.args.table.now c.args.bits well c.want-in-Reduce.new.self.wanted c.in-Reduce.kind c.in-Reduce.a c.width-in-Reduce.result c.mask-in-Reduce.result
    c.width-in-Reduce.ensures c.mask-in-Reduce.ensures f)) c.want-in-Reduce.ensures.asked

pub returns-in-Reduce-clause-only : goal.returns-in-Reduce-clause-only
returns-in-Reduce-clause-only c = on_ok c.want-in-Reduce.result (λ f cube n well is shown some w h.
    met_more (λ p. subst (λ d. AreMakers c.args.graph.now cube c.args.table.now d c.args.bits w) (sym c.in-Reduce.is)
    (reduce-only c.args.graph.now cube c.args.table.now c.args.bits c.in-Reduce.kind c.in-Reduce.a c.width-in-Reduce.result c.mask-in-Reduce.result w c.width-in-Reduce.ensures c.mask-in-Reduce.ensures some p)) (f w h)) c.want-in-Reduce.ensures.only

pub returns-in-Eq-clause-asked : goal.returns-in-Eq-clause-asked
returns-in-Eq-clause-asked c = on_ok c.want_both.result (λ f cube n well is shown.
    of-two (AskedOf c.args.graph.now cube c.args.table.now c.args.bits c.want_both.new.self.wanted) c.args.cell (Eq c.in-Eq.a c.in-Eq.b) (Lt c.in-Eq.a c.in-Eq.b)
    (whole-asked c.args.graph.now cube c.args.table.now c.args.bits well c.want_both.new.self.wanted c.in-Eq.a c.in-Eq.b c.width-in-Eq.result c.mask-in-Eq.result c.width-in-Eq.ensures c.mask-in-Eq.ensures f)
    (whole-asked c.args.graph.now cube c.args.table.now c.args.bits well c.want_both.new.self.wanted c.in-Eq.a c.in-Eq.b c.width-in-Eq.result c.mask-in-Eq.result c.width-in-Eq.ensures c.mask-in-Eq.ensures f) c.in-Eq.is) c.want_both.ensures.asked

pub returns-in-Eq-clause-only : goal.returns-in-Eq-clause-only
returns-in-Eq-clause-only c = on_ok c.want_both.result (λ f cube n well is shown some w h.
    met_more (λ p. of-two (λ d. AreMakers c.args.graph.now cube c.args.table.now d c.args.bits w) c.args.cell (Eq c.in-Eq.a c.in-Eq.b) (Lt c.in-Eq.a c.in-Eq.b)
    (two-makers c.args.graph.now cube c.args.table.now c.args.bits (Eq c.in-Eq.a c.in-Eq.b) c.in-Eq.a c.in-Eq.b c.mask-in-Eq.result w (λ x k. k) (λ x j k s. (some.0, some.1, (k, ones-only c.mask-in-Eq.result c.width-in-Eq.result (cell_width c.args.graph.now c.in-Eq.a) j c.mask-in-Eq.ensures c.width-in-Eq.ensures s))) p)
    (two-makers c.args.graph.now cube c.args.table.now c.args.bits (Lt c.in-Eq.a c.in-Eq.b) c.in-Eq.a c.in-Eq.b c.mask-in-Eq.result w (λ x k. k) (λ x j k s. (some.0, some.1, (k, ones-only c.mask-in-Eq.result c.width-in-Eq.result (cell_width c.args.graph.now c.in-Eq.a) j c.mask-in-Eq.ensures c.width-in-Eq.ensures s))) p)
    c.in-Eq.is) (f w h)) c.want_both.ensures.only

pub returns-in-Add-clause-only : goal.returns-in-Add-clause-only
returns-in-Add-clause-only c = on_ok c.want_both-in-Add.result (λ f cube n well is shown some w h.
    met_more (λ p. of-two (λ d. AreMakers c.args.graph.now cube c.args.table.now d c.args.bits w) c.args.cell (Add c.in-Add.a c.in-Add.b) (Sub c.in-Add.a c.in-Add.b)
    (two-makers c.args.graph.now cube c.args.table.now c.args.bits (Add c.in-Add.a c.in-Add.b) c.in-Add.a c.in-Add.b c.up_to.result w (λ x k. k) (λ x j k s. let u = c.up_to.ensures.only j s in (u.0, u.1, (k, u.2))) p)
    (two-makers c.args.graph.now cube c.args.table.now c.args.bits (Sub c.in-Add.a c.in-Add.b) c.in-Add.a c.in-Add.b c.up_to.result w (λ x k. k) (λ x j k s. let u = c.up_to.ensures.only j s in (u.0, u.1, (k, u.2))) p)
    c.in-Add.is) (f w h)) c.want_both-in-Add.ensures.only

pub returns-in-And-clause-only : goal.returns-in-And-clause-only
returns-in-And-clause-only c = on_ok c.want_both-in-And.result (λ f cube n well is shown some w h.
    met_more (λ p. of-three (λ d. AreMakers c.args.graph.now cube c.args.table.now d c.args.bits w) c.args.cell (And c.in-And.a c.in-And.b) (Or c.in-And.a c.in-And.b) (Xor c.in-And.a c.in-And.b)
    (two-makers c.args.graph.now cube c.args.table.now c.args.bits (And c.in-And.a c.in-And.b) c.in-And.a c.in-And.b c.args.bits w (λ x k. k) (λ x j k s. (j, s, (k, refl))) p)
    (two-makers c.args.graph.now cube c.args.table.now c.args.bits (Or c.in-And.a c.in-And.b) c.in-And.a c.in-And.b c.args.bits w (λ x k. k) (λ x j k s. (j, s, (k, refl))) p)
    (two-makers c.args.graph.now cube c.args.table.now c.args.bits (Xor c.in-And.a c.in-And.b) c.in-And.a c.in-And.b c.args.bits w (λ x k. k) (λ x j k s. (j, s, (k, refl))) p)
    c.in-And.is) (f w h)) c.want_both-in-And.ensures.only
