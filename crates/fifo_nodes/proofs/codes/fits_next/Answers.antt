-- The node fits by its own cell or by that of an operand.
use Rattle.std.proofs.Common.{◌≡◌, ◌≤◌, ◌∙◌, sym, refl, subst, inl, inr, arith, true, false, option_map}
use Rattle.cell_graph.specs.Unfolded.{bit_of}
use Rattle.cofactor.proofs.Places.{if_ok}
use Rattle.gray_pointer.proofs.Wholes.{in_graph}
use Rattle.fifo_nodes.specs.Codes.{AreOperands}
use Rattle.fifo_nodes.specs.Terms.{terms_of}
use Rattle.fifo_nodes.proofs.NextCodes.{fits_some, fits_alone, fits_operands}
use Rattle.fifo_nodes.proofs.codes.fits_next.Goals as goal

pub returns-in_default : goal.returns-in_default
returns-in_default c = λ plain shown code under inside low.
    let g = c.args.net.now.graph in
    let w = c.args.code.now.width in
    let x = option_map (bit_of g) c.args.node in
    let wide : 1 ≤ w = (let k = code.wide in omega arith) in
    let none = subst (AreOperands g x) c.in_default.is (c.operands_of.ensures plain inside) in
    let own = c.in_ok-fits_cell.ensures plain shown code under inside inside low in (
      λ t. cc,
      λ h. let t : true ≡ false = sym (own.1 (fits_alone g c.args.code.now.count w
          (terms_of g c.args.under.now) c.args.at x c.args.node refl wide low none h)) ∙ c.if-branch.false in cc,
    )

pub returns : goal.returns
returns c = if_ok c.fits_cell-3.result
    (λ t h plain shown code under inside low.
    let g = c.args.net.now.graph in
    let b = c.args.code.now.count in
    let w = c.args.code.now.width in
    let ts = terms_of g c.args.under.now in
    let x = option_map (bit_of g) c.args.node in
    let wide : 1 ≤ w = (let k = code.wide in omega arith) in
    let sides = c.in-Some.sides in
    let are = subst (AreOperands g x) c.in-Some.is (c.operands_of.ensures plain inside) in
    let one = in_graph g c.origin-one.result (λ n e. (c.origin-one.ensures.within plain.well are.2 n e).0) in
    let another = in_graph g c.origin-another.result (λ n e. (c.origin-another.ensures.within plain.well are.3 n e).0) in
    let first = c.in_ok-fits_cell.ensures plain shown code under inside inside low in
    let second = c.in_ok-fits_cell-2.ensures plain shown code under inside one low in
    let third = h plain shown code under inside another low in (
      λ r. fits_some g b w ts c.args.at x c.origin-another.result (third.0 r),
      λ f. elim (fits_operands g b w ts c.args.at x c.args.node refl wide low sides are c.origin-one.result c.origin-another.result
          (c.origin-one.ensures.exact plain.well are.2) (c.origin-another.ensures.exact plain.well are.3) f) [
            | inl k ↦ let u : true ≡ false = sym (first.1 k) ∙ c.if-branch.false in cc
            | inr (inl k) ↦ let u : true ≡ false = sym (second.1 k) ∙ c.if-branch-2.false in cc
            | inr (inr k) ↦ third.1 k
          ],
    ))
    c.fits_cell-3.ensures
