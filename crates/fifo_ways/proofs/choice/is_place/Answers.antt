-- The terms that were found are those of the index, or none of them is on the count.
use Rattle.std.proofs.Common.{◌∙◌, subst, refl, true, None, Some}
use Rattle.cdc_model.specs.Nets.{design_of}
use Rattle.fifo_nodes.specs.Terms.{terms_at}
use Rattle.fifo_ways.specs.Steps.{IsIndexCell}
use Rattle.fifo_ways.proofs.Places.{no_index, decided}
use Rattle.fifo_ways.proofs.choice.is_place.Goals as goal

pub returns-in_default : goal.returns-in_default
returns-in_default c = λ domains side plain shown is index.
    let g = c.args.net.now.graph in
    let none = subst (λ ts. IsIndexCell g ts c.args.index.count None) c.as_slice.ensures c.in_default.ensures in (
      (λ t. cc),
      λ h. absurd (no_index g plain (design_of c.args.net.now domains) (λ sig. refl) side c.args.index index (terms_at g c.args.cond true)
          c.in_ok-terms.terms
          (c.in_ok-terms.ensures plain shown is) c.args.place none h),
    )

pub returns : goal.returns
returns c = λ domains side plain shown is index.
    let g = c.args.net.now.graph in
    let some = subst (λ ts. IsIndexCell g ts c.args.index.count (Some c.in-Some.cell)) c.as_slice.ensures c.in-Some.ensures in
    decided g plain (design_of c.args.net.now domains) (λ sig. refl) side c.args.index index (terms_at g c.args.cond true) c.in_ok-terms.terms
    (c.in_ok-terms.ensures plain shown is) c.args.place
    c.in-Some.cell some c.as_slice-2.result.now c.as_slice-3.result.now c.as_slice-2.ensures (c.as_slice-3.ensures ∙ c.in_ok-wanted.ensures)
    c.have_one_set.result (c.have_one_set.ensures g plain)
