-- The terms that are there, or those that were found.
use Rattle.std.proofs.Common.{◌∙◌, sym, refl, subst}
use Rattle.fifo_nodes.specs.Takes.{AreAskedIn, condition_terms}
use Rattle.fifo_nodes.specs.Terms.{AreTerms}
use Rattle.fifo_nodes.proofs.Asking.{same_asked}
use Rattle.fifo_nodes.proofs.takes.Conditions.renew.Goals as goal

pub are_equal-requires : goal.are_equal-requires
are_equal-requires c = same_asked

pub returns-then-are_equal : goal.returns-then-are_equal
returns-then-are_equal c = λ plain shown within are. (are, sym c.as_slice.ensures ∙ c.are_equal.ensures c.if-are_equal.true ∙ c.as_slice-2.ensures)

pub returns : goal.returns
returns c = λ plain shown within are.
    let g = c.args.net.now.graph in (
      subst (λ qs. AreTerms g (condition_terms g qs) c.in_ok-self.field-0) c.as_slice-3.ensures
          (c.in_ok-self.ensures plain shown (subst (AreAskedIn g) (sym c.as_slice-3.ensures) within)),
      refl,
    )
