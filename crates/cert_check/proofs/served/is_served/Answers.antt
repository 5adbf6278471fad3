-- By where the search ends.
use Rattle.std.proofs.Common.{◌∙◌, sym}
use Rattle.cert_check.specs.declared.served.Passage.{Passage}
use Rattle.cert_check.proofs.Searches.{found_passage}
use Rattle.cert_check.proofs.served.is_served.Goals as goal

pub returns : goal.returns
returns c = λ sorted.
    let p : Passage = record { to = c.args.crossing.now.to; from = c.args.crossing.now.from } in
    let f = found_passage c.args.served.now p c.binary_search.result c.binary_search.ensures.bound c.binary_search.ensures.position sorted in
    ((λ e. f.0 (sym c.is_ok.ensures.value ∙ e)), λ i. c.is_ok.ensures.value ∙ f.1 i)
