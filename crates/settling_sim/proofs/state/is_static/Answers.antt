use Rattle.std.proofs.Common.{◌∙◌, ◌≡◌, ◌==◌, ap, rules}
use Rattle.std.specs.List.{list_any}
use Rattle.std.specs.List.Sorted.{IsBinarySearchResult}
use Rattle.std.proofs.lemmas.List.Sorted.{searched}
use Rattle.settling_sim.proofs.Statics.{rising, found-listed, is_found}
use Rattle.settling_sim.proofs.state.is_static.Goals as goal

pub returns : goal.returns
returns c = λ ascending.
    let same : c.as_slice.result.now ≡ c.args.domains.now.statics = c.as_slice.ensures in
    let rises = rising c.as_slice.result.now (search rules) in
    let found = searched c.as_slice.result.now c.args.sig c.binary_search.result (search rules) rises in
    let listed = found-listed c.as_slice.result.now c.args.sig c.binary_search.result found in
    let test : c.is_ok.result ≡ is_found c.binary_search.result = search rules in
    test ∙ listed ∙ ap (list_any (λ s. s == c.args.sig)) same
