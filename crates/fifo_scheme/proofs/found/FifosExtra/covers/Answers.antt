-- The list has what is listed.
use Rattle.std.proofs.Common.{◌≡◌, ◌↔◌, sym, subst, true, rules, List, Contains}
use Rattle.cdc_model.specs.declared.scheme.Crossing.{Crossing}
use Rattle.fifo_scheme.specs.Found.{is_listed}
use Rattle.fifo_scheme.proofs.Listing.{listed_tells}
use Rattle.fifo_scheme.proofs.found.FifosExtra.covers.Goals as goal

pub returns-clause-listed : goal.returns-clause-listed
returns-clause-listed c = λ b x.
    let all : c.as_slice.result.now ≡ c.args.self.now.crossings = search rules in
    subst (λ (cs : List Crossing). (is_listed c.args.self.now.crossings b x ≡ true)
    ↔ Contains cs (record { from = b; to = x })) (sym all) (listed_tells b x c.args.self.now.crossings)
