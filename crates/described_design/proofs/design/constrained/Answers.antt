use Rattle.std.proofs.Common.{Ok, refl, rules}
use Rattle.std.specs.Prelude.{IfErr}
use Rattle.cofactor.specs.contracts.nodes.PlainCofactors.TheImpl as plain
use Rattle.domains.specs.Assignment.{AreDomains}
use Rattle.domains.specs.Fit.{Fit}
use Rattle.refusals.specs.Numbers.{assignment_numbers}
use Rattle.command_files.specs.Endings.{HasCause, IsOfFiles}
use Rattle.described_design.proofs.Designs.{given_holds, is_design}
use Rattle.verilog_reading.specs.SourceTree.{source_of}
use Rattle.described_design.specs.Refused.{IsDesignRefused}
use Rattle.described_design.proofs.Refused.{caused, domains_cause}
use Rattle.described_design.proofs.design.constrained.Goals as goal

pub returns-in_err-domains-clause-of_files : goal.returns-in_err-domains-clause-of_files
returns-in_err-domains-clause-of_files c =
    let refused : IfErr c.or_refused.result IsOfFiles = c.or_refused.ensures.ended assignment_numbers refl c.assign-domains.ensures.numbered in
    search rules

pub returns-clause-design : goal.returns-clause-design
returns-clause-design c = λ fits.
    let net = c.in_ok-net.net in
    let is = c.in_ok-net.ensures.is_net in
    let assigned = given_holds (AreDomains plain.ghosts.reads net c.args.constraints.now) _ (Ok c.in_ok-domains.domains) c.in_ok-domains.ensures.given (c.assign-domains.ensures.domains is) in
    let fit = given_holds (Fit net) _ (Ok c.in_ok-domains.domains) c.in_ok-domains.ensures.given (c.assign-domains.ensures.fit is fits) in
    is_design _ _ _ is c.in_ok-net.ensures.next_cells c.in_ok-net.ensures.shared c.in_ok-net.ensures.started assigned fit c.in_ok-check_numbers.ensures

pub returns-in_err-domains-clause-refused : goal.returns-in_err-domains-clause-refused
returns-in_err-domains-clause-refused c = λ formed.
    let modules = source_of c.args.source.now in
    let constraints = c.args.constraints.now in
    let is = c.in_ok-net.ensures.is_net in
    let refused : IfErr c.or_refused.result (HasCause (λ status fault. IsDesignRefused modules constraints fault status))
    = caused (λ status fault. IsDesignRefused modules constraints fault status) _ _ _ c.or_refused.ensures.exact
    (domains_cause modules constraints c.in_ok-net.net (c.in_ok-net.ensures.unfolded formed) is _ (c.assign-domains.ensures.refused is)) in
    search rules
