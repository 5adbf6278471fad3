use Rattle.std.proofs.Common.{◌≤◌, ◌^◌, Ok, length, refl, rules}
use Rattle.std.specs.Prelude.{IfErr}
use Rattle.cert_text.specs.Read.{certificate_numbers}
use Rattle.cert_text.specs.Texts.{entries_of}
use Rattle.command_files.specs.Endings.{HasCause, IsOfFiles}
use Rattle.described_design.proofs.Designs.{given_gives, given_holds}
use Rattle.described_design.proofs.Refused.{caused}
use Rattle.check_command.specs.Refused.{IsBrokenCertificate}
use Rattle.check_command.proofs.Checks.{can_check, unread_cause}
use Rattle.check_command.proofs.checked_on.Goals as goal

pub returns-in_err-certificate-clause-of_files : goal.returns-in_err-certificate-clause-of_files
returns-in_err-certificate-clause-of_files c =
    let refused : IfErr c.or_refused.result IsOfFiles = c.or_refused.ensures.ended certificate_numbers refl c.read.ensures.numbered in
    search rules

pub returns-in_err-certificate-clause-refused : goal.returns-in_err-certificate-clause-refused
returns-in_err-certificate-clause-refused c = λ can.
    let net = c.args.net.now in
    let cert = c.args.cert.now in
    let refused : IfErr c.or_refused.result (HasCause (λ status fault. IsBrokenCertificate net cert fault status))
    = caused (λ status fault. IsBrokenCertificate net cert fault status) _ _ _ c.or_refused.ensures.exact (unread_cause net cert _ (c.read.ensures.gives can.numbered)) in
    search (rules, refused, c.in_err-certificate.was, c.from_residual.ensures.0, c.from_residual.ensures.1)

pub returns-clause-exact : goal.returns-clause-exact
returns-clause-exact c = λ can.
    let certificate = c.in_ok-certificate.certificate in
    let few = given_holds (λ made. length c.args.net.now.graph.signals ≤ 2 ^ 32 → length (entries_of made) ≤ length c.args.cert.now) _ (Ok certificate)
    c.in_ok-certificate.ensures.given c.read.ensures.few can.numbered in
    let check = can_check c.args.net.now c.args.domains.now certificate c.args.cert.now can few c.requires in
    let told = c.in_ok-checked.ensures in
    record {
      certificate = certificate;
      reads = given_gives _ _ certificate c.in_ok-certificate.ensures.given (c.read.ensures.gives can.numbered);
      exact = told.exact check;
      certified = told.certified check;
      sound = told.sound check;
      together = told.together check;
      in_order = told.order check;
    }
