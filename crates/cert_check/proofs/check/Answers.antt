-- What is answered decides whether the certificate certifies the net, and so what it promises.
use Rattle.cert_check.proofs.Promises.{keep_order, sound_by, together_by}
use Rattle.cert_check.proofs.WithFifos.{certified_holds, holding}
use Rattle.cert_check.proofs.check.Goals as goal

pub returns : goal.returns
returns c =
    let net = c.args.net.now in
    let domains = c.args.domains.now in
    let cert = c.args.certificate.now in
    let checked = c.in_ok-checked.checked in
    record {
      exact = c.in_ok-checked.ensures;
      certified = λ can k. certified_holds net domains cert k checked (c.in_ok-checked.ensures can);
      sound = λ can h. sound_by net domains cert can.fits (holding net domains cert checked (c.in_ok-checked.ensures can) h);
      together = λ can h. together_by net domains cert can.fits (holding net domains cert checked (c.in_ok-checked.ensures can) h);
      order = λ can h. keep_order net domains cert can.fits (holding net domains cert checked (c.in_ok-checked.ensures can) h);
    }
