use Rattle.certify_command.proofs.Certifies.{lists_all}
use Rattle.certify_command.proofs.certificate_of.Goals as goal

pub returns : goal.returns
returns c = λ can is.
    lists_all c.args.net.now c.args.domains.now can c.args.judged is _ _ c.as_slice-crossings.ensures c.as_slice.ensures c.in_ok-loads.loads c.in_ok-loads.ensures.exact
