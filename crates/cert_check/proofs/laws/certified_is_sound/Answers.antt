-- The induction over runs, with the FIFOs of the certificate.
use Rattle.cert_check.proofs.Promises.{keep_order, sound_by, together_by}
use Rattle.cert_check.proofs.laws.certified_is_sound.Goals as goal

pub returns : goal.returns
returns c = record {
  sound = λ net domains cert fits k. sound_by net domains cert fits k;
  together = λ net domains cert fits k. together_by net domains cert fits k;
  order = λ net domains cert fits k. keep_order net domains cert fits k;
}
