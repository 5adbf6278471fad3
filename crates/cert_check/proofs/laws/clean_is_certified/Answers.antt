-- A verdict without findings justifies the design by its lists.
use Rattle.cert_check.proofs.Clean.{clean_certifies}
use Rattle.cert_check.proofs.laws.clean_is_certified.Goals as goal

pub returns : goal.returns
returns c = λ net domains fifos e w all clean cert h. clean_certifies net domains fifos e w all clean cert h
