-- Each of its lists is the only one.
use Rattle.cdc_model.proofs.CleanVerdict.{one_verdict}
use Rattle.cdc_model.proofs.Listing.{one_listing, one_net_verdict}
use Rattle.cdc_model.proofs.laws.verdict_is_one.Goals as goal

pub returns : goal.returns
returns c = record { verdict = one_verdict; listed = one_listing; net = one_net_verdict }
