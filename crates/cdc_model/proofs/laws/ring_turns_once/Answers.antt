-- Each bit of the ring takes its own value or its neighbor's.
use Rattle.cdc_model.proofs.Rings.{ring_step}
use Rattle.cdc_model.proofs.laws.ring_turns_once.Goals as goal

pub returns : goal.returns
returns c = λ d t syncs laws ok r k edges old new step only only_new turn. ring_step d t laws syncs ok edges old new step only only_new r k turn
