-- Each finding that is missing gives one condition.
use Rattle.cdc_model.proofs.CleanVerdict.{justified, one_family, covers_are}
use Rattle.cdc_model.proofs.laws.clean_is_justified.Goals as goal

pub returns : goal.returns
returns c = λ d t is_extra syncs loads v k clean. (
  justified d t is_extra syncs loads v k clean,
  one_family d t is_extra syncs loads v k clean,
  covers_are d t is_extra syncs loads v k clean,
)
