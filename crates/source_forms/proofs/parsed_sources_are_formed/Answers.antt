use Rattle.source_forms.proofs.Texts.{parsed_are_formed}
use Rattle.source_forms.proofs.parsed_sources_are_formed.Goals as goal

pub returns : goal.returns
returns c = parsed_are_formed
