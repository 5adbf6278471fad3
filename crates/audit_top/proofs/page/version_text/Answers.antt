use Rattle.audit_top.specs.Pages.{version_lines}
use Rattle.audit_top.proofs.page.version_text.Goals as goal

pub returns : goal.returns
unfolding version_lines
returns c = c.text_of.ensures
