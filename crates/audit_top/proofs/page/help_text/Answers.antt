use Rattle.audit_top.specs.Pages.{help_lines}
use Rattle.audit_top.proofs.page.help_text.Goals as goal

pub returns : goal.returns
unfolding help_lines
returns c = c.text_of.ensures
