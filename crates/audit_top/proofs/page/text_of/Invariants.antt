use Rattle.std.proofs.Common.{◌≡◌, ◌++◌, drop, map}
use Rattle.audit_top.specs.Pages.{text_of_lines}
use Rattle.audit_top.proofs.page.text_of.Given as goal

abbrev pub invariant-loop-line : goal.invariant-loop-line
invariant-loop-line l = text_of_lines (map (λ line. line.now) l.lines) ≡ l.text.items ++ text_of_lines (map (λ line. line.now) (drop l.line-index l.lines))
