use Rattle.std.proofs.Common.{◌∙◌, ap, sym}
use Rattle.std.specs.Prelude.{not}
use Rattle.std.specs.List.{list_any}
use Rattle.std.specs.Str.{bytes_eq}
use Rattle.report.specs.Greedy.{has_star}
use Rattle.report.proofs.Search.{any-same}
use Rattle.report.proofs.waivers.is_unmet.Goals as goal

pub returns : goal.returns
returns c =
    let lines = c.args.lines.now in
    ap not (c.contains.ensures ∙ c.requires c.as_str.result.now ∙ ap (λ f. list_any (bytes_eq f) lines) c.as_str.ensures
    ∙ any-same c.args.waiver.now.finding lines (sym (c.if-has_star.ensures ∙ ap has_star c.as_bytes.ensures)))
