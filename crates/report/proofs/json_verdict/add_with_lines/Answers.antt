use Rattle.std.proofs.Common.{◌∙◌, ◌++◌, ◌∷◌, [], ap}
use Rattle.std.specs.Prelude.{codes}
use Rattle.json.specs.Json.{string}
use Rattle.report.specs.VerdictJson.{at_value, entry_tokens}
use Rattle.report.proofs.Tokens.{grows, grows-last}
use Rattle.report.proofs.json_verdict.add_with_lines.Goals as goal

pub returns : goal.returns
returns c =
    let old = c.args.output.now in
    let place = grows old c.begin_object.new.self c.add_at.new.output _ _ c.in_ok-begin_object.ensures
    (c.in_ok-add_at.ensures ∙ ap (λ p. c.begin_object.new.self ++ entry_tokens ((codes "at", at_value p) ∷ [])) c.place_of.ensures) in
    let code = grows old c.add_at.new.output c.add_text.new.output _ _ place
    (c.in_ok-add_text.ensures ∙ ap (λ s. c.add_at.new.output ++ entry_tokens ((codes "code", string s) ∷ [])) c.code_of.ensures) in
    let lines = grows old c.add_text.new.output c.add_told.new.output _ _ code c.in_ok-add_told.ensures in
    grows-last c.end_object.result old c.add_told.new.output c.end_object.new.self _ _ lines c.end_object.ensures
