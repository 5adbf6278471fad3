use Rattle.std.proofs.Common.{◌∙◌, ◌++◌, ◌∷◌, [], ap}
use Rattle.std.specs.Prelude.{codes}
use Rattle.json.specs.Json.{string}
use Rattle.report.specs.VerdictJson.{count_value, entry_tokens}
use Rattle.report.proofs.Tokens.{grows, grows-last}
use Rattle.report.proofs.json_verdict.add_cover.Goals as goal

pub returns : goal.returns
returns c =
    let old = c.args.output.now in
    let from = grows old c.begin_object.new.self c.add_bit_entry.new.output _ _ c.in_ok-begin_object.ensures c.in_ok-add_bit_entry.ensures in
    let number = grows old c.add_bit_entry.new.output c.add_count.new.output _ _ from
    (c.in_ok-add_count.ensures ∙ ap (λ n. c.add_bit_entry.new.output ++ entry_tokens ((codes "n", count_value n) ∷ [])) c.scheme_number.ensures) in
    let scheme = grows old c.add_count.new.output c.add_text.new.output _ _ number
    (c.in_ok-add_text.ensures ∙ ap (λ s. c.add_count.new.output ++ entry_tokens ((codes "scheme", string s) ∷ [])) c.scheme_name.ensures) in
    let to = grows old c.add_text.new.output c.add_bit_entry-2.new.output _ _ scheme c.in_ok-add_bit_entry-2.ensures in
    grows-last c.end_object.result old c.add_bit_entry-2.new.output c.end_object.new.self _ _ to c.end_object.ensures
