-- By the search's own answer.
use Rattle.std.proofs.Common.{◌∙◌, rules}
use Rattle.std.proofs.lemmas.List.Sorted.{answers_always}
use Rattle.obligations.proofs.Codes.{code_found}
use Rattle.obligations.proofs.covers.is_code.Goals as goal

pub returns : goal.returns
returns c = λ up.
    c.is_ok.ensures.value ∙ code_found c.args.grays.now up c.args.word c.binary_search_by_key.result c.binary_search_by_key.ensures.bound
    (c.binary_search_by_key.ensures.position (λ r. r.gray) (answers_always _ _ _ (λ f a r g called. search rules)))
