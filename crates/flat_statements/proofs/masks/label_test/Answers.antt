use Rattle.flat_names.proofs.Options.{ok-map}
use Rattle.flat_statements.proofs.Tests.{label-test}
use Rattle.flat_statements.proofs.masks.label_test.Goals as goal

pub returns : goal.returns
returns c = let s = c.in_ok-subject in
    ok-map c.binary_expr.result
    (λ e m. label-test c.args.size c.value_at.result _ c.args.subject.now s.subject c.in_ok-compared.compared e c.args.label.now s.ensures.same s.ensures.kept c.in_ok-compared.ensures c.value_at.ensures m) c.binary_expr.ensures
