use Rattle.serde_json.specs.View.{view}
use Rattle.run_file.proofs.Documents.{answer_fits}
use Rattle.run_file.proofs.file.read.Goals as goal

pub returns-clause-fit : goal.returns-clause-fit
returns-clause-fit c = λ is can.
    answer_fits c.args.net.now c.args.domains.now is c.args.text.now (view c.in-Ok.tree) c.in_ok-document.document c.record.result
    c.in-Ok.ensures.ok c.in_ok-document.ensures.gives (c.record.ensures.gives can)
