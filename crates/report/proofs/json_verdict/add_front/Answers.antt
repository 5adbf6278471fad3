use Rattle.report.proofs.Tokens.{grows, grows-last}
use Rattle.report.proofs.json_verdict.add_front.Goals as goal

pub returns : goal.returns
returns c =
    let old = c.args.output.now in
    let clean = grows old c.key.new.self c.truth.new.self _ _ c.in_ok-key.ensures c.in_ok-truth.ensures in
    let key = grows old c.truth.new.self c.key-2.new.self _ _ clean c.in_ok-key-2.ensures in
    let covers = grows old c.key-2.new.self c.add_covers.new.output _ _ key c.in_ok-add_covers.ensures in
    grows-last c.add_count.result old c.add_covers.new.output c.add_count.new.output _ _ covers c.add_count.ensures
