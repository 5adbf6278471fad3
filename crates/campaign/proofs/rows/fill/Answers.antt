-- Rows with the words of the runs give each lane the values of its run.
use Rattle.std.proofs.Common.{◌≡◌, ◌∙◌, List, ℕ, sym, ap, subst}
use Rattle.cell_graph.specs.Values.{AreWordsOf, values_of}
use Rattle.campaign.specs.Lanes.{lane}
use Rattle.campaign.proofs.rows.fill.Goals as goal

pub returns-clause-filled : goal.returns-clause-filled
returns-clause-filled c = λ well signals counted i r low small there fit.
    let words : lane i c.put_words.new.rows ≡ r.moment.words.items = c.put_words.ensures.put i r small small there (c.put_words.ensures.length ∙ signals ∙ sym fit.counted) in
    c.fill.ensures.filled well counted i small (subst (λ (ws : List ℕ). AreWordsOf c.args.net.now.graph.signals ws) (sym words) fit)
    ∙ ap (values_of c.args.net.now.graph) words
