-- The one word that is asked for is a count word where all are.
use Rattle.std.specs.HashSet.{keys}
use Rattle.cell_graph.specs.contracts.cell.CellIdPartialEq.TheImpl as equality
use Rattle.cofactor.proofs.Places.{if_ok}
use Rattle.gray_pointer.proofs.Counts.{one_asked, asked_alone, same_id}
use Rattle.gray_pointer.proofs.shapes.is_count.Goals as goal

pub returns : goal.returns
returns c = if_ok c.are_counts.result
    (λ t h plain shown has wide.
    let g = c.args.net.now.graph in
    let w = c.args.register.now.width in
    let met = keys c.add.new.self.met in
    let left = c.add.new.self.left.items in
    asked_alone g c.args.register.now.sig w equality.ghosts.eq same_id c.args.cell (keys c.new-words.result.met) c.new-words.result.left.items met left c.new-words.ensures.met c.new-words.ensures.left
    c.in_ok-add.ensures t
    (h plain shown wide (one_asked g w equality.ghosts.eq c.args.cell (keys c.new-words.result.met) c.new-words.result.left.items met left c.new-words.ensures.met c.new-words.ensures.left has c.in_ok-add.ensures)))
    c.are_counts.ensures
