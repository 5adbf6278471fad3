use Rattle.std.proofs.Common.{◌≡◌, ◌∙◌, refl, sym, ap, true, false}
use Rattle.cell_graph.specs.Tree.{Var}
use Rattle.flat_meaning.specs.Design.{is_variable, kind_in, kind_is_variable, size_in, width_in}
use Rattle.flat_meaning.specs.Pieces.{wire_select}
use Rattle.flat_meaning.specs.Trees.{cut}
use Rattle.elaborate.specs.Counts.{capped, cells_in}
use Rattle.elaborate.proofs.Vertices.{of-variable, of-wire}
use Rattle.elaborate.proofs.count.Counts.read.Goals as goal

pub returns-then-is_variable_in : goal.returns-then-is_variable_in
returns-then-is_variable_in c = λ f sel can known.
    let sig = c.args.sig in let n = size_in f sig in
    let variable : is_variable f sig ≡ true = ap (λ ss. kind_is_variable (kind_in ss sig)) can.same ∙ sym c.is_variable_in.ensures ∙ c.if-is_variable_in.true in
    let wide : n ≡ c.signal_width.result = ap (λ ss. width_in ss sig) can.same ∙ sym c.signal_width.ensures in
    c.cut.ensures (Var sig n) c.args.at refl ∙ ap (λ w. capped (cells_in (cut w c.args.at c.args.width (Var sig n)))) (sym wide)
    ∙ ap (λ t. capped (cells_in t)) (sym (of-variable f sel can.trees sig c.args.at c.args.width variable))

pub returns-else-is_variable_in : goal.returns-else-is_variable_in
returns-else-is_variable_in c = λ f sel can known.
    let sig = c.args.sig in
    let wire : is_variable f sig ≡ false = ap (λ ss. kind_is_variable (kind_in ss sig)) can.same ∙ sym c.is_variable_in.ensures ∙ c.if-is_variable_in.false in
    c.driven.ensures sel (known wire)
    ∙ ap (λ t. capped (cells_in t)) (ap (λ ps. wire_select ps c.args.at c.args.width) (can.sketch.pieces sel sig) ∙ sym (of-wire f sel can.trees sig c.args.at c.args.width wire))
