use Rattle.std.proofs.Common.{◌≡◌, ◌<◌, ◌∙◌, sym, ap, subst, arith, length, true, false}
use Rattle.cell_graph.specs.Cells.{signal_width}
use Rattle.cell_graph.specs.Tree.{Var}
use Rattle.flat_meaning.specs.Design.{is_variable, size_in}
use Rattle.flat_meaning.specs.Pieces.{wire_select}
use Rattle.elaborate.specs.Lowered.{HasTree}
use Rattle.elaborate.proofs.Grown.{grows_trans}
use Rattle.elaborate.proofs.Vertices.{of-variable, of-wire, variable-word, word-there, word-wide}
use Rattle.elaborate.proofs.lower.Lowering.read.Goals as goal

pub returns-in_ok-bits-clause-grown : goal.returns-in_ok-bits-clause-grown
returns-in_ok-bits-clause-grown c = grows_trans c.args.self.now.graph c.add.new.self.graph c.cut.new.self.graph c.in_ok-variable.ensures.grown c.in_ok-bits.ensures.grown

pub returns-in_ok-bits-clause-read : goal.returns-in_ok-bits-clause-read
returns-in_ok-bits-clause-read c = λ f sel can some room wide known.
    let sig = c.args.sig in let n = size_in f sig in
    let variable : is_variable f sig ≡ true = sym (variable-word f c.args.self.now.graph.signals can.words sig) ∙ sym c.is_variable.ensures ∙ c.if-is_variable.true in
    let made = c.in_ok-variable.ensures.made (subst (λ ss. sig < length ss) (sym can.words) (word-there f.signals sig (omega (arith, some, room)))) in
    let size : signal_width c.add.new.self.graph.signals sig ≡ n =
    ap (λ ss. signal_width ss sig) (c.in_ok-variable.ensures.signals ∙ can.words) ∙ word-wide f.signals sig (omega (arith, some, room)) wide in
    let bits = c.in_ok-bits.ensures.cut (Var sig n) n (record { word = (made.there, made.wide ∙ size); tree = made.tree ∙ ap (Var sig) size }) some room in
    subst (λ t. HasTree c.cut.new.self.graph c.in_ok-bits.bits t c.args.width) (sym (of-variable f sel can.trees sig c.args.at c.args.width variable)) bits

pub returns-in_ok-bits-2-clause-read : goal.returns-in_ok-bits-2-clause-read
returns-in_ok-bits-2-clause-read c = λ f sel can some room wide known.
    let sig = c.args.sig in
    let wire : is_variable f sig ≡ false = sym (variable-word f c.args.self.now.graph.signals can.words sig) ∙ sym c.is_variable.ensures ∙ c.if-is_variable.false in
    let bits = c.in_ok-bits-2.ensures.driven sel (known wire) in
    subst (λ t. HasTree c.driven.new.self.graph c.in_ok-bits-2.bits t c.args.width)
    (ap (λ ps. wire_select ps c.args.at c.args.width) (can.sketch.pieces sel sig) ∙ sym (of-wire f sel can.trees sig c.args.at c.args.width wire)) bits
