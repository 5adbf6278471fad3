-- Each form of an expression reads as its parts make it, and notes what they note.
use Rattle.std.proofs.Common.{◌≡◌, ◌+◌, ◌∷◌, drop, sym, ap, subst, ◌∙◌}
use Rattle.std.proofs.lemmas.List.{drop_more}
use Rattle.verilog_ast.specs.declared.Expr.{Expr}
use Rattle.verilog_reading.specs.ExprTree.{tree_of}
use Rattle.flat_unfolding.specs.Expressions.{read}
use Rattle.flat_unfolding.specs.Formed.{IsFormed}
use Rattle.flat_names.specs.Pieces.{piece, IsRead}
use Rattle.flat_names.proofs.Options.{ok-map}
use Rattle.flat_names.proofs.Fit.{fit}
use Rattle.flat_names.proofs.Trees.{tree-number, tree-index, tree-part, tree-unary, tree-binary, tree-choice, tree-join, tree-repeat}
use Rattle.flat_names.proofs.Named.{Reads, number-notes}
use Rattle.flat_names.proofs.Written.{index-reads, part-reads, unary-reads, binary-reads, choice-reads, join-reads, repeat-reads, trees, IsPartly, next-part}
use Rattle.flat_names.proofs.expr.+resolve.Goals as goal

pub part_of-returns-in-Number : goal.part_of-returns-in-Number
part_of-returns-in-Number t c = λ l shows is formed.
    let n = c.in-Number in
    let tree = tree-number c.args.expr.now n.value n.width n.size n.is in
    subst (λ e. Reads l e c.args.faults.now c.args.faults.now c.number.result) (sym tree)
    (c.number.ensures l (subst IsFormed tree formed), number-notes l c.args.faults.now n.value n.width n.size)

pub part_of-returns-in_ok-index-in-At : goal.part_of-returns-in_ok-index-in-At
part_of-returns-in_ok-index-in-At t c = λ l shows is formed.
    let i = c.in-At in
    let a = c.deref.result.now in
    let e = tree_of a in
    let tree = tree-index c.args.expr.now i.name i.index a i.is c.deref.ensures in
    let inner = subst IsFormed tree formed in
    let first = c.in_ok-part_of-in-At.ensures l shows is inner in
    let second = c.in_ok-index-in-At.ensures (piece l e) first.0 (fit l is e inner) in
    ok-map c.index_read.result
    (λ r h. subst (λ z. Reads l z c.args.faults.now c.index_read.new.faults r) (sym tree)
    (index-reads l i.name e c.args.faults.now c.note_unknown.new.faults c.part_of.new.faults c.settled.new.faults c.index_read.new.faults r (c.in_ok-note_unknown-in-At.ensures l shows) first.1 second.1 h))
    (c.index_read.ensures l (read l e) shows is (subst (IsRead (read l e)) (sym second.0) first.0.is))

pub part_of-returns-in_ok-right-in-Part : goal.part_of-returns-in_ok-right-in-Part
part_of-returns-in_ok-right-in-Part t c = λ l shows is formed.
    let i = c.in-Part in
    let a = c.deref-in-Part.result.now in
    let b = c.deref-in-Part-2.result.now in
    let tree = tree-part c.args.expr.now i.name i.kind i.left i.right a b i.is c.deref-in-Part.ensures c.deref-in-Part-2.ensures in
    let inner = subst IsFormed tree formed in
    let first = c.in_ok-part_of-in-Part.ensures l shows is inner.0 in
    let second = c.in_ok-left-in-Part.ensures.read (piece l (tree_of a)) first.0 (fit l is (tree_of a) inner.0) in
    let third = c.in_ok-part_of-in-Part-2.ensures l shows is inner.1 in
    let fourth = c.in_ok-right-in-Part.ensures.read (piece l (tree_of b)) third.0 (fit l is (tree_of b) inner.1) in
    ok-map c.part_read.result
    (λ r h. subst (λ z. Reads l z c.args.faults.now c.part_read.new.faults r) (sym tree)
    (part-reads l i.name i.kind (tree_of a) (tree_of b) c.args.faults.now c.note_unknown-in-Part.new.faults c.part_of-in-Part.new.faults c.settled_constant.new.faults c.part_of-in-Part-2.new.faults c.settled_constant-in-Part.new.faults
    c.part_read.new.faults r is inner.1 (c.in_ok-note_unknown-in-Part.ensures l shows) first.1 second.1 third.1 fourth.1 h))
    (c.part_read.ensures l (read l (tree_of a)) (read l (tree_of b)) shows is second.0 fourth.0)

pub part_of-returns-in_ok-a-in-Unary : goal.part_of-returns-in_ok-a-in-Unary
part_of-returns-in_ok-a-in-Unary t c = λ l shows is formed.
    let i = c.in-Unary in
    let a = c.deref-in-Unary.result.now in
    let tree = tree-unary c.args.expr.now i.op i.a a i.is c.deref-in-Unary.ensures in
    let inner = subst IsFormed tree formed in
    let first = c.in_ok-a-in-Unary.ensures l shows is inner in
    ok-map c.unary.result
    (λ r h. subst (λ z. Reads l z c.args.faults.now c.part_of-in-Unary.new.faults r) (sym tree) (unary-reads l i.op (tree_of a) c.args.faults.now c.part_of-in-Unary.new.faults r first.1 h))
    (c.unary.ensures l (piece l (tree_of a)) first.0 (fit l is (tree_of a) inner))

pub part_of-returns-in_ok-b-in-Binary : goal.part_of-returns-in_ok-b-in-Binary
part_of-returns-in_ok-b-in-Binary t c = λ l shows is formed.
    let i = c.in-Binary in
    let a = c.deref-in-Binary.result.now in
    let b = c.deref-in-Binary-2.result.now in
    let tree = tree-binary c.args.expr.now i.op i.a i.b a b i.is c.deref-in-Binary.ensures c.deref-in-Binary-2.ensures in
    let inner = subst IsFormed tree formed in
    let first = c.in_ok-a-in-Binary.ensures l shows is inner.0 in
    let second = c.in_ok-b-in-Binary.ensures l shows is inner.1 in
    ok-map c.binary.result
    (λ r h. subst (λ z. Reads l z c.args.faults.now c.binary.new.faults r) (sym tree)
    (binary-reads l i.op (tree_of a) (tree_of b) c.args.faults.now c.part_of-in-Binary.new.faults c.part_of-in-Binary-2.new.faults c.binary.new.faults r is inner.0 inner.1 first.1 second.1 h))
    (c.binary.ensures l (piece l (tree_of a)) (piece l (tree_of b)) first.0 (fit l is (tree_of a) inner.0) second.0 (fit l is (tree_of b) inner.1))

pub part_of-returns-in_ok-other-in-Choose : goal.part_of-returns-in_ok-other-in-Choose
part_of-returns-in_ok-other-in-Choose t c = λ l shows is formed.
    let i = c.in-Choose in
    let a = c.deref-in-Choose.result.now in
    let b = c.deref-in-Choose-2.result.now in
    let d = c.deref-in-Choose-3.result.now in
    let tree = tree-choice c.args.expr.now i.cond i.yes i.other a b d i.is c.deref-in-Choose.ensures c.deref-in-Choose-2.ensures c.deref-in-Choose-3.ensures in
    let inner = subst IsFormed tree formed in
    let first = c.in_ok-cond-in-Choose.ensures l shows is inner.0 in
    let second = c.in_ok-yes-in-Choose.ensures l shows is inner.1 in
    let third = c.in_ok-other-in-Choose.ensures l shows is inner.2 in
    ok-map c.choose.result
    (λ r h. subst (λ z. Reads l z c.args.faults.now c.choose.new.faults r) (sym tree)
    (choice-reads l (tree_of a) (tree_of b) (tree_of d) c.args.faults.now c.part_of-in-Choose.new.faults c.part_of-in-Choose-2.new.faults c.part_of-in-Choose-3.new.faults c.choose.new.faults r is inner.0 inner.1 inner.2 first.1 second.1 third.1 h))
    (c.choose.ensures l (piece l (tree_of a)) (piece l (tree_of b)) (piece l (tree_of d)) first.0 (fit l is (tree_of a) inner.0) second.0 (fit l is (tree_of b) inner.1) third.0 (fit l is (tree_of d) inner.2))

pub part_of-returns-in_ok-parts-in-Join : goal.part_of-returns-in_ok-parts-in-Join
part_of-returns-in_ok-parts-in-Join t c = λ l shows is formed.
    let i = c.in-Join in
    let es = c.as_slice.result.now in
    let tree = tree-join c.args.expr.now i.parts es i.is c.as_slice.ensures in
    let inner = subst IsFormed tree formed in
    let first = c.in_ok-parts-in-Join.ensures l shows is inner.1 in
    ok-map c.join.result (λ r h. subst (λ z. Reads l z c.args.faults.now c.join.new.faults r) (sym tree) h)
    (join-reads l (trees es) c.args.faults.now c.parts_of.new.faults c.join.new.faults c.in_ok-parts-in-Join.parts c.join.result inner.0 first c.join.ensures)

pub part_of-returns-in_ok-parts-in-Repeat : goal.part_of-returns-in_ok-parts-in-Repeat
part_of-returns-in_ok-parts-in-Repeat t c = λ l shows is formed.
    let i = c.in-Repeat in
    let a = c.deref-in-Repeat.result.now in
    let es = c.as_slice-in-Repeat.result.now in
    let tree = tree-repeat c.args.expr.now i.count i.parts es a i.is c.deref-in-Repeat.ensures c.as_slice-in-Repeat.ensures in
    let inner = subst IsFormed tree formed in
    let first = c.in_ok-part_of-in-Repeat.ensures l shows is inner.0 in
    let second = c.in_ok-count-in-Repeat.ensures.read (piece l (tree_of a)) first.0 (fit l is (tree_of a) inner.0) in
    let third = c.in_ok-parts-in-Repeat.ensures l shows is inner.2 in
    ok-map c.repeat.result (λ r h. subst (λ z. Reads l z c.args.faults.now c.repeat.new.faults r) (sym tree) h)
    (repeat-reads l (tree_of a) (trees es) c.args.faults.now c.part_of-in-Repeat.new.faults c.settled_constant-in-Repeat.new.faults c.parts_of-in-Repeat.new.faults c.repeat.new.faults c.in_ok-count-in-Repeat.count c.in_ok-parts-in-Repeat.parts
    c.repeat.result is inner.1 inner.2 first.1 second.0 second.1 third c.repeat.ensures)

-- ---- parts

pub parts_of-loop-expr-preserved : goal.parts_of-loop-expr-preserved
parts_of-loop-expr-preserved t c = λ l shows is formed.
    let all = c.args.exprs.now in
    let i = c.loop-expr.expr-index in
    let x = c.expr-item.result in
    let rest = drop (i + 1) all in
    let next : drop i all ≡ x ∷ rest = drop_more all i x c.loop-expr-test.true ∙ ap (λ (z : Expr). z ∷ rest) (sym c.expr-item.is) in
    let before = subst (λ es. IsPartly l all es c.args.faults.now c.loop-expr.faults c.loop-expr.parts) next (c.loop-expr.invariant l shows is formed) in
    let first = c.in_ok-part_of.ensures l shows is before.formed.0 in
    let second = c.in_ok-part.ensures (piece l (tree_of x)) first.0 (fit l is (tree_of x) before.formed.0) in
    next-part l all rest x c.args.faults.now c.loop-expr.faults c.part_of.new.faults c.settled_part.new.faults c.loop-expr.parts c.add.new.self c.in_ok-part.part before first.1 second.1 second.0 c.in_ok-add.ensures
