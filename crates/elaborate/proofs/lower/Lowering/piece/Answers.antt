use Rattle.std.proofs.Common.{◌≡◌, ◌∙◌, ◌+◌, sym, ap, arith, length, Option, Some, slice_get}
use Rattle.std.proofs.lemmas.Option.{slice_get_within}
use Rattle.elaborate.specs.declared.lower.Tree.{Tree}
use Rattle.elaborate.specs.Lowered.{tree_met}
use Rattle.elaborate.proofs.CellTrees.{met-has, met-within, not-none}
use Rattle.elaborate.proofs.lower.Lowering.piece.Goals as goal

pub returns-in-Some : goal.returns-in-Some
returns-in-Some c = λ t w is.
    let ts = c.args.self.now.trees.items in let v = length c.args.sketch.now.drafts + c.args.place in
    let first = c.as_slice.ensures in
    let at : c.saturating_add-vertex.result ≡ v = omega (arith, c.saturating_add-vertex.ensures, met-within c.args.self.now.graph ts v t w is, c.tree.ensures.short, ap length first) in
    met-has c.args.self.now.graph ts v t w c.in-Some.tree (ap (tree_met ts) (sym at) ∙ sym c.tree.ensures.exact ∙ c.in-Some.is) is

pub returns-in-None : goal.returns-in-None
returns-in-None c = λ t w is.
    let ts = c.args.self.now.trees.items in let v = length c.args.sketch.now.drafts + c.args.place in
    let first = c.as_slice.ensures in
    let at : c.saturating_add-vertex.result ≡ v = omega (arith, c.saturating_add-vertex.ensures, met-within c.args.self.now.graph ts v t w is, c.tree.ensures.short, ap length first) in
    absurd (not-none c.args.self.now.graph ts v t w (ap (tree_met ts) (sym at) ∙ sym c.tree.ensures.exact ∙ c.in-None.is) is)
