-- A chain of choices around a word.
use Rattle.std.specs.Prelude.{◌≡◌, ℕ, List, [], ◌∷◌}
use Rattle.cell_graph.specs.Tree.{Tree, Mux}
use Rattle.flat_meaning.specs.Trees.{Selects}
use Rattle.driver_trees.specs.declared.draft.Draft.{Draft}
use Rattle.driver_trees.specs.declared.expr.Choice.{Choice}
use Rattle.driver_trees.specs.Drafts.{tree_in, IsDraftOf}

-- the first choice is outermost
abbrev pub around_tree : Selects → List Draft → List Choice → Tree → Tree
around_tree sel ds [] t = t
around_tree sel ds (c ∷ cs) t = Mux (tree_in sel ds c.cond) (tree_in sel ds c.yes) (around_tree sel ds cs t)

abbrev pub AreChoices : List Draft → ℕ → List Choice → Type 0
AreChoices ds w [] = Unit {0}
AreChoices ds w (c ∷ cs) = IsDraftOf ds c.cond 1 × IsDraftOf ds c.yes w × AreChoices ds w cs
