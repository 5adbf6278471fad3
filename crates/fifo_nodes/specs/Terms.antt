-- Terms on nodes of a graph.
use Rattle.std.specs.Prelude.{Bool, Option, option_map, List, map, Contains}
use Rattle.cell_graph.specs.declared.cell.Node.{Node}
use Rattle.cell_graph.specs.Cells.{Cells}
use Rattle.cell_graph.specs.Unfolded.{bit_of, tree_of}
use Rattle.fifo_terms.specs.Terms as rules
use Rattle.fifo_terms.specs.Terms.{terms, differing}
use Rattle.fifo_terms.specs.Shows.{node_terms}
use Rattle.gray_pointer.specs.Words.{IsIn}
use Rattle.fifo_nodes.specs.declared.term.Term.{Term}
use Rattle.fifo_nodes.specs.declared.term.Term.TheVariants.{Is, Differ}

-- a term on nodes as one on bits of trees
abbrev pub term_of : Cells → Term → rules.Term
term_of g (Is n v) = rules.Is (option_map (bit_of g) n) v
term_of g (Differ a b v) = rules.Differ (option_map (bit_of g) a) (option_map (bit_of g) b) v

abbrev pub terms_of : Cells → List Term → List rules.Term
terms_of g ts = map (term_of g) ts

-- its nodes are of the graph
abbrev pub IsTermIn : Cells → Term → Type 0
IsTermIn g (Is n v) = IsIn g n
IsTermIn g (Differ a b v) = IsIn g a × IsIn g b

abbrev pub AreTermsIn : Cells → List Term → Type 0
AreTermsIn g ts = (t : Term) → Contains ts t → IsTermIn g t

-- the term with its nodes in the other order
abbrev pub turned : Term → Term
turned (Is n v) = Is n v
turned (Differ a b v) = Differ b a v

-- the terms that were found are these, each at least once, in any order
pub record AreTerms (g : Cells) (ts : List rules.Term) (found : List Term) : Type 0 where
  pub within : AreTermsIn g found
  pub all : (t : rules.Term) → Contains ts t → Contains (terms_of g found) t
  pub only : (t : rules.Term) → Contains (terms_of g found) t → Contains ts t

-- the terms of a node at a value
abbrev pub terms_at : Cells → Node → Bool → List rules.Term
terms_at g n v = terms (tree_of g n.cell) n.at v

abbrev pub terms_in : Cells → Option Node → Bool → List rules.Term
terms_in g o v = node_terms (option_map (bit_of g) o) v

-- the terms by which the exclusive or of two nodes, one bit of two cells, is v
abbrev pub unequal : Cells → (one another : Node) → Bool → List rules.Term
unequal g a b v = differing (tree_of g a.cell) (tree_of g b.cell) a.at (λ u. terms (tree_of g a.cell) a.at u) (λ u. terms (tree_of g b.cell) a.at u) v
