-- What register bits take, by nodes of a graph.
use Rattle.std.specs.Prelude.{◌≡◌, Bool, true, false, Option, Some, None, option_map, List, [], ◌∷◌, ◌++◌, Contains}
use Rattle.cdc_base.specs.declared.bit.Bit.{Bit}
use Rattle.cell_graph.specs.declared.cell.Node.{Node}
use Rattle.cell_graph.specs.Cells.{Cells}
use Rattle.cell_graph.specs.Origin.{TreeBit}
use Rattle.cell_graph.specs.Unfolded.{IsNodeOf, bit_of, tree_of}
use Rattle.fifo_terms.specs.Takes as rules
use Rattle.fifo_terms.specs.Takes.{always, and_under, by_own, taken}
use Rattle.fifo_terms.specs.Terms as terms
use Rattle.gray_pointer.specs.Words.{IsIn}
use Rattle.fifo_nodes.specs.declared.search.Asked.{Asked}
use Rattle.fifo_nodes.specs.declared.takes.Conditions.{Conditions}
use Rattle.fifo_nodes.specs.declared.takes.Taken.{Taken}
use Rattle.fifo_nodes.specs.declared.takes.Way.{Way}
use Rattle.fifo_nodes.specs.Searches.{asked_terms}
use Rattle.fifo_nodes.specs.Terms.{AreTerms, terms_at}

-- the node and the terms are those that were found
abbrev pub IsTaken : Cells → rules.Taken → Taken → Type 0
IsTaken g k found = (k.node ≡ option_map (bit_of g) found.node) × IsIn g found.node × AreTerms g k.under found.under

-- the terms under which all of these nodes have their values
abbrev pub condition_terms : Cells → List Asked → List terms.Term
condition_terms g [] = []
condition_terms g (q ∷ qs) = asked_terms g q ++ condition_terms g qs

-- they are nodes of the graph
abbrev pub AreAskedIn : Cells → List Asked → Type 0
AreAskedIn g qs = (q : Asked) → Contains qs q → IsNodeOf g q.node

-- the terms are those of the conditions
abbrev pub HaveTerms : Cells → Conditions → Type 0
HaveTerms g c = AreTerms g (condition_terms g c.conditions) c.terms

-- the node is the one that is taken, under the terms of the conditions
abbrev pub IsFollowed : Cells → rules.Taken → Option Node → List Asked → Type 0
IsFollowed g k node qs = (k ≡ and_under (condition_terms g qs) (always (option_map (bit_of g) node))) × IsIn g node × AreAskedIn g qs

-- what is taken where a node is next
abbrev pub taken_bit : Bit → TreeBit → rules.Taken
taken_bit x None = always None
taken_bit x (Some n) = taken x n.0 n.1

-- the way of a choice, by which branch is the own bit
abbrev pub way_by : Bool → Bool → (cond yes other : Node) → Option Way
way_by first second c x y = by_own first second (Some (record { cond = c; value = false; branch = y })) (Some (record { cond = c; value = true; branch = x })) None

-- the branch that is taken where a node is next, and the condition under which it is; or the node itself is taken
abbrev pub IsWay : Cells → Bit → Option Node → Option Way → Type 0
IsWay g x node None = taken_bit x (option_map (bit_of g) node) ≡ always (option_map (bit_of g) node)
IsWay g x node (Some w) = (taken_bit x (option_map (bit_of g) node) ≡ and_under (terms_at g w.cond w.value) (taken x (tree_of g w.branch.cell) w.branch.at)) × IsNodeOf g w.cond × IsNodeOf g w.branch
