-- Nodes that are asked for.
use Rattle.std.specs.Bool.{beq}
use Rattle.std.proofs.lemmas.Bool.{and_parts}
use Rattle.std.proofs.Common.{◌≡◌, ◌∙◌, refl, sym, ap, ap₂, arith, eqb-true, false, ℕ, ◌<◌, ◌≤◌, ◌==◌, Bool, true, length, Option, Some, None, option_map}
use Rattle.cell_graph.specs.contracts.cell.CellIdPartialEq.TheImpl as ids
use Rattle.cell_graph.specs.contracts.cell.NodePartialEq.TheImpl as nodes
use Rattle.cell_graph.specs.declared.cell.CellId.{CellId}
use Rattle.cell_graph.specs.declared.cell.Node.{Node}
use Rattle.cell_graph.specs.Cells.{Cells}
use Rattle.cell_graph.specs.Unfolded.{IsNodeOf, bit_of, tree_of}
use Rattle.fifo_terms.specs.Shows.{node_terms}
use Rattle.gray_pointer.proofs.Counts.{same_id}
use Rattle.gray_pointer.specs.Words.{IsIn}
use Rattle.gray_pointer.specs.Worklists.{Adds}
use Rattle.fifo_nodes.specs.contracts.search.AskedPartialEq.TheImpl as equality
use Rattle.fifo_nodes.specs.declared.search.Asked.{Asked}
use Rattle.fifo_nodes.specs.Nodes.{IsOwnOrZero, IsWithin, origin_in}
use Rattle.fifo_nodes.specs.Searches.{Searched, Covers}
use Rattle.fifo_nodes.specs.Terms.{terms_in}
use Rattle.fifo_nodes.proofs.Origins.{terms_origin}
use Rattle.fifo_nodes.proofs.Searches.{covers_asked, covers_same}

abbrev bools : Bool → Bool → Bool
bools = beq

same_bool : (u v : Bool) → bools u v ≡ true → u ≡ v
same_bool true true t = refl
same_bool true false t = cc
same_bool false true t = cc
same_bool false false t = refl

same_node : (m n : Node) → nodes.ghosts.eq m n ≡ true → m ≡ n
same_node m n t =
    let h = and_parts (ids.ghosts.eq m.cell n.cell) (m.at == n.at) t in
    ap₂ (λ (c : CellId) (i : ℕ). let x : Node = record { cell = c; at = i } in x) (same_id m.cell n.cell h.0) (eqb-true m.at n.at h.1)

-- equal questions are one
pub same_asked : (a b : Asked) → equality.ghosts.eq a b ≡ true → a ≡ b
same_asked a b t =
    let h = and_parts (nodes.ghosts.eq a.node b.node) (bools a.value b.value) t in
    ap₂ (λ (n : Node) (v : Bool). let q : Asked = record { node = n; value = v } in q) (same_node a.node b.node h.0) (same_bool a.value b.value h.1)

pub within_in : (g : Cells) (n : ℕ) (o : Option Node) → IsWithin g n o → IsIn g o
within_in g n None h = tt
within_in g n (Some m) h = h.0

pub in_within : (g : Cells) (o : Option Node) → IsIn g o → IsWithin g (length g.cells) o
in_within g None h = tt
in_within g (Some m) h = (h, h.0)

pub origin_within : (g : Cells) (n : ℕ) (m : Node) (o : Option Node) → m.cell.0 < n
    → ((k : Node) → o ≡ Some k → IsNodeOf g k × (k.cell.0 ≤ m.cell.0)) → IsWithin g n o
origin_within g n m None l within = tt
origin_within g n m (Some k) l within = let h = within k refl in let low = h.1 in (h.0, omega arith)

-- the terms of a node are those of its origin
pub by_origin : (g : Cells) (o p : Option Node) (v : Bool) → option_map (bit_of g) p ≡ origin_in g o → terms_in g p v ≡ terms_in g o v
by_origin g None p v e = ap (λ x. node_terms x v) e
by_origin g (Some n) p v e = ap (λ x. node_terms x v) e ∙ sym (terms_origin (tree_of g n.cell) n.at v)

pub node_asked : (g : Cells) (n : ℕ) (o : Option Node) (m : Node) (v : Bool) (eq : Asked → Asked → Bool) → ((a b : Asked) → eq a b ≡ true → a ≡ b)
    → (old new : Searched)
    → Adds eq (record { node = m; value = v }) old.met old.left new.met new.left → IsOwnOrZero g (Some m) → IsWithin g n (Some m)
    → terms_in g (Some m) v ≡ terms_in g o v → new.terms ≡ old.terms
    → Covers g n (terms_in g o v) old new
node_asked g n o m v eq tells old new a own within e same = covers_same g n (terms_in g (Some m) v) (terms_in g o v) old new e
    (covers_asked g n eq tells old new (record { node = m; value = v }) a same own within.1)
