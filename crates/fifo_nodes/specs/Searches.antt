-- A search for the terms of nodes.
use Rattle.std.specs.Prelude.{◌≡◌, ◌⊎◌, ℕ, ◌<◌, ◌==◌, ◌||◌, Bool, cond, not, Option, Some, List, [], ◌++◌, Contains}
use Rattle.cell_graph.specs.declared.cell.Cell.{Cell}
use Rattle.cell_graph.specs.declared.cell.Cell.TheVariants.{Not, And, Or, Xor, Eq, Reduce}
use Rattle.cell_graph.specs.declared.cell.ReduceKind.TheVariants as kind
use Rattle.cell_graph.specs.Cells.{Cells, cell_width}
use Rattle.cell_graph.specs.Feeds.{node}
use Rattle.cell_graph.specs.Tree.{Tree}
use Rattle.cell_graph.specs.Unfolded.{tree_of}
use Rattle.fifo_terms.specs.Terms as rules
use Rattle.fifo_terms.specs.Terms.{terms, each_below, itself}
use Rattle.gray_pointer.specs.Worklists as worklist
use Rattle.fifo_nodes.specs.declared.search.Asked.{Asked}
use Rattle.fifo_nodes.specs.declared.search.Made.{Made}
use Rattle.fifo_nodes.specs.declared.search.Made.TheVariants.{Of, Both, Each, Unequal, Pairs, Itself}
use Rattle.fifo_nodes.specs.declared.term.Term.{Term}
use Rattle.fifo_nodes.specs.Nodes.{IsOwn, IsWithin}
use Rattle.fifo_nodes.specs.Terms.{term_of, terms_of, terms_at, unequal, IsTermIn}

-- the nodes that were ever asked for, those that are left, and the terms that were found
pub record Searched : Type 0 where
  pub met : List Asked
  pub left : List Asked
  pub terms : List Term

abbrev pub nothing : Searched
nothing = record { met = []; left = []; terms = [] }

-- the terms that a question asks for
abbrev pub asked_terms : Cells → Asked → List rules.Term
asked_terms g q = terms_at g q.node q.value

-- the term was found, or is asked for at a cell before place n
abbrev pub IsReached : Cells → ℕ → Searched → rules.Term → Type 0
IsReached g n s t = Contains (terms_of g s.terms) t ⊎ ((q : Asked) × Contains s.met q × (q.node.cell.0 < n) × Contains (asked_terms g q) t)

-- A search goes on by these terms and by nothing else: they are found, or asked for at cells before place n.
pub record Covers (g : Cells) (n : ℕ) (ts : List rules.Term) (old new : Searched) : Type 0 where
  pub met : (q : Asked) → Contains old.met q → Contains new.met q
  pub waits : (q : Asked) → Contains old.left q → Contains new.left q
  pub found : (t : Term) → Contains old.terms t → Contains new.terms t
  pub asked : (q : Asked) → Contains new.met q → Contains old.met q ⊎ (Contains new.left q × IsOwn g q.node × ((t : rules.Term) → Contains (asked_terms g q) t → Contains ts t))
  pub only : (q : Asked) → Contains new.left q → Contains old.left q ⊎ Contains new.met q
  pub terms : (t : Term) → Contains new.terms t → Contains old.terms t ⊎ (IsTermIn g t × Contains ts (term_of g t))
  pub all : (t : rules.Term) → Contains ts t → IsReached g n new t

-- a question is taken from those left, or none is left
pub record IsTake (old new : Searched) (next : Option Asked) : Type 0 where
  pub met : new.met ≡ old.met
  pub terms : new.terms ≡ old.terms
  pub left : worklist.Takes old.left new.left next

-- A search for these terms: each is found, or a term of a node that was met; of a node that isn't left so is each term, at an earlier cell.
pub record IsSearch (g : Cells) (ts : List rules.Term) (s : Searched) : Type 0 where
  pub own : (q : Asked) → Contains s.met q → IsOwn g q.node
  pub within : (q : Asked) → Contains s.left q → Contains s.met q
  pub sought : (q : Asked) (t : rules.Term) → Contains s.met q → Contains (asked_terms g q) t → Contains ts t
  pub found : (t : Term) → Contains s.terms t → IsTermIn g t × Contains ts (term_of g t)
  pub start : (t : rules.Term) → Contains ts t → (n : ℕ) × IsReached g n s t
  pub done : (q : Asked) → Contains s.met q → Contains s.left q ⊎ ((t : rules.Term) → Contains (asked_terms g q) t → IsReached g q.node.cell.0 s t)

-- what the terms of bit i of a cell at v are made of, where it isn't known to be v
abbrev pub made_by : Cells → Cell → ℕ → Bool → Made
made_by g (Not a) i v = Of (record { node = node a i; value = not v })
made_by g (And a b) i v = cond v (Both (node a i) (node b i)) Itself
made_by g (Or a b) i v = cond v Itself (Both (node a i) (node b i))
made_by g (Xor a b) i v = Unequal (node a i) (node b i)
made_by g (Eq a b) i v = cond (v || (cell_width g a == 1)) (Pairs a b) Itself
made_by g (Reduce kind.And a) i v = cond v (Each a) Itself
made_by g (Reduce kind.Or a) i v = cond v Itself (Each a)
made_by g c i v = Itself

-- the terms, of bit i of a tree
abbrev pub made_terms : Cells → Tree → ℕ → Bool → Made → List rules.Term
made_terms g t i v (Of q) = asked_terms g q
made_terms g t i v (Both a b) = terms_at g a v ++ terms_at g b v
made_terms g t i v (Each a) = each_below (λ j. terms (tree_of g a) j v) (cell_width g a)
made_terms g t i v (Unequal a b) = unequal g a b v
made_terms g t i v (Pairs a b) = each_below (λ j. unequal g (node a j) (node b j) (not v)) (cell_width g a)
made_terms g t i v Itself = itself t i v

-- its parts are of cells before place n, and alike
abbrev pub IsMadeIn : Cells → ℕ → Made → Type 0
IsMadeIn g n (Of q) = IsWithin g n (Some q.node)
IsMadeIn g n (Both a b) = IsWithin g n (Some a) × IsWithin g n (Some b)
IsMadeIn g n (Each a) = (j : ℕ) → j < cell_width g a → IsWithin g n (Some (node a j))
IsMadeIn g n (Unequal a b) = IsWithin g n (Some a) × IsWithin g n (Some b) × (b.at ≡ a.at)
IsMadeIn g n (Pairs a b) = (j : ℕ) → j < cell_width g a → IsWithin g n (Some (node a j)) × IsWithin g n (Some (node b j))
IsMadeIn g n Itself = Unit {0}
