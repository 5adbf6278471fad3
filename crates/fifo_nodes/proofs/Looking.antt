-- What is asked for where a node is looked at.
use Rattle.std.proofs.Common.{◌≡◌, ◌≢◌, ◌↔◌, ◌∙◌, sym, ap, refl, subst, Bool, true, false, cond, Option, Some, None, List, []}
use Rattle.std.specs.Bool.{beq}
use Rattle.cell_graph.specs.Cells.{Cells, cell_at}
use Rattle.cell_graph.specs.Unfolded.{IsWellFormed, tree_of}
use Rattle.fifo_terms.specs.Terms as rules
use Rattle.fifo_terms.specs.Terms.{terms, bare, beside_known, differ, unless_known}
use Rattle.fifo_nodes.specs.declared.search.Asked.{Asked}
use Rattle.fifo_nodes.specs.declared.search.Made.{Made}
use Rattle.fifo_nodes.specs.Nodes.{IsOwn, known_of}
use Rattle.fifo_nodes.specs.Searches.{Searched, Covers, asked_terms, made_by, made_terms, IsMadeIn}
use Rattle.fifo_nodes.proofs.Made.{made_is}
use Rattle.fifo_nodes.proofs.Searches.{covers_same}

beq_self : (v : Bool) → beq v v ≡ true
beq_self true = refl
beq_self false = refl

tells : (u v : Bool) → u ≢ v → beq u v ≡ false
tells true true h = absurd (h refl)
tells true false h = refl
tells false true h = refl
tells false false h = absurd (h refl)

unless_other : (o : Option Bool) (v : Bool) (ts : List rules.Term) → o ≢ Some v → unless_known o v ts ≡ ts
unless_other None v ts h = refl
unless_other (Some k) v ts h = ap (λ b. cond b [] ts) (tells k v (λ e. h (ap Some e)))

module _ (g : Cells) (well : IsWellFormed g) (q : Asked) (own : IsOwn g q.node) where
  abbrev made : Made
  made = made_by g (cell_at g q.node.cell) q.node.at q.value

  abbrev parts : Made → List rules.Term
  parts m = made_terms g (tree_of g q.node.cell) q.node.at q.value m

  -- what is known has no terms
  pub known_terms : known_of g q.node ≡ Some q.value → asked_terms g q ≡ []
  known_terms e = (made_is g well q.node own q.value).0
      ∙ ap (λ o. unless_known o q.value (parts made)) e ∙ ap (λ b. cond b [] (parts made)) (beq_self q.value)

  -- other terms are those that they are made of
  other_terms : known_of g q.node ≢ Some q.value → parts made ≡ asked_terms g q
  other_terms h = sym ((made_is g well q.node own q.value).0 ∙ unless_other (known_of g q.node) q.value (parts made) h)

  -- the search goes on by what they are made of
  pub goes_on : (m : Made) (old new : Searched) (r : Bool) → ((r ≡ true) ↔ (known_of g q.node ≡ Some q.value)) → r ≡ false → m ≡ made
      → (IsMadeIn g q.node.cell.0 m → Covers g q.node.cell.0 (parts m) old new) → Covers g q.node.cell.0 (asked_terms g q) old new
  goes_on m old new r iff unknown e covers = covers_same g q.node.cell.0 (parts m) (asked_terms g q) old new
      (ap parts e ∙ other_terms (λ h. let t : true ≡ false = sym (iff.1 h) ∙ unknown in cc))
      (covers (subst (IsMadeIn g q.node.cell.0) (sym e) (made_is g well q.node own q.value).1))
