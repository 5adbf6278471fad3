-- What two branches of a condition make together.
use Rattle.std.proofs.Common.{◌≡◌, ℕ, Bool, true, false, cond, ◌||◌, List, Option, Some, None, is_some, IsSomeAnd, refl, sym, ap, subst, ◌∙◌}
use Rattle.std.specs.Option.{option_or}
use Rattle.std.specs.Ordering.{nat_cmp}
use Rattle.std.specs.BTreeMap.{BTreeMap, get, IsEmpty, is_at}
use Rattle.std.specs.Map.{lookup}
use Rattle.cell_graph.specs.declared.cell.CellId.{CellId}
use Rattle.cell_graph.specs.Tree.{Tree, Mux}
use Rattle.flat_meaning.specs.Trees.{Selects, Trees, merge}
use Rattle.driver_trees.specs.declared.draft.Draft.{Draft}
use Rattle.driver_trees.specs.Changes.{IsWordOf, AreChanges, chosen}

pub some_and : (o : Option CellId) (P : CellId → Type 0) (id : CellId) → o ≡ Some id → IsSomeAnd o P → P id
some_and o P id e h = subst (λ u. IsSomeAnd u P) e h

module _ (wid : ℕ → ℕ) (ds : List Draft) where
  pub word_same : (id : CellId) (x : ℕ) (ts us : Selects → Trees) → IsWordOf wid ds id x ts → ((sel : Selects) → ts sel x ≡ us sel x) → IsWordOf wid ds id x us
  word_same id x ts us h e = record { place = h.place; tree = λ sel. h.tree sel ∙ e sel }

  pub no_changes : (m : BTreeMap ℕ CellId) (ts : Selects → Trees) → IsEmpty m → AreChanges wid ds m (λ x. false) ts
  no_changes m ts e = record { keys = λ x. ap (λ es. is_some (lookup (is_at (nat_cmp x)) es)) e; trees = λ x id h. never (sym (ap (λ es. lookup (is_at (nat_cmp x)) es) e) ∙ h) }
    where
      never : {P : Type 0} {id : CellId} → None ≡ Some id → P
      never h = cc

  pub changes_same : (m : BTreeMap ℕ CellId) (a b : ℕ → Bool) (ts : Selects → Trees) → AreChanges wid ds m a ts → ((x : ℕ) → a x ≡ b x) → AreChanges wid ds m b ts
  changes_same m a b ts h e = record { keys = λ x. h.keys x ∙ e x; trees = h.trees }

  module _ (assigned : ℕ → Bool) (t : Selects → Tree) (ts us before : Selects → Trees) (x : ℕ) where
    -- what is assigned is chosen, and all else stays
    pub merge_word : (o p : Option CellId) (id : CellId) → is_some o ≡ assigned x → option_or o p ≡ Some id
        → ((i : CellId) → o ≡ Some i → IsWordOf wid ds i x (chosen t ts us)) → ((i : CellId) → p ≡ Some i → IsWordOf wid ds i x before)
        → IsWordOf wid ds id x (λ sel. merge assigned (t sel) (ts sel) (us sel) (before sel))
    merge_word (Some i) p id k e h f = word_same id x (chosen t ts us) _ (h id e) (λ sel. ap (λ b. cond b (Mux (t sel) (ts sel x) (us sel x)) (before sel x)) k)
    merge_word None p id k e h f = word_same id x before _ (f id e) (λ sel. ap (λ b. cond b (Mux (t sel) (ts sel x) (us sel x)) (before sel x)) k)
