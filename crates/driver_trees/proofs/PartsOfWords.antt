-- Bits of words, and words of bits one above the other.
use Rattle.std.proofs.Common.{◌≡◌, ℕ, ◌+◌, ◌-◌, ◌*◌, ◌^◌, ◌<◌, ◌≤◌, Bool, true, false, cond, ◌==◌, nat_lt, List, Option, Some, None, unwrap_or, refl, sym, ap, subst, ◌∙◌, arith, ne_eqb, eq-eqb}
use Rattle.cell_graph.specs.declared.cell.CellId.{CellId}
use Rattle.cell_graph.specs.Tree.{Tree, Const, Concat}
use Rattle.flat_meaning.specs.Trees.{Selects, glue}
use Rattle.driver_trees.specs.declared.draft.Draft.{Draft}
use Rattle.driver_trees.specs.Drafts.{tree_in, width_at, IsDraftOf}
use Rattle.driver_trees.specs.Growth.{Grows, IsBuilt, IsOptionalDraft, optional_bits, optional_tree}
use Rattle.driver_trees.specs.Shares.{IsPart}
use Rattle.driver_trees.proofs.Growing.{place-kept, tree-kept, some-bits}

pub glue_part : (m n : ℕ) (high t : Tree) → glue m high n (cond (n == 0) (Const 0 0) t) ≡ glue m high n t
glue_part m n high t = go (n == 0)
  where
    go : (b : Bool) → cond b high (cond (m == 0) (cond b (Const 0 0) t) (Concat high (cond b (Const 0 0) t))) ≡ cond b high (cond (m == 0) t (Concat high t))
    go true = refl
    go false = refl

pub glue_none : (k m : ℕ) (t u : Tree) → k ≡ 0 → 1 ≤ m → u ≡ glue k t m u
glue_none k m t u e h = sym (ap (λ b. cond b t (cond (k == 0) u (Concat t u))) (ne_eqb m 0 (λ z. absurd (omega (arith, z, h)))) ∙ ap (λ b. cond b u (Concat t u)) (eq-eqb k 0 e))

module _ (wid : ℕ → ℕ) (ds es : List Draft) (o : Option CellId) (k : ℕ) (t : Selects → Tree) (h : IsPart wid ds es o k t) where
  pub part_some : (id : CellId) → o ≡ Some id → IsBuilt wid ds es id k t
  part_some id e =
      let place = subst (IsOptionalDraft es) e h.place in
      let bits : width_at es id ≡ k = sym (ap (optional_bits es) e) ∙ h.bits in
      let some = some-bits wid es id (width_at es id) h.grows.drafts place in
      record {
        grows = h.grows;
        place = (place.0, bits);
        tree = λ sel. sym (ap (optional_tree sel es) e) ∙ h.tree sel ∙ ap (λ b. cond b (Const 0 0) (t sel)) (ne_eqb k 0 (λ z. absurd (omega (arith, z, some, bits))));
      }

  pub part_none : o ≡ None → k ≡ 0
  part_none e = sym h.bits ∙ ap (optional_bits es) e

module _ (wid : ℕ → ℕ) (ds es : List Draft) (g : Grows wid ds es) where
  pub optional_grows : (o : Option CellId) → IsOptionalDraft ds o → IsOptionalDraft es o × (optional_bits es o ≡ optional_bits ds o) × ((sel : Selects) → optional_tree sel es o ≡ optional_tree sel ds o)
  optional_grows None h = (tt, refl, λ sel. refl)
  optional_grows (Some id) h =
      let k = place-kept ds es id (width_at ds id) g.longer h in
      ((k.0, refl), k.1, λ sel. tree-kept sel ds es g.longer id h.0)

  -- a word of some bits is there
  pub optional_built : (o : Option CellId) (d : CellId) (n : ℕ) (t : Selects → Tree) → IsOptionalDraft es o → optional_bits es o ≡ n → 1 ≤ n → ((sel : Selects) → optional_tree sel es o ≡ t sel)
      → IsBuilt wid ds es (unwrap_or o d) n t
  optional_built None d n t h e some f = absurd (omega (arith, e, some))
  optional_built (Some id) d n t h e some f = record { grows = g; place = (h.0, e); tree = f }
