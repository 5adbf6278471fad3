-- From the sets of bits that the code keeps to the definition's latches.
use Rattle.std.proofs.Common.{◌≡◌, ℕ, ◌<◌, ◌≤◌, Bool, true, false, not, ◌&&◌, ◌||◌, nat_le, List, length, map, Option, Some, None, Result, refl, sym, ap, ap₂, subst, ◌∙◌, arith, leb-true}
use Rattle.std.specs.Prelude.{slice_get, option_map, IfOk}
use Rattle.std.specs.Option.{option_map_or}
use Rattle.std.proofs.lemmas.Bool.{and_parts}
use Rattle.std.proofs.lemmas.List.{length-map}
use Rattle.std.proofs.lemmas.Option.{slice_get_within, slice_get-map}
use Rattle.std.proofs.lemmas.Result.{IfOk-weaker}
use Rattle.cdc_base.specs.declared.list.NoMemory.{NoMemory}
use Rattle.cdc_base.specs.declared.signal.Signal.{Signal}
use Rattle.cell_graph.specs.Tree.{any_below}
use Rattle.verilog_reading.specs.StmtTree.{StmtTree}
use Rattle.flat_meaning.specs.Flat.{Stmt}
use Rattle.flat_meaning.specs.Design.{width_in}
use Rattle.flat_meaning.specs.Assigned.{surely, may_assign}
use Rattle.flat_meaning.specs.Deps.{Bits, none}
use Rattle.flat_form.specs.declared.flat.FStmt.{FStmt}
use Rattle.flat_form.specs.declared.masks.Masks.{Masks}
use Rattle.flat_form.specs.View.{stmt_of}
use Rattle.flat_form.specs.Masks.{bits_in, Adds}
use Rattle.flat_unfolding.specs.Names.{Entry, Look, width_of, width_at}
use Rattle.flat_unfolding.specs.Reads.{early, is_latch, first_from, latch_of, latch_rule}
use Rattle.flat_unfolding.specs.Statements.{Kind, done}
use Rattle.flat_names.specs.Looks.{IsFit}
use Rattle.flat_names.specs.Designs.{signal_of}
use Rattle.flat_statements.specs.declared.latch.Paths.{Paths}
use Rattle.flat_statements.specs.Statements.{AreAlike, IsFull, IsDone}
use Rattle.flat_statements.specs.Latches.{IsPathsOf, some_bit, open_bits, has_latch, latch_in, IsWithin}
use Rattle.flat_statements.proofs.Alike.{same-bits}
use Rattle.flat_statements.proofs.Firsts.{some-within, first-same}
use Rattle.flat_statements.proofs.Within.{done-in}

-- a set that was empty has what was added
pub started : (n m : Masks) (b : Bits) → ((s i : ℕ) → bits_in n s i ≡ false) → Adds n m b → (s i : ℕ) → i < 64 → bits_in m s i ≡ b s i
started n m b e h s i l = h s i l ∙ ap (λ z. z || b s i) (e s i)

-- a signal with a bit is there
pub is-signal : (signals : List Signal) (s i : ℕ) → i < width_in signals s → s < length signals
is-signal signals s i h = go (slice_get signals s) refl h
  where
    go : (o : Option Signal) → slice_get signals s ≡ o → i < option_map_or (λ (x : Signal). x.width) o 0 → s < length signals
    go None e l = absurd (omega arith)
    go (Some x) e l = slice_get_within signals s x e

-- what is kept and what isn't
same-latch : (m a b : Bool) → (m && not (a && not b)) ≡ (m && (not (a || false) || (b && true)))
same-latch true true true = refl
same-latch true true false = refl
same-latch true false true = refl
same-latch true false false = refl
same-latch false a b = refl

module _ (wid : ℕ → ℕ) (x : Stmt) (may : Masks) (p : Paths) (m : (s i : ℕ) → i < 64 → bits_in may s i ≡ may_assign wid x s i) (h : IsPathsOf wid x p) where
  open-is : (s i : ℕ) → i < 64 → open_bits may p s i ≡ is_latch wid x s i
  open-is s i l =
      ap (λ b. b && not (bits_in p.surely s i && not (bits_in p.exposed s i))) (m s i l) ∙ same-latch (may_assign wid x s i) (bits_in p.surely s i) (bits_in p.exposed s i)
      ∙ ap₂ (λ a b. may_assign wid x s i && (not a || b)) (sym (h.surely none s i l)) (sym (h.exposed none s i l))

  -- the first signal with an open bit is the first one with a latch
  pub first-latch : (n : ℕ) → ((s : ℕ) → wid s ≤ 64) → IsWithin wid x → first_from (λ s. some_bit (open_bits may p s)) 0 n ≡ latch_in wid x n
  first-latch n small within = first-same (λ s. some_bit (open_bits may p s)) (has_latch wid x) 0 n (λ s.
      some-within (open_bits may p s) (is_latch wid x s) (wid s) (small s) (open-is s)
      (λ i t. within s i (and_parts (may_assign wid x s i) (not (surely wid x none s i) || early wid x none s i) t).0))

-- ---- statements that read the same bits have the same latches

module _ (wid : ℕ → ℕ) (x y : Stmt) (h : AreAlike x y) where
  alike-latch : is_latch wid x ≡ is_latch wid y
  alike-latch = same-bits (is_latch wid x) (is_latch wid y) (λ s i. ap₂ (λ m r. m && r) (h.may wid s i) (ap₂ (λ a b. not a || b) (h.surely wid none s i) (h.early wid none s i)))

  alike-first : (n : ℕ) → latch_in wid x n ≡ latch_in wid y n
  alike-first n = ap (λ (b : Bits). first_from (λ s. any_below (b s) (wid s)) 0 n) alike-latch

-- ---- the definition's rule

module _ (l : Look) (signals : List Signal) (shown : signals ≡ map signal_of l.entries) where
  width-shown : (s : ℕ) → width_in signals s ≡ width_at l.entries s
  width-shown s = ap (λ (xs : List Signal). width_in xs s) shown ∙ ap (λ o. option_map_or (λ (x : Signal). x.width) o 0) (slice_get-map signal_of l.entries s) ∙ go (slice_get l.entries s)
    where
      go : (o : Option Entry) → option_map_or (λ (x : Signal). x.width) (option_map signal_of o) 0 ≡ option_map_or (λ (e : Entry). width_of e.range) o 0
      go None = refl
      go (Some e) = refl

  widths-shown : width_in signals ≡ width_at l.entries
  widths-shown = λ j s. width-shown s j

  small-shown : IsFit l → (s : ℕ) → width_in signals s ≤ 64
  small-shown fit s = rw (width-shown s) (go (slice_get l.entries s) refl)
    where
      go : (o : Option Entry) → slice_get l.entries s ≡ o → option_map_or (λ (e : Entry). width_of e.range) o 0 ≤ 64
      go None e = omega arith
      go (Some q) e = leb-true (width_of q.range) 64 (and_parts (nat_le 1 (width_of q.range)) (nat_le (width_of q.range) 64) (fit.entries s q e)).1

  module _ (k : Kind) (t : StmtTree) (r : FStmt) (d : IsDone (done l k t) r) where
    within-shown : IsWithin (width_in signals) (stmt_of r)
    within-shown = subst (λ (wid : ℕ → ℕ). IsWithin wid (stmt_of r)) (sym widths-shown) (λ s i h. done-in l k t s i (sym (d.alike.may (width_at l.entries) s i) ∙ h))

    rule-shown : (o : Option ℕ) → o ≡ latch_in (width_in signals) (stmt_of r) (length signals) → latch_rule l.entries (done l k t).stmt ≡ latch_of l.entries o
    rule-shown o e = ap (latch_of l.entries) (sym (e ∙ ap₂ (λ (wid : ℕ → ℕ) n. latch_in wid (stmt_of r) n) widths-shown (ap length shown ∙ length-map l.entries signal_of)
        ∙ alike-first (width_at l.entries) (stmt_of r) (done l k t).stmt d.alike (length l.entries)))

    -- what `first_latch` finds in the statement breaks what the definition's rule breaks
    pub latch-found : IsFit l → (result : Result (Option ℕ) NoMemory)
        → (((s : ℕ) → width_in signals s ≤ 64) → IsFull (stmt_of r) → IsWithin (width_in signals) (stmt_of r) → IfOk result (λ o. o ≡ latch_in (width_in signals) (stmt_of r) (length signals)))
        → IfOk result (λ o. latch_rule l.entries (done l k t).stmt ≡ latch_of l.entries o)
    latch-found fit result h = IfOk-weaker result _ _ rule-shown (h (small-shown fit) d.full within-shown)
