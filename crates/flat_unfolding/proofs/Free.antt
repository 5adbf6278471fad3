-- Free signals become inputs of the top. Nothing else of them changes, and what is driven stays as it was.
use Rattle.std.proofs.Common.{◌≡◌, ℕ, zero, suc, Bool, true, false, cond, not, List, length, refl, sym, subst, ◌∙◌, rules}
use Rattle.std.specs.List.{list_any}
use Rattle.std.proofs.lemmas.Bool.{and_parts}
use Rattle.flat_meaning.specs.Flat.{Expr, Target, Stmt, is_target, assigns}
use Rattle.flat_unfolding.specs.Outcome.{Text}
use Rattle.flat_unfolding.specs.Names.{Entry, width_at}
use Rattle.flat_unfolding.specs.Design.{Design, change_entry}
use Rattle.flat_unfolding.specs.Signals.{is_driven, is_free, from_outside, freed_from, with_free}
use Rattle.flat_unfolding.proofs.Entries.{same_width}
use Rattle.flat_unfolding.proofs.Known.{top_at}
use Rattle.flat_unfolding.proofs.Grown.{told_other}
use Rattle.flat_unfolding.proofs.Fit.{true_left, true_right}

-- what holds of the signals before, and stays where one comes from outside, holds of them after
pub free_keeps : (P : List Entry → Type 0) → ((n : ℕ) (es : List Entry) → P es → P (change_entry from_outside n es))
    → (named : List Text) (d : Design) → P d.entries → P (with_free named d).entries
free_keeps P f named d = go 0 (length d.entries) d.entries
  where
    one : (n : ℕ) (b : Bool) (es : List Entry) → P es → P (cond b (change_entry from_outside n es) es)
    one n true es p = f n es p
    one n false es p = p

    go : (n more : ℕ) (es : List Entry) → P es → P (freed_from named d n more es)
    go n zero es p = p
    go n (suc more) es p = go (suc n) more (cond (is_free named d n) (change_entry from_outside n es) es) (one n (is_free named d n) es p)

pub free_width : (named : List Text) (d : Design) (s : ℕ) → width_at (with_free named d).entries s ≡ width_at d.entries s
free_width named d s = free_keeps (λ es. width_at es s ≡ width_at d.entries s) (λ n es e. same_width from_outside (λ x. refl) n es s ∙ e) named d refl

-- what is driven comes from outside only if it did before
pub driven_top : (named : List Text) (d : Design) (s : ℕ) → is_driven d s ≡ true → top_at (with_free named d).entries s ≡ top_at d.entries s
driven_top named d s driven = go 0 (length d.entries) d.entries
  where
    not_free : is_free named d s ≡ true → ⊥
    not_free e = let u = (and_parts _ (not (is_driven d s)) e).1 in search (rules, u, driven)

    one : (n : ℕ) (b : Bool) → is_free named d n ≡ b → (es : List Entry) → top_at (cond b (change_entry from_outside n es) es) s ≡ top_at es s
    one n true e es = told_other (λ (x : Entry). x.is_top_input) false from_outside n es s (λ q. not_free (subst (λ k. is_free named d k ≡ true) (sym q) e))
    one n false e es = refl

    go : (n more : ℕ) (es : List Entry) → top_at (freed_from named d n more es) s ≡ top_at es s
    go n zero es = refl
    go n (suc more) es = go (suc n) more (cond (is_free named d n) (change_entry from_outside n es) es) ∙ one n (is_free named d n) refl es

-- a target of an assignment is driven, and so is what a process of wires assigns
pub assigned_driven : (d : Design) (s : ℕ) → list_any (λ (a : Target × Expr). is_target a.0 s) d.assigns ≡ true → is_driven d s ≡ true
assigned_driven d s e = true_left (list_any (λ (a : Target × Expr). is_target a.0 s) d.assigns) _ e

pub processed_driven : (d : Design) (s : ℕ) → list_any (λ (body : Stmt). assigns body s) d.combs ≡ true → is_driven d s ≡ true
processed_driven d s e =
    true_right (list_any (λ (a : Target × Expr). is_target a.0 s) d.assigns) _ (true_left (list_any (λ (body : Stmt). assigns body s) d.combs) _ e)
