-- Assignments one after another.
use Rattle.std.proofs.Common.{◌≡◌, ℕ, Bool, true, false, cond, ◌||◌, ◌==◌, List, [], ◌∷◌, ◌++◌, Option, Some, None, is_some, refl, sym, ap, ap₂, ◌∙◌, append_assoc, append-nil}
use Rattle.std.specs.Option.{option_or}
use Rattle.cell_graph.specs.declared.cell.CellId.{CellId}
use Rattle.driver_trees.specs.declared.present.Present.{Present}
use Rattle.driver_trees.specs.Presents.{present_of, is_target}
use Rattle.driver_trees.specs.Changes.{first_of, Assigns}

some_either : (o p : Option CellId) → is_some (option_or o p) ≡ (is_some o || is_some p)
some_either None p = refl
some_either (Some x) p = refl

either_more : (o p q : Option CellId) → option_or (option_or o p) q ≡ option_or o (option_or p q)
either_more None p q = refl
either_more (Some x) p q = refl

first_either : (b : Bool) (v : CellId) (o p : Option CellId) → cond b (Some v) (option_or o p) ≡ option_or (cond b (Some v) o) p
first_either true v o p = refl
first_either false v o p = refl

pub first_more : (es fs : List (ℕ × CellId)) (x : ℕ) → first_of (es ++ fs) x ≡ option_or (first_of es x) (first_of fs x)
first_more [] fs x = refl
first_more (e ∷ es) fs x = ap (cond (x == e.0) (Some e.1)) (first_more es fs x) ∙ first_either (x == e.0) e.1 (first_of es x) (first_of fs x)

pub assigns_none : (p : Present) → Assigns p p (λ x. false)
assigns_none p = record { entries = []; log = sym (append-nil p.log.items); logged = λ x. refl; back = λ x. refl; targets = λ x. refl; widths = refl; blocking = refl }

pub assigns_more : (p q r : Present) (a b : ℕ → Bool) → Assigns p q a → Assigns q r b → Assigns p r (λ x. a x || b x)
assigns_more p q r a b h k = record {
  entries = h.entries ++ k.entries;
  log = k.log ∙ ap (λ l. l ++ k.entries) h.log ∙ append_assoc p.log.items h.entries k.entries;
  logged = λ x. ap is_some (first_more h.entries k.entries x) ∙ some_either (first_of h.entries x) (first_of k.entries x) ∙ ap₂ (λ u v. u || v) (h.logged x) (k.logged x);
  back = λ x. h.back x ∙ ap (option_or (first_of h.entries x)) (k.back x) ∙ sym (either_more (first_of h.entries x) (first_of k.entries x) (present_of r x))
      ∙ ap (λ o. option_or o (present_of r x)) (sym (first_more h.entries k.entries x));
  targets = λ x. k.targets x ∙ h.targets x;
  widths = k.widths ∙ h.widths;
  blocking = k.blocking ∙ h.blocking;
}

pub assigns_same : (p q : Present) (a b : ℕ → Bool) → Assigns p q a → ((x : ℕ) → a x ≡ b x) → Assigns p q b
assigns_same p q a b h e = record { entries = h.entries; log = h.log; logged = λ x. h.logged x ∙ e x; back = h.back; targets = h.targets; widths = h.widths; blocking = h.blocking }
