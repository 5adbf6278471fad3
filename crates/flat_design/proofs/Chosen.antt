-- The visit of modules with all their items, by its two definitions.
use Rattle.std.proofs.Common.{◌≡◌, ℕ, zero, suc, ◌++◌, false, List, [], ◌∷◌, length, Option, Some, None, refl, ap, ◌∙◌}
use Rattle.std.specs.Prelude.{codes}
use Rattle.std.specs.List.{list_any}
use Rattle.cdc_base.specs.declared.fault.Place.{Place}
use Rattle.cdc_base.specs.Words.{is_in}
use Rattle.verilog_reading.specs.SourceTree.{ConnsTree, BodyTree, param, decl, assign, gate, instance, always, initial, ItemTree, ModuleTree}
use Rattle.flat_unfolding.specs.Outcome.{Text, Outcome, good, then_, each, refused_if, by_number, judged}
use Rattle.flat_unfolding.specs.Names.{is_declared, no_value, printed_part}
use Rattle.flat_unfolding.specs.Declarations.{declarations}
use Rattle.flat_unfolding.specs.Design.{Design, Stage, look_of}
use Rattle.flat_unfolding.specs.Instances.{override_rules, connection_rules, overrides_of, links_of, connected, leaning_of, is_short}
use Rattle.flat_unfolding.specs.Parameters.{Overrides, parameters}
use Rattle.flat_unfolding.specs.Unfolding.{Visit, module_named, instance_item, item_of, item, header_values, with_resets, visit}
use Rattle.flat_design.specs.Chosen.{chosen_item_of, chosen_item, chosen_visit}
use Rattle.flat_design.proofs.Visits.{then-same}

then-of : {A B : Type 0} (o p : Outcome A) (k : A → Outcome B) → o ≡ p → then_ o k ≡ then_ p k
then-of o p k e = ap (λ q. then_ q k) e

each-same : {S X : Type 0} (f g : S → X → Outcome S) → ((s : S) (x : X) → f s x ≡ g s x) → (s : S) (xs : List X) → each f s xs ≡ each g s xs
each-same f g h s [] = refl
each-same f g h s (x ∷ xs) = then-of (f s x) (g s x) (λ t. each f t xs) (h s x) ∙ then-same (g s x) (λ t. each f t xs) (λ t. each g t xs) (λ t. each-same f g h t xs)

module _ (modules : List ModuleTree) (visiting : List Text) (prefix : Text) (one other : Visit)
    (same : (prefix : Text) (visiting : List Text) (m : ModuleTree) (given : Overrides) (ports : Stage → Stage) (d : Design) → one prefix visiting m given ports d ≡ other prefix visiting m given ports d) where
  -- an instance, given the visit of its module
  abbrev around : Stage → Place → ModuleTree → ConnsTree → Text → ConnsTree → Outcome Stage → Outcome Stage
  around s p m params x ports o =
      then_ (refused_if (is_in visiting m.name) 303 (Some p) m.name) (λ u.
      then_ (refused_if (is_declared s.names x) 304 (Some p) x) (λ u.
      then_ (judged by_number p (override_rules (look_of s) m params ++ connection_rules (look_of s) m ports) (tt {0})) (λ u.
      then_ o (λ t.
      then_ (refused_if (list_any (is_short t) (leaning_of (look_of s) m params ports)) 306 (Some p) m.name) (λ u.
      good (record { names = s.names ++ ((x, no_value) ∷ []); design = t.design }))))))

  instance-same : (s : Stage) (p : Place) (o : Option ModuleTree) (child : Text) (params : ConnsTree) (x : Text) (ports : ConnsTree)
      → instance_item modules visiting prefix one s p o child params x ports ≡ instance_item modules visiting prefix other s p o child params x ports
  instance-same s p None child params x ports = refl
  instance-same s p (Some m) child params x ports =
      ap (around s p m params x ports)
      (same (prefix ++ printed_part x ++ codes ".") (m.name ∷ visiting) m (overrides_of (look_of s) m params) (connected (links_of (look_of s) m ports)) s.design)

  item-same : (s : Stage) (p : Place) (b : BodyTree) → chosen_item_of false modules visiting prefix one s p b ≡ item_of modules visiting prefix other s p b
  item-same s p (param q) = refl
  item-same s p (decl d) = refl
  item-same s p (assign t e) = refl
  item-same s p (gate kind es) = refl
  item-same s p (instance child params x ports) = instance-same s p (module_named child modules) child params x ports
  item-same s p (always event body) = refl
  item-same s p (initial body) = refl

-- a visit, given what is done of each item
module _ (prefix : Text) (m : ModuleTree) (given : Overrides) (ports : Stage → Stage) (d : Design) where
  abbrev third : (Stage → ItemTree → Outcome Stage) → Stage → Outcome Stage
  third f t = then_ (header_values m (ports (with_resets (length d.entries) t))) (λ u. each f u m.items)

  abbrev second : (Stage → ItemTree → Outcome Stage) → Stage → Outcome Stage
  second f s = then_ (declarations prefix m s) (third f)

  abbrev first : Outcome Stage
  first = parameters given m (record { names = []; design = d })

  visit-same : (f g : Stage → ItemTree → Outcome Stage) → ((s : Stage) (i : ItemTree) → f s i ≡ g s i) → then_ first (second f) ≡ then_ first (second g)
  visit-same f g h =
      then-same first (second f) (second g) (λ s.
      then-same (declarations prefix m s) (third f) (third g) (λ t.
      then-same (header_values m (ports (with_resets (length d.entries) t))) (λ u. each f u m.items) (λ u. each g u m.items) (λ u. each-same f g h u m.items)))

pub all-chosen : (modules : List ModuleTree) (n : ℕ) (prefix : Text) (visiting : List Text) (m : ModuleTree) (given : Overrides) (ports : Stage → Stage) (d : Design)
    → chosen_visit false modules n prefix visiting m given ports d ≡ visit modules n prefix visiting m given ports d
all-chosen modules zero prefix visiting m given ports d = refl
all-chosen modules (suc n) prefix visiting m given ports d =
    visit-same prefix m given ports d (chosen_item false modules visiting prefix (chosen_visit false modules n)) (item modules visiting prefix (visit modules n))
    (λ (v : Stage) (i : ItemTree). item-same modules visiting prefix (chosen_visit false modules n) (visit modules n) (all-chosen modules n) v i.place i.body)
