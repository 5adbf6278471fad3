-- The bound on the depth of visits is never met.
use Rattle.std.proofs.Common.{◌≡◌, ℕ, zero, suc, ◌+◌, ◌<◌, Bool, true, false, List, [], ◌∷◌, ◌++◌, length, map, Option, Some, None, refl, ap, ◌∙◌, arith}
use Rattle.std.specs.Prelude.{codes}
use Rattle.std.specs.List.{list_any}
use Rattle.cdc_base.specs.declared.fault.Place.{Place}
use Rattle.cdc_base.specs.Words.{is_in}
use Rattle.verilog_reading.specs.SourceTree.{ConnsTree, BodyTree, instance, ModuleTree}
use Rattle.flat_unfolding.specs.Outcome.{Text, Outcome, good, bad, then_, each, refused_if, by_number, judged}
use Rattle.flat_unfolding.specs.Names.{is_declared, printed_part, no_value}
use Rattle.flat_unfolding.specs.Design.{Design, Stage, look_of}
use Rattle.flat_unfolding.specs.Parameters.{Overrides, parameters}
use Rattle.flat_unfolding.specs.Declarations.{declarations}
use Rattle.flat_unfolding.specs.Instances.{override_rules, overrides_of, connection_rules, links_of, connected, leaning_of, is_short}
use Rattle.flat_unfolding.specs.Unfolding.{module_named, Visit, instance_of, instance_item, item_of, item, header_values, with_resets, visit}
use Rattle.flat_unfolding.specs.Laws.{DepthLaw}
use Rattle.flat_unfolding.proofs.Names.{AllIn, AreDistinct, no_more_than, found_is_in}

-- ---- steps that are followed by the same

then_same : {A B : Type 0} (o : Outcome A) (f g : A → Outcome B) → ((a : A) → f a ≡ g a) → then_ o f ≡ then_ o g
then_same (good a) f g h = h a
then_same (bad e) f g h = refl

refused_same : {B : Type 0} (b : Bool) (n : ℕ) (p : Option Place) (x : Text) (f g : Unit {0} → Outcome B) → (b ≡ false → (u : Unit {0}) → f u ≡ g u)
    → then_ (refused_if b n p x) f ≡ then_ (refused_if b n p x) g
refused_same true n p x f g h = refl
refused_same false n p x f g h = h refl tt

each_same : {A S : Type 0} (f g : S → A → Outcome S) → ((s : S) (a : A) → f s a ≡ g s a) → (s : S) (xs : List A) → each f s xs ≡ each g s xs
each_same f g h s [] = refl
each_same f g h s (x ∷ xs) = ap (λ o. then_ o (λ t. each f t xs)) (h s x) ∙ then_same (g s x) _ _ (λ t. each_same f g h t xs)

-- ---- visits

abbrev SameVisit : Visit → Visit → Text → List Text → ModuleTree → Type 0
SameVisit v w prefix visiting m = (overrides : Overrides) (ports : Stage → Stage) (d : Design) → v prefix visiting m overrides ports d ≡ w prefix visiting m overrides ports d

module _ (modules : List ModuleTree) where
  abbrev names : List Text
  names = map (λ (m : ModuleTree). m.name) modules

  -- modules that are being visited: each is one of the source's, and none is inside itself
  abbrev AreOpen : List Text → Type 0
  AreOpen xs = AreDistinct xs × AllIn xs names

  count : (ms : List ModuleTree) → length (map (λ (m : ModuleTree). m.name) ms) ≡ length ms
  count [] = refl
  count (m ∷ ms) = ap suc (count ms)

  module _ (visiting : List Text) (are_open : AreOpen visiting) (prefix : Text) (v w : Visit)
      (same : (inner : Text) (m : ModuleTree) → AreOpen (m.name ∷ visiting) → SameVisit v w inner (m.name ∷ visiting) m) where
    same_instance : (s : Stage) (p : Place) (m : ModuleTree) → is_in names m.name ≡ true → (params : ConnsTree) (x : Text) (ports : ConnsTree)
        → instance_of modules visiting prefix v s p m params x ports ≡ instance_of modules visiting prefix w s p m params x ports
    same_instance s p m known params x ports =
        let look = look_of s in
        refused_same (is_in visiting m.name) 303 (Some p) m.name _ _ (λ new a.
        then_same (refused_if (is_declared s.names x) 304 (Some p) x) _ _ (λ b.
        then_same (judged by_number p (override_rules look m params ++ connection_rules look m ports) (tt {0})) _ _ (λ c.
        ap (λ o. then_ o (λ (t : Stage). then_ (refused_if (list_any (is_short t) (leaning_of look m params ports)) 306 (Some p) m.name)
        (λ (u : Unit {0}). good (record { names = s.names ++ ((x, no_value) ∷ []); design = t.design }))))
        (same (prefix ++ printed_part x ++ codes ".") m ((new, are_open.0), (known, are_open.1)) (overrides_of look m params) (connected (links_of look m ports)) s.design))))

    same_if : (s : Stage) (p : Place) (o : Option ModuleTree) → ((m : ModuleTree) → o ≡ Some m → is_in names m.name ≡ true) → (child : Text) (params : ConnsTree) (x : Text) (ports : ConnsTree)
        → instance_item modules visiting prefix v s p o child params x ports ≡ instance_item modules visiting prefix w s p o child params x ports
    same_if s p None h child params x ports = refl
    same_if s p (Some m) h child params x ports = same_instance s p m (h m refl) params x ports

    same_item : (s : Stage) (p : Place) (body : BodyTree) → item_of modules visiting prefix v s p body ≡ item_of modules visiting prefix w s p body
    same_item s p (instance child params x ports) = same_if s p (module_named child modules) (found_is_in child modules) child params x ports
    same_item s p body = refl

  -- where the bound exceeds what modules are left, one more is the same
  same_visit : (n : ℕ) (prefix : Text) (visiting : List Text) (m : ModuleTree) → AreOpen visiting → length modules < n + length visiting
      → SameVisit (visit modules (suc n)) (visit modules n) prefix visiting m
  same_visit zero prefix visiting m o l overrides ports d = let k = no_more_than visiting names o.0 o.1 in let c = count modules in absurd (omega arith)
  same_visit (suc n) prefix visiting m o l overrides ports d =
      then_same (parameters overrides m (record { names = []; design = d })) _ _ (λ s.
      then_same (declarations prefix m s) _ _ (λ t.
      then_same (header_values m (ports (with_resets (length d.entries) t))) _ _ (λ u.
      each_same (item modules visiting prefix (visit modules (suc n))) (item modules visiting prefix (visit modules n))
      (λ a i. same_item visiting o prefix (visit modules (suc n)) (visit modules n)
      (λ inner k p. same_visit n inner (k.name ∷ visiting) k p (let j : length modules < n + length (k.name ∷ visiting) = omega (arith, l) in j)) a i.place i.body)
      u m.items)))

pub depth_law : DepthLaw
depth_law modules top m e ports d zero = let h : length modules + 0 ≡ length modules = omega arith in ap (λ n. visit modules n [] (m.name ∷ []) m [] ports d) h
depth_law modules top m e ports d (suc more) =
    let h : length modules + suc more ≡ suc (length modules + more) = omega arith in
    let l : length modules < length modules + more + 1 = omega arith in
    ap (λ n. visit modules n [] (m.name ∷ []) m [] ports d) h
    ∙ same_visit modules (length modules + more) [] (m.name ∷ []) m ((refl, tt), (found_is_in top modules m e, tt)) l [] ports d
    ∙ depth_law modules top m e ports d more
