-- Steps of a visit, by the definition.
use Rattle.std.proofs.Common.{◌≡◌, ℕ, suc, Bool, true, false, List, [], ◌∷◌, ◌++◌, length, Option, Some, refl, ap, ◌∙◌, rules}
use Rattle.std.specs.Prelude.{codes}
use Rattle.std.specs.List.{list_any}
use Rattle.cdc_base.specs.declared.fault.Place.{Place}
use Rattle.cdc_base.specs.declared.fault.Fault.{Fault}
use Rattle.cdc_base.specs.Words.{is_in}
use Rattle.verilog_reading.specs.SourceTree.{ConnsTree, instance, ItemTree, ModuleTree}
use Rattle.flat_unfolding.specs.Outcome.{Text, Broken, Outcome, good, bad, then_, each, refused_if, Order, by_number, judged}
use Rattle.flat_unfolding.specs.Names.{is_declared, printed_part, no_value}
use Rattle.flat_unfolding.specs.Design.{Design, Stage, look_of}
use Rattle.flat_unfolding.specs.Parameters.{Overrides, parameters}
use Rattle.flat_unfolding.specs.Declarations.{declarations}
use Rattle.flat_unfolding.specs.Instances.{overrides_of, links_of, connected, leaning_of, is_short}
use Rattle.flat_unfolding.specs.Unfolding.{module_named, instance_item, header_values, with_resets}
use Rattle.flat_design.specs.Chosen.{chosen_item, chosen_visit}
use Rattle.flat_design.specs.Visiting.{Frame, visited, closed, rest_of, next_of, begun, end_rules}

pub then-then : {A B C : Type 0} (o : Outcome A) (f : A → Outcome B) (g : B → Outcome C) → then_ (then_ o f) g ≡ then_ o (λ a. then_ (f a) g)
then-then (good a) f g = refl
then-then (bad e) f g = refl

pub then-same : {A B : Type 0} (o : Outcome A) (f g : A → Outcome B) → ((a : A) → f a ≡ g a) → then_ o f ≡ then_ o g
then-same (good a) f g h = h a
then-same (bad e) f g h = refl

module _ (wires_only : Bool) (modules : List ModuleTree) where
  -- a module whose items are done
  pub rest-none : (f : Frame) (fs : List Frame) (d : Design) → f.items ≡ [] → rest_of wires_only modules (f ∷ fs) d ≡ then_ (closed f (record { names = f.names; design = d })) (λ u. rest_of wires_only modules fs d)
  rest-none f fs d e =
      ap (λ (is : List ItemTree). then_ (each (chosen_item wires_only modules (visited (f ∷ fs)) f.prefix (chosen_visit wires_only modules f.depth)) (record { names = f.names; design = d }) is)
      (λ (s : Stage). then_ (closed f s) (λ u. rest_of wires_only modules fs s.design))) e

  -- a module with an item that is left
  pub rest-next : (f : Frame) (fs : List Frame) (d : Design) (i : ItemTree) (is : List ItemTree) → f.items ≡ i ∷ is → rest_of wires_only modules (f ∷ fs) d ≡ next_of wires_only modules (record f { items = is }) fs d i
  rest-next f fs d i is e =
      ap (λ (js : List ItemTree). then_ (each (chosen_item wires_only modules (visited (f ∷ fs)) f.prefix (chosen_visit wires_only modules f.depth)) (record { names = f.names; design = d }) js)
      (λ (s : Stage). then_ (closed f s) (λ u. rest_of wires_only modules fs s.design))) e
      ∙ then-then (chosen_item wires_only modules (visited (f ∷ fs)) f.prefix (chosen_visit wires_only modules f.depth) (record { names = f.names; design = d }) i)
      (λ (t : Stage). each (chosen_item wires_only modules (visited (f ∷ fs)) f.prefix (chosen_visit wires_only modules f.depth)) t is) (λ (s : Stage). then_ (closed f s) (λ u. rest_of wires_only modules fs s.design))

-- ---- an instance that breaks no rule

unrefused : {B : Type 0} (b : Bool) (n : ℕ) (p : Option Place) (x : Text) (k : Unit {0} → Outcome B) → b ≡ false → then_ (refused_if b n p x) k ≡ k tt
unrefused false n p x k e = refl
unrefused true n p x k e = absurd (search (rules, e))

unbroken : {B : Type 0} (order : Order) (p : Place) (bs : List Broken) (k : Unit {0} → Outcome B) → bs ≡ [] → then_ (judged order p bs (tt {0})) k ≡ k tt
unbroken order p [] k e = refl
unbroken order p (b ∷ bs) k e = absurd (search (rules, e))

regroup : {A B C D E : Type 0} (o : Outcome A) (f : A → Outcome B) (w : B → B) (g : B → Outcome C) (h : C → Outcome D) (k : D → Outcome E)
    → then_ (then_ o (λ a. then_ (f a) (λ b. then_ (g (w b)) h))) k ≡ then_ (then_ o (λ a. then_ (f a) (λ b. good (w b)))) (λ b. then_ (g b) (λ c. then_ (h c) k))
regroup (bad e) f w g h k = refl
regroup {B = B} {C = C} (good a) f w g h k = go (f a)
  where
    last : (o : Outcome C) → then_ (then_ o h) k ≡ then_ o (λ c. then_ (h c) k)
    last o = then-then o h k

    go : (o : Outcome B) → then_ (then_ o (λ b. then_ (g (w b)) h)) k ≡ then_ (then_ o (λ b. good (w b))) (λ b. then_ (g b) (λ c. then_ (h c) k))
    go (good b) = last (g (w b))
    go (bad e) = refl

module _ (wires_only : Bool) (modules : List ModuleTree) where
  -- the visit of a module goes on with the stack
  pub visit-is : (n : ℕ) (prefix : Text) (visiting : List Text) (m : ModuleTree) (given : Overrides) (ports : Stage → Stage) (d : Design) (k : Stage → Outcome Design)
      → then_ (chosen_visit wires_only modules (suc n) prefix visiting m given ports d) k
      ≡ then_ (begun given prefix m d)
      (λ (t : Stage). then_ (header_values m (ports t)) (λ (u : Stage). then_ (each (chosen_item wires_only modules visiting prefix (chosen_visit wires_only modules n)) u m.items) k))
  visit-is n prefix visiting m given ports d k =
      regroup (parameters given m (record { names = []; design = d })) (λ (s : Stage). declarations prefix m s) (with_resets (length d.entries)) (λ (t : Stage). header_values m (ports t))
      (λ (u : Stage). each (chosen_item wires_only modules visiting prefix (chosen_visit wires_only modules n)) u m.items) k

  module _ (f : Frame) (fs : List Frame) (d : Design) (p : Place) (m : ModuleTree) (child : Text) (params : ConnsTree) (x : Text) (ports : ConnsTree) where
    abbrev here : Stage
    here = record { names = f.names; design = d }

    abbrev pub below : Text
    below = f.prefix ++ printed_part x ++ codes "."

    abbrev pub around : Frame
    around = record f { names = f.names ++ ((x, no_value) ∷ []) }

    abbrev pub inside : ℕ → Stage → Frame
    inside n u = record { tree = m; names = u.names; items = m.items; prefix = below; depth = n; given = leaning_of (look_of here) m params ports; place = Some p }

    -- E306 of what is too short, once its module is visited
    abbrev judge : Stage → Outcome (Unit {0})
    judge t = refused_if (list_any (is_short t) (leaning_of (look_of here) m params ports)) 306 (Some p) m.name

    abbrev after : Stage → Outcome Stage
    after t = then_ (judge t) (λ u. good (record { names = f.names ++ ((x, no_value) ∷ []); design = t.design }))

    -- what is still to come once the parameters and declarations of its module are read
    abbrev pub entering : ℕ → Stage → Outcome Design
    entering n t = then_ (header_values m (connected (links_of (look_of here) m ports) t)) (λ (u : Stage). rest_of wires_only modules (inside n u ∷ around ∷ fs) u.design)

    pub instance-is : (n : ℕ) → f.depth ≡ suc n → module_named child modules ≡ Some m → is_in (visited (f ∷ fs)) m.name ≡ false → is_declared f.names x ≡ false → end_rules here m params ports ≡ []
        → next_of wires_only modules f fs d (record { place = p; body = instance child params x ports })
        ≡ then_ (begun (overrides_of (look_of here) m params) below m d) (entering n)
    instance-is n depth named new fresh right =
        let g : Stage → Outcome Design = λ (s : Stage). rest_of wires_only modules (record f { names = s.names } ∷ fs) s.design in
        ap (λ (o : Option ModuleTree). then_ (instance_item modules (visited (f ∷ fs)) f.prefix (chosen_visit wires_only modules f.depth) here p o child params x ports) g) named
        ∙ ap (λ (o : Outcome Stage). then_ o g)
        (unrefused (is_in (visited (f ∷ fs)) m.name) 303 (Some p) m.name _ new ∙ unrefused (is_declared f.names x) 304 (Some p) x _ fresh ∙ unbroken by_number p (end_rules here m params ports) _ right)
        ∙ then-then (chosen_visit wires_only modules f.depth below (m.name ∷ visited (f ∷ fs)) m (overrides_of (look_of here) m params) (connected (links_of (look_of here) m ports)) d) after g
        ∙ then-same (chosen_visit wires_only modules f.depth below (m.name ∷ visited (f ∷ fs)) m (overrides_of (look_of here) m params) (connected (links_of (look_of here) m ports)) d)
        (λ (t : Stage). then_ (after t) g) (λ (t : Stage). then_ (judge t) (λ u. rest_of wires_only modules (around ∷ fs) t.design))
        (λ (t : Stage). then-then (judge t) (λ u. good (record { names = f.names ++ ((x, no_value) ∷ []); design = t.design })) g)
        ∙ ap (λ k. then_ (chosen_visit wires_only modules k below (m.name ∷ visited (f ∷ fs)) m (overrides_of (look_of here) m params) (connected (links_of (look_of here) m ports)) d)
        (λ (t : Stage). then_ (judge t) (λ u. rest_of wires_only modules (around ∷ fs) t.design))) depth
        ∙ visit-is n below (m.name ∷ visited (f ∷ fs)) m (overrides_of (look_of here) m params) (connected (links_of (look_of here) m ports)) d (λ (t : Stage). then_ (judge t) (λ u. rest_of wires_only modules (around ∷ fs) t.design))

    -- an instance whose overrides or connections break a rule
    pub instance-bad : (e : Fault) → module_named child modules ≡ Some m → is_in (visited (f ∷ fs)) m.name ≡ false → is_declared f.names x ≡ false
        → judged by_number p (end_rules here m params ports) (tt {0}) ≡ bad e
        → next_of wires_only modules f fs d (record { place = p; body = instance child params x ports }) ≡ bad e
    instance-bad e named new fresh wrong =
        let g : Stage → Outcome Design = λ (s : Stage). rest_of wires_only modules (record f { names = s.names } ∷ fs) s.design in
        ap (λ (o : Option ModuleTree). then_ (instance_item modules (visited (f ∷ fs)) f.prefix (chosen_visit wires_only modules f.depth) here p o child params x ports) g) named
        ∙ ap (λ (o : Outcome Stage). then_ o g)
        (unrefused (is_in (visited (f ∷ fs)) m.name) 303 (Some p) m.name _ new ∙ unrefused (is_declared f.names x) 304 (Some p) x _ fresh
        ∙ ap (λ (o : Outcome (Unit {0})). then_ o (λ u. then_ (chosen_visit wires_only modules f.depth below (m.name ∷ visited (f ∷ fs)) m (overrides_of (look_of here) m params) (connected (links_of (look_of here) m ports)) d) after)) wrong)
