-- How many bits a name of an instance's module takes, and whether what is given to it is too short.
use Rattle.std.proofs.Common.{◌≡◌, ℕ, Bool, true, false, ◌||◌, nat_lt, List, ◌∷◌, map, Option, Some, None, Result, Ok, Err, refl, sym, ap, ap₂, ◌∙◌, rules}
use Rattle.std.specs.Prelude.{slice_get, is_some, option_map, option_and_then}
use Rattle.std.specs.Option.{option_map_or}
use Rattle.std.specs.List.{list_any}
use Rattle.std.proofs.lemmas.List.Folds.{list_any-append}
use Rattle.indexmap.specs.IndexMap.{IndexMap}
use Rattle.cdc_base.specs.declared.fault.Fault.{Fault}
use Rattle.cdc_base.specs.declared.fault.Stop.{Stop}
use Rattle.cdc_base.specs.declared.fault.Stop.TheVariants.{Refused, Memory}
use Rattle.verilog_ast.specs.declared.Module.{Module}
use Rattle.verilog_reading.specs.SourceTree.{ModuleTree}
use Rattle.flat_unfolding.specs.Outcome.{Text, Outcome, good, bad, refused_if}
use Rattle.flat_unfolding.specs.Names as n
use Rattle.flat_unfolding.specs.Names.{Names, Range, span, meaning_in}
use Rattle.flat_unfolding.specs.Instances.{Leaning, taken_bits, is_short}
use Rattle.flat_unfolding.specs.Design.{Stage}
use Rattle.flat_names.specs.declared.scope.Bounds.{Bounds}
use Rattle.flat_names.specs.declared.scope.Param.{Param}
use Rattle.flat_names.specs.declared.scope.Meaning.{Meaning}
use Rattle.flat_names.specs.declared.scope.Meaning.TheVariants as m
use Rattle.flat_names.specs.Noting.{Refuses}
use Rattle.flat_names.specs.Looks.{range_of, param_of, meaning_of, kept_in, IsFitParam}
use Rattle.flat_names.specs.Designs.{ShowsNames}
use Rattle.flat_design.specs.declared.visit.Open.{Open}
use Rattle.flat_design.specs.Visiting.{leaning_in, AreFitNames, IsFitMeaning, Frame, IsFrame, closed, IsClosed}

-- ---- the meaning of a name

module _ {S : Type 0} (table : IndexMap Text Meaning S) (names : Names) (h : ShowsNames table names) (x : Text) where
  pub meant-by : (o : Option Meaning) → o ≡ kept_in table x → meaning_in names x ≡ option_and_then n.as_value (option_map meaning_of o)
  meant-by o e = ap (option_and_then n.as_value) (sym (h.kept x) ∙ ap (option_map meaning_of) (sym e))

  pub fit-meant : (count : ℕ) → AreFitNames names count → (v : Meaning) → Some v ≡ kept_in table x → IsFitMeaning count v
  fit-meant count fit (m.Param p) e = fit.params x (param_of p) (meant-by (Some (m.Param p)) e)
  fit-meant count fit (m.Signal s) e = fit.signals x s (meant-by (Some (m.Signal s)) e)
  fit-meant count fit (m.Memory a) e = tt
  fit-meant count fit m.NoValue e = tt

-- a parameter with a range has its width, and takes no bits of its own without one
pub param-bits : (p : Param) → IsFitParam (param_of p) → (b : Bool) → b ≡ is_some p.bounds → b ≡ true → p.width ≡ option_map_or span (option_map range_of p.bounds) 0
param-bits p h b e t = go p.bounds (sym e ∙ t) (λ r. h.range r)
  where
    go : (o : Option Bounds) → is_some o ≡ true → ((r : Range) → option_map range_of o ≡ Some r → span r ≡ p.width) → p.width ≡ option_map_or span (option_map range_of o) 0
    go None s k = absurd (search (rules, s))
    go (Some q) s k = sym (k (range_of q) refl)

pub no-bits : (p : Param) (b : Bool) → b ≡ is_some p.bounds → b ≡ false → 0 ≡ option_map_or span (option_map range_of p.bounds) 0
no-bits p b e f = go p.bounds (sym e ∙ f)
  where
    go : (o : Option Bounds) → is_some o ≡ false → 0 ≡ option_map_or span (option_map range_of o) 0
    go None s = refl
    go (Some q) s = absurd (search (rules, s))

-- ---- what is given is too short

pub short-is : (s : Stage) (g : Leaning) (o : Option n.Meaning) (bits : ℕ) → meaning_in s.names g.name ≡ o → bits ≡ taken_bits s.design.entries o → nat_lt g.bits bits ≡ is_short s g
short-is s g o bits e b = ap (nat_lt g.bits) (b ∙ ap (taken_bits s.design.entries) (sym e))

-- ---- a module ends

refuses-closed : (o : Outcome (Unit {0})) (t : Fault) (r : Result (Unit {0}) Stop) → o ≡ bad t → Refuses t r → IsClosed o r
refuses-closed o t (Ok u) e h = absurd h
refuses-closed o t (Err (Refused q)) e h = e ∙ ap bad (sym h)
refuses-closed o t (Err Memory) e h = tt

module _ (modules : List Module) (o : Open) (f : Frame) (h : IsFrame modules o f) (s : Stage) where
  any-short : list_any (is_short s) f.given ≡ (list_any (is_short s) (map leaning_in o.given.params.items) || list_any (is_short s) (map leaning_in o.given.ports.items))
  any-short = ap (list_any (is_short s)) (sym h.given) ∙ list_any-append (is_short s) (map leaning_in o.given.params.items) (map leaning_in o.given.ports.items)

  pub closed-short : (b : Bool) → b ≡ list_any (is_short s) f.given → b ≡ true → (name : Text) → ((m : Module) → slice_get modules o.module ≡ Some m → name ≡ m.name) → (r : Result (Unit {0}) Stop)
      → Refuses (record { number = 306; place = o.given.place; name = name }) r → IsClosed (closed f s) r
  closed-short b e t name k r h' = refuses-closed (closed f s) (record { number = 306; place = o.given.place; name = name }) r same h'
    where
      same : closed f s ≡ bad (record { number = 306; place = o.given.place; name = name })
      same =
          ap (λ c. refused_if c 306 f.place f.tree.name) (sym e ∙ t)
          ∙ ap₂ (λ p x. let g : Fault = record { number = 306; place = p; name = x } in bad g) (sym h.place) (ap (λ (t : ModuleTree). t.name) h.is ∙ sym (k h.tree h.found))

  pub closed-wide : (b : Bool) → b ≡ list_any (is_short s) f.given → b ≡ false → closed f s ≡ good tt
  closed-wide b e t = ap (λ c. refused_if c 306 f.place f.tree.name) (sym e ∙ t)

  pub first-short : (b : Bool) → b ≡ list_any (is_short s) (map leaning_in o.given.params.items) → b ≡ true → true ≡ list_any (is_short s) f.given
  first-short b e t = sym (any-short ∙ ap (λ c. c || list_any (is_short s) (map leaning_in o.given.ports.items)) (sym e ∙ t))

  pub then-short : (b c : Bool) → b ≡ list_any (is_short s) (map leaning_in o.given.params.items) → b ≡ false → c ≡ list_any (is_short s) (map leaning_in o.given.ports.items) → c ≡ list_any (is_short s) f.given
  then-short b c e t d = d ∙ sym (any-short ∙ ap (λ a. a || list_any (is_short s) (map leaning_in o.given.ports.items)) (sym e ∙ t))

-- ---- one of several is too short

pub any-first : {A : Type 0} (p : A → Bool) (x : A) (xs : List A) → p x ≡ true → list_any p (x ∷ xs) ≡ true
any-first p x xs e = ap (λ b. b || list_any p xs) e

pub any-next : {A : Type 0} (p : A → Bool) (x : A) (xs : List A) → p x ≡ false → list_any p (x ∷ xs) ≡ list_any p xs
any-next p x xs e = ap (λ b. b || list_any p xs) e
