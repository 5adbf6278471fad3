-- Overrides and connections of an instance, where they break no rule, or the refusal of one.
use Rattle.std.proofs.Common.{◌≡◌, Bool, false, cond, nat_lt, List, [], ◌∷◌, map, Option, Some, None, Result, Ok, Err, refl, sym, ap, subst, ◌∙◌, rules}
use Rattle.cdc_base.specs.declared.signal.ResetPin.{ResetPin}
use Rattle.cdc_base.specs.declared.fault.Place.{Place}
use Rattle.cdc_base.specs.declared.fault.Stop.{Stop}
use Rattle.cdc_base.specs.declared.fault.Stop.TheVariants.{Refused, Memory}
use Rattle.indexmap.specs.IndexMap.{IndexMap}
use Rattle.verilog_reading.specs.SourceTree.{ConnsTree, ModuleTree}
use Rattle.flat_unfolding.specs.Outcome.{Text, Broken, Outcome, bad, by_number, first_of_all, fault_of, judged}
use Rattle.flat_unfolding.specs.Names.{reset_at}
use Rattle.flat_unfolding.specs.Design.{Stage, look_of}
use Rattle.flat_names.specs.declared.fault.Order.TheVariants as k
use Rattle.flat_names.specs.declared.scope.Look.{Look}
use Rattle.flat_names.specs.declared.design.Entry.{Entry}
use Rattle.flat_names.specs.declared.design.Design.{Design}
use Rattle.flat_names.specs.Noting.{Noted, all_noted, Raises}
use Rattle.flat_names.specs.Looks.{seen, Shows}
use Rattle.flat_names.specs.Designs.{ShowsNames, ShowsStage, IsReset, reset_of}
use Rattle.flat_design.specs.Visiting.{Table, ShowsResets, end_rules, AreEnds}

-- nothing was noted
abbrev pub none_noted : Noted
none_noted = record { order = k.Other; found = None }

first-noted : (b : Broken) (bs : List Broken) → (all_noted (record { order = k.Other; found = Some b }) bs).found ≡ Some (first_of_all by_number b bs)
first-noted b [] = refl
first-noted b (c ∷ bs) = first-noted (cond (nat_lt c.number b.number) c b) bs

none-broken : (p : Place) (bs : List Broken) (u : Unit {0}) → Raises (all_noted none_noted bs).found p (Ok u) → bs ≡ []
none-broken p [] u h = refl
none-broken p (b ∷ bs) u h = let e = subst (λ m. Raises m p (Ok u)) (first-noted b bs) h in absurd (search (rules, e))

-- no rule is broken where none was raised
pub none-raised : (p : Place) (bs : List Broken) (noted : Noted) (u : Unit {0}) → noted ≡ all_noted none_noted bs → Raises noted.found p (Ok u) → bs ≡ []
none-raised p bs noted u e h = none-broken p bs u (subst (λ (m : Noted). Raises m.found p (Ok u)) e h)

-- the refusal, or want of memory
abbrev pub IsBad : Outcome (Unit {0}) → Stop → Type 0
IsBad o (Refused f) = o ≡ bad f
IsBad o Memory = Unit {0}

err-is : (x y : Stop) (r : Result (Unit {0}) Stop) → r ≡ Err x → r ≡ Err y → x ≡ y
err-is x y r e f = let g = sym e ∙ f in search (rules, g)

first-raised : (p : Place) (bs : List Broken) (x : Stop) → Raises (all_noted none_noted bs).found p (Err x) → IsBad (judged by_number p bs (tt {0})) x
first-raised p [] x h = absurd (search (rules, h))
first-raised p (b ∷ bs) x h = subst (IsBad (bad (fault_of p (first_of_all by_number b bs)))) (sym (err-is x (Refused (fault_of p (first_of_all by_number b bs))) (Err x) refl (subst (λ m. Raises m p (Err x)) (first-noted b bs) h))) refl

pub one-raised : (p : Place) (bs : List Broken) (noted : Noted) (x : Stop) → noted ≡ all_noted none_noted bs → Raises noted.found p (Err x) → IsBad (judged by_number p bs (tt {0})) x
one-raised p bs noted x e h = first-raised p bs x (subst (λ (m : Noted). Raises m.found p (Err x)) e h)

-- what a stage is read in
module _ (pins : List ResetPin) (names : Table) (design : Design) (s : Stage) (h : ShowsStage pins names design s) (look : Look) (entries : look.entries.now ≡ design.entries.items) where
  pub stage-looks : look.names.now ≡ names → look.active ≡ false → Shows look (look_of s)
  stage-looks e f =
      let shows = subst (λ (t : Table). ShowsNames t s.names) (sym e) h.names in
      record { names = shows.kept; entries = ap (λ (xs : List Entry). map seen xs) entries ∙ h.design.entries; active = f }

  pub stage-resets : ShowsResets pins look.entries.now s.design.entries
  stage-resets t = subst (λ (xs : List Entry). IsReset pins (reset_of xs t) (reset_at s.design.entries t)) (sym entries) (h.design.resets t)

-- the refusal of an instance's overrides or connections
pub ends-refused : {T : Type 0} (pins : List ResetPin) (sides : IndexMap Text (Option Bool) T) (s : Stage) (p : Place) (m : ModuleTree) (params ports : ConnsTree) (e : Stop)
    → IsBad (judged by_number p (end_rules s m params ports) (tt {0})) e → AreEnds pins sides s p m params ports (Err e)
ends-refused pins sides s p m params ports (Refused f) h = h
ends-refused pins sides s p m params ports Memory h = tt
