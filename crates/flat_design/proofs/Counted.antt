-- Counted overrides stand as plain numbers.
use Rattle.std.proofs.Common.{◌≡◌, Bool, true, false, cond, List, [], ◌∷◌, Option, Some, None, ap, subst, ◌∙◌, rules}
use Rattle.std.specs.Prelude.{All, filter_map, bytes_eq}
use Rattle.std.proofs.lemmas.List.Elements.{All-head, All-tail}
use Rattle.cdc_base.specs.Words.{found_in}
use Rattle.verilog_reading.specs.ExprTree.{ExprTree}
use Rattle.verilog_reading.specs.SourceTree.{ConnTree, ConnsTree, ordered, named, ModuleTree}
use Rattle.flat_unfolding.specs.Outcome.{Text}
use Rattle.flat_unfolding.specs.Names.{Look}
use Rattle.flat_unfolding.specs.Constants.{is_counted}
use Rattle.flat_unfolding.specs.Signs.{is_signed}
use Rattle.flat_unfolding.specs.Expressions.{as_constant, read}
use Rattle.flat_unfolding.specs.Formed.{IsFormed, IsFormedIf, AreConnsFormed}
use Rattle.flat_unfolding.specs.Parameters as p
use Rattle.flat_unfolding.specs.Parameters.{overridable}
use Rattle.flat_unfolding.specs.Instances.{Joint, ordered_joints, named_joint, joints, joint_rules, override_rules, override, overrides_of}
use Rattle.flat_unfolding.proofs.Steps.{none_of_both, some_is}
use Rattle.flat_names.specs.Looks.{IsFit}
use Rattle.flat_declarations.specs.Declaring.{IsCountedValue, AreFitOverrides}
use Rattle.flat_declarations.proofs.Values.{counted-value}
use Rattle.flat_design.specs.Visiting.{constants_of}

-- ---- what is given is formed

abbrev AreGivenFormed : List Joint → Type 0
AreGivenFormed [] = Unit {0}
AreGivenFormed (j ∷ js) = IsFormed j.value × AreGivenFormed js

ordered-formed : (names : List Text) (es : List (Option ExprTree)) → All IsFormedIf es → AreGivenFormed (ordered_joints names es)
ordered-formed names [] h = tt
ordered-formed [] (None ∷ es) h = ordered-formed [] es (All-tail IsFormedIf None es h)
ordered-formed [] (Some e ∷ es) h = (All-head IsFormedIf (Some e) es h, ordered-formed [] es (All-tail IsFormedIf (Some e) es h))
ordered-formed (x ∷ names) (None ∷ es) h = ordered-formed names es (All-tail IsFormedIf None es h)
ordered-formed (x ∷ names) (Some e ∷ es) h = (All-head IsFormedIf (Some e) es h, ordered-formed names es (All-tail IsFormedIf (Some e) es h))

abbrev IsGiven : ConnTree → Type 0
IsGiven c = IsFormedIf c.value

named-formed : (names : List Text) (cs : List ConnTree) → AreConnsFormed (named cs) → AreGivenFormed (filter_map (named_joint names) cs)
named-formed names [] h = tt
named-formed names (c ∷ cs) h = go c.value (All-head IsGiven c cs h) (named-formed names cs (All-tail IsGiven c cs h))
  where
    go : (v : Option ExprTree) → IsFormedIf v → AreGivenFormed (filter_map (named_joint names) cs) → AreGivenFormed (filter_map (named_joint names) (record c { value = v } ∷ cs))
    go None f rest = rest
    go (Some e) f rest = (f, rest)

joints-formed : (names : List Text) (given : ConnsTree) → AreConnsFormed given → AreGivenFormed (joints names given)
joints-formed names (ordered es) h = ordered-formed names es h
joints-formed names (named cs) h = named-formed names cs h

-- ---- overrides

module _ (l : Look) (fit : IsFit l) where
  counted : (js : List Joint) → AreGivenFormed js → constants_of l js ≡ [] → AreFitOverrides (filter_map (override l) js)
  counted [] f b = λ x o e c. absurd (search (rules, e))
  counted (j ∷ js) f b = go j.name (counted js f.1 parts.1)
    where
      parts : ((as_constant (read l j.value)).broken ≡ []) × (constants_of l js ≡ [])
      parts = none_of_both (as_constant (read l j.value)).broken (constants_of l js) b

      given : p.Override
      given = record { value = (read l j.value).expr; is_counted = is_counted l.names j.value; is_signed = is_signed l.names j.value }

      here : is_counted l.names j.value ≡ true → IsCountedValue (read l j.value).expr
      here c = counted-value l fit j.value f.0 (none_of_both (read l j.value).broken _ parts.0).0 c

      go : (name : Option Text) → AreFitOverrides (filter_map (override l) js) → AreFitOverrides (filter_map (override l) (record { name = name; value = j.value } ∷ js))
      go None rest = rest
      go (Some y) rest = λ x o e c. last x o c (bytes_eq y x) e
        where
          last : (x : Text) (o : p.Override) → o.is_counted ≡ true → (t : Bool) → cond t (Some given) (found_in (filter_map (override l) js) x) ≡ Some o → IsCountedValue o.value
          last x o c true e = let same = some_is given o e in subst (λ (q : p.Override). IsCountedValue q.value) same (here (ap (λ (q : p.Override). q.is_counted) same ∙ c))
          last x o c false e = rest x o e c

  -- the overrides of an instance that break no rule are fit
  pub overrides-fit : (m : ModuleTree) (given : ConnsTree) → AreConnsFormed given → override_rules l m given ≡ [] → AreFitOverrides (overrides_of l m given)
  overrides-fit m given f b =
      counted (joints (overridable m) given) (joints-formed (overridable m) given f) (none_of_both (joint_rules m.name (overridable m) given) (constants_of l (joints (overridable m) given)) b).1
