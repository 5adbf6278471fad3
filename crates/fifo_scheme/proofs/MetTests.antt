-- The guards with a test for empty, each looked at once.
use Rattle.std.proofs.Common.{◌≡◌, ◌∙◌, sym, ap, subst, refl, inl, inr, ◌⊎◌, ℕ, ◌+◌, ◌<◌, Bool, true, false, cond, List, [], ◌∷◌, ◌++◌, length, get_or, take, Contains}
use Rattle.std.proofs.lemmas.List.{take_more}
use Rattle.std.proofs.lemmas.List.Elements.{Contains-append_left, Contains-push, Contains-push_cases}
use Rattle.std.specs.HashSet as set
use Rattle.std.specs.HashSet.{HashSet}
use Rattle.cell_graph.specs.declared.net.Net.{Net}
use Rattle.domains.specs.declared.Domains.{Domains}
use Rattle.cdc_model.specs.Nets.{design_of, next_tree}
use Rattle.cdc_model.proofs.Ascending.{nothing_in}
use Rattle.fifo_laws.specs.Sides.{Side}
use Rattle.fifo_laws.specs.Tests.{HasEmptyTest}
use Rattle.fifo_ways.specs.declared.sought.Guard.{Guard}
use Rattle.fifo_ways.specs.Guards.{guard_terms}
use Rattle.fifo_ways.specs.Marked.{same_guard}
use Rattle.fifo_ways.proofs.Sames.{equal_guards, same_guard-is}

module _ (net : Net) (domains : Domains) (write read : Side) where
  abbrev Has : Guard → Type 0
  Has p = HasEmptyTest (design_of net domains) (next_tree net) write read (guard_terms net.graph p)

  -- Each guard so far was met, each test is one, and of those met each that has one is kept.
  pub record AreTestsSoFar {S : Type 0} (done : List Guard) (met : HashSet Guard S) (tests : List Guard) : Type 0 where
    pub there : (p : Guard) → Contains done p → set.contains same_guard met p ≡ true
    pub only : (p : Guard) → Contains tests p → HasEmptyTest (design_of net domains) (next_tree net) write read (guard_terms net.graph p)
    pub all : (p : Guard) → set.contains same_guard met p ≡ true → HasEmptyTest (design_of net domains) (next_tree net) write read (guard_terms net.graph p) → Contains tests p

  pub tests_begin : {S : Type 0} (asked : List Guard) (met : HashSet Guard S) → ((p : Guard) → set.contains same_guard met p ≡ false) → AreTestsSoFar (take 0 asked) met []
  tests_begin asked met none = record {
    there = λ p h. absurd (nothing_in p h);
    only = λ p h. absurd (nothing_in p h);
    all = λ p h has. absurd (let e : true ≡ false = sym h ∙ none p in cc);
  }

  module _ {S : Type 0} (asked : List Guard) (k : ℕ) (d : Guard) (l : k < length asked) (met met' : HashSet Guard S) (tests : List Guard) (h : AreTestsSoFar (take k asked) met tests)
      (grown : (p : Guard) → set.contains same_guard met' p ≡ cond (same_guard (get_or asked k d) p) true (set.contains same_guard met p)) where
    itself : set.contains same_guard met' (get_or asked k d) ≡ true
    itself = grown (get_or asked k d) ∙ ap (λ v. cond v true (set.contains same_guard met (get_or asked k d))) (equal_guards.refl (get_or asked k d))

    more : (p : Guard) → set.contains same_guard met p ≡ true → set.contains same_guard met' p ≡ true
    more p e = grown p ∙ go (same_guard (get_or asked k d) p)
      where
        go : (v : Bool) → cond v true (set.contains same_guard met p) ≡ true
        go true = refl
        go false = e

    cases : (p : Guard) → set.contains same_guard met' p ≡ true → (get_or asked k d ≡ p) ⊎ (set.contains same_guard met p ≡ true)
    cases p e = go (same_guard (get_or asked k d) p) refl (sym (grown p) ∙ e)
      where
        go : (v : Bool) → same_guard (get_or asked k d) p ≡ v → cond v true (set.contains same_guard met p) ≡ true → (get_or asked k d ≡ p) ⊎ (set.contains same_guard met p ≡ true)
        go true s f = inl (same_guard-is (get_or asked k d) p s)
        go false s f = inr f

    now_there : (p : Guard) → Contains (take (k + 1) asked) p → set.contains same_guard met' p ≡ true
    now_there p i = elim (Contains-push_cases (take k asked) (get_or asked k d) p (subst (λ (qs : List Guard). Contains qs p) (take_more asked k d l) i)) [
      | inl j ↦ more p (h.there p j)
      | inr e ↦ subst (λ (q : Guard). set.contains same_guard met' q ≡ true) e itself
    ]

    -- it was met before
    pub met_before : set.contains same_guard met (get_or asked k d) ≡ true → AreTestsSoFar (take (k + 1) asked) met' tests
    met_before old = record {
      there = now_there;
      only = h.only;
      all = λ p i has. elim (cases p i) [
        | inl e ↦ h.all p (subst (λ (q : Guard). set.contains same_guard met q ≡ true) e old) has
        | inr e ↦ h.all p e has
      ];
    }

    pub no_test : (Has (get_or asked k d) → ⊥) → AreTestsSoFar (take (k + 1) asked) met' tests
    no_test none = record {
      there = now_there;
      only = h.only;
      all = λ p i has. elim (cases p i) [
        | inl e ↦ absurd (none (subst Has (sym e) has))
        | inr e ↦ h.all p e has
      ];
    }

    pub one_test : Has (get_or asked k d) → AreTestsSoFar (take (k + 1) asked) met' (tests ++ get_or asked k d ∷ [])
    one_test has = record {
      there = now_there;
      only = λ p i. elim (Contains-push_cases tests (get_or asked k d) p i) [ inl j ↦ h.only p j | inr e ↦ subst Has e has ];
      all = λ p i t. elim (cases p i) [
        | inl e ↦ subst (Contains (tests ++ get_or asked k d ∷ [])) e (Contains-push tests (get_or asked k d))
        | inr e ↦ Contains-append_left tests (get_or asked k d ∷ []) p (h.all p e t)
      ];
    }
