-- How items end, and designs that got one more part.
use Rattle.std.proofs.Common.{◌≡◌, ℕ, Bool, true, false, cond, not, ◌&&◌, nat_lt, List, [], ◌∷◌, ◌++◌, map, Option, Some, None, is_some, Result, Ok, Err, refl, sym, ap, ap₂, subst, ◌∙◌, rules, Vec, Global}
use Rattle.std.specs.List.{list_all}
use Rattle.std.proofs.lemmas.List.{map-append}
use Rattle.std.proofs.lemmas.List.Folds.{list_all-append}
use Rattle.indexmap.specs.IndexMap.{IndexMap}
use Rattle.cdc_base.specs.declared.signal.ResetPin.{ResetPin}
use Rattle.cdc_base.specs.declared.fault.Place.{Place}
use Rattle.cdc_base.specs.declared.fault.Stop.{Stop}
use Rattle.cdc_base.specs.declared.fault.Stop.TheVariants.{Refused, Memory}
use Rattle.flat_meaning.specs.Flat.{Target, Expr, Stmt}
use Rattle.flat_form.specs.declared.flat.FlatAssign.{FlatAssign}
use Rattle.flat_form.specs.declared.flat.FlatComb.{FlatComb}
use Rattle.flat_form.specs.declared.flat.FlatClocked.{FlatClocked}
use Rattle.flat_form.specs.declared.flat.FlatReset.{FlatReset}
use Rattle.flat_form.specs.View as view
use Rattle.flat_form.specs.View.{target_of, expr_of, stmt_of}
use Rattle.flat_unfolding.specs.Outcome as o
use Rattle.flat_unfolding.specs.Outcome.{Text, Broken, Outcome, good, bad, by_number, first_of_all, then_, fault_of, judged}
use Rattle.flat_unfolding.specs.Widths.{keeps_sizes, target_keeps_sizes, stmt_keeps_sizes}
use Rattle.flat_unfolding.specs.Design as u
use Rattle.flat_unfolding.specs.Design.{Stage, look_of, with_design, assigned}
use Rattle.flat_names.specs.declared.fault.Order.{Order}
use Rattle.flat_names.specs.declared.fault.Order.TheVariants as k
use Rattle.flat_names.specs.declared.scope.Meaning.{Meaning}
use Rattle.flat_names.specs.declared.scope.Look.{Look}
use Rattle.flat_names.specs.declared.design.Late.{Late}
use Rattle.flat_names.specs.declared.design.Design.{Design}
use Rattle.flat_names.specs.Noting.{order_of, Noted, all_noted, Raises}
use Rattle.flat_names.specs.Looks.{seen, Shows}
use Rattle.flat_names.specs.Designs.{raised, late_of, ShowsNames, ShowsDesign, ShowsStage, Ends}
use Rattle.flat_process.specs.Assigns.{fresh, IsAssign}
use Rattle.flat_process.specs.Processes.{has_rule}

-- ---- refusals

first-noted : (order : Order) (b : Broken) (bs : List Broken) → (all_noted (record { order = order; found = Some b }) bs).found ≡ Some (first_of_all (order_of order) b bs)
first-noted order b [] = refl
first-noted order b (c ∷ bs) = first-noted order (cond (nat_lt (order_of order c.number) (order_of order b.number)) c b) bs

none-broken : (p : Place) (bs : List Broken) (u : Unit {0}) → Raises (all_noted fresh bs).found p (Ok u) → bs ≡ []
none-broken p [] u h = refl
none-broken p (b ∷ bs) u h = let e = subst (λ m. Raises m p (Ok u)) (first-noted k.Other b bs) h in absurd (search (rules, e))

-- an item of which all broken rules were noted raises none: it breaks none
pub raised-none : (p : Place) (bs : List Broken) (n : Noted) (u : Unit {0}) → n ≡ all_noted fresh bs → Raises n.found p (Ok u) → bs ≡ []
raised-none p bs n u e h = none-broken p bs u (subst (λ (m : Noted). Raises m.found p (Ok u)) e h)

module _ {A : Type 0} (P : A → Type 0) where
  pub raised-ok : (p : Place) (bs : List Broken) (a : A) (u : Unit {0}) → bs ≡ [] → P a → Ends P (judged by_number p bs a) (Ok u)
  raised-ok p bs a u e h = subst (λ cs. Ends P (judged by_number p cs a) (Ok u)) (sym e) (a, refl, h)

  refuses-first : (p : Place) (bs : List Broken) (a : A) (x : Stop) → Raises (all_noted fresh bs).found p (Err x) → Ends P (judged by_number p bs a) (Err x)
  refuses-first p [] a x h = absurd (search (rules, h))
  refuses-first p (b ∷ bs) a x h = subst (Ends P (bad (fault_of p (first_of_all by_number b bs)))) (sym (subst (λ m. Raises m p (Err x)) (first-noted k.Other b bs) h)) refl

  pub raised-err : (p : Place) (bs : List Broken) (a : A) (n : Noted) (x : Stop) → n ≡ all_noted fresh bs → Raises n.found p (Err x) → Ends P (judged by_number p bs a) (Err x)
  raised-err p bs a n x e h = refuses-first p bs a x (subst (λ (m : Noted). Raises m.found p (Err x)) e h)

  -- an item that ends with what it raises
  pub raised-ends : (p : Place) (bs : List Broken) (a : A) (n : Noted) (r : Result (Unit {0}) Stop) → n ≡ all_noted fresh bs → Raises n.found p r → (bs ≡ [] → P a) → Ends P (judged by_number p bs a) r
  raised-ends p bs a n (Ok u) e h i = let none = raised-none p bs n u e h in raised-ok p bs a u none (i none)
  raised-ends p bs a n (Err x) e h i = raised-err p bs a n x e h

-- ---- rules of resets

-- what is raised of the noted rules of a process is what it breaks
raised-judged : (p : Place) (bs : List Broken) → raised p (all_noted fresh bs).found ≡ judged by_number p bs (tt {0})
raised-judged p [] = refl
raised-judged p (b ∷ bs) = ap (raised p) (first-noted k.Other b bs)

-- a design's rules of resets behind all items, then those of one more process
abbrev pub with_more : Outcome (Unit {0}) → Place → List Broken → Outcome (Unit {0})
with_more x p bs = then_ x (λ u. judged by_number p bs (tt {0}))

none-raised : (p : Place) (m : Option Broken) → is_some m ≡ false → good (tt {0}) ≡ raised p m
none-raised p None h = refl
none-raised p (Some b) h = absurd (search (rules, h))

module _ (p : Place) (bs : List Broken) (n : Noted) (e : n ≡ all_noted fresh bs) where
  raised-is : raised p n.found ≡ judged by_number p bs (tt {0})
  raised-is = ap (λ (m : Noted). raised p m.found) e ∙ raised-judged p bs

  -- the first process that breaks one
  late-first : (o : Option Late) → (not (has_rule o) && is_some n.found) ≡ true → raised p n.found ≡ with_more (late_of o) p bs
  late-first None h = raised-is
  late-first (Some a) h = go a.faults.found h
    where
      go : (m : Option Broken) → (not (is_some m) && is_some n.found) ≡ true → raised p n.found ≡ with_more (raised a.place m) p bs
      go None i = raised-is
      go (Some b) i = absurd (search (rules, i))

  -- another one
  late-left : (o : Option Late) → (not (has_rule o) && is_some n.found) ≡ false → late_of o ≡ with_more (late_of o) p bs
  late-left None h = none-raised p n.found h ∙ raised-is
  late-left (Some a) h = go a.faults.found h
    where
      go : (m : Option Broken) → (not (is_some m) && is_some n.found) ≡ false → raised a.place m ≡ with_more (raised a.place m) p bs
      go None i = none-raised p n.found i ∙ raised-is
      go (Some b) i = refl

-- what a stage gives, where its design gives this
abbrev stage_of : Stage → Outcome u.Design → Outcome Stage
stage_of s (good d) = good (with_design s d)
stage_of s (bad f) = bad f

stage-judged : (s : Stage) (order : o.Order) (p : Place) (bs : List Broken) (e : u.Design) → judged order p bs (with_design s e) ≡ stage_of s (judged order p bs e)
stage-judged s order p [] e = refl
stage-judged s order p (b ∷ bs) e = refl

module _ {S : Type 0} (pins : List ResetPin) (table : IndexMap Text Meaning S) (d : Design) (s : Stage) where
  ends-so : (q : Outcome u.Design) (r : Result (Unit {0}) Stop) → ShowsNames table s.names → Ends (ShowsDesign pins d) q r → Ends (ShowsStage pins table d) (stage_of s q) r
  ends-so q (Ok u) n h = (with_design s h.0, ap (stage_of s) h.1, record { names = n; design = h.2 })
  ends-so q (Err (Refused f)) n h = ap (stage_of s) h
  ends-so q (Err Memory) n h = tt

  -- a stage ends as its design does
  pub stage-ends : (order : o.Order) (p : Place) (bs : List Broken) (e : u.Design) (r : Result (Unit {0}) Stop) → ShowsNames table s.names
      → Ends (ShowsDesign pins d) (judged order p bs e) r → Ends (ShowsStage pins table d) (judged order p bs (with_design s e)) r
  stage-ends order p bs e r n h = subst (λ q. Ends (ShowsStage pins table d) q r) (sym (stage-judged s order p bs e)) (ends-so (judged order p bs e) r n h)

pub look-shown : (pins : List ResetPin) (k : Look) (d : Design) (s : Stage) → ShowsNames k.names.now s.names → ShowsDesign pins d s.design → k.entries.now ≡ d.entries.items → k.active ≡ false → Shows k (look_of s)
look-shown pins k d s n h e a = record { names = n.kept; entries = ap (map seen) e ∙ h.entries; active = a }

-- ---- one more part

pub all-push : {A : Type 0} (p : A → Bool) (xs : List A) (x : A) → list_all p xs ≡ true → p x ≡ true → list_all p (xs ++ x ∷ []) ≡ true
all-push p xs x h e = list_all-append p xs (x ∷ []) ∙ ap₂ (λ a b. a && (b && true)) h e

module _ (pins : List ResetPin) (d : Design) (e : u.Design) (h : ShowsDesign pins d e) where
  pub shows-assign : (v : Vec FlatAssign Global) (x : FlatAssign) (t : Target) (w : Expr) → v.items ≡ d.assigns.items ++ x ∷ [] → IsAssign t w [] x → ShowsDesign pins (record d { assigns = v }) (assigned e t w)
  shows-assign v x t w i a = record {
    entries = h.entries;
    may_repeat = h.may_repeat;
    signals = h.signals;
    resets = h.resets;
    assigns = ap (map (λ (y : FlatAssign). (target_of y.target, expr_of y.value))) i ∙ map-append (λ (y : FlatAssign). (target_of y.target, expr_of y.value)) d.assigns.items (x ∷ [])
        ∙ ap₂ (λ ys (z : Target × Expr). ys ++ z ∷ []) h.assigns (ap₂ (λ y z. (y, z)) (a.target refl) (a.value refl));
    combs = h.combs;
    clocked = h.clocked;
    declared = h.declared;
    process_resets = h.process_resets;
    late = h.late;
    outputs = h.outputs;
    starts = h.starts;
    givens = h.givens;
    sizes = record {
      assigns = ap (list_all (λ (y : FlatAssign). target_keeps_sizes y.target && keeps_sizes y.value)) i ∙ all-push (λ (y : FlatAssign). target_keeps_sizes y.target && keeps_sizes y.value) d.assigns.items x h.sizes.assigns (a.sizes refl);
      combs = h.sizes.combs;
      clocked = h.sizes.clocked;
    };
  }

  -- the rules of resets that one more process breaks, which are kept or not
  shows-late : (o : Option Late) (p : Place) (bs : List Broken) → late_of o ≡ with_more (late_of d.late) p bs → ShowsDesign pins (record d { late = o }) (record e { late = with_more e.late p bs })
  shows-late o p bs i = record {
    entries = h.entries;
    may_repeat = h.may_repeat;
    signals = h.signals;
    resets = h.resets;
    assigns = h.assigns;
    combs = h.combs;
    clocked = h.clocked;
    declared = h.declared;
    process_resets = h.process_resets;
    late = i ∙ ap (λ x. with_more x p bs) h.late;
    outputs = h.outputs;
    starts = h.starts;
    givens = h.givens;
    sizes = record { assigns = h.sizes.assigns; combs = h.sizes.combs; clocked = h.sizes.clocked };
  }

  pub late-kept : (p : Place) (bs : List Broken) (n : Noted) → n ≡ all_noted fresh bs → (not (has_rule d.late) && is_some n.found) ≡ true
      → ShowsDesign pins (record d { late = Some (record { place = p; faults = n }) }) (record e { late = with_more e.late p bs })
  late-kept p bs n i t = shows-late (Some (record { place = p; faults = n })) p bs (late-first p bs n i d.late t)

  pub late-passed : (p : Place) (bs : List Broken) (n : Noted) → n ≡ all_noted fresh bs → (not (has_rule d.late) && is_some n.found) ≡ false → ShowsDesign pins d (record e { late = with_more e.late p bs })
  late-passed p bs n i t = shows-late d.late p bs (late-left p bs n i d.late t)

  -- a process of wires
  pub shows-comb : (v : Vec FlatComb Global) (x : FlatComb) (s : Stmt) → v.items ≡ d.combs.items ++ x ∷ [] → stmt_of x.body ≡ s → stmt_keeps_sizes x.body ≡ true
      → ShowsDesign pins (record d { combs = v }) (record e { combs = e.combs ++ s ∷ [] })
  shows-comb v x s i body sized = record {
    entries = h.entries;
    may_repeat = h.may_repeat;
    signals = h.signals;
    resets = h.resets;
    assigns = h.assigns;
    combs = ap (map (λ (y : FlatComb). stmt_of y.body)) i ∙ map-append (λ (y : FlatComb). stmt_of y.body) d.combs.items (x ∷ []) ∙ ap₂ (λ ys z. ys ++ z ∷ []) h.combs body;
    clocked = h.clocked;
    declared = h.declared;
    process_resets = h.process_resets;
    late = h.late;
    outputs = h.outputs;
    starts = h.starts;
    givens = h.givens;
    sizes = record {
      assigns = h.sizes.assigns;
      combs = ap (list_all (λ (y : FlatComb). stmt_keeps_sizes y.body)) i ∙ all-push (λ (y : FlatComb). stmt_keeps_sizes y.body) d.combs.items x h.sizes.combs sized;
      clocked = h.sizes.clocked;
    };
  }

  -- a clocked process and its reset
  pub shows-clocked : (v : Vec FlatClocked Global) (w : Vec FlatReset Global) (x : FlatClocked) (y : FlatReset) (c : ℕ) (s : Stmt) (r : Option ℕ × Stmt) → v.items ≡ d.clocked.items ++ x ∷ []
      → w.items ≡ d.resets.items ++ y ∷ [] → x.clock ≡ c → stmt_of x.body ≡ s → stmt_keeps_sizes x.body ≡ true → view.reset_of y ≡ r
      → ShowsDesign pins (record d { clocked = v; resets = w }) (record e { clocked = e.clocked ++ (c, s) ∷ []; resets = e.resets ++ r ∷ [] })
  shows-clocked v w x y c s r i j clock body sized reset = record {
    entries = h.entries;
    may_repeat = h.may_repeat;
    signals = h.signals;
    resets = h.resets;
    assigns = h.assigns;
    combs = h.combs;
    clocked = ap (map (λ (y : FlatClocked). (y.clock, stmt_of y.body))) i ∙ map-append (λ (y : FlatClocked). (y.clock, stmt_of y.body)) d.clocked.items (x ∷ [])
        ∙ ap₂ (λ ys (z : ℕ × Stmt). ys ++ z ∷ []) h.clocked (ap₂ (λ y z. (y, z)) clock body);
    declared = h.declared;
    process_resets = ap (map view.reset_of) j ∙ map-append view.reset_of d.resets.items (y ∷ []) ∙ ap₂ (λ ys (z : Option ℕ × Stmt). ys ++ z ∷ []) h.process_resets reset;
    late = h.late;
    outputs = h.outputs;
    starts = h.starts;
    givens = h.givens;
    sizes = record {
      assigns = h.sizes.assigns;
      combs = h.sizes.combs;
      clocked = ap (list_all (λ (y : FlatClocked). stmt_keeps_sizes y.body)) i ∙ all-push (λ (y : FlatClocked). stmt_keeps_sizes y.body) d.clocked.items x h.sizes.clocked sized;
    };
  }
