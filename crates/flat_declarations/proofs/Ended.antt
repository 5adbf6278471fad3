-- How parameters and declarations end: at the stage that the definition reaches, or with its refusal.
use Rattle.std.proofs.Common.{◌≡◌, Bool, true, false, cond, ◌==◌, nat_lt, List, [], ◌∷◌, ◌++◌, map, Option, Some, None, Result, Ok, Err, refl, sym, ap, subst, ◌∙◌, rules}
use Rattle.std.specs.Prelude.{All}
use Rattle.std.proofs.lemmas.List.Elements.{All-head, All-tail}
use Rattle.std.specs.Cmp.Lexicographic.{pointwise}
use Rattle.indexmap.specs.IndexMap.{IndexMap}
use Rattle.cdc_base.specs.declared.signal.ResetPin.{ResetPin}
use Rattle.cdc_base.specs.declared.fault.Place.{Place}
use Rattle.cdc_base.specs.declared.fault.Fault.{Fault}
use Rattle.cdc_base.specs.declared.fault.Stop.{Stop}
use Rattle.cdc_base.specs.declared.fault.Stop.TheVariants.{Refused, Memory}
use Rattle.cdc_base.specs.Words.{found_in}
use Rattle.verilog_reading.specs.SourceTree.{ParamTree}
use Rattle.flat_meaning.specs.Flat.{Expr}
use Rattle.flat_unfolding.specs.Outcome.{Text, Broken, breaks_if, Outcome, good, bad, then_, each, first_of_all, fault_of, judged}
use Rattle.flat_unfolding.specs.Names.{Range, a_param, is_declared, Look}
use Rattle.flat_unfolding.specs.Parameters as law
use Rattle.flat_unfolding.specs.Parameters.{Overrides, held, range_read, value_of, sign_rule, parameter_order}
use Rattle.flat_unfolding.specs.Expressions.{read}
use Rattle.flat_unfolding.specs.Design.{Stage, look_of}
use Rattle.flat_unfolding.specs.Formed.{IsFormed, IsParamFormed}
use Rattle.flat_unfolding.proofs.Steps.{none_of_both, not_broken}
use Rattle.flat_names.specs.declared.fault.Order.{Order}
use Rattle.flat_names.specs.declared.fault.Order.TheVariants as order
use Rattle.flat_names.specs.declared.scope.Param.{Param}
use Rattle.flat_names.specs.declared.scope.Meaning.{Meaning}
use Rattle.flat_names.specs.declared.scope.Meaning.TheVariants as m
use Rattle.flat_names.specs.declared.design.Design.{Design}
use Rattle.flat_names.specs.Noting.{order_of, Noted, all_noted, Raises}
use Rattle.flat_names.specs.Looks.{IsFitParam, IsFit, param_of, kept_in, Shows, seen as of_entry}
use Rattle.flat_names.specs.declared.scope.Look as seen
use Rattle.flat_names.specs.Designs.{ShowsNames, ShowsDesign, ShowsStage}
use Rattle.flat_names.proofs.Options.{none-some}
use Rattle.flat_declarations.specs.Declaring.{MeetsFit, IsCountedValue, AreFitOverrides, valued, parameter_rules, parameter_held, IsHeld}
use Rattle.flat_declarations.proofs.Named.{defined}
use Rattle.flat_declarations.proofs.Values.{counted-value}
use Rattle.flat_declarations.proofs.Kept.{named-fit}

-- ---- rules that are told

abbrev pub none_yet : Order → Noted
none_yet k = record { order = k; found = None }

found-first : (k : Order) (b : Broken) (bs : List Broken) → (all_noted (record { order = k; found = Some b }) bs).found ≡ Some (first_of_all (order_of k) b bs)
found-first k b [] = refl
found-first k b (c ∷ bs) = found-first k (cond (nat_lt (order_of k c.number) (order_of k b.number)) c b) bs

none-raised : (k : Order) (p : Place) (bs : List Broken) (u : Unit {0}) → Raises (all_noted (none_yet k) bs).found p (Ok u) → bs ≡ []
none-raised k p [] u h = refl
none-raised k p (b ∷ bs) u h = let e = subst (λ o. Raises o p (Ok u)) (found-first k b bs) h in absurd (search (rules, e))

pub raise-none : (k : Order) (p : Place) (bs : List Broken) (u : Unit {0}) (n : Noted) → n ≡ all_noted (none_yet k) bs → Raises n.found p (Ok u) → bs ≡ []
raise-none k p bs u n e h = none-raised k p bs u (subst (λ (x : Noted). Raises x.found p (Ok u)) e h)

abbrev stop_of : Result (Unit {0}) Stop → Stop
stop_of (Ok u) = Memory
stop_of (Err x) = x

module _ {S : Type 0} (pins : List ResetPin) (table : IndexMap Text Meaning S) (d : Design) where
  err-same : (o : Outcome Stage) (f : Fault) (x : Stop) → x ≡ Refused f → o ≡ bad f → MeetsFit pins table o (Err x) d
  err-same o f x e h = subst (λ y. MeetsFit pins table o (Err y) d) (sym e) h

  -- a step that goes on behind what was judged
  pub judged-err : {A : Type 0} (k : Order) (p : Place) (bs : List Broken) (a : A) (next : A → Outcome Stage) (x : Stop) → Raises (all_noted (none_yet k) bs).found p (Err x)
      → MeetsFit pins table (then_ (judged (order_of k) p bs a) next) (Err x) d
  judged-err k p [] a next x h = absurd (search (rules, h))
  judged-err k p (b ∷ bs) a next x h = let e = subst (λ o. Raises o p (Err x)) (found-first k b bs) h in err-same _ (fault_of p (first_of_all (order_of k) b bs)) x (ap stop_of e) refl

  stage-err : (k : Order) (p : Place) (bs : List Broken) (s : Stage) (x : Stop) → Raises (all_noted (none_yet k) bs).found p (Err x) → MeetsFit pins table (judged (order_of k) p bs s) (Err x) d
  stage-err k p [] s x h = absurd (search (rules, h))
  stage-err k p (b ∷ bs) s x h = let e = subst (λ o. Raises o p (Err x)) (found-first k b bs) h in err-same _ (fault_of p (first_of_all (order_of k) b bs)) x (ap stop_of e) refl

-- ---- steps one after another: what was asked at first is what is asked of the stage that is shown now

abbrev pub IsAmid : {S : Type 0} → List ResetPin → IndexMap Text Meaning S → Design → Outcome Stage → (Stage → Outcome Stage) → Type 0
IsAmid pins table d o rest = (t : Stage) × (o ≡ rest t) × ShowsStage pins table d t × IsFit (look_of t)

pub then-good : {A : Type 0} (o : Outcome A) → then_ o (λ a. good a) ≡ o
then-good (good a) = refl
then-good (bad e) = refl

then-then : {A B C : Type 0} (o : Outcome A) (f : A → Outcome B) (g : B → Outcome C) → then_ (then_ o f) g ≡ then_ o (λ a. then_ (f a) g)
then-then (good a) f g = refl
then-then (bad e) f g = refl

module _ {S A : Type 0} (pins : List ResetPin) (o : Outcome Stage) (f : Stage → A → Outcome Stage) (after : Stage → Outcome Stage) (P : A → Type 0) where
  -- items are left, each of them well formed
  abbrev pub IsWalk : IndexMap Text Meaning S → Design → List A → Type 0
  IsWalk table d items = IsAmid pins table d o (λ t. then_ (each f t items) after) × All P items

  pub walk-ok : (old new : IndexMap Text Meaning S) (c d : Design) (items rest : List A) (a : A) (u : Unit {0}) → items ≡ a ∷ rest → IsWalk old c items
      → (P a → (t : Stage) → ShowsStage pins old c t → IsFit (look_of t) → MeetsFit pins new (f t a) (Ok u) d) → IsWalk new d rest
  walk-ok old new c d items rest a u e h step =
      let all = subst (All P) e h.1 in let w = h.0 in let m = step (All-head P a rest all) w.0 w.2 w.3 in
      ((m.0, w.1 ∙ ap (λ xs. then_ (each f w.0 xs) after) e ∙ then-then (f w.0 a) (λ t. each f t rest) after ∙ ap (λ p. then_ p (λ t. then_ (each f t rest) after)) m.1, m.2, m.3), All-tail P a rest all)

  pub walk-err : (old new : IndexMap Text Meaning S) (c d : Design) (items rest : List A) (a : A) (x : Stop) → items ≡ a ∷ rest → IsWalk old c items
      → (P a → (t : Stage) → ShowsStage pins old c t → IsFit (look_of t) → MeetsFit pins new (f t a) (Err x) d) → MeetsFit pins new o (Err x) d
  walk-err old new c d items rest a (Refused g) e h step =
      let all = subst (All P) e h.1 in let w = h.0 in
      w.1 ∙ ap (λ xs. then_ (each f w.0 xs) after) e ∙ then-then (f w.0 a) (λ t. each f t rest) after ∙ ap (λ p. then_ p (λ t. then_ (each f t rest) after)) (step (All-head P a rest all) w.0 w.2 w.3)
  walk-err old new c d items rest a Memory e h step = tt

  pub walk-skip : (table : IndexMap Text Meaning S) (d : Design) (items rest : List A) → items ≡ rest → IsWalk table d items → IsWalk table d rest
  walk-skip table d items rest e h = subst (IsWalk table d) e h

  pub walk-end : (table : IndexMap Text Meaning S) (d : Design) (items : List A) → items ≡ [] → IsWalk table d items → IsAmid pins table d o after
  walk-end table d items e h = let w = subst (IsWalk table d) e h in w.0

-- a walk begins, and one goes on with other items
module _ {S A : Type 0} (pins : List ResetPin) where
  pub walk-begin : (f : Stage → A → Outcome Stage) (after : Stage → Outcome Stage) (P : A → Type 0) (table : IndexMap Text Meaning S) (d : Design) (s : Stage) (items : List A) (o : Outcome Stage)
      → o ≡ then_ (each f s items) after → ShowsStage pins table d s → IsFit (look_of s) → All P items → IsWalk pins o f after P table d items
  walk-begin f after P table d s items o e h is all = ((s, e, h, is), all)

  pub walk-on : (o : Outcome Stage) (f : Stage → A → Outcome Stage) (after : Stage → Outcome Stage) (P : A → Type 0) (table : IndexMap Text Meaning S) (d : Design) (items rest : List A) → items ≡ rest
      → IsWalk pins o f after P table d items → IsAmid pins table d o (λ t. then_ (each f t rest) after)
  walk-on o f after P table d items rest e h = let w = h.0 in (w.0, w.1 ∙ ap (λ xs. then_ (each f w.0 xs) after) e, w.2, w.3)

pub look-shown : (pins : List ResetPin) (k : seen.Look) (d : Design) (s : Stage) → ShowsNames k.names.now s.names → ShowsDesign pins d s.design → k.entries.now ≡ d.entries.items → k.active ≡ false → Shows k (look_of s)
look-shown pins k d s n h e a = record { names = n.kept; entries = ap (map of_entry) e ∙ h.entries; active = a }

-- ---- a parameter

held-fit : (r : Option Range) (e : Expr) (c g : Bool) → (c ≡ true → IsCountedValue e) → IsHeld (held r e c g) → IsFitParam (held r e c g)
held-fit None e c g w h = record { width = h.width; value = h.value; counted = λ k. (w k).0; whole = λ k. (w k).1; range = h.range }
held-fit (Some r) e c g w h = record { width = h.width; value = h.value; counted = λ k. absurd (search (rules, k)); whole = λ k. absurd (search (rules, k)); range = h.range }

counted-fit : (l : Look) (given : Overrides) (q : ParamTree) → IsFit l → AreFitOverrides given → IsFormed q.value → (valued given l q).broken ≡ [] → (valued given l q).is_counted ≡ true → IsCountedValue (valued given l q).value
counted-fit l given q is fo f = go (law.override_of given q) (λ o. given-is q.local o)
  where
    given-is : (b : Bool) (o : law.Override) → cond b None (found_in given q.name) ≡ Some o → o.is_counted ≡ true → IsCountedValue o.value
    given-is true o e = none-some o e
    given-is false o e = fo q.name o e

    go : (o : Option law.Override) → ((x : law.Override) → o ≡ Some x → x.is_counted ≡ true → IsCountedValue x.value) → (value_of l q o).broken ≡ [] → (value_of l q o).is_counted ≡ true → IsCountedValue (value_of l q o).value
    go (Some x) w b c = w x refl c
    go None w b c = counted-value l is q.value f (none_of_both (read l q.value).broken _ b).0 c

pub parameter-err : {S : Type 0} (pins : List ResetPin) (table : IndexMap Text Meaning S) (d : Design) (given : Overrides) (s : Stage) (place : Place) (q : ParamTree) (n : Noted) (x : Stop)
    → n ≡ all_noted (none_yet order.Parameter) (parameter_rules given (look_of s) q) → Raises n.found place (Err x) → MeetsFit pins table (law.parameter given s (place, q)) (Err x) d
parameter-err pins table d given s place q n x e h =
    stage-err pins table d order.Parameter place (parameter_rules given (look_of s) q) (record s { names = s.names ++ ((q.name, a_param (parameter_held given (look_of s) q)) ∷ []) }) x
    (subst (λ (y : Noted). Raises y.found place (Err x)) e h)

pub parameter-meets : {S : Type 0} (pins : List ResetPin) (old new : IndexMap Text Meaning S) (d : Design) (s : Stage) (given : Overrides) (place : Place) (q : ParamTree) (v : Param) (u : Unit {0})
    → ShowsStage pins old d s → IsFit (look_of s) → AreFitOverrides given → IsParamFormed q → parameter_rules given (look_of s) q ≡ []
    → (param_of v ≡ parameter_held given (look_of s) q) × IsHeld (param_of v)
    → ((y : Text) → kept_in new y ≡ cond (pointwise ◌==◌ q.name y) (Some (m.Param v)) (kept_in old y)) → MeetsFit pins new (law.parameter given s (place, q)) (Ok u) d
parameter-meets pins old new d s given place q v u sh is fo f e is_held k =
    let l = look_of s in let p = parameter_held given l q in
    let all = none_of_both (breaks_if (is_declared s.names q.name) 304 q.name ++ (range_read l q.name q.range).broken ++ (valued given l q).broken) (sign_rule q.range (valued given l q)) e in
    let both = none_of_both (breaks_if (is_declared s.names q.name) 304 q.name ++ (range_read l q.name q.range).broken) (valued given l q).broken all.0 in
    let first = none_of_both (breaks_if (is_declared s.names q.name) 304 q.name) (range_read l q.name q.range).broken both.0 in
    let free = not_broken (is_declared s.names q.name) 304 q.name first.0 in
    let t : Stage = record { names = s.names ++ ((q.name, a_param p) ∷ []); design = s.design } in
    let named = defined old new s.names q.name (m.Param v) sh.names free k in
    let fits = held-fit (range_read l q.name q.range).range (valued given l q).value (valued given l q).is_counted (valued given l q).is_signed (counted-fit l given q is fo f.1 both.1) (subst IsHeld is_held.0 is_held.1) in
    (t, ap (λ bs. judged parameter_order place bs t) e, record { names = subst (λ x. ShowsNames new (s.names ++ ((q.name, a_param x) ∷ []))) is_held.0 named; design = sh.design }, named-fit s q.name (a_param p) is fits)
