-- Free signals, as they are found and marked.
use Rattle.std.proofs.Common.{◌≡◌, ◌==◌, ℕ, zero, suc, ◌+◌, ◌<◌, ◌≤◌, Bool, true, false, cond, not, ◌&&◌, ◌||◌, nat_lt, List, [], ◌∷◌}
use Rattle.std.proofs.Common.{length, map, Option, Some, None, refl, sym, ap, subst, ◌∙◌, arith, eqb-true, lt-ltb, ltb-true, ltb-false}
use Rattle.std.proofs.Common.{rules, Vec, Global}
use Rattle.std.specs.Prelude.{is_some, unwrap_or, option_map, option_and_then, slice_get, bytes_eq}
use Rattle.std.specs.Option.{option_map_or}
use Rattle.std.specs.List.{list_any}
use Rattle.std.specs.Cmp.Lexicographic.{pointwise}
use Rattle.std.proofs.lemmas.Option.{slice_get-map}
use Rattle.std.proofs.lemmas.Bool.{eqb-false}
use Rattle.indexmap.specs.IndexSet.{IndexSet, contains_by}
use Rattle.cdc_base.specs.Words.{is_in}
use Rattle.cdc_base.specs.declared.signal.ResetPin.{ResetPin}
use Rattle.cdc_base.specs.declared.signal.Signal.{Signal}
use Rattle.cdc_base.specs.declared.signal.SigKind.TheVariants.{Input}
use Rattle.flat_form.specs.View.{reset_of}
use Rattle.flat_meaning.specs.Flat.{Expr, Target, Stmt}
use Rattle.flat_unfolding.specs.Outcome.{Text}
use Rattle.flat_unfolding.specs.Names as n
use Rattle.flat_unfolding.specs.Design as u
use Rattle.flat_unfolding.specs.Design.{Start}
use Rattle.flat_unfolding.specs.Starts.{starts_with, first_start}
use Rattle.flat_unfolding.specs.Signals.{is_driven, is_named, is_free, with_free}
use Rattle.flat_names.specs.declared.design.Design.{Design}
use Rattle.flat_names.specs.declared.design.Entry.{Entry}
use Rattle.flat_names.specs.declared.design.Reset.{Reset}
use Rattle.flat_names.specs.Looks.{shown}
use Rattle.flat_names.specs.Designs.{signal_of, IsReset, reset_of as reset_in, ShowsDesign}
use Rattle.flat_drivers.specs.Driving.{is_among, assigned_in, wires_in, clocked_in}
use Rattle.flat_drivers.specs.Driven.{are_targets_of, are_assigned_by, are_set_by, are_clocked_by, is_assigned_in}
use Rattle.flat_design.specs.Freeing.{are_named, is_assigned_at, mark_if, free_if}
use Rattle.flat_design.proofs.Changes.{same-lists}
use Rattle.flat_design.proofs.Finished.{shown-at}
use Rattle.flat_design.proofs.Freed.{outside_here, with-free-at, free-tells, free-reset}

-- ---- names

-- one more name
pub next-named : {S : Type 0} (old new : IndexSet Text S) (n : Text) (p : ResetPin) (rest left : List ResetPin) → left ≡ p ∷ rest → n ≡ p.name
    → ((x : Text) → contains_by (pointwise ◌==◌ x) new ≡ cond (pointwise ◌==◌ n x) true (contains_by (pointwise ◌==◌ x) old))
    → (x : Text) → (contains_by (pointwise ◌==◌ x) new || list_any (λ (r : ResetPin). bytes_eq r.name x) rest)
    ≡ (contains_by (pointwise ◌==◌ x) old || list_any (λ (r : ResetPin). bytes_eq r.name x) left)
next-named old new n p rest left e is h x =
    ap (λ b. b || list_any (λ (r : ResetPin). bytes_eq r.name x) rest)
    (h x ∙ ap (λ (y : Text). cond (pointwise ◌==◌ y x) true (contains_by (pointwise ◌==◌ x) old)) is)
    ∙ put (contains_by (pointwise ◌==◌ x) old) (bytes_eq p.name x) (list_any (λ (r : ResetPin). bytes_eq r.name x) rest)
    ∙ ap (λ (ps : List ResetPin). contains_by (pointwise ◌==◌ x) old || list_any (λ (r : ResetPin). bytes_eq r.name x) ps) (sym e)
  where
    put : (a b c : Bool) → (cond b true a || c) ≡ (a || (b || c))
    put true true c = refl
    put false true c = refl
    put a false c = refl

-- ---- marks

marked-twice : (b c : Bool) (o : Option Bool) → option_map (mark_if b) (option_map (mark_if c) o) ≡ option_map (mark_if (c || b)) o
marked-twice b c None = refl
marked-twice true true (Some m) = refl
marked-twice true false (Some m) = refl
marked-twice false true (Some m) = refl
marked-twice false false (Some m) = refl

pub not-marked : (o : Option Bool) → option_map (mark_if false) o ≡ o
not-marked None = refl
not-marked (Some m) = refl

pub next-mark : (r : ℕ) (all rest left : List ℕ) (old new first : List Bool) → left ≡ r ∷ rest
    → ((s : ℕ) → slice_get new s ≡ option_map (mark_if (s == r)) (slice_get old s))
    → ((s : ℕ) → option_map (mark_if (is_among left s)) (slice_get old s) ≡ option_map (mark_if (is_among all s)) (slice_get first s))
    → (s : ℕ) → option_map (mark_if (is_among rest s)) (slice_get new s) ≡ option_map (mark_if (is_among all s)) (slice_get first s)
next-mark r all rest left old new first e marked h s =
    ap (option_map (mark_if (is_among rest s))) (marked s) ∙ marked-twice (is_among rest s) (s == r) (slice_get old s)
    ∙ ap (λ xs. option_map (mark_if (is_among xs s)) (slice_get old s)) (sym e) ∙ h s

mark-or : (a b : Bool) → mark_if b a ≡ (a || b)
mark-or true true = refl
mark-or true false = refl
mark-or false true = refl
mark-or false false = refl

-- marks of items, once what assigns is marked
pub all-marked : {A : Type 0} (p : A → Bool) (assigned : ℕ → Bool) (xs : List A) (s : ℕ)
    → option_map (mark_if (assigned s)) (slice_get (map p xs) s) ≡ option_map (λ x. p x || assigned s) (slice_get xs s)
all-marked {A} p assigned xs s = ap (option_map (mark_if (assigned s))) (slice_get-map p xs s) ∙ go (slice_get xs s)
  where
    go : (o : Option A) → option_map (mark_if (assigned s)) (option_map p o) ≡ option_map (λ x. p x || assigned s) o
    go None = refl
    go (Some x) = ap Some (mark-or (p x) (assigned s))

-- ---- signals that were set free so far

-- the signals below number k are done
abbrev pub IsFreeSoFar : {S : Type 0} → IndexSet Text S → List Bool → (k : ℕ) → (first now : List Signal) → Type 0
IsFreeSoFar names driven k first now = (s : ℕ) → slice_get now s ≡ option_map
    (free_if names (nat_lt s k && not (unwrap_or (slice_get driven s) true))) (slice_get first s)

module _ {S : Type 0} (names : IndexSet Text S) (driven : List Bool) (first : List Signal) where
  not-free : (o : Option Signal) → option_map (free_if names false) o ≡ o
  not-free None = refl
  not-free (Some y) = refl

  pub none-free : IsFreeSoFar names driven 0 first first
  none-free s = sym (go (nat_lt s 0) refl)
    where
      go : (b : Bool) → nat_lt s 0 ≡ b → option_map (free_if names (b && not (unwrap_or (slice_get driven s) true)))
          (slice_get first s) ≡ slice_get first s
      go true e = absurd (let l = ltb-true s 0 e in omega (arith, l))
      go false e = not-free (slice_get first s)

  pub all-free : (k : ℕ) (now : List Signal) → length driven ≤ k → IsFreeSoFar names driven k first now
      → (s : ℕ) → slice_get now s ≡ option_map (free_if names (not (unwrap_or (slice_get driven s) true))) (slice_get first s)
  all-free k now l h s = h s ∙ ap (λ b. option_map (free_if names b) (slice_get first s)) (go (nat_lt s k) refl)
    where
      none-there : (xs : List Bool) (t : ℕ) → length xs ≤ t → slice_get xs t ≡ None
      none-there [] t m = refl
      none-there (x ∷ xs) zero m = absurd (omega (arith, m))
      none-there (x ∷ xs) (suc t) m = none-there xs t (let q : length xs ≤ t = omega (arith, m) in q)

      go : (b : Bool) → nat_lt s k ≡ b → (b && not (unwrap_or (slice_get driven s) true)) ≡ not (unwrap_or (slice_get driven s) true)
      go true e = refl
      go false e = sym (ap (λ o. not (unwrap_or o true)) (none-there driven s
          (let m = ltb-false s k e in let q : length driven ≤ s = omega (arith, m, l) in q)))

  module _ (k : ℕ) (b : Bool) (at : slice_get driven k ≡ Some b) (old new : List Signal) (h : IsFreeSoFar names driven k first old) where
    step : (changed : (s : ℕ) → slice_get new s ≡ option_map (free_if names ((s == k) && not b)) (slice_get old s))
        → IsFreeSoFar names driven (k + 1) first new
    step changed s = changed s ∙ ap (option_map (free_if names ((s == k) && not b))) (h s) ∙ go (s == k) refl
      where
        here : s ≡ k → option_map (free_if names (not b)) (option_map (free_if names (nat_lt s k && not (unwrap_or (slice_get driven s) true)))
            (slice_get first s))
            ≡ option_map (free_if names (nat_lt s (k + 1) && not (unwrap_or (slice_get driven s) true))) (slice_get first s)
        here e =
            let before : nat_lt s k ≡ false = not-below (nat_lt s k) refl in
            let after : nat_lt s (k + 1) ≡ true = lt-ltb s (k + 1) (let l : s < k + 1 = omega (arith, e) in l) in
            let mark : unwrap_or (slice_get driven s) true ≡ b = ap (λ i. unwrap_or (slice_get driven i) true) e ∙ ap (λ o. unwrap_or o true) at in
            ap (λ c. option_map (free_if names (not b)) (option_map (free_if names (c && not (unwrap_or (slice_get driven s) true)))
            (slice_get first s))) before
            ∙ ap (option_map (free_if names (not b))) (not-free (slice_get first s))
            ∙ ap (λ c. option_map (free_if names (not c)) (slice_get first s)) (sym mark)
            ∙ ap (λ c. option_map (free_if names (c && not (unwrap_or (slice_get driven s) true))) (slice_get first s)) (sym after)
          where
            not-below : (c : Bool) → nat_lt s k ≡ c → c ≡ false
            not-below true f = absurd (let l = ltb-true s k f in omega (arith, l, e))
            not-below false f = refl

        elsewhere : nat_lt s k ≡ nat_lt s (k + 1) → option_map (free_if names false)
            (option_map (free_if names (nat_lt s k && not (unwrap_or (slice_get driven s) true))) (slice_get first s))
            ≡ option_map (free_if names (nat_lt s (k + 1) && not (unwrap_or (slice_get driven s) true))) (slice_get first s)
        elsewhere e =
            not-free (option_map (free_if names (nat_lt s k && not (unwrap_or (slice_get driven s) true))) (slice_get first s))
            ∙ ap (λ c. option_map (free_if names (c && not (unwrap_or (slice_get driven s) true))) (slice_get first s)) e

        same-side : (s == k) ≡ false → (p q : Bool) → nat_lt s k ≡ p → nat_lt s (k + 1) ≡ q → p ≡ q
        same-side e true true f g = refl
        same-side e false false f g = refl
        same-side e true false f g = absurd (let l = ltb-true s k f in let m = ltb-false s (k + 1) g in omega (arith, l, m))
        same-side e false true f g =
            let l = ltb-false s k f in let m = ltb-true s (k + 1) g in let i : s ≡ k = omega (arith, l, m) in absurd (eqb-false s k e i)

        go : (c : Bool) → (s == k) ≡ c
            → option_map (free_if names (c && not b)) (option_map (free_if names (nat_lt s k && not (unwrap_or (slice_get driven s) true)))
            (slice_get first s))
            ≡ option_map (free_if names (nat_lt s (k + 1) && not (unwrap_or (slice_get driven s) true))) (slice_get first s)
        go true e = here (eqb-true s k e)
        go false e = elsewhere (same-side e (nat_lt s k) (nat_lt s (k + 1)) refl refl)

    -- one that isn't driven, and one that is
    pub next-free : b ≡ false → ((s : ℕ) → slice_get new s ≡ option_map (free_if names (s == k)) (slice_get old s))
        → IsFreeSoFar names driven (k + 1) first new
    next-free e changed = step (λ s. changed s ∙ ap (λ c. option_map (free_if names c) (slice_get old s))
        (sym (ap (λ c. (s == k) && not c) e ∙ and-true (s == k))))
      where
        and-true : (c : Bool) → (c && true) ≡ c
        and-true true = refl
        and-true false = refl

    pub next-driven : b ≡ true → new ≡ old → IsFreeSoFar names driven (k + 1) first new
    next-driven e same = step (λ s. ap (λ xs. slice_get xs s) same
        ∙ sym (ap (λ c. option_map (free_if names ((s == k) && not c)) (slice_get old s)) e
        ∙ ap (λ c. option_map (free_if names c) (slice_get old s)) (and-false (s == k)) ∙ not-free (slice_get old s)))
      where
        and-false : (c : Bool) → (c && false) ≡ false
        and-false true = refl
        and-false false = refl

-- ---- what is driven, and what is named

started : (starts : List Start) (s : ℕ) → is_some (first_start starts s) ≡ starts_with starts s
started [] s = refl
started (a ∷ starts) s = go (a.sig == s) (started starts s)
  where
    go : (b : Bool) → is_some (first_start starts s) ≡ starts_with starts s
        → is_some (cond b (Some a.value) (first_start starts s)) ≡ (b || starts_with starts s)
    go true h = refl
    go false h = h

-- a start value before or after what assigns
last-first : (a b c r s : Bool) → (s || (a || (b || (c || r)))) ≡ (a || (b || (c || (r || s))))
last-first true b c r true = refl
last-first true b c r false = refl
last-first false true c r true = refl
last-first false true c r false = refl
last-first false false true r true = refl
last-first false false true r false = refl
last-first false false false true true = refl
last-first false false false true false = refl
last-first false false false false true = refl
last-first false false false false false = refl

module _ (pins : List ResetPin) (k : Design) (d : u.Design) (h : ShowsDesign pins k d) where
  assigned-is : (s : ℕ) → is_assigned_at k s ≡ is_assigned_in d.assigns d.combs d.resets d.clocked s
  assigned-is s =
      ap (λ (xs : List (Target × Expr)). is_assigned_in xs (wires_in k.combs.items) (map reset_of k.resets.items)
      (clocked_in k.clocked.items) s) h.assigns
      ∙ ap (λ (ys : List Stmt). is_assigned_in d.assigns ys (map reset_of k.resets.items) (clocked_in k.clocked.items) s) h.combs
      ∙ ap (λ (rs : List (Option ℕ × Stmt)). is_assigned_in d.assigns d.combs rs (clocked_in k.clocked.items) s) h.process_resets
      ∙ ap (λ (zs : List (ℕ × Stmt)). is_assigned_in d.assigns d.combs d.resets zs s) h.clocked

  driven-is : (s : ℕ) (x : Entry) → slice_get k.entries.items s ≡ Some x → (is_some x.start || is_assigned_at k s) ≡ is_driven d s
  driven-is s x at =
      let start : x.start ≡ first_start d.starts s = sym (ap (λ o. option_and_then (λ (z : Entry). z.start) o) at) ∙ h.starts s in
      ap (λ b. b || is_assigned_at k s) (ap is_some start ∙ started d.starts s) ∙ ap (λ b. starts_with d.starts s || b) (assigned-is s)
      ∙ last-first (are_targets_of d.assigns s) (are_assigned_by d.combs s) (are_set_by d.resets s) (are_clocked_by d.clocked s)
      (starts_with d.starts s)

  module _ {S : Type 0} (named : List Text) (names : IndexSet Text S)
      (known : (x : Text) → contains_by (pointwise ◌==◌ x) names ≡ are_named named pins x) where
    named-is : (e : n.Entry) → contains_by (pointwise ◌==◌ e.printed) names ≡ is_named named d e
    named-is e = known e.printed ∙ ap (λ (ps : List ResetPin). is_in named e.printed || list_any (λ (r : ResetPin). bytes_eq r.name e.printed) ps)
        (sym h.declared)

    one-free : (e : n.Entry) (driven is : Bool) → contains_by (pointwise ◌==◌ e.printed) names ≡ is
        → free_if names (not driven) (signal_of e) ≡ signal_of (outside_here (is && not driven) e)
    one-free e true true c = refl
    one-free e true false c = refl
    one-free e false true c = ap (λ b. cond b (record (signal_of e) { kind = Input }) (signal_of e)) c
    one-free e false false c = ap (λ b. cond b (record (signal_of e) { kind = Input }) (signal_of e)) c

    module _ (marks : List Bool) (marked : (s : ℕ) → slice_get marks s ≡ option_map (λ (x : Entry). is_some x.start || is_assigned_at k s)
        (slice_get k.entries.items s)) where
      mark-is : (s : ℕ) (e : n.Entry) → slice_get d.entries s ≡ Some e → unwrap_or (slice_get marks s) true ≡ is_driven d s
      mark-is s e at =
          let x = shown-at k.entries.items d.entries s e h.entries at in
          ap (λ o. unwrap_or o true) (marked s ∙ ap (option_map (λ (x : Entry). is_some x.start || is_assigned_at k s)) x.1) ∙ driven-is s x.0 x.1

      module _ (w : Vec Signal Global) (freed : (s : ℕ) → slice_get w.items s ≡ option_map
          (free_if names (not (unwrap_or (slice_get marks s) true))) (slice_get k.signals.items s)) where
        signal-free : (s : ℕ) → slice_get w.items s ≡ slice_get (map signal_of (with_free named d).entries) s
        signal-free s =
            freed s ∙ ap (option_map (free_if names (not (unwrap_or (slice_get marks s) true))))
            (ap (λ xs. slice_get xs s) h.signals ∙ slice_get-map signal_of d.entries s)
            ∙ go (slice_get d.entries s) refl ∙ sym (ap (option_map signal_of) (with-free-at named d s))
            ∙ sym (slice_get-map signal_of (with_free named d).entries s)
          where
            go : (o : Option n.Entry) → slice_get d.entries s ≡ o
                → option_map (free_if names (not (unwrap_or (slice_get marks s) true))) (option_map signal_of o) ≡ option_map signal_of
                (option_map (outside_here (is_free named d s)) o)
            go None at = refl
            go (Some e) at = ap Some
                (ap (λ b. free_if names (not b) (signal_of e)) (mark-is s e at) ∙ one-free e (is_driven d s) (is_named named d e) (named-is e)
                ∙ ap (λ b. signal_of (outside_here b e)) (sym (ap (λ o. option_map_or (is_named named d) o false && not (is_driven d s)) at)))

        pub shows-free : ShowsDesign pins (record k { signals = w }) (with_free named d)
        shows-free = record {
          declared = h.declared;
          entries = h.entries ∙ sym (free-tells named d shown (λ e. refl));
          may_repeat = h.may_repeat ∙ sym (free-tells named d (λ (e : n.Entry). e.is_open) (λ e. refl));
          signals = same-lists w.items (map signal_of (with_free named d).entries) signal-free;
          resets = λ t. subst (IsReset pins (reset_in k.entries.items t)) (sym (free-reset named d t)) (h.resets t);
          assigns = h.assigns;
          combs = h.combs;
          clocked = h.clocked;
          outputs = h.outputs;
          starts = h.starts;
          givens = h.givens;
          process_resets = h.process_resets;
          late = h.late;
          sizes = record { assigns = h.sizes.assigns; combs = h.sizes.combs; clocked = h.sizes.clocked };
        }
