-- The signals of a design that is done, and the trial of its drivers.
use Rattle.std.proofs.Common.{◌≡◌, ℕ, suc, ◌+◌, ◌-◌, ◌^◌, ◌<◌, ◌≤◌, min, Bool, true, false, cond, ◌||◌, ◌&&◌, ◌==◌, nat_le, List, [], ◌∷◌, length, map, Option, Some, None, bit_and, refl, sym, ap, ap₂, subst, ◌∙◌, arith, rules, leb-true, lt-ltb}
use Rattle.std.specs.Prelude.{Result, Err, All, is_some, unwrap_or, option_map, option_and_then, slice_get, IfSome}
use Rattle.std.specs.Option.{option_map_or}
use Rattle.std.proofs.lemmas.Bool.{and_parts}
use Rattle.std.proofs.lemmas.Nat.{pow_pos, and_le_r}
use Rattle.std.proofs.lemmas.Option.{slice_get-map}
use Rattle.std.proofs.lemmas.List.Elements.{All-cons, All-nil}
use Rattle.cdc_base.specs.declared.signal.ResetPin.{ResetPin}
use Rattle.cdc_base.specs.declared.signal.Signal.{Signal}
use Rattle.cell_graph.specs.Tree.{bit_at, number}
use Rattle.cell_graph.proofs.Words.{bit_and-bit, bit-ones, is_number}
use Rattle.flat_meaning.specs.Flat.{Expr, Target, Stmt}
use Rattle.flat_form.specs.declared.flat.FlatAssign.{FlatAssign}
use Rattle.flat_form.specs.declared.flat.FlatComb.{FlatComb}
use Rattle.flat_form.specs.declared.flat.FlatClocked.{FlatClocked}
use Rattle.flat_form.specs.declared.flat.FlatReset.{FlatReset}
use Rattle.flat_form.specs.View.{flat_of, reset_of}
use Rattle.flat_meaning.specs.Design.{Flat}
use Rattle.flat_form.specs.Sizes.{is_word}
use Rattle.flat_unfolding.specs.Names as n
use Rattle.flat_unfolding.specs.Names.{width_of}
use Rattle.flat_unfolding.specs.Signals as u
use Rattle.flat_unfolding.specs.Signals.{is_register, kind_of, signals_from, flat_design}
use Rattle.flat_unfolding.specs.Starts.{given_bit, start_bit, first_start}
use Rattle.flat_unfolding.specs.Design.{Start, Design}
use Rattle.cdc_base.specs.declared.fault.Stop.{Stop}
use Rattle.cdc_base.specs.declared.fault.Stop.TheVariants.{Refused, Memory}
use Rattle.flat_unfolding.specs.Outcome.{Outcome, good, then_}
use Rattle.flat_unfolding.specs.Drivers.{assigned_by, is_from_outside, driven_once}
use Rattle.flat_unfolding.specs.Unfolding as law
use Rattle.flat_unfolding.specs.Unfolding.{IsUnfolding}
use Rattle.flat_unfolding.proofs.Steps.{some_is}
use Rattle.flat_unfolding.proofs.Driven.{registered}
use Rattle.flat_drivers.specs.Registers.{HasStarts}
use Rattle.flat_drivers.specs.Driving.{IsMarked, AreMarked, IsFinished, design_of, is_among, Meets}
use Rattle.flat_names.specs.declared.design.Entry.{Entry}
use Rattle.flat_names.specs.declared.design.Design as table
use Rattle.flat_names.specs.Looks.{Seen, seen, shown}
use Rattle.flat_names.specs.Designs.{signal_of, ShowsDesign}
use Rattle.flat_design.specs.Visiting.{IsFitDesign}
use Rattle.flat_design.specs.Finishing.{HasKept, AreKept, finished_at}

-- ---- start values

-- the bits of the first start value
pub first-bit : (starts : List Start) (s i : ℕ) → option_map (λ v. bit_at v i) (first_start starts s) ≡ start_bit starts s i
first-bit [] s i = refl
first-bit (a ∷ starts) s i = go (a.sig == s) (first-bit starts s i)
  where
    go : (b : Bool) → option_map (λ v. bit_at v i) (first_start starts s) ≡ start_bit starts s i
        → option_map (λ v. bit_at v i) (cond b (Some a.value) (first_start starts s)) ≡ cond b (Some (bit_at a.value i)) (start_bit starts s i)
    go true h = refl
    go false h = h

-- the lowest bits of a word
module _ (w bits : ℕ) (narrow : w ≤ 64) (ones : bits ≡ 2 ^ min w 64 - 1) where
  mask-is : bits ≡ 2 ^ w - 1
  mask-is = ones ∙ ap (λ k. 2 ^ k - 1) (let e : min w 64 ≡ w = omega arith in e)

  pub low-fits : (v : ℕ) → bit_and v bits < 2 ^ w
  low-fits v = let a = and_le_r v bits in let p = pow_pos w in let e = mask-is in omega arith

  pub low-bit : (v i : ℕ) → i < w → bit_at (bit_and v bits) i ≡ bit_at v i
  low-bit v i l = bit_and-bit v bits i ∙ ap (λ b. bit_at v i && b) (ap (λ k. bit_at k i) mask-is ∙ bit-ones w i ∙ lt-ltb i w l) ∙ go (bit_at v i)
    where
      go : (b : Bool) → (b && true) ≡ b
      go true = refl
      go false = refl

  pub low-number : (v : ℕ) (f : ℕ → Bool) → ((i : ℕ) → i < 64 → bit_at v i ≡ f i) → bit_and v bits ≡ number f w
  low-number v f h = is_number (bit_and v bits) f w (low-fits v) (λ i l. low-bit v i l ∙ h i (let k : i < 64 = omega arith in k))

pub kept-starts : (d : Design) (s bits : ℕ) (x : Entry) → bits ≡ 2 ^ min x.width 64 - 1 → HasKept d s x
    → HasStarts d s x.width (record { start = option_map (λ v. bit_and v bits) x.start; reset_known = bit_and x.reset_known bits; reset_start = bit_and x.reset_start bits })
kept-starts d s bits x ones h = record {
  declared = λ i l. go x.start i l ∙ ap (λ o. option_map (λ v. bit_at v i) o) h.start ∙ first-bit d.starts s i;
  fits = fits x.start;
  known = low-number x.width bits h.narrow ones x.reset_known (λ i. is_some (given_bit d.givens s i)) h.known;
  given = low-number x.width bits h.narrow ones x.reset_start (λ i. unwrap_or (given_bit d.givens s i) false) h.value;
}
  where
    go : (o : Option ℕ) (i : ℕ) → i < x.width → option_map (λ v. bit_at v i) (option_map (λ v. bit_and v bits) o) ≡ option_map (λ v. bit_at v i) o
    go None i l = refl
    go (Some v) i l = ap Some (low-bit x.width bits h.narrow ones v i l)

    fits : (o : Option ℕ) → IfSome (option_map (λ v. bit_and v bits) o) (λ v. v < 2 ^ x.width)
    fits None = tt
    fits (Some v) = low-fits x.width bits h.narrow ones v

-- ---- the signals

pub word-narrow : (w : ℕ) → is_word w ≡ true → w ≤ 64
word-narrow w e = leb-true w 64 (and_parts (nat_le 1 w) (nat_le w 64) e).1

-- what a list shows of another, place by place
pub shown-at : (xs : List Entry) (es : List n.Entry) (s : ℕ) (e : n.Entry) → map seen xs ≡ map shown es → slice_get es s ≡ Some e → (x : Entry) × (slice_get xs s ≡ Some x) × (seen x ≡ shown e)
shown-at xs es s e h at = go (slice_get xs s) refl (sym (slice_get-map seen xs s) ∙ ap (λ ys. slice_get ys s) h ∙ slice_get-map shown es s ∙ ap (option_map shown) at)
  where
    go : (o : Option Entry) → slice_get xs s ≡ o → option_map seen o ≡ Some (shown e) → (x : Entry) × (slice_get xs s ≡ Some x) × (seen x ≡ shown e)
    go None f g = absurd (search (rules, g))
    go (Some x) f g = (x, f, some_is (seen x) (shown e) g)

mapped-at : {A B : Type 0} (f : A → B) (xs : List A) (s : ℕ) (y : B) → slice_get (map f xs) s ≡ Some y → (x : A) × (slice_get xs s ≡ Some x) × (f x ≡ y)
mapped-at {A} f xs s y e = go (slice_get xs s) refl (sym (slice_get-map f xs s) ∙ e)
  where
    go : (o : Option A) → slice_get xs s ≡ o → option_map f o ≡ Some y → (x : A) × (slice_get xs s ≡ Some x) × (f x ≡ y)
    go None g h = absurd (search (rules, h))
    go (Some x) g h = (x, g, some_is (f x) y h)

module _ (pins : List ResetPin) (k : table.Design) (d : Design) (h : ShowsDesign pins k d) (fit : IsFitDesign d) where
  pub kept-all : AreKept d k.entries.items k.signals.items
  kept-all s y at =
      let e = mapped-at signal_of d.entries s y (sym (ap (λ ys. slice_get ys s) h.signals) ∙ at) in
      let x = shown-at k.entries.items d.entries s e.0 h.entries e.1 in
      let width : x.0.width ≡ width_of e.0.range = ap (λ (z : Seen). z.width) x.2 in (
        x.0,
        x.1,
        width ∙ ap (λ (z : Signal). z.width) e.2,
        record {
          narrow = subst (λ w. w ≤ 64) (sym width) (word-narrow (width_of e.0.range) (fit.entries s e.0 e.1));
          start = sym (ap (λ o. option_and_then (λ (z : Entry). z.start) o) x.1) ∙ h.starts s;
          known = λ i l. sym (ap (λ o. bit_at (option_map_or (λ (z : Entry). z.reset_known) o 0) i) x.1) ∙ (h.givens s).known i l;
          value = λ i l. sym (ap (λ o. bit_at (option_map_or (λ (z : Entry). z.reset_start) o 0) i) x.1) ∙ (h.givens s).value i l;
        },
      )

-- a signal of the flat design
finished-is : (d : Design) (s : ℕ) (e : n.Entry) (b : Bool) → is_register d s ≡ b → finished_at d s b (signal_of e) ≡ u.signal_of d s e
finished-is d s e true r = rw r
finished-is d s e false r = rw r

same-from : (d : Design) (k : ℕ) (es : List n.Entry) (ys : List Signal) → ((s : ℕ) → slice_get ys s ≡ option_map (finished_at d (k + s) (is_register d (k + s))) (slice_get (map signal_of es) s)) → ys ≡ signals_from d k es
same-from d k [] [] h = refl
same-from d k [] (y ∷ ys) h = absurd (let e = h 0 in search (rules, e))
same-from d k (e ∷ es) [] h = absurd (let f = h 0 in search (rules, f))
same-from d k (e ∷ es) (y ∷ ys) h =
    let here : k + 0 ≡ k = omega arith in
    ap₂ (λ (z : Signal) zs. z ∷ zs)
    (some_is y (finished_at d (k + 0) (is_register d (k + 0)) (signal_of e)) (h 0) ∙ ap (λ i. finished_at d i (is_register d i) (signal_of e)) here ∙ finished-is d k e (is_register d k) refl)
    (same-from d (suc k) es ys (λ s. h (suc s) ∙ ap (λ i. option_map (finished_at d i (is_register d i)) (slice_get (map signal_of es) s)) (let next : k + suc s ≡ suc k + s = omega arith in next)))

pub signals-are : (d : Design) (xs ys : List Signal) → xs ≡ map signal_of d.entries → ((s : ℕ) → slice_get ys s ≡ option_map (finished_at d s (is_register d s)) (slice_get xs s)) → ys ≡ signals_from d 0 d.entries
signals-are d xs ys e h =
    same-from d 0 d.entries ys (λ s. h s ∙ ap (λ zs. option_map (finished_at d s (is_register d s)) (slice_get zs s)) e
    ∙ ap (λ k. option_map (finished_at d k (is_register d k)) (slice_get (map signal_of d.entries) s)) (let z : s ≡ 0 + s = omega arith in z))

-- ---- signals that were made registers so far

twice : (d : Design) (s : ℕ) (b c : Bool) (y : Signal) → finished_at d s b (finished_at d s c y) ≡ finished_at d s (c || b) y
twice d s true true y = refl
twice d s true false y = refl
twice d s false true y = refl
twice d s false false y = refl

twice-if : (d : Design) (s : ℕ) (b c : Bool) (o : Option Signal) → option_map (finished_at d s b) (option_map (finished_at d s c) o) ≡ option_map (finished_at d s (c || b)) o
twice-if d s b c None = refl
twice-if d s b c (Some y) = ap Some (twice d s b c y)

same-width : (d : Design) (s : ℕ) (b : Bool) (y : Signal) → (finished_at d s b y).width ≡ y.width
same-width d s true y = refl
same-width d s false y = refl

module _ (d : Design) (r : ℕ) (entries : List Entry) (old new : List Signal) (marked : (s : ℕ) → slice_get new s ≡ option_map (finished_at d s (s == r)) (slice_get old s)) where
  pub still-kept : AreKept d entries old → AreKept d entries new
  still-kept h s y e = go (slice_get old s) refl (sym (marked s) ∙ e)
    where
      go : (o : Option Signal) → slice_get old s ≡ o → option_map (finished_at d s (s == r)) o ≡ Some y → (x : Entry) × (slice_get entries s ≡ Some x) × (x.width ≡ y.width) × HasKept d s x
      go None f g = absurd (search (rules, g))
      go (Some z) f g =
          let x = h s z f in
          (x.0, x.1, x.2 ∙ sym (same-width d s (s == r) z) ∙ ap (λ (q : Signal). q.width) (some_is (finished_at d s (s == r) z) y g), x.3)

  pub next-marked : (all rest left : List ℕ) (first : List Signal) → left ≡ r ∷ rest
      → ((s : ℕ) → option_map (finished_at d s (is_among left s)) (slice_get old s) ≡ option_map (finished_at d s (is_among all s)) (slice_get first s))
      → (s : ℕ) → option_map (finished_at d s (is_among rest s)) (slice_get new s) ≡ option_map (finished_at d s (is_among all s)) (slice_get first s)
  next-marked all rest left first e h s =
      ap (option_map (finished_at d s (is_among rest s))) (marked s) ∙ twice-if d s (is_among rest s) (s == r) (slice_get old s)
      ∙ ap (λ xs. option_map (finished_at d s (is_among xs s)) (slice_get old s)) (sym e) ∙ h s

pub not-marked : (d : Design) (s : ℕ) (o : Option Signal) → option_map (finished_at d s false) o ≡ o
not-marked d s None = refl
not-marked d s (Some y) = refl

-- ---- the trial of drivers

one-marked : (d : Design) (s : ℕ) (e : n.Entry) → IsMarked (assigned_by (map (λ (p : ℕ × Stmt). p.1) d.clocked) s) (signal_of e) (u.signal_of d s e)
one-marked d s e = record { declared = refl; outside = λ z. go (is_register d s) refl z }
  where
    go : (b : Bool) → is_register d s ≡ b → assigned_by (map (λ (p : ℕ × Stmt). p.1) d.clocked) s ≡ 0 → is_from_outside (kind_of e b) ≡ is_from_outside (kind_of e false)
    go false r z = refl
    go true r z = absurd (let l = registered d.clocked s r in omega (arith, l, z))

all-marked : (d : Design) (k : ℕ) (es : List n.Entry) → AreMarked (assigned_by (map (λ (p : ℕ × Stmt). p.1) d.clocked)) k (map signal_of es) (signals_from d k es)
all-marked d k [] = tt
all-marked d k (e ∷ es) = (one-marked d k e, all-marked d (suc k) es)

module _ (pins : List ResetPin) (k : table.Design) (d : Design) (h : ShowsDesign pins k d) where
  on-trial : IsFinished (design_of k.signals.items k.assigns.items k.combs.items k.clocked.items) (flat_design d)
  on-trial = record {
    signals = subst (λ (cs : List (ℕ × Stmt)). AreMarked (assigned_by (map (λ (p : ℕ × Stmt). p.1) cs)) 0 k.signals.items (signals_from d 0 d.entries)) (sym h.clocked)
        (subst (λ (xs : List Signal). AreMarked (assigned_by (map (λ (p : ℕ × Stmt). p.1) d.clocked)) 0 xs (signals_from d 0 d.entries)) (sym h.signals) (all-marked d 0 d.entries));
    assigns = sym h.assigns;
    combs = sym h.combs;
    clocked = sym h.clocked;
  }

  all-narrow : IsFitDesign d → All (λ (x : Signal). x.width ≤ 64) k.signals.items
  all-narrow fit = subst (λ (xs : List Signal). All (λ (x : Signal). x.width ≤ 64) xs) (sym h.signals) (go d.entries (λ s e at. fit.entries s e at))
    where
      go : (es : List n.Entry) → ((s : ℕ) (e : n.Entry) → slice_get es s ≡ Some e → is_word (width_of e.range) ≡ true) → All (λ (x : Signal). x.width ≤ 64) (map signal_of es)
      go [] f = All-nil (λ (x : Signal). x.width ≤ 64)
      go (e ∷ es) f = All-cons (λ (x : Signal). x.width ≤ 64) (signal_of e) (map signal_of es) (word-narrow (width_of e.range) (f 0 e refl)) (go es (λ s. f (suc s)))

  few-signals : IsFitDesign d → length k.signals.items ≤ 2 ^ 32
  few-signals fit = subst (λ (c : ℕ). c ≤ 2 ^ 32) (sym (ap length h.signals ∙ go d.entries)) fit.few
    where
      go : (es : List n.Entry) → length (map signal_of es) ≡ length es
      go [] = refl
      go (e ∷ es) = ap suc (go es)

  -- the trial of the very lists
  pub trial : IsFitDesign d → (ss : List Signal) (xs : List FlatAssign) (ys : List FlatComb) (zs : List FlatClocked) (rs : List FlatReset)
      → ss ≡ k.signals.items → xs ≡ k.assigns.items → ys ≡ k.combs.items → zs ≡ k.clocked.items → rs ≡ k.resets.items
      → (r : Result (Unit {0}) Stop) → ((f : Flat) → IsFinished (design_of ss xs ys zs) f → All (λ (x : Signal). x.width ≤ 64) ss → length ss ≤ 2 ^ 32 → Meets (driven_once f (map reset_of rs)) r)
      → Meets (driven_once (flat_design d) d.resets) r
  trial fit ss xs ys zs rs e f g i j r try =
      subst (λ (os : List (Option ℕ × Stmt)). Meets (driven_once (flat_design d) os) r) (ap (map reset_of) j ∙ h.process_resets)
      (try (flat_design d)
      (subst (λ (v : List Signal). IsFinished (design_of v xs ys zs) (flat_design d)) (sym e)
      (subst (λ (v : List FlatAssign). IsFinished (design_of k.signals.items v ys zs) (flat_design d)) (sym f)
      (subst (λ (v : List FlatComb). IsFinished (design_of k.signals.items k.assigns.items v zs) (flat_design d)) (sym g)
      (subst (λ (v : List FlatClocked). IsFinished (design_of k.signals.items k.assigns.items k.combs.items v) (flat_design d)) (sym i) on-trial))))
      (subst (λ (v : List Signal). All (λ (x : Signal). x.width ≤ 64) v) (sym e) (all-narrow fit))
      (subst (λ (v : List Signal). length v ≤ 2 ^ 32) (sym e) (few-signals fit)))

-- how the trial ends, for the unfolding
pub trial-passed : (d : Design) → driven_once (flat_design d) d.resets ≡ good tt → law.checked (flat_design d) d.resets ≡ good (flat_design d)
trial-passed d e = ap (λ (p : Outcome (Unit {0})). then_ p (λ u. good (flat_design d))) e

pub trial-failed : (d : Design) (e : Stop) → Meets (driven_once (flat_design d) d.resets) (Err e) → IsUnfolding (law.checked (flat_design d) d.resets) (Err e)
trial-failed d (Refused f) h = ap (λ (p : Outcome (Unit {0})). then_ p (λ u. good (flat_design d))) h
trial-failed d Memory h = tt

-- ---- the flat design

pub flat-same : (pins : List ResetPin) (k : table.Design) (d : Design) → ShowsDesign pins k d → (signals : List Signal) (xs : List FlatAssign) (ys : List FlatComb) (zs : List FlatClocked) (outputs : List ℕ)
    → signals ≡ signals_from d 0 d.entries → xs ≡ k.assigns.items → ys ≡ k.combs.items → zs ≡ k.clocked.items → outputs ≡ k.outputs.items
    → flat_of (record { signals = signals; assigns = xs; combs = ys; clocked = zs; outputs = outputs }) ≡ flat_design d
flat-same pins k d h signals xs ys zs outputs e f g i j =
    ap (λ (v : List Signal). record (flat_of (record { signals = signals; assigns = xs; combs = ys; clocked = zs; outputs = outputs })) { signals = v }) e
    ∙ ap (λ (v : List (Target × Expr)). record (flat_of (record { signals = signals_from d 0 d.entries; assigns = xs; combs = ys; clocked = zs; outputs = outputs })) { assigns = v })
    (ap (λ (v : List FlatAssign). (flat_of (record { signals = []; assigns = v; combs = []; clocked = []; outputs = [] })).assigns) f ∙ h.assigns)
    ∙ ap (λ (v : List Stmt). record (flat_design d) { combs = v; clocked = (flat_of (record { signals = []; assigns = []; combs = ys; clocked = zs; outputs = outputs })).clocked; outputs = outputs })
    (ap (λ (v : List FlatComb). (flat_of (record { signals = []; assigns = []; combs = v; clocked = []; outputs = [] })).combs) g ∙ h.combs)
    ∙ ap (λ (v : List (ℕ × Stmt)). record (flat_design d) { clocked = v; outputs = outputs })
    (ap (λ (v : List FlatClocked). (flat_of (record { signals = []; assigns = []; combs = []; clocked = v; outputs = [] })).clocked) i ∙ h.clocked)
    ∙ ap (λ (v : List ℕ). record (flat_design d) { outputs = v }) (j ∙ h.outputs)
