-- Start values that are assigned: what is pushed, and the definition signal by signal.
use Rattle.std.proofs.Common.{◌≡◌, ℕ, suc, ◌+◌, ◌-◌, ◌^◌, ◌%◌, ◌≤◌, min, Bool, true, false, cond, ◌||◌, ◌&&◌, List, [], ◌∷◌, ◌++◌, map, Option, Some, None, bit_and, refl, sym, ap, ap₂, subst, ◌∙◌, arith, rules, append-nil, append_assoc, Vec, Global}
use Rattle.std.specs.Prelude.{unwrap_or, option_map, option_and_then, slice_get}
use Rattle.std.proofs.lemmas.List.{map-append}
use Rattle.std.proofs.lemmas.Nat.{and_mask}
use Rattle.std.proofs.lemmas.Option.{slice_get-map}
use Rattle.cdc_base.specs.declared.signal.ResetPin.{ResetPin}
use Rattle.cdc_base.specs.declared.signal.Signal.{Signal}
use Rattle.flat_meaning.specs.Flat.{Expr, Number, Target, Whole, Stmt}
use Rattle.flat_form.specs.declared.flat.FlatAssign.{FlatAssign}
use Rattle.flat_form.specs.declared.flat.FExpr.TheOpen.{FExpr-F}
use Rattle.flat_form.specs.declared.flat.FExpr.TheFolds.{fold-roll-FExpr}
use Rattle.flat_form.specs.declared.flat.FExpr.TheVariants as e
use Rattle.flat_form.specs.declared.flat.FTarget.TheVariants as t
use Rattle.flat_form.specs.Sizes.{Kept}
use Rattle.flat_form.specs.View.{target_of, expr_of, reset_of}
use Rattle.flat_form.proofs.Folds.{expr_of-Number, target_of-Whole}
use Rattle.flat_unfolding.specs.Names as n
use Rattle.flat_unfolding.specs.Names.{width_of}
use Rattle.flat_unfolding.specs.Design as u
use Rattle.flat_unfolding.specs.Drivers.{is_from_outside}
use Rattle.flat_unfolding.specs.Signals.{is_processed, constant_of, constants_from, with_constants, kind_of}
use Rattle.flat_unfolding.specs.Starts.{first_start}
use Rattle.flat_unfolding.specs.Widths.{width_step, width_of as kept_width, keeps_sizes, target_keeps_sizes}
use Rattle.flat_names.specs.declared.design.Design.{Design}
use Rattle.flat_names.specs.declared.design.Entry.{Entry}
use Rattle.flat_names.specs.Looks.{Seen, seen, shown}
use Rattle.flat_names.specs.Designs.{signal_of, ShowsDesign}
use Rattle.flat_drivers.specs.Driving.{assigned_in, wires_in, clocked_in}
use Rattle.flat_drivers.specs.Driven.{is_assigned_in}
use Rattle.flat_process.proofs.Ended.{all-push}
use Rattle.flat_design.specs.StartValues.{is_processed_at, start_assigned, start_unless_held, starts_from, are_sized, GrowsBy}
use Rattle.flat_design.specs.Visiting.{IsFitDesign}
use Rattle.flat_design.proofs.Finished.{word-narrow}
use Rattle.flat_design.proofs.Wired.{whole-keeps, number-keeps}

-- ---- what is pushed

-- nothing more
pub grows-not : (xs : List FlatAssign) → GrowsBy xs xs []
grows-not xs = record { assigned = sym (append-nil (assigned_in xs)); sizes = λ h. h }

pub start-pushed : (s w v bits : ℕ) (old new : List FlatAssign) → bits ≡ 2 ^ min w 64 - 1
    → new ≡ old ++ (record { target = t.Whole s; value = e.Number (bit_and v bits) w }) ∷ [] → GrowsBy old new (start_assigned s w (Some v))
start-pushed s w v bits old new ones i =
    let x : FlatAssign = record { target = t.Whole s; value = e.Number (bit_and v bits) w } in
    let value : expr_of x.value ≡ Number w (bit_and v (2 ^ min w 64 - 1)) = expr_of-Number (bit_and v bits) w ∙ ap (λ k. Number w (bit_and v k)) ones in
    record {
      assigned = ap assigned_in i ∙ map-append (λ (y : FlatAssign). (target_of y.target, expr_of y.value)) old (x ∷ [])
          ∙ ap (λ (z : Target × Expr). assigned_in old ++ z ∷ []) (ap₂ (λ a b. (a, b)) (target_of-Whole s) value);
      sizes = λ h. ap are_sized i ∙ all-push (λ (y : FlatAssign). target_keeps_sizes y.target && keeps_sizes y.value) old x h
          (ap₂ (λ a b. a && b) (whole-keeps s) (number-keeps (bit_and v bits) w));
    }

-- none of a signal that is held, and that of one that isn't
module _ (held : List Bool) (s : ℕ) (x : Entry) (old : List FlatAssign) where
  pub held-grows-not : unwrap_or (slice_get held s) true ≡ true → GrowsBy old old (start_unless_held held s x)
  held-grows-not e = subst (λ b. GrowsBy old old (cond b [] (start_assigned s x.width x.start))) (sym e) (grows-not old)

  pub unheld-grows : (new : List FlatAssign) → unwrap_or (slice_get held s) true ≡ false → GrowsBy old new (start_assigned s x.width x.start)
      → GrowsBy old new (start_unless_held held s x)
  unheld-grows new e h = subst (λ b. GrowsBy old new (cond b [] (start_assigned s x.width x.start))) (sym e) h

-- ---- start values that were assigned so far

-- the signals below number k are done
pub record IsAssignedSoFar (held : List Bool) (all left : List Entry) (k : ℕ) (first now : List FlatAssign) : Type 0 where
  pub assigned : assigned_in now ++ starts_from held k left ≡ assigned_in first ++ starts_from held 0 all
  pub sizes : are_sized first ≡ true → are_sized now ≡ true

module _ (held : List Bool) (all : List Entry) (k : ℕ) (first : List FlatAssign) where
  pub next-assigned : (x : Entry) (rest left : List Entry) (old new : List FlatAssign) → left ≡ x ∷ rest → IsAssignedSoFar held all left k first old
      → GrowsBy old new (start_unless_held held k x) → IsAssignedSoFar held all rest (k + 1) first new
  next-assigned x rest left old new e h g =
      let next : k + 1 ≡ suc k = omega arith in record {
        assigned = ap₂ (λ a j. a ++ starts_from held j rest) g.assigned next
            ∙ append_assoc (assigned_in old) (start_unless_held held k x) (starts_from held (suc k) rest)
            ∙ ap (λ xs. assigned_in old ++ starts_from held k xs) (sym e) ∙ h.assigned;
        sizes = λ s. g.sizes (h.sizes s);
      }

  pub all-assigned : (left : List Entry) (now : List FlatAssign) → left ≡ [] → IsAssignedSoFar held all left k first now → GrowsBy first now (starts_from held 0 all)
  all-assigned left now e h = record {
    assigned = sym (append-nil (assigned_in now)) ∙ ap (λ xs. assigned_in now ++ starts_from held k xs) (sym e) ∙ h.assigned;
    sizes = h.sizes;
  }

-- ---- the definition, signal by signal

-- a marked entry of the definition counts as one that is held
outside-is : (e : n.Entry) → is_from_outside (kind_of e false) ≡ e.is_top_input
outside-is e = go e.is_top_input
  where
    go : (b : Bool) → is_from_outside (kind_of (record e { is_top_input = b }) false) ≡ b
    go true = refl
    go false = refl

either : (a b : Bool) → (a || b) ≡ (b || a)
either true true = refl
either true false = refl
either false true = refl
either false false = refl

masked : (v w : ℕ) → w ≤ 64 → bit_and v (2 ^ min w 64 - 1) ≡ v % 2 ^ w
masked v w narrow = ap (λ k. bit_and v (2 ^ k - 1)) (let e : min w 64 ≡ w = omega arith in e) ∙ and_mask v w

module _ (d : u.Design) (s : ℕ) (e : n.Entry) (narrow : width_of e.range ≤ 64) where
  constant-is : (b : Bool) (o : Option ℕ) → (is_processed d s || e.is_top_input) ≡ b → first_start d.starts s ≡ o
      → cond b [] (start_assigned s (width_of e.range) o) ≡ constant_of d s e
  constant-is true o p q = rw p
  constant-is false None p q = rw (p, q)
  constant-is false (Some v) p q = rw (p, q) (ap (λ k. (Whole s, Number (width_of e.range) k) ∷ []) (masked v (width_of e.range) narrow))

head-is : {A : Type 0} (x y : A) (xs ys : List A) → x ∷ xs ≡ y ∷ ys → x ≡ y
head-is x y xs ys e = cc

tail-is : {A : Type 0} (x y : A) (xs ys : List A) → x ∷ xs ≡ y ∷ ys → xs ≡ ys
tail-is x y xs ys e = cc

module _ (held : List Bool) (d : u.Design) where
  starts-same : (k : ℕ) (xs : List Entry) (es : List n.Entry) → map seen xs ≡ map shown es
      → ((s : ℕ) (x : Entry) (e : n.Entry) → slice_get xs s ≡ Some x → slice_get es s ≡ Some e → seen x ≡ shown e → start_unless_held held (k + s) x ≡ constant_of d (k + s) e)
      → starts_from held k xs ≡ constants_from d k es
  starts-same k [] [] m h = refl
  starts-same k [] (e ∷ es) m h = absurd (search (rules, m))
  starts-same k (x ∷ xs) [] m h = absurd (search (rules, m))
  starts-same k (x ∷ xs) (e ∷ es) m h =
      let here : k ≡ k + 0 = omega arith in
      ap₂ (λ a b. a ++ b)
      (ap (λ i. start_unless_held held i x) here ∙ h 0 x e refl refl (head-is (seen x) (shown e) (map seen xs) (map shown es) m) ∙ ap (λ i. constant_of d i e) (sym here))
      (starts-same (suc k) xs es (tail-is (seen x) (shown e) (map seen xs) (map shown es) m) (λ s y f p q r.
      let next : suc k + s ≡ k + suc s = omega arith in
      ap (λ i. start_unless_held held i y) next ∙ h (suc s) y f p q r ∙ ap (λ i. constant_of d i f) (sym next)))

-- ---- the design with these assignments

module _ (pins : List ResetPin) (k : Design) (d : u.Design) (h : ShowsDesign pins k d) where
  processed-is : (s : ℕ) → is_processed_at k s ≡ is_processed d s
  processed-is s =
      ap (λ (ys : List Stmt). is_assigned_in [] ys (map reset_of k.resets.items) (clocked_in k.clocked.items) s) h.combs
      ∙ ap (λ (rs : List (Option ℕ × Stmt)). is_assigned_in [] d.combs rs (clocked_in k.clocked.items) s) h.process_resets
      ∙ ap (λ (zs : List (ℕ × Stmt)). is_assigned_in [] d.combs d.resets zs s) h.clocked

  module _ (fit : IsFitDesign d) (held : List Bool)
      (marked : (s : ℕ) → slice_get held s ≡ option_map (λ (y : Signal). is_from_outside y.kind || is_processed_at k s) (slice_get k.signals.items s)) where
    held-is : (s : ℕ) (e : n.Entry) → slice_get d.entries s ≡ Some e → unwrap_or (slice_get held s) true ≡ (is_processed d s || e.is_top_input)
    held-is s e at =
        let there : slice_get k.signals.items s ≡ Some (signal_of e) = ap (λ xs. slice_get xs s) h.signals ∙ slice_get-map signal_of d.entries s ∙ ap (option_map signal_of) at in
        ap (λ o. unwrap_or o true) (marked s ∙ ap (option_map (λ (y : Signal). is_from_outside y.kind || is_processed_at k s)) there)
        ∙ ap₂ (λ a b. a || b) (outside-is e) (processed-is s) ∙ either e.is_top_input (is_processed d s)

    one-is : (s : ℕ) (x : Entry) (e : n.Entry) → slice_get k.entries.items s ≡ Some x → slice_get d.entries s ≡ Some e → seen x ≡ shown e
        → start_unless_held held s x ≡ constant_of d s e
    one-is s x e p q r =
        let start : x.start ≡ first_start d.starts s = sym (ap (λ o. option_and_then (λ (z : Entry). z.start) o) p) ∙ h.starts s in
        let width : x.width ≡ width_of e.range = ap (λ (z : Seen). z.width) r in
        ap (λ b. cond b [] (start_assigned s x.width x.start)) (held-is s e q)
        ∙ ap₂ (λ i o. cond (is_processed d s || e.is_top_input) [] (start_assigned s i o)) width start
        ∙ constant-is d s e (word-narrow (width_of e.range) (fit.entries s e q)) (is_processed d s || e.is_top_input) (first_start d.starts s) refl refl

    starts-are : starts_from held 0 k.entries.items ≡ constants_from d 0 d.entries
    starts-are = starts-same held d 0 k.entries.items d.entries h.entries (λ s x e p q r.
        let here : 0 + s ≡ s = omega arith in
        ap (λ i. start_unless_held held i x) here ∙ one-is s x e p q r ∙ ap (λ i. constant_of d i e) (sym here))

    pub shows-constants : (v : Vec FlatAssign Global) → GrowsBy k.assigns.items v.items (starts_from held 0 k.entries.items) → ShowsDesign pins (record k { assigns = v }) (with_constants d)
    shows-constants v g = record {
      declared = h.declared;
      entries = h.entries;
      may_repeat = h.may_repeat;
      signals = h.signals;
      resets = h.resets;
      assigns = g.assigned ∙ ap₂ (λ a b. a ++ b) h.assigns starts-are;
      combs = h.combs;
      clocked = h.clocked;
      process_resets = h.process_resets;
      outputs = h.outputs;
      starts = h.starts;
      givens = h.givens;
      late = h.late;
      sizes = record { assigns = g.sizes h.sizes.assigns; combs = h.sizes.combs; clocked = h.sizes.clocked };
    }

-- what is fit stays so
pub constants-fit : (d : u.Design) → IsFitDesign d → IsFitDesign (with_constants d)
constants-fit d fit = record { entries = fit.entries; few = fit.few }
