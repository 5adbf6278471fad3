-- An input of the top comes from outside.
use Rattle.std.proofs.Common.{◌≡◌, ◌==◌, ℕ, zero, suc, List, [], ◌∷◌, map, Option, Some, None, refl, sym, ap, subst, ◌∙◌, rules, Vec, Global}
use Rattle.std.specs.Prelude.{slice_get, option_map}
use Rattle.std.proofs.Math.ListN.{set}
use Rattle.std.proofs.lemmas.Option.{slice_get-map}
use Rattle.cdc_base.specs.declared.signal.ResetPin.{ResetPin}
use Rattle.cdc_base.specs.declared.signal.Signal.{Signal}
use Rattle.cdc_base.specs.declared.signal.SigKind.TheVariants.{Input}
use Rattle.flat_unfolding.specs.Names as n
use Rattle.flat_unfolding.specs.Names.{reset_at}
use Rattle.flat_unfolding.specs.Design as u
use Rattle.flat_unfolding.specs.Design.{change_entry}
use Rattle.flat_unfolding.specs.Signals.{from_outside}
use Rattle.flat_unfolding.proofs.Steps.{some_is}
use Rattle.flat_names.specs.declared.design.Design.{Design}
use Rattle.flat_names.specs.Looks.{shown}
use Rattle.flat_names.specs.Designs.{signal_of, IsReset, reset_of, ShowsDesign}
use Rattle.flat_design.specs.Visiting.{outside_if}
use Rattle.flat_design.proofs.Changes.{no-change, told-same, is-set, is-same}

reset-same : (s : ℕ) (es : List n.Entry) (t : ℕ) → reset_at (change_entry from_outside s es) t ≡ reset_at es t
reset-same s [] t = refl
reset-same zero (a ∷ es) zero = refl
reset-same zero (a ∷ es) (suc t) = refl
reset-same (suc s) (a ∷ es) zero = refl
reset-same (suc s) (a ∷ es) (suc t) = reset-same s es t

signals-set : (s : ℕ) (es : List n.Entry) (ys : List Signal) (y : Signal) → ys ≡ map signal_of es → slice_get ys s ≡ Some y → set ys s (record y { kind = Input }) ≡ map signal_of (change_entry from_outside s es)
signals-set s es ys y e at = ap (λ zs. set zs s (record y { kind = Input })) e ∙ go s es (sym (ap (λ zs. slice_get zs s) e) ∙ at)
  where
    go : (s : ℕ) (es : List n.Entry) → slice_get (map signal_of es) s ≡ Some y → set (map signal_of es) s (record y { kind = Input }) ≡ map signal_of (change_entry from_outside s es)
    go s [] f = absurd (search (rules, f))
    go zero (a ∷ es) f = ap (λ (z : Signal). record z { kind = Input } ∷ map signal_of es) (sym (some_is (signal_of a) y f))
    go (suc s) (a ∷ es) f = ap (λ zs. signal_of a ∷ zs) (go s es f)

-- the kind of a signal from outside
shows-outside : (pins : List ResetPin) (k : Design) (d : u.Design) (s : ℕ) (w : Vec Signal Global) → ShowsDesign pins k d → w.items ≡ map signal_of (change_entry from_outside s d.entries)
    → ShowsDesign pins (record k { signals = w }) (record d { entries = change_entry from_outside s d.entries })
shows-outside pins k d s w h i = record {
  declared = h.declared;
  entries = h.entries ∙ sym (told-same shown from_outside (λ a. refl) s d.entries);
  may_repeat = h.may_repeat ∙ sym (told-same (λ (a : n.Entry). a.is_open) from_outside (λ a. refl) s d.entries);
  signals = i;
  resets = λ t. subst (IsReset pins (reset_of k.entries.items t)) (sym (reset-same s d.entries t)) (h.resets t);
  assigns = h.assigns;
  combs = h.combs;
  clocked = h.clocked;
  outputs = h.outputs;
  starts = h.starts;
  givens = h.givens;
  process_resets = h.process_resets;
  late = h.late;
  sizes = record { assigns = h.sizes.assigns; combs = h.sizes.combs; clocked = h.sizes.clocked };
}

module _ (pins : List ResetPin) (k : Design) (d : u.Design) (h : ShowsDesign pins k d) (s : ℕ) where
  none-there : slice_get k.signals.items s ≡ None → slice_get d.entries s ≡ None
  none-there e = go (slice_get d.entries s) (sym e ∙ ap (λ zs. slice_get zs s) h.signals ∙ slice_get-map signal_of d.entries s)
    where
      go : (o : Option n.Entry) → None ≡ option_map signal_of o → o ≡ None
      go None f = refl
      go (Some a) f = absurd (search (rules, f))

  pub top-input-shown : (w : Vec Signal Global) → ((t : ℕ) → slice_get w.items t ≡ option_map (outside_if (t == s)) (slice_get k.signals.items t))
      → ShowsDesign pins (record k { signals = w }) (record d { entries = change_entry from_outside s d.entries })
  top-input-shown w outside = shows-outside pins k d s w h (go (slice_get k.signals.items s) refl)
    where
      go : (o : Option Signal) → slice_get k.signals.items s ≡ o → w.items ≡ map signal_of (change_entry from_outside s d.entries)
      go None e = is-same outside_if (λ y. refl) s k.signals.items w.items e outside ∙ h.signals ∙ sym (ap (map signal_of) (no-change from_outside s d.entries (none-there e)))
      go (Some y) e = is-set outside_if (λ z. refl) s k.signals.items w.items y e outside ∙ signals-set s d.entries k.signals.items y h.signals e
