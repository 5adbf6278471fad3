-- A signal of one bit with the name of a reset is that reset.
use Rattle.std.proofs.Common.{◌≡◌, ◌==◌, ℕ, Bool, true, false, cond, List, length, map, Option, Some, None, refl, sym, ap, ap₂, subst, ◌∙◌, rules, find, bytes_eq, Vec, Global}
use Rattle.std.specs.Prelude.{slice_get, option_map}
use Rattle.std.proofs.lemmas.List.{length-map}
use Rattle.std.proofs.lemmas.Option.{slice_get-map}
use Rattle.indexmap.specs.IndexMap.{IndexMap}
use Rattle.cdc_base.specs.declared.signal.ResetPin.{ResetPin}
use Rattle.cdc_base.specs.declared.signal.Signal.{Signal}
use Rattle.flat_unfolding.specs.Outcome.{Text}
use Rattle.flat_unfolding.specs.Names as n
use Rattle.flat_unfolding.specs.Names.{width_of, pin_of}
use Rattle.flat_unfolding.specs.Design as u
use Rattle.flat_unfolding.specs.Design.{change_entry}
use Rattle.flat_unfolding.specs.Unfolding.{declared_reset}
use Rattle.flat_unfolding.proofs.Steps.{some_is}
use Rattle.flat_names.specs.declared.design.Reset.{Reset}
use Rattle.flat_names.specs.declared.design.Entry.{Entry}
use Rattle.flat_names.specs.declared.design.Design.{Design}
use Rattle.flat_names.specs.Looks.{Seen, seen, shown}
use Rattle.flat_names.specs.Designs.{signal_of, IsReset, ShowsDesign}
use Rattle.flat_design.specs.Visiting.{pin_in, ShowsPins, resolved_if}
use Rattle.flat_design.proofs.Changes.{same-change, is-set, is-same}
use Rattle.flat_design.proofs.Resolving.{set-reset, shows-reset, entry-there, unchanged-there}

-- the reset of a name, for a signal of so many bits
named-reset : {S : Type 0} (table : IndexMap Text Reset S) (pins : List ResetPin) → ShowsPins table pins → (c : Bool) (x : Text)
    → IsReset pins (cond c (pin_in table x) None) (cond c (find (λ (p : ResetPin). bytes_eq p.name x) pins) None)
named-reset table pins h true x = h x
named-reset table pins h false x = tt

module _ {S : Type 0} (table : IndexMap Text Reset S) (pins : List ResetPin) (shows : ShowsPins table pins) (k : Design) (d : u.Design) (h : ShowsDesign pins k d) (s : ℕ)
    (q : Option Reset) (told : (x : Entry) (y : Signal) → slice_get k.entries.items s ≡ Some x → slice_get k.signals.items s ≡ Some y → q ≡ cond (x.width == 1) (pin_in table y.name) None)
    (v : Vec Entry Global) (resolved : (t : ℕ) → slice_get v.items t ≡ option_map (resolved_if q (t == s)) (slice_get k.entries.items t)) where
  -- a signal that is there
  found : (x : Entry) → slice_get k.entries.items s ≡ Some x → ShowsDesign pins (record k { entries = v }) (record d { entries = change_entry (declared_reset pins) s d.entries })
  found x at =
      let b = entry-there pins k d h s x at in let a = b.0 in let r = pin_of pins a in
      let on : slice_get k.signals.items s ≡ Some (signal_of a) = ap (λ zs. slice_get zs s) h.signals ∙ slice_get-map signal_of d.entries s ∙ ap (option_map signal_of) b.1 in
      let one : (x.width == 1) ≡ (width_of a.range == 1) = ap (λ (z : Seen). z.width == 1) b.2 in
      let is : IsReset pins q r =
      subst (λ (z : Option Reset). IsReset pins z r) (sym (told x (signal_of a) at on ∙ ap (λ c. cond c (pin_in table a.printed) None) one)) (named-reset table pins shows (width_of a.range == 1) a.printed) in
      subst (λ (es : List n.Entry). ShowsDesign pins (record k { entries = v }) (record d { entries = es })) (same-change (λ (z : n.Entry). record z { reset = r }) (declared_reset pins) s d.entries a b.1 refl)
      (shows-reset pins k d q r s v h is (is-set (resolved_if q) (λ z. refl) s k.entries.items v.items x at resolved ∙ set-reset s q k.entries.items x at))

  pub declared-shown : ShowsDesign pins (record k { entries = v }) (record d { entries = change_entry (declared_reset d.pins) s d.entries })
  declared-shown = subst (λ (ps : List ResetPin). ShowsDesign pins (record k { entries = v }) (record d { entries = change_entry (declared_reset ps) s d.entries })) (sym h.declared) (go (slice_get k.entries.items s) refl)
    where
      go : (o : Option Entry) → slice_get k.entries.items s ≡ o → ShowsDesign pins (record k { entries = v }) (record d { entries = change_entry (declared_reset pins) s d.entries })
      go None e = unchanged-there pins k d h s (declared_reset pins) v e (is-same (resolved_if q) (λ z. refl) s k.entries.items v.items e resolved)
      go (Some x) e = found x e

-- each signal has an entry
pub entries-counted : (pins : List ResetPin) (k : Design) (d : u.Design) → ShowsDesign pins k d → length k.entries.items ≡ length d.entries
entries-counted pins k d h = sym (length-map k.entries.items seen) ∙ ap length h.entries ∙ length-map d.entries shown
