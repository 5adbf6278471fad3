-- What is refused behind all items.
use Rattle.std.proofs.Common.{◌≡◌, List, Option, Some, None, Result, Ok, Err, refl, sym, ap, subst, ◌∙◌, rules}
use Rattle.cdc_base.specs.declared.fault.Place.{Place}
use Rattle.cdc_base.specs.declared.fault.Stop.{Stop}
use Rattle.cdc_base.specs.declared.fault.Stop.TheVariants.{Refused, Memory}
use Rattle.cdc_base.specs.declared.signal.ResetPin.{ResetPin}
use Rattle.flat_meaning.specs.Design.{Flat}
use Rattle.flat_unfolding.specs.Outcome.{Text, Broken, Outcome, good, bad, then_, fault_of}
use Rattle.flat_unfolding.specs.Design as u
use Rattle.flat_unfolding.specs.Signals.{with_free, with_constants, flat_design}
use Rattle.flat_unfolding.specs.Unfolding as law
use Rattle.flat_unfolding.specs.Unfolding.{IsUnfolding}
use Rattle.flat_names.specs.declared.design.Design.{Design}
use Rattle.flat_names.specs.declared.design.Late.{Late}
use Rattle.flat_names.specs.Noting.{Raises}
use Rattle.flat_names.specs.Designs.{ShowsDesign, raised, late_of, Ends}

module _ (pins : List ResetPin) (k : Design) (d : u.Design) (h : ShowsDesign pins k d) where
  abbrev taken : Design
  taken = record k { late = None }

  shows-taken : d.late ≡ good tt → ShowsDesign pins taken d
  shows-taken e = record {
    declared = h.declared;
    entries = h.entries;
    may_repeat = h.may_repeat;
    signals = h.signals;
    resets = h.resets;
    assigns = h.assigns;
    combs = h.combs;
    clocked = h.clocked;
    process_resets = h.process_resets;
    outputs = h.outputs;
    starts = h.starts;
    givens = h.givens;
    late = sym e;
    sizes = record { assigns = h.sizes.assigns; combs = h.sizes.combs; clocked = h.sizes.clocked };
  }

  -- no process, or one of which no rule counts
  passed : d.late ≡ good tt → Ends (λ (v : Unit {0}). ShowsDesign pins taken d) d.late (Ok tt)
  passed e = (tt, e, shows-taken e)

  pub none-late : k.late ≡ None → Ends (λ (v : Unit {0}). ShowsDesign pins taken d) d.late (Ok tt)
  none-late e = passed (sym h.late ∙ ap late_of e)

  pub some-late : (l : Late) (r : Result (Unit {0}) Stop) → k.late ≡ Some l → Raises l.faults.found l.place r → Ends (λ (v : Unit {0}). ShowsDesign pins taken d) d.late r
  some-late l r e g = go l.faults.found r (sym h.late ∙ ap late_of e) g
    where
      go : (found : Option Broken) (r : Result (Unit {0}) Stop) → d.late ≡ raised l.place found → Raises found l.place r → Ends (λ (v : Unit {0}). ShowsDesign pins taken d) d.late r
      go None r p q = subst (Ends (λ (v : Unit {0}). ShowsDesign pins taken d) d.late) (sym q) (passed p)
      go (Some b) r p q = subst (Ends (λ (v : Unit {0}). ShowsDesign pins taken d) d.late) (sym q) p

-- ---- for the unfolding

module _ (named : List Text) (d : u.Design) where
  abbrev behind : Unit {0} → Outcome Flat
  behind v = law.checked (flat_design (with_constants (with_free named d))) d.resets

  pub late-refused : (e : Stop) (P : Unit {0} → Type 0) → Ends P d.late (Err e) → IsUnfolding (law.finished named d) (Err e)
  late-refused (Refused f) P h = ap (λ o. then_ o behind) h
  late-refused Memory P h = tt

  pub late-passed : (v : Unit {0}) → d.late ≡ good v → law.finished named d ≡ law.checked (flat_design (with_constants (with_free named d))) d.resets
  late-passed v h = ap (λ o. then_ o behind) h
