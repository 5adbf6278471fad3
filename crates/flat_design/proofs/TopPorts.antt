-- The ports of the top, each in turn.
use Rattle.std.proofs.Common.{◌≡◌, ℕ, ◌<◌, true, false, List, [], ◌∷◌, ◌++◌, length, Option, Some, None, refl, sym, ap, subst, ◌∙◌, rules, Vec, Global}
use Rattle.std.specs.Prelude.{Result, Ok, Err, IfOk, option_map, slice_get}
use Rattle.std.specs.Option.{option_map_or}
use Rattle.std.proofs.lemmas.Option.{slice_get-map}
use denote.Enum.Bare.{sameb}
use Rattle.cdc_base.specs.declared.signal.ResetPin.{ResetPin}
use Rattle.flat_unfolding.specs.Outcome.{Text}
use Rattle.flat_unfolding.specs.Names as n
use Rattle.flat_unfolding.specs.Names.{Meaning, a_param, a_signal, a_memory, no_value, meaning_in, Direction, inner, inward, outward, direction_at}
use Rattle.flat_unfolding.specs.Targets.{is_input}
use Rattle.flat_unfolding.specs.Design as u
use Rattle.flat_unfolding.specs.Design.{Stage, with_design, change_entry}
use Rattle.flat_unfolding.specs.Signals.{from_outside}
use Rattle.flat_unfolding.specs.Unfolding.{directed_port, top_port, top_ports}
use Rattle.flat_unfolding.proofs.Steps.{some_is}
use Rattle.flat_names.specs.declared.design.Design.{Design}
use Rattle.flat_names.specs.declared.design.Entry.{Entry}
use Rattle.flat_names.specs.declared.design.Role.{Role}
use Rattle.flat_names.specs.declared.design.Role.TheVariants as roles
use Rattle.flat_names.specs.contracts.design.Role.{the_type}
use Rattle.flat_names.specs.Looks.{Seen, seen, shown, direction_of}
use Rattle.flat_names.specs.Designs.{ShowsDesign, ShowsStage}
use Rattle.flat_design.specs.Visiting.{if_signal, AreFitNames, Table}
use Rattle.flat_design.proofs.Fits.{port-length}

pub shows-output : (pins : List ResetPin) (k : Design) (d : u.Design) (s : ℕ) (v : Vec ℕ Global) → ShowsDesign pins k d → v.items ≡ k.outputs.items ++ s ∷ []
    → ShowsDesign pins (record k { outputs = v }) (record d { outputs = d.outputs ++ (s ∷ []) })
shows-output pins k d s v h e = record {
  declared = h.declared;
  entries = h.entries;
  may_repeat = h.may_repeat;
  signals = h.signals;
  resets = h.resets;
  assigns = h.assigns;
  combs = h.combs;
  clocked = h.clocked;
  outputs = e ∙ ap (λ xs. xs ++ s ∷ []) h.outputs;
  starts = h.starts;
  givens = h.givens;
  process_resets = h.process_resets;
  late = h.late;
  sizes = record { assigns = h.sizes.assigns; combs = h.sizes.combs; clocked = h.sizes.clocked };
}

-- a port by its direction
pub in-port : (d : u.Design) (s : ℕ) (side : Direction) → is_input side ≡ true → directed_port d s side ≡ record d { entries = change_entry from_outside s d.entries }
in-port d s inward e = refl
in-port d s inner e = absurd (search (rules, e))
in-port d s outward e = absurd (search (rules, e))

pub out-port : (d : u.Design) (s : ℕ) (side : Direction) → is_input side ≡ false → directed_port d s side ≡ record d { outputs = d.outputs ++ (s ∷ []) }
out-port d s inward e = absurd (search (rules, e))
out-port d s inner e = refl
out-port d s outward e = refl

-- a port by what its name stands for
pub signal-port : (m : Option Meaning) (s : ℕ) → if_signal m ≡ Some s → m ≡ Some (a_signal s)
signal-port None s e = absurd (search (rules, e))
signal-port (Some (a_param q)) s e = absurd (search (rules, e))
signal-port (Some (a_signal t)) s e = ap (λ i. Some (a_signal i)) (some_is t s e)
signal-port (Some (a_memory a)) s e = absurd (search (rules, e))
signal-port (Some no_value) s e = absurd (search (rules, e))

no-port : (d : u.Design) (m : Option Meaning) → if_signal m ≡ None → top_port d m ≡ d
no-port d None e = refl
no-port d (Some (a_param q)) e = refl
no-port d (Some (a_signal t)) e = absurd (search (rules, e))
no-port d (Some (a_memory a)) e = refl
no-port d (Some no_value) e = refl

module _ (pins : List ResetPin) (table : Table) (old new : Design) (x : Text) (xs : List Text) (t : Stage) (h : ShowsStage pins table old t) (fit : AreFitNames t.names (length t.design.entries)) where
  -- what is left of the ports once the first is done
  abbrev pub IsPortDone : Type 0
  IsPortDone = (u : Stage) × (top_ports (x ∷ xs) t ≡ top_ports xs u) × ShowsStage pins table new u × AreFitNames u.names (length u.design.entries)

  done : ShowsDesign pins new (top_port t.design (meaning_in t.names x)) → IsPortDone
  done k =
      let m = meaning_in t.names x in
      (with_design t (top_port t.design m), refl, record { names = h.names; design = k }, subst (AreFitNames t.names) (sym (port-length t.design m)) fit)

  pub port-done : (s : ℕ) → Some s ≡ if_signal (meaning_in t.names x) → ShowsDesign pins new (top_port t.design (Some (a_signal s))) → IsPortDone
  port-done s e k =
      let m = signal-port (meaning_in t.names x) s (sym e) in
      done (subst (λ (v : Option Meaning). ShowsDesign pins new (top_port t.design v)) (sym m) k)

  pub port-passed : None ≡ if_signal (meaning_in t.names x) → new ≡ old → IsPortDone
  port-passed e same = done (subst (ShowsDesign pins new) (sym (no-port t.design (meaning_in t.names x) (sym e))) (subst (λ (k : Design). ShowsDesign pins k t.design) (sym same) h.design))

-- ---- directions

pub role-input : (r : Role) → sameb the_type r roles.Input ≡ is_input (direction_of r)
role-input roles.Inner = refl
role-input roles.Input = refl
role-input roles.Output = refl

module _ (pins : List ResetPin) (k : Design) (d : u.Design) (h : ShowsDesign pins k d) (s : ℕ) where
  pub side-is : (x : Entry) → Some x ≡ slice_get k.entries.items s → is_input (direction_of x.role) ≡ is_input (direction_at d.entries s)
  side-is x at = ap is_input (go (slice_get d.entries s) (ap (option_map seen) at ∙ sym (slice_get-map seen k.entries.items s) ∙ ap (λ zs. slice_get zs s) h.entries ∙ slice_get-map shown d.entries s))
    where
      go : (o : Option n.Entry) → Some (seen x) ≡ option_map shown o → direction_of x.role ≡ option_map_or (λ (e : n.Entry). e.direction) o inner
      go None e = absurd (search (rules, e))
      go (Some a) e = ap (λ (z : Seen). z.direction) (some_is (seen x) (shown a) e)

  pub side-none : None ≡ slice_get k.entries.items s → false ≡ is_input (direction_at d.entries s)
  side-none at = go (slice_get d.entries s) (ap (option_map seen) at ∙ sym (slice_get-map seen k.entries.items s) ∙ ap (λ zs. slice_get zs s) h.entries ∙ slice_get-map shown d.entries s)
    where
      go : (o : Option n.Entry) → None ≡ option_map shown o → false ≡ is_input (option_map_or (λ (e : n.Entry). e.direction) o inner)
      go None e = refl
      go (Some a) e = absurd (search (rules, e))

pub ok-if : {A B : Type 0} {P Q : Type 0} (r : Result A B) → (P → Q) → IfOk r (λ _. P) → IfOk r (λ _. Q)
ok-if (Ok a) f h = f h
ok-if (Err b) f h = tt
