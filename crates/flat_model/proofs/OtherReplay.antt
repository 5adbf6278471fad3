-- Designs whose next values are the same in readings of state bits alone replay alike the records that name state bits alone.
use Rattle.std.proofs.Common.{◌≡◌, ◌∙◌, refl, sym, ap, ap₂, ℕ, suc, ◌<◌, Bool, true, false, cond, not, Option, Some, None, List, [], ◌∷◌}
use Rattle.std.specs.Bool.{beq}
use Rattle.std.specs.List.{AllByRecursion, find}
use Rattle.std.proofs.Math.Path.{fun_ext}
use Rattle.cdc_base.specs.declared.bit.Bit.{Bit}
use Rattle.cell_graph.specs.Reading.{Reading, bit_eq}
use Rattle.cdc_model.specs.declared.record.Given.{Given}
use Rattle.cdc_model.specs.declared.record.Race.{Race}
use Rattle.cdc_model.specs.declared.record.Record.{Record}
use Rattle.cdc_model.specs.declared.record.RecordStep.{RecordStep}
use Rattle.cdc_model.specs.Design.{Design, flipped}
use Rattle.cdc_model.specs.Replay.{StepFault, NotOther, first_fault, flips_of, given_to, has_bit, has_edge, input_fault, any_edge, NoEdge, next_value, on_fault, on_list, opened, or_else, other_fault, race_fault, race_of, replayed, replayed_from, step_fault, stepped, tick_fault, unless}
use Rattle.flat_model.proofs.PinnedSound.{ticking_clock}
use Rattle.cdc_model.specs.Runs.{State, Trace, Start, Then, is_in, now, ticks}

no_fault : (t : Bool) (f : StepFault) → unless t f ≡ None → t ≡ true
no_fault true f h = refl
no_fault false f h = cc

-- without a first fault there is none
none_first : {A : Type 0} (f : A → Option StepFault) (xs : List A) → first_fault f xs ≡ None → AllByRecursion (λ x. f x ≡ None) xs
none_first f [] h = tt
none_first f (x ∷ xs) h = go (f x) refl h (none_first f xs)
  where
    go : (o : Option StepFault) → f x ≡ o → or_else o (first_fault f xs) ≡ None → (first_fault f xs ≡ None → AllByRecursion (λ x. f x ≡ None) xs) → (f x ≡ None) × AllByRecursion (λ x. f x ≡ None) xs
    go None e h rest = (e, rest h)
    go (Some q) e h rest = cc

-- what comes behind matters only without a fault
behind : (o x y : Option StepFault) → (o ≡ None → x ≡ y) → or_else o x ≡ or_else o y
behind None x y h = h refl
behind (Some f) x y h = refl

-- ---- records that name bits of a set alone

module _ (holds : Bit → Bool) where
  -- each bit that flips is one of the set
  abbrev FlipsHeld : (Bit → Bool) → Type 0
  FlipsHeld flips = (b : Bit) → flips b ≡ true → holds b ≡ true

  -- no other bit is set
  abbrev pub IsQuiet : Reading → Type 0
  IsQuiet r = (b : Bit) → holds b ≡ false → r b ≡ false

  abbrev pub IsRaceHeld : Race → Type 0
  IsRaceHeld r = FlipsHeld (has_bit r.flip) × ((bs : List Bit) → r.other ≡ Some bs → FlipsHeld (has_bit bs))

  abbrev pub IsStepHeld : RecordStep → Type 0
  IsStepHeld k = AllByRecursion IsRaceHeld k.races

  flipped_quiet : (flips : Bit → Bool) (r : Reading) → FlipsHeld flips → IsQuiet r → IsQuiet (flipped flips r)
  flipped_quiet flips r h q b e = go (flips b) refl
    where
      never : true ≡ false → not (r b) ≡ false
      never e = cc

      go : (t : Bool) → flips b ≡ t → cond t (not (r b)) (r b) ≡ false
      go true f = never (sym (h b f) ∙ e)
      go false f = q b e

  race_held : (races : List Race) (x : Bit) → AllByRecursion IsRaceHeld races → FlipsHeld (flips_of (race_of races x))
  race_held [] x h b e = cc
  race_held (r ∷ rs) x h b e = go (bit_eq r.bit x) e (race_held rs x h.1 b)
    where
      go : (t : Bool) → flips_of (cond t (Some r) (race_of rs x)) b ≡ true → (flips_of (race_of rs x) b ≡ true → holds b ≡ true) → holds b ≡ true
      go true e rest = h.0.0 b e
      go false e rest = rest e

-- A design and next values that are its own in readings without another bit; bits of clocks lie in their signals, and others have no clock.
pub record IsAlike (d : Design) (holds : Bit → Bool) (next : Reading → Bit → Bool) : Type 0 where
  pub registers : (b : Bit) → d.is_register b ≡ true → b.at < d.width b.sig
  pub clocked : (b : Bit) (c : ℕ) → d.clock b ≡ Some c → b.at < d.width b.sig
  pub unclocked : (b : Bit) → holds b ≡ false → d.clock b ≡ None
  pub same : (r : Reading) (x : Bit) → IsQuiet holds r → x.at < d.width x.sig → next r x ≡ d.next r x

module _ (d : Design) (holds : Bit → Bool) (next : Reading → Bit → Bool) (alike : IsAlike d holds next) where
  abbrev pub other : Design
  other = record d { next = next }

  module _ (s : State) (quiet : IsQuiet holds s.values) (k : RecordStep) (held : IsStepHeld holds k) where
    value_same : (b : Bit) → next_value other s k b ≡ next_value d s k b
    value_same b = go (d.is_register b) refl
      where
        go : (v : Bool) → d.is_register b ≡ v → cond v (next (flipped (flips_of (race_of k.races b)) s.values) b) (cond (d.is_input b) (given_to k.inputs b (s.values b)) (s.values b))
            ≡ cond v (d.next (flipped (flips_of (race_of k.races b)) s.values) b) (cond (d.is_input b) (given_to k.inputs b (s.values b)) (s.values b))
        go true e = alike.same (flipped (flips_of (race_of k.races b)) s.values) b (flipped_quiet holds (flips_of (race_of k.races b)) s.values (race_held holds k.races b held) quiet) (alike.registers b e)
        go false e = refl

    stepped_same : stepped other s k ≡ stepped d s k
    stepped_same = ap (λ (values : Reading). record { values = values; left = (stepped d s k).left }) (fun_ext (λ b. ap (λ v. cond (ticks d (has_edge k.edges) b) v (s.values b)) (value_same b)))

    stepped_quiet : IsQuiet holds (stepped d s k).values
    stepped_quiet b e = ap (λ c. cond (is_in c (has_edge k.edges)) (next_value d s k b) (s.values b)) (alike.unclocked b e) ∙ quiet b e

    other_same : (t : Reading) (r : Race) → IsRaceHeld holds r → r.bit.at < d.width r.bit.sig → other_fault other s t r ≡ other_fault d s t r
    other_same t r h l = go r.other refl
      where
        go : (o : Option (List Bit)) → r.other ≡ o → on_list o (λ bs. unless (not (beq (next (flipped (has_bit bs) s.values) r.bit) (t r.bit))) (NotOther r.bit))
            ≡ on_list o (λ bs. unless (not (beq (d.next (flipped (has_bit bs) s.values) r.bit) (t r.bit))) (NotOther r.bit))
        go None e = refl
        go (Some bs) e = ap (λ v. unless (not (beq v (t r.bit))) (NotOther r.bit))
            (alike.same (flipped (has_bit bs) s.values) r.bit (flipped_quiet holds (has_bit bs) s.values (h.1 bs e) quiet) l)

    others_same : (t : Reading) (rs : List Race) → AllByRecursion (IsRaceHeld holds) rs → AllByRecursion (λ r. tick_fault d k r ≡ None) rs
        → first_fault (other_fault other s t) rs ≡ first_fault (other_fault d s t) rs
    others_same t [] a h = refl
    others_same t (r ∷ rs) a h = ap₂ or_else (other_same t r a.0 (let clock = ticking_clock d (has_edge k.edges) r.bit (no_fault _ _ h.0) in alike.clocked r.bit clock.0 clock.1)) (others_same t rs a.1 h.1)

    fault_same : step_fault other s k ≡ step_fault d s k
    fault_same =
        ap (λ (t : Reading). or_else (unless (any_edge k.edges) NoEdge) (or_else (first_fault (input_fault d k) k.inputs) (or_else (first_fault (tick_fault d k) k.races)
        (or_else (first_fault (race_fault d s t) k.races) (first_fault (other_fault other s t) k.races))))) (ap (λ (z : State). z.values) stepped_same)
        ∙ ap (or_else (unless (any_edge k.edges) NoEdge)) (ap (or_else (first_fault (input_fault d k) k.inputs))
        (behind (first_fault (tick_fault d k) k.races) _ _ (λ none. ap (or_else (first_fault (race_fault d s (stepped d s k).values) k.races))
        (others_same (stepped d s k).values k.races held (none_first (tick_fault d k) k.races none)))))

  replay_from : (n : ℕ) (run : Trace) → IsQuiet holds (now run).values → (ks : List RecordStep) → AllByRecursion (IsStepHeld holds) ks
      → replayed_from other n run ks ≡ replayed_from d n run ks
  replay_from n run quiet [] held = refl
  replay_from n run quiet (k ∷ ks) held =
      ap₂ (λ o more. on_fault o n more) (fault_same (now run) quiet k held.0)
      (ap (λ (s : State). replayed_from other (suc n) (Then run (has_edge k.edges) s) ks) (stepped_same (now run) quiet k held.0)
      ∙ replay_from (suc n) (Then run (has_edge k.edges) (stepped d (now run) k)) (stepped_quiet (now run) quiet k held.0) ks held.1)

  pub replay_held : (r : Record) → IsQuiet holds (opened d r.start).values → AllByRecursion (IsStepHeld holds) r.steps → replayed other r ≡ replayed d r
  replay_held r quiet held = replay_from 1 (Start (opened d r.start)) quiet r.steps held

-- ---- next values that are the same in every reading

abbrev all_bits : Bit → Bool
all_bits b = true

all_quiet : (r : Reading) → IsQuiet all_bits r
all_quiet r b e = cc

all_held : (ks : List RecordStep) → AllByRecursion (IsStepHeld all_bits) ks
all_held [] = tt
all_held (k ∷ ks) = (races k.races, all_held ks)
  where
    races : (rs : List Race) → AllByRecursion (IsRaceHeld all_bits) rs
    races [] = tt
    races (r ∷ rs) = ((λ b e. refl, λ bs e b k. refl), races rs)

pub replay_same : (d : Design) (next : Reading → Bit → Bool) → ((b : Bit) → d.is_register b ≡ true → b.at < d.width b.sig) → ((b : Bit) (c : ℕ) → d.clock b ≡ Some c → b.at < d.width b.sig)
    → ((r : Reading) (x : Bit) → x.at < d.width x.sig → next r x ≡ d.next r x) → (r : Record) → replayed (record d { next = next }) r ≡ replayed d r
replay_same d next registers clocked same r =
    replay_held d all_bits next (record { registers = registers; clocked = clocked; unclocked = λ b e. cc; same = λ q x h. same q x }) r
    (all_quiet (opened d r.start).values) (all_held r.steps)
