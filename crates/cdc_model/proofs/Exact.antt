-- A record's step is refused exactly where it asks for what isn't met.
use Rattle.std.proofs.Common.{◌≡◌, ◌≢◌, suc, nat_lt, Bool, true, false, cond, not, ◌&&◌, ◌==◌, Option, Some, None, List, [], ◌∷◌, Contains, refl, ap, ap₂, subst, arith, eqb-true}
use Rattle.std.specs.Bool.{beq}
use Rattle.std.proofs.lemmas.Bool.{false_from_ne_true, and_parts, and_from, or_left, or_right, lt-ltb}
use Rattle.std.proofs.lemmas.List.Folds.{Any-from_list_any, list_any-from_Any}
use Rattle.cdc_base.specs.declared.bit.Bit.{Bit}
use Rattle.cell_graph.specs.Reading.{bit_eq, Reading}
use Rattle.cell_graph.proofs.Bits.{bit_eq-true, bit_eq-refl}
use Rattle.cdc_model.specs.Design.{Design, are_async, are_equal, at_bit, flipped}
use Rattle.cdc_model.specs.Runs.{State, ticks, IsLoose, Changes, Unsettled, AreLoose}
use Rattle.cdc_model.specs.declared.record.Race.{Race}
use Rattle.cdc_model.specs.declared.record.RecordStep.{RecordStep}
use Rattle.cdc_model.specs.Replay.{has_bit, has_edge, stepped, is_settling_for, is_loose, StepFault, NoEdge, Unticked, NotLoose, NotOther, or_else, first_fault, unless, any_edge, input_fault, tick_fault, loose_fault, on_list, race_fault, other_fault, step_fault, IsFixedStep}
use Rattle.cdc_model.proofs.Chain.{equal_eq}
use Rattle.cdc_model.proofs.Loads.{each_of}
use Rattle.cdc_model.proofs.Replay.{no_fault, passed, none_first, beq_differ, loose_of_test}

-- ---- lists

each_passed : {A : Type 0} (f : A → Option StepFault) (xs : List A) → first_fault f xs ≡ None → (x : A) → Contains xs x → f x ≡ None
each_passed f xs h x i = each_of (λ x. f x ≡ None) xs (none_first f xs h) x i

in_tail : {A : Type 0} (y : A) (xs : List A) (x : A) → Contains xs x → Contains (y ∷ xs) x
in_tail y xs x i = (suc i.0, omega (arith, i.1), i.2)

none_each : {A : Type 0} (f : A → Option StepFault) (xs : List A) → ((x : A) → Contains xs x → f x ≡ None) → first_fault f xs ≡ None
none_each f [] h = refl
none_each f (x ∷ xs) h = ap₂ or_else (h x (0, omega arith, refl)) (none_each f xs (λ y i. h y (in_tail x xs y i)))

passes : (t : Bool) (f : StepFault) → t ≡ true → unless t f ≡ None
passes t f e = ap (λ v. cond v None (Some f)) e

has_in : (bs : List Bit) (b : Bit) → Contains bs b → has_bit bs b ≡ true
has_in bs b i = list_any-from_Any (λ a. bit_eq a b) bs (i.0, b, i.1, i.2, bit_eq-refl b)

in_has : (bs : List Bit) (b : Bit) → has_bit bs b ≡ true → Contains bs b
in_has bs b h =
    let (n, a, lt, at, p) = Any-from_list_any (λ a. bit_eq a b) bs h in
    subst (Contains bs) (bit_eq-true a b p) (n, lt, at)

-- ---- what is loose

differ_beq : (u v : Bool) → u ≢ v → not (beq u v) ≡ true
differ_beq true true h = absurd (h refl)
differ_beq true false h = refl
differ_beq false true h = refl
differ_beq false false h = absurd (h refl)

test_of_loose : (d : Design) (s : State) (t : Reading) (x b : Bit) → IsLoose d s t x b → is_loose d s t x b ≡ true
test_of_loose d s t x b (Changes async ne) = or_left (are_async d b x && not (beq (s.values b) (t b))) (nat_lt 0 (s.left b) && not (is_settling_for d s x b))
    (and_from (are_async d b x) (not (beq (s.values b) (t b))) async (differ_beq (s.values b) (t b) ne))
test_of_loose d s t x b (Unsettled u free) = or_right (are_async d b x && not (beq (s.values b) (t b))) (nat_lt 0 (s.left b) && not (is_settling_for d s x b))
    (and_from (nat_lt 0 (s.left b)) (not (is_settling_for d s x b)) (lt-ltb 0 (s.left b) (omega arith))
    (ap not (false_from_ne_true (is_settling_for d s x b) (λ h. settles h))))
  where
    copies : (o : Option Bit) → at_bit o (λ a. bit_eq a b) ≡ true → o ≡ Some b
    copies None h = cc
    copies (Some a) h = ap Some (bit_eq-true a b h)

    settles : is_settling_for d s x b ≡ true → ⊥
    settles h =
        let p = and_parts (are_equal (d.clock b) (d.clock x)) (at_bit (d.copied x) (λ a. bit_eq a b) && (s.left b == 1)) h in
        let q = and_parts (at_bit (d.copied x) (λ a. bit_eq a b)) (s.left b == 1) p.1 in
        free (equal_eq (d.clock b) (d.clock x) p.0) (copies (d.copied x) q.0) (eqb-true (s.left b) 1 q.1)

module _ (d : Design) (s : State) (k : RecordStep) where
  list_passes : (x : Bit) (bs : List Bit) → AreLoose d s (stepped d s k).values x (has_bit bs) → loose_fault d s (stepped d s k).values x bs ≡ None
  list_passes x bs loose = none_each (λ b. unless (is_loose d s (stepped d s k).values x b) (NotLoose x b)) bs
      (λ b i. passes (is_loose d s (stepped d s k).values x b) (NotLoose x b) (test_of_loose d s (stepped d s k).values x b (loose b (has_in bs b i))))

  passes_list : (x : Bit) (bs : List Bit) → ticks d (has_edge k.edges) x ≡ true → loose_fault d s (stepped d s k).values x bs ≡ None → AreLoose d s (stepped d s k).values x (has_bit bs)
  passes_list x bs ticking h b e = loose_of_test d (has_edge k.edges) s (stepped d s k).values x b ticking
      (passed (is_loose d s (stepped d s k).values x b) (NotLoose x b) (each_passed (λ b. unless (is_loose d s (stepped d s k).values x b) (NotLoose x b)) bs h b (in_has bs b e)))

  -- whether the value with the list flipped is another one
  abbrev others_differ : Race → List Bit → Bool
  others_differ r bs = not (beq (d.next (flipped (has_bit bs) s.values) r.bit) ((stepped d s k).values r.bit))

  pub fixed_passes : IsFixedStep d s k → step_fault d s k ≡ None
  fixed_passes f = ap₂ or_else (passes (any_edge k.edges) NoEdge f.edge)
      (ap₂ or_else (none_each (input_fault d k) k.inputs (λ g i. passes (ticks d (has_edge k.edges) (record { sig = g.sig; at = 0 })) (Unticked (record { sig = g.sig; at = 0 })) (f.inputs_tick g i)))
      (ap₂ or_else (none_each (tick_fault d k) k.races (λ r i. passes (ticks d (has_edge k.edges) r.bit) (Unticked r.bit) (f.races_tick r i)))
      (ap₂ or_else (none_each (race_fault d s (stepped d s k).values) k.races (λ r i. ap₂ or_else (list_passes r.bit r.flip (f.flips r i)) (loose_other r i r.other refl)))
      (none_each (other_fault d s (stepped d s k).values) k.races (λ r i. differ_other r i r.other refl)))))
    where
      loose_other : (r : Race) → Contains k.races r → (o : Option (List Bit)) → r.other ≡ o → on_list o (λ bs. loose_fault d s (stepped d s k).values r.bit bs) ≡ None
      loose_other r i None e = refl
      loose_other r i (Some bs) e = list_passes r.bit bs (f.others r bs i e).0

      differ_other : (r : Race) → Contains k.races r → (o : Option (List Bit)) → r.other ≡ o → on_list o (λ bs. unless (others_differ r bs) (NotOther r.bit)) ≡ None
      differ_other r i None e = refl
      differ_other r i (Some bs) e = passes (others_differ r bs) (NotOther r.bit)
          (differ_beq (d.next (flipped (has_bit bs) s.values) r.bit) ((stepped d s k).values r.bit) (f.others r bs i e).1)

  pub passes_fixed : step_fault d s k ≡ None → IsFixedStep d s k
  passes_fixed ok = record {
    edge = passed (any_edge k.edges) NoEdge f1.0;
    inputs_tick = λ g i. passed (ticks d (has_edge k.edges) (record { sig = g.sig; at = 0 })) (Unticked (record { sig = g.sig; at = 0 })) (each_passed (input_fault d k) k.inputs f2.0 g i);
    races_tick = ticking;
    flips = λ r i. passes_list r.bit r.flip (ticking r i) (race_none r i).0;
    others = λ r bs i e. (
      passes_list r.bit bs (ticking r i) (subst (λ (o : Option (List Bit)). on_list o (λ bs. loose_fault d s (stepped d s k).values r.bit bs) ≡ None) e (race_none r i).1),
      beq_differ (d.next (flipped (has_bit bs) s.values) r.bit) ((stepped d s k).values r.bit) (passed (others_differ r bs) (NotOther r.bit)
          (subst (λ (o : Option (List Bit)). on_list o (λ bs. unless (others_differ r bs) (NotOther r.bit)) ≡ None) e (each_passed (other_fault d s (stepped d s k).values) k.races f4.1 r i))),
    );
  }
    where
      f1 : (unless (any_edge k.edges) NoEdge ≡ None) × (or_else (first_fault (input_fault d k) k.inputs) (or_else (first_fault (tick_fault d k) k.races)
          (or_else (first_fault (race_fault d s (stepped d s k).values) k.races) (first_fault (other_fault d s (stepped d s k).values) k.races))) ≡ None)
      f1 = no_fault (unless (any_edge k.edges) NoEdge) (or_else (first_fault (input_fault d k) k.inputs) (or_else (first_fault (tick_fault d k) k.races)
          (or_else (first_fault (race_fault d s (stepped d s k).values) k.races) (first_fault (other_fault d s (stepped d s k).values) k.races)))) ok

      f2 : (first_fault (input_fault d k) k.inputs ≡ None) × (or_else (first_fault (tick_fault d k) k.races)
          (or_else (first_fault (race_fault d s (stepped d s k).values) k.races) (first_fault (other_fault d s (stepped d s k).values) k.races)) ≡ None)
      f2 = no_fault (first_fault (input_fault d k) k.inputs) (or_else (first_fault (tick_fault d k) k.races)
          (or_else (first_fault (race_fault d s (stepped d s k).values) k.races) (first_fault (other_fault d s (stepped d s k).values) k.races))) f1.1

      f3 : (first_fault (tick_fault d k) k.races ≡ None)
          × (or_else (first_fault (race_fault d s (stepped d s k).values) k.races) (first_fault (other_fault d s (stepped d s k).values) k.races) ≡ None)
      f3 = no_fault (first_fault (tick_fault d k) k.races)
          (or_else (first_fault (race_fault d s (stepped d s k).values) k.races) (first_fault (other_fault d s (stepped d s k).values) k.races)) f2.1

      f4 : (first_fault (race_fault d s (stepped d s k).values) k.races ≡ None) × (first_fault (other_fault d s (stepped d s k).values) k.races ≡ None)
      f4 = no_fault (first_fault (race_fault d s (stepped d s k).values) k.races) (first_fault (other_fault d s (stepped d s k).values) k.races) f3.1

      ticking : (r : Race) → Contains k.races r → ticks d (has_edge k.edges) r.bit ≡ true
      ticking r i = passed (ticks d (has_edge k.edges) r.bit) (Unticked r.bit) (each_passed (tick_fault d k) k.races f3.0 r i)

      race_none : (r : Race) → Contains k.races r → (loose_fault d s (stepped d s k).values r.bit r.flip ≡ None) × (on_list r.other (λ bs. loose_fault d s (stepped d s k).values r.bit bs) ≡ None)
      race_none r i = no_fault (loose_fault d s (stepped d s k).values r.bit r.flip) (on_list r.other (λ bs. loose_fault d s (stepped d s k).values r.bit bs))
          (each_passed (race_fault d s (stepped d s k).values) k.races f4.0 r i)
