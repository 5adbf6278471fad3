-- Every run has a record.
use Rattle.std.proofs.Common.{◌≡◌, ◌≢◌, ℕ, zero, suc, ◌+◌, ◌*◌, ◌^◌, ◌/◌, ◌%◌, ◌<◌, ◌≤◌, Bool, true, false, cond, not, ◌||◌, ◌==◌, Option, Some, None, is_some, List, [], ◌∷◌, ◌++◌, Contains, ◌⊎◌, inl, inr, refl, sym, ap, ap₂, subst, ◌∙◌, arith, eqb-true, pow-suc}
use Rattle.std.proofs.Math.Nat.{div-one, div-div-eq-div-mul, mul_comm}
use Rattle.std.proofs.lemmas.Nat.{div-mul-add, mod-mul-add}
use Rattle.std.proofs.lemmas.Bool.{both_ways, false_from_ne_true, eqb-false, or_left, or_right}
use Rattle.cdc_base.specs.declared.bit.Bit.{Bit}
use Rattle.cell_graph.specs.Reading.{bit_eq}
use Rattle.cell_graph.proofs.Bits.{bit_eq-true, eq-bit_eq}
use Rattle.cdc_model.specs.Design.{Design, flipped}
use Rattle.cdc_model.specs.Runs.{State, Trace, Start, Then, now, is_in, ticks, IsLoose, Changes, Unsettled, AreLoose, left_by, IsStep, IsRun}
use Rattle.cdc_model.specs.Schemes.{Trees, AreTrees}
use Rattle.cdc_model.specs.declared.record.Given.{Given}
use Rattle.cdc_model.specs.declared.record.Race.{Race}
use Rattle.cdc_model.specs.declared.record.RecordStep.{RecordStep}
use Rattle.cdc_model.specs.Replay.{has_bit, has_edge, given_to, opened, race_of, flips_of, other_of, next_value, next_left, stepped, StepFault, any_edge, step_fault, Ran, Refused, on_fault, replayed_from, replayed, IsFixedStep}
use Rattle.cdc_model.proofs.Exact.{fixed_passes}
use Rattle.cdc_model.specs.Recorded.{IsFinite, AreSame, AreSameRuns, first_state}

-- ---- numbers and lists

abbrev pub encode : (ℕ → Bool) → ℕ → ℕ
encode f zero = 0
encode f (suc w) = encode (λ i. f (suc i)) w * 2 + cond (f 0) 1 0

small : (v : Bool) → cond v 1 0 < 2
small true = omega arith
small false = omega arith

decode : (f : ℕ → Bool) (w i : ℕ) → i < w → ((encode f w / 2 ^ i) % 2 == 1) ≡ f i
decode f zero i l = absurd (omega arith)
decode f (suc w) zero l =
    ap (λ n. n % 2 == 1) (div-one (encode (λ i. f (suc i)) w * 2 + cond (f 0) 1 0))
    ∙ ap (λ n. n == 1) (mod-mul-add (encode (λ i. f (suc i)) w) 2 (cond (f 0) 1 0) (small (f 0))) ∙ is (f 0)
  where
    is : (v : Bool) → (cond v 1 0 == 1) ≡ v
    is true = refl
    is false = refl
decode f (suc w) (suc i) l =
    ap (λ n. ((encode (λ i. f (suc i)) w * 2 + cond (f 0) 1 0) / n) % 2 == 1) (pow-suc 2 i ∙ mul_comm (2 ^ i) 2)
    ∙ ap (λ n. n % 2 == 1) (sym (div-div-eq-div-mul (encode (λ i. f (suc i)) w * 2 + cond (f 0) 1 0) 2 (2 ^ i)))
    ∙ ap (λ n. (n / 2 ^ i) % 2 == 1) (div-mul-add (encode (λ i. f (suc i)) w) 2 (cond (f 0) 1 0) (small (f 0)))
    ∙ decode (λ i. f (suc i)) w i (omega arith)

in_rest : {A : Type 0} (y : A) (ys : List A) (x : A) → y ≢ x → Contains (y ∷ ys) x → Contains ys x
in_rest y ys x ne (zero, l, e) = absurd (ne e)
in_rest y ys x ne (suc k, l, e) = (k, omega arith, e)

in_parts : {A : Type 0} (y : A) (ys : List A) (x : A) → Contains (y ∷ ys) x → (y ≡ x) ⊎ Contains ys x
in_parts y ys x (zero, l, e) = inl e
in_parts y ys x (suc k, l, e) = inr (k, omega arith, e)

abbrev pub kept : (Bit → Bool) → List Bit → List Bit
kept f [] = []
kept f (b ∷ bs) = cond (f b) (b ∷ kept f bs) (kept f bs)

kept_only : (f : Bit → Bool) (bs : List Bit) (b : Bit) → has_bit (kept f bs) b ≡ true → f b ≡ true
kept_only f [] b h = cc
kept_only f (a ∷ bs) b h = go (f a) refl h (kept_only f bs b)
  where
    two : (w : Bool) → bit_eq a b ≡ w → f a ≡ true → (w || has_bit (kept f bs) b) ≡ true → (has_bit (kept f bs) b ≡ true → f b ≡ true) → f b ≡ true
    two true e k h ih = ap f (sym (bit_eq-true a b e)) ∙ k
    two false e k h ih = ih h

    go : (v : Bool) → f a ≡ v → has_bit (cond v (a ∷ kept f bs) (kept f bs)) b ≡ true → (has_bit (kept f bs) b ≡ true → f b ≡ true) → f b ≡ true
    go true k h ih = two (bit_eq a b) refl k h ih
    go false k h ih = ih h

kept_all : (f : Bit → Bool) (bs : List Bit) (b : Bit) → Contains bs b → f b ≡ true → has_bit (kept f bs) b ≡ true
kept_all f [] b i h = absurd (omega (arith, i.1))
kept_all f (a ∷ bs) b i h = go (f a) refl (in_parts a bs b i) (λ j. kept_all f bs b j h)
  where
    go : (v : Bool) → f a ≡ v → (a ≡ b) ⊎ Contains bs b → (Contains bs b → has_bit (kept f bs) b ≡ true) → has_bit (cond v (a ∷ kept f bs) (kept f bs)) b ≡ true
    go true k (inl e) ih = or_left (bit_eq a b) (has_bit (kept f bs) b) (eq-bit_eq a b e)
    go true k (inr j) ih = or_right (bit_eq a b) (has_bit (kept f bs) b) (ih j)
    go false k (inl e) ih = absurd (both_ways (f a) k (ap f e ∙ h))
    go false k (inr j) ih = ih j

kept_is : (f : Bit → Bool) (bs : List Bit) (b : Bit) → Contains bs b → has_bit (kept f bs) b ≡ f b
kept_is f bs b i = go (f b) refl
  where
    go : (v : Bool) → f b ≡ v → has_bit (kept f bs) b ≡ f b
    go true e = kept_all f bs b i e ∙ sym e
    go false e = false_from_ne_true (has_bit (kept f bs) b) (λ h. both_ways (f b) e (kept_only f bs b h)) ∙ sym e

-- ---- clocks

abbrev pub clock_list : (ℕ → Bool) → ℕ → List ℕ
clock_list edges zero = []
clock_list edges (suc n) = cond (edges n) (n ∷ clock_list edges n) (clock_list edges n)

clock_below : (edges : ℕ → Bool) (n c : ℕ) → has_edge (clock_list edges n) c ≡ true → c < n
clock_below edges zero c h = cc
clock_below edges (suc n) c h = go (edges n) h (clock_below edges n c)
  where
    two : (w : Bool) → (n == c) ≡ w → (w || has_edge (clock_list edges n) c) ≡ true → (has_edge (clock_list edges n) c ≡ true → c < n) → c < suc n
    two true e h ih = omega (arith, eqb-true n c e)
    two false e h ih = let l = ih h in omega arith

    go : (v : Bool) → has_edge (cond v (n ∷ clock_list edges n) (clock_list edges n)) c ≡ true → (has_edge (clock_list edges n) c ≡ true → c < n) → c < suc n
    go true h ih = two (n == c) refl h ih
    go false h ih = let l = ih h in omega arith

clock_is : (edges : ℕ → Bool) (n c : ℕ) → c < n → has_edge (clock_list edges n) c ≡ edges c
clock_is edges zero c l = absurd (omega arith)
clock_is edges (suc n) c l = go (edges n) refl (n == c) refl (clock_is edges n c)
  where
    go : (v : Bool) → edges n ≡ v → (w : Bool) → (n == c) ≡ w → (c < n → has_edge (clock_list edges n) c ≡ edges c) → has_edge (cond v (n ∷ clock_list edges n) (clock_list edges n)) c ≡ edges c
    go true k true e ih = ap (λ w. w || has_edge (clock_list edges n) c) e ∙ sym (ap edges (sym (eqb-true n c e)) ∙ k)
    go true k false e ih = ap (λ w. w || has_edge (clock_list edges n) c) e ∙ ih (omega (arith, eqb-false n c e))
    go false k true e ih =
        let m : n ≡ c = eqb-true n c e in
        false_from_ne_true (has_edge (clock_list edges n) c) (λ h. let q = clock_below edges n c h in omega arith) ∙ sym (ap edges (sym m) ∙ k)
    go false k false e ih = ih (omega (arith, eqb-false n c e))

some_edge : (es : List ℕ) (c : ℕ) → has_edge es c ≡ true → any_edge es ≡ true
some_edge [] c h = cc
some_edge (e ∷ es) c h = refl

-- ---- inputs

abbrev pub given_list : (ℕ → Bool) → (ℕ → ℕ) → List ℕ → List Given
given_list test value [] = []
given_list test value (n ∷ ns) = cond (test n) (record { sig = n; value = value n } ∷ given_list test value ns) (given_list test value ns)

given_is : (test : ℕ → Bool) (value : ℕ → ℕ) (ns : List ℕ) (b : Bit) (v : Bool) → Contains ns b.sig → test b.sig ≡ true
    → given_to (given_list test value ns) b v ≡ ((value b.sig / 2 ^ b.at) % 2 == 1)
given_is test value [] b v i t = absurd (omega (arith, i.1))
given_is test value (n ∷ ns) b v i t = go (test n) refl (n == b.sig) refl (λ j. given_is test value ns b v j t)
  where
    go : (u : Bool) → test n ≡ u → (w : Bool) → (n == b.sig) ≡ w → (Contains ns b.sig → given_to (given_list test value ns) b v ≡ ((value b.sig / 2 ^ b.at) % 2 == 1))
        → given_to (cond u (record { sig = n; value = value n } ∷ given_list test value ns) (given_list test value ns)) b v ≡ ((value b.sig / 2 ^ b.at) % 2 == 1)
    go true k true e ih = ap (λ w. cond w ((value n / 2 ^ b.at) % 2 == 1) (given_to (given_list test value ns) b v)) e ∙ ap (λ m. (value m / 2 ^ b.at) % 2 == 1) (eqb-true n b.sig e)
    go true k false e ih = ap (λ w. cond w ((value n / 2 ^ b.at) % 2 == 1) (given_to (given_list test value ns) b v)) e ∙ ih (in_rest n ns b.sig (eqb-false n b.sig e) i)
    go false k true e ih = absurd (both_ways (test n) k (ap test (eqb-true n b.sig e) ∙ t))
    go false k false e ih = ih (in_rest n ns b.sig (eqb-false n b.sig e) i)

given_tested : (test : ℕ → Bool) (value : ℕ → ℕ) (ns : List ℕ) (g : Given) → Contains (given_list test value ns) g → test g.sig ≡ true
given_tested test value [] g i = absurd (omega (arith, i.1))
given_tested test value (n ∷ ns) g i = go (test n) refl i (given_tested test value ns g)
  where
    go : (u : Bool) → test n ≡ u → Contains (cond u (record { sig = n; value = value n } ∷ given_list test value ns) (given_list test value ns)) g
        → (Contains (given_list test value ns) g → test g.sig ≡ true) → test g.sig ≡ true
    go true k i ih = elim (in_parts (record { sig = n; value = value n }) (given_list test value ns) g i) [ inl e ↦ ap (λ (x : Given). test x.sig) (sym e) ∙ k | inr j ↦ ih j ]
    go false k i ih = ih i

-- ---- races

abbrev pub with_race : Option Race → List Race → List Race
with_race None rs = rs
with_race (Some r) rs = r ∷ rs

abbrev pub race_list : (Bit → Option Race) → List Bit → List Race
race_list f [] = []
race_list f (b ∷ bs) = with_race (f b) (race_list f bs)

race_from : (f : Bit → Option Race) (bs : List Bit) (r : Race) → Contains (race_list f bs) r → (b : Bit) × (f b ≡ Some r)
race_from f [] r i = absurd (omega (arith, i.1))
race_from f (b ∷ bs) r i = go (f b) refl i (race_from f bs r)
  where
    go : (o : Option Race) → f b ≡ o → Contains (with_race o (race_list f bs)) r → (Contains (race_list f bs) r → (b : Bit) × (f b ≡ Some r)) → (b : Bit) × (f b ≡ Some r)
    go None k i ih = ih i
    go (Some q) k i ih = elim (in_parts q (race_list f bs) r i) [ inl e ↦ (b, k ∙ ap Some e) | inr j ↦ ih j ]

race_is : (f : Bit → Option Race) → ((b : Bit) (r : Race) → f b ≡ Some r → r.bit ≡ b) → (bs : List Bit) (x : Bit) (r : Race) → Contains bs x → f x ≡ Some r → race_of (race_list f bs) x ≡ Some r
race_is f own [] x r i h = absurd (omega (arith, i.1))
race_is f own (b ∷ bs) x r i h = go (f b) refl (λ j. race_is f own bs x r j h)
  where
    two : (q : Race) → f b ≡ Some q → (w : Bool) → bit_eq q.bit x ≡ w → (Contains bs x → race_of (race_list f bs) x ≡ Some r) → cond w (Some q) (race_of (race_list f bs) x) ≡ Some r
    two q k true e ih = sym k ∙ ap f (sym (own b q k) ∙ bit_eq-true q.bit x e) ∙ h
    two q k false e ih = ih (in_rest b bs x (λ m. both_ways (bit_eq q.bit x) e (eq-bit_eq q.bit x (own b q k ∙ m))) i)

    go : (o : Option Race) → f b ≡ o → (Contains bs x → race_of (race_list f bs) x ≡ Some r) → race_of (with_race o (race_list f bs)) x ≡ Some r
    go (Some q) k ih = two q k (bit_eq q.bit x) refl ih
    go None k ih = ih (in_rest b bs x (λ m. no_race (sym k ∙ ap f m ∙ h)) i)
      where
        no_race : None ≡ Some r → ⊥
        no_race e = cc

-- ---- a step

module _ (d : Design) (t : Trees) (laws : AreTrees d t) (fin : IsFinite d) where
  module _ (edges : ℕ → Bool) (old new : State) (step : IsStep d edges old new) (s : State) (same : AreSame old s) where
    ticks_same : (b : Bit) → ticks d (has_edge (clock_list edges d.clocks)) b ≡ ticks d edges b
    ticks_same b = go (d.clock b) (λ c e. fin.numbered b c e)
      where
        go : (o : Option ℕ) → ((c : ℕ) → o ≡ Some c → c < d.clocks) → is_in o (has_edge (clock_list edges d.clocks)) ≡ is_in o edges
        go None h = refl
        go (Some c) h = clock_is edges d.clocks c (h c refl)

    loose_same : (x b : Bit) → IsLoose d old new.values x b → IsLoose d s new.values x b
    loose_same x b (Changes async ne) = Changes async (λ e. ne (same.0 b ∙ e))
    loose_same x b (Unsettled u free) = Unsettled (subst (λ (n : ℕ). 1 ≤ n) (same.1 b) u) (λ e f g. free e f (same.1 b ∙ g))

    left_same : (x : Bit) (o : Option Bit) → left_by d old x o ≡ left_by d s x o
    left_same x None = refl
    left_same x (Some b) = ap (λ (n : ℕ). left_by d (record { values = old.values; left = λ c. n }) x (Some b)) (same.1 b)

    -- the bits of the set that x reads serve as well
    next_kept : (x : Bit) → d.is_register x ≡ true → (flips : Bit → Bool) → d.next (flipped flips old.values) x ≡ d.next (flipped (has_bit (kept flips (laws.finite x).0)) s.values) x
    next_kept x reg flips = laws.reads [] x (flipped flips old.values) (flipped (has_bit (kept flips (laws.finite x).0)) s.values) reg tt tt
        (λ b reads. ap₂ (λ (u v : Bool). cond u (not v) v) (sym (kept_is flips (laws.finite x).0 b ((laws.finite x).1 b reads))) (same.0 b))

    loose_kept : (x : Bit) (flips : Bit → Bool) → AreLoose d old new.values x flips → AreLoose d s new.values x (has_bit (kept flips (laws.finite x).0))
    loose_kept x flips loose b h = loose_same x b (loose b (kept_only flips (laws.finite x).0 b h))

    -- a race that gives x its value and its cycles left
    pub record Serves (x : Bit) (r : Race) : Type 0 where
      pub bit : r.bit ≡ x
      pub register : d.is_register x ≡ true
      pub ticking : ticks d edges x ≡ true
      pub flips : AreLoose d s new.values x (has_bit r.flip)
      pub value : new.values x ≡ d.next (flipped (has_bit r.flip) s.values) x
      pub other : ((r.other ≡ None) × (new.left x ≡ 0))
          ⊎ ((bs : List Bit) × (r.other ≡ Some bs) × AreLoose d s new.values x (has_bit bs) × (d.next (flipped (has_bit bs) s.values) x ≢ new.values x) × (new.left x ≡ left_by d s x (d.copied x)))

    serving : (x : Bit) → d.is_register x ≡ true → ticks d edges x ≡ true → (r : Race) × Serves x r
    serving x reg ticking = by_other (step.metastable x reg ticking)
      where
        c : (flips : Bit → Bool) × AreLoose d old new.values x flips × (new.values x ≡ d.next (flipped flips old.values) x)
        c = step.captured x reg ticking

        by_other : (new.left x ≡ 0) ⊎ ((flips : Bit → Bool) × AreLoose d old new.values x flips × (d.next (flipped flips old.values) x ≢ new.values x) × (new.left x ≡ left_by d old x (d.copied x)))
            → (r : Race) × Serves x r
        by_other (inl z) = (
          record { bit = x; flip = kept c.0 (laws.finite x).0; other = None },
          record { bit = refl; register = reg; ticking = ticking; flips = loose_kept x c.0 c.1; value = c.2 ∙ next_kept x reg c.0; other = inl (refl, z) },
        )
        by_other (inr m) = (
          record { bit = x; flip = kept c.0 (laws.finite x).0; other = Some (kept m.0 (laws.finite x).0) },
          record {
            bit = refl;
            register = reg;
            ticking = ticking;
            flips = loose_kept x c.0 c.1;
            value = c.2 ∙ next_kept x reg c.0;
            other = inr (kept m.0 (laws.finite x).0, refl, loose_kept x m.0 m.1, (λ e. m.2 (next_kept x reg m.0 ∙ e)), m.3 ∙ left_same x (d.copied x));
          },
        )

    pub choose : (x : Bit) → (o : Option Race) × ((r : Race) → o ≡ Some r → Serves x r) × (d.is_register x ≡ true → ticks d edges x ≡ true → (r : Race) × (o ≡ Some r))
    choose x = go (d.is_register x) refl (ticks d edges x) refl
      where
        no_race : {A : Type 0} (r : Race) → None ≡ Some r → A
        no_race r e = cc

        race_eq : (a b : Race) → Some a ≡ Some b → a ≡ b
        race_eq a b e = cc

        go : (u : Bool) → d.is_register x ≡ u → (v : Bool) → ticks d edges x ≡ v
            → (o : Option Race) × ((r : Race) → o ≡ Some r → Serves x r) × (d.is_register x ≡ true → ticks d edges x ≡ true → (r : Race) × (o ≡ Some r))
        go true e true f = let p = serving x e f in (Some p.0, (λ r q. subst (Serves x) (race_eq p.0 r q) p.1), (λ reg ticking. (p.0, refl)))
        go true e false f = (None, (λ r q. no_race r q), (λ reg ticking. absurd (both_ways (ticks d edges x) f ticking)))
        go false e v f = (None, (λ r q. no_race r q), (λ reg ticking. absurd (both_ways (d.is_register x) e reg)))

    abbrev pub race_for : Bit → Option Race
    race_for x = (choose x).0

    abbrev pub test : ℕ → Bool
    test n = ticks d edges (record { sig = n; at = 0 })

    abbrev pub value : ℕ → ℕ
    value n = encode (λ i. new.values (record { sig = n; at = i })) (d.width n)

    abbrev pub recorded : RecordStep
    recorded = record { edges = clock_list edges d.clocks; inputs = given_list test value fin.inputs.0; races = race_list race_for fin.registers.0 }

    -- the state to which the record's step leads
    abbrev pub reached : State
    reached = stepped d s recorded

    own_race : (b : Bit) (r : Race) → race_for b ≡ Some r → r.bit ≡ b
    own_race b r e = ((choose b).1 r e).bit

    race_at : (x : Bit) → d.is_register x ≡ true → ticks d edges x ≡ true → (r : Race) × (race_of recorded.races x ≡ Some r) × Serves x r
    race_at x reg ticking =
        let q = (choose x).2 reg ticking in
        (q.0, race_is race_for own_race fin.registers.0 x q.0 (fin.registers.1 x reg) q.1, (choose x).1 q.0 q.1)

    ticked : (b : Bit) (v : Bool) → ticks d edges b ≡ v → ticks d (has_edge recorded.edges) b ≡ v
    ticked b v e = ticks_same b ∙ e

    in_signal : (b : Bit) → ticks d edges b ≡ true → b.at < d.width b.sig
    in_signal b ticking = go (d.clock b) refl ticking
      where
        go : (o : Option ℕ) → d.clock b ≡ o → is_in o edges ≡ true → b.at < d.width b.sig
        go None e h = cc
        go (Some c) e h = laws.within b c e

    value_reached : (b : Bit) → new.values b ≡ reached.values b
    value_reached b = go (ticks d edges b) refl (d.is_register b) refl (d.is_input b) refl
      where
        -- what the step gives a bit that doesn't tick, and one that does
        waits : ticks d edges b ≡ false → s.values b ≡ reached.values b
        waits e = sym (ap (λ v. cond v (next_value d s recorded b) (s.values b)) (ticked b false e))

        gives : ticks d edges b ≡ true → next_value d s recorded b ≡ reached.values b
        gives e = sym (ap (λ v. cond v (next_value d s recorded b) (s.values b)) (ticked b true e))

        at_register : d.is_register b ≡ true → d.next (flipped (flips_of (race_of recorded.races b)) s.values) b ≡ next_value d s recorded b
        at_register reg = sym (ap (λ v. cond v (d.next (flipped (flips_of (race_of recorded.races b)) s.values) b) (cond (d.is_input b) (given_to recorded.inputs b (s.values b)) (s.values b))) reg)

        at_input : d.is_register b ≡ false → d.is_input b ≡ true → given_to recorded.inputs b (s.values b) ≡ next_value d s recorded b
        at_input none input =
            sym (ap (λ v. cond v (d.next (flipped (flips_of (race_of recorded.races b)) s.values) b) (cond (d.is_input b) (given_to recorded.inputs b (s.values b)) (s.values b))) none
            ∙ ap (λ v. cond v (given_to recorded.inputs b (s.values b)) (s.values b)) input)

        at_other : d.is_register b ≡ false → d.is_input b ≡ false → s.values b ≡ next_value d s recorded b
        at_other none input =
            sym (ap (λ v. cond v (d.next (flipped (flips_of (race_of recorded.races b)) s.values) b) (cond (d.is_input b) (given_to recorded.inputs b (s.values b)) (s.values b))) none
            ∙ ap (λ v. cond v (given_to recorded.inputs b (s.values b)) (s.values b)) input)

        go : (u : Bool) → ticks d edges b ≡ u → (v : Bool) → d.is_register b ≡ v → (w : Bool) → d.is_input b ≡ w → new.values b ≡ reached.values b
        go true ticking true reg w input =
            let (r, at, k) = race_at b reg ticking in
            k.value ∙ sym (ap (λ o. d.next (flipped (flips_of o) s.values) b) at) ∙ at_register reg ∙ gives ticking
        go true ticking false none true input =
            let zero_ticks : test b.sig ≡ true = ap (λ o. is_in o edges) (fin.input_clock b input) ∙ ticking in
            sym (decode (λ i. new.values (record { sig = b.sig; at = i })) (d.width b.sig) b.at (in_signal b ticking))
            ∙ sym (given_is test value fin.inputs.0 b (s.values b) (fin.inputs.1 b input) zero_ticks)
            ∙ at_input none input ∙ gives ticking
        go true ticking false none false input =
            step.kept b none (λ h. absurd (both_ways (d.is_input b) input h)) ∙ same.0 b ∙ at_other none input ∙ gives ticking
        go false waiting true reg w input = (step.held b reg waiting).0 ∙ same.0 b ∙ waits waiting
        go false waiting false none w input = step.kept b none (λ h. waiting) ∙ same.0 b ∙ waits waiting

    left_reached : (b : Bit) → new.left b ≡ reached.left b
    left_reached b = go (d.is_register b) refl (ticks d edges b) refl
      where
        none_left : (n : ℕ) → new.left b ≡ n → d.is_register b ≡ false → n ≡ 0
        none_left zero e none = refl
        none_left (suc n) e none = absurd (both_ways (d.is_register b) none (step.registers_only b (omega arith)))

        at_register : (v : Bool) → d.is_register b ≡ true → ticks d edges b ≡ v → cond v (next_left d s recorded b) (s.left b) ≡ reached.left b
        at_register v reg e = sym (ap (λ u. cond u (cond (ticks d (has_edge recorded.edges) b) (next_left d s recorded b) (s.left b)) 0) reg
            ∙ ap (λ u. cond u (next_left d s recorded b) (s.left b)) (ticked b v e))

        go : (u : Bool) → d.is_register b ≡ u → (v : Bool) → ticks d edges b ≡ v → new.left b ≡ reached.left b
        go false none v e = none_left (new.left b) refl none
            ∙ sym (ap (λ u. cond u (cond (ticks d (has_edge recorded.edges) b) (next_left d s recorded b) (s.left b)) 0) none)
        go true reg false waiting = (step.held b reg waiting).1 ∙ same.1 b ∙ at_register false reg waiting
        go true reg true ticking = by_race (race_at b reg ticking)
          where
            by_race : (r : Race) × (race_of recorded.races b ≡ Some r) × Serves b r → new.left b ≡ reached.left b
            by_race (r, at, k) = elim k.other [
              | inl z ↦ z.1 ∙ sym (ap (λ o. cond (is_some (other_of o)) (left_by d s b (d.copied b)) 0) at ∙ ap (λ o. cond (is_some o) (left_by d s b (d.copied b)) 0) z.0) ∙ at_register true reg ticking
              | inr m ↦ m.4 ∙ sym (ap (λ o. cond (is_some (other_of o)) (left_by d s b (d.copied b)) 0) at ∙ ap (λ o. cond (is_some o) (left_by d s b (d.copied b)) 0) m.1) ∙ at_register true reg ticking
            ]

    loose_reached : (x y : Bit) (flips : Bit → Bool) → y ≡ x → AreLoose d s new.values x flips → AreLoose d s reached.values y flips
    loose_reached x y flips e loose b h = subst (λ (z : Bit). IsLoose d s reached.values z b) (sym e) (again (loose b h))
      where
        again : IsLoose d s new.values x b → IsLoose d s reached.values x b
        again (Changes async ne) = Changes async (λ q. ne (q ∙ sym (value_reached b)))
        again (Unsettled u free) = Unsettled u free

    race_in : (r : Race) → Contains recorded.races r → (x : Bit) × Serves x r
    race_in r i = let p = race_from race_for fin.registers.0 r i in (p.0, (choose p.0).1 r p.1)

    pub fixed : IsFixedStep d s recorded
    fixed = record {
      edge = some_edge recorded.edges step.edge.0 (clock_is edges d.clocks step.edge.0 step.edge.1 ∙ step.edge.2);
      inputs_tick = λ g i. ticked (record { sig = g.sig; at = 0 }) true (given_tested test value fin.inputs.0 g i);
      races_tick = λ r i. let p = race_in r i in ticked r.bit true (ap (ticks d edges) p.1.bit ∙ p.1.ticking);
      flips = λ r i. let p = race_in r i in loose_reached p.0 r.bit (has_bit r.flip) p.1.bit p.1.flips;
      others = λ r bs i e. let p = race_in r i in other_ok r bs p.0 p.1 e p.1.other;
    }
      where
        no_list : {A : Type 0} (bs : List Bit) → None ≡ Some bs → A
        no_list bs e = cc

        list_eq : (o : Option (List Bit)) (cs bs : List Bit) → o ≡ Some cs → o ≡ Some bs → cs ≡ bs
        list_eq o cs bs e f = cc

        other_ok : (r : Race) (bs : List Bit) (x : Bit) → Serves x r → r.other ≡ Some bs
            → ((r.other ≡ None) × (new.left x ≡ 0))
            ⊎ ((cs : List Bit) × (r.other ≡ Some cs) × AreLoose d s new.values x (has_bit cs) × (d.next (flipped (has_bit cs) s.values) x ≢ new.values x) × (new.left x ≡ left_by d s x (d.copied x)))
            → AreLoose d s reached.values r.bit (has_bit bs) × (d.next (flipped (has_bit bs) s.values) r.bit ≢ reached.values r.bit)
        other_ok r bs x k e (inl z) = no_list bs (sym z.0 ∙ e)
        other_ok r bs x k e (inr m) =
            subst (λ (cs : List Bit). AreLoose d s reached.values r.bit (has_bit cs) × (d.next (flipped (has_bit cs) s.values) r.bit ≢ reached.values r.bit)) (list_eq r.other m.0 bs m.1 e) (
              loose_reached x r.bit (has_bit m.0) k.bit m.2,
              subst (λ (z : Bit). d.next (flipped (has_bit m.0) s.values) z ≢ reached.values z) (sym k.bit) (λ q. m.3 (q ∙ sym (value_reached x))),
            )

  -- ---- runs

  same_now : (p q : Trace) → AreSameRuns d p q → AreSame (now p) (now q)
  same_now (Start s) (Start t) h = h
  same_now (Start s) (Then q f t) h = absurd h
  same_now (Then p e s) (Start t) h = absurd h
  same_now (Then p e s) (Then q f t) h = h.2

  trace_eq : (a b : Trace) → Ran a ≡ Ran b → a ≡ b
  trace_eq a b e = cc

  -- one more step of the record
  replayed_then : (n : ℕ) (past : Trace) (ks : List RecordStep) (k : RecordStep) (run : Trace) → replayed_from d n past ks ≡ Ran run → step_fault d (now run) k ≡ None
      → replayed_from d n past (ks ++ k ∷ []) ≡ Ran (Then run (has_edge k.edges) (stepped d (now run) k))
  replayed_then n past [] k run e ok =
      subst (λ (p : Trace). on_fault (step_fault d (now p) k) n (Ran (Then p (has_edge k.edges) (stepped d (now p) k))) ≡ Ran (Then run (has_edge k.edges) (stepped d (now run) k))) (sym (trace_eq past run e))
      (ap (λ o. on_fault o n (Ran (Then run (has_edge k.edges) (stepped d (now run) k)))) ok)
  replayed_then n past (j ∷ js) k run e ok =
      go (step_fault d (now past) j) e (λ f. replayed_then (suc n) (Then past (has_edge j.edges) (stepped d (now past) j)) js k run f ok)
    where
      no_run : {A : Type 0} (f : StepFault) → Refused n f ≡ Ran run → A
      no_run f e = cc

      go : (o : Option StepFault) → on_fault o n (replayed_from d (suc n) (Then past (has_edge j.edges) (stepped d (now past) j)) js) ≡ Ran run
          → (replayed_from d (suc n) (Then past (has_edge j.edges) (stepped d (now past) j)) js ≡ Ran run
          → replayed_from d (suc n) (Then past (has_edge j.edges) (stepped d (now past) j)) (js ++ k ∷ []) ≡ Ran (Then run (has_edge k.edges) (stepped d (now run) k)))
          → on_fault o n (replayed_from d (suc n) (Then past (has_edge j.edges) (stepped d (now past) j)) (js ++ k ∷ [])) ≡ Ran (Then run (has_edge k.edges) (stepped d (now run) k))
      go None e ih = ih e
      go (Some f) e ih = no_run f e

  -- every run from the opened state has a record that goes through its states
  pub run_recorded : (start : List Given) (run : Trace) → IsRun d run → AreSame (first_state run) (opened d start)
      → (ks : List RecordStep) × (q : Trace) × (replayed d (record { start = start; steps = ks }) ≡ Ran q) × AreSameRuns d run q
  run_recorded start (Start s) h same = ([], Start (opened d start), refl, same)
  run_recorded start (Then past edges new) h same =
      let (ks, q, e, runs) = run_recorded start past h.0 same in
      let now_same = same_now past q runs in
      let k = recorded edges (now past) new h.1 (now q) now_same in
      let f = fixed edges (now past) new h.1 (now q) now_same in (
        ks ++ k ∷ [],
        Then q (has_edge k.edges) (stepped d (now q) k),
        replayed_then 1 (Start (opened d start)) ks k q e (fixed_passes d (now q) k f),
        (runs, (λ b. sym (ticks_same edges (now past) new h.1 (now q) now_same b)), (value_reached edges (now past) new h.1 (now q) now_same, left_reached edges (now past) new h.1 (now q) now_same)),
      )
