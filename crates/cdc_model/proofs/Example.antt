-- A source that toggles on one clock, and its synchronizer on another that settles within three cycles: all premises hold together.
use Rattle.std.proofs.Common.{◌≡◌, ℕ, zero, suc, ◌<◌, ◌==◌, ◌&&◌, nat_lt, Bool, true, false, cond, not, Option, Some, None, List, [], ◌∷◌, Contains, ◌⊎◌, inl, inr, refl, sym, ap, ap₂, subst, ◌∙◌, arith, eqb-true}
use Rattle.std.proofs.lemmas.Bool.{both_ways, and_parts, lt-ltb}
use Rattle.std.specs.Prelude.{slice_get}
use Rattle.cdc_base.specs.declared.bit.Bit.{Bit}
use Rattle.cell_graph.specs.Reading.{bit_eq, Reading}
use Rattle.cell_graph.proofs.Bits.{bit_eq-true, bit_eq-refl}
use Rattle.cdc_model.specs.Design.{Design, are_async}
use Rattle.cdc_model.specs.Schemes.{Trees, AreTrees, IsCrossing, Follows, Sync, IsSync, Justified}
use Rattle.cdc_model.specs.Facts.{none_extra}
use Rattle.cdc_model.specs.Runs.{now}
use Rattle.cdc_model.specs.declared.record.Race.{Race}
use Rattle.cdc_model.specs.declared.record.RecordStep.{RecordStep}
use Rattle.cdc_model.specs.Replay.{Replayed, Ran, Refused, NotLoose, replayed}
use Rattle.cdc_model.proofs.Flips.{same_clock_not_async}
use Rattle.cdc_model.proofs.Behind.{source_clock}

abbrev bit_of : ℕ → Bit
bit_of sig = record { sig = sig; at = 0 }

-- signal 0 is the source, 1 to 4 are the flops
abbrev in_design : Bit → Bool
in_design b = (b.at == 0) && nat_lt b.sig 5

abbrev before : ℕ → Option Bit
before zero = None
before (suc n) = Some (bit_of n)

abbrev copy_of : Bit → Option Bit
copy_of b = cond (in_design b) (before b.sig) None

abbrev clock_by : ℕ → ℕ
clock_by zero = 0
clock_by (suc n) = 1

abbrev value_of : Reading → Bit → Option Bit → Bool
value_of r x None = not (r x)
value_of r x (Some b) = r b

abbrev read_by : Bit → Option Bit → Bit → Bool
read_by x None b = bit_eq x b
read_by x (Some a) b = bit_eq a b

abbrev design : Design
design = record {
  width = λ sig. 1;
  is_register = in_design;
  is_input = λ b. false;
  clocks = 2;
  clock = λ b. cond (in_design b) (Some (clock_by b.sig)) None;
  group_of = λ c. c;
  settle = λ c. 3;
  start = λ b. None;
  next = λ r x. value_of r x (copy_of x);
  copied = copy_of;
}

abbrev trees : Trees
trees = record {
  known = λ cube x. None;
  same = λ cube x. copy_of x;
  reads = λ cube x b. read_by x (copy_of x) b;
  is_output = λ b. false;
  is_gray = λ g. false;
}

are_trees : AreTrees design trees
are_trees = record {
  settles = λ c. (omega arith, omega arith);
  within = λ b c e. low b (in_design b) refl e;
  copied = λ x reg. refl;
  known = λ cube x v reg e r m. absurd (no_value v e);
  same = λ cube x b reg e r m. ap (value_of r x) e;
  reads = λ cube x r q reg m n agree. alike x r q (copy_of x) agree;
  same_reads = λ cube x b reg e. ap (λ o. read_by x o b) e ∙ bit_eq-refl b;
  same_only = λ cube x b a reg e reads. sym (bit_eq-true b a (sym (ap (λ o. read_by x o a) e) ∙ reads));
  grays = λ g e. absurd (no_gray e);
  finite = λ x. listed x (copy_of x);
}
  where
    no_value : (v : Bool) → None ≡ Some v → ⊥
    no_value v e = cc

    no_gray : false ≡ true → ⊥
    no_gray e = cc

    low : (b : Bit) (v : Bool) → in_design b ≡ v → {c : ℕ} → cond v (Some (clock_by b.sig)) None ≡ Some c → b.at < 1
    low b true h e = let p = eqb-true b.at 0 (and_parts (b.at == 0) (nat_lt b.sig 5) h).0 in omega arith
    low b false h e = cc

    alike : (x : Bit) (r q : Reading) (o : Option Bit) → ((b : Bit) → read_by x o b ≡ true → r b ≡ q b) → value_of r x o ≡ value_of q x o
    alike x r q None agree = ap not (agree x (bit_eq-refl x))
    alike x r q (Some a) agree = agree a (bit_eq-refl a)

    listed : (x : Bit) (o : Option Bit) → (bs : List Bit) × ((b : Bit) → read_by x o b ≡ true → Contains bs b)
    listed x None = (x ∷ [], λ b h. (0, omega arith, bit_eq-true x b h))
    listed x (Some a) = (a ∷ [], λ b h. (0, omega arith, bit_eq-true a b h))

place : (x : Bit) (k : ℕ) → x.sig ≡ k → x.at ≡ 0 → x ≡ bit_of k
place x k e f = ap₂ (λ (s a : ℕ). record { sig = s; at = a }) e f

-- a register bit that reads another one stands next to it
reads_next : (x : Bit) (n : ℕ) → in_design x ≡ true → read_by x (copy_of x) (bit_of n) ≡ true → (x ≡ bit_of n) × (n ≡ 0) ⊎ (x ≡ bit_of (suc n))
reads_next x n reg h = go x.sig refl
  where
    at_is : x.at ≡ 0
    at_is = eqb-true x.at 0 (and_parts (x.at == 0) (nat_lt x.sig 5) reg).0

    copy_is : copy_of x ≡ before x.sig
    copy_is = ap (λ v. cond v (before x.sig) None) reg

    is_bit : (k : ℕ) → x.sig ≡ k → x ≡ bit_of k
    is_bit k e = place x k e at_is

    go : (k : ℕ) → x.sig ≡ k → (x ≡ bit_of n) × (n ≡ 0) ⊎ (x ≡ bit_of (suc n))
    go zero e =
        let b = bit_eq-true x (bit_of n) (sym (ap (λ o. read_by x o (bit_of n)) (copy_is ∙ ap before e)) ∙ h) in
        inl (b, sym (ap (λ (c : Bit). c.sig) b) ∙ e)
    go (suc k) e =
        let b = bit_eq-true (bit_of k) (bit_of n) (sym (ap (λ o. read_by x o (bit_of n)) (copy_is ∙ ap before e)) ∙ h) in
        inr (is_bit (suc k) e ∙ ap (λ (c : Bit). bit_of (suc c.sig)) b)

follows : (n : ℕ) → n < 3 → Follows design trees (bit_of (suc n)) (bit_of (suc (suc n)))
follows n l = record {
  register = ltb-of (suc (suc n)) (omega arith);
  copy = ap (λ v. cond v (before (suc (suc n))) None) (ltb-of (suc (suc n)) (omega arith));
  clock = ap (λ v. cond v (Some 1) None) (ltb-of (suc (suc n)) (omega arith)) ∙ sym (ap (λ v. cond v (Some 1) None) (ltb-of (suc n) (omega arith)));
  only = λ x reg h. elim (reads_next x (suc n) reg h) [ inl p ↦ absurd (omega (arith, p.1)) | inr e ↦ e ];
  hidden = refl;
}
  where
    ltb-of : (k : ℕ) → k < 5 → in_design (bit_of k) ≡ true
    ltb-of k l = lt-ltb k 5 l

abbrev synchronizer : Sync
synchronizer = record { from = bit_of 0; first = bit_of 1; more = bit_of 2 ∷ bit_of 3 ∷ bit_of 4 ∷ [] }

is_sync : IsSync design trees synchronizer
is_sync = record {
  crossing = record { register = refl; reads = refl; async = refl };
  copy = refl;
  chain = (follows 0 (omega arith), (follows 1 (omega arith), (follows 2 (omega arith), inl refl)));
}

only_one : {A : Type 0} (a x : A) → Contains (a ∷ []) x → x ≡ a
only_one a x (zero, l, e) = sym e
only_one a x (suc n, l, e) = absurd (omega arith)

place_zero : (i : ℕ) (s : Sync) → slice_get (synchronizer ∷ []) i ≡ Some s → i ≡ 0
place_zero zero s a = refl
place_zero (suc i) s a = cc

justified : Justified design trees (synchronizer ∷ []) [] [] [] none_extra
justified = record {
  are_syncs = λ s i. subst (IsSync design trees) (sym (only_one synchronizer s i)) is_sync;
  are_grays = λ g i. absurd (omega (arith, i.1));
  are_rings = λ r i. absurd (omega (arith, i.1));
  are_loads = λ l i. absurd (omega (arith, i.1));
  each = λ b x c. let p = crossed b x c in inl (synchronizer, (0, omega arith, refl), p.0, p.1);
  once = λ i j s r a b e g. place_zero i s a ∙ sym (place_zero j r b);
  words = λ s r i j e g. inl (ap (λ (s : Sync). s.from) (only_one synchronizer s i) ∙ sym (ap (λ (s : Sync). s.from) (only_one synchronizer r j)));
}
  where
    crossed : (b x : Bit) → IsCrossing design trees b x → (bit_of 0 ≡ b) × (bit_of 1 ≡ x)
    crossed b x c = go x.sig refl
      where
        at_is : x.at ≡ 0
        at_is = eqb-true x.at 0 (and_parts (x.at == 0) (nat_lt x.sig 5) c.register).0

        is_bit : (k : ℕ) → x.sig ≡ k → bit_of k ≡ x
        is_bit k e = sym (place x k e at_is)

        copied : copy_of x ≡ before x.sig
        copied = ap (λ v. cond v (before x.sig) None) c.register

        source : (k : ℕ) → x.sig ≡ k → read_by x (before k) b ≡ true
        source k e = sym (ap (λ o. read_by x o b) (copied ∙ ap before e)) ∙ c.reads

        clock_x : (k : ℕ) → x.sig ≡ k → design.clock x ≡ Some (clock_by k)
        clock_x k e = ap (λ v. cond v (Some (clock_by x.sig)) None) c.register ∙ ap (λ n. Some (clock_by n)) e

        none_clock : {n : ℕ} → None ≡ Some n → ⊥
        none_clock e = cc

        clock_b : (v : Bool) → in_design b ≡ v → design.clock b ≡ Some (clock_by b.sig)
        clock_b true e = ap (λ v. cond v (Some (clock_by b.sig)) None) e
        clock_b false e = absurd (none_clock (sym (ap (λ v. cond v (Some (clock_by b.sig)) None) e) ∙ (source_clock design b x c.async).1))

        apart : design.clock b ≡ design.clock x → ⊥
        apart e = both_ways (are_async design b x) (same_clock_not_async design b x e) c.async

        go : (k : ℕ) → x.sig ≡ k → (bit_of 0 ≡ b) × (bit_of 1 ≡ x)
        go zero e = absurd (apart (ap design.clock (sym (bit_eq-true x b (source 0 e)))))
        go (suc zero) e = (bit_eq-true (bit_of 0) b (source 1 e), is_bit 1 e)
        go (suc (suc k)) e = absurd (apart (clock_b (in_design b) refl
            ∙ ap (λ (a : Bit). Some (clock_by a.sig)) (sym (bit_eq-true (bit_of (suc k)) b (source (suc (suc k)) e))) ∙ sym (clock_x (suc (suc k)) e)))

-- ---- a run by record

abbrev race : ℕ → List Bit → Option (List Bit) → Race
race n flip other = record { bit = bit_of n; flip = flip; other = other }

abbrev tick : List ℕ → List Race → RecordStep
tick edges races = record { edges = edges; inputs = []; races = races }

-- the source changes while the first flop captures it; then each flop takes what the one before may still become
abbrev steps : List RecordStep
steps = tick (0 ∷ 1 ∷ []) (race 1 [] (Some (bit_of 0 ∷ [])) ∷ [])
    ∷ tick (1 ∷ []) (race 2 (bit_of 1 ∷ []) (Some []) ∷ [])
    ∷ tick (1 ∷ []) (race 3 [] (Some (bit_of 2 ∷ [])) ∷ [])
    ∷ []

abbrev shown : Replayed → Bit → Option (Bool × ℕ)
shown (Ran run) b = Some ((now run).values b, (now run).left b)
shown (Refused n f) b = None

abbrev after : List RecordStep → Bit → Option (Bool × ℕ)
after ks b = shown (replayed design (record { start = []; steps = ks })) b

first_races : after (tick (0 ∷ 1 ∷ []) (race 1 [] (Some (bit_of 0 ∷ [])) ∷ []) ∷ []) (bit_of 1) ≡ Some (false, 3)
first_races = refl

third_races : after steps (bit_of 3) ≡ Some (true, 1)
third_races = refl

-- what has one cycle left has settled when the next flop takes it
fourth_settles : replayed design (record {
  start = [];
  steps = tick (0 ∷ 1 ∷ []) (race 1 [] (Some (bit_of 0 ∷ [])) ∷ [])
      ∷ tick (1 ∷ []) (race 2 (bit_of 1 ∷ []) (Some []) ∷ [])
      ∷ tick (1 ∷ []) (race 3 [] (Some (bit_of 2 ∷ [])) ∷ [])
      ∷ tick (1 ∷ []) (race 4 (bit_of 3 ∷ []) None ∷ []) ∷ [];
}) ≡ Refused 4 (NotLoose (bit_of 4) (bit_of 3))
fourth_settles = refl
