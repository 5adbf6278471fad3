-- The steps that a campaign draws: their names are found again, and their lists are in their orders.
use Rattle.std.proofs.Common.{◌≡◌, ◌≢◌, ◌∙◌, ℕ, zero, suc, ◌+◌, ◌<◌, ◌≤◌, ◌==◌, ◌%◌, ◌&&◌, ◌||◌, nat_lt, Bool, true, false, not, cond, List, [], ◌∷◌, ◌++◌, map, length, Option, Some, None, option_map, is_some, Contains, inl, inr, refl, sym, ap, ap₂, subst, arith, rules, eq-eqb, ne_eqb, ltb-true, bytes_eq, Ordering, Less, Equal, Greater}
use Rattle.std.specs.Prelude.{filter, slice_get, unwrap_or}
use Rattle.std.specs.Bool.{beq}
use Rattle.std.specs.Cmp.{IsStrictWeakOrder}
use Rattle.std.specs.Cmp.Lexicographic.{slice_cmp}
use Rattle.std.specs.List.{AllByRecursion, IsDistinct, flat_map}
use Rattle.std.specs.Option.{option_map_or}
use Rattle.std.specs.Ordering.{is_eq, is_lt, nat_cmp, ordering_reverse, ordering_then}
use Rattle.std.proofs.lemmas.Bool.{and_parts, cases_eq, or_cases}
use Rattle.std.proofs.lemmas.Cmp.{nat_list_cmp_total}
use Rattle.std.proofs.lemmas.List.Elements.{Contains-append_cases, recursion_from_All}
use Rattle.std.proofs.lemmas.List.Folds.{list_any-from_Any}
use Rattle.std.proofs.lemmas.List.Sorted.{Contains-permutation, IsPermutation-refl, IsPermutation-sym, ranks_by}
use Rattle.std.proofs.lemmas.Map.Text.{is_eq-slice_cmp}
use Rattle.std.proofs.lemmas.Slice.Eq.{bytes_eq-Decides}
use Rattle.cdc_base.specs.declared.bit.Bit.{Bit}
use Rattle.cdc_base.specs.declared.signal.Signal.{Signal}
use Rattle.cdc_base.specs.declared.signal.SigKind.{SigKind}
use Rattle.cdc_base.specs.declared.signal.SigKind.TheVariants.{Input, Register, Wire}
use Rattle.cell_graph.specs.declared.net.Net.{Net}
use Rattle.cell_graph.specs.Nets.{is_register}
use Rattle.cell_graph.specs.Reading.{bit_eq, Reading}
use Rattle.cell_graph.specs.Tree.{bit_at}
use Rattle.domains.specs.declared.Domains.{Domains}
use Rattle.domains.specs.Assignment.{clock_of}
use Rattle.domains.specs.Fit.{IsClockedAs}
use Rattle.domains.specs.Tables.{first_signal}
use Rattle.cdc_model.specs.declared.record.Given.{Given}
use Rattle.cdc_model.specs.declared.record.Race.{Race}
use Rattle.cdc_model.specs.declared.record.RecordStep.{RecordStep}
use Rattle.cdc_model.specs.declared.scheme.Crossing.{Crossing}
use Rattle.cdc_model.specs.Design.{Design, are_async, differ, group}
use Rattle.cdc_model.specs.Nets.{bits_of_registers, clock_of_bit, design_of, is_register_bit, is_within, next_cell}
use Rattle.cdc_model.specs.Ordered as keyed
use Rattle.cdc_model.specs.Replay.{NotLoose, StepFault, any_edge, first_fault, has_edge, input_fault, is_loose, is_settling_for, loose_fault, next_left, NoEdge, on_list, or_else, other_fault, race_fault, step_fault, stepped, tick_fault, unless}
use Rattle.cdc_model.specs.Runs.{State, ticks}
use Rattle.cdc_model.proofs.Ascending.{Ascends, filtered_ascend, from_filter, parts, nothing_in}
use Rattle.cdc_model.proofs.Found.{by_bit, registers_ascend}
use Rattle.settling_sim.specs.Runs.{IsInput}
use Rattle.settling_sim.specs.State.{has_kind, is_clocked_input, is_input, is_state_signal, is_static}
use Rattle.campaign.specs.declared.toss.Toss.{Toss}
use Rattle.campaign.specs.Campaign.{captured_races, captured_step, captures, is_before, own_race, race_if, races_before, races_behind}
use Rattle.campaign.specs.Draws.{behind, behind_all, with_words, word}
use Rattle.campaign.specs.Drawn.{draw, given_for, input_ticks, inputs_in, is_torn, race_of_toss, step_of, step_with, torn_in, toss, values_in}
use Rattle.campaign.specs.Edges.{behind_edges, edges_of, is_full, or_first}
use Rattle.campaign.specs.Lines.{bit_order}
use Rattle.campaign.specs.Names.{name_of}
use Rattle.campaign.specs.Numbers.{numbers_from, one_if}
use Rattle.campaign.specs.Plan.{AreNamed, copies_among, copy_from, flops_of, inputs_of, pairs_of, settles}
use Rattle.campaign.specs.Run.{CanRun}
use Rattle.campaign.proofs.DrawnInputs.{named-apart, number-passes, numbers-rise}
use Rattle.campaign.proofs.Fixes.{drawn-passes, edges-below, end-pair, end-passes}
use Rattle.campaign.proofs.FlopRaces.{race-bit, race-from}
use Rattle.campaign.proofs.Members.{copy-in, flop-is}
use Rattle.campaign.proofs.Ordered.{numbers-same}
use Rattle.campaign.proofs.Passing.{AreApart, each-both, each-of, each-weaker, of-each}
use Rattle.campaign.proofs.Raced.{captured-from, stays-from, toss-from}
use Rattle.campaign.proofs.StepInputs.{inputs-fit}
use Rattle.campaign_records.specs.Laws.{AreFound}
use Rattle.campaign_records.proofs.Named.{IsStateBit, IsStateRace, register-kind}
use Rattle.campaign_records.proofs.Orders.{Rises, less-through, rises-both, rises-by, rises-filter, rises-map, rises-sorted, ties}
use Rattle.campaign_records.proofs.Written.{IsWritten, bits-rank, input-before, race-before}

-- ---- clocks

fewer : (test : ℕ → Bool) (j n c : ℕ) → c < j → has_edge (numbers_from test j n) c ≡ false
fewer test j zero c l = refl
fewer test j (suc n) c l = go (test j) (fewer test (suc j) n c (omega (arith, l)))
  where
    go : (v : Bool) → has_edge (numbers_from test (suc j) n) c ≡ false → has_edge (one_if v j ++ numbers_from test (suc j) n) c ≡ false
    go true ih = ap₂ (λ a b. a || b) (ne_eqb j c (λ e. omega (arith, e, l))) ih
    go false ih = ih

-- the numbers that pass are those listed
has-number : (test : ℕ → Bool) (j n c : ℕ) → j ≤ c → c < j + n → has_edge (numbers_from test j n) c ≡ test c
has-number test j zero c le lt = absurd (omega (arith, le, lt))
has-number test j (suc n) c le lt = elim (cases_eq j c) [
  | inl e ↦ here-is (test j) refl e
  | inr ne ↦ past (test j) ne (has-number test (suc j) n c (omega (arith, le, ne)) (omega (arith, lt)))
]
  where
    here-is : (v : Bool) → test j ≡ v → j ≡ c → has_edge (one_if v j ++ numbers_from test (suc j) n) c ≡ test c
    here-is true t e = ap (λ b. b || has_edge (numbers_from test (suc j) n) c) (eq-eqb j c e) ∙ sym t ∙ ap test e
    here-is false t e = fewer test (suc j) n c (omega (arith, e)) ∙ sym t ∙ ap test e

    past : (v : Bool) → j ≢ c → has_edge (numbers_from test (suc j) n) c ≡ test c → has_edge (one_if v j ++ numbers_from test (suc j) n) c ≡ test c
    past true ne h = ap (λ b. b || has_edge (numbers_from test (suc j) n) c) (ne_eqb j c ne) ∙ h
    past false ne h = h

marked-again : (test : ℕ → Bool) (n : ℕ) → numbers_from (has_edge (numbers_from test 0 n)) 0 n ≡ numbers_from test 0 n
marked-again test n = numbers-same (has_edge (numbers_from test 0 n)) test 0 n (λ c l. has-number test 0 n c (omega arith) l)

first-alone : (j n : ℕ) → numbers_from (has_edge (0 ∷ [])) (suc j) n ≡ []
first-alone j zero = refl
first-alone j (suc n) = ap (λ v. one_if (v || false) (suc j) ++ numbers_from (has_edge (0 ∷ [])) (suc (suc j)) n) (ne_eqb 0 (suc j) (λ e. omega (arith, e))) ∙ first-alone (suc j) n

first-again : (n : ℕ) → n ≢ 0 → numbers_from (has_edge (0 ∷ [])) 0 n ≡ 0 ∷ []
first-again zero ne = absurd (ne refl)
first-again (suc n) ne = ap (λ xs. 0 ∷ xs) (first-alone 0 n)

or-again : (n : ℕ) → n ≢ 0 → (cs : List ℕ) → numbers_from (has_edge cs) 0 n ≡ cs → numbers_from (has_edge (or_first cs)) 0 n ≡ or_first cs
or-again n ne [] h = first-again n ne
or-again n ne (c ∷ cs) h = h

-- the clocks of a step are in their order
edges-again : (domains : Domains) (number : ℕ) (rng : List ℕ) → length domains.clocks ≢ 0
    → numbers_from (has_edge (edges_of domains number rng)) 0 (length domains.clocks) ≡ edges_of domains number rng
edges-again domains number rng ne = go (is_full number)
  where
    go : (v : Bool) → numbers_from (has_edge (cond v (numbers_from (λ c. true) 0 (length domains.clocks)) (or_first (numbers_from (λ c. bit_at (word rng) (c % 64)) 0 (length domains.clocks))))) 0 (length domains.clocks)
        ≡ cond v (numbers_from (λ c. true) 0 (length domains.clocks)) (or_first (numbers_from (λ c. bit_at (word rng) (c % 64)) 0 (length domains.clocks)))
    go true = marked-again (λ c. true) (length domains.clocks)
    go false = or-again (length domains.clocks) ne (numbers_from (λ c. bit_at (word rng) (c % 64)) 0 (length domains.clocks))
        (marked-again (λ c. bit_at (word rng) (c % 64)) (length domains.clocks))

edges-few : (domains : Domains) (number : ℕ) (rng : List ℕ) → length domains.clocks ≢ 0 → AllByRecursion (λ (c : ℕ). c < length domains.clocks) (edges_of domains number rng)
edges-few domains number rng ne = each-of (λ (c : ℕ). c < length domains.clocks) (edges_of domains number rng)
    (λ c i. edges-below domains number rng ne c (list_any-from_Any (λ e. e == c) (edges_of domains number rng) (i.0, c, i.1, i.2, eq-eqb c c refl)))

-- ---- bits in their order

-- a bit comes before another
abbrev bit-before : Bit → Bit → Bool
bit-before a b = is_lt (bit_order a b)

pair-order : (p q r s : Bool) → is_lt (ordering_then (cond p Less (cond q Equal Greater)) (cond r Less (cond s Equal Greater))) ≡ (p || (q && r))
pair-order true q r s = refl
pair-order false true true s = refl
pair-order false true false true = refl
pair-order false true false false = refl
pair-order false false r s = refl

before-is : (a b : Bit) → bit-before a b ≡ is_before a b
before-is a b = pair-order (nat_lt a.sig b.sig) (a.sig == b.sig) (nat_lt a.at b.at) (a.at == b.at)

key-order : (p q r s : Bool) → (p || (q && (r || (s && false)))) ≡ (p || (q && r))
key-order true q r s = refl
key-order false true true s = refl
key-order false true false true = refl
key-order false true false false = refl
key-order false false r s = refl

key-before : (a b : Bit) → keyed.is_before (by_bit a) (by_bit b) ≡ true → bit-before a b ≡ true
key-before a b h = before-is a b ∙ sym (key-order (nat_lt a.sig b.sig) (a.sig == b.sig) (nat_lt a.at b.at) (a.at == b.at)) ∙ h

abbrev copy-before : Crossing → Crossing → Bool
copy-before c e = bit-before c.to e.to

abbrev toss-before : Toss → Toss → Bool
toss-before t u = bit-before t.flop u.flop

copies-rise : (d : Design) (xs : List Bit) → Ascends by_bit xs → Rises copy-before (copies_among d xs)
copies-rise d [] h = tt
copies-rise d (x ∷ xs) h = go (d.copied x) (copies-rise d xs h.1)
  where
    go : (o : Option Bit) → Rises copy-before (copies_among d xs) → Rises copy-before (copy_from x o ++ copies_among d xs)
    go None k = k
    go (Some b) k = (each-of (λ (c : Crossing). bit-before x c.to ≡ true) (copies_among d xs) (λ c i. key-before x c.to (h.0 c.to (copy-in d xs c i).0)), k)

tosses-rise : (cs : List Crossing) (rng : List ℕ) → Rises copy-before cs → Rises toss-before (with_words toss rng cs)
tosses-rise [] rng h = tt
tosses-rise (c ∷ cs) rng h = (others cs (behind rng) h.0, tosses-rise cs (behind rng) h.1)
  where
    others : (es : List Crossing) (g : List ℕ) → AllByRecursion (λ (e : Crossing). bit-before c.to e.to ≡ true) es → AllByRecursion (λ (u : Toss). bit-before c.to u.flop ≡ true) (with_words toss g es)
    others [] g k = tt
    others (e ∷ es) g k = (k.0, others es (behind g) k.1)

-- the races of all tosses
races-rise : (ts : List Toss) → Rises toss-before ts → Rises race-before (map race_of_toss ts)
races-rise ts h = rises-map race-before race_of_toss ts
    (rises-by toss-before (λ t u. race-before (race_of_toss t) (race_of_toss u)) (λ t u e. ap₂ bit-before (race-bit t) (race-bit u) ∙ e) ts h)

-- where a race stands that stays
stays-at : (test : Toss → Bool) (ts : List Toss) (r : Race) → Contains (flat_map (λ t. race_if (test t) t) ts) r → (t : Toss) × Contains ts t × (test t ≡ true) × (r.bit ≡ t.flop)
stays-at test ts r i = let p = stays-from test ts r i in (p.0, p.1, p.2, sym (ap (λ (q : Race). q.bit) p.3) ∙ race-bit p.0)

kept-rise : (test : Toss → Bool) (ts : List Toss) → Rises toss-before ts → Rises race-before (flat_map (λ t. race_if (test t) t) ts)
kept-rise test [] h = tt
kept-rise test (t ∷ ts) h = go (test t) (kept-rise test ts h.1)
  where
    go : (v : Bool) → Rises race-before (flat_map (λ t. race_if (test t) t) ts) → Rises race-before (race_if v t ++ flat_map (λ t. race_if (test t) t) ts)
    go true k = (
      each-of (λ (r : Race). race-before (race_of_toss t) r ≡ true) (flat_map (λ t. race_if (test t) t) ts) (λ r i.
          let p = stays-at test ts r i in ap₂ bit-before (race-bit t) p.3 ∙ of-each (λ (u : Toss). bit-before t.flop u.flop ≡ true) ts p.0 h.0 p.1),
      k,
    )
    go false k = k

module _ (ts : List Toss) (c : Crossing) (h : Rises toss-before ts) where
  abbrev first-races : List Race
  first-races = races_before c.to ts

  abbrev last-races : List Race
  last-races = races_behind c.to ts

  before-own : (r : Race) → Contains first-races r → bit-before r.bit c.to ≡ true
  before-own r i =
      let p = stays-at (λ t. is_before t.flop c.to && not (bit_eq t.source c.to)) ts r i in
      ap (λ (x : Bit). bit-before x c.to) p.3 ∙ before-is p.0.flop c.to ∙ (and_parts (is_before p.0.flop c.to) _ p.2).0

  behind-own : (r : Race) → Contains last-races r → bit-before c.to r.bit ≡ true
  behind-own r i =
      let p = stays-at (λ t. is_before c.to t.flop && not (bit_eq t.source c.to)) ts r i in
      ap (λ (x : Bit). bit-before c.to x) p.3 ∙ before-is c.to p.0.flop ∙ (and_parts (is_before c.to p.0.flop) _ p.2).0

  across : (r q : Race) → Contains (first-races ++ own_race c ∷ []) r → Contains last-races q → race-before r q ≡ true
  across r q i j = elim (Contains-append_cases first-races (own_race c ∷ []) r i) [
    | inl k ↦ less-through bit-before bits-rank r.bit c.to q.bit (before-own r k) (behind-own q j)
    | inr k ↦ elim (parts (own_race c) [] r k) [
      | inl e ↦ subst (λ (x : Race). race-before x q ≡ true) e (behind-own q j)
      | inr l ↦ absurd (nothing_in r l)
    ]
  ]

  captured-rise : Rises race-before (captured_races ts c)
  captured-rise = rises-both race-before (first-races ++ own_race c ∷ []) last-races
      (rises-both race-before first-races (own_race c ∷ []) (kept-rise (λ t. is_before t.flop c.to && not (bit_eq t.source c.to)) ts h) (tt, tt)
      (each-of (λ (r : Race). AllByRecursion (λ (q : Race). race-before r q ≡ true) (own_race c ∷ [])) first-races (λ r i. (before-own r i, tt))))
      (kept-rise (λ t. is_before c.to t.flop && not (bit_eq t.source c.to)) ts h)
      (each-of (λ (r : Race). AllByRecursion (λ (q : Race). race-before r q ≡ true) last-races) (first-races ++ own_race c ∷ []) (λ r i.
      each-of (λ (q : Race). race-before r q ≡ true) last-races (λ q j. across r q i j)))

-- ---- steps without a fault

-- only register bits are unsettled
pub rest-stepped : (d : Design) (s : State) (k : RecordStep) (b : Bit) → d.is_register b ≡ false → (stepped d s k).left b ≡ 0
rest-stepped d s k b h = ap (λ t. cond t (cond (ticks d (has_edge k.edges) b) (next_left d s k b) (s.left b)) 0) h

or-none : (a b : Option StepFault) → or_else a b ≡ None → (a ≡ None) × (b ≡ None)
or-none None b e = (refl, e)
or-none (Some f) b e = cc

none-each : {A : Type 0} (f : A → Option StepFault) (xs : List A) → first_fault f xs ≡ None → AllByRecursion (λ x. f x ≡ None) xs
none-each f [] e = tt
none-each f (x ∷ xs) e = let p = or-none (f x) (first_fault f xs) e in (p.0, none-each f xs p.1)

test-holds : (v : Bool) (f : StepFault) → unless v f ≡ None → v ≡ true
test-holds true f e = refl
test-holds false f e = cc

races-pass : (d : Design) (s : State) (k : RecordStep) → step_fault d s k ≡ None → AllByRecursion (λ (r : Race). race_fault d s (stepped d s k).values r ≡ None) k.races
races-pass d s k e =
    let edge = unless (any_edge k.edges) NoEdge in
    let inputs = first_fault (input_fault d k) k.inputs in
    let tick = first_fault (tick_fault d k) k.races in
    let races = first_fault (race_fault d s (stepped d s k).values) k.races in
    let others = first_fault (other_fault d s (stepped d s k).values) k.races in
    let p = or-none edge (or_else inputs (or_else tick (or_else races others))) e in
    let q = or-none inputs (or_else tick (or_else races others)) p.1 in
    let r = or-none tick (or_else races others) q.1 in
    none-each (race_fault d s (stepped d s k).values) k.races (or-none races others r.1).0

async-clocked : (d : Design) (b x : Bit) → are_async d b x ≡ true → (k : ℕ) × (d.clock b ≡ Some k)
async-clocked d b x h = go (d.clock b) refl h
  where
    go : (o : Option ℕ) → d.clock b ≡ o → differ (option_map d.group_of o) (group d x) ≡ true → (k : ℕ) × (d.clock b ≡ Some k)
    go None e f = cc
    go (Some k) e f = (k, e)

or-middle : (x y : Bool) → ((x || true) || y) ≡ true
or-middle true y = refl
or-middle false y = refl

module _ (net : Net) (domains : Domains) (can : CanRun net domains) where
  abbrev signals : List Signal
  signals = net.graph.signals

  abbrev d : Design
  d = design_of net domains

  -- ---- bits that hold state

  register-state : (b : Bit) → is_register_bit net b ≡ true → IsStateBit net domains b
  register-state b h = record {
    within = (and_parts (is_some (next_cell net.regs b.sig)) (is_within net b) h).1;
    state = ap (λ v. (v || is_clocked_input net domains b.sig) || is_static domains b.sig) (register-kind net can.opens.cells b h);
  }

  -- a signal with a clock is a register or a clocked input
  clocked-signal : (b : Bit) (k : ℕ) (s : Signal) → slice_get signals b.sig ≡ Some s → clock_of domains b ≡ Some k → is_state_signal net domains b.sig ≡ true
  clocked-signal b k s e f = kinds s.kind refl (can.opens.fit.signals b.sig s e)
    where
      kind-is : (test : SigKind → Bool) → has_kind net test b.sig ≡ test s.kind
      kind-is test = ap (λ (o : Option Signal). option_map_or (λ (p : Signal). test p.kind) o false) e

      kinds : (q : SigKind) → s.kind ≡ q → IsClockedAs domains b.sig q → is_state_signal net domains b.sig ≡ true
      kinds Register is c = ap (λ v. (v || is_clocked_input net domains b.sig) || is_static domains b.sig) (kind-is is_register ∙ ap is_register is)
      kinds Input is c =
          ap (λ v. (has_kind net is_register b.sig || v) || is_static domains b.sig) (ap₂ (λ u v. u && v) (kind-is is_input ∙ ap is_input is) (ap is_some f))
          ∙ or-middle (has_kind net is_register b.sig) (is_static domains b.sig)
      kinds Wire is c = absurd (none (sym (ap (λ (o : Option (Option ℕ)). unwrap_or o None) c) ∙ f))
        where
          none : None ≡ Some k → ⊥
          none g = cc

  clocked-state : (b : Bit) (k : ℕ) → clock_of_bit net domains b ≡ Some k → IsStateBit net domains b
  clocked-state b k h = go (is_within net b) refl h
    where
      there : (o : Option Signal) → slice_get signals b.sig ≡ o → is_within net b ≡ true → clock_of domains b ≡ Some k → is_state_signal net domains b.sig ≡ true
      there None e w f = absurd (let l = ltb-true b.at 0 (sym (ap (λ (o : Option Signal). nat_lt b.at (option_map_or (λ (s : Signal). s.width) o 0)) e) ∙ w) in omega (arith, l))
      there (Some s) e w f = clocked-signal b k s e f

      go : (v : Bool) → is_within net b ≡ v → cond v (clock_of domains b) None ≡ Some k → IsStateBit net domains b
      go true e f = record { within = e; state = there (slice_get signals b.sig) refl e f }
      go false e f = cc

  module _ (s : State) (rest : (b : Bit) → is_register_bit net b ≡ false → s.left b ≡ 0) where
    loose-state : (t : Reading) (x b : Bit) → is_loose d s t x b ≡ true → IsStateBit net domains b
    loose-state t x b h = elim (or_cases (are_async d b x && not (beq (s.values b) (t b))) (nat_lt 0 (s.left b) && not (is_settling_for d s x b)) h) [
      | inl f ↦ (let c = async-clocked d b x (and_parts (are_async d b x) _ f).0 in clocked-state b c.0 c.1)
      | inr f ↦ unsettled (is_register_bit net b) refl (and_parts (nat_lt 0 (s.left b)) _ f).0
    ]
      where
        unsettled : (v : Bool) → is_register_bit net b ≡ v → nat_lt 0 (s.left b) ≡ true → IsStateBit net domains b
        unsettled true e g = register-state b e
        unsettled false e g = absurd (let l = ltb-true 0 (s.left b) g in let z = rest b e in omega (arith, l, z))

    bits-state : (t : Reading) (x : Bit) (bs : List Bit) → loose_fault d s t x bs ≡ None → AllByRecursion (IsStateBit net domains) bs
    bits-state t x bs e = each-weaker (λ b. unless (is_loose d s t x b) (NotLoose x b) ≡ None) (IsStateBit net domains)
        (λ b f. loose-state t x b (test-holds (is_loose d s t x b) (NotLoose x b) f)) bs (none-each (λ b. unless (is_loose d s t x b) (NotLoose x b)) bs e)

    race-state : (t : Reading) (r : Race) → (is_register_bit net r.bit ≡ true) × (race_fault d s t r ≡ None) → IsStateRace net domains r
    race-state t r h =
        let p = or-none (loose_fault d s t r.bit r.flip) (on_list r.other (λ bs. loose_fault d s t r.bit bs)) h.1 in
        record {
          register = h.0;
          flips = bits-state t r.bit r.flip p.0;
          others = λ bs e. bits-state t r.bit bs (sym (ap (λ o. on_list o (λ bs. loose_fault d s t r.bit bs)) e) ∙ p.1);
        }

  -- ---- inputs by name

  module _ (found : AreFound net domains) where
    abbrev named-before : ℕ → ℕ → Bool
    named-before a b = is_lt (slice_cmp nat_cmp (name_of signals a) (name_of signals b))

    names-rank : IsStrictWeakOrder named-before
    names-rank = ranks_by nat_list_cmp_total (name_of signals)

    same-text : (t u : List ℕ) → bytes_eq t u ≡ true → t ≡ u
    same-text t u e = search (rules, bytes_eq-Decides)

    one-signal : (a b : ℕ) → a < length signals → b < length signals → name_of signals a ≡ name_of signals b → a ≡ b
    one-signal a b l m e = one (sym (found.signals a l).1 ∙ ap (first_signal signals) e ∙ (found.signals b m).1)
      where
        one : Some a ≡ Some b → a ≡ b
        one f = cc

    untied : (a b : ℕ) → a < length signals → b < length signals → a ≢ b → ties named-before a b ≡ false
    untied a b l m ne = go (slice_cmp nat_cmp (name_of signals a) (name_of signals b)) refl
      where
        go : (o : Ordering) → slice_cmp nat_cmp (name_of signals a) (name_of signals b) ≡ o → ties named-before a b ≡ false
        go Less e = ap (λ o. not (is_lt o) && not (named-before b a)) e
        go Equal e = absurd (ne (one-signal a b l m (same-text (name_of signals a) (name_of signals b) (sym (is_eq-slice_cmp (name_of signals a) (name_of signals b)) ∙ ap is_eq e))))
        go Greater e = ap₂ (λ o p. not (is_lt o) && not (is_lt p)) e (nat_list_cmp_total.antisymm (name_of signals b) (name_of signals a) ∙ ap ordering_reverse e)

    untied-all : (a : ℕ) → a < length signals → (bs : List ℕ) → AllByRecursion (λ (b : ℕ). b < length signals) bs → AllByRecursion (λ (b : ℕ). a ≢ b) bs → AllByRecursion (λ b. ties named-before a b ≡ false) bs
    untied-all a l [] h k = tt
    untied-all a l (b ∷ bs) h k = (untied a b l h.0 k.0, untied-all a l bs h.1 k.1)

    distinct : (ss : List ℕ) → AllByRecursion (λ (s : ℕ). s < length signals) ss → AreApart (λ (s : ℕ). s) ss → IsDistinct (ties named-before) ss
    unfolding IsDistinct
    distinct [] h k = tt
    distinct (s ∷ ss) h k = (untied-all s h.0 ss h.1 k.0, distinct ss h.1 k.1)

    module _ (named : List ℕ) (are_named : AreNamed net domains named) where
      named-within : AllByRecursion (λ (s : ℕ). s < length signals) named
      named-within = each-of (λ (s : ℕ). s < length signals) named (λ s i.
          let p = number-passes (is_clocked_input net domains) 0 (length signals) s (Contains-permutation named (inputs_of net domains) s (IsPermutation-sym (inputs_of net domains) named are_named.same) i) in
          omega (arith, p.1))

      named-rise : Rises named-before named
      named-rise = rises-sorted named-before names-rank named named (IsPermutation-refl named)
          (distinct named named-within (named-apart 0 (inputs_of net domains) named (numbers-rise (is_clocked_input net domains) 0 (length signals)) are_named.same)) are_named.sorted

      inputs-rise : (edges rng : List ℕ) → Rises (input-before net) (values_in net domains named edges rng)
      inputs-rise edges rng = rises-map (input-before net) (given_for signals rng (inputs_in net domains edges)) (filter (input_ticks net domains edges) named)
          (rises-filter named-before (input_ticks net domains edges) named named-rise)

      -- ---- the steps

      module _ (some : length domains.clocks ≢ 0) (number : ℕ) (s : State) (rng : List ℕ) (rest : (b : Bit) → is_register_bit net b ≡ false → s.left b ≡ 0) where
        abbrev edges : List ℕ
        edges = edges_of domains number rng

        abbrev rng1 : List ℕ
        rng1 = behind_edges number rng

        abbrev inputs : List Given
        inputs = values_in net domains named edges rng1

        abbrev rng2 : List ℕ
        rng2 = behind_all (length (inputs_in net domains edges)) rng1

        abbrev torn : List Crossing
        torn = torn_in net domains edges inputs s

        abbrev tosses : List Toss
        tosses = with_words toss rng2 torn

        abbrev races : List Race
        races = map race_of_toss tosses

        -- a step with races of register bits in their order, which has no fault
        step-written : (rs : List Race) → Rises race-before rs → AllByRecursion (λ (r : Race). is_register_bit net r.bit ≡ true) rs → step_fault d s (step_with edges inputs rs) ≡ None
            → IsWritten net domains (step_with edges inputs rs)
        step-written rs rise registers passes = record {
          named = record {
            edges = edges-few domains number rng some;
            inputs = recursion_from_All (IsInput net domains) inputs (inputs-fit net domains can.is can.has can.opens.cells can.opens.fit named are_named edges rng1);
            races = each-weaker (λ (r : Race). (is_register_bit net r.bit ≡ true) × (race_fault d s (stepped d s (step_with edges inputs rs)).values r ≡ None)) (IsStateRace net domains)
                (race-state s rest (stepped d s (step_with edges inputs rs)).values) rs
                (each-both (λ (r : Race). is_register_bit net r.bit ≡ true) (λ (r : Race). race_fault d s (stepped d s (step_with edges inputs rs)).values r ≡ None) rs
                registers (races-pass d s (step_with edges inputs rs) passes));
          };
          edges = edges-again domains number rng some;
          inputs = inputs-rise edges rng1;
          races = rise;
        }

        torn-register : (c : Crossing) → Contains torn c → is_register_bit net c.to ≡ true
        torn-register c i =
            (flop-is net domains can.is can.has can.opens.cells c (from_filter (is_torn d edges s (stepped d s (step_with edges inputs [])).values) (flops_of net domains) c i).0).0.register

        torn-rise : Rises copy-before torn
        torn-rise = rises-filter copy-before (is_torn d edges s (stepped d s (step_with edges inputs [])).values) (flops_of net domains)
            (copies-rise d (filter (settles net domains) (bits_of_registers signals net.regs))
            (filtered_ascend by_bit (settles net domains) (bits_of_registers signals net.regs) (registers_ascend signals net.regs can.opens.cells.ascending)))

        pub drawn-written : IsWritten net domains (step_of (draw net domains named number s rng))
        unfolding draw
        drawn-written = step-written races (races-rise tosses (tosses-rise torn rng2 torn-rise))
            (each-of (λ (r : Race). is_register_bit net r.bit ≡ true) races (λ r i.
            let p = race-from torn rng2 r i in
            ap (is_register_bit net) (sym (ap (λ (q : Race). q.bit) p.3) ∙ race-bit (toss p.0 p.1)) ∙ torn-register p.1 p.2))
            (drawn-passes net domains can some named are_named number s rng)

        pub end-written : (c : Crossing) → Contains (pairs_of net domains) c
            → captures d (draw net domains named number s rng).edges s (stepped d s (step_of (draw net domains named number s rng))).values c ≡ true
            → IsWritten net domains (captured_step (draw net domains named number s rng) c)
        unfolding draw
        end-written c pair shows = step-written (captured_races tosses c) (captured-rise tosses c (tosses-rise torn rng2 torn-rise))
            (each-of (λ (r : Race). is_register_bit net r.bit ≡ true) (captured_races tosses c) (λ r i. elim (captured-from tosses c r i) [
              | inl f ↦ subst (λ (q : Race). is_register_bit net q.bit ≡ true) f (end-pair net domains can some named are_named number s rng c pair shows).0.to
              | inr f ↦ (
                  let p = toss-from torn rng2 f.0 f.1 in
                  ap (is_register_bit net) (sym (ap (λ (q : Race). q.bit) f.3) ∙ race-bit f.0 ∙ sym (ap (λ (u : Toss). u.flop) p.3)) ∙ torn-register p.1 p.2
                  )
            ]))
            (end-passes net domains can some named are_named number s rng c pair shows)
