-- A step leads to the model's next state.
use Rattle.std.proofs.Common.{◌≡◌, ◌≢◌, ◌∙◌, ℕ, zero, suc, ◌<◌, ◌≤◌, ◌^◌, ◌==◌, Bool, true, false, cond, not, ◌&&◌, ◌||◌, nat_lt, List, [], ◌∷◌, length, map, set, get_or, replicate, Contains, Option, Some, None, ◌⊎◌, inl, inr, refl, sym, ap, subst, arith, eqb-true, ltb-true, ltb-false, lt-ltb}
use Rattle.std.specs.Prelude.{is_some, unwrap_or, slice_get, All, AllPairs}
use Rattle.std.specs.Option.{option_map_or}
use Rattle.std.specs.List.{AllByRecursion, find}
use Rattle.std.proofs.lemmas.Bool.{and_parts, both_ways, eqb-false}
use Rattle.std.proofs.lemmas.List.Elements.{All-head, All-tail}
use Rattle.std.proofs.lemmas.Option.{slice_get_within, slice_get-get_or, get_or_from_slice_get}
use Rattle.cdc_base.specs.declared.bit.Bit.{Bit}
use Rattle.cdc_base.specs.declared.signal.Signal.{Signal}
use Rattle.cdc_base.specs.declared.signal.SigKind.{SigKind}
use Rattle.cdc_base.specs.declared.signal.SigKind.TheVariants.{Input, Register, Wire}
use Rattle.cell_graph.specs.declared.cell.CellId.{CellId}
use Rattle.cell_graph.specs.declared.net.Net.{Net}
use Rattle.cell_graph.specs.declared.net.Reg.{Reg}
use Rattle.cell_graph.specs.Reading.{bit_eq}
use Rattle.cell_graph.specs.Tree.{bit, bit_at}
use Rattle.cell_graph.specs.Values.{AreWordsOf, word_at, reading_of, values_of}
use Rattle.cell_graph.proofs.Bits.{bit_eq-true}
use Rattle.cell_graph.proofs.CellValues.{none-past}
use Rattle.cell_graph.proofs.Words.{bit-above, bit-zero}
use Rattle.domains.specs.declared.Domains.{Domains}
use Rattle.domains.specs.Assignment.{clock_of}
use Rattle.domains.specs.Fit.{Fit}
use Rattle.domains.specs.Nets.{is_register}
use Rattle.cdc_model.specs.declared.record.Given.{Given}
use Rattle.cdc_model.specs.declared.record.Race.{Race}
use Rattle.cdc_model.specs.declared.record.RecordStep.{RecordStep}
use Rattle.cdc_model.specs.Design.{flipped}
use Rattle.cdc_model.specs.Nets.{AreAscending, next_cell, next_tree, is_within, is_register_bit, bit_count, clock_of_bit, design_of}
use Rattle.cdc_model.specs.Replay.{has_bit, has_edge, given_to, race_of, flips_of, next_value, stepped, StepFault, first_fault, input_fault, tick_fault}
use Rattle.cdc_model.specs.Runs.{State, is_in, ticks}
use Rattle.cdc_model.proofs.Replay.{none_first, passed}
use Rattle.settling_sim.specs.declared.cycles.Cycles.{Cycles}
use Rattle.settling_sim.specs.Edges.{mark_in, is_marked}
use Rattle.settling_sim.specs.Reader.{next_with}
use Rattle.settling_sim.specs.Runs.{HasCells, IsInput, IsRace, IsStepOf, state_of}
use Rattle.settling_sim.specs.State.{has_kind, is_input, is_clocked_input}
use Rattle.settling_sim.specs.Trial.{register_ticks, take_next, take_given, tried_words}
use Rattle.settling_sim.proofs.Ticks.{tick-is}
use Rattle.settling_sim.proofs.Trials.{next-word, next-length, given-reading, given-length, race-reading, absent, taken, raced, HasSignal}
use Rattle.settling_sim.proofs.Values.{HasPlace, place-of, next-plain, found-register}

-- bits outside their signals are 0
pub outside : (net : Net) (words : List ℕ) (b : Bit) → AreWordsOf net.graph.signals words → is_within net b ≡ false → reading_of words b ≡ false
outside net words b are h = go (slice_get net.graph.signals b.sig) refl
  where
    no-word : (ws : List ℕ) (i : ℕ) → length ws ≤ i → word_at ws i ≡ 0
    no-word [] i l = refl
    no-word (w ∷ ws) zero l = absurd (omega arith)
    no-word (w ∷ ws) (suc i) l = no-word ws i (omega arith)

    go : (o : Option Signal) → slice_get net.graph.signals b.sig ≡ o → reading_of words b ≡ false
    go None e = ap (λ n. bit_at n b.at) (no-word words b.sig (let past = none-past net.graph.signals b.sig e in omega (arith, past, are.counted))) ∙ bit-zero b.at
    go (Some s) e = bit-above (word_at words b.sig) s.width b.at (are.fit b.sig s e)
        (ltb-false b.at s.width (subst (λ (o : Option Signal). nat_lt b.at (option_map_or (λ (s : Signal). s.width) o 0) ≡ false) e h))

kinds-apart : (kind : SigKind) → is_input kind ≡ true → is_register kind ≡ true → ⊥
kinds-apart Input h k = cc
kinds-apart Register h k = cc
kinds-apart Wire h k = cc

signals-apart : (net : Net) (sig : ℕ) → has_kind net is_input sig ≡ true → has_kind net is_register sig ≡ true → ⊥
signals-apart net sig = go (slice_get net.graph.signals sig)
  where
    go : (o : Option Signal) → option_map_or (λ (s : Signal). is_input s.kind) o false ≡ true → option_map_or (λ (s : Signal). is_register s.kind) o false ≡ true → ⊥
    go None h k = cc
    go (Some s) h k = kinds-apart s.kind h k

-- what holds of each holds at a place
pub at-place : {A : Type 0} (P : A → Type 0) (xs : List A) (i : ℕ) (x : A) → slice_get xs i ≡ Some x → All P xs → P x
at-place P xs i x e all = subst P (get_or_from_slice_get xs i x x e) (all i x (slice_get_within xs i x e))

pub each-at : {A : Type 0} (f : A → Option StepFault) (xs : List A) (i : ℕ) (x : A) → slice_get xs i ≡ Some x → first_fault f xs ≡ None → f x ≡ None
each-at {A = A} f xs i x e none = get xs i e (none_first f xs none)
  where
    get : (ys : List A) (j : ℕ) → slice_get ys j ≡ Some x → AllByRecursion (λ y. f y ≡ None) ys → f x ≡ None
    get [] j e all = cc
    get (y ∷ ys) zero e all = let same : y ≡ x = cc in ap f (sym same) ∙ all.0
    get (y ∷ ys) (suc j) e all = get ys j e all.1

module _ (net : Net) (domains : Domains) (words : List ℕ) (cycles : List Cycles) (k : RecordStep) (runs : HasCells net) (fit : Fit net domains)
    (are : AreWordsOf net.graph.signals words) (fits : IsStepOf net domains k)
    (inputs_tick : first_fault (input_fault (design_of net domains) k) k.inputs ≡ None) (races_tick : first_fault (tick_fault (design_of net domains) k) k.races ≡ None) where
  abbrev ticking : List Bool
  ticking = mark_in (replicate (length domains.clocks) false) k.edges

  abbrev ticks-in : Bit → Bool
  ticks-in b = ticks (design_of net domains) (has_edge k.edges) b

  -- an input isn't a register
  no-register : (g : Given) (b : Bit) → IsInput net domains g → is_some (next_cell net.regs b.sig) ≡ true → b.sig ≢ g.sig
  no-register g b input h e =
      let r = found-register net.regs b.sig h in
      let kind : has_kind net is_register b.sig ≡ true = subst (λ (s : ℕ). has_kind net is_register s ≡ true) r.2 (runs.kinds r.0 r.1) in
      signals-apart net g.sig (and_parts (has_kind net is_input g.sig) _ input.clocked).0 (subst (λ (s : ℕ). has_kind net is_register s ≡ true) e kind)

  untaken : (b : Bit) (v : Bool) → is_some (next_cell net.regs b.sig) ≡ true → given_to k.inputs b v ≡ v
  untaken b v h = absent k.inputs b v (λ i d l. no-register (get_or k.inputs i d) b (fits.inputs i d l) h)

  pub places : (n : ℕ) → n ≡ length net.graph.signals → All (λ (r : Race). HasPlace n r.bit) k.races
  places n e i d l = subst (λ (m : ℕ). HasPlace m (get_or k.races i d).bit) (are.counted ∙ sym e) (place-of net words (get_or k.races i d).bit runs are.counted (and_parts _ _ (fits.races i d l).bit).1)

  pub race-found : (rs : List Race) (b : Bit) (r : Race) → race_of rs b ≡ Some r → (i : ℕ) × (i < length rs) × (slice_get rs i ≡ Some r) × (r.bit ≡ b)
  race-found [] b r e = cc
  race-found (q ∷ rs) b r e = go (bit_eq q.bit b) refl e (race-found rs b r)
    where
      go : (t : Bool) → bit_eq q.bit b ≡ t → cond t (Some q) (race_of rs b) ≡ Some r
          → (race_of rs b ≡ Some r → (i : ℕ) × (i < length rs) × (slice_get rs i ≡ Some r) × (r.bit ≡ b))
          → (i : ℕ) × (i < length (q ∷ rs)) × (slice_get (q ∷ rs) i ≡ Some r) × (r.bit ≡ b)
      go true f e ih =
          let same : q ≡ r = cc in
          (zero, omega arith, ap Some same, ap (λ (r : Race). r.bit) (sym same) ∙ bit_eq-true q.bit b f)
      go false f e ih = let p = ih e in (suc p.0, (let l = p.1 in omega arith), p.2, p.3)

  -- a racing bit ticks, and is a register's
  pub race-ticks : (b : Bit) (r : Race) → race_of k.races b ≡ Some r → ticks-in b ≡ true
  race-ticks b r e =
      let p = race-found k.races b r e in
      subst (λ (x : Bit). ticks-in x ≡ true) p.3 (passed (ticks-in r.bit) _ (each-at (tick_fault (design_of net domains) k) k.races p.0 r p.2 races_tick))

  pub race-register : (b : Bit) (r : Race) → race_of k.races b ≡ Some r → is_register_bit net b ≡ true
  race-register b r e =
      let p = race-found k.races b r e in
      subst (λ (x : Bit). is_register_bit net x ≡ true) p.3 (at-place (λ (r : Race). IsRace net r) k.races p.0 r p.2 fits.races).bit

  -- a given input ticks
  given-ticks : (g : Given) (i : ℕ) → slice_get k.inputs i ≡ Some g → ticks-in (record { sig = g.sig; at = 0 }) ≡ true
  given-ticks g i e = passed (ticks-in (record { sig = g.sig; at = 0 })) _ (each-at (input_fault (design_of net domains) k) k.inputs i g e inputs_tick)

  -- bits of one signal tick together
  ticks-first : (b : Bit) → is_within net b ≡ true → ticks-in (record { sig = b.sig; at = 0 }) ≡ ticks-in b
  ticks-first b h =
      let l = ltb-true b.at (bit_count net.graph.signals b.sig) h in
      let first : is_within net (record { sig = b.sig; at = 0 }) ≡ true = lt-ltb 0 (bit_count net.graph.signals b.sig) (omega arith) in
      ap (λ t. is_in (cond t (clock_of domains b) None) (has_edge k.edges)) (first ∙ sym h)

  unticked : (b : Bit) (v : Bool) → is_within net b ≡ true → ticks-in b ≡ false → given_to k.inputs b v ≡ v
  unticked b v h still = absent k.inputs b v (λ i d l e.
      both_ways (ticks-in b) still (sym (ticks-first b h) ∙ ap (λ (s : ℕ). ticks-in (record { sig = s; at = 0 })) e ∙ given-ticks (get_or k.inputs i d) i (slice_get-get_or k.inputs i d l)))

  -- what the words after the step give, before races
  before-races : (b : Bit) → is_within net b ≡ true
      → reading_of (take_given k.inputs (take_next domains ticking (values_of net.graph words) net.regs words)) b
      ≡ given_to k.inputs b (bit_at (taken domains ticking (values_of net.graph words) b.sig (word_at words b.sig) (next_cell net.regs b.sig)) b.at)
  before-races b h =
      given-reading k.inputs (take_next domains ticking (values_of net.graph words) net.regs words) b
      (λ i d l. let g = fits.inputs i d l in input-there (get_or k.inputs i d) g)
      fits.once
      ∙ ap (λ n. given_to k.inputs b (bit_at n b.at)) (next-word domains ticking (values_of net.graph words) net.regs words b.sig runs.ascending (place-of net words b runs are.counted h).0)
    where
      input-there : (g : Given) → IsInput net domains g → g.sig < length (take_next domains ticking (values_of net.graph words) net.regs words)
      input-there g input = go (slice_get net.graph.signals g.sig) refl (and_parts (has_kind net is_input g.sig) _ input.clocked).0
        where
          go : (o : Option Signal) → slice_get net.graph.signals g.sig ≡ o → option_map_or (λ (s : Signal). is_input s.kind) (slice_get net.graph.signals g.sig) false ≡ true
              → g.sig < length (take_next domains ticking (values_of net.graph words) net.regs words)
          go None e h = let none : option_map_or (λ (s : Signal). is_input s.kind) None false ≡ true = subst (λ (q : Option Signal). option_map_or (λ (s : Signal). is_input s.kind) q false ≡ true) e h in cc
          go (Some s) e h =
              let there = slice_get_within net.graph.signals g.sig s e in
              let n = next-length domains ticking (values_of net.graph words) net.regs words in
              omega (arith, there, n, are.counted)

  abbrev before : State
  before = state_of words cycles

  pub register-value : (b : Bit) (q : Option Race) → is_register_bit net b ≡ true → race_of k.races b ≡ q
      → next_value (design_of net domains) before k b ≡ bit (flipped (flips_of q) (reading_of words)) (next_tree net b.sig) b.at
  register-value b q h e =
      ap (λ t. cond t (bit (flipped (flips_of (race_of k.races b)) (reading_of words)) (next_tree net b.sig) b.at)
      (cond (is_some (clock_of_bit net domains b) && not t) (given_to k.inputs b (reading_of words b)) (reading_of words b))) h
      ∙ ap (λ q. bit (flipped (flips_of q) (reading_of words)) (next_tree net b.sig) b.at) e

  other-value : (b : Bit) → is_within net b ≡ true → is_register_bit net b ≡ false → ticks-in b ≡ true
      → next_value (design_of net domains) before k b ≡ given_to k.inputs b (reading_of words b)
  other-value b h other ticking_now =
      ap (λ t. cond t (bit (flipped (flips_of (race_of k.races b)) (reading_of words)) (next_tree net b.sig) b.at)
      (cond (is_some (clock_of_bit net domains b) && not t) (given_to k.inputs b (reading_of words b)) (reading_of words b))) other
      ∙ go (clock_of_bit net domains b) ticking_now
    where
      go : (o : Option ℕ) → is_in o (has_edge k.edges) ≡ true → cond (is_some o && true) (given_to k.inputs b (reading_of words b)) (reading_of words b) ≡ given_to k.inputs b (reading_of words b)
      go None e = cc
      go (Some c) e = refl

  registered : (b : Bit) (c : CellId) → is_within net b ≡ true → next_cell net.regs b.sig ≡ Some c → is_register_bit net b ≡ true
  registered b c h e = ap (λ o. is_some o && is_within net b) e ∙ h

  unregistered : (b : Bit) → next_cell net.regs b.sig ≡ None → is_register_bit net b ≡ false
  unregistered b e = ap (λ o. is_some o && is_within net b) e

  pub marked-is : (b : Bit) → is_within net b ≡ true → register_ticks domains ticking b.sig ≡ ticks-in b
  marked-is b h = tick-is net domains fit k.edges b h

  by-cases : (b : Bit) → is_within net b ≡ true → (o : Option CellId) → next_cell net.regs b.sig ≡ o → (q : Option Race) → race_of k.races b ≡ q → (t : Bool) → ticks-in b ≡ t
      → raced (next_with net words) b (given_to k.inputs b (bit_at (taken domains ticking (values_of net.graph words) b.sig (word_at words b.sig) o) b.at)) q
      ≡ cond t (next_value (design_of net domains) before k b) (reading_of words b)
  by-cases b h (Some c) e None f true g =
      untaken b _ (ap is_some e)
      ∙ ap (λ t. bit_at (cond t (word_at (values_of net.graph words) c.0) (word_at words b.sig)) b.at) (marked-is b h ∙ g)
      ∙ ap (λ o. option_map_or (λ (c : CellId). bit_at (word_at (values_of net.graph words) c.0) b.at) o false) (sym e)
      ∙ next-plain net words b runs (registered b c h e)
      ∙ sym (register-value b None (registered b c h e) f)
  by-cases b h (Some c) e None f false g =
      untaken b _ (ap is_some e)
      ∙ ap (λ t. bit_at (cond t (word_at (values_of net.graph words) c.0) (word_at words b.sig)) b.at) (marked-is b h ∙ g)
  by-cases b h (Some c) e (Some r) f true g = sym (register-value b (Some r) (registered b c h e) f)
  by-cases b h (Some c) e (Some r) f false g = absurd (both_ways (ticks-in b) g (race-ticks b r f))
  by-cases b h None e (Some r) f t g = absurd (both_ways (is_register_bit net b) (unregistered b e) (race-register b r f))
  by-cases b h None e None f true g = sym (other-value b h (unregistered b e) g)
  by-cases b h None e None f false g = unticked b (reading_of words b) h g

  -- the words after the step are the model's values
  pub stepped-bit : AreWordsOf net.graph.signals (tried_words net domains ticking words k.inputs k.races) → (b : Bit)
      → reading_of (tried_words net domains ticking words k.inputs k.races) b ≡ (stepped (design_of net domains) before k).values b
  stepped-bit after b = go (is_within net b) refl
    where
      go : (t : Bool) → is_within net b ≡ t → reading_of (tried_words net domains ticking words k.inputs k.races) b ≡ (stepped (design_of net domains) before k).values b
      go false h =
          outside net (tried_words net domains ticking words k.inputs k.races) b after h
          ∙ sym (outside net words b are h)
          ∙ sym (ap (λ t. cond (is_in (cond t (clock_of domains b) None) (has_edge k.edges)) (next_value (design_of net domains) before k b) (reading_of words b)) h)
      go true h =
          race-reading (next_with net words) k.races (take_given k.inputs (take_next domains ticking (values_of net.graph words) net.regs words)) b
          (places _ (given-length k.inputs _ ∙ next-length domains ticking (values_of net.graph words) net.regs words ∙ are.counted)) fits.one_each
          ∙ ap (λ v. raced (next_with net words) b v (race_of k.races b)) (before-races b h)
          ∙ by-cases b h (next_cell net.regs b.sig) refl (race_of k.races b) refl (ticks-in b) refl
